-- Demand 1 is kept: each promise of crates/promises under 'DEMAND 1', from the laws of files (crates/encoding, crates/book_encoding) and of boards
-- that stay good (crates/firings).
use Rattle.std.specs.Prelude.{ℕ, ◌≤◌, ◌≡◌, refl, Bool, true, false, List, length, ltb, if◌then◌else◌}
use Rattle.std.proofs.Common.{arith, sym, subst, lt-ltb, le-ltb}
use Rattle.meaning.specs.Facts.{Kind, Board, longest_board, longest_strip}
use Rattle.meaning.specs.Rules.{Book}
use Rattle.meaning.specs.Firing.{End, Quiet, Limit, Full, Spent, Stuck, Ran, run}
use Rattle.meaning.specs.Words.{Word, strip_kinds, run_strip}
use Rattle.meaning.specs.WellFormed.{GoodBoard}
use Rattle.files.specs.Numbers.{Refusal, SHORT, File, book, strip, board, output, refusal, end_number}
use Rattle.files.specs.Judge.{Verdict, accepted, refused}
use Rattle.files.specs.Board.{judge_board}
use Rattle.files.specs.Book.{judge_book}
use Rattle.files.specs.Strip.{judge_strip}
use Rattle.files.specs.Entries.{Outcome, nothing_written, bytes_after, if_accepted, if_room, run_outcome, run_book_file, translate_file, run_strip_file}
use Rattle.promises.specs.Promises.{IsRefusal, KeepsAll, RefusalsKeepTheOutput, EntriesJudge, GoodKinds, FilesAreEncodings, SizesHold, ReadInPlace, WritesABoard, RunsWriteBoards, DemandOne}
use Rattle.encoding.specs.Boards.{board_exactly, board_unique, board_in_place, board_encoded, board-accepted, board_size}
use Rattle.encoding.specs.Strips.{strip_exactly, strip_unique, strip_in_place, strip_length, strip_accepted}
use Rattle.encoding.specs.Steps.{strip_kinds_good}
use Rattle.book_encoding.specs.Encoded.{book_file_lem, book_unique}
use Rattle.book_encoding.specs.Accepted.{book_accepted}
use Rattle.book_encoding.specs.Placed.{book_in_place}
use Rattle.book_encoding.specs.Sized.{book_size}
use Rattle.firings.specs.Keeping.{run_keeps_good}
use Rattle.kept.specs.Places.{places_are_in_the_file_lem}
use Rattle.kept.specs.StripBoards.{strip_run_keeps_good}

-- ---- a refusal writes nothing and says nothing; no end and no acceptance looks like one

refusal_keeps : (file : File) (why : Refusal) (place : ℕ) (out : List ℕ) → KeepsAll (nothing_written (refusal file why place)) out
unfolding bytes_after
refusal_keeps file why place out = record { bytes = refl; nothing_said = (refl, refl, refl) }

end_is_late : (end : End) → 20 ≤ end_number end
end_is_late Quiet = omega arith
end_is_late Limit = omega arith
end_is_late Full = omega arith
end_is_late Spent = omega arith
end_is_late Stuck = omega arith

-- kept if it is a refusal
abbrev Keeps : List ℕ → Outcome → Type 0
Keeps out outcome = IsRefusal outcome.answer → KeepsAll outcome out

run_keeps : (out : List ℕ) (ran : Ran) → Keeps out (run_outcome ran)
run_keeps out ran h = let bad : ⊥ = omega (arith, end_is_late ran.end, h.1) in absurd bad

room_keeps : (out : List ℕ) (least room : ℕ) (next : Outcome) → Keeps out next → Keeps out (if_room least room next)
room_keeps out least room next k = by (ltb room least)
  where
    by : (t : Bool) → Keeps out (if t then nothing_written (refusal output SHORT 0) else next)
    by true h = refusal_keeps output SHORT 0 out
    by false h = k h

accepted_keeps : {S : Type 0} (out : List ℕ) (file : File) (verdict : Verdict S) (next : S → Outcome) → ((s : S) → Keeps out (next s)) → Keeps out (if_accepted file verdict next)
accepted_keeps out file (accepted s) next k = k s
accepted_keeps out file (refused why place) next k = λ h. refusal_keeps file why place out

-- "the output buffer then keeps all its bytes"
pub refusals_keep_the_output_lem : RefusalsKeepTheOutput
unfolding run_book_file translate_file run_strip_file
refusals_keep_the_output_lem = record {
  run_book = λ book_file board_file limit out.
      accepted_keeps out book (judge_book book_file) _ λ b. accepted_keeps out board (judge_board b.kinds board_file) _ λ rows.
      room_keeps out longest_board (length out) _ (run_keeps out (run b limit rows));
  translation = λ book_file out.
      accepted_keeps out book (judge_book book_file) _ λ b.
      room_keeps out longest_strip (length out) _ (λ h. let bad : ⊥ = omega (arith, h.0) in absurd bad);
  run_strip = λ strip_file board_file limit allowance out.
      accepted_keeps out strip (judge_strip strip_file) _ λ words. accepted_keeps out board (judge_board (strip_kinds words) board_file) _ λ rows.
      room_keeps out longest_board (length out) _ (run_keeps out (run_strip words limit allowance rows));
}

-- ---- each entry judges for itself

-- "Book or strip is judged first, then board, then SHORT"
pub entries_judge_lem : EntriesJudge
unfolding run_book_file run_strip_file
entries_judge_lem = record {
  book_first = λ book_file board_file limit room why place e. rw e;
  strip_first = λ strip_file board_file limit allowance room why place e. rw e;
  run_book = λ book_file board_file limit. record {
    board_next = λ s why place e h room. rw (e, h);
    short_last = λ s rows e h room l. rw (e, h, lt-ltb room longest_board l);
  };
  run_strip = λ strip_file board_file limit allowance. record {
    board_next = λ s why place e h room. rw (e, h);
    short_last = λ s rows e h room l. rw (e, h, lt-ltb room longest_board l);
  };
}

-- ---- files are encodings, of their sizes, and are read in place

pub files_are_encodings_lem : FilesAreEncodings
files_are_encodings_lem = record {
  books = record { exactly = λ file bytes b. book_file_lem file b bytes; unique = book_unique };
  boards = λ kinds good. record { exactly = λ file bytes rows. board_exactly kinds file rows bytes; unique = board_unique kinds };
  strips = record { exactly = λ file bytes words. strip_exactly file words bytes; unique = strip_unique };
}

pub sizes_hold_lem : SizesHold
sizes_hold_lem = record {
  books = book_size;
  boards = λ kinds rows good h. board_size kinds rows good.1 h;
  strips = λ words good. omega (arith, strip_length words, good.size);
}

pub read_in_place_lem : ReadInPlace
read_in_place_lem = record {
  books = λ file bytes b e. (book_in_place file b bytes e).0;
  boards = λ kinds file good bytes rows e. board_in_place kinds file rows e;
  strips = λ file bytes words e. strip_in_place file words e;
}

-- ---- what a run writes

-- with accepted files and room an entry is the run
pub run_book_is : (book_file board_file : List ℕ) (limit room : ℕ) (b : Book) (rows : Board) → judge_book book_file ≡ accepted b
    → judge_board b.kinds board_file ≡ accepted rows → longest_board ≤ room → run_book_file book_file board_file limit room ≡ run_outcome (run b limit rows)
unfolding run_book_file
run_book_is book_file board_file limit room b rows e h l = rw (e, h, le-ltb room longest_board l)

pub run_strip_is : (strip_file board_file : List ℕ) (limit allowance room : ℕ) (words : List Word) (rows : Board) → judge_strip strip_file ≡ accepted words
    → judge_board (strip_kinds words) board_file ≡ accepted rows → longest_board ≤ room
    → run_strip_file strip_file board_file limit allowance room ≡ run_outcome (run_strip words limit allowance rows)
unfolding run_strip_file
run_strip_is strip_file board_file limit allowance room words rows e h l = rw (e, h, le-ltb room longest_board l)

writes : (kinds : List Kind) → GoodKinds kinds → (ran : Ran) → GoodBoard kinds ran.board → (out : List ℕ) → longest_board ≤ length out
    → WritesABoard kinds (run_outcome ran) out
unfolding bytes_after
writes kinds k ran g out l = record {
  after = ran.board;
  goes_back_in = board_encoded kinds ran.board g;
  its_length = refl;
  fits = omega (arith, board_size kinds ran.board k.1 g);
  kept = refl;
}

-- a board that a run writes is accepted again, and the bytes past it are kept
pub runs_write_boards_lem : RunsWriteBoards
runs_write_boards_lem = record {
  run_book = λ book_file board_file out limit b rows bytes bytes' e h l.
      let good = (book_accepted book_file b bytes e).0 in
      let rows_good = (board-accepted b.kinds board_file rows bytes' h).0 in
      subst (λ (o : Outcome). WritesABoard b.kinds o out) (sym (run_book_is book_file board_file limit (length out) b rows e h l))
      (writes b.kinds (good.kinds_size, good.kinds) (run b limit rows) (run_keeps_good b good limit rows rows_good) out l);
  run_strip = λ strip_file board_file out limit allowance words rows bytes bytes' e h l.
      let good = (strip_accepted strip_file words bytes e).0 in
      let rows_good = (board-accepted (strip_kinds words) board_file rows bytes' h).0 in
      subst (λ (o : Outcome). WritesABoard (strip_kinds words) o out) (sym (run_strip_is strip_file board_file limit allowance (length out) words rows e h l))
      (writes (strip_kinds words) (strip_kinds_good words good) (run_strip words limit allowance rows)
      (strip_run_keeps_good words good limit allowance rows rows_good) out l);
}

-- DEMAND 1
pub demand_one : DemandOne
demand_one = record {
  refusals_keep_the_output = refusals_keep_the_output_lem;
  places_are_in_the_file = places_are_in_the_file_lem;
  entries_judge = entries_judge_lem;
  files_are_encodings = files_are_encodings_lem;
  sizes_hold = sizes_hold_lem;
  read_in_place = read_in_place_lem;
  runs_write_boards = runs_write_boards_lem;
}
