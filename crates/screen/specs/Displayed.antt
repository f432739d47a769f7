-- The text that the display program makes from the engine's answer, and that it is document 01's text, byte for byte.
use Rattle.std.specs.Prelude.{ℕ, ◌≤◌, ◌<◌, ◌≡◌, length}
use Rattle.std.proofs.Common.{arith, ◌∙◌, inl, inr, lt-ltb, le-ltb, ne_eqb}
use Rattle.std.proofs.Math.Path.{refl, ap}
use mathlib.Core.List.{List, []}
use Rattle.meaning.specs.Facts.{Board, longest_board}
use Rattle.meaning.specs.Rules.{Book}
use Rattle.meaning.specs.Firing.{End, Quiet, Limit, Full, Spent, Stuck, Ran, run}
use Rattle.meaning.specs.WellFormed.{GoodBoard}
use Rattle.files.specs.Numbers.{Refusal, CUT, MARK, PLACE, NOCARD, BARE, MANY, FIELD, LOOSE, TRAIL, SHORT, STRIP, refusal_number, end_number, File, file_number, book, board, refusal, end_answer}
use Rattle.files.specs.Judge.{Bytes, Verdict, accepted, refused}
use Rattle.files.specs.Board.{judge_board}
use Rattle.files.specs.Book.{judge_book}
use Rattle.files.specs.InPlace.{kinds_at, board_at}
use Rattle.files.specs.Encode.{encode_board}
use Rattle.files.specs.Entries.{run_book_file}
use Rattle.files.specs.Display.{display, display_limit, ran_lines, refused_line}
use Rattle.book_encoding.specs.Placed.{book_in_place}
use Rattle.encoding.specs.Boards.{board-accepted, board_encoded, board_in_place}
use Rattle.book_encoding.specs.Accepted.{book_accepted}
use Rattle.firings.specs.Keeping.{run_keeps_good}
use Rattle.promises.specs.Promises.{PlaceIs}
use Rattle.kept.specs.DemandOneKept.{demand_one}
use Rattle.answers.specs.Shown.{shown, most_place}
use Rattle.screen.specs.Text.{file_text, answer_text}

-- what the engine answers for the two files, as text
unfoldable pub screen_text : List ℕ → List ℕ → List ℕ
screen_text book_file board_file =
    let outcome = run_book_file book_file board_file display_limit longest_board in
    answer_text (shown outcome.answer) (board_at outcome.written (kinds_at book_file).value)

-- ---- refusals and ends are told apart by their numbers

refusal-numbers : (why : Refusal) → (0 < refusal_number why) × (refusal_number why < 20)
refusal-numbers CUT = (omega arith, omega arith)
refusal-numbers MARK = (omega arith, omega arith)
refusal-numbers PLACE = (omega arith, omega arith)
refusal-numbers NOCARD = (omega arith, omega arith)
refusal-numbers BARE = (omega arith, omega arith)
refusal-numbers MANY = (omega arith, omega arith)
refusal-numbers FIELD = (omega arith, omega arith)
refusal-numbers LOOSE = (omega arith, omega arith)
refusal-numbers TRAIL = (omega arith, omega arith)
refusal-numbers SHORT = (omega arith, omega arith)
refusal-numbers STRIP = (omega arith, omega arith)

end-numbers : (end : End) → 20 ≤ end_number end
end-numbers Quiet = omega arith
end-numbers Limit = omega arith
end-numbers Full = omega arith
end-numbers Spent = omega arith
end-numbers Stuck = omega arith

place_within : (why : Refusal) (place size : ℕ) → PlaceIs why place size → place ≤ size
place_within CUT place size h = omega arith
place_within MARK place size h = omega arith
place_within PLACE place size h = omega arith
place_within NOCARD place size h = omega arith
place_within BARE place size h = omega arith
place_within MANY place size h = omega arith
place_within FIELD place size h = omega arith
place_within LOOSE place size h = omega arith
place_within TRAIL place size h = omega arith
place_within SHORT place size h = absurd h
place_within STRIP place size (inl h) = omega arith
place_within STRIP place size (inr h) = omega arith

-- ---- the text of a refusal, and of an end

refusal_text : (file : File) (why : Refusal) (place : ℕ) (rows : Board) → place < most_place
    → answer_text (shown (refusal file why place)) rows ≡ refused_line (file_text (file_number file)) why place
unfolding answer_text
refusal_text file why place rows h =
    rw (ne_eqb (refusal_number why) 0 (λ e. omega (arith, (refusal-numbers why).0)), lt-ltb (refusal_number why) 20 (refusal-numbers why).1, lt-ltb place most_place h)

end_text_lem : (ran : Ran) (size : ℕ) → answer_text (shown (end_answer ran.end size ran.firings ran.rule)) ran.board ≡ ran_lines ran
unfolding answer_text
end_text_lem ran size =
    rw (ne_eqb (end_number ran.end) 0 (λ e. omega (arith, end-numbers ran.end)), le-ltb (end_number ran.end) 20 (end-numbers ran.end))

-- ---- the text of the two files

module _ (book_file board_file : List ℕ) (book_bytes : Bytes book_file) (board_bytes : Bytes board_file) (book_short : length book_file < most_place)
    (board_short : length board_file < most_place) where
  after_book : (b : Book) → judge_book book_file ≡ accepted b → (v : Verdict Board) → judge_board b.kinds board_file ≡ v
      → screen_text book_file board_file ≡ display book_file board_file
  unfolding screen_text display run_book_file
  after_book b e (refused why place) f =
      let small : place < most_place =
      omega (arith, place_within why place (length board_file) (rw f at (demand_one.places_are_in_the_file.boards b.kinds board_file))) in
      rw (e, f) (refusal_text board why place (board_at [] (kinds_at book_file).value) small)
  after_book b e (accepted rows) f =
      let ran : Ran = run b display_limit rows in
      let good : GoodBoard b.kinds ran.board =
      run_keeps_good b (book_accepted book_file b book_bytes e).0 display_limit rows (board-accepted b.kinds board_file rows board_bytes f).0 in
      let placed : board_at (encode_board ran.board) (kinds_at book_file).value ≡ ran.board =
      ap (board_at (encode_board ran.board)) (book_in_place book_file b book_bytes e).1
      ∙ board_in_place b.kinds (encode_board ran.board) ran.board (board_encoded b.kinds ran.board good) in
      rw (e, f)
      (ap (answer_text (shown (end_answer ran.end (length (encode_board ran.board)) ran.firings ran.rule))) placed
      ∙ end_text_lem ran (length (encode_board ran.board)))

  pub screen_is_display : screen_text book_file board_file ≡ display book_file board_file
  unfolding screen_text display run_book_file
  screen_is_display = by (judge_book book_file) refl
    where
      by : (v : Verdict Book) → judge_book book_file ≡ v → screen_text book_file board_file ≡ display book_file board_file
      by (refused why place) e =
          let small : place < most_place = omega (arith, place_within why place (length book_file) (rw e at (demand_one.places_are_in_the_file.books book_file))) in
          rw e (refusal_text book why place (board_at [] (kinds_at book_file).value) small)
      by (accepted b) e = after_book b e (judge_board b.kinds board_file) refl
