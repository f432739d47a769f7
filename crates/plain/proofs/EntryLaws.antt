-- The entry: what is known once the files are judged, the board that is loaded, and what is written. One law for each answer.
use Prim.Native.Nat.{ℕ, ◌≤◌, ◌<◌}
use native.Mathlib.Omega.{arith}
use mathlib.Core.Path.{◌≡◌, refl, sym, ap, ◌∙◌, subst}
use mathlib.Core.List.{List}
use lib.ListN.{length, get_or}
use mir.Syntax.{w8}
use mir.Val.{Fits}
use borrow.Author.Tests.{lt-ltb, le-ltb}
use Rattle.std.specs.Prelude.{Ok, Err}
use Rattle.meaning.specs.Basics.{All}
use Rattle.meaning.specs.WellFormed.{GoodKind}
use Rattle.meaning.specs.Facts.{Kind, Board, longest_board}
use Rattle.meaning.specs.Rules.{Book}
use Rattle.meaning.specs.Firing.{run}
use Rattle.files.specs.Numbers.{SHORT, book, board, output, refusal}
use Rattle.files.specs.Judge.{Bytes, accepted, told}
use Rattle.files.specs.Board.{judge_board}
use Rattle.files.specs.Book.{judge_book}
use Rattle.files.specs.Encode.{encode_book}
use Rattle.files.specs.InPlace.{kinds_at, book_at, board_at}
use Rattle.files.specs.Entries.{bytes_after, Gives, run_outcome, run_book_file}
use Rattle.encoding.specs.Bytes.{bytes_of}
use Rattle.answers.specs.Refused.{refusal_answer, about, told_by}
use Rattle.answers.specs.RefusedLaws.{checked_accepted, gives_refused}
use Rattle.answers.specs.declared.Refusal.{Refusal}
use Rattle.encoding.specs.Boards.{board-accepted, board_in_place}
use Rattle.book_encoding.specs.Accepted.{book_accepted}
use Rattle.book_encoding.specs.Placed.{book_in_place}
use Rattle.book_encoding.specs.Sized.{book_size}
use Rattle.kinds.specs.declared.Kinds.{Kinds}
use Rattle.kinds.specs.Listed.{kinds_of}
use Rattle.rows.specs.declared.Count.{Count}
use Rattle.rows.specs.Loads.{BoardLoaded}
use Rattle.rows.specs.Writes.{written_board, BoardWritten}
use Rattle.book.specs.Kinds.{KindsRead}
use Rattle.runs.specs.declared.Ran as R
use Rattle.runs.specs.declared.Ended.{Ended}
use Rattle.runs.specs.Runs.{board_in, RunEnds, ended_answer}
use Rattle.runs.specs.Entry.{no_kinds, no_numbers, loaded, sized_loaded, cards_loaded, notices_loaded, good_loaded, run-written}
use Rattle.plain.specs.declared.rules.Rules.{Rules}
use Rattle.plain.specs.Stands.{places_from}
use Rattle.plain.specs.Playing.{places_of, Playable}
use Rattle.plain.specs.Entry.{Ready}

-- ---- loading, running, writing

module _ (book_file board_file : List ℕ) (kinds : Kinds) (room : ℕ) (ready : Ready book_file kinds board_file room) where
  pub kinds_declared : kinds_of kinds ≡ (kinds_at book_file).value
  unfolding book_at
  kinds_declared = ready.declared

  abbrev K : List Kind
  K = kinds_of kinds

  good : All GoodKind K
  good = subst (λ (k : List Kind). All GoodKind k) (sym ready.declared) ready.good.kinds

  module _ (kind numbers : List ℕ) (count : Count) (l : BoardLoaded (board_at board_file (kinds_of kinds)) no_kinds no_numbers kind numbers count) where
    pub loaded_playable : (rules : Rules) → places_from rules.at 0 rules.count ≡ places_of book_file → Playable book_file (kinds_of kinds) rules kind numbers count
    loaded_playable rules p = record {
      good = ready.good;
      declared = ready.declared;
      places = p;
      short = ready.short;
      encoded = ready.encoded;
      sized = sized_loaded board_file K good kind numbers count l;
      few_cards = cards_loaded board_file K good kind numbers count l;
      few_notices = notices_loaded board_file K good kind numbers count l;
      board = good_loaded board_file K good kind numbers count l ready.board;
    }

    -- the board that the run ends with is written
    pub played : (limit : ℕ) (kind' numbers' : List ℕ) (ran : R.Ran) (out₀ out₁ : List ℕ) (size : ℕ) → room ≡ length out₀
        → RunEnds (run (book_at book_file) limit (board_in (kinds_of kinds) kind numbers count)) (kinds_of kinds) kind' numbers' ran
        → BoardWritten (written_board (kinds_of kinds) kind' numbers' ran.count (length out₀)) out₀ out₁ size
        → Gives (run_outcome (run (book_at book_file) limit (board_at board_file (kinds_of kinds)))) out₀
        (ended_answer (record { end = ran.end; length = size; firings = ran.firings; rule = ran.rule })) out₁
    played limit kind' numbers' ran out₀ out₁ size e ends w =
        run-written K kind' numbers' ran (run (book_at book_file) limit (board_at board_file K)) out₀ out₁ size (subst (λ (n : ℕ). longest_board ≤ n) e ready.space)
        (subst (λ (b : Board). RunEnds (run (book_at book_file) limit b) K kind' numbers' ran) (loaded board_file K good kind numbers count l) ends) w

-- ---- judging

-- the elements of a slice of bytes
are_bytes : (file : List ℕ) → ((i : ℕ) → Fits w8 (get_or file i 0)) → Bytes file
are_bytes file h = bytes_of file (λ i. omega (arith, h i))

module _ (book_file board_file : List ℕ) (limit : ℕ) (out : List ℕ) where
  pub book_refused : (r : Refusal) → told_by (Err r) ≡ about book (told (judge_book book_file))
      → Gives (run_book_file book_file board_file limit (length out)) out (refusal_answer r) out
  unfolding run_book_file
  book_refused r e = gives_refused book (judge_book book_file) _ out r e

  module _ (bytes : (i : ℕ) → Fits w8 (get_or book_file i 0)) (t₁ : told_by (Ok tt) ≡ about book (told (judge_book book_file))) (kinds : Kinds)
      (k : KindsRead book_file kinds) where
    judged : (b : Book) × (judge_book book_file ≡ accepted b)
    judged = checked_accepted book (judge_book book_file) t₁

    place : (book_at book_file ≡ judged.0) × ((kinds_at book_file).value ≡ judged.0.kinds)
    place = book_in_place book_file judged.0 (are_bytes book_file bytes) judged.1

    kinds_are : judged.0.kinds ≡ kinds_of kinds
    kinds_are = sym (k.listed ∙ place.1)

    pub board-refused : (r : Refusal) → told_by (Err r) ≡ about board (told (judge_board (kinds_of kinds) board_file))
        → Gives (run_book_file book_file board_file limit (length out)) out (refusal_answer r) out
    unfolding run_book_file
    board-refused r e = rw (judged.1, kinds_are) (gives_refused board (judge_board (kinds_of kinds) board_file) _ out r e)

    module _ (t₂ : told_by (Ok tt) ≡ about board (told (judge_board (kinds_of kinds) board_file))) where
      judged₂ : (b : Board) × (judge_board (kinds_of kinds) board_file ≡ accepted b)
      judged₂ = checked_accepted board (judge_board (kinds_of kinds) board_file) t₂

      pub too_short : length out < longest_board → Gives (run_book_file book_file board_file limit (length out)) out (refusal output SHORT 0) out
      unfolding run_book_file bytes_after
      too_short l = rw (judged.1, kinds_are, judged₂.1, lt-ltb (length out) longest_board l) (record { answer = refl; bytes = refl })

      module _ (bytes₂ : (i : ℕ) → Fits w8 (get_or board_file i 0)) (l : longest_board ≤ length out) where
        board-is : board_at board_file (kinds_of kinds) ≡ judged₂.0
        board-is = board_in_place (kinds_of kinds) board_file judged₂.0 judged₂.1

        pub all_ready : Ready book_file kinds board_file (length out)
        all_ready =
            let b = book_accepted book_file judged.0 (are_bytes book_file bytes) judged.1 in
            let r = board-accepted (kinds_of kinds) board_file judged₂.0 (are_bytes board_file bytes₂) judged₂.1 in
            record {
              good = rw place.0 b.0;
              encoded = b.1 ∙ ap encode_book (sym place.0);
              short = rw (ap length b.1) (book_size judged.0 b.0);
              declared = sym (kinds_are) ∙ ap (λ (x : Book). x.kinds) (sym place.0);
              few = k.few;
              board = rw board-is r.0;
              space = l;
            }

        pub run-made : (r : Ended) (out₁ : List ℕ) → Gives (run_outcome (run (book_at book_file) limit (board_at board_file (kinds_of kinds)))) out (ended_answer r) out₁
            → Gives (run_book_file book_file board_file limit (length out)) out (ended_answer r) out₁
        unfolding run_book_file
        run-made r out₁ g = rw (judged.1, kinds_are, judged₂.1, le-ltb (length out) longest_board l) (rw (place.0, board-is) at g)
