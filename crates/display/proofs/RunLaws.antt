-- What the display reads back of a run: the length that the answer gives is that of what is written, and the part of that length is the board.
use Rattle.std.specs.Prelude.{if◌then◌else◌}
use Prim.Native.Nat.{ℕ, ◌≤◌, ◌<◌}
use native.Mathlib.Omega.{arith}
use mathlib.Core.Path.{◌≡◌, refl, sym, ap, ap₂, subst, ◌∙◌}
use mathlib.Core.Bool.{Bool, true, false}
use mathlib.Core.List.{List}
use lib.ListN.{length, take, drop, replicate, length-append}
use lib.Seq.{take_at, length-take-le}
use lib.Dec.{ltb}
use borrow.Author.Tests.{lt-ltb}
use Rattle.std.proofs.lemmas.List.{length-replicate}
use Rattle.meaning.specs.Facts.{Kind, Board, longest_board}
use Rattle.meaning.specs.Firing.{run}
use Rattle.files.specs.Numbers as N
use Rattle.files.specs.Numbers.{File, book, board, SHORT, output}
use Rattle.files.specs.Judge.{Verdict, accepted, refused}
use Rattle.files.specs.Board.{judge_board}
use Rattle.files.specs.Book.{judge_book}
use Rattle.files.specs.InPlace.{kinds_at, board_at}
use Rattle.files.specs.Display.{display_limit}
use Rattle.files.specs.Entries.{Outcome, nothing_written, bytes_after, if_accepted, if_room, run_outcome, run_book_file}
use Rattle.answers.specs.Shown.{shown, at_most_place, most_place}
use Rattle.screen.specs.Text.{answer_text}
use Rattle.screen.specs.Shows.{TextPut}
use Rattle.screen.specs.Displayed.{screen_text}

-- the answer's length is that of what is written
abbrev Measured : Outcome → Type 0
Measured outcome = outcome.answer.length ≡ length outcome.written

room_measured : (least room : ℕ) (next : Outcome) → Measured next → Measured (if_room least room next)
room_measured least room next h = by (ltb room least)
  where
    by : (t : Bool) → Measured (if t then nothing_written (N.refusal output SHORT 0) else next)
    by true = refl
    by false = h

accepted_measured : {S : Type 0} (file : File) (v : Verdict S) (next : S → Outcome) → ((s : S) → Measured (next s)) → Measured (if_accepted file v next)
accepted_measured file (accepted s) next h = h s
accepted_measured file (refused why place) next h = refl

run_measured : (book_file board_file : List ℕ) (limit room : ℕ) → Measured (run_book_file book_file board_file limit room)
unfolding run_book_file
run_measured book_file board_file limit room =
    accepted_measured book (judge_book book_file) _ λ b.
    accepted_measured board (judge_board b.kinds board_file) _ λ rows.
    room_measured longest_board room (run_outcome (run b limit rows)) refl

-- the output before the run
abbrev zeros : List ℕ
zeros = replicate longest_board 0

module _ (book_file board_file out : List ℕ) (answer : N.Answer) (same : length out ≡ length zeros)
    (told : answer ≡ shown (run_book_file book_file board_file display_limit (length zeros)).answer)
    (wrote : out ≡ bytes_after (run_book_file book_file board_file display_limit (length zeros)) zeros) where
  abbrev outcome : Outcome
  outcome = run_book_file book_file board_file display_limit (length zeros)

  fits : length outcome.written ≤ length out
  unfolding bytes_after
  fits = omega (arith, ap length wrote ∙ length-append outcome.written (drop (length outcome.written) zeros))

  measured : answer.length ≡ length outcome.written
  measured =
      let small : length outcome.written < most_place = omega (arith, fits) in
      ap (λ (a : N.Answer). a.length) told ∙ ap at_most_place (run_measured book_file board_file display_limit (length zeros)) ∙ rw (lt-ltb (length outcome.written) most_place small)

  pub size_fits : answer.length ≤ length out
  size_fits = omega (arith, fits, measured)

  pub size_part : answer.length ≡ length (take answer.length out)
  size_part = sym (length-take-le answer.length out size_fits)

  -- the part is what is written
  part : take answer.length out ≡ outcome.written
  unfolding bytes_after
  part = ap (take answer.length) wrote ∙ take_at outcome.written (drop (length outcome.written) zeros) answer.length (sym measured)

  pub displayed : (kinds : List Kind) (before after : List ℕ) (r : ℕ) → kinds ≡ (kinds_at book_file).value
      → TextPut (answer_text answer (board_at (take answer.length out) kinds)) before after r → TextPut (screen_text book_file board_file) before after r
  unfolding screen_text
  displayed kinds before after r k h =
      subst (λ (text : List ℕ). TextPut text before after r)
      (ap₂ (λ (a : N.Answer) (w : Board). answer_text a w) told (ap₂ (λ (b : List ℕ) (ks : List Kind). board_at b ks) part k)
      ∙ ap (λ (n : ℕ). answer_text (shown (run_book_file book_file board_file display_limit n).answer) (board_at (run_book_file book_file board_file display_limit n).written (kinds_at book_file).value)) (length-replicate {A = ℕ} longest_board 0))
      h
