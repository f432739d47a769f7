-- What an entry answers is what its check tells: one law for every file, and one each for the checks.
use Rattle.std.specs.Prelude.{ℕ, ◌≡◌, refl, List, [], Result, Ok, Err}
use Rattle.std.proofs.Common.{ap, ◌∙◌}
use Rattle.meaning.specs.Facts.{Kind}
use Rattle.meaning.specs.Rules.{Book}
use Rattle.files.specs.Numbers as N
use Rattle.files.specs.Numbers.{File, book, strip, board}
use Rattle.files.specs.Judge.{Bytes, Verdict, accepted, refused, told}
use Rattle.files.specs.InPlace.{kinds_at}
use Rattle.files.specs.Board.{judge_board}
use Rattle.files.specs.Book.{judge_book}
use Rattle.files.specs.Strip.{judge_strip}
use Rattle.files.specs.Entries.{nothing_written, if_accepted, check_book, check_board, check_strip}
use Rattle.book_encoding.specs.Placed.{book_in_place}
use Rattle.answers.specs.Refused.{refusal_answer, check_answer, about, told_by}
use Rattle.answers.specs.RefusedLaws.{checked_accepted, gives_refused}
use Rattle.answers.specs.declared.Refusal.{Refusal}

-- a check's answer is that of its judgement
check_gives : {S : Type 0} (file : File) (v : Verdict S) (r : Result (Unit {0}) Refusal) → told_by r ≡ about file (told v)
    → check_answer r ≡ (if_accepted file v λ s. nothing_written (N.acceptance 0)).answer
check_gives file v (Ok tt) e = rw (checked_accepted file v e).1 refl
check_gives file v (Err r) e = (gives_refused file v _ [] r e).answer

pub book_checked : (file : List ℕ) (r : Result (Unit {0}) Refusal) → told_by r ≡ about book (told (judge_book file)) → check_answer r ≡ (check_book file).answer
unfolding check_book
book_checked file r e = check_gives book (judge_book file) r e

pub strip_checked : (file : List ℕ) (r : Result (Unit {0}) Refusal) → told_by r ≡ about strip (told (judge_strip file)) → check_answer r ≡ (check_strip file).answer
unfolding check_strip
strip_checked file r e = check_gives strip (judge_strip file) r e

module _ (book_file board_file : List ℕ) where
  -- the book is refused
  pub both_refused : (r : Refusal) → told_by (Err r) ≡ about book (told (judge_book book_file)) → refusal_answer r ≡ (check_board book_file board_file).answer
  unfolding check_board
  both_refused r e = (gives_refused book (judge_book book_file) _ [] r e).answer

  -- the book is accepted, and its kinds are those that stand at its start
  pub both_checked : (kinds : List Kind) (r : Result (Unit {0}) Refusal) → Bytes book_file → told_by (Ok tt) ≡ about book (told (judge_book book_file))
      → kinds ≡ (kinds_at book_file).value → told_by r ≡ about board (told (judge_board kinds board_file)) → check_answer r ≡ (check_board book_file board_file).answer
  unfolding check_board
  both_checked kinds r bytes e k j =
      let b = checked_accepted book (judge_book book_file) e in
      let same : kinds ≡ b.0.kinds = k ∙ (book_in_place book_file b.0 bytes b.1).1 in
      rw b.1 (check_gives board (judge_board b.0.kinds board_file) r (j ∙ ap (λ (ks : List Kind). about board (told (judge_board ks board_file))) same))
