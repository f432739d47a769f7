-- What is left of a book from a record on: the place where the record starts, and what a refusal of a book is.
use Rattle.std.specs.Prelude.{ℕ, ◌-◌, length}
use Rattle.answers.specs.declared.Reason.{Reason}
use Rattle.answers.specs.declared.File.TheVariants as F
use Rattle.answers.specs.declared.Refusal.{Refusal}
use Rattle.book.specs.declared.left.Rest.{Rest}

abbrev pub place : Rest → ℕ
place rest = rest.end - length rest.bytes.now

abbrev pub of_book : Reason → ℕ → Refusal
of_book reason place = record { file = F.Book; reason = reason; place = place }
