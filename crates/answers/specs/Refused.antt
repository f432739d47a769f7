-- What a refusal says, in the terms of crates/files Numbers, and what a check tells by its answer.
use Rattle.std.specs.Prelude.{ℕ, Result, Ok, Err}
use Rattle.std.proofs.Math.Option.{Option, none, some}
use Rattle.files.specs.Numbers as N
use Rattle.answers.specs.declared.Reason.{Reason}
use Rattle.answers.specs.declared.Reason.TheVariants as R
use Rattle.answers.specs.declared.File.{File}
use Rattle.answers.specs.declared.File.TheVariants as F
use Rattle.answers.specs.declared.Refusal.{Refusal}

abbrev pub reason_of : Reason → N.Refusal
reason_of R.Cut = N.CUT
reason_of R.Mark = N.MARK
reason_of R.Place = N.PLACE
reason_of R.Nocard = N.NOCARD
reason_of R.Bare = N.BARE
reason_of R.Many = N.MANY
reason_of R.Field = N.FIELD
reason_of R.Loose = N.LOOSE
reason_of R.Trail = N.TRAIL
reason_of R.Short = N.SHORT
reason_of R.Strip = N.STRIP

abbrev pub file_of : File → N.File
file_of F.Book = N.book
file_of F.Strip = N.strip
file_of F.Board = N.board
file_of F.Output = N.output

-- the answer of a refusal
abbrev pub refusal_answer : Refusal → N.Answer
refusal_answer r = N.refusal (file_of r.file) (reason_of r.reason) r.place

-- the answer of a result: what it says of a value, or the refusal's
abbrev pub answered : {T : Type 0} → (T → N.Answer) → Result T Refusal → N.Answer
answered says (Ok value) = says value
answered says (Err r) = refusal_answer r

-- "A check that accepts gives 0"
abbrev pub check_answer : Result (Unit {0}) Refusal → N.Answer
check_answer = answered (λ accepted. N.acceptance 0)

-- what is told of a file, with the file it is told of
abbrev pub about : N.File → Option (N.Refusal × ℕ) → Option (N.File × N.Refusal × ℕ)
about file none = none
about file (some (why, place)) = some (file, why, place)

-- what a check tells: the file, the refusal and its place, or nothing where the file is accepted
abbrev pub told_by : Result (Unit {0}) Refusal → Option (N.File × N.Refusal × ℕ)
told_by (Ok accepted) = none
told_by (Err r) = some (file_of r.file, reason_of r.reason, r.place)
