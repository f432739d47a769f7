-- What a check tells settles its answer: two answers that tell the same are equal. And what a check tells decides what an entry gives: where it tells
-- nothing the entry goes on with what the file holds, else it answers the refusal and writes nothing.
use Rattle.std.specs.Prelude.{ℕ, ◌≡◌, refl, eqb, if◌then◌else◌, List, Result, Ok, Err}
use Rattle.std.proofs.Common.{sym, ap, ◌∙◌, arith}
use Rattle.std.proofs.Math.Option.{Option, none, some}
use Rattle.files.specs.Numbers as N
use Rattle.files.specs.Judge.{Verdict, accepted, refused, told}
use Rattle.files.specs.Entries.{Outcome, Gives, bytes_after, if_accepted}
use Rattle.answers.specs.Refused.{reason_of, file_of, refusal_answer, answered, about, told_by}
use Rattle.answers.specs.declared.Reason.{Reason}
use Rattle.answers.specs.declared.Reason.TheVariants as R
use Rattle.answers.specs.declared.File.{File}
use Rattle.answers.specs.declared.File.TheVariants as F
use Rattle.answers.specs.declared.Refusal.{Refusal}

-- the reason, and the file, that say this; no refusal is of no file
abbrev pub reason_for : N.Refusal → Reason
reason_for N.CUT = R.Cut
reason_for N.MARK = R.Mark
reason_for N.PLACE = R.Place
reason_for N.NOCARD = R.Nocard
reason_for N.BARE = R.Bare
reason_for N.MANY = R.Many
reason_for N.FIELD = R.Field
reason_for N.LOOSE = R.Loose
reason_for N.TRAIL = R.Trail
reason_for N.SHORT = R.Short
reason_for N.STRIP = R.Strip

abbrev pub file_for : N.File → File
file_for N.nothing = F.Output
file_for N.book = F.Book
file_for N.strip = F.Strip
file_for N.board = F.Board
file_for N.output = F.Output

pub reason_back : (r : Reason) → reason_for (reason_of r) ≡ r
reason_back R.Cut = refl
reason_back R.Mark = refl
reason_back R.Place = refl
reason_back R.Nocard = refl
reason_back R.Bare = refl
reason_back R.Many = refl
reason_back R.Field = refl
reason_back R.Loose = refl
reason_back R.Trail = refl
reason_back R.Short = refl
reason_back R.Strip = refl

pub file_back : (f : File) → file_for (file_of f) ≡ f
file_back F.Book = refl
file_back F.Strip = refl
file_back F.Board = refl
file_back F.Output = refl

-- the answer of a check that tells it
abbrev pub checked_for : Option (N.File × N.Refusal × ℕ) → Result (Unit {0}) Refusal
checked_for none = Ok tt
checked_for (some (file, why, place)) = Err (record { file = file_for file; reason = reason_for why; place = place })

pub told_settles : (a b : Result (Unit {0}) Refusal) → told_by a ≡ told_by b → a ≡ b
told_settles a b e = sym (back a) ∙ ap checked_for e ∙ back b
  where
    back : (a : Result (Unit {0}) Refusal) → checked_for (told_by a) ≡ a
    back (Ok tt) = refl
    back (Err r) =
        ap (λ (f : File). Err (record { file = f; reason = reason_for (reason_of r.reason); place = r.place })) (file_back r.file)
        ∙ ap (λ (w : Reason). Err (record { file = r.file; reason = w; place = r.place })) (reason_back r.reason)

-- ---- what a result answers settles it too

abbrev reason_by : ℕ → Reason
reason_by number =
    if eqb number 1 then R.Cut
    else if eqb number 2 then R.Mark
    else if eqb number 3 then R.Place
    else if eqb number 4 then R.Nocard
    else if eqb number 5 then R.Bare
    else if eqb number 6 then R.Many
    else if eqb number 7 then R.Field
    else if eqb number 8 then R.Loose
    else if eqb number 9 then R.Trail
    else if eqb number 10 then R.Short
    else R.Strip

abbrev file_by : ℕ → File
file_by number = if eqb number 1 then F.Book else if eqb number 2 then F.Strip else if eqb number 3 then F.Board else F.Output

reason_by_number : (r : Reason) → reason_by (N.refusal_number (reason_of r)) ≡ r
reason_by_number R.Cut = refl
reason_by_number R.Mark = refl
reason_by_number R.Place = refl
reason_by_number R.Nocard = refl
reason_by_number R.Bare = refl
reason_by_number R.Many = refl
reason_by_number R.Field = refl
reason_by_number R.Loose = refl
reason_by_number R.Trail = refl
reason_by_number R.Short = refl
reason_by_number R.Strip = refl

file_by_number : (f : File) → file_by (N.file_number (file_of f)) ≡ f
file_by_number F.Book = refl
file_by_number F.Strip = refl
file_by_number F.Board = refl
file_by_number F.Output = refl

-- the refusal that an answer shows
abbrev refusal_by : N.Answer → Refusal
refusal_by a = record { file = file_by a.file; reason = reason_by a.number; place = a.place }

refusal_back : (r : Refusal) → refusal_by (refusal_answer r) ≡ r
refusal_back r =
    ap (λ (f : File). record { file = f; reason = reason_by (N.refusal_number (reason_of r.reason)); place = r.place }) (file_by_number r.file)
    ∙ ap (λ (w : Reason). record { file = r.file; reason = w; place = r.place }) (reason_by_number r.reason)

-- where a value can be read from what is said of it, and is said of no file
pub answered_settles : {T : Type 0} (says : T → N.Answer) (given : N.Answer → T) → ((x : T) → given (says x) ≡ x) → ((x : T) → (says x).file ≡ 0)
    → (a b : Result T Refusal) → answered says a ≡ answered says b → a ≡ b
answered_settles {T} says given back_to no_file a b e = sym (back a) ∙ ap result_by e ∙ back b
  where
    result_by : N.Answer → Result T Refusal
    result_by answer = if eqb answer.file 0 then Ok (given answer) else Err (refusal_by answer)

    of_no_file : (answer : N.Answer) → answer.file ≡ 0 → result_by answer ≡ Ok (given answer)
    of_no_file answer e = rw e refl

    of_a_file : (f : File) (answer : N.Answer) → answer.file ≡ N.file_number (file_of f) → result_by answer ≡ Err (refusal_by answer)
    of_a_file F.Book answer e = rw e refl
    of_a_file F.Strip answer e = rw e refl
    of_a_file F.Board answer e = rw e refl
    of_a_file F.Output answer e = rw e refl

    back : (a : Result T Refusal) → result_by (answered says a) ≡ a
    back (Ok x) = of_no_file (says x) (no_file x) ∙ ap (λ (y : T). Ok y) (back_to x)
    back (Err r) = of_a_file r.file (refusal_answer r) refl ∙ ap (λ (s : Refusal). Err s) (refusal_back r)

-- ---- what an entry gives

abbrev told_or : N.File × N.Refusal × ℕ → Option (N.File × N.Refusal × ℕ) → N.File × N.Refusal × ℕ
told_or other none = other
told_or other (some told) = told

-- a check that refuses nothing: the file holds something
pub checked_accepted : {S : Type 0} (file : N.File) (verdict : Verdict S) → told_by (Ok tt) ≡ about file (told verdict) → (s : S) × (verdict ≡ accepted s)
checked_accepted file (accepted s) e = (s, refl)
checked_accepted file (refused why place) e = let z : ◌≡◌ {A = ℕ} 0 1 = cc in let bad : ⊥ = omega arith in absurd bad

-- a check that refuses: its refusal is the answer, and nothing is written
pub gives_refused : {S : Type 0} (file : N.File) (verdict : Verdict S) (next : S → Outcome) (out : List ℕ) (r : Refusal)
    → told_by (Err r) ≡ about file (told verdict) → Gives (if_accepted file verdict next) out (refusal_answer r) out
unfolding bytes_after
gives_refused file (accepted s) next out r e = let z : ◌≡◌ {A = ℕ} 0 1 = cc in let bad : ⊥ = omega arith in absurd bad
gives_refused file (refused why place) next out r e =
    let same = ap (told_or (N.nothing, N.CUT, 0)) e in
    record { answer = ap (λ (t : N.File × N.Refusal × ℕ). N.refusal t.0 t.1 t.2) same; bytes = refl }
