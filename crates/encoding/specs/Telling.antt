-- What a check tells decides what an entry gives: where it tells nothing the entry goes on with what the file holds, else it answers what is told.
use Rattle.std.specs.Prelude.{ℕ, ◌<◌, ◌≡◌, refl, true, false, List}
use Rattle.std.proofs.Common.{arith}
use Rattle.files.specs.Numbers.{Refusal, CUT, MARK, PLACE, NOCARD, BARE, MANY, FIELD, LOOSE, TRAIL, SHORT, STRIP, File, refusal_number}
use Rattle.files.specs.Judge.{Verdict, accepted, refused, told}
use Rattle.files.specs.Entries.{Outcome, Gives, bytes_after, if_accepted, tells_nothing, told_answer}

pub told-accepted : {S : Type 0} (verdict : Verdict S) → tells_nothing (told verdict) ≡ true → (s : S) × (verdict ≡ accepted s)
told-accepted (accepted s) e = (s, refl)
told-accepted (refused why place) e = let z : ◌≡◌ {A = ℕ} 0 1 = cc in let bad : ⊥ = omega arith in absurd bad

-- nothing is written then
pub told-refused : {S : Type 0} (file : File) (verdict : Verdict S) (next : S → Outcome) (out : List ℕ) → tells_nothing (told verdict) ≡ false
    → Gives (if_accepted file verdict next) out (told_answer file (told verdict)) out
unfolding bytes_after
told-refused file (accepted s) next out e = let z : ◌≡◌ {A = ℕ} 0 1 = cc in let bad : ⊥ = omega arith in absurd bad
told-refused file (refused why place) next out e = record { answer = refl; bytes = refl }

-- no refusal has the number 0
pub refusal_counts : (why : Refusal) → 0 < refusal_number why
refusal_counts CUT = omega arith
refusal_counts MARK = omega arith
refusal_counts PLACE = omega arith
refusal_counts NOCARD = omega arith
refusal_counts BARE = omega arith
refusal_counts MANY = omega arith
refusal_counts FIELD = omega arith
refusal_counts LOOSE = omega arith
refusal_counts TRAIL = omega arith
refusal_counts SHORT = omega arith
refusal_counts STRIP = omega arith
