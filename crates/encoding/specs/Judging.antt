-- What a record's judgement gives where it is no refusal: one law for each way in which a field is judged (crates/files, `Judge` and `Board`).
-- P is whatever is to hold of the judgement; a refusal owes nothing.
use Prim.Native.Nat.{ℕ, zero, suc, ◌+◌, ◌*◌}
use Rattle.std.proofs.Common.{arith, ap}
use Rattle.std.specs.Prelude.{◌≡◌, Bool, true, false, ◌&&◌, length}
use Rattle.std.proofs.Math.Path.{refl}
use Rattle.std.proofs.lemmas.Bool.{false≢true}
use mathlib.Core.List.{List, [], ◌∷◌, ◌++◌}
use Rattle.files.specs.Numbers.{Refusal, CUT}
use Rattle.files.specs.Judge.{accepted, refused, Judged, stop, demand, byte}
use Rattle.files.specs.Board.{numbers}
use Rattle.encoding.specs.Bytes.{said}

-- ---- tests that held, and answers that differ

pub both : (p q : Bool) → (p && q) ≡ true → (p ≡ true) × (q ≡ true)
both true q e = (refl, e)
both false q e = absurd (false≢true e)

pub all-four : (p q r s : Bool) → (p && q && r && s) ≡ true → (p ≡ true) × (q ≡ true) × (r ≡ true) × (s ≡ true)
all-four p q r s e =
    let (pqr, is) = both (p && q && r) s e in
    let (pq, ir) = both (p && q) r pqr in
    let (ip, iq) = both p q pq in
    (ip, iq, ir, is)

pub all_five : (p q r s t : Bool) → (p && q && r && s && t) ≡ true → (p ≡ true) × (q ≡ true) × (r ≡ true) × (s ≡ true) × (t ≡ true)
all_five p q r s t e =
    let (pqrs, it) = both (p && q && r && s) t e in
    let (ip, iq, ir, is) = all-four p q r s pqrs in
    (ip, iq, ir, is, it)

-- a refusal is no acceptance
pub not-accepted : {S : Type 0} {why : Refusal} {place : ℕ} {s : S} → refused why place ≡ accepted s → ⊥
not-accepted {S} {why} {place} {s} e = let z : ◌≡◌ {A = ℕ} 0 1 = cc in omega arith

-- ---- one record

module _ {S : Type 0} (P : Judged S → Type 0) (refusal : (why : Refusal) (place : ℕ) → P (stop why place)) where
  -- the test held
  pub demanded : (t : Bool) (why : Refusal) (place : ℕ) (next : Judged S) → (t ≡ true → P next) → P (demand t why place next)
  demanded true why place next h = h refl
  demanded false why place next h = refusal why place

  -- there was a byte
  pub byte_read : (n : ℕ) (rest : List ℕ) (next : ℕ → List ℕ → Judged S)
      → ((b : ℕ) (tail : List ℕ) → rest ≡ b ∷ tail → P (next b tail)) → P (byte n rest next)
  byte_read n [] next h = refusal CUT n
  byte_read n (b ∷ tail) next h = h b tail refl

  -- there were two bytes for each number
  pub numbers_read : (n m : ℕ) (rest : List ℕ) (next : List ℕ → List ℕ → Judged S)
      → ((bytes tail : List ℕ) → length bytes ≡ 2 * m → rest ≡ bytes ++ tail → P (next (said bytes) tail)) → P (numbers n m rest next)
  unfolding said
  numbers_read n zero rest next h = h [] rest refl refl
  numbers_read n (suc m) [] next h = refusal CUT n
  numbers_read n (suc m) (low ∷ []) next h = refusal CUT n
  numbers_read n (suc m) (low ∷ high ∷ rest) next h =
      numbers_read n m rest (λ vs rest₂. next ((low + 256 * high) ∷ vs) rest₂)
      (λ bytes tail l e. h (low ∷ high ∷ bytes) tail (omega (arith, l)) (ap (λ (q : List ℕ). low ∷ high ∷ q) e))

-- the other way: numbers that are there are read
pub numbers_there : {S : Type 0} (n m : ℕ) (bytes tail : List ℕ) (next : List ℕ → List ℕ → Judged S) → length bytes ≡ 2 * m
    → numbers n m (bytes ++ tail) next ≡ next (said bytes) tail
unfolding said
numbers_there n zero [] tail next h = refl
numbers_there n zero (low ∷ more) tail next h = let bad : ⊥ = omega arith in absurd bad
numbers_there n (suc m) [] tail next h = let bad : ⊥ = omega arith in absurd bad
numbers_there n (suc m) (low ∷ []) tail next h = let bad : ⊥ = omega arith in absurd bad
numbers_there n (suc m) (low ∷ high ∷ more) tail next h =
    numbers_there n m more tail (λ vs rest. next ((low + 256 * high) ∷ vs) rest) (omega arith)
