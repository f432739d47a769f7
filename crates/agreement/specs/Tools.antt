-- The few tools that the proofs are written with: a value's cases with the equation, what cannot be, what holds of each element and of an answer,
-- the elements behind a place.
use Rattle.std.specs.Prelude.{◌≡◌, refl, ℕ, zero, suc, Bool, true, false, drop, if◌then◌else◌}
use Rattle.std.proofs.Common.{ap, arith}
use Rattle.std.proofs.Math.Option.{Option, none, some}
use mathlib.Core.List.{List, [], ◌∷◌, ◌++◌, nil≢cons, head-eq_of_cons-eq, tail-eq_of_cons-eq}
use Rattle.std.proofs.Math.ListN.{get_elem?}
use Rattle.meaning.specs.Basics.{◌>>=◌, All}

-- ---- cases

-- a flag is set or not
pub cases {ℓ} : {X : Type ℓ} (t : Bool) → (t ≡ true → X) → (t ≡ false → X) → X
cases true is_true is_false = is_true refl
cases false is_true is_false = is_false refl

-- there is an answer or not
pub options {ℓ} : {X : Type ℓ} {A : Type 0} (o : Option A) → (o ≡ none → X) → ((a : A) → o ≡ some a → X) → X
options none is_none is_some = is_none refl
options (some a) is_none is_some = is_some a refl

-- from two constructors that would be one, which `cc` finds
pub impossible {ℓ} : {X : Type ℓ} → ◌≡◌ {A = ℕ} 0 1 → X
impossible e = absurd (omega arith)

-- ---- what holds of each element

pub all_append : {A : Type 0} (P : A → Type 0) (xs ys : List A) → All P xs → All P ys → All P (xs ++ ys)
all_append P [] ys p q = q
all_append P (x ∷ xs) ys p q = (p.0, all_append P xs ys p.1 q)

pub all_map : {A : Type 0} (P Q : A → Type 0) → ((x : A) → P x → Q x) → (xs : List A) → All P xs → All Q xs
all_map P Q f [] p = tt
all_map P Q f (x ∷ xs) p = (f x p.0, all_map P Q f xs p.1)

pub all_any : {A : Type 0} (xs : List A) → All (λ x. Unit {0}) xs
all_any [] = tt
all_any (x ∷ xs) = (tt, all_any xs)

pub all-at : {A : Type 0} (P : A → Type 0) (xs : List A) → All P xs → (n : ℕ) (x : A) → get_elem? xs n ≡ some x → P x
all-at P [] p n x e = impossible (cc)
all-at P (y ∷ xs) p zero x e = let z : y ≡ x = cc in rw z at p.0
all-at P (y ∷ xs) p (suc n) x e = all-at P xs p.1 n x e

-- ---- what holds of an answer, where there is one

abbrev pub Each : {A : Type 0} → (A → Type 0) → Option A → Type 0
Each P none = Unit {0}
Each P (some a) = P a

pub each : {A : Type 0} (P : A → Type 0) (o : Option A) → ((a : A) → o ≡ some a → P a) → Each P o
each P o h = options o (λ q. rw q tt) (λ a q. rw q (h a q))

pub each_if : {A : Type 0} (P : A → Type 0) (t : Bool) (o : Option A) → Each P o → Each P (if t then o else none)
each_if P true o h = h
each_if P false o h = tt

pub each_bind : {A B : Type 0} (P : A → Type 0) (Q : B → Type 0) (o : Option A) (f : A → Option B) → Each P o → ((a : A) → P a → Each Q (f a))
    → Each Q (o >>= f)
each_bind P Q none f h g = tt
each_bind P Q (some a) f h g = g a h

-- ---- elements behind a place

pub drop_at : {A : Type 0} (n : ℕ) (l : List A) (x : A) (xs : List A) → drop n l ≡ x ∷ xs → get_elem? l n ≡ some x
drop_at zero [] x xs h = absurd (nil≢cons h)
drop_at zero (y ∷ l) x xs h = ap some (head-eq_of_cons-eq h)
drop_at (suc n) [] x xs h = absurd (nil≢cons h)
drop_at (suc n) (y ∷ l) x xs h = drop_at n l x xs h

pub drop-suc : {A : Type 0} (n : ℕ) (l : List A) (x : A) (xs : List A) → drop n l ≡ x ∷ xs → drop (suc n) l ≡ xs
drop-suc zero [] x xs h = absurd (nil≢cons h)
drop-suc zero (y ∷ l) x xs h = tail-eq_of_cons-eq h
drop-suc (suc n) [] x xs h = absurd (nil≢cons h)
drop-suc (suc n) (y ∷ l) x xs h = drop-suc n l x xs h
