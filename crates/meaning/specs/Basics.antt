-- The few tools that the other files are written with: an option gone on with, a fold, the first answer of a list, one changed
-- place of a function, and what holds of each element.
use Rattle.std.specs.Prelude.{ℕ, Bool, true, false, cond, ◌||◌, eqb}
use Rattle.std.proofs.Math.Option.{Option, none, some}
use mathlib.Core.List.{List, [], ◌∷◌, Memᴰ}

-- and then, where there is something
abbrev pub ◌>>=◌ {ℓ ℓ'} : {A : Type ℓ} {B : Type ℓ'} → Option A → (A → Option B) → Option B
none >>= f = none
some a >>= f = f a

infixl 20 ◌>>=◌
-- this answer, or else that one
abbrev pub or_else {ℓ} : {B : Type ℓ} → Option B → Option B → Option B
or_else (some b) other = some b
or_else none other = other

-- the first element's answer among those that have one
unfoldable pub first {ℓ ℓ'} : {A : Type ℓ} {B : Type ℓ'} → (A → Option B) → List A → Option B
first f [] = none
first f (a ∷ more) = or_else (f a) (first f more)

-- every element in turn, from the left
unfoldable pub fold {ℓ ℓ'} : {A : Type ℓ} {B : Type ℓ'} → (B → A → B) → B → List A → B
fold f w [] = w
fold f w (a ∷ more) = fold f (f w a) more

-- a function with one place changed
abbrev pub change {ℓ} : {X : Type ℓ} → (ℕ → X) → ℕ → X → ℕ → X
change f place x = λ i. cond (eqb i place) x (f i)

-- is the number in the list
abbrev pub mem : ℕ → List ℕ → Bool
mem x [] = false
mem x (y ∷ more) = eqb x y || mem x more

-- the element stands in the list
abbrev pub In {ℓ} : {A : Type ℓ} → A → List A → Type ℓ
In a l = Memᴰ a l

-- something holds of each element
abbrev pub All : {A : Type 0} → (A → Type 0) → List A → Type 0
All P [] = Unit {0}
All P (a ∷ more) = P a × All P more
