-- Laws of conditions, membership and lists that the other files share. Each is an induction on a list or on a membership, or goes by the two cases of
-- a condition.
use Rattle.std.specs.Prelude.{◌≡◌, refl, ◌⊎◌, ℕ, zero, suc, ◌<◌, Bool, true, false, ◌&&◌, ◌||◌, List, [], ◌∷◌, ◌++◌, eqb, ltb}
use Rattle.std.proofs.Common.{sym, ap, subst, inl, inr, arith, true≢false, eq-eqb, ltb-true, ltb-false}
use Rattle.std.proofs.lemmas.Bool.{false≢true}
use Rattle.std.proofs.Math.Bool.{or_assoc}
use Rattle.std.proofs.Math.Option.{some, some-injective, none-ne-some}
use mathlib.Core.List.Memᴰ
use Rattle.std.proofs.Math.ListN.{get_elem?}
use Rattle.meaning.specs.Basics.{mem, In, All}
use Rattle.meaning.specs.Facts.{Fact}

-- ---- conditions

pub cases {ℓ} : {X : Type ℓ} (t : Bool) → (t ≡ true → X) → (t ≡ false → X) → X
cases true f g = f refl
cases false f g = g refl

pub both : (x y : Bool) → (x && y) ≡ true → (x ≡ true) × (y ≡ true)
both true y h = (refl, h)
both false y h = absurd (false≢true h)

pub either : (x y : Bool) → (x || y) ≡ true → (x ≡ true) ⊎ (y ≡ true)
either true y h = inl refl
either false y h = inr h

pub neither : (x y : Bool) → (x || y) ≡ false → (x ≡ false) × (y ≡ false)
neither true y h = absurd (true≢false h)
neither false y h = (refl, h)

-- of two numbers one is less, or they are equal
pub order : {X : Type 0} (m n : ℕ) → (m < n → X) → (m ≡ n → X) → (n < m → X) → X
order m n f g h =
    cases (ltb m n) (λ p. f (ltb-true m n p)) λ p.
    cases (ltb n m) (λ q. h (ltb-true n m q)) λ q.
    g (omega (arith, ltb-false m n p, ltb-false n m q))

-- ---- membership of numbers

pub in_mem : {n : ℕ} {l : List ℕ} → In n l → mem n l ≡ true
in_mem {n} (Memᴰ.head {x = x} e) = rw (eq-eqb n x e)
in_mem {n} (Memᴰ.tail {x = x} m) = cases (eqb n x) (λ q. rw q) (λ q. rw q (in_mem m))

pub mem_append : (n : ℕ) (l m : List ℕ) → mem n (l ++ m) ≡ (mem n l || mem n m)
mem_append n [] m = refl
mem_append n (x ∷ l) m = rw (mem_append n l m) (sym (or_assoc (eqb n x) (mem n l) (mem n m)))

-- ---- lists, element by element

module _ {A : Type 0} where
  pub all_map : {P Q : A → Type 0} → ((a : A) → P a → Q a) → (l : List A) → All P l → All Q l
  all_map f [] h = tt
  all_map f (a ∷ l) h = (f a h.0, all_map f l h.1)

  pub all_append : (P : A → Type 0) (l m : List A) → All P l → All P m → All P (l ++ m)
  all_append P [] m h k = k
  all_append P (a ∷ l) m h k = (h.0, all_append P l m h.1 k)

  pub all-at : (P : A → Type 0) (l : List A) (i : ℕ) {a : A} → All P l → get_elem? l i ≡ some a → P a
  all-at P [] i {a} h e = absurd (none-ne-some a e)
  all-at P (x ∷ l) zero {a} h e = subst P (some-injective x a e) h.0
  all-at P (x ∷ l) (suc i) h e = all-at P l i h.1 e

  pub at_in : (l : List A) (i : ℕ) {a : A} → get_elem? l i ≡ some a → In a l
  at_in [] i {a} e = absurd (none-ne-some a e)
  at_in (x ∷ l) zero {a} e = Memᴰ.head (sym (some-injective x a e))
  at_in (x ∷ l) (suc i) e = Memᴰ.tail (at_in l i e)

  pub in_at : {a : A} {l : List A} → In a l → (i : ℕ) × (get_elem? l i ≡ some a)
  in_at (Memᴰ.head e) = (0, ap some (sym e))
  in_at (Memᴰ.tail m) = let w = in_at m in (suc w.0, w.1)

pub equal_facts : (f g : Fact) → f.kind ≡ g.kind → f.numbers ≡ g.numbers → f ≡ g
equal_facts f g k n = λ i. record { kind = k i; numbers = n i }
