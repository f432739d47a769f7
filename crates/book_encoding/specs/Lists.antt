-- What the laws of book files are made of: bytes, numbers of two bytes, marks, and lists that grow at their end.
use Rattle.std.specs.Prelude.{ℕ, suc, ◌+◌, ◌*◌, ◌/◌, ◌%◌, ◌<◌, ◌≡◌, refl, Bool, true, false, ◌&&◌, List, [], ◌∷◌, ◌++◌, length, eqb}
use Rattle.std.proofs.Common.{arith, sym, ap, ◌∙◌, append_assoc, append-nil, eqb-true}
use Rattle.meaning.specs.Basics.{All}
pub use Rattle.files.specs.Judge.{Bytes}
use Rattle.files.specs.Encode.{concat_map}

-- ---- numbers of two bytes, low byte first

pub low_byte : (low high : ℕ) → low < 256 → (low + 256 * high) % 256 ≡ low
low_byte low high h = omega arith

pub high_byte : (low high : ℕ) → low < 256 → (low + 256 * high) / 256 ≡ high
high_byte low high h = omega arith

pub two_bytes_lem : (v : ℕ) → v % 256 + 256 * (v / 256) ≡ v
two_bytes_lem v = omega arith

-- ---- lists that grow at their end

pub length_more : {A : Type 0} (l : List A) (a : A) → length (l ++ (a ∷ [])) ≡ suc (length l)
length_more [] a = refl
length_more (x ∷ l) a = ap suc (length_more l a)

pub all_more : {A : Type 0} (P : A → Type 0) (l : List A) (a : A) → All P l → P a → All P (l ++ (a ∷ []))
all_more P [] a h p = (p, tt)
all_more P (x ∷ l) a h p = (h.0, all_more P l a h.1 p)

pub concat_more : {A : Type 0} (f : A → List ℕ) (l : List A) (a : A) → concat_map f (l ++ (a ∷ [])) ≡ concat_map f l ++ f a
unfolding concat_map
concat_more f [] a = append-nil (f a)
concat_more f (x ∷ l) a = ap (λ (q : List ℕ). f x ++ q) (concat_more f l a) ∙ sym (append_assoc (f x) (concat_map f l) (f a))

-- ---- tests

pub absurd_bool : {X : Type 0} → false ≡ true → X
absurd_bool e = let z : ◌≡◌ {A = ℕ} 0 1 = cc in let bad : ⊥ = omega arith in absurd bad

pub both : (a b : Bool) → (a && b) ≡ true → (a ≡ true) × (b ≡ true)
both true true e = (refl, refl)
both true false e = absurd_bool e
both false b e = absurd_bool e

pub bytes_are : (x y a b : ℕ) → (eqb x a && eqb y b) ≡ true → (x ≡ a) × (y ≡ b)
bytes_are x y a b e = let t = both (eqb x a) (eqb y b) e in (eqb-true x a t.0, eqb-true y b t.1)
