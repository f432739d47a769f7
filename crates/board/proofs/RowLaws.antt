-- The fields of a row, judged where they stand: one law for each answer of `row_fields`.
use Prim.Native.Nat.{ℕ, zero, suc, ◌+◌, ◌*◌, ◌≤◌, ◌<◌}
use mathlib.Core.Path.{◌≡◌, refl, sym, ap, ◌∙◌}
use mathlib.Core.Bool.{Bool, true, false}
use mathlib.Core.List.{List, [], ◌∷◌}
use Rattle.std.specs.Prelude.{Ok, Err}
use native.Mathlib.Nat.{add-zero}
use native.Mathlib.Numerals.{add-one, add-two}
use native.Mathlib.Omega.{arith}
use lib.ListN.{length, drop}
use lib.Seq.{drop-cons}
use Rattle.meaning.specs.Facts.{Kind, arity_of}
use Rattle.files.specs.Numbers.{Refusal, CUT, FIELD}
use Rattle.files.specs.InPlace.{byte_at, two_at, many_at}
use Rattle.files.specs.Judge.{Judged, stop, demand}
use Rattle.files.specs.Board.{is_of_class, numbers}
use Rattle.answers.specs.declared.Reason.TheVariants as W
use Rattle.board.specs.Says.{RowSays}

-- ---- what a test leads to

pub demand-true : {S : Type 0} (test : Bool) (why : Refusal) (at : ℕ) (next : Judged S) → test ≡ true → demand test why at next ≡ next
demand-true test why at next e = ap (λ (t : Bool). demand t why at next) e

pub demand-false : {S : Type 0} (test : Bool) (why : Refusal) (at : ℕ) (next : Judged S) → test ≡ false → demand test why at next ≡ stop why at
demand-false test why at next e = ap (λ (t : Bool). demand t why at next) e

-- ---- so many numbers

numbers_cut : {S : Type 0} (n m : ℕ) (rest : List ℕ) (next : List ℕ → List ℕ → Judged S) → length rest < 2 * m → numbers n m rest next ≡ stop CUT n
numbers_cut n zero rest next h = let z : ⊥ = omega arith in absurd z
numbers_cut n (suc m) [] next h = refl
numbers_cut n (suc m) (low ∷ []) next h = refl
numbers_cut n (suc m) (low ∷ high ∷ rest) next h = numbers_cut n m rest (λ vs l. next ((low + 256 * high) ∷ vs) l) (omega arith)

two-first : (file : List ℕ) (p : ℕ) → p + 2 ≤ length file → drop p file ≡ byte_at file p ∷ byte_at file (p + 1) ∷ drop (p + 2) file
two-first file p h =
    rw (add-one p, add-two p)
    (drop-cons file p 0 (omega arith) ∙ ap (λ (l : List ℕ). byte_at file p ∷ l) (drop-cons file (suc p) 0 (omega arith)))

numbers-whole : {S : Type 0} (n m : ℕ) (file : List ℕ) (p : ℕ) (next : List ℕ → List ℕ → Judged S) → p + 2 * m ≤ length file
    → numbers n m (drop p file) next ≡ next (many_at (two_at file) 2 m p) (drop (p + 2 * m) file)
unfolding many_at
numbers-whole n zero file p next h = ap (λ (k : ℕ). next [] (drop k file)) (sym (add-zero p))
numbers-whole n (suc m) file p next h =
    let further : p + 2 + 2 * m ≡ p + 2 * suc m = omega arith in
    ap (λ (l : List ℕ). numbers n (suc m) l next) (two-first file p (omega arith))
    ∙ numbers-whole n m file (p + 2) (λ vs l. next (two_at file p ∷ vs) l) (omega arith)
    ∙ ap (λ (k : ℕ). next (many_at (two_at file) 2 (suc m) p) (drop k file)) further

-- ---- the answers

-- a row opens with the kind
abbrev Opens : List ℕ → ℕ → Type 0
Opens rest kind = (0 < length rest) × (kind ≡ byte_at rest 0)

module _ (kinds : List Kind) (card : Bool) where
  pub too_short : (rest : List ℕ) (kind : ℕ) (r : Bool) (a : ℕ) → Opens rest kind → r ≡ is_of_class kinds card kind → r ≡ true
      → a ≡ arity_of kinds kind → length rest < 1 + 2 * a → RowSays kinds card rest (Err W.Cut)
  too_short [] kind r a h e t p l = let z : ⊥ = omega arith in absurd z
  too_short (x ∷ rest) kind r a h e t p l = record {
    fits = tt;
    says = λ n at next.
        let same : kind ≡ x = h.1 in
        demand-true (is_of_class kinds card x) FIELD at _ (rw same at (sym e ∙ t))
        ∙ numbers_cut n (arity_of kinds x) rest _ (omega (arith, rw same at p));
  }

  pub whole : (rest : List ℕ) (kind : ℕ) (r : Bool) (a : ℕ) → Opens rest kind → r ≡ is_of_class kinds card kind → r ≡ true
      → a ≡ arity_of kinds kind → 1 + 2 * a ≤ length rest → RowSays kinds card rest (Ok (1 + 2 * a))
  whole [] kind r a h e t p l = let z : ⊥ = omega arith in absurd z
  whole (x ∷ rest) kind r a h e t p l = record {
    fits = l;
    says = λ n at next.
        let same : kind ≡ x = h.1 in
        let here : a ≡ arity_of kinds x = rw same at p in
        demand-true (is_of_class kinds card x) FIELD at _ (rw same at (sym e ∙ t))
        ∙ numbers-whole n (arity_of kinds x) (x ∷ rest) 1 (λ vs more. next (record { kind = x; numbers = vs }) more) (omega (arith, here))
        ∙ rw here;
  }
