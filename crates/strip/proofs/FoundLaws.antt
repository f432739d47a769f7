-- The loop over leading KIND words: the kinds found so far and those of the words that are left are all that the file declares.
use Prim.Native.Nat.{ℕ, suc, ◌+◌, ◌*◌, ◌-◌, ◌/◌, ◌≤◌, ◌<◌}
use mathlib.Core.Path.{◌≡◌, refl, sym, ap, ◌∙◌}
use mathlib.Core.List.{List}
use native.Mathlib.Omega.{arith}
use native.Mathlib.Nat.{sub-zero}
use native.Mathlib.Numerals.{add-one}
use lib.ListN.{length}
use borrow.Author.Tests.{eq-eqb, ne_eqb}
use Rattle.files.specs.InPlace.{byte_at}
use Rattle.files.specs.Strip.{Fields, word_bytes, fields_at}
use Rattle.kinds.specs.Listed.{no_kinds, with_kind}
use Rattle.kinds.specs.declared.Kinds.{Kinds}
use Rattle.strip.specs.Leading.{leading_from, leading_kinds}
use Rattle.strip.specs.Says.{number_of}
use Rattle.strip.specs.declared.Code.{Code}
use Rattle.strip.specs.declared.Code.TheVariants as C

pub record Found (file : List ℕ) (size i : ℕ) (found : Kinds) : Type 0 where
  pub fits : word_bytes * size ≤ length file
  pub same : leading_from file (size - i) i found ≡ leading_kinds file

pub none_found : (file : List ℕ) (found : Kinds) → found ≡ no_kinds → Found file (length file / word_bytes) 0 found
unfolding leading_kinds
none_found file found e = record { fits = omega arith; same = rw (sub-zero, e) }

module _ (file : List ℕ) (size i : ℕ) (found : Kinds) (t : Found file size i found) where
  pub all_found : size ≤ i → found ≡ leading_kinds file
  unfolding leading_from
  all_found h =
      let none_left : size - i ≡ 0 = omega arith in
      ap (λ (left : ℕ). leading_from file left i found) (sym none_left) ∙ t.same

  module _ (h : i < size) (f : Fields) (e : f ≡ fields_at file (word_bytes * i)) where
    one_left : leading_from file (suc (size - (i + 1))) i found ≡ leading_kinds file
    one_left =
        let left : size - i ≡ suc (size - (i + 1)) = omega arith in
        ap (λ (k : ℕ). leading_from file k i found) (sym left) ∙ t.same

    code_is : f.code ≡ byte_at file (word_bytes * i)
    code_is = ap (λ (x : Fields). x.code) e

    pub other_found : (f.code ≡ 0 → ⊥) → found ≡ leading_kinds file
    unfolding leading_from
    other_found n = rw (← code_is, ne_eqb f.code 0 n) at one_left

    pub kind_found : f.code ≡ 0 → (next : Kinds) → next ≡ with_kind found f.a f.b → Found file size (i + 1) next
    unfolding leading_from
    kind_found z next s = record {
      fits = t.fits;
      same = rw (s, ap (λ (x : Fields). x.a) e, ap (λ (x : Fields). x.b) e, add-one i) (rw (← code_is, eq-eqb f.code 0 z, add-one i) at one_left);
    }

  pub unknown_found : i < size → 12 < byte_at file (word_bytes * i) → found ≡ leading_kinds file
  unknown_found h more = other_found h (fields_at file (word_bytes * i)) refl (λ e. omega arith)

-- a code that is not KIND has another number
pub other_code : (code : Code) → (code ≡ C.Kind → ⊥) → number_of code ≡ 0 → ⊥
other_code C.Kind n e = n refl
other_code C.Open n e = omega arith
other_code C.Seek n e = omega arith
other_code C.Bind n e = omega arith
other_code C.Same n e = omega arith
other_code C.Lit n e = omega arith
other_code C.Test n e = omega arith
other_code C.Keep n e = omega arith
other_code C.Put n e = omega arith
other_code C.Arg n e = omega arith
other_code C.Jump n e = omega arith
other_code C.Fire n e = omega arith
other_code C.Quiet n e = omega arith
