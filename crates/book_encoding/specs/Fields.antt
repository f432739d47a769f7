-- What is known of a book file where a field passes. Each law speaks of anything that holds of every refusal: it holds of a judgement if it holds
-- of what comes after the fields, which are then good and are the bytes that were taken.
use Prim.Native.Nat.{ℕ, zero, suc, ◌+◌, ◌*◌, ◌<◌, ◌≤◌}
use Rattle.std.proofs.Common.{arith, ◌∙◌, eqb-true, leb-true, ltb-true}
use Rattle.std.specs.Prelude.{◌≡◌, Bool, true, false, length, eqb, leb, ltb, if◌then◌else◌}
use Rattle.std.proofs.Math.Path.{refl, ap}
use mathlib.Core.List.{List, [], ◌∷◌, ◌++◌}
use Rattle.std.proofs.lemmas.Bool.{eqb-false}
use Rattle.meaning.specs.Basics.{All}
use Rattle.meaning.specs.Facts.{Kind, variables, arity_of}
use Rattle.meaning.specs.Rules.{Term, constant, variable, Atom}
use Rattle.meaning.specs.WellFormed.{GoodTerm, GoodAtom}
use Rattle.files.specs.Numbers.{Refusal, CUT, NOCARD, BARE, FIELD, LOOSE}
use Rattle.files.specs.Judge.{Judged, stop, demand, byte}
use Rattle.files.specs.Board.{is_empty}
use Rattle.files.specs.Encode.{concat_map, encode_term}
use Rattle.files.specs.Book.{Open, no_rule, in_rule, in_sweep, has_card, bodied, term, terms, atom}
use Rattle.book_encoding.specs.Lists.{Bytes, low_byte, high_byte}
use Rattle.book_encoding.specs.Readings.{Bodied, has_card_lem}

constant_bytes : (tag low high : ℕ) (tail : List ℕ) → low < 256 → tag ≡ 0
    → tag ∷ low ∷ high ∷ tail ≡ encode_term (constant (low + 256 * high)) ++ tail
constant_bytes tag low high tail h e = rw (e, low_byte low high h, high_byte low high h)

variable_bytes : (tag low high : ℕ) (tail : List ℕ) → low < 256 → tag ≡ 1
    → tag ∷ low ∷ high ∷ tail ≡ encode_term (variable (low + 256 * high)) ++ tail
variable_bytes tag low high tail h e = rw (e, low_byte low high h, high_byte low high h)

module _ {S : Type 0} (P : Judged S → Type 0) (stops : (why : Refusal) (place : ℕ) → P (stop why place)) where
  pub demand_law : (test : Bool) (why : Refusal) (place : ℕ) (next : Judged S) → (test ≡ true → P next) → P (demand test why place next)
  demand_law true why place next h = h refl
  demand_law false why place next h = stops why place

  pub bodied_law : (kinds : List Kind) (now : Open) (at : ℕ) (next : Judged S) → (Bodied kinds now → P next) → P (bodied kinds now at next)
  bodied_law kinds no_rule at next h = h tt
  bodied_law kinds (in_rule rule) at next h = demand_law (has_card kinds rule.body) NOCARD at next (λ e. h (has_card_lem kinds rule.body e))
  bodied_law kinds (in_sweep rule sweep) at next h = cases sweep.body h
    where
      cases : (body : List Atom) → (1 ≤ length body → P next) → P (if is_empty body then stop BARE at else next)
      cases [] h = stops BARE at
      cases (a ∷ body) h = h (omega arith)

  module _ (n : ℕ) where
    pub byte_law : (rest : List ℕ) (next : ℕ → List ℕ → Judged S) → Bytes rest
        → ((b : ℕ) (tail : List ℕ) → Bytes tail → rest ≡ b ∷ tail → P (next b tail)) → P (byte n rest next)
    byte_law [] next bs h = stops CUT n
    byte_law (b ∷ tail) next bs h = h b tail bs.1 refl

    pub term_law : (bound : ℕ → Bool) (at : ℕ) (rest : List ℕ) (next : Term → List ℕ → Judged S) → Bytes rest
        → ((t : Term) (tail : List ℕ) → GoodTerm bound t → Bytes tail → rest ≡ encode_term t ++ tail → P (next t tail))
        → P (term n bound at rest next)
    term_law bound at [] next bs h = stops CUT n
    term_law bound at (tag ∷ []) next bs h = demand_law (leb tag 1) FIELD at (stop CUT n) (λ e. stops CUT n)
    term_law bound at (tag ∷ low ∷ []) next bs h = demand_law (leb tag 1) FIELD at (stop CUT n) (λ e. stops CUT n)
    term_law bound at (tag ∷ low ∷ high ∷ tail) next bs h = demand_law (leb tag 1) FIELD at _ (λ e. cases e (eqb tag 0) refl)
      where
        cases : leb tag 1 ≡ true → (zero? : Bool) → eqb tag 0 ≡ zero?
            → P (if zero? then next (constant (low + 256 * high)) tail
            else demand (ltb (low + 256 * high) variables) FIELD at (demand (bound (low + 256 * high)) LOOSE at (next (variable (low + 256 * high)) tail)))
        cases l true e =
            h (constant (low + 256 * high)) tail (omega (arith, bs.1.0, bs.1.1.0)) bs.1.1.1
            (constant_bytes tag low high tail bs.1.0 (eqb-true tag 0 e))
        cases l false e =
            demand_law (ltb (low + 256 * high) variables) FIELD at _ λ v.
            demand_law (bound (low + 256 * high)) LOOSE at _ λ b.
            h (variable (low + 256 * high)) tail (ltb-true (low + 256 * high) variables v, b) bs.1.1.1
            (variable_bytes tag low high tail bs.1.0 (omega (arith, leb-true tag 1 l, eqb-false tag 0 e)))

    terms_law : (bound : ℕ → Bool) (at left : ℕ) (rest : List ℕ) (next : List Term → List ℕ → Judged S) → Bytes rest
        → ((ts : List Term) (tail : List ℕ) → length ts ≡ left → All (GoodTerm bound) ts → Bytes tail → rest ≡ concat_map encode_term ts ++ tail → P (next ts tail))
        → P (terms n bound at left rest next)
    unfolding concat_map
    terms_law bound at zero rest next bs h = h [] rest refl tt bs refl
    terms_law bound at (suc left) rest next bs h =
        term_law bound at rest _ bs λ t rest₁ good bs₁ e₁.
        terms_law bound at left rest₁ (λ ts rest₂. next (t ∷ ts) rest₂) bs₁ λ ts rest₂ size goods bs₂ e₂.
        h (t ∷ ts) rest₂ (ap suc size) (good, goods) bs₂ (e₁ ∙ ap (λ (q : List ℕ). encode_term t ++ q) e₂)

    pub atom_law : (kinds : List Kind) (bound : ℕ → Bool) (at : ℕ) (rest : List ℕ) (next : Atom → List ℕ → Judged S) → Bytes rest
        → ((a : Atom) (tail : List ℕ) → GoodAtom kinds bound a → Bytes tail → rest ≡ (a.kind ∷ concat_map encode_term a.terms) ++ tail → P (next a tail))
        → P (atom n kinds bound at rest next)
    atom_law kinds bound at rest next bs h =
        byte_law rest _ bs λ kind rest₁ bs₁ e₁.
        demand_law (ltb kind (length kinds)) FIELD at _ λ declared.
        terms_law bound at (arity_of kinds kind) rest₁ (λ ts rest₂. next (record { kind = kind; terms = ts }) rest₂) bs₁ λ ts rest₂ size goods bs₂ e₂.
        h (record { kind = kind; terms = ts }) rest₂ (record { declared = ltb-true kind (length kinds) declared; arity = size; terms = goods }) bs₂
        (e₁ ∙ ap (λ (q : List ℕ). kind ∷ q) e₂)
