-- The made facts laid out: one of the class is copied behind those before it, another is passed over; what is laid, then what is left, is the whole.
use Rattle.std.specs.Prelude.{if◌then◌else◌}
use Prim.Native.Nat.{ℕ, suc, ◌+◌, ◌*◌, ◌-◌, ◌≤◌, ◌<◌}
use native.Mathlib.Nat.{sub-zero}
use native.Mathlib.Numerals.{add-one}
use native.Mathlib.Omega.{arith}
use mathlib.Core.Path.{◌≡◌, refl, sym, ap, ap₂, ◌∙◌}
use mathlib.Core.Bool.{Bool, true, false, not, ◌&&◌}
use mathlib.Core.List.{List, [], ◌∷◌, ◌++◌, append-nil, append_assoc}
use lib.ListN.{length, get_or, set, replicate, length-set, length-append, length-replicate}
use lib.Seq.{get_or-set_same, get_or-set_other}
use lib.Dec.{eqb, ltb}
use mir.Val.{bool_byte}
use borrow.Author.Tests.{lt-ltb}
use native.Mathlib.Decide.{ℕ_discrete}
use Rattle.meaning.specs.Facts.{Kind, Fact, is_card}
use Rattle.meaning.specs.Firing.{of_class}
use Rattle.files.specs.Board.{is_of_class}
use Rattle.rows.specs.Held.{four_from, row_at, fact_in, fact_of, rows_from, facts_from, with_four}
use Rattle.rows.specs.HeldLaws.{four-length, row_placed, rows_before, facts_more, facts-before, facts-length}
use Rattle.settling.specs.Settles.{used_in}
use Rattle.machine.specs.Represents.{used_of}
use Rattle.machine.specs.Firings.{made_facts, ClassLaid}

-- ---- a fact of the class, or of the other

module _ (kinds : List Kind) (f : Fact) (more : List Fact) where
  pub class_in : (card : Bool) → is_of_class kinds card f.kind ≡ true → of_class kinds card (f ∷ more) ≡ f ∷ of_class kinds card more
  unfolding of_class
  class_in true e = by (ltb f.kind (length kinds)) (is_card kinds f.kind) e
    where
      by : (a b : Bool) → (a && b) ≡ true → (if b then f ∷ of_class kinds true more else of_class kinds true more) ≡ f ∷ of_class kinds true more
      by true true q = refl
      by true false q = let z : ◌≡◌ {A = ℕ} 0 1 = cc in let bad : ⊥ = omega arith in absurd bad
      by false b q = let z : ◌≡◌ {A = ℕ} 0 1 = cc in let bad : ⊥ = omega arith in absurd bad
  class_in false e = by (ltb f.kind (length kinds)) (is_card kinds f.kind) e
    where
      by : (a b : Bool) → (a && not b) ≡ true → (if b then of_class kinds false more else f ∷ of_class kinds false more) ≡ f ∷ of_class kinds false more
      by true false q = refl
      by true true q = let z : ◌≡◌ {A = ℕ} 0 1 = cc in let bad : ⊥ = omega arith in absurd bad
      by false b q = let z : ◌≡◌ {A = ℕ} 0 1 = cc in let bad : ⊥ = omega arith in absurd bad

  pub class_out : (card : Bool) → f.kind < length kinds → is_of_class kinds card f.kind ≡ false → of_class kinds card (f ∷ more) ≡ of_class kinds card more
  unfolding of_class
  class_out true h e = by (is_card kinds f.kind) (sym (ap (λ (t : Bool). t && is_card kinds f.kind) (lt-ltb f.kind (length kinds) h)) ∙ e)
    where
      by : (b : Bool) → (true && b) ≡ false → (if b then f ∷ of_class kinds true more else of_class kinds true more) ≡ of_class kinds true more
      by true q = let z : ◌≡◌ {A = ℕ} 0 1 = cc in let bad : ⊥ = omega arith in absurd bad
      by false q = refl
  class_out false h e = by (is_card kinds f.kind) (sym (ap (λ (t : Bool). t && not (is_card kinds f.kind)) (lt-ltb f.kind (length kinds) h)) ∙ e)
    where
      by : (b : Bool) → (true && not b) ≡ false → (if b then of_class kinds false more else f ∷ of_class kinds false more) ≡ of_class kinds false more
      by true q = refl
      by false q = let z : ◌≡◌ {A = ℕ} 0 1 = cc in let bad : ⊥ = omega arith in absurd bad

-- ---- the loop

module _ (kinds : List Kind) (card : Bool) (made_kind made_numbers : List ℕ) (n first : ℕ) (kind₀ numbers₀ : List ℕ) where
  abbrev all : List Fact
  all = of_class kinds card (made_facts kinds made_kind made_numbers n)

  -- the facts from one on that are left
  abbrev left : ℕ → List Fact
  left next = of_class kinds card (facts_from kinds made_kind made_numbers next (n - next))

  pub record Laying (kind numbers : List ℕ) (next to : ℕ) : Type 0 where
    pub turn : next ≤ n
    pub from : first ≤ to
    pub rows : length kind ≡ length kind₀
    pub places : length numbers ≡ length numbers₀
    pub is : facts_from kinds kind numbers first (to - first) ++ left next ≡ all
    pub kept : (r m : ℕ) → r + m ≤ first → rows_from kind numbers r m ≡ rows_from kind₀ numbers₀ r m

  pub lay_start : Laying kind₀ numbers₀ 0 first
  unfolding facts_from
  lay_start =
      let none : first - first ≡ 0 = omega arith in
      record {
        turn = omega arith;
        from = omega arith;
        rows = refl;
        places = refl;
        is = rw (none, sub-zero n);
        kept = λ r m h. refl;
      }

  module _ (kind numbers : List ℕ) (next to : ℕ) (l : Laying kind numbers next to) where
    pub lay_end : n ≤ next → ClassLaid kinds card made_kind made_numbers n first kind₀ numbers₀ kind numbers
    unfolding facts_from of_class
    lay_end h =
        let nothing : n - next ≡ 0 = omega arith in
        let none : left next ≡ [] = ap (λ (m : ℕ). of_class kinds card (facts_from kinds made_kind made_numbers next m)) nothing ∙ empty card in
        let whole : facts_from kinds kind numbers first (to - first) ≡ all =
        sym (append-nil (facts_from kinds kind numbers first (to - first))) ∙ ap (λ (r : List Fact). facts_from kinds kind numbers first (to - first) ++ r) (sym none) ∙ l.is in
        let size : length all ≡ to - first = ap (λ (r : List Fact). length r) (sym whole) ∙ facts-length kinds kind numbers first (to - first) in
        record {
          is = ap (facts_from kinds kind numbers first) size ∙ whole;
          rows = l.rows;
          places = l.places;
          kept = l.kept;
        }
      where
        empty : (c : Bool) → of_class kinds c [] ≡ []
        empty true = refl
        empty false = refl

    module _ (h : next < n) where
      split : facts_from kinds made_kind made_numbers next (n - next) ≡ fact_of kinds made_kind made_numbers next ∷ facts_from kinds made_kind made_numbers (next + 1) (n - (next + 1))
      unfolding facts_from
      split =
          let one : n - next ≡ suc (n - (next + 1)) = omega arith in
          rw (one, add-one next)

      module _ (t : Bool) (is-class : t ≡ is_of_class kinds card (get_or made_kind next 0)) where
        pub lay_pass : get_or made_kind next 0 < length kinds → t ≡ false → Laying kind numbers (next + 1) to
        lay_pass d e = record {
          turn = omega arith;
          from = l.from;
          rows = l.rows;
          places = l.places;
          is = ap (λ (r : List Fact). facts_from kinds kind numbers first (to - first) ++ r)
              (sym (ap (of_class kinds card) split ∙ class_out kinds (fact_of kinds made_kind made_numbers next) (facts_from kinds made_kind made_numbers (next + 1) (n - (next + 1))) card d (sym is-class ∙ e)))
              ∙ l.is;
          kept = l.kept;
        }

        module _ (e : t ≡ true) where
          here : left next ≡ fact_of kinds made_kind made_numbers next ∷ left (next + 1)
          here = ap (of_class kinds card) split ∙ class_in kinds (fact_of kinds made_kind made_numbers next) (facts_from kinds made_kind made_numbers (next + 1) (n - (next + 1))) card (sym is-class ∙ e)

          pub lay_room : first + length all ≤ length kind₀ → to < length kind
          lay_room room =
              let whole = ap (λ (r : List Fact). length r) (sym l.is) ∙ length-append (facts_from kinds kind numbers first (to - first)) (left next) in
              let some = ap (λ (r : List Fact). length r) here in
              omega (arith, whole, some, facts-length kinds kind numbers first (to - first), l.from, l.rows)

          pub lay_places : first + length all ≤ length kind₀ → length numbers₀ ≡ 4 * length kind₀ → 4 * to + 4 ≤ length numbers
          lay_places room four = omega (arith, lay_room room, l.rows, l.places)

          pub lay_put : first + length all ≤ length kind₀ → length numbers₀ ≡ 4 * length kind₀ → (kind' numbers' : List ℕ) → kind' ≡ set kind to (get_or made_kind next 0)
              → numbers' ≡ with_four numbers (4 * to) (four_from made_numbers (4 * next)) → Laying kind' numbers' (next + 1) (to + 1)
          lay_put room four kind' numbers' p q =
              let k = get_or made_kind next 0 in
              let numbers_of = four_from made_numbers (4 * next) in
              let kind₁ = set kind to k in
              let numbers₁ = with_four numbers (4 * to) numbers_of in
              let size : to + 1 - first ≡ suc (to - first) = omega (arith, l.from) in
              let at : first + (to - first) ≡ to = omega (arith, l.from) in
              let new : fact_of kinds kind₁ numbers₁ (first + (to - first)) ≡ fact_of kinds made_kind made_numbers next =
              ap (fact_of kinds kind₁ numbers₁) at ∙ ap (fact_in kinds) (row_placed kind numbers to (row_at made_kind made_numbers next) (lay_room room) (lay_places room four)) in
              let old : facts_from kinds kind₁ numbers₁ first (to - first) ≡ facts_from kinds kind numbers first (to - first) =
              facts-before kinds kind numbers to k numbers_of first (to - first) (omega arith) in
              let more : facts_from kinds kind₁ numbers₁ first (to + 1 - first) ≡ facts_from kinds kind numbers first (to - first) ++ (fact_of kinds made_kind made_numbers next ∷ []) =
              ap (facts_from kinds kind₁ numbers₁ first) size ∙ facts_more kinds kind₁ numbers₁ first (to - first) ∙ ap₂ (λ (r : List Fact) (f : Fact). r ++ (f ∷ [])) old new in
              rw (p, q) (record {
                turn = omega arith;
                from = omega (arith, l.from);
                rows = length-set kind to k ∙ l.rows;
                places = four-length numbers (4 * to) numbers_of ∙ l.places;
                is = ap (λ (r : List Fact). r ++ left (next + 1)) more
                    ∙ append_assoc (facts_from kinds kind numbers first (to - first)) (fact_of kinds made_kind made_numbers next ∷ []) (left (next + 1))
                    ∙ ap (λ (r : List Fact). facts_from kinds kind numbers first (to - first) ++ r) (sym here)
                    ∙ l.is;
                kept = λ r m b. rows_before kind numbers to k numbers_of r m (omega (arith, l.from)) ∙ l.kept r m b;
              })

-- ---- the used cards

-- the marks before the next are taken over
pub record Using (marks used : List ℕ) (next : ℕ) : Type 0 where
  pub turn : next ≤ 256
  pub size : length used ≡ 256
  pub done : (row : ℕ) → row < next → used_in used row ≡ used_of marks row

-- a byte that says so
pub byte_says : (b : Bool) → not (eqb (bool_byte b) 0) ≡ b
byte_says true = refl
byte_says false = refl

pub using_put : (marks used : List ℕ) (next : ℕ) → Using marks used next → next < 256 → (v : ℕ) → not (eqb v 0) ≡ eqb (get_or marks next 0) 2
    → (used' : List ℕ) → used' ≡ set used next v → Using marks used' (next + 1)
using_put marks used next l h v e used' p = rw p (record {
  turn = omega arith;
  size = length-set used next v ∙ l.size;
  done = λ row b. by row b (ℕ_discrete row next);
})
  where
    by : (row : ℕ) → row < next + 1 → Dec (row ≡ next) → used_in (set used next v) row ≡ used_of marks row
    by row b (yes q) = rw (q, get_or-set_same used next v 0 (omega (arith, l.size))) e
    by row b (no q) = ap (λ (x : ℕ). not (eqb x 0)) (get_or-set_other used next row v 0 q) ∙ l.done row (omega (arith, q))

pub using_start : (marks : List ℕ) → Using marks (replicate 256 0) 0
using_start marks = record {
  turn = omega arith;
  size = length-replicate {A = ℕ} 256 0;
  done = λ row b. let bad : ⊥ = omega arith in absurd bad;
}

pub using_end : (marks used : List ℕ) (next : ℕ) → Using marks used next → 256 ≤ next → (row : ℕ) → row < 256 → used_in used row ≡ used_of marks row
using_end marks used next l h row b = l.done row (omega arith)
