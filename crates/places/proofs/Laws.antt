-- The loop over records: what is counted so far and what is left to count make the whole.
use Prim.Native.Nat.{ℕ, zero, suc, ◌+◌, ◌-◌, ◌≤◌, ◌<◌}
use native.Mathlib.Omega.{arith}
use mathlib.Core.Path.{◌≡◌, refl, sym, ap, ◌∙◌}
use mathlib.Core.Bool.{Bool, true, false}
use mathlib.Core.List.{List}
use Rattle.meaning.specs.Facts.{longest_book}
use Rattle.places.specs.Stands.{mark_stands, records_from}
use Rattle.places.specs.StandsLaws.{stands_near}

module _ (file mark : List ℕ) (after : ℕ → ℕ) where
  stop_here : (left n p : ℕ) → mark_stands file mark p ≡ false → record { count = n; next = p } ≡ records_from file mark after left n p
  unfolding records_from
  stop_here zero n p h = refl
  stop_here (suc left) n p h = rw h

  -- so many of the most are counted, and the rest counts from here
  pub record Counts (most at count next : ℕ) : Type 0 where
    pub within : count ≤ most
    pub rest : records_from file mark after (most - count) count next ≡ records_from file mark after most 0 at

  pub count-starts : (most at : ℕ) → Counts most at 0 at
  count-starts most at = record { within = omega arith; rest = ap (λ (left : ℕ). records_from file mark after left 0 at) (omega arith) }

  module _ (most at count next : ℕ) (c : Counts most at count next) where
    pub count-stops : (t : Bool) → t ≡ mark_stands file mark next → t ≡ false → record { count = count; next = next } ≡ records_from file mark after most 0 at
    count-stops t e h = stop_here (most - count) count next (sym e ∙ h) ∙ c.rest

    pub count-ends : most ≤ count → record { count = most; next = next } ≡ records_from file mark after most 0 at
    unfolding records_from
    count-ends h =
        let none : most - count ≡ 0 = omega (arith, c.within) in
        let all : most ≡ count = omega (arith, c.within) in
        ap (λ (n : ℕ). record { count = n; next = next }) all ∙ sym (ap (λ (left : ℕ). records_from file mark after left count next) none) ∙ c.rest

    pub count_near : (t : Bool) → t ≡ mark_stands file mark next → t ≡ true → next < longest_book
    count_near t e h = stands_near file mark next (sym e ∙ h)

    pub count-goes : count < most → (t : Bool) → t ≡ mark_stands file mark next → t ≡ true → (s : ℕ) → s ≡ after (next + 2)
        → Counts most at (count + 1) s
    unfolding records_from
    count-goes l t e h s q = record {
      within = omega arith;
      rest = by (most - count) (omega arith) c.rest;
    }
      where
        by : (left : ℕ) → left ≡ suc (most - (count + 1)) → records_from file mark after left count next ≡ records_from file mark after most 0 at
            → records_from file mark after (most - (count + 1)) (count + 1) s ≡ records_from file mark after most 0 at
        by zero z r = let bad : ⊥ = omega arith in absurd bad
        by (suc left) z r =
            let same : most - (count + 1) ≡ left = omega arith in
            let one : count + 1 ≡ suc count = omega arith in
            rw (same, one, q) (rw (sym e ∙ h) at r)
