-- Sets of variables: none, all, and one more.
use Prim.Native.Nat.{ℕ, zero, suc, ◌+◌, ◌-◌, ◌*◌, ◌/◌, ◌%◌, ◌^◌, ◌≤◌, ◌<◌, max}
use native.Mathlib.Nat.{mod-eq_of_lt, div-eq_of_lt, mul-div_cancel, one-mul, pow-succ'}
use native.Mathlib.Omega.{arith}
use mathlib.Core.Path.{◌≡◌, refl, ap, ◌∙◌}
use mathlib.Core.Bool.{Bool, true, false, ◌&&◌, ◌||◌, or-true, or-false}
use lib.Pow.{pow_pos, pow-lt, pow-add}
use lib.Bits.{bit_or, or_shr, or_step}
use lib.Dec.{eqb, ltb}
use borrow.Author.Tests.{eq-eqb, eqb-true, eqb-false, ltb-true, ltb-false}
use Rattle.meaning.specs.Facts.{variables}
use Rattle.book.specs.Sets.{is_in, with_variable, all_variables}

pub in_none : (v : ℕ) → is_in 0 v ≡ false
unfolding is_in
in_none v = rw (div-eq_of_lt (pow_pos v))

-- each of them by computing
abbrev all_below : ℕ → (ℕ → Bool) → Bool
all_below zero test = true
all_below (suc n) test = test n && all_below n test

below : (n : ℕ) (test : ℕ → Bool) → all_below n test ≡ true → (v : ℕ) → v < n → test v ≡ true
below zero test e v h = let bad : ⊥ = omega arith in absurd bad
below (suc n) test e v h = by (eqb v n) refl (test n) refl e (λ f l. below n test f v l)
  where
    by : (b : Bool) → eqb v n ≡ b → (t : Bool) → test n ≡ t → (t && all_below n test) ≡ true → (all_below n test ≡ true → v < n → test v ≡ true)
        → test v ≡ true
    by true p true q f more = ap test (eqb-true v n p) ∙ q
    by false p true q f more = let o = eqb-false v n p in more f (omega arith)
    by b p false q f more = let z : ◌≡◌ {A = ℕ} 0 1 = cc in let bad : ⊥ = omega arith in absurd bad

pub in_all : (v : ℕ) → v < variables → is_in all_variables v ≡ true
unfolding is_in
in_all v h = below variables (is_in all_variables) refl v h

-- ---- one more

pub one_shifted : (v : ℕ) → v < variables → 1 * 2 ^ v % 2 ^ 16 ≡ 2 ^ v
one_shifted v h = let l : v < 16 = omega arith in rw one-mul (mod-eq_of_lt (pow-lt l))

or_bit : (a b k : ℕ) → bit_or a b / 2 ^ k % 2 ≡ max (a / 2 ^ k % 2) (b / 2 ^ k % 2)
or_bit a b k = rw (or_shr, or_step (a / 2 ^ k) (b / 2 ^ k)) (low (bit_or (a / 2 ^ k / 2) (b / 2 ^ k / 2)) (a / 2 ^ k) (b / 2 ^ k))
  where
    low : (q x y : ℕ) → (q * 2 + max (x % 2) (y % 2)) % 2 ≡ max (x % 2) (y % 2)
    low q x y = omega arith

power_bit : (v : ℕ) → 2 ^ v / 2 ^ v % 2 ≡ 1
power_bit v = let e : 1 * 2 ^ v / 2 ^ v ≡ 1 = mul-div_cancel 1 (pow_pos v) in let f : 2 ^ v / 2 ^ v ≡ 1 = rw one-mul at e in rw f

power_other : (v w : ℕ) → (w ≡ v → ⊥) → 2 ^ v / 2 ^ w % 2 ≡ 0
power_other v w n = by (ltb v w) refl
  where
    above : (d : ℕ) → 2 ^ (suc d + w) / 2 ^ w % 2 ≡ 0
    above d =
        let e : 2 ^ suc d * 2 ^ w / 2 ^ w ≡ 2 ^ suc d = mul-div_cancel (2 ^ suc d) (pow_pos w) in
        rw (pow-add 2 (suc d) w, e, pow-succ' 2 d) (omega arith)

    by : (b : Bool) → ltb v w ≡ b → 2 ^ v / 2 ^ w % 2 ≡ 0
    by true e = rw (div-eq_of_lt (pow-lt (ltb-true v w e)))
    by false e =
        let h : w ≤ v = ltb-false v w e in
        let d : v ≡ suc (v - suc w) + w = omega arith in
        rw d (above (v - suc w))

pub in_with : (set v w : ℕ) → is_in (with_variable set v) w ≡ (is_in set w || eqb w v)
unfolding is_in with_variable
in_with set v w = by (eqb w v) refl
  where
    by : (b : Bool) → eqb w v ≡ b → eqb (bit_or set (2 ^ v) / 2 ^ w % 2) 1 ≡ (eqb (set / 2 ^ w % 2) 1 || b)
    by true e =
        let p : w ≡ v = eqb-true w v e in
        let one : 2 ^ v / 2 ^ w % 2 ≡ 1 = rw p (power_bit v) in
        let m : max (set / 2 ^ w % 2) 1 ≡ 1 = omega arith in
        rw (or_bit set (2 ^ v) w, one, m, or-true (eqb (set / 2 ^ w % 2) 1)) (eq-eqb 1 1 refl)
    by false e =
        let none : 2 ^ v / 2 ^ w % 2 ≡ 0 = power_other v w (eqb-false w v e) in
        let m : max (set / 2 ^ w % 2) 0 ≡ set / 2 ^ w % 2 = omega arith in
        rw (or_bit set (2 ^ v) w, none, m, or-false (eqb (set / 2 ^ w % 2) 1))
