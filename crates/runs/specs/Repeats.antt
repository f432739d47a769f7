-- A run, one firing at a time, whatever it is that fires. `Going`: to go on from this board is the whole run.
use Prim.Native.Nat.{ℕ, zero, suc, ◌+◌, ◌-◌, ◌≤◌, ◌<◌}
use Rattle.std.proofs.Math.Nat.{sub-zero}
use native.Mathlib.Omega.{arith}
use Rattle.std.specs.Prelude.{◌≡◌}
use Rattle.std.proofs.Math.Path.{refl, ap}
use Rattle.std.proofs.Common.{sym, ◌∙◌}
use Rattle.meaning.specs.Facts.{Board}
use Rattle.meaning.specs.Firing.{Attempt, done, fired, Ran, Limit, no_rule, ended, go_on, repeat}

pub record Going (next : Board → Attempt) (start : Board) (limit : ℕ) (board : Board) (firings rule : ℕ) : Type 0 where
  pub few : firings ≤ limit
  pub same : repeat next (limit - firings) board firings rule ≡ repeat next limit start 0 no_rule

module _ (next : Board → Attempt) where
  -- what an attempt leads to, with so many firings left after it
  abbrev after : ℕ → Board → ℕ → ℕ → Attempt → Ran
  after left board firings rule a = go_on a board firings rule (λ rule' board'. repeat next left board' (suc firings) rule')

  last : (left : ℕ) (board : Board) (firings rule : ℕ) → left ≡ 0 → ended Limit board firings rule ≡ repeat next left board firings rule
  unfolding repeat
  last zero board firings rule e = refl
  last (suc left) board firings rule e = let bad : ⊥ = omega arith in absurd bad

  one : (left : ℕ) (board : Board) (firings rule : ℕ) (a : Attempt) → next board ≡ a → after left board firings rule a ≡ repeat next (suc left) board firings rule
  unfolding repeat
  one left board firings rule a e = ap (after left board firings rule) (sym e)

  pub going_start : (limit : ℕ) (board : Board) → Going next board limit board 0 no_rule
  going_start limit board = record { few = omega arith; same = ap (λ (n : ℕ). repeat next n board 0 no_rule) (sub-zero limit) }

  module _ (start : Board) (limit : ℕ) (board : Board) (firings rule : ℕ) (g : Going next start limit board firings rule) where
    pub going_limit : limit ≤ firings → ended Limit board firings rule ≡ repeat next limit start 0 no_rule
    going_limit h = last (limit - firings) board firings rule (omega arith) ∙ g.same

    -- what the attempt leads to is the whole run
    pub going_by : firings < limit → (a : Attempt) → next board ≡ a → after (limit - (firings + 1)) board firings rule a ≡ repeat next limit start 0 no_rule
    going_by h a e =
        let left : suc (limit - (firings + 1)) ≡ limit - firings = omega arith in
        one (limit - (firings + 1)) board firings rule a e ∙ ap (λ (n : ℕ). repeat next n board firings rule) left ∙ g.same

    pub going_on : firings < limit → (rule' : ℕ) (board' : Board) → next board ≡ done (fired rule' board') → Going next start limit board' (firings + 1) rule'
    going_on h rule' board' e =
        let more : firings + 1 ≡ suc firings = omega arith in
        record { few = omega arith; same = ap (λ (n : ℕ). repeat next (limit - (firings + 1)) board' n rule') more ∙ going_by h (done (fired rule' board')) e }
