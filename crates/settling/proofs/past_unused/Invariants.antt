-- `past_unused` passes eight cards at a time. The invariant: every card passed is not used. The measure: how many cards are left.
use Prim.Native.Nat.{◌≤◌, ◌-◌}
use Rattle.settling.specs.Stretches.{AllUnused}
use Rattle.settling.proofs.past_unused.Given as goal

abbrev pub invariant-loop-row : goal.invariant-loop-row
invariant-loop-row l = (l.from ≤ l.row) × (l.row ≤ l.cards) × AllUnused l.used l.from l.row

abbrev pub decreases-loop-row : goal.decreases-loop-row
decreases-loop-row l = l.cards - l.row
