-- `close_rows` moves the cards that stay down, in their order. The invariant: what is left to move, read from the arrays as they are and written where
-- the next row goes, gives the whole.
use Prim.Native.Nat.{◌+◌, ◌-◌}
use Rattle.rows.specs.Held.{kinds_with, numbers_with}
use Rattle.settling.specs.Settles.{kept_count}
use Rattle.settling.specs.Stretches.{kept_from}
use Rattle.settling.proofs.Settling.{Closing}
use Rattle.settling.proofs.close_rows.Given as goal

abbrev pub invariant-loop-from : goal.invariant-loop-from
invariant-loop-from l =
    Closing l.used l.cards (l.first + kept_count l.used l.start (l.cards - l.start)) (kinds_with l.initial.rows.kind l.first (kept_from l.initial.rows.kind l.initial.rows.numbers l.used l.start l.cards)) (numbers_with l.initial.rows.numbers l.first (kept_from l.initial.rows.kind l.initial.rows.numbers l.used l.start l.cards)) l.rows.kind l.rows.numbers l.to l.from
