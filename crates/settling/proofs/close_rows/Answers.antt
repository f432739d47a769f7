-- `close_rows` moves the cards that stay down, in their order. The invariant: what is left to move, read from the arrays as they are and written where
-- the next row goes, gives the whole.
use Rattle.settling.proofs.Settling.{close_stay, close_go, close_end}
use Rattle.settling.proofs.close_rows.Goals as goal
use Rattle.settling.proofs.close_rows.Goals.{then-used-from-eq0, else-used-from-eq0}

pub loop-from-preserved : goal.loop-from-preserved
loop-from-preserved c =
    elim c.if-used-from-eq0.branch [
      | then-used-from-eq0 w ↦ rw (w.rows-is, w.to-is) (search close_stay)
      | else-used-from-eq0 w ↦ rw (w.rows-is, w.to-is) (search close_go)
    ]

pub returns : goal.returns
returns c =
    let end = close_end _ _ _ _ _ _ _ _ _ c.loop-from.invariant c.loop-from-test.false in
    record { answer = end.0; kinds = end.1; places = end.2 }
