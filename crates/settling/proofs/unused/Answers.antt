-- `unused` counts the cards that are not used. The invariant: what is counted, and what is left to count, make the whole.
use Rattle.std.proofs.Common.{arith}
use Rattle.settling.proofs.Settling.{count_stay, count-go, count-end}
use Rattle.settling.proofs.unused.Goals as goal
use Rattle.settling.proofs.unused.Goals.{then-used-row-eq0, else-used-row-eq0}

pub loop-row-preserved : goal.loop-row-preserved
loop-row-preserved c =
    elim c.if-used-row-eq0.branch [
      | then-used-row-eq0 w ↦ rw w.kept-is (search count_stay)
      | else-used-row-eq0 w ↦ rw w.kept-is (search count-go)
    ]

pub returns : goal.returns
returns c =
    let all = count-end _ _ _ _ _ c.loop-row.invariant c.loop-row-test.false in
    (omega arith, omega arith)
