-- `append` writes the made cards. The invariant: what is left to write, into the arrays as they are, gives the whole.
use mathlib.Core.Path.{refl}
use Rattle.settling.proofs.Settling.{append_next, append_end}
use Rattle.settling.proofs.append.Goals as goal

pub loop-row-preserved : goal.loop-row-preserved
loop-row-preserved c = search append_next

pub returns : goal.returns
returns c =
    let end = append_end _ _ _ _ _ _ _ _ _ c.loop-row.invariant c.loop-row-test.false in
    (refl, end.0, end.1)
