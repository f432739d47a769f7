-- `move_stretch` finds the next used card and moves the rows before it.
use Rattle.std.proofs.Common.{arith}
use Rattle.settling.proofs.Settling.{stretch_moved}
use Rattle.settling.proofs.move_stretch.Goals as goal

pub returns : goal.returns
returns c =
    stretch_moved _ _ _ _ _ _ _ _ _ _ _ _ (omega arith) c.next_used-next.ensures (omega arith) (omega arith) (omega arith) (omega arith) (omega arith)
    c.copy_within.ensures.after
    c.copy_within-2.ensures.after
