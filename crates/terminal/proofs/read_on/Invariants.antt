-- `read_on` reads on while there is room. The measure: the room that is left.
use Rattle.std.proofs.Common.{◌-◌, ◌≤◌, length}
use Rattle.terminal.proofs.read_on.Given as goal

abbrev pub invariant-loop-done : goal.invariant-loop-done
invariant-loop-done l = l.done ≤ length l.out

abbrev pub decreases-loop-done : goal.decreases-loop-done
decreases-loop-done l = length l.out - l.done
