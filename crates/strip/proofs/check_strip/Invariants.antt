-- `check_strip` meets its contract. The loop's invariant, `Going`: to judge the words that are left is to judge the file.
use Rattle.strip.specs.Says.{earlier_of}
use Rattle.strip.proofs.GoingLaws.{Going}
use Rattle.strip.proofs.check_strip.Given as goal

abbrev pub invariant-loop-i : goal.invariant-loop-i
invariant-loop-i l = Going l.strip l.size l.i (earlier_of l.before)
