-- `kinds` meets its contract. The loop's invariant, `Found`: the kinds found and those of the words that are left are all of them.
use Rattle.strip.proofs.FoundLaws.{Found}
use Rattle.strip.proofs.kinds.Given as goal

abbrev pub invariant-loop-i : goal.invariant-loop-i
invariant-loop-i l = Found l.strip l.size l.i l.found
