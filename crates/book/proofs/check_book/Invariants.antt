-- `check_book` judges record after record. The invariant: to go on with what is left is to judge the file. The measure: the length of what is left.
use lib.ListN.{length}
use Rattle.book.proofs.LoopLaws.{Turn}
use Rattle.book.proofs.check_book.Given as goal

abbrev pub invariant-loop-next : goal.invariant-loop-next
invariant-loop-next l = Turn l.book l.rest l.read

abbrev pub decreases-loop-next : goal.decreases-loop-next
decreases-loop-next l = length l.rest.bytes.now
