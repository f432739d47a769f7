-- The numbers are put one by one.
use Rattle.screen.proofs.Laws.{numbers-next, numbers-end}
use Rattle.screen.proofs.Writer.put_numbers.Goals as goal

pub loop-number-preserved : goal.loop-number-preserved
loop-number-preserved c = search numbers-next

pub returns : goal.returns
returns c = search numbers-end
