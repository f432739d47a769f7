-- The rows of a class are put one by one.
use Rattle.screen.proofs.Laws.{rows-stop, rows_end, rows_next}
use Rattle.screen.proofs.Writer.put_rows.Goals as goal

pub returns-then-not-is_marked : goal.returns-then-not-is_marked
returns-then-not-is_marked c = search rows-stop

pub loop-row-preserved : goal.loop-row-preserved
loop-row-preserved c = search rows_next

pub returns : goal.returns
returns c = search rows_end
