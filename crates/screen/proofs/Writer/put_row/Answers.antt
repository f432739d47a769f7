-- The pieces of the line are put one behind another, and are those of the fact.
use Rattle.screen.proofs.Laws.{row_put}
use Rattle.screen.proofs.Writer.put_row.Goals as goal

pub returns : goal.returns
returns c = search row_put
