-- The bytes are put one by one.
use Rattle.screen.proofs.Laws.{puts_none, bytes_next}
use Rattle.screen.proofs.Writer.put.Goals as goal

pub loop-byte-init : goal.loop-byte-init
loop-byte-init c = search puts_none

pub loop-byte-preserved : goal.loop-byte-preserved
loop-byte-preserved c = search bytes_next
