-- The pieces of the line are put one behind another.
use Rattle.screen.specs.Put.{put_append}
use Rattle.screen.proofs.Writer.put_end.Goals as goal

pub returns : goal.returns
returns c = record { lent = cc; output = simp put_append (cc) }
