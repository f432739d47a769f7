-- The lent bytes are those that the writer has put text into.
use mathlib.Core.Path.{refl, sym}
use Rattle.screen.proofs.Laws.{text_put}
use Rattle.screen.proofs.text.Goals as goal

pub returns : goal.returns
returns c = text_put _ _ _ _ _ c.put_answer.ensures refl (c.out-1.given.1.1 (sym c.put_answer.ensures.lent))
