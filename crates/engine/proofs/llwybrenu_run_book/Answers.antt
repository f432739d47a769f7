-- The entry answers what the run says, and the output is what the run leaves.
use mathlib.Core.Path.{ap, ◌∙◌}
use Rattle.answers.specs.Shown.{shown}
use Rattle.engine.proofs.llwybrenu_run_book.Goals as goal

pub returns : goal.returns
returns c = (
  c.of_run.ensures ∙ ap shown c.run_book.ensures.answer,
  c.run_book.ensures.bytes,
)
