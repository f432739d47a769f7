-- The entry answers what the translation says, and the output is what the translation leaves.
use mathlib.Core.Path.{ap, ◌∙◌}
use Rattle.answers.specs.Shown.{shown}
use Rattle.engine.proofs.llwybrenu_translate.Goals as goal

pub returns : goal.returns
returns c = (
  c.of_translation.ensures ∙ ap shown c.translate.ensures.0,
  c.translate.ensures.1,
)
