-- The entry answers as crates/files says.
use Rattle.std.proofs.Common.{ap, ◌∙◌}
use Rattle.answers.specs.Shown.{shown}
use Rattle.engine.proofs.Laws.{strip_checked}
use Rattle.engine.proofs.llwybrenu_check_strip.Goals as goal

pub returns : goal.returns
returns c = c.of_check.ensures ∙ ap shown (strip_checked _ _ c.check_strip.ensures)
