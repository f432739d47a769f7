-- The entry answers as crates/files says.
use Rattle.std.proofs.Common.{ap, ◌∙◌}
use Rattle.answers.specs.Shown.{shown}
use Rattle.engine.proofs.Laws.{book_checked}
use Rattle.engine.proofs.llwybrenu_check_book.Goals as goal

pub returns : goal.returns
returns c = c.of_check.ensures ∙ ap shown (book_checked _ _ c.check_book.ensures)
