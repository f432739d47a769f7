-- `row_fields` judges the kind, then whether the numbers are there: a law for each answer.
use native.Mathlib.Omega.{arith}
use mathlib.Core.Path.{◌∙◌}
use Rattle.board.proofs.RowLaws.{too_short, whole}
use Rattle.board.proofs.row_fields.Goals as goal

pub returns-then-rest-end : goal.returns-then-rest-end
returns-then-rest-end c =
    too_short _ _ _ _ _ _ (grind (arith, c.is_empty.ensures, c.if-is_empty), c.byte_at-kind.ensures) c.is_of_class.ensures c.if-not-is_of_class.false (c.from.ensures ∙ c.arity_of.ensures)
    c.if-rest-end.true

pub returns : goal.returns
returns c =
    whole _ _ _ _ _ _ (grind (arith, c.is_empty.ensures, c.if-is_empty), c.byte_at-kind.ensures) c.is_of_class.ensures c.if-not-is_of_class.false (c.from.ensures ∙ c.arity_of.ensures)
    c.if-rest-end.false
