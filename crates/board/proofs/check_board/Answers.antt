-- `check_board` meets its contract. The loop's invariant, `Turn`: to go on from what is left is to judge the whole file.
-- What is left falls with each record; a law for each end.
use mathlib.Core.Path.{refl}
use Rattle.board.proofs.TurnLaws.{turn_start, card_read, notice_read, on_refused, on-end, on_trail}
use Rattle.board.proofs.check_board.Goals as goal

pub records-init : goal.records-init
records-init c = (turn_start _ _, refl)

pub records-preserved-in-Ok-Card : goal.records-preserved-in-Ok-Card
records-preserved-in-Ok-Card c = (card_read _ _ _ _ _ c.records.invariant.0 _ (rw c.in-Ok-Card.field-0-is at c.in-Ok-Card.ensures), c.records.invariant.1)

pub records-preserved : goal.records-preserved
records-preserved c = (notice_read _ _ _ _ _ c.records.invariant.0 _ (rw c.in-Ok-Notice.field-0-is at c.in-Ok-Notice.ensures), c.records.invariant.1)

pub returns-in-Ok-End : goal.returns-in-Ok-End
returns-in-Ok-End c = on-end _ _ _ _ _ c.records.invariant.0 (rw c.in-Ok-End.field-0-is at c.in-Ok-End.ensures) c.if-rest-eq2.true

pub returns-in-Ok-End-2 : goal.returns-in-Ok-End-2
returns-in-Ok-End-2 c = rw c.refusal.ensures (on_trail _ _ _ _ _ c.records.invariant.0 (rw c.in-Ok-End.field-0-is at c.in-Ok-End.ensures) c.if-rest-eq2.false)

pub returns-in-Err : goal.returns-in-Err
returns-in-Err c = rw c.refusal-in-Err.ensures (on_refused _ _ _ _ _ c.records.invariant.0 _ c.in-Err.ensures)
