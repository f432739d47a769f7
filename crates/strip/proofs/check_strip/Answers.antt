-- `check_strip` meets its contract. The loop's invariant, `Going`: to judge the words that are left is to judge the file.
use mathlib.Core.Path.{sym}
use native.Mathlib.Omega.{arith}
use Rattle.strip.proofs.GoingLaws.{empty, too_long, uneven, going_start, unknown_code, word_refused, not-last, word_good, all-good}
use Rattle.strip.proofs.check_strip.Goals as goal
use Rattle.strip.proofs.check_strip.Goals.{then-n-eq0-via-then-n-eq0, then-n-eq0-via-else-n-eq0+then-n-gt-LONGEST, then-n-eq0-via-else-n-eq0+else-n-gt-LONGEST+then-n-ne0, in_default-via-in-Ok+then-is_good+else-may_be_last, in_default-via-in-Ok+else-is_good, in_default-via-in_default}

pub returns-then-n-eq0 : goal.returns-then-n-eq0
returns-then-n-eq0 c =
    rw c.refusal.ensures
    (elim c.then-n-eq0.branch [
      | then-n-eq0-via-then-n-eq0 w ↦ empty _ (omega arith)
      | then-n-eq0-via-else-n-eq0+then-n-gt-LONGEST w ↦ too_long _ (omega arith) (omega arith)
      | then-n-eq0-via-else-n-eq0+else-n-gt-LONGEST+then-n-ne0 w ↦ uneven _ (omega arith) (omega arith) (omega arith)
    ])

pub loop-i-init : goal.loop-i-init
loop-i-init c = search going_start

pub returns-in_default : goal.returns-in_default
returns-in_default c =
    rw c.refusal-in_default.ensures
    (elim c.in_default.branch [
      | in_default-via-in-Ok+then-is_good+else-may_be_last w ↦ not-last _ _ _ _ c.loop-i.invariant _ w.in-Ok.ensures (omega arith) (sym w.if-is_good.ensures) (sym w.if-may_be_last.ensures)
      | in_default-via-in-Ok+else-is_good w ↦ word_refused _ _ _ _ c.loop-i.invariant _ w.in-Ok.ensures (omega arith) (sym w.if-is_good.ensures)
      | in_default-via-in_default w ↦ unknown_code _ _ _ _ c.loop-i.invariant (omega arith) w.in_default.ensures
    ])

pub loop-i-preserved : goal.loop-i-preserved
loop-i-preserved c =
    word_good _ _ _ _ c.loop-i.invariant _ c.in-Ok.ensures (omega arith) (sym c.if-is_good.ensures) (sym c.if-may_be_last.ensures) _
    c.with-before.ensures

pub returns : goal.returns
returns c = search all-good
