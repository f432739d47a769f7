-- `records` counts records: what is counted and what is left make the whole.
use native.Mathlib.Omega.{arith}
use Rattle.places.proofs.Laws.{count-stops, count-ends, count_near, count-goes}
use Rattle.places.proofs.records.Goals as goal

pub returns-then-not-is_marked : goal.returns-then-not-is_marked
returns-then-not-is_marked g c = λ h k. count-stops _ _ _ _ _ _ _ (c.loop-count.invariant h k) _ c.is_marked.ensures c.if-not-is_marked.true

pub loop-count-preserved : goal.loop-count-preserved
loop-count-preserved g c = λ h k.
    let so_far = c.loop-count.invariant h k in
    let near = count_near _ _ _ _ _ _ _ so_far _ c.is_marked.ensures c.if-not-is_marked.false in
    count-goes _ _ _ _ _ _ _ so_far c.loop-count-test.true _ c.is_marked.ensures c.if-not-is_marked.false _
    (k _ _ (omega (arith, near)) c.after-next.ensures)

pub returns : goal.returns
returns g c = λ h k. count-ends _ _ _ _ _ _ _ (c.loop-count.invariant h k) c.loop-count-test.false
