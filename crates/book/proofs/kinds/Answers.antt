-- `kinds` reads kind after kind. The invariant: the kinds that are read and those that are left are all kinds.
use native.Mathlib.Omega.{arith}
use mathlib.Core.Path.{◌∙◌, ap}
use Rattle.book.proofs.KindsLaws.{count_start, count_past, count_stops, count_goes}
use Rattle.book.proofs.kinds.Goals as goal

pub loop-kd-init : goal.loop-kd-init
loop-kd-init c = rw (c.into_iter-kd-iterator.ensures.into_iter_gives, c.take-kd-items.ensures.source, c.take-kd-items.ensures.count)
    (count_start _ _ c.chunks.ensures.rest _ c.none-kinds.ensures, c.chunks.ensures.size, omega (arith, ap (λ k. k.count) c.none-kinds.ensures))

pub loop-kd-preserved : goal.loop-kd-preserved
loop-kd-preserved c =
    let h = c.loop-kd.invariant in
    let e = c.in-Some.ensures.steps in
    let s = count_goes _ _ _ h.0 _ h.1 _ _ e.0.1.0 e.0.1.1 _ c.starts_with.ensures c.if-not-starts_with.false (omega (arith, h.2, e.1)) _ _
    c.byte_at.ensures c.byte_at-in-loop-kd.ensures _ c.with-kinds.ensures in
    (s.0, e.0.0 ∙ h.1, omega (arith, s.1, h.2, e.1))

pub returns-in-None : goal.returns-in-None
returns-in-None c = count_past _ _ _ c.loop-kd.invariant.0 _ c.loop-kd.invariant.2 (λ p. (c.in-None.ensures.steps p).1.0)

pub returns-then-not-starts_with : goal.returns-then-not-starts_with
returns-then-not-starts_with c =
    let h = c.loop-kd.invariant in
    let e = c.in-Some.ensures.steps in
    count_stops _ _ _ h.0 _ h.1 _ _ e.0.1.0 e.0.1.1 _ c.starts_with.ensures c.if-not-starts_with.true
