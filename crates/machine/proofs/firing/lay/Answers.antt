-- `lay` goes through the made facts. The invariant: what is laid, then what is left, is the whole.
use native.Mathlib.Omega.{arith}
use Rattle.machine.proofs.LayLaws.{lay_start, lay_end, lay_pass, lay_room, lay_put}
use Rattle.machine.proofs.firing.lay.Goals.{then-is_of_class, else-is_of_class}
use Rattle.machine.proofs.firing.lay.Goals as goal

pub loop-from-init : goal.loop-from-init
loop-from-init c = search lay_start

pub overflow_add-to : goal.overflow_add-to
overflow_add-to c = omega (arith, lay_room _ _ _ _ _ _ _ _ _ _ _ _ c.loop-from.invariant c.loop-from-test.true _ c.is_of_class.ensures c.if-is_of_class.true c.requires.4, c.loop-from.invariant.rows, c.requires.2)

pub loop-from-preserved : goal.loop-from-preserved
loop-from-preserved c = elim c.if-is_of_class.branch [
  | then-is_of_class w ↦ rw (w.kind-is, w.numbers-is, w.to-is)
      (lay_put _ _ _ _ _ _ _ _ _ _ _ _ c.loop-from.invariant c.loop-from-test.true _ c.is_of_class.ensures w.if-is_of_class.true c.requires.4 c.requires.3 _ _ (rw w.fact_at-fact.ensures.0 at w.put_fact.ensures.0) (rw w.fact_at-fact.ensures.1 at w.put_fact.ensures.1))
  | else-is_of_class w ↦ rw (w.kind-is, w.numbers-is, w.to-is)
      (lay_pass _ _ _ _ _ _ _ _ _ _ _ _ c.loop-from.invariant c.loop-from-test.true _ c.is_of_class.ensures (c.requires.1 _ c.loop-from-test.true) w.if-is_of_class.false)
]

pub returns : goal.returns
returns c = search lay_end
