-- `lay` goes through the made facts. The invariant: what is laid, then what is left, is the whole.
use Rattle.kinds.specs.Listed.{kinds_of}
use Rattle.machine.proofs.LayLaws.{Laying}
use Rattle.machine.proofs.firing.lay.Given as goal

abbrev pub invariant-loop-from : goal.invariant-loop-from
invariant-loop-from l =
    Laying (kinds_of l.kinds) l.card l.made.kind l.made.numbers l.n l.first l.initial.kind l.initial.numbers l.kind l.numbers l.from l.to
