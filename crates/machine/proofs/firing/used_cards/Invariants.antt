-- `used_cards`: the marks behind are taken over.
use Rattle.machine.proofs.LayLaws.{Using}
use Rattle.machine.specs.Represents.{marks_of}
use Rattle.machine.proofs.firing.used_cards.Given as goal

abbrev pub invariant-loop-row : goal.invariant-loop-row
invariant-loop-row l = Using (marks_of l.marks) l.used l.row
