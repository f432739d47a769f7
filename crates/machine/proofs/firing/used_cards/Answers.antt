-- `used_cards`: the marks behind are taken over.
use Rattle.machine.proofs.LayLaws.{using_start, byte_says, using_put, using_end}
use Rattle.machine.proofs.NumberLaws.{number_same}
use Rattle.machine.specs.declared.Mark.TheVariants.{Used}
use mathlib.Core.Path.{refl, ◌∙◌}
use Rattle.machine.proofs.firing.used_cards.Goals as goal

pub loop-row-init : goal.loop-row-init
loop-row-init c = search using_start

pub loop-row-preserved : goal.loop-row-preserved
loop-row-preserved c =
    using_put _ _ _ c.loop-row.invariant c.loop-row-test.true _ (rw c.from.ensures (byte_says _ ∙ number_same c.args.marks.now c.loop-row.row Used c.eq.ensures)) _ refl

pub returns : goal.returns
returns c = search using_end
