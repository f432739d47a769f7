-- `fire`: an attempt that ends without a firing leaves the board; one that fires settles what it made.
use Rattle.machine.proofs.FiringLaws.{ready_by, look_fired}
use mathlib.Core.Path.{refl}
use borrow.Author.Rules.{rules}
use Rattle.machine.proofs.firing.fire.Goals as goal

pub attempt-ran-requires : goal.attempt-ran-requires
attempt-ran-requires c = (ready_by _ _ _ _ _ c.requires, c.args.space.now.made_rows, c.args.space.now.made_places)

pub returns-in-Some : goal.returns-in-Some
returns-in-Some c = look_fired _ _ _ _ _ c.requires _ _ _ c.attempt-ran.ensures _ _ refl refl _ (search rules) _ _ _ c.settle_made.ensures _ (search rules)
