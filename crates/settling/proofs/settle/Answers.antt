-- `settle` answers none where a test finds no room, and else closes the cards up and appends the made ones.
use Rattle.settling.proofs.Settling.{full_kept, settle-fired}
use Rattle.settling.proofs.settle.Goals as goal

pub returns-then-not-has_room : goal.returns-then-not-has_room
returns-then-not-has_room c = search full_kept

pub returns : goal.returns
returns c = search settle-fired
