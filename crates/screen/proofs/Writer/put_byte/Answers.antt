-- The byte is put, or finds no room.
use mathlib.Core.Path.{refl}
use Rattle.screen.proofs.Laws.{byte_put, byte_left}
use Rattle.screen.proofs.Writer.put_byte.Goals as goal

pub returns-then-self : goal.returns-then-self
returns-then-self c = record { lent = refl; output = search byte_put }

pub returns-else-self : goal.returns-else-self
returns-else-self c = record { lent = refl; output = search byte_left }
