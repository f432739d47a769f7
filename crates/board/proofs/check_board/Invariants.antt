-- `check_board` meets its contract. The loop's invariant, `Turn`: to go on from what is left is to judge the whole file.
-- What is left falls with each record; a law for each end.
use mathlib.Core.Path.{◌≡◌}
use lib.ListN.{length}
use Rattle.kinds.specs.Listed.{kinds_of}
use Rattle.board.proofs.TurnLaws.{Turn}
use Rattle.board.proofs.check_board.Given as goal

abbrev pub invariant-records : goal.invariant-records
invariant-records l = Turn (kinds_of l.kinds) l.board l.rest l.cards l.notices × (l.n ≡ length l.board)

abbrev pub decreases-records : goal.decreases-records
decreases-records l = length l.rest
