-- `append` writes the made cards. The invariant: what is left to write, into the arrays as they are, gives the whole.
use Rattle.settling.proofs.Settling.{Appending}
use Rattle.settling.proofs.append.Given as goal

abbrev pub invariant-loop-row : goal.invariant-loop-row
invariant-loop-row l = Appending l.made.kind l.made.numbers l.made_cards l.first l.initial.rows.kind l.initial.rows.numbers l.rows.kind l.rows.numbers l.row
