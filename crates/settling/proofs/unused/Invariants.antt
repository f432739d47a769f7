-- `unused` counts the cards that are not used. The invariant: what is counted, and what is left to count, make the whole.
use Rattle.settling.specs.Settles.{kept_count}
use Rattle.settling.proofs.Settling.{Counting}
use Rattle.settling.proofs.unused.Given as goal

abbrev pub invariant-loop-row : goal.invariant-loop-row
invariant-loop-row l = Counting l.used l.cards (kept_count l.used 0 l.cards) l.kept l.row
