-- The numbers are put one by one. The invariant: putting those that are left comes to putting them all.
use Rattle.screen.proofs.Laws.{Numbering}
use Rattle.screen.proofs.Writer.put_numbers.Given as goal

abbrev pub invariant-loop-number : goal.invariant-loop-number
invariant-loop-number l = Numbering l.board l.from l.count l.initial.self l.self l.number
