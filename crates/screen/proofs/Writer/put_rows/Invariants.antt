-- The rows of a class are put one by one. The invariant: putting those that are left comes to putting them all.
use Rattle.files.specs.InPlace.{fact_at}
use Rattle.kinds.specs.Listed.{kinds_of}
use Rattle.screen.proofs.Laws.{Rowing}
use Rattle.screen.proofs.Writer.put_rows.Given as goal

abbrev pub invariant-loop-row : goal.invariant-loop-row
invariant-loop-row l = Rowing l.board l.mark l.word (fact_at l.board (kinds_of l.kinds)) l.most l.from l.initial.self l.self l.place l._row
