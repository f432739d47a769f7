-- `run`: to go on from here is the whole run.
use Rattle.kinds.specs.Listed.{kinds_of}
use Rattle.runs.specs.Runs.{board_in}
use Rattle.plain.specs.Playing.{Lent}
use Rattle.plain.proofs.RunLaws.{Running}
use Rattle.plain.proofs.run.run.Given as goal

abbrev pub invariant-loop-firings : goal.invariant-loop-firings
invariant-loop-firings l =
    Running l.book (kinds_of l.kinds) l.rules (board_in (kinds_of l.kinds) l.initial.rows.kind l.initial.rows.numbers l.initial.held) l.limit l.rows.kind l.rows.numbers l.held l.firings l.rule × Lent l.row_lists.list l.made.kind l.made.numbers
