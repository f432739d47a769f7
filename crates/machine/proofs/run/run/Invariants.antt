-- `run`: to go on from here is the whole run.
use Rattle.kinds.specs.Listed.{kinds_of}
use Rattle.runs.specs.Runs.{board_in}
use Rattle.machine.proofs.RunLaws.{Running}
use Rattle.machine.proofs.run.run.Given as goal

abbrev pub invariant-loop-firings : goal.invariant-loop-firings
invariant-loop-firings l =
    Running l.strip l.kinds l.allowance (board_in (kinds_of l.kinds) l.initial.rows.kind l.initial.rows.numbers l.initial.count) l.limit l.rows.kind l.rows.numbers l.count l.firings l.rule
