-- `run`: to go on from here is the whole run.
use borrow.Author.Rules.{rules}
use Rattle.machine.proofs.RunLaws.{run_quiet, run_full, run_spent, run_stuck, run-fired, run_limit}
use Rattle.machine.proofs.run.run.Goals as goal

pub returns-in-Quiet : goal.returns-in-Quiet
returns-in-Quiet c = search run_quiet

pub returns-in-Full : goal.returns-in-Full
returns-in-Full c = search run_full

pub returns-in-Spent : goal.returns-in-Spent
returns-in-Spent c = search run_spent

pub returns-in-Stuck : goal.returns-in-Stuck
returns-in-Stuck c = search run_stuck

pub loop-firings-preserved : goal.loop-firings-preserved
loop-firings-preserved c = search run-fired

pub returns : goal.returns
returns c = run_limit _ _ _ _ _ _ _ _ _ _ c.loop-firings.invariant c.loop-firings-test.false (search rules) _ c.stopped-2.ensures
