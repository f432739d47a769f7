-- `run`: to go on from here is the whole run.
use borrow.Author.Rules.{rules}
use Rattle.plain.proofs.RunLaws.{run_quiet, run_full, run-fired, run_limit}
use Rattle.plain.proofs.run.run.Goals as goal

pub returns-in-Quiet : goal.returns-in-Quiet
returns-in-Quiet c = search run_quiet

pub returns-in-Full : goal.returns-in-Full
returns-in-Full c = search run_full

pub loop-firings-preserved : goal.loop-firings-preserved
loop-firings-preserved c = (search run-fired, search rules)

pub returns : goal.returns
returns c = search (run_limit, c.loop-firings.auto.firings-end, c.loop-firings-test.false)
