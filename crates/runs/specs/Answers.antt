-- What an entry that runs answers: how the run ended, or why there was none.
use Rattle.std.specs.Prelude.{Result}
use Rattle.files.specs.Numbers.{Answer}
use Rattle.answers.specs.Refused.{answered}
use Rattle.answers.specs.declared.Refusal.{Refusal}
use Rattle.runs.specs.declared.Ended.{Ended}
use Rattle.runs.specs.Runs.{ended_answer}

abbrev pub ran_answer : Result Ended Refusal → Answer
ran_answer = answered ended_answer
