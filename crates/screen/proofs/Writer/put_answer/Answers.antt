-- The text of the answer's case.
use native.Mathlib.Omega.{arith}
use Prim.Native.Nat.{◌≤◌}
use Rattle.screen.proofs.Laws.{text_accepted, text_refused, text_ended}
use Rattle.screen.proofs.Writer.put_answer.Goals as goal

pub returns-in-0 : goal.returns-in-0
returns-in-0 c = search text_accepted

pub returns-in-1-to-19 : goal.returns-in-1-to-19
returns-in-1-to-19 c =
    let low : 1 ≤ c.args.answer.number = omega arith in
    let high : c.args.answer.number ≤ 19 = omega arith in
    search text_refused

pub returns-in_default : goal.returns-in_default
returns-in_default c = search text_ended
