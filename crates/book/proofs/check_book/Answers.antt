-- `check_book` judges record after record. Each law of a turn that is not named here stands beside the function.
use Rattle.std.proofs.lemmas.Result.{err_from_is_err_and}
use Rattle.book.proofs.LoopLaws.{turn_refused, turn_ended}
use Rattle.book.proofs.check_book.Goals as goal

pub returns-in_err-next : goal.returns-in_err-next
returns-in_err-next c =
    let e = err_from_is_err_and c.from_residual.result c.from_residual.ensures.1 in
    rw (e.1, e.2) (search (turn_refused, c.in_err-next.ensures))

pub returns : goal.returns
returns c = search (turn_ended, c.in_ok-next.ensures)
