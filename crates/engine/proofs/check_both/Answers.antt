-- The book is judged first, and the board against its kinds: a slice holds bytes, so an accepted book's kinds stand at its start.
use Rattle.std.proofs.Common.{arith}
use Rattle.std.proofs.lemmas.Result.{err_from_is_err_and}
use Rattle.encoding.specs.Bytes.{bytes_of}
use Rattle.engine.proofs.Laws.{both_refused, both_checked}
use Rattle.engine.proofs.check_both.Goals as goal

pub returns-in_err-check_book : goal.returns-in_err-check_book
returns-in_err-check_book c =
    let e = err_from_is_err_and c.from_residual.result c.from_residual.ensures.1 in
    rw (e.1, e.2) (both_refused _ _ _ c.in_err-check_book.ensures)

pub returns : goal.returns
returns c =
    let bytes = bytes_of c.args.book.now (λ i. omega (arith, c.type_inv.book i)) in
    both_checked _ _ _ _ bytes c.in_ok-check_book.ensures c.kinds.ensures.listed c.check_board.ensures
