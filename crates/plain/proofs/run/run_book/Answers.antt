-- `run_book` judges the book, the board and the output, in this order, and then plays: a law for each answer.
use Rattle.std.proofs.lemmas.Result.{err_from_is_err_and}
use Rattle.plain.proofs.EntryLaws.{book_refused, board-refused, too_short, all_ready, run-made}
use Rattle.plain.proofs.run.run_book.Goals as goal

pub returns-in_err-check_book : goal.returns-in_err-check_book
returns-in_err-check_book c =
    let e = err_from_is_err_and c.from_residual.result c.from_residual.ensures.1 in
    rw (e.1, e.2) (book_refused _ _ _ _ _ c.in_err-check_book.ensures)

pub returns-in_err-check_board : goal.returns-in_err-check_board
returns-in_err-check_board c =
    let e = err_from_is_err_and c.from_residual-in_err-check_board.result c.from_residual-in_err-check_board.ensures.1 in
    rw (e.1, e.2) (board-refused _ _ _ _ c.type_inv.book c.in_ok-check_book.ensures _ c.kinds-kinds.ensures _ c.in_err-check_board.ensures)

pub returns-then-out-lt-LONGEST : goal.returns-then-out-lt-LONGEST
returns-then-out-lt-LONGEST c =
    rw c.short.ensures (too_short _ _ _ _ c.type_inv.book c.in_ok-check_book.ensures _ c.kinds-kinds.ensures c.in_ok-check_board.ensures c.if-out-lt-LONGEST.true)

pub play-requires : goal.play-requires
play-requires c =
    all_ready _ _ c.args.limit _ c.type_inv.book c.in_ok-check_book.ensures _ c.kinds-kinds.ensures c.in_ok-check_board.ensures c.type_inv.board c.if-out-lt-LONGEST.false

pub returns : goal.returns
returns c =
    run-made _ _ _ _ c.type_inv.book c.in_ok-check_book.ensures _ c.kinds-kinds.ensures c.in_ok-check_board.ensures c.type_inv.board c.if-out-lt-LONGEST.false _ _ c.play.ensures
