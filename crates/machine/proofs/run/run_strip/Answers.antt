-- `run_strip` judges the strip, the board and the output, in this order, and then plays: a law for each answer.
use Rattle.std.proofs.lemmas.Result.{err_from_is_err_and}
use Rattle.machine.proofs.EntryLaws.{strip_refused, board-refused, too_short, all_ready, run-made}
use Rattle.machine.proofs.run.run_strip.Goals as goal

pub returns-in_err-check_strip : goal.returns-in_err-check_strip
returns-in_err-check_strip c =
    let e = err_from_is_err_and c.from_residual.result c.from_residual.ensures.1 in
    rw (e.1, e.2) (strip_refused _ _ _ _ _ _ c.in_err-check_strip.ensures)

pub returns-in_err-check_board : goal.returns-in_err-check_board
returns-in_err-check_board c =
    let e = err_from_is_err_and c.from_residual-in_err-check_board.result c.from_residual-in_err-check_board.ensures.1 in
    rw (e.1, e.2) (board-refused _ _ _ _ _ c.in_ok-check_strip.ensures _ c.kinds-kinds.ensures _ c.in_err-check_board.ensures)

pub returns-then-out-lt-LONGEST : goal.returns-then-out-lt-LONGEST
returns-then-out-lt-LONGEST c =
    rw c.short.ensures (too_short _ _ _ _ _ c.in_ok-check_strip.ensures _ c.kinds-kinds.ensures c.in_ok-check_board.ensures c.if-out-lt-LONGEST.true)

pub play-requires : goal.play-requires
play-requires c =
    all_ready _ _ c.args.limit c.args.allowance _ c.in_ok-check_strip.ensures _ c.kinds-kinds.ensures c.in_ok-check_board.ensures c.if-out-lt-LONGEST.false c.type_inv.strip c.type_inv.board

pub returns : goal.returns
returns c =
    run-made _ _ _ _ _ c.in_ok-check_strip.ensures _ c.kinds-kinds.ensures c.in_ok-check_board.ensures c.if-out-lt-LONGEST.false _ _ c.play.ensures
