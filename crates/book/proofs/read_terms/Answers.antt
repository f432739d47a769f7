-- `read_terms` judges so many terms. The invariant: judging what is left is judging them all.
use Rattle.std.proofs.lemmas.Result.{err_from_is_err_and}
use Rattle.book.proofs.FieldLaws.{scan_starts, scan_shorter, scan_done, scan_ends, scan_within, scan_goes}
use Rattle.book.proofs.read_terms.Goals as goal

pub loop-init : goal.loop-init
loop-init c = search scan_starts

pub returns-in_err-bytes : goal.returns-in_err-bytes
returns-in_err-bytes c =
    let e = err_from_is_err_and c.from_residual.result c.from_residual.ensures.1 in
    rw (e.1, e.2) (search (scan_ends, c.in_err-bytes.ensures))

pub slice_bounds-terms-count-in-loop : goal.slice_bounds-terms-count-in-loop
slice_bounds-terms-count-in-loop c = search (scan_within, c.in_ok-bytes.ensures)

pub slice_bounds-terms-start-in-loop : goal.slice_bounds-terms-start-in-loop
slice_bounds-terms-start-in-loop c = search (scan_within, c.in_ok-bytes.ensures)

pub loop-preserved : goal.loop-preserved
loop-preserved c = search (scan_goes, c.in_ok-bytes.ensures)

pub overflow_sub-result : goal.overflow_sub-result
overflow_sub-result c = search scan_shorter

pub returns : goal.returns
returns c = search scan_done
