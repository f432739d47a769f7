-- `read_he` reads one head atom more, or tells why not.
use Rattle.std.specs.Prelude.{Ok, Err}
use Rattle.std.proofs.lemmas.Result.{err_from_is_err_and}
use Rattle.book.proofs.RecordLaws.{he_takes}
use Rattle.book.proofs.Book.read_he.Goals as goal

pub returns-in_err-scan : goal.returns-in_err-scan
returns-in_err-scan c =
    let e = err_from_is_err_and c.from_residual.result c.from_residual.ensures.1 in
    rw (e.1, e.2) (he_takes _ _ _ c.most.ensures c.if-most-self.false (Err _) c.in_err-scan.ensures)

pub returns : goal.returns
returns c = he_takes _ _ _ c.most.ensures c.if-most-self.false (Ok _) c.in_ok-scan.ensures
