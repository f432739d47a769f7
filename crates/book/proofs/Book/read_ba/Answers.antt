-- `read_ba` reads one body atom more, or tells why not.
use native.Mathlib.Omega.{arith}
use Rattle.std.specs.Prelude.{Ok}
use Rattle.std.proofs.lemmas.Result.{err_from_is_err_and}
use Rattle.book.proofs.RecordLaws.{ba_ends, ba_in_rule, ba_in_sweep}
use Rattle.book.proofs.Book.read_ba.Goals as goal
use Rattle.book.proofs.Book.read_ba.Goals.{then-self, else-self}

pub returns-in_err-scan : goal.returns-in_err-scan
returns-in_err-scan c =
    let e = err_from_is_err_and c.from_residual.result c.from_residual.ensures.1 in
    rw (e.1, e.2) (ba_ends _ _ _ c.most.ensures c.if-most-self.false _ c.in_err-scan.ensures)

pub returns-then-self-gt0 : goal.returns-then-self-gt0
returns-then-self-gt0 c = ba_in_sweep _ _ _ c.most.ensures c.if-most-self.false (Ok _) c.in_ok-scan.ensures (λ e. omega arith)

pub returns : goal.returns
returns c =
    ba_in_rule _ _ _ c.most.ensures c.if-most-self.false (Ok _) c.in_ok-scan.ensures (omega arith) _ c.byte_at.ensures _ c.is_of_class-card.ensures _
    (elim c.if-self.branch [ then-self w ↦ rw (w.book-is, w.if-self.true) | else-self w ↦ rw (w.book-is, w.if-self.false) ])
