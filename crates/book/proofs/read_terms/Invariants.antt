-- `read_terms` judges so many terms. The invariant: judging what is left is judging them all.
use Rattle.book.proofs.FieldLaws.{Scanned}
use Rattle.book.proofs.read_terms.Given as goal

abbrev pub invariant-loop : goal.invariant-loop
invariant-loop l = Scanned l.rest l.count l.free.bits l.fn.known.bits l.terms l.now.bits l.counter
