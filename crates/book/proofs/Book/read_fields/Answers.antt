-- `read_fields` goes by the mark.
use Rattle.std.proofs.lemmas.Result.{err_from_is_err_and}
use Rattle.book.proofs.Book.read_fields.Goals as goal

pub returns-in_err-next-in-He : goal.returns-in_err-next-in-He
returns-in_err-next-in-He c =
    let e = err_from_is_err_and c.from_residual-in_err-next-in-He.result c.from_residual-in_err-next-in-He.ensures.1 in
    rw (e.1, e.2, c.in-He.is) (record { reads = c.in_err-next-in-He.ensures.reads c.requires })

pub returns-in_err-read_en-in-En : goal.returns-in_err-read_en-in-En
returns-in_err-read_en-in-En c =
    let e = err_from_is_err_and c.from_residual-in_err-read_en-in-En.result c.from_residual-in_err-read_en-in-En.ensures.1 in
    rw (e.1, e.2, c.in-En.is) (record { reads = λ r i p. c.in_err-read_en-in-En.ensures r })

pub returns-in-En : goal.returns-in-En
returns-in-En c = rw c.in-En.is (record { reads = λ r i p. c.in_ok-read_en-in-En.ensures r })
