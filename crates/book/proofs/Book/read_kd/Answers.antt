-- `read_kd` reads one kind more, or tells why not.
use native.Mathlib.Omega.{arith}
use mathlib.Core.Path.{refl}
use Rattle.std.specs.Prelude.{Ok, Err}
use Rattle.std.proofs.lemmas.Result.{err_from_is_err_and}
use Rattle.book.proofs.RecordLaws.{kd_takes}
use Rattle.book.proofs.Book.read_kd.Goals as goal

pub returns-in_err-bytes : goal.returns-in_err-bytes
returns-in_err-bytes c =
    let e = err_from_is_err_and c.from_residual.result c.from_residual.ensures.1 in
    rw (e.1, e.2) (kd_takes _ _ (omega arith) _ _ refl refl _ refl (Err _) c.in_err-bytes.ensures)

pub returns : goal.returns
returns c = kd_takes _ _ (omega arith) _ _ c.byte_at.ensures c.byte_at-2.ensures _ c.with-kinds.ensures (Ok _) c.in_ok-bytes.ensures
