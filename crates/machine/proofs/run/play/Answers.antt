-- `play`: the arrays hold the board of the file; the run over them is the run; the board that it ends with is written.
use mathlib.Core.Path.{refl}
use Rattle.machine.proofs.EntryLaws.{loaded_playable, played}
use Rattle.machine.proofs.run.play.Goals as goal

pub run-ran-requires : goal.run-ran-requires
run-ran-requires c =
    let loads = rw (c.empty-rows.ensures.0, c.empty-rows.ensures.1) at c.load-count.ensures in
    loaded_playable c.args.strip.now c.args.kinds c.args.board.now _ c.requires _ _ _ loads

pub returns : goal.returns
returns c =
    let loads = rw (c.empty-rows.ensures.0, c.empty-rows.ensures.1) at c.load-count.ensures in
    played c.args.strip.now c.args.kinds c.args.board.now _ c.requires _ _ _ loads _ _ _ _ _ _ _ _ refl c.run-ran.ensures c.write-length.ensures
