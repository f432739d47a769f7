-- `play`: the arrays hold the board of the file; the run over them is the run; the board that it ends with is written.
use mathlib.Core.Path.{refl}
use Rattle.plain.proofs.EntryLaws.{kinds_declared, loaded_playable, played}
use Rattle.plain.proofs.run.play.Goals as goal

pub rules_of-places-requires : goal.rules_of-places-requires
rules_of-places-requires c = (c.requires.short, search kinds_declared, c.requires.few)

pub run-ran-requires : goal.run-ran-requires
run-ran-requires c =
    let loads = rw (c.empty-rows.ensures.0, c.empty-rows.ensures.1) at c.load-count.ensures in
    (loaded_playable c.args.book.now c.args.board.now c.args.kinds _ c.requires _ _ _ loads _ c.rules_of-places.ensures, c.requires.few)

pub returns : goal.returns
returns c =
    let loads = rw (c.empty-rows.ensures.0, c.empty-rows.ensures.1) at c.load-count.ensures in
    played c.args.book.now c.args.board.now c.args.kinds _ c.requires _ _ _ loads _ _ _ _ _ _ _ refl c.run-ran.ensures c.write-length.ensures
