-- `display` puts the text of the run's answer and of the board that the run wrote.
use Rattle.display.proofs.RunLaws.{size_fits, size_part, displayed}
use Rattle.display.proofs.plain_run.display.Goals as goal

pub slice_bounds-after-end : goal.slice_bounds-after-end
slice_bounds-after-end c =
    let ran = c.llwybrenu_run_book-answer in
    size_fits _ _ _ _ ran.auto.out ran.ensures.0 ran.ensures.1

pub slice_bounds-text-end : goal.slice_bounds-text-end
slice_bounds-text-end c =
    let ran = c.llwybrenu_run_book-answer in
    size_part _ _ _ _ ran.auto.out ran.ensures.0 ran.ensures.1

pub returns : goal.returns
returns c =
    let ran = c.llwybrenu_run_book-answer in
    displayed _ _ _ _ ran.auto.out ran.ensures.0 ran.ensures.1 _ _ _ _ c.kinds.ensures.listed c.text.ensures
