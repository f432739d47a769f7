-- `close_up` moves the cards that stay down, in their order: the stretches behind the first used cards, then row by row.
use Rattle.settling.proofs.Settling.{ends-first, ends_second, ends_third, ends_fourth, ends-rows}
use Rattle.settling.proofs.close_up.Goals as goal

pub returns-then-cards-first : goal.returns-then-cards-first
returns-then-cards-first c =
    ends-first _ _ _ _ _ c.next_used-first.ensures c.if-cards-first.true

pub returns-then-cards-second : goal.returns-then-cards-second
returns-then-cards-second c =
    ends_second _ _ _ _ _ c.next_used-first.ensures c.if-cards-first.false _ _ _ c.move_stretch-second.ensures c.if-cards-second.true

pub returns-then-cards-third : goal.returns-then-cards-third
returns-then-cards-third c =
    ends_third _ _ _ _ _ c.next_used-first.ensures c.if-cards-first.false _ _ _ c.move_stretch-second.ensures c.if-cards-second.false _ _ _ c.move_stretch-third.ensures c.if-cards-third.true

pub returns-then-cards-fourth : goal.returns-then-cards-fourth
returns-then-cards-fourth c =
    ends_fourth _ _ _ _ _ c.next_used-first.ensures c.if-cards-first.false _ _ _ c.move_stretch-second.ensures c.if-cards-second.false _ _ _ c.move_stretch-third.ensures c.if-cards-third.false _ _ _ c.move_stretch-fourth.ensures c.if-cards-fourth.true

pub returns : goal.returns
returns c =
    ends-rows _ _ _ _ _ c.next_used-first.ensures c.if-cards-first.false _ _ _ c.move_stretch-second.ensures c.if-cards-second.false _ _ _ c.move_stretch-third.ensures c.if-cards-third.false _ _ _ c.move_stretch-fourth.ensures _ _ _ c.close_rows.ensures
