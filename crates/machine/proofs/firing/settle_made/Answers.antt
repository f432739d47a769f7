-- `settle_made`: cards and notices are laid out apart, and the arrays settle as the definition says.
use Rattle.machine.proofs.FiringLaws.{made-over, made_few, notices-room, made_settled}
use Rattle.machine.proofs.firing.settle_made.Goals as goal

pub returns-then-count-made_count : goal.returns-then-count-made_count
returns-then-count-made_count c = search made-over

pub lay-requires-2 : goal.lay-requires-2
lay-requires-2 c =
    let room = notices-room _ _ _ _ _ _ _ _ c.requires c.if-count-made_count.false in
    (made_few _ _ _ _ _ _ _ _ c.requires, c.requires.declared, room.0, room.1, room.2)

pub returns : goal.returns
returns c = made_settled _ _ _ _ _ _ _ _ _ c.requires _ _ _ _ _ _ c.lay.ensures c.lay-2.ensures _ c.used_cards-used.ensures _ _ _ c.settle.ensures
