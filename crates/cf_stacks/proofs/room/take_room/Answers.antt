use Rattle.std.proofs.Common.{ap, filter, not, ◌∙◌}
use Rattle.cf_stacks.specs.Spare.{is_room_of}
use Rattle.cf_effect.proofs.Closed.{closed_first, closed_none}
use Rattle.cf_stacks.proofs.room.take_room.Goals as goal

pub returns-in-Some-clause-items : goal.returns-in-Some-clause-items
returns-in-Some-clause-items c =
    c.forget.ensures.items ∙ ap (filter (λ r. not (is_room_of c.args.token r))) c.remove-room.ensures.items
    ∙ closed_first (is_room_of c.args.token) c.args.rooms.now.items c.in-Some.at c.remove-room.result (cc)

pub returns-in-None-clause-items : goal.returns-in-None-clause-items
returns-in-None-clause-items c = closed_none (is_room_of c.args.token) c.args.rooms.now.items (cc)
