use Rattle.std.proofs.Common.{sym, ap, ◌∙◌}
use Rattle.std.specs.List.{list_any}
use Rattle.cf_stacks.specs.Room.{StackStanding, has_call}
use Rattle.cf_stacks.specs.Spare.{is_room_of}
use Rattle.cf_stacks.proofs.Kindred.{has_room}
use Rattle.cf_stacks.proofs.stack.StackState.awaits.Goals as goal

pub returns : goal.returns
returns c =
    c.has_room.ensures ∙ ap (list_any (is_room_of c.args.token)) c.as_slice.ensures.value
    ∙ has_room c.args.token c.self.inside.rooms.items ∙ ap (λ (v : StackStanding). has_call c.args.token v.awaited) c.self.view_is
