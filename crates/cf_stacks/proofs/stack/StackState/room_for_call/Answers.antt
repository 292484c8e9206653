use Rattle.std.proofs.Common.{ℕ, List, IfOk, ap, subst}
use Rattle.cf_effect.specs.Reply.{intending}
use Rattle.cf_stacks.specs.Room.{StackStanding}
use Rattle.cf_stacks.specs.Spare.{IsRoomFor}
use Rattle.cf_effect.specs.World.{StackState}
use Rattle.cf_stacks.proofs.stack.StackState.room_for_call.Goals as goal

pub returns-clause-room : goal.returns-clause-room
returns-clause-room c =
    subst (λ (s : StackState). IfOk c.room_for_call.result (λ r. (number : ℕ) (lane : List ℕ) → IsRoomFor (intending number (record { token = c.args.token; path = c.args.path.now; lane = lane; request = c.args.request.now }) s) r))
    (ap (λ (v : StackStanding). v.stack) c.self.view_is) c.room_for_call.ensures.room
