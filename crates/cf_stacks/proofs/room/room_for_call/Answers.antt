use Rattle.std.proofs.Common.{◌≡◌, ℕ, false, List}
use Rattle.std.specs.List.{list_any}
use Rattle.cf_effect.specs.State.{state_of}
use Rattle.cf_effect.specs.Words.{has_token}
use Rattle.cf_stacks.proofs.Calling.{ok_both, room_of_new}
use Rattle.cf_stacks.proofs.room.room_for_call.Goals as goal

pub returns-else-is_open-clause-room : goal.returns-else-is_open-clause-room
returns-else-is_open-clause-room c =
    let none : list_any (has_token c.args.token) c.args.state.now.tokens.items ≡ false = cc in
    ok_both c.room_of_new.result _ _ _ c.room_of_new.ensures.token c.room_of_new.ensures.room
    (λ r t h number lane. room_of_new number (record { token = c.args.token; path = c.args.path.now; lane = lane; request = c.args.request.now }) (state_of c.args.state.now) r t none h)
