use Rattle.std.proofs.Common.{◌≡◌, ℕ, Bool, true, false, List, Some, None, IfSome, arith, ap, sym, ◌∙◌, find, map, subst}
use Rattle.cf_effect.specs.Ahead.{AreKept}
use Rattle.cf_effect.specs.Restoring.{IsRestoring}
use Rattle.cf_effect.specs.Undoing.{IsUndoing}
use Rattle.cf_effect.specs.Fold.{effect_at}
use Rattle.cf_effect.specs.Bounds.{IsShortOutcomeOf}
use Rattle.cf_stacks.specs.Room.{StackStanding, has_call, without_awaited}
use Rattle.cf_stacks.specs.Spare.{HaveOwnTokens, IsRoomFor, is_room_of}
use Rattle.cf_stacks.specs.Stacked.{token_of_room}
use Rattle.cf_effect.specs.State.{state_of}
use Rattle.cf_effect.specs.World.{StackState}
use Rattle.cf_stacks.proofs.Calling.{all_found, call_found, outcome_calls, standing_same}
use Rattle.cf_stacks.proofs.Keeps.{outcome_keeps}
use Rattle.cf_stacks.proofs.Kindred.{calls_left, rooms_keep, rooms_left, same_number}
use Rattle.cf_effect.proofs.Spares.{spare_fewer}
use Rattle.cf_stacks.proofs.stack.StackState.take_outcome.Goals as goal

pub take_outcome-requires-clause-outcome : goal.take_outcome-requires-clause-outcome
take_outcome-requires-clause-outcome c =
    let found : find (is_room_of c.args.token) c.self.inside.rooms.items ≡ Some c.in-Some.room = sym c.take_room.ensures.room ∙ c.in-Some.is in
    let r = all_found (IsRoomFor (state_of c.self.inside.state)) (is_room_of c.args.token) c.self.inside.rooms.items c.in-Some.room c.self.invariant.rooms found in
    subst (λ (t : ℕ). IsShortOutcomeOf t c.args.entry) (sym (same_number c.args.token c.in-Some.room.token r.1)) c.requires.token

pub take_outcome-requires-clause-room : goal.take_outcome-requires-clause-room
take_outcome-requires-clause-room c =
    let found : find (is_room_of c.args.token) c.self.inside.rooms.items ≡ Some c.in-Some.room = sym c.take_room.ensures.room ∙ c.in-Some.is in
    (all_found (IsRoomFor (state_of c.self.inside.state)) (is_room_of c.args.token) c.self.inside.rooms.items c.in-Some.room c.self.invariant.rooms found).0

pub invariant_of-self : goal.invariant_of-self
invariant_of-self c =
    let s : StackState = state_of c.self.inside.state in
    let k = outcome_keeps c.args.place s c.args.token c.args.entry c.requires.token c.self.invariant.apart in
    record {
      lists = c.take_outcome.ensures.spare _ (spare_fewer _ _ c.self.inside.state (omega (arith, c.in-Some.ensures.len)) c.self.invariant.lists);
      room = omega (arith, c.in-Some.ensures.len, c.take_room.ensures.capacity, c.self.invariant.room);
      rooms = rw (c.take_outcome.ensures.state, c.take_room.ensures.items) (rooms_keep s (effect_at c.args.place c.args.entry s).stack _ k.0 (rooms_left s c.args.token c.self.inside.rooms.items c.self.invariant.rooms));
      apart = subst (λ (t : StackState). HaveOwnTokens t.tokens) (sym c.take_outcome.ensures.state) k.1;
      findings = subst (λ (t : StackState). IfSome c.follow.new.findings (AreKept t)) (sym c.take_outcome.ensures.state) (c.follow.ensures c.args.place);
      undoing = subst (λ (t : StackState). IfSome c.follow_deletion.new.undoing (IsUndoing t)) (sym c.take_outcome.ensures.state) (c.follow_deletion.ensures c.args.place);
      restoring = subst (λ (t : StackState). IfSome c.follow_restored.new.restoring (IsRestoring t)) (sym c.take_outcome.ensures.state) (c.follow_restored.ensures c.args.place);
    }

pub unreachable-requires : goal.unreachable-requires
unreachable-requires c =
    let none : find (is_room_of c.args.token) c.self.inside.rooms.items ≡ None = sym c.take_room.ensures.room ∙ c.in-None.is in
    let lost : has_call c.args.token (map token_of_room c.self.inside.rooms.items) ≡ false = call_found c.args.token c.self.inside.rooms.items none in
    let there : has_call c.args.token (map token_of_room c.self.inside.rooms.items) ≡ true = ap (λ (v : StackStanding). has_call c.args.token v.awaited) c.self.view_is ∙ c.requires.awaited in
    absurd (cc)

pub returns : goal.returns
returns c =
    standing_same _ _ _ _ _ _
    (c.take_outcome.ensures.state ∙ ap (λ (v : StackStanding). (effect_at c.args.place c.args.entry v.stack).stack) c.self.view_is)
    (ap (map token_of_room) c.take_room.ensures.items ∙ calls_left c.args.token c.self.inside.rooms.items ∙ ap (λ (v : StackStanding). without_awaited c.args.token v.awaited) c.self.view_is
    ∙ outcome_calls c.args.token c.args.entry c.args.self.now.awaited c.requires.token)
    (ap (λ (v : StackStanding). v.spare) c.self.view_is)
