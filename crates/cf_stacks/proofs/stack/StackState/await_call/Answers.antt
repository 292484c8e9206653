use Rattle.std.proofs.Common.{◌≡◌, ℕ, arith, refl, sym, ap, ◌∙◌, map, subst}
use Rattle.cf_stacks.specs.Room.{StackStanding, with_awaited}
use Rattle.cf_stacks.specs.Spare.{IsRoomFor}
use Rattle.cf_stacks.specs.Stacked.{token_of_room}
use Rattle.cf_effect.specs.State.{state_of}
use Rattle.cf_effect.specs.World.{StackState}
use Rattle.cf_stacks.proofs.Calling.{standing_same}
use Rattle.cf_stacks.proofs.Kindred.{calls_with, put_rooms}
use Rattle.cf_effect.proofs.Spares.{spare_fewer}
use Rattle.cf_stacks.proofs.stack.StackState.await_call.Goals as goal

pub invariant_of-self : goal.invariant_of-self
invariant_of-self c =
    let seen : c.self-2.inside.spare ≡ c.reserve.new.self.spare = ap (λ (v : StackStanding). v.spare) c.self-2.view_is in
    let one = c.in-Ok.ensures.ok in
    let same : state_of c.self.inside.state ≡ state_of c.self-2.inside.state =
    ap (λ (v : StackStanding). v.stack) c.self.view_is ∙ sym (ap (λ (v : StackStanding). v.stack) c.reserve.ensures.same) ∙ sym (ap (λ (v : StackStanding). v.stack) c.self-2.view_is) in
    record {
      lists = spare_fewer _ _ c.self-2.inside.state (omega (arith, seen, one, c.put_room.ensures.len)) c.self-2.invariant.lists;
      room = omega (arith, seen, one, c.put_room.ensures.len, c.put_room.ensures.capacity, c.self-2.invariant.room);
      rooms = rw c.put_room.ensures.items (put_rooms (state_of c.self-2.inside.state) c.self-2.inside.rooms.items c.in_ok-room.room c.self-2.invariant.rooms (subst (λ (s : StackState). IsRoomFor s c.in_ok-room.room) same c.in_ok-room.ensures.room));
      apart = c.self-2.invariant.apart;
      findings = c.self-2.invariant.findings;
      undoing = c.self-2.invariant.undoing;
      restoring = c.self-2.invariant.restoring;
    }

pub returns-in-Ok-clause-ok : goal.returns-in-Ok-clause-ok
returns-in-Ok-clause-ok c =
    let before = ap (λ (v : StackStanding). v.stack) c.self-2.view_is ∙ ap (λ (v : StackStanding). v.stack) c.reserve.ensures.same in
    let calls = ap (λ (v : StackStanding). v.awaited) c.self-2.view_is ∙ ap (λ (v : StackStanding). v.awaited) c.reserve.ensures.same in
    standing_same _ _ _ _ _ _ before
    (ap (map token_of_room) c.put_room.ensures.items ∙ calls_with c.self-2.inside.rooms.items c.in_ok-room.room
    ∙ ap (λ (t : ℕ). with_awaited t (map token_of_room c.self-2.inside.rooms.items)) c.in_ok-room.ensures.token ∙ ap (with_awaited c.args.token) calls)
    refl
