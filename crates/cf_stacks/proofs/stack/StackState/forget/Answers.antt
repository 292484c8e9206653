use Rattle.std.proofs.Common.{arith, ap, map, refl, ◌∙◌}
use Rattle.cf_stacks.specs.Room.{StackStanding, without_awaited}
use Rattle.cf_stacks.specs.Stacked.{token_of_room}
use Rattle.cf_effect.specs.State.{state_of}
use Rattle.cf_stacks.proofs.Calling.{standing_same}
use Rattle.cf_stacks.proofs.Kindred.{calls_left, rooms_left}
use Rattle.cf_effect.proofs.Spares.{spare_fewer}
use Rattle.cf_stacks.proofs.stack.StackState.forget.Goals as goal

pub invariant_of-self : goal.invariant_of-self
invariant_of-self c = record {
  lists = spare_fewer _ _ c.self.inside.state (omega (arith, c.forget.ensures.len)) c.self.invariant.lists;
  room = omega (arith, c.self.invariant.room, c.forget.ensures.len, c.forget.ensures.capacity);
  rooms = rw c.forget.ensures.items (rooms_left (state_of c.self.inside.state) c.args.token c.self.inside.rooms.items c.self.invariant.rooms);
  apart = c.self.invariant.apart;
  findings = c.self.invariant.findings;
  undoing = c.self.invariant.undoing;
  restoring = c.self.invariant.restoring;
}

pub returns : goal.returns
returns c =
    standing_same _ _ _ _ _ _ (ap (λ (v : StackStanding). v.stack) c.self.view_is)
    (ap (map token_of_room) c.forget.ensures.items ∙ calls_left c.args.token c.self.inside.rooms.items ∙ ap (λ (v : StackStanding). without_awaited c.args.token v.awaited) c.self.view_is)
    (ap (λ (v : StackStanding). v.spare) c.self.view_is)
