use Rattle.std.proofs.Common.{◌≡◌, arith, ap, sym, ◌∙◌, length, map, subst}
use Rattle.std.proofs.lemmas.List.{length-map}
use Rattle.cf_stacks.specs.Room.{StackStanding}
use Rattle.cf_stacks.specs.Spare.{HaveOwnTokens, KeepsCalls}
use Rattle.cf_stacks.specs.Stacked.{token_of_room}
use Rattle.cf_effect.specs.State.{state_of}
use Rattle.cf_effect.specs.World.{StackState}
use Rattle.cf_stacks.proofs.Kindred.{rooms_keep}
use Rattle.cf_effect.proofs.Spares.{spare_fewer}
use Rattle.cf_stacks.proofs.stack.StackState.leave_as.Goals as goal

pub invariant_of-self : goal.invariant_of-self
invariant_of-self c =
    let was : state_of c.self.inside.state ≡ c.args.self.now.stack = ap (λ (v : StackStanding). v.stack) c.self.view_is in
    let apart : HaveOwnTokens c.args.self.now.stack.tokens = subst HaveOwnTokens (ap (λ (s : StackState). s.tokens) was) c.self.invariant.apart in
    let count = ap (λ (v : StackStanding). length v.awaited) c.self.view_is in
    let keeps : KeepsCalls (state_of c.self.inside.state) (state_of c.args.state) = subst (λ (s : StackState). KeepsCalls s (state_of c.args.state)) (sym was) (c.requires.keeps apart) in
    rw c.replace.ensures.after (record {
      lists = spare_fewer _ _ c.args.state (omega (arith, count, length-map c.self.inside.rooms.items token_of_room, c.self.inside.rooms.ok.0)) c.requires.spare;
      room = omega (arith, c.self.invariant.room);
      rooms = rooms_keep (state_of c.self.inside.state) (state_of c.args.state) c.self.inside.rooms.items keeps c.self.invariant.rooms;
      apart = c.requires.apart apart;
      findings = rw c.lose.ensures tt;
      undoing = rw c.lose_undoing.ensures tt;
      restoring = rw c.lose_restoring.ensures tt;
    })
