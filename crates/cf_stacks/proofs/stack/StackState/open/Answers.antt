use Rattle.std.proofs.Common.{◌≡◌, arith, ap, sym, subst}
use Rattle.cf_effect.specs.Fold.{effect_at}
use Rattle.cf_stacks.specs.Room.{StackStanding}
use Rattle.cf_stacks.specs.Spare.{HaveOwnTokens}
use Rattle.cf_effect.specs.State.{state_of}
use Rattle.cf_effect.specs.World.{StackState}
use Rattle.cf_stacks.proofs.Keeps.{opening_keeps}
use Rattle.cf_stacks.proofs.Kindred.{rooms_keep}
use Rattle.cf_effect.proofs.Spares.{spare_fewer}
use Rattle.cf_stacks.proofs.stack.StackState.open.Goals as goal

pub invariant_of-self : goal.invariant_of-self
invariant_of-self c =
    let s : StackState = state_of c.self.inside.state in
    let k = opening_keeps c.args.place s c.args.entry c.requires.opening c.self.invariant.apart in
    let one = ap (λ (v : StackStanding). v.spare) c.self.view_is in
    record {
      lists = c.open.ensures.spare _ (spare_fewer _ _ c.self.inside.state (omega (arith, one, c.requires.spare)) c.self.invariant.lists);
      room = omega (arith, c.self.invariant.room);
      rooms = rw c.open.ensures.state (rooms_keep s (effect_at c.args.place c.args.entry s).stack c.self.inside.rooms.items k.0 c.self.invariant.rooms);
      apart = subst (λ (t : StackState). HaveOwnTokens t.tokens) (sym c.open.ensures.state) k.1;
      findings = rw c.lose.ensures tt;
      undoing = rw c.lose_undoing.ensures tt;
      restoring = rw c.lose_restoring.ensures tt;
    }
