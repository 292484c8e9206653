use Rattle.std.proofs.Common.{arith, sym, ap, subst}
use Rattle.cf_stacks.specs.Spare.{HaveOwnTokens}
use Rattle.cf_effect.specs.World.{StackState}
use Rattle.cf_effect.proofs.Spares.{spare_so}
use Rattle.cf_stacks.proofs.stack.StackState.reserve.Goals as goal

pub invariant_of-self-in_err-reserve-2 : goal.invariant_of-self-in_err-reserve-2
invariant_of-self-in_err-reserve-2 c = record {
  lists = spare_so _ _ c.reserve-2.new.self (omega (arith, c.reserve.ensures.len)) (c.reserve-2.ensures.kept _ c.self.invariant.lists);
  room = omega (arith, c.self.invariant.room, c.reserve.ensures.len, c.reserve.ensures.capacity);
  rooms = rw (c.reserve-2.ensures.same, c.reserve.ensures.items) c.self.invariant.rooms;
  apart = subst HaveOwnTokens (sym (ap (λ (s : StackState). s.tokens) c.reserve-2.ensures.same)) c.self.invariant.apart;
  findings = rw c.reserve-2.ensures.same c.self.invariant.findings;
  undoing = rw c.reserve-2.ensures.same c.self.invariant.undoing;
  restoring = rw c.reserve-2.ensures.same c.self.invariant.restoring;
}
