use Rattle.std.proofs.Common.{◌≡◌}
use Rattle.cf_effect.specs.Fold.{fold_of}
use Rattle.cf_stacks.proofs.world.World.take_all.Given as goal

abbrev pub invariant-loop-entry : goal.invariant-loop-entry
invariant-loop-entry l = l.self.world ≡ fold_of l.fn.self.world l.yielded
