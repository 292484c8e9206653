use Rattle.std.proofs.Common.{◌≡◌, fold, take}
use Rattle.cf_next.specs.Joining.{with_offered}
use Rattle.cf_next.proofs.dues.add_starts.Given as goal

abbrev pub invariant-loop-start : goal.invariant-loop-start
invariant-loop-start l = l.dues ≡ fold (with_offered l.out l.world.world) l.fn.dues (take l.start-index l.starts)
