use Rattle.std.proofs.Common.{◌≡◌, fold, take}
use Rattle.cf_next.specs.Joining.{with_keeping}
use Rattle.cf_next.proofs.dues.add_keepings.Given as goal

abbrev pub invariant-loop-keeping : goal.invariant-loop-keeping
invariant-loop-keeping l = l.dues ≡ fold with_keeping l.fn.dues (take l.keeping-index l.keepings)
