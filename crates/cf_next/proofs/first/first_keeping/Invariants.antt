use Rattle.std.proofs.Common.{◌≡◌, take}
use Rattle.std.specs.Option.{option_copied}
use Rattle.cf_next.specs.First.{first_keeping}
use Rattle.cf_next.proofs.first.first_keeping.Given as goal

abbrev pub invariant-loop-keeping : goal.invariant-loop-keeping
invariant-loop-keeping l = option_copied l.first ≡ first_keeping (take l.keeping-index l.keepings)
