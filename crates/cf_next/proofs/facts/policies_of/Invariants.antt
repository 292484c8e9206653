use Rattle.std.proofs.Common.{◌≡◌, [], take, fold}
use Rattle.cf_next.specs.Facts.{with_policy}
use Rattle.cf_next.proofs.facts.policies_of.Given as goal

abbrev pub invariant-loop-held : goal.invariant-loop-held
invariant-loop-held l = l.policies ≡ fold with_policy [] (take l.held-index l.helds)
