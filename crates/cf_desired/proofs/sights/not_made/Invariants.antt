use Rattle.std.proofs.Common.{◌≡◌, [], not, take}
use Rattle.std.specs.Prelude.{filter, fold}
use Rattle.cf_graph.specs.Needs.{is_made}
use Rattle.cf_desired.specs.Listed.{put_unmade}
use Rattle.cf_desired.proofs.sights.not_made.Given as goal

abbrev pub invariant-loop-resource : goal.invariant-loop-resource
invariant-loop-resource l = l.made ≡ fold put_unmade [] (filter (λ r. not (is_made l.conds r)) (take l.resource-index l.resource-items))
