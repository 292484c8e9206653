use Rattle.std.proofs.Common.{◌≡◌, drop}
use Rattle.cf_param.specs.Offered.{has_name}
use Rattle.cf_param.proofs.offered.has_name.Given as goal

abbrev pub invariant-loop-pair : goal.invariant-loop-pair
invariant-loop-pair l = has_name l.name l.pairs ≡ has_name l.name (drop l.pair-index l.pairs)
