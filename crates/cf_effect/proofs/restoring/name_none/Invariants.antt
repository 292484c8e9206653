use Rattle.std.proofs.Common.{◌≡◌, [], flat_map, take}
use Rattle.cf_effect.specs.Operation.{named_in}
use Rattle.cf_effect.proofs.restoring.name_none.Given as goal

abbrev pub invariant-loop-heard : goal.invariant-loop-heard
invariant-loop-heard l = flat_map named_in (take l.heard-index l.entries) ≡ []
