use Rattle.std.proofs.Common.{◌≡◌, ◌++◌, drop, filter, flat_map}
use Rattle.cf_plan.specs.Follow.{failed_in}
use Rattle.cf_effect.specs.Operation.{is_of}
use Rattle.cf_prepare.proofs.paths.failed_among.Given as goal

abbrev pub invariant-loop-heard : goal.invariant-loop-heard
invariant-loop-heard l =
    l.paths ++ flat_map failed_in (filter (is_of l.operation) (drop l.heard-index l.entries)) ≡ flat_map failed_in (filter (is_of l.operation) l.entries)
