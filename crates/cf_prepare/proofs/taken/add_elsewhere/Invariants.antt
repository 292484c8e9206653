use Rattle.std.proofs.Common.{◌≡◌, ◌++◌, drop, filter}
use Rattle.cf_plan.specs.Accept.{is_exported_elsewhere}
use Rattle.cf_prepare.proofs.taken.add_elsewhere.Given as goal

abbrev pub invariant-loop-export : goal.invariant-loop-export
invariant-loop-export l =
    l.taken ++ filter (is_exported_elsewhere l.name l.world.world) (drop l.export-index l.names) ≡ l.fn.taken ++ filter (is_exported_elsewhere l.name l.world.world) l.names
