use Rattle.std.proofs.Common.{◌≡◌, ◌++◌, drop}
use Rattle.cf_plan.specs.Accept.{without_import}
use Rattle.cf_prepare.proofs.imports.without.Given as goal

abbrev pub invariant-loop-import : goal.invariant-loop-import
invariant-loop-import l = l.left.items ++ without_import l.name (drop l.import-index l.import-items) ≡ without_import l.name l.imports
