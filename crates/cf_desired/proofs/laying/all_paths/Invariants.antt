use Rattle.std.proofs.Common.{◌≡◌, map, take}
use Rattle.cf_desired.specs.Names.{path_in}
use Rattle.cf_desired.proofs.laying.all_paths.Given as goal

abbrev pub invariant-loop-id : goal.invariant-loop-id
invariant-loop-id l = l.paths ≡ map (path_in l.stack.path) (take l.id-index l.id-items)
