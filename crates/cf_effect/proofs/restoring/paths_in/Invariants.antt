use Rattle.std.proofs.Common.{◌≡◌, map, take}
use Rattle.cf_effect.specs.Restoring.{path_of}
use Rattle.cf_effect.proofs.restoring.paths_in.Given as goal

abbrev pub invariant-loop-held : goal.invariant-loop-held
invariant-loop-held l = l.paths.items ≡ map path_of (take l.held-index l.helds)
