use Rattle.std.proofs.Common.{◌≡◌, map, take}
use Rattle.cf_effect.specs.Restoring.{id_of}
use Rattle.cf_effect.proofs.restoring.ids_in.Given as goal

abbrev pub invariant-loop-held : goal.invariant-loop-held
invariant-loop-held l = l.ids.items ≡ map id_of (take l.held-index l.helds)
