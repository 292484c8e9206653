use Rattle.std.proofs.Common.{◌≡◌, map, take}
use Rattle.cf_effect.specs.Undoing.{gone_if}
use Rattle.cf_effect.proofs.undoing.gone_of.Given as goal

abbrev pub invariant-loop-id : goal.invariant-loop-id
invariant-loop-id l = l.gone.items ≡ map gone_if (take l.id-index l.ids)
