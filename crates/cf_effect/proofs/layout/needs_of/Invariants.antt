use Rattle.std.proofs.Common.{◌≡◌, take}
use Rattle.std.specs.List.{filter_map}
use Rattle.cf_tree.specs.Keys.{value_at}
use Rattle.cf_effect.proofs.layout.needs_of.Given as goal

abbrev pub invariant-loop-need : goal.invariant-loop-need
invariant-loop-need l = l.found.items ≡ filter_map (λ q. value_at q l.places) (take l.need-index l.need-items)
