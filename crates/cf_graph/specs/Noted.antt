-- Places noted under names: what a map of lists holds under a name, where nothing is the empty list (this project's own).
use Rattle.std.specs.Prelude.{ℕ, List, [], Vec}
use Rattle.std.specs.Option.{option_map_or}
use Rattle.std.specs.Ordering.{nat_cmp}
use Rattle.std.specs.Cmp.Lexicographic.{slice_cmp}
use Rattle.std.specs.BTreeMap.{BTreeMap, get}
use Rattle.std.specs.declared.alloc.Global.{Global}

abbrev pub places_noted : BTreeMap (List ℕ) (Vec ℕ Global) → List ℕ → List ℕ
places_noted notes name = option_map_or (λ v. v.items) (get (slice_cmp nat_cmp) notes name) []
