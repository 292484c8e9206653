-- An object has as many members as its map has entries, and a list as many items as its vector.
use Rattle.std.proofs.Common.{◌≡◌, suc, List, [], ◌∷◌, length, String, Global, refl, ap}
use Rattle.serde_json.specs.View.{items_view, members_view}
use Rattle.serde_json.specs.declared.value.Value.{Value}
use Rattle.cf_template.specs.Conds.{items_count}
use Rattle.cf_template.specs.Json.{count}

pub count_view : (es : List (String Global × Value)) → count (members_view es) ≡ length es
count_view [] = refl
count_view (e ∷ es) = ap suc (count_view es)

pub items_count_view : (vs : List Value) → items_count (items_view vs) ≡ length vs
items_count_view [] = refl
items_count_view (v ∷ vs) = ap suc (items_count_view vs)
