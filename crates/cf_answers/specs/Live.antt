-- What the handler in memory holds of a live resource (this project's own).
use Rattle.std.specs.Prelude.{ℕ, Bool, true, ◌&&◌, not, List, [], ◌∷◌, map}
use Rattle.std.specs.List.{list_any}
use Rattle.std.specs.Str.{bytes_eq}
use Rattle.cf_tree.specs.Datum.{Data}
use Rattle.cf_handler.specs.Lane.{Live}
use Rattle.cf_answers.specs.declared.live.LiveResource.{LiveResource}

abbrev pub live_as : LiveResource → Live
live_as r = record { id = r.id; kind = r.kind; props = r.props; attrs = r.attrs }

abbrev pub lives : List LiveResource → List Live
lives rs = map live_as rs

abbrev pub has_this_id : List ℕ → LiveResource → Bool
has_this_id id r = bytes_eq id r.id

-- no two have one id
abbrev pub has_other : List ℕ → List Live → Bool
has_other id rs = list_any (λ r. bytes_eq id r.id) rs

abbrev pub differ : List Live → Bool
differ [] = true
differ (r ∷ rs) = not (has_other r.id rs) && differ rs

-- the resource with other properties and attributes
abbrev pub with_values : List (List ℕ × Data) → List (List ℕ × Data) → LiveResource → LiveResource
with_values props attrs r = record { id = r.id; kind = r.kind; props = props; attrs = attrs }
