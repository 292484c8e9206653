-- What a change set leaves to be seen (this project's own laws).
use Rattle.std.specs.Prelude.{◌≡◌, ℕ, Bool, true, false, ◌&&◌, ◌||◌, not, List, [], map}
use Rattle.std.specs.List.{list_any}
use Rattle.std.specs.Str.{bytes_eq}
use Rattle.cf_tree.specs.declared.row.Action.{Action}
use Rattle.cf_tree.specs.declared.row.Action.TheVariants as action
use Rattle.cf_tree.specs.declared.row.Row.{Row}
use Rattle.cf_tree.specs.declared.source.Source.{Source}
use Rattle.cf_export.specs.declared.Output.{Output}
use Rattle.cf_schema.specs.declared.described.Schema.{Schema}
use Rattle.cf_desired.specs.Plan.{plan_of}
use Rattle.cf_desired.specs.Seeing.{Seen}
use Rattle.cf_desired.specs.Shape.{shape_of}
use Rattle.cf_desired.specs.ShapeStays.{IsClear, KeepsRest, hidden_of}
use Rattle.cf_desired.specs.Stays.{AgreeAt, SeesMore}
use Rattle.cf_desired.specs.Valued.{resources_in}
use Rattle.cf_change.specs.Changes.{HeldAt, changes_of, found_of, held_seen, is_property, keeps_id}

-- what is held shows all that is seen with the rows
abbrev pub HeldShowsMore : Type 0
HeldShowsMore =
    (schemas : List Schema) (held : List HeldAt) (source : Source) → SeesMore (found_of schemas held source).seen (held_seen held)

-- where the source has no flaw over what is seen with the rows, its shape over that is the one over what is held, along which the rows
-- were found
abbrev pub ShapeIsHeld : Type 0
ShapeIsHeld =
    (schemas : List Schema) (held : List HeldAt) (source : Source) → (plan_of source (found_of schemas held source).seen).flaws ≡ []
    → shape_of source (found_of schemas held source).seen ≡ shape_of source (held_seen held)

-- What rows hide: the id of a path that is added or may be replaced; the attributes of one that is added, has a property detail
-- or is unsure.
abbrev pub changes_in : Action → Bool → Bool
changes_in action.Add b = true
changes_in action.Modify b = b
changes_in action.Remove b = false

abbrev pub row_hides_id : Row → Bool
row_hides_id r = changes_in r.action (not (keeps_id r.replacement))

abbrev pub row_hides_attrs : Row → Bool
row_hides_attrs r = changes_in r.action (list_any is_property r.details || r.unsure)

abbrev pub hides_id : List Row → List ℕ → Bool
hides_id rows path = list_any (λ r. bytes_eq path r.path && row_hides_id r) rows

abbrev pub hides_attrs : List Row → List ℕ → Bool
hides_attrs rows path = list_any (λ r. bytes_eq path r.path && row_hides_attrs r) rows

-- what is held, but for what the rows hide
abbrev pub left_seen : List Row → List HeldAt → Seen
left_seen rows held = hidden_of (hides_id rows) (hides_attrs rows) (held_seen held)

-- Where a change set is not refused for a flaw or for a type, what is seen with its rows is, at each path that is wanted, what
-- they leave of what is held; and that suffices to open every template.
pub record LeavesSeen (schemas : List Schema) (held : List HeldAt) (source : Source) (rows : List Row) : Type 0 where
  pub same : AgreeAt (map (λ m. m.path) (resources_in (shape_of source (held_seen held)))) (found_of schemas held source).seen
      (left_seen rows held)
  pub clear : IsClear (shape_of source (left_seen rows held))

abbrev pub ChangesHide : Type 0
ChangesHide =
    (schemas : List Schema) (held : List HeldAt) (outputs : List Output) (exports : List (List ℕ × List ℕ)) (source : Source)
    → (changes_of schemas held outputs exports source).flaws ≡ [] → (changes_of schemas held outputs exports source).clash ≡ []
    → LeavesSeen schemas held source (changes_of schemas held outputs exports source).rows

-- so the shape stays while all stays that the rows don't hide
abbrev pub ShapeStaysForward : Type 0
ShapeStaysForward =
    (schemas : List Schema) (held : List HeldAt) (outputs : List Output) (exports : List (List ℕ × List ℕ)) (source : Source) (now : Seen)
    → (changes_of schemas held outputs exports source).flaws ≡ [] → (changes_of schemas held outputs exports source).clash ≡ []
    → KeepsRest (hides_id (changes_of schemas held outputs exports source).rows)
    (hides_attrs (changes_of schemas held outputs exports source).rows) (held_seen held) now
    → shape_of source now ≡ shape_of source (held_seen held)
