-- How far two versions of a resource's properties differ (CloudFormation CLI guide: createOnlyProperties, conditionalCreateOnlyProperties).
use Rattle.std.specs.Prelude.{ℕ, List, Bool, true, false, not, Option, Some, None, if◌then◌else◌}
use Rattle.std.specs.List.{list_any}
use Rattle.cf_tree.specs.Datum.{Data, members_of}
use Rattle.cf_tree.specs.Keys.{value_at}
use Rattle.cf_tree.specs.Same.{same_data, same_members}
use Rattle.cf_schema.specs.declared.described.Schema.{Schema}
use Rattle.cf_schema.specs.declared.changed.Difference.{Difference}
use Rattle.cf_schema.specs.declared.changed.Difference.TheVariants.{Same, Update, MayReplace, Replace}

-- a property differs: its value does, or it stands on one side alone
abbrev pub value_differs : Option Data → Option Data → Bool
value_differs (Some a) (Some b) = not (same_data a b)
value_differs None None = false
value_differs a b = true

abbrev pub differs_at : List ℕ → List (List ℕ × Data) → List (List ℕ × Data) → Bool
differs_at name old new = value_differs (value_at name old) (value_at name new)

abbrev pub any_differs : List (List ℕ) → List (List ℕ × Data) → List (List ℕ × Data) → Bool
any_differs names old new = list_any (λ name. differs_at name old new) names

abbrev pub difference_of : Schema → List (List ℕ × Data) → List (List ℕ × Data) → Difference
difference_of schema old new =
    if same_members (members_of old) (members_of new) then Same
    else if any_differs schema.create_only old new then Replace
    else if any_differs schema.conditional old new then MayReplace
    else Update
