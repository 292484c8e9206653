-- The create that comes next while a creation goes forward, as it is found by places (this project's own).
use Rattle.std.specs.Prelude.{◌≡◌, ◌&&◌, ◌||◌, ℕ, suc, Bool, true, not, List, [], ◌∷◌, ◌++◌, Option, None, Some, find, fold, option_and_then, if◌then◌else◌}
use Rattle.std.specs.List.{slice_get}
use Rattle.cf_tree.specs.Datum.{Data}
use Rattle.cf_tree.specs.declared.request.Request.TheVariants as request
use Rattle.cf_ready.specs.Ready.{are_made_in, is_made_in}
use Rattle.cf_effect.specs.declared.findings.Findings.{Findings}
use Rattle.cf_effect.specs.declared.findings.Found.{Found}
use Rattle.cf_effect.specs.declared.layout.Layout.{Layout}
use Rattle.cf_effect.specs.declared.layout.Placed.{Placed}
use Rattle.cf_effect.specs.Ahead.{GoesForth, found_in, is_sound}
use Rattle.cf_effect.specs.World.{StackState}
use Rattle.cf_plan.specs.Follow.{is_free}
use Rattle.cf_plan.specs.Start.{Start}
use Rattle.cf_next.specs.First.{fits_one}
use Rattle.cf_next.specs.Repeats.{AreRepeatsBut}

-- A creation goes forward that holds nothing from before and had no setback and no update; nothing waits to be made again, and no stack
-- is nested in it.
pub record GoesAhead (out : List ℕ) (s : StackState) : Type 0 where
  pub forth : GoesForth s
  pub idle : AreRepeatsBut [] out s []

-- By the places of a layout: the path at a place is made; all that a path needs is; and what is kept of its properties.
abbrev pub is_made_at : Findings → ℕ → Bool
is_made_at f at = is_made_in f.made.items at

abbrev pub are_made : Findings → List ℕ → Bool
are_made f needs = are_made_in f.made.items needs

abbrev pub found_at : Findings → ℕ → Option Found
found_at f at = found_in f.found.items at

-- each path that is ready is sound; the first row has this place
abbrev pub is_sound_row : Findings → ℕ → Placed → Bool
is_sound_row f at row = not (are_made f row.needs.items) || is_sound (found_at f at)

abbrev pub are_sound : Findings → ℕ → List Placed → Bool
are_sound f at [] = true
are_sound f at (row ∷ rows) = is_sound_row f at row && are_sound f (suc at) rows

-- the creates of the paths that are ready and not made, and have no open call, where all properties are known
abbrev pub create_at : List ℕ → List ℕ → Option (List (List ℕ × Data)) → List Start
create_at path kind None = []
create_at path kind (Some props) = record { path = path; request = request.Create kind props } ∷ []

abbrev pub may_create : StackState → Findings → ℕ → Placed → Bool
may_create s f at row = not (is_made_at f at) && (are_made f row.needs.items && is_free row.path s)

abbrev pub known_at : Findings → ℕ → Option (List (List ℕ × Data))
known_at f at = option_and_then (λ e. e.known) (found_at f at)

abbrev pub creates_of : StackState → Findings → ℕ → Placed → List Start
creates_of s f at row = if may_create s f at row then create_at row.path row.kind (known_at f at) else []

abbrev pub creates_of_rows : StackState → Findings → ℕ → List Placed → List Start
creates_of_rows s f at [] = []
creates_of_rows s f at (row ∷ rows) = creates_of s f at row ++ creates_of_rows s f (suc at) rows

-- the create of the path at a place, where it may begin and a lane at home fits it
abbrev pub fitting_at : List (List ℕ × List ℕ) → StackState → Layout → Findings → ℕ → Option Start
fitting_at homes s l f at = option_and_then (λ row. find (fits_one homes) (creates_of s f at row)) (slice_get l.rows.items at)

-- and that of the path of the name of a rank
abbrev pub fitting_ranked : List (List ℕ × List ℕ) → StackState → Layout → Findings → ℕ → Option Start
fitting_ranked homes s l f rank = option_and_then (λ p. fitting_at homes s l f p.1) (slice_get l.places rank)

-- the first of them in the order of names that have places
abbrev pub or_fitting : List (List ℕ × List ℕ) → StackState → Layout → Findings → Option Start → ℕ → Option Start
or_fitting homes s l f (Some a) at = Some a
or_fitting homes s l f None at = fitting_at homes s l f at

abbrev pub first_named : List (List ℕ × List ℕ) → StackState → Layout → Findings → List (List ℕ × ℕ) → Option Start
first_named homes s l f names = fold (λ first named. or_fitting homes s l f first named.1) None names
