-- A source's plan as it is needed once all is known, and what of it rests on no resource (this project's own).
use Rattle.std.specs.Prelude.{ℕ, Bool, List, [], ◌∷◌, Option, Some, None, find, map, option_map}
use Rattle.std.specs.Option.{option_map_or}
use Rattle.std.specs.Str.{bytes_eq}
use Rattle.cf_tree.specs.Datum.{Data}
use Rattle.cf_tree.specs.declared.source.Source.{Source}
use Rattle.cf_export.specs.declared.Output.{Output}
use Rattle.cf_desired.specs.declared.wanted.Evaluated.TheVariants.{Flawed as flawed, Known as evaluated}
use Rattle.cf_desired.specs.declared.wanted.Exporting.{Exporting}
use Rattle.cf_desired.specs.declared.wanted.Exporting.TheVariants as exporting
use Rattle.cf_desired.specs.declared.flaw.Flaw.{Flaw}
use Rattle.cf_desired.specs.declared.whole_plan.Right as kept_right
use Rattle.cf_desired.specs.declared.whole_plan.WholePlan as kept_whole
use Rattle.cf_desired.specs.declared.wanted.Evaluated.{Evaluated}
use Rattle.cf_desired.specs.declared.wanted.Wanted.{Wanted}
use Rattle.cf_desired.specs.declared.wanted.WantedOutput.{WantedOutput}
use Rattle.cf_desired.specs.declared.wanted.Plan.{Plan}
use Rattle.cf_desired.specs.Plan.{plan_of}
use Rattle.cf_desired.specs.Seeing.{Seen}

-- the plan of a path
abbrev pub is_wanted_at : List ℕ → Wanted → Bool
is_wanted_at path w = bytes_eq path w.path

abbrev pub wanted_at : List ℕ → Plan → Option Wanted
wanted_at path p = find (is_wanted_at path) p.wanted

-- properties without one that is Later
abbrev pub known_props_from : List (List ℕ × Option Data) → Option (List (List ℕ × Data))
known_props_from [] = Some []
known_props_from ((name, None) ∷ ps) = None
known_props_from ((name, Some d) ∷ ps) = option_map (λ rest. (name, d) ∷ rest) (known_props_from ps)

abbrev pub known_of : Evaluated → Option (List (List ℕ × Data))
known_of (flawed f) = None
known_of (evaluated ps) = known_props_from ps

-- a resource all of whose parts are known
abbrev pub Right : Type 0
Right = kept_right.Right

abbrev pub right_of : Wanted → Option Right
right_of w =
    option_map (λ props. record {
      path = w.path;
      kind = w.kind;
      deletion = w.deletion;
      replace = w.replace;
      needs = w.needs;
      props = props;
    })
    (known_of w.props)

abbrev pub right_export_name : Exporting → Option (Option (List ℕ))
right_export_name exporting.Nothing = Some None
right_export_name exporting.Fault = None
right_export_name (exporting.Named name) = Some (Some name)

abbrev pub with_export : WantedOutput → List ℕ → Option (Option (List ℕ)) → Option Output
with_export o value None = None
with_export o value (Some export) = Some (record { name = o.name; value = value; export = export })

abbrev pub right_output : WantedOutput → Option Output
right_output o = option_map_or (λ value. with_export o value (right_export_name o.export)) o.value None

-- f of each of a list, where it is there for all
abbrev pub all_of : {A B : Type 0} → (A → Option B) → List A → Option (List B)
all_of f [] = Some []
all_of f (a ∷ rest) = option_map_or (λ b. option_map (λ bs. b ∷ bs) (all_of f rest)) (f a) None

abbrev pub right_export : List ℕ × Option (List ℕ) → Option (List ℕ × List ℕ)
right_export e = option_map (λ value. (e.0, value)) e.1

-- the whole map: every path, output and export, where nothing is Later or at fault
abbrev pub Whole : Type 0
Whole = kept_whole.WholePlan

abbrev pub whole_with : List Right → List Output → Option (List (List ℕ × List ℕ)) → Option Whole
whole_with rights outputs None = None
whole_with rights outputs (Some exports) = Some (record { wanted = rights; outputs = outputs; exports = exports })

abbrev pub whole_from : Plan → Option (List Right) → Option (List Output) → Option Whole
whole_from p (Some rights) (Some outputs) = whole_with rights outputs (all_of right_export p.exports)
whole_from p _ _ = None

abbrev pub unless_flawed : List Flaw → Option Whole → Option Whole
unless_flawed [] whole = whole
unless_flawed (f ∷ fs) whole = None

abbrev pub whole_in : Plan → Option Whole
whole_in p = unless_flawed p.flaws (whole_from p (all_of right_of p.wanted) (all_of right_output p.outputs))

abbrev pub whole_of : Source → Seen → Option Whole
whole_of source seen = whole_in (plan_of source seen)

-- the names that a plan exports; those that a source exports, over what is seen
abbrev pub export_names : Plan → List (List ℕ)
export_names p = map (λ e. e.0) p.exports

abbrev pub export_names_of : Source → Seen → List (List ℕ)
export_names_of source seen = export_names (plan_of source seen)
