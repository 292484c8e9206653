-- What is seen, and what of a plan is known; a plan all of which is known is whole, and where all paths are seen, a plan
-- without a flaw is known (these are this project's own laws).
use Rattle.std.specs.Prelude.{◌≡◌, ℕ, Bool, true, false, ◌&&◌, not, List, [], Option, Some, IsTrue, map, filter, find, is_some}
use Rattle.std.specs.List.{list_all}
use Rattle.std.specs.Option.{option_and_then}
use Rattle.std.specs.Str.{bytes_eq}
use Rattle.cf_tree.specs.Datum.{Data}
use Rattle.cf_tree.specs.Keys.{value_at}
use Rattle.cf_tree.specs.declared.source.Source.{Source}
use Rattle.cf_tree.specs.Lists.{is_among}
use Rattle.cf_eval.specs.Knows.{StaysKnown}
use Rattle.cf_desired.specs.declared.flaw.Flaw.{Flaw}
use Rattle.cf_desired.specs.declared.flaw.Flaw.TheVariants as flaw
use Rattle.cf_desired.specs.declared.wanted.Evaluated.TheVariants.{Flawed as flawed, Known as evaluated}
use Rattle.cf_desired.specs.declared.wanted.Plan.{Plan}
use Rattle.cf_desired.specs.declared.wanted.Evaluated.{Evaluated}
use Rattle.cf_desired.specs.Plan.{plan_by}
use Rattle.cf_desired.specs.Seeing.{Seen}
use Rattle.cf_desired.specs.Shape.{shape_of}
use Rattle.cf_desired.specs.Valued.{resources_in}
use Rattle.cf_desired.specs.Whole.{Whole, wanted_at, known_of, known_props_from, right_of, right_output, right_export, whole_in}

-- what is seen at a path
abbrev pub id_seen : List ℕ → Seen → Option (List ℕ)
id_seen path seen = option_and_then (λ s. s.physical) (value_at path seen)

abbrev pub attrs_seen : List ℕ → Seen → Option (List (List ℕ × Data))
attrs_seen path seen = option_and_then (λ s. s.attrs) (value_at path seen)

-- b shows each physical id and all attributes that a shows
abbrev pub SeesMore : Seen → Seen → Type 0
SeesMore a b = (path : List ℕ) → StaysKnown (id_seen path a) (id_seen path b) × StaysKnown (attrs_seen path a) (attrs_seen path b)

-- the properties of a path, where all are known, and the value of an output, where it is
abbrev pub props_known : List ℕ → Plan → Option (List (List ℕ × Data))
props_known path p = option_and_then (λ w. known_of w.props) (wanted_at path p)

abbrev pub output_known : List ℕ → Plan → Option (List ℕ)
output_known name p = option_and_then (λ o. o.value) (find (λ o. bytes_eq name o.name) p.outputs)

-- what is known in p stands in q
pub record KeepsKnown (p q : Plan) : Type 0 where
  pub props : (path : List ℕ) → StaysKnown (props_known path p) (props_known path q)
  pub outputs : (name : List ℕ) → StaysKnown (output_known name p) (output_known name q)

-- the flaw is of an evaluation, and not of binding, of the order of work or of a template
abbrev pub is_of_evaluation : Flaw → Bool
is_of_evaluation (flaw.Eval why stack at) = true
is_of_evaluation _ = false

abbrev pub other_flaws : Plan → List Flaw
other_flaws p = filter (λ f. not (is_of_evaluation f)) p.flaws

-- the plan has no flaw, and the properties of each path, the value of each output and that of each export are known
pub record IsAllKnown (p : Plan) : Type 0 where
  pub flaws : p.flaws ≡ []
  pub props : IsTrue (list_all (λ w. is_some (right_of w)) p.wanted)
  pub outputs : IsTrue (list_all (λ o. is_some (right_output o)) p.outputs)
  pub exports : IsTrue (list_all (λ e. is_some (right_export e)) p.exports)

-- a whole map has just what the plan has, one by one: paths, outputs of the root, and exports
pub record IsWholeOf (p : Plan) (w : Whole) : Type 0 where
  pub wanted : map (λ r. Some r) w.wanted ≡ map right_of p.wanted
  pub outputs : map (λ o. Some o) w.outputs ≡ map right_output p.outputs
  pub exports : map (λ e. Some e) w.exports ≡ map right_export p.exports

-- a plan all of which is known is whole
abbrev pub AllKnownIsWhole : Type 0
AllKnownIsWhole = (p : Plan) → IsAllKnown p → (w : Whole) × (whole_in p ≡ Some w) × IsWholeOf p w

-- a and b show the same of these paths
abbrev pub AgreeAt : List (List ℕ) → Seen → Seen → Type 0
AgreeAt paths a b =
    (path : List ℕ) → is_among path paths ≡ true → (id_seen path b ≡ id_seen path a) × (attrs_seen path b ≡ attrs_seen path a)

-- the physical id and the attributes of a path are seen
abbrev pub is_shown : Seen → List ℕ → Bool
is_shown seen path = is_some (id_seen path seen) && is_some (attrs_seen path seen)

-- where all paths are seen, a plan without a flaw is known
abbrev pub SeenIsKnown : Type 0
SeenIsKnown =
    (source : Source) (before now : Seen) → IsTrue (list_all (λ m. is_shown now m.path) (resources_in (shape_of source before)))
    → (plan_by source (shape_of source before) now).flaws ≡ [] → IsAllKnown (plan_by source (shape_of source before) now)

-- properties that are all known, or at fault
abbrev pub is_settled : Evaluated → Bool
is_settled (flawed f) = true
is_settled (evaluated ps) = is_some (known_props_from ps)
