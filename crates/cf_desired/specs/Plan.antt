-- What a source wants, by its shape: the properties of one path, the plan of all, and what is known of them (the plan is this
-- project's own; what is in it is of the template reference).
use Rattle.std.specs.Prelude.{ℕ, not, List, [], ◌∷◌, Option, filter, flat_map, find, map, option_map}
use Rattle.std.specs.Option.{option_map_or}
use Rattle.std.specs.Str.{bytes_eq}
use Rattle.cf_tree.specs.declared.source.Source.{Source}
use Rattle.cf_desired.specs.Seeing.{Seen, is_output_made}
use Rattle.cf_desired.specs.declared.flaw.Flaw.{Flaw}
use Rattle.cf_desired.specs.declared.wanted.Evaluated.{Evaluated}
use Rattle.cf_desired.specs.declared.wanted.Exporting.{Exporting}
use Rattle.cf_desired.specs.declared.wanted.Exporting.TheVariants as exporting
use Rattle.cf_desired.specs.declared.wanted.Inner.{Inner}
use Rattle.cf_desired.specs.declared.wanted.Plan.{Plan}
use Rattle.cf_desired.specs.declared.wanted.Wanted.{Wanted}
use Rattle.cf_desired.specs.declared.wanted.WantedOutput.{WantedOutput}
use Rattle.cf_desired.specs.Given.{Given}
use Rattle.cf_desired.specs.Met.{Met, a_stack, an_output, a_flaw, met_in, outputs_wanted, scope_after}
use Rattle.cf_desired.specs.Shape.{shape_of, given_root, templates_in, members_in}
use Rattle.cf_desired.specs.Valued.{resources_in, nestings_in, valued_in}
use Rattle.cf_desired.specs.Work.{Member, Nesting, Body, Shape, opened}

-- a resource by its path, in the order of work
abbrev pub member_at : Shape → List ℕ → Option Member
member_at shape path = find (λ m. bytes_eq path m.path) (resources_in shape)

-- the properties of one path
abbrev pub at_path : List ℕ → List (Member × Evaluated) → Option (Member × Evaluated)
at_path path rs = find (λ r. bytes_eq path r.0.path) rs

abbrev pub props_at : Source → Shape → Seen → List ℕ → Option Evaluated
props_at source shape seen path = option_map (λ r. r.1) (at_path path (valued_in source seen (given_root source) shape))

-- a nested stack by its path, and why its parameters can't be bound
abbrev pub nesting_at : Shape → List ℕ → Option Nesting
nesting_at shape path = find (λ n. bytes_eq path n.path) (nestings_in shape)

abbrev pub stack_met : Met → List (Nesting × Option Flaw)
stack_met (a_stack n f) = (n, f) ∷ []
stack_met _ = []

abbrev pub stacks_met : List Met → List (Nesting × Option Flaw)
stacks_met ms = flat_map stack_met ms

abbrev pub fault_at : Source → Shape → Seen → List ℕ → Option (Option Flaw)
fault_at source shape seen path =
    option_map (λ s. s.1) (find (λ s. bytes_eq path s.0.path) (stacks_met (met_in source seen (given_root source) shape)))

-- the flaws, in the order in which they are met
abbrev pub output_flaws : WantedOutput → List Flaw
output_flaws o = option_map_or (λ f. f ∷ []) o.fault []

abbrev pub flaw_of : Met → List Flaw
flaw_of (a_stack n f) = []
flaw_of (an_output o) = output_flaws o
flaw_of (a_flaw f) = f ∷ []

-- the outputs of the root
abbrev pub outputs_in : Source → Seen → Given → Body → List WantedOutput
outputs_in source seen g (opened t conds w) = outputs_wanted t conds (scope_after source seen g t conds w)
outputs_in source seen g _ = []

-- a plan that wants nothing
abbrev pub no_plan : ℕ → ℕ → List Flaw → Plan
no_plan templates members flaws =
    record { wanted = []; outputs = []; nested = []; unmade = []; exports = []; flaws = flaws; templates = templates; members = members }

-- the plan
abbrev pub wanted_of : Member × Evaluated → Wanted
wanted_of r = record { path = r.0.path; kind = r.0.kind; deletion = r.0.deletion; replace = r.0.replace; needs = r.0.needs; props = r.1 }

abbrev pub inner_of : Met → List Inner
inner_of (a_stack n f) = record { path = n.path; needs = n.needs; fault = f } ∷ []
inner_of _ = []

-- what is exported: names, each with its value, which is None while it is not known or at fault
abbrev pub exported_as : Option (List ℕ) → Exporting → List (List ℕ × Option (List ℕ))
exported_as value (exporting.Named name) = (name, value) ∷ []
exported_as value _ = []

abbrev pub exported : WantedOutput → List (List ℕ × Option (List ℕ))
exported o = exported_as o.value o.export

abbrev pub export_met : Met → List (List ℕ × Option (List ℕ))
export_met (an_output o) = exported o
export_met _ = []

abbrev pub unmade_in : Body → List (List ℕ)
unmade_in (opened t conds w) = map (λ o. o.name) (filter (λ o. not (is_output_made conds o)) t.template.outputs)
unmade_in _ = []

abbrev pub plan_from : Shape → List (Member × Evaluated) → List WantedOutput → List Met → Plan
plan_from shape rs outputs ms = record {
  wanted = map wanted_of rs;
  outputs = outputs;
  nested = flat_map inner_of ms;
  unmade = unmade_in shape;
  exports = flat_map export_met ms;
  flaws = flat_map flaw_of ms;
  templates = templates_in shape;
  members = members_in shape;
}

abbrev pub plan_by : Source → Shape → Seen → Plan
plan_by source shape seen =
    plan_from shape (valued_in source seen (given_root source) shape) (outputs_in source seen (given_root source) shape)
    (met_in source seen (given_root source) shape)

-- what a source wants over what is seen
abbrev pub plan_of : Source → Seen → Plan
plan_of source seen = plan_by source (shape_of source seen) seen
