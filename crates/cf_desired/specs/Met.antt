-- What is met along the order of work, over what is seen: nested stacks, outputs, and flaws in the order in which they are met
-- (that order is this project's own).
use Rattle.std.specs.Prelude.{ℕ, List, [], ◌∷◌, ◌++◌, Option, Some, None, filter, map, option_map}
use Rattle.std.specs.Option.{option_or}
use Rattle.cf_tree.specs.Forms.{Form}
use Rattle.cf_tree.specs.declared.source.Source.{Source}
use Rattle.cf_tree.specs.declared.template.Out.{Out}
use Rattle.cf_desired.specs.declared.flaw.Flaw.{Flaw}
use Rattle.cf_desired.specs.declared.flaw.Flaw.TheVariants as flaw
use Rattle.cf_desired.specs.declared.wanted.Evaluated.{Evaluated}
use Rattle.cf_desired.specs.declared.wanted.Evaluated.TheVariants.{Flawed as flawed, Known as evaluated}
use Rattle.cf_desired.specs.declared.wanted.Exporting.{Exporting}
use Rattle.cf_desired.specs.declared.wanted.Exporting.TheVariants as exporting
use Rattle.cf_desired.specs.declared.wanted.WantedOutput.{WantedOutput}
use Rattle.cf_desired.specs.Given.{Given, given_in, settings_for, bind_fault, offers_of, offers_stop}
use Rattle.cf_eval.specs.Outcome.{Outcome, got}
use Rattle.cf_eval.specs.Scope.{Scope}
use Rattle.cf_desired.specs.Seeing.{Seen, is_output_made, own_ids, first_sights, nested_sight, sights_after, outputs_inside, output_stop}
use Rattle.cf_desired.specs.Seeing.{text_in, text_known, export_wanted}
use Rattle.cf_desired.specs.Stack.{Stack, Verdicts, Sights, Scoping, scoping, flaw_at}
use Rattle.cf_desired.specs.Work.{Member, Nesting, Work, Inside, Body, Shape, no_work, resource, nested, shut, barred, halted, opened}
use Rattle.cf_desired.specs.Work as inside
use Rattle.cf_desired.specs.Valued.{member_props}

-- a nested stack, with the fault of its parameters; an output; or a flaw, of a resource's properties or of
-- what was to be entered
pub data Met : Type 0 where
  a_stack : Nesting → Option Flaw → Met
  an_output : WantedOutput → Met
  a_flaw : Flaw → Met

abbrev pub exporting_as : Outcome (List ℕ) → Exporting
exporting_as (got name) = exporting.Named name
exporting_as _ = exporting.Fault

abbrev pub exporting_in : Scope → Option Form → Exporting
exporting_in s None = exporting.Nothing
exporting_in s (Some f) = exporting_as (export_wanted f (text_in s f))

abbrev pub output_at : List ℕ → Verdicts → Scope → Out → WantedOutput
output_at path conds s o = record {
  name = o.name;
  value = text_known (text_in s o.value);
  export = exporting_in s o.export;
  fault = option_map (flaw_at path) (output_stop conds s o);
}

abbrev pub outputs_wanted : Stack → Verdicts → Scope → List WantedOutput
outputs_wanted t conds s = map (output_at t.path conds s) (filter (is_output_made conds) t.template.outputs)

abbrev pub outputs_met : Stack → Verdicts → Scope → List Met
outputs_met t conds s = map (λ o. an_output o) (outputs_wanted t conds s)

-- Why the parameters of the stack at a path can't be bound: its `Parameters` are at fault, or else what they come to.
abbrev pub offers_flaw : List ℕ → Scope → Option Form → Option Flaw
offers_flaw path s form = option_map (flaw_at path) (offers_stop (offers_of s form))

abbrev pub bind_flaw : Stack → Given → Option Flaw
bind_flaw t g = option_map (flaw.Bind t.path) (bind_fault t.template.params g)

abbrev pub bind_flaw_in : Given → Body → Option Flaw
bind_flaw_in g (barred f) = None
bind_flaw_in g (halted t f) = bind_flaw t g
bind_flaw_in g (opened t conds w) = bind_flaw t g

abbrev pub flaw_inside : List ℕ → Scope → Inside → Option Flaw
flaw_inside path s (shut f) = None
flaw_inside path s (inside.given_by form b) = option_or (offers_flaw path s form) (bind_flaw_in (given_in s form) b)

abbrev pub flaws_of : Evaluated → List Flaw
flaws_of (flawed f) = f ∷ []
flaws_of (evaluated ps) = []

abbrev pub flaw_met : Option Flaw → List Met
flaw_met None = []
flaw_met (Some f) = a_flaw f ∷ []

-- the scope of a template's outputs: all of its resources have come
abbrev pub scope_after : Source → Seen → Given → Stack → Verdicts → Work → Scope
scope_after source seen g t conds w =
    scoping source t conds (settings_for t.template.params g)
    (sights_after source seen (scoping source t conds (settings_for t.template.params g)) (first_sights t conds seen (own_ids w)) w)

abbrev mutual
  pub met_along : Source → Seen → List ℕ → Scoping → Sights → Work → List Met
  met_along source seen path over sights no_work = []
  met_along source seen path over sights (resource m w) =
      map (λ f. a_flaw f) (flaws_of (member_props path (over sights) m)) ++ met_along source seen path over sights w
  met_along source seen path over sights (nested n i w) =
      a_stack n (flaw_inside path (over sights) i)
      ∷ (met_inside source seen path (over sights) i
      ++ met_along source seen path over (nested_sight source n (outputs_inside source seen (over sights) i) sights) w)

  pub met_inside : Source → Seen → List ℕ → Scope → Inside → List Met
  met_inside source seen path s (shut f) = a_flaw f ∷ []
  met_inside source seen path s (inside.given_by form b) = flaw_met (offers_flaw path s form) ++ met_in source seen (given_in s form) b

  pub met_in : Source → Seen → Given → Body → List Met
  met_in source seen g (barred f) = a_flaw f ∷ []
  met_in source seen g (halted t f) = flaw_met (bind_flaw t g) ++ (a_flaw f ∷ [])
  met_in source seen g (opened t conds w) =
      flaw_met (bind_flaw t g)
      ++ (met_along source seen t.path (scoping source t conds (settings_for t.template.params g)) (first_sights t conds seen (own_ids w)) w
      ++ outputs_met t conds (scope_after source seen g t conds w))
