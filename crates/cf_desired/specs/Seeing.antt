-- What is seen of the resources of a template, and of the outputs of the nested stacks in it (template reference: Ref,
-- Fn::GetAtt, Outputs; what is Later or at fault is this project's own).
use Rattle.std.specs.Prelude.{ℕ, Bool, false, not, List, [], ◌∷◌, ◌++◌, Option, Some, None, filter, map, is_some, codes, if◌then◌else◌}
use Rattle.std.specs.Option.{option_or, option_map_or}
use Rattle.cf_tree.specs.Forms.{Form, place_of}
use Rattle.cf_tree.specs.Keys.{value_at, put}
use Rattle.cf_tree.specs.declared.source.Source.{Source}
use Rattle.cf_tree.specs.declared.template.Out.{Out}
use Rattle.cf_tree.specs.declared.template.Res.{Res}
use Rattle.cf_eval.specs.declared.fault.EvalWhy.TheVariants.{UnknownName, WrongKind}
use Rattle.cf_graph.specs.Needs.{is_false, is_made}
use Rattle.cf_desired.specs.Names.{path_in, stack_id}
use Rattle.cf_desired.specs.Given.{Given, given_in, settings_for}
use Rattle.cf_eval.specs.Outcome.{Outcome, Stop, got, later, bad, fault, stopped_at}
use Rattle.cf_eval.specs.declared.env.OutputSight.{OutputSight}
use Rattle.cf_eval.specs.declared.env.OutputSight.TheVariants as output
use Rattle.cf_eval.specs.Scope.{Scope}
use Rattle.cf_eval.specs.declared.env.Sight.{Sight}
use Rattle.cf_eval.specs.declared.env.Sight.TheVariants as sight
use Rattle.cf_desired.specs.Stack.{Stack, Verdicts, Sights, Scoping, scoping, stop_in}
use Rattle.cf_eval.specs.Value.{value_of}
use Rattle.cf_eval.specs.Texts.{as_text}
use Rattle.cf_desired.specs.Work.{Member, Nesting, Work, Inside, Body, no_work, resource, nested, shut, barred, halted, opened}
use Rattle.cf_desired.specs.Work as inside
-- what is known of a resource, and how it is seen
pub use Rattle.cf_eval.specs.declared.sights.SeenAt.{SeenAt}
pub use Rattle.cf_eval.specs.Sights.{seen_as}

-- what is seen of resources, by path
abbrev pub Seen : Type 0
Seen = List (List ℕ × SeenAt)

-- All resources of a template that come in its work are seen at once, but for nested stacks: an order of work brings what is needed
-- first, so it makes no difference that later ones are seen too.
abbrev pub own_ids : Work → List (List ℕ)
own_ids no_work = []
own_ids (resource m w) = m.id ∷ own_ids w
own_ids (nested n i w) = own_ids w

abbrev pub made_sight : Stack → Seen → List ℕ → List ℕ × Sight
made_sight t seen id = (id, seen_as (value_at (path_in t.path id) seen))

abbrev pub unmade_sight : Res → List ℕ × Sight
unmade_sight r = (r.name, sight.NotMade)

abbrev pub unmade_sights : Stack → Verdicts → Sights
unmade_sights t conds = map unmade_sight (filter (λ r. not (is_made conds r)) t.template.resources)

abbrev pub first_sights : Stack → Verdicts → Seen → List (List ℕ) → Sights
first_sights t conds seen ids = map (made_sight t seen) ids ++ unmade_sights t conds

-- an output's value and the name of its export are wanted as texts; an export's name may not be Later
abbrev pub text_in : Scope → Form → Outcome (List ℕ)
text_in s e = as_text (place_of e) (value_of s e)

abbrev pub export_wanted : Form → Outcome (List ℕ) → Outcome (List ℕ)
export_wanted f later = bad (fault WrongKind (place_of f))
export_wanted f o = o

-- an output is made unless its condition is false
abbrev pub is_output_made : Verdicts → Out → Bool
is_output_made conds o = not (option_map_or (λ c. is_false (value_at c conds)) o.condition false)

abbrev pub output_place : List ℕ → List ℕ
output_place name = codes "/Outputs/" ++ name ++ codes "/Condition"

-- why an output is at fault: its condition is not declared; else its export; else its value
abbrev pub unnamed_output : Verdicts → Out → Option Stop
unnamed_output conds o =
    option_map_or (λ c. if is_some (value_at c conds) then None else Some (fault UnknownName (output_place o.name))) o.condition None

abbrev pub export_stop : Scope → Option Form → Option Stop
export_stop s None = None
export_stop s (Some f) = stop_in (export_wanted f (text_in s f))

abbrev pub output_stop : Verdicts → Scope → Out → Option Stop
output_stop conds s o = option_or (unnamed_output conds o) (option_or (export_stop s o.export) (stop_in (text_in s o.value)))

-- a text that is known
abbrev pub text_known : Outcome (List ℕ) → Option (List ℕ)
text_known (got t) = Some t
text_known _ = None

-- what is seen of an output of the stack at a path
abbrev pub broken_at : List ℕ → Stop → OutputSight
broken_at path s = let w = stopped_at path s in output.Broken w.0 w.1.0 w.1.1

abbrev pub sight_of_output : List ℕ → Verdicts → Scope → Out → OutputSight
sight_of_output path conds s o =
    if is_output_made conds o then option_map_or (broken_at path) (output_stop conds s o)
    (output.Made (text_known (text_in s o.value))) else output.NotMade

abbrev pub output_sight : Stack → Verdicts → Scope → Out → OutputSight
output_sight t conds s o = sight_of_output t.path conds s o

-- under the attribute that names it
abbrev pub output_attribute : List ℕ → List ℕ
output_attribute name = codes "Outputs." ++ name

abbrev pub output_seen : Stack → Verdicts → Scope → Out → List ℕ × OutputSight
output_seen t conds s o = (output_attribute o.name, output_sight t conds s o)

abbrev pub output_sights : Stack → Verdicts → Scope → List (List ℕ × OutputSight)
output_sights t conds s = map (output_seen t conds s) t.template.outputs

-- each name once, in byte order; of those of one name the first counts
abbrev pub by_names : {X : Type 0} → List (List ℕ × X) → List (List ℕ × X)
by_names [] = []
by_names (p ∷ ps) = put p.0 p.1 (by_names ps)

-- a nested stack is seen once it has come
abbrev pub seen_nested : Source → Nesting → List (List ℕ × OutputSight) → Sights → Sights
seen_nested source n outputs sights = put n.id (sight.Nested (stack_id n.name source.number) outputs) sights

abbrev pub nested_sight : Source → Nesting → List (List ℕ × OutputSight) → Sights → Sights
nested_sight source n outputs sights = seen_nested source n (by_names outputs) sights

abbrev mutual
  -- what is seen once all of some work has come
  pub sights_after : Source → Seen → Scoping → Sights → Work → Sights
  sights_after source seen over sights no_work = sights
  sights_after source seen over sights (resource m w) = sights_after source seen over sights w
  sights_after source seen over sights (nested n i w) =
      sights_after source seen over (nested_sight source n (outputs_inside source seen (over sights) i) sights) w

  -- the outputs of a nested stack, whose stack resource is evaluated over a scope
  pub outputs_inside : Source → Seen → Scope → Inside → List (List ℕ × OutputSight)
  outputs_inside source seen s (shut f) = []
  outputs_inside source seen s (inside.given_by form b) = outputs_of source seen (given_in s form) b

  -- the outputs of a template that is given its parameters
  pub outputs_of : Source → Seen → Given → Body → List (List ℕ × OutputSight)
  outputs_of source seen g (barred f) = []
  outputs_of source seen g (halted t f) = []
  outputs_of source seen g (opened t conds w) =
      output_sights t conds
      (scoping source t conds (settings_for t.template.params g)
      (sights_after source seen (scoping source t conds (settings_for t.template.params g)) (first_sights t conds seen (own_ids w)) w))
