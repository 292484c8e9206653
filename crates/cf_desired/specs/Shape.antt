-- The shape of a source over what is seen before an operation: of what is seen it rests on nested templates' names and conditions
-- alone (User Guide: working with nested stacks; the limits are this project's own).
use Rattle.std.specs.Prelude.{ℕ, zero, suc, ◌+◌, Bool, true, false, ◌&&◌, not, List, [], ◌∷◌, ◌++◌, Option, Some, None, Result, Ok, Err}
use Rattle.std.specs.Prelude.{find, flat_map, fold, length, map, option_map, unwrap_or, is_some, nat_lt, codes, if◌then◌else◌}
use Rattle.std.specs.List.{list_all}
use Rattle.std.specs.Option.{option_or, option_map_or}
use Rattle.cf_tree.specs.Datum.{Data}
use Rattle.cf_tree.specs.Forms.{place_of}
use Rattle.cf_tree.specs.Keys.{value_at, put}
use Rattle.cf_tree.specs.Lists.{is_among}
use Rattle.cf_tree.specs.declared.bound.Verdict.{Verdict}
use Rattle.cf_tree.specs.declared.bound.Verdict.TheVariants as verdict
use Rattle.cf_tree.specs.declared.source.Source.{Source}
use Rattle.cf_tree.specs.declared.template.Deletion.{Deletion}
use Rattle.cf_tree.specs.declared.template.Deletion.TheVariants as deletion
use Rattle.cf_tree.specs.declared.template.Replace.{Replace}
use Rattle.cf_tree.specs.declared.template.Replace.TheVariants as replace
use Rattle.cf_tree.specs.declared.template.Res.{Res}
use Rattle.cf_tree.specs.declared.template.Template.{Template}
use Rattle.cf_eval.specs.declared.fault.EvalWhy.TheVariants.{UnknownName, WrongKind}
use Rattle.cf_graph.specs.Needs.{OrderFault, needs_of, referred_to, resource_named}
use Rattle.cf_param.specs.declared.offered.Piece.TheVariants.{Text}
use Rattle.cf_desired.specs.Flaw.{graph_fault_as}
use Rattle.cf_desired.specs.Names.{path_in, name_in, pseudo_of}
use Rattle.cf_desired.specs.declared.flaw.Flaw.{Flaw}
use Rattle.cf_desired.specs.declared.flaw.Flaw.TheVariants as flaw
use Rattle.cf_eval.specs.Conditions.{conditions_of}
use Rattle.cf_desired.specs.Templates.{is_stack, template_named}
use Rattle.cf_desired.specs.Given.{Given, pieces, given_in, settings_for}
use Rattle.cf_eval.specs.Outcome.{Outcome, got, later, bad, fault, on_got}
use Rattle.cf_eval.specs.Scope.{Scope}
use Rattle.cf_desired.specs.Seeing.{Seen, own_ids, first_sights, nested_sight, outputs_inside}
use Rattle.cf_desired.specs.Stack.{Stack, Verdicts, Settings, Sights, Scoping, scoping, flaw_at}
use Rattle.cf_eval.specs.Value.{value_of}
use Rattle.cf_eval.specs.Texts.{text_of}
use Rattle.cf_desired.specs.Work.{Member, Nesting, Work, Inside, Body, Shape, no_work, resource, nested, shut, barred, halted, opened}
use Rattle.cf_desired.specs.Work as inside

-- a template that is entered: as which stack, with which policies and needs around it
pub record Entering : Type 0 where
  pub stack : Stack
  pub deletion : Option Deletion
  pub replace : Option Replace
  pub needs : List (List ℕ)

-- Which paths a logical id stands for: a made resource for its own, a nested stack for all in it and all that it needs.
abbrev pub StandsFor : Type 0
StandsFor = List (List ℕ × List (List ℕ))

abbrev pub first_stand : Stack → List ℕ → List ℕ × List (List ℕ)
first_stand t id = (id, path_in t.path id ∷ [])

abbrev pub first_stands : Stack → List (List ℕ) → StandsFor
first_stands t ids = map (first_stand t) ids

abbrev pub stood_for : StandsFor → List (List ℕ) → List (List ℕ)
stood_for stands ids = flat_map (λ id. unwrap_or (value_at id stands) []) ids

-- each once, in byte order
abbrev pub put_name : List (List ℕ × Bool) → List ℕ → List (List ℕ × Bool)
put_name all name = put name true all

abbrev pub in_order : List (List ℕ) → List (List ℕ)
in_order names = map (λ p. p.0) (fold put_name [] names)

-- all paths in a template, and what the nested stacks in it need
abbrev mutual
  pub paths_below : Work → List (List ℕ)
  paths_below no_work = []
  paths_below (resource m w) = paths_below w
  paths_below (nested n i w) = (paths_inside i ++ n.needs) ++ paths_below w

  pub paths_inside : Inside → List (List ℕ)
  paths_inside (shut f) = []
  paths_inside (inside.given_by form b) = paths_in b

  pub paths_in : Body → List (List ℕ)
  paths_in (barred f) = []
  paths_in (halted t f) = []
  paths_in (opened t conds w) = map (path_in t.path) (own_ids w) ++ paths_below w

-- how many templates were entered, and how many resources these have
abbrev mutual
  pub templates_below : Work → ℕ
  templates_below no_work = 0
  templates_below (resource m w) = templates_below w
  templates_below (nested n i w) = templates_inside i + templates_below w

  pub templates_inside : Inside → ℕ
  templates_inside (shut f) = 0
  templates_inside (inside.given_by form b) = templates_in b

  pub templates_in : Body → ℕ
  templates_in (barred f) = 0
  templates_in (halted t f) = 1
  templates_in (opened t conds w) = suc (templates_below w)

abbrev mutual
  pub members_below : Work → ℕ
  members_below no_work = 0
  members_below (resource m w) = members_below w
  members_below (nested n i w) = members_inside i + members_below w

  pub members_inside : Inside → ℕ
  members_inside (shut f) = 0
  members_inside (inside.given_by form b) = members_in b

  pub members_in : Body → ℕ
  members_in (barred f) = 0
  members_in (halted t f) = length t.template.resources
  members_in (opened t conds w) = length t.template.resources + members_below w

-- What a resource needs: what the ids that it refers to stand for, and what the template around it needs.
abbrev pub needed_by : Entering → Verdicts → StandsFor → Res → List (List ℕ)
needed_by e conds stands r = in_order (stood_for stands (referred_to e.stack.template conds r) ++ e.needs)

-- a resource's condition that is not declared is an unknown name
abbrev pub resource_place : List ℕ → List ℕ
resource_place id = codes "/Resources/" ++ id ++ codes "/Condition"

abbrev pub unnamed_at : List ℕ → Verdicts → Res → Option Flaw
unnamed_at path conds r =
    option_map_or (λ name. if is_some (value_at name conds) then None else Some (flaw.Eval UnknownName path (resource_place r.name)))
    r.condition None

-- A resource without a policy of its own takes that of the nearest enclosing stack resource that has one, or else Delete.
abbrev pub member_of : Entering → Verdicts → StandsFor → Res → Member
member_of e conds stands r = record {
  path = path_in e.stack.path r.name;
  id = r.name;
  kind = r.kind;
  deletion = unwrap_or (option_or r.deletion e.deletion) deletion.Delete;
  replace = unwrap_or (option_or r.replace e.replace) replace.Delete;
  needs = needed_by e conds stands r;
  props = r.props;
  unnamed = unnamed_at e.stack.path conds r;
}

abbrev pub nesting_of : Entering → Verdicts → StandsFor → Res → Nesting
nesting_of e conds stands r = record {
  path = path_in e.stack.path r.name;
  id = r.name;
  name = name_in e.stack.name r.name;
  needs = needed_by e conds stands r;
}

-- the properties that a nested stack may have
abbrev pub is_stack_property : List ℕ → Bool
is_stack_property name =
    is_among name (codes "NotificationARNs" ∷ codes "Parameters" ∷ codes "Tags" ∷ codes "TemplateURL" ∷ codes "TimeoutInMinutes" ∷ [])

abbrev pub has_stack_shape : Res → Bool
has_stack_shape r = list_all (λ p. is_stack_property p.0) r.props && is_some (value_at (codes "TemplateURL") r.props)

-- A nested template's name is a text, or it has a flaw: where it is NoValue the shape is wrong, where it is Later the template can't be
-- known.
abbrev pub maybe_text : List ℕ → Option Data → Outcome (Option (List ℕ))
maybe_text at None = got None
maybe_text at (Some d) = option_map_or (λ t. got (Some t)) (text_of d) (bad (fault WrongKind at))

abbrev pub template_name_from : List ℕ → List ℕ → Outcome (Option (List ℕ)) → Result (List ℕ) Flaw
template_name_from stack path (got (Some name)) = Ok name
template_name_from stack path (got None) = Err (flaw.Shape path)
template_name_from stack path later = Err (flaw.DynamicTemplate path)
template_name_from stack path (bad s) = Err (flaw_at stack s)

abbrev pub template_name_of : List ℕ → List ℕ → Scope → Res → Result (List ℕ) Flaw
template_name_of stack path s r =
    template_name_from stack path
    (option_map_or (λ f. on_got (value_of s f) (maybe_text (place_of f))) (value_at (codes "TemplateURL") r.props) (got None))

-- a template that is entered with what it is given, where so many templates and members were entered before
abbrev pub Laying : Type 0
Laying = Entering → Given → ℕ → ℕ → Body

-- the limits, on entering a nested stack: depth, templates, the template itself, the members of all together
abbrev pub laid_within : Option Laying → List ℕ → List ℕ → ℕ → ℕ → Option Template → (Template → Entering) → Given → Body
laid_within None path name templates members t entering g = barred (flaw.TooDeep path)
laid_within (Some lay) path name templates members None entering g =
    if nat_lt 16 (templates + 1) then barred (flaw.TooMany (templates + 1)) else barred (flaw.TemplateMissing name)
laid_within (Some lay) path name templates members (Some t) entering g =
    if nat_lt 16 (templates + 1) then barred (flaw.TooMany (templates + 1))
    else if nat_lt 2000 (members + length t.resources) then barred (flaw.TooMany (members + length t.resources))
    else lay (entering t) g (templates + 1) (members + length t.resources)

abbrev pub entering_below : Entering → Nesting → Res → Template → Entering
entering_below e n r t = record {
  stack = record { path = n.path; name = n.name; template = t };
  deletion = option_or r.deletion e.deletion;
  replace = option_or r.replace e.replace;
  needs = n.needs;
}

abbrev pub body_at : Option Laying → Source → Entering → Nesting → Res → ℕ → ℕ → Given → Result (List ℕ) Flaw → Body
body_at lay source e n r templates members g (Err f) = barred f
body_at lay source e n r templates members g (Ok name) =
    laid_within lay n.path name templates members (template_named name source) (entering_below e n r) g

-- what is known along the order of work: what is seen, what ids stand for, how many templates and members were entered
pub record PlanInProgress : Type 0 where
  pub sights : Sights
  pub stands : StandsFor
  pub templates : ℕ
  pub members : ℕ

-- A nested stack: its condition, the properties that it may have, then its parameters, its template by name, and the limits.
abbrev pub inside_of : Option Laying → Source → Entering → Scope → PlanInProgress → Nesting → Res → Option Flaw → Inside
inside_of lay source e s c n r (Some f) = shut f
inside_of lay source e s c n r None =
    if has_stack_shape r then inside.given_by (value_at (codes "Parameters") r.props)
    (body_at lay source e n r c.templates c.members (given_in s (value_at (codes "Parameters") r.props))
    (template_name_of e.stack.path n.path s r))
    else shut (flaw.Shape n.path)

abbrev pub progress_after : Source → Seen → Scope → PlanInProgress → Nesting → Inside → PlanInProgress
progress_after source seen s c n i = record {
  sights = nested_sight source n (outputs_inside source seen s i) c.sights;
  stands = put n.id (paths_inside i ++ n.needs) c.stands;
  templates = c.templates + templates_inside i;
  members = c.members + members_inside i;
}

-- one step of work, before what is behind it; a nested stack changes what is known there
abbrev pub nested_before : Source → Seen → Scope → PlanInProgress → Nesting → Inside → (PlanInProgress → Work) → Work
nested_before source seen s c n i behind = nested n i (behind (progress_after source seen s c n i))

abbrev pub step_before : Option Laying → Source → Seen → Entering → Verdicts → Scoping → PlanInProgress → Res → (PlanInProgress → Work)
    → Work
step_before lay source seen e conds over c r behind =
    if is_stack r then
    nested_before source seen (over c.sights) c (nesting_of e conds c.stands r)
    (inside_of lay source e (over c.sights) c (nesting_of e conds c.stands r) r (unnamed_at e.stack.path conds r)) behind
    else resource (member_of e conds c.stands r) (behind c)

abbrev pub work_along : Option Laying → Source → Seen → Entering → Verdicts → Scoping → List (List ℕ × List (List ℕ)) → PlanInProgress
    → Work
work_along lay source seen e conds over [] c = no_work
work_along lay source seen e conds over (m ∷ order) c =
    option_map_or (λ r. step_before lay source seen e conds over c r (work_along lay source seen e conds over order))
    (resource_named m.0 e.stack.template) (work_along lay source seen e conds over order c)

-- the ids of a template's own resources in an order of work
abbrev pub own_id : Option Res → List (List ℕ)
own_id None = []
own_id (Some r) = if is_stack r then [] else r.name ∷ []

abbrev pub own_in : Template → List (List ℕ × List (List ℕ)) → List (List ℕ)
own_in t order = flat_map (λ m. own_id (resource_named m.0 t)) order

-- A template: its conditions decided, its order found, then its resources in this order.
abbrev pub body_in_order :
    Option Laying → Source → Seen → Entering → Settings → ℕ → ℕ → Verdicts → Result (List (List ℕ × List (List ℕ))) OrderFault → Body
body_in_order lay source seen e bound templates members conds (Err t) = halted e.stack (flaw.Graph e.stack.path (graph_fault_as t))
body_in_order lay source seen e bound templates members conds (Ok order) =
    opened e.stack conds
    (work_along lay source seen e conds (scoping source e.stack conds bound) order
    (record {
      sights = first_sights e.stack conds seen (own_in e.stack.template order);
      stands = first_stands e.stack (own_in e.stack.template order);
      templates = templates;
      members = members;
    }))

abbrev pub verdict_from : Option Bool → Verdict
verdict_from None = verdict.Later
verdict_from (Some true) = verdict.True
verdict_from (Some false) = verdict.False

abbrev pub verdicts_of : List (List ℕ × Option Bool) → Verdicts
verdicts_of conds = map (λ c. (c.0, verdict_from c.1)) conds

-- the first condition that is Later
abbrev pub first_later : List (List ℕ × Option Bool) → Option (List ℕ)
first_later conds = option_map (λ c. c.0) (find (λ c. not (is_some c.1)) conds)

abbrev pub body_decided : Option Laying → Source → Seen → Entering → Settings → ℕ → ℕ → Outcome (List (List ℕ × Option Bool)) → Body
body_decided lay source seen e bound templates members (bad s) = halted e.stack (flaw_at e.stack.path s)
body_decided lay source seen e bound templates members later = halted e.stack (flaw.DynamicCondition e.stack.path [])
body_decided lay source seen e bound templates members (got conds) =
    option_map_or (λ name. halted e.stack (flaw.DynamicCondition e.stack.path name))
    (first_later conds) (body_in_order lay source seen e bound templates members (verdicts_of conds)
    (needs_of e.stack.template (verdicts_of conds)))

abbrev pub body_bound : Option Laying → Source → Seen → Entering → Settings → ℕ → ℕ → Body
body_bound lay source seen e bound templates members =
    body_decided lay source seen e bound templates members (conditions_of e.stack.template bound (pseudo_of e.stack.name source.number))

-- a template entered at a depth, where so many more may be entered below it
abbrev pub laid : ℕ → Source → Seen → Laying
laid zero source seen e g templates members = body_bound None source seen e (settings_for e.stack.template.params g) templates members
laid (suc n) source seen e g templates members =
    body_bound (Some (laid n source seen)) source seen e (settings_for e.stack.template.params g) templates members

-- the root: what it is given are texts
abbrev pub given_root : Source → Given
given_root source = pieces (map (λ g. (g.0, Text g.1)) source.given)

abbrev pub root_of : Source → Template → Entering
root_of source t = record { stack = record { path = []; name = source.stack; template = t }; deletion = None; replace = None; needs = [] }

-- the shape of a source over what is seen before an operation; depth is 8 at the most, the root's being 1
abbrev pub shape_of : Source → Seen → Shape
shape_of source seen =
    option_map_or (λ t. laid 7 source seen (root_of source t) (given_root source) 1 (length t.resources))
    (template_named source.root source) (barred (flaw.TemplateMissing source.root))
