-- The steps in which the shape of a template is laid out, resource by resource along an order of work that tells what each needs
-- (this project's own).
use Rattle.cf_template.proofs.Ordered.{AreOrdered}
use Rattle.cf_desired.specs.Given.{Given, given_in}
use Rattle.std.specs.Prelude.{◌≤◌, ⊤, codes, Bool, ℕ, zero, suc, ◌+◌, List, [], ◌∷◌, ◌++◌, Option, Some, None, Result, Ok, Err, length}
use Rattle.std.specs.Prelude.{nat_lt, if◌then◌else◌}
use Rattle.std.specs.Option.{option_map_or}
use Rattle.cf_tree.specs.Keys.{put, value_at}
use Rattle.cf_tree.specs.declared.source.Source.{Source}
use Rattle.cf_tree.specs.declared.template.Res.{Res}
use Rattle.cf_tree.specs.declared.template.Template.{Template}
use Rattle.cf_eval.specs.Outcome.{Outcome, got, later, bad}
use Rattle.cf_eval.specs.Scope.{Scope}
use Rattle.cf_graph.specs.Needs.{OrderFault, needs_of, resource_named}
use Rattle.cf_desired.specs.declared.flaw.Flaw.{Flaw}
use Rattle.cf_desired.specs.declared.flaw.Flaw.TheVariants as flaw
use Rattle.cf_desired.specs.Flaw.{graph_fault_as}
use Rattle.cf_desired.specs.Listed.{sights_by, stands_by}
use Rattle.cf_desired.specs.Names.{path_in, name_in}
use Rattle.cf_desired.specs.Seeing.{Seen, nested_sight, outputs_inside}
use Rattle.cf_desired.specs.Shape.{Entering, Laying, StandsFor, template_name_of, has_stack_shape, first_later, in_order, verdicts_of}
use Rattle.cf_desired.specs.Shape.{inside_of, laid, member_of, members_inside, paths_inside, stood_for, templates_inside, unnamed_at}
use Rattle.cf_desired.specs.Stack.{Stack, Verdicts, Sights, Scoping, flaw_at}
use Rattle.cf_desired.specs.Templates.{is_stack, template_named}
use Rattle.cf_desired.specs.Turns.{Turn, a_resource, turns_inside}
use Rattle.cf_desired.specs.Work.{Member, Nesting, Inside}

-- what may be entered below a template, with so many depths left
abbrev pub enterable_below : ℕ → Source → Seen → Option Laying
enterable_below zero source seen = None
enterable_below (suc n) source seen = Some (laid n source seen)

-- within the limits of templates and resources
abbrev pub few : ℕ → ℕ → Type 0
few templates members = (templates ≤ 16) × (members ≤ 2000)

-- a resource, and a nested stack, where the order of work tells the ids that it needs
abbrev pub member_by : Entering → Verdicts → StandsFor → List (List ℕ) → Res → Member
member_by e conds stands ids r = record (member_of e conds stands r) { needs = in_order (stood_for stands ids ++ e.needs) }

abbrev pub nesting_by : Entering → StandsFor → List (List ℕ) → Res → Nesting
nesting_by e stands ids r = record {
  path = path_in e.stack.path r.name;
  id = r.name;
  name = name_in e.stack.name r.name;
  needs = in_order (stood_for stands ids ++ e.needs);
}

-- what is known along the order of work: the turns so far, what is seen, what ids stand for, the paths in nested stacks, and how
-- many templates and resources were entered
pub record LaidSoFar : Type 0 where
  pub turns : List Turn
  pub sights : Sights
  pub stands : StandsFor
  pub paths : List (List ℕ)
  pub templates : ℕ
  pub members : ℕ

abbrev pub none_laid : Seen → Stack → Verdicts → List (List ℕ) → ℕ → ℕ → LaidSoFar
none_laid seen t conds own templates members = record {
  turns = [];
  sights = sights_by t conds seen own;
  stands = stands_by t own;
  paths = [];
  templates = templates + 1;
  members = members + length t.template.resources;
}

abbrev pub with_member : Entering → Verdicts → LaidSoFar → List (List ℕ) → Res → LaidSoFar
with_member e conds c ids r = record c { turns = c.turns ++ a_resource (member_by e conds c.stands ids r) ∷ [] }

abbrev pub with_inside : Source → Seen → Scope → Nesting → Inside → LaidSoFar → LaidSoFar
with_inside source seen s n i c = record {
  turns = c.turns ++ turns_inside n i;
  sights = nested_sight source n (outputs_inside source seen s i) c.sights;
  stands = put n.id (paths_inside i ++ n.needs) c.stands;
  paths = c.paths ++ (paths_inside i ++ n.needs);
  templates = c.templates + templates_inside i;
  members = c.members + members_inside i;
}

-- what is in a nested stack, where so many templates and resources were entered before
abbrev pub inside_by : Option Laying → Source → Entering → Scope → ℕ → ℕ → Nesting → Res → Option Flaw → Inside
inside_by lay source e s templates members n r o =
    inside_of lay source e s (record { sights = []; stands = []; templates = templates; members = members }) n r o

abbrev pub with_nested : Option Laying → Source → Seen → Entering → Verdicts → Scoping → LaidSoFar → List (List ℕ) → Res → LaidSoFar
with_nested lay source seen e conds over c ids r =
    with_inside source seen (over c.sights) (nesting_by e c.stands ids r)
    (inside_by lay source e (over c.sights) c.templates c.members (nesting_by e c.stands ids r) r (unnamed_at e.stack.path conds r)) c

abbrev pub step_with : Option Laying → Source → Seen → Entering → Verdicts → Scoping → LaidSoFar → List (List ℕ) → Res → LaidSoFar
step_with lay source seen e conds over c ids r =
    if is_stack r then with_nested lay source seen e conds over c ids r else with_member e conds c ids r

abbrev pub step_by : Option Laying → Source → Seen → Entering → Verdicts → Scoping → LaidSoFar → List ℕ × List (List ℕ) → LaidSoFar
step_by lay source seen e conds over c m =
    option_map_or (step_with lay source seen e conds over c m.1) (resource_named m.0 e.stack.template) c

-- the template of a nested stack, where no limit keeps from entering it
abbrev pub entered_by : ℕ → List ℕ → List ℕ → ℕ → ℕ → Option Template → Result Template Flaw
entered_by zero path name templates members t = Err (flaw.TooDeep path)
entered_by (suc n) path name templates members None =
    if nat_lt 16 (templates + 1) then Err (flaw.TooMany (templates + 1)) else Err (flaw.TemplateMissing name)
entered_by (suc n) path name templates members (Some t) =
    if nat_lt 16 (templates + 1) then Err (flaw.TooMany (templates + 1))
    else if nat_lt 2000 (members + length t.resources) then Err (flaw.TooMany (members + length t.resources)) else Ok t

-- What the conditions of a template and the needs in it come to: a flaw, or the verdicts and an order of work.
abbrev pub by_order : Stack → Verdicts → Result (List (List ℕ × List (List ℕ))) OrderFault
    → Result (Verdicts × List (List ℕ × List (List ℕ))) Flaw
by_order t conds (Err x) = Err (flaw.Graph t.path (graph_fault_as x))
by_order t conds (Ok order) = Ok (conds, order)

abbrev pub order_found : Stack → Verdicts → Result (Verdicts × List (List ℕ × List (List ℕ))) Flaw
order_found t conds = by_order t conds (needs_of t.template conds)

abbrev pub decision_of : Stack → Outcome (List (List ℕ × Option Bool)) → Result (Verdicts × List (List ℕ × List (List ℕ))) Flaw
decision_of t (bad s) = Err (flaw_at t.path s)
decision_of t later = Err (flaw.DynamicCondition t.path [])
decision_of t (got conds) =
    option_map_or (λ name. Err (flaw.DynamicCondition t.path name)) (first_later conds) (order_found t (verdicts_of conds))

-- what becomes of a nested stack: it is shut by a flaw, its template can't be entered, or is entered with what it is given
pub data Way : Type 0 where
  way_shut : Flaw → Way
  way_barred : Flaw → Way
  way_entered : Template → Given → Way

abbrev pub entered_way : Given → Result Template Flaw → Way
entered_way g (Ok t) = way_entered t g
entered_way g (Err f) = way_barred f

abbrev pub name_way : ℕ → Source → List ℕ → ℕ → ℕ → Given → Result (List ℕ) Flaw → Way
name_way left source path templates members g (Err f) = way_barred f
name_way left source path templates members g (Ok name) =
    entered_way g (entered_by left path name templates members (template_named name source))

abbrev pub way_by : ℕ → Source → List ℕ → Scope → ℕ → ℕ → List ℕ → Res → Option Flaw → Way
way_by left source stack s templates members path r (Some f) = way_shut f
way_by left source stack s templates members path r None =
    if has_stack_shape r then name_way left source path templates members (given_in s (value_at (codes "Parameters") r.props))
    (template_name_of stack path s r)
    else way_shut (flaw.Shape path)

-- a template that is entered is within the limits, and has its resources in order
abbrev pub IsWay : ℕ → ℕ → ℕ → Way → Type 0
IsWay left templates members (way_shut f) = ⊤
IsWay left templates members (way_barred f) = ⊤
IsWay left templates members (way_entered t g) = (1 ≤ left) × (few (templates + 1) (members + length t.resources) × AreOrdered t.resources)
