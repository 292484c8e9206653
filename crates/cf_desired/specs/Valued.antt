-- The resources of a shape in the order of work, and the properties of each over what is seen (this project's own).
use Rattle.std.specs.Prelude.{ℕ, List, [], ◌∷◌, ◌++◌, Option, Some, None}
use Rattle.cf_tree.specs.declared.source.Source.{Source}
use Rattle.cf_desired.specs.declared.flaw.Flaw.{Flaw}
use Rattle.cf_desired.specs.declared.wanted.Evaluated.{Evaluated}
use Rattle.cf_desired.specs.declared.wanted.Evaluated.TheVariants.{Flawed as flawed}
use Rattle.cf_desired.specs.Given.{Given, given_in, settings_for}
use Rattle.cf_eval.specs.Scope.{Scope}
use Rattle.cf_desired.specs.Seeing.{Seen, own_ids, first_sights, nested_sight, outputs_inside}
use Rattle.cf_desired.specs.Stack.{Sights, Scoping, scoping, evaluated_in}
use Rattle.cf_eval.specs.Value.{props_of}
use Rattle.cf_desired.specs.Work.{Member, Nesting, Work, Inside, Body, no_work, resource, nested, shut, barred, halted, opened}
use Rattle.cf_desired.specs.Work as inside

-- the resources alone
abbrev mutual
  pub resources_along : Work → List Member
  resources_along no_work = []
  resources_along (resource m w) = m ∷ resources_along w
  resources_along (nested n i w) = resources_inside i ++ resources_along w

  pub resources_inside : Inside → List Member
  resources_inside (shut f) = []
  resources_inside (inside.given_by form b) = resources_in b

  pub resources_in : Body → List Member
  resources_in (barred f) = []
  resources_in (halted t f) = []
  resources_in (opened t conds w) = resources_along w

-- and the nested stacks
abbrev mutual
  pub nestings_along : Work → List Nesting
  nestings_along no_work = []
  nestings_along (resource m w) = nestings_along w
  nestings_along (nested n i w) = n ∷ (nestings_inside i ++ nestings_along w)

  pub nestings_inside : Inside → List Nesting
  nestings_inside (shut f) = []
  nestings_inside (inside.given_by form b) = nestings_in b

  pub nestings_in : Body → List Nesting
  nestings_in (barred f) = []
  nestings_in (halted t f) = []
  nestings_in (opened t conds w) = nestings_along w

-- the properties of one, in the stack at a path; where its condition is not declared it has that flaw
abbrev pub unless_flaw : Option Flaw → Evaluated → Evaluated
unless_flaw None v = v
unless_flaw (Some f) v = flawed f

abbrev pub member_props : List ℕ → Scope → Member → Evaluated
member_props path s m = unless_flaw m.unnamed (evaluated_in path (props_of s m.props))

-- each with its properties
abbrev mutual
  pub valued_along : Source → Seen → List ℕ → Scoping → Sights → Work → List (Member × Evaluated)
  valued_along source seen path over sights no_work = []
  valued_along source seen path over sights (resource m w) =
      (m, member_props path (over sights) m) ∷ valued_along source seen path over sights w
  valued_along source seen path over sights (nested n i w) =
      valued_inside source seen (over sights) i
      ++ valued_along source seen path over (nested_sight source n (outputs_inside source seen (over sights) i) sights) w

  pub valued_inside : Source → Seen → Scope → Inside → List (Member × Evaluated)
  valued_inside source seen s (shut f) = []
  valued_inside source seen s (inside.given_by form b) = valued_in source seen (given_in s form) b

  pub valued_in : Source → Seen → Given → Body → List (Member × Evaluated)
  valued_in source seen g (barred f) = []
  valued_in source seen g (halted t f) = []
  valued_in source seen g (opened t conds w) =
      valued_along source seen t.path (scoping source t conds (settings_for t.template.params g)) (first_sights t conds seen (own_ids w)) w
