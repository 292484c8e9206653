-- What of a shape rests on what is seen.
use Rattle.std.proofs.Common.{◌≡◌, ℕ, zero, suc, List, [], ◌∷◌, ◌++◌, Bool, true, false, Option, Some, None, Result, Ok, Err, refl, sym, ap, ◌∙◌}
use Rattle.std.specs.Prelude.{⊤, cond, codes, nat_lt, length, ◌+◌}
use Rattle.std.specs.Option.{option_map_or}
use Rattle.cf_tree.specs.Forms.{Form, place_of}
use Rattle.cf_tree.specs.Keys.{value_at, put}
use Rattle.cf_tree.specs.declared.source.Source.{Source}
use Rattle.cf_tree.specs.declared.template.Res.{Res}
use Rattle.cf_tree.specs.declared.template.Template.{Template}
use Rattle.cf_graph.specs.Needs.{OrderFault, needs_of, resource_named}
use Rattle.cf_desired.specs.Names.{pseudo_of}
use Rattle.cf_desired.specs.Seeing.{Seen, first_sights, nested_sight, outputs_inside}
use Rattle.cf_desired.specs.Templates.{is_stack, template_named}
use Rattle.cf_desired.specs.Shape.{has_stack_shape, first_later, Entering, StandsFor, PlanInProgress, Laying, first_stands, paths_inside, templates_inside, members_inside, own_in, unnamed_at, member_of, nesting_of, maybe_text, template_name_from, template_name_of, laid_within, entering_below, body_at, inside_of, nested_before, step_before, work_along, body_in_order, verdicts_of, body_decided, body_bound, laid, given_root, root_of}
use Rattle.cf_desired.specs.Stays.{SeesMore}
use Rattle.cf_desired.specs.declared.flaw.Flaw.{Flaw}
use Rattle.cf_desired.specs.declared.flaw.Flaw.TheVariants as flaw
use Rattle.cf_eval.specs.Conditions.{conditions_of}
use Rattle.cf_desired.specs.Given.{Given, given_in, settings_for}
use Rattle.cf_eval.specs.Outcome.{Outcome, got, later, bad, on_got}
use Rattle.cf_desired.specs.ShapeStays.{IsClearAlong, IsClearInside, IsClear, ShapeStays, UpdateStays}
use Rattle.cf_desired.specs.Stack.{Verdicts, Settings, Sights, Scoping}
use Rattle.cf_eval.specs.Value.{value_of}
use Rattle.cf_desired.specs.Work.{Nesting, Work, Inside, resource, nested, shut, barred, halted, opened}
use Rattle.cf_desired.specs.Work as inside
use Rattle.cf_desired.proofs.Deciding.{conditions_stay}
use Rattle.cf_desired.proofs.Keeping.{GivenKeeps, given_self, given_keeps, KeepsSights, put_keeps, first_keep, over, scope_knows, inside_keeps, names_keep}
use Rattle.cf_eval.proofs.Knowing.{Stands, itself, stands_on, value_stands}

abbrev so_far : Sights → StandsFor → ℕ → ℕ → PlanInProgress
so_far m stands templates members = record { sights = m; stands = stands; templates = templates; members = members }

-- nested stacks
module _ (source : Source) (a b : Seen) (more : SeesMore a b) where
  abbrev LaysSame : Option Laying → Option Laying → Type 0
  LaysSame None None = ⊤
  LaysSame (Some lay) (Some under) =
      (e : Entering) (g h : Given) → GivenKeeps g h → (templates members : ℕ) → IsClear (lay e g templates members) → under e h templates members ≡ lay e g templates members
  LaysSame _ _ = ⊥

  module _ (lay under : Option Laying) (lays : LaysSame lay under) where
    within_same : (p q : Option Laying) → LaysSame p q → (path name : List ℕ) (templates members : ℕ) (t : Option Template) (entering : Template → Entering) (g h : Given) → GivenKeeps g h
        → IsClear (laid_within p path name templates members t entering g) → laid_within q path name templates members t entering h ≡ laid_within p path name templates members t entering g
    within_same None None l path name templates members t entering g h k c = refl
    within_same None (Some q) l path name templates members t entering g h k c = absurd l
    within_same (Some p) None l path name templates members t entering g h k c = absurd l
    within_same (Some p) (Some q) l path name templates members None entering g h k c = refl
    within_same (Some p) (Some q) l path name templates members (Some t) entering g h k c =
        either (nat_lt 16 (templates + 1)) (nat_lt 2000 (members + length t.resources)) c where
          either : (x y : Bool)
              → IsClear (cond x (barred (flaw.TooMany (templates + 1))) (cond y (barred (flaw.TooMany (members + length t.resources))) (p (entering t) g (templates + 1) (members + length t.resources))))
              → cond x (barred (flaw.TooMany (templates + 1))) (cond y (barred (flaw.TooMany (members + length t.resources))) (q (entering t) h (templates + 1) (members + length t.resources)))
              ≡ cond x (barred (flaw.TooMany (templates + 1))) (cond y (barred (flaw.TooMany (members + length t.resources))) (p (entering t) g (templates + 1) (members + length t.resources)))
          either true y d = refl
          either false true d = refl
          either false false d = l (entering t) g h k (templates + 1) (members + length t.resources) d

    body_same : (e : Entering) (n : Nesting) (r : Res) (templates members : ℕ) (g h : Given) → GivenKeeps g h → (x y : Outcome (Option (List ℕ))) → Stands false x y
        → IsClear (body_at lay source e n r templates members g (template_name_from e.stack.path n.path x))
        → body_at under source e n r templates members h (template_name_from e.stack.path n.path y) ≡ body_at lay source e n r templates members g (template_name_from e.stack.path n.path x)
    body_same e n r templates members g h k (got (Some name)) y s c =
        ap (λ z. body_at under source e n r templates members h (template_name_from e.stack.path n.path z)) s
        ∙ within_same lay under lays n.path name templates members (template_named name source) (entering_below e n r) g h k c
    body_same e n r templates members g h k (got None) y s c = absurd c
    body_same e n r templates members g h k later y s c = absurd c
    body_same e n r templates members g h k (bad w) y s c = absurd c

    module _ (e : Entering) (conds : Verdicts) (g h : Given) (keeps : GivenKeeps g h) where
      abbrev before : Scoping
      before = over source a b more e.stack conds g

      abbrev now : Scoping
      now = over source a b more e.stack conds h

      name_stands : (m n : Sights) → KeepsSights m n → (f : Option Form)
          → Stands false (option_map_or (λ x. on_got (value_of (before m) x) (maybe_text (place_of x))) f (got None)) (option_map_or (λ x. on_got (value_of (now n) x) (maybe_text (place_of x))) f (got None))
      name_stands m n s None = refl
      name_stands m n s (Some f) =
          stands_on false (value_of (before m) f) (value_of (now n) f) (maybe_text (place_of f)) (maybe_text (place_of f)) (value_stands (before m) (now n) (scope_knows source a b more e.stack conds g h keeps m n s) f) (λ o. itself false (maybe_text (place_of f) o))

      inside_same : (m n : Sights) → KeepsSights m n → (stands : StandsFor) (templates members : ℕ) (x : Nesting) (r : Res) (o : Option Flaw)
          → IsClearInside (inside_of lay source e (before m) (so_far m stands templates members) x r o)
          → inside_of under source e (now n) (so_far n stands templates members) x r o ≡ inside_of lay source e (before m) (so_far m stands templates members) x r o
      inside_same m n s stands templates members x r (Some f) c = refl
      inside_same m n s stands templates members x r None c = either (has_stack_shape r) c where
        either : (y : Bool)
            → IsClearInside (cond y (inside.given_by (value_at (codes "Parameters") r.props) (body_at lay source e x r templates members (given_in (before m) (value_at (codes "Parameters") r.props)) (template_name_of e.stack.path x.path (before m) r))) (shut (flaw.Shape x.path)))
            → cond y (inside.given_by (value_at (codes "Parameters") r.props) (body_at under source e x r templates members (given_in (now n) (value_at (codes "Parameters") r.props)) (template_name_of e.stack.path x.path (now n) r))) (shut (flaw.Shape x.path))
            ≡ cond y (inside.given_by (value_at (codes "Parameters") r.props) (body_at lay source e x r templates members (given_in (before m) (value_at (codes "Parameters") r.props)) (template_name_of e.stack.path x.path (before m) r))) (shut (flaw.Shape x.path))
        either true d =
            ap (inside.given_by (value_at (codes "Parameters") r.props))
            (body_same e x r templates members (given_in (before m) (value_at (codes "Parameters") r.props)) (given_in (now n) (value_at (codes "Parameters") r.props))
            (given_keeps (before m) (now n) (scope_knows source a b more e.stack conds g h keeps m n s) (value_at (codes "Parameters") r.props))
            _ _ (name_stands m n s (value_at (codes "TemplateURL") r.props)) d)
        either false d = refl

      nested_same : (m n : Sights) → KeepsSights m n → (stands : StandsFor) (templates members : ℕ) (x : Nesting) (i j : Inside) (p q : PlanInProgress → Work)
          → j ≡ i
          → ((m' n' : Sights) → KeepsSights m' n' → (stands' : StandsFor) (templates' members' : ℕ) → IsClearAlong (p (so_far m' stands' templates' members')) → q (so_far n' stands' templates' members') ≡ p (so_far m' stands' templates' members'))
          → IsClearAlong (nested_before source a (before m) (so_far m stands templates members) x i p)
          → nested_before source b (now n) (so_far n stands templates members) x j q ≡ nested_before source a (before m) (so_far m stands templates members) x i p
      nested_same m n s stands templates members x i j p q same ih c =
          ap (λ z. nested_before source b (now n) (so_far n stands templates members) x z q) same
          ∙ ap (nested x i)
          (ih (nested_sight source x (outputs_inside source a (before m) i) m) (nested_sight source x (outputs_inside source b (now n) i) n)
          (put_keeps x.id _ _ m n (refl, names_keep _ _ (inside_keeps source a b more (before m) (now n) (scope_knows source a b more e.stack conds g h keeps m n s) i)) s)
          (put x.id (paths_inside i ++ x.needs) stands) (templates + templates_inside i) (members + members_inside i) c.1)

      work_same : (order : List (List ℕ × List (List ℕ))) (m n : Sights) → KeepsSights m n → (stands : StandsFor) (templates members : ℕ)
          → IsClearAlong (work_along lay source a e conds before order (so_far m stands templates members))
          → work_along under source b e conds now order (so_far n stands templates members) ≡ work_along lay source a e conds before order (so_far m stands templates members)
      work_same [] m n s stands templates members c = refl
      work_same (x ∷ order) m n s stands templates members c = by_name (resource_named x.0 e.stack.template) c (work_same order) where
        by_kind : (r : Res) (k : Bool)
            → ((m' n' : Sights) → KeepsSights m' n' → (stands' : StandsFor) (templates' members' : ℕ) → IsClearAlong (work_along lay source a e conds before order (so_far m' stands' templates' members'))
            → work_along under source b e conds now order (so_far n' stands' templates' members') ≡ work_along lay source a e conds before order (so_far m' stands' templates' members'))
            → IsClearAlong (cond k (nested_before source a (before m) (so_far m stands templates members) (nesting_of e conds stands r) (inside_of lay source e (before m) (so_far m stands templates members) (nesting_of e conds stands r) r (unnamed_at e.stack.path conds r)) (work_along lay source a e conds before order))
            (resource (member_of e conds stands r) (work_along lay source a e conds before order (so_far m stands templates members))))
            → cond k (nested_before source b (now n) (so_far n stands templates members) (nesting_of e conds stands r) (inside_of under source e (now n) (so_far n stands templates members) (nesting_of e conds stands r) r (unnamed_at e.stack.path conds r)) (work_along under source b e conds now order))
            (resource (member_of e conds stands r) (work_along under source b e conds now order (so_far n stands templates members)))
            ≡ cond k (nested_before source a (before m) (so_far m stands templates members) (nesting_of e conds stands r) (inside_of lay source e (before m) (so_far m stands templates members) (nesting_of e conds stands r) r (unnamed_at e.stack.path conds r)) (work_along lay source a e conds before order))
            (resource (member_of e conds stands r) (work_along lay source a e conds before order (so_far m stands templates members)))
        by_kind r true ih d =
            nested_same m n s stands templates members (nesting_of e conds stands r)
            (inside_of lay source e (before m) (so_far m stands templates members) (nesting_of e conds stands r) r (unnamed_at e.stack.path conds r))
            (inside_of under source e (now n) (so_far n stands templates members) (nesting_of e conds stands r) r (unnamed_at e.stack.path conds r))
            (work_along lay source a e conds before order) (work_along under source b e conds now order)
            (inside_same m n s stands templates members (nesting_of e conds stands r) r (unnamed_at e.stack.path conds r) d.0) ih d
        by_kind r false ih d = ap (resource (member_of e conds stands r)) (ih m n s stands templates members d)

        by_name : (o : Option Res)
            → IsClearAlong (option_map_or (λ r. step_before lay source a e conds before (so_far m stands templates members) r (work_along lay source a e conds before order)) o (work_along lay source a e conds before order (so_far m stands templates members)))
            → ((m' n' : Sights) → KeepsSights m' n' → (stands' : StandsFor) (templates' members' : ℕ) → IsClearAlong (work_along lay source a e conds before order (so_far m' stands' templates' members'))
            → work_along under source b e conds now order (so_far n' stands' templates' members') ≡ work_along lay source a e conds before order (so_far m' stands' templates' members'))
            → option_map_or (λ r. step_before under source b e conds now (so_far n stands templates members) r (work_along under source b e conds now order)) o (work_along under source b e conds now order (so_far n stands templates members))
            ≡ option_map_or (λ r. step_before lay source a e conds before (so_far m stands templates members) r (work_along lay source a e conds before order)) o (work_along lay source a e conds before order (so_far m stands templates members))
        by_name None d ih = ih m n s stands templates members d
        by_name (Some r) d ih = by_kind r (is_stack r) ih d

    module _ (e : Entering) (g h : Given) (keeps : GivenKeeps g h) (templates members : ℕ) where
      abbrev bound : Given → Settings
      bound x = settings_for e.stack.template.params x

      order_same : (conds : Verdicts) (r : Result (List (List ℕ × List (List ℕ))) OrderFault) → IsClear (body_in_order lay source a e (bound g) templates members conds r)
          → body_in_order under source b e (bound h) templates members conds r ≡ body_in_order lay source a e (bound g) templates members conds r
      order_same conds (Err t) c = absurd c
      order_same conds (Ok order) c =
          ap (opened e.stack conds)
          (work_same e conds g h keeps order (first_sights e.stack conds a (own_in e.stack.template order)) (first_sights e.stack conds b (own_in e.stack.template order)) (first_keep source a b more e.stack conds (own_in e.stack.template order)) (first_stands e.stack (own_in e.stack.template order)) templates members c)

      decided_same : (x y : Outcome (List (List ℕ × Option Bool))) → ((vs : List (List ℕ × Option Bool)) → x ≡ got vs → first_later vs ≡ None → y ≡ got vs)
          → IsClear (body_decided lay source a e (bound g) templates members x) → body_decided under source b e (bound h) templates members y ≡ body_decided lay source a e (bound g) templates members x
      decided_same (bad w) y k c = absurd c
      decided_same later y k c = absurd c
      decided_same (got vs) y k c = either (first_later vs) refl c where
        either : (o : Option (List ℕ)) → first_later vs ≡ o
            → IsClear (option_map_or (λ name. halted e.stack (flaw.DynamicCondition e.stack.path name)) o (body_in_order lay source a e (bound g) templates members (verdicts_of vs) (needs_of e.stack.template (verdicts_of vs))))
            → body_decided under source b e (bound h) templates members y
            ≡ option_map_or (λ name. halted e.stack (flaw.DynamicCondition e.stack.path name)) o (body_in_order lay source a e (bound g) templates members (verdicts_of vs) (needs_of e.stack.template (verdicts_of vs)))
        either (Some name) q d = absurd d
        either None q d =
            ap (body_decided under source b e (bound h) templates members) (k vs refl q)
            ∙ ap (λ o. option_map_or (λ name. halted e.stack (flaw.DynamicCondition e.stack.path name)) o (body_in_order under source b e (bound h) templates members (verdicts_of vs) (needs_of e.stack.template (verdicts_of vs)))) q
            ∙ order_same (verdicts_of vs) (needs_of e.stack.template (verdicts_of vs)) d

      bound_same : IsClear (body_bound lay source a e (bound g) templates members) → body_bound under source b e (bound h) templates members ≡ body_bound lay source a e (bound g) templates members
      bound_same c =
          decided_same (conditions_of e.stack.template (bound g) (pseudo_of e.stack.name source.number)) (conditions_of e.stack.template (bound h) (pseudo_of e.stack.name source.number))
          (λ vs q l. conditions_stay e.stack.template g h keeps (pseudo_of e.stack.name source.number) vs q l) c

  laid_same : (n : ℕ) (e : Entering) (g h : Given) → GivenKeeps g h → (templates members : ℕ) → IsClear (laid n source a e g templates members) → laid n source b e h templates members ≡ laid n source a e g templates members
  laid_same zero e g h k templates members c = bound_same None None tt e g h k templates members c
  laid_same (suc n) e g h k templates members c = bound_same (Some (laid n source a)) (Some (laid n source b)) (laid_same n) e g h k templates members c

pub shape_stays : ShapeStays
shape_stays source a b more = either (template_named source.root source) where
  either : (t : Option Template)
      → IsClear (option_map_or (λ x. laid 7 source a (root_of source x) (given_root source) 1 (length x.resources)) t (barred (flaw.TemplateMissing source.root)))
      → option_map_or (λ x. laid 7 source b (root_of source x) (given_root source) 1 (length x.resources)) t (barred (flaw.TemplateMissing source.root))
      ≡ option_map_or (λ x. laid 7 source a (root_of source x) (given_root source) 1 (length x.resources)) t (barred (flaw.TemplateMissing source.root))
  either None c = refl
  either (Some t) c = laid_same source a b more 7 (root_of source t) (given_root source) (given_root source) (given_self (given_root source)) 1 (length t.resources) c

pub update_stays : UpdateStays
update_stays source kept before now clear first second = shape_stays source kept now second clear ∙ sym (shape_stays source kept before first clear)
