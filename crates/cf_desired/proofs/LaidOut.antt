-- The shape of a template, laid out along its order of work, is that of the definitions.
use Rattle.std.proofs.Common.{◌≡◌, ℕ, zero, suc, ◌+◌, ◌-◌, ◌≤◌, List, [], ◌∷◌, ◌++◌, Bool, true, false, ◌||◌, ◌⊎◌, inl, inr, Option, Some, None, Result, Ok, Err, IfOk, refl, sym, ap, subst, ◌∙◌, true≢false, filter, fold, map, option_map, length, append_assoc, append-nil, arith}
use Rattle.std.specs.Prelude.{⊤, cond, codes, nat_lt, unwrap_or}
use Rattle.std.specs.Option.{option_map_or}
use Rattle.std.specs.Str.{bytes_eq}
use Rattle.std.proofs.lemmas.Bool.{ltb-false}
use Rattle.std.proofs.lemmas.Slice.Eq.{bytes_eq-Decides}
use Rattle.cf_tree.specs.Datum.{Data}
use Rattle.cf_tree.specs.Forms.{Form, place_of}
use Rattle.cf_tree.specs.Keys.{value_at, put}
use Rattle.cf_tree.specs.Lists.{is_among}
use Rattle.cf_tree.specs.Named.{found}
use Rattle.cf_tree.specs.declared.source.Source.{Source}
use Rattle.cf_tree.specs.declared.template.Res.{Res}
use Rattle.cf_tree.specs.declared.template.Template.{Template}
use Rattle.cf_template.proofs.Ordered.{AreOrdered}
use Rattle.cf_eval.specs.Conditions.{conditions_found, conditions_of, scope_within}
use Rattle.cf_eval.specs.Outcome.{Outcome, on_got, got, later, bad, undeclared_at_fault}
use Rattle.cf_eval.specs.Scope.{Scope, setting_of, resource_scope}
use Rattle.cf_eval.specs.Texts.{Found}
use Rattle.cf_graph.specs.Needs.{OrderFault, is_made, needs_in, needs_of, resource_named}
use Rattle.cf_desired.specs.declared.flaw.Flaw.{Flaw}
use Rattle.cf_desired.specs.declared.flaw.Flaw.TheVariants as flaw
use Rattle.cf_desired.specs.Given.{Given, given_in, settings_for}
use Rattle.cf_desired.specs.declared.laying.Count.{Count}
use Rattle.cf_desired.specs.declared.laying.LaidSoFar as kept_so_far
use Rattle.cf_desired.specs.declared.laying.Laid.{Laid}
use Rattle.cf_desired.specs.Kept.{IsJoined, IsLaid, IsWithin, WayLaid, so_far_in, turn_in}
use Rattle.cf_desired.specs.Laying.{IsWay, LaidSoFar, Way, none_laid, enterable_below, few, decision_of, by_order, order_found, entered_by, entered_way, name_way, way_by, way_shut, inside_by, member_by, nesting_by, step_by, step_with, with_inside, with_member, with_nested}
use Rattle.cf_desired.specs.Listed.{made_by, settings_by}
use Rattle.cf_desired.specs.Names.{path_in, pseudo_of}
use Rattle.cf_desired.specs.Seeing.{Seen, by_names, first_sights, nested_sight, output_sights, outputs_inside, outputs_of, own_ids, seen_nested, sights_after}
use Rattle.cf_desired.specs.Shape.{PlanInProgress, Entering, Laying, StandsFor, body_at, body_bound, body_decided, progress_after, entering_below, first_later, first_stands, given_root, has_stack_shape, in_order, inside_of, laid, laid_within, maybe_text, member_of, members_below, members_in, members_inside, needed_by, nested_before, nesting_of, own_id, own_in, paths_below, paths_in, paths_inside, root_of, shape_of, step_before, stood_for, templates_below, templates_in, templates_inside, unnamed_at, template_name_from, template_name_of, verdicts_of, work_along}
use Rattle.cf_desired.specs.Stack.{Scoping, Settings, Sights, Stack, Verdicts, scoping}
use Rattle.cf_eval.specs.Value.{value_of}
use Rattle.cf_desired.specs.Templates.{is_stack, template_named}
use Rattle.cf_desired.specs.Turns.{Entry, a_resource, a_closed, an_opened, turns_along, turns_in, turns_inside}
use Rattle.cf_desired.specs.Work.{Member, Nesting, Work, Inside, Body, no_work, resource, nested, shut, barred, halted, opened}
use Rattle.cf_desired.specs.Work as inside
use Rattle.cf_desired.proofs.ComeFirst.{IfOrdered, if_ordered}
use Rattle.cf_desired.proofs.Covers.{own_same}
use Rattle.cf_desired.proofs.Decisions.{body_decides, body_of}
use Rattle.cf_desired.proofs.Listed.{settings_listed, sights_listed, stand_at, stands_listed}
use Rattle.cf_desired.proofs.OrderNeeds.{AllNeeds, HasNeeds, made_names, order_needs}
use Rattle.cf_desired.proofs.Puts.{value_put}
use Rattle.cf_desired.proofs.SameScopes.{SameScope, given_same, scope_same, sights_same}
use Rattle.cf_desired.proofs.Sorted.{needs_by_order}

abbrev Row : Type 0
Row = List ℕ × List (List ℕ)

-- a made name is that of a resource
found_made : (t : Template) (conds : Verdicts) (k : List ℕ) (rs : List Res) → is_among k (made_names t conds rs) ≡ true → option_map (λ r. r.name) (found (λ r. r.name) k rs) ≡ Some k
found_made t conds k [] h = absurd (true≢false (sym h))
found_made t conds k (r ∷ rs) h = by_name (bytes_eq k r.name) refl (is_made conds r) h (found_made t conds k rs) where
  by_name : (b : Bool) → bytes_eq k r.name ≡ b → (m : Bool) → is_among k (map (λ x. x.name) (cond m (r ∷ filter (is_made conds) rs) (filter (is_made conds) rs))) ≡ true
      → (is_among k (made_names t conds rs) ≡ true → option_map (λ x. x.name) (found (λ x. x.name) k rs) ≡ Some k)
      → option_map (λ x. x.name) (cond b (Some r) (found (λ x. x.name) k rs)) ≡ Some k
  by_name true e m g ih = ap (λ n. Some n) (sym ((bytes_eq-Decides k r.name).0 e))
  by_name false e true g ih = ih (ap (λ b. b || is_among k (made_names t conds rs)) (sym e) ∙ g)
  by_name false e false g ih = ih g

named_so : (k : List ℕ) (o : Option Res) (r : Res) → option_map (λ x. x.name) o ≡ Some k → o ≡ Some r → r.name ≡ k
named_so k None r h e = let no : ⊥ = cc in absurd no
named_so k (Some x) r h e = let one : x.name ≡ k = cc in let two : x ≡ r = cc in ap (λ (y : Res). y.name) (sym two) ∙ one

-- the ids of a template's own resources are those of made ones
module _ (t : Template) (conds : Verdicts) where
  abbrev IsMade : List ℕ → Type 0
  IsMade id = is_among id (made_names t conds t.resources) ≡ true

  one_made : (id : List ℕ) (m : Row) → HasNeeds t conds m → (o : Option Res) → resource_named m.0 t ≡ o → (rest : List (List ℕ)) → (is_among id rest ≡ true → IsMade id)
      → is_among id (own_id o ++ rest) ≡ true → IsMade id
  one_made id m h None e rest ih g = ih g
  one_made id m h (Some r) e rest ih g = by_kind (is_stack r) g where
    name : r.name ≡ m.0
    name = named_so m.0 (resource_named m.0 t) r (found_made t conds m.0 t.resources h.0) e

    by_name : (b : Bool) → bytes_eq id r.name ≡ b → (b || is_among id rest) ≡ true → IsMade id
    by_name true k x = subst IsMade (sym ((bytes_eq-Decides id r.name).0 k ∙ name)) h.0
    by_name false k x = ih x

    by_kind : (b : Bool) → is_among id (cond b [] (r.name ∷ []) ++ rest) ≡ true → IsMade id
    by_kind true x = ih x
    by_kind false x = by_name (bytes_eq id r.name) refl x

  own_made : (id : List ℕ) (order : List Row) → AllNeeds t conds order → is_among id (own_in t order) ≡ true → IsMade id
  own_made id [] h g = absurd (true≢false (sym g))
  own_made id (m ∷ order) h g = one_made id m h.0 (resource_named m.0 t) refl (own_in t order) (own_made id order h.1) g

  -- where ids stand for paths they are of made resources
  abbrev StandMade : StandsFor → Type 0
  StandMade stands = (id : List ℕ) → (value_at id stands ≡ None) ⊎ IsMade id

  first_made : (s : Stack) (order : List Row) → AllNeeds t conds order → StandMade (first_stands s (own_in t order))
  first_made s order h id = either (is_among id (own_in t order)) refl where
    either : (b : Bool) → is_among id (own_in t order) ≡ b → (value_at id (first_stands s (own_in t order)) ≡ None) ⊎ IsMade id
    either true g = inr (own_made id order h g)
    either false g = inl (stand_at s (own_in t order) id ∙ ap (λ b. cond b (Some (path_in s.path id ∷ [])) None) g)

  put_made : (k : List ℕ) (ps : List (List ℕ)) (stands : StandsFor) → IsMade k → StandMade stands → StandMade (put k ps stands)
  put_made k ps stands g h id = either (bytes_eq id k) refl (h id) where
    either : (b : Bool) → bytes_eq id k ≡ b → (value_at id stands ≡ None) ⊎ IsMade id → (value_at id (put k ps stands) ≡ None) ⊎ IsMade id
    either true e x = inr (subst IsMade (sym ((bytes_eq-Decides id k).0 e)) g)
    either false e (inl x) = inl (value_put id k ps stands ∙ ap (λ b. cond b (Some ps) (value_at id stands)) e ∙ x)
    either false e (inr x) = inr x

abbrev SameAt : {X : Type 0} → List (List ℕ × X) → List (List ℕ × X) → Type 0
SameAt n m = (q : List ℕ) → value_at q n ≡ value_at q m

put_same : {X : Type 0} (k : List ℕ) (x y : X) (n m : List (List ℕ × X)) → SameAt n m → x ≡ y → SameAt (put k x n) (put k y m)
put_same k x y n m h e q = value_put q k x n ∙ either (bytes_eq q k) ∙ sym (value_put q k y m) where
  either : (b : Bool) → cond b (Some x) (value_at q n) ≡ cond b (Some y) (value_at q m)
  either true = ap (λ z. Some z) e
  either false = h q

stood_same : (s u : StandsFor) → SameAt s u → (ids : List (List ℕ)) → stood_for s ids ≡ stood_for u ids
stood_same s u h [] = refl
stood_same s u h (id ∷ ids) = λ i. unwrap_or (h id i) [] ++ stood_same s u h ids i

-- what the order of work tells a resource to need is what it needs
module _ (e : Entering) (conds : Verdicts) (told stands : StandsFor) (same : SameAt told stands) (made : StandMade e.stack.template conds stands) where
  needs_same : (ids : List (List ℕ)) (r : Res) → ids ≡ needs_in e.stack.template conds r → in_order (stood_for told ids ++ e.needs) ≡ needed_by e conds stands r
  needs_same ids r g =
      ap (λ xs. in_order (stood_for told xs ++ e.needs)) g ∙ ap (λ xs. in_order (xs ++ e.needs)) (stood_same told stands same (needs_in e.stack.template conds r))
      ∙ sym (needs_by_order e conds stands r made)

  member_same : (ids : List (List ℕ)) (r : Res) → ids ≡ needs_in e.stack.template conds r → member_by e conds told ids r ≡ member_of e conds stands r
  member_same ids r g = λ i. record (member_of e conds stands r) { needs = needs_same ids r g i }

  nesting_same : (ids : List (List ℕ)) (r : Res) → ids ≡ needs_in e.stack.template conds r → nesting_by e told ids r ≡ nesting_of e conds stands r
  nesting_same ids r g = λ i. record (nesting_of e conds stands r) { needs = needs_same ids r g i }

-- what is in a nested stack rests on what its expressions come to
name_same : (stack path : List ℕ) (s u : Scope) → ((f : Form) → value_of s f ≡ value_of u f) → (r : Res) → template_name_of stack path s r ≡ template_name_of stack path u r
name_same stack path s u h r = ap (template_name_from stack path) (either (value_at (codes "TemplateURL") r.props)) where
  either : (o : Option Form) → option_map_or (λ f. on_got (value_of s f) (maybe_text (place_of f))) o (got None) ≡ option_map_or (λ f. on_got (value_of u f) (maybe_text (place_of f))) o (got None)
  either None = refl
  either (Some f) = ap (λ (x : Found). on_got x (maybe_text (place_of f))) (h f)

module _ (lay : Option Laying) (source : Source) (seen : Seen) (e : Entering) where
  inside_same : (s u : Scope) → SameScope s u → (c : PlanInProgress) (n : Nesting) (r : Res) (o : Option Flaw)
      → inside_by lay source e s c.templates c.members n r o ≡ inside_of lay source e u c n r o
  inside_same s u same c n r (Some f) = refl
  inside_same s u same c n r None = λ i. cond (has_stack_shape r)
      (inside.given_by (value_at (codes "Parameters") r.props)
      (body_at lay source e n r c.templates c.members (given_same s u same (value_at (codes "Parameters") r.props) i) (name_same e.stack.path n.path s u same.value r i)))
      (shut (flaw.Shape n.path))

  outs_same : (s u : Scope) → SameScope s u → (i : Inside) → outputs_inside source seen s i ≡ outputs_inside source seen u i
  outs_same s u same (shut f) = refl
  outs_same s u same (inside.given_by form b) = ap (λ (g : Given). outputs_of source seen g b) (given_same s u same form)

  module _ (conds : Verdicts) (bound settings : Settings) (pseudo : List (List ℕ × Data)) (binds : SameAt bound settings) (told : pseudo ≡ pseudo_of e.stack.name source.number) where
    abbrev kept : Scoping
    kept n = resource_scope e.stack.template.mappings bound conds pseudo n source.imports

    abbrev over : Scoping
    over = scoping source e.stack conds settings

    scopes : (n m : Sights) → SameAt n m → SameScope (kept n) (over m)
    scopes n m h = scope_same e.stack.template bound settings conds pseudo (pseudo_of e.stack.name source.number) source.imports n m binds told h

    -- what is known along the order of work is the same
    record Alike (k : LaidSoFar) (c : PlanInProgress) : Type 0 where
      sights : SameAt k.sights c.sights
      stands : SameAt k.stands c.stands
      made : StandMade e.stack.template conds c.stands
      templates : k.templates ≡ c.templates
      members : k.members ≡ c.members

    -- what comes along some work
    record Goes (k l : LaidSoFar) (c : PlanInProgress) (w : Work) : Type 0 where
      turns : l.turns ≡ k.turns ++ turns_along w
      paths : l.paths ≡ k.paths ++ paths_below w
      templates : l.templates ≡ k.templates + templates_below w
      members : l.members ≡ k.members + members_below w
      sights : SameAt l.sights (sights_after source seen over c.sights w)

    abbrev step : LaidSoFar → Row → LaidSoFar
    step = step_by lay source seen e conds kept

    module _ (m : Row) (order : List Row) (h : HasNeeds e.stack.template conds m)
        (ih : (k : LaidSoFar) (c : PlanInProgress) → Alike k c → Goes k (fold step k order) c (work_along lay source seen e conds over order c)) (k : LaidSoFar) (c : PlanInProgress) (a : Alike k c) where
      abbrev rest_work : PlanInProgress → Work
      rest_work d = work_along lay source seen e conds over order d

      -- a resource
      with_one : (r : Res) → resource_named m.0 e.stack.template ≡ Some r → Goes k (fold step (with_member e conds k m.1 r) order) c (resource (member_of e conds c.stands r) (rest_work c))
      with_one r f =
          let rest = ih (with_member e conds k m.1 r) c (record { sights = a.sights; stands = a.stands; made = a.made; templates = a.templates; members = a.members }) in record {
            turns =
                rest.turns ∙ append_assoc k.turns (a_resource (member_by e conds k.stands m.1 r) ∷ []) (turns_along (rest_work c))
                ∙ ap (λ x. k.turns ++ a_resource x ∷ turns_along (rest_work c)) (member_same e conds k.stands c.stands a.stands a.made m.1 r (h.1 r f));
            paths = rest.paths;
            templates = rest.templates;
            members = rest.members;
            sights = rest.sights;
          }

      -- a nested stack
      module _ (r : Res) (f : resource_named m.0 e.stack.template ≡ Some r) where
        abbrev n : Nesting
        n = nesting_of e conds c.stands r

        abbrev i : Inside
        i = inside_of lay source e (over c.sights) c n r (unnamed_at e.stack.path conds r)

        abbrev d : PlanInProgress
        d = progress_after source seen (over c.sights) c n i

        same : SameScope (kept k.sights) (over c.sights)
        same = scopes k.sights c.sights a.sights

        one : nesting_by e k.stands m.1 r ≡ n
        one = nesting_same e conds k.stands c.stands a.stands a.made m.1 r (h.1 r f)

        two : inside_by lay source e (kept k.sights) k.templates k.members n r (unnamed_at e.stack.path conds r) ≡ i
        two =
            (λ j. inside_by lay source e (kept k.sights) (a.templates j) (a.members j) n r (unnamed_at e.stack.path conds r))
            ∙ inside_same (kept k.sights) (over c.sights) same c n r (unnamed_at e.stack.path conds r)

        after : with_nested lay source seen e conds kept k m.1 r ≡ with_inside source seen (over c.sights) n i k
        after =
            ap (λ (x : Nesting). with_inside source seen (kept k.sights) x (inside_by lay source e (kept k.sights) k.templates k.members x r (unnamed_at e.stack.path conds r)) k) one
            ∙ ap (λ (x : Inside). with_inside source seen (kept k.sights) n x k) two
            ∙ (λ j. record (with_inside source seen (over c.sights) n i k) { sights = nested_sight source n (outs_same (kept k.sights) (over c.sights) same i j) k.sights })

        named : r.name ≡ m.0
        named = named_so m.0 (resource_named m.0 e.stack.template) r (found_made e.stack.template conds m.0 e.stack.template.resources h.0) f

        alike : Alike (with_inside source seen (over c.sights) n i k) d
        alike = record {
          sights = put_same n.id _ _ k.sights c.sights a.sights refl;
          stands = put_same n.id (paths_inside i ++ n.needs) (paths_inside i ++ n.needs) k.stands c.stands a.stands refl;
          made = put_made e.stack.template conds n.id (paths_inside i ++ n.needs) c.stands (subst (IsMade e.stack.template conds) (sym named) h.0) a.made;
          templates = ap (λ x. x + templates_inside i) a.templates;
          members = ap (λ x. x + members_inside i) a.members;
        }

        with_stack : Goes k (fold step (with_nested lay source seen e conds kept k m.1 r) order) c (nested n i (rest_work d))
        with_stack =
            let rest = ih (with_inside source seen (over c.sights) n i k) d alike in
            subst (λ (x : LaidSoFar). Goes k (fold step x order) c (nested n i (rest_work d))) (sym after)
            (record {
              turns = rest.turns ∙ append_assoc k.turns (turns_inside n i) (turns_along (rest_work d));
              paths = rest.paths ∙ append_assoc k.paths (paths_inside i ++ n.needs) (paths_below (rest_work d));
              templates = omega (arith, rest.templates);
              members = omega (arith, rest.members);
              sights = rest.sights;
            })

        by_kind : (b : Bool)
            → Goes k (fold step (cond b (with_nested lay source seen e conds kept k m.1 r) (with_member e conds k m.1 r)) order) c
            (cond b (nested_before source seen (over c.sights) c n i rest_work) (resource (member_of e conds c.stands r) (rest_work c)))
        by_kind true = with_stack
        by_kind false = with_one r f

      by_name : (o : Option Res) → resource_named m.0 e.stack.template ≡ o
          → Goes k (fold step (option_map_or (step_with lay source seen e conds kept k m.1) o k) order) c
          (option_map_or (λ r. step_before lay source seen e conds over c r rest_work) o (rest_work c))
      by_name None f = ih k c a
      by_name (Some r) f = by_kind r f (is_stack r)

    along : (order : List Row) → AllNeeds e.stack.template conds order → (k : LaidSoFar) (c : PlanInProgress) → Alike k c → Goes k (fold step k order) c (work_along lay source seen e conds over order c)
    along [] h k c a = record {
      turns = sym (append-nil k.turns);
      paths = sym (append-nil k.paths);
      templates = omega arith;
      members = omega arith;
      sights = a.sights;
    }
    along (m ∷ order) h k c a = by_name m order h.0 (along order h.1) k c a (resource_named m.0 e.stack.template) refl

    -- a template that is opened
    module _ (templates members : ℕ) (order : List Row) (h : AllNeeds e.stack.template conds order) where
      abbrev own : List (List ℕ)
      own = own_in e.stack.template order

      abbrev first : PlanInProgress
      first = record { sights = first_sights e.stack conds seen own; stands = first_stands e.stack own; templates = templates + 1; members = members + length e.stack.template.resources }

      abbrev work : Work
      work = work_along lay source seen e conds over order first

      abbrev behind : LaidSoFar
      behind = fold step (none_laid seen e.stack conds own templates members) order

      goes : Goes (none_laid seen e.stack conds own templates members) behind first work
      goes = along order h (none_laid seen e.stack conds own templates members) first (record {
        sights = sights_listed e.stack conds seen own;
        stands = stands_listed e.stack own;
        made = first_made e.stack.template conds e.stack order h;
        templates = refl;
        members = refl;
      })

      owned : own_ids work ≡ own
      owned = own_same lay source seen e conds over order first

      pub opened_turns : (en : Entry) → an_opened en e.stack conds (made_by conds e.stack.template own) ∷ (behind.turns ++ a_closed ∷ []) ≡ turns_in en (opened e.stack conds work)
      opened_turns en = λ j. an_opened en e.stack conds (made_by conds e.stack.template (sym owned j)) ∷ (goes.turns j ++ a_closed ∷ [])

      pub opened_outputs : (g : Given) → settings ≡ settings_for e.stack.template.params g → output_sights e.stack conds (kept behind.sights) ≡ outputs_of source seen g (opened e.stack conds work)
      opened_outputs g is =
          sights_same (kept behind.sights) (over (sights_after source seen over first.sights work)) (scopes behind.sights (sights_after source seen over first.sights work) goes.sights) e.stack conds
          ∙ (λ j. output_sights e.stack conds (over (sights_after source seen over (first_sights e.stack conds seen (sym owned j)) work)))
          ∙ ap (λ (s : Settings). output_sights e.stack conds (scoping source e.stack conds s (sights_after source seen (scoping source e.stack conds s) (first_sights e.stack conds seen (own_ids work)) work))) is

      pub opened_paths : map (path_in e.stack.path) own ++ behind.paths ≡ paths_in (opened e.stack conds work)
      opened_paths = λ j. map (path_in e.stack.path) (sym owned j) ++ goes.paths j

      pub opened_templates : behind.templates ≡ templates + templates_in (opened e.stack conds work)
      opened_templates = omega (arith, goes.templates)

      pub opened_members : behind.members ≡ members + members_in (opened e.stack conds work)
      opened_members = omega (arith, goes.members)

-- conditions rest on what stands under the names of parameters
conditions_same : (t : Template) (bound settings : Settings) (pseudo told : List (List ℕ × Data)) → SameAt bound settings → pseudo ≡ told → conditions_of t bound pseudo ≡ conditions_of t settings told
conditions_same t bound settings pseudo told h p =
    λ i. undeclared_at_fault (conditions_found (record (scope_within t bound (p i)) { params = λ name. option_map setting_of (h name i) }) t.conds)

-- a template that is entered at a depth
laid_below : (n : ℕ) (source : Source) (seen : Seen) (e : Entering) (g : Given) (templates members : ℕ)
    → laid n source seen e g templates members ≡ body_bound (enterable_below n source seen) source seen e (settings_for e.stack.template.params g) templates members
laid_below zero source seen e g templates members = refl
laid_below (suc n) source seen e g templates members = refl

pub laid_so : (n : ℕ) (source : Source) (seen : Seen) (e : Entering) (g : Given) (templates members : ℕ) (bound : Settings) (pseudo : List (List ℕ × Data))
    → bound ≡ settings_by e.stack.template.params g → pseudo ≡ pseudo_of e.stack.name source.number → (d : Result (Verdicts × List Row) Flaw)
    → d ≡ decision_of e.stack (conditions_of e.stack.template bound pseudo)
    → laid n source seen e g templates members ≡ body_of (enterable_below n source seen) source seen e (settings_for e.stack.template.params g) templates members d
laid_so n source seen e g templates members bound pseudo b p d h =
    laid_below n source seen e g templates members
    ∙ ap (body_decided (enterable_below n source seen) source seen e (settings_for e.stack.template.params g) templates members)
    (sym (conditions_same e.stack.template bound (settings_for e.stack.template.params g) pseudo (pseudo_of e.stack.name source.number)
    (λ q. ap (value_at q) b ∙ settings_listed g e.stack.template.params q) p))
    ∙ body_decides (enterable_below n source seen) source seen e (settings_for e.stack.template.params g) templates members (conditions_of e.stack.template bound pseudo)
    ∙ ap (body_of (enterable_below n source seen) source seen e (settings_for e.stack.template.params g) templates members) (sym h)

-- an order that was decided tells what each needs
abbrev HasOrder : Template → Result (Verdicts × List Row) Flaw → Type 0
HasOrder t (Ok d) = AllNeeds t d.0 d.1
HasOrder t (Err f) = ⊤

by_order_needs : (t : Stack) (conds : Verdicts) (r : Result (List Row) OrderFault) → IfOk r (AllNeeds t.template conds) → HasOrder t.template (by_order t conds r)
by_order_needs t conds (Ok order) h = h
by_order_needs t conds (Err x) h = tt

-- the order of a decision
pub decided_needs : (t : Stack) (o : Outcome (List (List ℕ × Option Bool))) → AreOrdered t.template.resources → HasOrder t.template (decision_of t o)
decided_needs t (bad s) h = tt
decided_needs t later h = tt
decided_needs t (got conds) h = either (first_later conds) where
  either : (o : Option (List ℕ)) → HasOrder t.template (option_map_or (λ name. Err (flaw.DynamicCondition t.path name)) o (order_found t (verdicts_of conds)))
  either None = by_order_needs t (verdicts_of conds) (needs_of t.template (verdicts_of conds)) (order_needs t.template (verdicts_of conds) h)
  either (Some name) = tt

-- the root
pub root_laid : (source : Source) (seen : Seen) (t : Template) → template_named source.root source ≡ Some t
    → laid 7 source seen (root_of source t) (given_root source) 1 (length t.resources) ≡ shape_of source seen
root_laid source seen t h =
    sym (ap (λ (o : Option Template). option_map_or (λ x. laid 7 source seen (root_of source x) (given_root source) 1 (length x.resources)) o (barred (flaw.TemplateMissing source.root))) h)

pub root_missing : (source : Source) (seen : Seen) → template_named source.root source ≡ None → barred (flaw.TemplateMissing source.root) ≡ shape_of source seen
root_missing source seen h =
    sym (ap (λ (o : Option Template). option_map_or (λ x. laid 7 source seen (root_of source x) (given_root source) 1 (length x.resources)) o (barred (flaw.TemplateMissing source.root))) h)

-- what a nested stack is entered with, or barred by
abbrev entered_body : ℕ → Source → Seen → (Template → Entering) → Given → ℕ → ℕ → Result Template Flaw → Body
entered_body n source seen entering g templates members (Ok t) = laid n source seen (entering t) g (templates + 1) (members + length t.resources)
entered_body n source seen entering g templates members (Err f) = barred f

-- where a template may be entered there is a depth left
pub within_entered : (n : ℕ) (source : Source) (seen : Seen) (path name : List ℕ) (templates members : ℕ) (o : Option Template) (entering : Template → Entering) (g : Given)
    → laid_within (enterable_below n source seen) path name templates members o entering g ≡ entered_body (n - 1) source seen entering g templates members (entered_by n path name templates members o)
within_entered zero source seen path name templates members o entering g = refl
within_entered (suc n) source seen path name templates members None entering g =
    let less : suc n - 1 ≡ n = omega arith in
    either (nat_lt 16 (templates + 1))
    ∙ sym (ap (λ (k : ℕ). entered_body k source seen entering g templates members (cond (nat_lt 16 (templates + 1)) (Err (flaw.TooMany (templates + 1))) (Err (flaw.TemplateMissing name)))) less) where
      either : (b : Bool) → cond b (barred (flaw.TooMany (templates + 1))) (barred (flaw.TemplateMissing name))
          ≡ entered_body n source seen entering g templates members (cond b (Err (flaw.TooMany (templates + 1))) (Err (flaw.TemplateMissing name)))
      either true = refl
      either false = refl
within_entered (suc n) source seen path name templates members (Some t) entering g =
    let less : suc n - 1 ≡ n = omega arith in
    either (nat_lt 16 (templates + 1)) (nat_lt 2000 (members + length t.resources))
    ∙ sym (ap (λ (k : ℕ). entered_body k source seen entering g templates members
    (cond (nat_lt 16 (templates + 1)) (Err (flaw.TooMany (templates + 1))) (cond (nat_lt 2000 (members + length t.resources)) (Err (flaw.TooMany (members + length t.resources))) (Ok t)))) less) where
      either : (b d : Bool)
          → cond b (barred (flaw.TooMany (templates + 1))) (cond d (barred (flaw.TooMany (members + length t.resources))) (laid n source seen (entering t) g (templates + 1) (members + length t.resources)))
          ≡ entered_body n source seen entering g templates members (cond b (Err (flaw.TooMany (templates + 1))) (cond d (Err (flaw.TooMany (members + length t.resources))) (Ok t)))
      either true d = refl
      either false true = refl
      either false false = refl

-- a template that may be entered is there, within the limits, and a depth is left
pub entered_so : (n : ℕ) (path name : List ℕ) (templates members : ℕ) (o : Option Template) (t : Template) → entered_by n path name templates members o ≡ Ok t
    → (1 ≤ n) × ((o ≡ Some t) × few (templates + 1) (members + length t.resources))
entered_so zero path name templates members o t h = let no : ⊥ = cc in absurd no
entered_so (suc n) path name templates members None t h = either (nat_lt 16 (templates + 1)) h where
  either : (b : Bool) → cond b (Err (flaw.TooMany (templates + 1))) (Err (flaw.TemplateMissing name)) ≡ Ok t → (1 ≤ suc n) × ((None ≡ Some t) × few (templates + 1) (members + length t.resources))
  either true g = let no : ⊥ = cc in absurd no
  either false g = let no : ⊥ = cc in absurd no
entered_so (suc n) path name templates members (Some x) t h = either (nat_lt 16 (templates + 1)) refl (nat_lt 2000 (members + length x.resources)) refl h where
  either : (b : Bool) → nat_lt 16 (templates + 1) ≡ b → (d : Bool) → nat_lt 2000 (members + length x.resources) ≡ d
      → cond b (Err (flaw.TooMany (templates + 1))) (cond d (Err (flaw.TooMany (members + length x.resources))) (Ok x)) ≡ Ok t
      → (1 ≤ suc n) × ((Some x ≡ Some t) × few (templates + 1) (members + length t.resources))
  either true e d g h = let no : ⊥ = cc in absurd no
  either false e true g h = let no : ⊥ = cc in absurd no
  either false e false g h =
      let same : x ≡ t = cc in (
        omega arith,
        (
          ap (λ y. Some y) same,
          subst (λ (y : Template). few (templates + 1) (members + length y.resources)) same (omega (arith, ltb-false 16 (templates + 1) e), omega (arith, ltb-false 2000 (members + length x.resources) g)),
        ),
      )

-- a template that a nested stack enters is within the limits, and has its resources in order
pub way_fits : (left : ℕ) (source : Source) (stack : List ℕ) (s : Scope) (templates members : ℕ) (path : List ℕ) (r : Res) (o : Option Flaw) (w : Way)
    → w ≡ way_by left source stack s templates members path r o → IsWay left templates members w
way_fits left source stack s templates members path r o w h = subst (IsWay left templates members) (sym h) (by_flaw o) where
  by_entered : (name : List ℕ) (g : Given) (x : Result Template Flaw) → entered_by left path name templates members (template_named name source) ≡ x
      → IsWay left templates members (entered_way g x)
  by_entered name g (Err f) e = tt
  by_entered name g (Ok t) e =
      let so = entered_so left path name templates members (template_named name source) t e in
      (so.0, (so.1.1, subst IfOrdered so.1.0 (if_ordered name source)))

  by_template : (g : Given) (u : Result (List ℕ) Flaw) → IsWay left templates members (name_way left source path templates members g u)
  by_template g (Err f) = tt
  by_template g (Ok name) = by_entered name g (entered_by left path name templates members (template_named name source)) refl

  by_shape : (g : Given) (u : Result (List ℕ) Flaw) (b : Bool) → IsWay left templates members (cond b (name_way left source path templates members g u) (way_shut (flaw.Shape path)))
  by_shape g u true = by_template g u
  by_shape g u false = tt

  by_flaw : (o : Option Flaw) → IsWay left templates members (way_by left source stack s templates members path r o)
  by_flaw (Some f) = tt
  by_flaw None = by_shape (given_in s (value_at (codes "Parameters") r.props)) (template_name_of stack path s r) (has_stack_shape r)

-- what is laid out by what becomes of a nested stack is what is in it
pub way_laid : (left : ℕ) (source : Source) (seen : Seen) (s : Scope) (e : Entering) (n : Nesting) (r : Res) (c : Count) (o : Option Flaw) (w : Way) (l : Laid)
    → w ≡ way_by left source e.stack.path s c.templates c.members n.path r o
    → WayLaid source seen s e n (value_at (codes "Parameters") r.props) r left c w l
    → IsWithin source seen s n c (inside_by (enterable_below left source seen) source e s c.templates c.members n r o) l
way_laid left source seen s e n r c o w l h k = by_flaw o (subst (λ x. WayLaid source seen s e n (value_at (codes "Parameters") r.props) r left c x l) h k) where
  by_entered : (x : Result Template Flaw) → WayLaid source seen s e n (value_at (codes "Parameters") r.props) r left c (entered_way (given_in s (value_at (codes "Parameters") r.props)) x) l
      → IsWithin source seen s n c (inside.given_by (value_at (codes "Parameters") r.props) (entered_body (left - 1) source seen (entering_below e n r) (given_in s (value_at (codes "Parameters") r.props)) c.templates c.members x)) l
  by_entered (Ok t) k = k
  by_entered (Err f) k = k

  by_template : (u : Result (List ℕ) Flaw) → WayLaid source seen s e n (value_at (codes "Parameters") r.props) r left c (name_way left source n.path c.templates c.members (given_in s (value_at (codes "Parameters") r.props)) u) l
      → IsWithin source seen s n c (inside.given_by (value_at (codes "Parameters") r.props) (body_at (enterable_below left source seen) source e n r c.templates c.members (given_in s (value_at (codes "Parameters") r.props)) u)) l
  by_template (Err f) k = k
  by_template (Ok name) k =
      subst (λ (b : Body). IsWithin source seen s n c (inside.given_by (value_at (codes "Parameters") r.props) b) l)
      (sym (within_entered left source seen n.path name c.templates c.members (template_named name source) (entering_below e n r) (given_in s (value_at (codes "Parameters") r.props))))
      (by_entered (entered_by left n.path name c.templates c.members (template_named name source)) k)

  by_shape : (b : Bool)
      → WayLaid source seen s e n (value_at (codes "Parameters") r.props) r left c (cond b (name_way left source n.path c.templates c.members (given_in s (value_at (codes "Parameters") r.props)) (template_name_of e.stack.path n.path s r)) (way_shut (flaw.Shape n.path))) l
      → IsWithin source seen s n c (cond b (inside.given_by (value_at (codes "Parameters") r.props) (body_at (enterable_below left source seen) source e n r c.templates c.members (given_in s (value_at (codes "Parameters") r.props)) (template_name_of e.stack.path n.path s r))) (shut (flaw.Shape n.path))) l
  by_shape true k = by_template (template_name_of e.stack.path n.path s r) k
  by_shape false k = k

  by_flaw : (o : Option Flaw) → WayLaid source seen s e n (value_at (codes "Parameters") r.props) r left c (way_by left source e.stack.path s c.templates c.members n.path r o) l
      → IsWithin source seen s n c (inside_by (enterable_below left source seen) source e s c.templates c.members n r o) l
  by_flaw (Some f) k = k
  by_flaw None k = by_shape (has_stack_shape r) k

-- what is laid out after a nested stack that was laid out
pub nested_so : (lay : Option Laying) (source : Source) (seen : Seen) (e : Entering) (conds : Verdicts) (over : Scoping) (old new : kept_so_far.LaidSoFar) (ids : List (List ℕ)) (r : Res) (n : Nesting) (u : Option Flaw) (l : Laid)
    → n ≡ nesting_by e old.stands ids r → u ≡ unnamed_at e.stack.path conds r
    → IsWithin source seen (over old.sights) n old.count (inside_by lay source e (over old.sights) old.count.templates old.count.members n r u) l → IsJoined source n l old new
    → so_far_in new ≡ with_nested lay source seen e conds over (so_far_in old) ids r
nested_so lay source seen e conds over old new ids r n u l en eu w j =
    let i = inside_by lay source e (over old.sights) old.count.templates old.count.members n r u in
    let here : so_far_in new ≡ with_inside source seen (over old.sights) n i (so_far_in old) = λ k. record {
      turns = (j.turns ∙ ap (λ ts. map turn_in old.turns ++ ts) w.turns) k;
      sights = (j.sights ∙ ap (λ os. seen_nested source n os old.sights) w.outputs) k;
      stands = (j.stands ∙ ap (λ ps. put n.id (ps ++ n.needs) old.stands) w.paths) k;
      paths = (j.paths ∙ ap (λ ps. old.paths ++ (ps ++ n.needs)) w.paths) k;
      templates = (ap (λ (c : Count). c.templates) j.count ∙ w.templates) k;
      members = (ap (λ (c : Count). c.members) j.count ∙ w.members) k;
    } in
    here ∙ (λ k. with_inside source seen (over old.sights) (en k) (inside_by lay source e (over old.sights) old.count.templates old.count.members (en k) r (eu k)) (so_far_in old))

-- a template that was opened, or that is halted, is laid out
pub opened_laid : (n : ℕ) (source : Source) (seen : Seen) (e : Entering) (en : Entry) (g : Given) (c : Count) (bound : Settings) (pseudo : List (List ℕ × Data)) (conds : Verdicts) (order : List Row) (k : LaidSoFar) (l : Laid)
    → AreOrdered e.stack.template.resources → bound ≡ settings_by e.stack.template.params g → pseudo ≡ pseudo_of e.stack.name source.number
    → Ok (conds, order) ≡ decision_of e.stack (conditions_of e.stack.template bound pseudo)
    → k ≡ fold (step_by (enterable_below n source seen) source seen e conds (λ sights. resource_scope e.stack.template.mappings bound conds pseudo sights source.imports)) (none_laid seen e.stack conds (own_in e.stack.template order) c.templates c.members) order
    → map turn_in l.turns ≡ an_opened en e.stack conds (made_by conds e.stack.template (own_in e.stack.template order)) ∷ (k.turns ++ a_closed ∷ [])
    → l.outputs ≡ by_names (output_sights e.stack conds (resource_scope e.stack.template.mappings bound conds pseudo k.sights source.imports))
    → l.paths ≡ map (path_in e.stack.path) (own_in e.stack.template order) ++ k.paths → l.count.templates ≡ k.templates → l.count.members ≡ k.members
    → IsLaid source seen en g c (laid n source seen e g (c.templates + 1) (c.members + length e.stack.template.resources)) l
opened_laid n source seen e en g c bound pseudo conds order k l ordered b p d kk ts os ps nt nm =
    let settings = settings_for e.stack.template.params g in
    let binds : SameAt bound settings = λ q. ap (value_at q) b ∙ settings_listed g e.stack.template.params q in
    let needs : AllNeeds e.stack.template conds order = subst (HasOrder e.stack.template) (sym d) (decided_needs e.stack (conditions_of e.stack.template bound pseudo) ordered) in
    let lay = enterable_below n source seen in
    let same : laid n source seen e g (c.templates + 1) (c.members + length e.stack.template.resources) ≡ opened e.stack conds (work lay source seen e conds bound settings pseudo binds p c.templates c.members order needs) =
    laid_so n source seen e g (c.templates + 1) (c.members + length e.stack.template.resources) bound pseudo b p (Ok (conds, order)) d in
    subst (λ x. IsLaid source seen en g c x l) (sym same)
    (record {
      turns = ts ∙ ap (λ (x : LaidSoFar). an_opened en e.stack conds (made_by conds e.stack.template (own_in e.stack.template order)) ∷ (x.turns ++ a_closed ∷ [])) kk ∙ opened_turns lay source seen e conds bound settings pseudo binds p c.templates c.members order needs en;
      outputs =
          os ∙ ap (λ (x : LaidSoFar). by_names (output_sights e.stack conds (resource_scope e.stack.template.mappings bound conds pseudo x.sights source.imports))) kk
          ∙ ap by_names (opened_outputs lay source seen e conds bound settings pseudo binds p c.templates c.members order needs g refl);
      paths = ps ∙ ap (λ (x : LaidSoFar). map (path_in e.stack.path) (own_in e.stack.template order) ++ x.paths) kk ∙ opened_paths lay source seen e conds bound settings pseudo binds p c.templates c.members order needs;
      templates = nt ∙ ap (λ (x : LaidSoFar). x.templates) kk ∙ opened_templates lay source seen e conds bound settings pseudo binds p c.templates c.members order needs;
      members = nm ∙ ap (λ (x : LaidSoFar). x.members) kk ∙ opened_members lay source seen e conds bound settings pseudo binds p c.templates c.members order needs;
    })

pub halted_laid : (n : ℕ) (source : Source) (seen : Seen) (e : Entering) (en : Entry) (g : Given) (c : Count) (bound : Settings) (pseudo : List (List ℕ × Data)) (f : Flaw) (l : Laid)
    → bound ≡ settings_by e.stack.template.params g → pseudo ≡ pseudo_of e.stack.name source.number → Err f ≡ decision_of e.stack (conditions_of e.stack.template bound pseudo)
    → IsLaid source seen en g c (halted e.stack f) l → IsLaid source seen en g c (laid n source seen e g (c.templates + 1) (c.members + length e.stack.template.resources)) l
halted_laid n source seen e en g c bound pseudo f l b p d h =
    subst (λ x. IsLaid source seen en g c x l) (sym (laid_so n source seen e g (c.templates + 1) (c.members + length e.stack.template.resources) bound pseudo b p (Err f) d)) h
