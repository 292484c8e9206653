-- A shape covers what it mentions: what a resource, or what a nested stack is given, mentions stands for paths that it needs.
use Rattle.std.proofs.Common.{◌≡◌, ℕ, List, [], ◌∷◌, ◌++◌, Bool, true, false, not, ◌||◌, Option, Some, None, Result, Ok, Err, refl, sym, ap, subst, ◌∙◌, true≢false, filter, filter_map, zero, suc}
use Rattle.std.specs.Prelude.{⊤, cond, codes, nat_lt, length, ◌+◌, unwrap_or}
use Rattle.std.specs.List.{cons_option}
use Rattle.std.specs.Option.{option_map_or}
use Rattle.std.specs.Str.{bytes_eq}
use Rattle.std.proofs.lemmas.Slice.Eq.{bytes_eq-Decides}
use Rattle.cf_tree.specs.Forms.{Form, fields_of}
use Rattle.cf_tree.specs.Keys.{value_at, put}
use Rattle.cf_tree.specs.declared.bound.Verdict.TheVariants as verdict
use Rattle.cf_tree.specs.declared.source.Source.{Source}
use Rattle.cf_tree.specs.declared.template.Res.{Res}
use Rattle.cf_tree.specs.declared.template.Template.{Template}
use Rattle.cf_graph.specs.Mentions.{Mention, by_ref, by_attribute, mentions_of, fields_mentions}
use Rattle.cf_graph.specs.Needs.{OrderFault, is_parameter, meant, holds_in, is_evaluated, evaluated_props, referred_to, needs_of, resource_named}
use Rattle.cf_tree.specs.Lists.{is_among}
use Rattle.cf_desired.specs.Names.{pseudo_of}
use Rattle.cf_desired.specs.Seeing.{Seen, own_ids, first_sights}
use Rattle.cf_desired.specs.Templates.{is_stack, template_named}
use Rattle.cf_desired.specs.Shape.{has_stack_shape, verdict_from, first_later, Entering, StandsFor, PlanInProgress, Laying, stood_for, first_stands, paths_inside, own_id, own_in, needed_by, unnamed_at, member_of, nesting_of, template_name_of, laid_within, entering_below, body_at, inside_of, nested_before, step_before, work_along, body_in_order, verdicts_of, body_decided, body_bound, laid, given_root, root_of, shape_of}
use Rattle.cf_desired.specs.declared.flaw.Flaw.{Flaw}
use Rattle.cf_desired.specs.declared.flaw.Flaw.TheVariants as flaw
use Rattle.cf_desired.proofs.OrderNeeds.{among_order, among_first, among_second, either_so}
use Rattle.cf_eval.specs.Conditions.{conditions_of}
use Rattle.cf_eval.specs.Outcome.{Outcome, got, later, bad}
use Rattle.cf_desired.specs.Given.{Given, given_in, settings_for}
use Rattle.cf_eval.specs.Scope.{Scope}
use Rattle.cf_desired.specs.Stack.{Verdicts, Settings, Scoping, scoping}
use Rattle.cf_desired.specs.Work.{Member, Nesting, Work, Inside, Body, no_work, resource, nested, shut, barred, halted, opened}
use Rattle.cf_desired.specs.Work as inside

-- all of ps are among all
abbrev pub In : List (List ℕ) → List (List ℕ) → Type 0
In all ps = (q : List ℕ) → is_among q ps ≡ true → is_among q all ≡ true

abbrev pub CoversMention : Template → List (List ℕ) → StandsFor → Mention → Type 0
CoversMention t needs stands (by_ref name) = is_parameter name t ≡ false → In needs (unwrap_or (value_at name stands) [])
CoversMention t needs stands (by_attribute name) = In needs (unwrap_or (value_at name stands) [])

abbrev pub CoversAll : Template → List (List ℕ) → StandsFor → List Mention → Type 0
CoversAll t needs stands [] = ⊤
CoversAll t needs stands (x ∷ xs) = CoversMention t needs stands x × CoversAll t needs stands xs

-- no condition is Later
abbrev pub AreDecided : Verdicts → Type 0
AreDecided conds = (name : List ℕ) → value_at name conds ≡ Some verdict.Later → ⊥

abbrev pub CoversForm : Template → Verdicts → List (List ℕ) → StandsFor → Option Form → Type 0
CoversForm t conds needs stands None = ⊤
CoversForm t conds needs stands (Some f) = CoversAll t needs stands (mentions_of (holds_in conds) f)

abbrev mutual
  pub Covers : Template → Verdicts → List (List ℕ) → StandsFor → Work → Type 0
  Covers t conds needs stands no_work = ⊤
  Covers t conds needs stands (resource m w) =
      (In m.needs needs × CoversAll t m.needs stands (fields_mentions (holds_in conds) (fields_of m.props))) × Covers t conds needs stands w
  Covers t conds needs stands (nested n i w) =
      (In n.needs needs × CoversInside t conds n.needs stands i) × Covers t conds needs (put n.id (paths_inside i ++ n.needs) stands) w

  pub CoversInside : Template → Verdicts → List (List ℕ) → StandsFor → Inside → Type 0
  CoversInside t conds needs stands (shut f) = ⊤
  CoversInside t conds needs stands (inside.given_by form b) = CoversForm t conds needs stands form × CoversBody needs b

  pub CoversBody : List (List ℕ) → Body → Type 0
  CoversBody needs (barred f) = ⊤
  CoversBody needs (halted t f) = ⊤
  CoversBody needs (opened t conds w) = AreDecided conds × Covers t.template conds needs (first_stands t (own_ids w)) w

same_name : (k : List ℕ) → bytes_eq k k ≡ true
same_name k = (bytes_eq-Decides k k).1 refl

-- what ids stand for is among what they all stand for
pub stood : (stands : StandsFor) (id : List ℕ) (ids : List (List ℕ)) → is_among id ids ≡ true → In (stood_for stands ids) (unwrap_or (value_at id stands) [])
stood stands id [] h q g = absurd (true≢false (sym h))
stood stands id (x ∷ ids) h q g = by_name (bytes_eq id x) refl h (λ k. stood stands id ids k q g) where
  by_name : (t : Bool) → bytes_eq id x ≡ t → (t || is_among id ids) ≡ true → (is_among id ids ≡ true → is_among q (stood_for stands ids) ≡ true) → is_among q (stood_for stands (x ∷ ids)) ≡ true
  by_name true e k ih =
      among_first q (unwrap_or (value_at x stands) []) (stood_for stands ids) (subst (λ y. is_among q (unwrap_or (value_at y stands) []) ≡ true) ((bytes_eq-Decides id x).0 e) g)
  by_name false e k ih = among_second q (unwrap_or (value_at x stands) []) (stood_for stands ids) (ih k)

module _ (e : Entering) (conds : Verdicts) (stands : StandsFor) (r : Res) where
  abbrev ids : List (List ℕ)
  ids = referred_to e.stack.template conds r

  needs_around : In (needed_by e conds stands r) e.needs
  needs_around q h = among_order q (stood_for stands ids ++ e.needs) (among_second q (stood_for stands ids) e.needs h)

  needs_named : (id : List ℕ) → is_among id ids ≡ true → In (needed_by e conds stands r) (unwrap_or (value_at id stands) [])
  needs_named id h q g = among_order q (stood_for stands ids ++ e.needs) (among_first q (stood_for stands ids) e.needs (stood stands id ids h q g))

  -- each of these mentions, where all names that they mean are referred to
  covers_all : (xs : List Mention) → ((id : List ℕ) → is_among id (filter_map (meant e.stack.template) xs) ≡ true → is_among id ids ≡ true)
      → CoversAll e.stack.template (needed_by e conds stands r) stands xs
  covers_all [] h = tt
  covers_all (by_attribute name ∷ xs) h =
      (needs_named name (h name (ap (λ t. t || is_among name (filter_map (meant e.stack.template) xs)) (same_name name))), covers_all xs (λ id m. h id (either_so (bytes_eq id name) _ m)))
  covers_all (by_ref name ∷ xs) h = (λ p. needs_named name (h name (there p)), covers_all xs (λ id m. h id (more (is_parameter name e.stack.template) id m))) where
    there : is_parameter name e.stack.template ≡ false → is_among name (filter_map (meant e.stack.template) (by_ref name ∷ xs)) ≡ true
    there p =
        ap (λ t. is_among name (cons_option (cond t None (Some name)) (filter_map (meant e.stack.template) xs))) p
        ∙ ap (λ t. t || is_among name (filter_map (meant e.stack.template) xs)) (same_name name)

    more : (t : Bool) (id : List ℕ) → is_among id (filter_map (meant e.stack.template) xs) ≡ true
        → is_among id (cons_option (cond t None (Some name)) (filter_map (meant e.stack.template) xs)) ≡ true
    more true id m = m
    more false id m = either_so (bytes_eq id name) _ m

  abbrev mentioned : List Mention
  mentioned = fields_mentions (holds_in conds) (fields_of (evaluated_props r))

  covers_evaluated : CoversAll e.stack.template (needed_by e conds stands r) stands mentioned
  covers_evaluated = covers_all mentioned (λ id m. among_first id (filter_map (meant e.stack.template) mentioned) r.depends m)

module _ (t : Template) (needs : List (List ℕ)) (stands : StandsFor) where
  first_covers : (xs ys : List Mention) → CoversAll t needs stands (xs ++ ys) → CoversAll t needs stands xs
  first_covers [] ys a = tt
  first_covers (x ∷ xs) ys a = (a.0, first_covers xs ys a.1)

  second_covers : (xs ys : List Mention) → CoversAll t needs stands (xs ++ ys) → CoversAll t needs stands ys
  second_covers [] ys a = a
  second_covers (x ∷ xs) ys a = second_covers xs ys a.1

  module _ (holds : List ℕ → Option Bool) (kind : List ℕ) where
    abbrev kept : List (List ℕ × Form) → List (List ℕ × Form)
    kept ps = filter (λ p. is_evaluated kind p.0) ps

    -- the Parameters of a nested stack are evaluated
    abbrev CoversOne : Option Form → Type 0
    CoversOne None = ⊤
    CoversOne (Some f) = CoversAll t needs stands (mentions_of holds f)

    parameters_covered : (ps : List (List ℕ × Form)) → CoversAll t needs stands (fields_mentions holds (fields_of (kept ps))) → CoversOne (value_at (codes "Parameters") ps)
    parameters_covered [] a = tt
    parameters_covered (p ∷ ps) a = by_name (bytes_eq (codes "Parameters") p.0) refl (is_evaluated kind p.0) refl a (parameters_covered ps) where
      by_name :
          (b : Bool) → bytes_eq (codes "Parameters") p.0 ≡ b → (c : Bool) → is_evaluated kind p.0 ≡ c
          → CoversAll t needs stands (fields_mentions holds (fields_of (cond c (p ∷ kept ps) (kept ps))))
          → (CoversAll t needs stands (fields_mentions holds (fields_of (kept ps))) → CoversOne (value_at (codes "Parameters") ps))
          → CoversOne (cond b (Some p.1) (value_at (codes "Parameters") ps))
      by_name true d true c k ih = first_covers (mentions_of holds p.1) _ k
      by_name true d false c k ih =
          absurd (true≢false (sym (named (bytes_eq kind (codes "AWS::CloudFormation::Stack"))) ∙ ap (is_evaluated kind) ((bytes_eq-Decides (codes "Parameters") p.0).0 d) ∙ c)) where
            named : (s : Bool) → (not s || true) ≡ true
            named true = refl
            named false = refl
      by_name false d true c k ih = ih (second_covers (mentions_of holds p.1) _ k)
      by_name false d false c k ih = ih k

    -- of a resource that is no nested stack all is
    all_covered : bytes_eq kind (codes "AWS::CloudFormation::Stack") ≡ false → (ps : List (List ℕ × Form))
        → CoversAll t needs stands (fields_mentions holds (fields_of (kept ps))) → CoversAll t needs stands (fields_mentions holds (fields_of ps))
    all_covered plain [] a = tt
    all_covered plain (p ∷ ps) a =
        let all = subst (λ b. CoversAll t needs stands (fields_mentions holds (fields_of (cond (not b || is_among p.0 (codes "TemplateURL" ∷ codes "Parameters" ∷ [])) (p ∷ kept ps) (kept ps))))) plain a in
        both (mentions_of holds p.1) (fields_mentions holds (fields_of ps)) (first_covers (mentions_of holds p.1) _ all) (all_covered plain ps (second_covers (mentions_of holds p.1) _ all)) where
          both : (xs ys : List Mention) → CoversAll t needs stands xs → CoversAll t needs stands ys → CoversAll t needs stands (xs ++ ys)
          both [] ys g h = h
          both (x ∷ xs) ys g h = (g.0, both xs ys g.1 h)

form_covered : (t : Template) (conds : Verdicts) (needs : List (List ℕ)) (stands : StandsFor) (kind : List ℕ) (o : Option Form)
    → CoversOne t needs stands (holds_in conds) kind o → CoversForm t conds needs stands o
form_covered t conds needs stands kind None h = tt
form_covered t conds needs stands kind (Some f) h = h

verdicts_decided : (vs : List (List ℕ × Option Bool)) → first_later vs ≡ None → AreDecided (verdicts_of vs)
verdicts_decided [] q name h = let no : ⊥ = cc in no
verdicts_decided ((n, None) ∷ vs) q name h = let no : ⊥ = cc in no
verdicts_decided ((n, Some b) ∷ vs) q name h = either (bytes_eq name n) b h (verdicts_decided vs q name) where
  either : (c d : Bool) → cond c (Some (verdict_from (Some d))) (value_at name (verdicts_of vs)) ≡ Some verdict.Later → (value_at name (verdicts_of vs) ≡ Some verdict.Later → ⊥) → ⊥
  either true true g ih = let no : ⊥ = cc in no
  either true false g ih = let no : ⊥ = cc in no
  either false d g ih = ih g

-- a template's own resources come in the order of work
module _ (lay : Option Laying) (source : Source) (seen : Seen) (e : Entering) (conds : Verdicts) (over : Scoping) where
  pub own_same : (order : List (List ℕ × List (List ℕ))) (c : PlanInProgress) → own_ids (work_along lay source seen e conds over order c) ≡ own_in e.stack.template order
  own_same [] c = refl
  own_same (m ∷ order) c = by_name (resource_named m.0 e.stack.template) (own_same order) where
    by_kind : (r : Res) (b : Bool) → ((d : PlanInProgress) → own_ids (work_along lay source seen e conds over order d) ≡ own_in e.stack.template order)
        → own_ids (cond b (nested_before source seen (over c.sights) c (nesting_of e conds c.stands r) (inside_of lay source e (over c.sights) c (nesting_of e conds c.stands r) r (unnamed_at e.stack.path conds r)) (work_along lay source seen e conds over order))
        (resource (member_of e conds c.stands r) (work_along lay source seen e conds over order c)))
        ≡ cond b [] (r.name ∷ []) ++ own_in e.stack.template order
    by_kind r true ih = ih _
    by_kind r false ih = ap (λ l. r.name ∷ l) (ih c)

    by_name : (o : Option Res) → ((d : PlanInProgress) → own_ids (work_along lay source seen e conds over order d) ≡ own_in e.stack.template order)
        → own_ids (option_map_or (λ r. step_before lay source seen e conds over c r (work_along lay source seen e conds over order)) o (work_along lay source seen e conds over order c))
        ≡ own_id o ++ own_in e.stack.template order
    by_name None ih = ih c
    by_name (Some r) ih = by_kind r (is_stack r) ih

-- a template that may be entered covers what it mentions
abbrev LaysCovered : Option Laying → Type 0
LaysCovered None = ⊤
LaysCovered (Some lay) = (e : Entering) (g : Given) (templates members : ℕ) → CoversBody e.needs (lay e g templates members)

module _ (lay : Option Laying) (source : Source) (seen : Seen) (lays : LaysCovered lay) where
  within_covered : (o : Option Laying) → LaysCovered o → (path name : List ℕ) (templates members : ℕ) (t : Option Template) (entering : Template → Entering) (needs : List (List ℕ))
      → ((x : Template) → (entering x).needs ≡ needs) → (g : Given) → CoversBody needs (laid_within o path name templates members t entering g)
  within_covered None h path name templates members t entering needs n g = tt
  within_covered (Some l) h path name templates members None entering needs n g = either (nat_lt 16 (templates + 1)) where
    either : (b : Bool) → CoversBody needs (cond b (barred (flaw.TooMany (templates + 1))) (barred (flaw.TemplateMissing name)))
    either true = tt
    either false = tt
  within_covered (Some l) h path name templates members (Some t) entering needs n g =
      either (nat_lt 16 (templates + 1)) (nat_lt 2000 (members + length t.resources)) where
        either : (b c : Bool)
            → CoversBody needs (cond b (barred (flaw.TooMany (templates + 1))) (cond c (barred (flaw.TooMany (members + length t.resources))) (l (entering t) g (templates + 1) (members + length t.resources))))
        either true c = tt
        either false true = tt
        either false false = subst (λ ns. CoversBody ns (l (entering t) g (templates + 1) (members + length t.resources))) (n t) (h (entering t) g (templates + 1) (members + length t.resources))

  name_covered : (e : Entering) (n : Nesting) (r : Res) (templates members : ℕ) (g : Given) (u : Result (List ℕ) Flaw) → CoversBody n.needs (body_at lay source e n r templates members g u)
  name_covered e n r templates members g (Err f) = tt
  name_covered e n r templates members g (Ok name) =
      within_covered lay lays n.path name templates members (template_named name source) (entering_below e n r) n.needs (λ x. refl) g

  module _ (e : Entering) (conds : Verdicts) (over : Scoping) where
    inside_covered : (s : Scope) (c : PlanInProgress) (r : Res) (o : Option Flaw)
        → CoversInside e.stack.template conds (needed_by e conds c.stands r) c.stands (inside_of lay source e s c (nesting_of e conds c.stands r) r o)
    inside_covered s c r (Some f) = tt
    inside_covered s c r None = either (has_stack_shape r) where
      n : Nesting
      n = nesting_of e conds c.stands r

      form : Option Form
      form = value_at (codes "Parameters") r.props

      either : (b : Bool)
          → CoversInside e.stack.template conds (needed_by e conds c.stands r) c.stands
          (cond b (inside.given_by (value_at (codes "Parameters") r.props) (body_at lay source e (nesting_of e conds c.stands r) r c.templates c.members (given_in s (value_at (codes "Parameters") r.props)) (template_name_of e.stack.path (nesting_of e conds c.stands r).path s r))) (shut (flaw.Shape (nesting_of e conds c.stands r).path)))
      either true = (
        form_covered e.stack.template conds (needed_by e conds c.stands r) c.stands r.kind (value_at (codes "Parameters") r.props)
            (parameters_covered e.stack.template (needed_by e conds c.stands r) c.stands (holds_in conds) r.kind r.props (covers_evaluated e conds c.stands r)),
        name_covered e (nesting_of e conds c.stands r) r c.templates c.members _ (template_name_of e.stack.path (nesting_of e conds c.stands r).path s r),
      )
      either false = tt

    step_covered : (c : PlanInProgress) (r : Res) (behind : PlanInProgress → Work) → ((d : PlanInProgress) → Covers e.stack.template conds e.needs d.stands (behind d))
        → Covers e.stack.template conds e.needs c.stands (step_before lay source seen e conds over c r behind)
    step_covered c r behind h = either (is_stack r) refl where
      either : (b : Bool) → is_stack r ≡ b
          → Covers e.stack.template conds e.needs c.stands
          (cond b (nested_before source seen (over c.sights) c (nesting_of e conds c.stands r) (inside_of lay source e (over c.sights) c (nesting_of e conds c.stands r) r (unnamed_at e.stack.path conds r)) behind)
          (resource (member_of e conds c.stands r) (behind c)))
      either true k = ((needs_around e conds c.stands r, inside_covered (over c.sights) c r (unnamed_at e.stack.path conds r)), h _)
      either false k = (
        (needs_around e conds c.stands r, all_covered e.stack.template (needed_by e conds c.stands r) c.stands (holds_in conds) r.kind k r.props (covers_evaluated e conds c.stands r)),
        h c,
      )

    work_covered : (order : List (List ℕ × List (List ℕ))) (c : PlanInProgress) → Covers e.stack.template conds e.needs c.stands (work_along lay source seen e conds over order c)
    work_covered [] c = tt
    work_covered (m ∷ order) c = by_name (resource_named m.0 e.stack.template) (work_covered order) where
      by_name : (o : Option Res) → ((d : PlanInProgress) → Covers e.stack.template conds e.needs d.stands (work_along lay source seen e conds over order d))
          → Covers e.stack.template conds e.needs c.stands
          (option_map_or (λ r. step_before lay source seen e conds over c r (work_along lay source seen e conds over order)) o (work_along lay source seen e conds over order c))
      by_name None ih = ih c
      by_name (Some r) ih = step_covered c r (work_along lay source seen e conds over order) ih

  module _ (e : Entering) (bound : Settings) (templates members : ℕ) where
    order_covered : (conds : Verdicts) → AreDecided conds → (r : Result (List (List ℕ × List (List ℕ))) OrderFault) → CoversBody e.needs (body_in_order lay source seen e bound templates members conds r)
    order_covered conds d (Err x) = tt
    order_covered conds d (Ok order) =
        let c : PlanInProgress = record { sights = first_sights e.stack conds seen (own_in e.stack.template order); stands = first_stands e.stack (own_in e.stack.template order); templates = templates; members = members } in (
          d,
          subst (λ ids. Covers e.stack.template conds e.needs (first_stands e.stack ids) (work_along lay source seen e conds (scoping source e.stack conds bound) order c))
              (sym (own_same lay source seen e conds (scoping source e.stack conds bound) order c)) (work_covered e conds (scoping source e.stack conds bound) order c),
        )

    decided_covered : (o : Outcome (List (List ℕ × Option Bool))) → CoversBody e.needs (body_decided lay source seen e bound templates members o)
    decided_covered (bad s) = tt
    decided_covered later = tt
    decided_covered (got conds) = either (first_later conds) refl where
      either : (o : Option (List ℕ)) → first_later conds ≡ o
          → CoversBody e.needs
          (option_map_or (λ name. halted e.stack (flaw.DynamicCondition e.stack.path name)) o (body_in_order lay source seen e bound templates members (verdicts_of conds) (needs_of e.stack.template (verdicts_of conds))))
      either None q = order_covered (verdicts_of conds) (verdicts_decided conds q) (needs_of e.stack.template (verdicts_of conds))
      either (Some name) q = tt

    bound_covered : CoversBody e.needs (body_bound lay source seen e bound templates members)
    bound_covered = decided_covered (conditions_of e.stack.template bound (pseudo_of e.stack.name source.number))

laid_covered : (n : ℕ) (source : Source) (seen : Seen) (e : Entering) (g : Given) (templates members : ℕ) → CoversBody e.needs (laid n source seen e g templates members)
laid_covered zero source seen e g templates members = bound_covered None source seen tt e (settings_for e.stack.template.params g) templates members
laid_covered (suc n) source seen e g templates members =
    bound_covered (Some (laid n source seen)) source seen (laid_covered n source seen) e (settings_for e.stack.template.params g) templates members

pub shape_covered : (source : Source) (seen : Seen) → CoversBody [] (shape_of source seen)
shape_covered source seen = either (template_named source.root source) where
  either : (o : Option Template)
      → CoversBody [] (option_map_or (λ t. laid 7 source seen (root_of source t) (given_root source) 1 (length t.resources)) o (barred (flaw.TemplateMissing source.root)))
  either None = tt
  either (Some t) = laid_covered 7 source seen (root_of source t) (given_root source) 1 (length t.resources)
