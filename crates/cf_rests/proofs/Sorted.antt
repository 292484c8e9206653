-- The properties that a template says of a path stand in the order of their names, as those of its resources do, also in the shape
-- of a source.
use Rattle.std.proofs.Common.{arith, ◌≡◌, ◌∙◌, ℕ, List, ◌∷◌, ◌++◌, Bool, true, false, Option, Some, None, refl, sym, ap, subst, inl, inr, zero, suc, ◌+◌, Result, Ok, Err, []}
use Rattle.serde_json.specs.{Data.Data, Data.object, Data.Members, Data.no_members, Data.member, Find.get}
use Rattle.cf_tree.specs.Forms.{Form}
use Rattle.cf_tree.specs.declared.{template.Param.Param, template.Res.Res, template.Template.Template}
use Rattle.cf_eval.specs.{Outcome.got, Outcome.later, Outcome.bad, Outcome.Outcome, Scope.Scope, Conditions.conditions_of}
use Rattle.cf_desired.specs.{Given.Given, Given.settings_for, Shape.PlanInProgress, Shape.member_of, Stack.Scoping, Stack.Verdicts, Stack.Settings, Names.pseudo_of, Templates.accepted, Templates.is_stack, Templates.template_named}
use Rattle.cf_desired.proofs.Keeping.{over}
use Rattle.cf_template.specs.declared.{refusal.TemplateFault.TemplateFault, refusal.TemplateFault.TheVariants.BadName, refusal.TemplateFault.TheVariants.TooLong}
use Rattle.cf_template.specs.{Exprs.fields_in, Exprs.form_of, Exprs.values_of, Functions.has_function, Functions.stray_object, Json.json_of, Places.member_place, Refusals.Reading, Refusals.after, Refusals.mapped, Refusals.provided, Refusals.unless, Conds.conds_in, Maps.mappings_in, Outputs.outputs_form, Params.params_in, Resources.deletion_form, Resources.depends_form, Resources.or_none, Resources.replace_of, Resources.resource_fields, Resources.resource_of, Resources.resources_in, Shapes.optional, Shapes.optional_from, Shapes.plain_text, Shapes.required, Shapes.unread, Whole.free_section, Whole.required_section, Whole.section, Whole.sections_of, Whole.template_from, Whole.template_of, Whole.value_template, Words.is_name}
use Rattle.cf_graph.specs.Needs.{OrderFault, resource_named}
use Rattle.cf_tree.specs.Datum as tree
use Rattle.cf_desired.specs.Seeing.{Seen}
use Rattle.cf_desired.specs.Shape.{Entering, Laying, body_at, body_bound, body_decided, given_root, inside_of, laid, nested_before, nesting_of, progress_after, root_of, shape_of, step_before, unnamed_at, work_along}
use Rattle.cf_desired.specs.Valued.{resources_along, resources_in as members_in_shape, resources_inside}
use Rattle.cf_desired.specs.Work.{Inside, Member, Nesting, barred, resource}
use Rattle.cf_desired.specs.declared.flaw.Flaw.{Flaw}
use Rattle.cf_tree.proofs.Order.{ascends_put}
use Rattle.cf_tree.specs.Keys.{ascends, put}
use Rattle.cf_tree.specs.Lists.{In}
use Rattle.cf_tree.specs.declared.source.Source.{Source}
use Rattle.std.specs.Option.{option_map_or}
use Rattle.std.specs.Prelude.{IfOk, codes, cond, length, ⊤}
use Rattle.std.specs.Str.{bytes_eq}
use Rattle.cf_rests.proofs.OfLists.{either_way, found_one, in_either, in_first, in_more}

-- what was read has it
after_ok : {A B : Type 0} (P : A → Type 0) (Q : B → Type 0) (r : Reading A) (f : A → Reading B) → ((a : A) → P a → IfOk (f a) Q) → IfOk r P → IfOk (after r f) Q
after_ok P Q r f h p = grind arith

any_ok : {A B : Type 0} (Q : B → Type 0) (r : Reading A) (f : A → Reading B) → ((a : A) → IfOk (f a) Q) → IfOk (after r f) Q
any_ok Q r f h = grind arith

mapped_ok : {A B : Type 0} (P : A → Type 0) (Q : B → Type 0) (f : A → B) (r : Reading A) → ((a : A) → P a → Q (f a)) → IfOk r P → IfOk (mapped f r) Q
mapped_ok P Q f r h p = grind arith

provided_ok : {A : Type 0} (Q : A → Type 0) (b : Bool) (e : TemplateFault) (r : Reading A) → IfOk r Q → IfOk (provided b e r) Q
provided_ok Q b e r h = grind arith

unless_ok : {A : Type 0} (Q : A → Type 0) (o : Option TemplateFault) (r : Reading A) → IfOk r Q → IfOk (unless o r) Q
unless_ok Q o r h = grind arith

abbrev pub Sorted : List (List ℕ × Form) → Type 0
Sorted fs = ascends fs ≡ true

fields_sorted : (ps : List Param) (ms : Members) (at : List ℕ) (found : List (List ℕ × Form)) → Sorted found → IfOk (fields_in ps ms at found) Sorted
fields_sorted ps no_members at found h = h
fields_sorted ps (member k d ms) at found h =
    any_ok Sorted (form_of ps d (member_place at k)) (λ f. fields_in ps ms at (put k f found)) (λ f. fields_sorted ps ms at (put k f found) (ascends_put k f found h))

values_sorted : (ps : List Param) (d : Data) (at : List ℕ) → IfOk (values_of ps d at) Sorted
values_sorted ps (object ms) at =
    either_way (λ r. IfOk r Sorted) (has_function ms) (Err (stray_object ms at)) (fields_in ps ms at []) tt (fields_sorted ps ms at [] refl)
values_sorted ps d at = tt

abbrev SortedOrNone : Option (List (List ℕ × Form)) → Type 0
SortedOrNone o = Sorted (or_none o)

optional_sorted : (ps : List Param) (o : Option Data) (at : List ℕ) → IfOk (optional_from (values_of ps) o at) SortedOrNone
optional_sorted ps None at = refl
optional_sorted ps (Some d) at = mapped_ok Sorted SortedOrNone (λ fs. Some fs) (values_of ps d at) (λ fs h. h) (values_sorted ps d at)

abbrev HasSorted : Res → Type 0
HasSorted r = Sorted r.props

-- readings one after another, of which one gives the properties
in_turn : {A B C D K E : Type 0} (a : Reading A) (b : Reading B) (c : Reading C) (d : Reading D) (p : Reading (Option (List (List ℕ × Form)))) (k : Reading K) (e : Reading E)
    (f : A → B → C → D → Option (List (List ℕ × Form)) → K → E → Res)
    → ((u : A) (v : B) (w : C) (x : D) (o : Option (List (List ℕ × Form))) (y : K) (z : E) → (f u v w x o y z).props ≡ or_none o) → IfOk p SortedOrNone
    → IfOk (after a (λ u. after b (λ v. after c (λ w. after d (λ x. after p (λ o. after k (λ y. mapped (f u v w x o y) e))))))) HasSorted
in_turn a b c d p k e f h s = grind arith

resource_sorted : (ps : List Param) (k : List ℕ) (d : Data) (at : List ℕ) → IfOk (resource_fields ps k d at) HasSorted
resource_sorted ps k d at =
    in_turn (optional plain_text (codes "Condition") d at) (optional deletion_form (codes "DeletionPolicy") d at) (optional depends_form (codes "DependsOn") d at)
    (optional unread (codes "Metadata") d at) (optional (values_of ps) (codes "Properties") d at) (required plain_text (codes "Type") d at)
    (optional replace_of (codes "UpdateReplacePolicy") d at)
    (λ condition deletion depends metadata props kind replace. record {
      name = k;
      kind = kind;
      props = or_none props;
      depends = or_none depends;
      condition = condition;
      deletion = deletion;
      replace = replace;
    })
    (λ u v w x o y z. refl) (optional_sorted ps (get (codes "Properties") d) (member_place at (codes "Properties")))

one_sorted : (ps : List Param) (k : List ℕ) (d : Data) (at : List ℕ) → IfOk (resource_of ps k d at) HasSorted
one_sorted ps k (object ms) at = grind (arith, unless_ok, provided_ok, resource_sorted)
one_sorted ps k d at = tt

abbrev AllSorted : List Res → Type 0
AllSorted rs = (r : Res) → In r rs → HasSorted r

all_sorted : (ps : List Param) (ms : Members) (at : List ℕ) (found : List Res) → AllSorted found → IfOk (resources_in ps ms at found) AllSorted
all_sorted ps no_members at found h = h
all_sorted ps (member k d ms) at found h =
    provided_ok AllSorted (is_name k) (BadName (member_place at k)) (after (resource_of ps k d (member_place at k)) (λ r. resources_in ps ms at (found ++ r ∷ [])))
    (after_ok HasSorted AllSorted (resource_of ps k d (member_place at k)) (λ r. resources_in ps ms at (found ++ r ∷ []))
    (λ r s. all_sorted ps ms at (found ++ r ∷ []) (in_more HasSorted r found h s)) (one_sorted ps k d (member_place at k)))

abbrev OfTemplate : Template → Type 0
OfTemplate t = AllSorted t.resources

-- sections one after another, of which one gives the resources
sections_in_turn : {A B M C O : Type 0} (a : Reading A) (b : Reading B) (p : Reading (List Param)) (m : Reading M) (c : List Param → Reading C)
    (r : List Param → Reading (List Res)) (o : List Param → Reading O) (f : List Param → M → C → List Res → O → Template)
    → ((ps : List Param) (u : M) (v : C) (rs : List Res) (w : O) → (f ps u v rs w).resources ≡ rs) → ((ps : List Param) → IfOk (r ps) AllSorted)
    → IfOk (after a (λ x. after b (λ y. after p (λ ps. after m (λ u. after (c ps) (λ v. after (r ps) (λ rs. mapped (f ps u v rs) (o ps)))))))) OfTemplate
sections_in_turn {C = C} {O = O} (Ok x) (Ok y) (Ok ps) (Ok u) c r o f h s = (grind arith)
sections_in_turn a b p m c r o f h s = tt

sections_sorted : (d : Data) → IfOk (sections_of d) OfTemplate
sections_sorted d =
    sections_in_turn (optional plain_text (codes "Description") d []) (optional unread (codes "Metadata") d []) (section params_in 200 (codes "Parameters") (get (codes "Parameters") d))
    (section mappings_in 200 (codes "Mappings") (get (codes "Mappings") d)) (λ params. free_section (conds_in params) (codes "Conditions") (get (codes "Conditions") d))
    (λ params. required_section (resources_in params) 500 (codes "Resources") (get (codes "Resources") d))
    (λ params. section (outputs_form params) 200 (codes "Outputs") (get (codes "Outputs") d))
    (λ params mappings conds resources outputs. record { params = params; mappings = mappings; conds = conds; resources = resources; outputs = outputs })
    (λ ps u v rs w. refl) (λ params. grind (arith, unless_ok, all_sorted))

from_sorted : (d : Data) → IfOk (template_from d) OfTemplate
from_sorted (object ms) = grind (arith, unless_ok, provided_ok, sections_sorted)
from_sorted d = tt

value_sorted : (o : Option Data) → IfOk (value_template o) OfTemplate
value_sorted o = grind (arith, unless_ok, from_sorted)

-- the templates of a source
abbrev IfSorted : Option Template → Type 0
IfSorted None = ⊤
IfSorted (Some t) = AllSorted t.resources

named_sorted : (name : List ℕ) (source : Source) → IfSorted (template_named name source)
named_sorted name source = (grind (arith, by_reading, provided_ok, OfTemplate, value_sorted)) where
  by_reading : (r : Result Template TemplateFault) → IfOk r OfTemplate → IfSorted (accepted r)
  by_reading r h = grind arith

-- the resources of a shape
abbrev pub MembersSorted : List Member → Type 0
MembersSorted ms = (m : Member) → In m ms → Sorted m.props

none_sorted : MembersSorted []
none_sorted m i = elim i [ ]

both_sorted : (xs ys : List Member) → MembersSorted xs → MembersSorted ys → MembersSorted (xs ++ ys)
both_sorted xs ys h g m i = elim (in_either m xs ys i) [ inl j ↦ h m j | inr j ↦ g m j ]

abbrev LaysSorted : Option Laying → Type 0
LaysSorted None = ⊤
LaysSorted (Some lay) = (e : Entering) (g : Given) (t m : ℕ) → AllSorted e.stack.template.resources → MembersSorted (members_in_shape (lay e g t m))

module _ (lay : Option Laying) (source : Source) (seen : Seen) (lays : LaysSorted lay) where
  at_sorted : (e : Entering) (n : Nesting) (r : Res) (t m : ℕ) (g : Given) (u : Result (List ℕ) Flaw) → MembersSorted (members_in_shape (body_at lay source e n r t m g u))
  at_sorted e n r t m g u = grind (arith, none_sorted, named_sorted, either_way)

  inside_sorted : (e : Entering) (s : Scope) (c : PlanInProgress) (n : Nesting) (r : Res) (o : Option Flaw) → MembersSorted (resources_inside (inside_of lay source e s c n r o))
  inside_sorted e s c n r o = grind (arith, none_sorted, either_way, at_sorted)

  module _ (e : Entering) (sorted : AllSorted e.stack.template.resources) where
    work_sorted : (conds : Verdicts) (over : Scoping) (order : List (List ℕ × List (List ℕ))) (c : PlanInProgress) → MembersSorted (resources_along (work_along lay source seen e conds over order c))
    work_sorted conds over [] c = none_sorted
    work_sorted conds over (m ∷ order) c = by_name (resource_named m.0 e.stack.template) refl (λ d. work_sorted conds over order d) where
      by_kind : (r : Res) → In r e.stack.template.resources → ((d : PlanInProgress) → MembersSorted (resources_along (work_along lay source seen e conds over order d))) → (b : Bool)
          → MembersSorted (resources_along (cond b
          (nested_before source seen (over c.sights) c (nesting_of e conds c.stands r)
          (inside_of lay source e (over c.sights) c (nesting_of e conds c.stands r) r (unnamed_at e.stack.path conds r)) (work_along lay source seen e conds over order))
          (resource (member_of e conds c.stands r) (work_along lay source seen e conds over order c))))
      by_kind r i ih true =
          let n = nesting_of e conds c.stands r in
          let w : Inside = inside_of lay source e (over c.sights) c n r (unnamed_at e.stack.path conds r) in
          both_sorted (resources_inside w) (resources_along (work_along lay source seen e conds over order (progress_after source seen (over c.sights) c n w)))
          (inside_sorted e (over c.sights) c n r (unnamed_at e.stack.path conds r)) (ih (progress_after source seen (over c.sights) c n w))
      by_kind r i ih false = in_first (λ x. Sorted x.props) (member_of e conds c.stands r) (resources_along (work_along lay source seen e conds over order c)) (sorted r i) (ih c)

      by_name : (o : Option Res) → resource_named m.0 e.stack.template ≡ o → ((d : PlanInProgress) → MembersSorted (resources_along (work_along lay source seen e conds over order d)))
          → MembersSorted (resources_along (option_map_or (λ r. step_before lay source seen e conds over c r (work_along lay source seen e conds over order)) o (work_along lay source seen e conds over order c)))
      by_name None q ih = ih c
      by_name (Some r) q ih = by_kind r (found_one (λ x. bytes_eq m.0 x.name) e.stack.template.resources r q).0 ih (is_stack r)

    decided_sorted : (bound : Settings) (t m : ℕ) (o : Outcome (List (List ℕ × Option Bool))) → MembersSorted (members_in_shape (body_decided lay source seen e bound t m o))
    decided_sorted bound t m (got conds) = grind (arith, none_sorted, work_sorted)
    decided_sorted bound t m v3 = grind (arith, none_sorted)

    bound_sorted : (bound : Settings) (t m : ℕ) → MembersSorted (members_in_shape (body_bound lay source seen e bound t m))
    bound_sorted bound t m = decided_sorted bound t m (conditions_of e.stack.template bound (pseudo_of e.stack.name source.number))

laid_sorted : (n : ℕ) (source : Source) (seen : Seen) → LaysSorted (Some (laid n source seen))
laid_sorted zero source seen e g t m s = bound_sorted None source seen tt e s (settings_for e.stack.template.params g) t m
laid_sorted (suc n) source seen e g t m s = bound_sorted (Some (laid n source seen)) source seen (laid_sorted n source seen) e s (settings_for e.stack.template.params g) t m

pub shape_sorted : (source : Source) (seen : Seen) → MembersSorted (members_in_shape (shape_of source seen))
shape_sorted source seen = either (template_named source.root source) (named_sorted source.root source) where
  either : (o : Option Template) → IfSorted o
      → MembersSorted (members_in_shape (option_map_or (λ t. laid 7 source seen (root_of source t) (given_root source) 1 (length t.resources)) o (barred (Flaw.TemplateMissing source.root))))
  either None h = none_sorted
  either (Some t) h = laid_sorted 7 source seen (root_of source t) (given_root source) 1 (length t.resources) h
