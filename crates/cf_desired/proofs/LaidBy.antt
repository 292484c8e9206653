-- What the steps of laying out ensure is that the template, the nested stack or the source is laid out.
use Rattle.std.proofs.Common.{◌≡◌, ◌∙◌, ℕ, ◌+◌, List, [], ◌∷◌, ◌++◌, Option, Some, None, Result, Ok, Err, IfOk, fold, length, map, refl, sym, ap, subst, arith}
use Rattle.std.specs.Prelude.{codes}
use Rattle.std.proofs.lemmas.List.{map-append}
use Rattle.cf_tree.specs.Datum.{Data}
use Rattle.cf_tree.specs.Forms.{Form}
use Rattle.cf_tree.specs.Keys.{value_at}
use Rattle.cf_tree.specs.declared.source.Source.{Source}
use Rattle.cf_tree.specs.declared.template.Res.{Res}
use Rattle.cf_tree.specs.declared.template.Template.{Template}
use Rattle.cf_template.proofs.Ordered.{AreOrdered}
use Rattle.cf_eval.specs.Conditions.{conditions_of}
use Rattle.cf_eval.specs.Scope.{Scope, resource_scope}
use Rattle.cf_desired.specs.declared.decision.Decision.{Decision}
use Rattle.cf_desired.specs.declared.decision.Decision.TheVariants as decision
use Rattle.cf_desired.specs.declared.flaw.Flaw.{Flaw}
use Rattle.cf_desired.specs.declared.flaw.Flaw.TheVariants as flaw
use Rattle.cf_desired.specs.declared.laying.Contents.{Contents}
use Rattle.cf_desired.specs.declared.laying.Count.{Count}
use Rattle.cf_desired.specs.declared.laying.LaidSoFar as kept_so_far
use Rattle.cf_desired.specs.declared.laying.Laid.{Laid}
use Rattle.cf_desired.specs.declared.laying.Way as kept_way
use Rattle.cf_desired.specs.declared.laying.Way.TheVariants as way
use Rattle.cf_desired.specs.declared.shape.Nesting as kept_nesting
use Rattle.cf_desired.specs.declared.shape.Shape as kept_shape
use Rattle.cf_desired.specs.declared.shape.Turn as kept_turn
use Rattle.cf_desired.specs.declared.shape.Turn.TheVariants.{Closed}
use Rattle.cf_desired.specs.Given.{Given, unknown}
use Rattle.cf_desired.specs.Kept.{IsContents, IsJoined, IsLaid, IsLaidAlong, IsShape, IsWithin, WayLaid, so_far_in, decision_in, nesting_in, turn_in, way_in}
use Rattle.cf_desired.specs.Laying.{LaidSoFar, none_laid, enterable_below, decision_of, few, nesting_by, step_by, way_by, with_nested}
use Rattle.cf_desired.specs.Listed.{Made, made_by, settings_by}
use Rattle.cf_desired.specs.Names.{pseudo_of}
use Rattle.cf_desired.specs.Seeing.{Seen}
use Rattle.cf_desired.specs.Shape.{Entering, given_root, laid, own_in, root_of, shape_of, unnamed_at}
use Rattle.cf_desired.specs.Stack.{Scoping, Settings, Stack, Verdicts}
use Rattle.cf_desired.specs.Templates.{template_named}
use Rattle.cf_desired.specs.Turns.{Entry, Turn, an_opened, a_closed, the_root, through}
use Rattle.cf_desired.specs.Work.{Nesting, barred, halted, shut}
use Rattle.cf_desired.proofs.Decisions.{named_ordered}
use Rattle.cf_desired.proofs.Limits.{named_few}
use Rattle.cf_desired.proofs.LaidOut.{halted_laid, nested_so, opened_laid, root_laid, root_missing, way_laid}

abbrev Row : Type 0
Row = List ℕ × List (List ℕ)

module _ (n : ℕ) (source : Source) (seen : Seen) (e : Entering) (en : Entry) (g : Given) (c : Count) (bound : Settings) (pseudo : List (List ℕ × Data))
    (binds : bound ≡ settings_by e.stack.template.params g) (told : pseudo ≡ pseudo_of e.stack.name source.number) where
  abbrev IsLaidHere : Laid → Type 0
  IsLaidHere = IsLaid source seen en g c (laid n source seen e g (c.templates + 1) (c.members + length e.stack.template.resources))

  -- a template in which nothing can be done
  pub halted_by : {E : Type 0} (d : Decision) (f : Flaw) (r : Result Laid E) → decision_in d ≡ decision_of e.stack (conditions_of e.stack.template bound pseudo) → d ≡ decision.Halted f
      → IfOk r (λ l. (source : Source) (seen : Seen) (g : Given) → IsLaid source seen en g c (halted e.stack f) l) → IfOk r IsLaidHere
  halted_by d f (Err x) h is k = tt
  halted_by d f (Ok l) h is k = halted_laid n source seen e en g c bound pseudo f l binds told (sym (ap decision_in is) ∙ h) (k source seen g)

  -- a template of which all has come
  module _ (conds : Verdicts) (order : List Row) (ordered : AreOrdered e.stack.template.resources)
      (decided : Ok (conds, order) ≡ decision_of e.stack (conditions_of e.stack.template bound pseudo)) where
    abbrev scopes : Scoping
    scopes sights = resource_scope e.stack.template.mappings bound conds pseudo sights source.imports

    abbrev behind : LaidSoFar
    behind = fold (step_by (enterable_below n source seen) source seen e conds scopes) (none_laid seen e.stack conds (own_in e.stack.template order) c.templates c.members) order

    pub opened_by : {E : Type 0} (t : kept_turn.Turn) (k : Contents) (r : Result Laid E) → IsContents e.stack conds scopes (own_in e.stack.template order) behind k
        → turn_in t ≡ an_opened en e.stack conds k.made
        → IfOk r (λ l. l.turns ≡ t ∷ (k.laid.turns ++ Closed ∷ [])) → IfOk r (λ l. l.outputs ≡ k.laid.outputs) → IfOk r (λ l. l.paths ≡ k.laid.paths) → IfOk r (λ l. l.count ≡ k.laid.count)
        → IfOk r IsLaidHere
    opened_by t k (Err x) is h lt lo lp lc = tt
    opened_by t k (Ok l) is h lt lo lp lc =
        opened_laid n source seen e en g c bound pseudo conds order behind l ordered binds told decided refl
        (ap (map turn_in) lt ∙ (λ j. (h ∙ ap (λ (x : Made). an_opened en e.stack conds x) is.made) j ∷ (map-append turn_in k.laid.turns (Closed ∷ []) ∙ ap (λ (x : List Turn). x ++ a_closed ∷ []) is.laid.turns) j))
        (lo ∙ is.laid.outputs) (lp ∙ is.laid.paths)
        (ap (λ (x : Count). x.templates) lc ∙ is.laid.templates) (ap (λ (x : Count). x.members) lc ∙ is.laid.members)

-- where the work behind what was begun came to this
pub contents_by : (t : Stack) (conds : Verdicts) (over : Scoping) (step : LaidSoFar → Row → LaidSoFar) (begin : List (List ℕ) → LaidSoFar) (order : List Row) (first so_far : kept_so_far.LaidSoFar)
    (own ids : List (List ℕ)) (made : Made) (laid : Laid) → own ≡ ids → made ≡ made_by conds t.template own → so_far_in first ≡ begin own → so_far_in so_far ≡ fold step (so_far_in first) order
    → IsLaidAlong t conds over own (so_far_in so_far) laid → IsContents t conds over ids (fold step (begin ids) order) (record { made = made; laid = laid })
contents_by t conds over step begin order first so_far own ids made laid owned makes begins works h =
    let so : so_far_in so_far ≡ fold step (begin ids) order =
    works ∙ ap (λ (p : LaidSoFar). fold step p order) (begins ∙ ap begin owned) in
    record {
      made = makes ∙ ap (made_by conds t.template) owned;
      laid = subst (λ (x : List (List ℕ)). IsLaidAlong t conds over x (fold step (begin ids) order) laid) owned (subst (λ (p : LaidSoFar). IsLaidAlong t conds over own p laid) so h);
    }

-- a nested stack that has come
pub nested_by : {U E : Type 0} (left : ℕ) (source : Source) (seen : Seen) (e : Entering) (conds : Verdicts) (over : Scoping) (old : kept_so_far.LaidSoFar) (ids : List (List ℕ)) (r : Res)
    (n inner : kept_nesting.Nesting) (form : Option Form) (u : Option Flaw) (s : Scope) (stack : List ℕ) (w : kept_way.Way) (l : Laid) (new : kept_so_far.LaidSoFar) (result : Result U E)
    → nesting_in n ≡ nesting_by e old.stands ids r → nesting_in inner ≡ nesting_in n → form ≡ value_at (codes "Parameters") r.props → u ≡ unnamed_at e.stack.path conds r
    → s ≡ over old.sights → stack ≡ e.stack.path → way_in w ≡ way_by left source stack s old.count.templates old.count.members inner.path r u
    → ((s : Scope) → WayLaid source seen s e (nesting_in inner) form r left old.count (way_in w) l) → IfOk result (λ _. IsJoined source (nesting_in n) l old new)
    → IfOk result (λ _. so_far_in new ≡ with_nested (enterable_below left source seen) source seen e conds over (so_far_in old) ids r)
nested_by left source seen e conds over old ids r n inner form u s stack w l new (Err x) hn hi hf hu hs hp hw hl hj = tt
nested_by left source seen e conds over old ids r n inner form u s stack w l new (Ok done) hn hi hf hu hs hp hw hl hj =
    let here : way_in w ≡ way_by left source e.stack.path (over old.sights) old.count.templates old.count.members n.path r u =
    hw ∙ (λ j. way_by left source (hp j) (hs j) old.count.templates old.count.members (hi j).path r u) in
    let so : WayLaid source seen (over old.sights) e (nesting_in n) (value_at (codes "Parameters") r.props) r left old.count (way_in w) l =
    subst (λ (x : Option Form). WayLaid source seen (over old.sights) e (nesting_in n) x r left old.count (way_in w) l) hf
    (subst (λ (x : Nesting). WayLaid source seen (over old.sights) e x form r left old.count (way_in w) l) hi (hl (over old.sights))) in
    let within = way_laid left source seen (over old.sights) e (nesting_in n) r old.count u (way_in w) l here so in
    nested_so (enterable_below left source seen) source seen e conds over old new ids r (nesting_in n) u l hn hu within hj

-- a nested stack that is shut, and one whose template can't be entered
module _ {E : Type 0} (source : Source) (seen : Seen) (e : Entering) (n : kept_nesting.Nesting) (form : Option Form) (r : Res) (left : ℕ) (c : Count) (w : kept_way.Way) (f : Flaw)
    (result : Result Laid E) where
  abbrev IsWayLaid : kept_way.Way → Type 0
  IsWayLaid x = IfOk result (λ l. (s : Scope) → WayLaid source seen s e (nesting_in n) form r left c (way_in x) l)

  pub shut_by : w ≡ way.Shut f → IfOk result (λ l. (source : Source) (seen : Seen) (s : Scope) → IsWithin source seen s (nesting_in n) c (shut f) l) → IsWayLaid w
  shut_by is h = subst IsWayLaid (sym is) (either result h) where
    either : (x : Result Laid E) → IfOk x (λ l. (source : Source) (seen : Seen) (s : Scope) → IsWithin source seen s (nesting_in n) c (shut f) l)
        → IfOk x (λ l. (s : Scope) → WayLaid source seen s e (nesting_in n) form r left c (way_in (way.Shut f)) l)
    either (Err x) h = tt
    either (Ok l) h = λ s. h source seen s

  pub barred_by : (en : Entry) → w ≡ way.Barred f → en ≡ through (nesting_in n) form
      → IfOk result (λ l. (source : Source) (seen : Seen) (g : Given) → IsLaid source seen en g c (barred f) l) → IsWayLaid w
  barred_by en is ei h = subst IsWayLaid (sym is) (either result h) where
    either : (x : Result Laid E) → IfOk x (λ l. (source : Source) (seen : Seen) (g : Given) → IsLaid source seen en g c (barred f) l)
        → IfOk x (λ l. (s : Scope) → WayLaid source seen s e (nesting_in n) form r left c (way_in (way.Barred f)) l)
    either (Err x) h = tt
    either (Ok l) h = λ s. subst (λ (x : Entry). IsLaid source seen x unknown c (barred f) l) ei (h source seen unknown)

-- the shape of a source, whose root template is laid out or missing
pub shape_laid : (source : Source) (seen : Seen) (t : Template) (e : Entering) (g : Given) (c : Count) (l : Laid) (s : kept_shape.Shape) → template_named source.root source ≡ Some t
    → e ≡ root_of source t → g ≡ given_root source → c.templates ≡ 0 → c.members ≡ 0
    → IsLaid source seen the_root g c (laid 7 source seen e g (c.templates + 1) (c.members + length e.stack.template.resources)) l
    → s.turns ≡ l.turns → s.templates ≡ l.count.templates → s.members ≡ l.count.members → IsShape s (shape_of source seen)
shape_laid source seen t e g c l s found he hg h0 h1 k st sn sm = subst (IsShape s) (root_laid source seen t found) (record {
  turns = ap (map turn_in) st ∙ here.turns;
  templates = omega (arith, sn, here.templates, h0);
  members = omega (arith, sm, here.members, h1);
}) where
  one : c.templates + 1 ≡ 1
  one = omega (arith, h0)

  all : c.members + length t.resources ≡ length t.resources
  all = omega (arith, h1)

  here : IsLaid source seen the_root (given_root source) c (laid 7 source seen (root_of source t) (given_root source) 1 (length t.resources)) l
  here =
      subst (λ (x : ℕ). IsLaid source seen the_root (given_root source) c (laid 7 source seen (root_of source t) (given_root source) 1 x) l) all
      (subst (λ (x : ℕ). IsLaid source seen the_root (given_root source) c (laid 7 source seen (root_of source t) (given_root source) x (c.members + length t.resources)) l) one
      (subst (λ (x : Given). IsLaid source seen the_root x c (laid 7 source seen (root_of source t) x (c.templates + 1) (c.members + length t.resources)) l) hg
      (subst (λ (x : Entering). IsLaid source seen the_root g c (laid 7 source seen x g (c.templates + 1) (c.members + length x.stack.template.resources)) l) he k)))

pub shape_missing : (source : Source) (seen : Seen) (g : Given) (c : Count) (name : List ℕ) (l : Laid) (s : kept_shape.Shape) → template_named source.root source ≡ None
    → name ≡ source.root → c.templates ≡ 0 → c.members ≡ 0 → IsLaid source seen the_root g c (barred (flaw.TemplateMissing name)) l
    → s.turns ≡ l.turns → s.templates ≡ l.count.templates → s.members ≡ l.count.members → IsShape s (shape_of source seen)
shape_missing source seen g c name l s found hn h0 h1 k st sn sm = subst (IsShape s) (ap (λ (x : List ℕ). barred (flaw.TemplateMissing x)) hn ∙ root_missing source seen found) (record {
  turns = ap (map turn_in) st ∙ k.turns;
  templates = omega (arith, sn, k.templates, h0);
  members = omega (arith, sm, k.members, h1);
})

-- a root template is within the limits, as it is entered
pub root_few : (source : Source) (t : Template) (e : Entering) (c : Count) → template_named source.root source ≡ Some t → e ≡ root_of source t → c.templates ≡ 0 → c.members ≡ 0
    → few (c.templates + 1) (c.members + length e.stack.template.resources)
root_few source t e c found he h0 h1 =
    let small = named_few source.root source t found in
    let long : length e.stack.template.resources ≡ length t.resources = ap (λ (x : Entering). length x.stack.template.resources) he in
    (omega (arith, h0), omega (arith, h1, long, small))

pub root_ordered : (source : Source) (t : Template) (e : Entering) → template_named source.root source ≡ Some t → e ≡ root_of source t → AreOrdered e.stack.template.resources
root_ordered source t e found he = subst (λ (x : Entering). AreOrdered x.stack.template.resources) (sym he) (named_ordered source.root source t found)
