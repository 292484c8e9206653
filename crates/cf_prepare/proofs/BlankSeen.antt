-- What a source wants is the same where of no path more is seen than that nothing is known of it.
use Rattle.std.proofs.Common.{◌≡◌, ℕ, Bool, true, false, List, [], ◌∷◌, ◌++◌, Option, Some, None, cond, map, refl, ap, sym, subst, ◌∙◌}
use Rattle.std.specs.Prelude.{fold, option_and_then}
use Rattle.std.specs.Option.{option_map_or}
use Rattle.std.specs.Str.{bytes_eq}
use Rattle.cf_tree.specs.Keys.{put, value_at}
use Rattle.cf_tree.specs.declared.source.Source.{Source}
use Rattle.cf_eval.specs.declared.env.OutputSight.{OutputSight}
use Rattle.cf_eval.specs.Knows.{StaysKnown}
use Rattle.cf_eval.specs.Scope.{Scope}
use Rattle.cf_schema.specs.declared.described.Schema.{Schema}
use Rattle.cf_desired.specs.Given.{Given, given_in, settings_for}
use Rattle.cf_desired.specs.Met.{Met, a_flaw, a_stack, bind_flaw, flaw_inside, flaw_met, flaws_of, met_along, met_inside, met_in, offers_flaw, outputs_met, outputs_wanted, scope_after}
use Rattle.cf_desired.specs.Names.{path_in}
use Rattle.cf_desired.specs.Plan.{outputs_in, plan_by, plan_from, plan_of, props_at, wanted_of}
use Rattle.cf_desired.specs.Seeing.{Seen, first_sights, made_sight, nested_sight, output_sights, outputs_inside, outputs_of, own_ids, seen_as, sights_after, unmade_sights}
use Rattle.cf_desired.specs.Shape.{given_root, shape_of}
use Rattle.cf_desired.specs.Stays.{SeesMore, attrs_seen, id_seen}
use Rattle.cf_desired.specs.Seeing.{SeenAt}
use Rattle.cf_desired.specs.Stack.{Sights, Scoping, Stack, Verdicts, scoping}
use Rattle.cf_desired.specs.Valued.{member_props, resources_in, valued_along, valued_inside, valued_in}
use Rattle.cf_desired.specs.Work.{Member, Work, Inside, Body, Shape, no_work, resource, nested, shut, barred, halted, opened}
use Rattle.cf_desired.specs.Work as inside
use Rattle.cf_desired.specs.declared.wanted.Evaluated.{Evaluated}
use Rattle.cf_desired.proofs.Flawless.{flawless_clear}
use Rattle.cf_desired.proofs.Puts.{value_put}
use Rattle.cf_desired.proofs.ShapeStays.{shape_stays}
use Rattle.cf_change.specs.Changes.{RowsFound, found_next, found_of, found_with}

module _ (source : Source) (seen other : Seen) (alike : (p : List ℕ) → seen_as (value_at p seen) ≡ seen_as (value_at p other)) where
  made_alike : (t : Stack) (ids : List (List ℕ)) → map (made_sight t seen) ids ≡ map (made_sight t other) ids
  made_alike t [] = refl
  made_alike t (id ∷ ids) = λ i. (id, alike (path_in t.path id) i) ∷ made_alike t ids i

  first_alike : (t : Stack) (conds : Verdicts) (ids : List (List ℕ)) → first_sights t conds seen ids ≡ first_sights t conds other ids
  first_alike t conds ids = ap (λ (s : Sights). s ++ unmade_sights t conds) (made_alike t ids)

  mutual
    after_alike : (over : Scoping) (s : Sights) (w : Work) → sights_after source seen over s w ≡ sights_after source other over s w
    after_alike over s no_work = refl
    after_alike over s (resource m w) = after_alike over s w
    after_alike over s (nested n i w) =
        after_alike over (nested_sight source n (outputs_inside source seen (over s) i) s) w
        ∙ ap (λ (os : List (List ℕ × OutputSight)). sights_after source other over (nested_sight source n os s) w) (inside_alike (over s) i)

    inside_alike : (s : Scope) (i : Inside) → outputs_inside source seen s i ≡ outputs_inside source other s i
    inside_alike s (shut f) = refl
    inside_alike s (inside.given_by form b) = outputs_alike (given_in s form) b

    outputs_alike : (g : Given) (b : Body) → outputs_of source seen g b ≡ outputs_of source other g b
    outputs_alike g (barred f) = refl
    outputs_alike g (halted t f) = refl
    outputs_alike g (opened t conds w) =
        ap (λ (s : Sights). output_sights t conds (scoping source t conds (settings_for t.template.params g) s))
        (after_alike (scoping source t conds (settings_for t.template.params g)) (first_sights t conds seen (own_ids w)) w
        ∙ ap (λ (s : Sights). sights_after source other (scoping source t conds (settings_for t.template.params g)) s w) (first_alike t conds (own_ids w)))

  scope_alike : (g : Given) (t : Stack) (conds : Verdicts) (w : Work) → scope_after source seen g t conds w ≡ scope_after source other g t conds w
  scope_alike g t conds w =
      ap (λ (s : Sights). scoping source t conds (settings_for t.template.params g) s)
      (after_alike (scoping source t conds (settings_for t.template.params g)) (first_sights t conds seen (own_ids w)) w
      ∙ ap (λ (s : Sights). sights_after source other (scoping source t conds (settings_for t.template.params g)) s w) (first_alike t conds (own_ids w)))

  mutual
    values_along : (path : List ℕ) (over : Scoping) (s : Sights) (w : Work) → valued_along source seen path over s w ≡ valued_along source other path over s w
    values_along path over s no_work = refl
    values_along path over s (resource m w) = ap (λ (rs : List (Member × Evaluated)). (m, member_props path (over s) m) ∷ rs) (values_along path over s w)
    values_along path over s (nested n i w) =
        let rest : valued_along source seen path over (nested_sight source n (outputs_inside source seen (over s) i) s) w
        ≡ valued_along source other path over (nested_sight source n (outputs_inside source other (over s) i) s) w =
        values_along path over (nested_sight source n (outputs_inside source seen (over s) i) s) w
        ∙ ap (λ (os : List (List ℕ × OutputSight)). valued_along source other path over (nested_sight source n os s) w) (inside_alike (over s) i) in
        λ j. values_inside (over s) i j ++ rest j

    values_inside : (s : Scope) (i : Inside) → valued_inside source seen s i ≡ valued_inside source other s i
    values_inside s (shut f) = refl
    values_inside s (inside.given_by form b) = values_in (given_in s form) b

    values_in : (g : Given) (b : Body) → valued_in source seen g b ≡ valued_in source other g b
    values_in g (barred f) = refl
    values_in g (halted t f) = refl
    values_in g (opened t conds w) =
        values_along t.path (scoping source t conds (settings_for t.template.params g)) (first_sights t conds seen (own_ids w)) w
        ∙ ap (λ (s : Sights). valued_along source other t.path (scoping source t conds (settings_for t.template.params g)) s w) (first_alike t conds (own_ids w))

  mutual
    mets_along : (path : List ℕ) (over : Scoping) (s : Sights) (w : Work) → met_along source seen path over s w ≡ met_along source other path over s w
    mets_along path over s no_work = refl
    mets_along path over s (resource m w) = ap (λ (ms : List Met). map (λ f. a_flaw f) (flaws_of (member_props path (over s) m)) ++ ms) (mets_along path over s w)
    mets_along path over s (nested n i w) =
        let rest : met_along source seen path over (nested_sight source n (outputs_inside source seen (over s) i) s) w
        ≡ met_along source other path over (nested_sight source n (outputs_inside source other (over s) i) s) w =
        mets_along path over (nested_sight source n (outputs_inside source seen (over s) i) s) w
        ∙ ap (λ (os : List (List ℕ × OutputSight)). met_along source other path over (nested_sight source n os s) w) (inside_alike (over s) i) in
        λ j. a_stack n (flaw_inside path (over s) i) ∷ (mets_inside path (over s) i j ++ rest j)

    mets_inside : (path : List ℕ) (s : Scope) (i : Inside) → met_inside source seen path s i ≡ met_inside source other path s i
    mets_inside path s (shut f) = refl
    mets_inside path s (inside.given_by form b) = ap (λ (ms : List Met). flaw_met (offers_flaw path s form) ++ ms) (mets_in (given_in s form) b)

    mets_in : (g : Given) (b : Body) → met_in source seen g b ≡ met_in source other g b
    mets_in g (barred f) = refl
    mets_in g (halted t f) = refl
    mets_in g (opened t conds w) =
        let along : met_along source seen t.path (scoping source t conds (settings_for t.template.params g)) (first_sights t conds seen (own_ids w)) w
        ≡ met_along source other t.path (scoping source t conds (settings_for t.template.params g)) (first_sights t conds other (own_ids w)) w =
        mets_along t.path (scoping source t conds (settings_for t.template.params g)) (first_sights t conds seen (own_ids w)) w
        ∙ ap (λ (s : Sights). met_along source other t.path (scoping source t conds (settings_for t.template.params g)) s w) (first_alike t conds (own_ids w)) in
        λ j. flaw_met (bind_flaw t g) ++ (along j ++ outputs_met t conds (scope_alike g t conds w j))

  wanted_alike : (g : Given) (b : Body) → outputs_in source seen g b ≡ outputs_in source other g b
  wanted_alike g (barred f) = refl
  wanted_alike g (halted t f) = refl
  wanted_alike g (opened t conds w) = ap (outputs_wanted t conds) (scope_alike g t conds w)

  values_alike : (shape : Shape) → plan_by source shape seen ≡ plan_by source shape other
  values_alike shape =
      λ j. plan_from shape (values_in (given_root source) shape j) (wanted_alike (given_root source) shape j) (mets_in (given_root source) shape j)

-- where nothing was known of any path and the plan had no flaw, no more of it is known now
pub plan_alike : (seen : Seen) → ((p : List ℕ) → seen_as (value_at p seen) ≡ seen_as None) → (source : Source) → (plan_of source []).flaws ≡ []
    → plan_of source seen ≡ plan_of source []
plan_alike seen blank source none =
    ap (λ (shape : Shape). plan_by source shape seen) (shape_stays source [] seen (λ p. (tt, tt)) (flawless_clear source (shape_of source []) [] none))
    ∙ values_alike source seen [] blank (shape_of source [])

-- Where nothing is held, nothing is known of any path.
abbrev pub IsBlankAt : List ℕ → Seen → Type 0
IsBlankAt p seen = seen_as (value_at p seen) ≡ seen_as None

abbrev pub IsBlank : Seen → Type 0
IsBlank seen = (p : List ℕ) → IsBlankAt p seen

no_id : (o : Option SeenAt) → seen_as o ≡ seen_as None → option_and_then (λ s. s.physical) o ≡ None
no_id None h = refl
no_id (Some s) h = cc

no_attrs : (o : Option SeenAt) → seen_as o ≡ seen_as None → option_and_then (λ s. s.attrs) o ≡ None
no_attrs None h = refl
no_attrs (Some s) h = cc

-- and where the plan has no flaw over that, it is the one over nothing
pub plan_back : (seen : Seen) → IsBlank seen → (source : Source) → (plan_of source seen).flaws ≡ [] → plan_of source seen ≡ plan_of source []
plan_back seen blank source none =
    values_alike source seen [] blank (shape_of source seen)
    ∙ ap (λ (shape : Shape). plan_by source shape []) (sym (shape_stays source seen [] shows (flawless_clear source (shape_of source seen) seen none))) where
      shows : SeesMore seen []
      shows p = (
        subst (λ o. StaysKnown o (id_seen p [])) (sym (no_id (value_at p seen) (blank p))) tt,
        subst (λ o. StaysKnown o (attrs_seen p [])) (sym (no_attrs (value_at p seen) (blank p))) tt,
      )

blank_put : (p q : List ℕ) (seen : Seen) → IsBlankAt p seen → IsBlankAt p (put q (record { physical = None; attrs = None }) seen)
blank_put p q seen e = ap seen_as (value_put p q (record { physical = None; attrs = None }) seen) ∙ by (bytes_eq p q)
  where
    by : (b : Bool) → seen_as (cond b (Some (record { physical = None; attrs = None })) (value_at p seen)) ≡ seen_as None
    by true = refl
    by false = e

abbrev pub IsNew : RowsFound → Type 0
IsNew f = IsBlank f.seen × (f.clash ≡ [])

module _ (schemas : List Schema) (source : Source) (shape : Shape) where
  new_next : (f : RowsFound) (m : Member) → IsNew f → IsNew (found_next schemas [] source shape f m)
  new_next f m new = by (props_at source shape f.seen m.path)
    where
      by : (o : Option Evaluated) → IsNew (option_map_or (λ v. found_with schemas [] f (wanted_of (m, v))) o f)
      by None = new
      by (Some v) = (λ p. blank_put p m.path f.seen (new.0 p), new.1)

  new_among : (ms : List Member) (f : RowsFound) → IsNew f → IsNew (fold (found_next schemas [] source shape) f ms)
  new_among [] f new = new
  new_among (m ∷ ms) f new = new_among ms (found_next schemas [] source shape f m) (new_next f m new)

-- over nothing that is held, nothing is known of what is found
pub new_found : (schemas : List Schema) (source : Source) → IsNew (found_of schemas [] source)
new_found schemas source =
    new_among schemas source (shape_of source []) (resources_in (shape_of source [])) (record { rows = []; seen = []; clash = [] }) (λ p. refl, refl)
