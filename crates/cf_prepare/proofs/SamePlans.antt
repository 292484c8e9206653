-- Plans without a flaw pass the test exactly where they are the same: what a plan without a flaw wants is at fault nowhere.
use Rattle.std.proofs.Common.{◌≡◌, ℕ, ◌==◌, List, [], ◌∷◌, ◌++◌, Bool, true, false, ◌&&◌, Option, Some, None, map, flat_map, append_assoc, refl, sym, ap, subst, ◌∙◌, true≢false}
use Rattle.std.specs.Prelude.{◌↔◌, IsTrue}
use Rattle.std.specs.Cmp.{first_so, second_so, unsigned_Decides}
use Rattle.std.specs.Cmp.Derive.Mapped.{pointwise-map}
use Rattle.std.specs.Cmp.Lexicographic.{pointwise}
use Rattle.std.specs.List.{list_all}
use Rattle.std.specs.Option.{option_map_or, option_or}
use Rattle.std.specs.Str.{bytes_eq}
use Rattle.cf_tree.specs.Datum.{Data}
use Rattle.cf_tree.specs.Same.{same_data}
use Rattle.cf_tree.specs.declared.source.Source.{Source}
use Rattle.cf_tree.specs.declared.template.Deletion.{Deletion}
use Rattle.cf_tree.specs.declared.template.Deletion.TheVariants as deletion
use Rattle.cf_tree.specs.declared.template.Replace.{Replace}
use Rattle.cf_tree.specs.declared.template.Replace.TheVariants as replace
use Rattle.cf_eval.specs.Scope.{Scope}
use Rattle.cf_change.specs.Changes.{is_empty, same_deletion, same_replace}
use Rattle.cf_desired.specs.Props.{prop_of}
use Rattle.cf_desired.specs.declared.props.Prop.{Prop}
use Rattle.cf_desired.specs.declared.flaw.Flaw.{Flaw}
use Rattle.cf_desired.specs.declared.wanted.Evaluated.{Evaluated}
use Rattle.cf_desired.specs.declared.wanted.Evaluated.TheVariants.{Flawed as flawed, Known as evaluated}
use Rattle.cf_desired.specs.declared.wanted.Exporting.{Exporting}
use Rattle.cf_desired.specs.declared.wanted.Exporting.TheVariants as exporting
use Rattle.cf_desired.specs.declared.wanted.Inner.{Inner}
use Rattle.cf_desired.specs.declared.wanted.Plan.{Plan}
use Rattle.cf_desired.specs.declared.wanted.Wanted.{Wanted}
use Rattle.cf_desired.specs.declared.wanted.WantedOutput.{WantedOutput}
use Rattle.cf_prepare.specs.Same.{is_none, same_evaluated, same_export, same_exporting, same_inner, same_kept, same_option, same_output, same_plan, same_prop, same_wanted}
use Rattle.cf_prepare.proofs.SameRows.{option_itself, option_same, text_itself, text_same}
use Rattle.cf_tree.specs.SameLaws.{same_decides}
use Rattle.cf_desired.specs.Given.{Given, given_in, settings_for}
use Rattle.cf_desired.specs.Met.{Met, a_flaw, an_output, bind_flaw, bind_flaw_in, flaw_inside, flaw_met, flaws_of, met_along, met_inside, met_in, offers_flaw, outputs_met, outputs_wanted, scope_after}
use Rattle.cf_desired.specs.Plan.{inner_of, outputs_in, plan_by, plan_of, wanted_of}
use Rattle.cf_desired.specs.Seeing.{Seen, first_sights, nested_sight, outputs_inside, own_ids}
use Rattle.cf_desired.specs.Shape.{given_root, shape_of}
use Rattle.cf_desired.specs.Stack.{Sights, Scoping, scoping}
use Rattle.cf_desired.specs.Valued.{member_props, valued_along, valued_inside, valued_in}
use Rattle.cf_desired.specs.Work.{Member, Nesting, Work, Inside, Body, Shape, no_work, resource, nested, shut, barred, halted, opened}
use Rattle.cf_desired.specs.Work as inside
use Rattle.cf_desired.proofs.Flawless.{HasNone, none_in}

both : {a b : Bool} → a ≡ true → b ≡ true → (a && b) ≡ true
both p q = λ i. p i && q i

-- lists that pass, where all members that pass are the same; and that pass against themselves
points_same : {A : Type 0} (test : A → A → Bool) → ((a b : A) → test a b ≡ true → a ≡ b) → (xs ys : List A) → pointwise test xs ys ≡ true → xs ≡ ys
points_same test same [] [] h = refl
points_same test same [] (y ∷ ys) h = absurd (true≢false (sym h))
points_same test same (x ∷ xs) [] h = absurd (true≢false (sym h))
points_same test same (x ∷ xs) (y ∷ ys) h =
    λ i. same x y (first_so (test x y) (pointwise test xs ys) h) i ∷ points_same test same xs ys (second_so (test x y) (pointwise test xs ys) h) i

points_itself : {A : Type 0} (test : A → A → Bool) (good : A → Bool) → ((a : A) → good a ≡ true → test a a ≡ true) → (xs : List A) → list_all good xs ≡ true → pointwise test xs xs ≡ true
points_itself test good itself [] h = refl
points_itself test good itself (x ∷ xs) h =
    both (itself x (first_so (good x) (list_all good xs) h)) (points_itself test good itself xs (second_so (good x) (list_all good xs) h))

texts_same : (xs ys : List (List ℕ)) → pointwise bytes_eq xs ys ≡ true → xs ≡ ys
texts_same xs ys h = points_same bytes_eq text_same xs ys h

texts_itself : (xs : List (List ℕ)) → pointwise bytes_eq xs xs ≡ true
texts_itself [] = refl
texts_itself (x ∷ xs) = both (text_itself x) (texts_itself xs)

-- the parts
data_same : (a b : Data) → same_data a b ≡ true → a ≡ b
data_same a b h = (same_decides a b).0 h

data_itself : (a : Data) → same_data a a ≡ true
data_itself a = (same_decides a a).1 refl

prop_same : (a b : List ℕ × Option Data) → same_prop a b ≡ true → a ≡ b
prop_same a b h =
    let name = text_same a.0 b.0 (first_so _ _ h) in
    let value = option_same same_data data_same a.1 b.1 (second_so (bytes_eq a.0 b.0) _ h) in
    λ i. (name i, value i)

props_itself : (ps : List (List ℕ × Option Data)) → pointwise same_prop ps ps ≡ true
props_itself [] = refl
props_itself (p ∷ ps) = both (both (text_itself p.0) (option_itself same_data data_itself p.1)) (props_itself ps)

abbrev is_known : Evaluated → Bool
is_known (flawed f) = false
is_known (evaluated ps) = true

evaluated_same : (a b : Evaluated) → same_evaluated a b ≡ true → a ≡ b
evaluated_same (evaluated ps) (evaluated qs) h = ap (λ rs. evaluated rs) (points_same same_prop prop_same ps qs h)
evaluated_same (evaluated ps) (flawed f) h = absurd (true≢false (sym h))
evaluated_same (flawed f) b h = absurd (true≢false (sym h))

pub evaluated_by : (a b : Evaluated) (ps qs : List (List ℕ × Option Data)) (xs ys : List Prop) (r : Bool) → a ≡ evaluated ps → b ≡ evaluated qs
    → map prop_of xs ≡ ps → map prop_of ys ≡ qs → r ≡ pointwise same_kept xs ys → r ≡ same_evaluated a b
evaluated_by a b ps qs xs ys r d e f g h =
    h ∙ sym (pointwise-map prop_of same_prop xs ys) ∙ (λ i. pointwise same_prop (f i) (g i)) ∙ ap (λ (v : Evaluated). same_evaluated v (evaluated qs)) (sym d) ∙ ap (same_evaluated a) (sym e)

evaluated_itself : (a : Evaluated) → is_known a ≡ true → same_evaluated a a ≡ true
evaluated_itself (evaluated ps) h = props_itself ps
evaluated_itself (flawed f) h = h

deletion_same : (a b : Deletion) → same_deletion a b ≡ true → a ≡ b
deletion_same deletion.Delete deletion.Delete h = refl
deletion_same deletion.Retain deletion.Retain h = refl
deletion_same deletion.RetainExceptOnCreate deletion.RetainExceptOnCreate h = refl
deletion_same _ _ h = absurd (true≢false (sym h))

deletion_itself : (a : Deletion) → same_deletion a a ≡ true
deletion_itself deletion.Delete = refl
deletion_itself deletion.Retain = refl
deletion_itself deletion.RetainExceptOnCreate = refl

replace_same : (a b : Replace) → same_replace a b ≡ true → a ≡ b
replace_same replace.Delete replace.Delete h = refl
replace_same replace.Retain replace.Retain h = refl
replace_same _ _ h = absurd (true≢false (sym h))

replace_itself : (a : Replace) → same_replace a a ≡ true
replace_itself replace.Delete = refl
replace_itself replace.Retain = refl

wanted_same : (a b : Wanted) → same_wanted a b ≡ true → a ≡ b
wanted_same a b h =
    let second = second_so (bytes_eq a.path b.path) _ h in
    let third = second_so (bytes_eq a.kind b.kind) _ second in
    let fourth = second_so (same_deletion a.deletion b.deletion) _ third in
    let fifth = second_so (same_replace a.replace b.replace) _ fourth in
    let path = text_same a.path b.path (first_so _ _ h) in
    let kind = text_same a.kind b.kind (first_so _ _ second) in
    let deletion = deletion_same a.deletion b.deletion (first_so _ _ third) in
    let replace = replace_same a.replace b.replace (first_so _ _ fourth) in
    let needs = texts_same a.needs b.needs (first_so _ _ fifth) in
    let props = evaluated_same a.props b.props (second_so (pointwise bytes_eq a.needs b.needs) _ fifth) in
    λ i. record { path = path i; kind = kind i; deletion = deletion i; replace = replace i; needs = needs i; props = props i }

abbrev is_wanted_known : Wanted → Bool
is_wanted_known w = is_known w.props

wanted_itself : (a : Wanted) → is_wanted_known a ≡ true → same_wanted a a ≡ true
wanted_itself a h =
    both (text_itself a.path) (both (text_itself a.kind) (both (deletion_itself a.deletion) (both (replace_itself a.replace)
    (both (texts_itself a.needs) (evaluated_itself a.props h)))))

none_same : (a b : Option Flaw) → (is_none a && is_none b) ≡ true → a ≡ b
none_same None None h = refl
none_same None (Some f) h = absurd (true≢false (sym h))
none_same (Some f) b h = absurd (true≢false (sym h))

exporting_same : (a b : Exporting) → same_exporting a b ≡ true → a ≡ b
exporting_same exporting.Nothing exporting.Nothing h = refl
exporting_same exporting.Fault exporting.Fault h = refl
exporting_same (exporting.Named a) (exporting.Named b) h = ap (λ n. exporting.Named n) (text_same a b h)
exporting_same _ _ h = absurd (true≢false (sym h))

exporting_itself : (a : Exporting) → same_exporting a a ≡ true
exporting_itself exporting.Nothing = refl
exporting_itself exporting.Fault = refl
exporting_itself (exporting.Named a) = text_itself a

output_same : (a b : WantedOutput) → same_output a b ≡ true → a ≡ b
output_same a b h =
    let second = second_so (bytes_eq a.name b.name) _ h in
    let third = second_so (same_option bytes_eq a.value b.value) _ second in
    let name = text_same a.name b.name (first_so _ _ h) in
    let value = option_same bytes_eq text_same a.value b.value (first_so _ _ second) in
    let export = exporting_same a.export b.export (first_so _ _ third) in
    let fault = none_same a.fault b.fault (second_so (same_exporting a.export b.export) _ third) in
    λ i. record { name = name i; value = value i; export = export i; fault = fault i }

abbrev is_sound_output : WantedOutput → Bool
is_sound_output o = is_none o.fault

output_itself : (a : WantedOutput) → is_sound_output a ≡ true → same_output a a ≡ true
output_itself a h =
    both (text_itself a.name) (both (option_itself bytes_eq text_itself a.value) (both (exporting_itself a.export) (both h h)))

inner_same : (a b : Inner) → same_inner a b ≡ true → a ≡ b
inner_same a b h =
    let second = second_so (bytes_eq a.path b.path) _ h in
    let path = text_same a.path b.path (first_so _ _ h) in
    let needs = texts_same a.needs b.needs (first_so _ _ second) in
    let fault = none_same a.fault b.fault (second_so (pointwise bytes_eq a.needs b.needs) _ second) in
    λ i. record { path = path i; needs = needs i; fault = fault i }

abbrev is_sound_inner : Inner → Bool
is_sound_inner n = is_none n.fault

inner_itself : (a : Inner) → is_sound_inner a ≡ true → same_inner a a ≡ true
inner_itself a h = both (text_itself a.path) (both (texts_itself a.needs) (both h h))

export_same : (a b : List ℕ × Option (List ℕ)) → same_export a b ≡ true → a ≡ b
export_same a b h =
    let name = text_same a.0 b.0 (first_so _ _ h) in
    let value = option_same bytes_eq text_same a.1 b.1 (second_so (bytes_eq a.0 b.0) _ h) in
    λ i. (name i, value i)

exports_itself : (es : List (List ℕ × Option (List ℕ))) → pointwise same_export es es ≡ true
exports_itself [] = refl
exports_itself (e ∷ es) = both (both (text_itself e.0) (option_itself bytes_eq text_itself e.1)) (exports_itself es)

empty_same : (a b : List Flaw) → (is_empty a && is_empty b) ≡ true → a ≡ b
empty_same [] [] h = refl
empty_same [] (f ∷ fs) h = absurd (true≢false (sym h))
empty_same (f ∷ fs) b h = absurd (true≢false (sym h))

plan_same : (a b : Plan) → same_plan a b ≡ true → a ≡ b
plan_same a b h =
    let second = second_so (is_empty a.flaws && is_empty b.flaws) _ h in
    let third = second_so (pointwise same_wanted a.wanted b.wanted) _ second in
    let fourth = second_so (pointwise same_output a.outputs b.outputs) _ third in
    let fifth = second_so (pointwise same_inner a.nested b.nested) _ fourth in
    let sixth = second_so (pointwise bytes_eq a.unmade b.unmade) _ fifth in
    let seventh = second_so (pointwise same_export a.exports b.exports) _ sixth in
    let flaws = empty_same a.flaws b.flaws (first_so _ _ h) in
    let wanted = points_same same_wanted wanted_same a.wanted b.wanted (first_so _ _ second) in
    let outputs = points_same same_output output_same a.outputs b.outputs (first_so _ _ third) in
    let nested = points_same same_inner inner_same a.nested b.nested (first_so _ _ fourth) in
    let unmade = texts_same a.unmade b.unmade (first_so _ _ fifth) in
    let exports = points_same same_export export_same a.exports b.exports (first_so _ _ sixth) in
    let templates = (unsigned_Decides a.templates b.templates).0 (first_so _ _ seventh) in
    let members = (unsigned_Decides a.members b.members).0 (second_so (a.templates == b.templates) _ seventh) in
    λ i. record { wanted = wanted i; outputs = outputs i; nested = nested i; unmade = unmade i; exports = exports i; flaws = flaws i; templates = templates i; members = members i }

-- what of a plan is sound
pub record IsSound (p : Plan) : Type 0 where
  pub flaws : p.flaws ≡ []
  pub wanted : list_all is_wanted_known p.wanted ≡ true
  pub outputs : list_all is_sound_output p.outputs ≡ true
  pub nested : list_all is_sound_inner p.nested ≡ true

plan_itself : (p : Plan) → IsSound p → same_plan p p ≡ true
plan_itself p s =
    let empty : is_empty p.flaws ≡ true = ap is_empty s.flaws in
    both (both empty empty) (both (points_itself same_wanted is_wanted_known wanted_itself p.wanted s.wanted)
    (both (points_itself same_output is_sound_output output_itself p.outputs s.outputs)
    (both (points_itself same_inner is_sound_inner inner_itself p.nested s.nested)
    (both (texts_itself p.unmade) (both (exports_itself p.exports)
    (both ((unsigned_Decides p.templates p.templates).1 refl) ((unsigned_Decides p.members p.members).1 refl)))))))

-- A plan without a flaw is sound in all its parts.
all_both : {A : Type 0} (test : A → Bool) (xs ys : List A) → list_all test xs ≡ true → list_all test ys ≡ true → list_all test (xs ++ ys) ≡ true
all_both test [] ys h g = g
all_both test (x ∷ xs) ys h g = both (first_so (test x) (list_all test xs) h) (all_both test xs ys (second_so (test x) (list_all test xs) h) g)

abbrev is_valued : Member × Evaluated → Bool
is_valued r = is_known r.1

wanted_valued : (rs : List (Member × Evaluated)) → list_all is_valued rs ≡ true → list_all is_wanted_known (map wanted_of rs) ≡ true
wanted_valued [] h = refl
wanted_valued (r ∷ rs) h = both (first_so (is_valued r) (list_all is_valued rs) h) (wanted_valued rs (second_so (is_valued r) (list_all is_valued rs) h))

known_so : (e : Evaluated) → HasNone (map (λ f. a_flaw f) (flaws_of e)) → is_known e ≡ true
known_so (evaluated ps) h = refl
known_so (flawed f) h = let no : ⊥ = cc in absurd no

no_flaw : (o : Option Flaw) → HasNone (flaw_met o) → o ≡ None
no_flaw None h = refl
no_flaw (Some f) h = let no : ⊥ = cc in absurd no

one_flaw : {A : Type 0} (f : Flaw) → HasNone (a_flaw f ∷ []) → A
one_flaw f h = let no : ⊥ = cc in absurd no

abbrev inners_in : List Met → List Inner
inners_in ms = flat_map inner_of ms

inners_both : (xs ys : List Met) → inners_in (xs ++ ys) ≡ inners_in xs ++ inners_in ys
inners_both [] ys = refl
inners_both (x ∷ xs) ys = ap (λ ns. inner_of x ++ ns) (inners_both xs ys) ∙ sym (append_assoc (inner_of x) (inners_in xs) (inners_in ys))

abbrev AreSound : List Met → Type 0
AreSound ms = list_all is_sound_inner (inners_in ms) ≡ true

sound_both : (xs ys : List Met) → AreSound xs → AreSound ys → AreSound (xs ++ ys)
sound_both xs ys h g = ap (list_all is_sound_inner) (inners_both xs ys) ∙ all_both is_sound_inner (inners_in xs) (inners_in ys) h g

sound_flaws : (fs : List Flaw) → AreSound (map (λ f. a_flaw f) fs)
sound_flaws [] = refl
sound_flaws (f ∷ fs) = sound_flaws fs

sound_flaw : (o : Option Flaw) → AreSound (flaw_met o)
sound_flaw None = refl
sound_flaw (Some f) = refl

sound_outputs : (os : List WantedOutput) → AreSound (map (λ o. an_output o) os)
sound_outputs [] = refl
sound_outputs (o ∷ os) = sound_outputs os

outputs_sound : (os : List WantedOutput) → HasNone (map (λ o. an_output o) os) → list_all is_sound_output os ≡ true
outputs_sound [] h = refl
outputs_sound (o ∷ os) h = by o.fault refl (outputs_sound os) where
  by : (f : Option Flaw) → o.fault ≡ f → (HasNone (map (λ p. an_output p) os) → list_all is_sound_output os ≡ true) → (is_none o.fault && list_all is_sound_output os) ≡ true
  by None e ih =
      both (ap is_none e) (ih (none_in (an_output o ∷ []) (map (λ p. an_output p) os) h).1)
  by (Some f) e ih =
      let head : HasNone (an_output o ∷ []) = (none_in (an_output o ∷ []) (map (λ p. an_output p) os) h).0 in
      absurd (has_one f (subst (λ (x : Option Flaw). option_map_or (λ g. g ∷ []) x [] ++ [] ≡ []) e head)) where
        has_one : (g : Flaw) → (g ∷ []) ++ [] ≡ [] → ⊥
        has_one g k = cc

or_none : {A : Type 0} (a b : Option A) → a ≡ None → b ≡ None → option_or a b ≡ None
or_none a b h g = ap (λ o. option_or o b) h ∙ g

module _ (source : Source) (seen : Seen) where
  mutual
    known_along : (path : List ℕ) (over : Scoping) (m : Sights) (w : Work) → HasNone (met_along source seen path over m w) → list_all is_valued (valued_along source seen path over m w) ≡ true
    known_along path over m no_work h = refl
    known_along path over m (resource r w) h =
        let parts = none_in (map (λ f. a_flaw f) (flaws_of (member_props path (over m) r))) (met_along source seen path over m w) h in
        both (known_so (member_props path (over m) r) parts.0) (known_along path over m w parts.1)
    known_along path over m (nested n i w) h =
        let parts = none_in (met_inside source seen path (over m) i) (met_along source seen path over (nested_sight source n (outputs_inside source seen (over m) i) m) w) h in
        all_both is_valued (valued_inside source seen (over m) i) (valued_along source seen path over (nested_sight source n (outputs_inside source seen (over m) i) m) w)
        (known_inside path (over m) i parts.0) (known_along path over (nested_sight source n (outputs_inside source seen (over m) i) m) w parts.1)

    known_inside : (path : List ℕ) (s : Scope) (i : Inside) → HasNone (met_inside source seen path s i) → list_all is_valued (valued_inside source seen s i) ≡ true
    known_inside path s (shut f) h = refl
    known_inside path s (inside.given_by form b) h = known_in (given_in s form) b (none_in (flaw_met (offers_flaw path s form)) (met_in source seen (given_in s form) b) h).1

    known_in : (g : Given) (b : Body) → HasNone (met_in source seen g b) → list_all is_valued (valued_in source seen g b) ≡ true
    known_in g (barred f) h = refl
    known_in g (halted t f) h = refl
    known_in g (opened t conds w) h =
        known_along t.path (scoping source t conds (settings_for t.template.params g)) (first_sights t conds seen (own_ids w)) w
        (none_in (met_along source seen t.path (scoping source t conds (settings_for t.template.params g)) (first_sights t conds seen (own_ids w)) w)
        (outputs_met t conds (scope_after source seen g t conds w)) (none_in (flaw_met (bind_flaw t g)) _ h).1).0

  -- the parameters of what was entered can be bound
  bound_in : (g : Given) (b : Body) → HasNone (met_in source seen g b) → bind_flaw_in g b ≡ None
  bound_in g (barred f) h = refl
  bound_in g (halted t f) h = no_flaw (bind_flaw t g) (none_in (flaw_met (bind_flaw t g)) (a_flaw f ∷ []) h).0
  bound_in g (opened t conds w) h = no_flaw (bind_flaw t g) (none_in (flaw_met (bind_flaw t g)) _ h).0

  bound_inside : (path : List ℕ) (s : Scope) (i : Inside) → HasNone (met_inside source seen path s i) → flaw_inside path s i ≡ None
  bound_inside path s (shut f) h = refl
  bound_inside path s (inside.given_by form b) h =
      let parts = none_in (flaw_met (offers_flaw path s form)) (met_in source seen (given_in s form) b) h in
      or_none (offers_flaw path s form) (bind_flaw_in (given_in s form) b) (no_flaw (offers_flaw path s form) parts.0) (bound_in (given_in s form) b parts.1)

  mutual
    sound_along : (path : List ℕ) (over : Scoping) (m : Sights) (w : Work) → HasNone (met_along source seen path over m w) → AreSound (met_along source seen path over m w)
    sound_along path over m no_work h = refl
    sound_along path over m (resource r w) h =
        sound_both (map (λ f. a_flaw f) (flaws_of (member_props path (over m) r))) (met_along source seen path over m w)
        (sound_flaws (flaws_of (member_props path (over m) r)))
        (sound_along path over m w (none_in (map (λ f. a_flaw f) (flaws_of (member_props path (over m) r))) (met_along source seen path over m w) h).1)
    sound_along path over m (nested n i w) h =
        let parts = none_in (met_inside source seen path (over m) i) (met_along source seen path over (nested_sight source n (outputs_inside source seen (over m) i) m) w) h in
        both (ap is_none (bound_inside path (over m) i parts.0))
        (sound_both (met_inside source seen path (over m) i) (met_along source seen path over (nested_sight source n (outputs_inside source seen (over m) i) m) w)
        (sound_inside path (over m) i parts.0) (sound_along path over (nested_sight source n (outputs_inside source seen (over m) i) m) w parts.1))

    sound_inside : (path : List ℕ) (s : Scope) (i : Inside) → HasNone (met_inside source seen path s i) → AreSound (met_inside source seen path s i)
    sound_inside path s (shut f) h = refl
    sound_inside path s (inside.given_by form b) h =
        sound_both (flaw_met (offers_flaw path s form)) (met_in source seen (given_in s form) b) (sound_flaw (offers_flaw path s form))
        (sound_in (given_in s form) b (none_in (flaw_met (offers_flaw path s form)) (met_in source seen (given_in s form) b) h).1)

    sound_in : (g : Given) (b : Body) → HasNone (met_in source seen g b) → AreSound (met_in source seen g b)
    sound_in g (barred f) h = refl
    sound_in g (halted t f) h = sound_both (flaw_met (bind_flaw t g)) (a_flaw f ∷ []) (sound_flaw (bind_flaw t g)) refl
    sound_in g (opened t conds w) h =
        let rest = none_in (met_along source seen t.path (scoping source t conds (settings_for t.template.params g)) (first_sights t conds seen (own_ids w)) w)
        (outputs_met t conds (scope_after source seen g t conds w)) (none_in (flaw_met (bind_flaw t g)) _ h).1 in
        sound_both (flaw_met (bind_flaw t g)) _ (sound_flaw (bind_flaw t g))
        (sound_both (met_along source seen t.path (scoping source t conds (settings_for t.template.params g)) (first_sights t conds seen (own_ids w)) w)
        (outputs_met t conds (scope_after source seen g t conds w))
        (sound_along t.path (scoping source t conds (settings_for t.template.params g)) (first_sights t conds seen (own_ids w)) w rest.0)
        (sound_outputs (outputs_wanted t conds (scope_after source seen g t conds w))))

  sound_roots : (g : Given) (b : Body) → HasNone (met_in source seen g b) → list_all is_sound_output (outputs_in source seen g b) ≡ true
  sound_roots g (barred f) h = refl
  sound_roots g (halted t f) h = refl
  sound_roots g (opened t conds w) h =
      outputs_sound (outputs_wanted t conds (scope_after source seen g t conds w))
      (none_in (met_along source seen t.path (scoping source t conds (settings_for t.template.params g)) (first_sights t conds seen (own_ids w)) w)
      (outputs_met t conds (scope_after source seen g t conds w)) (none_in (flaw_met (bind_flaw t g)) _ h).1).1

  flawless_sound : (shape : Shape) → (plan_by source shape seen).flaws ≡ [] → IsSound (plan_by source shape seen)
  flawless_sound shape h = record {
    flaws = h;
    wanted = wanted_valued (valued_in source seen (given_root source) shape) (known_in (given_root source) shape h);
    outputs = sound_roots (given_root source) shape h;
    nested = sound_in (given_root source) shape h;
  }

-- a plan passes against one without a flaw exactly where they are the same
pub plans_decide : (source : Source) (seen : Seen) (p : Plan) (r : Bool) → p.flaws ≡ [] → r ≡ same_plan (plan_of source seen) p → IsTrue r ↔ (plan_of source seen ≡ p)
plans_decide source seen p r none e = (
  λ h. plan_same (plan_of source seen) p (sym e ∙ h),
  λ same. e ∙ ap (same_plan (plan_of source seen)) (sym same) ∙ plan_itself (plan_of source seen) (flawless_sound source seen (shape_of source seen) (ap (λ (q : Plan). q.flaws) same ∙ none)),
)
