-- Properties over what is seen: seeing more keeps those that were known, they stand in the order of their names, and those of which a
-- change set has no detail are the same.
use Rattle.std.proofs.Common.{◌≡◌, ◌∙◌, ℕ, List, ◌∷◌, ◌++◌, Bool, true, false, Option, Some, None, find, map, refl, sym, ap, subst, inl, inr, ◌+◌, ◌⊎◌, not, ◌||◌, true≢false, [], Ok, Err}
use Rattle.cf_desired.specs.Work.{Body, Inside, Member, Shape, Work, barred, halted, nested, no_work, resource, shut, opened}
use Rattle.cf_tree.specs.declared.row.Detail.{Detail}
use Rattle.cf_schema.specs.declared.changed.Difference.{Difference}
use Rattle.cf_desired.specs.Shape.{given_root}
use Rattle.cf_desired.specs.declared.wanted.Evaluated.{Evaluated}
use Rattle.cf_desired.specs.declared.flaw.Flaw.{Flaw}
use Rattle.cf_desired.specs.declared.wanted.Evaluated.TheVariants.{Flawed as flawed, Known as evaluated}
use Rattle.std.specs.Prelude.{⊤, cond, option_map}
use Rattle.cf_tree.specs.Lists.{In}
use Rattle.cf_eval.specs.Knows.{KnowsMore}
use Rattle.cf_schema.specs.declared.changed.Difference.TheVariants.{MayReplace, Replace, Same, Update}
use Rattle.cf_schema.specs.declared.described.Schema.{Schema}
use Rattle.cf_desired.specs.Seeing.{Seen, first_sights, nested_sight, outputs_inside, own_ids}
use Rattle.cf_desired.specs.Stays.{SeesMore}
use Rattle.cf_tree.specs.declared.source.Source.{Source}
use Rattle.cf_desired.specs.Met.{a_flaw, bind_flaw, flaw_met, flaws_of, met_along, met_in, met_inside, offers_flaw, outputs_met, scope_after}
use Rattle.cf_schema.specs.Change.{any_differs, difference_of, differs_at, value_differs}
use Rattle.cf_tree.specs.Keys.{ascends, ascends_from, bytes_lt, value_at}
use Rattle.cf_desired.specs.Plan.{at_path, plan_by}
use Rattle.std.specs.Str.{bytes_eq}
use Rattle.cf_change.specs.Changes.{evaluation_of, is_never, is_property, names_on_either as names_held, property_detail, property_details, recreation_by, recreation_of, static_if}
use Rattle.std.specs.Cmp.{first_so, second_so}
use Rattle.cf_tree.specs.Lists.{is_among}
use Rattle.cf_desired.specs.Whole.{known_of, known_props_from}
use Rattle.std.specs.List.{list_any}
use Rattle.cf_tree.specs.Datum.{members_of}
use Rattle.std.specs.Option.{option_map_or}
use Rattle.cf_desired.specs.Valued.{unless_flaw, valued_along, valued_in, valued_inside, member_props}
use Rattle.cf_tree.specs.Same.{same_data, same_members}
use Rattle.cf_tree.specs.SameLaws.{same_decides}
use Rattle.cf_desired.proofs.Termed.{Valued}
use Rattle.std.proofs.lemmas.Bool.{and_from}
use Rattle.cf_plan.proofs.Members.{any_flat, any_in}
use Rattle.cf_tree.proofs.Order.{ascends_map}
use Rattle.std.proofs.lemmas.Slice.Eq.{bytes_eq-Decides}
use Rattle.cf_plan.proofs.CreatedRight.{first_not, none_of}
use Rattle.cf_plan.proofs.RunLists.{none_any, none_false, some_of}
use Rattle.cf_entry.proofs.Codec.{some_is}
use Rattle.cf_stacks.proofs.Worlds.{tail_ascends}
use Rattle.cf_tree.proofs.Lookups.{value_below}
use Rattle.std.specs.Ordering.{is_lt, nat_cmp, ordering_reverse}
use Rattle.std.specs.Cmp.Lexicographic.{nat_list_cmp_total, slice_cmp, texts_ties}
use Rattle.std.specs.declared.cmp.Ordering.{Ordering}
use Rattle.std.specs.declared.cmp.Ordering.TheVariants.{Less, Equal, Greater}
use Rattle.cf_tree.specs.Forms.{Form}
use Rattle.cf_tree.specs.declared.row.Evaluation.{Evaluation}
use Rattle.cf_eval.specs.Outcome.{got, later, bad}
use Rattle.cf_eval.specs.Scope.{Scope}
use Rattle.cf_eval.specs.Texts.{Found}
use Rattle.cf_eval.proofs.Knowing.{Stands, value_stands}
use Rattle.cf_desired.specs.Given.{Given, given_in, settings_for}
use Rattle.cf_desired.specs.Stack.{Scoping, Sights, Stack, Verdicts, evaluated_in, flaw_at, scoping}
use Rattle.cf_eval.specs.Value.{PropsFound, props_of, value_of, with_prop}
use Rattle.cf_desired.proofs.Flawless.{HasNone, none_in}
use Rattle.cf_desired.proofs.Keeping.{GivenKeeps, KeepsSights, first_keep, given_keeps, given_self, inside_keeps, names_keep, over, put_keeps, scope_knows}
use Rattle.cf_desired.proofs.OrderNeeds.{among_order, among_first, among_second}
use Rattle.cf_schema.proofs.Equal.{equal_same}
use Rattle.cf_plan.proofs.ChangedLists.{either_way}
use Rattle.cf_desired.proofs.Kept.{past}
use Rattle.cf_tree.specs.Datum as tree
use Rattle.cf_tree.specs.declared.row.Attribute.TheVariants as attribute
use Rattle.cf_tree.specs.declared.row.Evaluation.TheVariants as evaluation
use Rattle.cf_tree.specs.declared.row.Recreation.TheVariants as recreation
use Rattle.cf_desired.specs.Work as inside

-- Seeing more keeps each property that was known, and adds none of another name.

abbrev pub Props : Type 0
Props = List (List ℕ × Option tree.Data)

-- one of a list that is changed
pub find_on : {A B : Type 0} (f : A → B) (test : B → Bool) (xs : List A) → find test (map f xs) ≡ option_map f (find (λ x. test (f x)) xs)
find_on f test [] = refl
find_on {A} {B} f test (x ∷ xs) = either (test (f x)) (find_on f test xs) where
  either : (b : Bool) → find test (map f xs) ≡ option_map f (find (λ y. test (f y)) xs)
      → cond b (Some (f x)) (find test (map f xs)) ≡ option_map f (cond b (Some x) (find (λ y. test (f y)) xs))
  either true ih = refl
  either false ih = ih

pub unmapped : {A B : Type 0} (f : A → B) (o : Option A) (b : B) → option_map f o ≡ Some b → (a : A) × (o ≡ Some a) × (f a ≡ b)
unmapped f None b e = let no : ⊥ = cc in absurd no
unmapped f (Some a) b e = (a, refl, some_is (f a) b e)

pub known_is : (v : Evaluated) (ps : List (List ℕ × tree.Data)) → known_of v ≡ Some ps → (ys : Props) × (v ≡ evaluated ys) × (known_props_from ys ≡ Some ps)
known_is (evaluated ys) ps h = (ys, refl, h)
known_is (flawed f) ps h = let no : ⊥ = cc in absurd no

-- what was known stays, and what was not may be known, not known, or left out
pub data Becomes : Props → Props → Type 0 where
  no_props : Becomes [] []
  stays_known : {name : List ℕ} {d : tree.Data} {xs ys : Props} → Becomes xs ys → Becomes ((name, Some d) ∷ xs) ((name, Some d) ∷ ys)
  left_out : {name : List ℕ} {xs ys : Props} → Becomes xs ys → Becomes ((name, None) ∷ xs) ys
  is_told : {name : List ℕ} {o : Option tree.Data} {xs ys : Props} → Becomes xs ys → Becomes ((name, None) ∷ xs) ((name, o) ∷ ys)

abbrev pub PropsBecome : Evaluated → Evaluated → Type 0
PropsBecome (evaluated xs) (evaluated ys) = Becomes xs ys
PropsBecome _ _ = ⊤

to_flaw : (r : Evaluated) (f : Flaw) → PropsBecome r (flawed f)
to_flaw (evaluated xs) f = tt
to_flaw (flawed g) f = tt

one_becomes : (path name : List ℕ) (x y : Found) (r u : PropsFound) → Stands false x y → PropsBecome (evaluated_in path r) (evaluated_in path u) → PropsBecome (evaluated_in path (with_prop name x r)) (evaluated_in path (with_prop name y u))
one_becomes path name (got None) y (Ok xs) (Ok ys) g h = subst (λ z. PropsBecome (evaluated xs) (evaluated_in path (with_prop name z (Ok ys)))) (sym g) h
one_becomes path name (got (Some d)) y (Ok xs) (Ok ys) g h = subst (λ z. PropsBecome (evaluated ((name, Some d) ∷ xs)) (evaluated_in path (with_prop name z (Ok ys)))) (sym g) (stays_known h)
one_becomes path name (got o) y (Ok xs) (Err w) g h =
    subst (λ z. PropsBecome (evaluated_in path (with_prop name (got o) (Ok xs))) (evaluated_in path (with_prop name z (Err w)))) (sym g) (to_flaw (evaluated_in path (with_prop name (got o) (Ok xs))) (flaw_at path w))
one_becomes path name later (got None) (Ok xs) (Ok ys) g h = left_out h
one_becomes path name later (got (Some d)) (Ok xs) (Ok ys) g h = is_told h
one_becomes path name later later (Ok xs) (Ok ys) g h = is_told h
one_becomes path name later (bad w) r u g h = to_flaw (evaluated_in path (with_prop name later r)) _
one_becomes path name x y r u g h = tt

unless_becomes : (f : Option Flaw) (v w : Evaluated) → PropsBecome v w → PropsBecome (unless_flaw f v) (unless_flaw f w)
unless_becomes None v w h = h
unless_becomes (Some f) v w h = tt

module _ (s t : Scope) (k : KnowsMore s t) (path : List ℕ) where
  props_become : (ps : List (List ℕ × Form)) → PropsBecome (evaluated_in path (props_of s ps)) (evaluated_in path (props_of t ps))
  props_become [] = no_props
  props_become (p ∷ ps) = one_becomes path p.0 (value_of s p.1) (value_of t p.1) (props_of s ps) (props_of t ps) (value_stands s t k p.1) (props_become ps)

  member_becomes : (m : Member) → PropsBecome (member_props path s m) (member_props path t m)
  member_becomes m = unless_becomes m.unnamed (evaluated_in path (props_of s m.props)) (evaluated_in path (props_of t m.props)) (props_become m.props)

-- the properties of one resource, in a scope and in one that knows more
pub record IsValued (x y : Valued) : Type 0 where
  path : List ℕ
  member : Member
  scope : Scope
  further : Scope
  knows : KnowsMore scope further
  was : x ≡ (member, member_props path scope member)
  now : y ≡ (member, member_props path further member)

pub valued_become : (x y : Valued) → IsValued x y → PropsBecome x.1 y.1
valued_become x y v =
    subst (λ (u : Valued). PropsBecome u.1 y.1) (sym v.was) (subst (λ (u : Valued). PropsBecome (member_props v.path v.scope v.member) u.1) (sym v.now)
    (member_becomes v.scope v.further v.knows v.path v.member))

-- path by path
abbrev AllBecome : List Valued → List Valued → Type 0
AllBecome [] [] = ⊤
AllBecome (x ∷ xs) (y ∷ ys) = IsValued x y × AllBecome xs ys
AllBecome _ _ = ⊥

become_and : (xs ys vs ws : List Valued) → AllBecome xs ys → AllBecome vs ws → AllBecome (xs ++ vs) (ys ++ ws)
become_and [] [] vs ws h k = k
become_and [] (y ∷ ys) vs ws h k = absurd h
become_and (x ∷ xs) [] vs ws h k = absurd h
become_and (x ∷ xs) (y ∷ ys) vs ws h k = (h.0, become_and xs ys vs ws h.1 k)

module _ (source : Source) (a b : Seen) (more : SeesMore a b) where
  mutual
    along_become : (t : Stack) (conds : Verdicts) (g h : Given) → GivenKeeps g h → (m n : Sights) → KeepsSights m n → (w : Work)
        → AllBecome (valued_along source a t.path (over source a b more t conds g) m w) (valued_along source b t.path (over source a b more t conds h) n w)
    along_become t conds g h k m n s no_work = tt
    along_become t conds g h k m n s (resource r w) = (
      record {
        path = t.path;
        member = r;
        scope = over source a b more t conds g m;
        further = over source a b more t conds h n;
        knows = scope_knows source a b more t conds g h k m n s;
        was = refl;
        now = refl;
      },
      along_become t conds g h k m n s w,
    )
    along_become t conds g h k m n s (nested x i w) =
        let knows = scope_knows source a b more t conds g h k m n s in
        become_and _ _ _ _ (inside_become (over source a b more t conds g m) (over source a b more t conds h n) knows i)
        (along_become t conds g h k _ _ (put_keeps x.id _ _ m n (refl, names_keep _ _ (inside_keeps source a b more (over source a b more t conds g m) (over source a b more t conds h n) knows i)) s) w)

    inside_become : (s u : Scope) → KnowsMore s u → (i : Inside) → AllBecome (valued_inside source a s i) (valued_inside source b u i)
    inside_become s u k (shut f) = tt
    inside_become s u k (inside.given_by form x) = body_become (given_in s form) (given_in u form) (given_keeps s u k form) x

    body_become : (g h : Given) → GivenKeeps g h → (x : Body) → AllBecome (valued_in source a g x) (valued_in source b h x)
    body_become g h k (barred f) = tt
    body_become g h k (halted t f) = tt
    body_become g h k (opened t conds w) = along_become t conds g h k (first_sights t conds a (own_ids w)) (first_sights t conds b (own_ids w)) (first_keep source a b more t conds (own_ids w)) w

-- what a path had, by what it has
pub record Became (path : List ℕ) (xs : List Valued) (y : Valued) : Type 0 where
  pub one : Valued
  pub there : at_path path xs ≡ Some one
  pub valued : IsValued one y

became : (path : List ℕ) (xs ys : List Valued) (y : Valued) → AllBecome xs ys → at_path path ys ≡ Some y → Became path xs y
became path [] [] y h e = let no : ⊥ = cc in absurd no
became path [] (z ∷ ys) y h e = absurd h
became path (x ∷ xs) [] y h e = absurd h
became path (x ∷ xs) (z ∷ ys) y h e = by (bytes_eq path z.0.path) (ap (λ (v : Valued). bytes_eq path v.0.path) h.0.was ∙ sym (ap (λ (v : Valued). bytes_eq path v.0.path) h.0.now)) e
    (became path xs ys y h.1) where
      by : (t : Bool) → bytes_eq path x.0.path ≡ t → cond t (Some z) (at_path path ys) ≡ Some y → (at_path path ys ≡ Some y → Became path xs y) → Became path (x ∷ xs) y
      by true t g ih = record { one = x; there = ap (λ b. cond b (Some x) (at_path path xs)) t; valued = subst (IsValued x) (some_is z y g) h.0 }
      by false t g ih = let r = ih g in record { one = r.one; there = ap (λ b. cond b (Some x) (at_path path xs)) t ∙ r.there; valued = r.valued }

pub had_before : (source : Source) (shape : Shape) (a b : Seen) → SeesMore a b → (path : List ℕ) (y : Valued) → at_path path (valued_in source b (given_root source) shape) ≡ Some y
    → Became path (valued_in source a (given_root source) shape) y
had_before source shape a b more path y e =
    became path (valued_in source a (given_root source) shape) (valued_in source b (given_root source) shape) y
    (body_become source a b more (given_root source) (given_root source) (given_self (given_root source)) shape) e

-- the same of what is known at last
abbrev pub known_as : List ℕ × tree.Data → List ℕ × Option tree.Data
known_as p = (p.0, Some p.1)

pub known_are : (ys : Props) (ps : List (List ℕ × tree.Data)) → known_props_from ys ≡ Some ps → ys ≡ map known_as ps
known_are [] ps e = ap (map known_as) (some_is [] ps e)
known_are ((n, None) ∷ ys) ps e = let no : ⊥ = cc in absurd no
known_are ((n, Some d) ∷ ys) ps e =
    let rest = unmapped (λ rest. (n, d) ∷ rest) (known_props_from ys) ps e in ap (λ qs. (n, Some d) ∷ qs) (known_are ys rest.0 rest.1) ∙ ap (map known_as) rest.2

-- what was known under a name is known at last, and nothing comes under a name that there was not
pub record IsKnownAs (o : Option (Option tree.Data)) (p : Option tree.Data) : Type 0 where
  pub gone : o ≡ None → p ≡ None
  pub same : (d : tree.Data) → o ≡ Some (Some d) → p ≡ Some d

none_known : (p : Option tree.Data) → IsKnownAs (Some None) p
none_known p = record { gone = λ e. (let no : ⊥ = cc in absurd no); same = λ d e. (let no : ⊥ = cc in absurd no) }

one_known : (d : tree.Data) → IsKnownAs (Some (Some d)) (Some d)
one_known d = record { gone = λ e. (let no : ⊥ = cc in absurd no); same = λ c e. some_is (Some d) (Some c) e }

known_if : (b : Bool) (o u : Option (Option tree.Data)) (p v : Option tree.Data) → IsKnownAs o p → IsKnownAs u v → IsKnownAs (cond b o u) (cond b p v)
known_if true o u p v h k = h
known_if false o u p v h k = k

pub is_known_as : (xs ys : Props) (ps : List (List ℕ × tree.Data)) → Becomes xs ys → known_props_from ys ≡ Some ps → (name : List ℕ) → IsKnownAs (value_at name xs) (value_at name ps)
is_known_as [] [] ps no_props e name =
    subst (λ qs. IsKnownAs None (value_at name qs)) (some_is [] ps e) (record { gone = λ q. refl; same = λ d q. (let no : ⊥ = cc in absurd no) })
is_known_as [] (y ∷ ys) ps h e name = elim h [ ]
is_known_as (x ∷ xs) (y ∷ ys) ps (stays_known {name = n} {d = d} h) e name =
    let rest = unmapped (λ qs. (n, d) ∷ qs) (known_props_from ys) ps e in
    subst (λ qs. IsKnownAs (value_at name ((n, Some d) ∷ xs)) (value_at name qs)) rest.2
    (known_if (bytes_eq name n) (Some (Some d)) (value_at name xs) (Some d) (value_at name rest.0) (one_known d) (is_known_as xs ys rest.0 h rest.1 name))
is_known_as (x ∷ xs) ys ps (left_out {name = n} h) e name =
    either_way (λ o. IsKnownAs o (value_at name ps)) (bytes_eq name n) (Some None) (value_at name xs) (none_known (value_at name ps)) (is_known_as xs ys ps h e name)
is_known_as (x ∷ xs) ((n, None) ∷ ys) ps (is_told h) e name = let no : ⊥ = cc in absurd no
is_known_as (x ∷ xs) ((n, Some d) ∷ ys) ps (is_told h) e name =
    let rest = unmapped (λ qs. (n, d) ∷ qs) (known_props_from ys) ps e in
    subst (λ qs. IsKnownAs (value_at name ((n, None) ∷ xs)) (value_at name qs)) rest.2
    (known_if (bytes_eq name n) (Some None) (value_at name xs) (Some d) (value_at name rest.0) (none_known (Some d)) (is_known_as xs ys rest.0 h rest.1 name))

-- where a plan has no flaw, no properties are at fault
abbrev IsSound : List Valued → Type 0
IsSound [] = ⊤
IsSound (r ∷ rs) = (flaws_of r.1 ≡ []) × IsSound rs

sound_and : (xs ys : List Valued) → IsSound xs → IsSound ys → IsSound (xs ++ ys)
sound_and [] ys h g = g
sound_and (x ∷ xs) ys h g = (h.0, sound_and xs ys h.1 g)

no_flaws : (v : Evaluated) → HasNone (map (λ f. a_flaw f) (flaws_of v)) → flaws_of v ≡ []
no_flaws (evaluated ps) h = refl
no_flaws (flawed f) h = h

module _ (source : Source) (seen : Seen) where
  mutual
    along_sound : (path : List ℕ) (over : Scoping) (m : Sights) (w : Work) → HasNone (met_along source seen path over m w) → IsSound (valued_along source seen path over m w)
    along_sound path over m no_work h = tt
    along_sound path over m (resource r w) h =
        let both = none_in (map (λ f. a_flaw f) (flaws_of (member_props path (over m) r))) (met_along source seen path over m w) h in
        (no_flaws (member_props path (over m) r) both.0, along_sound path over m w both.1)
    along_sound path over m (nested n i w) h =
        let both = none_in (met_inside source seen path (over m) i) (met_along source seen path over (nested_sight source n (outputs_inside source seen (over m) i) m) w) h in
        sound_and (valued_inside source seen (over m) i) (valued_along source seen path over (nested_sight source n (outputs_inside source seen (over m) i) m) w)
        (inside_sound path (over m) i both.0) (along_sound path over (nested_sight source n (outputs_inside source seen (over m) i) m) w both.1)

    inside_sound : (path : List ℕ) (s : Scope) (i : Inside) → HasNone (met_inside source seen path s i) → IsSound (valued_inside source seen s i)
    inside_sound path s (shut f) h = tt
    inside_sound path s (inside.given_by form b) h = body_sound (given_in s form) b (none_in (flaw_met (offers_flaw path s form)) (met_in source seen (given_in s form) b) h).1

    body_sound : (g : Given) (b : Body) → HasNone (met_in source seen g b) → IsSound (valued_in source seen g b)
    body_sound g (barred f) h = tt
    body_sound g (halted t f) h = tt
    body_sound g (opened t conds w) h =
        along_sound t.path (scoping source t conds (settings_for t.template.params g)) (first_sights t conds seen (own_ids w)) w
        (none_in (met_along source seen t.path (scoping source t conds (settings_for t.template.params g)) (first_sights t conds seen (own_ids w)) w)
        (outputs_met t conds (scope_after source seen g t conds w)) (none_in (flaw_met (bind_flaw t g)) _ h).1).0

sound_at : (path : List ℕ) (rs : List Valued) (r : Valued) → IsSound rs → at_path path rs ≡ Some r → flaws_of r.1 ≡ []
sound_at path [] r h e = let no : ⊥ = cc in absurd no
sound_at path (x ∷ rs) r h e = either (bytes_eq path x.0.path) e (sound_at path rs r h.1) where
  either : (t : Bool) → cond t (Some x) (at_path path rs) ≡ Some r → (at_path path rs ≡ Some r → flaws_of r.1 ≡ []) → flaws_of r.1 ≡ []
  either true g ih = ap (λ (v : Valued). flaws_of v.1) (sym (some_is x r g)) ∙ h.0
  either false g ih = ih g

pub flawless : (source : Source) (shape : Shape) (seen : Seen) → (plan_by source shape seen).flaws ≡ [] → (path : List ℕ) (r : Valued)
    → at_path path (valued_in source seen (given_root source) shape) ≡ Some r → flaws_of r.1 ≡ []
flawless source shape seen clean path r e = sound_at path (valued_in source seen (given_root source) shape) r (body_sound source seen (given_root source) shape clean) e

-- what is evaluated stands in the order of what is asked for
abbrev From : List ℕ → Evaluated → Type 0
From k (flawed f) = ⊤
From k (evaluated xs) = ascends_from k xs ≡ true

abbrev pub Ordered : Evaluated → Type 0
Ordered (flawed f) = ⊤
Ordered (evaluated xs) = ascends xs ≡ true

with_from : (path k name : List ℕ) (x : Found) (v : PropsFound) → bytes_lt k name ≡ true → From name (evaluated_in path v) → From k (evaluated_in path (with_prop name x v))
with_from path k name (got None) (Ok xs) h g = past k name xs h g
with_from path k name (got (Some d)) (Ok xs) h g = and_from (bytes_lt k name) (ascends_from name xs) h g
with_from path k name later (Ok xs) h g = and_from (bytes_lt k name) (ascends_from name xs) h g
with_from path k name x v h g = tt

props_from : (path k : List ℕ) (s : Scope) (ps : List (List ℕ × Form)) → ascends_from k ps ≡ true → From k (evaluated_in path (props_of s ps))
props_from path k s [] h = refl
props_from path k s (p ∷ ps) h =
    with_from path k p.0 (value_of s p.1) (props_of s ps) (first_so (bytes_lt k p.0) (ascends_from p.0 ps) h) (props_from path p.0 s ps (second_so (bytes_lt k p.0) (ascends_from p.0 ps) h))

with_first : (path name : List ℕ) (x : Found) (v : PropsFound) → From name (evaluated_in path v) → Ordered (evaluated_in path (with_prop name x v))
with_first path name (got None) (Ok xs) g = tail_ascends name xs g
with_first path name (got (Some d)) (Ok xs) g = g
with_first path name later (Ok xs) g = g
with_first path name x v g = tt

props_ordered : (path : List ℕ) (s : Scope) (ps : List (List ℕ × Form)) → ascends ps ≡ true → Ordered (evaluated_in path (props_of s ps))
props_ordered path s [] h = refl
props_ordered path s (p ∷ ps) h = with_first path p.0 (value_of s p.1) (props_of s ps) (props_from path p.0 s ps h)

unless_ordered : (f : Option Flaw) (v : Evaluated) → Ordered v → Ordered (unless_flaw f v)
unless_ordered None v h = h
unless_ordered (Some f) v h = tt

pub valued_ordered : (x y : Valued) → IsValued x y → ascends y.0.props ≡ true → Ordered y.1
valued_ordered x y v h =
    subst (λ (u : Valued). Ordered u.1) (sym v.now) (unless_ordered v.member.unnamed (evaluated_in v.path (props_of v.further v.member.props))
    (props_ordered v.path v.further v.member.props (ap (λ (u : Valued). ascends u.0.props) (sym v.now) ∙ h)))

-- what is known of it all
pub known_ordered : (xs : List (List ℕ × Option tree.Data)) (ps : List (List ℕ × tree.Data)) → known_props_from xs ≡ Some ps → ascends xs ≡ true → ascends ps ≡ true
known_ordered xs ps e h = sym (ascends_map known_as (λ p. refl) ps) ∙ ap ascends (sym (known_are xs ps e)) ∙ h

-- Properties of which the change set has no detail are the same as they were.

-- what has no name of a list has no value there
absent : {X : Type 0} (n : List ℕ) (ps : List (List ℕ × X)) → is_among n (map (λ p. p.0) ps) ≡ false → value_at n ps ≡ None
absent n [] h = refl
absent n (p ∷ ps) h = either (bytes_eq n p.0) h (absent n ps) where
  either : (b : Bool) → (b || is_among n (map (λ q. q.0) ps)) ≡ false → (is_among n (map (λ q. q.0) ps) ≡ false → value_at n ps ≡ None) → cond b (Some p.1) (value_at n ps) ≡ None
  either true g ih = absurd (true≢false g)
  either false g ih = ih g

-- two values that don't differ
abbrev pub AreSame : Option tree.Data → Option (Option tree.Data) → Type 0
AreSame o q = ((o ≡ None) × (q ≡ None)) ⊎ ((d : tree.Data) × (o ≡ Some d) × (q ≡ Some (Some d)))

are_same : (o : Option tree.Data) (q : Option (Option tree.Data)) → evaluation_of o q ≡ None → AreSame o q
are_same None None h = inl (refl, refl)
are_same (Some a) None h = let no : ⊥ = cc in absurd no
are_same None (Some None) h = let no : ⊥ = cc in absurd no
are_same (Some a) (Some None) h = let no : ⊥ = cc in absurd no
are_same None (Some (Some b)) h = let no : ⊥ = cc in absurd no
are_same (Some a) (Some (Some b)) h = either (same_data a b) refl h where
  either : (t : Bool) → same_data a b ≡ t → static_if (not t) ≡ None → AreSame (Some a) (Some (Some b))
  either true e g = inr (a, refl, ap (λ d. Some (Some d)) (sym ((same_decides a b).0 e)))
  either false e g = let no : ⊥ = cc in absurd no

module _ (g : Option Schema) (old : List (List ℕ × tree.Data)) (xs : Props) where
  -- a name that no detail tells of has the same value on both sides
  module _ (test : Detail → Bool) (none : list_any test (property_details g old xs) ≡ false) (n : List ℕ)
      (told : (e : Evaluation) → test (record { attribute = attribute.Properties; name = n; recreation = recreation_of g n; evaluation = e }) ≡ true) where
    untold : (o : Option Evaluation)
        → list_any test (option_map_or (λ e. record { attribute = attribute.Properties; name = n; recreation = recreation_of g n; evaluation = e } ∷ []) o []) ≡ false → o ≡ None
    untold None h = refl
    untold (Some e) h = absurd (true≢false (sym (told e) ∙ first_not _ false h))

    not_named : is_among n (names_held old xs) ≡ false → evaluation_of (value_at n old) (value_at n xs) ≡ None
    not_named h =
        let all = none_false (is_among n (map (λ p. p.0) old ++ map (λ p. p.0) xs)) (λ e. true≢false (sym (among_order n (map (λ p. p.0) old ++ map (λ p. p.0) xs) e) ∙ h)) in
        let first = absent n old (none_false (is_among n (map (λ p. p.0) old)) (λ e. true≢false (sym (among_first n (map (λ p. p.0) old) (map (λ p. p.0) xs) e) ∙ all))) in
        let second = absent n xs (none_false (is_among n (map (λ p. p.0) xs)) (λ e. true≢false (sym (among_second n (map (λ p. p.0) old) (map (λ p. p.0) xs) e) ∙ all))) in
        ap (λ o. evaluation_of o (value_at n xs)) first ∙ ap (λ o. evaluation_of None o) second

    same_at : evaluation_of (value_at n old) (value_at n xs) ≡ None
    same_at = either (is_among n (names_held old xs)) refl where
      either : (b : Bool) → is_among n (names_held old xs) ≡ b → evaluation_of (value_at n old) (value_at n xs) ≡ None
      either false e = not_named e
      either true e =
          let p = some_of (bytes_eq n) (names_held old xs) e in
          let of_names = none_of (λ m. list_any test (property_detail g old xs m)) (names_held old xs) p.one (sym (any_flat test (property_detail g old xs) (names_held old xs)) ∙ none) p.of_list in
          untold (evaluation_of (value_at n old) (value_at n xs)) (subst (λ m. list_any test (property_detail g old xs m) ≡ false) (sym ((bytes_eq-Decides n p.one).0 p.passes)) of_names)

-- then it is what it was
value_is : (o : Option tree.Data) (q : Option (Option tree.Data)) (p : Option tree.Data) → evaluation_of o q ≡ None → IsKnownAs q p → p ≡ o
value_is o q p h k = elim (are_same o q h) [
  | inl s ↦ k.gone s.1 ∙ sym s.0
  | inr s ↦ k.same s.0 s.2 ∙ sym s.1
]

pub no_value_differs : (o : Option tree.Data) → value_differs o o ≡ false
no_value_differs None = refl
no_value_differs (Some d) = ap not ((same_decides d d).1 refl)

none_differ : (names : List (List ℕ)) (old new : List (List ℕ × tree.Data)) → ((n : List ℕ) → In n names → value_at n new ≡ value_at n old) → any_differs names old new ≡ false
none_differ names old new h =
    none_any (λ n. differs_at n old new) names (λ n i t. true≢false (sym t ∙ ap (value_differs (value_at n old)) (h n i) ∙ no_value_differs (value_at n old)))

-- a change of a property that replaces, always or conditionally
replaces_always : (g : Schema) (n : List ℕ) → In n g.create_only → not (is_never (recreation_by g n)) ≡ true
replaces_always g n i = ap (λ b. not (is_never (cond b recreation.Always (cond (is_among n g.conditional) recreation.Conditionally recreation.Never)))) (any_in (bytes_eq n) n g.create_only i ((bytes_eq-Decides n n).1 refl))

replaces_maybe : (g : Schema) (n : List ℕ) → In n g.conditional → not (is_never (recreation_by g n)) ≡ true
replaces_maybe g n i =
    ap (λ b. not (is_never (cond (is_among n g.create_only) recreation.Always (cond b recreation.Conditionally recreation.Never)))) (any_in (bytes_eq n) n g.conditional i ((bytes_eq-Decides n n).1 refl))
    ∙ either (is_among n g.create_only)
  where
    either : (b : Bool) → not (is_never (cond b recreation.Always recreation.Conditionally)) ≡ true
    either true = refl
    either false = refl

not_replaced : (b m n : Bool) (d : Difference) → m ≡ false → n ≡ false → cond b Same (cond m Replace (cond n MayReplace Update)) ≡ d → ((d ≡ Replace) ⊎ (d ≡ MayReplace)) → ⊥
not_replaced true m n d f h e (inl r) = let no : ⊥ = cc in no
not_replaced true m n d f h e (inr r) = let no : ⊥ = cc in no
not_replaced false true n d f h e r = true≢false f
not_replaced false false true d f h e r = true≢false h
not_replaced false false false d f h e (inl r) = let no : ⊥ = cc in no
not_replaced false false false d f h e (inr r) = let no : ⊥ = cc in no

-- where no detail may replace, nothing is replaced
pub no_replacement : (g : Schema) (old : List (List ℕ × tree.Data)) (xs ys : Props) (new : List (List ℕ × tree.Data)) → Becomes xs ys → known_props_from ys ≡ Some new
    → list_any (λ d. not (is_never d.recreation)) (property_details (Some g) old xs) ≡ false → (difference_of g old new ≡ Replace) ⊎ (difference_of g old new ≡ MayReplace) → ⊥
no_replacement g old xs ys new h k none r =
    not_replaced (same_members (members_of old) (members_of new)) (any_differs g.create_only old new) (any_differs g.conditional old new) (difference_of g old new)
    (none_differ g.create_only old new (λ n i. same n (replaces_always g n i))) (none_differ g.conditional old new (λ n i. same n (replaces_maybe g n i))) refl r
  where
    same : (n : List ℕ) → not (is_never (recreation_by g n)) ≡ true → value_at n new ≡ value_at n old
    same n t = value_is (value_at n old) (value_at n xs) (value_at n new) (same_at (Some g) old xs (λ d. not (is_never d.recreation)) none n (λ e. t)) (is_known_as xs ys new h k n)

-- lists in order that show the same are the same
above : (k l : List ℕ) → slice_cmp nat_cmp k l ≡ Greater → bytes_lt l k ≡ true
above k l e = ap is_lt (nat_list_cmp_total.antisymm l k ∙ ap ordering_reverse e)

module _ {X : Type 0} where
  first_value : (p : List ℕ × X) (ps : List (List ℕ × X)) → value_at p.0 (p ∷ ps) ≡ Some p.1
  first_value p ps = ap (λ b. cond b (Some p.1) (value_at p.0 ps)) ((bytes_eq-Decides p.0 p.0).1 refl)

  no_value : (x : X) → Some x ≡ None → ⊥
  no_value x e = let no : ⊥ = cc in no

  -- behind the first ones, which have one name
  module _ (p q : List ℕ × X) (ps qs : List (List ℕ × X)) (a : ascends_from p.0 ps ≡ true) (b : ascends_from q.0 qs ≡ true) (name : p.0 ≡ q.0)
      (h : (n : List ℕ) → value_at n (p ∷ ps) ≡ value_at n (q ∷ qs)) where
    tails : (n : List ℕ) → value_at n ps ≡ value_at n qs
    tails n = either (bytes_eq n p.0) refl where
      either : (t : Bool) → bytes_eq n p.0 ≡ t → value_at n ps ≡ value_at n qs
      either true e =
          let same : n ≡ p.0 = (bytes_eq-Decides n p.0).0 e in
          ap (λ m. value_at m ps) same ∙ value_below p.0 ps a ∙ sym (ap (λ m. value_at m qs) (same ∙ name) ∙ value_below q.0 qs b)
      either false e =
          sym (ap (λ t. cond t (Some p.1) (value_at n ps)) e) ∙ h n ∙ ap (λ t. cond t (Some q.1) (value_at n qs)) (ap (bytes_eq n) (sym name) ∙ e)

  pub same_shown : (ps qs : List (List ℕ × X)) → ascends ps ≡ true → ascends qs ≡ true → ((n : List ℕ) → value_at n ps ≡ value_at n qs) → ps ≡ qs
  same_shown [] [] a b h = refl
  same_shown [] (q ∷ qs) a b h = absurd (no_value q.1 (sym (h q.0 ∙ first_value q qs)))
  same_shown (p ∷ ps) [] a b h = absurd (no_value p.1 (sym (first_value p ps) ∙ h p.0))
  same_shown (p ∷ ps) (q ∷ qs) a b h = by_order (slice_cmp nat_cmp p.0 q.0) refl (λ t. same_shown ps qs (tail_ascends p.0 ps a) (tail_ascends q.0 qs b) t) where
    by_order : (o : Ordering) → slice_cmp nat_cmp p.0 q.0 ≡ o → (((n : List ℕ) → value_at n ps ≡ value_at n qs) → ps ≡ qs) → p ∷ ps ≡ q ∷ qs
    by_order Less e rest = absurd (no_value p.1 (sym (first_value p ps) ∙ h p.0 ∙ value_below p.0 (q ∷ qs) (and_from (bytes_lt p.0 q.0) (ascends_from q.0 qs) (ap is_lt e) b)))
    by_order Greater e rest = absurd (no_value q.1 (sym (first_value q qs) ∙ sym (h q.0) ∙ value_below q.0 (p ∷ ps) (and_from (bytes_lt q.0 p.0) (ascends_from p.0 ps) (above p.0 q.0 e) a)))
    by_order Equal e rest =
        let name : p.0 ≡ q.0 = (bytes_eq-Decides p.0 q.0).0 (texts_ties p.0 q.0 ∙ rw e refl) in
        let value : p.1 ≡ q.1 = some_is p.1 q.1 (sym (first_value p ps) ∙ h p.0 ∙ ap (λ n. value_at n (q ∷ qs)) name ∙ first_value q qs) in
        λ i. (name i, value i) ∷ rest (tails p q ps qs a b name h) i

-- where no detail tells of a property, all are the same
pub no_change : (g : Schema) (old : List (List ℕ × tree.Data)) (xs ys : Props) (new : List (List ℕ × tree.Data)) → Becomes xs ys → known_props_from ys ≡ Some new
    → ascends old ≡ true → ascends new ≡ true → list_any is_property (property_details (Some g) old xs) ≡ false → difference_of g old new ≡ Same
no_change g old xs ys new h k a b none =
    ap (λ t. cond t Same (cond (any_differs g.create_only old new) Replace (cond (any_differs g.conditional old new) MayReplace Update)))
    (equal_same old new (same_shown old new a b (λ n. sym (value_is (value_at n old) (value_at n xs) (value_at n new) (same_at (Some g) old xs is_property none n (λ e. refl)) (is_known_as xs ys new h k n)))))

-- what tells of no property tells of none that replaces
pub no_detail : (g : Option Schema) (old : List (List ℕ × tree.Data)) (xs : Props) → list_any is_property (property_details g old xs) ≡ false
    → list_any (λ d. not (is_never d.recreation)) (property_details g old xs) ≡ false
no_detail g old xs none =
    any_flat (λ d. not (is_never d.recreation)) (property_detail g old xs) (names_held old xs)
    ∙ none_any (λ n. list_any (λ d. not (is_never d.recreation)) (property_detail g old xs n)) (names_held old xs)
    (λ n i t. by_detail n (evaluation_of (value_at n old) (value_at n xs)) (none_of (λ m. list_any is_property (property_detail g old xs m)) (names_held old xs) n (sym (any_flat is_property (property_detail g old xs) (names_held old xs)) ∙ none) i) t)
  where
    by_detail : (n : List ℕ) (o : Option Evaluation)
        → list_any is_property (option_map_or (λ e. record { attribute = attribute.Properties; name = n; recreation = recreation_of g n; evaluation = e } ∷ []) o []) ≡ false
        → list_any (λ (d : Detail). not (is_never d.recreation)) (option_map_or (λ e. record { attribute = attribute.Properties; name = n; recreation = recreation_of g n; evaluation = e } ∷ []) o []) ≡ true → ⊥
    by_detail n None h t = true≢false (sym t)
    by_detail n (Some e) h t = true≢false h
