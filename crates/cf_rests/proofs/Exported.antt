-- Where a plan has no flaw, the names that it exports stay as more is seen, and so do known values.
use Rattle.std.proofs.Common.{◌≡◌, ℕ, List, [], ◌∷◌, ◌++◌, Bool, true, false, Option, Some, None, refl, sym, ap, subst, ◌∙◌, filter, map, option_map}
use Rattle.std.specs.Prelude.{⊤, cond, flat_map}
use Rattle.std.specs.Option.{option_and_then, option_or}
use Rattle.std.specs.Str.{bytes_eq}
use Rattle.cf_tree.specs.Forms.{Form}
use Rattle.cf_tree.specs.Keys.{value_at}
use Rattle.cf_tree.specs.declared.source.Source.{Source}
use Rattle.cf_tree.specs.declared.template.Out.{Out}
use Rattle.cf_eval.specs.Knows.{StaysKnown, KnowsMore}
use Rattle.cf_eval.specs.Outcome.{Outcome, got, later, bad}
use Rattle.cf_eval.specs.Scope.{Scope}
use Rattle.cf_eval.proofs.Knowing.{Stands}
use Rattle.cf_desired.specs.Given.{Given, given_in}
use Rattle.cf_desired.specs.Met.{Met, a_stack, an_output, a_flaw, bind_flaw, exporting_as, exporting_in, flaws_of, met_along, met_inside, met_in, offers_flaw, output_at, outputs_wanted, scope_after}
use Rattle.cf_desired.specs.Plan.{exported, exported_as, output_flaws, plan_by}
use Rattle.cf_desired.specs.Seeing.{Seen, export_stop, export_wanted, first_sights, is_output_made, nested_sight, output_stop, outputs_inside, own_ids, text_in, text_known, unnamed_output}
use Rattle.cf_desired.specs.Shape.{given_root}
use Rattle.cf_desired.specs.Stack.{Stack, Verdicts, Sights, flaw_at, stop_in}
use Rattle.cf_desired.specs.Stays.{SeesMore}
use Rattle.cf_desired.specs.Valued.{member_props}
use Rattle.cf_desired.specs.Work.{Member, Nesting, Work, Inside, Body, no_work, resource, nested, shut, barred, halted, opened}
use Rattle.cf_desired.specs.Work as inside
use Rattle.cf_desired.specs.declared.flaw.Flaw.{Flaw}
use Rattle.cf_desired.specs.declared.wanted.Exporting.{Exporting}
use Rattle.cf_desired.specs.declared.wanted.Exporting.TheVariants as exporting
use Rattle.cf_desired.specs.declared.wanted.WantedOutput.{WantedOutput}
use Rattle.cf_desired.proofs.Flawless.{HasNone}
use Rattle.cf_desired.proofs.Keeping.{GivenKeeps, given_self, given_keeps, KeepsSights, put_keeps, first_keep, over, scope_knows, after_keeps, inside_keeps, names_keep, text_stands}
use Rattle.cf_rests.specs.ExportsStay.{ExportNamesStay}
use Rattle.cf_rests.specs.Outputs.{all_outputs}
use Rattle.cf_rests.proofs.Rested.{outputs_among, outputs_both, behind_flaws, behind_flaw, with_outputs, exports_of_outputs}

-- an output that had no fault has the name that it is exported by, and a value that was known
abbrev KeepsOne : WantedOutput → WantedOutput → Type 0
KeepsOne x y = StaysKnown x.value y.value × (x.fault ≡ None → y.export ≡ x.export)

abbrev KeepsEach : List WantedOutput → List WantedOutput → Type 0
KeepsEach [] [] = ⊤
KeepsEach (x ∷ xs) (y ∷ ys) = KeepsOne x y × KeepsEach xs ys
KeepsEach _ _ = ⊥

each_and : (xs ys vs ws : List WantedOutput) → KeepsEach xs ys → KeepsEach vs ws → KeepsEach (xs ++ vs) (ys ++ ws)
each_and [] [] vs ws h k = k
each_and [] (y ∷ ys) vs ws h k = absurd h
each_and (x ∷ xs) [] vs ws h k = absurd h
each_and (x ∷ xs) (y ∷ ys) vs ws h k = (h.0, each_and xs ys vs ws h.1 k)

no_fault : {A B : Type 0} (f : A → B) (o : Option A) → option_map f o ≡ None → o ≡ None
no_fault f None h = refl
no_fault f (Some x) h = let no : ⊥ = cc in absurd no

second_none : {A : Type 0} (x y : Option A) → option_or x y ≡ None → y ≡ None
second_none None y h = h
second_none (Some x) y h = let no : ⊥ = cc in absurd no

first_none : {A : Type 0} (x y : Option A) → option_or x y ≡ None → x ≡ None
first_none None y h = refl
first_none (Some x) y h = let no : ⊥ = cc in absurd no

module _ (source : Source) (a b : Seen) (more : SeesMore a b) where
  module _ (s u : Scope) (k : KnowsMore s u) (path : List ℕ) (conds : Verdicts) where
    value_kept : (x y : Outcome (List ℕ)) → Stands false x y → StaysKnown (text_known x) (text_known y)
    value_kept (got v) y g = ap text_known g
    value_kept later y g = tt
    value_kept (bad w) y g = tt

    -- a name that is known stays
    name_kept : (o : Option Form) → export_stop s o ≡ None → exporting_in u o ≡ exporting_in s o
    name_kept None h = refl
    name_kept (Some f) h = either (text_in s f) (text_in u f) (text_stands source a b more s u k f) h where
      either : (x y : Outcome (List ℕ)) → Stands false x y → stop_in (export_wanted f x) ≡ None → exporting_as (export_wanted f y) ≡ exporting_as (export_wanted f x)
      either (got v) y g q = ap (λ z. exporting_as (export_wanted f z)) g
      either later y g q = let no : ⊥ = cc in absurd no
      either (bad w) y g q = let no : ⊥ = cc in absurd no

    one_kept : (o : Out) → KeepsOne (output_at path conds s o) (output_at path conds u o)
    one_kept o = (
      value_kept (text_in s o.value) (text_in u o.value) (text_stands source a b more s u k o.value),
      λ h. name_kept o.export
          (first_none (export_stop s o.export) (stop_in (text_in s o.value))
          (second_none (unnamed_output conds o) (option_or (export_stop s o.export) (stop_in (text_in s o.value))) (no_fault (flaw_at path) (output_stop conds s o) h))),
    )

    each_kept : (os : List Out) → KeepsEach (map (output_at path conds s) os) (map (output_at path conds u) os)
    each_kept [] = tt
    each_kept (o ∷ os) = (one_kept o, each_kept os)

  wanted_kept : (t : Stack) (conds : Verdicts) (g h : Given) → GivenKeeps g h → (w : Work) → KeepsEach (outputs_wanted t conds (scope_after source a g t conds w)) (outputs_wanted t conds (scope_after source b h t conds w))
  wanted_kept t conds g h k w =
      each_kept (scope_after source a g t conds w) (scope_after source b h t conds w)
      (scope_knows source a b more t conds g h k _ _ (after_keeps source a b more t conds g h k (first_sights t conds a (own_ids w)) (first_sights t conds b (own_ids w)) (first_keep source a b more t conds (own_ids w)) w))
      t.path conds (filter (is_output_made conds) t.template.outputs)

  -- all outputs, as they are met
  abbrev MetKept : List Met → List Met → Type 0
  MetKept xs ys = KeepsEach (outputs_among xs) (outputs_among ys)

  met_as : (xs ys vs ws : List WantedOutput) → xs ≡ vs → ys ≡ ws → KeepsEach vs ws → KeepsEach xs ys
  met_as xs ys vs ws g h k = subst (λ l. KeepsEach l ys) (sym g) (subst (λ l. KeepsEach vs l) (sym h) k)

  mutual
    along_kept : (t : Stack) (conds : Verdicts) (g h : Given) → GivenKeeps g h → (m n : Sights) → KeepsSights m n → (w : Work)
        → MetKept (met_along source a t.path (over source a b more t conds g) m w) (met_along source b t.path (over source a b more t conds h) n w)
    along_kept t conds g h k m n s no_work = tt
    along_kept t conds g h k m n s (resource r w) =
        met_as _ _ _ _
        (behind_flaws (flaws_of (member_props t.path (over source a b more t conds g m) r)) (met_along source a t.path (over source a b more t conds g) m w))
        (behind_flaws (flaws_of (member_props t.path (over source a b more t conds h n) r)) (met_along source b t.path (over source a b more t conds h) n w))
        (along_kept t conds g h k m n s w)
    along_kept t conds g h k m n s (nested x i w) =
        let knows = scope_knows source a b more t conds g h k m n s in
        met_as _ _ _ _
        (outputs_both (met_inside source a t.path (over source a b more t conds g m) i) (met_along source a t.path (over source a b more t conds g) (nested_sight source x (outputs_inside source a (over source a b more t conds g m) i) m) w))
        (outputs_both (met_inside source b t.path (over source a b more t conds h n) i) (met_along source b t.path (over source a b more t conds h) (nested_sight source x (outputs_inside source b (over source a b more t conds h n) i) n) w))
        (each_and _ _ _ _ (inside_kept t.path (over source a b more t conds g m) (over source a b more t conds h n) knows i)
        (along_kept t conds g h k _ _ (put_keeps x.id _ _ m n (refl, names_keep _ _ (inside_keeps source a b more (over source a b more t conds g m) (over source a b more t conds h n) knows i)) s) w))

    inside_kept : (path : List ℕ) (s u : Scope) → KnowsMore s u → (i : Inside) → MetKept (met_inside source a path s i) (met_inside source b path u i)
    inside_kept path s u k (shut f) = tt
    inside_kept path s u k (inside.given_by form x) =
        met_as _ _ _ _ (behind_flaw (offers_flaw path s form) (met_in source a (given_in s form) x)) (behind_flaw (offers_flaw path u form) (met_in source b (given_in u form) x))
        (body_kept (given_in s form) (given_in u form) (given_keeps s u k form) x)

    body_kept : (g h : Given) → GivenKeeps g h → (x : Body) → MetKept (met_in source a g x) (met_in source b h x)
    body_kept g h k (barred f) = tt
    body_kept g h k (halted t f) = met_as _ _ [] [] (behind_flaw (bind_flaw t g) (a_flaw f ∷ [])) (behind_flaw (bind_flaw t h) (a_flaw f ∷ [])) tt
    body_kept g h k (opened t conds w) =
        met_as _ _ _ _
        (with_outputs (bind_flaw t g) (met_along source a t.path (over source a b more t conds g) (first_sights t conds a (own_ids w)) w) (outputs_wanted t conds (scope_after source a g t conds w)))
        (with_outputs (bind_flaw t h) (met_along source b t.path (over source a b more t conds h) (first_sights t conds b (own_ids w)) w) (outputs_wanted t conds (scope_after source b h t conds w)))
        (each_and _ _ _ _
        (along_kept t conds g h k (first_sights t conds a (own_ids w)) (first_sights t conds b (own_ids w)) (first_keep source a b more t conds (own_ids w)) w)
        (wanted_kept t conds g h k w))

-- without a flaw no output is at fault
abbrev NoneBroken : List WantedOutput → Type 0
NoneBroken [] = ⊤
NoneBroken (o ∷ os) = (o.fault ≡ None) × NoneBroken os

none_first : {A : Type 0} (xs ys : List A) → xs ++ ys ≡ [] → (xs ≡ []) × (ys ≡ [])
none_first [] ys h = (refl, h)
none_first (x ∷ xs) ys h = let no : ⊥ = cc in absurd no

no_output_flaw : (o : WantedOutput) (f : Option Flaw) → o.fault ≡ f → output_flaws o ≡ [] → f ≡ None
no_output_flaw o None e h = refl
no_output_flaw o (Some f) e h = let no : ⊥ = cc in absurd no

none_broken : (ms : List Met) → HasNone ms → NoneBroken (outputs_among ms)
none_broken [] h = tt
none_broken (a_stack n f ∷ ms) h = none_broken ms h
none_broken (an_output o ∷ ms) h = let both = none_first (output_flaws o) _ h in (no_output_flaw o o.fault refl both.0, none_broken ms both.1)
none_broken (a_flaw f ∷ ms) h = let no : ⊥ = cc in absurd no

-- so exports stay, one by one
abbrev ExportsKeep : List (List ℕ × Option (List ℕ)) → List (List ℕ × Option (List ℕ)) → Type 0
ExportsKeep [] [] = ⊤
ExportsKeep (x ∷ xs) (y ∷ ys) = ((y.0 ≡ x.0) × StaysKnown x.1 y.1) × ExportsKeep xs ys
ExportsKeep _ _ = ⊥

exports_and : (xs ys vs ws : List (List ℕ × Option (List ℕ))) → ExportsKeep xs ys → ExportsKeep vs ws → ExportsKeep (xs ++ vs) (ys ++ ws)
exports_and [] [] vs ws h k = k
exports_and [] (y ∷ ys) vs ws h k = absurd h
exports_and (x ∷ xs) [] vs ws h k = absurd h
exports_and (x ∷ xs) (y ∷ ys) vs ws h k = (h.0, exports_and xs ys vs ws h.1 k)

export_kept : (v w : Option (List ℕ)) (e f : Exporting) → f ≡ e → StaysKnown v w → ExportsKeep (exported_as v e) (exported_as w f)
export_kept v w e f g k = subst (λ x. ExportsKeep (exported_as v e) (exported_as w x)) (sym g) (either e) where
  either : (x : Exporting) → ExportsKeep (exported_as v x) (exported_as w x)
  either exporting.Nothing = tt
  either exporting.Fault = tt
  either (exporting.Named name) = ((refl, k), tt)

exports_kept : (xs ys : List WantedOutput) → KeepsEach xs ys → NoneBroken xs → ExportsKeep (flat_map exported xs) (flat_map exported ys)
exports_kept [] [] h n = tt
exports_kept [] (y ∷ ys) h n = absurd h
exports_kept (x ∷ xs) [] h n = absurd h
exports_kept (x ∷ xs) (y ∷ ys) h n =
    exports_and (exported x) (exported y) (flat_map exported xs) (flat_map exported ys) (export_kept x.value y.value x.export y.export (h.0.1 n.0) h.0.0) (exports_kept xs ys h.1 n.1)

same_names : (xs ys : List (List ℕ × Option (List ℕ))) → ExportsKeep xs ys → map (λ e. e.0) ys ≡ map (λ e. e.0) xs
same_names [] [] h = refl
same_names [] (y ∷ ys) h = absurd h
same_names (x ∷ xs) [] h = absurd h
same_names (x ∷ xs) (y ∷ ys) h = ap (λ n. n ∷ map (λ e. e.0) ys) h.0.0 ∙ ap (λ ns. x.0 ∷ ns) (same_names xs ys h.1)

known_kept : (name : List ℕ) (xs ys : List (List ℕ × Option (List ℕ))) → ExportsKeep xs ys → StaysKnown (option_and_then (λ v. v) (value_at name xs)) (option_and_then (λ v. v) (value_at name ys))
known_kept name [] [] h = tt
known_kept name [] (y ∷ ys) h = absurd h
known_kept name (x ∷ xs) [] h = absurd h
known_kept name (x ∷ xs) (y ∷ ys) h =
    subst (λ n. StaysKnown (option_and_then (λ v. v) (value_at name (x ∷ xs))) (option_and_then (λ v. v) (cond (bytes_eq name n) (Some y.1) (value_at name ys)))) (sym h.0.0)
    (either (bytes_eq name x.0) (known_kept name xs ys h.1)) where
      either : (t : Bool) → StaysKnown (option_and_then (λ v. v) (value_at name xs)) (option_and_then (λ v. v) (value_at name ys))
          → StaysKnown (option_and_then (λ v. v) (cond t (Some x.1) (value_at name xs))) (option_and_then (λ v. v) (cond t (Some y.1) (value_at name ys)))
      either true ih = h.0.1
      either false ih = ih

pub names_stay : ExportNamesStay
names_stay source shape a b more none =
    let xs = all_outputs source shape a in
    let ys = all_outputs source shape b in
    let kept =
    exports_kept xs ys (body_kept source a b more (given_root source) (given_root source) (given_self (given_root source)) shape) (none_broken (met_in source a (given_root source) shape) none) in (
      ap (map (λ e. e.0)) (exports_of_outputs source shape b) ∙ same_names (flat_map exported xs) (flat_map exported ys) kept ∙ ap (map (λ e. e.0)) (sym (exports_of_outputs source shape a)),
      λ name.
          subst (λ es. StaysKnown (option_and_then (λ v. v) (value_at name (plan_by source shape a).exports)) (option_and_then (λ v. v) (value_at name es))) (sym (exports_of_outputs source shape b))
          (subst (λ es. StaysKnown (option_and_then (λ v. v) (value_at name es)) (option_and_then (λ v. v) (value_at name (flat_map exported ys)))) (sym (exports_of_outputs source shape a))
          (known_kept name (flat_map exported xs) (flat_map exported ys) kept)),
    )
