-- Where all that a path needs is seen, its properties are known or at fault: what it doesn't mention may as well not be made.
use Rattle.std.proofs.Common.{◌≡◌, ℕ, List, [], ◌∷◌, ◌++◌, Bool, true, false, not, ◌&&◌, ◌||◌, Option, Some, None, refl, sym, ap, subst, ◌∙◌, true≢false, map, find, option_map}
use Rattle.std.specs.Prelude.{⊤, cond, flat_map, is_some, unwrap_or}
use Rattle.std.specs.Cmp.{first_so, second_so}
use Rattle.std.specs.List.{list_all}
use Rattle.std.specs.Str.{bytes_eq}
use Rattle.std.proofs.lemmas.List.Folds.{list_all-append}
use Rattle.std.proofs.lemmas.Slice.Eq.{bytes_eq-Decides}
use Rattle.cf_tree.specs.Forms.{Form, fields_of}
use Rattle.cf_tree.specs.Keys.{value_at, put}
use Rattle.cf_tree.specs.declared.source.Source.{Source}
use Rattle.cf_tree.specs.declared.template.Template.{Template}
use Rattle.cf_param.specs.declared.fault.BindFault.{BindFault}
use Rattle.cf_graph.specs.Mentions.{Mention, by_ref, by_attribute, mentions_of, fields_mentions}
use Rattle.cf_graph.specs.Needs.{holds_in}
use Rattle.cf_tree.specs.Lists.{is_among}
use Rattle.cf_desired.specs.Names.{path_in, pseudo_of, stack_id}
use Rattle.cf_desired.specs.Seeing.{Seen, seen_as, own_ids, unmade_sights, first_sights, nested_sight, sights_after, outputs_inside, outputs_of, by_names}
use Rattle.cf_desired.specs.Valued.{unless_flaw, member_props, resources_in, valued_along, valued_inside, valued_in}
use Rattle.cf_desired.specs.Met.{flaws_of, Met, a_stack, a_flaw, flaw_met, met_along, met_inside, met_in, offers_flaw, bind_flaw, bind_flaw_in, flaw_inside, outputs_met, scope_after}
use Rattle.cf_desired.specs.Stays.{is_shown, is_settled}
use Rattle.cf_desired.specs.declared.flaw.Flaw.{Flaw}
use Rattle.cf_desired.specs.declared.flaw.Flaw.TheVariants as flaw
use Rattle.cf_desired.specs.declared.wanted.Evaluated.{Evaluated}
use Rattle.cf_desired.proofs.Puts.{among_pass, value_put}
use Rattle.cf_desired.specs.Plan.{inner_of, at_path}
use Rattle.cf_desired.specs.Given.{Given, offers_of, offers_stop, given_in, settings_for, bind_fault}
use Rattle.cf_desired.specs.NeededIsKnown.{is_bound, NeededIsKnown}
use Rattle.cf_eval.specs.Outcome.{Stop}
use Rattle.cf_eval.specs.declared.env.OutputSight.{OutputSight}
use Rattle.cf_eval.specs.declared.env.OutputSight.TheVariants as output
use Rattle.cf_desired.specs.Rests.{SeesAllSame}
use Rattle.cf_desired.specs.Shape.{StandsFor, first_stands, paths_below, paths_inside, paths_in, given_root, shape_of}
use Rattle.cf_eval.specs.declared.env.Sight.{Sight}
use Rattle.cf_eval.specs.declared.env.Sight.TheVariants as sight
use Rattle.cf_desired.specs.Stack.{Stack, Verdicts, Sights, Scoping, scoping, evaluated_in, flaw_at}
use Rattle.cf_eval.specs.Value.{props_of}
use Rattle.cf_desired.specs.Work.{Member, Nesting, Work, Inside, Body, no_work, resource, nested, shut, barred, halted, opened}
use Rattle.cf_desired.specs.Work as inside
use Rattle.cf_desired.proofs.Covers.{In, AreDecided, CoversAll, CoversForm, Covers, CoversInside, CoversBody, shape_covered}
use Rattle.cf_desired.proofs.Mentions.{props_same}
use Rattle.cf_desired.proofs.NeedsMatter.{hidden, offers_same, AreOf, body_of}
use Rattle.cf_desired.proofs.SeenKnown.{OffersSure, NoLater, AreBound, IsFullAll, given_sure, given_known, all_bound, root_known, scope_known, first_full, put_full, all_told, neither, props_settled, first_shown, second_shown}
use Rattle.cf_desired.proofs.Sure.{IsTold, AllTold, IsFull, IsKnown, told_names}

-- what is not all seen is taken for not made
abbrev is_told : OutputSight → Bool
is_told (output.Made None) = false
is_told (output.Made (Some v)) = true
is_told output.NotMade = true
is_told (output.Broken why stack at) = true

abbrev is_full : Sight → Bool
is_full sight.NotMade = true
is_full (sight.Made (Some p) (Some a)) = true
is_full (sight.Made (Some p) None) = false
is_full (sight.Made None a) = false
is_full (sight.Nested i outs) = list_all (λ o. is_told o.1) outs

abbrev full_or : Sight → Sight
full_or x = cond (is_full x) x sight.NotMade

abbrev fulls : Sights → Sights
fulls [] = []
fulls (x ∷ m) = (x.0, full_or x.1) ∷ fulls m

told_so : (o : OutputSight) → IsTold (Some o) → is_told o ≡ true
told_so (output.Made None) h = absurd h
told_so (output.Made (Some v)) h = refl
told_so output.NotMade h = refl
told_so (output.Broken why stack at) h = refl

so_told : (o : OutputSight) → is_told o ≡ true → IsTold (Some o)
so_told (output.Made None) h = absurd (true≢false (sym h))
so_told (output.Made (Some v)) h = tt
so_told output.NotMade h = tt
so_told (output.Broken why stack at) h = tt

all_so : (os : List (List ℕ × OutputSight)) → AllTold os → list_all (λ o. is_told o.1) os ≡ true
all_so [] h = refl
all_so (o ∷ os) h = ap (λ b. b && list_all (λ x. is_told x.1) os) (told_so o.1 h.0) ∙ all_so os h.1

so_all : (os : List (List ℕ × OutputSight)) → list_all (λ o. is_told o.1) os ≡ true → AllTold os
so_all [] h = tt
so_all (o ∷ os) h = (so_told o.1 (first_so (is_told o.1) _ h), so_all os (second_so (is_told o.1) _ h))

full_so : (x : Sight) → IsFull (Some x) → is_full x ≡ true
full_so sight.NotMade h = refl
full_so (sight.Made (Some p) (Some a)) h = refl
full_so (sight.Made (Some p) None) h = absurd h
full_so (sight.Made None a) h = absurd h
full_so (sight.Nested i outs) h = all_so outs h

so_full : (x : Sight) → is_full x ≡ true → IsFull (Some x)
so_full sight.NotMade h = tt
so_full (sight.Made (Some p) (Some a)) h = tt
so_full (sight.Made (Some p) None) h = absurd (true≢false (sym h))
so_full (sight.Made None a) h = absurd (true≢false (sym h))
so_full (sight.Nested i outs) h = so_all outs h

fulls_full : (m : Sights) → IsFullAll (fulls m)
fulls_full [] id = tt
fulls_full (x ∷ m) id = either (bytes_eq id x.0) (fulls_full m id) where
  one : (b : Bool) → is_full x.1 ≡ b → IsFull (Some (cond b x.1 sight.NotMade))
  one true e = so_full x.1 e
  one false e = tt

  either : (b : Bool) → IsFull (value_at id (fulls m)) → IsFull (cond b (Some (full_or x.1)) (value_at id (fulls m)))
  either true ih = one (is_full x.1) refl
  either false ih = ih

fulls_same : (m : Sights) (id : List ℕ) → IsFull (value_at id m) → value_at id m ≡ value_at id (fulls m)
fulls_same [] id h = refl
fulls_same (x ∷ m) id h = either (bytes_eq id x.0) h (fulls_same m id) where
  either : (b : Bool) → IsFull (cond b (Some x.1) (value_at id m)) → (IsFull (value_at id m) → value_at id m ≡ value_at id (fulls m))
      → cond b (Some x.1) (value_at id m) ≡ cond b (Some (full_or x.1)) (value_at id (fulls m))
  either true k ih = ap (λ b. Some (cond b x.1 sight.NotMade)) (sym (full_so x.1 k))
  either false k ih = ih k

module _ (source : Source) (seen : Seen) where
  abbrev Shown : List (List ℕ) → Type 0
  Shown ps = (q : List ℕ) → is_among q ps ≡ true → is_shown seen q ≡ true

  abbrev HasBound : List Met → Type 0
  HasBound ms = list_all (is_bound seen) (flat_map inner_of ms) ≡ true

  bound_both : (xs ys : List Met) → HasBound (xs ++ ys) → HasBound xs × HasBound ys
  bound_both [] ys h = (refl, h)
  bound_both (x ∷ xs) ys h =
      let parts = sym (list_all-append (is_bound seen) (inner_of x) (flat_map inner_of (xs ++ ys))) ∙ h in
      let rest = bound_both xs ys (second_so (list_all (is_bound seen) (inner_of x)) _ parts) in (
        list_all-append (is_bound seen) (inner_of x) (flat_map inner_of xs) ∙ both_so _ _ (first_so (list_all (is_bound seen) (inner_of x)) _ parts) rest.0,
        rest.1,
      ) where
        both_so : (a b : Bool) → a ≡ true → b ≡ true → (a && b) ≡ true
        both_so true b g h = h
        both_so false b g h = g

  all_shown : (ps : List (List ℕ)) → Shown ps → list_all (is_shown seen) ps ≡ true
  all_shown [] h = refl
  all_shown (p ∷ ps) h = ap (λ b. b && list_all (is_shown seen) ps) (h p (ap (λ b. b || is_among p ps) ((bytes_eq-Decides p p).1 refl))) ∙ all_shown ps (λ q k. h q (behind (bytes_eq q p) (is_among q ps) k)) where
    behind : (a b : Bool) → b ≡ true → (a || b) ≡ true
    behind true b g = refl
    behind false b g = g

  fault_none : (ns : List (List ℕ)) (f : Option Flaw) → Shown ns → (not (list_all (is_shown seen) ns) || not (is_some f)) ≡ true → f ≡ None
  fault_none ns None s h = refl
  fault_none ns (Some f) s h = let no : false ≡ true = ap (λ b. not b || false) (sym (all_shown ns s)) ∙ h in absurd (true≢false (sym no))

  stack_none : (n : Nesting) (f : Option Flaw) (ms : List Met) → Shown n.needs → HasBound (a_stack n f ∷ ms) → (f ≡ None) × HasBound ms
  stack_none n f ms s h = (fault_none n.needs f s (first_so (not (list_all (is_shown seen) n.needs) || not (is_some f)) _ h), second_so (not (list_all (is_shown seen) n.needs) || not (is_some f)) _ h)

  stack_rest : (n : Nesting) (f : Option Flaw) (ms : List Met) → HasBound (a_stack n f ∷ ms) → HasBound ms
  stack_rest n f ms h = second_so (not (list_all (is_shown seen) n.needs) || not (is_some f)) _ h

  no_offer : (path : List ℕ) (o : Option Stop) → option_map (flaw_at path) o ≡ None → o ≡ None
  no_offer path None h = refl
  no_offer path (Some w) h = let no : ⊥ = cc in absurd no

  no_bind : (t : Stack) (g : Given) → bind_flaw t g ≡ None → bind_fault t.template.params g ≡ None
  no_bind t g h = either (bind_fault t.template.params g) h where
    either : (o : Option BindFault) → option_map (flaw.Bind t.path) o ≡ None → o ≡ None
    either None k = refl
    either (Some f) k = let no : ⊥ = cc in absurd no

  -- what ids stand for is seen, so all of it is
  abbrev SightsShown : StandsFor → Sights → Type 0
  SightsShown stands m = (id : List ℕ) → Shown (unwrap_or (value_at id stands) []) → IsFull (value_at id m)

  first_sights_shown : (t : Stack) (conds : Verdicts) (ids : List (List ℕ)) → SightsShown (first_stands t ids) (first_sights t conds seen ids)
  first_sights_shown t conds [] id h = first_full source seen t conds [] (λ q k. absurd (true≢false (sym k))) id
  first_sights_shown t conds (k ∷ ids) id h = either (bytes_eq id k) refl h (first_sights_shown t conds ids id) where
    either : (b : Bool) → bytes_eq id k ≡ b → Shown (unwrap_or (cond b (Some (path_in t.path k ∷ [])) (value_at id (first_stands t ids))) [])
        → (Shown (unwrap_or (value_at id (first_stands t ids)) []) → IsFull (value_at id (first_sights t conds seen ids)))
        → IsFull (cond b (Some (seen_as (value_at (path_in t.path k) seen))) (value_at id (first_sights t conds seen ids)))
    either true e s ih = subst (λ b. IsFull (cond b (Some (seen_as (value_at (path_in t.path k) seen))) (value_at k (unmade_sights t conds)))) ((bytes_eq-Decides k k).1 refl) (first_full source seen t conds (k ∷ []) s k)
    either false e s ih = ih s

  put_shown : (stands : StandsFor) (m : Sights) (k : List ℕ) (ps : List (List ℕ)) (x : Sight) → SightsShown stands m → (Shown ps → IsFull (Some x)) → SightsShown (put k ps stands) (put k x m)
  put_shown stands m k ps x h f id s = subst IsFull (sym (value_put id k x m)) (either (bytes_eq id k) (subst (λ o. Shown (unwrap_or o [])) (value_put id k ps stands) s)) where
    either : (b : Bool) → Shown (unwrap_or (cond b (Some ps) (value_at id stands)) []) → IsFull (cond b (Some x) (value_at id m))
    either true g = f g
    either false g = h id g

  agree_shown : (t : Template) (g : Given) (needs : List (List ℕ)) (stands : StandsFor) (m : Sights) → SightsShown stands m → Shown needs → (ms : List Mention) → CoversAll t needs stands ms
      → SeesAllSame (settings_for t.params g) (fulls m) m ms
  agree_shown t g needs stands m h k [] c = tt
  agree_shown t g needs stands m h k (by_ref name ∷ ms) c =
      (λ o. fulls_same m name (h name (λ q i. k q (c.0 (hidden g name t.params o) q i))), agree_shown t g needs stands m h k ms c.1)
  agree_shown t g needs stands m h k (by_attribute name ∷ ms) c = (fulls_same m name (h name (λ q i. k q (c.0 q i))), agree_shown t g needs stands m h k ms c.1)

  abbrev on : Stack → Verdicts → Given → Scoping
  on t conds g = scoping source t conds (settings_for t.template.params g)

  module _ (t : Stack) (conds : Verdicts) (g : Given) (d : AreDecided conds) where
    known_fulls : AreBound t.template.params g → (m : Sights) → IsKnown (on t conds g (fulls m))
    known_fulls b m = scope_known source seen t conds g (fulls m) d b (fulls_full m)

    member_settled : AreBound t.template.params g → (stands : StandsFor) (m : Sights) (r : Member) → SightsShown stands m → Shown r.needs → CoversAll t.template r.needs stands (fields_mentions (holds_in conds) (fields_of r.props))
        → is_settled (member_props t.path (on t conds g m) r) ≡ true
    member_settled b stands m r h k c =
        ap (λ v. is_settled (unless_flaw r.unnamed (evaluated_in t.path v)))
        (props_same t.template (settings_for t.template.params g) conds (pseudo_of t.name source.number) source.imports (fulls m) m r.props
        (agree_shown t.template g r.needs stands m h k (fields_mentions (holds_in conds) (fields_of r.props)) c))
        ∙ settled r.unnamed where
          settled : (f : Option Flaw) → is_settled (unless_flaw f (evaluated_in t.path (props_of (on t conds g (fulls m)) r.props))) ≡ true
          settled None = props_settled source seen (on t conds g (fulls m)) (known_fulls b m) t.path r.props
          settled (Some f) = refl

    offers_known : AreBound t.template.params g → (own : List (List ℕ)) (stands : StandsFor) (m : Sights) (form : Option Form) → SightsShown stands m → Shown own → CoversForm t.template conds own stands form
        → OffersSure (offers_of (on t conds g m) form)
    offers_known b own stands m None h k c = tt
    offers_known b own stands m (Some f) h k c =
        subst OffersSure
        (sym (offers_same t.template (settings_for t.template.params g) conds (pseudo_of t.name source.number) source.imports (fulls m) m None f (agree_shown t.template g own stands m h k (mentions_of (holds_in conds) f) c)))
        (given_sure (on t conds g (fulls m)) (known_fulls b m) (Some f))

    nested_given : AreBound t.template.params g → (own : List (List ℕ)) (stands : StandsFor) (m : Sights) (form : Option Form) (x : Body) → SightsShown stands m → Shown own → CoversForm t.template conds own stands form
        → flaw_inside t.path (on t conds g m) (inside.given_by form x) ≡ None
        → NoLater (given_in (on t conds g m) form) × (bind_flaw_in (given_in (on t conds g m) form) x ≡ None)
    nested_given b own stands m form x h k c f =
        let parts = neither (offers_flaw t.path (on t conds g m) form) (bind_flaw_in (given_in (on t conds g m) form) x) f in
        (given_known (offers_of (on t conds g m) form) (offers_known b own stands m form h k c) (no_offer t.path (offers_stop (offers_of (on t conds g m) form)) parts.0), parts.1)

  -- where all in a nested stack and all that it needs is seen, its outputs are told
  mutual
    after_told : (t : Stack) (conds : Verdicts) (g : Given) → AreDecided conds → AreBound t.template.params g → (m : Sights) → IsFullAll m → (needs : List (List ℕ)) (stands : StandsFor) (w : Work)
        → Covers t.template conds needs stands w → Shown (paths_below w) → HasBound (met_along source seen t.path (on t conds g) m w) → IsFullAll (sights_after source seen (on t conds g) m w)
    after_told t conds g d b m f needs stands no_work c s h = f
    after_told t conds g d b m f needs stands (resource r w) c s h =
        after_told t conds g d b m f needs stands w c.1 s (bound_both (map (λ x. a_flaw x) (flaws_of (member_props t.path (on t conds g m) r))) _ h).1
    after_told t conds g d b m f needs stands (nested x i w) c s h =
        let own = first_shown source seen (paths_inside i ++ x.needs) (paths_below w) s in
        let here = stack_none x (flaw_inside t.path (on t conds g m) i) (met_inside source seen t.path (on t conds g m) i ++ met_along source seen t.path (on t conds g) (nested_sight source x (outputs_inside source seen (on t conds g m) i) m) w) (second_shown source seen (paths_inside i) x.needs own) h in
        let parts = bound_both (met_inside source seen t.path (on t conds g m) i) (met_along source seen t.path (on t conds g) (nested_sight source x (outputs_inside source seen (on t conds g m) i) m) w) here.1 in
        after_told t conds g d b (nested_sight source x (outputs_inside source seen (on t conds g m) i) m)
        (put_full source seen x.id (sight.Nested (stack_id x.name source.number) (by_names (outputs_inside source seen (on t conds g m) i))) m
        (told_names (outputs_inside source seen (on t conds g m) i) (inside_all t conds g d b stands m (λ id k. f id) x.needs i c.0.1 (first_shown source seen (paths_inside i) x.needs own) (second_shown source seen (paths_inside i) x.needs own) here.0 parts.0)) f)
        needs (put x.id (paths_inside i ++ x.needs) stands) w c.1 (second_shown source seen (paths_inside i ++ x.needs) (paths_below w) s) parts.1

    inside_all : (t : Stack) (conds : Verdicts) (g : Given) → AreDecided conds → AreBound t.template.params g → (stands : StandsFor) (m : Sights) → SightsShown stands m → (own : List (List ℕ)) (i : Inside)
        → CoversInside t.template conds own stands i → Shown (paths_inside i) → Shown own → flaw_inside t.path (on t conds g m) i ≡ None → HasBound (met_inside source seen t.path (on t conds g m) i)
        → AllTold (outputs_inside source seen (on t conds g m) i)
    inside_all t conds g d b stands m f own (shut x) c s k n h = tt
    inside_all t conds g d b stands m f own (inside.given_by form x) c s k n h =
        let given = nested_given t conds g d b own stands m form x f k c.0 n in
        body_all (given_in (on t conds g m) form) given.0 own x c.1 given.1 s (bound_both (flaw_met (offers_flaw t.path (on t conds g m) form)) (met_in source seen (given_in (on t conds g m) form) x) h).1

    body_all : (g : Given) → NoLater g → (needs : List (List ℕ)) (x : Body) → CoversBody needs x → bind_flaw_in g x ≡ None → Shown (paths_in x) → HasBound (met_in source seen g x) → AllTold (outputs_of source seen g x)
    body_all g n needs (barred f) c e s h = tt
    body_all g n needs (halted t f) c e s h = tt
    body_all g n needs (opened t conds w) c e s h =
        let rest = bound_both (met_along source seen t.path (on t conds g) (first_sights t conds seen (own_ids w)) w) (outputs_met t conds (scope_after source seen g t conds w)) (bound_both (flaw_met (bind_flaw t g)) _ h).1 in
        let bound = all_bound t.template.params g n (no_bind t g e) in
        all_told source seen (scope_after source seen g t conds w)
        (scope_known source seen t conds g _ c.0 bound
        (after_told t conds g c.0 bound (first_sights t conds seen (own_ids w)) (first_full source seen t conds (own_ids w) (first_shown source seen (map (path_in t.path) (own_ids w)) (paths_below w) s)) needs (first_stands t (own_ids w)) w c.1
        (second_shown source seen (map (path_in t.path) (own_ids w)) (paths_below w) s) rest.0))
        t conds t.template.outputs

  abbrev SettledAll : List (Member × Evaluated) → Type 0
  SettledAll [] = ⊤
  SettledAll (x ∷ xs) = (Shown x.0.needs → is_settled x.1 ≡ true) × SettledAll xs

  settled_and : (xs ys : List (Member × Evaluated)) → SettledAll xs → SettledAll ys → SettledAll (xs ++ ys)
  settled_and [] ys h k = k
  settled_and (x ∷ xs) ys h k = (h.0, settled_and xs ys h.1 k)

  mutual
    along_settled : (t : Stack) (conds : Verdicts) (g : Given) → AreDecided conds → (needs : List (List ℕ)) → (Shown needs → AreBound t.template.params g) → (stands : StandsFor) (m : Sights) → SightsShown stands m → (w : Work)
        → Covers t.template conds needs stands w → HasBound (met_along source seen t.path (on t conds g) m w) → SettledAll (valued_along source seen t.path (on t conds g) m w)
    along_settled t conds g d needs b stands m f no_work c h = tt
    along_settled t conds g d needs b stands m f (resource r w) c h = (
      λ k. member_settled t conds g d (b (λ q i. k q (c.0.0 q i))) stands m r f k c.0.1,
      along_settled t conds g d needs b stands m f w c.1 (bound_both (map (λ x. a_flaw x) (flaws_of (member_props t.path (on t conds g m) r))) _ h).1,
    )
    along_settled t conds g d needs b stands m f (nested x i w) c h =
        let parts = bound_both (met_inside source seen t.path (on t conds g m) i) (met_along source seen t.path (on t conds g) (nested_sight source x (outputs_inside source seen (on t conds g m) i) m) w) (stack_rest x (flaw_inside t.path (on t conds g m) i) (met_inside source seen t.path (on t conds g m) i ++ met_along source seen t.path (on t conds g) (nested_sight source x (outputs_inside source seen (on t conds g m) i) m) w) h) in
        let none = λ (k : Shown x.needs). (stack_none x (flaw_inside t.path (on t conds g m) i) (met_inside source seen t.path (on t conds g m) i ++ met_along source seen t.path (on t conds g) (nested_sight source x (outputs_inside source seen (on t conds g m) i) m) w) k h).0 in
        settled_and (valued_inside source seen (on t conds g m) i) _
        (inside_settled t conds g d needs b x.needs c.0.0 stands m f i c.0.1 none parts.0)
        (along_settled t conds g d needs b (put x.id (paths_inside i ++ x.needs) stands) (nested_sight source x (outputs_inside source seen (on t conds g m) i) m)
        (put_shown stands m x.id (paths_inside i ++ x.needs) (sight.Nested (stack_id x.name source.number) (by_names (outputs_inside source seen (on t conds g m) i))) f
        (λ k. let own = second_shown source seen (paths_inside i) x.needs k in
        told_names (outputs_inside source seen (on t conds g m) i) (inside_all t conds g d (b (λ q j. own q (c.0.0 q j))) stands m f x.needs i c.0.1 (first_shown source seen (paths_inside i) x.needs k) own (none own) parts.0)))
        w c.1 parts.1)

    inside_settled : (t : Stack) (conds : Verdicts) (g : Given) → AreDecided conds → (needs : List (List ℕ)) → (Shown needs → AreBound t.template.params g) → (own : List (List ℕ)) → In own needs → (stands : StandsFor) (m : Sights) → SightsShown stands m
        → (i : Inside) → CoversInside t.template conds own stands i → (Shown own → flaw_inside t.path (on t conds g m) i ≡ None) → HasBound (met_inside source seen t.path (on t conds g m) i)
        → SettledAll (valued_inside source seen (on t conds g m) i)
    inside_settled t conds g d needs b own around stands m f (shut x) c n h = tt
    inside_settled t conds g d needs b own around stands m f (inside.given_by form x) c n h =
        body_settled (given_in (on t conds g m) form) own x c.1
        (λ k. nested_given t conds g d (b (λ q i. k q (around q i))) own stands m form x f k c.0 (n k))
        (bound_both (flaw_met (offers_flaw t.path (on t conds g m) form)) (met_in source seen (given_in (on t conds g m) form) x) h).1

    body_settled : (g : Given) (needs : List (List ℕ)) (x : Body) → CoversBody needs x → (Shown needs → NoLater g × (bind_flaw_in g x ≡ None)) → HasBound (met_in source seen g x) → SettledAll (valued_in source seen g x)
    body_settled g needs (barred f) c n h = tt
    body_settled g needs (halted t f) c n h = tt
    body_settled g needs (opened t conds w) c n h =
        along_settled t conds g c.0 needs (λ k. all_bound t.template.params g (n k).0 (no_bind t g (n k).1)) (first_stands t (own_ids w)) (first_sights t conds seen (own_ids w)) (first_sights_shown t conds (own_ids w)) w c.1
        (bound_both (met_along source seen t.path (on t conds g) (first_sights t conds seen (own_ids w)) w) (outputs_met t conds (scope_after source seen g t conds w)) (bound_both (flaw_met (bind_flaw t g)) _ h).1).0

  found_settled : (path : List ℕ) (m : Member) (v : Evaluated) (xs : List (Member × Evaluated)) (ms : List Member) → SettledAll xs → AreOf source seen seen xs ms → find (λ x. bytes_eq path x.path) ms ≡ Some m → Shown m.needs
      → option_map (λ r. r.1) (at_path path xs) ≡ Some v → is_settled v ≡ true
  found_settled path m v [] ms h k q s e = let no : ⊥ = cc in absurd no
  found_settled path m v (x ∷ xs) [] h k q s e = absurd k
  found_settled path m v (x ∷ xs) (z ∷ ms) h k q s e =
      by_path (bytes_eq path x.0.path) (ap (λ p. cond (bytes_eq path p.path) (Some z) (find (λ w. bytes_eq path w.path) ms)) k.0 ∙ q) e (λ i j. found_settled path m v xs ms h.1 k.1 i s j) where
        by_path : (t : Bool) → cond t (Some z) (find (λ w. bytes_eq path w.path) ms) ≡ Some m → option_map (λ r. r.1) (cond t (Some x) (at_path path xs)) ≡ Some v
            → (find (λ w. bytes_eq path w.path) ms ≡ Some m → option_map (λ r. r.1) (at_path path xs) ≡ Some v → is_settled v ≡ true) → is_settled v ≡ true
        by_path true i j ih =
            let same : z ≡ m = cc in
            let value : x.1 ≡ v = cc in
            ap is_settled (sym value) ∙ h.0 (subst (λ y. Shown y.needs) (sym (k.0 ∙ same)) s)
        by_path false i j ih = ih i j

pub needed_known : NeededIsKnown
needed_known source before now root bound path m v at shown e =
    found_settled source now path m v (valued_in source now (given_root source) (shape_of source before)) (resources_in (shape_of source before))
    (body_settled source now (given_root source) [] (shape_of source before) (shape_covered source before) (λ k. (root_known source, root)) bound)
    (body_of source now now (given_root source) (shape_of source before)) at (λ q k. among_pass (is_shown now) m.needs q shown k) e
