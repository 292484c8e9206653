-- Why a nested stack can't be bound rests on what is seen of the paths that its stack resource needs alone.
use Rattle.std.proofs.Common.{◌≡◌, ℕ, List, [], ◌∷◌, ◌++◌, Bool, true, false, Option, Some, None, refl, sym, ap, subst, ◌∙◌, map, find, option_map}
use Rattle.std.specs.Prelude.{⊤, cond}
use Rattle.std.specs.Option.{option_or}
use Rattle.std.specs.Str.{bytes_eq}
use Rattle.std.proofs.lemmas.List.{append_assoc, append-nil}
use Rattle.cf_tree.specs.Forms.{Form}
use Rattle.cf_tree.specs.Keys.{put}
use Rattle.cf_tree.specs.declared.source.Source.{Source}
use Rattle.cf_graph.specs.Mentions.{mentions_of}
use Rattle.cf_graph.specs.Needs.{holds_in}
use Rattle.cf_desired.specs.Names.{pseudo_of, stack_id}
use Rattle.cf_desired.specs.Seeing.{Seen, own_ids, first_sights, nested_sight, outputs_inside, by_names}
use Rattle.cf_desired.specs.Met.{flaws_of, Met, an_output, a_flaw, flaw_met, met_along, met_inside, met_in, offers_flaw, bind_flaw, bind_flaw_in, flaw_inside, outputs_wanted, outputs_met, scope_after}
use Rattle.cf_desired.specs.Stays.{AgreeAt}
use Rattle.cf_desired.specs.declared.flaw.Flaw.{Flaw}
use Rattle.cf_desired.specs.declared.wanted.WantedOutput.{WantedOutput}
use Rattle.cf_desired.specs.Plan.{stack_met, stacks_met}
use Rattle.cf_desired.specs.Given.{Given, offers_of, offers_stop, given_in, given_by, settings_for}
use Rattle.cf_desired.specs.NeedsMatter.{StackNeedsMatter}
use Rattle.cf_eval.specs.Scope.{Scope}
use Rattle.cf_desired.specs.Shape.{StandsFor, first_stands, paths_inside, given_root, shape_of}
use Rattle.cf_eval.specs.declared.env.Sight.TheVariants as sight
use Rattle.cf_desired.specs.Stack.{Stack, Verdicts, Sights, Scoping, flaw_at}
use Rattle.cf_desired.specs.Valued.{member_props, nestings_along, nestings_inside, nestings_in}
use Rattle.cf_desired.specs.Work.{Member, Nesting, Work, Inside, Body, no_work, resource, nested, shut, barred, halted, opened}
use Rattle.cf_desired.specs.Work as inside
use Rattle.cf_desired.proofs.Covers.{In, CoversForm, Covers, CoversInside, CoversBody, shape_covered}
use Rattle.cf_desired.proofs.NeedsMatter.{SightsRest, over, first_rest, put_rest, all_agree, given_rest, inside_outputs, offers_same}

abbrev Stacks : Type 0
Stacks = List (Nesting × Option Flaw)

stacks_both : (xs ys : List Met) → stacks_met (xs ++ ys) ≡ stacks_met xs ++ stacks_met ys
stacks_both [] ys = refl
stacks_both (x ∷ xs) ys = ap (λ l. stack_met x ++ l) (stacks_both xs ys) ∙ sym (append_assoc (stack_met x) (stacks_met xs) (stacks_met ys))

none_flaws : (fs : List Flaw) → stacks_met (map (λ f. a_flaw f) fs) ≡ []
none_flaws [] = refl
none_flaws (f ∷ fs) = none_flaws fs

none_outputs : (os : List WantedOutput) → stacks_met (map (λ o. an_output o) os) ≡ []
none_outputs [] = refl
none_outputs (o ∷ os) = none_outputs os

none_flaw : (o : Option Flaw) → stacks_met (flaw_met o) ≡ []
none_flaw None = refl
none_flaw (Some f) = refl

behind_none : (xs ys : List Met) → stacks_met xs ≡ [] → stacks_met (xs ++ ys) ≡ stacks_met ys
behind_none xs ys h = stacks_both xs ys ∙ ap (λ l. l ++ stacks_met ys) h

module _ (source : Source) (a b : Seen) where
  abbrev StacksRest : Stacks → Stacks → Type 0
  StacksRest [] [] = ⊤
  StacksRest (x ∷ xs) (y ∷ ys) = ((y.0 ≡ x.0) × (AgreeAt x.0.needs a b → y.1 ≡ x.1)) × StacksRest xs ys
  StacksRest _ _ = ⊥

  abbrev MetRest : List Met → List Met → Type 0
  MetRest xs ys = StacksRest (stacks_met xs) (stacks_met ys)

  rest_and : (xs ys vs ws : Stacks) → StacksRest xs ys → StacksRest vs ws → StacksRest (xs ++ vs) (ys ++ ws)
  rest_and [] [] vs ws h k = k
  rest_and [] (y ∷ ys) vs ws h k = absurd h
  rest_and (x ∷ xs) [] vs ws h k = absurd h
  rest_and (x ∷ xs) (y ∷ ys) vs ws h k = (h.0, rest_and xs ys vs ws h.1 k)

  met_and : (xs ys vs ws : List Met) → MetRest xs ys → MetRest vs ws → MetRest (xs ++ vs) (ys ++ ws)
  met_and xs ys vs ws h k =
      subst (λ l. StacksRest l (stacks_met (ys ++ ws))) (sym (stacks_both xs vs))
      (subst (λ l. StacksRest (stacks_met xs ++ stacks_met vs) l) (sym (stacks_both ys ws)) (rest_and (stacks_met xs) (stacks_met ys) (stacks_met vs) (stacks_met ws) h k))

  met_none : (xs ys vs ws : List Met) → stacks_met xs ≡ [] → stacks_met ys ≡ [] → MetRest vs ws → MetRest (xs ++ vs) (ys ++ ws)
  met_none xs ys vs ws h k r =
      subst (λ l. StacksRest l (stacks_met (ys ++ ws))) (sym (behind_none xs vs h)) (subst (λ l. StacksRest (stacks_met vs) l) (sym (behind_none ys ws k)) r)

  module _ (t : Stack) (conds : Verdicts) (needs : List (List ℕ)) (g h : Given) (same : AgreeAt needs a b → h ≡ g) where
    offers_rest : (own : List (List ℕ)) (stands : StandsFor) (m n : Sights) (form : Option Form) → In own needs → CoversForm t.template conds own stands form → SightsRest source a b stands m n → AgreeAt own a b
        → offers_of (over source a b t conds h n) form ≡ offers_of (over source a b t conds g m) form
    offers_rest own stands m n None around c k agree = refl
    offers_rest own stands m n (Some f) around c k agree =
        ap (λ x. offers_of (over source a b t conds x n) (Some f)) (same (λ q i. agree q (around q i)))
        ∙ offers_same t.template (settings_for t.template.params g) conds (pseudo_of t.name source.number) source.imports m n None f
        (all_agree source a b t.template g own stands m n k agree (mentions_of (holds_in conds) f) c)

    flaw_rest : (own : List (List ℕ)) (stands : StandsFor) (m n : Sights) (i : Inside) → In own needs → CoversInside t.template conds own stands i → SightsRest source a b stands m n → AgreeAt own a b
        → flaw_inside t.path (over source a b t conds h n) i ≡ flaw_inside t.path (over source a b t conds g m) i
    flaw_rest own stands m n (shut f) around c k agree = refl
    flaw_rest own stands m n (inside.given_by form x) around c k agree =
        ap (λ o. option_or (option_map (flaw_at t.path) (offers_stop o)) (bind_flaw_in (given_by o) x)) (offers_rest own stands m n form around c.0 k agree)

  mutual
    along_stacks : (t : Stack) (conds : Verdicts) (needs : List (List ℕ)) (g h : Given) → (AgreeAt needs a b → h ≡ g) → (stands : StandsFor) (m n : Sights) (w : Work)
        → Covers t.template conds needs stands w → SightsRest source a b stands m n
        → MetRest (met_along source a t.path (over source a b t conds g) m w) (met_along source b t.path (over source a b t conds h) n w)
    along_stacks t conds needs g h same stands m n no_work c k = tt
    along_stacks t conds needs g h same stands m n (resource r w) c k =
        met_none (map (λ f. a_flaw f) (flaws_of (member_props t.path (over source a b t conds g m) r))) (map (λ f. a_flaw f) (flaws_of (member_props t.path (over source a b t conds h n) r))) _ _
        (none_flaws (flaws_of (member_props t.path (over source a b t conds g m) r))) (none_flaws (flaws_of (member_props t.path (over source a b t conds h n) r)))
        (along_stacks t conds needs g h same stands m n w c.1 k)
    along_stacks t conds needs g h same stands m n (nested x i w) c k = (
      (refl, flaw_rest t conds needs g h same x.needs stands m n i c.0.0 c.0.1 k),
      met_and (met_inside source a t.path (over source a b t conds g m) i) (met_inside source b t.path (over source a b t conds h n) i)
          (met_along source a t.path (over source a b t conds g) (nested_sight source x (outputs_inside source a (over source a b t conds g m) i) m) w)
          (met_along source b t.path (over source a b t conds h) (nested_sight source x (outputs_inside source b (over source a b t conds h n) i) n) w)
          (inside_stacks t conds needs g h same x.needs stands m n i c.0.0 c.0.1 k)
          (along_stacks t conds needs g h same (put x.id (paths_inside i ++ x.needs) stands) _ _ w c.1
          (put_rest source a b stands m n x.id (paths_inside i ++ x.needs) _ _ k
          (λ agree. ap (λ os. sight.Nested (stack_id x.name source.number) (by_names os)) (inside_outputs source a b t conds needs g h same x.needs stands m n i c.0.0 c.0.1 k agree)))),
    )

    inside_stacks : (t : Stack) (conds : Verdicts) (needs : List (List ℕ)) (g h : Given) → (AgreeAt needs a b → h ≡ g) → (own : List (List ℕ)) (stands : StandsFor) (m n : Sights) (i : Inside)
        → In own needs → CoversInside t.template conds own stands i → SightsRest source a b stands m n
        → MetRest (met_inside source a t.path (over source a b t conds g m) i) (met_inside source b t.path (over source a b t conds h n) i)
    inside_stacks t conds needs g h same own stands m n (shut f) around c k = tt
    inside_stacks t conds needs g h same own stands m n (inside.given_by form x) around c k =
        met_none (flaw_met (offers_flaw t.path (over source a b t conds g m) form)) (flaw_met (offers_flaw t.path (over source a b t conds h n) form)) _ _
        (none_flaw (offers_flaw t.path (over source a b t conds g m) form)) (none_flaw (offers_flaw t.path (over source a b t conds h n) form))
        (body_stacks own x c.1 (given_in (over source a b t conds g m) form) (given_in (over source a b t conds h n) form) (given_rest source a b t conds needs g h same own stands m n form around c.0 k))

    body_stacks : (needs : List (List ℕ)) (x : Body) → CoversBody needs x → (g h : Given) → (AgreeAt needs a b → h ≡ g) → MetRest (met_in source a g x) (met_in source b h x)
    body_stacks needs (barred f) c g h same = tt
    body_stacks needs (halted t f) c g h same = met_none (flaw_met (bind_flaw t g)) (flaw_met (bind_flaw t h)) (a_flaw f ∷ []) (a_flaw f ∷ []) (none_flaw (bind_flaw t g)) (none_flaw (bind_flaw t h)) tt
    body_stacks needs (opened t conds w) c g h same =
        met_none (flaw_met (bind_flaw t g)) (flaw_met (bind_flaw t h)) _ _ (none_flaw (bind_flaw t g)) (none_flaw (bind_flaw t h))
        (met_and (met_along source a t.path (over source a b t conds g) (first_sights t conds a (own_ids w)) w) (met_along source b t.path (over source a b t conds h) (first_sights t conds b (own_ids w)) w)
        (outputs_met t conds (scope_after source a g t conds w)) (outputs_met t conds (scope_after source b h t conds w))
        (along_stacks t conds needs g h same (first_stands t (own_ids w)) (first_sights t conds a (own_ids w)) (first_sights t conds b (own_ids w)) w c.1 (first_rest source a b t conds (own_ids w)))
        (subst (λ l. StacksRest l (stacks_met (outputs_met t conds (scope_after source b h t conds w)))) (sym (none_outputs (outputs_wanted t conds (scope_after source a g t conds w))))
        (subst (λ l. StacksRest [] l) (sym (none_outputs (outputs_wanted t conds (scope_after source b h t conds w)))) tt)))

  -- the nested stacks that are met are those of the shape
  abbrev AreOf : Stacks → List Nesting → Type 0
  AreOf [] [] = ⊤
  AreOf (x ∷ xs) (n ∷ ns) = (x.0 ≡ n) × AreOf xs ns
  AreOf _ _ = ⊥

  of_and : (xs ys : Stacks) (ms ns : List Nesting) → AreOf xs ms → AreOf ys ns → AreOf (xs ++ ys) (ms ++ ns)
  of_and [] ys [] ns h k = k
  of_and [] ys (m ∷ ms) ns h k = absurd h
  of_and (x ∷ xs) ys [] ns h k = absurd h
  of_and (x ∷ xs) ys (m ∷ ms) ns h k = (h.0, of_and xs ys ms ns h.1 k)

  met_of_and : (xs ys : List Met) (ms ns : List Nesting) → AreOf (stacks_met xs) ms → AreOf (stacks_met ys) ns → AreOf (stacks_met (xs ++ ys)) (ms ++ ns)
  met_of_and xs ys ms ns h k = subst (λ l. AreOf l (ms ++ ns)) (sym (stacks_both xs ys)) (of_and (stacks_met xs) (stacks_met ys) ms ns h k)

  of_none : (xs ys : List Met) (ns : List Nesting) → stacks_met xs ≡ [] → AreOf (stacks_met ys) ns → AreOf (stacks_met (xs ++ ys)) ns
  of_none xs ys ns h k = subst (λ l. AreOf l ns) (sym (behind_none xs ys h)) k

  no_more : (xs ys : List Met) (ns : List Nesting) → stacks_met ys ≡ [] → AreOf (stacks_met xs) ns → AreOf (stacks_met (xs ++ ys)) ns
  no_more xs ys ns h k = subst (λ l. AreOf l ns) (sym (stacks_both xs ys ∙ ap (λ l. stacks_met xs ++ l) h ∙ append-nil (stacks_met xs))) k

  mutual
    along_of : (path : List ℕ) (o : Scoping) (m : Sights) (w : Work) → AreOf (stacks_met (met_along source a path o m w)) (nestings_along w)
    along_of path o m no_work = tt
    along_of path o m (resource r w) = of_none (map (λ f. a_flaw f) (flaws_of (member_props path (o m) r))) _ (nestings_along w) (none_flaws (flaws_of (member_props path (o m) r))) (along_of path o m w)
    along_of path o m (nested x i w) = (
      refl,
      met_of_and (met_inside source a path (o m) i) (met_along source a path o (nested_sight source x (outputs_inside source a (o m) i) m) w) (nestings_inside i) (nestings_along w)
          (inside_of path (o m) i) (along_of path o (nested_sight source x (outputs_inside source a (o m) i) m) w),
    )

    inside_of : (path : List ℕ) (s : Scope) (i : Inside) → AreOf (stacks_met (met_inside source a path s i)) (nestings_inside i)
    inside_of path s (shut f) = tt
    inside_of path s (inside.given_by form x) = of_none (flaw_met (offers_flaw path s form)) (met_in source a (given_in s form) x) (nestings_in x) (none_flaw (offers_flaw path s form)) (body_of (given_in s form) x)

    body_of : (g : Given) (x : Body) → AreOf (stacks_met (met_in source a g x)) (nestings_in x)
    body_of g (barred f) = tt
    body_of g (halted t f) = of_none (flaw_met (bind_flaw t g)) (a_flaw f ∷ []) [] (none_flaw (bind_flaw t g)) tt
    body_of g (opened t conds w) =
        of_none (flaw_met (bind_flaw t g)) _ (nestings_along w) (none_flaw (bind_flaw t g))
        (no_more (met_along source a t.path (over source a b t conds g) (first_sights t conds a (own_ids w)) w) (outputs_met t conds (scope_after source a g t conds w)) (nestings_along w) (none_outputs (outputs_wanted t conds (scope_after source a g t conds w)))
        (along_of t.path (over source a b t conds g) (first_sights t conds a (own_ids w)) w))

  found_rest : (path : List ℕ) (n : Nesting) (xs ys : Stacks) (ns : List Nesting) → StacksRest xs ys → AreOf xs ns → find (λ x. bytes_eq path x.path) ns ≡ Some n → AgreeAt n.needs a b
      → option_map (λ s. s.1) (find (λ s. bytes_eq path s.0.path) ys) ≡ option_map (λ s. s.1) (find (λ s. bytes_eq path s.0.path) xs)
  found_rest path n [] [] ns h k q g = refl
  found_rest path n [] (y ∷ ys) ns h k q g = absurd h
  found_rest path n (x ∷ xs) [] ns h k q g = absurd h
  found_rest path n (x ∷ xs) (y ∷ ys) [] h k q g = absurd k
  found_rest path n (x ∷ xs) (y ∷ ys) (z ∷ ns) h k q g =
      ap (λ p. option_map (λ s. s.1) (cond (bytes_eq path p.path) (Some y) (find (λ s. bytes_eq path s.0.path) ys))) h.0.0
      ∙ by_path (bytes_eq path x.0.path) (ap (λ p. cond (bytes_eq path p.path) (Some z) (find (λ w. bytes_eq path w.path) ns)) k.0 ∙ q) (λ e. found_rest path n xs ys ns h.1 k.1 e g) where
        by_path : (t : Bool) → cond t (Some z) (find (λ w. bytes_eq path w.path) ns) ≡ Some n
            → (find (λ w. bytes_eq path w.path) ns ≡ Some n → option_map (λ s. s.1) (find (λ s. bytes_eq path s.0.path) ys) ≡ option_map (λ s. s.1) (find (λ s. bytes_eq path s.0.path) xs))
            → option_map (λ s. s.1) (cond t (Some y) (find (λ s. bytes_eq path s.0.path) ys)) ≡ option_map (λ s. s.1) (cond t (Some x) (find (λ s. bytes_eq path s.0.path) xs))
        by_path true e ih = let same : z ≡ n = cc in ap (λ v. Some v) (h.0.1 (subst (λ w. AgreeAt w.needs a b) (sym (k.0 ∙ same)) g))
        by_path false e ih = ih e

pub stack_needs_suffice : StackNeedsMatter
stack_needs_suffice source before a b path n q g =
    found_rest source a b path n _ _ (nestings_in (shape_of source before))
    (body_stacks source a b [] (shape_of source before) (shape_covered source before) (given_root source) (given_root source) (λ k. refl))
    (body_of source a b (given_root source) (shape_of source before)) q g
