-- Outputs and exports rest on what is seen of the paths that their expressions mention alone.
use Rattle.std.proofs.Common.{◌≡◌, ℕ, List, [], ◌∷◌, ◌++◌, Bool, true, false, ◌||◌, Option, Some, None, refl, sym, ap, subst, ◌∙◌, filter, filter_map, find, map}
use Rattle.std.specs.Prelude.{cond, flat_map, unwrap_or}
use Rattle.std.specs.List.{cons_option}
use Rattle.std.specs.Option.{option_map_or}
use Rattle.std.specs.Str.{bytes_eq}
use Rattle.std.proofs.lemmas.List.{append_assoc}
use Rattle.std.proofs.lemmas.Slice.Eq.{bytes_eq-Decides}
use Rattle.cf_tree.specs.Keys.{value_at, put}
use Rattle.cf_tree.specs.Lists.{is_among}
use Rattle.cf_tree.specs.declared.source.Source.{Source}
use Rattle.cf_tree.specs.declared.template.Out.{Out}
use Rattle.cf_tree.specs.declared.template.Template.{Template}
use Rattle.cf_eval.specs.declared.env.Sight.TheVariants as sight
use Rattle.cf_graph.specs.Mentions.{Mention, by_ref, by_attribute, mentions_of}
use Rattle.cf_graph.specs.Needs.{holds_in, is_parameter, meant}
use Rattle.cf_desired.specs.Given.{Given, given_in, settings_for}
use Rattle.cf_desired.specs.Met.{Met, a_stack, an_output, a_flaw, bind_flaw, flaw_met, flaws_of, met_along, met_inside, met_in, offers_flaw, output_at, outputs_wanted, scope_after}
use Rattle.cf_desired.specs.Names.{pseudo_of, stack_id}
use Rattle.cf_desired.specs.Plan.{export_met, exported, outputs_in}
use Rattle.cf_desired.specs.Rests.{SeesAllSame, maybe_mentions}
use Rattle.cf_desired.specs.Seeing.{Seen, by_names, first_sights, is_output_made, nested_sight, outputs_inside, own_ids, sights_after}
use Rattle.cf_desired.specs.Shape.{StandsFor, first_stands, given_root, paths_inside, shape_of, stood_for}
use Rattle.cf_desired.specs.Stack.{Stack, Verdicts, Sights}
use Rattle.cf_desired.specs.Stays.{AgreeAt}
use Rattle.cf_desired.specs.Valued.{member_props}
use Rattle.cf_desired.specs.Work.{Member, Nesting, Work, Inside, Body, Shape, no_work, resource, nested, shut, barred, halted, opened}
use Rattle.cf_desired.specs.Work as inside
use Rattle.cf_desired.specs.declared.flaw.Flaw.{Flaw}
use Rattle.cf_desired.specs.declared.wanted.WantedOutput.{WantedOutput}
use Rattle.cf_desired.proofs.Covers.{In, CoversAll, Covers, CoversInside, CoversBody, shape_covered, stood}
use Rattle.cf_desired.proofs.Mentions.{first_agree, second_agree}
use Rattle.cf_desired.proofs.NeedsMatter.{SightsRest, over, first_rest, put_rest, all_agree, given_rest, inside_outputs}
use Rattle.cf_desired.proofs.OrderNeeds.{among_first, among_order, among_second, either_so}
use Rattle.cf_desired.proofs.OutputRest.{output_rests}
use Rattle.cf_rests.specs.Outputs.{Resting, ExportsAreOutputs, ExportsMatter, OutputsMatter, SameEach, ids_mentioned, output_mentions, output_named, output_needs, output_met, outputs_resting, resting, resting_along, resting_in, resting_inside, stands_after}

-- outputs among what is met
abbrev pub outputs_among : List Met → List WantedOutput
outputs_among ms = flat_map output_met ms

pub outputs_both : (xs ys : List Met) → outputs_among (xs ++ ys) ≡ outputs_among xs ++ outputs_among ys
outputs_both [] ys = refl
outputs_both (x ∷ xs) ys = ap (λ l. output_met x ++ l) (outputs_both xs ys) ∙ sym (append_assoc (output_met x) (outputs_among xs) (outputs_among ys))

none_flaws : (fs : List Flaw) → outputs_among (map (λ f. a_flaw f) fs) ≡ []
none_flaws [] = refl
none_flaws (f ∷ fs) = none_flaws fs

none_flaw : (o : Option Flaw) → outputs_among (flaw_met o) ≡ []
none_flaw None = refl
none_flaw (Some f) = refl

all_wanted : (os : List WantedOutput) → outputs_among (map (λ o. an_output o) os) ≡ os
all_wanted [] = refl
all_wanted (o ∷ os) = ap (λ l. o ∷ l) (all_wanted os)

behind_none : (xs ys : List Met) → outputs_among xs ≡ [] → outputs_among (xs ++ ys) ≡ outputs_among ys
behind_none xs ys h = outputs_both xs ys ∙ ap (λ l. l ++ outputs_among ys) h

pub behind_flaws : (fs : List Flaw) (ys : List Met) → outputs_among (map (λ f. a_flaw f) fs ++ ys) ≡ outputs_among ys
behind_flaws fs ys = behind_none (map (λ f. a_flaw f) fs) ys (none_flaws fs)

pub behind_flaw : (o : Option Flaw) (ys : List Met) → outputs_among (flaw_met o ++ ys) ≡ outputs_among ys
behind_flaw o ys = behind_none (flaw_met o) ys (none_flaw o)

-- of a template: its own outputs come last
pub with_outputs : (o : Option Flaw) (xs : List Met) (os : List WantedOutput) → outputs_among (flaw_met o ++ (xs ++ map (λ o. an_output o) os)) ≡ outputs_among xs ++ os
with_outputs o xs os = behind_flaw o (xs ++ map (λ o. an_output o) os) ∙ outputs_both xs (map (λ o. an_output o) os) ∙ ap (λ l. outputs_among xs ++ l) (all_wanted os)

-- what expressions mention is among what an output rests on
module _ (t : Template) (ids : List (List ℕ)) (stands : StandsFor) (needs : List (List ℕ)) (all : (id : List ℕ) → is_among id ids ≡ true → In needs (unwrap_or (value_at id stands) [])) where
  covers_named : (xs : List Mention) → ((id : List ℕ) → is_among id (filter_map (meant t) xs) ≡ true → is_among id ids ≡ true) → CoversAll t needs stands xs
  covers_named [] h = tt
  covers_named (by_attribute name ∷ xs) h =
      (all name (h name (ap (λ b. b || is_among name (filter_map (meant t) xs)) ((bytes_eq-Decides name name).1 refl))), covers_named xs (λ id m. h id (either_so (bytes_eq id name) _ m)))
  covers_named (by_ref name ∷ xs) h = (λ p. all name (h name (there p)), covers_named xs (λ id m. h id (more (is_parameter name t) id m))) where
    there : is_parameter name t ≡ false → is_among name (filter_map (meant t) (by_ref name ∷ xs)) ≡ true
    there p =
        ap (λ b. is_among name (cons_option (cond b None (Some name)) (filter_map (meant t) xs))) p
        ∙ ap (λ b. b || is_among name (filter_map (meant t) xs)) ((bytes_eq-Decides name name).1 refl)

    more : (b : Bool) (id : List ℕ) → is_among id (filter_map (meant t) xs) ≡ true → is_among id (cons_option (cond b None (Some name)) (filter_map (meant t) xs)) ≡ true
    more true id m = m
    more false id m = either_so (bytes_eq id name) _ m

module _ (source : Source) (a b : Seen) where
  each_and : (rs ts : List Resting) (xs ys vs ws : List WantedOutput) → SameEach a b rs xs ys → SameEach a b ts vs ws → SameEach a b (rs ++ ts) (xs ++ vs) (ys ++ ws)
  each_and [] ts [] [] vs ws h k = k
  each_and [] ts [] (y ∷ ys) vs ws h k = absurd h
  each_and [] ts (x ∷ xs) [] vs ws h k = absurd h
  each_and [] ts (x ∷ xs) (y ∷ ys) vs ws h k = absurd h
  each_and (r ∷ rs) ts [] [] vs ws h k = absurd h
  each_and (r ∷ rs) ts [] (y ∷ ys) vs ws h k = absurd h
  each_and (r ∷ rs) ts (x ∷ xs) [] vs ws h k = absurd h
  each_and (r ∷ rs) ts (x ∷ xs) (y ∷ ys) vs ws h k = (h.0, each_and rs ts xs ys vs ws h.1 k)

  -- what is seen once all of some work has come rests on what the ids stand for then
  after_rest : (t : Stack) (conds : Verdicts) (needs : List (List ℕ)) (g h : Given) → (AgreeAt needs a b → h ≡ g) → (stands : StandsFor) (m n : Sights) (w : Work)
      → Covers t.template conds needs stands w → SightsRest source a b stands m n
      → SightsRest source a b (stands_after stands w) (sights_after source a (over source a b t conds g) m w) (sights_after source b (over source a b t conds h) n w)
  after_rest t conds needs g h same stands m n no_work c k = k
  after_rest t conds needs g h same stands m n (resource r w) c k = after_rest t conds needs g h same stands m n w c.1 k
  after_rest t conds needs g h same stands m n (nested x i w) c k =
      after_rest t conds needs g h same (put x.id (paths_inside i ++ x.needs) stands) _ _ w c.1
      (put_rest source a b stands m n x.id (paths_inside i ++ x.needs) _ _ k
      (λ agree. ap (λ os. sight.Nested (stack_id x.name source.number) (by_names os)) (inside_outputs source a b t conds needs g h same x.needs stands m n i c.0.0 c.0.1 k agree)))

  -- the outputs of one template
  module _
      (t : Stack) (conds : Verdicts) (around : List (List ℕ)) (g h : Given) (same : AgreeAt around a b → h ≡ g) (stands : StandsFor) (m n : Sights) (k : SightsRest source a b stands m n) where
    abbrev needs_for : Out → List (List ℕ)
    needs_for o = (resting t conds around stands o).needs

    needs_around : (o : Out) → In (needs_for o) around
    needs_around o q i = among_order q (stood_for stands (ids_mentioned t.template conds o) ++ around) (among_second q (stood_for stands (ids_mentioned t.template conds o)) around i)

    needs_named : (o : Out) (id : List ℕ) → is_among id (ids_mentioned t.template conds o) ≡ true → In (needs_for o) (unwrap_or (value_at id stands) [])
    needs_named o id i q j =
        among_order q (stood_for stands (ids_mentioned t.template conds o) ++ around)
        (among_first q (stood_for stands (ids_mentioned t.template conds o)) around (stood stands id (ids_mentioned t.template conds o) i q j))

    all_same : (o : Out) → AgreeAt (needs_for o) a b → SeesAllSame (settings_for t.template.params g) m n (output_mentions conds o)
    all_same o agree =
        all_agree source a b t.template g (needs_for o) stands m n k agree (output_mentions conds o)
        (covers_named t.template (ids_mentioned t.template conds o) stands (needs_for o) (needs_named o) (output_mentions conds o) (λ id i. i))

    output_same : (o : Out) → AgreeAt (needs_for o) a b → output_at t.path conds (over source a b t conds h n) o ≡ output_at t.path conds (over source a b t conds g m) o
    output_same o agree =
        ap (λ x. output_at t.path conds (over source a b t conds x n) o) (same (λ q i. agree q (needs_around o q i)))
        ∙ output_rests source t conds (settings_for t.template.params g) m n o
        (first_agree t.template (settings_for t.template.params g) conds (pseudo_of t.name source.number) source.imports m n (mentions_of (holds_in conds) o.value) (maybe_mentions conds o.export) (all_same o agree))
        (second_agree t.template (settings_for t.template.params g) conds (pseudo_of t.name source.number) source.imports m n (mentions_of (holds_in conds) o.value) (maybe_mentions conds o.export) (all_same o agree))

    each_same : (os : List Out)
        → SameEach a b (map (resting t conds around stands) os) (map (output_at t.path conds (over source a b t conds g m)) os) (map (output_at t.path conds (over source a b t conds h n)) os)
    each_same [] = tt
    each_same (o ∷ os) = ((refl, refl, output_same o), each_same os)

  wanted_same : (t : Stack) (conds : Verdicts) (w : Work) (around : List (List ℕ)) (g h : Given) → (AgreeAt around a b → h ≡ g) → Covers t.template conds around (first_stands t (own_ids w)) w
      → SameEach a b (outputs_resting t conds around w) (outputs_wanted t conds (scope_after source a g t conds w)) (outputs_wanted t conds (scope_after source b h t conds w))
  wanted_same t conds w around g h same c =
      each_same t conds around g h same (stands_after (first_stands t (own_ids w)) w)
      (sights_after source a (over source a b t conds g) (first_sights t conds a (own_ids w)) w) (sights_after source b (over source a b t conds h) (first_sights t conds b (own_ids w)) w)
      (after_rest t conds around g h same (first_stands t (own_ids w)) (first_sights t conds a (own_ids w)) (first_sights t conds b (own_ids w)) w c (first_rest source a b t conds (own_ids w)))
      (filter (is_output_made conds) t.template.outputs)

  -- all outputs, as they are met
  abbrev MetSame : List Resting → List Met → List Met → Type 0
  MetSame rs xs ys = SameEach a b rs (outputs_among xs) (outputs_among ys)

  met_as : (rs : List Resting) (xs ys vs ws : List WantedOutput) → xs ≡ vs → ys ≡ ws → SameEach a b rs vs ws → SameEach a b rs xs ys
  met_as rs xs ys vs ws g h k = subst (λ l. SameEach a b rs l ys) (sym g) (subst (λ l. SameEach a b rs vs l) (sym h) k)

  mutual
    along_same : (t : Stack) (conds : Verdicts) (needs : List (List ℕ)) (g h : Given) → (AgreeAt needs a b → h ≡ g) → (stands : StandsFor) (m n : Sights) (w : Work)
        → Covers t.template conds needs stands w → SightsRest source a b stands m n
        → MetSame (resting_along w) (met_along source a t.path (over source a b t conds g) m w) (met_along source b t.path (over source a b t conds h) n w)
    along_same t conds needs g h same stands m n no_work c k = tt
    along_same t conds needs g h same stands m n (resource r w) c k =
        met_as (resting_along w) _ _ _ _
        (behind_flaws (flaws_of (member_props t.path (over source a b t conds g m) r)) (met_along source a t.path (over source a b t conds g) m w))
        (behind_flaws (flaws_of (member_props t.path (over source a b t conds h n) r)) (met_along source b t.path (over source a b t conds h) n w))
        (along_same t conds needs g h same stands m n w c.1 k)
    along_same t conds needs g h same stands m n (nested x i w) c k =
        met_as (resting_inside x.needs i ++ resting_along w) _ _ _ _
        (outputs_both (met_inside source a t.path (over source a b t conds g m) i) (met_along source a t.path (over source a b t conds g) (nested_sight source x (outputs_inside source a (over source a b t conds g m) i) m) w))
        (outputs_both (met_inside source b t.path (over source a b t conds h n) i) (met_along source b t.path (over source a b t conds h) (nested_sight source x (outputs_inside source b (over source a b t conds h n) i) n) w))
        (each_and (resting_inside x.needs i) (resting_along w) _ _ _ _ (inside_same t conds needs g h same x.needs stands m n i c.0.0 c.0.1 k)
        (along_same t conds needs g h same (put x.id (paths_inside i ++ x.needs) stands) _ _ w c.1
        (put_rest source a b stands m n x.id (paths_inside i ++ x.needs) _ _ k
        (λ agree. ap (λ os. sight.Nested (stack_id x.name source.number) (by_names os)) (inside_outputs source a b t conds needs g h same x.needs stands m n i c.0.0 c.0.1 k agree)))))

    inside_same : (t : Stack) (conds : Verdicts) (needs : List (List ℕ)) (g h : Given) → (AgreeAt needs a b → h ≡ g) → (own : List (List ℕ)) (stands : StandsFor) (m n : Sights) (i : Inside)
        → In own needs → CoversInside t.template conds own stands i → SightsRest source a b stands m n
        → MetSame (resting_inside own i) (met_inside source a t.path (over source a b t conds g m) i) (met_inside source b t.path (over source a b t conds h n) i)
    inside_same t conds needs g h same own stands m n (shut f) around c k = tt
    inside_same t conds needs g h same own stands m n (inside.given_by form x) around c k =
        met_as (resting_in own x) _ _ _ _
        (behind_flaw (offers_flaw t.path (over source a b t conds g m) form) (met_in source a (given_in (over source a b t conds g m) form) x))
        (behind_flaw (offers_flaw t.path (over source a b t conds h n) form) (met_in source b (given_in (over source a b t conds h n) form) x))
        (body_same own x c.1 (given_in (over source a b t conds g m) form) (given_in (over source a b t conds h n) form) (given_rest source a b t conds needs g h same own stands m n form around c.0 k))

    body_same : (needs : List (List ℕ)) (x : Body) → CoversBody needs x → (g h : Given) → (AgreeAt needs a b → h ≡ g) → MetSame (resting_in needs x) (met_in source a g x) (met_in source b h x)
    body_same needs (barred f) c g h same = tt
    body_same needs (halted t f) c g h same = met_as [] _ _ _ _ (behind_flaw (bind_flaw t g) (a_flaw f ∷ [])) (behind_flaw (bind_flaw t h) (a_flaw f ∷ [])) tt
    body_same needs (opened t conds w) c g h same =
        met_as (resting_along w ++ outputs_resting t conds needs w) _ _ _ _
        (with_outputs (bind_flaw t g) (met_along source a t.path (over source a b t conds g) (first_sights t conds a (own_ids w)) w) (outputs_wanted t conds (scope_after source a g t conds w)))
        (with_outputs (bind_flaw t h) (met_along source b t.path (over source a b t conds h) (first_sights t conds b (own_ids w)) w) (outputs_wanted t conds (scope_after source b h t conds w)))
        (each_and (resting_along w) (outputs_resting t conds needs w) _ _ _ _
        (along_same t conds needs g h same (first_stands t (own_ids w)) (first_sights t conds a (own_ids w)) (first_sights t conds b (own_ids w)) w c.1 (first_rest source a b t conds (own_ids w)))
        (wanted_same t conds w needs g h same c.1))

  -- by name
  named_same : (name : List ℕ) (rs : List Resting) (xs ys : List WantedOutput) → SameEach a b rs xs ys → AgreeAt (option_map_or (λ r. r.needs) (find (λ r. bytes_eq name r.name) rs) []) a b
      → output_named name ys ≡ output_named name xs
  named_same name [] [] [] h k = refl
  named_same name [] [] (y ∷ ys) h k = absurd h
  named_same name [] (x ∷ xs) [] h k = absurd h
  named_same name [] (x ∷ xs) (y ∷ ys) h k = absurd h
  named_same name (r ∷ rs) [] [] h k = absurd h
  named_same name (r ∷ rs) [] (y ∷ ys) h k = absurd h
  named_same name (r ∷ rs) (x ∷ xs) [] h k = absurd h
  named_same name (r ∷ rs) (x ∷ xs) (y ∷ ys) h k =
      ap (λ p. cond (bytes_eq name p) (Some y) (output_named name ys)) h.0.1
      ∙ either (bytes_eq name r.name) k (named_same name rs xs ys h.1)
      ∙ ap (λ p. cond (bytes_eq name p) (Some x) (output_named name xs)) (sym h.0.0) where
        either : (t : Bool) → AgreeAt (option_map_or (λ z. z.needs) (cond t (Some r) (find (λ z. bytes_eq name z.name) rs)) []) a b
            → (AgreeAt (option_map_or (λ z. z.needs) (find (λ z. bytes_eq name z.name) rs) []) a b → output_named name ys ≡ output_named name xs)
            → cond t (Some y) (output_named name ys) ≡ cond t (Some x) (output_named name xs)
        either true k ih = ap (λ o. Some o) (h.0.2 k)
        either false k ih = ih k

  root_same : (name : List ℕ) (g : Given) (x : Body) → CoversBody [] x → AgreeAt (output_needs x name) a b → output_named name (outputs_in source b g x) ≡ output_named name (outputs_in source a g x)
  root_same name g (barred f) c k = refl
  root_same name g (halted t f) c k = refl
  root_same name g (opened t conds w) c k =
      named_same name (outputs_resting t conds [] w) (outputs_wanted t conds (scope_after source a g t conds w)) (outputs_wanted t conds (scope_after source b g t conds w)) (wanted_same t conds w [] g g (λ i. refl) c.1) k

pub outputs_rest : OutputsMatter
outputs_rest source before a b name k = root_same source a b name (given_root source) (shape_of source before) (shape_covered source before) k

pub exports_rest : ExportsMatter
exports_rest source before a b = body_same source a b [] (shape_of source before) (shape_covered source before) (given_root source) (given_root source) (λ k. refl)

-- exports are those of outputs
exports_met : (ms : List Met) → flat_map export_met ms ≡ flat_map exported (outputs_among ms)
exports_met [] = refl
exports_met (a_stack n f ∷ ms) = exports_met ms
exports_met (an_output o ∷ ms) = ap (λ l. exported o ++ l) (exports_met ms)
exports_met (a_flaw f ∷ ms) = exports_met ms

pub exports_of_outputs : ExportsAreOutputs
exports_of_outputs source shape seen = exports_met (met_in source seen (given_root source) shape)
