-- What a path needs comes before it in the order of work.
use Rattle.std.proofs.Common.{◌≡◌, ℕ, zero, suc, List, [], ◌∷◌, ◌++◌, Bool, true, false, not, ◌&&◌, ◌||◌, ◌⊎◌, inl, inr, Option, Some, None, Result, Ok, Err, refl, sym, ap, subst, ◌∙◌, true≢false, filter, map, fold, find}
use Rattle.std.specs.Prelude.{⊤, cond, codes, is_some, nat_lt, length, ◌+◌, IfOk, unwrap_or}
use Rattle.std.specs.Cmp.{first_so, second_so}
use Rattle.std.specs.List.{list_all}
use Rattle.std.specs.Option.{option_map_or, option_and_then}
use Rattle.std.specs.Ordering.{nat_cmp, match_ordering}
use Rattle.std.specs.declared.cmp.Ordering.{Ordering}
use Rattle.std.specs.declared.cmp.Ordering.TheVariants.{Less, Equal, Greater}
use Rattle.std.specs.Cmp.Lexicographic.{slice_cmp}
use Rattle.std.specs.Str.{bytes_eq}
use Rattle.std.proofs.lemmas.List.{append_assoc, append-nil, map-append}
use Rattle.std.proofs.lemmas.List.Folds.{list_any-append}
use Rattle.std.proofs.lemmas.Slice.Eq.{bytes_eq-Decides}
use Rattle.cf_tree.specs.Keys.{value_at, put}
use Rattle.cf_tree.specs.Named.{found}
use Rattle.cf_tree.specs.declared.source.Source.{Source}
use Rattle.cf_tree.specs.declared.template.Res.{Res}
use Rattle.cf_tree.specs.declared.template.Template.{Template}
use Rattle.cf_template.specs.Whole.{template_of}
use Rattle.cf_template.specs.declared.refusal.TemplateFault.{TemplateFault}
use Rattle.cf_template.proofs.Ordered.{AreOrdered, template_ordered}
use Rattle.cf_graph.specs.Needs.{OrderFault, needs_of, is_made, is_next, ordered, referred_to, all_needs, order_of, cycle_of, unknown_dependency, unless_unknown, resource_named}
use Rattle.cf_tree.specs.Lists.{is_among}
use Rattle.cf_desired.specs.Names.{path_in, pseudo_of}
use Rattle.cf_desired.specs.Seeing.{Seen, own_ids, first_sights}
use Rattle.cf_desired.specs.Shape.{put_name, in_order, has_stack_shape, first_later, Entering, StandsFor, PlanInProgress, Laying, stood_for, first_stands, paths_below, paths_inside, paths_in, own_id, own_in, needed_by, unnamed_at, member_of, nesting_of, template_name_of, laid_within, entering_below, body_at, inside_of, progress_after, nested_before, step_before, work_along, body_in_order, verdicts_of, body_decided, body_bound, laid, given_root, root_of, shape_of}
use Rattle.cf_desired.specs.Templates.{is_stack, accepted, template_named}
use Rattle.cf_desired.specs.declared.flaw.Flaw.{Flaw}
use Rattle.cf_desired.specs.declared.flaw.Flaw.TheVariants as flaw
use Rattle.cf_desired.proofs.OrderNeeds.{made_names, HasNeeds, AllNeeds, order_needs, is_needed, among_first, among_second, either_so}
use Rattle.cf_desired.proofs.Puts.{among_pass, value_put}
use Rattle.cf_desired.specs.ComeFirst.{ComeFirst, NeedsComeFirst}
use Rattle.cf_eval.specs.Conditions.{conditions_of}
use Rattle.cf_desired.specs.Given.{Given, given_in, settings_for}
use Rattle.cf_eval.specs.Outcome.{Outcome, got, later, bad}
use Rattle.cf_eval.specs.Scope.{Scope}
use Rattle.cf_desired.specs.Stack.{Verdicts, Settings, Scoping, scoping}
use Rattle.cf_desired.specs.Valued.{resources_along, resources_inside, resources_in}
use Rattle.cf_desired.specs.Work.{Member, Nesting, Work, Inside, Body, no_work, resource, nested, shut, barred, halted, opened}
use Rattle.cf_desired.specs.Work as inside
use Rattle.cf_desired.proofs.Covers.{In}

-- among lists
pub among_split : (q : List ℕ) (xs ys : List (List ℕ)) → is_among q (xs ++ ys) ≡ true → (is_among q xs ≡ true) ⊎ (is_among q ys ≡ true)
among_split q xs ys h = either (is_among q xs) refl (sym (list_any-append (λ n. bytes_eq q n) xs ys) ∙ h) where
  either : (b : Bool) → is_among q xs ≡ b → (is_among q xs || is_among q ys) ≡ true → (is_among q xs ≡ true) ⊎ (is_among q ys ≡ true)
  either true e g = inl e
  either false e g = inr (sym (ap (λ c. c || is_among q ys) e) ∙ g)

in_both : (all xs ys : List (List ℕ)) → In all xs → In all ys → In all (xs ++ ys)
in_both all xs ys g h q k = either (among_split q xs ys k) where
  either : (is_among q xs ≡ true) ⊎ (is_among q ys ≡ true) → is_among q all ≡ true
  either (inl e) = g q e
  either (inr e) = h q e

in_more : (all more qs : List (List ℕ)) → In all qs → In (all ++ more) qs
in_more all more qs h q k = among_first q all more (h q k)

pub in_none : (all : List (List ℕ)) → In all []
in_none all q h = absurd (true≢false (sym h))

one_in : (q k : List ℕ) → is_among q (k ∷ []) ≡ true → q ≡ k
one_in q k h = either (bytes_eq q k) refl h where
  either : (b : Bool) → bytes_eq q k ≡ b → (b || false) ≡ true → q ≡ k
  either true e g = (bytes_eq-Decides q k).0 e
  either false e g = absurd (true≢false (sym g))

all_pass : (test : List ℕ → Bool) (qs : List (List ℕ)) → ((q : List ℕ) → is_among q qs ≡ true → test q ≡ true) → list_all test qs ≡ true
all_pass test [] h = refl
all_pass test (k ∷ qs) h =
    ap (λ b. b && list_all test qs) (h k (ap (λ b. b || is_among k qs) ((bytes_eq-Decides k k).1 refl))) ∙ all_pass test qs (λ q g. h q (either_so (bytes_eq q k) _ g))

-- what is among names in order is among them
abbrev AllIn : List (List ℕ) → List (List ℕ) → Type 0
AllIn all qs = list_all (λ q. is_among q all) qs ≡ true

both_so : (a b : Bool) → a ≡ true → b ≡ true → (a && b) ≡ true
both_so true b g h = h
both_so false b g h = g

put_by :
    (all : List (List ℕ)) (k : List ℕ) (p : List ℕ × Bool) (ps : List (List ℕ × Bool)) (o : Ordering) → is_among k all ≡ true → is_among p.0 all ≡ true → AllIn all (map (λ x. x.0) ps)
    → AllIn all (map (λ x. x.0) (put k true ps)) → AllIn all (map (λ x. x.0) (match_ordering o ((k, true) ∷ p ∷ ps) ((p.0, true) ∷ ps) (p ∷ put k true ps)))
put_by all k p ps Less g h i ih = both_so _ _ g (both_so _ _ h i)
put_by all k p ps Equal g h i ih = both_so _ _ h i
put_by all k p ps Greater g h i ih = both_so _ _ h ih

put_in : (all : List (List ℕ)) (k : List ℕ) (ps : List (List ℕ × Bool)) → is_among k all ≡ true → AllIn all (map (λ x. x.0) ps) → AllIn all (map (λ x. x.0) (put k true ps))
put_in all k [] g h = both_so _ true g refl
put_in all k (p ∷ ps) g h =
    put_by all k p ps (slice_cmp nat_cmp k p.0) g (first_so (is_among p.0 all) _ h) (second_so (is_among p.0 all) _ h) (put_in all k ps g (second_so (is_among p.0 all) _ h))

fold_in : (all names : List (List ℕ)) (ps : List (List ℕ × Bool)) → AllIn all names → AllIn all (map (λ x. x.0) ps) → AllIn all (map (λ x. x.0) (fold put_name ps names))
fold_in all [] ps g h = h
fold_in all (k ∷ names) ps g h = fold_in all names (put_name ps k) (second_so (is_among k all) _ g) (put_in all k ps (first_so (is_among k all) _ g) h)

pub order_in : (all names : List (List ℕ)) → In all names → In all (in_order names)
order_in all names g q h = among_pass (λ p. is_among p all) (in_order names) q (fold_in all names [] (all_pass (λ p. is_among p all) names g) refl) h

-- an order of work: what each needs has come
abbrev GoodFrom : List (List ℕ) → List (List ℕ × List (List ℕ)) → Type 0
GoodFrom placed [] = ⊤
GoodFrom placed (m ∷ ms) = In placed m.1 × GoodFrom (placed ++ m.0 ∷ []) ms

abbrev pub names_of : List (List ℕ × List (List ℕ)) → List (List ℕ)
names_of rows = map (λ r. r.0) rows

pub keys_among : (q : List ℕ) (rows : List (List ℕ × List (List ℕ))) → is_some (value_at q rows) ≡ is_among q (names_of rows)
keys_among q [] = refl
keys_among q (p ∷ ps) = by_name (bytes_eq q p.0) (keys_among q ps) where
  by_name : (b : Bool) → is_some (value_at q ps) ≡ is_among q (names_of ps) → is_some (cond b (Some p.1) (value_at q ps)) ≡ (b || is_among q (names_of ps))
  by_name true ih = refl
  by_name false ih = ih

good_and : (placed : List (List ℕ)) (rows : List (List ℕ × List (List ℕ))) (r : List ℕ × List (List ℕ)) → GoodFrom placed rows → In (placed ++ names_of rows) r.1 → GoodFrom placed (rows ++ r ∷ [])
good_and placed [] r h g = (subst (λ all. In all r.1) (append-nil placed) g, tt)
good_and placed (x ∷ rows) r h g = (h.0, good_and (placed ++ x.0 ∷ []) rows r h.1 (subst (λ all. In all r.1) (sym (append_assoc placed (x.0 ∷ []) (names_of rows))) g))

pub find_passes : {A : Type 0} (test : A → Bool) (xs : List A) (x : A) → find test xs ≡ Some x → test x ≡ true
find_passes test [] x e = let no : ⊥ = cc in absurd no
find_passes test (y ∷ xs) x e = by_test (test y) refl e (find_passes test xs x) where
  by_test : (b : Bool) → test y ≡ b → cond b (Some y) (find test xs) ≡ Some x → (find test xs ≡ Some x → test x ≡ true) → test x ≡ true
  by_test true g k ih = let same : y ≡ x = cc in ap test (sym same) ∙ g
  by_test false g k ih = ih k

next_in : (placed : List (List ℕ × List (List ℕ))) (r : List ℕ × List (List ℕ)) → is_next placed r ≡ true → In (names_of placed) r.1
next_in placed r h q g =
    sym (keys_among q placed) ∙ among_pass (λ n. is_some (value_at n placed)) r.1 q (second_so (not (is_some (value_at r.0 placed))) _ h) g

order_good : (left : ℕ) (all placed : List (List ℕ × List (List ℕ))) → GoodFrom [] placed → GoodFrom [] (ordered left all placed)
order_good zero all placed h = h
order_good (suc left) all placed h = by_next (find (is_next placed) all) refl (λ m g. order_good left all (placed ++ m ∷ []) g) where
  by_next : (o : Option (List ℕ × List (List ℕ))) → find (is_next placed) all ≡ o
      → ((m : List ℕ × List (List ℕ)) → GoodFrom [] (placed ++ m ∷ []) → GoodFrom [] (ordered left all (placed ++ m ∷ [])))
      → GoodFrom [] (option_map_or (λ r. ordered left all (placed ++ r ∷ [])) o placed)
  by_next None e ih = h
  by_next (Some m) e ih = ih m (good_and [] placed m h (next_in placed m (find_passes (is_next placed) all m e)))

needs_good : (t : Template) (conds : Verdicts) → IfOk (needs_of t conds) (GoodFrom [])
needs_good t conds = by_unknown (unknown_dependency t) where
  by_cycle : (o : Option (List (List ℕ))) → IfOk (order_of (all_needs t conds) o) (GoodFrom [])
  by_cycle None = order_good (length (all_needs t conds)) (all_needs t conds) [] tt
  by_cycle (Some c) = tt

  by_unknown : (o : Option (List ℕ × List ℕ)) → IfOk (unless_unknown o (order_of (all_needs t conds) (cycle_of (all_needs t conds)))) (GoodFrom [])
  by_unknown None = by_cycle (cycle_of (all_needs t conds))
  by_unknown (Some x) = tt

-- templates of a source have their resources in order
abbrev pub IfOrdered : Option Template → Type 0
IfOrdered None = ⊤
IfOrdered (Some t) = AreOrdered t.resources

pub if_ordered : (name : List ℕ) (source : Source) → IfOrdered (template_named name source)
if_ordered name source = by_text (value_at name source.texts) where
  by_reading : (r : Result Template TemplateFault) → IfOk r (λ t. AreOrdered t.resources) → IfOrdered (accepted r)
  by_reading (Ok t) h = h
  by_reading (Err f) h = tt

  by_text : (o : Option (List ℕ)) → IfOrdered (option_and_then (λ bytes. accepted (template_of bytes)) o)
  by_text None = tt
  by_text (Some bytes) = by_reading (template_of bytes) (template_ordered bytes)

-- a made name is declared
not_made : (conds : Verdicts) (t : Template) (k : List ℕ) (rs : List Res) → found (λ r. r.name) k rs ≡ None → is_among k (made_names t conds rs) ≡ false
not_made conds t k [] h = refl
not_made conds t k (r ∷ rs) h = by_name (bytes_eq k r.name) refl (is_made conds r) h (not_made conds t k rs) where
  by_name : (b : Bool) → bytes_eq k r.name ≡ b → (m : Bool) → cond b (Some r) (found (λ x. x.name) k rs) ≡ None
      → (found (λ x. x.name) k rs ≡ None → is_among k (made_names t conds rs) ≡ false)
      → is_among k (map (λ x. x.name) (cond m (r ∷ filter (is_made conds) rs) (filter (is_made conds) rs))) ≡ false
  by_name true e m g ih = let no : ⊥ = cc in absurd no
  by_name false e true g ih = ap (λ b. b || is_among k (made_names t conds rs)) e ∙ ih g
  by_name false e false g ih = ih g

pub found_name : (k : List ℕ) (rs : List Res) (r : Res) → found (λ x. x.name) k rs ≡ Some r → r.name ≡ k
found_name k rs r e = sym ((bytes_eq-Decides k r.name).0 (find_passes (λ x. bytes_eq k x.name) rs r e))

abbrev paths_of : List Member → List (List ℕ)
paths_of ms = map (λ m. m.path) ms

abbrev FirstAll : List (List ℕ) → List Member → Type 0
FirstAll before [] = ⊤
FirstAll before (m ∷ ms) = In before m.needs × FirstAll (before ++ m.path ∷ []) ms

first_and : (before : List (List ℕ)) (ms ns : List Member) → FirstAll before ms → FirstAll (before ++ paths_of ms) ns → FirstAll before (ms ++ ns)
first_and before [] ns h g = subst (λ all. FirstAll all ns) (append-nil before) g
first_and before (m ∷ ms) ns h g = (h.0, first_and (before ++ m.path ∷ []) ms ns h.1 (subst (λ all. FirstAll all ns) (sym (append_assoc before (m.path ∷ []) (paths_of ms))) g))

pub record Along (path : List ℕ) (before : List (List ℕ)) (w : Work) : Type 0 where
  pub first : FirstAll before (resources_along w)
  pub own : In (before ++ paths_of (resources_along w)) (map (path_in path) (own_ids w))
  pub below : In (before ++ paths_of (resources_along w)) (paths_below w)

pub record Within (before : List (List ℕ)) (ms : List Member) (paths : List (List ℕ)) : Type 0 where
  pub first : FirstAll before ms
  pub inside : In (before ++ paths_of ms) paths

none_within : (before : List (List ℕ)) → Within before [] []
none_within before = record { first = tt; inside = in_none (before ++ []) }

abbrev LaysFirst : Option Laying → Type 0
LaysFirst None = ⊤
LaysFirst (Some lay) =
    (e : Entering) (g : Given) (templates members : ℕ) (before : List (List ℕ)) → In before e.needs → AreOrdered e.stack.template.resources
    → Within before (resources_in (lay e g templates members)) (paths_in (lay e g templates members))

abbrev BodyWithin : List (List ℕ) → Body → Type 0
BodyWithin before x = Within before (resources_in x) (paths_in x)

module _ (lay : Option Laying) (source : Source) (seen : Seen) (lays : LaysFirst lay) where
  laid_first : (o : Option Laying) → LaysFirst o → (path name : List ℕ) (templates members : ℕ) (t : Option Template) → IfOrdered t → (e : Entering) (n : Nesting) (r : Res) (g : Given) (before : List (List ℕ)) → In before n.needs
      → BodyWithin before (laid_within o path name templates members t (entering_below e n r) g)
  laid_first None h path name templates members t s e n r g before k = none_within before
  laid_first (Some l) h path name templates members None s e n r g before k = either (nat_lt 16 (templates + 1)) where
    either : (b : Bool) → BodyWithin before (cond b (barred (flaw.TooMany (templates + 1))) (barred (flaw.TemplateMissing name)))
    either true = none_within before
    either false = none_within before
  laid_first (Some l) h path name templates members (Some t) s e n r g before k = either (nat_lt 16 (templates + 1)) (nat_lt 2000 (members + length t.resources)) where
    either : (b c : Bool)
        → BodyWithin before (cond b (barred (flaw.TooMany (templates + 1))) (cond c (barred (flaw.TooMany (members + length t.resources))) (l (entering_below e n r t) g (templates + 1) (members + length t.resources))))
    either true c = none_within before
    either false true = none_within before
    either false false = h (entering_below e n r t) g (templates + 1) (members + length t.resources) before k s

  name_first : (e : Entering) (n : Nesting) (r : Res) (templates members : ℕ) (g : Given) (u : Result (List ℕ) Flaw) (before : List (List ℕ)) → In before n.needs → BodyWithin before (body_at lay source e n r templates members g u)
  name_first e n r templates members g (Err f) before k = none_within before
  name_first e n r templates members g (Ok name) before k =
      laid_first lay lays n.path name templates members (template_named name source) (if_ordered name source) e n r g before k

  inside_first : (e : Entering) (s : Scope) (c : PlanInProgress) (n : Nesting) (r : Res) (o : Option Flaw) (before : List (List ℕ)) → In before n.needs
      → Within before (resources_inside (inside_of lay source e s c n r o)) (paths_inside (inside_of lay source e s c n r o))
  inside_first e s c n r (Some f) before k = none_within before
  inside_first e s c n r None before k = either (has_stack_shape r) where
    either : (b : Bool)
        → Within before (resources_inside (cond b (inside.given_by (value_at (codes "Parameters") r.props) (body_at lay source e n r c.templates c.members (given_in s (value_at (codes "Parameters") r.props)) (template_name_of e.stack.path n.path s r))) (shut (flaw.Shape n.path))))
        (paths_inside (cond b (inside.given_by (value_at (codes "Parameters") r.props) (body_at lay source e n r c.templates c.members (given_in s (value_at (codes "Parameters") r.props)) (template_name_of e.stack.path n.path s r))) (shut (flaw.Shape n.path))))
    either true = name_first e n r c.templates c.members (given_in s (value_at (codes "Parameters") r.props)) (template_name_of e.stack.path n.path s r) before k
    either false = none_within before

  module _ (e : Entering) (conds : Verdicts) (over : Scoping) where
    -- what has come
    pub record Come (before placed : List (List ℕ)) (stands : StandsFor) : Type 0 where
      pub around : In before e.needs
      pub come : (id : List ℕ) → is_among id placed ≡ true → In before (unwrap_or (value_at id stands) [])
      pub alone : (id : List ℕ) → In before (unwrap_or (value_at id stands) []) ⊎ In (path_in e.stack.path id ∷ []) (unwrap_or (value_at id stands) [])
      pub made : (id : List ℕ) → (value_at id stands ≡ None) ⊎ (is_among id (made_names e.stack.template conds e.stack.template.resources) ≡ true)

    stood_in : (before : List (List ℕ)) (stands : StandsFor) (ids : List (List ℕ)) → ((id : List ℕ) → is_among id ids ≡ true → In before (unwrap_or (value_at id stands) [])) → In before (stood_for stands ids)
    stood_in before stands [] h = in_none before
    stood_in before stands (k ∷ ids) h =
        in_both before (unwrap_or (value_at k stands) []) (stood_for stands ids) (h k (ap (λ b. b || is_among k ids) ((bytes_eq-Decides k k).1 refl)))
        (stood_in before stands ids (λ id g. h id (either_so (bytes_eq id k) _ g)))

    needed_in : (before placed : List (List ℕ)) (stands : StandsFor) (m : List ℕ × List (List ℕ)) (r : Res) → Come before placed stands → HasNeeds e.stack.template conds m
        → resource_named m.0 e.stack.template ≡ Some r → In placed m.1 → In before (needed_by e conds stands r)
    needed_in before placed stands m r c h q k =
        order_in before (stood_for stands (referred_to e.stack.template conds r) ++ e.needs)
        (in_both before (stood_for stands (referred_to e.stack.template conds r)) e.needs (stood_in before stands (referred_to e.stack.template conds r) (λ id g. either id g (c.made id))) c.around) where
          either : (id : List ℕ) → is_among id (referred_to e.stack.template conds r) ≡ true → (value_at id stands ≡ None) ⊎ (is_among id (made_names e.stack.template conds e.stack.template.resources) ≡ true)
              → In before (unwrap_or (value_at id stands) [])
          either id g (inl none) = subst (λ o. In before (unwrap_or o [])) (sym none) (in_none before)
          either id g (inr made) = c.come id (k id (subst (λ ns. is_among id ns ≡ true) (sym (h.1 r q)) (is_needed e.stack.template conds id r g made)))

    come_plain : (before placed : List (List ℕ)) (stands : StandsFor) (k : List ℕ) → Come before placed stands → Come (before ++ path_in e.stack.path k ∷ []) (placed ++ k ∷ []) stands
    come_plain before placed stands k c = record {
      around = in_more before (path_in e.stack.path k ∷ []) e.needs c.around;
      come = λ id g. either id (among_split id placed (k ∷ []) g);
      alone = λ id. more id (c.alone id);
      made = c.made;
    } where
      more : (id : List ℕ) → In before (unwrap_or (value_at id stands) []) ⊎ In (path_in e.stack.path id ∷ []) (unwrap_or (value_at id stands) [])
          → In (before ++ path_in e.stack.path k ∷ []) (unwrap_or (value_at id stands) []) ⊎ In (path_in e.stack.path id ∷ []) (unwrap_or (value_at id stands) [])
      more id (inl h) = inl (in_more before (path_in e.stack.path k ∷ []) (unwrap_or (value_at id stands) []) h)
      more id (inr h) = inr h

      own : In before (unwrap_or (value_at k stands) []) ⊎ In (path_in e.stack.path k ∷ []) (unwrap_or (value_at k stands) []) → In (before ++ path_in e.stack.path k ∷ []) (unwrap_or (value_at k stands) [])
      own (inl h) q g = in_more before (path_in e.stack.path k ∷ []) (unwrap_or (value_at k stands) []) h q g
      own (inr h) q g = among_second q before (path_in e.stack.path k ∷ []) (h q g)

      either : (id : List ℕ) → (is_among id placed ≡ true) ⊎ (is_among id (k ∷ []) ≡ true) → In (before ++ path_in e.stack.path k ∷ []) (unwrap_or (value_at id stands) [])
      either id (inl h) = in_more before (path_in e.stack.path k ∷ []) (unwrap_or (value_at id stands) []) (c.come id h)
      either id (inr h) = subst (λ i. In (before ++ path_in e.stack.path k ∷ []) (unwrap_or (value_at i stands) [])) (sym (one_in id k h)) (own (c.alone k))

    come_nested : (before more placed : List (List ℕ)) (stands : StandsFor) (k : List ℕ) (ps : List (List ℕ)) → In (before ++ more) ps → is_among k (made_names e.stack.template conds e.stack.template.resources) ≡ true
        → Come before placed stands → Come (before ++ more) (placed ++ k ∷ []) (put k ps stands)
    come_nested before more placed stands k ps within made c = record {
      around = in_more before more e.needs c.around;
      come = λ id g. subst (λ o. In (before ++ more) (unwrap_or o [])) (sym (value_put id k ps stands)) (come_by id (bytes_eq id k) refl (among_split id placed (k ∷ []) g));
      alone = λ id. alone_by id (bytes_eq id k) refl (c.alone id);
      made = λ id. subst (λ o. (o ≡ None) ⊎ (is_among id (made_names e.stack.template conds e.stack.template.resources) ≡ true)) (sym (value_put id k ps stands)) (made_by id (bytes_eq id k) refl (c.made id));
    } where
      come_by : (id : List ℕ) (b : Bool) → bytes_eq id k ≡ b → (is_among id placed ≡ true) ⊎ (is_among id (k ∷ []) ≡ true) → In (before ++ more) (unwrap_or (cond b (Some ps) (value_at id stands)) [])
      come_by id true d g = within
      come_by id false d (inl g) = in_more before more (unwrap_or (value_at id stands) []) (c.come id g)
      come_by id false d (inr g) = absurd (true≢false (sym ((bytes_eq-Decides id k).1 (one_in id k g)) ∙ d))

      alone_by : (id : List ℕ) (b : Bool) → bytes_eq id k ≡ b → In before (unwrap_or (value_at id stands) []) ⊎ In (path_in e.stack.path id ∷ []) (unwrap_or (value_at id stands) [])
          → In (before ++ more) (unwrap_or (value_at id (put k ps stands)) []) ⊎ In (path_in e.stack.path id ∷ []) (unwrap_or (value_at id (put k ps stands)) [])
      alone_by id true d g = inl (subst (λ o. In (before ++ more) (unwrap_or o [])) (sym (value_put id k ps stands ∙ ap (λ b. cond b (Some ps) (value_at id stands)) d)) within)
      alone_by id false d (inl g) =
          inl (subst (λ o. In (before ++ more) (unwrap_or o [])) (sym (value_put id k ps stands ∙ ap (λ b. cond b (Some ps) (value_at id stands)) d)) (in_more before more (unwrap_or (value_at id stands) []) g))
      alone_by id false d (inr g) =
          inr (subst (λ o. In (path_in e.stack.path id ∷ []) (unwrap_or o [])) (sym (value_put id k ps stands ∙ ap (λ b. cond b (Some ps) (value_at id stands)) d)) g)

      made_by : (id : List ℕ) (b : Bool) → bytes_eq id k ≡ b → (value_at id stands ≡ None) ⊎ (is_among id (made_names e.stack.template conds e.stack.template.resources) ≡ true)
          → (cond b (Some ps) (value_at id stands) ≡ None) ⊎ (is_among id (made_names e.stack.template conds e.stack.template.resources) ≡ true)
      made_by id true d g = inr (subst (λ i. is_among i (made_names e.stack.template conds e.stack.template.resources) ≡ true) (sym ((bytes_eq-Decides id k).0 d)) made)
      made_by id false d g = g

    abbrev Claim : List (List ℕ) → Work → Type 0
    Claim before w = Along e.stack.path before w

    plain_first : (before : List (List ℕ)) (m : Member) (w : Work) → m.path ≡ path_in e.stack.path m.id → In before m.needs → Claim (before ++ m.path ∷ []) w → Claim before (resource m w)
    plain_first before m w named k c = record {
      first = (k, c.first);
      own =
          in_both (before ++ paths_of (m ∷ resources_along w)) (path_in e.stack.path m.id ∷ []) (map (path_in e.stack.path) (own_ids w))
          (λ q h. among_second q before (m.path ∷ paths_of (resources_along w)) (among_first q (m.path ∷ []) (paths_of (resources_along w)) (subst (λ p. is_among q (p ∷ []) ≡ true) (sym named) h)))
          (subst (λ all. In all (map (path_in e.stack.path) (own_ids w))) (append_assoc before (m.path ∷ []) (paths_of (resources_along w))) c.own);
      below = subst (λ all. In all (paths_below w)) (append_assoc before (m.path ∷ []) (paths_of (resources_along w))) c.below;
    }

    nested_first : (before : List (List ℕ)) (n : Nesting) (i : Inside) (w : Work) → In before n.needs → Within before (resources_inside i) (paths_inside i) → Claim (before ++ paths_of (resources_inside i)) w → Claim before (nested n i w)
    nested_first before n i w k h c =
        let all : before ++ paths_of (resources_inside i ++ resources_along w) ≡ (before ++ paths_of (resources_inside i)) ++ paths_of (resources_along w) =
        ap (λ l. before ++ l) (map-append (λ (m : Member). m.path) (resources_inside i) (resources_along w)) ∙ sym (append_assoc before (paths_of (resources_inside i)) (paths_of (resources_along w))) in
        record {
          first = first_and before (resources_inside i) (resources_along w) h.first c.first;
          own = subst (λ l. In l (map (path_in e.stack.path) (own_ids w))) (sym all) c.own;
          below =
              subst (λ l. In l ((paths_inside i ++ n.needs) ++ paths_below w)) (sym all)
              (in_both _ (paths_inside i ++ n.needs) (paths_below w)
              (in_both _ (paths_inside i) n.needs (in_more (before ++ paths_of (resources_inside i)) (paths_of (resources_along w)) (paths_inside i) h.inside)
              (in_more (before ++ paths_of (resources_inside i)) (paths_of (resources_along w)) n.needs (in_more before (paths_of (resources_inside i)) n.needs k)))
              c.below);
        }

    work_first : (order : List (List ℕ × List (List ℕ))) (before placed : List (List ℕ)) (c : PlanInProgress) → GoodFrom placed order → AllNeeds e.stack.template conds order → Come before placed c.stands
        → Claim before (work_along lay source seen e conds over order c)
    work_first [] before placed c g n h = record { first = tt; own = in_none _; below = in_none _ }
    work_first (m ∷ order) before placed c g n h =
        by_name (resource_named m.0 e.stack.template) refl (λ b d k. work_first order b (placed ++ m.0 ∷ []) d g.1 n.1 k) where
          by_kind : (r : Res) → resource_named m.0 e.stack.template ≡ Some r → (b : Bool)
              → ((b' : List (List ℕ)) (d : PlanInProgress) → Come b' (placed ++ m.0 ∷ []) d.stands → Claim b' (work_along lay source seen e conds over order d))
              → Claim before
              (cond b (nested_before source seen (over c.sights) c (nesting_of e conds c.stands r) (inside_of lay source e (over c.sights) c (nesting_of e conds c.stands r) r (unnamed_at e.stack.path conds r)) (work_along lay source seen e conds over order))
              (resource (member_of e conds c.stands r) (work_along lay source seen e conds over order c)))
          by_kind r q true ih =
              let needs = needed_in before placed c.stands m r h n.0 q g.0 in
              let i : Inside = inside_of lay source e (over c.sights) c (nesting_of e conds c.stands r) r (unnamed_at e.stack.path conds r) in
              let within = inside_first e (over c.sights) c (nesting_of e conds c.stands r) r (unnamed_at e.stack.path conds r) before needs in
              let named : r.name ≡ m.0 = found_name m.0 e.stack.template.resources r q in
              nested_first before (nesting_of e conds c.stands r) i _ needs within
              (ih (before ++ paths_of (resources_inside i)) (progress_after source seen (over c.sights) c (nesting_of e conds c.stands r) i)
              (subst (λ k. Come (before ++ paths_of (resources_inside i)) (placed ++ k ∷ []) (put r.name (paths_inside i ++ (nesting_of e conds c.stands r).needs) c.stands)) named
              (come_nested before (paths_of (resources_inside i)) placed c.stands r.name (paths_inside i ++ (nesting_of e conds c.stands r).needs)
              (in_both _ (paths_inside i) (nesting_of e conds c.stands r).needs within.inside (in_more before (paths_of (resources_inside i)) (nesting_of e conds c.stands r).needs needs))
              (subst (λ k. is_among k (made_names e.stack.template conds e.stack.template.resources) ≡ true) (sym named) n.0.0) h)))
          by_kind r q false ih =
              let named : r.name ≡ m.0 = found_name m.0 e.stack.template.resources r q in
              plain_first before (member_of e conds c.stands r) _ refl (needed_in before placed c.stands m r h n.0 q g.0)
              (ih (before ++ path_in e.stack.path r.name ∷ []) c
              (subst (λ k. Come (before ++ path_in e.stack.path r.name ∷ []) (placed ++ k ∷ []) c.stands) named (come_plain before placed c.stands r.name h)))

          by_name : (o : Option Res) → resource_named m.0 e.stack.template ≡ o
              → ((b' : List (List ℕ)) (d : PlanInProgress) → Come b' (placed ++ m.0 ∷ []) d.stands → Claim b' (work_along lay source seen e conds over order d))
              → Claim before (option_map_or (λ r. step_before lay source seen e conds over c r (work_along lay source seen e conds over order)) o (work_along lay source seen e conds over order c))
          by_name None q ih = absurd (true≢false (sym n.0.0 ∙ not_made conds e.stack.template m.0 e.stack.template.resources q))
          by_name (Some r) q ih = by_kind r q (is_stack r) ih

    -- at first each id stands for its own path
    first_alone : (id : List ℕ) (ids : List (List ℕ)) → In (path_in e.stack.path id ∷ []) (unwrap_or (value_at id (first_stands e.stack ids)) [])
    first_alone id [] = in_none (path_in e.stack.path id ∷ [])
    first_alone id (k ∷ ids) = by_name (bytes_eq id k) refl (first_alone id ids) where
      by_name : (b : Bool) → bytes_eq id k ≡ b → In (path_in e.stack.path id ∷ []) (unwrap_or (value_at id (first_stands e.stack ids)) [])
          → In (path_in e.stack.path id ∷ []) (unwrap_or (cond b (Some (path_in e.stack.path k ∷ [])) (value_at id (first_stands e.stack ids))) [])
      by_name true q ih = subst (λ i. In (path_in e.stack.path i ∷ []) (path_in e.stack.path k ∷ [])) (sym ((bytes_eq-Decides id k).0 q)) (λ p g. g)
      by_name false q ih = ih

    first_made : (id : List ℕ) (order : List (List ℕ × List (List ℕ))) → AllNeeds e.stack.template conds order
        → (value_at id (first_stands e.stack (own_in e.stack.template order)) ≡ None) ⊎ (is_among id (made_names e.stack.template conds e.stack.template.resources) ≡ true)
    first_made id [] n = inl refl
    first_made id (m ∷ order) n = by_name (resource_named m.0 e.stack.template) refl (first_made id order n.1) where
      by_id : (r : Res) → resource_named m.0 e.stack.template ≡ Some r → (b : Bool) → bytes_eq id r.name ≡ b
          → (value_at id (first_stands e.stack (own_in e.stack.template order)) ≡ None) ⊎ (is_among id (made_names e.stack.template conds e.stack.template.resources) ≡ true)
          → (cond b (Some (path_in e.stack.path r.name ∷ [])) (value_at id (first_stands e.stack (own_in e.stack.template order))) ≡ None) ⊎ (is_among id (made_names e.stack.template conds e.stack.template.resources) ≡ true)
      by_id r q true d ih = inr (subst (λ k. is_among k (made_names e.stack.template conds e.stack.template.resources) ≡ true) (sym ((bytes_eq-Decides id r.name).0 d ∙ found_name m.0 e.stack.template.resources r q)) n.0.0)
      by_id r q false d ih = ih

      by_kind : (r : Res) → resource_named m.0 e.stack.template ≡ Some r → (b : Bool)
          → (value_at id (first_stands e.stack (own_in e.stack.template order)) ≡ None) ⊎ (is_among id (made_names e.stack.template conds e.stack.template.resources) ≡ true)
          → (value_at id (first_stands e.stack (cond b [] (r.name ∷ []) ++ own_in e.stack.template order)) ≡ None) ⊎ (is_among id (made_names e.stack.template conds e.stack.template.resources) ≡ true)
      by_kind r q true ih = ih
      by_kind r q false ih = by_id r q (bytes_eq id r.name) refl ih

      by_name : (o : Option Res) → resource_named m.0 e.stack.template ≡ o
          → (value_at id (first_stands e.stack (own_in e.stack.template order)) ≡ None) ⊎ (is_among id (made_names e.stack.template conds e.stack.template.resources) ≡ true)
          → (value_at id (first_stands e.stack (own_id o ++ own_in e.stack.template order)) ≡ None) ⊎ (is_among id (made_names e.stack.template conds e.stack.template.resources) ≡ true)
      by_name None q ih = ih
      by_name (Some r) q ih = by_kind r q (is_stack r) ih

  module _ (e : Entering) (bound : Settings) (templates members : ℕ) (before : List (List ℕ)) (around : In before e.needs) (rs : AreOrdered e.stack.template.resources) where
    order_first : (conds : Verdicts) (r : Result (List (List ℕ × List (List ℕ))) OrderFault) → IfOk r (GoodFrom []) → IfOk r (AllNeeds e.stack.template conds)
        → BodyWithin before (body_in_order lay source seen e bound templates members conds r)
    order_first conds (Err x) g n = none_within before
    order_first conds (Ok order) g n =
        let c : PlanInProgress = record { sights = first_sights e.stack conds seen (own_in e.stack.template order); stands = first_stands e.stack (own_in e.stack.template order); templates = templates; members = members } in
        let w = work_first e conds (scoping source e.stack conds bound) order before [] c g n
        (record { around = around; come = λ id h. absurd (true≢false (sym h)); alone = λ id. inr (first_alone e conds (scoping source e.stack conds bound) id (own_in e.stack.template order)); made = λ id. first_made e conds (scoping source e.stack conds bound) id order n }) in
        record { first = w.first; inside = in_both _ _ _ w.own w.below }

    decided_first : (o : Outcome (List (List ℕ × Option Bool))) → BodyWithin before (body_decided lay source seen e bound templates members o)
    decided_first (bad s) = none_within before
    decided_first later = none_within before
    decided_first (got conds) = either (first_later conds) where
      either : (o : Option (List ℕ))
          → BodyWithin before (option_map_or (λ name. halted e.stack (flaw.DynamicCondition e.stack.path name)) o (body_in_order lay source seen e bound templates members (verdicts_of conds) (needs_of e.stack.template (verdicts_of conds))))
      either None = order_first (verdicts_of conds) (needs_of e.stack.template (verdicts_of conds)) (needs_good e.stack.template (verdicts_of conds)) (order_needs e.stack.template (verdicts_of conds) rs)
      either (Some name) = none_within before

    bound_first : BodyWithin before (body_bound lay source seen e bound templates members)
    bound_first = decided_first (conditions_of e.stack.template bound (pseudo_of e.stack.name source.number))

laid_come : (n : ℕ) (source : Source) (seen : Seen) (e : Entering) (g : Given) (templates members : ℕ) (before : List (List ℕ)) → In before e.needs → AreOrdered e.stack.template.resources
    → BodyWithin before (laid n source seen e g templates members)
laid_come zero source seen e g templates members before k rs = bound_first None source seen tt e (settings_for e.stack.template.params g) templates members before k rs
laid_come (suc n) source seen e g templates members before k rs =
    bound_first (Some (laid n source seen)) source seen (laid_come n source seen) e (settings_for e.stack.template.params g) templates members before k rs

told : (before : List (List ℕ)) (ms : List Member) → FirstAll before ms → ComeFirst before ms
told before [] h = tt
told before (m ∷ ms) h = (all_pass (λ q. is_among q before) m.needs h.0, told (before ++ m.path ∷ []) ms h.1)

pub needs_first : NeedsComeFirst
needs_first source seen = told [] (resources_in (shape_of source seen)) (either (template_named source.root source) (if_ordered source.root source)) where
  either : (o : Option Template) → IfOrdered o
      → FirstAll [] (resources_in (option_map_or (λ t. laid 7 source seen (root_of source t) (given_root source) 1 (length t.resources)) o (barred (flaw.TemplateMissing source.root))))
  either None h = tt
  either (Some t) h = (laid_come 7 source seen (root_of source t) (given_root source) 1 (length t.resources) [] (λ q g. g) h).first

-- all paths in a shape are those of its resources
pub paths_among : (source : Source) (seen : Seen) → In (paths_of (resources_in (shape_of source seen))) (paths_in (shape_of source seen))
paths_among source seen = either (template_named source.root source) (if_ordered source.root source) where
  either : (o : Option Template) → IfOrdered o
      → In (paths_of (resources_in (option_map_or (λ t. laid 7 source seen (root_of source t) (given_root source) 1 (length t.resources)) o (barred (flaw.TemplateMissing source.root)))))
      (paths_in (option_map_or (λ t. laid 7 source seen (root_of source t) (given_root source) 1 (length t.resources)) o (barred (flaw.TemplateMissing source.root))))
  either None h = in_none []
  either (Some t) h = (laid_come 7 source seen (root_of source t) (given_root source) 1 (length t.resources) [] (λ q g. g) h).inside
