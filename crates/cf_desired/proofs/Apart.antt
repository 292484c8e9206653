-- No two paths of a shape are the same: ids of a template differ and have no slash, and a path begins with that of its stack.
use Rattle.std.proofs.Common.{◌≡◌, ℕ, zero, suc, List, [], ◌∷◌, ◌++◌, Bool, true, false, not, ◌&&◌, ◌||◌, ◌⊎◌, inl, inr, Option, Some, None, Result, Ok, Err, refl, sym, ap, subst, ◌∙◌, true≢false, arith, eqb, eqb-true, drop, map, find}
use Rattle.std.specs.Prelude.{⊤, cond, codes, is_some, nat_lt, nat_le, length, ◌+◌, IfOk}
use Rattle.std.specs.Char.{is_ascii_alphanumeric}
use Rattle.std.specs.Cmp.{first_so, second_so}
use Rattle.std.specs.List.{list_all, list_any}
use Rattle.std.specs.Option.{option_map_or, option_and_then}
use Rattle.std.specs.Str.{bytes_eq}
use Rattle.std.proofs.lemmas.List.{append_assoc, length-append, map-append}
use Rattle.std.proofs.lemmas.Slice.Eq.{bytes_eq-Decides}
use Rattle.cf_tree.specs.Keys.{value_at}
use Rattle.cf_tree.specs.Lists.{is_among}
use Rattle.cf_tree.specs.Named.{all_differ, found}
use Rattle.cf_tree.specs.declared.source.Source.{Source}
use Rattle.cf_tree.specs.declared.template.Res.{Res}
use Rattle.cf_tree.specs.declared.template.Template.{Template}
use Rattle.cf_template.specs.Whole.{template_of}
use Rattle.cf_template.specs.Words.{is_name}
use Rattle.cf_template.specs.declared.refusal.TemplateFault.{TemplateFault}
use Rattle.cf_template.proofs.Ordered.{AreNamed, template_names}
use Rattle.cf_eval.specs.Conditions.{conditions_of}
use Rattle.cf_eval.specs.Outcome.{Outcome, got, later, bad}
use Rattle.cf_eval.specs.Scope.{Scope}
use Rattle.cf_graph.specs.Needs.{OrderFault, needs_of, is_next, ordered, all_needs, order_of, cycle_of, unknown_dependency, unless_unknown, resource_named}
use Rattle.cf_desired.specs.Given.{Given, given_in, settings_for}
use Rattle.cf_desired.specs.Names.{path_in, pseudo_of}
use Rattle.cf_desired.specs.PathsDiffer.{PathsDiffer, shape_paths}
use Rattle.cf_desired.specs.Seeing.{Seen, first_sights}
use Rattle.cf_desired.specs.Shape.{has_stack_shape, first_later, Entering, PlanInProgress, Laying, first_stands, own_in, unnamed_at, member_of, nesting_of, template_name_of, laid_within, entering_below, body_at, inside_of, progress_after, nested_before, step_before, work_along, body_in_order, verdicts_of, body_decided, body_bound, laid, given_root, root_of, shape_of}
use Rattle.cf_desired.specs.Stack.{Verdicts, Settings, Scoping, scoping}
use Rattle.cf_desired.specs.Templates.{is_stack, accepted, template_named}
use Rattle.cf_desired.specs.Valued.{nestings_along, nestings_inside, nestings_in, resources_along, resources_inside, resources_in}
use Rattle.cf_desired.specs.Work.{Member, Nesting, Work, Inside, Body, no_work, resource, nested, shut, barred, halted, opened}
use Rattle.cf_desired.specs.Work as inside
use Rattle.cf_desired.specs.declared.flaw.Flaw.{Flaw}
use Rattle.cf_desired.specs.declared.flaw.Flaw.TheVariants as flaw
use Rattle.cf_desired.proofs.ComeFirst.{among_split, find_passes, found_name, keys_among, names_of}
use Rattle.cf_desired.proofs.OrderNeeds.{among_first, among_second}

-- names each of which stands once, and two lists that share none
abbrev Apart : List (List ℕ) → List (List ℕ) → Type 0
Apart xs ys = (q : List ℕ) → is_among q xs ≡ true → is_among q ys ≡ true → ⊥

abbrev Differ : List (List ℕ) → Type 0
Differ [] = ⊤
Differ (x ∷ xs) = (is_among x xs ≡ true → ⊥) × Differ xs

none_among : (q : List ℕ) → is_among q [] ≡ true → ⊥
none_among q h = true≢false (sym h)

among_here : (q : List ℕ) (xs : List (List ℕ)) → is_among q (q ∷ xs) ≡ true
among_here q xs = ap (λ b. b || is_among q xs) ((bytes_eq-Decides q q).1 refl)

among_one : (q k : List ℕ) → is_among q (k ∷ []) ≡ true → q ≡ k
among_one q k h = either (bytes_eq q k) refl h where
  either : (b : Bool) → bytes_eq q k ≡ b → (b || false) ≡ true → q ≡ k
  either true e g = (bytes_eq-Decides q k).0 e
  either false e g = absurd (true≢false (sym g))

differ_and : (xs ys : List (List ℕ)) → Differ xs → Differ ys → Apart xs ys → Differ (xs ++ ys)
differ_and [] ys h k a = k
differ_and (x ∷ xs) ys h k a =
    ((λ m. either (among_split x xs ys m)), differ_and xs ys h.1 k (λ q i j. a q (among_second q (x ∷ []) xs i) j)) where
      either : (is_among x xs ≡ true) ⊎ (is_among x ys ≡ true) → ⊥
      either (inl m) = h.0 m
      either (inr m) = a x (among_here x xs) m

not_so : (b : Bool) → (b ≡ true → ⊥) → not b ≡ true
not_so true h = absurd (h refl)
not_so false h = refl

all_differ_so : (xs : List (List ℕ)) → Differ xs → all_differ bytes_eq xs ≡ true
all_differ_so [] h = refl
all_differ_so (x ∷ xs) h = ap (λ b. b && all_differ bytes_eq xs) (not_so (list_any (bytes_eq x) xs) h.0) ∙ all_differ_so xs h.1

-- an order of work has each name once
not_true : (b : Bool) → not b ≡ true → b ≡ true → ⊥
not_true true h e = true≢false (sym h)
not_true false h e = true≢false (sym e)

order_once : (left : ℕ) (all placed : List (List ℕ × List (List ℕ))) → Differ (names_of placed) → Differ (names_of (ordered left all placed))
order_once zero all placed h = h
order_once (suc left) all placed h = by_next (find (is_next placed) all) refl (λ m g. order_once left all (placed ++ m ∷ []) g) where
  by_next : (o : Option (List ℕ × List (List ℕ))) → find (is_next placed) all ≡ o
      → ((m : List ℕ × List (List ℕ)) → Differ (names_of (placed ++ m ∷ [])) → Differ (names_of (ordered left all (placed ++ m ∷ []))))
      → Differ (names_of (option_map_or (λ r. ordered left all (placed ++ r ∷ [])) o placed))
  by_next None e ih = h
  by_next (Some m) e ih =
      let new = not_true (is_some (value_at m.0 placed)) (first_so (not (is_some (value_at m.0 placed))) _ (find_passes (is_next placed) all m e)) in
      ih m
      (subst Differ (sym (map-append (λ (r : List ℕ × List (List ℕ)). r.0) placed (m ∷ [])))
      (differ_and (names_of placed) (m.0 ∷ []) h (none_among m.0, tt) (λ q i j. new (keys_among m.0 placed ∙ subst (λ k. is_among k (names_of placed) ≡ true) (among_one q m.0 j) i))))

needs_once : (t : Template) (conds : Verdicts) → IfOk (needs_of t conds) (λ order. Differ (names_of order))
needs_once t conds = by_unknown (unknown_dependency t) where
  by_cycle : (o : Option (List (List ℕ))) → IfOk (order_of (all_needs t conds) o) (λ order. Differ (names_of order))
  by_cycle None = order_once (length (all_needs t conds)) (all_needs t conds) [] tt
  by_cycle (Some c) = tt

  by_unknown : (o : Option (List ℕ × List ℕ)) → IfOk (unless_unknown o (order_of (all_needs t conds) (cycle_of (all_needs t conds)))) (λ order. Differ (names_of order))
  by_unknown None = by_cycle (cycle_of (all_needs t conds))
  by_unknown (Some x) = tt

-- the first name of a path, up to a slash
abbrev first_name : List ℕ → List ℕ
first_name [] = []
first_name (c ∷ cs) = cond (eqb c 47) [] (c ∷ first_name cs)

no_slash : (c : ℕ) → is_ascii_alphanumeric c ≡ true → eqb c 47 ≡ false
no_slash c h = either (eqb c 47) refl where
  either : (b : Bool) → eqb c 47 ≡ b → b ≡ false
  either true e = absurd (true≢false (sym h ∙ ap is_ascii_alphanumeric (eqb-true c 47 e)))
  either false e = refl

first_alone : (id : List ℕ) → list_all is_ascii_alphanumeric id ≡ true → first_name id ≡ id
first_alone [] h = refl
first_alone (c ∷ cs) h =
    ap (λ b. cond b [] (c ∷ first_name cs)) (no_slash c (first_so (is_ascii_alphanumeric c) _ h)) ∙ ap (λ l. c ∷ l) (first_alone cs (second_so (is_ascii_alphanumeric c) _ h))

first_above : (id rest : List ℕ) → list_all is_ascii_alphanumeric id ≡ true → first_name (id ++ codes "/" ++ rest) ≡ id
first_above [] rest h = refl
first_above (c ∷ cs) rest h =
    ap (λ b. cond b [] (c ∷ first_name (cs ++ codes "/" ++ rest))) (no_slash c (first_so (is_ascii_alphanumeric c) _ h)) ∙ ap (λ l. c ∷ l) (first_above cs rest (second_so (is_ascii_alphanumeric c) _ h))

-- what of a path stands behind that of its stack
abbrev behind : List ℕ → List ℕ → List ℕ
behind [] q = q
behind (b ∷ bs) q = drop (length ((b ∷ bs) ++ codes "/")) q

drop_first : (xs ys : List ℕ) → drop (length xs) (xs ++ ys) ≡ ys
drop_first [] ys = refl
drop_first (x ∷ xs) ys = drop_first xs ys

behind_path : (path s : List ℕ) → behind path (path_in path s) ≡ s
behind_path [] s = refl
behind_path (b ∷ bs) s = drop_first ((b ∷ bs) ++ codes "/") s

-- q is a path in the stack at a path, of an id or inside it
pub record At (path id q : List ℕ) : Type 0 where
  pub rest : List ℕ
  pub whole : q ≡ path_in path rest
  pub first : first_name rest ≡ id

at_same : (path id other q : List ℕ) → At path id q → At path other q → id ≡ other
at_same path id other q h k =
    sym h.first ∙ ap first_name (sym (behind_path path h.rest) ∙ ap (behind path) (sym h.whole ∙ k.whole) ∙ behind_path path k.rest) ∙ k.first

abbrev AllAt : List ℕ → List (List ℕ) → List (List ℕ) → Type 0
AllAt path ids qs = (q : List ℕ) → is_among q qs ≡ true → (id : List ℕ) × (is_among id ids ≡ true) × At path id q

at_apart : (path : List ℕ) (ids others xs ys : List (List ℕ)) → Apart ids others → AllAt path ids xs → AllAt path others ys → Apart xs ys
at_apart path ids others xs ys a h k q i j =
    let x = h q i in
    let y = k q j in
    a x.0 x.1 (subst (λ z. is_among z others ≡ true) (sym (at_same path x.0 y.0 q x.2 y.2)) y.1)

at_more : (path : List ℕ) (ids more xs : List (List ℕ)) → AllAt path ids xs → AllAt path (more ++ ids) xs
at_more path ids more xs h q i = let x = h q i in (x.0, among_second x.0 more ids x.1, x.2)

at_both : (path : List ℕ) (ids xs ys : List (List ℕ)) → AllAt path ids xs → AllAt path ids ys → AllAt path ids (xs ++ ys)
at_both path ids xs ys h k q i = either (among_split q xs ys i) where
  either : (is_among q xs ≡ true) ⊎ (is_among q ys ≡ true) → (id : List ℕ) × (is_among id ids ≡ true) × At path id q
  either (inl j) = h q j
  either (inr j) = k q j

-- the paths of resources and of nested stacks, in the stack at a path, under these ids
pub record Good (path : List ℕ) (ids rs ns : List (List ℕ)) : Type 0 where
  pub resources : Differ rs
  pub stacks : Differ ns
  pub apart : Apart rs ns
  pub resources_at : AllAt path ids rs
  pub stacks_at : AllAt path ids ns

good_none : (path : List ℕ) (ids : List (List ℕ)) → Good path ids [] []
good_none path ids = record {
  resources = tt;
  stacks = tt;
  apart = λ q h k. none_among q h;
  resources_at = λ q h. absurd (none_among q h);
  stacks_at = λ q h. absurd (none_among q h);
}

good_more : (path k : List ℕ) (ids rs ns : List (List ℕ)) → Good path ids rs ns → Good path (k ∷ ids) rs ns
good_more path k ids rs ns h = record {
  resources = h.resources;
  stacks = h.stacks;
  apart = h.apart;
  resources_at = at_more path ids (k ∷ []) rs h.resources_at;
  stacks_at = at_more path ids (k ∷ []) ns h.stacks_at;
}

apart_both : (xs ys vs ws : List (List ℕ)) → Apart xs vs → Apart xs ws → Apart ys vs → Apart ys ws → Apart (xs ++ ys) (vs ++ ws)
apart_both xs ys vs ws a b c d q i j = either (among_split q xs ys i) (among_split q vs ws j) where
  either : (is_among q xs ≡ true) ⊎ (is_among q ys ≡ true) → (is_among q vs ≡ true) ⊎ (is_among q ws ≡ true) → ⊥
  either (inl m) (inl n) = a q m n
  either (inl m) (inr n) = b q m n
  either (inr m) (inl n) = c q m n
  either (inr m) (inr n) = d q m n

good_and : (path k : List ℕ) (ids rs ns vs ws : List (List ℕ)) → (is_among k ids ≡ true → ⊥) → Good path (k ∷ []) rs ns → Good path ids vs ws → Good path (k ∷ ids) (rs ++ vs) (ns ++ ws)
good_and path k ids rs ns vs ws new h g =
    let others : Apart (k ∷ []) ids = λ q i j. new (subst (λ z. is_among z ids ≡ true) (among_one q k i) j) in
    let wider : (xs : List (List ℕ)) → AllAt path (k ∷ []) xs → AllAt path (k ∷ ids) xs = λ xs m q i. let x = m q i in (x.0, among_first x.0 (k ∷ []) ids x.1, x.2) in
    record {
      resources = differ_and rs vs h.resources g.resources (at_apart path (k ∷ []) ids rs vs others h.resources_at g.resources_at);
      stacks = differ_and ns ws h.stacks g.stacks (at_apart path (k ∷ []) ids ns ws others h.stacks_at g.stacks_at);
      apart =
          apart_both rs vs ns ws h.apart (at_apart path (k ∷ []) ids rs ws others h.resources_at g.stacks_at)
          (λ q i j. at_apart path (k ∷ []) ids ns vs others h.stacks_at g.resources_at q j i) g.apart;
      resources_at = at_both path (k ∷ ids) rs vs (wider rs h.resources_at) (at_more path ids (k ∷ []) vs g.resources_at);
      stacks_at = at_both path (k ∷ ids) ns ws (wider ns h.stacks_at) (at_more path ids (k ∷ []) ws g.stacks_at);
    }

-- a path of its own
own_at : (path id : List ℕ) → list_all is_ascii_alphanumeric id ≡ true → At path id (path_in path id)
own_at path id h = record { rest = id; whole = refl; first = first_alone id h }

one_at : (path id : List ℕ) → list_all is_ascii_alphanumeric id ≡ true → AllAt path (id ∷ []) (path_in path id ∷ [])
one_at path id h q i = (id, among_here id [], subst (At path id) (sym (among_one q (path_in path id) i)) (own_at path id h))

good_resource : (path id : List ℕ) → list_all is_ascii_alphanumeric id ≡ true → Good path (id ∷ []) (path_in path id ∷ []) []
good_resource path id h = record {
  resources = (none_among (path_in path id), tt);
  stacks = tt;
  apart = λ q i j. none_among q j;
  resources_at = one_at path id h;
  stacks_at = λ q i. absurd (none_among q i);
}

-- paths in a nested stack: they are longer than its own
abbrev IsNamed : List ℕ → Type 0
IsNamed id = (nat_lt 0 (length id) ≡ true) × (list_all is_ascii_alphanumeric id ≡ true)

path_within : (path id s : List ℕ) → nat_lt 0 (length id) ≡ true → path_in (path_in path id) s ≡ path_in path (id ++ codes "/" ++ s)
path_within path [] s h = absurd (true≢false (sym h))
path_within [] (c ∷ cs) s h = refl
path_within (b ∷ bs) (c ∷ cs) s h =
    ap (λ l. l ++ s) (append_assoc ((b ∷ bs) ++ codes "/") (c ∷ cs) (codes "/")) ∙ append_assoc ((b ∷ bs) ++ codes "/") ((c ∷ cs) ++ codes "/") s

too_long : (xs ys : List ℕ) → xs ++ codes "/" ++ ys ≡ xs → ⊥
too_long xs ys h =
    let one : length (xs ++ codes "/") ≡ length xs + 1 = length-append xs (codes "/") in
    omega (arith, length-append (xs ++ codes "/") ys, one, ap length h)

path_longer : (path id s : List ℕ) → nat_lt 0 (length id) ≡ true → path_in (path_in path id) s ≡ path_in path id → ⊥
path_longer path [] s h e = true≢false (sym h)
path_longer [] (c ∷ cs) s h e = too_long (c ∷ cs) s e
path_longer (b ∷ bs) (c ∷ cs) s h e = too_long ((b ∷ bs) ++ codes "/" ++ (c ∷ cs)) s e

-- the resources and nested stacks that are in some work
abbrev member_paths : List Member → List (List ℕ)
member_paths ms = map (λ m. m.path) ms

abbrev nesting_paths : List Nesting → List (List ℕ)
nesting_paths ns = map (λ n. n.path) ns

abbrev GoodIn : List ℕ → List Member → List Nesting → Type 0
GoodIn path ms ns = (ids : List (List ℕ)) × Good path ids (member_paths ms) (nesting_paths ns)

good_nested : (path id : List ℕ) (ms : List Member) (ns : List Nesting) (n : Nesting) → n.path ≡ path_in path id → IsNamed id → GoodIn n.path ms ns
    → Good path (id ∷ []) (member_paths ms) (nesting_paths (n ∷ ns))
good_nested path id ms ns n e h g = record {
  resources = g.1.resources;
  stacks = ((λ i. here n.path (g.1.stacks_at n.path i).2 refl), g.1.stacks);
  apart = λ q i j. either q i (among_split q (n.path ∷ []) (nesting_paths ns) j);
  resources_at = inner (member_paths ms) g.1.resources_at;
  stacks_at = at_both path (id ∷ []) (n.path ∷ []) (nesting_paths ns) (subst (λ p. AllAt path (id ∷ []) (p ∷ [])) (sym e) (one_at path id h.1)) (inner (nesting_paths ns) g.1.stacks_at);
} where
  here : (q : List ℕ) {k : List ℕ} → At n.path k q → q ≡ n.path → ⊥
  here q a same = path_longer path id a.rest h.0 (ap (λ p. path_in p a.rest) (sym e) ∙ sym a.whole ∙ same ∙ e)

  either : (q : List ℕ) → is_among q (member_paths ms) ≡ true → (is_among q (n.path ∷ []) ≡ true) ⊎ (is_among q (nesting_paths ns) ≡ true) → ⊥
  either q i (inl j) = here q (g.1.resources_at q i).2 (among_one q n.path j)
  either q i (inr j) = g.1.apart q i j

  inner : (xs : List (List ℕ)) → AllAt n.path g.0 xs → AllAt path (id ∷ []) xs
  inner xs a q i =
      let x = (a q i).2 in (
        id,
        among_here id [],
        record { rest = id ++ codes "/" ++ x.rest; whole = x.whole ∙ ap (λ p. path_in p x.rest) e ∙ path_within path id x.rest h.0; first = first_above id x.rest h.1 },
      )

-- names of a template's resources
named_so : (name : List ℕ) → is_name name ≡ true → IsNamed name
named_so name h = (first_so (nat_lt 0 (length name)) _ h, second_so (nat_le (length name) 255) _ (second_so (nat_lt 0 (length name)) _ h))

found_named : (k : List ℕ) (rs : List Res) (r : Res) → AreNamed rs → found (λ x. x.name) k rs ≡ Some r → IsNamed r.name
found_named k [] r h e = let no : ⊥ = cc in absurd no
found_named k (x ∷ rs) r h e = by_name (bytes_eq k x.name) e (found_named k rs r (second_so (is_name x.name) _ h)) where
  by_name : (b : Bool) → cond b (Some x) (found (λ y. y.name) k rs) ≡ Some r → (found (λ y. y.name) k rs ≡ Some r → IsNamed r.name) → IsNamed r.name
  by_name true g ih = let same : x ≡ r = cc in named_so r.name (subst (λ y. is_name y.name ≡ true) same (first_so (is_name x.name) _ h))
  by_name false g ih = ih g

abbrev IfNamed : Option Template → Type 0
IfNamed None = ⊤
IfNamed (Some t) = AreNamed t.resources

if_named : (name : List ℕ) (source : Source) → IfNamed (template_named name source)
if_named name source = by_text (value_at name source.texts) where
  by_reading : (r : Result Template TemplateFault) → IfOk r (λ t. AreNamed t.resources) → IfNamed (accepted r)
  by_reading (Ok t) h = h
  by_reading (Err f) h = tt

  by_text : (o : Option (List ℕ)) → IfNamed (option_and_then (λ bytes. accepted (template_of bytes)) o)
  by_text None = tt
  by_text (Some bytes) = by_reading (template_of bytes) (template_names bytes)

abbrev BodyGood : List ℕ → Body → Type 0
BodyGood path b = GoodIn path (resources_in b) (nestings_in b)

none_good : (path : List ℕ) → GoodIn path [] []
none_good path = ([], good_none path [])

abbrev LaysGood : Option Laying → Type 0
LaysGood None = ⊤
LaysGood (Some lay) = (e : Entering) (g : Given) (templates members : ℕ) → AreNamed e.stack.template.resources → BodyGood e.stack.path (lay e g templates members)

module _ (lay : Option Laying) (source : Source) (seen : Seen) (lays : LaysGood lay) where
  within_good : (o : Option Laying) → LaysGood o → (path name : List ℕ) (templates members : ℕ) (t : Option Template) → IfNamed t → (e : Entering) (n : Nesting) (r : Res) (g : Given)
      → BodyGood n.path (laid_within o path name templates members t (entering_below e n r) g)
  within_good None h path name templates members t s e n r g = none_good n.path
  within_good (Some l) h path name templates members None s e n r g = either (nat_lt 16 (templates + 1)) where
    either : (b : Bool) → BodyGood n.path (cond b (barred (flaw.TooMany (templates + 1))) (barred (flaw.TemplateMissing name)))
    either true = none_good n.path
    either false = none_good n.path
  within_good (Some l) h path name templates members (Some t) s e n r g = either (nat_lt 16 (templates + 1)) (nat_lt 2000 (members + length t.resources)) where
    either : (b c : Bool)
        → BodyGood n.path (cond b (barred (flaw.TooMany (templates + 1))) (cond c (barred (flaw.TooMany (members + length t.resources))) (l (entering_below e n r t) g (templates + 1) (members + length t.resources))))
    either true c = none_good n.path
    either false true = none_good n.path
    either false false = h (entering_below e n r t) g (templates + 1) (members + length t.resources) s

  name_good : (e : Entering) (n : Nesting) (r : Res) (templates members : ℕ) (g : Given) (u : Result (List ℕ) Flaw) → BodyGood n.path (body_at lay source e n r templates members g u)
  name_good e n r templates members g (Err f) = none_good n.path
  name_good e n r templates members g (Ok name) = within_good lay lays n.path name templates members (template_named name source) (if_named name source) e n r g

  inside_good : (e : Entering) (s : Scope) (c : PlanInProgress) (n : Nesting) (r : Res) (o : Option Flaw)
      → GoodIn n.path (resources_inside (inside_of lay source e s c n r o)) (nestings_inside (inside_of lay source e s c n r o))
  inside_good e s c n r (Some f) = none_good n.path
  inside_good e s c n r None = either (has_stack_shape r) where
    either : (b : Bool)
        → GoodIn n.path
        (resources_inside (cond b (inside.given_by (value_at (codes "Parameters") r.props) (body_at lay source e n r c.templates c.members (given_in s (value_at (codes "Parameters") r.props)) (template_name_of e.stack.path n.path s r))) (shut (flaw.Shape n.path))))
        (nestings_inside (cond b (inside.given_by (value_at (codes "Parameters") r.props) (body_at lay source e n r c.templates c.members (given_in s (value_at (codes "Parameters") r.props)) (template_name_of e.stack.path n.path s r))) (shut (flaw.Shape n.path))))
    either true = name_good e n r c.templates c.members (given_in s (value_at (codes "Parameters") r.props)) (template_name_of e.stack.path n.path s r)
    either false = none_good n.path

  module _ (e : Entering) (conds : Verdicts) (over : Scoping) (named : AreNamed e.stack.template.resources) where
    abbrev WorkGood : List (List ℕ) → Work → Type 0
    WorkGood ids w = Good e.stack.path ids (member_paths (resources_along w)) (nesting_paths (nestings_along w))

    work_good : (order : List (List ℕ × List (List ℕ))) (c : PlanInProgress) → Differ (names_of order) → WorkGood (names_of order) (work_along lay source seen e conds over order c)
    work_good [] c d = good_none e.stack.path []
    work_good (m ∷ order) c d = by_name (resource_named m.0 e.stack.template) refl (λ k. work_good order k d.1) where
      by_kind : (r : Res) → resource_named m.0 e.stack.template ≡ Some r → (b : Bool)
          → ((k : PlanInProgress) → WorkGood (names_of order) (work_along lay source seen e conds over order k))
          → WorkGood (m.0 ∷ names_of order)
          (cond b (nested_before source seen (over c.sights) c (nesting_of e conds c.stands r) (inside_of lay source e (over c.sights) c (nesting_of e conds c.stands r) r (unnamed_at e.stack.path conds r)) (work_along lay source seen e conds over order))
          (resource (member_of e conds c.stands r) (work_along lay source seen e conds over order c)))
      by_kind r q true ih =
          let n : Nesting = nesting_of e conds c.stands r in
          let i : Inside = inside_of lay source e (over c.sights) c n r (unnamed_at e.stack.path conds r) in
          let w : Work = work_along lay source seen e conds over order (progress_after source seen (over c.sights) c n i) in
          let new : is_among r.name (names_of order) ≡ true → ⊥ = subst (λ k. is_among k (names_of order) ≡ true → ⊥) (sym (found_name m.0 e.stack.template.resources r q)) d.0 in
          subst (λ k. WorkGood (k ∷ names_of order) (nested n i w)) (found_name m.0 e.stack.template.resources r q)
          (subst (λ rs. Good e.stack.path (r.name ∷ names_of order) rs (nesting_paths (nestings_along (nested n i w)))) (sym (map-append (λ (x : Member). x.path) (resources_inside i) (resources_along w)))
          (subst (λ ns. Good e.stack.path (r.name ∷ names_of order) (member_paths (resources_inside i) ++ member_paths (resources_along w)) (n.path ∷ ns)) (sym (map-append (λ (x : Nesting). x.path) (nestings_inside i) (nestings_along w)))
          (good_and e.stack.path r.name (names_of order) (member_paths (resources_inside i)) (nesting_paths (n ∷ nestings_inside i)) (member_paths (resources_along w)) (nesting_paths (nestings_along w)) new
          (good_nested e.stack.path r.name (resources_inside i) (nestings_inside i) n refl (found_named m.0 e.stack.template.resources r named q) (inside_good e (over c.sights) c n r (unnamed_at e.stack.path conds r)))
          (ih (progress_after source seen (over c.sights) c n i)))))
      by_kind r q false ih =
          let new : is_among r.name (names_of order) ≡ true → ⊥ = subst (λ k. is_among k (names_of order) ≡ true → ⊥) (sym (found_name m.0 e.stack.template.resources r q)) d.0 in
          let w : Work = work_along lay source seen e conds over order c in
          subst (λ k. WorkGood (k ∷ names_of order) (resource (member_of e conds c.stands r) w)) (found_name m.0 e.stack.template.resources r q)
          (good_and e.stack.path r.name (names_of order) (path_in e.stack.path r.name ∷ []) [] (member_paths (resources_along w)) (nesting_paths (nestings_along w)) new
          (good_resource e.stack.path r.name (found_named m.0 e.stack.template.resources r named q).1) (ih c))

      by_name : (o : Option Res) → resource_named m.0 e.stack.template ≡ o
          → ((k : PlanInProgress) → WorkGood (names_of order) (work_along lay source seen e conds over order k))
          → WorkGood (m.0 ∷ names_of order) (option_map_or (λ r. step_before lay source seen e conds over c r (work_along lay source seen e conds over order)) o (work_along lay source seen e conds over order c))
      by_name None q ih = good_more e.stack.path m.0 (names_of order) _ _ (ih c)
      by_name (Some r) q ih = by_kind r q (is_stack r) ih

  module _ (e : Entering) (bound : Settings) (templates members : ℕ) (named : AreNamed e.stack.template.resources) where
    order_good : (conds : Verdicts) (r : Result (List (List ℕ × List (List ℕ))) OrderFault) → IfOk r (λ order. Differ (names_of order)) → BodyGood e.stack.path (body_in_order lay source seen e bound templates members conds r)
    order_good conds (Err x) d = none_good e.stack.path
    order_good conds (Ok order) d = (
      names_of order,
      work_good e conds (scoping source e.stack conds bound) named order
          (record { sights = first_sights e.stack conds seen (own_in e.stack.template order); stands = first_stands e.stack (own_in e.stack.template order); templates = templates; members = members }) d,
    )

    decided_good : (o : Outcome (List (List ℕ × Option Bool))) → BodyGood e.stack.path (body_decided lay source seen e bound templates members o)
    decided_good (bad s) = none_good e.stack.path
    decided_good later = none_good e.stack.path
    decided_good (got conds) = either (first_later conds) where
      either : (o : Option (List ℕ))
          → BodyGood e.stack.path (option_map_or (λ name. halted e.stack (flaw.DynamicCondition e.stack.path name)) o (body_in_order lay source seen e bound templates members (verdicts_of conds) (needs_of e.stack.template (verdicts_of conds))))
      either None = order_good (verdicts_of conds) (needs_of e.stack.template (verdicts_of conds)) (needs_once e.stack.template (verdicts_of conds))
      either (Some name) = none_good e.stack.path

    bound_good : BodyGood e.stack.path (body_bound lay source seen e bound templates members)
    bound_good = decided_good (conditions_of e.stack.template bound (pseudo_of e.stack.name source.number))

laid_good : (n : ℕ) (source : Source) (seen : Seen) (e : Entering) (g : Given) (templates members : ℕ) → AreNamed e.stack.template.resources → BodyGood e.stack.path (laid n source seen e g templates members)
laid_good zero source seen e g templates members named = bound_good None source seen tt e (settings_for e.stack.template.params g) templates members named
laid_good (suc n) source seen e g templates members named =
    bound_good (Some (laid n source seen)) source seen (laid_good n source seen) e (settings_for e.stack.template.params g) templates members named

shape_good : (source : Source) (seen : Seen) → BodyGood [] (shape_of source seen)
shape_good source seen = either (template_named source.root source) (if_named source.root source) where
  either : (o : Option Template) → IfNamed o
      → BodyGood [] (option_map_or (λ t. laid 7 source seen (root_of source t) (given_root source) 1 (length t.resources)) o (barred (flaw.TemplateMissing source.root)))
  either None h = none_good []
  either (Some t) h = laid_good 7 source seen (root_of source t) (given_root source) 1 (length t.resources) h

pub paths_apart : PathsDiffer
paths_apart source seen =
    let g = (shape_good source seen).1 in
    all_differ_so (shape_paths (shape_of source seen))
    (differ_and (member_paths (resources_in (shape_of source seen))) (nesting_paths (nestings_in (shape_of source seen))) g.resources g.stacks g.apart)

-- so do those of its resources alone
pub members_apart : (source : Source) (seen : Seen) → all_differ bytes_eq (map (λ m. m.path) (resources_in (shape_of source seen))) ≡ true
members_apart source seen = all_differ_so (member_paths (resources_in (shape_of source seen))) (shape_good source seen).1.resources
