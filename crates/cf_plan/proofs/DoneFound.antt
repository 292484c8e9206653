-- Which paths of a forward phase are done is found: one after another joins them, until none is left that may; and of the others
-- the first in the order of work is ready.
use Rattle.std.proofs.Common.{◌≡◌, ◌≢◌, ◌⊎◌, inl, inr, ℕ, true, false, ◌&&◌, List, ◌∷◌, ◌++◌, Option, Some, None, refl, sym, ap, subst, ◌∙◌, true≢false, map, find, [], suc, zero, ◌≤◌, ◌<◌, arith, length-append, ◌+◌, Bool, not, filter}
use Rattle.cf_plan.specs.Forward.{AllDone, Bad, Finding, IsReady, Known, Later, evaluated_at, plan_before, plan_in, plan_now, wanted_paths, finding, known_or_later}
use Rattle.cf_tree.specs.Lists.{there}
use Rattle.cf_tree.specs.Lists.{here}
use Rattle.cf_tree.specs.Lists.{In}
use Rattle.cf_plan.specs.Done.{AreDone, HasTerms, made_paths, updated_paths, IsFresh, IsHeldRight, CanJoin, Joined, one, none, are_met}
use Rattle.cf_tree.specs.Datum.{Data, members_of}
use Rattle.cf_effect.specs.declared.held.Held.{Held}
use Rattle.cf_desired.specs.Seeing.{Seen}
use Rattle.cf_tree.specs.declared.source.Source.{Source}
use Rattle.cf_effect.specs.World.{StackState}
use Rattle.cf_desired.specs.declared.wanted.Wanted.{Wanted}
use Rattle.std.specs.Str.{bytes_eq}
use Rattle.cf_effect.specs.Words.{current_at}
use Rattle.std.specs.Cmp.{first_so, second_so}
use Rattle.cf_tree.specs.Lists.{is_among}
use Rattle.cf_desired.specs.Whole.{is_wanted_at, wanted_at, known_props_from}
use Rattle.cf_plan.specs.Between.{needs_at}
use Rattle.cf_desired.specs.Plan.{plan_of}
use Rattle.cf_tree.specs.Same.{same_members}
use Rattle.cf_effect.specs.Begin.{seen_in}
use Rattle.cf_effect.specs.Reply.{terms_of, wanted_in}
use Rattle.cf_desired.proofs.Planned.{WantedFirst, wanted_first}
use Rattle.cf_plan.proofs.Listed.{among_more, bytes_same, same_bytes}
use Rattle.std.proofs.lemmas.Bool.{and_from, cases_Bool, or_cases}
use Rattle.std.proofs.lemmas.Slice.Eq.{bytes_eq-Decides}
use Rattle.cf_plan.proofs.Members.{false_from, in_first}
use Rattle.std.specs.Prelude.{cond, is_some}
use Rattle.cf_plan.proofs.Doing.{all_met, are_done}
use Rattle.cf_plan.proofs.Fresh.{joined_less, left_of}
use Rattle.cf_schema.proofs.Equal.{same_equal, equal_same}
use Rattle.cf_desired.specs.Stays.{is_settled}
use Rattle.cf_desired.specs.declared.wanted.Evaluated.{Evaluated}
use Rattle.cf_desired.specs.declared.wanted.Evaluated.TheVariants.{Flawed as flawed, Known as evaluated}
use Rattle.cf_desired.specs.Seeing.{SeenAt}
use Rattle.cf_tree.specs.Named.{all_differ}
use Rattle.std.specs.List.{list_all, list_any}
use Rattle.cf_tree.specs.Keys.{value_at}
use Rattle.cf_plan.proofs.CreatedStays.{found_one}
use Rattle.cf_plan.proofs.RunLists.{is_found_in}
use Rattle.cf_desired.specs.declared.wanted.Inner.{Inner}
use Rattle.cf_plan.proofs.Differ.{one_id}

is_known : (f : Finding) (k : List ℕ) (ps : List (List ℕ × Data)) → (f ≡ Known k ps) ⊎ (f ≢ Known k ps)
is_known (Bad b) k ps = inr (λ e. cc)
is_known Later k ps = inr (λ e. cc)
is_known (Known j qs) k ps = elim (cases_Bool (bytes_eq j k && same_members (members_of qs) (members_of ps))) [
  | inl e ↦ inl (λ i. Known (bytes_same j k (first_so (bytes_eq j k) _ e) i) (same_equal qs ps (second_so (bytes_eq j k) _ e) i))
  | inr e ↦ inr (λ h.
      let kind : j ≡ k = cc in
      let props : qs ≡ ps = cc in
      true≢false (sym (and_from (bytes_eq j k) _ ((bytes_eq-Decides j k).1 kind) (equal_same qs ps props)) ∙ e))
]

-- what is held at the path is sure and as the template says
IsRight : StackState → List ℕ → Type 0
IsRight s p = IsHeldRight p (plan_now s) s.held

right_or : (s : StackState) (p : List ℕ) → IsRight s p ⊎ (IsRight s p → ⊥)
unfolding IsRight
right_or s p = by (current_at p s.held) refl where
  one : (h g : Held) → current_at p s.held ≡ Some h → current_at p s.held ≡ Some g → g ≡ h
  one h g e f = let k = sym f ∙ e in cc

  by : (o : Option Held) → current_at p s.held ≡ o → IsRight s p ⊎ (IsRight s p → ⊥)
  by None e = inr (λ w. let k = sym e ∙ w.1 in cc)
  by (Some h) e = elim (cases_Bool h.unsure) [
    | inl u ↦ inr (λ w. true≢false (sym u ∙ ap (λ r. r.unsure) (sym (one h w.0 e w.1)) ∙ w.2))
    | inr u ↦ elim (is_known (evaluated_at p s) h.kind h.props) [
      | inl k ↦ inl (h, e, u, k)
      | inr n ↦ inr (λ w. n (subst (λ r. evaluated_at p s ≡ Known r.kind r.props) (one h w.0 e w.1) w.3))
    ]
  ]

-- one of a list is so, or none is
one_or : {A : Type 0} (P : A → Type 0) → ((a : A) → P a ⊎ (P a → ⊥)) → (xs : List A) → ((a : A) × In a xs × P a) ⊎ ((a : A) → In a xs → P a → ⊥)
one_or P or [] = inr (λ a i. elim i [ ])
one_or P or (x ∷ xs) = elim (or x) [
  | inl p ↦ inl (x, here, p)
  | inr n ↦ elim (one_or P or xs) [ inl w ↦ inl (w.0, there w.1, w.2) | inr m ↦ inr (in_first (λ a. P a → ⊥) x xs n m) ]
]

module _ (s : StackState) (source : Source) (going : s.going ≡ Some source) where
  abbrev before : Seen
  before = seen_in s.before

  abbrev all : List Wanted
  all = (plan_of source before).wanted

  pub paths_are : wanted_paths s ≡ map (λ w. w.path) all
  paths_are = ap (λ g. map (λ w. w.path) (plan_in g before before).wanted) going

  pub needs_are : (p : List ℕ) → needs_at p s ≡ (terms_of (wanted_at p (plan_of source before))).needs
  needs_are p = ap (λ g. (terms_of (wanted_in g before p)).needs) going

  pub terms_are : HasTerms s (plan_before s)
  terms_are = record { paths = refl; needs = λ p. by p s.going } where
    by : (p : List ℕ) (g : Option Source) → (terms_of (wanted_at p (plan_in g before before))).needs ≡ (terms_of (wanted_in g before p)).needs
    by p None = refl
    by p (Some o) = refl

  -- paths join those that are done whatever the template says, until none is left that may
  abbrev start : List (List ℕ)
  start = made_paths s ++ updated_paths s

  abbrev Joins : List (List ℕ) → Type 0
  Joins done = Joined (plan_before s) (plan_now s) s.held start done

  abbrev Next : List (List ℕ) → List ℕ → Type 0
  Next done p = CanJoin (plan_before s) (plan_now s) s.held done p

  fresh_or : (done : List (List ℕ)) (p : List ℕ)
      → IsFresh (plan_before s) (plan_now s) s.held done p ⊎ (IsFresh (plan_before s) (plan_now s) s.held done p → ⊥)
  unfolding IsRight
  fresh_or done p = elim (cases_Bool (is_among p done)) [
    | inl e ↦ inr (λ f. true≢false (sym e ∙ f.0))
    | inr e ↦ elim (cases_Bool (are_met p (plan_before s) done)) [
      | inr n ↦ inr (λ f. true≢false (sym f.1 ∙ n))
      | inl m ↦ elim (right_or s p) [ inl r ↦ inl (e, m, r) | inr n ↦ inr (λ f. n f.2) ]
    ]
  ]

  less : (done : List (List ℕ)) (p : List ℕ) → Next done p → left_of (plan_before s) (plan_now s) s.held (done ++ p ∷ []) < left_of (plan_before s) (plan_now s) s.held done
  less done p w = joined_less (plan_before s) (plan_now s) s.held done (done ++ p ∷ []) (one none w) (λ e. absurd (omega (arith, length-append done (p ∷ []), e)))

  search : (n : ℕ) (done : List (List ℕ)) → left_of (plan_before s) (plan_now s) s.held done ≤ n → Joins done
      → (most : List (List ℕ)) × Joins most × ((p : List ℕ) → Next most p → ⊥)
  search zero done le j = (done, j, λ p w. let f = less done p w in absurd (omega (arith, f, le)))
  search (suc n) done le j = elim (one_or (IsFresh (plan_before s) (plan_now s) s.held done) (fresh_or done) (wanted_paths s)) [
    | inl w ↦ search n (done ++ w.0 ∷ []) (let f = less done w.0 (w.1, w.2) in omega (arith, f, le)) (one j (w.1, w.2))
    | inr m ↦ (done, j, λ p w. m p w.0 w.1)
  ]

  pub all_found : (done : List (List ℕ)) × AreDone s done
  all_found =
      let r = search (left_of (plan_before s) (plan_now s) s.held start) start (omega arith) none in
      (r.0, are_done s (plan_before s) terms_are (plan_now s) refl start r.0 refl r.1 r.2)

  -- and where not all are done, the first that isn't is ready
  module _ (done : List (List ℕ)) (are : AreDone s done) where
    abbrev First : Type 0
    First = (p : List ℕ) × IsReady s p × (is_among p done ≡ false)

    abbrev AllOf : List Wanted → Type 0
    AllOf ws = (p : List ℕ) → In p (map (λ w. w.path) ws) → is_among p done ≡ true

    go : (gone : List (List ℕ)) (ws : List Wanted) → WantedFirst gone ws → ((q : List ℕ) → is_among q gone ≡ true → is_among q done ≡ true)
        → ((p : List ℕ) → is_among p done ≡ false → find (is_wanted_at p) all ≡ find (is_wanted_at p) ws)
        → ((p : List ℕ) → In p (map (λ w. w.path) ws) → In p (wanted_paths s))
        → First ⊎ AllOf ws
    go gone [] first g left of = inr (λ p i. elim i [ ])
    go gone (w ∷ ws) first g left of = elim (cases_Bool (is_among w.path done)) [
      | inr e ↦ inl (w.path, ready e, e)
      | inl e ↦ elim (go (gone ++ w.path ∷ []) ws first.1 (more e) (next_left e) (λ p i. of p (there i))) [
        | inl f ↦ inl f
        | inr a ↦ inr (in_first (λ p. is_among p done ≡ true) w.path (map (λ v. v.path) ws) e a)
      ]
    ] where
      more : is_among w.path done ≡ true → (q : List ℕ) → is_among q (gone ++ w.path ∷ []) ≡ true → is_among q done ≡ true
      more e q a = elim (or_cases (is_among q gone) (bytes_eq q w.path) (sym (among_more gone w.path q) ∙ a)) [
        | inl k ↦ g q k
        | inr k ↦ subst (λ p. is_among p done ≡ true) (sym (bytes_same q w.path k)) e
      ]

      next_left : is_among w.path done ≡ true → (p : List ℕ) → is_among p done ≡ false → find (is_wanted_at p) all ≡ find (is_wanted_at p) ws
      next_left e p n = left p n ∙ ap (λ b. cond b (Some w) (find (is_wanted_at p) ws))
          (false_from (bytes_eq p w.path) (λ k. true≢false (sym e ∙ ap (λ q. is_among q done) (sym (bytes_same p w.path k)) ∙ n)))

      ready : is_among w.path done ≡ false → IsReady s w.path
      ready e =
          let found = left w.path e ∙ ap (λ b. cond b (Some w) (find (is_wanted_at w.path) ws)) (same_bytes w.path) in
          let needs = needs_are w.path ∙ ap (λ o. (terms_of o).needs) found in
          (of w.path here, λ q i. (are q).1 (g q (all_met w.needs gone first.0 q (subst (In q) needs i))))

    pub first_or_all : First ⊎ AllDone s
    first_or_all = elim (go [] all (wanted_first source before) (λ q e. absurd (true≢false (sym e))) (λ p e. refl) (λ p i. subst (In p) (sym paths_are) i)) [
      | inl f ↦ inl f
      | inr a ↦ inr (λ p i. (are p).1 (a p (subst (In p) paths_are i)))
    ]

-- what is seen of some paths alone
abbrev pub seen_of : List (List ℕ) → Seen → Seen
seen_of done seen = filter (λ v. is_among v.0 done) seen

pub value_left : (done : List (List ℕ)) (q : List ℕ) (seen : Seen) → value_at q (seen_of done seen) ≡ cond (is_among q done) (value_at q seen) None
value_left done q [] = by (is_among q done) where
  by : (b : Bool) → value_at {X = SeenAt} q [] ≡ cond b (value_at {X = SeenAt} q []) None
  by true = refl
  by false = refl
value_left done q (v ∷ vs) = by (is_among v.0 done) refl (bytes_eq q v.0) refl (value_left done q vs) where
  by : (b : Bool) → is_among v.0 done ≡ b → (c : Bool) → bytes_eq q v.0 ≡ c → value_at q (seen_of done vs) ≡ cond (is_among q done) (value_at q vs) None
      → value_at q (cond b (v ∷ seen_of done vs) (seen_of done vs)) ≡ cond (is_among q done) (cond c (Some v.1) (value_at q vs)) None
  by true e true f ih = ap (λ c. cond c (Some v.1) (value_at q (seen_of done vs))) f
      ∙ sym (ap (λ b. cond b (Some v.1) None) (ap (λ p. is_among p done) ((bytes_eq-Decides q v.0).0 f) ∙ e))
  by true e false f ih = ap (λ c. cond c (Some v.1) (value_at q (seen_of done vs))) f ∙ ih
  by false e true f ih =
      let none = ap (λ p. is_among p done) ((bytes_eq-Decides q v.0).0 f) ∙ e in
      ih ∙ ap (λ b. cond b (value_at q vs) None) none ∙ sym (ap (λ b. cond b (Some v.1) None) none)
  by false e false f ih = ih

-- of a list whose members differ in their paths each is the first of its path
pub first_of : (xs : List Inner) (i : Inner) → all_differ bytes_eq (map (λ n. n.path) xs) ≡ true → In i xs → find (λ n. bytes_eq i.path n.path) xs ≡ Some i
first_of xs i d j =
    let f = is_found_in (λ n. bytes_eq i.path n.path) xs i j ((bytes_eq-Decides i.path i.path).1 refl) in
    let one = found_one (λ n. bytes_eq i.path n.path) xs f.0 f.1 in
    f.1 ∙ ap (λ k. Some k) (one_id (λ (n : Inner). n.path) xs d f.0 i one.0 j (sym ((bytes_eq-Decides i.path f.0.path).0 one.1)))

pub differ_behind : (xs ys : List (List ℕ)) → all_differ bytes_eq (xs ++ ys) ≡ true → all_differ bytes_eq ys ≡ true
differ_behind [] ys d = d
differ_behind (x ∷ xs) ys d = differ_behind xs ys (second_so (not (list_any (bytes_eq x) (xs ++ ys))) (all_differ bytes_eq (xs ++ ys)) d)

pub all_pass : {A : Type 0} (test : A → Bool) (xs : List A) → ((x : A) → In x xs → test x ≡ true) → list_all test xs ≡ true
all_pass test [] h = refl
all_pass test (x ∷ xs) h = ap (λ b. b && list_all test xs) (h x here) ∙ all_pass test xs (λ y i. h y (there i))

pub each_passes : {A : Type 0} (test : A → Bool) (xs : List A) (x : A) → list_all test xs ≡ true → In x xs → test x ≡ true
each_passes test (y ∷ xs) x h here = first_so (test y) (list_all test xs) h
each_passes test (y ∷ xs) x h (there i) = each_passes test xs x (second_so (test y) (list_all test xs) h) i
each_passes test [] x h i = elim i [ ]

-- properties that are known or at fault are not Later
pub never_later : (k : List ℕ) (v : Evaluated) → is_settled v ≡ true → finding k v ≡ Later → ⊥
never_later k (flawed f) h e = cc
never_later k (evaluated ps) h e = by (known_props_from ps) h e where
  by : (o : Option (List (List ℕ × Data))) → is_some o ≡ true → known_or_later k o ≡ Later → ⊥
  by None g d = true≢false (sym g)
  by (Some qs) g d = cc
