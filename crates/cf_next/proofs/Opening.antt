-- The call that is found path by path while a forward phase goes on is the one that comes next.
use Rattle.std.proofs.Common.{◌≡◌, ◌⊎◌, inl, inr, ℕ, ◌+◌, ◌<◌, ◌≤◌, arith, Bool, true, false, ◌&&◌, ◌||◌, List, [], ◌∷◌, ◌++◌, Option, Some, None, Result, Ok, Err, IfOk, cond, find, map, option_map, refl, ap, sym, ◌∙◌, subst, true≢false}
use Rattle.std.specs.Prelude.{IsTrue, option_and_then}
use Rattle.std.specs.List.{slice_get}
use Rattle.std.specs.Option.{option_copied}
use Rattle.std.specs.Str.{bytes_eq}
use Rattle.std.proofs.lemmas.Bool.{cases_lt}
use Rattle.std.proofs.lemmas.Option.{none-some, same_Some, slice_get-map}
use Rattle.cf_tree.specs.Keys.{ascends, bytes_lt, value_at}
use Rattle.cf_tree.specs.Lists.{In}
use Rattle.cf_tree.specs.declared.request.Request.{Request}
use Rattle.cf_tree.specs.declared.request.Request.TheVariants as request
use Rattle.cf_ready.proofs.Ranked.{same_or_not}
use Rattle.cf_schema.specs.declared.described.Schema.{Schema}
use Rattle.cf_entry.proofs.Codec.{some_is}
use Rattle.cf_effect.specs.declared.held.Held.{Held}
use Rattle.cf_effect.specs.declared.layout.Layout.{Layout}
use Rattle.cf_effect.specs.declared.layout.Placed.{Placed}
use Rattle.cf_effect.specs.Layout.{AreRows, IsLayoutOf, is_row_of, source_members}
use Rattle.cf_effect.specs.Status.{Forward, stage_of}
use Rattle.cf_effect.specs.World.{StackState, World}
use Rattle.cf_effect.proofs.Places.{passes_at}
use Rattle.cf_effect.proofs.Sorted.{its_place, name_there, value_there}
use Rattle.cf_plan.specs.Forward.{AllDone, HasFailed}
use Rattle.cf_plan.specs.PathStates.{AreStatesOf, are_enough, create_of, done_by_places, may_begin, starts_from, starts_from_all, starts_of_path, update_of}
use Rattle.cf_plan.specs.Start.{Start}
use Rattle.cf_plan.specs.Starts.{AreOpen, start_of, wants_new}
use Rattle.cf_plan.specs.declared.path_state.PathFinding.{PathFinding}
use Rattle.cf_plan.specs.declared.path_state.PathFinding.TheVariants as it
use Rattle.cf_plan.specs.declared.path_state.PathState.{PathState}
use Rattle.cf_plan.proofs.Listed.{bytes_same, in_cons, in_none}
use Rattle.cf_plan.proofs.Members.{false_from, not_both}
use Rattle.cf_plan.proofs.Orders.{lower, not_below_itself}
use Rattle.cf_plan.proofs.RunLists.{is_found_in}
use Rattle.cf_plan.proofs.StatesDone.{at_in, in_place}
use Rattle.cf_plan.proofs.StatesOpen.{flat_in, in_flat, open_by}
use Rattle.cf_plan.proofs.StatesRead.{paths_laid}
use Rattle.cf_next.specs.declared.step.Next.{Next}
use Rattle.cf_next.specs.Chosen.{IsChosen, physical_id_of, precedes}
use Rattle.cf_next.specs.First.{call_in, fits_one, homes_now, is_start_before}
use Rattle.cf_next.specs.Opens.{IsFirstOpen, IsOpenCall, IsTakenBy, fitting_from, fitting_placed, open_ranked}
use Rattle.cf_next.specs.Repeats.{AreRepeatsBut}
use Rattle.cf_next.proofs.Advancing.{is_going}
use Rattle.cf_next.proofs.FirstBegun.{new_chosen}
use Rattle.cf_next.proofs.FirstNamed.{found_in}
use Rattle.cf_next.proofs.Firsts.{IsFirst, starts_in_order}
use Rattle.cf_next.proofs.RollingBack.{lower_or_same, not_before_itself, rising}

-- Of the requests that one path wants the first comes before the other: a create names no physical id.
abbrev NamesNone : Option Request → Type 0
NamesNone o = (r : Request) → o ≡ Some r → physical_id_of r ≡ []

not_below_none : (i : List ℕ) → bytes_lt i [] ≡ false
not_below_none [] = refl
not_below_none (x ∷ xs) = refl

module _ (path : List ℕ) where
  abbrev start : Request → Start
  start r = record { path = path; request = r }

  not_before : (a : Start) → a.path ≡ path → physical_id_of a.request ≡ [] → (b : Start) → b.path ≡ path → is_start_before b a ≡ false
  not_before a same none b own =
      subst (λ (i : List ℕ). precedes (b.path, physical_id_of b.request) (a.path, i) ≡ false) (sym none)
      (subst (λ (n : List ℕ). precedes (b.path, physical_id_of b.request) (n, []) ≡ false) (sym same)
      (subst (λ (n : List ℕ). precedes (n, physical_id_of b.request) (path, []) ≡ false) (sym own)
      (rw (not_below_itself path, not_below_none (physical_id_of b.request)) (neither (bytes_eq path path))))) where
        neither : (b : Bool) → (false || (b && false)) ≡ false
        neither true = refl
        neither false = refl

  one_in : (r : Request) (b : Start) → In b (start r ∷ []) → start r ≡ b
  one_in r b i = elim (in_cons i) [ inl e ↦ e | inr j ↦ absurd (in_none j) ]

  itself : (a : Start) → is_start_before a a ≡ false
  itself a = not_before_itself a.path (physical_id_of a.request)

  two_in : (q r : Request) (b : Start) → In b (start q ∷ start r ∷ []) → (start q ≡ b) ⊎ (start r ≡ b)
  two_in q r b i = elim (in_cons i) [ inl e ↦ inl e | inr j ↦ inr (one_in r b j) ]

  its_own : (q r : Request) (b : Start) → (start q ≡ b) ⊎ (start r ≡ b) → b.path ≡ path
  its_own q r b (inl e) = ap (λ (x : Start). x.path) (sym e)
  its_own q r b (inr e) = ap (λ (x : Start). x.path) (sym e)

  module _ (test : Start → Bool) where
    same_one : (r : Request) (a b : Start) → cond (test (start r)) (Some (start r)) None ≡ Some a → start r ≡ b → test b ≡ true → is_start_before b a ≡ false
    same_one r a b f e t =
        let found : Some (start r) ≡ Some a = sym (ap (λ c. cond c (Some (start r)) None) (ap test e ∙ t)) ∙ f in
        subst (λ (x : Start). is_start_before b x ≡ false) (sym e ∙ some_is (start r) a found) (itself b)

    first_of : (o u : Option Request) → NamesNone o → (a b : Start) → find test (start_of path o ++ start_of path u) ≡ Some a
        → In b (start_of path o ++ start_of path u) → test b ≡ true → is_start_before b a ≡ false
    first_of None None none a b f i t = absurd (in_none i)
    first_of None (Some r) none a b f i t = same_one r a b f (one_in r b i) t
    first_of (Some q) None none a b f i t = same_one q a b f (one_in q b i) t
    first_of (Some q) (Some r) none a b f i t = by (test (start q)) refl f where
      by : (c : Bool) → test (start q) ≡ c → cond c (Some (start q)) (cond (test (start r)) (Some (start r)) None) ≡ Some a → is_start_before b a ≡ false
      by true e g =
          subst (λ (x : Start). is_start_before b x ≡ false) (some_is (start q) a g) (not_before (start q) refl (none q refl) b (its_own q r b (two_in q r b i)))
      by false e g = elim (two_in q r b i) [
        | inl m ↦ absurd (true≢false (sym t ∙ ap test (sym m) ∙ e))
        | inr m ↦ same_one r a b g m t
      ]

create_none : (schemas : List Schema) (s : StackState) (found : PathFinding) (held : Option Held) → NamesNone (create_of schemas s found held)
create_none schemas s (it.Known kind props) None r e = ap physical_id_of (sym (some_is (request.Create kind.now props.now) r e))
create_none schemas s (it.Known kind props) (Some h) r e = by (wants_new schemas s h props.now) e where
  by : (b : Bool) → cond b (Some (request.Create kind.now props.now)) None ≡ Some r → physical_id_of r ≡ []
  by true g = ap physical_id_of (sym (some_is (request.Create kind.now props.now) r g))
  by false g = absurd (none-some r g)
create_none schemas s (it.Bad flaw) held r e = absurd (none-some r e)
create_none schemas s it.Later held r e = absurd (none-some r e)
create_none schemas s it.Unread held r e = absurd (none-some r e)

mapped_from : {A B : Type 0} (f : A → B) (o : Option A) (b : B) → option_map f o ≡ Some b → (a : A) × (o ≡ Some a) × (f a ≡ b)
mapped_from f None b e = absurd (none-some b e)
mapped_from f (Some a) b e = (a, refl, same_Some (f a) b e)

module _ (homes : List (List ℕ × List ℕ)) (schemas : List Schema) (s : StackState) (l : Layout) (ps : List PathState) (done : List Bool) (rows : AreRows (source_members s) l)
    (are : AreStatesOf s ps) (order : ascends l.places ≡ true) where
  abbrev wants : PathState → Option Request × Option Request
  wants p = (create_of schemas s p.found (option_copied p.held), update_of schemas p.found p.is_answered (option_copied p.held))

  -- a path stands at the place of its name
  place_of : (at : ℕ) (p : PathState) → slice_get ps at ≡ Some p → value_at p.path.now l.places ≡ Some at
  place_of at p e =
      let named : slice_get (map (λ (r : Placed). r.path) l.rows.items) at ≡ Some p.path.now =
      ap (λ ns. slice_get ns at) (paths_laid s l rows ∙ sym are.paths) ∙ slice_get-map (λ (q : PathState). q.path.now) ps at ∙ ap (option_map (λ (q : PathState). q.path.now)) e in
      let row = mapped_from (λ (r : Placed). r.path) (slice_get l.rows.items at) p.path.now (sym (slice_get-map (λ (r : Placed). r.path) l.rows.items at) ∙ named) in
      subst (λ n. value_at n l.places ≡ Some at) row.2 (its_place s l rows at row.0 row.1)

  -- no two names have one place
  one_name : (m n : List ℕ) (at : ℕ) → value_at m l.places ≡ Some at → value_at n l.places ≡ Some at → m ≡ n
  one_name m n at e g =
      let x = passes_at (is_row_of m) l.rows.items at (sym (rows.places m) ∙ e) in
      let y = passes_at (is_row_of n) l.rows.items at (sym (rows.places n) ∙ g) in
      bytes_same m x.0.path x.2 ∙ ap (λ (r : Placed). r.path) (same_Some x.0 y.0 (sym x.1 ∙ y.1)) ∙ sym (bytes_same n y.0.path y.2)

  record Ranking (p : PathState) : Type 0 where
    pub rank : ℕ
    pub at : ℕ
    pub name : slice_get l.places rank ≡ Some (p.path.now, at)
    pub stands : slice_get ps at ≡ Some p

  ranking : (p : PathState) → In p ps → Ranking p
  ranking p i =
      let w = in_place ps p i in
      let n = name_there p.path.now w.0 l.places (place_of w.0 p w.1) in
      record { rank = n.0; at = w.0; name = n.1; stands = w.1 }

  found_of : (p : PathState) (q : Ranking p) → open_ranked homes schemas s ps done l.places q.rank ≡ fitting_from homes schemas s done p
  found_of p q =
      ap (option_and_then (λ (n : List ℕ × ℕ). fitting_placed homes schemas s ps done n.1)) q.name ∙ ap (option_and_then (fitting_from homes schemas s done)) q.stands

  -- each request is of its path
  its_path : (p : PathState) (b : Start) → In b (starts_from schemas s done p) → (In b (starts_of_path schemas s p)) × (b.path ≡ p.path.now)
  its_path p b = by (may_begin s done p) where
    of_one : (o : Option Request) → In b (start_of p.path.now o) → b.path ≡ p.path.now
    of_one None i = absurd (in_none i)
    of_one (Some r) i = ap (λ (x : Start). x.path) (sym (one_in p.path.now r b i))

    of_two : (o u : Option Request) → In b (start_of p.path.now o ++ start_of p.path.now u) → b.path ≡ p.path.now
    of_two None u i = of_one u i
    of_two (Some r) u i = elim (in_cons i) [ inl e ↦ ap (λ (x : Start). x.path) (sym e) | inr j ↦ of_one u j ]

    by : (c : Bool) → In b (cond c (starts_of_path schemas s p) []) → (In b (starts_of_path schemas s p)) × (b.path ≡ p.path.now)
    by true i = (i, of_two (wants p).0 (wants p).1 i)
    by false i = absurd (in_none i)

  -- of one path what is found is the first
  first_at : (p : PathState) (a b : Start) → fitting_from homes schemas s done p ≡ Some a → In b (starts_from schemas s done p) → fits_one homes b ≡ true
      → is_start_before b a ≡ false
  first_at p a b = by (may_begin s done p) where
    by : (c : Bool) → find (fits_one homes) (cond c (starts_of_path schemas s p) []) ≡ Some a → In b (cond c (starts_of_path schemas s p) []) → fits_one homes b ≡ true
        → is_start_before b a ≡ false
    by true f i t = first_of p.path.now (fits_one homes) (wants p).0 (wants p).1 (create_none schemas s p.found (option_copied p.held)) a b f i t
    by false f i t = absurd (in_none i)

  record Found (rank : ℕ) (a : Start) : Type 0 where
    pub state : PathState
    pub at : ℕ
    pub name : slice_get l.places rank ≡ Some (state.path.now, at)
    pub stands : slice_get ps at ≡ Some state
    pub found : fitting_from homes schemas s done state ≡ Some a

  found : (rank : ℕ) (a : Start) → open_ranked homes schemas s ps done l.places rank ≡ Some a → Found rank a
  found rank a = by_name (slice_get l.places rank) refl where
    by_state : (n : List ℕ × ℕ) → slice_get l.places rank ≡ Some n → (o : Option PathState) → slice_get ps n.1 ≡ o
        → option_and_then (fitting_from homes schemas s done) o ≡ Some a → Found rank a
    by_state n e None g t = absurd (none-some a t)
    by_state n e (Some p) g t = record { state = p; at = n.1; name = e ∙ ap (λ k. Some (k, n.1)) (its_name); stands = g; found = t } where
      its_name : n.0 ≡ p.path.now
      its_name = one_name n.0 p.path.now n.1 (value_there l.places order rank n e) (place_of n.1 p g)

    by_name : (o : Option (List ℕ × ℕ)) → slice_get l.places rank ≡ o → option_and_then (λ (n : List ℕ × ℕ). fitting_placed homes schemas s ps done n.1) o ≡ Some a → Found rank a
    by_name None e t = absurd (none-some a t)
    by_name (Some n) e t = by_state n e (slice_get ps n.1) refl t

  -- so what is found first is the first of all
  module _ (a : Start) (first : IsFirstOpen homes schemas s ps done l.places a) where
    w : Found first.rank a
    w = found first.rank a first.found

    mine : (In a (starts_from schemas s done w.state)) × (fits_one homes a ≡ true)
    mine = found_in (fits_one homes) (starts_from schemas s done w.state) a w.found

    its : a.path ≡ w.state.path.now
    its = (its_path w.state a mine.0).1

    begins : In a (starts_from_all schemas s done ps)
    begins = flat_in (starts_from schemas s done) a w.state ps (at_in ps w.at w.state w.stands) mine.0

    module _ (b : Start) (p : PathState) (i : In p ps) (j : In b (starts_from schemas s done p)) (fits : fits_one homes b ≡ true) where
      q : Ranking p
      q = ranking p i

      own : b.path ≡ p.path.now
      own = (its_path p b j).1

      there_is : (y : Start) × (open_ranked homes schemas s ps done l.places q.rank ≡ Some y)
      there_is = let k = is_found_in (fits_one homes) (starts_from schemas s done p) b j fits in (k.0, found_of p q ∙ k.1)

      before : is_start_before b a ≡ true → (q.rank < first.rank) ⊎ (first.rank ≤ q.rank) → ⊥
      before t (inl less) = none-some there_is.0 (sym (first.first q.rank less) ∙ there_is.1)
      before t (inr over) = elim (same_or_not q.rank first.rank) [
        | inl same ↦ itself (same_Some q.at w.at (ap (option_map (λ (n : List ℕ × ℕ). n.1)) (sym q.name ∙ ap (slice_get l.places) same ∙ w.name)))
        | inr other ↦ later (omega (arith, over, other))
      ] where
        itself : q.at ≡ w.at → ⊥
        itself e =
            let state : p ≡ w.state = same_Some p w.state (sym q.stands ∙ ap (slice_get ps) e ∙ w.stands) in
            not_both (is_start_before b a) t (first_at w.state a b w.found (subst (λ (r : PathState). In b (starts_from schemas s done r)) state j) fits)

        later : first.rank < q.rank → ⊥
        later more =
            let low : bytes_lt a.path b.path ≡ true =
            subst (λ n. bytes_lt n b.path ≡ true) (sym its)
            (subst (λ n. bytes_lt w.state.path.now n ≡ true) (sym own)
            (rising l.places order first.rank q.rank (w.state.path.now, w.at) (p.path.now, q.at) more w.name q.name)) in
            lower_or_same (bytes_lt b.path a.path) (bytes_eq b.path a.path) (bytes_lt (physical_id_of b.request) (physical_id_of a.request)) t
            (λ e. not_both (bytes_lt a.path a.path) (lower a.path b.path a.path low e) (not_below_itself a.path))
            (λ e. not_both (bytes_lt a.path a.path) (subst (λ n. bytes_lt a.path n ≡ true) (bytes_same b.path a.path e) low) (not_below_itself a.path))

      not_earlier : is_start_before b a ≡ false
      not_earlier = false_from (is_start_before b a) (λ t. before t (cases_lt q.rank first.rank))

    least : (b : Start) → In b (starts_from_all schemas s done ps) → fits_one homes b ≡ true → is_start_before b a ≡ false
    least b i fits = let (p, at, j) = in_flat (starts_from schemas s done) b ps i in not_earlier b p at j fits

    is_first : IsFirst is_start_before starts_in_order (fits_one homes) (λ b. In b (starts_from_all schemas s done ps)) (Some a)
    is_first = (begins, mine.1, least)

-- so it is chosen
module _ (out : List ℕ) (x : World) (s : StackState) (schemas : List Schema) (forward : stage_of s.status ≡ Some Forward) (idle : AreRepeatsBut [] out s [])
    (name : List ℕ) (good : HasFailed schemas name x s → ⊥) (starts : List Start) (may : AreOpen schemas s starts) where
  left : (a : Start) → In a starts → AllDone s → ⊥
  left a i all = let k = (may a.path a.request).1 i in k.1 (all a.path k.0.0)

  chosen : (a : Start) → IsFirst is_start_before starts_in_order (fits_one (homes_now out x)) (λ b. In b starts) (Some a) → (n : Next)
      → call_in (homes_now out x) (x.token + 1) a ≡ Some n → IsChosen schemas name x out s Forward n
  chosen a first n c =
      let offer = is_going schemas name x out s forward good starts may false
      (λ t. absurd (true≢false (sym t)), λ all. absurd (left a first.0 all)) [] (idle schemas name x Forward refl good) in
      new_chosen schemas name x out s Forward _ offer (λ q i. absurd (in_none i)) (Some a) None first (λ j i. absurd (in_none i)) n c

pub open_chosen : {E : Type 0} (out : List ℕ) (x : World) (s : StackState) (schemas : List Schema) (l : Layout) (ps : List PathState) (done : List Bool)
    (lanes : List (List ℕ × List ℕ)) (names : List (List ℕ × ℕ)) (a : Start) (res : Result (Option Next) E) → stage_of s.status ≡ Some Forward → AreRepeatsBut [] out s []
    → IsLayoutOf s (Some l) → AreStatesOf s ps → done ≡ done_by_places ps → IsTrue (are_enough done ps) → ascends names ≡ true → names ≡ l.places
    → lanes ≡ homes_now out x → IsFirstOpen lanes schemas s ps done names a → IfOk res (λ n. n ≡ call_in lanes (x.token + 1) a)
    → IfOk res (IsOpenCall out x s schemas)
open_chosen out x s schemas l ps done lanes names a (Err e) forward idle rows are is enough order placed h first c = tt
open_chosen out x s schemas l ps done lanes names a (Ok None) forward idle rows are is enough order placed h first c = tt
open_chosen out x s schemas l ps done lanes names a (Ok (Some n)) forward idle rows are is enough order placed h first c = λ name good.
    chosen out x s schemas forward idle name good (starts_from_all schemas s done ps) (open_by schemas s ps done are is enough) a
    (is_first (homes_now out x) schemas s l ps done rows are (subst (λ (ns : List (List ℕ × ℕ)). ascends ns ≡ true) placed order) a
    (subst (λ ns. IsFirstOpen (homes_now out x) schemas s ps done ns a) placed (subst (λ hs. IsFirstOpen hs schemas s ps done names a) h first))) n
    (ap (λ hs. call_in hs (x.token + 1) a) (sym h) ∙ sym c)

-- where the phase has not failed, it is chosen whichever the stage
pub open_taken : (out : List ℕ) (x : World) (s : StackState) (schemas : List Schema) (name : List ℕ) (n : Next) → stage_of s.status ≡ Some Forward
    → IsOpenCall out x s schemas (Some n) → (HasFailed schemas name x s → ⊥) → IsTakenBy out x s schemas name (Some n)
open_taken out x s schemas name n forward call good = λ stage at. subst (λ g. IsChosen schemas name x out s g n) (some_is Forward stage (sym forward ∙ at)) (call name good)
