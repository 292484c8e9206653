-- The first of all that an offer has is chosen; and where it has nothing that a lane can take, a phase or the end, or to wait.
use Rattle.std.proofs.Common.{◌≡◌, ◌≢◌, ◌↔◌, ◌⊎◌, inl, inr, ℕ, ◌+◌, ◌==◌, nat_lt, Bool, true, false, ◌&&◌, ◌||◌, not, List, [], ◌∷◌, Option, Some, None, cond, filter, find, option_map, refl, ap, sym, ◌∙◌, subst, true≢false}
use Rattle.std.specs.Prelude.{IsTrue}
use Rattle.std.specs.List.{list_any}
use Rattle.std.specs.Cmp.{first_so, second_so}
use Rattle.cf_tree.specs.declared.request.Request.{Request}
use Rattle.cf_tree.specs.declared.request.Request.TheVariants as request
use Rattle.cf_schema.specs.declared.described.Schema.{Schema}
use Rattle.cf_entry.proofs.Codec.{some_is}
use Rattle.cf_entry.specs.declared.turn.Why.{Why}
use Rattle.cf_entry.specs.declared.turn.Why.TheVariants as why
use Rattle.cf_effect.specs.declared.held.Pending.{Pending}
use Rattle.cf_effect.specs.World.{StackState, World}
use Rattle.cf_effect.specs.Status.{Stage}
use Rattle.cf_plan.specs.Follow.{MayIntend, is_lane_leased, none_in_flight}
use Rattle.cf_tree.specs.Lists.{In}
use Rattle.cf_plan.specs.Homes.{first_home}
use Rattle.cf_plan.specs.Start.{Start}
use Rattle.cf_plan.proofs.CreatedStays.{found_one}
use Rattle.cf_plan.proofs.Members.{any_in, false_from, in_any, is_so, not_both, not_so}
use Rattle.cf_plan.proofs.RunLists.{is_found_in}
use Rattle.cf_next.specs.declared.offer.Keeping.{Keeping}
use Rattle.cf_next.specs.declared.offer.Offer.{Offer}
use Rattle.cf_next.specs.declared.step.Next.{Next}
use Rattle.cf_next.specs.declared.step.Next.TheVariants as next
use Rattle.cf_next.specs.Chosen.{GoesFirst, IsChosen, MayStart, is_placed_before, physical_id_of, step_place, precedes}
use Rattle.cf_next.specs.Due.{is_step_before}
use Rattle.cf_next.specs.First.{again, call_in, call_on, either_new, first_begun, first_keeping, first_new, first_repeat, first_start, fits_one}
use Rattle.cf_next.specs.First.{homes_now, is_keeping_before, is_lane_home, is_opened_before, is_start_before, keep, keeping_place, repeat_or, start_place}
use Rattle.cf_next.specs.Joining.{IsLast, fits, is_home_for}
use Rattle.cf_next.specs.Offer.{IsOffer}
use Rattle.cf_next.proofs.Calls.{begins, by_home, home_by, intent}
use Rattle.cf_next.proofs.Firsts.{IsFirst, first_is, keepings_in_order, opened_in_order, starts_in_order}
use Rattle.cf_next.proofs.Followed.{none_is}
use Rattle.cf_next.proofs.Orders.{compared, places_in_order, precedes_in_order}
use Rattle.cf_next.proofs.Repeating.{in_left}

found_left : {A : Type 0} (q p : A → Bool) (xs : List A) → find p (filter q xs) ≡ find (λ a. p a && q a) xs
found_left q p [] = refl
found_left {A} q p (x ∷ xs) = by (q x) (found_left q p xs)
  where
    both : (c : Bool) (f g : Option A) → f ≡ g → cond c (Some x) f ≡ cond (c && true) (Some x) g
    both true f g e = refl
    both false f g e = e

    neither : (c : Bool) (f g : Option A) → f ≡ g → f ≡ cond (c && false) (Some x) g
    neither true f g e = e
    neither false f g e = e

    by : (b : Bool) → find p (filter q xs) ≡ find (λ a. p a && q a) xs
        → find p (cond b (x ∷ filter q xs) (filter q xs)) ≡ cond (p x && b) (Some x) (find (λ a. p a && q a) xs)
    by true rest = both (p x) (find p (filter q xs)) (find (λ a. p a && q a) xs) rest
    by false rest = neither (p x) (find p (filter q xs)) (find (λ a. p a && q a) xs) rest

-- what is not below another is not below what that is not below
no_lower : (a b c : List ℕ × List ℕ) → precedes a b ≡ false → precedes b c ≡ false → precedes a c ≡ false
no_lower a b c e f = elim (compared a b) [
  | inl l ↦ absurd (not_both (precedes a b) l e)
  | inr w ↦ elim w [
    | inl same ↦ subst (λ (d : List ℕ × List ℕ). precedes d c ≡ false) (sym same) f
    | inr l ↦ false_from (precedes a c) (λ t. not_both (precedes b c) (precedes_in_order.goes_on b a c l t) f)
  ]
]

nothing_more : (a b : Bool) → a ≡ false → (a || (b && false)) ≡ false
nothing_more a true e = rw e refl
nothing_more a false e = rw e refl

module _ (schemas : List Schema) (name : List ℕ) (x : World) (out : List ℕ) (s : StackState) (stage : Stage) (o : Offer)
    (offer : IsOffer schemas name x out s stage o) where
  abbrev homes : List (List ℕ × List ℕ)
  homes = homes_now out x

  abbrev Starts : Next → Type 0
  Starts n = MayStart schemas name x out s stage n

  -- What is chosen starts on its lane, and none that may start precedes it.
  abbrev Chosen : Next → Type 0
  Chosen n = IsChosen schemas name x out s stage n

  -- The first of each list.
  abbrev FirstRepeat : Option Pending → Type 0
  FirstRepeat p = IsFirst is_opened_before opened_in_order (λ q. is_lane_home out x q.lane) (λ q. In q o.repeats) p

  abbrev FirstStart : Option Start → Type 0
  FirstStart a = IsFirst is_start_before starts_in_order (fits_one homes) (λ b. In b o.starts) a

  abbrev FirstKeeping : Option Keeping → Type 0
  FirstKeeping k = IsFirst is_keeping_before keepings_in_order (λ j. true) (λ j. In j o.keepings) k

  -- What may start is offered.
  abbrev repeat_of : List ℕ → List ℕ → ℕ → Request → Pending
  repeat_of path lane token r = record { token = token; path = path; lane = lane; request = r }

  abbrev start_of : List ℕ → Request → Start
  start_of path r = record { path = path; request = r }

  abbrev keeping_of : List ℕ → List ℕ → Why → Keeping
  keeping_of path id w = record { path = path; physical = id; why = w }

  repeats_in : (path lane : List ℕ) (token : ℕ) (r : Request) → Starts (next.Step path lane token r true)
      → In (repeat_of path lane token r) o.repeats × (is_lane_home out x lane ≡ true)
  repeats_in path lane token r w = ((offer.repeats (repeat_of path lane token r)).0 w.repeats, not_so (is_lane_leased out x lane) w.home)

  at_home : (r : Request) (l : List ℕ × List ℕ) → In l x.lanes → is_home_for out x r l ≡ true → list_any (fits r) homes ≡ true
  at_home r l i e =
      any_in (fits r) l homes
      ((in_left (λ (m : List ℕ × List ℕ). is_lane_home out x m.0) x.lanes l).1 (i, second_so (fits r l) (is_lane_home out x l.0) e))
      (first_so (fits r l) (is_lane_home out x l.0) e)

  starts_in : (path lane : List ℕ) (token : ℕ) (r : Request) → MayIntend schemas name x out s stage token lane path r
      → In (start_of path r) o.starts × (fits_one homes (start_of path r) ≡ true)
  starts_in path lane token r w =
      let l = by_home x out lane r (w.fits, w.home) in
      ((offer.starts path r).0 (begins x out schemas name s stage path lane token r w), at_home r l.0 l.1 l.2)

  keepings_in : (path id : List ℕ) (w : Why) → Starts (next.Keep path id w) → In (keeping_of path id w) o.keepings
  keepings_in path id y w = (offer.keepings path id y).0 w

  -- A call that is made again.
  goes_again : (path lane : List ℕ) (token : ℕ) (r : Request) → GoesFirst out x (next.Step path lane token r true)
  goes_again path lane token (request.Create k props) = tt
  goes_again path lane token (request.Update id props) = tt
  goes_again path lane token (request.Delete id) = tt

  repeat_first : (p : Pending) → ((q : Pending) → In q o.repeats → is_lane_home out x q.lane ≡ true → is_opened_before q p ≡ false)
      → (m : Next) → Starts m → is_step_before m (again p) ≡ false
  repeat_first p least (next.Step path lane token r true) w =
      let i = repeats_in path lane token r w in nothing_more (nat_lt token p.token) (token == p.token) (least (repeat_of path lane token r) i.0 i.1)
  repeat_first p least (next.Step path lane token r false) w = refl
  repeat_first p least (next.Keep path id y) w = refl
  repeat_first p least (next.Turn q c) w = refl
  repeat_first p least (next.End state failed) w = refl
  repeat_first p least next.Wait w = refl

  repeat_chosen : (p : Pending) → FirstRepeat (Some p) → Chosen (again p)
  repeat_chosen p (i, home, least) = record {
    may = record { repeats = (offer.repeats p).1 i; home = is_so (is_lane_leased out x p.lane) home };
    first = repeat_first p least;
    lane = goes_again p.path p.lane p.token p.request;
  }

  -- A new call.
  goes_first : (path : List ℕ) (token : ℕ) (r : Request) (l : List ℕ × List ℕ) → find (is_home_for out x r) x.lanes ≡ Some l
      → GoesFirst out x (next.Step path l.0 token r false)
  goes_first path token (request.Create k props) l e = ap (option_map (λ (m : List ℕ × List ℕ). m.0)) e
  goes_first path token (request.Update id props) l e = tt
  goes_first path token (request.Delete id) l e = tt

  call_starts : (a : Start) → In a o.starts → (l : List ℕ × List ℕ) → find (fits a.request) homes ≡ Some l
      → Starts (call_on (x.token + 1) a l) × GoesFirst out x (call_on (x.token + 1) a l)
  call_starts a i l e =
      let f = sym (found_left (λ (m : List ℕ × List ℕ). is_lane_home out x m.0) (fits a.request) x.lanes) ∙ e in
      let at = found_one (is_home_for out x a.request) x.lanes l f in (
        intent x out schemas name s stage a.path l.0 a.request ((offer.starts a.path a.request).1 i) (home_by x out a.request l at.0 at.1),
        goes_first a.path (x.token + 1) a.request l f,
      )

  call_there : (a : Start) → fits_one homes a ≡ true → call_in homes (x.token + 1) a ≡ None → ⊥
  call_there a t e =
      let l = in_any (fits a.request) homes t in
      let f = is_found_in (fits a.request) homes l.0 l.1 l.2 in
      none_is (call_on (x.token + 1) a f.0) (sym e ∙ ap (option_map (call_on (x.token + 1) a)) f.1)

  module _ (none : FirstRepeat None) where
    no_repeat : (path lane : List ℕ) (token : ℕ) (r : Request) → Starts (next.Step path lane token r true) → ⊥
    no_repeat path lane token r w =
        let i = repeats_in path lane token r w in not_both (is_lane_home out x lane) i.1 (none (repeat_of path lane token r) i.0)

    -- none that may start precedes a place that no new call and no resource to keep precedes
    new_first : (q : List ℕ × List ℕ) (y : Why) → ((b : Start) → In b o.starts → fits_one homes b ≡ true → precedes (start_place b) q ≡ false)
        → ((k : Keeping) → In k o.keepings → precedes (keeping_place k) q ≡ false)
        → (m : Next) → Starts m → is_placed_before (step_place m) (step_place (next.Keep q.0 q.1 y)) ≡ false
    new_first q y by_start by_keeping (next.Step path lane token r true) w = absurd (no_repeat path lane token r w)
    new_first q y by_start by_keeping (next.Step path lane token r false) w =
        let i = starts_in path lane token r w in by_start (start_of path r) i.0 i.1
    new_first q y by_start by_keeping (next.Keep path id z) w = by_keeping (keeping_of path id z) (keepings_in path id z w)
    new_first q y by_start by_keeping (next.Turn p c) w = refl
    new_first q y by_start by_keeping (next.End state failed) w = refl
    new_first q y by_start by_keeping next.Wait w = refl

    kept_chosen : (k : Keeping) → In k o.keepings
        → ((b : Start) → In b o.starts → fits_one homes b ≡ true → precedes (start_place b) (keeping_place k) ≡ false)
        → ((j : Keeping) → In j o.keepings → precedes (keeping_place j) (keeping_place k) ≡ false) → Chosen (keep k)
    kept_chosen k i by_start by_keeping = record {
      may = (offer.keepings k.path k.physical k.why).1 i;
      first = new_first (keeping_place k) k.why by_start by_keeping;
      lane = tt;
    }

    call_chosen : (a : Start) → In a o.starts
        → ((b : Start) → In b o.starts → fits_one homes b ≡ true → precedes (start_place b) (start_place a) ≡ false)
        → ((j : Keeping) → In j o.keepings → precedes (keeping_place j) (start_place a) ≡ false)
        → (n : Next) → call_in homes (x.token + 1) a ≡ Some n → Chosen n
    call_chosen a i by_start by_keeping n = by (find (fits a.request) homes) refl
      where
        by : (l : Option (List ℕ × List ℕ)) → find (fits a.request) homes ≡ l → option_map (call_on (x.token + 1) a) l ≡ Some n → Chosen n
        by None f e = none_is n e
        by (Some l) f e =
            let start = call_starts a i l f in
            subst Chosen (some_is (call_on (x.token + 1) a l) n e) (record {
              may = start.0;
              first = new_first (start_place a) why.Retained by_start by_keeping;
              lane = start.1;
            })

    pub new_chosen : (a : Option Start) (k : Option Keeping) → FirstStart a → FirstKeeping k → (n : Next)
        → either_new homes (x.token + 1) a k ≡ Some n → Chosen n
    new_chosen None None f g n e = none_is n e
    new_chosen None (Some k) f (i, t, least) n e =
        subst Chosen (some_is (keep k) n e)
        (kept_chosen k i (λ b j u. absurd (not_both (fits_one homes b) u (f b j))) (λ j m. least j m refl))
    new_chosen (Some a) None (i, t, least) g n e = call_chosen a i least (λ j m. absurd (true≢false (g j m))) n e
    new_chosen (Some a) (Some k) (i, t, least) (j, u, lowest) n q = by (precedes (keeping_place k) (start_place a)) refl q
      where
        by : (b : Bool) → precedes (keeping_place k) (start_place a) ≡ b → cond b (Some (keep k)) (call_in homes (x.token + 1) a) ≡ Some n → Chosen n
        by true p e =
            subst Chosen (some_is (keep k) n e) (kept_chosen k j
            (λ b m v. false_from (precedes (start_place b) (keeping_place k)) (λ w.
            not_both (precedes (start_place b) (start_place a))
            (precedes_in_order.goes_on (start_place b) (keeping_place k) (start_place a) w p) (least b m v)))
            (λ l m. lowest l m refl))
        by false p e = call_chosen a i least (λ l m. no_lower (keeping_place l) (keeping_place k) (start_place a) (lowest l m refl) p) n e

    either_there : (a : Option Start) (k : Option Keeping) → FirstStart a → FirstKeeping k → either_new homes (x.token + 1) a k ≡ None
        → FirstStart None × FirstKeeping None
    either_there None None f g e = (f, g)
    either_there None (Some k) f g e = none_is (keep k) (sym e)
    either_there (Some a) None (i, t, least) g e = absurd (call_there a t e)
    either_there (Some a) (Some k) (i, t, least) g q = by (precedes (keeping_place k) (start_place a)) q
      where
        by : (b : Bool) → cond b (Some (keep k)) (call_in homes (x.token + 1) a) ≡ None → FirstStart None × FirstKeeping None
        by true e = none_is (keep k) (sym e)
        by false e = absurd (call_there a t e)

  repeats_are : FirstRepeat (first_repeat out x o.repeats)
  repeats_are = first_is is_opened_before opened_in_order (λ q. is_lane_home out x q.lane) o.repeats

  starts_are : FirstStart (first_start homes o.starts)
  starts_are = first_is is_start_before starts_in_order (fits_one homes) o.starts

  keepings_are : FirstKeeping (first_keeping o.keepings)
  keepings_are = first_is is_keeping_before keepings_in_order (λ j. true) o.keepings

  -- The first of all is chosen.
  pub begun_chosen : (n : Next) → first_begun out x o ≡ Some n → Chosen n
  begun_chosen n = by (first_repeat out x o.repeats) repeats_are
    where
      by : (p : Option Pending) → FirstRepeat p → repeat_or p (first_new homes (x.token + 1) o) ≡ Some n → Chosen n
      by (Some p) f e = subst Chosen (some_is (again p) n e) (repeat_chosen p f)
      by None none e = new_chosen none (first_start homes o.starts) (first_keeping o.keepings) starts_are keepings_are n e

  -- Where there is none only a phase, the end and to wait may start.
  abbrev IsAfter : Next → Type 0
  IsAfter (next.Step path lane token r b) = ⊥
  IsAfter (next.Keep path id w) = ⊥
  IsAfter _ = Unit {0}

  after : FirstRepeat None → FirstStart None → FirstKeeping None → (m : Next) → Starts m → IsAfter m
  after none f g (next.Step path lane token r true) w = no_repeat none path lane token r w
  after none f g (next.Step path lane token r false) w =
      let i = starts_in path lane token r w in not_both (fits_one homes (start_of path r)) i.1 (f (start_of path r) i.0)
  after none f g (next.Keep path id y) w = true≢false (g (keeping_of path id y) (keepings_in path id y w))
  after none f g (next.Turn q c) w = tt
  after none f g (next.End state failed) w = tt
  after none f g next.Wait w = tt

  begun_none : first_begun out x o ≡ None → (m : Next) → Starts m → IsAfter m
  begun_none = by (first_repeat out x o.repeats) repeats_are
    where
      by : (p : Option Pending) → FirstRepeat p → repeat_or p (first_new homes (x.token + 1) o) ≡ None → (m : Next) → Starts m → IsAfter m
      by (Some p) f e m w = none_is (again p) (sym e)
      by None none e m w =
          let there = either_there none (first_start homes o.starts) (first_keeping o.keepings) starts_are keepings_are e in
          after none there.0 there.1 m w

  -- A phase and the end.
  abbrev Last : Next → Type 0
  Last n = IsTrue (none_in_flight out s) × IsLast schemas name x s stage n

  last_starts : (n : Next) → Last n → Starts n
  last_starts (next.Turn p c) (idle, w) = (idle, w)
  last_starts (next.End state failed) (idle, w) = (idle, w.0, w.1, w.2)
  last_starts _ (idle, w) = absurd w

  last_lane : (n : Next) → Last n → GoesFirst out x n
  last_lane (next.Turn p c) w = tt
  last_lane (next.End state failed) w = tt
  last_lane _ (idle, w) = absurd w

  waits_after : (n : Next) → Last n → is_step_before next.Wait n ≡ false
  waits_after (next.Turn p c) w = refl
  waits_after (next.End state failed) w = refl
  waits_after _ (idle, w) = absurd w

  last_or_wait : (m : Next) → IsAfter m → Starts m → (m ≡ next.Wait) ⊎ Last m
  last_or_wait (next.Step path lane token r b) a w = absurd a
  last_or_wait (next.Keep path id y) a w = absurd a
  last_or_wait (next.Turn p c) a w = inr w
  last_or_wait (next.End state failed) a w = inr (w.0, (w.1, w.2, w.3))
  last_or_wait next.Wait a w = inl refl

  module _ (none : first_begun out x o ≡ None) (last : Option Next) (is : (n : Next) → Last n ↔ (last ≡ Some n)) where
    pub last_chosen : (n : Next) → last ≡ Some n → Chosen n
    last_chosen n e = record { may = last_starts n ((is n).1 e); first = first; lane = last_lane n ((is n).1 e) }
      where
        before : (m : Next) → (m ≡ next.Wait) ⊎ Last m → is_step_before m n ≡ false
        before m (inl w) = subst (λ (k : Next). is_step_before k n ≡ false) (sym w) (waits_after n ((is n).1 e))
        before m (inr l) =
            subst (λ (k : Next). is_step_before k n ≡ false) (some_is n m (sym e ∙ (is m).0 l)) (places_in_order.not_itself (step_place n))

        first : (m : Next) → Starts m → is_step_before m n ≡ false
        first m w = before m (last_or_wait m (begun_none none m w) w)

    -- where nothing comes last either, nothing starts but to wait
    only_wait : last ≡ None → (m : Next) → Starts m → m ≡ next.Wait
    only_wait e m w = elim (last_or_wait m (begun_none none m w) w) [ inl q ↦ q | inr l ↦ none_is m (sym e ∙ (is m).0 l) ]

    pub wait_chosen : last ≡ None → out ≢ [] → Chosen next.Wait
    wait_chosen e leased = record {
      may = leased;
      first = λ m w. subst (λ (k : Next). is_step_before k next.Wait ≡ false) (sym (only_wait e m w)) (places_in_order.not_itself (step_place next.Wait));
      lane = tt;
    }

    pub none_starts : last ≡ None → out ≡ [] → (m : Next) → Starts m → ⊥
    none_starts e idle m w = subst Starts (only_wait e m w) w idle
