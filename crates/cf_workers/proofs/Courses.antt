-- What a course of a run tells of its calls: the outcomes are their answers in order, and so are the logs of the lanes.
use Rattle.std.proofs.Common.{◌≡◌, ℕ, zero, suc, ◌≤◌, Bool, true, false, cond, List, [], ◌∷◌, ◌++◌, Option, Some, None, option_map, refl, sym, ◌∙◌, ap, subst, append-nil, append_assoc, true≢false, arith}
use Rattle.std.specs.Prelude.{filter, slice_get}
use Rattle.std.specs.List.{cons_option, filter_map}
use Rattle.std.specs.Str.{bytes_eq}
use Rattle.std.proofs.lemmas.List.Elements.{filter-append, filter_map-append}
use Rattle.std.proofs.lemmas.Option.{slice_get-map}
use Rattle.cf_tree.specs.Lists.{In}
use Rattle.cf_disk.specs.declared.disk.Disk.{Ghosts}
use Rattle.cf_entry.specs.declared.entry.Entry.{Entry}
use Rattle.cf_entry.specs.declared.entry.Entry.TheVariants as entry
use Rattle.cf_entry.specs.declared.entry.Reply.{Reply}
use Rattle.cf_lane.specs.declared.told.Told.{Told}
use Rattle.cf_plan.proofs.Differ.{one_id}
use Rattle.cf_plan.proofs.Listed.{bytes_same, same_bytes}
use Rattle.cf_next.specs.Chosen.{entry_for}
use Rattle.cf_next.specs.declared.step.Next.{Next}
use Rattle.cf_next.specs.declared.step.Next.TheVariants as next
use Rattle.cf_book.specs.Events.{outcome_by}
use Rattle.cf_book.specs.Record.{with_doubt}
use Rattle.cf_book.specs.State.{BookLane, BookNow, at_home, come_home, with_lane}
use Rattle.cf_workers.specs.Driving.{AreInTurn, CallAt, CallMade, Course, HasAnswered, IsAtRest, Round, call_at, calls_of, calls_on, intended, is_outcome, outcome_in, step_of}

-- what is at a place is in the list
pub at_place : {A : Type 0} (xs : List A) (k : ℕ) (x : A) → slice_get xs k ≡ Some x → In x xs
at_place [] k x q = let never : ⊥ = cc in absurd never
at_place (y ∷ ys) zero x q = subst (λ z. In z (y ∷ ys)) (some y x q) In.here where
  some : {A : Type 0} (a b : A) → Some a ≡ Some b → a ≡ b
  some a b e = cc
at_place (y ∷ ys) (suc k) x q = In.there (at_place ys k x q)

-- each book of a course is at rest
pub rests : {D : Type 0} {g : Ghosts D} {number : ℕ} {first last : BookNow D} → IsAtRest g first → Course g number first last → IsAtRest g last
rests rest Course.begins = rest
rests rest (Course.goes course round grows now) = now

-- what a step writes is no outcome
no_outcome : (number : ℕ) (n : Next) (e : Entry) → entry_for number n ≡ Some e → is_outcome e ≡ false
no_outcome number (next.Step path lane token r true) e q = let never : ⊥ = cc in absurd never
no_outcome number (next.Step path lane token r false) e q = ap is_outcome (sym (same (entry.Intent number token lane path r) e q)) where
  same : (a b : Entry) → Some a ≡ Some b → a ≡ b
  same a b p = cc
no_outcome number (next.Keep path physical w) e q = ap is_outcome (sym (same (entry.Kept number path physical w) e q)) where
  same : (a b : Entry) → Some a ≡ Some b → a ≡ b
  same a b p = cc
no_outcome number (next.Turn p cause) e q = ap is_outcome (sym (same (entry.Phase number p cause) e q)) where
  same : (a b : Entry) → Some a ≡ Some b → a ≡ b
  same a b r = cc
no_outcome number (next.End state failed) e q = ap is_outcome (sym (same (entry.Done number state failed) e q)) where
  same : (a b : Entry) → Some a ≡ Some b → a ≡ b
  same a b p = cc
no_outcome number next.Wait e q = let never : ⊥ = cc in absurd never

filter_none : (es : List Entry) (e : Entry) → is_outcome e ≡ false → filter is_outcome (es ++ e ∷ []) ≡ filter is_outcome es
filter_none es e q = filter-append is_outcome es (e ∷ []) ∙ ap (λ b. filter is_outcome es ++ cond b (e ∷ []) []) q ∙ append-nil (filter is_outcome es)

doubted : (number : ℕ) (n : Next) (es : List Entry) (o : Option Entry) → entry_for number n ≡ o → filter is_outcome (with_doubt es o) ≡ filter is_outcome es
doubted number n es None q = refl
doubted number n es (Some e) q = filter_none es e (no_outcome number n e q)

pub outcomes_told : {D : Type 0} {g : Ghosts D} {number : ℕ} {first last : BookNow D} (course : Course g number first last)
    → filter is_outcome last.entries ≡ filter is_outcome first.entries ++ filter_map outcome_in (calls_of course)
outcomes_told {D} {g} {number} {first} Course.begins = sym (append-nil (filter is_outcome first.entries))
outcomes_told {D} {g} {number} {first} {last} (Course.goes {old} course (Round.moves n e chosen writes other fits wrote lanes) grows rest) =
    ap (filter is_outcome) wrote ∙ filter_none old.entries e (no_outcome number n e writes) ∙ outcomes_told course
outcomes_told {D} {g} {number} {first} {last} (Course.goes {old} course (Round.calls made r intends outcome wrote lanes) grows rest) =
    ap (filter is_outcome) wrote ∙ filter-append is_outcome (intended made) (outcome_by made.told r ∷ [])
    ∙ ap (λ es. es ++ outcome_by made.told r ∷ []) (doubted number (step_of made) old.entries (entry_for number (step_of made)) refl ∙ outcomes_told course)
    ∙ append_assoc (filter is_outcome first.entries) (filter_map outcome_in (calls_of course)) (outcome_by made.told r ∷ [])
    ∙ ap (λ es. filter is_outcome first.entries ++ es) (ap (λ es. filter_map outcome_in (calls_of course) ++ es) told
    ∙ sym (filter_map-append outcome_in (calls_of course) (call_at made ∷ [])))
  where
    told : outcome_by made.told r ∷ [] ≡ filter_map outcome_in (call_at made ∷ [])
    told = sym (ap (λ (o : Option Reply). cons_option (option_map (outcome_by made.told) o) []) outcome.reply)

-- a call more, behind the others
turn_more : (first : ℕ) (ts : List Told) (last : ℕ) (t : Told) → AreInTurn first ts last → last ≤ t.before → t.before ≤ t.after
    → AreInTurn first (ts ++ t ∷ []) t.after
turn_more first [] last t le b a = (omega (arith, le, b), a, omega arith)
turn_more first (s ∷ ts) last t turns b a = (turns.0, turns.1, turn_more s.after ts last t turns.2 b a)

pub on_more : (name : List ℕ) (calls : List CallAt) (c : CallAt) (b : Bool) → bytes_eq name c.lane ≡ b
    → calls_on name (calls ++ c ∷ []) ≡ calls_on name calls ++ cond b (c.told ∷ []) []
on_more name calls c b q =
    filter_map-append (λ (d : CallAt). cond (bytes_eq name d.lane) (Some d.told) None) calls (c ∷ [])
    ∙ ap (λ es. calls_on name calls ++ es) (by (bytes_eq name c.lane) q)
  where
    by : (z : Bool) → z ≡ b → cons_option (cond z (Some c.told) None) [] ≡ cond b (c.told ∷ []) []
    by true e = subst (λ (y : Bool). c.told ∷ [] ≡ cond y (c.told ∷ []) []) e refl
    by false e = subst (λ (y : Bool). ◌≡◌ {A = List Told} [] (cond y (c.told ∷ []) [])) e refl

abbrev IsAnswered : List BookLane → ℕ → BookLane → List CallAt → Type 0
IsAnswered lanes k was calls = (now : BookLane) × (slice_get lanes k ≡ Some now) × HasAnswered was.lane now.lane (calls_on was.lane.name calls)

module _ {D : Type 0} (number : ℕ) (old : BookNow D) (differ : (x y : BookLane) → In x old.lanes → In y old.lanes → x.lane.name ≡ y.lane.name → x ≡ y)
    (made : CallMade number old.entries old.lanes) (k : ℕ) (was : BookLane) (calls : List CallAt) (before : IsAnswered old.lanes k was calls) where
  abbrev mid : BookLane
  mid = before.0

  abbrev more : List CallAt
  more = calls ++ call_at made ∷ []

  -- the lane of the call
  it : bytes_eq made.after.name mid.lane.name ≡ true → HasAnswered was.lane made.after (calls_on was.lane.name more)
  it q = record {
    name = ap (λ (b : BookLane). b.lane.name) same_after ∙ before.2.name;
    log = made.called.log ∙ ap (λ l. l ++ made.told ∷ []) (ap (λ (b : BookLane). b.lane.log) same ∙ before.2.log)
        ∙ append_assoc was.lane.log (calls_on was.lane.name calls) (made.told ∷ [])
        ∙ ap (λ l. was.lane.log ++ l) (sym (on_more was.lane.name calls (call_at made) true mine));
    counts =
        subst (λ l. AreInTurn was.lane.count l made.after.count) (sym (on_more was.lane.name calls (call_at made) true mine))
        (subst (λ n. AreInTurn was.lane.count (calls_on was.lane.name calls ++ made.told ∷ []) n) made.called.count_after
        (turn_more was.lane.count (calls_on was.lane.name calls) mid.lane.count made.told before.2.counts
        (omega (arith, made.called.count_before, ap (λ (b : BookLane). b.lane.count) same)) made.called.cause.0));
  } where
    named : made.lane.name ≡ mid.lane.name
    named = sym made.called.name ∙ bytes_same made.after.name mid.lane.name q

    same : at_home made.lane ≡ mid
    same = differ (at_home made.lane) mid made.home (at_place old.lanes k mid before.1) named

    same_after : at_home (record mid.lane { name = made.after.name }) ≡ at_home (record mid.lane { name = mid.lane.name })
    same_after = ap (λ n. at_home (record mid.lane { name = n })) (bytes_same made.after.name mid.lane.name q)

    mine : bytes_eq was.lane.name made.lane.name ≡ true
    mine = ap (λ n. bytes_eq n made.lane.name) (sym before.2.name ∙ sym named) ∙ same_bytes made.lane.name

  -- another one
  another : bytes_eq made.after.name mid.lane.name ≡ false → HasAnswered was.lane mid.lane (calls_on was.lane.name more)
  another q =
      subst (HasAnswered was.lane mid.lane) (sym (append-nil (calls_on was.lane.name calls)) ∙ sym (on_more was.lane.name calls (call_at made) false apart)) before.2
    where
      apart : bytes_eq was.lane.name made.lane.name ≡ false
      apart = by (bytes_eq was.lane.name made.lane.name) refl where
        by : (b : Bool) → bytes_eq was.lane.name made.lane.name ≡ b → b ≡ false
        by false e = refl
        by true e =
            let same : mid.lane.name ≡ made.after.name = before.2.name ∙ bytes_same was.lane.name made.lane.name e ∙ sym made.called.name in
            let yes : bytes_eq made.after.name mid.lane.name ≡ true = ap (bytes_eq made.after.name) same ∙ same_bytes made.after.name in
            absurd (true≢false (sym yes ∙ q))

  after_it : IsAnswered (come_home made.after old.lanes) k was more
  after_it = by (bytes_eq made.after.name mid.lane.name) refl where
    at : slice_get (come_home made.after old.lanes) k ≡ Some (with_lane made.after.name (at_home made.after) mid)
    at = slice_get-map (with_lane made.after.name (at_home made.after)) old.lanes k ∙ ap (option_map (with_lane made.after.name (at_home made.after))) before.1

    by : (b : Bool) → bytes_eq made.after.name mid.lane.name ≡ b → IsAnswered (come_home made.after old.lanes) k was more
    by true q = (at_home made.after, at ∙ ap (λ t. Some (cond t (at_home made.after) mid)) q, it q)
    by false q = (mid, at ∙ ap (λ t. Some (cond t (at_home made.after) mid)) q, another q)

pub logs_told : {D : Type 0} {g : Ghosts D} {number : ℕ} {first last : BookNow D} → IsAtRest g first → (course : Course g number first last) → (k : ℕ)
    (was : BookLane) → slice_get first.lanes k ≡ Some was → IsAnswered last.lanes k was (calls_of course)
logs_told rest Course.begins k was at = (was, at, record { name = refl; log = sym (append-nil was.lane.log); counts = omega arith })
logs_told rest (Course.goes course (Round.moves n e chosen writes other fits wrote lanes) grows now) k was at =
    subst (λ ls. IsAnswered ls k was (calls_of course)) (sym lanes) (logs_told rest course k was at)
logs_told {D} {g} {number} rest (Course.goes {old} course (Round.calls made r intends outcome wrote lanes) grows now) k was at =
    subst (λ ls. IsAnswered ls k was (calls_of course ++ call_at made ∷ [])) (sym lanes)
    (after_it number old (one_id (λ (b : BookLane). b.lane.name) old.lanes (rests rest course).differ) made k was (calls_of course) (logs_told rest course k was at))
