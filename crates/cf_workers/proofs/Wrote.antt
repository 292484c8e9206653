-- What a run writes, as a list of entries: each is the step that comes next where it stands, or an outcome, whose counts lie between those of
-- a lane before the run and after it.
use Rattle.std.proofs.Common.{◌≡◌, inl, inr, ℕ, ◌≤◌, Bool, true, false, cond, List, [], ◌∷◌, ◌++◌, Option, Some, None, map, fold, refl, sym, ◌∙◌, ap, subst, append_assoc, append-nil, arith}
use Rattle.std.specs.Str.{bytes_eq}
use Rattle.std.proofs.lemmas.Grind.{fold-append}
use Rattle.cf_tree.specs.Lists.{In}
use Rattle.cf_tree.specs.Lists.In.{here, there}
use Rattle.cf_tree.specs.declared.request.Answer.{Answer}
use Rattle.cf_tree.specs.declared.request.Answer.TheVariants as answer
use Rattle.cf_disk.specs.declared.disk.Disk.{Ghosts}
use Rattle.cf_handler.specs.Move.{HasCause}
use Rattle.cf_schema.specs.declared.described.Schema.{Schema}
use Rattle.cf_schema.specs.Kinds.{with_kind}
use Rattle.cf_entry.specs.declared.entry.Entry.{Entry}
use Rattle.cf_entry.specs.declared.entry.Entry.TheVariants as entry
use Rattle.cf_entry.specs.declared.entry.Reply.{Reply}
use Rattle.cf_entry.specs.declared.entry.Reply.TheVariants as reply
use Rattle.cf_effect.specs.World.{StackState, World, empty_world, is_going, stack_of_operation}
use Rattle.cf_effect.specs.Fold.{fold_of, world_after}
use Rattle.cf_lane.specs.Calling.{Granted, granted_in}
use Rattle.cf_lane.specs.Lanes.{LaneNow}
use Rattle.cf_effect.specs.declared.held.Pending.{Pending}
use Rattle.cf_plan.proofs.Causing.{in_either}
use Rattle.cf_plan.proofs.CreatedStays.{found_one}
use Rattle.cf_plan.proofs.Differ.{one_id}
use Rattle.cf_plan.proofs.Listed.{bytes_same, same_bytes}
use Rattle.cf_plan.proofs.RunLists.{in_front, in_one}
use Rattle.cf_plan.specs.Run.{IsOwn}
use Rattle.cf_next.specs.Chosen.{IsNext, entry_for, leases_of, schemas_of}
use Rattle.cf_next.specs.declared.home.Home.{Home}
use Rattle.cf_next.specs.declared.step.Next.{Next}
use Rattle.cf_next.specs.declared.step.Next.TheVariants as next
use Rattle.cf_book.specs.Events.{outcome_by, reply_for}
use Rattle.cf_book.specs.Granting.{ComesNext}
use Rattle.cf_book.specs.Record.{with_doubt, world_left}
use Rattle.cf_book.specs.State.{BookLane, BookNow, at_home, come_home, home_of}
use Rattle.cf_workers.specs.Driving.{AreSameLanes, CallMade, Course, IsAtRest, IsIntended, Round, intended, name_and_schema, step_of}
use Rattle.cf_workers.specs.Turning.{IsCountedAsSent, IsCountedOn, IsSentTo}
use Rattle.cf_workers.proofs.Driven.{none_leased, same_home}
use Rattle.cf_core.proofs.{Failing.some_same, Sent.intents_told}

-- the entry is the step that comes next in the operation, or an outcome in it while it goes on
abbrev pub IsStep : List Schema → ℕ → World → Entry → Type 0
IsStep schemas number x (entry.Outcome n token a before after) =
    (n ≡ number) × (name : List ℕ) × (s : StackState) × (◌≡◌ {A = Option (List ℕ × StackState)} (stack_of_operation number x) (Some (name, s)))
IsStep schemas number x e = (m : Next) × IsNext schemas x [] number m × (entry_for number m ≡ Some e)

abbrev pub AreSteps : List Schema → ℕ → World → List Entry → Type 0
AreSteps schemas number x [] = Unit {0}
AreSteps schemas number x (e ∷ es) = IsStep schemas number x e × AreSteps schemas number (world_after x e) es

module _ (schemas : List Schema) (number : ℕ) where
  pub step_next : (x : World) (m : Next) (e : Entry) → IsNext schemas x [] number m → entry_for number m ≡ Some e → IsStep schemas number x e
  step_next x (next.Step path lane token r true) e c q = let no : ⊥ = cc in absurd no
  step_next x (next.Step path lane token r false) e c q = subst (IsStep schemas number x) (some_same q) (next.Step path lane token r false, c, refl)
  step_next x (next.Keep path physical w) e c q = subst (IsStep schemas number x) (some_same q) (next.Keep path physical w, c, refl)
  step_next x (next.Turn p cause) e c q = subst (IsStep schemas number x) (some_same q) (next.Turn p cause, c, refl)
  step_next x (next.End state failed) e c q = subst (IsStep schemas number x) (some_same q) (next.End state failed, c, refl)
  step_next x next.Wait e c q = let no : ⊥ = cc in absurd no

  own_next : (m : Next) (e : Entry) → entry_for number m ≡ Some e → IsOwn number e
  own_next (next.Step path lane token r true) e q = let no : ⊥ = cc in absurd no
  own_next (next.Step path lane token r false) e q = subst (IsOwn number) (some_same q) refl
  own_next (next.Keep path physical w) e q = subst (IsOwn number) (some_same q) refl
  own_next (next.Turn p cause) e q = subst (IsOwn number) (some_same q) refl
  own_next (next.End state failed) e q = subst (IsOwn number) (some_same q) refl
  own_next next.Wait e q = let no : ⊥ = cc in absurd no

  pub own_step : (x : World) (e : Entry) → IsStep schemas number x e → IsOwn number e
  own_step x (entry.Outcome n token a before after) k = k.0
  own_step x (entry.Kept n path physical w) k = own_next k.0 (entry.Kept n path physical w) k.2
  own_step x (entry.Intent n token lane path r) k = own_next k.0 (entry.Intent n token lane path r) k.2
  own_step x (entry.Phase n p c) k = own_next k.0 (entry.Phase n p c) k.2
  own_step x (entry.Done n state failed) k = own_next k.0 (entry.Done n state failed) k.2
  own_step x (entry.Opened epoch lanes) k = own_next k.0 (entry.Opened epoch lanes) k.2
  own_step x (entry.Begin n stack b) k = own_next k.0 (entry.Begin n stack b) k.2
  own_step x (entry.ChangeSet n stack from rows outputs) k = own_next k.0 (entry.ChangeSet n stack from rows outputs) k.2

  pub own_each : (x : World) (es : List Entry) → AreSteps schemas number x es → (e : Entry) → In e es → IsOwn number e
  own_each x (f ∷ es) k e here = own_step x f k.0
  own_each x (f ∷ es) k e (there i) = own_each (world_after x f) es k.1 e i
  own_each x [] k e i = elim i [ ]

  pub steps_more : (x : World) (es : List Entry) (e : Entry) → AreSteps schemas number x es → IsStep schemas number (fold_of x es) e → AreSteps schemas number x (es ++ e ∷ [])
  steps_more x [] e k s = (s, tt)
  steps_more x (f ∷ es) e k s = (k.0, steps_more (world_after x f) es e k.1 s)

-- what was answered, by what is written of it
abbrev pub answer_as : Reply → Answer
answer_as (reply.Success physical attrs) = answer.Success physical attrs
answer_as (reply.Failed code) = answer.Failed code
answer_as reply.Doubt = answer.Fault

answered_so : (a : Answer) (r : Reply) → reply_for a ≡ Some r → answer_as r ≡ a
answered_so (answer.Success physical attrs) r q = ap answer_as (sym (some_same q))
answered_so (answer.Failed code) r q = ap answer_as (sym (some_same q))
answered_so answer.Fault r q = ap answer_as (sym (some_same q))
answered_so (answer.Stale fence) r q = let no : ⊥ = cc in absurd no
answered_so answer.NoMemory r q = let no : ⊥ = cc in absurd no

-- an outcome has its cause, and its counts lie between those of a lane
abbrev pub lanes_in : List BookLane → List LaneNow
lanes_in bs = map (λ b. b.lane) bs

abbrev pub IsCounted : List LaneNow → List LaneNow → Entry → Type 0
IsCounted was now (entry.Outcome number token a before after) =
    HasCause before after (answer_as a) × ((name : List ℕ) × IsCountedOn was now name before after)
IsCounted was now _ = Unit {0}

-- The lanes at a later moment: the same names, and no count fell.
abbrev pub AreLater : List LaneNow → List LaneNow → Type 0
AreLater [] [] = Unit {0}
AreLater (b ∷ bs) (a ∷ more) = ((a.name ≡ b.name) × (b.count ≤ a.count)) × AreLater bs more
AreLater _ _ = ⊥

pub never_fell : (ls : List LaneNow) → AreLater ls ls
never_fell [] = tt
never_fell (l ∷ ls) = ((refl, (let le : l.count ≤ l.count = omega arith in le)), never_fell ls)

pub later_on : (a b c : List LaneNow) → AreLater a b → AreLater b c → AreLater a c
later_on [] [] [] h k = tt
later_on [] [] (z ∷ zs) h k = absurd k
later_on [] (y ∷ ys) c h k = absurd h
later_on (x ∷ xs) [] c h k = absurd h
later_on (x ∷ xs) (y ∷ ys) [] h k = absurd k
later_on (x ∷ xs) (y ∷ ys) (z ∷ zs) h k =
    let first = h.0.1 in let second = k.0.1 in ((k.0.0 ∙ h.0.0, omega (arith, first, second)), later_on xs ys zs h.1 k.1)

-- a lane that is there later was there before, and the other way
pub record IsEarlier (was : List LaneNow) (now : LaneNow) : Type 0 where
  pub lane : LaneNow
  pub there_is : In lane was
  pub name : lane.name ≡ now.name
  pub fewer : lane.count ≤ now.count

pub was_there : (was now : List LaneNow) → AreLater was now → (a : LaneNow) → In a now → IsEarlier was a
was_there (b ∷ bs) (a ∷ more) h a' here = record { lane = b; there_is = here; name = sym h.0.0; fewer = h.0.1 }
was_there (b ∷ bs) (a ∷ more) h c (there i) =
    let k = was_there bs more h.1 c i in record { lane = k.lane; there_is = there k.there_is; name = k.name; fewer = k.fewer }
was_there [] [] h c i = elim i [ ]
was_there [] (a ∷ more) h c i = absurd h
was_there (b ∷ bs) [] h c i = elim i [ ]

pub record IsLater (now : List LaneNow) (was : LaneNow) : Type 0 where
  pub lane : LaneNow
  pub there_is : In lane now
  pub name : lane.name ≡ was.name
  pub more : was.count ≤ lane.count

pub is_there : (was now : List LaneNow) → AreLater was now → (b : LaneNow) → In b was → IsLater now b
is_there (b ∷ bs) (a ∷ more) h b' here = record { lane = a; there_is = here; name = h.0.0; more = h.0.1 }
is_there (b ∷ bs) (a ∷ more) h c (there i) =
    let k = is_there bs more h.1 c i in record { lane = k.lane; there_is = there k.there_is; name = k.name; more = k.more }
is_there [] now h c i = elim i [ ]
is_there (b ∷ bs) [] h c i = absurd h

-- what was counted between two moments was so between an earlier one and a later one
pub counted_on : (a b c d : List LaneNow) → AreLater a b → AreLater c d → (name : List ℕ) (before after : ℕ) → IsCountedOn b c name before after → IsCountedOn a d name before after
counted_on a b c d h k name before after i =
    let first = was_there a b h i.was i.was_there in
    let last = is_there c d k i.now i.is_there in
    let low = first.fewer in
    let high = last.more in
    let mid = i.between in
    record {
      was = first.lane;
      now = last.lane;
      was_there = first.there_is;
      is_there = last.there_is;
      was_named = first.name ∙ i.was_named;
      is_named = last.name ∙ i.is_named;
      between = (omega (arith, low, mid.0), mid.1, omega (arith, high, mid.2));
    }

pub counted_more : (a b c d : List LaneNow) → AreLater a b → AreLater c d → (e : Entry) → IsCounted b c e → IsCounted a d e
counted_more a b c d h k (entry.Outcome number token r before after) i = (i.0, ((i.1).0, counted_on a b c d h k (i.1).0 before after (i.1).1))
counted_more a b c d h k (entry.Opened epoch lanes) i = tt
counted_more a b c d h k (entry.Begin number name b') i = tt
counted_more a b c d h k (entry.Kept number path physical w) i = tt
counted_more a b c d h k (entry.Intent number token lane path r) i = tt
counted_more a b c d h k (entry.Phase number p cause) i = tt
counted_more a b c d h k (entry.Done number state failed) i = tt
counted_more a b c d h k (entry.ChangeSet number name source rows outputs) i = tt

-- and so of the lane that its call went out to, whatever entries join
pub sent_more : (a b c d : List LaneNow) → AreLater a b → AreLater c d → (es fs : List Entry) → ((x : Entry) → In x es → In x fs) → (e : Entry) → IsCountedAsSent b c es e
    → IsCountedAsSent a d fs e
sent_more a b c d h k es fs more (entry.Outcome number token r before after) (lane, (n, path, q, i), on) =
    (lane, (n, path, q, more (entry.Intent n token lane path q) i), counted_on a b c d h k lane before after on)
sent_more a b c d h k es fs more (entry.Opened epoch lanes) i = tt
sent_more a b c d h k es fs more (entry.Begin number name b') i = tt
sent_more a b c d h k es fs more (entry.Kept number path physical w) i = tt
sent_more a b c d h k es fs more (entry.Intent number token lane path r) i = tt
sent_more a b c d h k es fs more (entry.Phase number p cause) i = tt
sent_more a b c d h k es fs more (entry.Done number state failed) i = tt
sent_more a b c d h k es fs more (entry.ChangeSet number name source rows outputs) i = tt

-- a call that came home: its lane's count is that of after, and no other lane changes
module _ (was after : LaneNow) (named : after.name ≡ was.name) (rose : was.count ≤ after.count) where
  abbrev Alone : List BookLane → Type 0
  Alone lanes = (b : BookLane) → In b lanes → bytes_eq after.name b.lane.name ≡ true → b.lane ≡ was

  home_later : (lanes : List BookLane) → Alone lanes → AreLater (lanes_in lanes) (lanes_in (come_home after lanes))
  home_later [] alone = tt
  home_later (b ∷ bs) alone = (one (bytes_eq after.name b.lane.name) refl, home_later bs (λ a i. alone a (there i))) where
    one : (t : Bool) → bytes_eq after.name b.lane.name ≡ t → ((cond t (at_home after) b).lane.name ≡ b.lane.name) × (b.lane.count ≤ (cond t (at_home after) b).lane.count)
    one true q =
        let same : b.lane ≡ was = alone b here q in
        (named ∙ ap (λ (l : LaneNow). l.name) (sym same), subst (λ (l : LaneNow). l.count ≤ after.count) (sym same) rose)
    one false q = (refl, (let le : b.lane.count ≤ b.lane.count = omega arith in le))

  home_there : (lanes : List BookLane) → Alone lanes → In (at_home was) lanes → In after (lanes_in (come_home after lanes))
  home_there (b ∷ bs) alone here = subst (λ t. In after ((cond t (at_home after) (at_home was)).lane ∷ lanes_in (come_home after bs))) (sym itself) here where
    itself : bytes_eq after.name was.name ≡ true
    itself = ap (λ n. bytes_eq n was.name) named ∙ same_bytes was.name
  home_there (b ∷ bs) alone (there i) = there (home_there bs (λ a j. alone a (there j)) i)
  home_there [] alone i = elim i [ ]

pub lane_in : (lanes : List BookLane) (b : BookLane) → In b lanes → In b.lane (lanes_in lanes)
lane_in (c ∷ cs) b here = here
lane_in (c ∷ cs) b (there i) = there (lane_in cs b i)
lane_in [] b i = elim i [ ]

-- the schemas of the lanes' types are those of their schemas, in order
pub schemas_same : (a b : List BookLane) → AreSameLanes a b → schemas_of (map home_of b) ≡ schemas_of (map home_of a)
schemas_same a b same = parts b [] ∙ ap (fold (λ schemas (x : List ℕ × Schema). with_kind x.1 schemas) []) same ∙ sym (parts a []) where
  parts : (lanes : List BookLane) (acc : List Schema)
      → fold (λ schemas (h : Home). with_kind h.schema schemas) acc (map home_of lanes) ≡ fold (λ schemas (x : List ℕ × Schema). with_kind x.1 schemas) acc (map name_and_schema lanes)
  parts [] acc = refl
  parts (l ∷ ls) acc = parts ls (with_kind l.lane.schema acc)

-- What a run has written when it comes to a book.
pub record HasWritten {D : Type 0} (g : Ghosts D) (number : ℕ) (first last : BookNow D) : Type 0 where
  pub es : List Entry
  pub wrote : last.entries ≡ first.entries ++ es
  pub steps : AreSteps (schemas_of (map home_of first.lanes)) number (world_left first.entries) es
  pub counted : (e : Entry) → In e es → IsCounted (lanes_in first.lanes) (lanes_in last.lanes) e
  pub sent : (e : Entry) → In e es → IsCountedAsSent (lanes_in first.lanes) (lanes_in last.lanes) last.entries e
  pub later : AreLater (lanes_in first.lanes) (lanes_in last.lanes)
  pub same : AreSameLanes first.lanes last.lanes
  pub rest : IsAtRest g last

-- a step has no counts
uncounted : (was now : List LaneNow) (number : ℕ) (n : Next) (e : Entry) → entry_for number n ≡ Some e → IsCounted was now e
uncounted was now number (next.Step path lane token r true) e q = let no : ⊥ = cc in absurd no
uncounted was now number (next.Step path lane token r false) e q = subst (IsCounted was now) (some_same q) tt
uncounted was now number (next.Keep path physical w) e q = subst (IsCounted was now) (some_same q) tt
uncounted was now number (next.Turn p cause) e q = subst (IsCounted was now) (some_same q) tt
uncounted was now number (next.End state failed) e q = subst (IsCounted was now) (some_same q) tt
uncounted was now number next.Wait e q = let no : ⊥ = cc in absurd no

unsent : (was now : List LaneNow) (es : List Entry) (number : ℕ) (n : Next) (e : Entry) → entry_for number n ≡ Some e → IsCountedAsSent was now es e
unsent was now es number (next.Step path lane token r true) e q = let no : ⊥ = cc in absurd no
unsent was now es number (next.Step path lane token r false) e q = subst (IsCountedAsSent was now es) (some_same q) tt
unsent was now es number (next.Keep path physical w) e q = subst (IsCountedAsSent was now es) (some_same q) tt
unsent was now es number (next.Turn p cause) e q = subst (IsCountedAsSent was now es) (some_same q) tt
unsent was now es number (next.End state failed) e q = subst (IsCountedAsSent was now es) (some_same q) tt
unsent was now es number next.Wait e q = let no : ⊥ = cc in absurd no

module _ {D : Type 0} (g : Ghosts D) (number : ℕ) (first : BookNow D) where
  abbrev schemas : List Schema
  schemas = schemas_of (map home_of first.lanes)

  begins_with : IsAtRest g first → HasWritten g number first first
  begins_with rest = record {
    es = [];
    wrote = sym (append-nil first.entries);
    steps = tt;
    counted = λ e i. elim i [ ];
    sent = λ e i. elim i [ ];
    later = never_fell (lanes_in first.lanes);
    same = refl;
    rest = rest;
  }

  module _ (old new : BookNow D) (h : HasWritten g number first old) where
    comes_here : (n : Next) → ComesNext old.lanes old.entries number n → IsNext schemas (fold_of (world_left first.entries) h.es) [] number n
    comes_here n c =
        subst (λ (x : World). IsNext schemas x [] number n) (ap world_left h.wrote ∙ fold-append world_after empty_world first.entries h.es)
        (subst (λ (out : List ℕ). IsNext schemas (world_left old.entries) out number n) (none_leased old.lanes h.rest.none_out)
        (subst (λ (k : List Schema). IsNext k (world_left old.entries) (leases_of (map home_of old.lanes)) number n) (schemas_same first.lanes old.lanes h.same) c))

    with_step : (n : Next) (e : Entry) → ComesNext old.lanes old.entries number n → entry_for number n ≡ Some e → AreSteps schemas number (world_left first.entries) (h.es ++ e ∷ [])
    with_step n e c q =
        steps_more schemas number (world_left first.entries) h.es e h.steps
        (step_next schemas number (fold_of (world_left first.entries) h.es) n e (comes_here n c) q)

    -- what was sent and counted before, as entries join
    still_sent : (es : List Entry) → ((x : Entry) → In x old.entries → In x es) → (e : Entry) → In e h.es → IsCountedAsSent (lanes_in first.lanes) (lanes_in old.lanes) es e
    still_sent es more e i =
        sent_more (lanes_in first.lanes) (lanes_in first.lanes) (lanes_in old.lanes) (lanes_in old.lanes) (never_fell (lanes_in first.lanes)) (never_fell (lanes_in old.lanes))
        old.entries es more e (h.sent e i)

    -- a step is written
    moved : (n : Next) (e : Entry) → ComesNext old.lanes old.entries number n → entry_for number n ≡ Some e → new.entries ≡ old.entries ++ e ∷ [] → new.lanes ≡ old.lanes
        → IsAtRest g new → HasWritten g number first new
    moved n e c q w lanes rest = record {
      es = h.es ++ e ∷ [];
      wrote = w ∙ ap (λ l. l ++ e ∷ []) h.wrote ∙ append_assoc first.entries h.es (e ∷ []);
      steps = with_step n e c q;
      counted = λ f i. subst (λ (ls : List BookLane). IsCounted (lanes_in first.lanes) (lanes_in ls) f) (sym lanes) (elim (in_either f h.es (e ∷ []) i) [
        | inl j ↦ h.counted f j
        | inr j ↦ subst (IsCounted (lanes_in first.lanes) (lanes_in old.lanes)) (sym (in_one f e j)) (uncounted (lanes_in first.lanes) (lanes_in old.lanes) number n e q)
      ]);
      sent = λ f i. subst (λ (ls : List BookLane). IsCountedAsSent (lanes_in first.lanes) (lanes_in ls) new.entries f) (sym lanes) (elim (in_either f h.es (e ∷ []) i) [
        | inl j ↦ still_sent new.entries (λ x k. subst (In x) (sym w) (in_front x old.entries (e ∷ []) k)) f j
        | inr j ↦ subst (IsCountedAsSent (lanes_in first.lanes) (lanes_in old.lanes) new.entries) (sym (in_one f e j))
            (unsent (lanes_in first.lanes) (lanes_in old.lanes) new.entries number n e q)
      ]);
      later = subst (λ (ls : List BookLane). AreLater (lanes_in first.lanes) (lanes_in ls)) (sym lanes) h.later;
      same = ap (map name_and_schema) lanes ∙ h.same;
      rest = rest;
    }

    -- what stands as a call is out: its Intent too, where it is new
    record IsMid (o : Option Entry) : Type 0 where
      pub mid : List Entry
      pub is : with_doubt old.entries o ≡ first.entries ++ mid
      pub steps : AreSteps schemas number (world_left first.entries) mid
      pub counted : (e : Entry) → In e mid → IsCounted (lanes_in first.lanes) (lanes_in old.lanes) e
      pub sent : (e : Entry) → In e mid → IsCountedAsSent (lanes_in first.lanes) (lanes_in old.lanes) (with_doubt old.entries o) e

    mid_of : (n : Next) (o : Option Entry) → ComesNext old.lanes old.entries number n → entry_for number n ≡ o → IsMid o
    mid_of n None c q = record { mid = h.es; is = h.wrote; steps = h.steps; counted = h.counted; sent = h.sent }
    mid_of n (Some e) c q = record {
      mid = h.es ++ e ∷ [];
      is = ap (λ l. l ++ e ∷ []) h.wrote ∙ append_assoc first.entries h.es (e ∷ []);
      steps = with_step n e c q;
      counted = λ f i. elim (in_either f h.es (e ∷ []) i) [
        | inl j ↦ h.counted f j
        | inr j ↦ subst (IsCounted (lanes_in first.lanes) (lanes_in old.lanes)) (sym (in_one f e j)) (uncounted (lanes_in first.lanes) (lanes_in old.lanes) number n e q)
      ];
      sent = λ f i. elim (in_either f h.es (e ∷ []) i) [
        | inl j ↦ still_sent (old.entries ++ e ∷ []) (λ x k. in_front x old.entries (e ∷ []) k) f j
        | inr j ↦ subst (IsCountedAsSent (lanes_in first.lanes) (lanes_in old.lanes) (old.entries ++ e ∷ [])) (sym (in_one f e j))
            (unsent (lanes_in first.lanes) (lanes_in old.lanes) (old.entries ++ e ∷ []) number n e q)
      ];
    }

    -- a call is made, and its outcome written
    called : (made : CallMade number old.entries old.lanes) (r : Reply) (intends : IsIntended g number old new made) → reply_for made.told.answer ≡ Some r
        → new.entries ≡ intended made ++ outcome_by made.told r ∷ [] → new.lanes ≡ come_home made.after old.lanes → IsAtRest g new → HasWritten g number first new
    called made r intends replied w lanes rest = by (mid_of (step_of made) (entry_for number (step_of made)) made.chosen refl) where
      outcome : Entry
      outcome = outcome_by made.told r

      number_is : made.told.number ≡ number
      number_is = ap (λ (c : Granted). c.number) made.called.granted_is

      alone : (b : BookLane) → In b old.lanes → bytes_eq made.after.name b.lane.name ≡ true → b.lane ≡ made.lane
      alone b i q =
          ap (λ (x : BookLane). x.lane)
          (one_id (λ (x : BookLane). x.lane.name) old.lanes h.rest.differ b (at_home made.lane) i made.home (sym (bytes_same made.after.name b.lane.name q) ∙ made.called.name))

      rose : made.lane.count ≤ made.after.count
      rose =
          let c = made.called.cause in
          let low = made.called.count_before in
          let high = made.called.count_after in
          let mid = c.0 in omega (arith, low, high, mid)

      one_later : AreLater (lanes_in old.lanes) (lanes_in new.lanes)
      one_later = subst (λ (ls : List BookLane). AreLater (lanes_in old.lanes) (lanes_in ls)) (sym lanes) (home_later made.lane made.after made.called.name rose old.lanes alone)

      cause : HasCause made.told.before made.told.after (answer_as r)
      cause = subst (HasCause made.told.before made.told.after) (sym (answered_so made.told.answer r replied)) made.called.cause

      there_now : In made.after (lanes_in new.lanes)
      there_now = subst (λ (ls : List BookLane). In made.after (lanes_in ls)) (sym lanes) (home_there made.lane made.after made.called.name rose old.lanes alone made.home)

      on_it : IsCountedOn (lanes_in old.lanes) (lanes_in new.lanes) made.lane.name made.told.before made.told.after
      on_it = record {
        was = made.lane;
        now = made.after;
        was_there = lane_in old.lanes (at_home made.lane) made.home;
        is_there = there_now;
        was_named = refl;
        is_named = made.called.name;
        between =
            let low = made.called.count_before in
            let high = made.called.count_after in (omega (arith, low), (made.called.cause).0, omega (arith, high));
      }

      outcome_counted : IsCounted (lanes_in first.lanes) (lanes_in new.lanes) outcome
      outcome_counted =
          counted_more (lanes_in first.lanes) (lanes_in old.lanes) (lanes_in new.lanes) (lanes_in new.lanes) h.later (never_fell (lanes_in new.lanes)) outcome
          (cause, (made.lane.name, on_it))

      -- the entries with the Intent, where that is new, stay
      more : (x : Entry) → In x (intended made) → In x new.entries
      more x i = subst (In x) (sym w) (in_front x (intended made) (outcome ∷ []) i)

      -- the call is open as it is out, and so has its Intent among the entries, with its lane
      went_out : IsSentTo new.entries made.told.token made.lane.name
      went_out =
          let open_now = intends.durable.open_call in
          let stands = (found_one (λ (p : List ℕ × StackState). is_going (granted_in made.told).number p.1) (world_left intends.lent.entries).stacks (open_now.name, open_now.stack) open_now.going).0 in
          let p : Pending = record { token = made.told.token; path = open_now.path; lane = made.lane.name; request = made.told.request } in
          let intent = intents_told intends.lent.entries (open_now.name, open_now.stack) stands p open_now.pending in
          let wrote_it : Entry = entry.Intent intent.0 made.told.token made.lane.name open_now.path made.told.request in
          (intent.0, open_now.path, made.told.request, more wrote_it (subst (In wrote_it) intends.entries intent.1))

      outcome_sent : IsCountedAsSent (lanes_in first.lanes) (lanes_in new.lanes) new.entries outcome
      outcome_sent = (
        made.lane.name,
        went_out,
        counted_on (lanes_in first.lanes) (lanes_in old.lanes) (lanes_in new.lanes) (lanes_in new.lanes) h.later (never_fell (lanes_in new.lanes))
            made.lane.name made.told.before made.told.after on_it,
      )

      by : IsMid (entry_for number (step_of made)) → HasWritten g number first new
      by m = record {
        es = m.mid ++ outcome ∷ [];
        wrote = w ∙ ap (λ l. l ++ outcome ∷ []) m.is ∙ append_assoc first.entries m.mid (outcome ∷ []);
        steps = steps_more schemas number (world_left first.entries) m.mid outcome m.steps (number_is, going.0, going.1, going.2);
        counted = λ f i. elim (in_either f m.mid (outcome ∷ []) i) [
          | inl j ↦ counted_more (lanes_in first.lanes) (lanes_in first.lanes) (lanes_in old.lanes) (lanes_in new.lanes) (never_fell (lanes_in first.lanes)) one_later f (m.counted f j)
          | inr j ↦ subst (IsCounted (lanes_in first.lanes) (lanes_in new.lanes)) (sym (in_one f outcome j)) outcome_counted
        ];
        sent = λ f i. elim (in_either f m.mid (outcome ∷ []) i) [
          | inl j ↦
              sent_more (lanes_in first.lanes) (lanes_in first.lanes) (lanes_in old.lanes) (lanes_in new.lanes) (never_fell (lanes_in first.lanes)) one_later (intended made)
              new.entries more f (m.sent f j)
          | inr j ↦ subst (IsCountedAsSent (lanes_in first.lanes) (lanes_in new.lanes) new.entries) (sym (in_one f outcome j)) outcome_sent
        ];
        later = later_on (lanes_in first.lanes) (lanes_in old.lanes) (lanes_in new.lanes) h.later one_later;
        same =
            ap (map name_and_schema) lanes
            ∙ same_home made.after made.lane old.lanes made.home h.rest.differ made.called.name made.called.schema
            ∙ h.same;
        rest = rest;
      }
        where
          here_now : world_left intends.lent.entries ≡ fold_of (world_left first.entries) m.mid
          here_now = ap world_left (intends.entries ∙ m.is) ∙ fold-append world_after empty_world first.entries m.mid

          going : (name : List ℕ) × (s : StackState) × (◌≡◌ {A = Option (List ℕ × StackState)} (stack_of_operation number (fold_of (world_left first.entries) m.mid)) (Some (name, s)))
          going =
              let open_now = intends.durable.open_call in (
                open_now.name,
                open_now.stack,
                subst (λ (x : World). ◌≡◌ {A = Option (List ℕ × StackState)} (stack_of_operation number x) (Some (open_now.name, open_now.stack))) here_now
                    (subst (λ (n : ℕ). ◌≡◌ {A = Option (List ℕ × StackState)} (stack_of_operation n (world_left intends.lent.entries)) (Some (open_now.name, open_now.stack))) number_is open_now.going),
              )

    rounded : Round g number old new → IsAtRest g new → HasWritten g number first new
    rounded (Round.moves n e comes writes other fits w lanes) rest = moved n e comes writes w lanes rest
    rounded (Round.calls made r intends outcome w lanes) rest = called made r intends outcome.reply w lanes rest

  pub written : {last : BookNow D} → IsAtRest g first → Course g number first last → HasWritten g number first last
  written rest Course.begins = begins_with rest
  written rest (Course.goes {old} {new} course round grows now) = rounded old new (written rest course) round now
