-- Which events of a life a stretch of a run is, for each record that the disk may have after it.
use Rattle.std.proofs.Common.{◌≡◌, ◌⊎◌, inl, inr, ℕ, ◌==◌, Bool, true, false, ◌||◌, cond, List, [], ◌∷◌, ◌++◌, Option, Some, None, Ok, Err, map, find, refl, sym, ◌∙◌, ap, subst, true≢false, arith}
use Rattle.std.specs.Str.{bytes_eq}
use Rattle.cf_tree.specs.Lists.{In, is_among}
use Rattle.cf_handler.specs.Fence.{FencedLane, Left, late_by, left_by}
use Rattle.cf_handler.specs.Tells.{LateEffect}
use Rattle.cf_entry.specs.declared.entry.Entry.{Entry}
use Rattle.cf_entry.specs.declared.entry.Entry.TheVariants as entry
use Rattle.cf_entry.specs.declared.entry.Reply.{Reply}
use Rattle.cf_schema.specs.declared.described.Schema.{Schema}
use Rattle.cf_lane.specs.Lanes.{LaneNow}
use Rattle.cf_lane.specs.declared.told.Told.{Told}
use Rattle.cf_plan.specs.Lanes.{Lane}
use Rattle.cf_plan.specs.Life.{Act, Answered, Begin, BrokenWith, BrokenWithout, End, Event, Grant, IsLife, Lease, Life, Park, Repeat, Settle, Whole, appended, changed, first_again, granted, lane_acted, lease_at, life_after, repeated, world_of}
use Rattle.cf_plan.proofs.Listed.{bytes_same, in_cons, in_none, same_bytes}
use Rattle.cf_plan.proofs.CreatedStays.{found_one}
use Rattle.cf_book.specs.Events.{IsCallMade, ParksCall, SettlesCall, late_on, outcome_by}
use Rattle.cf_book.specs.Lives.{AreEntriesOf, AreLeasesOf, LeadsTo, StandsFor, lease_of}
use Rattle.cf_next.specs.declared.step.Next.{Next}
use Rattle.cf_next.specs.declared.step.Next.TheVariants as next
use Rattle.cf_prepare.specs.declared.wish.Order.TheVariants as order
use Rattle.cf_book.specs.Beginning.{BeginsLife}
use Rattle.cf_book.specs.Granting.{GrantsLife, StaysLife, StepLife, WritesLife}
use Rattle.cf_book.specs.Record.{IsUnwritten, with_doubt}
use Rattle.cf_book.specs.State.{BookLane, BookNow}
use Rattle.cf_book.specs.declared.stop.StopFault.{StopFault}
use Rattle.cf_book.specs.declared.stop.StopFault.TheVariants as stop
use Rattle.cf_book.proofs.Moves.{other_lane}
use Rattle.cf_workers.specs.Driving.{names_of}
use Rattle.cf_workers.specs.Leading.{KeepOthers, LeadsWith}

-- the life after some events
abbrev pub after_all : Life → List Event → Life
after_all life [] = life
after_all life (e ∷ es) = after_all (life_after life e) es

pub ends : (schemas : List Schema) (a : Life) (es : List Event) (b : Life) → IsLife schemas a es b → b ≡ after_all a es
ends schemas a [] b h = h
ends schemas a (e ∷ es) b h = ends schemas (life_after a e) es b h.1

pub after_both : (a : Life) (es fs : List Event) → after_all a (es ++ fs) ≡ after_all (after_all a es) fs
after_both a [] fs = refl
after_both a (e ∷ es) fs = after_both (life_after a e) es fs

-- Of a book in which nothing is in doubt there is one record.
pub one_record : {D : Type 0} (b : BookNow D) (es : List Entry) → b.doubt ≡ None → AreEntriesOf b es → es ≡ b.entries
one_record b es none (inl q) = q
one_record b es none (inr q) = q ∙ ap (with_doubt b.entries) none

-- no lane changes
pub stay : (names : List (List ℕ)) (lanes : List Lane) → KeepOthers names lanes lanes
stay names lanes = record { same_names = refl; others = λ name out. refl }

pub kept_as : (names : List (List ℕ)) (old new : List Lane) → new ≡ old → KeepOthers names old new
kept_as names old new q = subst (KeepOthers names old) (sym q) (stay names old)

-- no event
pub leads_none : {D : Type 0} (schemas : List Schema) (life : Life) (new : BookNow D) → new.doubt ≡ None → LeadsTo schemas life [] new → (es : List Entry) → AreEntriesOf new es
    → LeadsWith schemas life new es
leads_none schemas life new none l es is = record {
  events = [];
  after = l.after;
  happen = l.happen;
  stands = l.stands;
  record_is = one_record new l.after.entries none l.stands.entries ∙ sym (one_record new es none is);
  keeps = kept_as (names_of new.lanes) life.lanes l.after.lanes (ap (λ (z : Life). z.lanes) l.happen);
}

-- one event, which changes no lane
pub leads_one : {D : Type 0} (schemas : List Schema) (life : Life) (new : BookNow D) (ev : Event) → (life_after life ev).lanes ≡ life.lanes → new.doubt ≡ None
    → LeadsTo schemas life (ev ∷ []) new → (es : List Entry) → AreEntriesOf new es → LeadsWith schemas life new es
leads_one schemas life new ev quiet none l es is = record {
  events = ev ∷ [];
  after = l.after;
  happen = l.happen;
  stands = l.stands;
  record_is = one_record new l.after.entries none l.stands.entries ∙ sym (one_record new es none is);
  keeps = kept_as (names_of new.lanes) life.lanes l.after.lanes (ap (λ (z : Life). z.lanes) l.happen.1 ∙ quiet);
}

-- an append that broke: behind some events, for each of the two records
longer : (es : List Entry) (e : Entry) → es ++ e ∷ [] ≡ es → ⊥
longer (x ∷ es) e q = longer es e cc
longer [] e q = cc

pub leads_broken : {D : Type 0} (schemas : List Schema) (life : Life) (new : BookNow D) (before : List Event) (make : End → Event) (e : Entry)
    → (life_after (after_all life before) (make BrokenWith)).entries ≡ new.entries ++ e ∷ [] → (life_after (after_all life before) (make BrokenWithout)).entries ≡ new.entries
    → ((end : End) → KeepOthers (names_of new.lanes) life.lanes (life_after (after_all life before) (make end)).lanes)
    → ((end : End) → (end ≡ BrokenWith) ⊎ (end ≡ BrokenWithout) → LeadsTo schemas life (before ++ make end ∷ []) new) → (es : List Entry) → AreEntriesOf new es
    → LeadsWith schemas life new es
leads_broken {D} schemas life new before make e with_it without keep leads es = by where
  after_is : (end : End) (l : LeadsTo schemas life (before ++ make end ∷ []) new) → l.after ≡ life_after (after_all life before) (make end)
  after_is end l = ends schemas life (before ++ make end ∷ []) l.after l.happen ∙ after_both life before (make end ∷ [])

  lead : (end : End) (l : LeadsTo schemas life (before ++ make end ∷ []) new) → l.after.entries ≡ es → LeadsWith schemas life new es
  lead end l q = record {
    events = before ++ make end ∷ [];
    after = l.after;
    happen = l.happen;
    stands = l.stands;
    record_is = q;
    keeps = subst (λ (z : Life). KeepOthers (names_of new.lanes) life.lanes z.lanes) (sym (after_is end l)) (keep end);
  }

  doubted : (l : LeadsTo schemas life (before ++ make BrokenWith ∷ []) new) → es ≡ with_doubt new.entries new.doubt → AreEntriesOf new l.after.entries → l.after.entries ≡ es
  doubted l q (inl same) =
      let never : ⊥ = longer new.entries e (sym with_it ∙ sym (ap (λ (z : Life). z.entries) (after_is BrokenWith l)) ∙ same) in absurd never
  doubted l q (inr same) = same ∙ sym q

  by : AreEntriesOf new es → LeadsWith schemas life new es
  by (inl q) = let l = leads BrokenWithout (inr refl) in lead BrokenWithout l (ap (λ (z : Life). z.entries) (after_is BrokenWithout l) ∙ without ∙ sym q)
  by (inr q) = let l = leads BrokenWith (inl refl) in lead BrokenWith l (doubted l q l.stands.entries)

-- after a fault, but that of the disk, nothing is in doubt
abbrev pub IsCertainBut : {D : Type 0} → StopFault → BookNow D → Type 0
IsCertainBut stop.DiskFault b = Unit {0}
IsCertainBut fault b = b.doubt ≡ None

-- what is granted changes no lane, and is the only entry more
grant_entries : (life : Life) (e : Entry) (end : End) → (life_after life (Grant e end)).entries ≡ (appended end e life).entries
grant_entries life e Whole = by e where
  by : (f : Entry) → (granted Whole f (appended Whole e life)).entries ≡ (appended Whole e life).entries
  by f = grind arith
grant_entries life e BrokenWith = refl
grant_entries life e BrokenWithout = refl

grant_lanes : (life : Life) (e : Entry) (end : End) → (life_after life (Grant e end)).lanes ≡ life.lanes
grant_lanes life e Whole = by e where
  by : (f : Entry) → (granted Whole f (appended Whole e life)).lanes ≡ life.lanes
  by f = grind arith
grant_lanes life e BrokenWith = refl
grant_lanes life e BrokenWithout = refl

repeat_lanes : (o : Option Lease) (life : Life) → (repeated o life).lanes ≡ life.lanes
repeat_lanes None life = refl
repeat_lanes (Some l) life = refl

append_lanes : (end : End) (e : Entry) (life : Life) → (appended end e life).lanes ≡ life.lanes
append_lanes Whole e life = refl
append_lanes BrokenWith e life = refl
append_lanes BrokenWithout e life = refl

-- Calls and late effects on lanes of these names.
among_not : (m name : List ℕ) (names : List (List ℕ)) → is_among name names ≡ true → is_among m names ≡ false → bytes_eq m name ≡ false
among_not m name names named out = by (bytes_eq m name) refl where
  by : (b : Bool) → bytes_eq m name ≡ b → b ≡ false
  by false q = refl
  by true q = let so : true ≡ false = sym named ∙ ap (λ n. is_among n names) (sym (bytes_same m name q)) ∙ out in absurd (true≢false so)

pub among : (lanes : List BookLane) (b : BookLane) → In b lanes → is_among b.lane.name (names_of lanes) ≡ true
among [] b i = absurd (in_none i)
among (a ∷ bs) b i = elim (in_cons i) [
  | inl e ↦ ap (λ (c : BookLane). ((bytes_eq b.lane.name c.lane.name) || (is_among b.lane.name (names_of bs)))) e ∙ ap (λ t. (t || (is_among b.lane.name (names_of bs)))) (same_bytes b.lane.name)
  | inr j ↦ by (bytes_eq b.lane.name a.lane.name) (among bs b j)
]
  where
    by : (t : Bool) → is_among b.lane.name (names_of bs) ≡ true → (t || (is_among b.lane.name (names_of bs))) ≡ true
    by true q = refl
    by false q = q

same_name : (name : List ℕ) (f : FencedLane → FencedLane) (l : Lane) → (changed name f l).name ≡ l.name
same_name name f l = by (bytes_eq name l.name) where
  by : (b : Bool) → (cond b (record l { state = f l.state }) l).name ≡ l.name
  by true = refl
  by false = refl

changed_names : (name : List ℕ) (f : FencedLane → FencedLane) (ls : List Lane) → map (λ (l : Lane). l.name) (map (changed name f) ls) ≡ map (λ (l : Lane). l.name) ls
changed_names name f [] = refl
changed_names name f (l ∷ ls) = ap (λ n. n ∷ map (λ (l : Lane). l.name) (map (changed name f) ls)) (same_name name f l) ∙ ap (λ ns. l.name ∷ ns) (changed_names name f ls)

pub keep_changed : (names : List (List ℕ)) (name : List ℕ) (f : FencedLane → FencedLane) (ls : List Lane) → is_among name names ≡ true → KeepOthers names ls (map (changed name f) ls)
keep_changed names name f ls named = record { same_names = changed_names name f ls; others = λ m out. other_lane name f ls m (among_not m name names named out) }

pub keep_both : (names : List (List ℕ)) (a b c : List Lane) → KeepOthers names a b → KeepOthers names b c → KeepOthers names a c
keep_both names a b c h k = record { same_names = k.same_names ∙ h.same_names; others = λ name out. k.others name out ∙ h.others name out }

module _ (names : List (List ℕ)) (name : List ℕ) (named : is_among name names ≡ true) where
  pub keep_lates : (life : Life) (effects : List LateEffect) → KeepOthers names life.lanes (after_all life (map (late_on name) effects)).lanes
  keep_lates life [] = stay names life.lanes
  keep_lates life (e ∷ es) =
      let next : Life = life_after life (late_on name e) in
      keep_both names life.lanes next.lanes (after_all next (map (late_on name) es)).lanes (keep_changed names name (late_by e.place e.settlement) life.lanes named) (keep_lates next es)

late_leases : (life : Life) (name : List ℕ) (effects : List LateEffect) → (after_all life (map (late_on name) effects)).leases ≡ life.leases
late_leases life name [] = refl
late_leases life name (e ∷ es) = late_leases (life_after life (late_on name e)) name es

late_entries : (life : Life) (name : List ℕ) (effects : List LateEffect) → (after_all life (map (late_on name) effects)).entries ≡ life.entries
late_entries life name [] = refl
late_entries life name (e ∷ es) = late_entries (life_after life (late_on name e)) name es

acted_entries : (left : Left) (o : Option Lease) (life : Life) → (lane_acted left o life).entries ≡ life.entries
acted_entries left None life = refl
acted_entries left (Some l) life = refl

-- a call that is out is on a lane of the book
leased_among : (lanes : List BookLane) (leases : List Lease) (token : ℕ) (l : Lease) → AreLeasesOf lanes leases → find (λ (k : Lease). token == k.token) leases ≡ Some l
    → is_among l.lane (names_of lanes) ≡ true
leased_among lanes leases token l of found =
    let (b, i, q) = of.each l (found_one (λ (k : Lease). token == k.token) leases l found).0 in
    ap (λ n. is_among n (names_of lanes)) (named b q) ∙ among lanes b i where
      named : (b : BookLane) → lease_of b ≡ Some l → l.lane ≡ b.lane.name
      named b q = grind (arith, q)

module _ (lanes : List BookLane) (name : List ℕ) (named : is_among name (names_of lanes) ≡ true) (life : Life) (of : AreLeasesOf lanes life.leases) where
  acted_keeps : (mid : Life) (left : Left) (token : ℕ) → mid.leases ≡ life.leases → (o : Option Lease) → lease_at token mid ≡ o → KeepOthers (names_of lanes) mid.lanes (lane_acted left o mid).lanes
  acted_keeps mid left token same None q = stay (names_of lanes) mid.lanes
  acted_keeps mid left token same (Some l) q =
      keep_changed (names_of lanes) l.lane (left_by left (world_of mid).epoch l.token l.request) mid.lanes
      (leased_among lanes life.leases token l of (ap (find (λ (k : Lease). token == k.token)) (sym same) ∙ q))

  pub keep_calls : (told : Told) (calls : List Event) → IsCallMade name told calls → KeepOthers (names_of lanes) life.lanes (after_all life calls).lanes
  keep_calls told calls m =
      let late : List Event = map (late_on name) m.effects in
      let mid : Life = after_all life late in
      let act : Event = Act told.token (Answered told.answer told.before told.after) m.left in
      let made : KeepOthers (names_of lanes) life.lanes (life_after mid act).lanes =
      keep_both (names_of lanes) life.lanes mid.lanes (life_after mid act).lanes (keep_lates (names_of lanes) name named life m.effects)
      (acted_keeps mid m.left told.token (late_leases life name m.effects) (lease_at told.token mid) refl) in
      subst (λ (z : Life). KeepOthers (names_of lanes) life.lanes z.lanes) (sym (ap (after_all life) m.are ∙ after_both life late (act ∷ []))) made

  pub call_entries : (told : Told) (calls : List Event) → IsCallMade name told calls → (after_all life calls).entries ≡ life.entries
  call_entries told calls m =
      let late : List Event = map (late_on name) m.effects in
      let mid : Life = after_all life late in
      ap (λ es. (after_all life es).entries) m.are ∙ ap (λ (z : Life). z.entries) (after_both life late (Act told.token (Answered told.answer told.before told.after) m.left ∷ []))
      ∙ acted_entries m.left (lease_at told.token mid) mid ∙ late_entries life name m.effects

-- A grant, of a book in which nothing was in doubt: whatever it answers.
module _ {D : Type 0} (old new : BookNow D) (schemas : List Schema) (life : Life) (number : ℕ) (rest : old.doubt ≡ None) (stands : StandsFor old life) where
  life_record : life.entries ≡ old.entries
  life_record = one_record old life.entries rest stands.entries

  unwritten_certain : IsUnwritten old new → new.doubt ≡ None
  unwritten_certain u = u.doubt ∙ rest

  stays_lead : StaysLife schemas life old new → (es : List Entry) → AreEntriesOf new es → LeadsWith schemas life new es
  stays_lead (u, l) = leads_none schemas life new (unwritten_certain u) l

  -- a book that answers has nothing in doubt
  wrote_lead : (T : Type 0) (e : Entry) (x : T) → new.doubt ≡ None → WritesLife {T = T} schemas life old new e (Ok x) → (es : List Entry) → AreEntriesOf new es → LeadsWith schemas life new es
  wrote_lead T e x none w = leads_one schemas life new (Grant e Whole) (grant_lanes life e Whole) none (w Whole refl)

  step_answers : (T : Type 0) (n : Next) (x : T) → new.doubt ≡ None → StepLife {T = T} schemas life old new number n (Ok x) → (es : List Entry) → AreEntriesOf new es
      → LeadsWith schemas life new es
  step_answers T (next.Step path lane token r true) x none l =
      leads_one schemas life new (Repeat token) (repeat_lanes (first_again token (world_of life).stacks) life) none l
  step_answers T (next.Step path lane token r false) x none l = wrote_lead T (entry.Intent number token lane path r) x none l
  step_answers T (next.Keep path physical w) x none l = wrote_lead T (entry.Kept number path physical w) x none l
  step_answers T (next.Turn p cause) x none l = wrote_lead T (entry.Phase number p cause) x none l
  step_answers T (next.End state failed) x none l = wrote_lead T (entry.Done number state failed) x none l
  step_answers T next.Wait x none l = stays_lead l

  -- one that stops may have the entry in doubt
  halted_lead : (T : Type 0) (e : Entry) (fault : StopFault) → new.entries ≡ old.entries → IsCertainBut fault new → WritesLife {T = T} schemas life old new e (Err fault)
      → (es : List Entry) → AreEntriesOf new es → LeadsWith schemas life new es
  halted_lead T e (stop.Full l need room) same none w = leads_one schemas life new (Grant e BrokenWithout) (grant_lanes life e BrokenWithout) none (w BrokenWithout refl)
  halted_lead T e (stop.LaneAhead lane fence epoch) same none w = leads_one schemas life new (Grant e BrokenWithout) (grant_lanes life e BrokenWithout) none (w BrokenWithout refl)
  halted_lead T e stop.NoMemory same none w = stays_lead w
  halted_lead T e stop.DiskFault same none w =
      leads_broken schemas life new [] (Grant e) e (ap (λ es. es ++ e ∷ []) (life_record ∙ sym same)) (life_record ∙ sym same)
      (λ end. kept_as (names_of new.lanes) life.lanes (life_after life (Grant e end)).lanes (grant_lanes life e end)) w

  step_halts : (T : Type 0) (n : Next) (fault : StopFault) → new.entries ≡ old.entries → IsCertainBut fault new → StepLife {T = T} schemas life old new number n (Err fault)
      → (es : List Entry) → AreEntriesOf new es → LeadsWith schemas life new es
  step_halts T (next.Step path lane token r true) fault same none l = stays_lead l
  step_halts T (next.Step path lane token r false) fault same none l = halted_lead T (entry.Intent number token lane path r) fault same none l
  step_halts T (next.Keep path physical w) fault same none l = halted_lead T (entry.Kept number path physical w) fault same none l
  step_halts T (next.Turn p cause) fault same none l = halted_lead T (entry.Phase number p cause) fault same none l
  step_halts T (next.End state failed) fault same none l = halted_lead T (entry.Done number state failed) fault same none l
  step_halts T next.Wait fault same none l = stays_lead l

  pub grant_answers : (T : Type 0) (x : T) → new.doubt ≡ None → GrantsLife {T = T} schemas life old new number (Ok x) → (es : List Entry) → AreEntriesOf new es → LeadsWith schemas life new es
  grant_answers T x none (inl s) = stays_lead s
  grant_answers T x none (inr (n, c, l)) = step_answers T n x none l

  pub grant_halts : (T : Type 0) (fault : StopFault) → new.entries ≡ old.entries → IsCertainBut fault new → GrantsLife {T = T} schemas life old new number (Err fault)
      → (es : List Entry) → AreEntriesOf new es → LeadsWith schemas life new es
  grant_halts T fault same none (inl s) = stays_lead s
  grant_halts T fault same none (inr (n, c, l)) = step_halts T n fault same none l

-- A call that is settled, or parked.
module _ {D : Type 0} (old new : BookNow D) (schemas : List Schema) (life : Life) (lane : LaneNow) (told : Told) (rest : old.doubt ≡ None) (stands : StandsFor old life)
    (mine : is_among lane.name (names_of old.lanes) ≡ true) (same : names_of new.lanes ≡ names_of old.lanes) where
  kept_calls : (calls : List Event) → IsCallMade lane.name told calls → KeepOthers (names_of new.lanes) life.lanes (after_all life calls).lanes
  kept_calls calls m = subst (λ names. KeepOthers names life.lanes (after_all life calls).lanes) (sym same) (keep_calls old.lanes lane.name mine life stands.leases told calls m)

  -- one event behind the call
  call_then : (calls : List Event) (m : IsCallMade lane.name told calls) (ev : Event) → (life_after (after_all life calls) ev).lanes ≡ (after_all life calls).lanes → new.doubt ≡ None
      → LeadsTo schemas life (calls ++ ev ∷ []) new → (es : List Entry) → AreEntriesOf new es → LeadsWith schemas life new es
  call_then calls m ev quiet none l es is = record {
    events = calls ++ ev ∷ [];
    after = l.after;
    happen = l.happen;
    stands = l.stands;
    record_is = one_record new l.after.entries none l.stands.entries ∙ sym (one_record new es none is);
    keeps =
        subst (KeepOthers (names_of new.lanes) life.lanes)
        (sym (ap (λ (z : Life). z.lanes) (ends schemas life (calls ++ ev ∷ []) l.after l.happen ∙ after_both life calls (ev ∷ [])) ∙ quiet)) (kept_calls calls m);
  }

  pub parks_lead : new.doubt ≡ None → ParksCall schemas life new lane.name told → (es : List Entry) → AreEntriesOf new es → LeadsWith schemas life new es
  parks_lead none (calls, m, l) = call_then calls m (Park told.token) refl none l

  settle_lanes : (calls : List Event) (e : Entry) (end : End) → (life_after (after_all life calls) (Settle told.token e end)).lanes ≡ (after_all life calls).lanes
  settle_lanes calls e end = append_lanes end e (after_all life calls)

  pub settled_lead : (T : Type 0) (r : Reply) (x : T) → new.doubt ≡ None → SettlesCall {T = T} schemas life new lane.name told r (Ok x) → (es : List Entry) → AreEntriesOf new es
      → LeadsWith schemas life new es
  settled_lead T r x none (calls, m, l) = call_then calls m (Settle told.token (outcome_by told r) Whole) (settle_lanes calls (outcome_by told r) Whole) none (l Whole refl)

  call_record : (calls : List Event) → IsCallMade lane.name told calls → (after_all life calls).entries ≡ old.entries
  call_record calls m = call_entries old.lanes lane.name mine life stands.leases told calls m ∙ one_record old life.entries rest stands.entries

  pub unsettled_lead : (T : Type 0) (r : Reply) (fault : StopFault) → new.entries ≡ old.entries → IsCertainBut fault new → SettlesCall {T = T} schemas life new lane.name told r (Err fault)
      → (es : List Entry) → AreEntriesOf new es → LeadsWith schemas life new es
  unsettled_lead T r (stop.Full l need room) q none (calls, m, w) =
      call_then calls m (Settle told.token (outcome_by told r) BrokenWithout) (settle_lanes calls (outcome_by told r) BrokenWithout) none (w BrokenWithout refl)
  unsettled_lead T r (stop.LaneAhead place fence epoch) q none (calls, m, w) =
      call_then calls m (Settle told.token (outcome_by told r) BrokenWithout) (settle_lanes calls (outcome_by told r) BrokenWithout) none (w BrokenWithout refl)
  unsettled_lead T r stop.NoMemory q none (calls, m, w) =
      call_then calls m (Settle told.token (outcome_by told r) BrokenWithout) (settle_lanes calls (outcome_by told r) BrokenWithout) none (w BrokenWithout refl)
  unsettled_lead T r stop.DiskFault q none (calls, m, w) =
      leads_broken schemas life new calls (Settle told.token (outcome_by told r)) (outcome_by told r)
      (ap (λ es. es ++ outcome_by told r ∷ []) (call_record calls m ∙ sym q)) (call_record calls m ∙ sym q)
      (λ end. keep_both (names_of new.lanes) life.lanes (after_all life calls).lanes (life_after (after_all life calls) (Settle told.token (outcome_by told r) end)).lanes (kept_calls calls m)
      (kept_as (names_of new.lanes) (after_all life calls).lanes (life_after (after_all life calls) (Settle told.token (outcome_by told r) end)).lanes (settle_lanes calls (outcome_by told r) end))) w

-- An operation that begins by its entry.
module _ {D : Type 0} (old new : BookNow D) (schemas : List Schema) (life : Life) (e : Entry) (rest : old.doubt ≡ None) (stands : StandsFor old life) where
  begin_lanes : (end : End) → (life_after life (Begin e end)).lanes ≡ life.lanes
  begin_lanes end = append_lanes end e life

  pub begin_answers : (number : ℕ) → new.doubt ≡ None → BeginsLife schemas life new (order.Begin e) None (Ok number) → (es : List Entry) → AreEntriesOf new es → LeadsWith schemas life new es
  begin_answers number none w = leads_one schemas life new (Begin e Whole) (begin_lanes Whole) none (w Whole refl)

  pub begin_halts : (fault : StopFault) → new.entries ≡ old.entries → IsCertainBut fault new → BeginsLife schemas life new (order.Begin e) None (Err fault) → (es : List Entry) → AreEntriesOf new es
      → LeadsWith schemas life new es
  begin_halts (stop.Full l need room) same none w = leads_one schemas life new (Begin e BrokenWithout) (begin_lanes BrokenWithout) none (w BrokenWithout refl)
  begin_halts (stop.LaneAhead lane fence epoch) same none w = leads_one schemas life new (Begin e BrokenWithout) (begin_lanes BrokenWithout) none (w BrokenWithout refl)
  begin_halts stop.NoMemory same none l = leads_none schemas life new none l
  begin_halts stop.DiskFault same none w =
      leads_broken schemas life new [] (Begin e) e (ap (λ es. es ++ e ∷ []) (one_record old life.entries rest stands.entries ∙ sym same)) (one_record old life.entries rest stands.entries ∙ sym same)
      (λ end. kept_as (names_of new.lanes) life.lanes (life_after life (Begin e end)).lanes (begin_lanes end)) w
