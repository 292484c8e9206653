-- What is granted is an event of a life: an entry that moves the operation on, or the Intent of a call for which a lane is lent.
use Rattle.std.proofs.Common.{◌≡◌, inl, inr, ℕ, Bool, true, false, not, List, [], ◌∷◌, ◌++◌, Some, None, Ok, Err, map, option_map, refl, sym, ◌∙◌, ap, subst, cond}
use Rattle.std.specs.Str.{bytes_eq}
use Rattle.cf_tree.specs.Lists.{In}
use Rattle.cf_disk.specs.declared.disk.Disk.{Ghosts}
use Rattle.cf_tree.specs.Named.{all_differ}
use Rattle.cf_tree.specs.declared.request.Request.{Request}
use Rattle.cf_schema.specs.declared.described.Schema.{Schema}
use Rattle.cf_entry.specs.declared.entry.Entry.{Entry}
use Rattle.cf_entry.specs.declared.entry.Entry.TheVariants as entry
use Rattle.cf_effect.specs.Status.{Stage, stage_of}
use Rattle.cf_effect.specs.World.{StackState, World, is_going, stack_at, stack_of_operation}
use Rattle.cf_stacks.specs.Apart.{AreApart}
use Rattle.cf_stacks.proofs.Worlds.{found_stands}
use Rattle.cf_next.specs.Chosen.{MayCallAgain, leases_of, schemas_of}
use Rattle.cf_plan.proofs.Causing.{map_in}
use Rattle.cf_plan.proofs.Differ.{one_id}
use Rattle.cf_plan.proofs.InFlight.{same_follows}
use Rattle.cf_plan.proofs.Listed.{bytes_same, in_map, same_bytes}
use Rattle.cf_plan.proofs.Members.{false_from}
use Rattle.cf_plan.proofs.RunLists.{in_either, in_end, in_front, in_one}
use Rattle.cf_plan.proofs.SameSchemas.{same_granted, same_repeat}
use Rattle.cf_plan.specs.Follow.{MayFollow}
use Rattle.cf_plan.specs.Lanes.{Lane, lane_at}
use Rattle.cf_plan.specs.Life.{AreRaised, BrokenWith, BrokenWithout, End, Grant, Happens, IsGranted, Lease, Life, Whole, appended, granted, is_running, life_after, tokens_out, world_of}
use Rattle.cf_lane.specs.Calling.{Granted}
use Rattle.cf_book.specs.Calls.{stopped_by}
use Rattle.cf_book.specs.Events.{MayEnd}
use Rattle.cf_book.specs.Granting.{IsMove, MayFollowNow, WritesLife}
use Rattle.cf_book.specs.Inside.{name_of}
use Rattle.cf_book.specs.Lives.{AreLanesOf, AreLeasesOf, DescribeLanes, LeadsTo, NamesLanes, StandsFor, lease_for, lease_of, told_lane}
use Rattle.cf_book.specs.Record.{Appends, Writes, world_left}
use Rattle.cf_book.specs.State.{BookLane, BookNow, home_of, lent_for, lent_out, with_lane}
use Rattle.cf_book.proofs.Leased.{same_out}
use Rattle.cf_book.proofs.Raised.{raised_after}
use Rattle.cf_book.specs.declared.stop.StopFault.{StopFault}
use Rattle.cf_book.specs.declared.stop.StopFault.TheVariants as stop
use Rattle.cf_book.proofs.Written.{EndsSo, ends_so, known_entries}
use Rattle.cf_book.proofs.Named.{named_lent, opening_after}
use Rattle.cf_book.proofs.Told.{tells_forward}
use Rattle.cf_core.specs.Theorem.{HoldsAlways}
use Rattle.cf_plan.specs.SameSchemas.{TellForward}

-- The lanes of which one that was at home is lent.
module _ (lanes : List BookLane) (b : BookLane) (call : Granted) (home : In b lanes) (free : b.out ≡ None) (differ : all_differ bytes_eq (map name_of lanes) ≡ true) where
  abbrev lent : BookLane
  lent = lent_for call b.lane

  is_lent : (a : BookLane) → In a lanes → bytes_eq b.lane.name a.lane.name ≡ true → a ≡ b
  is_lent a i t = one_id name_of lanes differ a b i home (sym (bytes_same b.lane.name a.lane.name t))

  there_lent : In lent (lent_out call b.lane lanes)
  there_lent =
      subst (λ (z : BookLane). In z (lent_out call b.lane lanes)) (ap (λ s. cond s lent b) (same_bytes b.lane.name))
      (in_map (with_lane b.lane.name lent) b lanes home)

  stays_lent : (a : BookLane) → In a lanes → bytes_eq b.lane.name a.lane.name ≡ false → In a (lent_out call b.lane lanes)
  stays_lent a i n =
      subst (λ (z : BookLane). In z (lent_out call b.lane lanes)) (ap (λ s. cond s lent a) n) (in_map (with_lane b.lane.name lent) a lanes i)

  -- each tells what it told
  pub lanes_lent : (all : List Lane) → AreLanesOf lanes all → AreLanesOf (lent_out call b.lane lanes) all
  lanes_lent all h c i =
      let (a, j, e) = map_in (with_lane b.lane.name lent) c lanes i in
      by a j e (bytes_eq b.lane.name a.lane.name) refl
    where
      by : (a : BookLane) → In a lanes → with_lane b.lane.name lent a ≡ c → (t : Bool) → bytes_eq b.lane.name a.lane.name ≡ t
          → (l : Lane) × (told_lane c ≡ Some l) × (lane_at l.name all ≡ Some l)
      by a j e true t =
          let (l, told, at) = h b home in
          (l, ap told_lane (sym e ∙ ap (λ s. cond s lent a) t) ∙ told, at)
      by a j e false t =
          let (l, told, at) = h a j in
          (l, ap told_lane (sym e ∙ ap (λ s. cond s lent a) t) ∙ told, at)

  -- one call more is out
  pub leases_lent : (leases : List Lease) → AreLeasesOf lanes leases → AreLeasesOf (lent_out call b.lane lanes) (leases ++ lease_for lent call ∷ [])
  leases_lent leases h = record {
    each = λ l i. elim (in_either l leases (lease_for lent call ∷ []) i) [
      | inl j ↦ (let (a, k, e) = h.each l j in (a, stays_lent a k (apart a l k e), e))
      | inr j ↦ (lent, there_lent, ap Some (sym (in_one l (lease_for lent call) j)))
    ];
    all = λ c l i e.
        let (a, j, k) = map_in (with_lane b.lane.name lent) c lanes i in
        by c l e a j k (bytes_eq b.lane.name a.lane.name) refl;
  }
    where
      apart : (a : BookLane) (l : Lease) → In a lanes → lease_of a ≡ Some l → bytes_eq b.lane.name a.lane.name ≡ false
      apart a l k e = false_from (bytes_eq b.lane.name a.lane.name) (λ t.
          let no : None ≡ Some l = ap (option_map (lease_for a)) (sym (ap (λ (z : BookLane). z.out) (is_lent a k t) ∙ free)) ∙ e in cc no)

      by : (c : BookLane) (l : Lease) → lease_of c ≡ Some l → (a : BookLane) → In a lanes → with_lane b.lane.name lent a ≡ c → (t : Bool)
          → bytes_eq b.lane.name a.lane.name ≡ t → In l (leases ++ lease_for lent call ∷ [])
      by c l e a j k true t =
          let its : Some (lease_for lent call) ≡ Some l = ap lease_of (sym (ap (λ s. cond s lent a) t) ∙ k) ∙ e in
          let same : lease_for lent call ≡ l = cc its in
          subst (λ (m : Lease). In m (leases ++ lease_for lent call ∷ [])) same (in_end (lease_for lent call) leases)
      by c l e a j k false t =
          let was : lease_of a ≡ Some l = ap lease_of (sym (ap (λ s. cond s lent a) t) ∙ k) ∙ e in
          in_front l leases (lease_for lent call ∷ []) (h.all a l j was)

-- An entry that may follow over the calls that the lanes tell is granted in every life that the book stands for.
module _ {D : Type 0} (schemas : List Schema) (life : Life) (old new : BookNow D) (e : Entry) (grants : IsGranted e)
    (may : MayFollow schemas (world_left old.entries) (leases_of (map home_of old.lanes)) e) (stands : StandsFor old life) (running : old.stopped ≡ None)
    (certain : old.doubt ≡ None) where
  pub as_known : life.entries ≡ old.entries
  as_known = known_entries old life stands certain

  happens : (end : End) → Happens schemas life (Grant e end)
  happens end =
      let runs : is_running life ≡ true = ap (λ b. cond b (not life.is_stopped) false) stands.opened ∙ ap not (stands.running running) in (
        runs,
        grants,
        same_follows (leases_of (map home_of old.lanes)) (tokens_out life) (same_out old.lanes life.leases stands.leases) schemas (world_of life) e
            (subst (λ es. MayFollow schemas (world_left es) (leases_of (map home_of old.lanes)) e) (sym as_known) may),
      )

  -- no lane is lent where the entry is no Intent, and where its append was broken
  pub moves_on : (end : End) → granted end e (appended end e life) ≡ appended end e life → new.lanes ≡ old.lanes → new.has_granted ≡ old.has_granted
      → EndsSo new e life end → LeadsTo schemas life (Grant e end ∷ []) new
  moves_on end plain lanes given h = record {
    after = life_after life (Grant e end);
    happen = (happens end, refl);
    stands = subst (StandsFor new) (sym plain) (by end h (subst AreRaised plain (raised_after schemas life (Grant e end) tt (happens end) stands.raised))
        (subst (λ m. NamesLanes new.lanes (world_of m)) plain (subst (λ ls. NamesLanes ls (world_of (life_after life (Grant e end)))) (sym lanes)
        (opening_after schemas life (Grant e end) tt (happens end) ∙ stands.named))));
  }
    where
      lanes_are : AreLanesOf new.lanes life.lanes
      lanes_are = subst (λ ls. AreLanesOf ls life.lanes) (sym lanes) stands.lanes

      leases_are : AreLeasesOf new.lanes life.leases
      leases_are = subst (λ ls. AreLeasesOf ls life.leases) (sym lanes) stands.leases

      by : (end : End) → EndsSo new e life end → AreRaised (appended end e life) → NamesLanes new.lanes (world_of (appended end e life))
          → StandsFor new (appended end e life)
      by Whole h r n = record { entries = h.0; lanes = lanes_are; leases = leases_are; opened = stands.opened; granted = stands.granted ∙ sym given; running = h.1; raised = r; named = n }
      by BrokenWith h r n = record { entries = h.0; lanes = lanes_are; leases = leases_are; opened = stands.opened; granted = stands.granted ∙ sym given; running = h.1; raised = r; named = n }
      by BrokenWithout h r n = record { entries = h.0; lanes = lanes_are; leases = leases_are; opened = stands.opened; granted = stands.granted ∙ sym given; running = h.1; raised = r; named = n }

-- The Intent of a call is granted, and its lane is lent.
pub lends_for : {D : Type 0} (schemas : List Schema) (life : Life) (old new : BookNow D) (b : BookLane) (call : Granted) (path : List ℕ) → In b old.lanes → b.out ≡ None
    → all_differ bytes_eq (map name_of old.lanes) ≡ true
    → MayFollow schemas (world_left old.entries) (leases_of (map home_of old.lanes)) (entry.Intent call.number call.token b.lane.name path call.request)
    → StandsFor old life → old.stopped ≡ None → old.doubt ≡ None → new.lanes ≡ lent_out call b.lane old.lanes → new.has_granted ≡ true
    → EndsSo new (entry.Intent call.number call.token b.lane.name path call.request) life Whole
    → LeadsTo schemas life (Grant (entry.Intent call.number call.token b.lane.name path call.request) Whole ∷ []) new
lends_for schemas life old new b call path home free differ may stands running certain lanes given h =
    let e : Entry = entry.Intent call.number call.token b.lane.name path call.request in
    let may_so = happens schemas life old new e tt may stands running certain Whole in
    record {
      after = life_after life (Grant e Whole);
      happen = (may_so, refl);
      stands = record {
        entries = h.0;
        lanes = subst (λ ls. AreLanesOf ls life.lanes) (sym lanes) (lanes_lent old.lanes b call home free differ life.lanes stands.lanes);
        leases = subst (λ ls. AreLeasesOf ls (life.leases ++ lease_for (lent_for call b.lane) call ∷ [])) (sym lanes) (leases_lent old.lanes b call home free differ life.leases stands.leases);
        opened = stands.opened;
        granted = sym given;
        running = h.1;
        raised = raised_after schemas life (Grant e Whole) tt may_so stands.raised;
        named = subst (λ ls. NamesLanes ls (world_of (life_after life (Grant e Whole)))) (sym lanes)
            (named_lent old.lanes differ (world_of (life_after life (Grant e Whole))) b call home
            (opening_after schemas life (Grant e Whole) tt may_so ∙ stands.named));
      };
    }

-- nothing was done
pub stands_still : {D : Type 0} (schemas : List Schema) (life : Life) (old new : BookNow D) → StandsFor old life → old.stopped ≡ None → old.doubt ≡ None
    → new.entries ≡ old.entries → new.lanes ≡ old.lanes → new.has_granted ≡ old.has_granted → LeadsTo schemas life [] new
stands_still schemas life old new stands running certain entries lanes given = record {
  after = life;
  happen = refl;
  stands = record {
    entries = inl (known_entries old life stands certain ∙ sym entries);
    lanes = subst (λ ls. AreLanesOf ls life.lanes) (sym lanes) stands.lanes;
    leases = subst (λ ls. AreLeasesOf ls life.leases) (sym lanes) stands.leases;
    opened = stands.opened;
    granted = stands.granted ∙ sym given;
    running = λ n. stands.running running;
    raised = stands.raised;
    named = subst (λ ls. NamesLanes ls (world_of life)) (sym lanes) stands.named;
  };
}

-- The event of an entry for which no lane is lent, whole or broken.
module _ {D : Type 0} (g : Ghosts D) (schemas : List Schema) (life : Life) (old new : BookNow D) (e : Entry) (grants : IsGranted e)
    (may : MayFollow schemas (world_left old.entries) (leases_of (map home_of old.lanes)) e) (stands : StandsFor old life) (running : old.stopped ≡ None)
    (certain : old.doubt ≡ None) (lanes : new.lanes ≡ old.lanes) (given : new.has_granted ≡ old.has_granted) where
  known : life.entries ≡ old.entries
  known = known_entries old life stands certain

  broken : (T : Type 0) (fault : StopFault) → Appends {T = T} g old new e (Err fault) → new.stopped ≡ stopped_by {T = T} None (Err fault) → (end : End)
      → MayEnd {T = T} (Err fault) end → granted end e (appended end e life) ≡ appended end e life → LeadsTo schemas life (Grant e end ∷ []) new
  broken T fault w s end is plain =
      moves_on schemas life old new e grants may stands running certain end plain lanes given
      (ends_so {T = T} g old new life e known (stands.running running) (Err fault) w s end is)

  hands_nothing : (T : Type 0) (fault : StopFault) (end : End) → MayEnd {T = T} (Err fault) end → granted end e (appended end e life) ≡ appended end e life
  hands_nothing T stop.DiskFault end (inl is) = subst (λ (z : End). granted z e (appended z e life) ≡ appended z e life) (sym is) refl
  hands_nothing T stop.DiskFault end (inr is) = subst (λ (z : End). granted z e (appended z e life) ≡ appended z e life) (sym is) refl
  hands_nothing T (stop.Full l need room) end is = subst (λ (z : End). granted z e (appended z e life) ≡ appended z e life) (sym is) refl
  hands_nothing T (stop.LaneAhead place fence epoch) end is = subst (λ (z : End). granted z e (appended z e life) ≡ appended z e life) (sym is) refl
  hands_nothing T stop.NoMemory end is = subst (λ (z : End). granted z e (appended z e life) ≡ appended z e life) (sym is) refl

  pub unwritten_life : (T : Type 0) (fault : StopFault) → Writes {T = T} g old new e (Err fault) → new.stopped ≡ stopped_by {T = T} None (Err fault)
      → WritesLife {T = T} schemas life old new e (Err fault)
  unwritten_life T stop.DiskFault w s = λ end is. broken T stop.DiskFault w s end is (hands_nothing T stop.DiskFault end is)
  unwritten_life T (stop.Full l need room) w s =
      λ end is. broken T (stop.Full l need room) w s end is (hands_nothing T (stop.Full l need room) end is)
  unwritten_life T (stop.LaneAhead place fence epoch) w s = absurd w.1
  unwritten_life T stop.NoMemory w s =
      (record { disk = w.0; entries = w.1; doubt = w.2 }, stands_still schemas life old new stands running certain w.1 lanes given)

  pub written_life : {T : Type 0} (x : T) → granted Whole e (appended Whole e life) ≡ appended Whole e life → Writes g old new e (Ok x)
      → new.stopped ≡ stopped_by None (Ok x) → WritesLife schemas life old new e (Ok x)
  written_life x plain w s = λ end is.
      moves_on schemas life old new e grants may stands running certain end
      (subst (λ (z : End). granted z e (appended z e life) ≡ appended z e life) (sym is) plain) lanes given
      (ends_so g old new life e known (stands.running running) (Ok x) w s end is)

-- a resource that is kept, a phase and an end hand nothing out
pub move_hands_nothing : (e : Entry) (life : Life) → IsMove e → granted Whole e (appended Whole e life) ≡ appended Whole e life
move_hands_nothing (entry.Kept number path physical w) life i = refl
move_hands_nothing (entry.Phase number p cause) life i = refl
move_hands_nothing (entry.Intent number token lane path r) life i = absurd i
move_hands_nothing (entry.Done number state failed) life i = absurd i
move_hands_nothing (entry.Outcome number token a before after) life i = absurd i
move_hands_nothing (entry.Opened epoch lanes) life i = absurd i
move_hands_nothing (entry.Begin number name k) life i = absurd i
move_hands_nothing (entry.ChangeSet number name source rows outputs) life i = absurd i

pub move_is_granted : (e : Entry) → IsMove e → IsGranted e
move_is_granted (entry.Kept number path physical w) i = tt
move_is_granted (entry.Phase number p cause) i = tt
move_is_granted (entry.Intent number token lane path r) i = absurd i
move_is_granted (entry.Done number state failed) i = absurd i
move_is_granted (entry.Outcome number token a before after) i = absurd i
move_is_granted (entry.Opened epoch lanes) i = absurd i
move_is_granted (entry.Begin number name k) i = absurd i
move_is_granted (entry.ChangeSet number name source rows outputs) i = absurd i

-- Schemas tell what those of the book's lanes do: of the types of each stack that goes forward.
abbrev pub TellOfLanes : List Schema → List BookLane → World → Type 0
TellOfLanes schemas lanes x =
    (name : List ℕ) (s : StackState) → stack_at name x ≡ Some s → TellForward (schemas_of (map home_of lanes)) schemas s

-- The schemas of a life that the book stands for do.
pub lanes_tell : {D : Type 0} (schemas : List Schema) (life : Life) (old : BookNow D) → old.doubt ≡ None → DescribeLanes schemas old.lanes → StandsFor old life
    → HoldsAlways schemas life → TellOfLanes schemas old.lanes (world_left old.entries)
lanes_tell schemas life old certain described stands holds =
    subst (λ es. TellOfLanes schemas old.lanes (world_left es)) (known_entries old life stands certain)
    (tells_forward schemas old.lanes life described stands.named holds)

-- What may follow by the schemas of the lanes may follow by others that tell the same.
pub follows_by : (schemas : List Schema) (lanes : List BookLane) (es : List Entry) (e : Entry) → TellOfLanes schemas lanes (world_left es) → AreApart (world_left es)
    → IsGranted e → MayFollowNow lanes es e → MayFollow schemas (world_left es) (leases_of (map home_of lanes)) e
follows_by schemas lanes es e tells apart grants may =
    same_granted (schemas_of (map home_of lanes)) schemas (world_left es) (leases_of (map home_of lanes)) e grants
    (λ number name s at. tells name s (found_stands (λ (p : List ℕ × StackState). is_going number p.1) (world_left es).stacks (name, s) apart.names at)) may

pub repeats_by : (schemas : List Schema) (lanes : List BookLane) (es : List Entry) (number : ℕ) (name : List ℕ) (s : StackState) (stage : Stage)
    (path lane : List ℕ) (token : ℕ) (r : Request) → TellOfLanes schemas lanes (world_left es) → AreApart (world_left es)
    → stack_of_operation number (world_left es) ≡ Some (name, s) → stage_of s.status ≡ Some stage
    → MayCallAgain (schemas_of (map home_of lanes)) name (world_left es) (leases_of (map home_of lanes)) s stage path lane token r
    → MayCallAgain schemas name (world_left es) (leases_of (map home_of lanes)) s stage path lane token r
repeats_by schemas lanes es number name s stage path lane token r tells apart at is may = record {
  repeats = same_repeat (schemas_of (map home_of lanes)) schemas name (world_left es) s
      (tells name s (found_stands (λ (p : List ℕ × StackState). is_going number p.1) (world_left es).stacks (name, s) apart.names at))
      (leases_of (map home_of lanes)) stage is (record { token = token; path = path; lane = lane; request = r }) may.repeats;
  home = may.home;
}
