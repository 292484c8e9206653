-- A call that is granted is an event of a life: its Intent, or the repeat of a call that is open.
use Rattle.std.proofs.Common.{◌≡◌, inl, ℕ, ◌==◌, Bool, true, false, not, List, [], ◌∷◌, ◌++◌, Option, Some, None, Ok, Err, find, is_some, map, option_map, refl, sym, ◌∙◌, ap, subst, cond}
use Rattle.std.proofs.lemmas.Bool.{eq-eqb, eqb-true}
use Rattle.std.specs.Cmp.{first_so}
use Rattle.std.specs.Option.{option_or}
use Rattle.std.specs.Str.{bytes_eq}
use Rattle.cf_tree.specs.Lists.{In}
use Rattle.cf_tree.specs.Named.{all_differ}
use Rattle.cf_tree.specs.declared.request.Request.{Request}
use Rattle.cf_disk.specs.declared.disk.Disk.{Ghosts}
use Rattle.cf_schema.specs.declared.described.Schema.{Schema}
use Rattle.cf_entry.specs.declared.entry.Entry.{Entry}
use Rattle.cf_entry.specs.declared.entry.Entry.TheVariants as entry
use Rattle.cf_effect.specs.declared.held.Pending.{Pending}
use Rattle.cf_effect.specs.Status.{Back, BackClean, Clean, Forward, Gone, Stage, is_in_progress, stage_of}
use Rattle.cf_effect.specs.Words.{has_token, pending_of}
use Rattle.cf_effect.specs.World.{StackState, World, is_going, stack_at, stack_of_operation}
use Rattle.cf_stacks.specs.Apart.{AreApart}
use Rattle.cf_stacks.specs.Room.{stack_of_call}
use Rattle.cf_stacks.proofs.Worlds.{found_stands}
use Rattle.cf_next.specs.Chosen.{MayCallAgain, leases_of}
use Rattle.cf_next.specs.declared.step.Next.{Next}
use Rattle.cf_next.specs.declared.step.Next.TheVariants as next
use Rattle.cf_plan.proofs.CreatedStays.{found_one}
use Rattle.cf_plan.proofs.Differ.{one_number}
use Rattle.cf_plan.proofs.Frame.{found_passes}
use Rattle.cf_plan.proofs.InFlight.{SameOut, same_leased, same_repeats_on}
use Rattle.cf_plan.proofs.RunLists.{is_found_in}
use Rattle.cf_plan.specs.Follow.{MayFollow, MayRepeat}
use Rattle.cf_plan.specs.Life.{End, Grant, Happens, Lease, Life, Repeat, Whole, again_in, first_again, is_running, life_after, repeated, tokens_out, with_lease, world_of}
use Rattle.cf_plan.specs.Life.{lease_for as again_as}
use Rattle.cf_core.specs.Fits.{Fits}
use Rattle.cf_core.specs.Theorem.{HoldsAlways}
use Rattle.cf_lane.specs.Calling.{Granted}
use Rattle.cf_book.specs.Calls.{stopped_by}
use Rattle.cf_book.specs.Granting.{KeepsLanes, StepLife, WritesCall}
use Rattle.cf_book.specs.Inside.{name_of}
use Rattle.cf_book.specs.Lives.{AreLanesOf, AreLeasesOf, LeadsTo, NamesLanes, StandsFor, lease_for}
use Rattle.cf_book.specs.Record.{world_left}
use Rattle.cf_book.specs.State.{BookLane, BookNow, home_of, lent_for, lent_out}
use Rattle.cf_book.specs.declared.stop.StopFault.{StopFault}
use Rattle.cf_book.specs.declared.stop.StopFault.TheVariants as stop
use Rattle.cf_book.proofs.Grants.{lanes_lent, leases_lent, lends_for, stands_still, unwritten_life}
use Rattle.cf_book.proofs.Leased.{same_out}
use Rattle.cf_book.proofs.Written.{ends_so, known_entries}
use Rattle.cf_book.proofs.Named.{named_lent}

-- a call that may be made again is open
pub repeat_listed : (schemas : List Schema) (name : List ℕ) (x : World) (out : List ℕ) (s : StackState) (stage : Stage) (p : Pending)
    → MayRepeat schemas name x out s stage p → In p s.tokens
repeat_listed schemas name x out s Forward p h = h.1
repeat_listed schemas name x out s Clean p h = h.0
repeat_listed schemas name x out s Back p h = h.0
repeat_listed schemas name x out s BackClean p h = h.0
repeat_listed schemas name x out s Gone p h = h.0

-- the first stack that has the call open hands it out again
again_from : (token : ℕ) (name : List ℕ) (s : StackState) (ss : List (List ℕ × StackState))
    → find (λ (q : List ℕ × StackState). is_some (pending_of token q.1)) ss ≡ Some (name, s) → first_again token ss ≡ again_in token s
again_from token name s [] e = absurd (cc)
again_from token name s (q ∷ ss) e = by (pending_of token q.1) refl (again_from token name s ss) where
  by : (o : Option Pending) → pending_of token q.1 ≡ o
      → (find (λ (r : List ℕ × StackState). is_some (pending_of token r.1)) ss ≡ Some (name, s) → first_again token ss ≡ again_in token s)
      → first_again token (q ∷ ss) ≡ again_in token s
  by (Some p) k ih =
      let its : Some q ≡ Some (name, s) =
      sym (ap (λ (o : Option Pending). cond (is_some o) (Some q) (find (λ (r : List ℕ × StackState). is_some (pending_of token r.1)) ss)) k) ∙ e in
      let same : q ≡ (name, s) = cc its in
      ap (λ (o : Option Pending). option_or (option_map (again_as q.1.operation) o) (first_again token ss)) k
      ∙ sym (ap (option_map (again_as q.1.operation)) k) ∙ ap (λ (r : List ℕ × StackState). again_in token r.1) same
  by None k ih =
      ap (λ (o : Option Pending). option_or (option_map (again_as q.1.operation) o) (first_again token ss)) k
      ∙ ih (sym (ap (λ (o : Option Pending). cond (is_some o) (Some q) (find (λ (r : List ℕ × StackState). is_some (pending_of token r.1)) ss)) k) ∙ e)

-- no two open calls of a stack are of one token
one_open : (x : World) (s : StackState) (p : Pending) → Fits x s → In p s.tokens → pending_of p.token s ≡ Some p
one_open x s p fits i =
    let (q, e) = is_found_in (has_token p.token) s.tokens p i (eq-eqb p.token p.token refl) in
    let (j, t) = found_one (has_token p.token) s.tokens q e in
    e ∙ ap Some (one_number (λ (z : Pending). z.token) s.tokens fits.tokens q p j i (sym (eqb-true p.token q.token t)))

-- The call of an open token goes out again.
module _ {D : Type 0} (schemas : List Schema) (life : Life) (old new : BookNow D) (number token epoch : ℕ) (path : List ℕ) (r : Request) (b : BookLane) (home : In b old.lanes)
    (free : b.out ≡ None) (differ : all_differ bytes_eq (map name_of old.lanes) ≡ true) (apart : AreApart (world_left old.entries)) (name : List ℕ) (s : StackState)
    (stage : Stage) (at : stack_of_operation number (world_left old.entries) ≡ Some (name, s)) (is : stage_of s.status ≡ Some stage)
    (may : MayCallAgain schemas name (world_left old.entries) (leases_of (map home_of old.lanes)) s stage path b.lane.name token r)
    (called : stack_of_call token (world_left old.entries) ≡ Some (name, s)) (stands : StandsFor old life) (holds : HoldsAlways schemas life)
    (running : old.stopped ≡ None) (certain : old.doubt ≡ None) where
  abbrev call : Granted
  call = record { epoch = epoch; number = number; token = token; request = r }

  abbrev lease : Lease
  lease = lease_for (lent_for call b.lane) call

  abbrev p : Pending
  p = record { token = token; path = path; lane = b.lane.name; request = r }

  known : life.entries ≡ old.entries
  known = known_entries old life stands certain

  again : MayCallAgain schemas name (world_of life) (leases_of (map home_of old.lanes)) s stage path b.lane.name token r
  again = subst (λ es. MayCallAgain schemas name (world_left es) (leases_of (map home_of old.lanes)) s stage path b.lane.name token r) (sym known) may

  going : stack_of_operation number (world_of life) ≡ Some (name, s)
  going = ap (λ es. stack_of_operation number (world_left es)) known ∙ at

  there : stack_at name (world_of life) ≡ Some s
  there = found_stands (λ (q : List ℕ × StackState). is_going number q.1) (world_of life).stacks (name, s) (subst (λ es. AreApart (world_left es)) (sym known) apart).names going

  same : SameOut (leases_of (map home_of old.lanes)) (tokens_out life)
  same = same_out old.lanes life.leases stands.leases

  happens : Happens schemas life (Repeat token)
  happens =
      let runs : is_running life ≡ true = ap (λ b. cond b (not life.is_stopped) false) stands.opened ∙ ap not (stands.running running) in (
        runs,
        name,
        s,
        stage,
        p,
        record {
          stands = there;
          at_stage = is;
          of_token = refl;
          at_home = sym (same_leased (leases_of (map home_of old.lanes)) (tokens_out life) same (world_of life) b.lane.name) ∙ again.home;
          may = same_repeats_on (leases_of (map home_of old.lanes)) (tokens_out life) same schemas name (world_of life) s stage p again.repeats;
        },
      )

  its : first_again token (world_of life).stacks ≡ Some lease
  its =
      let listed = repeat_listed schemas name (world_of life) (leases_of (map home_of old.lanes)) s stage p again.repeats in
      let numbered : s.operation ≡ number =
      eqb-true s.operation number (first_so (s.operation == number) (is_in_progress s.status)
      (found_passes (λ (q : List ℕ × StackState). is_going number q.1) (world_of life).stacks (name, s) going)) in
      again_from token name s (world_of life).stacks (ap (λ es. stack_of_call token (world_left es)) known ∙ called)
      ∙ ap (option_map (again_as s.operation)) (one_open (world_of life) s p (holds.sound.fitted name s there) listed)
      ∙ ap (λ n. Some (again_as n p)) numbered

  pub repeats_for : new.entries ≡ old.entries → new.lanes ≡ lent_out call b.lane old.lanes → new.has_granted ≡ true → LeadsTo schemas life (Repeat token ∷ []) new
  repeats_for entries lanes given = record {
    after = life_after life (Repeat token);
    happen = (happens, refl);
    stands = subst (λ (o : Option Lease). StandsFor new (repeated o life)) (sym its) out_again;
  }
    where
      out_again : StandsFor new (with_lease lease life)
      out_again = record {
        entries = inl (known ∙ sym entries);
        lanes = subst (λ ls. AreLanesOf ls life.lanes) (sym lanes) (lanes_lent old.lanes b call home free differ life.lanes stands.lanes);
        leases = subst (λ ls. AreLeasesOf ls (life.leases ++ lease ∷ [])) (sym lanes)
            (leases_lent old.lanes b call home free differ life.leases stands.leases);
        opened = stands.opened;
        granted = sym given;
        running = λ n. stands.running running;
        raised = stands.raised;
        named = subst (λ ls. NamesLanes ls (world_of life)) (sym lanes) (named_lent old.lanes differ (world_of life) b call home stands.named);
      }

-- Which events of a life the granting of a call is.
module _ {D : Type 0} (g : Ghosts D) (schemas : List Schema) (life : Life) (old new : BookNow D) (number token epoch : ℕ) (path : List ℕ) (r : Request) (b : BookLane)
    (stands : StandsFor old life) (running : old.stopped ≡ None) (certain : old.doubt ≡ None) where
  abbrev step : Bool → Next
  step twice = next.Step path b.lane.name token r twice

  abbrev intent : Entry
  intent = entry.Intent number token b.lane.name path r

  abbrev its_call : Granted
  its_call = record { epoch = epoch; number = number; token = token; request = r }

  -- it was: its Intent is written, or stands
  pub lent_life : {T : Type 0} (x : T) (home : In b old.lanes) (free : b.out ≡ None) (differ : all_differ bytes_eq (map name_of old.lanes) ≡ true)
      (apart : AreApart (world_left old.entries)) (name : List ℕ) (s : StackState) (stage : Stage)
      (at : stack_of_operation number (world_left old.entries) ≡ Some (name, s)) (is : stage_of s.status ≡ Some stage) (twice : Bool)
      → (twice ≡ false → MayFollow schemas (world_left old.entries) (leases_of (map home_of old.lanes)) intent)
      → (twice ≡ true → MayCallAgain schemas name (world_left old.entries) (leases_of (map home_of old.lanes)) s stage path b.lane.name token r)
      → (twice ≡ true → stack_of_call token (world_left old.entries) ≡ Some (name, s)) → HoldsAlways schemas life
      → WritesCall g old new twice intent (Ok x) → new.stopped ≡ None → new.lanes ≡ lent_out its_call b.lane old.lanes → new.has_granted ≡ true
      → StepLife schemas life old new number (step twice) (Ok x)
  lent_life x home free differ apart name s stage at is false follows may called holds w goes lanes given = λ end e.
      subst (λ (z : End). LeadsTo schemas life (Grant intent z ∷ []) new) (sym e)
      (lends_for schemas life old new b its_call path home free differ (follows refl) stands running certain lanes given
      (ends_so g old new life intent (known_entries old life stands certain) (stands.running running) (Ok x) w goes Whole refl))
  lent_life x home free differ apart name s stage at is true follows may called holds w goes lanes given =
      repeats_for schemas life old new number token epoch path r b home free differ apart name s stage at is (may refl) (called refl) stands holds running certain
      w.entries lanes given

-- it was not granted
pub unlent_life : {D : Type 0} (T : Type 0) (g : Ghosts D) (schemas : List Schema) (life : Life) (old new : BookNow D) (number token : ℕ) (path lane : List ℕ) (r : Request)
    → StandsFor old life → old.stopped ≡ None → old.doubt ≡ None → (twice : Bool) (fault : StopFault)
    → (twice ≡ false → MayFollow schemas (world_left old.entries) (leases_of (map home_of old.lanes)) (entry.Intent number token lane path r))
    → WritesCall {T = T} g old new twice (entry.Intent number token lane path r) (Err fault) → new.stopped ≡ stopped_by {T = T} None (Err fault) → KeepsLanes old new
    → StepLife {T = T} schemas life old new number (next.Step path lane token r twice) (Err fault)
unlent_life T g schemas life old new number token path lane r stands running certain false fault may w s keeps =
    unwritten_life g schemas life old new (entry.Intent number token lane path r) tt (may refl) stands running certain keeps.lanes keeps.granted T fault w s
unlent_life T g schemas life old new number token path lane r stands running certain true stop.NoMemory may w s keeps =
    (w, stands_still schemas life old new stands running certain w.entries keeps.lanes keeps.granted)
unlent_life T g schemas life old new number token path lane r stands running certain true stop.DiskFault may w s keeps = absurd w
unlent_life T g schemas life old new number token path lane r stands running certain true (stop.Full l need room) may w s keeps = absurd w
unlent_life T g schemas life old new number token path lane r stands running certain true (stop.LaneAhead place fence of) may w s keeps = absurd w
