-- The lane of the call that comes next is found: in a life its token is not out, and the lane that its request names is at home.
use Rattle.std.proofs.Common.{◌≡◌, ◌≤◌, ◌+◌, ◌==◌, ◌&&◌, not, ℕ, Bool, true, false, List, Option, Some, None, map, option_map, is_some, position, arith, refl, sym, ◌∙◌, ap, subst, true≢false}
use Rattle.std.proofs.lemmas.Bool.{eq-eqb, eqb-true}
use Rattle.std.specs.Cmp.{first_so}
use Rattle.std.specs.List.{list_any}
use Rattle.std.specs.Option.{option_map_or}
use Rattle.std.specs.Str.{bytes_eq}
use Rattle.cf_tree.specs.Lists.{In}
use Rattle.cf_tree.specs.declared.request.Request.{Request}
use Rattle.cf_schema.specs.declared.described.Schema.{Schema}
use Rattle.cf_effect.specs.Calls.{call_under, is_call}
use Rattle.cf_effect.specs.Status.{Back, BackClean, Clean, Forward, Gone, Stage}
use Rattle.cf_effect.specs.Words.{has_token, pending_of}
use Rattle.cf_effect.specs.World.{StackState, World, is_going, stack_at, stack_of_operation}
use Rattle.cf_effect.specs.declared.call.Call.{Call}
use Rattle.cf_effect.specs.declared.held.Pending.{Pending}
use Rattle.cf_stacks.proofs.Worlds.{found_stands}
use Rattle.cf_stacks.specs.Room.{stack_of_call}
use Rattle.cf_lane.specs.Calling.{Granted}
use Rattle.cf_next.specs.Chosen.{MayStart, leases_of, schemas_of}
use Rattle.cf_next.specs.declared.home.Home.{Home}
use Rattle.cf_next.specs.declared.step.Next.TheVariants as next
use Rattle.cf_plan.proofs.Causing.{map_in}
use Rattle.cf_plan.proofs.CreatedStays.{found_one}
use Rattle.cf_plan.proofs.Listed.{in_map, same_bytes}
use Rattle.cf_plan.proofs.Members.{false_from, in_any}
use Rattle.cf_plan.proofs.RunLists.{any_of, in_kept, is_found_in}
use Rattle.cf_plan.specs.Follow.{MayRepeat, calls_in_flight, is_in_flight, is_lane_leased}
use Rattle.cf_plan.specs.Life.{IsGoing, Lease, Life, world_of}
use Rattle.cf_core.proofs.FitKept.{fitting_lane}
use Rattle.cf_core.proofs.KeepSound.{stands_in}
use Rattle.cf_core.specs.Fits.{Fits}
use Rattle.cf_core.specs.Fitting.{AllFit}
use Rattle.cf_core.specs.LifeAgrees.{IsOrderly}
use Rattle.cf_book.specs.Granting.{ComesNext, FindsLane}
use Rattle.cf_book.specs.Lending.{is_called_on, is_expected, is_free_home, is_new_on, is_out_for, place_of}
use Rattle.cf_book.specs.Lives.{AreLeasesOf, InLife, NamesLanes, lane_name, lease_for}
use Rattle.cf_book.specs.Record.{world_left}
use Rattle.cf_book.specs.State.{BookLane, BookNow, home_of}
use Rattle.cf_book.proofs.Called.{repeat_listed}
use Rattle.cf_book.proofs.Lanes.{has_place}
use Rattle.cf_book.proofs.Leased.{flies_out, same_out}
use Rattle.cf_book.proofs.Written.{known_entries}

not_so : (b : Bool) → not b ≡ true → b ≡ false
not_so true h = absurd (true≢false (sym h))
not_so false h = refl

-- what may be made again is not out
quiet : (schemas : List Schema) (name : List ℕ) (x : World) (out : List ℕ) (s : StackState) (stage : Stage) (p : Pending)
    → MayRepeat schemas name x out s stage p → is_in_flight out p.token ≡ false
quiet schemas name x out s Forward p h = not_so (is_in_flight out p.token) (first_so (not (is_in_flight out p.token)) _ h.2)
quiet schemas name x out s Clean p h = not_so (is_in_flight out p.token) (first_so (not (is_in_flight out p.token)) _ h.1)
quiet schemas name x out s Back p h = not_so (is_in_flight out p.token) (first_so (not (is_in_flight out p.token)) _ h.1)
quiet schemas name x out s BackClean p h = not_so (is_in_flight out p.token) (first_so (not (is_in_flight out p.token)) _ h.1)
quiet schemas name x out s Gone p h = not_so (is_in_flight out p.token) (first_so (not (is_in_flight out p.token)) _ h.1)

-- whether a lane of the book is out for a token
abbrev tells_out : ℕ → Option Granted → Bool
tells_out t o = option_map_or (λ u. t == u) (option_map (λ (c : Granted). c.token) o) false

module _ (x : World) (lanes : List BookLane) (leases : List Lease) (fit : AllFit x) (orderly : IsOrderly x)
    (going : (l : Lease) → In l leases → IsGoing x l) (are : AreLeasesOf lanes leases) (named : NamesLanes lanes x) where
  abbrev homes : List Home
  homes = map home_of lanes

  abbrev out : List ℕ
  out = leases_of (map home_of lanes)

  -- no call has a token above the last one
  row_below : (s : StackState) → Fits x s → (t : ℕ) (c : Call) → call_under t s ≡ Some c → t ≤ x.token
  row_below s f t c is =
      let (i, same) = found_one (is_call t) s.ledger c is in subst (λ n. n ≤ x.token) (sym (eqb-true t c.token same)) (f.last c i)

  open_below : (s : StackState) → Fits x s → (p : Pending) → In p s.tokens → p.token ≤ x.token
  open_below s f p i = let (c, is, row) = f.rows p i in row_below s f p.token c is

  out_below : (t : ℕ) → is_in_flight out t ≡ true → t ≤ x.token
  out_below t h =
      let (u, i, e) = in_any (λ u. t == u) (map (λ (l : Lease). l.token) leases) (sym (same_out lanes leases are t) ∙ h) in
      let (l, j, same) = map_in (λ (l : Lease). l.token) u leases i in
      let g = going l j in
      subst (λ n. n ≤ x.token) (same ∙ sym (eqb-true t u e)) (row_below g.stack (fit g.name g.stack g.stands) l.token g.call g.written)

  -- no lane is out for a token that is not
  unused : (t : ℕ) → is_in_flight out t ≡ false → list_any (is_out_for t) homes ≡ false
  unused t none = false_from (list_any (is_out_for t) homes) (λ h.
      let (o, i, e) = in_any (is_out_for t) homes h in
      let (b, j, same) = map_in home_of o lanes i in
      by b j b.out refl (subst (λ (z : Home). is_out_for t z ≡ true) (sym same) e))
    where
      by : (b : BookLane) → In b lanes → (o : Option Granted) → b.out ≡ o → is_out_for t (home_of b) ≡ true → ⊥
      by b j None k e = true≢false (sym e ∙ ap (tells_out t) k)
      by b j (Some c) k e =
          let token : t ≡ c.token = eqb-true t c.token (sym (ap (tells_out t) k) ∙ e) in
          true≢false (sym (flies_out lanes b c j k) ∙ ap (is_in_flight out) (sym token) ∙ none)

  -- a lane that no call leases is at home
  rests_at_home : (lane : List ℕ) → is_lane_leased out x lane ≡ false → (b : BookLane) → In b lanes → b.lane.name ≡ lane → b.out ≡ None
  rests_at_home lane none b i name = by b.out refl where
    by : (o : Option Granted) → b.out ≡ o → o ≡ None
    by None e = refl
    by (Some c) e =
        let j : In (lease_for b c) leases = are.all b (lease_for b c) i (ap (option_map (lease_for b)) e) in
        let g = going (lease_for b c) j in
        let (row, same) = found_one (is_call c.token) g.stack.ledger g.call g.written in
        let flies : is_in_flight out g.call.token ≡ true = ap (is_in_flight out) (sym (eqb-true c.token g.call.token same)) ∙ flies_out lanes b c i e in
        let flying : In g.call (calls_in_flight out g.stack) = in_kept (λ (k : Call). is_in_flight out k.token) g.stack.ledger g.call row flies in
        let its : bytes_eq lane g.call.lane ≡ true = ap (bytes_eq lane) (g.lane ∙ name) ∙ same_bytes lane in
        let leased : is_lane_leased out x lane ≡ true =
        any_of (λ (s : List ℕ × StackState). list_any (λ (k : Call). bytes_eq lane k.lane) (calls_in_flight out s.1)) x.stacks (g.name, g.stack)
        (stands_in g.name g.stack x.stacks g.stands) (any_of (λ (k : Call). bytes_eq lane k.lane) (calls_in_flight out g.stack) g.call flying its) in
        absurd (true≢false (sym leased ∙ none))

  -- so it has a place
  lane_placed : (lane : List ℕ) (l : List ℕ × List ℕ) → In l x.lanes → l.0 ≡ lane → is_lane_leased out x lane ≡ false
      → (at : ℕ) × (position (is_free_home lane) homes ≡ Some at)
  lane_placed lane l i name none =
      let (b, j, e) = map_in lane_name l lanes (subst (In l) named i) in
      let its : b.lane.name ≡ lane = ap (λ (n : List ℕ × List ℕ). n.0) e ∙ name in
      let free : b.out ≡ None = rests_at_home lane none b j its in
      let passes : is_free_home lane (home_of b) ≡ true =
      ap (λ n. bytes_eq lane n && not (is_some (option_map (λ (c : Granted). c.token) b.out))) its
      ∙ ap (λ t. t && not (is_some (option_map (λ (c : Granted). c.token) b.out))) (same_bytes lane)
      ∙ ap (λ o. not (is_some (option_map (λ (c : Granted). c.token) o))) free in
      has_place (is_free_home lane) homes (home_of b) (in_map home_of b lanes j) passes

  module _ (number : ℕ) (name : List ℕ) (s : StackState) (at : stack_of_operation number x ≡ Some (name, s)) where
    there : stack_at name x ≡ Some s
    there = found_stands (λ (q : List ℕ × StackState). is_going number q.1) x.stacks (name, s) orderly.apart.names at

    -- a token above the last one is no open call's
    new_there : (token : ℕ) → token ≡ x.token + 1 → is_expected number token x false ≡ true
    new_there token next =
        ap (is_new_on token) at ∙ ap not (false_from (list_any (has_token token) s.tokens) (λ h.
        let (p, i, e) = in_any (has_token token) s.tokens h in
        let below = open_below s (fit name s there) p i in
        let same : token ≡ p.token = eqb-true token p.token e in omega (arith, below, same, next)))

    -- an open call is of one stack
    again_there : (p : Pending) → In p s.tokens → is_expected number p.token x true ≡ true
    again_there p i =
        let stood = stands_in name s x.stacks there in
        let (v, e) = is_found_in (has_token p.token) s.tokens p i (eq-eqb p.token p.token refl) in
        let (q, f) = is_found_in (λ (q : List ℕ × StackState). is_some (pending_of p.token q.1)) x.stacks (name, s) stood (ap is_some e) in
        let (j, passes) = found_one (λ (q : List ℕ × StackState). is_some (pending_of p.token q.1)) x.stacks q f in
        let (c, is, row) = (fit name s there).rows p i in
        ap (λ o. is_called_on p.token o (stack_of_call p.token x)) at ∙ ap (is_called_on p.token (Some (name, s))) f
        ∙ ap (λ t. t && is_some (call_under p.token s)) (by q j passes v e stood (bytes_eq name q.0) refl) ∙ ap is_some is
      where
        by : (q : List ℕ × StackState) → In q x.stacks → is_some (pending_of p.token q.1) ≡ true → (v : Pending) → pending_of p.token s ≡ Some v
            → In (name, s) x.stacks → (t : Bool) → bytes_eq name q.0 ≡ t → bytes_eq name q.0 ≡ true
        by q j passes v e stood true same = same
        by q j passes v e stood false same =
            let differ : name ≡ q.0 → ⊥ = λ k. true≢false (sym (same_bytes name) ∙ ap (bytes_eq name) k ∙ same) in
            let none : pending_of p.token q.1 ≡ None = orderly.own.tokens (name, s) q p.token v stood j differ e in
            absurd (true≢false (sym passes ∙ ap is_some none))

    -- the call that comes next
    placed : (schemas : List Schema) (stage : Stage) (path lane : List ℕ) (token : ℕ) (r : Request) (twice : Bool)
        → MayStart schemas name x out s stage (next.Step path lane token r twice) → (i : ℕ) × (place_of number x homes lane token twice ≡ Some i)
    placed schemas stage path lane token r false may =
        let none : is_in_flight out token ≡ false = false_from (is_in_flight out token) (λ h.
        let below = out_below token h in let next = may.next in omega (arith, below, next)) in
        let p : Pending = record { token = token; path = path; lane = lane; request = r } in
        let (l, i, of) = fitting_lane x p r refl may.fits in
        let (k, is) = lane_placed lane l i of.0 may.home in
        (k, found (new_there token may.next) (unused token none) is)
      where
        found : {k : ℕ} → is_expected number token x false ≡ true → list_any (is_out_for token) homes ≡ false
            → position (is_free_home lane) homes ≡ Some k → place_of number x homes lane token false ≡ Some k
        found expected quiet is = rw expected (rw quiet is)
    placed schemas stage path lane token r true may =
        let p : Pending = record { token = token; path = path; lane = lane; request = r } in
        let listed : In p s.tokens = repeat_listed schemas name x out s stage p may.repeats in
        let (l, i, of) = (fit name s there).lanes.1 p listed in
        let (k, is) = lane_placed lane l i of.0 may.home in
        (k, found (again_there p listed) (unused token (quiet schemas name x out s stage p may.repeats)) is)
      where
        found : {k : ℕ} → is_expected number token x true ≡ true → list_any (is_out_for token) homes ≡ false
            → position (is_free_home lane) homes ≡ Some k → place_of number x homes lane token true ≡ Some k
        found expected quiet is = rw expected (rw quiet is)

-- so it is in each life that the book stands for
pub finds_lane : {D : Type 0} (schemas : List Schema) (life : Life) (b : BookNow D) (number : ℕ) → b.doubt ≡ None → InLife schemas life b (FindsLane b number)
finds_lane schemas life b number certain described stands holds =
    subst (λ es. (path lane : List ℕ) (token : ℕ) (r : Request) (twice : Bool) → ComesNext b.lanes es number (next.Step path lane token r twice)
    → (i : ℕ) × (place_of number (world_left es) (map home_of b.lanes) lane token twice ≡ Some i)) (known_entries b life stands certain)
    (λ path lane token r twice comes.
    placed (world_of life) b.lanes life.leases holds.sound.fitted holds.sound.orderly holds.sound.going stands.leases stands.named number comes.0 comes.1 comes.3
    (schemas_of (map home_of b.lanes)) comes.2 path lane token r twice comes.5.may)
