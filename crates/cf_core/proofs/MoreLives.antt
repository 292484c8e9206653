-- In a life no two calls that are out are of one token, and no lane settles a token twice.
use Rattle.std.proofs.Common.{◌≡◌, ℕ, ◌≤◌, ◌==◌, List, [], ◌∷◌, ◌++◌, Bool, true, false, not, Option, Some, None, map, filter, refl, sym, ap, subst, ◌∙◌, true≢false, cond, arith}
use Rattle.cf_core.proofs.Words.{Answer, Answered, CallEnd, CallMove, End, Entry, Event, FencedLane, Flying, In, IsSoundLife, Lane, LaneState, LateMove, Lease, LeasesOnce, LeasesOnceStays, Left, Life, Happens, MayLeave, Request, Schema, Settled, Settlement, SettlesBy, SettlesOnce, SettlesOnceStays, StartIsOnce, lane_acted, all_differ, appended, bytes_eq, changed, has_token, here, is_call, is_in_flight, lane_at, late_by, lease_for, left_by, life_after, raised_to, repeated, replied_to, settled_late, settlement_of, there, tokens_out, with_lease, world_of}
use Rattle.cf_core.proofs.Lemmas.{any_of, differ_end, differ_less, eq-eqb, eqb-true, found_one, in_changed, into_mapped, is_found_in, ne_eqb, one_id}
use Rattle.cf_agree.proofs.Words.{bytes_same}
use Rattle.cf_core.proofs.{Outcomes.token_of, Settling.again_is, Settling.may_again, Stacks.stands_on}
use Rattle.cf_plan.specs.Life.{lease_replying}
use Rattle.cf_plan.specs.Life as life

tokens_replied : (t : ℕ) (r : CallEnd) (ls : List Lease) → map (λ (l : Lease). l.token) (map (lease_replying t r) ls) ≡ map (λ (l : Lease). l.token) ls
tokens_replied t r [] = refl
tokens_replied t r (l ∷ ls) = grind (arith, tokens_replied t r ls)

-- an append changes neither lanes nor leases
pub appended_same : (end : End) (e : Entry) (m : Life) → ((appended end e m).leases ≡ m.leases) × ((appended end e m).lanes ≡ m.lanes)
appended_same end e m = grind arith

module _ (schemas : List Schema) (l : Life) (h : IsSoundLife schemas l) (once : LeasesOnce l) where
  -- no call that is out has a token above the last one
  below : (k : Lease) → In k l.leases → k.token ≤ (world_of l).token
  below k i =
      let g = h.going k i in
      let c = found_one (is_call k.token) (g.stack).ledger g.call g.written in
      subst (λ n. n ≤ (world_of l).token) (sym (eqb-true k.token (g.call).token c.1)) ((h.fitted g.name g.stack g.stands).last g.call c.0)

  one_more : (lease : Lease) → ((k : Lease) → In k l.leases → k.token ≡ lease.token → ⊥) → LeasesOnce (with_lease lease l)
  one_more lease none = differ_end ◌==◌ (λ (k : Lease). k.token) l.leases lease (λ k i. ne_eqb k.token lease.token (none k i)) once

  less : (token : ℕ) → all_differ ◌==◌ (map (λ (k : Lease). k.token) (filter (λ (k : Lease). not (token == k.token)) l.leases)) ≡ true
  less token = differ_less ◌==◌ (λ (k : Lease). k.token) (λ (k : Lease). not (token == k.token)) l.leases once

  leases_after : (ev : Event) → Happens schemas l ev → LeasesOnce (life_after l ev)
  leases_after (life.Repeat token) (running, name, s, stage, p, m) =
      let is = may_again schemas name (world_of l) (tokens_out l) s stage p m.may in
      let (q, f) = is_found_in (has_token token) s.tokens p is.0 (eq-eqb token p.token (sym m.of_token)) in
      let home : is_in_flight (tokens_out l) token ≡ false = ap (is_in_flight (tokens_out l)) (sym m.of_token) ∙ is.1 in
      let none : (k : Lease) → In k l.leases → k.token ≡ q.token → ⊥ =
      λ k i same. true≢false (sym (any_of (λ t. token == t) (tokens_out l) k.token (into_mapped (λ (z : Lease). z.token) l.leases k i)
      (eq-eqb token k.token (token_of token s.tokens q f ∙ sym same))) ∙ home) in
      subst (λ o. LeasesOnce (repeated o l)) (sym (again_is (world_of l) name s (stands_on (world_of l) name s h.orderly.own m.stands) token q f))
      (one_more (lease_for s.operation q) none)
  leases_after v0 may = grind (arith, appended_same, one_more, below, less, tokens_replied)

pub leases_once_stays : LeasesOnceStays
leases_once_stays schemas l ev may h once = leases_after schemas l h once ev may

-- a lane that settles each token once
abbrev Once : LaneState → Type 0
Once a = all_differ ◌==◌ (map (λ (s : Settled). s.token) a.settled) ≡ true

not_settled : (t : ℕ) (ss : List Settled) → settlement_of t ss ≡ None → (s : Settled) → In s ss → (s.token == t) ≡ false
not_settled t [] e s i = elim i [ ]
not_settled t (q ∷ ss) e _ here = grind arith
not_settled t (q ∷ ss) e s (there i) = grind (arith, not_settled t ss)

settles_new : (a : LaneState) (s : Settled) → Once a → settlement_of s.token a.settled ≡ None → all_differ ◌==◌ (map (λ (z : Settled). z.token) (a.settled ++ s ∷ [])) ≡ true
settles_new a s once none = differ_end ◌==◌ (λ (z : Settled). z.token) a.settled s (not_settled s.token a.settled none) once

settled_by : (name : List ℕ) (a b : LaneState) (token : ℕ) (r : Request) (s : Settlement) → Once a → (o : Option Settlement) → settlement_of token a.settled ≡ o → SettlesBy o name a b token r s → Once b
settled_by name a b token r s once (Some earlier) e m = subst Once (sym m.1) once
settled_by name a b token r s once None e m = subst Once (sym m.1) (settles_new a (record { token = token; request = r; settlement = s }) once e)

abbrev OnceOn : FencedLane → Type 0
OnceOn f = Once f.state

called_once : (name : List ℕ) (f g : FencedLane) (epoch token : ℕ) (r : Request) (x : Answer) → OnceOn f → CallMove name f g epoch token r x → OnceOn g
called_once name f g epoch token r v6 once m = grind (arith, settled_by)

late_once : (name : List ℕ) (f g : FencedLane) (place : ℕ) (s : Settlement) → OnceOn f → LateMove name f g place s → OnceOn (late_by place s f)
late_once name f g place s once m =
    subst (λ (o : Option Flying). OnceOn (settled_late place s f o)) (sym m.stands)
    (settles_new f.state (record { token = (m.flying).token; request = (m.flying).request; settlement = s }) once m.is_new)

module _ (schemas : List Schema) (l : Life) (h : IsSoundLife schemas l) (once : SettlesOnce l) where
  -- the lane of a name is changed, and it alone
  one_changed : (name : List ℕ) (change : FencedLane → FencedLane) (lane : Lane) → lane_at name l.lanes ≡ Some lane → (OnceOn lane.state → OnceOn (change lane.state))
      → (k : Lane) → In k (map (changed name change) l.lanes) → OnceOn k.state
  one_changed name change lane found keeps k i = subst (λ (z : Lane). OnceOn z.state) f.same (by (bytes_eq name (f.one).name) refl) where
    f : Rattle.cf_plan.proofs.CreatedEnd.IsFrom (changed name change) l.lanes k
    f = in_changed (changed name change) l.lanes k i

    at : In lane l.lanes × (bytes_eq name lane.name ≡ true)
    at = found_one (λ (z : Lane). bytes_eq name z.name) l.lanes lane found

    by : (b : Bool) → bytes_eq name (f.one).name ≡ b → OnceOn (cond b (record f.one { state = change (f.one).state }) f.one).state
    by true e =
        let same : lane ≡ f.one = one_id (λ (z : Lane). z.name) l.lanes (h.named).names_differ lane f.one at.0 f.of_list (sym (bytes_same name lane.name at.1) ∙ bytes_same name (f.one).name e) in
        subst (λ (z : Lane). OnceOn (change z.state)) same (keeps (once lane at.0))
    by false e = once f.one f.of_list

  acts : (token : ℕ) (reply : CallEnd) (left : Left) → Happens schemas l (life.Act token reply left) → SettlesOnce (life_after l (life.Act token reply left))
  acts token reply left (lease, lane, found, unreplied, home, leaves) =
      subst (λ (o : Option Lease). SettlesOnce (replied_to token reply (lane_acted left o l))) (sym found)
      (one_changed lease.lane (left_by left (world_of l).epoch lease.token lease.request) lane home (by reply leaves))
    where
      by : (r : CallEnd) → MayLeave lane (left_by left (world_of l).epoch lease.token lease.request lane.state) (world_of l).epoch lease r → OnceOn lane.state
          → OnceOn (left_by left (world_of l).epoch lease.token lease.request lane.state)
      by (Answered x before counted) m o = called_once lane.name lane.state _ (world_of l).epoch lease.token lease.request x o m.1

  same_lanes : {lanes : List Lane} → lanes ≡ l.lanes → (k : Lane) → In k lanes → OnceOn k.state
  same_lanes e k i = once k (subst (In k) e i)

  settles_after : (ev : Event) → Happens schemas l ev → SettlesOnce (life_after l ev)
  settles_after (life.Opened epoch lanes end) may = grind (arith, same_lanes, appended_same)
  settles_after (life.ChangeSet e end) may = same_lanes (appended_same end e l).1
  settles_after (life.Begin e end) may = same_lanes (appended_same end e l).1
  settles_after (life.Grant e end) may = grind arith
  settles_after (life.Settle token e end) may = same_lanes (appended_same end e l).1
  settles_after (life.Repeat token) may = grind arith
  settles_after (life.Act token reply left) may = acts token reply left may
  settles_after (life.Raise name a moved before counted) may = by moved where
    by : (b : Bool) → SettlesOnce (life_after l (life.Raise name a b before counted))
    by true = one_changed name (λ (f : FencedLane). raised_to f (world_of l).epoch) may.2 may.3 (λ o. o)
    by false = once
  settles_after (life.Park token) may = once
  settles_after (life.Late name place s) (lane, home, m) = one_changed name (late_by place s) lane home (λ o. late_once name lane.state (late_by place s lane.state) place s o m)
  settles_after life.Close may = once
  settles_after life.Crash may = once

pub settles_once_stays : SettlesOnceStays
settles_once_stays schemas l ev may h once = settles_after schemas l h once ev may

pub start_is_once : StartIsOnce
start_is_once schemas l s = grind arith
