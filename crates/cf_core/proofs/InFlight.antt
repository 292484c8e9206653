-- A call in flight stays open: no entry gives it up, ends its operation, or leaves it with three doubts.
use Rattle.std.proofs.Common.{◌≡◌, ℕ, ◌+◌, ◌<◌, ◌≤◌, ◌==◌, inl, inr, Bool, true, false, ◌&&◌, ◌||◌, not, List, [], ◌∷◌, ◌++◌, Option, Some, None, refl, sym, ap, subst, ◌∙◌, true≢false, map, filter, find, nat_lt, arith}
use Rattle.cf_core.proofs.Words.{Act, AllFit, AreApart, BackClean, Begin, Begun, BrokenWith, BrokenWithout, Call, CallEnd, ChangeSet, Clean, Close, Crash, End, Entry, Event, Fits, Gone, Grant, Happens, Held, In, IntendsIn, IsCleaning, IsCleaningBack, IsOnCourse, IsOutcomeOf, IsOwn, IsSoundLife, Late, Lease, Life, MayFollow, MayFollowIn, MayIntend, MayKeep, MayRepeat, Opened, Park, Pending, Raise, Repeat, Reply, Request, Schema, Settle, StackState, Stage, Status, Whole, Why, World, answered, answered_call, appended, begins_from, bytes_eq, call_under, calls_in_flight, cleaned_in, closing, cond, creates_from, doubts_of, effect_at, empty_world, entries_with, first_so, flat_map, fold_of, has_physical, has_token, id_named, intending, is_among, is_call, is_create, is_create_at, is_created, is_going, is_in_flight, is_in_progress, is_of, is_on, is_opening, is_restore, is_retained_or_excepted, is_some, is_to_retain, keeping, keeping_known, keeping_unknown, known_stack, lane_acted, lease_at, lease_for, life_after, lines_of, list_any, may_repeat, named_paths, new_call, none_in_flight, option_map, option_map_or, pending_of, refusals_of, repeated, replied, replied_to, resources_of, reviewed, second_so, stack_at, stack_for, stack_of_operation, stage_of, still_open, tokens_out, updates_from, world_after, world_of}
use Rattle.cf_core.proofs.Lemmas.{and_from, answered_left, any_of, bytes_eq-Decides, bytes_same, empty_list, eq-eqb, eqb-true, find_mapped, found_in_more, found_one, found_stands, found_still, in_back, in_filter, in_front, in_kept, in_more, is_found_in, map_in, nat_tests, none_false, none_if, not_so, one_number, second_not, some_is}
use Rattle.cf_core.proofs.BlameStays.{deleted_listed, named_more, one_resource}
use Rattle.cf_core.proofs.Cleanups.{asks_for, new_called, new_open}
use Rattle.cf_core.proofs.FitKept.{stack_known}
use Rattle.cf_core.proofs.KeepSound.{out_flies, outcome_new, reviews_idle}
use Rattle.cf_core.proofs.{MoreLives.appended_same, Moving.beginning_name, Moving.numbered_so, Outcomes.token_of, Settling.again_is, Stacks.stands_on}
use Rattle.cf_core.proofs.Operations.{at_idle, at_it, at_other, begun_operation, found_going, own_operation}
use Rattle.cf_core.proofs.{Rows.answered_row, Rows.answered_row_same, Statuses.intended_way}
use Rattle.cf_core.specs.InFlight.{IsOpenCall, IsOpenLease, LeasesOpen, LeasesStayOpen}
use Rattle.cf_core.specs.{OnCourse.IsOnWay, Tidying.HasTriesLeft}
use Rattle.cf_effect.specs.Operation.{named_in}
use Rattle.cf_plan.proofs.ChangedLists.{find_left}
use Rattle.cf_plan.specs.Life.{lease_replying}
use Rattle.cf_stacks.proofs.Folded.{folded_more}

-- What a resource that is kept gives up, and why that is no call that may be made again.

-- an open call is given up as a resource is kept
abbrev is_given_up : List ℕ → List ℕ → Pending → Bool
is_given_up path physical p = cond (bytes_eq physical []) (is_create_at path p) (is_on physical p)

few_doubts : (stage : Stage) (s : StackState) (p : Pending) → may_repeat stage [] s p ≡ true → doubts_of p.token s < 3
few_doubts stage s p again = grind (arith, nat_tests)

-- a deletion of the stack does not retain the path of a call that may be made again
not_retained : (stage : Stage) (s : StackState) (p : Pending) (path : List ℕ) → may_repeat stage [] s p ≡ true → p.path ≡ path
    → is_to_retain stage s path ≡ true → ⊥
not_retained stage s p path again same retained = grind (arith, true≢false)

module _ (x : World) (s : StackState) (fits : Fits x s) where
  -- what is cleaned up is a resource of the stack
  cleaned_listed : (stage : Stage) (r : Held) → In r (cleaned_in stage s) → In r (resources_of s)
  cleaned_listed stage r i = grind (arith, in_front, in_back, in_filter)

  -- a call on a resource of the stack is at its path
  on_path : (p : Pending) (r : Held) → In p s.tokens → In r (resources_of s) → is_on r.physical p ≡ true → p.path ≡ r.path
  on_path p r i j on = by (id_named p.request) refl on where
    by : (o : Option (List ℕ)) → id_named p.request ≡ o → option_map_or (bytes_eq r.physical) o false ≡ true → p.path ≡ r.path
    by None e k = absurd (true≢false (sym k))
    by (Some id) e k =
        let (q, l, f, g) = fits.named p id i e in
        sym g ∙ ap (λ (z : Held). z.path) (one_resource x s fits q r l j (f ∙ sym ((bytes_eq-Decides r.physical id).0 k)))

  module _ (p : Pending) (i : In p s.tokens) where
    at_its_path : (path physical : List ℕ) (r : Held) → In r (resources_of s) → path ≡ r.path → physical ≡ r.physical
        → is_given_up path physical p ≡ true → p.path ≡ path
    at_its_path path physical r j at is given = by (bytes_eq physical []) given where
      by : (b : Bool) → cond b (is_create_at path p) (is_on physical p) ≡ true → p.path ≡ path
      by true e = sym (bytes_same path p.path (second_so (is_created p) (bytes_eq path p.path) e))
      by false e = on_path p r i j (subst (λ id. is_on id p ≡ true) is e) ∙ sym at

    module _ (stage : Stage) (again : may_repeat stage [] s p ≡ true) (left : HasTriesLeft s)
        (deletes_in : (r : Held) → In r (cleaned_in stage s) → (id : List ℕ) × (p.request ≡ Request.Delete id)) where
      -- its deletion, which was not refused three times
      not_refused : (path physical : List ℕ) (id : List ℕ) → p.request ≡ Request.Delete id → is_given_up path physical p ≡ true
          → refusals_of physical s < 3
      not_refused path physical id e given = by (bytes_eq physical []) given where
        by : (b : Bool) → cond b (is_create_at path p) (is_on physical p) ≡ true → refusals_of physical s < 3
        by true k = absurd (true≢false (sym k ∙ ap (λ r. is_create r && bytes_eq path p.path) e))
        by false k =
            let same : physical ≡ id = (bytes_eq-Decides physical id).0 (sym (ap (λ r. option_map_or (bytes_eq physical) (id_named r) false) e) ∙ k) in
            left p physical i (e ∙ ap (λ q. Request.Delete q) (sym same))

      spared : (out : List ℕ) (path physical : List ℕ) (w : Why) → MayKeep stage out s path physical w → is_given_up path physical p ≡ true → ⊥
      spared out path physical Why.Retained (inl (r, may, waits, keeps, at, is, inl free)) given =
          let same = at_its_path path physical r (deleted_listed stage s r may) at is given in
          true≢false (sym (any_of (λ (q : Pending). bytes_eq path q.path) s.tokens p i ((bytes_eq-Decides path p.path).1 (sym same))) ∙ not_so _ free)
      spared out path physical Why.Retained (inl (r, may, waits, keeps, at, is, inr retained)) given =
          not_retained stage s p path again (at_its_path path physical r (deleted_listed stage s r may) at is given) retained
      spared out path physical Why.Retained (inr (gone, none, named, some)) given =
          let created : is_create_at path p ≡ true = sym (ap (λ id. is_given_up path id p) none) ∙ given in
          not_retained stage s p path again (sym (bytes_same path p.path (second_so (is_created p) (bytes_eq path p.path) created)))
          (ap (λ (k : Stage). is_to_retain k s path) gone ∙ named)
      spared out path physical Why.Failed (k, thrice) given =
          let d = deletes_in k.0 k.1 in
          let few = not_refused path physical d.0 d.1 given in omega (arith, few, thrice)
      spared out path physical Why.Doubt (k, q, j, deleting, thrice) given =
          let listed = cleaned_listed stage k.0 k.1 in
          let on : is_on k.0.physical q ≡ true =
          ap (λ r. option_map_or (bytes_eq k.0.physical) (id_named r) false) (asks_for physical q.request deleting) ∙ (bytes_eq-Decides k.0.physical physical).1 (sym k.3) in
          let same : p ≡ q = fits.paths p q i j (at_its_path path physical k.0 listed k.2 k.3 given ∙ k.2 ∙ sym (on_path q k.0 j listed on)) in
          let few = few_doubts stage s p again in
          let most = subst (λ (z : Pending). 3 ≤ doubts_of z.token s) (sym same) thrice in omega (arith, few, most)

-- What an entry of its operation leaves of an open call.

-- the call is open as it was, and was in doubt no more often
record KeepsOpen (s u : StackState) (token : ℕ) (p : Pending) : Type 0 where
  status : u.status ≡ s.status
  operation : u.operation ≡ s.operation
  entries : u.entries ≡ s.entries
  found : pending_of token u ≡ Some p
  doubts : doubts_of token u ≡ doubts_of token s

may_again_so : (stage : Stage) (s u : StackState) (p : Pending) → doubts_of p.token u ≡ doubts_of p.token s → named_paths u ≡ named_paths s
    → may_repeat stage [] s p ≡ true → may_repeat stage [] u p ≡ true
may_again_so stage s u p doubts named again = grind arith

module _ (s : StackState) (token : ℕ) (h : IsOpenCall s token) where
  abbrev p : Pending
  p = h.pending

  is_its : token ≡ p.token
  is_its = token_of token s.tokens p h.found

  of_tokens : In p s.tokens
  of_tokens = (found_one (has_token token) s.tokens p h.found).0

  -- an entry that names no path to retain joins the stack's own
  joined : (e : Entry) (u : StackState) (lines : List (List ℕ)) → is_of s.operation e ≡ true → named_in e ≡ []
      → entries_with e u.entries ≡ u.entries ++ e ∷ [] → KeepsOpen s u token p
      → IsOpenCall (record u { entries = entries_with e u.entries; events = lines }) token
  joined e u lines own none joins k =
      let after : StackState = record u { entries = entries_with e u.entries; events = lines } in
      let named : named_paths after ≡ named_paths s =
      ap (λ n. flat_map named_in (filter (is_of n) after.entries)) k.operation
      ∙ ap (λ es. flat_map named_in (filter (is_of s.operation) es)) (joins ∙ ap (λ es. es ++ e ∷ []) k.entries) ∙ named_more s.operation s.entries e own none in
      record {
        stage = h.stage;
        pending = p;
        in_stage = ap stage_of k.status ∙ h.in_stage;
        found = k.found;
        again = may_again_so h.stage s after p (subst (λ t. doubts_of t after ≡ doubts_of t s) is_its k.doubts) named h.again;
      }

  same_open : KeepsOpen s s token p
  same_open = record { status = refl; operation = refl; entries = refl; found = h.found; doubts = refl }

  -- a resource is kept, and the call is not given up
  kept_open : (path physical : List ℕ) (w : Why) → is_given_up path physical p ≡ false → KeepsOpen s (keeping path physical w s) token p
  kept_open path physical w spared = by (bytes_eq physical []) (list_any (is_create_at path) s.tokens) (list_any (has_physical physical) (resources_of s)) spared
    where
      left : (test : Pending → Bool) → test p ≡ false → find (has_token token) (filter (λ q. not (test q)) s.tokens) ≡ Some p
      left test e = find_left (has_token token) (λ q. not (test q)) s.tokens p h.found (ap not e)

      by : (b c d : Bool) → cond b (is_create_at path p) (is_on physical p) ≡ false
          → KeepsOpen s (cond b (cond c (keeping_unknown path w s) s) (cond d (keeping_known path physical w s) s)) token p
      by true true d e = record { status = refl; operation = refl; entries = refl; found = left (is_create_at path) e; doubts = refl }
      by false c true e = record { status = refl; operation = refl; entries = refl; found = left (is_on physical) e; doubts = refl }
      by true false d e = same_open
      by false c false e = same_open

  -- another call goes out
  called_open : (x : World) → Fits x s → (number : ℕ) (q : Pending) → KeepsOpen s (intending number q s) token p
  called_open x fits number q =
      let (c, row, is_row) = fits.rows p of_tokens in
      let found : find (is_call token) s.ledger ≡ Some c = ap (λ t. find (is_call t) s.ledger) is_its ∙ row in
      intended_way (λ u. KeepsOpen s u token p) s same_open number q (record {
        status = refl;
        operation = refl;
        entries = refl;
        found = found_still (has_token token) s.tokens (q ∷ []) p h.found;
        doubts = ap (λ o. option_map_or (λ (d : Call). d.doubts) o 0) (found_still (is_call token) s.ledger (new_call number s.status q ∷ []) c found ∙ sym found);
      })

  -- another call is answered
  module _ (other : ℕ) (a : Reply) (apart : (other == token) ≡ false) where
    other_row : (c : Call) → is_call token c ≡ true → answered_row other a c ≡ c
    other_row c e = ap (λ b. cond b (answered_call a c) c) (ap (λ t. other == t) (sym (eqb-true token c.token e)) ∙ apart)

    same_doubts : (o : Option Call) → find (is_call token) s.ledger ≡ o
        → option_map_or (λ (c : Call). c.doubts) (option_map (answered_row other a) o) 0 ≡ option_map_or (λ (c : Call). c.doubts) o 0
    same_doubts None e = refl
    same_doubts (Some c) e = ap (λ (d : Call). d.doubts) (other_row c (found_one (is_call token) s.ledger c e).1)

    still_found : (b : Reply) → find (has_token token) (still_open other b s.tokens) ≡ Some p
    still_found Reply.Doubt = h.found
    still_found b = find_left (has_token token) (λ q. not (has_token other q)) s.tokens p h.found (ap not (ap (λ t. other == t) (sym is_its) ∙ apart))

    closed_open : (hs ms : List Held) → KeepsOpen s (closing other a (record s { held = hs; made = ms })) token p
    closed_open hs ms = record {
      status = refl;
      operation = refl;
      entries = refl;
      found = still_found a;
      doubts = ap (λ o. option_map_or (λ (c : Call). c.doubts) o 0)
          (find_mapped (is_call token) (answered_row other a) s.ledger (λ c. ap (λ t. token == t) (answered_row_same other a c).token))
          ∙ same_doubts (find (is_call token) s.ledger) refl;
    }

    replied_open : (o : Option Pending) → KeepsOpen s (replied other a o s) token p
    replied_open None = same_open
    replied_open (Some q) =
        let u : StackState = answered (is_restore other s) q.path q.request a s in
        subst (λ (z : StackState). KeepsOpen s (closing other a z) token p) (sym (answered_left (is_restore other s) q.path q.request a s).as_was) (closed_open u.held u.made)

  -- no phase begins and no operation ends while it is out
  never_out : (x : World) → Fits x s → (out : List ℕ) → is_in_flight out token ≡ true → none_in_flight out s ≡ true → ⊥
  never_out x fits out flies none =
      let (c, row, is_row) = fits.rows p of_tokens in
      let f = found_one (is_call p.token) s.ledger c row in
      let flying : is_in_flight out c.token ≡ true = ap (is_in_flight out) (sym (is_its ∙ eqb-true p.token c.token f.1)) ∙ flies in
      elim (subst (In c) (empty_list (calls_in_flight out s) none) (in_kept (λ (d : Call). is_in_flight out d.token) s.ledger c f.0 flying)) [ ]

-- the entry does not answer the call
abbrev Leaves : ℕ → Entry → Type 0
Leaves token (Entry.Outcome number other a before after) = (other == token) ≡ false
Leaves token e = Unit {0}

own_is : (n : ℕ) (e : Entry) → IsOwn n e → is_of n e ≡ true
own_is n e own = grind (arith, eq-eqb)

clean_only : (a : Status) → stage_of a ≡ Some Clean → a ≡ Status.UpdateCompleteCleanupInProgress
clean_only a e = grind arith

back_clean_only : (a : Status) → stage_of a ≡ Some BackClean → a ≡ Status.UpdateRollbackCompleteCleanupInProgress
back_clean_only a e = grind arith

-- in a cleanup each open call is a deletion, and elsewhere nothing is cleaned up
all_delete : (schemas : List Schema) (name : List ℕ) (x : World) (s : StackState) (stage : Stage) → stage_of s.status ≡ Some stage
    → IsOnCourse schemas name x s s.status → (p : Pending) → In p s.tokens → (r : Held) → In r (cleaned_in stage s) → (id : List ℕ) × (p.request ≡ Request.Delete id)
all_delete schemas name x s Clean at course p i r j =
    let c : IsCleaning name x s = subst (IsOnCourse schemas name x s) (clean_only s.status at) course in let d = c.calls p i in (d.0.physical, d.3)
all_delete schemas name x s BackClean at course p i r j =
    let c : IsCleaningBack s = subst (IsOnCourse schemas name x s) (back_clean_only s.status at) course in let d = c.calls p i in (d.0.physical, d.2)
all_delete schemas name x s stage at course p i r j = elim j [ ]

-- What an entry that may follow leaves of a call in flight, on the stack of its operation and in the world.
module _ (schemas : List Schema) (x : World) (out : List ℕ) (token : ℕ) (flies : is_in_flight out token ≡ true) where
  stays_on : (place : ℕ) (name : List ℕ) (s : StackState) (e : Entry) (stage : Stage) → Fits x s → IsOnWay schemas name x s → is_of s.operation e ≡ true
      → stage_of s.status ≡ Some stage → MayFollowIn schemas name x out s stage e → Leaves token e → IsOpenCall s token → IsOpenCall (effect_at place e s).stack token
  stays_on place name s (Entry.Kept number path physical w) stage fits way own at may leaves h =
      let i = of_tokens s token h in
      let again : may_repeat stage [] s h.pending ≡ true = ap (λ k. may_repeat k [] s h.pending) (some_is _ _ (sym at ∙ h.in_stage)) ∙ h.again in
      let spares = none_false (is_given_up path physical h.pending) (spared x s fits h.pending i stage again way.supported.tries
      (all_delete schemas name x s stage at way.course.stage h.pending i) out path physical w may) in
      joined s token h (Entry.Kept number path physical w) (keeping path physical w s) _ own refl refl (kept_open s token h path physical w spares)
  stays_on place name s (Entry.Intent number t lane path r) stage fits way own at may leaves h =
      let q : Pending = record { token = t; path = path; lane = lane; request = r } in
      joined s token h (Entry.Intent number t lane path r) (intending number q s) _ own refl refl (called_open s token h x fits number q)
  stays_on place name s (Entry.Outcome number other a before after) stage fits way own at may leaves h =
      joined s token h (Entry.Outcome number other a before after) (replied other a (pending_of other s) s) _ own refl refl
      (replied_open s token h other a leaves (pending_of other s))
  stays_on place name s (Entry.Phase number p c) stage fits way own at may leaves h = absurd (never_out s token h x fits out flies may.0)
  stays_on place name s (Entry.Done number state failed) stage fits way own at may leaves h = absurd (never_out s token h x fits out flies may.0)
  stays_on place name s e stage fits way own at may leaves h = absurd may

module _ (schemas : List Schema) (x : World) (out : List ℕ) (apart : AreApart x) (fit : AllFit x)
    (way : (name : List ℕ) (s : StackState) → stack_at name x ≡ Some s → IsOnWay schemas name x s) (l : Lease) (flies : is_in_flight out l.token ≡ true)
    (h : IsOpenLease x l) where
  -- an entry of an operation
  own_leaves : (n : ℕ) (name : List ℕ) (s : StackState) (at : stack_of_operation n x ≡ Some (name, s)) (e : Entry) → IsOwn n e → (stage : Stage)
      → stage_of s.status ≡ Some stage → MayFollowIn schemas name x out s stage e → Leaves l.token e → IsOpenLease (world_after x e) l
  own_leaves n name s at e own stage is may leaves = by (l.number == n) refl where
    stands : stack_at name x ≡ Some s
    stands = found_stands (λ (p : List ℕ × StackState). is_going n p.1) x.stacks (name, s) apart.names at

    mine : n ≡ s.operation
    mine = numbered_so schemas x out name s n at

    by : (b : Bool) → (l.number == n) ≡ b → IsOpenLease (world_after x e) l
    by true k =
        let same : l.number ≡ n = eqb-true l.number n k in
        let it : ◌≡◌ {A = List ℕ × StackState} (h.name, h.stack) (name, s) = some_is _ _ (sym h.at ∙ ap (λ m. stack_of_operation m x) same ∙ at) in
        let call : IsOpenCall s l.token = subst (λ (p : List ℕ × StackState). IsOpenCall p.1 l.token) it h.call in
        let now : IsOpenCall (effect_at (x.place + 1) e s).stack l.token =
        stays_on schemas x out l.token flies (x.place + 1) name s e stage (fit name s stands) (way name s stands) (ap (λ m. is_of m e) (sym mine) ∙ own_is n e own) is may leaves call in
        let goes : is_going n (effect_at (x.place + 1) e s).stack ≡ true =
        and_from ((effect_at (x.place + 1) e s).stack.operation == n) _ (eq-eqb _ n (own_operation (x.place + 1) n e own s ∙ sym mine)) (ap is_some now.in_stage) in
        record { name = name; stack = _; at = ap (λ m. stack_of_operation m (world_after x e)) same ∙ at_it x n name s at e own goes; call = now }
    by false k = record { name = h.name; stack = h.stack; at = at_other x n name s at e own apart (own_operation (x.place + 1) n e own s) l.number k ∙ h.at; call = h.call }

  -- an entry of no operation in progress
  idle_leaves : (e : Entry) → is_opening e ≡ false
      → ((name : List ℕ) (s : StackState) → stack_for e x ≡ Some (name, s) → (is_in_progress s.status ≡ false) × (is_going l.number (effect_at (x.place + 1) e s).stack ≡ false))
      → IsOpenLease (world_after x e) l
  idle_leaves e n idle = record { name = h.name; stack = h.stack; at = at_idle x apart e n l.number idle ∙ h.at; call = h.call }

  -- its operation is none that is to begin
  below : l.number ≤ x.operation
  below =
      let stands = found_stands (λ (p : List ℕ × StackState). is_going l.number p.1) x.stacks (h.name, h.stack) apart.names h.at in
      subst (λ n. n ≤ x.operation) (sym (numbered_so schemas x out h.name h.stack l.number h.at)) (apart.last h.name h.stack stands)

  stays_open : (e : Entry) → is_opening e ≡ false → MayFollow schemas x out e → Leaves l.token e → IsOpenLease (world_after x e) l
  stays_open (Entry.Kept n path physical w) new (name, s, stage, at, is, may) leaves = own_leaves n name s at (Entry.Kept n path physical w) refl stage is may leaves
  stays_open (Entry.Intent n token lane path r) new (name, s, stage, at, is, may) leaves = own_leaves n name s at (Entry.Intent n token lane path r) refl stage is may leaves
  stays_open (Entry.Outcome n token a before after) new (name, s, stage, at, is, may) leaves =
      own_leaves n name s at (Entry.Outcome n token a before after) refl stage is may leaves
  stays_open (Entry.Phase n p c) new (name, s, stage, at, is, may) leaves = own_leaves n name s at (Entry.Phase n p c) refl stage is may leaves
  stays_open (Entry.Done n state failed) new (name, s, stage, at, is, may) leaves = own_leaves n name s at (Entry.Done n state failed) refl stage is may leaves
  stays_open (Entry.Begin number name k) new (next, from, by) leaves = idle_leaves (Entry.Begin number name k) refl (λ m s e.
      let its : m ≡ name = sym (beginning_name schemas x out m s number name k e) in
      let known : known_stack name x ≡ s = ap (λ q. known_stack q x) (sym its) ∙ stack_known x apart (Entry.Begin number name k) m s e in
      (begins_idle k s.status (subst (λ (z : StackState). begins_from k z.status ≡ true) known from), begun_other number name k s next))
    where
      begins_idle : (k : Begun) (a : Status) → begins_from k a ≡ true → is_in_progress a ≡ false
      begins_idle k a e = grind arith

      begun_other : (number : ℕ) (name : List ℕ) (k : Begun) (s : StackState) → number ≡ x.operation + 1
          → is_going l.number (effect_at (x.place + 1) (Entry.Begin number name k) s).stack ≡ false
      begun_other number name k s next =
          let u : StackState = (effect_at (x.place + 1) (Entry.Begin number name k) s).stack in
          none_false (is_going l.number u) (λ e.
          let same : u.operation ≡ l.number = eqb-true u.operation l.number (first_so (u.operation == l.number) (is_in_progress u.status) e) in
          let is : u.operation ≡ number = begun_operation (x.place + 1) number name k s in
          let low = below in omega (arith, same, is, low, next))
  stays_open (Entry.ChangeSet number name source rows outputs) new (next, from, by) leaves =
      idle_leaves (Entry.ChangeSet number name source rows outputs) refl (λ m s e.
      let it : known_stack name x ≡ s = some_named m s e in
      let idle : (creates_from s.status || updates_from s.status) ≡ true = subst (λ (z : StackState). (creates_from z.status || updates_from z.status) ≡ true) it from in
      (reviews_idle s.status idle, none_false _ (λ e. true≢false (sym (second_so (s.operation == l.number) _ e) ∙ reviewed_idle s.status idle))))
    where
      some_named : (m : List ℕ) (s : StackState) → stack_for (Entry.ChangeSet number name source rows outputs) x ≡ Some (m, s) → known_stack name x ≡ s
      some_named m s e = ap (λ (p : List ℕ × StackState). p.1) (some_is (name, known_stack name x) (m, s) e)

      reviewed_idle : (a : Status) → (creates_from a || updates_from a) ≡ true → is_in_progress (reviewed a) ≡ false
      reviewed_idle a e = grind arith
  stays_open (Entry.Opened epoch lanes) new may leaves = absurd (true≢false new)

-- a call that is written down is open, and was never in doubt
opened_call : (schemas : List Schema) (name : List ℕ) (x : World) (out : List ℕ) (s : StackState) → Fits x s → (place number token : ℕ) (lane path : List ℕ) (r : Request) (stage : Stage)
    → stage_of s.status ≡ Some stage → MayIntend schemas name x out s stage token lane path r → s.operation ≡ number
    → IsOpenCall (effect_at place (Entry.Intent number token lane path r) s).stack token
opened_call schemas name x out s fits place number token lane path r stage at may own =
    let e : Entry = Entry.Intent number token lane path r in
    let q : Pending = record { token = token; path = path; lane = lane; request = r } in
    let above : x.token < token = let next = may.next in omega (arith, next) in
    let none_called : find (is_call token) s.ledger ≡ None = new_called x s fits token above in
    let none_open : list_any (has_token token) s.tokens ≡ false = new_open x s fits token above in
    let mine : has_token token q ≡ true = eq-eqb token token refl in
    let u : StackState = record s { tokens = s.tokens ++ q ∷ []; ledger = s.ledger ++ new_call number s.status q ∷ [] } in
    let is : intending number q s ≡ u = ap (λ b. cond b s u) none_open in
    let found : pending_of token u ≡ Some q = found_in_more (has_token token) s.tokens q mine (none_if (find (has_token token) s.tokens) (λ p f.
    let k = found_one (has_token token) s.tokens p f in true≢false (sym (any_of (has_token token) s.tokens p k.0 k.1) ∙ none_open))) in
    let row : call_under token u ≡ Some (new_call number s.status q) = found_in_more (is_call token) s.ledger (new_call number s.status q) mine none_called in
    let doubts : doubts_of token u ≡ 0 = ap (λ o. option_map_or (λ (c : Call). c.doubts) o 0) row in
    let named : flat_map named_in (filter (is_of s.operation) (s.entries ++ e ∷ [])) ≡ named_paths s = named_more s.operation s.entries e (eq-eqb s.operation number own) refl in
    subst (λ (z : StackState). IsOpenCall (record z { entries = entries_with e z.entries; events = z.events ++ lines_of place e s }) token) (sym is) (record {
      stage = stage;
      pending = q;
      in_stage = at;
      found = found;
      again = new_again stage s _ q doubts named (λ gone. unretained schemas name x s path r (subst (λ k. IntendsIn k schemas name x s path r) gone may.chosen));
    })
  where
    -- a deletion of the stack deletes nothing at a path that it retains
    unretained : (schemas : List Schema) (name : List ℕ) (x : World) (s : StackState) (path : List ℕ) (r : Request) → IntendsIn Gone schemas name x s path r
        → is_among path (named_paths s) ≡ false
    unretained schemas name x s path (Request.Delete id) (k, may, kept, at, is) =
        ap (λ q. is_among q (named_paths s)) at ∙ second_not (is_retained_or_excepted k.deletion) (is_among k.path (named_paths s)) kept
    unretained schemas name x s path r chosen = absurd chosen

    new_again : (stage : Stage) (s u : StackState) (q : Pending) → doubts_of q.token u ≡ 0 → named_paths u ≡ named_paths s
        → (stage ≡ Gone → is_among q.path (named_paths s) ≡ false) → may_repeat stage [] u q ≡ true
    new_again Gone s u q doubts named unnamed =
        ap (λ n. nat_lt n 3 && not (is_among q.path (named_paths u))) doubts ∙ ap (λ ns. not (is_among q.path ns)) named ∙ ap not (unnamed refl)
    new_again stage s u q doubts named unnamed = ap (λ n. nat_lt n 3) doubts

-- an open call that may be made again
may_be_repeated : (schemas : List Schema) (name : List ℕ) (x : World) (out : List ℕ) (s : StackState) (stage : Stage) (p : Pending) → MayRepeat schemas name x out s stage p
    → In p s.tokens × (may_repeat stage [] s p ≡ true)
may_be_repeated schemas name x out s stage p may = grind (arith, second_so)

-- an answer leaves the calls of other tokens
settles_it : (lease : Lease) (r : CallEnd) (e : Entry) → IsOutcomeOf lease r e → (token : ℕ) → (lease.token == token) ≡ false → Leaves token e
settles_it lease r e is token other = grind arith

same_lease : (token : ℕ) (reply : CallEnd) (l : Lease) → ((lease_replying token reply l).number ≡ l.number) × ((lease_replying token reply l).token ≡ l.token)
same_lease token reply l = grind arith

-- The events of a life.
abbrev AllOpen : World → List Lease → Type 0
AllOpen x leases = (l : Lease) → In l leases → IsOpenLease x l

module _ (schemas : List Schema) (life : Life) (h : IsSoundLife schemas life)
    (way : (name : List ℕ) (s : StackState) → stack_at name (world_of life) ≡ Some s → IsOnWay schemas name (world_of life) s) (opens : LeasesOpen life) where
  abbrev x : World
  x = world_of life

  -- one more entry, with these leases of those that were out
  after : (e : Entry) → is_opening e ≡ false → MayFollow schemas x (tokens_out life) e → (leases : List Lease)
      → ((l : Lease) → In l leases → In l life.leases × Leaves l.token e) → (end : End) (m : Life) → m.entries ≡ life.entries → AllOpen (world_of (appended end e m)) leases
  after e new may leases less end m same = by end
    where
      still : AllOpen x leases
      still l i = opens l (less l i).0

      more : AllOpen (fold_of empty_world (life.entries ++ e ∷ [])) leases
      more = subst (λ z. AllOpen z leases) (folded_more empty_world life.entries e) (λ l i.
          let k = less l i in
          stays_open schemas x (tokens_out life) h.orderly.apart h.fitted way l (out_flies life.leases l k.0) (opens l k.0) e new may k.1)

      by : (end : End) → AllOpen (world_of (appended end e m)) leases
      by Whole = subst (λ es. AllOpen (fold_of empty_world (es ++ e ∷ [])) leases) (sym same) more
      by BrokenWith = subst (λ es. AllOpen (fold_of empty_world (es ++ e ∷ [])) leases) (sym same) more
      by BrokenWithout = subst (λ es. AllOpen (fold_of empty_world es) leases) (sym same) still

  -- with all of them
  after_all : (e : Entry) → is_opening e ≡ false → MayFollow schemas x (tokens_out life) e → ((token : ℕ) → Leaves token e) → (end : End) → LeasesOpen (appended end e life)
  after_all e new may leaves end =
      subst (λ ls. AllOpen (world_of (appended end e life)) ls) (sym (appended_same end e life).0) (after e new may life.leases (λ l i. (i, leaves l.token)) end life refl)

  -- the same leases, but for what they came to, and the same entries
  same_calls : (f : Lease → Lease) → ((l : Lease) → (f l).number ≡ l.number) → ((l : Lease) → (f l).token ≡ l.token) → AllOpen x (map f life.leases)
  same_calls f number token l i =
      let (k, j, e) = map_in f l life.leases i in
      let o = opens k j in
      subst (IsOpenLease x) e (record {
        name = o.name;
        stack = o.stack;
        at = ap (λ n. stack_of_operation n x) (number k) ∙ o.at;
        call = subst (IsOpenCall o.stack) (sym (token k)) o.call;
      })

  -- a call that goes out as it is written down
  granted_open : (number token : ℕ) (lane path : List ℕ) (r : Request) → MayFollow schemas x (tokens_out life) (Entry.Intent number token lane path r)
      → IsOpenLease (world_after x (Entry.Intent number token lane path r)) (record { number = number; token = token; lane = lane; request = r; reply = None })
  granted_open number token lane path r (name, s, stage, at, is, may) =
      let e : Entry = Entry.Intent number token lane path r in
      let stands = found_stands (λ (p : List ℕ × StackState). is_going number p.1) x.stacks (name, s) h.orderly.apart.names at in
      let call = opened_call schemas name x (tokens_out life) s (h.fitted name s stands) (x.place + 1) number token lane path r stage is may
      (sym (numbered_so schemas x (tokens_out life) name s number at)) in
      record {
        name = name;
        stack = (effect_at (x.place + 1) e s).stack;
        at = at_it x number name s at e refl (and_from _ _ (eq-eqb _ number (own_operation (x.place + 1) number e refl s ∙ sym (numbered_so schemas x (tokens_out life) name s number at)))
            (ap is_some call.in_stage));
        call = call;
      }

  open_after : (event : Event) → Happens schemas life event → LeasesOpen (life_after life event)
  open_after (Opened epoch lanes Whole) may = λ l i. elim i [ ]
  open_after (Opened epoch lanes BrokenWith) may = λ l i. elim i [ ]
  open_after (Opened epoch lanes BrokenWithout) may = λ l i. elim i [ ]
  open_after (ChangeSet (Entry.ChangeSet number name source rows outputs) end) (closed, is, may) =
      after_all (Entry.ChangeSet number name source rows outputs) refl may (λ t. tt) end
  open_after (ChangeSet e end) may = absurd may.1
  open_after (Begin (Entry.Begin number name k) end) (running, raised, is, may) = after_all (Entry.Begin number name k) refl may (λ t. tt) end
  open_after (Begin e end) may = absurd may.2
  open_after (Grant (Entry.Intent number token lane path r) Whole) (running, is, may) =
      let e : Entry = Entry.Intent number token lane path r in
      in_more (IsOpenLease (world_of (appended Whole e life))) (record { number = number; token = token; lane = lane; request = r; reply = None }) life.leases
      (after e refl may life.leases (λ l i. (i, tt)) Whole life refl)
      (subst (λ z. IsOpenLease z (record { number = number; token = token; lane = lane; request = r; reply = None })) (folded_more empty_world life.entries e) (granted_open number token lane path r may))
  open_after (Grant (Entry.Intent number token lane path r) BrokenWith) (running, is, may) = after_all (Entry.Intent number token lane path r) refl may (λ t. tt) BrokenWith
  open_after (Grant (Entry.Intent number token lane path r) BrokenWithout) (running, is, may) = opens
  open_after (Grant (Entry.Kept number path physical w) Whole) (running, is, may) = after_all (Entry.Kept number path physical w) refl may (λ t. tt) Whole
  open_after (Grant (Entry.Kept number path physical w) end) (running, is, may) = after_all (Entry.Kept number path physical w) refl may (λ t. tt) end
  open_after (Grant (Entry.Phase number p c) Whole) (running, is, may) = after_all (Entry.Phase number p c) refl may (λ t. tt) Whole
  open_after (Grant (Entry.Phase number p c) end) (running, is, may) = after_all (Entry.Phase number p c) refl may (λ t. tt) end
  open_after (Grant (Entry.Done number state failed) Whole) (running, is, may) = after_all (Entry.Done number state failed) refl may (λ t. tt) Whole
  open_after (Grant (Entry.Done number state failed) end) (running, is, may) = after_all (Entry.Done number state failed) refl may (λ t. tt) end
  open_after (Grant e end) may = absurd may.1
  open_after (Repeat token) (running, name, s, stage, p, m) =
      let again = may_be_repeated schemas name x (tokens_out life) s stage p m.may in
      let (q, f) = is_found_in (has_token token) s.tokens p again.0 (eq-eqb token p.token (sym m.of_token)) in
      let fits = h.fitted name s m.stands in
      let same : q ≡ p = one_number (λ (k : Pending). k.token) s.tokens fits.tokens q p (found_one (has_token token) s.tokens q f).0 again.0 (sym (token_of token s.tokens q f) ∙ sym m.of_token) in
      let lease : IsOpenLease x (lease_for s.operation q) = record {
        name = name;
        stack = s;
        at = found_going schemas life.entries h.orderly.apart h.legal name s m.stands (ap is_some m.at_stage);
        call = record {
          stage = stage;
          pending = q;
          in_stage = m.at_stage;
          found = ap (λ t. find (has_token t) s.tokens) (sym (token_of token s.tokens q f)) ∙ f;
          again = subst (λ k. may_repeat stage [] s k ≡ true) (sym same) again.1;
        };
      } in
      subst (λ o. LeasesOpen (repeated o life)) (sym (again_is x name s (stands_on x name s h.orderly.own m.stands) token q f))
      (in_more (IsOpenLease x) (lease_for s.operation q) life.leases opens lease)
  open_after (Settle token e end) (running, lease, r, found, replied, is, may) =
      let left : List Lease = filter (λ (l : Lease). not (token == l.token)) life.leases in
      subst (λ ls. AllOpen (world_of (appended end e life)) (filter (λ (l : Lease). not (token == l.token)) ls)) (sym (appended_same end e life).0)
      (after e (outcome_new lease r e is) may left (λ l i.
      let f = in_filter (λ (k : Lease). not (token == k.token)) life.leases l i in
      (f.0, settles_it lease r e is l.token (ap (λ t. t == l.token) (sym (eqb-true token lease.token (found_one (λ (k : Lease). token == k.token) life.leases lease found).1)) ∙ not_so _ f.1))) end life refl)
  open_after (Park token) may = λ l i. opens l (in_filter (λ (k : Lease). not (token == k.token)) life.leases l i).0
  open_after (Raise name a true before counted) may = opens
  open_after (Raise name a false before counted) may = opens
  open_after (Act token reply left) may = by (lease_at token life)
    where
      by : (o : Option Lease) → LeasesOpen (replied_to token reply (lane_acted left o life))
      by None = same_calls (lease_replying token reply) (λ l. (same_lease token reply l).0) (λ l. (same_lease token reply l).1)
      by (Some k) = same_calls (lease_replying token reply) (λ l. (same_lease token reply l).0) (λ l. (same_lease token reply l).1)
  open_after (Late name place s) may = opens
  open_after Close may = opens
  open_after Crash may = λ l i. elim i [ ]

pub leases_stay_open : LeasesStayOpen
leases_stay_open schemas life event may h way opens = open_after schemas life h way opens event may
