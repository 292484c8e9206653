-- What holds at each moment of a life is kept by every event.
use Rattle.std.proofs.Common.{arith, ◌≡◌, ℕ, List, [], ◌∷◌, ◌++◌, Bool, true, false, ◌&&◌, Option, Some, None, map, option_map, is_some, refl, ap, ◌∙◌, ◌+◌, ◌==◌, ◌||◌, find, sym, subst, true≢false, unwrap_or, not, filter}
use Rattle.cf_core.proofs.Words.{Act, Agrees, AgreesIn, AllFit, Appends, AreApart, AreLanes, AreSchemas, AreSound, AreSteady, AreWritten, Begin, BrokenWith, BrokenWithout, Call, CallEnd, Cause, ChangeSet, Crash, End, Entry, Event, EventKeeps, EventWrites, FencedLane, Fits, Grant, HaveOrigins, In, IsGoing, IsLegal, IsNew, IsOfItsLane, IsOrderly, IsOutcomeOf, IsRowOf, IsSound, IsSoundLife, IsSteady, Lane, Late, Lease, Life, MayFollow, Happens, Opened, Park, Pending, Phase, Raise, Repeat, Reply, Request, Schema, Settle, StackState, StartIsSoundLife, Status, Whole, Why, World, account_of, lane_acted, appended, begins_from, bytes_eq, call_under as call_of, calls_in_flight, changed, creates_from, effect_at, empty_world, fold_of, found, granted as granted_by, has_token, here, is_call, is_empty, is_going, is_in_flight, is_in_progress, is_opening, known_stack, lanes_of, late_by, lease_at, lease_for, lease_of, life_after, list_all, no_stack, own, raised_to, repeated, replied, replied_to, set, settled, stack_at, stack_for, there, tokens_out, updates_from, value_at, world_after, world_of}
use Rattle.cf_core.proofs.Lemmas.{map_in, answered_left, any_of, bytes_eq-Decides, eq-eqb, eqb-true, find_mapped, found_one, found_stands, found_still, in_end, in_filter, in_kept, in_more, in_none, into_mapped, is_found_in, keys_mapped, put_here}
use Rattle.cf_core.proofs.FitKept.{IsSameCall, after_stacks, each_is_written, fits_kept, intends_named, known_fits, known_steady, none_open, same_where, stack_known, at_name, of_it, of_another}
use Rattle.cf_core.proofs.Settling.{NamesOwn, intent_keeps_in, lanes_keep, may_again, opened_keeps, repeat_keeps, settle_keeps, start_agrees, kept_name, kept_kind, again_is}
use Rattle.cf_core.proofs.BeginEvents.{Holds, begun_holds, done_holds, held_one, kept_holds, phase_holds, set_holds, names_same, origins_kept, settled_new, written_kept}
use Rattle.cf_core.proofs.Statuses.{intended_way, kept_way, replied_status, turned_goes, turned_status}
use Rattle.cf_stacks.proofs.Folded.{folded_more}
use Rattle.cf_core.proofs.Stacks.{put_by, Sends, is_working, sends, stands_on}
use Rattle.cf_core.proofs.Moving.{beginning_name, in_stage, numbered_so}
use Rattle.cf_core.specs.SoundLife.{opened, begun, granted}
use Rattle.cf_plan.specs.Life.{lease_replying}
use Rattle.std.specs.{Bool.IsTrue, Prelude.cond}

-- One more entry of a journal, and lanes that change: what stays told of them.

pub legal_with : (schemas : List Schema) (x : World) (es : List Entry) (e : Entry) (out : List ℕ) → IsLegal schemas x es → MayFollow schemas (fold_of x es) out e → IsLegal schemas x (es ++ e ∷ [])
legal_with schemas x [] e out l m = ((out, m), tt)
legal_with schemas x (d ∷ es) e out l m = (l.0, legal_with schemas (world_after x d) es e out l.1 m)

-- a lane that changes keeps its name and its type
module _ (n : List ℕ) (f : FencedLane → FencedLane) where
  all_kept : (test : Lane → Bool) → ((l : Lane) → test (changed n f l) ≡ test l) → (ls : List Lane) → list_all test (map (changed n f) ls) ≡ list_all test ls
  all_kept test h [] = refl
  all_kept test h (l ∷ ls) = ap (λ b. b && list_all test (map (changed n f) ls)) (h l) ∙ ap (λ b. test l && b) (all_kept test h ls)

  pub lanes_named : (ls : List Lane) → AreLanes ls → AreLanes (map (changed n f) ls)
  lanes_named ls h = grind (arith, all_kept, kept_name, keys_mapped, h.named, h.names_differ)

  pub lanes_described : (schemas : List Schema) (ls : List Lane) → AreSchemas schemas ls → AreSchemas schemas (map (changed n f) ls)
  lanes_described schemas ls h = grind (arith, all_kept, kept_kind, h.kinds_differ, h.described)

  pub kinds_kept : (ls : List Lane) (m : List ℕ) → (lanes_of (map (changed n f) ls)).kind m ≡ (lanes_of ls).kind m
  kinds_kept ls m = grind (arith, option_map, find_mapped, kept_name, kept_kind)

-- A call that is out has its row in the ledger of a stack whose operation is in progress: each entry keeps that.

pub reviews_idle : (s : Status) → (creates_from s || updates_from s) ≡ true → is_in_progress s ≡ false
reviews_idle s h = grind arith

-- a call keeps its row, and its stack its operation in progress
pub record KeepsCall (t : ℕ) (c : Call) (s s' : StackState) : Type 0 where
  pub working : is_in_progress s'.status ≡ true
  pub operation : s'.operation ≡ s.operation
  pub call : Call
  pub found : call_of t s' ≡ Some call
  pub lane : call.lane ≡ c.lane

module _ (t : ℕ) (c : Call) (s : StackState) (working : is_in_progress s.status ≡ true) (row : call_of t s ≡ Some c) where
  same_row : (s' : StackState) → s'.status ≡ s.status → s'.operation ≡ s.operation → s'.ledger ≡ s.ledger → KeepsCall t c s s'
  same_row s' state op ledger = record { working = ap is_in_progress state ∙ working; operation = op; call = c; found = ap (find (is_call t)) ledger ∙ row; lane = refl }

  changed_row : (s' : StackState) (f : Call → Call) → ((d : Call) → IsSameCall d (f d)) → is_in_progress s'.status ≡ true → s'.operation ≡ s.operation → s'.ledger ≡ map f s.ledger → KeepsCall t c s s'
  changed_row s' f is state op ledger = record {
    working = state;
    operation = op;
    call = f c;
    found = ap (find (is_call t)) ledger ∙ find_mapped (is_call t) f s.ledger (λ d. ap (λ u. t == u) (is d).token) ∙ ap (option_map f) row;
    lane = (is c).lane;
  }

  heard_row : (u : StackState) (es : List Entry) (lines : List (List ℕ)) → KeepsCall t c s u → KeepsCall t c s (record u { entries = es; events = lines })
  heard_row u es lines k = record { working = k.working; operation = k.operation; call = k.call; found = k.found; lane = k.lane }

  kept_row : (place number : ℕ) (path id : List ℕ) (w : Why) → KeepsCall t c s (effect_at place (Entry.Kept number path id w) s).stack
  kept_row place number path id w = grind (arith, heard_row, kept_way, same_row)

  intended_row : (place number token : ℕ) (lane path : List ℕ) (r : Request) → KeepsCall t c s (effect_at place (Entry.Intent number token lane path r) s).stack
  intended_row place number token lane path r = grind (arith, heard_row, intended_way, same_row, found_still)

  answered_row : (place number token : ℕ) (a : Reply) (before after : ℕ) → KeepsCall t c s (effect_at place (Entry.Outcome number token a before after) s).stack
  answered_row place number token a before after = grind (arith, same_row, answered_left, changed_row, same_where, replied_status)

  turned_row : (place number : ℕ) (p : Phase) (cause : Option Cause) → KeepsCall t c s (effect_at place (Entry.Phase number p cause) s).stack
  turned_row place number p cause = grind (arith, changed_row, turned_status, turned_goes)

module _ (schemas : List Schema) (x : World) (out : List ℕ) (apart : AreApart x) where
  -- a call that is out keeps its row
  keeps_row : (e : Entry) (name : List ℕ) (s : StackState) → stack_for e x ≡ Some (name, s) → MayFollow schemas x out e → (t : ℕ) → is_in_flight out t ≡ true → (c : Call) → is_in_progress s.status ≡ true → call_of t s ≡ Some c
      → KeepsCall t c s (effect_at (x.place + 1) e s).stack
  keeps_row (Entry.Begin number n k) name s mine may t flies c working row =
      let known : known_stack n x ≡ s = ap (λ m. known_stack m x) (beginning_name schemas x out name s number n k mine) ∙ stack_known x apart (Entry.Begin number n k) name s mine in
      absurd (true≢false (sym working ∙ (grind (arith, subst (λ (z : StackState). IsTrue (begins_from k z.status)) known may.1))))
  keeps_row (Entry.Done number state failed) name s mine may t flies c working row =
      let (stage, is, m) = in_stage schemas x out name s (Entry.Done number state failed) number mine may in
      let (i, passed) = found_one (is_call t) s.ledger c row in
      let flying : is_in_flight out c.token ≡ true = ap (is_in_flight out) (sym (eqb-true t c.token passed)) ∙ flies in
      absurd (some_out (calls_in_flight out s) (in_kept (λ (d : Call). is_in_flight out d.token) s.ledger c i flying) m.0)
    where
      some_out : (cs : List Call) → In c cs → is_empty cs ≡ true → ⊥
      some_out [] i h = elim i [ ]
      some_out (d ∷ cs) i h = true≢false (sym h)
  keeps_row v0 name s mine may t flies c working row = grind (arith, reviews_idle, kept_row, intended_row, answered_row, turned_row)

  pub stays_going : (e : Entry) → is_opening e ≡ false → MayFollow schemas x out e → (l : Lease) → is_in_flight out l.token ≡ true → IsGoing x l → IsGoing (world_after x e) l
  stays_going e n may l flies g = elim (at_name x e g.name n) [
    | of_it s mine now ↦
        let is : s ≡ g.stack = sym (stack_known x apart e g.name s mine) ∙ ap (λ (o : Option StackState). unwrap_or o no_stack) g.stands in
        let c = keeps_row e g.name g.stack (mine ∙ ap (λ (z : StackState). Some (g.name, z)) is) may l.token flies g.call g.in_progress g.written in
        let stands : stack_at g.name (world_after x e) ≡ Some (effect_at (x.place + 1) e g.stack).stack = now ∙ ap (λ (z : StackState). Some (effect_at (x.place + 1) e z).stack) is in
        record { name = g.name; stack = _; call = c.call; stands = stands; in_progress = c.working; number = c.operation ∙ g.number; written = c.found; lane = c.lane ∙ g.lane }
    | of_another never now ↦
        record { name = g.name; stack = g.stack; call = g.call; stands = now ∙ g.stands; in_progress = g.in_progress; number = g.number; written = g.written; lane = g.lane }
  ]

-- a stack that stands is one of all
pub stands_in : (name : List ℕ) (s : StackState) (ss : List (List ℕ × StackState)) → value_at name ss ≡ Some s → In (name, s) ss
stands_in name s [] e = absurd (cc)
stands_in name s (q ∷ ss) e = by (bytes_eq name q.0) refl e (stands_in name s ss) where
  by : (b : Bool) → bytes_eq name q.0 ≡ b → cond b (Some q.1) (value_at name ss) ≡ Some s → (value_at name ss ≡ Some s → In (name, s) ss) → In (name, s) (q ∷ ss)
  by true k g ih = let mine : q.1 ≡ s = cc in let is = (bytes_eq-Decides name q.0).0 k in subst (λ z. In z (q ∷ ss)) (λ i. (sym is i, mine i)) here
  by false k g ih = there (ih g)

-- a call that is made again
pub repeat_going : (x : World) → AllFit x → (name : List ℕ) (s : StackState) (p : Pending) → stack_at name x ≡ Some s → is_in_progress s.status ≡ true → In p s.tokens → IsGoing x (lease_for s.operation p)
repeat_going x fit name s p stands working i =
    let (c, f, r) = (fit name s stands).rows p i in
    record { name = name; stack = s; call = c; stands = stands; in_progress = working; number = refl; written = f; lane = r.lane }

-- a call that goes out as it is written down
pub intent_going : (schemas : List Schema) (x : World) (out : List ℕ) → AreApart x → (number token : ℕ) (lane path : List ℕ) (r : Request) → MayFollow schemas x out (Entry.Intent number token lane path r) → AllFit x
    → AllFit (world_after x (Entry.Intent number token lane path r)) → IsGoing (world_after x (Entry.Intent number token lane path r)) (record { number = number; token = token; lane = lane; request = r; reply = None })
intent_going schemas x out apart number token lane path r (name, s, stage, at, is, may) fit fits =
    let p : Pending = record { token = token; path = path; lane = lane; request = r } in
    let s' : StackState = (effect_at (x.place + 1) (Entry.Intent number token lane path r) s).stack in
    let sent : Sends p s s' = sends (x.place + 1) number p s (none (find (has_token token) s.tokens) refl) in
    let there_after : stack_at name (world_after x (Entry.Intent number token lane path r)) ≡ Some s' =
    ap (value_at name) (after_stacks x (Entry.Intent number token lane path r) refl) ∙ ap (λ o. value_at name (put_by x (Entry.Intent number token lane path r) o)) at
    ∙ put_here name (effect_at (x.place + 1) (Entry.Intent number token lane path r) s).stack x.stacks in
    let row : (c : Call) × (call_of token s' ≡ Some c) × IsRowOf p c = (fits name s' there_after).rows p (subst (In p) (sym sent.tokens) (in_end p s.tokens)) in
    let done : IsGoing (world_after x (Entry.Intent number token lane path r)) (record { number = number; token = token; lane = lane; request = r; reply = None }) = record {
      name = name;
      stack = s';
      call = row.0;
      stands = there_after;
      in_progress = ap is_in_progress sent.status ∙ is_working number x name s at;
      number = intended_way (λ (u : StackState). u.operation ≡ s.operation) s refl number p refl ∙ sym (numbered_so schemas x out name s number at);
      written = row.1;
      lane = (row.2).lane;
    } in
    done
  where
    stands : stack_at name x ≡ Some s
    stands = found_stands (λ (q : List ℕ × StackState). is_going number q.1) x.stacks (name, s) apart.names at

    none : (o : Option Pending) → find (has_token token) s.tokens ≡ o → o ≡ None
    none None k = refl
    none (Some q) k = let (i, m) = found_one (has_token token) s.tokens q k in absurd (none_open x x s s (fit name s stands) token may.next q i (eqb-true token q.token m))

-- the calls that are out are among those that count as out
pub out_flies : (leases : List Lease) (l : Lease) → In l leases → is_in_flight (map (λ (z : Lease). z.token) leases) l.token ≡ true
out_flies leases l i = any_of (λ t. l.token == t) (map (λ (z : Lease). z.token) leases) l.token (into_mapped (λ (z : Lease). z.token) leases l i) (eq-eqb l.token l.token refl)

-- an answer is no opening
pub outcome_new : (lease : Lease) (r : CallEnd) (e : Entry) → IsOutcomeOf lease r e → is_opening e ≡ false
outcome_new lease r e is = grind arith

module _ (schemas : List Schema) (life : Life) (steady : AreSteady (world_of life)) (h : IsSoundLife schemas life) where
  abbrev x : World
  x = fold_of empty_world life.entries

  abbrev es : List Entry
  es = life.entries

  sound : IsSound life
  sound = record { agrees = h.agrees; orderly = h.orderly }

  none_going : (y : World) (l : Lease) → In l [] → IsGoing y l
  none_going y l i = elim i [ ]

  -- one more entry
  abbrev IsMore : Entry → List Lease → World → Type 0
  IsMore e leases z = Agrees (account_of (es ++ e ∷ []) z) (lanes_of life.lanes) (map lease_of leases) × IsOrderly z

  entry_sound : (out : List ℕ) (e : Entry) → MayFollow schemas x out e → IsNew x e × IsOfItsLane x e → (leases : List Lease)
      → IsMore e leases (fold_of empty_world (es ++ e ∷ [])) → ((l : Lease) → In l leases → IsGoing (world_after x e) l)
      → AreSound schemas (es ++ e ∷ []) (fold_of empty_world (es ++ e ∷ [])) life.lanes leases
  entry_sound out e may (new, of_lane) leases more going =
      subst (λ z. IsMore e leases z → AreSound schemas (es ++ e ∷ []) z life.lanes leases) (folded_more empty_world es e) (λ m. record {
        agrees = m.0;
        orderly = m.1;
        fitted = fits_kept schemas x out e may new of_lane (h.orderly).apart steady h.fitted;
        written = written_kept schemas es x life.lanes out e may (h.orderly).apart (h.orderly).own steady ((h.agrees).tied).books h.origins h.written;
        origins = origins_kept schemas es x life.lanes out e may (h.orderly).apart (h.orderly).own steady ((h.agrees).tied).books h.origins ((h.agrees).tied).ties;
        going = going;
        legal = legal_with schemas empty_world es e out h.legal may;
        named = h.named;
        described = h.described;
      }) more

  -- the calls that are out keep their rows
  still_going : (e : Entry) → is_opening e ≡ false → MayFollow schemas x (tokens_out life) e → (l : Lease) → In l life.leases → IsGoing (world_after x e) l
  still_going e n may l i = stays_going schemas x (tokens_out life) (h.orderly).apart e n may l (out_flies life.leases l i) (h.going l i)

  -- lanes change, or leases
  lanes_sound : (lanes : List Lane) (leases : List Lease) → Agrees (account_of es x) (lanes_of lanes) (map lease_of leases)
      → ((m : List ℕ) → (lanes_of lanes).kind m ≡ (lanes_of life.lanes).kind m) → AreLanes lanes → AreSchemas schemas lanes
      → ((l : Lease) → In l leases → IsGoing x l) → AreSound schemas es x lanes leases
  lanes_sound lanes leases agrees kinds named described going =
      let origins : HaveOrigins es x lanes
      = record { made = h.origins.made; named = h.origins.named; there = λ t c e. let (k, f) = h.origins.there t c e in (k, kinds c.lane ∙ f) } in
      assumption (agrees, origins, going, named, described, h)

  fewer_sound : (leases : List Lease) → Agrees (account_of es x) (lanes_of life.lanes) (map lease_of leases) → ((l : Lease) → In l leases → IsGoing x l)
      → AreSound schemas es x life.lanes leases
  fewer_sound leases agrees going = lanes_sound life.lanes leases agrees (λ m. refl) h.named h.described going

  -- an entry that hands out nothing, whole or broken
  plain_sound : (e : Entry) → is_opening e ≡ false → MayFollow schemas x (tokens_out life) e → IsNew x e × IsOfItsLane x e → Holds es x life.lanes life.leases e
      → (end : End) → IsSoundLife schemas (appended end e life)
  plain_sound e n may new g end = grind (arith, entry_sound, folded_more, still_going)

  -- what a call names is held by its stack, at its path
  names_own : (number token : ℕ) (lane path : List ℕ) (r : Request) → MayFollow schemas x (tokens_out life) (Entry.Intent number token lane path r) → NamesOwn x number path r
  names_own number token lane path r may name s i going n =
      let (stage, is, m) = in_stage schemas x (tokens_out life) name s (Entry.Intent number token lane path r) number going may in
      let known = stack_known x (h.orderly).apart (Entry.Intent number token lane path r) name s going in
      let fit : Fits x s = subst (Fits x) known (known_fits x h.fitted name) in
      let (g, j, f, k) = intends_named stage schemas name x s path r i (subst IsSteady known (known_steady x steady name)) m.chosen (names_same r ∙ n) in
      (g, held_one i s g fit.ids j f, k)

  -- an entry of the operation that tells no call
  granted_sound : (e : Entry) → is_opening e ≡ false → granted_by Whole e (appended Whole e life) ≡ appended Whole e life
      → MayFollow schemas x (tokens_out life) e
      → IsNew x e × IsOfItsLane x e → Holds es x life.lanes life.leases e → (end : End)
      → IsSoundLife schemas (life_after life (Grant e end))
  granted_sound e n whole may new g end = subst (IsSoundLife schemas) (sym (same end)) (plain_sound e n may new g end) where
    same : (end : End) → life_after life (Grant e end) ≡ appended end e life
    same end = grind arith

  -- a lease that comes back
  back_in : (token : ℕ) (l : Lease) → In l (filter (λ (z : Lease). not (token == z.token)) life.leases) → In l life.leases
  back_in token l i = (in_filter (λ (z : Lease). not (token == z.token)) life.leases l i).0

  -- a lane that changes
  changed_sound : (n : List ℕ) (f : FencedLane → FencedLane) (leases : List Lease)
      → Agrees (account_of es x) (lanes_of (map (changed n f) life.lanes)) (map lease_of leases)
      → ((l : Lease) → In l leases → IsGoing x l) → AreSound schemas es x (map (changed n f) life.lanes) leases
  changed_sound n f leases agrees going = grind (arith, lanes_sound, kinds_kept, lanes_named, lanes_described, h.named, h.described)

  event_sound : (e : Event) → Happens schemas life e → IsSoundLife schemas (life_after life e)
  event_sound (Opened epoch lanes BrokenWithout) may =
      fewer_sound [] (opened_keeps schemas life epoch lanes BrokenWithout may sound).agrees (none_going x)
  event_sound (Opened epoch lanes end) may =
      let g = opened_keeps schemas life epoch lanes end may sound in
      entry_sound [] (Entry.Opened epoch lanes) may.1 (tt, tt) [] (g.agrees, g.orderly)
      (none_going (world_after x (Entry.Opened epoch lanes)))
  event_sound (ChangeSet (Entry.ChangeSet number n source rows outputs) end) (closed, is, may) =
      plain_sound (Entry.ChangeSet number n source rows outputs) refl may (tt, tt)
      (set_holds schemas es x life.lanes life.leases h steady [] number n source rows outputs may) end
  event_sound (ChangeSet e end) may = absurd may.1
  event_sound (Begin (Entry.Begin number n k) end) (running, raised, is, may) =
      plain_sound (Entry.Begin number n k) refl may (tt, tt)
      (begun_holds schemas es x life.lanes life.leases h steady (tokens_out life) number n k may raised) end
  event_sound (Begin e end) may = absurd may.2
  event_sound (Grant (Entry.Intent number token lane path r) end) (running, is, may) =
      let e : Entry = Entry.Intent number token lane path r in
      let going = still_going e refl may in
      let fits : AllFit (world_after x e) = fits_kept schemas x (tokens_out life) e may tt tt (h.orderly).apart steady h.fitted in
      let keeps = λ (d : End). intent_keeps_in schemas life number token lane path r d (names_own number token lane path r may) (running, is, may) sound in
      elim end as (λ d. IsSoundLife schemas (life_after life (Grant (Entry.Intent number token lane path r) d))) [
        | Whole ↦ entry_sound (tokens_out life) e may (tt, tt) _ ((keeps Whole).agrees, (keeps Whole).orderly)
            (in_more (IsGoing (world_after x e)) _ life.leases going (intent_going schemas x (tokens_out life) (h.orderly).apart number token lane path r may h.fitted fits))
        | BrokenWith ↦ entry_sound (tokens_out life) e may (tt, tt) life.leases ((keeps BrokenWith).agrees, (keeps BrokenWith).orderly) going
        | BrokenWithout ↦ h
      ]
  event_sound (Grant (Entry.Kept number path physical w) end) (running, is, may) =
      granted_sound (Entry.Kept number path physical w) refl refl may (tt, tt)
      (kept_holds schemas es x life.lanes life.leases h steady (tokens_out life) number path physical w may) end
  event_sound (Grant (Entry.Phase number p c) end) (running, is, may) =
      granted_sound (Entry.Phase number p c) refl refl may (tt, tt)
      (phase_holds schemas es x life.lanes life.leases h steady (tokens_out life) number p c may) end
  event_sound (Grant (Entry.Done number state failed) end) (running, is, may) =
      granted_sound (Entry.Done number state failed) refl refl may (tt, tt)
      (done_holds schemas es x life.lanes life.leases h steady (tokens_out life) number state failed may) end
  event_sound (Grant e end) may = absurd may.1
  -- a call that is made again
  event_sound (Repeat token) (running, name, s, stage, p, m) =
      let (q, f) = is_found_in (has_token token) s.tokens p (may_again schemas name x (tokens_out life) s stage p m.may).0
      (eq-eqb token p.token (sym m.of_token)) in
      let going = repeat_going x h.fitted name s q m.stands (ap is_some m.at_stage) (found_one (has_token token) s.tokens q f).0 in
      subst (λ o. AgreesIn (repeated o life) → IsSoundLife schemas (repeated o life))
      (sym (again_is x name s (stands_on x name s (h.orderly).own m.stands) token q f))
      (λ g. fewer_sound (life.leases ++ lease_for s.operation q ∷ []) g
      (in_more (IsGoing x) (lease_for s.operation q) life.leases h.going going))
      (repeat_keeps schemas life token (running, name, s, stage, p, m) sound).agrees
  event_sound (Settle token e end) (running, lease, r, found, replied, is, may) =
      let out : In lease life.leases = (found_one (λ (l : Lease). token == l.token) life.leases lease found).0 in
      let going : (l : Lease) → In l (filter (λ (z : Lease). not (token == z.token)) life.leases) → IsGoing (world_after x e) l =
      λ l i. still_going e (outcome_new lease r e is) may l (back_in token l i) in
      let new = settled_new schemas es x life.lanes life.leases h lease out e r replied is in
      let keeps = λ (d : End). settle_keeps schemas life token e d (running, lease, r, found, replied, is, may) sound in
      elim end as (λ d. IsSoundLife schemas (life_after life (Settle token e d))) [
        | BrokenWithout ↦ fewer_sound _ (keeps BrokenWithout).agrees (λ l i. h.going l (back_in token l i))
        | d ↦ entry_sound (tokens_out life) e may new _ ((keeps d).agrees, (keeps d).orderly) going
      ]
  event_sound (Park token) may = fewer_sound _ (lanes_keep schemas life (Park token) tt may h.agrees) (λ l i. h.going l (back_in token l i))
  event_sound (Raise n a true before counted) may =
      changed_sound n (λ l. raised_to l x.epoch) life.leases
      (lanes_keep schemas life (Raise n a true before counted) tt may h.agrees) h.going
  event_sound (Act token r left) may = by (lease_at token life) (lanes_keep schemas life (Act token r left) tt may h.agrees) where
    going : (l : Lease) → In l (map (lease_replying token r) life.leases) → IsGoing x l
    going l i = let (k, j, e) = map_in (lease_replying token r) l life.leases i in subst (IsGoing x) e (grind (arith, h.going k j))

    by : (o : Option Lease) → AgreesIn (replied_to token r (lane_acted left o life)) → IsSoundLife schemas (replied_to token r (lane_acted left o life))
    by v0 g = grind (arith, fewer_sound, going, changed_sound)
  event_sound (Late n place s) may = changed_sound n (late_by place s) life.leases (lanes_keep schemas life (Late n place s) tt may h.agrees) h.going
  event_sound Crash may = fewer_sound [] (lanes_keep schemas life Crash tt may h.agrees) (none_going x)
  event_sound _ may = h

  -- what an event appends makes nothing that is not new
  appended_new : (ev : Event) (e : Entry) (out : List ℕ) → Appends life ev e out → Happens schemas life ev → MayFollow schemas x out e × (IsNew x e × IsOfItsLane x e)
  appended_new _ _ _ opened may = (may.1, (tt, tt))
  appended_new _ e _ set may = (may.2, grind arith)
  appended_new _ e _ begun may = (may.3, grind arith)
  appended_new _ e _ granted may = (may.2, grind arith)
  appended_new _ e _ settled (running, lease, r, found, replied, is, may) =
      (may, settled_new schemas es x life.lanes life.leases h lease (found_one _ life.leases lease found).0 e r replied is)

pub event_keeps : EventKeeps
event_keeps schemas life e may steady h = event_sound schemas life steady h e may

pub event_writes : EventWrites
event_writes schemas life ev e out of may steady h name t g =
    let (follows, (new, lane)) = appended_new schemas life steady h ev e out of may in
    each_is_written schemas (world_of life) out e follows new lane (h.orderly).apart steady h.fitted name t g

pub start_is_sound_life : StartIsSoundLife
start_is_sound_life schemas life start = record {
  agrees = start_agrees schemas life start;
  orderly = grind (arith, at_start, in_none);
  fitted = at_start (λ es. AllFit (fold_of empty_world es)) (λ name s e. absurd (cc));
  written = at_start (λ es. AreWritten es (fold_of empty_world es)) (λ name s c e. absurd (cc));
  origins = at_start (λ es. HaveOrigins es (fold_of empty_world es) life.lanes) (record { made = λ name s r e. absurd (cc); named = λ t c id e. absurd (cc); there = λ t c e. absurd (cc) });
  going = λ l i. elim (subst (In l) start.no_leases i) [ ];
  legal = at_start (λ es. IsLegal schemas empty_world es) tt;
  named = start.named;
  described = start.described;
} where
  at_start : (P : List Entry → Type 0) → P [] → P life.entries
  at_start P p = subst P (sym start.no_entries) p
