-- Each row is the call that the journal has, and each resource was made by a create that was answered: each entry keeps that.
use Rattle.std.proofs.Common.{◌≡◌, ◌⊎◌, inl, inr, ℕ, ◌+◌, List, [], ◌∷◌, ◌++◌, Bool, true, false, Option, Some, None, refl, sym, ap, subst, ◌∙◌, true≢false, find, arith, map, ◌==◌, not, ◌&&◌, ◌||◌, filter}
use Rattle.cf_core.proofs.Words.{Account, Agrees, Answer, Answered, AreApart, AreOwn, AreSound, AreSteady, AreWritten, BecomesBy, Begun, Books, Call, CallEnd, Called, Cause, Data, Dict, Entry, GivenUp as LostCall, HaveOrigins, Held, In, IsGivenUpIn, IsLocal, IsMade, IsMadeBy, IsNew, HasNextNumber, IsOfItsLane, IsOfLane, IsOnce, IsOrderly, IsOutcomeOf, IsSteady, Lane, Lanes, Lease, Leftover as Left, MayDrop, MayFollow, MayKeep, StacksByName, OneStack, Open, Pending, Phase, Reply, Request, Resource, Response, Role, RoleMove, Row, Schema, Settled, Settlement, Source, StackState, Stage, Status, Thing, Ties, Why, World, account_of, account_with, all_differ, answered, answered_call, as_before, at_opening, bytes_eq, call_in, called_of, called_as, called_by, changed_by, closing, cond, creates_from, doubted, effect_at, settled_under, for_good, given_up, good_reply, has_leftover, has_physical, has_token, heard, held_in, here, id_named, is_among, is_at_rest, is_create_at, is_created, is_in_progress, is_opened_since, is_opening, is_restore, keeping_unknown, kept_role, known_stack, lane_of, lanes_of, lease_of, list_any, lost_create, lost_on, named_by, lane_types, named_lane, of_create, of_doubted, on_stack, open_as, open_in, option_map, option_or, other as is_other, own as is_own, pending_of, replied, reply_in, resources_of, resting_in, reviewed, role_found, role_in, role_on, skipped_creates, skipped_in, stack_for, stack_of_operation, there, thing_of, told_in, unknown_id, updates_from, where_call, world_after}
use Rattle.cf_core.proofs.Lemmas.{map_in, any_of, bytes_eq-Decides, bytes_or, eq-eqb, eqb-true, find-append, find_mapped, found_one, in_back, in_either, in_filter, in_front, in_kept, in_more, in_one, into_mapped, is_found_in, list_any-append, one_id, one_number, or_left, or_right, other_bytes, put_else, put_here, some_is, some_of}
use Rattle.cf_agree.specs.Moves.{GivenUp, stays}
use Rattle.cf_core.proofs.{Stacks.call_more, Stacks.on_one, Stacks.open_of, Stacks.told_more, Stacks.IsOnOne, Stacks.stacks_after, Stacks.is_working, Stacks.not_resting, Stacks.once_here, Stacks.resting_same, Stacks.role_of, Stacks.role_now, Stacks.role_same, Stacks.told_same, Stacks.on_bool, Stacks.on_option, Outcomes.gone_without, Outcomes.keeps_known, Outcomes.kept_may, Outcomes.kept_moves, Outcomes.kept_stack, Outcomes.found_none, Outcomes.quiet_moves, Outcomes.alike_quiet, Outcomes.dropped_moves, Outcomes.passes, Outcomes.gives, Outcomes.Quiet, Outcomes.phase_moves, Outcomes.phase_quiet, Outcomes.done_moves, Outcomes.done_quiet, Outcomes.left_more, Statuses.intended_way, FitKept.IsLeftBy, FitKept.IsLess, FitKept.IsSameBut, FitKept.IsSameCall, FitKept.Key, FitKept.Stands, FitKept.fitting_lane, FitKept.gone as is_gone, FitKept.has_other, FitKept.in_keyed, FitKept.intends_named, FitKept.key_of, FitKept.keys_of, FitKept.known_steady, FitKept.left_by, FitKept.less_self, FitKept.made as is_made, FitKept.opening_less, FitKept.own_less, FitKept.rows_answered, FitKept.same as is_same, FitKept.same_call, FitKept.stack_known, FitKept.stands_by, FitKept.with_key, FitKept.at_known, FitKept.after_stacks, FitKept.differ_keyed, FitKept.keeps_skipped, FitKept.put_by, FitKept.after_lanes, FitKept.IsPlain, Settling.found_name, Settling.map_some, Settling.orderly_on, Settling.there_is, Settling.named_found, BlameStays.deleted_listed}
use Rattle.cf_plan.specs.Lanes.{written_in}
use Rattle.cf_agree.proofs.{Keeps.drop_keeps, Keeps.rest_keeps, Words.same_bytes, Words.bytes_same}
use Rattle.std.specs.Bool.{IsTrue}

-- Where the rows and the resources of a stack come from: from before the entry, or from the call that it writes down or answers.

-- the row is that of the call that the entry writes down
abbrev pub IsNewRow : Entry → Call → Type 0
IsNewRow e d = (p : Pending) × (written_in e ≡ Some p) × (d.token ≡ p.token) × (called_by d ≡ called_as p)

-- the entry answers an open create, and the answer names the resource
abbrev pub IsNewResource : World → Entry → List ℕ → StackState → Held → Type 0
IsNewResource x e name s r =
    (stack_for e x ≡ Some (name, s)) × (answer : Response) × (attrs : List (List ℕ × Data)) × (p : Pending) × (reply_in e ≡ Some answer)
    × (answer.answer ≡ Reply.Success r.physical attrs) × (pending_of answer.token s ≡ Some p) × (named_by p.request ≡ None)

pub record ComesFrom (x : World) (e : Entry) (name : List ℕ) (s t : StackState) : Type 0 where
  pub rows : (d : Call) → In d t.ledger → ((c : Call) × In c s.ledger × IsSameCall c d) ⊎ IsNewRow e d
  pub resources : (r : Held) → In r (resources_of t) → ((q : Held) × In q (resources_of s) × (q.physical ≡ r.physical)) ⊎ IsNewResource x e name s r

by_keys : (s t : StackState) → ((k : Key) → In k (keys_of t) → In k (keys_of s)) → (r : Held) → In r (resources_of t) → (q : Held) × In q (resources_of s) × (q.physical ≡ r.physical)
by_keys s t h r i = let (q, j, e) = with_key s (key_of r) (h (key_of r) (into_mapped key_of (resources_of t) r i)) in (q, j, ap (λ (k : Key). k.physical) e)

from_less : (x : World) (e : Entry) (name : List ℕ) (s t : StackState) → IsLess s t → ComesFrom x e name s t
from_less x e name s t d = record { rows = λ c i. inl ((d.rows).from c i); resources = λ r i. inl (by_keys s t (in_keyed d.keyed) r i) }

from_intent : (x : World) (name : List ℕ) (s : StackState) (number token : ℕ) (lane path : List ℕ) (r : Request)
    → ComesFrom x (Entry.Intent number token lane path r) name s (effect_at (x.place + 1) (Entry.Intent number token lane path r) s).stack
from_intent x name s number token lane path r =
    let e : Entry = Entry.Intent number token lane path r in
    let p : Pending = record { token = token; path = path; lane = lane; request = r } in
    intended_way (λ t. ComesFrom x e name s (heard (x.place + 1) e s (on_stack t)).stack) s
    (record { rows = λ d i. inl (d, i, same_call d); resources = λ q i. inl (q, i, refl) }) number p
    (record {
      rows = in_more (λ d. ((c : Call) × In c s.ledger × IsSameCall c d) ⊎ IsNewRow e d) _ s.ledger (λ d i. inl (d, i, same_call d)) (inr (p, refl, refl, refl));
      resources = λ q i. inl (q, i, refl);
    })

from_outcome :
    (x : World) (name : List ℕ) (s : StackState) (number token : ℕ) (a : Reply) (before after : ℕ) → stack_for (Entry.Outcome number token a before after) x ≡ Some (name, s)
    → ComesFrom x (Entry.Outcome number token a before after) name s (effect_at (x.place + 1) (Entry.Outcome number token a before after) s).stack
from_outcome x name s number token a before after mine = by (pending_of token s) refl where
  rows : (u : StackState) (ps : List Pending) → IsSameBut s u → (d : Call) → In d (where_call token (answered_call a) u.ledger) → (c : Call) × In c s.ledger × IsSameCall c d
  rows u ps b d i = (rows_answered token a ps s.ledger).from d (subst (λ cs. In d (where_call token (answered_call a) cs)) b.ledger i)

  answered_from : (p : Pending) → pending_of token s ≡ Some p → (r : Request) (b : Reply) (u : StackState) → p.request ≡ r → a ≡ b → IsLeftBy s p.path r b u
      → ComesFrom x (Entry.Outcome number token a before after) name s (heard (x.place + 1) (Entry.Outcome number token a before after) s (on_stack (closing token a u))).stack
  answered_from p k r b u f g (is_same but keys) =
      record { rows = λ d i. inl (rows u [] but d i); resources = λ q i. inl (by_keys s u (λ z j. subst (In z) keys j) q i) }
  answered_from p k r b u f g (is_gone id but named closes keys) =
      record { rows = λ d i. inl (rows u [] but d i); resources = λ q i. inl (by_keys s u (λ z j. (in_filter (has_other id) (keys_of s) z (subst (In z) keys j)).0) q i) }
  answered_from p k _ _ u f g (is_made kind id props attrs h but is id_is kind_is) = record {
    rows = λ d i. inl (rows u [] but d i);
    resources = λ q i.
        in_more (λ z. ((y : Held) × In y (resources_of s) × (y.physical ≡ z.physical)) ⊎ IsNewResource x (Entry.Outcome number token a before after) name s z) h (resources_of s) (λ z j. inl (z, j, refl))
        (inr (mine, record { token = token; answer = a; before = before; after = after }, attrs, p, refl, g ∙ ap (λ n. Reply.Success n attrs) (sym id_is), k, ap named_by f))
        q (subst (In q) is i);
  }

  by : (o : Option Pending) → pending_of token s ≡ o → ComesFrom x (Entry.Outcome number token a before after) name s (effect_at (x.place + 1) (Entry.Outcome number token a before after) s).stack
  by None k = grind (arith, rows, same_call)
  by (Some p) k =
      subst (λ o. ComesFrom x (Entry.Outcome number token a before after) name s (heard (x.place + 1) (Entry.Outcome number token a before after) s (on_stack (replied token a o s))).stack) (sym k)
      (answered_from p k p.request a (answered (is_restore token s) p.path p.request a s) refl refl (left_by (is_restore token s) p.path p.request a s))

module _ (schemas : List Schema) (x : World) (out : List ℕ) (apart : AreApart x) where
  own_from : (e : Entry) (name : List ℕ) (s : StackState) → stack_for e x ≡ Some (name, s) → MayFollow schemas x out e → IsSteady s → ComesFrom x e name s (effect_at (x.place + 1) e s).stack
  own_from (Entry.Intent number token lane path r) name s mine may steady = from_intent x name s number token lane path r
  own_from (Entry.Outcome number token a before after) name s mine may steady = from_outcome x name s number token a before after mine
  own_from (Entry.Opened epoch lanes) name s mine may steady = let none : ⊥ = cc in absurd none
  own_from e name s mine may steady = from_less x e name s _ (own_less schemas x out apart e name s mine may steady tt)

  opening_from : (e : Entry) (name : List ℕ) (s : StackState) → is_opening e ≡ true → ComesFrom x e name s (effect_at (x.place + 1) e s).stack
  opening_from (Entry.Opened epoch lanes) name s n = from_less x (Entry.Opened epoch lanes) name s _ (opening_less x epoch lanes s)
  opening_from e name s n = absurd (true≢false (sym n))

  -- so it is with every stack that is there after an entry
  pub comes_from : (e : Entry) (name : List ℕ) (t : StackState) → MayFollow schemas x out e → AreSteady x → (f : Stands x e name t) → ComesFrom x e name f.stack t
  comes_from e name t may steady f = by t f.becomes where
    by : (u : StackState) → BecomesBy x e name f.stack u → ComesFrom x e name f.stack u
    by _ (is_own mine) = own_from e name f.stack mine may (subst IsSteady f.known (known_steady x steady name))
    by _ (at_opening n) = opening_from e name f.stack n
    by _ (is_other n no_one) = from_less x e name f.stack f.stack (less_self f.stack)

pub names_same : (r : Request) → id_named r ≡ named_by r
names_same r = grind arith

-- what the journal has it keeps
pub call_kept : (es : List Entry) (e : Entry) (t : ℕ) (c : Called) → call_in es t ≡ Some c → call_in (es ++ e ∷ []) t ≡ Some c
call_kept es e t c h = ap (option_map called_as) (call_more es e t) ∙ (grind arith)

told_kept : (es : List Entry) (e : Entry) (t : ℕ) (y : Settlement) → told_in es t ≡ Some y → told_in (es ++ e ∷ []) t ≡ Some y
told_kept es e t y h = told_more es e t ∙ ap (λ o. option_or o (told_in (e ∷ []) t)) h

pub made_kept : (es : List Entry) (e : Entry) (id : List ℕ) → IsMadeBy es id → IsMadeBy (es ++ e ∷ []) id
made_kept es e id (u, c, attrs, told, call, create) = (u, c, attrs, told_kept es e u (Settlement.Success id attrs) told, call_kept es e u c call, create)

-- a call that the journal has now it had before, or the entry writes it down
call_back : (es : List Entry) (e : Entry) (t : ℕ) (c : Called) → call_in (es ++ e ∷ []) t ≡ Some c → (call_in es t ≡ Some c) ⊎ ((p : Pending) × (written_in e ≡ Some p) × (called_as p ≡ c))
call_back es e t c h = grind (arith, call_more)

-- an answer for good that an entry writes down for a call that has none
told_new : (es : List Entry) (e : Entry) (r : Response) (y : Settlement) → reply_in e ≡ Some r → for_good r.answer ≡ Some y → told_in es r.token ≡ None → told_in (es ++ e ∷ []) r.token ≡ Some y
told_new es e r y w good none = cc (told_more es e r.token, eq-eqb r.token r.token refl)

module _ (es : List Entry) (x : World) where
  pub known_written : AreWritten es x → (name : List ℕ) (s : StackState) → known_stack name x ≡ s → (c : Call) → In c s.ledger → call_in es c.token ≡ Some (called_by c)
  known_written h name s e c i = grind (arith, at_known)

  pub known_made : (lanes : List Lane) → HaveOrigins es x lanes → (name : List ℕ) (s : StackState) → known_stack name x ≡ s → (r : Held) → In r (resources_of s) → IsMadeBy es r.physical
  known_made lanes h name s e r i = grind (arith, at_known)

  -- an open call of a stack is open
  pub open_there : AreOwn x.stacks → (e : Entry) → is_opening e ≡ false → (name : List ℕ) (s : StackState) → stack_for e x ≡ Some (name, s) → (t : ℕ) (p : Pending) → pending_of t s ≡ Some p → open_in x.stacks t ≡ Some (open_as name p)
  open_there separate e n name s mine t p k =
      open_of (on_one e x name s separate n mine) t p k

-- the types of the lanes of the last opening
pub named_there : (lanes : List (List ℕ × List ℕ)) (l : List ℕ × List ℕ) → In l lanes → (k : List ℕ) × (lane_types lanes l.0 ≡ Some k)
named_there lanes l i =
    let (m, f) = is_found_in (λ (q : List ℕ × List ℕ). bytes_eq l.0 q.0) lanes l i ((bytes_eq-Decides l.0 l.0).1 refl) in
    (m.1, ap (option_map (λ (q : List ℕ × List ℕ). q.1)) f)

module _ (schemas : List Schema) (es : List Entry) (x : World) (lanes : List Lane) (out : List ℕ) (e : Entry) (may : MayFollow schemas x out e) (apart : AreApart x) (own : AreOwn x.stacks) (steady : AreSteady x)
    (books : Books (account_of es x)) (origins : HaveOrigins es x lanes) where
  -- what the call that an entry writes down names was made, and its lane is there
  record IsKnownCall (p : Pending) : Type 0 where
    pub next : p.token ≡ x.token + 1
    pub named : (id : List ℕ) → named_by p.request ≡ Some id → IsMadeBy es id
    pub lane : (k : List ℕ) × (lane_types x.lanes p.lane ≡ Some k)

  known_call : (d : Entry) → MayFollow schemas x out d → (p : Pending) → written_in d ≡ Some p → IsKnownCall p
  known_call (Entry.Intent number token lane path r) (name, s, stage, at, is, m) p w =
      let q : Pending = record { token = token; path = path; lane = lane; request = r } in
      let known = stack_known x apart (Entry.Intent number token lane path r) name s at in
      subst IsKnownCall (some_is q p w) (record {
        next = m.next;
        named = λ id n.
            let (h, i, f, g) = intends_named stage schemas name x s path r id (subst IsSteady known (known_steady x steady name)) m.chosen (names_same r ∙ n) in
            subst (IsMadeBy es) f (known_made es x lanes origins name s known h i);
        lane =
            let (l, i, (f, g)) = fitting_lane x q r refl m.fits in
            let (k, h) = named_there x.lanes l i in (k, ap (lane_types x.lanes) (sym f) ∙ h);
      })
  known_call d m p w = absurd (cc)

  pub written_kept : AreWritten es x → AreWritten (es ++ e ∷ []) (world_after x e)
  written_kept h name t c g i =
      let f : Stands x e name t = stands_by x apart e name t g in
      elim ((comes_from schemas x out apart e name t may steady f).rows c i) [
        | inl (b, j, s) ↦ (
            let called_of : called_by b ≡ called_by c = λ k. record { path = sym s.path k; lane = sym s.lane k; request = sym s.request k } in
            ap (call_in (es ++ e ∷ [])) s.token ∙ call_kept es e b.token (called_by b) (known_written es x h name f.stack f.known b j) ∙ ap Some called_of
            )
        | inr (p, w, k, s) ↦ ap (call_in (es ++ e ∷ [])) k ∙ (grind (arith, call_more, eq-eqb)) ∙ ap Some (sym s)
      ]

  pub origins_kept : (ties : Ties (account_of es x) (lanes_of lanes)) → HaveOrigins (es ++ e ∷ []) (world_after x e) lanes
  origins_kept ties = record {
    made = λ name t r g i. let f : Stands x e name t = stands_by x apart e name t g in elim ((comes_from schemas x out apart e name t may steady f).resources r i) [
      | inl (q, j, s) ↦ subst (IsMadeBy (es ++ e ∷ [])) s (made_kept es e q.physical (known_made es x lanes origins name f.stack f.known q j))
      | inr (mine, answer, attrs, p, told, success, pending, create) ↦ (
          let o = open_as name p in
          let open_ = open_there es x own e (grind arith) name f.stack mine answer.token p pending in (
            answer.token,
            called_of o,
            attrs,
            told_new es e answer (Settlement.Success r.physical attrs) told (ap for_good success) (books.untold answer.token o open_),
            call_kept es e answer.token (called_of o) (books.calls answer.token o open_),
            create,
          )
          )
    ];
    named = λ t c id h n. elim (call_back es e t c h) [
      | inl k ↦ made_kept es e id (origins.named t c id k n)
      | inr k ↦ made_kept es e id ((known_call e may k.0 k.1).named id (ap (λ (z : Called). named_by z.request) k.2 ∙ n))
    ];
    there = λ t c h. elim (call_back es e t c h) [
      | inl k ↦ origins.there t c k
      | inr k ↦ (let (kind, m) = (known_call e may k.0 k.1).lane in (kind, ap (lanes_of lanes).kind (ap (λ (z : Called). z.lane) (sym k.2)) ∙ ties.handed (k.0).lane kind m))
    ];
  }

-- what a create that succeeds makes
made_create : (r : Request) (attrs : Dict) (id : List ℕ) → named_by r ≡ None → (q : Settled) → q.request ≡ r → q.settlement ≡ Settlement.Success id attrs → IsMade q id
made_create (Request.Create kind props) attrs id n q a b = (kind, props, attrs, cc)
made_create (Request.Update i props) attrs id n q a b = absurd (cc)
made_create (Request.Delete i) attrs id n q a b = absurd (cc)

-- What an open create made is new to its stack, and has an id of its lane.
module _ (es : List Entry) (x : World) (lanes : List Lane) (books : Books (account_of es x)) (ties : Ties (account_of es x) (lanes_of lanes)) (origins : HaveOrigins es x lanes) where
  module _ (t : ℕ) (o : Open) (y : Settled) (id : List ℕ) (open_ : open_in x.stacks t ≡ Some o) (settled : settled_under (lanes_of lanes) o.lane t ≡ Some y) (made : IsMade y id) where
    pub never_made : IsMadeBy es id → ⊥
    never_made (u, c, attrs, told, call, create) =
        let (s, at, is) = ties.answers u (Settlement.Success id attrs) c told call (origins.there u c call) in
        let request = ((ties.settled_calls c.lane u s at).written c call).1 in
        let also = made_create c.request attrs id create s (sym request) is in
        let lane : c.lane ≡ o.lane = sym (ties.created_named c.lane id u s at also).0 ∙ (ties.created_named o.lane id t y settled made).0 in
        let same : u ≡ t = ties.created_once o.lane id u t s y (subst (λ n. settled_under (lanes_of lanes) n u ≡ Some s) lane at) settled also made in
        let none = books.untold t o open_ in
        let some : told_in es t ≡ Some (Settlement.Success id attrs) = ap (told_in es) (sym same) ∙ told in
        cc

-- What a create that is answered made is new to its stack, and has an id of its lane.

module _ (schemas : List Schema) (es : List Entry) (x : World) (lanes : List Lane) (leases : List Lease) (h : AreSound schemas es x lanes leases) (lease : Lease) (out : In lease leases) where
  module _ (id : List ℕ) (attrs : List (List ℕ × Data)) (before after : ℕ) (replied : good_reply lease.reply ≡ Some (Settlement.Success id attrs)) where
    abbrev outcome : Entry
    outcome = Entry.Outcome lease.number lease.token (Reply.Success id attrs) before after

    record IsAnswer (name : List ℕ) (s : StackState) (p : Pending) : Type 0 where
      pub open_ : open_in x.stacks lease.token ≡ Some (open_as name p)
      pub settled : Settled
      pub at : settled_under (lanes_of lanes) p.lane lease.token ≡ Some settled
      pub made : IsMade settled id

    is_answer : (name : List ℕ) (s : StackState) (p : Pending) → stack_of_operation lease.number x ≡ Some (name, s) → pending_of lease.token s ≡ Some p → id_named p.request ≡ None → IsAnswer name s p
    is_answer name s p going pending create =
        let leased = (h.agrees).leased in
        let books = ((h.agrees).tied).books in
        let ties = ((h.agrees).tied).ties in
        let member = into_mapped lease_of leases lease out in
        let (y, at, is) = leased.replies (lease_of lease) (Settlement.Success id attrs) member replied in
        let open_ = open_there es x (h.orderly).own outcome refl name s going lease.token p pending in
        let call = books.calls lease.token (open_as name p) open_ in
        let (lane, request) = ((leased.out (lease_of lease) member).own).written (called_of (open_as name p)) call in
        let settled_here = subst (λ n. settled_under (lanes_of lanes) n lease.token ≡ Some y) (sym lane) at in
        let asked = ((ties.settled_calls p.lane lease.token y settled_here).written (called_of (open_as name p)) call).1 in
        record { open_ = open_; settled = y; at = settled_here; made = made_create p.request attrs id (sym (names_same p.request) ∙ create) y (sym asked) is }

    is_new : IsNew x outcome
    is_new name s p going pending create =
        let a = is_answer name s p going pending create in
        let known = stack_known x (h.orderly).apart outcome name s going in
        let never = never_made es x lanes ((h.agrees).tied).books ((h.agrees).tied).ties h.origins lease.token (open_as name p) a.settled id a.open_ a.at a.made in
        record {
          resources = λ r i e. never (subst (IsMadeBy es) e (known_made es x lanes h.origins name s known r i));
          calls = λ c i e. never ((h.origins).named c.token (called_by c) id (known_written es x h.written name s known c i) (sym (names_same c.request) ∙ e));
        }

    is_of_lane : IsOfItsLane x outcome
    is_of_lane name s p going pending create =
        let a = is_answer name s p going pending create in
        ((((h.agrees).tied).ties).created_named p.lane id lease.token a.settled a.at a.made).1

  pub settled_new : (e : Entry) (r : CallEnd) → lease.reply ≡ Some r → IsOutcomeOf lease r e → IsNew x e × IsOfItsLane x e
  settled_new e (Answered (Answer.Success id attrs) before after) k is =
      subst (λ d. IsNew x d × IsOfItsLane x d) (sym is) (is_new id attrs before after (ap good_reply k), is_of_lane id attrs before after (ap good_reply k))
  settled_new e (Answered (Answer.Failed c) before after) k is = subst (λ d. IsNew x d × IsOfItsLane x d) (sym is) (tt, tt)
  settled_new e (Answered Answer.Fault before after) k is = subst (λ d. IsNew x d × IsOfItsLane x d) (sym is) (tt, tt)
  settled_new e (Answered Answer.NoMemory before after) k is = absurd is
  settled_new e (Answered (Answer.Stale fence) before after) k is = absurd is

-- What begins, and a change set, keep agreement, and take nothing of another stack.

-- How what begins, a change set, and calls that are given up move the account.

-- A change of a stack that takes nothing of another, where no call and no resource is new.

pub held_of : (i : List ℕ) (s : StackState) (r : Held) → In r (resources_of s) → r.physical ≡ i → (g : Held) × (held_in i s ≡ Some g)
held_of i s r j e =
    let (g, f) = is_found_in (has_physical i) (resources_of s) r j ((bytes_eq-Decides i r.physical).1 (sym e)) in
    (g, (sym (find-append (has_physical i) s.held s.made)) ∙ f)

-- it is the one that is found, where ids differ
pub held_one : (i : List ℕ) (s : StackState) (r : Held) → all_differ bytes_eq (map (λ (h : Held). h.physical) (resources_of s)) ≡ true → In r (resources_of s) → r.physical ≡ i → held_in i s ≡ Some r
held_one i s r d j e =
    let (g, f) = is_found_in (has_physical i) (resources_of s) r j ((bytes_eq-Decides i r.physical).1 (sym e)) in
    let (k, t) = found_one (has_physical i) (resources_of s) g f in
    let same : g ≡ r = one_id (λ (h : Held). h.physical) (resources_of s) d g r k j (sym ((bytes_eq-Decides i g.physical).0 t) ∙ sym e) in
    (sym (find-append (has_physical i) s.held s.made)) ∙ f ∙ ap Some same

-- an id is left over as before, or it is that of a resource that was taken
pub data IsLeftAlike (s s' : StackState) (i : List ℕ) : Type 0 where
  alike : has_leftover i s'.leftovers ≡ has_leftover i s.leftovers → IsLeftAlike s s' i
  taken : (h : Held) → held_in i s ≡ Some h → held_in i s' ≡ None → IsLeftAlike s s' i

module _ (ss : StacksByName) (name : List ℕ) (s s' : StackState) (once : IsOnce s) (d : IsLess s s') (left : (i : List ℕ) → IsLeftAlike s s' i) where
  was_held : (i : List ℕ) (h : Held) → held_in i s' ≡ Some h → (g : Held) × (held_in i s ≡ Some g)
  was_held i h e =
      let (j, t) = found_one (has_physical i) (resources_of s') h (sym (sym (find-append (has_physical i) s'.held s'.made)) ∙ e) in
      let (q, k, m) = with_key s (key_of h) (in_keyed d.keyed (key_of h) (into_mapped key_of (resources_of s') h j)) in
      held_of i s q k (ap (λ (z : Key). z.physical) m ∙ sym ((bytes_eq-Decides i h.physical).0 t))

  pub less_local : IsLocal ss name s s'
  less_local = record {
    once = record {
      ids = differ_keyed (resources_of s) (resources_of s') d.keyed once.ids;
      left = λ i h e. grind (arith, was_held);
      tokens = d.tokens once.tokens;
    };
    held = λ i h e. inl (was_held i h e);
    role = λ i e. inl (let (a, b) = found_none name (held_in i s) (has_leftover i s.leftovers) e in (grind (arith, was_held, left i)));
    tokens = λ t v e. inl (let (i, f) = found_one (has_token t) s'.tokens v e in is_found_in (has_token t) s.tokens v (d.open_ v i) f);
  }

-- an entry that is no opening, of the stack of this name
module _ (schemas : List Schema) (x : World) (out : List ℕ) (o : IsOrderly x) (steady : AreSteady x) (e : Entry) (name : List ℕ) (s : StackState)
    (n : is_opening e ≡ false) (mine : stack_for e x ≡ Some (name, s)) where
  at_one : IsOnOne x (changed_by (x.place + 1) e x) name s (effect_at (x.place + 1) e s).stack
  at_one = on_one e x name s o.own n mine

  -- where it is no Intent and no outcome, it takes nothing of another stack
  pub plain_orderly : MayFollow schemas x out e → IsPlain schemas x out o.apart e → HasNextNumber e x
      → ((i : List ℕ) → IsLeftAlike s (effect_at (x.place + 1) e s).stack i) → IsOrderly (world_after x e)
  plain_orderly may plain next left =
      let known : known_stack name x ≡ s = stack_known x o.apart e name s mine in
      let less = own_less schemas x out o.apart e name s mine may (subst IsSteady known (known_steady x steady name)) plain in
      orderly_on x e name s _ o next (subst (λ ss. OneStack x.stacks ss name s (effect_at (x.place + 1) e s).stack) (sym (stacks_after x e)) at_one.one)
      (less_local x.stacks name s _ (once_here at_one.one o.own) less left) (after_lanes x e n)

-- what is listed without an id is no leftover of any
pub unknown_more : (i : List ℕ) (ls ms : List Left) → ((l : Left) → In l ms → l.physical ≡ unknown_id) → has_leftover i (ls ++ ms) ≡ has_leftover i ls
unknown_more i [] [] h = refl
unknown_more i [] (m ∷ ms) h = let ih = unknown_more i [] ms (λ l j. h l (there j)) in let k = ap (bytes_eq i) (h m here) in grind arith
unknown_more i (l ∷ ls) ms h = let ih = unknown_more i ls ms h in grind arith

-- A continued rollback, and a create that is kept without an id, give up calls and nothing else that agreement rests on.

-- the creates among the calls that are given_one up
pub lost_among : (test : Pending → Bool) (ps cs : List Pending) → all_differ ◌==◌ (map (λ (p : Pending). p.token) ps) ≡ true
    → ((p : Pending) → In p cs → In p ps × ((test p && is_created p) ≡ true)) → ((p : Pending) → In p ps → (test p && is_created p) ≡ true → In p cs)
    → (s s' : StackState) → s'.abandoned ≡ s.abandoned ++ map given_up cs → (t : ℕ) → lost_on s' t ≡ (lost_on s t || gives test (find (has_token t) ps))
lost_among test ps cs once from to s s' is t =
    let forth : list_any (has_token t) cs ≡ true → gives test (find (has_token t) ps) ≡ true = λ h.
    let f = some_of (has_token t) cs h in
    let (i, k) = from f.one f.of_list in
    let (g, e) = is_found_in (has_token t) ps f.one i f.passes in
    let (j, m) = found_one (has_token t) ps g e in
    let same : g ≡ f.one = one_number (λ (p : Pending). p.token) ps once g f.one j i (sym (eqb-true t g.token m) ∙ eqb-true t (f.one).token f.passes) in
    ap (gives test) (e ∙ ap Some same) ∙ k in
    ap (λ gs. list_any (λ (g : LostCall). t == g.token) gs) is ∙ list_any-append (λ (g : LostCall). t == g.token) s.abandoned (map given_up cs)
    ∙ ap (λ b. lost_on s t || b) (tokens cs ∙ (grind (arith, back (find (has_token t) ps) refl)))
  where
    tokens : (qs : List Pending) → list_any (λ (g : LostCall). t == g.token) (map given_up qs) ≡ list_any (has_token t) qs
    tokens [] = refl
    tokens (q ∷ qs) = ap (λ b. (t == q.token) || b) (tokens qs)

    back : (o : Option Pending) → find (has_token t) ps ≡ o → gives test o ≡ true → list_any (has_token t) cs ≡ true
    back o e h = grind (arith, found_one, any_of)

-- those at one path, and at some paths
both : (a b : Bool) → (a && b) ≡ true → (a ≡ true) × (b ≡ true)
both a b h = grind arith

at_path : (path : List ℕ) (ps : List Pending) (p : Pending) → In p (filter (is_create_at path) ps) → In p ps × ((is_create_at path p && is_created p) ≡ true)
at_path path ps p i = grind (arith, in_filter, both)

to_path : (path : List ℕ) (ps : List Pending) (p : Pending) → In p ps → (is_create_at path p && is_created p) ≡ true → In p (filter (is_create_at path) ps)
to_path path ps p i t = in_kept (is_create_at path) ps p i (both (is_create_at path p) (is_created p) t).0

at_paths : (paths : List (List ℕ)) (ps : List Pending) (p : Pending) → In p (skipped_creates paths ps) → In p ps × ((is_among p.path paths && is_created p) ≡ true)
at_paths [] ps p i = elim i [ ]
at_paths (path ∷ paths) ps p i = grind (arith, at_paths paths, in_either, in_filter, both, same_bytes, bytes_same, or_left)

to_paths : (paths : List (List ℕ)) (ps : List Pending) (p : Pending) → In p ps → (is_among p.path paths && is_created p) ≡ true → In p (skipped_creates paths ps)
to_paths [] ps p i t = absurd (true≢false (sym t))
to_paths (path ∷ paths) ps p i t = grind (arith, to_paths paths, bytes_or, in_front, in_kept, both, same_bytes, in_back, other_bytes)

-- Where only creates are given_one up, and no role changes.
pub may_drop_creates : (a : Account) (w : Lanes) (drop : ℕ → Bool) (role : List ℕ → Role) → Books a → ((i : List ℕ) → role i ≡ a.role i)
    → ((t : ℕ) (o : Open) → a.open_ t ≡ Some o → drop t ≡ true → named_by o.request ≡ None) → MayDrop a w drop role
may_drop_creates a w drop role b same none = grind arith

module _ (x y : World) (name : List ℕ) (s s' : StackState) (at : IsOnOne x y name s s') where
  -- an open call of the stack, by its token
  open_by : (t : ℕ) (p : Pending) (o : Open) → find (has_token t) s.tokens ≡ Some p → open_in x.stacks t ≡ Some o → open_as name p ≡ o
  open_by t p o k e =
      let is = open_of at t p k in cc

  -- those that are given_one up at a path are creates
  dropped_creates : (path : List ℕ) (t : ℕ) (o : Open) → open_in x.stacks t ≡ Some o → passes (is_create_at path) (find (has_token t) s.tokens) ≡ true → named_by o.request ≡ None
  dropped_creates path t o e d = grind (arith, passes, open_by, both)

  -- What is held at skipped paths is in doubt.
  module _ (paths : List (List ℕ)) (held : s'.held ≡ map (skipped_in paths s.before) s.held) (made : s'.made ≡ s.made) (left : (i : List ℕ) → has_leftover i s'.leftovers ≡ has_leftover i s.leftovers) where
    held_then : (i : List ℕ) → held_in i s' ≡ option_or (option_map (skipped_in paths s.before) (find (has_physical i) s.held)) (find (has_physical i) s.made)
    held_then i = cc (find_mapped (has_physical i) (skipped_in paths s.before) s.held (λ h. ap (λ (k : Key). bytes_eq i k.physical) (keeps_skipped paths s.before h)))

    role_then : (i : List ℕ) (h : Held) → find (has_physical i) s.held ≡ Some h → role_in y.stacks i ≡ Resource (thing_of name (skipped_in paths s.before h))
    role_then i h e =
        let none = ((at.unshared).roles i h (cc)).0 in let on : role_on name s' i ≡ Resource (thing_of name (skipped_in paths s.before h)) = cc (held_then i) in
        cc (role_now at.one i)

    -- what a resource is after that
    in_doubt : (o : Option Held) (h : Held) → ((as_before o h).unsure ≡ true) × ((as_before o h).path ≡ h.path) × ((as_before o h).kind ≡ h.kind)
    in_doubt o h = grind arith

    doubted_role : (i : List ℕ) (h : Held) → find (has_physical i) s.held ≡ Some h → is_among h.path paths ≡ true
        → role_in y.stacks i ≡ Resource (thing_of name (as_before (find (has_physical h.physical) s.before) h))
    doubted_role i h e t = role_then i h e ∙ ap (λ b. Resource (thing_of name (cond b (as_before (find (has_physical h.physical) s.before) h) h))) t

    -- an id is to all what it was, or is that of a resource that is skipped
    abbrev IsSkipped : List ℕ → Type 0
    IsSkipped i = (h : Held) × (find (has_physical i) s.held ≡ Some h) × (is_among h.path paths ≡ true)

    same_or : (i : List ℕ) → (role_in y.stacks i ≡ role_in x.stacks i) ⊎ IsSkipped i
    same_or i = on_option (find (has_physical i) s.held) (λ e. inl (role_same at.one i (cc (held_then i, left i))))
        (λ h e. on_bool (is_among h.path paths) (λ t. inr (h, e, t))
        (λ t. inl (role_then i h e ∙ ap (λ b. Resource (thing_of name (cond b (as_before (find (has_physical h.physical) s.before) h) h))) t ∙ sym (role_of at i h (cc)))))

    move_role : (i : List ℕ) → RoleMove (role_in x.stacks i) (role_in y.stacks i)
    move_role i = elim (same_or i) [
      | inl e ↦ stays e
      | inr (h, e, t) ↦ (let was = find (has_physical h.physical) s.before in let d = in_doubt was h in
          doubted (thing_of name h) (thing_of name (as_before was h)) (role_of at i h (cc)) (doubted_role i h e t) refl d.1 d.2 (ap not d.0))
    ]

    -- what is not left over stays a resource
    still : (i : List ℕ) (r : Thing) → role_in x.stacks i ≡ Resource r → (q : Thing) × (role_in y.stacks i ≡ Resource q)
    still i r e = elim (same_or i) [ inl k ↦ (r, k ∙ e) | inr (h, k, t) ↦ (_, doubted_role i h k t) ]

    module _
        (es : List Entry) (w : Lanes) (b : Books (account_of es x)) (ids : all_differ bytes_eq (map (λ (h : Held). h.physical) (resources_of s)) ≡ true)
        (may : (p : Pending) → In p s.tokens → IsGivenUpIn s p p.request) (rests : (account_of es x).resting name ≡ true)
        (raised : (t : ℕ) (o : Open) → (account_of es x).open_ t ≡ Some o → (w.lane o.lane).fence ≡ x.epoch) where
      abbrev is_skipped : Pending → Bool
      is_skipped p = is_among p.path paths

      given_one : (t : ℕ) (o : Open) → (account_of es x).open_ t ≡ Some o → (p : Pending) → find (has_token t) s.tokens ≡ Some p → is_skipped p ≡ true → (r : Request) → p.request ≡ r → IsGivenUpIn s p r → GivenUp (account_of es x) w (role_in y.stacks) o
      given_one t o e p k d (Request.Create kind props) f g = of_create (ap (λ (v : Open). named_by v.request) (sym (open_by t p o k e)) ∙ ap named_by f)
      given_one t o e p k d (Request.Update i props) f (h, h_in, h_id, h_path) =
          let (g, found) = is_found_in (has_physical i) s.held h h_in (same_bytes i h.physical (sym h_id)) in
          let (g_in, g_id) = found_one (has_physical i) s.held g found in
          let same : g ≡ h = one_id (λ (z : Held). z.physical) (resources_of s) ids g h (in_front g s.held s.made g_in) (in_front h s.held s.made h_in) (sym (bytes_same i g.physical g_id) ∙ sym h_id) in
          let path : is_among h.path paths ≡ true = ap (λ q. is_among q paths) h_path ∙ d in
          let was = find (has_physical h.physical) s.before in
          of_doubted i props (thing_of name (as_before was h)) (ap (λ (v : Open). v.request) (sym (open_by t p o k e)) ∙ f) (doubted_role i h (found ∙ ap Some same) path) (ap not (in_doubt was h).0)
          (ap (account_of es x).resting (ap (λ (v : Open). v.stack) (sym (open_by t p o k e))) ∙ rests) (raised t o e)
      given_one t o e p k d (Request.Delete i) f g = absurd g

      pub may_skip : MayDrop (account_of es x) w (λ t. passes is_skipped (find (has_token t) s.tokens)) (role_in y.stacks)
      may_skip = record {
        roles = move_role;
        calls = λ t o e d. by t o e (find (has_token t) s.tokens) refl d;
        left = λ t o i e d n. let (r, k, rest, here_) = b.named t o i e n in still i r k;
      } where
        by : (t : ℕ) (o : Open) → (account_of es x).open_ t ≡ Some o → (q : Option Pending) → find (has_token t) s.tokens ≡ q → passes is_skipped q ≡ true → GivenUp (account_of es x) w (role_in y.stacks) o
        by t o e None k d = absurd (true≢false (sym d))
        by t o e (Some p) k d = given_one t o e p k d p.request refl (may p (found_one (has_token t) s.tokens p k).0)

-- A resource that is kept, and a create that is kept without an id, keep agreement, and take nothing of another stack.

abbrev IsKeptIn : StackState → List ℕ → List ℕ → Type 0
IsKeptIn s path physical = ((r : Held) × In r (resources_of s) × (r.physical ≡ physical)) ⊎ ((physical ≡ []) × IsTrue (list_any (is_create_at path) s.tokens))

kept_which : (stage : Stage) (out : List ℕ) (s : StackState) (path physical : List ℕ) (w : Why) → MayKeep stage out s path physical w → IsKeptIn s path physical
kept_which stage out s path physical w m = grind (arith, deleted_listed, in_front, in_filter, in_back)

-- the stack whose create is kept without an id
abbrev unknown_stack : ℕ → ℕ → List ℕ → Why → StackState → StackState
unknown_stack place number path w s = (heard place (Entry.Kept number path [] w) s (on_stack (keeping_unknown path w s))).stack

keeps_unknown : (place number : ℕ) (path : List ℕ) (w : Why) (s : StackState) → list_any (is_create_at path) s.tokens ≡ true → (effect_at place (Entry.Kept number path [] w) s).stack ≡ unknown_stack place number path w s
keeps_unknown place number path w s t = ap (λ b. (heard place (Entry.Kept number path [] w) s (on_stack (cond b (keeping_unknown path w s) s))).stack) t

-- agreement with one more entry, and what holds of the stacks after it
abbrev pub Holds : List Entry → World → List Lane → List Lease → Entry → Type 0
Holds es x lanes leases e = Agrees (account_with e es x) (lanes_of lanes) (map lease_of leases) × IsOrderly (world_after x e)

module _ (schemas : List Schema) (es : List Entry) (x : World) (lanes : List Lane) (leases : List Lease) (h : AreSound schemas es x lanes leases)
    (steady : AreSteady x) (out : List ℕ) where
  -- an entry that is no opening, no Intent and no outcome, of the stack of this name, which becomes s'
  module _ (e : Entry) (name : List ℕ) (s s' : StackState) (n : is_opening e ≡ false) (mine : stack_for e x ≡ Some (name, s))
      (is : (effect_at (x.place + 1) e s).stack ≡ s') (may : MayFollow schemas x out e) (plain : IsPlain schemas x out (h.orderly).apart e)
      (next : HasNextNumber e x) where
    on : IsOnOne x (changed_by (x.place + 1) e x) name s s'
    on = subst (IsOnOne x (changed_by (x.place + 1) e x) name s) is (at_one schemas x out h.orderly steady e name s n mine)

    once : IsOnce s
    once = once_here on.one (h.orderly).own

    orderly : ((i : List ℕ) → IsLeftAlike s s' i) → IsOrderly (world_after x e)
    orderly left =
        plain_orderly schemas x out h.orderly steady e name s n mine may plain next (λ i. subst (λ z. IsLeftAlike s z i) (sym is) (left i))

    -- where it changes nothing of the account
    stays_holds : account_with e es x ≡ account_of es x → s'.leftovers ≡ s.leftovers → Holds es x lanes leases e
    stays_holds moves left = grind (arith, orderly, h.agrees)

    -- where it tells no call and no answer, and no other stack rests than did
    module _ (no_call : written_in e ≡ None) (no_answer : reply_in e ≡ None) (told : account_with e es x ≡ account_of (es ++ e ∷ []) (changed_by (x.place + 1) e x))
        (rests : (m : List ℕ) → resting_in (changed_by (x.place + 1) e x).stacks m ≡ true → resting_in x.stacks m ≡ true) where
      quiet_holds : Quiet s s' → Holds es x lanes leases e
      quiet_holds q = (
        subst (λ a. Agrees a (lanes_of lanes) (map lease_of leases)) (sym (told ∙ quiet_moves es x _ e name s s' on no_call (λ u. told_same es e u no_answer) q))
            (rest_keeps (account_of es x) (lanes_of lanes) (map lease_of leases) (resting_in (changed_by (x.place + 1) e x).stacks) h.agrees rests),
        orderly (λ i. alike (ap (has_leftover i) q.leftovers)),
      )

      -- some of its calls are given up
      dropped_holds : (test : Pending → Bool) → s'.tokens ≡ filter (λ p. not (test p)) s.tokens
          → ((t : ℕ) → lost_on s' t ≡ (lost_on s t || gives test (find (has_token t) s.tokens)))
          → MayDrop (account_of es x) (lanes_of lanes) (λ t. passes test (find (has_token t) s.tokens)) (role_in (changed_by (x.place + 1) e x).stacks)
          → ((i : List ℕ) → has_leftover i s'.leftovers ≡ has_leftover i s.leftovers) → Holds es x lanes leases e
      dropped_holds test tokens lost drop left = (
        subst (λ a. Agrees a (lanes_of lanes) (map lease_of leases))
            (sym (told ∙ dropped_moves es x _ e name s s' on no_call (λ u. told_same es e u no_answer) test once.tokens tokens lost))
            (rest_keeps _ (lanes_of lanes) (map lease_of leases) (resting_in (changed_by (x.place + 1) e x).stacks)
            (drop_keeps (account_of es x) (lanes_of lanes) (map lease_of leases) _ (role_in (changed_by (x.place + 1) e x).stacks) h.agrees drop) rests),
        orderly (λ i. alike (left i)),
      )

  -- a later phase, and an end
  pub phase_holds : (number : ℕ) (p : Phase) (c : Option Cause) → MayFollow schemas x out (Entry.Phase number p c) → Holds es x lanes leases (Entry.Phase number p c)
  phase_holds number p c may =
      stays_holds (Entry.Phase number p c) may.0 may.1 _ refl may.3 refl may tt tt (phase_moves es x may.0 may.1 number p c (h.orderly).own may.3)
      (phase_quiet (x.place + 1) number p c may.1).leftovers

  pub done_holds : (number : ℕ) (state : Status) (failed : List (List ℕ)) → MayFollow schemas x out (Entry.Done number state failed)
      → Holds es x lanes leases (Entry.Done number state failed)
  done_holds number state failed may =
      stays_holds (Entry.Done number state failed) may.0 may.1 _ refl may.3 refl may tt tt (done_moves es x may.0 may.1 number state failed (h.orderly).own may.3)
      (done_quiet (x.place + 1) number state failed may.1).leftovers

  -- a resource, or a create without an id, is kept
  module _ (number : ℕ) (path : List ℕ) (w : Why) (name : List ℕ) (s : StackState) (going : stack_of_operation number x ≡ Some (name, s)) where
    known_holds : (physical : List ℕ) → MayFollow schemas x out (Entry.Kept number path physical w) → (r : Held) → held_in physical s ≡ Some r
        → Holds es x lanes leases (Entry.Kept number path physical w)
    known_holds physical may r held =
        let e : Entry = Entry.Kept number path physical w in
        let role = role_of (at_one schemas x out h.orderly steady e name s refl going) physical r held in
        let of_lane : IsOfLane (lane_of physical) physical = ((((h.agrees).tied).books).homes physical (thing_of name r) role).0 in (
          subst (λ a. Agrees a (lanes_of lanes) (map lease_of leases))
              (sym (kept_moves es x name s r number path physical w (h.orderly).own going held ((h.agrees).tied).books))
              (drop_keeps (account_of es x) (lanes_of lanes) (map lease_of leases) _ (kept_role physical (role_in x.stacks)) h.agrees
              (kept_may (account_of es x) (lanes_of lanes) physical (thing_of name r) ((h.agrees).tied).books role)),
          orderly e name s _ refl going (keeps_known (x.place + 1) number path physical w s r held (lane_of physical) of_lane) may tt tt
              (λ i. left i (bytes_eq i physical) refl),
        )
      where
        left : (i : List ℕ) (b : Bool) → bytes_eq i physical ≡ b → IsLeftAlike s (kept_stack (x.place + 1) number path physical w s) i
        left i true e = let same = bytes_same i physical e in taken r (ap (λ j. held_in j s) same ∙ held) (cc (gone_without i physical s.held same, gone_without i physical s.made same))
        left i false e = alike (grind (arith, left_more i s.leftovers (record { path = path; physical = physical; why = w })))

    unknown_holds : MayFollow schemas x out (Entry.Kept number path [] w) → list_any (is_create_at path) s.tokens ≡ true
        → Holds es x lanes leases (Entry.Kept number path [] w)
    unknown_holds may create =
        let e : Entry = Entry.Kept number path [] w in
        let t : StackState = unknown_stack (x.place + 1) number path w s in
        let is = keeps_unknown (x.place + 1) number path w s create in
        let at = on e name s _ refl going is may tt tt in
        let one : IsOnce s = once e name s _ refl going is may tt tt in
        let left = λ (i : List ℕ). unknown_more i s.leftovers (record { path = path; physical = unknown_id; why = w } ∷ []) lone in
        let roles = λ (i : List ℕ). role_same at.one i (ap (role_found name (held_in i s)) (left i)) in
        dropped_holds e name s _ refl going is may tt tt refl refl refl
        (λ m r. sym (resting_same at.one m (not_resting s t (is_working number x name s going) refl)) ∙ r) (is_create_at path) refl
        (lost_among (is_create_at path) s.tokens (filter (is_create_at path) s.tokens) one.tokens (at_path path s.tokens) (to_path path s.tokens) s t refl)
        (may_drop_creates (account_of es x) (lanes_of lanes) _ _ ((h.agrees).tied).books roles (dropped_creates x _ name s _ at path)) left
      where
        lone : (l : Left) → In l (record { path = path; physical = unknown_id; why = w } ∷ []) → l.physical ≡ unknown_id
        lone l i = ap (λ (z : Left). z.physical) (in_one l _ i)

  pub kept_holds : (number : ℕ) (path physical : List ℕ) (w : Why) → MayFollow schemas x out (Entry.Kept number path physical w)
      → Holds es x lanes leases (Entry.Kept number path physical w)
  kept_holds number path physical w (name, s, stage, going, is, m) = elim (kept_which stage out s path physical w m) [
    | inl (r, i, e) ↦ (let (g, f) = held_of physical s r i e in known_holds number path w name s going physical (name, s, stage, going, is, m) g f)
    | inr (none, create) ↦ subst (λ j. MayFollow schemas x out (Entry.Kept number path j w) → Holds es x lanes leases (Entry.Kept number path j w)) (sym none)
        (λ z. unknown_holds number path w name s going z create) (name, s, stage, going, is, m)
  ]

  -- the lanes of the open calls are raised
  abbrev AreRaised : Type 0
  AreRaised = (l : Lane) → In l lanes → In (named_lane l) x.lanes → l.state.fence ≡ x.epoch

  raised : AreRaised → (t : ℕ) (o : Open) → (account_of es x).open_ t ≡ Some o → ((lanes_of lanes).lane o.lane).fence ≡ x.epoch
  raised all t o e = grind (arith, map_some, found_name, named_found, there_is, found_one)

  -- an operation begins
  module _ (number : ℕ) (n : List ℕ) (k : Begun) (may : MayFollow schemas x out (Entry.Begin number n k)) where
    abbrev begun_stack : StackState
    begun_stack = (effect_at (x.place + 1) (Entry.Begin number n k) (known_stack n x)).stack

    mine : stack_for (Entry.Begin number n k) x ≡ Some (n, known_stack n x)
    mine = grind arith

    has_next : HasNextNumber (Entry.Begin number n k) x
    has_next = let next : number ≡ x.operation + 1 = may.0 in omega (arith, next)

    -- no other stack rests
    rests : is_at_rest begun_stack ≡ false → (m : List ℕ) → resting_in (changed_by (x.place + 1) (Entry.Begin number n k) x).stacks m ≡ true → resting_in x.stacks m ≡ true
    rests off m r = grind (arith, after_stacks, put_by, mine, bytes_or, put_here, put_else, other_bytes)

    begun_quiet : is_at_rest begun_stack ≡ false → Quiet (known_stack n x) begun_stack → Holds es x lanes leases (Entry.Begin number n k)
    begun_quiet off = quiet_holds (Entry.Begin number n k) n (known_stack n x) begun_stack refl mine refl may tt has_next refl refl refl (rests off)

  continue_holds : (number : ℕ) (n : List ℕ) (paths : List (List ℕ)) → MayFollow schemas x out (Entry.Begin number n (Begun.Continue paths))
      → AreRaised → Holds es x lanes leases (Entry.Begin number n (Begun.Continue paths))
  continue_holds number n paths may all =
      let k : Begun = Begun.Continue paths in
      let e : Entry = Entry.Begin number n k in
      let s : StackState = known_stack n x in
      let at = on e n s _ refl (mine number n k may) refl may tt (has_next number n k may) in
      let one : IsOnce s = once e n s _ refl (mine number n k may) refl may tt (has_next number n k may) in
      let skipped : Pending → Bool = λ p. is_among p.path paths in
      let left : (i : List ℕ) → has_leftover i (begun_stack number n k may).leftovers ≡ has_leftover i s.leftovers =
      λ i. unknown_more i s.leftovers (map lost_create (skipped_creates paths s.tokens))
      (λ l i. let (p, j, e) = map_in lost_create l (skipped_creates paths s.tokens) i in ap (λ (z : Left). z.physical) (sym e)) in
      dropped_holds e n s _ refl (mine number n k may) refl may tt (has_next number n k may) refl refl refl (rests number n k may refl) skipped refl
      (lost_among skipped s.tokens (skipped_creates paths s.tokens) one.tokens (at_paths paths s.tokens) (to_paths paths s.tokens) s (begun_stack number n k may) refl)
      (may_skip x _ n s _ at paths refl refl left es (lanes_of lanes) ((h.agrees).tied).books one.ids
      ((known_steady x steady n).gives_up (grind arith)) (grind (arith, may.1, may.2.2)) (raised all)) left

  pub begun_holds : (number : ℕ) (n : List ℕ) (k : Begun) → MayFollow schemas x out (Entry.Begin number n k) → AreRaised
      → Holds es x lanes leases (Entry.Begin number n k)
  begun_holds number n (Begun.Continue paths) may all = continue_holds number n paths may all
  begun_holds number n (Begun.Delete paths) may all = begun_quiet number n (Begun.Delete paths) may refl (alike_quiet _ _ refl refl refl refl refl)
  begun_holds number n (Begun.Create source) may all =
      let none = ((known_steady x steady n).rests (or_left (creates_from (known_stack n x).status) (updates_from (known_stack n x).status) may.1)).1 in
      begun_quiet number n (Begun.Create source) may refl (alike_quiet _ _ refl (sym none) refl refl refl)
  begun_holds number n (Begun.Update source) may all =
      let none = ((known_steady x steady n).rests (or_right (creates_from (known_stack n x).status) (updates_from (known_stack n x).status) may.1)).1 in
      begun_quiet number n (Begun.Update source) may refl (alike_quiet _ _ refl (sym none) refl refl refl)

  -- a change set
  pub set_holds : (number : ℕ) (n : List ℕ) (source : Source) (rows : List Row) (outputs : Bool) → MayFollow schemas x out (Entry.ChangeSet number n source rows outputs)
      → Holds es x lanes leases (Entry.ChangeSet number n source rows outputs)
  set_holds number n source rows outputs may =
      let s : StackState = known_stack n x in
      let e : Entry = Entry.ChangeSet number n source rows outputs in
      let idle : is_in_progress (reviewed s.status) ≡ is_in_progress s.status = grind arith in
      let at = on e n s _ refl refl refl may tt tt in
      quiet_holds e n s _ refl refl refl may tt tt refl refl refl (λ m r. sym (resting_same at.one m (ap (λ b. not b && is_opened_since s) idle)) ∙ r)
      (alike_quiet s _ refl refl refl refl refl)
