-- What is superseded is cleaned up: it waits, was deleted, or is left over, with each entry of the cleanup of an update.
use Rattle.std.proofs.Common.{◌≡◌, ◌∙◌, ◌⊎◌, inl, inr, ◌++◌, ◌∷◌, ◌==◌, ℕ, ◌+◌, Bool, true, false, cond, not, List, [], Option, Some, None, filter, find, map, refl, sym, ap, subst, true≢false, arith}
use Rattle.std.specs.Prelude.{is_some}
use Rattle.std.specs.List.{list_any}
use Rattle.std.specs.Str.{bytes_eq}
use Rattle.cf_tree.specs.Lists.{In}
use Rattle.cf_tree.specs.declared.code.Code.TheVariants as code
use Rattle.cf_tree.specs.declared.request.Request.{Request}
use Rattle.cf_tree.specs.declared.request.Request.TheVariants as request
use Rattle.cf_schema.specs.declared.described.Schema.{Schema}
use Rattle.cf_entry.specs.declared.entry.Entry.{Entry}
use Rattle.cf_entry.specs.declared.entry.Entry.TheVariants as entry
use Rattle.cf_entry.specs.declared.entry.Reply.{Reply}
use Rattle.cf_entry.specs.declared.entry.Reply.TheVariants as reply
use Rattle.cf_entry.specs.declared.status.Status.{Status}
use Rattle.cf_entry.specs.declared.status.Status.TheVariants as status
use Rattle.cf_entry.specs.declared.turn.Why.{Why}
use Rattle.cf_effect.specs.declared.call.Call.{Call}
use Rattle.cf_effect.specs.declared.held.Held.{Held}
use Rattle.cf_effect.specs.declared.held.HeldStatus.TheVariants.{DeleteFailed, UpdateFailed}
use Rattle.cf_effect.specs.declared.held.Leftover.{Leftover}
use Rattle.cf_effect.specs.declared.held.Pending.{Pending}
use Rattle.cf_effect.specs.Calls.{anew, answered_call, is_call, is_refusal, is_restore, new_call, was_refused, where_call}
use Rattle.cf_effect.specs.End.{left_in_doubt, marked}
use Rattle.cf_effect.specs.Fold.{effect_at}
use Rattle.cf_effect.specs.Reply.{answered, closing, intending, keeping, keeping_known, keeping_unknown, replied, updating}
use Rattle.cf_effect.specs.Status.{Clean, Stage, stage_of}
use Rattle.cf_effect.specs.Words.{deletes, has_physical, has_token, is_create_at, is_on, pending_of, resources_of, unknown_id, where_physical, without}
use Rattle.cf_effect.specs.World.{StackState, World}
use Rattle.cf_plan.specs.Follow.{EndsAs, MayFollowIn}
use Rattle.cf_plan.specs.Run.{IsOwn}
use Rattle.cf_plan.proofs.ChangedLists.{each_map}
use Rattle.cf_core.specs.Fits.{Fits}
use Rattle.cf_core.specs.Foretold.{CleanupBeginsTold, CleanupIsTold, HasOwnCalls, IsCleanedUp, deleted, left, waits}
use Rattle.cf_core.specs.Tidying.{of_update}
use Rattle.cf_core.specs.Written as to
use Rattle.cf_core.specs.Written.{IsTo}
use Rattle.cf_core.proofs.AdvSteps.{row_only}
use Rattle.cf_core.proofs.Cleanups.{never_begins, never_turns, some_same, to_changed, turned_to}
use Rattle.cf_core.proofs.Lemmas.{bytes_eq-Decides, eq-eqb, eqb-true, found_one, in_end, in_filter, in_front, in_kept, in_map, in_more}
use Rattle.cf_core.proofs.Moving.{written_is_to, written_moves}

-- The three parts, over lists.
abbrev IsWaiting : List Held → List ℕ → Type 0
IsWaiting hs id = (r : Held) × In r hs × (r.physical ≡ id) × (r.superseded ≡ true)

abbrev HasGone : ℕ → List Call → List ℕ → Type 0
HasGone n cs id = (c : Call) × In c cs × (c.number ≡ n) × (deletes id c.request ≡ true) × (is_some c.answer ≡ true) × (was_refused c ≡ false)

abbrev IsLeft : List Leftover → List ℕ → Type 0
IsLeft ls id = (l : Leftover) × In l ls × (l.physical ≡ id)

abbrev Cleaned : ℕ → List Held → List Call → List Leftover → List ℕ → Type 0
Cleaned n hs cs ls id = IsWaiting hs id ⊎ (HasGone n cs id ⊎ IsLeft ls id)

to_parts : (s : StackState) (id : List ℕ) → IsCleanedUp s id → Cleaned s.operation s.held s.ledger s.leftovers id
to_parts s id (waits r i same old) = inl (r, i, same, old)
to_parts s id (deleted (c, i, asks, answers, kept)) =
    let f = in_filter (λ d. d.number == s.operation) s.ledger c i in
    inr (inl (c, f.0, eqb-true c.number s.operation f.1, asks, answers, kept))
to_parts s id (left l) = inr (inr l)

of_parts : (s : StackState) (id : List ℕ) → Cleaned s.operation s.held s.ledger s.leftovers id → IsCleanedUp s id
of_parts s id (inl (r, i, same, old)) = waits r i same old
of_parts s id (inr (inl (c, i, own, asks, answers, kept))) =
    deleted (c, in_kept (λ d. d.number == s.operation) s.ledger c i (eq-eqb c.number s.operation own), asks, answers, kept)
of_parts s id (inr (inr l)) = left l

-- the calls are of one operation
abbrev AreOf : ℕ → List Call → Type 0
AreOf n cs = (c : Call) → In c cs → c.number ≡ n

-- a row that is answered stays so
abbrev StayAnswered : List Call → List Call → Type 0
StayAnswered cs ds = (c : Call) → In c cs → is_some c.answer ≡ true → (d : Call) × In d ds × (d.number ≡ c.number) × (d.request ≡ c.request) × (d.answer ≡ c.answer)

-- So they stay, where what waits still does, or is gone or left over, and answers and leftovers stay.
module _ (n : ℕ) (hs gs : List Held) (cs ds : List Call) (ls ks : List Leftover) (still : (r : Held) → In r hs → r.superseded ≡ true → Cleaned n gs ds ks r.physical)
    (stay : StayAnswered cs ds) (more : (l : Leftover) → In l ls → In l ks) where
  moved : (id : List ℕ) → Cleaned n hs cs ls id → Cleaned n gs ds ks id
  moved id (inl (r, i, same, old)) = subst (Cleaned n gs ds ks) same (still r i old)
  moved id (inr (inl (c, i, own, asks, answers, kept))) =
      let (d, j, number, asked, answer) = stay c i answers in
      inr (inl (d, j, number ∙ own, ap (deletes id) asked ∙ asks, ap (λ a. is_some a) answer ∙ answers, ap (λ q. is_refusal q d.answer) asked ∙ ap (is_refusal c.request) answer ∙ kept))
  moved id (inr (inr (l, i, same))) = inr (inr (l, more l i, same))

-- a resource that is kept, as a leftover
abbrev as_left : List ℕ → List ℕ → Why → Leftover
as_left path physical w = record { path = path; physical = physical; why = w }

-- an open call leaves what a resource is, but for its status
marked_same : (o : Option Pending) (h : Held) → ((left_in_doubt o h).physical ≡ h.physical) × ((left_in_doubt o h).superseded ≡ h.superseded)
marked_same None h = (refl, refl)
marked_same (Some p) h = (refl, refl)

-- each row anew is of its number
number_answered : (b : Bool) (a : Reply) (c : Call) → (cond b (answered_call a c) c).number ≡ c.number
number_answered true (reply.Success physical attrs) c = refl
number_answered true (reply.Failed k) c = refl
number_answered true reply.Doubt c = refl
number_answered false a c = refl

request_answered : (a : Reply) (c : Call) → (answered_call a c).request ≡ c.request
request_answered (reply.Success physical attrs) c = refl
request_answered (reply.Failed k) c = refl
request_answered reply.Doubt c = refl

module _ (s : StackState) (own : HasOwnCalls s) where
  -- what each entry leaves of the calls, and of what is cleaned up
  abbrev Stays : StackState → Type 0
  Stays u = AreOf u.operation u.ledger × ((id : List ℕ) → Cleaned s.operation s.held s.ledger s.leftovers id → Cleaned u.operation u.held u.ledger u.leftovers id)

  as_it_was : Stays s
  as_it_was = (own, λ id h. h)

  same_rows : StayAnswered s.ledger s.ledger
  same_rows c i answers = (c, i, refl, refl, refl)

  same_waits : (ds : List Call) (ks : List Leftover) (r : Held) → In r s.held → r.superseded ≡ true → Cleaned s.operation s.held ds ks r.physical
  same_waits ds ks r i old = inl (r, i, refl, old)

  -- the resource of an id is off its list, and that tells where it went
  off_list : (id : List ℕ) (ds : List Call) (ks : List Leftover) → HasGone s.operation ds id ⊎ IsLeft ks id
      → (r : Held) → In r s.held → r.superseded ≡ true → Cleaned s.operation (without id s.held) ds ks r.physical
  off_list id ds ks went r i old = by (has_physical id r) refl where
    by : (b : Bool) → has_physical id r ≡ b → Cleaned s.operation (without id s.held) ds ks r.physical
    by true e = inr (subst (λ k. HasGone s.operation ds k ⊎ IsLeft ks k) ((bytes_eq-Decides id r.physical).0 e) went)
    by false e = inl (r, in_kept (λ h. not (has_physical id h)) s.held r i (ap not e), refl, old)

  -- a resource is kept
  kept_so : (path physical : List ℕ) (w : Why) → Stays (keeping path physical w s)
  kept_so path physical w = by (bytes_eq physical []) (list_any (is_create_at path) s.tokens) (list_any (has_physical physical) (resources_of s)) where
    by : (b c d : Bool) → Stays (cond b (cond c (keeping_unknown path w s) s) (cond d (keeping_known path physical w s) s))
    by true true d = (
      own,
      moved s.operation s.held s.held s.ledger s.ledger s.leftovers (s.leftovers ++ as_left path unknown_id w ∷ []) (same_waits s.ledger (s.leftovers ++ as_left path unknown_id w ∷ []))
          same_rows (λ l i. in_front l s.leftovers (as_left path unknown_id w ∷ []) i),
    )
    by true false d = as_it_was
    by false c true = (
      own,
      moved s.operation s.held (without physical s.held) s.ledger s.ledger s.leftovers (s.leftovers ++ as_left path physical w ∷ [])
          (off_list physical s.ledger (s.leftovers ++ as_left path physical w ∷ []) (inr (as_left path physical w, in_end (as_left path physical w) s.leftovers, refl)))
          same_rows (λ l i. in_front l s.leftovers (as_left path physical w ∷ []) i),
    )
    by false c false = as_it_was

  -- a call goes out
  intended_so : (number : ℕ) (p : Pending) → number ≡ s.operation → Stays (intending number p s)
  intended_so number p same = by (list_any (has_token p.token) s.tokens) where
    rows : List Call
    rows = s.ledger ++ new_call number s.status p ∷ []

    by : (b : Bool) → Stays (cond b s (record s { tokens = s.tokens ++ p ∷ []; ledger = rows }))
    by true = as_it_was
    by false = (
      in_more (λ (c : Call). c.number ≡ s.operation) (new_call number s.status p) s.ledger own same,
      moved s.operation s.held s.held s.ledger rows s.leftovers s.leftovers (same_waits rows s.leftovers) (λ c i answers. (c, in_front c s.ledger (new_call number s.status p ∷ []) i, refl, refl, refl)) (λ l i. i),
    )

  -- all rows are counted anew
  anew_so : Stays (record s { ledger = map anew s.ledger })
  anew_so = (
    each_map (λ (c : Call). c.number ≡ s.operation) anew s.ledger own,
    moved s.operation s.held s.held s.ledger (map anew s.ledger) s.leftovers s.leftovers (same_waits (map anew s.ledger) s.leftovers)
        (λ c i answers. (anew c, in_map anew c s.ledger i, refl, refl, refl)) (λ l i. i),
  )

  -- An open call is answered.
  module _ (x : World) (fits : Fits x s) (token : ℕ) (p : Pending) (open_ : pending_of token s ≡ Some p) (a : Reply) where
    abbrev in_tokens : In p s.tokens
    in_tokens = (found_one (has_token token) s.tokens p open_).0

    abbrev named : has_token token p ≡ true
    named = (found_one (has_token token) s.tokens p open_).1

    abbrev row : Call
    row = (fits.rows p in_tokens).0

    abbrev rows : List Call
    rows = where_call token (answered_call a) s.ledger

    own_rows : AreOf s.operation rows
    own_rows = each_map (λ (c : Call). c.number ≡ s.operation) (λ c. cond (is_call token c) (answered_call a c) c) s.ledger (λ c i. number_answered (is_call token c) a c ∙ own c i)

    -- its row was not answered, and the others stay
    others_stay : StayAnswered s.ledger rows
    others_stay c i answers = by (is_call token c) refl where
      unanswered : c ≡ row → ⊥
      unanswered same = true≢false (sym answers ∙ ap (λ (d : Call). is_some d.answer) same ∙ ap (λ o. is_some o) (fits.rows p in_tokens).2.unanswered)

      by : (b : Bool) → is_call token c ≡ b → (d : Call) × In d rows × (d.number ≡ c.number) × (d.request ≡ c.request) × (d.answer ≡ c.answer)
      by true e = absurd (unanswered (row_only x s fits token p in_tokens named c i e))
      by false e = (c, subst (λ b. In (cond b (answered_call a c) c) rows) e (in_map (λ d. cond (is_call token d) (answered_call a d) d) c s.ledger i), refl, refl, refl)

    answers_so : (hs : List Held) → ((r : Held) → In r s.held → r.superseded ≡ true → Cleaned s.operation hs rows s.leftovers r.physical)
        → AreOf s.operation rows × ((id : List ℕ) → Cleaned s.operation s.held s.ledger s.leftovers id → Cleaned s.operation hs rows s.leftovers id)
    answers_so hs still = (own_rows, moved s.operation s.held hs s.ledger rows s.leftovers s.leftovers still others_stay (λ l i. i))

    held_so : AreOf s.operation rows × ((id : List ℕ) → Cleaned s.operation s.held s.ledger s.leftovers id → Cleaned s.operation s.held rows s.leftovers id)
    held_so = answers_so s.held (same_waits rows s.leftovers)

    -- a resource is changed, and keeps its id and whether it is superseded
    changed_so : (id : List ℕ) (f : Held → Held) → ((r : Held) → ((f r).physical ≡ r.physical) × ((f r).superseded ≡ r.superseded)) → (b : Bool)
        → Stays (closing token a (cond b (record s { held = where_physical id f s.held }) (record s { made = where_physical id f s.made })))
    changed_so id f same true = answers_so (where_physical id f s.held) still where
      still : (r : Held) → In r s.held → r.superseded ≡ true → Cleaned s.operation (where_physical id f s.held) rows s.leftovers r.physical
      still r i old = by (to_changed (has_physical id) f s.held r i) where
        by : (q : Held) × In q (where_physical id f s.held) × ((q ≡ r) ⊎ (q ≡ f r)) → Cleaned s.operation (where_physical id f s.held) rows s.leftovers r.physical
        by (q, j, inl e) = inl (q, j, ap (λ (h : Held). h.physical) e, ap (λ (h : Held). h.superseded) e ∙ old)
        by (q, j, inr e) = inl (q, j, ap (λ (h : Held). h.physical) e ∙ (same r).0, ap (λ (h : Held). h.superseded) e ∙ (same r).1 ∙ old)
    changed_so id f same false = held_so

    -- the row of a deletion, where that is answered for good
    gone : (id : List ℕ) → p.request ≡ request.Delete id → is_some (answered_call a row).answer ≡ true → is_refusal (request.Delete id) (answered_call a row).answer ≡ false
        → HasGone s.operation rows id
    gone id asks answers kept = (
      answered_call a row,
      subst (λ b. In (cond b (answered_call a row) row) rows) called (in_map (λ d. cond (is_call token d) (answered_call a d) d) row s.ledger found.0),
      number_answered true a row ∙ own row found.0,
      ap (deletes id) asked ∙ (bytes_eq-Decides id id).1 refl,
      answers,
      ap (λ q. is_refusal q (answered_call a row).answer) asked ∙ kept,
    ) where
      found : In row s.ledger × (is_call p.token row ≡ true)
      found = found_one (is_call p.token) s.ledger row (fits.rows p in_tokens).1

      called : is_call token row ≡ true
      called = ap (λ m. is_call m row) (eqb-true token p.token named) ∙ found.1

      asked : (answered_call a row).request ≡ request.Delete id
      asked = request_answered a row ∙ (fits.rows p in_tokens).2.request ∙ asks

    deleted_so : (id : List ℕ) → HasGone s.operation rows id
        → AreOf s.operation rows × ((k : List ℕ) → Cleaned s.operation s.held s.ledger s.leftovers k → Cleaned s.operation (without id s.held) rows s.leftovers k)
    deleted_so id went = answers_so (without id s.held) (off_list id rows s.leftovers (inl went))

  module _ (x : World) (fits : Fits x s) (token : ℕ) (p : Pending) (open_ : pending_of token s ≡ Some p) where
    answered_so : (restores : Bool) (r : Request) → p.request ≡ r → (a : Reply) → Stays (closing token a (answered restores p.path r a s))
    answered_so restores (request.Create k props) asks (reply.Success physical attrs) = held_so x fits token p open_ (reply.Success physical attrs)
    answered_so restores (request.Create k props) asks (reply.Failed c) = held_so x fits token p open_ (reply.Failed c)
    answered_so restores (request.Create k props) asks reply.Doubt = held_so x fits token p open_ reply.Doubt
    answered_so restores (request.Update id props) asks (reply.Success physical attrs) =
        changed_so x fits token p open_ (reply.Success physical attrs) id (updating props attrs) (λ r. (refl, refl)) (list_any (has_physical id) s.held)
    answered_so true (request.Update id props) asks (reply.Failed c) =
        changed_so x fits token p open_ (reply.Failed c) id (λ h. record h { status = UpdateFailed }) (λ r. (refl, refl)) (list_any (has_physical id) s.held)
    answered_so false (request.Update id props) asks (reply.Failed c) = held_so x fits token p open_ (reply.Failed c)
    answered_so restores (request.Update id props) asks reply.Doubt = held_so x fits token p open_ reply.Doubt
    answered_so restores (request.Delete id) asks (reply.Success physical attrs) =
        deleted_so x fits token p open_ (reply.Success physical attrs) id (gone x fits token p open_ (reply.Success physical attrs) id asks refl refl)
    answered_so restores (request.Delete id) asks (reply.Failed code.NotFound) =
        deleted_so x fits token p open_ (reply.Failed code.NotFound) id (gone x fits token p open_ (reply.Failed code.NotFound) id asks refl refl)
    answered_so restores (request.Delete id) asks (reply.Failed c) =
        changed_so x fits token p open_ (reply.Failed c) id (λ h. record h { status = DeleteFailed }) (λ r. (refl, refl)) (list_any (has_physical id) s.held)
    answered_so restores (request.Delete id) asks reply.Doubt = held_so x fits token p open_ reply.Doubt

  replied_so : (x : World) → Fits x s → (token : ℕ) (a : Reply) (o : Option Pending) → pending_of token s ≡ o → Stays (replied token a o s)
  replied_so x fits token a None e = as_it_was
  replied_so x fits token a (Some p) e = answered_so x fits token p e (is_restore token s) p.request refl a

  -- it ends, and leaves in doubt what is open
  ended_so : (place number : ℕ) (failed : List (List ℕ)) → Stays (effect_at place (entry.Done number status.UpdateComplete failed) s).stack
  ended_so place number failed = (
    own,
    moved s.operation s.held (map (marked s.tokens) s.held) s.ledger s.ledger s.leftovers s.leftovers
        (λ r i old. let k = marked_same (find (is_on r.physical) s.tokens) r in inl (marked s.tokens r, in_map (marked s.tokens) r s.held i, k.0, k.1 ∙ old)) same_rows (λ l i. i),
  )

ends_so : (schemas : List Schema) (name : List ℕ) (x : World) (s : StackState) (state : Status) → EndsAs schemas name x s status.UpdateCompleteCleanupInProgress state
    → state ≡ status.UpdateComplete
ends_so schemas name x s state e = grind arith

module _ (schemas : List Schema) (x : World) (out : List ℕ) (name : List ℕ) (s : StackState) (fits : Fits x s) (is : s.status ≡ status.UpdateCompleteCleanupInProgress)
    (own : HasOwnCalls s) where
  by_own : (place : ℕ) (e : Entry) → IsOwn s.operation e → MayFollowIn schemas name x out s Clean e → Stays s own (effect_at place e s).stack
  by_own place (entry.Kept number path physical w) same may = kept_so s own path physical w
  by_own place (entry.Intent number token lane path r) same may = intended_so s own number (record { token = token; path = path; lane = lane; request = r }) same
  by_own place (entry.Outcome number token a before after) same may = replied_so s own x fits token a (pending_of token s) refl
  by_own place (entry.Phase number p c) same may = absurd (never_turns schemas name x s Clean status.UpdateCompleteCleanupInProgress of_update is p c may.1)
  by_own place (entry.Done number state failed) same may =
      subst (λ z. Stays s own (effect_at place (entry.Done number z failed) s).stack)
      (sym (ends_so schemas name x s state (subst (λ z. EndsAs schemas name x s z state) is may.2))) (ended_so s own place number failed)
  by_own place e same may = absurd same

  to_cleaned : {e : Entry} {t : StackState} → IsTo schemas x out name s e t → Stays s own t
  to_cleaned (to.step {e = e} stage in_stage same may) =
      by_own (x.place + 1) e same (subst (λ (g : Stage). MayFollowIn schemas name x out s g e) (some_same stage Clean (sym in_stage ∙ ap stage_of is)) may)
  to_cleaned (to.begins k from by) = absurd (never_begins Clean status.UpdateCompleteCleanupInProgress of_update s is k from)
  to_cleaned (to.reviewed number source shown outputs from) = as_it_was s own
  to_cleaned (to.opened epoch lanes) = anew_so s own
  to_cleaned to.other = as_it_was s own

pub cleanup_told : CleanupIsTold
cleanup_told schemas x out e name s t w is own =
    let k = to_cleaned schemas x out name s w.fits is own (written_is_to schemas x out e name s t w) in
    (k.0, λ id c. of_parts t id (k.1 id (to_parts s id c)))

pub cleanup_begins_told : CleanupBeginsTold
cleanup_begins_told schemas x out e name s t source w is now a =
    let l = turned_to schemas x out name s Clean status.UpdateCompleteCleanupInProgress of_update (λ k. let f = sym is ∙ k in cc) (written_moves w) now in
    subst (λ (cs : List Call). AreOf t.operation cs) (sym l.ledger)
    (each_map (λ (c : Call). c.number ≡ t.operation) anew s.ledger (λ c i. (a.calls c i).0 ∙ sym l.operation))
