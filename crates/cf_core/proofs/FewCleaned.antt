-- In a cleanup the operation deletes one resource a path.
use Rattle.std.proofs.Common.{◌≡◌, ◌⊎◌, inl, inr, ℕ, ◌+◌, ◌&&◌, ◌||◌, not, Bool, true, List, [], Option, Some, None, refl, sym, ap, subst, ◌∙◌, true≢false, map, find, arith}
use Rattle.cf_core.proofs.Words.{AreSingle, BackClean, Begun, Call, Cause, Clean, Code, EndsAs, Entry, Fits, Held, HeldStatus, HasNoDeletion, In, IntendsIn, IsAdvancing, IsCleanup, IsGoingBack, IsMove, IsOnCourse, IsOwn, IsTo, IsWritten, MayFollowIn, MayTurn, Pending, Phase, Reply, Request, Schema, Source, Stage, StackState, Status, World, anew, answered, begins, bytes_eq, cleaned_in, creates_from, current_at, deletes, deletes_nothing, effect_at, first_so, has_physical, has_token, is_on, is_restore, left_in_doubt, list_any, marked, of_rollback, of_update, opened, option_or, pending_of, replied, resources_of, second_so, settled_in, stage_of, step, turned, turning, updates_from, where_physical, whole_now, with_status, without}
use Rattle.cf_core.proofs.Lemmas.{bytes_eq-Decides, either_way, found_one, in_changed, in_either, in_filter, in_kept, not_so, some_is}
use Rattle.cf_core.proofs.{BackSteps.own_front, BackSteps.single_along, HidSeen.shape_stays, MovesStatus.status_moves, Moving.written_is_to, Moving.written_moves, Statuses.ended_status, Statuses.intended_way, Statuses.kept_way, Statuses.replied_status, Statuses.turned_status}
use Rattle.cf_core.proofs.Cleanups.{begun_at, cleanup_stage, from_changed, never_cleanup, never_turns, none_anew, turned_to}
use Rattle.cf_core.proofs.Counted.{Counts, IsKind, as_before, counts, none_yet, one_more}
use Rattle.cf_core.proofs.Few.{none_deletes}
use Rattle.cf_core.proofs.WholeKept.{cleans_done, finished}
use Rattle.cf_core.specs.FewCalls.{LeavesSo}
use Rattle.cf_core.specs.Moving as move
use Rattle.cf_core.specs.OnCourse.{IsOnWay}
use Rattle.cf_core.specs.StatusMoves.{StatusMoves}
use Rattle.cf_core.specs.StatusMoves as moves
use Rattle.cf_core.specs.Tokens.{AreDeletedAlone, CleansFew, deletes_at, deletes_other, is_deletion, number_of}
use Rattle.cf_core.specs.Written.{other, reviewed}
use Rattle.cf_plan.proofs.WholeFound.{IsFinished, stays_current}

pub is_deletes_kind : (path : List ℕ) → IsKind (deletes_at path)
is_deletes_kind path c d same =
    ap (λ p. bytes_eq path p && is_deletion d.request) same.path ∙ ap (λ r. bytes_eq path c.path && is_deletion r) same.request

pub is_other_kind : (path id : List ℕ) → IsKind (deletes_other path id)
is_other_kind path id c d same =
    ap (λ p. bytes_eq path p && (is_deletion d.request && not (deletes id d.request))) same.path
    ∙ ap (λ r. bytes_eq path c.path && (is_deletion r && not (deletes id r))) same.request

-- What is there was there before, with its id and path, and was superseded if it is.
abbrev pub Was : List Held → Held → Type 0
Was before r = (q : Held) × In q before × (q.physical ≡ r.physical) × (q.path ≡ r.path) × (q.superseded ≡ r.superseded)

abbrev pub WereThere : List Held → List Held → Type 0
WereThere before now = (r : Held) → In r now → Was before r

pub itself : (hs : List Held) → WereThere hs hs
itself hs r i = (r, i, refl, refl, refl)

pub none_made : (hs : List Held) → WereThere hs []
none_made hs r i = elim i [ ]

pub fewer : (id : List ℕ) (hs : List Held) → WereThere hs (without id hs)
fewer id hs r i = (r, (in_filter (λ h. not (has_physical id h)) hs r i).0, refl, refl, refl)

abbrev pub IsSame : Held → Held → Type 0
IsSame h k = (k.physical ≡ h.physical) × (k.path ≡ h.path) × (k.superseded ≡ h.superseded)

mark_same : (o : Option Pending) (h : Held) → IsSame h (left_in_doubt o h)
mark_same None h = (refl, refl, refl)
mark_same (Some p) h = (refl, refl, refl)

marks : (ps : List Pending) (hs : List Held) → WereThere hs (map (marked ps) hs)
marks ps hs r i =
    let m = in_changed (marked ps) hs r i in
    let k = mark_same (find (is_on m.one.physical) ps) m.one in
    (m.one, m.of_list, sym k.0 ∙ ap (λ (h : Held). h.physical) m.same, sym k.1 ∙ ap (λ (h : Held). h.path) m.same, sym k.2 ∙ ap (λ (h : Held). h.superseded) m.same)

-- the one of an id is changed
pub changed_there : (id : List ℕ) (f : Held → Held) → ((h : Held) → IsSame h (f h)) → (hs : List Held) → WereThere hs (where_physical id f hs)
changed_there id f same hs r i = let w = from_changed (has_physical id) f hs r i in by w.0 w.1 w.2 where
  by : (q : Held) → In q hs → (r ≡ q) ⊎ (r ≡ f q) → Was hs r
  by q j (inl e) = (q, j, ap (λ (h : Held). h.physical) (sym e), ap (λ (h : Held). h.path) (sym e), ap (λ (h : Held). h.superseded) (sym e))
  by q j (inr e) = let k = same q in (
    q,
    j,
    sym k.0 ∙ ap (λ (h : Held). h.physical) (sym e),
    sym k.1 ∙ ap (λ (h : Held). h.path) (sym e),
    sym k.2 ∙ ap (λ (h : Held). h.superseded) (sym e),
  )

restated : (id : List ℕ) (state : HeldStatus) (hs : List Held) → WereThere hs (where_physical id (λ h. record h { status = state }) hs)
restated id state hs = changed_there id (λ h. record h { status = state }) (λ h. (refl, refl, refl)) hs

module _ (s : StackState) where
  refused : (id : List ℕ) → WereThere s.made (with_status id HeldStatus.DeleteFailed s).made
  refused id =
      either_way (λ (u : StackState). WereThere s.made u.made) (list_any (has_physical id) s.held)
      (record s { held = where_physical id (λ h. record h { status = HeldStatus.DeleteFailed }) s.held })
      (record s { made = where_physical id (λ h. record h { status = HeldStatus.DeleteFailed }) s.made }) (itself s.made) (restated id HeldStatus.DeleteFailed s.made)

  pub deleted : (restores : Bool) (path id : List ℕ) (a : Reply) → WereThere s.made (answered restores path (Request.Delete id) a s).made
  deleted restores path id (Reply.Success physical attrs) = fewer id s.made
  deleted restores path id Reply.Doubt = itself s.made
  deleted restores path id (Reply.Failed Code.NotFound) = fewer id s.made
  deleted restores path id (Reply.Failed k) = refused id

  refused_held : (id : List ℕ) → WereThere s.held (with_status id HeldStatus.DeleteFailed s).held
  refused_held id =
      either_way (λ (u : StackState). WereThere s.held u.held) (list_any (has_physical id) s.held)
      (record s { held = where_physical id (λ h. record h { status = HeldStatus.DeleteFailed }) s.held })
      (record s { made = where_physical id (λ h. record h { status = HeldStatus.DeleteFailed }) s.made }) (restated id HeldStatus.DeleteFailed s.held) (itself s.held)

  deleted_held : (restores : Bool) (path id : List ℕ) (a : Reply) → WereThere s.held (answered restores path (Request.Delete id) a s).held
  deleted_held restores path id (Reply.Success physical attrs) = fewer id s.held
  deleted_held restores path id Reply.Doubt = itself s.held
  deleted_held restores path id (Reply.Failed Code.NotFound) = fewer id s.held
  deleted_held restores path id (Reply.Failed k) = refused_held id

  replies_held : (token : ℕ) (a : Reply) (o : Option Pending) → pending_of token s ≡ o
      → ((p : Pending) → In p s.tokens → (id : List ℕ) × (p.request ≡ Request.Delete id)) → WereThere s.held (replied token a o s).held
  replies_held token a None e all = itself s.held
  replies_held token a (Some p) e all =
      let d = all p (found_one (has_token token) s.tokens p e).0 in
      subst (λ r. WereThere s.held (answered (is_restore token s) p.path r a s).held) (sym d.1) (deleted_held (is_restore token s) p.path d.0 a)

  replies : (token : ℕ) (a : Reply) (o : Option Pending) → pending_of token s ≡ o → ((p : Pending) → In p s.tokens → (id : List ℕ) × (p.request ≡ Request.Delete id))
      → WereThere s.made (replied token a o s).made
  replies token a None e all = itself s.made
  replies token a (Some p) e all =
      let d = all p (found_one (has_token token) s.tokens p e).0 in
      subst (λ r. WereThere s.made (answered (is_restore token s) p.path r a s).made) (sym d.1) (deleted (is_restore token s) p.path d.0 a)

  pub turns : (place number : ℕ) (p : Phase) (c : Option Cause) → WereThere s.made (effect_at place (Entry.Phase number p c) s).stack.made
  turns place number Phase.Clean c = none_made s.made
  turns place number Phase.Back c = itself s.made
  turns place number Phase.BackClean c = itself s.made

  pub ends : (place number : ℕ) (failed : List (List ℕ)) (state : Status) → WereThere s.made (effect_at place (Entry.Done number state failed) s).stack.made
  ends place number failed Status.CreateComplete = none_made s.made
  ends place number failed Status.RollbackFailed = none_made s.made
  ends place number failed Status.UpdateRollbackComplete = marks s.tokens s.made
  ends place number failed Status.RollbackComplete = marks s.tokens s.made
  ends place number failed Status.DeleteComplete = marks s.tokens s.made
  ends place number failed state = marks s.tokens s.made

  -- each open call deletes, or the status changes
  abbrev Quiet : StackState → Type 0
  Quiet t = ((p : Pending) → In p s.tokens → (id : List ℕ) × (p.request ≡ Request.Delete id)) ⊎ (t.status ≡ s.status → ⊥)

  module _ (schemas : List Schema) (x : World) (out name : List ℕ) where
    stepped : (place : ℕ) (e : Entry) (stage : Stage) → IsOwn s.operation e → Quiet (effect_at place e s).stack → WereThere s.made (effect_at place e s).stack.made
    stepped place (Entry.Kept number path physical w) stage own q =
        kept_way (λ (u : StackState). WereThere s.made u.made) s (itself s.made) path physical w (itself s.made) (fewer physical s.made)
    stepped place (Entry.Intent number token lane path r) stage own q = intended where
      intended : WereThere s.made (effect_at place (Entry.Intent number token lane path r) s).stack.made
      intended = grind (arith, itself)
    stepped place (Entry.Outcome number token a before after) stage own (inl all) = replies token a (pending_of token s) refl all
    stepped place (Entry.Outcome number token a before after) stage own (inr differs) = absurd (differs (replied_status token a s))
    stepped place (Entry.Phase number p c) stage own q = turns place number p c
    stepped place (Entry.Done number state failed) stage own q = ends place number failed state
    stepped place e stage own q = absurd own

    pub begun_made : (place number : ℕ) (k : Begun) → WereThere s.made (effect_at place (Entry.Begin number name k) s).stack.made
    begun_made place number (Begun.Create source) = none_made s.made
    begun_made place number (Begun.Update source) = none_made s.made
    begun_made place number (Begun.Delete paths) = itself s.made
    begun_made place number (Begun.Continue paths) = itself s.made

    was_made : {e : Entry} {t : StackState} → IsTo schemas x out name s e t → Quiet t → WereThere s.made t.made
    was_made (step {e = e} stage at own may) q = stepped (x.place + 1) e stage own q
    was_made (begins k from by) q = begun_made (x.place + 1) (x.operation + 1) k
    was_made (reviewed number source rows outputs from) q = itself s.made
    was_made (opened epoch lanes) q = itself s.made
    was_made other q = itself s.made

-- What a cleanup asks for.
pub cleans_one : (schemas : List Schema) (name : List ℕ) (x : World) (s : StackState) (path : List ℕ) (stage : Stage) (at : Status) → IsCleanup stage at
    → (r : Request) → IntendsIn stage schemas name x s path r → (m : Held) × In m (cleaned_in stage s) × (r ≡ Request.Delete m.physical) × (path ≡ m.path)
cleans_one schemas name x s path _ _ of_update (Request.Delete id) (m, may, kept, p, is) =
    (m, in_kept (λ (h : Held). h.superseded) s.held m may.0 may.1, ap (λ i. Request.Delete i) is, p)
cleans_one schemas name x s path _ _ of_update (Request.Create kind props) may = absurd may
cleans_one schemas name x s path _ _ of_update (Request.Update id props) may = absurd may
cleans_one schemas name x s path _ _ of_rollback (Request.Delete id) (m, may, kept, p, is) = (m, may.0, ap (λ i. Request.Delete i) is, p)
cleans_one schemas name x s path _ _ of_rollback (Request.Create kind props) may = absurd may
cleans_one schemas name x s path _ _ of_rollback (Request.Update id props) may = absurd may

-- what is settled keeps its id and path
settled_same : (v : StackState) (h : Held) → ((settled_in (whole_now v) v h).physical ≡ h.physical) × ((settled_in (whole_now v) v h).path ≡ h.path)
settled_same v h = grind arith

-- the status from which a cleanup begins
abbrev comes_from : Stage → Status
comes_from Clean = Status.UpdateInProgress
comes_from _ = Status.UpdateRollbackInProgress

came_from : (a b : Status) (stage : Stage) → StatusMoves a b → IsCleanup stage b → (a ≡ b) ⊎ (a ≡ comes_from stage)
came_from _ _ stage moves.stays k = inl refl
came_from _ _ _ moves.cleans of_update = inr refl
came_from _ _ _ moves.back_cleans of_rollback = inr refl
came_from _ _ stage moves.reviewed k = elim k [ ]
came_from _ _ stage (moves.creates f) k = elim k [ ]
came_from _ _ stage (moves.updates f) k = elim k [ ]
came_from _ _ stage (moves.deletes f) k = elim k [ ]
came_from _ _ stage moves.continues k = elim k [ ]
came_from _ _ stage moves.creation_back k = elim k [ ]
came_from _ _ stage moves.created k = elim k [ ]
came_from _ _ stage moves.unmade k = elim k [ ]
came_from _ _ stage moves.unmaking_failed k = elim k [ ]
came_from _ _ stage moves.updated k = elim k [ ]
came_from _ _ stage moves.update_back k = elim k [ ]
came_from _ _ stage moves.rolled_back k = elim k [ ]
came_from _ _ stage moves.back_failed k = elim k [ ]
came_from _ _ stage moves.deleted k = elim k [ ]
came_from _ _ stage moves.deletion_failed k = elim k [ ]

-- What a move to an update's own cleanup leaves: what is superseded was held, and all calls count anew.
record Superseded (s u : StackState) : Type 0 where
  from : (r : Held) → In r u.held → r.superseded ≡ true → (q : Held) × In q s.held × (q.physical ≡ r.physical) × (q.path ≡ r.path)
  operation : u.operation ≡ s.operation
  ledger : u.ledger ≡ map anew s.ledger

module _ (schemas : List Schema) (x : World) (out name : List ℕ) (s : StackState) (fits : Fits x s) (forward : s.status ≡ Status.UpdateInProgress) (source : Source)
    (a : IsAdvancing schemas s source) where
  turned_clean : (number : ℕ) (why : Option Cause) → MayTurn schemas name x s Phase.Clean why
      → Superseded s (effect_at (x.place + 1) (Entry.Phase number Phase.Clean why) s).stack
  turned_clean number why may = record { from = from; operation = refl; ledger = refl } where
    v : StackState
    v = turning Phase.Clean s

    f : IsFinished v source
    f =
        let good = cleans_done schemas name x s why may in
        let g = finished schemas s source a name x (shape_stays schemas s source a) fits good.0 good.1 in
        record { going = g.going; shape = g.shape; no_flaw = g.no_flaw; each = g.each; ids = g.ids }

    from : (r : Held) → In r (map (settled_in (whole_now v) v) (resources_of v)) → r.superseded ≡ true → (q : Held) × In q s.held × (q.physical ≡ r.physical) × (q.path ≡ r.path)
    from r i gone =
        let m = in_changed (settled_in (whole_now v) v) (resources_of v) r i in
        let same = settled_same v m.one in
        elim (in_either m.one s.held s.made m.of_list) [
          | inl j ↦ (m.one, j, sym same.0 ∙ ap (λ (h : Held). h.physical) m.same, sym same.1 ∙ ap (λ (h : Held). h.path) m.same)
          | inr j ↦ absurd (true≢false (sym gone ∙ ap (λ (h : Held). h.superseded) (sym m.same)
              ∙ stays_current v source f m.one (ap (λ o. option_or o (current_at m.one.path s.held)) (a.single_made m.one j)) (a.made m.one j).ready.0))
        ]

  turns_clean : (number : ℕ) (p : Phase) (why : Option Cause) → MayTurn schemas name x s p why → turned s.status p ≡ Status.UpdateCompleteCleanupInProgress
      → Superseded s (effect_at (x.place + 1) (Entry.Phase number p why) s).stack
  turns_clean number Phase.Clean why may now = turned_clean number why may
  turns_clean number Phase.Back why may now =
      let k : Status.UpdateRollbackInProgress ≡ Status.UpdateCompleteCleanupInProgress = ap (λ (b : Status). turned b Phase.Back) (sym forward) ∙ now in let no : ⊥ = cc in absurd no
  turns_clean number Phase.BackClean why may now = let no : ⊥ = cc in absurd no

  cleans_by : {e : Entry} {u : StackState} → IsMove schemas x out name s e u → u.status ≡ Status.UpdateCompleteCleanupInProgress → Superseded s u
  cleans_by (move.stays q) now = let k : Status.UpdateInProgress ≡ Status.UpdateCompleteCleanupInProgress = sym forward ∙ sym q ∙ now in let no : ⊥ = cc in absurd no
  cleans_by (move.turns number p why q may) now = turns_clean number p why may (sym (turned_status (x.place + 1) number p s why) ∙ now)
  cleans_by (move.ends number state failed g q in_g may) now =
      absurd (never_cleanup schemas name x s Clean Status.UpdateCompleteCleanupInProgress of_update s.status
      (subst (EndsAs schemas name x s s.status) (sym (ended_status (x.place + 1) number state failed s) ∙ now) may.2))
  cleans_by (move.begins k from b) now = absurd (begun_at (x.place + 1) name (x.operation + 1) k s Clean Status.UpdateCompleteCleanupInProgress of_update now)
  cleans_by (move.reviewed number source rows outputs from) now =
      absurd (true≢false (sym from ∙ ap (λ (b : Status). creates_from b || updates_from b) forward))
  cleans_by move.other now = let k : Status.UpdateInProgress ≡ Status.UpdateCompleteCleanupInProgress = sym forward ∙ now in let no : ⊥ = cc in absurd no

-- What is superseded stays so in the cleanup.
module _ (schemas : List Schema) (x : World) (out name : List ℕ) (s : StackState) (cleans : s.status ≡ Status.UpdateCompleteCleanupInProgress)
    (all : (p : Pending) → In p s.tokens → (id : List ℕ) × (p.request ≡ Request.Delete id)) where
  held_step : (place : ℕ) (e : Entry) (stage : Stage) → IsOwn s.operation e → MayFollowIn schemas name x out s stage e
      → (effect_at place e s).stack.status ≡ Status.UpdateCompleteCleanupInProgress → WereThere s.held (effect_at place e s).stack.held
  held_step place (Entry.Kept number path physical w) stage own may now =
      kept_way (λ (u : StackState). WereThere s.held u.held) s (itself s.held) path physical w (itself s.held) (fewer physical s.held)
  held_step place (Entry.Intent number token lane path r) stage own may now =
      intended_way (λ (u : StackState). WereThere s.held u.held) s (itself s.held) number (record { token = token; path = path; lane = lane; request = r }) (itself s.held)
  held_step place (Entry.Outcome number token a before after) stage own may now = replies_held s token a (pending_of token s) refl all
  held_step place (Entry.Phase number p c) stage own may now =
      absurd (never_turns schemas name x s Clean Status.UpdateCompleteCleanupInProgress of_update cleans p c may.1)
  held_step place (Entry.Done number state failed) stage own may now =
      absurd (never_cleanup schemas name x s Clean Status.UpdateCompleteCleanupInProgress of_update s.status
      (subst (EndsAs schemas name x s s.status) (sym (ended_status place number state failed s) ∙ now) may.2))
  held_step place e stage own may now = absurd own

  held_there : {e : Entry} {t : StackState} → IsTo schemas x out name s e t → t.status ≡ Status.UpdateCompleteCleanupInProgress → WereThere s.held t.held
  held_there (step {e = e} stage at own may) now = held_step (x.place + 1) e stage own may now
  held_there (begins k from by) now = absurd (begun_at (x.place + 1) name (x.operation + 1) k s Clean Status.UpdateCompleteCleanupInProgress of_update now)
  held_there (reviewed number source rows outputs from) now = itself s.held
  held_there (opened epoch lanes) now = itself s.held
  held_there other now = itself s.held

module _ (schemas : List Schema) (x : World) (out : List ℕ) (e : Entry) (name : List ℕ) (s t : StackState) (w : IsWritten schemas x out e name s t)
    (way : IsOnWay schemas name x s) where
  abbrev counts_of : (test : Call → Bool) → IsKind test → Counts schemas x out name s test (number_of test t)
  counts_of test kind = counts test kind schemas x out e name s t w

  -- Where nothing was deleted, and no two of these that were there are of one path, so it is of those that are.
  module _ (rs us : List Held) (from : (r : Held) → In r us → (q : Held) × In q rs × (q.physical ≡ r.physical) × (q.path ≡ r.path)) where
    alone_first : AreSingle rs → HasNoDeletion t → AreDeletedAlone us t
    alone_first single none = record {
      single = λ r q i j same.
          let a = from r i in
          let b = from q j in
          sym a.2 ∙ ap (λ (h : Held). h.physical) (some_is a.0 b.0 (sym (single a.0 a.1) ∙ ap (λ p. current_at p rs) (a.3 ∙ same ∙ sym b.3) ∙ single b.0 b.1)) ∙ b.2;
      no_other = λ r i. none_deletes t none (deletes_other r.path r.physical) (λ c d. first_so (is_deletion c.request) _ (second_so (bytes_eq r.path c.path) _ d));
    }

  undeleted : deletes_nothing s.status ≡ true → t.operation ≡ s.operation → t.ledger ≡ map anew s.ledger → HasNoDeletion t
  undeleted nothing operation ledger = none_anew s t operation ledger (way.supported.undeleted nothing)

  begins_clean : s.status ≡ Status.UpdateInProgress → t.status ≡ Status.UpdateCompleteCleanupInProgress → AreDeletedAlone (cleaned_in Clean t) t
  begins_clean forward now =
      let c : (source : Source) × IsAdvancing schemas s source = subst (IsOnCourse schemas name x s) forward way.course.stage in
      let u = cleans_by schemas x out name s w.fits forward c.0 c.1 (written_moves w) now in
      alone_first s.held (cleaned_in Clean t) (λ r i. let f = in_filter (λ (h : Held). h.superseded) t.held r i in u.from r f.0 f.1)
      (single_along c.1.held (own_front s.held s.made w.fits.ids) c.1.single_before) (undeleted (ap deletes_nothing forward) u.operation u.ledger)

  begins_back : s.status ≡ Status.UpdateRollbackInProgress → t.status ≡ Status.UpdateRollbackCompleteCleanupInProgress → AreDeletedAlone (cleaned_in BackClean t) t
  begins_back back now =
      let never : s.status ≡ Status.UpdateRollbackCompleteCleanupInProgress → ⊥ = λ q.
      let k : Status.UpdateRollbackInProgress ≡ Status.UpdateRollbackCompleteCleanupInProgress = sym back ∙ q in let no : ⊥ = cc in no in
      let g : IsGoingBack s = subst (IsOnCourse schemas name x s) back way.course.stage in
      let u = turned_to schemas x out name s BackClean Status.UpdateRollbackCompleteCleanupInProgress of_rollback never (written_moves w) now in
      alone_first s.made t.made (λ r i. let a = was_made s schemas x out name (written_is_to schemas x out e name s t w) (inr (λ q. never (sym q ∙ now))) r i in (a.0, a.1, a.2, a.3))
      g.single_made (undeleted (ap deletes_nothing back) u.operation u.ledger)

  begins_alone : (stage : Stage) (at : Status) → IsCleanup stage at → s.status ≡ comes_from stage → t.status ≡ at → AreDeletedAlone (cleaned_in stage t) t
  begins_alone _ _ of_update from now = begins_clean from now
  begins_alone _ _ of_rollback from now = begins_back from now

  -- it goes on
  open_deletes : (stage : Stage) (at : Status) → IsCleanup stage at → s.status ≡ at → (p : Pending) → In p s.tokens → (id : List ℕ) × (p.request ≡ Request.Delete id)
  open_deletes _ _ of_update was p i = let c = (subst (IsOnCourse schemas name x s) was way.course.stage).calls p i in (c.0.physical, c.3)
  open_deletes _ _ of_rollback was p i = let c = (subst (IsOnCourse schemas name x s) was way.course.stage).calls p i in (c.0.physical, c.2)

  cleaned_there : (stage : Stage) (at : Status) → IsCleanup stage at → s.status ≡ at → t.status ≡ at
      → (r : Held) → In r (cleaned_in stage t) → (q : Held) × In q (cleaned_in stage s) × (q.physical ≡ r.physical) × (q.path ≡ r.path)
  cleaned_there _ _ of_update was now r i =
      let f = in_filter (λ (h : Held). h.superseded) t.held r i in
      let q = held_there schemas x out name s was (open_deletes Clean Status.UpdateCompleteCleanupInProgress of_update was) (written_is_to schemas x out e name s t w) now r f.0 in
      (q.0, in_kept (λ (h : Held). h.superseded) s.held q.0 q.1 (q.4 ∙ f.1), q.2, q.3)
  cleaned_there _ _ of_rollback was now r i =
      let q = was_made s schemas x out name (written_is_to schemas x out e name s t w) (inl (open_deletes BackClean Status.UpdateRollbackCompleteCleanupInProgress of_rollback was)) r i in
      (q.0, q.1, q.2, q.3)

  module _ (stage : Stage) (at : Status) (cleanup : IsCleanup stage at) (was : s.status ≡ at) (now : t.status ≡ at) (h : AreDeletedAlone (cleaned_in stage s) s) where
    no_other_now : (r : Held) → In r (cleaned_in stage s) → number_of (deletes_other r.path r.physical) t ≡ 0
    no_other_now r i = by (counts_of (deletes_other r.path r.physical) (is_other_kind r.path r.physical)) where
      by : Counts schemas x out name s (deletes_other r.path r.physical) (number_of (deletes_other r.path r.physical) t) → number_of (deletes_other r.path r.physical) t ≡ 0
      by (as_before q) = q ∙ h.no_other r i
      by (none_yet q) = q
      by (one_more g token lane path q in_stage may is k) =
          let a = cleans_one schemas name x s path stage at cleanup q
          (subst (λ (z : Stage). IntendsIn z schemas name x s path q) (some_is g stage (sym in_stage ∙ ap stage_of was ∙ cleanup_stage stage at cleanup)) may.chosen) in
          let same : r.path ≡ a.0.path = (bytes_eq-Decides r.path path).0 (first_so (bytes_eq r.path path) _ is) ∙ a.3 in
          absurd (true≢false (sym (ap (deletes r.physical) a.2 ∙ (bytes_eq-Decides r.physical a.0.physical).1 (h.single r a.0 i a.1 same))
          ∙ not_so _ (second_so (is_deletion q) _ (second_so (bytes_eq r.path path) _ is))))

    stays_alone : AreDeletedAlone (cleaned_in stage t) t
    stays_alone = record {
      single = λ r q i j same. let a = cleaned_there stage at cleanup was now r i in let b = cleaned_there stage at cleanup was now q j in sym a.2 ∙ h.single a.0 b.0 a.1 b.1 (a.3 ∙ same ∙ sym b.3) ∙ b.2;
      no_other = λ r i. let a = cleaned_there stage at cleanup was now r i in
          subst (λ p. number_of (deletes_other p r.physical) t ≡ 0) a.3 (subst (λ d. number_of (deletes_other a.0.path d) t ≡ 0) a.2 (no_other_now a.0 a.1));
    }

  few_cleaned : (stage : Stage) → IsCleanup stage t.status → AreDeletedAlone (cleaned_in stage t) t
  few_cleaned stage k = elim (came_from s.status t.status stage (status_moves schemas x out e name s t w) k) [
    | inl same ↦ stays_alone stage t.status k same refl (way.supported.few.cleans stage (subst (IsCleanup stage) (sym same) k))
    | inr from ↦ begins_alone stage t.status k from refl
  ]

pub cleaning_stays_few : LeavesSo CleansFew
cleaning_stays_few schemas x out e name s t w way = few_cleaned schemas x out e name s t w way
