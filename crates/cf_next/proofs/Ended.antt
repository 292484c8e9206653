-- An operation is at its end just where it has nothing to offer that a lane could take, and what comes last is told by the offer.
use Rattle.std.proofs.Common.{◌≡◌, ◌↔◌, ◌⊎◌, inl, inr, ℕ, ◌+◌, Bool, true, false, List, [], ◌∷◌, Option, Some, None, cond, refl, ap, sym, ◌∙◌, subst}
use Rattle.std.specs.Prelude.{IsTrue}
use Rattle.std.specs.List.{list_any}
use Rattle.cf_schema.specs.declared.described.Schema.{Schema}
use Rattle.cf_entry.proofs.Codec.{some_is}
use Rattle.cf_entry.specs.declared.entry.Entry.{Entry}
use Rattle.cf_entry.specs.declared.entry.Entry.TheVariants as entry
use Rattle.cf_entry.specs.declared.status.Status.{Status}
use Rattle.cf_entry.specs.declared.status.Status.TheVariants as status
use Rattle.cf_entry.specs.declared.turn.Cause.{Cause}
use Rattle.cf_entry.specs.declared.turn.Phase.{Phase}
use Rattle.cf_effect.specs.World.{StackState, World}
use Rattle.cf_effect.specs.Status.{Stage, Forward, stage_of}
use Rattle.cf_tree.specs.Lists.{here}
use Rattle.cf_tree.specs.Lists.{In}
use Rattle.cf_plan.specs.Follow.{AreFailed, EndsAs, FitsLane, IsAtEnd, MayStep, is_cleared}
use Rattle.cf_plan.proofs.AtHome.{no_lane_out}
use Rattle.cf_plan.proofs.Members.{any_in, false_from, in_any, in_none, not_both}
use Rattle.cf_next.specs.declared.offer.Keeping.{Keeping}
use Rattle.cf_next.specs.declared.offer.Offer.{Offer}
use Rattle.cf_plan.specs.Start.{Start}
use Rattle.cf_next.specs.declared.offer.Turn.{Turn}
use Rattle.cf_next.specs.declared.step.Next.{Next}
use Rattle.cf_next.specs.declared.step.Next.TheVariants as next
use Rattle.cf_next.specs.Offer.{IsMade, IsOffer}
use Rattle.cf_next.specs.Joining.{HasNothing, IsLast, IsLastBy, end_status, fits, has_lane}
use Rattle.cf_next.proofs.Calls.{by_fits, fits_by}
use Rattle.cf_next.proofs.FailedOnce.{one_failed}
use Rattle.cf_next.proofs.Followed.{none_is}

-- a list of which each member is refuted is empty
emptied : {A : Type 0} (xs : List A) → ((a : A) → In a xs → ⊥) → xs ≡ []
emptied [] none = refl
emptied (a ∷ rest) none = absurd (none a here)

module _ (schemas : List Schema) (name : List ℕ) (x : World) (s : StackState) (stage : Stage) (o : Offer) (offer : IsOffer schemas name x [] s stage o) where
  -- a call that may begin has a lane that fits just where its Intent may be written
  start_lane : (a : Start) → has_lane x a ≡ true → (lane : List ℕ) × FitsLane x lane a.request
  start_lane a h = let l = in_any (fits a.request) x.lanes h in (l.0.0, fits_by x [] a.request l.0 l.1 l.2)

  lane_start : (a : Start) (lane : List ℕ) → FitsLane x lane a.request → has_lane x a ≡ true
  lane_start a lane w = let (l, i, passes, same) = by_fits x [] lane a.request w in any_in (fits a.request) l x.lanes i passes

  pub at_end : HasNothing x o → IsAtEnd schemas name x s stage
  at_end nothing = (step, λ p w. in_none (subst (In p) nothing.repeats ((offer.repeats p).0 w)))
    where
      step : (e : Entry) → MayStep schemas name x [] s stage e → ⊥
      step (entry.Intent number token lane path r) w =
          let a : Start = record { path = path; request = r } in
          not_both (list_any (has_lane x) o.starts)
          (any_in (has_lane x) a o.starts ((offer.starts path r).0 (w.free, w.no_repeat, w.chosen)) (lane_start a lane w.fits)) nothing.starts
      step (entry.Kept number path id why) w =
          let k : Keeping = record { path = path; physical = id; why = why } in in_none (subst (In k) nothing.keepings ((offer.keepings path id why).0 w))
      step (entry.Phase number p c) w = unlike (sym nothing.turn ∙ (offer.turn p c).0 w)
        where
          unlike : {t : Turn} → None ≡ Some t → ⊥
          unlike e = cc
      step (entry.Opened epoch lanes) w = w
      step (entry.Begin number stack kind) w = w
      step (entry.Outcome number token answer before after) w = w
      step (entry.Done number state failed) w = w
      step (entry.ChangeSet number stack source rows outputs) w = w

  pub end_has : IsAtEnd schemas name x s stage → HasNothing x o
  end_has end = record {
    repeats = emptied o.repeats (λ p i. end.1 p ((offer.repeats p).1 i));
    starts = false_from (list_any (has_lane x) o.starts) (λ t. let a = in_any (has_lane x) o.starts t in called a.0 a.1 a.2);
    keepings = emptied o.keepings (λ k i. end.0 (entry.Kept 0 k.path k.physical k.why) ((offer.keepings k.path k.physical k.why).1 i));
    turn = by o.turn refl;
  }
    where
      called : (a : Start) → In a o.starts → has_lane x a ≡ true → ⊥
      called a i h =
          let (lane, fit) = start_lane a h in
          let (free, no_repeat, chosen) = (offer.starts a.path a.request).1 i in
          end.0 (entry.Intent 0 (x.token + 1) lane a.path a.request)
          (record { next = refl; free = free; home = no_lane_out x lane; fits = fit; no_repeat = no_repeat; chosen = chosen })

      by : (t : Option Turn) → o.turn ≡ t → o.turn ≡ None
      by None e = e
      by (Some t) e = absurd (end.0 (entry.Phase 0 t.phase t.cause) ((offer.turn t.phase t.cause).1 e))

  -- The status of the end is told by what is made and what is left.
  module _ (in_stage : stage_of s.status ≡ Some stage) where
    made : s.status ≡ status.CreateInProgress → IsTrue o.is_made ↔ IsMade schemas name x s
    made creating = offer.made (some_is stage Forward (sym in_stage ∙ ap stage_of creating))

    abbrev Ends : Status → Status → Type 0
    Ends now state = EndsAs schemas name x s now state

    abbrev Stated : Status → Option Status
    Stated now = end_status now o.is_made (is_cleared s)

    stated : (now state : Status) → s.status ≡ now → Ends now state → Stated now ≡ Some state
    stated status.CreateInProgress status.CreateComplete is w = rw ((made is).1 w) refl
    stated status.RollbackInProgress status.RollbackComplete is w = rw w refl
    stated status.RollbackInProgress status.RollbackFailed is w = rw w refl
    stated status.DeleteInProgress status.DeleteComplete is w = rw w refl
    stated status.DeleteInProgress status.DeleteFailed is w = rw w refl
    stated status.UpdateCompleteCleanupInProgress status.UpdateComplete is w = refl
    stated status.UpdateRollbackCompleteCleanupInProgress status.UpdateRollbackComplete is w = refl
    stated status.UpdateRollbackInProgress status.UpdateRollbackFailed is w = refl
    stated _ _ is w = absurd w

    -- one of two statuses, as a test says
    either : (now good bad state : Status) (b : Bool) → (b ≡ true → Ends now good) → (b ≡ false → Ends now bad)
        → cond b (Some good) (Some bad) ≡ Some state → Ends now state
    either now good bad state true t f e = subst (Ends now) (some_is good state e) (t refl)
    either now good bad state false t f e = subst (Ends now) (some_is bad state e) (f refl)

    whole : (state : Status) (b : Bool) → (b ≡ true → Ends status.CreateInProgress status.CreateComplete)
        → cond b (Some status.CreateComplete) None ≡ Some state → Ends status.CreateInProgress state
    whole state true t e = subst (Ends status.CreateInProgress) (some_is status.CreateComplete state e) (t refl)
    whole state false t e = none_is state e

    ends : (now state : Status) → s.status ≡ now → Stated now ≡ Some state → Ends now state
    ends status.CreateInProgress state is e = whole state o.is_made (made is).0 e
    ends status.RollbackInProgress state is e =
        either status.RollbackInProgress status.RollbackComplete status.RollbackFailed state (is_cleared s) (λ t. t) (λ f. f) e
    ends status.DeleteInProgress state is e = either status.DeleteInProgress status.DeleteComplete status.DeleteFailed state (is_cleared s) (λ t. t) (λ f. f) e
    ends status.UpdateCompleteCleanupInProgress state is e = subst (Ends status.UpdateCompleteCleanupInProgress) (some_is status.UpdateComplete state e) tt
    ends status.UpdateRollbackCompleteCleanupInProgress state is e =
        subst (Ends status.UpdateRollbackCompleteCleanupInProgress) (some_is status.UpdateRollbackComplete state e) tt
    ends status.UpdateRollbackInProgress state is e = subst (Ends status.UpdateRollbackInProgress) (some_is status.UpdateRollbackFailed state e) tt
    ends _ state is e = none_is state e

    abbrev Last : Next → Type 0
    Last n = IsLast schemas name x s stage n

    -- a phase that may begin comes last
    turns : (t : Turn) → o.turn ≡ Some t → (n : Next) → Last n ↔ (Some (next.Turn t.phase t.cause) ≡ Some n)
    turns t is n = (λ w. to n w, λ e. subst Last (some_is (next.Turn t.phase t.cause) n e) ((offer.turn t.phase t.cause).1 is))
      where
        to : (n : Next) → Last n → Some (next.Turn t.phase t.cause) ≡ Some n
        to (next.Turn p c) w =
            let same : t ≡ record { phase = p; cause = c } = some_is t (record { phase = p; cause = c }) (sym is ∙ (offer.turn p c).0 w) in
            ap (λ (u : Turn). Some (next.Turn u.phase u.cause)) same
        to (next.End state failed) w = none_is t (sym (end_has w.0).turn ∙ is)
        to _ w = absurd w

    no_turn : o.turn ≡ None → (p : Phase) (c : Option Cause) → Last (next.Turn p c) → ⊥
    no_turn none p c w = none_is (record { phase = p; cause = c }) (sym none ∙ (offer.turn p c).0 w)

    -- so does the end
    stops : o.turn ≡ None → HasNothing x o → (state : Status) (failed : List (List ℕ)) → Stated s.status ≡ Some state → AreFailed s state failed
        → (n : Next) → Last n ↔ (Some (next.End state failed) ≡ Some n)
    stops none nothing state failed is are n =
        (λ w. to n w, λ e. subst Last (some_is (next.End state failed) n e) (at_end nothing, ends s.status state refl is, are))
      where
        to : (n : Next) → Last n → Some (next.End state failed) ≡ Some n
        to (next.Turn p c) w = absurd (no_turn none p c w)
        to (next.End other paths) w =
            let same : state ≡ other = some_is state other (sym is ∙ stated s.status other refl w.1) in
            ap (λ (ps : List (List ℕ)). Some (next.End state ps))
            (one_failed s state failed paths are (subst (λ (t : Status). AreFailed s t paths) (sym same) w.2))
            ∙ ap (λ (t : Status). Some (next.End t paths)) same
        to _ w = absurd w

    -- else nothing does
    goes_on : o.turn ≡ None → ((state : Status) → IsAtEnd schemas name x s stage → Stated s.status ≡ Some state → ⊥) → (n : Next) → Last n ↔ (None ≡ Some n)
    goes_on none not_end n = (λ w. absurd (to n w), λ e. none_is n e)
      where
        to : (n : Next) → Last n → ⊥
        to (next.Turn p c) w = no_turn none p c w
        to (next.End state paths) w = not_end state w.0 (stated s.status state refl w.1)
        to _ w = w

module _ (x : World) (s : StackState) (o : Offer) where
  pub turn_last : (t : Turn) → o.turn ≡ Some t → IsLastBy x s o (Some (next.Turn t.phase t.cause))
  turn_last t is = λ schemas name stage in_stage offer. turns schemas name x s stage o offer in_stage t is

  pub end_last : o.turn ≡ None → HasNothing x o → (state : Status) (failed : List (List ℕ)) → end_status s.status o.is_made (is_cleared s) ≡ Some state
      → AreFailed s state failed → IsLastBy x s o (Some (next.End state failed))
  end_last none nothing state failed is are = λ schemas name stage in_stage offer.
      stops schemas name x s stage o offer in_stage none nothing state failed is are

  -- something is left, or the operation has no end in its status
  pub none_last : o.turn ≡ None → ((HasNothing x o → ⊥) ⊎ (end_status s.status o.is_made (is_cleared s) ≡ None)) → IsLastBy x s o None
  none_last none how = λ schemas name stage in_stage offer.
      goes_on schemas name x s stage o offer in_stage none (λ state end e. not_end schemas name stage offer how state end e)
    where
      not_end : (schemas : List Schema) (name : List ℕ) (stage : Stage) → IsOffer schemas name x [] s stage o
          → ((HasNothing x o → ⊥) ⊎ (end_status s.status o.is_made (is_cleared s) ≡ None)) → (state : Status) → IsAtEnd schemas name x s stage
          → end_status s.status o.is_made (is_cleared s) ≡ Some state → ⊥
      not_end schemas name stage offer (inl left) state end e = left (end_has schemas name x s stage o offer end)
      not_end schemas name stage offer (inr none) state end e = none_is state (sym none ∙ e)
