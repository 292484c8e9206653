-- What may follow asks the schemas of the types that a stack which goes forward holds, and held as its operation began, and no others.
use Rattle.std.proofs.Common.{◌≡◌, ◌⊎◌, ◌≢◌, inl, inr, ℕ, true, false, not, List, [], ◌∷◌, ◌++◌, Option, Some, None, arith, refl, sym, ◌∙◌, ap, subst, cond}
use Rattle.std.specs.Option.{option_map_or, option_or}
use Rattle.cf_tree.specs.Datum.{Data}
use Rattle.cf_tree.specs.declared.code.Code.{Code}
use Rattle.cf_tree.specs.declared.code.Code.TheVariants as code
use Rattle.cf_tree.specs.declared.request.Request.{Request}
use Rattle.cf_tree.specs.declared.request.Request.TheVariants as request
use Rattle.cf_schema.specs.declared.changed.Difference.TheVariants.{Replace as ToReplace, Same, Update}
use Rattle.cf_schema.specs.declared.described.Schema.{Schema}
use Rattle.cf_schema.specs.Change.{difference_of}
use Rattle.cf_schema.specs.Kinds.{found}
use Rattle.cf_entry.specs.declared.entry.Entry.{Entry}
use Rattle.cf_entry.specs.declared.entry.Entry.TheVariants as entry
use Rattle.cf_entry.specs.declared.entry.Reply.TheVariants as reply
use Rattle.cf_entry.specs.declared.status.Status.{Status}
use Rattle.cf_entry.specs.declared.status.Status.TheVariants as status
use Rattle.cf_entry.specs.declared.turn.Cause.{Cause}
use Rattle.cf_entry.specs.declared.turn.Cause.TheVariants as cause
use Rattle.cf_entry.specs.declared.turn.Phase.{Phase}
use Rattle.cf_entry.specs.declared.turn.Phase.TheVariants as phase
use Rattle.cf_entry.specs.declared.turn.Reason.TheVariants as reason
use Rattle.cf_effect.specs.Calls.{call_under}
use Rattle.cf_effect.specs.Operation.{forward_of, is_turn_or_opening, now_of, up_to_last}
use Rattle.cf_effect.specs.Status.{Back, BackClean, Clean, Forward, Gone, Stage, goes_forward, stage_of}
use Rattle.cf_effect.specs.Words.{current_at, has_physical, is_current_at}
use Rattle.cf_effect.specs.World.{StackState, World, stack_of_operation}
use Rattle.cf_effect.specs.declared.call.Call.{Call}
use Rattle.cf_effect.specs.declared.held.Held.{Held}
use Rattle.cf_effect.specs.declared.held.Pending.{Pending}
use Rattle.cf_plan.proofs.CreatedStays.{found_one}
use Rattle.cf_plan.specs.Follow.{EndsAs, IntendsForward, IntendsIn, IsAtEnd, MayFollow, MayFollowIn, MayRepeat, MayStep, MayTurn, WantsNew, WantsUpdate}
use Rattle.cf_plan.specs.Forward.{HasFailed, IsCause, difference_to, doubting, first_failing, first_failing_behind, first_refusing, held_before, is_conditional, is_excused, is_refused_call, refusing}
use Rattle.cf_plan.specs.Life.{IsGranted}
use Rattle.cf_plan.specs.SameSchemas.{TellForward, TellSame}

pub same_back : (a b : List Schema) (s : StackState) → TellSame a b s → TellSame b a s
same_back a b s h = record { held = λ x i. sym (h.held x i); before = λ x i. sym (h.before x i) }

module _ (a b : List Schema) (s : StackState) (same : TellSame a b s) where
  same_to : (h : Held) (props : List (List ℕ × Data)) → found h.kind a ≡ found h.kind b → difference_to a h props ≡ difference_to b h props
  same_to h props e = ap (λ (o : Option Schema). option_map_or (λ schema. difference_of schema h.props props) o Update) e

  same_at : (path : List ℕ) (h : Held) (props : List (List ℕ × Data)) → current_at path s.held ≡ Some h → difference_to a h props ≡ difference_to b h props
  same_at path h props at = same_to h props (same.held h (found_one (is_current_at path) s.held h at).0)

  -- the outcomes that fail the phase
  same_excuse : (r : Request) (c : Code) → is_excused a s r c ≡ is_excused b s r c
  same_excuse (request.Update physical props) code.NotUpdatable = by (held_before physical s) refl where
    by : (o : Option Held) → held_before physical s ≡ o
        → option_map_or (λ (h : Held). is_conditional (difference_to a h props)) o false ≡ option_map_or (λ (h : Held). is_conditional (difference_to b h props)) o false
    by None e = refl
    by (Some h) e = ap is_conditional (same_to h props (same.before h (found_one (has_physical physical) s.before h e).0))
  same_excuse r c = refl

  same_refused : (o : Option Call) (c : Code) → is_refused_call a s o c ≡ is_refused_call b s o c
  same_refused None c = refl
  same_refused (Some call) c = ap not (same_excuse call.request c)

  same_refusing : (e : Entry) → refusing a s e ≡ refusing b s e
  same_refusing (entry.Outcome number token (reply.Failed c) before after) =
      ap (λ t. cond t (Some (token, reason.Code c)) None) (same_refused (call_under token s) c)
  same_refusing e = refl

  same_first : (es : List Entry) → first_refusing a s es ≡ first_refusing b s es
  same_first [] = refl
  same_first (e ∷ es) =
      ap (λ o. option_or o (first_refusing a s es)) (same_refusing e) ∙ ap (option_or (refusing b s e)) (same_first es)

  same_behind : (earlier es : List Entry) → first_failing_behind a s earlier es ≡ first_failing_behind b s earlier es
  same_behind earlier [] = refl
  same_behind earlier (e ∷ es) =
      ap (λ o. option_or o (option_or (doubting s earlier e) (first_failing_behind a s (earlier ++ e ∷ []) es))) (same_refusing e)
      ∙ ap (λ o. option_or (refusing b s e) (option_or (doubting s earlier e) o)) (same_behind (earlier ++ e ∷ []) es)

  same_failing : first_failing a s ≡ first_failing b s
  same_failing =
      ap (λ o. option_or o (first_failing_behind a s [] (now_of s))) (same_first (up_to_last is_turn_or_opening (forward_of s)))
      ∙ ap (option_or (first_refusing b s (up_to_last is_turn_or_opening (forward_of s)))) (same_behind [] (now_of s))

  same_failed : (name : List ℕ) (x : World) → HasFailed a name x s → HasFailed b name x s
  same_failed name x (inl (f, e)) = inl (f, sym same_failing ∙ e)
  same_failed name x (inr h) = inr h

  same_cause : (name : List ℕ) (x : World) (c : Cause) → IsCause a name x s c → IsCause b name x s c
  same_cause name x (cause.Handler path r) (token, e, at) = (token, sym same_failing ∙ e, at)
  same_cause name x (cause.Plan text) (fault, is, e, h) = (fault, is, sym same_failing ∙ e, h)
  same_cause name x (cause.Export export) (e, paths, outputs, lost) = (sym same_failing ∙ e, paths, outputs, lost)

  -- what the forward phase wants
  same_new : (path : List ℕ) (o : Option Held) (props : List (List ℕ × Data)) → current_at path s.held ≡ o → WantsNew a s o props → WantsNew b s o props
  same_new path None props e h = h
  same_new path (Some r) props e (inl h) = inl (sym (same_at path r props e) ∙ h)
  same_new path (Some r) props e (inr h) = inr (sym (same_at path r props e) ∙ h.0, h.1)

  same_update : (path : List ℕ) (r : Held) (props : List (List ℕ × Data)) → current_at path s.held ≡ Some r → WantsUpdate a s r props → WantsUpdate b s r props
  same_update path r props e (keeps, wants) = (subst (λ d. d ≢ ToReplace) (same_at path r props e) keeps, by wants) where
    by : (r.unsure ≡ true) ⊎ (difference_to a r props ≢ Same) → (r.unsure ≡ true) ⊎ (difference_to b r props ≢ Same)
    by (inl h) = inl h
    by (inr h) = inr (subst (λ d. d ≢ Same) (same_at path r props e) h)

  same_forward : (path : List ℕ) (r : Request) → IntendsForward a s path r → IntendsForward b s path r
  same_forward path (request.Create k props) h = (h.0, same_new path (current_at path s.held) props refl h.1)
  same_forward path (request.Update physical props) (r, at, named, known, wants, answered) =
      (r, at, named, known, same_update path r props at wants, answered)
  same_forward path (request.Delete physical) h = h

-- where it goes forward
forward_stage : (s : Status) → stage_of s ≡ Some Forward → goes_forward s ≡ true
forward_stage s e = grind arith

module _ (a b : List Schema) (name : List ℕ) (x : World) (s : StackState) (same : TellForward a b s) where
  failed_so : goes_forward s.status ≡ true → HasFailed a name x s → HasFailed b name x s
  failed_so f h = same_failed a b s (same f) name x h

  not_failed : goes_forward s.status ≡ true → (HasFailed a name x s → ⊥) → HasFailed b name x s → ⊥
  not_failed f n h = n (same_failed b a s (same_back a b s (same f)) name x h)

  same_intends : (stage : Stage) → stage_of s.status ≡ Some stage → (path : List ℕ) (r : Request) → IntendsIn stage a name x s path r
      → IntendsIn stage b name x s path r
  same_intends Forward at path r h =
      let f = forward_stage s.status at in (not_failed f h.0, h.1, h.2, same_forward a b s (same f) path r h.3)
  same_intends Clean at path r h = h
  same_intends Back at path r h = h
  same_intends BackClean at path r h = h
  same_intends Gone at path r h = h

  pub same_repeat : (out : List ℕ) (stage : Stage) → stage_of s.status ≡ Some stage → (p : Pending) → MayRepeat a name x out s stage p
      → MayRepeat b name x out s stage p
  same_repeat out Forward at p h = (not_failed (forward_stage s.status at) h.0, h.1, h.2)
  same_repeat out Clean at p h = h
  same_repeat out Back at p h = h
  same_repeat out BackClean at p h = h
  same_repeat out Gone at p h = h

  same_turn : (p : Phase) (c : Option Cause) → MayTurn a name x s p c → MayTurn b name x s p c
  same_turn phase.Clean None h = (h.0, not_failed (ap goes_forward h.0) h.1, h.2)
  same_turn phase.Clean (Some c) h = h
  same_turn phase.Back None h = h
  same_turn phase.Back (Some c) h =
      let f = forward_stage s.status h.0 in (h.0, failed_so f h.1, same_cause a b s (same f) name x c h.2)
  same_turn phase.BackClean None h = h
  same_turn phase.BackClean (Some c) h = h

  same_step : (out : List ℕ) (stage : Stage) → stage_of s.status ≡ Some stage → (e : Entry) → MayStep a name x out s stage e
      → MayStep b name x out s stage e
  same_step out stage at (entry.Intent number token lane path r) h =
      record { next = h.next; free = h.free; home = h.home; fits = h.fits; no_repeat = h.no_repeat; chosen = same_intends stage at path r h.chosen }
  same_step out stage at (entry.Phase number p c) h = same_turn p c h
  same_step out stage at (entry.Kept number path physical w) h = h
  same_step out stage at e h = h

  same_ends : (from to : Status) → s.status ≡ from → EndsAs a name x s from to → EndsAs b name x s from to
  same_ends status.CreateInProgress status.CreateComplete e h = (not_failed (ap goes_forward e) h.0, h.1)
  same_ends from to e h = h

forward_back : (a b : List Schema) (s : StackState) → TellForward a b s → TellForward b a s
forward_back a b s h f = same_back a b s (h f)

module _ (a b : List Schema) (name : List ℕ) (x : World) (s : StackState) (same : TellForward a b s) where
  same_end : (stage : Stage) → stage_of s.status ≡ Some stage → IsAtEnd a name x s stage → IsAtEnd b name x s stage
  same_end stage at (steps, repeats) = (
    λ e h. steps e (same_step b a name x s (forward_back a b s same) [] stage at e h),
    λ p h. repeats p (same_repeat b a name x s (forward_back a b s same) [] stage at p h),
  )

  same_in : (out : List ℕ) (stage : Stage) → stage_of s.status ≡ Some stage → (e : Entry) → MayFollowIn a name x out s stage e
      → MayFollowIn b name x out s stage e
  same_in out stage at (entry.Phase number p c) h = (h.0, same_turn a b name x s same p c h.1)
  same_in out stage at (entry.Done number state failed) h =
      (h.0, same_end stage at h.1, same_ends a b name x s same s.status state refl h.2, h.3)
  same_in out stage at (entry.Outcome number token answer before after) h = h
  same_in out stage at e h = same_step a b name x s same out stage at e h

-- an entry that is granted, on whichever stack its operation is in progress
pub same_granted : (a b : List Schema) (x : World) (out : List ℕ) (e : Entry) → IsGranted e
    → ((number : ℕ) (name : List ℕ) (s : StackState) → stack_of_operation number x ≡ Some (name, s) → TellForward a b s) → MayFollow a x out e → MayFollow b x out e
same_granted a b x out (entry.Kept n path physical w) i same (name, s, stage, at, is, may) = (name, s, stage, at, is, may)
same_granted a b x out (entry.Intent n token lane path r) i same (name, s, stage, at, is, may) =
    (name, s, stage, at, is, same_in a b name x s (same n name s at) out stage is (entry.Intent n token lane path r) may)
same_granted a b x out (entry.Phase n p c) i same (name, s, stage, at, is, may) =
    (name, s, stage, at, is, same_in a b name x s (same n name s at) out stage is (entry.Phase n p c) may)
same_granted a b x out (entry.Done n state failed) i same (name, s, stage, at, is, may) =
    (name, s, stage, at, is, same_in a b name x s (same n name s at) out stage is (entry.Done n state failed) may)
same_granted a b x out (entry.Opened epoch lanes) i same may = absurd i
same_granted a b x out (entry.Begin number name k) i same may = absurd i
same_granted a b x out (entry.ChangeSet number name source rows outputs) i same may = absurd i
same_granted a b x out (entry.Outcome number token answer before after) i same may = absurd i
