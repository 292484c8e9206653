-- Which entry may follow a world (this project's own; what each phase does is that of the User Guide: stack updates, rollbacks and
-- deletions).
use Rattle.std.specs.Prelude.{◌≡◌, ◌≢◌, ℕ, ◌+◌, ◌==◌, ◌≤◌, ◌⊎◌, ◌↔◌, Bool, true, false, ◌&&◌, ◌||◌, not, List, [], ◌∷◌, Option, Some, None, IsTrue, nat_lt, is_some, filter, find, map, flat_map, length, reverse, MatchBool, if◌then◌else◌}
use Rattle.std.specs.List.{list_any, list_all}
use Rattle.cf_tree.specs.Datum.{Data}
use Rattle.std.specs.Str.{bytes_eq}
use Rattle.cf_tree.specs.declared.request.Request.{Request}
use Rattle.cf_tree.specs.declared.request.Request.TheVariants as request
use Rattle.cf_tree.specs.declared.code.Code.TheVariants as code
use Rattle.cf_handler.specs.Move.{IsKindFor, IsOfLane}
use Rattle.cf_tree.specs.Counts.{HasRisen}
use Rattle.cf_entry.specs.Entry.{texts_ascend}
use Rattle.cf_entry.specs.declared.entry.Entry.{Entry}
use Rattle.cf_entry.specs.declared.entry.Entry.TheVariants as entry
use Rattle.cf_entry.specs.declared.entry.Begun.{Begun}
use Rattle.cf_entry.specs.declared.entry.Begun.TheVariants as begin
use Rattle.cf_entry.specs.declared.entry.Reply.{Reply}
use Rattle.cf_entry.specs.declared.entry.Reply.TheVariants as reply
use Rattle.cf_entry.specs.declared.status.Status.{Status}
use Rattle.cf_entry.specs.declared.status.Status.TheVariants as status
use Rattle.cf_entry.specs.declared.turn.Why.{Why}
use Rattle.cf_entry.specs.declared.turn.Why.TheVariants as why
use Rattle.cf_entry.specs.declared.turn.Phase.{Phase}
use Rattle.cf_entry.specs.declared.turn.Phase.TheVariants as phase
use Rattle.cf_entry.specs.declared.turn.Cause.{Cause}
use Rattle.cf_tree.specs.declared.source.Source.{Source}
use Rattle.cf_tree.specs.declared.row.Row.{Row}
use Rattle.cf_effect.specs.declared.held.Held.{Held}
use Rattle.cf_effect.specs.declared.held.Pending.{Pending}
use Rattle.cf_effect.specs.World.{StackState, World, stack_at, stack_of_operation, known_stack}
use Rattle.cf_effect.specs.Status.{Stage, Forward, Clean, Back, BackClean, Gone, stage_of}
use Rattle.cf_effect.specs.Words.{current_at, resources_of, is_update, is_create_at, pending_of, is_pinned, deletes, updates}
use Rattle.cf_effect.specs.Begin.{source_for}
use Rattle.cf_effect.specs.Fold.{is_opening, world_after}
use Rattle.cf_effect.specs.declared.call.Call.{Call}
use Rattle.cf_effect.specs.Operation.{Response, after_last, replies_in, own_of, was_skipped, named_paths}
use Rattle.cf_effect.specs.Calls.{doubts_of, deletions_of, refusals_of, was_updated, was_restored, was_refused, is_refusal, call_under}
use Rattle.cf_tree.specs.declared.template.Deletion.{Deletion}
use Rattle.cf_tree.specs.declared.template.Deletion.TheVariants as deletion
use Rattle.cf_tree.specs.declared.template.Replace.{Replace}
use Rattle.cf_tree.specs.declared.template.Replace.TheVariants as replace
use Rattle.cf_tree.specs.Lists.{is_among}
use Rattle.cf_plan.specs.Between.{is_needed_by_held, is_needed_by_made, is_needed_by_create}
use Rattle.cf_plan.specs.Forward.{IsDone, IsReady, AllDone, HasFailed, IsCause, Known, evaluated_at, was_answered_at, difference_to}
use Rattle.cf_tree.specs.Lists.{In}
use Rattle.cf_schema.specs.declared.described.Schema.{Schema}
use Rattle.cf_schema.specs.declared.changed.Difference.TheVariants.{Same, MayReplace, Replace as ToReplace}
use Rattle.cf_change.specs.Changes.{is_empty}
use Rattle.cf_plan.specs.Accept.{IsAccepted, IsReviewed, creates_from}
use Rattle.cf_effect.specs.Calls.{own_calls}
use Rattle.cf_effect.specs.Operation.{is_doubt}
use Rattle.cf_effect.specs.Status.{goes_back}
use Rattle.cf_effect.specs.declared.call.Settled.{Settled}
use Rattle.cf_effect.specs.declared.call.Settled.TheVariants as settled

-- Policies (template reference, DeletionPolicy and UpdateReplacePolicy): a rollback deletes what the operation made
-- unless it is Retain; every other deletion keeps RetainExceptOnCreate too.
abbrev pub is_retained : Deletion → Bool
is_retained deletion.Retain = true
is_retained _ = false

abbrev pub is_retained_or_excepted : Deletion → Bool
is_retained_or_excepted deletion.Delete = false
is_retained_or_excepted _ = true

abbrev pub is_replaced_retained : Replace → Bool
is_replaced_retained replace.Retain = true
is_replaced_retained replace.Delete = false

-- a predecessor follows the policy that the new template gives its path, a removed resource its own
abbrev pub keeps_superseded : Option Held → Held → Bool
keeps_superseded (Some successor) r = is_replaced_retained successor.replace
keeps_superseded None r = is_retained_or_excepted r.deletion

-- the phase keeps the resource where it would delete it
abbrev pub keeps : Stage → StackState → Held → Bool
keeps Forward s r = false
keeps Clean s r = keeps_superseded (current_at r.path s.held) r
keeps Back s r = is_retained r.deletion
keeps BackClean s r = is_retained r.deletion
keeps Gone s r = is_retained_or_excepted r.deletion || is_among r.path (named_paths s)

-- What a phase deletes, but for what keeps it, for lanes that are out and for open tokens. Of an update, only the cleanups
-- delete predecessors, removed resources and what it made; a deletion of the stack deletes all.
abbrev pub is_not_needed : StackState → Held → Bool
is_not_needed s r = not (is_needed_by_made s r || is_needed_by_create s r)

abbrev pub is_untried : StackState → Held → Bool
is_untried s r = length (deletions_of r.physical s) == 0

abbrev pub is_tried_less : StackState → Held → Bool
is_tried_less s r = nat_lt (length (deletions_of r.physical s)) 3

abbrev pub MayDelete : Stage → StackState → Held → Type 0
MayDelete Forward s r = ⊥
MayDelete Clean s r = In r s.held × (r.superseded ≡ true) × IsTrue (is_tried_less s r)
MayDelete Back s r = (s.status ≡ status.RollbackInProgress) × In r s.made × IsTrue (is_not_needed s r) × IsTrue (is_untried s r)
MayDelete BackClean s r = In r s.made × IsTrue (is_tried_less s r)
MayDelete Gone s r = In r (resources_of s) × IsTrue (is_not_needed s r) × (is_needed_by_held s r ≡ false) × IsTrue (is_untried s r)

-- What the forward phase makes and changes: a create-only property that differs wants a new resource, as does a conditional one where the
-- handler says so.
abbrev pub is_not_updatable : Option Settled → Bool
is_not_updatable (Some (settled.Failed code.NotUpdatable)) = true
is_not_updatable _ = false

-- this operation's update of the resource was answered so
abbrev pub was_not_updatable : StackState → Held → Bool
was_not_updatable s h = list_any (λ c. updates h.physical c.request && is_not_updatable c.answer) (own_calls s)

abbrev pub WantsNew : List Schema → StackState → Option Held → List (List ℕ × Data) → Type 0
WantsNew schemas s None props = Unit {0}
WantsNew schemas s (Some h) props =
    (difference_to schemas h props ≡ ToReplace) ⊎ ((difference_to schemas h props ≡ MayReplace) × IsTrue (was_not_updatable s h))

abbrev pub WantsUpdate : List Schema → StackState → Held → List (List ℕ × Data) → Type 0
WantsUpdate schemas s h props = (difference_to schemas h props ≢ ToReplace) × ((h.unsure ≡ true) ⊎ (difference_to schemas h props ≢ Same))

abbrev pub IntendsForward : List Schema → StackState → List ℕ → Request → Type 0
IntendsForward schemas s path (request.Create k props) =
    (evaluated_at path s ≡ Known k props) × WantsNew schemas s (current_at path s.held) props
IntendsForward schemas s path (request.Update physical props) =
    (h : Held) × (current_at path s.held ≡ Some h) × (physical ≡ h.physical) × (evaluated_at path s ≡ Known h.kind props)
    × WantsUpdate schemas s h props × (was_answered_at path s ≡ false)
IntendsForward schemas s path (request.Delete physical) = ⊥

-- What the rollback of an update gives back: a resource that was updated in place gets its properties of before. The
-- operation's restores are its updates that went out in the rollback.
abbrev pub restores_of : StackState → List Call
restores_of s = filter (λ c. goes_back c.status && is_update c.request) (own_calls s)

abbrev pub has_restore : List ℕ → StackState → Bool
has_restore physical s = list_any (λ c. updates physical c.request) (restores_of s)

abbrev pub IsToRestore : StackState → Held → Type 0
IsToRestore s b = In b s.before × IsTrue (was_updated b.physical s) × (was_restored b.physical s ≡ false) × (was_skipped b.path s ≡ false)

abbrev pub IntendsRestore : StackState → List ℕ → Request → Type 0
IntendsRestore s path (request.Update physical props) =
    (s.status ≡ status.UpdateRollbackInProgress) × (b : Held) × IsToRestore s b × (path ≡ b.path) × (physical ≡ b.physical)
    × (props ≡ b.props) × (has_restore physical s ≡ false)
IntendsRestore s path _ = ⊥

abbrev pub IntendsDeletion : Stage → StackState → List ℕ → Request → Type 0
IntendsDeletion stage s path (request.Delete physical) =
    (r : Held) × MayDelete stage s r × (keeps stage s r ≡ false) × (path ≡ r.path) × (physical ≡ r.physical)
IntendsDeletion stage s path _ = ⊥

abbrev pub IntendsIn : Stage → List Schema → List ℕ → World → StackState → List ℕ → Request → Type 0
IntendsIn Forward schemas name x s path r =
    ¬ HasFailed schemas name x s × IsReady s path × ¬ IsDone s path × IntendsForward schemas s path r
IntendsIn Back schemas name x s path r = IntendsDeletion Back s path r ⊎ IntendsRestore s path r
IntendsIn stage schemas name x s path r = IntendsDeletion stage s path r

-- Open tokens, repeats, and lanes that are out.
abbrev pub is_in_flight : List ℕ → ℕ → Bool
is_in_flight out token = list_any (λ t. token == t) out

abbrev pub is_free : List ℕ → StackState → Bool
is_free path s = not (list_any (λ p. bytes_eq path p.path) s.tokens)

-- a call of an open token that is not out, with fewer than three doubts in this phase and opening
abbrev pub may_repeat : Stage → List ℕ → StackState → Pending → Bool
may_repeat Gone out s p = not (is_in_flight out p.token) && (nat_lt (doubts_of p.token s) 3 && not (is_among p.path (named_paths s)))
may_repeat stage out s p = not (is_in_flight out p.token) && nat_lt (doubts_of p.token s) 3

abbrev pub MayRepeat : List Schema → List ℕ → World → List ℕ → StackState → Stage → Pending → Type 0
MayRepeat schemas name x out s Forward p = ¬ HasFailed schemas name x s × In p s.tokens × IsTrue (may_repeat Forward out s p)
MayRepeat schemas name x out s stage p = In p s.tokens × IsTrue (may_repeat stage out s p)

-- the calls of a stack that are out, also one that was given up meanwhile
abbrev pub calls_in_flight : List ℕ → StackState → List Call
calls_in_flight out s = filter (λ c. is_in_flight out c.token) s.ledger

-- a call that is out is a repeat where it was in doubt, or went out before, this phase and opening
abbrev pub is_repeated : Call → Bool
is_repeated c = nat_lt 0 c.doubts || not c.fresh

abbrev pub is_repeat_in_flight : List ℕ → StackState → Bool
is_repeat_in_flight out s = list_any is_repeated (calls_in_flight out s)

abbrev pub waits_for_repeats : Stage → List ℕ → StackState → Bool
waits_for_repeats Back out s = is_repeat_in_flight out s || list_any (may_repeat Back out s) s.tokens
waits_for_repeats Gone out s = is_repeat_in_flight out s || list_any (may_repeat Gone out s) s.tokens
waits_for_repeats _ out s = false

-- the lane of a token that is out is out, whichever stack's it is
abbrev pub is_lane_leased : List ℕ → World → List ℕ → Bool
is_lane_leased out x lane = list_any (λ s. list_any (λ c. bytes_eq lane c.lane) (calls_in_flight out s.1)) x.stacks

abbrev pub is_lane_of : List ℕ → List ℕ → List ℕ × List ℕ → Bool
is_lane_of lane k named = bytes_eq lane named.0 && bytes_eq k named.1

-- the lane fits the request: one of the created type, or the one that the id names
abbrev pub FitsLane : World → List ℕ → Request → Type 0
FitsLane x lane (request.Create k props) = IsTrue (list_any (is_lane_of lane k) x.lanes)
FitsLane x lane (request.Update physical props) = IsOfLane lane physical × IsTrue (list_any (λ l. bytes_eq lane l.0) x.lanes)
FitsLane x lane (request.Delete physical) = IsOfLane lane physical × IsTrue (list_any (λ l. bytes_eq lane l.0) x.lanes)

-- The count of a call never falls, and is higher after a refusal and a doubt.
abbrev pub IsCounted : Reply → ℕ → ℕ → Type 0
IsCounted (reply.Success physical attrs) before after = before ≤ after
IsCounted (reply.Failed c) before after = (before ≤ after) × HasRisen before after
IsCounted reply.Doubt before after = (before ≤ after) × HasRisen before after

-- An Intent of the operation.
pub record MayIntend (schemas : List Schema) (name : List ℕ) (x : World) (out : List ℕ) (s : StackState) (stage : Stage) (token : ℕ)
    (lane path : List ℕ) (r : Request) : Type 0 where
  pub next : token ≡ x.token + 1
  pub free : is_free path s ≡ true
  pub home : is_lane_leased out x lane ≡ false
  pub fits : FitsLane x lane r
  pub no_repeat : waits_for_repeats stage out s ≡ false
  pub chosen : IntendsIn stage schemas name x s path r

-- Keeping a resource: its policy or the command keeps what the phase would delete; in the cleanups also what could not be deleted.
abbrev pub is_to_retain : Stage → StackState → List ℕ → Bool
is_to_retain Gone s path = is_among path (named_paths s)
is_to_retain _ s path = false

-- what a cleanup deletes or keeps; no other phase cleans up
abbrev pub cleaned_in : Stage → StackState → List Held
cleaned_in Clean s = filter (λ r. r.superseded) s.held
cleaned_in BackClean s = s.made
cleaned_in _ s = []

abbrev pub KeepsRetained : Stage → List ℕ → StackState → List ℕ → List ℕ → Type 0
KeepsRetained stage out s path physical =
    ((r : Held) × MayDelete stage s r × (waits_for_repeats stage out s ≡ false) × (keeps stage s r ≡ true) × (path ≡ r.path)
    × (physical ≡ r.physical) × ((is_free path s ≡ true) ⊎ (is_to_retain stage s path ≡ true)))
    ⊎ ((stage ≡ Gone) × (physical ≡ []) × (is_among path (named_paths s) ≡ true) × IsTrue (list_any (is_create_at path) s.tokens))

abbrev pub is_deletion_of : List ℕ → Pending → Bool
is_deletion_of physical p = deletes physical p.request

abbrev pub KeepsUndeleted : Stage → StackState → List ℕ → List ℕ → Type 0
KeepsUndeleted stage s path physical = (r : Held) × In r (cleaned_in stage s) × (path ≡ r.path) × (physical ≡ r.physical)

abbrev pub MayKeep : Stage → List ℕ → StackState → List ℕ → List ℕ → Why → Type 0
MayKeep stage out s path physical why.Retained = KeepsRetained stage out s path physical
MayKeep stage out s path physical why.Failed = KeepsUndeleted stage s path physical × (3 ≤ refusals_of physical s)
MayKeep stage out s path physical why.Doubt =
    KeepsUndeleted stage s path physical × (p : Pending) × In p s.tokens × IsTrue (is_deletion_of physical p) × (3 ≤ doubts_of p.token s)

-- A later phase begins.
abbrev pub has_refused_restore : StackState → Bool
has_refused_restore s = list_any was_refused (restores_of s)

abbrev pub MayTurn : List Schema → List ℕ → World → StackState → Phase → Option Cause → Type 0
MayTurn schemas name x s phase.Clean None = (s.status ≡ status.UpdateInProgress) × ¬ HasFailed schemas name x s × AllDone s
MayTurn schemas name x s phase.Back (Some c) = (stage_of s.status ≡ Some Forward) × HasFailed schemas name x s × IsCause schemas name x s c
MayTurn schemas name x s phase.BackClean None =
    (s.status ≡ status.UpdateRollbackInProgress) × (s.tokens ≡ []) × ((b : Held) → IsToRestore s b → ⊥) × (has_refused_restore s ≡ false)
MayTurn schemas name x s _ _ = ⊥

-- A step of the operation that needs no lease to be out: a call that begins, a resource kept, a phase.
abbrev pub MayStep : List Schema → List ℕ → World → List ℕ → StackState → Stage → Entry → Type 0
MayStep schemas name x out s stage (entry.Intent number token lane path r) = MayIntend schemas name x out s stage token lane path r
MayStep schemas name x out s stage (entry.Kept number path physical w) = MayKeep stage out s path physical w
MayStep schemas name x out s stage (entry.Phase number p cause) = MayTurn schemas name x s p cause
MayStep schemas name x out s stage _ = ⊥

-- nothing more can come, even if no lease were out
abbrev pub IsAtEnd : List Schema → List ℕ → World → StackState → Stage → Type 0
IsAtEnd schemas name x s stage =
    ((e : Entry) → MayStep schemas name x [] s stage e → ⊥) × ((p : Pending) → MayRepeat schemas name x [] s stage p → ⊥)

-- The status in which an operation ends.
abbrev pub is_cleared : StackState → Bool
is_cleared s = is_empty (resources_of s) && is_empty s.tokens

abbrev pub EndsAs : List Schema → List ℕ → World → StackState → Status → Status → Type 0
EndsAs schemas name x s status.CreateInProgress status.CreateComplete = ¬ HasFailed schemas name x s × AllDone s
EndsAs schemas name x s status.RollbackInProgress status.RollbackComplete = is_cleared s ≡ true
EndsAs schemas name x s status.RollbackInProgress status.RollbackFailed = is_cleared s ≡ false
EndsAs schemas name x s status.DeleteInProgress status.DeleteComplete = is_cleared s ≡ true
EndsAs schemas name x s status.DeleteInProgress status.DeleteFailed = is_cleared s ≡ false
EndsAs schemas name x s status.UpdateCompleteCleanupInProgress status.UpdateComplete = Unit {0}
EndsAs schemas name x s status.UpdateRollbackCompleteCleanupInProgress status.UpdateRollbackComplete = Unit {0}
EndsAs schemas name x s status.UpdateRollbackInProgress status.UpdateRollbackFailed = Unit {0}
EndsAs schemas name x s _ _ = ⊥

-- The failed paths: those whose last outcome in the operation is a doubt or a refusal, and those of a resource whose deletion in it was
-- refused.
abbrev pub is_failed_status : Status → Bool
is_failed_status status.RollbackFailed = true
is_failed_status status.UpdateRollbackFailed = true
is_failed_status status.DeleteFailed = true
is_failed_status _ = false

abbrev pub settled_by : Reply → Option Settled
settled_by (reply.Success physical attrs) = Some settled.Success
settled_by (reply.Failed c) = Some (settled.Failed c)
settled_by reply.Doubt = None

abbrev pub is_bad_outcome : Option Call → Reply → Bool
is_bad_outcome None answer = false
is_bad_outcome (Some c) answer = is_doubt answer || is_refusal c.request (settled_by answer)

abbrev pub has_path : List ℕ → Option Call → Bool
has_path path None = false
has_path path (Some c) = bytes_eq path c.path

-- the operation's last outcome at the path
abbrev pub last_at : List ℕ → StackState → Option Response
last_at path s = find (λ r. has_path path (call_under r.token s)) (reverse (replies_in (own_of s)))

abbrev pub is_bad_last : StackState → Option Response → Bool
is_bad_last s None = false
is_bad_last s (Some r) = is_bad_outcome (call_under r.token s) r.answer

abbrev pub is_failed_path : StackState → List ℕ → Bool
is_failed_path s path =
    is_bad_last s (last_at path s) || list_any (λ r. bytes_eq path r.path && nat_lt 0 (refusals_of r.physical s)) (resources_of s)

abbrev pub AreFailed : StackState → Status → List (List ℕ) → Type 0
AreFailed s state failed =
    MatchBool (is_failed_status state) (IsTrue (texts_ascend failed) × ((p : List ℕ) → In p failed ↔ IsTrue (is_failed_path s p)))
    (failed ≡ [])

-- Beginning an operation, and keeping a change set.
abbrev pub failed_in : Entry → List (List ℕ)
failed_in (entry.Done number state failed) = failed
failed_in _ = []

-- the paths that failed when the stack's last operation ended
abbrev pub failed_of : StackState → List (List ℕ)
failed_of s = flat_map failed_in (own_of s)

abbrev pub is_done_entry : Entry → Bool
is_done_entry (entry.Done number state failed) = true
is_done_entry _ = false

abbrev pub is_opened_since : StackState → Bool
is_opened_since s = list_any is_opening (after_last is_done_entry s.entries)

-- the statuses from which each kind may begin (User Guide: what a stack's status lets be done)
abbrev pub updates_from : Status → Bool
updates_from status.CreateComplete = true
updates_from status.UpdateComplete = true
updates_from status.UpdateRollbackComplete = true
updates_from _ = false

-- a source creates a stack or updates one
abbrev pub deploys_from : Status → Bool
deploys_from s = creates_from s || updates_from s

abbrev pub deletes_from : Status → Bool
deletes_from status.ReviewInProgress = true
deletes_from status.RollbackComplete = true
deletes_from status.RollbackFailed = true
deletes_from status.UpdateRollbackFailed = true
deletes_from status.DeleteFailed = true
deletes_from s = updates_from s

abbrev pub continues_from : Status → Bool
continues_from status.UpdateRollbackFailed = true
continues_from _ = false

abbrev pub begins_from : Begun → Status → Bool
begins_from (begin.Create source) s = creates_from s
begins_from (begin.Update source) s = updates_from s
begins_from (begin.Delete paths) s = deletes_from s
begins_from (begin.Continue paths) s = continues_from s

-- a deletion is refused where another stack pins an export of this one
abbrev pub is_pinned_export : List ℕ → World → Bool
is_pinned_export name x = list_any (is_pinned name x) x.exports

abbrev pub are_among : List (List ℕ) → List (List ℕ) → Bool
are_among paths all = list_all (λ p. is_among p all) paths

abbrev pub may_retain : Status → StackState → List (List ℕ) → Bool
may_retain status.DeleteFailed s paths = are_among paths (failed_of s)
may_retain _ s paths = is_empty paths

-- the types of the lanes of the last opening
abbrev pub lane_kinds : World → List (List ℕ)
lane_kinds x = map (λ l. l.1) x.lanes

abbrev pub BeginsBy : List Schema → List ℕ → World → ℕ → StackState → Begun → Type 0
BeginsBy schemas name x number s (begin.Create source) = IsAccepted schemas (lane_kinds x) name x s (source_for name number source)
BeginsBy schemas name x number s (begin.Update source) = IsAccepted schemas (lane_kinds x) name x s (source_for name s.number source)
BeginsBy schemas name x number s (begin.Delete paths) =
    IsTrue (texts_ascend paths) × IsTrue (may_retain s.status s paths) × (is_pinned_export name x ≡ false)
BeginsBy schemas name x number s (begin.Continue paths) =
    IsTrue (texts_ascend paths) × IsTrue (are_among paths (failed_of s)) × IsTrue (is_opened_since s)

abbrev pub MayBegin : List Schema → World → ℕ → List ℕ → Begun → Type 0
MayBegin schemas x number name k =
    (number ≡ x.operation + 1) × IsTrue (begins_from k (known_stack name x).status) × BeginsBy schemas name x number (known_stack name x) k

-- the number of a set's source: that of the creating operation, or the next one where the set would create its stack
abbrev pub set_number : World → StackState → ℕ
set_number x s = if creates_from s.status then x.operation + 1 else s.number

abbrev pub MayReview : List Schema → World → ℕ → List ℕ → Source → List Row → Bool → Type 0
MayReview schemas x number name source rows outputs =
    (number ≡ x.set + 1) × IsTrue (deploys_from (known_stack name x).status)
    × IsReviewed schemas name x (known_stack name x) (source_for name (set_number x (known_stack name x)) source) rows outputs

-- An opening: no lease is out, and each resource and each open token has its lane among those named.
abbrev pub IsNamedLane : List (List ℕ × List ℕ) → List ℕ → List ℕ → Type 0
IsNamedLane lanes physical k = (l : List ℕ × List ℕ) × In l lanes × IsOfLane l.0 physical × (l.1 ≡ k)

abbrev pub IsLaneFor : Pending → List ℕ × List ℕ → Type 0
IsLaneFor p l = (l.0 ≡ p.lane) × IsKindFor p.request l.1

abbrev pub HasLanes : List (List ℕ × List ℕ) → StackState → Type 0
HasLanes lanes s =
    ((r : Held) → In r (resources_of s) → IsNamedLane lanes r.physical r.kind)
    × ((p : Pending) → In p s.tokens → (l : List ℕ × List ℕ) × In l lanes × IsLaneFor p l)

abbrev pub MayOpen : World → List ℕ → ℕ → List (List ℕ × List ℕ) → Type 0
MayOpen x out epoch lanes =
    (out ≡ []) × (epoch ≡ x.epoch + 1) × ((name : List ℕ) (s : StackState) → stack_at name x ≡ Some s → HasLanes lanes s)

-- no lease of the stack is out
abbrev pub none_in_flight : List ℕ → StackState → Bool
none_in_flight out s = is_empty (calls_in_flight out s)

-- An entry of the operation in progress on a stack.
abbrev pub MayFollowIn : List Schema → List ℕ → World → List ℕ → StackState → Stage → Entry → Type 0
MayFollowIn schemas name x out s stage (entry.Outcome number token answer before after) =
    IsTrue (is_in_flight out token) × IsTrue (is_some (pending_of token s)) × IsCounted answer before after
MayFollowIn schemas name x out s stage (entry.Phase number p c) =
    IsTrue (none_in_flight out s) × MayStep schemas name x out s stage (entry.Phase number p c)
MayFollowIn schemas name x out s stage (entry.Done number state failed) =
    IsTrue (none_in_flight out s) × IsAtEnd schemas name x s stage × EndsAs schemas name x s s.status state × AreFailed s state failed
MayFollowIn schemas name x out s stage e = MayStep schemas name x out s stage e

-- the entry is of the operation of this number, which is in progress
abbrev pub MayFollowOn : List Schema → ℕ → World → List ℕ → Entry → Type 0
MayFollowOn schemas number x out e =
    (name : List ℕ) × (s : StackState) × (stage : Stage) × (stack_of_operation number x ≡ Some (name, s)) × (stage_of s.status ≡ Some stage)
    × MayFollowIn schemas name x out s stage e

-- the call of an open token may be made again in the operation of this number
abbrev pub MayRepeatOn : List Schema → World → List ℕ → ℕ → Pending → Type 0
MayRepeatOn schemas x out number p =
    (name : List ℕ) × (s : StackState) × (stage : Stage) × (stack_of_operation number x ≡ Some (name, s)) × (stage_of s.status ≡ Some stage)
    × MayRepeat schemas name x out s stage p

-- Entry e may follow the world x while the leases of these tokens are out. Every entry but an opening, a beginning and
-- a change set carries the number of the operation in progress of its stack.
abbrev pub MayFollow : List Schema → World → List ℕ → Entry → Type 0
MayFollow schemas x out (entry.Opened epoch lanes) = MayOpen x out epoch lanes
MayFollow schemas x out (entry.Begin number name k) = MayBegin schemas x number name k
MayFollow schemas x out (entry.ChangeSet number name source rows outputs) = MayReview schemas x number name source rows outputs
MayFollow schemas x out (entry.Kept number path physical w) = MayFollowOn schemas number x out (entry.Kept number path physical w)
MayFollow schemas x out (entry.Intent number token lane path r) = MayFollowOn schemas number x out (entry.Intent number token lane path r)
MayFollow schemas x out (entry.Outcome number token answer before after) =
    MayFollowOn schemas number x out (entry.Outcome number token answer before after)
MayFollow schemas x out (entry.Phase number p c) = MayFollowOn schemas number x out (entry.Phase number p c)
MayFollow schemas x out (entry.Done number state failed) = MayFollowOn schemas number x out (entry.Done number state failed)

-- each entry of a list may follow in its turn, with some leases out at each point
abbrev pub IsLegal : List Schema → World → List Entry → Type 0
IsLegal schemas x [] = Unit {0}
IsLegal schemas x (e ∷ es) = ((out : List ℕ) × MayFollow schemas x out e) × IsLegal schemas (world_after x e) es
