-- The stages that delete, and what each of them looks at, deletes and keeps, by Bool words (this project's own; what each phase does is
-- that of the User Guide: stack updates, rollbacks and deletions).
use Rattle.std.specs.Prelude.{ℕ, Bool, true, false, ◌&&◌, ◌||◌, not, List, [], Option, Some, None, nat_lt, option_map}
use Rattle.std.specs.List.{list_any}
use Rattle.cf_tree.specs.declared.template.Replace.{Replace}
use Rattle.cf_entry.specs.declared.status.Status.{Status}
use Rattle.cf_entry.specs.declared.status.Status.TheVariants as status
use Rattle.cf_effect.specs.declared.held.Held.{Held}
use Rattle.cf_effect.specs.declared.held.Pending.{Pending}
use Rattle.cf_effect.specs.Calls.{doubts_of}
use Rattle.cf_effect.specs.Status.{Stage, Back, BackClean, Clean, Gone}
use Rattle.cf_effect.specs.Words.{current_at}
use Rattle.cf_effect.specs.World.{StackState}
use Rattle.cf_plan.specs.Between.{is_needed_by_create, is_needed_by_held, is_needed_by_made}
use Rattle.cf_plan.specs.Follow.{is_deletion_of, is_replaced_retained, is_retained_or_excepted, is_tried_less, is_untried}
use Rattle.cf_next.specs.declared.unmaking.Unmaking.{Unmaking}
use Rattle.cf_next.specs.declared.unmaking.Unmaking.TheVariants as unmaking

abbrev pub stage_in : Unmaking → Stage
stage_in unmaking.Clean = Clean
stage_in unmaking.Back = Back
stage_in unmaking.BackClean = BackClean
stage_in unmaking.Gone = Gone

-- the status of a stack in it; a rollback deletes only where it takes a creation back
abbrev pub status_in : Unmaking → Status
status_in unmaking.Clean = status.UpdateCompleteCleanupInProgress
status_in unmaking.Back = status.RollbackInProgress
status_in unmaking.BackClean = status.UpdateRollbackCompleteCleanupInProgress
status_in unmaking.Gone = status.DeleteInProgress

abbrev pub is_cleanup : Unmaking → Bool
is_cleanup unmaking.Clean = true
is_cleanup unmaking.Back = false
is_cleanup unmaking.BackClean = true
is_cleanup unmaking.Gone = false

-- The resources that it looks at: of what is held, and of what the operation made.
abbrev pub held_for : Unmaking → StackState → List Held
held_for unmaking.Clean s = s.held
held_for unmaking.Back s = []
held_for unmaking.BackClean s = []
held_for unmaking.Gone s = s.held

abbrev pub made_for : Unmaking → StackState → List Held
made_for unmaking.Clean s = []
made_for unmaking.Back s = s.made
made_for unmaking.BackClean s = s.made
made_for unmaking.Gone s = s.made

abbrev pub is_in_view : Unmaking → Held → Bool
is_in_view unmaking.Clean r = r.superseded
is_in_view _ r = true

-- What it deletes: what nothing needs, where that counts, and what has tries left.
abbrev pub is_needed : Unmaking → StackState → Held → Bool
is_needed unmaking.Clean s r = false
is_needed unmaking.Back s r = is_needed_by_made s r || is_needed_by_create s r
is_needed unmaking.BackClean s r = false
is_needed unmaking.Gone s r = (is_needed_by_made s r || is_needed_by_create s r) || is_needed_by_held s r

abbrev pub has_tries : Unmaking → StackState → Held → Bool
has_tries unmaking.Clean s r = is_tried_less s r
has_tries unmaking.Back s r = is_untried s r
has_tries unmaking.BackClean s r = is_tried_less s r
has_tries unmaking.Gone s r = is_untried s r

abbrev pub is_deletable : Unmaking → StackState → Held → Bool
is_deletable u s r = is_in_view u r && (not (is_needed u s r) && has_tries u s r)

-- a deletion of this resource is open, and was three times in doubt
abbrev pub is_doubted_by : List ℕ → StackState → Pending → Bool
is_doubted_by physical s p = is_deletion_of physical p && not (nat_lt (doubts_of p.token s) 3)

abbrev pub is_doubted : List ℕ → StackState → Bool
is_doubted physical s = list_any (is_doubted_by physical s) s.tokens

-- the policy of the resource that took the place of a superseded one, where one did; else its own
abbrev pub policy_at : Unmaking → StackState → List ℕ → Option Replace
policy_at unmaking.Clean s path = option_map (λ h. h.replace) (current_at path s.held)
policy_at _ s path = None

abbrev pub is_kept_by : Option Replace → Held → Bool
is_kept_by (Some policy) r = is_replaced_retained policy
is_kept_by None r = is_retained_or_excepted r.deletion
