-- What is worked out of a stack once, before a stage goes through the resources that it may delete; and what that makes of each
-- resource (this project's own).
use Rattle.std.specs.Prelude.{◌≡◌, ℕ, Bool, ◌&&◌, ◌||◌, not, List, [], ◌∷◌, ◌++◌, Option, Some, None, nat_lt, ◌==◌, flat_map, if◌then◌else◌}
use Rattle.cf_tree.specs.declared.request.Request.TheVariants as request
use Rattle.cf_tree.specs.declared.template.Replace.{Replace}
use Rattle.cf_tree.specs.Keys.{value_at}
use Rattle.cf_tree.specs.Lists.{is_among}
use Rattle.cf_entry.specs.declared.turn.Why.{Why}
use Rattle.cf_entry.specs.declared.turn.Why.TheVariants as why
use Rattle.cf_effect.specs.declared.held.Held.{Held}
use Rattle.cf_effect.specs.declared.held.Pending.{Pending}
use Rattle.cf_effect.specs.Calls.{doubts_of}
use Rattle.cf_effect.specs.Words.{is_create}
use Rattle.cf_effect.specs.World.{StackState}
use Rattle.cf_plan.specs.Follow.{is_free, is_retained, is_retained_or_excepted}
use Rattle.cf_next.specs.declared.facts.Facts.{Facts}
use Rattle.cf_next.specs.declared.offer.Keeping.{Keeping}
use Rattle.cf_plan.specs.Start.{Start}
use Rattle.cf_next.specs.declared.tallies.Tally.{Tally}
use Rattle.cf_next.specs.declared.unmaking.Unmaking.{Unmaking}
use Rattle.cf_next.specs.declared.unmaking.Unmaking.TheVariants as unmaking
use Rattle.cf_next.specs.Lookups.{has_key, with_named}
use Rattle.cf_next.specs.Needed.{current_path}
use Rattle.cf_next.specs.Repeats.{retained_in}
use Rattle.cf_next.specs.Tallies.{deleted_id, tally_of, tally_under}
use Rattle.cf_next.specs.Unmaking.{is_cleanup, is_doubted, is_in_view, is_kept_by, is_needed, policy_at, stage_in}

pub record AreFacts (u : Unmaking) (s : StackState) (f : Facts) : Type 0 where
  pub needed : (r : Held) → has_key r.physical f.needed ≡ is_needed u s r
  pub tallies : (id : List ℕ) → tally_under id f.tallies ≡ tally_of id s
  pub busy : (path : List ℕ) → has_key path f.busy ≡ not (is_free path s)
  pub doubted : (id : List ℕ) → has_key id f.doubted ≡ (is_cleanup u && is_doubted id s)
  pub policies : (path : List ℕ) → value_at path f.policies ≡ policy_at u s path
  pub retained : (path : List ℕ) → has_key path f.retained ≡ is_among path (retained_in (stage_in u) s)

-- As code works them out: by walks over the open calls and the held resources.
abbrev pub with_open : List (List ℕ × Unit {0}) → Pending → List (List ℕ × Unit {0})
with_open paths p = with_named (Some p.path) tt paths

abbrev pub doubted_id : StackState → Pending → Option (List ℕ)
doubted_id s p = if nat_lt (doubts_of p.token s) 3 then None else deleted_id p.request

abbrev pub with_doubted : StackState → List (List ℕ × Unit {0}) → Pending → List (List ℕ × Unit {0})
with_doubted s ids p = with_named (doubted_id s p) tt ids

abbrev pub with_policy : List (List ℕ × Replace) → Held → List (List ℕ × Replace)
with_policy policies h = with_named (current_path h) h.replace policies

-- What comes of a resource: a deletion that may begin, or it is kept.
abbrev pub has_try_left : Unmaking → Tally → Bool
has_try_left u t = if is_cleanup u then nat_lt t.begun 3 else t.begun == 0

abbrev pub may_delete : Unmaking → Facts → Held → Bool
may_delete u f r = is_in_view u r && (not (has_key r.physical f.needed) && has_try_left u (tally_under r.physical f.tallies))

abbrev pub is_kept : Unmaking → Facts → Held → Bool
is_kept unmaking.Clean f r = is_kept_by (value_at r.path f.policies) r
is_kept unmaking.Back f r = is_retained r.deletion
is_kept unmaking.BackClean f r = is_retained r.deletion
is_kept unmaking.Gone f r = is_retained_or_excepted r.deletion || has_key r.path f.retained

abbrev pub deletion_start : Facts → Held → List Start
deletion_start f r = if has_key r.path f.busy then [] else record { path = r.path; request = request.Delete r.physical } ∷ []

abbrev pub keeping_for : Held → Why → Keeping
keeping_for r w = record { path = r.path; physical = r.physical; why = w }

abbrev pub retention_of : Facts → Held → List Keeping
retention_of f r = if has_key r.path f.busy && not (has_key r.path f.retained) then [] else keeping_for r why.Retained ∷ []

abbrev pub starts_for : Unmaking → Facts → Held → List Start
starts_for u f r = if may_delete u f r && not (is_kept u f r) then deletion_start f r else []

abbrev pub retained_by : Unmaking → Facts → Held → List Keeping
retained_by u f r = if may_delete u f r && is_kept u f r then retention_of f r else []

-- what a cleanup could not delete is kept
abbrev pub refused_by : Facts → Held → List Keeping
refused_by f r = if nat_lt (tally_under r.physical f.tallies).refused 3 then [] else keeping_for r why.Failed ∷ []

abbrev pub doubted_by : Facts → Held → List Keeping
doubted_by f r = if has_key r.physical f.doubted then keeping_for r why.Doubt ∷ [] else []

abbrev pub undeleted_by : Unmaking → Facts → Held → List Keeping
undeleted_by u f r = if is_cleanup u && is_in_view u r then refused_by f r ++ doubted_by f r else []

abbrev pub keepings_by : Unmaking → Facts → Held → List Keeping
keepings_by u f r = retained_by u f r ++ undeleted_by u f r

-- The lists with what a resource makes of them, without what a cleanup could not delete; with it; and with what some resources make.
abbrev pub IsRemovalAdded : Unmaking → Facts → Held → List Start → List Start → List Keeping → List Keeping → Type 0
IsRemovalAdded u f r starts more kept all = (more ≡ starts ++ starts_for u f r) × (all ≡ kept ++ retained_by u f r)

abbrev pub IsAdded : Unmaking → Facts → Held → List Start → List Start → List Keeping → List Keeping → Type 0
IsAdded u f r starts more kept all = (more ≡ starts ++ starts_for u f r) × (all ≡ kept ++ keepings_by u f r)

abbrev pub AreAdded : Unmaking → Facts → List Held → List Start → List Start → List Keeping → List Keeping → Type 0
AreAdded u f rs starts more kept all = (more ≡ starts ++ flat_map (starts_for u f) rs) × (all ≡ kept ++ flat_map (keepings_by u f) rs)

-- an open create of a path that is to be retained is given up
abbrev pub creates_given_up : List (List ℕ) → Pending → List Keeping
creates_given_up retained p =
    if is_create p.request && is_among p.path retained then record { path = p.path; physical = []; why = why.Retained } ∷ [] else []
