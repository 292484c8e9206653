-- An update of the site whose exported value is imported, taken back.
use Rattle.std.proofs.Common.{◌≡◌, refl, [], ◌∷◌, ◌++◌, Some, false, inl, inr, ap, lit≤, None, true}
use Rattle.std.specs.Prelude.{codes, drop}
use Rattle.cf_tree.specs.declared.request.Request.TheVariants as request
use Rattle.cf_tree.specs.declared.template.Deletion.TheVariants as deletion
use Rattle.cf_tree.specs.declared.template.Replace.TheVariants as replace
use Rattle.cf_schema.specs.declared.changed.Difference.TheVariants.{Same, Update, Replace}
use Rattle.cf_entry.specs.declared.status.Status.TheVariants as status
use Rattle.cf_effect.specs.declared.call.Call.{Call}
use Rattle.cf_effect.specs.declared.call.Settled.TheVariants as settled
use Rattle.cf_effect.specs.declared.held.Held.{Held}
use Rattle.cf_effect.specs.declared.held.HeldStatus.TheVariants as held
use Rattle.cf_effect.specs.World.{World, StackState, empty_world}
use Rattle.cf_effect.specs.Begin.{source_for}
use Rattle.cf_effect.specs.Status.{Forward, Back, BackClean}
use Rattle.cf_plan.specs.Forward.{HasFailed, IsReady, AllDone, IsDone, is_updated, is_right}
use Rattle.cf_tree.specs.Lists.{there}
use Rattle.cf_tree.specs.Lists.{here}
use Rattle.cf_plan.specs.Follow.{MayFollow}
use Rattle.cf_examples.specs.Given.{schemas, file, note, file_props, note_props, file_attrs, note_attrs, report_of}
use Rattle.cf_examples.proofs.Computing.{computing}
use Rattle.cf_examples.proofs.Lists.{in_none, only, either, none, more}
use Rattle.cf_examples.proofs.Failing.{not_failed, not_done_other, same_at, no_bad, no_bad_output}
use Rattle.cf_examples.proofs.Ending.{nothing_to_restore, end_of_back_clean}
use Rattle.cf_examples.proofs.Refusing.{IsRun, ended, step, joined}
use Rattle.cf_examples.proofs.Beginning.{no_imports}
use Rattle.cf_examples.proofs.Site.{world_17, stack_13_site, stack_17_user, audit_1, conf_1, home_1, main_1, size_1, until_17}
use Rattle.cf_examples.specs.SiteKept.{other_hosts, updating, intended_home_change, changed_home, intended_size_change, changed_size, turned, intended_home_restore, restored_home, intended_size_restore, restored_size, cleaning, rolled_back, Legal, Shows, run}

may_updating : MayFollow schemas world_17 [] updating
unfolding computing
may_updating = (refl, refl, record { no_flaw = refl; known_types = refl; same_types = refl; imports = no_imports (codes "site") world_17 (source_for (codes "site") 1 other_hosts) _ refl refl; free = refl; not_in_use = refl; changing = inr refl })

abbrev stack_18_site : StackState
stack_18_site = record stack_13_site { status = status.UpdateInProgress; operation = 3; before = (audit_1 ∷ conf_1 ∷ home_1 ∷ main_1 ∷ size_1 ∷ []); going = Some (source_for (codes "site") 1 other_hosts); entries = (updating ∷ []); events = stack_13_site.events ++ (codes "event 18 - UPDATE_IN_PROGRESS") ∷ []; ledger = [] }

abbrev world_18 : World
world_18 = record world_17 { stacks = (((codes "site"), stack_18_site) ∷ ((codes "user"), stack_17_user) ∷ []); claims = (record { stack = (codes "site"); name = (codes "site-total") } ∷ []); operation = 3; place = 18 }

sound_18 : ¬ HasFailed schemas (codes "site") world_18 stack_18_site
unfolding computing
sound_18 = not_failed schemas (codes "site") world_18 stack_18_site (record { calls = refl; paths = refl; inner = refl; flaws = refl; exports = refl })

conf_right_18 : IsDone stack_18_site (codes "Conf")
unfolding computing
conf_right_18 = is_right _ (there here) (λ q j. absurd (in_none j)) refl refl refl

ready_18_Home : IsReady stack_18_site (codes "Home")
unfolding computing
ready_18_Home = (there (there here), λ q i. only (IsDone stack_18_site) conf_right_18 q i)

may_intended_home_change : MayFollow schemas world_18 [] intended_home_change
unfolding computing
may_intended_home_change = ((codes "site"), stack_18_site, Forward, refl, refl, record { next = refl; free = refl; home = refl; fits = ((codes "3", refl), refl); no_repeat = refl; chosen = (sound_18, ready_18_Home, not_done_other (codes "Home") stack_18_site (same_at (codes "Content") (codes "beta")) _ _ _ refl refl refl refl refl refl, (_, refl, refl, refl, ((λ e. let z : Update ≡ Replace = e in cc), inr (λ e. let z : Update ≡ Same = e in cc)), refl)) })

abbrev pub call_7 : Call
call_7 = record { number = 3; token = 7; lane = (codes "f1"); path = (codes "Home"); request = (request.Update (codes "f1:3") (file_props (codes "home.txt") (codes "b"))); status = status.UpdateInProgress; fresh = true; doubts = 0; answer = None }

abbrev stack_19_site : StackState
stack_19_site = record stack_18_site { tokens = (record { token = 7; path = (codes "Home"); lane = (codes "f1"); request = (request.Update (codes "f1:3") (file_props (codes "home.txt") (codes "b"))) } ∷ []); events = stack_18_site.events ++ (codes "event 19 Home UPDATE_IN_PROGRESS") ∷ []; entries = stack_18_site.entries ++ intended_home_change ∷ []; ledger = (call_7 ∷ []) }

abbrev world_19 : World
world_19 = record world_18 { stacks = (((codes "site"), stack_19_site) ∷ ((codes "user"), stack_17_user) ∷ []); token = 7; place = 19 }

abbrev home_2 : Held
home_2 = record { path = (codes "Home"); kind = file; physical = (codes "f1:3"); props = (file_props (codes "home.txt") (codes "b")); attrs = (file_attrs (codes "f1:3") 1 (codes "home.txt") (codes "b")); needs = ((codes "Conf") ∷ []); deletion = deletion.Delete; replace = replace.Delete; status = held.UpdateComplete; unsure = false; superseded = false }

may_changed_home : MayFollow schemas world_19 (7 ∷ []) changed_home
unfolding computing
may_changed_home = ((codes "site"), stack_19_site, Forward, refl, refl, (refl, refl, lit≤ tt))

abbrev stack_20_site : StackState
stack_20_site = record stack_19_site { held = (audit_1 ∷ conf_1 ∷ home_2 ∷ main_1 ∷ size_1 ∷ []); tokens = []; events = stack_19_site.events ++ (codes "event 20 Home UPDATE_COMPLETE") ∷ []; entries = stack_19_site.entries ++ changed_home ∷ []; ledger = (record call_7 { answer = Some settled.Success } ∷ []) }

abbrev world_20 : World
world_20 = record world_19 { stacks = (((codes "site"), stack_20_site) ∷ ((codes "user"), stack_17_user) ∷ []); place = 20 }

sound_20 : ¬ HasFailed schemas (codes "site") world_20 stack_20_site
unfolding computing
sound_20 = not_failed schemas (codes "site") world_20 stack_20_site (record { calls = refl; paths = refl; inner = refl; flaws = refl; exports = refl })

conf_right_20 : IsDone stack_20_site (codes "Conf")
unfolding computing
conf_right_20 = is_right _ (there here) (λ q j. absurd (in_none j)) refl refl refl

ready_20_Size : IsReady stack_20_site (codes "Size")
unfolding computing
ready_20_Size = (there (there (there (there here))), λ q i. either (IsDone stack_20_site) conf_right_20 (is_updated refl) q i)

may_intended_size_change : MayFollow schemas world_20 [] intended_size_change
unfolding computing
may_intended_size_change = ((codes "site"), stack_20_site, Forward, refl, refl, record { next = refl; free = refl; home = refl; fits = ((codes "5", refl), refl); no_repeat = refl; chosen = (sound_20, ready_20_Size, not_done_other (codes "Size") stack_20_site (same_at (codes "Value") (codes "18/4")) _ _ _ refl refl refl refl refl refl, (_, refl, refl, refl, ((λ e. let z : Update ≡ Replace = e in cc), inr (λ e. let z : Update ≡ Same = e in cc)), refl)) })

abbrev pub call_8 : Call
call_8 = record { number = 3; token = 8; lane = (codes "r1"); path = (codes "Size"); request = (request.Update (codes "r1:5") (note_props (codes "size") (codes "18/1"))); status = status.UpdateInProgress; fresh = true; doubts = 0; answer = None }

abbrev stack_21_site : StackState
stack_21_site = record stack_20_site { tokens = (record { token = 8; path = (codes "Size"); lane = (codes "r1"); request = (request.Update (codes "r1:5") (note_props (codes "size") (codes "18/1"))) } ∷ []); events = stack_20_site.events ++ (codes "event 21 Size UPDATE_IN_PROGRESS") ∷ []; entries = stack_20_site.entries ++ intended_size_change ∷ []; ledger = (record call_7 { answer = Some settled.Success } ∷ call_8 ∷ []) }

abbrev world_21 : World
world_21 = record world_20 { stacks = (((codes "site"), stack_21_site) ∷ ((codes "user"), stack_17_user) ∷ []); token = 8; place = 21 }

abbrev size_2 : Held
size_2 = record { path = (codes "Size"); kind = note; physical = (codes "r1:5"); props = (note_props (codes "size") (codes "18/1")); attrs = (note_attrs (codes "r1:5") 4 (codes "size") (codes "18/1")); needs = ((codes "Conf") ∷ (codes "Home") ∷ []); deletion = deletion.Delete; replace = replace.Delete; status = held.UpdateComplete; unsure = false; superseded = false }

may_changed_size : MayFollow schemas world_21 (8 ∷ []) changed_size
unfolding computing
may_changed_size = ((codes "site"), stack_21_site, Forward, refl, refl, (refl, refl, lit≤ tt))

abbrev stack_22_site : StackState
stack_22_site = record stack_21_site { held = (audit_1 ∷ conf_1 ∷ home_2 ∷ main_1 ∷ size_2 ∷ []); tokens = []; events = stack_21_site.events ++ (codes "event 22 Size UPDATE_COMPLETE") ∷ []; entries = stack_21_site.entries ++ changed_size ∷ []; ledger = (record call_7 { answer = Some settled.Success } ∷ record call_8 { answer = Some settled.Success } ∷ []) }

abbrev world_22 : World
world_22 = record world_21 { stacks = (((codes "site"), stack_22_site) ∷ ((codes "user"), stack_17_user) ∷ []); place = 22 }

audit_right_22 : IsDone stack_22_site (codes "Audit")
unfolding computing
audit_right_22 = is_right _ here (λ q j. absurd (in_none j)) refl refl refl

conf_right_22 : IsDone stack_22_site (codes "Conf")
unfolding computing
conf_right_22 = is_right _ (there here) (λ q j. absurd (in_none j)) refl refl refl

main_right_22 : IsDone stack_22_site (codes "Main")
unfolding computing
main_right_22 = is_right _ (there (there (there here))) (λ q j. only (IsDone stack_22_site) conf_right_22 q j) refl refl refl

all_done_22 : AllDone stack_22_site
unfolding computing
all_done_22 = λ p i. (more (IsDone stack_22_site) audit_right_22 (more (IsDone stack_22_site) conf_right_22 (more (IsDone stack_22_site) (is_updated refl) (more (IsDone stack_22_site) main_right_22 (more (IsDone stack_22_site) (is_updated refl) (none (IsDone stack_22_site))))))) p i

may_turned : MayFollow schemas world_22 [] turned
unfolding computing
may_turned = ((codes "site"), stack_22_site, Forward, refl, refl, (refl, (refl, inr (inr (inr (codes "site-total", (all_done_22, refl)))), (refl, no_bad stack_22_site refl refl, no_bad_output stack_22_site refl, (all_done_22, refl)))))

abbrev stack_23_site : StackState
stack_23_site = record stack_22_site { status = status.UpdateRollbackInProgress; events = stack_22_site.events ++ (codes "event 23 - UPDATE_ROLLBACK_IN_PROGRESS") ∷ []; entries = stack_22_site.entries ++ turned ∷ []; ledger = (record call_7 { fresh = false; answer = Some settled.Success } ∷ record call_8 { fresh = false; answer = Some settled.Success } ∷ []) }

abbrev world_23 : World
world_23 = record world_22 { stacks = (((codes "site"), stack_23_site) ∷ ((codes "user"), stack_17_user) ∷ []); place = 23 }

may_intended_home_restore : MayFollow schemas world_23 [] intended_home_restore
unfolding computing
may_intended_home_restore = ((codes "site"), stack_23_site, Back, refl, refl, record { next = refl; free = refl; home = refl; fits = ((codes "3", refl), refl); no_repeat = refl; chosen = inr (refl, _, (there (there here), refl, refl, refl), refl, refl, refl, refl) })

abbrev pub call_9 : Call
call_9 = record { number = 3; token = 9; lane = (codes "f1"); path = (codes "Home"); request = (request.Update (codes "f1:3") (file_props (codes "home.txt") (codes "beta"))); status = status.UpdateRollbackInProgress; fresh = true; doubts = 0; answer = None }

abbrev stack_24_site : StackState
stack_24_site = record stack_23_site { tokens = (record { token = 9; path = (codes "Home"); lane = (codes "f1"); request = (request.Update (codes "f1:3") (file_props (codes "home.txt") (codes "beta"))) } ∷ []); events = stack_23_site.events ++ (codes "event 24 Home UPDATE_IN_PROGRESS") ∷ []; entries = stack_23_site.entries ++ intended_home_restore ∷ []; ledger = (record call_7 { fresh = false; answer = Some settled.Success } ∷ record call_8 { fresh = false; answer = Some settled.Success } ∷ call_9 ∷ []) }

abbrev world_24 : World
world_24 = record world_23 { stacks = (((codes "site"), stack_24_site) ∷ ((codes "user"), stack_17_user) ∷ []); token = 9; place = 24 }

abbrev home_3 : Held
home_3 = record { path = (codes "Home"); kind = file; physical = (codes "f1:3"); props = (file_props (codes "home.txt") (codes "beta")); attrs = (file_attrs (codes "f1:3") 4 (codes "home.txt") (codes "beta")); needs = ((codes "Conf") ∷ []); deletion = deletion.Delete; replace = replace.Delete; status = held.UpdateComplete; unsure = false; superseded = false }

may_restored_home : MayFollow schemas world_24 (9 ∷ []) restored_home
unfolding computing
may_restored_home = ((codes "site"), stack_24_site, Back, refl, refl, (refl, refl, lit≤ tt))

abbrev stack_25_site : StackState
stack_25_site = record stack_24_site { held = (audit_1 ∷ conf_1 ∷ home_3 ∷ main_1 ∷ size_2 ∷ []); tokens = []; events = stack_24_site.events ++ (codes "event 25 Home UPDATE_COMPLETE") ∷ []; entries = stack_24_site.entries ++ restored_home ∷ []; ledger = (record call_7 { fresh = false; answer = Some settled.Success } ∷ record call_8 { fresh = false; answer = Some settled.Success } ∷ record call_9 { answer = Some settled.Success } ∷ []) }

abbrev world_25 : World
world_25 = record world_24 { stacks = (((codes "site"), stack_25_site) ∷ ((codes "user"), stack_17_user) ∷ []); place = 25 }

may_intended_size_restore : MayFollow schemas world_25 [] intended_size_restore
unfolding computing
may_intended_size_restore = ((codes "site"), stack_25_site, Back, refl, refl, record { next = refl; free = refl; home = refl; fits = ((codes "5", refl), refl); no_repeat = refl; chosen = inr (refl, _, (there (there (there (there here))), refl, refl, refl), refl, refl, refl, refl) })

abbrev pub call_10 : Call
call_10 = record { number = 3; token = 10; lane = (codes "r1"); path = (codes "Size"); request = (request.Update (codes "r1:5") (note_props (codes "size") (codes "18/4"))); status = status.UpdateRollbackInProgress; fresh = true; doubts = 0; answer = None }

abbrev stack_26_site : StackState
stack_26_site = record stack_25_site { tokens = (record { token = 10; path = (codes "Size"); lane = (codes "r1"); request = (request.Update (codes "r1:5") (note_props (codes "size") (codes "18/4"))) } ∷ []); events = stack_25_site.events ++ (codes "event 26 Size UPDATE_IN_PROGRESS") ∷ []; entries = stack_25_site.entries ++ intended_size_restore ∷ []; ledger = (record call_7 { fresh = false; answer = Some settled.Success } ∷ record call_8 { fresh = false; answer = Some settled.Success } ∷ record call_9 { answer = Some settled.Success } ∷ call_10 ∷ []) }

abbrev world_26 : World
world_26 = record world_25 { stacks = (((codes "site"), stack_26_site) ∷ ((codes "user"), stack_17_user) ∷ []); token = 10; place = 26 }

abbrev size_3 : Held
size_3 = record { path = (codes "Size"); kind = note; physical = (codes "r1:5"); props = (note_props (codes "size") (codes "18/4")); attrs = (note_attrs (codes "r1:5") 4 (codes "size") (codes "18/4")); needs = ((codes "Conf") ∷ (codes "Home") ∷ []); deletion = deletion.Delete; replace = replace.Delete; status = held.UpdateComplete; unsure = false; superseded = false }

may_restored_size : MayFollow schemas world_26 (10 ∷ []) restored_size
unfolding computing
may_restored_size = ((codes "site"), stack_26_site, Back, refl, refl, (refl, refl, lit≤ tt))

abbrev stack_27_site : StackState
stack_27_site = record stack_26_site { held = (audit_1 ∷ conf_1 ∷ home_3 ∷ main_1 ∷ size_3 ∷ []); tokens = []; events = stack_26_site.events ++ (codes "event 27 Size UPDATE_COMPLETE") ∷ []; entries = stack_26_site.entries ++ restored_size ∷ []; ledger = (record call_7 { fresh = false; answer = Some settled.Success } ∷ record call_8 { fresh = false; answer = Some settled.Success } ∷ record call_9 { answer = Some settled.Success } ∷ record call_10 { answer = Some settled.Success } ∷ []) }

abbrev world_27 : World
world_27 = record world_26 { stacks = (((codes "site"), stack_27_site) ∷ ((codes "user"), stack_17_user) ∷ []); place = 27 }

may_cleaning : MayFollow schemas world_27 [] cleaning
unfolding computing
may_cleaning = ((codes "site"), stack_27_site, Back, refl, refl, (refl, (refl, refl, nothing_to_restore stack_27_site refl, refl)))

abbrev stack_28_site : StackState
stack_28_site = record stack_27_site { status = status.UpdateRollbackCompleteCleanupInProgress; events = stack_27_site.events ++ (codes "event 28 - UPDATE_ROLLBACK_COMPLETE_CLEANUP_IN_PROGRESS") ∷ []; entries = stack_27_site.entries ++ cleaning ∷ []; ledger = (record call_7 { fresh = false; answer = Some settled.Success } ∷ record call_8 { fresh = false; answer = Some settled.Success } ∷ record call_9 { fresh = false; answer = Some settled.Success } ∷ record call_10 { fresh = false; answer = Some settled.Success } ∷ []) }

abbrev world_28 : World
world_28 = record world_27 { stacks = (((codes "site"), stack_28_site) ∷ ((codes "user"), stack_17_user) ∷ []); place = 28 }

may_rolled_back : MayFollow schemas world_28 [] rolled_back
unfolding computing
may_rolled_back = ((codes "site"), stack_28_site, BackClean, refl, refl, (refl, end_of_back_clean schemas (codes "site") world_28 stack_28_site refl refl refl, tt, refl))

abbrev stack_29_site : StackState
stack_29_site = record stack_28_site { status = status.UpdateRollbackComplete; events = stack_28_site.events ++ (codes "event 29 - UPDATE_ROLLBACK_COMPLETE") ∷ []; entries = stack_28_site.entries ++ rolled_back ∷ [] }

abbrev world_29 : World
world_29 = record world_28 { stacks = (((codes "site"), stack_29_site) ∷ ((codes "user"), stack_17_user) ∷ []); claims = []; place = 29 }

pub until_29 : IsRun empty_world run world_29
unfolding computing
until_29 =
    joined (drop 17 run) until_17
    (step world_18 [] may_updating refl
    (step world_19 [] may_intended_home_change refl
    (step world_20 (7 ∷ []) may_changed_home refl
    (step world_21 [] may_intended_size_change refl
    (step world_22 (8 ∷ []) may_changed_size refl
    (step world_23 [] may_turned refl
    (step world_24 [] may_intended_home_restore refl
    (step world_25 (9 ∷ []) may_restored_home refl
    (step world_26 [] may_intended_size_restore refl
    (step world_27 (10 ∷ []) may_restored_size refl
    (step world_28 [] may_cleaning refl
    (step world_29 [] may_rolled_back refl ended))))))))))))

pub legal : Legal
legal = until_29.legal

pub report_0 : Shows
report_0 = ap (report_of (codes "site")) until_29.arrives
