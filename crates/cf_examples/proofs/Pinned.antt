-- A stack exports the length of a file, and another one imports it: an update that would change the length is taken back.
use Rattle.std.proofs.Common.{◌≡◌, refl, List, [], ◌∷◌, ◌++◌, Some, None, false, ℕ, inl, inr, ap, lit≤, true≢false, true}
use Rattle.std.specs.Prelude.{codes, length, take, drop}
use Rattle.cf_desired.specs.declared.wanted.Plan.{Plan}
use Rattle.cf_tree.specs.declared.request.Request.TheVariants as request
use Rattle.cf_effect.specs.declared.call.Call.{Call}
use Rattle.cf_effect.specs.declared.call.Settled.TheVariants as settled
use Rattle.cf_effect.specs.declared.held.Held.{Held}
use Rattle.cf_effect.specs.World.{World, StackState, empty_world, no_stack}
use Rattle.cf_effect.specs.Begin.{source_for}
use Rattle.cf_effect.specs.Status.{Forward, Back, BackClean}
use Rattle.cf_plan.specs.Forward.{HasFailed, IsReady, AllDone, IsDone, is_made, is_updated}
use Rattle.cf_tree.specs.Lists.{here}
use Rattle.cf_plan.specs.Follow.{MayFollow}
use Rattle.cf_schema.specs.declared.changed.Difference.TheVariants.{Same, Update, Replace}
use Rattle.cf_examples.specs.Given.{schemas, file, note, file_props, note_props, file_attrs, note_attrs, lane_pair, report_of}
use Rattle.cf_examples.proofs.Computing.{computing}
use Rattle.cf_examples.proofs.Lists.{in_none, only}
use Rattle.cf_examples.proofs.Failing.{not_failed, not_done_new, not_done_other, no_bad, no_bad_output, same_at}
use Rattle.cf_examples.proofs.Ending.{end_of_create, end_of_back_clean, nothing_to_restore}
use Rattle.cf_tree.specs.declared.template.Deletion.TheVariants as deletion
use Rattle.cf_tree.specs.declared.template.Replace.TheVariants as replace
use Rattle.cf_entry.specs.declared.entry.Entry.TheVariants as entry
use Rattle.cf_entry.specs.declared.entry.Begun.TheVariants as begin
use Rattle.cf_entry.specs.declared.status.Status.TheVariants as status
use Rattle.cf_entry.specs.declared.turn.Phase.TheVariants as phase
use Rattle.cf_effect.specs.declared.held.HeldStatus.TheVariants as held
use Rattle.cf_examples.proofs.Refusing.{follows_on, refused_at, IsRun, ended, step, joined}
use Rattle.cf_examples.proofs.Beginning.{no_imports, one_import}
use Rattle.cf_examples.specs.Pinned.{first, second, importing, opened, begun, intended_file, made_file, created, begun_user, intended_record, made_record, created_user, updating, intended_change, changed, turned, intended_restore, restored, cleaning, rolled_back, Legal, Shows, ChangedThoughPinned, DeletedThoughPinned, run}

abbrev world_0 : World
world_0 = empty_world

may_opened : MayFollow schemas world_0 [] opened
unfolding computing
may_opened = (refl, refl, λ name s e. absurd (cc))

abbrev world_1 : World
world_1 = record world_0 { lanes = (lane_pair (codes "f1") file ∷ lane_pair (codes "r1") note ∷ []); epoch = 1; place = 1 }

may_begun : MayFollow schemas world_1 [] begun
unfolding computing
may_begun = (refl, refl, record { no_flaw = refl; known_types = refl; same_types = refl; imports = no_imports _ _ _ _ refl refl; free = refl; not_in_use = refl; changing = inl refl })

abbrev stack_2_site : StackState
stack_2_site = record no_stack { status = status.CreateInProgress; number = 1; operation = 1; going = Some (source_for (codes "site") 1 first); events = ((codes "event 2 - CREATE_IN_PROGRESS") ∷ []); entries = (begun ∷ []) }

abbrev world_2 : World
world_2 = record world_1 { stacks = (((codes "site"), stack_2_site) ∷ []); claims = (record { stack = (codes "site"); name = (codes "site-total") } ∷ []); operation = 1; place = 2 }

sound_2 : ¬ HasFailed schemas (codes "site") world_2 stack_2_site
unfolding computing
sound_2 = not_failed schemas (codes "site") world_2 stack_2_site (record { calls = refl; paths = refl; inner = refl; flaws = refl; exports = refl })

ready_2_A : IsReady stack_2_site (codes "A")
unfolding computing
ready_2_A = (here, λ q i. absurd (in_none i))

may_intended_file : MayFollow schemas world_2 [] intended_file
unfolding computing
may_intended_file = ((codes "site"), stack_2_site, Forward, refl, refl, record { next = refl; free = refl; home = refl; fits = refl; no_repeat = refl; chosen = (sound_2, ready_2_A, not_done_new (codes "A") stack_2_site refl refl refl, (refl, tt)) })

abbrev pub call_1 : Call
call_1 = record { number = 1; token = 1; lane = (codes "f1"); path = (codes "A"); request = (request.Create file (file_props (codes "a") (codes "xx"))); status = status.CreateInProgress; fresh = true; doubts = 0; answer = None }

abbrev stack_3_site : StackState
stack_3_site = record stack_2_site { tokens = (record { token = 1; path = (codes "A"); lane = (codes "f1"); request = (request.Create file (file_props (codes "a") (codes "xx"))) } ∷ []); events = stack_2_site.events ++ (codes "event 3 A CREATE_IN_PROGRESS") ∷ []; entries = stack_2_site.entries ++ intended_file ∷ []; ledger = (call_1 ∷ []) }

abbrev world_3 : World
world_3 = record world_2 { stacks = (((codes "site"), stack_3_site) ∷ []); token = 1; place = 3 }

may_made_file : MayFollow schemas world_3 (1 ∷ []) made_file
unfolding computing
may_made_file = ((codes "site"), stack_3_site, Forward, refl, refl, (refl, refl, lit≤ tt))

abbrev a_1 : Held
a_1 = record { path = (codes "A"); kind = file; physical = (codes "f1:1"); props = (file_props (codes "a") (codes "xx")); attrs = (file_attrs (codes "f1:1") 2 (codes "a") (codes "xx")); needs = []; deletion = deletion.Delete; replace = replace.Delete; status = held.CreateComplete; unsure = false; superseded = false }

abbrev stack_4_site : StackState
stack_4_site = record stack_3_site { made = (a_1 ∷ []); tokens = []; events = stack_3_site.events ++ (codes "event 4 A CREATE_COMPLETE") ∷ []; entries = stack_3_site.entries ++ made_file ∷ []; ledger = (record call_1 { answer = Some settled.Success } ∷ []) }

abbrev world_4 : World
world_4 = record world_3 { stacks = (((codes "site"), stack_4_site) ∷ []); place = 4 }

all_done_4 : AllDone stack_4_site
unfolding computing
all_done_4 = λ p i. only (IsDone stack_4_site) (is_made _ refl) p i

sound_4 : ¬ HasFailed schemas (codes "site") world_4 stack_4_site
unfolding computing
sound_4 = not_failed schemas (codes "site") world_4 stack_4_site (record { calls = refl; paths = refl; inner = refl; flaws = refl; exports = refl })

may_created : MayFollow schemas world_4 [] created
unfolding computing
may_created = ((codes "site"), stack_4_site, Forward, refl, refl, (refl, end_of_create schemas (codes "site") world_4 stack_4_site refl all_done_4 sound_4 refl, (sound_4, all_done_4), refl))

abbrev stack_5_site : StackState
stack_5_site = record stack_4_site { status = status.CreateComplete; held = (a_1 ∷ []); made = []; source = Some (source_for (codes "site") 1 first); outputs = (record { name = (codes "Total"); value = (codes "2"); export = Some (codes "site-total") } ∷ []); events = stack_4_site.events ++ (codes "event 5 - CREATE_COMPLETE") ∷ []; entries = stack_4_site.entries ++ created ∷ [] }

abbrev world_5 : World
world_5 = record world_4 { stacks = (((codes "site"), stack_5_site) ∷ []); exports = (record { name = (codes "site-total"); value = (codes "2"); stack = (codes "site") } ∷ []); claims = []; place = 5 }

may_begun_user : MayFollow schemas world_5 [] begun_user
unfolding computing
may_begun_user = (refl, refl, record { no_flaw = refl; known_types = refl; same_types = refl; imports = one_import _ _ _ _ (codes "site-total") (codes "2") refl refl refl (λ e. let z : 1 ≡ 0 = ap (λ (p : Plan). length p.flaws) e in cc); free = refl; not_in_use = refl; changing = inl refl })

abbrev stack_6_site : StackState
stack_6_site = stack_5_site

abbrev stack_6_user : StackState
stack_6_user = record no_stack { status = status.CreateInProgress; number = 2; operation = 2; going = Some (source_for (codes "user") 2 importing); events = ((codes "event 6 - CREATE_IN_PROGRESS") ∷ []); entries = (begun_user ∷ []) }

abbrev world_6 : World
world_6 = record world_5 { stacks = (((codes "site"), stack_6_site) ∷ ((codes "user"), stack_6_user) ∷ []); pins = (record { stack = (codes "user"); name = (codes "site-total") } ∷ []); operation = 2; place = 6 }

sound_6 : ¬ HasFailed schemas (codes "user") world_6 stack_6_user
unfolding computing
sound_6 = not_failed schemas (codes "user") world_6 stack_6_user (record { calls = refl; paths = refl; inner = refl; flaws = refl; exports = refl })

ready_6_U : IsReady stack_6_user (codes "U")
unfolding computing
ready_6_U = (here, λ q i. absurd (in_none i))

may_intended_record : MayFollow schemas world_6 [] intended_record
unfolding computing
may_intended_record = ((codes "user"), stack_6_user, Forward, refl, refl, record { next = refl; free = refl; home = refl; fits = refl; no_repeat = refl; chosen = (sound_6, ready_6_U, not_done_new (codes "U") stack_6_user refl refl refl, (refl, tt)) })

abbrev stack_7_site : StackState
stack_7_site = stack_6_site

abbrev pub call_2 : Call
call_2 = record { number = 2; token = 2; lane = (codes "r1"); path = (codes "U"); request = (request.Create note (note_props (codes "u") (codes "2"))); status = status.CreateInProgress; fresh = true; doubts = 0; answer = None }

abbrev stack_7_user : StackState
stack_7_user = record stack_6_user { tokens = (record { token = 2; path = (codes "U"); lane = (codes "r1"); request = (request.Create note (note_props (codes "u") (codes "2"))) } ∷ []); events = stack_6_user.events ++ (codes "event 7 U CREATE_IN_PROGRESS") ∷ []; entries = stack_6_user.entries ++ intended_record ∷ []; ledger = (call_2 ∷ []) }

abbrev world_7 : World
world_7 = record world_6 { stacks = (((codes "site"), stack_7_site) ∷ ((codes "user"), stack_7_user) ∷ []); token = 2; place = 7 }

may_made_record : MayFollow schemas world_7 (2 ∷ []) made_record
unfolding computing
may_made_record = ((codes "user"), stack_7_user, Forward, refl, refl, (refl, refl, lit≤ tt))

abbrev stack_8_site : StackState
stack_8_site = stack_7_site

abbrev u_1 : Held
u_1 = record { path = (codes "U"); kind = note; physical = (codes "r1:2"); props = (note_props (codes "u") (codes "2")); attrs = (note_attrs (codes "r1:2") 1 (codes "u") (codes "2")); needs = []; deletion = deletion.Delete; replace = replace.Delete; status = held.CreateComplete; unsure = false; superseded = false }

abbrev stack_8_user : StackState
stack_8_user = record stack_7_user { made = (u_1 ∷ []); tokens = []; events = stack_7_user.events ++ (codes "event 8 U CREATE_COMPLETE") ∷ []; entries = stack_7_user.entries ++ made_record ∷ []; ledger = (record call_2 { answer = Some settled.Success } ∷ []) }

abbrev world_8 : World
world_8 = record world_7 { stacks = (((codes "site"), stack_8_site) ∷ ((codes "user"), stack_8_user) ∷ []); place = 8 }

all_done_8 : AllDone stack_8_user
unfolding computing
all_done_8 = λ p i. only (IsDone stack_8_user) (is_made _ refl) p i

sound_8 : ¬ HasFailed schemas (codes "user") world_8 stack_8_user
unfolding computing
sound_8 = not_failed schemas (codes "user") world_8 stack_8_user (record { calls = refl; paths = refl; inner = refl; flaws = refl; exports = refl })

may_created_user : MayFollow schemas world_8 [] created_user
unfolding computing
may_created_user = ((codes "user"), stack_8_user, Forward, refl, refl, (refl, end_of_create schemas (codes "user") world_8 stack_8_user refl all_done_8 sound_8 refl, (sound_8, all_done_8), refl))

abbrev stack_9_site : StackState
stack_9_site = stack_8_site

abbrev stack_9_user : StackState
stack_9_user = record stack_8_user { status = status.CreateComplete; held = (u_1 ∷ []); made = []; source = Some (source_for (codes "user") 2 importing); events = stack_8_user.events ++ (codes "event 9 - CREATE_COMPLETE") ∷ []; entries = stack_8_user.entries ++ created_user ∷ [] }

abbrev world_9 : World
world_9 = record world_8 { stacks = (((codes "site"), stack_9_site) ∷ ((codes "user"), stack_9_user) ∷ []); place = 9 }

may_updating : MayFollow schemas world_9 [] updating
unfolding computing
may_updating = (refl, refl, record { no_flaw = refl; known_types = refl; same_types = refl; imports = no_imports _ _ _ _ refl refl; free = refl; not_in_use = refl; changing = inr refl })

abbrev stack_10_site : StackState
stack_10_site = record stack_9_site { status = status.UpdateInProgress; operation = 3; before = (a_1 ∷ []); going = Some (source_for (codes "site") 1 second); events = stack_9_site.events ++ (codes "event 10 - UPDATE_IN_PROGRESS") ∷ []; entries = (updating ∷ []); ledger = [] }

abbrev stack_10_user : StackState
stack_10_user = stack_9_user

abbrev world_10 : World
world_10 = record world_9 { stacks = (((codes "site"), stack_10_site) ∷ ((codes "user"), stack_10_user) ∷ []); claims = (record { stack = (codes "site"); name = (codes "site-total") } ∷ []); operation = 3; place = 10 }

sound_10 : ¬ HasFailed schemas (codes "site") world_10 stack_10_site
unfolding computing
sound_10 = not_failed schemas (codes "site") world_10 stack_10_site (record { calls = refl; paths = refl; inner = refl; flaws = refl; exports = refl })

ready_10_A : IsReady stack_10_site (codes "A")
unfolding computing
ready_10_A = (here, λ q i. absurd (in_none i))

may_intended_change : MayFollow schemas world_10 [] intended_change
unfolding computing
may_intended_change = ((codes "site"), stack_10_site, Forward, refl, refl, record { next = refl; free = refl; home = refl; fits = ((codes "1", refl), refl); no_repeat = refl; chosen = (sound_10, ready_10_A, not_done_other (codes "A") stack_10_site (same_at (codes "Content") (codes "xx")) _ _ _ refl refl refl refl refl refl, (_, refl, refl, refl, ((λ e. let z : Update ≡ Replace = e in cc), inr (λ e. let z : Update ≡ Same = e in cc)), refl)) })

abbrev pub call_3 : Call
call_3 = record { number = 3; token = 3; lane = (codes "f1"); path = (codes "A"); request = (request.Update (codes "f1:1") (file_props (codes "a") (codes "xxx"))); status = status.UpdateInProgress; fresh = true; doubts = 0; answer = None }

abbrev stack_11_site : StackState
stack_11_site = record stack_10_site { tokens = (record { token = 3; path = (codes "A"); lane = (codes "f1"); request = (request.Update (codes "f1:1") (file_props (codes "a") (codes "xxx"))) } ∷ []); events = stack_10_site.events ++ (codes "event 11 A UPDATE_IN_PROGRESS") ∷ []; entries = stack_10_site.entries ++ intended_change ∷ []; ledger = (call_3 ∷ []) }

abbrev stack_11_user : StackState
stack_11_user = stack_10_user

abbrev world_11 : World
world_11 = record world_10 { stacks = (((codes "site"), stack_11_site) ∷ ((codes "user"), stack_11_user) ∷ []); token = 3; place = 11 }

may_changed : MayFollow schemas world_11 (3 ∷ []) changed
unfolding computing
may_changed = ((codes "site"), stack_11_site, Forward, refl, refl, (refl, refl, lit≤ tt))

abbrev a_2 : Held
a_2 = record { path = (codes "A"); kind = file; physical = (codes "f1:1"); props = (file_props (codes "a") (codes "xxx")); attrs = (file_attrs (codes "f1:1") 3 (codes "a") (codes "xxx")); needs = []; deletion = deletion.Delete; replace = replace.Delete; status = held.UpdateComplete; unsure = false; superseded = false }

abbrev stack_12_site : StackState
stack_12_site = record stack_11_site { held = (a_2 ∷ []); tokens = []; events = stack_11_site.events ++ (codes "event 12 A UPDATE_COMPLETE") ∷ []; entries = stack_11_site.entries ++ changed ∷ []; ledger = (record call_3 { answer = Some settled.Success } ∷ []) }

abbrev stack_12_user : StackState
stack_12_user = stack_11_user

abbrev world_12 : World
world_12 = record world_11 { stacks = (((codes "site"), stack_12_site) ∷ ((codes "user"), stack_12_user) ∷ []); place = 12 }

all_done_12 : AllDone stack_12_site
unfolding computing
all_done_12 = λ p i. only (IsDone stack_12_site) (is_updated refl) p i

may_turned : MayFollow schemas world_12 [] turned
unfolding computing
may_turned = ((codes "site"), stack_12_site, Forward, refl, refl, (refl, (refl, inr (inr (inr (codes "site-total", (all_done_12, refl)))), (refl, no_bad stack_12_site refl refl, no_bad_output stack_12_site refl, (all_done_12, refl)))))

abbrev stack_13_site : StackState
stack_13_site = record stack_12_site { status = status.UpdateRollbackInProgress; events = stack_12_site.events ++ (codes "event 13 - UPDATE_ROLLBACK_IN_PROGRESS") ∷ []; entries = stack_12_site.entries ++ turned ∷ []; ledger = (record call_3 { fresh = false; answer = Some settled.Success } ∷ []) }

abbrev stack_13_user : StackState
stack_13_user = stack_12_user

abbrev world_13 : World
world_13 = record world_12 { stacks = (((codes "site"), stack_13_site) ∷ ((codes "user"), stack_13_user) ∷ []); place = 13 }

may_intended_restore : MayFollow schemas world_13 [] intended_restore
unfolding computing
may_intended_restore = ((codes "site"), stack_13_site, Back, refl, refl, record { next = refl; free = refl; home = refl; fits = ((codes "1", refl), refl); no_repeat = refl; chosen = inr (refl, _, (here, refl, refl, refl), refl, refl, refl, refl) })

abbrev pub call_4 : Call
call_4 = record { number = 3; token = 4; lane = (codes "f1"); path = (codes "A"); request = (request.Update (codes "f1:1") (file_props (codes "a") (codes "xx"))); status = status.UpdateRollbackInProgress; fresh = true; doubts = 0; answer = None }

abbrev stack_14_site : StackState
stack_14_site = record stack_13_site { tokens = (record { token = 4; path = (codes "A"); lane = (codes "f1"); request = (request.Update (codes "f1:1") (file_props (codes "a") (codes "xx"))) } ∷ []); events = stack_13_site.events ++ (codes "event 14 A UPDATE_IN_PROGRESS") ∷ []; entries = stack_13_site.entries ++ intended_restore ∷ []; ledger = (record call_3 { fresh = false; answer = Some settled.Success } ∷ call_4 ∷ []) }

abbrev stack_14_user : StackState
stack_14_user = stack_13_user

abbrev world_14 : World
world_14 = record world_13 { stacks = (((codes "site"), stack_14_site) ∷ ((codes "user"), stack_14_user) ∷ []); token = 4; place = 14 }

may_restored : MayFollow schemas world_14 (4 ∷ []) restored
unfolding computing
may_restored = ((codes "site"), stack_14_site, Back, refl, refl, (refl, refl, lit≤ tt))

abbrev a_3 : Held
a_3 = record { path = (codes "A"); kind = file; physical = (codes "f1:1"); props = (file_props (codes "a") (codes "xx")); attrs = (file_attrs (codes "f1:1") 2 (codes "a") (codes "xx")); needs = []; deletion = deletion.Delete; replace = replace.Delete; status = held.UpdateComplete; unsure = false; superseded = false }

abbrev stack_15_site : StackState
stack_15_site = record stack_14_site { held = (a_3 ∷ []); tokens = []; events = stack_14_site.events ++ (codes "event 15 A UPDATE_COMPLETE") ∷ []; entries = stack_14_site.entries ++ restored ∷ []; ledger = (record call_3 { fresh = false; answer = Some settled.Success } ∷ record call_4 { answer = Some settled.Success } ∷ []) }

abbrev stack_15_user : StackState
stack_15_user = stack_14_user

abbrev world_15 : World
world_15 = record world_14 { stacks = (((codes "site"), stack_15_site) ∷ ((codes "user"), stack_15_user) ∷ []); place = 15 }

may_cleaning : MayFollow schemas world_15 [] cleaning
unfolding computing
may_cleaning = ((codes "site"), stack_15_site, Back, refl, refl, (refl, (refl, refl, nothing_to_restore stack_15_site refl, refl)))

abbrev stack_16_site : StackState
stack_16_site = record stack_15_site { status = status.UpdateRollbackCompleteCleanupInProgress; events = stack_15_site.events ++ (codes "event 16 - UPDATE_ROLLBACK_COMPLETE_CLEANUP_IN_PROGRESS") ∷ []; entries = stack_15_site.entries ++ cleaning ∷ []; ledger = (record call_3 { fresh = false; answer = Some settled.Success } ∷ record call_4 { fresh = false; answer = Some settled.Success } ∷ []) }

abbrev stack_16_user : StackState
stack_16_user = stack_15_user

abbrev world_16 : World
world_16 = record world_15 { stacks = (((codes "site"), stack_16_site) ∷ ((codes "user"), stack_16_user) ∷ []); place = 16 }

may_rolled_back : MayFollow schemas world_16 [] rolled_back
unfolding computing
may_rolled_back = ((codes "site"), stack_16_site, BackClean, refl, refl, (refl, end_of_back_clean schemas (codes "site") world_16 stack_16_site refl refl refl, tt, refl))

abbrev stack_17_site : StackState
stack_17_site = record stack_16_site { status = status.UpdateRollbackComplete; events = stack_16_site.events ++ (codes "event 17 - UPDATE_ROLLBACK_COMPLETE") ∷ []; entries = stack_16_site.entries ++ rolled_back ∷ [] }

abbrev stack_17_user : StackState
stack_17_user = stack_16_user

abbrev world_17 : World
world_17 = record world_16 { stacks = (((codes "site"), stack_17_site) ∷ ((codes "user"), stack_17_user) ∷ []); claims = []; place = 17 }

pub until_12 : IsRun empty_world (take 12 run) world_12
unfolding computing
until_12 =
    step world_1 [] may_opened refl
    (step world_2 [] may_begun refl
    (step world_3 [] may_intended_file refl
    (step world_4 (1 ∷ []) may_made_file refl
    (step world_5 [] may_created refl
    (step world_6 [] may_begun_user refl
    (step world_7 [] may_intended_record refl
    (step world_8 (2 ∷ []) may_made_record refl
    (step world_9 [] may_created_user refl
    (step world_10 [] may_updating refl
    (step world_11 [] may_intended_change refl
    (step world_12 (3 ∷ []) may_changed refl ended)))))))))))

pub until_17 : IsRun empty_world run world_17
unfolding computing
until_17 =
    joined (drop 12 run) until_12
    (step world_13 [] may_turned refl
    (step world_14 [] may_intended_restore refl
    (step world_15 (4 ∷ []) may_restored refl
    (step world_16 [] may_cleaning refl
    (step world_17 [] may_rolled_back refl ended)))))

pub legal : Legal
legal = until_17.legal

pub report_0 : Shows
report_0 = ap (report_of (codes "site")) until_17.arrives

may_not_0 : (out : List ℕ) → MayFollow schemas world_12 out (entry.Phase 3 phase.Clean None) → ⊥
unfolding computing
may_not_0 = λ out may. let m = follows_on schemas 3 world_12 out (entry.Phase 3 phase.Clean None) ((codes "site"), stack_12_site) Forward refl refl may in m.1.1 (inr (inr (inr (codes "site-total", (all_done_12, refl)))))

pub refused_0 : ChangedThoughPinned
refused_0 = refused_at world_12 (take 12 run) (entry.Phase 3 phase.Clean None) until_12.arrives may_not_0

may_not_1 : (out : List ℕ) → MayFollow schemas world_17 out (entry.Begin 4 (codes "site") (begin.Delete [])) → ⊥
unfolding computing
may_not_1 = λ out may. true≢false may.2.2

pub refused_1 : DeletedThoughPinned
refused_1 = refused_at world_17 run (entry.Begin 4 (codes "site") (begin.Delete [])) until_17.arrives may_not_1
