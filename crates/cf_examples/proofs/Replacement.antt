-- A file is replaced: the record that refers to it is updated to the new id, and the old file is deleted in the cleanup (worked in the order of the calls).
use Rattle.std.proofs.Common.{◌≡◌, refl, List, [], ◌∷◌, ◌++◌, Some, None, true, false, ℕ, inl, inr, ap, lit≤, true≢false}
use Rattle.std.specs.Prelude.{codes, take, drop}
use Rattle.cf_tree.specs.declared.request.Request.TheVariants as request
use Rattle.cf_effect.specs.declared.call.Call.{Call}
use Rattle.cf_effect.specs.declared.call.Settled.TheVariants as settled
use Rattle.cf_effect.specs.declared.held.Held.{Held}
use Rattle.cf_effect.specs.World.{World, StackState, empty_world, no_stack}
use Rattle.cf_effect.specs.Begin.{source_for}
use Rattle.cf_effect.specs.Status.{Forward, Clean}
use Rattle.cf_plan.specs.Forward.{HasFailed, IsReady, AllDone, IsDone, is_made, is_updated}
use Rattle.cf_tree.specs.Lists.{there}
use Rattle.cf_tree.specs.Lists.{here}
use Rattle.cf_plan.specs.Follow.{MayFollow}
use Rattle.cf_schema.specs.declared.changed.Difference.TheVariants.{Same, Update, Replace}
use Rattle.cf_examples.specs.Given.{schemas, file, note, file_props, note_props, file_attrs, note_attrs, lane_pair, report_of}
use Rattle.cf_examples.proofs.Computing.{computing}
use Rattle.cf_examples.proofs.Lists.{in_none, only, either}
use Rattle.cf_examples.proofs.Failing.{not_failed, not_done_new, not_done_other, same_at, known_props}
use Rattle.cf_examples.proofs.Ending.{end_of_create, end_of_clean}
use Rattle.cf_tree.specs.declared.template.Deletion.TheVariants as deletion
use Rattle.cf_tree.specs.declared.template.Replace.TheVariants as replace
use Rattle.cf_entry.specs.declared.entry.Entry.TheVariants as entry
use Rattle.cf_entry.specs.declared.entry.Reply.TheVariants as reply
use Rattle.cf_entry.specs.declared.status.Status.TheVariants as status
use Rattle.cf_entry.specs.declared.turn.Phase.TheVariants as phase
use Rattle.cf_effect.specs.declared.held.HeldStatus.TheVariants as held
use Rattle.cf_examples.proofs.Refusing.{follows_on, follows_none, refused_at, IsRun, ended, step, joined, followed}
use Rattle.cf_examples.proofs.Beginning.{no_imports}
use Rattle.cf_examples.specs.Replacement.{first, second, opened, begun, intended_web, made_web, intended_ptr, made_ptr, created, updating, intended_new, made_new, intended_change, changed_ptr, cleaning, intended_deletion, deleted, updated, Legal, Shows, third, updating_both, until_replaced, gets, NewIdIsLegal, CleanedTooEarly, DeletedBeforeCleanup, OldIdEvaluated, EndedUnderAnotherNumber, AnsweredUnderAnotherNumber, run}

abbrev world_0 : World
world_0 = empty_world

may_opened : MayFollow schemas world_0 [] opened
unfolding computing
may_opened = (refl, refl, λ name s e. absurd (cc))

abbrev world_1 : World
world_1 = record world_0 { lanes = (lane_pair (codes "f1") file ∷ lane_pair (codes "r1") note ∷ []); epoch = 1; place = 1 }

may_begun : MayFollow schemas world_1 [] begun
unfolding computing
may_begun = (refl, refl, record { no_flaw = refl; known_types = refl; same_types = refl; imports = no_imports _ _ _ _ refl refl; free = refl; not_in_use = refl; changing = inl refl })

abbrev stack_2_app : StackState
stack_2_app = record no_stack { status = status.CreateInProgress; number = 1; operation = 1; going = Some (source_for (codes "app") 1 first); events = ((codes "event 2 - CREATE_IN_PROGRESS") ∷ []); entries = (begun ∷ []) }

abbrev world_2 : World
world_2 = record world_1 { stacks = (((codes "app"), stack_2_app) ∷ []); operation = 1; place = 2 }

sound_2 : ¬ HasFailed schemas (codes "app") world_2 stack_2_app
unfolding computing
sound_2 = not_failed schemas (codes "app") world_2 stack_2_app (record { calls = refl; paths = refl; inner = refl; flaws = refl; exports = refl })

ready_2_Web : IsReady stack_2_app (codes "Web")
unfolding computing
ready_2_Web = (here, λ q i. absurd (in_none i))

may_intended_web : MayFollow schemas world_2 [] intended_web
unfolding computing
may_intended_web = ((codes "app"), stack_2_app, Forward, refl, refl, record { next = refl; free = refl; home = refl; fits = refl; no_repeat = refl; chosen = (sound_2, ready_2_Web, not_done_new (codes "Web") stack_2_app refl refl refl, (refl, tt)) })

abbrev pub call_1 : Call
call_1 = record { number = 1; token = 1; lane = (codes "f1"); path = (codes "Web"); request = (request.Create file (file_props (codes "web.txt") (codes "x"))); status = status.CreateInProgress; fresh = true; doubts = 0; answer = None }

abbrev stack_3_app : StackState
stack_3_app = record stack_2_app { tokens = (record { token = 1; path = (codes "Web"); lane = (codes "f1"); request = (request.Create file (file_props (codes "web.txt") (codes "x"))) } ∷ []); events = stack_2_app.events ++ (codes "event 3 Web CREATE_IN_PROGRESS") ∷ []; entries = stack_2_app.entries ++ intended_web ∷ []; ledger = (call_1 ∷ []) }

abbrev world_3 : World
world_3 = record world_2 { stacks = (((codes "app"), stack_3_app) ∷ []); token = 1; place = 3 }

may_made_web : MayFollow schemas world_3 (1 ∷ []) made_web
unfolding computing
may_made_web = ((codes "app"), stack_3_app, Forward, refl, refl, (refl, refl, lit≤ tt))

abbrev web_1 : Held
web_1 = record { path = (codes "Web"); kind = file; physical = (codes "f1:1"); props = (file_props (codes "web.txt") (codes "x")); attrs = (file_attrs (codes "f1:1") 1 (codes "web.txt") (codes "x")); needs = []; deletion = deletion.Delete; replace = replace.Delete; status = held.CreateComplete; unsure = false; superseded = false }

abbrev stack_4_app : StackState
stack_4_app = record stack_3_app { made = (web_1 ∷ []); tokens = []; events = stack_3_app.events ++ (codes "event 4 Web CREATE_COMPLETE") ∷ []; entries = stack_3_app.entries ++ made_web ∷ []; ledger = (record call_1 { answer = Some settled.Success } ∷ []) }

abbrev world_4 : World
world_4 = record world_3 { stacks = (((codes "app"), stack_4_app) ∷ []); place = 4 }

sound_4 : ¬ HasFailed schemas (codes "app") world_4 stack_4_app
unfolding computing
sound_4 = not_failed schemas (codes "app") world_4 stack_4_app (record { calls = refl; paths = refl; inner = refl; flaws = refl; exports = refl })

ready_4_Ptr : IsReady stack_4_app (codes "Ptr")
unfolding computing
ready_4_Ptr = (there here, λ q i. only (IsDone stack_4_app) (is_made _ refl) q i)

may_intended_ptr : MayFollow schemas world_4 [] intended_ptr
unfolding computing
may_intended_ptr = ((codes "app"), stack_4_app, Forward, refl, refl, record { next = refl; free = refl; home = refl; fits = refl; no_repeat = refl; chosen = (sound_4, ready_4_Ptr, not_done_new (codes "Ptr") stack_4_app refl refl refl, (refl, tt)) })

abbrev pub call_2 : Call
call_2 = record { number = 1; token = 2; lane = (codes "r1"); path = (codes "Ptr"); request = (request.Create note (note_props (codes "p") (codes "f1:1"))); status = status.CreateInProgress; fresh = true; doubts = 0; answer = None }

abbrev stack_5_app : StackState
stack_5_app = record stack_4_app { tokens = (record { token = 2; path = (codes "Ptr"); lane = (codes "r1"); request = (request.Create note (note_props (codes "p") (codes "f1:1"))) } ∷ []); events = stack_4_app.events ++ (codes "event 5 Ptr CREATE_IN_PROGRESS") ∷ []; entries = stack_4_app.entries ++ intended_ptr ∷ []; ledger = (record call_1 { answer = Some settled.Success } ∷ call_2 ∷ []) }

abbrev world_5 : World
world_5 = record world_4 { stacks = (((codes "app"), stack_5_app) ∷ []); token = 2; place = 5 }

may_made_ptr : MayFollow schemas world_5 (2 ∷ []) made_ptr
unfolding computing
may_made_ptr = ((codes "app"), stack_5_app, Forward, refl, refl, (refl, refl, lit≤ tt))

abbrev ptr_1 : Held
ptr_1 = record { path = (codes "Ptr"); kind = note; physical = (codes "r1:2"); props = (note_props (codes "p") (codes "f1:1")); attrs = (note_attrs (codes "r1:2") 4 (codes "p") (codes "f1:1")); needs = ((codes "Web") ∷ []); deletion = deletion.Delete; replace = replace.Delete; status = held.CreateComplete; unsure = false; superseded = false }

abbrev stack_6_app : StackState
stack_6_app = record stack_5_app { made = (web_1 ∷ ptr_1 ∷ []); tokens = []; events = stack_5_app.events ++ (codes "event 6 Ptr CREATE_COMPLETE") ∷ []; entries = stack_5_app.entries ++ made_ptr ∷ []; ledger = (record call_1 { answer = Some settled.Success } ∷ record call_2 { answer = Some settled.Success } ∷ []) }

abbrev world_6 : World
world_6 = record world_5 { stacks = (((codes "app"), stack_6_app) ∷ []); place = 6 }

all_done_6 : AllDone stack_6_app
unfolding computing
all_done_6 = λ p i. either (IsDone stack_6_app) (is_made _ refl) (is_made _ refl) p i

sound_6 : ¬ HasFailed schemas (codes "app") world_6 stack_6_app
unfolding computing
sound_6 = not_failed schemas (codes "app") world_6 stack_6_app (record { calls = refl; paths = refl; inner = refl; flaws = refl; exports = refl })

may_created : MayFollow schemas world_6 [] created
unfolding computing
may_created = ((codes "app"), stack_6_app, Forward, refl, refl, (refl, end_of_create schemas (codes "app") world_6 stack_6_app refl all_done_6 sound_6 refl, (sound_6, all_done_6), refl))

abbrev stack_7_app : StackState
stack_7_app = record stack_6_app { status = status.CreateComplete; held = (web_1 ∷ ptr_1 ∷ []); made = []; source = Some (source_for (codes "app") 1 first); events = stack_6_app.events ++ (codes "event 7 - CREATE_COMPLETE") ∷ []; entries = stack_6_app.entries ++ created ∷ [] }

abbrev world_7 : World
world_7 = record world_6 { stacks = (((codes "app"), stack_7_app) ∷ []); place = 7 }

may_updating : MayFollow schemas world_7 [] updating
unfolding computing
may_updating = (refl, refl, record { no_flaw = refl; known_types = refl; same_types = refl; imports = no_imports _ _ _ _ refl refl; free = refl; not_in_use = refl; changing = inr refl })

abbrev stack_8_app : StackState
stack_8_app = record stack_7_app { status = status.UpdateInProgress; operation = 2; before = (web_1 ∷ ptr_1 ∷ []); going = Some (source_for (codes "app") 1 second); events = stack_7_app.events ++ (codes "event 8 - UPDATE_IN_PROGRESS") ∷ []; entries = (updating ∷ []); ledger = [] }

abbrev world_8 : World
world_8 = record world_7 { stacks = (((codes "app"), stack_8_app) ∷ []); operation = 2; place = 8 }

sound_8 : ¬ HasFailed schemas (codes "app") world_8 stack_8_app
unfolding computing
sound_8 = not_failed schemas (codes "app") world_8 stack_8_app (record { calls = refl; paths = refl; inner = refl; flaws = refl; exports = refl })

ready_8_Web : IsReady stack_8_app (codes "Web")
unfolding computing
ready_8_Web = (here, λ q i. absurd (in_none i))

may_intended_new : MayFollow schemas world_8 [] intended_new
unfolding computing
may_intended_new = ((codes "app"), stack_8_app, Forward, refl, refl, record { next = refl; free = refl; home = refl; fits = refl; no_repeat = refl; chosen = (sound_8, ready_8_Web, not_done_other (codes "Web") stack_8_app (same_at (codes "Path") (codes "web.txt")) _ _ _ refl refl refl refl refl refl, (refl, inl refl)) })

abbrev pub call_3 : Call
call_3 = record { number = 2; token = 3; lane = (codes "f1"); path = (codes "Web"); request = (request.Create file (file_props (codes "new.txt") (codes "x"))); status = status.UpdateInProgress; fresh = true; doubts = 0; answer = None }

abbrev stack_9_app : StackState
stack_9_app = record stack_8_app { tokens = (record { token = 3; path = (codes "Web"); lane = (codes "f1"); request = (request.Create file (file_props (codes "new.txt") (codes "x"))) } ∷ []); events = stack_8_app.events ++ (codes "event 9 Web CREATE_IN_PROGRESS") ∷ []; entries = stack_8_app.entries ++ intended_new ∷ []; ledger = (call_3 ∷ []) }

abbrev world_9 : World
world_9 = record world_8 { stacks = (((codes "app"), stack_9_app) ∷ []); token = 3; place = 9 }

may_made_new : MayFollow schemas world_9 (3 ∷ []) made_new
unfolding computing
may_made_new = ((codes "app"), stack_9_app, Forward, refl, refl, (refl, refl, lit≤ tt))

abbrev web_2 : Held
web_2 = record { path = (codes "Web"); kind = file; physical = (codes "f1:3"); props = (file_props (codes "new.txt") (codes "x")); attrs = (file_attrs (codes "f1:3") 1 (codes "new.txt") (codes "x")); needs = []; deletion = deletion.Delete; replace = replace.Delete; status = held.UpdateComplete; unsure = false; superseded = false }

abbrev stack_10_app : StackState
stack_10_app = record stack_9_app { made = (web_2 ∷ []); tokens = []; events = stack_9_app.events ++ (codes "event 10 Web CREATE_COMPLETE") ∷ []; entries = stack_9_app.entries ++ made_new ∷ []; ledger = (record call_3 { answer = Some settled.Success } ∷ []) }

abbrev world_10 : World
world_10 = record world_9 { stacks = (((codes "app"), stack_10_app) ∷ []); place = 10 }

sound_10 : ¬ HasFailed schemas (codes "app") world_10 stack_10_app
unfolding computing
sound_10 = not_failed schemas (codes "app") world_10 stack_10_app (record { calls = refl; paths = refl; inner = refl; flaws = refl; exports = refl })

ready_10_Ptr : IsReady stack_10_app (codes "Ptr")
unfolding computing
ready_10_Ptr = (there here, λ q i. only (IsDone stack_10_app) (is_made _ refl) q i)

may_intended_change : MayFollow schemas world_10 [] intended_change
unfolding computing
may_intended_change = ((codes "app"), stack_10_app, Forward, refl, refl, record { next = refl; free = refl; home = refl; fits = ((codes "2", refl), refl); no_repeat = refl; chosen = (sound_10, ready_10_Ptr, not_done_other (codes "Ptr") stack_10_app (same_at (codes "Value") (codes "f1:1")) _ _ _ refl refl refl refl refl refl, (_, refl, refl, refl, ((λ e. let z : Update ≡ Replace = e in cc), inr (λ e. let z : Update ≡ Same = e in cc)), refl)) })

abbrev pub call_4 : Call
call_4 = record { number = 2; token = 4; lane = (codes "r1"); path = (codes "Ptr"); request = (request.Update (codes "r1:2") (note_props (codes "p") (codes "f1:3"))); status = status.UpdateInProgress; fresh = true; doubts = 0; answer = None }

abbrev stack_11_app : StackState
stack_11_app = record stack_10_app { tokens = (record { token = 4; path = (codes "Ptr"); lane = (codes "r1"); request = (request.Update (codes "r1:2") (note_props (codes "p") (codes "f1:3"))) } ∷ []); events = stack_10_app.events ++ (codes "event 11 Ptr UPDATE_IN_PROGRESS") ∷ []; entries = stack_10_app.entries ++ intended_change ∷ []; ledger = (record call_3 { answer = Some settled.Success } ∷ call_4 ∷ []) }

abbrev world_11 : World
world_11 = record world_10 { stacks = (((codes "app"), stack_11_app) ∷ []); token = 4; place = 11 }

may_changed_ptr : MayFollow schemas world_11 (4 ∷ []) changed_ptr
unfolding computing
may_changed_ptr = ((codes "app"), stack_11_app, Forward, refl, refl, (refl, refl, lit≤ tt))

abbrev ptr_2 : Held
ptr_2 = record { path = (codes "Ptr"); kind = note; physical = (codes "r1:2"); props = (note_props (codes "p") (codes "f1:3")); attrs = (note_attrs (codes "r1:2") 4 (codes "p") (codes "f1:3")); needs = ((codes "Web") ∷ []); deletion = deletion.Delete; replace = replace.Delete; status = held.UpdateComplete; unsure = false; superseded = false }

abbrev stack_12_app : StackState
stack_12_app = record stack_11_app { held = (web_1 ∷ ptr_2 ∷ []); tokens = []; events = stack_11_app.events ++ (codes "event 12 Ptr UPDATE_COMPLETE") ∷ []; entries = stack_11_app.entries ++ changed_ptr ∷ []; ledger = (record call_3 { answer = Some settled.Success } ∷ record call_4 { answer = Some settled.Success } ∷ []) }

abbrev world_12 : World
world_12 = record world_11 { stacks = (((codes "app"), stack_12_app) ∷ []); place = 12 }

all_done_12 : AllDone stack_12_app
unfolding computing
all_done_12 = λ p i. either (IsDone stack_12_app) (is_made _ refl) (is_updated refl) p i

sound_12 : ¬ HasFailed schemas (codes "app") world_12 stack_12_app
unfolding computing
sound_12 = not_failed schemas (codes "app") world_12 stack_12_app (record { calls = refl; paths = refl; inner = refl; flaws = refl; exports = refl })

may_cleaning : MayFollow schemas world_12 [] cleaning
unfolding computing
may_cleaning = ((codes "app"), stack_12_app, Forward, refl, refl, (refl, (refl, sound_12, all_done_12)))

abbrev web_3 : Held
web_3 = record { path = (codes "Web"); kind = file; physical = (codes "f1:1"); props = (file_props (codes "web.txt") (codes "x")); attrs = (file_attrs (codes "f1:1") 1 (codes "web.txt") (codes "x")); needs = []; deletion = deletion.Delete; replace = replace.Delete; status = held.CreateComplete; unsure = false; superseded = true }

abbrev stack_13_app : StackState
stack_13_app = record stack_12_app { status = status.UpdateCompleteCleanupInProgress; held = (web_3 ∷ ptr_2 ∷ web_2 ∷ []); made = []; source = Some (source_for (codes "app") 1 second); events = stack_12_app.events ++ (codes "event 13 - UPDATE_COMPLETE_CLEANUP_IN_PROGRESS") ∷ []; entries = stack_12_app.entries ++ cleaning ∷ []; ledger = (record call_3 { fresh = false; answer = Some settled.Success } ∷ record call_4 { fresh = false; answer = Some settled.Success } ∷ []) }

abbrev world_13 : World
world_13 = record world_12 { stacks = (((codes "app"), stack_13_app) ∷ []); place = 13 }

may_intended_deletion : MayFollow schemas world_13 [] intended_deletion
unfolding computing
may_intended_deletion = ((codes "app"), stack_13_app, Clean, refl, refl, record { next = refl; free = refl; home = refl; fits = ((codes "1", refl), refl); no_repeat = refl; chosen = (_, (here, refl, refl), refl, refl, refl) })

abbrev pub call_5 : Call
call_5 = record { number = 2; token = 5; lane = (codes "f1"); path = (codes "Web"); request = (request.Delete (codes "f1:1")); status = status.UpdateCompleteCleanupInProgress; fresh = true; doubts = 0; answer = None }

abbrev stack_14_app : StackState
stack_14_app = record stack_13_app { tokens = (record { token = 5; path = (codes "Web"); lane = (codes "f1"); request = (request.Delete (codes "f1:1")) } ∷ []); events = stack_13_app.events ++ (codes "event 14 Web DELETE_IN_PROGRESS") ∷ []; entries = stack_13_app.entries ++ intended_deletion ∷ []; ledger = (record call_3 { fresh = false; answer = Some settled.Success } ∷ record call_4 { fresh = false; answer = Some settled.Success } ∷ call_5 ∷ []) }

abbrev world_14 : World
world_14 = record world_13 { stacks = (((codes "app"), stack_14_app) ∷ []); token = 5; place = 14 }

may_deleted : MayFollow schemas world_14 (5 ∷ []) deleted
unfolding computing
may_deleted = ((codes "app"), stack_14_app, Clean, refl, refl, (refl, refl, lit≤ tt))

abbrev stack_15_app : StackState
stack_15_app = record stack_14_app { held = (ptr_2 ∷ web_2 ∷ []); tokens = []; events = stack_14_app.events ++ (codes "event 15 Web DELETE_COMPLETE") ∷ []; entries = stack_14_app.entries ++ deleted ∷ []; ledger = (record call_3 { fresh = false; answer = Some settled.Success } ∷ record call_4 { fresh = false; answer = Some settled.Success } ∷ record call_5 { answer = Some settled.Success } ∷ []) }

abbrev world_15 : World
world_15 = record world_14 { stacks = (((codes "app"), stack_15_app) ∷ []); place = 15 }

may_updated : MayFollow schemas world_15 [] updated
unfolding computing
may_updated = ((codes "app"), stack_15_app, Clean, refl, refl, (refl, end_of_clean schemas (codes "app") world_15 stack_15_app refl refl refl refl, tt, refl))

abbrev pub stack_16_app : StackState
stack_16_app = record stack_15_app { status = status.UpdateComplete; events = stack_15_app.events ++ (codes "event 16 - UPDATE_COMPLETE") ∷ []; entries = stack_15_app.entries ++ updated ∷ [] }

abbrev pub world_16 : World
world_16 = record world_15 { stacks = (((codes "app"), stack_16_app) ∷ []); place = 16 }

pub until_7 : IsRun empty_world (take 7 run) world_7
unfolding computing
until_7 =
    step world_1 [] may_opened refl
    (step world_2 [] may_begun refl
    (step world_3 [] may_intended_web refl
    (step world_4 (1 ∷ []) may_made_web refl
    (step world_5 [] may_intended_ptr refl
    (step world_6 (2 ∷ []) may_made_ptr refl
    (step world_7 [] may_created refl ended))))))

pub until_10 : IsRun empty_world (take 10 run) world_10
unfolding computing
until_10 =
    joined (take 3 (drop 7 run)) until_7
    (step world_8 [] may_updating refl
    (step world_9 [] may_intended_new refl
    (step world_10 (3 ∷ []) may_made_new refl ended)))

pub until_11 : IsRun empty_world (take 11 run) world_11
unfolding computing
until_11 =
    joined (take 1 (drop 10 run)) until_10
    (step world_11 [] may_intended_change refl ended)

pub until_15 : IsRun empty_world (take 15 run) world_15
unfolding computing
until_15 =
    joined (take 4 (drop 11 run)) until_11
    (step world_12 (4 ∷ []) may_changed_ptr refl
    (step world_13 [] may_cleaning refl
    (step world_14 [] may_intended_deletion refl
    (step world_15 (5 ∷ []) may_deleted refl ended))))

pub until_16 : IsRun empty_world run world_16
unfolding computing
until_16 =
    joined (drop 15 run) until_15
    (step world_16 [] may_updated refl ended)

pub legal : Legal
legal = until_16.legal

pub report_0 : Shows
report_0 = ap (report_of (codes "app")) until_16.arrives

may_not_0 : (out : List ℕ) → MayFollow schemas world_10 out (entry.Phase 2 phase.Clean None) → ⊥
unfolding computing
may_not_0 = λ out may. let m = follows_on schemas 2 world_10 out (entry.Phase 2 phase.Clean None) ((codes "app"), stack_10_app) Forward refl refl may in (not_done_other (codes "Ptr") stack_10_app (same_at (codes "Value") (codes "f1:1")) _ note (note_props (codes "p") (codes "f1:3")) refl refl refl refl refl refl) (m.1.2 (codes "Ptr") (there here))

pub refused_0 : CleanedTooEarly
refused_0 = refused_at world_10 (take 10 run) (entry.Phase 2 phase.Clean None) until_10.arrives may_not_0

may_not_1 : (out : List ℕ) → MayFollow schemas world_10 out (entry.Intent 2 4 (codes "f1") (codes "Web") (request.Delete (codes "f1:1"))) → ⊥
unfolding computing
may_not_1 = λ out may. let m = follows_on schemas 2 world_10 out (entry.Intent 2 4 (codes "f1") (codes "Web") (request.Delete (codes "f1:1"))) ((codes "app"), stack_10_app) Forward refl refl may in m.chosen.3

pub refused_1 : DeletedBeforeCleanup
refused_1 = refused_at world_10 (take 10 run) (entry.Intent 2 4 (codes "f1") (codes "Web") (request.Delete (codes "f1:1"))) until_10.arrives may_not_1

-- The record changes otherwise too.
may_updating_both : MayFollow schemas world_7 [] updating_both
unfolding computing
may_updating_both = (refl, refl, record { no_flaw = refl; known_types = refl; same_types = refl; imports = no_imports _ _ _ _ refl refl; free = refl; not_in_use = refl; changing = inr refl })

abbrev stack_b8_app : StackState
stack_b8_app = record stack_7_app { status = status.UpdateInProgress; operation = 2; before = (web_1 ∷ ptr_1 ∷ []); going = Some (source_for (codes "app") 1 third); entries = (updating_both ∷ []); events = stack_7_app.events ++ (codes "event 8 - UPDATE_IN_PROGRESS") ∷ []; ledger = [] }

abbrev world_b8 : World
world_b8 = record world_7 { stacks = (((codes "app"), stack_b8_app) ∷ []); operation = 2; place = 8 }

sound_b8 : ¬ HasFailed schemas (codes "app") world_b8 stack_b8_app
unfolding computing
sound_b8 = not_failed schemas (codes "app") world_b8 stack_b8_app (record { calls = refl; paths = refl; inner = refl; flaws = refl; exports = refl })

ready_b8_Web : IsReady stack_b8_app (codes "Web")
unfolding computing
ready_b8_Web = (here, λ q i. absurd (in_none i))

may_b_intended_new : MayFollow schemas world_b8 [] intended_new
unfolding computing
may_b_intended_new = ((codes "app"), stack_b8_app, Forward, refl, refl, record { next = refl; free = refl; home = refl; fits = refl; no_repeat = refl; chosen = (sound_b8, ready_b8_Web, not_done_other (codes "Web") stack_b8_app (same_at (codes "Path") (codes "web.txt")) _ _ _ refl refl refl refl refl refl, (refl, inl refl)) })

abbrev pub call_b3 : Call
call_b3 = record { number = 2; token = 3; lane = (codes "f1"); path = (codes "Web"); request = (request.Create file (file_props (codes "new.txt") (codes "x"))); status = status.UpdateInProgress; fresh = true; doubts = 0; answer = None }

abbrev stack_b9_app : StackState
stack_b9_app = record stack_b8_app { tokens = (record { token = 3; path = (codes "Web"); lane = (codes "f1"); request = (request.Create file (file_props (codes "new.txt") (codes "x"))) } ∷ []); events = stack_b8_app.events ++ (codes "event 9 Web CREATE_IN_PROGRESS") ∷ []; entries = stack_b8_app.entries ++ intended_new ∷ []; ledger = (call_b3 ∷ []) }

abbrev world_b9 : World
world_b9 = record world_b8 { stacks = (((codes "app"), stack_b9_app) ∷ []); token = 3; place = 9 }

may_b_made_new : MayFollow schemas world_b9 (3 ∷ []) made_new
unfolding computing
may_b_made_new = ((codes "app"), stack_b9_app, Forward, refl, refl, (refl, refl, lit≤ tt))

abbrev stack_b10_app : StackState
stack_b10_app = record stack_b9_app { made = (web_2 ∷ []); tokens = []; events = stack_b9_app.events ++ (codes "event 10 Web CREATE_COMPLETE") ∷ []; entries = stack_b9_app.entries ++ made_new ∷ []; ledger = (record call_b3 { answer = Some settled.Success } ∷ []) }

abbrev world_b10 : World
world_b10 = record world_b9 { stacks = (((codes "app"), stack_b10_app) ∷ []); place = 10 }

sound_b10 : ¬ HasFailed schemas (codes "app") world_b10 stack_b10_app
unfolding computing
sound_b10 = not_failed schemas (codes "app") world_b10 stack_b10_app (record { calls = refl; paths = refl; inner = refl; flaws = refl; exports = refl })

ready_b10_Ptr : IsReady stack_b10_app (codes "Ptr")
unfolding computing
ready_b10_Ptr = (there (here), λ q i. only (IsDone stack_b10_app) (is_made _ refl) q i)

may_gets : MayFollow schemas world_b10 [] (gets (codes "f1:3"))
unfolding computing
may_gets = ((codes "app"), stack_b10_app, Forward, refl, refl, record { next = refl; free = refl; home = refl; fits = ((codes "2", refl), refl); no_repeat = refl; chosen = (sound_b10, ready_b10_Ptr, not_done_other (codes "Ptr") stack_b10_app (same_at (codes "Value") (codes "f1:1")) _ _ _ refl refl refl refl refl refl, (_, refl, refl, refl, ((λ e. let z : Update ≡ Replace = e in cc), inr (λ e. let z : Update ≡ Same = e in cc)), refl)) })

pub until_b10 : IsRun empty_world until_replaced world_b10
unfolding computing
until_b10 =
    joined (drop 7 until_replaced) until_7
    (step world_b8 [] may_updating_both refl
    (step world_b9 [] may_b_intended_new refl
    (step world_b10 (3 ∷ []) may_b_made_new refl ended)))

pub new_id_is_legal : NewIdIsLegal
new_id_is_legal = followed (gets (codes "f1:3")) until_b10 [] may_gets

may_not_2 : (out : List ℕ) → MayFollow schemas world_b10 out (gets (codes "f1:1")) → ⊥
unfolding computing
may_not_2 = λ out may. let m = follows_on schemas 2 world_b10 out (gets (codes "f1:1")) ((codes "app"), stack_b10_app) Forward refl refl may in true≢false (ap (same_at (codes "Value") (codes "at f1:3")) (known_props m.chosen.3.3))

pub refused_2 : OldIdEvaluated
refused_2 = refused_at world_b10 until_replaced (gets (codes "f1:1")) until_b10.arrives may_not_2

may_not_3 : (out : List ℕ) → MayFollow schemas world_15 out (entry.Done 1 status.UpdateComplete []) → ⊥
unfolding computing
may_not_3 = λ out may. follows_none schemas 1 world_15 out (entry.Done 1 status.UpdateComplete []) refl may

pub refused_3 : EndedUnderAnotherNumber
refused_3 = refused_at world_15 (take 15 run) (entry.Done 1 status.UpdateComplete []) until_15.arrives may_not_3

may_not_4 : (out : List ℕ) → MayFollow schemas world_11 out (entry.Outcome 1 4 (reply.Success (codes "r1:2") (note_attrs (codes "r1:2") 4 (codes "p") (codes "f1:3"))) 0 0) → ⊥
unfolding computing
may_not_4 = λ out may. follows_none schemas 1 world_11 out (entry.Outcome 1 4 (reply.Success (codes "r1:2") (note_attrs (codes "r1:2") 4 (codes "p") (codes "f1:3"))) 0 0) refl may

pub refused_4 : AnsweredUnderAnotherNumber
refused_4 = refused_at world_11 (take 11 run) (entry.Outcome 1 4 (reply.Success (codes "r1:2") (note_attrs (codes "r1:2") 4 (codes "p") (codes "f1:3"))) 0 0) until_11.arrives may_not_4
