-- A change set: another path replaces the file, and what refers to it may be replaced.
use Rattle.std.proofs.Common.{refl, List, [], ◌∷◌, ◌++◌, Some, true, false, ℕ, inl, inr, sym, ap, lit≤, None}
use Rattle.std.specs.Prelude.{codes, take, drop}
use Rattle.cf_tree.specs.declared.request.Request.TheVariants as request
use Rattle.cf_effect.specs.declared.call.Call.{Call}
use Rattle.cf_effect.specs.declared.call.Settled.TheVariants as settled
use Rattle.cf_effect.specs.declared.held.Held.{Held}
use Rattle.cf_effect.specs.World.{World, StackState, empty_world, no_stack}
use Rattle.cf_effect.specs.Begin.{source_for}
use Rattle.cf_effect.specs.Status.{Forward, Clean}
use Rattle.cf_plan.specs.Forward.{HasFailed, IsReady, AllDone, IsDone, is_made}
use Rattle.cf_tree.specs.Lists.{there}
use Rattle.cf_tree.specs.Lists.{here}
use Rattle.cf_plan.specs.Follow.{MayFollow}
use Rattle.cf_examples.specs.Given.{schemas, file, note, file_props, note_props, file_attrs, note_attrs, lane_pair, report_of}
use Rattle.cf_examples.proofs.Computing.{computing}
use Rattle.cf_examples.proofs.Lists.{in_none, only, either, not_empty}
use Rattle.cf_examples.proofs.Failing.{not_failed, not_done_new, not_done_other, same_at}
use Rattle.cf_examples.proofs.Ending.{end_of_create, end_of_clean}
use Rattle.cf_tree.specs.declared.template.Deletion.TheVariants as deletion
use Rattle.cf_tree.specs.declared.template.Replace.TheVariants as replace
use Rattle.cf_entry.specs.declared.entry.Entry.TheVariants as entry
use Rattle.cf_entry.specs.declared.status.Status.TheVariants as status
use Rattle.cf_effect.specs.declared.held.HeldStatus.TheVariants as held
use Rattle.cf_examples.proofs.Refusing.{refused_at, IsRun, ended, step, joined}
use Rattle.cf_examples.proofs.Beginning.{no_imports}
use Rattle.cf_examples.specs.Reviewed.{run_carried_out, first, second, rows, opened, begun, intended_web, made_web, intended_rec, made_rec, created, reviewed, Legal, Shows, OtherRows, updating, intended_web_new, made_web_new, intended_rec_new, made_rec_new, cleaning, intended_rec_gone, rec_gone, intended_web_gone, web_gone, updated, CarriedOutIsLegal, ShowsCarriedOut, run}

abbrev world_0 : World
world_0 = empty_world

may_opened : MayFollow schemas world_0 [] opened
unfolding computing
may_opened = (refl, refl, λ name s e. absurd (cc))

abbrev world_1 : World
world_1 = record world_0 { lanes = (lane_pair (codes "f1") file ∷ lane_pair (codes "r1") note ∷ []); epoch = 1; place = 1 }

may_begun : MayFollow schemas world_1 [] begun
unfolding computing
may_begun = (refl, refl, record { no_flaw = refl; known_types = refl; same_types = refl; imports = no_imports _ _ _ _ refl refl; free = refl; not_in_use = refl; changing = inl refl })

abbrev stack_2_app : StackState
stack_2_app = record no_stack { status = status.CreateInProgress; number = 1; operation = 1; going = Some (source_for (codes "app") 1 first); events = ((codes "event 2 - CREATE_IN_PROGRESS") ∷ []); entries = (begun ∷ []) }

abbrev world_2 : World
world_2 = record world_1 { stacks = (((codes "app"), stack_2_app) ∷ []); operation = 1; place = 2 }

sound_2 : ¬ HasFailed schemas (codes "app") world_2 stack_2_app
unfolding computing
sound_2 = not_failed schemas (codes "app") world_2 stack_2_app (record { calls = refl; paths = refl; inner = refl; flaws = refl; exports = refl })

ready_2_Web : IsReady stack_2_app (codes "Web")
unfolding computing
ready_2_Web = (here, λ q i. absurd (in_none i))

may_intended_web : MayFollow schemas world_2 [] intended_web
unfolding computing
may_intended_web = ((codes "app"), stack_2_app, Forward, refl, refl, record { next = refl; free = refl; home = refl; fits = refl; no_repeat = refl; chosen = (sound_2, ready_2_Web, not_done_new (codes "Web") stack_2_app refl refl refl, (refl, tt)) })

abbrev pub call_1 : Call
call_1 = record { number = 1; token = 1; lane = (codes "f1"); path = (codes "Web"); request = (request.Create file (file_props (codes "a") (codes "x"))); status = status.CreateInProgress; fresh = true; doubts = 0; answer = None }

abbrev stack_3_app : StackState
stack_3_app = record stack_2_app { tokens = (record { token = 1; path = (codes "Web"); lane = (codes "f1"); request = (request.Create file (file_props (codes "a") (codes "x"))) } ∷ []); events = stack_2_app.events ++ (codes "event 3 Web CREATE_IN_PROGRESS") ∷ []; entries = stack_2_app.entries ++ intended_web ∷ []; ledger = (call_1 ∷ []) }

abbrev world_3 : World
world_3 = record world_2 { stacks = (((codes "app"), stack_3_app) ∷ []); token = 1; place = 3 }

may_made_web : MayFollow schemas world_3 (1 ∷ []) made_web
unfolding computing
may_made_web = ((codes "app"), stack_3_app, Forward, refl, refl, (refl, refl, lit≤ tt))

abbrev web_1 : Held
web_1 = record { path = (codes "Web"); kind = file; physical = (codes "f1:1"); props = (file_props (codes "a") (codes "x")); attrs = (file_attrs (codes "f1:1") 1 (codes "a") (codes "x")); needs = []; deletion = deletion.Delete; replace = replace.Delete; status = held.CreateComplete; unsure = false; superseded = false }

abbrev stack_4_app : StackState
stack_4_app = record stack_3_app { made = (web_1 ∷ []); tokens = []; events = stack_3_app.events ++ (codes "event 4 Web CREATE_COMPLETE") ∷ []; entries = stack_3_app.entries ++ made_web ∷ []; ledger = (record call_1 { answer = Some settled.Success } ∷ []) }

abbrev world_4 : World
world_4 = record world_3 { stacks = (((codes "app"), stack_4_app) ∷ []); place = 4 }

sound_4 : ¬ HasFailed schemas (codes "app") world_4 stack_4_app
unfolding computing
sound_4 = not_failed schemas (codes "app") world_4 stack_4_app (record { calls = refl; paths = refl; inner = refl; flaws = refl; exports = refl })

ready_4_Rec : IsReady stack_4_app (codes "Rec")
unfolding computing
ready_4_Rec = (there here, λ q i. only (IsDone stack_4_app) (is_made _ refl) q i)

may_intended_rec : MayFollow schemas world_4 [] intended_rec
unfolding computing
may_intended_rec = ((codes "app"), stack_4_app, Forward, refl, refl, record { next = refl; free = refl; home = refl; fits = refl; no_repeat = refl; chosen = (sound_4, ready_4_Rec, not_done_new (codes "Rec") stack_4_app refl refl refl, (refl, tt)) })

abbrev pub call_2 : Call
call_2 = record { number = 1; token = 2; lane = (codes "r1"); path = (codes "Rec"); request = (request.Create note (note_props (codes "f1:1") (codes "v"))); status = status.CreateInProgress; fresh = true; doubts = 0; answer = None }

abbrev stack_5_app : StackState
stack_5_app = record stack_4_app { tokens = (record { token = 2; path = (codes "Rec"); lane = (codes "r1"); request = (request.Create note (note_props (codes "f1:1") (codes "v"))) } ∷ []); events = stack_4_app.events ++ (codes "event 5 Rec CREATE_IN_PROGRESS") ∷ []; entries = stack_4_app.entries ++ intended_rec ∷ []; ledger = (record call_1 { answer = Some settled.Success } ∷ call_2 ∷ []) }

abbrev world_5 : World
world_5 = record world_4 { stacks = (((codes "app"), stack_5_app) ∷ []); token = 2; place = 5 }

may_made_rec : MayFollow schemas world_5 (2 ∷ []) made_rec
unfolding computing
may_made_rec = ((codes "app"), stack_5_app, Forward, refl, refl, (refl, refl, lit≤ tt))

abbrev rec_1 : Held
rec_1 = record { path = (codes "Rec"); kind = note; physical = (codes "r1:2"); props = (note_props (codes "f1:1") (codes "v")); attrs = (note_attrs (codes "r1:2") 1 (codes "f1:1") (codes "v")); needs = ((codes "Web") ∷ []); deletion = deletion.Delete; replace = replace.Delete; status = held.CreateComplete; unsure = false; superseded = false }

abbrev stack_6_app : StackState
stack_6_app = record stack_5_app { made = (web_1 ∷ rec_1 ∷ []); tokens = []; events = stack_5_app.events ++ (codes "event 6 Rec CREATE_COMPLETE") ∷ []; entries = stack_5_app.entries ++ made_rec ∷ []; ledger = (record call_1 { answer = Some settled.Success } ∷ record call_2 { answer = Some settled.Success } ∷ []) }

abbrev world_6 : World
world_6 = record world_5 { stacks = (((codes "app"), stack_6_app) ∷ []); place = 6 }

all_done_6 : AllDone stack_6_app
unfolding computing
all_done_6 = λ p i. either (IsDone stack_6_app) (is_made _ refl) (is_made _ refl) p i

sound_6 : ¬ HasFailed schemas (codes "app") world_6 stack_6_app
unfolding computing
sound_6 = not_failed schemas (codes "app") world_6 stack_6_app (record { calls = refl; paths = refl; inner = refl; flaws = refl; exports = refl })

may_created : MayFollow schemas world_6 [] created
unfolding computing
may_created = ((codes "app"), stack_6_app, Forward, refl, refl, (refl, end_of_create schemas (codes "app") world_6 stack_6_app refl all_done_6 sound_6 refl, (sound_6, all_done_6), refl))

abbrev stack_7_app : StackState
stack_7_app = record stack_6_app { status = status.CreateComplete; held = (web_1 ∷ rec_1 ∷ []); made = []; source = Some (source_for (codes "app") 1 first); events = stack_6_app.events ++ (codes "event 7 - CREATE_COMPLETE") ∷ []; entries = stack_6_app.entries ++ created ∷ [] }

abbrev world_7 : World
world_7 = record world_6 { stacks = (((codes "app"), stack_7_app) ∷ []); place = 7 }

may_reviewed : MayFollow schemas world_7 [] reviewed
unfolding computing
may_reviewed = (refl, refl, record { accepted = record { no_flaw = refl; known_types = refl; same_types = refl; imports = no_imports _ _ _ _ refl refl; free = refl; not_in_use = refl; changing = inr refl }; changing = refl; rows_are = refl; outputs_are = refl })

abbrev stack_8_app : StackState
stack_8_app = record stack_7_app { sets = (record { number = 1; source = source_for (codes "app") 0 second; rows = rows; outputs = false } ∷ []) }

abbrev world_8 : World
world_8 = record world_7 { stacks = (((codes "app"), stack_8_app) ∷ []); set = 1; place = 8 }

pub until_7 : IsRun empty_world (take 7 run) world_7
unfolding computing
until_7 =
    step world_1 [] may_opened refl
    (step world_2 [] may_begun refl
    (step world_3 [] may_intended_web refl
    (step world_4 (1 ∷ []) may_made_web refl
    (step world_5 [] may_intended_rec refl
    (step world_6 (2 ∷ []) may_made_rec refl
    (step world_7 [] may_created refl ended))))))

pub until_8 : IsRun empty_world run world_8
unfolding computing
until_8 =
    joined (drop 7 run) until_7
    (step world_8 [] may_reviewed refl ended)

pub legal : Legal
legal = until_8.legal

pub report_0 : Shows
report_0 = ap (report_of (codes "app")) until_8.arrives

may_not_0 : (out : List ℕ) → MayFollow schemas world_7 out (entry.ChangeSet 1 (codes "app") second [] false) → ⊥
unfolding computing
may_not_0 = λ out may. not_empty rows refl (sym may.2.rows_are)

pub refused_0 : OtherRows
refused_0 = refused_at world_7 (take 7 run) (entry.ChangeSet 1 (codes "app") second [] false) until_7.arrives may_not_0

may_updating : MayFollow schemas world_8 [] updating
unfolding computing
may_updating = (refl, refl, record { no_flaw = refl; known_types = refl; same_types = refl; imports = no_imports _ _ _ _ refl refl; free = refl; not_in_use = refl; changing = inr refl })

abbrev stack_9_app : StackState
stack_9_app = record stack_8_app { status = status.UpdateInProgress; operation = 2; before = (web_1 ∷ rec_1 ∷ []); going = Some (source_for (codes "app") 1 second); sets = []; entries = (updating ∷ []); events = stack_8_app.events ++ (codes "event 9 - UPDATE_IN_PROGRESS") ∷ []; ledger = [] }

abbrev world_9 : World
world_9 = record world_8 { stacks = (((codes "app"), stack_9_app) ∷ []); operation = 2; place = 9 }

sound_9 : ¬ HasFailed schemas (codes "app") world_9 stack_9_app
unfolding computing
sound_9 = not_failed schemas (codes "app") world_9 stack_9_app (record { calls = refl; paths = refl; inner = refl; flaws = refl; exports = refl })

ready_9_Web : IsReady stack_9_app (codes "Web")
unfolding computing
ready_9_Web = (here, λ q i. absurd (in_none i))

may_intended_web_new : MayFollow schemas world_9 [] intended_web_new
unfolding computing
may_intended_web_new = ((codes "app"), stack_9_app, Forward, refl, refl, record { next = refl; free = refl; home = refl; fits = refl; no_repeat = refl; chosen = (sound_9, ready_9_Web, not_done_other (codes "Web") stack_9_app (same_at (codes "Path") (codes "a")) _ _ _ refl refl refl refl refl refl, (refl, inl refl)) })

abbrev pub call_3 : Call
call_3 = record { number = 2; token = 3; lane = (codes "f1"); path = (codes "Web"); request = (request.Create file (file_props (codes "b") (codes "x"))); status = status.UpdateInProgress; fresh = true; doubts = 0; answer = None }

abbrev stack_10_app : StackState
stack_10_app = record stack_9_app { tokens = (record { token = 3; path = (codes "Web"); lane = (codes "f1"); request = (request.Create file (file_props (codes "b") (codes "x"))) } ∷ []); events = stack_9_app.events ++ (codes "event 10 Web CREATE_IN_PROGRESS") ∷ []; entries = stack_9_app.entries ++ intended_web_new ∷ []; ledger = (call_3 ∷ []) }

abbrev world_10 : World
world_10 = record world_9 { stacks = (((codes "app"), stack_10_app) ∷ []); token = 3; place = 10 }

abbrev web_2 : Held
web_2 = record { path = (codes "Web"); kind = file; physical = (codes "f1:3"); props = (file_props (codes "b") (codes "x")); attrs = (file_attrs (codes "f1:3") 1 (codes "b") (codes "x")); needs = []; deletion = deletion.Delete; replace = replace.Delete; status = held.UpdateComplete; unsure = false; superseded = false }

may_made_web_new : MayFollow schemas world_10 (3 ∷ []) made_web_new
unfolding computing
may_made_web_new = ((codes "app"), stack_10_app, Forward, refl, refl, (refl, refl, lit≤ tt))

abbrev stack_11_app : StackState
stack_11_app = record stack_10_app { made = (web_2 ∷ []); tokens = []; events = stack_10_app.events ++ (codes "event 11 Web CREATE_COMPLETE") ∷ []; entries = stack_10_app.entries ++ made_web_new ∷ []; ledger = (record call_3 { answer = Some settled.Success } ∷ []) }

abbrev world_11 : World
world_11 = record world_10 { stacks = (((codes "app"), stack_11_app) ∷ []); place = 11 }

sound_11 : ¬ HasFailed schemas (codes "app") world_11 stack_11_app
unfolding computing
sound_11 = not_failed schemas (codes "app") world_11 stack_11_app (record { calls = refl; paths = refl; inner = refl; flaws = refl; exports = refl })

ready_11_Rec : IsReady stack_11_app (codes "Rec")
unfolding computing
ready_11_Rec = (there (here), λ q i. only (IsDone stack_11_app) (is_made _ refl) q i)

may_intended_rec_new : MayFollow schemas world_11 [] intended_rec_new
unfolding computing
may_intended_rec_new = ((codes "app"), stack_11_app, Forward, refl, refl, record { next = refl; free = refl; home = refl; fits = refl; no_repeat = refl; chosen = (sound_11, ready_11_Rec, not_done_other (codes "Rec") stack_11_app (same_at (codes "Key") (codes "f1:1")) _ _ _ refl refl refl refl refl refl, (refl, inl refl)) })

abbrev pub call_4 : Call
call_4 = record { number = 2; token = 4; lane = (codes "r1"); path = (codes "Rec"); request = (request.Create note (note_props (codes "f1:3") (codes "v"))); status = status.UpdateInProgress; fresh = true; doubts = 0; answer = None }

abbrev stack_12_app : StackState
stack_12_app = record stack_11_app { tokens = (record { token = 4; path = (codes "Rec"); lane = (codes "r1"); request = (request.Create note (note_props (codes "f1:3") (codes "v"))) } ∷ []); events = stack_11_app.events ++ (codes "event 12 Rec CREATE_IN_PROGRESS") ∷ []; entries = stack_11_app.entries ++ intended_rec_new ∷ []; ledger = (record call_3 { answer = Some settled.Success } ∷ call_4 ∷ []) }

abbrev world_12 : World
world_12 = record world_11 { stacks = (((codes "app"), stack_12_app) ∷ []); token = 4; place = 12 }

abbrev rec_2 : Held
rec_2 = record { path = (codes "Rec"); kind = note; physical = (codes "r1:4"); props = (note_props (codes "f1:3") (codes "v")); attrs = (note_attrs (codes "r1:4") 1 (codes "f1:3") (codes "v")); needs = ((codes "Web") ∷ []); deletion = deletion.Delete; replace = replace.Delete; status = held.UpdateComplete; unsure = false; superseded = false }

may_made_rec_new : MayFollow schemas world_12 (4 ∷ []) made_rec_new
unfolding computing
may_made_rec_new = ((codes "app"), stack_12_app, Forward, refl, refl, (refl, refl, lit≤ tt))

abbrev stack_13_app : StackState
stack_13_app = record stack_12_app { made = (web_2 ∷ rec_2 ∷ []); tokens = []; events = stack_12_app.events ++ (codes "event 13 Rec CREATE_COMPLETE") ∷ []; entries = stack_12_app.entries ++ made_rec_new ∷ []; ledger = (record call_3 { answer = Some settled.Success } ∷ record call_4 { answer = Some settled.Success } ∷ []) }

abbrev world_13 : World
world_13 = record world_12 { stacks = (((codes "app"), stack_13_app) ∷ []); place = 13 }

all_done_13 : AllDone stack_13_app
unfolding computing
all_done_13 = λ p i. either (IsDone stack_13_app) (is_made _ refl) (is_made _ refl) p i

sound_13 : ¬ HasFailed schemas (codes "app") world_13 stack_13_app
unfolding computing
sound_13 = not_failed schemas (codes "app") world_13 stack_13_app (record { calls = refl; paths = refl; inner = refl; flaws = refl; exports = refl })

may_cleaning : MayFollow schemas world_13 [] cleaning
unfolding computing
may_cleaning = ((codes "app"), stack_13_app, Forward, refl, refl, (refl, (refl, sound_13, all_done_13)))

abbrev web_3 : Held
web_3 = record { path = (codes "Web"); kind = file; physical = (codes "f1:1"); props = (file_props (codes "a") (codes "x")); attrs = (file_attrs (codes "f1:1") 1 (codes "a") (codes "x")); needs = []; deletion = deletion.Delete; replace = replace.Delete; status = held.CreateComplete; unsure = false; superseded = true }

abbrev rec_3 : Held
rec_3 = record { path = (codes "Rec"); kind = note; physical = (codes "r1:2"); props = (note_props (codes "f1:1") (codes "v")); attrs = (note_attrs (codes "r1:2") 1 (codes "f1:1") (codes "v")); needs = ((codes "Web") ∷ []); deletion = deletion.Delete; replace = replace.Delete; status = held.CreateComplete; unsure = false; superseded = true }

abbrev stack_14_app : StackState
stack_14_app = record stack_13_app { status = status.UpdateCompleteCleanupInProgress; held = (web_3 ∷ rec_3 ∷ web_2 ∷ rec_2 ∷ []); made = []; source = Some (source_for (codes "app") 1 second); events = stack_13_app.events ++ (codes "event 14 - UPDATE_COMPLETE_CLEANUP_IN_PROGRESS") ∷ []; entries = stack_13_app.entries ++ cleaning ∷ []; ledger = (record call_3 { fresh = false; answer = Some settled.Success } ∷ record call_4 { fresh = false; answer = Some settled.Success } ∷ []) }

abbrev world_14 : World
world_14 = record world_13 { stacks = (((codes "app"), stack_14_app) ∷ []); place = 14 }

may_intended_rec_gone : MayFollow schemas world_14 [] intended_rec_gone
unfolding computing
may_intended_rec_gone = ((codes "app"), stack_14_app, Clean, refl, refl, record { next = refl; free = refl; home = refl; fits = ((codes "2", refl), refl); no_repeat = refl; chosen = (_, (there here, refl, refl), refl, refl, refl) })

abbrev pub call_5 : Call
call_5 = record { number = 2; token = 5; lane = (codes "r1"); path = (codes "Rec"); request = (request.Delete (codes "r1:2")); status = status.UpdateCompleteCleanupInProgress; fresh = true; doubts = 0; answer = None }

abbrev stack_15_app : StackState
stack_15_app = record stack_14_app { tokens = (record { token = 5; path = (codes "Rec"); lane = (codes "r1"); request = (request.Delete (codes "r1:2")) } ∷ []); events = stack_14_app.events ++ (codes "event 15 Rec DELETE_IN_PROGRESS") ∷ []; entries = stack_14_app.entries ++ intended_rec_gone ∷ []; ledger = (record call_3 { fresh = false; answer = Some settled.Success } ∷ record call_4 { fresh = false; answer = Some settled.Success } ∷ call_5 ∷ []) }

abbrev world_15 : World
world_15 = record world_14 { stacks = (((codes "app"), stack_15_app) ∷ []); token = 5; place = 15 }

may_rec_gone : MayFollow schemas world_15 (5 ∷ []) rec_gone
unfolding computing
may_rec_gone = ((codes "app"), stack_15_app, Clean, refl, refl, (refl, refl, lit≤ tt))

abbrev stack_16_app : StackState
stack_16_app = record stack_15_app { held = (web_3 ∷ web_2 ∷ rec_2 ∷ []); tokens = []; events = stack_15_app.events ++ (codes "event 16 Rec DELETE_COMPLETE") ∷ []; entries = stack_15_app.entries ++ rec_gone ∷ []; ledger = (record call_3 { fresh = false; answer = Some settled.Success } ∷ record call_4 { fresh = false; answer = Some settled.Success } ∷ record call_5 { answer = Some settled.Success } ∷ []) }

abbrev world_16 : World
world_16 = record world_15 { stacks = (((codes "app"), stack_16_app) ∷ []); place = 16 }

may_intended_web_gone : MayFollow schemas world_16 [] intended_web_gone
unfolding computing
may_intended_web_gone = ((codes "app"), stack_16_app, Clean, refl, refl, record { next = refl; free = refl; home = refl; fits = ((codes "1", refl), refl); no_repeat = refl; chosen = (_, (here, refl, refl), refl, refl, refl) })

abbrev pub call_6 : Call
call_6 = record { number = 2; token = 6; lane = (codes "f1"); path = (codes "Web"); request = (request.Delete (codes "f1:1")); status = status.UpdateCompleteCleanupInProgress; fresh = true; doubts = 0; answer = None }

abbrev stack_17_app : StackState
stack_17_app = record stack_16_app { tokens = (record { token = 6; path = (codes "Web"); lane = (codes "f1"); request = (request.Delete (codes "f1:1")) } ∷ []); events = stack_16_app.events ++ (codes "event 17 Web DELETE_IN_PROGRESS") ∷ []; entries = stack_16_app.entries ++ intended_web_gone ∷ []; ledger = (record call_3 { fresh = false; answer = Some settled.Success } ∷ record call_4 { fresh = false; answer = Some settled.Success } ∷ record call_5 { answer = Some settled.Success } ∷ call_6 ∷ []) }

abbrev world_17 : World
world_17 = record world_16 { stacks = (((codes "app"), stack_17_app) ∷ []); token = 6; place = 17 }

may_web_gone : MayFollow schemas world_17 (6 ∷ []) web_gone
unfolding computing
may_web_gone = ((codes "app"), stack_17_app, Clean, refl, refl, (refl, refl, lit≤ tt))

abbrev stack_18_app : StackState
stack_18_app = record stack_17_app { held = (web_2 ∷ rec_2 ∷ []); tokens = []; events = stack_17_app.events ++ (codes "event 18 Web DELETE_COMPLETE") ∷ []; entries = stack_17_app.entries ++ web_gone ∷ []; ledger = (record call_3 { fresh = false; answer = Some settled.Success } ∷ record call_4 { fresh = false; answer = Some settled.Success } ∷ record call_5 { answer = Some settled.Success } ∷ record call_6 { answer = Some settled.Success } ∷ []) }

abbrev world_18 : World
world_18 = record world_17 { stacks = (((codes "app"), stack_18_app) ∷ []); place = 18 }

may_updated : MayFollow schemas world_18 [] updated
unfolding computing
may_updated = ((codes "app"), stack_18_app, Clean, refl, refl, (refl, end_of_clean schemas (codes "app") world_18 stack_18_app refl refl refl refl, tt, refl))

abbrev stack_19_app : StackState
stack_19_app = record stack_18_app { status = status.UpdateComplete; events = stack_18_app.events ++ (codes "event 19 - UPDATE_COMPLETE") ∷ []; entries = stack_18_app.entries ++ updated ∷ [] }

abbrev world_19 : World
world_19 = record world_18 { stacks = (((codes "app"), stack_19_app) ∷ []); place = 19 }

pub until_19 : IsRun empty_world run_carried_out world_19
unfolding computing
until_19 =
    joined (drop 8 run_carried_out) until_8
    (step world_9 [] may_updating refl
    (step world_10 [] may_intended_web_new refl
    (step world_11 (3 ∷ []) may_made_web_new refl
    (step world_12 [] may_intended_rec_new refl
    (step world_13 (4 ∷ []) may_made_rec_new refl
    (step world_14 [] may_cleaning refl
    (step world_15 [] may_intended_rec_gone refl
    (step world_16 (5 ∷ []) may_rec_gone refl
    (step world_17 [] may_intended_web_gone refl
    (step world_18 (6 ∷ []) may_web_gone refl
    (step world_19 [] may_updated refl ended)))))))))))

pub carried_out : CarriedOutIsLegal
carried_out = until_19.legal

pub report_carried_out : ShowsCarriedOut
report_carried_out = ap (report_of (codes "app")) until_19.arrives
