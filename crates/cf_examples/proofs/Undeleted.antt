-- An update leaves a file out, and its deletion is refused three times: it is left over, and the update is complete.
use Rattle.std.proofs.Common.{refl, List, [], ◌∷◌, ◌++◌, Some, true, false, ℕ, inl, inr, ap, lit≤, arith, None}
use Rattle.std.specs.Prelude.{codes, ◌≤◌, take, drop}
use Rattle.cf_tree.specs.declared.request.Request.TheVariants as request
use Rattle.cf_effect.specs.declared.call.Call.{Call}
use Rattle.cf_effect.specs.declared.call.Settled.TheVariants as settled
use Rattle.cf_tree.specs.declared.code.Code.TheVariants as code
use Rattle.cf_effect.specs.declared.held.Held.{Held}
use Rattle.cf_effect.specs.World.{World, StackState, empty_world, no_stack}
use Rattle.cf_effect.specs.Begin.{source_for}
use Rattle.cf_effect.specs.Status.{Forward, Clean}
use Rattle.cf_plan.specs.Forward.{HasFailed, IsReady, AllDone, IsDone, is_made, is_right}
use Rattle.cf_tree.specs.Lists.{there}
use Rattle.cf_tree.specs.Lists.{here}
use Rattle.cf_plan.specs.Follow.{MayFollow}
use Rattle.cf_examples.specs.Given.{schemas, file, file_props, file_attrs, lane_pair, report_of}
use Rattle.cf_examples.proofs.Computing.{computing}
use Rattle.cf_examples.proofs.Lists.{in_none, only, either}
use Rattle.cf_examples.proofs.Failing.{not_failed, not_done_new}
use Rattle.cf_examples.proofs.Ending.{end_of_create, end_of_clean}
use Rattle.cf_tree.specs.declared.template.Deletion.TheVariants as deletion
use Rattle.cf_tree.specs.declared.template.Replace.TheVariants as replace
use Rattle.cf_entry.specs.declared.entry.Entry.TheVariants as entry
use Rattle.cf_entry.specs.declared.status.Status.TheVariants as status
use Rattle.cf_entry.specs.declared.turn.Why.TheVariants as why
use Rattle.cf_effect.specs.declared.held.HeldStatus.TheVariants as held
use Rattle.cf_examples.proofs.Refusing.{follows_on, refused_at, IsRun, ended, step, joined}
use Rattle.cf_examples.proofs.Beginning.{no_imports}
use Rattle.cf_examples.specs.Undeleted.{first, second, opened, begun, intended_a, made_a, intended_b, made_b, created, updating, cleaning, intended_once, refused_once, intended_twice, refused_twice, intended_thrice, refused_thrice, kept, updated, Legal, Shows, KeptTooEarly, run}

abbrev world_0 : World
world_0 = empty_world

may_opened : MayFollow schemas world_0 [] opened
unfolding computing
may_opened = (refl, refl, λ name s e. absurd (cc))

abbrev world_1 : World
world_1 = record world_0 { lanes = (lane_pair (codes "f1") file ∷ []); epoch = 1; place = 1 }

may_begun : MayFollow schemas world_1 [] begun
unfolding computing
may_begun = (refl, refl, record { no_flaw = refl; known_types = refl; same_types = refl; imports = no_imports _ _ _ _ refl refl; free = refl; not_in_use = refl; changing = inl refl })

abbrev stack_2_s : StackState
stack_2_s = record no_stack { status = status.CreateInProgress; number = 1; operation = 1; going = Some (source_for (codes "s") 1 first); events = ((codes "event 2 - CREATE_IN_PROGRESS") ∷ []); entries = (begun ∷ []) }

abbrev world_2 : World
world_2 = record world_1 { stacks = (((codes "s"), stack_2_s) ∷ []); operation = 1; place = 2 }

sound_2 : ¬ HasFailed schemas (codes "s") world_2 stack_2_s
unfolding computing
sound_2 = not_failed schemas (codes "s") world_2 stack_2_s (record { calls = refl; paths = refl; inner = refl; flaws = refl; exports = refl })

ready_2_A : IsReady stack_2_s (codes "A")
unfolding computing
ready_2_A = (here, λ q i. absurd (in_none i))

may_intended_a : MayFollow schemas world_2 [] intended_a
unfolding computing
may_intended_a = ((codes "s"), stack_2_s, Forward, refl, refl, record { next = refl; free = refl; home = refl; fits = refl; no_repeat = refl; chosen = (sound_2, ready_2_A, not_done_new (codes "A") stack_2_s refl refl refl, (refl, tt)) })

abbrev pub call_1 : Call
call_1 = record { number = 1; token = 1; lane = (codes "f1"); path = (codes "A"); request = (request.Create file (file_props (codes "a") (codes "x"))); status = status.CreateInProgress; fresh = true; doubts = 0; answer = None }

abbrev stack_3_s : StackState
stack_3_s = record stack_2_s { tokens = (record { token = 1; path = (codes "A"); lane = (codes "f1"); request = (request.Create file (file_props (codes "a") (codes "x"))) } ∷ []); events = stack_2_s.events ++ (codes "event 3 A CREATE_IN_PROGRESS") ∷ []; entries = stack_2_s.entries ++ intended_a ∷ []; ledger = (call_1 ∷ []) }

abbrev world_3 : World
world_3 = record world_2 { stacks = (((codes "s"), stack_3_s) ∷ []); token = 1; place = 3 }

may_made_a : MayFollow schemas world_3 (1 ∷ []) made_a
unfolding computing
may_made_a = ((codes "s"), stack_3_s, Forward, refl, refl, (refl, refl, lit≤ tt))

abbrev a_1 : Held
a_1 = record { path = (codes "A"); kind = file; physical = (codes "f1:1"); props = (file_props (codes "a") (codes "x")); attrs = (file_attrs (codes "f1:1") 1 (codes "a") (codes "x")); needs = []; deletion = deletion.Delete; replace = replace.Delete; status = held.CreateComplete; unsure = false; superseded = false }

abbrev stack_4_s : StackState
stack_4_s = record stack_3_s { made = (a_1 ∷ []); tokens = []; events = stack_3_s.events ++ (codes "event 4 A CREATE_COMPLETE") ∷ []; entries = stack_3_s.entries ++ made_a ∷ []; ledger = (record call_1 { answer = Some settled.Success } ∷ []) }

abbrev world_4 : World
world_4 = record world_3 { stacks = (((codes "s"), stack_4_s) ∷ []); place = 4 }

sound_4 : ¬ HasFailed schemas (codes "s") world_4 stack_4_s
unfolding computing
sound_4 = not_failed schemas (codes "s") world_4 stack_4_s (record { calls = refl; paths = refl; inner = refl; flaws = refl; exports = refl })

ready_4_B : IsReady stack_4_s (codes "B")
unfolding computing
ready_4_B = (there here, λ q i. absurd (in_none i))

may_intended_b : MayFollow schemas world_4 [] intended_b
unfolding computing
may_intended_b = ((codes "s"), stack_4_s, Forward, refl, refl, record { next = refl; free = refl; home = refl; fits = refl; no_repeat = refl; chosen = (sound_4, ready_4_B, not_done_new (codes "B") stack_4_s refl refl refl, (refl, tt)) })

abbrev pub call_2 : Call
call_2 = record { number = 1; token = 2; lane = (codes "f1"); path = (codes "B"); request = (request.Create file (file_props (codes "b") (codes "y"))); status = status.CreateInProgress; fresh = true; doubts = 0; answer = None }

abbrev stack_5_s : StackState
stack_5_s = record stack_4_s { tokens = (record { token = 2; path = (codes "B"); lane = (codes "f1"); request = (request.Create file (file_props (codes "b") (codes "y"))) } ∷ []); events = stack_4_s.events ++ (codes "event 5 B CREATE_IN_PROGRESS") ∷ []; entries = stack_4_s.entries ++ intended_b ∷ []; ledger = (record call_1 { answer = Some settled.Success } ∷ call_2 ∷ []) }

abbrev world_5 : World
world_5 = record world_4 { stacks = (((codes "s"), stack_5_s) ∷ []); token = 2; place = 5 }

may_made_b : MayFollow schemas world_5 (2 ∷ []) made_b
unfolding computing
may_made_b = ((codes "s"), stack_5_s, Forward, refl, refl, (refl, refl, lit≤ tt))

abbrev b_1 : Held
b_1 = record { path = (codes "B"); kind = file; physical = (codes "f1:2"); props = (file_props (codes "b") (codes "y")); attrs = (file_attrs (codes "f1:2") 1 (codes "b") (codes "y")); needs = []; deletion = deletion.Delete; replace = replace.Delete; status = held.CreateComplete; unsure = false; superseded = false }

abbrev stack_6_s : StackState
stack_6_s = record stack_5_s { made = (a_1 ∷ b_1 ∷ []); tokens = []; events = stack_5_s.events ++ (codes "event 6 B CREATE_COMPLETE") ∷ []; entries = stack_5_s.entries ++ made_b ∷ []; ledger = (record call_1 { answer = Some settled.Success } ∷ record call_2 { answer = Some settled.Success } ∷ []) }

abbrev world_6 : World
world_6 = record world_5 { stacks = (((codes "s"), stack_6_s) ∷ []); place = 6 }

all_done_6 : AllDone stack_6_s
unfolding computing
all_done_6 = λ p i. either (IsDone stack_6_s) (is_made _ refl) (is_made _ refl) p i

sound_6 : ¬ HasFailed schemas (codes "s") world_6 stack_6_s
unfolding computing
sound_6 = not_failed schemas (codes "s") world_6 stack_6_s (record { calls = refl; paths = refl; inner = refl; flaws = refl; exports = refl })

may_created : MayFollow schemas world_6 [] created
unfolding computing
may_created = ((codes "s"), stack_6_s, Forward, refl, refl, (refl, end_of_create schemas (codes "s") world_6 stack_6_s refl all_done_6 sound_6 refl, (sound_6, all_done_6), refl))

abbrev stack_7_s : StackState
stack_7_s = record stack_6_s { status = status.CreateComplete; held = (a_1 ∷ b_1 ∷ []); made = []; source = Some (source_for (codes "s") 1 first); events = stack_6_s.events ++ (codes "event 7 - CREATE_COMPLETE") ∷ []; entries = stack_6_s.entries ++ created ∷ [] }

abbrev world_7 : World
world_7 = record world_6 { stacks = (((codes "s"), stack_7_s) ∷ []); place = 7 }

may_updating : MayFollow schemas world_7 [] updating
unfolding computing
may_updating = (refl, refl, record { no_flaw = refl; known_types = refl; same_types = refl; imports = no_imports _ _ _ _ refl refl; free = refl; not_in_use = refl; changing = inr refl })

abbrev stack_8_s : StackState
stack_8_s = record stack_7_s { status = status.UpdateInProgress; operation = 2; before = (a_1 ∷ b_1 ∷ []); going = Some (source_for (codes "s") 1 second); events = stack_7_s.events ++ (codes "event 8 - UPDATE_IN_PROGRESS") ∷ []; entries = (updating ∷ []); ledger = [] }

abbrev world_8 : World
world_8 = record world_7 { stacks = (((codes "s"), stack_8_s) ∷ []); operation = 2; place = 8 }

all_done_8 : AllDone stack_8_s
unfolding computing
all_done_8 = λ p i. only (IsDone stack_8_s) (is_right _ here (λ q j. absurd (in_none j)) refl refl refl) p i

sound_8 : ¬ HasFailed schemas (codes "s") world_8 stack_8_s
unfolding computing
sound_8 = not_failed schemas (codes "s") world_8 stack_8_s (record { calls = refl; paths = refl; inner = refl; flaws = refl; exports = refl })

may_cleaning : MayFollow schemas world_8 [] cleaning
unfolding computing
may_cleaning = ((codes "s"), stack_8_s, Forward, refl, refl, (refl, (refl, sound_8, all_done_8)))

abbrev b_2 : Held
b_2 = record { path = (codes "B"); kind = file; physical = (codes "f1:2"); props = (file_props (codes "b") (codes "y")); attrs = (file_attrs (codes "f1:2") 1 (codes "b") (codes "y")); needs = []; deletion = deletion.Delete; replace = replace.Delete; status = held.CreateComplete; unsure = false; superseded = true }

abbrev stack_9_s : StackState
stack_9_s = record stack_8_s { status = status.UpdateCompleteCleanupInProgress; held = (a_1 ∷ b_2 ∷ []); source = Some (source_for (codes "s") 1 second); events = stack_8_s.events ++ (codes "event 9 - UPDATE_COMPLETE_CLEANUP_IN_PROGRESS") ∷ []; entries = stack_8_s.entries ++ cleaning ∷ [] }

abbrev world_9 : World
world_9 = record world_8 { stacks = (((codes "s"), stack_9_s) ∷ []); place = 9 }

may_intended_once : MayFollow schemas world_9 [] intended_once
unfolding computing
may_intended_once = ((codes "s"), stack_9_s, Clean, refl, refl, record { next = refl; free = refl; home = refl; fits = ((codes "2", refl), refl); no_repeat = refl; chosen = (_, (there here, refl, refl), refl, refl, refl) })

abbrev pub call_3 : Call
call_3 = record { number = 2; token = 3; lane = (codes "f1"); path = (codes "B"); request = (request.Delete (codes "f1:2")); status = status.UpdateCompleteCleanupInProgress; fresh = true; doubts = 0; answer = None }

abbrev stack_10_s : StackState
stack_10_s = record stack_9_s { tokens = (record { token = 3; path = (codes "B"); lane = (codes "f1"); request = (request.Delete (codes "f1:2")) } ∷ []); events = stack_9_s.events ++ (codes "event 10 B DELETE_IN_PROGRESS") ∷ []; entries = stack_9_s.entries ++ intended_once ∷ []; ledger = (call_3 ∷ []) }

abbrev world_10 : World
world_10 = record world_9 { stacks = (((codes "s"), stack_10_s) ∷ []); token = 3; place = 10 }

may_refused_once : MayFollow schemas world_10 (3 ∷ []) refused_once
unfolding computing
may_refused_once = ((codes "s"), stack_10_s, Clean, refl, refl, (refl, refl, (lit≤ tt, λ _. lit≤ tt)))

abbrev b_3 : Held
b_3 = record { path = (codes "B"); kind = file; physical = (codes "f1:2"); props = (file_props (codes "b") (codes "y")); attrs = (file_attrs (codes "f1:2") 1 (codes "b") (codes "y")); needs = []; deletion = deletion.Delete; replace = replace.Delete; status = held.DeleteFailed; unsure = false; superseded = true }

abbrev stack_11_s : StackState
stack_11_s = record stack_10_s { held = (a_1 ∷ b_3 ∷ []); tokens = []; events = stack_10_s.events ++ (codes "event 11 B DELETE_FAILED AccessDenied") ∷ []; entries = stack_10_s.entries ++ refused_once ∷ []; ledger = (record call_3 { answer = Some (settled.Failed code.AccessDenied) } ∷ []) }

abbrev world_11 : World
world_11 = record world_10 { stacks = (((codes "s"), stack_11_s) ∷ []); place = 11 }

may_intended_twice : MayFollow schemas world_11 [] intended_twice
unfolding computing
may_intended_twice = ((codes "s"), stack_11_s, Clean, refl, refl, record { next = refl; free = refl; home = refl; fits = ((codes "2", refl), refl); no_repeat = refl; chosen = (_, (there here, refl, refl), refl, refl, refl) })

abbrev pub call_4 : Call
call_4 = record { number = 2; token = 4; lane = (codes "f1"); path = (codes "B"); request = (request.Delete (codes "f1:2")); status = status.UpdateCompleteCleanupInProgress; fresh = true; doubts = 0; answer = None }

abbrev stack_12_s : StackState
stack_12_s = record stack_11_s { tokens = (record { token = 4; path = (codes "B"); lane = (codes "f1"); request = (request.Delete (codes "f1:2")) } ∷ []); events = stack_11_s.events ++ (codes "event 12 B DELETE_IN_PROGRESS") ∷ []; entries = stack_11_s.entries ++ intended_twice ∷ []; ledger = (record call_3 { answer = Some (settled.Failed code.AccessDenied) } ∷ call_4 ∷ []) }

abbrev world_12 : World
world_12 = record world_11 { stacks = (((codes "s"), stack_12_s) ∷ []); token = 4; place = 12 }

may_refused_twice : MayFollow schemas world_12 (4 ∷ []) refused_twice
unfolding computing
may_refused_twice = ((codes "s"), stack_12_s, Clean, refl, refl, (refl, refl, (lit≤ tt, λ _. lit≤ tt)))

abbrev stack_13_s : StackState
stack_13_s = record stack_12_s { tokens = []; events = stack_12_s.events ++ (codes "event 13 B DELETE_FAILED AccessDenied") ∷ []; entries = stack_12_s.entries ++ refused_twice ∷ []; ledger = (record call_3 { answer = Some (settled.Failed code.AccessDenied) } ∷ record call_4 { answer = Some (settled.Failed code.AccessDenied) } ∷ []) }

abbrev world_13 : World
world_13 = record world_12 { stacks = (((codes "s"), stack_13_s) ∷ []); place = 13 }

may_intended_thrice : MayFollow schemas world_13 [] intended_thrice
unfolding computing
may_intended_thrice = ((codes "s"), stack_13_s, Clean, refl, refl, record { next = refl; free = refl; home = refl; fits = ((codes "2", refl), refl); no_repeat = refl; chosen = (_, (there here, refl, refl), refl, refl, refl) })

abbrev pub call_5 : Call
call_5 = record { number = 2; token = 5; lane = (codes "f1"); path = (codes "B"); request = (request.Delete (codes "f1:2")); status = status.UpdateCompleteCleanupInProgress; fresh = true; doubts = 0; answer = None }

abbrev stack_14_s : StackState
stack_14_s = record stack_13_s { tokens = (record { token = 5; path = (codes "B"); lane = (codes "f1"); request = (request.Delete (codes "f1:2")) } ∷ []); events = stack_13_s.events ++ (codes "event 14 B DELETE_IN_PROGRESS") ∷ []; entries = stack_13_s.entries ++ intended_thrice ∷ []; ledger = (record call_3 { answer = Some (settled.Failed code.AccessDenied) } ∷ record call_4 { answer = Some (settled.Failed code.AccessDenied) } ∷ call_5 ∷ []) }

abbrev world_14 : World
world_14 = record world_13 { stacks = (((codes "s"), stack_14_s) ∷ []); token = 5; place = 14 }

may_refused_thrice : MayFollow schemas world_14 (5 ∷ []) refused_thrice
unfolding computing
may_refused_thrice = ((codes "s"), stack_14_s, Clean, refl, refl, (refl, refl, (lit≤ tt, λ _. lit≤ tt)))

abbrev stack_15_s : StackState
stack_15_s = record stack_14_s { tokens = []; events = stack_14_s.events ++ (codes "event 15 B DELETE_FAILED AccessDenied") ∷ []; entries = stack_14_s.entries ++ refused_thrice ∷ []; ledger = (record call_3 { answer = Some (settled.Failed code.AccessDenied) } ∷ record call_4 { answer = Some (settled.Failed code.AccessDenied) } ∷ record call_5 { answer = Some (settled.Failed code.AccessDenied) } ∷ []) }

abbrev world_15 : World
world_15 = record world_14 { stacks = (((codes "s"), stack_15_s) ∷ []); place = 15 }

may_kept : MayFollow schemas world_15 [] kept
unfolding computing
may_kept = ((codes "s"), stack_15_s, Clean, refl, refl, ((_, here, refl, refl), lit≤ tt))

abbrev stack_16_s : StackState
stack_16_s = record stack_15_s { held = (a_1 ∷ []); leftovers = (record { path = (codes "B"); physical = (codes "f1:2"); why = why.Failed } ∷ []); events = stack_15_s.events ++ (codes "event 16 B DELETE_FAILED") ∷ []; entries = stack_15_s.entries ++ kept ∷ [] }

abbrev world_16 : World
world_16 = record world_15 { stacks = (((codes "s"), stack_16_s) ∷ []); place = 16 }

may_updated : MayFollow schemas world_16 [] updated
unfolding computing
may_updated = ((codes "s"), stack_16_s, Clean, refl, refl, (refl, end_of_clean schemas (codes "s") world_16 stack_16_s refl refl refl refl, tt, refl))

abbrev stack_17_s : StackState
stack_17_s = record stack_16_s { status = status.UpdateComplete; events = stack_16_s.events ++ (codes "event 17 - UPDATE_COMPLETE") ∷ []; entries = stack_16_s.entries ++ updated ∷ [] }

abbrev world_17 : World
world_17 = record world_16 { stacks = (((codes "s"), stack_17_s) ∷ []); place = 17 }

pub until_13 : IsRun empty_world (take 13 run) world_13
unfolding computing
until_13 =
    step world_1 [] may_opened refl
    (step world_2 [] may_begun refl
    (step world_3 [] may_intended_a refl
    (step world_4 (1 ∷ []) may_made_a refl
    (step world_5 [] may_intended_b refl
    (step world_6 (2 ∷ []) may_made_b refl
    (step world_7 [] may_created refl
    (step world_8 [] may_updating refl
    (step world_9 [] may_cleaning refl
    (step world_10 [] may_intended_once refl
    (step world_11 (3 ∷ []) may_refused_once refl
    (step world_12 [] may_intended_twice refl
    (step world_13 (4 ∷ []) may_refused_twice refl ended))))))))))))

pub until_17 : IsRun empty_world run world_17
unfolding computing
until_17 =
    joined (drop 13 run) until_13
    (step world_14 [] may_intended_thrice refl
    (step world_15 (5 ∷ []) may_refused_thrice refl
    (step world_16 [] may_kept refl
    (step world_17 [] may_updated refl ended))))

pub legal : Legal
legal = until_17.legal

pub report_0 : Shows
report_0 = ap (report_of (codes "s")) until_17.arrives

may_not_0 : (out : List ℕ) → MayFollow schemas world_13 out (entry.Kept 2 (codes "B") (codes "f1:2") why.Failed) → ⊥
unfolding computing
may_not_0 = λ out may. let m = follows_on schemas 2 world_13 out (entry.Kept 2 (codes "B") (codes "f1:2") why.Failed) ((codes "s"), stack_13_s) Clean refl refl may in (let z : 3 ≤ 2 = m.1 in omega arith)

pub refused_0 : KeptTooEarly
refused_0 = refused_at world_13 (take 13 run) (entry.Kept 2 (codes "B") (codes "f1:2") why.Failed) until_13.arrives may_not_0
