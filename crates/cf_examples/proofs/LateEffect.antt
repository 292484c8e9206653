-- An update breaks off three times, and acts late: the first repeat on the way back meets it, and what was there is given back.
use Rattle.std.proofs.Common.{◌≡◌, refl, [], ◌∷◌, ◌++◌, Some, false, inl, inr, ap, lit≤, None, true}
use Rattle.std.specs.Prelude.{codes, take, drop}
use Rattle.cf_tree.specs.declared.request.Request.TheVariants as request
use Rattle.cf_entry.specs.declared.turn.Reason.TheVariants as reason
use Rattle.cf_effect.specs.declared.call.Call.{Call}
use Rattle.cf_effect.specs.declared.call.Settled.TheVariants as settled
use Rattle.cf_effect.specs.declared.held.Held.{Held}
use Rattle.cf_effect.specs.World.{World, StackState, empty_world, no_stack}
use Rattle.cf_effect.specs.Begin.{source_for}
use Rattle.cf_effect.specs.Status.{Forward, Back, BackClean}
use Rattle.cf_plan.specs.Forward.{HasFailed, IsReady, AllDone, IsDone, is_made}
use Rattle.cf_tree.specs.Lists.{here}
use Rattle.cf_plan.specs.Follow.{MayFollow}
use Rattle.cf_schema.specs.declared.changed.Difference.TheVariants.{Same, Update, Replace}
use Rattle.cf_examples.specs.Given.{schemas, file, file_props, file_attrs, lane_pair, report_of}
use Rattle.cf_examples.proofs.Computing.{computing}
use Rattle.cf_examples.proofs.Lists.{in_none, only}
use Rattle.cf_examples.proofs.Failing.{not_failed, not_done_new, not_done_other, same_at}
use Rattle.cf_examples.proofs.Ending.{end_of_create, end_of_back_clean, nothing_to_restore}
use Rattle.cf_tree.specs.declared.template.Deletion.TheVariants as deletion
use Rattle.cf_tree.specs.declared.template.Replace.TheVariants as replace
use Rattle.cf_entry.specs.declared.status.Status.TheVariants as status
use Rattle.cf_effect.specs.declared.held.HeldStatus.TheVariants as held
use Rattle.cf_examples.proofs.Refusing.{IsRun, ended, step, joined}
use Rattle.cf_examples.proofs.Beginning.{no_imports}
use Rattle.cf_examples.specs.LateEffect.{first, second, opened, begun, intended, made, created, updating, intended_change, broken_once, broken_twice, broken_thrice, turned, repeated, intended_restore, restored, cleaning, rolled_back, Legal, Shows, run}

abbrev pub world_0 : World
world_0 = empty_world

pub may_opened : MayFollow schemas world_0 [] opened
unfolding computing
may_opened = (refl, refl, λ name s e. absurd (cc))

abbrev pub world_1 : World
world_1 = record world_0 { lanes = (lane_pair (codes "f1") file ∷ []); epoch = 1; place = 1 }

pub may_begun : MayFollow schemas world_1 [] begun
unfolding computing
may_begun = (refl, refl, record { no_flaw = refl; known_types = refl; same_types = refl; imports = no_imports _ _ _ _ refl refl; free = refl; not_in_use = refl; changing = inl refl })

abbrev pub stack_2_s : StackState
stack_2_s = record no_stack { status = status.CreateInProgress; number = 1; operation = 1; going = Some (source_for (codes "s") 1 first); events = ((codes "event 2 - CREATE_IN_PROGRESS") ∷ []); entries = (begun ∷ []) }

abbrev pub world_2 : World
world_2 = record world_1 { stacks = (((codes "s"), stack_2_s) ∷ []); operation = 1; place = 2 }

sound_2 : ¬ HasFailed schemas (codes "s") world_2 stack_2_s
unfolding computing
sound_2 = not_failed schemas (codes "s") world_2 stack_2_s (record { calls = refl; paths = refl; inner = refl; flaws = refl; exports = refl })

ready_2_A : IsReady stack_2_s (codes "A")
unfolding computing
ready_2_A = (here, λ q i. absurd (in_none i))

pub may_intended : MayFollow schemas world_2 [] intended
unfolding computing
may_intended = ((codes "s"), stack_2_s, Forward, refl, refl, record { next = refl; free = refl; home = refl; fits = refl; no_repeat = refl; chosen = (sound_2, ready_2_A, not_done_new (codes "A") stack_2_s refl refl refl, (refl, tt)) })

abbrev pub call_1 : Call
call_1 = record { number = 1; token = 1; lane = (codes "f1"); path = (codes "A"); request = (request.Create file (file_props (codes "a") (codes "x"))); status = status.CreateInProgress; fresh = true; doubts = 0; answer = None }

abbrev pub stack_3_s : StackState
stack_3_s = record stack_2_s { tokens = (record { token = 1; path = (codes "A"); lane = (codes "f1"); request = (request.Create file (file_props (codes "a") (codes "x"))) } ∷ []); events = stack_2_s.events ++ (codes "event 3 A CREATE_IN_PROGRESS") ∷ []; entries = stack_2_s.entries ++ intended ∷ []; ledger = (call_1 ∷ []) }

abbrev pub world_3 : World
world_3 = record world_2 { stacks = (((codes "s"), stack_3_s) ∷ []); token = 1; place = 3 }

pub may_made : MayFollow schemas world_3 (1 ∷ []) made
unfolding computing
may_made = ((codes "s"), stack_3_s, Forward, refl, refl, (refl, refl, lit≤ tt))

abbrev pub a_1 : Held
a_1 = record { path = (codes "A"); kind = file; physical = (codes "f1:1"); props = (file_props (codes "a") (codes "x")); attrs = (file_attrs (codes "f1:1") 1 (codes "a") (codes "x")); needs = []; deletion = deletion.Delete; replace = replace.Delete; status = held.CreateComplete; unsure = false; superseded = false }

abbrev pub stack_4_s : StackState
stack_4_s = record stack_3_s { made = (a_1 ∷ []); tokens = []; events = stack_3_s.events ++ (codes "event 4 A CREATE_COMPLETE") ∷ []; entries = stack_3_s.entries ++ made ∷ []; ledger = (record call_1 { answer = Some settled.Success } ∷ []) }

abbrev pub world_4 : World
world_4 = record world_3 { stacks = (((codes "s"), stack_4_s) ∷ []); place = 4 }

all_done_4 : AllDone stack_4_s
unfolding computing
all_done_4 = λ p i. only (IsDone stack_4_s) (is_made _ refl) p i

sound_4 : ¬ HasFailed schemas (codes "s") world_4 stack_4_s
unfolding computing
sound_4 = not_failed schemas (codes "s") world_4 stack_4_s (record { calls = refl; paths = refl; inner = refl; flaws = refl; exports = refl })

pub may_created : MayFollow schemas world_4 [] created
unfolding computing
may_created = ((codes "s"), stack_4_s, Forward, refl, refl, (refl, end_of_create schemas (codes "s") world_4 stack_4_s refl all_done_4 sound_4 refl, (sound_4, all_done_4), refl))

abbrev pub stack_5_s : StackState
stack_5_s = record stack_4_s { status = status.CreateComplete; held = (a_1 ∷ []); made = []; source = Some (source_for (codes "s") 1 first); events = stack_4_s.events ++ (codes "event 5 - CREATE_COMPLETE") ∷ []; entries = stack_4_s.entries ++ created ∷ [] }

abbrev pub world_5 : World
world_5 = record world_4 { stacks = (((codes "s"), stack_5_s) ∷ []); place = 5 }

pub may_updating : MayFollow schemas world_5 [] updating
unfolding computing
may_updating = (refl, refl, record { no_flaw = refl; known_types = refl; same_types = refl; imports = no_imports _ _ _ _ refl refl; free = refl; not_in_use = refl; changing = inr refl })

abbrev pub stack_6_s : StackState
stack_6_s = record stack_5_s { status = status.UpdateInProgress; operation = 2; before = (a_1 ∷ []); going = Some (source_for (codes "s") 1 second); events = stack_5_s.events ++ (codes "event 6 - UPDATE_IN_PROGRESS") ∷ []; entries = (updating ∷ []); ledger = [] }

abbrev pub world_6 : World
world_6 = record world_5 { stacks = (((codes "s"), stack_6_s) ∷ []); operation = 2; place = 6 }

sound_6 : ¬ HasFailed schemas (codes "s") world_6 stack_6_s
unfolding computing
sound_6 = not_failed schemas (codes "s") world_6 stack_6_s (record { calls = refl; paths = refl; inner = refl; flaws = refl; exports = refl })

ready_6_A : IsReady stack_6_s (codes "A")
unfolding computing
ready_6_A = (here, λ q i. absurd (in_none i))

pub may_intended_change : MayFollow schemas world_6 [] intended_change
unfolding computing
may_intended_change = ((codes "s"), stack_6_s, Forward, refl, refl, record { next = refl; free = refl; home = refl; fits = ((codes "1", refl), refl); no_repeat = refl; chosen = (sound_6, ready_6_A, not_done_other (codes "A") stack_6_s (same_at (codes "Content") (codes "x")) _ _ _ refl refl refl refl refl refl, (_, refl, refl, refl, ((λ e. let z : Update ≡ Replace = e in cc), inr (λ e. let z : Update ≡ Same = e in cc)), refl)) })

abbrev pub call_2 : Call
call_2 = record { number = 2; token = 2; lane = (codes "f1"); path = (codes "A"); request = (request.Update (codes "f1:1") (file_props (codes "a") (codes "y"))); status = status.UpdateInProgress; fresh = true; doubts = 0; answer = None }

abbrev pub stack_7_s : StackState
stack_7_s = record stack_6_s { tokens = (record { token = 2; path = (codes "A"); lane = (codes "f1"); request = (request.Update (codes "f1:1") (file_props (codes "a") (codes "y"))) } ∷ []); events = stack_6_s.events ++ (codes "event 7 A UPDATE_IN_PROGRESS") ∷ []; entries = stack_6_s.entries ++ intended_change ∷ []; ledger = (call_2 ∷ []) }

abbrev pub world_7 : World
world_7 = record world_6 { stacks = (((codes "s"), stack_7_s) ∷ []); token = 2; place = 7 }

pub may_broken_once : MayFollow schemas world_7 (2 ∷ []) broken_once
unfolding computing
may_broken_once = ((codes "s"), stack_7_s, Forward, refl, refl, (refl, refl, (lit≤ tt, λ _. lit≤ tt)))

abbrev pub stack_8_s : StackState
stack_8_s = record stack_7_s { events = stack_7_s.events ++ (codes "event 8 A UPDATE_FAILED Fault") ∷ []; entries = stack_7_s.entries ++ broken_once ∷ []; ledger = (record call_2 { doubts = 1 } ∷ []) }

abbrev pub world_8 : World
world_8 = record world_7 { stacks = (((codes "s"), stack_8_s) ∷ []); place = 8 }

pub may_broken_twice : MayFollow schemas world_8 (2 ∷ []) broken_twice
unfolding computing
may_broken_twice = ((codes "s"), stack_8_s, Forward, refl, refl, (refl, refl, (lit≤ tt, λ _. lit≤ tt)))

abbrev pub stack_9_s : StackState
stack_9_s = record stack_8_s { events = stack_8_s.events ++ (codes "event 9 A UPDATE_FAILED Fault") ∷ []; entries = stack_8_s.entries ++ broken_twice ∷ []; ledger = (record call_2 { doubts = 2 } ∷ []) }

abbrev pub world_9 : World
world_9 = record world_8 { stacks = (((codes "s"), stack_9_s) ∷ []); place = 9 }

pub may_broken_thrice : MayFollow schemas world_9 (2 ∷ []) broken_thrice
unfolding computing
may_broken_thrice = ((codes "s"), stack_9_s, Forward, refl, refl, (refl, refl, (lit≤ tt, λ _. lit≤ tt)))

abbrev pub stack_10_s : StackState
stack_10_s = record stack_9_s { events = stack_9_s.events ++ (codes "event 10 A UPDATE_FAILED Fault") ∷ []; entries = stack_9_s.entries ++ broken_thrice ∷ []; ledger = (record call_2 { doubts = 3 } ∷ []) }

abbrev pub world_10 : World
world_10 = record world_9 { stacks = (((codes "s"), stack_10_s) ∷ []); place = 10 }

pub may_turned : MayFollow schemas world_10 [] turned
unfolding computing
may_turned = ((codes "s"), stack_10_s, Forward, refl, refl, (refl, (refl, (inl ((2, reason.Fault), refl)), (2, refl, refl))))

abbrev pub stack_11_s : StackState
stack_11_s = record stack_10_s { status = status.UpdateRollbackInProgress; events = stack_10_s.events ++ (codes "event 11 - UPDATE_ROLLBACK_IN_PROGRESS") ∷ []; entries = stack_10_s.entries ++ turned ∷ []; ledger = (record call_2 { fresh = false } ∷ []) }

abbrev pub world_11 : World
world_11 = record world_10 { stacks = (((codes "s"), stack_11_s) ∷ []); place = 11 }

pub may_repeated : MayFollow schemas world_11 (2 ∷ []) repeated
unfolding computing
may_repeated = ((codes "s"), stack_11_s, Back, refl, refl, (refl, refl, lit≤ tt))

abbrev a_2 : Held
a_2 = record { path = (codes "A"); kind = file; physical = (codes "f1:1"); props = (file_props (codes "a") (codes "y")); attrs = (file_attrs (codes "f1:1") 1 (codes "a") (codes "y")); needs = []; deletion = deletion.Delete; replace = replace.Delete; status = held.UpdateComplete; unsure = false; superseded = false }

abbrev pub stack_12_s : StackState
stack_12_s = record stack_11_s { held = (a_2 ∷ []); tokens = []; events = stack_11_s.events ++ (codes "event 12 A UPDATE_COMPLETE") ∷ []; entries = stack_11_s.entries ++ repeated ∷ []; ledger = (record call_2 { fresh = false; answer = Some settled.Success } ∷ []) }

abbrev pub world_12 : World
world_12 = record world_11 { stacks = (((codes "s"), stack_12_s) ∷ []); place = 12 }

pub may_intended_restore : MayFollow schemas world_12 [] intended_restore
unfolding computing
may_intended_restore = ((codes "s"), stack_12_s, Back, refl, refl, record { next = refl; free = refl; home = refl; fits = ((codes "1", refl), refl); no_repeat = refl; chosen = inr (refl, _, (here, refl, refl, refl), refl, refl, refl, refl) })

abbrev pub call_3 : Call
call_3 = record { number = 2; token = 3; lane = (codes "f1"); path = (codes "A"); request = (request.Update (codes "f1:1") (file_props (codes "a") (codes "x"))); status = status.UpdateRollbackInProgress; fresh = true; doubts = 0; answer = None }

abbrev pub stack_13_s : StackState
stack_13_s = record stack_12_s { tokens = (record { token = 3; path = (codes "A"); lane = (codes "f1"); request = (request.Update (codes "f1:1") (file_props (codes "a") (codes "x"))) } ∷ []); events = stack_12_s.events ++ (codes "event 13 A UPDATE_IN_PROGRESS") ∷ []; entries = stack_12_s.entries ++ intended_restore ∷ []; ledger = (record call_2 { fresh = false; answer = Some settled.Success } ∷ call_3 ∷ []) }

abbrev pub world_13 : World
world_13 = record world_12 { stacks = (((codes "s"), stack_13_s) ∷ []); token = 3; place = 13 }

pub may_restored : MayFollow schemas world_13 (3 ∷ []) restored
unfolding computing
may_restored = ((codes "s"), stack_13_s, Back, refl, refl, (refl, refl, lit≤ tt))

abbrev a_3 : Held
a_3 = record { path = (codes "A"); kind = file; physical = (codes "f1:1"); props = (file_props (codes "a") (codes "x")); attrs = (file_attrs (codes "f1:1") 1 (codes "a") (codes "x")); needs = []; deletion = deletion.Delete; replace = replace.Delete; status = held.UpdateComplete; unsure = false; superseded = false }

abbrev pub stack_14_s : StackState
stack_14_s = record stack_13_s { held = (a_3 ∷ []); tokens = []; events = stack_13_s.events ++ (codes "event 14 A UPDATE_COMPLETE") ∷ []; entries = stack_13_s.entries ++ restored ∷ []; ledger = (record call_2 { fresh = false; answer = Some settled.Success } ∷ record call_3 { answer = Some settled.Success } ∷ []) }

abbrev pub world_14 : World
world_14 = record world_13 { stacks = (((codes "s"), stack_14_s) ∷ []); place = 14 }

pub may_cleaning : MayFollow schemas world_14 [] cleaning
unfolding computing
may_cleaning = ((codes "s"), stack_14_s, Back, refl, refl, (refl, (refl, refl, nothing_to_restore stack_14_s refl, refl)))

abbrev pub stack_15_s : StackState
stack_15_s = record stack_14_s { status = status.UpdateRollbackCompleteCleanupInProgress; events = stack_14_s.events ++ (codes "event 15 - UPDATE_ROLLBACK_COMPLETE_CLEANUP_IN_PROGRESS") ∷ []; entries = stack_14_s.entries ++ cleaning ∷ []; ledger = (record call_2 { fresh = false; answer = Some settled.Success } ∷ record call_3 { fresh = false; answer = Some settled.Success } ∷ []) }

abbrev pub world_15 : World
world_15 = record world_14 { stacks = (((codes "s"), stack_15_s) ∷ []); place = 15 }

pub may_rolled_back : MayFollow schemas world_15 [] rolled_back
unfolding computing
may_rolled_back = ((codes "s"), stack_15_s, BackClean, refl, refl, (refl, end_of_back_clean schemas (codes "s") world_15 stack_15_s refl refl refl, tt, refl))

abbrev pub stack_16_s : StackState
stack_16_s = record stack_15_s { status = status.UpdateRollbackComplete; events = stack_15_s.events ++ (codes "event 16 - UPDATE_ROLLBACK_COMPLETE") ∷ []; entries = stack_15_s.entries ++ rolled_back ∷ [] }

abbrev pub world_16 : World
world_16 = record world_15 { stacks = (((codes "s"), stack_16_s) ∷ []); place = 16 }

pub until_3 : IsRun empty_world (take 3 run) world_3
unfolding computing
until_3 =
    step world_1 [] may_opened refl
    (step world_2 [] may_begun refl
    (step world_3 [] may_intended refl ended))

pub until_11 : IsRun empty_world (take 11 run) world_11
unfolding computing
until_11 =
    joined (take 8 (drop 3 run)) until_3
    (step world_4 (1 ∷ []) may_made refl
    (step world_5 [] may_created refl
    (step world_6 [] may_updating refl
    (step world_7 [] may_intended_change refl
    (step world_8 (2 ∷ []) may_broken_once refl
    (step world_9 (2 ∷ []) may_broken_twice refl
    (step world_10 (2 ∷ []) may_broken_thrice refl
    (step world_11 [] may_turned refl ended))))))))

pub until_16 : IsRun empty_world run world_16
unfolding computing
until_16 =
    joined (drop 11 run) until_11
    (step world_12 (2 ∷ []) may_repeated refl
    (step world_13 [] may_intended_restore refl
    (step world_14 (3 ∷ []) may_restored refl
    (step world_15 [] may_cleaning refl
    (step world_16 [] may_rolled_back refl ended)))))

pub legal : Legal
legal = until_16.legal

pub report_0 : Shows
report_0 = ap (report_of (codes "s")) until_16.arrives
