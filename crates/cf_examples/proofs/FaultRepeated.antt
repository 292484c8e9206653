-- A call breaks off after it acted: it is repeated and answers; then another resource is refused, and the first is given back what it had.
use Rattle.std.proofs.Common.{◌≡◌, refl, [], ◌∷◌, ◌++◌, Some, false, inl, inr, ap, lit≤, None, true}
use Rattle.std.specs.Prelude.{codes, take, drop}
use Rattle.cf_tree.specs.declared.request.Request.TheVariants as request
use Rattle.cf_tree.specs.declared.code.Code.TheVariants as code
use Rattle.cf_entry.specs.declared.turn.Reason.TheVariants as reason
use Rattle.cf_effect.specs.declared.call.Call.{Call}
use Rattle.cf_effect.specs.declared.call.Settled.TheVariants as settled
use Rattle.cf_effect.specs.declared.held.Held.{Held}
use Rattle.cf_effect.specs.World.{World, StackState, empty_world, no_stack}
use Rattle.cf_effect.specs.Begin.{source_for}
use Rattle.cf_effect.specs.Status.{Forward, Back, BackClean}
use Rattle.cf_plan.specs.Forward.{HasFailed, IsReady, AllDone, IsDone, is_made, is_updated}
use Rattle.cf_tree.specs.Lists.{there}
use Rattle.cf_tree.specs.Lists.{here}
use Rattle.cf_plan.specs.Follow.{MayFollow}
use Rattle.cf_schema.specs.declared.changed.Difference.TheVariants.{Same, Update, Replace}
use Rattle.cf_examples.specs.Given.{schemas, file, note, file_props, note_props, file_attrs, note_attrs, lane_pair, report_of}
use Rattle.cf_examples.proofs.Computing.{computing}
use Rattle.cf_examples.proofs.Lists.{in_none, only, either}
use Rattle.cf_examples.proofs.Failing.{not_failed, not_done_new, not_done_other, same_at}
use Rattle.cf_examples.proofs.Ending.{end_of_create, end_of_back_clean, nothing_to_restore}
use Rattle.cf_tree.specs.declared.template.Deletion.TheVariants as deletion
use Rattle.cf_tree.specs.declared.template.Replace.TheVariants as replace
use Rattle.cf_entry.specs.declared.status.Status.TheVariants as status
use Rattle.cf_effect.specs.declared.held.HeldStatus.TheVariants as held
use Rattle.cf_examples.proofs.Refusing.{IsRun, ended, step, joined}
use Rattle.cf_examples.proofs.Beginning.{no_imports}
use Rattle.cf_examples.specs.FaultRepeated.{first, second, opened, begun, intended_a, made_a, intended_b, made_b, created, updating, intended_change, broken_off, repeated, intended_other, refused, turned, intended_restore, restored, cleaning, rolled_back, Legal, Shows, run}

abbrev world_0 : World
world_0 = empty_world

may_opened : MayFollow schemas world_0 [] opened
unfolding computing
may_opened = (refl, refl, λ name s e. absurd (cc))

abbrev world_1 : World
world_1 = record world_0 { lanes = (lane_pair (codes "f1") file ∷ lane_pair (codes "r1") note ∷ []); epoch = 1; place = 1 }

may_begun : MayFollow schemas world_1 [] begun
unfolding computing
may_begun = (refl, refl, record { no_flaw = refl; known_types = refl; same_types = refl; imports = no_imports _ _ _ _ refl refl; free = refl; not_in_use = refl; changing = inl refl })

abbrev stack_2_s : StackState
stack_2_s = record no_stack { status = status.CreateInProgress; number = 1; operation = 1; going = Some (source_for (codes "s") 1 first); events = ((codes "event 2 - CREATE_IN_PROGRESS") ∷ []); entries = (begun ∷ []) }

abbrev world_2 : World
world_2 = record world_1 { stacks = (((codes "s"), stack_2_s) ∷ []); operation = 1; place = 2 }

sound_2 : ¬ HasFailed schemas (codes "s") world_2 stack_2_s
unfolding computing
sound_2 = not_failed schemas (codes "s") world_2 stack_2_s (record { calls = refl; paths = refl; inner = refl; flaws = refl; exports = refl })

ready_2_A : IsReady stack_2_s (codes "A")
unfolding computing
ready_2_A = (here, λ q i. absurd (in_none i))

may_intended_a : MayFollow schemas world_2 [] intended_a
unfolding computing
may_intended_a = ((codes "s"), stack_2_s, Forward, refl, refl, record { next = refl; free = refl; home = refl; fits = refl; no_repeat = refl; chosen = (sound_2, ready_2_A, not_done_new (codes "A") stack_2_s refl refl refl, (refl, tt)) })

abbrev pub call_1 : Call
call_1 = record { number = 1; token = 1; lane = (codes "f1"); path = (codes "A"); request = (request.Create file (file_props (codes "a") (codes "x"))); status = status.CreateInProgress; fresh = true; doubts = 0; answer = None }

abbrev stack_3_s : StackState
stack_3_s = record stack_2_s { tokens = (record { token = 1; path = (codes "A"); lane = (codes "f1"); request = (request.Create file (file_props (codes "a") (codes "x"))) } ∷ []); events = stack_2_s.events ++ (codes "event 3 A CREATE_IN_PROGRESS") ∷ []; entries = stack_2_s.entries ++ intended_a ∷ []; ledger = (call_1 ∷ []) }

abbrev world_3 : World
world_3 = record world_2 { stacks = (((codes "s"), stack_3_s) ∷ []); token = 1; place = 3 }

may_made_a : MayFollow schemas world_3 (1 ∷ []) made_a
unfolding computing
may_made_a = ((codes "s"), stack_3_s, Forward, refl, refl, (refl, refl, lit≤ tt))

abbrev a_1 : Held
a_1 = record { path = (codes "A"); kind = file; physical = (codes "f1:1"); props = (file_props (codes "a") (codes "x")); attrs = (file_attrs (codes "f1:1") 1 (codes "a") (codes "x")); needs = []; deletion = deletion.Delete; replace = replace.Delete; status = held.CreateComplete; unsure = false; superseded = false }

abbrev stack_4_s : StackState
stack_4_s = record stack_3_s { made = (a_1 ∷ []); tokens = []; events = stack_3_s.events ++ (codes "event 4 A CREATE_COMPLETE") ∷ []; entries = stack_3_s.entries ++ made_a ∷ []; ledger = (record call_1 { answer = Some settled.Success } ∷ []) }

abbrev world_4 : World
world_4 = record world_3 { stacks = (((codes "s"), stack_4_s) ∷ []); place = 4 }

sound_4 : ¬ HasFailed schemas (codes "s") world_4 stack_4_s
unfolding computing
sound_4 = not_failed schemas (codes "s") world_4 stack_4_s (record { calls = refl; paths = refl; inner = refl; flaws = refl; exports = refl })

ready_4_B : IsReady stack_4_s (codes "B")
unfolding computing
ready_4_B = (there here, λ q i. only (IsDone stack_4_s) (is_made _ refl) q i)

may_intended_b : MayFollow schemas world_4 [] intended_b
unfolding computing
may_intended_b = ((codes "s"), stack_4_s, Forward, refl, refl, record { next = refl; free = refl; home = refl; fits = refl; no_repeat = refl; chosen = (sound_4, ready_4_B, not_done_new (codes "B") stack_4_s refl refl refl, (refl, tt)) })

abbrev pub call_2 : Call
call_2 = record { number = 1; token = 2; lane = (codes "r1"); path = (codes "B"); request = (request.Create note (note_props (codes "b") (codes "u"))); status = status.CreateInProgress; fresh = true; doubts = 0; answer = None }

abbrev stack_5_s : StackState
stack_5_s = record stack_4_s { tokens = (record { token = 2; path = (codes "B"); lane = (codes "r1"); request = (request.Create note (note_props (codes "b") (codes "u"))) } ∷ []); events = stack_4_s.events ++ (codes "event 5 B CREATE_IN_PROGRESS") ∷ []; entries = stack_4_s.entries ++ intended_b ∷ []; ledger = (record call_1 { answer = Some settled.Success } ∷ call_2 ∷ []) }

abbrev world_5 : World
world_5 = record world_4 { stacks = (((codes "s"), stack_5_s) ∷ []); token = 2; place = 5 }

may_made_b : MayFollow schemas world_5 (2 ∷ []) made_b
unfolding computing
may_made_b = ((codes "s"), stack_5_s, Forward, refl, refl, (refl, refl, lit≤ tt))

abbrev pub b_1 : Held
b_1 = record { path = (codes "B"); kind = note; physical = (codes "r1:2"); props = (note_props (codes "b") (codes "u")); attrs = (note_attrs (codes "r1:2") 1 (codes "b") (codes "u")); needs = ((codes "A") ∷ []); deletion = deletion.Delete; replace = replace.Delete; status = held.CreateComplete; unsure = false; superseded = false }

abbrev stack_6_s : StackState
stack_6_s = record stack_5_s { made = (a_1 ∷ b_1 ∷ []); tokens = []; events = stack_5_s.events ++ (codes "event 6 B CREATE_COMPLETE") ∷ []; entries = stack_5_s.entries ++ made_b ∷ []; ledger = (record call_1 { answer = Some settled.Success } ∷ record call_2 { answer = Some settled.Success } ∷ []) }

abbrev world_6 : World
world_6 = record world_5 { stacks = (((codes "s"), stack_6_s) ∷ []); place = 6 }

all_done_6 : AllDone stack_6_s
unfolding computing
all_done_6 = λ p i. either (IsDone stack_6_s) (is_made _ refl) (is_made _ refl) p i

sound_6 : ¬ HasFailed schemas (codes "s") world_6 stack_6_s
unfolding computing
sound_6 = not_failed schemas (codes "s") world_6 stack_6_s (record { calls = refl; paths = refl; inner = refl; flaws = refl; exports = refl })

may_created : MayFollow schemas world_6 [] created
unfolding computing
may_created = ((codes "s"), stack_6_s, Forward, refl, refl, (refl, end_of_create schemas (codes "s") world_6 stack_6_s refl all_done_6 sound_6 refl, (sound_6, all_done_6), refl))

abbrev stack_7_s : StackState
stack_7_s = record stack_6_s { status = status.CreateComplete; held = (a_1 ∷ b_1 ∷ []); made = []; source = Some (source_for (codes "s") 1 first); events = stack_6_s.events ++ (codes "event 7 - CREATE_COMPLETE") ∷ []; entries = stack_6_s.entries ++ created ∷ [] }

abbrev world_7 : World
world_7 = record world_6 { stacks = (((codes "s"), stack_7_s) ∷ []); place = 7 }

may_updating : MayFollow schemas world_7 [] updating
unfolding computing
may_updating = (refl, refl, record { no_flaw = refl; known_types = refl; same_types = refl; imports = no_imports _ _ _ _ refl refl; free = refl; not_in_use = refl; changing = inr refl })

abbrev stack_8_s : StackState
stack_8_s = record stack_7_s { status = status.UpdateInProgress; operation = 2; before = (a_1 ∷ b_1 ∷ []); going = Some (source_for (codes "s") 1 second); events = stack_7_s.events ++ (codes "event 8 - UPDATE_IN_PROGRESS") ∷ []; entries = (updating ∷ []); ledger = [] }

abbrev world_8 : World
world_8 = record world_7 { stacks = (((codes "s"), stack_8_s) ∷ []); operation = 2; place = 8 }

sound_8 : ¬ HasFailed schemas (codes "s") world_8 stack_8_s
unfolding computing
sound_8 = not_failed schemas (codes "s") world_8 stack_8_s (record { calls = refl; paths = refl; inner = refl; flaws = refl; exports = refl })

ready_8_A : IsReady stack_8_s (codes "A")
unfolding computing
ready_8_A = (here, λ q i. absurd (in_none i))

may_intended_change : MayFollow schemas world_8 [] intended_change
unfolding computing
may_intended_change = ((codes "s"), stack_8_s, Forward, refl, refl, record { next = refl; free = refl; home = refl; fits = ((codes "1", refl), refl); no_repeat = refl; chosen = (sound_8, ready_8_A, not_done_other (codes "A") stack_8_s (same_at (codes "Content") (codes "x")) _ _ _ refl refl refl refl refl refl, (_, refl, refl, refl, ((λ e. let z : Update ≡ Replace = e in cc), inr (λ e. let z : Update ≡ Same = e in cc)), refl)) })

abbrev pub call_3 : Call
call_3 = record { number = 2; token = 3; lane = (codes "f1"); path = (codes "A"); request = (request.Update (codes "f1:1") (file_props (codes "a") (codes "y"))); status = status.UpdateInProgress; fresh = true; doubts = 0; answer = None }

abbrev pub stack_9_s : StackState
stack_9_s = record stack_8_s { tokens = (record { token = 3; path = (codes "A"); lane = (codes "f1"); request = (request.Update (codes "f1:1") (file_props (codes "a") (codes "y"))) } ∷ []); events = stack_8_s.events ++ (codes "event 9 A UPDATE_IN_PROGRESS") ∷ []; entries = stack_8_s.entries ++ intended_change ∷ []; ledger = (call_3 ∷ []) }

abbrev pub world_9 : World
world_9 = record world_8 { stacks = (((codes "s"), stack_9_s) ∷ []); token = 3; place = 9 }

may_broken_off : MayFollow schemas world_9 (3 ∷ []) broken_off
unfolding computing
may_broken_off = ((codes "s"), stack_9_s, Forward, refl, refl, (refl, refl, (lit≤ tt, λ _. lit≤ tt)))

abbrev stack_10_s : StackState
stack_10_s = record stack_9_s { events = stack_9_s.events ++ (codes "event 10 A UPDATE_FAILED Fault") ∷ []; entries = stack_9_s.entries ++ broken_off ∷ []; ledger = (record call_3 { doubts = 1 } ∷ []) }

abbrev world_10 : World
world_10 = record world_9 { stacks = (((codes "s"), stack_10_s) ∷ []); place = 10 }

may_repeated : MayFollow schemas world_10 (3 ∷ []) repeated
unfolding computing
may_repeated = ((codes "s"), stack_10_s, Forward, refl, refl, (refl, refl, lit≤ tt))

abbrev pub a_2 : Held
a_2 = record { path = (codes "A"); kind = file; physical = (codes "f1:1"); props = (file_props (codes "a") (codes "y")); attrs = (file_attrs (codes "f1:1") 1 (codes "a") (codes "y")); needs = []; deletion = deletion.Delete; replace = replace.Delete; status = held.UpdateComplete; unsure = false; superseded = false }

abbrev stack_11_s : StackState
stack_11_s = record stack_10_s { held = (a_2 ∷ b_1 ∷ []); tokens = []; events = stack_10_s.events ++ (codes "event 11 A UPDATE_COMPLETE") ∷ []; entries = stack_10_s.entries ++ repeated ∷ []; ledger = (record call_3 { doubts = 1; answer = Some settled.Success } ∷ []) }

abbrev world_11 : World
world_11 = record world_10 { stacks = (((codes "s"), stack_11_s) ∷ []); place = 11 }

sound_11 : ¬ HasFailed schemas (codes "s") world_11 stack_11_s
unfolding computing
sound_11 = not_failed schemas (codes "s") world_11 stack_11_s (record { calls = refl; paths = refl; inner = refl; flaws = refl; exports = refl })

ready_11_B : IsReady stack_11_s (codes "B")
unfolding computing
ready_11_B = (there here, λ q i. only (IsDone stack_11_s) (is_updated refl) q i)

may_intended_other : MayFollow schemas world_11 [] intended_other
unfolding computing
may_intended_other = ((codes "s"), stack_11_s, Forward, refl, refl, record { next = refl; free = refl; home = refl; fits = ((codes "2", refl), refl); no_repeat = refl; chosen = (sound_11, ready_11_B, not_done_other (codes "B") stack_11_s (same_at (codes "Value") (codes "u")) _ _ _ refl refl refl refl refl refl, (_, refl, refl, refl, ((λ e. let z : Update ≡ Replace = e in cc), inr (λ e. let z : Update ≡ Same = e in cc)), refl)) })

abbrev pub call_4 : Call
call_4 = record { number = 2; token = 4; lane = (codes "r1"); path = (codes "B"); request = (request.Update (codes "r1:2") (note_props (codes "b") (codes "w"))); status = status.UpdateInProgress; fresh = true; doubts = 0; answer = None }

abbrev stack_12_s : StackState
stack_12_s = record stack_11_s { tokens = (record { token = 4; path = (codes "B"); lane = (codes "r1"); request = (request.Update (codes "r1:2") (note_props (codes "b") (codes "w"))) } ∷ []); events = stack_11_s.events ++ (codes "event 12 B UPDATE_IN_PROGRESS") ∷ []; entries = stack_11_s.entries ++ intended_other ∷ []; ledger = (record call_3 { doubts = 1; answer = Some settled.Success } ∷ call_4 ∷ []) }

abbrev world_12 : World
world_12 = record world_11 { stacks = (((codes "s"), stack_12_s) ∷ []); token = 4; place = 12 }

may_refused : MayFollow schemas world_12 (4 ∷ []) refused
unfolding computing
may_refused = ((codes "s"), stack_12_s, Forward, refl, refl, (refl, refl, (lit≤ tt, λ _. lit≤ tt)))

abbrev stack_13_s : StackState
stack_13_s = record stack_12_s { tokens = []; events = stack_12_s.events ++ (codes "event 13 B UPDATE_FAILED ServiceInternalError") ∷ []; entries = stack_12_s.entries ++ refused ∷ []; ledger = (record call_3 { doubts = 1; answer = Some settled.Success } ∷ record call_4 { answer = Some (settled.Failed code.ServiceInternalError) } ∷ []) }

abbrev world_13 : World
world_13 = record world_12 { stacks = (((codes "s"), stack_13_s) ∷ []); place = 13 }

may_turned : MayFollow schemas world_13 [] turned
unfolding computing
may_turned = ((codes "s"), stack_13_s, Forward, refl, refl, (refl, (refl, (inl ((4, (reason.Code code.ServiceInternalError)), refl)), (4, refl, refl))))

abbrev stack_14_s : StackState
stack_14_s = record stack_13_s { status = status.UpdateRollbackInProgress; events = stack_13_s.events ++ (codes "event 14 - UPDATE_ROLLBACK_IN_PROGRESS") ∷ []; entries = stack_13_s.entries ++ turned ∷ []; ledger = (record call_3 { fresh = false; answer = Some settled.Success } ∷ record call_4 { fresh = false; answer = Some (settled.Failed code.ServiceInternalError) } ∷ []) }

abbrev world_14 : World
world_14 = record world_13 { stacks = (((codes "s"), stack_14_s) ∷ []); place = 14 }

may_intended_restore : MayFollow schemas world_14 [] intended_restore
unfolding computing
may_intended_restore = ((codes "s"), stack_14_s, Back, refl, refl, record { next = refl; free = refl; home = refl; fits = ((codes "1", refl), refl); no_repeat = refl; chosen = inr (refl, _, (here, refl, refl, refl), refl, refl, refl, refl) })

abbrev pub call_5 : Call
call_5 = record { number = 2; token = 5; lane = (codes "f1"); path = (codes "A"); request = (request.Update (codes "f1:1") (file_props (codes "a") (codes "x"))); status = status.UpdateRollbackInProgress; fresh = true; doubts = 0; answer = None }

abbrev stack_15_s : StackState
stack_15_s = record stack_14_s { tokens = (record { token = 5; path = (codes "A"); lane = (codes "f1"); request = (request.Update (codes "f1:1") (file_props (codes "a") (codes "x"))) } ∷ []); events = stack_14_s.events ++ (codes "event 15 A UPDATE_IN_PROGRESS") ∷ []; entries = stack_14_s.entries ++ intended_restore ∷ []; ledger = (record call_3 { fresh = false; answer = Some settled.Success } ∷ record call_4 { fresh = false; answer = Some (settled.Failed code.ServiceInternalError) } ∷ call_5 ∷ []) }

abbrev world_15 : World
world_15 = record world_14 { stacks = (((codes "s"), stack_15_s) ∷ []); token = 5; place = 15 }

may_restored : MayFollow schemas world_15 (5 ∷ []) restored
unfolding computing
may_restored = ((codes "s"), stack_15_s, Back, refl, refl, (refl, refl, lit≤ tt))

abbrev a_3 : Held
a_3 = record { path = (codes "A"); kind = file; physical = (codes "f1:1"); props = (file_props (codes "a") (codes "x")); attrs = (file_attrs (codes "f1:1") 1 (codes "a") (codes "x")); needs = []; deletion = deletion.Delete; replace = replace.Delete; status = held.UpdateComplete; unsure = false; superseded = false }

abbrev stack_16_s : StackState
stack_16_s = record stack_15_s { held = (a_3 ∷ b_1 ∷ []); tokens = []; events = stack_15_s.events ++ (codes "event 16 A UPDATE_COMPLETE") ∷ []; entries = stack_15_s.entries ++ restored ∷ []; ledger = (record call_3 { fresh = false; answer = Some settled.Success } ∷ record call_4 { fresh = false; answer = Some (settled.Failed code.ServiceInternalError) } ∷ record call_5 { answer = Some settled.Success } ∷ []) }

abbrev world_16 : World
world_16 = record world_15 { stacks = (((codes "s"), stack_16_s) ∷ []); place = 16 }

may_cleaning : MayFollow schemas world_16 [] cleaning
unfolding computing
may_cleaning = ((codes "s"), stack_16_s, Back, refl, refl, (refl, (refl, refl, nothing_to_restore stack_16_s refl, refl)))

abbrev stack_17_s : StackState
stack_17_s = record stack_16_s { status = status.UpdateRollbackCompleteCleanupInProgress; events = stack_16_s.events ++ (codes "event 17 - UPDATE_ROLLBACK_COMPLETE_CLEANUP_IN_PROGRESS") ∷ []; entries = stack_16_s.entries ++ cleaning ∷ []; ledger = (record call_3 { fresh = false; answer = Some settled.Success } ∷ record call_4 { fresh = false; answer = Some (settled.Failed code.ServiceInternalError) } ∷ record call_5 { fresh = false; answer = Some settled.Success } ∷ []) }

abbrev world_17 : World
world_17 = record world_16 { stacks = (((codes "s"), stack_17_s) ∷ []); place = 17 }

may_rolled_back : MayFollow schemas world_17 [] rolled_back
unfolding computing
may_rolled_back = ((codes "s"), stack_17_s, BackClean, refl, refl, (refl, end_of_back_clean schemas (codes "s") world_17 stack_17_s refl refl refl, tt, refl))

abbrev stack_18_s : StackState
stack_18_s = record stack_17_s { status = status.UpdateRollbackComplete; events = stack_17_s.events ++ (codes "event 18 - UPDATE_ROLLBACK_COMPLETE") ∷ []; entries = stack_17_s.entries ++ rolled_back ∷ [] }

abbrev world_18 : World
world_18 = record world_17 { stacks = (((codes "s"), stack_18_s) ∷ []); place = 18 }

pub until_9 : IsRun empty_world (take 9 run) world_9
unfolding computing
until_9 =
    step world_1 [] may_opened refl
    (step world_2 [] may_begun refl
    (step world_3 [] may_intended_a refl
    (step world_4 (1 ∷ []) may_made_a refl
    (step world_5 [] may_intended_b refl
    (step world_6 (2 ∷ []) may_made_b refl
    (step world_7 [] may_created refl
    (step world_8 [] may_updating refl
    (step world_9 [] may_intended_change refl ended))))))))

pub until_18 : IsRun empty_world run world_18
unfolding computing
until_18 =
    joined (drop 9 run) until_9
    (step world_10 (3 ∷ []) may_broken_off refl
    (step world_11 (3 ∷ []) may_repeated refl
    (step world_12 [] may_intended_other refl
    (step world_13 (4 ∷ []) may_refused refl
    (step world_14 [] may_turned refl
    (step world_15 [] may_intended_restore refl
    (step world_16 (5 ∷ []) may_restored refl
    (step world_17 [] may_cleaning refl
    (step world_18 [] may_rolled_back refl ended)))))))))

pub legal : Legal
legal = until_18.legal

pub report_0 : Shows
report_0 = ap (report_of (codes "s")) until_18.arrives
