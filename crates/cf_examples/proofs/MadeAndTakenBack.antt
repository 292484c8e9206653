-- An update makes a resource and is refused at another: what it made is deleted in the cleanup of the rollback, and not before.
use Rattle.std.proofs.Common.{◌≡◌, refl, List, [], ◌∷◌, ◌++◌, Some, false, ℕ, inl, inr, ap, lit≤, None, true}
use Rattle.std.specs.Prelude.{codes, take, drop}
use Rattle.cf_tree.specs.declared.request.Request.TheVariants as request
use Rattle.cf_tree.specs.declared.code.Code.TheVariants as code
use Rattle.cf_entry.specs.declared.turn.Reason.TheVariants as reason
use Rattle.cf_effect.specs.declared.call.Call.{Call}
use Rattle.cf_effect.specs.declared.call.Settled.TheVariants as settled
use Rattle.cf_effect.specs.declared.held.Held.{Held}
use Rattle.cf_effect.specs.World.{World, StackState, empty_world, no_stack}
use Rattle.cf_effect.specs.Begin.{source_for}
use Rattle.cf_effect.specs.Status.{Forward, Back, BackClean}
use Rattle.cf_plan.specs.Forward.{HasFailed, IsReady, AllDone, IsDone, is_made}
use Rattle.cf_tree.specs.Lists.{there}
use Rattle.cf_tree.specs.Lists.{here}
use Rattle.cf_plan.specs.Follow.{MayFollow}
use Rattle.cf_examples.specs.Given.{schemas, file, note, file_props, note_props, file_attrs, lane_pair, report_of}
use Rattle.cf_examples.proofs.Computing.{computing}
use Rattle.cf_examples.proofs.Lists.{in_none, only}
use Rattle.cf_examples.proofs.Failing.{not_failed, not_done_new, not_done_other, same_at}
use Rattle.cf_examples.proofs.Ending.{end_of_create, end_of_back_clean, nothing_to_restore}
use Rattle.cf_tree.specs.declared.template.Deletion.TheVariants as deletion
use Rattle.cf_tree.specs.declared.template.Replace.TheVariants as replace
use Rattle.cf_entry.specs.declared.entry.Entry.TheVariants as entry
use Rattle.cf_entry.specs.declared.status.Status.TheVariants as status
use Rattle.cf_effect.specs.declared.held.HeldStatus.TheVariants as held
use Rattle.cf_examples.proofs.Refusing.{follows_on, refused_at, IsRun, ended, step, joined}
use Rattle.cf_examples.proofs.Beginning.{no_imports}
use Rattle.cf_examples.specs.MadeAndTakenBack.{first, second, opened, begun, intended, made, created, updating, intended_new, made_new, intended_other, refused, turned, cleaning, intended_deletion, deleted, rolled_back, Legal, Shows, DeletedInTheRollback, run}

abbrev world_0 : World
world_0 = empty_world

may_opened : MayFollow schemas world_0 [] opened
unfolding computing
may_opened = (refl, refl, λ name s e. absurd (cc))

abbrev world_1 : World
world_1 = record world_0 { lanes = (lane_pair (codes "f1") file ∷ lane_pair (codes "r1") note ∷ []); epoch = 1; place = 1 }

may_begun : MayFollow schemas world_1 [] begun
unfolding computing
may_begun = (refl, refl, record { no_flaw = refl; known_types = refl; same_types = refl; imports = no_imports _ _ _ _ refl refl; free = refl; not_in_use = refl; changing = inl refl })

abbrev stack_2_s : StackState
stack_2_s = record no_stack { status = status.CreateInProgress; number = 1; operation = 1; going = Some (source_for (codes "s") 1 first); events = ((codes "event 2 - CREATE_IN_PROGRESS") ∷ []); entries = (begun ∷ []) }

abbrev world_2 : World
world_2 = record world_1 { stacks = (((codes "s"), stack_2_s) ∷ []); operation = 1; place = 2 }

sound_2 : ¬ HasFailed schemas (codes "s") world_2 stack_2_s
unfolding computing
sound_2 = not_failed schemas (codes "s") world_2 stack_2_s (record { calls = refl; paths = refl; inner = refl; flaws = refl; exports = refl })

ready_2_A : IsReady stack_2_s (codes "A")
unfolding computing
ready_2_A = (here, λ q i. absurd (in_none i))

may_intended : MayFollow schemas world_2 [] intended
unfolding computing
may_intended = ((codes "s"), stack_2_s, Forward, refl, refl, record { next = refl; free = refl; home = refl; fits = refl; no_repeat = refl; chosen = (sound_2, ready_2_A, not_done_new (codes "A") stack_2_s refl refl refl, (refl, tt)) })

abbrev pub call_1 : Call
call_1 = record { number = 1; token = 1; lane = (codes "f1"); path = (codes "A"); request = (request.Create file (file_props (codes "a") (codes "x"))); status = status.CreateInProgress; fresh = true; doubts = 0; answer = None }

abbrev stack_3_s : StackState
stack_3_s = record stack_2_s { tokens = (record { token = 1; path = (codes "A"); lane = (codes "f1"); request = (request.Create file (file_props (codes "a") (codes "x"))) } ∷ []); events = stack_2_s.events ++ (codes "event 3 A CREATE_IN_PROGRESS") ∷ []; entries = stack_2_s.entries ++ intended ∷ []; ledger = (call_1 ∷ []) }

abbrev world_3 : World
world_3 = record world_2 { stacks = (((codes "s"), stack_3_s) ∷ []); token = 1; place = 3 }

may_made : MayFollow schemas world_3 (1 ∷ []) made
unfolding computing
may_made = ((codes "s"), stack_3_s, Forward, refl, refl, (refl, refl, lit≤ tt))

abbrev a_1 : Held
a_1 = record { path = (codes "A"); kind = file; physical = (codes "f1:1"); props = (file_props (codes "a") (codes "x")); attrs = (file_attrs (codes "f1:1") 1 (codes "a") (codes "x")); needs = []; deletion = deletion.Delete; replace = replace.Delete; status = held.CreateComplete; unsure = false; superseded = false }

abbrev stack_4_s : StackState
stack_4_s = record stack_3_s { made = (a_1 ∷ []); tokens = []; events = stack_3_s.events ++ (codes "event 4 A CREATE_COMPLETE") ∷ []; entries = stack_3_s.entries ++ made ∷ []; ledger = (record call_1 { answer = Some settled.Success } ∷ []) }

abbrev world_4 : World
world_4 = record world_3 { stacks = (((codes "s"), stack_4_s) ∷ []); place = 4 }

all_done_4 : AllDone stack_4_s
unfolding computing
all_done_4 = λ p i. only (IsDone stack_4_s) (is_made _ refl) p i

sound_4 : ¬ HasFailed schemas (codes "s") world_4 stack_4_s
unfolding computing
sound_4 = not_failed schemas (codes "s") world_4 stack_4_s (record { calls = refl; paths = refl; inner = refl; flaws = refl; exports = refl })

may_created : MayFollow schemas world_4 [] created
unfolding computing
may_created = ((codes "s"), stack_4_s, Forward, refl, refl, (refl, end_of_create schemas (codes "s") world_4 stack_4_s refl all_done_4 sound_4 refl, (sound_4, all_done_4), refl))

abbrev stack_5_s : StackState
stack_5_s = record stack_4_s { status = status.CreateComplete; held = (a_1 ∷ []); made = []; source = Some (source_for (codes "s") 1 first); events = stack_4_s.events ++ (codes "event 5 - CREATE_COMPLETE") ∷ []; entries = stack_4_s.entries ++ created ∷ [] }

abbrev world_5 : World
world_5 = record world_4 { stacks = (((codes "s"), stack_5_s) ∷ []); place = 5 }

may_updating : MayFollow schemas world_5 [] updating
unfolding computing
may_updating = (refl, refl, record { no_flaw = refl; known_types = refl; same_types = refl; imports = no_imports _ _ _ _ refl refl; free = refl; not_in_use = refl; changing = inr refl })

abbrev stack_6_s : StackState
stack_6_s = record stack_5_s { status = status.UpdateInProgress; operation = 2; before = (a_1 ∷ []); going = Some (source_for (codes "s") 1 second); events = stack_5_s.events ++ (codes "event 6 - UPDATE_IN_PROGRESS") ∷ []; entries = (updating ∷ []); ledger = [] }

abbrev world_6 : World
world_6 = record world_5 { stacks = (((codes "s"), stack_6_s) ∷ []); operation = 2; place = 6 }

sound_6 : ¬ HasFailed schemas (codes "s") world_6 stack_6_s
unfolding computing
sound_6 = not_failed schemas (codes "s") world_6 stack_6_s (record { calls = refl; paths = refl; inner = refl; flaws = refl; exports = refl })

ready_6_A : IsReady stack_6_s (codes "A")
unfolding computing
ready_6_A = (here, λ q i. absurd (in_none i))

may_intended_new : MayFollow schemas world_6 [] intended_new
unfolding computing
may_intended_new = ((codes "s"), stack_6_s, Forward, refl, refl, record { next = refl; free = refl; home = refl; fits = refl; no_repeat = refl; chosen = (sound_6, ready_6_A, not_done_other (codes "A") stack_6_s (same_at (codes "Path") (codes "a")) _ _ _ refl refl refl refl refl refl, (refl, inl refl)) })

abbrev pub call_2 : Call
call_2 = record { number = 2; token = 2; lane = (codes "f1"); path = (codes "A"); request = (request.Create file (file_props (codes "b") (codes "x"))); status = status.UpdateInProgress; fresh = true; doubts = 0; answer = None }

abbrev stack_7_s : StackState
stack_7_s = record stack_6_s { tokens = (record { token = 2; path = (codes "A"); lane = (codes "f1"); request = (request.Create file (file_props (codes "b") (codes "x"))) } ∷ []); events = stack_6_s.events ++ (codes "event 7 A CREATE_IN_PROGRESS") ∷ []; entries = stack_6_s.entries ++ intended_new ∷ []; ledger = (call_2 ∷ []) }

abbrev world_7 : World
world_7 = record world_6 { stacks = (((codes "s"), stack_7_s) ∷ []); token = 2; place = 7 }

may_made_new : MayFollow schemas world_7 (2 ∷ []) made_new
unfolding computing
may_made_new = ((codes "s"), stack_7_s, Forward, refl, refl, (refl, refl, lit≤ tt))

abbrev a_2 : Held
a_2 = record { path = (codes "A"); kind = file; physical = (codes "f1:2"); props = (file_props (codes "b") (codes "x")); attrs = (file_attrs (codes "f1:2") 1 (codes "b") (codes "x")); needs = []; deletion = deletion.Delete; replace = replace.Delete; status = held.UpdateComplete; unsure = false; superseded = false }

abbrev stack_8_s : StackState
stack_8_s = record stack_7_s { made = (a_2 ∷ []); tokens = []; events = stack_7_s.events ++ (codes "event 8 A CREATE_COMPLETE") ∷ []; entries = stack_7_s.entries ++ made_new ∷ []; ledger = (record call_2 { answer = Some settled.Success } ∷ []) }

abbrev world_8 : World
world_8 = record world_7 { stacks = (((codes "s"), stack_8_s) ∷ []); place = 8 }

sound_8 : ¬ HasFailed schemas (codes "s") world_8 stack_8_s
unfolding computing
sound_8 = not_failed schemas (codes "s") world_8 stack_8_s (record { calls = refl; paths = refl; inner = refl; flaws = refl; exports = refl })

ready_8_B : IsReady stack_8_s (codes "B")
unfolding computing
ready_8_B = (there here, λ q i. only (IsDone stack_8_s) (is_made _ refl) q i)

may_intended_other : MayFollow schemas world_8 [] intended_other
unfolding computing
may_intended_other = ((codes "s"), stack_8_s, Forward, refl, refl, record { next = refl; free = refl; home = refl; fits = refl; no_repeat = refl; chosen = (sound_8, ready_8_B, not_done_new (codes "B") stack_8_s refl refl refl, (refl, tt)) })

abbrev pub call_3 : Call
call_3 = record { number = 2; token = 3; lane = (codes "r1"); path = (codes "B"); request = (request.Create note (note_props (codes "b") (codes "u"))); status = status.UpdateInProgress; fresh = true; doubts = 0; answer = None }

abbrev stack_9_s : StackState
stack_9_s = record stack_8_s { tokens = (record { token = 3; path = (codes "B"); lane = (codes "r1"); request = (request.Create note (note_props (codes "b") (codes "u"))) } ∷ []); events = stack_8_s.events ++ (codes "event 9 B CREATE_IN_PROGRESS") ∷ []; entries = stack_8_s.entries ++ intended_other ∷ []; ledger = (record call_2 { answer = Some settled.Success } ∷ call_3 ∷ []) }

abbrev world_9 : World
world_9 = record world_8 { stacks = (((codes "s"), stack_9_s) ∷ []); token = 3; place = 9 }

may_refused : MayFollow schemas world_9 (3 ∷ []) refused
unfolding computing
may_refused = ((codes "s"), stack_9_s, Forward, refl, refl, (refl, refl, (lit≤ tt, λ _. lit≤ tt)))

abbrev stack_10_s : StackState
stack_10_s = record stack_9_s { tokens = []; events = stack_9_s.events ++ (codes "event 10 B CREATE_FAILED AccessDenied") ∷ []; entries = stack_9_s.entries ++ refused ∷ []; ledger = (record call_2 { answer = Some settled.Success } ∷ record call_3 { answer = Some (settled.Failed code.AccessDenied) } ∷ []) }

abbrev world_10 : World
world_10 = record world_9 { stacks = (((codes "s"), stack_10_s) ∷ []); place = 10 }

may_turned : MayFollow schemas world_10 [] turned
unfolding computing
may_turned = ((codes "s"), stack_10_s, Forward, refl, refl, (refl, (refl, (inl ((3, (reason.Code code.AccessDenied)), refl)), (3, refl, refl))))

abbrev stack_11_s : StackState
stack_11_s = record stack_10_s { status = status.UpdateRollbackInProgress; events = stack_10_s.events ++ (codes "event 11 - UPDATE_ROLLBACK_IN_PROGRESS") ∷ []; entries = stack_10_s.entries ++ turned ∷ []; ledger = (record call_2 { fresh = false; answer = Some settled.Success } ∷ record call_3 { fresh = false; answer = Some (settled.Failed code.AccessDenied) } ∷ []) }

abbrev world_11 : World
world_11 = record world_10 { stacks = (((codes "s"), stack_11_s) ∷ []); place = 11 }

may_cleaning : MayFollow schemas world_11 [] cleaning
unfolding computing
may_cleaning = ((codes "s"), stack_11_s, Back, refl, refl, (refl, (refl, refl, nothing_to_restore stack_11_s refl, refl)))

abbrev stack_12_s : StackState
stack_12_s = record stack_11_s { status = status.UpdateRollbackCompleteCleanupInProgress; events = stack_11_s.events ++ (codes "event 12 - UPDATE_ROLLBACK_COMPLETE_CLEANUP_IN_PROGRESS") ∷ []; entries = stack_11_s.entries ++ cleaning ∷ [] }

abbrev world_12 : World
world_12 = record world_11 { stacks = (((codes "s"), stack_12_s) ∷ []); place = 12 }

may_intended_deletion : MayFollow schemas world_12 [] intended_deletion
unfolding computing
may_intended_deletion = ((codes "s"), stack_12_s, BackClean, refl, refl, record { next = refl; free = refl; home = refl; fits = ((codes "2", refl), refl); no_repeat = refl; chosen = (_, (here, refl), refl, refl, refl) })

abbrev pub call_4 : Call
call_4 = record { number = 2; token = 4; lane = (codes "f1"); path = (codes "A"); request = (request.Delete (codes "f1:2")); status = status.UpdateRollbackCompleteCleanupInProgress; fresh = true; doubts = 0; answer = None }

abbrev stack_13_s : StackState
stack_13_s = record stack_12_s { tokens = (record { token = 4; path = (codes "A"); lane = (codes "f1"); request = (request.Delete (codes "f1:2")) } ∷ []); events = stack_12_s.events ++ (codes "event 13 A DELETE_IN_PROGRESS") ∷ []; entries = stack_12_s.entries ++ intended_deletion ∷ []; ledger = (record call_2 { fresh = false; answer = Some settled.Success } ∷ record call_3 { fresh = false; answer = Some (settled.Failed code.AccessDenied) } ∷ call_4 ∷ []) }

abbrev world_13 : World
world_13 = record world_12 { stacks = (((codes "s"), stack_13_s) ∷ []); token = 4; place = 13 }

may_deleted : MayFollow schemas world_13 (4 ∷ []) deleted
unfolding computing
may_deleted = ((codes "s"), stack_13_s, BackClean, refl, refl, (refl, refl, lit≤ tt))

abbrev stack_14_s : StackState
stack_14_s = record stack_13_s { made = []; tokens = []; events = stack_13_s.events ++ (codes "event 14 A DELETE_COMPLETE") ∷ []; entries = stack_13_s.entries ++ deleted ∷ []; ledger = (record call_2 { fresh = false; answer = Some settled.Success } ∷ record call_3 { fresh = false; answer = Some (settled.Failed code.AccessDenied) } ∷ record call_4 { answer = Some settled.Success } ∷ []) }

abbrev world_14 : World
world_14 = record world_13 { stacks = (((codes "s"), stack_14_s) ∷ []); place = 14 }

may_rolled_back : MayFollow schemas world_14 [] rolled_back
unfolding computing
may_rolled_back = ((codes "s"), stack_14_s, BackClean, refl, refl, (refl, end_of_back_clean schemas (codes "s") world_14 stack_14_s refl refl refl, tt, refl))

abbrev stack_15_s : StackState
stack_15_s = record stack_14_s { status = status.UpdateRollbackComplete; events = stack_14_s.events ++ (codes "event 15 - UPDATE_ROLLBACK_COMPLETE") ∷ []; entries = stack_14_s.entries ++ rolled_back ∷ [] }

abbrev world_15 : World
world_15 = record world_14 { stacks = (((codes "s"), stack_15_s) ∷ []); place = 15 }

pub until_11 : IsRun empty_world (take 11 run) world_11
unfolding computing
until_11 =
    step world_1 [] may_opened refl
    (step world_2 [] may_begun refl
    (step world_3 [] may_intended refl
    (step world_4 (1 ∷ []) may_made refl
    (step world_5 [] may_created refl
    (step world_6 [] may_updating refl
    (step world_7 [] may_intended_new refl
    (step world_8 (2 ∷ []) may_made_new refl
    (step world_9 [] may_intended_other refl
    (step world_10 (3 ∷ []) may_refused refl
    (step world_11 [] may_turned refl ended))))))))))

pub until_15 : IsRun empty_world run world_15
unfolding computing
until_15 =
    joined (drop 11 run) until_11
    (step world_12 [] may_cleaning refl
    (step world_13 [] may_intended_deletion refl
    (step world_14 (4 ∷ []) may_deleted refl
    (step world_15 [] may_rolled_back refl ended))))

pub legal : Legal
legal = until_15.legal

pub report_0 : Shows
report_0 = ap (report_of (codes "s")) until_15.arrives

may_not_0 : (out : List ℕ) → MayFollow schemas world_11 out (entry.Intent 2 4 (codes "f1") (codes "A") (request.Delete (codes "f1:2"))) → ⊥
unfolding computing
may_not_0 = λ out may. let m = follows_on schemas 2 world_11 out (entry.Intent 2 4 (codes "f1") (codes "A") (request.Delete (codes "f1:2"))) ((codes "s"), stack_11_s) Back refl refl may in elim m.chosen [ inl d ↦ (let e : status.UpdateRollbackInProgress ≡ status.RollbackInProgress = d.1.0 in cc) | inr d ↦ d ]

pub refused_0 : DeletedInTheRollback
refused_0 = refused_at world_11 (take 11 run) (entry.Intent 2 4 (codes "f1") (codes "A") (request.Delete (codes "f1:2"))) until_11.arrives may_not_0
