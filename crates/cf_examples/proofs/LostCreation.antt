-- A creation stays in doubt, in its rollback and in the deletion of its stack: a deletion that keeps its path lists it without an id.
use Rattle.std.proofs.Common.{refl, [], ◌∷◌, ◌++◌, inl, inr, ap, lit≤, false}
use Rattle.std.specs.Prelude.{codes, take, drop}
use Rattle.cf_entry.specs.declared.turn.Reason.TheVariants as reason
use Rattle.cf_effect.specs.World.{World, StackState, empty_world}
use Rattle.cf_effect.specs.Status.{Forward, Back, Gone}
use Rattle.cf_plan.specs.Follow.{MayFollow}
use Rattle.cf_examples.specs.Given.{schemas, report_of}
use Rattle.cf_examples.proofs.Computing.{computing}
use Rattle.cf_examples.proofs.Ending.{end_of_rollback, end_of_deletion, end_of_failed_deletion}
use Rattle.cf_entry.specs.declared.status.Status.TheVariants as status
use Rattle.cf_entry.specs.declared.turn.Why.TheVariants as why
use Rattle.cf_examples.proofs.Refusing.{are_failed, IsRun, ended, step, joined}
use Rattle.cf_examples.specs.LostCreation.{broken_once, broken_twice, broken_thrice, turned, broken_back_once, broken_back_twice, broken_back_thrice, failed, deleting, broken_gone_once, broken_gone_twice, broken_gone_thrice, undeleted, deleting_without, kept, deleted, Legal, Fails, Shows, run}
use Rattle.cf_examples.proofs.LateEffect.{until_3, stack_3_s, world_3, call_1}

pub may_broken_once : MayFollow schemas world_3 (1 ∷ []) broken_once
unfolding computing
may_broken_once = ((codes "s"), stack_3_s, Forward, refl, refl, (refl, refl, (lit≤ tt, λ _. lit≤ tt)))

abbrev pub stack_4_s : StackState
stack_4_s = record stack_3_s { events = stack_3_s.events ++ (codes "event 4 A CREATE_FAILED Fault") ∷ []; entries = stack_3_s.entries ++ broken_once ∷ []; ledger = (record call_1 { doubts = 1 } ∷ []) }

abbrev pub world_4 : World
world_4 = record world_3 { stacks = (((codes "s"), stack_4_s) ∷ []); place = 4 }

pub may_broken_twice : MayFollow schemas world_4 (1 ∷ []) broken_twice
unfolding computing
may_broken_twice = ((codes "s"), stack_4_s, Forward, refl, refl, (refl, refl, (lit≤ tt, λ _. lit≤ tt)))

abbrev pub stack_5_s : StackState
stack_5_s = record stack_4_s { events = stack_4_s.events ++ (codes "event 5 A CREATE_FAILED Fault") ∷ []; entries = stack_4_s.entries ++ broken_twice ∷ []; ledger = (record call_1 { doubts = 2 } ∷ []) }

abbrev pub world_5 : World
world_5 = record world_4 { stacks = (((codes "s"), stack_5_s) ∷ []); place = 5 }

pub may_broken_thrice : MayFollow schemas world_5 (1 ∷ []) broken_thrice
unfolding computing
may_broken_thrice = ((codes "s"), stack_5_s, Forward, refl, refl, (refl, refl, (lit≤ tt, λ _. lit≤ tt)))

abbrev pub stack_6_s : StackState
stack_6_s = record stack_5_s { events = stack_5_s.events ++ (codes "event 6 A CREATE_FAILED Fault") ∷ []; entries = stack_5_s.entries ++ broken_thrice ∷ []; ledger = (record call_1 { doubts = 3 } ∷ []) }

abbrev pub world_6 : World
world_6 = record world_5 { stacks = (((codes "s"), stack_6_s) ∷ []); place = 6 }

pub may_turned : MayFollow schemas world_6 [] turned
unfolding computing
may_turned = ((codes "s"), stack_6_s, Forward, refl, refl, (refl, (refl, (inl ((1, reason.Fault), refl)), (1, refl, refl))))

abbrev pub stack_7_s : StackState
stack_7_s = record stack_6_s { status = status.RollbackInProgress; events = stack_6_s.events ++ (codes "event 7 - ROLLBACK_IN_PROGRESS") ∷ []; entries = stack_6_s.entries ++ turned ∷ []; ledger = (record call_1 { fresh = false } ∷ []) }

abbrev pub world_7 : World
world_7 = record world_6 { stacks = (((codes "s"), stack_7_s) ∷ []); place = 7 }

pub may_broken_back_once : MayFollow schemas world_7 (1 ∷ []) broken_back_once
unfolding computing
may_broken_back_once = ((codes "s"), stack_7_s, Back, refl, refl, (refl, refl, (lit≤ tt, λ _. lit≤ tt)))

abbrev pub stack_8_s : StackState
stack_8_s = record stack_7_s { events = stack_7_s.events ++ (codes "event 8 A CREATE_FAILED Fault") ∷ []; entries = stack_7_s.entries ++ broken_back_once ∷ []; ledger = (record call_1 { fresh = false; doubts = 1 } ∷ []) }

abbrev pub world_8 : World
world_8 = record world_7 { stacks = (((codes "s"), stack_8_s) ∷ []); place = 8 }

pub may_broken_back_twice : MayFollow schemas world_8 (1 ∷ []) broken_back_twice
unfolding computing
may_broken_back_twice = ((codes "s"), stack_8_s, Back, refl, refl, (refl, refl, (lit≤ tt, λ _. lit≤ tt)))

abbrev pub stack_9_s : StackState
stack_9_s = record stack_8_s { events = stack_8_s.events ++ (codes "event 9 A CREATE_FAILED Fault") ∷ []; entries = stack_8_s.entries ++ broken_back_twice ∷ []; ledger = (record call_1 { fresh = false; doubts = 2 } ∷ []) }

abbrev pub world_9 : World
world_9 = record world_8 { stacks = (((codes "s"), stack_9_s) ∷ []); place = 9 }

pub may_broken_back_thrice : MayFollow schemas world_9 (1 ∷ []) broken_back_thrice
unfolding computing
may_broken_back_thrice = ((codes "s"), stack_9_s, Back, refl, refl, (refl, refl, (lit≤ tt, λ _. lit≤ tt)))

abbrev pub stack_10_s : StackState
stack_10_s = record stack_9_s { events = stack_9_s.events ++ (codes "event 10 A CREATE_FAILED Fault") ∷ []; entries = stack_9_s.entries ++ broken_back_thrice ∷ []; ledger = (record call_1 { fresh = false; doubts = 3 } ∷ []) }

abbrev pub world_10 : World
world_10 = record world_9 { stacks = (((codes "s"), stack_10_s) ∷ []); place = 10 }

pub may_failed : MayFollow schemas world_10 [] failed
unfolding computing
may_failed = ((codes "s"), stack_10_s, Back, refl, refl, (refl, end_of_rollback schemas (codes "s") world_10 stack_10_s refl refl refl, refl, (refl, are_failed stack_10_s ((codes "A") ∷ []) refl refl)))

abbrev pub stack_11_s : StackState
stack_11_s = record stack_10_s { status = status.RollbackFailed; events = stack_10_s.events ++ (codes "event 11 - ROLLBACK_FAILED") ∷ []; entries = stack_10_s.entries ++ failed ∷ [] }

abbrev pub world_11 : World
world_11 = record world_10 { stacks = (((codes "s"), stack_11_s) ∷ []); place = 11 }

pub may_deleting : MayFollow schemas world_11 [] deleting
unfolding computing
may_deleting = (refl, refl, (refl, refl, refl))

abbrev pub stack_12_s : StackState
stack_12_s = record stack_11_s { status = status.DeleteInProgress; operation = 2; events = stack_11_s.events ++ (codes "event 12 - DELETE_IN_PROGRESS") ∷ []; entries = (deleting ∷ []); ledger = (record call_1 { fresh = false } ∷ []) }

abbrev pub world_12 : World
world_12 = record world_11 { stacks = (((codes "s"), stack_12_s) ∷ []); operation = 2; place = 12 }

pub may_broken_gone_once : MayFollow schemas world_12 (1 ∷ []) broken_gone_once
unfolding computing
may_broken_gone_once = ((codes "s"), stack_12_s, Gone, refl, refl, (refl, refl, (lit≤ tt, λ _. lit≤ tt)))

abbrev pub stack_13_s : StackState
stack_13_s = record stack_12_s { events = stack_12_s.events ++ (codes "event 13 A CREATE_FAILED Fault") ∷ []; entries = stack_12_s.entries ++ broken_gone_once ∷ []; ledger = (record call_1 { fresh = false; doubts = 1 } ∷ []) }

abbrev pub world_13 : World
world_13 = record world_12 { stacks = (((codes "s"), stack_13_s) ∷ []); place = 13 }

pub may_broken_gone_twice : MayFollow schemas world_13 (1 ∷ []) broken_gone_twice
unfolding computing
may_broken_gone_twice = ((codes "s"), stack_13_s, Gone, refl, refl, (refl, refl, (lit≤ tt, λ _. lit≤ tt)))

abbrev pub stack_14_s : StackState
stack_14_s = record stack_13_s { events = stack_13_s.events ++ (codes "event 14 A CREATE_FAILED Fault") ∷ []; entries = stack_13_s.entries ++ broken_gone_twice ∷ []; ledger = (record call_1 { fresh = false; doubts = 2 } ∷ []) }

abbrev pub world_14 : World
world_14 = record world_13 { stacks = (((codes "s"), stack_14_s) ∷ []); place = 14 }

pub may_broken_gone_thrice : MayFollow schemas world_14 (1 ∷ []) broken_gone_thrice
unfolding computing
may_broken_gone_thrice = ((codes "s"), stack_14_s, Gone, refl, refl, (refl, refl, (lit≤ tt, λ _. lit≤ tt)))

abbrev pub stack_15_s : StackState
stack_15_s = record stack_14_s { events = stack_14_s.events ++ (codes "event 15 A CREATE_FAILED Fault") ∷ []; entries = stack_14_s.entries ++ broken_gone_thrice ∷ []; ledger = (record call_1 { fresh = false; doubts = 3 } ∷ []) }

abbrev pub world_15 : World
world_15 = record world_14 { stacks = (((codes "s"), stack_15_s) ∷ []); place = 15 }

pub may_undeleted : MayFollow schemas world_15 [] undeleted
unfolding computing
may_undeleted = ((codes "s"), stack_15_s, Gone, refl, refl, (refl, end_of_failed_deletion schemas (codes "s") world_15 stack_15_s refl refl refl refl, refl, (refl, are_failed stack_15_s ((codes "A") ∷ []) refl refl)))

abbrev pub stack_16_s : StackState
stack_16_s = record stack_15_s { status = status.DeleteFailed; events = stack_15_s.events ++ (codes "event 16 - DELETE_FAILED") ∷ []; entries = stack_15_s.entries ++ undeleted ∷ [] }

abbrev pub world_16 : World
world_16 = record world_15 { stacks = (((codes "s"), stack_16_s) ∷ []); place = 16 }

pub may_deleting_without : MayFollow schemas world_16 [] deleting_without
unfolding computing
may_deleting_without = (refl, refl, (refl, refl, refl))

abbrev pub stack_17_s : StackState
stack_17_s = record stack_16_s { status = status.DeleteInProgress; operation = 3; events = stack_16_s.events ++ (codes "event 17 - DELETE_IN_PROGRESS") ∷ []; entries = (deleting_without ∷ []); ledger = (record call_1 { fresh = false } ∷ []) }

abbrev pub world_17 : World
world_17 = record world_16 { stacks = (((codes "s"), stack_17_s) ∷ []); operation = 3; place = 17 }

pub may_kept : MayFollow schemas world_17 [] kept
unfolding computing
may_kept = ((codes "s"), stack_17_s, Gone, refl, refl, inr (refl, refl, refl, refl))

abbrev pub stack_18_s : StackState
stack_18_s = record stack_17_s { leftovers = (record { path = (codes "A"); physical = (codes "-"); why = why.Retained } ∷ []); tokens = []; abandoned = (record { token = 1; path = (codes "A") } ∷ []); events = stack_17_s.events ++ (codes "event 18 A DELETE_SKIPPED") ∷ []; entries = stack_17_s.entries ++ kept ∷ [] }

abbrev pub world_18 : World
world_18 = record world_17 { stacks = (((codes "s"), stack_18_s) ∷ []); place = 18 }

pub may_deleted : MayFollow schemas world_18 [] deleted
unfolding computing
may_deleted = ((codes "s"), stack_18_s, Gone, refl, refl, (refl, end_of_deletion schemas (codes "s") world_18 stack_18_s refl refl refl, refl, refl))

abbrev pub stack_19_s : StackState
stack_19_s = record stack_18_s { status = status.DeleteComplete; events = stack_18_s.events ++ (codes "event 19 - DELETE_COMPLETE") ∷ []; entries = stack_18_s.entries ++ deleted ∷ [] }

abbrev pub world_19 : World
world_19 = record world_18 { stacks = (((codes "s"), stack_19_s) ∷ []); place = 19 }

pub until_11 : IsRun empty_world (take 11 run) world_11
unfolding computing
until_11 =
    joined (take 8 (drop 3 run)) until_3
    (step world_4 (1 ∷ []) may_broken_once refl
    (step world_5 (1 ∷ []) may_broken_twice refl
    (step world_6 (1 ∷ []) may_broken_thrice refl
    (step world_7 [] may_turned refl
    (step world_8 (1 ∷ []) may_broken_back_once refl
    (step world_9 (1 ∷ []) may_broken_back_twice refl
    (step world_10 (1 ∷ []) may_broken_back_thrice refl
    (step world_11 [] may_failed refl ended))))))))

pub until_16 : IsRun empty_world (take 16 run) world_16
unfolding computing
until_16 =
    joined (take 5 (drop 11 run)) until_11
    (step world_12 [] may_deleting refl
    (step world_13 (1 ∷ []) may_broken_gone_once refl
    (step world_14 (1 ∷ []) may_broken_gone_twice refl
    (step world_15 (1 ∷ []) may_broken_gone_thrice refl
    (step world_16 [] may_undeleted refl ended)))))

pub until_19 : IsRun empty_world run world_19
unfolding computing
until_19 =
    joined (drop 16 run) until_16
    (step world_17 [] may_deleting_without refl
    (step world_18 [] may_kept refl
    (step world_19 [] may_deleted refl ended)))

pub legal : Legal
legal = until_19.legal

pub report_0 : Fails
report_0 = ap (report_of (codes "s")) until_11.arrives

pub report_1 : Shows
report_1 = ap (report_of (codes "s")) until_19.arrives
