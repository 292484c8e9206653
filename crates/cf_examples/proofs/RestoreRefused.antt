-- An update is refused at its second resource, and so is the restore of the first: a continued rollback skips it.
use Rattle.std.proofs.Common.{◌≡◌, refl, [], ◌∷◌, ◌++◌, true, false, inl, inr, ap, lit≤, true≢false, Some, None}
use Rattle.std.specs.Prelude.{codes, take, drop}
use Rattle.cf_tree.specs.declared.request.Request.TheVariants as request
use Rattle.cf_tree.specs.declared.code.Code.TheVariants as code
use Rattle.cf_entry.specs.declared.turn.Reason.TheVariants as reason
use Rattle.cf_effect.specs.declared.call.Call.{Call}
use Rattle.cf_effect.specs.declared.call.Settled.TheVariants as settled
use Rattle.cf_effect.specs.declared.held.Held.{Held}
use Rattle.cf_effect.specs.World.{World, StackState, empty_world}
use Rattle.cf_effect.specs.Status.{Forward, Back, BackClean}
use Rattle.cf_plan.specs.Forward.{HasFailed, IsReady, IsDone, is_updated}
use Rattle.cf_tree.specs.Lists.{there}
use Rattle.cf_tree.specs.Lists.{here}
use Rattle.cf_plan.specs.Follow.{MayFollow, IsNamedLane}
use Rattle.cf_schema.specs.declared.changed.Difference.TheVariants.{Same, Update, Replace}
use Rattle.cf_examples.specs.Given.{schemas, file, note, file_props, note_props, file_attrs, lane_pair, report_of}
use Rattle.cf_examples.proofs.Computing.{computing}
use Rattle.cf_examples.proofs.Lists.{in_none, only, either}
use Rattle.cf_examples.proofs.Failing.{not_failed, not_done_other, same_at}
use Rattle.cf_examples.proofs.Ending.{end_of_back_clean, end_of_undoing, nothing_to_restore}
use Rattle.cf_tree.specs.declared.template.Deletion.TheVariants as deletion
use Rattle.cf_tree.specs.declared.template.Replace.TheVariants as replace
use Rattle.cf_entry.specs.declared.status.Status.TheVariants as status
use Rattle.cf_effect.specs.declared.held.HeldStatus.TheVariants as held
use Rattle.cf_examples.proofs.Refusing.{are_failed, IsRun, ended, step, joined}
use Rattle.cf_examples.proofs.Beginning.{opens_one}
use Rattle.cf_examples.specs.RestoreRefused.{changed, intended_other, refused, turned, intended_restore, unrestored, failed, opened_again, continued, cleaning, rolled_back, Legal, Fails, Shows, run}
use Rattle.cf_examples.proofs.FaultRepeated.{until_9, a_2, b_1, stack_9_s, world_9, call_3}

may_changed : MayFollow schemas world_9 (3 ∷ []) changed
unfolding computing
may_changed = ((codes "s"), stack_9_s, Forward, refl, refl, (refl, refl, lit≤ tt))

abbrev stack_10_s : StackState
stack_10_s = record stack_9_s { held = (a_2 ∷ b_1 ∷ []); tokens = []; events = stack_9_s.events ++ (codes "event 10 A UPDATE_COMPLETE") ∷ []; entries = stack_9_s.entries ++ changed ∷ []; ledger = (record call_3 { answer = Some settled.Success } ∷ []) }

abbrev world_10 : World
world_10 = record world_9 { stacks = (((codes "s"), stack_10_s) ∷ []); place = 10 }

sound_10 : ¬ HasFailed schemas (codes "s") world_10 stack_10_s
unfolding computing
sound_10 = not_failed schemas (codes "s") world_10 stack_10_s (record { calls = refl; paths = refl; inner = refl; flaws = refl; exports = refl })

ready_10_B : IsReady stack_10_s (codes "B")
unfolding computing
ready_10_B = (there here, λ q i. only (IsDone stack_10_s) (is_updated refl) q i)

may_intended_other : MayFollow schemas world_10 [] intended_other
unfolding computing
may_intended_other = ((codes "s"), stack_10_s, Forward, refl, refl, record { next = refl; free = refl; home = refl; fits = ((codes "2", refl), refl); no_repeat = refl; chosen = (sound_10, ready_10_B, not_done_other (codes "B") stack_10_s (same_at (codes "Value") (codes "u")) _ _ _ refl refl refl refl refl refl, (_, refl, refl, refl, ((λ e. let z : Update ≡ Replace = e in cc), inr (λ e. let z : Update ≡ Same = e in cc)), refl)) })

abbrev pub call_4 : Call
call_4 = record { number = 2; token = 4; lane = (codes "r1"); path = (codes "B"); request = (request.Update (codes "r1:2") (note_props (codes "b") (codes "w"))); status = status.UpdateInProgress; fresh = true; doubts = 0; answer = None }

abbrev stack_11_s : StackState
stack_11_s = record stack_10_s { tokens = (record { token = 4; path = (codes "B"); lane = (codes "r1"); request = (request.Update (codes "r1:2") (note_props (codes "b") (codes "w"))) } ∷ []); events = stack_10_s.events ++ (codes "event 11 B UPDATE_IN_PROGRESS") ∷ []; entries = stack_10_s.entries ++ intended_other ∷ []; ledger = (record call_3 { answer = Some settled.Success } ∷ call_4 ∷ []) }

abbrev world_11 : World
world_11 = record world_10 { stacks = (((codes "s"), stack_11_s) ∷ []); token = 4; place = 11 }

may_refused : MayFollow schemas world_11 (4 ∷ []) refused
unfolding computing
may_refused = ((codes "s"), stack_11_s, Forward, refl, refl, (refl, refl, (lit≤ tt, λ _. lit≤ tt)))

abbrev stack_12_s : StackState
stack_12_s = record stack_11_s { tokens = []; events = stack_11_s.events ++ (codes "event 12 B UPDATE_FAILED ServiceInternalError") ∷ []; entries = stack_11_s.entries ++ refused ∷ []; ledger = (record call_3 { answer = Some settled.Success } ∷ record call_4 { answer = Some (settled.Failed code.ServiceInternalError) } ∷ []) }

abbrev world_12 : World
world_12 = record world_11 { stacks = (((codes "s"), stack_12_s) ∷ []); place = 12 }

may_turned : MayFollow schemas world_12 [] turned
unfolding computing
may_turned = ((codes "s"), stack_12_s, Forward, refl, refl, (refl, (refl, (inl ((4, (reason.Code code.ServiceInternalError)), refl)), (4, refl, refl))))

abbrev stack_13_s : StackState
stack_13_s = record stack_12_s { status = status.UpdateRollbackInProgress; events = stack_12_s.events ++ (codes "event 13 - UPDATE_ROLLBACK_IN_PROGRESS") ∷ []; entries = stack_12_s.entries ++ turned ∷ []; ledger = (record call_3 { fresh = false; answer = Some settled.Success } ∷ record call_4 { fresh = false; answer = Some (settled.Failed code.ServiceInternalError) } ∷ []) }

abbrev world_13 : World
world_13 = record world_12 { stacks = (((codes "s"), stack_13_s) ∷ []); place = 13 }

may_intended_restore : MayFollow schemas world_13 [] intended_restore
unfolding computing
may_intended_restore = ((codes "s"), stack_13_s, Back, refl, refl, record { next = refl; free = refl; home = refl; fits = ((codes "1", refl), refl); no_repeat = refl; chosen = inr (refl, _, (here, refl, refl, refl), refl, refl, refl, refl) })

abbrev pub call_5 : Call
call_5 = record { number = 2; token = 5; lane = (codes "f1"); path = (codes "A"); request = (request.Update (codes "f1:1") (file_props (codes "a") (codes "x"))); status = status.UpdateRollbackInProgress; fresh = true; doubts = 0; answer = None }

abbrev stack_14_s : StackState
stack_14_s = record stack_13_s { tokens = (record { token = 5; path = (codes "A"); lane = (codes "f1"); request = (request.Update (codes "f1:1") (file_props (codes "a") (codes "x"))) } ∷ []); events = stack_13_s.events ++ (codes "event 14 A UPDATE_IN_PROGRESS") ∷ []; entries = stack_13_s.entries ++ intended_restore ∷ []; ledger = (record call_3 { fresh = false; answer = Some settled.Success } ∷ record call_4 { fresh = false; answer = Some (settled.Failed code.ServiceInternalError) } ∷ call_5 ∷ []) }

abbrev world_14 : World
world_14 = record world_13 { stacks = (((codes "s"), stack_14_s) ∷ []); token = 5; place = 14 }

may_unrestored : MayFollow schemas world_14 (5 ∷ []) unrestored
unfolding computing
may_unrestored = ((codes "s"), stack_14_s, Back, refl, refl, (refl, refl, (lit≤ tt, λ _. lit≤ tt)))

abbrev a_3 : Held
a_3 = record { path = (codes "A"); kind = file; physical = (codes "f1:1"); props = (file_props (codes "a") (codes "y")); attrs = (file_attrs (codes "f1:1") 1 (codes "a") (codes "y")); needs = []; deletion = deletion.Delete; replace = replace.Delete; status = held.UpdateFailed; unsure = false; superseded = false }

abbrev stack_15_s : StackState
stack_15_s = record stack_14_s { held = (a_3 ∷ b_1 ∷ []); tokens = []; events = stack_14_s.events ++ (codes "event 15 A UPDATE_FAILED AccessDenied") ∷ []; entries = stack_14_s.entries ++ unrestored ∷ []; ledger = (record call_3 { fresh = false; answer = Some settled.Success } ∷ record call_4 { fresh = false; answer = Some (settled.Failed code.ServiceInternalError) } ∷ record call_5 { answer = Some (settled.Failed code.AccessDenied) } ∷ []) }

abbrev world_15 : World
world_15 = record world_14 { stacks = (((codes "s"), stack_15_s) ∷ []); place = 15 }

may_failed : MayFollow schemas world_15 [] failed
unfolding computing
may_failed = ((codes "s"), stack_15_s, Back, refl, refl, (refl, end_of_undoing schemas (codes "s") world_15 stack_15_s refl refl (λ e f. true≢false f) refl, tt, (refl, are_failed stack_15_s ((codes "A") ∷ (codes "B") ∷ []) refl refl)))

abbrev stack_16_s : StackState
stack_16_s = record stack_15_s { status = status.UpdateRollbackFailed; events = stack_15_s.events ++ (codes "event 16 - UPDATE_ROLLBACK_FAILED") ∷ []; entries = stack_15_s.entries ++ failed ∷ [] }

abbrev world_16 : World
world_16 = record world_15 { stacks = (((codes "s"), stack_16_s) ∷ []); place = 16 }

may_opened_again : MayFollow schemas world_16 [] opened_again
unfolding computing
may_opened_again = (refl, refl, opens_one _ world_16 (codes "s") stack_16_s refl ((λ h i. either (λ (g : Held). IsNamedLane (lane_pair (codes "f1") file ∷ lane_pair (codes "r1") note ∷ []) g.physical g.kind) (lane_pair (codes "f1") file, here, (codes "1", refl), refl) (lane_pair (codes "r1") note, there here, (codes "2", refl), refl) h i), (λ p i. absurd (in_none i))))

abbrev stack_17_s : StackState
stack_17_s = record stack_16_s { entries = stack_16_s.entries ++ opened_again ∷ []; ledger = (record call_3 { fresh = false; answer = Some settled.Success } ∷ record call_4 { fresh = false; answer = Some (settled.Failed code.ServiceInternalError) } ∷ record call_5 { fresh = false; answer = Some (settled.Failed code.AccessDenied) } ∷ []) }

abbrev world_17 : World
world_17 = record world_16 { stacks = (((codes "s"), stack_17_s) ∷ []); epoch = 2; place = 17 }

may_continued : MayFollow schemas world_17 [] continued
unfolding computing
may_continued = (refl, refl, (refl, refl, refl))

abbrev a_4 : Held
a_4 = record { path = (codes "A"); kind = file; physical = (codes "f1:1"); props = (file_props (codes "a") (codes "x")); attrs = (file_attrs (codes "f1:1") 1 (codes "a") (codes "x")); needs = []; deletion = deletion.Delete; replace = replace.Delete; status = held.UpdateComplete; unsure = true; superseded = false }

abbrev stack_18_s : StackState
stack_18_s = record stack_17_s { status = status.UpdateRollbackInProgress; operation = 3; held = (a_4 ∷ b_1 ∷ []); events = stack_17_s.events ++ (codes "event 18 - UPDATE_ROLLBACK_IN_PROGRESS") ∷ []; entries = stack_17_s.entries ++ continued ∷ [] }

abbrev world_18 : World
world_18 = record world_17 { stacks = (((codes "s"), stack_18_s) ∷ []); operation = 3; place = 18 }

may_cleaning : MayFollow schemas world_18 [] cleaning
unfolding computing
may_cleaning = ((codes "s"), stack_18_s, Back, refl, refl, (refl, (refl, refl, nothing_to_restore stack_18_s refl, refl)))

abbrev stack_19_s : StackState
stack_19_s = record stack_18_s { status = status.UpdateRollbackCompleteCleanupInProgress; events = stack_18_s.events ++ (codes "event 19 - UPDATE_ROLLBACK_COMPLETE_CLEANUP_IN_PROGRESS") ∷ []; entries = stack_18_s.entries ++ cleaning ∷ [] }

abbrev world_19 : World
world_19 = record world_18 { stacks = (((codes "s"), stack_19_s) ∷ []); place = 19 }

may_rolled_back : MayFollow schemas world_19 [] rolled_back
unfolding computing
may_rolled_back = ((codes "s"), stack_19_s, BackClean, refl, refl, (refl, end_of_back_clean schemas (codes "s") world_19 stack_19_s refl refl refl, tt, refl))

abbrev stack_20_s : StackState
stack_20_s = record stack_19_s { status = status.UpdateRollbackComplete; events = stack_19_s.events ++ (codes "event 20 - UPDATE_ROLLBACK_COMPLETE") ∷ []; entries = stack_19_s.entries ++ rolled_back ∷ [] }

abbrev world_20 : World
world_20 = record world_19 { stacks = (((codes "s"), stack_20_s) ∷ []); place = 20 }

pub until_16 : IsRun empty_world (take 16 run) world_16
unfolding computing
until_16 =
    joined (take 7 (drop 9 run)) until_9
    (step world_10 (3 ∷ []) may_changed refl
    (step world_11 [] may_intended_other refl
    (step world_12 (4 ∷ []) may_refused refl
    (step world_13 [] may_turned refl
    (step world_14 [] may_intended_restore refl
    (step world_15 (5 ∷ []) may_unrestored refl
    (step world_16 [] may_failed refl ended)))))))

pub until_20 : IsRun empty_world run world_20
unfolding computing
until_20 =
    joined (drop 16 run) until_16
    (step world_17 [] may_opened_again refl
    (step world_18 [] may_continued refl
    (step world_19 [] may_cleaning refl
    (step world_20 [] may_rolled_back refl ended))))

pub legal : Legal
legal = until_20.legal

pub report_0 : Fails
report_0 = ap (report_of (codes "s")) until_16.arrives

pub report_1 : Shows
report_1 = ap (report_of (codes "s")) until_20.arrives
