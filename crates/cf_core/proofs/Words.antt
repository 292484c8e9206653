-- The names of definitions, of this crate and of those below, that several proofs use: each proof takes them from here.
pub use Rattle.cf_agree.specs.Account.{Account, Called, Open, Role, Thing, called_of, creates, dropped, intended, made_thing, rested, role_after, set_thing}
pub use Rattle.cf_agree.specs.{Account.Role.Resource, Account.Role.Stranger, Base.Dict, Base.Made, Base.lane_of, Base.named_by}
pub use Rattle.cf_agree.specs.{Lanes.IsThere, Lanes.Lanes, Lanes.Replaced, Lanes.settled_under, Lanes.no_lane, Laws.Agrees}
pub use Rattle.cf_agree.specs.Moves.{AreLeased, IsOut, MayDrop, RoleMove, doubted, leaves, of_create, of_doubted, of_leftover, returned}
pub use Rattle.cf_agree.specs.Ties.{AreTied, Books, IsMade, IsSettledCall, Ties}
pub use Rattle.cf_handler.specs.Answered.{settlement_in}
pub use Rattle.cf_handler.specs.Fence.{CallMove, FencedLane, Flying, LateMove, Left, late_by, left_by, live_at, raised_to, settled_late}
pub use Rattle.cf_handler.specs.{Lane.LaneState, Lane.Live, Lane.live_of, Lane.settlement_of, Move.IsOfLane, Move.LaneMove, Move.SettlesBy}
pub use Rattle.cf_handler.specs.{Name.is_lane_name, declared.settled.Settled.Settled, declared.settled.Settlement.Settlement}
pub use Rattle.cf_handler.specs.Move.{IsKindFor}
pub use Rattle.cf_change.specs.Changes.{RowsFound, HeldAt, changes_of, found_of, held_seen, is_empty, is_never, is_other_kind, is_property, policy_details, property_details, resource_held, row_for, row_list, seen_held}
pub use Rattle.cf_change.specs.Hidden.{hides_attrs, hides_id, left_seen, row_hides_attrs, row_hides_id}
pub use Rattle.cf_core.specs.AccountOf.{StacksByName, account_of, call_in, called_as, for_good, has_leftover, held_in, is_at_rest, lanes_of, lost_in, lost_on, lane_types, open_as, open_in, open_on, resting_in, role_found, role_in, role_on, role_or, thing_of, told_among, told_in}
pub use Rattle.cf_core.specs.Advancing.{AreSameThings, AreSingle, IsAdvancing, IsAsBefore, IsAsSaid, AsksForNow, IsHidden, IsSameThing, changes_begun, held_before_as, more, none}
pub use Rattle.cf_core.specs.Ahead.{AdvancingBegins, AdvancingGoesOn, AdvancingStays, CourseIsFree, StaysForward, HasBegunForward, IsFreeToBegin}
pub use Rattle.cf_core.specs.Back.{DeletesMade, IsBack, IsBackAll, IsForwardCall, IsGoingBack, IsOpenInBack, IsUpdateBack, SkipsNone}
pub use Rattle.cf_core.specs.Blaming.{FailedAreBlamed, HoldsIfWhole, StayBooked}
pub use Rattle.cf_core.specs.Course.{Course, IsCleaning, IsCleaningBack, IsOnCourse, IsOwnCall, IsTried, IsUnmaking}
pub use Rattle.cf_core.specs.Fits.{BecomesBy, Fits, IsNew, IsNewTo, IsRowOf, IsWritten, at_opening, other, own}
pub use Rattle.cf_core.specs.Fitting.{AllFit, AreSteady, EachIsWritten, FitsKept, IsGivenUpIn, IsOfItsLane, IsSteady}
pub use Rattle.cf_core.specs.Moving.{IsMove, ends, stays, turns}
pub use Rattle.cf_core.specs.OneStack.{AreOwn, AreUnshared, IsLocal, IsOnce, OneIsPut, OneStack, OwnKept, Stood, new}
pub use Rattle.cf_core.specs.Whole.{DeletesSuperseded, HoldsWhole, IsHeldAtRest}
pub use Rattle.cf_core.specs.Written.{IsTo, WrittenIsTo, begins, opened, step}
pub use Rattle.cf_core.specs.Books.{AreBooked, AreRanked, AreRestoring, GivesBack, HasFailedIn, IsAnsweredIn, IsBooked, IsGivenUp, IsOpen, answers_of, is_bad_at, is_restoring}
pub use Rattle.cf_core.specs.Bridges.{DoneMoves, DoubtMoves, IntentMoves, KeptMay, KeptMoves, OpeningMoves, OutcomeMoves, PhaseMoves, account_with, kept_role, names_id}
pub use Rattle.cf_core.specs.Completing.{BackIsRestored, CleanupKeepsWhole, ClearedIsRestored, CourseKeepsPromise, CreationIsWhole, ExportsSame, HeldIsFound, IsAsItWas, IsNoBegin, RestKeepsWhole, ShapeIsKept, StaysAtRest, UpdateEndsAtRest, UpdateIsWhole, WholeIsComplete}
pub use Rattle.cf_core.specs.GoesOn.{AsksOfNow, CleanupGoesOn, DeletionGoesOn, ForwardGoesOn, HasKinds, HasNext, IsRefusedAhead, IsRefusedIn, IsTold, OperationGoesOn, RollbackGoesOn, StepsIn, ToldBegins, ToldStays}
pub use Rattle.cf_core.specs.Hiding.{AreDescribed, BeginsSeen, DescribedIsKept, InOrder, IntendedIsHidden, IsOrdered, NoneIsOrdered, OrderStays, RestBeginsSeen, RestIsSeen, RestStaysSeen, SaidIsInOrder, ShapeStaysAdvancing, StartIsDescribed, props_asked}
pub use Rattle.cf_core.specs.LifeAgrees.{AgreesIn, HeldIsLive, IsOrderly, IsSound, LanesKeep, LanesOnce, OpenedKeeps, RepeatKeeps, SettleKeeps, good_reply, lease_of}
pub use Rattle.cf_core.specs.More.{CompletesBegun, CompletesBegunStays, LeasesOnce, LeasesOnceStays, LeavesApart, LeavesApartStays, LeavesOnce, LeavesOnceStays, ListsGivenUp, ListsGivenUpStays, SettlesOnce, SettlesOnceStays, StartIsOnce, has_completed, has_known_id}
pub use Rattle.cf_core.specs.Returning.{BackHolds, BackStaysAtRest, BackStaysInCleanup, FailedRollbacksStay, IsAfterBack, IsAfterBackClean, IsAfterFailed, IsAfterReturn, UpdatesGoBack, UpdatesSkipNone, UpdatesTurnBack}
pub use Rattle.cf_core.specs.SoundLife.{Appends, AreSound, AreWritten, EventKeeps, EventWrites, HaveOrigins, IsMadeBy, IsSoundLife, StartIsSoundLife, called_by, set, settled}
pub use Rattle.cf_core.specs.Still.{AreAhead, HeldLeft, IsFurther, IsMoved, IsOpenAhead, IsStill, LeftAt, by_create, by_update, closed, moved, unmoved}
pub use Rattle.cf_core.specs.Tidying.{BackTidyingBegins, HasNoDeletion, IsCleanup, IsTidied, IsTidying, NothingDeleted, TidyingBegins, TidyingEnds, TidyingStays, cleaned_up, deletes_nothing, of_rollback, of_update}
pub use Rattle.cf_desired.specs.Met.{bind_flaw_in, flaws_of}
pub use Rattle.cf_desired.specs.Plan.{at_path, fault_at, member_at, nesting_at, plan_by, plan_of, props_at, wanted_of}
pub use Rattle.cf_desired.specs.{Seeing.Seen, Seeing.SeenAt, ShapeStays.KeepsRest}
pub use Rattle.cf_desired.specs.Stays.{AgreeAt, SeesMore, attrs_seen, id_seen, is_of_evaluation, is_settled, is_shown}
pub use Rattle.cf_desired.specs.Valued.{nestings_in, resources_along, resources_in, resources_inside, valued_in}
pub use Rattle.cf_desired.specs.Whole.{Right, all_of, is_wanted_at, known_of, known_props_from, right_of, wanted_at, whole_in}
pub use Rattle.cf_desired.specs.Work.{Body, Inside, Member, Nesting, Shape, barred, resource}
pub use Rattle.cf_desired.specs.{declared.flaw.Flaw.Flaw, declared.wanted.Evaluated.Evaluated, declared.wanted.Plan.Plan}
pub use Rattle.cf_desired.specs.declared.wanted.Wanted.{Wanted}
pub use Rattle.cf_desired.specs.Shape.{Entering, Laying, body_at, body_bound, body_decided, body_in_order, progress_after, entering_below, given_root, inside_of, laid, laid_within, nested_before, nesting_of, root_of, shape_of, step_before, unnamed_at, work_along}
pub use Rattle.cf_effect.specs.Begin.{as_before, beginning, calls_kept, continues, given_up, lost_create, seen_as_held, seen_in, skipped_creates, skipped_in, source_for}
pub use Rattle.cf_effect.specs.Calls.{anew, answered_call, call_under, deletions_of, doubts_of, is_call, is_open_call, is_refusal, is_restore, is_success, new_call, one_more, own_calls, refusals_of, succeeded, was_refused, was_restored, was_updated, where_call}
pub use Rattle.cf_effect.specs.{Effect.entries_with, Effect.heard, Effect.on_stack, Event.lines_of}
pub use Rattle.cf_effect.specs.World.{StackState, World, empty_world, is_going, known_stack, no_stack, stack_at, stack_of_operation}
pub use Rattle.cf_effect.specs.{declared.call.Call.Call, declared.held.GivenUp.GivenUp, declared.held.Held.Held}
pub use Rattle.cf_effect.specs.{declared.held.HeldStatus.HeldStatus, declared.held.Leftover.Leftover, declared.held.Pending.Pending}
pub use Rattle.cf_effect.specs.End.{completing, ended_effect, ending, is_physical_of, is_right_at, left_in_doubt, marked, seen_now, settled_in, stopping, turned_effect, turning, whole_now}
pub use Rattle.cf_effect.specs.Fold.{changed_by, effect_at, effect_of, fold_of, is_intent, is_opening, opening_heard, stack_for, world_after}
pub use Rattle.cf_effect.specs.Operation.{Response, after_last, doubts_in, is_doubt, is_of, is_phase, is_turn_or_opening, named_paths, now_of, own_of, replies_in, reply_in, was_skipped}
pub use Rattle.cf_effect.specs.Reply.{answered, changing, closing, deleting, intending, keeping, keeping_known, keeping_unknown, made_of, making, replied, replying, status_made, still_open, terms_at, terms_of, updating, wanted_in, with_status}
pub use Rattle.cf_effect.specs.Status.{Back, BackClean, Clean, Forward, Gone, Stage, begun, goes_back, goes_forward, is_in_progress, reviewed, stage_of, turned}
pub use Rattle.cf_effect.specs.Words.{change_first, current_at, deletes, has_physical, has_token, id_named, is_at, is_create, is_create_at, is_created, is_current_at, is_on, is_update, pending_of, resource_at, resources_of, unknown_id, updates, where_physical, without, without_token}
pub use Rattle.cf_entry.specs.{declared.entry.Begun.Begun, declared.entry.Entry.Entry, declared.entry.Reply.Reply}
pub use Rattle.cf_entry.specs.{declared.status.Status.Status, declared.turn.Cause.Cause, declared.turn.Phase.Phase}
pub use Rattle.cf_entry.specs.{declared.turn.Reason.Reason, declared.turn.Why.Why}
pub use Rattle.cf_eval.specs.Knows.{StaysKnown}
pub use Rattle.cf_export.specs.declared.Export.{Export}
pub use Rattle.cf_plan.specs.Accept.{IsAccepted, creates_from, held_as}
pub use Rattle.cf_plan.specs.Between.{is_at_one, is_held_at_one, is_needed_by_create, is_needed_by_held, is_needed_by_made, needs_at}
pub use Rattle.cf_plan.specs.{Done.AreDone, Ends.IsBlamed, Ends.IsBlamedFor, Ends.IsCleared, Ends.IsLive, Ends.right_at}
pub use Rattle.cf_plan.specs.{Lanes.AreLanes, Lanes.AreSchemas, Lanes.Lane, Lanes.lane_at, Promise.AreKept, Promise.Promised, Run.IsOwn}
pub use Rattle.cf_plan.specs.Follow.{AreFailed, BeginsBy, EndsAs, FitsLane, HasLanes, IntendsDeletion, IntendsForward, IntendsIn, IntendsRestore, IsAtEnd, IsCounted, IsLaneFor, IsLegal, IsNamedLane, IsToRestore, MayBegin, MayDelete, MayFollow, MayFollowIn, MayFollowOn, MayIntend, MayKeep, MayRepeat, MayStep, MayTurn, WantsNew, WantsUpdate, begins_from, calls_in_flight, cleaned_in, continues_from, deletes_from, failed_in, failed_of, has_path, has_refused_restore, has_restore, is_bad_last, is_bad_outcome, is_cleared, is_done_entry, is_failed_path, is_failed_status, is_free, is_in_flight, is_lane_leased, is_lane_of, is_not_needed, is_not_updatable, is_opened_since, is_repeated, is_retained_or_excepted, is_to_retain, is_tried_less, is_untried, keeps, last_at, may_repeat, none_in_flight, restores_of, settled_by, updates_from, waits_for_repeats, was_not_updatable}
pub use Rattle.cf_plan.specs.Forward.{AllDone, Bad, Finding, HasFailed, IsDone, IsReady, Known, Later, difference_to, evaluated_at, finding, held_before, is_conditional, is_excused, is_made, is_refused_call, is_right, is_updated, plan_in, plan_now, refusing, wanted_paths, was_answered_at, was_updated_at}
pub use Rattle.cf_plan.specs.Life.{Act, Answered, AreHandedIn, Begin, BrokenWith, BrokenWithout, CallEnd, ChangeSet, Close, Crash, End, Event, Grant, IsBegin, IsChangeSet, IsGoing, IsGranted, IsLife, IsOutcomeOf, IsStart, Late, Lease, Life, Happens, MayLeave, Opened, Park, Raise, Repeat, Settle, Whole, lane_acted, appended, changed, first_again, granted, lease_at, lease_for, life_after, named_lane, repeated, replied_to, settled_reply, tokens_out, with_lease, world_of}
pub use Rattle.cf_rests.specs.Views.{inner_at, inner_from, wanted_from}
pub use Rattle.cf_schema.specs.{Change.any_differs, Change.difference_of, Kinds.found, declared.changed.Difference.Difference}
pub use Rattle.cf_schema.specs.declared.changed.Difference.TheVariants.{MayReplace, Replace, Same, Update}
pub use Rattle.cf_schema.specs.declared.described.Schema.{Schema}
pub use Rattle.cf_stacks.specs.Apart.{AreApart, HasNextNumber}
pub use Rattle.cf_tree.specs.{Datum.Data, Keys.ascends, Keys.put, Keys.value_at, Lists.In, Lists.here, Lists.is_among, Lists.there}
pub use Rattle.cf_tree.specs.{Named.all_differ, declared.code.Code.Code, declared.request.Answer.Answer, declared.request.Request.Request}
pub use Rattle.cf_tree.specs.{declared.row.Detail.Detail, declared.row.Row.Row, declared.source.Source.Source}
pub use Rattle.std.specs.{Cmp.first_so, Cmp.second_so, List.list_all, List.list_any}
pub use Rattle.std.specs.{Option.option_map, Option.option_map_or, Option.option_or, Option.unwrap_or, Str.bytes_eq}
pub use Rattle.std.specs.Prelude.{IfOk, IsTrue, MatchBool, codes, cond, flat_map, is_some, length, nat_le, nat_lt, option_and_then, ⊤, ◌==◌, ◌↔◌}
