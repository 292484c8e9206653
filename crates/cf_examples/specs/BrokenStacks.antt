-- Wrong ends, worlds, journals and courses, over the stack and the lane of the first resource: no status promises the ends, and of
-- the others each breaks one part of what always holds (this project's own).
use Rattle.std.specs.Prelude.{ℕ, true, List, [], ◌∷◌, ◌++◌, Some, None, codes}
use Rattle.cf_tree.specs.declared.source.Source.{Source}
use Rattle.cf_export.specs.declared.Export.{Export}
use Rattle.cf_export.specs.declared.Output.{Output}
use Rattle.cf_entry.specs.declared.entry.Entry.{Entry}
use Rattle.cf_entry.specs.declared.entry.Reply.{Reply}
use Rattle.cf_entry.specs.declared.status.Status.{Status}
use Rattle.cf_entry.specs.declared.status.Status.TheVariants.{CreateInProgress, CreateComplete, RollbackInProgress, RollbackComplete, RollbackFailed, UpdateInProgress, UpdateCompleteCleanupInProgress, UpdateComplete, UpdateRollbackInProgress, UpdateRollbackCompleteCleanupInProgress, UpdateRollbackComplete, DeleteInProgress, DeleteComplete, DeleteFailed, ReviewInProgress}
use Rattle.cf_effect.specs.declared.call.Call.{Call}
use Rattle.cf_effect.specs.declared.held.Held.{Held}
use Rattle.cf_effect.specs.declared.held.Pending.{Pending}
use Rattle.cf_effect.specs.World.{StackState, World, empty_world}
use Rattle.cf_plan.specs.Lanes.{Lane, AreLanes, AreSchemas}
use Rattle.cf_plan.specs.Promise.{AreKept, Promised}
use Rattle.cf_examples.specs.Ends.{call}
use Rattle.cf_examples.specs.FirstLife.{end, files_with, made, lease_answered}
use Rattle.cf_examples.specs.FirstResource.{app, web, world, done, intended, source, begun}
use Rattle.cf_examples.specs.Given.{file, file_attrs, file_props, note, source_of, schemas}
use Rattle.cf_handler.specs.Shipped.{file_schema}
use Rattle.cf_stacks.specs.Apart.{AreApart}
use Rattle.cf_plan.specs.Follow.{IsLegal}
use Rattle.cf_plan.specs.Life.{IsGoing, Life}
use Rattle.cf_core.specs.Fits.{Fits}
use Rattle.cf_core.specs.LifeAgrees.{LanesOnce}
use Rattle.cf_core.specs.OneStack.{AreOwn}
use Rattle.cf_core.specs.SoundLife.{AreWritten, HaveOrigins}
use Rattle.cf_tree.specs.Datum.{text}
use Rattle.cf_tree.specs.declared.request.Request.{Request}
use Rattle.cf_core.specs.Books.{IsBooked}
use Rattle.cf_core.specs.Course.{IsOnCourse}
use Rattle.cf_core.specs.Hiding.{AreDescribed}
use Rattle.cf_core.specs.InFlight.{IsOpenCall}
use Rattle.cf_core.specs.OnCourse.{IsSupported}
use Rattle.cf_tree.specs.declared.code.Code.TheVariants as code
use Rattle.cf_tree.specs.declared.request.Request.TheVariants as request
use Rattle.cf_handler.specs.declared.settled.Settlement.TheVariants as settlement
use Rattle.cf_entry.specs.declared.entry.Entry.TheVariants as entry
use Rattle.cf_entry.specs.declared.entry.Reply.TheVariants as reply
use Rattle.cf_examples.specs.FirstResource as first
use Rattle.cf_entry.specs.declared.entry.Begun.TheVariants as begin
use Rattle.cf_entry.specs.declared.turn.Why.TheVariants as why
use Rattle.cf_effect.specs.declared.call.Settled.TheVariants as settled

-- the stack does not keep the promise of this status
abbrev pub Breaks : Status → StackState → List Lane → Type 0
Breaks at s lanes = ¬ Promised at (codes "app") world s lanes

-- the lane as the first resource leaves it, and after one more call
abbrev pub lanes : List Lane
lanes = files_with (made ∷ []) [] 1 ∷ []

abbrev pub lanes_changed : List Lane
lanes_changed =
    files_with
    (made ∷ call 2 (request.Update (codes "f1:1") (file_props (codes "web.txt") (codes "bye")))
    (settlement.Success (codes "f1:1") (file_attrs (codes "f1:1") 3 (codes "web.txt") (codes "bye"))) ∷ []) [] 1 ∷ []

abbrev pub lanes_emptied : List Lane
lanes_emptied = files_with (made ∷ call 2 (request.Delete (codes "f1:1")) (settlement.Success (codes "f1:1") []) ∷ []) [] 1 ∷ []

abbrev pub open_deletion : Pending
open_deletion = record { token = 2; path = codes "Web"; lane = codes "f1"; request = request.Delete (codes "f1:1") }

-- another resource than the template's one, and one that it took the place of
abbrev pub other : Held
other = record web { path = codes "Other" }

abbrev pub replaced : Held
replaced = record web { physical = codes "f1:0"; superseded = true }

-- its template with an output that is exported
abbrev pub url : Output
url = record { name = codes "Url"; value = codes "u"; export = Some (codes "url") }

abbrev pub exporting : Source
exporting =
    source_of (codes "app") (codes "one")
    (codes "{\"Resources\":{\"Web\":{\"Type\":\"Local::Files::File\",\"Properties\":{\"Path\":\"web.txt\",\"Content\":\"hello\"}}},"
    ++ codes "\"Outputs\":{\"Url\":{\"Value\":\"u\",\"Export\":{\"Name\":\"url\"}}}}")

abbrev pub exported : World
exported = record world { exports = record { name = codes "url"; value = codes "u"; stack = codes "app" } ∷ [] }

abbrev pub rolled_back : List Held → List Held → StackState
rolled_back before held = record app { before = before; held = held }

-- Blamed: a deletion of the file was answered so, at a count that stood and stands so, and these paths are blamed for it.
abbrev pub deletion : Call
deletion = record first.call { token = 2; request = request.Delete (codes "f1:1"); status = DeleteInProgress; answer = None }

abbrev pub failing : ℕ → Reply → ℕ → ℕ → List (List ℕ) → StackState
failing number answer before after failed = record app {
  entries = entry.Outcome number 2 answer before after ∷ entry.Done 1 DeleteFailed failed ∷ [];
  ledger = deletion ∷ [];
}

abbrev pub refused : Reply
refused = reply.Failed code.AccessDenied

-- the life of a journal that says that the stack is complete, though nothing was called
abbrev pub wrong : Life
wrong = record end { entries = first.opened ∷ first.begun ∷ first.done ∷ []; lanes = files_with [] [] 1 ∷ [] }

-- CREATE_COMPLETE and UPDATE_COMPLETE
pub record NotComplete : Type 0 where
  pub complete_though_a_call_is_open : Breaks CreateComplete (record app { tokens = open_deletion ∷ [] }) lanes
  pub complete_though_something_is_made : Breaks CreateComplete (record app { made = web ∷ [] }) lanes
  pub complete_without_a_template : Breaks CreateComplete (record app { source = None }) lanes
  pub complete_though_nothing_is_held : Breaks CreateComplete (record app { held = [] }) lanes
  pub complete_though_more_is_held : Breaks CreateComplete (record app { held = web ∷ other ∷ [] }) lanes
  pub complete_though_a_replaced_one_is_left : Breaks CreateComplete (record app { held = web ∷ replaced ∷ [] }) lanes
  pub complete_though_outputs_differ : Breaks CreateComplete (record app { outputs = url ∷ [] }) lanes
  pub complete_though_gone : Breaks UpdateComplete app lanes_emptied
  pub complete_though_live_with_other_properties : Breaks UpdateComplete app lanes_changed
  pub complete_with_an_export_missing : Breaks CreateComplete (record app { source = Some exporting; outputs = url ∷ [] }) lanes
  pub complete_with_an_export_of_no_template : ¬ Promised CreateComplete (codes "app") exported app lanes
  pub complete_though_nothing_was_called : ¬ AreKept wrong

-- UPDATE_ROLLBACK_COMPLETE and ROLLBACK_COMPLETE; DELETE_COMPLETE and REVIEW_IN_PROGRESS
pub record NotRestored : Type 0 where
  pub restored_under_another_id : Breaks UpdateRollbackComplete (rolled_back (web ∷ []) (record web { physical = codes "f1:2" } ∷ [])) lanes
  pub restored_at_another_path : Breaks UpdateRollbackComplete (rolled_back (web ∷ []) (other ∷ [])) lanes
  pub restored_as_another_type : Breaks UpdateRollbackComplete (rolled_back (record web { kind = note } ∷ []) (web ∷ [])) lanes
  pub restored_with_less : Breaks UpdateRollbackComplete (rolled_back (web ∷ []) []) lanes
  pub restored_with_more : Breaks UpdateRollbackComplete (rolled_back [] (web ∷ [])) lanes
  pub restored_with_other_properties_though_sure : Breaks UpdateRollbackComplete (rolled_back (web ∷ []) (web ∷ [])) lanes_changed
  pub restored_though_gone : Breaks UpdateRollbackComplete (rolled_back (web ∷ []) (web ∷ [])) lanes_emptied
  pub restored_though_something_is_made : Breaks UpdateRollbackComplete (record (rolled_back [] []) { made = web ∷ [] }) lanes
  pub creation_rolled_back_though_held : Breaks RollbackComplete (rolled_back [] (web ∷ [])) lanes
  pub creation_rolled_back_to_something : Breaks RollbackComplete (rolled_back (web ∷ []) (web ∷ [])) lanes
  pub deleted_though_held : Breaks DeleteComplete app lanes_emptied
  pub deleted_though_made : Breaks DeleteComplete (record app { held = []; made = web ∷ [] }) lanes_emptied
  pub reviewed_though_held : Breaks ReviewInProgress app lanes

-- DELETE_FAILED, as each failed status
pub record NotBlamed : Type 0 where
  pub blames_nothing : Breaks DeleteFailed (failing 1 refused 0 1 []) lanes
  pub blames_another_path : Breaks DeleteFailed (failing 1 refused 0 1 (codes "Web" ∷ codes "Other" ∷ [])) lanes
  pub blames_a_success : Breaks DeleteFailed (failing 1 (reply.Success (codes "f1:1") []) 0 1 (codes "Web" ∷ [])) lanes
  pub blames_though_the_count_stayed : Breaks DeleteFailed (failing 1 refused 1 1 (codes "Web" ∷ [])) lanes
  pub blames_for_an_earlier_operation : Breaks DeleteFailed (failing 0 refused 0 1 (codes "Web" ∷ [])) lanes
  pub blames_for_a_call_of_nobody : Breaks DeleteFailed (record (failing 1 refused 0 1 (codes "Web" ∷ [])) { ledger = [] }) lanes

-- a world of these stacks, of one stack, and of two
abbrev pub world_of : List (List ℕ × StackState) → World
world_of ss = record world { stacks = ss }

abbrev pub alone : StackState → List (List ℕ × StackState)
alone s = (codes "app", s) ∷ []

abbrev pub beside : StackState → StackState → List (List ℕ × StackState)
beside s t = (codes "app", s) ∷ (codes "web", t) ∷ []

-- the stack with one thing left over, and with open calls
abbrev pub left_over : StackState
left_over = record app { held = []; leftovers = record { path = codes "Web"; physical = codes "f1:1"; why = why.Failed } ∷ [] }

abbrev pub calling : List Pending → StackState
calling ps = record app { tokens = ps }

abbrev pub intent : List ℕ → Request → Entry
intent path r = entry.Intent 1 1 (codes "f1") path r

-- all stacks together; one stack by its calls and its resources; the journal, its world, its lanes and its leases
pub record NoSuchWorlds : Type 0 where
  pub names_out_of_order : ¬ AreApart (world_of ((codes "web", app) ∷ (codes "app", record app { operation = 0 }) ∷ []))
  pub operation_above_the_last : ¬ AreApart (record world { operation = 0 })
  pub one_operation_on_two_stacks : ¬ AreApart (world_of (beside app app))
  pub one_id_twice_on_a_stack : ¬ AreOwn (alone (record app { held = web ∷ record web { path = codes "Other" } ∷ [] }))
  pub held_and_left_over : ¬ AreOwn (alone (record left_over { held = web ∷ [] }))
  pub one_token_open_twice : ¬ AreOwn (alone (calling (open_deletion ∷ open_deletion ∷ [])))
  pub one_id_on_two_stacks : ¬ AreOwn (beside app app)
  pub held_here_and_left_over_there : ¬ AreOwn (beside app left_over)
  pub one_token_open_on_two_stacks : ¬ AreOwn (beside (calling (open_deletion ∷ [])) (record (calling (open_deletion ∷ [])) { held = [] }))
  pub one_lane_of_two_types : ¬ LanesOnce (record world { lanes = (codes "f1", file) ∷ (codes "f1", note) ∷ [] })
  pub two_calls_at_one_path : ¬ Fits world (calling (open_deletion ∷ record open_deletion { token = 3 } ∷ []))
  pub deletes_what_it_does_not_hold : ¬ Fits world (record (calling (open_deletion ∷ [])) { held = [] })
  pub deletes_at_another_path : ¬ Fits world (calling (record open_deletion { path = codes "Other" } ∷ []))
  pub open_without_a_row : ¬ Fits world (calling (open_deletion ∷ []))
  pub open_though_answered : ¬ Fits world (record (calling (open_deletion ∷ []))
      { ledger = record deletion { answer = first.call.answer } ∷ [] })
  pub one_token_in_two_rows : ¬ Fits world (record app { ledger = first.call ∷ first.call ∷ [] })
  pub row_above_the_last_token : ¬ Fits (record world { token = 0 }) app
  pub row_of_a_later_operation : ¬ Fits world (record app { operation = 0 })
  pub lane_left_out : ¬ Fits (record world { lanes = [] }) app
  pub row_that_was_never_written : ¬ AreWritten [] world
  pub row_that_says_otherwise : ¬ AreWritten (intent (codes "Other") first.call.request ∷ []) world
  pub held_though_never_made : ¬ HaveOrigins [] world lanes
  pub deletes_what_was_never_made : ¬ HaveOrigins (intent (codes "Web") (request.Delete (codes "f1:1")) ∷ []) empty_world lanes
  pub calls_a_lane_that_is_not_there : ¬ HaveOrigins (intended ∷ []) empty_world []
  pub leased_for_a_stack_that_rests : ¬ IsGoing world lease_answered
  pub ended_before_it_began : ¬ IsLegal schemas empty_world (done ∷ [])
  pub begun_under_a_number_left_out : ¬ IsLegal schemas empty_world (entry.Begin 2 (codes "app") (begin.Create source) ∷ [])
  pub two_lanes_of_one_name : ¬ AreLanes (files_with [] [] 0 ∷ files_with [] [] 1 ∷ [])
  pub colon_in_a_lane_name : ¬ AreLanes (record (files_with [] [] 0) { name = codes "f:1" } ∷ [])
  pub lane_without_a_schema : ¬ AreSchemas [] lanes
  pub two_schemas_of_one_type : ¬ AreSchemas (file_schema ∷ file_schema ∷ []) lanes

-- the stack is not on its course in this status
abbrev pub Strays : Status → StackState → Type 0
Strays at s = ¬ IsOnCourse schemas (codes "app") world s at

-- a creation and an update that go forward, each with nothing called yet; the file with another content, and what asks for it
abbrev pub creation : StackState
creation = record app { status = CreateInProgress; held = []; source = None; entries = begun ∷ []; ledger = [] }

abbrev pub update : StackState
update = record app { status = UpdateInProgress; before = web ∷ []; entries = []; ledger = [] }

abbrev pub changed : Held
changed = record web { props = file_props (codes "web.txt") (codes "bye") }

-- another one at its path, and a second deletion of the one that it took the place of
abbrev pub another : Held
another = record web { physical = codes "f1:2" }

abbrev pub second : Call
second = record deletion { request = request.Delete (codes "f1:0") }

-- an update of the file that went well, at this path
abbrev pub updating : List ℕ → Call
updating path = record first.call { path = path; request = request.Update (codes "f1:1") changed.props; status = UpdateInProgress }

-- one of the rollback, which nobody answered
abbrev pub restoring : Call
restoring = record (updating (codes "Web")) { status = UpdateRollbackInProgress; answer = None }

abbrev pub skips : Entry
skips = entry.Begin 2 (codes "app") (begin.Continue (codes "Web" ∷ []))

abbrev pub retains : Entry
retains = entry.Begin 1 (codes "app") (begin.Delete (codes "Web" ∷ []))

abbrev pub asking : Request → Pending
asking r = record open_deletion { request = r }

-- forward
pub record NotAdvancing : Type 0 where
  pub without_a_source : Strays CreateInProgress (record creation { going = None })
  pub over_something : Strays CreateInProgress (record creation { before = web ∷ [] })
  pub made_with_other_properties : Strays CreateInProgress (record creation { made = changed ∷ [] })
  pub made_though_unsure : Strays CreateInProgress (record creation { made = record web { unsure = true } ∷ [] })
  pub made_twice_at_a_path : Strays CreateInProgress (record creation { made = web ∷ another ∷ [] })
  pub asks_for_other_properties : Strays CreateInProgress (record creation { tokens = asking (request.Create file changed.props) ∷ [] })
  pub asks_for_what_is_done : Strays CreateInProgress (record creation { made = web ∷ []; tokens = asking first.call.request ∷ [] })
  pub deletes_before_the_cleanup : Strays UpdateInProgress (record update { tokens = open_deletion ∷ [] })
  pub call_of_another_operation : Strays CreateInProgress (record creation { ledger = record first.call { number = 0 } ∷ [] })
  pub call_of_another_phase : Strays CreateInProgress (record creation { ledger = record first.call { status = RollbackInProgress } ∷ [] })
  pub holds_no_more : Strays UpdateInProgress (record update { held = [] })
  pub two_before_at_a_path : Strays UpdateInProgress (record update { before = web ∷ another ∷ []; held = web ∷ another ∷ [] })
  pub updated_to_other_properties : Strays UpdateInProgress (record update { held = changed ∷ []; ledger = updating (codes "Web") ∷ [] })
  pub updated_at_another_path : Strays UpdateInProgress (record update { ledger = updating (codes "Other") ∷ [] })
  pub changed_though_not_updated : Strays UpdateInProgress (record update { held = changed ∷ [] })

-- back, in the cleanups, and at rest
pub record NotBack : Type 0 where
  pub lost_in_the_rollback : Strays UpdateRollbackInProgress (record update { held = [] })
  pub not_given_back : Strays UpdateRollbackInProgress (record update { held = changed ∷ [] })
  pub sure_though_skipped : Strays UpdateRollbackInProgress (record update { entries = skips ∷ [] })
  pub deletes_in_the_rollback : Strays UpdateRollbackInProgress (record update { tokens = open_deletion ∷ [] })
  pub restores_other_properties : Strays UpdateRollbackInProgress (record update { tokens = asking (updating []).request ∷ [] })
  pub held_in_the_rollback_of_a_creation : Strays RollbackInProgress (record creation { held = web ∷ [] })
  pub cleans_up_before_it_is_whole : Strays UpdateCompleteCleanupInProgress (record update { held = [] })
  pub cleans_up_what_is_wanted : Strays UpdateCompleteCleanupInProgress (record update { tokens = open_deletion ∷ [] })
  pub deletes_twice_at_once :
      Strays UpdateCompleteCleanupInProgress (record update { held = web ∷ replaced ∷ []; ledger = second ∷ second ∷ [] })
  pub cleans_up_what_was_before : Strays UpdateRollbackCompleteCleanupInProgress (record update { tokens = open_deletion ∷ [] })
  pub whole_with_more : Strays CreateComplete (record app { held = web ∷ other ∷ [] })
  pub whole_though_unsure : Strays CreateComplete (record app { held = record web { unsure = true } ∷ [] })
  pub rests_though_a_call_is_open : Strays CreateComplete (record app { tokens = open_deletion ∷ [] })
  pub rests_with_two_at_a_path : Strays UpdateRollbackComplete (record app { before = web ∷ web ∷ []; held = web ∷ another ∷ [] })

-- the stack where no answer was written down, and a resource that needs something at this path
abbrev pub answerless : Call → StackState
answerless c = record app { entries = []; ledger = c ∷ [] }

abbrev pub needing : Held → List ℕ → Held
needing r path = record r { needs = path ∷ [] }

abbrev pub refused_deletion : Call
refused_deletion = record deletion { answer = Some (settled.Failed code.AccessDenied) }

-- a call that is out, of the deletion of the stack
abbrev pub deleting : List Pending → List Entry → Call → StackState
deleting tokens entries row = record (calling tokens) { status = DeleteInProgress; entries = entries; ledger = row ∷ [] }

pub record NotOpen : Type 0 where
  pub given_up : ¬ IsOpenCall (deleting [] [] deletion) 2
  pub of_an_operation_that_ended : ¬ IsOpenCall (calling (open_deletion ∷ [])) 2
  pub in_doubt_three_times : ¬ IsOpenCall (deleting (open_deletion ∷ []) [] (record deletion { doubts = 3 })) 2
  pub at_a_path_that_is_retained : ¬ IsOpenCall (deleting (open_deletion ∷ []) (retains ∷ []) deletion) 2

-- the books of one stack, and what its operation rests on besides
pub record NotBooked : Type 0 where
  pub answer_without_a_row : ¬ IsBooked (record (failing 1 refused 0 1 []) { ledger = [] })
  pub failure_without_a_fault : ¬ IsBooked (failing 1 refused 1 1 [])
  pub refused_without_an_answer : ¬ IsBooked (answerless (record first.call { answer = Some (settled.Failed code.AccessDenied) }))
  pub doubted_without_an_answer : ¬ IsBooked (answerless (record first.call { doubts = 1; answer = None }))
  pub deleted_and_forgotten : ¬ IsBooked (record app { ledger = deletion ∷ [] })
  pub open_though_it_went_well : ¬ IsBooked (record (failing 1 (reply.Success (codes "f1:1") []) 0 1 []) { tokens = open_deletion ∷ [] })
  pub given_back_and_forgotten : ¬ IsBooked (record update { status = UpdateRollbackInProgress; ledger = restoring ∷ [] })
  pub entry_of_a_later_operation : ¬ IsBooked (record app { entries = entry.Done 2 CreateComplete [] ∷ [] })
  pub ended_though_in_progress : ¬ IsBooked (record creation { entries = entry.Done 1 RollbackFailed (codes "Web" ∷ []) ∷ [] })
  pub deletes_what_it_retains :
      ¬ IsBooked (record (calling (open_deletion ∷ [])) { status = DeleteInProgress; entries = retains ∷ []; ledger = deletion ∷ [] })
  pub needs_more_than_its_template : ¬ IsBooked (record creation { made = needing web (codes "Other") ∷ [] })
  pub needs_in_a_circle : ¬ IsBooked (record app { held = needing web (codes "Other") ∷ needing other (codes "Web") ∷ [] })
  pub out_of_order : ¬ IsSupported (record app { held = record web { props = (codes "b", text []) ∷ (codes "a", text []) ∷ [] } ∷ [] })
  pub goes_forward_though_continued : ¬ IsSupported (record update { entries = skips ∷ [] })
  pub deleted_before_the_cleanup : ¬ IsSupported (record update { ledger = deletion ∷ [] })
  pub refused_three_times_and_open :
      ¬ IsSupported (record app { tokens = open_deletion ∷ []; ledger = refused_deletion ∷ refused_deletion ∷ refused_deletion ∷ [] })
  pub created_twice : ¬ IsSupported (record app { ledger = first.call ∷ first.call ∷ [] })
  pub deleted_four_times : ¬ IsSupported (record app { ledger = deletion ∷ deletion ∷ deletion ∷ deletion ∷ [] })
  pub lane_of_no_schema : ¬ AreDescribed [] world
