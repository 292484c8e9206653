-- Wrong accounts, leases and lanes: each breaks one part of the agreement of journal and lanes (this project's own).
use Rattle.std.specs.Prelude.{ℕ, ◌==◌, true, false, List, [], ◌∷◌, Option, Some, None, codes, if◌then◌else◌}
use Rattle.std.specs.Str.{bytes_eq}
use Rattle.cf_tree.specs.declared.request.Request.{Request}
use Rattle.cf_handler.specs.declared.settled.Settlement.{Settlement}
use Rattle.cf_handler.specs.Fence.{FencedLane}
use Rattle.cf_agree.specs.Account.{Account, Open, Thing, called_of}
use Rattle.cf_agree.specs.Account.Role.{Resource, Stranger}
use Rattle.cf_agree.specs.Lanes.{Lanes, no_lane}
use Rattle.cf_agree.specs.Moves.{AreLeased, CallOut}
use Rattle.cf_agree.specs.Ties.{Books, Ties}
use Rattle.cf_examples.specs.Given.{file, file_attrs, file_props, note}
use Rattle.cf_handler.specs.declared.settled.Settled.{Settled}
use Rattle.cf_handler.specs.Lane.{Live}
use Rattle.cf_examples.specs.Ends.{call}
use Rattle.cf_tree.specs.declared.request.Request.TheVariants as request
use Rattle.cf_handler.specs.declared.settled.Settlement.TheVariants as settlement
use Rattle.cf_tree.specs.declared.code.Code.TheVariants as code

-- an account in which nothing was called yet, in the first opening, which names the lane of files; the last call is the first one
abbrev pub quiet : Account
quiet = record {
  role = λ i. Stranger;
  open_ = λ t. None;
  lost = λ t. false;
  call = λ t. None;
  told = λ t. None;
  resting = λ n. false;
  named = λ n. if bytes_eq n (codes "f1") then Some file else None;
  last = 1;
  epoch = 1;
}

-- a file of the stack `s`, and the calls that make, update and delete it
abbrev pub thing : Thing
thing = record {
  stack = codes "s";
  path = codes "A";
  kind = file;
  props = file_props (codes "a") (codes "x");
  attrs = file_attrs (codes "f1:1") 1 (codes "a") (codes "x");
  sure = true;
}

abbrev pub creating : Request
creating = request.Create file (file_props (codes "a") (codes "x"))

abbrev pub updating : Request
updating = request.Update (codes "f1:1") (file_props (codes "a") (codes "y"))

abbrev pub deleting : Request
deleting = request.Delete (codes "f1:1")

abbrev pub open_for : Request → Open
open_for r = record { stack = codes "s"; path = codes "A"; lane = codes "f1"; request = r }

abbrev pub made_it : Settlement
made_it = settlement.Success (codes "f1:1") (file_attrs (codes "f1:1") 1 (codes "a") (codes "x"))

-- this call alone is open, under the first token; it was written down
abbrev pub only_first : {A : Type 0} → A → ℕ → Option A
only_first a t = if t == 1 then Some a else None

abbrev pub busy_by : Open → Account
busy_by o = record quiet { open_ = only_first o; call = only_first (called_of o) }

abbrev pub busy : Request → Account
busy r = busy_by (open_for r)

-- this file alone is on a list
abbrev pub holding : Account → Account
holding a = record a { role = λ i. if bytes_eq i (codes "f1:1") then Resource thing else Stranger }

-- a lease of the first call, and the lane of files alone
abbrev pub lease_for : Request → CallOut
lease_for r = record { token = 1; lane = codes "f1"; request = r; reply = None }

abbrev pub lanes_of : FencedLane → Lanes
lanes_of l =
    record { kind = λ n. if bytes_eq n (codes "f1") then Some file else None; lane = λ n. if bytes_eq n (codes "f1") then l else no_lane }

abbrev pub CalledWrongly : Account → List CallOut → Type 0
CalledWrongly a ls = ¬ AreLeased a (lanes_of no_lane) ls

-- no books hold such calls and resources, and no call is out like this
pub record NoSuchCalls : Type 0 where
  pub open_though_never_written : ¬ Books (record (busy creating) { call = λ t. None })
  pub open_under_another_request : ¬ Books (record (busy creating) { call = only_first (called_of (open_for deleting)) })
  pub written_above_the_last_token : ¬ Books (record (busy creating) { last = 0 })
  pub open_though_answered : ¬ Books (record (busy creating) { told = only_first made_it })
  pub answered_though_never_written : ¬ Books (record quiet { told = only_first made_it })
  pub given_up_though_open : ¬ Books (record (busy creating) { lost = λ t. t == 1 })
  pub updates_what_nobody_has : ¬ Books (busy updating)
  pub updates_at_another_path : ¬ Books (holding (busy_by (record (open_for updating) { path = codes "B" })))
  pub deletes_on_another_lane : ¬ Books (holding (busy_by (record (open_for deleting) { lane = codes "f2" })))
  pub two_calls_at_one_path : ¬ Books (record (busy creating) { open_ = λ t. Some (open_for creating) })
  pub creates_on_a_lane_of_another_type : ¬ Books (record (busy creating) { named = λ n. Some note })
  pub held_on_a_lane_left_out : ¬ Books (record (holding quiet) { named = λ n. None })
  pub held_under_an_id_of_no_lane : ¬ Books (record quiet { role = λ i. if bytes_eq i (codes "f1") then Resource thing else Stranger })
  pub two_calls_under_one_token : CalledWrongly (busy creating) (lease_for creating ∷ lease_for deleting ∷ [])
  pub called_with_another_request : CalledWrongly (busy creating) (lease_for deleting ∷ [])
  pub called_though_answered_and_gone : CalledWrongly (record (busy creating) { open_ = λ t. None }) (lease_for creating ∷ [])
  pub called_for_a_stack_at_rest : CalledWrongly (record (busy creating) { resting = λ n. true }) (lease_for creating ∷ [])
  pub answer_that_the_lane_never_gave : CalledWrongly (busy creating) (record (lease_for creating) { reply = Some made_it } ∷ [])

-- a file that is live, and lanes on which it was live before, on which calls were settled, or on which one may act later
abbrev pub live_as : List ℕ → List ℕ → List ℕ → Live
live_as id k content =
    record { id = id; kind = k; props = file_props (codes "a") content; attrs = file_attrs (codes "f1:1") 1 (codes "a") content }

abbrev pub live : Live
live = live_as (codes "f1:1") file (codes "x")

abbrev pub denied : Settlement
denied = settlement.Failed code.AccessDenied

abbrev pub over : List Live → List Settled → FencedLane
over base settled = record { state = record { base = base; settled = settled }; flying = []; fence = 1 }

abbrev pub flies : ℕ → ℕ → Request → FencedLane
flies epoch token r = record (over [] []) { flying = record { epoch = epoch; token = token; request = r } ∷ [] }

abbrev pub updates_to : ℕ → List ℕ → Settled
updates_to token content =
    call token (request.Update (codes "f1:1") (file_props (codes "a") content))
    (settlement.Success (codes "f1:1") (file_attrs (codes "f1:1") 1 (codes "a") content))

-- the account and the lane of files do not agree
abbrev pub Disagree : Account → FencedLane → Type 0
Disagree a l = ¬ Ties a (lanes_of l)

-- the first call was written down, and is open no more
abbrev pub closed : Request → Account
closed r = record quiet { call = only_first (called_of (open_for r)) }

-- no lane was called like this, and nothing is live on it like this
pub record NoSuchLanes : Type 0 where
  pub named_though_not_there : ¬ Ties quiet (record (lanes_of no_lane) { kind = λ n. None })
  pub lane_name_with_a_colon : ¬ Ties quiet (record (lanes_of no_lane) { kind = λ n. Some file })
  pub two_answers_under_one_token : Disagree (busy creating) (over [] (call 1 creating made_it ∷ call 1 creating denied ∷ []))
  pub two_live_under_one_id : Disagree (holding quiet) (over (live ∷ live_as (codes "f1:1") file (codes "y") ∷ []) [])
  pub live_under_an_id_of_another_lane : Disagree quiet (over (live_as (codes "f2:1") file (codes "x") ∷ []) [])
  pub made_under_an_id_of_another_lane : Disagree (busy creating) (over [] (call 1 creating (settlement.Success (codes "f2:1") []) ∷ []))
  pub made_twice : Disagree (busy creating) (over [] (call 1 creating made_it ∷ call 2 creating made_it ∷ []))
  pub acted_on_another_request : Disagree (busy creating) (over [] (call 1 deleting made_it ∷ []))
  pub acted_under_a_token_of_nobody : Disagree quiet (over [] (call 2 deleting made_it ∷ []))
  pub flies_with_another_request : Disagree (busy creating) (flies 1 1 deleting)
  pub told_though_never_answered : Disagree (record (closed creating) { told = only_first made_it }) (over [] [])
  pub told_otherwise : Disagree (record (closed creating) { told = only_first made_it }) (over [] (call 1 creating denied ∷ []))
  pub flies_unaccounted : Disagree (closed creating) (flies 1 1 creating)
  pub flies_from_a_later_opening : Disagree (busy creating) (flies 2 1 creating)
  pub flies_from_this_opening_at_rest : Disagree (record (busy creating) { resting = λ n. true }) (flies 1 1 creating)
  pub fence_ahead_of_the_journal : Disagree quiet (record (over [] []) { fence = 2 })
  pub held_though_never_made : Disagree (holding quiet) (over [] [])
  pub not_found_though_live : Disagree (holding (busy deleting)) (over (live ∷ []) (call 1 deleting (settlement.Failed code.NotFound) ∷ []))
  pub held_though_deleted :
      Disagree (holding (closed deleting)) (over (live ∷ []) (call 1 deleting (settlement.Success (codes "f1:1") []) ∷ []))
  pub live_as_another_type : Disagree (holding quiet) (over (live_as (codes "f1:1") note (codes "x") ∷ []) [])
  pub live_with_other_properties : Disagree (holding quiet) (over (live_as (codes "f1:1") file (codes "y") ∷ []) [])
  pub changed_behind_the_open_update :
      Disagree (holding (busy updating)) (over (live ∷ []) (updates_to 1 (codes "y") ∷ updates_to 2 (codes "z") ∷ []))
  pub made_under_a_held_id : Disagree (holding (busy creating)) (over [] (call 1 creating made_it ∷ []))
  pub live_though_listed_nowhere : Disagree quiet (over (live ∷ []) [])
