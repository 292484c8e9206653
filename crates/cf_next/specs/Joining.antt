-- The list of the steps that are due, as it is made of what the operation has to offer (this project's own).
use Rattle.std.specs.Prelude.{◌≡◌, ◌↔◌, ℕ, ◌+◌, ◌-◌, ◌==◌, Bool, true, false, ◌&&◌, not, List, [], ◌∷◌, ◌++◌, length, Option, Some, None, fold, if◌then◌else◌}
use Rattle.std.specs.List.{list_any, slice_get}
use Rattle.std.specs.Option.{option_map_or}
use Rattle.std.specs.Str.{bytes_eq}
use Rattle.cf_tree.specs.Lists.{insert_by}
use Rattle.cf_tree.specs.Datum.{members_of}
use Rattle.cf_tree.specs.Same.{same_members}
use Rattle.cf_tree.specs.declared.request.Request.{Request}
use Rattle.cf_tree.specs.declared.request.Request.TheVariants as request
use Rattle.cf_schema.specs.declared.described.Schema.{Schema}
use Rattle.cf_entry.specs.declared.status.Status.{Status}
use Rattle.cf_entry.specs.declared.status.Status.TheVariants as status
use Rattle.cf_entry.specs.declared.turn.Why.{Why}
use Rattle.cf_entry.specs.declared.turn.Why.TheVariants as why
use Rattle.cf_effect.specs.declared.held.Pending.{Pending}
use Rattle.cf_effect.specs.World.{StackState, World}
use Rattle.cf_effect.specs.Status.{Stage, stage_of}
use Rattle.cf_plan.specs.Homes.{is_of_lane}
use Rattle.cf_plan.specs.Follow.{AreFailed, EndsAs, IsAtEnd, MayTurn, is_lane_leased}
use Rattle.cf_next.specs.declared.offer.Keeping.{Keeping}
use Rattle.cf_next.specs.declared.offer.Offer.{Offer}
use Rattle.cf_plan.specs.Start.{Start}
use Rattle.cf_next.specs.declared.step.Next.{Next}
use Rattle.cf_next.specs.declared.step.Next.TheVariants as next
use Rattle.cf_next.specs.Due.{is_step_before}
use Rattle.cf_next.specs.Offer.{IsOffer}

-- two calls, or two resources that are kept, are the same
abbrev pub is_same_request : Request → Request → Bool
is_same_request (request.Create k props) (request.Create k' props') =
    bytes_eq k k' && same_members (members_of props) (members_of props')
is_same_request (request.Update id props) (request.Update id' props') =
    bytes_eq id id' && same_members (members_of props) (members_of props')
is_same_request (request.Delete id) (request.Delete id') = bytes_eq id id'
is_same_request _ _ = false

abbrev pub is_same_why : Why → Why → Bool
is_same_why why.Retained why.Retained = true
is_same_why why.Failed why.Failed = true
is_same_why why.Doubt why.Doubt = true
is_same_why _ _ = false

abbrev pub is_same_call : List ℕ → List ℕ → ℕ → Request → List ℕ → List ℕ → ℕ → Request → Bool
is_same_call path lane token r path' lane' token' r' =
    bytes_eq path path' && (bytes_eq lane lane' && (token == token' && is_same_request r r'))

abbrev pub is_same_step : Next → Next → Bool
is_same_step (next.Step path lane token r true) (next.Step path' lane' token' r' true) =
    is_same_call path lane token r path' lane' token' r'
is_same_step (next.Step path lane token r false) (next.Step path' lane' token' r' false) =
    is_same_call path lane token r path' lane' token' r'
is_same_step (next.Keep path id w) (next.Keep path' id' w') = bytes_eq path path' && (bytes_eq id id' && is_same_why w w')
is_same_step _ _ = false

-- a step joins those that are found already, after each that it does not precede; where it is among them it is left out
abbrev pub stays : Next → Next → Bool
stays a b = not (is_step_before b a)

abbrev pub with_step : List Next → Next → List Next
with_step dues n = insert_by stays dues n

-- it goes behind all of them where it comes after the last one, as it mostly does
abbrev pub goes_last : List Next → Next → Bool
goes_last dues n = option_map_or (λ m. is_step_before m n) (slice_get dues (length dues - 1)) true

abbrev pub with_due : List Next → Next → List Next
with_due dues n = if goes_last dues n then dues ++ n ∷ [] else if list_any (is_same_step n) dues then dues else with_step dues n

-- each repeat
abbrev pub with_repeat : List Next → Pending → List Next
with_repeat dues p = with_due dues (next.Step p.path p.lane p.token p.request true)

-- a lane of the last opening fits a request: by its type, or as the one that the id names; and it is at home
abbrev pub fits : Request → List ℕ × List ℕ → Bool
fits (request.Create k props) l = bytes_eq k l.1
fits (request.Update physical props) l = is_of_lane l.0 physical
fits (request.Delete physical) l = is_of_lane l.0 physical

abbrev pub is_home_for : List ℕ → World → Request → List ℕ × List ℕ → Bool
is_home_for out x r l = fits r l && not (is_lane_leased out x l.0)

-- a call on the resource of a physical id, on each lane at home that fits
abbrev pub with_call_on : List ℕ → World → List ℕ → Request → List Next → List ℕ × List ℕ → List Next
with_call_on out x path r dues l = if is_home_for out x r l then with_due dues (next.Step path l.0 (x.token + 1) r false) else dues

abbrev pub with_calls_on : List ℕ → World → List ℕ → Request → List Next → List Next
with_calls_on out x path r dues = fold (with_call_on out x path r) dues x.lanes

-- a create, where a lane at home fits
abbrev pub with_create : List ℕ → World → List ℕ → Request → List Next → List Next
with_create out x path r dues =
    if list_any (is_home_for out x r) x.lanes then with_due dues (next.Step path [] (x.token + 1) r false) else dues

abbrev pub with_new_call : List ℕ → World → List ℕ → List Next → Request → List Next
with_new_call out x path dues (request.Create k props) = with_create out x path (request.Create k props) dues
with_new_call out x path dues (request.Update physical props) = with_calls_on out x path (request.Update physical props) dues
with_new_call out x path dues (request.Delete physical) = with_calls_on out x path (request.Delete physical) dues

abbrev pub with_offered : List ℕ → World → List Next → Start → List Next
with_offered out x dues a = with_new_call out x a.path dues a.request

-- each resource to keep
abbrev pub with_keeping : List Next → Keeping → List Next
with_keeping dues k = with_due dues (next.Keep k.path k.physical k.why)

-- all of an offer but a phase
abbrev pub begun_by : List ℕ → World → Offer → List Next
begun_by out x o = fold with_keeping (fold (with_offered out x) (fold with_repeat [] o.repeats) o.starts) o.keepings

-- a lane of the last opening fits one of the calls
abbrev pub has_lane : World → Start → Bool
has_lane x a = list_any (fits a.request) x.lanes

-- an offer over no leases has nothing that a lane of the last opening could take
pub record HasNothing (x : World) (o : Offer) : Type 0 where
  pub repeats : o.repeats ≡ []
  pub starts : list_any (has_lane x) o.starts ≡ false
  pub keepings : o.keepings ≡ []
  pub turn : o.turn ≡ None

-- the status in which an operation ends that is at its end, where all is made, and where nothing is left
abbrev pub end_status : Status → Bool → Bool → Option Status
end_status status.CreateInProgress is_made is_cleared = if is_made then Some status.CreateComplete else None
end_status status.RollbackInProgress is_made is_cleared = if is_cleared then Some status.RollbackComplete else Some status.RollbackFailed
end_status status.DeleteInProgress is_made is_cleared = if is_cleared then Some status.DeleteComplete else Some status.DeleteFailed
end_status status.UpdateCompleteCleanupInProgress is_made is_cleared = Some status.UpdateComplete
end_status status.UpdateRollbackCompleteCleanupInProgress is_made is_cleared = Some status.UpdateRollbackComplete
end_status status.UpdateRollbackInProgress is_made is_cleared = Some status.UpdateRollbackFailed
end_status _ is_made is_cleared = None

-- a phase that may begin, or the end, once no call of the stack is out
abbrev pub IsLast : List Schema → List ℕ → World → StackState → Stage → Next → Type 0
IsLast schemas name x s stage (next.Turn p c) = MayTurn schemas name x s p c
IsLast schemas name x s stage (next.End state failed) =
    IsAtEnd schemas name x s stage × EndsAs schemas name x s s.status state × AreFailed s state failed
IsLast schemas name x s stage _ = ⊥

abbrev pub with_last : List Next → Option Next → List Next
with_last dues None = dues
with_last dues (Some n) = with_step dues n

-- this is the step that comes last, told by what the operation has to offer over no leases
abbrev pub IsLastBy : World → StackState → Offer → Option Next → Type 0
IsLastBy x s o last =
    (schemas : List Schema) (name : List ℕ) (stage : Stage) → stage_of s.status ≡ Some stage → IsOffer schemas name x [] s stage o
    → (n : Next) → IsLast schemas name x s stage n ↔ (last ≡ Some n)
