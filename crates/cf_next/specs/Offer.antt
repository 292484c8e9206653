-- What an operation has to offer in a stage: the steps that may begin, but for lanes that are out (this project's own; what each
-- phase does is that of the User Guide: stack updates, rollbacks and deletions).
use Rattle.std.specs.Prelude.{◌≡◌, ◌↔◌, ℕ, true, false, List, Option, Some, IsTrue}
use Rattle.cf_tree.specs.declared.request.Request.{Request}
use Rattle.cf_schema.specs.declared.described.Schema.{Schema}
use Rattle.cf_entry.specs.declared.turn.Cause.{Cause}
use Rattle.cf_entry.specs.declared.turn.Phase.{Phase}
use Rattle.cf_entry.specs.declared.turn.Why.{Why}
use Rattle.cf_effect.specs.declared.held.Pending.{Pending}
use Rattle.cf_effect.specs.World.{StackState, World}
use Rattle.cf_effect.specs.Status.{Stage, Forward, stage_of}
use Rattle.cf_plan.specs.Forward.{AllDone, HasFailed}
use Rattle.cf_tree.specs.Lists.{In}
use Rattle.cf_plan.specs.Follow.{IntendsIn, MayKeep, MayRepeat, MayTurn, is_free, waits_for_repeats}
use Rattle.cf_next.specs.declared.offer.Keeping.{Keeping}
use Rattle.cf_next.specs.declared.offer.Offer.{Offer}
use Rattle.cf_plan.specs.Start.{Start}
use Rattle.cf_next.specs.declared.offer.Turn.{Turn}

-- these are just the open calls that may be made again
abbrev pub AreRepeats : List Schema → List ℕ → World → List ℕ → StackState → Stage → List Pending → Type 0
AreRepeats schemas name x out s stage repeats = (p : Pending) → MayRepeat schemas name x out s stage p ↔ In p repeats

-- a call of this request may begin at the path, on whichever lane: no call is open there, none has to be made again first, and the stage
-- intends it
abbrev pub MayBeginAt : List Schema → List ℕ → World → List ℕ → StackState → Stage → List ℕ → Request → Type 0
MayBeginAt schemas name x out s stage path r =
    (is_free path s ≡ true) × (waits_for_repeats stage out s ≡ false) × IntendsIn stage schemas name x s path r

-- these are just the calls that may begin
abbrev pub AreStarts : List Schema → List ℕ → World → List ℕ → StackState → Stage → List Start → Type 0
AreStarts schemas name x out s stage starts =
    (path : List ℕ) (r : Request) → MayBeginAt schemas name x out s stage path r ↔ In (record { path = path; request = r }) starts

-- these are just the resources that may be kept
abbrev pub AreKeepings : Stage → List ℕ → StackState → List Keeping → Type 0
AreKeepings stage out s keepings =
    (path physical : List ℕ) (w : Why) → MayKeep stage out s path physical w
    ↔ In (record { path = path; physical = physical; why = w }) keepings

-- this is just the phase that may begin, with its cause
abbrev pub IsTurn : List Schema → List ℕ → World → StackState → Option Turn → Type 0
IsTurn schemas name x s turn =
    (p : Phase) (c : Option Cause) → MayTurn schemas name x s p c ↔ (turn ≡ Some (record { phase = p; cause = c }))

-- the forward phase has made all that its template says
abbrev pub IsMade : List Schema → List ℕ → World → StackState → Type 0
IsMade schemas name x s = ¬ HasFailed schemas name x s × AllDone s

-- All that the operation of a stack may begin in its stage, while the leases of some tokens are out.
pub record IsOffer (schemas : List Schema) (name : List ℕ) (x : World) (out : List ℕ) (s : StackState) (stage : Stage) (o : Offer) : Type 0
  where
    pub repeats : AreRepeats schemas name x out s stage o.repeats
    pub starts : AreStarts schemas name x out s stage o.starts
    pub keepings : AreKeepings stage out s o.keepings
    pub turn : IsTurn schemas name x s o.turn
    pub made : stage ≡ Forward → IsTrue o.is_made ↔ IsMade schemas name x s

-- this is all of the operation in progress of a stack, whichever its stage
abbrev pub IsOfferOn : List Schema → List ℕ → World → List ℕ → StackState → Offer → Type 0
IsOfferOn schemas name x out s o = (stage : Stage) → stage_of s.status ≡ Some stage → IsOffer schemas name x out s stage o
