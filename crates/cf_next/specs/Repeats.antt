-- Open calls that may be made again, as code looks for them: the same in each stage, but for the paths that it retains (this
-- project's own).
use Rattle.std.specs.Prelude.{◌≡◌, ℕ, Bool, ◌&&◌, not, List, [], if◌then◌else◌}
use Rattle.cf_tree.specs.Lists.{is_among}
use Rattle.cf_entry.specs.declared.entry.Entry.{Entry}
use Rattle.cf_schema.specs.declared.described.Schema.{Schema}
use Rattle.cf_effect.specs.declared.held.Pending.{Pending}
use Rattle.cf_effect.specs.Operation.{is_of, named_in, named_paths}
use Rattle.cf_effect.specs.Status.{Stage, Back, Forward, Gone}
use Rattle.cf_effect.specs.World.{StackState, World}
use Rattle.cf_plan.specs.Follow.{may_repeat}
use Rattle.cf_plan.specs.Forward.{HasFailed}
use Rattle.cf_next.specs.Offer.{AreRepeats}

-- the paths that a stage is to retain: those that a deletion of the stack names
abbrev pub retained_in : Stage → StackState → List (List ℕ)
retained_in Gone s = named_paths s
retained_in _ s = []

-- what an entry names, where it is of the operation of this number
abbrev pub own_named_in : ℕ → Entry → List (List ℕ)
own_named_in number e = if is_of number e then named_in e else []

-- a call that may be made again where these paths are retained, whatever has failed
abbrev pub can_repeat : List (List ℕ) → List ℕ → StackState → Pending → Bool
can_repeat retained out s p = may_repeat Back out s p && not (is_among p.path retained)

-- only the forward phase fails
abbrev pub HasNotFailed : List Schema → List ℕ → World → StackState → Stage → Type 0
HasNotFailed schemas name x s Forward = ¬ HasFailed schemas name x s
HasNotFailed schemas name x s stage = Unit {0}

-- these are the repeats of each stage that retains these paths
abbrev pub AreRepeatsBut : List (List ℕ) → List ℕ → StackState → List Pending → Type 0
AreRepeatsBut retained out s repeats =
    (schemas : List Schema) (name : List ℕ) (x : World) (stage : Stage) → retained_in stage s ≡ retained
    → HasNotFailed schemas name x s stage → AreRepeats schemas name x out s stage repeats
