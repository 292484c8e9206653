-- What stands where an operation has ended: the new template is live, the earlier resources are back, nothing is left,
-- or the failed paths are told and blamed (User Guide: stack status codes).
use Rattle.std.specs.Prelude.{◌≡◌, ◌≢◌, ℕ, ◌↔◌, false, List, [], Option, Some, map, find}
use Rattle.cf_tree.specs.Keys.{value_at}
use Rattle.cf_handler.specs.Lane.{Live}
use Rattle.cf_handler.specs.Fence.{live_at}
use Rattle.cf_tree.specs.Counts.{HasRisen}
use Rattle.cf_export.specs.declared.Export.{Export}
use Rattle.cf_tree.specs.declared.source.Source.{Source}
use Rattle.cf_effect.specs.declared.held.Held.{Held}
use Rattle.cf_effect.specs.World.{StackState, World}
use Rattle.cf_effect.specs.Words.{current_at}
use Rattle.cf_effect.specs.declared.call.Call.{Call}
use Rattle.cf_effect.specs.Operation.{Response, replies_in}
use Rattle.cf_effect.specs.Calls.{is_success}
use Rattle.cf_effect.specs.Listed.{export_by}
use Rattle.cf_effect.specs.End.{is_right_at}
use Rattle.cf_desired.specs.Seeing.{Seen}
use Rattle.cf_desired.specs.Whole.{Right, Whole, whole_of}
use Rattle.cf_plan.specs.Accept.{exports_in}
use Rattle.cf_tree.specs.Lists.{In}
use Rattle.cf_plan.specs.Lanes.{Lane, IsHome}
use Rattle.cf_plan.specs.Follow.{settled_by}
use Rattle.cf_effect.specs.Operation.{own_of}
use Rattle.cf_effect.specs.Calls.{call_under}

-- what is live of a resource: its lane is the one that its id names
pub record IsLive (lanes : List Lane) (r : Held) (v : Live) : Type 0 where
  pub lane : Lane
  pub home : IsHome lanes r.physical lane
  pub live : live_at r.physical lane.state ≡ Some v

-- no call is open, and nothing is made and not held
pub record IsSettled (s : StackState) : Type 0 where
  pub none_open : s.tokens ≡ []
  pub none_made : s.made ≡ []

-- what is seen of each held path: its id, and its attributes as they are live
abbrev pub Sees : List Lane → StackState → Seen → Type 0
Sees lanes s seen =
    (path : List ℕ) (r : Held) → current_at path s.held ≡ Some r → (v : Live) × IsLive lanes r v
    × (value_at path seen ≡ Some (record { physical = Some r.physical; attrs = Some v.attrs }))

-- what the whole map wants of a path
abbrev pub right_at : List ℕ → Whole → Option Right
right_at path whole = find (is_right_at path) whole.wanted

-- The new template is live: over what is seen its evaluation is a whole map, of just the held paths, and each resource
-- is live with exactly its type and properties.
pub record IsWholeLive (lanes : List Lane) (s : StackState) (whole : Whole) : Type 0 where
  pub paths : (path : List ℕ) → ((w : Right) × (right_at path whole ≡ Some w)) ↔ ((r : Held) × (current_at path s.held ≡ Some r))
  pub live :
      (path : List ℕ) (w : Right) (r : Held) → right_at path whole ≡ Some w → current_at path s.held ≡ Some r → (v : Live)
      × IsLive lanes r v × (v.kind ≡ w.kind) × (v.props ≡ w.props)
  pub nothing_else : (r : Held) → In r s.held → current_at r.path s.held ≡ Some r
  pub outputs : s.outputs ≡ whole.outputs

pub record IsComplete (name : List ℕ) (x : World) (s : StackState) (lanes : List Lane) : Type 0 where
  pub settled : IsSettled s
  pub evaluated :
      (source : Source) × (seen : Seen) × (whole : Whole) × (s.source ≡ Some source) × Sees lanes s seen
      × (whole_of source seen ≡ Some whole) × IsWholeLive lanes s whole
      × ((e : Export) → In e (exports_in name x) ↔ In e (map (export_by name) whole.exports))

-- The earlier resources are back: the held paths are those from before the operation, each live under its old id and
-- type, and with its old properties unless it is unsure.
pub record IsRestored (s : StackState) (lanes : List Lane) : Type 0 where
  pub settled : IsSettled s
  pub held : (b : Held) → In b s.before → (r : Held) × In r s.held × (r.path ≡ b.path) × (r.physical ≡ b.physical) × (r.kind ≡ b.kind)
  pub nothing_else : (r : Held) → In r s.held → (b : Held) × In b s.before × (b.path ≡ r.path) × (b.physical ≡ r.physical)
  pub live :
      (b r : Held) → In b s.before → In r s.held → r.physical ≡ b.physical → (v : Live) × IsLive lanes r v × (v.kind ≡ b.kind)
      × (r.unsure ≡ false → v.props ≡ b.props)

-- nothing is held or made, and no call is open
pub record IsCleared (s : StackState) : Type 0 where
  pub settled : IsSettled s
  pub none_held : s.held ≡ []

-- A failed status names a path at least, and each with an outcome of the stack's last operation that was refused or broke
-- off, whose handler's count rose.
pub record IsBlamedFor (s : StackState) (path : List ℕ) : Type 0 where
  pub reply : Response
  pub call : Call
  pub of_call : call_under reply.token s ≡ Some call
  pub at_path : call.path ≡ path
  pub stands : In reply (replies_in (own_of s))
  pub failed : is_success (settled_by reply.answer) ≡ false
  pub rose : HasRisen reply.before reply.after

pub record IsBlamed (s : StackState) (failed : List (List ℕ)) : Type 0 where
  pub some : failed ≢ []
  pub each : (path : List ℕ) → In path failed → IsBlamedFor s path
