-- A stack holds what its template wants: just its paths, each with its type and properties, with what is superseded beside them
-- until it is cleaned up (this project's own).
use Rattle.std.specs.Prelude.{◌≡◌, ℕ, ◌↔◌, true, false, List, [], Some, map}
use Rattle.cf_tree.specs.declared.request.Request.TheVariants as request
use Rattle.cf_tree.specs.Keys.{value_at}
use Rattle.cf_tree.specs.declared.source.Source.{Source}
use Rattle.cf_export.specs.declared.Export.{Export}
use Rattle.cf_desired.specs.Seeing.{Seen}
use Rattle.cf_desired.specs.Whole.{Right, Whole, whole_of}
use Rattle.cf_effect.specs.declared.held.Held.{Held}
use Rattle.cf_effect.specs.declared.held.Pending.{Pending}
use Rattle.cf_effect.specs.World.{StackState, World}
use Rattle.cf_effect.specs.Words.{current_at}
use Rattle.cf_effect.specs.Begin.{seen_as_held}
use Rattle.cf_effect.specs.Listed.{export_by}
use Rattle.cf_plan.specs.Accept.{exports_in}
use Rattle.cf_plan.specs.Created.{IsHeldAs}
use Rattle.cf_plan.specs.Ends.{right_at}
use Rattle.cf_tree.specs.Lists.{In}
use Rattle.cf_core.specs.Advancing.{AreSingle}

pub record HoldsWhole (name : List ℕ) (x : World) (s : StackState) : Type 0 where
  pub source : Source
  pub seen : Seen
  pub whole : Whole
  pub of_source : s.source ≡ Some source
  -- it is evaluated over what is seen of each resource that the stack holds
  pub sees : (path : List ℕ) (r : Held) → current_at path s.held ≡ Some r → value_at path seen ≡ Some (seen_as_held r)
  pub evaluated : whole_of source seen ≡ Some whole
  pub wanted : (path : List ℕ) (w : Right) → right_at path whole ≡ Some w → (r : Held) × (current_at path s.held ≡ Some r) × IsHeldAs w r
  pub held : (r : Held) → In r s.held → r.superseded ≡ false → (w : Right) × (right_at r.path whole ≡ Some w) × IsHeldAs w r
  pub single : (r : Held) → In r s.held → r.superseded ≡ false → current_at r.path s.held ≡ Some r
  pub sure : (r : Held) → In r s.held → r.superseded ≡ false → r.unsure ≡ false
  pub outputs : s.outputs ≡ whole.outputs
  pub exports : (e : Export) → In e (exports_in name x) ↔ In e (map (export_by name) whole.exports)
  pub none_made : s.made ≡ []

-- an open call of the cleanup deletes a superseded resource
abbrev pub DeletesSuperseded : StackState → Pending → Type 0
DeletesSuperseded s p = (r : Held) × In r s.held × (r.superseded ≡ true) × (p.request ≡ request.Delete r.physical) × (p.path ≡ r.path)

-- no operation is in progress, no call is open, and each resource is the one of its path: so an update may begin
pub record IsHeldAtRest (s : StackState) : Type 0 where
  pub none_open : s.tokens ≡ []
  pub none_made : s.made ≡ []
  pub single : AreSingle s.held
