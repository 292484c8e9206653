-- What is kept of the paths of an operation's source beside the stack's record: where the resources of each stand, and what its
-- properties come to, where that is worked out (this project's own).
use Rattle.std.specs.Prelude.{◌≡◌, ℕ, List, Option, Some, None, length, map, position, slice_get}
use Rattle.std.specs.Option.{option_and_then}
use Rattle.cf_desired.specs.declared.wanted.Evaluated.{Evaluated}
use Rattle.cf_desired.specs.Plan.{props_at}
use Rattle.cf_desired.specs.Shape.{shape_of}
use Rattle.cf_desired.specs.Whole.{known_of}
use Rattle.cf_desired.specs.Work.{Member}
use Rattle.cf_effect.specs.declared.findings.Findings.{Findings}
use Rattle.cf_effect.specs.declared.findings.Found.{Found}
use Rattle.cf_effect.specs.declared.held.Held.{Held}
use Rattle.cf_effect.specs.Begin.{seen_in}
use Rattle.cf_effect.specs.End.{seen_now}
use Rattle.cf_effect.specs.Layout.{source_members}
use Rattle.cf_effect.specs.Words.{is_current_at}
use Rattle.cf_effect.specs.World.{StackState}

-- the place in a list of the resource that it holds at a path
abbrev pub place_among : List ℕ → List Held → Option ℕ
place_among path hs = position (is_current_at path) hs

-- what the properties of a path come to over the resources of now
abbrev pub props_now : StackState → List ℕ → Option Evaluated
props_now s path = option_and_then (λ source. props_at source (shape_of source (seen_in s.before)) (seen_now s) path) s.going

-- with the properties themselves, where all are known
pub record IsFound (s : StackState) (path : List ℕ) (e : Found) : Type 0 where
  pub evaluated : props_now s path ≡ Some e.evaluated
  pub known : e.known ≡ known_of e.evaluated

abbrev pub FindsAt : StackState → List ℕ → Option Found → Type 0
FindsAt s path None = props_now s path ≡ None
FindsAt s path (Some e) = IsFound s path e

-- by places in the order of work
pub record AreFindings (s : StackState) (f : Findings) : Type 0 where
  pub made : f.made.items ≡ map (λ m. place_among m.path s.made) (source_members s)
  pub held : f.held.items ≡ map (λ m. place_among m.path s.held) (source_members s)
  pub count : length f.found.items ≡ length (source_members s)
  pub found : (at : ℕ) (m : Member) (e : Found) → slice_get (source_members s) at ≡ Some m → slice_get f.found.items at ≡ Some (Some e)
      → IsFound s m.path e
