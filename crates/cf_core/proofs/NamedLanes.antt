-- The last opening named the lanes of what a stack holds, and held as its operation began.
use Rattle.std.proofs.Common.{◌≡◌, ℕ, true, List, sym, subst, true≢false}
use Rattle.cf_tree.specs.Lists.{In}
use Rattle.cf_tree.specs.declared.source.Source.{Source}
use Rattle.cf_entry.specs.declared.status.Status.{Status}
use Rattle.cf_entry.specs.declared.status.Status.TheVariants as status
use Rattle.cf_schema.specs.declared.described.Schema.{Schema}
use Rattle.cf_effect.specs.declared.held.Held.{Held}
use Rattle.cf_effect.specs.Status.{goes_forward}
use Rattle.cf_effect.specs.Words.{resources_of}
use Rattle.cf_effect.specs.World.{StackState, World}
use Rattle.cf_plan.specs.Follow.{IsNamedLane}
use Rattle.cf_plan.specs.Life.{world_of}
use Rattle.cf_core.proofs.BackSteps.{is_of}
use Rattle.cf_core.proofs.Lemmas.{in_front}
use Rattle.cf_core.specs.Advancing.{IsAdvancing}
use Rattle.cf_core.specs.Course.{IsOnCourse}
use Rattle.cf_core.specs.Theorem.{LanesAreNamed}

-- a stack that goes forward goes by a source
pub advancing : (schemas : List Schema) (name : List ℕ) (x : World) (s : StackState) (a : Status) → goes_forward a ≡ true
    → IsOnCourse schemas name x s a → (source : Source) × IsAdvancing schemas s source
advancing schemas name x s status.CreateInProgress g c = (c.0, c.1)
advancing schemas name x s status.UpdateInProgress g c = (c.0, c.1)
advancing schemas name x s a g c = absurd (true≢false (sym g))

pub lanes_named : LanesAreNamed
lanes_named schemas life name s h at = record { now = now; before = before } where
  x : World
  x = world_of life

  now : (r : Held) → In r (resources_of s) → IsNamedLane x.lanes r.physical r.kind
  now = (h.sound.fitted name s at).lanes.0

  -- what was held before is still held, under its id
  before : goes_forward s.status ≡ true → (b : Held) → In b s.before → IsNamedLane x.lanes b.physical b.kind
  before g b i =
      let going = advancing schemas name x s s.status g (h.way name s at).course.stage in
      let (r, j, same) = is_of going.1.held i in
      subst (λ k. IsNamedLane x.lanes b.physical k) same.kind
      (subst (λ p. IsNamedLane x.lanes p r.kind) same.physical (now r (in_front r s.held s.made j)))
