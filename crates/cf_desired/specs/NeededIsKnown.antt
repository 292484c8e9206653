-- Where all that a path needs is seen, its properties are known or at fault (this project's own law).
use Rattle.std.specs.Prelude.{◌≡◌, ℕ, Bool, not, ◌||◌, List, Some, None, IsTrue, is_some}
use Rattle.std.specs.List.{list_all}
use Rattle.cf_tree.specs.declared.source.Source.{Source}
use Rattle.cf_desired.specs.Seeing.{Seen}
use Rattle.cf_desired.specs.Stays.{is_shown, is_settled}
use Rattle.cf_desired.specs.declared.wanted.Evaluated.{Evaluated}
use Rattle.cf_desired.specs.declared.wanted.Inner.{Inner}
use Rattle.cf_desired.specs.Plan.{member_at, props_at, plan_by}
use Rattle.cf_desired.specs.Met.{bind_flaw_in}
use Rattle.cf_desired.specs.Shape.{shape_of, given_root}
use Rattle.cf_desired.specs.Work.{Member}

-- the parameters of a nested stack are bound, where all that its stack resource needs is seen
abbrev pub is_bound : Seen → Inner → Bool
is_bound seen n = not (list_all (is_shown seen) n.needs) || not (is_some n.fault)

-- where the parameters of the root and of nested stacks are bound, in so far as what they rest on is seen
abbrev pub NeededIsKnown : Type 0
NeededIsKnown =
    (source : Source) (before now : Seen) → bind_flaw_in (given_root source) (shape_of source before) ≡ None
    → IsTrue (list_all (is_bound now) (plan_by source (shape_of source before) now).nested) → (path : List ℕ) (m : Member) (v : Evaluated)
    → member_at (shape_of source before) path ≡ Some m → IsTrue (list_all (is_shown now) m.needs)
    → props_at source (shape_of source before) now path ≡ Some v → IsTrue (is_settled v)
