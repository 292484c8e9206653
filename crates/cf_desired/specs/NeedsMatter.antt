-- The properties of a path rest on what is seen of the paths that it needs alone (this project's own law).
use Rattle.std.specs.Prelude.{◌≡◌, ℕ, List, Some}
use Rattle.cf_tree.specs.declared.source.Source.{Source}
use Rattle.cf_desired.specs.Seeing.{Seen}
use Rattle.cf_desired.specs.Stays.{AgreeAt}
use Rattle.cf_desired.specs.Plan.{member_at, props_at, nesting_at, fault_at}
use Rattle.cf_desired.specs.Shape.{shape_of}
use Rattle.cf_desired.specs.Work.{Member, Nesting}

-- where two that are seen agree on all that a path needs, its properties are equal
abbrev pub NeedsMatter : Type 0
NeedsMatter =
    (source : Source) (before a b : Seen) (path : List ℕ) (m : Member) → member_at (shape_of source before) path ≡ Some m
    → AgreeAt m.needs a b
    → props_at source (shape_of source before) b path ≡ props_at source (shape_of source before) a path

-- and why the parameters of a nested stack can't be bound is equal, where they agree on all that its stack resource needs
abbrev pub StackNeedsMatter : Type 0
StackNeedsMatter =
    (source : Source) (before a b : Seen) (path : List ℕ) (n : Nesting) → nesting_at (shape_of source before) path ≡ Some n
    → AgreeAt n.needs a b
    → fault_at source (shape_of source before) b path ≡ fault_at source (shape_of source before) a path
