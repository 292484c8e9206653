-- Seeing more keeps what was known (this project's own law).
use Rattle.cf_tree.specs.declared.source.Source.{Source}
use Rattle.cf_desired.specs.Seeing.{Seen}
use Rattle.cf_desired.specs.Stays.{SeesMore, KeepsKnown}
use Rattle.cf_desired.specs.Plan.{plan_by}
use Rattle.cf_desired.specs.Work.{Shape}

-- over one shape: properties that are all known, and values of outputs
abbrev pub KnownStays : Type 0
KnownStays = (source : Source) (shape : Shape) (a b : Seen) → SeesMore a b → KeepsKnown (plan_by source shape a) (plan_by source shape b)
