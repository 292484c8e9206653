-- The names that a source exports are those that it exported over less, where that had no flaw, and known values stay (this
-- project's own law).
use Rattle.std.specs.Prelude.{◌≡◌, ℕ, List, [], Option}
use Rattle.std.specs.Option.{option_and_then}
use Rattle.cf_tree.specs.Keys.{value_at}
use Rattle.cf_tree.specs.declared.source.Source.{Source}
use Rattle.cf_eval.specs.Knows.{StaysKnown}
use Rattle.cf_desired.specs.Plan.{plan_by}
use Rattle.cf_desired.specs.Seeing.{Seen}
use Rattle.cf_desired.specs.Stays.{SeesMore}
use Rattle.cf_desired.specs.Whole.{export_names}
use Rattle.cf_desired.specs.Work.{Shape}
use Rattle.cf_desired.specs.declared.wanted.Plan.{Plan}

-- the value under a name that a plan exports, where it is known
abbrev pub export_known : List ℕ → Plan → Option (List ℕ)
export_known name p = option_and_then (λ value. value) (value_at name p.exports)

abbrev pub ExportNamesStay : Type 0
ExportNamesStay =
    (source : Source) (shape : Shape) (a b : Seen) → SeesMore a b → (plan_by source shape a).flaws ≡ []
    → (export_names (plan_by source shape b) ≡ export_names (plan_by source shape a))
    × ((name : List ℕ) → StaysKnown (export_known name (plan_by source shape a)) (export_known name (plan_by source shape b)))
