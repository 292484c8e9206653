-- What a source comes to on a stack (this project's own).
use Rattle.std.specs.Prelude.{◌≡◌, ⊤, ℕ, List, Option}
use Rattle.cf_tree.specs.declared.source.Source.{Source}
use Rattle.cf_schema.specs.declared.described.Schema.{Schema}
use Rattle.cf_change.specs.Changes.{Changes, RowsFound, changes_by, changes_of, found_of}
use Rattle.cf_change.specs.declared.held.HeldMap.{HeldMap}
use Rattle.cf_change.specs.declared.set.ChangeFault.{ChangeFault}
use Rattle.cf_change.specs.declared.set.ChangeFault.TheVariants as change
use Rattle.cf_change.specs.declared.set.ChangeSet.{ChangeSet}
use Rattle.cf_desired.specs.Plan.{plan_of}
use Rattle.cf_desired.specs.declared.wanted.Plan.{Plan}
use Rattle.cf_effect.specs.World.{World}
use Rattle.cf_prepare.specs.Answer.{first_of}
use Rattle.cf_prepare.specs.Imports.{UsesJust}
use Rattle.cf_prepare.specs.Refusals.{proposal, proposed_changes, refusals_by, seen_proposed}
use Rattle.cf_prepare.specs.declared.wish.PrepareFault.{PrepareFault}
use Rattle.cf_prepare.specs.declared.work.Worked.{Worked}

abbrev pub set_by : Changes → ChangeSet
set_by c = record { rows = c.rows; outputs_differ = c.outputs_differ }

-- what is left where there is no flaw and no path has another type
abbrev pub IsMild : ChangeFault → Type 0
IsMild change.NoChanges = ⊤
IsMild change.NoMemory = ⊤
IsMild _ = ⊥

-- on what is held
abbrev pub changes_over : List Schema → HeldMap → Source → Changes
changes_over schemas held source = changes_of schemas held.resources held.outputs held.exports source

abbrev pub refusal_over : List (List ℕ) → World → List ℕ → List Schema → HeldMap → Source → Option PrepareFault
refusal_over kinds x name schemas held source =
    first_of (refusals_by kinds x name (changes_over schemas held source) (plan_of source (found_of schemas held.resources source).seen))

-- by what was found of it and by its plan
abbrev pub WorksAs : HeldMap → Source → RowsFound → Plan → Worked → Type 0
WorksAs held source f p w =
    UsesJust source f.seen w.imports × (w.changes ≡ set_by (changes_by held.resources held.outputs held.exports f p))

abbrev pub WorksBy : List Schema → HeldMap → Source → Worked → Type 0
WorksBy schemas held source w =
    UsesJust source (found_of schemas held.resources source).seen w.imports × (w.changes ≡ set_by (changes_over schemas held source))

-- on the stack of a name
abbrev pub IsWorked : List Schema → World → List ℕ → Source → Worked → Type 0
IsWorked schemas x name source w =
    UsesJust (proposal x name source) (seen_proposed schemas x name source) w.imports
    × (w.changes ≡ set_by (proposed_changes schemas x name source))
