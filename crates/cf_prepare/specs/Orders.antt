-- What a wish orders: the entry that begins its operation, or that keeps its change set, by the number that is next (this project's
-- own).
use Rattle.std.specs.Prelude.{◌≡◌, ℕ, ◌+◌, List, IsTrue, if◌then◌else◌}
use Rattle.cf_tree.specs.Lists.{is_among}
use Rattle.cf_tree.specs.declared.source.Source.{Source}
use Rattle.cf_schema.specs.declared.described.Schema.{Schema}
use Rattle.cf_entry.specs.Entry.{texts_ascend}
use Rattle.cf_entry.specs.declared.entry.Begun.{Begun}
use Rattle.cf_entry.specs.declared.entry.Begun.TheVariants as begin
use Rattle.cf_entry.specs.declared.entry.Entry.TheVariants as entry
use Rattle.cf_effect.specs.World.{StackState, World, known_stack}
use Rattle.cf_effect.specs.Begin.{source_for}
use Rattle.cf_plan.specs.Accept.{creates_from, with_imports}
use Rattle.cf_prepare.specs.Imports.{UsesJust}
use Rattle.cf_prepare.specs.Refusals.{proposal, proposed_changes, seen_proposed}
use Rattle.cf_prepare.specs.declared.wish.Order.{Order}
use Rattle.cf_prepare.specs.declared.wish.Order.TheVariants as order

-- A source is written as it was given, under the stack's name and without a number, with just the exports of other stacks that it
-- uses.
pub record IsWritten (schemas : List Schema) (x : World) (name : List ℕ) (source written : Source) : Type 0 where
  pub rest : written ≡ with_imports (source_for name 0 source) written.imports
  pub uses : UsesJust (proposal x name source) (seen_proposed schemas x name source) written.imports

-- the stack is created by it or updated
abbrev pub kind_by : StackState → Source → Begun
kind_by s written = if creates_from s.status then begin.Create written else begin.Update written

abbrev pub IsDeployment : List Schema → World → List ℕ → Source → Order → Type 0
IsDeployment schemas x name source o =
    (written : Source) × IsWritten schemas x name source written
    × (o ≡ order.Begin (entry.Begin (x.operation + 1) name (kind_by (known_stack name x) written)))

-- a change set has what the source changes
abbrev pub IsReview : List Schema → World → List ℕ → Source → Order → Type 0
IsReview schemas x name source o =
    (written : Source) × IsWritten schemas x name source written
    × (o
    ≡ order.Review (entry.ChangeSet (x.set + 1) name written (proposed_changes schemas x name source).rows
    (proposed_changes schemas x name source).outputs_differ))

-- the paths that are named, each once and in byte order
pub record IsSorted (paths sorted : List (List ℕ)) : Type 0 where
  pub ascend : IsTrue (texts_ascend sorted)
  pub same : (path : List ℕ) → is_among path sorted ≡ is_among path paths

abbrev pub IsDeletion : World → List ℕ → List (List ℕ) → Order → Type 0
IsDeletion x name paths o =
    (sorted : List (List ℕ)) × IsSorted paths sorted × (o ≡ order.Begin (entry.Begin (x.operation + 1) name (begin.Delete sorted)))

abbrev pub IsContinuation : World → List ℕ → List (List ℕ) → Order → Type 0
IsContinuation x name paths o =
    (sorted : List (List ℕ)) × IsSorted paths sorted × (o ≡ order.Begin (entry.Begin (x.operation + 1) name (begin.Continue sorted)))
