-- A stack that holds nothing is created from a source that has no flaw where nothing is seen (this project's own law).
use Rattle.std.specs.Prelude.{◌≡◌, ℕ, ◌+◌, List, [], None}
use Rattle.cf_tree.specs.declared.source.Source.{Source}
use Rattle.cf_schema.specs.declared.described.Schema.{Schema}
use Rattle.cf_desired.specs.Plan.{plan_of}
use Rattle.cf_entry.specs.declared.entry.Begun.TheVariants as begin
use Rattle.cf_entry.specs.declared.entry.Entry.TheVariants as entry
use Rattle.cf_effect.specs.Begin.{source_for}
use Rattle.cf_effect.specs.World.{World, stack_at}
use Rattle.cf_plan.specs.Accept.{exports_of_others, with_imports}
use Rattle.cf_prepare.specs.Orders.{IsDeployment}
use Rattle.cf_prepare.specs.Refusals.{deploy_refusal}
use Rattle.cf_prepare.specs.declared.wish.Order.{Order}
use Rattle.cf_prepare.specs.declared.wish.Order.TheVariants as order

-- the source that is written, as the operation works by it
pub record IsFirst (x : World) (name : List ℕ) (source : Source) (o : Order) (written : Source) : Type 0 where
  pub begins : o ≡ order.Begin (entry.Begin (x.operation + 1) name (begin.Create written))
  pub rest : written ≡ with_imports (source_for name 0 source) written.imports
  pub flawless : (plan_of (source_for name (x.operation + 1) written) []).flaws ≡ []
  pub no_imports :
      plan_of (with_imports (source_for name (x.operation + 1) source) []) []
      ≡ plan_of (with_imports (source_for name (x.operation + 1) source) (exports_of_others name x)) []
      → written.imports ≡ []

abbrev pub FirstDeployment : Type 0
FirstDeployment =
    (schemas : List Schema) (x : World) (name : List ℕ) (source : Source) (o : Order) → stack_at name x ≡ None
    → deploy_refusal schemas x name source ≡ None → IsDeployment schemas x name source o
    → (written : Source) × IsFirst x name source o written
