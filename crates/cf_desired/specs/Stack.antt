-- A template that is entered as a stack, and what is evaluated in it (User Guide: working with nested stacks; the form is this
-- project's own).
use Rattle.std.specs.Prelude.{ℕ, List, Option, Some, None, Ok, Err}
use Rattle.cf_tree.specs.declared.source.Source.{Source}
use Rattle.cf_tree.specs.declared.template.Template.{Template}
use Rattle.cf_eval.specs.Outcome.{Outcome, Stop, bad, stopped_at}
use Rattle.cf_eval.specs.Scope.{Scope, resource_scope}
use Rattle.cf_eval.specs.Value.{PropsFound}
use Rattle.cf_desired.specs.Names.{pseudo_of}
use Rattle.cf_desired.specs.declared.flaw.Flaw.{Flaw}
use Rattle.cf_desired.specs.declared.flaw.Flaw.TheVariants as flaw
use Rattle.cf_desired.specs.declared.wanted.Evaluated.{Evaluated}
use Rattle.cf_desired.specs.declared.wanted.Evaluated.TheVariants.{Flawed as flawed, Known as evaluated}
-- what its conditions come to, what its parameters are bound to, what is seen of its resources
pub use Rattle.cf_eval.specs.Scope.{Verdicts, Settings, Sights}

-- the path of its stack resource, empty for the root; the stack's name; and the template
pub record Stack : Type 0 where
  pub path : List ℕ
  pub name : List ℕ
  pub template : Template

-- the scope of its resources and outputs, over what is seen of them
abbrev pub Scoping : Type 0
Scoping = Sights → Scope

abbrev pub scoping : Source → Stack → Verdicts → Settings → Scoping
scoping source t conds bound sights = resource_scope t.template.mappings bound conds (pseudo_of t.name source.number) sights source.imports

-- where an evaluation stops, as a flaw of the stack at a path; the fault of a nested output has a path of its own
abbrev pub flaw_at : List ℕ → Stop → Flaw
flaw_at stack s = let w = stopped_at stack s in flaw.Eval w.0 w.1.0 w.1.1

abbrev pub stop_in : {A : Type 0} → Outcome A → Option Stop
stop_in (bad s) = Some s
stop_in _ = None

-- what properties come to, in the stack at a path
abbrev pub evaluated_in : List ℕ → PropsFound → Evaluated
evaluated_in path (Ok ps) = evaluated ps
evaluated_in path (Err s) = flawed (flaw_at path s)
