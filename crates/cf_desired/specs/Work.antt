-- The shape of what a source wants: which resources in which order, with their kinds, policies, needs and expressions, and
-- which nested stacks. No value is in it (User Guide: working with nested stacks; the form is this project's own).
use Rattle.std.specs.Prelude.{ℕ, List, Option}
use Rattle.cf_tree.specs.Forms.{Form}
use Rattle.cf_tree.specs.declared.template.Deletion.{Deletion}
use Rattle.cf_tree.specs.declared.template.Replace.{Replace}
use Rattle.cf_desired.specs.declared.flaw.Flaw.{Flaw}
use Rattle.cf_desired.specs.Stack.{Stack, Verdicts}

-- a resource: its path and logical id, what is asked of it, what it needs, the expressions of its properties, and the flaw that
-- its condition is not declared
pub record Member : Type 0 where
  pub path : List ℕ
  pub id : List ℕ
  pub kind : List ℕ
  pub deletion : Deletion
  pub replace : Replace
  pub needs : List (List ℕ)
  pub props : List (List ℕ × Form)
  pub unnamed : Option Flaw

-- a nested stack: the path and logical id of its stack resource, the stack's name, and what the stack resource needs
pub record Nesting : Type 0 where
  pub path : List ℕ
  pub id : List ℕ
  pub name : List ℕ
  pub needs : List (List ℕ)

mutual
  -- the resources and nested stacks of a template in the order of work
  pub data Work : Type 0 where
    no_work : Work
    resource : Member → Work → Work
    nested : Nesting → Inside → Work → Work

  -- what is in a nested stack: nothing, since its stack resource has a flaw; or what its parameters are given, and its template
  pub data Inside : Type 0 where
    shut : Flaw → Inside
    given_by : Option Form → Body → Inside

  -- a template: it can't be entered; or its conditions or the needs in it have a flaw; or what its conditions come to, and its work
  pub data Body : Type 0 where
    barred : Flaw → Body
    halted : Stack → Flaw → Body
    opened : Stack → Verdicts → Work → Body

-- what a source wants, but for values: its root template
abbrev pub Shape : Type 0
Shape = Body
