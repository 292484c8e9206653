-- What of a template this engine does not make yet: imports from other stacks, exports, policies and nested stacks (this project's own
-- order of growth).
use Rattle.std.specs.Prelude.{Bool, true, false, ◌||◌, Option, Some, None, is_some}
use Rattle.std.specs.List.{list_any}
use Rattle.cf_tree.specs.Forms.{Form, Node, Forms, Fields, expr, lit, ref, get_att, sub, join, select, split, choice, find_in_map, import_value, base64, no_forms, form, no_fields, field, fields_of}
use Rattle.cf_tree.specs.Forms as node
use Rattle.cf_tree.specs.Tests.{Test, TestNode, Tests, cond, equals, negation, all_of, any_of, named, no_tests, test}
use Rattle.cf_tree.specs.declared.template.Template.{Template}
use Rattle.cf_tree.specs.declared.template.Out.{Out}
use Rattle.cf_tree.specs.declared.template.Res.{Res}
use Rattle.cf_tree.specs.declared.template.Deletion.{Deletion}
use Rattle.cf_tree.specs.declared.template.Deletion.TheVariants as deletion
use Rattle.cf_tree.specs.declared.template.Replace.{Replace}
use Rattle.cf_tree.specs.declared.template.Replace.TheVariants as replace
use Rattle.cf_desired.specs.Templates.{is_stack}

-- an expression imports an export of another stack, in whatever branch
abbrev mutual
  pub form_imports : Form → Bool
  form_imports (expr at n) = node_imports n

  pub node_imports : Node → Bool
  node_imports (lit d) = false
  node_imports (node.list es) = forms_import es
  node_imports (node.dict ps) = fields_import ps
  node_imports (ref name) = false
  node_imports (get_att id a) = form_imports a
  node_imports (sub parts own) = fields_import own
  node_imports (join d e) = form_imports e
  node_imports (select i e) = form_imports i || form_imports e
  node_imports (split d e) = form_imports e
  node_imports (choice name y n) = form_imports y || form_imports n
  node_imports (find_in_map m k l) = form_imports m || (form_imports k || form_imports l)
  node_imports (import_value e) = true
  node_imports (base64 e) = form_imports e

  pub forms_import : Forms → Bool
  forms_import no_forms = false
  forms_import (form e es) = form_imports e || forms_import es

  pub fields_import : Fields → Bool
  fields_import no_fields = false
  fields_import (field k e ps) = form_imports e || fields_import ps

-- a condition does
abbrev mutual
  pub test_imports : Test → Bool
  test_imports (cond at n) = test_node_imports n

  pub test_node_imports : TestNode → Bool
  test_node_imports (equals a b) = form_imports a || form_imports b
  test_node_imports (negation c) = test_imports c
  test_node_imports (all_of cs) = tests_import cs
  test_node_imports (any_of cs) = tests_import cs
  test_node_imports (named name) = false

  pub tests_import : Tests → Bool
  tests_import no_tests = false
  tests_import (test c cs) = test_imports c || tests_import cs

-- a policy is there and is another one than `Delete`
abbrev pub keeps_removed : Option Deletion → Bool
keeps_removed None = false
keeps_removed (Some deletion.Delete) = false
keeps_removed (Some _) = true

abbrev pub keeps_replaced : Option Replace → Bool
keeps_replaced None = false
keeps_replaced (Some replace.Delete) = false
keeps_replaced (Some _) = true

-- a resource is a nested stack, outlives its removal, or imports
abbrev pub is_late : Res → Bool
is_late r = is_stack r || (keeps_removed r.deletion || (keeps_replaced r.replace || fields_import (fields_of r.props)))

-- an output is exported, or imports
abbrev pub is_output_late : Out → Bool
is_output_late o = is_some o.export || form_imports o.value

-- a template holds something that is not made yet
abbrev pub is_not_yet : Template → Bool
is_not_yet t =
    list_any is_output_late t.outputs || (list_any (λ c. test_imports c.1) t.conds || list_any is_late t.resources)
