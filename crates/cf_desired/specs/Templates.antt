-- The templates of a source: a text that is refused counts as not there (this project's own); and which resources are nested
-- stacks (User Guide: working with nested stacks).
use Rattle.std.specs.Prelude.{ℕ, Bool, List, Option, Some, None, Result, Ok, Err, codes, filter_map, option_and_then, option_map}
use Rattle.std.specs.Str.{bytes_eq}
use Rattle.cf_tree.specs.Keys.{value_at}
use Rattle.cf_tree.specs.declared.template.Res.{Res}
use Rattle.cf_tree.specs.declared.template.Template.{Template}
use Rattle.cf_tree.specs.declared.source.Source.{Source}
use Rattle.cf_template.specs.Whole.{template_of}

abbrev pub accepted : {E : Type 0} → Result Template E → Option Template
accepted (Ok t) = Some t
accepted (Err f) = None

-- the template of a name among the source's texts
abbrev pub template_named : List ℕ → Source → Option Template
template_named name source = option_and_then (λ bytes. accepted (template_of bytes)) (value_at name source.texts)

-- the template of a text, under its name
abbrev pub template_under : List ℕ × List ℕ → Option (List ℕ × Template)
template_under text = option_map (λ t. (text.0, t)) (accepted (template_of text.1))

-- the names of those of a source's texts that are templates, each with its template
abbrev pub templates_of : Source → List (List ℕ × Template)
templates_of source = filter_map template_under source.texts

-- a resource that is a nested stack
abbrev pub is_stack : Res → Bool
is_stack r = bytes_eq r.kind (codes "AWS::CloudFormation::Stack")
