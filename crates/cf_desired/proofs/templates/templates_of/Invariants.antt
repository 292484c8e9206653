use Rattle.std.proofs.Common.{◌≡◌, filter_map, take}
use Rattle.cf_desired.specs.Templates.{template_under}
use Rattle.cf_desired.proofs.templates.templates_of.Given as goal

abbrev pub invariant-loop-text : goal.invariant-loop-text
invariant-loop-text l = l.templates.items ≡ filter_map template_under (take l.text-index l.text-items)
