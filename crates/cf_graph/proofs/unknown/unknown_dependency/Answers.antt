use Rattle.std.proofs.Common.{◌∙◌, sym, Some}
use Rattle.std.specs.BTreeSet.{contains}
use Rattle.std.specs.Ordering.{nat_cmp}
use Rattle.std.specs.Cmp.Lexicographic.{slice_cmp}
use Rattle.cf_graph.proofs.Undeclared.{names_one, names_none}
use Rattle.cf_graph.proofs.unknown.unknown_dependency.Goals as goal

pub returns-in-Some : goal.returns-in-Some
returns-in-Some c =
    sym (c.loop-resource.invariant
    ∙ names_one c.args.template.now (contains (slice_cmp nat_cmp) c.in_ok-declared.declared) c.in_ok-declared.ensures c.as_slice-resource-items.result.now c.loop-resource.resource-index c.resource-item.result c.loop-resource-test.true c.resource-item.is
    c.in-Some.name.now c.in-Some.ensures
    ∙ (λ i. Some (sym c.in_ok-try_clone.ensures i, sym c.in_ok-try_clone-2.ensures i)))

pub loop-resource-preserved : goal.loop-resource-preserved
loop-resource-preserved c =
    c.loop-resource.invariant
    ∙ names_none c.args.template.now (contains (slice_cmp nat_cmp) c.in_ok-declared.declared) c.in_ok-declared.ensures c.as_slice-resource-items.result.now c.loop-resource.resource-index c.resource-item.result c.loop-resource-test.true c.resource-item.is
    c.in_default.ensures
