use Rattle.std.proofs.Common.{◌∙◌, ◌||◌, ap, sym, ℕ, List, take}
use Rattle.std.specs.List.{list_any}
use Rattle.std.specs.Str.{bytes_eq}
use Rattle.std.proofs.lemmas.List.Folds.{list_any_more}
use Rattle.cf_tree.specs.declared.template.Res.{Res}
use Rattle.cf_graph.proofs.Sets.{has_text}
use Rattle.cf_graph.proofs.unknown.resource_names.Goals as goal

pub loop-resource-preserved : goal.loop-resource-preserved
loop-resource-preserved c = λ q.
    let all = c.as_slice-resource-items.result.now in
    let name = c.in_ok-try_clone.field-0 in
    let before = list_any (λ (r : Res). bytes_eq q r.name) (take c.loop-resource.resource-index all) in
    has_text c.loop-resource.names c.insert.new.self name c.in_ok-insert.ensures.updates q
    ∙ ap (λ b. b || bytes_eq q name) (c.loop-resource.invariant q)
    ∙ ap (λ (k : List ℕ). before || bytes_eq q k) (c.in_ok-try_clone.ensures ∙ ap (λ (r : Res). r.name) c.resource-item.is)
    ∙ sym (list_any_more (λ (r : Res). bytes_eq q r.name) all c.loop-resource.resource-index c.resource-item.result c.loop-resource-test.true)
