use Rattle.std.proofs.Common.{◌∙◌, ◌||◌, ap, sym, ℕ, List, take}
use Rattle.std.specs.List.{list_any}
use Rattle.std.specs.Str.{bytes_eq}
use Rattle.std.proofs.lemmas.List.Folds.{list_any_more}
use Rattle.cf_tree.specs.declared.template.Param.{Param}
use Rattle.cf_graph.proofs.Sets.{has_text}
use Rattle.cf_graph.proofs.needs.param_names.Goals as goal

pub loop-param-preserved : goal.loop-param-preserved
loop-param-preserved c = λ q.
    let all = c.as_slice-param-items.result.now in
    let name = c.in_ok-try_clone.field-0 in
    let before = list_any (λ (p : Param). bytes_eq q p.name) (take c.loop-param.param-index all) in
    has_text c.loop-param.names c.insert.new.self name c.in_ok-insert.ensures.updates q
    ∙ ap (λ b. b || bytes_eq q name) (c.loop-param.invariant q)
    ∙ ap (λ (k : List ℕ). before || bytes_eq q k) (c.in_ok-try_clone.ensures ∙ ap (λ (p : Param). p.name) c.param-item.is)
    ∙ sym (list_any_more (λ (p : Param). bytes_eq q p.name) all c.loop-param.param-index c.param-item.result c.loop-param-test.true)
