use Rattle.std.proofs.Common.{inr, refl, true≢false, sym, ◌∙◌}
use Rattle.cf_template.proofs.JsonLemmas.{json_of-ok, json_of-err}
use Rattle.cf_template.proofs.value.value_of.Goals as goal

pub returns-in-Ok : goal.returns-in-Ok
returns-in-Ok c = json_of-ok _ _ c.in-Ok.ensures.ok.0 c.in-Ok.ensures.ok.1

pub returns-else-is_memory : goal.returns-else-is_memory
returns-else-is_memory c =
    inr (refl, json_of-err _ (c.in-Err.ensures.err (λ m. true≢false (sym (c.is_memory.ensures.1 m) ∙ c.if-is_memory.false))))
