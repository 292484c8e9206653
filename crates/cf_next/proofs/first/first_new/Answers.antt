use Rattle.std.proofs.Common.{◌≡◌, ◌+◌, ◌∙◌}
use Rattle.std.proofs.lemmas.Result.{IfOk-weaker}
use Rattle.cf_next.specs.First.{either_new, first_keeping, first_start}
use Rattle.cf_next.proofs.first.first_new.Goals as goal

pub returns : goal.returns
returns c =
    let homes = c.as_slice.ensures ∙ c.in_ok-homes.ensures in
    let start = c.first_start-start.ensures ∙ (λ i. first_start (homes i) (c.as_slice-2.ensures i)) in
    let keeping = c.first_keeping-keeping.ensures ∙ (λ i. first_keeping (c.as_slice-3.ensures i)) in
    let lanes = c.as_slice-4.ensures ∙ c.in_ok-homes.ensures in
    IfOk-weaker c.either_new.result _ _
    (λ n e. e ∙ (λ i. either_new (lanes i) (c.args.world.now.world.token + 1) (start i) (keeping i)))
    c.either_new.ensures
