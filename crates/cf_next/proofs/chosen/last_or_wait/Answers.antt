use Rattle.std.proofs.Common.{◌==◌, ℕ, List, length, ap, sym, ◌∙◌}
use Rattle.std.proofs.lemmas.Bool.{eqb-true}
use Rattle.std.proofs.lemmas.List.{nil_from_length}
use Rattle.cf_plan.proofs.Members.{not_both}
use Rattle.cf_next.proofs.FirstBegun.{last_chosen, none_starts, wait_chosen}
use Rattle.cf_next.proofs.chosen.last_or_wait.Goals as goal

pub returns-in-Some : goal.returns-in-Some
returns-in-Some c = λ stage in_stage.
    last_chosen c.args.schemas.now c.args.name.now c.args.world.now.world c.args.out.now c.args.stack.now.stack stage c.args.offer.now
    (c.requires.offer stage in_stage) c.requires.none c.in_ok-last.last (c.in_ok-last.ensures stage in_stage) c.in-Some.step c.in-Some.is

pub returns-then-is_empty : goal.returns-then-is_empty
returns-then-is_empty c =
    let idle = nil_from_length c.args.out.now (eqb-true (length c.args.out.now) 0 (sym c.is_empty.ensures ∙ c.if-is_empty.true)) in (
      idle,
      λ stage in_stage.
          none_starts c.args.schemas.now c.args.name.now c.args.world.now.world c.args.out.now c.args.stack.now.stack stage c.args.offer.now
          (c.requires.offer stage in_stage) c.requires.none c.in_ok-last.last (c.in_ok-last.ensures stage in_stage) c.in-None.is idle,
    )

pub returns-else-is_empty : goal.returns-else-is_empty
returns-else-is_empty c = λ stage in_stage.
    wait_chosen c.args.schemas.now c.args.name.now c.args.world.now.world c.args.out.now c.args.stack.now.stack stage c.args.offer.now
    (c.requires.offer stage in_stage) c.requires.none c.in_ok-last.last (c.in_ok-last.ensures stage in_stage) c.in-None.is
    (λ idle. not_both c.is_empty.result (c.is_empty.ensures ∙ ap (λ (o : List ℕ). length o == 0) idle) c.if-is_empty.false)
