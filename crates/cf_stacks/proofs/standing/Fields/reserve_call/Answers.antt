use Rattle.std.proofs.Common.{◌≡◌, ◌≤◌, IfSome, List, find, refl, sym, ap, map, subst, ◌∙◌}
use Rattle.cf_stacks.specs.Standing.{NamedStanding, calls_in, stack_in}
use Rattle.cf_effect.specs.World.{is_going}
use Rattle.cf_stacks.proofs.Awaiting.{same_order_stacks}
use Rattle.cf_stacks.proofs.Places.{on_ok}
use Rattle.cf_stacks.proofs.standing.Fields.reserve_call.Goals as goal

pub from_vec-requires : goal.from_vec-requires
from_vec-requires c = same_order_stacks c.reserve_going-reserved.new.pairs.items c.into_vec-pairs.result.items c.reserve_going-reserved.ensures.stacks c.into_vec-pairs.ensures.in_order

pub returns-clause-kept : goal.returns-clause-kept
returns-clause-kept c =
    record {
      rest = refl;
      stacks = ap (map stack_in) c.from_vec.ensures ∙ c.reserve_going-reserved.ensures.stacks ∙ ap (map stack_in) (c.into_vec-pairs.ensures.value ∙ c.replace.ensures.value);
      calls = ap (map calls_in) c.from_vec.ensures ∙ c.reserve_going-reserved.ensures.calls ∙ ap (map calls_in) (c.into_vec-pairs.ensures.value ∙ c.replace.ensures.value);
    }

pub returns-clause-ok : goal.returns-clause-ok
returns-clause-ok c =
    on_ok c.reserve_going-reserved.result c.reserve_going-reserved.ensures.ok
    (λ h. subst (λ (ss : List NamedStanding). IfSome (find (λ s. is_going c.args.number s.1.stack) ss) (λ s. 2 ≤ s.1.spare)) (sym c.from_vec.ensures) h)
