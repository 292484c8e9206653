use Rattle.std.proofs.Common.{◌≡◌, arith, refl, sym, ap, map, subst, ◌∙◌}
use Rattle.std.specs.List.{AllByRecursion}
use Rattle.cf_stacks.specs.Standing.{HasOne, calls_in, stack_in}
use Rattle.cf_stacks.proofs.Awaiting.{same_order_stacks}
use Rattle.cf_stacks.proofs.standing.Fields.prepare_opening.Goals as goal

pub from_vec-requires : goal.from_vec-requires
from_vec-requires c = same_order_stacks c.reserve_each-reserved.new.pairs.items c.into_vec-pairs.result.items c.reserve_each-reserved.ensures.stacks c.into_vec-pairs.ensures.in_order

pub returns-in_err-reserved-clause-kept : goal.returns-in_err-reserved-clause-kept
returns-in_err-reserved-clause-kept c =
    record {
      rest = refl;
      stacks = ap (map stack_in) c.from_vec.ensures ∙ c.reserve_each-reserved.ensures.stacks ∙ ap (map stack_in) (c.into_vec-pairs.ensures.value ∙ c.replace.ensures.value);
      calls = ap (map calls_in) c.from_vec.ensures ∙ c.reserve_each-reserved.ensures.calls ∙ ap (map calls_in) (c.into_vec-pairs.ensures.value ∙ c.replace.ensures.value);
    }

pub returns-in-Ok : goal.returns-in-Ok
returns-in-Ok c = record {
  kept = record {
    rest = refl;
    stacks = ap (map stack_in) c.from_vec.ensures ∙ c.reserve_each-reserved.ensures.stacks ∙ ap (map stack_in) (c.into_vec-pairs.ensures.value ∙ c.replace.ensures.value);
    calls = ap (map calls_in) c.from_vec.ensures ∙ c.reserve_each-reserved.ensures.calls ∙ ap (map calls_in) (c.into_vec-pairs.ensures.value ∙ c.replace.ensures.value);
  };
  ok = record {
    opening = c.requires;
    spare = subst (AllByRecursion HasOne) (sym c.from_vec.ensures) c.in_ok-reserved.ensures.ok;
    copies = c.in-Ok.ensures.copies;
    enough = omega (arith, c.len.ensures, c.in-Ok.ensures.count);
  };
}

pub returns-in-Err : goal.returns-in-Err
returns-in-Err c = record {
  kept = record {
    rest = refl;
    stacks = ap (map stack_in) c.from_vec.ensures ∙ c.reserve_each-reserved.ensures.stacks ∙ ap (map stack_in) (c.into_vec-pairs.ensures.value ∙ c.replace.ensures.value);
    calls = ap (map calls_in) c.from_vec.ensures ∙ c.reserve_each-reserved.ensures.calls ∙ ap (map calls_in) (c.into_vec-pairs.ensures.value ∙ c.replace.ensures.value);
  };
  ok = tt;
}
