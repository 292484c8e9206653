use Rattle.std.proofs.Common.{ap, ◌∙◌, map}
use Rattle.cf_stacks.specs.Standing.{stack_in}
use Rattle.cf_book.proofs.Numbers.{apart_of}
use Rattle.cf_book.proofs.apart.is_apart.Goals as goal

pub returns : goal.returns
returns c = record {
  apart = λ t.
      apart_of c.args.world.now.world c.as_slice.result.now c.are_apart.result c.operation.result (ap (map stack_in) c.as_slice.ensures.value ∙ c.stacks.ensures) c.as_slice.ensures.in_order c.operation.ensures c.are_apart.ensures t;
}
