use Rattle.std.proofs.Common.{◌∙◌, ℕ, List, map, sym, ap}
use Rattle.std.specs.List.{list_any}
use Rattle.std.specs.Str.{bytes_eq}
use Rattle.cf_effect.specs.World.{StackState}
use Rattle.cf_stacks.specs.Standing.{NamedStanding, stack_in}
use Rattle.cf_plan.specs.Follow.{calls_in_flight}
use Rattle.cf_plan.proofs.Told.{any_mapped}
use Rattle.cf_plan.proofs.lanes.is_leased.Goals as goal

pub returns : goal.returns
returns c =
    let test = λ (s : List ℕ × StackState). list_any (λ k. bytes_eq c.args.lane.now k.lane) (calls_in_flight c.args.out.now s.1) in
    c.is_out_on_one.ensures ∙ sym (any_mapped stack_in test c.as_slice.result.now)
    ∙ ap (λ (ss : List (List ℕ × StackState)). list_any test ss) (ap (λ (ss : List NamedStanding). map stack_in ss) c.as_slice.ensures.value ∙ c.stacks.ensures)
