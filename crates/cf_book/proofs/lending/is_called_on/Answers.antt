use Rattle.std.proofs.Common.{◌≡◌, List, ℕ, Option, Some, None, find, is_some, map, option_map, refl, sym, ◌∙◌, ap}
use Rattle.cf_effect.specs.Words.{pending_of}
use Rattle.cf_effect.specs.World.{StackState, stack_of_operation}
use Rattle.cf_stacks.specs.Room.{stack_of_call}
use Rattle.cf_stacks.specs.Standing.{NamedStanding, stack_in}
use Rattle.cf_plan.proofs.PropsStay.{find_on}
use Rattle.cf_book.specs.Lending.{is_called_on}
use Rattle.cf_book.proofs.lending.is_called_on.Goals as goal

pub returns-in-Some : goal.returns-in-Some
returns-in-Some c =
    let called : stack_of_call c.args.token c.args.world.now.world ≡ option_map stack_in (find (λ (s : NamedStanding). is_some (pending_of c.args.token s.1.stack)) c.as_slice.result.now) =
    ap (find (λ (s : List ℕ × StackState). is_some (pending_of c.args.token s.1))) (sym (ap (map stack_in) c.as_slice.ensures.value ∙ c.stacks.ensures))
    ∙ find_on stack_in (λ (s : List ℕ × StackState). is_some (pending_of c.args.token s.1)) c.as_slice.result.now in
    c.is_called_first.ensures
    ∙ ap (λ (o : Option (List ℕ × StackState)). is_called_on c.args.token o (option_map stack_in (find (λ (s : NamedStanding). is_some (pending_of c.args.token s.1.stack)) c.as_slice.result.now)))
    c.in-Some.ensures
    ∙ ap (is_called_on c.args.token (stack_of_operation c.args.number c.args.world.now.world)) (sym called)
