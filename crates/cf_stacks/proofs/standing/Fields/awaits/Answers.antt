use Rattle.std.proofs.Common.{false, find, sym, ap, ◌∙◌, List}
use Rattle.std.specs.Option.{option_map_or}
use Rattle.cf_stacks.specs.Room.{has_call}
use Rattle.cf_stacks.specs.Standing.{NamedStanding}
use Rattle.cf_effect.specs.World.{is_going}
use Rattle.cf_stacks.proofs.Prepared.{awaited_so}
use Rattle.cf_stacks.proofs.standing.Fields.awaits.Goals as goal

pub returns : goal.returns
returns c =
    c.awaits_in.ensures
    ∙ ap (λ (ss : List NamedStanding). option_map_or (λ (s : NamedStanding). has_call c.args.token s.1.awaited) (find (λ s. is_going c.args.number s.1.stack) ss) false) c.as_slice.ensures.value
    ∙ sym (awaited_so c.args.self.now c.in_order.ensures c.args.number c.args.token)
