use Rattle.std.proofs.Common.{◌≡◌, ℕ, ◌+◌, List, Option, Some, refl, sym, ap, map, ◌∙◌}
use Rattle.std.specs.Option.{option_map_or}
use Rattle.cf_tree.specs.Keys.{put, value_at}
use Rattle.cf_entry.specs.declared.entry.Entry.{Entry}
use Rattle.cf_stacks.specs.declared.standing.Fields.{Fields}
use Rattle.cf_stacks.specs.Room.{StackStanding, calls_after, has_call, without_awaited}
use Rattle.cf_stacks.specs.Standing.{NamedStanding, answered_at, awaited_known, calls_in, world_in}
use Rattle.cf_effect.specs.World.{World}
use Rattle.cf_stacks.proofs.Answering.{is_of_it, is_outcome, stands_there, waits, waits_there}
use Rattle.cf_stacks.proofs.Calling.{outcome_calls}
use Rattle.cf_stacks.proofs.Stepped.{stepped_on}
use Rattle.cf_stacks.proofs.Totals.{total_answered}
use Rattle.cf_stacks.proofs.standing.Fields.step_answer.Goals as goal

pub answer_going-requires : goal.answer_going-requires
answer_going-requires c =
    let o = is_outcome c.args.number c.args.token c.args.entry c.args.self.now c.requires.answer in
    record { entry = o.outcome; awaited = waits_there c.args.self.now c.in_order.ensures c.args.number c.args.token o.awaited }

pub returns : goal.returns
returns c =
    let x : Fields = c.args.self.now in
    let e : Entry = c.args.entry in
    let o = is_outcome c.args.number c.args.token e x c.requires.answer in
    let w = waits x c.in_order.ensures c.args.number c.args.token o.awaited in
    let name : List ℕ = w.0.0 in
    let s : StackStanding = w.0.1 in
    let v : StackStanding = answered_at (x.place + 1) e s in
    let stands : value_at name x.stacks ≡ Some s = stands_there x c.in_order.ensures c.args.number c.args.token o.awaited in
    let is_put : c.answer_going.new.stacks ≡ put name v x.stacks =
    c.answer_going.ensures ∙ ap (λ (p : Option NamedStanding). option_map_or (λ (t : NamedStanding). put t.0 (answered_at (x.place + 1) e t.1) x.stacks) p x.stacks) w.1 in
    record {
      steps = stepped_on x c.answer_going.new.stacks _ e name s v c.in_order.ensures stands (o.of_it ∙ is_of_it x c.in_order.ensures c.args.number c.args.token o.awaited) is_put
          o.opening refl refl (o.exports (x.place + 1) s.stack) (o.pins (x.place + 1) s.stack) (o.claims (x.place + 1) s.stack)
          (sym (ap (λ (y : World). record y { place = x.place + 1 }) (o.numbered_so (world_in (record x { stacks = c.answer_going.new.stacks }))))) refl;
      total = rw is_put (total_answered x.stacks c.in_order.ensures name v c.args.token (ap (λ (q : Option StackStanding). has_call c.args.token (awaited_known q)) stands ∙ w.2)
          (sym (outcome_calls c.args.token e s.awaited o.outcome) ∙ ap (without_awaited c.args.token) (sym (ap awaited_known stands))));
    }
