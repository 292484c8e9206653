use Rattle.std.proofs.Common.{◌≡◌, ℕ, ◌+◌, List, Option, refl, sym, ap, map, subst, ◌∙◌}
use Rattle.std.specs.Option.{option_map_or}
use Rattle.cf_tree.specs.Keys.{put, value_at}
use Rattle.cf_entry.specs.declared.entry.Entry.{Entry}
use Rattle.cf_stacks.specs.declared.standing.Fields.{Fields}
use Rattle.cf_stacks.specs.Room.{StackStanding, with_awaited}
use Rattle.cf_stacks.specs.Standing.{IsPartsOf, NamedStanding, awaited_known, calls_in, stack_called, stack_known}
use Rattle.cf_effect.specs.World.{StackState}
use Rattle.cf_stacks.proofs.Stepped.{called_so, parts_lists, stepped_on, there}
use Rattle.cf_stacks.proofs.Totals.{total_called}
use Rattle.cf_stacks.proofs.standing.Fields.step_call.Goals as goal

pub returns : goal.returns
returns c =
    let x : Fields = c.args.self.now in
    let e : Entry = c.args.entry in
    let name : List ℕ = c.args.name in
    let found = there (value_at name x.stacks) c.requires.stands in
    let s : StackStanding = found.0 in
    let v : StackStanding = stack_called c.args.parts e s in
    let parts : IsPartsOf e c.args.parts (x.place + 1) s.stack = subst (λ (t : StackState). IsPartsOf e c.args.parts (x.place + 1) t) (ap stack_known found.1) c.requires.parts in
    let so = called_so (x.place + 1) e c.args.parts s parts in
    let lists = parts_lists (x.place + 1) e c.args.parts s.stack parts in
    let is_put : c.call_on.new.stacks ≡ put name v x.stacks =
    c.call_on.ensures ∙ ap (λ (o : Option StackStanding). option_map_or (λ (t : StackStanding). put name (stack_called c.args.parts c.args.copy t) x.stacks) o x.stacks) found.1
    ∙ ap (λ (f : Entry). put name (stack_called c.args.parts f s) x.stacks) c.requires.copy in
    record {
      steps = stepped_on x c.call_on.new.stacks c.count.new.self e name s v c.in_order.ensures found.1 c.requires.of_it is_put lists.0 so.0 so.1 lists.1 lists.2 lists.3
          c.count.ensures.world (ap (map calls_in) c.count.ensures.stacks);
      total = rw (c.count.ensures.stacks, is_put) (total_called x.stacks c.in_order.ensures name v c.args.parts.pending.token (ap (with_awaited c.args.parts.pending.token) (sym (ap awaited_known found.1))));
    }
