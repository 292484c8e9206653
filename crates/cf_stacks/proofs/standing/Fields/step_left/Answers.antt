use Rattle.std.proofs.Common.{◌≡◌, ℕ, ◌+◌, refl, ap, map, ◌∙◌}
use Rattle.std.specs.Option.{unwrap_or}
use Rattle.cf_tree.specs.Keys.{put, value_at}
use Rattle.cf_stacks.specs.declared.standing.Fields.{Fields}
use Rattle.cf_effect.specs.Fold.{numbered}
use Rattle.cf_stacks.specs.Room.{StackStanding}
use Rattle.cf_stacks.specs.Standing.{NamedStanding, calls_in, calls_total, left_as, stack_known, world_in}
use Rattle.cf_effect.specs.World.{World}
use Rattle.cf_stacks.proofs.Stepped.{after, awaited_put, changed_put}
use Rattle.cf_stacks.proofs.Totals.{total_left}
use Rattle.cf_stacks.proofs.standing.Fields.step_left.Goals as goal

pub returns : goal.returns
returns c =
    let x : Fields = c.args.self.now in
    let mid : Fields = c.leave.new.self in
    let v : StackStanding = left_as c.args.entry c.args.left.state (value_at c.args.name x.stacks) in
    let es = unwrap_or c.args.left.exports x.exports in
    let ps = unwrap_or c.args.left.pins x.pins in
    let cs = unwrap_or c.args.left.claims x.claims in
    let is_mid : mid ≡ record x { stacks = put c.args.name v x.stacks; exports = es; pins = ps; claims = cs } =
    c.leave.ensures.rest ∙ ap (λ ss. record x { stacks = ss; exports = es; pins = ps; claims = cs }) c.leave.ensures.stacks in
    record {
      steps = record {
        world = after (world_in x) (world_in mid) (world_in c.count.new.self) c.args.entry
            (changed_put x mid c.args.entry c.args.name (stack_known (value_at c.args.name x.stacks)) v es ps cs c.requires.of_it is_mid c.requires.opening c.requires.left.stack c.requires.left.exports c.requires.left.pins c.requires.left.claims)
            (c.count.ensures.world ∙ ap (λ (y : Fields). record (numbered c.args.entry (world_in mid)) { place = y.place + 1 }) is_mid);
        awaited = ap (map calls_in) c.count.ensures.stacks ∙ awaited_put x mid c.args.entry c.args.name (stack_known (value_at c.args.name x.stacks)) v es ps cs c.requires.of_it is_mid refl;
      };
      total = rw (c.count.ensures.stacks, c.leave.ensures.stacks) (total_left x.stacks c.in_order.ensures c.args.name v c.args.entry c.requires.intent refl);
    }
