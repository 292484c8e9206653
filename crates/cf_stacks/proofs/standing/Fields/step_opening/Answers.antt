use Rattle.std.proofs.Common.{◌≡◌, ◌+◌, refl, ap, map, ◌∙◌}
use Rattle.cf_stacks.specs.declared.standing.Fields.{Fields}
use Rattle.cf_stacks.specs.Standing.{NamedStanding, calls_in, calls_total, opened_as, standing_in, world_in}
use Rattle.cf_stacks.proofs.Stepped.{after, awaited_all, changed_all}
use Rattle.cf_stacks.proofs.Totals.{total_opened}
use Rattle.cf_stacks.proofs.standing.Fields.step_opening.Goals as goal

pub returns : goal.returns
returns c =
    let x : Fields = c.args.self.now in
    let mid : Fields = record x { stacks = c.open_all.new.stacks } in
    record {
      steps = record {
        world = after (world_in x) (world_in mid) (world_in c.count.new.self) c.args.entry
            (changed_all x mid c.args.entry (opened_as (x.place + 1) c.args.entry) c.requires.opening (λ s. refl) (ap (λ ss. record x { stacks = ss }) c.open_all.ensures)) c.count.ensures.world;
        awaited = ap (map calls_in) (c.count.ensures.stacks ∙ c.open_all.ensures) ∙ awaited_all x c.args.entry (opened_as (x.place + 1) c.args.entry) c.requires.opening (λ s. refl);
      };
      total = ap calls_total (c.count.ensures.stacks ∙ c.open_all.ensures) ∙ total_opened (x.place + 1) c.args.entry x.stacks;
    }
