use Rattle.std.proofs.Common.{ap, sym, ◌∙◌, option_copied}
use Rattle.cf_graph.proofs.Back.{last_level}
use Rattle.cf_graph.proofs.cycle.level_after.Goals as goal

pub returns-in_ok-next_level-in-Some : goal.returns-in_ok-next_level-in-Some
returns-in_ok-next_level-in-Some c =
    let l = last_level c.args.all.now c.args.start.now c.args.levels.now c.in-Some.last.now c.requires.levels (sym (ap option_copied c.in-Some.is) ∙ c.last.ensures.value) in
    c.in_ok-next_level-in-Some.ensures c.args.start.now _ l.0 l.1
