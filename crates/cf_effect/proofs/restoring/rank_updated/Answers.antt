use Rattle.std.proofs.Common.{◌≡◌}
use Rattle.cf_tree.specs.declared.request.Request.TheVariants as request
use Rattle.cf_effect.proofs.GivenBack.{updated_at}
use Rattle.cf_effect.proofs.restoring.rank_updated.Goals as goal

pub returns-in-Update : goal.returns-in-Update
returns-in-Update c =
    let asked : c.args.request.now ≡ request.Update c.in-Update.physical c.in-Update.props = cc in
    updated_at c.args.before.now c.args.restoring.now.paths c.in-Update.physical c.in-Update.props c.args.request.now c.rank_with.result asked c.rank_with.ensures
