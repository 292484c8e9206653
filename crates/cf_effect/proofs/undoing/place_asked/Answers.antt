use Rattle.std.proofs.Common.{◌≡◌}
use Rattle.cf_tree.specs.declared.request.Request.TheVariants as request
use Rattle.cf_effect.proofs.Undone.{asked_at}
use Rattle.cf_effect.proofs.undoing.place_asked.Goals as goal

pub returns-in-Delete : goal.returns-in-Delete
returns-in-Delete c =
    let asked : c.args.request.now ≡ request.Delete c.in-Delete.physical = cc in
    asked_at c.args.undoing.now c.args.path.now c.in-Delete.physical c.args.request.now c.place_with.result asked c.place_with.ensures
