use Rattle.std.proofs.Common.{◌<◌, arith, length}
use Rattle.cf_effect.proofs.Laid.{user_joined}
use Rattle.cf_effect.proofs.layout.add_user.Goals as goal

pub returns-in_ok-push : goal.returns-in_ok-push
returns-in_ok-push c =
    let within : c.args.at < length c.args.users.now.items = omega (arith, c.args.users.now.ok.0) in
    user_joined c.args.users.now.items c.args.at c.args.other c.index_mut.result.now c.push.new.self within c.index_mut.ensures.value c.in_ok-push.ensures.items
