use Rattle.std.proofs.Common.{Err, [], inl, inr, refl, rules}
use Rattle.cf_face.specs.declared.exit.Exit.TheVariants as exit
use Rattle.cf_face.specs.declared.words.Task.TheVariants.{Resume}
use Rattle.cf_journal.proofs.Moments.{started}
use Rattle.cf_workers.specs.Along.{IsOldOrAlong}
use Rattle.cf_top.proofs.Loading.{loadable}
use Rattle.cf_top.proofs.top.run_words.Goals as goal

pub recover_and_do-requires-clause-few : goal.recover_and_do-requires-clause-few
recover_and_do-requires-clause-few g c = loadable c.args.words.now c.in-Ok-Some.stack c.in-Ok-Some.task (search rules)

pub returns-in-Ok-Some-clause-tells : goal.returns-in-Ok-Some-clause-tells
returns-in-Ok-Some-clause-tells g c =
    let d = c.recover_and_do.ensures.tells in (c.in-Ok-Some.stack, c.in-Ok-Some.task, d.0, inr (inr (search rules, d.1)), d.2)

pub returns-in-Ok-None-clause-any_moment : goal.returns-in-Ok-None-clause-any_moment
returns-in-Ok-None-clause-any_moment g c told =
    started g.D.Disk.moment g.D.Disk.left_since c.args.disk (IsOldOrAlong g.D.Disk g.H.Handler c.args.disk c.args.disk c.args.lanes.items) (λ file left. inl (g.met.D.Disk.only_now c.args.disk file told left))

pub returns-in-Ok-None-clause-tells : goal.returns-in-Ok-None-clause-tells
returns-in-Ok-None-clause-tells g c = ([], Resume, Err exit.BadWords, inl (refl, search rules, (refl, refl, (refl, refl))), c.print_exit-exit.ensures.tells)

pub returns-in-Err-clause-any_moment : goal.returns-in-Err-clause-any_moment
returns-in-Err-clause-any_moment g c told =
    started g.D.Disk.moment g.D.Disk.left_since c.args.disk (IsOldOrAlong g.D.Disk g.H.Handler c.args.disk c.args.disk c.args.lanes.items) (λ file left. inl (g.met.D.Disk.only_now c.args.disk file told left))

pub returns-in-Err-clause-tells : goal.returns-in-Err-clause-tells
returns-in-Err-clause-tells g c = ([], Resume, Err exit.NoMemory, inr (inl (refl, (refl, refl, (refl, refl)))), c.print_exit-exit-in-Err.ensures.tells)
