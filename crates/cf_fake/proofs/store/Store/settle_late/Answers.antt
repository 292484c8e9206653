use Rattle.std.proofs.Common.{None}
use Rattle.cf_fake.proofs.Keeps.{kept_with, may_late}
use Rattle.cf_fake.proofs.store.Store.settle_late.Goals as goal

pub returns-in_err-settlement-clause-may : goal.returns-in_err-settlement-clause-may
returns-in_err-settlement-clause-may c = may_late c.args.self.now.schema c.args.self.now.name c.args.self.now.settled.items c.args.token c.args.request.now c.args.self.now.named c.ranges.token.fits c.args.self.now.kept c.requires

pub enter-requires : goal.enter-requires
enter-requires c = kept_with None c.args.self.now.schema c.args.self.now.name c.args.self.now.settled.items c.args.token c.args.request.now c.in_ok-settlement.settlement c.args.self.now.named c.ranges.token.fits c.args.self.now.kept c.requires tt c.in_ok-settlement.ensures

pub returns-clause-may : goal.returns-clause-may
returns-clause-may c = may_late c.args.self.now.schema c.args.self.now.name c.args.self.now.settled.items c.args.token c.args.request.now c.args.self.now.named c.ranges.token.fits c.args.self.now.kept c.requires
