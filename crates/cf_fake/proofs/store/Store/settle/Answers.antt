use Rattle.cf_fake.proofs.Keeps.{kept_with}
use Rattle.cf_fake.proofs.store.Store.settle.Goals as goal

pub enter-requires : goal.enter-requires
enter-requires c = kept_with c.args.planned c.args.self.now.schema c.args.self.now.name c.args.self.now.settled.items c.args.token c.args.request.now c.in_ok-settlement.settlement c.args.self.now.named c.ranges.token.fits c.args.self.now.kept c.requires.new c.requires.fits c.in_ok-settlement.ensures
