use Rattle.std.proofs.Common.{IfOk, rules}
use Rattle.cf_handler.specs.Lane.{settlement_of}
use Rattle.cf_fake.specs.Plan.{IsWorked, new_entry}
use Rattle.cf_fake.proofs.Keeps.{works}
use Rattle.cf_fake.proofs.store.Store.answer.Goals as goal

pub returns-in-Some-clause-moves : goal.returns-in-Some-clause-moves
returns-in-Some-clause-moves c =
    let worked : IfOk c.told_by.result (IsWorked c.args.planned (settlement_of c.args.token c.args.self.now.settled.items) (new_entry c.args.planned c.args.self.now.schema c.args.self.now.name c.args.token c.args.request.now c.args.self.now.settled.items) c.args.self.now.settled.items c.args.self.now.settled.items) = search rules in
    works c.args.planned c.args.self.now.schema c.args.self.now.name c.args.self.now.settled.items c.args.self.now.settled.items c.args.token c.args.request.now c.told_by.result c.args.self.now.named c.ranges.token.fits c.args.self.now.kept c.requires worked

pub returns-in-None-clause-moves : goal.returns-in-None-clause-moves
returns-in-None-clause-moves c =
    let worked : IfOk c.settle.result (IsWorked c.args.planned (settlement_of c.args.token c.args.self.now.settled.items) (new_entry c.args.planned c.args.self.now.schema c.args.self.now.name c.args.token c.args.request.now c.args.self.now.settled.items) c.args.self.now.settled.items c.settle.new.self.settled.items) = search rules in
    works c.args.planned c.args.self.now.schema c.args.self.now.name c.args.self.now.settled.items c.settle.new.self.settled.items c.args.token c.args.request.now c.settle.result c.args.self.now.named c.ranges.token.fits c.args.self.now.kept c.requires worked
