use Rattle.std.proofs.Common.{◌≡◌, IfOk, find, rules}
use Rattle.cf_handler.specs.Lane.{live_of}
use Rattle.cf_fake.specs.Sound.{lane_of}
use Rattle.cf_answers.specs.Table.{is_of_id, look_at}
use Rattle.cf_fake.proofs.Keeps.{shows_short}
use Rattle.cf_fake.proofs.store.Store.look.Goals as goal

pub returns-clause-limits : goal.returns-clause-limits
returns-clause-limits c =
    let shows : IfOk c.look_at.result (λ l. l ≡ look_at (find (is_of_id c.args.id.now) (live_of (lane_of c.args.self.now.settled.items)))) = search rules in
    shows_short c.args.id.now (live_of (lane_of c.args.self.now.settled.items)) c.look_at.result c.args.self.now.kept.short shows
