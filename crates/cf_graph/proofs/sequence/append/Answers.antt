use Rattle.cf_graph.proofs.Lookups.{pushed}
use Rattle.cf_graph.proofs.sequence.append.Goals as goal

pub returns-in-Ok : goal.returns-in-Ok
returns-in-Ok c = pushed c.args.placed.now c.args.name.now c.in_ok-try_clone.field-0 c.args.needs.now c.in_ok-try_clone-2.field-0 c.insert.new.self.entries c.requires c.in_ok-try_clone.ensures c.in_ok-try_clone-2.ensures c.in-Ok.ensures.entries
