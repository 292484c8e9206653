use Rattle.std.proofs.Common.{◌∙◌}
use Rattle.cf_graph.proofs.Among.{within, among}
use Rattle.cf_graph.proofs.needs.needs_among.Goals as goal

pub names_at-requires : goal.names_at-requires
names_at-requires c = within c.args.made.now c.args.names.now c.args.places.now c.in_ok-found.found c.requires c.in_ok-found.ensures

pub returns : goal.returns
returns c = c.in_ok-needs.ensures.value ∙ among c.args.made.now c.args.names.now c.args.places.now c.in_ok-found.found c.requires c.in_ok-found.ensures c.in_ok-needs.ensures.ordered
