use Rattle.cf_examples.proofs.FirstResource.{leaves, legal, updated_though_the_same}
use Rattle.cf_examples.proofs.the_first_resource.Goals as goal

pub returns-clause-legal : goal.returns-clause-legal
returns-clause-legal c = legal

pub returns-clause-leaves : goal.returns-clause-leaves
returns-clause-leaves c = leaves

pub returns-clause-nothing_changes : goal.returns-clause-nothing_changes
returns-clause-nothing_changes c = updated_though_the_same
