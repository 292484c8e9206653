use Rattle.std.proofs.Common.{subst}
use Rattle.cf_tree.specs.declared.source.Source.{Source}
use Rattle.cf_prepare.specs.Leaving.{HasOnlyUsed}
use Rattle.cf_prepare.proofs.Leaving.{uses_left}
use Rattle.cf_prepare.proofs.imports.imports_left.Goals as goal

pub returns-in-Ok : goal.returns-in-Ok
returns-in-Ok c =
    uses_left c.args.source.now c.args.seen.now c.args.wanted.now c.leave_unused_out.new.source c.requires.plan c.requires.differs
    (subst (λ (s : Source). HasOnlyUsed c.args.seen.now c.args.wanted.now s c.leave_unused_out.new.source) c.in_ok-trial.ensures c.in-Ok.ensures)
