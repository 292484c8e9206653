use Rattle.std.proofs.Common.{IfSome, Option, subst, sym}
use Rattle.cf_effect.specs.declared.findings.Findings.{Findings}
use Rattle.cf_effect.specs.Ahead.{AreKept}
use Rattle.cf_effect.specs.Findings.{AreFindings}
use Rattle.cf_effect.proofs.Followed.{findings_kept}
use Rattle.cf_stacks.specs.Room.{StackStanding}
use Rattle.cf_stacks.proofs.stack.StackState.findings.Goals as goal

pub returns-clause-kept : goal.returns-clause-kept
returns-clause-kept c =
    subst (λ (o : Option Findings). IfSome o (AreKept c.args.self.now.stack)) (sym c.as_ref.ensures.value)
    (subst (λ (v : StackStanding). IfSome c.self.inside.findings (AreKept v.stack)) c.self.view_is c.self.invariant.findings)

pub returns-clause-findings : goal.returns-clause-findings
returns-clause-findings c = findings_kept c.args.self.now.stack _ (returns-clause-kept c)
