use Rattle.std.proofs.Common.{IfOk, ap, subst}
use Rattle.cf_effect.specs.Findings.{AreFindings}
use Rattle.cf_effect.specs.World.{StackState}
use Rattle.cf_stacks.specs.Room.{StackStanding}
use Rattle.cf_stacks.proofs.stack.StackState.findings_anew.Goals as goal

pub returns : goal.returns
returns c = subst (λ (s : StackState). IfOk c.findings_of.result (AreFindings s)) (ap (λ (v : StackStanding). v.stack) c.self.view_is) c.findings_of.ensures.findings
