use Rattle.std.proofs.Common.{◌≡◌, IfSome, Option, Some, subst}
use Rattle.cf_effect.specs.declared.findings.Findings.{Findings}
use Rattle.cf_effect.specs.Ahead.{AreKept}
use Rattle.cf_effect.proofs.Followed.{called_kept}
use Rattle.cf_effect.proofs.ahead.follow_call.Goals as goal

pub returns-in-Some : goal.returns-in-Some
returns-in-Some c =
    λ s number lines kept.
    let there : c.args.findings.now ≡ Some c.in-Some.findings = cc in
    called_kept c.args.pending.now c.args.entry.now c.in-Some.findings c.lose_unless.new.findings c.goes_on.result c.goes_on.ensures c.lose_unless.ensures s number lines
    (subst (λ (o : Option Findings). IfSome o (AreKept s)) there kept)
