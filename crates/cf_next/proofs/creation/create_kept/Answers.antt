use Rattle.std.proofs.Common.{◌≡◌, IfSome, Option, Some, subst}
use Rattle.cf_effect.specs.declared.ahead.Ahead.{Ahead}
use Rattle.cf_effect.specs.Ahead.{IsAhead}
use Rattle.cf_next.proofs.creation.create_kept.Goals as goal

pub create_by-requires-clause-ahead : goal.create_by-requires-clause-ahead
create_by-requires-clause-ahead c =
    let there : c.args.findings.now.ahead ≡ Some c.in-Some.ahead = cc in
    subst (λ (o : Option Ahead). IfSome o (IsAhead c.args.stack.now.stack c.args.findings.now.made.items c.args.findings.now.found.items)) there c.requires.ahead

pub create_by-requires-clause-findings : goal.create_by-requires-clause-findings
create_by-requires-clause-findings c = c.requires.findings
