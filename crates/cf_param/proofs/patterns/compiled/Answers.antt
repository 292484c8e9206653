use Rattle.cf_param.proofs.PatternLemmas.{is_pattern-reads, is_pattern-refuses}
use Rattle.cf_param.proofs.patterns.compiled.Goals as goal

pub returns-in-Ok-clause-ok : goal.returns-in-Ok-clause-ok
returns-in-Ok-clause-ok c =
    let made = c.in-Ok.ensures in
    is_pattern-reads _ _ _ (rw (made.source, made.config) at made.read)

pub returns-in-Err-Syntax-clause-err : goal.returns-in-Err-Syntax-clause-err
returns-in-Err-Syntax-clause-err c =
    let err = c.in-Err-Syntax in
    is_pattern-refuses _ err.field-0-0.kind (rw err.field-0-is at err.ensures.kind) (err.ensures.by_grammar _ err.field-0-is)
