use Rattle.std.proofs.Common.{◌∙◌, sym}
use Rattle.cf_next.specs.Unmaking.{is_cleanup}
use Rattle.cf_next.proofs.FactsTold.{told_doubted}
use Rattle.cf_next.proofs.facts.doubted_for.Goals as goal

pub returns-then-is_cleanup : goal.returns-then-is_cleanup
returns-then-is_cleanup c =
    told_doubted c.args.stack.now.stack c.as_slice.result.now c.doubted_by.result (is_cleanup c.args.stage) (c.as_slice.ensures.value ∙ c.tokens.ensures)
    (sym c.is_cleanup.ensures ∙ c.if-is_cleanup.true) c.doubted_by.ensures
