use Rattle.std.proofs.Common.{◌∙◌}
use Rattle.cf_next.proofs.Retaining.{told_named}
use Rattle.cf_next.proofs.retained.named_paths.Goals as goal

pub returns : goal.returns
returns c =
    told_named c.args.stack.now.stack c.operation.result c.as_slice.result.now c.named_among.result c.operation.ensures (c.as_slice.ensures.value ∙ c.entries.ensures)
    c.named_among.ensures
