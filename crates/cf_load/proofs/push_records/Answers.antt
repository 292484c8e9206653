use Rattle.std.proofs.Common.{◌+◌, ◌++◌, ◌∙◌, ap, string_bytes}
use Rattle.cf_load.specs.Text.{comma_after, record_text}
use Rattle.cf_load.proofs.Pieces.{behind}
use Rattle.cf_load.proofs.push_records.Goals as goal

pub loop-made-preserved : goal.loop-made-preserved
loop-made-preserved c =
    c.in_ok-push_record.ensures
    ∙ ap (λ t. t ++ record_text (c.loop-made.made + 1)) (c.in_ok-push_comma.ensures
    ∙ ap (λ t. t ++ comma_after c.loop-made.made) c.loop-made.invariant)
    ∙ behind c.loop-made.made (string_bytes c.args.text.now)
