use Rattle.std.proofs.Common.{◌∙◌, ℕ, List, Bool, [], ap, fold}
use Rattle.std.proofs.lemmas.Result.{IfOk-weaker}
use Rattle.cf_entry.specs.declared.entry.Entry.{Entry}
use Rattle.cf_effect.specs.Operation.{named_in}
use Rattle.cf_next.specs.Restoring.{is_marked, with_marks}
use Rattle.cf_next.proofs.Marked.{marked_named}
use Rattle.cf_next.proofs.past.skipped_paths.Goals as goal

pub returns : goal.returns
returns c =
    IfOk-weaker c.named_by.result _ _
    (λ marks e path.
    ap (is_marked path) (e ∙ ap (fold (λ (ms : List (List ℕ × Bool)) (n : Entry). with_marks (named_in n) ms) []) (c.as_slice.ensures.value ∙ c.entries.ensures))
    ∙ marked_named path c.args.stack.now.stack.entries [])
    c.named_by.ensures
