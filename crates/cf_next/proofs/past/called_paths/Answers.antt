use Rattle.std.proofs.Common.{◌∙◌, ℕ, List, Bool, [], true, ap, fold, not}
use Rattle.std.proofs.lemmas.Result.{IfOk-weaker}
use Rattle.cf_effect.specs.declared.held.Pending.{Pending}
use Rattle.cf_next.specs.Restoring.{is_marked, mark_if}
use Rattle.cf_next.proofs.Marked.{marked_keys}
use Rattle.cf_next.proofs.past.called_paths.Goals as goal

pub returns : goal.returns
returns c =
    IfOk-weaker c.paths_of.result _ _
    (λ marks e path.
    ap (λ (ms : List (List ℕ × Bool)). not (is_marked path ms))
    (e ∙ ap (fold (λ (ms : List (List ℕ × Bool)) (p : Pending). mark_if true p.path ms) []) (c.as_slice.ensures.value ∙ c.tokens.ensures))
    ∙ ap not (marked_keys (λ (p : Pending). p.path) path c.args.stack.now.stack.tokens []))
    c.paths_of.ensures
