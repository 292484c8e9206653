use Rattle.std.proofs.Common.{◌≡◌, map, if◌then◌else◌}
use Rattle.cf_tree.proofs.Changed.{half_changed}
use Rattle.cf_effect.specs.declared.held.Held.{Held}
use Rattle.cf_effect.specs.End.{marked}
use Rattle.cf_effect.proofs.resources.mark.Given as goal

abbrev pub invariant-loop-held : goal.invariant-loop-held
invariant-loop-held l =
    let f : Held → Held = marked l.tokens in
    half_changed f l.held-index l.held-items ≡ map f l.fn.helds.items
