use Rattle.std.proofs.Common.{◌≡◌, map, if◌then◌else◌}
use Rattle.cf_tree.proofs.Changed.{half_changed}
use Rattle.cf_effect.specs.declared.call.Call.{Call}
use Rattle.cf_effect.specs.Calls.{anew}
use Rattle.cf_effect.proofs.ledger.count_anew.Given as goal

abbrev pub invariant-loop-call : goal.invariant-loop-call
invariant-loop-call l =
    let f : Call → Call = anew in
    half_changed f l.call-index l.call-items ≡ map f l.fn.ledger.items
