use Rattle.std.proofs.Common.{◌∙◌, ap, sym, is_some}
use Rattle.cf_graph.proofs.Alike.{with_row, without_row}
use Rattle.cf_graph.proofs.Lookups.{lookup_is_value_at}
use Rattle.cf_graph.proofs.cycle.append_first.Goals as goal

pub returns-then-contains_key : goal.returns-then-contains_key
returns-then-contains_key c = λ ps h.
    without_row c.args.name.now c.args.needs.now c.args.rows.now.entries ps h
    (ap is_some (sym (lookup_is_value_at c.args.name.now c.args.rows.now.entries)) ∙ sym c.contains_key.ensures ∙ c.if-contains_key.true)

pub returns-in_ok-append : goal.returns-in_ok-append
returns-in_ok-append c = λ ps h. with_row c.args.name.now c.args.needs.now c.args.rows.now.entries ps c.append.new.placed.entries h c.in_ok-append.ensures
