use Rattle.std.proofs.Common.{◌∙◌, ◌&&◌, ◌||◌, ℕ, List, Bool, ap, sym}
use Rattle.std.specs.Str.{bytes_eq}
use Rattle.std.proofs.Math.Bool.{and-true}
use Rattle.cf_graph.specs.Cycles.{is_on_level}
use Rattle.cf_graph.proofs.Sets.{has_text}
use Rattle.cf_graph.proofs.cycle.add_where.Goals as goal

pub returns-in_ok-insert : goal.returns-in_ok-insert
returns-in_ok-insert c = λ q.
    has_text c.args.level.now c.insert.new.self c.in_ok-try_clone.field-0 c.in_ok-insert.ensures.updates q
    ∙ ap (λ (k : List ℕ). is_on_level c.args.level.now q || bytes_eq q k) c.in_ok-try_clone.ensures
    ∙ ap (λ (b : Bool). is_on_level c.args.level.now q || b) (sym (and-true (bytes_eq q c.args.name.now)) ∙ ap (λ (l : Bool). bytes_eq q c.args.name.now && l) (sym c.if-leads.true))
