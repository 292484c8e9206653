use Rattle.std.proofs.Common.{◌≡◌, ℕ, List, ◌&&◌, take}
use Rattle.std.specs.List.{list_any}
use Rattle.std.specs.Str.{bytes_eq}
use Rattle.cf_tree.specs.Lists.{is_among}
use Rattle.cf_graph.specs.Needs.{needs_listed}
use Rattle.cf_graph.specs.Cycles.{is_on_level}
use Rattle.cf_graph.proofs.cycle.first_level.Given as goal

abbrev pub invariant-loop-row : goal.invariant-loop-row
invariant-loop-row l =
    (q : List ℕ) → is_on_level l.level q ≡ list_any (λ r. bytes_eq q r.0 && is_among l.start (needs_listed l.rows.entries r.0)) (take l.row-index l.all)
