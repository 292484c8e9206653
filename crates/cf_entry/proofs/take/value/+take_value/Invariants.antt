use Rattle.std.proofs.Common.{◌≡◌, ◌-◌, ◌+◌, ◌*◌}
use Rattle.cf_tree.specs.Value.{data_of, pairs_of}
use Rattle.cf_entry.specs.Reading.{many_at, datum_at, then_at, text_at}
use Rattle.cf_entry.proofs.Many.{with_front}
use Rattle.cf_entry.proofs.take.value.+take_value.Given as goal

abbrev pub decreases-take_value : goal.decreases-take_value
decreases-take_value l = 4 * l.depth

abbrev pub decreases-take_pair : goal.decreases-take_pair
decreases-take_pair l = 4 * l.depth + 1

abbrev pub decreases-take_many_values : goal.decreases-take_many_values
decreases-take_many_values l = 4 * l.depth + 2

abbrev pub decreases-take_many_pairs : goal.decreases-take_many_pairs
decreases-take_many_pairs l = 4 * l.depth + 2

abbrev pub decreases-take_values : goal.decreases-take_values
decreases-take_values l = 4 * l.depth + 3

abbrev pub decreases-take_dict : goal.decreases-take_dict
decreases-take_dict l = 4 * l.depth + 3

abbrev pub invariant-take_many_values-loop : goal.invariant-take_many_values-loop
invariant-take_many_values-loop l = with_front (data_of l.values.items) (many_at (datum_at l.depth) (l.count - l.counter) l.rest) ≡ many_at (datum_at l.depth) l.count l.bytes

abbrev pub invariant-take_many_pairs-loop : goal.invariant-take_many_pairs-loop
invariant-take_many_pairs-loop l = with_front (pairs_of l.pairs.items) (many_at (then_at text_at (datum_at l.depth)) (l.count - l.counter) l.rest) ≡ many_at (then_at text_at (datum_at l.depth)) l.count l.bytes
