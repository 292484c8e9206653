use Rattle.std.proofs.Common.{◌≡◌, ◌+◌, ◌≤◌, ◌<◌, ◌^◌, ◌++◌, length, drop, vec_len, vec_capacity}
use Rattle.cf_tree.specs.Datum.{items_of, members_of, parts_of, parts_of_items, parts_of_members}
use Rattle.cf_tree.specs.Value.{datum_of, data_of, pairs_of}
use Rattle.cf_entry.specs.Value.{items_bytes, members_bytes, values_bytes, dict_bytes, AreValues, AreMembers}
use Rattle.cf_entry.proofs.put.value.+put_value.Given as goal

abbrev pub decreases-put_value : goal.decreases-put_value
decreases-put_value l = parts_of (datum_of l.value.now)

abbrev pub decreases-put_values : goal.decreases-put_values
decreases-put_values l = parts_of_items (items_of l.values.now)

abbrev pub decreases-put_dict : goal.decreases-put_dict
decreases-put_dict l = parts_of_members (members_of l.pairs.now)

abbrev pub invariant-put_values-loop-value : goal.invariant-put_values-loop-value
invariant-put_values-loop-value l = record {
  small : length (items_bytes (items_of (data_of (drop l.value-index l.all)))) < 2 ^ 32;
  room : vec_len l.to + length (items_bytes (items_of (data_of (drop l.value-index l.all)))) ≤ vec_capacity l.to;
  so_far : l.to.items ++ items_bytes (items_of (data_of (drop l.value-index l.all))) ≡ l.fn.to.items ++ values_bytes (items_of (data_of l.all));
  so_long : vec_len l.to + length (items_bytes (items_of (data_of (drop l.value-index l.all)))) ≡ vec_len l.fn.to + length (values_bytes (items_of (data_of l.all)));
  capacity : vec_capacity l.fn.to ≤ vec_capacity l.to;
  fits : AreValues (items_of (data_of (drop l.value-index l.all))) → AreValues (items_of (data_of l.all));
}

abbrev pub invariant-put_dict-loop-pair : goal.invariant-put_dict-loop-pair
invariant-put_dict-loop-pair l = record {
  small : length (members_bytes (members_of (pairs_of (drop l.pair-index l.all)))) < 2 ^ 32;
  room : vec_len l.to + length (members_bytes (members_of (pairs_of (drop l.pair-index l.all)))) ≤ vec_capacity l.to;
  so_far : l.to.items ++ members_bytes (members_of (pairs_of (drop l.pair-index l.all))) ≡ l.fn.to.items ++ dict_bytes (pairs_of l.all);
  so_long : vec_len l.to + length (members_bytes (members_of (pairs_of (drop l.pair-index l.all)))) ≡ vec_len l.fn.to + length (dict_bytes (pairs_of l.all));
  capacity : vec_capacity l.fn.to ≤ vec_capacity l.to;
  fits : AreMembers (members_of (pairs_of (drop l.pair-index l.all))) → AreMembers (members_of (pairs_of l.all));
}
