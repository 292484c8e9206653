use Rattle.std.proofs.Common.{◌≡◌, ◌+◌, ◌≤◌, ◌^◌, drop}
use Rattle.cf_tree.specs.Datum.{items_of, members_of}
use Rattle.cf_tree.specs.SizeOf.{capped, size_of_items, size_of_members}
use Rattle.cf_tree.specs.Value.{data_of, pairs_of}
use Rattle.cf_tree.proofs.value.+val_size.Given as goal

abbrev pub invariant-Dict::members_size-loop-pair : goal.invariant-Dict::members_size-loop-pair
invariant-Dict::members_size-loop-pair l = record {
  in_range : l.total ≤ 2 ^ 63;
  so_far : capped (size_of_members (members_of l.self)) ≡ capped (l.total + size_of_members (members_of (pairs_of (drop l.pair-index l.pair-items))));
}

abbrev pub invariant-Vals::members_size-loop-item : goal.invariant-Vals::members_size-loop-item
invariant-Vals::members_size-loop-item l = record {
  in_range : l.total ≤ 2 ^ 63;
  so_far : capped (size_of_items (items_of l.self)) ≡ capped (l.total + size_of_items (items_of (data_of (drop l.item-index l.item-items))));
}
