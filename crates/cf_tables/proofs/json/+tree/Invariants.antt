use Rattle.std.proofs.Common.{◌+◌, ◌*◌}
use Rattle.cf_tree.specs.Datum.{parts_of, parts_of_items, parts_of_members, items_of, members_of}
use Rattle.cf_tree.specs.Value.{datum_of, data_of, pairs_of}
use Rattle.cf_tables.proofs.json.+tree.Given as goal

abbrev pub decreases-push_value : goal.decreases-push_value
decreases-push_value l = 2 * parts_of (datum_of l.value.now)

abbrev pub decreases-push_items : goal.decreases-push_items
decreases-push_items l = 2 * parts_of_items (items_of (data_of l.items.now)) + 1

abbrev pub decreases-push_members : goal.decreases-push_members
decreases-push_members l = 2 * parts_of_members (members_of (pairs_of l.pairs.now)) + 1
