use Rattle.std.proofs.Common.{◌≡◌, drop}
use Rattle.serde_json.specs.View.{items_view, members_view}
use Rattle.cf_template.specs.Walk.{items_fault, members_fault}
use Rattle.cf_template.proofs.walk.+walk.Given as goal

abbrev pub invariant-walk_items-loop-item : goal.invariant-walk_items-loop-item
invariant-walk_items-loop-item l = record {
  place : l.path ≡ l.fn.path;
  count : l.index ≡ l.item-index;
  so_far : items_fault (items_view l.item-items) l.region l.fn.path 0 ≡ items_fault (items_view (drop l.item-index l.item-items)) l.region l.fn.path l.item-index;
}

abbrev pub invariant-walk_members-loop-name : goal.invariant-walk_members-loop-name
invariant-walk_members-loop-name l = record {
  place : l.path ≡ l.fn.path;
  so_far : members_fault (members_view l.members.entries) l.region l.fn.path ≡ members_fault (members_view l.name-iterator) l.region l.fn.path;
}
