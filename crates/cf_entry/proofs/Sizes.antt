-- The lengths of the bytes of values, as the sums that they are.
use Rattle.std.proofs.Common.{◌≡◌, ℕ, List, ◌++◌, length, refl, arith, length-append}
use Rattle.cf_tree.specs.Datum.{Data, Items, Members, text, whole, truth, list, dict, no_items, item, no_members, member, members_of}
use Rattle.cf_tree.specs.SizeOf.{size_of, size_of_items, size_of_members, size_of_dict}
use Rattle.cf_entry.specs.Bytes.{text_bytes}
use Rattle.cf_entry.specs.Value.{value_bytes, items_bytes, members_bytes, dict_bytes}

mutual
  value_is_long : (d : Data) → size_of d ≡ length (value_bytes d)
  value_is_long (text t) = omega arith
  value_is_long (whole n) = refl
  value_is_long (truth b) = refl
  value_is_long (list ds) = omega (arith, items_are_long ds)
  value_is_long (dict ms) = omega (arith, members_are_long ms)

  items_are_long : (ds : Items) → size_of_items ds ≡ length (items_bytes ds)
  items_are_long no_items = refl
  items_are_long (item d ds) = omega (arith, length-append (value_bytes d) (items_bytes ds), value_is_long d, items_are_long ds)

  members_are_long : (ms : Members) → size_of_members ms ≡ length (members_bytes ms)
  members_are_long no_members = refl
  members_are_long (member k d ms) = omega (arith, length-append (text_bytes k) (value_bytes d ++ members_bytes ms), length-append (value_bytes d) (members_bytes ms), value_is_long d, members_are_long ms)

pub dict_is_long : (ps : List (List ℕ × Data)) → size_of_dict ps ≡ length (dict_bytes ps)
dict_is_long ps = omega (arith, members_are_long (members_of ps))
