-- The bytes of values (this project's own format): a byte for the kind, and then a text, eight bytes in two's complement, a truth value, a
-- list, or pairs of a text and a value.
use Rattle.std.specs.Prelude.{ℕ, suc, ◌<◌, ◌^◌, IsTrue, List, [], ◌∷◌, ◌++◌, FitsSigned}
use Rattle.std.specs.Int.{w64, cast_unsigned}
use Rattle.cf_tree.specs.Datum.{Data, Items, Members, text, whole, truth, list, dict, no_items, item, no_members, member, members_of}
use Rattle.cf_tree.specs.Keys.{ascends}
use Rattle.cf_entry.specs.Bytes.{four_bytes, eight_bytes, text_bytes, truth_byte, IsText}

-- how many members there are
abbrev pub number_of_items : Items → ℕ
number_of_items no_items = 0
number_of_items (item d ds) = suc (number_of_items ds)

abbrev pub number_of_members : Members → ℕ
number_of_members no_members = 0
number_of_members (member k d ms) = suc (number_of_members ms)

abbrev mutual
  pub value_bytes : Data → List ℕ
  value_bytes (text t) = 1 ∷ text_bytes t
  value_bytes (whole n) = 2 ∷ eight_bytes (cast_unsigned w64 n)
  value_bytes (truth b) = 3 ∷ (truth_byte b ∷ [])
  value_bytes (list ds) = 4 ∷ (four_bytes (number_of_items ds) ++ items_bytes ds)
  value_bytes (dict ms) = 5 ∷ (four_bytes (number_of_members ms) ++ members_bytes ms)

  pub items_bytes : Items → List ℕ
  items_bytes no_items = []
  items_bytes (item d ds) = value_bytes d ++ items_bytes ds

  pub members_bytes : Members → List ℕ
  members_bytes no_members = []
  members_bytes (member k d ms) = text_bytes k ++ (value_bytes d ++ members_bytes ms)

-- values behind their number
abbrev pub values_bytes : Items → List ℕ
values_bytes ds = four_bytes (number_of_items ds) ++ items_bytes ds

-- pairs without the byte for their kind, as properties and attributes are written
abbrev pub dict_bytes : List (List ℕ × Data) → List ℕ
dict_bytes ps = four_bytes (number_of_members (members_of ps)) ++ members_bytes (members_of ps)

abbrev pub pairs_of_members : Members → List (List ℕ × Data)
pairs_of_members no_members = []
pairs_of_members (member k d ms) = (k, d) ∷ pairs_of_members ms

-- what has a spelling: texts are texts, numbers fit, and keys strictly ascend
abbrev mutual
  pub IsValue : Data → Type 0
  IsValue (text t) = IsText t
  IsValue (whole n) = FitsSigned w64 n
  IsValue (truth b) = Unit {0}
  IsValue (list ds) = (number_of_items ds < 2 ^ 32) × AreValues ds
  IsValue (dict ms) = (number_of_members ms < 2 ^ 32) × IsTrue (ascends (pairs_of_members ms)) × AreMembers ms

  pub AreValues : Items → Type 0
  AreValues no_items = Unit {0}
  AreValues (item d ds) = IsValue d × AreValues ds

  pub AreMembers : Members → Type 0
  AreMembers no_members = Unit {0}
  AreMembers (member k d ms) = IsText k × IsValue d × AreMembers ms

abbrev pub IsList : Items → Type 0
IsList ds = (number_of_items ds < 2 ^ 32) × AreValues ds

abbrev pub IsDict : List (List ℕ × Data) → Type 0
IsDict ps = (number_of_members (members_of ps) < 2 ^ 32) × IsTrue (ascends (pairs_of_members (members_of ps))) × AreMembers (members_of ps)
