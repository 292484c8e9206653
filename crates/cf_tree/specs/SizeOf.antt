-- How long a value's encoding is (this project's own format): a byte for its kind, then a text or a list behind its length in four bytes.
use Rattle.std.specs.Prelude.{ℕ, ◌+◌, ◌^◌, min, List, length}
use Rattle.cf_tree.specs.Datum.{Data, Items, Members, text, whole, truth, list, dict, no_items, item, no_members, member, members_of}

-- a text behind its length in four bytes
abbrev pub size_of_text : List ℕ → ℕ
size_of_text t = 4 + length t

abbrev mutual
  pub size_of : Data → ℕ
  size_of (text t) = 1 + size_of_text t
  size_of (whole n) = 9
  size_of (truth b) = 2
  size_of (list ds) = 5 + size_of_items ds
  size_of (dict ms) = 5 + size_of_members ms

  pub size_of_items : Items → ℕ
  size_of_items no_items = 0
  size_of_items (item d ds) = size_of d + size_of_items ds

  pub size_of_members : Members → ℕ
  size_of_members no_members = 0
  size_of_members (member k d ms) = size_of_text k + size_of d + size_of_members ms

-- a dictionary without the byte for its kind, as properties and attributes are counted
abbrev pub size_of_dict : List (List ℕ × Data) → ℕ
size_of_dict ps = 4 + size_of_members (members_of ps)

-- a length, where 2 ^ 63 stands for every greater one
abbrev pub capped : ℕ → ℕ
capped n = min n (2 ^ 63)
