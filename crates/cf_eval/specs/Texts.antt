-- Values as the functions want them: as texts, as lists, as an index (template reference, intrinsic functions; the limit on values is
-- this project's own).
use Rattle.std.specs.Prelude.{ℕ, ◌^◌, ℤ, pos, negsuc, Bool, ◌&&◌, List, [], ◌∷◌, Option, Some, None, if◌then◌else◌, codes, nat_lt}
use Rattle.std.specs.Fmt.{signed_decimal}
use Rattle.std.specs.Str.{bytes_eq}
use Rattle.std.specs.Str.Parse.{signed_digits_value}
use Rattle.cf_tree.specs.Datum.{Data, Items, text, whole, truth, list, dict, no_items, item}
use Rattle.cf_tree.specs.SizeOf.{size_of}
use Rattle.cf_eval.specs.Outcome.{Outcome, got, later, bad, fault, on_got, or_wrong}
use Rattle.cf_eval.specs.declared.fault.EvalWhy.TheVariants.{TooBig}

-- an evaluation gives a value, or None for `AWS::NoValue`; else Later or a fault
abbrev pub Found : Type 0
Found = Outcome (Option Data)

abbrev pub known : Data → Found
known d = got (Some d)

-- a truth value as a text
abbrev pub truth_text : Bool → List ℕ
truth_text b = if b then codes "true" else codes "false"

-- a value as a text: a whole number in decimal, a truth value as `true` or `false`; no list and no map is one
abbrev pub text_of : Data → Option (List ℕ)
text_of (text t) = Some t
text_of (whole n) = Some (signed_decimal n)
text_of (truth b) = Some (truth_text b)
text_of (list ds) = None
text_of (dict ms) = None

-- a value that is wanted as a text at a place
abbrev pub wanted_text : List ℕ → Option Data → Outcome (List ℕ)
wanted_text at None = or_wrong at None
wanted_text at (Some d) = or_wrong at (text_of d)

-- a part that is wanted as a text
abbrev pub as_text : List ℕ → Found → Outcome (List ℕ)
as_text at x = on_got x (wanted_text at)

-- the members of a list
abbrev pub data_in : Items → List Data
data_in no_items = []
data_in (item d ds) = d ∷ data_in ds

abbrev pub list_in : Data → Option (List Data)
list_in (list ds) = Some (data_in ds)
list_in (text t) = None
list_in (whole n) = None
list_in (truth b) = None
list_in (dict ms) = None

-- a value that is wanted as a list at a place
abbrev pub wanted_list : List ℕ → Option Data → Outcome (List Data)
wanted_list at None = or_wrong at None
wanted_list at (Some d) = or_wrong at (list_in d)

-- a part that is wanted as a list
abbrev pub as_list : List ℕ → Found → Outcome (List Data)
as_list at x = on_got x (wanted_list at)

-- whether a number is one of 64 bits; `negsuc n` is -1 - n
abbrev pub is_whole : ℤ → Bool
is_whole (pos n) = nat_lt n (2 ^ 63)
is_whole (negsuc n) = nat_lt n (2 ^ 63)

-- the 64-bit number whose decimal text this is, without a plus and without leading zeros (this project's own form of an index)
abbrev pub whole_number_of : List ℕ → Option ℤ
whole_number_of t =
    let n = signed_digits_value 10 t in
    if is_whole n && bytes_eq (signed_decimal n) t then Some n else None

-- the number that an index is
abbrev pub index_of : Data → Option ℤ
index_of (whole n) = Some n
index_of (text t) = whole_number_of t
index_of (truth b) = None
index_of (list ds) = None
index_of (dict ms) = None

-- a value that is wanted as an index at a place
abbrev pub wanted_index : List ℕ → Option Data → Outcome ℤ
wanted_index at None = or_wrong at None
wanted_index at (Some d) = or_wrong at (index_of d)

-- the longest encoding of a value (this project's own limit)
abbrev pub most_bytes : ℕ
most_bytes = 262144

-- a value, but TooBig where its encoding is longer than that
abbrev pub within : List ℕ → Found → Found
within at (got (Some d)) = if nat_lt most_bytes (size_of d) then bad (fault TooBig at) else known d
within at (got None) = got None
within at later = later
within at (bad s) = bad s
