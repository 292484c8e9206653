-- What a JSON text says as the schema of a resource type, and the first fault where it is none.
-- CloudFormation CLI guide: resource type schema; the order of the faults and pointers of one level alone are this project's own.
use Rattle.std.specs.Prelude.{ℕ, List, [], ◌∷◌, ◌++◌, ◌==◌, codes, if◌then◌else◌, Option, Some, None, option_map, option_and_then, find, Result, Ok, Err}
use Rattle.std.specs.Option.{option_map_or}
use Rattle.std.specs.Str.{bytes_eq}
use Rattle.serde_json.specs.Data.{Data, object, Items, no_items, item, Members, no_members, member}
use Rattle.serde_json.specs.Find.{get, as_str, as_array, as_object}
use Rattle.cf_schema.specs.declared.described.Schema.{Schema}
use Rattle.cf_schema.specs.declared.fault.SchemaFault.{SchemaFault}
use Rattle.cf_schema.specs.declared.fault.SchemaFault.TheVariants.{NotJson, Missing, WrongShape, BadPointer}
use Rattle.cf_schema.specs.Json.{json_of}

-- what follows from a value; a fault stays
abbrev pub and_then : {A B : Type 0} → Result A SchemaFault → (A → Result B SchemaFault) → Result B SchemaFault
and_then (Ok a) f = f a
and_then (Err e) f = Err e

-- the texts of a list that has nothing else
abbrev pub texts_in : Items → Option (List (List ℕ))
texts_in no_items = Some []
texts_in (item d ds) = option_and_then (λ t. option_map (λ ts. t ∷ ts) (texts_in ds)) (as_str d)

abbrev pub listed_texts : Data → Option (List (List ℕ))
listed_texts d = option_and_then texts_in (as_array d)

-- the names of an object's members
abbrev pub names_in : Members → List (List ℕ)
names_in no_members = []
names_in (member k d ms) = k ∷ names_in ms

abbrev pub member_names : Data → Option (List (List ℕ))
member_names d = option_map names_in (as_object d)

-- a member's value, where it is of its kind
abbrev pub shaped : {A : Type 0} → List ℕ → Option A → Result A SchemaFault
shaped name (Some a) = Ok a
shaped name None = Err (WrongShape name)

-- a member that every schema has
abbrev pub needed : {A : Type 0} → (Data → Option A) → List ℕ → Option Data → Result A SchemaFault
needed kind name (Some d) = shaped name (kind d)
needed kind name None = Err (Missing name)

-- a list of texts that may be absent
abbrev pub listed : List ℕ → Option Data → Result (List (List ℕ)) SchemaFault
listed name (Some d) = shaped name (listed_texts d)
listed name None = Ok []

-- a byte of a name in a pointer (RFC 6901): `~0` stands for `~`, and `~1` for `/`
abbrev pub escape_of : ℕ → List ℕ
escape_of b = if b == 126 then codes "~0" else if b == 47 then codes "~1" else b ∷ []

-- a name in a pointer
abbrev pub escaped_name : List ℕ → List ℕ
escaped_name [] = []
escaped_name (b ∷ bs) = escape_of b ++ escaped_name bs

-- the pointer to a property
abbrev pub pointer_to : List ℕ → List ℕ
pointer_to name = codes "/properties/" ++ escaped_name name

-- the property that a text names, before those of the later texts
abbrev pub before : List ℕ → Option (List ℕ) → Result (List (List ℕ)) SchemaFault → Result (List (List ℕ)) SchemaFault
before text None later = Err (BadPointer text)
before text (Some p) later = and_then later (λ ps. Ok (p ∷ ps))

-- the properties that texts name, each spelled as `spelled` has it; or the first text that names none
abbrev pub properties_named : (List ℕ → List ℕ) → List (List ℕ) → List (List ℕ) → Result (List (List ℕ)) SchemaFault
properties_named spelled props [] = Ok []
properties_named spelled props (t ∷ ts) = before t (find (λ p. bytes_eq t (spelled p)) props) (properties_named spelled props ts)

-- the members of a schema, and what each says
abbrev pub kind_in : Data → Result (List ℕ) SchemaFault
kind_in d = needed as_str (codes "typeName") (get (codes "typeName") d)

abbrev pub props_declared : Data → Result (List (List ℕ)) SchemaFault
props_declared d = needed member_names (codes "properties") (get (codes "properties") d)

abbrev pub identifier_of : List (List ℕ) → Data → Result (List (List ℕ)) SchemaFault
identifier_of props d =
    and_then (needed listed_texts (codes "primaryIdentifier") (get (codes "primaryIdentifier") d)) (properties_named pointer_to props)

abbrev pub required_of : List (List ℕ) → Data → Result (List (List ℕ)) SchemaFault
required_of props d = and_then (listed (codes "required") (get (codes "required") d)) (properties_named (λ p. p) props)

abbrev pub pointers_of : List ℕ → List (List ℕ) → Data → Result (List (List ℕ)) SchemaFault
pointers_of name props d = and_then (listed name (get name d)) (properties_named pointer_to props)

-- the schema that an object says, its members in the order in which they are refused
abbrev pub schema_fields : Data → Result Schema SchemaFault
schema_fields d =
    and_then (kind_in d) (λ kind. and_then (props_declared d)
    (λ props. and_then (identifier_of props d) (λ identifier. and_then (required_of props d) (λ required.
    and_then (pointers_of (codes "createOnlyProperties") props d)
    (λ create_only. and_then (pointers_of (codes "conditionalCreateOnlyProperties") props d)
    (λ conditional. and_then (pointers_of (codes "readOnlyProperties") props d) (λ read_only.
    Ok (record {
      kind = kind;
      props = props;
      required = required;
      create_only = create_only;
      conditional = conditional;
      read_only = read_only;
      identifier = identifier;
    }))))))))

abbrev pub schema_of : Data → Result Schema SchemaFault
schema_of (object ms) = schema_fields (object ms)
schema_of d = Err (WrongShape [])

-- the schema that bytes are, or the first fault
abbrev pub schema_in : List ℕ → Result Schema SchemaFault
schema_in bytes = option_map_or schema_of (json_of bytes) (Err NotJson)
