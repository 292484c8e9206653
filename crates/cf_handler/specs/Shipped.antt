-- The schemas of the two types whose handlers are shipped (this project's own, in the form of the CloudFormation CLI's resource type
-- schema). Properties stand in the order of bytes.
use Rattle.std.specs.Prelude.{[], ◌∷◌, codes}
use Rattle.cf_schema.specs.declared.described.Schema.{Schema}

-- a file: its path is its own for life
abbrev pub file_schema : Schema
file_schema = record {
  kind = codes "Local::Files::File";
  props = codes "Content" ∷ codes "Id" ∷ codes "Length" ∷ codes "Path" ∷ [];
  required = codes "Path" ∷ codes "Content" ∷ [];
  create_only = codes "Path" ∷ [];
  conditional = [];
  read_only = codes "Id" ∷ codes "Length" ∷ [];
  identifier = codes "Id" ∷ [];
}

-- a record: its key is its own for life, and its class once it is sealed
abbrev pub record_schema : Schema
record_schema = record {
  kind = codes "Local::Records::Record";
  props = codes "Class" ∷ codes "Id" ∷ codes "Key" ∷ codes "Length" ∷ codes "Value" ∷ [];
  required = codes "Key" ∷ codes "Value" ∷ [];
  create_only = codes "Key" ∷ [];
  conditional = codes "Class" ∷ [];
  read_only = codes "Id" ∷ codes "Length" ∷ [];
  identifier = codes "Id" ∷ [];
}
