-- What a shipped lane is: what the lane of files or of records is that it stands for (this project's own).
use Rattle.std.specs.Prelude.{ℕ, List}
use Rattle.std.specs.declared.io.traits.Read.{Ghosts as ReadGhosts}
use Rattle.cf_schema.specs.declared.described.Schema.{Schema}
use Rattle.cf_tokens.specs.Places.{folder_of as folder_of_table}
use Rattle.cf_shipped.specs.declared.shipped.Shipped.{Shipped}
use Rattle.cf_shipped.specs.declared.shipped.Shipped.TheVariants.{Files, Records}

abbrev pub label_of : {R D : Type 0} {g : ReadGhosts D} → Shipped R D g → List ℕ
label_of (Files h) = h.name
label_of (Records h) = h.name

abbrev pub schema_of : {R D : Type 0} {g : ReadGhosts D} → Shipped R D g → Schema
schema_of (Files h) = h.schema
schema_of (Records h) = h.schema

abbrev pub count_of : {R D : Type 0} {g : ReadGhosts D} → Shipped R D g → ℕ
count_of (Files h) = h.faults
count_of (Records h) = h.faults

-- the folder of what it stores
abbrev pub folder_of : {R D : Type 0} {g : ReadGhosts D} → Shipped R D g → List ℕ
folder_of (Files h) = folder_of_table h
folder_of (Records h) = folder_of_table h
