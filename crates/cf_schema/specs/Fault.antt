-- The faults of reading a schema, and what an answer with one says (the numbers are this project's own).
use Rattle.std.specs.Prelude.{◌≡◌, ℕ, List, None, Result, Ok, Err, ⊤}
use Rattle.cf_schema.specs.declared.fault.SchemaFault.{SchemaFault}
use Rattle.cf_schema.specs.declared.fault.SchemaFault.TheVariants.{NotJson, Missing, WrongShape, BadPointer, NoMemory}
use Rattle.cf_schema.specs.Json.{json_of}

abbrev pub no_memory : SchemaFault
no_memory = NoMemory

-- the fault is the one that is told, or memory was not there
abbrev pub SchemaFaults : SchemaFault → SchemaFault → Type 0
SchemaFaults told NoMemory = ⊤
SchemaFaults told e = told ≡ e

-- the answer is the one that is told, value and fault alike, or memory was not there
abbrev pub Reads : {A : Type 0} → Result A SchemaFault → Result A SchemaFault → Type 0
Reads told (Ok a) = told ≡ Ok a
Reads told (Err NoMemory) = ⊤
Reads told (Err NotJson) = told ≡ Err NotJson
Reads told (Err (Missing name)) = told ≡ Err (Missing name)
Reads told (Err (WrongShape name)) = told ≡ Err (WrongShape name)
Reads told (Err (BadPointer text)) = told ≡ Err (BadPointer text)

-- why bytes are read as no value
abbrev pub IsJsonFault : List ℕ → SchemaFault → Type 0
IsJsonFault bytes NotJson = json_of bytes ≡ None
IsJsonFault bytes NoMemory = ⊤
IsJsonFault bytes (Missing name) = ⊥
IsJsonFault bytes (WrongShape name) = ⊥
IsJsonFault bytes (BadPointer text) = ⊥
