-- The JSON value that bytes are (RFC 8259), as `serde_json` reads it.
use Rattle.std.specs.Prelude.{◌≡◌, ℕ, suc, List, Option, Some, None, Result, Ok, Err, ◌⊎◌, if◌then◌else◌}
use Rattle.std.specs.Str.{is_utf8}
use Rattle.serde_json.specs.declared.value.Value.{Value}
use Rattle.serde_json.specs.View.{view}
use Rattle.cf_template.specs.declared.refusal.TemplateFault.{TemplateFault}
use Rattle.cf_template.specs.declared.refusal.TemplateFault.TheVariants as refusal
use Rattle.serde_json.specs.Data.{Data, Members, no_members, member}
use Rattle.serde_json.specs.Read.{read}

-- the value, where the bytes are the UTF-8 text of one that nests no deeper than 127
abbrev pub json_of : List ℕ → Option Data
json_of bytes = if is_utf8 bytes then read bytes else None

-- how many members an object has
abbrev pub count : Members → ℕ
count no_members = 0
count (member k d ms) = suc (count ms)

-- what the reading of a value answers: the value, or that there is none, or that memory was not there
abbrev pub IsValueOf : List ℕ → Result Value TemplateFault → Type 0
IsValueOf bytes (Ok v) = json_of bytes ≡ Some (view v)
IsValueOf bytes (Err e) = (e ≡ refusal.NoMemory) ⊎ ((e ≡ refusal.NotJson) × (json_of bytes ≡ None))
