use Rattle.std.proofs.Common.{◌≡◌, drop}
use Rattle.std.specs.Str.{bytes_eq}
use Rattle.cf_schema.specs.Reading.{escaped_name}
use Rattle.cf_schema.proofs.pointers.is_escaped.Given as goal

abbrev pub invariant-loop-byte : goal.invariant-loop-byte
invariant-loop-byte l = bytes_eq l.text (escaped_name l.property) ≡ bytes_eq l.rest (escaped_name (drop l.byte-index l.property))
