-- Limits that handlers keep (this project's own).
use Rattle.std.specs.Prelude.{ℕ}

-- the bytes of a physical id
abbrev pub most_id_bytes : ℕ
most_id_bytes = 1024

-- the bytes of a resource's attributes, as they are encoded
abbrev pub most_attrs_bytes : ℕ
most_attrs_bytes = 524288
