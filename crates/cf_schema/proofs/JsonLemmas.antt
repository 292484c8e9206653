-- What the clauses of `from_slice` say of `json_of`.
use Rattle.std.proofs.Common.{◌≡◌, ℕ, List, Some, None, true, false, Bool, cond, IsUtf8, refl}
use Rattle.std.specs.Str.{is_utf8}
use Rattle.std.proofs.lemmas.Str.{IsUtf8-from_is_utf8, is_utf8-from_IsUtf8}
use Rattle.serde_json.specs.Data.{Data}
use Rattle.serde_json.specs.Read.{read}
use Rattle.cf_schema.specs.Json.{json_of}

pub json_of-ok : (bytes : List ℕ) (d : Data) → IsUtf8 bytes → read bytes ≡ Some d → json_of bytes ≡ Some d
json_of-ok bytes d u r = rw (is_utf8-from_IsUtf8 bytes u, r) refl

by_test : (bytes : List ℕ) (b : Bool) → is_utf8 bytes ≡ b → (IsUtf8 bytes → read bytes ≡ None) → cond b (read bytes) None ≡ None
by_test bytes true e r = r (IsUtf8-from_is_utf8 bytes e)
by_test bytes false e r = refl

pub json_of-err : (bytes : List ℕ) → (IsUtf8 bytes → read bytes ≡ None) → json_of bytes ≡ None
json_of-err bytes r = by_test bytes (is_utf8 bytes) refl r
