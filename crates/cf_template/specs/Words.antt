-- The names and texts of a template that its rules speak of (User Guide and template reference, as each says).
use Rattle.std.specs.Prelude.{ℕ, List, [], ◌∷◌, Bool, false, ◌&&◌, ◌||◌, nat_lt, nat_le, nat_eq, length, codes}
use Rattle.std.specs.Str.{bytes_eq}
use Rattle.std.specs.Char.{is_ascii_alphanumeric}
use Rattle.std.specs.List.{list_all, starts_with}

-- 1 to 255 ASCII letters and digits (User Guide: logical ids; the length is this project's own)
abbrev pub is_name : List ℕ → Bool
is_name name = nat_lt 0 (length name) && (nat_le (length name) 255 && list_all is_ascii_alphanumeric name)

-- the name of a function's member (template reference: intrinsic functions)
abbrev pub is_function : List ℕ → Bool
is_function name = bytes_eq name (codes "Ref") || starts_with nat_eq name (codes "Fn::")

-- `{{resolve:`, with which a dynamic reference begins, stands somewhere in the text (User Guide: dynamic references)
abbrev pub opens_reference : List ℕ → Bool
opens_reference text = starts_with nat_eq text (codes "{{resolve:")

abbrev pub has_reference : List ℕ → Bool
has_reference [] = false
has_reference (b ∷ bs) = opens_reference (b ∷ bs) || has_reference bs
