-- A lane's name: 1 to 64 letters, digits and hyphens (this project's own).
use Rattle.std.specs.Prelude.{ℕ, ◌==◌, Bool, ◌&&◌, ◌||◌, List, length, nat_le}
use Rattle.std.specs.List.{list_all}

abbrev pub is_letter : ℕ → Bool
is_letter b = (nat_le 65 b && nat_le b 90) || (nat_le 97 b && nat_le b 122)

abbrev pub is_digit : ℕ → Bool
is_digit b = nat_le 48 b && nat_le b 57

abbrev pub is_name_byte : ℕ → Bool
is_name_byte b = is_letter b || (is_digit b || b == 45)

abbrev pub is_lane_name : List ℕ → Bool
is_lane_name name = nat_le 1 (length name) && (nat_le (length name) 64 && list_all is_name_byte name)
