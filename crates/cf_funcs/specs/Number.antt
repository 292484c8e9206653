-- The number texts, this project's own form: an optional minus, 1 to 18 digits, and optionally a point with 1 to 9 digits. A number text
-- counts in 10^-9.
use Rattle.std.specs.Prelude.{ℕ, ◌+◌, ◌-◌, ◌*◌, ◌^◌, ℤ, pos, neg_ℤ, Bool, ◌&&◌, List, [], ◌∷◌, length, drop, Option, Some, None, nat_lt, nat_le, option_map, option_and_then, if◌then◌else◌}
use Rattle.std.specs.Char.{is_ascii_digit}
use Rattle.std.specs.List.{list_all}
use Rattle.std.specs.Str.Parse.{digits_value, starts_with_minus}
use Rattle.cf_funcs.specs.Pieces.{cut_at}

-- whether a text is 1 to `most` digits
abbrev pub are_digits : ℕ → List ℕ → Bool
are_digits most ds = nat_lt 0 (length ds) && (nat_le (length ds) most && list_all is_ascii_digit ds)

-- the number that 1 to `most` digits write
abbrev pub digits_of : ℕ → List ℕ → Option ℕ
digits_of most ds = if are_digits most ds then Some (digits_value 10 ds) else None

-- what the 1 to 9 digits behind a point count
abbrev pub fraction_of : List ℕ → Option ℕ
fraction_of ds = option_map (λ n. n * 10 ^ (9 - length ds)) (digits_of 9 ds)

-- what digits count, with those behind the point where there is one
abbrev pub sum_of : List ℕ → Option (List ℕ × List ℕ) → Option ℕ
sum_of text None = option_map (λ w. w * 10 ^ 9) (digits_of 18 text)
sum_of text (Some c) = option_and_then (λ w. option_map (λ f. w * 10 ^ 9 + f) (fraction_of c.1)) (digits_of 18 c.0)

-- what a number text without its sign counts
abbrev pub size_of : List ℕ → Option ℕ
size_of text = sum_of text (cut_at (46 ∷ []) text)

-- what a number text counts, and nothing where a text is none
abbrev pub number_of : List ℕ → Option ℤ
number_of text =
    if starts_with_minus text then option_map (λ n. neg_ℤ (pos n)) (size_of (drop 1 text))
    else option_map pos (size_of text)
