-- Texts cut at a delimiter, as the template reference has it of Fn::Split, and lists written with commas, as it has it of
-- CommaDelimitedList.
use Rattle.std.specs.Prelude.{ℕ, zero, suc, ◌==◌, List, [], ◌∷◌, length, drop, reverse, map, Option, Some, None, nat_eq, option_map, if◌then◌else◌}
use Rattle.std.specs.List.{starts_with, join_by}
use Rattle.std.specs.Option.{option_map_or}

-- what stands before the first place of d in a text, and what follows it there
abbrev pub cut_at : List ℕ → List ℕ → Option (List ℕ × List ℕ)
cut_at d [] = None
cut_at d (b ∷ bs) =
    if starts_with nat_eq (b ∷ bs) d then Some ([], drop (length d) (b ∷ bs))
    else option_map (λ cut. (b ∷ cut.0, cut.1)) (cut_at d bs)

-- the pieces of a text that is cut n times at most, each time at the first place of d in what is left
abbrev pub cut_up_to : ℕ → List ℕ → List ℕ → List (List ℕ)
cut_up_to zero d text = text ∷ []
cut_up_to (suc n) d text = option_map_or (λ cut. cut.0 ∷ cut_up_to n d cut.1) (cut_at d text) (text ∷ [])

-- the pieces of a text, cut at each place of d from the left, without overlap
abbrev pub pieces_of : List ℕ → List ℕ → List (List ℕ)
pieces_of d text = cut_up_to (length text) d text

-- the pieces with d between each two
abbrev pub joined : List ℕ → List (List ℕ) → List ℕ
joined d pieces = join_by (λ piece. piece) d pieces

-- a text without the spaces at its front
abbrev pub past_spaces : List ℕ → List ℕ
past_spaces [] = []
past_spaces (b ∷ bs) = if b == 32 then past_spaces bs else b ∷ bs

-- a text without the spaces at both its ends
abbrev pub without_spaces : List ℕ → List ℕ
without_spaces text = reverse (past_spaces (reverse (past_spaces text)))

-- the members of a list that is written with commas; the empty text is the empty list
abbrev pub members_of : List ℕ → List (List ℕ)
members_of [] = []
members_of (b ∷ bs) = map without_spaces (pieces_of (44 ∷ []) (b ∷ bs))
