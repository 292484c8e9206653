-- A row of flags: the first that is set from a place on, and whether one of each two neighbours is set (this project's own).
use Rattle.std.specs.Prelude.{◌≡◌, ℕ, zero, suc, ◌+◌, ◌*◌, ◌%◌, ◌==◌, ◌<◌, ◌&&◌, ◌||◌, length, if◌then◌else◌, Bool, true, false, List, [], ◌∷◌, Option, Some, None, slice_index_or}
use Rattle.std.specs.Option.{option_map}

-- the place of the first that is set
abbrev pub first_set : List Bool → Option ℕ
first_set [] = None
first_set (true ∷ bs) = Some 0
first_set (false ∷ bs) = option_map suc (first_set bs)

-- the place of the first that is set from a place on
abbrev pub next_set : List Bool → ℕ → Option ℕ
next_set [] at = None
next_set (b ∷ bs) zero = first_set (b ∷ bs)
next_set (b ∷ bs) (suc at) = option_map suc (next_set bs at)

-- of each two neighbours whether one of them is set
abbrev pub halved : List Bool → List Bool
halved [] = []
halved (a ∷ []) = a ∷ []
halved (a ∷ b ∷ bs) = (a || b) ∷ halved bs

abbrev pub flag_at : List Bool → ℕ → Bool
flag_at bs at = slice_index_or bs at false

abbrev pub pair_of : List Bool → ℕ → Bool
pair_of bs half = flag_at bs (2 * half) || flag_at bs (2 * half + 1)

-- the first from a place on that is set, of this one and its neighbour
abbrev pub in_pair : List Bool → ℕ → Option ℕ
in_pair bs at = if flag_at bs at then Some at else if at % 2 == 0 && flag_at bs (at + 1) then Some (at + 1) else None

-- one of these two neighbours is the first that is set from a place on
pub record IsNextIn (bs : List Bool) (at half : ℕ) : Type 0 where
  pub within : 2 * half < length bs
  pub other : flag_at bs (2 * half) ≡ false → 2 * half + 1 < length bs
  pub next : next_set bs at ≡ (if flag_at bs (2 * half) then Some (2 * half) else Some (2 * half + 1))
