-- Words about lists: what is one of a list, whether a name is among others, the first member, the least one, and where a member
-- joins a list in its order (this project's own).
use Rattle.std.specs.Prelude.{ℕ, Bool, List, [], ◌∷◌, Option, Some, None, if◌then◌else◌}
use Rattle.std.specs.List.{list_any}
use Rattle.std.specs.Str.{bytes_eq}
use Rattle.cf_tree.specs.Keys.{bytes_lt}

-- a is one of the list
pub data In {A : Type 0} (a : A) : List A → Type 0 where
  here : {rest : List A} → In a (a ∷ rest)
  there : {b : A} {rest : List A} → In a rest → In a (b ∷ rest)

abbrev pub is_among : List ℕ → List (List ℕ) → Bool
is_among name names = list_any (λ n. bytes_eq name n) names

abbrev pub first_in : {A : Type 0} → List A → Option A
first_in [] = None
first_in (a ∷ rest) = Some a

-- a member joins after those that come before it
abbrev pub insert_by : {A : Type 0} → (A → A → Bool) → List A → A → List A
insert_by is_before [] a = a ∷ []
insert_by is_before (b ∷ bs) a = if is_before b a then b ∷ insert_by is_before bs a else a ∷ b ∷ bs

-- the least so far and one more, by the text that each goes by, in byte order; of equals the first
abbrev pub least_by : {A : Type 0} → (A → List ℕ) → Option A → A → Option A
least_by text None a = Some a
least_by text (Some least) a = if bytes_lt (text a) (text least) then Some a else Some least
