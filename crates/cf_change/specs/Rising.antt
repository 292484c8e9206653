-- Lists whose members stand in an order (this project's own).
use Rattle.std.specs.Prelude.{◌≡◌, ⊤, Bool, false, List, [], ◌∷◌}

-- none of these stands before one
abbrev pub NoneBefore : {A : Type 0} → (A → A → Bool) → A → List A → Type 0
NoneBefore is_before a [] = ⊤
NoneBefore is_before a (b ∷ bs) = (is_before b a ≡ false) × NoneBefore is_before a bs

-- none stands before one that stands earlier
abbrev pub Rises : {A : Type 0} → (A → A → Bool) → List A → Type 0
Rises is_before [] = ⊤
Rises is_before (a ∷ rest) = NoneBefore is_before a rest × Rises is_before rest
