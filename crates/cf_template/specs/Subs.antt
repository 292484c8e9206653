-- Texts with holes (template reference, Fn::Sub): `${X}` is a hole with the name X, and `${!X}` is the plain text `${X}`. A hole that
-- isn't closed, and one without a name, is refused (this project's own).
use Rattle.std.specs.Prelude.{◌≡◌, ℕ, zero, suc, ◌+◌, ◌==◌, List, [], ◌∷◌, ◌++◌, length, codes, Option, Some, None, Result, Ok, Err, if◌then◌else◌}
use Rattle.std.proofs.Common.{◌⊎◌}
use Rattle.cf_funcs.specs.Pieces.{cut_at}
use Rattle.cf_tree.specs.declared.parts.Part.{Part}
use Rattle.cf_tree.specs.declared.parts.Part.TheVariants.{Plain, Name}
use Rattle.cf_template.specs.declared.subs.SubFault.{SubFault}
use Rattle.cf_template.specs.declared.subs.SubFault.TheVariants.{Unclosed, Empty, NoMemory}

abbrev pub no_memory : SubFault
no_memory = NoMemory

-- plain text as parts: none where it is empty
abbrev pub plain_parts : List ℕ → List Part
plain_parts [] = []
plain_parts (b ∷ bs) = Plain (b ∷ bs) ∷ []

-- what stands between `${` and `}`, as a part
abbrev pub hole_part : ℕ → List ℕ → Result Part SubFault
hole_part at [] = Err (Empty at)
hole_part at (b ∷ bs) = if b == 33 then Ok (Plain (codes "${" ++ bs ++ codes "}")) else Ok (Name (b ∷ bs))

-- parts in front of those that follow
abbrev pub in_front : List Part → Result (List Part) SubFault → Result (List Part) SubFault
in_front ps (Ok qs) = Ok (ps ++ qs)
in_front ps (Err e) = Err e

-- what follows a part, where it is one
abbrev pub behind_part : Result Part SubFault → (Part → Result (List Part) SubFault) → Result (List Part) SubFault
behind_part (Ok p) f = f p
behind_part (Err e) f = Err e

-- the hole that was opened at a place, cut at the first `}` behind it, and what the text behind that gives
abbrev pub hole_closed : (ℕ → List ℕ → Result (List Part) SubFault) → ℕ → Option (List ℕ × List ℕ) → Result (List Part) SubFault
hole_closed more at None = Err (Unclosed at)
hole_closed more at (Some c) = behind_part (hole_part at c.0) (λ p. in_front (p ∷ []) (more (at + length c.0 + 3) c.1))

-- a text that stands at a place, cut at the first `${`
abbrev pub hole_opened : (ℕ → List ℕ → Result (List Part) SubFault) → ℕ → List ℕ → Option (List ℕ × List ℕ) → Result (List Part) SubFault
hole_opened more at text None = Ok (plain_parts text)
hole_opened more at text (Some c) = in_front (plain_parts c.0) (hole_closed more (at + length c.0) (cut_at (codes "}") c.1))

-- the parts of a text that stands at a place, with n holes at most
abbrev pub parts_up_to : ℕ → ℕ → List ℕ → Result (List Part) SubFault
parts_up_to zero at text = Ok (plain_parts text)
parts_up_to (suc n) at text = hole_opened (λ later rest. parts_up_to n later rest) at text (cut_at (codes "${") text)

-- the parts of a text; no hole has less than three bytes
abbrev pub parts_of : List ℕ → Result (List Part) SubFault
parts_of text = parts_up_to (length text) 0 text

-- what a reader of a hole answers
abbrev pub IsHole : Result Part SubFault → Result Part SubFault → Type 0
IsHole r (Ok p) = r ≡ Ok p
IsHole r (Err e) = (e ≡ NoMemory) ⊎ (r ≡ Err e)

-- what `sub_parts` answers
abbrev pub IsParts : List ℕ → Result (List Part) SubFault → Type 0
IsParts text (Ok ps) = parts_of text ≡ Ok ps
IsParts text (Err e) = (e ≡ NoMemory) ⊎ (parts_of text ≡ Err e)
