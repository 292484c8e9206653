-- A list of texts has no float.
use Rattle.std.proofs.Common.{◌≡◌, ℕ, List, [], ◌∷◌, map, false, refl}
use Rattle.serde_json.specs.Data.{string}
use Rattle.serde_json.specs.View.{items_of}
use Rattle.serde_json.specs.Written.{items_have_float}

pub texts-no_float : (texts : List (List ℕ)) → items_have_float (items_of (map string texts)) ≡ false
texts-no_float [] = refl
texts-no_float (t ∷ ts) = texts-no_float ts
