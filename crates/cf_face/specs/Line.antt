-- Lines of words, as reports have them (this project's own).
use Rattle.std.specs.Prelude.{ℕ, List, [], ◌∷◌, ◌++◌, map}
use Rattle.serde_json.specs.Data.{string, array}
use Rattle.serde_json.specs.View.{items_of}
use Rattle.serde_json.specs.Written.{compact_text}

-- each word after a space
abbrev pub spaced : List (List ℕ) → List ℕ
spaced [] = []
spaced (word ∷ words) = (32 ∷ word) ++ spaced words

-- a line of words with a space between them, which ends with a line feed
abbrev pub line_of : List ℕ → List (List ℕ) → List ℕ
line_of first words = first ++ (spaced words ++ 10 ∷ [])

-- a text as compact JSON
unfoldable pub text_word : List ℕ → List ℕ
text_word text = compact_text (string text)

-- a list of texts as compact JSON
unfoldable pub texts_word : List (List ℕ) → List ℕ
texts_word texts = compact_text (array (items_of (map string texts)))
