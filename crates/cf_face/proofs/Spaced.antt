-- Words that are added one after the other.
use Rattle.std.proofs.Common.{◌≡◌, ℕ, List, [], ◌∷◌, ◌++◌, append_assoc, append-nil, sym, ap, ◌∙◌}
use Rattle.cf_face.specs.Line.{spaced}

-- one word is a list of one
pub one_word : (old word : List ℕ) → old ++ 32 ∷ word ≡ old ++ spaced (word ∷ [])
one_word old word = ap (λ (l : List ℕ). old ++ l) (sym (append-nil (32 ∷ word)))

-- a word, and then a list of words
pub next_word : (old word : List ℕ) (words : List (List ℕ)) → (old ++ 32 ∷ word) ++ spaced words ≡ old ++ spaced (word ∷ words)
next_word old word words = append_assoc old (32 ∷ word) (spaced words)

-- two words
pub two_words : (old first second : List ℕ) → (old ++ 32 ∷ first) ++ 32 ∷ second ≡ old ++ spaced (first ∷ second ∷ [])
two_words old first second = one_word (old ++ 32 ∷ first) second ∙ next_word old first (second ∷ [])

-- three words
pub three_words : (old first second third : List ℕ)
    → ((old ++ 32 ∷ first) ++ 32 ∷ second) ++ 32 ∷ third ≡ old ++ spaced (first ∷ second ∷ third ∷ [])
three_words old first second third =
    two_words (old ++ 32 ∷ first) second third ∙ next_word old first (second ∷ third ∷ [])
