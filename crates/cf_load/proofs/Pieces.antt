-- Pieces that are put behind a text one by one.
use Rattle.std.proofs.Common.{◌≡◌, ℕ, ◌+◌, List, ◌++◌, refl, ap, sym, ◌∙◌, append_assoc, add-one}
use Rattle.cf_load.specs.Text.{comma_after, record_text, records_text}

pub in_four : (t a b c d : List ℕ) → (((t ++ a) ++ b) ++ c) ++ d ≡ t ++ (a ++ (b ++ (c ++ d)))
in_four t a b c d = append_assoc ((t ++ a) ++ b) c d ∙ append_assoc (t ++ a) b (c ++ d) ∙ append_assoc t a (b ++ (c ++ d))

-- one record more
pub one_more : (k : ℕ) → records_text (k + 1) ≡ records_text k ++ (comma_after k ++ record_text (k + 1))
one_more k = rw add-one refl

pub behind : (k : ℕ) (t : List ℕ) → ((t ++ records_text k) ++ comma_after k) ++ record_text (k + 1) ≡ t ++ records_text (k + 1)
behind k t =
    append_assoc (t ++ records_text k) (comma_after k) (record_text (k + 1))
    ∙ append_assoc t (records_text k) (comma_after k ++ record_text (k + 1))
    ∙ ap (λ x. t ++ x) (sym (one_more k))
