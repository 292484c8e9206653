-- The answers of a stack's entries, entry by entry.
use Rattle.std.proofs.Common.{◌≡◌, ℕ, ◌+◌, Bool, true, false, List, ◌∷◌, refl, ◌∙◌, arith, cond}
use Rattle.std.specs.Prelude.{count_by}
use Rattle.std.proofs.lemmas.List.Sums.{sum_by-cons}
use Rattle.std.proofs.lemmas.List.Recursion.{is_count_by}
use Rattle.cf_entry.specs.declared.entry.Entry.{Entry}
use Rattle.cf_entry.specs.declared.entry.Entry.TheVariants as entry
use Rattle.cf_effect.specs.Operation.{Response, replies_in}
use Rattle.cf_plan.specs.Called.{reply_passes}

one_more : (b : Bool) (n : ℕ) → cond b 1 0 + n ≡ cond b (1 + n) n
one_more true n = refl
one_more false n = omega arith

pub counted : {X : Type 0} (test : X → Bool) (x : X) (xs : List X) → count_by test (x ∷ xs) ≡ cond (test x) (1 + count_by test xs) (count_by test xs)
counted test x xs = sum_by-cons (λ y. cond (test y) 1 0) x xs ∙ one_more (test x) (count_by test xs)

counted_first : (test : Response → Bool) (e : Entry) (es : List Entry) → count_by test (replies_in (e ∷ es)) ≡ cond (reply_passes test e) (1 + count_by test (replies_in es)) (count_by test (replies_in es))
counted_first test (entry.Intent number token lane path request) es = refl
counted_first test (entry.Opened epoch lanes) es = refl
counted_first test (entry.Begin number stack kind) es = refl
counted_first test (entry.Kept number path physical w) es = refl
counted_first test (entry.Outcome number token answer before after) es = counted test (record { token = token; answer = answer; before = before; after = after }) (replies_in es)
counted_first test (entry.Phase number p cause) es = refl
counted_first test (entry.Done number state failed) es = refl
counted_first test (entry.ChangeSet number name source rows outputs) es = refl

-- as many of the answers of entries pass as of the entries
pub count_replied : (test : Response → Bool) (es : List Entry) → count_by test (replies_in es) ≡ count_by (λ e. reply_passes test e) es
count_replied test es = is_count_by (λ xs. count_by test (replies_in xs)) (λ e. reply_passes test e) refl (counted_first test) es
