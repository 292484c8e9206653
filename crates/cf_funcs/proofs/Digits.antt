-- What `parse` reads of digits is their value.
use Rattle.std.proofs.Common.{eqb-true, sym, ◌++◌, ◌∙◌, ◌≡◌, ◌≢◌, false, ℕ, ◌<◌, ◌≤◌, ◌^◌, List, length, true, Result, None, refl, ap, rules, arith, nat_lt, nat_le, ◌∷◌, []}
use Rattle.std.specs.Prelude.{IfSome}
use Rattle.std.specs.Result.{result_ok}
use Rattle.std.specs.Cmp.{first_so, second_so}
use Rattle.std.specs.Char.{is_ascii_digit}
use Rattle.std.specs.List.{list_all}
use Rattle.std.specs.Str.Parse.{digits_value, ParsesUnsigned, starts_with_minus}
use Rattle.std.proofs.lemmas.Str.Parse.{IsNumeralModel, numerals_by_value, parse_gives, digits_value_short}
use Rattle.std.specs.Char.{encode_utf8}
use Rattle.std.proofs.lemmas.Str.{encode_ascii}
use Rattle.std.proofs.lemmas.Bool.Decides.{nat_tests}
use Rattle.cf_funcs.proofs.Found.{false_from}
use Rattle.cf_funcs.specs.Number.{are_digits, digits_of, number_of, size_of}

own : IsNumeralModel (λ ds. list_all is_ascii_digit ds ≡ true) (digits_value 10)
own = numerals_by_value _ (search rules)

lengths : (n most : ℕ) → nat_lt 0 n ≡ true → nat_le n most ≡ true → (0 < n) × (n ≤ most)
lengths n most a b = grind (arith, nat_tests)

pub parsed : {E : Type 0} (most : ℕ) (ds : List ℕ) (r : Result ℕ E) → most ≤ 18 → are_digits most ds ≡ true → ParsesUnsigned 64 10 ds r
    → (result_ok r ≡ digits_of most ds) × IfSome (result_ok r) (λ n. n < 10 ^ length ds)
parsed most ds r small h p =
    let some = first_so _ _ h in
    let rest = second_so (nat_lt 0 (length ds)) _ h in
    let few = first_so _ _ rest in
    let all = second_so (nat_le (length ds) most) _ rest in
    let within = lengths (length ds) most some few in
    let value = digits_value_short own ds 18 all (omega arith) in
    rw (parse_gives own 64 ds r p all within.0 (omega arith), h) (refl, digits_value_short own ds (length ds) all (omega arith))

no_minus : (text : List ℕ) → ((rest : List ℕ) → text ≢ 45 ∷ rest) → starts_with_minus text ≡ false
no_minus [] h = refl
no_minus (b ∷ bs) h = false_from _ (λ e. h bs (ap (λ n. n ∷ bs) (eqb-true b 45 e)))

-- a text that doesn't begin with a minus and has no size is no number text
pub unsigned : (text : List ℕ) → ((rest : List ℕ) → text ≢ encode_utf8 45 ++ rest) → size_of text ≡ None → number_of text ≡ None
unsigned text h e =
    rw (no_minus text (λ rest q. h rest (q ∙ ap (λ c. c ++ rest) (sym (encode_ascii 45 (omega arith))))), e) refl
