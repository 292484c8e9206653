-- A text that `parse` refuses is the decimal text of no 64-bit number.
use Rattle.std.proofs.Common.{◌≡◌, ℕ, ◌<◌, ◌^◌, ℤ, pos, negsuc, Bool, true, false, ◌&&◌, cond, List, Err, Some, None, refl, sym, Result}
use Rattle.std.proofs.lemmas.Bool.{ltb-true}
use Rattle.std.proofs.lemmas.Fmt.{parse-signed_decimal}
use Rattle.std.proofs.lemmas.Slice.Eq.{bytes_eq-Decides}
use Rattle.std.specs.Fmt.{signed_decimal}
use Rattle.std.specs.Int.Signed.{mag}
use Rattle.std.specs.Int.{w64}
use Rattle.std.specs.Str.{bytes_eq}
use Rattle.std.specs.Str.Parse.{ParsesSigned, signed_digits_value}
use Rattle.cf_eval.specs.Texts.{is_whole, whole_number_of}

small : (n : ℤ) → is_whole n ≡ true → mag n < 2 ^ 63
small (pos n) h = ltb-true n (2 ^ 63) h
small (negsuc n) h = ltb-true n (2 ^ 63) h

by_tests : {E : Type 0} (t : List ℕ) (e : E) (v : ℤ) (b c : Bool) → is_whole v ≡ b → bytes_eq (signed_decimal v) t ≡ c → ParsesSigned w64 10 t (Err e) → None ≡ cond (b && c) (Some v) None
by_tests t e v false c h g p = refl
by_tests t e v true false h g p = refl
by_tests {E} t e v true true h g p =
    let low = small v h in
    let r : Result ℤ E = Err e in
    let read = parse-signed_decimal w64 v t r (record { sfits = low }) low (sym ((bytes_eq-Decides (signed_decimal v) t).0 g)) p in
    cc

pub whole_refused : {E : Type 0} (t : List ℕ) (e : E) → ParsesSigned w64 10 t (Err e) → None ≡ whole_number_of t
whole_refused t e p = by_tests t e (signed_digits_value 10 t) _ _ refl refl p
