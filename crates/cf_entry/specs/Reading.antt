-- Reading from the front of bytes: a value and the bytes behind it, where the bytes begin with the spelling of one (this project's own
-- format, docs/ENTRIES.md).
use Rattle.std.specs.Prelude.{◌≡◌, ℕ, zero, suc, ◌==◌, nat_lt, if◌then◌else◌, Bool, true, false, List, [], ◌∷◌, length, take, drop, Option, Some, None, Result, Ok, Err}
use Rattle.std.specs.Int.{w32, w64, from_be_bytes, cast_signed}
use Rattle.std.specs.Str.{is_utf8}
use Rattle.cf_tree.specs.Datum.{Data, text, whole, truth, list, dict, items_of, members_of}
use Rattle.cf_tree.specs.Keys.{ascends}
use Rattle.cf_entry.specs.declared.unread.Unread.{Unread}
use Rattle.cf_entry.specs.declared.unread.Unread.TheVariants as unread

infixl 10 ◌>>=◌
abbrev pub ◌>>=◌ : {A B : Type 0} → Option A → (A → Option B) → Option B
None >>= f = None
(Some x) >>= f = f x

-- What a function returned, seen by view, is what reading gives, unless memory ran out.
abbrev pub Fails : {Y : Type 0} → Unread → Option Y → Type 0
Fails unread.NoMemory read = Unit {0}
Fails unread.NoEntry read = read ≡ None

abbrev pub Decodes : {X Y : Type 0} → (X → Y) → Result X Unread → Option Y → Type 0
Decodes view (Ok x) read = read ≡ Some (view x)
Decodes view (Err e) read = Fails e read

-- one after the other
abbrev pub then_at : {A B : Type 0} → (List ℕ → Option (A × List ℕ)) → (List ℕ → Option (B × List ℕ)) → List ℕ → Option ((A × B) × List ℕ)
then_at one other bytes = one bytes >>= λ x. other x.1 >>= λ y. Some ((x.0, y.0), y.1)

-- what f makes of it, if it makes something
abbrev pub pick_at : {A B : Type 0} → (A → Option B) → (List ℕ → Option (A × List ℕ)) → List ℕ → Option (B × List ℕ)
pick_at f one bytes = one bytes >>= λ x. f x.0 >>= λ y. Some (y, x.1)

abbrev pub byte_at : List ℕ → Option (ℕ × List ℕ)
byte_at [] = None
byte_at (b ∷ bytes) = Some (b, bytes)

abbrev pub four_at : List ℕ → Option (ℕ × List ℕ)
four_at bytes = if nat_lt (length bytes) 4 then None else Some (from_be_bytes w32 (take 4 bytes), drop 4 bytes)

abbrev pub eight_at : List ℕ → Option (ℕ × List ℕ)
eight_at bytes = if nat_lt (length bytes) 8 then None else Some (from_be_bytes w64 (take 8 bytes), drop 8 bytes)

-- a run of bytes behind its length
unfoldable pub run_at : List ℕ → Option (List ℕ × List ℕ)
run_at bytes = four_at bytes >>= λ n. if nat_lt (length n.1) n.0 then None else Some (take n.0 n.1, drop n.0 n.1)

abbrev pub utf8_of : List ℕ → Option (List ℕ)
utf8_of bytes = if is_utf8 bytes then Some bytes else None

unfoldable pub text_at : List ℕ → Option (List ℕ × List ℕ)
text_at bytes = pick_at utf8_of run_at bytes

-- n of them
unfoldable pub many_at : {X : Type 0} → (List ℕ → Option (X × List ℕ)) → ℕ → List ℕ → Option (List X × List ℕ)
many_at one zero bytes = Some ([], bytes)
many_at one (suc n) bytes = one bytes >>= λ x. many_at one n x.1 >>= λ xs. Some (x.0 ∷ xs.0, xs.1)

-- as many as the number in front says
unfoldable pub list_at : {X : Type 0} → (List ℕ → Option (X × List ℕ)) → List ℕ → Option (List X × List ℕ)
list_at one bytes = four_at bytes >>= λ n. many_at one n.0 n.1

-- one behind a 1, none behind a 0
unfoldable pub option_at : {X : Type 0} → (List ℕ → Option (X × List ℕ)) → List ℕ → Option (Option X × List ℕ)
option_at one bytes =
    byte_at bytes >>= λ b. if b.0 == 0 then Some (None, b.1) else if b.0 == 1 then (one b.1 >>= λ x. Some (Some x.0, x.1)) else None

abbrev pub pair_at : List ℕ → Option ((List ℕ × List ℕ) × List ℕ)
pair_at = then_at text_at text_at

abbrev pub template_at : List ℕ → Option ((List ℕ × List ℕ) × List ℕ)
template_at = then_at text_at run_at

abbrev pub truth_of : ℕ → Option Bool
truth_of n = if n == 0 then Some false else if n == 1 then Some true else None

-- pairs whose keys strictly ascend
abbrev pub ordered_of : {X : Type 0} → List (List ℕ × X) → Option (List (List ℕ × X))
ordered_of ps = if ascends ps then Some ps else None

-- a value of at most so many levels of lists and dictionaries
unfoldable pub datum_at : ℕ → List ℕ → Option (Data × List ℕ)
datum_at zero bytes = None
datum_at (suc depth) bytes = byte_at bytes >>= λ kind.
    if kind.0 == 1 then pick_at (λ t. Some (text t)) text_at kind.1
    else if kind.0 == 2 then pick_at (λ n. Some (whole (cast_signed w64 n))) eight_at kind.1
    else if kind.0 == 3 then pick_at (λ b. Some (truth b)) (pick_at truth_of byte_at) kind.1
    else if kind.0 == 4 then pick_at (λ ds. Some (list (items_of ds))) (list_at (datum_at depth)) kind.1
    else if kind.0 == 5 then pick_at (λ ps. Some (dict (members_of ps))) (pick_at ordered_of (list_at (then_at text_at (datum_at depth))))
    kind.1
    else None

-- pairs without the byte for their kind; each level takes a byte and more, so that there are fewer levels than bytes
abbrev pub dict_at : ℕ → List ℕ → Option (List (List ℕ × Data) × List ℕ)
dict_at depth bytes = pick_at ordered_of (list_at (then_at text_at (datum_at depth))) bytes
