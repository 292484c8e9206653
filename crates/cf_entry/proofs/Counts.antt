-- A list has no more members than bytes, and the members of a value are those of its list.
use Rattle.std.proofs.Common.{◌≡◌, ℕ, suc, ◌+◌, ◌≤◌, ◌<◌, ◌^◌, List, [], ◌∷◌, ◌++◌, length, refl, ap, arith, length-append, add-one, drop-cons, drop, get_or}
use Rattle.std.proofs.Math.ListN.{drop_of_length-le}
use Rattle.cf_tree.specs.Datum.{Data, Items, Members, text, whole, truth, list, dict, no_items, item, no_members, member, items_of, members_of}
use Rattle.cf_tree.specs.Value.{datum_of, data_of, pairs_of}
use Rattle.cf_tree.specs.declared.value.Val.{Val}
use Rattle.cf_tree.specs.declared.value.Pair.{Pair}
use Rattle.std.specs.List.{flat_map, AllByRecursion}
use Rattle.cf_entry.specs.Bytes.{text_bytes, pair_bytes, list_bytes}
use Rattle.cf_tree.specs.declared.row.Detail.{Detail}
use Rattle.cf_tree.specs.declared.row.Row.{Row}
use Rattle.cf_entry.specs.Entry.{row_bytes, detail_bytes}
use Rattle.cf_entry.specs.Value.{value_bytes, items_bytes, members_bytes, number_of_items, number_of_members, values_bytes, dict_bytes, pairs_of_members, AreValues, AreMembers}

value_is_longer : (d : Data) → 1 ≤ length (value_bytes d)
value_is_longer (text t) = omega arith
value_is_longer (whole n) = omega arith
value_is_longer (truth b) = omega arith
value_is_longer (list ds) = omega arith
value_is_longer (dict ms) = omega arith

pub items_counted : (ds : Items) → number_of_items ds ≤ length (items_bytes ds)
items_counted no_items = omega arith
items_counted (item d ds) = omega (arith, length-append (value_bytes d) (items_bytes ds), value_is_longer d, items_counted ds)

pub members_counted : (ms : Members) → number_of_members ms ≤ length (members_bytes ms)
members_counted no_members = omega arith
members_counted (member k d ms) = omega (arith, length-append (text_bytes k) (value_bytes d ++ members_bytes ms), length-append (value_bytes d) (members_bytes ms), value_is_longer d, members_counted ms)

pub items_are : (vs : List Val) → number_of_items (items_of (data_of vs)) ≡ length vs
items_are [] = refl
items_are (v ∷ vs) = ap suc (items_are vs)

pub members_are : (ps : List Pair) → number_of_members (members_of (pairs_of ps)) ≡ length ps
members_are [] = refl
members_are (p ∷ ps) = ap suc (members_are ps)

pub pairs_are : (ps : List (List ℕ × Data)) → pairs_of_members (members_of ps) ≡ ps
pairs_are [] = refl
pairs_are (p ∷ ps) = ap (λ qs. p ∷ qs) (pairs_are ps)

-- a list whose bytes are few has few members
pub few_items : (vs : List Val) (ds : List Data) → data_of vs ≡ ds → length (values_bytes (items_of ds)) < 2 ^ 32 → length vs < 2 ^ 32
few_items vs ds e h =
    let fewer : number_of_items (items_of ds) ≡ length vs = rw (← e) (items_are vs) in
    omega (arith, items_counted (items_of ds))

pub few_members : (vs : List Pair) (ds : List (List ℕ × Data)) → pairs_of vs ≡ ds → length (dict_bytes ds) < 2 ^ 32 → length vs < 2 ^ 32
few_members vs ds e h =
    let fewer : number_of_members (members_of ds) ≡ length vs = rw (← e) (members_are vs) in
    omega (arith, members_counted (members_of ds))

-- the bytes from a member on are its own and those of what follows
pub next_item : (vs : List Val) (i : ℕ) (v : Val) → i < length vs → v ≡ get_or vs i v → items_bytes (items_of (data_of (drop i vs))) ≡ value_bytes (datum_of v) ++ items_bytes (items_of (data_of (drop (i + 1) vs)))
next_item vs i v h e = rw (add-one, drop-cons vs i v h, ← e) refl

pub next_member : (ps : List Pair) (i : ℕ) (p : Pair) → i < length ps → p ≡ get_or ps i p → members_bytes (members_of (pairs_of (drop i ps))) ≡ text_bytes p.name ++ (value_bytes (datum_of p.value) ++ members_bytes (members_of (pairs_of (drop (i + 1) ps))))
next_member ps i p h e = rw (add-one, drop-cons ps i p h, ← e) refl

-- nothing is left behind the last
pub no_item_left : (vs : List Val) (i : ℕ) → length vs ≤ i → AreValues (items_of (data_of (drop i vs)))
no_item_left vs i h = rw (drop_of_length-le vs h) tt

pub no_member_left : (ps : List Pair) (i : ℕ) → length ps ≤ i → AreMembers (members_of (pairs_of (drop i ps)))
no_member_left ps i h = rw (drop_of_length-le ps h) tt

-- a list whose members each have a byte has no more members than bytes
counted : {X : Type 0} (spell : X → List ℕ) → ((x : X) → 1 ≤ length (spell x)) → (xs : List X) → length xs ≤ length (flat_map spell xs)
counted spell long [] = omega arith
counted spell long (x ∷ xs) = omega (arith, length-append (spell x) (flat_map spell xs), long x, counted spell long xs)

pub few_texts : (ts : List (List ℕ)) → length (list_bytes text_bytes ts) < 2 ^ 32 → length ts < 2 ^ 32
few_texts ts h = omega (arith, counted text_bytes (λ t. omega arith) ts)

pub few_pairs : (ps : List (List ℕ × List ℕ)) → length (list_bytes pair_bytes ps) < 2 ^ 32 → length ps < 2 ^ 32
few_pairs ps h = omega (arith, counted pair_bytes (λ p. omega arith) ps)

pub none_left : {X : Type 0} (Is : X → Type 0) (xs : List X) (i : ℕ) → length xs ≤ i → AllByRecursion Is (drop i xs)
none_left Is xs i h = rw (drop_of_length-le xs h) tt

pub few_rows : (rs : List Row) → length (list_bytes row_bytes rs) < 2 ^ 32 → length rs < 2 ^ 32
few_rows rs h = omega (arith, counted row_bytes (λ r. omega arith) rs)

pub few_details : (ds : List Detail) → length (list_bytes detail_bytes ds) < 2 ^ 32 → length ds < 2 ^ 32
few_details ds h = omega (arith, counted detail_bytes (λ d. omega arith) ds)
