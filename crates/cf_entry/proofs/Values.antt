-- The reader of values fits their spelling, where it may go as deep as the value goes.
use Rattle.std.proofs.Common.{◌≡◌, ℕ, zero, suc, ◌^◌, ◌<◌, ◌≤◌, max, Bool, true, false, cond, eqb, List, [], ◌∷◌, ◌++◌, length, Some, None, refl, sym, ap, subst, ◌∙◌, append_assoc, length-append, arith, inl, inr}
use Rattle.std.specs.Prelude.{IsTrue, FitsSigned}
use Rattle.std.specs.Int.{w64, cast_signed, cast_unsigned}
use Rattle.std.specs.List.{flat_map, AllByRecursion}
use Rattle.std.proofs.lemmas.Bool.{eqb-true}
use Rattle.std.proofs.lemmas.Int.{of_z-to_z, to_z-of_z}
use Rattle.std.proofs.Math.Facts.{sfits_to_z, Fits-of_lt, Fits-of_z, Fits-lt-pow}
use Rattle.cf_tree.specs.Datum.{Data, Items, Members, text, whole, truth, list, dict, no_items, item, no_members, member, items_of, members_of}
use Rattle.cf_tree.specs.Keys.{ascends}
use Rattle.cf_entry.specs.Bytes.{four_bytes, eight_bytes, text_bytes, truth_byte, list_bytes, IsText, IsEight, AreAll}
use Rattle.cf_entry.specs.Value.{value_bytes, items_bytes, members_bytes, values_bytes, dict_bytes, number_of_items, number_of_members, pairs_of_members, IsValue, AreValues, AreMembers, IsDict}
use Rattle.cf_entry.specs.Reading.{then_at, pick_at, byte_at, eight_at, text_at, list_at, truth_of, ordered_of, datum_at, dict_at}
use Rattle.cf_entry.proofs.Codec.{IsBytes, IsBytes-rest, some_is, if_some, test_some, Taken, Codes, codes_then, codes_pick, pick_again}
use Rattle.cf_entry.proofs.Fields.{codes_byte, codes_eight, codes_text, codes_list}
use Rattle.cf_entry.proofs.Tagged.{tagged, first_of_5}

-- ---- how deep a value goes

abbrev mutual
  pub levels : Data → ℕ
  levels (text t) = 1
  levels (whole n) = 1
  levels (truth b) = 1
  levels (list ds) = suc (levels_of_items ds)
  levels (dict ms) = suc (levels_of_members ms)

  pub levels_of_items : Items → ℕ
  levels_of_items no_items = 0
  levels_of_items (item d ds) = max (levels d) (levels_of_items ds)

  pub levels_of_members : Members → ℕ
  levels_of_members no_members = 0
  levels_of_members (member k d ms) = max (levels d) (levels_of_members ms)

-- no deeper than it is long
mutual
  levels_few : (d : Data) → levels d ≤ length (value_bytes d)
  levels_few (text t) = omega arith
  levels_few (whole n) = omega arith
  levels_few (truth b) = omega arith
  levels_few (list ds) = omega (arith, levels_few_items ds)
  levels_few (dict ms) = omega (arith, levels_few_members ms)

  levels_few_items : (ds : Items) → levels_of_items ds ≤ length (items_bytes ds)
  levels_few_items no_items = omega arith
  levels_few_items (item d ds) = omega (arith, length-append (value_bytes d) (items_bytes ds), levels_few d, levels_few_items ds)

  pub levels_few_members : (ms : Members) → levels_of_members ms ≤ length (members_bytes ms)
  levels_few_members no_members = omega arith
  levels_few_members (member k d ms) = omega (arith, length-append (text_bytes k) (value_bytes d ++ members_bytes ms), length-append (value_bytes d) (members_bytes ms), levels_few d, levels_few_members ms)

-- a value of at most so many levels
abbrev pub IsAt : ℕ → Data → Type 0
IsAt depth d = IsValue d × (levels d ≤ depth)

abbrev IsPairAt : ℕ → List ℕ × Data → Type 0
IsPairAt depth p = IsText p.0 × IsAt depth p.1

abbrev pair_spelling : List ℕ × Data → List ℕ
pair_spelling p = text_bytes p.0 ++ value_bytes p.1

-- ---- items and members as lists

list_of_items : Items → List Data
list_of_items no_items = []
list_of_items (item d ds) = d ∷ list_of_items ds

items_back : (ds : Items) → items_of (list_of_items ds) ≡ ds
unfolding list_of_items
items_back no_items = refl
items_back (item d ds) = ap (item d) (items_back ds)

members_back : (ms : Members) → members_of (pairs_of_members ms) ≡ ms
members_back no_members = refl
members_back (member k d ms) = ap (member k d) (members_back ms)

items_long : (ds : List Data) → number_of_items (items_of ds) ≡ length ds
items_long [] = refl
items_long (d ∷ ds) = ap suc (items_long ds)

members_long : (ps : List (List ℕ × Data)) → number_of_members (members_of ps) ≡ length ps
members_long [] = refl
members_long (p ∷ ps) = ap suc (members_long ps)

items_spelled : (ds : List Data) → items_bytes (items_of ds) ≡ flat_map value_bytes ds
items_spelled [] = refl
items_spelled (d ∷ ds) = ap (λ r. value_bytes d ++ r) (items_spelled ds)

members_spelled : (ps : List (List ℕ × Data)) → members_bytes (members_of ps) ≡ flat_map pair_spelling ps
members_spelled [] = refl
members_spelled (p ∷ ps) = ap (λ r. text_bytes p.0 ++ (value_bytes p.1 ++ r)) (members_spelled ps) ∙ sym (append_assoc (text_bytes p.0) (value_bytes p.1) (flat_map pair_spelling ps))

values_spelled : (ds : List Data) → values_bytes (items_of ds) ≡ list_bytes value_bytes ds
values_spelled ds = ap (λ n. four_bytes n ++ items_bytes (items_of ds)) (items_long ds) ∙ ap (λ r. four_bytes (length ds) ++ r) (items_spelled ds)

dict_spelled : (ps : List (List ℕ × Data)) → dict_bytes ps ≡ list_bytes pair_spelling ps
dict_spelled ps = ap (λ n. four_bytes n ++ members_bytes (members_of ps)) (members_long ps) ∙ ap (λ r. four_bytes (length ps) ++ r) (members_spelled ps)

pairs_back : (ps : List (List ℕ × Data)) → pairs_of_members (members_of ps) ≡ ps
pairs_back [] = refl
pairs_back (p ∷ ps) = ap (λ qs. p ∷ qs) (pairs_back ps)

-- ---- what is so of each is so of all

items_fit : (depth : ℕ) (ds : List Data) → AllByRecursion (IsAt depth) ds → AreValues (items_of ds) × (levels_of_items (items_of ds) ≤ depth)
items_fit depth [] h = (tt, omega arith)
items_fit depth (d ∷ ds) h =
    let r = items_fit depth ds h.1 in
    let a = h.0.1 in
    ((h.0.0, r.0), omega arith)

items_fit_each : (depth : ℕ) (ds : Items) → AreValues ds → levels_of_items ds ≤ depth → AllByRecursion (IsAt depth) (list_of_items ds)
unfolding list_of_items
items_fit_each depth no_items h l = tt
items_fit_each depth (item d ds) h l = ((h.0, omega arith), items_fit_each depth ds h.1 (omega arith))

members_fit : (depth : ℕ) (ps : List (List ℕ × Data)) → AllByRecursion (IsPairAt depth) ps → AreMembers (members_of ps) × (levels_of_members (members_of ps) ≤ depth)
members_fit depth [] h = (tt, omega arith)
members_fit depth (p ∷ ps) h =
    let r = members_fit depth ps h.1 in
    let a = h.0.1.1 in
    ((h.0.0, h.0.1.0, r.0), omega arith)

members_fit_each : (depth : ℕ) (ps : List (List ℕ × Data)) → AreMembers (members_of ps) → levels_of_members (members_of ps) ≤ depth → AllByRecursion (IsPairAt depth) ps
members_fit_each depth [] h l = tt
members_fit_each depth (p ∷ ps) h l = ((h.0, (h.1, omega arith)), members_fit_each depth ps h.2 (omega arith))

-- a dictionary of at most so many levels
abbrev pub IsDictAt : ℕ → List (List ℕ × Data) → Type 0
IsDictAt depth ps = IsDict ps × (levels_of_members (members_of ps) ≤ depth)

pub dict_codes : (depth : ℕ) → Codes value_bytes (IsAt depth) (datum_at depth) → Codes dict_bytes (IsDictAt depth) (dict_at depth)
dict_codes depth c =
    let pairs = codes_list pair_spelling (IsPairAt depth) (then_at text_at (datum_at depth)) (codes_then text_bytes IsText text_at value_bytes (IsAt depth) (datum_at depth) codes_text c) in
    codes_pick (list_bytes pair_spelling) (AreAll (IsPairAt depth)) (list_at (then_at text_at (datum_at depth))) ordered_of dict_bytes (IsDictAt depth) pairs
    (λ a b fits e.
    let t = test_some (ascends a) a b e in
    let r = members_fit depth a fits.1 in
    subst (λ (q : List (List ℕ × Data)). (list_bytes pair_spelling a ≡ dict_bytes q) × IsDictAt depth q) t.1 (sym (dict_spelled a), ((rw (members_long a) fits.0, rw (pairs_back a) t.0, r.0), r.1)))
    (λ b fits. (b, (rw (← members_long b) fits.0.0, members_fit_each depth b fits.0.2 fits.1), rw (rw (pairs_back b) at fits.0.1) refl, sym (dict_spelled b)))

-- ---- values

truth_there : (n : ℕ) (b : Bool) → truth_of n ≡ Some b → n ≡ truth_byte b
truth_there n b e =
    elim (if_some (eqb n 0) (Some false) (cond (eqb n 1) (Some true) None) b e) [
      | inl a ↦ eqb-true _ _ a.0 ∙ ap truth_byte (some_is false b a.1)
      | inr a ↦ let t = test_some (eqb n 1) true b a.1 in eqb-true _ _ t.0 ∙ ap truth_byte t.1
    ]

truth_back : (b : Bool) → truth_of (truth_byte b) ≡ Some b
truth_back false = refl
truth_back true = refl

truth_small : (b : Bool) → truth_byte b < 256
truth_small false = omega arith
truth_small true = omega arith

pub codes_truth : Codes (λ b. truth_byte b ∷ []) (λ b. Unit {0}) (pick_at truth_of byte_at)
codes_truth = codes_pick (λ b. b ∷ []) (λ b. b < 256) byte_at truth_of (λ b. truth_byte b ∷ []) (λ b. Unit {0}) codes_byte
    (λ n b fits e. (ap (λ m. m ∷ []) (truth_there n b e), tt))
    (λ b h. (truth_byte b, truth_small b, truth_back b, refl))

whole_there : (n : ℕ) → IsEight n → FitsSigned w64 (cast_signed w64 n)
whole_there n h = sfits_to_z (Fits-of_lt h)

module _ (depth : ℕ) (c : Codes value_bytes (IsAt depth) (datum_at depth)) where
  text_case : (t : List ℕ) (x : Data) → IsText t → Some (text t) ≡ Some x → (1 ∷ text_bytes t ≡ value_bytes x) × IsAt (suc depth) x
  text_case t x fits e = subst (λ y. (1 ∷ text_bytes t ≡ value_bytes y) × IsAt (suc depth) y) (some_is (text t) x e) (refl, (fits, omega arith))

  whole_case : (n : ℕ) (x : Data) → IsEight n → Some (whole (cast_signed w64 n)) ≡ Some x → (2 ∷ eight_bytes n ≡ value_bytes x) × IsAt (suc depth) x
  whole_case n x fits e = subst (λ y. (2 ∷ eight_bytes n ≡ value_bytes y) × IsAt (suc depth) y) (some_is (whole (cast_signed w64 n)) x e) (ap (λ m. 2 ∷ eight_bytes m) (sym (of_z-to_z w64 n fits)), (whole_there n fits, omega arith))

  truth_case : (b : Bool) (x : Data) → Unit {0} → Some (truth b) ≡ Some x → (3 ∷ truth_byte b ∷ [] ≡ value_bytes x) × IsAt (suc depth) x
  truth_case b x fits e = subst (λ y. (3 ∷ truth_byte b ∷ [] ≡ value_bytes y) × IsAt (suc depth) y) (some_is (truth b) x e) (refl, (tt, omega arith))

  list_case : (ds : List Data) (x : Data) → AreAll (IsAt depth) ds → Some (list (items_of ds)) ≡ Some x → (4 ∷ list_bytes value_bytes ds ≡ value_bytes x) × IsAt (suc depth) x
  list_case ds x fits e =
      let r = items_fit depth ds fits.1 in
      let l = r.1 in
      subst (λ y. (4 ∷ list_bytes value_bytes ds ≡ value_bytes y) × IsAt (suc depth) y) (some_is (list (items_of ds)) x e) (ap (λ s. 4 ∷ s) (sym (values_spelled ds)), ((rw (items_long ds) fits.0, r.0), omega arith))

  dict_case : (ps : List (List ℕ × Data)) (x : Data) → IsDictAt depth ps → Some (dict (members_of ps)) ≡ Some x → (5 ∷ dict_bytes ps ≡ value_bytes x) × IsAt (suc depth) x
  dict_case ps x fits e =
      let l = fits.1 in
      subst (λ y. (5 ∷ dict_bytes ps ≡ value_bytes y) × IsAt (suc depth) y) (some_is (dict (members_of ps)) x e) (refl, (fits.0, omega arith))

  lists : Codes (list_bytes value_bytes) (AreAll (IsAt depth)) (list_at (datum_at depth))
  lists = codes_list value_bytes (IsAt depth) (datum_at depth) c

  value_takes_at : (k : ℕ) (bytes : List ℕ) (x : Data) (rest : List ℕ) → IsBytes bytes → datum_at (suc depth) (k ∷ bytes) ≡ Some (x, rest) → Taken value_bytes (IsAt (suc depth)) (k ∷ bytes) x rest
  unfolding datum_at
  value_takes_at k bytes x rest h e =
      let Goal : ℕ → Type 0 = λ n. Taken value_bytes (IsAt (suc depth)) (n ∷ bytes) x rest in
      first_of_5 (x, rest) (Goal k) k 1 2 3 4 5
      (pick_at (λ t. Some (text t)) text_at bytes) (pick_at (λ n. Some (whole (cast_signed w64 n))) eight_at bytes) (pick_at (λ b. Some (truth b)) (pick_at truth_of byte_at) bytes) (pick_at (λ ds. Some (list (items_of ds))) (list_at (datum_at depth)) bytes) (pick_at (λ ps. Some (dict (members_of ps))) (dict_at depth) bytes)
      e
      (λ i f. subst Goal (sym i) (tagged 1 (λ t. Some (text t)) text_bytes IsText text_at value_bytes (IsAt (suc depth)) codes_text text_case bytes x rest h f))
      (λ i f. subst Goal (sym i) (tagged 2 (λ n. Some (whole (cast_signed w64 n))) eight_bytes IsEight eight_at value_bytes (IsAt (suc depth)) codes_eight whole_case bytes x rest h f))
      (λ i f. subst Goal (sym i) (tagged 3 (λ b. Some (truth b)) (λ b. truth_byte b ∷ []) (λ b. Unit {0}) (pick_at truth_of byte_at) value_bytes (IsAt (suc depth)) codes_truth truth_case bytes x rest h f))
      (λ i f. subst Goal (sym i) (tagged 4 (λ ds. Some (list (items_of ds))) (list_bytes value_bytes) (AreAll (IsAt depth)) (list_at (datum_at depth)) value_bytes (IsAt (suc depth)) lists list_case bytes x rest h f))
      (λ i f. subst Goal (sym i) (tagged 5 (λ ps. Some (dict (members_of ps))) dict_bytes (IsDictAt depth) (dict_at depth) value_bytes (IsAt (suc depth)) (dict_codes depth c) dict_case bytes x rest h f))

  value_takes : (bytes : List ℕ) (x : Data) (rest : List ℕ) → IsBytes bytes → datum_at (suc depth) bytes ≡ Some (x, rest) → Taken value_bytes (IsAt (suc depth)) bytes x rest
  unfolding datum_at
  value_takes [] x rest h e = absurd cc
  value_takes (k ∷ bytes) x rest h e = value_takes_at k bytes x rest (IsBytes-rest k bytes h) e

  value_again : (x : Data) (rest : List ℕ) → IsAt (suc depth) x → datum_at (suc depth) (value_bytes x ++ rest) ≡ Some (x, rest)
  unfolding datum_at
  value_again (text t) rest h = pick_again text_bytes IsText text_at (λ t. Some (text t)) codes_text t (text t) rest h.0 refl
  value_again (whole n) rest h =
      let fits = Fits-of_z {w = w64} h.0 in
      pick_again eight_bytes IsEight eight_at (λ m. Some (whole (cast_signed w64 m))) codes_eight (cast_unsigned w64 n) (whole n) rest (Fits-lt-pow fits) (ap (λ z. Some (whole z)) (to_z-of_z w64 n h.0))
  value_again (truth b) rest h = pick_again (λ b. truth_byte b ∷ []) (λ b. Unit {0}) (pick_at truth_of byte_at) (λ b. Some (truth b)) codes_truth b (truth b) rest tt refl
  value_again (list ds) rest h =
      let l = h.1 in
      let xs = list_of_items ds in
      let back : items_of xs ≡ ds = items_back ds in
      let long : number_of_items ds ≡ length xs = subst (λ es. number_of_items es ≡ length xs) back (items_long xs) in
      let same : values_bytes ds ≡ list_bytes value_bytes xs = subst (λ es. values_bytes es ≡ list_bytes value_bytes xs) back (values_spelled xs) in
      let fits : AreAll (IsAt depth) xs = (rw (← long) h.0.0, items_fit_each depth ds h.0.1 (omega arith)) in
      let made = pick_again (list_bytes value_bytes) (AreAll (IsAt depth)) (list_at (datum_at depth)) (λ es. Some (list (items_of es))) lists xs (list ds) rest fits (ap (λ es. Some (list es)) back) in
      subst (λ s. pick_at (λ es. Some (list (items_of es))) (list_at (datum_at depth)) (s ++ rest) ≡ Some (list ds, rest)) (sym same) made
  value_again (dict ms) rest h =
      let l = h.1 in
      let ps = pairs_of_members ms in
      let back : members_of ps ≡ ms = members_back ms in
      let fits : IsDictAt depth ps = subst (λ ns. ((number_of_members ns < 2 ^ 32) × IsTrue (ascends (pairs_of_members ns)) × AreMembers ns) × (levels_of_members ns ≤ depth)) (sym back) (h.0, omega arith) in
      let made = pick_again dict_bytes (IsDictAt depth) (dict_at depth) (λ qs. Some (dict (members_of qs))) (dict_codes depth c) ps (dict ms) rest fits (ap (λ ns. Some (dict ns)) back) in
      subst (λ ns. pick_at (λ qs. Some (dict (members_of qs))) (dict_at depth) ((four_bytes (number_of_members ns) ++ members_bytes ns) ++ rest) ≡ Some (dict ms, rest)) back made

-- a value has a level
levels_some : (d : Data) → 1 ≤ levels d
levels_some (text t) = omega arith
levels_some (whole n) = omega arith
levels_some (truth b) = omega arith
levels_some (list ds) = omega arith
levels_some (dict ms) = omega arith

no_level : (d : Data) → levels d ≤ 0 → ⊥
no_level d h = omega (arith, levels_some d)

pub codes_value : (depth : ℕ) → Codes value_bytes (IsAt depth) (datum_at depth)
unfolding datum_at
codes_value zero = record { takes = λ bytes x rest h e. absurd cc; again = λ x rest h. absurd (no_level x h.1) }
codes_value (suc depth) = record { takes = value_takes depth (codes_value depth); again = value_again depth (codes_value depth) }
