-- Names that are put in order ascend, and are those that were put.
use Rattle.std.proofs.Common.{◌≡◌, ℕ, List, [], ◌∷◌, Bool, true, false, ◌||◌, ◌&&◌, Some, Result, Ok, Err, fold, map, refl, ap, sym, subst, ◌∙◌}
use Rattle.std.specs.Prelude.{IfOk, cond, is_some}
use Rattle.std.specs.Str.{bytes_eq}
use Rattle.std.specs.declared.alloc.AllocError.{AllocError}
use Rattle.cf_tree.specs.Keys.{ascends, ascends_from, bytes_lt, value_at}
use Rattle.cf_tree.specs.Lists.{is_among}
use Rattle.cf_tree.proofs.Order.{ascends_put}
use Rattle.cf_entry.specs.Entry.{texts_ascend, texts_ascend_from}
use Rattle.cf_desired.specs.Shape.{put_name}
use Rattle.cf_desired.proofs.Puts.{value_put}
use Rattle.cf_prepare.specs.Orders.{IsSorted}

abbrev Named : Type 0
Named = List (List ℕ × Bool)

abbrev names_of : Named → List (List ℕ)
names_of ps = map (λ p. p.0) ps

texts_from : (k : List ℕ) (ps : Named) → texts_ascend_from k (names_of ps) ≡ ascends_from k ps
texts_from k [] = refl
texts_from k (p ∷ ps) = ap (λ b. bytes_lt k p.0 && b) (texts_from p.0 ps)

texts_so : (ps : Named) → texts_ascend (names_of ps) ≡ ascends ps
texts_so [] = refl
texts_so (p ∷ ps) = texts_from p.0 ps

put_all : (names : List (List ℕ)) (ps : Named) → ascends ps ≡ true → ascends (fold put_name ps names) ≡ true
put_all [] ps h = h
put_all (k ∷ names) ps h = put_all names (put_name ps k) (ascends_put k true ps h)

among : (q : List ℕ) (ps : Named) → is_some (value_at q ps) ≡ is_among q (names_of ps)
among q [] = refl
among q (p ∷ ps) = by (bytes_eq q p.0) (among q ps) where
  by : (b : Bool) → is_some (value_at q ps) ≡ is_among q (names_of ps) → is_some (cond b (Some p.1) (value_at q ps)) ≡ (b || is_among q (names_of ps))
  by true ih = refl
  by false ih = ih

one_put : (q k : List ℕ) (ps : Named) → is_some (value_at q (put_name ps k)) ≡ (bytes_eq q k || is_some (value_at q ps))
one_put q k ps = ap is_some (value_put q k true ps) ∙ by (bytes_eq q k) where
  by : (b : Bool) → is_some (cond b (Some true) (value_at q ps)) ≡ (b || is_some (value_at q ps))
  by true = refl
  by false = refl

swapped : (a b c : Bool) → (c || (a || b)) ≡ ((a || c) || b)
swapped true true true = refl
swapped true true false = refl
swapped true false true = refl
swapped true false false = refl
swapped false true true = refl
swapped false true false = refl
swapped false false true = refl
swapped false false false = refl

or_last : (a : Bool) → (a || false) ≡ a
or_last true = refl
or_last false = refl

all_put : (q : List ℕ) (names : List (List ℕ)) (ps : Named) → is_some (value_at q (fold put_name ps names)) ≡ (is_some (value_at q ps) || is_among q names)
all_put q [] ps = sym (or_last (is_some (value_at q ps)))
all_put q (k ∷ names) ps =
    all_put q names (put_name ps k) ∙ ap (λ b. b || is_among q names) (one_put q k ps)
    ∙ sym (swapped (bytes_eq q k) (is_among q names) (is_some (value_at q ps)))

in_order : (names : List (List ℕ)) → IsSorted names (names_of (fold put_name [] names))
in_order names = record {
  ascend = texts_so (fold put_name [] names) ∙ put_all names [] refl;
  same = λ q. sym (among q (fold put_name [] names)) ∙ all_put q names [];
}

pub sorted_names : (paths : List (List ℕ)) (each pairs : Named) (r : Result (List (List ℕ)) AllocError) → each ≡ fold put_name [] paths → pairs ≡ each
    → IfOk r (λ names. names ≡ map (λ p. p.0) pairs) → IfOk r (λ sorted. IsSorted paths sorted)
sorted_names paths each pairs (Ok names) e f h = subst (IsSorted paths) (sym (h ∙ ap names_of (f ∙ e))) (in_order paths)
sorted_names paths each pairs (Err x) e f h = tt
