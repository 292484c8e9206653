-- One row more among those that are found by their paths.
use Rattle.std.proofs.Common.{◌≡◌, ℕ, suc, ◌+◌, ◌<◌, ◌&&◌, not, Bool, true, false, List, length, take, position, get_or, Option, Some, None, refl, ap, sym, ◌∙◌, subst, arith, cond, true≢false}
use Rattle.std.specs.Prelude.{is_some}
use Rattle.std.specs.Option.{option_or}
use Rattle.std.specs.Str.{bytes_eq}
use Rattle.std.proofs.Math.Seq.{take-suc}
use Rattle.std.proofs.lemmas.List.{length-take}
use Rattle.std.proofs.lemmas.Slice.Eq.{bytes_eq-Decides}
use Rattle.cf_tree.specs.Keys.{put, value_at}
use Rattle.cf_desired.proofs.Puts.{value_put}
use Rattle.cf_effect.specs.declared.held.Held.{Held}
use Rattle.cf_effect.specs.Index.{ArePlacesOf, is_path, put_place}
use Rattle.cf_effect.specs.Words.{is_current_at}
use Rattle.cf_effect.proofs.Places.{position_last}

nothing : {A : Type 0} (o : Option A) → is_some o ≡ false → o ≡ None
nothing None h = refl
nothing (Some a) h = absurd (true≢false h)

or_nothing : {A : Type 0} (o : Option A) → option_or o None ≡ o
or_nothing None = refl
or_nothing (Some a) = refl

or_something : {A : Type 0} (o p : Option A) → is_some o ≡ true → option_or o p ≡ o
or_something None p h = absurd (true≢false (sym h))
or_something (Some a) p h = refl

module _ {A : Type 0} (test : List ℕ → A → Bool) (all : List A) (i : ℕ) (x : A) (within : i < length all) (is : x ≡ get_or all i x) where
  abbrev before : List ℕ → Option ℕ
  before q = position (test q) (take i all)

  length_before : length (take i all) ≡ i
  length_before = grind (arith, length-take {A = A})

  one_more : (q : List ℕ) → position (test q) (take (suc i) all) ≡ option_or (before q) (cond (test q x) (Some i) None)
  one_more q =
      ap (position (test q)) (take-suc all i x within) ∙ position_last (test q) (take i all) (get_or all i x)
      ∙ ap (λ (n : ℕ). option_or (before q) (cond (test q (get_or all i x)) (Some n) None)) length_before
      ∙ ap (λ (y : A). option_or (before q) (cond (test q y) (Some i) None)) (sym is)

  -- a row that no path finds
  passed_over : (old : List (List ℕ × ℕ)) → ((q : List ℕ) → test q x ≡ false) → ArePlacesOf test (take i all) old → ArePlacesOf test (take (suc i) all) old
  passed_over old e h q = h q ∙ sym (one_more q ∙ ap (λ b. option_or (before q) (cond b (Some i) None)) (e q) ∙ or_nothing (before q))

  module _ (key : List ℕ) (same : (q : List ℕ) → test q x ≡ bytes_eq q key) (old : List (List ℕ × ℕ)) (h : ArePlacesOf test (take i all) old) where
    kept : is_some (value_at key old) ≡ true → (q : List ℕ) (c : Bool) → bytes_eq q key ≡ c → value_at q old ≡ option_or (before q) (cond c (Some i) None)
    kept g q false e = h q ∙ sym (or_nothing (before q))
    kept g q true e =
        let some : is_some (before q) ≡ true = ap is_some (sym (h q)) ∙ ap (λ n. is_some (value_at n old)) ((bytes_eq-Decides q key).0 e) ∙ g in
        h q ∙ sym (or_something (before q) (Some i) some)

    new_there : is_some (value_at key old) ≡ false → (q : List ℕ) (c : Bool) → bytes_eq q key ≡ c → cond c (Some i) (value_at q old) ≡ option_or (before q) (cond c (Some i) None)
    new_there g q false e = h q ∙ sym (or_nothing (before q))
    new_there g q true e =
        let none : before q ≡ None = nothing (before q) (ap is_some (sym (h q)) ∙ ap (λ n. is_some (value_at n old)) ((bytes_eq-Decides q key).0 e) ∙ g) in
        sym (ap (λ o. option_or o (Some i)) none)

    put_by : (b : Bool) → is_some (value_at key old) ≡ b → (q : List ℕ) → value_at q (cond b old (put key i old)) ≡ option_or (before q) (cond (bytes_eq q key) (Some i) None)
    put_by true g q = kept g q (bytes_eq q key) refl
    put_by false g q = value_put q key i old ∙ new_there g q (bytes_eq q key) refl

    placed_so : ArePlacesOf test (take (suc i) all) (put_place old key i)
    placed_so q =
        put_by (is_some (value_at key old)) refl q ∙ ap (λ b. option_or (before q) (cond b (Some i) None)) (sym (same q)) ∙ sym (one_more q)

  pub one_passed : (old : List (List ℕ × ℕ)) → ((q : List ℕ) → test q x ≡ is_path q None) → ArePlacesOf test (take i all) old → ArePlacesOf test (take (i + 1) all) old
  one_passed old e h =
      let next : suc i ≡ i + 1 = omega arith in
      subst (λ k. ArePlacesOf test (take k all) old) next (passed_over old e h)

  pub one_placed : (key : List ℕ) (old new : List (List ℕ × ℕ)) → ((q : List ℕ) → test q x ≡ is_path q (Some key)) → ArePlacesOf test (take i all) old → new ≡ put_place old key i
      → ArePlacesOf test (take (i + 1) all) new
  one_placed key old new e h put =
      let next : suc i ≡ i + 1 = omega arith in
      subst (λ k. ArePlacesOf test (take k all) new) next (subst (λ ps. ArePlacesOf test (take (suc i) all) ps) (sym put) (placed_so key e old h))

-- a resource is found by its path unless it is superseded
pub none_current : (h : Held) → h.superseded ≡ true → (path : List ℕ) → is_current_at path h ≡ is_path path None
none_current h e path = by (bytes_eq path h.path) h.superseded e where
  by : (a b : Bool) → b ≡ true → (a && not b) ≡ false
  by true b e = ap not e
  by false b e = refl

pub one_current : (h : Held) → h.superseded ≡ false → (path : List ℕ) → is_current_at path h ≡ is_path path (Some h.path)
one_current h e path = by (bytes_eq path h.path) h.superseded e where
  by : (a b : Bool) → b ≡ false → (a && not b) ≡ a
  by true b e = ap not e
  by false b e = refl
