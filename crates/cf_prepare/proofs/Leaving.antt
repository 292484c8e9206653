-- Imports that are left out, one after another.
use Rattle.std.proofs.lemmas.List.{drop_all}
use Rattle.std.proofs.Common.{◌≡◌, ◌+◌, ◌++◌, add-one, append-nil, drop, drop-cons, get_or, ℕ, ◌<◌, ◌≤◌, suc, List, [], ◌∷◌, Bool, true, false, ◌||◌, ◌&&◌, not, Some, None, filter, map, length, refl, ap, sym, subst, ◌∙◌, true≢false, arith, zero}
use Rattle.std.specs.Prelude.{MatchBool, cond}
use Rattle.std.specs.Cmp.{first_so, second_so}
use Rattle.std.specs.Cmp.Lexicographic.{slice_cmp, nat_list_cmp_total}
use Rattle.std.specs.Ordering.{nat_cmp, is_lt}
use Rattle.std.specs.declared.cmp.Ordering.{Ordering}
use Rattle.std.specs.declared.cmp.Ordering.TheVariants.{Less, Equal, Greater}
use Rattle.std.specs.Str.{bytes_eq}
use Rattle.std.proofs.lemmas.Slice.Eq.{bytes_eq-Decides}
use Rattle.cf_tree.specs.Keys.{ascends, ascends_from, bytes_lt, value_at}
use Rattle.cf_tree.specs.Lists.{is_among}
use Rattle.cf_tree.specs.declared.source.Source.{Source}
use Rattle.cf_desired.specs.Plan.{plan_of}
use Rattle.cf_desired.specs.Seeing.{Seen}
use Rattle.cf_desired.specs.declared.wanted.Plan.{Plan}
use Rattle.cf_plan.specs.Accept.{with_imports, without_import}
use Rattle.cf_prepare.specs.Imports.{UsesJust}
use Rattle.cf_prepare.specs.Leaving.{AllUsed, IsUsed, KeepsPlan, HasOnlyUsed, LeavesOut, LeavesSome, leaving_out}

both : {a b : Bool} → a ≡ true → b ≡ true → (a && b) ≡ true
both p q = λ i. p i && q i

less_of : (o : Ordering) → is_lt o ≡ true → o ≡ Less
less_of Less h = refl
less_of Equal h = absurd (true≢false (sym h))
less_of Greater h = absurd (true≢false (sym h))

lt_trans : (a b c : List ℕ) → bytes_lt a b ≡ true → bytes_lt b c ≡ true → bytes_lt a c ≡ true
lt_trans a b c h g = ap is_lt (nat_list_cmp_total.trans a b c (less_of (slice_cmp nat_cmp a b) h) (less_of (slice_cmp nat_cmp b c) g))

-- pairs that ascend do so without some of them
module _ {X : Type 0} (test : List ℕ × X → Bool) where
  lower : (j k : List ℕ) (ps : List (List ℕ × X)) → bytes_lt j k ≡ true → ascends_from k ps ≡ true → ascends_from j ps ≡ true
  lower j k [] h g = refl
  lower j k (p ∷ ps) h g = both (lt_trans j k p.0 h (first_so (bytes_lt k p.0) (ascends_from p.0 ps) g)) (second_so (bytes_lt k p.0) (ascends_from p.0 ps) g)

  one_from : (k : List ℕ) (p : List ℕ × X) (qs : List (List ℕ × X)) (b : Bool) → bytes_lt k p.0 ≡ true → ascends_from p.0 qs ≡ true → ascends_from k (cond b (p ∷ qs) qs) ≡ true
  one_from k p qs true less rest = both less rest
  one_from k p qs false less rest = lower k p.0 qs less rest

  filtered_from : (k : List ℕ) (ps : List (List ℕ × X)) → ascends_from k ps ≡ true → ascends_from k (filter test ps) ≡ true
  filtered_from k [] h = refl
  filtered_from k (p ∷ ps) h =
      one_from k p (filter test ps) (test p) (first_so (bytes_lt k p.0) (ascends_from p.0 ps) h)
      (filtered_from p.0 ps (second_so (bytes_lt k p.0) (ascends_from p.0 ps) h))

  above : (k : List ℕ) (qs : List (List ℕ × X)) → ascends_from k qs ≡ true → ascends qs ≡ true
  above k [] g = refl
  above k (q ∷ qs) g = second_so (bytes_lt k q.0) (ascends_from q.0 qs) g

  one_in_order : (p : List ℕ × X) (qs : List (List ℕ × X)) (b : Bool) → ascends_from p.0 qs ≡ true → ascends (cond b (p ∷ qs) qs) ≡ true
  one_in_order p qs true h = h
  one_in_order p qs false h = above p.0 qs h

  pub filtered_ascends : (ps : List (List ℕ × X)) → ascends ps ≡ true → ascends (filter test ps) ≡ true
  filtered_ascends [] h = refl
  filtered_ascends (p ∷ ps) h = one_in_order p (filter test ps) (test p) (filtered_from p.0 ps h)

-- what is left out is no longer there, and all else is
abbrev Imports : Type 0
Imports = List (List ℕ × List ℕ)

-- pairs in order, once all were gone over
pub left_in_order : (name : List ℕ) (all items left : Imports) (k : ℕ) → ascends all ≡ true → items ≡ all → left ++ without_import name (drop k items) ≡ without_import name all
    → length items ≤ k → ascends left ≡ true
left_in_order name all items left k h e g over =
    subst (λ (ps : Imports). ascends ps ≡ true)
    (sym (sym (append-nil left) ∙ ap (λ (ps : Imports). left ++ without_import name ps) (sym (drop_all k items over)) ∙ g))
    (filtered_ascends (λ i. not (bytes_eq name i.0)) all h)

gone : (q : List ℕ) (qs : Imports) → value_at q (without_import q qs) ≡ None
gone q [] = refl
gone q (r ∷ qs) = by (bytes_eq q r.0) refl (gone q qs) where
  by : (c : Bool) → bytes_eq q r.0 ≡ c → value_at q (without_import q qs) ≡ None → value_at q (cond (not c) (r ∷ without_import q qs) (without_import q qs)) ≡ None
  by true x ih = ih
  by false x ih = ap (λ c. cond c (Some r.1) (value_at q (without_import q qs))) x ∙ ih

none_some : {A : Type 0} (v : List ℕ) → None ≡ Some v → A
none_some v q = absurd cc

kept_value : (m n v : List ℕ) (ps : Imports) → value_at n (without_import m ps) ≡ Some v → value_at n ps ≡ Some v
kept_value m n v [] h = h
kept_value m n v (p ∷ ps) h = by (bytes_eq m p.0) (bytes_eq n p.0) refl refl h (kept_value m n v ps) where
  by : (a b : Bool) → bytes_eq m p.0 ≡ a → bytes_eq n p.0 ≡ b → value_at n (cond (not a) (p ∷ without_import m ps) (without_import m ps)) ≡ Some v
      → (value_at n (without_import m ps) ≡ Some v → value_at n ps ≡ Some v) → cond b (Some p.1) (value_at n ps) ≡ Some v
  by true false d e g ih = ih g
  by true true d e g ih =
      let same : m ≡ n = (bytes_eq-Decides m p.0).0 d ∙ sym ((bytes_eq-Decides n p.0).0 e) in
      none_some v (sym (ap (λ q. value_at q (without_import m ps)) (sym same) ∙ gone m ps) ∙ g)
  by false true d e g ih = ap (λ c. cond c (Some p.1) (value_at n (without_import m ps))) (sym e) ∙ g
  by false false d e g ih = ih (ap (λ c. cond c (Some p.1) (value_at n (without_import m ps))) (sym e) ∙ g)

fewer : (m : List ℕ) (ps : Imports) → length (without_import m ps) ≤ length ps
fewer m [] = omega arith
fewer m (p ∷ ps) = by (bytes_eq m p.0) (fewer m ps) where
  by : (b : Bool) → length (without_import m ps) ≤ length ps → length (cond (not b) (p ∷ without_import m ps) (without_import m ps)) ≤ suc (length ps)
  by true h = omega arith
  by false h = omega arith

-- one that is there is one less
one_fewer : (m : List ℕ) (ps : Imports) → is_among m (map (λ i. i.0) ps) ≡ true → length (without_import m ps) < length ps
one_fewer m [] h = absurd (true≢false (sym h))
one_fewer m (p ∷ ps) h = by (bytes_eq m p.0) h (one_fewer m ps) where
  by : (b : Bool) → (b || is_among m (map (λ i. i.0) ps)) ≡ true → (is_among m (map (λ i. i.0) ps) ≡ true → length (without_import m ps) < length ps)
      → length (cond (not b) (p ∷ without_import m ps) (without_import m ps)) < suc (length ps)
  by true g ih = let le : length (without_import m ps) ≤ length ps = fewer m ps in omega arith
  by false g ih = let lt : length (without_import m ps) < length ps = ih g in omega arith

pub named_there : (n v : List ℕ) (ps : Imports) → value_at n ps ≡ Some v → is_among n (map (λ i. i.0) ps) ≡ true
named_there n v [] h = let no : ⊥ = cc in absurd no
named_there n v (p ∷ ps) h = by (bytes_eq n p.0) h (named_there n v ps) where
  by : (b : Bool) → cond b (Some p.1) (value_at n ps) ≡ Some v → (value_at n ps ≡ Some v → is_among n (map (λ i. i.0) ps) ≡ true) → (b || is_among n (map (λ i. i.0) ps)) ≡ true
  by true g ih = refl
  by false g ih = ih g

-- Along some names: new keeps of old what it needs, and either there are fewer imports, or nothing changed and each name tried is used.
abbrev pub TriedAll : Seen → Plan → Source → List (List ℕ) → List (List ℕ) → Type 0
TriedAll seen p s left names =
    ((n : List ℕ) → is_among n left ≡ true → IsUsed seen p s n) → (n : List ℕ) → is_among n names ≡ true → IsUsed seen p s n

abbrev pub TriedSome : Seen → Plan → Source → Source → List (List ℕ) → List (List ℕ) → Bool → Type 0
TriedSome seen p old new left names out =
    KeepsPlan seen p old new × MatchBool out (length new.imports < length old.imports) ((new ≡ old) × TriedAll seen p old left names)

pub tried_none : (seen : Seen) (p : Plan) (s : Source) (names : List (List ℕ)) → TriedSome seen p s s names names false
tried_none seen p s names = (record { rest = refl; part = λ n v h. h; same = λ h. h }, (refl, λ h. h))

keeps_on : (seen : Seen) (p : Plan) (old mid new : Source) (n : List ℕ) → KeepsPlan seen p old mid → new ≡ leaving_out n mid → plan_of new seen ≡ p → KeepsPlan seen p old new
keeps_on seen p old mid new n k e same =
    subst (λ (s : Source). plan_of s seen ≡ p → KeepsPlan seen p old s) (sym e)
    (λ h. record {
      rest = ap (λ (s : Source). with_imports s (without_import n mid.imports)) k.rest;
      part = λ m v g. k.part m v (kept_value n m v mid.imports g);
      same = λ g. h;
    }) same

pub tried_more : (seen : Seen) (p : Plan) (old mid new : Source) (n : List ℕ) (rest names : List (List ℕ)) (before out : Bool)
    → (before ≡ false → is_among n (map (λ i. i.0) old.imports) ≡ true)
    → TriedSome seen p old mid (n ∷ rest) names before → LeavesOut seen p n mid new out → TriedSome seen p old new rest names (out || before)
tried_more seen p old mid new n rest names true true there h l = (
  keeps_on seen p old mid new n h.0 l.0 l.1,
  let le : length (without_import n mid.imports) ≤ length mid.imports = fewer n mid.imports in
      let lt : length mid.imports < length old.imports = h.1 in
      let less : length (without_import n mid.imports) < length old.imports = omega arith in
      subst (λ (s : Source). length s.imports < length old.imports) (sym l.0) less,
)
tried_more seen p old mid new n rest names false true there h l = (
  keeps_on seen p old mid new n h.0 l.0 l.1,
  let less : length (without_import n old.imports) < length old.imports = one_fewer n old.imports (there refl) in
      subst (λ (s : Source). length s.imports < length old.imports) (sym (l.0 ∙ ap (leaving_out n) h.1.0)) less,
)
tried_more seen p old mid new n rest names true false there h l =
    (subst (KeepsPlan seen p old) (sym l.0) h.0, subst (λ (s : Source). length s.imports < length old.imports) (sym l.0) h.1)
tried_more seen p old mid new n rest names false false there h l = (
  subst (KeepsPlan seen p old) (sym l.0) h.0,
  (l.0 ∙ h.1.0, λ used. h.1.1 (λ m among. by m (bytes_eq m n) refl among used)),
) where
  by : (m : List ℕ) (b : Bool) → bytes_eq m n ≡ b → (b || is_among m rest) ≡ true → ((k : List ℕ) → is_among k rest ≡ true → IsUsed seen p old k) → IsUsed seen p old m
  by m true e g used = subst (λ (k : List ℕ). IsUsed seen p old k) (sym ((bytes_eq-Decides m n).0 e)) (subst (λ (s : Source). IsUsed seen p s n) h.1.0 l.1)
  by m false e g used = used m g

among_drop : (k : ℕ) (xs : List (List ℕ)) (q : List ℕ) → is_among q (drop k xs) ≡ true → is_among q xs ≡ true
among_drop zero xs q h = h
among_drop (suc k) [] q h = h
among_drop (suc k) (x ∷ xs) q h = by (bytes_eq q x) (among_drop k xs q h) where
  by : (b : Bool) → is_among q xs ≡ true → (b || is_among q xs) ≡ true
  by true g = refl
  by false g = g

pub tried_next : (seen : Seen) (p : Plan) (old mid new : Source) (items : List (List ℕ)) (k : ℕ) (n : List ℕ) (before out : Bool)
    → items ≡ map (λ i. i.0) old.imports → k < length items → n ≡ get_or items k n
    → TriedSome seen p old mid (drop k items) (map (λ i. i.0) old.imports) before → LeavesOut seen p n mid new out
    → TriedSome seen p old new (drop (k + 1) items) (map (λ i. i.0) old.imports) (out || before)
tried_next seen p old mid new items k n before out named lt here h l =
    let dropped : drop k items ≡ n ∷ drop (k + 1) items = drop-cons items k n lt ∙ ap (λ m. m ∷ drop (suc k) items) (sym here) ∙ ap (λ j. n ∷ drop j items) (sym (add-one k)) in
    let there : is_among n items ≡ true =
    among_drop k items n (ap (is_among n) dropped ∙ ap (λ b. b || is_among n (drop (k + 1) items)) ((bytes_eq-Decides n n).1 refl)) in
    tried_more seen p old mid new n (drop (k + 1) items) (map (λ i. i.0) old.imports) before out (λ _. ap (is_among n) (sym named) ∙ there)
    (subst (λ (ns : List (List ℕ)). TriedSome seen p old mid ns (map (λ i. i.0) old.imports) before) dropped h) l

pub tried_all : (seen : Seen) (p : Plan) (old new : Source) (out : Bool) → TriedSome seen p old new [] (map (λ i. i.0) old.imports) out → LeavesSome seen p old new out
tried_all seen p old new true h = h
tried_all seen p old new false h =
    (h.0, subst (AllUsed seen p) (sym h.1.0) (λ n v e. h.1.1 (λ m among. absurd (true≢false (sym among))) n (named_there n v old.imports e)))

pub tried_over : (seen : Seen) (p : Plan) (old new : Source) (items : List (List ℕ)) (k : ℕ) (out : Bool) → length items ≤ k
    → TriedSome seen p old new (drop k items) (map (λ i. i.0) old.imports) out → LeavesSome seen p old new out
tried_over seen p old new items k out over h =
    tried_all seen p old new out (subst (λ (ns : List (List ℕ)). TriedSome seen p old new ns (map (λ i. i.0) old.imports) out) (drop_all k items over) h)

-- round after round
pub keeps_both : (seen : Seen) (p : Plan) (old mid new : Source) → KeepsPlan seen p old mid → KeepsPlan seen p mid new → KeepsPlan seen p old new
keeps_both seen p old mid new a b = record {
  rest = b.rest ∙ ap (λ (s : Source). with_imports s new.imports) a.rest;
  part = λ n v h. a.part n v (b.part n v h);
  same = λ h. b.same (a.same h);
}

pub keeps_self : (seen : Seen) (p : Plan) (s : Source) → KeepsPlan seen p s s
keeps_self seen p s = record { rest = refl; part = λ n v h. h; same = λ h. h }

-- what is used in the end
pub uses_none : (source : Source) (seen : Seen) → source.imports ≡ [] → UsesJust source seen []
uses_none source seen e = record {
  part = λ n v h. let no : ⊥ = cc in absurd no;
  enough = ap (λ (is : Imports). plan_of (with_imports source is) seen) (sym e);
  all_used = λ n v h. let no : ⊥ = cc in absurd no;
  none = λ h. refl;
}

pub uses_nothing : (source : Source) (seen : Seen) → plan_of (with_imports source []) seen ≡ plan_of source seen → UsesJust source seen []
uses_nothing source seen same = record {
  part = λ n v h. let no : ⊥ = cc in absurd no;
  enough = same;
  all_used = λ n v h. let no : ⊥ = cc in absurd no;
  none = λ h. refl;
}

pub uses_left : (source : Source) (seen : Seen) (p : Plan) (new : Source) → p ≡ plan_of source seen → (plan_of (with_imports source []) seen ≡ p → ⊥) → HasOnlyUsed seen p source new → UsesJust source seen new.imports
uses_left source seen p new e differs h = record {
  part = h.0.part;
  enough = ap (λ (s : Source). plan_of s seen) (sym h.0.rest) ∙ h.0.same (sym e) ∙ e;
  all_used = λ n v g same.
      h.1 n v g
      (ap (λ (s : Source). plan_of (with_imports s (without_import n new.imports)) seen) h.0.rest ∙ same ∙ ap (λ (s : Source). plan_of s seen) (sym h.0.rest) ∙ h.0.same (sym e));
  none = λ same. absurd (differs (same ∙ sym e));
}
