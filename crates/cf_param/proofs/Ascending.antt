-- Names that ascend are distinct.
use Rattle.std.proofs.Common.{◌≡◌, ℕ, List, [], ◌∷◌, Bool, true, false, not, ◌&&◌, ◌||◌, refl, ap, sym, true≢false, subst}
use Rattle.std.specs.Ordering.{nat_cmp, is_lt, ordering_reverse}
use Rattle.std.specs.declared.cmp.Ordering.{Ordering}
use Rattle.std.specs.declared.cmp.Ordering.TheVariants.{Less, Equal, Greater}
use Rattle.std.specs.Cmp.{first_so, second_so}
use Rattle.std.specs.Cmp.Lexicographic.{slice_cmp, nat_list_cmp_total}
use Rattle.std.specs.Str.{bytes_eq}
use Rattle.std.proofs.lemmas.Slice.Eq.{bytes_eq-Decides}
use Rattle.cf_tree.specs.Keys.{bytes_lt, ascends_from, ascends}
use Rattle.cf_param.specs.Offered.{names_distinct, has_name}

is_less : (o : Ordering) → is_lt o ≡ true → o ≡ Less
is_less Less h = refl
is_less Equal h = absurd (true≢false (sym h))
is_less Greater h = absurd (true≢false (sym h))

lower : (k l m : List ℕ) → bytes_lt k l ≡ true → bytes_lt l m ≡ true → bytes_lt k m ≡ true
lower k l m g h = ap is_lt (nat_list_cmp_total.trans k l m (is_less _ g) (is_less _ h))

not_itself : (o : Ordering) → o ≡ ordering_reverse o → is_lt o ≡ true → ⊥
not_itself Less e h = absurd cc
not_itself Equal e h = true≢false (sym h)
not_itself Greater e h = true≢false (sym h)

false_from : (b : Bool) → (b ≡ true → ⊥) → b ≡ false
false_from true n = absurd (n refl)
false_from false n = refl

unlike : (k l : List ℕ) → bytes_lt k l ≡ true → bytes_eq k l ≡ false
unlike k l h =
    let Below : List ℕ → Type 0 = λ m. bytes_lt k m ≡ true in
    false_from _ (λ e. not_itself (slice_cmp nat_cmp k k) (nat_list_cmp_total.antisymm k k) (subst Below (sym ((bytes_eq-Decides k l).0 e)) h))

neither : (a b : Bool) → a ≡ false → b ≡ false → (a || b) ≡ false
neither a b g h = rw (g, h) refl

both : (a b : Bool) → a ≡ false → b ≡ true → (not a && b) ≡ true
both a b g h = rw (g, h) refl

past : {X : Type 0} (k : List ℕ) (p : List ℕ × X) (ps : List (List ℕ × X)) → bytes_lt k p.0 ≡ true → ascends_from p.0 ps ≡ true → ascends_from k ps ≡ true
past k p [] g h = refl
past k p (q ∷ qs) g h = rw (lower k p.0 q.0 g (first_so (bytes_lt p.0 q.0) (ascends_from q.0 qs) h)) (second_so (bytes_lt p.0 q.0) (ascends_from q.0 qs) h)

absent : {X : Type 0} (k : List ℕ) (ps : List (List ℕ × X)) → ascends_from k ps ≡ true → has_name k ps ≡ false
absent k [] h = refl
absent k (p ∷ ps) h =
    let below = first_so (bytes_lt k p.0) (ascends_from p.0 ps) h in
    neither (bytes_eq k p.0) (has_name k ps) (unlike k p.0 below) (absent k ps (past k p ps below (second_so (bytes_lt k p.0) (ascends_from p.0 ps) h)))

distinct_from : {X : Type 0} (k : List ℕ) (ps : List (List ℕ × X)) → ascends_from k ps ≡ true → names_distinct ps ≡ true
distinct_from k [] h = refl
distinct_from k (p ∷ ps) h =
    let rest = second_so (bytes_lt k p.0) (ascends_from p.0 ps) h in
    both (has_name p.0 ps) (names_distinct ps) (absent p.0 ps rest) (distinct_from p.0 ps rest)

pub distinct : {X : Type 0} (ps : List (List ℕ × X)) → ascends ps ≡ true → names_distinct ps ≡ true
distinct [] h = refl
distinct (p ∷ ps) h = both (has_name p.0 ps) (names_distinct ps) (absent p.0 ps h) (distinct_from p.0 ps h)
