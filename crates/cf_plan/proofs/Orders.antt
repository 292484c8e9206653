-- Byte lists are in order.
use Rattle.std.proofs.Common.{◌≡◌, ℕ, true, false, List, refl, ap, sym, true≢false}
use Rattle.std.specs.Ordering.{nat_cmp, is_lt, ordering_reverse}
use Rattle.std.specs.declared.cmp.Ordering.{Ordering}
use Rattle.std.specs.declared.cmp.Ordering.TheVariants.{Less, Equal, Greater}
use Rattle.std.specs.Cmp.Lexicographic.{slice_cmp, nat_list_cmp_total}
use Rattle.cf_tree.specs.Keys.{bytes_lt}

is_less : (o : Ordering) → is_lt o ≡ true → o ≡ Less
is_less Less h = refl
is_less Equal h = absurd (true≢false (sym h))
is_less Greater h = absurd (true≢false (sym h))

pub lower : (k l m : List ℕ) → bytes_lt k l ≡ true → bytes_lt l m ≡ true → bytes_lt k m ≡ true
lower k l m g h = ap is_lt (nat_list_cmp_total.trans k l m (is_less _ g) (is_less _ h))

turned_alike : (o : Ordering) → o ≡ ordering_reverse o → is_lt o ≡ false
turned_alike Less e = absurd cc
turned_alike Equal e = refl
turned_alike Greater e = refl

pub not_below_itself : (k : List ℕ) → bytes_lt k k ≡ false
not_below_itself k = turned_alike (slice_cmp nat_cmp k k) (nat_list_cmp_total.antisymm k k)
