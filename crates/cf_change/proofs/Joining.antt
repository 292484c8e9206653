-- A member joins a list that rises at the place that a search by halves finds.
use Rattle.std.proofs.Common.{◌≡◌, ℕ, zero, suc, ◌+◌, ◌<◌, ◌≤◌, Bool, true, false, List, [], ◌∷◌, length, get_or, insert, cond, refl, ap, sym, ◌∙◌, subst, arith, true≢false}
use Rattle.std.specs.Ordering.{nat_cmp, is_lt, ordering_reverse}
use Rattle.std.specs.declared.cmp.Ordering.{Ordering}
use Rattle.std.specs.declared.cmp.Ordering.TheVariants.{Less, Equal, Greater}
use Rattle.std.specs.Cmp.Lexicographic.{slice_cmp, nat_list_cmp_total}
use Rattle.cf_tree.specs.Keys.{bytes_lt}
use Rattle.cf_tree.specs.Lists.{insert_by}
use Rattle.cf_tree.specs.declared.row.Row.{Row}
use Rattle.cf_change.specs.Changes.{is_row_before}
use Rattle.cf_change.specs.Rising.{NoneBefore, Rises}

module _ {A : Type 0} (is_before : A → A → Bool) (asym : (a b : A) → is_before a b ≡ true → is_before b a ≡ false)
    (neither : (a b c : A) → is_before a b ≡ false → is_before b c ≡ false → is_before a c ≡ false) where
  none_further : (x b : A) (ys : List A) → is_before b x ≡ false → NoneBefore is_before b ys → NoneBefore is_before x ys
  none_further x b [] e h = tt
  none_further x b (y ∷ ys) e h = (neither y b x h.0 e, none_further x b ys e h.1)

  none_by : (x a y : A) (ys : List A) (c : Bool) → is_before a x ≡ false → NoneBefore is_before x (y ∷ ys) → NoneBefore is_before x (insert_by is_before ys a)
      → NoneBefore is_before x (cond c (y ∷ insert_by is_before ys a) (a ∷ y ∷ ys))
  none_by x a y ys true e h ih = (h.0, ih)
  none_by x a y ys false e h ih = (e, h)

  none_joined : (x a : A) (ys : List A) → is_before a x ≡ false → NoneBefore is_before x ys → NoneBefore is_before x (insert_by is_before ys a)
  none_joined x a [] e h = (e, tt)
  none_joined x a (y ∷ ys) e h = none_by x a y ys (is_before y a) e h (none_joined x a ys e h.1)

  rises_by : (b a : A) (bs : List A) (c : Bool) → is_before b a ≡ c → Rises is_before (b ∷ bs) → Rises is_before (insert_by is_before bs a)
      → Rises is_before (cond c (b ∷ insert_by is_before bs a) (a ∷ b ∷ bs))
  rises_by b a bs true e h ih = (none_joined b a bs (asym b a e) h.0, ih)
  rises_by b a bs false e h ih = ((e, none_further a b bs e h.0), h)

  pub rises_joined : (xs : List A) (a : A) → Rises is_before xs → Rises is_before (insert_by is_before xs a)
  rises_joined [] a h = (tt, tt)
  rises_joined (b ∷ bs) a h = rises_by b a bs (is_before b a) refl h (rises_joined bs a h.1)

  none_at : (x : A) (ys : List A) (j : ℕ) (d : A) → NoneBefore is_before x ys → j < length ys → is_before (get_or ys j d) x ≡ false
  none_at x [] j d h l = absurd (omega (arith, l))
  none_at x (y ∷ ys) zero d h l = h.0
  none_at x (y ∷ ys) (suc j) d h l = none_at x ys j d h.1 (omega (arith, l))

  -- what comes after one that is not before another isn't either
  pub later : (xs : List A) (x : A) (i j : ℕ) (d e : A) → Rises is_before xs → i ≤ j → j < length xs → is_before (get_or xs i d) x ≡ false → is_before (get_or xs j e) x ≡ false
  later [] x i j d e r l m h = absurd (omega (arith, m))
  later (y ∷ ys) x zero zero d e r l m h = h
  later (y ∷ ys) x zero (suc j) d e r l m h = neither (get_or ys j e) y x (none_at y ys j e r.0 (omega (arith, m))) h
  later (y ∷ ys) x (suc i) zero d e r l m h = absurd (omega (arith, l))
  later (y ∷ ys) x (suc i) (suc j) d e r l m h = later ys x i j d e r.1 (omega (arith, l)) (omega (arith, m)) h

  pub sooner : (xs : List A) (x : A) (i j : ℕ) (d e : A) → Rises is_before xs → i ≤ j → j < length xs → is_before (get_or xs j e) x ≡ true → is_before (get_or xs i d) x ≡ true
  sooner xs x i j d e r l m h = by (is_before (get_or xs i d) x) refl where
    by : (b : Bool) → is_before (get_or xs i d) x ≡ b → is_before (get_or xs i d) x ≡ true
    by true k = k
    by false k = absurd (true≢false (sym h ∙ later xs x i j d e r l m k))

  pub joins_at : (xs : List A) (a : A) (i : ℕ) → i ≤ length xs → ((j : ℕ) (d : A) → j < i → is_before (get_or xs j d) a ≡ true)
      → ((j : ℕ) (d : A) → i ≤ j → j < length xs → is_before (get_or xs j d) a ≡ false) → insert xs i a ≡ insert_by is_before xs a
  joins_at [] a zero l b n = refl
  joins_at [] a (suc i) l b n = absurd (omega (arith, l))
  joins_at (x ∷ xs) a zero l b n = rw (n 0 x (omega arith) (omega arith)) refl
  joins_at (x ∷ xs) a (suc i) l b n =
      rw (b 0 x (omega arith)) (ap (λ ys. x ∷ ys) (joins_at xs a i (omega (arith, l)) (λ j d m. b (suc j) d (omega (arith, m))) (λ j d m k. n (suc j) d (omega (arith, m)) (omega (arith, k)))))

-- rows by path
pub turned : (k l : List ℕ) (o : Ordering) → slice_cmp nat_cmp k l ≡ o → slice_cmp nat_cmp l k ≡ ordering_reverse o
turned k l o e = nat_list_cmp_total.antisymm l k ∙ ap ordering_reverse e

pub lt_not : (k l : List ℕ) → bytes_lt k l ≡ true → bytes_lt l k ≡ false
lt_not k l h = by (slice_cmp nat_cmp k l) refl h where
  by : (o : Ordering) → slice_cmp nat_cmp k l ≡ o → is_lt o ≡ true → bytes_lt l k ≡ false
  by Less e g = ap is_lt (turned k l Less e)
  by Equal e g = absurd (true≢false (sym g))
  by Greater e g = absurd (true≢false (sym g))

pub lt_neither : (k l m : List ℕ) → bytes_lt k l ≡ false → bytes_lt l m ≡ false → bytes_lt k m ≡ false
lt_neither k l m f g = by (slice_cmp nat_cmp k m) refl where
  last : (o : Ordering) → slice_cmp nat_cmp k m ≡ Less → slice_cmp nat_cmp k l ≡ o → is_lt o ≡ false → is_lt Less ≡ false
  last Less e h n = n
  last Equal e h n = ap is_lt (sym (sym (nat_list_cmp_total.congr k l m h) ∙ e)) ∙ g
  last Greater e h n = ap is_lt (sym (nat_list_cmp_total.trans l k m (turned k l Greater h) e)) ∙ g

  by : (o : Ordering) → slice_cmp nat_cmp k m ≡ o → is_lt o ≡ false
  by Less e = last (slice_cmp nat_cmp k l) e refl f
  by Equal e = refl
  by Greater e = refl

rows_asym : (a b : Row) → is_row_before a b ≡ true → is_row_before b a ≡ false
rows_asym a b h = lt_not a.path b.path h

rows_neither : (a b c : Row) → is_row_before a b ≡ false → is_row_before b c ≡ false → is_row_before a c ≡ false
rows_neither a b c f g = lt_neither a.path b.path c.path f g

pub rows_rise : (old new : List Row) (row : Row) → Rises is_row_before old → new ≡ insert_by is_row_before old row → Rises is_row_before new
rows_rise old new row r e = subst (Rises is_row_before) (sym e) (rises_joined is_row_before rows_asym rows_neither old row r)

-- the rows before low are before a path, and none from high on
pub record IsAround (path : List ℕ) (rows : List Row) (low : ℕ) (high : ℕ) : Type 0 where
  pub in_order : low ≤ high
  pub in_range : high ≤ length rows
  pub below : (j : ℕ) (d : Row) → j < low → bytes_lt (get_or rows j d).path path ≡ true
  pub above : (j : ℕ) (d : Row) → high ≤ j → j < length rows → bytes_lt (get_or rows j d).path path ≡ false

abbrev at_path : List ℕ → Row → Row
at_path path d = record d { path = path }

module _ (path : List ℕ) (rows : List Row) (low high middle : ℕ) (d : Row) (h : IsAround path rows low high)
    (l : low ≤ middle) (m : middle < high) (r : Rises is_row_before rows) where
  pub raise : bytes_lt (get_or rows middle d).path path ≡ true → IsAround path rows (middle + 1) high
  raise e = record {
    in_order = omega (arith, m);
    in_range = h.in_range;
    below = λ j c n. sooner is_row_before rows_asym rows_neither rows (at_path path d) j middle c d r (omega (arith, n)) (omega (arith, m, h.in_range)) e;
    above = h.above;
  }

  pub lower : bytes_lt (get_or rows middle d).path path ≡ false → IsAround path rows low middle
  lower e = record {
    in_order = l;
    in_range = omega (arith, m, h.in_range);
    below = h.below;
    above = λ j c n k. later is_row_before rows_asym rows_neither rows (at_path path d) middle j d c r n k e;
  }

pub row_joins : (path : List ℕ) (rows : List Row) (low high : ℕ) → IsAround path rows low high → high ≤ low
    → (row : Row) → row.path ≡ path → insert rows low row ≡ insert_by is_row_before rows row
row_joins path rows low high h l row same =
    joins_at is_row_before rows_asym rows_neither rows row low (omega (arith, h.in_order, h.in_range))
    (λ j d n. ap (λ p. bytes_lt (get_or rows j d).path p) same ∙ h.below j d n)
    (λ j d n k. ap (λ p. bytes_lt (get_or rows j d).path p) same ∙ h.above j d (omega (arith, l, n)) k)
