-- What joins a list that rises, at the place that a search by halves finds.
use Rattle.std.proofs.Common.{◌≡◌, ℕ, ◌+◌, ◌<◌, ◌≤◌, Bool, true, false, ◌&&◌, ◌||◌, List, [], ◌∷◌, length, map, get_or, insert, fold, refl, ap, sym, ◌∙◌, subst, arith, true≢false}
use Rattle.std.specs.Ordering.{nat_cmp, is_lt}
use Rattle.std.specs.Str.{bytes_eq}
use Rattle.std.specs.declared.cmp.Ordering.{Ordering}
use Rattle.std.specs.declared.cmp.Ordering.TheVariants.{Less, Equal, Greater}
use Rattle.std.specs.Cmp.Lexicographic.{slice_cmp, texts_ties}
use Rattle.std.proofs.lemmas.Slice.Eq.{bytes_eq-Decides}
use Rattle.std.proofs.Math.ListN.{get_or-map}
use Rattle.std.proofs.lemmas.List.{get_or_default, length-map}
use Rattle.cf_tree.specs.Keys.{bytes_lt}
use Rattle.cf_tree.specs.Lists.{insert_by}
use Rattle.cf_effect.specs.declared.held.Held.{Held}
use Rattle.cf_face.specs.Report.{held_in_order, is_held_before}
use Rattle.cf_change.specs.Rising.{Rises}
use Rattle.cf_change.proofs.Joining.{joins_at, later, lt_neither, lt_not, rises_joined, sooner, turned}

-- resources by path and then by physical id
eq_if_neither : (k l : List ℕ) → bytes_lt k l ≡ false → bytes_lt l k ≡ false → k ≡ l
eq_if_neither k l f g = by (slice_cmp nat_cmp k l) refl where
  by : (o : Ordering) → slice_cmp nat_cmp k l ≡ o → k ≡ l
  by Less e = absurd (true≢false (sym (ap is_lt e) ∙ f))
  by Equal e = (bytes_eq-Decides k l).0 (texts_ties k l ∙ rw e refl)
  by Greater e = absurd (true≢false (sym (ap is_lt (turned k l Greater e)) ∙ g))

lt_itself : (k : List ℕ) → bytes_lt k k ≡ false
lt_itself k = by (bytes_lt k k) refl where
  by : (b : Bool) → bytes_lt k k ≡ b → bytes_lt k k ≡ false
  by true h = lt_not k k h
  by false h = h

-- a pair is not below another where its first text is not, and at equal first ones its second one is not
above : (k l m n : List ℕ) → bytes_lt k l ≡ false → (k ≡ l → bytes_lt m n ≡ false) → (bytes_lt k l || (bytes_eq k l && bytes_lt m n)) ≡ false
above k l m n f g = ap (λ (b : Bool). b || (bytes_eq k l && bytes_lt m n)) f ∙ by (bytes_eq k l) refl where
  by : (b : Bool) → bytes_eq k l ≡ b → (b && bytes_lt m n) ≡ false
  by true e = g ((bytes_eq-Decides k l).0 e)
  by false e = refl

first_not : (a b : Bool) → (a || b) ≡ false → a ≡ false
first_not false b h = refl
first_not true b h = h

second_not : (k l m n : List ℕ) → (bytes_lt k l || (bytes_eq k l && bytes_lt m n)) ≡ false → k ≡ l → bytes_lt m n ≡ false
second_not k l m n h e =
    sym (ap (λ (b : Bool). b && bytes_lt m n) ((bytes_eq-Decides k l).1 e))
    ∙ sym (ap (λ (b : Bool). b || (bytes_eq k l && bytes_lt m n)) (first_not (bytes_lt k l) (bytes_eq k l && bytes_lt m n) h)) ∙ h

held_asym : (a b : Held) → is_held_before a b ≡ true → is_held_before b a ≡ false
held_asym a b h = by (bytes_lt a.path b.path) refl where
  equal : (c : Bool) → bytes_eq a.path b.path ≡ c → (c && bytes_lt a.physical b.physical) ≡ true → is_held_before b a ≡ false
  equal false e k = absurd (true≢false (sym k))
  equal true e k =
      let same : a.path ≡ b.path = (bytes_eq-Decides a.path b.path).0 e in
      above b.path a.path b.physical a.physical (ap (λ (p : List ℕ). bytes_lt b.path p) same ∙ lt_itself b.path) (λ s. lt_not a.physical b.physical k)

  by : (c : Bool) → bytes_lt a.path b.path ≡ c → is_held_before b a ≡ false
  by true e =
      above b.path a.path b.physical a.physical (lt_not a.path b.path e)
      (λ s. absurd (true≢false (sym e ∙ ap (λ (p : List ℕ). bytes_lt a.path p) s ∙ lt_itself a.path)))
  by false e = equal (bytes_eq a.path b.path) refl (sym (ap (λ (c : Bool). c || (bytes_eq a.path b.path && bytes_lt a.physical b.physical)) e) ∙ h)

held_neither : (a b c : Held) → is_held_before a b ≡ false → is_held_before b c ≡ false → is_held_before a c ≡ false
held_neither a b c f g =
    let ab = first_not (bytes_lt a.path b.path) (bytes_eq a.path b.path && bytes_lt a.physical b.physical) f in
    let bc = first_not (bytes_lt b.path c.path) (bytes_eq b.path c.path && bytes_lt b.physical c.physical) g in
    above a.path c.path a.physical c.physical (lt_neither a.path b.path c.path ab bc)
    (λ ac. let ba : bytes_lt b.path a.path ≡ false = ap (λ (p : List ℕ). bytes_lt b.path p) ac ∙ bc in
    let same : a.path ≡ b.path = eq_if_neither a.path b.path ab ba in
    lt_neither a.physical b.physical c.physical (second_not a.path b.path a.physical b.physical f same) (second_not b.path c.path b.physical c.physical g (sym same ∙ ac)))

all_rise : (hs before : List Held) → Rises is_held_before before → Rises is_held_before (fold (insert_by is_held_before) before hs)
all_rise [] before r = r
all_rise (h ∷ hs) before r = all_rise hs (insert_by is_held_before before h) (rises_joined is_held_before held_asym held_neither before h r)

pub held_rise : (rows hs : List Held) → rows ≡ held_in_order hs → Rises is_held_before rows
held_rise rows hs e = subst (Rises is_held_before) (sym e) (all_rise hs [] tt)

-- what a search by halves knows of where a resource goes, among what stands for resources
module _ {B : Type 0} (f : B → Held) where
  pub record IsAround (held : Held) (rows : List B) (low : ℕ) (high : ℕ) : Type 0 where
    pub in_order : low ≤ high
    pub in_range : high ≤ length rows
    pub below : (j : ℕ) (d : B) → j < low → is_held_before (f (get_or rows j d)) held ≡ true
    pub above : (j : ℕ) (d : B) → high ≤ j → j < length rows → is_held_before (f (get_or rows j d)) held ≡ false

  long : (rows : List B) → length (map f rows) ≡ length rows
  long rows = length-map rows f

  module _ (held : Held) (rows : List B) (low high middle : ℕ) (d : B) (is : d ≡ get_or rows middle d) (h : IsAround held rows low high)
      (l : low ≤ middle) (m : middle < high) (r : Rises is_held_before (map f rows)) where
    there : {c : Bool} → is_held_before (f d) held ≡ c → is_held_before (get_or (map f rows) middle (f d)) held ≡ c
    there e = ap (λ (x : Held). is_held_before x held) (get_or-map f rows middle d ∙ ap f (sym is)) ∙ e

    pub raise : is_held_before (f d) held ≡ true → IsAround held rows (middle + 1) high
    raise e = record {
      in_order = omega (arith, m);
      in_range = h.in_range;
      below = λ j c n. let least : j ≤ middle = omega (arith, n) in
          let within : middle < length (map f rows) = omega (arith, m, h.in_range, long rows) in
          ap (λ (x : Held). is_held_before x held) (sym (get_or-map f rows j c))
          ∙ sooner is_held_before held_asym held_neither (map f rows) held j middle (f c) (f d) r least within (there e);
      above = h.above;
    }

    pub lower : is_held_before (f d) held ≡ false → IsAround held rows low middle
    lower e = record {
      in_order = l;
      in_range = omega (arith, m, h.in_range);
      below = h.below;
      above = λ j c n k. let within : j < length (map f rows) = omega (arith, k, long rows) in
          ap (λ (x : Held). is_held_before x held) (sym (get_or-map f rows j c))
          ∙ later is_held_before held_asym held_neither (map f rows) held middle j (f d) (f c) r n within (there e);
    }

  pub around_all : (held : Held) (rows : List B) → IsAround held rows 0 (length rows)
  around_all held rows = record {
    in_order = omega arith;
    in_range = omega arith;
    below = λ j d n. absurd (omega (arith, n));
    above = λ j d n k. absurd (omega (arith, n, k));
  }

  pub joins : (held : Held) (rows : List B) (low high : ℕ) → IsAround held rows low high → high ≤ low → insert_by is_held_before (map f rows) held ≡ insert (map f rows) low held
  joins held rows low high h l =
      let fits : low ≤ length (map f rows) = omega (arith, h.in_order, h.in_range, long rows) in
      sym (joins_at is_held_before held_asym held_neither (map f rows) held low fits
      (λ j d n. by_any j d (omega (arith, n, fits)) (λ c. h.below j c n))
      (λ j d n k. by_any j d k (λ c. let far : high ≤ j = omega (arith, l, n) in let near : j < length rows = omega (arith, k, long rows) in h.above j c far near))) where
        by_any : {c : Bool} (j : ℕ) (d : Held) → j < length (map f rows) → ((e : B) → is_held_before (f (get_or rows j e)) held ≡ c) → is_held_before (get_or (map f rows) j d) held ≡ c
        by_any {c = c} j d n k = some rows refl where
          some : (xs : List B) → rows ≡ xs → is_held_before (get_or (map f rows) j d) held ≡ c
          some [] e = let none : length (map f rows) ≡ 0 = long rows ∙ ap (λ (ys : List B). length ys) e in absurd (omega (arith, n, none))
          some (x ∷ xs) e = ap (λ (y : Held). is_held_before y held) (get_or_default (map f rows) j d (f x) n ∙ get_or-map f rows j x) ∙ k x
