-- A step that joins others in the order of steps: which there are then, that they stay in order, and that none comes twice.
use Rattle.std.proofs.Common.{◌≡◌, ◌⊎◌, inl, inr, ℕ, suc, ◌-◌, Bool, true, false, not, List, [], ◌∷◌, ◌++◌, length, Option, Some, None, cond, refl, sym, ◌∙◌, true≢false, subst, arith}
use Rattle.std.specs.Prelude.{fold}
use Rattle.std.specs.List.{list_any, list_all, slice_get}
use Rattle.std.specs.Option.{option_map_or}
use Rattle.std.proofs.lemmas.Option.{none-some}
use Rattle.std.specs.Cmp.{first_so, second_so}
use Rattle.std.proofs.lemmas.Bool.{and_from}
use Rattle.cf_tree.specs.Lists.{there}
use Rattle.cf_tree.specs.Lists.{here}
use Rattle.cf_tree.specs.Lists.{In}
use Rattle.cf_plan.proofs.Members.{all_in, in_all, any_in, false_from, in_any, in_none, in_first, not_both, is_so, not_so}
use Rattle.cf_plan.proofs.Listed.{in_cons}
use Rattle.cf_plan.proofs.RunLists.{in_back, in_either, in_front}
use Rattle.cf_next.specs.declared.step.Next.{Next}
use Rattle.cf_next.specs.Chosen.{step_place}
use Rattle.cf_next.specs.Due.{AreOnce, are_in_order, is_step_before}
use Rattle.cf_next.specs.Joining.{goes_last, is_same_step, stays, with_due, with_step}
use Rattle.cf_next.proofs.Orders.{places_in_order}
use Rattle.cf_next.proofs.Same.{same_is}

-- what joins in its place is of the list, as all that was, and nothing else
joins : (n e : Next) (ns : List Next) → In e (with_step ns n) → In e ns ⊎ (e ≡ n)
joins n e [] i = elim (in_cons i) [ inl s ↦ inr (sym s) | inr k ↦ inl k ]
joins n e (m ∷ ms) i = by (stays m n) i (joins n e ms)
  where
    by : (t : Bool) → In e (cond t (m ∷ with_step ms n) (n ∷ m ∷ ms)) → (In e (with_step ms n) → In e ms ⊎ (e ≡ n)) → In e (m ∷ ms) ⊎ (e ≡ n)
    by true j rest = elim (in_cons j) [
      | inl s ↦ inl (subst (λ (k : Next). In k (m ∷ ms)) s here)
      | inr k ↦ elim (rest k) [ inl l ↦ inl (there l) | inr q ↦ inr q ]
    ]
    by false j rest = elim (in_cons j) [ inl s ↦ inr (sym s) | inr k ↦ inl k ]

keeps : (n e : Next) (ns : List Next) → In e ns → In e (with_step ns n)
keeps n e [] i = absurd (in_none i)
keeps n e (m ∷ ms) i = by (stays m n) i (keeps n e ms)
  where
    by : (t : Bool) → In e (m ∷ ms) → (In e ms → In e (with_step ms n)) → In e (cond t (m ∷ with_step ms n) (n ∷ m ∷ ms))
    by true j rest = elim (in_cons j) [ inl s ↦ subst (λ (k : Next). In k (m ∷ with_step ms n)) s here | inr k ↦ there (rest k) ]
    by false j rest = there j

joined : (n : Next) (ns : List Next) → In n (with_step ns n)
joined n [] = here
joined n (m ∷ ms) = by (stays m n) (joined n ms)
  where
    by : (t : Bool) → In n (with_step ms n) → In n (cond t (m ∷ with_step ms n) (n ∷ m ∷ ms))
    by true j = there j
    by false j = here

-- all stay in order
ordered : (n : Next) (ns : List Next) → are_in_order ns ≡ true → are_in_order (with_step ns n) ≡ true
ordered n [] e = refl
ordered n (m ∷ ms) e = by (stays m n) refl (ordered n ms (second_so (list_all (λ k. not (is_step_before k m)) ms) (are_in_order ms) e))
  where
    none_before : (k : Next) → In k ms → is_step_before k m ≡ false
    none_before k i =
        is_so (is_step_before k m) (all_in (λ k. not (is_step_before k m)) ms (first_so (list_all (λ k. not (is_step_before k m)) ms) (are_in_order ms) e) k i)

    behind : stays m n ≡ true → (k : Next) → In k (with_step ms n) → not (is_step_before k m) ≡ true
    behind q k i = elim (joins n k ms i) [
      | inl j ↦ not_so (is_step_before k m) (none_before k j)
      | inr s ↦ subst (λ (l : Next). not (is_step_before l m) ≡ true) (sym s) q
    ]

    leads : stays m n ≡ false → is_step_before n m ≡ true
    leads q = turned (is_step_before n m) q
      where
        turned : (b : Bool) → not b ≡ false → b ≡ true
        turned true g = refl
        turned false g = absurd (true≢false g)

    after : is_step_before n m ≡ true → (k : Next) → In k (m ∷ ms) → not (is_step_before k n) ≡ true
    after l =
        in_first (λ k. not (is_step_before k n) ≡ true) m ms
        (not_so (is_step_before m n) (false_from (is_step_before m n) (λ t.
        not_both (is_step_before n n) (places_in_order.goes_on (step_place n) (step_place m) (step_place n) l t) (places_in_order.not_itself (step_place n)))))
        (λ k i.
        not_so (is_step_before k n) (false_from (is_step_before k n) (λ t.
        not_both (is_step_before k m) (places_in_order.goes_on (step_place k) (step_place n) (step_place m) t l) (none_before k i))))

    by : (t : Bool) → stays m n ≡ t → are_in_order (with_step ms n) ≡ true → are_in_order (cond t (m ∷ with_step ms n) (n ∷ m ∷ ms)) ≡ true
    by true q rest =
        and_from (list_all (λ k. not (is_step_before k m)) (with_step ms n)) (are_in_order (with_step ms n))
        (in_all (λ k. not (is_step_before k m)) (with_step ms n) (behind q)) rest
    by false q rest =
        and_from (list_all (λ k. not (is_step_before k n)) (m ∷ ms)) (are_in_order (m ∷ ms)) (in_all (λ k. not (is_step_before k n)) (m ∷ ms) (after (leads q))) e

-- and none comes twice, where the one that joins was not there
once : (n : Next) (ns : List Next) → (In n ns → ⊥) → AreOnce ns → AreOnce (with_step ns n)
once n [] new o = (λ i. in_none i, o)
once n (m ∷ ms) new o = by (stays m n) (once n ms (λ i. new (there i)) o.1)
  where
    apart : In m (with_step ms n) → ⊥
    apart i = elim (joins n m ms i) [ inl j ↦ o.0 j | inr e ↦ new (subst (λ (k : Next). In k (m ∷ ms)) e here) ]

    by : (t : Bool) → AreOnce (with_step ms n) → AreOnce (cond t (m ∷ with_step ms n) (n ∷ m ∷ ms))
    by true rest = (apart, rest)
    by false rest = (new, o)

-- Steps join a list: just those of a kind, and all stay in order and once.
pub record Adds (old new : List Next) (Kind : Next → Type 0) : Type 0 where
  pub comes : (n : Next) → In n new → In n old ⊎ Kind n
  pub stays_in : (n : Next) → In n old → In n new
  pub has : (n : Next) → Kind n → In n new
  pub in_order : are_in_order old ≡ true → are_in_order new ≡ true
  pub stay_once : are_in_order old ≡ true → AreOnce old → AreOnce new

pub adds_none : (ns : List Next) (Kind : Next → Type 0) → ((n : Next) → Kind n → ⊥) → Adds ns ns Kind
adds_none ns Kind none = record { comes = λ n i. inl i; stays_in = λ n i. i; has = λ n k. absurd (none n k); in_order = λ e. e; stay_once = λ e o. o }

-- one that was not there
pub adds_step : (ns : List Next) (m : Next) → (In m ns → ⊥) → Adds ns (with_step ns m) (λ n. n ≡ m)
adds_step ns m new = record {
  comes = λ n i. joins m n ns i;
  stays_in = λ n i. keeps m n ns i;
  has = λ n e. subst (λ (k : Next). In k (with_step ns m)) (sym e) (joined m ns);
  in_order = ordered m ns;
  stay_once = λ e. once m ns new;
}

-- the last of a list is none of those before it, and comes before none of them
top_same : (m k : Next) (ks : List Next) → slice_get (m ∷ (k ∷ ks)) (length (m ∷ (k ∷ ks)) - 1) ≡ slice_get (k ∷ ks) (length (k ∷ ks) - 1)
top_same m k ks =
    let more : length (m ∷ (k ∷ ks)) - 1 ≡ suc (length ks) = omega arith in
    let less : length (k ∷ ks) - 1 ≡ length ks = omega arith in
    rw (more, less) refl

last_in : (ns : List Next) (l : Next) → slice_get ns (length ns - 1) ≡ Some l → In l ns
last_in [] l e = absurd (none-some l e)
last_in (m ∷ []) l e = let same : m ≡ l = cc in subst (λ (k : Next). In k (m ∷ [])) same here
last_in (m ∷ k ∷ ks) l e = there (last_in (k ∷ ks) l (sym (top_same m k ks) ∙ e))

none_after : (ns : List Next) (l : Next) → are_in_order ns ≡ true → slice_get ns (length ns - 1) ≡ Some l → (k : Next) → In k ns → is_step_before l k ≡ false
none_after [] l o e k i = absurd (in_none i)
none_after (m ∷ []) l o e k i =
    let same : m ≡ l = cc in
    elim (in_cons i) [
      | inl s ↦ subst (λ (j : Next). is_step_before j k ≡ false) same (subst (λ (j : Next). is_step_before m j ≡ false) s (places_in_order.not_itself (step_place m)))
      | inr j ↦ absurd (in_none j)
    ]
none_after (m ∷ j ∷ js) l o e k i =
    let behind = sym (top_same m j js) ∙ e in
    elim (in_cons i) [
      | inl s ↦
          subst (λ (h : Next). is_step_before l h ≡ false) s
          (is_so (is_step_before l m) (all_in (λ h. not (is_step_before h m)) (j ∷ js) (first_so (list_all (λ h. not (is_step_before h m)) (j ∷ js)) (are_in_order (j ∷ js)) o) l (last_in (j ∷ js) l behind)))
      | inr h ↦ none_after (j ∷ js) l (second_so (list_all (λ h. not (is_step_before h m)) (j ∷ js)) (are_in_order (j ∷ js)) o) behind k h
    ]

no_last : (ns : List Next) → slice_get ns (length ns - 1) ≡ None → ns ≡ []
no_last [] e = refl
no_last (m ∷ []) e = absurd (none-some m (sym e))
no_last (m ∷ k ∷ ks) e = let none = no_last (k ∷ ks) (sym (top_same m k ks) ∙ e) in absurd (cc)

-- one that goes behind the last precedes none, and is not there
module _ (ns : List Next) (n : Next) (last : goes_last ns n ≡ true) (o : are_in_order ns ≡ true) where
  precedes_none : (k : Next) → In k ns → is_step_before n k ≡ false
  precedes_none k i = by (slice_get ns (length ns - 1)) refl last where
    by : (l : Option Next) → slice_get ns (length ns - 1) ≡ l → option_map_or (λ m. is_step_before m n) l true ≡ true → is_step_before n k ≡ false
    by None e q = absurd (in_none (subst (In k) (no_last ns e) i))
    by (Some l) e q =
        false_from (is_step_before n k) (λ t.
        not_both (is_step_before l k) (places_in_order.goes_on (step_place l) (step_place n) (step_place k) q t) (none_after ns l o e k i))

  not_there : In n ns → ⊥
  not_there i = by (slice_get ns (length ns - 1)) refl last where
    by : (l : Option Next) → slice_get ns (length ns - 1) ≡ l → option_map_or (λ m. is_step_before m n) l true ≡ true → ⊥
    by None e q = in_none (subst (In n) (no_last ns e) i)
    by (Some l) e q = not_both (is_step_before l n) q (none_after ns l o e n i)

-- one that goes behind all
behind_ordered : (ns : List Next) (n : Next) → are_in_order ns ≡ true → ((k : Next) → In k ns → is_step_before n k ≡ false) → are_in_order (ns ++ n ∷ []) ≡ true
behind_ordered [] n o none = refl
behind_ordered (m ∷ ms) n o none =
    and_from (list_all (λ k. not (is_step_before k m)) (ms ++ n ∷ [])) (are_in_order (ms ++ n ∷ []))
    (in_all (λ k. not (is_step_before k m)) (ms ++ n ∷ []) each)
    (behind_ordered ms n (second_so (list_all (λ k. not (is_step_before k m)) ms) (are_in_order ms) o) (λ k i. none k (there i)))
  where
    each : (k : Next) → In k (ms ++ n ∷ []) → not (is_step_before k m) ≡ true
    each k i = elim (in_either k ms (n ∷ []) i) [
      | inl j ↦ all_in (λ k. not (is_step_before k m)) ms (first_so (list_all (λ k. not (is_step_before k m)) ms) (are_in_order ms) o) k j
      | inr j ↦ elim (in_cons j) [
        | inl s ↦ subst (λ (h : Next). not (is_step_before h m) ≡ true) s (not_so (is_step_before n m) (none m here))
        | inr h ↦ absurd (in_none h)
      ]
    ]

behind_once : (ns : List Next) (n : Next) → (In n ns → ⊥) → AreOnce ns → AreOnce (ns ++ n ∷ [])
behind_once [] n new o = (λ i. in_none i, tt)
behind_once (m ∷ ms) n new o = (apart, behind_once ms n (λ i. new (there i)) o.1)
  where
    apart : In m (ms ++ n ∷ []) → ⊥
    apart i = elim (in_either m ms (n ∷ []) i) [
      | inl j ↦ o.0 j
      | inr j ↦ elim (in_cons j) [ inl s ↦ new (subst (λ (h : Next). In h (m ∷ ms)) (sym s) here) | inr h ↦ in_none h ]
    ]

adds_behind : (ns : List Next) (m : Next) → goes_last ns m ≡ true → Adds ns (ns ++ m ∷ []) (λ n. n ≡ m)
adds_behind ns m last = record {
  comes = λ n i. elim (in_either n ns (m ∷ []) i) [
    | inl j ↦ inl j
    | inr j ↦ elim (in_cons j) [ inl s ↦ inr (sym s) | inr h ↦ absurd (in_none h) ]
  ];
  stays_in = λ n i. in_front n ns (m ∷ []) i;
  has = λ n e. subst (λ (k : Next). In k (ns ++ m ∷ [])) (sym e) (in_back m ns (m ∷ []) here);
  in_order = λ o. behind_ordered ns m o (precedes_none ns m last o);
  stay_once = λ o. behind_once ns m (not_there ns m last o);
}

-- one that may be there
pub adds_due : (ns : List Next) (m : Next) → is_same_step m m ≡ true → Adds ns (with_due ns m) (λ n. n ≡ m)
adds_due ns m itself = first (goes_last ns m) refl
  where
    at : list_any (is_same_step m) ns ≡ true → In m ns
    at e = let k = in_any (is_same_step m) ns e in subst (λ (j : Next). In j ns) (sym (same_is m k.0 k.2)) k.1

    by : (b : Bool) → list_any (is_same_step m) ns ≡ b → Adds ns (cond b ns (with_step ns m)) (λ n. n ≡ m)
    by true e = record {
      comes = λ n i. inl i;
      stays_in = λ n i. i;
      has = λ n s. subst (λ (j : Next). In j ns) (sym s) (at e);
      in_order = λ o. o;
      stay_once = λ e o. o;
    }
    by false e = adds_step ns m (λ i. not_both (list_any (is_same_step m) ns) (any_in (is_same_step m) m ns i itself) e)

    first : (b : Bool) → goes_last ns m ≡ b → Adds ns (cond b (ns ++ m ∷ []) (cond (list_any (is_same_step m) ns) ns (with_step ns m))) (λ n. n ≡ m)
    first true e = adds_behind ns m e
    first false e = by (list_any (is_same_step m) ns) refl

pub adds_as : {old new : List Next} (Kind Other : Next → Type 0) → Adds old new Kind → ((n : Next) → Kind n → Other n) → ((n : Next) → Other n → Kind n)
    → Adds old new Other
adds_as {old} {new} Kind Other a to from = record {
  comes = λ n i. kind n (a.comes n i);
  stays_in = a.stays_in;
  has = λ n o. a.has n (from n o);
  in_order = a.in_order;
  stay_once = a.stay_once;
}
  where
    kind : (n : Next) → In n old ⊎ Kind n → In n old ⊎ Other n
    kind n (inl i) = inl i
    kind n (inr k) = inr (to n k)

pub adds_both : {old mid new : List Next} (Kind Other : Next → Type 0) → Adds old mid Kind → Adds mid new Other → Adds old new (λ n. Kind n ⊎ Other n)
adds_both {old} {mid} {new} Kind Other a b = record {
  comes = λ n i. kind n (b.comes n i);
  stays_in = λ n i. b.stays_in n (a.stays_in n i);
  has = has;
  in_order = λ e. b.in_order (a.in_order e);
  stay_once = λ e o. b.stay_once (a.in_order e) (a.stay_once e o);
}
  where
    first : (n : Next) → In n old ⊎ Kind n → In n old ⊎ (Kind n ⊎ Other n)
    first n (inl i) = inl i
    first n (inr k) = inr (inl k)

    kind : (n : Next) → In n mid ⊎ Other n → In n old ⊎ (Kind n ⊎ Other n)
    kind n (inl i) = first n (a.comes n i)
    kind n (inr o) = inr (inr o)

    has : (n : Next) → Kind n ⊎ Other n → In n new
    has n (inl k) = b.stays_in n (a.has n k)
    has n (inr o) = b.has n o

pub adds_if : {old new : List Next} (Kind : Next → Type 0) (b : Bool) → Adds old new Kind → Adds old (cond b new old) (λ n. (b ≡ true) × Kind n)
adds_if Kind true a = adds_as Kind (λ n. (true ≡ true) × Kind n) a (λ n k. (refl, k)) (λ n k. k.1)
adds_if {old} Kind false a = adds_none old (λ n. (false ≡ true) × Kind n) (λ n k. true≢false (sym k.0))

module _ {A : Type 0} (f : List Next → A → List Next) (Kind : A → Next → Type 0) (one : (ns : List Next) (a : A) → Adds ns (f ns a) (Kind a)) where
  abbrev Of : List A → Next → Type 0
  Of xs n = (a : A) × In a xs × Kind a n

  pub adds_all : (xs : List A) (ns : List Next) → Adds ns (fold f ns xs) (λ n. (a : A) × In a xs × Kind a n)
  adds_all [] ns = adds_none ns (Of []) (λ n k. in_none k.1)
  adds_all (x ∷ xs) ns =
      adds_as (λ n. Kind x n ⊎ Of xs n) (Of (x ∷ xs)) (adds_both (Kind x) (Of xs) (one ns x) (adds_all xs (f ns x))) to from
    where
      to : (n : Next) → Kind x n ⊎ Of xs n → Of (x ∷ xs) n
      to n (inl k) = (x, here, k)
      to n (inr (a, i, k)) = (a, there i, k)

      from : (n : Next) → Of (x ∷ xs) n → Kind x n ⊎ Of xs n
      from n (a, i, k) = in_first (λ b. Kind b n → Kind x n ⊎ Of xs n) x xs (λ g. inl g) (λ b j g. inr (b, j, g)) a i k
