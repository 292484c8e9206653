-- What is kept of a rollback follows what its stack hears.
use Rattle.std.proofs.Common.{◌≡◌, ◌⊎◌, inl, inr, ℕ, zero, suc, ◌+◌, ◌<◌, ◌≤◌, ◌==◌, ◌&&◌, ◌||◌, not, Bool, true, false, List, [], ◌∷◌, ◌++◌, Option, Some, None, Result, Ok, Err, IfOk, IfSome, cond, filter, fold, get_or, length, map, replicate, set, take, refl, sym, ◌∙◌, ap, arith, subst, true≢false}
use Rattle.std.specs.List.{list_any, slice_get}
use Rattle.std.specs.Option.{option_and_then, option_map_or}
use Rattle.std.specs.Str.{bytes_eq}
use Rattle.std.specs.Global.{Vec}
use Rattle.std.proofs.Math.Seq.{take-suc}
use Rattle.std.proofs.lemmas.Bool.{and_parts, eq-eqb, eqb-true, or_from, or_parts}
use Rattle.std.proofs.lemmas.List.{get_or-set_other, get_or-set_same, length-set, length-take, take_all}
use Rattle.std.proofs.lemmas.List.Folds.{list_any-append}
use Rattle.std.proofs.lemmas.Option.{none-some, same_Some, slice_get_within}
use Rattle.std.proofs.lemmas.Slice.Eq.{bytes_eq-Decides}
use Rattle.cf_tree.specs.Keys.{value_at}
use Rattle.cf_tree.specs.Lists.{In, here, there}
use Rattle.cf_tree.specs.declared.code.Code.TheVariants as code
use Rattle.cf_tree.specs.declared.request.Request.{Request}
use Rattle.cf_tree.specs.declared.request.Request.TheVariants as request
use Rattle.cf_entry.specs.declared.entry.Entry.{Entry}
use Rattle.cf_entry.specs.declared.entry.Entry.TheVariants as entry
use Rattle.cf_entry.specs.declared.entry.Reply.{Reply}
use Rattle.cf_entry.specs.declared.entry.Reply.TheVariants as reply
use Rattle.cf_ready.specs.declared.ready.Readiness.{Readiness}
use Rattle.cf_ready.specs.Ready.{HasFlags, are_made_in, is_made_in}
use Rattle.cf_ready.proofs.Ranked.{read_else, same_or_not}
use Rattle.cf_effect.specs.declared.ahead.Way.TheVariants.{Back}
use Rattle.cf_effect.specs.declared.call.Call.{Call}
use Rattle.cf_effect.specs.declared.findings.Found.{Found}
use Rattle.cf_effect.specs.declared.held.Held.{Held}
use Rattle.cf_effect.specs.declared.held.HeldStatus.TheVariants as held
use Rattle.cf_effect.specs.declared.held.Pending.{Pending}
use Rattle.cf_effect.specs.declared.layout.Layout.{Layout}
use Rattle.cf_effect.specs.declared.layout.Placed.{Placed}
use Rattle.cf_effect.specs.declared.undoing.Undoing.{Undoing}
use Rattle.cf_effect.specs.Ahead.{AreFlagsAt, FirstMade, IsReadiness, IsTouched, Touches, called_heard, found_in, is_sound, waiting_for}
use Rattle.cf_effect.specs.Calls.{answered_call, is_call, is_restore, new_call, where_call}
use Rattle.cf_effect.specs.Fold.{effect_at}
use Rattle.cf_effect.specs.Following.{with_place}
use Rattle.cf_effect.specs.Layout.{AreRows, is_place, row_needs, source_members, users_at}
use Rattle.cf_effect.specs.Reply.{answered, closing, deleting, intending, replied, replying, with_status}
use Rattle.cf_effect.specs.Undoing.{AreApart, AreFirst, AreIds, DeletesAt, IsFreeFor, IsPlain, IsTriedAt, IsUndoing, PutsId, RollsBack, StandsAt, TakesOff, TakesOffIf, Undoes, completes_deletion, gone_if, id_at, is_deletion_of, is_first, with_call, with_request}
use Rattle.cf_effect.specs.Index.{ArePlacesOf, is_path}
use Rattle.cf_effect.specs.Words.{change_first, deletes, has_physical, has_token, pending_of, without}
use Rattle.cf_effect.specs.World.{StackState}
use Rattle.cf_effect.proofs.Followed.{rows_stay, same_for}
use Rattle.cf_effect.proofs.Places.{passes_at}
use Rattle.cf_effect.proofs.Readied.{all_else, all_stay, made_else}

-- members of lists
in_cons : {A : Type 0} {x y : A} {ys : List A} → In x (y ∷ ys) → (y ≡ x) ⊎ In x ys
in_cons here = inl refl
in_cons (there e) = inr e

in_none : {A : Type 0} {x : A} → In x [] → ⊥
in_none e = elim e [ ]

in_last : {A : Type 0} (xs : List A) (y x : A) → In x (xs ++ y ∷ []) → In x xs ⊎ (x ≡ y)
in_last [] y x i = elim (in_cons i) [ inl e ↦ inr (sym e) | inr j ↦ absurd (in_none j) ]
in_last (z ∷ zs) y x i = elim (in_cons i) [
  | inl e ↦ inl (subst (λ c. In x (c ∷ zs)) (sym e) here)
  | inr j ↦ elim (in_last zs y x j) [ inl k ↦ inl (there k) | inr k ↦ inr k ]
]

in_longer : {A : Type 0} (xs ys : List A) (x : A) → In x xs → In x (xs ++ ys)
in_longer [] ys x i = absurd (in_none i)
in_longer (z ∷ zs) ys x i = elim (in_cons i) [
  | inl e ↦ subst (λ c. In x (c ∷ (zs ++ ys))) (sym e) here
  | inr j ↦ there (in_longer zs ys x j)
]

at_end : {A : Type 0} (xs : List A) (x : A) → In x (xs ++ x ∷ [])
at_end [] x = here
at_end (z ∷ zs) x = there (at_end zs x)

in_left : {A : Type 0} (test : A → Bool) (xs : List A) (a : A) → In a (filter test xs) → In a xs × (test a ≡ true)
in_left test [] a i = absurd (in_none i)
in_left {A} test (x ∷ xs) a i = by (test x) refl i (in_left test xs a) where
  by : (b : Bool) → test x ≡ b → In a (cond b (x ∷ filter test xs) (filter test xs)) → (In a (filter test xs) → In a xs × (test a ≡ true)) → In a (x ∷ xs) × (test a ≡ true)
  by true e j more = elim (in_cons j) [
    | inl s ↦ subst (λ (y : A). In y (x ∷ xs) × (test y ≡ true)) s (here, e)
    | inr k ↦ let w = more k in (there w.0, w.1)
  ]
  by false e j more = let w = more j in (there w.0, w.1)

left_in : {A : Type 0} (test : A → Bool) (xs : List A) (a : A) → In a xs → test a ≡ true → In a (filter test xs)
left_in test [] a i t = absurd (in_none i)
left_in {A} test (x ∷ xs) a i t = by (test x) refl (elim (in_cons i) [ inl s ↦ inl s | inr j ↦ inr (left_in test xs a j t) ]) where
  by : (b : Bool) → test x ≡ b → (x ≡ a) ⊎ In a (filter test xs) → In a (cond b (x ∷ filter test xs) (filter test xs))
  by true e (inl s) = subst (λ (y : A). In y (x ∷ filter test xs)) s here
  by true e (inr j) = there j
  by false e (inl s) = absurd (true≢false (sym t ∙ ap test (sym s) ∙ e))
  by false e (inr j) = j

-- what stands at places
read_here : {A : Type 0} (xs : List A) (i : ℕ) (x y : A) → slice_get xs i ≡ Some y → slice_get (set xs i x) i ≡ Some x
read_here [] i x y e = absurd (none-some y e)
read_here (z ∷ zs) zero x y e = refl
read_here (z ∷ zs) (suc i) x y e = read_here zs i x y e

there_at : (ids : List (Option (List ℕ))) (at : ℕ) (id : List ℕ) → id_at ids at ≡ Some id → slice_get ids at ≡ Some (Some id)
there_at ids at id e = by (slice_get ids at) e where
  by : (o : Option (Option (List ℕ))) → option_and_then (λ (x : Option (List ℕ)). x) o ≡ Some id → o ≡ Some (Some id)
  by None h = absurd (none-some id h)
  by (Some x) h = ap Some h

set_else : (ids : List (Option (List ℕ))) (at k : ℕ) (x : Option (List ℕ)) → (k ≡ at → ⊥) → id_at (set ids at x) k ≡ id_at ids k
set_else ids at k x n = ap (option_and_then (λ (id : Option (List ℕ)). id)) (read_else ids at k x n)

set_here : (ids : List (Option (List ℕ))) (at : ℕ) (x y : Option (List ℕ)) → slice_get ids at ≡ Some y → id_at (set ids at x) at ≡ x
set_here ids at x y e = ap (option_and_then (λ (id : Option (List ℕ)). id)) (read_here ids at x y e)

-- nothing stands anywhere yet
pub none_first : (at : ℕ) → id_at [] at ≡ None
none_first at = refl

none_last : (ids : List (Option (List ℕ))) → ((at : ℕ) → id_at ids at ≡ None) → (at : ℕ) → id_at (ids ++ None ∷ []) at ≡ None
none_last [] h zero = refl
none_last [] h (suc at) = refl
none_last (x ∷ xs) h zero = h 0
none_last (x ∷ xs) h (suc at) = none_last xs (λ k. h (suc k)) at

pub none_more : (old new : List (Option (List ℕ))) → ((at : ℕ) → id_at old at ≡ None) → new ≡ old ++ None ∷ [] → (at : ℕ) → id_at new at ≡ None
none_more old new h e at = ap (λ ids. id_at ids at) e ∙ none_last old h at

pub ids_first : (l : Layout) (ids : List (Option (List ℕ))) → length ids ≡ length l.rows.items → ((at : ℕ) → id_at ids at ≡ None) → AreIds [] l ids
ids_first l ids count none = record {
  count = count;
  plain = λ h i. absurd (in_none i);
  there = λ h i. absurd (in_none i);
  stands = λ at id e. absurd (none-some id (sym (none at) ∙ e));
}

-- one stands more
ids_last : (l : Layout) (hs : List Held) (h : Held) (old new : List (Option (List ℕ))) → AreIds hs l old → PutsId l h old new → AreIds (hs ++ h ∷ []) l new
ids_last l hs h old new a (at, free, is) = record {
  count = ap length is ∙ length-set old at (Some h.physical) ∙ a.count;
  plain = λ g i. elim (in_last hs h g i) [ inl j ↦ a.plain g j | inr s ↦ subst IsPlain (sym s) free.plain ];
  there = λ g i. elim (in_last hs h g i) [
    | inl j ↦
        let w = a.there g j in
        (w.0, w.1, else_at w.0 (λ e. none-some g.physical (sym was_none ∙ ap (id_at old) (sym e) ∙ w.2)) ∙ w.2)
    | inr s ↦ subst (λ (x : Held). (k : ℕ) × (value_at x.path l.places ≡ Some k) × (id_at new k ≡ Some x.physical)) (sym s) (at, free.place, at_here)
  ];
  stands = λ k id e. elim (same_or_not k at) [
    | inl s ↦ (h, at_end hs h, same_Some h.physical id (sym at_here ∙ ap (id_at new) (sym s) ∙ e), free.place ∙ ap Some (sym s))
    | inr n ↦ let w = a.stands k id (sym (else_at k n) ∙ e) in (w.0, in_longer hs (h ∷ []) w.0 w.1, w.2, w.3)
  ];
} where
  was_none : id_at old at ≡ None
  was_none = ap (option_and_then (λ (id : Option (List ℕ)). id)) free.free

  else_at : (k : ℕ) → (k ≡ at → ⊥) → id_at new k ≡ id_at old k
  else_at k n = ap (λ ids. id_at ids k) is ∙ set_else old at k (Some h.physical) n

  at_here : id_at new at ≡ Some h.physical
  at_here = ap (λ ids. id_at ids at) is ∙ set_here old at (Some h.physical) None free.free

pub ids_more : (l : Layout) (made : List Held) (i : ℕ) (h : Held) (old new : List (Option (List ℕ))) → i < length made → h ≡ get_or made i h → AreIds (take i made) l old
    → PutsId l h old new → AreIds (take (i + 1) made) l new
ids_more l made i h old new within is a put =
    let next : suc i ≡ i + 1 = omega arith in
    let more : take (i + 1) made ≡ take i made ++ h ∷ [] = ap (λ k. take k made) (sym next) ∙ take-suc made i h within ∙ ap (λ (z : Held). take i made ++ z ∷ []) (sym is) in
    subst (λ hs. AreIds hs l new) (sym more) (ids_last l (take i made) h old new a put)

pub ids_all : (l : Layout) (made : List Held) (i : ℕ) (ids : List (Option (List ℕ))) → length made ≤ i → AreIds (take i made) l ids → AreIds made l ids
ids_all l made i ids m a = subst (λ hs. AreIds hs l ids) (take_all i made m) a

-- each id is found at its own place, so that no two are the same
first_of : (places : List (List ℕ × ℕ)) (at : ℕ) (id : List ℕ) → is_first places at (Some id) ≡ true → value_at id places ≡ Some at
first_of places at id h = by (value_at id places) h where
  by : (o : Option ℕ) → option_map_or (λ first. first == at) o false ≡ true → o ≡ Some at
  by None e = absurd (true≢false (sym e))
  by (Some k) e = ap Some (eqb-true k at e)

id_last : (ids : List (Option (List ℕ))) (x : Option (List ℕ)) (k : ℕ) (id : List ℕ) → id_at (ids ++ x ∷ []) k ≡ Some id
    → (id_at ids k ≡ Some id) ⊎ ((k ≡ length ids) × (x ≡ Some id))
id_last [] x zero id e = inr (refl, e)
id_last [] x (suc k) id e = inl e
id_last (y ∷ ys) x zero id e = inl e
id_last (y ∷ ys) x (suc k) id e = elim (id_last ys x k id e) [ inl h ↦ inl h | inr h ↦ inr (ap suc h.0, h.1) ]

firsts_last : (places : List (List ℕ × ℕ)) (ids : List (Option (List ℕ))) (x : Option (List ℕ)) → AreFirst ids places → is_first places (length ids) x ≡ true
    → AreFirst (ids ++ x ∷ []) places
firsts_last places ids x a h at id e = elim (id_last ids x at id e) [
  | inl g ↦ a at id g
  | inr g ↦ first_of places at id (ap (λ k. is_first places k (Some id)) g.0 ∙ ap (is_first places (length ids)) (sym g.1) ∙ h)
]

pub firsts_first : (places : List (List ℕ × ℕ)) → AreFirst [] places
firsts_first places at id e = absurd (none-some id e)

pub firsts_more : (places : List (List ℕ × ℕ)) (ids : List (Option (List ℕ))) (i : ℕ) (x : Option (List ℕ)) (so : Bool) → i < length ids → x ≡ get_or ids i x
    → AreFirst (take i ids) places → so ≡ is_first places i x → so ≡ true → AreFirst (take (i + 1) ids) places
firsts_more places ids i x so within is a told t =
    let next : suc i ≡ i + 1 = omega arith in
    let more : take (i + 1) ids ≡ take i ids ++ x ∷ [] =
    ap (λ k. take k ids) (sym next) ∙ take-suc ids i x within ∙ ap (λ (z : Option (List ℕ)). take i ids ++ z ∷ []) (sym is) in
    let count : length (take i ids) ≡ i = grind (arith, length-take {A = Option (List ℕ)}) in
    subst (λ xs. AreFirst xs places) (sym more) (firsts_last places (take i ids) x a (ap (λ k. is_first places k x) count ∙ sym told ∙ t))

pub firsts_all : (places : List (List ℕ × ℕ)) (ids : List (Option (List ℕ))) (i : ℕ) → length ids ≤ i → AreFirst (take i ids) places → AreFirst ids places
firsts_all places ids i m a = subst (λ xs. AreFirst xs places) (take_all i ids m) a

are_apart : (places : List (List ℕ × ℕ)) (ids : List (Option (List ℕ))) → AreFirst ids places → AreApart ids
are_apart places ids a at other id e g = same_Some at other (sym (a at id e) ∙ a other id g)

-- what calls delete is marked
pub or_false : (b : Bool) → (b || false) ≡ b
or_false true = refl
or_false false = refl

pub or_true : (b : Bool) → (b || true) ≡ true
or_true true = refl
or_true false = refl

pub or_further : (a b c : Bool) → ((a || b) || c) ≡ (a || (b || c))
or_further true b c = refl
or_further false b c = refl

module _ (number : ℕ) (places : List (List ℕ × ℕ)) where
  abbrev mark : List Bool → Call → List Bool
  mark = with_call number places

  -- an id is the one that is found at a place
  abbrev IsOnly : ℕ → List ℕ → Type 0
  IsOnly at id = (value_at id places ≡ Some at) × ((other : List ℕ) → value_at other places ≡ Some at → other ≡ id)

  same_length : (marks : List Bool) (c : Call) → length (mark marks c) ≡ length marks
  same_length marks c = by (c.number == number) c.request where
    found : (o : Option ℕ) → length (option_map_or (λ k. set marks k true) o marks) ≡ length marks
    found None = refl
    found (Some k) = length-set marks k true

    by : (b : Bool) (r : Request) → length (cond b (with_request places marks r) marks) ≡ length marks
    by false r = refl
    by true (request.Create k props) = refl
    by true (request.Update id props) = refl
    by true (request.Delete id) = found (value_at id places)

  pub marks_length : (cs : List Call) (marks : List Bool) → length (fold mark marks cs) ≡ length marks
  marks_length [] marks = refl
  marks_length (c ∷ cs) marks = marks_length cs (mark marks c) ∙ same_length marks c

  one_marked : (marks : List Bool) (c : Call) (at : ℕ) (id : List ℕ) → IsOnly at id → at < length marks
      → get_or (mark marks c) at false ≡ (get_or marks at false || is_deletion_of number id c)
  one_marked marks c at id only within = by (c.number == number) c.request where
    as_was : get_or marks at false ≡ (get_or marks at false || false)
    as_was = sym (or_false (get_or marks at false))

    found : (other : List ℕ) (b : Bool) → bytes_eq id other ≡ b → (o : Option ℕ) → value_at other places ≡ o
        → get_or (option_map_or (λ k. set marks k true) o marks) at false ≡ (get_or marks at false || b)
    found other true e None h = absurd (none-some at (sym h ∙ ap (λ n. value_at n places) (sym ((bytes_eq-Decides id other).0 e)) ∙ only.0))
    found other true e (Some k) h =
        let here : k ≡ at = same_Some k at (sym h ∙ ap (λ n. value_at n places) (sym ((bytes_eq-Decides id other).0 e)) ∙ only.0) in
        ap (λ j. get_or (set marks j true) at false) here ∙ get_or-set_same marks at true false within ∙ sym (or_true (get_or marks at false))
    found other false e None h = as_was
    found other false e (Some k) h =
        get_or-set_other marks k at true false
        (λ same. true≢false (sym ((bytes_eq-Decides id other).1 (sym (only.1 other (h ∙ ap (λ n. Some n) (sym same))))) ∙ e))
        ∙ as_was

    by : (b : Bool) (r : Request) → get_or (cond b (with_request places marks r) marks) at false ≡ (get_or marks at false || (b && deletes id r))
    by false r = as_was
    by true (request.Create k props) = as_was
    by true (request.Update other props) = as_was
    by true (request.Delete other) = found other (bytes_eq id other) refl (value_at other places) refl

  all_marked : (cs : List Call) (marks : List Bool) (at : ℕ) (id : List ℕ) → IsOnly at id → at < length marks
      → get_or (fold mark marks cs) at false ≡ (get_or marks at false || list_any (is_deletion_of number id) cs)
  all_marked [] marks at id only within = sym (or_false (get_or marks at false))
  all_marked (c ∷ cs) marks at id only within =
      all_marked cs (mark marks c) at id only (let n = same_length marks c in omega (arith, within, n))
      ∙ ap (λ b. b || list_any (is_deletion_of number id) cs) (one_marked marks c at id only within)
      ∙ or_further (get_or marks at false) (is_deletion_of number id c) (list_any (is_deletion_of number id) cs)

pub length_none : (n : ℕ) → length (replicate n false) ≡ n
length_none zero = refl
length_none (suc n) = ap suc (length_none n)

pub none_marked : (n k : ℕ) → get_or (replicate n false) k false ≡ false
none_marked zero k = refl
none_marked (suc n) zero = refl
none_marked (suc n) (suc k) = none_marked n k

-- what is kept at first
pub undoing_made : (s : StackState) (places : List (List ℕ × ℕ)) (u : Undoing) (n count : ℕ) (calls : List Call) → ArePlacesOf is_path u.ids.items places
    → AreFirst u.ids.items places → n ≡ s.operation → calls ≡ s.ledger → count ≡ length u.ids.items
    → u.tried.items ≡ fold (with_call n places) (replicate count false) calls → u.gone.items ≡ map gone_if u.ids.items
    → ((t : StackState) → AreRows (source_members t) u.layout → IsReadiness Back u.layout u.gone.items [] u.readiness)
    → RollsBack s → AreRows (source_members s) u.layout → AreIds s.made u.layout u.ids.items → IsUndoing s u
undoing_made s places u n count calls found firsts number ledger many tried gone ready rolls rows ids = record {
  rolls = rolls;
  rows = rows;
  ids = ids;
  apart = are_apart places u.ids.items firsts;
  marks = ap length tried ∙ marks_length n places calls (replicate count false) ∙ length_none count ∙ many;
  tried = λ at id e.
      let within = slice_get_within u.ids.items at (Some id) (there_at u.ids.items at id e) in
      let zeros = length_none count in
      ap (λ ms. get_or ms at false) tried
      ∙ all_marked n places calls (replicate count false) at id (only at id e) (omega (arith, within, zeros, many))
      ∙ ap (λ b. b || list_any (is_deletion_of n id) calls) (none_marked count at)
      ∙ ap (λ k. list_any (is_deletion_of k id) calls) number
      ∙ ap (λ cs. list_any (is_deletion_of s.operation id) cs) ledger;
  gone = gone;
  ready = ready s rows;
} where
  only : (at : ℕ) (id : List ℕ) → id_at u.ids.items at ≡ Some id → IsOnly n places at id
  only at id e = (
    firsts at id e,
    λ other h.
        let it = passes_at (is_path other) u.ids.items at (sym (found other) ∙ h) in
        (bytes_eq-Decides other id).0
        (subst (λ (o : Option (List ℕ)). is_path other o ≡ true) (same_Some it.0 (Some id) (sym it.1 ∙ there_at u.ids.items at id e)) it.2),
  )

-- a deletion goes out
module _ (number : ℕ) (p : Pending) (s : StackState) (e : Entry) (lines : List (List ℕ)) (old : Undoing) (u : IsUndoing s old) (at : ℕ) (t : IsTriedAt number p s old at)
    (marks : List Bool) (put : marks ≡ set old.tried.items at true) where
  abbrev heard : StackState
  heard = called_heard number p e lines s

  abbrev row : Call
  row = new_call number s.status p

  went : intending number p s ≡ record s { tokens = s.tokens ++ p ∷ []; ledger = s.ledger ++ row ∷ [] }
  went = ap (λ b. cond b s (record s { tokens = s.tokens ++ p ∷ []; ledger = s.ledger ++ row ∷ [] })) t.fresh

  within : at < length old.tried.items
  within =
      let w = slice_get_within old.ids.items at (Some t.deletes.id) (there_at old.ids.items at t.deletes.id t.deletes.stands.stands) in
      let m = u.marks in omega (arith, w, m)

  module _ (k : ℕ) (id : List ℕ) (stands : id_at old.ids.items k ≡ Some id) where
    abbrev before : Bool
    before = list_any (is_deletion_of s.operation id) s.ledger

    row_is : is_deletion_of s.operation id row ≡ bytes_eq id t.deletes.id
    row_is = ap (λ b. b && deletes id p.request) t.own ∙ ap (deletes id) t.deletes.asked

    after_row : (b : Bool) → bytes_eq id t.deletes.id ≡ b → (before || b) ≡ list_any (is_deletion_of s.operation id) (s.ledger ++ row ∷ [])
    after_row b g =
        sym (list_any-append (is_deletion_of s.operation id) s.ledger (row ∷ [])
        ∙ ap (λ c. before || (c || false)) (row_is ∙ g) ∙ ap (λ c. before || c) (or_false b))

    marked : get_or marks k false ≡ list_any (is_deletion_of s.operation id) (s.ledger ++ row ∷ [])
    marked = ap (λ ms. get_or ms k false) put ∙ elim (same_or_not k at) [
      | inl same ↦
          ap (λ j. get_or (set old.tried.items at true) j false) same ∙ get_or-set_same old.tried.items at true false within ∙ sym (or_true before)
          ∙ after_row true ((bytes_eq-Decides id t.deletes.id).1 (same_Some id t.deletes.id (sym stands ∙ ap (id_at old.ids.items) same ∙ t.deletes.stands.stands)))
      | inr apart ↦
          get_or-set_other old.tried.items at k true false apart ∙ u.tried k id stands ∙ sym (or_false before)
          ∙ after_row false (other apart (bytes_eq id t.deletes.id) refl)
    ] where
      other : (k ≡ at → ⊥) → (b : Bool) → bytes_eq id t.deletes.id ≡ b → bytes_eq id t.deletes.id ≡ false
      other apart false g = g
      other apart true g = absurd (apart (u.apart k at id stands (t.deletes.stands.stands ∙ ap (λ x. Some x) (sym ((bytes_eq-Decides id t.deletes.id).0 g)))))

  rolls_on : RollsBack heard
  rolls_on = record { back = same_for number p s (λ x. x.status) refl ∙ u.rolls.back; held = same_for number p s (λ x. x.held) refl ∙ u.rolls.held }

pub tried_there : (number : ℕ) (p : Pending) (s : StackState) (e : Entry) (lines : List (List ℕ)) (old : Undoing) (at : ℕ) (marks : Vec Bool) → IsUndoing s old
    → IsTriedAt number p s old at → marks.items ≡ set old.tried.items at true → IsUndoing (called_heard number p e lines s) (record old { tried = marks })
tried_there number p s e lines old at marks u t put = record {
  rolls = rolls_on number p s e lines old u at t marks.items put;
  rows = rows_stay s (called_heard number p e lines s) old.layout (same_for number p s (λ x. x.going) refl) (same_for number p s (λ x. x.before) refl) u.rows;
  ids = subst (λ hs. AreIds hs old.layout old.ids.items) (sym (same_for number p s (λ x. x.made) refl)) u.ids;
  apart = u.apart;
  marks = ap length put ∙ length-set old.tried.items at true ∙ u.marks;
  tried = λ k id stands.
      marked number p s e lines old u at t marks.items put k id stands
      ∙ sym (ap (λ (y : StackState). list_any (is_deletion_of y.operation id) y.ledger) (went number p s e lines old u at t marks.items put));
  gone = u.gone;
  ready = u.ready;
}

pub tried_so : (number : ℕ) (p : Pending) (s : StackState) (u : Undoing) (o : Option ℕ) (own : Bool) → own ≡ ((number == s.operation) && not (list_any (has_token p.token) s.tokens))
    → own ≡ true → IfSome o (DeletesAt u p.path p.request) → IfSome o (IsTriedAt number p s u)
tried_so number p s u None own told so h = tt
tried_so number p s u (Some at) own told so h =
    let parts = and_parts (number == s.operation) (not (list_any (has_token p.token) s.tokens)) (sym told ∙ so) in
    record { own = parts.0; fresh = unset (list_any (has_token p.token) s.tokens) parts.1; deletes = h }
  where
    unset : (b : Bool) → not b ≡ true → b ≡ false
    unset true e = absurd (true≢false (sym e))
    unset false e = refl

-- a resource is deleted
same_deletions : (n token : ℕ) (id : List ℕ) (answer : Reply) (cs : List Call)
    → list_any (is_deletion_of n id) (where_call token (answered_call answer) cs) ≡ list_any (is_deletion_of n id) cs
same_deletions n token id answer [] = refl
same_deletions n token id answer (c ∷ cs) =
    ap (λ b. b || list_any (is_deletion_of n id) (where_call token (answered_call answer) cs)) (one (is_call token c) answer)
    ∙ ap (λ b. is_deletion_of n id c || b) (same_deletions n token id answer cs)
  where
    one : (b : Bool) (answer : Reply) → is_deletion_of n id (cond b (answered_call answer c) c) ≡ is_deletion_of n id c
    one true (reply.Success named attrs) = refl
    one true (reply.Failed k) = refl
    one true reply.Doubt = refl
    one false answer = refl

deleted_by : (r : Bool) (path id : List ℕ) (s : StackState) (answer : Reply) → completes_deletion answer ≡ true → answered r path (request.Delete id) answer s ≡ deleting id s
deleted_by r path id s (reply.Success named attrs) h = refl
deleted_by r path id s (reply.Failed code.NotFound) h = refl
deleted_by r path id s _ h = absurd (true≢false (sym h))

gone_set : (ids : List (Option (List ℕ))) (at : ℕ) (id : List ℕ) → slice_get ids at ≡ Some (Some id) → with_place at 0 (map gone_if ids) ≡ map gone_if (set ids at None)
gone_set [] at id e = absurd (none-some (Some id) e)
gone_set (x ∷ xs) zero id e = ap (λ (o : Option (List ℕ)). with_place zero 0 (gone_if o ∷ map gone_if xs)) (same_Some x (Some id) e)
gone_set (x ∷ xs) (suc at) id e = ap (λ os. gone_if x ∷ os) (gone_set xs at id e)

module _ (s : StackState) (old : Undoing) (u : IsUndoing s old) (at : ℕ) (id : List ℕ) (stands : id_at old.ids.items at ≡ Some id) where
  abbrev left : List (Option (List ℕ))
  left = set old.ids.items at None

  nothing_here : id_at left at ≡ None
  nothing_here = set_here old.ids.items at None (Some id) (there_at old.ids.items at id stands)

  still : (k : ℕ) (other : List ℕ) → id_at left k ≡ Some other → (k ≡ at → ⊥) × (id_at old.ids.items k ≡ Some other)
  still k other e =
      let n : k ≡ at → ⊥ = λ same. none-some other (sym nothing_here ∙ ap (id_at left) (sym same) ∙ e) in
      (n, sym (set_else old.ids.items at k None n) ∙ e)

  ids_left : AreIds (without id s.made) old.layout left
  ids_left = record {
    count = length-set old.ids.items at None ∙ u.ids.count;
    plain = λ h i. u.ids.plain h (in_left (λ (g : Held). not (has_physical id g)) s.made h i).0;
    there = λ h i.
        let j = in_left (λ (g : Held). not (has_physical id g)) s.made h i in
        let w = u.ids.there h j.0 in
        (w.0, w.1, set_else old.ids.items at w.0 None (λ same. of_another h j.1 (same_Some h.physical id (sym w.2 ∙ ap (id_at old.ids.items) same ∙ stands))) ∙ w.2);
    stands = λ k other e.
        let was = still k other e in
        let w = u.ids.stands k other was.1 in
        (w.0, left_in (λ (g : Held). not (has_physical id g)) s.made w.0 w.1 (stays w.0 (λ same. was.0 (u.apart k at id (was.1 ∙ ap Some (sym w.2 ∙ sym same)) stands))), w.2, w.3);
  } where
    of_another : (h : Held) → not (has_physical id h) ≡ true → h.physical ≡ id → ⊥
    of_another h t same = true≢false (sym t ∙ ap not ((bytes_eq-Decides id h.physical).1 (sym same)))

    stays : (h : Held) → (id ≡ h.physical → ⊥) → not (has_physical id h) ≡ true
    stays h n = by (bytes_eq id h.physical) refl where
      by : (b : Bool) → bytes_eq id h.physical ≡ b → not b ≡ true
      by false e = refl
      by true e = absurd (n ((bytes_eq-Decides id h.physical).0 e))

  apart_left : AreApart left
  apart_left k other x e g = u.apart k other x (still k x e).1 (still other x g).1

  -- which may be deleted
  abbrev gone_now : List (Option ℕ)
  gone_now = with_place at 0 old.gone.items

  flags_were : (k : ℕ) → AreFlagsAt Back old.layout old.gone.items [] old.readiness k
  flags_were k = u.ready.flags k

  first_stays : FirstMade Back old.layout gone_now old.readiness
  first_stays k row h = all_stay old.gone.items at 0 (take (get_or old.readiness.met.items k 0) (users_at old.layout k)) (flags_were k row h).first

  others_stay : (k : ℕ) → is_place k (row_needs old.layout.rows.items at ++ at ∷ []) ≡ false → AreFlagsAt Back old.layout gone_now [] old.readiness k
  others_stay k h row is =
      let parts =
      or_parts (is_place k (row_needs old.layout.rows.items at)) (is_place k (at ∷ [])) (sym (list_any-append (λ j. k == j) (row_needs old.layout.rows.items at) (at ∷ [])) ∙ h) in
      let apart : k ≡ at → ⊥ = λ e. true≢false (sym (ap (λ b. b || false) (eq-eqb k at e)) ∙ parts.1) in
      let unneeded : is_place at (users_at old.layout k) ≡ false = u.rows.users k at ∙ parts.0 in
      let flags = flags_were k row is in
      record {
        first = first_stays k row is;
        ready = λ rank g.
            flags.ready rank g ∙ ap (λ b. b && not (is_made_in old.gone.items k)) (sym (all_else old.gone.items at 0 (users_at old.layout k) unneeded))
            ∙ ap (λ b. are_made_in gone_now (users_at old.layout k) && not b) (sym (made_else old.gone.items at 0 k apart));
        unsound = flags.unsound ∙ ap (λ b. b && not (is_sound (found_in [] k))) (sym (all_else old.gone.items at 0 (users_at old.layout k) unneeded));
      }

  ready_left : (new : Readiness)
      → Touches Back old.layout gone_now [] (λ k. is_place k (row_needs old.layout.rows.items at ++ at ∷ []) ≡ true) old.readiness new
      → IsReadiness Back old.layout gone_now [] new
  ready_left new t =
      let did = t u.ready.shaped first_stays in
      record { shaped = did.shaped; flags = λ k. by k (is_place k (row_needs old.layout.rows.items at ++ at ∷ [])) refl did }
    where
      by : (k : ℕ) (b : Bool) → is_place k (row_needs old.layout.rows.items at ++ at ∷ []) ≡ b
          → IsTouched Back old.layout gone_now [] (λ k. is_place k (row_needs old.layout.rows.items at ++ at ∷ []) ≡ true) old.readiness new
          → AreFlagsAt Back old.layout gone_now [] new k
      by k true e did = did.there k e
      by k false e did = did.kept k (others_stay k e)

pub asked_at : (u : Undoing) (path id : List ℕ) (r : Request) (o : Option ℕ) → r ≡ request.Delete id → IfSome o (StandsAt u path id) → IfSome o (DeletesAt u path r)
asked_at u path id r None e h = tt
asked_at u path id r (Some at) e h = record { id = id; asked = e; stands = h }

pub taken_if : (complete : Bool) (at : ℕ) (old new : Undoing) → complete ≡ true → TakesOff at old new → TakesOffIf complete at old new
taken_if complete at old new e t = subst (λ b. TakesOffIf b at old new) (sym e) t

pub kept_if : (complete : Bool) (at : ℕ) (old : Undoing) → complete ≡ false → TakesOffIf complete at old old
kept_if complete at old e = let P : Bool → Type 0 = λ b. TakesOffIf b at old old in subst P (sym e) refl

pub undoes_at : (p : Pending) (answer : Reply) (old new : Undoing) (at : ℕ) (complete : Bool) → complete ≡ completes_deletion answer → DeletesAt old p.path p.request at
    → TakesOffIf complete at old new → Undoes p answer old new
undoes_at p answer old new at complete told d t = record { at = at; deletes = d; left = subst (λ b. TakesOffIf b at old new) told t }

-- a resource that couldn't be deleted stays that of its path
abbrev failed : Held → Held
failed h = record h { status = held.DeleteFailed }

record IsSame (g h : Held) : Type 0 where
  path : h.path ≡ g.path
  physical : h.physical ≡ g.physical
  superseded : h.superseded ≡ g.superseded
  deletion : h.deletion ≡ g.deletion

same_itself : (g : Held) → IsSame g g
same_itself g = record { path = refl; physical = refl; superseded = refl; deletion = refl }

same_failed : (g : Held) → IsSame g (failed g)
same_failed g = record { path = refl; physical = refl; superseded = refl; deletion = refl }

was_there : (test : Held → Bool) (hs : List Held) (h : Held) → In h (change_first test failed hs) → (g : Held) × In g hs × IsSame g h
was_there test [] h i = absurd (in_none i)
was_there test (x ∷ hs) h i = by (test x) i (was_there test hs h) where
  by : (b : Bool) → In h (cond b (failed x ∷ hs) (x ∷ change_first test failed hs)) → (In h (change_first test failed hs) → (g : Held) × In g hs × IsSame g h)
      → (g : Held) × In g (x ∷ hs) × IsSame g h
  by true j more = elim (in_cons j) [
    | inl e ↦ (x, here, subst (IsSame x) e (same_failed x))
    | inr k ↦ (h, there k, same_itself h)
  ]
  by false j more = elim (in_cons j) [
    | inl e ↦ (x, here, subst (IsSame x) e (same_itself x))
    | inr k ↦ let w = more k in (w.0, there w.1, w.2)
  ]

stays_there : (test : Held → Bool) (hs : List Held) (g : Held) → In g hs → (h : Held) × In h (change_first test failed hs) × IsSame g h
stays_there test [] g i = absurd (in_none i)
stays_there test (x ∷ hs) g i = by (test x) (in_cons i) (stays_there test hs g) where
  by : (b : Bool) → (x ≡ g) ⊎ In g hs → (In g hs → (h : Held) × In h (change_first test failed hs) × IsSame g h)
      → (h : Held) × In h (cond b (failed x ∷ hs) (x ∷ change_first test failed hs)) × IsSame g h
  by true (inl e) more = (failed x, here, subst (λ y. IsSame y (failed x)) e (same_failed x))
  by true (inr j) more = (g, there j, same_itself g)
  by false (inl e) more = (x, here, subst (λ y. IsSame y x) e (same_itself x))
  by false (inr j) more = let w = more j in (w.0, there w.1, w.2)

ids_stay : (l : Layout) (ids : List (Option (List ℕ))) (test : Held → Bool) (hs : List Held) → AreIds hs l ids → AreIds (change_first test failed hs) l ids
ids_stay l ids test hs a = record {
  count = a.count;
  plain = λ h i.
      let w = was_there test hs h i in
      let was = a.plain w.0 w.1 in
      record { current = w.2.superseded ∙ was.current; deleted = λ e. was.deleted (sym w.2.deletion ∙ e) };
  there = λ h i.
      let w = was_there test hs h i in
      let at = a.there w.0 w.1 in
      (at.0, ap (λ q. value_at q l.places) w.2.path ∙ at.1, at.2 ∙ ap (λ x. Some x) (sym w.2.physical));
  stands = λ k id e.
      let was = a.stands k id e in
      let w = stays_there test hs was.0 was.1 in
      (w.0, w.1, w.2.physical ∙ was.2, ap (λ q. value_at q l.places) w.2.path ∙ was.3);
}

refused_so : (r : Bool) (path id : List ℕ) (s : StackState) (answer : Reply) → completes_deletion answer ≡ false
    → (answered r path (request.Delete id) answer s ≡ s) ⊎ (answered r path (request.Delete id) answer s ≡ with_status id held.DeleteFailed s)
refused_so r path id s (reply.Success named attrs) h = absurd (true≢false h)
refused_so r path id s (reply.Failed code.NotFound) h = absurd (true≢false h)
refused_so r path id s (reply.Failed c) h = inr refl
refused_so r path id s reply.Doubt h = inl refl

failed_so : (id : List ℕ) (s : StackState) → s.held ≡ [] → with_status id held.DeleteFailed s ≡ record s { made = change_first (has_physical id) failed s.made }
failed_so id s none =
    ap (λ hs. cond (list_any (has_physical id) hs) (record s { held = change_first (has_physical id) failed s.held }) (record s { made = change_first (has_physical id) failed s.made }))
    none

module _ (s : StackState) (old : Undoing) (u : IsUndoing s old) (n token b e place : ℕ) (p : Pending) (answer : Reply) (open_there : pending_of token s ≡ Some p) (at : ℕ)
    (d : DeletesAt old p.path p.request at) where
  abbrev outcome : Entry
  outcome = entry.Outcome n token answer b e

  abbrev after : StackState
  after = (effect_at place outcome s).stack

  -- it is deleted
  module _ (complete : completes_deletion answer ≡ true) (new : Undoing) (taken : TakesOff at old new) where
    deleted_so : replying token answer s ≡ closing token answer (deleting d.id s)
    deleted_so =
        ap (λ o. replied token answer o s) open_there
        ∙ ap (λ r. closing token answer (answered (is_restore token s) p.path r answer s)) d.asked
        ∙ ap (closing token answer) (deleted_by (is_restore token s) p.path d.id s answer complete)

    left_so : IsReadiness Back old.layout new.gone.items [] new.readiness
    left_so =
        subst (λ os. IsReadiness Back old.layout os [] new.readiness) (sym taken.gone)
        (ready_left s old u at d.id d.stands.stands new.readiness
        (subst (λ os. Touches Back old.layout os [] (λ j. is_place j (row_needs old.layout.rows.items at ++ at ∷ []) ≡ true) old.readiness new.readiness) taken.gone taken.ready))

    undone : IsUndoing after new
    undone = record {
      rolls = record {
        back = ap (λ (y : StackState). y.status) deleted_so ∙ u.rolls.back;
        held = ap (λ (y : StackState). y.held) deleted_so ∙ ap (without d.id) u.rolls.held;
      };
      rows =
          subst (λ l. AreRows (source_members after) l) (sym taken.layout)
          (rows_stay s after old.layout (ap (λ (y : StackState). y.going) deleted_so) (ap (λ (y : StackState). y.before) deleted_so) u.rows);
      ids =
          subst (λ l. AreIds after.made l new.ids.items) (sym taken.layout)
          (subst (λ ids. AreIds after.made old.layout ids) (sym taken.ids)
          (subst (λ hs. AreIds hs old.layout (left s old u at d.id d.stands.stands)) (sym (ap (λ (y : StackState). y.made) deleted_so)) (ids_left s old u at d.id d.stands.stands)));
      apart = subst AreApart (sym taken.ids) (apart_left s old u at d.id d.stands.stands);
      marks = ap (λ (v : Vec Bool). length v.items) taken.tried ∙ u.marks ∙ sym (ap length taken.ids ∙ length-set old.ids.items at None);
      tried = λ k id is.
          let was = still s old u at d.id d.stands.stands k id (ap (λ ids. id_at ids k) (sym taken.ids) ∙ is) in
          ap (λ (v : Vec Bool). get_or v.items k false) taken.tried ∙ u.tried k id was.1
          ∙ sym (ap (λ (y : StackState). list_any (is_deletion_of y.operation id) y.ledger) deleted_so ∙ same_deletions s.operation token id answer s.ledger);
      gone =
          taken.gone ∙ ap (with_place at 0) u.gone ∙ gone_set old.ids.items at d.id (there_at old.ids.items at d.id d.stands.stands)
          ∙ ap (map gone_if) (sym taken.ids);
      ready = subst (λ l. IsReadiness Back l new.gone.items [] new.readiness) (sym taken.layout) left_so;
    }

  -- it stays, after a refusal or a doubt
  answered_so : (t : StackState) → answered (is_restore token s) p.path (request.Delete d.id) answer s ≡ t → replying token answer s ≡ closing token answer t
  answered_so t is =
      ap (λ o. replied token answer o s) open_there
      ∙ ap (λ r. closing token answer (answered (is_restore token s) p.path r answer s)) d.asked
      ∙ ap (closing token answer) is

  left_as : (hs : List Held) → answered (is_restore token s) p.path (request.Delete d.id) answer s ≡ record s { made = hs } → AreIds hs old.layout old.ids.items → IsUndoing after old
  left_as hs is ids =
      let so = answered_so (record s { made = hs }) is in
      record {
        rolls = record { back = ap (λ (y : StackState). y.status) so ∙ u.rolls.back; held = ap (λ (y : StackState). y.held) so ∙ u.rolls.held };
        rows = rows_stay s after old.layout (ap (λ (y : StackState). y.going) so) (ap (λ (y : StackState). y.before) so) u.rows;
        ids = subst (λ (made : List Held). AreIds made old.layout old.ids.items) (sym (ap (λ (y : StackState). y.made) so)) ids;
        apart = u.apart;
        marks = u.marks;
        tried = λ k id stands.
            u.tried k id stands
            ∙ sym (ap (λ (y : StackState). list_any (is_deletion_of y.operation id) y.ledger) so ∙ same_deletions s.operation token id answer s.ledger);
        gone = u.gone;
        ready = u.ready;
      }

  stayed : completes_deletion answer ≡ false → IsUndoing after old
  stayed refused = elim (refused_so (is_restore token s) p.path d.id s answer refused) [
    | inl same ↦ left_as s.made same u.ids
    | inr changed ↦
        left_as (change_first (has_physical d.id) failed s.made) (changed ∙ failed_so d.id s u.rolls.held)
        (ids_stay old.layout old.ids.items (has_physical d.id) s.made u.ids)
  ]

  followed : (c : Bool) → completes_deletion answer ≡ c → (new : Undoing) → TakesOffIf c at old new → IsUndoing after new
  followed true complete new taken = undone complete new taken
  followed false refused new same = subst (IsUndoing after) (sym same) (stayed refused)

pub undone_by : (s : StackState) (x : Entry) (old new : Undoing) (n token b e : ℕ) (p : Pending) (answer : Reply) → x ≡ entry.Outcome n token answer b e → pending_of token s ≡ Some p
    → IsUndoing s old → Undoes p answer old new → (place : ℕ) → IsUndoing (effect_at place x s).stack new
undone_by s x old new n token b e p answer is open_there u k place =
    subst (λ (y : Entry). IsUndoing (effect_at place y s).stack new) (sym is)
    (followed s old u n token b e place p answer open_there k.at k.deletes (completes_deletion answer) refl new k.left)
