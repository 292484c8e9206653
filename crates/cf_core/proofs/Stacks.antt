-- What one more entry tells of calls and answers, and of all stacks, where one of them changes.
use Rattle.std.proofs.Common.{◌≡◌, ℕ, true, List, [], ◌∷◌, ◌++◌, Option, Some, None, refl, ap, ◌+◌, false, Bool, sym, subst, ◌∙◌, true≢false, ◌||◌, ◌==◌, ◌≢◌, ◌⊎◌, inl, inr, find, unwrap_or, map, filter_map, arith}
use Rattle.cf_core.proofs.Words.{Account, AreOwn, AreUnshared, Begun, Books, Entry, Export, Held, In, IntentMoves, IsLocal, IsOnce, StacksByName, OneIsPut, OneStack, Open, OpeningMoves, OwnKept, Pending, Resource, Response, Role, StackState, Stood, Stranger, Thing, World, account_of, ascends, bytes_eq, call_in, called_of, changed_by, effect_at, effect_of, has_leftover, has_token, heard, held_in, here, is_at_rest, is_going, is_in_progress, is_opening, known_stack, lost_in, lost_on, lane_types, new, no_stack, open_as, open_in, open_on, opening_heard, option_map_or, option_or, put, replies_in, reply_in, resting_in, role_found, role_in, role_on, role_or, stack_for, stack_of_operation, there as there_, thing_of, told_among, told_in, value_at, world_after}
use Rattle.cf_core.proofs.Lemmas.{at_other, at_same, bytes_or, filter_map-append, find-append, found_passes, found_stands, if_other, if_same, in_back, in_cons, in_either, in_front, list_any-append, number_or, tail_ascends, value_below}
use Rattle.cf_agree.proofs.Words.{bytes_same, same_bytes}
use Rattle.cf_core.specs.OneStack.{there}
use Rattle.cf_effect.proofs.Closed.{any_found}
use Rattle.cf_plan.specs.Lanes.{written_in}
use Rattle.cf_plan.specs.Lanes.{call_at}
use Rattle.std.specs.{Cmp.Lexicographic.slice_cmp, Cmp.Lexicographic.texts_ties, Ordering.match_ordering, Ordering.nat_cmp, Prelude.cond}
use Rattle.std.specs.Option.{option_map}
use Rattle.std.specs.declared.cmp.Ordering.TheVariants.{Less, Equal, Greater}
use Rattle.std.specs.declared.cmp.Ordering.{Ordering}
use Rattle.cf_effect.specs.Listed.{exports_after}

-- by what a test is, and by what is found
pub on_bool : {P : Type 0} (b : Bool) → (b ≡ true → P) → (b ≡ false → P) → P
on_bool v0 f g = grind arith

pub on_option : {A P : Type 0} (o : Option A) → (o ≡ None → P) → ((a : A) → o ≡ Some a → P) → P
on_option v0 f g = grind arith

pub on_list : {A P : Type 0} (xs : List A) → (xs ≡ [] → P) → ((x : A) (ys : List A) → xs ≡ x ∷ ys → P) → P
on_list [] f g = f refl
on_list (x ∷ ys) f g = g x ys refl

-- What is read of all stacks, where one of them changes.

pub role_split : (xs ys : StacksByName) (i : List ℕ) → role_in (xs ++ ys) i ≡ role_or (role_in xs i) (role_in ys i)
role_split [] ys i = refl
role_split (x ∷ xs) ys i = grind (arith, role_split xs ys i)

pub open_split : (xs ys : StacksByName) (t : ℕ) → open_in (xs ++ ys) t ≡ option_or (open_in xs t) (open_in ys t)
open_split [] ys t = refl
open_split (x ∷ xs) ys t = grind (arith, open_split xs ys t)

pub value_split : (n : List ℕ) (xs ys : StacksByName) → value_at n (xs ++ ys) ≡ option_or (value_at n xs) (value_at n ys)
value_split n [] ys = refl
value_split n (x ∷ xs) ys = let ih = value_split n xs ys in grind arith

pub or_stranger : (a b : Role) → role_or a b ≡ Stranger → (a ≡ Stranger) × (b ≡ Stranger)
or_stranger a b e = grind arith

pub or_resource : (a b : Role) (r : Thing) → role_or a b ≡ Resource r → (a ≡ Resource r) ⊎ ((a ≡ Stranger) × (b ≡ Resource r))
or_resource a b r e = grind arith

pub or_none : {A : Type 0} (a b : Option A) → option_or a b ≡ None → (a ≡ None) × (b ≡ None)
or_none a b e = grind arith

pub or_some : {A : Type 0} (a b : Option A) (x : A) → option_or a b ≡ Some x → (a ≡ Some x) ⊎ ((a ≡ None) × (b ≡ Some x))
or_some a b x e = grind arith

-- the stack of a name is the first one of that name, or is behind it
on_it : (x : List ℕ × StackState) (xs : StacksByName) (n : List ℕ) → (n ≡ x.0) ⊎ (value_at n xs ≢ None) → value_at n (x ∷ xs) ≢ None
on_it x xs n k e = grind (arith, same_bytes)

of_stack : (xs : StacksByName) (i : List ℕ) (r : Thing) → role_in xs i ≡ Resource r → value_at r.stack xs ≢ None
of_stack [] i r e = absurd (cc)
of_stack (x ∷ xs) i r e = on_it x xs r.stack (elim (or_resource (role_on x.0 x.1 i) (role_in xs i) r e) [
  | inl k ↦ inl (grind arith)
  | inr k ↦ inr (of_stack xs i r k.1)
])

open_stack : (xs : StacksByName) (t : ℕ) (o : Open) → open_in xs t ≡ Some o → value_at o.stack xs ≢ None
open_stack [] t o e = absurd (cc)
open_stack (x ∷ xs) t o e = on_it x xs o.stack (elim (or_some (open_on x.0 x.1 t) (open_in xs t) o e) [
  | inl k ↦ inl (grind arith)
  | inr k ↦ inr (open_stack xs t o k.1)
])

-- a stack of which nothing is known
pub blank_role : (name i : List ℕ) → role_on name no_stack i ≡ Stranger
blank_role name i = grind arith

-- the rest of one of three stacks, the second one by its name
rest_alike : (b : Bool) (v w : Option StackState) (s s' : StackState) → is_at_rest s' ≡ is_at_rest s
    → option_map_or is_at_rest (option_or v (cond b (Some s') w)) false ≡ option_map_or is_at_rest (option_or v (cond b (Some s) w)) false
rest_alike b v w s s' e = grind arith

rest_new : (n name : List ℕ) (front back : StacksByName) → value_at name front ≡ None → value_at name back ≡ None
    → option_map_or is_at_rest (option_or (value_at n front) (cond (bytes_eq n name) (Some no_stack) (value_at n back))) false
    ≡ option_map_or is_at_rest (option_or (value_at n front) (value_at n back)) false
rest_new n name front back f b = grind (arith, bytes_or, if_same, if_other)

module _ {ss ss' : StacksByName} {name : List ℕ} {s s' : StackState} (f : OneStack ss ss' name s s') where
  role_was : (i : List ℕ) → role_in ss i ≡ role_or (role_in f.front i) (role_or (role_on name s i) (role_in f.back i))
  role_was i = grind (arith, role_split, blank_role)

  pub role_now : (i : List ℕ) → role_in ss' i ≡ role_or (role_in f.front i) (role_or (role_on name s' i) (role_in f.back i))
  role_now i = cc (f.now, role_split f.front ((name, s') ∷ f.back) i)

  pub role_same : (i : List ℕ) → role_on name s' i ≡ role_on name s i → role_in ss' i ≡ role_in ss i
  role_same i e = cc (role_now i, role_was i)

  -- an id that is a stranger is so to each stack
  pub role_stranger : (i : List ℕ) → role_in ss i ≡ Stranger → (role_in f.front i ≡ Stranger) × (role_on name s i ≡ Stranger) × (role_in f.back i ≡ Stranger)
  role_stranger i e = grind (arith, or_stranger, role_was)

  -- where no other stack knows an id, its role is that on this one
  pub role_alone : (i : List ℕ) → role_in f.front i ≡ Stranger → role_in f.back i ≡ Stranger → role_in ss' i ≡ role_on name s' i
  role_alone i a b = grind (arith, role_now)

  -- a resource of this stack is found there
  pub role_own : (i : List ℕ) (r : Thing) → role_in ss i ≡ Resource r → r.stack ≡ name → (role_in f.front i ≡ Stranger) × (role_on name s i ≡ Resource r)
  role_own i r e n = grind (arith, or_resource, role_was, of_stack)

  pub open_was : (t : ℕ) → open_in ss t ≡ option_or (open_in f.front t) (option_or (open_on name s t) (open_in f.back t))
  open_was t = grind (arith, open_split)

  pub open_now : (t : ℕ) → open_in ss' t ≡ option_or (open_in f.front t) (option_or (open_on name s' t) (open_in f.back t))
  open_now t = cc (f.now, open_split f.front ((name, s') ∷ f.back) t)

  pub open_same : (t : ℕ) → open_on name s' t ≡ open_on name s t → open_in ss' t ≡ open_in ss t
  open_same t e = cc (open_now t, open_was t)

  pub open_none : (t : ℕ) → open_in ss t ≡ None → (open_in f.front t ≡ None) × (open_on name s t ≡ None)
  open_none t e = grind (arith, or_none, open_was)

  pub open_new : (t : ℕ) (o : Open) → open_in ss t ≡ None → open_on name s' t ≡ Some o → open_in ss' t ≡ Some o
  open_new t o e k = cc (open_now t, (open_none t e).0)

  pub open_closed : (t : ℕ) → open_in f.front t ≡ None → open_on name s' t ≡ None → open_in f.back t ≡ None → open_in ss' t ≡ None
  open_closed t x y z = cc (open_now t)

  -- a call that is not open on this stack is of another
  pub open_not_own : (t : ℕ) (o : Open) → open_in ss t ≡ Some o → open_on name s t ≡ None → o.stack ≢ name
  open_not_own t o e n k = grind (arith, or_some, open_was, open_stack)

  pub lost_same : (t : ℕ) → lost_on s' t ≡ lost_on s t → lost_in ss' t ≡ lost_in ss t
  lost_same t e = grind (arith, list_any-append)

  pub resting_same : (n : List ℕ) → is_at_rest s' ≡ is_at_rest s → resting_in ss' n ≡ resting_in ss n
  resting_same n e =
      let now = ap (value_at n) f.now ∙ value_split n f.front ((name, s') ∷ f.back) in
      let still = rest_alike (bytes_eq n name) (value_at n f.front) (value_at n f.back) s s' e in
      ap (λ o. option_map_or is_at_rest o false) now ∙ still ∙ elim f.was [
        | there w ↦ sym (ap (λ o. option_map_or is_at_rest o false) (ap (value_at n) w ∙ value_split n f.front ((name, s) ∷ f.back)))
        | new w k ↦ cc (value_split n f.front f.back, rest_new n name f.front f.back f.before f.behind)
      ]

-- A stack that is put under its name is the one that changes.

one : (ss : StacksByName) (name : List ℕ) (s s' : StackState) → ascends ss ≡ true → unwrap_or (value_at name ss) no_stack ≡ s → OneStack ss (put name s' ss) name s s'
one [] name s s' h e = record { front = []; back = []; was = new refl (sym e); now = refl; before = refl; behind = refl }
one (p ∷ ps) name s s' h e = by (slice_cmp nat_cmp name p.0) refl (λ k. one ps name s s' (tail_ascends p.0 ps h) k) where
  by : (o : Ordering) → slice_cmp nat_cmp name p.0 ≡ o → (unwrap_or (value_at name ps) no_stack ≡ s → OneStack ps (put name s' ps) name s s')
      → OneStack (p ∷ ps) (match_ordering o ((name, s') ∷ p ∷ ps) ((p.0, s') ∷ ps) (p ∷ put name s' ps)) name s s'
  by Less o ih =
      let below : value_at name (p ∷ ps) ≡ None = value_below name (p ∷ ps) (rw o h) in
      record { front = []; back = p ∷ ps; was = new refl (sym e ∙ ap (λ v. unwrap_or v no_stack) below); now = refl; before = refl; behind = below }
  by Equal o ih =
      let same : name ≡ p.0 = bytes_same name p.0 (texts_ties name p.0 ∙ rw o refl) in
      let hit : bytes_eq name p.0 ≡ true = texts_ties name p.0 ∙ rw o refl in
      let mine : p.1 ≡ s = ap (λ b. unwrap_or (cond b (Some p.1) (value_at name ps)) no_stack) (sym hit) ∙ e in
      record {
        front = [];
        back = ps;
        was = there (λ i. (sym same i, mine i) ∷ ps);
        now = ap (λ n. (n, s') ∷ ps) (sym same);
        before = refl;
        behind = ap (λ n. value_at n ps) same ∙ value_below p.0 ps h;
      }
  by Greater o ih =
      let other : bytes_eq name p.0 ≡ false = texts_ties name p.0 ∙ rw o refl in
      let f = ih (ap (λ b. unwrap_or (cond b (Some p.1) (value_at name ps)) no_stack) (sym other) ∙ e) in
      record {
        front = p ∷ f.front;
        back = f.back;
        was = elim f.was [ there k ↦ there (ap (λ ss. p ∷ ss) k) | new k z ↦ new (ap (λ ss. p ∷ ss) k) z ];
        now = ap (λ ss. p ∷ ss) f.now;
        before = ap (λ b. cond b (Some p.1) (value_at name f.front)) other ∙ f.before;
        behind = f.behind;
      }

pub one_is_put : OneIsPut
one_is_put ss name s' h = one ss name (unwrap_or (value_at name ss) no_stack) s' h refl

-- What no two stacks share, where one of them changes.

-- what has no value under a name has no member of it
none_else : (n : List ℕ) (x : List ℕ × StackState) (xs : StacksByName) → value_at n (x ∷ xs) ≡ None → (n ≢ x.0) × (value_at n xs ≡ None)
none_else n x xs e = grind (arith, same_bytes)

pub named_not : (n : List ℕ) (xs : StacksByName) (p : List ℕ × StackState) → value_at n xs ≡ None → In p xs → n ≢ p.0
named_not n [] p e i = elim i [ ]
named_not n (x ∷ xs) p e here = (none_else n x xs e).0
named_not n (x ∷ xs) p e (there_ i) = named_not n xs p (none_else n x xs e).1 i

all_strangers : (xs : StacksByName) (i : List ℕ) → ((q : List ℕ × StackState) → In q xs → role_on q.0 q.1 i ≡ Stranger) → role_in xs i ≡ Stranger
all_strangers [] i h = refl
all_strangers (x ∷ xs) i h = cc (h x here, all_strangers xs i (λ q j. h q (there_ j)))

all_closed : (xs : StacksByName) (t : ℕ) → ((q : List ℕ × StackState) → In q xs → find (has_token t) (q.1).tokens ≡ None) → open_in xs t ≡ None
all_closed [] t h = refl
all_closed (x ∷ xs) t h = cc (h x here, all_closed xs t (λ q j. h q (there_ j)))

pub held_role : (name : List ℕ) (s : StackState) (i : List ℕ) (h : Held) → held_in i s ≡ Some h → role_on name s i ≢ Stranger
held_role name s i h e k = let z = ap (λ o. role_found name o (has_leftover i s.leftovers)) e in absurd (cc)

-- a stack of which nothing is known holds nothing and has no open call
none_held : {P : Type 0} (s : StackState) (i : List ℕ) (h : Held) → s ≡ no_stack → held_in i s ≡ Some h → P
none_held s i h k e = let z = ap (held_in i) k in absurd (cc)

none_called : {P : Type 0} (s : StackState) (t : ℕ) (v : Pending) → s ≡ no_stack → find (has_token t) s.tokens ≡ Some v → P
none_called s t v k e = let z = ap (λ (q : StackState). find (has_token t) q.tokens) k in absurd (cc)

module _ {ss ss' : StacksByName} {name : List ℕ} {s s' : StackState} (f : OneStack ss ss' name s s') where
  in_behind : (q : List ℕ × StackState) → In q f.back → In q ss
  in_behind q i = elim f.was [
    | there e ↦ rw e (in_back q f.front ((name, s) ∷ f.back) (there_ i))
    | new e k ↦ rw e (in_back q f.front f.back i)
  ]

  pub stands_or : In (name, s) ss ⊎ (s ≡ no_stack)
  stands_or = elim f.was [ there e ↦ inl (rw e (in_back (name, s) f.front ((name, s) ∷ f.back) here)) | new e k ↦ inr k ]

  member : (p : List ℕ × StackState) → In p ss' → ((name, s') ≡ p) ⊎ (In p ss × (name ≢ p.0))
  member p i = grind (arith, in_either, in_front, named_not, in_cons, in_behind)

  -- what tells two stacks of different names apart tells the one that changes and another apart
  told_apart : (P Q : List ℕ × StackState → Type 0) → ((p q : List ℕ × StackState) → In p ss → In q ss → p.0 ≢ q.0 → P p → Q q)
      → ((q : List ℕ × StackState) → In q ss → name ≢ q.0 → P (name, s') → Q q)
      → ((p : List ℕ × StackState) → In p ss → name ≢ p.0 → P p → Q (name, s'))
      → (p q : List ℕ × StackState) → In p ss' → In q ss' → p.0 ≢ q.0 → P p → Q q
  told_apart P Q both now then p q j m n k = grind (arith, member)

  module _ (own : AreOwn ss) where
    held_here : (i : List ℕ) (h : Held) (q : List ℕ × StackState) → held_in i s ≡ Some h → In q ss → name ≢ q.0 → role_on q.0 q.1 i ≡ Stranger
    held_here i h q e j n = elim stands_or [ inl m ↦ own.held (name, s) q i h m j n e | inr k ↦ none_held s i h k e ]

    held_there : (i : List ℕ) (h : Held) (p : List ℕ × StackState) → held_in i p.1 ≡ Some h → In p ss → name ≢ p.0 → role_on name s i ≡ Stranger
    held_there i h p e j n = elim stands_or [ inl m ↦ own.held p (name, s) i h j m (λ z. n (sym z)) e | inr k ↦ cc (blank_role name i) ]

    called_here : (t : ℕ) (v : Pending) (q : List ℕ × StackState) → find (has_token t) s.tokens ≡ Some v → In q ss → name ≢ q.0 → find (has_token t) (q.1).tokens ≡ None
    called_here t v q e j n = elim stands_or [ inl m ↦ own.tokens (name, s) q t v m j n e | inr k ↦ none_called s t v k e ]

    pub once_here : IsOnce s
    once_here = grind (arith, stands_or, none_held, own.once)

    pub unshared_of : AreUnshared f.front f.back s
    unshared_of = record {
      left = once_here.left;
      roles = λ i h e. (
        all_strangers f.front i (λ q j. held_here i h q e (grind (arith, in_front)) (named_not name f.front q f.before j)),
        all_strangers f.back i (λ q j. held_here i h q e (in_behind q j) (named_not name f.back q f.behind j)),
      );
      tokens = grind (arith, all_closed, called_here, in_front, named_not, in_behind);
    }

    module _ (l : IsLocal ss name s s') where
      by_token : (t : ℕ) (v : Pending) (p : List ℕ × StackState) → In p ss → name ≢ p.0 → find (has_token t) (p.1).tokens ≡ Some v → (o : Option Pending) → find (has_token t) s'.tokens ≡ o → o ≡ None
      by_token t v p j n k v6 g = grind (arith, called_here)

      still_own : ascends ss' ≡ true → AreOwn ss'
      still_own sorted = record {
        names = sorted;
        once = λ p i. elim (member p i) [ inl e ↦ subst (λ z. IsOnce z.1) e l.once | inr e ↦ own.once p e.0 ];
        held = λ p q i h. told_apart (λ z. held_in i z.1 ≡ Some h) (λ z. role_on z.0 z.1 i ≡ Stranger) (λ p q. own.held p q i h)
            (λ q j n k. elim (l.held i h k) [ inl c ↦ held_here i c.0 q c.1 j n | inr c ↦ c q j ])
            (λ p j n k. elim (l.role i (held_there i h p k j n)) [ inl c ↦ c | inr c ↦ absurd (held_role p.0 p.1 i h k (c p j)) ]) p q;
        tokens = λ p q t v. told_apart (λ z. find (has_token t) (z.1).tokens ≡ Some v) (λ z. find (has_token t) (z.1).tokens ≡ None) (λ p q. own.tokens p q t v)
            (λ q j n k. elim (l.tokens t v k) [ inl c ↦ called_here t c.0 q c.1 j n | inr c ↦ c q j ])
            (λ p j n k. by_token t v p j n k (find (has_token t) s'.tokens) refl) p q;
      }

pub own_kept : OwnKept
own_kept ss ss' name s s' f l sorted own = still_own f own l sorted

pub option_end : {A : Type 0} (o : Option A) → option_or o None ≡ o
option_end o = grind arith

pub call_more : (es : List Entry) (e : Entry) (t : ℕ) → call_at t (es ++ e ∷ []) ≡ option_or (call_at t es) (call_at t (e ∷ []))
call_more es e t = grind (arith, filter_map-append, find-append, filter_map)

-- an entry that is no call
pub call_same : (es : List Entry) (e : Entry) (t : ℕ) → written_in e ≡ None → call_in (es ++ e ∷ []) t ≡ call_in es t
call_same es e t n = cc (call_more es e t, option_end (call_at t es))

told_append : (rs qs : List Response) (t : ℕ) → told_among (rs ++ qs) t ≡ option_or (told_among rs t) (told_among qs t)
told_append [] qs t = refl
told_append (r ∷ rs) qs t =
    grind (arith, told_append rs qs t)

pub told_more : (es : List Entry) (e : Entry) (t : ℕ) → told_in (es ++ e ∷ []) t ≡ option_or (told_in es t) (told_in (e ∷ []) t)
told_more es e t = ap (λ rs. told_among rs t) (filter_map-append reply_in es (e ∷ [])) ∙ told_append (replies_in es) (replies_in (e ∷ [])) t

-- an entry that is no answer
pub told_same : (es : List Entry) (e : Entry) (t : ℕ) → reply_in e ≡ None → told_in (es ++ e ∷ []) t ≡ told_in es t
told_same es e t n = cc (told_more es e t, option_end (told_in es t))

-- accounts that tell the same are the same
pub same_account :
    (a b : Account) → ((i : List ℕ) → a.role i ≡ b.role i) → ((t : ℕ) → a.open_ t ≡ b.open_ t) → ((t : ℕ) → a.lost t ≡ b.lost t)
    → ((t : ℕ) → a.call t ≡ b.call t) → ((t : ℕ) → a.told t ≡ b.told t) → ((s : List ℕ) → a.resting s ≡ b.resting s)
    → ((n : List ℕ) → a.named n ≡ b.named n) → a.last ≡ b.last → a.epoch ≡ b.epoch → a ≡ b
same_account a b role open_ lost call told resting named last epoch = grind arith

-- The world that an entry that is no opening leaves: the stack that it is of is put under its name, and the lanes and last numbers are
-- as they were.
abbrev pub Found : Type 0
Found = Option (List ℕ × StackState)

abbrev pub put_by : World → Entry → Found → StacksByName
put_by x e o = option_map_or (λ (s : List ℕ × StackState). put s.0 (effect_at (x.place + 1) e s.1).stack x.stacks) o x.stacks

abbrev pub exports_by : World → Entry → Found → List Export
exports_by x e o = option_map_or (λ (s : List ℕ × StackState). exports_after s.0 (effect_of e s.1).exports x.exports) o x.exports

pub record IsLeft (x y : World) (e : Entry) (o : Found) : Type 0 where
  pub stacks : y.stacks ≡ put_by x e o
  pub exports : y.exports ≡ exports_by x e o
  pub lanes : y.lanes ≡ x.lanes
  pub epoch : y.epoch ≡ x.epoch
  pub token : y.token ≡ x.token

pub left_of : (e : Entry) (x : World) → is_opening e ≡ false → IsLeft x (changed_by (x.place + 1) e x) e (stack_for e x)
left_of e x n = grind arith

pub stacks_after : (x : World) (e : Entry) → (world_after x e).stacks ≡ (changed_by (x.place + 1) e x).stacks
stacks_after x e = grind arith

abbrev named : List ℕ → StackState → List ℕ × StackState
named to t = (to, t)

-- the stack that it is of is the known one of its name
module _ (x : World) (sorted : ascends x.stacks ≡ true) (name : List ℕ) (s : StackState) where
  by_known : (to : List ℕ) → Some (named to (known_stack to x)) ≡ Some (named name s) → known_stack name x ≡ s
  by_known to h = grind arith

  pub known_for : (e : Entry) → stack_for e x ≡ Some (name, s) → known_stack name x ≡ s
  known_for (Entry.Opened epoch lanes) h = absurd (cc)
  known_for (Entry.Begin n to (Begun.Create source)) h = by_known to h
  known_for (Entry.Begin n to k) h = grind (arith, unwrap_or)
  known_for (Entry.ChangeSet n to from rows outputs) h = by_known to h
  known_for e h = ap (λ o. unwrap_or o no_stack) (found_stands (λ (p : List ℕ × StackState). is_going _ p.1) x.stacks (name, s) sorted h)

-- What an entry changes of all stacks: this one alone, which shares nothing with the others.
pub record IsOnOne (x y : World) (name : List ℕ) (s s' : StackState) : Type 0 where
  pub one : OneStack x.stacks y.stacks name s s'
  pub unshared : AreUnshared one.front one.back s
  pub lanes : y.lanes ≡ x.lanes
  pub epoch : y.epoch ≡ x.epoch
  pub token : y.token ≡ x.token

-- what the stack holds, and a call that is open on it, are that to all
module _ {x y : World} {name : List ℕ} {s s' : StackState} (at : IsOnOne x y name s s') where
  pub role_of : (i : List ℕ) (h : Held) → held_in i s ≡ Some h → role_in x.stacks i ≡ Resource (thing_of name h)
  role_of i h e = cc (role_was at.one i, (at.unshared.roles i h e).0)

  pub open_of : (t : ℕ) (p : Pending) → find (has_token t) s.tokens ≡ Some p → open_in x.stacks t ≡ Some (open_as name p)
  open_of t p e = cc (open_was at.one t, (at.unshared.tokens t p e).0)

pub on_one : (e : Entry) (x : World) (name : List ℕ) (s : StackState) → AreOwn x.stacks → is_opening e ≡ false → stack_for e x ≡ Some (name, s) → IsOnOne x (changed_by (x.place + 1) e x) name s (effect_at (x.place + 1) e s).stack
on_one e x name s own o h =
    let y : World = changed_by (x.place + 1) e x in
    let s' : StackState = (effect_at (x.place + 1) e s).stack in
    let left : IsLeft x y e (stack_for e x) = left_of e x o in
    let one : OneStack x.stacks y.stacks name s s' =
    subst (λ ss. OneStack x.stacks ss name s s') (sym (left.stacks ∙ ap (put_by x e) h))
    (subst (λ t. OneStack x.stacks (put name s' x.stacks) name t s') (known_for x own.names name s e h) (one_is_put x.stacks name s' own.names)) in
    record { one = one; unshared = unshared_of one own; lanes = left.lanes; epoch = left.epoch; token = left.token }

-- a stack that is there, in its place
pub stands_on : (x : World) (name : List ℕ) (s : StackState) → AreOwn x.stacks → value_at name x.stacks ≡ Some s → IsOnOne x x name s s
stands_on x name s own h = by put_in put_in.was where
  put_in : OneStack x.stacks (put name s x.stacks) name s s
  put_in = subst (λ t. OneStack x.stacks (put name s x.stacks) name t s) (ap (λ o. unwrap_or o no_stack) h) (one_is_put x.stacks name s own.names)

  by : (f : OneStack x.stacks (put name s x.stacks) name s s) → Stood x.stacks f.front f.back name s → IsOnOne x x name s s
  by f (there e) =
      let one : OneStack x.stacks x.stacks name s s = record { front = f.front; back = f.back; was = there e; now = e; before = f.before; behind = f.behind } in
      record { one = one; unshared = unshared_of one own; lanes = refl; epoch = refl; token = refl }
  by f (new e k) = let e2 = value_split name f.front f.back in let b = f.before in let d = f.behind in absurd (cc)

-- an operation that is found is in progress
pub is_working : (number : ℕ) (x : World) (name : List ℕ) (s : StackState) → stack_of_operation number x ≡ Some (name, s) → is_in_progress s.status ≡ true
is_working number x name s h = grind (arith, found_passes)

-- An opening and an Intent move the account.

pub opening_moves : OpeningMoves
opening_moves es x epoch lanes next =
    let e : Entry = Entry.Opened epoch lanes in
    let (roles, opens, lost) = same x.stacks in
    same_account _ _ roles opens lost (λ t. call_same es e t refl) (λ t. told_same es e t refl) (λ n. refl) (λ n. refl) refl next
  where
    heard : List ℕ × StackState → List ℕ × StackState
    heard = opening_heard (x.place + 1) (Entry.Opened epoch lanes)

    same : (ss : StacksByName) → ((i : List ℕ) → role_in (map heard ss) i ≡ role_in ss i) × ((t : ℕ) → open_in (map heard ss) t ≡ open_in ss t)
        × ((t : ℕ) → lost_in (map heard ss) t ≡ lost_in ss t)
    same [] = (λ i. refl, λ t. refl, λ t. refl)
    same (s ∷ ss) = let (r, o, l) = same ss in (λ i. ap (role_or (role_on s.0 s.1 i)) (r i), λ t. ap (option_or (open_on s.0 s.1 t)) (o t), λ t. ap (λ b. lost_on s.1 t || b) (l t))

-- what is in progress is not at rest
pub not_resting : (s t : StackState) → is_in_progress s.status ≡ true → t.status ≡ s.status → is_at_rest t ≡ is_at_rest s
not_resting s t e k = cc

-- no call is open under the next token
pub none_open : (es : List Entry) (x : World) → Books (account_of es x) → open_in x.stacks (x.token + 1) ≡ None
none_open es x b = on_option (open_in x.stacks (x.token + 1)) (λ k. k)
    (λ c k. let l = b.numbers (x.token + 1) (called_of c) (b.calls (x.token + 1) c k) in absurd (omega arith))

pub map_none : {A B : Type 0} (f : A → B) (q : Option A) → option_map f q ≡ None → q ≡ None
map_none f q k = grind arith

-- a call that goes out under a token that is not open
pub record Sends (p : Pending) (s s' : StackState) : Type 0 where
  pub tokens : s'.tokens ≡ s.tokens ++ p ∷ []
  pub held : s'.held ≡ s.held
  pub made : s'.made ≡ s.made
  pub leftovers : s'.leftovers ≡ s.leftovers
  pub abandoned : s'.abandoned ≡ s.abandoned
  pub status : s'.status ≡ s.status

pub sends : (place number : ℕ) (p : Pending) (s : StackState) → find (has_token p.token) s.tokens ≡ None
    → Sends p s (effect_at place (Entry.Intent number p.token p.lane p.path p.request) s).stack
sends place number p s none = grind (arith, any_found, true≢false)

-- the same resources and leftovers give an id the same role
pub role_alike : (name i : List ℕ) (s s' : StackState) → s'.held ≡ s.held → s'.made ≡ s.made → s'.leftovers ≡ s.leftovers → role_on name s' i ≡ role_on name s i
role_alike name i s s' h m l = cc

pub intent_moves : IntentMoves
intent_moves es x name s number token lane path r own found next b =
    let e : Entry = Entry.Intent number token lane path r in
    let y : World = changed_by (x.place + 1) (Entry.Intent number token lane path r) x in
    let s' : StackState = (effect_at (x.place + 1) (Entry.Intent number token lane path r) s).stack in
    let at : IsOnOne x y name s s' = on_one (Entry.Intent number token lane path r) x name s own refl found in
    let f : OneStack x.stacks y.stacks name s s' = at.one in
    let p : Pending = record { token = token; path = path; lane = lane; request = r } in
    let o : Open = record { stack = name; path = path; lane = lane; request = r } in
    let none_called = on_option (call_in es (x.token + 1)) (λ k. k) (λ c k. let l = b.numbers (x.token + 1) c k in absurd (omega arith)) in
    let none_here : find (has_token token) s.tokens ≡ None =
    map_none (open_as name) (find (has_token token) s.tokens) (open_none f token (ap (open_in x.stacks) next ∙ none_open es x b)).1 in
    let sent : Sends p s s' = sends (x.place + 1) number p s none_here in
    let new_on : (t : ℕ) → open_on name s' t ≡ option_map (open_as name) (option_or (find (has_token t) s.tokens) (cond (t == token) (Some p) None)) =
    λ t. cc (sent.tokens, find-append (has_token t) s.tokens (p ∷ [])) in
    let opens : (t : ℕ) → open_in y.stacks t ≡ cond (t == x.token + 1) (Some o) (open_in x.stacks t) = λ t. elim (number_or t (x.token + 1)) [
      | inl k ↦ open_new f t o (ap (open_in x.stacks) k ∙ none_open es x b) (cc (new_on t, none_here, at_same t token (Some p) None (k ∙ sym next)))
          ∙ sym (at_same t (x.token + 1) (Some o) (open_in x.stacks t) k)
      | inr k ↦ open_same f t (cc (new_on t, at_other t token (Some p) None (λ j. k (j ∙ next)), option_end (find (has_token t) s.tokens)))
          ∙ sym (at_other t (x.token + 1) (Some o) (open_in x.stacks t) k)
    ] in
    let calls : (t : ℕ) → call_in (es ++ e ∷ []) t ≡ cond (t == x.token + 1) (Some (called_of o)) (call_in es t) =
    λ t. grind (arith, number_or, call_more, map_none, none_called, at_other, option_end) in
    same_account _ _ (λ i. role_same f i (role_alike name i s s' sent.held sent.made sent.leftovers)) opens
    (λ t. lost_same f t (cc sent.abandoned))
    calls (λ t. told_same es e t refl) (λ n. resting_same f n (not_resting s s' (is_working number x name s found) sent.status))
    (λ n. ap (λ ls. lane_types ls n) at.lanes) next at.epoch
