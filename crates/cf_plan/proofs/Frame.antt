-- What an entry of an operation leaves of its stack, and of the world around it: the stack is put under its name as its
-- effect says, and each operation stays one of one stack.
use Rattle.std.proofs.Common.{◌≡◌, ℕ, ◌+◌, ◌<◌, ◌==◌, Bool, true, false, List, [], ◌∷◌, Option, Some, None, find, unwrap_or, refl, sym, ap, ◌∙◌, subst, cond, true≢false, arith}
use Rattle.std.specs.Cmp.{first_so}
use Rattle.std.specs.Cmp.Lexicographic.{slice_cmp, texts_ties}
use Rattle.std.specs.Option.{option_map_or}
use Rattle.std.specs.Ordering.{nat_cmp, match_ordering}
use Rattle.std.specs.Str.{bytes_eq}
use Rattle.std.specs.declared.cmp.Ordering.{Ordering}
use Rattle.std.specs.declared.cmp.Ordering.TheVariants.{Less, Equal, Greater}
use Rattle.std.proofs.lemmas.Slice.Eq.{bytes_eq-Decides}
use Rattle.cf_tree.specs.Keys.{put, value_at}
use Rattle.cf_tree.proofs.Lookups.{put_here, put_else}
use Rattle.cf_entry.specs.declared.entry.Entry.{Entry}
use Rattle.cf_entry.specs.declared.entry.Entry.TheVariants as entry
use Rattle.cf_effect.specs.World.{StackState, World, is_going, stack_at, stack_of_operation}
use Rattle.cf_effect.specs.Status.{is_in_progress}
use Rattle.cf_effect.specs.Effect.{Effect, leaving}
use Rattle.cf_effect.specs.Listed.{exports_after, pins_after}
use Rattle.cf_effect.specs.Fold.{effect_at, numbered, world_after}
use Rattle.cf_stacks.specs.Apart.{AreApart}
use Rattle.cf_stacks.proofs.Apart.{stay_apart}
use Rattle.cf_stacks.proofs.Worlds.{found_stands}
use Rattle.cf_plan.specs.Run.{IsOwn}

-- the operation of this number is in progress on the stack of this name, and on no other one
pub record IsOn (number : ℕ) (name : List ℕ) (x : World) (s : StackState) : Type 0 where
  pub apart : AreApart x
  pub numbered : 0 < number
  pub going : stack_of_operation number x ≡ Some (name, s)

-- what is found passes
pub found_passes : {A : Type 0} (test : A → Bool) (xs : List A) (a : A) → find test xs ≡ Some a → test a ≡ true
found_passes test [] a e = let no : ⊥ = cc in absurd no
found_passes test (x ∷ xs) a e = by (test x) refl (found_passes test xs a) e
  where
    by : (b : Bool) → test x ≡ b → (find test xs ≡ Some a → test a ≡ true) → cond b (Some x) (find test xs) ≡ Some a → test a ≡ true
    by true d ih f = let same : x ≡ a = ap (λ o. unwrap_or o x) f in ap test (sym same) ∙ d
    by false d ih f = ih f

module _ (test : StackState → Bool) (name : List ℕ) (v : StackState) (passes : test v ≡ true) where
  abbrev passing : List ℕ × StackState → Bool
  passing p = test p.1

  -- the one that is found, put in anew, is found again
  pub find_put : (ps : List (List ℕ × StackState)) (s : StackState) → find passing ps ≡ Some (name, s) → find passing (put name v ps) ≡ Some (name, v)
  find_put [] s e = let no : ⊥ = cc in absurd no
  find_put (p ∷ ps) s e = by (slice_cmp nat_cmp name p.0) refl (find_put ps s)
    where
      at : (o : Ordering) → slice_cmp nat_cmp name p.0 ≡ o → o ≡ Equal → name ≡ p.0
      at o is_o equal = (bytes_eq-Decides name p.0).0 (texts_ties name p.0 ∙ rw (is_o ∙ equal) refl)

      by : (o : Ordering) → slice_cmp nat_cmp name p.0 ≡ o → (find passing ps ≡ Some (name, s) → find passing (put name v ps) ≡ Some (name, v))
          → find passing (match_ordering o ((name, v) ∷ p ∷ ps) ((p.0, v) ∷ ps) (p ∷ put name v ps)) ≡ Some (name, v)
      by Less is_o ih = ap (λ b. cond b (Some (name, v)) (find passing (p ∷ ps))) passes
      by Equal is_o ih =
          ap (λ b. cond b (Some (p.0, v)) (find passing ps)) passes ∙ ap (λ (k : List ℕ). Some (k, v)) (sym (at Equal is_o refl))
      by Greater is_o ih = by_test (test p.1) refl e
        where
          other : (p.0 ≡ name) → ⊥
          other same = let equal = texts_ties name p.0 in let is_same : bytes_eq name p.0 ≡ true = (bytes_eq-Decides name p.0).1 (sym same) in let never : bytes_eq name p.0 ≡ false = equal ∙ rw is_o refl in true≢false (sym is_same ∙ never)

          by_test : (b : Bool) → test p.1 ≡ b → cond b (Some p) (find passing ps) ≡ Some (name, s) → find passing (p ∷ put name v ps) ≡ Some (name, v)
          by_test true d f = absurd (other (ap (λ o. (unwrap_or o p).0) f))
          by_test false d f = ap (λ b. cond b (Some p) (find passing (put name v ps))) d ∙ ih f

-- the last token after an entry
abbrev pub token_after : Entry → ℕ → ℕ
token_after (entry.Intent number token lane path r) last = token
token_after e last = last

-- An entry leaves the world so: its stack and what it lists as the effect says, and all else as it was.
pub record IsFramed (name : List ℕ) (x : World) (e : Entry) (f : Effect) (y : World) : Type 0 where
  pub stacks : y.stacks ≡ put name f.stack x.stacks
  pub exports : y.exports ≡ exports_after name f.exports x.exports
  pub pins : y.pins ≡ pins_after name f.pins x.pins
  pub claims : y.claims ≡ pins_after name f.claims x.claims
  pub lanes : y.lanes ≡ x.lanes
  pub epoch : y.epoch ≡ x.epoch
  pub operation : y.operation ≡ x.operation
  pub token : y.token ≡ token_after e x.token

-- the world that is left where the entry is of this stack, or of none
abbrev pub left_on : Entry → World → Option (List ℕ × StackState) → World
left_on e x o = record (numbered e (option_map_or (λ (s : List ℕ × StackState). leaving s.0 (effect_at (x.place + 1) e s.1) x) o x)) { place = x.place + 1 }

framed : {name : List ℕ} {x : World} {e : Entry} {f : Effect} {y : World} → y.stacks ≡ put name f.stack x.stacks → y.exports ≡ exports_after name f.exports x.exports
    → y.pins ≡ pins_after name f.pins x.pins → y.claims ≡ pins_after name f.claims x.claims → y.lanes ≡ x.lanes → y.epoch ≡ x.epoch → y.operation ≡ x.operation
    → y.token ≡ token_after e x.token → IsFramed name x e f y
framed a b c d l g o t = record { stacks = a; exports = b; pins = c; claims = d; lanes = l; epoch = g; operation = o; token = t }

-- so does each entry of the operation
pub own_framed : (number : ℕ) (name : List ℕ) (x : World) (s : StackState) → stack_of_operation number x ≡ Some (name, s) → (e : Entry) → IsOwn number e
    → IsFramed name x e (effect_at (x.place + 1) e s) (world_after x e)
own_framed number name x s going = by
  where
    there : (n : ℕ) → n ≡ number → Some (name, s) ≡ stack_of_operation n x
    there n own = sym (ap (λ m. stack_of_operation m x) own ∙ going)

    by : (e : Entry) → IsOwn number e → IsFramed name x e (effect_at (x.place + 1) e s) (world_after x e)
    by (entry.Kept n path physical w) own = subst (λ o. IsFramed name x (entry.Kept n path physical w) (effect_at (x.place + 1) (entry.Kept n path physical w) s) (left_on (entry.Kept n path physical w) x o)) (there n own) (framed refl refl refl refl refl refl refl refl)
    by (entry.Intent n token lane path r) own = subst (λ o. IsFramed name x (entry.Intent n token lane path r) (effect_at (x.place + 1) (entry.Intent n token lane path r) s) (left_on (entry.Intent n token lane path r) x o)) (there n own) (framed refl refl refl refl refl refl refl refl)
    by (entry.Outcome n token a before after) own = subst (λ o. IsFramed name x (entry.Outcome n token a before after) (effect_at (x.place + 1) (entry.Outcome n token a before after) s) (left_on (entry.Outcome n token a before after) x o)) (there n own) (framed refl refl refl refl refl refl refl refl)
    by (entry.Phase n p c) own = subst (λ o. IsFramed name x (entry.Phase n p c) (effect_at (x.place + 1) (entry.Phase n p c) s) (left_on (entry.Phase n p c) x o)) (there n own) (framed refl refl refl refl refl refl refl refl)
    by (entry.Done n state failed) own = subst (λ o. IsFramed name x (entry.Done n state failed) (effect_at (x.place + 1) (entry.Done n state failed) s) (left_on (entry.Done n state failed) x o)) (there n own) (framed refl refl refl refl refl refl refl refl)
    by (entry.Opened epoch lanes) own = absurd own
    by (entry.Begin n stack k) own = absurd own
    by (entry.ChangeSet n stack from rows outputs) own = absurd own

-- each operation stays one of one stack
pub own_apart : (number : ℕ) (x : World) → AreApart x → (e : Entry) → IsOwn number e → AreApart (world_after x e)
own_apart number x h (entry.Kept n path physical w) own = stay_apart x (entry.Kept n path physical w) h tt
own_apart number x h (entry.Intent n token lane path r) own = stay_apart x (entry.Intent n token lane path r) h tt
own_apart number x h (entry.Outcome n token a before after) own = stay_apart x (entry.Outcome n token a before after) h tt
own_apart number x h (entry.Phase n p c) own = stay_apart x (entry.Phase n p c) h tt
own_apart number x h (entry.Done n state failed) own = stay_apart x (entry.Done n state failed) h tt
own_apart number x h (entry.Opened epoch lanes) own = absurd own
own_apart number x h (entry.Begin n stack k) own = absurd own
own_apart number x h (entry.ChangeSet n stack from rows outputs) own = absurd own

same_number : (a b : ℕ) → (a == b) ≡ true → a ≡ b
same_number a b e = Prim.grind (arith)

module _ (number : ℕ) (name : List ℕ) (x : World) (s : StackState) (h : IsOn number name x s) where
  -- the stack stands under its name, with this operation
  pub here_of : stack_at name x ≡ Some s
  here_of = found_stands (λ (p : List ℕ × StackState). is_going number p.1) x.stacks (name, s) h.apart.names h.going

  pub is_on : is_going number s ≡ true
  is_on = found_passes (λ (p : List ℕ × StackState). is_going number p.1) x.stacks (name, s) h.going

  pub number_is : s.operation ≡ number
  number_is = same_number s.operation number (first_so (s.operation == number) (is_in_progress s.status) is_on)

  module _ (e : Entry) (own : IsOwn number e) where
    abbrev pub left : Effect
    left = effect_at (x.place + 1) e s

    pub frame_of : IsFramed name x e left (world_after x e)
    frame_of = own_framed number name x s h.going e own

    -- the stack stands under its name as it is left, and every other one as it was
    pub here_after : stack_at name (world_after x e) ≡ Some left.stack
    here_after = ap (value_at name) frame_of.stacks ∙ put_here name left.stack x.stacks

    pub other_after : (other : List ℕ) → bytes_eq other name ≡ false → stack_at other (world_after x e) ≡ stack_at other x
    other_after other n = ap (value_at other) frame_of.stacks ∙ put_else other name left.stack x.stacks n

    -- the operation goes on
    pub on_after : is_going number left.stack ≡ true → IsOn number name (world_after x e) left.stack
    on_after goes = record {
      apart = own_apart number x h.apart e own;
      numbered = h.numbered;
      going = ap (find (λ (p : List ℕ × StackState). is_going number p.1)) frame_of.stacks ∙ find_put (is_going number) name left.stack goes x.stacks s h.going;
    }

    -- or it has ended, on every stack
    pub none_after : is_going number left.stack ≡ false → stack_of_operation number (world_after x e) ≡ None
    none_after ends = by (stack_of_operation number (world_after x e)) refl
      where
        y : World
        y = world_after x e

        apart : AreApart y
        apart = own_apart number x h.apart e own

        never : (p : List ℕ × StackState) → stack_of_operation number y ≡ Some p → ⊥
        never p found = at (bytes_eq p.0 name) refl
          where
            stands : stack_at p.0 y ≡ Some p.1
            stands = found_stands (λ (q : List ℕ × StackState). is_going number q.1) y.stacks p apart.names found

            goes : is_going number p.1 ≡ true
            goes = found_passes (λ (q : List ℕ × StackState). is_going number q.1) y.stacks p found

            at : (b : Bool) → bytes_eq p.0 name ≡ b → ⊥
            at true same =
                let so : stack_at p.0 y ≡ Some left.stack = ap (λ (k : List ℕ). stack_at k y) ((bytes_eq-Decides p.0 name).0 same) ∙ here_after in
                let is_it : Some p.1 ≡ Some left.stack = sym stands ∙ so in
                let is_stack : p.1 ≡ left.stack = ap (λ o. unwrap_or o p.1) is_it in
                true≢false (sym goes ∙ (ap (is_going number) is_stack ∙ ends))
            at false other =
                let before : stack_at p.0 x ≡ Some p.1 = sym (other_after p.0 other) ∙ stands in
                let of_it : p.1.operation ≡ number = same_number p.1.operation number (first_so (p.1.operation == number) (is_in_progress p.1.status) goes) in
                let above : 0 < p.1.operation = subst (λ n. 0 < n) (sym of_it) h.numbered in
                let same : p.0 ≡ name = h.apart.apart p.0 name p.1 s before here_of (of_it ∙ sym number_is) above in
                true≢false (sym ((bytes_eq-Decides p.0 name).1 same) ∙ other)

        by : (o : Option (List ℕ × StackState)) → stack_of_operation number y ≡ o → o ≡ None
        by None e = refl
        by (Some p) e = absurd (never p e)
