-- What is left over of two stacks has no known id in common.
use Rattle.std.proofs.Common.{arith, ◌≡◌, ◌≢◌, ℕ, List, ◌&&◌, not, Option, true, Some, None, sym, ap, ◌∙◌, true≢false, refl}
use Rattle.cf_core.proofs.Words.{AreOwn, Held, In, IsWritten, LeavesApart, LeavesApartStays, Leftover, StackState, Stranger, World, bytes_eq, has_known_id, has_leftover, held_in, known_stack, list_any, no_stack, role_on, stack_at, unknown_id, world_after}
use Rattle.cf_core.proofs.Lemmas.{any_of}
use Rattle.cf_agree.proofs.Words.{same_bytes}
use Rattle.cf_core.proofs.MoreStacks.{FromLeft, was, of_held, unknown, from_left, left_move}
use Rattle.cf_core.proofs.{KeepSound.stands_in, Moving.written_is_to, Stacks.blank_role, Stacks.held_role}
use Rattle.std.specs.Option.{unwrap_or}

module _ (x : World) (own : AreOwn x.stacks) where
  -- what one stack holds is nothing to another one
  held_apart : (n m : List ℕ) → n ≢ m → (i : List ℕ) (h : Held) → held_in i (known_stack n x) ≡ Some h → role_on m (known_stack m x) i ≡ Stranger
  held_apart n m d i h = by (stack_at n x) (stack_at m x) refl refl where
    by : (o p : Option StackState) → stack_at n x ≡ o → stack_at m x ≡ p → held_in i (unwrap_or o no_stack) ≡ Some h → role_on m (unwrap_or p no_stack) i ≡ Stranger
    by None p e f k = let no : ⊥ = cc in absurd no
    by (Some s) None e f k = blank_role m i
    by (Some s) (Some t) e f k = own.held (n, s) (m, t) i h (stands_in n s x.stacks e) (stands_in m t x.stacks f) d k

  clash : (n m : List ℕ) → n ≢ m → (i : List ℕ) (h : Held) (l : Leftover) → held_in i (known_stack n x) ≡ Some h → In l (known_stack m x).leftovers
      → l.physical ≡ i → has_known_id l ≡ true → ⊥
  clash n m d i h l held at same known =
      let ls = (known_stack m x).leftovers in
      let there = any_of (λ (z : Leftover). bytes_eq i z.physical) ls l at (same_bytes i l.physical (sym same)) in
      let is : has_leftover i ls ≡ true = ap (λ b. b && list_any (λ (z : Leftover). bytes_eq i z.physical) ls) (ap (λ j. not (bytes_eq j unknown_id)) (sym same) ∙ known) ∙ there in
      true≢false (sym is ∙ (grind (arith, held_apart n m d i h held)))

  no_two : LeavesApart x → (n m : List ℕ) → n ≢ m → (l k : Leftover) → FromLeft (known_stack n x) l → FromLeft (known_stack m x) k → has_known_id l ≡ true
      → l.physical ≡ k.physical → ⊥
  no_two h n m d l k (was i) (was j) known same = h n m d l k i j known same
  no_two h n m d l k (unknown e) from known same = true≢false (sym known ∙ ap not (same_bytes l.physical unknown_id e))
  no_two h n m d l k from (unknown e) known same = true≢false (sym known ∙ ap not (same_bytes l.physical unknown_id (same ∙ e)))
  no_two h n m d l k (was i) (of_held g held) known same = clash m n (λ e. d (sym e)) k.physical g l held i same known
  no_two h n m d l k (of_held g held) (was j) known same = grind (arith, clash)
  no_two h n m d l k (of_held g held) (of_held f held_too) known same =
      held_role m (known_stack m x) l.physical f (ap (λ z. held_in z (known_stack m x)) same ∙ held_too) (held_apart n m d l.physical g held)

pub leaves_apart_stays : LeavesApartStays
leaves_apart_stays schemas x out e written own h n m d = by (stack_at n y) (stack_at m y) refl refl where
  y : World
  y = world_after x e

  by : (o p : Option StackState) → stack_at n y ≡ o → stack_at m y ≡ p → (l k : Leftover) → In l (unwrap_or o no_stack).leftovers → In k (unwrap_or p no_stack).leftovers
      → has_known_id l ≡ true → l.physical ≡ k.physical → ⊥
  by None p f g l k i j = elim i [ ]
  by (Some s) None f g l k i j = elim j [ ]
  by (Some s) (Some t) f g l k i j =
      no_two x own h n m d l k (from (written n s f) l i) (from (written m t g) k j)
    where
      from : {name : List ℕ} {u : StackState} → IsWritten schemas x out e name (known_stack name x) u → (q : Leftover) → In q u.leftovers → FromLeft (known_stack name x) q
      from {name} {u} w q r = from_left (known_stack name x) u.leftovers u.abandoned (left_move (known_stack name x) (written_is_to schemas x out e name (known_stack name x) u w)) q r
