-- One stack changes, under its name, or is a new one; and what no two stacks share, and no two resources or calls of one stack
-- (this project's own).
use Rattle.std.specs.Prelude.{◌≡◌, ◌≢◌, ◌⊎◌, ℕ, ◌==◌, true, false, List, ◌∷◌, ◌++◌, Some, None, find, map}
use Rattle.std.specs.Option.{unwrap_or}
use Rattle.std.specs.Str.{bytes_eq}
use Rattle.cf_tree.specs.Keys.{ascends, put, value_at}
use Rattle.cf_tree.specs.Named.{all_differ}
use Rattle.cf_effect.specs.declared.held.Held.{Held}
use Rattle.cf_effect.specs.declared.held.Pending.{Pending}
use Rattle.cf_effect.specs.World.{StackState, no_stack}
use Rattle.cf_effect.specs.Words.{has_token, resources_of}
use Rattle.cf_tree.specs.Lists.{In}
use Rattle.cf_agree.specs.Account.Role.{Stranger}
use Rattle.cf_core.specs.AccountOf.{StacksByName, held_in, has_leftover, role_in, role_on, open_in}

-- the stack of this name stands between these, or none does, and nothing is known of it
pub data Stood (ss front back : StacksByName) (name : List ℕ) (s : StackState) : Type 0 where
  there : ss ≡ front ++ (name, s) ∷ back → Stood ss front back name s
  new : ss ≡ front ++ back → s ≡ no_stack → Stood ss front back name s

-- the stack of this name, s, becomes s'
pub record OneStack (ss ss' : StacksByName) (name : List ℕ) (s s' : StackState) : Type 0 where
  pub front : StacksByName
  pub back : StacksByName
  pub was : Stood ss front back name s
  pub now : ss' ≡ front ++ (name, s') ∷ back
  pub before : value_at name front ≡ None
  pub behind : value_at name back ≡ None

-- what one stack holds is left over nowhere, and is nothing to the others; a token that is open on it is open on no other
pub record AreUnshared (front back : StacksByName) (s : StackState) : Type 0 where
  pub left : (i : List ℕ) (h : Held) → held_in i s ≡ Some h → has_leftover i s.leftovers ≡ false
  pub roles : (i : List ℕ) (h : Held) → held_in i s ≡ Some h → (role_in front i ≡ Stranger) × (role_in back i ≡ Stranger)
  pub tokens : (t : ℕ) (p : Pending) → find (has_token t) s.tokens ≡ Some p → (open_in front t ≡ None) × (open_in back t ≡ None)

-- no two resources of a stack have one id, none of them is left over, and no two of its open calls have one token
pub record IsOnce (s : StackState) : Type 0 where
  pub ids : all_differ bytes_eq (map (λ r. r.physical) (resources_of s)) ≡ true
  pub left : (i : List ℕ) (h : Held) → held_in i s ≡ Some h → has_leftover i s.leftovers ≡ false
  pub tokens : all_differ ◌==◌ (map (λ p. p.token) s.tokens) ≡ true

-- the stacks stand by name, and nothing is shared
pub record AreOwn (ss : StacksByName) : Type 0 where
  pub names : ascends ss ≡ true
  pub once : (p : List ℕ × StackState) → In p ss → IsOnce p.1
  pub held :
      (p q : List ℕ × StackState) (i : List ℕ) (h : Held) → In p ss → In q ss → p.0 ≢ q.0 → held_in i p.1 ≡ Some h
      → role_on q.0 q.1 i ≡ Stranger
  pub tokens :
      (p q : List ℕ × StackState) (t : ℕ) (v : Pending) → In p ss → In q ss → p.0 ≢ q.0 → find (has_token t) (p.1).tokens ≡ Some v
      → find (has_token t) (q.1).tokens ≡ None

-- A change of one stack that takes nothing of another: what it holds or has left over it had before, or no stack knew of it; and
-- so with its open calls.
pub record IsLocal (ss : StacksByName) (name : List ℕ) (s s' : StackState) : Type 0 where
  pub once : IsOnce s'
  pub held :
      (i : List ℕ) (h : Held) → held_in i s' ≡ Some h
      → ((g : Held) × (held_in i s ≡ Some g)) ⊎ ((q : List ℕ × StackState) → In q ss → role_on q.0 q.1 i ≡ Stranger)
  pub role :
      (i : List ℕ) → role_on name s i ≡ Stranger
      → (role_on name s' i ≡ Stranger) ⊎ ((q : List ℕ × StackState) → In q ss → role_on q.0 q.1 i ≡ Stranger)
  pub tokens :
      (t : ℕ) (v : Pending) → find (has_token t) s'.tokens ≡ Some v
      → ((u : Pending) × (find (has_token t) s.tokens ≡ Some u))
      ⊎ ((q : List ℕ × StackState) → In q ss → find (has_token t) (q.1).tokens ≡ None)

-- it leaves the stacks their own
abbrev pub OwnKept : Type 0
OwnKept =
    (ss ss' : StacksByName) (name : List ℕ) (s s' : StackState) → OneStack ss ss' name s s' → IsLocal ss name s s' → ascends ss' ≡ true
    → AreOwn ss → AreOwn ss'

-- a stack that is put under its name is the one that changes, or it is a new one
abbrev pub OneIsPut : Type 0
OneIsPut =
    (ss : StacksByName) (name : List ℕ) (s' : StackState) → ascends ss ≡ true
    → OneStack ss (put name s' ss) name (unwrap_or (value_at name ss) no_stack) s'
