-- What the calls of a disk do to its file, and what a crash may do between two syncs (this project's own model of a disk).
use Rattle.std.specs.Prelude.{◌≡◌, ◌⊎◌, ℕ, ◌+◌, ◌-◌, ◌^◌, ◌≤◌, min, max, Bool, List, ◌++◌, length, take, drop, Option, IfSome, Result, is_ok, OnErr}
use Rattle.cf_tree.specs.Counts.{HasRisen}

-- old with these bytes at this offset
abbrev pub overwritten : List ℕ → ℕ → List ℕ → List ℕ
overwritten old at bytes = take at old ++ bytes ++ drop (at + length bytes) old

-- after a write of n bytes that a crash cuts short: any bytes in the range and past the old end, the same elsewhere
pub record Torn (at n : ℕ) (old new : List ℕ) : Type 0 where
  pub before : take at new ≡ take at old
  pub after : drop (at + n) new ≡ drop (at + n) old
  pub no_shorter : length old ≤ length new
  pub no_longer : length new ≤ max (length old) (at + n)

-- after a cut to n: any length between, the same bytes
pub record Shortened (n : ℕ) (old new : List ℕ) : Type 0 where
  pub no_shorter : min n (length old) ≤ length new
  pub front : take (length new) old ≡ new

-- each new outcome of a crash is an old outcome after a step
abbrev pub Follows : (List ℕ → List ℕ → Type 0) → (List ℕ → Type 0) → (List ℕ → Type 0) → Type 0
Follows step old new = (c : List ℕ) → new c → (d : List ℕ) × old d × step d c

-- no new outcome of a crash
abbrev pub NoneNew : (List ℕ → Type 0) → (List ℕ → Type 0) → Type 0
NoneNew old new = (c : List ℕ) → new c → old c

-- each old outcome of a crash is still one
abbrev pub NoneLost : (List ℕ → Type 0) → (List ℕ → Type 0) → Type 0
NoneLost old new = (c : List ℕ) → old c → new c

-- After a call that may be left half done: each old outcome of a crash is still one, and so is each file that the step makes of one,
-- if the call reached the file.
pub record LeavesHalfDone (step : List ℕ → List ℕ → Type 0) (reached : Type 0) (old new : List ℕ → Type 0) : Type 0 where
  pub kept : NoneLost old new
  pub half_done : reached → (c d : List ℕ) → old d → step d c → new c

-- where it is known before whether a call succeeds, it does just so
abbrev pub IsAsKnown : {T E : Type 0} → Option Bool → Result T E → Type 0
IsAsKnown known result = IfSome known (λ passes. is_ok result ≡ passes)

-- a crash leaves this and nothing else
abbrev pub Only : List ℕ → (List ℕ → Type 0) → Type 0
Only file outcomes = (c : List ℕ) → outcomes c → c ≡ file

-- Time goes on: a crash since t might have left what it might have left before, or what it may leave now.
pub record Elapses (before now : ℕ) (past since : ℕ → List ℕ → Type 0) (may_leave : List ℕ → Type 0) : Type 0 where
  pub later : before ≤ now
  pub nothing_else : (t : ℕ) (c : List ℕ) → t ≤ before → since t c → past t c ⊎ may_leave c
  pub keeps : (t : ℕ) (c : List ℕ) → t ≤ before → past t c → since t c

-- A crash at any moment since old leaves a file that has P.
pub record LeavesOnly {D : Type 0} (moment : D → ℕ) (left_since : D → ℕ → List ℕ → Type 0) (old new : D) (P : List ℕ → Type 0) : Type 0
  where
    pub later : moment old ≤ moment new
    pub each : (c : List ℕ) → left_since new (moment old) c → P c
    -- for a run that began earlier
    pub before : (t : ℕ) (c : List ℕ) → t ≤ moment old → left_since new t c → left_since old t c ⊎ P c

-- the count never falls, and rises where the call fails
pub record HasCause {T E : Type 0} (before now : ℕ) (result : Result T E) : Type 0 where
  pub later : before ≤ now
  pub risen : OnErr result (HasRisen before now)
