-- How a run of calls of a disk goes on.
use Rattle.std.proofs.Common.{◌≡◌, inl, inr, ⊎_elim, ℕ, List, ◌∙◌, subst, arith}
use Rattle.cf_disk.specs.Disk.{Elapses, LeavesOnly, Follows, NoneNew, Only, Torn}
use Rattle.cf_disk.specs.Stays.{torn_not}
use Rattle.cf_journal.specs.Runs.{Unchanged}

module _ {D : Type 0} (moment : D → ℕ) (left_since : D → ℕ → List ℕ → Type 0) where
  -- before the first call
  pub started : (old : D) (P : List ℕ → Type 0) → ((c : List ℕ) → left_since old (moment old) c → P c) → LeavesOnly moment left_since old old P
  started old P here = record { later = omega arith; each = here; before = λ t c le left. inl left }

  -- one call more, after which a crash leaves what has P
  pub goes_on : (old mid new : D) (P may_leave : List ℕ → Type 0) → LeavesOnly moment left_since old mid P → Elapses (moment mid) (moment new) (left_since mid) (left_since new) may_leave
      → ((c : List ℕ) → may_leave c → P c) → LeavesOnly moment left_since old new P
  goes_on old mid new P may_leave so_far time here = record {
    later = omega (arith, so_far.later, time.later);
    each = λ c left. ⊎_elim (so_far.each c) (here c) (time.nothing_else (moment old) c so_far.later left);
    before = λ t c le left. ⊎_elim (so_far.before t c le) (λ now. inr (here c now)) (time.nothing_else t c (omega (arith, le, so_far.later)) left);
  }

  -- of what has P, more is known
  pub weaker : (old new : D) (P Q : List ℕ → Type 0) → LeavesOnly moment left_since old new P → ((c : List ℕ) → P c → Q c) → LeavesOnly moment left_since old new Q
  weaker old new P Q run here = record {
    later = run.later;
    each = λ c left. here c (run.each c left);
    before = λ t c le left. ⊎_elim (λ past. inl past) (λ p. inr (here c p)) (run.before t c le left);
  }

  module _ (seen : D → List ℕ) (may_leave : D → List ℕ → Type 0) (only_now : (d : D) (c : List ℕ) → left_since d (moment d) c → may_leave d c) where
    -- a torn write, from a file that is on the disk
    pub torn_run : (old new : D) (at n : ℕ) → Only (seen old) (may_leave old) → Follows (Torn at n) (may_leave old) (may_leave new)
        → Elapses (moment old) (moment new) (left_since old) (left_since new) (may_leave new) → LeavesOnly moment left_since old new (Torn at n (seen old))
    torn_run old new at n only follows time =
        let P : List ℕ → Type 0 = Torn at n (seen old) in
        let at_start : (c : List ℕ) → left_since old (moment old) c → P c = λ c left. subst (λ f. Torn at n f c) (only c (only_now old c left)) (torn_not at n c) in
        let torn : (c : List ℕ) → may_leave new c → P c = λ c now. let from = follows c now in subst (λ f. Torn at n f c) (only from.0 from.1) from.2 in
        goes_on old old new P (may_leave new) (started old P at_start) time torn

    -- and then a call that leaves no more
    pub kept_run : (old mid new : D) (at n : ℕ) → Only (seen old) (may_leave old) → Follows (Torn at n) (may_leave old) (may_leave mid) → NoneNew (may_leave mid) (may_leave new)
        → Elapses (moment old) (moment mid) (left_since old) (left_since mid) (may_leave mid) → Elapses (moment mid) (moment new) (left_since mid) (left_since new) (may_leave new)
        → LeavesOnly moment left_since old new (Torn at n (seen old))
    kept_run old mid new at n only follows fewer first second =
        let P : List ℕ → Type 0 = Torn at n (seen old) in
        let kept : (c : List ℕ) → may_leave new c → P c = λ c now. let from = follows c (fewer c now) in subst (λ f. Torn at n f c) (only from.0 from.1) from.2 in
        goes_on old mid new P (may_leave new) (torn_run old mid at n only follows first) second kept

    -- calls that change nothing, and one more
    pub still_unchanged : (old mid new : D) → Unchanged seen may_leave moment left_since old mid → seen new ≡ seen mid → NoneNew (may_leave mid) (may_leave new)
        → Elapses (moment mid) (moment new) (left_since mid) (left_since new) (may_leave new) → Unchanged seen may_leave moment left_since old new
    still_unchanged old mid new so_far same fewer time = record {
      same = same ∙ so_far.same;
      fewer = λ c now. so_far.fewer c (fewer c now);
      moments = goes_on old mid new (may_leave old) (may_leave new) so_far.moments time (λ c now. so_far.fewer c (fewer c now));
    }
