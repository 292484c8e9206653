-- What a disk in memory gives, and just what it may leave, after its calls, the newest first (this project's own). The log has the
-- bytes of the writes that were done, so those of the newest one stand at its end.
use Rattle.std.specs.Prelude.{◌≡◌, ◌⊎◌, ℕ, ◌-◌, ◌≤◌, Bool, true, false, nat_le, ◌&&◌, List, [], ◌∷◌, length, take, drop}
use Rattle.std.proofs.Common.{inl, inr, arith}
use Rattle.cf_disk.specs.Disk.{overwritten, Torn, Shortened}
use Rattle.cf_disk.specs.declared.step.Step.{Step}
use Rattle.cf_disk.specs.declared.step.Step.TheVariants.{Look, Write, Cut, Sync}

-- the log before this call
abbrev pub log_before : Step → List ℕ → List ℕ
log_before Look log = log
log_before (Write at n true) log = take (length log - n) log
log_before (Write at n false) log = log
log_before (Cut n done) log = log
log_before Sync log = log

-- what a read gives
abbrev pub seen_after : List ℕ → List Step → List ℕ → List ℕ
seen_after first [] log = first
seen_after first (Look ∷ calls) log = seen_after first calls log
seen_after first (Write at n true ∷ calls) log =
    overwritten (seen_after first calls (take (length log - n) log)) at (drop (length log - n) log)
seen_after first (Write at n false ∷ calls) log = seen_after first calls log
seen_after first (Cut n true ∷ calls) log = take n (seen_after first calls log)
seen_after first (Cut n false ∷ calls) log = seen_after first calls log
seen_after first (Sync ∷ calls) log = seen_after first calls log

-- What a crash may leave: what writes and cuts since the last sync make of the file that was synced, each of them torn. One that
-- failed counts too.
abbrev pub left_after : List ℕ → List Step → List ℕ → List ℕ → Type 0
left_after first [] log c = c ≡ first
left_after first (Look ∷ calls) log c = left_after first calls log c
left_after first (Write at n done ∷ calls) log c =
    (d : List ℕ) × left_after first calls (log_before (Write at n done) log) d × Torn at n d c
left_after first (Cut n done ∷ calls) log c = (d : List ℕ) × left_after first calls log d × Shortened n d c
left_after first (Sync ∷ calls) log c = c ≡ seen_after first calls log

-- what a crash may have left after at least t of the calls
abbrev pub left_after_since : List ℕ → List Step → List ℕ → ℕ → List ℕ → Type 0
left_after_since first [] log t c = left_after first [] log c
left_after_since first (call ∷ calls) log t c =
    left_after first (call ∷ calls) log c ⊎ ((t ≤ length calls) × left_after_since first calls (log_before call log) t c)

-- the calls can have been made: each write began within the file, and the log has its bytes
abbrev pub is_possible : List ℕ → List Step → List ℕ → Bool
is_possible first [] log = true
is_possible first (Look ∷ calls) log = is_possible first calls log
is_possible first (Write at n true ∷ calls) log =
    nat_le n (length log) && (nat_le at (length (seen_after first calls (take (length log - n) log)))
    && is_possible first calls (take (length log - n) log))
is_possible first (Write at n false ∷ calls) log = is_possible first calls log
is_possible first (Cut n done ∷ calls) log = is_possible first calls log
is_possible first (Sync ∷ calls) log = is_possible first calls log

pub now_counts : (first : List ℕ) (calls : List Step) (log : List ℕ) (t : ℕ) (c : List ℕ) → left_after first calls log c
    → left_after_since first calls log t c
now_counts first [] log t c now = now
now_counts first (call ∷ calls) log t c now = inl now

pub now_only : (first : List ℕ) (calls : List Step) (log : List ℕ) (c : List ℕ) → left_after_since first calls log (length calls) c
    → left_after first calls log c
now_only first [] log c left = left
now_only first (call ∷ calls) log c (inl now) = now
now_only first (call ∷ calls) log c (inr past) = let late = past.0 in absurd (omega arith)
