-- What a read gives is among what a crash may leave (this project's own).
use Rattle.std.proofs.Common.{◌≡◌, ℕ, ◌+◌, ◌-◌, ◌≤◌, true, false, List, [], ◌∷◌, ◌++◌, length, take, drop, refl, sym, ◌∙◌, ap, subst, arith, append_assoc, length-append, length-drop, length-take}
use Rattle.std.proofs.lemmas.Bool.Decides.{nat_tests}
use Rattle.std.proofs.lemmas.List.{take_at, drop_at, take_min, length-take-le}
use Rattle.std.proofs.Math.Seq.{take-length}
use Rattle.cf_disk.specs.Disk.{overwritten, Torn, Shortened}
use Rattle.cf_disk.specs.Calls.{seen_after, left_after, is_possible}
use Rattle.cf_disk.specs.declared.step.Step.{Step}
use Rattle.cf_disk.specs.declared.step.Step.TheVariants.{Look, Write, Cut, Sync}

-- a write that was done is among what a torn one may leave
pub torn_written : (old : List ℕ) (at : ℕ) (bytes : List ℕ) → at ≤ length old → Torn at (length bytes) old (overwritten old at bytes)
torn_written old at bytes low =
    let front : length (take at old) ≡ at = length-take-le at old low in
    let rest = drop (at + length bytes) old in
    let size : length (take at old ++ bytes ++ rest) ≡ at + length bytes + length rest =
    omega (arith, front, length-append (take at old ++ bytes) rest, length-append (take at old) bytes) in
    let tail : length rest ≡ length old - (at + length bytes) = length-drop (at + length bytes) old in
    record {
      before = ap (λ (l : List ℕ). take at l) (append_assoc (take at old) bytes rest) ∙ take_at (take at old) (bytes ++ rest) at front;
      after = drop_at (take at old ++ bytes) rest (at + length bytes) (omega (arith, front, length-append (take at old) bytes));
      no_shorter = omega arith;
      no_longer = omega arith;
    }

-- and so is one that was not done at all
pub torn_not : (at n : ℕ) (old : List ℕ) → Torn at n old old
torn_not at n old = record { before = refl; after = refl; no_shorter = omega arith; no_longer = omega arith }

cut_done : (n : ℕ) (old : List ℕ) → Shortened n old (take n old)
cut_done n old =
    record { no_shorter = omega (arith, length-take n old); front = ap (λ (k : ℕ). take k old) (length-take n old) ∙ take_min n old }

pub cut_not : (n : ℕ) (old : List ℕ) → Shortened n old old
cut_not n old = record { no_shorter = omega arith; front = take-length old }

pub seen_left : (first : List ℕ) (calls : List Step) (log : List ℕ) → is_possible first calls log ≡ true
    → left_after first calls log (seen_after first calls log)
seen_left first [] log possible = refl
seen_left first (Look ∷ calls) log possible = seen_left first calls log possible
seen_left first (Write at n true ∷ calls) log possible =
    let before = take (length log - n) log in
    let bytes = drop (length log - n) log in
    let n-is : length bytes ≡ n = grind (arith, nat_tests, length-drop (length log - n) log) in
    let low : at ≤ length (seen_after first calls before) = grind (arith, nat_tests) in (
      seen_after first calls before,
      seen_left first calls before (grind (arith, nat_tests)),
      subst
          (λ (k : ℕ). Torn at k (seen_after first calls before) (overwritten (seen_after first calls before) at bytes)) n-is
          (torn_written (seen_after first calls before) at bytes low),
    )
seen_left first (Write at n false ∷ calls) log possible =
    (seen_after first calls log, seen_left first calls log possible, torn_not at n (seen_after first calls log))
seen_left first (Cut n true ∷ calls) log possible =
    (seen_after first calls log, seen_left first calls log possible, cut_done n (seen_after first calls log))
seen_left first (Cut n false ∷ calls) log possible =
    (seen_after first calls log, seen_left first calls log possible, cut_not n (seen_after first calls log))
seen_left first (Sync ∷ calls) log possible = refl

pub memory_stays : (first : List ℕ) (calls : List Step) (log bytes : List ℕ) → bytes ≡ seen_after first calls log
    → is_possible first calls log ≡ true → left_after first calls log bytes
memory_stays first calls log bytes current possible =
    subst (λ (c : List ℕ). left_after first calls log c) (sym current) (seen_left first calls log possible)
