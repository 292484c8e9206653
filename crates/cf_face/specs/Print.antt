-- How a text is printed, and what the answer is (this project's own).
use Rattle.std.specs.Prelude.{◌≡◌, ℕ, List, take, Option, ◌⊎◌}
use Rattle.std.specs.Io.KnownBytes.{Appends}
use Rattle.cf_tree.specs.Counts.{HasRisen}
use Rattle.cf_face.specs.declared.exit.Exit.{Exit}
use Rattle.cf_face.specs.declared.exit.Exit.TheVariants as exit

-- a text was printed and the exit is answered; or a prefix of it was printed, and the sink failed or there was no memory
abbrev pub PrintTells : Option (List ℕ) → Option (List ℕ) → ℕ → ℕ → List ℕ → Exit → Exit → Type 0
PrintTells held held' faults faults' text e result =
    ((result ≡ e) × Appends held held' text)
    ⊎ (((result ≡ exit.SinkFault) × HasRisen faults faults' × ((n : ℕ) × Appends held held' (take n text)))
    ⊎ ((result ≡ exit.NoMemory) × ((n : ℕ) × Appends held held' (take n text))))
