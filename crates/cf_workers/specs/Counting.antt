-- How many calls a run makes (this project's own: an open call is made at most three times in a phase of an opening).
use Rattle.std.proofs.Common.{inl, inr}
use Rattle.std.specs.Prelude.{◌≡◌, ℕ, ◌*◌, ◌≤◌, ◌==◌, Bool, List, [], ◌∷◌, ◌++◌, filter, length}
use Rattle.std.specs.Str.{bytes_eq}
use Rattle.cf_tree.specs.Lists.{In}
use Rattle.cf_disk.specs.declared.disk.Disk.{Ghosts}
use Rattle.cf_schema.specs.declared.described.Schema.{Schema}
use Rattle.cf_plan.specs.Life.{Life}
use Rattle.cf_core.specs.Theorem.{HoldsAlways}
use Rattle.cf_book.specs.Lives.{DescribeLanes, StandsFor}
use Rattle.cf_book.specs.State.{BookNow}
use Rattle.cf_workers.specs.Driving.{CallAt, DrivesTo, call_at, calls_of}
use Rattle.cf_workers.specs.declared.drive.Drove.{Drove}
use Rattle.cf_workers.specs.declared.drive.Drove.TheVariants.{Over, Stopped}

-- All calls of a run: those of its course and, where the book stops after one, that one too.
abbrev pub calls_in : {D : Type 0} (g : Ghosts D) (number : ℕ) (old new : BookNow D) (drove : Drove) → DrivesTo g number old new drove
    → List CallAt
calls_in g number old new (Over status) (course, rest, ended, how) = calls_of course
calls_in g number old new (Stopped fault) (last, course, (stopped, out, disk, inl before), keeps, grows) = calls_of course
calls_in g number old new (Stopped fault) (last, course, (stopped, out, disk, inr (made, intends, same, lanes, lacking)), keeps, grows) =
    calls_of course ++ call_at made ∷ []

-- the call is of this path; it goes out under this token
abbrev pub is_of_path : List ℕ → CallAt → Bool
is_of_path path c = bytes_eq path c.path

abbrev pub is_under : ℕ → CallAt → Bool
is_under token c = c.told.token == token

-- These calls of one operation are few.
pub record AreFew (calls : List CallAt) : Type 0 where
  -- those of a path go out under at most six tokens: five of the operation, and one that was open as it began
  pub six : (path : List ℕ) → (tokens : List ℕ) × (length tokens ≤ 6) × ((c : CallAt) → In c calls → c.path ≡ path → In c.told.token tokens)
  -- under one token at most nine go out: three in each of at most three phases
  pub nine : (token : ℕ) → length (filter (is_under token) calls) ≤ 9
  -- so at most 54 are of one path
  pub few : (path : List ℕ) → length (filter (is_of_path path) calls) ≤ 54
  -- and all together they are at most 54 times as many as any paths that have theirs
  pub in_all : (paths : List (List ℕ)) → ((c : CallAt) → In c calls → In c.path paths) → length calls ≤ 54 * length paths

-- It is so in every life that the book stands for, in which what always holds holds.
abbrev pub AreFewIn : {D : Type 0} → BookNow D → List CallAt → Type 0
AreFewIn old calls =
    (schemas : List Schema) (life : Life) → DescribeLanes schemas old.lanes → StandsFor old life → HoldsAlways schemas life → AreFew calls
