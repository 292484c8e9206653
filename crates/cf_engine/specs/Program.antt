-- What the program's run over its words comes to (the answers are this project's own).
use Rattle.std.specs.Prelude.{◌≡◌, ◌⊎◌, ◌++◌, true, false, IsTrue, List, ℕ, [], ◌∷◌, Some, None, codes, map, Result, Ok, Err}
use Rattle.cf_schema.specs.declared.described.Schema.{Schema}
use Rattle.cf_disk.specs.Disk.{Only}
use Rattle.cf_disk.specs.declared.disk.Disk.{Ghosts as DiskGhosts}
use Rattle.cf_file.specs.Disk.{file_of}
use Rattle.cf_file.specs.Real.{path_of_file}
use Rattle.cf_file.specs.declared.file_disk.FileDisk.{FileDisk}
use Rattle.cf_file.specs.declared.real_file.RealFile.{RealFile}
use Rattle.cf_handler.specs.Fence.{FencedLane}
use Rattle.cf_handler.specs.Shipped.{file_schema, record_schema}
use Rattle.cf_handler.specs.declared.handler.Handler.{Ghosts as HandlerGhosts}
use Rattle.cf_lane.specs.Lanes.{LaneNow}
use Rattle.cf_plan.specs.Lanes.{Lane}
use Rattle.cf_tokens.specs.Under.{under}
use Rattle.cf_shipped.specs.Shipped.{folder_of}
use Rattle.cf_shipped.specs.declared.shipped.Shipped.{Shipped}
use Rattle.cf_progress.specs.Watched.{within}
use Rattle.cf_progress.specs.declared.watched.Watched.{Watched}
use Rattle.std.specs.declared.io.traits.Read.{Ghosts as ReadGhosts}
use Rattle.cf_book.specs.Fences.{handed_in}
use Rattle.cf_face.specs.declared.exit.Exit.{Exit}
use Rattle.cf_face.specs.declared.exit.Exit.TheVariants as exit
use Rattle.cf_face.specs.Exit.{exit_line}
use Rattle.cf_face.specs.Words.{is_command_line, is_in_form}
use Rattle.cf_io.specs.declared.library.Library.{Ghosts as LibraryGhosts}
use Rattle.cf_workers.specs.Agreement.{Agree, KeepsAgreement, all_as_told}
use Rattle.cf_top.specs.Answer.{Prints, RanAs}
use Rattle.cf_top.specs.Refusals.{IsUnasked, LibraryUse, use_of}
use Rattle.cf_top.specs.Outside.{Printing}
use Rattle.cf_top.specs.declared.top.Ended.{Ended}

-- the folder that the words name first
abbrev pub home_named : List (List ℕ) → List ℕ
home_named [] = []
home_named (home ∷ words) = home

-- the folder of its templates
abbrev pub folder_named : List (List ℕ) → List ℕ
folder_named words = home_named words ++ codes "/templates"

-- its journal; a slash is 47
abbrev pub journal_named : List (List ℕ) → List ℕ
journal_named words = home_named words ++ 47 ∷ codes "journal"

-- what its lanes store in: two in its files, two in its records
abbrev pub stores_named : List (List ℕ) → List (List ℕ)
stores_named words =
    under (home_named words) (codes "files") ∷ under (home_named words) (codes "files") ∷ under (home_named words) (codes "records")
    ∷ under (home_named words) (codes "records") ∷ []

-- what a lane stores in
abbrev pub lane_store : {R S D : Type 0} {t : ReadGhosts D} → Watched R (Shipped S D t) → List ℕ
lane_store w = folder_of (within w)

-- where the file of a disk is
abbrev pub journal_path : {R : Type 0} → FileDisk (RealFile R) → List ℕ
journal_path d = path_of_file (file_of d)

-- nothing is live, settled or to act later, and no fence was raised
abbrev pub unused : FencedLane
unused = record { state = record { base = []; settled = [] }; flying = []; fence = 0 }

-- the program's lanes before anything is asked of them: two of files and two of records
abbrev pub new_lane : List ℕ → Schema → LaneNow
new_lane name schema = record { name = name; schema = schema; count = 0; told = Some unused; log = [] }

abbrev pub new_lanes : List LaneNow
new_lanes =
    new_lane (codes "files1") file_schema ∷ new_lane (codes "files2") file_schema ∷ new_lane (codes "records1") record_schema
    ∷ new_lane (codes "records2") record_schema ∷ []

-- the schemas of their types
abbrev pub program_schemas : List Schema
program_schemas = file_schema ∷ record_schema ∷ []

-- all the lanes that there are, as nothing was ever called on them
abbrev pub unused_lane : LaneNow → Lane
unused_lane l = record { name = l.name; kind = l.schema.kind; state = unused }

abbrev pub unused_lanes : List Lane
unused_lanes = map unused_lane new_lanes

-- a lane of which nothing was asked, and which tells nothing of what its folder holds
abbrev pub untold_lane : List ℕ → Schema → LaneNow
untold_lane name schema = record { name = name; schema = schema; count = 0; told = None; log = [] }

-- these handlers are the program's lanes, two of files and two of records, of which nothing was asked
abbrev pub AreNew : {H : Type 0} → HandlerGhosts H → List H → Type 0
AreNew h handlers =
    handed_in h handlers
    ≡ untold_lane (codes "files1") file_schema ∷ untold_lane (codes "files2") file_schema ∷ untold_lane (codes "records1") record_schema
    ∷ untold_lane (codes "records2") record_schema ∷ []

-- A run over a disk and lanes that were handed in. The words come to what the top call says. Disk and lanes agree after it where they
-- agreed before; and so they do where nothing stood on the disk, and the lanes were the program's and nothing was ever asked of them.
pub record IsRun {D H : Type 0} (g : DiskGhosts D) (h : HandlerGhosts H) (library : LibraryUse) (p : Printing) (disk : D)
    (handlers : List H) (words : List (List ℕ)) (ended : Ended D H) : Type 0 where
  pub ran : RanAs g h (record {
    library = library;
    disk = disk;
    disk' = ended.disk;
    handlers = handlers;
    handlers' = ended.lanes.items;
  })
      p words ended.exit
  pub agree : KeepsAgreement g h disk handlers ended.disk ended.lanes.items
  pub new_agree :
      IsTrue g.tells → Only [] (g.may_leave disk) → handed_in h handlers ≡ new_lanes
      → Agree g h program_schemas ended.disk ended.lanes.items (all_as_told (handed_in h ended.lanes.items) unused_lanes)

-- the words were run
abbrev pub RunsAs : {D H : Type 0} → DiskGhosts D → HandlerGhosts H → LibraryUse → Printing → D → List H → List (List ℕ)
    → Result (Ended D H) Exit → Type 0
RunsAs g h library p disk handlers words (Ok ended) = IsRun g h library p disk handlers words ended
RunsAs g h library p disk handlers words (Err e) = ⊥

-- words that are no command line: nothing was run
abbrev pub IsNoCommandLine : {D H : Type 0} → LibraryUse → Printing → Result (Ended D H) Exit → Type 0
IsNoCommandLine library p (Ok ended) = ⊥
IsNoCommandLine library p (Err e) = IsUnasked library × Prints p (exit_line exit.BadWords) exit.BadWords e

-- what a whole command line comes to
pub record LineTells {D H : Type 0} (g : DiskGhosts D) (h : HandlerGhosts H) (library : LibraryUse) (p : Printing) (disk : D)
    (handlers : List H) (words : List (List ℕ)) (result : Result (Ended D H) Exit) : Type 0 where
  pub bad_words : is_command_line words ≡ false → IsNoCommandLine library p result
  pub runs :
      (home workers : List ℕ) (rest : List (List ℕ)) → words ≡ home ∷ workers ∷ rest → is_in_form home workers words ≡ true
      → RunsAs g h library p disk handlers rest result

-- the exit, whether anything was run or not
abbrev pub exit_of : {D H : Type 0} → Result (Ended D H) Exit → Exit
exit_of (Ok ended) = ended.exit
exit_of (Err e) = e

-- A command line is run over the templates and the journal of the folder which it names first, of which nothing was asked before, and over
-- the program's lanes, which store in that folder.
pub record IsStarted {L D H : Type 0} (folder : L → List ℕ) (path : D → List ℕ) (store : H → List ℕ) (l : LibraryGhosts L)
    (g : DiskGhosts D) (h : HandlerGhosts H) (p : Printing) (words : List (List ℕ)) (result : Exit) : Type 0 where
  pub library : L
  pub library' : L
  pub disk : D
  pub handlers : List H
  pub of_home : folder library ≡ folder_named words
  pub is_unasked : (l.count library ≡ 0) × (l.missed library ≡ 0)
  pub journal_of_home : path disk ≡ journal_named words
  pub is_faultless : g.count disk ≡ 0
  pub handlers_are_new : AreNew h handlers
  pub handlers_of_home : map store handlers ≡ stores_named words
  pub ended : Result (Ended D H) Exit
  pub line : LineTells g h (use_of l library library') p disk handlers words ended
  pub exit_is : result ≡ exit_of ended

-- or there was no memory for these, and nothing was asked
abbrev pub StartsAs : {L D H : Type 0} → (L → List ℕ) → (D → List ℕ) → (H → List ℕ) → LibraryGhosts L → DiskGhosts D
    → HandlerGhosts H → Printing → List (List ℕ) → Exit → Type 0
StartsAs folder path store l g h p words result =
    IsStarted folder path store l g h p words result ⊎ Prints p (exit_line exit.NoMemory) exit.NoMemory result

-- why no words came of a command line: one of them is no text, or there was no memory
abbrev pub IsWordless : Exit → Type 0
IsWordless e = (e ≡ exit.BadWords) ⊎ (e ≡ exit.NoMemory)
