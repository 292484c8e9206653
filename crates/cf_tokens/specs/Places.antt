-- Where a table stands, and what its lanes store (this project's own).
use Rattle.std.specs.Prelude.{ℕ, List, string_bytes}
use Rattle.std.specs.declared.alloc.Allocator.{Ghosts as Allocator}
use Rattle.std.specs.declared.alloc.Global.{Global}
use Rattle.std.specs.declared.clone.Clone.{Ghosts as Clone}
use Rattle.std.specs.declared.fs.File.{File}
use Rattle.std.specs.declared.io.traits.Read.{Ghosts as Read}
use Rattle.std.specs.declared.io.traits.Seek.{Ghosts as Seek}
use Rattle.std.specs.declared.io.traits.Write.{Ghosts as Write}
use Rattle.cf_tokens.specs.declared.table.Place.{Place}
use Rattle.cf_tokens.specs.declared.handler.TableHandler.{TableHandler}

-- the folder of a table and of what its lanes store
abbrev pub folder_at : Place → List ℕ
folder_at p = string_bytes p.folder

-- where a table is
abbrev pub path_at : Place → List ℕ
path_at p = string_bytes p.path

-- where the table of a lane stands
abbrev pub place_of :
    {R S T : Type 0} {r : Read File} {w : Write File} {k : Seek File} {t : Read T} {a : Allocator Global} {c : Clone Global}
    → TableHandler R S T r w k t a c → Place
place_of h = h.table.place

-- the folder of a lane
abbrev pub folder_of :
    {R S T : Type 0} {r : Read File} {w : Write File} {k : Seek File} {t : Read T} {a : Allocator Global} {c : Clone Global}
    → TableHandler R S T r w k t a c → List ℕ
folder_of h = folder_at (place_of h)
