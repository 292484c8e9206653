-- What always holds of a book that has not stopped (this project's own): nothing is in doubt, no two of its lanes have one name, and no
-- two of its operations one number.
use Rattle.std.specs.Prelude.{◌≡◌, true, None, map}
use Rattle.std.specs.Str.{bytes_eq}
use Rattle.cf_tree.specs.Named.{all_differ}
use Rattle.cf_disk.specs.declared.disk.Disk.{Ghosts}
use Rattle.cf_stacks.specs.Apart.{AreApart}
use Rattle.cf_book.specs.Record.{KnowsDisk, world_left}
use Rattle.cf_book.specs.State.{BookNow}

pub record IsSteady {D : Type 0} (g : Ghosts D) (b : BookNow D) : Type 0 where
  pub certain : b.doubt ≡ None
  pub known : KnowsDisk g b
  pub differ : all_differ bytes_eq (map (λ l. l.lane.name) b.lanes) ≡ true
  pub apart : AreApart (world_left b.entries)
