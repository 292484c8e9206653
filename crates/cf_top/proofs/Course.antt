-- What a task ordered, and what it wrote.
use Rattle.std.proofs.Common.{◌≡◌, ℕ, List, Ok, subst}
use Rattle.cf_disk.specs.declared.disk.Disk.{Ghosts}
use Rattle.cf_entry.specs.declared.status.Status.{Status}
use Rattle.cf_prepare.specs.declared.wish.Order.{Order}
use Rattle.cf_book.specs.Record.{world_left}
use Rattle.cf_book.specs.State.{BookNow}
use Rattle.cf_face.specs.declared.words.Task.{Task}
use Rattle.cf_workers.proofs.Wrote.{HasWritten, written}
use Rattle.cf_top.specs.Performed.{CarriesOut}
use Rattle.cf_workers.specs.Ordering.{schemas_in, number_of, with_order}
use Rattle.cf_top.specs.Refusals.{LibraryUse}
use Rattle.cf_top.specs.Tasks.{IsOrdered}
use Rattle.cf_workers.proofs.Carried.{began_number}
use Rattle.cf_workers.proofs.Course.{entries_are}

-- what was ordered, and what it wrote
pub record HasRun {D : Type 0} (g : Ghosts D) (o : LibraryUse) (entered ended : BookNow D) (name : List ℕ) (t : Task) : Type 0 where
  pub ordered : Order
  pub orders : IsOrdered o (schemas_in entered.lanes) (world_left entered.entries) name t ordered
  pub begun : BookNow D
  pub entries : begun.entries ≡ with_order entered.entries ordered
  pub lanes : begun.lanes ≡ entered.lanes
  pub wrote : HasWritten g (number_of ordered) begun ended

pub has_run : {D : Type 0} (g : Ghosts D) (o : LibraryUse) (entered ended : BookNow D) (name : List ℕ) (t : Task) (state : Status) → CarriesOut g o entered ended name t (Ok state)
    → HasRun g o entered ended name t
has_run g o entered ended name t state (ordered, is, (number, begun, (begins, lanes, rest, disk, grows), (drives, few))) = record {
  ordered = ordered;
  orders = is;
  begun = begun;
  entries = entries_are g entered begun ordered number begins;
  lanes = lanes;
  wrote = subst (λ (k : ℕ). HasWritten g k begun ended) (began_number g entered begun ordered number begins) (written g number begun rest drives.0);
}
