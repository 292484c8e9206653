-- What a task over a book comes to, from what its run comes to.
use Rattle.std.proofs.Common.{◌≡◌, ◌≢◌, inl, inr, ℕ, List, Result, Ok, Err, refl, sym, ◌∙◌, subst}
use Rattle.std.specs.Bool.{IsTrue}
use Rattle.cf_disk.specs.declared.disk.Disk.{Ghosts}
use Rattle.cf_entry.specs.declared.status.Status.{Status}
use Rattle.cf_prepare.specs.declared.wish.Order.{Order}
use Rattle.cf_book.specs.Granting.{IsStill}
use Rattle.cf_book.specs.Record.{world_left}
use Rattle.cf_book.specs.State.{BookLane, BookNow}
use Rattle.cf_book.specs.declared.stop.StopFault.{StopFault}
use Rattle.cf_book.specs.declared.stop.StopFault.TheVariants as stop
use Rattle.cf_face.specs.declared.exit.Exit.{Exit}
use Rattle.cf_face.specs.declared.exit.Exit.TheVariants as exit
use Rattle.cf_face.specs.declared.words.Task.{Task}
use Rattle.cf_workers.specs.Driving.{IsAtRest}
use Rattle.cf_workers.proofs.Runs.{no_stretch}
use Rattle.cf_top.proofs.Early.{never_refused}
use Rattle.cf_top.proofs.Ordered.{numbered_as}
use Rattle.cf_top.specs.Performed.{DoesTask, ExitsFor, Leaves, Performs, RunsFor, RunsTo}
use Rattle.cf_workers.specs.Ordering.{schemas_in}
use Rattle.cf_top.specs.Refusals.{LibraryUse}
use Rattle.cf_top.specs.Tasks.{IsOrdered, RefusesTask, number_for}
use Rattle.cf_workers.proofs.Carried.{IsCarried}

-- an exit that a lane's fence is the cause of
ahead_of : (lanes : List BookLane) (fault : StopFault) (x : Exit) → ExitsFor lanes fault x → ((place fence epoch : ℕ) → fault ≢ stop.LaneAhead place fence epoch) → (name : List ℕ)
    (fence epoch : ℕ) → x ≢ exit.LaneAhead name fence epoch
ahead_of lanes (stop.Full l need room) x exits never name fence epoch q = let no : exit.Full l need room ≡ exit.LaneAhead name fence epoch = sym exits ∙ q in cc
ahead_of lanes stop.DiskFault x exits never name fence epoch q = let no : exit.DiskFault ≡ exit.LaneAhead name fence epoch = sym exits ∙ q in cc
ahead_of lanes (stop.LaneAhead place f ep) x exits never name fence epoch q = never place f ep refl
ahead_of lanes stop.NoMemory x exits never name fence epoch q = let no : exit.NoMemory ≡ exit.LaneAhead name fence epoch = sym exits ∙ q in cc

err_is : (x z : Exit) → ◌≡◌ {A = Result Status Exit} (Err x) (Err z) → x ≡ z
err_is x z q = cc

-- what was ordered ended, or it was cut short
module _ {D : Type 0} (g : Ghosts D) (old new : BookNow D) (ordered : Order) where
  pub driven : (status : Status) → IsCarried g old new ordered (Ok status) → RunsFor g old new ordered (Ok status)
  driven status k = record {
    runs = k.runs;
    leaves = λ name on.
        let l = k.leaves name on in
        record {
          stack = l.stack;
          stretch = l.stretch;
          never_ahead = λ schemas life d stands holds other fence epoch q. never (exit.LaneAhead other fence epoch) q;
          home = l.home;
          known = l.known;
          rest = l.rest;
        };
  } where
    never : (x : Exit) → ◌≡◌ {A = Result Status Exit} (Ok status) (Err x) → ⊥
    never x q = cc

  pub cut_short : (fault : StopFault) (x : Exit) → ExitsFor new.lanes fault x → IsCarried g old new ordered (Err fault) → RunsFor g old new ordered (Err x)
  cut_short fault x exits k = record {
    runs = (fault, exits, k.runs);
    leaves = λ name on.
        let l = k.leaves name on in
        record {
          stack = tt;
          stretch = l.stretch;
          never_ahead = λ schemas life d stands holds other fence epoch q.
              ahead_of new.lanes fault x exits (l.never_fenced schemas life d stands holds) other fence epoch (err_is x (exit.LaneAhead other fence epoch) q);
          home = l.home;
          known = l.known;
          rest = tt;
        };
  }

-- Nothing was done: the book is as it was.
module _ {D : Type 0} (g : Ghosts D) (only_now : (d : D) (c : List ℕ) → IsTrue g.tells → g.left_since d (g.moment d) c → g.may_leave d c) (b : BookNow D) (rest : IsAtRest g b) where
  is_still : IsStill b b
  is_still = (record { disk = refl; entries = refl; doubt = refl }, record { lanes = refl; granted = refl })

  leaves_it : (name : List ℕ) (number : ℕ) (x : Exit) → ((other : List ℕ) (fence epoch : ℕ) → x ≢ exit.LaneAhead other fence epoch) → Leaves g b b name number (Err x)
  leaves_it name number x never = record {
    stack = tt;
    stretch = no_stretch g only_now b rest;
    never_ahead = λ schemas life d stands holds other fence epoch q. never other fence epoch (err_is x (exit.LaneAhead other fence epoch) q);
    home = rest.none_out;
    known = rest.known;
    rest = tt;
  }

  pub not_done : (o : LibraryUse) (name : List ℕ) (t : Task) (x : Exit) → RefusesTask o (schemas_in b.lanes) (world_left b.entries) name t x → Performs g o b b name t (Err x)
  not_done o name t x refused = record {
    tells = inl (refused, is_still);
    leaves = leaves_it name (number_for (world_left b.entries) name t) x (λ other fence epoch q.
        never_refused o (schemas_in b.lanes) (world_left b.entries) name t other fence epoch
        (subst (RefusesTask o (schemas_in b.lanes) (world_left b.entries) name t) q refused));
  }

-- what was ordered was carried out
pub carried_out : {D : Type 0} (g : Ghosts D) (old new : BookNow D) (o : LibraryUse) (name : List ℕ) (t : Task) (ordered : Order) (result : Result Status Exit)
    → IsOrdered o (schemas_in old.lanes) (world_left old.entries) name t ordered → RunsFor g old new ordered result
    → Performs g o old new name t result
carried_out g old new o name t ordered result is r = record {
  tells = by result r.runs;
  leaves = subst (λ (n : ℕ). Leaves g old new name n result) (numbered_as o (schemas_in old.lanes) (world_left old.entries) name t ordered is.orders) (r.leaves name is.on_stack);
} where
  by : (z : Result Status Exit) → RunsTo g old new ordered z → DoesTask g o old new name t z
  by (Ok status) runs = (ordered, is, runs)
  by (Err x) runs = inr (ordered, is, runs)
