-- A lease comes only after its Intent is in every image of the disk.
use Rattle.std.proofs.Common.{◌≡◌, inl, inr, ℕ, Option, Some, None, Result, Ok, Err, IfOk, IsTrue, List, refl, sym, ◌∙◌, ap, subst}
use Rattle.cf_disk.specs.declared.disk.Disk.{Ghosts as DiskGhosts}
use Rattle.cf_handler.specs.declared.handler.Handler.{Ghosts as HandlerGhosts}
use Rattle.cf_entry.specs.declared.status.Status.{Status}
use Rattle.cf_journal.specs.Record.{record_of}
use Rattle.cf_lane.specs.Calling.{Granted, granted_of, leased_lane}
use Rattle.cf_lane.specs.Lanes.{LaneNow, lane_now}
use Rattle.cf_lane.specs.declared.lease.Lease.{Lease as Leased}
use Rattle.cf_next.specs.declared.step.Next.{Next}
use Rattle.cf_next.specs.declared.step.Next.TheVariants as next
use Rattle.cf_book.specs.Ended.{end_status, ended_in}
use Rattle.cf_book.specs.Granting.{GrantsAs, GrantsStep, HandsOut, IsDurable, IsOpenCall, MovesOn, TakesStep}
use Rattle.cf_book.specs.Record.{KnowsDisk, with_doubt}
use Rattle.cf_book.specs.State.{BookNow}
use Rattle.cf_book.specs.declared.granting.Grant.{Grant}
use Rattle.cf_book.specs.declared.granting.Grant.TheVariants.{Idle, Lease, Moved, Over}
use Rattle.cf_book.specs.declared.stop.StopFault.{StopFault}
use Rattle.cf_book.specs.declared.stop.StopFault.TheVariants as stop

module _ {D H : Type 0} (d : DiskGhosts D) (h : HandlerGhosts H) (old new : BookNow D) (number : ℕ) (known : KnowsDisk d new) (lease : Leased H) where
  abbrev Durable : Type 0
  Durable = IsDurable d new (lane_now h (leased_lane lease)).name (granted_of lease)

  handed : (lane : List ℕ) (call : Granted) → HandsOut h old new lane call (Ok (Lease lease)) → Durable
  handed lane call (b, lent, named, granted, owns) = record {
    open_call = subst (λ (l : LaneNow). IsOpenCall new.entries l.name (granted_of lease)) (sym owns)
        (subst (IsOpenCall new.entries b.lane.name) (sym granted) lent.open_call);
    each = λ told bytes left. elim (known.each told bytes left) [
      | inl e ↦ e
      | inr e ↦ e ∙ ap (λ o. Ok (with_doubt new.entries o)) lent.certain
    ];
  }

  taken : (n : Next) → TakesStep d h old new number n (Ok (Lease lease)) → Durable
  taken (next.Step path lane token r again) t = handed lane _ t.1
  taken (next.Keep path physical w) t = absurd (let no : Lease lease ≡ Moved = t.2 in cc)
  taken (next.Turn p cause) t = absurd (let no : Lease lease ≡ Moved = t.2 in cc)
  taken (next.End state failed) t = absurd (let no : Lease lease ≡ Over state = t.2 in cc)
  taken next.Wait t = absurd (let no : ◌≡◌ {A = Result (Grant H) StopFault} (Ok (Lease lease)) (Ok Idle) = t.0 in cc)

  stepped : (o : Option Status) → GrantsStep d h old new number o (Ok (Lease lease)) → Durable
  stepped (Some status) t = absurd (let no : ◌≡◌ {A = Result (Grant H) StopFault} (Ok (Lease lease)) (Ok (Over status)) = t.0 in cc)
  stepped None (inl (n, comes, takes)) = taken n takes
  stepped None (inr t) = absurd (let no : ◌≡◌ {A = Result (Grant H) StopFault} (Ok (Lease lease)) (Err stop.NoMemory) = t.0 in cc)

  -- whatever stopped the book
  pub durable_by : (o : Option StopFault) (result : Result (Grant H) StopFault) → GrantsAs d h old new number o result → result ≡ Ok (Lease lease) → Durable
  durable_by o result grants is = by o (subst (GrantsAs d h old new number o) is grants) where
    by : (o : Option StopFault) → GrantsAs d h old new number o (Ok (Lease lease)) → Durable
    by None t = stepped (end_status number (ended_in old.entries)) t
    by (Some fault) t = absurd (let no : ◌≡◌ {A = Result (Grant H) StopFault} (Ok (Lease lease)) (Err fault) = t.0 in cc)
