-- What settling writes into the record of a disk.
use Rattle.std.proofs.Common.{◌≡◌, ℕ, Option, Some, None, Result, Ok, Err, OnOk, refl, sym, ◌∙◌, ap, subst}
use Rattle.cf_disk.specs.declared.disk.Disk.{Ghosts}
use Rattle.cf_entry.proofs.Codec.{some_is}
use Rattle.cf_entry.specs.declared.entry.Reply.{Reply}
use Rattle.cf_stacks.specs.Room.{Standing, stepped}
use Rattle.cf_lane.specs.declared.told.Told.{Told}
use Rattle.cf_book.specs.Events.{outcome_by, reply_for}
use Rattle.cf_book.specs.Inside.{AppendsIn}
use Rattle.cf_book.specs.Settling.{ConcludesAs}
use Rattle.cf_book.specs.declared.record.Record.{Record}
use Rattle.cf_book.specs.declared.stop.StopFault.{StopFault}

pub concluded : {D T : Type 0} (g : Ghosts D) (old new : Record D) (place : ℕ) (told : Told) (r : Reply) (result : Result T StopFault) → reply_for told.answer ≡ Some r
    → AppendsIn g old new (outcome_by told r) result → ConcludesAs g old new place told (reply_for told.answer) result
concluded g old new place told r result e h = subst (λ p. ConcludesAs g old new place told p result) (sym e) h

pub stepped_so : {T : Type 0} (x y : Standing) (told : Told) (r : Reply) (result : Result T StopFault) → reply_for told.answer ≡ Some r
    → OnOk result (y ≡ stepped x (outcome_by told r))
    → OnOk result ((q : Reply) → reply_for told.answer ≡ Some q → y ≡ stepped x (outcome_by told q))
stepped_so x y told r (Ok done) e h = λ q f. h ∙ ap (λ (z : Reply). stepped x (outcome_by told z)) (some_is _ _ (sym e ∙ f))
stepped_so x y told r (Err fault) e h = tt
