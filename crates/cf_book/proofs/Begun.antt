-- An operation that has begun is in progress still, or has ended, where a call is settled.
use Rattle.std.proofs.Common.{◌≡◌, ◌==◌, ℕ, Bool, true, false, List, [], ◌∷◌, ◌++◌, inl, inr, Option, Some, None, Result, Ok, Err, refl, sym, ◌∙◌, ap, subst}
use Rattle.std.proofs.lemmas.Bool.{eqb-true}
use Rattle.cf_disk.specs.declared.disk.Disk.{Ghosts}
use Rattle.cf_entry.proofs.Codec.{some_is}
use Rattle.cf_entry.specs.declared.entry.Entry.{Entry}
use Rattle.cf_entry.specs.declared.entry.Entry.TheVariants as entry
use Rattle.cf_entry.specs.declared.entry.Reply.{Reply}
use Rattle.cf_effect.specs.Fold.{world_after}
use Rattle.cf_effect.specs.Status.{stage_of}
use Rattle.cf_effect.specs.Words.{pending_of}
use Rattle.cf_effect.specs.World.{StackState, World, empty_world, stack_of_operation}
use Rattle.cf_stacks.specs.Apart.{AreApart}
use Rattle.cf_stacks.proofs.Folded.{folded_more}
use Rattle.cf_plan.proofs.Going.{IsLike, like_replied}
use Rattle.cf_core.proofs.Operations.{at_it, at_other, left, like_goes}
use Rattle.cf_next.specs.Chosen.{IsInProgress}
use Rattle.cf_lane.specs.Calling.{granted_in}
use Rattle.cf_lane.specs.declared.told.Told.{Told}
use Rattle.cf_book.specs.Ended.{end_status}
use Rattle.cf_book.specs.Events.{outcome_by}
use Rattle.cf_book.specs.Granting.{HasBegun}
use Rattle.cf_book.specs.Inside.{IsAwaited, doubt_in, entries_in}
use Rattle.cf_book.specs.Record.{AppendsTo, world_left}
use Rattle.cf_book.specs.Settling.{ConcludesAs}
use Rattle.cf_book.specs.declared.record.Record.{Record}
use Rattle.cf_book.specs.declared.stop.StopFault.{StopFault}
use Rattle.cf_book.proofs.Closing.{ends_settled}

-- an outcome ends no operation, and puts none back
module _ (x : World) (apart : AreApart x) (number token : ℕ) (r : Reply) (before after : ℕ) (name : List ℕ) (s : StackState)
    (at : stack_of_operation number x ≡ Some (name, s)) where
  abbrev outcome : Entry
  outcome = entry.Outcome number token r before after

  abbrev now : StackState
  now = left x number name s at outcome refl

  like : IsLike s now
  like = let l = like_replied token r (pending_of token s) s in record { operation = l.operation; status = l.status }

  goes_on : (m : ℕ) → IsInProgress x m → IsInProgress (world_after x outcome) m
  goes_on m (other, z, stage, its, is) = by (m == number) refl where
    by : (b : Bool) → (m == number) ≡ b → IsInProgress (world_after x outcome) m
    by false unlike = (other, z, stage, at_other x number name s at outcome refl apart like.operation m unlike ∙ its, is)
    by true k =
        let same : m ≡ number = eqb-true m number k in
        let it : ◌≡◌ {A = List ℕ × StackState} (other, z) (name, s) = some_is _ _ (sym its ∙ ap (λ n. stack_of_operation n x) same ∙ at) in (
          name,
          now,
          stage,
          ap (λ n. stack_of_operation n (world_after x outcome)) same ∙ at_it x number name s at outcome refl (like_goes x number name s at outcome refl like),
          ap stage_of (like.status ∙ ap (λ (q : List ℕ × StackState). q.1.status) (sym it)) ∙ is,
        )

pub stays_begun : {D T : Type 0} (g : Ghosts D) (old new : Record D) (place : ℕ) (told : Told) (o : Option Reply) (result : Result T StopFault)
    → old.world.world ≡ world_left (entries_in old) → AreApart old.world.world → IsAwaited old.world (granted_in told)
    → ConcludesAs g old new place told o result → (m : ℕ) → HasBegun (entries_in old) m → HasBegun (entries_in new) m
stays_begun g old new place told o result world apart awaited h m (inr (status, ended)) =
    inr (status, ap (end_status m) (ends_settled g old new place told o result h) ∙ ended)
stays_begun g old new place told (Some r) (Ok x) world apart awaited h m (inl going) =
    let e : Entry = outcome_by told r in
    let now : world_after old.world.world e ≡ world_left (entries_in new) =
    ap (λ (y : World). world_after y e) world ∙ folded_more empty_world (entries_in old) e ∙ ap world_left (sym h.0) in
    inl (subst (λ (y : World). IsInProgress y m) now
    (goes_on old.world.world apart told.number told.token r told.before told.after awaited.name awaited.stack awaited.at m
    (subst (λ (y : World). IsInProgress y m) (sym world) going)))
stays_begun g old new place told (Some r) (Err fault) world apart awaited h m (inl going) = inl (subst (λ es. IsInProgress (world_left es) m) (sym h.0) going)
stays_begun g old new place told None (Ok x) world apart awaited h m (inl going) = absurd h
stays_begun g old new place told None (Err fault) world apart awaited h m (inl going) =
    inl (subst (λ (z : Record _). IsInProgress (world_left (entries_in z)) m) (sym h.0) going)
