-- What the forward phase offers is what it may begin.
use Rattle.std.proofs.Common.{◌≡◌, ◌↔◌, inl, inr, ℕ, Bool, true, false, ◌&&◌, List, [], Option, Some, None, IsTrue, option_map, refl, ap, sym, subst, ◌∙◌, true≢false}
use Rattle.std.proofs.lemmas.Bool.{and_parts, and_from}
use Rattle.std.proofs.lemmas.Option.{same_Some}
use Rattle.cf_schema.specs.declared.described.Schema.{Schema}
use Rattle.cf_entry.specs.declared.status.Status.{Status}
use Rattle.cf_entry.specs.declared.status.Status.TheVariants as status
use Rattle.cf_entry.specs.declared.turn.Cause.{Cause}
use Rattle.cf_entry.specs.declared.turn.Phase.{Phase}
use Rattle.cf_entry.specs.declared.turn.Phase.TheVariants as phase
use Rattle.cf_entry.specs.declared.turn.Why.{Why}
use Rattle.cf_entry.specs.declared.turn.Why.TheVariants as why
use Rattle.cf_effect.specs.declared.held.Pending.{Pending}
use Rattle.cf_effect.specs.Status.{Back, Forward, Gone, stage_of}
use Rattle.cf_effect.specs.World.{StackState, World}
use Rattle.cf_plan.specs.Start.{Start}
use Rattle.cf_plan.specs.Forward.{AllDone, HasFailed, IsCause}
use Rattle.cf_tree.specs.Lists.{In}
use Rattle.cf_plan.specs.Follow.{MayKeep, MayTurn}
use Rattle.cf_plan.specs.Starts.{AreOpen}
use Rattle.cf_plan.proofs.Listed.{in_none}
use Rattle.cf_next.specs.declared.offer.Turn.{Turn}
use Rattle.cf_next.specs.Forward.{failed_offer, is_updating, turn_made}
use Rattle.cf_next.specs.Offer.{AreKeepings, AreRepeats, AreStarts, IsOffer, IsTurn, MayBeginAt}
use Rattle.cf_next.proofs.OneCause.{one_cause}

module _ (schemas : List Schema) (name : List ℕ) (x : World) (out : List ℕ) (s : StackState) (forward : stage_of s.status ≡ Some Forward) where
  none_kept : AreKeepings Forward out s []
  none_kept path physical w = (λ m. absurd (never w m), λ i. absurd (in_none i)) where
    never : (w : Why) → MayKeep Forward out s path physical w → ⊥
    never why.Retained (inl m) = m.1
    never why.Retained (inr m) = let other : Forward ≡ Gone = m.0 in cc
    never why.Failed m = in_none m.0.1
    never why.Doubt m = in_none m.0.1

  -- it has failed
  module _ (failed : HasFailed schemas name x s) (c : Cause) (is : IsCause schemas name x s c) where
    only_back : (p : Phase) (d : Option Cause) → (failed_offer c).turn ≡ Some (record { phase = p; cause = d }) → (phase.Back ≡ p) × (Some c ≡ d)
    only_back p d e = (same_Some phase.Back p (ap (option_map (λ (t : Turn). t.phase)) e), same_Some (Some c) d (ap (option_map (λ (t : Turn). t.cause)) e))

    turns_back : IsTurn schemas name x s (failed_offer c).turn
    turns_back p d = (to p d, from p d) where
      to : (p : Phase) (d : Option Cause) → MayTurn schemas name x s p d → (failed_offer c).turn ≡ Some (record { phase = p; cause = d })
      to phase.Back (Some d) m = ap (λ (b : Cause). (failed_offer b).turn) (one_cause schemas name x s c d is m.2)
      to phase.Back None m = absurd m
      to phase.Clean None m = absurd (m.1 failed)
      to phase.Clean (Some d) m = absurd m
      to phase.BackClean None m = let other : Some Back ≡ Some Forward = sym (ap stage_of m.0) ∙ forward in let no : ⊥ = cc in absurd no
      to phase.BackClean (Some d) m = absurd m

      from : (p : Phase) (d : Option Cause) → (failed_offer c).turn ≡ Some (record { phase = p; cause = d }) → MayTurn schemas name x s p d
      from phase.Back (Some d) e =
          let k = only_back phase.Back (Some d) e in
          subst (λ (o : Option Cause). MayTurn schemas name x s phase.Back o) k.1 (forward, failed, is)
      from phase.Back None e = let k = only_back phase.Back None e in let no : ⊥ = cc in absurd no
      from phase.Clean d e = let k = only_back phase.Clean d e in let no : ⊥ = cc in absurd no
      from phase.BackClean d e = let k = only_back phase.BackClean d e in let no : ⊥ = cc in absurd no

    pub has_failed : IsOffer schemas name x out s Forward (failed_offer c)
    has_failed = record {
      repeats = λ p. (λ m. absurd (m.0 failed), λ i. absurd (in_none i));
      starts = λ path r. (λ m. absurd (m.2.0 failed), λ i. absurd (in_none i));
      keepings = none_kept;
      turn = turns_back;
      made = λ e. (λ t. absurd (true≢false (sym t)), λ m. absurd (m.0 failed));
    }

  -- it has not
  module _ (good : HasFailed schemas name x s → ⊥) (found : List Start) (may : AreOpen schemas s found) (done : Bool) (all : IsTrue done ↔ AllDone s) where
    starts : AreStarts schemas name x out s Forward found
    starts path r = (to, from) where
      to : MayBeginAt schemas name x out s Forward path r → In (record { path = path; request = r }) found
      to (free, none, (going, ready, new, intends)) = (may path r).0 (ready, new, free, intends)

      from : In (record { path = path; request = r }) found → MayBeginAt schemas name x out s Forward path r
      from i = let (ready, new, free, intends) = (may path r).1 i in (free, refl, (good, ready, new, intends))

    updating : (state : Status) → is_updating state ≡ true → state ≡ status.UpdateInProgress
    updating status.UpdateInProgress e = refl
    updating state e = let no : ⊥ = cc in absurd no

    only_clean : (b : Bool) (p : Phase) (d : Option Cause) → turn_made b ≡ Some (record { phase = p; cause = d }) → (b ≡ true) × (phase.Clean ≡ p) × (None ≡ d)
    only_clean false p d e = let no : ⊥ = cc in absurd no
    only_clean true p d e = (refl, same_Some phase.Clean p (ap (option_map (λ (t : Turn). t.phase)) e), same_Some None d (ap (option_map (λ (t : Turn). t.cause)) e))

    abbrev over : Bool
    over = is_updating s.status && done

    cleans_up : IsTurn schemas name x s (turn_made over)
    cleans_up p d = (to p d, from p d) where
      to : (p : Phase) (d : Option Cause) → MayTurn schemas name x s p d → turn_made over ≡ Some (record { phase = p; cause = d })
      to phase.Clean None m = ap turn_made (and_from (is_updating s.status) done (ap is_updating m.0) (all.1 m.2))
      to phase.Clean (Some d) m = absurd m
      to phase.Back None m = absurd m
      to phase.Back (Some d) m = absurd (good m.1)
      to phase.BackClean None m = let other : Some Back ≡ Some Forward = sym (ap stage_of m.0) ∙ forward in let no : ⊥ = cc in absurd no
      to phase.BackClean (Some d) m = absurd m

      from : (p : Phase) (d : Option Cause) → turn_made over ≡ Some (record { phase = p; cause = d }) → MayTurn schemas name x s p d
      from phase.Clean None e =
          let k = and_parts (is_updating s.status) done (only_clean over phase.Clean None e).0 in
          (updating s.status k.0, good, all.0 k.1)
      from phase.Clean (Some d) e = let k = only_clean over phase.Clean (Some d) e in let no : ⊥ = cc in absurd no
      from phase.Back d e = let k = only_clean over phase.Back d e in let no : ⊥ = cc in absurd no
      from phase.BackClean d e = let k = only_clean over phase.BackClean d e in let no : ⊥ = cc in absurd no

    pub is_going : (repeats : List Pending) → AreRepeats schemas name x out s Forward repeats
        → IsOffer schemas name x out s Forward (record { repeats = repeats; starts = found; keepings = []; turn = turn_made over; is_made = done })
    is_going repeats are = record {
      repeats = are;
      starts = starts;
      keepings = none_kept;
      turn = cleans_up;
      made = λ e. (λ t. (good, all.0 t), λ m. all.1 m.1);
    }
