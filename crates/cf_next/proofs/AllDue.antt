-- The steps that code finds in what an operation has to offer are just those that are due.
use Rattle.std.proofs.Common.{◌≡◌, ◌↔◌, ◌⊎◌, inl, inr, ℕ, true, false, List, [], Option, Some, None, refl, ap, sym, subst}
use Rattle.std.specs.Prelude.{IsTrue}
use Rattle.cf_tree.specs.declared.request.Request.{Request}
use Rattle.cf_tree.specs.declared.request.Request.TheVariants as request
use Rattle.cf_schema.specs.declared.described.Schema.{Schema}
use Rattle.cf_entry.proofs.Codec.{some_is}
use Rattle.cf_effect.specs.World.{StackState, World}
use Rattle.cf_effect.specs.Status.{Stage}
use Rattle.cf_tree.specs.Lists.{In}
use Rattle.cf_plan.specs.Follow.{none_in_flight}
use Rattle.cf_plan.proofs.Members.{in_none, not_both}
use Rattle.cf_next.specs.declared.offer.Offer.{Offer}
use Rattle.cf_next.specs.declared.step.Next.{Next}
use Rattle.cf_next.specs.declared.step.Next.TheVariants as next
use Rattle.cf_next.specs.Offer.{IsOffer}
use Rattle.cf_next.specs.Due.{AreDueIn, IsDueIn}
use Rattle.cf_next.specs.Joining.{IsLast, begun_by, with_last, with_step}
use Rattle.cf_next.proofs.InOrder.{Adds, adds_step}
use Rattle.cf_next.proofs.Calls.{IsBegun, IsCall, adds_begun, begun_due, call_begun, keep_begun, new_call, repeat_begun}
use Rattle.cf_next.proofs.Followed.{none_is}

module _ (schemas : List Schema) (name : List ℕ) (x : World) (out : List ℕ) (s : StackState) (stage : Stage) (o : Offer)
    (offer : IsOffer schemas name x out s stage o) where
  abbrev Due : Next → Type 0
  Due n = IsDueIn schemas name x out s stage n

  abbrev Last : Next → Type 0
  Last n = IsLast schemas name x s stage n

  abbrev begun : List Next
  begun = begun_by out x o

  adds : Adds [] begun (IsBegun x out o)
  adds = adds_begun x out o

  -- what is due is begun, or comes last
  parted : (n : Next) → Due n → IsBegun x out o n ⊎ (IsTrue (none_in_flight out s) × Last n)
  parted (next.Step path lane token r true) w = inl (repeat_begun x out schemas name s stage o offer path lane token r w)
  parted (next.Step path lane token r false) w = inl (call_begun x out schemas name s stage o offer path lane token r w)
  parted (next.Keep path id why) w = inl (keep_begun x out schemas name s stage o offer path id why w)
  parted (next.Turn p c) w = inr w
  parted (next.End state failed) w = inr (w.0, (w.1, w.2, w.3))
  parted next.Wait w = absurd w

  last_due : (n : Next) → IsTrue (none_in_flight out s) → Last n → Due n
  last_due (next.Turn p c) idle w = (idle, w)
  last_due (next.End state failed) idle w = (idle, w.0, w.1, w.2)
  last_due _ idle w = absurd w

  begun_in : (n : Next) → In n begun → IsBegun x out o n
  begun_in n i = elim (adds.comes n i) [ inl j ↦ absurd (in_none j) | inr b ↦ b ]

  -- nothing that is begun comes last
  call_step : (path : List ℕ) (r : Request) (n : Next) → IsCall x out path r n → (lane : List ℕ) × (n ≡ new_call x out path lane r)
  call_step path (request.Create k props) n (at_home, same) = ([], same)
  call_step path (request.Update id props) n (l, i, (home, same)) = (l.0, same)
  call_step path (request.Delete id) n (l, i, (home, same)) = (l.0, same)

  not_last : (n : Next) → IsBegun x out o n → Last n → ⊥
  not_last n (inl (inl (p, i, same))) w = subst Last same w
  not_last n (inl (inr (a, i, call))) w = let c = call_step a.path a.request n call in subst Last c.1 w
  not_last n (inr (k, i, same)) w = subst Last same w

  -- while a call of the stack is out
  pub running_due : none_in_flight out s ≡ false → AreDueIn schemas name x out s stage begun
  running_due busy = record {
    due = λ n i. begun_due x out schemas name s stage o offer n (begun_in n i);
    all = λ n w. elim (parted n w) [ inl b ↦ adds.has n b | inr l ↦ absurd (not_both (none_in_flight out s) l.0 busy) ];
    once = adds.stay_once refl tt;
    ordered = adds.in_order refl;
  }

  -- and once none is
  pub idle_due : none_in_flight out s ≡ true → (last : Option Next) → ((n : Next) → Last n ↔ (last ≡ Some n))
      → AreDueIn schemas name x out s stage (with_last begun last)
  idle_due idle None is = record {
    due = λ n i. begun_due x out schemas name s stage o offer n (begun_in n i);
    all = λ n w. elim (parted n w) [ inl b ↦ adds.has n b | inr l ↦ none_is n ((is n).0 l.1) ];
    once = adds.stay_once refl tt;
    ordered = adds.in_order refl;
  }
  idle_due idle (Some m) is =
      let joins : Adds begun (with_step begun m) (λ n. n ≡ m) = adds_step begun m (λ i. not_last m (begun_in m i) ((is m).1 refl)) in record {
        due = λ n i.
            elim (joins.comes n i) [
              | inl j ↦ begun_due x out schemas name s stage o offer n (begun_in n j)
              | inr e ↦ last_due n idle ((is n).1 (ap (λ (k : Next). Some k) (sym e)))
            ];
        all = λ n w. elim (parted n w) [ inl b ↦ joins.stays_in n (adds.has n b) | inr l ↦ joins.has n (sym (some_is m n ((is n).0 l.1))) ];
        once = joins.stay_once (adds.in_order refl) (adds.stay_once refl tt);
        ordered = joins.in_order (adds.in_order refl);
      }
