-- What a status has to offer is what its stage has.
use Rattle.std.proofs.Common.{◌≡◌, ℕ, List, Some, ap, sym, ◌∙◌, subst}
use Rattle.std.specs.Prelude.{Result, IfOk}
use Rattle.std.specs.declared.alloc.AllocError.{AllocError}
use Rattle.std.proofs.lemmas.Result.{IfOk-weaker}
use Rattle.cf_schema.specs.declared.described.Schema.{Schema}
use Rattle.cf_entry.proofs.Codec.{some_is}
use Rattle.cf_entry.specs.declared.status.Status.{Status}
use Rattle.cf_effect.specs.World.{StackState, World}
use Rattle.cf_effect.specs.Status.{Stage, stage_of}
use Rattle.cf_next.specs.declared.offer.Offer.{Offer}
use Rattle.cf_next.specs.Offer.{IsOffer, IsOfferOn}

-- it rests on neither the schemas nor the world
pub offered : (schemas : List Schema) (name : List ℕ) (x : World) (out : List ℕ) (s : StackState) (now : Status) (stage : Stage) (r : Result Offer AllocError)
    → s.status ≡ now → stage_of now ≡ Some stage
    → IfOk r (λ o. (schemas : List Schema) (name : List ℕ) (x : World) → IsOffer schemas name x out s stage o)
    → IfOk r (λ o. IsOfferOn schemas name x out s o)
offered schemas name x out s now stage r is of =
    IfOk-weaker r _ _ (λ o w t in_stage. subst (λ (u : Stage). IsOffer schemas name x out s u o) (some_is stage t (sym of ∙ sym (ap stage_of is) ∙ in_stage)) (w schemas name x))
