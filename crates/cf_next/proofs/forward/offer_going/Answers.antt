use Rattle.std.proofs.Common.{◌≡◌, ◌&&◌, [], ap, refl, sym, subst, ◌∙◌}
use Rattle.cf_effect.specs.Status.{Forward}
use Rattle.cf_next.specs.declared.offer.Offer.{Offer}
use Rattle.cf_next.specs.Forward.{is_updating, turn_made}
use Rattle.cf_next.specs.Offer.{IsOffer}
use Rattle.cf_next.proofs.Advancing.{is_going}
use Rattle.cf_next.proofs.forward.offer_going.Goals as goal

pub returns : goal.returns
returns c =
    let turn = c.turn_made.ensures ∙ ap (λ status. turn_made (is_updating status && c.args.is_done)) c.status.ensures in
    let same : ◌≡◌ {A = Offer} (record {
      repeats = c.in_ok-repeats.repeats;
      starts = c.args.starts;
      keepings = c.new.result;
      turn = c.turn_made.result;
      is_made = c.args.is_done;
    }) (record {
      repeats = c.in_ok-repeats.repeats;
      starts = c.args.starts;
      keepings = [];
      turn = turn_made (is_updating c.args.stack.now.stack.status && c.args.is_done);
      is_made = c.args.is_done;
    }) = λ i. record {
      repeats = c.in_ok-repeats.repeats;
      starts = c.args.starts;
      keepings = c.new.ensures i;
      turn = turn i;
      is_made = c.args.is_done;
    } in
    subst (IsOffer c.args.schemas.now c.args.name.now c.args.world.now.world c.args.out.now c.args.stack.now.stack Forward) (sym same)
    (is_going c.args.schemas.now c.args.name.now c.args.world.now.world c.args.out.now c.args.stack.now.stack c.requires.forward c.requires.going c.args.starts
    c.requires.may_begin c.args.is_done c.requires.done c.in_ok-repeats.repeats
    (c.in_ok-repeats.ensures c.args.schemas.now c.args.name.now c.args.world.now.world Forward refl c.requires.going))
