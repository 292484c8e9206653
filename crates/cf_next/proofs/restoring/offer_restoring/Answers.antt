use Rattle.std.proofs.Common.{◌≡◌, [], false, ap, refl, sym, subst, ◌∙◌}
use Rattle.cf_effect.specs.Status.{Back}
use Rattle.cf_next.specs.declared.offer.Offer.{Offer}
use Rattle.cf_next.specs.Offer.{IsOffer}
use Rattle.cf_next.specs.Restoring.{is_restored, restores_out, turn_restored}
use Rattle.cf_next.proofs.Restored.{restoring}
use Rattle.cf_next.proofs.restoring.offer_restoring.Goals as goal

pub returns : goal.returns
returns c = λ schemas name x.
    let turn = c.turn_restored-turn.ensures ∙ ap turn_restored c.is_restored.ensures in
    let same : ◌≡◌ {A = Offer} (record {
      repeats = c.in_ok-repeats.repeats;
      starts = c.in_ok-starts.starts;
      keepings = c.new.result;
      turn = c.turn_restored-turn.result;
      is_made = false;
    }) (record {
      repeats = c.in_ok-repeats.repeats;
      starts = restores_out c.args.out.now c.args.stack.now.stack;
      keepings = [];
      turn = turn_restored (is_restored c.args.stack.now.stack);
      is_made = false;
    }) = λ i. record {
      repeats = c.in_ok-repeats.repeats;
      starts = c.in_ok-starts.ensures i;
      keepings = c.new.ensures i;
      turn = turn i;
      is_made = false;
    } in
    subst (IsOffer schemas name x c.args.out.now c.args.stack.now.stack Back) (sym same)
    (restoring schemas name x c.args.out.now c.args.stack.now.stack c.requires c.in_ok-repeats.repeats (c.in_ok-repeats.ensures schemas name x Back refl tt))
