use Rattle.std.proofs.Common.{◌≡◌, ℕ, ap, sym, subst, ◌∙◌}
use Rattle.cf_entry.specs.declared.status.Status.{Status}
use Rattle.cf_effect.specs.declared.held.Pending.{Pending}
use Rattle.cf_effect.specs.Calls.{new_call}
use Rattle.cf_effect.specs.Reply.{intending}
use Rattle.cf_stacks.specs.Spare.{IsRoomFor}
use Rattle.cf_stacks.proofs.ready.call_parts.Goals as goal

pub returns-clause-fits : goal.returns-clause-fits
returns-clause-fits c = λ h.
    let p : Pending = record { token = c.args.token; path = c.args.path.now; lane = c.args.lane.now; request = c.args.request.now } in
    let pending : c.in_ok-pending.pending ≡ p = c.in_ok-pending.ensures in
    let number : c.in_ok-call.call.number ≡ c.args.number = c.in_ok-call.ensures.number in
    record {
      row =
          c.in_ok-call.ensures.call
          ∙ ap (λ (n : ℕ). new_call n c.status.result p) (sym number)
          ∙ ap (λ (t : Status). new_call c.in_ok-call.call.number t p) c.status.ensures
          ∙ ap (λ (q : Pending). new_call c.in_ok-call.call.number c.args.stack.now.stack.status q) (sym pending);
      room =
          subst (λ (n : ℕ). IsRoomFor (intending n c.in_ok-pending.pending c.args.stack.now.stack) c.in_ok-room.room) (sym number)
          (subst (λ (q : Pending). IsRoomFor (intending c.args.number q c.args.stack.now.stack) c.in_ok-room.room) (sym pending) (c.in_ok-room.ensures.room c.args.number c.args.lane.now));
      token = c.in_ok-room.ensures.token ∙ sym (ap (λ (q : Pending). q.token) pending);
      spare = h;
    }
