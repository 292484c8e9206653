use Rattle.std.proofs.Common.{◌≡◌, Bool, false, not, refl, sym, true, true≢false}
use Rattle.cf_entry.specs.declared.entry.Entry.TheVariants as entry
use Rattle.cf_effect.specs.State.{state_of}
use Rattle.cf_effect.proofs.GivenBack.{outcome_kept}
use Rattle.cf_effect.proofs.restoring.leaves_all.Goals as goal

pub returns-in-Outcome : goal.returns-in-Outcome
returns-in-Outcome c = λ t place r.
    let is : c.args.entry.now ≡ entry.Outcome c.in-Outcome.number c.in-Outcome.token c.in-Outcome.answer c.in-Outcome.before c.in-Outcome.after = cc in
    outcome_kept (state_of c.args.state.now) c.args.entry.now c.in-Outcome.number c.in-Outcome.token c.in-Outcome.before c.in-Outcome.after c.in-Outcome.answer
    c.as_slice.result.now c.args.state.now.operation c.is_changed_by.result is refl c.as_slice.ensures.value c.is_changed_by.ensures (unset c.is_changed_by.result t) place r
  where
    unset : (b : Bool) → not b ≡ true → b ≡ false
    unset true e = absurd (true≢false (sym e))
    unset false e = refl
