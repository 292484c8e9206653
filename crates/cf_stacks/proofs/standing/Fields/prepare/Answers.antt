use Rattle.std.proofs.Common.{◌≡◌, IfOk, refl, sym, subst}
use Rattle.cf_entry.specs.declared.entry.Entry.{Entry}
use Rattle.cf_stacks.specs.Ready.{IsPrepared}
use Rattle.cf_stacks.proofs.standing.Fields.prepare.Goals as goal

pub returns-in-Opened : goal.returns-in-Opened
returns-in-Opened c = record { kept = c.prepare_opening.ensures.kept; ok = c.prepare_opening.ensures.ok }

pub returns-in_ok-reserve_call-in-Intent : goal.returns-in_ok-reserve_call-in-Intent
returns-in_ok-reserve_call-in-Intent c = record {
  kept = c.reserve_call.ensures.kept;
  ok = subst (λ (e : Entry). IfOk c.parts_for.result (IsPrepared e c.reserve_call.new.self)) (sym c.in-Intent.is) c.parts_for.ensures;
}

pub returns-in_default : goal.returns-in_default
returns-in_default c = record { kept = record { rest = refl; stacks = refl; calls = refl }; ok = c.prepare_other.ensures }
