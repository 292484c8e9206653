use Rattle.std.proofs.Common.{refl, sym}
use Rattle.cf_effect.specs.declared.findings.Findings.{Findings}
use Rattle.cf_effect.specs.State.{state_of}
use Rattle.cf_effect.proofs.Noted.{changed_noted, found_less}
use Rattle.cf_effect.proofs.following.note_changed.Goals as goal

pub returns-in-Some-forget_users-clause-same : goal.returns-in-Some-forget_users-clause-same
returns-in-Some-forget_users-clause-same c =
    λ t.
    let new : Findings = record c.args.findings.now { found = c.forget_users.new.found; unlooked = c.note_users.new.unlooked } in
    found_less c.in-Some.held.now.path (state_of c.args.state.now) c.args.findings.now new c.requires refl refl c.in-Some-forget_users.ensures.0

pub returns-in-Some-forget_users-clause-changed : goal.returns-in-Some-forget_users-clause-changed
returns-in-Some-forget_users-clause-changed c =
    λ t change keeps.
    let new : Findings = record c.args.findings.now { found = c.forget_users.new.found; unlooked = c.note_users.new.unlooked } in
    changed_noted (state_of c.args.state.now) c.args.physical.now c.in-Some.held.now c.args.findings.now new c.requires refl refl (sym c.in-Some.ensures) c.in-Some-forget_users.ensures.0
    change keeps
