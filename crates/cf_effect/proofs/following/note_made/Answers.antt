use Rattle.std.proofs.Common.{refl, ap, ◌∙◌}
use Rattle.cf_effect.specs.Following.{with_place}
use Rattle.cf_effect.specs.declared.findings.Findings.{Findings}
use Rattle.cf_effect.specs.State.{state_of}
use Rattle.cf_effect.proofs.Followed.{made_kept}
use Rattle.cf_effect.proofs.Noted.{made_noted}
use Rattle.cf_effect.proofs.following.note_made.Goals as goal

pub returns-in-Some-clause-made : goal.returns-in-Some-clause-made
returns-in-Some-clause-made c =
    λ t h is stands.
    let new : Findings = record c.args.findings.now {
      made = c.put_place.new.places;
      found = c.forget_users.new.found;
      unlooked = c.note_users.new.unlooked;
      ahead = c.follow_made.new.ahead;
    } in
    made_noted (state_of c.args.state.now) c.args.path.now c.in-Some.at c.args.findings.now new c.requires c.in-Some.ensures.1 c.in-Some.ensures.0
    (c.put_place.ensures ∙ ap (λ n. with_place c.in-Some.at n c.args.findings.now.made.items) (c.len.ensures ∙ c.args.state.now.made.ok.0)) refl h is stands

pub returns-in-Some-clause-ahead : goal.returns-in-Some-clause-ahead
returns-in-Some-clause-ahead c =
    λ t was.
    let new : Findings = record c.args.findings.now {
      made = c.put_place.new.places;
      found = c.forget_users.new.found;
      unlooked = c.note_users.new.unlooked;
      ahead = c.follow_made.new.ahead;
    } in
    made_kept (state_of c.args.state.now) c.args.path.now c.in-Some.at c.len.result c.args.findings.now new c.as_slice.result.now c.as_slice-in-Some.result.now c.in-Some.ensures.1
    c.in-Some.ensures.0 c.put_place.ensures c.as_slice.ensures.value c.as_slice-in-Some.ensures.value c.follow_made.ensures was
