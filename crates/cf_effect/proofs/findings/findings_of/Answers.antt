use Rattle.std.proofs.Common.{List, None, ap, map, refl, ◌∙◌}
use Rattle.cf_effect.specs.declared.findings.Findings.{Findings}
use Rattle.cf_effect.specs.declared.findings.Unlooked.TheVariants.{Anything}
use Rattle.cf_effect.specs.declared.held.Held.{Held}
use Rattle.cf_effect.specs.Findings.{place_among}
use Rattle.cf_effect.specs.Layout.{source_members}
use Rattle.cf_effect.specs.State.{state_of}
use Rattle.cf_effect.proofs.Followed.{kept_first}
use Rattle.cf_effect.proofs.Sought.{findings_first}
use Rattle.cf_effect.proofs.findings.findings_of.Goals as goal

pub returns-clause-findings : goal.returns-clause-findings
returns-clause-findings c =
    let ms = source_members (state_of c.args.state.now) in
    findings_first (state_of c.args.state.now) (record { made = c.in_ok-made.made; held = c.in_ok-held.held; found = c.in_ok-found.found; unlooked = Anything; ahead = None })
    (c.in_ok-made.ensures ∙ ap (λ (hs : List Held). map (λ m. place_among m.path hs) ms) c.as_slice.ensures.value)
    (c.in_ok-held.ensures ∙ ap (λ (hs : List Held). map (λ m. place_among m.path hs) ms) c.as_slice-2.ensures.value)
    (c.in_ok-found.ensures.count ∙ c.len.ensures ∙ c.in_ok-made.made.ok.0) c.in_ok-found.ensures.none

pub returns-clause-kept : goal.returns-clause-kept
returns-clause-kept c =
    let new : Findings = record { made = c.in_ok-made.made; held = c.in_ok-held.held; found = c.in_ok-found.found; unlooked = Anything; ahead = None } in
    kept_first (state_of c.args.state.now) new (returns-clause-findings c) refl
