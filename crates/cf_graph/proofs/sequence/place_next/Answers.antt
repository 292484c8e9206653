use Rattle.std.proofs.Common.{◌∙◌, ◌++◌, ◌∷◌, [], ap, sym, subst, ℕ, List, is_some, arith}
use Rattle.std.proofs.lemmas.List.{get_or_read}
use Rattle.cf_graph.specs.Waiting.{times, copies, row_needs, with_next}
use Rattle.cf_graph.specs.UnderWay.{MissingAreCounted}
use Rattle.cf_graph.proofs.Steps.{none_next, counted_still, at_within, found_next, enough, counted_now}
use Rattle.cf_graph.proofs.sequence.place_next.Goals as goal

pub release-requires : goal.release-requires
release-requires c =
    let all = c.args.all.now in let p = c.args.progress.now in let at = c.in-Some.at in
    let entry = get_or_read all at c.index-all-at.result (at_within all p.placed.entries p.missing.items p.ready c.requires.under_way c.next.new.ready at c.in-Some.ensures) c.index-all-at.is ([], []) in
    enough all p.placed.entries p.missing.items p.ready c.requires.under_way c.next.new.ready at c.in-Some.ensures c.behind.result.now
    (λ q. ap (λ (ps : List ℕ). copies q ps) c.behind.ensures ∙ c.requires.waits c.index-all-at.result.0 q ∙ ap (λ (r : List ℕ × List (List ℕ)). times r.0 (row_needs all q)) entry)

pub returns-in-None-clause-under_way : goal.returns-in-None-clause-under_way
returns-in-None-clause-under_way c =
    let p = c.args.progress.now in
    counted_still c.args.all.now p.placed.entries p.missing.items p.ready c.requires.under_way c.next.new.ready c.in-None.ensures

pub returns-in-None-clause-placed : goal.returns-in-None-clause-placed
returns-in-None-clause-placed c =
    let p = c.args.progress.now in
    sym (ap (with_next p.placed.entries) (none_next c.args.all.now p.placed.entries p.missing.items p.ready c.requires.under_way c.next.new.ready c.in-None.ensures))

pub returns-in-None-clause-more : goal.returns-in-None-clause-more
returns-in-None-clause-more c =
    let p = c.args.progress.now in
    sym (ap is_some (none_next c.args.all.now p.placed.entries p.missing.items p.ready c.requires.under_way c.next.new.ready c.in-None.ensures))

pub returns-in_ok-release-in-Some-clause-under_way :
    goal.returns-in_ok-release-in-Some-clause-under_way
returns-in_ok-release-in-Some-clause-under_way c =
    let all = c.args.all.now in let p = c.args.progress.now in let at = c.in-Some.at in
    let within = at_within all p.placed.entries p.missing.items p.ready c.requires.under_way c.next.new.ready at c.in-Some.ensures in
    let entry = get_or_read all at c.index-all-at.result within c.index-all-at.is ([], []) in
    let placed = c.in_ok-append-in-Some.ensures ∙ ap (λ (r : List ℕ × List (List ℕ)). p.placed.entries ++ (r.0, r.1) ∷ []) entry in
    subst (λ (ps : List (List ℕ × List (List ℕ))). MissingAreCounted all ps c.release.new.missing.items c.release.new.ready) (sym placed)
    (counted_now all p.placed.entries p.missing.items p.ready c.requires.under_way c.next.new.ready at c.in-Some.ensures c.behind.result.now
    (λ q. ap (λ (ps : List ℕ). copies q ps) c.behind.ensures ∙ c.requires.waits c.index-all-at.result.0 q ∙ ap (λ (r : List ℕ × List (List ℕ)). times r.0 (row_needs all q)) entry)
    (row_needs all at) c.release.new.missing.items c.release.new.ready (omega (arith, c.in_ok-release-in-Some.ensures.long, c.release.new.missing.ok.0, p.missing.ok.0)) c.in_ok-release-in-Some.ensures.counted c.in_ok-release-in-Some.ensures.listed)

pub returns-in_ok-release-in-Some-clause-placed : goal.returns-in_ok-release-in-Some-clause-placed
returns-in_ok-release-in-Some-clause-placed c =
    let all = c.args.all.now in let p = c.args.progress.now in let at = c.in-Some.at in
    let within = at_within all p.placed.entries p.missing.items p.ready c.requires.under_way c.next.new.ready at c.in-Some.ensures in
    let entry = get_or_read all at c.index-all-at.result within c.index-all-at.is ([], []) in
    c.in_ok-append-in-Some.ensures ∙ ap (λ (r : List ℕ × List (List ℕ)). p.placed.entries ++ (r.0, r.1) ∷ []) entry
    ∙ sym (ap (with_next p.placed.entries) (found_next all p.placed.entries p.missing.items p.ready c.requires.under_way c.next.new.ready at c.in-Some.ensures))

pub returns-in_ok-release-in-Some-clause-more : goal.returns-in_ok-release-in-Some-clause-more
returns-in_ok-release-in-Some-clause-more c =
    let p = c.args.progress.now in
    sym (ap is_some (found_next c.args.all.now p.placed.entries p.missing.items p.ready c.requires.under_way c.next.new.ready c.in-Some.at c.in-Some.ensures))
