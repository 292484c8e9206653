-- How it is told whether the forward phase has failed, and why (this project's own).
use Rattle.std.specs.Prelude.{ℕ, Bool, List, ◌++◌, Option, Some, None, filter_map, fold, option_and_then, option_map, if◌then◌else◌}
use Rattle.std.specs.List.{list_all}
use Rattle.cf_tree.specs.Lists.{is_among, least_by}
use Rattle.cf_desired.specs.declared.flaw.Flaw.{Flaw}
use Rattle.cf_desired.specs.declared.wanted.Evaluated.{Evaluated}
use Rattle.cf_desired.specs.declared.wanted.Evaluated.TheVariants as result
use Rattle.cf_desired.specs.declared.wanted.Inner.{Inner}
use Rattle.cf_desired.specs.declared.wanted.Plan.{Plan}
use Rattle.cf_desired.specs.declared.wanted.Wanted.{Wanted}
use Rattle.cf_desired.specs.Whole.{wanted_at}
use Rattle.cf_plan.specs.Done.{are_met}
use Rattle.cf_plan.specs.declared.bad.BadAt as bad

-- the flaw of a path by a plan
abbrev pub flaw_in : Evaluated → Option Flaw
flaw_in (result.Flawed f) = Some f
flaw_in (result.Known ps) = None

abbrev pub flaw_planned : List ℕ → Plan → Option Flaw
flaw_planned path p = option_and_then (λ w. flaw_in w.props) (wanted_at path p)

-- a path whose needs are done with its flaw; a nested stack whose needs are done with its flaw
abbrev pub flaw_found : Plan → Plan → List (List ℕ) → Wanted → Option (List ℕ × Flaw)
flaw_found before now done w = if are_met w.path before done then option_map (λ f. (w.path, f)) (flaw_planned w.path now) else None

abbrev pub inner_found : List (List ℕ) → Inner → Option (List ℕ × Flaw)
inner_found done i = if list_all (λ n. is_among n done) i.needs then option_map (λ f. (i.path, f)) i.fault else None

abbrev pub flaws_found : Plan → Plan → List (List ℕ) → List (List ℕ × Flaw)
flaws_found before now done = filter_map (flaw_found before now done) before.wanted ++ filter_map (inner_found done) now.nested

-- the first of the least path in byte order
abbrev pub least : List (List ℕ × Flaw) → Option (List ℕ × Flaw)
least flaws = fold (least_by (λ b. b.0)) None flaws

abbrev pub bad_of : bad.BadAt → List ℕ × Flaw
bad_of b = (b.path.now, b.flaw.now)

-- all wanted paths are among these
abbrev pub are_all_done : Plan → List (List ℕ) → Bool
are_all_done before done = list_all (λ w. is_among w.path done) before.wanted
