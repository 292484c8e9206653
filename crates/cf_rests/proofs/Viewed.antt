-- What a plan has at a path is what the shape and the values at that path say.
use Rattle.std.proofs.Common.{◌≡◌, ℕ, List, [], ◌∷◌, ◌++◌, Bool, true, false, Option, Some, None, refl, ap, ◌∙◌, find, map, option_map}
use Rattle.std.specs.Prelude.{cond, flat_map}
use Rattle.std.specs.Str.{bytes_eq}
use Rattle.std.proofs.lemmas.List.{append-nil}
use Rattle.cf_tree.specs.declared.source.Source.{Source}
use Rattle.cf_eval.specs.Scope.{Scope}
use Rattle.cf_desired.specs.Given.{Given, given_in, settings_for}
use Rattle.cf_desired.specs.Met.{Met, a_stack, an_output, a_flaw, bind_flaw, flaw_met, flaws_of, met_along, met_inside, met_in, offers_flaw, outputs_met, outputs_wanted, scope_after}
use Rattle.cf_desired.specs.Plan.{at_path, fault_at, inner_of, stacks_met, wanted_of}
use Rattle.cf_desired.specs.Seeing.{Seen, first_sights, nested_sight, outputs_inside, own_ids}
use Rattle.cf_desired.specs.Shape.{given_root}
use Rattle.cf_desired.specs.Stack.{Sights, Scoping, scoping}
use Rattle.cf_desired.specs.Valued.{member_props, nestings_along, nestings_inside, nestings_in, valued_in}
use Rattle.cf_desired.specs.Whole.{is_wanted_at}
use Rattle.cf_desired.specs.Work.{Member, Nesting, Work, Inside, Body, Shape, no_work, resource, nested, shut, barred, halted, opened}
use Rattle.cf_desired.specs.Work as inside
use Rattle.cf_desired.specs.declared.flaw.Flaw.{Flaw}
use Rattle.cf_desired.specs.declared.wanted.Inner.{Inner}
use Rattle.cf_desired.specs.declared.wanted.WantedOutput.{WantedOutput}
use Rattle.cf_desired.proofs.Termed.{Valued, member_of, members_in}
use Rattle.cf_rests.specs.Views.{PlanByPaths, inner_from, wanted_from}

-- a resource is found with its properties
wanted_found : (path : List ℕ) (rs : List Valued)
    → find (is_wanted_at path) (map wanted_of rs) ≡ wanted_from (find (λ m. bytes_eq path m.path) (map member_of rs)) (option_map (λ r. r.1) (at_path path rs))
wanted_found path [] = refl
wanted_found path (r ∷ rs) = either (bytes_eq path r.0.path) (wanted_found path rs) where
  either : (b : Bool) → find (is_wanted_at path) (map wanted_of rs) ≡ wanted_from (find (λ m. bytes_eq path m.path) (map member_of rs)) (option_map (λ x. x.1) (at_path path rs))
      → cond b (Some (wanted_of r)) (find (is_wanted_at path) (map wanted_of rs))
      ≡ wanted_from (cond b (Some r.0) (find (λ m. bytes_eq path m.path) (map member_of rs))) (option_map (λ x. x.1) (cond b (Some r) (at_path path rs)))
  either true ih = refl
  either false ih = ih

paths_wanted : (rs : List Valued) → map (λ w. w.path) (map wanted_of rs) ≡ map (λ m. m.path) (map member_of rs)
paths_wanted [] = refl
paths_wanted (r ∷ rs) = ap (λ ps. r.0.path ∷ ps) (paths_wanted rs)

-- nested stacks among what is met
abbrev Stacked : Type 0
Stacked = Nesting × Option Flaw

abbrev nesting_of : Stacked → Nesting
nesting_of s = s.0

abbrev inner_by : Stacked → Inner
inner_by s = record { path = s.0.path; needs = s.0.needs; fault = s.1 }

inner_met : (ms : List Met) → flat_map inner_of ms ≡ map inner_by (stacks_met ms)
inner_met [] = refl
inner_met (a_stack n f ∷ ms) = ap (λ l. record { path = n.path; needs = n.needs; fault = f } ∷ l) (inner_met ms)
inner_met (an_output o ∷ ms) = inner_met ms
inner_met (a_flaw f ∷ ms) = inner_met ms

inner_found : (path : List ℕ) (ss : List Stacked)
    → find (λ n. bytes_eq path n.path) (map inner_by ss) ≡ inner_from (find (λ n. bytes_eq path n.path) (map nesting_of ss)) (option_map (λ s. s.1) (find (λ s. bytes_eq path s.0.path) ss))
inner_found path [] = refl
inner_found path (s ∷ ss) = either (bytes_eq path s.0.path) (inner_found path ss) where
  either : (b : Bool)
      → find (λ n. bytes_eq path n.path) (map inner_by ss) ≡ inner_from (find (λ n. bytes_eq path n.path) (map nesting_of ss)) (option_map (λ x. x.1) (find (λ x. bytes_eq path x.0.path) ss))
      → cond b (Some (inner_by s)) (find (λ n. bytes_eq path n.path) (map inner_by ss))
      ≡ inner_from (cond b (Some s.0) (find (λ n. bytes_eq path n.path) (map nesting_of ss))) (option_map (λ x. x.1) (cond b (Some s) (find (λ x. bytes_eq path x.0.path) ss)))
  either true ih = refl
  either false ih = ih

paths_inner : (ss : List Stacked) → map (λ n. n.path) (map inner_by ss) ≡ map (λ n. n.path) (map nesting_of ss)
paths_inner [] = refl
paths_inner (s ∷ ss) = ap (λ ps. s.0.path ∷ ps) (paths_inner ss)

-- they are those of the shape
abbrev stacks_in : List Met → List Nesting
stacks_in ms = map nesting_of (stacks_met ms)

stacks_both : (xs ys : List Met) → stacks_in (xs ++ ys) ≡ stacks_in xs ++ stacks_in ys
stacks_both [] ys = refl
stacks_both (a_stack n f ∷ xs) ys = ap (λ l. n ∷ l) (stacks_both xs ys)
stacks_both (an_output o ∷ xs) ys = stacks_both xs ys
stacks_both (a_flaw f ∷ xs) ys = stacks_both xs ys

none_flaws : (fs : List Flaw) (ys : List Met) → stacks_in (map (λ f. a_flaw f) fs ++ ys) ≡ stacks_in ys
none_flaws [] ys = refl
none_flaws (f ∷ fs) ys = none_flaws fs ys

none_flaw : (o : Option Flaw) (ys : List Met) → stacks_in (flaw_met o ++ ys) ≡ stacks_in ys
none_flaw None ys = refl
none_flaw (Some f) ys = refl

none_outputs : (os : List WantedOutput) → stacks_in (map (λ o. an_output o) os) ≡ []
none_outputs [] = refl
none_outputs (o ∷ os) = none_outputs os

module _ (source : Source) (seen : Seen) where
  mutual
    along_stacks : (path : List ℕ) (over : Scoping) (sights : Sights) (w : Work) → stacks_in (met_along source seen path over sights w) ≡ nestings_along w
    along_stacks path over sights no_work = refl
    along_stacks path over sights (resource m w) = none_flaws (flaws_of (member_props path (over sights) m)) (met_along source seen path over sights w) ∙ along_stacks path over sights w
    along_stacks path over sights (nested n i w) =
        let behind = nested_sight source n (outputs_inside source seen (over sights) i) sights in
        ap (λ l. n ∷ l)
        (stacks_both (met_inside source seen path (over sights) i) (met_along source seen path over behind w)
        ∙ ap (λ l. l ++ stacks_in (met_along source seen path over behind w)) (inside_stacks path (over sights) i)
        ∙ ap (λ l. nestings_inside i ++ l) (along_stacks path over behind w))

    inside_stacks : (path : List ℕ) (s : Scope) (i : Inside) → stacks_in (met_inside source seen path s i) ≡ nestings_inside i
    inside_stacks path s (shut f) = refl
    inside_stacks path s (inside.given_by form b) = none_flaw (offers_flaw path s form) (met_in source seen (given_in s form) b) ∙ body_stacks (given_in s form) b

    body_stacks : (g : Given) (b : Body) → stacks_in (met_in source seen g b) ≡ nestings_in b
    body_stacks g (barred f) = refl
    body_stacks g (halted t f) = none_flaw (bind_flaw t g) (a_flaw f ∷ [])
    body_stacks g (opened t conds w) =
        none_flaw (bind_flaw t g) _
        ∙ stacks_both (met_along source seen t.path (scoping source t conds (settings_for t.template.params g)) (first_sights t conds seen (own_ids w)) w) (outputs_met t conds (scope_after source seen g t conds w))
        ∙ ap (λ l. stacks_in (met_along source seen t.path (scoping source t conds (settings_for t.template.params g)) (first_sights t conds seen (own_ids w)) w) ++ l) (none_outputs (outputs_wanted t conds (scope_after source seen g t conds w)))
        ∙ append-nil (stacks_in (met_along source seen t.path (scoping source t conds (settings_for t.template.params g)) (first_sights t conds seen (own_ids w)) w))
        ∙ along_stacks t.path (scoping source t conds (settings_for t.template.params g)) (first_sights t conds seen (own_ids w)) w

pub by_paths : PlanByPaths
by_paths source shape seen =
    let rs = valued_in source seen (given_root source) shape in
    let ms = met_in source seen (given_root source) shape in
    record {
      paths = paths_wanted rs ∙ ap (map (λ m. m.path)) (members_in source seen (given_root source) shape);
      stacks = ap (map (λ n. n.path)) (inner_met ms) ∙ paths_inner (stacks_met ms) ∙ ap (map (λ n. n.path)) (body_stacks source seen (given_root source) shape);
      wanted = λ path.
          wanted_found path rs
          ∙ ap (λ l. wanted_from (find (λ m. bytes_eq path m.path) l) (option_map (λ r. r.1) (at_path path rs))) (members_in source seen (given_root source) shape);
      nested = λ path.
          ap (find (λ n. bytes_eq path n.path)) (inner_met ms) ∙ inner_found path (stacks_met ms)
          ∙ ap (λ l. inner_from (find (λ n. bytes_eq path n.path) l) (fault_at source shape seen path)) (body_stacks source seen (given_root source) shape);
    }
