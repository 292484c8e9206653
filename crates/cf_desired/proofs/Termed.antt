-- What is asked of a path in a plan is what the shape says of it.
use Rattle.std.proofs.Common.{◌≡◌, ℕ, List, [], ◌∷◌, ◌++◌, Bool, true, false, Some, map, find, option_map, refl, ap, ◌∙◌}
use Rattle.std.specs.Prelude.{cond}
use Rattle.std.specs.Str.{bytes_eq}
use Rattle.std.proofs.lemmas.List.{map-append}
use Rattle.cf_tree.specs.declared.source.Source.{Source}
use Rattle.cf_desired.specs.declared.shape.Terms.{Terms}
use Rattle.cf_desired.specs.declared.wanted.Evaluated.{Evaluated}
use Rattle.cf_desired.specs.declared.wanted.Wanted.{Wanted}
use Rattle.cf_desired.specs.Given.{Given, given_in, settings_for}
use Rattle.cf_desired.specs.Turns.{member_terms}
use Rattle.cf_desired.specs.Plan.{member_at, plan_by, wanted_of}
use Rattle.cf_desired.specs.Seeing.{Seen, first_sights, nested_sight, outputs_inside, own_ids}
use Rattle.cf_desired.specs.Shape.{given_root}
use Rattle.cf_desired.specs.Stack.{Sights, Scoping, scoping}
use Rattle.cf_eval.specs.Scope.{Scope}
use Rattle.cf_desired.specs.Valued.{resources_along, resources_inside, resources_in, valued_along, valued_inside, valued_in}
use Rattle.cf_desired.specs.Whole.{is_wanted_at, wanted_at}
use Rattle.cf_desired.specs.Work.{Member, Nesting, Work, Inside, Body, Shape, no_work, resource, nested, shut, barred, halted, opened}
use Rattle.cf_desired.specs.Work as inside

abbrev pub Valued : Type 0
Valued = Member × Evaluated

abbrev pub member_of : Valued → Member
member_of r = r.0

abbrev pub terms_by : Wanted → Terms
terms_by w = record { kind = w.kind; needs = w.needs; deletion = w.deletion; replace = w.replace }

-- the members of what is valued are those of the shape
module _ (source : Source) (seen : Seen) where
  mutual
    members_along : (path : List ℕ) (over : Scoping) (sights : Sights) (w : Work) → map member_of (valued_along source seen path over sights w) ≡ resources_along w
    members_along path over sights no_work = refl
    members_along path over sights (resource m w) = ap (λ (ms : List Member). m ∷ ms) (members_along path over sights w)
    members_along path over sights (nested n i w) =
        map-append member_of (valued_inside source seen (over sights) i) (valued_along source seen path over (nested_sight source n (outputs_inside source seen (over sights) i) sights) w)
        ∙ (λ j. members_inside (over sights) i j ++ members_along path over (nested_sight source n (outputs_inside source seen (over sights) i) sights) w j)

    members_inside : (s : Scope) (i : Inside) → map member_of (valued_inside source seen s i) ≡ resources_inside i
    members_inside s (shut f) = refl
    members_inside s (inside.given_by form b) = members_in (given_in s form) b

    pub members_in : (g : Given) (b : Body) → map member_of (valued_in source seen g b) ≡ resources_in b
    members_in g (barred f) = refl
    members_in g (halted t f) = refl
    members_in g (opened t conds w) =
        members_along t.path (scoping source t conds (settings_for t.template.params g)) (first_sights t conds seen (own_ids w)) w

  found_same : (path : List ℕ) (rs : List Valued) → option_map terms_by (find (is_wanted_at path) (map wanted_of rs)) ≡ option_map member_terms (find (λ m. bytes_eq path m.path) (map member_of rs))
  found_same path [] = refl
  found_same path (r ∷ rs) = either (bytes_eq path r.0.path) (found_same path rs) where
    either : (b : Bool) → option_map terms_by (find (is_wanted_at path) (map wanted_of rs)) ≡ option_map member_terms (find (λ m. bytes_eq path m.path) (map member_of rs))
        → option_map terms_by (cond b (Some (wanted_of r)) (find (is_wanted_at path) (map wanted_of rs))) ≡ option_map member_terms (cond b (Some r.0) (find (λ m. bytes_eq path m.path) (map member_of rs)))
    either true ih = refl
    either false ih = ih

  pub wanted_terms : (shape : Shape) (path : List ℕ) → option_map terms_by (wanted_at path (plan_by source shape seen)) ≡ option_map member_terms (member_at shape path)
  wanted_terms shape path =
      found_same path (valued_in source seen (given_root source) shape)
      ∙ ap (λ (ms : List Member). option_map member_terms (find (λ m. bytes_eq path m.path) ms)) (members_in (given_root source) shape)
