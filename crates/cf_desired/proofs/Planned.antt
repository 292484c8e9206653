-- What a plan says by its shape: what each path needs is wanted before it, and all is known where all is seen.
use Rattle.std.proofs.Common.{◌≡◌, ℕ, List, [], ◌∷◌, ◌++◌, Bool, true, ◌&&◌, IsTrue, map, refl, sym, ap, subst, ◌∙◌}
use Rattle.std.specs.Prelude.{⊤}
use Rattle.std.specs.List.{list_all}
use Rattle.cf_tree.specs.Lists.{is_among}
use Rattle.cf_tree.specs.declared.source.Source.{Source}
use Rattle.cf_desired.specs.ComeFirst.{ComeFirst}
use Rattle.cf_desired.specs.Plan.{plan_of, wanted_of}
use Rattle.cf_desired.specs.Seeing.{Seen}
use Rattle.cf_desired.specs.Shape.{given_root, shape_of}
use Rattle.cf_desired.specs.Stays.{IsAllKnown, is_shown}
use Rattle.cf_desired.specs.Valued.{valued_in}
use Rattle.cf_desired.specs.Work.{Member}
use Rattle.cf_desired.specs.declared.wanted.Wanted.{Wanted}
use Rattle.cf_desired.proofs.ComeFirst.{needs_first}
use Rattle.cf_desired.proofs.SeenKnown.{seen_known}
use Rattle.cf_desired.proofs.Termed.{Valued, members_in}

abbrev member_in : Valued → Member
member_in r = r.0

-- what each needs is wanted before it
abbrev pub WantedFirst : List (List ℕ) → List Wanted → Type 0
WantedFirst before [] = ⊤
WantedFirst before (w ∷ ws) = IsTrue (list_all (λ q. is_among q before) w.needs) × WantedFirst (before ++ w.path ∷ []) ws

first_wanted : (before : List (List ℕ)) (rs : List Valued) → ComeFirst before (map member_in rs) → WantedFirst before (map wanted_of rs)
first_wanted before [] h = tt
first_wanted before (r ∷ rs) h = (h.0, first_wanted (before ++ r.0.path ∷ []) rs h.1)

pub wanted_first : (source : Source) (seen : Seen) → WantedFirst [] (plan_of source seen).wanted
wanted_first source seen =
    first_wanted [] (valued_in source seen (given_root source) (shape_of source seen))
    (subst (ComeFirst []) (sym (members_in source seen (given_root source) (shape_of source seen))) (needs_first source seen))

-- a plan without a flaw is known where all that it wants is seen
abbrev pub is_seen_at : Seen → Wanted → Bool
is_seen_at seen w = is_shown seen w.path

seen_all : (seen : Seen) (rs : List Valued) → list_all (is_seen_at seen) (map wanted_of rs) ≡ list_all (λ m. is_shown seen m.path) (map member_in rs)
seen_all seen [] = refl
seen_all seen (r ∷ rs) = ap (λ b. is_shown seen r.0.path && b) (seen_all seen rs)

pub plan_known :
    (source : Source) (seen : Seen) → list_all (is_seen_at seen) (plan_of source seen).wanted ≡ true → (plan_of source seen).flaws ≡ []
    → IsAllKnown (plan_of source seen)
plan_known source seen h none =
    seen_known source seen seen
    (sym (seen_all seen (valued_in source seen (given_root source) (shape_of source seen))
    ∙ ap (λ (ms : List Member). list_all (λ m. is_shown seen m.path) ms) (members_in source seen (given_root source) (shape_of source seen))) ∙ h)
    none
