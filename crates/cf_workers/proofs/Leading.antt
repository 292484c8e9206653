-- One stretch of a run after another, as events of a life; and the life that a run leaves when the book is closed.
use Rattle.std.proofs.Common.{◌≡◌, inl, ℕ, List, [], ◌∷◌, ◌++◌, Some, map, refl, sym, ◌∙◌, ap, subst}
use Rattle.cf_tree.specs.Lists.{In}
use Rattle.cf_schema.specs.declared.described.Schema.{Schema}
use Rattle.cf_schema.specs.Kinds.{found}
use Rattle.cf_plan.proofs.Causing.{map_in}
use Rattle.cf_plan.proofs.Listed.{in_map}
use Rattle.cf_plan.specs.Lanes.{Lane}
use Rattle.cf_plan.specs.Life.{Event, IsLife, Life, life_after}
use Rattle.cf_core.proofs.Always.{events_hold}
use Rattle.cf_book.specs.Lives.{DescribeLanes}
use Rattle.cf_book.specs.State.{BookLane, BookNow}
use Rattle.cf_workers.specs.Driving.{AreSameLanes, name_and_schema, names_of}
use Rattle.cf_workers.specs.Leading.{KeepOthers, LeadsOn, LeadsWith}

-- one life after another
pub along : (schemas : List Schema) (a : Life) (es : List Event) (b : Life) (fs : List Event) (c : Life) → IsLife schemas a es b → IsLife schemas b fs c
    → IsLife schemas a (es ++ fs) c
along schemas a [] b fs c h g = subst (λ (z : Life). IsLife schemas z fs c) h g
along schemas a (e ∷ es) b fs c h g = (h.0, along schemas (life_after a e) es b fs c h.1 g)

-- The same lanes have the same names and the same schemas.
abbrev names_in : List (List ℕ × Schema) → List (List ℕ)
names_in xs = map (λ x. x.0) xs

named : (lanes : List BookLane) → names_in (map name_and_schema lanes) ≡ names_of lanes
named [] = refl
named (b ∷ bs) = ap (λ ns. b.lane.name ∷ ns) (named bs)

pub same_names : (old new : List BookLane) → AreSameLanes old new → names_of new ≡ names_of old
same_names old new s = sym (named new) ∙ ap names_in s ∙ named old

abbrev Describes : List Schema → List ℕ × Schema → Type 0
Describes schemas x = found x.1.kind schemas ≡ Some x.1

abbrev EachDescribed : List Schema → List (List ℕ × Schema) → Type 0
EachDescribed schemas xs = (x : List ℕ × Schema) → In x xs → Describes schemas x

pub same_described : (schemas : List Schema) (old new : List BookLane) → AreSameLanes old new → DescribeLanes schemas old → DescribeLanes schemas new
same_described schemas old new s d b i =
    let each : EachDescribed schemas (map name_and_schema old) = λ x j.
    let (a, k, e) = map_in name_and_schema x old j in subst (Describes schemas) e (d a k) in
    subst (EachDescribed schemas) (sym s) each (name_and_schema b) (in_map name_and_schema b new i)

-- of these names alone may lanes change, in the one stretch and in the other
keep_on : (names : List (List ℕ)) (a b c : List Lane) → KeepOthers names a b → KeepOthers names b c → KeepOthers names a c
keep_on names a b c h k = record {
  same_names = k.same_names ∙ h.same_names;
  others = λ name out. k.others name out ∙ h.others name out;
}

-- A run goes on from a book in which nothing is in doubt.
pub leads_on : {D : Type 0} (a b c : BookNow D) → AreSameLanes a.lanes b.lanes → AreSameLanes b.lanes c.lanes → LeadsOn a b → LeadsOn b c → LeadsOn a c
leads_on {D} a b c same same' h k schemas life d stands holds es is = goes (h schemas life d stands holds b.entries (inl refl)) where
  goes : LeadsWith schemas life b b.entries → LeadsWith schemas life c es
  goes first = more (k schemas first.after (same_described schemas a.lanes b.lanes same d) first.stands (events_hold schemas life first.after first.events holds first.happen).0 es is) where
    more : LeadsWith schemas first.after c es → LeadsWith schemas life c es
    more second = record {
      events = first.events ++ second.events;
      after = second.after;
      happen = along schemas life first.events first.after second.events second.after first.happen second.happen;
      stands = second.stands;
      record_is = second.record_is;
      keeps =
          keep_on (names_of c.lanes) life.lanes first.after.lanes second.after.lanes
          (subst (λ names. KeepOthers names life.lanes first.after.lanes) (sym (same_names b.lanes c.lanes same')) first.keeps) second.keeps;
    }
