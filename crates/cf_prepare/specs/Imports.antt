-- Which of the exports that a source may import it uses (User Guide: Fn::ImportValue; that the others are left out is this
-- project's own).
use Rattle.std.specs.Prelude.{◌≡◌, ◌≢◌, ℕ, List, [], Some}
use Rattle.cf_tree.specs.Keys.{value_at}
use Rattle.cf_tree.specs.declared.source.Source.{Source}
use Rattle.cf_schema.specs.declared.described.Schema.{Schema}
use Rattle.cf_desired.specs.Plan.{plan_of}
use Rattle.cf_desired.specs.Seeing.{Seen}
use Rattle.cf_change.specs.Changes.{HeldAt, found_of}
use Rattle.cf_plan.specs.Accept.{with_imports, without_import}

-- with these imports alone a source comes to the same; without one of them it would not; and there is none where it comes to the
-- same without any
pub record UsesJust (source : Source) (seen : Seen) (imports : List (List ℕ × List ℕ)) : Type 0 where
  pub part : (n v : List ℕ) → value_at n imports ≡ Some v → value_at n source.imports ≡ Some v
  pub enough : plan_of (with_imports source imports) seen ≡ plan_of source seen
  pub all_used :
      (n v : List ℕ) → value_at n imports ≡ Some v
      → plan_of (with_imports source (without_import n imports)) seen ≢ plan_of (with_imports source imports) seen
  pub none : plan_of (with_imports source []) seen ≡ plan_of source seen → imports ≡ []

-- Where a source has no flaw and comes to the same with fewer imports, over what its changes leave to be seen, then it changes the
-- same with these.
abbrev pub UsedSuffice : Type 0
UsedSuffice =
    (schemas : List Schema) (held : List HeldAt) (source : Source) (imports : List (List ℕ × List ℕ))
    → (plan_of source (found_of schemas held source).seen).flaws ≡ []
    → plan_of (with_imports source imports) (found_of schemas held source).seen ≡ plan_of source (found_of schemas held source).seen
    → found_of schemas held (with_imports source imports) ≡ found_of schemas held source
