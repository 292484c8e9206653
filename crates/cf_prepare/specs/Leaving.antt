-- How imports that a source doesn't use are left out of it, one after another (this project's own).
use Rattle.std.specs.Prelude.{◌≡◌, ◌≢◌, ℕ, ◌<◌, Bool, List, Some, length, MatchBool}
use Rattle.cf_tree.specs.Keys.{value_at}
use Rattle.cf_tree.specs.declared.source.Source.{Source}
use Rattle.cf_desired.specs.Plan.{plan_of}
use Rattle.cf_desired.specs.Seeing.{Seen}
use Rattle.cf_desired.specs.declared.wanted.Plan.{Plan}
use Rattle.cf_plan.specs.Accept.{with_imports, without_import}

-- the source without an import
abbrev pub leaving_out : List ℕ → Source → Source
leaving_out name source = with_imports source (without_import name source.imports)

-- without it the source comes to another plan than this
abbrev pub IsUsed : Seen → Plan → Source → List ℕ → Type 0
IsUsed seen p source name = plan_of (leaving_out name source) seen ≢ p

-- the import is left out where that makes no difference, and else nothing changes
abbrev pub LeavesOut : Seen → Plan → List ℕ → Source → Source → Bool → Type 0
LeavesOut seen p name old new out =
    MatchBool out ((new ≡ leaving_out name old) × (plan_of new seen ≡ p)) ((new ≡ old) × IsUsed seen p old name)

-- new is old with some of its imports, and comes to this plan where old does
pub record KeepsPlan (seen : Seen) (p : Plan) (old new : Source) : Type 0 where
  pub rest : new ≡ with_imports old new.imports
  pub part : (n v : List ℕ) → value_at n new.imports ≡ Some v → value_at n old.imports ≡ Some v
  pub same : plan_of old seen ≡ p → plan_of new seen ≡ p

abbrev pub AllUsed : Seen → Plan → Source → Type 0
AllUsed seen p source = (n v : List ℕ) → value_at n source.imports ≡ Some v → IsUsed seen p source n

-- there are fewer, or each is used
abbrev pub LeavesSome : Seen → Plan → Source → Source → Bool → Type 0
LeavesSome seen p old new out =
    KeepsPlan seen p old new × MatchBool out (length new.imports < length old.imports) (AllUsed seen p new)

abbrev pub HasOnlyUsed : Seen → Plan → Source → Source → Type 0
HasOnlyUsed seen p old new = KeepsPlan seen p old new × AllUsed seen p new
