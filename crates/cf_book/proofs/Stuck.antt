-- What comes next in an operation is never lacking: what may follow by the life's schemas may start by those of the book's lanes.
use Rattle.std.proofs.Common.{List, None, Some, [], ℕ, ◌≡◌, false, inl, inr, map, subst, sym, true, true≢false}
use Rattle.cf_schema.specs.declared.described.Schema.{Schema}
use Rattle.cf_entry.specs.declared.entry.Entry.{Entry}
use Rattle.cf_entry.specs.declared.entry.Entry.TheVariants as entry
use Rattle.cf_effect.specs.World.{StackState, World, is_going, stack_of_operation}
use Rattle.cf_effect.specs.declared.held.Pending.{Pending}
use Rattle.cf_stacks.proofs.Worlds.{found_stands}
use Rattle.cf_next.specs.Chosen.{HasNoStep, MayStartOn, schemas_of}
use Rattle.cf_next.specs.declared.step.Next.{Next}
use Rattle.cf_next.specs.declared.step.Next.TheVariants as next
use Rattle.cf_plan.proofs.AtHome.{no_lane_out}
use Rattle.cf_plan.proofs.SameSchemas.{same_granted, same_repeat, same_back}
use Rattle.cf_plan.specs.Follow.{MayFollowOn, MayRepeatOn}
use Rattle.cf_plan.specs.Life.{Life, world_of}
use Rattle.cf_plan.specs.SameSchemas.{TellForward}
use Rattle.cf_core.proofs.Always.{operations_go_on}
use Rattle.cf_book.proofs.Told.{tells_forward}
use Rattle.cf_book.specs.State.{BookLane, BookNow, home_of}
use Rattle.cf_book.specs.Granting.{HasStep, NoneComes}
use Rattle.cf_book.specs.Lives.{DescribeLanes, InLife, NamesLanes}
use Rattle.cf_book.specs.Record.{world_left}
use Rattle.cf_book.proofs.Written.{known_entries}
use Rattle.cf_core.specs.GoesOn.{HasKinds}
use Rattle.cf_core.specs.Theorem.{HoldsAlways}
use Rattle.cf_effect.specs.Status.{goes_forward}

-- by schemas that tell the same of stacks that go forward
module _ (a b : List Schema) (x : World) (number : ℕ)
    (tell : (n : ℕ) (name : List ℕ) (s : StackState) → stack_of_operation n x ≡ Some (name, s) → TellForward a b s) where
  starts_by : (e : Entry) → MayFollowOn a number x [] e → (n : Next) × MayStartOn b x [] number n
  starts_by (entry.Intent n token lane path r) may =
      (next.Step path lane token r false, same_granted a b x [] (entry.Intent number token lane path r) tt tell may)
  starts_by (entry.Kept n path physical w) may =
      (next.Keep path physical w, same_granted a b x [] (entry.Kept number path physical w) tt tell may)
  starts_by (entry.Phase n p cause) may = (next.Turn p cause, same_granted a b x [] (entry.Phase number p cause) tt tell may)
  starts_by (entry.Done n state failed) may = (next.End state failed, same_granted a b x [] (entry.Done number state failed) tt tell may)
  starts_by (entry.Outcome n token answer before after) may = absurd (true≢false (sym may.5.0))
  starts_by (entry.Opened epoch lanes) may = absurd may.5
  starts_by (entry.Begin n name k) may = absurd may.5
  starts_by (entry.ChangeSet n name source rows outputs) may = absurd may.5

  again_by : (p : Pending) → MayRepeatOn a x [] number p → (n : Next) × MayStartOn b x [] number n
  again_by p (name, s, stage, at, is, may) =
      let again = same_repeat a b name x s (tell number name s at) [] stage is p may in
      (next.Step p.path p.lane p.token p.request true, (name, s, stage, at, is, record { repeats = again; home = no_lane_out x p.lane }))

never_none : (schemas : List Schema) (lanes : List BookLane) (life : Life) (number : ℕ) (name : List ℕ) (s : StackState) → DescribeLanes schemas lanes
    → NamesLanes lanes (world_of life) → HoldsAlways schemas life → stack_of_operation number (world_of life) ≡ Some (name, s)
    → (goes_forward s.status ≡ true → HasKinds (world_of life) s) → NoneComes lanes life.entries number → ⊥
never_none schemas lanes life number name s described named holds going kinds stuck =
    elim (operations_go_on schemas life number name s holds going kinds) [
      | inl e ↦ none (starts_by schemas ours x number tell e.0 e.1)
      | inr p ↦ none (again_by schemas ours x number tell p.0 p.1)
    ]
  where
    x : World
    x = world_of life

    ours : List Schema
    ours = schemas_of (map home_of lanes)

    tell : (n : ℕ) (m : List ℕ) (t : StackState) → stack_of_operation n x ≡ Some (m, t) → TellForward schemas ours t
    tell n m t at forward =
        let stands = found_stands (λ (p : List ℕ × StackState). is_going n p.1) x.stacks (m, t) holds.sound.orderly.apart.names at in
        same_back ours schemas t (tells_forward schemas lanes life described named holds m t stands forward)

    none : (n : Next) × MayStartOn ours x [] number n → ⊥
    none (n, may) = (subst (λ out. HasNoStep ours x out number) stuck.idle stuck).none n may

-- nor is it in a life that a book stands for in which nothing is in doubt
pub never_stuck : {D : Type 0} (schemas : List Schema) (life : Life) (b : BookNow D) (number : ℕ) → b.doubt ≡ None
    → InLife schemas life b (HasStep b number)
never_stuck schemas life b number certain described stands holds =
    subst (λ es. (name : List ℕ) (s : StackState) → stack_of_operation number (world_left es) ≡ Some (name, s)
    → (goes_forward s.status ≡ true → HasKinds (world_left es) s) → NoneComes b.lanes es number → ⊥) (known_entries b life stands certain)
    (λ name s. never_none schemas b.lanes life number name s described stands.named holds)
