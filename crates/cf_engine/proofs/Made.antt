-- The disk and the lanes that the program makes agree.
use Rattle.std.proofs.Common.{◌≡◌, inl, inr, List, [], ◌∷◌, Some, Ok, map, refl, sym, subst}
use Rattle.cf_tree.specs.Lists.{In}
use Rattle.cf_disk.specs.Disk.{Only}
use Rattle.cf_disk.specs.declared.disk.Disk.{Ghosts as DiskGhosts}
use Rattle.cf_handler.specs.Lane.{live_of}
use Rattle.cf_handler.specs.declared.handler.Handler.{Ghosts as HandlerGhosts}
use Rattle.cf_journal.specs.Record.{record_of}
use Rattle.cf_schema.specs.Kinds.{found}
use Rattle.cf_plan.proofs.Listed.{in_cons, in_none}
use Rattle.cf_plan.specs.Lanes.{Lane, lane_at}
use Rattle.cf_plan.specs.Life.{IsStart}
use Rattle.cf_book.specs.Fences.{handed_in}
use Rattle.cf_book.specs.Lives.{AreLanesOf, DescribeLanes, told_lane}
use Rattle.cf_book.specs.State.{BookLane, at_home}
use Rattle.cf_workers.specs.Agreement.{Agree, at_rest}
use Rattle.cf_top.proofs.Histories.{new_agrees}
use Rattle.cf_engine.specs.Program.{new_lanes, program_schemas, unused_lanes}

-- what is so of each of four is so of all
of_four :
    {A : Type 0} (a b c d : A) (P : A → Type 0) → P a → P b → P c → P d → (x : A) → In x (a ∷ b ∷ c ∷ d ∷ []) → P x
of_four a b c d P p q r s x i = elim (in_cons i) [
  | inl e ↦ subst P e p
  | inr j ↦ elim (in_cons j) [
    | inl e ↦ subst P e q
    | inr k ↦ elim (in_cons k) [
      | inl e ↦ subst P e r
      | inr l ↦ elim (in_cons l) [ inl e ↦ subst P e s | inr m ↦ absurd (in_none m) ]
    ]
  ]
]

-- nothing was ever called on them
start : IsStart program_schemas (at_rest [] unused_lanes)
start = record {
  no_entries = refl;
  closed = refl;
  no_leases = refl;
  named = record { named = refl; names_differ = refl };
  described = record { kinds_differ = refl; described = refl };
  untouched = of_four _ _ _ _
      (λ (l : Lane). (l.state.state.settled ≡ []) × (l.state.flying ≡ []) × (l.state.fence ≡ 0) × (live_of l.state.state ≡ []))
      (refl, refl, refl, refl) (refl, refl, refl, refl) (refl, refl, refl, refl) (refl, refl, refl, refl);
}

are_lanes : AreLanesOf (map at_home new_lanes) unused_lanes
are_lanes = of_four _ _ _ _ (λ (b : BookLane). (l : Lane) × (told_lane b ≡ Some l) × (lane_at l.name unused_lanes ≡ Some l))
    (_, refl, refl) (_, refl, refl) (_, refl, refl) (_, refl, refl)

described : DescribeLanes program_schemas (map at_home new_lanes)
described = of_four _ _ _ _ (λ (b : BookLane). found b.lane.schema.kind program_schemas ≡ Some b.lane.schema) refl refl refl refl

-- a disk on which nothing stands, and these lanes
pub made_agrees :
    {D H : Type 0} (g : DiskGhosts D) (h : HandlerGhosts H) (disk : D) (handlers : List H) → Only [] (g.may_leave disk)
    → handed_in h handlers ≡ new_lanes → Agree g h program_schemas disk handlers unused_lanes
made_agrees g h disk handlers synced e = record {
  among = record {
    lanes = subst (λ ls. AreLanesOf (map at_home ls) unused_lanes) (sym e) are_lanes;
    described = subst (λ ls. DescribeLanes program_schemas (map at_home ls)) (sym e) described;
  };
  each = new_agrees g program_schemas (record { disk = disk; all = unused_lanes }) (record {
    empty = λ file left. subst (λ f. record_of f ≡ Ok []) (sym (synced file left)) refl;
    start = start;
  });
}
