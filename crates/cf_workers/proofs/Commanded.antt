-- Disk and lanes agree after a command, by what the book was as it was entered and as it was closed.
use Rattle.std.proofs.Common.{◌≡◌, ℕ, true, List, [], ◌∷◌, Option, Some, None, map, option_map, refl, sym, ◌∙◌, ap, subst}
use Rattle.std.specs.Str.{bytes_eq}
use Rattle.cf_tree.specs.Lists.{In}
use Rattle.cf_tree.specs.Lists.In.{here}
use Rattle.cf_tree.specs.Named.{all_differ}
use Rattle.cf_handler.specs.Fence.{FencedLane}
use Rattle.cf_entry.specs.declared.entry.Entry.{Entry}
use Rattle.cf_schema.specs.declared.described.Schema.{Schema}
use Rattle.cf_schema.specs.Kinds.{found}
use Rattle.cf_lane.specs.Lanes.{LaneNow}
use Rattle.cf_plan.specs.Lanes.{Lane, lane_at}
use Rattle.cf_plan.specs.Life.{Lease, Life}
use Rattle.cf_plan.proofs.Causing.{map_in}
use Rattle.cf_plan.proofs.Listed.{in_map}
use Rattle.cf_core.specs.Theorem.{HoldsAlways}
use Rattle.cf_book.specs.Lives.{AreLanesOf, AreLeasesOf, DescribeLanes, lease_of, told_lane}
use Rattle.cf_book.specs.State.{BookLane, NoneOut, at_home}
use Rattle.cf_workers.specs.Agreement.{AgreeOn, all_as_told}
use Rattle.cf_workers.specs.Leading.{KeepOthers}
use Rattle.cf_workers.proofs.Agreeing.{WereLanes, agree_at, lanes_after}

-- the name, the type and the schema of each lane
abbrev pub named_as : LaneNow → List ℕ × Schema
named_as n = (n.name, n.schema)

abbrev pub names_now : List LaneNow → List (List ℕ)
names_now now = map (λ (n : LaneNow). n.name) now

-- where no call is out, none is in the life
pub none_leased : (lanes : List BookLane) (leases : List Lease) → NoneOut lanes → AreLeasesOf lanes leases → leases ≡ []
none_leased lanes [] none of = refl
none_leased lanes (l ∷ ls) none of = let (b, i, q) = of.each l here in absurd (never b (none b i) q) where
  never : (b : BookLane) → b.out ≡ None → lease_of b ≡ Some l → ⊥
  never b o q = cc

-- the same handlers come back, by name and schema
same_parts : {A : Type 0} (f : List ℕ × Schema → A) (now now' : List LaneNow) → map named_as now' ≡ map named_as now → map (λ (n : LaneNow). f (named_as n)) now' ≡ map (λ (n : LaneNow). f (named_as n)) now
same_parts {A} f now now' q = sym (parts now') ∙ ap (map f) q ∙ parts now where
  parts : (ns : List LaneNow) → map f (map named_as ns) ≡ map (λ (n : LaneNow). f (named_as n)) ns
  parts [] = refl
  parts (n ∷ ns) = ap (λ xs. f (named_as n) ∷ xs) (parts ns)

pub same_names_now : (now now' : List LaneNow) → map named_as now' ≡ map named_as now → names_now now' ≡ names_now now
same_names_now now now' q = same_parts (λ x. x.0) now now' q

-- one that comes back was handed in
module _ (now now' : List LaneNow) (same : map named_as now' ≡ map named_as now) where
  pub handed_before : (n : LaneNow) → In n now' → (k : LaneNow) × In k now × (named_as k ≡ named_as n)
  handed_before n i = map_in named_as (named_as n) now (subst (In (named_as n)) same (in_map named_as n now' i))

module _ (schemas : List Schema) (all : List Lane) (now now' : List LaneNow) (among : AreLanesOf (map at_home now) all) (described : DescribeLanes schemas (map at_home now))
    (same : map named_as now' ≡ map named_as now) where
  pub were_lanes : WereLanes all now'
  were_lanes n i =
      let (k, j, q) = handed_before now now' same n i in
      let (l, tells, at) = among (at_home k) (in_map at_home k now j) in
      (l, ap (λ m. lane_at m all) (sym (ap (λ (x : List ℕ × Schema). x.0) q) ∙ sym (told_name_is k l tells)) ∙ at, told_kind_is k l tells ∙ ap (λ (x : List ℕ × Schema). x.1.kind) q)
    where
      told_name_is : (k : LaneNow) (l : Lane) → told_lane (at_home k) ≡ Some l → l.name ≡ k.name
      told_name_is k l q = by k.told q where
        by : (o : Option FencedLane) → option_map (λ (s : FencedLane). record { name = k.name; kind = k.schema.kind; state = s }) o ≡ Some l → l.name ≡ k.name
        by None e = absurd (cc)
        by (Some s) e = cc

      told_kind_is : (k : LaneNow) (l : Lane) → told_lane (at_home k) ≡ Some l → l.kind ≡ k.schema.kind
      told_kind_is k l q = by k.told q where
        by : (o : Option FencedLane) → option_map (λ (s : FencedLane). record { name = k.name; kind = k.schema.kind; state = s }) o ≡ Some l → l.kind ≡ k.schema.kind
        by None e = absurd (cc)
        by (Some s) e = cc

  pub still_described : DescribeLanes schemas (map at_home now')
  still_described b i =
      let (n, j, e) = map_in at_home b now' i in
      let (k, m, q) = handed_before now now' same n j in
      let was : found k.schema.kind schemas ≡ Some k.schema = described (at_home k) (in_map at_home k now m) in
      subst (λ (z : BookLane). found z.lane.schema.kind schemas ≡ Some z.lane.schema) e (subst (λ (s : Schema). found s.kind schemas ≡ Some s) (ap (λ (x : List ℕ × Schema). x.1) q) was)

  -- A life to which the command's events lead, with this record, and the lanes that come back as they tell.
  module _ (differ : all_differ bytes_eq (names_now now) ≡ true) (named : all_differ bytes_eq (map (λ (l : Lane). l.name) all) ≡ true) (life : Life)
      (lanes : AreLanesOf (map at_home now') life.lanes) (keep : KeepOthers (names_now now) all life.lanes) where
    all_now : life.lanes ≡ all_as_told now' all
    all_now =
        lanes_after all now' (ap (all_differ bytes_eq) (same_names_now now now' same) ∙ differ) life.lanes lanes were_lanes
        (subst (λ ns. KeepOthers ns all life.lanes) (sym (same_names_now now now' same)) keep) named

    pub lanes_are : AreLanesOf (map at_home now') (all_as_told now' all)
    lanes_are = subst (AreLanesOf (map at_home now')) all_now lanes

    pub agrees_then : (es : List Entry) → HoldsAlways schemas life → life.leases ≡ [] → life.entries ≡ es → AgreeOn schemas es (all_as_told now' all)
    agrees_then es h none q = agree_at schemas life es (all_as_told now' all) h none q all_now
