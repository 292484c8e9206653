-- With fewer imports, with which it comes to the same, a source changes the same: what is found of it is found path by path from what it
-- wants of them.
use Rattle.std.proofs.Common.{◌≡◌, ℕ, List, [], ◌∷◌, ◌++◌, Bool, true, false, ◌||◌, not, Option, Some, None, fold, map, find, option_map, refl, sym, ap, subst, ◌∙◌, ◌⊎◌, inl, inr, true≢false}
use Rattle.std.specs.Prelude.{cond, option_and_then}
use Rattle.std.specs.Cmp.{first_so, second_so}
use Rattle.std.specs.List.{list_any}
use Rattle.std.specs.Option.{option_map_or}
use Rattle.std.specs.Str.{bytes_eq}
use Rattle.std.proofs.lemmas.Slice.Eq.{bytes_eq-Decides}
use Rattle.cf_tree.specs.Keys.{value_at, put}
use Rattle.cf_tree.specs.Lists.{is_among}
use Rattle.cf_tree.specs.Named.{all_differ}
use Rattle.cf_tree.specs.declared.source.Source.{Source}
use Rattle.cf_schema.specs.declared.described.Schema.{Schema}
use Rattle.cf_desired.specs.declared.wanted.Evaluated.{Evaluated}
use Rattle.cf_desired.specs.declared.wanted.Plan.{Plan}
use Rattle.cf_desired.specs.declared.wanted.Wanted.{Wanted}
use Rattle.cf_desired.specs.Seeing.{SeenAt}
use Rattle.cf_desired.specs.ComeFirst.{ComeFirst}
use Rattle.cf_desired.specs.Plan.{at_path, member_at, plan_by, plan_of, props_at, wanted_of}
use Rattle.cf_desired.specs.Seeing.{Seen}
use Rattle.cf_desired.specs.Shape.{given_root, shape_of}
use Rattle.cf_desired.specs.Stays.{AgreeAt}
use Rattle.cf_desired.specs.Valued.{resources_in, valued_in}
use Rattle.cf_desired.specs.Work.{Member, Shape}
use Rattle.cf_desired.proofs.Apart.{members_apart}
use Rattle.cf_desired.proofs.ComeFirst.{among_split, needs_first}
use Rattle.cf_desired.proofs.Flawless.{flawless_clear}
use Rattle.cf_desired.proofs.NeedsMatter.{needs_suffice}
use Rattle.cf_desired.proofs.Puts.{among_pass, value_put}
use Rattle.cf_desired.proofs.ShapeStays.{shape_stays}
use Rattle.cf_desired.proofs.Termed.{Valued, member_of, members_in}
use Rattle.cf_change.specs.Changes.{RowsFound, HeldAt, found_next, found_of, found_with, held_seen, is_other_kind, resource_held, row_for, row_list, seen_after}
use Rattle.cf_change.specs.Hidden.{HeldShowsMore}
use Rattle.cf_plan.specs.Accept.{with_imports}
use Rattle.cf_prepare.specs.Imports.{UsedSuffice}

-- paths
same_path : (p : List ℕ) → bytes_eq p p ≡ true
same_path p = (bytes_eq-Decides p p).1 refl

other_way : (p q : List ℕ) → bytes_eq p q ≡ false → bytes_eq q p ≡ false
other_way p q e = by (bytes_eq q p) refl where
  by : (b : Bool) → bytes_eq q p ≡ b → b ≡ false
  by true h = absurd (true≢false (sym (same_path p) ∙ ap (bytes_eq p) (sym ((bytes_eq-Decides q p).0 h)) ∙ e))
  by false h = refl

not_so : (b : Bool) → not b ≡ true → b ≡ false
not_so true h = absurd (true≢false (sym h))
not_so false h = refl

neither_so : (a b : Bool) → (a || b) ≡ false → (a ≡ false) × (b ≡ false)
neither_so true b h = absurd (true≢false h)
neither_so false b h = (refl, h)

abbrev path_of : Valued → List ℕ
path_of r = r.0.path

abbrev paths_in : List Valued → List (List ℕ)
paths_in rs = map path_of rs

-- each of some stands among all under its path
abbrev Own : List Valued → List Valued → Type 0
Own all [] = Unit {0}
Own all (r ∷ rs) = (at_path (path_of r) all ≡ Some r) × Own all rs

own_behind : (r : Valued) (all rs : List Valued) → is_among (path_of r) (paths_in rs) ≡ false → Own all rs → Own (r ∷ all) rs
own_behind r all [] h o = tt
own_behind r all (s ∷ rs) h o =
    let apart = neither_so (bytes_eq (path_of r) (path_of s)) (is_among (path_of r) (paths_in rs)) h in
    (ap (λ b. cond b (Some r) (at_path (path_of s) all)) (other_way (path_of r) (path_of s) apart.0) ∙ o.0, own_behind r all rs apart.1 o.1)

own_all : (rs : List Valued) → all_differ bytes_eq (paths_in rs) ≡ true → Own rs rs
own_all [] d = tt
own_all (r ∷ rs) d = (
  ap (λ b. cond b (Some r) (at_path (path_of r) rs)) (same_path (path_of r)),
  own_behind r rs rs (not_so (is_among (path_of r) (paths_in rs)) (first_so (not (list_any (bytes_eq (path_of r)) (paths_in rs))) (all_differ bytes_eq (paths_in rs)) d))
      (own_all rs (second_so (not (list_any (bytes_eq (path_of r)) (paths_in rs))) (all_differ bytes_eq (paths_in rs)) d)),
)

find_member : (p : List ℕ) (rs : List Valued) → find (λ m. bytes_eq p m.path) (map member_of rs) ≡ option_map member_of (at_path p rs)
find_member p [] = refl
find_member p (r ∷ rs) = by (bytes_eq p (path_of r)) (find_member p rs) where
  by : (b : Bool) → find (λ m. bytes_eq p m.path) (map member_of rs) ≡ option_map member_of (at_path p rs)
      → cond b (Some r.0) (find (λ m. bytes_eq p m.path) (map member_of rs)) ≡ option_map member_of (cond b (Some r) (at_path p rs))
  by true ih = refl
  by false ih = ih

paths_same : (rs : List Valued) → map (λ m. m.path) (map member_of rs) ≡ paths_in rs
paths_same [] = refl
paths_same (r ∷ rs) = ap (λ ps. path_of r ∷ ps) (paths_same rs)

-- what is found of one path leaves the others as they were
module _ (schemas : List Schema) (held : List HeldAt) where
  abbrev with_row : RowsFound → Wanted → RowsFound
  with_row f w = record f {
    rows = f.rows ++ row_list (row_for schemas (resource_held w.path held) w);
    seen = put w.path (seen_after (resource_held w.path held) (row_for schemas (resource_held w.path held) w)) f.seen;
  }

  abbrev with_clash : RowsFound → Wanted → RowsFound
  with_clash f w = record f { clash = f.clash ++ w.path ∷ []; seen = put w.path (seen_after (resource_held w.path held) None) f.seen }

  past_put : (q p : List ℕ) (v : SeenAt) (seen : Seen) → bytes_eq q p ≡ false → value_at q (put p v seen) ≡ value_at q seen
  past_put q p v seen e = value_put q p v seen ∙ ap (λ b. cond b (Some v) (value_at q seen)) e

  past_with : (q : List ℕ) (f : RowsFound) (w : Wanted) → bytes_eq q w.path ≡ false → value_at q (found_with schemas held f w).seen ≡ value_at q f.seen
  past_with q f w e = by (is_other_kind (resource_held w.path held) w) where
    by : (b : Bool) → value_at q (cond b (with_clash f w) (with_row f w)).seen ≡ value_at q f.seen
    by true = past_put q w.path (seen_after (resource_held w.path held) None) f.seen e
    by false = past_put q w.path (seen_after (resource_held w.path held) (row_for schemas (resource_held w.path held) w)) f.seen e

  past_all : (q : List ℕ) (f : RowsFound) (rs : List Valued) → is_among q (paths_in rs) ≡ false
      → value_at q (fold (found_with schemas held) f (map wanted_of rs)).seen ≡ value_at q f.seen
  past_all q f [] h = refl
  past_all q f (r ∷ rs) h =
      let apart = neither_so (bytes_eq q (path_of r)) (is_among q (paths_in rs)) h in
      past_all q (found_with schemas held f (wanted_of r)) rs apart.1 ∙ past_with q f (wanted_of r) apart.0

  module _ (source : Source) (before end : Seen) where
    abbrev shape : Shape
    shape = shape_of source before

    abbrev all : List Valued
    all = valued_in source end (given_root source) shape

    abbrev step : RowsFound → Member → RowsFound
    step f m = found_next schemas held source shape f m

    past_step : (q : List ℕ) (f : RowsFound) (m : Member) → bytes_eq q m.path ≡ false → value_at q (step f m).seen ≡ value_at q f.seen
    past_step q f m e = by (props_at source shape f.seen m.path) where
      by : (o : Option Evaluated) → value_at q (option_map_or (λ v. found_with schemas held f (wanted_of (m, v))) o f).seen ≡ value_at q f.seen
      by None = refl
      by (Some v) = past_with q f (wanted_of (m, v)) e

    past_steps : (q : List ℕ) (f : RowsFound) (rs : List Valued) → is_among q (paths_in rs) ≡ false → value_at q (fold step f (map member_of rs)).seen ≡ value_at q f.seen
    past_steps q f [] h = refl
    past_steps q f (r ∷ rs) h =
        let apart = neither_so (bytes_eq q (path_of r)) (is_among q (paths_in rs)) h in
        past_steps q (step f r.0) rs apart.1 ∙ past_step q f r.0 apart.0

    -- the properties of a path over what is seen before it are those over what is seen in the end
    agrees : (ps : List (List ℕ)) (f : RowsFound) → ((q : List ℕ) → is_among q ps ≡ true → value_at q end ≡ value_at q f.seen) → AgreeAt ps end f.seen
    agrees ps f h q among = (ap (option_and_then (λ s. s.physical)) (sym (h q among)), ap (option_and_then (λ s. s.attrs)) (sym (h q among)))

    own_member : (r : Valued) → at_path (path_of r) all ≡ Some r → member_at shape (path_of r) ≡ Some r.0
    own_member r o =
        ap (find (λ m. bytes_eq (path_of r) m.path)) (sym (members_in source end (given_root source) shape))
        ∙ find_member (path_of r) all ∙ ap (option_map member_of) o

    one_step : (f : RowsFound) (r : Valued) → at_path (path_of r) all ≡ Some r
        → ((q : List ℕ) → is_among q r.0.needs ≡ true → value_at q end ≡ value_at q f.seen) → step f r.0 ≡ found_with schemas held f (wanted_of r)
    one_step f r o h =
        ap (λ v. option_map_or (λ v. found_with schemas held f (wanted_of (r.0, v))) v f)
        (needs_suffice source before end f.seen (path_of r) r.0 (own_member r o) (agrees r.0.needs f h) ∙ ap (option_map (λ x. x.1)) o)

    -- what was done is apart from what is left, and what each needs was done
    pub record IsLeft (done : List (List ℕ)) (rs : List Valued) : Type 0 where
      pub own : Own all rs
      pub first : ComeFirst done (map member_of rs)
      pub differ : all_differ bytes_eq (paths_in rs) ≡ true
      pub apart : (q : List ℕ) → is_among q done ≡ true → is_among q (paths_in rs) ≡ false

    left_behind : (done : List (List ℕ)) (r : Valued) (rs : List Valued) → IsLeft done (r ∷ rs) → IsLeft (done ++ path_of r ∷ []) rs
    left_behind done r rs h = record {
      own = h.own.1;
      first = h.first.1;
      differ = second_so (not (list_any (bytes_eq (path_of r)) (paths_in rs))) (all_differ bytes_eq (paths_in rs)) h.differ;
      apart = λ q among. by q (among_split q done (path_of r ∷ []) among);
    } where
      here : (q : List ℕ) (b : Bool) → bytes_eq q (path_of r) ≡ b → (b || false) ≡ true → is_among q (paths_in rs) ≡ false
      here q true e h2 =
          ap (λ p. is_among p (paths_in rs)) ((bytes_eq-Decides q (path_of r)).0 e)
          ∙ not_so (is_among (path_of r) (paths_in rs)) (first_so (not (list_any (bytes_eq (path_of r)) (paths_in rs))) (all_differ bytes_eq (paths_in rs)) h.differ)
      here q false e h2 = absurd (true≢false (sym h2))

      by : (q : List ℕ) → (is_among q done ≡ true) ⊎ (is_among q (path_of r ∷ []) ≡ true) → is_among q (paths_in rs) ≡ false
      by q (inl a) = (neither_so (bytes_eq q (path_of r)) (is_among q (paths_in rs)) (h.apart q a)).1
      by q (inr a) = here q (bytes_eq q (path_of r)) refl a

    -- what a path needs is not among what is left
    needed : (done : List (List ℕ)) (r : Valued) (rs : List Valued) → IsLeft done (r ∷ rs) → (q : List ℕ) → is_among q r.0.needs ≡ true → is_among q (paths_in (r ∷ rs)) ≡ false
    needed done r rs h q among = h.apart q (among_pass (λ p. is_among p done) r.0.needs q h.first.0 among)

    -- where the end is that of the steps, they find what is wanted over the end
    by_steps : (done : List (List ℕ)) (f : RowsFound) (rs : List Valued) → IsLeft done rs → end ≡ (fold step f (map member_of rs)).seen
        → fold step f (map member_of rs) ≡ fold (found_with schemas held) f (map wanted_of rs)
    by_steps done f [] h e = refl
    by_steps done f (r ∷ rs) h e =
        by_steps (done ++ path_of r ∷ []) (step f r.0) rs (left_behind done r rs h) e
        ∙ ap (λ g. fold (found_with schemas held) g (map wanted_of rs))
        (one_step f r h.own.0 (λ q among. ap (value_at q) e ∙ past_steps q f (r ∷ rs) (needed done r rs h q among)))

    -- and where the end is that of what is wanted
    by_wanted : (done : List (List ℕ)) (f : RowsFound) (rs : List Valued) → IsLeft done rs → end ≡ (fold (found_with schemas held) f (map wanted_of rs)).seen
        → fold step f (map member_of rs) ≡ fold (found_with schemas held) f (map wanted_of rs)
    by_wanted done f [] h e = refl
    by_wanted done f (r ∷ rs) h e =
        ap (λ g. fold step g (map member_of rs))
        (one_step f r h.own.0 (λ q among. ap (value_at q) e ∙ past_all q f (r ∷ rs) (needed done r rs h q among)))
        ∙ by_wanted (done ++ path_of r ∷ []) (found_with schemas held f (wanted_of r)) rs (left_behind done r rs h) e

    members : map member_of all ≡ resources_in shape
    members = members_in source end (given_root source) shape

    all_left : IsLeft [] all
    all_left =
        let differ : all_differ bytes_eq (paths_in all) ≡ true =
        ap (all_differ bytes_eq) (sym (paths_same all) ∙ ap (map (λ m. m.path)) members) ∙ members_apart source before in
        record {
          own = own_all all differ;
          first = subst (ComeFirst []) (sym members) (needs_first source before);
          differ = differ;
          apart = λ q among. absurd (true≢false (sym among));
        }

    abbrev first : RowsFound
    first = record { rows = []; seen = []; clash = [] }

    abbrev found : RowsFound
    found = fold step first (resources_in shape)

    pub found_steps : end ≡ found.seen → found ≡ fold (found_with schemas held) first (plan_by source shape end).wanted
    found_steps e =
        ap (fold step first) (sym members)
        ∙ by_steps [] first all all_left (e ∙ ap (λ ms. (fold step first ms).seen) (sym members))

    pub found_wanted : end ≡ (fold (found_with schemas held) first (plan_by source shape end).wanted).seen → found ≡ fold (found_with schemas held) first (plan_by source shape end).wanted
    found_wanted e = ap (fold step first) (sym members) ∙ by_wanted [] first all all_left e

module _ (shows : HeldShowsMore) (schemas : List Schema) (held : List HeldAt) (source : Source) (imports : List (List ℕ × List ℕ)) where
  abbrev end : Seen
  end = (found_of schemas held source).seen

  abbrev fewer : Source
  fewer = with_imports source imports

  abbrev none_found : RowsFound
  none_found = record { rows = []; seen = []; clash = [] }

  abbrev run : List Wanted → RowsFound
  run ws = fold (found_with schemas held) none_found ws

  plan_kept : (s : Source) → (plan_of s end).flaws ≡ [] → plan_by s (shape_of s (held_seen held)) end ≡ plan_of s end
  plan_kept s h =
      ap (λ (b : Shape). plan_by s b end)
      (shape_stays s end (held_seen held) (shows schemas held source) (flawless_clear s (shape_of s end) end h))

  by_source : found_of schemas held source ≡ run (plan_by source (shape_of source (held_seen held)) end).wanted
  by_source = found_steps schemas held source (held_seen held) end refl

  by_fewer : (plan_of source end).flaws ≡ [] → plan_of fewer end ≡ plan_of source end → found_of schemas held fewer ≡ found_of schemas held source
  by_fewer none same = found_wanted schemas held fewer (held_seen held) end (ap (λ (f : RowsFound). f.seen) (sym wanted_same)) ∙ wanted_same where
    plans : plan_by fewer (shape_of fewer (held_seen held)) end ≡ plan_by source (shape_of source (held_seen held)) end
    plans = plan_kept fewer (ap (λ (p : Plan). p.flaws) same ∙ none) ∙ same ∙ sym (plan_kept source none)

    wanted_same : run (plan_by fewer (shape_of fewer (held_seen held)) end).wanted ≡ found_of schemas held source
    wanted_same = ap (λ (p : Plan). run p.wanted) plans ∙ sym by_source

pub used_suffice : HeldShowsMore → UsedSuffice
used_suffice shows schemas held source imports none same = by_fewer shows schemas held source imports none same
