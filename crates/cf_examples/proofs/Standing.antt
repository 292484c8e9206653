-- What is found at a path is one of the list, and of that path; and when a stack of which each resource is right is complete.
use Rattle.std.proofs.Common.{◌≡◌, List, [], Some, ℕ, sym, subst, ◌∙◌, ap}
use Rattle.std.specs.Prelude.{find, not, map}
use Rattle.std.specs.Str.{bytes_eq}
use Rattle.std.proofs.lemmas.Slice.Eq.{bytes_eq-Decides}
use Rattle.cf_desired.specs.Whole.{Right}
use Rattle.cf_effect.specs.declared.held.Held.{Held}
use Rattle.cf_effect.specs.Words.{current_at, is_current_at}
use Rattle.cf_effect.specs.End.{is_right_at}
use Rattle.cf_effect.specs.Listed.{export_by}
use Rattle.cf_tree.specs.Lists.{In}
use Rattle.cf_tree.specs.Keys.{value_at}
use Rattle.cf_tree.specs.declared.source.Source.{Source}
use Rattle.cf_handler.specs.Lane.{Live}
use Rattle.cf_desired.specs.Seeing.{Seen}
use Rattle.cf_desired.specs.Whole.{Whole, whole_of}
use Rattle.cf_effect.specs.World.{StackState, World}
use Rattle.cf_plan.specs.Accept.{exports_in}
use Rattle.cf_plan.specs.Lanes.{Lane}
use Rattle.cf_plan.specs.Ends.{IsLive, right_at, IsComplete}
use Rattle.cf_examples.proofs.Lists.{and_true, found_passes, some_is, in_none}

-- the resource of a path is one of the list, and its own path is that one
pub held_there : (path : List ℕ) (hs : List Held) (r : Held) → current_at path hs ≡ Some r → (r.path ≡ path) × In r hs
held_there path hs r e =
    let found = found_passes (is_current_at path) hs r e in
    (sym ((bytes_eq-Decides path r.path).0 (and_true (bytes_eq path r.path) (not r.superseded) found.0).0), found.1)

pub wanted_there : (path : List ℕ) (ws : List Right) (w : Right) → find (is_right_at path) ws ≡ Some w → (w.path ≡ path) × In w ws
wanted_there path ws w e = let found = found_passes (is_right_at path) ws w e in (sym ((bytes_eq-Decides path w.path).0 found.0), found.1)

-- the resource is live as the whole map wants it, and as it is seen
pub record IsWell (lanes : List Lane) (s : StackState) (seen : Seen) (whole : Whole) (r : Held) : Type 0 where
  pub right : Right
  pub live : Live
  pub is_right : right_at r.path whole ≡ Some right
  pub is_live : IsLive lanes r live
  pub kind : live.kind ≡ right.kind
  pub props : live.props ≡ right.props
  pub is_seen : value_at r.path seen ≡ Some (record { physical = Some r.physical; attrs = Some live.attrs })
  pub alone : current_at r.path s.held ≡ Some r

-- no call is open, each resource is well, each wanted path is held, and nothing is exported
pub complete_of : (name : List ℕ) (x : World) (s : StackState) (lanes : List Lane) (source : Source) (seen : Seen) (whole : Whole) → s.tokens ≡ [] → s.made ≡ [] → s.source ≡ Some source → whole_of source seen ≡ Some whole → s.outputs ≡ whole.outputs → whole.exports ≡ [] → exports_in name x ≡ [] → ((r : Held) → In r s.held → IsWell lanes s seen whole r) → ((w : Right) → In w whole.wanted → (r : Held) × (current_at w.path s.held ≡ Some r)) → IsComplete name x s lanes
complete_of name x s lanes source seen whole none_open none_made is_source comes outputs no_exports none_exported well wanted = record {
  settled = record { none_open = none_open; none_made = none_made };
  evaluated = (
    source,
    seen,
    whole,
    is_source,
    (λ path r e. let found = held_there path s.held r e in let ok = well r found.1 in (ok.live, ok.is_live, subst (λ p. value_at p seen ≡ Some (record { physical = Some r.physical; attrs = Some ok.live.attrs })) found.0 ok.is_seen)),
    comes,
    record {
      paths = λ path. (
        (λ (w, e). let found = wanted_there path whole.wanted w e in subst (λ p. (r : Held) × (current_at p s.held ≡ Some r)) found.0 (wanted w found.1)),
        (λ (r, e). let found = held_there path s.held r e in subst (λ p. (w : Right) × (right_at p whole ≡ Some w)) found.0 ((well r found.1).right, (well r found.1).is_right)),
      );
      live = λ path w r right held. let found = held_there path s.held r held in let ok = well r found.1 in
          let same = some_is (sym ok.is_right ∙ ap (λ p. right_at p whole) found.0 ∙ right) in
          (ok.live, ok.is_live, ok.kind ∙ ap (λ (q : Right). q.kind) same, ok.props ∙ ap (λ (q : Right). q.props) same);
      nothing_else = λ r i. (well r i).alone;
      outputs = outputs;
    },
    (λ e. ((λ i. absurd (in_none (subst (In e) none_exported i))), (λ i. absurd (in_none (subst (λ es. In e (map (export_by name) es)) no_exports i))))),
  );
}
