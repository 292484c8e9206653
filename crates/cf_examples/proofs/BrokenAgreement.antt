-- None of these is an agreement.
use Rattle.std.proofs.Common.{◌≡◌, inl, inr, None, Bool, false, refl, sym, ◌∙◌, ap, subst, true≢false, arith, ℕ, List, [], ◌∷◌, true, lit≤}
use Rattle.std.specs.Prelude.{codes}
use Rattle.std.specs.Str.{bytes_eq}
use Rattle.cf_agree.specs.Account.{Thing, creates}
use Rattle.cf_agree.specs.Account.Role.{Resource}
use Rattle.cf_tree.specs.Lists.{there}
use Rattle.cf_tree.specs.Lists.{here}
use Rattle.cf_examples.specs.Given.{note, file}
use Rattle.cf_examples.proofs.Lists.{some_is}
use Rattle.cf_examples.specs.BrokenAgreement.{NoSuchCalls, NoSuchLanes}
use Rattle.cf_tree.specs.Datum.{Data, text}
use Rattle.cf_handler.specs.declared.settled.Settled.{Settled}
use Rattle.cf_handler.specs.declared.settled.Settlement.{Settlement}
use Rattle.cf_handler.specs.Lane.{Live}
use Rattle.cf_handler.specs.declared.settled.Settlement.TheVariants as settlement

resource_is : {a b : Thing} → Resource a ≡ Resource b → a ≡ b
resource_is e = cc

pub no_such_calls : NoSuchCalls
no_such_calls = record {
  open_though_never_written = λ b. let e = b.calls 1 _ refl in absurd (cc);
  open_under_another_request = λ b. true≢false (sym (ap (λ c. creates c.request) (some_is (b.calls 1 _ refl))));
  written_above_the_last_token = λ b. let e = b.numbers 1 _ refl in absurd (omega arith);
  open_though_answered = λ b. let e = b.untold 1 _ refl in absurd (cc);
  answered_though_never_written = λ b. let e = (b.told_calls 1 _ refl).1 in absurd (cc);
  given_up_though_open = λ b. let e = (b.lost_calls 1 refl).0 in absurd (cc);
  updates_what_nobody_has = λ b. let e = (b.named 1 _ _ refl refl).1 in absurd (cc);
  updates_at_another_path = λ b. let z = b.named 1 _ _ refl refl in true≢false (ap (bytes_eq (codes "A")) (subst (λ r. r.path ≡ codes "B") (sym (resource_is z.1)) z.3));
  deletes_on_another_lane = λ b. true≢false (ap (bytes_eq (codes "f1")) (b.home 1 _ _ refl refl));
  two_calls_at_one_path = λ b. let e = b.once 1 2 _ _ refl refl refl refl in absurd (cc);
  creates_on_a_lane_of_another_type = λ b. let z = b.open_homes 1 _ refl in true≢false (ap (bytes_eq note) (some_is z.1 ∙ z.2));
  held_on_a_lane_left_out = λ b. let e = (b.homes (codes "f1:1") _ refl).1 in absurd (cc);
  held_under_an_id_of_no_lane = λ b. let z = (b.homes (codes "f1") _ refl).0 in let e = z.1 in absurd (cc);
  two_calls_under_one_token = λ l. true≢false (ap (λ m. creates m.request) (l.once _ _ here (there here) refl));
  called_with_another_request = λ l. let e = ((l.out _ here).own.written _ refl).1 in absurd (cc);
  called_though_answered_and_gone = λ l. elim ((l.out _ here).accounted) [
    | inl z ↦ (let e = z.1 in absurd (cc))
    | inr r ↦ elim r [ inl z ↦ (let e = z.1 in absurd (cc)) | inr z ↦ (let e = z.1 in absurd (cc)) ]
  ];
  called_for_a_stack_at_rest = λ l. let e = (l.out _ here).going _ refl in absurd (cc);
  answer_that_the_lane_never_gave = λ l. let e = (l.replies _ _ here refl).1 in absurd (cc);
}

-- what tells two of them apart
abbrev went_well : Settlement → Bool
went_well (settlement.Success id attrs) = true
went_well (settlement.Failed c) = false

abbrev pub content_in : List (List ℕ × Data) → List ℕ
content_in [] = []
content_in ((k, text t) ∷ rest) = t
content_in ((k, d) ∷ rest) = []

pub no_such_lanes : NoSuchLanes
no_such_lanes = record {
  named_though_not_there = λ h. let e = h.handed (codes "f1") file refl in absurd (cc);
  lane_name_with_a_colon = λ h. true≢false (sym (h.lane_names (codes "f:1") (file, refl)));
  two_answers_under_one_token = λ h. let e = some_is (h.settled_once (codes "f1") _ (there here)) in true≢false (ap (λ s. went_well s.settlement) e);
  two_live_under_one_id = λ h. true≢false (sym (h.base_once (codes "f1")));
  live_under_an_id_of_another_lane = λ h. true≢false (ap (bytes_eq (codes "f2")) (h.base_named (codes "f1") (codes "f2:1") refl));
  made_under_an_id_of_another_lane = λ h. true≢false (ap (bytes_eq (codes "f2")) (h.created_named (codes "f1") (codes "f2:1") 1 _ refl (_, _, _, refl)).0);
  made_twice = λ h. let e = h.created_once (codes "f1") (codes "f1:1") 1 2 _ _ refl refl (_, _, _, refl) (_, _, _, refl) in absurd (cc);
  acted_on_another_request = λ h. true≢false (ap creates ((h.settled_calls (codes "f1") 1 _ refl).written _ refl).1);
  acted_under_a_token_of_nobody = λ h. let e = (h.settled_calls (codes "f1") 2 _ refl).number in absurd (omega arith);
  flies_with_another_request = λ h. true≢false (ap creates ((h.flying_calls (codes "f1") _ here).written _ refl).1);
  told_though_never_answered = λ h. let e = (h.answers 1 _ _ refl refl (file, refl)).1 in absurd (cc);
  told_otherwise = λ h. let z = h.answers 1 _ _ refl refl (file, refl) in true≢false (sym (ap went_well (ap (λ (s : Settled). s.settlement) (some_is z.1) ∙ z.2)));
  flies_unaccounted = λ h. elim (h.flying_open (codes "f1") _ here refl (lit≤ tt)) [
    | inl z ↦ (let e = z.1 in absurd (cc))
    | inr r ↦ elim r [ inl z ↦ (let e = z.1 in absurd (cc)) | inr z ↦ true≢false (sym z.1) ]
  ];
  flies_from_a_later_opening = λ h. let e = h.flying_epochs (codes "f1") _ here in absurd (omega arith);
  flies_from_this_opening_at_rest = λ h. let e = h.flying_at_rest (codes "f1") _ _ here refl refl refl in absurd (omega arith);
  fence_ahead_of_the_journal = λ h. let e = h.fences (codes "f1") in absurd (omega arith);
  held_though_never_made = λ h. true≢false (sym (h.known (codes "f1:1") (λ e. let z = e in absurd (cc)) (file, refl)));
  not_found_though_live = λ h. let e = h.gone (codes "f1:1") _ refl (1, _, _, (refl, refl), refl) in absurd (cc);
  held_though_deleted = λ h. let e = (h.alive (codes "f1:1") _ refl (file, refl) (λ g. let o = g.3.0 in absurd (cc))).1 in absurd (cc);
  live_as_another_type = λ h.
      let z = h.alive (codes "f1:1") _ refl (file, refl) (λ g. let o = g.3.0 in absurd (cc)) in
      true≢false (ap (bytes_eq note) (ap (λ (v : Live). v.kind) (some_is z.1) ∙ z.2));
  live_with_other_properties = λ h.
      let z = h.same (codes "f1:1") _ _ refl refl (λ g. let o = g.5.0 in absurd (cc)) refl in
      true≢false (ap (λ ps. bytes_eq (codes "y") (content_in ps)) z.0);
  changed_behind_the_open_update = λ h.
      let z = h.changed 1 _ _ (codes "f1:1") _ _ (refl, refl) refl in
      true≢false (ap (λ ps. bytes_eq (codes "z") (content_in ps)) (ap (λ (v : Live). v.props) (some_is z.1) ∙ z.2));
  made_under_a_held_id = λ h. let e = (h.born 1 _ _ (codes "f1:1") file _ _ (refl, refl) refl).1 in absurd (cc);
  live_though_listed_nowhere = λ h. elim (h.listed (codes "f1") (codes "f1:1") _ refl) [
    | inl z ↦ z refl
    | inr r ↦ elim r [ inl z ↦ (let o = z.3.0 in absurd (cc)) | inr z ↦ true≢false (sym z.3) ]
  ];
}
