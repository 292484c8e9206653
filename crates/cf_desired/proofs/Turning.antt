-- Taking the turns of a shape gives what the definitions say of it.
use Rattle.std.proofs.Common.{◌≡◌, ℕ, List, [], ◌∷◌, ◌++◌, Bool, true, false, Option, Some, None, refl, sym, ap, subst, ◌∙◌, map, find, option_map, append_assoc, append-nil}
use Rattle.std.specs.Prelude.{cond, flat_map}
use Rattle.std.specs.Option.{option_or}
use Rattle.std.specs.Str.{bytes_eq}
use Rattle.std.proofs.lemmas.Grind.{flat_map-append}
use Rattle.std.proofs.lemmas.List.{map-append}
use Rattle.cf_tree.specs.Forms.{Form}
use Rattle.cf_tree.specs.Keys.{value_at, put}
use Rattle.cf_tree.specs.declared.source.Source.{Source}
use Rattle.cf_eval.specs.declared.env.OutputSight.{OutputSight}
use Rattle.cf_eval.specs.declared.env.Sight.{Sight}
use Rattle.cf_eval.specs.declared.env.Sight.TheVariants as sight
use Rattle.cf_desired.specs.declared.flaw.Flaw.{Flaw}
use Rattle.cf_desired.specs.declared.shape.Shape as kept_shape
use Rattle.cf_desired.specs.declared.shape.Terms.{Terms}
use Rattle.cf_desired.specs.declared.wanted.Evaluated.{Evaluated}
use Rattle.cf_desired.specs.declared.wanted.Evaluated.TheVariants.{Flawed as flawed, Known as evaluated}
use Rattle.cf_desired.specs.declared.wanted.Plan.{Plan}
use Rattle.cf_desired.specs.declared.wanted.Wanted.{Wanted}
use Rattle.cf_desired.specs.declared.wanted.WantedOutput.{WantedOutput}
use Rattle.cf_desired.specs.Given.{Given, given_in, settings_for}
use Rattle.cf_desired.specs.Kept.{IsShape, turn_in}
use Rattle.cf_desired.specs.Listed.{settings_by, sights_by}
use Rattle.cf_desired.specs.Met.{Met, a_stack, an_output, a_flaw, bind_flaw, bind_flaw_in, flaw_inside, flaw_met, flaws_of, met_along, met_in, met_inside, offers_flaw, outputs_met, outputs_wanted, scope_after}
use Rattle.cf_desired.specs.Names.{pseudo_of, stack_id}
use Rattle.cf_desired.specs.Plan.{at_path, export_met, exported, flaw_of, inner_of, member_at, no_plan, output_flaws, plan_by, plan_from, props_at, wanted_of}
use Rattle.cf_desired.specs.Seeing.{Seen, by_names, first_sights, nested_sight, output_sights, outputs_inside, outputs_of, own_ids, sights_after}
use Rattle.cf_desired.specs.Shape.{given_root, members_in, templates_in}
use Rattle.cf_desired.specs.Stack.{Scoping, Sights, Stack, Verdicts, scoping}
use Rattle.cf_desired.specs.Turns.{Entry, Frame, Turn, the_root, through, a_closed, all_terms, entered, member_on, pathed, plan_run, scope_on, terms_among, member_terms, turns_along, turns_in, turns_inside, unmade_of, valued_run, with_flaw, with_outputs, with_resource, with_some_flaw, with_stack, with_unmade}
use Rattle.cf_desired.specs.Valued.{member_props, resources_along, resources_in, resources_inside, valued_along, valued_in, valued_inside}
use Rattle.cf_desired.specs.Work.{Member, Nesting, Work, Inside, Body, no_work, resource, nested, shut, barred, halted, opened}
use Rattle.cf_desired.specs.Work as inside
use Rattle.cf_desired.proofs.Listed.{settings_listed, sights_listed}
use Rattle.cf_desired.proofs.Puts.{value_put}
use Rattle.cf_desired.proofs.SameScopes.{SameScope, evaluated_same, flaw_same, given_same, scope_same, sights_same, wanted_same}

abbrev Valued : Type 0
Valued = Member × Evaluated

-- the plan with some that is valued and some that is met
abbrev plan_with : Plan → List Valued → List Met → Plan
plan_with p rs ms = record p {
  wanted = p.wanted ++ map wanted_of rs;
  nested = p.nested ++ flat_map inner_of ms;
  exports = p.exports ++ flat_map export_met ms;
  flaws = p.flaws ++ flat_map flaw_of ms;
}

joined_up : {A B : Type 0} (h : A → List B) (front : List B) (xs ys : List A) → (front ++ flat_map h xs) ++ flat_map h ys ≡ front ++ flat_map h (xs ++ ys)
joined_up h front xs ys = append_assoc front (flat_map h xs) (flat_map h ys) ∙ ap (λ zs. front ++ zs) (sym (flat_map-append h xs ys))

wanted_up : (front : List Wanted) (xs ys : List Valued) → (front ++ map wanted_of xs) ++ map wanted_of ys ≡ front ++ map wanted_of (xs ++ ys)
wanted_up front xs ys = append_assoc front (map wanted_of xs) (map wanted_of ys) ∙ ap (λ zs. front ++ zs) (sym (map-append wanted_of xs ys))

two_with : (p : Plan) (rs ss : List Valued) (ms ns : List Met) → plan_with (plan_with p rs ms) ss ns ≡ plan_with p (rs ++ ss) (ms ++ ns)
two_with p rs ss ms ns = λ i. record p {
  wanted = wanted_up p.wanted rs ss i;
  nested = joined_up inner_of p.nested ms ns i;
  exports = joined_up export_met p.exports ms ns i;
  flaws = joined_up flaw_of p.flaws ms ns i;
}

flaw_with : (p : Plan) (f : Flaw) → with_flaw p f ≡ plan_with p [] (a_flaw f ∷ [])
flaw_with p f = λ i. record p {
  wanted = sym (append-nil p.wanted) i;
  nested = sym (append-nil p.nested) i;
  exports = sym (append-nil p.exports) i;
  flaws = p.flaws ++ f ∷ [];
}

none_with : (p : Plan) → p ≡ plan_with p [] []
none_with p = λ i. record p {
  wanted = sym (append-nil p.wanted) i;
  nested = sym (append-nil p.nested) i;
  exports = sym (append-nil p.exports) i;
  flaws = sym (append-nil p.flaws) i;
}

some_with : (p : Plan) (o : Option Flaw) → with_some_flaw p o ≡ plan_with p [] (flaw_met o)
some_with p None = none_with p
some_with p (Some f) = flaw_with p f

stack_with : (p : Plan) (n : Nesting) (o : Option Flaw) → with_stack p n o ≡ plan_with p [] (a_stack n o ∷ [])
stack_with p n o = λ i. record p {
  wanted = sym (append-nil p.wanted) i;
  nested = p.nested ++ record { path = n.path; needs = n.needs; fault = o } ∷ [];
  exports = sym (append-nil p.exports) i;
  flaws = sym (append-nil p.flaws) i;
}

value_with : (p : Plan) (m : Member) (v : Evaluated) → with_resource p m v ≡ plan_with p ((m, v) ∷ []) (map (λ f. a_flaw f) (flaws_of v))
value_with p m (flawed f) = λ i. record p {
  wanted = p.wanted ++ wanted_of (m, flawed f) ∷ [];
  nested = sym (append-nil p.nested) i;
  exports = sym (append-nil p.exports) i;
  flaws = p.flaws ++ f ∷ [];
}
value_with p m (evaluated ps) = λ i. record p {
  wanted = p.wanted ++ wanted_of (m, evaluated ps) ∷ [];
  nested = sym (append-nil p.nested) i;
  exports = sym (append-nil p.exports) i;
  flaws = sym (append-nil p.flaws) i;
}

-- what is told of outputs
outputs_flaws : (os : List WantedOutput) → flat_map flaw_of (map (λ o. an_output o) os) ≡ flat_map output_flaws os
outputs_flaws [] = refl
outputs_flaws (o ∷ os) = ap (λ xs. output_flaws o ++ xs) (outputs_flaws os)

outputs_inner : (os : List WantedOutput) → flat_map inner_of (map (λ o. an_output o) os) ≡ []
outputs_inner [] = refl
outputs_inner (o ∷ os) = outputs_inner os

outputs_exports : (os : List WantedOutput) → flat_map export_met (map (λ o. an_output o) os) ≡ flat_map exported os
outputs_exports [] = refl
outputs_exports (o ∷ os) = ap (λ xs. exported o ++ xs) (outputs_exports os)

-- the outputs of a nested stack
outputs_with : (p : Plan) (n : Nesting) (form : Option Form) (os : List WantedOutput) → with_outputs p (through n form) os ≡ plan_with p [] (map (λ o. an_output o) os)
outputs_with p n form os = λ i. record p {
  wanted = sym (append-nil p.wanted) i;
  nested = (sym (append-nil p.nested) ∙ ap (λ xs. p.nested ++ xs) (sym (outputs_inner os))) i;
  exports = p.exports ++ sym (outputs_exports os) i;
  flaws = p.flaws ++ sym (outputs_flaws os) i;
}

in_four : (a b c d : List Met) → ((a ++ b) ++ c) ++ d ≡ a ++ (b ++ (c ++ d))
in_four a b c d = append_assoc (a ++ b) c d ∙ append_assoc a b (c ++ d)

module _ (source : Source) (seen : Seen) where
  abbrev over : Stack → Verdicts → Given → Scoping
  over t conds g = scoping source t conds (settings_for t.template.params g)

  -- an open template, where this is seen of its resources
  abbrev frame : Entry → Stack → Verdicts → Given → Sights → Frame
  frame en t conds g n = record {
    entry = en;
    stack = t;
    conds = conds;
    bound = settings_by t.template.params g;
    pseudo = pseudo_of t.name source.number;
    sights = n;
  }

  abbrev Alike : Sights → Sights → Type 0
  Alike n m = (q : List ℕ) → value_at q n ≡ value_at q m

  scopes : (en : Entry) (t : Stack) (conds : Verdicts) (g : Given) (n m : Sights) → Alike n m → SameScope (scope_on source (frame en t conds g n)) (over t conds g m)
  scopes en t conds g n m h =
      scope_same t.template (settings_by t.template.params g) (settings_for t.template.params g) conds (pseudo_of t.name source.number) (pseudo_of t.name source.number) source.imports n m
      (settings_listed g t.template.params) refl h

  put_alike : (k : List ℕ) (x y : Sight) (n m : Sights) → Alike n m → x ≡ y → Alike (put k x n) (put k y m)
  put_alike k x y n m h e q = value_put q k x n ∙ either (bytes_eq q k) ∙ sym (value_put q k y m) where
    either : (b : Bool) → cond b (Some x) (value_at q n) ≡ cond b (Some y) (value_at q m)
    either true = ap (λ z. Some z) e
    either false = h q

  nested_alike : (x : Nesting) (os us : List (List ℕ × OutputSight)) (n m : Sights) → Alike n m → os ≡ us → Alike (nested_sight source x os n) (nested_sight source x us m)
  nested_alike x os us n m h e = put_alike x.id _ _ n m h (ap (λ zs. sight.Nested (stack_id x.name source.number) (by_names zs)) e)

  -- what is behind these turns: an open template in which this is seen, and what was valued and met
  record Behind (f : Frame) (fs : List Frame) (before : List Turn) (m : Sights) (rs : List Valued) (ms : List Met) : Type 0 where
    sights : Sights
    alike : Alike sights m
    plan : (p : Plan) (ts : List Turn) → plan_run source seen (f ∷ fs) p (before ++ ts) ≡ plan_run source seen (record f { sights = sights } ∷ fs) (plan_with p rs ms) ts
    valued : (ts : List Turn) → valued_run source seen (f ∷ fs) (before ++ ts) ≡ rs ++ valued_run source seen (record f { sights = sights } ∷ fs) ts

  -- and the same of a nested stack that was entered, whose outputs are seen then
  record Come (x : Nesting) (f : Frame) (fs : List Frame) (before : List Turn) (outs : List (List ℕ × OutputSight)) (rs : List Valued) (ms : List Met) : Type 0 where
    plan : (p : Plan) (ts : List Turn)
        → plan_run source seen (f ∷ fs) p (before ++ ts) ≡ plan_run source seen (record f { sights = nested_sight source x outs f.sights } ∷ fs) (plan_with p rs ms) ts
    valued : (ts : List Turn) → valued_run source seen (f ∷ fs) (before ++ ts) ≡ rs ++ valued_run source seen (record f { sights = nested_sight source x outs f.sights } ∷ fs) ts

  entered_with : (p : Plan) (x : Nesting) (form : Option Form) (o bind : Option Flaw)
      → entered p (through x form) o bind ≡ plan_with p [] (a_stack x (option_or o bind) ∷ (flaw_met o ++ flaw_met bind))
  entered_with p x form o bind =
      some_with (with_some_flaw (with_stack p x (option_or o bind)) o) bind
      ∙ ap (λ q. plan_with q [] (flaw_met bind)) (some_with (with_stack p x (option_or o bind)) o)
      ∙ ap (λ q. plan_with (plan_with q [] (flaw_met o)) [] (flaw_met bind)) (stack_with p x (option_or o bind))
      ∙ ap (λ q. plan_with q [] (flaw_met bind)) (two_with p [] [] (a_stack x (option_or o bind) ∷ []) (flaw_met o))
      ∙ two_with p [] [] (a_stack x (option_or o bind) ∷ flaw_met o) (flaw_met bind)

  mutual
    along : (en : Entry) (t : Stack) (conds : Verdicts) (g : Given) (n m : Sights) → Alike n m → (w : Work) (fs : List Frame)
        → Behind (frame en t conds g n) fs (turns_along w) (sights_after source seen (over t conds g) m w) (valued_along source seen t.path (over t conds g) m w) (met_along source seen t.path (over t conds g) m w)
    along en t conds g n m h no_work fs = record {
      sights = n;
      alike = h;
      plan = λ p ts. ap (λ q. plan_run source seen (frame en t conds g n ∷ fs) q ts) (none_with p);
      valued = λ ts. refl;
    }
    along en t conds g n m h (resource r w) fs =
        let rest = along en t conds g n m h w fs in
        let v = member_props t.path (scope_on source (frame en t conds g n)) r in
        let u = member_props t.path (over t conds g m) r in
        let e : v ≡ u = evaluated_same (scope_on source (frame en t conds g n)) (over t conds g m) (scopes en t conds g n m h) t.path r in record {
          sights = rest.sights;
          alike = rest.alike;
          plan = λ p ts.
              rest.plan (with_resource p r v) ts
              ∙ ap (λ q. plan_run source seen (frame en t conds g rest.sights ∷ fs) q ts)
              (ap (λ (x : Evaluated). plan_with (with_resource p r x) (valued_along source seen t.path (over t conds g) m w) (met_along source seen t.path (over t conds g) m w)) e
              ∙ ap (λ q. plan_with q (valued_along source seen t.path (over t conds g) m w) (met_along source seen t.path (over t conds g) m w)) (value_with p r u)
              ∙ two_with p ((r, u) ∷ []) (valued_along source seen t.path (over t conds g) m w) (map (λ f. a_flaw f) (flaws_of u)) (met_along source seen t.path (over t conds g) m w));
          valued = λ ts. ap (λ xs. (r, v) ∷ xs) (rest.valued ts) ∙ ap (λ (x : Evaluated). (r, x) ∷ (valued_along source seen t.path (over t conds g) m w ++ valued_run source seen (frame en t conds g rest.sights ∷ fs) ts)) e;
        }
    along en t conds g n m h (nested x i w) fs =
        let here = within en t conds g n m h x i fs in
        let outs = outputs_inside source seen (over t conds g m) i in
        let n' = nested_sight source x outs n in
        let m' = nested_sight source x outs m in
        let rest = along en t conds g n' m' (nested_alike x outs outs n m h refl) w fs in
        let rs = valued_inside source seen (over t conds g m) i in
        let ms = a_stack x (flaw_inside t.path (over t conds g m) i) ∷ met_inside source seen t.path (over t conds g m) i in record {
          sights = rest.sights;
          alike = rest.alike;
          plan = λ p ts.
              ap (λ us. plan_run source seen (frame en t conds g n ∷ fs) p us) (append_assoc (turns_inside x i) (turns_along w) ts)
              ∙ here.plan p (turns_along w ++ ts) ∙ rest.plan (plan_with p rs ms) ts
              ∙ ap (λ q. plan_run source seen (frame en t conds g rest.sights ∷ fs) q ts)
              (two_with p rs (valued_along source seen t.path (over t conds g) m' w) ms (met_along source seen t.path (over t conds g) m' w));
          valued = λ ts.
              ap (λ us. valued_run source seen (frame en t conds g n ∷ fs) us) (append_assoc (turns_inside x i) (turns_along w) ts)
              ∙ here.valued (turns_along w ++ ts) ∙ ap (λ xs. rs ++ xs) (rest.valued ts)
              ∙ sym (append_assoc rs (valued_along source seen t.path (over t conds g) m' w) (valued_run source seen (frame en t conds g rest.sights ∷ fs) ts));
        }

    within : (en : Entry) (t : Stack) (conds : Verdicts) (g : Given) (n m : Sights) → Alike n m → (x : Nesting) (i : Inside) (fs : List Frame)
        → Come x (frame en t conds g n) fs (turns_inside x i) (outputs_inside source seen (over t conds g m) i) (valued_inside source seen (over t conds g m) i)
        (a_stack x (flaw_inside t.path (over t conds g m) i) ∷ met_inside source seen t.path (over t conds g m) i)
    within en t conds g n m h x (shut f) fs = record {
      plan = λ p ts. ap (λ q. plan_run source seen (frame en t conds g (nested_sight source x [] n) ∷ fs) q ts)
          (flaw_with (with_stack p x None) f ∙ ap (λ q. plan_with q [] (a_flaw f ∷ [])) (stack_with p x None) ∙ two_with p [] [] (a_stack x None ∷ []) (a_flaw f ∷ []));
      valued = λ ts. refl;
    }
    within en t conds g n m h x (inside.given_by form b) fs =
        let s = scope_on source (frame en t conds g n) in
        let u = over t conds g m in
        let same = scopes en t conds g n m h in
        subst (λ (z : Given × Option Flaw). Come x (frame en t conds g n) fs (turns_in (through x form) b) (outputs_of source seen z.0 b) (valued_in source seen z.0 b)
        (a_stack x (option_or z.1 (bind_flaw_in z.0 b)) ∷ (flaw_met z.1 ++ met_in source seen z.0 b)))
        (λ j. (given_same s u same form j, flaw_same s u same t.path form j))
        (body x form (frame en t conds g n) fs b)

    body : (x : Nesting) (form : Option Form) (f : Frame) (fs : List Frame) (b : Body)
        → Come x f fs (turns_in (through x form) b) (outputs_of source seen (given_in (scope_on source f) form) b) (valued_in source seen (given_in (scope_on source f) form) b)
        (a_stack x (option_or (offers_flaw f.stack.path (scope_on source f) form) (bind_flaw_in (given_in (scope_on source f) form) b))
        ∷ (flaw_met (offers_flaw f.stack.path (scope_on source f) form) ++ met_in source seen (given_in (scope_on source f) form) b))
    body x form f fs (barred y) =
        let o = offers_flaw f.stack.path (scope_on source f) form in record {
          plan = λ p ts. ap (λ q. plan_run source seen (record f { sights = nested_sight source x [] f.sights } ∷ fs) q ts)
              (flaw_with (entered p (through x form) o None) y ∙ ap (λ q. plan_with q [] (a_flaw y ∷ [])) (entered_with p x form o None)
              ∙ two_with p [] [] (a_stack x (option_or o None) ∷ (flaw_met o ++ [])) (a_flaw y ∷ [])
              ∙ ap (λ ms. plan_with p [] (a_stack x (option_or o None) ∷ ms)) (append_assoc (flaw_met o) [] (a_flaw y ∷ [])));
          valued = λ ts. refl;
        }
    body x form f fs (halted t y) =
        let o = offers_flaw f.stack.path (scope_on source f) form in
        let bind = bind_flaw t (given_in (scope_on source f) form) in record {
          plan = λ p ts. ap (λ q. plan_run source seen (record f { sights = nested_sight source x [] f.sights } ∷ fs) q ts)
              (flaw_with (entered p (through x form) o bind) y ∙ ap (λ q. plan_with q [] (a_flaw y ∷ [])) (entered_with p x form o bind)
              ∙ two_with p [] [] (a_stack x (option_or o bind) ∷ (flaw_met o ++ flaw_met bind)) (a_flaw y ∷ [])
              ∙ ap (λ ms. plan_with p [] (a_stack x (option_or o bind) ∷ ms)) (append_assoc (flaw_met o) (flaw_met bind) (a_flaw y ∷ [])));
          valued = λ ts. refl;
        }
    body x form f fs (opened t conds w) =
        let g = given_in (scope_on source f) form in
        let o = offers_flaw f.stack.path (scope_on source f) form in
        let bind = bind_flaw t g in
        let en = through x form in
        let n = sights_by t conds seen (own_ids w) in
        let m = first_sights t conds seen (own_ids w) in
        let rest = along en t conds g n m (sights_listed t conds seen (own_ids w)) w (f ∷ fs) in
        let s = scope_on source (frame en t conds g rest.sights) in
        let u = scope_after source seen g t conds w in
        let same = scopes en t conds g rest.sights (sights_after source seen (over t conds g) m w) rest.alike in
        let rs = valued_along source seen t.path (over t conds g) m w in
        let ms = met_along source seen t.path (over t conds g) m w in
        let after = record f { sights = nested_sight source x (outputs_of source seen g (opened t conds w)) f.sights } in
        let shown : record f { sights = nested_sight source x (output_sights t conds s) f.sights } ≡ after = λ j. record f { sights = nested_sight source x (sights_same s u same t conds j) f.sights } in record {
          plan = λ p ts.
              ap (λ us. plan_run source seen (frame en t conds g n ∷ f ∷ fs) (with_unmade (entered p en o bind) en t conds) us) (append_assoc (turns_along w) (a_closed ∷ []) ts)
              ∙ rest.plan (with_unmade (entered p en o bind) en t conds) (a_closed ∷ ts)
              ∙ (λ j. plan_run source seen (shown j ∷ fs)
              ((ap (λ q. with_outputs (plan_with q rs ms) en (outputs_wanted t conds s)) (entered_with p x form o bind)
              ∙ outputs_with (plan_with (plan_with p [] (a_stack x (option_or o bind) ∷ (flaw_met o ++ flaw_met bind))) rs ms) x form (outputs_wanted t conds s)
              ∙ ap (λ q. plan_with q [] (map (λ z. an_output z) (outputs_wanted t conds s))) (two_with p [] rs (a_stack x (option_or o bind) ∷ (flaw_met o ++ flaw_met bind)) ms)
              ∙ two_with p rs [] ((a_stack x (option_or o bind) ∷ (flaw_met o ++ flaw_met bind)) ++ ms) (map (λ z. an_output z) (outputs_wanted t conds s))
              ∙ ap (λ qs. plan_with p qs (((a_stack x (option_or o bind) ∷ (flaw_met o ++ flaw_met bind)) ++ ms) ++ map (λ z. an_output z) (outputs_wanted t conds s))) (append-nil rs)
              ∙ ap (λ os. plan_with p rs (((a_stack x (option_or o bind) ∷ (flaw_met o ++ flaw_met bind)) ++ ms) ++ map (λ z. an_output z) os)) (wanted_same s u same t conds)
              ∙ ap (λ zs. plan_with p rs (a_stack x (option_or o bind) ∷ zs)) (in_four (flaw_met o) (flaw_met bind) ms (outputs_met t conds u))) j) ts);
          valued = λ ts.
              ap (λ us. valued_run source seen (frame en t conds g n ∷ f ∷ fs) us) (append_assoc (turns_along w) (a_closed ∷ []) ts)
              ∙ rest.valued (a_closed ∷ ts) ∙ (λ j. rs ++ valued_run source seen (shown j ∷ fs) ts);
        }

  -- the turns of a source
  module _ (b : Body) where
    abbrev start : Plan
    start = no_plan (templates_in b) (members_in b) []

  plan_root : (b : Body) → plan_run source seen [] (start b) (turns_in the_root b) ≡ plan_by source b seen
  plan_root (barred f) = refl
  plan_root (halted t f) = either (bind_flaw t (given_root source)) where
    either : (o : Option Flaw) → with_flaw (with_some_flaw (start (halted t f)) o) f ≡ plan_from (halted t f) [] [] (flaw_met o ++ (a_flaw f ∷ []))
    either None = refl
    either (Some g) = refl
  plan_root (opened t conds w) =
      let g = given_root source in
      let bind = bind_flaw t g in
      let n = sights_by t conds seen (own_ids w) in
      let m = first_sights t conds seen (own_ids w) in
      let rest = along the_root t conds g n m (sights_listed t conds seen (own_ids w)) w [] in
      let s = scope_on source (frame the_root t conds g rest.sights) in
      let u = scope_after source seen g t conds w in
      let same = scopes the_root t conds g rest.sights (sights_after source seen (over t conds g) m w) rest.alike in
      let rs = valued_along source seen t.path (over t conds g) m w in
      let ms = met_along source seen t.path (over t conds g) m w in
      let p = start (opened t conds w) in
      rest.plan (with_unmade (with_some_flaw p bind) the_root t conds) (a_closed ∷ [])
      ∙ ap (λ q. with_outputs (plan_with (with_unmade q the_root t conds) rs ms) the_root (outputs_wanted t conds s)) (some_with p bind)
      ∙ ap (λ os. with_outputs (plan_with (with_unmade (plan_with p [] (flaw_met bind)) the_root t conds) rs ms) the_root os) (wanted_same s u same t conds)
      ∙ last (flaw_met bind) rs ms (outputs_wanted t conds u) where
        last : (bs : List Met) (rs : List Valued) (ms : List Met) (os : List WantedOutput)
            → with_outputs (plan_with (with_unmade (plan_with (start (opened t conds w)) [] bs) the_root t conds) rs ms) the_root os
            ≡ plan_from (opened t conds w) rs os (bs ++ (ms ++ map (λ o. an_output o) os))
        last bs rs ms os = λ i. record {
          wanted = map wanted_of rs;
          outputs = os;
          nested = (joined_up inner_of [] bs ms ∙ sym (append-nil (flat_map inner_of (bs ++ ms))) ∙ ap (λ xs. flat_map inner_of (bs ++ ms) ++ xs) (sym (outputs_inner os)) ∙ three inner_of bs ms os) i;
          unmade = unmade_of t conds;
          exports = (ap (λ xs. xs ++ flat_map exported os) (joined_up export_met [] bs ms) ∙ ap (λ xs. flat_map export_met (bs ++ ms) ++ xs) (sym (outputs_exports os)) ∙ three export_met bs ms os) i;
          flaws = (ap (λ xs. xs ++ flat_map output_flaws os) (joined_up flaw_of [] bs ms) ∙ ap (λ xs. flat_map flaw_of (bs ++ ms) ++ xs) (sym (outputs_flaws os)) ∙ three flaw_of bs ms os) i;
          templates = templates_in (opened t conds w);
          members = members_in (opened t conds w);
        } where
          three : {B : Type 0} (h : Met → List B) (bs ms : List Met) (os : List WantedOutput) → flat_map h (bs ++ ms) ++ flat_map h (map (λ o. an_output o) os) ≡ flat_map h (bs ++ (ms ++ map (λ o. an_output o) os))
          three h bs ms os = sym (flat_map-append h (bs ++ ms) (map (λ o. an_output o) os)) ∙ ap (flat_map h) (append_assoc bs ms (map (λ o. an_output o) os))

  pub valued_root : (b : Body) → valued_run source seen [] (turns_in the_root b) ≡ valued_in source seen (given_root source) b
  valued_root (barred f) = refl
  valued_root (halted t f) = refl
  valued_root (opened t conds w) =
      let g = given_root source in
      let rest = along the_root t conds g (sights_by t conds seen (own_ids w)) (first_sights t conds seen (own_ids w)) (sights_listed t conds seen (own_ids w)) w [] in
      rest.valued (a_closed ∷ []) ∙ append-nil (valued_along source seen t.path (over t conds g) (first_sights t conds seen (own_ids w)) w)

-- the plan, the properties and the terms that the code finds
pub plan_so : (source : Source) (seen : Seen) (shape : kept_shape.Shape) (p : Plan)
    → plan_run source seen [] (no_plan shape.templates shape.members []) (map turn_in shape.turns) ≡ p
    → (b : Body) → IsShape shape b → p ≡ plan_by source b seen
plan_so source seen shape p e b s =
    sym e ∙ (λ i. plan_run source seen [] (no_plan (s.templates i) (s.members i) []) (s.turns i)) ∙ plan_root source seen b

pub props_so : (source : Source) (seen : Seen) (shape : kept_shape.Shape) (path : List ℕ) (v : Option Evaluated)
    → option_map (λ r. r.1) (at_path path (valued_run source seen [] (map turn_in shape.turns))) ≡ v
    → (b : Body) → IsShape shape b → v ≡ props_at source b seen path
props_so source seen shape path v e b s =
    sym e ∙ (λ i. option_map (λ r. r.1) (at_path path (valued_run source seen [] (s.turns i)))) ∙ ap (λ rs. option_map (λ r. r.1) (at_path path rs)) (valued_root source seen b)

mutual
  members_along : (w : Work) → flat_map member_on (turns_along w) ≡ resources_along w
  members_along no_work = refl
  members_along (resource m w) = ap (λ ms. m ∷ ms) (members_along w)
  members_along (nested n i w) = flat_map-append member_on (turns_inside n i) (turns_along w) ∙ (λ j. members_within n i j ++ members_along w j)

  members_within : (n : Nesting) (i : Inside) → flat_map member_on (turns_inside n i) ≡ resources_inside i
  members_within n (shut f) = refl
  members_within n (inside.given_by form b) = members_of (through n form) b

  pub members_of : (e : Entry) (b : Body) → flat_map member_on (turns_in e b) ≡ resources_in b
  members_of e (barred f) = refl
  members_of e (halted t f) = refl
  members_of e (opened t conds w) = flat_map-append member_on (turns_along w) (a_closed ∷ []) ∙ append-nil (flat_map member_on (turns_along w)) ∙ members_along w

pub terms_so : (shape : kept_shape.Shape) (path : List ℕ) (o : Option Terms) → terms_among (map turn_in shape.turns) path ≡ o
    → (b : Body) → IsShape shape b → o ≡ option_map member_terms (member_at b path)
terms_so shape path o e b s =
    sym e ∙ (λ i. terms_among (s.turns i) path) ∙ ap (λ ms. option_map member_terms (find (λ m. bytes_eq path m.path) ms)) (members_of the_root b)

pub all_terms_so : (shape : kept_shape.Shape) (ts : List (List ℕ × Terms)) → ts ≡ all_terms (map turn_in shape.turns) → (b : Body) → IsShape shape b → ts ≡ map pathed (resources_in b)
all_terms_so shape ts e b s = e ∙ (λ i. all_terms (s.turns i)) ∙ ap (λ (ms : List Member). map pathed ms) (members_of the_root b)
