-- What stands under a name where each is put in its place is what the definitions list.
use Rattle.std.proofs.Common.{◌≡◌, ℕ, List, [], ◌∷◌, ◌++◌, Bool, true, false, not, ◌||◌, Option, Some, None, refl, sym, ap, ◌∙◌, true≢false, filter, fold, map, option_map, append-nil}
use Rattle.std.specs.Prelude.{⊤, cond, is_some}
use Rattle.std.specs.Str.{bytes_eq}
use Rattle.std.proofs.lemmas.Slice.Eq.{bytes_eq-Decides}
use Rattle.cf_tree.specs.Keys.{value_at, put}
use Rattle.cf_tree.specs.Lists.{is_among}
use Rattle.cf_tree.specs.declared.bound.Setting.{Setting}
use Rattle.cf_tree.specs.declared.template.Param.{Param}
use Rattle.cf_tree.specs.declared.template.Res.{Res}
use Rattle.cf_eval.specs.declared.env.Sight.{Sight}
use Rattle.cf_eval.specs.declared.env.Sight.TheVariants as sight
use Rattle.cf_graph.specs.Needs.{is_made}
use Rattle.cf_desired.specs.Given.{Given, setting_given, settings_for}
use Rattle.cf_desired.specs.Listed.{made_by, not_made_by, put_setting, settings_by, sights_by, stands_by}
use Rattle.cf_desired.specs.Names.{path_in}
use Rattle.cf_desired.specs.Seeing.{Seen, first_sights, seen_as, unmade_sights}
use Rattle.cf_desired.specs.Shape.{first_stands}
use Rattle.cf_desired.specs.Stack.{Stack, Verdicts, Settings}
use Rattle.cf_desired.proofs.Puts.{value_put}
use Rattle.cf_eval.proofs.Looking.{seen_under, sight_by}

-- what stands under a name, where what stands under each rests on its name alone
module _ {A : Type 0} {X : Type 0} (key : A → List ℕ) (val : A → X) (f : List ℕ → X) where
  abbrev pub entry : A → List ℕ × X
  entry a = (key a, val a)

  abbrev pub AllGive : List A → Type 0
  AllGive [] = ⊤
  AllGive (a ∷ xs) = (val a ≡ f (key a)) × AllGive xs

  either_put : (q k : List ℕ) (v : X) (o : Option X) (b c : Bool) → bytes_eq q k ≡ b → v ≡ f k → cond c (Some (f q)) (cond b (Some v) o) ≡ cond (b || c) (Some (f q)) o
  either_put q k v o true true e h = refl
  either_put q k v o true false e h = ap (λ x. Some x) (h ∙ ap f (sym ((bytes_eq-Decides q k).0 e)))
  either_put q k v o false c e h = refl

  pub put_all : (q : List ℕ) (xs : List A) (ps : List (List ℕ × X)) → AllGive xs
      → value_at q (fold (λ (qs : List (List ℕ × X)) (a : A). put (key a) (val a) qs) ps xs) ≡ cond (is_among q (map key xs)) (Some (f q)) (value_at q ps)
  put_all q [] ps h = refl
  put_all q (a ∷ xs) ps h =
      put_all q xs (put (key a) (val a) ps) h.1
      ∙ ap (λ (o : Option X). cond (is_among q (map key xs)) (Some (f q)) o) (value_put q (key a) (val a) ps)
      ∙ either_put q (key a) (val a) (value_at q ps) (bytes_eq q (key a)) (is_among q (map key xs)) refl h.0

  either_here : (q k : List ℕ) (v : X) (o : Option X) (b c : Bool) → bytes_eq q k ≡ b → v ≡ f k → cond b (Some v) (cond c (Some (f q)) o) ≡ cond (b || c) (Some (f q)) o
  either_here q k v o true c e h = ap (λ x. Some x) (h ∙ ap f (sym ((bytes_eq-Decides q k).0 e)))
  either_here q k v o false c e h = refl

  pub listed_all : (q : List ℕ) (xs : List A) (rest : List (List ℕ × X)) → AllGive xs
      → value_at q (map entry xs ++ rest) ≡ cond (is_among q (map key xs)) (Some (f q)) (value_at q rest)
  listed_all q [] rest h = refl
  listed_all q (a ∷ xs) rest h =
      ap (λ (o : Option X). cond (bytes_eq q (key a)) (Some (val a)) o) (listed_all q xs rest h.1)
      ∙ either_here q (key a) (val a) (value_at q rest) (bytes_eq q (key a)) (is_among q (map key xs)) refl h.0

abbrev itself : List ℕ → List ℕ
itself id = id

names_give : {X : Type 0} (f : List ℕ → X) (ids : List (List ℕ)) → AllGive itself f f ids
names_give f [] = tt
names_give f (id ∷ ids) = (refl, names_give f ids)

-- what parameters are bound to
module _ (g : Given) where
  none_more : (o : Option Setting) → o ≡ cond (is_some o) o None
  none_more None = refl
  none_more (Some s) = refl

  absent : (o : Option Setting) → is_some o ≡ false → o ≡ None
  absent None h = refl
  absent (Some s) h = absurd (true≢false h)

  there : (o p : Option Setting) (e : Bool) (s : Setting) → (e ≡ true → is_some o ≡ true) → cond (is_some o) o p ≡ cond (is_some o) o (cond e (Some s) p)
  there (Some x) p e s h = refl
  there None p true s h = absurd (true≢false (sym (h refl)))
  there None p false s h = refl

  put_there : (o p : Option Setting) (e : Bool) (s : Setting) → (e ≡ true → o ≡ None) → cond (is_some (cond e (Some s) o)) (cond e (Some s) o) p ≡ cond (is_some o) o (cond e (Some s) p)
  put_there o p true s h = sym (ap (λ (x : Option Setting). cond (is_some x) x (Some s)) (h refl))
  put_there o p false s h = refl

  one_put : (q : List ℕ) (p : Param) (bound : Settings) (o : Option Setting) (b : Bool) → is_some (value_at p.name bound) ≡ b
      → cond (is_some (value_at q (cond b bound (put p.name (setting_given g p) bound)))) (value_at q (cond b bound (put p.name (setting_given g p) bound))) o
      ≡ cond (is_some (value_at q bound)) (value_at q bound) (cond (bytes_eq q p.name) (Some (setting_given g p)) o)
  one_put q p bound o true h =
      there (value_at q bound) o (bytes_eq q p.name) (setting_given g p) (λ e. ap (λ (n : List ℕ). is_some (value_at n bound)) ((bytes_eq-Decides q p.name).0 e) ∙ h)
  one_put q p bound o false h =
      ap (λ (x : Option Setting). cond (is_some x) x o) (value_put q p.name (setting_given g p) bound)
      ∙ put_there (value_at q bound) o (bytes_eq q p.name) (setting_given g p)
      (λ e. ap (λ (n : List ℕ). value_at n bound) ((bytes_eq-Decides q p.name).0 e) ∙ absent (value_at p.name bound) h)

  settings_behind : (q : List ℕ) (params : List Param) (bound : Settings)
      → value_at q (fold (put_setting g) bound params) ≡ cond (is_some (value_at q bound)) (value_at q bound) (value_at q (settings_for params g))
  settings_behind q [] bound = none_more (value_at q bound)
  settings_behind q (p ∷ params) bound =
      settings_behind q params (put_setting g bound p) ∙ one_put q p bound (value_at q (settings_for params g)) (is_some (value_at p.name bound)) refl

  pub settings_listed : (params : List Param) (q : List ℕ) → value_at q (settings_by params g) ≡ value_at q (settings_for params g)
  settings_listed params q = settings_behind q params []

-- what is seen of resources
module _ (t : Stack) (conds : Verdicts) (seen : Seen) where
  abbrev seen_of : List ℕ → Sight
  seen_of id = seen_as (value_at (path_in t.path id) seen)

  all_unmade : {X : Type 0} (x : X) (rs : List Res) → AllGive (λ (r : Res). r.name) (λ (r : Res). x) (λ id. x) rs
  all_unmade x [] = tt
  all_unmade x (r ∷ rs) = (refl, all_unmade x rs)

  abbrev unmade : List Res
  unmade = filter (λ r. not (is_made conds r)) t.template.resources

  abbrev is_unmade : List ℕ → Bool
  is_unmade q = is_among q (map (λ (r : Res). r.name) unmade)

  made_at : (ids : List (List ℕ)) (q : List ℕ) → value_at q (made_by conds t.template ids) ≡ cond (is_among q (map itself ids)) (Some true) (cond (is_unmade q) (Some false) None)
  made_at ids q =
      put_all itself (λ id. true) (λ id. true) q ids (not_made_by conds t.template) (names_give (λ id. true) ids)
      ∙ ap (λ (o : Option Bool). cond (is_among q (map itself ids)) (Some true) o) (put_all (λ (r : Res). r.name) (λ (r : Res). false) (λ id. false) q unmade [] (all_unmade false unmade))

  listed_at : (ids : List (List ℕ)) (q : List ℕ)
      → value_at q (first_sights t conds seen ids) ≡ cond (is_among q (map itself ids)) (Some (seen_of q)) (cond (is_unmade q) (Some sight.NotMade) None)
  listed_at ids q =
      listed_all itself seen_of seen_of q ids (unmade_sights t conds) (names_give seen_of ids)
      ∙ ap (λ (o : Option Sight). cond (is_among q (map itself ids)) (Some (seen_of q)) o)
      (ap (value_at q) (sym (append-nil (unmade_sights t conds))) ∙ listed_all (λ (r : Res). r.name) (λ (r : Res). sight.NotMade) (λ id. sight.NotMade) q unmade [] (all_unmade sight.NotMade unmade))

  seen_by : (q : List ℕ) (a b : Bool) → option_map (sight_by t.path seen q) (cond a (Some true) (cond b (Some false) None)) ≡ cond a (Some (seen_of q)) (cond b (Some sight.NotMade) None)
  seen_by q true b = refl
  seen_by q false true = refl
  seen_by q false false = refl

  pub sights_listed : (ids : List (List ℕ)) (q : List ℕ) → value_at q (sights_by t conds seen ids) ≡ value_at q (first_sights t conds seen ids)
  sights_listed ids q =
      seen_under t.path seen q (made_by conds t.template ids) ∙ ap (option_map (sight_by t.path seen q)) (made_at ids q)
      ∙ seen_by q (is_among q (map itself ids)) (is_unmade q) ∙ sym (listed_at ids q)

-- what ids stand for
module _ (t : Stack) where
  abbrev path_of : List ℕ → List (List ℕ)
  path_of id = path_in t.path id ∷ []

  pub stands_listed : (ids : List (List ℕ)) (q : List ℕ) → value_at q (stands_by t ids) ≡ value_at q (first_stands t ids)
  stands_listed ids q =
      put_all itself path_of path_of q ids [] (names_give path_of ids)
      ∙ sym (ap (value_at q) (sym (append-nil (first_stands t ids))) ∙ listed_all itself path_of path_of q ids [] (names_give path_of ids))

  same_names : (ids : List (List ℕ)) → map itself ids ≡ ids
  same_names [] = refl
  same_names (id ∷ ids) = ap (λ xs. id ∷ xs) (same_names ids)

  pub stand_at : (ids : List (List ℕ)) (q : List ℕ) → value_at q (first_stands t ids) ≡ cond (is_among q ids) (Some (path_of q)) None
  stand_at ids q =
      ap (value_at q) (sym (append-nil (first_stands t ids))) ∙ listed_all itself path_of path_of q ids [] (names_give path_of ids)
      ∙ ap (λ (xs : List (List ℕ)). cond (is_among q xs) (Some (path_of q)) None) (same_names ids)
