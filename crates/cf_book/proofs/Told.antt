-- The schemas of a book's lanes tell what those of a life do: of each type that a lane of the book has.
use Rattle.std.proofs.Common.{◌≡◌, ℕ, Bool, true, false, List, [], ◌∷◌, Option, Some, None, is_some, map, fold, refl, sym, ◌∙◌, ap, subst, cond, true≢false}
use Rattle.std.specs.Option.{option_or}
use Rattle.std.specs.Str.{bytes_eq}
use Rattle.std.proofs.lemmas.List.Folds.{find-append}
use Rattle.cf_tree.specs.Lists.{In}
use Rattle.cf_tree.specs.Lists.In.{here, there}
use Rattle.cf_schema.specs.declared.described.Schema.{Schema}
use Rattle.cf_schema.specs.Kinds.{found, with_kind}
use Rattle.cf_effect.specs.World.{StackState, known_stack, stack_at}
use Rattle.cf_effect.specs.declared.held.Held.{Held}
use Rattle.cf_next.specs.Chosen.{schemas_of}
use Rattle.cf_next.specs.declared.home.Home.{Home}
use Rattle.cf_plan.proofs.Causing.{map_in}
use Rattle.cf_plan.proofs.Listed.{bytes_same, in_map, same_bytes}
use Rattle.cf_plan.proofs.RunLists.{in_front}
use Rattle.cf_plan.specs.Follow.{IsNamedLane}
use Rattle.cf_plan.specs.Life.{Life, world_of}
use Rattle.cf_plan.specs.SameSchemas.{TellForward}
use Rattle.cf_core.proofs.FitKept.{at_known}
use Rattle.cf_core.proofs.NamedLanes.{lanes_named}
use Rattle.cf_core.specs.Theorem.{HoldsAlways}
use Rattle.cf_book.specs.Lives.{DescribeLanes, NamesLanes, lane_name}
use Rattle.cf_book.specs.State.{BookLane, home_of}

abbrev with_each : List Home → List Schema → List Schema
with_each homes ss = fold (λ gs (h : Home). with_kind h.schema gs) ss homes

-- what was found is found still
still_found : (g : Schema) (ss : List Schema) (k : List ℕ) (t : Schema) → found k ss ≡ Some t → found k (with_kind g ss) ≡ Some t
still_found g ss k t e = by (found g.kind ss) refl where
  by : (o : Option Schema) → found g.kind ss ≡ o → found k (with_kind g ss) ≡ Some t
  by (Some u) is = rw is e
  by None is = rw is (find-append (λ (s : Schema). bytes_eq k s.kind) ss (g ∷ []) ∙ ap (λ o. option_or o (found k (g ∷ []))) e)

-- and the type that is put in is found
put_found : (g : Schema) (ss : List Schema) → is_some (found g.kind (with_kind g ss)) ≡ true
put_found g ss = by (found g.kind ss) refl where
  by : (o : Option Schema) → found g.kind ss ≡ o → is_some (found g.kind (with_kind g ss)) ≡ true
  by (Some u) is = rw is (ap is_some is)
  by None is =
      rw is (ap is_some (find-append (λ (s : Schema). bytes_eq g.kind s.kind) ss (g ∷ []) ∙ ap (λ o. option_or o (found g.kind (g ∷ []))) is
      ∙ ap (λ b. cond b (Some g) None) (same_bytes g.kind)))

kept_found : (homes : List Home) (ss : List Schema) (k : List ℕ) (o : Option Schema) → found k ss ≡ o → is_some o ≡ true
    → is_some (found k (with_each homes ss)) ≡ true
kept_found [] ss k o e s = ap is_some e ∙ s
kept_found (h ∷ homes) ss k (Some t) e s = kept_found homes (with_kind h.schema ss) k (Some t) (still_found h.schema ss k t e) refl
kept_found (h ∷ homes) ss k None e s = absurd (true≢false (sym s))

home_found : (homes : List Home) (ss : List Schema) (h : Home) → In h homes → is_some (found h.schema.kind (with_each homes ss)) ≡ true
home_found (g ∷ homes) ss h here =
    kept_found homes (with_kind h.schema ss) h.schema.kind (found h.schema.kind (with_kind h.schema ss)) refl (put_found h.schema ss)
home_found (g ∷ homes) ss h (there i) = home_found homes (with_kind g.schema ss) h i
home_found [] ss h i = elim i [ ]

-- Where each home's schema is the one that there is for its type, all that is found among them is right.
module _ (schemas : List Schema) where
  abbrev AreRight : List Schema → Type 0
  AreRight ss = (k : List ℕ) (t : Schema) → found k ss ≡ Some t → found k schemas ≡ Some t

  put_right : (g : Schema) (ss : List Schema) → found g.kind schemas ≡ Some g → AreRight ss → AreRight (with_kind g ss)
  put_right g ss mine right k t = by (found g.kind ss) refl where
    behind : (o : Option Schema) → found k ss ≡ o → (b : Bool) → bytes_eq k g.kind ≡ b → option_or o (cond b (Some g) None) ≡ Some t
        → found k schemas ≡ Some t
    behind (Some u) is b same e = right k t (is ∙ e)
    behind None is true same e = ap (λ q. found q schemas) (bytes_same k g.kind same) ∙ mine ∙ e
    behind None is false same e = absurd (cc)

    by : (o : Option Schema) → found g.kind ss ≡ o → found k (with_kind g ss) ≡ Some t → found k schemas ≡ Some t
    by (Some u) is = rw is (right k t)
    by None is = rw is (λ e.
        behind (found k ss) refl (bytes_eq k g.kind) refl (sym (find-append (λ (s : Schema). bytes_eq k s.kind) ss (g ∷ [])) ∙ e))

  all_right : (homes : List Home) (ss : List Schema) → ((h : Home) → In h homes → found h.schema.kind schemas ≡ Some h.schema) → AreRight ss
      → AreRight (with_each homes ss)
  all_right [] ss d right = right
  all_right (h ∷ homes) ss d right = all_right homes (with_kind h.schema ss) (λ g i. d g (there i)) (put_right h.schema ss (d h here) right)

  pub kind_told : (homes : List Home) → ((h : Home) → In h homes → found h.schema.kind schemas ≡ Some h.schema) → (h : Home) → In h homes
      → found h.schema.kind (schemas_of homes) ≡ found h.schema.kind schemas
  kind_told homes d h i = by (found h.schema.kind (schemas_of homes)) refl (home_found homes [] h i) where
    by : (o : Option Schema) → found h.schema.kind (schemas_of homes) ≡ o → is_some o ≡ true
        → found h.schema.kind (schemas_of homes) ≡ found h.schema.kind schemas
    by (Some t) is s = is ∙ sym (all_right homes [] d (λ k u e. absurd (cc)) h.schema.kind t is)
    by None is s = absurd (true≢false (sym s))

-- So the schemas of the book's lanes tell what the life's do, of all that a stack which goes forward holds, and held as it began.
module _ (schemas : List Schema) (lanes : List BookLane) (life : Life) (described : DescribeLanes schemas lanes)
    (named : NamesLanes lanes (world_of life)) (holds : HoldsAlways schemas life) where
  home_described : (h : Home) → In h (map home_of lanes) → found h.schema.kind schemas ≡ Some h.schema
  home_described h i =
      let (b, j, e) = map_in home_of h lanes i in
      subst (λ (g : Home). found g.schema.kind schemas ≡ Some g.schema) e (described b j)

  named_told : (physical kind : List ℕ) → IsNamedLane (world_of life).lanes physical kind
      → found kind (schemas_of (map home_of lanes)) ≡ found kind schemas
  named_told physical kind (l, i, of, typed) =
      let (b, j, e) = map_in lane_name l lanes (subst (In l) named i) in
      subst (λ k. found k (schemas_of (map home_of lanes)) ≡ found k schemas) (ap (λ (n : List ℕ × List ℕ). n.1) e ∙ typed)
      (kind_told schemas (map home_of lanes) home_described (home_of b) (in_map home_of b lanes j))

  pub tells_forward : (name : List ℕ) (s : StackState) → stack_at name (world_of life) ≡ Some s
      → TellForward (schemas_of (map home_of lanes)) schemas s
  tells_forward name s at forward =
      let are = lanes_named schemas life name s holds at in
      record {
        held = λ h i. named_told h.physical h.kind (are.now h (in_front h s.held s.made i));
        before = λ h i. named_told h.physical h.kind (are.before forward h i);
      }

  -- and of all that any stack holds
  pub tells_held : (name : List ℕ) (h : Held) → In h (known_stack name (world_of life)).held
      → found h.kind (schemas_of (map home_of lanes)) ≡ found h.kind schemas
  tells_held name h =
      at_known (λ (s : StackState). In h s.held → found h.kind (schemas_of (map home_of lanes)) ≡ found h.kind schemas) (world_of life) name
      (λ i. elim i [ ])
      (λ s at i. named_told h.physical h.kind ((lanes_named schemas life name s holds at).now h (in_front h s.held s.made i)))
