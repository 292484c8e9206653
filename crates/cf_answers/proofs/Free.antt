-- What is noted of live resources stays noted, and a new one whose text is not noted is none of them.
use Rattle.std.proofs.Common.{◌≡◌, ◌∙◌, ℕ, List, [], ◌∷◌, Bool, true, false, ◌&&◌, ◌||◌, not, Option, Some, None, Result, Ok, Err, map, filter, cond, refl, sym, ap, true≢false}
use Rattle.std.specs.Prelude.{IfOk, OnErr, is_some}
use Rattle.std.specs.declared.alloc.AllocError.{AllocError}
use Rattle.std.specs.Cmp.{first_so, second_so}
use Rattle.std.specs.List.{list_all}
use Rattle.std.specs.Str.{bytes_eq}
use Rattle.std.proofs.lemmas.List.Folds.{list_all-append}
use Rattle.std.proofs.lemmas.Option.{none-some, same_Some}
use Rattle.std.proofs.lemmas.Slice.Eq.{bytes_eq-Decides}
use Rattle.cf_tree.specs.Datum.{Data, text, whole, truth, list, dict}
use Rattle.cf_tree.specs.Keys.{put, value_at}
use Rattle.cf_tree.specs.declared.request.Request.{Request}
use Rattle.cf_tree.specs.declared.request.Request.TheVariants.{Create, Update, Delete}
use Rattle.cf_tree.proofs.Lookups.{put_else, put_here}
use Rattle.cf_schema.specs.declared.described.Schema.{Schema}
use Rattle.cf_handler.specs.Lane.{Live, live_changed, updated}
use Rattle.cf_handler.specs.declared.settled.Settlement.{Settlement}
use Rattle.cf_handler.specs.declared.settled.Settlement.TheVariants.{Success, Failed}
use Rattle.cf_answers.specs.declared.live.LiveResource.{LiveResource}
use Rattle.cf_answers.specs.declared.noted.Noted.{Noted}
use Rattle.cf_answers.specs.Live.{lives}
use Rattle.cf_answers.specs.Noted.{are_noted, first_text, is_noted, noting, noting_of, text_of}
use Rattle.cf_answers.specs.Table.{agree, agree_at, are_same, create_answer, is_taken}

pub known-by : (a b c : Bool) → (b ≡ true → c ≡ true) → (a || b) ≡ true → (a || c) ≡ true
known-by true b c f h = refl
known-by false b c f h = f h

-- what is noted stays so
put_more : (t u : List ℕ) (ts : List (List ℕ × Bool)) → is_some (value_at u ts) ≡ true → is_some (value_at u (put t true ts)) ≡ true
put_more t u ts h = by (bytes_eq u t) refl where
  by : (b : Bool) → bytes_eq u t ≡ b → is_some (value_at u (put t true ts)) ≡ true
  by true e = ap (λ (k : List ℕ). is_some (value_at k (put t true ts))) ((bytes_eq-Decides u t).0 e) ∙ ap is_some (put_here t true ts)
  by false e = ap is_some (put_else u t true ts e) ∙ h

noted_more : (t u : Option (List ℕ)) (n : Noted) → is_noted n u ≡ true → is_noted (noting t n) u ≡ true
noted_more None u n h = refl
noted_more (Some t) None n h = h
noted_more (Some t) (Some u) n h = known-by n.others (is_some (value_at u n.texts)) (is_some (value_at u (put t true n.texts))) (put_more t u n.texts) h

-- and a text that was noted is
noted_now : (t : Option (List ℕ)) (n : Noted) → is_noted (noting t n) t ≡ true
noted_now None n = refl
noted_now (Some t) n = by n.others where
  by : (b : Bool) → (b || is_some (value_at t (put t true n.texts))) ≡ true
  by true = refl
  by false = ap is_some (put_here t true n.texts)

both : (a b : Bool) → a ≡ true → b ≡ true → (a && b) ≡ true
both true b h g = g
both false b h g = h

module _ {A : Type 0} (p q : A → Bool) where
  all_more : ((a : A) → p a ≡ true → q a ≡ true) → (xs : List A) → list_all p xs ≡ true → list_all q xs ≡ true
  all_more f [] h = refl
  all_more f (x ∷ xs) h = both (q x) (list_all q xs) (f x (first_so (p x) (list_all p xs) h)) (all_more f xs (second_so (p x) (list_all p xs) h))

  all_mapped : (f : A → A) → ((a : A) → p a ≡ true → q (f a) ≡ true) → (xs : List A) → list_all p xs ≡ true → list_all q (map f xs) ≡ true
  all_mapped f g [] h = refl
  all_mapped f g (x ∷ xs) h = both (q (f x)) (list_all q (map f xs)) (g x (first_so (p x) (list_all p xs) h)) (all_mapped f g xs (second_so (p x) (list_all p xs) h))

all_left : {A : Type 0} (p keeps : A → Bool) (xs : List A) → list_all p xs ≡ true → list_all p (filter keeps xs) ≡ true
all_left p keeps [] h = refl
all_left p keeps (x ∷ xs) h = by (keeps x) (all_left p keeps xs (second_so (p x) (list_all p xs) h)) where
  by : (b : Bool) → list_all p (filter keeps xs) ≡ true → list_all p (cond b (x ∷ filter keeps xs) (filter keeps xs)) ≡ true
  by true i = both (p x) (list_all p (filter keeps xs)) (first_so (p x) (list_all p xs) h) i
  by false i = i

module _ (names : List (List ℕ)) (n : Noted) where
  abbrev is_so : Noted → Live → Bool
  is_so m r = is_noted m (first_text names r.props)

  stay : (t : Option (List ℕ)) (live : List Live) → are_noted n names live ≡ true → are_noted (noting t n) names live ≡ true
  stay t live h = all_more (is_so n) (is_so (noting t n)) (λ r. noted_more t (first_text names r.props) n) live h

  requested : (request : Request) (live : List Live) → are_noted n names live ≡ true → are_noted (noting_of names request n) names live ≡ true
  requested (Create kind props) live h = stay (first_text names props) live h
  requested (Update id props) live h = stay (first_text names props) live h
  requested (Delete id) live h = h

  changed : (request : Request) (s : Settlement) (live : List Live) → are_noted n names live ≡ true → are_noted (noting_of names request n) names (live_changed request s live) ≡ true
  changed (Create kind props) (Success id attrs) live h =
      let m = noting (first_text names props) n in
      let new : Live = record { id = id; kind = kind; props = props; attrs = attrs } in
      list_all-append (is_so m) live (new ∷ [])
      ∙ both (list_all (is_so m) live) (is_so m new && true) (stay (first_text names props) live h) (both (is_so m new) true (noted_now (first_text names props) n) refl)
  changed (Update id props) (Success other attrs) live h = all_mapped (is_so n) (is_so (noting (first_text names props) n)) (updated id props attrs) each live h where
    by : (r : Live) (b : Bool) → is_so n r ≡ true → is_so (noting (first_text names props) n) (cond b (record { id = r.id; kind = r.kind; props = props; attrs = attrs }) r) ≡ true
    by r true k = noted_now (first_text names props) n
    by r false k = noted_more (first_text names props) (first_text names r.props) n k

    each : (r : Live) → is_so n r ≡ true → is_so (noting (first_text names props) n) (updated id props attrs r) ≡ true
    each r k = by r (bytes_eq id r.id) k
  changed (Delete id) (Success other attrs) live h = all_left (is_so n) (λ r. not (bytes_eq id r.id)) live h
  changed (Create kind props) (Failed code) live h = stay (first_text names props) live h
  changed (Update id props) (Failed code) live h = stay (first_text names props) live h
  changed (Delete id) (Failed code) live h = h

pub noted_after : (names : List (List ℕ)) (n m : Noted) (request : Request) (s : Settlement) (live live' : List LiveResource) (r : Result (Unit {0}) AllocError)
    → are_noted n names (lives live) ≡ true → m ≡ noting_of names request n → IfOk r (λ _. lives live' ≡ live_changed request s (lives live)) → OnErr r (live' ≡ live)
    → are_noted m names (lives live') ≡ true
noted_after names n m request s live live' (Ok x) h e l v =
    ap (λ (k : Noted). are_noted k names (lives live')) e ∙ ap (are_noted (noting_of names request n) names) l ∙ changed names n request s (lives live) h
noted_after names n m request s live live' (Err x) h e l v =
    ap (λ (k : Noted). are_noted k names (lives live')) e ∙ ap (λ (ls : List LiveResource). are_noted (noting_of names request n) names (lives ls)) v ∙ requested names n request (lives live) h

-- a text that is not noted is none of a live resource's
text_there : (o : Option Data) (t : List ℕ) → text_of o ≡ Some t → o ≡ Some (text t)
text_there None t h = absurd (none-some t h)
text_there (Some (text u)) t h = ap (λ (k : List ℕ). Some (text k)) (same_Some u t h)
text_there (Some (whole i)) t h = absurd (none-some t h)
text_there (Some (truth b)) t h = absurd (none-some t h)
text_there (Some (list ds)) t h = absurd (none-some t h)
text_there (Some (dict ms)) t h = absurd (none-some t h)

disagree : (n : Noted) (t : List ℕ) (o : Option Data) → is_noted n (Some t) ≡ false → is_noted n (text_of o) ≡ true → agree o (Some (text t)) ≡ false
disagree n t o out h = by (text_of o) refl h where
  absent : (a b : Bool) → (a || b) ≡ false → a ≡ false
  absent true b e = e
  absent false b e = refl

  lone : (a : Bool) → (a || false) ≡ true → a ≡ true
  lone true e = refl
  lone false e = e

  by : (w : Option (List ℕ)) → text_of o ≡ w → is_noted n w ≡ true → agree o (Some (text t)) ≡ false
  by None e k = absurd (true≢false (sym (lone n.others k) ∙ absent n.others (is_some (value_at t n.texts)) out))
  by (Some u) e k = ap (λ (d : Option Data). agree d (Some (text t))) (text_there o u e) ∙ other (bytes_eq u t) refl where
    other : (b : Bool) → bytes_eq u t ≡ b → b ≡ false
    other false g = refl
    other true g = absurd (true≢false (sym k ∙ ap (λ (x : List ℕ). is_noted n (Some x)) ((bytes_eq-Decides u t).0 g) ∙ out))

none_same : (g : Schema) (n : Noted) (old new : List (List ℕ × Data)) (t : List ℕ) → first_text g.create_only new ≡ Some t → is_noted n (Some t) ≡ false
    → is_noted n (first_text g.create_only old) ≡ true → are_same g old new ≡ false
none_same g n old new t h out k = ap (λ (b : Bool). b && list_all (agree_at old new) g.conditional) (by g.create_only h k) where
  by : (names : List (List ℕ)) → first_text names new ≡ Some t → is_noted n (first_text names old) ≡ true → list_all (agree_at old new) names ≡ false
  by [] e i = absurd (none-some t e)
  by (name ∷ names) e i =
      ap (λ (b : Bool). b && list_all (agree_at old new) names)
      (ap (λ (v : Option Data). agree (value_at name old) v) (text_there (value_at name new) t e) ∙ disagree n t (value_at name old) out i)

free : (g : Schema) (n : Noted) (props : List (List ℕ × Data)) (t : List ℕ) → first_text g.create_only props ≡ Some t → is_noted n (Some t) ≡ false
    → (live : List Live) → are_noted n g.create_only live ≡ true → is_taken g props live ≡ false
free g n props t h out [] k = refl
free g n props t h out (r ∷ rs) k =
    let is = is_noted n (first_text g.create_only r.props) in
    ap (λ (b : Bool). b || is_taken g props rs) (none_same g n r.props props t h out (first_so is (are_noted n g.create_only rs) k))
    ∙ free g n props t h out rs (second_so is (are_noted n g.create_only rs) k)

pub free_answer : (g : Schema) (n : Noted) (name : List ℕ) (token : ℕ) (props : List (List ℕ × Data)) (t : List ℕ) (live : List Live) → first_text g.create_only props ≡ Some t
    → is_noted n (Some t) ≡ false → are_noted n g.create_only live ≡ true → create_answer g name token props [] ≡ create_answer g name token props live
free_answer g n name token props t live h out k = rw (free g n props t h out live k) refl

pub is_not : (b : Bool) → not b ≡ true → b ≡ false
is_not true h = sym h
is_not false h = refl
