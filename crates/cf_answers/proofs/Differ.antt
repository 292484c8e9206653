-- The ids of live resources differ after a settled call, where what it makes has an id of its own.
use Rattle.std.proofs.Common.{◌≡◌, ◌∙◌, ℕ, List, [], ◌∷◌, ◌++◌, Bool, true, false, cond, ◌&&◌, ◌||◌, Option, Some, None, Result, Ok, Err, refl, sym, ap, true≢false, map}
use Rattle.std.specs.Prelude.{not, find, filter, IfOk, OnErr, is_some}
use Rattle.std.specs.declared.alloc.AllocError.{AllocError}
use Rattle.std.specs.Str.{bytes_eq}
use Rattle.std.specs.Cmp.{first_so, second_so}
use Rattle.std.proofs.lemmas.Slice.Eq.{bytes_eq-Decides}
use Rattle.cf_tree.specs.Datum.{Data}
use Rattle.cf_tree.specs.declared.request.Request.{Request}
use Rattle.cf_tree.specs.declared.request.Request.TheVariants.{Create, Update, Delete}
use Rattle.cf_handler.specs.Lane.{Live, live_changed, updated}
use Rattle.cf_handler.specs.declared.settled.Settlement.{Settlement}
use Rattle.cf_handler.specs.declared.settled.Settlement.TheVariants.{Success, Failed}
use Rattle.cf_answers.specs.declared.live.LiveResource.{LiveResource}
use Rattle.cf_answers.specs.Live.{lives, has_other, differ}
use Rattle.cf_answers.specs.Table.{is_of_id, is_apart}

both : (a b : Bool) → a ≡ true → b ≡ true → (a && b) ≡ true
both true b h g = g
both false b h g = h

neither : (a b : Bool) → a ≡ false → b ≡ false → (a || b) ≡ false
neither true b h g = h
neither false b h g = g

left_false : (a b : Bool) → (a || b) ≡ false → a ≡ false
left_false true b h = h
left_false false b h = refl

right_false : (a b : Bool) → (a || b) ≡ false → b ≡ false
right_false true b h = absurd (true≢false h)
right_false false b h = h

not_true : (b : Bool) → not b ≡ true → b ≡ false
not_true true h = absurd (true≢false (sym h))
not_true false h = refl

not_false : (b : Bool) → b ≡ false → not b ≡ true
not_false true h = absurd (true≢false h)
not_false false h = refl

not_both : (b : Bool) → (b ≡ true → ⊥) → b ≡ false
not_both true f = absurd (f refl)
not_both false f = refl

-- an update leaves ids
id-by : (b : Bool) (props attrs : List (List ℕ × Data)) (r : Live) → (cond b (record { id = r.id; kind = r.kind; props = props; attrs = attrs }) r).id ≡ r.id
id-by true props attrs r = refl
id-by false props attrs r = refl

pub updated_id : (id : List ℕ) (props attrs : List (List ℕ × Data)) (r : Live) → (updated id props attrs r).id ≡ r.id
updated_id id props attrs r = id-by (bytes_eq id r.id) props attrs r

other_updated : (other id : List ℕ) (props attrs : List (List ℕ × Data)) (live : List Live) → has_other other (map (updated id props attrs) live) ≡ has_other other live
other_updated other id props attrs [] = refl
other_updated other id props attrs (r ∷ rs) = λ i. bytes_eq other (updated_id id props attrs r i) || other_updated other id props attrs rs i

pub differ_updated : (id : List ℕ) (props attrs : List (List ℕ × Data)) (live : List Live) → differ (map (updated id props attrs) live) ≡ differ live
differ_updated id props attrs [] = refl
differ_updated id props attrs (r ∷ rs) =
    let here : has_other (updated id props attrs r).id (map (updated id props attrs) rs) ≡ has_other r.id rs = ap (λ x. has_other x (map (updated id props attrs) rs)) (updated_id id props attrs r) ∙ other_updated r.id id props attrs rs in
    λ i. not (here i) && differ_updated id props attrs rs i

-- a deletion makes none alike
other_filtered-by : (b : Bool) (id : List ℕ) (r : Live) (rs : List Live) → bytes_eq id r.id ≡ false → has_other id rs ≡ false → has_other id (cond b (r ∷ rs) rs) ≡ false
other_filtered-by true id r rs h g = neither _ _ h g
other_filtered-by false id r rs h g = g

other_filtered : (id : List ℕ) (p : Live → Bool) (live : List Live) → has_other id live ≡ false → has_other id (filter p live) ≡ false
other_filtered id p [] h = refl
other_filtered id p (r ∷ rs) h = other_filtered-by (p r) id r (filter p rs) (left_false (bytes_eq id r.id) (has_other id rs) h) (other_filtered id p rs (right_false (bytes_eq id r.id) (has_other id rs) h))

differ_filtered-by : (b : Bool) (r : Live) (rs : List Live) → has_other r.id rs ≡ false → differ rs ≡ true → differ (cond b (r ∷ rs) rs) ≡ true
differ_filtered-by true r rs h g = both _ _ (not_false _ h) g
differ_filtered-by false r rs h g = g

pub differ_filtered : (p : Live → Bool) (live : List Live) → differ live ≡ true → differ (filter p live) ≡ true
differ_filtered p [] h = refl
differ_filtered p (r ∷ rs) h = differ_filtered-by (p r) r (filter p rs) (other_filtered r.id p rs (not_true (has_other r.id rs) (first_so _ _ h))) (differ_filtered p rs (second_so (not (has_other r.id rs)) _ h))

-- and a creation, where its id is new
other_made : (id : List ℕ) (live : List Live) (x : Live) → has_other id live ≡ false → bytes_eq id x.id ≡ false → has_other id (live ++ x ∷ []) ≡ false
other_made id [] x h g = neither _ false g refl
other_made id (r ∷ rs) x h g = neither _ _ (left_false (bytes_eq id r.id) (has_other id rs) h) (other_made id rs x (right_false (bytes_eq id r.id) (has_other id rs) h) g)

pub differ_made : (live : List Live) (x : Live) → has_other x.id live ≡ false → differ live ≡ true → differ (live ++ x ∷ []) ≡ true
differ_made [] x u h = refl
differ_made (r ∷ rs) x u h =
    let unlike : bytes_eq r.id x.id ≡ false = not_both _ (λ b. true≢false (sym ((bytes_eq-Decides x.id r.id).1 (sym ((bytes_eq-Decides r.id x.id).0 b))) ∙ left_false (bytes_eq x.id r.id) (has_other x.id rs) u)) in
    both _ _ (not_false _ (other_made r.id rs x (not_true (has_other r.id rs) (first_so _ _ h)) unlike)) (differ_made rs x (right_false (bytes_eq x.id r.id) (has_other x.id rs) u) (second_so (not (has_other r.id rs)) _ h))

nowhere-by : (b : Bool) (x : Live) (o : Option Live) (c : Bool) → (o ≡ None → c ≡ false) → is_some (cond b (Some x) o) ≡ false → (b || c) ≡ false
nowhere-by true x o c f h = absurd (true≢false h)
nowhere-by false x None c f h = f refl
nowhere-by false x (Some r) c f h = absurd (true≢false h)

nowhere : (id : List ℕ) (live : List Live) → is_some (find (is_of_id id) live) ≡ false → has_other id live ≡ false
nowhere id [] h = refl
nowhere id (r ∷ rs) h = nowhere-by (bytes_eq id r.id) r (find (is_of_id id) rs) (has_other id rs) (λ e. nowhere id rs (ap is_some e)) h

pub differ_changed : (request : Request) (s : Settlement) (live : List Live) → is_apart request s live ≡ true → differ live ≡ true → differ (live_changed request s live) ≡ true
differ_changed (Create kind props) (Success id attrs) live a h = differ_made live (record { id = id; kind = kind; props = props; attrs = attrs }) (nowhere id live (not_true _ a)) h
differ_changed (Update id props) (Success other attrs) live a h = differ_updated id props attrs live ∙ h
differ_changed (Delete id) (Success other attrs) live a h = differ_filtered (λ r. not (bytes_eq id r.id)) live h
differ_changed (Create kind props) (Failed code) live a h = h
differ_changed (Update id props) (Failed code) live a h = h
differ_changed (Delete id) (Failed code) live a h = h

pub differ_after : (request : Request) (s : Settlement) (live live' : List LiveResource) (r : Result (Unit {0}) AllocError) → is_apart request s (lives live) ≡ true → differ (lives live) ≡ true
    → IfOk r (λ _. lives live' ≡ live_changed request s (lives live)) → OnErr r (live' ≡ live) → differ (lives live') ≡ true
differ_after request s live live' (Ok x) a h e l = ap differ e ∙ differ_changed request s (lives live) a h
differ_after request s live live' (Err x) a h e l = ap (λ ls. differ (lives ls)) l ∙ h
