-- A key among the keys of an object.
use Rattle.std.proofs.Common.{◌≡◌, ◌<◌, ◌≤◌, ◌+◌, ◌-◌, ◌++◌, ◌∙◌, ℕ, zero, suc, List, [], ◌∷◌, Option, Some, None, Bool, true, false, cond, length, map, set, String, string_bytes, refl, sym, ap, arith}
use Rattle.std.specs.Str.{bytes_eq}
use Rattle.std.specs.Global.{Global}
use Rattle.std.specs.declared.rc.Rc.{Rc}
use Rattle.std.proofs.lemmas.Slice.Eq.{bytes_eq-Decides}
use Rattle.js_meaning.specs.Value.{Text, Value, Content, element, property}
use Rattle.js_meaning.specs.Expression.{with_property, array_content}
use Rattle.run_value.specs.declared.value.Value as held
use Rattle.run_value.specs.View.{value_of, content_of}
use Rattle.run_value.specs.Place.{place_from}

abbrev Keys : Type 0
Keys = List (Rc (String Global) Global)

-- a place found is one of theirs
pub place_within : (n : ℕ) (keys : Keys) (key : Text) (i : ℕ) → place_from n keys key ≡ Some i → (n ≤ i) × (i < n + length keys)
place_within n [] key i h = absurd (cc h)
place_within n (k ∷ ks) key i h = go (bytes_eq (string_bytes k.value) key) h (place_within (suc n) ks key i)
  where
    go : (b : Bool) → cond b (Some n) (place_from (suc n) ks key) ≡ Some i → (place_from (suc n) ks key ≡ Some i → (suc n ≤ i) × (i < suc n + length ks)) → (n ≤ i) × (i < n + length (k ∷ ks))
    go true e rest = let same : n ≡ i = cc e in (omega arith, omega arith)
    go false e rest = let w = rest e in (omega arith, omega arith)

property_at : (b : Bool) (k key : Text) (v u : Value) (c : Content) → bytes_eq k key ≡ b → cond b (property k v c) (property k u (with_property key v c)) ≡ with_property key v (property k u c)
property_at b k key v u c h = ap (λ (t : Bool). cond t (property k v c) (property k u (with_property key v c))) (sym h)

-- a key that stands there takes the new value in its place
pub put_there : (n j : ℕ) (keys : Keys) (vs : List held.Value) (key : Text) (v : held.Value) → length keys ≡ length vs → place_from n keys key ≡ Some (n + j)
    → content_of keys (set vs j v) ≡ with_property key (value_of v) (content_of keys vs)
put_there n j [] vs key v l h = absurd (cc h)
put_there n j (k ∷ ks) [] key v l h = absurd (omega arith)
put_there n j (k ∷ ks) (u ∷ vs) key v l h = go (bytes_eq (string_bytes k.value) key) refl j h (λ i e. put_there (suc n) i ks vs key v (omega arith) e)
  where
    go : (b : Bool) → bytes_eq (string_bytes k.value) key ≡ b → (j : ℕ) → cond b (Some n) (place_from (suc n) ks key) ≡ Some (n + j) → ((i : ℕ) → place_from (suc n) ks key ≡ Some (suc n + i) → content_of ks (set vs i v) ≡ with_property key (value_of v) (content_of ks vs)) → content_of (k ∷ ks) (set (u ∷ vs) j v) ≡ with_property key (value_of v) (content_of (k ∷ ks) (u ∷ vs))
    go true e zero h2 rest = property_at true (string_bytes k.value) key (value_of v) (value_of u) (content_of ks vs) e
    go true e (suc i) h2 rest = let no : n ≡ n + suc i = cc h2 in absurd (omega arith)
    go false e zero h2 rest = let w = place_within (suc n) ks key (n + zero) h2 in absurd (omega arith)
    go false e (suc i) h2 rest =
        let shifted : n + suc i ≡ suc n + i = omega arith in
        ap (property (string_bytes k.value) (value_of u)) (rest i (h2 ∙ ap Some shifted)) ∙ property_at false (string_bytes k.value) key (value_of v) (value_of u) (content_of ks vs) e

-- a new one stands behind the others
pub put_behind : (n : ℕ) (keys : Keys) (vs : List held.Value) (key : Rc (String Global) Global) (v : held.Value) → length keys ≡ length vs → place_from n keys (string_bytes key.value) ≡ None
    → content_of (keys ++ key ∷ []) (vs ++ v ∷ []) ≡ with_property (string_bytes key.value) (value_of v) (content_of keys vs)
put_behind n [] [] key v l h = refl
put_behind n [] (u ∷ vs) key v l h = absurd (omega arith)
put_behind n (k ∷ ks) [] key v l h = absurd (omega arith)
put_behind n (k ∷ ks) (u ∷ vs) key v l h = go (bytes_eq (string_bytes k.value) (string_bytes key.value)) refl h (λ e. put_behind (suc n) ks vs key v (omega arith) e)
  where
    go : (b : Bool) → bytes_eq (string_bytes k.value) (string_bytes key.value) ≡ b → cond b (Some n) (place_from (suc n) ks (string_bytes key.value)) ≡ None → (place_from (suc n) ks (string_bytes key.value) ≡ None → content_of (ks ++ key ∷ []) (vs ++ v ∷ []) ≡ with_property (string_bytes key.value) (value_of v) (content_of ks vs)) → content_of ((k ∷ ks) ++ key ∷ []) ((u ∷ vs) ++ v ∷ []) ≡ with_property (string_bytes key.value) (value_of v) (content_of (k ∷ ks) (u ∷ vs))
    go true e h2 rest = absurd (cc h2)
    go false e h2 rest = ap (property (string_bytes k.value) (value_of u)) (rest h2) ∙ property_at false (string_bytes k.value) (string_bytes key.value) (value_of v) (value_of u) (content_of ks vs) e

pub elements : (vs : List held.Value) → content_of [] vs ≡ array_content (map value_of vs)
elements [] = refl
elements (v ∷ vs) = ap (element (value_of v)) (elements vs)

pub put_found : (j : ℕ) (keys : Keys) (vs ws : List held.Value) (key : Text) (v : held.Value) (c : Content) → length keys ≡ length vs → place_from 0 keys key ≡ Some j → content_of keys vs ≡ c → ws ≡ set vs j v → content_of keys ws ≡ with_property key (value_of v) c
put_found j keys vs ws key v c l h is new =
    let shifted : j ≡ 0 + j = omega arith in
    ap (content_of keys) new ∙ put_there 0 j keys vs key v l (h ∙ ap Some shifted) ∙ ap (with_property key (value_of v)) is

pub put_new : (keys ks : Keys) (vs ws : List held.Value) (key : Rc (String Global) Global) (v : held.Value) (c : Content) → length keys ≡ length vs → place_from 0 keys (string_bytes key.value) ≡ None → content_of keys vs ≡ c → ks ≡ keys ++ key ∷ [] → ws ≡ vs ++ v ∷ [] → content_of ks ws ≡ with_property (string_bytes key.value) (value_of v) c
put_new keys ks vs ws key v c l h is new_keys new_values =
    ap (λ xs. content_of xs ws) new_keys ∙ ap (content_of (keys ++ key ∷ [])) new_values ∙ put_behind 0 keys vs key v l h ∙ ap (with_property (string_bytes key.value) (value_of v)) is
