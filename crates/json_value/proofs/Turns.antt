-- Reading a list turn by turn, with each value as its data.
use Rattle.std.proofs.Common.{◌≡◌, ℕ, zero, suc, ◌-◌, ◌<◌, ◌≤◌, List, length, Option, Some, None, option_map, option_and_then, refl, ap, ◌∙◌}
use Rattle.json.specs.Token.{Token}
use Rattle.json.specs.Json as json
use Rattle.json.specs.Json.{Parse, parse_map, after_end_array, read_key, items_step, items, members, if_last}
use Rattle.json.proofs.Grammar.{items_end, items_more, members_end, members_no_key, members_more}
use Rattle.serde_json.specs.Data.{Data, array, object, no_items, item, Members, no_members, put}
use Rattle.serde_json.specs.Read.{of_json, of_items, of_members, converted}

-- ---- what was read, and what it is as data

abbrev beside : {B : Type 0} → List Token → Option B → Option (B × List Token)
beside r x = option_map (λ b. (b, r)) x

some_beside : {B : Type 0} (s r : List Token) (x : Option B) (b : B) → beside s x ≡ Some (b, r) → (s ≡ r) × (x ≡ Some b)
some_beside {B} s r None b h = absurd cc
some_beside {B} s r (Some y) b h = let same : ◌≡◌ {A = B × List Token} (y, s) (b, r) = cc in (ap (λ p. p.1) same, ap (λ p. Some p.0) same)

none_beside : {B : Type 0} (r : List Token) (x : Option B) → beside r x ≡ None → x ≡ None
none_beside r None h = refl
none_beside r (Some y) h = absurd cc

map_beside : {A B : Type 0} (f : A → B) (r : List Token) (x : Option A) → beside r (option_map f x) ≡ parse_map f (beside r x)
map_beside f r None = refl
map_beside f r (Some a) = refl

pub parts : {A B : Type 0} (f : A → Option B) (o : Option (A × List Token)) (b : B) (r : List Token) → converted f o ≡ Some (b, r) → (a : A) × (o ≡ Some (a, r)) × (f a ≡ Some b)
parts f None b r h = absurd cc
parts f (Some p) b r h = let both = some_beside p.1 r (f p.0) b h in (p.0, ap (λ s. Some (p.0, s)) both.0, both.1)

pub of_array : (o : Option (json.Items × List Token)) → converted of_json (parse_map json.array o) ≡ parse_map array (converted of_items o)
of_array None = refl
of_array (Some p) = map_beside array p.1 (of_items p.0)

pub of_object : (o : Option (json.Members × List Token)) → converted of_json (parse_map json.object o) ≡ parse_map object (converted (λ ms. of_members ms no_members) o)
of_object None = refl
of_object (Some p) = map_beside object p.1 (of_members p.0 no_members)

-- ---- a turn

item_first : (j : json.Json) (d : Data) → of_json j ≡ Some d → (o : Option (json.Items × List Token)) → converted of_items (parse_map (json.item j) o) ≡ parse_map (item d) (converted of_items o)
item_first j d is None = refl
item_first j d is (Some p) = rw is (map_beside (item d) p.1 (of_items p.0))

no_item_first : (j : json.Json) → of_json j ≡ None → (o : Option (json.Items × List Token)) → converted of_items (parse_map (json.item j) o) ≡ None
no_item_first j is None = refl
no_item_first j is (Some p) = rw is refl

member_first : (k : List ℕ) (j : json.Json) (d : Data) (old : Members) → of_json j ≡ Some d → (o : Option (json.Members × List Token))
    → converted (λ ms. of_members ms old) (parse_map (json.member k j) o) ≡ converted (λ ms. of_members ms (put k d old)) o
member_first k j d old is None = refl
member_first k j d old is (Some p) = rw is refl

no_member_first : (k : List ℕ) (j : json.Json) (old : Members) → of_json j ≡ None → (o : Option (json.Members × List Token)) → converted (λ ms. of_members ms old) (parse_map (json.member k j) o) ≡ None
no_member_first k j old is None = refl
no_member_first k j old is (Some p) = rw is refl

module _ (p : Parse json.Json) where
  pub item_read : (n : ℕ) (ts r : List Token) (d : Data) → 0 < n → after_end_array ts ≡ None → converted of_json (p ts) ≡ Some (d, r)
      → converted of_items (items p n ts) ≡ parse_map (item d) (converted of_items (items p (n - 1) r))
  item_read n ts r d some more h = let j = parts of_json (p ts) d r h in ap (converted of_items) (items_more p n ts r j.0 some more j.1) ∙ item_first j.0 d j.2 _

  no_item : (more : Parse json.Items) (o : Option (json.Json × List Token)) → converted of_json o ≡ None → converted of_items (option_and_then (λ q. parse_map (json.item q.0) (more q.1)) o) ≡ None
  no_item more None h = refl
  no_item more (Some q) h = no_item_first q.0 (none_beside q.1 (of_json q.0) h) (more q.1)

  pub item_refused : (n : ℕ) (ts : List Token) → after_end_array ts ≡ None → converted of_json (p ts) ≡ None → converted of_items (items p n ts) ≡ None
  unfolding items
  item_refused zero ts more h = refl
  item_refused (suc n) ts more h = ap (λ o. converted of_items (items_step p (items p n) ts o)) more ∙ no_item (items p n) (p ts) h

  pub items_over : (n : ℕ) (ts r : List Token) → length ts ≤ n → after_end_array ts ≡ Some r → converted of_items (items p n ts) ≡ Some (no_items, r)
  items_over n ts r enough h = ap (converted of_items) (items_end p n ts r enough h)

  module _ (old : Members) where
    pub member_read : (n : ℕ) (k : List ℕ) (ts s r : List Token) (d : Data) → 0 < n → read_key ts ≡ Some (Some k, s) → converted of_json (p s) ≡ Some (d, r)
        → converted (λ ms. of_members ms old) (members p n ts) ≡ converted (λ ms. of_members ms (put k d old)) (members p (n - 1) r)
    member_read n k ts s r d some key h =
        let j = parts of_json (p s) d r h in
        ap (converted (λ ms. of_members ms old)) (members_more p n k ts s r j.0 some key j.1) ∙ member_first k j.0 d old j.2 _

    no_member : (k : List ℕ) (more : Parse json.Members) (o : Option (json.Json × List Token)) → converted of_json o ≡ None
        → converted (λ ms. of_members ms old) (option_and_then (λ q. parse_map (json.member k q.0) (more q.1)) o) ≡ None
    no_member k more None h = refl
    no_member k more (Some q) h = no_member_first k q.0 old (none_beside q.1 (of_json q.0) h) (more q.1)

    pub member_refused : (n : ℕ) (k : List ℕ) (ts s : List Token) → read_key ts ≡ Some (Some k, s) → converted of_json (p s) ≡ None → converted (λ ms. of_members ms old) (members p n ts) ≡ None
    unfolding members
    member_refused zero k ts s key h = refl
    member_refused (suc n) k ts s key h = rw key (no_member k (members p n) (p s) h)

    pub key_refused : (n : ℕ) (ts : List Token) → read_key ts ≡ None → converted (λ ms. of_members ms old) (members p n ts) ≡ None
    key_refused n ts h = ap (converted (λ ms. of_members ms old)) (members_no_key p n ts h)

    pub members_over : (n : ℕ) (ts r : List Token) → length ts ≤ n → read_key ts ≡ Some (None, r) → converted (λ ms. of_members ms old) (members p n ts) ≡ Some (old, r)
    members_over n ts r enough h = ap (converted (λ ms. of_members ms old)) (members_end p n ts r enough h)
