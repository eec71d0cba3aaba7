-- A value, level by level, and lists that grow at their ends.
use Rattle.std.proofs.Common.{◌≡◌, ℕ, List, [], ◌∷◌, ◌++◌, map, true, false, Option, Some, None, Vec, Global, Bor, Ordering, Less, Equal, Greater, nat_cmp, bytes_eq, true≢false, refl, sym, ap, ◌∙◌, rules}
use Rattle.std.proofs.lemmas.Slice.Eq.{bytes_eq-Decides}
use Rattle.json.specs.Token.{Token}
use Rattle.json.specs.Json.{parse_map}
use Rattle.serde_json.specs.Data.{Data, array, object, Items, no_items, item, Members, no_members, member, put}
use Rattle.std.specs.Cmp.Lexicographic.{slice_cmp}
use Rattle.std.specs.Ordering.{match_ordering}
use Rattle.serde_json.specs.Find.{get_member}
use Rattle.serde_json.proofs.Views.{get_member-put, get_member-put_other}
use Rattle.json_value.specs.View.{view, items_view, members_view, put_all}
use Rattle.json_value.specs.declared.value.Value.{Value, Array, Object, the_lemmas}

abbrev pub Member : Type 0
Member = Bor (List ℕ) × Value

pub view_array : (v : Vec Value Global) → view (Array v) ≡ array (items_view v.items)
view_array v = search (rules, the_lemmas)

pub view_object : (v : Vec Member Global) → view (Object v) ≡ object (members_view v.items)
view_object v = search (rules, the_lemmas)

-- ---- items

abbrev pub items_before : List Value → Items → Items
items_before [] rest = rest
items_before (v ∷ vs) rest = item (view v) (items_before vs rest)

pub all_items : (vs : List Value) → items_before vs no_items ≡ items_view vs
all_items [] = refl
all_items (v ∷ vs) = ap (item (view v)) (all_items vs)

behind : (vs : List Value) (v : Value) (rest : Items) → items_before vs (item (view v) rest) ≡ items_before (vs ++ v ∷ []) rest
behind [] v rest = refl
behind (w ∷ vs) v rest = ap (item (view w)) (behind vs v rest)

pub one_more_item : (vs : List Value) (v : Value) (r : Option (Items × List Token)) → parse_map (items_before vs) (parse_map (item (view v)) r) ≡ parse_map (items_before (vs ++ v ∷ [])) r
one_more_item vs v None = refl
one_more_item vs v (Some p) = ap (λ ds. Some (ds, p.1)) (behind vs v p.0)

pub no_item_yet : (r : Option (Items × List Token)) → r ≡ parse_map (items_before []) r
no_item_yet None = refl
no_item_yet (Some p) = refl

-- ---- members

abbrev seen : List Member → List (Bor (List ℕ) × Data)
seen ms = map (λ m. (m.0, view m.1)) ms

put_behind : (ms : List Member) (m : Member) (found : Members) → put_all (seen (ms ++ m ∷ [])) found ≡ put m.0.now (view m.1) (put_all (seen ms) found)
put_behind [] m found = refl
put_behind (first ∷ ms) m found = put_behind ms m (put first.0.now (view first.1) found)

-- the last member goes in last
pub one_more_member : (ms : List Member) (m : Member) → members_view (ms ++ m ∷ []) ≡ put m.0.now (view m.1) (members_view ms)
one_more_member ms m = put_behind ms m no_members

pub found_last : (key : List ℕ) (ms : List Member) (m : Member) → bytes_eq m.0.now key ≡ true → get_member key (members_view (ms ++ m ∷ [])) ≡ Some (view m.1)
found_last key ms m is =
    let same : m.0.now ≡ key = (bytes_eq-Decides m.0.now key).0 is in
    rw (one_more_member ms m, ← same) (get_member-put m.0.now (view m.1) (members_view ms))

pub not_last : (key : List ℕ) (ms : List Member) (m : Member) → bytes_eq m.0.now key ≡ false → get_member key (members_view (ms ++ m ∷ [])) ≡ get_member key (members_view ms)
not_last key ms m is =
    let other = λ (same : key ≡ m.0.now). true≢false (sym ((bytes_eq-Decides m.0.now key).1 (sym same)) ∙ is) in
    ap (get_member key) (one_more_member ms m) ∙ get_member-put_other key m.0.now (view m.1) (members_view ms) other

something_put : (o : Ordering) (k l : List ℕ) (d e : Data) (ms rest : Members) → match_ordering o (member k d (member l e ms)) (member l d ms) (member l e rest) ≡ no_members → ⊥
something_put Less k l d e ms rest h = cc
something_put Equal k l d e ms rest h = cc
something_put Greater k l d e ms rest h = cc

put_is_some : (k : List ℕ) (d : Data) (ms : Members) → put k d ms ≡ no_members → ⊥
put_is_some k d no_members h = cc
put_is_some k d (member l e ms) h = something_put (slice_cmp nat_cmp k l) k l d e ms (put k d ms) h

all_is_some : (ms : List (Bor (List ℕ) × Data)) (found : Members) → (found ≡ no_members → ⊥) → put_all ms found ≡ no_members → ⊥
all_is_some [] found some h = some h
all_is_some (m ∷ ms) found some h = all_is_some ms (put m.0.now m.1 found) (put_is_some m.0.now m.1 found) h

-- an object that has a member isn't empty
pub no_members_only_of_none : (m : Member) (ms : List Member) → members_view (m ∷ ms) ≡ no_members → ⊥
no_members_only_of_none m ms h = all_is_some (seen ms) (put m.0.now (view m.1) no_members) (put_is_some m.0.now (view m.1) no_members) h
