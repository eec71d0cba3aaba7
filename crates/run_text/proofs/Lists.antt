-- What is written of what a literal is shown to hold, one after another.
use Rattle.std.proofs.Common.{◌≡◌, ◌∙◌, ℕ, zero, suc, ◌+◌, ◌<◌, List, [], ◌∷◌, ◌++◌, length, get_or, take, flat_map, map, slice_get, String, string_bytes, refl, ap, sym, add-one, arith}
use Rattle.std.proofs.lemmas.List.{flat_map_more}
use Rattle.std.proofs.lemmas.List.Folds.{flat_map-map}
use Rattle.std.specs.Global.{Global}
use Rattle.std.specs.declared.rc.Rc.{Rc}
use Rattle.json.specs.Token.{begin_array, end_array}
use Rattle.serde_json.specs.Data.{Data, array, item}
use Rattle.json_text.specs.Text.{items_of}
use Rattle.js_meaning.specs.Value.{Parts, no_parts, shows, shows_at}
use Rattle.run_value.specs.declared.shown.Shown.{Shown}
use Rattle.run_value.specs.ShownView.{shown_of, parts_of}
use Rattle.run_value.specs.ShownWeight.{shown_size, parts_size}
use Rattle.json_write.specs.Tokens.{data_tokens}
use Rattle.json_write.proofs.Parts.{list_tokens}
use Rattle.run_text.specs.Text.{pair_data, shown_data, parts_items}
use Rattle.run_text.specs.Parts.{parts_datas, part_data}

abbrev Keys : Type 0
Keys = List (Rc (String Global) Global)

-- each value is smaller than all of them together
pub part_smaller : (keys : Keys) (vs : List Shown) (i : ℕ) (v : Shown) → i < length vs → v ≡ get_or vs i v → shown_size (shown_of v) < parts_size (parts_of keys vs)
part_smaller keys [] i v h is = absurd (omega arith)
part_smaller [] (w ∷ vs) zero v h is = rw is (omega arith)
part_smaller (k ∷ keys) (w ∷ vs) zero v h is = rw is (omega arith)
part_smaller [] (w ∷ vs) (suc i) v h is = omega (arith, part_smaller [] vs i v (omega arith) is)
part_smaller (k ∷ keys) (w ∷ vs) (suc i) v h is = omega (arith, part_smaller keys vs i v (omega arith) is)

-- one part more
one_more : (keys : Keys) (vs : List Shown) (i : ℕ) (v : Shown) → i < length vs → v ≡ get_or vs i v
    → parts_datas (parts_of keys (take (suc i) vs)) ≡ parts_datas (parts_of keys (take i vs)) ++ part_data (slice_get keys i) (shown_of v) ∷ []
one_more keys [] i v h is = absurd (omega arith)
one_more [] (w ∷ vs) zero v h is = ap (λ x. shown_data (shown_of x) ∷ []) (sym is)
one_more (k ∷ keys) (w ∷ vs) zero v h is = ap (λ x. pair_data (string_bytes k.value) (shown_data (shown_of x)) ∷ []) (sym is)
one_more [] (w ∷ vs) (suc i) v h is = ap (λ ds. shown_data (shown_of w) ∷ ds) (one_more [] vs i v (omega arith) is)
one_more (k ∷ keys) (w ∷ vs) (suc i) v h is = ap (λ ds. pair_data (string_bytes k.value) (shown_data (shown_of w)) ∷ ds) (one_more keys vs i v (omega arith) is)

pub part_tokens : (keys : Keys) (vs : List Shown) (i : ℕ) (v : Shown) → i < length vs → v ≡ get_or vs i v
    → flat_map data_tokens (parts_datas (parts_of keys (take i vs))) ++ data_tokens (part_data (slice_get keys i) (shown_of v)) ≡ flat_map data_tokens (parts_datas (parts_of keys (take (i + 1) vs)))
part_tokens keys vs i v h is =
    flat_map_more data_tokens [] (parts_datas (parts_of keys (take i vs))) (part_data (slice_get keys i) (shown_of v))
    ∙ ap (flat_map data_tokens) (sym (one_more keys vs i v h is) ∙ ap (λ n. parts_datas (parts_of keys (take n vs))) (sym (add-one i)))

items_same : (c : Parts) → items_of (parts_datas c) ≡ parts_items c
items_same no_parts = refl
items_same (shows v c) = ap (item (shown_data v)) (items_same c)
items_same (shows_at k v c) = ap (item (pair_data k (shown_data v))) (items_same c)

-- all of them in brackets
pub parts_tokens : (c d : Parts) → c ≡ d → begin_array ∷ (flat_map data_tokens (parts_datas c) ++ end_array ∷ []) ≡ data_tokens (array (parts_items d))
parts_tokens c d is = list_tokens (parts_datas c) ∙ ap (λ js. data_tokens (array js)) (items_same c) ∙ ap (λ e. data_tokens (array (parts_items e))) is

-- what is written of each value in memory, by what it is seen as
pub each_tokens : {A B : Type 0} (written : B → Data) (view : A → B) (xs : List A) → flat_map (λ x. data_tokens (written (view x))) xs ≡ flat_map data_tokens (map written (map view xs))
each_tokens written view xs = sym (flat_map-map (λ b. data_tokens (written b)) view xs) ∙ sym (flat_map-map data_tokens written (map view xs))
