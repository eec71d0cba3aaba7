-- The tokens of a node, from those of its parts.
use Rattle.std.proofs.Common.{◌≡◌, ℕ, zero, suc, ◌<◌, ◌≤◌, length, get_or, arith, List, [], ◌∷◌, ◌++◌, Bool, true, false, map, flat_map, Option, Some, None, slice_get, if◌then◌else◌, refl, ap, sym, ◌∙◌, append_assoc}
use Rattle.std.specs.Option.{option_map}
use Rattle.std.proofs.lemmas.Option.{slice_get_read}
use Rattle.json.specs.Token.{Token, begin_array, end_array, begin_object, end_object, key, boolean}
use Rattle.json.specs.Tree.{items_tokens, members_tokens}
use Rattle.serde_json.specs.Data.{Data, null, array, Members, member, no_members}
use Rattle.serde_json.specs.Data as json
use Rattle.serde_json.specs.Written.{items_outline, members_outline}
use Rattle.js_syntax.specs.declared.value.Key.{Key}
use Rattle.js_syntax.specs.declared.value.Key.TheVariants.{Name as key_name, Text as key_text, Number as key_number, Below as key_below}
use Rattle.js_syntax.specs.Scalar.{Scalar, the_key, the_property}
use Rattle.js_syntax.specs.Hint.{says}
use Rattle.js_syntax.specs.Node.{Tree, row}
use Rattle.js_syntax.specs.Facts.{scalars_of}
use Rattle.json_text.specs.Text.{items_of, row_datas, scalar_data, key_beside}
use Rattle.json_entries.specs.Entry.{mark_at, Entry, entry}
use Rattle.json_entries.specs.Entries.{entries_of}
use Rattle.json_entries.specs.Members.{node_of_place, scalar_of_place, is_marked, members_from}
use Rattle.json_entries.specs.declared.form.Form.{Form}
use Rattle.json_entries.specs.Form.{form_of, by_form}
use Rattle.json_entries.proofs.Written.{written_by_form}
use Rattle.json_write.specs.Tokens.{data_tokens, child_data, content_in, fields_in, entry_tokens, is_node_key}

-- what is written of the nodes of a row
pub datas_children : (ts : List (Option Tree)) → row_datas (row ts) ≡ map child_data ts
datas_children [] = refl
datas_children (Some t ∷ ts) = ap (λ ds. child_data (Some t) ∷ ds) (datas_children ts)
datas_children (None ∷ ts) = ap (λ ds. null ∷ ds) (datas_children ts)

-- a node is written by its form
pub node_by_form : (t : Tree) (f : Form) → f ≡ form_of t.kind → data_tokens (by_form f (fields_in t) (row_datas t.below)) ≡ data_tokens (child_data (Some t))
node_by_form t f is = ap data_tokens (ap (λ g. by_form g (fields_in t) (row_datas t.below)) is ∙ sym (written_by_form t.kind t.below (row_datas t.below)))

-- ---- lists

array_tokens : (ds : List Data) → items_tokens (items_outline (items_of ds)) ≡ flat_map data_tokens ds ++ end_array ∷ []
array_tokens [] = refl
array_tokens (d ∷ ds) = ap (λ ts. data_tokens d ++ ts) (array_tokens ds) ∙ sym (append_assoc (data_tokens d) (flat_map data_tokens ds) (end_array ∷ []))

pub list_tokens : (ds : List Data) → begin_array ∷ (flat_map data_tokens ds ++ end_array ∷ []) ≡ data_tokens (array (items_of ds))
list_tokens ds = sym (ap (λ ts. begin_array ∷ ts) (array_tokens ds))

-- ---- fields

module _ (t : Tree) where
  abbrev rest_tokens : List Entry → List Token
  rest_tokens es = members_tokens (members_outline (members_from (scalars_of t.kind) (λ h. says h t.kind t.below) (row_datas t.below) es))

  mark_tokens : (b : Bool) (n : List ℕ) (ms : Members) (ts : List Token) → members_tokens (members_outline ms) ≡ ts
      → members_tokens (members_outline (if b then member n (json.boolean true) ms else ms)) ≡ (if b then key n ∷ boolean true ∷ [] else []) ++ ts
  mark_tokens true n ms ts e = ap (λ us. key n ∷ boolean true ∷ us) e
  mark_tokens false n ms ts e = e

  field_tokens : (n : List ℕ) (d : Data) (ms : Members) (ts : List Token) → members_tokens (members_outline ms) ≡ ts → members_tokens (members_outline (member n d ms)) ≡ (key n ∷ data_tokens d) ++ ts
  field_tokens n d ms ts e = ap (λ us. key n ∷ (data_tokens d ++ us)) e

  entries_tokens : (es : List Entry) → rest_tokens es ≡ flat_map (entry_tokens t) es ++ end_object ∷ []
  entries_tokens [] = refl
  entries_tokens (entry n (mark_at i) ∷ es) =
      mark_tokens (is_marked (scalar_of_place i (scalars_of t.kind))) n _ _ (entries_tokens es) ∙ sym (append_assoc (entry_tokens t (entry n (mark_at i))) (flat_map (entry_tokens t) es) (end_object ∷ []))
  entries_tokens (entry n c ∷ es) =
      field_tokens n (content_in t c) _ _ (entries_tokens es) ∙ sym (append_assoc (entry_tokens t (entry n c)) (flat_map (entry_tokens t) es) (end_object ∷ []))

  pub fields_tokens : begin_object ∷ (flat_map (entry_tokens t) (entries_of t.kind) ++ end_object ∷ []) ≡ data_tokens (fields_in t)
  fields_tokens = ap (λ ts. begin_object ∷ ts) (sym (entries_tokens (entries_of t.kind)))

-- ---- a node at a place

abbrev or_null_data : Option Data → Data
or_null_data None = null
or_null_data (Some d) = d

place_data : (i : ℕ) (ds : List Data) → node_of_place i ds ≡ or_null_data (slice_get ds i)
place_data zero [] = refl
place_data zero (d ∷ ds) = refl
place_data (suc i) [] = place_data i [] ∙ refl
place_data (suc i) (d ∷ ds) = place_data i ds

get_map : (ts : List (Option Tree)) (i : ℕ) → slice_get (map child_data ts) i ≡ option_map child_data (slice_get ts i)
get_map [] i = refl
get_map (t ∷ ts) zero = refl
get_map (t ∷ ts) (suc i) = get_map ts i

place_of_child : (ts : List (Option Tree)) (i : ℕ) (found : Option (Option Tree)) → found ≡ slice_get ts i → or_null_data (option_map child_data found) ≡ node_of_place i (row_datas (row ts))
place_of_child ts i found h =
    ap (λ (o : Option (Option Tree)). or_null_data (option_map child_data o)) h ∙ ap or_null_data (sym (get_map ts i)) ∙ sym (place_data i (map child_data ts)) ∙ ap (node_of_place i) (sym (datas_children ts))

pub child_at_place : (ts : List (Option Tree)) (i : ℕ) (t : Option Tree) → i < length ts → t ≡ get_or ts i t → child_data t ≡ node_of_place i (row_datas (row ts))
child_at_place ts i t h is = place_of_child ts i (Some t) (sym (slice_get_read ts (length ts) i t refl h is))

none_there : (ts : List (Option Tree)) (i : ℕ) → length ts ≤ i → None ≡ slice_get ts i
none_there [] i h = refl
none_there (t ∷ ts) zero h = absurd (omega arith)
none_there (t ∷ ts) (suc i) h = none_there ts i (omega arith)

pub no_child_at_place : (ts : List (Option Tree)) (i : ℕ) → length ts ≤ i → null ≡ node_of_place i (row_datas (row ts))
no_child_at_place ts i h = place_of_child ts i None (none_there ts i h)

-- ---- keys

node_key : (k : Key) (d : Data) → is_node_key (the_key k) ≡ true → d ≡ key_beside (the_key k) d
node_key (key_name s) d e = absurd (cc)
node_key (key_text s) d e = absurd (cc)
node_key (key_number n) d e = absurd (cc)
node_key key_below d e = refl

node_property : (k : Key) (d : Data) → is_node_key (the_property k) ≡ true → d ≡ key_beside (the_property k) d
node_property (key_name s) d e = absurd (cc)
node_property (key_text s) d e = absurd (cc)
node_property (key_number n) d e = absurd (cc)
node_property key_below d e = refl

-- a key that is a node is what is written of it
pub key_is_node : (s : Scalar) (d : Data) → is_node_key s ≡ true → d ≡ key_beside s d
key_is_node (the_key k) d e = node_key k d e
key_is_node (the_property k) d e = node_property k d e
key_is_node s d e = refl

plain_key : (k : Key) (d : Data) → is_node_key (the_key k) ≡ false → scalar_data (the_key k) ≡ key_beside (the_key k) d
plain_key (key_name s) d e = refl
plain_key (key_text s) d e = refl
plain_key (key_number n) d e = refl
plain_key key_below d e = absurd (cc)

plain_property : (k : Key) (d : Data) → is_node_key (the_property k) ≡ false → scalar_data (the_property k) ≡ key_beside (the_property k) d
plain_property (key_name s) d e = refl
plain_property (key_text s) d e = refl
plain_property (key_number n) d e = refl
plain_property key_below d e = absurd (cc)

-- and any other is written as it is
pub key_is_plain : (s : Scalar) (d : Data) → is_node_key s ≡ false → scalar_data s ≡ key_beside s d
key_is_plain (the_key k) d e = plain_key k d e
key_is_plain (the_property k) d e = plain_property k d e
key_is_plain s d e = absurd (cc)
