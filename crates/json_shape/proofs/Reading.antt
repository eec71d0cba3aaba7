-- What is written of a tree that fits is read as that tree.
use Rattle.std.proofs.Common.{◌≡◌, inl, inr, ◌≤◌, ℕ, zero, suc, List, [], ◌∷◌, Bool, true, false, not, ◌&&◌, pos, Option, Some, None, is_some, Result, Ok, Err, if◌then◌else◌, refl, sym, subst, ap, ap₂, ◌∙◌, arith}
use Rattle.std.specs.Prelude.{codes}
use Rattle.serde_json.specs.Data.{Data, null, array, object, Items, depth, items_depth}
use Rattle.serde_json.specs.Find.{get}
use Rattle.js_syntax.specs.Name.{type_name, type_named}
use Rattle.js_syntax.specs.declared.value.Key.{Key}
use Rattle.js_syntax.specs.declared.value.Key.TheVariants.{Name as key_name, Text as key_text, Number as key_number, Below as key_below}
use Rattle.js_syntax.specs.declared.value.LiteralValue.TheVariants as value
use Rattle.js_syntax.specs.declared.node_kind.NodeKind.{NodeKind as Kind}
use Rattle.js_syntax.specs.declared.node_kind.NodeKind.TheVariants.{Hole as hole, Statements as statements}
use Rattle.js_syntax.specs.Node.{Note, Forest, nothing, node, absent, alone, joined, nowhere, bare, total}
use Rattle.js_syntax.specs.Class.{Class, a_prologue, declaration, expression, private_key}
use Rattle.js_syntax.specs.Field.{Keys, property_key, class_key, member_key, keeps, checks, a_key, child, maybe, each, each_or_hole, a_body, Field, field, Makes}
use Rattle.js_syntax.specs.Hint.{has, is_private, is_below}
use Rattle.js_syntax.specs.Table.{Row, an_export_list, an_export_declaration, an_export_from, fields_of, kind_at, type_of, stands}
use Rattle.js_syntax.specs.declared.node_type.NodeType.{NodeType}
use Rattle.js_syntax.specs.declared.node_type.NodeType.TheVariants as type
use Rattle.json_text.specs.Fault.{Fault, unknown_node, out_of_range, ◌>>=◌, fault_of}
use Rattle.json_text.specs.Plain.{is_object, is_known, known, is_there, named, type_at, check_extra, check_extras, key_of, read_text, read_value, read_identifier, read_literal_key}
use Rattle.json_text.specs.Reading.{Reader, note_of, span_of, span_between, offset_at, read_child, read_maybe, read_or_hole, before, read_items, as_list, read_list, is_directive, row_here, made, with_child, apart, within, static_key, read_key, read_body, read_fields, read_here, read_node}
use Rattle.json_text.specs.Text.{identifier, text_literal, whole_number, items_of, key_beside, node_data, row_datas, data_of, is_identifier_name}
use Rattle.json_text.proofs.Plain.{get_depth}
use Rattle.json_shape.specs.Shape.{Values, kind_of, kind_in, key_place, MayLack, first_of, IsChosen, places, item_or_hole, item_of_body, behind, after_body_item, these, all, all_or_holes, all_of_body, is_directive_kind, IsOf, IsAt, Stand, Fits}
use Rattle.json_shape.specs.Exact.{IsExact, is_exact_number, inexact, inexact_among, is_exact}
use Rattle.json_shape.proofs.Booleans.{counted, rest_counted}
use Rattle.json_shape.proofs.Facts.{key_scalar, Holds, scalars_in, data_in, IsWritten}
use Rattle.json_shape.proofs.Written.{written}
use Rattle.json_shape.proofs.Values.{type_read, kept_read, check_read}
use Rattle.json_shape.proofs.Choice.{made_is, IsDeclared, row_read, directive_kind, private_type, is_list_kind, are_lists, lists_in, list_data}
use Rattle.js_syntax.proofs.Truth.{first_of_both, second_of_both}

-- ---- small steps

-- what goes well leads on
next : {A B : Type 0} (r : Result A Fault) (x : A) (f : A → Result B Fault) → r ≡ Ok x → (r >>= f) ≡ f x
next r x f is = ap (λ q. q >>= f) is

-- ---- what is read of a node below

-- what is written of a node of some class is read as that node, in a tree of so many levels
abbrev Good : ℕ → Type 0
Good n = (c : Class) (bad : Fault) (k : Kind) (below : Forest) → IsOf k below (λ p. Stand p below) c → inexact k ≡ 0 → total inexact below ≡ 0
    → depth (node_data k below (row_datas below)) ≤ n → read_node n c bad (node_data k below (row_datas below)) ≡ Ok (alone k nowhere (bare below))

abbrev of_row : (k : Kind) (below : Forest) (c : Class) (of : IsOf k below (λ p. Stand p below) c) (nodes : List Data) → inexact k ≡ 0 → IsWritten of.0 of.1 below nodes
of_row k below c of nodes exact = written of.0 of.1 below nodes of.3 (ap inexact (sym of.4) ∙ exact)

node_object : (k : Kind) (below : Forest) (c : Class) (nodes : List Data) → IsOf k below (λ p. Stand p below) c → inexact k ≡ 0 → is_object (node_data k below nodes) ≡ true
node_object k below c nodes of exact = ap (λ (j : Kind). is_object (node_data j below nodes)) of.4 ∙ (of_row k below c of nodes exact).object

maybe_object : (one : Data → Result Forest Fault) (d : Data) → is_object d ≡ true → read_maybe one (Some d) ≡ one d
unfolding read_maybe
maybe_object one (object ms) h = refl
maybe_object one d h = absurd cc

hole_object : (one : Data → Result Forest Fault) (d : Data) → is_object d ≡ true → read_or_hole one d ≡ one d
unfolding read_or_hole
hole_object one (object ms) h = refl
hole_object one d h = absurd cc

hole_written : (one : Data → Result Forest Fault) (k : Kind) → k ≡ hole → read_or_hole one (node_data k nothing []) ≡ Ok (alone k nowhere nothing)
unfolding read_or_hole
hole_written one k is = ap (λ (j : Kind). read_or_hole one (node_data j nothing [])) is ∙ ap (λ (j : Kind). Ok (alone j nowhere nothing)) (sym is)

-- ---- lists

before_is : (one : Result Forest Fault) (x : Forest) (rest : Result Forest Fault) (r : Forest) → one ≡ Ok x → rest ≡ Ok r → (one >>= λ t. before t rest) ≡ Ok (joined x r)
before_is one x rest r first later = next one x (λ t. before t rest) first ∙ ap (before x) later

module _ (n : ℕ) (good : Good n) (bad : Fault) where
  items_read : (c : Class) (t : Forest) → Stand (all c) t → total inexact t ≡ 0 → items_depth (items_of (row_datas t)) ≤ n → read_items (read_node n c bad) (items_of (row_datas t)) ≡ Ok (bare t)
  items_read c nothing stand exact deep = refl
  items_read c (node k m below rest) stand exact deep =
      before_is _ (alone k nowhere (bare below)) _ (bare rest) (good c bad k below stand.0 (omega (arith, exact)) (omega (arith, exact)) (omega (arith, deep))) (items_read c rest stand.1 (omega (arith, exact)) (omega (arith, deep)))
  items_read c (absent rest) stand exact deep = absurd stand.0

  hole_read : (c : Class) (k : Kind) (below : Forest) → IsAt k below (λ p. Stand p below) (item_or_hole c) → inexact k ≡ 0 → total inexact below ≡ 0 → depth (node_data k below (row_datas below)) ≤ n
      → read_or_hole (read_node n c bad) (node_data k below (row_datas below)) ≡ Ok (alone k nowhere (bare below))
  hole_read c k nothing (inl h) exact exacts deep = hole_written (read_node n c bad) k h.0
  hole_read c k (node j m b rest) (inl h) exact exacts deep = absurd h.1.0
  hole_read c k (absent rest) (inl h) exact exacts deep = absurd h.1.0
  hole_read c k below (inr of) exact exacts deep = hole_object (read_node n c bad) _ (node_object k below c (row_datas below) of exact) ∙ good c bad k below of exact exacts deep

  items_or_holes_read : (c : Class) (t : Forest) → Stand (all_or_holes c) t → total inexact t ≡ 0 → items_depth (items_of (row_datas t)) ≤ n
      → read_items (read_or_hole (read_node n c bad)) (items_of (row_datas t)) ≡ Ok (bare t)
  items_or_holes_read c nothing stand exact deep = refl
  items_or_holes_read c (node k m below rest) stand exact deep =
      before_is _ (alone k nowhere (bare below)) _ (bare rest) (hole_read c k below stand.0 (omega (arith, exact)) (omega (arith, exact)) (omega (arith, deep)))
      (items_or_holes_read c rest stand.1 (omega (arith, exact)) (omega (arith, deep)))
  items_or_holes_read c (absent rest) stand exact deep = absurd stand.0

  body_item_read : (c : Class) (k : Kind) (m : Note) (below rest : Forest) → IsAt k below (λ p. Stand p below) (item_of_body c) → Stand (behind (all_of_body c) k) rest → total inexact (node k m below rest) ≡ 0
      → items_depth (items_of (row_datas (node k m below rest))) ≤ n → (Stand (all_of_body c) rest → read_body (read_node n) c bad (items_of (row_datas rest)) ≡ Ok (bare rest)) → read_body (read_node n) c bad (items_of (row_datas (node k m below rest))) ≡ Ok (bare (node k m below rest))
  body_item_read c k m below rest (inl of) stand exact deep later =
      let kind : is_directive_kind k ≡ true = ap is_directive_kind of.4 ∙ directive_kind of.0 of.1 of.2 in
      let written_so = ap (λ (j : Kind). is_directive (node_data j below (row_datas below))) of.4 ∙ (of_row k below a_prologue of (row_datas below) (omega (arith, exact))).directive ∙ directive_kind of.0 of.1 of.2 in
      ap (λ (b : Bool). if b then (read_node n a_prologue bad (node_data k below (row_datas below)) >>= λ t. before t (read_body (read_node n) c bad (items_of (row_datas rest)))) else read_items (read_node n c bad) (items_of (row_datas (node k m below rest)))) written_so
      ∙ before_is _ (alone k nowhere (bare below)) _ (bare rest) (good a_prologue bad k below of (omega (arith, exact)) (omega (arith, exact)) (omega (arith, deep)))
      (later (subst (λ (b : Bool). Stand (after_body_item c b) rest) kind stand))
  body_item_read c k m below rest (inr h) stand exact deep later =
      let written_so = ap (λ (j : Kind). is_directive (node_data j below (row_datas below))) h.1.4 ∙ (of_row k below c h.1 (row_datas below) (omega (arith, exact))).directive ∙ ap is_directive_kind (sym h.1.4) ∙ h.0 in
      ap (λ (b : Bool). if b then (read_node n a_prologue bad (node_data k below (row_datas below)) >>= λ t. before t (read_body (read_node n) c bad (items_of (row_datas rest)))) else read_items (read_node n c bad) (items_of (row_datas (node k m below rest)))) written_so
      ∙ items_read c (node k m below rest) (h.1, subst (λ (b : Bool). Stand (after_body_item c b) rest) h.0 stand) exact deep

  body_read : (c : Class) (t : Forest) → Stand (all_of_body c) t → total inexact t ≡ 0 → items_depth (items_of (row_datas t)) ≤ n → read_body (read_node n) c bad (items_of (row_datas t)) ≡ Ok (bare t)
  body_read c nothing stand exact deep = refl
  body_read c (node k m below rest) stand exact deep = body_item_read c k m below rest stand.0 stand.1 exact deep (λ later. body_read c rest later (omega (arith, exact)) (omega (arith, deep)))
  body_read c (absent rest) stand exact deep = absurd stand.0

-- ---- keys

-- what computes on a key that was written
unfoldable looked_at : Unit {0}
unfolding check_extra check_extras type_at type_named read_text read_value read_identifier read_literal_key read_key
looked_at = tt

apart_at : (below : Reader) (bad : Fault) (keys : Keys) (s : List ℕ) (b : Bool) → b ≡ true → read_key below keys false bad (Some (if b then identifier s else text_literal s)) ≡ Ok (key_name s, absent nothing)
unfolding looked_at
apart_at below bad keys s true is = refl
apart_at below bad keys s false is = absurd cc

literal_number_read : (bad : Fault) (n : ℕ) → is_exact_number n ≡ true → read_literal_key bad (whole_number n) ≡ Ok (key_number n)
unfolding looked_at
literal_number_read bad n exact = ap (λ (b : Bool). (if b then Ok (value.Number (pos n)) else Err out_of_range) >>= λ v. key_of bad v >>= λ k. Ok k) exact

-- a key that is no node
apart_read : (below : Reader) (bad : Fault) (keys : Keys) (private : Bool) (key : Key) (d : Data) → is_exact (key_scalar keys key) ≡ true → MayLack (key_place keys private key)
    → read_key below keys (is_below key && not private) bad (Some (key_beside (key_scalar keys key) d)) ≡ Ok (key, absent nothing)
unfolding looked_at
apart_read below bad property_key private (key_name s) d exact may = apart_at below bad property_key s (is_identifier_name s) exact
apart_read below bad class_key private (key_name s) d exact may = apart_at below bad class_key s (is_identifier_name s) exact
apart_read below bad member_key private (key_name s) d exact may = refl
apart_read below bad property_key private (key_text s) d exact may = refl
apart_read below bad class_key private (key_text s) d exact may = refl
apart_read below bad member_key private (key_text s) d exact may = absurd cc
apart_read below bad property_key private (key_number n) d exact may = ap apart (literal_number_read bad n exact)
apart_read below bad class_key private (key_number n) d exact may = ap apart (literal_number_read bad n exact)
apart_read below bad member_key private (key_number n) d exact may = absurd cc
apart_read below bad keys true key_below d exact may = absurd may
apart_read below bad keys false key_below d exact may = absurd may

below_data : (keys : Keys) (d : Data) → key_beside (key_scalar keys key_below) d ≡ d
below_data property_key d = refl
below_data class_key d = refl
below_data member_key d = refl

-- ---- a node's type

known_read : (t : NodeType) (d : Data) → get (codes "bigint") d ≡ None → is_known t d ≡ true
known_read type.Literal d none = ap (λ (found : Option Data). not (is_some found)) none
known_read t d none = refl

node_type : (k : Kind) (below : Forest) (c : Class) (nodes : List Data) (bad : Fault) (of : IsOf k below (λ p. Stand p below) c) → inexact k ≡ 0 → type_at bad (node_data k below nodes) ≡ Ok (type_of of.0)
unfolding type_at
node_type k below c nodes bad of exact =
    let facts = of_row k below c of nodes exact in
    let d = data_in of.0 of.1 below nodes in
    ap (λ (j : Kind). type_at bad (node_data j below nodes)) of.4
    ∙ ap₂ (λ (b : Bool) (found : Option Data). if b then named d found else Err bad) facts.object facts.type
    ∙ ap (known (type_name (type_of of.0)) d) (type_read (type_of of.0))
    ∙ ap (λ (b : Bool). if b then Ok (type_of of.0) else Err (unknown_node (type_name (type_of of.0)))) (known_read (type_of of.0) d facts.bigint)

-- ---- fields

with_child_is : (found : Result Forest Fault) (x : Forest) (later : Result (Kind × Forest) Fault) (k : Kind) (r : Forest) → found ≡ Ok x → later ≡ Ok (k, r) → (found >>= λ m. with_child m later) ≡ Ok (k, joined x r)
with_child_is found x later k r first rest = next found x (λ m. with_child m later) first ∙ ap (with_child x) rest

key_node_read : (n : ℕ) → Good n → (bad : Fault) (keys : Keys) (private : Bool) (key : Key) (k : Kind) (below : Forest) → IsAt k below (λ p. Stand p below) (key_place keys private key) → inexact k ≡ 0 → total inexact below ≡ 0
    → depth (node_data k below (row_datas below)) ≤ n → read_key (read_node n) keys (is_below key && not private) bad (Some (key_beside (key_scalar keys key) (node_data k below (row_datas below)))) ≡ Ok (key, alone k nowhere (bare below))
unfolding read_key
key_node_read n good bad keys private (key_name s) k below at exact exacts deep = absurd at
key_node_read n good bad keys private (key_text s) k below at exact exacts deep = absurd at
key_node_read n good bad keys private (key_number i) k below at exact exacts deep = absurd at
key_node_read n good bad keys true key_below k below at exact exacts deep =
    let d = node_data k below (row_datas below) in
    ap (λ e. read_key (read_node n) keys false bad (Some e)) (below_data keys d)
    ∙ next (type_at bad d) (type_of at.1.0) (λ t. static_key (read_node n) keys bad d t) (node_type k below private_key (row_datas below) bad at.1 exact)
    ∙ ap (λ t. static_key (read_node n) keys bad d t) (private_type (type_of at.1.0) (first_of at.1.0) at.1.2)
    ∙ ap (λ (b : Bool). if b then within (read_node n private_key bad d) else Err bad) at.0
    ∙ ap within (good private_key bad k below at.1 exact exacts deep)
key_node_read n good bad keys false key_below k below at exact exacts deep =
    ap (λ e. read_key (read_node n) keys true bad (Some e)) (below_data keys (node_data k below (row_datas below)))
    ∙ ap within (good expression bad k below at exact exacts deep)

module _ (n : ℕ) (good : Good n) (kind : Kind) (above : Forest) (d : Data) (deep : depth d ≤ suc n) (t : NodeType) where
  shallow : (name : List ℕ) (e : Data) → get name d ≡ Some e → depth e ≤ n
  shallow name e h = omega (arith, get_depth name d e h, deep)

  list_found : (name : List ℕ) (list k : Kind) (below : Forest) → get name d ≡ Some (node_data k below (row_datas below)) → k ≡ list → is_list_kind list ≡ true → get name d ≡ Some (array (items_of (row_datas below)))
  list_found name list k below found is of_lists = found ∙ ap Some (list_data k below (row_datas below) (ap is_list_kind is ∙ of_lists))

  list_read : (name : List ℕ) (list k : Kind) (below : Forest) (read_all : Items → Result Forest Fault) → get name d ≡ Some (array (items_of (row_datas below))) → k ≡ list
      → (items_depth (items_of (row_datas below)) ≤ n → read_all (items_of (row_datas below)) ≡ Ok (bare below)) → read_list list read_all (fault_of t name) (get name d) ≡ Ok (alone k nowhere (bare below))
  unfolding read_list
  list_read name list k below read_all found is all_read =
      ap (read_list list read_all (fault_of t name)) found
      ∙ ap (as_list list) (all_read (omega (arith, get_depth name d (array (items_of (row_datas below))) found, deep)))
      ∙ ap (λ (j : Kind). Ok (alone j nowhere (bare below))) (sym is)

  key_depth : (keys : Keys) (private : Bool) (key : Key) (k : Kind) (below : Forest) (name : List ℕ) → get name d ≡ Some (key_beside (key_scalar keys key) (node_data k below (row_datas below)))
      → IsAt k below (λ p. Stand p below) (key_place keys private key) → depth (node_data k below (row_datas below)) ≤ n
  key_depth keys private (key_name s) k below name found at = absurd at
  key_depth keys private (key_text s) k below name found at = absurd at
  key_depth keys private (key_number i) k below name found at = absurd at
  key_depth keys private key_below k below name found at = shallow name _ (found ∙ ap Some (below_data keys (node_data k below (row_datas below))))

  fields_read : (fs : List Field) (make : Makes fs) (vs : Values fs) (row : Forest) → Holds kind above d fs vs (row_datas row) → Stand (these (places (has is_private above) fs vs)) row → inexact_among (scalars_in fs vs) ≡ 0 → total inexact row ≡ 0
      → are_lists fs ≡ true → read_fields (read_node n) t fs make d ≡ Ok (kind_of fs make vs, bare row)
  unfolding read_child read_maybe
  fields_read [] make vs nothing holds stand exact exacts lists = refl
  fields_read [] make vs (node k m below rest) holds stand exact exacts lists = absurd stand.0
  fields_read [] make vs (absent rest) holds stand exact exacts lists = absurd stand.0
  fields_read (field name (keeps k) ∷ fs) make vs row holds stand exact exacts lists =
      next _ vs.0 (λ x. read_fields (read_node n) t fs (make x) d) (kept_read k vs.0 name d t holds.0 (counted _ _ exact))
      ∙ fields_read fs (make vs.0) vs.1 row holds.1 stand (rest_counted _ _ exact) exacts lists
  fields_read (field name (checks c) ∷ fs) make vs row holds stand exact exacts lists =
      next _ tt (λ _. read_fields (read_node n) t fs make d) (check_read c kind above (fault_of t name) (get name d) holds.0) ∙ fields_read fs make vs row holds.1 stand exact exacts lists
  fields_read (field name (a_key keys) ∷ fs) make vs nothing holds stand exact exacts lists = absurd stand
  fields_read (field name (a_key keys) ∷ fs) make vs (node k m below rest) holds stand exact exacts lists =
      next _ (vs.0, alone k nowhere (bare below)) (λ x. with_child x.1 (read_fields (read_node n) t fs (make x.0) d))
      (ap₂ (λ (computed : Bool) (found : Option Data). read_key (read_node n) keys computed (fault_of t name) found) holds.1 holds.0
      ∙ key_node_read n good (fault_of t name) keys (has is_private above) vs.0 k below stand.0 (omega (arith, exacts)) (omega (arith, exacts)) (key_depth keys (has is_private above) vs.0 k below name holds.0 stand.0))
      ∙ ap (with_child (alone k nowhere (bare below))) (fields_read fs (make vs.0) vs.1 rest holds.2 stand.1 (rest_counted _ _ exact) (omega (arith, exacts)) lists)
  fields_read (field name (a_key keys) ∷ fs) make vs (absent rest) holds stand exact exacts lists =
      next _ (vs.0, absent nothing) (λ x. with_child x.1 (read_fields (read_node n) t fs (make x.0) d))
      (ap₂ (λ (computed : Bool) (found : Option Data). read_key (read_node n) keys computed (fault_of t name) found) holds.1 holds.0
      ∙ apart_read (read_node n) (fault_of t name) keys (has is_private above) vs.0 null (counted _ _ exact) stand.0)
      ∙ ap (with_child (absent nothing)) (fields_read fs (make vs.0) vs.1 rest holds.2 stand.1 (rest_counted _ _ exact) exacts lists)
  fields_read (field name (child c) ∷ fs) make vs nothing holds stand exact exacts lists = absurd stand
  fields_read (field name (child c) ∷ fs) make vs (node k m below rest) holds stand exact exacts lists =
      with_child_is _ (alone k nowhere (bare below)) _ _ (bare rest)
      (ap (read_child (read_node n c (fault_of t name)) (fault_of t name)) holds.0 ∙ good c (fault_of t name) k below stand.0 (omega (arith, exacts)) (omega (arith, exacts)) (shallow name _ holds.0))
      (fields_read fs make vs rest holds.1 stand.1 exact (omega (arith, exacts)) lists)
  fields_read (field name (child c) ∷ fs) make vs (absent rest) holds stand exact exacts lists = absurd stand.0
  fields_read (field name (maybe c) ∷ fs) make vs nothing holds stand exact exacts lists = absurd stand
  fields_read (field name (maybe c) ∷ fs) make vs (node k m below rest) holds stand exact exacts lists =
      with_child_is _ (alone k nowhere (bare below)) _ _ (bare rest)
      (ap (read_maybe (read_node n c (fault_of t name))) holds.0 ∙ maybe_object (read_node n c (fault_of t name)) _ (node_object k below c (row_datas below) stand.0 (omega (arith, exacts)))
      ∙ good c (fault_of t name) k below stand.0 (omega (arith, exacts)) (omega (arith, exacts)) (shallow name _ holds.0))
      (fields_read fs make vs rest holds.1 stand.1 exact (omega (arith, exacts)) lists)
  fields_read (field name (maybe c) ∷ fs) make vs (absent rest) holds stand exact exacts lists =
      with_child_is _ (absent nothing) _ _ (bare rest) (ap (read_maybe (read_node n c (fault_of t name))) holds.0) (fields_read fs make vs rest holds.1 stand.1 exact exacts lists)
  fields_read (field name (each list c) ∷ fs) make vs nothing holds stand exact exacts lists = absurd stand
  fields_read (field name (each list c) ∷ fs) make vs (node k m below rest) holds stand exact exacts lists =
      with_child_is _ (alone k nowhere (bare below)) _ _ (bare rest)
      (list_read name list k below (read_items (read_node n c (fault_of t name))) (list_found name list k below holds.0 stand.0.0 (first_of_both _ _ lists)) stand.0.0 (λ few. items_read n good (fault_of t name) c below stand.0.1 (omega (arith, exacts)) few))
      (fields_read fs make vs rest holds.1 stand.1 exact (omega (arith, exacts)) (second_of_both _ _ lists))
  fields_read (field name (each list c) ∷ fs) make vs (absent rest) holds stand exact exacts lists = absurd stand.0
  fields_read (field name (each_or_hole list c) ∷ fs) make vs nothing holds stand exact exacts lists = absurd stand
  fields_read (field name (each_or_hole list c) ∷ fs) make vs (node k m below rest) holds stand exact exacts lists =
      with_child_is _ (alone k nowhere (bare below)) _ _ (bare rest)
      (list_read name list k below (read_items (read_or_hole (read_node n c (fault_of t name)))) (list_found name list k below holds.0 stand.0.0 (first_of_both _ _ lists)) stand.0.0 (λ few. items_or_holes_read n good (fault_of t name) c below stand.0.1 (omega (arith, exacts)) few))
      (fields_read fs make vs rest holds.1 stand.1 exact (omega (arith, exacts)) (second_of_both _ _ lists))
  fields_read (field name (each_or_hole list c) ∷ fs) make vs (absent rest) holds stand exact exacts lists = absurd stand.0
  fields_read (field name (a_body c) ∷ fs) make vs nothing holds stand exact exacts lists = absurd stand
  fields_read (field name (a_body c) ∷ fs) make vs (node k m below rest) holds stand exact exacts lists =
      with_child_is _ (alone k nowhere (bare below)) _ _ (bare rest)
      (list_read name statements k below (read_body (read_node n) c (fault_of t name)) (list_found name statements k below holds.0 stand.0.0 refl) stand.0.0 (λ few. body_read n good (fault_of t name) c below stand.0.1 (omega (arith, exacts)) few))
      (fields_read fs make vs rest holds.1 stand.1 exact (omega (arith, exacts)) lists)
  fields_read (field name (a_body c) ∷ fs) make vs (absent rest) holds stand exact exacts lists = absurd stand.0

-- ---- nodes

note_is : (d : Data) → get (codes "start") d ≡ None → get (codes "end") d ≡ None → note_of d ≡ nowhere
unfolding span_of
note_is d start ends = ap₂ (λ (from to : Option Data). record { span = span_between (offset_at from) (offset_at to); id = None }) start ends

object_there : (d : Data) → is_object d ≡ true → is_there (Some d) ≡ true
object_there (object ms) h = refl
object_there d h = absurd cc

declared_in : (r : Row) (vs : Values (fields_of r)) (private : Bool) (below : Forest) → total inexact below ≡ 0 → Stand (these (places private (fields_of r) vs)) below → IsDeclared r (row_datas below)
declared_in an_export_list vs private nothing exacts stand = absurd stand
declared_in an_export_list vs private (node k m b rest) exacts stand = absurd cc
declared_in an_export_list vs private (absent rest) exacts stand = refl
declared_in an_export_declaration vs private nothing exacts stand = absurd stand
declared_in an_export_declaration vs private (node k m b rest) exacts stand = object_there _ (node_object k b declaration (row_datas b) stand.0 (omega (arith, exacts)))
declared_in an_export_declaration vs private (absent rest) exacts stand = absurd stand.0
declared_in an_export_from vs private nothing exacts stand = absurd stand
declared_in an_export_from vs private (node k m b rest) exacts stand = absurd cc
declared_in an_export_from vs private (absent rest) exacts stand = refl
declared_in r vs private below exacts stand = tt

row_node : (n : ℕ) → Good n → (c : Class) (bad : Fault) (r : Row) (vs : Values (fields_of r)) (below : Forest) → stands c (type_of r) ≡ Some (first_of r) → IsChosen r vs
    → Stand (these (places (has is_private below) (fields_of r) vs)) below → type_at bad (data_in r vs below (row_datas below)) ≡ Ok (type_of r) → inexact (kind_in r vs) ≡ 0 → total inexact below ≡ 0 → depth (data_in r vs below (row_datas below)) ≤ suc n
    → read_node (suc n) c bad (data_in r vs below (row_datas below)) ≡ Ok (alone (kind_in r vs) nowhere (bare below))
unfolding read_node
row_node n good c bad r vs below here chosen stand typed exact exacts deep =
    let d = data_in r vs below (row_datas below) in
    let k = kind_in r vs in
    let facts = written r vs below (row_datas below) chosen exact in
    next (type_at bad d) (type_of r) (λ t. read_here (read_node n) bad d (row_here d (stands c t))) typed
    ∙ ap (λ x. read_here (read_node n) bad d (row_here d x)) here
    ∙ ap (read_here (read_node n) bad d) (row_read r vs below (row_datas below) chosen exact (declared_in r vs (has is_private below) below exacts stand))
    ∙ next _ (k, bare below) (λ p. check_extras (type_of r) d >>= λ _. Ok (made r p.0 (note_of d) p.1))
    (fields_read n good k below d deep (type_of r) (fields_of r) (kind_at r) vs below facts.fields stand (ap inexact_among (sym facts.scalars) ∙ exact) exacts (lists_in r))
    ∙ next _ tt (λ _. Ok (made r k (note_of d) (bare below))) facts.extras
    ∙ ap (λ m. Ok (made r k m (bare below))) (note_is d facts.start facts.ends)
    ∙ ap Ok (made_is r vs k nowhere (bare below) chosen)

no_depth : (d : Data) → is_object d ≡ true → depth d ≤ 0 → ⊥
no_depth (object ms) h deep = omega (arith, deep)
no_depth d h deep = absurd cc

pub all_good : (n : ℕ) → Good n
all_good zero c bad k below of exact exacts deep = absurd (no_depth _ (node_object k below c (row_datas below) of exact) deep)
all_good (suc n) c bad k below of exact exacts deep =
    let nodes = row_datas below in
    let d = node_data k below nodes in
    let typed = subst (λ (j : Kind). type_at bad (node_data j below nodes) ≡ Ok (type_of of.0)) of.4 (node_type k below c nodes bad of exact) in
    let shallow = subst (λ (j : Kind). depth (node_data j below nodes) ≤ suc n) of.4 deep in
    ap (λ (j : Kind). read_node (suc n) c bad (node_data j below nodes)) of.4
    ∙ row_node n (all_good n) c bad of.0 of.1 below of.2 of.3 of.5 typed (ap inexact (sym of.4) ∙ exact) exacts shallow
    ∙ ap (λ (j : Kind). Ok (alone j nowhere (bare below))) (sym of.4)

-- a whole tree
pub tree_read : (c : Class) (bad : Fault) (n : ℕ) (t : Forest) → Fits c t → IsExact t → depth (data_of t) ≤ n → read_node n c bad (data_of t) ≡ Ok (bare t)
tree_read c bad n nothing fits exact deep = absurd fits
tree_read c bad n (node k m below nothing) fits exact deep = all_good n c bad k below fits.0 (omega (arith, exact)) (omega (arith, exact)) deep
tree_read c bad n (node k m below (node j l b rest)) fits exact deep = absurd fits.1.0
tree_read c bad n (node k m below (absent rest)) fits exact deep = absurd fits.1.0
tree_read c bad n (absent rest) fits exact deep = absurd fits.0
