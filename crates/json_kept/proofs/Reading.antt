-- What was read is written with no more levels, but for one where a number is negative, and its numbers are exact.
use Rattle.std.proofs.Common.{◌≡◌, ◌≤◌, ◌+◌, ℕ, zero, suc, ◌-◌, min, pos, negsuc, List, [], ◌∷◌, Bool, true, false, not, Option, Some, None, Result, Ok, Err, if◌then◌else◌, refl, subst, ap, ◌∙◌, arith}
use Rattle.std.specs.Prelude.{codes}
use Rattle.serde_json.specs.Data.{Data, null, string, array, object, Items, no_items, item, put, depth, items_depth}
use Rattle.serde_json.specs.Find.{get}
use Rattle.js_syntax.specs.Name.{type_name}
use Rattle.js_syntax.specs.Scalar.{Scalar, the_value, the_key, the_property}
use Rattle.js_syntax.specs.declared.value.Key.{Key}
use Rattle.js_syntax.specs.declared.value.Key.TheVariants.{Name as key_name, Text as key_text, Number as key_number, Below as key_below}
use Rattle.js_syntax.specs.declared.value.LiteralValue.{LiteralValue as Value}
use Rattle.js_syntax.specs.declared.value.LiteralValue.TheVariants as value
use Rattle.js_syntax.specs.declared.node_kind.NodeKind.{NodeKind as Kind}
use Rattle.js_syntax.specs.declared.node_kind.NodeKind.TheVariants.{Literal as literal, Hole as hole, Statements as statements, Cases as cases, Declarators as declarators, Parameters as parameters, Members as members, Elements as elements, Properties as properties, Expressions as expressions, Arguments as arguments, Quasis as quasis, Specifiers as specifiers}
use Rattle.js_syntax.specs.Node.{Note, Forest, nothing, absent, alone, joined, nowhere, total}
use Rattle.js_syntax.specs.Class.{Class, root, a_prologue, expression, private_key}
use Rattle.js_syntax.specs.Facts.{scalars_of}
use Rattle.js_syntax.specs.Field.{Keys, property_key, class_key, member_key, Check, never, constant, fixed_name, null_only, hint, unread, keeps, checks, a_key, child, maybe, each, each_or_hole, a_body, Field, field, Makes}
use Rattle.js_syntax.specs.Table.{Row, a_program, a_literal, a_text_literal, a_reg_exp, a_unary_expression, a_parenthesized_target, fields_of, kind_at, type_of, stands}
use Rattle.js_syntax.specs.declared.node_type.NodeType.{NodeType}
use Rattle.js_syntax.specs.declared.node_type.NodeType.TheVariants as type
use Rattle.json_text.specs.Fault.{Fault, ◌>>=◌, fault_of, untyped}
use Rattle.json_text.specs.Plain.{is_true_at, type_at, check_extras, takes_literal, takes_private, read_kept, read_check, read_identifier_name, read_identifier, literal_value, key_of, read_literal_key}
use Rattle.json_text.specs.Reading.{Reader, note_of, read_child, read_maybe, read_or_hole, before, read_items, read_list, is_directive, row_here, made, with_child, apart, within, static_key, read_key, read_body, read_fields, read_here, read_node, read_program}
use Rattle.json_text.specs.Text.{is_identifier_name, scalar_data, members_of, node_data, row_datas}
use Rattle.json_text.proofs.Plain.{get_depth}
use Rattle.json_shape.specs.Shape.{Values, kind_of, kind_in}
use Rattle.json_shape.proofs.Choice.{is_list_kind, are_lists, lists_in, list_data}
use Rattle.json_shape.proofs.Facts.{key_scalar, scalar_of, scalars_in}
use Rattle.json_shape.proofs.Fitting.{began, ok_is}
use Rattle.js_syntax.proofs.Truth.{first_of_both, second_of_both}
use Rattle.json_kept.specs.Respelled.{is_negative, count_among, negative}
use Rattle.json_kept.proofs.Depths.{IsCheckShallow, deepest, items_deep, deepest_joined, total_joined, put_deep, AreShallow, AreChecksShallow, members_deep}
use Rattle.json_kept.proofs.Plainly.{name_one, is_ranged, value_ranged, key_ranged, typed_nests, Fitting, IsUnreadShallow, kept_fits, check_fits}

-- how many numbers of a kind aren't exact in their magnitudes
abbrev pub unranged : Kind → ℕ
unranged k = count_among (λ s. not (is_ranged s)) (scalars_of k)

-- what is written of a row that was read from what nests so deep
pub record IsRead (n : ℕ) (t : Forest) : Type 0 where
  pub deep : deepest (row_datas t) ≤ n + min 1 (total negative t)
  pub ranged : total unranged t ≡ 0

deeper : (m n : ℕ) (t : Forest) → m ≤ n → IsRead m t → IsRead n t
deeper m n t less r = record { deep = omega (arith, r.deep); ranged = r.ranged }

none_read : (n : ℕ) → IsRead n nothing
none_read n = record { deep = omega arith; ranged = refl }

absent_read : (n : ℕ) → IsRead n (absent nothing)
absent_read n = record { deep = omega arith; ranged = refl }

joined_read : (n : ℕ) (t r : Forest) → IsRead n t → IsRead n r → IsRead n (joined t r)
joined_read n t r first rest = record {
  deep = omega (arith, deepest_joined t r, total_joined negative t r, first.deep, rest.deep);
  ranged = omega (arith, total_joined unranged t r, first.ranged, rest.ranged);
}

-- ---- lists

-- what is read of one value
abbrev IsOne : (Data → Result Forest Fault) → Type 0
IsOne one = (d : Data) (t : Forest) → one d ≡ Ok t → IsRead (depth d) t

abbrev AreAll : (Items → Result Forest Fault) → Type 0
AreAll all = (ds : Items) (t : Forest) → all ds ≡ Ok t → IsRead (items_depth ds) t

first_and_rest : (d : Data) (ds : Items) (one rest : Result Forest Fault) (t : Forest) → ((x : Forest) → one ≡ Ok x → IsRead (depth d) x) → ((r : Forest) → rest ≡ Ok r → IsRead (items_depth ds) r)
    → (one >>= λ x. before x rest) ≡ Ok t → IsRead (items_depth (item d ds)) t
first_and_rest d ds one rest t first later h =
    let x = began one (λ x. before x rest) t h in
    let r = began rest (λ r. Ok (joined x.0 r)) t x.2 in
    subst (IsRead (items_depth (item d ds))) (ok_is (joined x.0 r.0) t r.2)
    (joined_read (items_depth (item d ds)) x.0 r.0 (deeper (depth d) (items_depth (item d ds)) x.0 (omega arith) (first x.0 x.1)) (deeper (items_depth ds) (items_depth (item d ds)) r.0 (omega arith) (later r.0 r.1)))

items_read : (one : Data → Result Forest Fault) → IsOne one → AreAll (read_items one)
items_read one is no_items t h = subst (IsRead 0) (ok_is nothing t h) (none_read 0)
items_read one is (item d ds) t h = first_and_rest d ds (one d) (read_items one ds) t (is d) (items_read one is ds) h

or_hole_read : (one : Data → Result Forest Fault) → IsOne one → IsOne (read_or_hole one)
unfolding read_or_hole
or_hole_read one is null t h = subst (IsRead 0) (ok_is (alone hole nowhere nothing) t h) (record { deep = omega arith; ranged = refl })
or_hole_read one is d t h = is d t h

-- a reader of nodes
abbrev pub Reads : Reader → Type 0
Reads one = (c : Class) (bad : Fault) (d : Data) (t : Forest) → one c bad d ≡ Ok t → IsRead (depth d) t

body_at : (b : Bool) (d : Data) (ds : Items) (one all rest : Result Forest Fault) (t : Forest) → ((x : Forest) → one ≡ Ok x → IsRead (depth d) x) → ((r : Forest) → rest ≡ Ok r → IsRead (items_depth ds) r)
    → ((r : Forest) → all ≡ Ok r → IsRead (items_depth (item d ds)) r) → (if b then (one >>= λ x. before x rest) else all) ≡ Ok t → IsRead (items_depth (item d ds)) t
body_at true d ds one all rest t first later whole h = first_and_rest d ds one rest t first later h
body_at false d ds one all rest t first later whole h = whole t h

body_read : (one : Reader) → Reads one → (c : Class) (bad : Fault) → AreAll (read_body one c bad)
body_read one is c bad no_items t h = subst (IsRead 0) (ok_is nothing t h) (none_read 0)
body_read one is c bad (item d ds) t h =
    body_at (is_directive d) d ds (one a_prologue bad d) (read_items (one c bad) (item d ds)) (read_body one c bad ds) t (is a_prologue bad d) (body_read one is c bad ds) (items_read (one c bad) (is c bad) (item d ds)) h

list_scalars : (k : Kind) → is_list_kind k ≡ true → scalars_of k ≡ []
list_scalars statements h = refl
list_scalars cases h = refl
list_scalars declarators h = refl
list_scalars parameters h = refl
list_scalars members h = refl
list_scalars elements h = refl
list_scalars properties h = refl
list_scalars expressions h = refl
list_scalars arguments h = refl
list_scalars quasis h = refl
list_scalars specifiers h = refl
list_scalars k h = absurd cc

list_is_read : (list : Kind) (n : ℕ) (r : Forest) → is_list_kind list ≡ true → IsRead n r → IsRead (suc n) (alone list nowhere r)
list_is_read list n r lists is =
    let none = list_scalars list lists in
    let signs : negative list ≡ 0 = ap (count_among is_negative) none in
    let ranges : unranged list ≡ 0 = ap (count_among (λ s. not (is_ranged s))) none in
    record {
      deep = omega (arith, ap depth (list_data list r (row_datas r) lists), items_deep (row_datas r), signs, is.deep);
      ranged = omega (arith, ranges, is.ranged);
    }

-- ---- fields

-- what was found nests so deep
abbrev Within : ℕ → Option Data → Type 0
Within n found = (e : Data) → found ≡ Some e → depth e ≤ n

child_read : (n : ℕ) (one : Data → Result Forest Fault) → IsOne one → (bad : Fault) (found : Option Data) (x : Forest) → Within n found → read_child one bad found ≡ Ok x → IsRead n x
unfolding read_child
child_read n one is bad None x less h = absurd cc
child_read n one is bad (Some e) x less h = deeper (depth e) n x (less e refl) (is e x h)

maybe_read : (n : ℕ) (one : Data → Result Forest Fault) → IsOne one → (found : Option Data) (x : Forest) → Within n found → read_maybe one found ≡ Ok x → IsRead n x
unfolding read_maybe
maybe_read n one is None x less h = subst (IsRead n) (ok_is (absent nothing) x h) (absent_read n)
maybe_read n one is (Some null) x less h = subst (IsRead n) (ok_is (absent nothing) x h) (absent_read n)
maybe_read n one is (Some e) x less h = deeper (depth e) n x (less e refl) (is e x h)

list_read : (n : ℕ) (list : Kind) (all : Items → Result Forest Fault) → is_list_kind list ≡ true → AreAll all → (bad : Fault) (found : Option Data) (x : Forest) → Within n found → read_list list all bad found ≡ Ok x → IsRead n x
unfolding read_list
list_read n list all lists is bad (Some (array ds)) x less h =
    let r = began (all ds) (λ r. Ok (alone list nowhere r)) x h in
    subst (IsRead n) (ok_is (alone list nowhere r.0) x r.2)
    (deeper (suc (items_depth ds)) n (alone list nowhere r.0) (less (array ds) refl) (list_is_read list (items_depth ds) r.0 lists (is ds r.0 r.1)))
list_read n list all lists is bad found x less h = absurd cc

-- ---- keys

-- the key, and the node that is one
pub record IsKeyRead (n : ℕ) (keys : Keys) (key : Key) (x : Forest) : Type 0 where
  pub node : IsRead n x
  pub fits : Fitting n (key_scalar keys key)

abbrev KeyRead : ℕ → Keys → (Key × Forest) → Type 0
KeyRead n keys p = IsKeyRead n keys p.0 p.1

key_one : (key : Key) → depth (scalar_data (the_key key)) ≤ 1
key_one (key_name s) = name_one (is_identifier_name s) s
key_one (key_text s) = omega arith
key_one (key_number i) = omega arith
key_one key_below = omega arith

property_one : (key : Key) → depth (scalar_data (the_property key)) ≤ 1
property_one (key_name s) = omega arith
property_one (key_text s) = omega arith
property_one (key_number i) = omega arith
property_one key_below = omega arith

property_ranged : (key : Key) → is_ranged (the_key key) ≡ true → is_ranged (the_property key) ≡ true
property_ranged (key_number i) h = h
property_ranged key h = refl

key_fits : (n : ℕ) (keys : Keys) (key : Key) → 1 ≤ n → is_ranged (the_key key) ≡ true → Fitting n (key_scalar keys key)
key_fits n property_key key roomy ranged = (omega (arith, key_one key), ranged)
key_fits n class_key key roomy ranged = (omega (arith, key_one key), ranged)
key_fits n member_key key roomy ranged = (omega (arith, property_one key), property_ranged key ranged)

-- a key that is a node
below_fits : (n : ℕ) (keys : Keys) → Fitting n (key_scalar keys key_below)
below_fits n property_key = (omega arith, refl)
below_fits n class_key = (omega arith, refl)
below_fits n member_key = (omega arith, refl)

taken : {A : Type 0} (b : Bool) (x : Result A Fault) (bad : Fault) (y : A) → (if b then x else Err bad) ≡ Ok y → x ≡ Ok y
taken true x bad y h = h
taken false x bad y h = absurd cc

literal_key_at : (b : Bool) (bad : Fault) (r : Result Value Fault) (d : Data) (key : Key) → ((v : Value) → r ≡ Ok v → is_ranged (the_value v) ≡ true)
    → (if b then Err bad else (r >>= λ v. key_of bad v >>= λ k. check_extras type.Literal d >>= λ _. Ok k)) ≡ Ok key → is_ranged (the_key key) ≡ true
literal_key_at true bad r d key ranged h = absurd cc
literal_key_at false bad r d key ranged h =
    let v = began r (λ v. key_of bad v >>= λ k. check_extras type.Literal d >>= λ _. Ok k) key h in
    let k = began (key_of bad v.0) (λ k. check_extras type.Literal d >>= λ _. Ok k) key v.2 in
    let extras = began (check_extras type.Literal d) (λ _. Ok k.0) key k.2 in
    subst (λ (j : Key). is_ranged (the_key j) ≡ true) (ok_is k.0 key extras.2) (key_ranged bad v.0 k.0 (ranged v.0 v.1) k.1)

literal_key : (bad : Fault) (d : Data) (key : Key) → read_literal_key bad d ≡ Ok key → is_ranged (the_key key) ≡ true
unfolding read_literal_key
literal_key bad d key h = literal_key_at _ bad (literal_value d) d key (λ v is. value_ranged (fault_of type.Literal (codes "value")) (get (codes "raw") d) (get (codes "value") d) v is) h

module _ (one : Reader) (is : Reads one) (bad : Fault) (keys : Keys) (key : Key) (x : Forest) (n : ℕ) where
  node_key : (c : Class) (d : Data) → depth d ≤ n → within (one c bad d) ≡ Ok (key, x) → IsKeyRead n keys key x
  node_key c d less h =
      let m = began (one c bad d) (λ m. Ok (key_below, m)) (key, x) h in
      subst (KeyRead n keys) (ok_is (key_below, m.0) (key, x) m.2) (record { node = deeper (depth d) n m.0 less (is c bad d m.0 m.1); fits = below_fits n keys })

  apart_key : (r : Result Key Fault) → 1 ≤ n → ((k : Key) → r ≡ Ok k → is_ranged (the_key k) ≡ true) → apart r ≡ Ok (key, x) → IsKeyRead n keys key x
  apart_key r roomy ranged h =
      let k = began r (λ k. Ok (k, absent nothing)) (key, x) h in
      subst (KeyRead n keys) (ok_is (k.0, absent nothing) (key, x) k.2) (record { node = absent_read n; fits = key_fits n keys k.0 roomy (ranged k.0 k.1) })

  name_ranged : (d : Data) (k : Key) → read_identifier d ≡ Ok k → is_ranged (the_key k) ≡ true
  unfolding read_identifier
  name_ranged d k h =
      let s = began (read_identifier_name d) (λ s. Ok (key_name s)) k h in
      subst (λ (j : Key). is_ranged (the_key j) ≡ true) (ok_is (key_name s.0) k s.2) refl

  static_key_read : (d : Data) (t : NodeType) → depth d ≤ n → 1 ≤ depth d → static_key one keys bad d t ≡ Ok (key, x) → IsKeyRead n keys key x
  static_key_read d type.Identifier less nests h = apart_key (read_identifier d) (omega arith) (name_ranged d) h
  static_key_read d type.Literal less nests h = apart_key (read_literal_key bad d) (omega arith) (literal_key bad d) (taken (takes_literal keys) (apart (read_literal_key bad d)) bad (key, x) h)
  static_key_read d type.PrivateIdentifier less nests h = node_key private_key d less (taken (takes_private keys) (within (one private_key bad d)) bad (key, x) h)
  static_key_read d t less nests h = absurd cc

  key_read : (computed : Bool) (found : Option Data) → Within n found → read_key one keys computed bad found ≡ Ok (key, x) → IsKeyRead n keys key x
  unfolding read_key
  key_read computed None less h = absurd cc
  key_read true (Some d) less h = node_key expression d (less d refl) h
  key_read false (Some d) less h =
      let t = began (type_at bad d) (λ t. static_key one keys bad d t) (key, x) h in
      static_key_read d t.0 (less d refl) (typed_nests bad d t.0 t.1) t.2

-- ---- the fields of a row

abbrev AreRanged : List Scalar → Type 0
AreRanged ss = count_among (λ s. not (is_ranged s)) ss ≡ 0

abbrev pub AreUnreadShallow : ℕ → List Field → Type 0
AreUnreadShallow n [] = Unit {0}
AreUnreadShallow n (field name (checks (unread s)) ∷ fs) = (depth (scalar_data s) ≤ n) × AreUnreadShallow n fs
AreUnreadShallow n (field name sort ∷ fs) = AreUnreadShallow n fs

first_unread : (n : ℕ) (name : List ℕ) (c : Check) (fs : List Field) → AreUnreadShallow n (field name (checks c) ∷ fs) → IsUnreadShallow n c × AreUnreadShallow n fs
first_unread n name never fs h = (tt, h)
first_unread n name (constant s) fs h = (tt, h)
first_unread n name (fixed_name s) fs h = (tt, h)
first_unread n name null_only fs h = (tt, h)
first_unread n name (hint g) fs h = (tt, h)
first_unread n name (unread s) fs h = h

pub record FieldsRead (n : ℕ) (fs : List Field) (make : Makes fs) (p : Kind × Forest) : Type 0 where
  pub values : Values fs
  pub kind : p.0 ≡ kind_of fs make values
  pub row : IsRead n p.1
  pub shallow : AreShallow n (scalars_in fs values)
  pub ranged : AreRanged (scalars_in fs values)
  pub checked : AreUnreadShallow n fs → AreChecksShallow n fs

ranged_first : (s : Scalar) (ss : List Scalar) → is_ranged s ≡ true → AreRanged ss → AreRanged (s ∷ ss)
ranged_first s ss is later = rw is (omega (arith, later))

module _ (one : Reader) (is : Reads one) (t : NodeType) (d : Data) (n : ℕ) (deep : depth d ≡ suc n) where
  found_within : (name : List ℕ) → Within n (get name d)
  found_within name e found = omega (arith, get_depth name d e found, deep)

  -- a node, or a list, before the fields that follow
  node_field : (fs : List Field) (make : Makes fs) (p : Kind × Forest) (found : Result Forest Fault) → ((x : Forest) → found ≡ Ok x → IsRead n x) → ((q : Kind × Forest) → read_fields one t fs make d ≡ Ok q → FieldsRead n fs make q)
      → (found >>= λ m. with_child m (read_fields one t fs make d)) ≡ Ok p → FieldsRead n fs make p
  node_field fs make p found first later h =
      let x = began found (λ m. with_child m (read_fields one t fs make d)) p h in
      let q = began (read_fields one t fs make d) (λ q. Ok (q.0, joined x.0 q.1)) p x.2 in
      let rest = later q.0 q.1 in
      subst (FieldsRead n fs make) (ok_is (q.0.0, joined x.0 q.0.1) p q.2)
      (record { values = rest.values; kind = rest.kind; row = joined_read n x.0 q.0.1 (first x.0 x.1) rest.row; shallow = rest.shallow; ranged = rest.ranged; checked = rest.checked })

  fields_read : (fs : List Field) (make : Makes fs) (p : Kind × Forest) → are_lists fs ≡ true → read_fields one t fs make d ≡ Ok p → FieldsRead n fs make p
  fields_read [] make p lists h = subst (FieldsRead n [] make) (ok_is (make, nothing) p h) (record { values = tt; kind = refl; row = none_read n; shallow = tt; ranged = refl; checked = λ free. tt })
  fields_read (field name (keeps k) ∷ fs) make p lists h =
      let v = began (read_kept k t name d) (λ x. read_fields one t fs (make x) d) p h in
      let rest = fields_read fs (make v.0) p lists v.2 in
      let fits = kept_fits n name d deep t k v.0 v.1 in
      record { values = (v.0, rest.values); kind = rest.kind; row = rest.row; shallow = (fits.0, rest.shallow); ranged = ranged_first (scalar_of k v.0) (scalars_in fs rest.values) fits.1 rest.ranged; checked = rest.checked }
  fields_read (field name (checks c) ∷ fs) make p lists h =
      let v = began (read_check c (fault_of t name) (get name d)) (λ x. read_fields one t fs make d) p h in
      let rest = fields_read fs make p lists v.2 in
      record { values = rest.values; kind = rest.kind; row = rest.row; shallow = rest.shallow; ranged = rest.ranged; checked = λ free. (check_fits n name d deep (fault_of t name) c v.1 (first_unread n name c fs free).0, rest.checked (first_unread n name c fs free).1) }
  fields_read (field name (a_key keys) ∷ fs) make p lists h =
      let key = began (read_key one keys (is_true_at (get (codes "computed") d)) (fault_of t name) (get name d)) (λ k. with_child k.1 (read_fields one t fs (make k.0) d)) p h in
      let later = began (read_fields one t fs (make key.0.0) d) (λ q. Ok (q.0, joined key.0.1 q.1)) p key.2 in
      let rest = fields_read fs (make key.0.0) later.0 lists later.1 in
      let first = key_read one is (fault_of t name) keys key.0.0 key.0.1 n (is_true_at (get (codes "computed") d)) (get name d) (found_within name) key.1 in
      subst (FieldsRead n (field name (a_key keys) ∷ fs) make) (ok_is (later.0.0, joined key.0.1 later.0.1) p later.2)
      (record {
        values = (key.0.0, rest.values);
        kind = rest.kind;
        row = joined_read n key.0.1 later.0.1 first.node rest.row;
        shallow = (first.fits.0, rest.shallow);
        ranged = ranged_first (key_scalar keys key.0.0) (scalars_in fs rest.values) first.fits.1 rest.ranged;
        checked = rest.checked;
      })
  fields_read (field name (child c) ∷ fs) make p lists h =
      let rest = node_field fs make p (read_child (one c (fault_of t name)) (fault_of t name) (get name d)) (λ x found. child_read n (one c (fault_of t name)) (is c (fault_of t name)) (fault_of t name) (get name d) x (found_within name) found) (λ q later. fields_read fs make q lists later) h in
      record { values = rest.values; kind = rest.kind; row = rest.row; shallow = rest.shallow; ranged = rest.ranged; checked = rest.checked }
  fields_read (field name (maybe c) ∷ fs) make p lists h =
      let rest = node_field fs make p (read_maybe (one c (fault_of t name)) (get name d)) (λ x found. maybe_read n (one c (fault_of t name)) (is c (fault_of t name)) (get name d) x (found_within name) found) (λ q later. fields_read fs make q lists later) h in
      record { values = rest.values; kind = rest.kind; row = rest.row; shallow = rest.shallow; ranged = rest.ranged; checked = rest.checked }
  fields_read (field name (each list c) ∷ fs) make p lists h =
      let rest = node_field fs make p (read_list list (read_items (one c (fault_of t name))) (fault_of t name) (get name d))
      (λ x found. list_read n list (read_items (one c (fault_of t name))) (first_of_both _ _ lists) (items_read (one c (fault_of t name)) (is c (fault_of t name))) (fault_of t name) (get name d) x (found_within name) found)
      (λ q later. fields_read fs make q (second_of_both _ _ lists) later) h in
      record { values = rest.values; kind = rest.kind; row = rest.row; shallow = rest.shallow; ranged = rest.ranged; checked = rest.checked }
  fields_read (field name (each_or_hole list c) ∷ fs) make p lists h =
      let rest = node_field fs make p (read_list list (read_items (read_or_hole (one c (fault_of t name)))) (fault_of t name) (get name d))
      (λ x found. list_read n list (read_items (read_or_hole (one c (fault_of t name)))) (first_of_both _ _ lists) (items_read (read_or_hole (one c (fault_of t name))) (or_hole_read (one c (fault_of t name)) (is c (fault_of t name)))) (fault_of t name) (get name d) x (found_within name) found)
      (λ q later. fields_read fs make q (second_of_both _ _ lists) later) h in
      record { values = rest.values; kind = rest.kind; row = rest.row; shallow = rest.shallow; ranged = rest.ranged; checked = rest.checked }
  fields_read (field name (a_body c) ∷ fs) make p lists h =
      let rest = node_field fs make p (read_list statements (read_body one c (fault_of t name)) (fault_of t name) (get name d))
      (λ x found. list_read n statements (read_body one c (fault_of t name)) refl (body_read one is c (fault_of t name)) (fault_of t name) (get name d) x (found_within name) found)
      (λ q later. fields_read fs make q lists later) h in
      record { values = rest.values; kind = rest.kind; row = rest.row; shallow = rest.shallow; ranged = rest.ranged; checked = rest.checked }

-- ---- nodes

-- what is written of a field that isn't read is flat, or stands beside what nests
unread_in : (n : ℕ) (r : Row) (vs : Values (fields_of r)) → AreShallow n (scalars_in (fields_of r) vs) → AreUnreadShallow n (fields_of r)
unread_in n a_reg_exp vs shallow = (omega (arith, shallow.0), tt)
unread_in n a_unary_expression vs shallow = (omega arith, tt)
unread_in n a_program vs shallow = tt
unread_in n r vs shallow = tt

scalars_are : (r : Row) (vs : Values (fields_of r)) → scalars_of (kind_in r vs) ≡ scalars_in (fields_of r) vs
scalars_are a_program vs = refl
scalars_are r vs = refl

abbrev is_signed : Kind → Bool
is_signed (literal (value.Number (negsuc i))) = true
is_signed k = false

-- the members of an object that this row makes
abbrev object_in : (r : Row) (vs : Values (fields_of r)) → Forest → List Data → Data
object_in r vs below nodes = object (put (codes "type") (string (type_name (type_of r))) (members_of (kind_in r vs) below (fields_of r) (scalars_in (fields_of r) vs) nodes))

text_in : (v : Value) (below : Forest) (nodes : List Data) → is_signed (literal v) ≡ false → node_data (literal v) below nodes ≡ object_in a_text_literal (v, tt) below nodes
text_in (value.Number (pos i)) below nodes h = refl
text_in (value.Number (negsuc i)) below nodes h = absurd cc
text_in v below nodes h = refl

literal_in : (v : Value) (below : Forest) (nodes : List Data) → is_signed (literal v) ≡ false → node_data (literal v) below nodes ≡ object_in a_literal (v, tt) below nodes
literal_in (value.Number (pos i)) below nodes h = refl
literal_in (value.Number (negsuc i)) below nodes h = absurd cc
literal_in v below nodes h = refl

node_is : (r : Row) (vs : Values (fields_of r)) (below : Forest) (nodes : List Data) → is_signed (kind_in r vs) ≡ false → node_data (kind_in r vs) below nodes ≡ object_in r vs below nodes
node_is a_literal vs below nodes h = literal_in vs.0 below nodes h
node_is a_text_literal vs below nodes h = text_in vs.0 below nodes h
node_is a_program vs below nodes h = refl
node_is r vs below nodes h = refl

signed_deep : (k : Kind) (below : Forest) (nodes : List Data) → is_signed k ≡ true → (depth (node_data k below nodes) ≡ 2) × (negative k ≡ 1)
signed_deep (literal (value.Number (negsuc i))) below nodes h = (refl, refl)
signed_deep k below nodes h = absurd cc

weaker_scalars : (m n : ℕ) (ss : List Scalar) → m ≤ n → AreShallow m ss → AreShallow n ss
weaker_scalars m n [] less h = tt
weaker_scalars m n (s ∷ ss) less h = (omega (arith, h.0), weaker_scalars m n ss less h.1)

weaker_check : (m n : ℕ) (c : Check) → m ≤ n → IsCheckShallow m c → IsCheckShallow n c
weaker_check m n (fixed_name s) less h = omega arith
weaker_check m n (unread s) less h = omega arith
weaker_check m n never less h = tt
weaker_check m n (constant s) less h = tt
weaker_check m n null_only less h = tt
weaker_check m n (hint g) less h = tt

weaker_checks : (m n : ℕ) (fs : List Field) → m ≤ n → AreChecksShallow m fs → AreChecksShallow n fs
weaker_checks m n [] less h = tt
weaker_checks m n (field name (checks c) ∷ fs) less h = (weaker_check m n c less h.0, weaker_checks m n fs less h.1)
weaker_checks m n (field name sort ∷ fs) less h = weaker_checks m n fs less h

module _ (n : ℕ) (r : Row) (p : Kind × Forest) (fields : FieldsRead n (fields_of r) (kind_at r) p) where
  row_deep : (b : Bool) → is_signed (kind_in r fields.values) ≡ b → depth (node_data (kind_in r fields.values) p.1 (row_datas p.1)) ≤ suc n + min 1 (negative (kind_in r fields.values) + total negative p.1)
  row_deep true is =
      let so = signed_deep (kind_in r fields.values) p.1 (row_datas p.1) is in
      omega (arith, so.0, so.1)
  row_deep false is =
      let k = kind_in r fields.values in
      let more = n + min 1 (total negative p.1) in
      let shallow = weaker_scalars n more (scalars_in (fields_of r) fields.values) (omega arith) fields.shallow in
      let checked = weaker_checks n more (fields_of r) (omega arith) (fields.checked (unread_in n r fields.values fields.shallow)) in
      omega (
        arith,
        ap depth (node_is r fields.values p.1 (row_datas p.1) is),
        put_deep (codes "type") (string (type_name (type_of r))) (members_of k p.1 (fields_of r) (scalars_in (fields_of r) fields.values) (row_datas p.1)) more (omega arith)
            (members_deep k p.1 more (fields_of r) (scalars_in (fields_of r) fields.values) (row_datas p.1) shallow checked fields.row.deep),
      )

  node_read : (note : Note) → IsRead (suc n) (alone p.0 note p.1)
  node_read note =
      let kinds = ap (λ (k : Kind). count_among (λ s. not (is_ranged s)) (scalars_of k)) fields.kind ∙ ap (count_among (λ s. not (is_ranged s))) (scalars_are r fields.values) ∙ fields.ranged in
      record {
        deep = omega (arith, ap (λ (k : Kind). depth (node_data k p.1 (row_datas p.1))) fields.kind, ap negative fields.kind, row_deep (is_signed (kind_in r fields.values)) refl);
        ranged = omega (arith, kinds, fields.row.ranged);
      }

  made_read : (note : Note) → (row : Row) → row ≡ r → IsRead (suc n) (made row p.0 note p.1)
  made_read note a_parenthesized_target is = deeper n (suc n) p.1 (omega arith) fields.row
  made_read note row is = node_read note

here_read : (one : Reader) → Reads one → (bad : Fault) (d : Data) (found : Option Row) (t : Forest) → 1 ≤ depth d → read_here one bad d found ≡ Ok t → IsRead (depth d) t
here_read one is bad d None t nests h = absurd cc
here_read one is bad d (Some r) t nests h =
    let n = depth d - 1 in
    let deep : depth d ≡ suc n = omega arith in
    let fields = began (read_fields one (type_of r) (fields_of r) (kind_at r) d) (λ p. check_extras (type_of r) d >>= λ _. Ok (made r p.0 (note_of d) p.1)) t h in
    let extras = began (check_extras (type_of r) d) (λ _. Ok (made r fields.0.0 (note_of d) fields.0.1)) t fields.2 in
    subst (IsRead (depth d)) (ok_is (made r fields.0.0 (note_of d) fields.0.1) t extras.2)
    (deeper (suc n) (depth d) (made r fields.0.0 (note_of d) fields.0.1) (omega (arith, deep))
    (made_read n r fields.0 (fields_read one is (type_of r) d n deep (fields_of r) (kind_at r) fields.0 (lists_in r) fields.1) (note_of d) r refl))

pub nodes_read : (n : ℕ) → Reads (read_node n)
unfolding read_node
nodes_read zero c bad d t h = absurd cc
nodes_read (suc n) c bad d t h =
    let typed = began (type_at bad d) (λ ty. read_here (read_node n) bad d (row_here d (stands c ty))) t h in
    here_read (read_node n) (nodes_read n) bad d (row_here d (stands c typed.0)) t (typed_nests bad d typed.0 typed.1) typed.2

pub program_read : (d : Data) (t : Forest) → read_program d ≡ Ok t → IsRead (depth d) t
program_read d t h = nodes_read 128 root untyped d t h
