-- A tree of exact values is written as a value that stands for itself.
use Rattle.std.proofs.Common.{◌≡◌, ◌<◌, ℕ, pos, negsuc, Bool, true, false, ◌&&◌, List, [], ◌∷◌, Option, Some, None, if◌then◌else◌, refl, arith, ltb-true}
use Rattle.std.specs.Prelude.{codes}
use Rattle.serde_json.specs.Data.{Data, Members, null, boolean, string, no_members, put}
use Rattle.js_syntax.specs.Name.{type_name}
use Rattle.js_syntax.specs.Scalar.{Scalar, the_value, the_mark, the_name, the_name_or_null, the_module_name, the_module_name_or_null, the_source, the_key, the_property, the_template_text, the_reg_exp_text}
use Rattle.js_syntax.specs.declared.value.LiteralValue.{LiteralValue as Value}
use Rattle.js_syntax.specs.declared.value.LiteralValue.TheVariants as value
use Rattle.js_syntax.specs.declared.value.Key.{Key}
use Rattle.js_syntax.specs.declared.value.Key.TheVariants.{Name as key_name, Text as key_text, Number as key_number, Below as key_below}
use Rattle.js_syntax.specs.declared.value.ModuleName.{ModuleName}
use Rattle.js_syntax.specs.declared.value.ModuleName.TheVariants.{Name as plain_name, Text as quoted_name}
use Rattle.js_syntax.specs.declared.node_kind.NodeKind.{NodeKind as Kind}
use Rattle.js_syntax.specs.declared.node_kind.NodeKind.TheVariants.{Literal as literal, Hole as hole}
use Rattle.js_syntax.specs.Node.{Forest, nothing, node, absent, total}
use Rattle.js_syntax.specs.Field.{Check, unread, keeps, checks, a_key, Field, field}
use Rattle.js_syntax.specs.Table.{Row, a_program, fields_of, type_of}
use Rattle.js_syntax.specs.Facts.{row_of, scalars_of}
use Rattle.json_text.specs.Text.{or_null, items_of, whole_number, text_literal, identifier, is_identifier_name, value_data, module_name_data, key_data, property_data, scalar_data, put_scalar, key_beside, check_scalar, first_or_null, others, first_scalar, members_of, row_data, node_data, row_datas, data_of}
use Rattle.json_shape.specs.Exact.{is_exact_number, is_exact_value, is_exact_key, is_exact_property, is_exact, inexact_among, inexact, IsExact}
use Rattle.json_shape.proofs.Booleans.{counted, rest_counted}
use Rattle.json_shape.proofs.Plain.{IsPlain, AreItemsPlain, AreMembersPlain, AreMembersPlain-put}
use Rattle.js_syntax.proofs.Truth.{first_of_both, second_of_both}

-- ---- nodes below

abbrev ArePlain : List Data → Type 0
ArePlain [] = Unit {0}
ArePlain (d ∷ ds) = IsPlain d × ArePlain ds

first_plain : (ds : List Data) → ArePlain ds → IsPlain (first_or_null ds)
first_plain [] h = tt
first_plain (d ∷ ds) h = h.0

others_plain : (ds : List Data) → ArePlain ds → ArePlain (others ds)
others_plain [] h = tt
others_plain (d ∷ ds) h = h.1

items_plain : (ds : List Data) → ArePlain ds → AreItemsPlain (items_of ds)
items_plain [] h = tt
items_plain (d ∷ ds) h = (h.0, items_plain ds h.1)

-- ---- what is no node

plain_number : (n : ℕ) → is_exact_number n ≡ true → n < 18446744073709551616
plain_number n exact = omega (arith, ltb-true n 9007199254740992 exact)

identifier_plain : (s : List ℕ) → IsPlain (identifier s)
identifier_plain s = AreMembersPlain-put (codes "type") (string (codes "Identifier")) (put (codes "name") (string s) no_members) tt (AreMembersPlain-put (codes "name") (string s) no_members tt tt)

text_plain : (s : List ℕ) → IsPlain (text_literal s)
text_plain s = AreMembersPlain-put (codes "type") (string (codes "Literal")) (put (codes "value") (string s) no_members) tt (AreMembersPlain-put (codes "value") (string s) no_members tt tt)

number_plain : (n : ℕ) → is_exact_number n ≡ true → IsPlain (whole_number n)
number_plain n exact =
    let value = value_data (value.Number (pos n)) in
    AreMembersPlain-put (codes "type") (string (codes "Literal")) (put (codes "value") value no_members) tt (AreMembersPlain-put (codes "value") value no_members (plain_number n exact) tt)

name_plain : (b : Bool) (s : List ℕ) → IsPlain (if b then identifier s else text_literal s)
name_plain true s = identifier_plain s
name_plain false s = text_plain s

value_plain : (v : Value) → is_exact_value v ≡ true → IsPlain (value_data v)
value_plain value.Null exact = tt
value_plain (value.Boolean b) exact = tt
value_plain (value.Number (pos n)) exact = plain_number n exact
value_plain (value.Number (negsuc n)) exact = absurd cc
value_plain (value.Text s) exact = tt

module_name_plain : (m : ModuleName) → IsPlain (module_name_data m)
module_name_plain (plain_name s) = name_plain (is_identifier_name s) s
module_name_plain (quoted_name s) = text_plain s

key_plain : (key : Key) (d : Data) → is_exact_property key ≡ true → IsPlain d → IsPlain (key_data key d)
key_plain (key_name s) d exact p = name_plain (is_identifier_name s) s
key_plain (key_text s) d exact p = text_plain s
key_plain (key_number n) d exact p = number_plain n exact
key_plain key_below d exact p = p

property_plain : (key : Key) (d : Data) → is_exact_property key ≡ true → IsPlain d → IsPlain (property_data key d)
property_plain (key_name s) d exact p = identifier_plain s
property_plain (key_text s) d exact p = text_plain s
property_plain (key_number n) d exact p = number_plain n exact
property_plain key_below d exact p = p

exact_as_property : (key : Key) → is_exact_key key ≡ true → is_exact_property key ≡ true
exact_as_property (key_name s) exact = refl
exact_as_property (key_text s) exact = refl
exact_as_property (key_number n) exact = exact
exact_as_property key_below exact = refl

two_plain : (one two : List ℕ) (d e : Data) → IsPlain d → IsPlain e → AreMembersPlain (put one d (put two e no_members))
two_plain one two d e p q = AreMembersPlain-put one d (put two e no_members) p (AreMembersPlain-put two e no_members q tt)

template_plain : (raw : List ℕ) (cooked : Option (List ℕ)) → AreMembersPlain (put (codes "raw") (string raw) (put (codes "cooked") (or_null string cooked) no_members))
template_plain raw None = two_plain (codes "raw") (codes "cooked") (string raw) null tt tt
template_plain raw (Some s) = two_plain (codes "raw") (codes "cooked") (string raw) (string s) tt tt

scalar_plain : (s : Scalar) → is_exact s ≡ true → IsPlain (scalar_data s)
scalar_plain (the_value v) exact = value_plain v exact
scalar_plain (the_name s) exact = identifier_plain s
scalar_plain (the_name_or_null None) exact = tt
scalar_plain (the_name_or_null (Some s)) exact = identifier_plain s
scalar_plain (the_module_name m) exact = module_name_plain m
scalar_plain (the_module_name_or_null None) exact = tt
scalar_plain (the_module_name_or_null (Some m)) exact = module_name_plain m
scalar_plain (the_source s) exact = text_plain s
scalar_plain (the_key key) exact = key_plain key _ (exact_as_property key exact) tt
scalar_plain (the_property key) exact = property_plain key _ exact tt
scalar_plain (the_template_text t) exact = template_plain t.raw t.cooked
scalar_plain (the_reg_exp_text r) exact = two_plain (codes "pattern") (codes "flags") (string r.pattern) (string r.flags) tt tt
scalar_plain s exact = tt

put_scalar_plain : (name : List ℕ) (s : Scalar) (ms : Members) → is_exact s ≡ true → AreMembersPlain ms → AreMembersPlain (put_scalar name s ms)
put_scalar_plain name (the_mark true) ms exact all = AreMembersPlain-put name (boolean true) ms tt all
put_scalar_plain name (the_mark false) ms exact all = all
put_scalar_plain name s ms exact all = AreMembersPlain-put name (scalar_data s) ms (scalar_plain s exact) all

beside_plain : (s : Scalar) (d : Data) → is_exact s ≡ true → IsPlain d → IsPlain (key_beside s d)
beside_plain (the_key key) d exact p = key_plain key d (exact_as_property key exact) p
beside_plain (the_property key) d exact p = property_plain key d exact p
beside_plain s d exact p = p

-- ---- by the table

first_exact : (ss : List Scalar) → inexact_among ss ≡ 0 → is_exact (first_scalar ss) ≡ true
first_exact [] h = refl
first_exact (s ∷ ss) h = counted (is_exact s) (inexact_among ss) h

rest_exact : (ss : List Scalar) → inexact_among ss ≡ 0 → inexact_among (others ss) ≡ 0
rest_exact [] h = refl
rest_exact (s ∷ ss) h = rest_counted (is_exact s) (inexact_among ss) h

-- what is written of a field that nobody reads is exact
abbrev are_checks_exact : List Field → Bool
are_checks_exact [] = true
are_checks_exact (field name (checks (unread s)) ∷ fs) = is_exact s && are_checks_exact fs
are_checks_exact (field name sort ∷ fs) = are_checks_exact fs

checks_exact : (r : Row) → are_checks_exact (fields_of r) ≡ true
checks_exact a_program = refl
checks_exact r = refl

node_field : (name : List ℕ) (nodes : List Data) (ms : Members) → ArePlain nodes → AreMembersPlain ms → AreMembersPlain (put name (first_or_null nodes) ms)
node_field name nodes ms all later = AreMembersPlain-put name (first_or_null nodes) ms (first_plain nodes all) later

module _ (k : Kind) (below : Forest) where
  check_field : (name : List ℕ) (c : Check) (ms : Members) → is_exact (check_scalar c k below) ≡ true → AreMembersPlain ms → AreMembersPlain (put name (scalar_data (check_scalar c k below)) ms)
  check_field name c ms exact later = AreMembersPlain-put name (scalar_data (check_scalar c k below)) ms (scalar_plain (check_scalar c k below) exact) later

  members_plain : (fs : List Field) (ss : List Scalar) (nodes : List Data) → inexact_among ss ≡ 0 → ArePlain nodes → are_checks_exact fs ≡ true → AreMembersPlain (members_of k below fs ss nodes)
  members_plain [] ss nodes exact all checked = tt
  members_plain (field name (keeps kept) ∷ fs) ss nodes exact all checked =
      put_scalar_plain name (first_scalar ss) (members_of k below fs (others ss) nodes) (first_exact ss exact) (members_plain fs (others ss) nodes (rest_exact ss exact) all checked)
  members_plain (field name (a_key keys) ∷ fs) ss nodes exact all checked =
      AreMembersPlain-put name (key_beside (first_scalar ss) (first_or_null nodes)) (members_of k below fs (others ss) (others nodes)) (beside_plain (first_scalar ss) (first_or_null nodes) (first_exact ss exact) (first_plain nodes all))
      (members_plain fs (others ss) (others nodes) (rest_exact ss exact) (others_plain nodes all) checked)
  members_plain (field name (checks (unread s)) ∷ fs) ss nodes exact all checked =
      check_field name (unread s) (members_of k below fs ss nodes) (first_of_both _ _ checked) (members_plain fs ss nodes exact all (second_of_both _ _ checked))
  members_plain (field name (checks c) ∷ fs) ss nodes exact all checked = check_field name c (members_of k below fs ss nodes) refl (members_plain fs ss nodes exact all checked)
  members_plain (field name sort ∷ fs) ss nodes exact all checked = node_field name nodes (members_of k below fs ss (others nodes)) all (members_plain fs ss (others nodes) exact (others_plain nodes all) checked)

  row_plain : (nodes : List Data) (r : Option Row) → inexact k ≡ 0 → ArePlain nodes → IsPlain (row_data k below nodes r)
  row_plain nodes None exact all = items_plain nodes all
  row_plain nodes (Some r) exact all =
      AreMembersPlain-put (codes "type") (string (type_name (type_of r))) (members_of k below (fields_of r) (scalars_of k) nodes) tt (members_plain (fields_of r) (scalars_of k) nodes exact all (checks_exact r))

-- ---- nodes

node_plain : (k : Kind) (below : Forest) (nodes : List Data) → inexact k ≡ 0 → ArePlain nodes → IsPlain (node_data k below nodes)
node_plain (literal (value.Number (negsuc n))) below nodes exact all = absurd (omega (arith, exact))
node_plain (literal (value.Number (pos n))) below nodes exact all = row_plain (literal (value.Number (pos n))) below nodes (row_of (literal (value.Number (pos n)))) exact all
node_plain hole below nodes exact all = tt
node_plain k below nodes exact all = row_plain k below nodes (row_of k) exact all

rows_plain : (t : Forest) → total inexact t ≡ 0 → ArePlain (row_datas t)
rows_plain nothing exact = tt
rows_plain (node k n below rest) exact = (node_plain k below (row_datas below) (omega (arith, exact)) (rows_plain below (omega (arith, exact))), rows_plain rest (omega (arith, exact)))
rows_plain (absent rest) exact = (tt, rows_plain rest exact)

pub data_plain : (t : Forest) → IsExact t → IsPlain (data_of t)
data_plain t exact = first_plain (row_datas t) (rows_plain t exact)
