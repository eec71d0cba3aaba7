-- How deep what is written of a node nests.
use Rattle.std.proofs.Common.{◌≡◌, ◌≤◌, ◌+◌, ℕ, max, List, [], ◌∷◌, Bool, true, false, Ordering, Less, Equal, Greater, if◌then◌else◌, refl, ap, arith}
use Rattle.std.specs.Ordering.{nat_cmp, match_ordering}
use Rattle.std.specs.Cmp.Lexicographic.{slice_cmp}
use Rattle.serde_json.specs.Data.{Data, boolean, Members, no_members, member, put, depth, items_depth, members_depth}
use Rattle.js_syntax.specs.Scalar.{Scalar, the_mark, the_key, the_property}
use Rattle.js_syntax.specs.declared.value.Key.TheVariants.{Name as key_name, Text as key_text, Number as key_number, Below as key_below}
use Rattle.js_syntax.specs.declared.node_kind.NodeKind.{NodeKind as Kind}
use Rattle.js_syntax.specs.Node.{Forest, nothing, node, absent, joined, total}
use Rattle.js_syntax.specs.Field.{Check, never, constant, fixed_name, null_only, hint, unread, keeps, checks, a_key, Field, field}
use Rattle.json_text.specs.Text.{items_of, text_literal, identifier, scalar_data, put_scalar, key_beside, check_scalar, first_or_null, others, first_scalar, members_of, row_datas}

-- ---- nodes side by side

abbrev pub deepest : List Data → ℕ
deepest [] = 0
deepest (d ∷ ds) = max (depth d) (deepest ds)

pub items_deep : (ds : List Data) → items_depth (items_of ds) ≡ deepest ds
items_deep [] = refl
items_deep (d ∷ ds) = ap (max (depth d)) (items_deep ds)

pub deepest_joined : (t r : Forest) → deepest (row_datas (joined t r)) ≡ max (deepest (row_datas t)) (deepest (row_datas r))
deepest_joined nothing r = omega arith
deepest_joined (node k m below rest) r = omega (arith, deepest_joined rest r)
deepest_joined (absent rest) r = omega (arith, deepest_joined rest r)

pub total_joined : (counts : Kind → ℕ) (t r : Forest) → total counts (joined t r) ≡ total counts t + total counts r
total_joined counts nothing r = omega arith
total_joined counts (node k m below rest) r = omega (arith, total_joined counts rest r)
total_joined counts (absent rest) r = total_joined counts rest r

first_deep : (ds : List Data) (n : ℕ) → deepest ds ≤ n → depth (first_or_null ds) ≤ n
first_deep [] n h = omega arith
first_deep (d ∷ ds) n h = omega arith

others_deep : (ds : List Data) (n : ℕ) → deepest ds ≤ n → deepest (others ds) ≤ n
others_deep [] n h = h
others_deep (d ∷ ds) n h = omega arith

-- ---- members

ordered_deep : (o : Ordering) (a b c : Members) (n : ℕ) → members_depth a ≤ n → members_depth b ≤ n → members_depth c ≤ n → members_depth (match_ordering o a b c) ≤ n
ordered_deep Less a b c n p q r = p
ordered_deep Equal a b c n p q r = q
ordered_deep Greater a b c n p q r = r

pub put_deep : (k : List ℕ) (d : Data) (ms : Members) (n : ℕ) → depth d ≤ n → members_depth ms ≤ n → members_depth (put k d ms) ≤ n
put_deep k d no_members n p q = omega arith
put_deep k d (member l e ms) n p q =
    ordered_deep (slice_cmp nat_cmp k l) (member k d (member l e ms)) (member l d ms) (member l e (put k d ms)) n (omega arith) (omega arith) (omega (arith, put_deep k d ms n p (omega arith)))

-- ---- what is no node

name_deep : (b : Bool) (s : List ℕ) → depth (if b then identifier s else text_literal s) ≤ 1
name_deep true s = omega arith
name_deep false s = omega arith

beside_deep : (s : Scalar) (d : Data) (n : ℕ) → depth (scalar_data s) ≤ n → depth d ≤ n → depth (key_beside s d) ≤ n
beside_deep (the_key (key_name s)) d n p q = p
beside_deep (the_key (key_text s)) d n p q = p
beside_deep (the_key (key_number i)) d n p q = p
beside_deep (the_key key_below) d n p q = q
beside_deep (the_property (key_name s)) d n p q = p
beside_deep (the_property (key_text s)) d n p q = p
beside_deep (the_property (key_number i)) d n p q = p
beside_deep (the_property key_below) d n p q = q
beside_deep s d n p q = q

put_scalar_deep : (name : List ℕ) (s : Scalar) (ms : Members) (n : ℕ) → depth (scalar_data s) ≤ n → members_depth ms ≤ n → members_depth (put_scalar name s ms) ≤ n
put_scalar_deep name (the_mark true) ms n p q = put_deep name (boolean true) ms n (omega arith) q
put_scalar_deep name (the_mark false) ms n p q = q
put_scalar_deep name s ms n p q = put_deep name (scalar_data s) ms n p q

-- each of these nests no deeper
abbrev pub AreShallow : ℕ → List Scalar → Type 0
AreShallow n [] = Unit {0}
AreShallow n (s ∷ ss) = (depth (scalar_data s) ≤ n) × AreShallow n ss

first_shallow : (n : ℕ) (ss : List Scalar) → AreShallow n ss → depth (scalar_data (first_scalar ss)) ≤ n
first_shallow n [] h = omega arith
first_shallow n (s ∷ ss) h = h.0

others_shallow : (n : ℕ) (ss : List Scalar) → AreShallow n ss → AreShallow n (others ss)
others_shallow n [] h = tt
others_shallow n (s ∷ ss) h = h.1

-- ---- fields that the kind keeps nothing of

-- names nest, and what isn't read may
abbrev pub IsCheckShallow : ℕ → Check → Type 0
IsCheckShallow n (fixed_name s) = 1 ≤ n
IsCheckShallow n (unread s) = depth (scalar_data s) ≤ n
IsCheckShallow n c = Unit {0}

abbrev pub AreChecksShallow : ℕ → List Field → Type 0
AreChecksShallow n [] = Unit {0}
AreChecksShallow n (field name (checks c) ∷ fs) = IsCheckShallow n c × AreChecksShallow n fs
AreChecksShallow n (field name sort ∷ fs) = AreChecksShallow n fs

check_deep : (n : ℕ) (c : Check) (k : Kind) (below : Forest) → IsCheckShallow n c → depth (scalar_data (check_scalar c k below)) ≤ n
check_deep n never k below h = omega arith
check_deep n (constant s) k below h = omega arith
check_deep n (fixed_name s) k below h = omega arith
check_deep n null_only k below h = omega arith
check_deep n (hint h) k below shallow = omega arith
check_deep n (unread s) k below h = h

module _ (k : Kind) (below : Forest) (n : ℕ) where
  -- what is written of the fields
  pub members_deep : (fs : List Field) (ss : List Scalar) (nodes : List Data) → AreShallow n ss → AreChecksShallow n fs → deepest nodes ≤ n → members_depth (members_of k below fs ss nodes) ≤ n
  members_deep [] ss nodes scalars checked deep = omega arith
  members_deep (field name (keeps s) ∷ fs) ss nodes scalars checked deep =
      put_scalar_deep name (first_scalar ss) (members_of k below fs (others ss) nodes) n (first_shallow n ss scalars) (members_deep fs (others ss) nodes (others_shallow n ss scalars) checked deep)
  members_deep (field name (checks c) ∷ fs) ss nodes scalars checked deep =
      put_deep name (scalar_data (check_scalar c k below)) (members_of k below fs ss nodes) n (check_deep n c k below checked.0) (members_deep fs ss nodes scalars checked.1 deep)
  members_deep (field name (a_key keys) ∷ fs) ss nodes scalars checked deep =
      put_deep name (key_beside (first_scalar ss) (first_or_null nodes)) (members_of k below fs (others ss) (others nodes)) n (beside_deep (first_scalar ss) (first_or_null nodes) n (first_shallow n ss scalars) (first_deep nodes n deep))
      (members_deep fs (others ss) (others nodes) (others_shallow n ss scalars) checked (others_deep nodes n deep))
  members_deep (field name sort ∷ fs) ss nodes scalars checked deep =
      put_deep name (first_or_null nodes) (members_of k below fs ss (others nodes)) n (first_deep nodes n deep) (members_deep fs ss (others nodes) scalars checked (others_deep nodes n deep))
