-- What is written of a tree doesn't depend on its notes.
use Rattle.std.proofs.Common.{◌≡◌, ◌∙◌, ℕ, negsuc, List, [], ◌∷◌, Bool, ◌&&◌, ◌||◌, not, Option, Some, None, refl, ap, ap₂, codes}
use Rattle.serde_json.specs.Data.{Data, null, string, object, put}
use Rattle.js_syntax.specs.declared.node_kind.NodeKind.{NodeKind as Kind}
use Rattle.js_syntax.specs.declared.node_kind.NodeKind.TheVariants.{Literal as literal, Hole as hole, Property as property, BindingProperty as binding_property, TargetProperty as target_property}
use Rattle.js_syntax.specs.declared.value.Key.{Key}
use Rattle.js_syntax.specs.declared.value.Key.TheVariants.{Name as key_name}
use Rattle.js_syntax.specs.declared.value.LiteralValue.TheVariants as tree
use Rattle.js_syntax.specs.Field.{Hint, is_computed, is_expression, is_shorthand, Check, hint, keeps, checks, a_key, Field, field}
use Rattle.js_syntax.specs.Hint.{has, is_private, is_function_body, has_key_below, is_arrow, is_default, is_name, first_is, has_value_named, is_named_by, is_short, says}
use Rattle.js_syntax.specs.Node.{Forest, nothing, node, absent, bare}
use Rattle.js_syntax.specs.Scalar.{Scalar}
use Rattle.js_syntax.specs.Table.{Row, fields_of, type_of}
use Rattle.js_syntax.specs.Name.{type_name}
use Rattle.js_syntax.specs.Facts.{row_of, scalars_of}
use Rattle.json_text.specs.Text.{check_scalar, scalar_data, put_scalar, key_beside, first_scalar, first_or_null, others, members_of, row_data, node_data, row_datas, data_of}

-- ---- what a node says of what lies below it

pub has_bare : (test : Kind → Bool) (t : Forest) → has test (bare t) ≡ has test t
has_bare test nothing = refl
has_bare test (node k n below rest) = ap (λ b. test k || b) (has_bare test rest)
has_bare test (absent rest) = has_bare test rest

first_is_bare : (test : Kind → Bool) (t : Forest) → first_is test (bare t) ≡ first_is test t
first_is_bare test nothing = refl
first_is_bare test (node k n below rest) = refl
first_is_bare test (absent rest) = refl

value_named_bare : (s : List ℕ) (t : Forest) → has_value_named s (bare t) ≡ has_value_named s t
value_named_bare s nothing = refl
value_named_bare s (node k n below rest) = ap (λ b. is_name s k || (is_default k && b)) (first_is_bare (is_name s) below)
value_named_bare s (absent rest) = value_named_bare s rest

named_by_bare : (key : Key) (t : Forest) → is_named_by key (bare t) ≡ is_named_by key t
named_by_bare (key_name s) t = value_named_bare s t
named_by_bare key t = refl

short_bare : (k : Kind) (t : Forest) → is_short k (bare t) ≡ is_short k t
short_bare (property how method key) t = named_by_bare key t
short_bare (binding_property key) t = named_by_bare key t
short_bare (target_property key) t = named_by_bare key t
short_bare k t = refl

says_bare : (h : Hint) (k : Kind) (t : Forest) → says h k (bare t) ≡ says h k t
says_bare is_computed k t = ap (λ b. has_key_below k && not b) (has_bare is_private t)
says_bare is_expression k t = ap (λ b. is_arrow k && not b) (has_bare is_function_body t)
says_bare is_shorthand k t = short_bare k t

check_bare : (c : Check) (k : Kind) (t : Forest) → check_scalar c k (bare t) ≡ check_scalar c k t
check_bare (hint h) k t = ap Scalar.the_flag (says_bare h k t)
check_bare c k t = refl

-- ---- nodes

members_bare : (k : Kind) (t : Forest) (fs : List Field) (scalars : List Scalar) (nodes : List Data) → members_of k (bare t) fs scalars nodes ≡ members_of k t fs scalars nodes
members_bare k t [] scalars nodes = refl
members_bare k t (field name (keeps s) ∷ fs) scalars nodes = ap (put_scalar name (first_scalar scalars)) (members_bare k t fs (others scalars) nodes)
members_bare k t (field name (checks c) ∷ fs) scalars nodes = ap₂ (λ s ms. put name (scalar_data s) ms) (check_bare c k t) (members_bare k t fs scalars nodes)
members_bare k t (field name (a_key keys) ∷ fs) scalars nodes = ap (put name (key_beside (first_scalar scalars) (first_or_null nodes))) (members_bare k t fs (others scalars) (others nodes))
members_bare k t (field name sort ∷ fs) scalars nodes = ap (put name (first_or_null nodes)) (members_bare k t fs scalars (others nodes))

row_bare : (k : Kind) (t : Forest) (nodes : List Data) (r : Option Row) → row_data k (bare t) nodes r ≡ row_data k t nodes r
row_bare k t nodes None = refl
row_bare k t nodes (Some r) = ap (λ ms. object (put (codes "type") (string (type_name (type_of r))) ms)) (members_bare k t (fields_of r) (scalars_of k) nodes)

node_bare : (k : Kind) (t : Forest) (nodes : List Data) → node_data k (bare t) nodes ≡ node_data k t nodes
node_bare (literal (tree.Number (negsuc n))) t nodes = refl
node_bare hole t nodes = refl
node_bare k t nodes = row_bare k t nodes (row_of k)

rows_bare : (t : Forest) → row_datas (bare t) ≡ row_datas t
rows_bare nothing = refl
rows_bare (node k n below rest) = ap₂ (λ (d : Data) (ds : List Data). d ∷ ds) (node_bare k below (row_datas (bare below)) ∙ ap (node_data k below) (rows_bare below)) (rows_bare rest)
rows_bare (absent rest) = ap (λ ds. null ∷ ds) (rows_bare rest)

pub data_bare : (t : Forest) → data_of (bare t) ≡ data_of t
data_bare t = ap first_or_null (rows_bare t)
