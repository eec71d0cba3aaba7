-- What is written of a tree doesn't depend on whether its negative numbers are unary minus on their magnitudes.
use Rattle.std.proofs.Common.{◌≡◌, ◌∙◌, ℕ, suc, pos, negsuc, List, [], ◌∷◌, Bool, false, ◌&&◌, ◌||◌, not, Option, Some, None, refl, sym, ap, ap₂, codes, arith}
use Rattle.serde_json.specs.Data.{Data, null, string, object, put}
use Rattle.js_syntax.specs.declared.node_kind.NodeKind.{NodeKind as Kind}
use Rattle.js_syntax.specs.declared.node_kind.NodeKind.TheVariants.{Literal as literal, UnaryExpression as unary_expression, Hole as hole, Property as property, BindingProperty as binding_property, TargetProperty as target_property}
use Rattle.js_syntax.specs.declared.operator.UnaryOperator.TheVariants.{UnaryNegation as unary_negation}
use Rattle.js_syntax.specs.declared.value.Key.{Key}
use Rattle.js_syntax.specs.declared.value.Key.TheVariants.{Name as key_name}
use Rattle.js_syntax.specs.declared.value.LiteralValue.TheVariants as tree
use Rattle.js_syntax.specs.Field.{Hint, is_computed, is_expression, is_shorthand, Check, hint, keeps, checks, a_key, Field, field}
use Rattle.js_syntax.specs.Hint.{has, is_private, is_function_body, has_key_below, is_arrow, is_default, is_name, first_is, has_value_named, is_named_by, is_short, says}
use Rattle.js_syntax.specs.Node.{Note, Forest, nothing, node, absent, alone, nowhere, total}
use Rattle.js_syntax.specs.Scalar.{Scalar}
use Rattle.js_syntax.specs.Table.{Row, fields_of, type_of}
use Rattle.js_syntax.specs.Name.{type_name}
use Rattle.js_syntax.specs.Facts.{row_of, scalars_of}
use Rattle.json_text.specs.Text.{check_scalar, scalar_data, put_scalar, key_beside, first_scalar, first_or_null, others, members_of, row_data, node_data, row_datas, data_of}
use Rattle.json_kept.specs.Respelled.{negative}
use Rattle.js_meaning_near.specs.Signed.{signed}
use Rattle.js_meaning_near.proofs.Signed.{Sign, is_number, is_other, sign_of}

-- ---- what a node says of what lies below it

-- what neither literals nor unary minus is
pub record Passes (test : Kind → Bool) : Type 0 where
  pub number : (i : ℕ) → test (literal (tree.Number (negsuc i))) ≡ false
  pub minus : test (unary_expression unary_negation) ≡ false

-- of one node before a row, as it is and with its sign applied
row_with : (F : Forest → Bool) (k : Kind) (a : Forest) → Sign k a → (n : Note) (rest : Forest) → ((i : ℕ) → F (node (unary_expression unary_negation) n (alone (literal (tree.Number (pos (suc i)))) nowhere nothing) (signed rest)) ≡ F (node (literal (tree.Number (negsuc i))) n nothing rest))
    → F (node k n (signed a) (signed rest)) ≡ F (node k n a rest) → F (signed (node k n a rest)) ≡ F (node k n a rest)
row_with F _ _ (is_number {i = i}) n rest number other = number i
row_with F k a (is_other is) n rest number other = ap F (is n rest) ∙ other

pub has_signed : (test : Kind → Bool) → Passes test → (t : Forest) → has test (signed t) ≡ has test t
has_signed test p nothing = refl
has_signed test p (absent rest) = has_signed test p rest
has_signed test p (node k n a rest) =
    let later = has_signed test p rest in
    row_with (has test) k a (sign_of k a) n rest (λ i. ap₂ (λ (x y : Bool). x || y) (p.minus ∙ sym (p.number i)) later) (ap (λ (b : Bool). test k || b) later)

first_is_signed : (test : Kind → Bool) → Passes test → (t : Forest) → first_is test (signed t) ≡ first_is test t
first_is_signed test p nothing = refl
first_is_signed test p (absent rest) = refl
first_is_signed test p (node k n a rest) = row_with (first_is test) k a (sign_of k a) n rest (λ i. p.minus ∙ sym (p.number i)) refl

names_pass : (s : List ℕ) → Passes (is_name s)
names_pass s = record { number = λ i. refl; minus = refl }

value_named_signed : (s : List ℕ) (t : Forest) → has_value_named s (signed t) ≡ has_value_named s t
value_named_signed s nothing = refl
value_named_signed s (absent rest) = value_named_signed s rest
value_named_signed s (node k n a rest) =
    row_with (has_value_named s) k a (sign_of k a) n rest (λ i. refl) (ap (λ (b : Bool). is_name s k || (is_default k && b)) (first_is_signed (is_name s) (names_pass s) a))

named_by_signed : (key : Key) (t : Forest) → is_named_by key (signed t) ≡ is_named_by key t
named_by_signed (key_name s) t = value_named_signed s t
named_by_signed key t = refl

short_signed : (k : Kind) (t : Forest) → is_short k (signed t) ≡ is_short k t
short_signed (property how method key) t = named_by_signed key t
short_signed (binding_property key) t = named_by_signed key t
short_signed (target_property key) t = named_by_signed key t
short_signed k t = refl

pub private_signed : (t : Forest) → has is_private (signed t) ≡ has is_private t
private_signed t = has_signed is_private (record { number = λ i. refl; minus = refl }) t

says_signed : (h : Hint) (k : Kind) (t : Forest) → says h k (signed t) ≡ says h k t
says_signed is_computed k t = ap (λ (b : Bool). has_key_below k && not b) (private_signed t)
says_signed is_expression k t = ap (λ (b : Bool). is_arrow k && not b) (has_signed is_function_body (record { number = λ i. refl; minus = refl }) t)
says_signed is_shorthand k t = short_signed k t

check_signed : (c : Check) (k : Kind) (t : Forest) → check_scalar c k (signed t) ≡ check_scalar c k t
check_signed (hint h) k t = ap Scalar.the_flag (says_signed h k t)
check_signed c k t = refl

-- ---- nodes

members_signed : (k : Kind) (t : Forest) (fs : List Field) (scalars : List Scalar) (nodes : List Data) → members_of k (signed t) fs scalars nodes ≡ members_of k t fs scalars nodes
members_signed k t [] scalars nodes = refl
members_signed k t (field name (keeps s) ∷ fs) scalars nodes = ap (put_scalar name (first_scalar scalars)) (members_signed k t fs (others scalars) nodes)
members_signed k t (field name (checks c) ∷ fs) scalars nodes = ap₂ (λ s ms. put name (scalar_data s) ms) (check_signed c k t) (members_signed k t fs scalars nodes)
members_signed k t (field name (a_key keys) ∷ fs) scalars nodes = ap (put name (key_beside (first_scalar scalars) (first_or_null nodes))) (members_signed k t fs (others scalars) (others nodes))
members_signed k t (field name sort ∷ fs) scalars nodes = ap (put name (first_or_null nodes)) (members_signed k t fs scalars (others nodes))

row_signed : (k : Kind) (t : Forest) (nodes : List Data) (r : Option Row) → row_data k (signed t) nodes r ≡ row_data k t nodes r
row_signed k t nodes None = refl
row_signed k t nodes (Some r) = ap (λ ms. object (put (codes "type") (string (type_name (type_of r))) ms)) (members_signed k t (fields_of r) (scalars_of k) nodes)

node_signed : (k : Kind) (t : Forest) (nodes : List Data) → node_data k (signed t) nodes ≡ node_data k t nodes
node_signed (literal (tree.Number (negsuc n))) t nodes = refl
node_signed hole t nodes = refl
node_signed k t nodes = row_signed k t nodes (row_of k)

one_signed : (k : Kind) (a : Forest) → Sign k a → (n : Note) (rest : Forest) → row_datas (signed a) ≡ row_datas a → row_datas (signed rest) ≡ row_datas rest → row_datas (signed (node k n a rest)) ≡ row_datas (node k n a rest)
one_signed _ _ (is_number {i = i}) n rest below later = ap (λ ds. node_data (literal (tree.Number (negsuc i))) nothing [] ∷ ds) later
one_signed k a (is_other is) n rest below later =
    ap row_datas (is n rest) ∙ ap₂ (λ (d : Data) (ds : List Data). d ∷ ds) (node_signed k a (row_datas (signed a)) ∙ ap (node_data k a) below) later

pub rows_signed : (t : Forest) → row_datas (signed t) ≡ row_datas t
rows_signed nothing = refl
rows_signed (absent rest) = ap (λ ds. null ∷ ds) (rows_signed rest)
rows_signed (node k n a rest) = one_signed k a (sign_of k a) n rest (rows_signed a) (rows_signed rest)

pub data_signed : (t : Forest) → data_of (signed t) ≡ data_of t
data_signed t = ap first_or_null (rows_signed t)

-- ---- where no number is negative

itself : (k : Kind) (a : Forest) → Sign k a → (n : Note) (rest : Forest) → total negative (node k n a rest) ≡ 0 → signed a ≡ a → signed rest ≡ rest → signed (node k n a rest) ≡ node k n a rest
itself _ _ (is_number {i = i}) n rest none below later = absurd (omega (arith, none))
itself k a (is_other is) n rest none below later = is n rest ∙ ap₂ (λ (b r : Forest). node k n b r) below later

pub signed_itself : (t : Forest) → total negative t ≡ 0 → signed t ≡ t
signed_itself nothing none = refl
signed_itself (absent rest) none = ap absent (signed_itself rest none)
signed_itself (node k n a rest) none = itself k a (sign_of k a) n rest none (signed_itself a (omega (arith, none))) (signed_itself rest (omega (arith, none)))
