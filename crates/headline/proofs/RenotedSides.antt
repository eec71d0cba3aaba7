-- Whether both sides of an operation act, or a text stands beside one that does, whether a template has texts, and which keys and values of an object literal act,
-- doesn't see notes.
use Rattle.std.proofs.Common.{◌≡◌, ◌∙◌, get_or, suc, ◌==◌, Bool, true, false, not, ◌&&◌, ◌||◌, Option, Some, None, is_some, if◌then◌else◌, refl, sym, ap, ap₂}
use Rattle.js_syntax.specs.declared.node_kind.NodeKind.{NodeKind as Kind}
use Rattle.js_syntax.specs.declared.node_kind.NodeKind.TheVariants.{BinaryExpression as binary_expression, SequenceExpression as sequence_expression, Expressions as expressions, ObjectExpression as object_expression, Properties as properties, Property as property, TemplateLiteral as template_literal, Quasis as quasis}
use Rattle.js_syntax.specs.declared.kind.PropertyKind.{PropertyKind}
use Rattle.js_syntax.specs.declared.kind.PropertyKind.TheVariants as property_kind
use Rattle.js_syntax.specs.declared.operator.BinaryOperator.TheVariants.{Addition as addition}
use Rattle.js_syntax.specs.declared.value.Key.{Key}
use Rattle.js_syntax.specs.declared.value.Key.TheVariants as key_form
use Rattle.js_syntax.specs.Core.{is_plain_property}
use Rattle.js_syntax.specs.Node.{Forest, Tree, Note, nothing, node, absent, alone, joined, nowhere, bare}
use Rattle.form_rules.specs.Rules.{length_of}
use Rattle.js_effects.specs.declared.value.ValueType.TheVariants.{Undetermined}
use Rattle.js_effects.specs.Kinds.{is_primitive, type_at}
use Rattle.js_effects.specs.Silence.{only_combines}
use Rattle.js_tree.specs.Walk.{is_list}
use Rattle.scope_laws.proofs.Notes.{unseen}
use Rattle.steps.specs.Allowed.Uses.{as_value}
use Rattle.steps.specs.Allowed.UnusedOperation.{acts}
use Rattle.steps.specs.Allowed.UnusedList.{acting, as_one}
use Rattle.steps.specs.Allowed.TwoSides.{empty_text, is_empty_text, is_text_type, gives_text, has_text, has_texts, is_whole, without_texts, text_emptied, two_sides}
use Rattle.steps.specs.Allowed.UnusedObject.{comes_out, is_computed, comes_apart, all_come_apart, keys_and_values, object_becomes}
use Rattle.headline.proofs.RenotedUnused.{stands_bare_bare, acts_bare, combines_bare, acting_bare, as_one_bare, some_if, some_tree}
use Rattle.headline.proofs.RenotedKnown.{types_bare}

-- ---- both sides

some_or : (b : Bool) (y : Tree) (o : Option Tree) → is_some {T = Tree} (if b then Some y else o) ≡ (b || is_some o)
some_or true y o = refl
some_or false y o = refl

abbrev sum : (n : Note) → (sides : Forest) → Tree
sum n sides = record { kind = binary_expression addition; note = n; below = sides }

gives_bare : (k : Kind) (n : Note) (a : Forest) → gives_text k nowhere (bare a) ≡ gives_text k n a
gives_bare k n a = ap₂ (λ x y. not (is_empty_text k) && (not (x || is_list k) && is_text_type y)) (acts_bare k n a) (ap (λ ts. get_or ts 0 Undetermined) (types_bare (alone k n a)))

texts_bare : (t : Forest) → has_texts (bare t) ≡ has_texts t
texts_bare nothing = refl
texts_bare (absent t) = texts_bare t
texts_bare (node k n a t) = ap (λ b. has_text k || b) (texts_bare t)

length_bare : (t : Forest) → length_of (bare t) ≡ length_of t
length_bare nothing = refl
length_bare (absent t) = length_bare t
length_bare (node k n a t) = ap suc (length_bare t)

whole_bare : (t parts : Forest) → is_whole (bare t) (bare parts) ≡ is_whole t parts
whole_bare t parts = ap₂ (λ i j. i == suc j) (length_bare t) (length_bare parts)

abbrev template : (n : Note) → (parts : Forest) → Tree
template n parts = record { kind = template_literal; note = n; below = parts }

text_bare : (n : Note) (k : Kind) (t : Forest) → is_some (text_emptied n k (bare t)) ≡ is_some (text_emptied n k t)
text_bare n (binary_expression addition) (node k i a (node l j b nothing)) =
    some_or (gives_text k nowhere (bare a) && acts l nowhere (bare b)) (sum n (node empty_text nowhere nothing (node l nowhere (bare b) nothing))) (if gives_text l nowhere (bare b) && acts k nowhere (bare a) then Some (sum n (node k nowhere (bare a) (node empty_text nowhere nothing nothing))) else None)
    ∙ ap₂ (λ x y. x || y) (ap₂ (λ x y. x && y) (gives_bare k i a) (acts_bare l j b))
    (some_if (gives_text l nowhere (bare b) && acts k nowhere (bare a)) (sum n (node k nowhere (bare a) (node empty_text nowhere nothing nothing)))
    ∙ ap₂ (λ x y. x && y) (gives_bare l j b) (acts_bare k i a)
    ∙ sym (some_if (gives_text l j b && acts k i a) (sum n (node k i a (node empty_text j nothing nothing)))))
    ∙ sym (some_or (gives_text k i a && acts l j b) (sum n (node empty_text i nothing (node l j b nothing))) (if gives_text l j b && acts k i a then Some (sum n (node k i a (node empty_text j nothing nothing))) else None))
text_bare n template_literal (node quasis h t (node expressions j parts nothing)) =
    some_if (has_texts (bare t) && is_whole (bare t) (bare parts)) (template n (node quasis nowhere (without_texts (bare t)) (node expressions nowhere (bare parts) nothing))) ∙ ap₂ (λ b c. b && c) (texts_bare t) (whole_bare t parts)
    ∙ sym (some_if (has_texts t && is_whole t parts) (template n (node quasis h (without_texts t) (node expressions j parts nothing))))
text_bare n k t = refl

sides_bare : (n m : Note) (k : Kind) (t : Forest) → is_some (two_sides n m k (bare t)) ≡ is_some (two_sides n m k t)
sides_bare n m (binary_expression o) (node k i a (node l j b nothing)) =
    some_or (only_combines (binary_expression o) (node k nowhere (bare a) (node l nowhere (bare b) nothing)) && (acts k nowhere (bare a) && acts l nowhere (bare b))) (record { kind = sequence_expression; note = n; below = node expressions m (node k nowhere (bare a) (node l nowhere (bare b) nothing)) nothing })
    (text_emptied n (binary_expression o) (node k nowhere (bare a) (node l nowhere (bare b) nothing)))
    ∙ ap₂ (λ x y. x || y) (ap₂ (λ c x. c && x) (combines_bare (binary_expression o) (node k i a (node l j b nothing))) (ap₂ (λ x y. x && y) (acts_bare k i a) (acts_bare l j b))) (text_bare n (binary_expression o) (node k i a (node l j b nothing)))
    ∙ sym (some_or (only_combines (binary_expression o) (node k i a (node l j b nothing)) && (acts k i a && acts l j b)) (record { kind = sequence_expression; note = n; below = node expressions m (node k i a (node l j b nothing)) nothing })
    (text_emptied n (binary_expression o) (node k i a (node l j b nothing))))
sides_bare n m template_literal t = text_bare n template_literal t
sides_bare n m k t = refl

pub two_sides_as : (n m : Note) (k : Kind) (f g : Forest) (y : Tree) → bare f ≡ bare g → two_sides n m k g ≡ Some y → (z : Tree) × (two_sides n m k f ≡ Some z)
two_sides_as n m k f g y e h = some_tree (two_sides n m k f) (unseen (λ t. is_some (two_sides n m k t)) (sides_bare n m k) f g e ∙ ap is_some h)

-- ---- keys and values that act

comes_bare : (is_method : Bool) (k : Kind) (n : Note) (t : Forest) → comes_out is_method k nowhere (bare t) ≡ comes_out is_method k n t
comes_bare is_method k n t = ap₂ (λ x y. not x || (not is_method && y)) (acts_bare k n t) (stands_bare_bare as_value false k t)

computed_bare : (how : PropertyKind) (key : Key) (t : Forest) → is_computed how key (bare t) ≡ is_computed how key t
computed_bare property_kind.Init key_form.Below t = ap (λ ts. is_primitive (type_at 0 ts)) (types_bare t)
computed_bare how key t = refl

property_bare : (k : Kind) (t : Forest) → comes_apart k (bare t) ≡ comes_apart k t
property_bare (property how is_method key) (absent (node k m a nothing)) = ap (λ x. is_plain_property how key && x) (comes_bare is_method k m a)
property_bare (property how is_method key) (node j i b (node k m a nothing)) =
    ap₂ (λ x y. x && y) (computed_bare how key (alone j i b)) (ap₂ (λ x y. x && y) (comes_bare is_method j i b) (comes_bare is_method k m a))
property_bare k t = refl

apart_bare : (t : Forest) → all_come_apart (bare t) ≡ all_come_apart t
apart_bare nothing = refl
apart_bare (absent rest) = refl
apart_bare (node k n below rest) = ap₂ (λ x y. x && y) (property_bare k below) (apart_bare rest)

joined_bare : (t u : Forest) → bare (joined t u) ≡ joined (bare t) (bare u)
joined_bare nothing u = refl
joined_bare (absent t) u = ap absent (joined_bare t u)
joined_bare (node k n b t) u = ap (node k nowhere (bare b)) (joined_bare t u)

parts_bare : (t : Forest) → keys_and_values (bare t) ≡ bare (keys_and_values t)
parts_bare nothing = refl
parts_bare (absent rest) = parts_bare rest
parts_bare (node k n below rest) = ap (joined (bare below)) (parts_bare rest) ∙ sym (joined_bare below (keys_and_values rest))

if_apart : (n m : Note) (b : Bool) (left : Forest) → is_some (if b then as_one n m (bare left) else None) ≡ is_some (if b then as_one n m left else None)
if_apart n m true left = as_one_bare n m left
if_apart n m false left = refl

object_bare : (n m : Note) (k : Kind) (t : Forest) → is_some (object_becomes n m k (bare t)) ≡ is_some (object_becomes n m k t)
object_bare n m object_expression (node properties i es nothing) =
    let parts = keys_and_values es in
    ap₂ (λ b ps. is_some (if b then as_one n m ps else None)) (apart_bare es) (ap acting (parts_bare es) ∙ acting_bare parts) ∙ if_apart n m (all_come_apart es) (acting parts)
object_bare n m k t = refl

pub object_as : (n m : Note) (k : Kind) (f g : Forest) (y : Tree) → bare f ≡ bare g → object_becomes n m k g ≡ Some y → (z : Tree) × (object_becomes n m k f ≡ Some z)
object_as n m k f g y e h = some_tree (object_becomes n m k f) (unseen (λ t. is_some (object_becomes n m k t)) (object_bare n m k) f g e ∙ ap is_some h)
