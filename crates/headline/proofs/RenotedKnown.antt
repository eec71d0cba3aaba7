-- The value of an operation doesn't see notes: names alone have any that count, and nothing is known of names.
use Rattle.std.proofs.Common.{◌≡◌, ◌∙◌, ℕ, zero, suc, List, ◌∷◌, Bool, true, false, not, ◌&&◌, ◌||◌, Option, Some, None, get_or, if◌then◌else◌, refl, sym, ap, ap₂}
use Rattle.js_syntax.specs.declared.node_kind.NodeKind.{NodeKind as Kind}
use Rattle.js_syntax.specs.declared.node_kind.NodeKind.TheVariants.{UnaryExpression as unary_expression, BinaryExpression as binary_expression}
use Rattle.js_syntax.specs.declared.operator.AssignmentOperator.TheVariants as assignment
use Rattle.js_syntax.specs.declared.value.LiteralValue.{LiteralValue}
use Rattle.js_syntax.specs.Node.{Forest, Note, nothing, node, absent, alone, nowhere, bare}
use Rattle.js_effects.specs.declared.value.ValueType.{ValueType}
use Rattle.js_effects.specs.declared.value.ValueType.TheVariants.{Undefined, Undetermined}
use Rattle.js_effects.specs.declared.value.ConstantValue.TheVariants as constant
use Rattle.js_effects.specs.Answers.{bare_answers}
use Rattle.js_effects.specs.Each.{of_each, is_parenthesized, inner_from, inner_at}
use Rattle.js_effects.specs.Kinds.{is_named_undefined, type_by_number, type_from, types, type_at}
use Rattle.js_effects.specs.Values.{Known, exactly, unknown, truth, value, value_of, known_by_number, known_from, knowns, known_at, text_of, unary_known, binary_known}
use Rattle.js_syntax.specs.declared.operator.LogicalOperator.{LogicalOperator}
use Rattle.js_syntax.specs.declared.operator.LogicalOperator.TheVariants.{And, Or, Coalesce}
use Rattle.js_tree.specs.Walk.{is_list}
use Rattle.known_tests.specs.Tells.{nullish_type, opposite, way_known}
use Rattle.steps.specs.Allowed.KnownConditional.{truth_known}
use Rattle.steps.specs.Allowed.KnownSide.{side_known}
use Rattle.steps.specs.Allowed.Untaken.{truth_given}
use Rattle.steps.specs.Allowed.KnownOperation.{has_operand, as_literal, known_literal, as_negative, is_literal, gives_negative, known_negative}
use Rattle.headline.proofs.RenotedUnused.{acts_bare}

-- ---- types

no_type : (o : Option ℕ) → type_by_number (λ i. None) o ≡ Undetermined
no_type (Some i) = refl
no_type None = refl

same_type : (k : Kind) (n m : Note) (a b : Forest) (ts : List ValueType) → type_from bare_answers k n a ts ≡ type_from bare_answers k m b ts
same_type (Kind.ReferenceName x) n m a b ts = ap (λ (t : ValueType). if is_named_undefined (Kind.ReferenceName x) && false then Undefined else t) (no_type n.id ∙ sym (no_type m.id))
same_type (Kind.AssignmentExpression assignment.Assign) n m a b ts = refl
same_type (Kind.AssignmentExpression o) n m a b ts = refl
same_type k n m a b ts = refl

pub types_bare : (t : Forest) → types bare_answers (bare t) ≡ types bare_answers t
types_bare nothing = refl
types_bare (absent r) = ap (λ (ts : List ValueType). Undetermined ∷ ts) (types_bare r)
types_bare (node k n a r) =
    ap₂ (λ (t : ValueType) (ts : List ValueType). t ∷ ts) (ap (type_from bare_answers k nowhere (bare a)) (types_bare a) ∙ same_type k nowhere n (bare a) a (types bare_answers a)) (types_bare r)

-- ---- values

text_by : (p : Bool) (k : Kind) (n : Note) (a : Forest) → text_of (inner_at 0 (bare a)) ≡ text_of (inner_at 0 a)
    → text_of (if p then get_or (of_each inner_from None (bare a)) 0 None else Some (record { kind = k; note = nowhere; below = bare a }))
    ≡ text_of (if p then get_or (of_each inner_from None a) 0 None else Some (record { kind = k; note = n; below = a }))
text_by true k n a same = same
text_by false k n a same = refl

text_bare : (i : ℕ) (t : Forest) → text_of (inner_at i (bare t)) ≡ text_of (inner_at i t)
text_bare i nothing = refl
text_bare zero (absent r) = refl
text_bare (suc i) (absent r) = text_bare i r
text_bare (suc i) (node k n a r) = text_bare i r
text_bare zero (node k n a r) = text_by (is_parenthesized k) k n a (text_bare 0 a)

no_known : (o : Option ℕ) → known_by_number (λ i. None) o ≡ unknown
no_known (Some i) = refl
no_known None = refl

same_known : (k : Kind) (n m : Note) (a : Forest) (ks : List Known) → known_from bare_answers k n (bare a) ks ≡ known_from bare_answers k m a ks
same_known (Kind.ReferenceName x) n m a ks = ap (λ (t : Known). if is_named_undefined (Kind.ReferenceName x) && false then exactly constant.Undefined else t) (no_known n.id ∙ sym (no_known m.id))
same_known (Kind.UnaryExpression o) n m a ks = ap (λ ts. unary_known o (type_at 0 ts) (known_at 0 ks)) (types_bare a)
same_known (Kind.BinaryExpression o) n m a ks = ap₂ (λ x y. binary_known o x y (known_at 0 ks) (known_at 1 ks)) (text_bare 0 a) (text_bare 1 a)
same_known (Kind.AssignmentExpression assignment.Assign) n m a ks = refl
same_known (Kind.AssignmentExpression o) n m a ks = refl
same_known k n m a ks = refl

knowns_bare : (t : Forest) → knowns bare_answers (bare t) ≡ knowns bare_answers t
knowns_bare nothing = refl
knowns_bare (absent r) = ap (λ (ks : List Known). unknown ∷ ks) (knowns_bare r)
knowns_bare (node k n a r) =
    ap₂ (λ (j : Known) (ks : List Known). j ∷ ks) (ap (known_from bare_answers k nowhere (bare a)) (knowns_bare a) ∙ same_known k nowhere n a (knowns bare_answers a)) (knowns_bare r)

value_bare : (k : Kind) (n : Note) (t : Forest) → value_of bare_answers (alone k nowhere (bare t)) ≡ value_of bare_answers (alone k n t)
value_bare k n t = ap value (ap (known_from bare_answers k nowhere (bare t)) (knowns_bare t) ∙ same_known k nowhere n t (knowns bare_answers t))

-- ---- the literal

operand_bare : (t : Forest) → has_operand (bare t) ≡ has_operand t
operand_bare nothing = refl
operand_bare (absent r) = refl
operand_bare (node k n a r) = refl

known_bare : (k : Kind) (n : Note) (t : Forest) → known_literal k nowhere (bare t) ≡ known_literal k n t
known_bare (unary_expression o) n t =
    ap₂ (λ (b : Bool) v. if b then None else as_literal v) (ap₂ (λ (b c : Bool). b || not c) (acts_bare (unary_expression o) n t) (operand_bare t)) (value_bare (unary_expression o) n t)
known_bare (binary_expression o) n t = ap₂ (λ (b : Bool) v. if b then None else as_literal v) (acts_bare (binary_expression o) n t) (value_bare (binary_expression o) n t)
known_bare k n t = refl

pub known_as : (k : Kind) (n m : Note) (f g : Forest) (v : LiteralValue) → bare f ≡ bare g → known_literal k m g ≡ Some v → known_literal k n f ≡ Some v
known_as k n m f g v e h = sym (known_bare k n f) ∙ ap (known_literal k nowhere) e ∙ known_bare k m g ∙ h

-- ---- the negative number

literal_bare : (t : Forest) → is_literal (bare t) ≡ is_literal t
literal_bare nothing = refl
literal_bare (absent r) = refl
literal_bare (node (Kind.Literal v) n a r) = refl
literal_bare (node k n a r) = refl

gives_bare : (k : Kind) (t : Forest) → gives_negative k (bare t) ≡ gives_negative k t
gives_bare (unary_expression o) t = ap₂ (λ (b c : Bool). b && not c) (operand_bare t) (literal_bare t)
gives_bare (binary_expression o) t = operand_bare t
gives_bare k t = refl

negative_bare : (k : Kind) (n : Note) (t : Forest) → known_negative k nowhere (bare t) ≡ known_negative k n t
negative_bare k n t = ap₂ (λ (b : Bool) v. if b then None else as_negative v) (ap₂ (λ (b c : Bool). b || not c) (acts_bare k n t) (gives_bare k t)) (value_bare k n t)

pub negative_as : (k : Kind) (n m : Note) (f g : Forest) (i : ℕ) → bare f ≡ bare g → known_negative k m g ≡ Some i → known_negative k n f ≡ Some i
negative_as k n m f g i e h = sym (negative_bare k n f) ∙ ap (known_negative k nowhere) e ∙ negative_bare k m g ∙ h

-- ---- tests, and left sides

pub given_bare : (k : Kind) (n : Note) (t : Forest) → truth_given k nowhere (bare t) ≡ truth_given k n t
given_bare k n t = ap truth (ap (known_from bare_answers k nowhere (bare t)) (knowns_bare t) ∙ same_known k nowhere n t (knowns bare_answers t))

pub truth_bare : (k : Kind) (n : Note) (t : Forest) → truth_known k nowhere (bare t) ≡ truth_known k n t
truth_bare k n t = ap₂ (λ (b : Bool) (o : Option Bool). if b || is_list k then None else o) (acts_bare k n t) (given_bare k n t)

pub truth_as : (k : Kind) (n m : Note) (f g : Forest) (b : Bool) → bare f ≡ bare g → truth_known k m g ≡ Some b → truth_known k n f ≡ Some b
truth_as k n m f g b e h = sym (truth_bare k n f) ∙ ap (truth_known k nowhere) e ∙ truth_bare k m g ∙ h

pub way_bare : (o : LogicalOperator) (k : Kind) (n : Note) (t : Forest) → way_known o (alone k nowhere (bare t)) ≡ way_known o (alone k n t)
way_bare And k n t = given_bare k n t
way_bare Or k n t = ap opposite (given_bare k n t)
way_bare Coalesce k n t = ap nullish_type (ap (type_from bare_answers k nowhere (bare t)) (types_bare t) ∙ same_type k nowhere n (bare t) t (types bare_answers t))

pub side_bare : (o : LogicalOperator) (k : Kind) (n : Note) (t : Forest) → side_known o k nowhere (bare t) ≡ side_known o k n t
side_bare o k n t = ap₂ (λ (b : Bool) (w : Option Bool). if b || is_list k then None else w) (acts_bare k n t) (way_bare o k n t)

pub side_as : (o : LogicalOperator) (k : Kind) (n m : Note) (f g : Forest) (b : Bool) → bare f ≡ bare g → side_known o k m g ≡ Some b → side_known o k n f ≡ Some b
side_as o k n m f g b e h = sym (side_bare o k n f) ∙ ap (side_known o k nowhere) e ∙ side_bare o k m g ∙ h
