-- What a number weighs that is known, beside the expression that gives it.
use Rattle.std.proofs.Common.{◌≡◌, ◌≤◌, ◌<◌, ◌+◌, ℕ, ℤ, zero, suc, pos, negsuc, List, Bool, true, false, not, ◌&&◌, ◌||◌, Option, Some, None, if◌then◌else◌, arith, refl, sym, subst, true≢false}
use Rattle.std.specs.Prelude.{◌+ℤ◌, ◌-ℤ◌, ◌*ℤ◌, neg_ℤ, unsigned_abs, int_div, int_rem, nat_le}
use Rattle.js_syntax.specs.Core.{value_weight}
use Rattle.js_syntax.specs.Facts.{weight}
use Rattle.js_syntax.specs.declared.node_kind.NodeKind.{NodeKind as Kind}
use Rattle.js_syntax.specs.declared.value.LiteralValue.{LiteralValue}
use Rattle.js_syntax.specs.declared.value.LiteralValue.TheVariants as value
use Rattle.js_syntax.specs.declared.operator.UnaryOperator.{UnaryOperator}
use Rattle.js_syntax.specs.declared.operator.UnaryOperator.TheVariants as unary
use Rattle.js_syntax.specs.declared.operator.BinaryOperator.{BinaryOperator}
use Rattle.js_syntax.specs.declared.operator.BinaryOperator.TheVariants as binary
use Rattle.js_syntax.specs.Node.{Note, Forest, nothing, node, absent, alone, total}
use Rattle.js_syntax.specs.declared.node_kind.NodeKind.TheVariants.{UnaryExpression as unary_expression, BinaryExpression as binary_expression}
use Rattle.js_tree.specs.Walk.{is_list}
use Rattle.js_effects.specs.declared.value.ConstantValue.TheVariants as constant
use Rattle.scope_laws.proofs.Bindings.{same_value}
use Rattle.steps.specs.Allowed.KnownOperation.{as_negative, is_literal, gives_negative}
use Rattle.js_effects.specs.declared.value.ValueType.{ValueType}
use Rattle.js_effects.specs.declared.value.ValueType.TheVariants as type
use Rattle.js_effects.specs.Answers.{bare_answers}
use Rattle.js_effects.specs.Each.{last, inner_at}
use Rattle.js_effects.specs.Kinds.{types, type_at}
use Rattle.js_effects.specs.Values as known
use Rattle.js_effects.specs.Values.{Known, exactly, unknown, value as value_known, value_of, truth, tested, negated, joined, is_exact, is_addition, on_numbers, on_known_numbers, on_values, text_of, binary_known, typeof_known, minus_known, plus_known, unary_known, known_from, knowns, known_at}

-- what its magnitude weighs as a literal
abbrev pub size : ℤ → ℕ
size z = value_weight (value.Number (pos (unsigned_abs z)))

pub size_at_most : (z : ℤ) → size z ≤ 4
size_at_most (pos zero) = Prim.omega arith
size_at_most (pos (suc zero)) = Prim.omega arith
size_at_most (pos (suc (suc n))) = Prim.omega arith
size_at_most (negsuc zero) = Prim.omega arith
size_at_most (negsuc (suc n)) = Prim.omega arith

pub size_at_least : (z : ℤ) → 1 ≤ size z
size_at_least (pos zero) = Prim.omega arith
size_at_least (pos (suc zero)) = Prim.omega arith
size_at_least (pos (suc (suc n))) = Prim.omega arith
size_at_least (negsuc zero) = Prim.omega arith
size_at_least (negsuc (suc n)) = Prim.omega arith

-- ---- arithmetic makes no number heavier than both operands

past_zero : (n : ℕ) → 2 ≤ size (pos (suc n))
past_zero zero = Prim.omega arith
past_zero (suc n) = Prim.omega arith

below_zero : (n : ℕ) → 2 ≤ size (negsuc n)
below_zero zero = Prim.omega arith
below_zero (suc n) = Prim.omega arith

-- what does so where one of them is zero, and the other one at most
record IsSpare (f : ℤ → ℤ → ℤ) : Type 0 where
  on_zeros : size (f (pos zero) (pos zero)) ≤ 2
  on_second : size (f (pos zero) (pos 1)) ≤ 3
  on_negative_second : size (f (pos zero) (negsuc zero)) ≤ 3
  on_first : size (f (pos 1) (pos zero)) ≤ 3
  on_negative_first : size (f (negsuc zero) (pos zero)) ≤ 3

module _ (f : ℤ → ℤ → ℤ) (spare : IsSpare f) where
  spares : (a b : ℤ) → size (f a b) ≤ size a + size b
  spares (pos zero) (pos zero) = Prim.omega (arith, spare.on_zeros)
  spares (pos zero) (pos (suc zero)) = Prim.omega (arith, spare.on_second)
  spares (pos zero) (pos (suc (suc n))) = Prim.omega (arith, size_at_most (f (pos zero) (pos (suc (suc n)))))
  spares (pos zero) (negsuc zero) = Prim.omega (arith, spare.on_negative_second)
  spares (pos zero) (negsuc (suc n)) = Prim.omega (arith, size_at_most (f (pos zero) (negsuc (suc n))))
  spares (pos (suc zero)) (pos zero) = Prim.omega (arith, spare.on_first)
  spares (pos (suc zero)) (pos (suc n)) = Prim.omega (arith, size_at_most (f (pos 1) (pos (suc n))), past_zero n)
  spares (pos (suc zero)) (negsuc n) = Prim.omega (arith, size_at_most (f (pos 1) (negsuc n)), below_zero n)
  spares (pos (suc (suc m))) b = Prim.omega (arith, size_at_most (f (pos (suc (suc m))) b))
  spares (negsuc zero) (pos zero) = Prim.omega (arith, spare.on_negative_first)
  spares (negsuc zero) (pos (suc n)) = Prim.omega (arith, size_at_most (f (negsuc zero) (pos (suc n))), past_zero n)
  spares (negsuc zero) (negsuc n) = Prim.omega (arith, size_at_most (f (negsuc zero) (negsuc n)), below_zero n)
  spares (negsuc (suc m)) b = Prim.omega (arith, size_at_most (f (negsuc (suc m)) b))

sum_size : (a b : ℤ) → size (a +ℤ b) ≤ size a + size b
sum_size = spares (λ a b. a +ℤ b) (record { on_zeros = Prim.omega arith; on_second = Prim.omega arith; on_negative_second = Prim.omega arith; on_first = Prim.omega arith; on_negative_first = Prim.omega arith })

difference_size : (a b : ℤ) → size (a -ℤ b) ≤ size a + size b
difference_size = spares (λ a b. a -ℤ b) (record { on_zeros = Prim.omega arith; on_second = Prim.omega arith; on_negative_second = Prim.omega arith; on_first = Prim.omega arith; on_negative_first = Prim.omega arith })

product_size : (a b : ℤ) → size (a *ℤ b) ≤ size a + size b
product_size = spares (λ a b. a *ℤ b) (record { on_zeros = Prim.omega arith; on_second = Prim.omega arith; on_negative_second = Prim.omega arith; on_first = Prim.omega arith; on_negative_first = Prim.omega arith })

quotient_size : (a b : ℤ) → size (int_div a b) ≤ size a + size b
quotient_size = spares int_div (record { on_zeros = Prim.omega arith; on_second = Prim.omega arith; on_negative_second = Prim.omega arith; on_first = Prim.omega arith; on_negative_first = Prim.omega arith })

rest_size : (a b : ℤ) → size (int_rem a b) ≤ size a + size b
rest_size = spares int_rem (record { on_zeros = Prim.omega arith; on_second = Prim.omega arith; on_negative_second = Prim.omega arith; on_first = Prim.omega arith; on_negative_first = Prim.omega arith })

minus_size : (z : ℤ) → size (neg_ℤ z) ≤ size z
minus_size (pos zero) = Prim.omega arith
minus_size (pos (suc zero)) = Prim.omega arith
minus_size (pos (suc (suc n))) = Prim.omega arith
minus_size (negsuc zero) = Prim.omega arith
minus_size (negsuc (suc n)) = Prim.omega arith

-- ---- a number is this much lighter, if one is known

abbrev pub Weighs : (lighter : ℕ) → Known → ℕ → Type 0
Weighs d (exactly (constant.Number z)) w = size z + d ≤ w
Weighs d k w = Unit {0}

module _ (d : ℕ) where
  unless : (b : Bool) (k : Known) (w : ℕ) → Weighs d k w → Weighs d (if b then unknown else k) w
  unless true k w h = tt
  unless false k w h = h

  if_whole : (b : Bool) (z : ℤ) (w : ℕ) → size z + d ≤ w → Weighs d (if b then exactly (constant.Number z) else unknown) w
  if_whole true z w h = h
  if_whole false z w h = tt

  whole_weighs : (z : ℤ) (w : ℕ) → size z + d ≤ w → Weighs d (known.whole z) w
  whole_weighs z w h = if_whole (nat_le (unsigned_abs z) known.largest) z w h

  signed_weighs : (minus : Bool) (z : ℤ) (w : ℕ) → size z + d ≤ w → Weighs d (known.signed minus z) w
  signed_weighs minus z w h = unless (known.is_zero z && minus) (known.whole z) w (whole_weighs z w h)

  more : (k : Known) (v w : ℕ) → v ≤ w → Weighs d k v → Weighs d k w
  more (exactly (constant.Number z)) v w less h = Prim.omega (arith, less, h)
  more k v w less h = tt

  -- no number is heavy
  light : (k : Known) (w : ℕ) → 4 + d ≤ w → Weighs d k w
  light (exactly (constant.Number z)) w h = Prim.omega (arith, h, size_at_most z)
  light k w h = tt

  tested_weighs : (o : Option Bool) (w : ℕ) → Weighs d (tested o) w
  tested_weighs (Some b) w = tt
  tested_weighs None w = tt

  type_weighs : (t : ValueType) (w : ℕ) → Weighs d (typeof_known t) w
  type_weighs type.Undefined w = tt
  type_weighs type.Number w = tt
  type_weighs type.Boolean w = tt
  type_weighs type.String w = tt
  type_weighs t w = tt

  minus_weighs : (k : Known) (w : ℕ) → Weighs d k w → Weighs d (minus_known k) w
  minus_weighs (exactly (constant.Number z)) w h = signed_weighs true (neg_ℤ z) w (Prim.omega (arith, minus_size z, h))
  minus_weighs k w h = tt

  plus_weighs : (k : Known) (w : ℕ) → Weighs d k w → Weighs d (plus_known k) w
  plus_weighs (exactly (constant.Number z)) w h = whole_weighs z w h
  plus_weighs k w h = tt

  unary_weighs : (o : UnaryOperator) (t : ValueType) (k : Known) (w : ℕ) → Weighs d k w → Weighs d (unary_known o t k) w
  unary_weighs unary.LogicalNot t k w h = tested_weighs (negated (truth k)) w
  unary_weighs unary.Typeof t k w h = type_weighs t w
  unary_weighs unary.UnaryNegation t k w h = minus_weighs k w h
  unary_weighs unary.UnaryPlus t k w h = plus_weighs k w h
  unary_weighs o t k w h = tt

  either : (c : Bool) (k l : Known) (w : ℕ) → Weighs d k w → Weighs d l w → Weighs d (if c then k else l) w
  either true k l w h g = h
  either false k l w h g = g

-- ---- binary operators

numbers_weigh : (o : BinaryOperator) (a b : ℤ) → Weighs 0 (on_numbers o a b) (size a + size b)
numbers_weigh binary.Addition a b = whole_weighs 0 (a +ℤ b) (size a + size b) (Prim.omega (arith, sum_size a b))
numbers_weigh binary.Subtraction a b = whole_weighs 0 (a -ℤ b) (size a + size b) (Prim.omega (arith, difference_size a b))
numbers_weigh binary.Multiplication a b = signed_weighs 0 (known.is_negative a || known.is_negative b) (a *ℤ b) (size a + size b) (Prim.omega (arith, product_size a b))
numbers_weigh binary.Division a b =
    unless 0 (known.is_zero b || not (known.is_zero (int_rem a b))) (known.signed (known.is_negative b) (int_div a b)) (size a + size b)
    (signed_weighs 0 (known.is_negative b) (int_div a b) (size a + size b) (Prim.omega (arith, quotient_size a b)))
numbers_weigh binary.Remainder a b =
    unless 0 (known.is_zero b) (known.signed (known.is_negative a) (int_rem a b)) (size a + size b)
    (signed_weighs 0 (known.is_negative a) (int_rem a b) (size a + size b) (Prim.omega (arith, rest_size a b)))
numbers_weigh o a b = tt

known_numbers_weigh : (o : BinaryOperator) (a b : Known) (v w : ℕ) → Weighs 0 a v → Weighs 0 b w → Weighs 0 (on_known_numbers o a b) (v + w)
known_numbers_weigh o (exactly (constant.Number a)) (exactly (constant.Number b)) v w h g = more 0 (on_numbers o a b) (size a + size b) (v + w) (Prim.omega (arith, h, g)) (numbers_weigh o a b)
known_numbers_weigh o a b v w h g = tt

values_weigh : (o : BinaryOperator) (a b : Known) (v w : ℕ) → Weighs 0 a v → Weighs 0 b w → Weighs 0 (on_values o a b) (v + w)
values_weigh binary.StrictEquality a b v w h g = tested_weighs 0 (known.strictly_equal a b) (v + w)
values_weigh binary.StrictInequality a b v w h g = tested_weighs 0 (negated (known.strictly_equal a b)) (v + w)
values_weigh binary.Equality a b v w h g = tested_weighs 0 (known.loosely_equal a b) (v + w)
values_weigh binary.Inequality a b v w h g = tested_weighs 0 (negated (known.loosely_equal a b)) (v + w)
values_weigh o a b v w h g = known_numbers_weigh o a b v w h g

joined_weighs : (s t : Option (List ℕ)) (w : ℕ) → Weighs 0 (joined s t) w
joined_weighs (Some s) (Some t) w = tt
joined_weighs s t w = tt

binary_weighs : (o : BinaryOperator) (s t : Option (List ℕ)) (a b : Known) (v w : ℕ) → Weighs 0 a v → Weighs 0 b w → Weighs 0 (binary_known o s t a b) (v + w)
binary_weighs o s t a b v w h g = either 0 (is_addition o && is_exact (joined s t)) (joined s t) (on_values o a b) (v + w) (joined_weighs s t (v + w)) (values_weigh o a b v w h g)

-- ---- expressions weigh no less than the number that they give

value_weighs : (v : LiteralValue) → Weighs 0 (exactly (known.literal_constant v)) (value_weight v)
value_weighs (value.Number (pos n)) = Prim.omega arith
value_weighs (value.Number (negsuc n)) = Prim.omega (arith, size_at_most (negsuc n))
value_weighs v = tt

-- each node of a row
abbrev Each : Forest → Type 0
Each nothing = Unit {0}
Each (absent r) = Each r
Each (node k n a r) = Weighs 0 (known_from bare_answers k n a (knowns bare_answers a)) (weight k + total weight a) × Each r

first_weighs : (t : Forest) → Each t → Weighs 0 (known_at 0 (knowns bare_answers t)) (total weight t)
first_weighs nothing e = tt
first_weighs (absent r) e = tt
first_weighs (node k n a r) e = more 0 (known_from bare_answers k n a (knowns bare_answers a)) (weight k + total weight a) (total weight (node k n a r)) (Prim.omega arith) e.0

last_weighs : (t : Forest) (k : Known) (w : ℕ) → Weighs 0 k w → Each t → Weighs 0 (last k (knowns bare_answers t)) (w + total weight t)
last_weighs nothing k w h e = more 0 k w (w + 0) (Prim.omega arith) h
last_weighs (absent r) k w h e = last_weighs r unknown w tt e
last_weighs (node l n a r) k w h e =
    let now = known_from bare_answers l n a (knowns bare_answers a) in
    more 0 (last now (knowns bare_answers r)) ((weight l + total weight a) + total weight r) (w + total weight (node l n a r)) (Prim.omega arith) (last_weighs r now (weight l + total weight a) e.0 e.1)

node_weighs : (k : Kind) (n : Note) (a : Forest) → Each a → Weighs 0 (known_from bare_answers k n a (knowns bare_answers a)) (weight k + total weight a)
node_weighs (Kind.Literal v) n a e = more 0 (exactly (known.literal_constant v)) (value_weight v) (value_weight v + total weight a) (Prim.omega arith) (value_weighs v)
node_weighs Kind.ParenthesizedExpression n a e = more 0 (known_at 0 (knowns bare_answers a)) (total weight a) (1 + total weight a) (Prim.omega arith) (first_weighs a e)
node_weighs Kind.SequenceExpression n a e = more 0 (known_at 0 (knowns bare_answers a)) (total weight a) (2 + total weight a) (Prim.omega arith) (first_weighs a e)
node_weighs Kind.Expressions n a e = last_weighs a unknown 0 tt e
node_weighs (Kind.ReferenceName x) n a e = light 0 (known_from bare_answers (Kind.ReferenceName x) n a (knowns bare_answers a)) (6 + total weight a) (Prim.omega arith)
node_weighs (Kind.AssignmentExpression o) n a e = light 0 (known_from bare_answers (Kind.AssignmentExpression o) n a (knowns bare_answers a)) (6 + total weight a) (Prim.omega arith)
node_weighs Kind.ConditionalExpression n a e = light 0 (known_from bare_answers Kind.ConditionalExpression n a (knowns bare_answers a)) (6 + total weight a) (Prim.omega arith)
node_weighs (Kind.LogicalExpression o) n a e = light 0 (known_from bare_answers (Kind.LogicalExpression o) n a (knowns bare_answers a)) (5 + total weight a) (Prim.omega arith)
node_weighs (Kind.UnaryExpression o) n a e = light 0 (known_from bare_answers (Kind.UnaryExpression o) n a (knowns bare_answers a)) (4 + total weight a) (Prim.omega arith)
node_weighs (Kind.BinaryExpression o) n a e = light 0 (known_from bare_answers (Kind.BinaryExpression o) n a (knowns bare_answers a)) (5 + total weight a) (Prim.omega arith)
node_weighs k n a e = tt

each_weighs : (t : Forest) → Each t
each_weighs nothing = tt
each_weighs (absent r) = each_weighs r
each_weighs (node k n a r) = (node_weighs k n a (each_weighs a), each_weighs r)

-- ---- and more, if they are no literals

by_one : (k : Known) (w : ℕ) → Weighs 0 k w → Weighs 1 k (1 + w)
by_one (exactly (constant.Number z)) w h = Prim.omega (arith, h)
by_one k w h = tt

-- below an operator stands something
heavier : (o : UnaryOperator) (t : ValueType) (k : Known) (w : ℕ) → Weighs 0 k w → Weighs 1 (unary_known o t k) (4 + w)
heavier o t (exactly (constant.Number z)) w h = light 1 (unary_known o t (exactly (constant.Number z))) (4 + w) (Prim.omega (arith, h, size_at_least z))
heavier o t (exactly c) w h = unary_weighs 1 o t (exactly c) (4 + w) tt
heavier o t k w h = unary_weighs 1 o t k (4 + w) tt

operand_weighs : (k : Kind) (n : Note) (a rest : Forest) → is_literal (node k n a rest) ≡ false → is_list k ≡ false → Weighs 1 (known_from bare_answers k n a (knowns bare_answers a)) (weight k + total weight a)
operand_weighs (Kind.Literal v) n a rest other single = absurd (true≢false other)
operand_weighs Kind.ParenthesizedExpression n a rest other single = by_one (known_at 0 (knowns bare_answers a)) (total weight a) (first_weighs a (each_weighs a))
operand_weighs Kind.SequenceExpression n a rest other single = more 1 (known_at 0 (knowns bare_answers a)) (1 + total weight a) (2 + total weight a) (Prim.omega arith) (by_one (known_at 0 (knowns bare_answers a)) (total weight a) (first_weighs a (each_weighs a)))
operand_weighs Kind.Expressions n a rest other single = absurd (true≢false single)
operand_weighs (Kind.ReferenceName x) n a rest other single = light 1 (known_from bare_answers (Kind.ReferenceName x) n a (knowns bare_answers a)) (6 + total weight a) (Prim.omega arith)
operand_weighs (Kind.AssignmentExpression o) n a rest other single = light 1 (known_from bare_answers (Kind.AssignmentExpression o) n a (knowns bare_answers a)) (6 + total weight a) (Prim.omega arith)
operand_weighs Kind.ConditionalExpression n a rest other single = light 1 (known_from bare_answers Kind.ConditionalExpression n a (knowns bare_answers a)) (6 + total weight a) (Prim.omega arith)
operand_weighs (Kind.LogicalExpression o) n a rest other single = light 1 (known_from bare_answers (Kind.LogicalExpression o) n a (knowns bare_answers a)) (5 + total weight a) (Prim.omega arith)
operand_weighs (Kind.UnaryExpression o) n a rest other single = heavier o (type_at 0 (types bare_answers a)) (known_at 0 (knowns bare_answers a)) (total weight a) (first_weighs a (each_weighs a))
operand_weighs (Kind.BinaryExpression o) n a rest other single = light 1 (known_from bare_answers (Kind.BinaryExpression o) n a (knowns bare_answers a)) (5 + total weight a) (Prim.omega arith)
operand_weighs k n a rest other single = tt

-- ---- an operation that gives a negative number is heavier than unary minus on a literal

both_so : (a b : Bool) → (not a && not b) ≡ true → (a ≡ false) × (b ≡ false)
both_so false false e = (refl, refl)
both_so true b e = absurd (true≢false (sym e))
both_so false true e = absurd (true≢false (sym e))

given_size : (k : Known) (d n w : ℕ) → Weighs d k w → as_negative (value_known k) ≡ Some n → size (negsuc n) + d ≤ w
given_size (exactly (constant.Number (negsuc m))) d n w h e = subst (λ n. size (negsuc n) + d ≤ w) (same_value e) h
given_size k d n w h e = absurd cc

pub one_lighter : (o : UnaryOperator) (n : Note) (below : Forest) (i : ℕ) → gives_negative (unary_expression o) below ≡ true → as_negative (value_of bare_answers (alone (unary_expression o) n below)) ≡ Some i → size (negsuc i) < total weight below
one_lighter o n (node k m a rest) i may e =
    let so = both_so (is_list k) (is_literal (node k m a rest)) may in
    let operand = operand_weighs k m a rest so.1 so.0 in
    let given = known_from bare_answers k m a (knowns bare_answers a) in
    let least = given_size (unary_known o (type_at 0 (types bare_answers (node k m a rest))) given) 1 i (weight k + total weight a) (unary_weighs 1 o (type_at 0 (types bare_answers (node k m a rest))) given (weight k + total weight a) operand) e in
    Prim.omega (arith, least)
one_lighter o n nothing i may e = absurd (true≢false (sym may))
one_lighter o n (absent r) i may e = absurd (true≢false (sym may))

-- what the two operands weigh
record Both (t : Forest) : Type 0 where
  first : ℕ
  second : ℕ
  weigh : first + second ≤ total weight t
  of_first : Weighs 0 (known_at 0 (knowns bare_answers t)) first
  of_second : Weighs 0 (known_at 1 (knowns bare_answers t)) second

both_weigh : (t : Forest) → Both t
both_weigh nothing = record { first = 0; second = 0; weigh = Prim.omega arith; of_first = tt; of_second = tt }
both_weigh (absent r) = record { first = 0; second = total weight r; weigh = Prim.omega arith; of_first = tt; of_second = first_weighs r (each_weighs r) }
both_weigh (node k n a r) = record { first = weight k + total weight a; second = total weight r; weigh = Prim.omega arith; of_first = node_weighs k n a (each_weighs a); of_second = first_weighs r (each_weighs r) }

pub two_lighter : (o : BinaryOperator) (n : Note) (below : Forest) (i : ℕ) → as_negative (value_of bare_answers (alone (binary_expression o) n below)) ≡ Some i → size (negsuc i) ≤ total weight below
two_lighter o n below i e =
    let both = both_weigh below in
    let s = text_of (inner_at 0 below) in
    let t = text_of (inner_at 1 below) in
    let a = known_at 0 (knowns bare_answers below) in
    let b = known_at 1 (knowns bare_answers below) in
    let least = given_size (binary_known o s t a b) 0 i (both.first + both.second) (binary_weighs o s t a b both.first both.second both.of_first both.of_second) e in
    Prim.omega (arith, least, both.weigh)
