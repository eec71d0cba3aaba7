-- What an array, a template, an object literal or a sequence comes to: one of its parts, several in a sequence, or the last behind a zero; what a choice does: one of its
-- parts behind a zero, two of them as a logical expression, or its test and one of them in a sequence; what an operation on two sides does: these in a sequence, or a text
-- on a side of it the empty one; what a template does of which nobody takes the value: itself without its texts; and what an operation does of which the value is known: a
-- literal, or unary minus on one.
use Rattle.std.proofs.Common.{◌≡◌, ℕ, suc, pos, [], Bool, true, false, not, Option, Some, None, if◌then◌else◌, refl, sym, subst, true≢false}
use Rattle.js_syntax.specs.declared.node_kind.NodeKind.{NodeKind as Kind}
use Rattle.js_syntax.specs.declared.node_kind.NodeKind.TheVariants.{ArrayExpression as array_expression, Elements as elements, ObjectExpression as object_expression, Properties as properties, BinaryExpression as binary_expression, SequenceExpression as sequence_expression, Expressions as expressions, TemplateLiteral as template_literal, Quasis as quasis, ConditionalExpression as conditional_expression, LogicalExpression as logical_expression, UnaryExpression as unary_expression, Literal as literal}
use Rattle.js_syntax.specs.declared.operator.BinaryOperator.{BinaryOperator}
use Rattle.js_syntax.specs.declared.operator.BinaryOperator.TheVariants.{Addition as addition}
use Rattle.js_syntax.specs.declared.operator.UnaryOperator.TheVariants.{UnaryNegation}
use Rattle.js_syntax.specs.declared.operator.LogicalOperator.{LogicalOperator}
use Rattle.js_syntax.specs.declared.operator.LogicalOperator.TheVariants as logical
use Rattle.js_syntax.specs.declared.value.LiteralValue.{LiteralValue}
use Rattle.js_syntax.specs.declared.value.LiteralValue.TheVariants as value
use Rattle.js_syntax.specs.Node.{Forest, Tree, Note, nothing, node, absent, alone, joined}
use Rattle.js_effects.specs.Silence.{only_combines}
use Rattle.min_pass.specs.Around.{outermost as asked_of_program}
use Rattle.scope_laws.specs.Place.{Around}
use Rattle.scope_laws.proofs.Bindings.{same_value}
use Rattle.js_tree.specs.Count.{one_each}
use Rattle.js_tree.specs.Walk.{is_list}
use Rattle.js_syntax.proofs.Truth.{first_of_both}
use Rattle.steps.specs.Allowed.IndirectChoice.{IndirectChoice, value_alone_counts, part_counts_behind_test}
use Rattle.steps.specs.Allowed.OneSidedChoice.{sides, one_side, one_sided, OneSidedChoice, one_branch_acts}
use Rattle.steps.specs.Allowed.IdleParts.{stays_before, counting, all_count, more_before, itself_or_behind, as_value_of, sequence_becomes, IdleParts, idle_parts_leave}
use Rattle.steps.specs.Allowed.TwoSides.{without_texts, TwoSides, both_sides_act}
use Rattle.steps.specs.Allowed.UnusedObject.{all_come_apart, keys_and_values, object_becomes, UnusedObject, acting_values_stay}
use Rattle.steps.specs.Allowed.KnownOperation.{is_literal, has_operand, KnownOperation, value_is_known, negative_is_known}
use Rattle.steps.specs.Allowed.Places.{asked_at}
use Rattle.steps.specs.Allowed.UnusedList.{acting, all_act, has_spread, as_one, as_elements, array_stays, list_becomes, UnusedList, acting_parts_stay}
use Rattle.steps.specs.Allowed.UnusedOperation.{acts}
use Rattle.steps.specs.Allowed.Uses.{Use, use_at, as_value, stands_bare}
use Rattle.steps.proofs.Owed.IdleParts.{some_left, first_leaves, none_behind}
use Rattle.steps.proofs.Owed.KnownTests.{counts_one, test_counts, side_counts}
use Rattle.steps.proofs.Owed.BehindTest.{Follows, consequent_follows, alternate_follows, right_side_follows, part_follows}
use Rattle.steps.proofs.Owed.IndirectChoice.{Counts, consequent_counts, alternate_counts, right_side_counts, part_that_counts}
use Rattle.steps.proofs.Owed.KnownOperation.{Operation, on_one, on_two, is_operation_known, value_small, Negative, under_one, under_two, is_negative_known, negative_small, one_level}
use Rattle.steps.proofs.Owed.KnownSizes.{IsSmall, below_largest}
use Rattle.steps.proofs.Owed.SilentTexts.{its_text}
use Rattle.steps.proofs.Owed.TwoSides.{Sides, both_act, first_text, second_text, no_texts, are_sides}

-- some of the nodes of a row, in their order, or of a property its value
pub data SomeOf : (r s : Forest) → Type 0 where
  none : SomeOf nothing nothing
  stays : {k : Kind} {n : Note} {a r s : Forest} → SomeOf r s → SomeOf (node k n a r) (node k n a s)
  leaves : {k : Kind} {n : Note} {a r s : Forest} → SomeOf r s → SomeOf (node k n a r) s
  opens : {k : Kind} {n : Note} {a r s : Forest} → SomeOf (joined a r) s → SomeOf (node k n a r) s
  absent_leaves : {r s : Forest} → SomeOf r s → SomeOf (absent r) s
  absent_stays : {r s : Forest} → SomeOf r s → SomeOf (absent r) (absent s)

-- an expression, and the list of its parts
abbrev pub holds_parts : Kind → (list : Kind) → Bool
holds_parts array_expression elements = true
holds_parts object_expression properties = true
holds_parts sequence_expression expressions = true
holds_parts k l = false

abbrev pub is_choice : Kind → Bool
is_choice conditional_expression = true
is_choice (logical_expression operator) = true
is_choice k = false

-- an expression of an operator
abbrev pub is_operator : Kind → Bool
is_operator (unary_expression operator) = true
is_operator (binary_expression operator) = true
is_operator k = false

-- one of a row becomes the empty text
pub data Emptied : (r s : Forest) → Type 0 where
  this_one : {k : Kind} {n : Note} {a r : Forest} → one_each k ≡ 1 → Emptied (node k n a r) (node (literal (value.Text [])) n nothing r)
  a_later_one : {k : Kind} {n : Note} {a r s : Forest} → Emptied r s → Emptied (node k n a r) (node k n a s)

pub data Picks : (k : Kind) (below : Forest) (l : Kind) (inner : Forest) → Type 0 where
  one_part : (k j l : Kind) (i m : Note) (parts inner : Forest) → holds_parts k j ≡ true → SomeOf parts (alone l m inner) → Picks k (node j i parts nothing) l inner
  several : (k j : Kind) (i m : Note) (parts left : Forest) → holds_parts k j ≡ true → SomeOf parts left → Picks k (node j i parts nothing) sequence_expression (node expressions m left nothing)
  some_elements : (i m : Note) (parts left : Forest) → SomeOf parts left → Picks array_expression (node elements i parts nothing) array_expression (node elements m left nothing)
  part_behind_zero : (k l t : Kind) (o m i p : Note) (d parts inner : Forest) → is_choice k ≡ true → one_each t ≡ 1 → SomeOf parts (alone l p inner) → Picks k (node t o d parts) sequence_expression (node expressions m (node (literal (value.Number (pos 0))) i nothing (alone l p inner)) nothing)
  last_behind_zero : (j l : Kind) (i m o p q : Note) (b parts inner : Forest) → one_each j ≡ 1 → SomeOf parts (node j q b (alone l p inner)) → Picks sequence_expression (node expressions i parts nothing) sequence_expression (node expressions m (node (literal (value.Number (pos 0))) o nothing (alone l p inner)) nothing)
  two_parts : (o : LogicalOperator) (parts left : Forest) → SomeOf parts left → Picks conditional_expression parts (logical_expression o) left
  known : (k : Kind) (below : Forest) (w : LiteralValue) → is_operator k ≡ true → IsSmall w → Picks k below (literal w) nothing
  signed : (k t : Kind) (i m : Note) (d rest : Forest) (w : LiteralValue) → is_operator k ≡ true → one_each t ≡ 1 → IsSmall w → Picks k (node t i d rest) (unary_expression UnaryNegation) (alone (literal w) m nothing)
  zeroed : (k : Kind) (below : Forest) → one_each k ≡ 1 → Picks k below (literal (value.Number (pos 0))) nothing
  after_test : (k : Kind) (m : Note) (parts left : Forest) → is_choice k ≡ true → SomeOf parts left → Picks k parts sequence_expression (node expressions m left nothing)
  -- of the second list below a template
  one_substitution : (l : Kind) (h i m : Note) (texts parts inner : Forest) → SomeOf parts (alone l m inner) → Picks template_literal (node quasis h texts (node expressions i parts nothing)) l inner
  substitutions : (h i m : Note) (texts parts left : Forest) → SomeOf parts left → Picks template_literal (node quasis h texts (node expressions i parts nothing)) sequence_expression (node expressions m left nothing)
  in_turn : (o : BinaryOperator) (m : Note) (sides : Forest) → Picks (binary_expression o) sides sequence_expression (node expressions m sides nothing)
  with_less_text : (o : BinaryOperator) (old new : Forest) → Emptied old new → Picks (binary_expression o) old (binary_expression o) new
  with_no_texts : (h : Note) (texts rest : Forest) → Picks template_literal (node quasis h texts rest) template_literal (node quasis h (without_texts texts) rest)

-- ---- the parts that act

some_if : (b : Bool) (k : Kind) (n : Note) (a r s : Forest) → SomeOf r s → SomeOf (node k n a r) (if b then node k n a s else s)
some_if true k n a r s rest = stays rest
some_if false k n a r s rest = leaves rest

some_act : (parts : Forest) → SomeOf parts (acting parts)
some_act nothing = none
some_act (absent rest) = absent_leaves (some_act rest)
some_act (node k n a rest) = some_if (acts k n a) k n a rest (acting rest) (some_act rest)

-- what a decision gives if it gives something
given : {X : Type 0} (b : Bool) (x y : X) → (if b then Some x else None) ≡ Some y → x ≡ y
given true x y e = same_value e
given false x y e = absurd cc

when_given : {X : Type 0} (b : Bool) (o : Option X) (y : X) → (if b then o else None) ≡ Some y → o ≡ Some y
when_given true o y e = e
when_given false o y e = absurd cc

unless_given : {X : Type 0} (b : Bool) (o : Option X) (y : X) → (if b then None else o) ≡ Some y → o ≡ Some y
unless_given true o y e = absurd cc
unless_given false o y e = e

where_given : {X : Type 0} (b : Bool) (o : Option X) (y : X) → (if b then o else None) ≡ Some y → o ≡ Some y
where_given true o y e = e
where_given false o y e = absurd cc

module _ (k j : Kind) (i : Note) (parts : Forest) (holds : holds_parts k j ≡ true) where
  abbrev PicksTree : Tree → Type 0
  PicksTree y = Picks k (node j i parts nothing) y.kind y.below

  picks_one : (n m : Note) (left : Forest) (y : Tree) → SomeOf parts left → as_one n m left ≡ Some y → PicksTree y
  picks_one n m nothing y some is = absurd cc
  picks_one n m (absent rest) y some is = subst PicksTree (same_value is) (several k j i m parts (absent rest) holds some)
  picks_one n m (node l h a nothing) y some is = subst PicksTree (given (stands_bare as_value false l a) (record { kind = l; note = h; below = a }) y is) (one_part k j l i h parts a holds some)
  picks_one n m (node l h a (node x o b rest)) y some is = subst PicksTree (same_value is) (several k j i m parts (node l h a (node x o b rest)) holds some)
  picks_one n m (node l h a (absent rest)) y some is = subst PicksTree (same_value is) (several k j i m parts (node l h a (absent rest)) holds some)

module _ (h i : Note) (texts parts : Forest) where
  abbrev TemplateTree : Tree → Type 0
  TemplateTree y = Picks template_literal (node quasis h texts (node expressions i parts nothing)) y.kind y.below

  template_picks : (n m : Note) (left : Forest) (y : Tree) → SomeOf parts left → as_one n m left ≡ Some y → TemplateTree y
  template_picks n m nothing y some is = absurd cc
  template_picks n m (absent rest) y some is = subst TemplateTree (same_value is) (substitutions h i m texts parts (absent rest) some)
  template_picks n m (node l j a nothing) y some is = subst TemplateTree (given (stands_bare as_value false l a) (record { kind = l; note = j; below = a }) y is) (one_substitution l h i j texts parts a some)
  template_picks n m (node l j a (node x o b rest)) y some is = subst TemplateTree (same_value is) (substitutions h i m texts parts (node l j a (node x o b rest)) some)
  template_picks n m (node l j a (absent rest)) y some is = subst TemplateTree (same_value is) (substitutions h i m texts parts (node l j a (absent rest)) some)

elements_picks : (n m i : Note) (parts left : Forest) (y : Tree) → SomeOf parts left → as_elements n m left ≡ Some y → Picks array_expression (node elements i parts nothing) y.kind y.below
elements_picks n m i parts left y some is = by_spread (has_spread left) is
  where
    by_spread : (b : Bool) → (if b then Some (record { kind = array_expression; note = n; below = node elements m left nothing }) else as_one n m left) ≡ Some y → Picks array_expression (node elements i parts nothing) y.kind y.below
    by_spread true is = subst (λ (y : Tree). Picks array_expression (node elements i parts nothing) y.kind y.below) (same_value is) (some_elements i m parts left some)
    by_spread false is = picks_one array_expression elements i parts refl n m left y some is

list_picks : (n m : Note) (k : Kind) (a : Forest) (y : Tree) → list_becomes n m k a ≡ Some y → Picks k a y.kind y.below
list_picks n m array_expression (node elements i parts nothing) y is = elements_picks n m i parts (acting parts) y (some_act parts) (unless_given (array_stays parts) (as_elements n m (acting parts)) y is)
list_picks n m sequence_expression (node expressions i parts nothing) y is =
    picks_one sequence_expression expressions i parts refl n m (acting parts) y (some_act parts) (unless_given (all_act parts) (as_one n m (acting parts)) y is)
list_picks n m template_literal (node quasis h texts (node expressions i parts nothing)) y is =
    template_picks h i texts parts n m (acting parts) y (some_act parts) (when_given (only_combines template_literal (node quasis h texts (node expressions i parts nothing))) (as_one n m (acting parts)) y is)
list_picks n m k a y is = absurd cc

pub unused_list_picks : (a : Around) (x y : Tree) → UnusedList a x y → Picks x.kind x.below y.kind y.below
unused_list_picks a _ _ (acting_parts_stay n m x y unused is) = list_picks n m x.kind x.below y is

-- ---- the part that counts

choice_picks : (m i : Note) {x z : Tree} → Counts x z → Picks x.kind x.below sequence_expression (node expressions m (node (literal (value.Number (pos 0))) i nothing (alone z.kind z.note z.below)) nothing)
choice_picks m i {x = x} (consequent_counts o p h j t k l d b c truth) = part_behind_zero x.kind k t p m i h d (node k h b (node l j c nothing)) b refl (test_counts t p d true truth) (stays (leaves none))
choice_picks m i {x = x} (alternate_counts o p h j t k l d b c truth) = part_behind_zero x.kind l t p m i j d (node k h b (node l j c nothing)) c refl (test_counts t p d false truth) (leaves (stays none))
choice_picks m i {x = x} (right_side_counts q o p h t k d b goes) = part_behind_zero x.kind k t p m i h d (node k h b nothing) b refl (side_counts t p d q true goes) (stays none)

follows_picks : {n m : Note} {x y : Tree} → Follows n m x y → Picks x.kind x.below y.kind y.below
follows_picks {m = m} {x = x} (consequent_follows o p i j t k l d b c acting truth) = after_test x.kind m x.below (node t p d (node k i b nothing)) refl (stays (stays (leaves none)))
follows_picks {m = m} {x = x} (alternate_follows o p i j t k l d b c acting truth) = after_test x.kind m x.below (node t p d (node l j c nothing)) refl (stays (leaves (stays none)))
follows_picks {m = m} {x = x} (right_side_follows q o p i t k d b acting goes) = after_test x.kind m x.below x.below refl (stays (stays none))

pub indirect_choice_picks : (a : Around) (x y : Tree) → IndirectChoice a x y → Picks x.kind x.below y.kind y.below
indirect_choice_picks a x _ (value_alone_counts n m i _ z counts matters) = choice_picks m i (part_that_counts x.note x.kind x.below z counts)
indirect_choice_picks a x y (part_counts_behind_test n m _ _ is) = follows_picks (part_follows n m x.note x.kind x.below y is)

-- ---- the branch that acts

side_picks : (n : Note) (parts : Forest) (y : Tree) → one_side n parts ≡ Some y → Picks conditional_expression parts y.kind y.below
side_picks n (node k i a (node l j b (node z o c nothing))) y is = each (acts l j b) (acts z o c) is
  where
    each : (p q : Bool) → (if p then (if q then None else Some (sides n logical.And (record { kind = k; note = i; below = a }) (record { kind = l; note = j; below = b })))
        else (if q then Some (sides n logical.Or (record { kind = k; note = i; below = a }) (record { kind = z; note = o; below = c })) else None)) ≡ Some y → Picks conditional_expression (node k i a (node l j b (node z o c nothing))) y.kind y.below
    each true true is = absurd cc
    each true false is = subst (λ (y : Tree). Picks conditional_expression (node k i a (node l j b (node z o c nothing))) y.kind y.below) (same_value is) (two_parts logical.And _ _ (stays (stays (leaves none))))
    each false true is = subst (λ (y : Tree). Picks conditional_expression (node k i a (node l j b (node z o c nothing))) y.kind y.below) (same_value is) (two_parts logical.Or _ _ (stays (leaves (stays none))))
    each false false is = absurd cc
side_picks n parts y is = absurd cc

one_sided_picks : (n : Note) (k : Kind) (a : Forest) (y : Tree) → one_sided n k a ≡ Some y → Picks k a y.kind y.below
one_sided_picks n conditional_expression a y is = side_picks n a y is
one_sided_picks n k a y is = absurd cc

pub one_sided_choice_picks : (a : Around) (x y : Tree) → OneSidedChoice a x y → Picks x.kind x.below y.kind y.below
one_sided_choice_picks a _ _ (one_branch_acts n x y unused is) = one_sided_picks n x.kind x.below y is

-- ---- the parts that act, and the last one

some_count : (parts : Forest) → SomeOf parts (counting parts)
some_count nothing = none
some_count (absent rest) = absent_stays (some_count rest)
some_count (node k n a nothing) = stays none
some_count (node k n a (absent rest)) = some_if (stays_before k n a) k n a (absent rest) (counting (absent rest)) (some_count (absent rest))
some_count (node k n a (node l m b rest)) = some_if (stays_before k n a) k n a (node l m b rest) (counting (node l m b rest)) (some_count (node l m b rest))

module _ (u : Use) (in_with : Bool) (n m i : Note) (parts : Forest) where
  abbrev LeavesTree : Tree → Type 0
  LeavesTree y = Picks sequence_expression (node expressions i parts nothing) y.kind y.below

  module _ (l : Kind) (h : Note) (c : Forest) where
    zero_picks : (all : Forest) → all ≡ parts → counting all ≡ node l h c nothing → all_count all ≡ false → Picks sequence_expression (node expressions i all nothing) sequence_expression (node expressions n (node (literal (value.Number (pos 0))) n nothing (node l h c nothing)) nothing)
    zero_picks nothing same is idle = absurd cc
    zero_picks (absent r) same is idle = absurd cc
    zero_picks (node k o a nothing) same is idle = absurd cc
    zero_picks (node k o a (absent r)) same is idle = absurd (none_behind l h c k o a r is)
    zero_picks (node k o a (node j q b r)) same is idle =
        let rest = node j q b r in
        first_leaves l h c k o a (counting rest) (some_left j q b r) (acts k o a) (is_list k) refl refl is
        (λ silent no_list e. last_behind_zero k l i n n h o a (node k o a rest) c (counts_one k no_list) (subst (λ t. SomeOf (node k o a rest) (node k o a t)) e (stays (some_count rest))))

  value_picks : (left : Forest) (y : Tree) → counting parts ≡ left → all_count parts ≡ false → SomeOf parts left → as_value_of u in_with (more_before parts) n m left ≡ Some y → LeavesTree y
  value_picks nothing y of idle some is = absurd cc
  value_picks (absent rest) y of idle some is = subst LeavesTree (same_value is) (several sequence_expression expressions i m parts (absent rest) refl some)
  value_picks (node l h a nothing) y of idle some is = each (stands_bare u in_with l a) (more_before parts) is
    where
      each : (b c : Bool) → itself_or_behind b c n (record { kind = l; note = h; below = a }) ≡ Some y → LeavesTree y
      each true c e = subst LeavesTree (same_value e) (one_part sequence_expression expressions l i h parts a refl some)
      each false true e = subst LeavesTree (same_value e) (zero_picks l h a parts refl of idle)
      each false false e = absurd cc
  value_picks (node l h a (node x o b rest)) y of idle some is = subst LeavesTree (same_value is) (several sequence_expression expressions i m parts (node l h a (node x o b rest)) refl some)
  value_picks (node l h a (absent rest)) y of idle some is = subst LeavesTree (same_value is) (several sequence_expression expressions i m parts (node l h a (absent rest)) refl some)

sequence_picks : (u : Use) (in_with : Bool) (n m : Note) (k : Kind) (a : Forest) (y : Tree) → sequence_becomes u in_with n m k a ≡ Some y → Picks k a y.kind y.below
sequence_picks u in_with n m sequence_expression (node expressions i parts nothing) y is = each (all_count parts) refl is
  where
    each : (b : Bool) → all_count parts ≡ b → (if b then None else as_value_of u in_with (more_before parts) n m (counting parts)) ≡ Some y → Picks sequence_expression (node expressions i parts nothing) y.kind y.below
    each true all e = absurd cc
    each false idle e = value_picks u in_with n m i parts (counting parts) y refl idle (some_count parts) e
sequence_picks u in_with n m k a y is = absurd cc

pub idle_parts_picks : (a : Around) (x y : Tree) → IdleParts a x y → Picks x.kind x.below y.kind y.below
idle_parts_picks a _ _ (idle_parts_leave n m x y is) = sequence_picks (use_at a) (asked_at (asked_of_program true) a).in_with n m x.kind x.below y is

-- ---- the sides of an operation

sides_picks : {n m : Note} {k : Kind} {a : Forest} {y : Tree} → Sides n m k a y → Picks k a y.kind y.below
sides_picks {m = m} (both_act o k l i j a b combines) = in_turn o m (node k i a (node l j b nothing))
sides_picks (first_text k l i j a b is) = with_less_text addition _ _ (this_one (its_text k i a is).counts)
sides_picks (second_text k l i j a b is) = with_less_text addition _ _ (a_later_one (this_one (its_text l j b is).counts))
sides_picks (no_texts h j texts parts has) = with_no_texts h texts (node expressions j parts nothing)

pub two_sides_picks : (a : Around) (x y : Tree) → TwoSides a x y → Picks x.kind x.below y.kind y.below
two_sides_picks a _ _ (both_sides_act n m x y unused is) = sides_picks (are_sides n m x.kind x.below y is)

-- ---- the keys and values of an object literal that act

some_before : (a more r : Forest) → SomeOf r (acting more) → SomeOf (joined a r) (acting (joined a more))
some_before nothing more r some = some
some_before (absent b) more r some = absent_leaves (some_before b more r some)
some_before (node k n a b) more r some = some_if (acts k n a) k n a (joined b r) (acting (joined b more)) (some_before b more r some)

some_parts : (es : Forest) → SomeOf es (acting (keys_and_values es))
some_parts nothing = none
some_parts (absent rest) = absent_leaves (some_parts rest)
some_parts (node k n below rest) = opens (some_before below (keys_and_values rest) rest (some_parts rest))

object_picks : (n m : Note) (k : Kind) (a : Forest) (y : Tree) → object_becomes n m k a ≡ Some y → Picks k a y.kind y.below
object_picks n m object_expression (node properties i es nothing) y is =
    picks_one object_expression properties i es refl n m (acting (keys_and_values es)) y (some_parts es) (where_given (all_come_apart es) (as_one n m (acting (keys_and_values es))) y is)
object_picks n m k a y is = absurd cc

pub unused_object_picks : (a : Around) (x y : Tree) → UnusedObject a x y → Picks x.kind x.below y.kind y.below
unused_object_picks a _ _ (acting_values_stay n m x y unused is) = object_picks n m x.kind x.below y is

-- ---- the value of an operation

known_picks : {k : Kind} {n : Note} {below : Forest} {w : LiteralValue} → Operation k n below w → IsSmall w → Picks k below (literal w) nothing
known_picks (on_one o n below w idle some is) small = known (unary_expression o) below w refl small
known_picks (on_two o n below w idle is) small = known (binary_expression o) below w refl small

of_operand : (m : Note) (k : Kind) (below : Forest) (i : ℕ) → has_operand below ≡ true → is_operator k ≡ true → IsSmall (value.Number (pos (suc i))) → Picks k below (unary_expression UnaryNegation) (alone (literal (value.Number (pos (suc i)))) m nothing)
of_operand m k (node t h d rest) i some operator small = signed k t h m d rest (value.Number (pos (suc i))) operator (one_level t (not_so (is_list t) some)) small
  where
    not_so : (b : Bool) → not b ≡ true → b ≡ false
    not_so true e = absurd (true≢false (sym e))
    not_so false e = refl
of_operand m k nothing i some operator small = absurd (true≢false (sym some))
of_operand m k (absent rest) i some operator small = absurd (true≢false (sym some))

negative_picks : {k : Kind} {n : Note} {below : Forest} {i : ℕ} (j : Note) → Negative k n below i → Picks k below (unary_expression UnaryNegation) (alone (literal (value.Number (pos (suc i)))) j nothing)
negative_picks j (under_one o n below i idle may is) = of_operand j (unary_expression o) below i (first_of_both (has_operand below) (not (is_literal below)) may) refl (below_largest i (negative_small (under_one o n below i idle may is)))
negative_picks j (under_two o n below i idle may is) = of_operand j (binary_expression o) below i may refl (below_largest i (negative_small (under_two o n below i idle may is)))

pub known_operation_picks : (a : Around) (x y : Tree) → KnownOperation a x y → Picks x.kind x.below y.kind y.below
known_operation_picks a x _ (value_is_known i w _ is) = let operation = is_operation_known x.kind x.note x.below w is in known_picks operation (value_small operation)
known_operation_picks a x _ (negative_is_known i j z _ is) = negative_picks j (is_negative_known x.kind x.note x.below z is)
