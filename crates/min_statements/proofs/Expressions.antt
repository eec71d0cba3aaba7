-- What the hook of expressions does, and that it may.
use Rattle.std.proofs.Common.{◌≡◌, ◌∙◌, ◌≤◌, ◌+◌, ◌⊎◌, inl, inr, ℕ, Bool, true, false, not, ◌||◌, Option, Some, None, is_some, if◌then◌else◌, refl, sym, ap, ap₂, subst, arith, true≢false}
use Rattle.js_syntax.specs.declared.node_kind.NodeKind.{NodeKind as Kind}
use Rattle.js_syntax.specs.declared.node_kind.NodeKind.TheVariants.{ArrayExpression as array_expression, Elements as elements, MemberExpression as member_expression, ChainExpression as chain_expression, ParenthesizedExpression as parenthesized_expression, SequenceExpression as sequence_expression, Expressions as expressions, TemplateLiteral as template_literal, Quasis as quasis, ObjectExpression as object_expression, Properties as properties, UnaryExpression as unary_expression, BinaryExpression as binary_expression, ConditionalExpression as conditional_expression, LogicalExpression as logical_expression}
use Rattle.js_syntax.specs.declared.operator.LogicalOperator.{LogicalOperator}
use Rattle.js_syntax.specs.declared.operator.LogicalOperator.TheVariants as logical
use Rattle.js_syntax.specs.declared.operator.UnaryOperator.TheVariants as unary
use Rattle.js_syntax.specs.declared.value.LiteralValue.{LiteralValue}
use Rattle.js_syntax.specs.Node.{Forest, Note, Tree, nothing, node, absent, joined, forest_of}
use Rattle.scope_laws.specs.Place as places
use Rattle.scope_counts.specs.Edits.{Around}
use Rattle.steps.specs.Allowed.KnownConditional.{KnownConditional, consequent_is_taken, alternate_is_taken}
use Rattle.steps.specs.Allowed.KnownSide.{KnownSide, right_side_counts, left_side_decides}
use Rattle.steps.specs.Allowed.UnusedOperation.{acts, UnusedOperation, one_operand_acts}
use Rattle.js_effects.specs.Silence.{only_combines}
use Rattle.steps.specs.Allowed.UnusedList.{acting, all_act, has_spread, as_one, as_elements, array_stays, list_becomes, UnusedList, acting_parts_stay}
use Rattle.steps.proofs.Owed.BehindTest.{Follows, consequent_follows, alternate_follows, right_side_follows, part_follows}
use Rattle.steps.specs.Allowed.IndirectChoice.{one_of as branch_of, if_so, part_counts, IndirectChoice, value_alone_counts, part_counts_behind_test}
use Rattle.steps.specs.Allowed.OneSidedChoice.{sides, one_side, one_sided, OneSidedChoice, one_branch_acts}
use Rattle.steps.specs.Allowed.IdleParts.{stays_before, counting, all_count, more_before, itself_or_behind, as_value_of, sequence_becomes, IdleParts, idle_parts_leave}
use Rattle.steps.specs.Allowed.TwoSides.{TwoSides, both_sides_act}
use Rattle.steps.specs.Allowed.UnusedObject.{all_come_apart, keys_and_values, object_becomes, UnusedObject, acting_values_stay}
use Rattle.steps.specs.Allowed.KnownOperation.{known_literal, KnownOperation, value_is_known, negative_is_known}
use Rattle.steps.proofs.Owed.KnownOperation.{Negative, under_one, under_two, is_negative_known}
use Rattle.steps.specs.Allowed.Uses.{Use, as_value, as_typed, use_at, matters, may_take_name, stands_bare}
use Rattle.steps.proofs.Owed.TwoSides.{Sides, both_act, first_text, second_text, no_texts, are_sides}
use Rattle.steps.proofs.Owed.UnusedPlace.{unused_as_value}
use Rattle.steps.proofs.Owed.UnusedOperation.{Needed, the_operand, first_side, second_side, left_side, the_condition, needed_part}
use Rattle.min_context.specs.Edited.{evals, Edited}
use Rattle.min_context.specs.Place.{place_at, goes_on}
use Rattle.min_context.specs.Seen.{Seen}
use Rattle.min_traverse.specs.Lawful.{Stays, Rule, Lawful, Does, or_same, or_else}
use Rattle.min_traverse.specs.Moves.{Holds, IsHere, NodeMoves}
use Rattle.rules.specs.DeadCode.Before.{before}
use Rattle.rules.specs.Expressions.Uses.{Spot, spot_of}
use Rattle.rules.specs.Expressions.Known.{conditional_becomes, logical_becomes, at_expression_end}
use Rattle.rules.specs.Expressions.Unused.{unused_becomes, UnusedOperations, last, one_more}
use Rattle.rules.specs.Expressions.Lists.{unused_list_becomes}
use Rattle.rules.specs.Expressions.Indirect.{indirect_becomes}
use Rattle.rules.specs.Expressions.OneSided.{one_sided_becomes}
use Rattle.rules.specs.Expressions.Sequences.{sequence_left}
use Rattle.rules.specs.Expressions.TwoSides.{two_sides_become}
use Rattle.rules.specs.Expressions.Objects.{object_left}
use Rattle.rules.specs.Expressions.Operations.{known_becomes}
use Rattle.rules.proofs.Expressions.Becoming.{no_answer, same_answer, chosen, chosen_if}
use Rattle.rules.proofs.Expressions.Editing.{conditional_edits_there, logical_edits_there}
use Rattle.rules.proofs.Expressions.Unused.{unused_edits_there}
use Rattle.rules.proofs.Expressions.Lists.{list_edits_there}
use Rattle.rules.proofs.Expressions.Indirect.{indirect_edits_there}
use Rattle.rules.proofs.Expressions.OneSided.{one_sided_edits_there}
use Rattle.rules.proofs.Expressions.Sequences.{sequence_edits_there}
use Rattle.rules.proofs.Expressions.TwoSides.{two_sides_edits_there, elements_evals}
use Rattle.rules.proofs.Expressions.Objects.{object_edits_there}
use Rattle.rules.proofs.Expressions.Operations.{known_edits}
use Rattle.rules.proofs.Expressions.Folding.{expressions_fold}
use Rattle.min_statements.specs.Own.{AnyEdit, Own, Found}
use Rattle.min_statements.specs.Walker.{Names}
use Rattle.min_statements.proofs.Acting.{as_tree_edits, asked_true, moves, stayed}
use Rattle.min_statements.proofs.Calls.{is_no_name, CallsStay}

conditional_calls : (a : places.Around) (x y : Tree) → KnownConditional a x y → CallsStay a x y
conditional_calls a x y (consequent_is_taken n m i j t k l b c d truth may) = record { fewer = Prim.omega arith; old = refl; in_with = _; bare = may }
conditional_calls a x y (alternate_is_taken n m i j t k l b c d truth may) = record { fewer = Prim.omega arith; old = refl; in_with = _; bare = may }

side_calls : (a : places.Around) (x y : Tree) → KnownSide a x y → CallsStay a x y
side_calls a x y (right_side_counts operator n m i t k b c goes may) = record { fewer = Prim.omega arith; old = refl; in_with = _; bare = may }
side_calls a x y (left_side_decides operator n m i t k b c stays may) = record { fewer = Prim.omega arith; old = refl; in_with = _; bare = may }

-- ---- what becomes an operand of its

value_plain : (k : Kind) (b : Forest) → matters as_value false k b ≡ false
value_plain parenthesized_expression (node k n b rest) = value_plain k b
value_plain parenthesized_expression (absent rest) = refl
value_plain parenthesized_expression nothing = refl
value_plain chain_expression (node (member_expression key optional) n b rest) = refl
value_plain chain_expression (node k n b rest) = refl
value_plain chain_expression (absent rest) = refl
value_plain chain_expression nothing = refl
value_plain k b = refl

no_name_taken : (m t : Bool) → not (m || t) ≡ true → t ≡ false
no_name_taken true t e = absurd (true≢false (sym e))
no_name_taken false true e = absurd (true≢false (sym e))
no_name_taken false false e = refl

-- what stands bare as the operand of `typeof` does as a value
value_stands : (k : Kind) (b : Forest) → stands_bare as_typed false k b ≡ true → stands_bare as_value false k b ≡ true
value_stands k b e = ap₂ (λ m t. not (m || t)) (value_plain k b) (no_name_taken (matters as_typed false k b) (may_take_name k b) e)

module _ (a : places.Around) (n : Note) (used : use_at a ≡ as_value) where
  stands_there : (k : Kind) (b : Forest) → stands_bare as_value false k b ≡ true → stands_bare (use_at a) false k b ≡ true
  stands_there k b e = ap (λ u. stands_bare u false k b) used ∙ e

  needed_calls : {k : Kind} {parts : Forest} {y : Tree} → Needed k parts y → CallsStay a (record { kind = k; note = n; below = parts }) y
  needed_calls (the_operand unary.Typeof k m b total bare) = record { fewer = Prim.omega arith; old = refl; in_with = false; bare = stands_there k b (value_stands k b bare) }
  needed_calls (the_operand unary.Delete k m b total bare) = absurd (true≢false (sym total))
  needed_calls (the_operand o k m b total bare) = record { fewer = Prim.omega arith; old = refl; in_with = false; bare = stands_there k b bare }
  needed_calls (first_side o k l m i b c comparing idle bare) = record { fewer = Prim.omega arith; old = refl; in_with = false; bare = stands_there k b bare }
  needed_calls (second_side o k l m i b c comparing idle bare) = record { fewer = Prim.omega arith; old = refl; in_with = false; bare = stands_there l c bare }
  needed_calls (left_side o k l m i b c idle bare) = record { fewer = Prim.omega arith; old = refl; in_with = false; bare = stands_there k b bare }
  needed_calls (the_condition k l j m i z b c d idle idle_too bare) = record { fewer = Prim.omega arith; old = refl; in_with = false; bare = stands_there k b bare }

operation_calls : (a : places.Around) (x y : Tree) → UnusedOperation a x y → CallsStay a x y
operation_calls a _ _ (one_operand_acts i x y unused at child) = needed_calls a x.note (unused_as_value a unused) (needed_part x.kind x.below i y at child)

then_calls : {a : places.Around} {x y z : Tree} → CallsStay a x y → CallsStay a y z → CallsStay a x z
then_calls c d = record { fewer = Prim.omega (arith, c.fewer, d.fewer); old = c.old; in_with = d.in_with; bare = d.bare }

operations_call : {a : places.Around} {x y : Tree} → UnusedOperations a x y → CallsStay a x y
operations_call {a = a} {x = x} {y = y} (last one) = operation_calls a x y one
operations_call {a = a} {x = x} (one_more y one more) = then_calls (operation_calls a x y one) (operations_call more)

-- ---- what becomes its parts that act

acting_calls : (parts : Forest) → evals (acting parts) ≤ evals parts
acting_calls nothing = Prim.omega arith
acting_calls (absent rest) = acting_calls rest
acting_calls (node k n b rest) = if_acts (acts k n b) (acting_calls rest)
  where
    if_acts : (does : Bool) → evals (acting rest) ≤ evals rest → evals (if does then node k n b (acting rest) else acting rest) ≤ evals (node k n b rest)
    if_acts true h = Prim.omega (arith, h)
    if_acts false h = Prim.omega (arith, h)

-- what is left of these parts, where it is used so
record LeavesCalls (u : Use) (in_with : Bool) (parts : Forest) (y : Tree) : Type 0 where
  fewer : evals (forest_of y) ≤ evals parts
  bare : stands_bare u in_with y.kind y.below ≡ true

several_call : (u : Use) (w : Bool) (n m : Note) (parts : Forest) (y : Tree) → (let made : Tree = record { kind = sequence_expression; note = n; below = node expressions m parts nothing } in Some made ≡ Some y) → LeavesCalls u w parts y
several_call u w n m parts y e = subst (LeavesCalls u w parts) (same_answer e) (record { fewer = Prim.omega arith; bare = refl })

alone_calls : (u : Use) (w : Bool) (k : Kind) (i : Note) (b : Forest) (y : Tree) → (let x : Tree = record { kind = k; note = i; below = b } in (if stands_bare u w k b then Some x else None) ≡ Some y) → LeavesCalls u w (node k i b nothing) y
alone_calls u w k i b y e =
    elim (chosen_if (stands_bare u w k b) (record { kind = k; note = i; below = b }) y e) [ chosen may is ↦ subst (LeavesCalls u w (node k i b nothing)) is (record { fewer = Prim.omega arith; bare = may }) ]

one_calls : (n m : Note) (parts : Forest) (y : Tree) → as_one n m parts ≡ Some y → LeavesCalls as_value false parts y
one_calls n m nothing y e = no_answer e
one_calls n m (absent rest) y e = several_call as_value false n m (absent rest) y e
one_calls n m (node k i b nothing) y e = alone_calls as_value false k i b y e
one_calls n m (node k i b (node l j c rest)) y e = several_call as_value false n m (node k i b (node l j c rest)) y e
one_calls n m (node k i b (absent rest)) y e = several_call as_value false n m (node k i b (absent rest)) y e

elements_call : (n m : Note) (parts : Forest) (y : Tree) → as_elements n m parts ≡ Some y → LeavesCalls as_value false parts y
elements_call n m parts y e = by_spread (has_spread parts) e
  where
    by_spread : (b : Bool) → (if b then Some (record { kind = array_expression; note = n; below = node elements m parts nothing }) else as_one n m parts) ≡ Some y → LeavesCalls as_value false parts y
    by_spread true e = subst (LeavesCalls as_value false parts) (same_answer e) (record { fewer = Prim.omega arith; bare = refl })
    by_spread false e = one_calls n m parts y e

unless : (b : Bool) (o : Option Tree) (y : Tree) → (if b then None else o) ≡ Some y → o ≡ Some y
unless true o y e = no_answer e
unless false o y e = e

where_so : (b : Bool) (o : Option Tree) (y : Tree) → (if b then o else None) ≡ Some y → o ≡ Some y
where_so true o y e = e
where_so false o y e = no_answer e

module _ (a : places.Around) (i : Note) (used : use_at a ≡ as_value) where
  parts_call : (n m : Note) (k : Kind) (below : Forest) (y : Tree) → list_becomes n m k below ≡ Some y → CallsStay a (record { kind = k; note = i; below = below }) y
  parts_call n m array_expression (node elements j parts nothing) y e =
      let left = elements_call n m (acting parts) y (unless (array_stays parts) (as_elements n m (acting parts)) y e) in
      record { fewer = Prim.omega (arith, left.fewer, acting_calls parts); old = refl; in_with = false; bare = stands_there a i used y.kind y.below left.bare }
  parts_call n m sequence_expression (node expressions j parts nothing) y e =
      let left = one_calls n m (acting parts) y (unless (all_act parts) (as_one n m (acting parts)) y e) in
      record { fewer = Prim.omega (arith, left.fewer, acting_calls parts); old = refl; in_with = false; bare = stands_there a i used y.kind y.below left.bare }
  parts_call n m template_literal (node quasis h texts (node expressions j parts nothing)) y e =
      let left = one_calls n m (acting parts) y (where_so (only_combines template_literal (node quasis h texts (node expressions j parts nothing))) (as_one n m (acting parts)) y e) in
      record { fewer = Prim.omega (arith, left.fewer, acting_calls parts); old = refl; in_with = false; bare = stands_there a i used y.kind y.below left.bare }
  parts_call n m k below y e = no_answer e

list_calls : (a : places.Around) (x y : Tree) → UnusedList a x y → CallsStay a x y
list_calls a _ _ (acting_parts_stay n m x y unused becomes) = parts_call a x.note (unused_as_value a unused) n m x.kind x.below y becomes

-- ---- what comes to stand behind a zero

record CountsCalls (k : Kind) (parts : Forest) (z : Tree) : Type 0 where
  fewer : evals (forest_of z) ≤ evals parts
  old : is_no_name k ≡ true

branch_calls : (t k l : Kind) (m i j : Note) (a b c : Forest) (z : Tree) (truth : Option Bool) → branch_of truth (record { kind = k; note = i; below = b }) (record { kind = l; note = j; below = c }) ≡ Some z
    → CountsCalls conditional_expression (node t m a (node k i b (node l j c nothing))) z
branch_calls t k l m i j a b c z None e = no_answer e
branch_calls t k l m i j a b c z (Some true) e = subst (CountsCalls conditional_expression (node t m a (node k i b (node l j c nothing)))) (same_answer e) (record { fewer = Prim.omega arith; old = refl })
branch_calls t k l m i j a b c z (Some false) e = subst (CountsCalls conditional_expression (node t m a (node k i b (node l j c nothing)))) (same_answer e) (record { fewer = Prim.omega arith; old = refl })

right_calls : (o : LogicalOperator) (t k : Kind) (m i : Note) (a b : Forest) (z : Tree) (right : Option Bool) → if_so right (record { kind = k; note = i; below = b }) ≡ Some z → CountsCalls (logical_expression o) (node t m a (node k i b nothing)) z
right_calls o t k m i a b z None e = no_answer e
right_calls o t k m i a b z (Some true) e = subst (CountsCalls (logical_expression o) (node t m a (node k i b nothing))) (same_answer e) (record { fewer = Prim.omega arith; old = refl })
right_calls o t k m i a b z (Some false) e = no_answer e

part_calls : (k : Kind) (parts : Forest) (z : Tree) → part_counts k parts ≡ Some z → CountsCalls k parts z
part_calls conditional_expression (node t m a (node k i b (node l j c nothing))) z e = branch_calls t k l m i j a b c z _ e
part_calls (logical_expression o) (node t m a (node k i b nothing)) z e = right_calls o t k m i a b z _ e
part_calls k parts z e = no_answer e

-- or behind its test
follows_calls : (a : places.Around) {n m : Note} {x y : Tree} → Follows n m x y → CallsStay a x y
follows_calls a (consequent_follows o p i j t k l d b c acting truth) = record { fewer = Prim.omega arith; old = refl; in_with = false; bare = refl }
follows_calls a (alternate_follows o p i j t k l d b c acting truth) = record { fewer = Prim.omega arith; old = refl; in_with = false; bare = refl }
follows_calls a (right_side_follows q o p i t k d b acting goes) = record { fewer = Prim.omega arith; old = refl; in_with = false; bare = refl }

indirect_calls : (a : places.Around) (x y : Tree) → IndirectChoice a x y → CallsStay a x y
indirect_calls a _ _ (value_alone_counts n m i x z counts itself) =
    let calls = part_calls x.kind x.below z counts in
    record { fewer = Prim.omega (arith, calls.fewer); old = calls.old; in_with = false; bare = refl }
indirect_calls a x y (part_counts_behind_test n m _ _ e) = follows_calls a (part_follows n m x.note x.kind x.below y e)

-- ---- what becomes `&&` or `||`

-- no call of it is a direct one of `eval`, wherever it stands
record LeavesSides (parts : Forest) (y : Tree) : Type 0 where
  fewer : evals (forest_of y) ≤ evals parts
  bare : (u : Use) → stands_bare u false y.kind y.below ≡ true

side_left : (n : Note) (x y z v : Tree) (p q : Bool) → (if p then (if q then None else Some (sides n logical.And x y)) else (if q then Some (sides n logical.Or x z) else None)) ≡ Some v
    → LeavesSides (node x.kind x.note x.below (node y.kind y.note y.below (node z.kind z.note z.below nothing))) v
side_left n x y z v true true e = no_answer e
side_left n x y z v true false e = subst (LeavesSides (node x.kind x.note x.below (node y.kind y.note y.below (node z.kind z.note z.below nothing)))) (same_answer e) (record { fewer = Prim.omega arith; bare = λ u. refl })
side_left n x y z v false true e = subst (LeavesSides (node x.kind x.note x.below (node y.kind y.note y.below (node z.kind z.note z.below nothing)))) (same_answer e) (record { fewer = Prim.omega arith; bare = λ u. refl })
side_left n x y z v false false e = no_answer e

sides_left : (n : Note) (parts : Forest) (y : Tree) → one_side n parts ≡ Some y → LeavesSides parts y
sides_left n (node k i a (node l j b (node h o c nothing))) y e = side_left n (record { kind = k; note = i; below = a }) (record { kind = l; note = j; below = b }) (record { kind = h; note = o; below = c }) y (acts l j b) (acts h o c) e
sides_left n parts y e = no_answer e

one_sided_call : (a : places.Around) (n i : Note) (k : Kind) (parts : Forest) (y : Tree) → one_sided n k parts ≡ Some y → CallsStay a (record { kind = k; note = i; below = parts }) y
one_sided_call a n i conditional_expression parts y e = let left = sides_left n parts y e in record { fewer = Prim.omega (arith, left.fewer); old = refl; in_with = false; bare = left.bare (use_at a) }
one_sided_call a n i k parts y e = no_answer e

one_sided_calls : (a : places.Around) (x y : Tree) → OneSidedChoice a x y → CallsStay a x y
one_sided_calls a _ _ (one_branch_acts n x y unused becomes) = one_sided_call a n x.note x.kind x.below y becomes

-- ---- what idle parts leave

counting_calls : (parts : Forest) → evals (counting parts) ≤ evals parts
counting_calls nothing = Prim.omega arith
counting_calls (absent rest) = counting_calls rest
counting_calls (node k n b rest) = at rest (counting_calls rest)
  where
    if_stays : (stays : Bool) (others left : Forest) → evals left ≤ evals others → evals (if stays then node k n b left else left) ≤ evals (node k n b others)
    if_stays true others left h = Prim.omega (arith, h)
    if_stays false others left h = Prim.omega (arith, h)

    at : (others : Forest) → evals (counting others) ≤ evals others → evals (counting (node k n b others)) ≤ evals (node k n b others)
    at nothing h = Prim.omega arith
    at (absent others) h = if_stays (stays_before k n b) (absent others) (counting (absent others)) h
    at (node l m c others) h = if_stays (stays_before k n b) (node l m c others) (counting (node l m c others)) h

itself_calls : (u : Use) (w : Bool) (b more : Bool) (n : Note) (k : Kind) (i : Note) (a : Forest) (y : Tree) → stands_bare u w k a ≡ b → itself_or_behind b more n (record { kind = k; note = i; below = a }) ≡ Some y → LeavesCalls u w (node k i a nothing) y
itself_calls u w true more n k i a y may e = subst (LeavesCalls u w (node k i a nothing)) (same_answer e) (record { fewer = Prim.omega arith; bare = may })
itself_calls u w false true n k i a y may e = subst (LeavesCalls u w (node k i a nothing)) (same_answer e) (record { fewer = Prim.omega arith; bare = refl })
itself_calls u w false false n k i a y may e = no_answer e

value_calls : (u : Use) (w more : Bool) (n m : Note) (parts : Forest) (y : Tree) → as_value_of u w more n m parts ≡ Some y → LeavesCalls u w parts y
value_calls u w more n m nothing y e = no_answer e
value_calls u w more n m (absent rest) y e = several_call u w n m (absent rest) y e
value_calls u w more n m (node k i b nothing) y e = itself_calls u w (stands_bare u w k b) more n k i b y refl e
value_calls u w more n m (node k i b (node l j c rest)) y e = several_call u w n m (node k i b (node l j c rest)) y e
value_calls u w more n m (node k i b (absent rest)) y e = several_call u w n m (node k i b (absent rest)) y e

sequence_call : (a : places.Around) (w : Bool) (n m i : Note) (k : Kind) (below : Forest) (y : Tree) → sequence_becomes (use_at a) w n m k below ≡ Some y → CallsStay a (record { kind = k; note = i; below = below }) y
sequence_call a w n m i sequence_expression (node expressions j parts nothing) y e =
    let more = more_before parts in
    let left = value_calls (use_at a) w more n m (counting parts) y (unless (all_count parts) (as_value_of (use_at a) w more n m (counting parts)) y e) in
    record { fewer = Prim.omega (arith, left.fewer, counting_calls parts); old = refl; in_with = w; bare = left.bare }
sequence_call a w n m i k below y e = no_answer e

idle_parts_call : (a : places.Around) (x y : Tree) → IdleParts a x y → CallsStay a x y
idle_parts_call a _ _ (idle_parts_leave n m x y becomes) = sequence_call a _ n m x.note x.kind x.below y becomes

-- ---- what becomes a sequence of its sides, or has texts that become empty

sides_call : {n m : Note} {k : Kind} {parts : Forest} {y : Tree} (a : places.Around) (i : Note) → Sides n m k parts y → CallsStay a (record { kind = k; note = i; below = parts }) y
sides_call a i (both_act o k l h j b c combines) = record { fewer = Prim.omega arith; old = refl; in_with = false; bare = refl }
sides_call a i (first_text k l h j b c is) = record { fewer = Prim.omega arith; old = refl; in_with = false; bare = refl }
sides_call a i (second_text k l h j b c is) = record { fewer = Prim.omega arith; old = refl; in_with = false; bare = refl }
sides_call a i (no_texts h j texts parts has) = record { fewer = Prim.omega (arith, elements_evals texts); old = refl; in_with = false; bare = refl }

two_sides_calls : (a : places.Around) (x y : Tree) → TwoSides a x y → CallsStay a x y
two_sides_calls a _ _ (both_sides_act n m x y unused becomes) = sides_call a x.note (are_sides n m x.kind x.below y becomes)

-- ---- what becomes its keys and values that act

joined_calls : (t u : Forest) → evals (joined t u) ≡ evals t + evals u
joined_calls nothing u = Prim.omega arith
joined_calls (absent t) u = joined_calls t u
joined_calls (node k n b t) u = Prim.omega (arith, joined_calls t u)

keys_and_values_call : (es : Forest) → evals (keys_and_values es) ≤ evals es
keys_and_values_call nothing = Prim.omega arith
keys_and_values_call (absent rest) = keys_and_values_call rest
keys_and_values_call (node k n below rest) = Prim.omega (arith, joined_calls below (keys_and_values rest), keys_and_values_call rest)

module _ (a : places.Around) (i : Note) (used : use_at a ≡ as_value) where
  object_call : (n m : Note) (k : Kind) (below : Forest) (y : Tree) → object_becomes n m k below ≡ Some y → CallsStay a (record { kind = k; note = i; below = below }) y
  object_call n m object_expression (node properties j es nothing) y e =
      let parts = keys_and_values es in
      let left = one_calls n m (acting parts) y (where_so (all_come_apart es) (as_one n m (acting parts)) y e) in
      record { fewer = Prim.omega (arith, left.fewer, acting_calls parts, keys_and_values_call es); old = refl; in_with = false; bare = stands_there a i used y.kind y.below left.bare }
  object_call n m k below y e = no_answer e

object_calls : (a : places.Around) (x y : Tree) → UnusedObject a x y → CallsStay a x y
object_calls a _ _ (acting_values_stay n m x y unused becomes) = object_call a x.note (unused_as_value a unused) n m x.kind x.below y becomes

-- ---- what becomes a literal, or unary minus on one

no_literal : {P : Type 0} {v : LiteralValue} → None ≡ Some v → P
no_literal e = absurd Prim.cc

known_is_no_name : (k : Kind) (n : Note) (below : Forest) (v : LiteralValue) → known_literal k n below ≡ Some v → is_no_name k ≡ true
known_is_no_name (unary_expression o) n below v e = refl
known_is_no_name (binary_expression o) n below v e = refl
known_is_no_name k n below v e = no_literal e

negative_is_no_name : (k : Kind) (n : Note) (below : Forest) (i : ℕ) → Negative k n below i → is_no_name k ≡ true
negative_is_no_name _ n below i (under_one o _ _ _ idle may is) = refl
negative_is_no_name _ n below i (under_two o _ _ _ idle may is) = refl

known_calls : (a : places.Around) (x y : Tree) → KnownOperation a x y → CallsStay a x y
known_calls a _ _ (value_is_known i v x known) = record { fewer = Prim.omega arith; old = known_is_no_name x.kind x.note x.below v known; in_with = false; bare = refl }
known_calls a _ _ (negative_is_known i j m x known) = record { fewer = Prim.omega arith; old = negative_is_no_name x.kind x.note x.below m (is_negative_known x.kind x.note x.below m known); in_with = false; bare = refl }

-- ---- what the rules answer

one_of : (o p : Option Tree) (y : Tree) → or_else o p ≡ Some y → (o ≡ Some y) ⊎ (p ≡ Some y)
one_of None p y e = inr e
one_of (Some x) p y e = inl e

abbrev answer_at : Spot → Tree → Option Tree
answer_at s x = or_else (or_else (or_else (or_else (or_else (or_else (or_else (or_else (or_else (conditional_becomes s x.kind x.below) (logical_becomes s x.kind x.below)) (unused_becomes s x.kind x.below)) (unused_list_becomes s x.note x.kind x.below)) (indirect_becomes s x.note x.kind x.below)) (one_sided_becomes s x.note x.kind x.below)) (sequence_left s x.note x.kind x.below)) (two_sides_become s x.note x.kind x.below)) (object_left s x.note x.kind x.below)) (known_becomes x.note x.kind x.below)

calls_stay : (c : Seen) (a : Around) (x y : Tree) (r : Forest) → IsHere c a r → at_expression_end c x ≡ Some y → CallsStay (before a r) x y
calls_stay c a x y r here found =
    let s = spot_of (place_at a (goes_on r)) in
    let known = or_else (conditional_becomes s x.kind x.below) (logical_becomes s x.kind x.below) in
    let none_taken = or_else known (unused_becomes s x.kind x.below) in
    let itself = or_else none_taken (unused_list_becomes s x.note x.kind x.below) in
    let its_value = or_else itself (indirect_becomes s x.note x.kind x.below) in
    let but_sequences = or_else its_value (one_sided_becomes s x.note x.kind x.below) in
    let to_sequences = or_else but_sequences (sequence_left s x.note x.kind x.below) in
    let but_objects = or_else to_sequences (two_sides_become s x.note x.kind x.below) in
    let but_operations = or_else but_objects (object_left s x.note x.kind x.below) in
    let there : or_else but_operations (known_becomes x.note x.kind x.below) ≡ Some y = subst (λ q. answer_at (spot_of q) x ≡ Some y) (sym here) found in
    elim (one_of but_operations (known_becomes x.note x.kind x.below) y there) [
      | inl z ↦ elim (one_of but_objects (object_left s x.note x.kind x.below) y z) [
        | inl w ↦ elim (one_of to_sequences (two_sides_become s x.note x.kind x.below) y w) [
          | inl v ↦ elim (one_of but_sequences (sequence_left s x.note x.kind x.below) y v) [
            | inl h ↦ elim (one_of its_value (one_sided_becomes s x.note x.kind x.below) y h) [
              | inl g ↦ elim (one_of itself (indirect_becomes s x.note x.kind x.below) y g) [
                | inl f ↦ elim (one_of none_taken (unused_list_becomes s x.note x.kind x.below) y f) [
                  | inl e ↦ elim (one_of known (unused_becomes s x.kind x.below) y e) [
                    | inl d ↦ elim (one_of (conditional_becomes s x.kind x.below) (logical_becomes s x.kind x.below) y d) [
                      | inl conditional ↦ conditional_calls (before a r) x y (conditional_edits_there a x y r conditional)
                      | inr logical ↦ side_calls (before a r) x y (logical_edits_there a x y r logical)
                    ]
                    | inr operation ↦ operations_call (unused_edits_there a x y r operation)
                  ]
                  | inr parts ↦ list_calls (before a r) x y (list_edits_there a x y r parts)
                ]
                | inr indirect ↦ indirect_calls (before a r) x y (indirect_edits_there a x y r indirect)
              ]
              | inr one_sided ↦ one_sided_calls (before a r) x y (one_sided_edits_there a x y r one_sided)
            ]
            | inr sequence ↦ idle_parts_call (before a r) x y (sequence_edits_there a x y r sequence)
          ]
          | inr sides ↦ two_sides_calls (before a r) x y (two_sides_edits_there a x y r sides)
        ]
        | inr values ↦ object_calls (before a r) x y (object_edits_there a x y r values)
      ]
      | inr value ↦ known_calls (before a r) x y (known_edits (before a r) x y value)
    ]

module _ (stays : Stays AnyEdit) (names : Names) where
  -- of any lawful rule that makes no call a direct one of `eval`
  pub rule_moves : (rule : Rule) → Lawful AnyEdit rule → ((c : Seen) (a : Around) (x y : Tree) (r : Forest) → IsHere c a r → rule c x ≡ Some y → CallsStay (before a r) x y) → {c d : Seen} {x y : Tree} {answer : Bool} → Does rule c x answer d y
      → NodeMoves Names AnyEdit (Holds Own) names c x names d y
  rule_moves rule lawful calls {c = c} {d = d} {x = x} {y = y} does = go (rule c x) refl
    where
      go : (o : Option Tree) → rule c x ≡ o → NodeMoves Names AnyEdit (Holds Own) names c x names d y
      go None is =
          let e : Edited c x y false d = subst (λ o. Edited c x y (is_some o) d) is does.edited in
          stayed stays names (does.tree ∙ ap (or_same x) is) (e.none refl)
      go (Some z) is =
          let found : rule c x ≡ Some y = is ∙ ap Some (sym (does.tree ∙ ap (or_same x) is)) in
          let e : Edited c x y true d = subst (λ o. Edited c x y (is_some o) d) is does.edited in
          moves stays names (λ a r p h. as_tree_edits (lawful.edits c a x y r h.0 p found)) (lawful.thins c x y found) (lawful.lighter c x y found) (λ a r p. calls c a x y r p found) e

  pub expression_moves : {c d : Seen} {x y : Tree} {answer : Bool} → Does at_expression_end c x answer d y → NodeMoves Names AnyEdit (Holds Own) names c x names d y
  expression_moves does = rule_moves at_expression_end (expressions_fold AnyEdit (λ o t u e. e)) calls_stay does

module _ (names : Names) {c d : Seen} {x y : Tree} {answer : Bool} (quiet : d.requested ≡ false) where
  pub rule_visits : (rule : Rule) → Does rule c x answer d y → Found (is_some (rule c x)) names c names d
  rule_visits rule does = go (rule c x) refl
    where
      go : (o : Option Tree) → rule c x ≡ o → Found (is_some (rule c x)) names c names d
      go None is =
          let e : Edited c x y false d = subst (λ o. Edited c x y (is_some o) d) is does.edited in
          record { names_same = refl; context_same = e.none refl; none = ap is_some is }
      go (Some z) is =
          let e : Edited c x y true d = subst (λ o. Edited c x y (is_some o) d) is does.edited in
          asked_true c.requested (sym e.asked ∙ quiet)

  pub expression_visits : Does at_expression_end c x answer d y → Found (is_some (at_expression_end c x)) names c names d
  expression_visits does = rule_visits at_expression_end does
