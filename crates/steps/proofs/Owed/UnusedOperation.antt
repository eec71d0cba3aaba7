-- What an operation owes of which nobody takes the value, and which becomes the operand that acts.
use Rattle.std.proofs.Common.{◌≡◌, ℕ, [], ◌∷◌, Bool, true, false, not, ◌&&◌, ◌||◌, Option, Some, None, true≢false, arith, refl, sym, ap, ◌∙◌, subst}
use Rattle.std.specs.Prelude.{if◌then◌else◌}
use Rattle.js_syntax.specs.Class.{Class, root, expression}
use Rattle.js_syntax.specs.declared.node_kind.NodeKind.{NodeKind as Kind}
use Rattle.js_syntax.specs.declared.node_kind.NodeKind.TheVariants.{UnaryExpression as unary_expression, BinaryExpression as binary_expression, LogicalExpression as logical_expression, ConditionalExpression as conditional_expression}
use Rattle.js_syntax.specs.declared.kind.FunctionKind.TheVariants as function_kind
use Rattle.js_syntax.specs.declared.operator.UnaryOperator.{UnaryOperator}
use Rattle.js_syntax.specs.declared.operator.BinaryOperator.{BinaryOperator}
use Rattle.js_syntax.specs.declared.operator.BinaryOperator.TheVariants as binary
use Rattle.js_syntax.specs.declared.operator.LogicalOperator.{LogicalOperator}
use Rattle.js_syntax.specs.Core.{is_core_binary}
use Rattle.js_syntax.specs.Facts.{is_core}
use Rattle.js_syntax.specs.Node.{Note, Forest, Tree, nothing, node, total}
use Rattle.js_syntax.proofs.Truth.{first_of_both, second_of_both, first_of_neither, second_of_neither, not_true}
use Rattle.js_meaning_near.specs.Names.{Names}
use Rattle.js_meaning_near.specs.Near.{is_blunt, hoists_nothing, SameEffects}
use Rattle.js_meaning_near.specs.Bare as runs
use Rattle.js_meaning_near.specs.Local.{Stands}
use Rattle.js_meaning_near.specs.Near.{module_of}
use Rattle.js_meaning_near.specs.Purpose.{ForEffect}
use Rattle.js_effects.specs.Silence.{only_combines}
use Rattle.js_meaning_near.specs.Unused.{all_needed, needed, not_needed, only_answers, kind_of, below_of}
use Rattle.js_meaning_near.proofs.Spared.{spared, unary_wasted, binary_wasted, logical_wasted, conditional_wasted}
use Rattle.js_meaning.specs.Node.{Wanted}
use Rattle.json_shape.specs.Shape.{is_in, one as one_place, these, Fits}
use Rattle.form_rules.specs.Form.{IsWellFormed}
use Rattle.scope_counts.proofs.Leaving.{logical_is_plain, conditional_is_plain}
use Rattle.scope_counts.proofs.Rebuilding.{operation_is_plain}
use Rattle.scope_laws.specs.Place.{Around, plug}
use Rattle.steps.specs.Steps.{all_core}
use Rattle.steps.specs.Allowed.Child.{child_at}
use Rattle.steps.specs.Allowed.Unused.{is_unused_at}
use Rattle.steps.specs.Allowed.Uses.{Use, as_value, as_callee, as_deleted, operand_of, stands_bare}
use Rattle.steps.specs.Allowed.Wanted.{wanted_at}
use Rattle.steps.specs.Allowed.UnusedOperation.{acts, is_needed, index_if, operand_needed, side_needed, needed_at, UnusedOperation, one_operand_acts}
use Rattle.steps.proofs.Fit.CoreCalm.{nameless_as_planned}
use Rattle.steps.proofs.Fit.Held.{core_here, core_below, core_behind, core_alone}
use Rattle.steps.specs.Owed.Comes.{Comes}
use Rattle.steps.specs.Owed.Owed.{ComesOut, ByPart}
use Rattle.steps.proofs.Owed.Bare.{wanted_for, bare_for_runs}
use Rattle.steps.proofs.Owed.BranchKinds.{IsExpression, expression_told, no_statement, bare_unasked}
use Rattle.steps.proofs.Owed.ByPart.{part_lighter}
use Rattle.steps.proofs.Owed.ChoiceParts.{Two, operand_of_unary, sides_of_binary, sides_of_logical, parts_of_conditional}
use Rattle.steps.proofs.Owed.ChoiceRuns.{core_there, no_imports_below}
use Rattle.steps.proofs.Owed.Expressions.{expression_declares_nothing}
use Rattle.steps.proofs.Owed.Outward.{declares_row}
use Rattle.steps.proofs.Owed.FitsTaking.{as_unary, unary_stood, as_binary, binary_stood, as_logical, logical_stood, as_conditional, conditional_stood}
use Rattle.steps.proofs.Owed.PartForm.{none_of_binary, none_of_logical, none_of_conditional}
use Rattle.steps.proofs.Owed.SilentAnywhere.{silent_anywhere}
use Rattle.steps.proofs.Owed.Undeclared.{DeclaresNothing, nothing_behind, both_plainly}
use Rattle.steps.proofs.Owed.UnusedPlace.{unused_for_effect, unused_as_value}
use Rattle.steps.proofs.Owed.Wanting.{operand_wanted}

-- ---- which operand, by the operation

abbrev tree : Kind → Note → (below : Forest) → Tree
tree k n below = record { kind = k; note = n; below = below }

pub data Needed : Kind → (parts : Forest) → Tree → Type 0 where
  the_operand : (o : UnaryOperator) (k : Kind) (n : Note) (a : Forest) → only_combines (unary_expression o) (node k n a nothing) ≡ true → stands_bare (operand_of o) false k a ≡ true → Needed (unary_expression o) (node k n a nothing) (tree k n a)
  first_side : (o : BinaryOperator) (k l : Kind) (n m : Note) (a b : Forest) → only_combines (binary_expression o) (node k n a (node l m b nothing)) ≡ true → acts l m b ≡ false → stands_bare as_value false k a ≡ true
      → Needed (binary_expression o) (node k n a (node l m b nothing)) (tree k n a)
  second_side : (o : BinaryOperator) (k l : Kind) (n m : Note) (a b : Forest) → only_combines (binary_expression o) (node k n a (node l m b nothing)) ≡ true → acts k n a ≡ false → stands_bare as_value false l b ≡ true
      → Needed (binary_expression o) (node k n a (node l m b nothing)) (tree l m b)
  left_side : (o : LogicalOperator) (k l : Kind) (n m : Note) (a b : Forest) → acts l m b ≡ false → stands_bare as_value false k a ≡ true
      → Needed (logical_expression o) (node k n a (node l m b nothing)) (tree k n a)
  the_condition : (k l j : Kind) (n m i : Note) (a b c : Forest) → acts l m b ≡ false → acts j i c ≡ false → stands_bare as_value false k a ≡ true
      → Needed conditional_expression (node k n a (node l m b (node j i c nothing))) (tree k n a)

index_is : (b : Bool) (i j : ℕ) → index_if b i ≡ Some j → (b ≡ true) × (i ≡ j)
index_is true i j e = (refl, cc e)
index_is false i j e = absurd cc

there : (k : Kind) (parts : Forest) (x y : Tree) (i j : ℕ) → i ≡ j → child_at i parts ≡ Some x → child_at j parts ≡ Some y → Needed k parts x → Needed k parts y
there k parts x y i j same e f h = subst (Needed k parts) (cc (sym e ∙ ap (λ i. child_at i parts) same ∙ f)) h

by_sides : (o : BinaryOperator) (k l : Kind) (n m : Note) (a b : Forest) (i : ℕ) (y : Tree) (second : Bool) → only_combines (binary_expression o) (node k n a (node l m b nothing)) ≡ true → acts l m b ≡ second
    → (if second then index_if (not (acts k n a) && stands_bare as_value false l b) 1 else index_if (is_needed as_value k n a) 0) ≡ Some i
    → child_at i (node k n a (node l m b nothing)) ≡ Some y → Needed (binary_expression o) (node k n a (node l m b nothing)) y
by_sides o k l n m a b i y true combines is e at =
    let h = index_is (not (acts k n a) && stands_bare as_value false l b) 1 i e in
    there (binary_expression o) (node k n a (node l m b nothing)) (tree l m b) y 1 i h.1 refl at
    (second_side o k l n m a b combines
    (not_true (acts k n a) (first_of_both (not (acts k n a)) (stands_bare as_value false l b) h.0)) (second_of_both (not (acts k n a)) (stands_bare as_value false l b) h.0))
by_sides o k l n m a b i y false combines is e at =
    let h = index_is (is_needed as_value k n a) 0 i e in
    there (binary_expression o) (node k n a (node l m b nothing)) (tree k n a) y 0 i h.1 refl at
    (first_side o k l n m a b combines is (second_of_both (acts k n a) (stands_bare as_value false k a) h.0))

-- of an operation that does nothing itself
when_combines : (b : Bool) (o : Option ℕ) (i : ℕ) → (if b then o else None) ≡ Some i → (b ≡ true) × (o ≡ Some i)
when_combines true o i e = (refl, e)
when_combines false o i e = absurd cc

none_needed : {i : ℕ} (b : Bool) → (if b then None else None) ≡ Some i → ⊥
none_needed true e = cc
none_needed false e = cc

pub needed_part : (k : Kind) (parts : Forest) (i : ℕ) (y : Tree) → needed_at k parts ≡ Some i → child_at i parts ≡ Some y → Needed k parts y
needed_part (unary_expression o) (node k n a nothing) i y e at =
    let w = when_combines (only_combines (unary_expression o) (node k n a nothing)) (operand_needed (operand_of o) (node k n a nothing)) i e in
    let h = index_is (is_needed (operand_of o) k n a) 0 i w.1 in
    there (unary_expression o) (node k n a nothing) (tree k n a) y 0 i h.1 refl at
    (the_operand o k n a w.0 (second_of_both (acts k n a) (stands_bare (operand_of o) false k a) h.0))
needed_part (unary_expression o) parts i y e at = absurd (none_needed (only_combines (unary_expression o) parts) e)
needed_part (binary_expression o) (node k n a (node l m b nothing)) i y e at =
    let w = when_combines (only_combines (binary_expression o) (node k n a (node l m b nothing))) (side_needed (node k n a (node l m b nothing))) i e in
    by_sides o k l n m a b i y (acts l m b) w.0 refl w.1 at
needed_part (binary_expression o) parts i y e at = absurd (none_needed (only_combines (binary_expression o) parts) e)
needed_part (logical_expression o) (node k n a (node l m b nothing)) i y e at =
    let h = index_is (not (acts l m b) && is_needed as_value k n a) 0 i e in
    there (logical_expression o) (node k n a (node l m b nothing)) (tree k n a) y 0 i h.1 refl at
    (left_side o k l n m a b (not_true (acts l m b) (first_of_both (not (acts l m b)) (is_needed as_value k n a) h.0))
    (second_of_both (acts k n a) (stands_bare as_value false k a) (second_of_both (not (acts l m b)) (is_needed as_value k n a) h.0)))
needed_part conditional_expression (node k n a (node l m b (node j z c nothing))) i y e at =
    let h = index_is (not (acts l m b || acts j z c) && is_needed as_value k n a) 0 i e in
    let idle = not_true (acts l m b || acts j z c) (first_of_both (not (acts l m b || acts j z c)) (is_needed as_value k n a) h.0) in
    there conditional_expression (node k n a (node l m b (node j z c nothing))) (tree k n a) y 0 i h.1 refl at
    (the_condition k l j n m z a b c (first_of_neither (acts l m b) (acts j z c) idle) (second_of_neither (acts l m b) (acts j z c) idle)
    (second_of_both (acts k n a) (stands_bare as_value false k a) (second_of_both (not (acts l m b || acts j z c)) (is_needed as_value k n a) h.0)))
needed_part k parts i y e at = absurd cc

-- ---- runs

-- what may stand bare starts nothing where its scope is entered
pub bare_hoists : (w : Wanted) (k : Kind) (b : Forest) → runs.stands_bare w k b ≡ true → hoists_nothing k ≡ true
bare_hoists w (Kind.ReferenceName x) b h = refl
bare_hoists w (Kind.MemberExpression key optional) b h = refl
bare_hoists w Kind.ParenthesizedExpression b h = refl
bare_hoists w (Kind.Function function_kind.Expression pure) b h = refl
bare_hoists w (Kind.Function function_kind.Arrow pure) b h = refl
bare_hoists w (Kind.Literal v) b h = refl
bare_hoists w Kind.ThisExpression b h = refl
bare_hoists w Kind.ArrayExpression b h = refl
bare_hoists w Kind.ObjectExpression b h = refl
bare_hoists w Kind.SequenceExpression b h = refl
bare_hoists w (Kind.UnaryExpression o) b h = refl
bare_hoists w (Kind.UpdateExpression o prefix) b h = refl
bare_hoists w (Kind.BinaryExpression o) b h = refl
bare_hoists w (Kind.LogicalExpression o) b h = refl
bare_hoists w (Kind.AssignmentExpression o) b h = refl
bare_hoists w Kind.ConditionalExpression b h = refl
bare_hoists w (Kind.CallExpression optional pure) b h = refl
bare_hoists w (Kind.NewExpression pure) b h = refl
bare_hoists w k b h = absurd cc

module _ (a : Around) (effect : ForEffect (wanted_at a)) where
  -- where the operand alone has effects
  wasted : (k : Kind) (n : Note) (parts : Forest) (l : Kind) (m : Note) (b : Forest) (u : Use) → is_blunt k ≡ true → IsExpression l b → all_core (node l m b nothing) ≡ true → stands_bare u false l b ≡ true
      → ((st : Names) → SameEffects st (node k n parts nothing) (kind_of (node l m b nothing)) (below_of n (node l m b nothing)) (node l m b nothing) (node l m b nothing)) → Stands (wanted_at a) k parts l b
  wasted k n parts l m b u blunt of core bare same =
      spared (wanted_at a) k n n parts (node l m b nothing) effect tt blunt (bare_hoists (wanted_for u) l b (bare_for_runs u false l m b of core bare)) same

-- ---- each shape of an operation, and the operand that stays

value_not_deleted : as_value ≡ as_deleted → ⊥
value_not_deleted e = cc

value_not_called : as_value ≡ as_callee → ⊥
value_not_called e = cc

pub comes_out : (a : Around) (y : Tree) → is_unused_at a ≡ true → ComesOut a y
comes_out a y unused = record {
  undeleted = λ e. absurd (value_not_deleted (sym (unused_as_value a unused) ∙ e));
  uncalled = λ e. absurd (value_not_called (sym (unused_as_value a unused) ∙ e));
}

abbrev Whole : Note → Note → Forest → Around → Tree → Type 0
Whole p q r a x = (plug a (Some x) ≡ module_of p q r) × (Fits root (module_of p q r) × (IsWellFormed (module_of p q r) × (all_core (module_of p q r) ≡ true)))

-- the operation that stands there is core
operator_core : {p q : Note} {r : Forest} (a : Around) (x : Tree) → Whole p q r a x → is_core x.kind ≡ true
operator_core a x (is, (fits, (form, core))) = core_here x.kind x.note x.below nothing (core_there a x (subst (λ t. all_core t ≡ true) (sym is) core))

-- what does nothing itself asks no object
pub combines_not_in : (o : BinaryOperator) (sides : Forest) → only_combines (binary_expression o) sides ≡ true → is_in o ≡ false
combines_not_in binary.In sides h = absurd (true≢false (sym h))
combines_not_in o sides h = refl

pub combines_answers : (o : BinaryOperator) (sides : Forest) → only_combines (binary_expression o) sides ≡ true → is_core_binary o ≡ true → only_answers o ≡ true
combines_answers binary.In sides h core = absurd (true≢false (sym h))
combines_answers binary.Instanceof sides h core = absurd (true≢false (sym h))
combines_answers o sides h core = core

module _ (a : Around) (unused : is_unused_at a ≡ true) (n : Note) where
  module _ (o : UnaryOperator) (k : Kind) (m : Note) (b : Forest) (total : only_combines (unary_expression o) (node k m b nothing) ≡ true) (bare : stands_bare (operand_of o) false k b ≡ true) where
    abbrev operand : Forest
    operand = node k m b nothing

    abbrev unary : Tree
    unary = tree (unary_expression o) n operand

    operand_comes : (p q : Note) (r : Forest) → Whole p q r a unary → Comes a unary (tree k m b)
    operand_comes p q r (is, (fits, (form, core))) =
        let one = operand_of_unary a o n operand (subst (Fits root) (sym is) fits) in
        let below = core_below (unary_expression o) n operand nothing (core_there a unary (subst (λ t. all_core t ≡ true) (sym is) core)) in
        let none : DeclaresNothing operand = record { bound = nameless_as_planned operand (these (one_place expression ∷ [])) refl one below; imports = no_imports_below p q r a unary (tree k m b) is fits form core (unary_expression o) refl refl (λ s i. refl) } in
        record {
          inner = b;
          same = refl;
          stands = wasted a (unused_for_effect a unused) (unary_expression o) n operand k m b (operand_of o) refl one.0 below bare
              (λ st. unary_wasted st o k n m n b operand (operator_core a unary (is, (fits, (form, core)))) (subst (λ w. runs.stands_bare w k b ≡ true) (sym (operand_wanted o)) (bare_for_runs (operand_of o) false k m b one.0 below bare)) (needed all_needed));
          old_calm = refl;
          declares = both_plainly (unary_expression o) operand k m b nothing refl none none;
          core = λ c. core_below (unary_expression o) n operand nothing c;
        }

    operand_owes : ByPart a unary (tree k m b)
    operand_owes = record {
      lighter = part_lighter (unary_expression o) k n m operand b nothing nothing (Prim.omega arith) refl;
      no_call = record { counts = refl; lists = λ i. refl; begins = λ i. refl; calls = refl };
      ends = refl;
      may_change = refl;
      takes = λ fits. let one = operand_of_unary a o n operand fits in record { classes = λ (to : Class) f. (as_unary k b to (unary_stood to n operand o f) one.0, tt); old_told = refl; new_told = expression_told k b one.0 };
      stands = λ fits.
          let one = operand_of_unary a o n operand fits in
          record { before = nothing; after = nothing; note = m; is_part = refl; gives = refl; unasked = bare_unasked k b one.0 (operand_of o) false bare; alike = no_statement k b one.0; none_before = λ s p. refl; none_after = λ s p. refl };
      comes_out = comes_out a (tree k m b) unused;
      part = λ fits. record { before = nothing; after = nothing; stands = refl; plain = operation_is_plain (unary_expression o) refl; before_declares = λ aims at. refl; after_declares = λ aims at. refl };
      coming = λ p q r is fits form core. operand_comes p q r (is, (fits, (form, core)));
    }

  module _ (k l : Kind) (m i : Note) (b c : Forest) where
    abbrev left : Forest
    left = node k m b nothing

    abbrev right : Forest
    right = node l i c nothing

    abbrev sides : Forest
    sides = node k m b right

    module _ (o : BinaryOperator) (comparing : only_combines (binary_expression o) sides ≡ true) where
      abbrev comparison : Tree
      comparison = tree (binary_expression o) n sides

      sides_there : Fits root (plug a (Some comparison)) → Two sides
      sides_there fits = sides_of_binary a o (combines_not_in o sides comparing) n sides fits

      sides_core : (p q : Note) (r : Forest) → Whole p q r a comparison → all_core sides ≡ true
      sides_core p q r (is, (fits, (form, core))) = core_below (binary_expression o) n sides nothing (core_there a comparison (subst (λ t. all_core t ≡ true) (sym is) core))

      sides_declare_none : (p q : Note) (r : Forest) (y : Tree) → Whole p q r a comparison → DeclaresNothing sides
      sides_declare_none p q r y (is, (fits, (form, core))) = record {
        bound = nameless_as_planned sides (these (one_place expression ∷ one_place expression ∷ [])) refl (sides_there (subst (Fits root) (sym is) fits)) (sides_core p q r (is, (fits, (form, core))));
        imports = no_imports_below p q r a comparison y is fits form core (binary_expression o) refl refl (λ s i. refl);
      }

      module _ (idle : acts l i c ≡ false) (bare : stands_bare as_value false k b ≡ true) where
        first_comes : (p q : Note) (r : Forest) → Whole p q r a comparison → Comes a comparison (tree k m b)
        first_comes p q r whole =
            let two = sides_there (subst (Fits root) (sym whole.0) whole.1.0) in
            let none = sides_declare_none p q r (tree k m b) whole in
            record {
              inner = b;
              same = refl;
              stands = wasted a (unused_for_effect a unused) (binary_expression o) n sides k m b as_value refl two.0 (core_alone k m b right (sides_core p q r whole)) bare
                  (λ st. binary_wasted st o k l n m i n b c left (combines_answers o sides comparing (operator_core a comparison whole)) (needed (not_needed (silent_anywhere st l i c idle) all_needed)));
              old_calm = refl;
              declares = both_plainly (binary_expression o) sides k m b right refl none none;
              core = λ d. core_alone k m b right (core_below (binary_expression o) n sides nothing d);
            }

        first_owes : ByPart a comparison (tree k m b)
        first_owes = record {
          lighter = part_lighter (binary_expression o) k n m sides b nothing right (Prim.omega arith) refl;
          no_call = record { counts = refl; lists = λ i. refl; begins = λ i. refl; calls = refl };
          ends = refl;
          may_change = refl;
          takes = λ fits. let two = sides_there fits in record { classes = λ (to : Class) f. (as_binary k b to (binary_stood to n sides o f) two.0, tt); old_told = refl; new_told = expression_told k b two.0 };
          stands = λ fits.
              let two = sides_there fits in
              record { before = nothing; after = right; note = m; is_part = refl; gives = refl; unasked = bare_unasked k b two.0 as_value false bare; alike = no_statement k b two.0; none_before = λ s p. refl; none_after = none_of_binary o right };
          comes_out = comes_out a (tree k m b) unused;
          part = λ fits. record { before = nothing; after = right; stands = refl; plain = operation_is_plain (binary_expression o) refl; before_declares = λ aims at. refl; after_declares = expression_declares_nothing right ((sides_there fits).1.0, tt) };
          coming = λ p q r is fits form core. first_comes p q r (is, (fits, (form, core)));
        }

      module _ (idle : acts k m b ≡ false) (bare : stands_bare as_value false l c ≡ true) where
        second_comes : (p q : Note) (r : Forest) → Whole p q r a comparison → Comes a comparison (tree l i c)
        second_comes p q r whole =
            let two = sides_there (subst (Fits root) (sym whole.0) whole.1.0) in
            let none = sides_declare_none p q r (tree l i c) whole in
            record {
              inner = c;
              same = refl;
              stands = wasted a (unused_for_effect a unused) (binary_expression o) n sides l i c as_value refl two.1.0 (core_behind k m b right (sides_core p q r whole)) bare
                  (λ st. binary_wasted st o k l n m i n b c right (combines_answers o sides comparing (operator_core a comparison whole)) (not_needed (silent_anywhere st k m b idle) (needed all_needed)));
              old_calm = refl;
              declares = both_plainly (binary_expression o) sides l i c nothing refl none (nothing_behind k m b right none);
              core = λ d. core_behind k m b right (core_below (binary_expression o) n sides nothing d);
            }

        second_owes : ByPart a comparison (tree l i c)
        second_owes = record {
          lighter = part_lighter (binary_expression o) l n i sides c left nothing (Prim.omega arith) refl;
          no_call = record { counts = refl; lists = λ i. refl; begins = λ i. refl; calls = refl };
          ends = refl;
          may_change = refl;
          takes = λ fits. let two = sides_there fits in record { classes = λ (to : Class) f. (as_binary l c to (binary_stood to n sides o f) two.1.0, tt); old_told = refl; new_told = expression_told l c two.1.0 };
          stands = λ fits.
              let two = sides_there fits in
              record { before = left; after = nothing; note = i; is_part = refl; gives = refl; unasked = bare_unasked l c two.1.0 as_value false bare; alike = no_statement l c two.1.0; none_before = none_of_binary o left; none_after = λ s p. refl };
          comes_out = comes_out a (tree l i c) unused;
          part = λ fits. record { before = left; after = nothing; stands = refl; plain = operation_is_plain (binary_expression o) refl; before_declares = expression_declares_nothing left ((sides_there fits).0, tt); after_declares = λ aims at. refl };
          coming = λ p q r is fits form core. second_comes p q r (is, (fits, (form, core)));
        }

    module _ (o : LogicalOperator) (idle : acts l i c ≡ false) (bare : stands_bare as_value false k b ≡ true) where
      abbrev logical : Tree
      logical = tree (logical_expression o) n sides

      left_comes : (p q : Note) (r : Forest) → Whole p q r a logical → Comes a logical (tree k m b)
      left_comes p q r (is, (fits, (form, core))) =
          let two = sides_of_logical a o n sides (subst (Fits root) (sym is) fits) in
          let below = core_below (logical_expression o) n sides nothing (core_there a logical (subst (λ t. all_core t ≡ true) (sym is) core)) in
          let none : DeclaresNothing sides = record { bound = nameless_as_planned sides (these (one_place expression ∷ one_place expression ∷ [])) refl two below; imports = no_imports_below p q r a logical (tree k m b) is fits form core (logical_expression o) refl refl (λ s i. refl) } in
          record {
            inner = b;
            same = refl;
            stands = wasted a (unused_for_effect a unused) (logical_expression o) n sides k m b as_value refl two.0 (core_alone k m b right below) bare
                (λ st. logical_wasted st o k l n m i n b c left (silent_anywhere st l i c idle) (needed all_needed));
            old_calm = refl;
            declares = both_plainly (logical_expression o) sides k m b right refl none none;
            core = λ d. core_alone k m b right (core_below (logical_expression o) n sides nothing d);
          }

      left_owes : ByPart a logical (tree k m b)
      left_owes = record {
        lighter = part_lighter (logical_expression o) k n m sides b nothing right (Prim.omega arith) refl;
        no_call = record { counts = refl; lists = λ i. refl; begins = λ i. refl; calls = refl };
        ends = refl;
        may_change = refl;
        takes = λ fits. let two = sides_of_logical a o n sides fits in record { classes = λ (to : Class) f. (as_logical k b to (logical_stood to n sides o f) two.0, tt); old_told = refl; new_told = expression_told k b two.0 };
        stands = λ fits.
            let two = sides_of_logical a o n sides fits in
            record { before = nothing; after = right; note = m; is_part = refl; gives = refl; unasked = bare_unasked k b two.0 as_value false bare; alike = no_statement k b two.0; none_before = λ s p. refl; none_after = none_of_logical o right };
        comes_out = comes_out a (tree k m b) unused;
        part = λ fits. record { before = nothing; after = right; stands = refl; plain = logical_is_plain o; before_declares = λ aims at. refl; after_declares = expression_declares_nothing right ((sides_of_logical a o n sides fits).1.0, tt) };
        coming = λ p q r is fits form core. left_comes p q r (is, (fits, (form, core)));
      }

    module _ (z : Kind) (j : Note) (d : Forest) (idle : acts l i c ≡ false) (idle_too : acts z j d ≡ false) (bare : stands_bare as_value false k b ≡ true) where
      abbrev branches : Forest
      branches = node l i c (node z j d nothing)

      abbrev choice : Forest
      choice = node k m b branches

      abbrev conditional : Tree
      conditional = tree conditional_expression n choice

      condition_comes : (p q : Note) (r : Forest) → Whole p q r a conditional → Comes a conditional (tree k m b)
      condition_comes p q r (is, (fits, (form, core))) =
          let three = parts_of_conditional a n choice (subst (Fits root) (sym is) fits) in
          let below = core_below conditional_expression n choice nothing (core_there a conditional (subst (λ t. all_core t ≡ true) (sym is) core)) in
          let none : DeclaresNothing choice = record { bound = nameless_as_planned choice (these (one_place expression ∷ one_place expression ∷ one_place expression ∷ [])) refl three below; imports = no_imports_below p q r a conditional (tree k m b) is fits form core conditional_expression refl refl (λ s i. refl) } in
          record {
            inner = b;
            same = refl;
            stands = wasted a (unused_for_effect a unused) conditional_expression n choice k m b as_value refl three.0 (core_alone k m b branches below) bare
                (λ st. conditional_wasted st k l z n m i j n b c d left (silent_anywhere st l i c idle) (silent_anywhere st z j d idle_too) (needed all_needed));
            old_calm = refl;
            declares = both_plainly conditional_expression choice k m b branches refl none none;
            core = λ e. core_alone k m b branches (core_below conditional_expression n choice nothing e);
          }

      condition_owes : ByPart a conditional (tree k m b)
      condition_owes = record {
        lighter = part_lighter conditional_expression k n m choice b nothing branches (Prim.omega arith) refl;
        no_call = record { counts = refl; lists = λ i. refl; begins = λ i. refl; calls = refl };
        ends = refl;
        may_change = refl;
        takes = λ fits. let three = parts_of_conditional a n choice fits in record { classes = λ (to : Class) f. (as_conditional k b to (conditional_stood to n choice f) three.0, tt); old_told = refl; new_told = expression_told k b three.0 };
        stands = λ fits.
            let three = parts_of_conditional a n choice fits in
            record { before = nothing; after = branches; note = m; is_part = refl; gives = refl; unasked = bare_unasked k b three.0 as_value false bare; alike = no_statement k b three.0; none_before = λ s p. refl; none_after = none_of_conditional branches };
        comes_out = comes_out a (tree k m b) unused;
        part = λ fits.
            let three = parts_of_conditional a n choice fits in
            record {
              before = nothing;
              after = branches;
              stands = refl;
              plain = conditional_is_plain;
              before_declares = λ aims at. refl;
              after_declares = declares_row l i c (node z j d nothing) (expression_declares_nothing right (three.1.0, tt)) (expression_declares_nothing (node z j d nothing) (three.1.1.0, tt));
            };
        coming = λ p q r is fits form core. condition_comes p q r (is, (fits, (form, core)));
      }

  needed_owes : (k : Kind) (parts : Forest) (y : Tree) → Needed k parts y → ByPart a (tree k n parts) y
  needed_owes _ _ _ (the_operand o k m b total bare) = operand_owes o k m b total bare
  needed_owes _ _ _ (first_side o k l m i b c comparing idle bare) = first_owes k l m i b c o comparing idle bare
  needed_owes _ _ _ (second_side o k l m i b c comparing idle bare) = second_owes k l m i b c o comparing idle bare
  needed_owes _ _ _ (left_side o k l m i b c idle bare) = left_owes k l m i b c o idle bare
  needed_owes _ _ _ (the_condition k l z m i j b c d idle idle_too bare) = condition_owes k l m i b c z j d idle idle_too bare

pub unused_operation_owes : (a : Around) (x y : Tree) → UnusedOperation a x y → ByPart a x y
unused_operation_owes a x y (one_operand_acts i _ _ unused at child) = needed_owes a unused x.note x.kind x.below y (needed_part x.kind x.below i y at child)
