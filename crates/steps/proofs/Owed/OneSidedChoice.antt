-- What a conditional owes of which nobody takes the value, and of which one branch alone acts: it becomes a logical expression.
use Rattle.std.proofs.Common.{◌≡◌, ◌<◌, ◌≤◌, ◌++◌, [], ◌∷◌, Bool, true, false, ◌&&◌, Some, None, if◌then◌else◌, arith, refl, sym, ◌∙◌, subst}
use Rattle.js_syntax.specs.Class.{Class, root, expression}
use Rattle.js_syntax.specs.declared.node_kind.NodeKind.{NodeKind as Kind}
use Rattle.js_syntax.specs.declared.node_kind.NodeKind.TheVariants.{ConditionalExpression as conditional_expression, LogicalExpression as logical_expression}
use Rattle.js_syntax.specs.declared.operator.LogicalOperator.{LogicalOperator}
use Rattle.js_syntax.specs.declared.operator.LogicalOperator.TheVariants as logical
use Rattle.js_syntax.specs.Facts.{weight, is_core}
use Rattle.js_syntax.specs.Node.{Note, Forest, Tree, nothing, node, forest_of, total}
use Rattle.js_syntax.specs.Table.{a_conditional_expression, a_logical_expression}
use Rattle.js_syntax.proofs.Truth.{both}
use Rattle.js_tree.specs.Count.{levels}
use Rattle.js_rebuilt.specs.Rebuilt.{MayBeBuilt, Rebuilt, ends, stays, leaves, opened, built}
use Rattle.js_meaning.specs.Scope.{specifier_decls, import_decls}
use Rattle.js_meaning.specs.Value.{Text}
use Rattle.js_meaning_near.specs.Local.{Stands, for_sides}
use Rattle.js_meaning_near.specs.Near.{module_of, first_stays, second_stays}
use Rattle.js_meaning_near.specs.Purpose.{Purpose, ForEffect}
use Rattle.json_shape.specs.Shape.{one as one_place, these, Fits}
use Rattle.form_rules.specs.Form.{IsWellFormed}
use Rattle.scope_laws.specs.Place.{Around, plug}
use Rattle.steps.specs.Steps.{all_core}
use Rattle.steps.specs.Allowed.OneSidedChoice.{sides, one_side, one_sided, OneSidedChoice, one_branch_acts}
use Rattle.steps.specs.Allowed.Unused.{is_unused_at}
use Rattle.steps.specs.Allowed.UnusedOperation.{acts}
use Rattle.steps.specs.Allowed.Wanted.{wanted_at}
use Rattle.steps.proofs.Fit.CoreCalm.{nameless_as_planned}
use Rattle.steps.proofs.Fit.Held.{core_here, core_below, core_behind, core_alone}
use Rattle.steps.specs.KeepForm.Part.{is_asked_for}
use Rattle.steps.proofs.KeepForm.Rules.{first_empty, both_empty}
use Rattle.steps.specs.Owed.Comes.{Comes}
use Rattle.steps.specs.Owed.TakesPlace.{anywhere}
use Rattle.steps.specs.Owed.Owed.{ByParts, by_coming}
use Rattle.steps.proofs.Owed.BranchKinds.{IsExpression, expression_told}
use Rattle.steps.proofs.Owed.ChoiceParts.{Two, Three, parts_of_conditional}
use Rattle.steps.proofs.Owed.ChoiceRuns.{imports_before, imports_behind, core_there, no_imports_below}
use Rattle.steps.proofs.Owed.FitsTaking.{as_conditional, conditional_stood}
use Rattle.steps.proofs.Owed.SilentAnywhere.{silent_anywhere}
use Rattle.steps.proofs.Owed.Undeclared.{DeclaresNothing, both_plainly}
use Rattle.steps.proofs.Owed.UnusedOperation.{comes_out}
use Rattle.steps.proofs.Owed.UnusedPlace.{unused_for_effect}

abbrev tree : Kind → Note → (below : Forest) → Tree
tree k n below = record { kind = k; note = n; below = below }

-- ---- which branch stays, and by which operator

pub data OneSide (n : Note) : (below : Forest) → Tree → Type 0 where
  consequent_stays : (k l z : Kind) (i j o : Note) (a b c : Forest) → acts z o c ≡ false → OneSide n (node k i a (node l j b (node z o c nothing))) (sides n logical.And (tree k i a) (tree l j b))
  alternate_stays : (k l z : Kind) (i j o : Note) (a b c : Forest) → acts l j b ≡ false → OneSide n (node k i a (node l j b (node z o c nothing))) (sides n logical.Or (tree k i a) (tree z o c))

side_that_stays : (n : Note) (below : Forest) (y : Tree) → one_side n below ≡ Some y → OneSide n below y
side_that_stays n (node k i a (node l j b (node z o c nothing))) y e = each (acts l j b) (acts z o c) refl refl e
  where
    each : (p q : Bool) → acts l j b ≡ p → acts z o c ≡ q
        → (if p then (if q then None else Some (sides n logical.And (tree k i a) (tree l j b))) else (if q then Some (sides n logical.Or (tree k i a) (tree z o c)) else None)) ≡ Some y
        → OneSide n (node k i a (node l j b (node z o c nothing))) y
    each true true first second is = absurd cc
    each true false first second is = subst (OneSide n (node k i a (node l j b (node z o c nothing)))) (cc is) (consequent_stays k l z i j o a b c second)
    each false true first second is = subst (OneSide n (node k i a (node l j b (node z o c nothing)))) (cc is) (alternate_stays k l z i j o a b c first)
    each false false first second is = absurd cc
side_that_stays n below y e = absurd cc

pub data OneSided (n : Note) : Kind → (below : Forest) → Tree → Type 0 where
  a_conditional : (below : Forest) (y : Tree) → OneSide n below y → OneSided n conditional_expression below y

is_one_sided : (n : Note) (k : Kind) (below : Forest) (y : Tree) → one_sided n k below ≡ Some y → OneSided n k below y
is_one_sided n conditional_expression below y e = a_conditional below y (side_that_stays n below y e)
is_one_sided n k below y e = absurd cc

-- ---- rebuilt

logical_is_built : (o : LogicalOperator) (below : Forest) → MayBeBuilt (logical_expression o) below
logical_is_built o below = record { operation = refl; calls_none = refl; breaks_none = λ c place. refl }

side_rebuilt : {n p : Note} {below : Forest} {y : Tree} → OneSide n below y → Rebuilt (node conditional_expression p below nothing) (forest_of y)
side_rebuilt (consequent_stays k l z i j o a b c idle) = opened refl (built (logical_is_built logical.And (node k i a (node l j b nothing))) (stays (stays (leaves ends))))
side_rebuilt (alternate_stays k l z i j o a b c idle) = opened refl (built (logical_is_built logical.Or (node k i a (node z o c nothing))) (stays (leaves (stays ends))))

side_lighter : (p : Note) {n : Note} {below : Forest} {y : Tree} → OneSide n below y → total weight (forest_of y) < total weight (node conditional_expression p below nothing)
side_lighter p (consequent_stays k l z i j o a b c idle) = Prim.omega arith
side_lighter p (alternate_stays k l z i j o a b c idle) = Prim.omega arith

side_no_deeper : (p : Note) {n : Note} {below : Forest} {y : Tree} → OneSide n below y → levels (forest_of y) ≤ levels (node conditional_expression p below nothing)
side_no_deeper p (consequent_stays k l z i j o a b c idle) = Prim.omega arith
side_no_deeper p (alternate_stays k l z i j o a b c idle) = Prim.omega arith

-- ---- by the table of node types

side_fits : {n : Note} {below : Forest} {y : Tree} → OneSide n below y → Three below → Two y.below
side_fits (consequent_stays k l z i j o a b c idle) st = (st.0, (st.1.0, tt))
side_fits (alternate_stays k l z i j o a b c idle) st = (st.0, (st.1.1.0, tt))

side_expression : {n : Note} {below : Forest} {y : Tree} → OneSide n below y → Three below → IsExpression y.kind y.below
side_expression (consequent_stays k l z i j o a b c idle) st = (a_logical_expression, (logical.And, tt), refl, tt, refl, (st.0, (st.1.0, tt)))
side_expression (alternate_stays k l z i j o a b c idle) st = (a_logical_expression, (logical.Or, tt), refl, tt, refl, (st.0, (st.1.1.0, tt)))

side_unasked : {n : Note} {below : Forest} {y : Tree} → OneSide n below y → is_asked_for y.kind ≡ false
side_unasked (consequent_stays k l z i j o a b c idle) = refl
side_unasked (alternate_stays k l z i j o a b c idle) = refl

-- ---- runs

both_sides : (k l : Kind) (n m : Note) (a b : Forest) → is_core k ≡ true → all_core a ≡ true → all_core (node l m b nothing) ≡ true → (all_core (node k n a (node l m b nothing)) && true) ≡ true
both_sides k l n m a b here below rest = both (all_core (node k n a (node l m b nothing))) true (both (is_core k) (all_core a && all_core (node l m b nothing)) here (both (all_core a) (all_core (node l m b nothing)) below rest)) refl

side_core : {n : Note} {below : Forest} {y : Tree} → OneSide n below y → all_core below ≡ true → all_core (forest_of y) ≡ true
side_core (consequent_stays k l z i j o a b c idle) core =
    let branches = node l j b (node z o c nothing) in
    both_sides k l i j a b (core_here k i a branches core) (core_below k i a branches core) (core_alone l j b (node z o c nothing) (core_behind k i a branches core))
side_core (alternate_stays k l z i j o a b c idle) core =
    let branches = node l j b (node z o c nothing) in
    both_sides k z i o a c (core_here k i a branches core) (core_below k i a branches core) (core_behind l j b (node z o c nothing) (core_behind k i a branches core))

side_imports : {n : Note} {below : Forest} {y : Tree} → OneSide n below y → (source : Text) → import_decls source below ≡ [] → import_decls source y.below ≡ []
side_imports (consequent_stays k l z i j o a b c idle) source h =
    let branches = node l j b (node z o c nothing) in
    both_empty (specifier_decls source k a (import_decls source a)) (import_decls source (node l j b nothing)) (first_empty (specifier_decls source k a (import_decls source a)) (import_decls source branches) h)
    (imports_before source l j b (node z o c nothing) (imports_behind source k i a branches h))
side_imports (alternate_stays k l z i j o a b c idle) source h =
    let branches = node l j b (node z o c nothing) in
    both_empty (specifier_decls source k a (import_decls source a)) (import_decls source (node z o c nothing)) (first_empty (specifier_decls source k a (import_decls source a)) (import_decls source branches) h)
    (imports_behind source l j b (node z o c nothing) (imports_behind source k i a branches h))

side_is_logical : {n : Note} {below : Forest} {y : Tree} → OneSide n below y → (source : Text) → import_decls source (forest_of y) ≡ import_decls source y.below ++ []
side_is_logical (consequent_stays k l z i j o a b c idle) source = refl
side_is_logical (alternate_stays k l z i j o a b c idle) source = refl

side_stands : (u : Purpose) {n : Note} {below : Forest} {y : Tree} → ForEffect u → OneSide n below y → Stands u conditional_expression below y.kind y.below
side_stands u effect (consequent_stays k l z i j o a b c idle) = for_sides effect (λ st. first_stays (silent_anywhere st z o c idle))
side_stands u effect (alternate_stays k l z i j o a b c idle) = for_sides effect (λ st. second_stays (silent_anywhere st l j b idle))

-- ---- all of it

module _ (a : Around) (unused : is_unused_at a ≡ true) (p n : Note) (below : Forest) (y : Tree) (side : OneSide n below y) where
  abbrev conditional : Tree
  conditional = tree conditional_expression p below

  three : Fits root (plug a (Some conditional)) → Three below
  three fits = parts_of_conditional a p below fits

  comes : (q s : Note) (b : Forest) → plug a (Some conditional) ≡ module_of q s b → Fits root (module_of q s b) → IsWellFormed (module_of q s b) → all_core (module_of q s b) ≡ true → Comes a conditional y
  comes q s b is fits form core =
      let parts = three (subst (Fits root) (sym is) fits) in
      let within = core_below conditional_expression p below nothing (core_there a conditional (subst (λ t. all_core t ≡ true) (sym is) core)) in
      let imports = no_imports_below q s b a conditional y is fits form core conditional_expression refl refl (λ s i. refl) in
      let old : DeclaresNothing below = record { bound = nameless_as_planned below (these (one_place expression ∷ one_place expression ∷ one_place expression ∷ [])) refl parts within; imports = imports } in
      let new : DeclaresNothing (forest_of y) = record {
        bound = nameless_as_planned (forest_of y) (these (one_place expression ∷ [])) refl (side_expression side parts, tt) (side_core side within);
        imports = λ source. side_is_logical side source ∙ both_empty (import_decls source y.below) [] (side_imports side source (imports source)) refl;
      } in
      record {
        inner = y.below;
        same = refl;
        stands = side_stands (wanted_at a) (unused_for_effect a unused) side;
        old_calm = refl;
        declares = both_plainly conditional_expression below y.kind y.note y.below nothing refl old new;
        core = λ c. side_core side (core_below conditional_expression p below nothing c);
      }

  side_owes : ByParts a conditional y
  side_owes = record {
    rebuilt = λ fits. side_rebuilt side;
    lighter = side_lighter p side;
    no_deeper = side_no_deeper p side;
    no_call = record { counts = refl; lists = λ i. refl; begins = λ i. refl; calls = refl };
    ends = refl;
    may_change = refl;
    fits_expression = λ fits. ((a_conditional_expression, tt, refl, tt, refl, three fits), tt);
    takes = λ fits.
        let of = side_expression side (three fits) in
        anywhere (record { classes = λ (to : Class) f. (as_conditional y.kind y.below to (conditional_stood to p below f) of, tt); old_told = refl; new_told = expression_told y.kind y.below of });
    no_name = refl;
    old_unasked = λ fits. refl;
    unasked = λ fits. side_unasked side;
    comes_out = comes_out a y unused;
    runs = by_coming comes;
  }

one_sided_owes : (a : Around) (p n : Note) (k : Kind) (below : Forest) (y : Tree) → is_unused_at a ≡ true → OneSided n k below y → ByParts a (tree k p below) y
one_sided_owes a p n _ below y unused (a_conditional _ _ side) = side_owes a unused p n below y side

pub one_sided_choice_owes : (a : Around) (x y : Tree) → OneSidedChoice a x y → ByParts a x y
one_sided_choice_owes a x y (one_branch_acts n _ _ unused is) = one_sided_owes a x.note n x.kind x.below y unused (is_one_sided n x.kind x.below y is)
