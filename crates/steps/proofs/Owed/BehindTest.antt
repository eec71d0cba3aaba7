-- What a choice owes on a test that acts, of which it is known which part counts: it becomes the sequence of the test and that part.
use Rattle.std.proofs.Common.{◌≡◌, ◌≤◌, ◌<◌, [], Bool, true, false, ◌&&◌, Option, Some, None, if◌then◌else◌, arith, refl, sym, subst}
use Rattle.js_syntax.specs.Class.{root}
use Rattle.js_syntax.specs.declared.node_kind.NodeKind.{NodeKind as Kind}
use Rattle.js_syntax.specs.declared.node_kind.NodeKind.TheVariants.{ConditionalExpression as conditional_expression, LogicalExpression as logical_expression, SequenceExpression as sequence_expression}
use Rattle.js_syntax.specs.declared.operator.LogicalOperator.{LogicalOperator}
use Rattle.js_syntax.specs.Facts.{is_core, weight}
use Rattle.js_syntax.specs.Node.{Note, Forest, Tree, nothing, node, alone, forest_of, total}
use Rattle.js_syntax.proofs.Truth.{both}
use Rattle.js_tree.specs.Count.{levels}
use Rattle.js_rebuilt.specs.Rebuilt.{Rebuilt, ends, stays, leaves, opened}
use Rattle.js_effects.specs.Answers.{bare_answers}
use Rattle.js_effects.specs.Values.{truth_of}
use Rattle.js_meaning.specs.Scope.{import_decls, specifier_decls}
use Rattle.js_meaning_near.specs.Near.{module_of}
use Rattle.js_meaning_near.specs.Purpose.{Purpose}
use Rattle.js_meaning_near.specs.Local.{Stands, for_part}
use Rattle.json_shape.specs.Shape.{Fits}
use Rattle.form_rules.specs.Form.{IsWellFormed}
use Rattle.known_tests.specs.Tells.{way_known}
use Rattle.known_tests.proofs.ByForm.{truth_gives, way_gives}
use Rattle.known_tests.proofs.Taken.{consequent_behind, alternate_behind, right_side_behind}
use Rattle.scope_laws.specs.Place.{Around, plug}
use Rattle.steps.specs.Steps.{all_core}
use Rattle.steps.specs.Allowed.IndirectChoice.{one_of, if_so, truth_beside, way_beside, in_turn, behind, behind_test}
use Rattle.steps.specs.Allowed.KnownConditional.{a_conditional}
use Rattle.steps.specs.Allowed.KnownSide.{a_logical}
use Rattle.steps.specs.Allowed.UnusedOperation.{acts}
use Rattle.steps.specs.Allowed.Wanted.{wanted_at}
use Rattle.steps.proofs.Fit.Held.{core_below, core_here, core_alone}
use Rattle.steps.specs.KeepForm.Part.{is_asked_for}
use Rattle.steps.proofs.KeepForm.Rules.{first_empty, both_empty}
use Rattle.steps.specs.Owed.Comes.{Comes}
use Rattle.steps.specs.Owed.TakesPlace.{anywhere}
use Rattle.steps.specs.Owed.Owed.{ComesOut, ByParts, by_coming}
use Rattle.steps.proofs.Owed.ChoiceParts.{parts_of_conditional, sides_of_logical}
use Rattle.steps.proofs.Owed.Choices.{IsChoice, a_conditional_is, a_logical_is, choice_calm, choice_is_other, choice_ends, choice_may_change, choice_no_name, choice_unasked, choice_expression, choice_takes, choice_declares}
use Rattle.steps.proofs.Owed.ChoiceRuns.{consequent_core, alternate_core, core_there, imports_before, imports_behind}
use Rattle.steps.proofs.Owed.Undeclared.{both_plainly}
use Rattle.steps.proofs.Owed.UnusedList.{Left, several_left, Parts, ImportsNone, left_rebuilt, left_fits, left_core, left_declares}

abbrev tree : Kind → Note → (below : Forest) → Tree
tree k n below = record { kind = k; note = n; below = below }

-- ---- which part follows its test

pub data Follows (n m : Note) : (x y : Tree) → Type 0 where
  consequent_follows : (o p i j : Note) (t k l : Kind) (d b c : Forest) → acts t p d ≡ true → truth_of bare_answers (alone t p d) ≡ Some true
      → Follows n m (a_conditional o t p d (node k i b (node l j c nothing))) (in_turn n m (tree t p d) (tree k i b))
  alternate_follows : (o p i j : Note) (t k l : Kind) (d b c : Forest) → acts t p d ≡ true → truth_of bare_answers (alone t p d) ≡ Some false
      → Follows n m (a_conditional o t p d (node k i b (node l j c nothing))) (in_turn n m (tree t p d) (tree l j c))
  right_side_follows : (q : LogicalOperator) (o p i : Note) (t k : Kind) (d b : Forest) → acts t p d ≡ true → way_known q (alone t p d) ≡ Some true
      → Follows n m (a_logical q o t p d (node k i b nothing)) (in_turn n m (tree t p d) (tree k i b))

-- what is told beside is told of what acts
told : {X : Type 0} (b : Bool) (known : Option X) (x : X) → (if b then known else None) ≡ Some x → (b ≡ true) × (known ≡ Some x)
told true known x e = (refl, e)
told false known x e = absurd cc

module _ (n m o p : Note) (t : Kind) (d : Forest) where
  branch_follows : (i j : Note) (k l : Kind) (b c : Forest) (known : Option Bool) (y : Tree) → truth_beside t p d ≡ known → behind n m (tree t p d) (one_of known (tree k i b) (tree l j c)) ≡ Some y
      → Follows n m (a_conditional o t p d (node k i b (node l j c nothing))) y
  branch_follows i j k l b c (Some true) y truth is =
      let it = told (acts t p d) (truth_of bare_answers (alone t p d)) true truth in
      subst (Follows n m (a_conditional o t p d (node k i b (node l j c nothing)))) (cc is) (consequent_follows o p i j t k l d b c it.0 it.1)
  branch_follows i j k l b c (Some false) y truth is =
      let it = told (acts t p d) (truth_of bare_answers (alone t p d)) false truth in
      subst (Follows n m (a_conditional o t p d (node k i b (node l j c nothing)))) (cc is) (alternate_follows o p i j t k l d b c it.0 it.1)
  branch_follows i j k l b c None y truth is = absurd cc

  side_follows : (q : LogicalOperator) (i : Note) (k : Kind) (b : Forest) (known : Option Bool) (y : Tree) → way_beside q t p d ≡ known → behind n m (tree t p d) (if_so known (tree k i b)) ≡ Some y
      → Follows n m (a_logical q o t p d (node k i b nothing)) y
  side_follows q i k b (Some true) y goes is =
      let it = told (acts t p d) (way_known q (alone t p d)) true goes in
      subst (Follows n m (a_logical q o t p d (node k i b nothing))) (cc is) (right_side_follows q o p i t k d b it.0 it.1)
  side_follows q i k b (Some false) y goes is = absurd cc
  side_follows q i k b None y goes is = absurd cc

pub part_follows : (n m o : Note) (k : Kind) (below : Forest) (y : Tree) → behind_test n m k below ≡ Some y → Follows n m (tree k o below) y
part_follows n m o conditional_expression (node t p d (node k i b (node l j c nothing))) y is = branch_follows n m o p t d i j k l b c (truth_beside t p d) y refl is
part_follows n m o (logical_expression q) (node t p d (node k i b nothing)) y is = side_follows n m o p t d q i k b (way_beside q t p d) y refl is
part_follows n m o k below y is = absurd cc

follows_choice : {n m : Note} {x y : Tree} → Follows n m x y → IsChoice x
follows_choice (consequent_follows o p i j t k l d b c acting truth) = a_conditional_is o p i j t k l d b c
follows_choice (alternate_follows o p i j t k l d b c acting truth) = a_conditional_is o p i j t k l d b c
follows_choice (right_side_follows q o p i t k d b acting goes) = a_logical_is q o p i t k d b

-- ---- the row that is left

abbrev parts_listed : Forest → Forest
parts_listed (node l m parts rest) = parts
parts_listed t = nothing

abbrev left_row : Tree → Forest
left_row x = parts_listed x.below

module _ {n m : Note} where
  is_left : {x y : Tree} → Follows n m x y → Left n m (left_row y) y
  is_left (consequent_follows o p i j t k l d b c acting truth) = several_left t k p i d b nothing
  is_left (alternate_follows o p i j t k l d b c acting truth) = several_left t l p j d c nothing
  is_left (right_side_follows q o p i t k d b acting goes) = several_left t k p i d b nothing

  is_rebuilt : {x y : Tree} → Follows n m x y → Rebuilt (forest_of x) (forest_of y)
  is_rebuilt (consequent_follows o p i j t k l d b c acting truth) = opened refl (left_rebuilt (node t p d (node k i b (node l j c nothing))) (several_left t k p i d b nothing) (stays (stays (leaves ends))))
  is_rebuilt (alternate_follows o p i j t k l d b c acting truth) = opened refl (left_rebuilt (node t p d (node k i b (node l j c nothing))) (several_left t l p j d c nothing) (stays (leaves (stays ends))))
  is_rebuilt (right_side_follows q o p i t k d b acting goes) = opened refl (left_rebuilt (node t p d (node k i b nothing)) (several_left t k p i d b nothing) (stays (stays ends)))

  is_lighter : {x y : Tree} → Follows n m x y → total weight (forest_of y) < total weight (forest_of x)
  is_lighter (consequent_follows o p i j t k l d b c acting truth) = Prim.omega arith
  is_lighter (alternate_follows o p i j t k l d b c acting truth) = Prim.omega arith
  is_lighter (right_side_follows q o p i t k d b acting goes) = Prim.omega arith

  is_no_deeper : {x y : Tree} → Follows n m x y → levels (forest_of y) ≤ levels (forest_of x)
  is_no_deeper (consequent_follows o p i j t k l d b c acting truth) = Prim.omega arith
  is_no_deeper (alternate_follows o p i j t k l d b c acting truth) = Prim.omega arith
  is_no_deeper (right_side_follows q o p i t k d b acting goes) = Prim.omega arith

  -- ---- by the table of node types

  parts_stay : (a : Around) {x y : Tree} → Follows n m x y → Fits root (plug a (Some x)) → Parts (left_row y)
  parts_stay a {x = x} (consequent_follows o p i j t k l d b c acting truth) fits = let three = parts_of_conditional a o x.below fits in (three.0, (three.1.0, tt))
  parts_stay a {x = x} (alternate_follows o p i j t k l d b c acting truth) fits = let three = parts_of_conditional a o x.below fits in (three.0, (three.1.1.0, tt))
  parts_stay a {x = x} (right_side_follows q o p i t k d b acting goes) fits = sides_of_logical a q o x.below fits

  -- ---- by its runs

  stands : (u : Purpose) {x y : Tree} → Follows n m x y → Stands u x.kind x.below sequence_expression y.below
  stands u (consequent_follows o p i j t k l d b c acting truth) = for_part (λ st. consequent_behind u st t p i j m d k l b c (truth_gives t p d true truth))
  stands u (alternate_follows o p i j t k l d b c acting truth) = for_part (λ st. alternate_behind u st t p i j m d k l b c (truth_gives t p d false truth))
  stands u (right_side_follows q o p i t k d b acting goes) = for_part (λ st. right_side_behind u st q t p i m d k b (way_gives q t p d true goes))

two_core : (t k : Kind) (p i : Note) (d b : Forest) → all_core (node t p d nothing) ≡ true → all_core (node k i b nothing) ≡ true → all_core (node t p d (node k i b nothing)) ≡ true
two_core t k p i d b h g =
    let rest = node k i b nothing in
    both (is_core t) (all_core d && all_core rest) (core_here t p d nothing h) (both (all_core d) (all_core rest) (core_below t p d nothing h) g)

two_import_none : (t k : Kind) (p i : Note) (d b : Forest) → ImportsNone (node t p d nothing) → ImportsNone (node k i b nothing) → ImportsNone (node t p d (node k i b nothing))
two_import_none t k p i d b h g = λ source.
    let first = specifier_decls source t d (import_decls source d) in
    both_empty first (import_decls source (node k i b nothing)) (first_empty first [] (h source)) (g source)

module _ {n m : Note} where
  left_is_core : {x y : Tree} → Follows n m x y → all_core (forest_of x) ≡ true → all_core (left_row y) ≡ true
  left_is_core (consequent_follows o p i j t k l d b c acting truth) core =
      let branches = node k i b (node l j c nothing) in
      two_core t k p i d b (core_alone t p d branches (core_below conditional_expression o (node t p d branches) nothing core)) (consequent_core conditional_expression k o p i t d b (node l j c nothing) core)
  left_is_core (alternate_follows o p i j t k l d b c acting truth) core =
      let branches = node k i b (node l j c nothing) in
      two_core t l p j d c (core_alone t p d branches (core_below conditional_expression o (node t p d branches) nothing core)) (alternate_core conditional_expression k l o p i j t d b c core)
  left_is_core (right_side_follows q o p i t k d b acting goes) core = core_below (logical_expression q) o (node t p d (node k i b nothing)) nothing core

  left_imports_none : {x y : Tree} → Follows n m x y → ImportsNone x.below → ImportsNone (left_row y)
  left_imports_none (consequent_follows o p i j t k l d b c acting truth) none =
      let branches = node k i b (node l j c nothing) in
      two_import_none t k p i d b (λ s. imports_before s t p d branches (none s)) (λ s. imports_before s k i b (node l j c nothing) (imports_behind s t p d branches (none s)))
  left_imports_none (alternate_follows o p i j t k l d b c acting truth) none =
      let branches = node k i b (node l j c nothing) in
      two_import_none t l p j d c (λ s. imports_before s t p d branches (none s)) (λ s. imports_behind s k i b (node l j c nothing) (imports_behind s t p d branches (none s)))
  left_imports_none (right_side_follows q o p i t k d b acting goes) none = none

module _ (q s : Note) (program : Forest) (a : Around) (fits : Fits root (module_of q s program)) (form : IsWellFormed (module_of q s program)) (core : all_core (module_of q s program) ≡ true) where
  comes : {n m : Note} {x y : Tree} → Follows n m x y → y.kind ≡ sequence_expression → plug a (Some x) ≡ module_of q s program → Comes a x y
  comes {n = n} {m = m} {x = x} {y = y} follows sequence is =
      let choice = follows_choice follows in
      let h = choice_declares q s program a y fits form core choice is in
      let there = subst (Fits root) (sym is) fits in
      let within = core_there a x (subst (λ t. all_core t ≡ true) (sym is) core) in
      record {
        inner = y.below;
        same = refl;
        stands = subst (λ k. Stands (wanted_at a) x.kind x.below k y.below) (sym sequence) (stands (wanted_at a) follows);
        old_calm = choice_calm choice;
        declares = both_plainly x.kind x.below y.kind y.note y.below nothing (choice_calm choice) h (left_declares (is_left follows) (parts_stay a follows there) (left_is_core follows within) (left_imports_none follows h.imports));
        core = λ c. left_core (is_left follows) (left_is_core follows c);
      }

-- ---- all of it

module _ {n m : Note} where
  is_sequence : {x y : Tree} → Follows n m x y → y.kind ≡ sequence_expression
  is_sequence (consequent_follows o p i j t k l d b c acting truth) = refl
  is_sequence (alternate_follows o p i j t k l d b c acting truth) = refl
  is_sequence (right_side_follows q o p i t k d b acting goes) = refl

  sequence_unasked : {x y : Tree} → Follows n m x y → is_asked_for y.kind ≡ false
  sequence_unasked (consequent_follows o p i j t k l d b c acting truth) = refl
  sequence_unasked (alternate_follows o p i j t k l d b c acting truth) = refl
  sequence_unasked (right_side_follows q o p i t k d b acting goes) = refl

  comes_out_there : (a : Around) {x y : Tree} → Follows n m x y → ComesOut a y
  comes_out_there a (consequent_follows o p i j t k l d b c acting truth) = record { undeleted = λ e. refl; uncalled = λ e. refl }
  comes_out_there a (alternate_follows o p i j t k l d b c acting truth) = record { undeleted = λ e. refl; uncalled = λ e. refl }
  comes_out_there a (right_side_follows q o p i t k d b acting goes) = record { undeleted = λ e. refl; uncalled = λ e. refl }

  pub follows_owes : (a : Around) {x y : Tree} → Follows n m x y → ByParts a x y
  follows_owes a {x = x} {y = y} follows = record {
    rebuilt = λ fits. is_rebuilt follows;
    lighter = is_lighter follows;
    no_deeper = is_no_deeper follows;
    no_call = choice_is_other (follows_choice follows);
    ends = choice_ends (follows_choice follows);
    may_change = choice_may_change a (follows_choice follows);
    fits_expression = λ fits. (choice_expression a (follows_choice follows) fits, tt);
    takes = λ fits. anywhere (choice_takes y (follows_choice follows) (left_fits (is_left follows) (parts_stay a follows fits)));
    no_name = choice_no_name (follows_choice follows);
    old_unasked = λ fits. choice_unasked (follows_choice follows);
    unasked = λ fits. sequence_unasked follows;
    comes_out = comes_out_there a follows;
    runs = by_coming (λ q s program is fits form core. comes q s program a fits form core follows (is_sequence follows) is);
  }
