-- What an operation on two sides owes of which nobody takes the value, and of which both act: it becomes a sequence of these. And what a
-- sum or a template owes of which nobody takes the value, and of which texts become empty.
use Rattle.std.proofs.Common.{◌≡◌, ◌≤◌, ◌<◌, ◌+◌, ℕ, suc, ◌==◌, List, [], ◌∷◌, ◌++◌, Bool, true, false, ◌&&◌, ◌||◌, Some, None, if◌then◌else◌, arith, refl, sym, ap, ◌∙◌, subst, true≢false}
use Rattle.js_syntax.specs.Class.{Class, root, expression, quasi_item}
use Rattle.js_syntax.specs.declared.node_kind.NodeKind.{NodeKind as Kind}
use Rattle.js_syntax.specs.Facts.{is_core, weight}
use Rattle.js_syntax.specs.declared.node_kind.NodeKind.TheVariants.{BinaryExpression as binary_expression, SequenceExpression as sequence_expression, Expressions as expressions, TemplateLiteral as template_literal, Quasis as quasis, TemplateElement as template_element}
use Rattle.js_syntax.specs.declared.operator.BinaryOperator.{BinaryOperator}
use Rattle.js_syntax.specs.declared.operator.BinaryOperator.TheVariants.{Addition as addition}
use Rattle.js_syntax.specs.declared.value.LiteralValue.TheVariants as value
use Rattle.js_syntax.specs.Core.{text_weight}
use Rattle.js_syntax.specs.Node.{Note, Forest, Tree, nothing, node, absent, joined, total, forest_of}
use Rattle.js_syntax.specs.Table.{Row, a_binary_expression, a_template_literal, a_template_element, fields_of}
use Rattle.js_syntax.proofs.Truth.{first_of_both, second_of_both, both}
use Rattle.js_syntax.specs.Hint as hints
use Rattle.js_tree.specs.Count.{one_each, lower, levels_at, levels}
use Rattle.js_rebuilt.specs.Rebuilt.{MayBeBuilt, Rebuilt, ends, stays, leaves, opened, built, absent_leaves, absent_comes}
use Rattle.js_meaning.specs.Value.{Text}
use Rattle.js_meaning.specs.Scope.{bound_names, import_decls, specifier_decls}
use Rattle.js_meaning_near.specs.Names.{Names}
use Rattle.js_meaning_near.specs.Near.{module_of, SameEffects}
use Rattle.js_effects.specs.Silence.{only_combines}
use Rattle.js_meaning_near.specs.Unused.{all_needed, needed}
use Rattle.js_meaning_near.proofs.Spared.{spared, binary_wasted}
use Rattle.json_shape.specs.Shape.{Values, kind_in, places, one as one_place, these, all, IsOf, Stand, Fits}
use Rattle.form_rules.specs.Break.{unless}
use Rattle.form_rules.specs.Form.{IsWellFormed}
use Rattle.form_rules.specs.Rules.{length_of}
use Rattle.scope_laws.specs.Place.{Around, plug}
use Rattle.steps.specs.Steps.{all_core}
use Rattle.steps.specs.Allowed.TwoSides.{empty_text, gives_text, is_written, has_text, has_texts, no_text, is_whole, without_text, without_texts, text_emptied, two_sides, TwoSides, both_sides_act}
use Rattle.steps.specs.Allowed.Unused.{is_unused_at}
use Rattle.steps.specs.Allowed.UnusedOperation.{acts}
use Rattle.steps.specs.Allowed.Wanted.{wanted_at}
use Rattle.steps.proofs.Fit.CoreCalm.{nameless_as_planned}
use Rattle.steps.proofs.Fit.Held.{core_here, core_below, core_behind}
use Rattle.steps.proofs.KeepForm.Rules.{first_empty, second_empty, both_empty}
use Rattle.steps.specs.Owed.Comes.{Comes}
use Rattle.steps.specs.Owed.TakesPlace.{anywhere, untagged}
use Rattle.steps.specs.Owed.Owed.{ByParts, by_coming}
use Rattle.steps.proofs.Owed.BranchKinds.{IsExpression, expression_told}
use Rattle.steps.proofs.Owed.ChoiceParts.{Two, sides_of_binary, parts_of_template}
use Rattle.steps.proofs.Owed.ChoiceRuns.{core_there, no_imports_below}
use Rattle.steps.proofs.Owed.FitsTaking.{as_binary, binary_stood, as_template, template_stood}
use Rattle.steps.proofs.Owed.KnownOperation.{literal_expression}
use Rattle.steps.proofs.Owed.Undeclared.{DeclaresNothing, both_plainly}
use Rattle.steps.proofs.Owed.SilentAnywhere.{silent_anywhere}
use Rattle.steps.proofs.Owed.SilentTexts.{its_text, first_silent_wasted, second_silent_wasted}
use Rattle.steps.proofs.Owed.UntaggedPlace.{unused_is_untagged}
use Rattle.steps.proofs.Owed.UnusedList.{Left, several_left, Parts, left_rebuilt, left_fits, left_core, left_declares}
use Rattle.steps.proofs.Owed.UnusedOperation.{comes_out, combines_not_in, combines_answers}
use Rattle.steps.proofs.Owed.UnusedPlace.{unused_for_effect}

abbrev tree : Kind → Note → (below : Forest) → Tree
tree k n below = record { kind = k; note = n; below = below }

-- ---- an operation, and the sequence of its sides

abbrev in_turn : (n m : Note) → (sides : Forest) → Tree
in_turn n m sides = tree sequence_expression n (node expressions m sides nothing)

abbrev sum : (n : Note) → (sides : Forest) → Tree
sum n sides = tree (binary_expression addition) n sides

pub data Sides (n m : Note) : Kind → (below : Forest) → Tree → Type 0 where
  both_act : (o : BinaryOperator) (k l : Kind) (i j : Note) (a b : Forest) → only_combines (binary_expression o) (node k i a (node l j b nothing)) ≡ true → Sides n m (binary_expression o) (node k i a (node l j b nothing)) (in_turn n m (node k i a (node l j b nothing)))
  first_text : (k l : Kind) (i j : Note) (a b : Forest) → gives_text k i a ≡ true → Sides n m (binary_expression addition) (node k i a (node l j b nothing)) (sum n (node empty_text i nothing (node l j b nothing)))
  second_text : (k l : Kind) (i j : Note) (a b : Forest) → gives_text l j b ≡ true → Sides n m (binary_expression addition) (node k i a (node l j b nothing)) (sum n (node k i a (node empty_text j nothing nothing)))
  no_texts : (h j : Note) (elements parts : Forest) → (has_texts elements && is_whole elements parts) ≡ true
      → Sides n m template_literal (node quasis h elements (node expressions j parts nothing)) (tree template_literal n (node quasis h (without_texts elements) (node expressions j parts nothing)))

are_texts : (n m : Note) (o : BinaryOperator) (k l : Kind) (i j : Note) (a b : Forest) (y : Tree) → text_emptied n (binary_expression o) (node k i a (node l j b nothing)) ≡ Some y → Sides n m (binary_expression o) (node k i a (node l j b nothing)) y
are_texts n m addition k l i j a b y e = each (gives_text k i a && acts l j b) (gives_text l j b && acts k i a) refl refl e
  where
    each : (p q : Bool) → (gives_text k i a && acts l j b) ≡ p → (gives_text l j b && acts k i a) ≡ q
        → (if p then Some (sum n (node empty_text i nothing (node l j b nothing))) else if q then Some (sum n (node k i a (node empty_text j nothing nothing))) else None) ≡ Some y
        → Sides n m (binary_expression addition) (node k i a (node l j b nothing)) y
    each true q first second is = subst (Sides n m (binary_expression addition) (node k i a (node l j b nothing))) (cc is) (first_text k l i j a b (first_of_both (gives_text k i a) (acts l j b) first))
    each false true first second is = subst (Sides n m (binary_expression addition) (node k i a (node l j b nothing))) (cc is) (second_text k l i j a b (first_of_both (gives_text l j b) (acts k i a) second))
    each false false first second is = absurd cc
are_texts n m o k l i j a b y e = absurd cc

have_texts : (n m h j : Note) (elements parts : Forest) (y : Tree) → text_emptied n template_literal (node quasis h elements (node expressions j parts nothing)) ≡ Some y → Sides n m template_literal (node quasis h elements (node expressions j parts nothing)) y
have_texts n m h j elements parts y e = each (has_texts elements && is_whole elements parts) refl e
  where
    each : (b : Bool) → (has_texts elements && is_whole elements parts) ≡ b → (if b then Some (tree template_literal n (node quasis h (without_texts elements) (node expressions j parts nothing))) else None) ≡ Some y
        → Sides n m template_literal (node quasis h elements (node expressions j parts nothing)) y
    each true has is = subst (Sides n m template_literal (node quasis h elements (node expressions j parts nothing))) (cc is) (no_texts h j elements parts has)
    each false has is = absurd cc

pub are_sides : (n m : Note) (k : Kind) (below : Forest) (y : Tree) → two_sides n m k below ≡ Some y → Sides n m k below y
are_sides n m (binary_expression o) (node k i a (node l j b nothing)) y e = each (only_combines (binary_expression o) (node k i a (node l j b nothing)) && (acts k i a && acts l j b)) refl e
  where
    each : (p : Bool) → (only_combines (binary_expression o) (node k i a (node l j b nothing)) && (acts k i a && acts l j b)) ≡ p
        → (if p then Some (in_turn n m (node k i a (node l j b nothing))) else text_emptied n (binary_expression o) (node k i a (node l j b nothing))) ≡ Some y → Sides n m (binary_expression o) (node k i a (node l j b nothing)) y
    each true both is = subst (Sides n m (binary_expression o) (node k i a (node l j b nothing))) (cc is) (both_act o k l i j a b (first_of_both (only_combines (binary_expression o) (node k i a (node l j b nothing))) (acts k i a && acts l j b) both))
    each false both is = are_texts n m o k l i j a b y is
are_sides n m template_literal (node quasis h elements (node expressions j parts nothing)) y e = have_texts n m h j elements parts y e
are_sides n m template_literal below y e = absurd cc
are_sides n m k below y e = absurd cc

-- ---- all of it

module _ (a : Around) (unused : is_unused_at a ≡ true) (p n m : Note) (o : BinaryOperator) (k l : Kind) (i j : Note) (b c : Forest) (combines : only_combines (binary_expression o) (node k i b (node l j c nothing)) ≡ true) where
  abbrev sides : Forest
  sides = node k i b (node l j c nothing)

  abbrev operation : Tree
  operation = tree (binary_expression o) p sides

  abbrev several : Tree
  several = in_turn n m sides

  left : Left n m sides several
  left = several_left k l i j b c nothing

  two : Fits root (plug a (Some operation)) → Two sides
  two fits = sides_of_binary a o (combines_not_in o sides combines) p sides fits

  sides_stay : Fits root (plug a (Some operation)) → Parts sides
  sides_stay fits = two fits

  comes : (q s : Note) (r : Forest) → plug a (Some operation) ≡ module_of q s r → Fits root (module_of q s r) → IsWellFormed (module_of q s r) → all_core (module_of q s r) ≡ true → Comes a operation several
  comes q s r is fits form core =
      let there = subst (Fits root) (sym is) fits in
      let held = core_there a operation (subst (λ t. all_core t ≡ true) (sym is) core) in
      let operator_core = core_here (binary_expression o) p sides nothing held in
      let within = core_below (binary_expression o) p sides nothing held in
      let imports = no_imports_below q s r a operation several is fits form core (binary_expression o) refl refl (λ s i. refl) in
      let none : DeclaresNothing sides = record { bound = nameless_as_planned sides (these (one_place expression ∷ one_place expression ∷ [])) refl (two there) within; imports = imports } in
      record {
        inner = several.below;
        same = refl;
        stands = spared (wanted_at a) (binary_expression o) p m sides sides (unused_for_effect a unused) tt refl refl (λ st. binary_wasted st o k l p i j m b c sides (combines_answers o sides combines operator_core) (needed (needed all_needed)));
        old_calm = refl;
        declares = both_plainly (binary_expression o) sides sequence_expression n several.below nothing refl none (left_declares left (sides_stay there) within imports);
        core = λ d. left_core left (core_below (binary_expression o) p sides nothing d);
      }

  sides_owe : ByParts a operation several
  sides_owe = record {
    rebuilt = λ fits. opened refl (left_rebuilt sides left (stays (stays ends)));
    lighter = Prim.omega arith;
    no_deeper = Prim.omega arith;
    no_call = record { counts = refl; lists = λ i. refl; begins = λ i. refl; calls = refl };
    ends = refl;
    may_change = refl;
    fits_expression = λ fits. ((a_binary_expression, (o, tt), refl, combines_not_in o sides combines, refl, two fits), tt);
    takes = λ fits.
        let of = left_fits left (sides_stay fits) in
        anywhere (record { classes = λ (to : Class) f. (as_binary several.kind several.below to (binary_stood to p sides o f) of, tt); old_told = refl; new_told = expression_told several.kind several.below of });
    no_name = refl;
    old_unasked = λ fits. refl;
    unasked = λ fits. refl;
    comes_out = comes_out a several unused;
    runs = by_coming comes;
  }

-- ---- a sum, of which a text becomes empty

sum_is_built : (sides : Forest) → MayBeBuilt (binary_expression addition) sides
sum_is_built sides = record { operation = refl; calls_none = refl; breaks_none = λ c place. refl }

text_is_empty : MayBeBuilt empty_text nothing
text_is_empty = record { operation = refl; calls_none = refl; breaks_none = λ c place. refl }

sum_declares : (n : Note) (sides : Forest) → DeclaresNothing sides → DeclaresNothing (forest_of (sum n sides))
sum_declares n sides none = record { bound = both_empty (bound_names sides) [] none.bound refl; imports = λ s. both_empty (import_decls s sides) [] (none.imports s) refl }

core_with_text : (k : Kind) (i j : Note) (b : Forest) → is_core k ≡ true → all_core b ≡ true → all_core (node k i b (node empty_text j nothing nothing)) ≡ true
core_with_text k i j b here below = both (is_core k) (all_core b && true) here (both (all_core b) true below refl)

-- what both owe alike
module _ (a : Around) (unused : is_unused_at a ≡ true) (p n : Note) (old new : Forest) (rebuilt : Rebuilt (joined old nothing) (joined new nothing)) (lighter : total weight new < total weight old) (no_deeper : levels new ≤ levels old)
    (two_new : Two old → Two new) (core_new : all_core old ≡ true → all_core new ≡ true) (imports_new : ((s : Text) → import_decls s old ≡ []) → (s : Text) → import_decls s new ≡ [])
    (wasted_so : (st : Names) → SameEffects st (node (binary_expression addition) p old nothing) Kind.ExpressionStatement (node (binary_expression addition) n new nothing) (node (binary_expression addition) n new nothing) (node (binary_expression addition) n new nothing)) where
  abbrev full : Tree
  full = sum p old

  abbrev emptied : Tree
  emptied = sum n new

  two_there : Fits root (plug a (Some full)) → Two old
  two_there fits = sides_of_binary a addition refl p old fits

  emptied_expression : Fits root (plug a (Some full)) → IsExpression (binary_expression addition) new
  emptied_expression fits = (a_binary_expression, (addition, tt), refl, refl, refl, two_new (two_there fits))

  emptied_comes : (q s : Note) (r : Forest) → plug a (Some full) ≡ module_of q s r → Fits root (module_of q s r) → IsWellFormed (module_of q s r) → all_core (module_of q s r) ≡ true → Comes a full emptied
  emptied_comes q s r is fits form core =
      let there = subst (Fits root) (sym is) fits in
      let within = core_below (binary_expression addition) p old nothing (core_there a full (subst (λ t. all_core t ≡ true) (sym is) core)) in
      let imports = no_imports_below q s r a full emptied is fits form core (binary_expression addition) refl refl (λ s i. refl) in
      let none : DeclaresNothing old = record { bound = nameless_as_planned old (these (one_place expression ∷ one_place expression ∷ [])) refl (two_there there) within; imports = imports } in
      let still : DeclaresNothing new = record { bound = nameless_as_planned new (these (one_place expression ∷ one_place expression ∷ [])) refl (two_new (two_there there)) (core_new within); imports = imports_new imports } in
      record {
        inner = new;
        same = refl;
        stands = spared (wanted_at a) (binary_expression addition) p n old (forest_of emptied) (unused_for_effect a unused) tt refl refl wasted_so;
        old_calm = refl;
        declares = both_plainly (binary_expression addition) old (binary_expression addition) n new nothing refl none (sum_declares n new still);
        core = λ d. both (all_core new) true (core_new (core_below (binary_expression addition) p old nothing d)) refl;
      }

  emptied_owes : ByParts a full emptied
  emptied_owes = record {
    rebuilt = λ fits. opened refl (built (sum_is_built new) rebuilt);
    lighter = Prim.omega (arith, lighter);
    no_deeper = Prim.omega (arith, no_deeper);
    no_call = record { counts = refl; lists = λ i. refl; begins = λ i. refl; calls = refl };
    ends = refl;
    may_change = refl;
    fits_expression = λ fits. ((a_binary_expression, (addition, tt), refl, refl, refl, two_there fits), tt);
    takes = λ fits.
        let of = emptied_expression fits in
        anywhere (record { classes = λ (to : Class) f. (as_binary (binary_expression addition) new to (binary_stood to p old addition f) of, tt); old_told = refl; new_told = refl });
    no_name = refl;
    old_unasked = λ fits. refl;
    unasked = λ fits. refl;
    comes_out = comes_out a emptied unused;
    runs = by_coming emptied_comes;
  }

-- ---- a template, of which the texts become empty

abbrev is_element : Kind → Bool
is_element (template_element text tail) = true
is_element k = false

element_parts : (private : Bool) (r : Row) (vs : Values (fields_of r)) (parts : Forest) → is_element (kind_in r vs) ≡ true → Stand (these (places private (fields_of r) vs)) parts → Stand (these []) parts
element_parts private a_template_element vs parts is stand = stand
element_parts private r vs parts is stand = absurd (true≢false (sym is))

element_without : (k : Kind) (a : Forest) → IsOf k a (λ p. Stand p a) quasi_item → IsOf (without_text k) a (λ p. Stand p a) quasi_item
element_without (template_element text tail) a of = (a_template_element, (no_text, (tail, tt)), refl, tt, refl, element_parts (hints.has hints.is_private a) of.0 of.1 a (ap is_element (sym of.4)) of.5)
element_without k a of = of

elements_without : (t : Forest) → Stand (all quasi_item) t → Stand (all quasi_item) (without_texts t)
elements_without nothing st = tt
elements_without (absent r) st = absurd st.0
elements_without (node k n a r) st = (element_without k a st.0, elements_without r st.1)

-- rebuilt

all_stay : (t : Forest) → Rebuilt t t
all_stay nothing = ends
all_stay (absent t) = absent_leaves (absent_comes (all_stay t))
all_stay (node k n a t) = stays (all_stay t)

behind_stays : (t r s : Forest) → Rebuilt r s → Rebuilt (joined t r) (joined t s)
behind_stays nothing r s h = h
behind_stays (absent t) r s h = absent_leaves (absent_comes (behind_stays t r s h))
behind_stays (node k n a t) r s h = stays (behind_stays t r s h)

element_is_built : (tail : Bool) (a : Forest) → MayBeBuilt (template_element no_text tail) a
element_is_built tail a = record { operation = refl; calls_none = refl; breaks_none = λ c place. refl }

elements_are_built : (elements : Forest) → MayBeBuilt quasis elements
elements_are_built elements = record { operation = refl; calls_none = refl; breaks_none = λ c place. refl }

same_length : (t : Forest) → length_of (without_texts t) ≡ length_of t
same_length nothing = refl
same_length (absent t) = same_length t
same_length (node k n a t) = ap suc (same_length t)

template_is_built : (h j : Note) (elements parts : Forest) → is_whole elements parts ≡ true → MayBeBuilt template_literal (node quasis h (without_texts elements) (node expressions j parts nothing))
template_is_built h j elements parts whole = record { operation = refl; calls_none = refl; breaks_none = λ c place. ap (λ b. unless b place 11 ++ []) (ap (λ i. i == suc (length_of parts)) (same_length elements) ∙ whole) }

element_rebuilt : (k : Kind) (n : Note) (a r s : Forest) → Rebuilt r s → Rebuilt (node k n a r) (node (without_text k) n a s)
element_rebuilt (template_element text tail) n a r s h = opened refl (built (element_is_built tail a) (behind_stays a r s h))
element_rebuilt k n a r s h = stays h

elements_rebuilt : (t r : Forest) → Rebuilt (joined t r) (joined (without_texts t) r)
elements_rebuilt nothing r = all_stay r
elements_rebuilt (absent t) r = absent_leaves (absent_comes (elements_rebuilt t r))
elements_rebuilt (node k n a t) r = element_rebuilt k n a (joined t r) (joined (without_texts t) r) (elements_rebuilt t r)

-- what they weigh, and how many levels there are

no_text_weighs : (raw : List ℕ) → 3 ≤ text_weight raw
no_text_weighs [] = Prim.omega arith
no_text_weighs (c ∷ cs) = Prim.omega arith

element_weighs : (k : Kind) → weight (without_text k) ≤ weight k
element_weighs (template_element text tail) = no_text_weighs text.raw
element_weighs k = Prim.omega arith

text_weighs_more : (raw : List ℕ) → is_written raw ≡ true → 3 < text_weight raw
text_weighs_more [] is = absurd (true≢false (sym is))
text_weighs_more (c ∷ cs) is = Prim.omega arith

element_lighter : (k : Kind) → has_text k ≡ true → weight (without_text k) < weight k
element_lighter (template_element text tail) is = text_weighs_more text.raw is
element_lighter k is = absurd (true≢false (sym is))

elements_weigh : (t : Forest) → total weight (without_texts t) ≤ total weight t
elements_weigh nothing = Prim.omega arith
elements_weigh (absent t) = elements_weigh t
elements_weigh (node k n a t) = Prim.omega (arith, element_weighs k, elements_weigh t)

pub elements_lighter : (t : Forest) → has_texts t ≡ true → total weight (without_texts t) < total weight t
elements_lighter nothing has = absurd (true≢false (sym has))
elements_lighter (absent t) has = elements_lighter t has
elements_lighter (node k n a t) has = each (has_text k) refl has (elements_lighter t)
  where
    each : (b : Bool) → has_text k ≡ b → (b || has_texts t) ≡ true → (has_texts t ≡ true → total weight (without_texts t) < total weight t) → total weight (without_texts (node k n a t)) < total weight (node k n a t)
    each true is some later = Prim.omega (arith, element_lighter k is, elements_weigh t)
    each false is some later = Prim.omega (arith, element_weighs k, later some)

element_level : (k : Kind) (a : Forest) → one_each (without_text k) + levels_at (lower (without_text k)) 0 a ≡ one_each k + levels_at (lower k) 0 a
element_level (template_element text tail) a = refl
element_level k a = refl

elements_level : (f : ℕ → ℕ) (i : ℕ) (t : Forest) → levels_at f i (without_texts t) ≡ levels_at f i t
elements_level f i nothing = refl
elements_level f i (absent t) = elements_level f (suc i) t
elements_level f i (node k n a t) = Prim.omega (arith, element_level k a, elements_level f (suc i) t)

module _ (a : Around) (unused : is_unused_at a ≡ true) (p n h j : Note) (elements parts : Forest) (has : (has_texts elements && is_whole elements parts) ≡ true) where
  abbrev rest : Forest
  rest = node expressions j parts nothing

  abbrev template : Tree
  template = tree template_literal p (node quasis h elements rest)

  abbrev textless : Tree
  textless = tree template_literal n (node quasis h (without_texts elements) rest)

  still_template : Fits root (plug a (Some template)) → IsExpression template_literal textless.below
  still_template fits =
      let lists = parts_of_template a p template.below fits in
      (a_template_literal, tt, refl, tt, refl, ((lists.0.0, elements_without elements lists.0.1), lists.1))

  template_owes : ByParts a template textless
  template_owes = record {
    rebuilt = λ fits. opened refl (built (template_is_built h j elements parts (second_of_both (has_texts elements) (is_whole elements parts) has)) (opened refl (built (elements_are_built (without_texts elements)) (elements_rebuilt elements (joined rest nothing)))));
    lighter = Prim.omega (arith, elements_lighter elements (first_of_both (has_texts elements) (is_whole elements parts) has));
    no_deeper = Prim.omega (arith, elements_level (λ i. lower quasis i) 0 elements);
    no_call = record { counts = refl; lists = λ i. refl; begins = λ i. refl; calls = refl };
    ends = refl;
    may_change = refl;
    fits_expression = λ fits. ((a_template_literal, tt, refl, tt, refl, parts_of_template a p template.below fits), tt);
    takes = λ fits.
        untagged (unused_is_untagged a unused) (record { classes = λ (to : Class) none f. (as_template template_literal textless.below to none (template_stood to p template.below f) (still_template fits), tt); old_told = refl; new_told = refl });
    no_name = refl;
    old_unasked = λ fits. refl;
    unasked = λ fits. refl;
    comes_out = comes_out a textless unused;
    -- no template is core
    runs = by_coming (λ q s b is fits form core. absurd (true≢false (sym (core_there a template (subst (λ t. all_core t ≡ true) (sym is) core)))));
  }

each_owes : (a : Around) (p n m : Note) (k : Kind) (below : Forest) (y : Tree) → is_unused_at a ≡ true → Sides n m k below y → ByParts a (tree k p below) y
each_owes a p n m _ _ _ unused (both_act o k l i j b c combines) = sides_owe a unused p n m o k l i j b c combines
each_owes a p n m _ _ _ unused (first_text k l i j b d is) =
    let right = node l j d nothing in
    let text = its_text k i b is in
    emptied_owes a unused p n (node k i b right) (node empty_text i nothing right) (leaves (built text_is_empty (stays ends))) (Prim.omega (arith, text.weighs)) (Prim.omega (arith, text.counts))
    (λ two. (literal_expression (value.Text []), two.1)) (λ core. core_behind k i b right core)
    (λ none s. second_empty (specifier_decls s k b (import_decls s b)) (import_decls s right) (none s))
    (λ st. first_silent_wasted st k l p n i j i b d nothing (silent_anywhere st k i b text.idle) text.type)
each_owes a p n m _ _ _ unused (second_text k l i j b d is) =
    let left = node k i b nothing in
    let text = its_text l j d is in
    emptied_owes a unused p n (node k i b (node l j d nothing)) (node k i b (node empty_text j nothing nothing)) (stays (leaves (built text_is_empty ends))) (Prim.omega (arith, text.weighs)) (Prim.omega (arith, text.counts))
    (λ two. (two.0, (literal_expression (value.Text []), tt))) (λ core. core_with_text k i j b (core_here k i b (node l j d nothing) core) (core_below k i b (node l j d nothing) core))
    (λ none s. both_empty (specifier_decls s k b (import_decls s b)) [] (first_empty (specifier_decls s k b (import_decls s b)) (import_decls s (node l j d nothing)) (none s)) refl)
    (λ st. second_silent_wasted st l k p n j i j d b nothing (silent_anywhere st l j d text.idle) text.type)
each_owes a p n m _ _ _ unused (no_texts h j elements parts has) = template_owes a unused p n h j elements parts has

pub two_sides_owes : (a : Around) (x y : Tree) → TwoSides a x y → ByParts a x y
two_sides_owes a x y (both_sides_act n m _ _ unused is) = each_owes a x.note n m x.kind x.below y unused (are_sides n m x.kind x.below y is)
