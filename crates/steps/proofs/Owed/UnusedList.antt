-- What an array, a sequence or a template owes of which nobody takes the value, and of which the parts stay that act.
use Rattle.std.proofs.Common.{◌≡◌, inl, inr, ◌≤◌, ◌<◌, ◌+◌, ℕ, suc, pos, zero, List, [], ◌∷◌, ◌++◌, Bool, true, false, not, ◌&&◌, ◌||◌, Some, None, arith, refl, sym, ap, ap₂, ◌∙◌, subst, true≢false}
use Rattle.std.proofs.lemmas.Bool.{lt-ltb}
use Rattle.std.specs.Prelude.{if◌then◌else◌}
use Rattle.js_syntax.specs.Class.{Class, root, expression, argument}
use Rattle.js_syntax.specs.declared.node_kind.NodeKind.{NodeKind as Kind}
use Rattle.js_syntax.specs.declared.node_kind.NodeKind.TheVariants.{ArrayExpression as array_expression, Elements as elements, SequenceExpression as sequence_expression, Expressions as expressions, TemplateLiteral as template_literal, Quasis as quasis, SpreadElement as spread_element, Hole as hole}
use Rattle.js_syntax.specs.declared.kind.FunctionKind.{FunctionKind}
use Rattle.js_syntax.specs.declared.kind.FunctionKind.TheVariants as function_kind
use Rattle.js_syntax.specs.declared.value.LiteralValue.{LiteralValue}
use Rattle.js_syntax.specs.declared.value.LiteralValue.TheVariants as value
use Rattle.js_syntax.specs.Core.{value_weight, text_weight}
use Rattle.js_syntax.specs.Facts.{weight, is_core}
use Rattle.js_syntax.specs.Node.{Note, Forest, Tree, nothing, node, absent, forest_of, joined, total}
use Rattle.js_syntax.specs.Table.{Row, an_array_expression, a_sequence_expression, a_template_literal, a_spread_element, a_binding_rest, a_target_rest, fields_of, type_of, stands}
use Rattle.js_syntax.proofs.Truth.{both, first_of_neither, second_of_neither}
use Rattle.js_tree.specs.Count.{lower, levels_at, levels, node_count}
use Rattle.js_effects.specs.Silence.{only_combines}
use Rattle.js_rebuilt.specs.Rebuilt.{MayBeBuilt, Rebuilt, ends, stays, leaves, opened, built, absent_leaves}
use Rattle.js_meaning.specs.Scope.{specifier_decls, import_decls}
use Rattle.js_meaning.specs.Value.{Text}
use Rattle.js_meaning_near.specs.Local.{Stands}
use Rattle.js_meaning_near.specs.Names.{Names}
use Rattle.js_meaning_near.specs.Near.{module_of, hoists_nothing}
use Rattle.js_meaning_near.specs.Purpose.{Purpose}
use Rattle.js_meaning_near.specs.Unused.{Needed, all_needed, needed, not_needed, expression_kind, expression_below, IsSome}
use Rattle.js_meaning_near.proofs.Spared.{spared, sequence_wasted}
use Rattle.js_meaning_near.proofs.Unused.{AllNodes, array_wasted}
use Rattle.json_shape.specs.Shape.{Values, kind_in, first_of, one as one_place, list, list_with_holes, these, all, all_or_holes, IsOf, Stand, Fits}
use Rattle.form_rules.specs.Break.{unless}
use Rattle.form_rules.specs.Form.{IsWellFormed}
use Rattle.form_rules.specs.Rules.{length_of, is_rest, is_last, early_rests, each_breaks}
use Rattle.scope_laws.specs.Lists.{is_list}
use Rattle.scope_laws.specs.Place.{Around, plug}
use Rattle.steps.specs.Steps.{all_core}
use Rattle.steps.specs.Allowed.Unused.{is_unused_at}
use Rattle.steps.specs.Allowed.UnusedList.{acting, all_act, is_spread, has_spread, as_one, list_becomes, UnusedList, acting_parts_stay}
use Rattle.steps.specs.Allowed.UnusedOperation.{acts}
use Rattle.steps.specs.Allowed.Uses.{as_value, stands_bare}
use Rattle.steps.specs.Allowed.Wanted.{wanted_at}
use Rattle.steps.proofs.Fit.CoreCalm.{nameless_as_planned}
use Rattle.steps.proofs.Fit.Held.{core_here, core_below, core_behind}
use Rattle.steps.specs.KeepForm.Part.{is_asked_for}
use Rattle.steps.proofs.KeepForm.Rules.{first_empty, second_empty, both_empty}
use Rattle.steps.specs.Owed.Comes.{Comes}
use Rattle.steps.specs.Owed.TakesPlace.{anywhere, untagged}
use Rattle.steps.specs.Owed.Owed.{ByParts, by_coming}
use Rattle.steps.proofs.Owed.Bare.{wanted_for, bare_for_runs}
use Rattle.steps.proofs.Owed.BranchKinds.{IsExpression, expression_told, bare_unasked}
use Rattle.steps.proofs.Owed.ChoiceParts.{parts_of_array, parts_of_sequence, parts_of_template}
use Rattle.steps.proofs.Owed.ChoiceRuns.{core_there, no_imports_below}
use Rattle.steps.proofs.Owed.FitsTaking.{as_array, array_stood, as_sequence, sequence_stood, as_template, template_stood}
use Rattle.steps.proofs.Owed.SilentAnywhere.{silent_anywhere}
use Rattle.steps.proofs.Owed.Undeclared.{DeclaresNothing, both_plainly}
use Rattle.steps.proofs.Owed.UntaggedPlace.{unused_is_untagged}
use Rattle.steps.proofs.Owed.UnusedOperation.{bare_hoists, comes_out}
use Rattle.steps.proofs.Owed.UnusedPlace.{unused_for_effect}

abbrev tree : Kind → Note → (below : Forest) → Tree
tree k n below = record { kind = k; note = n; below = below }

-- ---- what is left: one part, or several in a sequence

pub data Left (n m : Note) : (parts : Forest) → Tree → Type 0 where
  one_left : (k : Kind) (i : Note) (a : Forest) → stands_bare as_value false k a ≡ true → Left n m (node k i a nothing) (tree k i a)
  several_left : (k l : Kind) (i j : Note) (a b r : Forest) → Left n m (node k i a (node l j b r)) (tree sequence_expression n (node expressions m (node k i a (node l j b r)) nothing))

pub is_left : (n m : Note) (parts : Forest) (y : Tree) → AllNodes parts → as_one n m parts ≡ Some y → Left n m parts y
is_left n m nothing y nodes e = absurd cc
is_left n m (absent r) y nodes e = absurd nodes
is_left n m (node k i a nothing) y nodes e = alone_left (stands_bare as_value false k a) refl e
  where
    alone_left : (b : Bool) → stands_bare as_value false k a ≡ b → (if b then Some (tree k i a) else None) ≡ Some y → Left n m (node k i a nothing) y
    alone_left true bare is = subst (Left n m (node k i a nothing)) (cc is) (one_left k i a bare)
    alone_left false bare is = absurd cc
is_left n m (node k i a (absent r)) y nodes e = absurd nodes
is_left n m (node k i a (node l j b r)) y nodes e = subst (Left n m (node k i a (node l j b r))) (cc e) (several_left k l i j a b r)

pub acting_nodes : (parts : Forest) → AllNodes (acting parts)
acting_nodes nothing = tt
acting_nodes (absent r) = acting_nodes r
acting_nodes (node k n a r) = each (acts k n a) (acting_nodes r)
  where
    each : (b : Bool) → AllNodes (acting r) → AllNodes (if b then node k n a (acting r) else acting r)
    each true later = later
    each false later = later

-- by the kind of the list
pub data Listed (n m : Note) : Kind → (below : Forest) → Tree → Type 0 where
  an_array : (i : Note) (parts : Forest) (y : Tree) → has_spread (acting parts) ≡ false → Left n m (acting parts) y → Listed n m array_expression (node elements i parts nothing) y
  an_array_of_spreads : (i : Note) (parts : Forest) → has_spread (acting parts) ≡ true → all_act parts ≡ false → Listed n m array_expression (node elements i parts nothing) (tree array_expression n (node elements m (acting parts) nothing))
  a_sequence : (i : Note) (parts : Forest) (y : Tree) → all_act parts ≡ false → Left n m (acting parts) y → Listed n m sequence_expression (node expressions i parts nothing) y
  a_template : (h i : Note) (texts parts : Forest) (y : Tree) → Left n m (acting parts) y → Listed n m template_literal (node quasis h texts (node expressions i parts nothing)) y

is_listed : (n m : Note) (k : Kind) (below : Forest) (y : Tree) → list_becomes n m k below ≡ Some y → Listed n m k below y
is_listed n m array_expression (node elements i parts nothing) y e = by_spread (has_spread (acting parts)) (all_act parts) refl refl e
  where
    by_spread : (b c : Bool) → has_spread (acting parts) ≡ b → all_act parts ≡ c
        → (if b && c then None else (if b then Some (tree array_expression n (node elements m (acting parts) nothing)) else as_one n m (acting parts))) ≡ Some y → Listed n m array_expression (node elements i parts nothing) y
    by_spread true true spread acting_all is = absurd cc
    by_spread true false spread some is = subst (Listed n m array_expression (node elements i parts nothing)) (cc is) (an_array_of_spreads i parts spread some)
    by_spread false c single _ is = an_array i parts y single (is_left n m (acting parts) y (acting_nodes parts) is)
is_listed n m sequence_expression (node expressions i parts nothing) y e = by_all (all_act parts) refl e
  where
    by_all : (b : Bool) → all_act parts ≡ b → (if b then None else as_one n m (acting parts)) ≡ Some y → Listed n m sequence_expression (node expressions i parts nothing) y
    by_all true acting_all is = absurd cc
    by_all false some is = a_sequence i parts y some (is_left n m (acting parts) y (acting_nodes parts) is)
is_listed n m template_literal (node quasis h texts (node expressions i parts nothing)) y e = by_kinds (only_combines template_literal (node quasis h texts (node expressions i parts nothing))) e
  where
    by_kinds : (b : Bool) → (if b then as_one n m (acting parts) else None) ≡ Some y → Listed n m template_literal (node quasis h texts (node expressions i parts nothing)) y
    by_kinds true is = a_template h i texts parts y (is_left n m (acting parts) y (acting_nodes parts) is)
    by_kinds false is = absurd cc
is_listed n m k below y e = absurd cc

-- ---- rebuilt

pub list_is_built : (parts : Forest) → MayBeBuilt expressions parts
list_is_built parts = record { operation = refl; calls_none = refl; breaks_none = λ c place. refl }

array_is_built : (m : Note) (parts : Forest) → MayBeBuilt array_expression (node elements m parts nothing)
array_is_built m parts = record { operation = refl; calls_none = refl; breaks_none = λ c place. refl }

-- a sequence has two parts or more
pub sequence_is_built : (m : Note) (k l : Kind) (i j : Note) (a b r : Forest) → MayBeBuilt sequence_expression (node expressions m (node k i a (node l j b r)) nothing)
sequence_is_built m k l i j a b r = record { operation = refl; calls_none = refl; breaks_none = λ c place. ap (λ b. unless b place 11 ++ []) (lt-ltb 1 (suc (suc (length_of r))) (Prim.omega arith)) }

acting_rebuilt : (parts : Forest) → Rebuilt (joined parts nothing) (joined (acting parts) nothing)
acting_rebuilt nothing = ends
acting_rebuilt (absent r) = absent_leaves (acting_rebuilt r)
acting_rebuilt (node k n a r) = each (acts k n a) (acting_rebuilt r)
  where
    each : (b : Bool) → Rebuilt (joined r nothing) (joined (acting r) nothing) → Rebuilt (node k n a (joined r nothing)) (joined (if b then node k n a (acting r) else acting r) nothing)
    each true later = stays later
    each false later = leaves later

pub left_rebuilt : {n m : Note} {parts : Forest} {y : Tree} (t : Forest) → Left n m parts y → Rebuilt t (joined parts nothing) → Rebuilt t (forest_of y)
left_rebuilt t (one_left k i a bare) h = h
left_rebuilt {n = n} {m = m} t (several_left k l i j a b r) h =
    built (sequence_is_built m k l i j a b r) (built (list_is_built (node k i a (node l j b r))) h)

-- ---- what it weighs, and how many nodes and levels there are

pub acting_less : (w : Kind → ℕ) (parts : Forest) → total w (acting parts) ≤ total w parts
acting_less w nothing = Prim.omega arith
acting_less w (absent r) = acting_less w r
acting_less w (node k n a r) = each (acts k n a) (acting_less w r)
  where
    each : (b : Bool) → total w (acting r) ≤ total w r → total w (if b then node k n a (acting r) else acting r) ≤ total w (node k n a r)
    each true later = Prim.omega (arith, later)
    each false later = Prim.omega (arith, later)

pub left_weighs : {n m : Note} {parts : Forest} {y : Tree} → Left n m parts y → total weight (forest_of y) ≤ total weight parts + 2
left_weighs (one_left k i a bare) = Prim.omega arith
left_weighs (several_left k l i j a b r) = Prim.omega arith

pub acting_lower : (f g : ℕ → ℕ) → ((i : ℕ) → g i ≡ 0) → (parts : Forest) (i j : ℕ) → levels_at g j (acting parts) ≤ levels_at f i parts
acting_lower f g none nothing i j = Prim.omega arith
acting_lower f g none (absent r) i j = acting_lower f g none r (suc i) j
acting_lower f g none (node k n a r) i j = each (acts k n a) (λ q. acting_lower f g none r (suc i) q)
  where
    each : (b : Bool) → ((q : ℕ) → levels_at g q (acting r) ≤ levels_at f (suc i) r) → levels_at g j (if b then node k n a (acting r) else acting r) ≤ levels_at f i (node k n a r)
    each true later = let h = later (suc j) in Prim.omega (arith, h, none j)
    each false later = let h = later j in Prim.omega (arith, h)

pub left_lower : {n m : Note} {parts : Forest} {y : Tree} (most : ℕ) → Left n m parts y → ((g : ℕ → ℕ) → ((i : ℕ) → g i ≡ 0) → levels_at g 0 parts ≤ most) → levels (forest_of y) ≤ most + 1
left_lower most (one_left k i a bare) h = let it = h (λ i. 0) (λ i. refl) in Prim.omega (arith, it)
left_lower most (several_left k l i j a b r) h = let it = h (λ i. lower expressions i) (λ i. refl) in Prim.omega (arith, it)

-- ---- by the table of node types

abbrev pub Parts : Forest → Type 0
Parts t = Stand (all expression) t

abbrev Elements : Forest → Type 0
Elements t = Stand (all_or_holes argument) t

pub parts_are_nodes : (parts : Forest) → Parts parts → AllNodes parts
parts_are_nodes nothing st = tt
parts_are_nodes (absent r) st = absurd st.0
parts_are_nodes (node k n a r) st = parts_are_nodes r st.1

elements_are_nodes : (parts : Forest) → Elements parts → AllNodes parts
elements_are_nodes nothing st = tt
elements_are_nodes (absent r) st = absurd st.0
elements_are_nodes (node k n a r) st = elements_are_nodes r st.1

acting_parts : (parts : Forest) → Parts parts → Parts (acting parts)
acting_parts nothing st = tt
acting_parts (absent r) st = absurd st.0
acting_parts (node k n a r) st = each (acts k n a) (acting_parts r st.1)
  where
    each : (b : Bool) → Parts (acting r) → Parts (if b then node k n a (acting r) else acting r)
    each true later = (st.0, later)
    each false later = later

-- an argument that isn't spread is an expression
argument_row : (r : Row) (vs : Values (fields_of r)) → stands argument (type_of r) ≡ Some (first_of r) → is_spread (kind_in r vs) ≡ false → stands expression (type_of r) ≡ Some (first_of r)
argument_row a_spread_element vs stood single = absurd (true≢false single)
argument_row r vs stood single = stood

argument_is : (k : Kind) (a : Forest) → is_spread k ≡ false → IsOf k a (λ p. Stand p a) argument → IsExpression k a
argument_is k a single of = (of.0, of.1, argument_row of.0 of.1 of.2 (ap is_spread (sym of.4) ∙ single), of.3, of.4, of.5)

-- nor does a hole act
hole_is_idle : (k : Kind) (n : Note) (a : Forest) → k ≡ hole → acts k n a ≡ true → ⊥
hole_is_idle k n a is h = true≢false (sym h ∙ ap (λ l. acts l n a) is)

acting_elements : (parts : Forest) → has_spread (acting parts) ≡ false → Elements parts → Parts (acting parts)
acting_elements nothing single st = tt
acting_elements (absent r) single st = absurd st.0
acting_elements (node k n a r) single st = each (acts k n a) refl single (λ h. acting_elements r h st.1)
  where
    each : (b : Bool) → acts k n a ≡ b → has_spread (if b then node k n a (acting r) else acting r) ≡ false → (has_spread (acting r) ≡ false → Parts (acting r)) → Parts (if b then node k n a (acting r) else acting r)
    each true is alone later = elim st.0 [
      | inl at ↦ absurd (hole_is_idle k n a at.0 is)
      | inr of ↦ (argument_is k a (first_of_neither (is_spread k) (has_spread (acting r)) alone) of, later (second_of_neither (is_spread k) (has_spread (acting r)) alone))
    ]
    each false is alone later = later alone

-- no element is a rest, of which a rule of form asks whether it stands last
rest_row : (r : Row) (vs : Values (fields_of r)) → stands argument (type_of r) ≡ Some (first_of r) → is_rest (kind_in r vs) ≡ false
rest_row a_binding_rest vs stood = absurd cc
rest_row a_target_rest vs stood = absurd cc
rest_row r vs stood = refl

no_rest_there : (k : Kind) (place : ℕ) (n : Note) (a r : Forest) → is_rest k ≡ false → early_rests place (node k n a r) ≡ early_rests (place + node_count (node k n a nothing)) r
no_rest_there k place n a r none =
    ap (λ (b : Bool). if b && not (is_last r) then place ∷ early_rests (place + node_count (node k n a nothing)) r else early_rests (place + node_count (node k n a nothing)) r) none

no_early_rests : (place : ℕ) (parts : Forest) → Elements parts → early_rests place parts ≡ []
no_early_rests place nothing st = refl
no_early_rests place (absent r) st = absurd st.0
no_early_rests place (node k n a r) st =
    no_rest_there k place n a r (elim st.0 [ inl at ↦ ap is_rest at.0 | inr of ↦ ap is_rest of.4 ∙ rest_row of.0 of.1 of.2 ])
    ∙ no_early_rests (place + node_count (node k n a nothing)) r st.1

elements_are_built : (parts : Forest) → Elements parts → MayBeBuilt elements parts
elements_are_built parts st = record { operation = refl; calls_none = refl; breaks_none = λ c place. ap (λ places. each_breaks 11 places ++ []) (no_early_rests place parts st) }

-- and what stood among elements stands there still
acting_stand : (parts : Forest) → Elements parts → Elements (acting parts)
acting_stand nothing st = tt
acting_stand (absent r) st = absurd st.0
acting_stand (node k n a r) st = each (acts k n a) (acting_stand r st.1)
  where
    each : (b : Bool) → Elements (acting r) → Elements (if b then node k n a (acting r) else acting r)
    each true later = (st.0, later)
    each false later = later

pub left_fits : {n m : Note} {parts : Forest} {y : Tree} → Left n m parts y → Parts parts → IsExpression y.kind y.below
left_fits (one_left k i a bare) st = st.0
left_fits (several_left k l i j a b r) st = (a_sequence_expression, tt, refl, tt, refl, ((refl, st), tt))

pub left_unasked : {n m : Note} {parts : Forest} {y : Tree} → Left n m parts y → Parts parts → is_asked_for y.kind ≡ false
left_unasked (one_left k i a bare) st = bare_unasked k a st.0 as_value false bare
left_unasked (several_left k l i j a b r) st = refl

-- ---- runs

acting_needed : (st : Names) (parts : Forest) → AllNodes parts → Needed st parts (acting parts)
acting_needed st nothing nodes = all_needed
acting_needed st (absent r) nodes = absurd nodes
acting_needed st (node k n a r) nodes = each (acts k n a) refl (acting_needed st r nodes)
  where
    each : (b : Bool) → acts k n a ≡ b → Needed st r (acting r) → Needed st (node k n a r) (if b then node k n a (acting r) else acting r)
    each true is later = needed later
    each false is later = not_needed (silent_anywhere st k n a is) later

pub left_some : {n m : Note} {parts : Forest} {y : Tree} → Left n m parts y → IsSome parts
left_some (one_left k i a bare) = tt
left_some (several_left k l i j a b r) = tt

some_parts : (parts : Forest) → AllNodes parts → IsSome (acting parts) → IsSome parts
some_parts nothing nodes some = some
some_parts (absent r) nodes some = absurd nodes
some_parts (node k n a r) nodes some = tt

pub left_stands : {n m : Note} {parts : Forest} {y : Tree} (u : Purpose) (k : Kind) (below : Forest) → Left n m parts y → Stands u k below (expression_kind parts) (expression_below m parts) → Stands u k below y.kind y.below
left_stands u k below (one_left l i a bare) h = h
left_stands u k below (several_left l z i j a b r) h = h

pub left_hoists : {n m : Note} {parts : Forest} {y : Tree} → Left n m parts y → Parts parts → all_core parts ≡ true → hoists_nothing (expression_kind parts) ≡ true
left_hoists (one_left k i a bare) st core = bare_hoists (wanted_for as_value) k a (bare_for_runs as_value false k i a st.0 core bare)
left_hoists (several_left k l i j a b r) st core = refl

acting_core : (parts : Forest) → all_core parts ≡ true → all_core (acting parts) ≡ true
acting_core nothing core = refl
acting_core (absent r) core = acting_core r core
acting_core (node k n a r) core = each (acts k n a) (acting_core r (core_behind k n a r core))
  where
    each : (b : Bool) → all_core (acting r) ≡ true → all_core (if b then node k n a (acting r) else acting r) ≡ true
    each true later = both (is_core k) (all_core a && all_core (acting r)) (core_here k n a r core) (both (all_core a) (all_core (acting r)) (core_below k n a r core) later)
    each false later = later

pub left_core : {n m : Note} {parts : Forest} {y : Tree} → Left n m parts y → all_core parts ≡ true → all_core (forest_of y) ≡ true
left_core (one_left k i a bare) core = core
left_core (several_left k l i j a b r) core = both (all_core (node k i a (node l j b r)) && true) true (both (all_core (node k i a (node l j b r))) true core refl) refl

-- nothing is spread in core
core_is_single : (k : Kind) → is_core k ≡ true → is_spread k ≡ false
core_is_single spread_element core = absurd (true≢false (sym core))
core_is_single k core = refl

core_has_no_spread : (parts : Forest) → all_core parts ≡ true → has_spread parts ≡ false
core_has_no_spread nothing core = refl
core_has_no_spread (absent r) core = core_has_no_spread r core
core_has_no_spread (node k n a r) core = ap₂ (λ b c. b || c) (core_is_single k (core_here k n a r core)) (core_has_no_spread r (core_behind k n a r core))

-- nothing is imported
abbrev pub ImportsNone : Forest → Type 0
ImportsNone t = (source : Text) → import_decls source t ≡ []

acting_imports : (parts : Forest) → ImportsNone parts → ImportsNone (acting parts)
acting_imports nothing none = none
acting_imports (absent r) none = acting_imports r none
acting_imports (node k n a r) none = each (acts k n a) (acting_imports r (λ source. second_empty (specifier_decls source k a (import_decls source a)) (import_decls source r) (none source)))
  where
    each : (b : Bool) → ImportsNone (acting r) → ImportsNone (if b then node k n a (acting r) else acting r)
    each true later = λ source. both_empty (specifier_decls source k a (import_decls source a)) (import_decls source (acting r)) (first_empty (specifier_decls source k a (import_decls source a)) (import_decls source r) (none source)) (later source)
    each false later = later

pub left_imports : {n m : Note} {parts : Forest} {y : Tree} → Left n m parts y → ImportsNone parts → ImportsNone (forest_of y)
left_imports (one_left k i a bare) none = none
left_imports (several_left k l i j a b r) none =
    let parts = node k i a (node l j b r) in
    λ source. both_empty (import_decls source parts ++ []) [] (both_empty (import_decls source parts) [] (none source) refl) refl

pub left_declares : {n m : Note} {parts : Forest} {y : Tree} → Left n m parts y → Parts parts → all_core parts ≡ true → ImportsNone parts → DeclaresNothing (forest_of y)
left_declares {y = y} left st core none = record {
  bound = nameless_as_planned (forest_of y) (these (one_place expression ∷ [])) refl (left_fits left st, tt) (left_core left core);
  imports = left_imports left none;
}

-- ---- each list

module _ (a : Around) (unused : is_unused_at a ≡ true) (p n m i : Note) (parts : Forest) (y : Tree) (left : Left n m (acting parts) y) where
  module _ (single : has_spread (acting parts) ≡ false) (lighter : total weight (forest_of y) < total weight (node array_expression p (node elements i parts nothing) nothing)) where
    abbrev array : Tree
    array = tree array_expression p (node elements i parts nothing)

    elements_there : Fits root (plug a (Some array)) → Elements parts
    elements_there fits = (parts_of_array a p array.below fits).0.1

    elements_stay : Fits root (plug a (Some array)) → Parts (acting parts)
    elements_stay fits = acting_elements parts single (elements_there fits)

    array_fits : Fits root (plug a (Some array)) → IsExpression array_expression array.below
    array_fits fits = (an_array_expression, tt, refl, tt, refl, parts_of_array a p array.below fits)

    array_comes : (q s : Note) (b : Forest) → plug a (Some array) ≡ module_of q s b → Fits root (module_of q s b) → IsWellFormed (module_of q s b) → all_core (module_of q s b) ≡ true → Comes a array y
    array_comes q s b is fits form core =
        let there = subst (Fits root) (sym is) fits in
        let below = core_below array_expression p array.below nothing (core_there a array (subst (λ t. all_core t ≡ true) (sym is) core)) in
        let within = core_below elements i parts nothing below in
        let imports : ImportsNone array.below = no_imports_below q s b a array y is fits form core array_expression refl refl (λ s i. refl) in
        let none : DeclaresNothing array.below = record { bound = nameless_as_planned array.below (these (list_with_holes elements argument ∷ [])) refl (parts_of_array a p array.below there) below; imports = imports } in
        record {
          inner = y.below;
          same = refl;
          stands = left_stands (wanted_at a) array_expression array.below left
              (spared (wanted_at a) array_expression p m array.below (acting parts) (unused_for_effect a unused) (left_some left) refl (left_hoists left (elements_stay there) (acting_core parts within))
              (λ st. array_wasted st p i m parts (acting parts) (acting_needed st parts (elements_are_nodes parts (elements_there there)))));
          old_calm = refl;
          declares = both_plainly array_expression array.below y.kind y.note y.below nothing refl none
              (left_declares left (elements_stay there) (acting_core parts within) (acting_imports parts (λ source. first_empty (import_decls source parts) [] (imports source))));
          core = λ c. left_core left (acting_core parts (core_below elements i parts nothing (core_below array_expression p array.below nothing c)));
        }

    array_owes : ByParts a array y
    array_owes = record {
      rebuilt = λ fits. opened refl (opened refl (left_rebuilt (joined parts nothing) left (acting_rebuilt parts)));
      lighter = lighter;
      no_deeper = let h = left_lower (levels_at (λ i. lower elements i) 0 parts) left (λ g none. acting_lower (λ i. lower elements i) g none parts 0 0) in Prim.omega (arith, h);
      no_call = record { counts = refl; lists = λ i. refl; begins = λ i. refl; calls = refl };
      ends = refl;
      may_change = refl;
      fits_expression = λ fits. (array_fits fits, tt);
      takes = λ fits.
          let of = left_fits left (elements_stay fits) in
          anywhere (record { classes = λ (to : Class) f. (as_array y.kind y.below to (array_stood to p array.below f) of, tt); old_told = refl; new_told = expression_told y.kind y.below of });
      no_name = refl;
      old_unasked = λ fits. refl;
      unasked = λ fits. left_unasked left (elements_stay fits);
      comes_out = comes_out a y unused;
      runs = by_coming array_comes;
    }

  module _ (lighter : total weight (forest_of y) < total weight (node sequence_expression p (node expressions i parts nothing) nothing)) where
    abbrev sequence : Tree
    sequence = tree sequence_expression p (node expressions i parts nothing)

    parts_there : Fits root (plug a (Some sequence)) → Parts parts
    parts_there fits = (parts_of_sequence a p sequence.below fits).0.1

    parts_stay : Fits root (plug a (Some sequence)) → Parts (acting parts)
    parts_stay fits = acting_parts parts (parts_there fits)

    sequence_fits : Fits root (plug a (Some sequence)) → IsExpression sequence_expression sequence.below
    sequence_fits fits = (a_sequence_expression, tt, refl, tt, refl, parts_of_sequence a p sequence.below fits)

    sequence_comes : (q s : Note) (b : Forest) → plug a (Some sequence) ≡ module_of q s b → Fits root (module_of q s b) → IsWellFormed (module_of q s b) → all_core (module_of q s b) ≡ true → Comes a sequence y
    sequence_comes q s b is fits form core =
        let there = subst (Fits root) (sym is) fits in
        let below = core_below sequence_expression p sequence.below nothing (core_there a sequence (subst (λ t. all_core t ≡ true) (sym is) core)) in
        let within = core_below expressions i parts nothing below in
        let nodes = parts_are_nodes parts (parts_there there) in
        let imports : ImportsNone sequence.below = no_imports_below q s b a sequence y is fits form core sequence_expression refl refl (λ s i. refl) in
        let none : DeclaresNothing sequence.below = record { bound = nameless_as_planned sequence.below (these (list expressions expression ∷ [])) refl (parts_of_sequence a p sequence.below there) below; imports = imports } in
        record {
          inner = y.below;
          same = refl;
          stands = left_stands (wanted_at a) sequence_expression sequence.below left
              (spared (wanted_at a) sequence_expression p m sequence.below (acting parts) (unused_for_effect a unused) (left_some left) refl (left_hoists left (parts_stay there) (acting_core parts within))
              (λ st. sequence_wasted st p i m parts (acting parts) (some_parts parts nodes (left_some left)) (acting_needed st parts nodes)));
          old_calm = refl;
          declares = both_plainly sequence_expression sequence.below y.kind y.note y.below nothing refl none
              (left_declares left (parts_stay there) (acting_core parts within) (acting_imports parts (λ source. first_empty (import_decls source parts) [] (imports source))));
          core = λ c. left_core left (acting_core parts (core_below expressions i parts nothing (core_below sequence_expression p sequence.below nothing c)));
        }

    sequence_owes : ByParts a sequence y
    sequence_owes = record {
      rebuilt = λ fits. opened refl (opened refl (left_rebuilt (joined parts nothing) left (acting_rebuilt parts)));
      lighter = lighter;
      no_deeper = let h = left_lower (levels_at (λ i. lower expressions i) 0 parts) left (λ g none. acting_lower (λ i. lower expressions i) g none parts 0 0) in Prim.omega (arith, h);
      no_call = record { counts = refl; lists = λ i. refl; begins = λ i. refl; calls = refl };
      ends = refl;
      may_change = refl;
      fits_expression = λ fits. (sequence_fits fits, tt);
      takes = λ fits.
          let of = left_fits left (parts_stay fits) in
          anywhere (record { classes = λ (to : Class) f. (as_sequence y.kind y.below to (sequence_stood to p sequence.below f) of, tt); old_told = refl; new_told = expression_told y.kind y.below of });
      no_name = refl;
      old_unasked = λ fits. refl;
      unasked = λ fits. left_unasked left (parts_stay fits);
      comes_out = comes_out a y unused;
      runs = by_coming sequence_comes;
    }

-- what is spread stays in an array
module _ (a : Around) (unused : is_unused_at a ≡ true) (p n m i : Note) (parts : Forest) (spread : has_spread (acting parts) ≡ true) (lighter : total weight (acting parts) < total weight parts) where
  abbrev whole : Tree
  whole = tree array_expression p (node elements i parts nothing)

  abbrev shorter : Tree
  shorter = tree array_expression n (node elements m (acting parts) nothing)

  whole_fits : Fits root (plug a (Some whole)) → IsExpression array_expression whole.below
  whole_fits fits = (an_array_expression, tt, refl, tt, refl, parts_of_array a p whole.below fits)

  acting_there : Fits root (plug a (Some whole)) → Elements (acting parts)
  acting_there fits = acting_stand parts ((parts_of_array a p whole.below fits).0.1)

  shorter_fits : Fits root (plug a (Some whole)) → IsExpression array_expression shorter.below
  shorter_fits fits = (an_array_expression, tt, refl, tt, refl, ((refl, acting_there fits), tt))

  spreads_owe : ByParts a whole shorter
  spreads_owe = record {
    rebuilt = λ fits. opened refl (opened refl (built (array_is_built m (acting parts)) (built (elements_are_built (acting parts) (acting_there fits)) (acting_rebuilt parts))));
    lighter = Prim.omega (arith, lighter);
    no_deeper = let h = acting_lower (λ i. lower elements i) (λ i. lower elements i) (λ i. refl) parts 0 0 in Prim.omega (arith, h);
    no_call = record { counts = refl; lists = λ i. refl; begins = λ i. refl; calls = refl };
    ends = refl;
    may_change = refl;
    fits_expression = λ fits. (whole_fits fits, tt);
    takes = λ fits.
        let of = shorter_fits fits in
        anywhere (record { classes = λ (to : Class) f. (as_array array_expression shorter.below to (array_stood to p whole.below f) of, tt); old_told = refl; new_told = expression_told array_expression shorter.below of });
    no_name = refl;
    old_unasked = λ fits. refl;
    unasked = λ fits. refl;
    comes_out = comes_out a shorter unused;
    -- nothing that is spread is core
    runs = by_coming (λ q s b is fits form core.
        let below = core_below array_expression p whole.below nothing (core_there a whole (subst (λ t. all_core t ≡ true) (sym is) core)) in
        absurd (true≢false (sym spread ∙ core_has_no_spread (acting parts) (acting_core parts (core_below elements i parts nothing below)))));
  }

-- its substitutions stand in the second list
module _ (a : Around) (unused : is_unused_at a ≡ true) (p n m h i : Note) (texts parts : Forest) (y : Tree) (left : Left n m (acting parts) y) where
  abbrev template : Tree
  template = tree template_literal p (node quasis h texts (node expressions i parts nothing))

  substitutions_stay : Fits root (plug a (Some template)) → Parts (acting parts)
  substitutions_stay fits = acting_parts parts ((parts_of_template a p template.below fits).1.0.1)

  template_is_lighter : total weight (forest_of y) < total weight (forest_of template)
  template_is_lighter = let h = left_weighs left in let less = acting_less weight parts in Prim.omega (arith, h, less)

  template_owes : ByParts a template y
  template_owes = record {
    rebuilt = λ fits. opened refl (leaves (opened refl (left_rebuilt (joined parts nothing) left (acting_rebuilt parts))));
    lighter = template_is_lighter;
    no_deeper = let h = left_lower (levels_at (λ i. lower expressions i) 0 parts) left (λ g none. acting_lower (λ i. lower expressions i) g none parts 0 0) in Prim.omega (arith, h);
    no_call = record { counts = refl; lists = λ i. refl; begins = λ i. refl; calls = refl };
    ends = refl;
    may_change = refl;
    fits_expression = λ fits. ((a_template_literal, tt, refl, tt, refl, parts_of_template a p template.below fits), tt);
    takes = λ fits.
        let of = left_fits left (substitutions_stay fits) in
        untagged (unused_is_untagged a unused) (record { classes = λ (to : Class) none f. (as_template y.kind y.below to none (template_stood to p template.below f) of, tt); old_told = refl; new_told = expression_told y.kind y.below of });
    no_name = refl;
    old_unasked = λ fits. refl;
    unasked = λ fits. left_unasked left (substitutions_stay fits);
    comes_out = comes_out a y unused;
    -- no template is core
    runs = by_coming (λ q s b is fits form core. absurd (true≢false (sym (core_there a template (subst (λ t. all_core t ≡ true) (sym is) core)))));
  }

listed_owes : (a : Around) (p n m : Note) (k : Kind) (below : Forest) (y : Tree) → is_unused_at a ≡ true → Listed n m k below y → total weight (forest_of y) < total weight (node k p below nothing) → ByParts a (tree k p below) y
listed_owes a p n m _ _ y unused (an_array i parts _ single left) lighter = array_owes a unused p n m i parts y left single lighter
listed_owes a p n m _ _ _ unused (an_array_of_spreads i parts spread some) lighter = spreads_owe a unused p n m i parts spread (Prim.omega (arith, lighter))
listed_owes a p n m _ _ y unused (a_sequence i parts _ some left) lighter = sequence_owes a unused p n m i parts y left lighter
listed_owes a p n m _ _ y unused (a_template h i texts parts _ left) lighter = template_owes a unused p n m h i texts parts y left

-- where the new one is lighter
pub lighter_list_owes : (a : Around) (x y : Tree) → UnusedList a x y → total weight (forest_of y) < total weight (forest_of x) → ByParts a x y
lighter_list_owes a x y (acting_parts_stay n m _ _ unused is) lighter = listed_owes a x.note n m x.kind x.below y unused (is_listed n m x.kind x.below y is) lighter

-- an array is always heavier than what it becomes
pub array_is_heavier : {n m : Note} (parts : Forest) {y : Tree} (p i : Note) → Left n m (acting parts) y → total weight (forest_of y) < total weight (node array_expression p (node elements i parts nothing) nothing)
array_is_heavier parts p i left = let h = left_weighs left in let less = acting_less weight parts in Prim.omega (arith, h, less)

-- ---- so is a sequence, if a part leaves that weighs something

-- what doesn't act weighs something, if it is no list
value_weighs : (v : LiteralValue) → 1 ≤ value_weight v
value_weighs (value.Number (pos zero)) = Prim.omega arith
value_weighs (value.Number (pos (suc zero))) = Prim.omega arith
value_weighs (value.Text []) = Prim.omega arith
value_weighs v = Prim.omega arith

function_weighs : (how : FunctionKind) (pure : Bool) → 1 ≤ weight (Kind.Function how pure)
function_weighs function_kind.Declaration pure = Prim.omega arith
function_weighs function_kind.Expression pure = Prim.omega arith
function_weighs function_kind.Arrow pure = Prim.omega arith

text_weighs : (raw : List ℕ) → 1 ≤ text_weight raw
text_weighs [] = Prim.omega arith
text_weighs (c ∷ cs) = Prim.omega arith

pub idle_weighs : (k : Kind) (n : Note) (a : Forest) → acts k n a ≡ false → is_list k ≡ false → 1 ≤ weight k
idle_weighs (Kind.Literal v) n a idle no_list = value_weighs v
idle_weighs (Kind.Function how pure) n a idle no_list = function_weighs how pure
idle_weighs Kind.VariableDeclarator n a idle no_list = absurd cc
idle_weighs (Kind.Class how) n a idle no_list = absurd cc
idle_weighs (Kind.ExportNamedDeclaration source) n a idle no_list = absurd cc
idle_weighs (Kind.TemplateElement v tail) n a idle no_list = text_weighs v.raw
idle_weighs Kind.Statements n a idle no_list = absurd cc
idle_weighs Kind.Cases n a idle no_list = absurd cc
idle_weighs Kind.Declarators n a idle no_list = absurd cc
idle_weighs Kind.Parameters n a idle no_list = absurd cc
idle_weighs Kind.Members n a idle no_list = absurd cc
idle_weighs Kind.Elements n a idle no_list = absurd cc
idle_weighs Kind.Properties n a idle no_list = absurd cc
idle_weighs Kind.Expressions n a idle no_list = absurd cc
idle_weighs Kind.Arguments n a idle no_list = absurd cc
idle_weighs Kind.Quasis n a idle no_list = absurd cc
idle_weighs Kind.Specifiers n a idle no_list = absurd cc
idle_weighs k n a idle no_list = Prim.omega arith

acting_lighter : (parts : Forest) → all_act parts ≡ false → total weight (acting parts) + 1 ≤ total weight parts
acting_lighter nothing some = absurd cc
acting_lighter (absent r) some = acting_lighter r some
acting_lighter (node k n a r) some = each (acts k n a) (is_list k) refl refl some (acting_lighter r)
  where
    each : (b c : Bool) → acts k n a ≡ b → is_list k ≡ c → ((b || c) && all_act r) ≡ false → (all_act r ≡ false → total weight (acting r) + 1 ≤ total weight r)
        → total weight (if b then node k n a (acting r) else acting r) + 1 ≤ total weight (node k n a r)
    each true c acting_one a_list h later = let less = later h in Prim.omega (arith, less)
    each false true idle a_list h later = let less = later h in Prim.omega (arith, less)
    each false false idle no_list h later = let here = idle_weighs k n a idle no_list in let less = acting_less weight r in Prim.omega (arith, here, less)

list_is_heavier : (p n m : Note) (k : Kind) (below : Forest) (y : Tree) → Listed n m k below y → total weight (forest_of y) < total weight (node k p below nothing)
list_is_heavier p n m _ _ y (an_array i parts _ single left) = array_is_heavier parts p i left
list_is_heavier p n m _ _ _ (an_array_of_spreads i parts spread some) = let less = acting_lighter parts some in Prim.omega (arith, less)
list_is_heavier p n m _ _ y (a_template h i texts parts _ left) = let fewer = left_weighs left in let less = acting_less weight parts in Prim.omega (arith, fewer, less)
list_is_heavier p n m _ _ y (a_sequence i parts _ some left) = let h = left_weighs left in let less = acting_lighter parts some in Prim.omega (arith, h, less)

pub unused_list_owes : (a : Around) (x y : Tree) → UnusedList a x y → ByParts a x y
unused_list_owes a x y (acting_parts_stay n m _ _ unused is) =
    let listed = is_listed n m x.kind x.below y is in
    listed_owes a x.note n m x.kind x.below y unused listed (list_is_heavier x.note n m x.kind x.below y listed)
