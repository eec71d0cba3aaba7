-- What comes out where a choice stood: no name where it matters that one stands there, and what the choice gave where a run asks
-- for its value.
use Rattle.std.proofs.Common.{◌≡◌, Bool, true, false, not, ◌||◌, ◌∷◌, [], Some, refl, sym, ap, ◌∙◌, subst, true≢false}
use Rattle.std.specs.Prelude.{is_some, None, if◌then◌else◌}
use Rattle.js_syntax.specs.Class.{expression}
use Rattle.js_syntax.specs.declared.node_kind.NodeKind.{NodeKind as Kind}
use Rattle.js_syntax.specs.Facts.{is_core}
use Rattle.js_syntax.specs.Hint.{has, is_private}
use Rattle.js_syntax.specs.Node.{Forest, Tree, Note, nothing, node, absent, alone}
use Rattle.js_syntax.specs.Table.{Row, a_function_expression, an_arrow_function, a_class_expression, a_reference_name, a_literal, a_reg_exp, a_this_expression, an_array_expression, an_object_expression, a_sequence_expression, a_unary_expression, an_update_expression, a_binary_expression, an_in_expression, a_logical_expression, an_assignment_expression, a_compound_assignment, a_conditional_expression, a_call_expression, a_new_expression, a_member_expression, a_chain_expression, a_parenthesized_expression, a_parenthesized_target, a_template_literal, a_tagged_template_expression, a_new_target, an_import_meta, an_import_expression, fields_of, type_of, stands}
use Rattle.js_tree.specs.Names.{eval_name}
use Rattle.js_meaning.specs.Node.{Wanted, itself, to_call, for_typeof}
use Rattle.js_meaning_near.specs.Near.{is_blunt}
use Rattle.js_meaning_near.specs.Purpose.{asked}
use Rattle.js_meaning_near.specs.Bare as runs
use Rattle.form_rules.specs.Rules.{is_bare_name}
use Rattle.json_shape.specs.Shape.{Values, kind_in, first_of, IsChosen, one, places, these, Stand}
use Rattle.scope_laws.specs.Place.{Around}
use Rattle.steps.specs.Steps.{all_core}
use Rattle.steps.proofs.Fit.Held.{core_here, core_below, core_alone}
use Rattle.min_pass.specs.Around.{outermost as asked_of_program}
use Rattle.steps.specs.Allowed.Branches.{is_branch}
use Rattle.steps.specs.Allowed.Uses.{Use, as_value, as_callee, as_typed, as_deleted, use_at, is_eval, stands_bare}
use Rattle.steps.specs.Allowed.Places.{asked_at, MayStandBare}
use Rattle.steps.specs.Allowed.Wanted.{wanted_at}
use Rattle.steps.proofs.KeepForm.Asked.{bare_alone}
use Rattle.steps.specs.Owed.Owed.{ComesOut}
use Rattle.steps.proofs.Owed.BranchKinds.{IsExpression}

-- ---- names

no_bare_name : (u : Use) (in_with : Bool) (k : Kind) (n : Note) (b : Forest) → u ≡ as_deleted → stands_bare u in_with k b ≡ true → is_bare_name (alone k n b) ≡ false
no_bare_name as_deleted in_with (Kind.ReferenceName x) n b d h = absurd (true≢false (sym h))
no_bare_name as_deleted in_with Kind.ParenthesizedExpression n (node k m b r) d h = bare_alone k m b r ∙ no_bare_name as_deleted in_with k m b d h
no_bare_name as_deleted in_with k n b d h = refl
no_bare_name u in_with k n b d h = absurd cc

neither : (x y : Bool) → not ((x || y) || false) ≡ true → y ≡ false
neither true y h = absurd (true≢false (sym h))
neither false true h = absurd (true≢false (sym h))
neither false false h = refl

no_eval : (x : Bool) (t : Tree) → x ≡ false → is_some (if x then Some t else None) ≡ false
no_eval true t h = absurd (true≢false h)
no_eval false t h = refl

pub eval_alone : (k : Kind) (n : Note) (b r : Forest) → is_some (eval_name (node k n b r)) ≡ is_some (eval_name (alone k n b))
eval_alone (Kind.ReferenceName x) n b r = refl
eval_alone Kind.ParenthesizedExpression n b r = refl
eval_alone k n b r = refl

no_eval_name : (u : Use) (in_with : Bool) (k : Kind) (n : Note) (b : Forest) → u ≡ as_callee → stands_bare u in_with k b ≡ true → is_some (eval_name (alone k n b)) ≡ false
no_eval_name as_callee in_with (Kind.ReferenceName x) n b c h = no_eval (is_eval x) (record { kind = Kind.ReferenceName x; note = n; below = b }) (neither in_with (is_eval x) h)
no_eval_name as_callee in_with Kind.ParenthesizedExpression n (node k m b r) c h = eval_alone k m b r ∙ no_eval_name as_callee in_with k m b c h
no_eval_name as_callee in_with k n b c h = refl
no_eval_name u in_with k n b c h = absurd cc

pub bare_comes_out : (a : Around) (k : Kind) (n : Note) (b : Forest) → MayStandBare a k b → ComesOut a (record { kind = k; note = n; below = b })
bare_comes_out a k n b bare =
    let in_with = (asked_at (asked_of_program true) a).in_with in
    record { undeleted = λ e. no_bare_name (use_at a) in_with k n b e bare; uncalled = λ e. no_eval_name (use_at a) in_with k n b e bare }

-- statements are no names
pub branch_comes_out : (a : Around) (k : Kind) (n : Note) (b : Forest) → is_branch k ≡ true → ComesOut a (record { kind = k; note = n; below = b })
branch_comes_out a (Kind.ReferenceName x) n b h = absurd (true≢false (sym h))
branch_comes_out a Kind.ParenthesizedExpression n b h = absurd (true≢false (sym h))
branch_comes_out a k n b h = record { undeleted = λ e. refl; uncalled = λ e. refl }

-- ---- runs

-- what a run wants of an expression that is used so: the core has no `delete`
abbrev pub wanted_for : Use → Wanted
wanted_for as_callee = to_call
wanted_for as_typed = for_typeof
wanted_for u = itself

-- expressions that may give more than a value
abbrev gives_more : Kind → Bool
gives_more (Kind.ReferenceName x) = true
gives_more (Kind.MemberExpression key optional) = true
gives_more Kind.ParenthesizedExpression = true
gives_more (Kind.Function how pure) = true
gives_more k = false

core_row : (r : Row) (vs : Values (fields_of r)) → stands expression (type_of r) ≡ Some (first_of r) → is_core (kind_in r vs) ≡ true → (gives_more (kind_in r vs) || is_blunt (kind_in r vs)) ≡ true
core_row a_function_expression vs h core = refl
core_row an_arrow_function vs h core = refl
core_row a_class_expression vs h core = absurd (true≢false (sym core))
core_row a_reference_name vs h core = refl
core_row a_literal vs h core = refl
core_row a_reg_exp vs h core = absurd (true≢false (sym core))
core_row a_this_expression vs h core = refl
core_row an_array_expression vs h core = refl
core_row an_object_expression vs h core = refl
core_row a_sequence_expression vs h core = refl
core_row a_unary_expression vs h core = refl
core_row an_update_expression vs h core = refl
core_row a_binary_expression vs h core = refl
core_row an_in_expression vs h core = refl
core_row a_logical_expression vs h core = refl
core_row an_assignment_expression vs h core = refl
core_row a_compound_assignment vs h core = refl
core_row a_conditional_expression vs h core = refl
core_row a_call_expression vs h core = refl
core_row a_new_expression vs h core = refl
core_row a_member_expression vs h core = refl
core_row a_chain_expression vs h core = absurd (true≢false (sym core))
core_row a_parenthesized_expression vs h core = refl
core_row a_template_literal vs h core = absurd (true≢false (sym core))
core_row a_tagged_template_expression vs h core = absurd (true≢false (sym core))
core_row a_new_target vs h core = absurd (true≢false (sym core))
core_row an_import_meta vs h core = absurd (true≢false (sym core))
core_row an_import_expression vs h core = absurd (true≢false (sym core))
core_row r vs h core = absurd cc

abbrev is_parenthesized : Kind → Bool
is_parenthesized Kind.ParenthesizedExpression = true
is_parenthesized k = false

parenthesized_row : (r : Row) (vs : Values (fields_of r)) (private : Bool) (a : Forest) → Kind.ParenthesizedExpression ≡ kind_in r vs → IsChosen r vs → Stand (these (places private (fields_of r) vs)) a
    → Stand (these (one expression ∷ [])) a
parenthesized_row a_parenthesized_expression vs private a is chosen st = st
parenthesized_row a_parenthesized_target vs private a is chosen st = absurd chosen
parenthesized_row r vs private a is chosen st = absurd (true≢false (ap is_parenthesized is))

parenthesized_stands : (b : Forest) → IsExpression Kind.ParenthesizedExpression b → Stand (these (one expression ∷ [])) b
parenthesized_stands b of = parenthesized_row of.0 of.1 (has is_private b) b of.4 of.3 of.5

no_name_eval : (x y : Bool) → not ((x || y) || false) ≡ true → not y ≡ true
no_name_eval x y h = ap not (neither x y h)

-- by the kind
by_kind : (u : Use) (in_with : Bool) (k : Kind) (b : Forest) → is_parenthesized k ≡ false → (gives_more k || is_blunt k) ≡ true → stands_bare u in_with k b ≡ true → runs.stands_bare (wanted_for u) k b ≡ true
by_kind as_value in_with (Kind.ReferenceName x) b p blunt h = refl
by_kind as_callee in_with (Kind.ReferenceName x) b p blunt h = no_name_eval in_with (is_eval x) h
by_kind as_typed in_with (Kind.ReferenceName x) b p blunt h = absurd (true≢false (sym h))
by_kind as_deleted in_with (Kind.ReferenceName x) b p blunt h = absurd (true≢false (sym h))
by_kind as_value in_with (Kind.MemberExpression key optional) b p blunt h = refl
by_kind as_callee in_with (Kind.MemberExpression key optional) b p blunt h = absurd (true≢false (sym h))
by_kind as_typed in_with (Kind.MemberExpression key optional) b p blunt h = refl
by_kind as_deleted in_with (Kind.MemberExpression key optional) b p blunt h = absurd (true≢false (sym h))
by_kind u in_with (Kind.Function how pure) b p blunt h = absurd (true≢false (sym h))
by_kind u in_with Kind.ParenthesizedExpression b p blunt h = absurd (true≢false p)
by_kind as_value in_with k b p blunt h = blunt
by_kind as_callee in_with k b p blunt h = blunt
by_kind as_typed in_with k b p blunt h = blunt
by_kind as_deleted in_with k b p blunt h = blunt

module _ (u : Use) (in_with : Bool) where
  parenthesized_there : (k : Kind) (n : Note) (b r : Forest) → runs.stands_bare (wanted_for u) k b ≡ true → runs.stands_bare (wanted_for u) Kind.ParenthesizedExpression (node k n b r) ≡ true
  parenthesized_there k n b r h = of u h
    where
      of : (u : Use) → runs.stands_bare (wanted_for u) k b ≡ true → runs.stands_bare (wanted_for u) Kind.ParenthesizedExpression (node k n b r) ≡ true
      of as_value h = h
      of as_callee h = h
      of as_typed h = h
      of as_deleted h = h

  pub bare_for_runs : (k : Kind) (n : Note) (b : Forest) → IsExpression k b → all_core (alone k n b) ≡ true → stands_bare u in_with k b ≡ true → runs.stands_bare (wanted_for u) k b ≡ true
  bare_for_runs Kind.ParenthesizedExpression n nothing of core h = absurd (parenthesized_stands nothing of)
  bare_for_runs Kind.ParenthesizedExpression n (absent r) of core h = absurd (parenthesized_stands (absent r) of).0
  bare_for_runs Kind.ParenthesizedExpression n (node k m b r) of core h =
      parenthesized_there k m b r
      (bare_for_runs k m b (parenthesized_stands (node k m b r) of).0 (core_alone k m b r (core_below Kind.ParenthesizedExpression n (node k m b r) nothing core)) h)
  bare_for_runs k n b of core h =
      by_kind u in_with k b refl (ap (λ l. gives_more l || is_blunt l) of.4 ∙ core_row of.0 of.1 of.2 (ap is_core (sym of.4) ∙ core_here k n b nothing core)) h

-- at a place where a run wants what the expression is used for
pub bare_at : (a : Around) (k : Kind) (n : Note) (b : Forest) → IsExpression k b → all_core (alone k n b) ≡ true → asked (wanted_at a) ≡ wanted_for (use_at a) → MayStandBare a k b → runs.stands_bare (asked (wanted_at a)) k b ≡ true
bare_at a k n b of core wanted bare =
    subst (λ w. runs.stands_bare w k b ≡ true) (sym wanted) (bare_for_runs (use_at a) (asked_at (asked_of_program true) a).in_with k n b of core bare)
