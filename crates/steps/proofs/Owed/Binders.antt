-- The names that a declaration, a parameter or a handler binds stay where a statement changes further in: below what binds names
-- statements stand in functions and classes alone.
use Rattle.std.proofs.Common.{◌≡◌, ◌∙◌, ℕ, suc, List, [], ◌∷◌, ◌++◌, Bool, true, false, not, ◌&&◌, ◌||◌, Some, refl, sym, ap, true≢false}
use Rattle.js_syntax.specs.Class.{Class, root, declarator_item, method_value, declared_name, private_key, no_node, expression, expression_or_private, callee, argument, object_item, chain_part, template, quasi_item, binding, binding_value, binding_element, binding_item, simple_target, target, target_value, target_element, target_item}
use Rattle.js_syntax.specs.declared.node_kind.NodeKind.{NodeKind as Kind}
use Rattle.js_syntax.specs.declared.node_kind.NodeKind.TheVariants.{Function as function, Class as class, Parameters as parameters, Declarators as declarators}
use Rattle.js_syntax.specs.declared.kind.FunctionKind.{FunctionKind}
use Rattle.js_syntax.specs.declared.kind.VariableKind.{VariableKind}
use Rattle.js_syntax.specs.Hint.{has, is_private}
use Rattle.js_syntax.specs.Node.{Note, Forest, Tree, nothing, node, absent}
use Rattle.js_syntax.specs.Table.{Row, a_program, a_function_declaration, a_default_function, a_function_expression, an_arrow_function, a_class_expression, a_catch_clause, a_variable_declaration, a_variable_declarator, a_binding_name, a_reference_name, a_target_name, a_private_name, a_literal, a_reg_exp, a_this_expression, a_super, an_array_expression, an_object_expression, a_property, a_method_property, a_sequence_expression, a_unary_expression, an_update_expression, a_binary_expression, an_in_expression, a_logical_expression, an_assignment_expression, a_compound_assignment, a_conditional_expression, a_call_expression, a_new_expression, a_member_expression, a_chain_expression, a_parenthesized_expression, a_parenthesized_target, a_template_literal, a_template_element, a_tagged_template_expression, a_spread_element, a_binding_rest, a_target_rest, a_binding_object, a_target_object, a_binding_array, a_target_array, a_binding_property, a_target_property, a_binding_default, a_target_default, a_new_target, an_import_meta, an_import_expression, fields_of}
use Rattle.js_syntax.proofs.Truth.{first_of_both, second_of_both}
use Rattle.js_meaning.specs.Scope.{first_of, behind, names_of, bound_names}
use Rattle.json_shape.specs.Shape.{Values, kind_in, Place, one, maybe_one, list, places, Plan, these, Stand}
use Rattle.json_shape.specs.Shape as shape
use Rattle.json_shape.proofs.Choice.{is_list_kind}
use Rattle.scope_laws.specs.Place as places
use Rattle.scope_laws.specs.Place.{Around, first, behind_none, under, plug}
use Rattle.steps.proofs.Fit.CoreCalm.{rows_of}
use Rattle.steps.proofs.Fit.CoreRows.{takes_such, if_so, fields_pass}
use Rattle.steps.proofs.Fit.Shut.{shut, takes_marked, Passing, shut_as_planned}
use Rattle.steps.specs.KeepForm.Part.{is_statement}
use Rattle.steps.proofs.Owed.Made.{MadeBy}

-- ---- what binds names, and expressions, down to functions and classes

abbrev of_binding : Class → Bool
of_binding declarator_item = true
of_binding method_value = true
of_binding private_key = true
of_binding expression = true
of_binding expression_or_private = true
of_binding callee = true
of_binding argument = true
of_binding object_item = true
of_binding chain_part = true
of_binding template = true
of_binding quasi_item = true
of_binding binding = true
of_binding binding_value = true
of_binding binding_element = true
of_binding binding_item = true
of_binding simple_target = true
of_binding target = true
of_binding target_value = true
of_binding target_element = true
of_binding target_item = true
of_binding declared_name = true
of_binding no_node = true
of_binding c = false

abbrev in_binding : Row → Bool
in_binding a_function_expression = true
in_binding an_arrow_function = true
in_binding a_class_expression = true
in_binding a_variable_declarator = true
in_binding a_binding_name = true
in_binding a_reference_name = true
in_binding a_target_name = true
in_binding a_private_name = true
in_binding a_literal = true
in_binding a_reg_exp = true
in_binding a_this_expression = true
in_binding a_super = true
in_binding an_array_expression = true
in_binding an_object_expression = true
in_binding a_property = true
in_binding a_method_property = true
in_binding a_sequence_expression = true
in_binding a_unary_expression = true
in_binding an_update_expression = true
in_binding a_binary_expression = true
in_binding an_in_expression = true
in_binding a_logical_expression = true
in_binding an_assignment_expression = true
in_binding a_compound_assignment = true
in_binding a_conditional_expression = true
in_binding a_call_expression = true
in_binding a_new_expression = true
in_binding a_member_expression = true
in_binding a_chain_expression = true
in_binding a_parenthesized_expression = true
in_binding a_parenthesized_target = true
in_binding a_template_literal = true
in_binding a_template_element = true
in_binding a_tagged_template_expression = true
in_binding a_spread_element = true
in_binding a_binding_rest = true
in_binding a_target_rest = true
in_binding a_binding_object = true
in_binding a_target_object = true
in_binding a_binding_array = true
in_binding a_target_array = true
in_binding a_binding_property = true
in_binding a_target_property = true
in_binding a_binding_default = true
in_binding a_target_default = true
in_binding a_new_target = true
in_binding an_import_meta = true
in_binding an_import_expression = true
in_binding r = false

-- what lies in a function or class doesn't matter
abbrev lets : Kind → (at : ℕ) → Bool
lets (function how pure) at = false
lets (class how) at = false
lets k at = true

abbrev keeps_it : Row → Kind → Bool
keeps_it r k = not (is_statement k) && fields_pass (takes_marked of_binding (lets k)) 0 (fields_of r)

closed : (c : Class) → (not (of_binding c) || takes_such in_binding c) ≡ true
closed root = refl
closed c = refl

others : (r : Row) → (not (in_binding (shape.first_of r)) || in_binding r) ≡ true
others a_program = refl
others r = refl

keep : (r : Row) (vs : Values (fields_of r)) → (not (in_binding r) || keeps_it r (kind_in r vs)) ≡ true
keep a_program vs = refl
keep r vs = refl

lists : (kind : Kind) → is_list_kind kind ≡ true → not (is_statement kind) ≡ true
lists Kind.Statements h = refl
lists Kind.Cases h = refl
lists Kind.Declarators h = refl
lists Kind.Parameters h = refl
lists Kind.Members h = refl
lists Kind.Elements h = refl
lists Kind.Properties h = refl
lists Kind.Expressions h = refl
lists Kind.Arguments h = refl
lists Kind.Quasis h = refl
lists Kind.Specifiers h = refl
lists kind h = absurd cc

fields : (r : Row) (vs : Values (fields_of r)) → in_binding r ≡ true → keeps_it r (kind_in r vs) ≡ true
fields r vs h = if_so (in_binding r) (keeps_it r (kind_in r vs)) (keep r vs) h

-- nothing of the row is a statement
abbrev Unstated : (at : ℕ) → Forest → Type 0
Unstated at t = shut is_statement lets (λ i. true) at t ≡ true

unstated : (t : Forest) (plan : Plan) → Passing of_binding (λ i. true) 0 plan → Stand plan t → Unstated 0 t
unstated t plan h st = shut_as_planned is_statement lets of_binding in_binding lists refl (rows_of of_binding in_binding closed others) fields t (λ i. true) 0 plan h st

-- ---- what stands below them

abbrev is_variables : Kind → Bool
is_variables (Kind.VariableDeclaration how) = true
is_variables k = false

abbrev is_handler : Kind → Bool
is_handler Kind.CatchClause = true
is_handler k = false

abbrev is_function : Kind → Bool
is_function (Kind.Function how pure) = true
is_function k = false

row_of_variables : (how : VariableKind) (r : Row) (vs : Values (fields_of r)) (private : Bool) (a : Forest)
    → Kind.VariableDeclaration how ≡ kind_in r vs → Stand (these (shape.places private (fields_of r) vs)) a → Stand (these (list declarators declarator_item ∷ [])) a
row_of_variables how a_variable_declaration vs private a is st = st
row_of_variables how r vs private a is st = absurd (true≢false (ap is_variables is))

row_of_handler : (r : Row) (vs : Values (fields_of r)) (private : Bool) (a : Forest) → Kind.CatchClause ≡ kind_in r vs → Stand (these (shape.places private (fields_of r) vs)) a
    → (q : Place) × Stand (these (maybe_one binding ∷ q ∷ [])) a
row_of_handler a_catch_clause vs private a is st = (_, st)
row_of_handler r vs private a is st = absurd (true≢false (ap is_handler is))

-- behind a function's name, if it has one, stand its parameters
abbrev Parametric : Forest → Type 0
Parametric a = (p : Place) × (q : Place) × (Passing of_binding (λ i. true) 0 (these (p ∷ [])) × Stand (these (p ∷ list parameters binding_element ∷ q ∷ [])) a)

row_of_function : (how : FunctionKind) (pure : Bool) (r : Row) (vs : Values (fields_of r)) (private : Bool) (a : Forest)
    → Kind.Function how pure ≡ kind_in r vs → Stand (these (shape.places private (fields_of r) vs)) a → Parametric a
row_of_function how pure a_function_declaration vs private a is st = (_, _, (refl, st))
row_of_function how pure a_default_function vs private a is st = (_, _, (refl, st))
row_of_function how pure a_function_expression vs private a is st = (_, _, (refl, st))
row_of_function how pure an_arrow_function vs private a is st = (_, _, (refl, st))
row_of_function how pure r vs private a is st = absurd (true≢false (ap is_function is))

-- ---- a statement at a place, and what becomes of the row

module _ (x : Tree) (states : is_statement x.kind ≡ true) (after : Around → Forest)
    (after_behind : (k : Kind) (n : Note) (b : Forest) (a : Around) → after (places.behind k n b a) ≡ node k n b (after a))
    (after_none : (a : Around) → after (behind_none a) ≡ absent (after a))
    (after_under : (k : Kind) (n : Note) (a : Around) (rest : Forest) → after (under k n a rest) ≡ node k n (after a) rest) where
  no_statement_here : (n : Note) (rest : Forest) (at : ℕ) {P : Type 0} → Unstated at (node x.kind n x.below rest) → P
  no_statement_here n rest at h =
      absurd (true≢false (sym states ∙ not_one (is_statement x.kind) (first_of_both (not (is_statement x.kind)) (shut is_statement lets (λ i. lets x.kind i) 0 x.below && shut is_statement lets (λ i. true) (suc at) rest) h)))
    where
      not_one : (b : Bool) → not b ≡ true → b ≡ false
      not_one true h = absurd (true≢false (sym h))
      not_one false h = refl

  same_names : (k : Kind) (b c : List (List ℕ)) (at : ℕ) (t : Forest) → shut is_statement lets (λ i. lets k i) 0 t ≡ true → (Unstated 0 t → b ≡ c) → names_of k b ≡ names_of k c
  same_names (function how pure) b c at t h f = refl
  same_names (class how) b c at t h f = refl
  same_names k b c at t h f = ap (names_of k) (f h)

  binds_same : (a : Around) (at : ℕ) → Unstated at (plug a (Some x)) → bound_names (plug a (Some x)) ≡ bound_names (after a)
  binds_same (first rest) at h = no_statement_here x.note rest at h
  binds_same (places.behind k n b a) at h =
      let later = shut is_statement lets (λ i. true) (suc at) (plug a (Some x)) in
      ap (λ v. names_of k (bound_names b) ++ v) (binds_same a (suc at) (second_of_both (shut is_statement lets (λ i. lets k i) 0 b) later
      (second_of_both (not (is_statement k)) (shut is_statement lets (λ i. lets k i) 0 b && later) h)))
      ∙ ap bound_names (sym (after_behind k n b a))
  binds_same (behind_none a) at h = binds_same a (suc at) h ∙ ap bound_names (sym (after_none a))
  binds_same (under k n a rest) at h =
      let inner = shut is_statement lets (λ i. lets k i) 0 (plug a (Some x)) in
      let later = shut is_statement lets (λ i. true) (suc at) rest in
      ap (λ v. v ++ bound_names rest) (same_names k (bound_names (plug a (Some x))) (bound_names (after a)) at (plug a (Some x)) (first_of_both inner later (second_of_both (not (is_statement k)) (inner && later) h)) (λ g. binds_same a 0 g))
      ∙ ap bound_names (sym (after_under k n a rest))

  -- of a row of which the first node alone binds
  first_binds_same : (a : Around) (p : Place) (ps : List Place) → Passing of_binding (λ i. true) 0 (these (p ∷ [])) → Stand (these (p ∷ ps)) (plug a (Some x)) → bound_names (first_of (plug a (Some x))) ≡ bound_names (first_of (after a))
  first_binds_same (first rest) p ps h st = no_statement_here x.note nothing 0 (unstated (node x.kind x.note x.below nothing) (these (p ∷ [])) h (st.0, tt))
  first_binds_same (places.behind k n b a) p ps h st = ap (λ t. bound_names (first_of t)) (sym (after_behind k n b a))
  first_binds_same (behind_none a) p ps h st = ap (λ t. bound_names (first_of t)) (sym (after_none a))
  first_binds_same (under k n a rest) p ps h st =
      binds_same (under k n a nothing) 0 (unstated (node k n (plug a (Some x)) nothing) (these (p ∷ [])) h (st.0, tt))
      ∙ ap bound_names (after_under k n a nothing)
      ∙ ap (λ t. bound_names (first_of t)) (sym (after_under k n a rest))

  pub variables_bind : (how : VariableKind) (a : Around) → MadeBy (Kind.VariableDeclaration how) (plug a (Some x)) → bound_names (plug a (Some x)) ≡ bound_names (after a)
  variables_bind how a made =
      binds_same a 0 (unstated (plug a (Some x)) (these (list declarators declarator_item ∷ [])) refl (row_of_variables how made.row made.values (has is_private (plug a (Some x))) (plug a (Some x)) made.is made.stands))

  pub handler_binds : (a : Around) → MadeBy Kind.CatchClause (plug a (Some x)) → bound_names (first_of (plug a (Some x))) ≡ bound_names (first_of (after a))
  handler_binds a made =
      let stands = row_of_handler made.row made.values (has is_private (plug a (Some x))) (plug a (Some x)) made.is made.stands in
      first_binds_same a (maybe_one binding) (stands.0 ∷ []) refl stands.1

  parameters_bind : (a : Around) (p q : Place) → Passing of_binding (λ i. true) 0 (these (p ∷ [])) → Stand (these (p ∷ list parameters binding_element ∷ q ∷ [])) (plug a (Some x))
      → bound_names (first_of (behind (plug a (Some x)))) ≡ bound_names (first_of (behind (after a)))
  parameters_bind (first rest) p q h st = no_statement_here x.note nothing 0 (unstated (node x.kind x.note x.below nothing) (these (p ∷ [])) h (st.0, tt))
  parameters_bind (places.behind k n b a) p q h st =
      first_binds_same a (list parameters binding_element) (q ∷ []) refl st.1 ∙ ap (λ t. bound_names (first_of (behind t))) (sym (after_behind k n b a))
  parameters_bind (behind_none a) p q h st = first_binds_same a (list parameters binding_element) (q ∷ []) refl st.1 ∙ ap (λ t. bound_names (first_of (behind t))) (sym (after_none a))
  parameters_bind (under k n a rest) p q h st = ap (λ t. bound_names (first_of (behind t))) (sym (after_under k n a rest))

  pub function_binds : (how : FunctionKind) (pure : Bool) (a : Around) → MadeBy (Kind.Function how pure) (plug a (Some x)) → bound_names (first_of (behind (plug a (Some x)))) ≡ bound_names (first_of (behind (after a)))
  function_binds how pure a made =
      let stands = row_of_function how pure made.row made.values (has is_private (plug a (Some x))) (plug a (Some x)) made.is made.stands in
      parameters_bind a stands.0 stands.1 stands.2.0 stands.2.1

-- ---- a node that binds what the other does

module _ (x y : Tree) (same : names_of x.kind (bound_names x.below) ≡ names_of y.kind (bound_names y.below)) where
  pub plugged_bind : (a : Around) → bound_names (plug a (Some x)) ≡ bound_names (plug a (Some y))
  plugged_bind (first rest) = ap (λ v. v ++ bound_names rest) same
  plugged_bind (places.behind k n b a) = ap (λ v. names_of k (bound_names b) ++ v) (plugged_bind a)
  plugged_bind (behind_none a) = plugged_bind a
  plugged_bind (under k n a rest) = ap (λ v. names_of k v ++ bound_names rest) (plugged_bind a)

  pub plugged_first_binds : (a : Around) → bound_names (first_of (plug a (Some x))) ≡ bound_names (first_of (plug a (Some y)))
  plugged_first_binds (first rest) = ap (λ v. v ++ []) same
  plugged_first_binds (places.behind k n b a) = refl
  plugged_first_binds (behind_none a) = refl
  plugged_first_binds (under k n a rest) = ap (λ v. names_of k v ++ []) (plugged_bind a)

  pub plugged_parameters_bind : (a : Around) → bound_names (first_of (behind (plug a (Some x)))) ≡ bound_names (first_of (behind (plug a (Some y))))
  plugged_parameters_bind (first rest) = refl
  plugged_parameters_bind (places.behind k n b a) = plugged_first_binds a
  plugged_parameters_bind (behind_none a) = plugged_first_binds a
  plugged_parameters_bind (under k n a rest) = refl
