-- What a row of statements declares in runs, the rules of form find: lexical names as such, and those of `var` as variables.
use Rattle.std.proofs.Common.{◌≡◌, ◌≤◌, ◌⊎◌, inl, inr, ℕ, suc, ◌+◌, ◌==◌, [], Bool, true, false, ◌&&◌, ◌||◌, Some, None, refl, sym, arith, true≢false}
use Rattle.std.specs.Str.{bytes_eq}
use Rattle.std.proofs.lemmas.Bool.{and_parts, or_cases}
use Rattle.js_tree.specs.Count.{one_each, node_count}
use Rattle.js_syntax.specs.declared.node_kind.NodeKind.{NodeKind as Kind}
use Rattle.js_syntax.specs.declared.kind.VariableKind.TheVariants as variable
use Rattle.js_syntax.specs.declared.kind.FunctionKind.TheVariants as function_kind
use Rattle.js_syntax.specs.Node.{Note, Forest, nothing, node, absent, alone}
use Rattle.form_rules.specs.declared.sought.Sort.{Sort}
use Rattle.form_rules.specs.declared.sought.Sort.TheVariants.{Lexical as lexical_sort, Variable as variable_sort}
use Rattle.form_rules.specs.declared.sought.Sought.{Sought}
use Rattle.form_rules.specs.declared.sought.Sought.TheVariants.{Scope as scope_sought, Variables as variables_sought, CatchScope as catch_sought}
use Rattle.form_rules.specs.Scope.{declared, declared_here, sought_below, scope_below, variables_below}
use Rattle.js_meaning.specs.Value.{Text}
use Rattle.js_meaning.specs.Scope.{waiting, first_of, bound_names, vars_of, var_names, default_name, item_decls, lexical}
use Rattle.steps.specs.Naming.Placed.{Place, code, cases, program_list, lists, names, no_node, specifiers, others, a_body, the_cases, sort_of, place_below, statements_place, specifier_place, fits, well_placed, has_plain_values}
use Rattle.steps.specs.Naming.Placed as placed
use Rattle.steps.proofs.Naming.Lists.{either}
use Rattle.steps.proofs.Naming.Taking.{never_fits}
use Rattle.steps.proofs.Naming.Sites.{placed_here, placed_below, placed_behind}
use Rattle.steps.specs.Fit.Clear.{times}
use Rattle.steps.specs.Fit.Hoisted.{is_none, seeks_variables, holds_variables, has_variables_in_place}
use Rattle.steps.specs.Fit.Catches.{are_in_blocks}
use Rattle.steps.proofs.Fit.Lists.{no_less, less_by, occurs, occurs_joined, times_so, times_default, no_variables, named, count, both_occur, both_times}
use Rattle.steps.proofs.Fit.Clashes.{is_let, is_var}
use Rattle.steps.proofs.Fit.Bound.{plain_below, plain_behind, first_among_names, declaration_row, specifiers_row}

-- ---- places

-- where neither bodies nor cases stand
abbrev pub holds_items : Place → Bool
holds_items code = false
holds_items cases = false
holds_items p = true

no_body : {X : Type 0} (p : Place) → holds_items p ≡ true → fits p a_body ≡ true → X
no_body code h g = absurd (true≢false (sym h))
no_body p h g = absurd (true≢false (sym g))

no_cases : {X : Type 0} (p : Place) → holds_items p ≡ true → fits p the_cases ≡ true → X
no_cases cases h g = absurd (true≢false (sym h))
no_cases p h g = absurd (true≢false (sym g))

pub list_holds_items : (p : Place) → holds_items (statements_place p) ≡ true
list_holds_items program_list = refl
list_holds_items p = refl

-- where no bodies stand
abbrev pub no_code : Place → Bool
no_code code = false
no_code p = true

body_not_there : {X : Type 0} (p : Place) → no_code p ≡ true → fits p a_body ≡ true → X
body_not_there code h g = absurd (true≢false (sym h))
body_not_there p h g = absurd (true≢false (sym g))

list_no_code : (p : Place) → no_code (statements_place p) ≡ true
list_no_code program_list = refl
list_no_code p = refl

specifiers_no_code : (p : Place) → no_code (specifier_place p) ≡ true
specifiers_no_code specifiers = refl
specifiers_no_code p = refl

abbrev pub is_function : Kind → Bool
is_function (Kind.Function how pure) = true
is_function k = false

abbrev pub NoCode : Place → Type 0
NoCode p = no_code p ≡ true

pub no_code_below : (p : Place) (k : Kind) (i : ℕ) → is_function k ≡ false → no_code (place_below p k i) ≡ true
no_code_below p (Kind.Function how pure) i h = absurd (true≢false h)
no_code_below p Kind.VariableDeclarator i h = either NoCode (i == 0) names others refl refl
no_code_below p Kind.CatchClause i h = either NoCode (i == 0) names others refl refl
no_code_below p Kind.ForStatement i h = either NoCode (i == 0) placed.declared others refl refl
no_code_below p Kind.SwitchStatement i h = either NoCode (i == 1) cases others refl refl
no_code_below p Kind.Statements i h = list_no_code p
no_code_below p Kind.Specifiers i h = specifiers_no_code p
no_code_below p (Kind.ExportNamedDeclaration None) i h = refl
no_code_below p (Kind.ExportNamedDeclaration (Some source)) i h = refl
no_code_below p (Kind.ImportSpecifier name) i h = either NoCode (i == 0) names no_node refl refl
no_code_below p Kind.ImportDefaultSpecifier i h = either NoCode (i == 0) names no_node refl refl
no_code_below p Kind.ImportNamespaceSpecifier i h = either NoCode (i == 0) names no_node refl refl
no_code_below p k i h = refl

-- ---- lexical names

module _ (x : Text) (other : bytes_eq default_name x ≡ false) where
  abbrev Found : Forest → Type 0
  Found t = (ps : ℕ → Place) (at q : ℕ) → ((i : ℕ) → holds_items (ps i) ≡ true) → well_placed ps at t ≡ true → has_plain_values t ≡ true → times x (lexical t) ≤ count (named is_let x) (declared (scope_sought lexical_sort) q t)

  item_found : (p : Place) (q : ℕ) (k : Kind) (a : Forest) → holds_items p ≡ true → fits p (sort_of k) ≡ true → well_placed (place_below p k) 0 a ≡ true → has_plain_values a ≡ true → Found a
      → times x (item_decls k a (lexical a)) ≤ count (named is_let x) (declared (scope_below lexical_sort k) q a)
  item_found p q (Kind.VariableDeclaration variable.Var) a h g w v below = no_less _
  item_found p q (Kind.VariableDeclaration variable.Let) a h g w v below = less_by _ _ _ (times_so x (waiting false) (bound_names a)) (declaration_row x is_let lexical_sort refl 0 q a w v)
  item_found p q (Kind.VariableDeclaration variable.Const) a h g w v below = less_by _ _ _ (times_so x (waiting true) (bound_names a)) (declaration_row x is_let lexical_sort refl 0 q a w v)
  item_found p q (Kind.Function function_kind.Declaration pure) a h g w v below = first_among_names x is_let lexical_sort refl (waiting false) q a
  item_found p q (Kind.Function function_kind.Expression pure) a h g w v below = no_less _
  item_found p q (Kind.Function function_kind.Arrow pure) a h g w v below = no_less _
  item_found p q (Kind.ImportDeclaration source) a h g w v below = specifiers_row x is_let lexical_sort refl source 0 q a w
  item_found p q (Kind.ExportNamedDeclaration None) a h g w v below = below (λ i. placed.declared) 0 q (λ i. refl) w v
  item_found p q (Kind.ExportNamedDeclaration (Some source)) a h g w v below = no_less _
  item_found p q Kind.ExportDefaultDeclaration a h g w v below = less_by _ _ _ (times_default x (lexical a) other) (below (λ i. placed.declared) 0 q (λ i. refl) w v)
  item_found p q Kind.Statements a h g w v below = below (λ i. statements_place p) 0 q (λ i. list_holds_items p) w v
  item_found p q Kind.SwitchCase a h g w v below = below (λ i. lists) 0 q (λ i. refl) w v
  item_found p q Kind.FunctionBody a h g w v below = no_body p h g
  item_found p q Kind.Cases a h g w v below = no_cases p h g
  item_found p q (Kind.Class how) a h g w v below = absurd (never_fits p g)
  item_found p q k a h g w v below = no_less _

  pub scope_found : (t : Forest) → Found t
  scope_found nothing ps at q h w v = no_less _
  scope_found (absent r) ps at q h w v = scope_found r ps (suc at) q h w v
  scope_found (node k n a r) ps at q h w v =
      both_times (named is_let x) x (item_decls k a (lexical a)) (lexical r) (declared_here (scope_sought lexical_sort) q k) (declared (scope_below lexical_sort k) (q + one_each k) a) (declared (scope_sought lexical_sort) (q + node_count (alone k n a)) r)
      (item_found (ps at) (q + one_each k) k a (h at) (placed_here ps at k n a r w) (placed_below ps at k n a r w) (plain_below k n a r v) (scope_found a))
      (scope_found r ps (suc at) (q + node_count (alone k n a)) h (placed_behind ps at k n a r w) (plain_behind k n a r v))

  -- of the first node of a row alone
  pub first_found : (q : ℕ) (ps : ℕ → Place) (t : Forest) → holds_items (ps 0) ≡ true → well_placed ps 0 t ≡ true → has_plain_values t ≡ true → times x (lexical (first_of t)) ≤ count (named is_let x) (declared (scope_sought lexical_sort) q t)
  first_found q ps nothing h w v = no_less _
  first_found q ps (absent r) h w v = no_less _
  first_found q ps (node k n a r) h w v =
      both_times (named is_let x) x (item_decls k a (lexical a)) [] (declared_here (scope_sought lexical_sort) q k) (declared (scope_below lexical_sort k) (q + one_each k) a) (declared (scope_sought lexical_sort) (q + node_count (alone k n a)) r)
      (item_found (ps 0) (q + one_each k) k a h (placed_here ps 0 k n a r w) (placed_below ps 0 k n a r w) (plain_below k n a r v) (scope_found a)) (no_less _)

-- ---- variables

pub variables_here : (k : Kind) (n : Note) (a r : Forest) → has_variables_in_place (node k n a r) ≡ true → (holds_variables k || is_none (var_names a)) ≡ true
variables_here k n a r h = (and_parts (holds_variables k || is_none (var_names a)) (has_variables_in_place a && has_variables_in_place r) h).0

pub variables_inside : (k : Kind) (n : Note) (a r : Forest) → has_variables_in_place (node k n a r) ≡ true → has_variables_in_place a ≡ true
variables_inside k n a r h = (and_parts (has_variables_in_place a) (has_variables_in_place r) (and_parts (holds_variables k || is_none (var_names a)) (has_variables_in_place a && has_variables_in_place r) h).1).0

pub variables_behind : (k : Kind) (n : Note) (a r : Forest) → has_variables_in_place (node k n a r) ≡ true → has_variables_in_place r ≡ true
variables_behind k n a r h = (and_parts (has_variables_in_place a) (has_variables_in_place r) (and_parts (holds_variables k || is_none (var_names a)) (has_variables_in_place a && has_variables_in_place r) h).1).1

-- the walks that find variables
abbrev pub seeks : Sought → Bool
seeks variables_sought = true
seeks (scope_sought f) = true
seeks s = false

seeks_so : (s : Sought) → seeks_variables s ≡ true → seeks s ≡ true
seeks_so variables_sought h = refl
seeks_so s h = absurd (true≢false (sym h))

seeks_in_scope : (f : Sort) (k : Kind) → seeks_variables (variables_below k) ≡ true → seeks (scope_below f k) ≡ true
seeks_in_scope f Kind.Statements h = refl
seeks_in_scope f Kind.SwitchCase h = refl
seeks_in_scope f (Kind.ExportNamedDeclaration source) h = refl
seeks_in_scope f Kind.ExportDefaultDeclaration h = refl
seeks_in_scope f (Kind.VariableDeclaration variable.Var) h = absurd (true≢false (sym h))
seeks_in_scope f (Kind.VariableDeclaration variable.Let) h = absurd (true≢false (sym h))
seeks_in_scope f (Kind.VariableDeclaration variable.Const) h = absurd (true≢false (sym h))
seeks_in_scope f (Kind.ImportDeclaration source) h = absurd (true≢false (sym h))
seeks_in_scope f (Kind.Class how) h = absurd (true≢false (sym h))
seeks_in_scope f (Kind.Function how pure) h = absurd (true≢false (sym h))
seeks_in_scope f k h = seeks_so (variables_below k) h

seeks_below : (s : Sought) (k : Kind) → seeks s ≡ true → seeks_variables (variables_below k) ≡ true → seeks (sought_below s k) ≡ true
seeks_below variables_sought k h e = seeks_so (variables_below k) e
seeks_below (scope_sought f) k h e = seeks_in_scope f k e
seeks_below s k h e = absurd (true≢false (sym h))

module _ (x : Text) where
  abbrev VarFound : Forest → Type 0
  VarFound t = (s : Sought) (ps : ℕ → Place) (at q : ℕ) → seeks s ≡ true → ((i : ℕ) → no_code (ps i) ≡ true) → well_placed ps at t ≡ true → has_plain_values t ≡ true → has_variables_in_place t ≡ true
      → occurs x (var_names t) ≤ count (named is_var x) (declared s q t)

  declared_found : (s : Sought) (q : ℕ) (a : Forest) → seeks s ≡ true → well_placed (λ i. placed.declaration) 0 a ≡ true → has_plain_values a ≡ true
      → occurs x (bound_names a) ≤ count (named is_var x) (declared (sought_below s (Kind.VariableDeclaration variable.Var)) q a)
  declared_found variables_sought q a h w v = declaration_row x is_var variable_sort refl 0 q a w v
  declared_found (scope_sought f) q a h w v = declaration_row x is_var variable_sort refl 0 q a w v
  declared_found s q a h w v = absurd (true≢false (sym h))

  -- a node that is no declaration of its own
  usual_found : (p : Place) (s : Sought) (q : ℕ) (k : Kind) (a : Forest) → seeks s ≡ true → is_function k ≡ false → well_placed (place_below p k) 0 a ≡ true → has_plain_values a ≡ true → has_variables_in_place a ≡ true
      → (seeks_variables (variables_below k) ≡ true) ⊎ (is_none (var_names a) ≡ true) → VarFound a → occurs x (var_names a) ≤ count (named is_var x) (declared (sought_below s k) q a)
  usual_found p s q k a h f w v e (inl g) below = below (sought_below s k) (place_below p k) 0 q (seeks_below s k h g) (λ i. no_code_below p k i f) w v e
  usual_found p s q k a h f w v e (inr g) below = less_by _ 0 _ (no_variables x (var_names a) g) (no_less _)

  var_found : (p : Place) (s : Sought) (q : ℕ) (k : Kind) (a : Forest) → seeks s ≡ true → no_code p ≡ true → fits p (sort_of k) ≡ true → well_placed (place_below p k) 0 a ≡ true → has_plain_values a ≡ true → has_variables_in_place a ≡ true
      → (holds_variables k || is_none (var_names a)) ≡ true → VarFound a → occurs x (vars_of k a (var_names a)) ≤ count (named is_var x) (declared (sought_below s k) q a)
  var_found p s q (Kind.VariableDeclaration variable.Var) a h c g w v e n below =
      let one = declared_found s q a h w v in
      let two = occurs_joined x (bound_names a) (var_names a) in
      let three = no_variables x (var_names a) n in
      omega (arith, one, two, three)
  var_found p s q (Kind.VariableDeclaration variable.Let) a h c g w v e n below = no_less _
  var_found p s q (Kind.VariableDeclaration variable.Const) a h c g w v e n below = no_less _
  var_found p s q (Kind.Function how pure) a h c g w v e n below = no_less _
  var_found p s q (Kind.Class how) a h c g w v e n below = no_less _
  var_found p s q (Kind.Program source) a h c g w v e n below = absurd (never_fits p g)
  var_found p s q Kind.StaticBlock a h c g w v e n below = absurd (never_fits p g)
  var_found p s q Kind.FunctionBody a h c g w v e n below = body_not_there p c g
  var_found p s q k a h c g w v e n below = usual_found p s q k a h refl w v e (or_cases (seeks_variables (variables_below k)) (is_none (var_names a)) n) below

  pub variables_found : (t : Forest) → VarFound t
  variables_found nothing s ps at q h c w v e = no_less _
  variables_found (absent r) s ps at q h c w v e = variables_found r s ps (suc at) q h c w v e
  variables_found (node k n a r) s ps at q h c w v e =
      both_occur (named is_var x) x (vars_of k a (var_names a)) (var_names r) (declared_here s q k) (declared (sought_below s k) (q + one_each k) a) (declared s (q + node_count (alone k n a)) r)
      (var_found (ps at) s (q + one_each k) k a h (c at) (placed_here ps at k n a r w) (placed_below ps at k n a r w) (plain_below k n a r v) (variables_inside k n a r e) (variables_here k n a r e) (variables_found a))
      (variables_found r s ps (suc at) (q + node_count (alone k n a)) h c (placed_behind ps at k n a r w) (plain_behind k n a r v) (variables_behind k n a r e))

  -- ---- of the body of a catch

  block_behind : (k : Kind) (n : Note) (a r : Forest) → are_in_blocks (node k n a r) ≡ true → are_in_blocks r ≡ true
  block_behind Kind.BlockStatement n a r h = h
  block_behind k n a r h = (and_parts (is_none (vars_of k a (var_names a))) (are_in_blocks r) h).1

  block_found : (p : Place) (f : Sort) (q : ℕ) (k : Kind) (n : Note) (a r : Forest) → well_placed (place_below p k) 0 a ≡ true → has_plain_values a ≡ true → has_variables_in_place a ≡ true → are_in_blocks (node k n a r) ≡ true
      → occurs x (vars_of k a (var_names a)) ≤ count (named is_var x) (declared (sought_below (catch_sought f) k) q a)
  block_found p f q Kind.BlockStatement n a r w v e h = variables_found a (scope_sought f) (λ i. lists) 0 q refl (λ i. refl) w v e
  block_found p f q k n a r w v e h = less_by _ 0 _ (no_variables x (vars_of k a (var_names a)) (and_parts (is_none (vars_of k a (var_names a))) (are_in_blocks r) h).0) (no_less _)

  pub blocks_found : (f : Sort) (ps : ℕ → Place) (at q : ℕ) (t : Forest) → well_placed ps at t ≡ true → has_plain_values t ≡ true → has_variables_in_place t ≡ true → are_in_blocks t ≡ true → occurs x (var_names t) ≤ count (named is_var x) (declared (catch_sought f) q t)
  blocks_found f ps at q nothing w v e h = no_less _
  blocks_found f ps at q (absent r) w v e h = blocks_found f ps (suc at) q r w v e h
  blocks_found f ps at q (node k n a r) w v e h =
      both_occur (named is_var x) x (vars_of k a (var_names a)) (var_names r) (declared_here (catch_sought f) q k) (declared (sought_below (catch_sought f) k) (q + one_each k) a) (declared (catch_sought f) (q + node_count (alone k n a)) r)
      (block_found (ps at) f (q + one_each k) k n a r (placed_below ps at k n a r w) (plain_below k n a r v) (variables_inside k n a r e) h)
      (blocks_found f ps (suc at) (q + node_count (alone k n a)) r (placed_behind ps at k n a r w) (plain_behind k n a r v) (variables_behind k n a r e) (block_behind k n a r h))
