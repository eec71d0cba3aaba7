-- A node becomes a part of itself, or is rebuilt of its parts, and no rule of form is broken.
use Rattle.std.proofs.Common.{◌≡◌, ℕ, ◌+◌, suc, Bool, true, false, not, ◌&&◌, ◌||◌, ◌==◌, Some, [], ◌++◌, refl, sym, ap, ◌∙◌, true≢false}
use Rattle.js_tree.specs.Count.{one_each, node_count}
use Rattle.js_syntax.specs.Class.{root}
use Rattle.js_syntax.specs.declared.node_kind.NodeKind.{NodeKind as Kind}
use Rattle.js_syntax.specs.declared.node_kind.NodeKind.TheVariants.{EmptyStatement as empty_statement, BlockStatement as block_statement, ForOfStatement as for_of_statement, ForInStatement as for_in_statement, ForStatement as for_statement, CatchClause as catch_clause, IfStatement as if_statement, VariableDeclaration as variable_declaration, BindingName as binding_name, Function as function, Class as class, ConditionalExpression as conditional_expression, LogicalExpression as logical_expression, UnaryExpression as unary_expression, BinaryExpression as binary_expression, ParenthesizedExpression as parenthesized_expression}
use Rattle.js_syntax.specs.declared.operator.BinaryOperator.{BinaryOperator}
use Rattle.js_syntax.specs.declared.operator.LogicalOperator.{LogicalOperator}
use Rattle.js_syntax.specs.declared.operator.UnaryOperator.{UnaryOperator}
use Rattle.js_syntax.specs.declared.operator.UnaryOperator.TheVariants as unary
use Rattle.js_syntax.specs.declared.kind.FunctionKind.TheVariants as function_kind
use Rattle.js_syntax.specs.declared.kind.ClassKind.TheVariants as class_kind
use Rattle.js_syntax.specs.declared.kind.VariableKind.TheVariants as variable
use Rattle.js_syntax.specs.Node.{Note, Forest, Tree, nothing, node, absent, alone, forest_of}
use Rattle.js_syntax.proofs.Truth.{both, first_of_both, second_of_both}
use Rattle.form_rules.specs.declared.sought.Sought.{Sought}
use Rattle.form_rules.specs.declared.sought.Sought.TheVariants.{Nothing as none, Names as names, Bound as bound, Scope as scope, Variables as variables, FunctionScope as function_scope, CatchScope as catch_scope}
use Rattle.form_rules.specs.Scope.{declared, declared_here, bound_below, variables_below, scope_below, function_below, catch_below, sought_below}
use Rattle.form_rules.specs.declared.sought.Sort.{Sort}
use Rattle.form_rules.specs.Rules.{length_of, is_bare_name}
use Rattle.json_shape.specs.Shape.{Fits}
use Rattle.json_shape.proofs.Choice.{is_list_kind}
use Rattle.scope_laws.specs.Place as place
use Rattle.scope_laws.specs.Place.{first, behind, behind_none, under, plug}
use Rattle.steps.specs.Allowed.Uses.{Use, as_value, as_deleted, operand_of, use_below, use_there, use_at}
use Rattle.steps.specs.Allowed.Branches.{is_handler, lets_only_at, lets_only, inside_or_parameter, inside_from, stays_inside, declares_none_at, none_or_parameter, none_from, declares_none}
use Rattle.steps.specs.Allowed.Places.{a_node}
use Rattle.steps.specs.KeepForm.Part.{gives_way, is_statement, is_asked_for, StandsFor, Replaces, by_part}
use Rattle.steps.specs.KeepForm.Sheds.{Row, of_declarators, row_below, asked_below, deleted_below, may_empty, may_give_way, may_come_out, keeps_one, Around, entered, outermost, Sheds, keeps_absent, keeps, empties_idle, becomes}
use Rattle.steps.proofs.KeepForm.Firm.{is_told_apart, gives, may_all_give_way, fits_may_give_way}
use Rattle.steps.proofs.KeepForm.Rows.{itself, keeps_itself}
use Rattle.steps.proofs.KeepForm.Rules.{both_empty}
use Rattle.steps.proofs.KeepForm.ShedNames.{none_declared}

-- ---- a row that declares no name

abbrev is_name : Kind → Bool
is_name (binding_name x) = true
is_name k = false

not_name : (k : Kind) (inside below : Bool) → declares_none_at k inside below ≡ true → is_name k ≡ false
not_name (binding_name x) inside below h = absurd cc
not_name k inside below h = refl

no_name_here : (s : Sought) (p : ℕ) (k : Kind) → is_name k ≡ false → declared_here s p k ≡ []
no_name_here s p (binding_name x) h = absurd cc
no_name_here none p k h = refl
no_name_here (names f) p k h = refl
no_name_here (bound f) p k h = refl
no_name_here (scope f) p k h = refl
no_name_here variables p k h = refl
no_name_here function_scope p k h = refl
no_name_here (catch_scope f) p k h = refl

expression_seeks : (s : Sought) (pure : Bool) → sought_below s (function function_kind.Expression pure) ≡ none
expression_seeks none pure = refl
expression_seeks (names f) pure = refl
expression_seeks (bound f) pure = refl
expression_seeks (scope f) pure = refl
expression_seeks variables pure = refl
expression_seeks function_scope pure = refl
expression_seeks (catch_scope f) pure = refl

arrow_seeks : (s : Sought) (pure : Bool) → sought_below s (function function_kind.Arrow pure) ≡ none
arrow_seeks none pure = refl
arrow_seeks (names f) pure = refl
arrow_seeks (bound f) pure = refl
arrow_seeks (scope f) pure = refl
arrow_seeks variables pure = refl
arrow_seeks function_scope pure = refl
arrow_seeks (catch_scope f) pure = refl

class_seeks : (s : Sought) → sought_below s (class class_kind.Expression) ≡ none
class_seeks none = refl
class_seeks (names f) = refl
class_seeks (bound f) = refl
class_seeks (scope f) = refl
class_seeks variables = refl
class_seeks function_scope = refl
class_seeks (catch_scope f) = refl

-- Of a block whose names stay in it the names that `var` declares are sought, and there is none.
abbrev seeks_variables : Sought → Bool
seeks_variables none = true
seeks_variables variables = true
seeks_variables s = false

lets_below : (k : Kind) (a : Forest) (p : ℕ) → ((z : Sought) (q : ℕ) → seeks_variables z ≡ true → lets_only a ≡ true → declared z q a ≡ []) → lets_only_at k (lets_only a) ≡ true → declared (variables_below k) p a ≡ []
lets_below (variable_declaration how) a p f h = absurd cc
lets_below (function function_kind.Declaration pure) a p f h = absurd cc
lets_below (function how pure) a p f h = none_declared p a
lets_below (class class_kind.Declaration) a p f h = absurd cc
lets_below (class how) a p f h = none_declared p a
lets_below k a p f h = f (variables_below k) p refl h

lets_declared : (s : Sought) (p : ℕ) (t : Forest) → seeks_variables s ≡ true → lets_only t ≡ true → declared s p t ≡ []
lets_declared variables p nothing e h = refl
lets_declared variables p (absent r) e h = lets_declared variables p r e h
lets_declared variables p (node k n a r) e h =
    let here = lets_only_at k (lets_only a) in
    both_empty (declared (variables_below k) (p + one_each k) a) (declared variables (p + node_count (alone k n a)) r)
    (lets_below k a (p + one_each k) (λ z q g i. lets_declared z q a g i) (first_of_both here (lets_only r) h))
    (lets_declared variables (p + node_count (alone k n a)) r refl (second_of_both here (lets_only r) h))
lets_declared none p t e h = none_declared p t
lets_declared s p t e h = absurd cc

inside_below : (is_parameter : Bool) (k : Kind) (a : Forest) (p : ℕ) → ((z : Sought) (q : ℕ) → seeks_variables z ≡ true → inside_from (is_handler k) a ≡ true → declared z q a ≡ [])
    → inside_or_parameter is_parameter k (lets_only a) (inside_from (is_handler k) a) ≡ true → declared (variables_below k) p a ≡ []
inside_below true k a p f h = lets_below k a p (λ z q g i. lets_declared z q a g i) h
inside_below false (binding_name x) a p f h = absurd cc
inside_below false (variable_declaration variable.Var) a p f h = absurd cc
inside_below false (variable_declaration how) a p f h = none_declared p a
inside_below false (function function_kind.Declaration pure) a p f h = absurd cc
inside_below false (function how pure) a p f h = none_declared p a
inside_below false (class how) a p f h = none_declared p a
inside_below false k a p f h = f (variables_below k) p refl h

inside_declared : (is_parameter : Bool) (s : Sought) (p : ℕ) (t : Forest) → seeks_variables s ≡ true → inside_from is_parameter t ≡ true → declared s p t ≡ []
inside_declared b variables p nothing e h = refl
inside_declared b variables p (absent r) e h = inside_declared false variables p r e h
inside_declared b variables p (node k n a r) e h =
    let here = inside_or_parameter b k (lets_only a) (inside_from (is_handler k) a) in
    both_empty (declared (variables_below k) (p + one_each k) a) (declared variables (p + node_count (alone k n a)) r)
    (inside_below b k a (p + one_each k) (λ z q g i. inside_declared (is_handler k) z q a g i) (first_of_both here (stays_inside r) h))
    (inside_declared false variables (p + node_count (alone k n a)) r refl (second_of_both here (stays_inside r) h))
inside_declared b none p t e h = none_declared p t
inside_declared b s p t e h = absurd cc

-- A block's own scope is sought in a catch clause alone, and in nothing below what lies there.
abbrev pub keeps_outside : Sought → Kind → Bool
keeps_outside (catch_scope fs) block_statement = false
keeps_outside s k = true

abbrev pub stays_outside : Sought → Forest → Bool
stays_outside s nothing = true
stays_outside s (absent r) = stays_outside s r
stays_outside s (node k n a r) = keeps_outside s k && stays_outside s r

abbrev pub is_catch : Sought → Bool
is_catch (catch_scope fs) = true
is_catch s = false

pub outside_as : (s : Sought) (t : Forest) → is_catch s ≡ false → stays_outside s t ≡ true
outside_as s nothing e = refl
outside_as s (absent r) e = outside_as s r e
outside_as s (node k n a r) e = both (keeps_outside s k) (stays_outside s r) (here s k e) (outside_as s r e)
  where
    here : (s : Sought) (k : Kind) → is_catch s ≡ false → keeps_outside s k ≡ true
    here (catch_scope fs) k e = absurd cc
    here s k e = refl

bound_is_no_catch : (s : Sort) (k : Kind) → is_catch (bound_below s k) ≡ false
bound_is_no_catch s (binding_name x) = refl
bound_is_no_catch s k = refl

variables_are_no_catch : (k : Kind) → is_catch (variables_below k) ≡ false
variables_are_no_catch (variable_declaration variable.Var) = refl
variables_are_no_catch (variable_declaration how) = refl
variables_are_no_catch k = refl

scope_is_no_catch : (s : Sort) (k : Kind) → is_catch (scope_below s k) ≡ false
scope_is_no_catch s (variable_declaration variable.Var) = refl
scope_is_no_catch s (variable_declaration how) = refl
scope_is_no_catch s (class class_kind.Declaration) = refl
scope_is_no_catch s (class how) = refl
scope_is_no_catch s (function function_kind.Declaration pure) = refl
scope_is_no_catch s (function how pure) = refl
scope_is_no_catch s k = refl

function_is_no_catch : (k : Kind) → is_catch (function_below k) ≡ false
function_is_no_catch (binding_name x) = refl
function_is_no_catch k = refl

catch_is_no_catch : (s : Sort) (k : Kind) → is_catch (catch_below s k) ≡ false
catch_is_no_catch s block_statement = refl
catch_is_no_catch s k = refl

pub below_no_catch : (s : Sought) (k : Kind) → is_catch (sought_below s k) ≡ false
below_no_catch none k = refl
below_no_catch (names f) k = refl
below_no_catch (bound f) k = bound_is_no_catch f k
below_no_catch (scope f) k = scope_is_no_catch f k
below_no_catch variables k = variables_are_no_catch k
below_no_catch function_scope k = function_is_no_catch k
below_no_catch (catch_scope f) k = catch_is_no_catch f k

pub outside_below : (s : Sought) (k : Kind) (t : Forest) → stays_outside (sought_below s k) t ≡ true
outside_below s k t = outside_as (sought_below s k) t (below_no_catch s k)

-- an `if` is no block
pub if_stays_outside : (s : Sought) (n : Note) (a : Forest) → stays_outside s (alone if_statement n a) ≡ true
if_stays_outside (catch_scope f) n a = refl
if_stays_outside s n a = refl

block_seeks : (s : Sought) → keeps_outside s block_statement ≡ true → seeks_variables (sought_below s block_statement) ≡ true
block_seeks (catch_scope f) h = absurd cc
block_seeks s h = refl

-- nor is more sought below a loop whose head may declare names
abbrev is_for : Kind → Bool
is_for for_statement = true
is_for for_in_statement = true
is_for for_of_statement = true
is_for k = false

loop_seeks : (s : Sought) (k : Kind) → is_for k ≡ true → seeks_variables (sought_below s k) ≡ true
loop_seeks none for_statement h = refl
loop_seeks (names f) for_statement h = refl
loop_seeks (bound f) for_statement h = refl
loop_seeks (scope f) for_statement h = refl
loop_seeks variables for_statement h = refl
loop_seeks function_scope for_statement h = refl
loop_seeks (catch_scope f) for_statement h = refl
loop_seeks none for_in_statement h = refl
loop_seeks (names f) for_in_statement h = refl
loop_seeks (bound f) for_in_statement h = refl
loop_seeks (scope f) for_in_statement h = refl
loop_seeks variables for_in_statement h = refl
loop_seeks function_scope for_in_statement h = refl
loop_seeks (catch_scope f) for_in_statement h = refl
loop_seeks none for_of_statement h = refl
loop_seeks (names f) for_of_statement h = refl
loop_seeks (bound f) for_of_statement h = refl
loop_seeks (scope f) for_of_statement h = refl
loop_seeks variables for_of_statement h = refl
loop_seeks function_scope for_of_statement h = refl
loop_seeks (catch_scope f) for_of_statement h = refl
loop_seeks s k h = absurd cc

-- below a handler no names but those that `var` declares are sought, if any
handler_seeks : (s : Sought) (k : Kind) → is_handler k ≡ true → seeks_variables (sought_below s k) ≡ true
handler_seeks none catch_clause h = refl
handler_seeks (names f) catch_clause h = refl
handler_seeks (bound f) catch_clause h = refl
handler_seeks (scope f) catch_clause h = refl
handler_seeks variables catch_clause h = refl
handler_seeks function_scope catch_clause h = refl
handler_seeks (catch_scope f) catch_clause h = refl
handler_seeks s k h = absurd cc

none_below : (s : Sought) (k : Kind) (a : Forest) (p : ℕ) → keeps_outside s k ≡ true
    → ((z : Sought) (q : ℕ) → (is_handler k ≡ true → seeks_variables z ≡ true) → stays_outside z a ≡ true → none_from (is_handler k) a ≡ true → declared z q a ≡ [])
    → declares_none_at k (stays_inside a) (none_from (is_handler k) a) ≡ true → declared (sought_below s k) p a ≡ []
none_below s (binding_name x) a p o f h = absurd cc
none_below s (variable_declaration variable.Var) a p o f h = absurd cc
none_below s (function function_kind.Declaration pure) a p o f h = absurd cc
none_below s (function function_kind.Expression pure) a p o f h = ap (λ z. declared z p a) (expression_seeks s pure) ∙ none_declared p a
none_below s (function function_kind.Arrow pure) a p o f h = ap (λ z. declared z p a) (arrow_seeks s pure) ∙ none_declared p a
none_below s (class class_kind.Declaration) a p o f h = absurd cc
none_below s (class class_kind.Expression) a p o f h = ap (λ z. declared z p a) (class_seeks s) ∙ none_declared p a
none_below s block_statement a p o f h = inside_declared false (sought_below s block_statement) p a (block_seeks s o) h
none_below s for_statement a p o f h = inside_declared false (sought_below s for_statement) p a (loop_seeks s for_statement refl) h
none_below s for_in_statement a p o f h = inside_declared false (sought_below s for_in_statement) p a (loop_seeks s for_in_statement refl) h
none_below s for_of_statement a p o f h = inside_declared false (sought_below s for_of_statement) p a (loop_seeks s for_of_statement refl) h
none_below s k a p o f h = f (sought_below s k) p (handler_seeks s k) (outside_below s k a) h

parameter_declared : (s : Sought) (p : ℕ) (k : Kind) (a : Forest) → seeks_variables s ≡ true → lets_only_at k (lets_only a) ≡ true → declared_here s p k ++ declared (sought_below s k) (p + one_each k) a ≡ []
parameter_declared none p k a e h = none_declared (p + one_each k) a
parameter_declared variables p k a e h = lets_below k a (p + one_each k) (λ z q g i. lets_declared z q a g i) h
parameter_declared s p k a e h = absurd cc

-- a node, or a handler's parameter
first_declared : (is_parameter : Bool) (s : Sought) (p : ℕ) (k : Kind) (a : Forest) → (is_parameter ≡ true → seeks_variables s ≡ true) → keeps_outside s k ≡ true
    → ((z : Sought) (q : ℕ) → (is_handler k ≡ true → seeks_variables z ≡ true) → stays_outside z a ≡ true → none_from (is_handler k) a ≡ true → declared z q a ≡ [])
    → none_or_parameter is_parameter k (lets_only a) (stays_inside a) (none_from (is_handler k) a) ≡ true → declared_here s p k ++ declared (sought_below s k) (p + one_each k) a ≡ []
first_declared true s p k a e o f h = parameter_declared s p k a (e refl) h
first_declared false s p k a e o f h =
    both_empty (declared_here s p k) (declared (sought_below s k) (p + one_each k) a) (no_name_here s p k (not_name k (stays_inside a) (none_from (is_handler k) a) h))
    (none_below s k a (p + one_each k) o f h)

row_declared : (is_parameter : Bool) (s : Sought) (p : ℕ) (t : Forest) → (is_parameter ≡ true → seeks_variables s ≡ true) → stays_outside s t ≡ true → none_from is_parameter t ≡ true → declared s p t ≡ []
row_declared b s p nothing e o h = refl
row_declared b s p (absent r) e o h = row_declared false s p r (λ c. absurd cc) o h
row_declared b s p (node k n a r) e o h =
    let here = none_or_parameter b k (lets_only a) (stays_inside a) (none_from (is_handler k) a) in
    both_empty (declared_here s p k ++ declared (sought_below s k) (p + one_each k) a) (declared s (p + node_count (alone k n a)) r)
    (first_declared b s p k a e (first_of_both (keeps_outside s k) (stays_outside s r) o) (λ z q g i j. row_declared (is_handler k) z q a g i j) (first_of_both here (declares_none r) h))
    (row_declared false s (p + node_count (alone k n a)) r (λ c. absurd cc) (second_of_both (keeps_outside s k) (stays_outside s r) o) (second_of_both here (declares_none r) h))

pub nothing_declared : (s : Sought) (p : ℕ) (t : Forest) → stays_outside s t ≡ true → declares_none t ≡ true → declared s p t ≡ []
nothing_declared s p t o h = row_declared false s p t (λ c. absurd cc) o h

-- ---- branches

logical_seeks : (s : Sought) (o : LogicalOperator) → sought_below s (logical_expression o) ≡ none
logical_seeks none o = refl
logical_seeks (names f) o = refl
logical_seeks (bound f) o = refl
logical_seeks (scope f) o = refl
logical_seeks variables o = refl
logical_seeks function_scope o = refl
logical_seeks (catch_scope f) o = refl

pub none_of_logical : (o : LogicalOperator) (t : Forest) (s : Sought) (p : ℕ) → declared (sought_below s (logical_expression o)) p t ≡ []
none_of_logical o t s p = ap (λ z. declared z p t) (logical_seeks s o) ∙ none_declared p t

binary_seeks : (s : Sought) (o : BinaryOperator) → sought_below s (binary_expression o) ≡ none
binary_seeks none o = refl
binary_seeks (names f) o = refl
binary_seeks (bound f) o = refl
binary_seeks (scope f) o = refl
binary_seeks variables o = refl
binary_seeks function_scope o = refl
binary_seeks (catch_scope f) o = refl

pub none_of_binary : (o : BinaryOperator) (t : Forest) (s : Sought) (p : ℕ) → declared (sought_below s (binary_expression o)) p t ≡ []
none_of_binary o t s p = ap (λ z. declared z p t) (binary_seeks s o) ∙ none_declared p t

conditional_seeks : (s : Sought) → sought_below s conditional_expression ≡ none
conditional_seeks none = refl
conditional_seeks (names f) = refl
conditional_seeks (bound f) = refl
conditional_seeks (scope f) = refl
conditional_seeks variables = refl
conditional_seeks function_scope = refl
conditional_seeks (catch_scope f) = refl

pub none_of_conditional : (t : Forest) (s : Sought) (p : ℕ) → declared (sought_below s conditional_expression) p t ≡ []
none_of_conditional t s p = ap (λ z. declared z p t) (conditional_seeks s) ∙ none_declared p t

abbrev pub Stands : (x y : Tree) → Type 0
Stands x y = StandsFor x.kind x.below y.kind y.below

-- ---- where `delete` takes it

come_out : (d : Bool) (bare : Bool) → (d ≡ true → bare ≡ false) → not (d && bare) ≡ true
come_out true bare h = ap not (h refl)
come_out false bare h = refl

operand_deleted : (d : Bool) (o : UnaryOperator) → deleted_below d (unary_expression o) ≡ true → operand_of o ≡ as_deleted
operand_deleted d unary.Delete h = refl
operand_deleted d o h = absurd (true≢false (sym h))

deleted_there : (d : Bool) (u : Use) (k : Kind) (i : ℕ) → (d ≡ true → u ≡ as_deleted) → deleted_below d k ≡ true → use_below u k i ≡ as_deleted
deleted_there d u parenthesized_expression i f h = f h
deleted_there d u (unary_expression o) i f h = operand_deleted d o h
deleted_there d u k i f h = absurd (true≢false (sym h))

given_moves : (k : Kind) → gives_way k ≡ true → gives k ≡ true
given_moves k h = ap (λ g. g || (not (is_statement k || is_asked_for k) && not (is_list_kind k || is_told_apart k))) h

-- ---- wherever the node stands

-- what becomes of the first node of a row, where a part may stand for it
abbrev FirstBecomes : (x y : Tree) → Type 0
FirstBecomes x y =
    (z : Around) (rest : Forest) → may_give_way z.row z.is_asked x.kind ≡ true → may_come_out z.is_deleted (forest_of y) ≡ true → Sheds z (node x.kind x.note x.below rest) (node y.kind y.note y.below rest)

module _ (x y : Tree) where
  as_many : (a : place.Around) → length_of (plug a (Some y)) ≡ length_of (plug a (Some x))
  as_many (first rest) = refl
  as_many (behind k n b a) = ap (λ i. suc i) (as_many a)
  as_many (behind_none a) = as_many a
  as_many (under k n a rest) = refl

  pub keeps_all : (row : Row) (a : place.Around) → keeps_one row (plug a (Some x)) (plug a (Some y)) ≡ true
  keeps_all of_declarators a = ap (λ i. length_of (plug a (Some x)) == 0 || not (i == 0)) (as_many a) ∙ keeps_itself of_declarators (plug a (Some x))
  keeps_all row a = refl

module _ (x y : Tree) (first_becomes : FirstBecomes x y) (moves : gives x.kind ≡ true) where
  may_there : (z : Around) → (not (gives x.kind) || may_give_way z.row z.is_asked x.kind) ≡ true → may_give_way z.row z.is_asked x.kind ≡ true
  may_there z h = ap (λ g. not g || may_give_way z.row z.is_asked x.kind) (sym moves) ∙ h

  -- by what the nodes of the row are used for
  sheds_there : (a : place.Around) (z : Around) (us : ℕ → Use) (at : ℕ) → ((i : ℕ) → z.is_deleted ≡ true → us i ≡ as_deleted) → (use_there us at a ≡ as_deleted → is_bare_name (forest_of y) ≡ false)
      → may_all_give_way z.row z.is_asked (plug a (Some x)) ≡ true → Sheds z (plug a (Some x)) (plug a (Some y))
  sheds_there (first rest) z us at used out h =
      first_becomes z rest (may_there z (first_of_both (not (gives x.kind) || may_give_way z.row z.is_asked x.kind)
      (may_all_give_way (row_below z.row x.kind) (asked_below z.row x.kind) x.below && may_all_give_way z.row z.is_asked rest) h))
      (come_out z.is_deleted (is_bare_name (forest_of y)) (λ d. out (used at d)))
  sheds_there (behind k n b a) z us at used out h =
      keeps (keeps_itself (row_below z.row k) b) (itself (entered z k b) b)
      (sheds_there a z us (suc at) used out (second_of_both (may_all_give_way (row_below z.row k) (asked_below z.row k) b) (may_all_give_way z.row z.is_asked (plug a (Some x)))
      (second_of_both (not (gives k) || may_give_way z.row z.is_asked k) (may_all_give_way (row_below z.row k) (asked_below z.row k) b && may_all_give_way z.row z.is_asked (plug a (Some x))) h)))
  sheds_there (behind_none a) z us at used out h = keeps_absent (sheds_there a z us (suc at) used out h)
  sheds_there (under k n a rest) z us at used out h =
      keeps (keeps_all x y (row_below z.row k) a)
      (sheds_there a (entered z k (plug a (Some x))) (λ i. use_below (us at) k i) 0 (λ i d. deleted_there z.is_deleted (us at) k i (used at) d) out (first_of_both (may_all_give_way (row_below z.row k) (asked_below z.row k) (plug a (Some x))) (may_all_give_way z.row z.is_asked rest)
      (second_of_both (not (gives k) || may_give_way z.row z.is_asked k) (may_all_give_way (row_below z.row k) (asked_below z.row k) (plug a (Some x)) && may_all_give_way z.row z.is_asked rest) h)))
      (itself z rest)

pub replaced_sheds : (a : place.Around) (x y : Tree) → Replaces x.kind x.note x.below y.kind y.note y.below → gives x.kind ≡ true → (use_at a ≡ as_deleted → is_bare_name (forest_of y) ≡ false) → Fits root (plug a (Some x))
    → Sheds outermost (plug a (Some x)) (plug a (Some y))
replaced_sheds a x y replaces moves out fits =
    sheds_there x y (λ z rest may bare. becomes replaces may bare (itself z rest)) moves a outermost (λ i. as_value) 0 (λ i d. absurd (true≢false (sym d))) out (fits_may_give_way (plug a (Some x)) fits)

pub part_sheds : (a : place.Around) (x y : Tree) → Stands x y → (use_at a ≡ as_deleted → is_bare_name (forest_of y) ≡ false) → Fits root (plug a (Some x)) → Sheds outermost (plug a (Some x)) (plug a (Some y))
part_sheds a x y stands = replaced_sheds a x y (by_part stands) (given_moves x.kind stands.gives)

-- An `if` that declares nothing becomes empty: where a part may stand for an `if`, statements may become empty.
pub emptied_if_sheds : (a : place.Around) (n m : Note) (below : Forest) → ((s : Sought) (at : ℕ) → declared s at (alone if_statement n below) ≡ []) → Fits root (plug a (a_node if_statement n below))
    → Sheds outermost (plug a (a_node if_statement n below)) (plug a (a_node empty_statement m nothing))
emptied_if_sheds a n m below unnamed fits =
    let old : Tree = record { kind = if_statement; note = n; below = below } in
    let new : Tree = record { kind = empty_statement; note = m; below = nothing } in
    sheds_there old new (λ z rest may bare. empties_idle refl (λ labeled. refl) (second_of_both (not z.is_asked) (may_empty z.row) may) (unnamed z.sought) (itself z rest)) refl a outermost (λ i. as_value) 0 (λ i d. absurd (true≢false (sym d))) (λ d. refl)
    (fits_may_give_way (plug a (Some old)) fits)
