-- In trees that fit the table of node types expressions declare no name outside of functions and classes.
use Rattle.std.proofs.Common.{◌≡◌, ℕ, suc, [], ◌∷◌, Bool, true, false, not, ◌&&◌, ◌||◌, refl, sym, true≢false}
use Rattle.js_syntax.specs.Class.{Class, root, expression}
use Rattle.js_syntax.specs.declared.node_kind.NodeKind.{NodeKind as Kind}
use Rattle.js_syntax.specs.declared.node_kind.NodeKind.TheVariants.{Function as function, Class as class, BlockStatement as block_statement, ForOfStatement as for_of_statement, ForInStatement as for_in_statement, ForStatement as for_statement, CatchClause as catch_clause, VariableDeclaration as variable_declaration, BindingName as binding_name}
use Rattle.js_syntax.specs.declared.kind.FunctionKind.TheVariants as function_kind
use Rattle.js_syntax.specs.declared.kind.ClassKind.TheVariants as class_kind
use Rattle.js_syntax.specs.Node.{Forest, nothing, node, absent}
use Rattle.js_syntax.specs.Table.{Row, a_program, fields_of}
use Rattle.js_syntax.proofs.Truth.{first_of_both, second_of_both, both}
use Rattle.form_rules.specs.declared.sought.Sought.{Sought}
use Rattle.form_rules.specs.declared.sought.Sought.TheVariants.{CatchScope as catch_scope}
use Rattle.json_shape.specs.Shape.{Values, kind_in, first_of, one, Plan, these, Stand, Fits}
use Rattle.json_shape.proofs.Choice.{is_list_kind}
use Rattle.steps.specs.Allowed.Branches.{declares_none, declares_no_name}
use Rattle.steps.proofs.Fit.CoreCalm.{rows_of}
use Rattle.steps.proofs.Fit.CoreRows.{takes_such, if_so, fields_pass}
use Rattle.steps.specs.Fit.Enclosed.{is_enclosed}
use Rattle.steps.proofs.Fit.Enclosing.{enclosed}
use Rattle.steps.proofs.Fit.Shut.{shut, takes_marked, Passing, shut_as_planned}
use Rattle.steps.specs.Owed.Part.{DeclaresNothing}
use Rattle.steps.proofs.Owed.Outward.{declares_nothing}
use Rattle.steps.proofs.Owed.PartForm.{keeps_outside, stays_outside}
use Rattle.steps.proofs.VarNames.Sets.{of_expression, in_expression}

-- A block and a handler count too, since they have scopes of their own.
abbrev declares_itself : Kind → Bool
declares_itself (binding_name x) = true
declares_itself (function function_kind.Declaration pure) = true
declares_itself (class class_kind.Declaration) = true
declares_itself (variable_declaration how) = true
declares_itself catch_clause = true
declares_itself block_statement = true
declares_itself for_statement = true
declares_itself for_in_statement = true
declares_itself for_of_statement = true
declares_itself k = false

-- what lies in a function or class doesn't matter
abbrev lets : Kind → (at : ℕ) → Bool
lets (function how pure) at = false
lets (class how) at = false
lets k at = true

abbrev keeps_it : Row → Kind → Bool
keeps_it r k = not (declares_itself k) && fields_pass (takes_marked of_expression (lets k)) 0 (fields_of r)

closed : (c : Class) → (not (of_expression c) || takes_such in_expression c) ≡ true
closed root = refl
closed c = refl

others : (r : Row) → (not (in_expression (first_of r)) || in_expression r) ≡ true
others a_program = refl
others r = refl

keep : (r : Row) (vs : Values (fields_of r)) → (not (in_expression r) || keeps_it r (kind_in r vs)) ≡ true
keep a_program vs = refl
keep r vs = refl

lists : (kind : Kind) → is_list_kind kind ≡ true → not (declares_itself kind) ≡ true
lists (binding_name x) h = absurd cc
lists (function how pure) h = absurd cc
lists (class how) h = absurd cc
lists (variable_declaration how) h = absurd cc
lists catch_clause h = absurd cc
lists block_statement h = absurd cc
lists for_statement h = absurd cc
lists for_in_statement h = absurd cc
lists for_of_statement h = absurd cc
lists kind h = refl

fields : (r : Row) (vs : Values (fields_of r)) → in_expression r ≡ true → keeps_it r (kind_in r vs) ≡ true
fields r vs h = if_so (in_expression r) (keeps_it r (kind_in r vs)) (keep r vs) h

pub shut_declares : (at : ℕ) (t : Forest) → shut declares_itself lets (λ i. true) at t ≡ true → declares_none t ≡ true
shut_declares at nothing h = refl
shut_declares at (absent rest) h = shut_declares (suc at) rest h
shut_declares at (node k n below rest) h =
    let inner = shut declares_itself lets (λ i. lets k i) 0 below in
    let later = shut declares_itself lets (λ i. true) (suc at) rest in
    let further = second_of_both (not (declares_itself k)) (inner && later) h in
    both (declares_no_name k below) (declares_none rest)
    (here k below (first_of_both (not (declares_itself k)) (inner && later) h) (first_of_both inner later further) (shut_declares 0 below))
    (shut_declares (suc at) rest (second_of_both inner later further))
  where
    here : (k : Kind) (below : Forest) → not (declares_itself k) ≡ true → shut declares_itself lets (λ i. lets k i) 0 below ≡ true
        → (shut declares_itself lets (λ i. true) 0 below ≡ true → declares_none below ≡ true) → declares_no_name k below ≡ true
    here (binding_name x) below h e f = h
    here (function function_kind.Declaration pure) below h e f = h
    here (function how pure) below h e f = refl
    here (class class_kind.Declaration) below h e f = h
    here (class class_kind.Expression) below h e f = refl
    here (variable_declaration how) below h e f = absurd (true≢false (sym h))
    here catch_clause below h e f = absurd (true≢false (sym h))
    here block_statement below h e f = absurd (true≢false (sym h))
    here for_statement below h e f = absurd (true≢false (sym h))
    here for_in_statement below h e f = absurd (true≢false (sym h))
    here for_of_statement below h e f = absurd (true≢false (sym h))
    here k below h e f = f e

-- nothing of the row is a block
shut_outside : (s : Sought) (at : ℕ) (t : Forest) → shut declares_itself lets (λ i. true) at t ≡ true → stays_outside s t ≡ true
shut_outside s at nothing h = refl
shut_outside s at (absent rest) h = shut_outside s (suc at) rest h
shut_outside s at (node k n below rest) h =
    let inner = shut declares_itself lets (λ i. lets k i) 0 below in
    let later = shut declares_itself lets (λ i. true) (suc at) rest in
    both (keeps_outside s k) (stays_outside s rest) (here s k (first_of_both (not (declares_itself k)) (inner && later) h))
    (shut_outside s (suc at) rest (second_of_both inner later (second_of_both (not (declares_itself k)) (inner && later) h)))
  where
    here : (s : Sought) (k : Kind) → not (declares_itself k) ≡ true → keeps_outside s k ≡ true
    here (catch_scope fs) block_statement h = h
    here s k h = refl

-- ---- an expression of the table

expression_shut : (t : Forest) → Fits expression t → shut declares_itself lets (λ i. true) 0 t ≡ true
expression_shut t fits = shut_as_planned declares_itself lets of_expression in_expression lists refl (rows_of of_expression in_expression closed others) fields t (λ i. true) 0 (these (one expression ∷ [])) refl fits

pub expression_declares_none : (t : Forest) → Fits expression t → declares_none t ≡ true
expression_declares_none t fits = shut_declares 0 t (expression_shut t fits)

pub expression_stays_outside : (s : Sought) (t : Forest) → Fits expression t → stays_outside s t ≡ true
expression_stays_outside s t fits = shut_outside s 0 t (expression_shut t fits)

pub expression_declares_nothing : (t : Forest) → Fits expression t → DeclaresNothing t
expression_declares_nothing t fits = declares_nothing t (expression_declares_none t fits) (enclosed t (these (one expression ∷ [])) refl fits)

-- nor do nodes that stand where expressions do, or what they are made of
pub expressions_declare_nothing : (t : Forest) (plan : Plan) → Passing of_expression (λ i. true) 0 plan → Stand plan t → is_enclosed t ≡ true → DeclaresNothing t
expressions_declare_nothing t plan h st e =
    declares_nothing t (shut_declares 0 t (shut_as_planned declares_itself lets of_expression in_expression lists refl (rows_of of_expression in_expression closed others) fields t (λ i. true) 0 plan h st)) e
