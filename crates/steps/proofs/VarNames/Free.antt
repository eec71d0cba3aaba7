-- What holds no `var` outside of functions and classes, and what declares no name there.
use Rattle.std.proofs.Common.{◌≡◌, ℕ, suc, List, [], Bool, true, false, not, ◌&&◌, ◌||◌, if◌then◌else◌, refl, ap, ap₂}
use Rattle.js_syntax.specs.Class.{Class, root}
use Rattle.js_syntax.specs.declared.node_kind.NodeKind.{NodeKind as Kind}
use Rattle.js_syntax.specs.declared.node_kind.NodeKind.TheVariants.{Function as function, Class as class, BindingName as binding_name, VariableDeclaration as variable_declaration}
use Rattle.js_syntax.specs.declared.kind.VariableKind.TheVariants as variable
use Rattle.js_syntax.specs.Hint.{has, is_private}
use Rattle.js_syntax.specs.Node.{Forest, Note, nothing, node, absent, Tree}
use Rattle.js_syntax.specs.Table.{Row, a_program, fields_of}
use Rattle.js_syntax.proofs.Truth.{first_of_both, second_of_both}
use Rattle.js_meaning.specs.Scope.{names_of, bound_names, vars_of, var_names}
use Rattle.json_shape.specs.Shape.{Values, kind_in, first_of, places, Plan, these, Stand}
use Rattle.json_shape.proofs.Choice.{is_list_kind}
use Rattle.kept_names.specs.Kept as kept
use Rattle.steps.specs.VarNames.Declared.{is_code, without_vars}
use Rattle.steps.proofs.KeepForm.Rules.{both_empty}
use Rattle.steps.proofs.Fit.CoreCalm.{rows_of}
use Rattle.steps.proofs.Fit.CoreRows.{takes_such, if_so, fields_pass}
use Rattle.steps.proofs.Fit.Shut.{shut, takes_marked, Passing, row_passing, shut_as_planned}
use Rattle.steps.proofs.VarNames.Sets.{of_expression, in_expression, of_free, in_free}

-- what lies in a function or class doesn't matter
abbrev lets : Kind → (at : ℕ) → Bool
lets (function how pure) at = false
lets (class how) at = false
lets k at = true

-- ---- no `var`

pub free_closed : (c : Class) → (not (of_free c) || takes_such in_free c) ≡ true
free_closed root = refl
free_closed c = refl

pub free_others : (r : Row) → (not (in_free (first_of r)) || in_free r) ≡ true
free_others a_program = refl
free_others r = refl

abbrev frees : Row → Kind → Bool
frees r k = not (kept.is_var k) && fields_pass (takes_marked of_free (lets k)) 0 (fields_of r)

free_keep : (r : Row) (vs : Values (fields_of r)) → (not (in_free r) || frees r (kind_in r vs)) ≡ true
free_keep a_program vs = refl
free_keep r vs = refl

free_lists : (kind : Kind) → is_list_kind kind ≡ true → not (kept.is_var kind) ≡ true
free_lists (variable_declaration how) h = absurd cc
free_lists kind h = refl

free_fields : (r : Row) (vs : Values (fields_of r)) → in_free r ≡ true → frees r (kind_in r vs) ≡ true
free_fields r vs h = if_so (in_free r) (frees r (kind_in r vs)) (free_keep r vs) h

free_shut : (t : Forest) (marks : ℕ → Bool) (at : ℕ) (plan : Plan) → Passing of_free marks at plan → Stand plan t → shut kept.is_var lets marks at t ≡ true
free_shut = shut_as_planned kept.is_var lets of_free in_free free_lists refl (rows_of of_free in_free free_closed free_others) free_fields

vars_here : (k : Kind) (a : Forest) → not (kept.is_var k) ≡ true → (shut kept.is_var lets (λ i. true) 0 a ≡ true → var_names a ≡ []) → shut kept.is_var lets (λ i. lets k i) 0 a ≡ true → vars_of k a (var_names a) ≡ []
vars_here (variable_declaration variable.Var) a h f e = absurd cc
vars_here (variable_declaration variable.Let) a h f e = refl
vars_here (variable_declaration variable.Const) a h f e = refl
vars_here (function how pure) a h f e = refl
vars_here (class how) a h f e = refl
vars_here k a h f e = f e

no_vars : (at : ℕ) (t : Forest) → shut kept.is_var lets (λ i. true) at t ≡ true → var_names t ≡ []
no_vars at nothing h = refl
no_vars at (absent rest) h = no_vars (suc at) rest h
no_vars at (node k n below rest) h =
    let inner = shut kept.is_var lets (λ i. lets k i) 0 below in
    let later = shut kept.is_var lets (λ i. true) (suc at) rest in
    let further = second_of_both (not (kept.is_var k)) (inner && later) h in
    both_empty (vars_of k below (var_names below)) (var_names rest)
    (vars_here k below (first_of_both (not (kept.is_var k)) (inner && later) h) (no_vars 0 below) (first_of_both inner later further))
    (no_vars (suc at) rest (second_of_both inner later further))

-- a node of a row that holds none
pub node_is_free : (r : Row) (vs : Values (fields_of r)) (a : Forest) → in_free r ≡ true → Stand (these (places (has is_private a) (fields_of r) vs)) a → vars_of (kind_in r vs) a (var_names a) ≡ []
node_is_free r vs a h st =
    let kind = kind_in r vs in
    let fields = fields_pass (takes_marked of_free (lets kind)) 0 (fields_of r) in
    let good = free_fields r vs h in
    vars_here kind a (first_of_both (not (kept.is_var kind)) fields good) (no_vars 0 a)
    (free_shut a (lets kind) 0 (these (places (has is_private a) (fields_of r) vs)) (row_passing of_free (lets kind) r vs (has is_private a) (second_of_both (not (kept.is_var kind)) fields good)) st)

-- and where nodes stand that may be such alone
pub row_is_free : (a : Forest) (plan : Plan) → Passing of_free (λ i. true) 0 plan → Stand plan a → var_names a ≡ []
row_is_free a plan h st = no_vars 0 a (free_shut a (λ i. true) 0 plan h st)

-- so nothing leaves with the `var` declarations
same_below : (k : Kind) (a : Forest) → (shut kept.is_var lets (λ i. true) 0 a ≡ true → without_vars a ≡ a) → shut kept.is_var lets (λ i. lets k i) 0 a ≡ true → (if is_code k then a else without_vars a) ≡ a
same_below (function how pure) a f e = refl
same_below (class how) a f e = refl
same_below k a f e = f e

same_here : (v : Bool) (k : Kind) (n : Note) (a b r s : Forest) → not v ≡ true → b ≡ a → s ≡ r → (if v then absent s else node k n b s) ≡ node k n a r
same_here true k n a b r s h below rest = absurd cc
same_here false k n a b r s h below rest = ap₂ (λ x y. node k n x y) below rest

same_row : (at : ℕ) (t : Forest) → shut kept.is_var lets (λ i. true) at t ≡ true → without_vars t ≡ t
same_row at nothing h = refl
same_row at (absent rest) h = ap absent (same_row (suc at) rest h)
same_row at (node k n below rest) h =
    let inner = shut kept.is_var lets (λ i. lets k i) 0 below in
    let later = shut kept.is_var lets (λ i. true) (suc at) rest in
    let further = second_of_both (not (kept.is_var k)) (inner && later) h in
    same_here (kept.is_var k) k n below (if is_code k then below else without_vars below) rest (without_vars rest) (first_of_both (not (kept.is_var k)) (inner && later) h)
    (same_below k below (same_row 0 below) (first_of_both inner later further)) (same_row (suc at) rest (second_of_both inner later further))

pub node_without_vars : (r : Row) (vs : Values (fields_of r)) (n : Note) (a rest : Forest) → in_free r ≡ true → Stand (these (places (has is_private a) (fields_of r) vs)) a
    → without_vars (node (kind_in r vs) n a rest) ≡ node (kind_in r vs) n a (without_vars rest)
node_without_vars r vs n a rest h st =
    let kind = kind_in r vs in
    let passed = fields_pass (takes_marked of_free (lets kind)) 0 (fields_of r) in
    let good = free_fields r vs h in
    same_here (kept.is_var kind) kind n a (if is_code kind then a else without_vars a) (without_vars rest) (without_vars rest) (first_of_both (not (kept.is_var kind)) passed good)
    (same_below kind a (same_row 0 a)
    (free_shut a (lets kind) 0 (these (places (has is_private a) (fields_of r) vs)) (row_passing of_free (lets kind) r vs (has is_private a) (second_of_both (not (kept.is_var kind)) passed good)) st))
    refl

pub row_without_vars : (a : Forest) (plan : Plan) → Passing of_free (λ i. true) 0 plan → Stand plan a → without_vars a ≡ a
row_without_vars a plan h st = same_row 0 a (free_shut a (λ i. true) 0 plan h st)

-- of such a node nothing is kept
keeps_none : (r : Row) (vs : Values (fields_of r)) → (not (in_free r) || (not (kept.is_var (kind_in r vs)) && not (kept.holds_statements (kind_in r vs)))) ≡ true
keeps_none a_program vs = refl
keeps_none r vs = refl

kept_by : (v s : Bool) (xs ys : List Tree) → (not v && not s) ≡ true → (if v then xs else if s then ys else []) ≡ []
kept_by true s xs ys h = absurd cc
kept_by false true xs ys h = absurd cc
kept_by false false xs ys h = refl

pub nothing_kept : (r : Row) (vs : Values (fields_of r)) (a : Forest) → in_free r ≡ true → kept.kept_of (kind_in r vs) a (kept.kept a) ≡ []
nothing_kept r vs a h =
    let kind = kind_in r vs in
    kept_by (kept.is_var kind) (kept.holds_statements kind) (kept.declared a) (kept.kept a) (if_so (in_free r) (not (kept.is_var kind) && not (kept.holds_statements kind)) (keeps_none r vs) h)

-- ---- no names

abbrev pub is_name : Kind → Bool
is_name (binding_name x) = true
is_name k = false

closed : (c : Class) → (not (of_expression c) || takes_such in_expression c) ≡ true
closed root = refl
closed c = refl

others : (r : Row) → (not (in_expression (first_of r)) || in_expression r) ≡ true
others a_program = refl
others r = refl

abbrev unnamed : Row → Kind → Bool
unnamed r k = not (is_name k) && fields_pass (takes_marked of_expression (lets k)) 0 (fields_of r)

keep : (r : Row) (vs : Values (fields_of r)) → (not (in_expression r) || unnamed r (kind_in r vs)) ≡ true
keep a_program vs = refl
keep r vs = refl

lists : (kind : Kind) → is_list_kind kind ≡ true → not (is_name kind) ≡ true
lists (binding_name x) h = absurd cc
lists kind h = refl

fields : (r : Row) (vs : Values (fields_of r)) → in_expression r ≡ true → unnamed r (kind_in r vs) ≡ true
fields r vs h = if_so (in_expression r) (unnamed r (kind_in r vs)) (keep r vs) h

names_here : (k : Kind) (a : Forest) → not (is_name k) ≡ true → (shut is_name lets (λ i. true) 0 a ≡ true → bound_names a ≡ []) → shut is_name lets (λ i. lets k i) 0 a ≡ true → names_of k (bound_names a) ≡ []
names_here (binding_name x) a h f e = absurd cc
names_here (variable_declaration variable.Let) a h f e = refl
names_here (variable_declaration variable.Const) a h f e = refl
names_here (function how pure) a h f e = refl
names_here (class how) a h f e = refl
names_here k a h f e = f e

no_names : (at : ℕ) (t : Forest) → shut is_name lets (λ i. true) at t ≡ true → bound_names t ≡ []
no_names at nothing h = refl
no_names at (absent rest) h = no_names (suc at) rest h
no_names at (node k n below rest) h =
    let inner = shut is_name lets (λ i. lets k i) 0 below in
    let later = shut is_name lets (λ i. true) (suc at) rest in
    let further = second_of_both (not (is_name k)) (inner && later) h in
    both_empty (names_of k (bound_names below)) (bound_names rest)
    (names_here k below (first_of_both (not (is_name k)) (inner && later) h) (no_names 0 below) (first_of_both inner later further))
    (no_names (suc at) rest (second_of_both inner later further))

-- a node of a row of expressions declares no name
pub node_declares_none : (r : Row) (vs : Values (fields_of r)) (a : Forest) → in_expression r ≡ true → Stand (these (places (has is_private a) (fields_of r) vs)) a → names_of (kind_in r vs) (bound_names a) ≡ []
node_declares_none r vs a h st =
    let kind = kind_in r vs in
    let passed = fields_pass (takes_marked of_expression (lets kind)) 0 (fields_of r) in
    let good = fields r vs h in
    names_here kind a (first_of_both (not (is_name kind)) passed good) (no_names 0 a)
    (shut_as_planned is_name lets of_expression in_expression lists refl (rows_of of_expression in_expression closed others) fields a (lets kind) 0 (these (places (has is_private a) (fields_of r) vs)) (row_passing of_expression (lets kind) r vs (has is_private a) (second_of_both (not (is_name kind)) passed good)) st)

-- expressions declare none
pub expressions_declare_none : (a : Forest) (plan : Plan) → Passing of_expression (λ i. true) 0 plan → Stand plan a → bound_names a ≡ []
expressions_declare_none a plan h st =
    no_names 0 a (shut_as_planned is_name lets of_expression in_expression lists refl (rows_of of_expression in_expression closed others) fields a (λ i. true) 0 plan h st)
