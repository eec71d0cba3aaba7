-- A row with changes at any number of places is near the old one, and declares the same.
use Rattle.std.proofs.Common.{◌≡◌, ◌∙◌, List, [], ◌++◌, None, refl, sym, ap, ap₂, subst}
use Rattle.std.specs.Prelude.{Bool, true, false}
use Rattle.js_syntax.specs.declared.node_kind.NodeKind.{NodeKind as Kind}
use Rattle.js_syntax.specs.declared.kind.FunctionKind.{FunctionKind}
use Rattle.js_syntax.specs.declared.kind.FunctionKind.TheVariants as function_kind
use Rattle.js_syntax.specs.declared.kind.VariableKind.TheVariants as variable
use Rattle.js_syntax.specs.declared.kind.ClassKind.TheVariants as class_kind
use Rattle.js_syntax.specs.Node.{Note, Forest, nothing, node}
use Rattle.js_meaning.specs.Value.{Text}
use Rattle.js_meaning.specs.Scope.{Decl, waiting, ready, all_so, named_so, first_of, behind, first_name, names_of, bound_names, vars_of, var_names, specifier_decls, import_decls, item_decls, lexical, receiver_decls, function_decls}
use Rattle.js_meaning_near.specs.Purpose.{Purposes, purposes_behind, for_values}
use Rattle.js_meaning_near.specs.Names.{Names, Decls, Copied, declared, FillableIf}
use Rattle.js_meaning_near.specs.Near.{Row, ReceiverOk, fields, Heads, is_row, Near, near_nothing, near_absent, near_node, near_closure, near_hoisted, leaves, Code, near_code, row_below}
use Rattle.js_meaning_near.specs.Fit.{names_after, around_code, within_code, FunctionOk, Part, whole, others, part_of}
use Rattle.js_meaning_near.specs.Local.{KeysStay}
use Rattle.js_meaning_near.specs.Rewritten.{Rewritten, no_more, behind_absent, at_place, item_leaves, behind_node, in_node, in_code, behind_name, behind_no_name}
use Rattle.js_meaning_near.proofs.Fit.{same_decls, same_copied}
use Rattle.js_meaning_near.proofs.Once.{node_stays}
use Rattle.js_meaning_near.proofs.Avoid.{receiver_ok}

-- what is declared

pub name_kept : {C : Names → Type 0} {q : Part} {us : Purposes} {p : Row} {t u : Forest} → Rewritten C q us p t u → first_name t ≡ first_name u
name_kept no_more = refl
name_kept (behind_absent s) = refl
name_kept (at_place y f s) = y.name
name_kept (item_leaves y f s) = y.name
name_kept (behind_node y s) = refl
name_kept (in_node y e b x s) = refl
name_kept (in_code y b x s) = refl
name_kept (behind_name s) = refl
name_kept (behind_no_name s) = refl

pub bound_kept : {C : Names → Type 0} {q : Part} {us : Purposes} {p : Row} {t u : Forest} → Rewritten C q us p t u → bound_names t ≡ bound_names u
bound_kept no_more = refl
bound_kept (behind_absent s) = bound_kept s
bound_kept (at_place y f s) = ap₂ (λ (v w : List Text). v ++ w) y.bound (bound_kept s)
bound_kept (item_leaves {r = r} y f s) = ap (λ v. v ++ bound_names r) y.bound ∙ bound_kept s
bound_kept (behind_node {k = k} {a = a} y s) = ap (λ v. names_of k (bound_names a) ++ v) (bound_kept s)
bound_kept (in_node {k = k} y e b x s) = ap₂ (λ (v w : List Text). names_of k v ++ w) (bound_kept x) (bound_kept s)
bound_kept (in_code y b x s) = bound_kept s
bound_kept (behind_name {k = k} {a = a} s) = ap (λ v. names_of k (bound_names a) ++ v) (bound_kept s)
bound_kept (behind_no_name s) = bound_kept s

vars_stay : (k : Kind) (a b : Forest) (l : List Text) → bound_names a ≡ bound_names b → vars_of k a l ≡ vars_of k b l
vars_stay (Kind.VariableDeclaration variable.Var) a b l e = ap (λ v. v ++ l) e
vars_stay (Kind.VariableDeclaration variable.Let) a b l e = refl
vars_stay (Kind.VariableDeclaration variable.Const) a b l e = refl
vars_stay k a b l e = refl

pub vars_kept : {C : Names → Type 0} {q : Part} {us : Purposes} {p : Row} {t u : Forest} → Rewritten C q us p t u → var_names t ≡ var_names u
vars_kept no_more = refl
vars_kept (behind_absent s) = vars_kept s
vars_kept (at_place y f s) = ap₂ (λ (v w : List Text). v ++ w) y.vars (vars_kept s)
vars_kept (item_leaves {r = r} y f s) = ap (λ v. v ++ var_names r) y.vars ∙ vars_kept s
vars_kept (behind_node {k = k} {a = a} y s) = ap (λ v. vars_of k a (var_names a) ++ v) (vars_kept s)
vars_kept (in_node {k = k} {a = a} {b = b} y e g x s) = ap₂ (λ (v w : List Text). v ++ w) (ap (vars_of k a) (vars_kept x) ∙ vars_stay k a b (var_names b) (bound_kept x)) (vars_kept s)
vars_kept (in_code y b x s) = vars_kept s
vars_kept (behind_name {k = k} {a = a} s) = ap (λ v. vars_of k a (var_names a) ++ v) (vars_kept s)
vars_kept (behind_no_name s) = vars_kept s

specifier_stays : (source : Text) (k : Kind) (a b : Forest) (l : List Decl) → first_name a ≡ first_name b → specifier_decls source k a l ≡ specifier_decls source k b l
specifier_stays source (Kind.ImportSpecifier name) a b l e = ap (named_so _) e
specifier_stays source Kind.ImportDefaultSpecifier a b l e = ap (named_so _) e
specifier_stays source Kind.ImportNamespaceSpecifier a b l e = ap (named_so _) e
specifier_stays source k a b l e = refl

pub imports_kept : {C : Names → Type 0} {q : Part} {us : Purposes} {p : Row} {t u : Forest} (source : Text) → Rewritten C q us p t u → import_decls source t ≡ import_decls source u
imports_kept source no_more = refl
imports_kept source (behind_absent s) = imports_kept source s
imports_kept source (at_place y f s) = ap₂ (λ (v w : List Decl). v ++ w) (y.imports source) (imports_kept source s)
imports_kept source (item_leaves {r = r} y f s) = ap (λ v. v ++ import_decls source r) (y.imports source) ∙ imports_kept source s
imports_kept source (behind_node {k = k} {a = a} y s) = ap (λ v. specifier_decls source k a (import_decls source a) ++ v) (imports_kept source s)
imports_kept source (in_node {k = k} {a = a} {b = b} y e g x s) = ap₂ (λ (v w : List Decl). v ++ w) (ap (specifier_decls source k a) (imports_kept source x) ∙ specifier_stays source k a b (import_decls source b) (name_kept x)) (imports_kept source s)
imports_kept source (in_code y b x s) = ap₂ (λ (v w : List Decl). v ++ w) (imports_kept source x) (imports_kept source s)
imports_kept source (behind_name {k = k} {a = a} s) = ap (λ v. specifier_decls source k a (import_decls source a) ++ v) (imports_kept source s)
imports_kept source (behind_no_name s) = imports_kept source s

pub items_stay : (k : Kind) (a b : Forest) (l : List Decl) → bound_names a ≡ bound_names b → first_name a ≡ first_name b → ((source : Text) → import_decls source a ≡ import_decls source b) → item_decls k a l ≡ item_decls k b l
items_stay (Kind.VariableDeclaration variable.Let) a b l e f g = ap (all_so (waiting false)) e
items_stay (Kind.VariableDeclaration variable.Const) a b l e f g = ap (all_so (waiting true)) e
items_stay (Kind.VariableDeclaration variable.Var) a b l e f g = refl
items_stay (Kind.Function function_kind.Declaration pure) a b l e f g = ap (named_so (waiting false)) f
items_stay (Kind.Class class_kind.Declaration) a b l e f g = ap (named_so (waiting false)) f
items_stay (Kind.ImportDeclaration source) a b l e f g = g source
items_stay (Kind.ExportNamedDeclaration None) a b l e f g = refl
items_stay k a b l e f g = refl

pub lexical_kept : {C : Names → Type 0} {q : Part} {us : Purposes} {p : Row} {t u : Forest} → Rewritten C q us p t u → lexical t ≡ lexical u
lexical_kept no_more = refl
lexical_kept (behind_absent s) = lexical_kept s
lexical_kept (at_place y f s) = ap₂ (λ (v w : List Decl). v ++ w) y.items (lexical_kept s)
lexical_kept (item_leaves {r = r} y f s) = ap (λ v. v ++ lexical r) y.items ∙ lexical_kept s
lexical_kept (behind_node {k = k} {a = a} y s) = ap (λ v. item_decls k a (lexical a) ++ v) (lexical_kept s)
lexical_kept (in_node {k = k} {a = a} {b = b} y e g x s) = ap₂ (λ (v w : List Decl). v ++ w) (ap (item_decls k a) (lexical_kept x) ∙ items_stay k a b (lexical b) (bound_kept x) (name_kept x) (λ source. imports_kept source x)) (lexical_kept s)
lexical_kept (in_code {f = f} {pure = pure} {a = a} {b = b} y g x s) = ap₂ (λ (v w : List Decl). v ++ w) (ap (item_decls (Kind.Function f pure) a) (lexical_kept x) ∙ items_stay (Kind.Function f pure) a b (lexical b) (bound_kept x) (name_kept x) (λ source. imports_kept source x)) (lexical_kept s)
lexical_kept (behind_name {k = k} {a = a} s) = ap (λ v. item_decls k a (lexical a) ++ v) (lexical_kept s)
lexical_kept (behind_no_name s) = lexical_kept s

-- of the first field, and behind it

first_bound : {C : Names → Type 0} {q : Part} {us : Purposes} {t u : Forest} → Rewritten C q us fields t u → bound_names (first_of t) ≡ bound_names (first_of u)
first_bound no_more = refl
first_bound (behind_absent s) = refl
first_bound (at_place y f s) = ap (λ v. v ++ []) y.bound
first_bound (behind_node y s) = refl
first_bound (in_node {k = k} y e b x s) = ap (λ v. names_of k v ++ []) (bound_kept x)
first_bound (in_code y b x s) = refl
first_bound (behind_name s) = refl
first_bound (behind_no_name s) = refl

first_lexical : {C : Names → Type 0} {q : Part} {us : Purposes} {t u : Forest} → Rewritten C q us fields t u → lexical (first_of t) ≡ lexical (first_of u)
first_lexical no_more = refl
first_lexical (behind_absent s) = refl
first_lexical (at_place y f s) = ap (λ v. v ++ []) y.items
first_lexical (behind_node y s) = refl
first_lexical (in_node {k = k} {a = a} {b = b} y e g x s) = ap (λ v. v ++ []) (ap (item_decls k a) (lexical_kept x) ∙ items_stay k a b (lexical b) (bound_kept x) (name_kept x) (λ source. imports_kept source x))
first_lexical (in_code {f = f} {pure = pure} {a = a} {b = b} y g x s) = ap (λ v. v ++ []) (ap (item_decls (Kind.Function f pure) a) (lexical_kept x) ∙ items_stay (Kind.Function f pure) a b (lexical b) (bound_kept x) (name_kept x) (λ source. imports_kept source x))
first_lexical (behind_name s) = refl
first_lexical (behind_no_name s) = refl

-- whatever is read off a row that is rewritten is read off what stands behind its first node
behind_same : {A : Type 0} {C : Names → Type 0} {q : Part} {us : Purposes} (f : Forest → A) → ((us : Purposes) (t u : Forest) → Rewritten C whole us fields t u → f t ≡ f u) → (t u : Forest) → Rewritten C q us fields t u → f (behind t) ≡ f (behind u)
behind_same f g _ _ (no_more {us = us}) = g us nothing nothing no_more
behind_same f g _ _ (behind_absent s) = g _ _ _ s
behind_same f g _ _ (at_place y e s) = g _ _ _ s
behind_same f g _ _ (behind_node y s) = g _ _ _ s
behind_same f g _ _ (in_node y e b x s) = g _ _ _ s
behind_same f g _ _ (in_code y b x s) = g _ _ _ s
behind_same f g _ _ (behind_name s) = g _ _ _ s
behind_same f g _ _ (behind_no_name s) = g _ _ _ s

code_decls : FunctionKind → List Text → List Text → List Decl → List Decl
code_decls f vs bs ds = receiver_decls f ++ all_so ready vs ++ all_so ready bs ++ ds

pub decls_stay : {C : Names → Type 0} {q : Part} {us : Purposes} (f : FunctionKind) {t u : Forest} → Rewritten C q us fields t u → function_decls f t ≡ function_decls f u
unfolding code_decls
decls_stay f {t} {u} s =
    ap (λ vs. code_decls f vs (bound_names (first_of (behind t))) (lexical (behind (behind t)))) (behind_same (λ x. var_names (behind x)) (λ us t u s. behind_same var_names (λ us t u s. vars_kept s) t u s) t u s)
    ∙ ap (λ bs. code_decls f (var_names (behind (behind u))) bs (lexical (behind (behind t)))) (behind_same (λ x. bound_names (first_of x)) (λ us t u s. first_bound s) t u s)
    ∙ ap (λ ds. code_decls f (var_names (behind (behind u))) (bound_names (first_of (behind u))) ds) (behind_same (λ x. lexical (behind x)) (λ us t u s. behind_same lexical (λ us t u s. lexical_kept s) t u s) t u s)

pub declared_kept : {C : Names → Type 0} {q : Part} {us : Purposes} (k : Kind) {a b : Forest} → Rewritten C q us (row_below k) a b → declared k a ≡ declared k b
declared_kept Kind.BlockStatement s = lexical_kept s
declared_kept Kind.Cases s = lexical_kept s
declared_kept Kind.ForStatement s = first_lexical s
declared_kept Kind.CatchClause s = ap (all_so (waiting false)) (first_bound s)
declared_kept k s = refl

-- nearness

heads_kept : {C : Names → Type 0} {q : Part} {us : Purposes} (k : Kind) (t : Names) (a b : Forest) → KeysStay k a b → Rewritten C q us (row_below k) a b → Heads k t a b
heads_kept Kind.ForStatement t a b q s = subst (Copied t (lexical (first_of a))) (first_lexical s) (same_copied t (lexical (first_of a)))
heads_kept Kind.ObjectExpression t a b q s = q
heads_kept k t a b q s = tt

pub decls_from : {ds es : List Decl} (st : Names) → ds ≡ es → Decls st ds es (names_after st es)
decls_from {ds = ds} {es = es} st e = subst (λ l. Decls st l es (names_after st es)) (sym e) (same_decls st es)

rows_kept : {C : Names → Type 0} {q : Part} {us : Purposes} {t u : Forest} → Rewritten C q us fields t u → is_row t ≡ is_row u
rows_kept no_more = refl
rows_kept (behind_absent s) = refl
rows_kept (at_place y f s) = refl
rows_kept (behind_node y s) = refl
rows_kept (in_node y e b x s) = refl
rows_kept (in_code y b x s) = refl
rows_kept (behind_name s) = refl
rows_kept (behind_no_name s) = refl

code_kept : {C : Names → Type 0} {q : Part} {us : Purposes} (st : Names) (f : FunctionKind) (a b : Forest) → Rewritten C q us fields a b → FunctionOk st f b → Near for_values fields (within_code st f b) (behind a) (behind b) → Code (around_code st f b) f a b
code_kept st function_kind.Declaration a b s y n = near_code (decls_from _ (decls_stay function_kind.Declaration s)) y.1 (rows_kept s) n
code_kept st function_kind.Expression a b s y n = near_code (decls_from _ (decls_stay function_kind.Expression s)) y.1 (rows_kept s) n
code_kept st function_kind.Arrow a b s y n = near_code (decls_from _ (decls_stay function_kind.Arrow s)) y.1 (rows_kept s) n

-- a function with such code
pub function_with : {C : Names → Type 0} {us vs : Purposes} {q : Part} {p : Row} {st : Names} {pure : Bool} {n m : Note} {a b r s : Forest} (f : FunctionKind) → Rewritten C q vs fields a b → FunctionOk st f b → Code (around_code st f b) f a b → Near (purposes_behind us) p st r s → Near us p st (node (Kind.Function f pure) n a r) (node (Kind.Function f pure) m b s)
function_with {st = st} function_kind.Declaration s y c o = near_hoisted (name_kept s) (subst (FillableIf st) (sym (name_kept s)) y.0) c o
function_with {st = st} {b = b} function_kind.Expression s y c o = near_closure tt (name_kept s) (decls_from st (ap (named_so (waiting true)) (name_kept s))) (subst (FillableIf (around_code st function_kind.Expression b)) (sym (name_kept s)) y.0) c o
function_with {st = st} function_kind.Arrow s y c o = near_closure tt refl (same_decls st []) y.0 c o

function_near : {C : Names → Type 0} {us vs : Purposes} {q : Part} {p : Row} {st : Names} {pure : Bool} {n m : Note} {a b r s : Forest} (f : FunctionKind) → Rewritten C q vs fields a b → FunctionOk st f b → Near for_values fields (within_code st f b) (behind a) (behind b) → Near (purposes_behind us) p st r s → Near us p st (node (Kind.Function f pure) n a r) (node (Kind.Function f pure) m b s)
function_near {st = st} {a = a} {b = b} f s y n o = function_with f s y (code_kept st f a b s y n) o

-- what a function asks of names around it is asked of its name and of what it declares
pub code_stays : {C : Names → Type 0} {us : Purposes} {a b : Forest} (st : Names) (f : FunctionKind) → Rewritten C others us fields a b → FunctionOk st f a → FunctionOk st f b
code_stays st function_kind.Declaration s y = (subst (FillableIf st) (name_kept s) y.0, subst (λ ds. ReceiverOk function_kind.Declaration (names_after st ds)) (decls_stay function_kind.Declaration s) y.1)
code_stays {b = b} st function_kind.Expression s y =
    (subst (λ o. FillableIf (names_after st (named_so (waiting true) o)) o) (name_kept s) y.0, receiver_ok (around_code st function_kind.Expression b) function_kind.Expression b)
code_stays st function_kind.Arrow s y = y

pub rewritten_near : {C : Names → Type 0} {q : Part} {us : Purposes} {p : Row} {t u : Forest} (st : Names) → C st → Rewritten C q us p t u → Near us p st (part_of q t) (part_of q u)
rewritten_near {q = whole} st g no_more = near_nothing
rewritten_near {q = others} st g no_more = near_nothing
rewritten_near st g (behind_absent s) = near_absent (rewritten_near st g s)
rewritten_near st g (at_place {r = r} {s = s} y f z) = f st g (rewritten_near st g z)
rewritten_near st g (item_leaves y f z) = leaves (f st g) (rewritten_near st g z)
rewritten_near {p = p} st g (behind_node {k = k} {n = n} {a = a} y s) = node_stays p st k n a (y st g) (rewritten_near st g s)
rewritten_near st g (in_node {k = k} {a = a} {b = b} y e h x s) = near_node (y st g) (decls_from st (declared_kept k x)) (heads_kept k (names_after st (declared k b)) a b e x) (rewritten_near _ (h st g) x) (rewritten_near st g s)
rewritten_near st g (in_code {f = f} y h x s) = function_near f x (y st g) (rewritten_near _ (h st g) x) (rewritten_near st g s)
rewritten_near st g (behind_name s) = rewritten_near st g s
rewritten_near st g (behind_no_name s) = rewritten_near st g s
