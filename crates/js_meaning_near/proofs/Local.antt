-- An expression that comes to one of its parts, anywhere in a row: all around it stays, and declares the same.
use Rattle.std.proofs.Common.{◌≡◌, ◌∙◌, List, [], ◌∷◌, ◌++◌, None, refl, sym, ap, ap₂, subst}
use Rattle.std.specs.Prelude.{Bool, true, false}
use Rattle.js_syntax.specs.declared.node_kind.NodeKind.{NodeKind as Kind}
use Rattle.js_syntax.specs.declared.kind.FunctionKind.{FunctionKind}
use Rattle.js_syntax.specs.declared.kind.FunctionKind.TheVariants as function_kind
use Rattle.js_syntax.specs.declared.kind.VariableKind.TheVariants as variable
use Rattle.js_syntax.specs.declared.kind.ClassKind.TheVariants as class_kind
use Rattle.js_syntax.specs.Facts.{is_core}
use Rattle.js_syntax.specs.Node.{Note, Forest, nothing, node}
use Rattle.js_meaning.specs.Value.{Text, this_name}
use Rattle.js_meaning.specs.Scope.{Decl, waiting, ready, all_so, named_so, first_of, behind, declared_name, first_name, names_of, bound_names, vars_of, var_names, specifier_decls, import_decls, item_decls, lexical, receiver_decls, function_decls, decl, module_decls}
use Rattle.js_meaning_near.specs.Purpose.{Purpose, Purposes, all, purpose_here, purposes_behind, for_values, wanted_below}
use Rattle.js_meaning_near.specs.Names.{Names, no_names, Decls, Copied, declared, FillableIf}
use Rattle.js_meaning_near.specs.Near as near
use Rattle.js_meaning_near.specs.Near.{Row, fields, items, row_below, idle_statement, is_calm, hoists_nothing, Unreached, goes_here, goes_behind, goes_behind_none, Heads, is_row, Near, near_nothing, near_absent, near_node, near_closure, near_hoisted, near_uncovered, comes_to, wastes_more, one_sided, shorter, Code, near_code}
use Rattle.js_meaning_near.specs.Fit.{names_after, around_code, within_code, FunctionOk, Part, whole, others, part_of, purposes_of, NodeFits, IfCore, Fits}
use Rattle.js_meaning_near.specs.Once.{NodeStays}
use Rattle.js_meaning_near.specs.Local.{ReadsSame, Stands, for_part, for_waste, for_sides, for_sequence, Cut, node_cut, cut_behind, cut_behind_none, Local, at_place, behind_jump, leaves_list, in_below, in_rest, in_absent}
use Rattle.js_meaning_near.proofs.Fit.{same_decls, same_copied, same_node, fits_near, fit}
use Rattle.js_meaning_near.proofs.Once.{node_stays}
use Rattle.js_meaning_near.proofs.Branches.{blunt_hoists}

true_false : true ≡ false → ⊥
true_false e = cc

-- what a calm node declares lies below it

pub calm_names : (k : Kind) (l : List Text) → is_calm k ≡ true → names_of k l ≡ l
calm_names (Kind.BindingName x) l h = absurd (true_false (sym h))
calm_names (Kind.VariableDeclaration how) l h = absurd (true_false (sym h))
calm_names (Kind.Function f pure) l h = absurd (true_false (sym h))
calm_names (Kind.Class c) l h = absurd (true_false (sym h))
calm_names k l h = refl

pub calm_vars : (k : Kind) (a : Forest) (l : List Text) → is_calm k ≡ true → vars_of k a l ≡ l
calm_vars (Kind.VariableDeclaration how) a l h = absurd (true_false (sym h))
calm_vars (Kind.Function f pure) a l h = absurd (true_false (sym h))
calm_vars (Kind.Class c) a l h = absurd (true_false (sym h))
calm_vars k a l h = refl

pub calm_specifier : (source : Text) (k : Kind) (a : Forest) (l : List Decl) → is_calm k ≡ true → specifier_decls source k a l ≡ l
calm_specifier source (Kind.ImportSpecifier name) a l h = absurd (true_false (sym h))
calm_specifier source Kind.ImportDefaultSpecifier a l h = absurd (true_false (sym h))
calm_specifier source Kind.ImportNamespaceSpecifier a l h = absurd (true_false (sym h))
calm_specifier source k a l h = refl

-- what such nodes declare

items_of : (k : Kind) (a : Forest) (l : List Decl) → hoists_nothing k ≡ true → item_decls k a l ≡ []
items_of (Kind.VariableDeclaration how) a l h = absurd (true_false (sym h))
items_of (Kind.Function function_kind.Declaration pure) a l h = absurd (true_false (sym h))
items_of (Kind.Class c) a l h = absurd (true_false (sym h))
items_of (Kind.ImportDeclaration source) a l h = absurd (true_false (sym h))
items_of (Kind.ExportNamedDeclaration source) a l h = absurd (true_false (sym h))
items_of Kind.ExportDefaultDeclaration a l h = absurd (true_false (sym h))
items_of Kind.FunctionBody a l h = absurd (true_false (sym h))
items_of Kind.Statements a l h = absurd (true_false (sym h))
items_of Kind.Cases a l h = absurd (true_false (sym h))
items_of Kind.SwitchCase a l h = absurd (true_false (sym h))
items_of k a l h = refl

name_of : (k : Kind) → hoists_nothing k ≡ true → declared_name k ≡ None
name_of (Kind.BindingName x) h = absurd (true_false (sym h))
name_of k h = refl

pub old_node : {u : Purpose} {k l : Kind} {a b : Forest} → Stands u k a l b → hoists_nothing k ≡ true
old_node (for_part c) = (c no_names).old_hoists
old_node (for_waste {k = k} g c f) = blunt_hoists k (c no_names).old_blunt
old_node (for_sides g c) = refl
old_node (for_sequence c) = refl

pub new_node : {u : Purpose} {k l : Kind} {a b : Forest} → Stands u k a l b → hoists_nothing l ≡ true
new_node (for_part c) = (c no_names).new_hoists
new_node (for_waste g c f) = (c no_names).new_hoists
new_node (for_sides g c) = refl
new_node (for_sequence c) = refl

-- what stands behind a jump

cut_unreached : {r s : Forest} → Cut r s → Unreached r s
cut_unreached (node_cut h d) = goes_here h
cut_unreached (cut_behind c) = goes_behind (cut_unreached c)
cut_unreached (cut_behind_none c) = goes_behind_none (cut_unreached c)

pub cut_vars : {r s : Forest} → Cut r s → var_names r ≡ var_names s
cut_vars (node_cut {r = r} h d) = ap (λ v. v ++ var_names r) d.vars
cut_vars (cut_behind {k = k} {a = a} c) = ap (λ v. vars_of k a (var_names a) ++ v) (cut_vars c)
cut_vars (cut_behind_none c) = cut_vars c

pub cut_imports : {r s : Forest} (source : Text) → Cut r s → import_decls source r ≡ import_decls source s
cut_imports source (node_cut {r = r} h d) = ap (λ v. v ++ import_decls source r) (d.imports source)
cut_imports source (cut_behind {k = k} {a = a} c) = ap (λ v. specifier_decls source k a (import_decls source a) ++ v) (cut_imports source c)
cut_imports source (cut_behind_none c) = cut_imports source c

pub cut_lexical : {r s : Forest} → Cut r s → lexical r ≡ lexical s
cut_lexical (node_cut {k = k} {a = a} {r = r} h d) = ap (λ v. v ++ lexical r) (items_of k a (lexical a) h)
cut_lexical (cut_behind {k = k} {a = a} c) = ap (λ v. item_decls k a (lexical a) ++ v) (cut_lexical c)
cut_lexical (cut_behind_none c) = cut_lexical c

-- what stays

same_name : {us : Purposes} {t u : Forest} → Local us fields t u → first_name t ≡ first_name u
same_name (at_place {k = k} {l = l} c p) = name_of k (old_node c) ∙ sym (name_of l (new_node c))
same_name (in_below q s) = refl
same_name (in_rest s) = refl
same_name (in_absent s) = refl

vars_stay : (k : Kind) (a b : Forest) (l : List Text) → ReadsSame k a b → vars_of k a l ≡ vars_of k b l
vars_stay (Kind.VariableDeclaration variable.Var) a b l e = ap (λ v. v ++ l) e
vars_stay (Kind.VariableDeclaration variable.Let) a b l e = refl
vars_stay (Kind.VariableDeclaration variable.Const) a b l e = refl
vars_stay k a b l e = refl

same_vars : {us : Purposes} {o : Row} {t u : Forest} → Local us o t u → var_names t ≡ var_names u
same_vars (at_place {r = r} c p) = ap (λ v. v ++ var_names r) p.vars
same_vars (behind_jump {k = k} {a = a} j c) = ap (λ v. vars_of k a (var_names a) ++ v) (cut_vars c)
same_vars (leaves_list {r = r} i d) = ap (λ v. v ++ var_names r) d.vars
same_vars (in_below {k = k} {a = a} {b = b} {r = r} q s) = ap (λ v. v ++ var_names r) (ap (vars_of k a) (same_vars s) ∙ vars_stay k a b (var_names b) q)
same_vars (in_rest {k = k} {a = a} s) = ap (λ v. vars_of k a (var_names a) ++ v) (same_vars s)
same_vars (in_absent s) = same_vars s

specifier_stays : {us : Purposes} (source : Text) (k : Kind) (a b : Forest) (l : List Decl) → Local us (row_below k) a b → specifier_decls source k a l ≡ specifier_decls source k b l
specifier_stays source (Kind.ImportSpecifier name) a b l s = ap (named_so _) (same_name s)
specifier_stays source Kind.ImportDefaultSpecifier a b l s = ap (named_so _) (same_name s)
specifier_stays source Kind.ImportNamespaceSpecifier a b l s = ap (named_so _) (same_name s)
specifier_stays source k a b l s = refl

same_imports : {us : Purposes} {o : Row} {t u : Forest} (source : Text) → Local us o t u → import_decls source t ≡ import_decls source u
same_imports source (at_place {r = r} c p) = ap (λ v. v ++ import_decls source r) (p.imports source)
same_imports source (behind_jump {k = k} {a = a} j c) = ap (λ v. specifier_decls source k a (import_decls source a) ++ v) (cut_imports source c)
same_imports source (leaves_list {r = r} i d) = ap (λ v. v ++ import_decls source r) (d.imports source)
same_imports source (in_below {k = k} {a = a} {b = b} {r = r} q s) = ap (λ v. v ++ import_decls source r) (ap (specifier_decls source k a) (same_imports source s) ∙ specifier_stays source k a b (import_decls source b) s)
same_imports source (in_rest {k = k} {a = a} s) = ap (λ v. specifier_decls source k a (import_decls source a) ++ v) (same_imports source s)
same_imports source (in_absent s) = same_imports source s

items_stay : {us : Purposes} (k : Kind) (a b : Forest) (l : List Decl) → ReadsSame k a b → Local us (row_below k) a b → item_decls k a l ≡ item_decls k b l
items_stay (Kind.VariableDeclaration variable.Let) a b l q s = ap (all_so (waiting false)) q
items_stay (Kind.VariableDeclaration variable.Const) a b l q s = ap (all_so (waiting true)) q
items_stay (Kind.VariableDeclaration variable.Var) a b l q s = refl
items_stay (Kind.Function function_kind.Declaration pure) a b l q s = ap (named_so (waiting false)) (same_name s)
items_stay (Kind.Class class_kind.Declaration) a b l q s = ap (named_so (waiting false)) (same_name s)
items_stay (Kind.ImportDeclaration source) a b l q s = same_imports source s
items_stay (Kind.ExportNamedDeclaration None) a b l q s = refl
items_stay k a b l q s = refl

pub same_lexical : {us : Purposes} {o : Row} {t u : Forest} → Local us o t u → lexical t ≡ lexical u
same_lexical (at_place {k = k} {l = l} {a = a} {b = b} {r = r} c p) = ap (λ v. v ++ lexical r) (items_of k a (lexical a) (old_node c) ∙ sym (items_of l b (lexical b) (new_node c)))
same_lexical (behind_jump {k = k} {a = a} j c) = ap (λ v. item_decls k a (lexical a) ++ v) (cut_lexical c)
same_lexical (leaves_list {k = k} {a = a} {r = r} i d) = ap (λ v. v ++ lexical r) (items_of k a (lexical a) i.hoists)
same_lexical (in_below {k = k} {a = a} {b = b} {r = r} q s) = ap (λ v. v ++ lexical r) (ap (item_decls k a) (same_lexical s) ∙ items_stay k a b (lexical b) q s)
same_lexical (in_rest {k = k} {a = a} s) = ap (λ v. item_decls k a (lexical a) ++ v) (same_lexical s)
same_lexical (in_absent s) = same_lexical s

-- of the first field, and behind it

first_lexical : {us : Purposes} {t u : Forest} → Local us fields t u → lexical (first_of t) ≡ lexical (first_of u)
first_lexical (at_place {us = us} {n = n} {m = m} {r = r} c p) = same_lexical {o = fields} (at_place {us = all (purpose_here us (is_row r))} {n = n} {m = m} {r = nothing} c p)
first_lexical (in_below {us = us} {n = n} {r = r} q s) = same_lexical {o = fields} (in_below {us = all (purpose_here us (is_row r))} {n = n} {r = nothing} q s)
first_lexical (in_rest s) = refl
first_lexical (in_absent s) = refl

-- whatever is read off a row of fields that stays is read off what stands behind
behind_same : {A : Type 0} (f : Forest → A) → ((us : Purposes) (t u : Forest) → Local us fields t u → f t ≡ f u) → (us : Purposes) (t u : Forest) → Local us fields t u → f (behind t) ≡ f (behind u)
behind_same f g _ _ _ (at_place c p) = refl
behind_same f g _ _ _ (in_below q s) = refl
behind_same f g _ _ _ (in_rest s) = g _ _ _ s
behind_same f g _ _ _ (in_absent s) = g _ _ _ s

vars_both : (us : Purposes) (t u : Forest) → Local us fields t u → var_names t ≡ var_names u
vars_both us t u s = same_vars s

lexical_both : (us : Purposes) (t u : Forest) → Local us fields t u → lexical t ≡ lexical u
lexical_both us t u s = same_lexical s

code_decls : FunctionKind → List Text → List Text → List Decl → List Decl
code_decls f vs bs ds = receiver_decls f ++ all_so ready vs ++ all_so ready bs ++ ds

decls_stay : {us : Purposes} (f : FunctionKind) {t u : Forest} → bound_names (first_of (behind t)) ≡ bound_names (first_of (behind u)) → Local us fields t u → function_decls f t ≡ function_decls f u
unfolding code_decls
decls_stay {us = us} f {t} {u} q s =
    ap (λ vs. code_decls f vs (bound_names (first_of (behind t))) (lexical (behind (behind t)))) (behind_same (λ x. var_names (behind x)) (behind_same var_names vars_both) us t u s)
    ∙ ap (λ bs. code_decls f (var_names (behind (behind u))) bs (lexical (behind (behind t)))) q
    ∙ ap (λ ds. code_decls f (var_names (behind (behind u))) (bound_names (first_of (behind u))) ds) (behind_same (λ x. lexical (behind x)) (behind_same lexical lexical_both) us t u s)

declared_stay : {us : Purposes} (k : Kind) {a b : Forest} → ReadsSame k a b → Local us (row_below k) a b → declared k a ≡ declared k b
declared_stay Kind.BlockStatement q s = same_lexical s
declared_stay Kind.Cases q s = same_lexical s
declared_stay Kind.ForStatement q s = first_lexical s
declared_stay Kind.CatchClause q s = ap (all_so (waiting false)) q
declared_stay k q s = refl

-- ---- nearness

-- of such a node nothing else is asked where it stands in a field
fits_as_field : (p : Row) (st : Names) (l : Kind) (b : Forest) (core : Bool) → hoists_nothing l ≡ true → IfCore core (NodeFits p st l b (λ q r t. Fits q r t b)) → IfCore core (NodeFits fields st l b (λ q r t. Fits q r t b))
fits_as_field p st l b false h y = tt
fits_as_field p st (Kind.Function f pure) b true h y = y
fits_as_field p st Kind.Cases b true h y = absurd (true_false (sym h))
fits_as_field p st l b true h y = y

heads_stay : {us : Purposes} (k : Kind) (t : Names) (a b : Forest) → ReadsSame k a b → Local us (row_below k) a b → Heads k t a b
heads_stay Kind.ForStatement t a b q s = subst (Copied t (lexical (first_of a))) (first_lexical s) (same_copied t (lexical (first_of a)))
heads_stay Kind.ObjectExpression t a b q s = q
heads_stay k t a b q s = tt

decls_from : {ds es : List Decl} (st : Names) → ds ≡ es → Decls st ds es (names_after st es)
decls_from {ds = ds} {es = es} st e = subst (λ l. Decls st l es (names_after st es)) (sym e) (same_decls st es)

rows_stay : {us : Purposes} {t u : Forest} → Local us fields t u → is_row t ≡ is_row u
rows_stay (at_place c p) = refl
rows_stay (in_below q s) = refl
rows_stay (in_rest s) = refl
rows_stay (in_absent s) = refl

code_stays : {us : Purposes} (st : Names) (f : FunctionKind) (a b : Forest) → bound_names (first_of (behind a)) ≡ bound_names (first_of (behind b)) → Local us fields a b → FunctionOk st f b → Near for_values fields (within_code st f b) (behind a) (behind b) → Code (around_code st f b) f a b
code_stays st function_kind.Declaration a b q s y n = near_code (decls_from _ (decls_stay function_kind.Declaration q s)) y.1 (rows_stay s) n
code_stays st function_kind.Expression a b q s y n = near_code (decls_from _ (decls_stay function_kind.Expression q s)) y.1 (rows_stay s) n
code_stays st function_kind.Arrow a b q s y n = near_code (decls_from _ (decls_stay function_kind.Arrow q s)) y.1 (rows_stay s) n

inside : {us : Purposes} {p : Row} {st : Names} {n : Note} {a b r : Forest} (k : Kind) (core : Bool) → is_core k ≡ core → ReadsSame k a b → Local (wanted_below (purpose_here us (is_row r)) k) (row_below k) a b → IfCore core (NodeFits p st k b (λ q e t. Near (purposes_of q (wanted_below (purpose_here us (is_row r)) k)) e t (part_of q a) (part_of q b))) → Near (purposes_behind us) p st r r → Near us p st (node k n a r) (node k n b r)
inside k false e q s y o = near_uncovered e o
inside {st = st} {a = a} {b = b} (Kind.Function function_kind.Declaration pure) true e q s y o = near_hoisted (same_name s) (subst (FillableIf st) (sym (same_name s)) y.0.0) (code_stays st function_kind.Declaration a b q s y.0 y.1) o
inside {st = st} {a = a} {b = b} (Kind.Function function_kind.Expression pure) true e q s y o =
    near_closure tt (same_name s) (decls_from st (ap (named_so (waiting true)) (same_name s))) (subst (FillableIf (around_code st function_kind.Expression b)) (sym (same_name s)) y.0.0) (code_stays st function_kind.Expression a b q s y.0 y.1) o
inside {st = st} {a = a} {b = b} (Kind.Function function_kind.Arrow pure) true e q s y o = near_closure tt refl (same_decls st []) y.0.0 (code_stays st function_kind.Arrow a b q s y.0 y.1) o
inside {st = st} {a = a} {b = b} k true e q s y o = near_node y.0 (decls_from st (declared_stay k q s)) (heads_stay k (names_after st (declared k b)) a b q s) y.1 o

-- what lies below stays by its row; behind a function's name, by its fields
fits_with : (G : Part → Row → Names → Type 0) (p : Row) (st : Names) (k : Kind) (b : Forest) (core : Bool) → ((t : Names) → Fits whole (row_below k) t b → G whole (row_below k) t) → ((t : Names) → row_below k ≡ fields → Fits others fields t b → G others fields t)
    → IfCore core (NodeFits p st k b (λ q r t. Fits q r t b)) → IfCore core (NodeFits p st k b G)
fits_with G p st k b false g h y = tt
fits_with G p st (Kind.Function f pure) b true g h y = (y.0, h _ refl y.1)
fits_with G p st k b true g h y = (y.0, g _ y.1)

-- a place of change
stands_near : {us : Purposes} {k l : Kind} {a b : Forest} (p : Row) (st : Names) (n m : Note) (r : Forest) → Stands (purpose_here us (is_row r)) k a l b → NodeStays p st l b → Fits whole p st r → Near us p st (node k n a r) (node l m b r)
stands_near {l = l} {b = b} p st n m r (for_part c) y f =
    comes_to {i = m} {j = m} (c st) (same_node l m b (is_core l) refl (fits_near _ fields st l b (is_core l) (fits_as_field p st l b (is_core l) (c st).new_hoists y)) near_nothing) (fit whole p st r f)
stands_near {l = l} {b = b} p st n m r (for_waste {ps = ps} g c h) y f = wastes_more g (c st) (fit whole fields st ps (h st (fits_as_field p st l b (is_core l) (c st).new_hoists y))) (fit whole p st r f)
stands_near p st n m r (for_sides {b = b} g c) y f = one_sided g (c st) (fit whole fields st b y.1) (fit whole p st r f)
stands_near p st n m r (for_sequence {b = b} c) y f = shorter (c st) (fit whole fields st b y.1.0.1) (fit whole p st r f)

-- the old row is near the new one where the new one stays near itself
mutual
  pub local_near : {us : Purposes} (p : Row) (st : Names) {t u : Forest} → Local us p t u → Fits whole p st u → Near us p st t u
  local_near p st (at_place {n = n} {m = m} {r = r} c z) f = stands_near p st n m r c f.0 f.1
  local_near p st (behind_jump {k = k} {n = n} {a = a} {s = s} j c) f = near.behind_jump j (cut_unreached c) (fit whole items st (node k n a s) f)
  local_near p st (leaves_list {r = r} i d) f = near.leaves (idle_statement i) (fit whole items st r f)
  local_near p st (in_below {us = us} {k = k} {n = n} {a = a} {b = b} {r = r} q s) f =
      inside k (is_core k) refl q s (fits_with (λ q e t. Near (purposes_of q (wanted_below (purpose_here us (is_row r)) k)) e t (part_of q a) (part_of q b)) p st k b (is_core k) (λ t z. local_near (row_below k) t s z) (λ t e z. local_behind (row_below k) t s e z) f.0) (fit whole p st r f.1)
  local_near p st (in_rest {k = k} {n = n} {a = a} s) f = node_stays p st k n a f.0 (local_near p st s f.1)
  local_near p st (in_absent s) f = near_absent (local_near p st s f)

  local_behind : {us : Purposes} (p : Row) (st : Names) {t u : Forest} → Local us p t u → p ≡ fields → Fits others fields st u → Near (purposes_behind us) fields st (behind t) (behind u)
  local_behind p st (at_place {r = r} c z) e f = fit whole fields st r f
  local_behind p st (behind_jump j c) e f = cc
  local_behind p st (leaves_list i d) e f = cc
  local_behind p st (in_below {r = r} q s) e f = fit whole fields st r f
  local_behind p st (in_rest {us = us} {r = r} {s = s} x) e f = subst (λ o. Near (purposes_behind us) o st r s) e (local_near p st x (subst (λ o. Fits whole o st s) (sym e) f))
  local_behind p st (in_absent {us = us} {r = r} {s = s} x) e f = subst (λ o. Near (purposes_behind us) o st r s) e (local_near p st x (subst (λ o. Fits whole o st s) (sym e) f))

pub module_decls_stay : {us : Purposes} {o : Row} {t u : Forest} → Local us o t u → module_decls t ≡ module_decls u
module_decls_stay s = ap₂ (λ (v : List Text) (w : List Decl). decl this_name ready ∷ all_so ready v ++ w) (same_vars s) (same_lexical s)
