-- A name that a row doesn't declare for what stands around it stands in the row in scopes alone that declare it.
use Rattle.std.proofs.Common.{◌≡◌, ◌∙◌, ◌≤◌, ℕ, suc, List, [], ◌∷◌, ◌++◌, Bool, true, false, ◌||◌, ◌==◌, if◌then◌else◌, Option, Some, None, bytes_eq, refl, sym, ap, subst, arith, true≢false}
use Rattle.std.specs.Prelude.{codes}
use Rattle.std.proofs.lemmas.Bool.{and_parts}
use Rattle.std.proofs.lemmas.List.{append-nil}
use Rattle.js_syntax.specs.declared.node_kind.NodeKind.{NodeKind as Kind}
use Rattle.js_syntax.specs.declared.kind.VariableKind.TheVariants as variable
use Rattle.js_syntax.specs.declared.kind.FunctionKind.{FunctionKind}
use Rattle.js_syntax.specs.declared.kind.FunctionKind.TheVariants as function_kind
use Rattle.js_syntax.specs.Node.{Forest, nothing, node, absent, Note}
use Rattle.js_meaning.specs.Value.{Text}
use Rattle.js_meaning.specs.Scope.{Decl, Way, waiting, ready, linked, module_text, named_so, all_so, or_default, first_of, behind, declared_name, first_name, names_of, bound_names, vars_of, var_names, specifier_decls, import_decls, item_decls, lexical, receiver_decls, own_name, function_decls}
use Rattle.js_meaning.specs.Module.{names_in}
use Rattle.steps.specs.Names.{is_among}
use Rattle.steps.proofs.Among.{among_joined}
use Rattle.steps.specs.KeepRuns.Once.{is_first, binds_at, binds}
use Rattle.steps.specs.Naming.Placed.{Sort, a_name, the_parameters, a_declarator, the_declarators, a_declaration, an_import, the_specifiers, the_statements, a_body, the_cases, a_case, an_export, plain, Place, no_node, names, parameters, code, program_list, module_items, lists, items, declared, declaration, declarators, specifiers, cases, case_items, listed, others, sort_of, place_below, name_place, function_place, specifier_place, statements_place, fits, well_placed, has_plain_values}
use Rattle.steps.proofs.Naming.Lists.{names_joined, names_so, third, not_first, either}
use Rattle.steps.proofs.Naming.Taking.{has_items, takes_items, takes_vars, takes_names, takes_imports, items_fit, vars_fit, names_fit, imports_fit, never_fits}
use Rattle.js_syntax.proofs.Truth.{neither, first_of_neither, second_of_neither}
use Rattle.steps.proofs.Naming.Meeting.{later}
use Rattle.steps.proofs.Naming.Values.{values_below, values_behind, in_declaration}

-- ---- lists without a name

abbrev pub Lacks : Text → List Text → Type 0
Lacks x xs = is_among xs x ≡ false

pub lacks_left : (x : Text) (xs ys : List Text) → Lacks x (xs ++ ys) → Lacks x xs
lacks_left x xs ys h = first_of_neither (is_among xs x) (is_among ys x) (sym (among_joined xs ys x) ∙ h)

pub lacks_right : (x : Text) (xs ys : List Text) → Lacks x (xs ++ ys) → Lacks x ys
lacks_right x xs ys h = second_of_neither (is_among xs x) (is_among ys x) (sym (among_joined xs ys x) ∙ h)

pub undeclared_left : (x : Text) (ds es : List Decl) → Lacks x (names_in (ds ++ es)) → Lacks x (names_in ds)
undeclared_left x ds es h = lacks_left x (names_in ds) (names_in es) (ap (λ xs. is_among xs x) (sym (names_joined ds es)) ∙ h)

pub undeclared_right : (x : Text) (ds es : List Decl) → Lacks x (names_in (ds ++ es)) → Lacks x (names_in es)
undeclared_right x ds es h = lacks_right x (names_in ds) (names_in es) (ap (λ xs. is_among xs x) (sym (names_joined ds es)) ∙ h)

pub undeclared_so : (x : Text) (way : Way) (xs : List Text) → Lacks x (names_in (all_so way xs)) → Lacks x xs
undeclared_so x way xs h = ap (λ ys. is_among ys x) (sym (names_so way xs)) ∙ h

undeclared_default : (x : Text) (ds : List Decl) → Lacks x (names_in (or_default ds)) → Lacks x (names_in ds)
undeclared_default x [] h = refl
undeclared_default x (d ∷ ds) h = h

first_lacks : (x : Text) (way : Way) (o : Option Text) → Lacks x (names_in (named_so way o)) → is_first x o ≡ false
first_lacks x way None h = refl
first_lacks x way (Some y) h = first_of_neither (bytes_eq y x) false h

-- ---- what a node declares for what stands around it, by its place

abbrev pub asks_items : Place → Bool
asks_items cases = false
asks_items p = takes_items p

asked_items : (p : Place) (s : Sort) → fits p s ≡ true → has_items s ≡ true → fits cases s ≡ false → asks_items p ≡ true
asked_items cases s f h n = absurd (true≢false (sym f ∙ n))
asked_items p s f h n = items_fit p s f h

pub record NodeLacks (x : Text) (p : Place) (k : Kind) (a : Forest) : Type 0 where
  pub by_items : asks_items p ≡ true → Lacks x (names_in (item_decls k a (lexical a)))
  pub by_variables : takes_vars p ≡ true → Lacks x (vars_of k a (var_names a))
  pub by_names : takes_names p ≡ true → Lacks x (names_of k (bound_names a))
  pub by_imports : takes_imports p ≡ true → (source : Text) × Lacks x (names_in (specifier_decls source k a (import_decls source a)))

pub record RowLacks (x : Text) (p : Place) (t : Forest) : Type 0 where
  pub by_items : asks_items p ≡ true → Lacks x (names_in (lexical t))
  pub by_variables : takes_vars p ≡ true → Lacks x (var_names t)
  pub by_names : takes_names p ≡ true → Lacks x (bound_names t)
  pub by_imports : takes_imports p ≡ true → (source : Text) × Lacks x (names_in (import_decls source t))

abbrev pub Free : (x : Text) (places : ℕ → Place) (at : ℕ) → Forest → Type 0
Free x places at nothing = Unit {0}
Free x places at (absent r) = Free x places (suc at) r
Free x places at (node k n a r) = NodeLacks x (places at) k a × Free x places (suc at) r

first_node : (x : Text) (p : Place) (k : Kind) (n : Note) (a r : Forest) → RowLacks x p (node k n a r) → NodeLacks x p k a
first_node x p k n a r h = record {
  by_items = λ e. undeclared_left x (item_decls k a (lexical a)) (lexical r) (h.by_items e);
  by_variables = λ e. lacks_left x (vars_of k a (var_names a)) (var_names r) (h.by_variables e);
  by_names = λ e. lacks_left x (names_of k (bound_names a)) (bound_names r) (h.by_names e);
  by_imports = λ e. let i = h.by_imports e in (i.0, undeclared_left x (specifier_decls i.0 k a (import_decls i.0 a)) (import_decls i.0 r) i.1);
}

rest_of_row : (x : Text) (p : Place) (k : Kind) (n : Note) (a r : Forest) → RowLacks x p (node k n a r) → RowLacks x p r
rest_of_row x p k n a r h = record {
  by_items = λ e. undeclared_right x (item_decls k a (lexical a)) (lexical r) (h.by_items e);
  by_variables = λ e. lacks_right x (vars_of k a (var_names a)) (var_names r) (h.by_variables e);
  by_names = λ e. lacks_right x (names_of k (bound_names a)) (bound_names r) (h.by_names e);
  by_imports = λ e. let i = h.by_imports e in (i.0, undeclared_right x (specifier_decls i.0 k a (import_decls i.0 a)) (import_decls i.0 r) i.1);
}

behind_absent : (x : Text) (p : Place) (r : Forest) → RowLacks x p (absent r) → RowLacks x p r
behind_absent x p r h = record { by_items = h.by_items; by_variables = h.by_variables; by_names = h.by_names; by_imports = h.by_imports }

pub row_free : (x : Text) (places : ℕ → Place) (at : ℕ) (t : Forest) → ((i : ℕ) → at ≤ i → RowLacks x (places i) t) → Free x places at t
row_free x places at nothing h = tt
row_free x places at (absent r) h = row_free x places (suc at) r (λ i l. behind_absent x (places i) r (h i (later at i l)))
row_free x places at (node k n a r) h = (first_node x (places at) k n a r (h at (Prim.omega arith)), row_free x places (suc at) r (λ i l. rest_of_row x (places i) k n a r (h i (later at i l))))

first_free : (x : Text) (places : ℕ → Place) (t : Forest) → RowLacks x (places 0) (first_of t) → Free x places 1 (behind t) → Free x places 0 t
first_free x places nothing h g = tt
first_free x places (absent r) h g = g
first_free x places (node k n a r) h g = (first_node x (places 0) k n a nothing h, g)

-- ---- rows by what their places take

never_so : {A : Type 0} → false ≡ true → A
never_so e = absurd (true≢false (sym e))

not_so : {A : Type 0} (b : Bool) → b ≡ false → b ≡ true → A
not_so b e f = absurd (true≢false (sym f ∙ e))

empty_place : (x : Text) (t : Forest) → RowLacks x no_node t
empty_place x t = record { by_items = λ e. never_so e; by_variables = λ e. never_so e; by_names = λ e. never_so e; by_imports = λ e. never_so e }

names_place : (x : Text) (t : Forest) → Lacks x (bound_names t) → RowLacks x names t
names_place x t h = record { by_items = λ e. never_so e; by_variables = λ e. never_so e; by_names = λ e. h; by_imports = λ e. never_so e }

variables_place : (x : Text) (p : Place) (t : Forest) → asks_items p ≡ false → takes_names p ≡ false → takes_imports p ≡ false → Lacks x (var_names t) → RowLacks x p t
variables_place x p t i n m h = record { by_items = λ e. not_so (asks_items p) i e; by_variables = λ e. h; by_names = λ e. not_so (takes_names p) n e; by_imports = λ e. not_so (takes_imports p) m e }

pub items_place : (x : Text) (p : Place) (t : Forest) → takes_names p ≡ false → takes_imports p ≡ false → Lacks x (names_in (lexical t)) → Lacks x (var_names t) → RowLacks x p t
items_place x p t n m g h = record { by_items = λ e. g; by_variables = λ e. h; by_names = λ e. not_so (takes_names p) n e; by_imports = λ e. not_so (takes_imports p) m e }

declares_place : (x : Text) (p : Place) (t : Forest) → asks_items p ≡ false → takes_imports p ≡ false → Lacks x (bound_names t) → Lacks x (var_names t) → RowLacks x p t
declares_place x p t i m g h = record { by_items = λ e. not_so (asks_items p) i e; by_variables = λ e. h; by_names = λ e. g; by_imports = λ e. not_so (takes_imports p) m e }

-- ---- names that stand first in a row

name_alone : (x : Text) (k : Kind) (a : Forest) → fits names (sort_of k) ≡ true → is_first x (declared_name k) ≡ false → Lacks x (names_of k (bound_names a))
name_alone x (Kind.BindingName y) a f h = ap (λ (b : Bool). b || false) h
name_alone x (Kind.VariableDeclaration variable.Var) a f h = never_so f
name_alone x (Kind.VariableDeclaration variable.Let) a f h = never_so f
name_alone x (Kind.VariableDeclaration variable.Const) a f h = never_so f
name_alone x (Kind.Function function_kind.Declaration pure) a f h = never_so f
name_alone x (Kind.Function function_kind.Expression pure) a f h = never_so f
name_alone x (Kind.Function function_kind.Arrow pure) a f h = never_so f
name_alone x k a f h = never_so f

name_node : (x : Text) (k : Kind) (a : Forest) → fits names (sort_of k) ≡ true → is_first x (declared_name k) ≡ false → NodeLacks x names k a
name_node x k a f h = record { by_items = λ e. never_so e; by_variables = λ e. never_so e; by_names = λ e. name_alone x k a f h; by_imports = λ e. never_so e }

no_name_node : (x : Text) (k : Kind) (a : Forest) → NodeLacks x no_node k a
no_name_node x k a = record { by_items = λ e. never_so e; by_variables = λ e. never_so e; by_names = λ e. never_so e; by_imports = λ e. never_so e }

-- of an import, whose own name stands first, and nothing behind it
abbrev one_name : ℕ → Place
one_name at = if at == 0 then names else no_node

nothing_behind : (x : Text) (r : Forest) → Free x one_name 1 r
nothing_behind x r = row_free x one_name 1 r (λ i l. subst (λ p. RowLacks x p r) (sym (not_first i names no_node l)) (empty_place x r))

imported_name : (x : Text) (a : Forest) → well_placed one_name 0 a ≡ true → is_first x (first_name a) ≡ false → Free x one_name 0 a
imported_name x nothing w h = tt
imported_name x (absent r) w h = nothing_behind x r
imported_name x (node k n a r) w h = (name_node x k a (and_parts (fits names (sort_of k)) _ w).0 h, nothing_behind x r)

-- of a function: its name, its parameters, its body
pub record CodeLacks (x : Text) (c : Forest) : Type 0 where
  pub of_parameters : Lacks x (bound_names (first_of c))
  pub of_variables : Lacks x (var_names (behind c))
  pub of_items : Lacks x (names_in (lexical (behind c)))

pub code_lacks : (x : Text) (f : FunctionKind) (a : Forest) → Lacks x (names_in (function_decls f a)) → CodeLacks x (behind a)
code_lacks x f a h =
    let rs : List Decl = receiver_decls f in
    let vs : List Decl = all_so ready (var_names (behind (behind a))) in
    let ps : List Decl = all_so ready (bound_names (first_of (behind a))) in
    let ls : List Decl = lexical (behind (behind a)) in
    let g : Lacks x (names_in (rs ++ vs ++ ps)) = undeclared_left x (rs ++ vs ++ ps) ls h in
    record {
      of_parameters = undeclared_so x ready (bound_names (first_of (behind a))) (undeclared_right x (rs ++ vs) ps g);
      of_variables = undeclared_so x ready (var_names (behind (behind a))) (undeclared_right x rs vs (undeclared_left x (rs ++ vs) ps g));
      of_items = undeclared_right x (rs ++ vs ++ ps) ls h;
    }

body_free : (x : Text) (f : FunctionKind) (t : Forest) → Lacks x (var_names t) → Lacks x (names_in (lexical t)) → Free x (function_place f) 2 t
body_free x f t v l = row_free x (function_place f) 2 t (λ i m. subst (λ p. RowLacks x p t) (sym (third i (name_place f) parameters code m)) (items_place x code t refl refl l v))

parameters_node : (x : Text) (k : Kind) (n : Note) (a : Forest) → Lacks x (bound_names (node k n a nothing)) → NodeLacks x parameters k a
parameters_node x k n a h = record { by_items = λ e. never_so e; by_variables = λ e. never_so e; by_names = λ e. lacks_left x (names_of k (bound_names a)) [] h; by_imports = λ e. never_so e }

code_row : (x : Text) (f : FunctionKind) (c : Forest) → CodeLacks x c → Free x (function_place f) 1 c
code_row x f nothing h = tt
code_row x f (absent r) h = body_free x f r h.of_variables h.of_items
code_row x f (node k n a r) h = (parameters_node x k n a h.of_parameters, body_free x f r h.of_variables h.of_items)

pub code_free : (x : Text) (f : FunctionKind) (a : Forest) → Lacks x (names_in (function_decls f a)) → Free x (function_place f) 1 (behind a)
code_free x f a h = code_row x f (behind a) (code_lacks x f a h)

function_name : (x : Text) (f : FunctionKind) (k : Kind) (a : Forest) → fits (name_place f) (sort_of k) ≡ true → (takes_names (name_place f) ≡ true → is_first x (declared_name k) ≡ false) → NodeLacks x (name_place f) k a
function_name x function_kind.Arrow k a f h = no_name_node x k a
function_name x function_kind.Declaration k a f h = name_node x k a f (h refl)
function_name x function_kind.Expression k a f h = name_node x k a f (h refl)

function_free : (x : Text) (f : FunctionKind) (a : Forest) → well_placed (function_place f) 0 a ≡ true → (takes_names (name_place f) ≡ true → is_first x (first_name a) ≡ false) → Lacks x (names_in (function_decls f a)) → Free x (function_place f) 0 a
function_free x f nothing w h g = tt
function_free x f (absent r) w h g = code_free x f (absent r) g
function_free x f (node k n a r) w h g = (function_name x f k a (and_parts (fits (name_place f) (sort_of k)) _ w).0 h, code_free x f (node k n a r) g)

-- ---- nodes

hidden : (b inner : Bool) → (b ≡ false → inner ≡ false) → (if b then false else inner) ≡ false
hidden true inner h = refl
hidden false inner h = h refl

specifiers_row : (x : Text) (p : Place) (a : Forest) → fits p the_specifiers ≡ true → NodeLacks x p Kind.Specifiers a → RowLacks x (specifier_place p) a
specifiers_row x specifiers a f h = record { by_items = λ e. never_so e; by_variables = λ e. h.by_variables refl; by_names = λ e. never_so e; by_imports = λ e. h.by_imports refl }
specifiers_row x p a f h = variables_place x others a refl refl refl (h.by_variables (vars_fit p the_specifiers f refl))

statements_row : (x : Text) (p : Place) (a : Forest) → Lacks x (names_in (lexical a)) → Lacks x (var_names a) → RowLacks x (statements_place p) a
statements_row x program_list a g h = items_place x module_items a refl refl g h
statements_row x p a g h = items_place x items a refl refl g h

others_row : (x : Text) (a : Forest) → Lacks x (var_names a) → RowLacks x others a
others_row x a h = variables_place x others a refl refl refl h

-- what stands behind a first node that declares
variables_behind : (x : Text) (a : Forest) → Lacks x (var_names a) → Lacks x (var_names (behind a))
variables_behind x nothing h = h
variables_behind x (absent r) h = h
variables_behind x (node k n a r) h = lacks_right x (vars_of k a (var_names a)) (var_names r) h

variables_first : (x : Text) (a : Forest) → Lacks x (var_names a) → Lacks x (var_names (first_of a))
variables_first x nothing h = h
variables_first x (absent r) h = refl
variables_first x (node k n a r) h = ap (λ xs. is_among xs x) (append-nil (vars_of k a (var_names a))) ∙ lacks_left x (vars_of k a (var_names a)) (var_names r) h

others_behind : (x : Text) (p : Place) (a : Forest) → Lacks x (var_names a) → Free x (λ at. if at == 0 then p else others) 1 (behind a)
others_behind x p a h = row_free x (λ at. if at == 0 then p else others) 1 (behind a) (λ i l. subst (λ q. RowLacks x q (behind a)) (sym (not_first i p others l)) (others_row x (behind a) (variables_behind x a h)))

function_binds : (x : Text) (p : Place) (f : FunctionKind) (pure : Bool) (a : Forest) → fits p (sort_of (Kind.Function f pure)) ≡ true → well_placed (function_place f) 0 a ≡ true → NodeLacks x p (Kind.Function f pure) a
    → (Free x (function_place f) 0 a → binds x a ≡ false) → binds_at x (Kind.Function f pure) a (binds x a) ≡ false
function_binds x p function_kind.Declaration pure a f w l h =
    let e : is_first x (first_name a) ≡ false = first_lacks x (waiting false) (first_name a) (l.by_items (asked_items p a_declaration f refl refl)) in
    neither (is_first x (first_name a)) _ e (hidden _ (binds x a) (λ g. h (function_free x function_kind.Declaration a w (λ t. e) g)))
function_binds x p function_kind.Expression pure a f w l h =
    let own : List Text = names_in (named_so (waiting true) (own_name function_kind.Expression a)) in
    let decls : List Text = names_in (function_decls function_kind.Expression a) in
    hidden _ (binds x a) (λ g. h (function_free x function_kind.Expression a w (λ t. first_lacks x (waiting true) (first_name a) (lacks_left x own decls g)) (lacks_right x own decls g)))
function_binds x p function_kind.Arrow pure a f w l h = hidden _ (binds x a) (λ g. h (function_free x function_kind.Arrow a w (λ t. never_so t) g))

declaration_row : (x : Text) (a : Forest) → Lacks x (bound_names a) → Lacks x (var_names a) → RowLacks x declaration a
declaration_row x a g h = declares_place x declaration a refl refl g h

-- a declaration that declares no name by `var`
without_variables : (x : Text) (a : Forest) → well_placed (λ i. declaration) 0 a ≡ true → has_plain_values a ≡ true → Lacks x (var_names a)
without_variables x a w v = ap (λ xs. is_among xs x) (in_declaration 0 a w v)

node_binds : (x : Text) (p : Place) (k : Kind) (a : Forest) → fits p (sort_of k) ≡ true → well_placed (place_below p k) 0 a ≡ true → has_plain_values a ≡ true → NodeLacks x p k a → (Free x (place_below p k) 0 a → binds x a ≡ false) → binds_at x k a (binds x a) ≡ false
node_binds x p (Kind.BindingName y) a f w u l h = neither (bytes_eq y x) (binds x a) (first_of_neither (bytes_eq y x) false (l.by_names (names_fit p a_name f refl))) (h (row_free x (λ i. no_node) 0 a (λ i m. empty_place x a)))
node_binds x p Kind.Parameters a f w u l h = h (row_free x (λ i. names) 0 a (λ i m. names_place x a (l.by_names (names_fit p the_parameters f refl))))
node_binds x p Kind.VariableDeclarator a f w u l h =
    let v : Lacks x (var_names a) = l.by_variables (vars_fit p a_declarator f refl) in
    h (row_free x (λ at. if at == 0 then names else others) 0 a (λ i m. either (λ q. RowLacks x q a) (i == 0) names others (names_place x a (l.by_names (names_fit p a_declarator f refl))) (others_row x a v)))
node_binds x p Kind.Declarators a f w u l h = h (row_free x (λ i. declarators) 0 a (λ i m. declares_place x declarators a refl refl (l.by_names (names_fit p the_declarators f refl)) (l.by_variables (vars_fit p the_declarators f refl))))
node_binds x p (Kind.VariableDeclaration variable.Var) a f w u l h =
    let g : Lacks x (bound_names a ++ var_names a) = l.by_variables (vars_fit p plain f refl) in
    h (row_free x (λ i. declaration) 0 a (λ i m. declaration_row x a (lacks_left x (bound_names a) (var_names a) g) (lacks_right x (bound_names a) (var_names a) g)))
node_binds x p (Kind.VariableDeclaration variable.Let) a f w u l h =
    h (row_free x (λ i. declaration) 0 a (λ i m. declaration_row x a (undeclared_so x (waiting false) (bound_names a) (l.by_items (asked_items p a_declaration f refl refl))) (without_variables x a w u)))
node_binds x p (Kind.VariableDeclaration variable.Const) a f w u l h =
    h (row_free x (λ i. declaration) 0 a (λ i m. declaration_row x a (undeclared_so x (waiting true) (bound_names a) (l.by_items (asked_items p a_declaration f refl refl))) (without_variables x a w u)))
node_binds x p (Kind.Function how pure) a f w u l h = function_binds x p how pure a f w l h
node_binds x p Kind.CatchClause a f w u l h =
    hidden _ (binds x a) (λ g. h (first_free x (λ at. if at == 0 then names else others) a (names_place x (first_of a) g) (others_behind x names a (l.by_variables (vars_fit p plain f refl)))))
node_binds x p Kind.ForStatement a f w u l h =
    let v : Lacks x (var_names a) = l.by_variables (vars_fit p plain f refl) in
    hidden _ (binds x a) (λ g. h (first_free x (λ at. if at == 0 then declared else others) a (items_place x declared (first_of a) refl refl g (variables_first x a v)) (others_behind x declared a v)))
node_binds x p Kind.SwitchStatement a f w u l h =
    let v : Lacks x (var_names a) = l.by_variables (vars_fit p plain f refl) in
    h (row_free x (λ at. if at == 1 then cases else others) 0 a (λ i m. either (λ q. RowLacks x q a) (i == 1) cases others (variables_place x cases a refl refl refl v) (others_row x a v)))
node_binds x p Kind.Cases a f w u l h = hidden _ (binds x a) (λ g. h (row_free x (λ i. case_items) 0 a (λ i m. items_place x case_items a refl refl g (l.by_variables (vars_fit p the_cases f refl)))))
node_binds x p Kind.BlockStatement a f w u l h = hidden _ (binds x a) (λ g. h (row_free x (λ i. lists) 0 a (λ i m. items_place x lists a refl refl g (l.by_variables (vars_fit p plain f refl)))))
node_binds x p Kind.SwitchCase a f w u l h = h (row_free x (λ i. lists) 0 a (λ i m. items_place x lists a refl refl (l.by_items (asked_items p a_case f refl refl)) (l.by_variables (vars_fit p a_case f refl))))
node_binds x p Kind.FunctionBody a f w u l h = h (row_free x (λ i. lists) 0 a (λ i m. items_place x lists a refl refl (l.by_items (asked_items p a_body f refl refl)) (l.by_variables (vars_fit p a_body f refl))))
node_binds x p Kind.Statements a f w u l h = h (row_free x (λ i. statements_place p) 0 a (λ i m. statements_row x p a (l.by_items (asked_items p the_statements f refl refl)) (l.by_variables (vars_fit p the_statements f refl))))
node_binds x p (Kind.ExportNamedDeclaration None) a f w u l h = h (row_free x (λ i. declared) 0 a (λ i m. items_place x declared a refl refl (l.by_items (asked_items p an_export f refl refl)) (l.by_variables (vars_fit p an_export f refl))))
node_binds x p (Kind.ExportNamedDeclaration (Some source)) a f w u l h = h (row_free x (λ i. listed) 0 a (λ i m. variables_place x listed a refl refl refl (l.by_variables (vars_fit p an_export f refl))))
node_binds x p Kind.ExportDefaultDeclaration a f w u l h =
    h (row_free x (λ i. declared) 0 a (λ i m. items_place x declared a refl refl (undeclared_default x (lexical a) (l.by_items (asked_items p an_export f refl refl))) (l.by_variables (vars_fit p an_export f refl))))
node_binds x p (Kind.ImportDeclaration source) a f w u l h =
    h (row_free x (λ i. specifiers) 0 a (λ i m. record { by_items = λ e. never_so e; by_variables = λ e. l.by_variables (vars_fit p an_import f refl); by_names = λ e. never_so e; by_imports = λ e. (source, l.by_items (asked_items p an_import f refl refl)) }))
node_binds x p (Kind.ImportSpecifier name) a f w u l h = let i = l.by_imports (imports_fit p f) in h (imported_name x a w (first_lacks x (linked i.0 (module_text name)) (first_name a) i.1))
node_binds x p Kind.ImportDefaultSpecifier a f w u l h = let i = l.by_imports (imports_fit p f) in h (imported_name x a w (first_lacks x (linked i.0 (codes "default")) (first_name a) i.1))
node_binds x p Kind.ImportNamespaceSpecifier a f w u l h = let i = l.by_imports (imports_fit p f) in h (imported_name x a w (first_lacks x (linked i.0 (codes "*")) (first_name a) i.1))
node_binds x p Kind.Specifiers a f w u l h = h (row_free x (λ i. specifier_place p) 0 a (λ i m. specifiers_row x p a f l))
node_binds x p (Kind.Program source) a f w u l h = absurd (never_fits p f)
node_binds x p (Kind.Class how) a f w u l h = absurd (never_fits p f)
node_binds x p (Kind.PropertyDefinition is_static key) a f w u l h = absurd (never_fits p f)
node_binds x p Kind.StaticBlock a f w u l h = absurd (never_fits p f)
node_binds x p Kind.WithStatement a f w u l h = absurd (never_fits p f)
node_binds x p Kind.ForInStatement a f w u l h = absurd (never_fits p f)
node_binds x p Kind.ForOfStatement a f w u l h = absurd (never_fits p f)
node_binds x p k a f w u l h = h (row_free x (λ i. others) 0 a (λ i m. others_row x a (l.by_variables (vars_fit p plain f refl))))

-- ---- rows

pub row_binds : (x : Text) (places : ℕ → Place) (at : ℕ) (t : Forest) → well_placed places at t ≡ true → has_plain_values t ≡ true → Free x places at t → binds x t ≡ false
row_binds x places at nothing w v h = refl
row_binds x places at (absent r) w v h = row_binds x places (suc at) r w v h
row_binds x places at (node k n a r) w v h =
    let e = and_parts (fits (places at) (sort_of k)) _ w in
    let i = and_parts (well_placed (place_below (places at) k) 0 a) _ e.1 in
    let inner = values_below k n a r v in
    neither (binds_at x k a (binds x a)) (binds x r) (node_binds x (places at) k a e.0 i.0 inner h.0 (λ g. row_binds x (place_below (places at) k) 0 a i.0 inner g)) (row_binds x places (suc at) r i.1 (values_behind k n a r v) h.1)
