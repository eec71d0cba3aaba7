-- What the rules of form find declared by a statement that declares by `var` alone, they find declared by the declaration of its names.
use Rattle.std.proofs.Common.{◌≡◌, ◌∙◌, ℕ, ◌+◌, List, [], ◌∷◌, ◌++◌, Bool, true, false, refl, sym, ap, ap₂, subst}
use Rattle.std.specs.Prelude.{Some, map}
use Rattle.std.proofs.lemmas.List.{append-nil}
use Rattle.js_syntax.specs.Class.{statement}
use Rattle.js_syntax.specs.declared.node_kind.NodeKind.{NodeKind as Kind}
use Rattle.js_syntax.specs.declared.node_kind.NodeKind.TheVariants.{Statements as statements, SwitchCase as switch_case, FunctionBody as function_body, Function as function, Class as class, Declarators as declarators, VariableDeclarator as variable_declarator, VariableDeclaration as variable_declaration, Parameters as parameters, BindingName as binding_name, BindingObject as binding_object, BindingArray as binding_array, BindingProperty as binding_property, BindingDefault as binding_default, BindingRest as binding_rest, Properties as properties, Elements as elements, Specifiers as specifiers, ImportSpecifier as import_specifier, ImportDefaultSpecifier as import_default_specifier, ImportNamespaceSpecifier as import_namespace_specifier, ImportDeclaration as import_declaration, ExportNamedDeclaration as export_named_declaration, ExportDefaultDeclaration as export_default_declaration}
use Rattle.js_syntax.specs.declared.kind.VariableKind.TheVariants as variable_kind
use Rattle.js_syntax.specs.Node.{Note, Forest, nothing, node, absent, Tree, row, alone, forest_of}
use Rattle.js_syntax.proofs.Truth.{first_of_both, second_of_both}
use Rattle.js_tree.specs.Count.{one_each, node_count}
use Rattle.json_shape.specs.Shape.{Fits}
use Rattle.form_rules.specs.declared.sought.Sort.{Sort}
use Rattle.form_rules.specs.declared.sought.Sort.TheVariants.{Variable as variable}
use Rattle.form_rules.specs.declared.sought.Sought.{Sought}
use Rattle.form_rules.specs.declared.sought.Sought.TheVariants.{Nothing as none, Names as names_sought, Bound as bound, Scope as scope, Variables as variables, FunctionScope as function_scope, CatchScope as catch_scope}
use Rattle.form_rules.specs.Scope.{Declared, declared, declared_here, bound_below, variables_below, scope_below, function_below, sought_below}
use Rattle.kept_names.specs.Kept.{kept, declarator_of, declaration_of}
use Rattle.kept_names.specs.Kept as kept_names
use Rattle.steps.specs.VarNames.Texts.{texts, names, named, is_of_catch, may_keep}
use Rattle.scope_laws.proofs.Bindings.{same_value}
use Rattle.steps.proofs.VarNames.Again.{is_name_alone, is_bare_name, are_names, kept_are_names}
use Rattle.steps.proofs.VarNames.Bound.{none_declared}
use Rattle.steps.proofs.VarNames.Sought.{found_law}
use Rattle.steps.proofs.VarNames.Stands.{stands_there}

-- ---- they are variables

abbrev AllVariables : List Declared → Type 0
AllVariables [] = Unit {0}
AllVariables (d ∷ ds) = (d.sort ≡ variable) × AllVariables ds

variables_joined : (xs ys : List Declared) → AllVariables xs → AllVariables ys → AllVariables (xs ++ ys)
variables_joined [] ys h g = g
variables_joined (x ∷ xs) ys h g = (h.0, variables_joined xs ys h.1 g)

abbrev seeks_variables : Sought → Bool
seeks_variables none = true
seeks_variables (bound variable) = true
seeks_variables variables = true
seeks_variables s = false

bound_stays : (k : Kind) → seeks_variables (bound_below variable k) ≡ true
bound_stays (binding_name x) = refl
bound_stays k = refl

variables_stay : (k : Kind) → seeks_variables (variables_below k) ≡ true
variables_stay (variable_declaration variable_kind.Var) = refl
variables_stay (variable_declaration how) = refl
variables_stay k = refl

stays : (s : Sought) (k : Kind) → seeks_variables s ≡ true → seeks_variables (sought_below s k) ≡ true
stays none k h = refl
stays (bound variable) k h = bound_stays k
stays variables k h = variables_stay k
stays s k h = absurd cc

here_variables : (s : Sought) (p : ℕ) (k : Kind) → seeks_variables s ≡ true → AllVariables (declared_here s p k)
here_variables none p k h = tt
here_variables (bound variable) p (binding_name x) h = (refl, tt)
here_variables (bound variable) p k h = tt
here_variables variables p k h = tt
here_variables s p k h = absurd cc

all_variables : (s : Sought) (p : ℕ) (t : Forest) → seeks_variables s ≡ true → AllVariables (declared s p t)
all_variables s p nothing h = tt
all_variables s p (absent r) h = all_variables s p r h
all_variables s p (node k n a r) h =
    variables_joined (declared_here s p k ++ declared (sought_below s k) (p + one_each k) a) (declared s (p + node_count (alone k n a)) r)
    (variables_joined (declared_here s p k) (declared (sought_below s k) (p + one_each k) a) (here_variables s p k h) (all_variables (sought_below s k) (p + one_each k) a (stays s k h)))
    (all_variables s (p + node_count (alone k n a)) r h)

-- ---- variables of the same names

abbrev first_or : List ℕ → List (List ℕ) → List ℕ
first_or x [] = x
first_or x (y ∷ ys) = y

abbrev others : List (List ℕ) → List (List ℕ)
others [] = []
others (y ∷ ys) = ys

same_variables : (xs ys : List Declared) → names xs ≡ names ys → AllVariables xs → AllVariables ys → named xs ≡ named ys
same_variables [] [] e h g = refl
same_variables [] (y ∷ ys) e h g = absurd cc
same_variables (x ∷ xs) [] e h g = absurd cc
same_variables (x ∷ xs) (y ∷ ys) e h g = ap₂ (λ z zs. z ∷ zs) (ap₂ (λ n o. record { name = n; sort = o }) (ap (first_or []) e) (h.0 ∙ sym g.0)) (same_variables xs ys (ap others e) h.1 g.1)

-- ---- wherever the statement stands

-- in a scope, and what is sought for variables alone
abbrev seeks_statement : Sought → Bool
seeks_statement (scope f) = true
seeks_statement variables = true
seeks_statement (catch_scope f) = true
seeks_statement s = false

scope_as_variables : (f : Sort) (k : Kind) → may_keep k ≡ true → scope_below f k ≡ variables_below k
scope_as_variables f (variable_declaration variable_kind.Var) h = refl
scope_as_variables f (variable_declaration how) h = absurd cc
scope_as_variables f statements h = absurd cc
scope_as_variables f switch_case h = absurd cc
scope_as_variables f (export_named_declaration source) h = absurd cc
scope_as_variables f export_default_declaration h = absurd cc
scope_as_variables f (import_declaration source) h = absurd cc
scope_as_variables f (class how) h = absurd cc
scope_as_variables f (function how pure) h = absurd cc
scope_as_variables f k h = refl

bound_none : (f : Sort) (k : Kind) → may_keep k ≡ true → bound_below f k ≡ none
bound_none f declarators h = absurd cc
bound_none f variable_declarator h = absurd cc
bound_none f parameters h = absurd cc
bound_none f binding_object h = absurd cc
bound_none f properties h = absurd cc
bound_none f (binding_property key) h = absurd cc
bound_none f binding_array h = absurd cc
bound_none f elements h = absurd cc
bound_none f binding_default h = absurd cc
bound_none f binding_rest h = absurd cc
bound_none f specifiers h = absurd cc
bound_none f (import_specifier imported) h = absurd cc
bound_none f import_default_specifier h = absurd cc
bound_none f import_namespace_specifier h = absurd cc
bound_none f k h = refl

function_none : (k : Kind) → may_keep k ≡ true → function_below k ≡ none
function_none parameters h = absurd cc
function_none function_body h = absurd cc
function_none k h = refl

sought_none : (s : Sought) (k : Kind) → may_keep k ≡ true → seeks_statement s ≡ false → sought_below s k ≡ none
sought_none none k h e = refl
sought_none (names_sought f) k h e = refl
sought_none (bound f) k h e = bound_none f k h
sought_none function_scope k h e = function_none k h
sought_none (scope f) k h e = absurd cc
sought_none variables k h e = absurd cc
sought_none (catch_scope f) k h e = absurd cc

nothing_here : (s : Sought) (p : ℕ) (k : Kind) → may_keep k ≡ true → declared_here s p k ≡ []
nothing_here s p (binding_name x) h = absurd cc
nothing_here none p k h = refl
nothing_here (names_sought f) p k h = refl
nothing_here (bound f) p k h = refl
nothing_here (scope f) p k h = refl
nothing_here variables p k h = refl
nothing_here function_scope p k h = refl
nothing_here (catch_scope f) p k h = refl

as_variables : (f : Sort) (p : ℕ) (x : Tree) → may_keep x.kind ≡ true → declared (scope f) p (forest_of x) ≡ declared variables p (forest_of x)
as_variables f p x h = ap (λ s. (declared s (p + one_each x.kind) x.below) ++ []) (scope_as_variables f x.kind h)

as_nothing : (s : Sought) (p : ℕ) (x : Tree) → may_keep x.kind ≡ true → seeks_statement s ≡ false → declared s p (forest_of x) ≡ []
as_nothing s p x h e =
    ap₂ (λ ds es. (ds ++ es) ++ []) (nothing_here s p x.kind h) (ap (λ z. declared z (p + one_each x.kind) x.below) (sought_none s x.kind h e) ∙ none_declared (p + one_each x.kind) x.below)

module _ (x y : Tree) (kept_x : may_keep x.kind ≡ true) (kept_y : may_keep y.kind ≡ true) (same : (p q : ℕ) → names (declared variables p (forest_of x)) ≡ names (declared variables q (forest_of y))) where
  declared_alike : (s : Sought) (p q : ℕ) → is_of_catch s ≡ false → named (declared s p (forest_of x)) ≡ named (declared s q (forest_of y))
  declared_alike (scope f) p q calm =
      ap named (as_variables f p x kept_x)
      ∙ same_variables (declared variables p (forest_of x)) (declared variables q (forest_of y)) (same p q) (all_variables variables p (forest_of x) refl) (all_variables variables q (forest_of y) refl)
      ∙ sym (ap named (as_variables f q y kept_y))
  declared_alike variables p q calm = same_variables (declared variables p (forest_of x)) (declared variables q (forest_of y)) (same p q) (all_variables variables p (forest_of x) refl) (all_variables variables q (forest_of y) refl)
  declared_alike (catch_scope f) p q calm = absurd cc
  declared_alike none p q calm = ap named (as_nothing none p x kept_x refl) ∙ sym (ap named (as_nothing none q y kept_y refl))
  declared_alike (names_sought f) p q calm = ap named (as_nothing (names_sought f) p x kept_x refl) ∙ sym (ap named (as_nothing (names_sought f) q y kept_y refl))
  declared_alike (bound f) p q calm = ap named (as_nothing (bound f) p x kept_x refl) ∙ sym (ap named (as_nothing (bound f) q y kept_y refl))
  declared_alike function_scope p q calm = ap named (as_nothing function_scope p x kept_x refl) ∙ sym (ap named (as_nothing function_scope q y kept_y refl))

-- ---- what is kept of a declaration of names are they

one_kept : (t : Tree) → is_bare_name t ≡ true → kept_names.declared (row (declarator_of t ∷ [])) ≡ t ∷ []
one_kept t h = go t.kind t.note t.below h
  where
    go : (k : Kind) (n : Note) (b : Forest) → is_name_alone k b ≡ true → kept_names.declared (row (declarator_of (record { kind = k; note = n; below = b }) ∷ [])) ≡ record { kind = k; note = n; below = b } ∷ []
    go (binding_name x) n nothing h = refl
    go (binding_name x) n (absent r) h = absurd cc
    go (binding_name x) n (node j m c r) h = absurd cc
    go k n b h = absurd cc

each_kept : (ts : List Tree) → are_names ts ≡ true → kept_names.declared (row (map declarator_of ts)) ≡ ts
each_kept [] h = refl
each_kept (t ∷ ts) h = ap₂ (λ xs ys. xs ++ ys) (sym (append-nil _) ∙ one_kept t (first_of_both (is_bare_name t) (are_names ts) h)) (each_kept ts (second_of_both (is_bare_name t) (are_names ts) h))

pub kept_again : (t : Forest) → Fits statement t → kept (row (declaration_of (map declarator_of (kept t)) ∷ [])) ≡ kept t
kept_again t fits = go (kept t) (kept_are_names t fits)
  where
    go : (ts : List Tree) → are_names ts ≡ true → kept (row (declaration_of (map declarator_of ts) ∷ [])) ≡ ts
    go [] h = refl
    go (t ∷ ts) h = append-nil (kept_names.declared (row (map declarator_of (t ∷ ts))) ++ []) ∙ append-nil (kept_names.declared (row (map declarator_of (t ∷ ts)))) ∙ each_kept (t ∷ ts) h

var_kind : (ts : List Tree) (y : Tree) → declaration_of (map declarator_of ts) ≡ Some y → (may_keep y.kind ≡ true) × (row (declaration_of (map declarator_of ts) ∷ []) ≡ forest_of y)
var_kind [] y e = absurd cc
var_kind (t ∷ ts) y e = subst (λ z. (may_keep z.kind ≡ true) × (row (declaration_of (map declarator_of (t ∷ ts)) ∷ []) ≡ forest_of z)) (same_value e) (refl, refl)

pub found_alike : (x y : Tree) → may_keep x.kind ≡ true → Fits statement (forest_of x) → declaration_of (map declarator_of (kept (forest_of x))) ≡ Some y → (s : Sought) (p q : ℕ) → is_of_catch s ≡ false
    → named (declared s p (forest_of x)) ≡ named (declared s q (forest_of y))
found_alike x y kind fits is =
    let of_y = var_kind (kept (forest_of x)) y is in
    declared_alike x y kind of_y.0
    (λ p q. found_law p (forest_of x) fits ∙ sym (found_law q (forest_of y) (stands_there (forest_of x) y fits is) ∙ ap texts (ap kept (sym of_y.1) ∙ kept_again (forest_of x) fits)))
