-- What leaves by a step declares no exported name.
use Rattle.std.proofs.Common.{◌≡◌, ℕ, ◌+◌, List, [], ◌++◌, Bool, true, false, not, ◌&&◌, refl, subst, ap, ◌∙◌}
use Rattle.js_tree.specs.Count.{one_each, node_count}
use Rattle.js_syntax.specs.declared.node_kind.NodeKind.{NodeKind as Kind}
use Rattle.js_syntax.specs.declared.node_kind.NodeKind.TheVariants.{BindingName as binding_name, Function as function, VariableDeclaration as variable_declaration, Declarators as declarators, VariableDeclarator as variable_declarator, Parameters as parameters, BindingRest as binding_rest, BindingObject as binding_object, BindingArray as binding_array, BindingProperty as binding_property, BindingDefault as binding_default, Properties as properties, Elements as elements, Specifiers as specifiers, ImportSpecifier as import_specifier, ImportDefaultSpecifier as import_default_specifier, ImportNamespaceSpecifier as import_namespace_specifier}
use Rattle.js_syntax.specs.Node.{Note, Forest, nothing, node, absent, alone}
use Rattle.js_syntax.specs.declared.kind.FunctionKind.TheVariants as function_kind
use Rattle.js_syntax.specs.declared.kind.VariableKind.{VariableKind}
use Rattle.js_syntax.specs.declared.kind.VariableKind.TheVariants as variable_kind
use Rattle.form_rules.specs.declared.sought.Sort.{Sort}
use Rattle.form_rules.specs.declared.sought.Sort.TheVariants.{Lexical as lexical, Variable as variable}
use Rattle.form_rules.specs.declared.sought.Sought.{Sought}
use Rattle.form_rules.specs.declared.sought.Sought.TheVariants.{Nothing as none, Names as names, Bound as bound, Scope as scope, Variables as variables, FunctionScope as function_scope, CatchScope as catch_scope}
use Rattle.form_rules.specs.Scope.{Declared, declared, declared_here, sought_below}
use Rattle.form_rules.specs.Rules.{Exported, is_exported}
use Rattle.js_meaning.specs.Scope.{names_of, bound_names}
use Rattle.steps.specs.Names.{refers, is_among}
use Rattle.steps.specs.Steps as step
use Rattle.steps.specs.Steps.{is_used, Idle, Initialiser, no_initialiser, silent_initialiser}
use Rattle.steps.specs.KeepForm.Sheds.{exports_none}
use Rattle.steps.proofs.KeepForm.ShedNames.{none_declared}
use Rattle.steps.proofs.KeepForm.Rules.{first_empty, second_empty, both_empty}
use Rattle.steps.specs.KeepForm.Layout.{binds_none}
use Rattle.steps.proofs.KeepForm.Kept.{AllRefer, scope_of, KeptIn, Kept}
use Rattle.js_syntax.proofs.Truth.{first_of_neither}

-- ---- a name that nothing refers to is not exported

unused : (w : step.Around) (how : VariableKind) (x : List ℕ) → is_used w how x ≡ false → refers x (scope_of how w.block w.variables) ≡ false
unused w variable_kind.Var x h = first_of_neither (refers x w.variables) (is_among w.inner x) h
unused w variable_kind.Let x h = first_of_neither (refers x w.block) (is_among w.passing x) h
unused w variable_kind.Const x h = first_of_neither (refers x w.block) (is_among w.passing x) h

if_so : (a b : Bool) → (a ≡ true → b ≡ true) → b ≡ false → a ≡ false
if_so true b f h = absurd (cc (f refl, h))
if_so false b f h = refl

-- one name that is declared
name_free : (es : List Exported) (x : List ℕ) (t : Forest) → AllRefer es t → refers x t ≡ false → (not (is_exported x es) && true) ≡ true
name_free es x t all h = ap (λ b. not b && true) (if_so (is_exported x es) (refers x t) (all x) h)

-- ---- what patterns without names declare

module _ (f : Sort) where
  abbrev None : Forest → Type 0
  None t = (p : ℕ) → bound_names t ≡ [] → declared (bound f) p t ≡ []

  none_at : (k : Kind) (a : Forest) (p q : ℕ) → None a → names_of k (bound_names a) ≡ [] → declared_here (bound f) p k ++ declared (sought_below (bound f) k) q a ≡ []
  none_at (binding_name x) a p q below h = absurd cc
  none_at declarators a p q below h = below q h
  none_at variable_declarator a p q below h = below q h
  none_at parameters a p q below h = below q h
  none_at binding_object a p q below h = below q h
  none_at properties a p q below h = below q h
  none_at (binding_property key) a p q below h = below q h
  none_at binding_array a p q below h = below q h
  none_at elements a p q below h = below q h
  none_at binding_default a p q below h = below q h
  none_at binding_rest a p q below h = below q h
  none_at specifiers a p q below h = below q h
  none_at (import_specifier imported) a p q below h = below q h
  none_at import_default_specifier a p q below h = below q h
  none_at import_namespace_specifier a p q below h = below q h
  none_at k a p q below h = none_declared q a

  nameless : (t : Forest) → None t
  nameless nothing p h = refl
  nameless (absent r) p h = nameless r p h
  nameless (node k n a r) p h =
      both_empty (declared_here (bound f) p k ++ declared (sought_below (bound f) k) (p + one_each k) a) (declared (bound f) (p + node_count (alone k n a)) r)
      (none_at k a p (p + one_each k) (nameless a) (first_empty (names_of k (bound_names a)) (bound_names r) h)) (nameless r (p + node_count (alone k n a)) (second_empty (names_of k (bound_names a)) (bound_names r) h))

  pub initialiser_nameless : {ns : List (List ℕ)} {v : Forest} (p : ℕ) → Initialiser ns v → declared (bound f) p v ≡ []
  initialiser_nameless p no_initialiser = refl
  initialiser_nameless p (silent_initialiser {k = k} {n = n} {a = a} idle) = nameless (alone k n a) p idle.declares

  -- of the parts of a function behind its name
  pub parts_nameless : (p : ℕ) (t : Forest) → binds_none t ≡ true → declared (names f) p t ≡ []
  parts_nameless p nothing h = refl
  parts_nameless p (absent r) h = parts_nameless p r h
  parts_nameless p (node k n a r) h = part k n a r p h (λ q g. parts_nameless q r g)
    where
      part : (k : Kind) (n : Note) (a r : Forest) (p : ℕ) → binds_none (node k n a r) ≡ true → ((q : ℕ) → binds_none r ≡ true → declared (names f) q r ≡ []) → declared (names f) p (node k n a r) ≡ []
      part (binding_name x) n a r p h rest = absurd cc
      part k n a r p h rest = ap (λ ds. ds ++ declared (names f) (p + node_count (alone k n a)) r) (none_declared (p + one_each k) a) ∙ rest (p + node_count (alone k n a)) h

-- ---- what leaves

nothing_exported : (es : List Exported) (ds : List Declared) → ds ≡ [] → exports_none es ds ≡ true
nothing_exported es ds h = ap (exports_none es) h

pub function_free : (s : Sought) (es : List Exported) (w : step.Around) (x : List ℕ) (pure : Bool) (n m : Note) (a : Forest) → Kept s es w → is_used w variable_kind.Let x ≡ false → binds_none a ≡ true
    → exports_none es (declared s 0 (alone (function function_kind.Declaration pure) n (node (binding_name x) m nothing a))) ≡ true
function_free none es w x pure n m a kept free binds = nothing_exported es _ (none_declared 0 (alone (function function_kind.Declaration pure) n (node (binding_name x) m nothing a)))
function_free (names f) es w x pure n m a kept free binds = nothing_exported es _ (ap (λ ds. ds ++ []) (none_declared 1 (node (binding_name x) m nothing a)))
function_free (bound f) es w x pure n m a kept free binds = nothing_exported es _ (ap (λ ds. ds ++ []) (none_declared 1 (node (binding_name x) m nothing a)))
function_free (scope f) es w x pure n m a kept free binds = rw (λ (q : ℕ). parts_nameless f q a binds) (name_free es x w.block kept.0 (unused w variable_kind.Let x free))
function_free variables es w x pure n m a kept free binds = nothing_exported es _ (ap (λ ds. ds ++ []) (none_declared 1 (node (binding_name x) m nothing a)))
function_free function_scope es w x pure n m a kept free binds = absurd kept
function_free (catch_scope f) es w x pure n m a kept free binds = absurd kept

pub declarator_leaves_free : (s : Sought) (es : List Exported) (w : step.Around) (how : VariableKind) (x : List ℕ) (n m : Note) (v : Forest) → w.row ≡ step.declarators how → Kept s es w → is_used w how x ≡ false → Initialiser w.names v
    → exports_none es (declared s 0 (alone variable_declarator n (node (binding_name x) m nothing v))) ≡ true
declarator_leaves_free none es w how x n m v row kept free i = nothing_exported es _ (none_declared 0 (alone variable_declarator n (node (binding_name x) m nothing v)))
declarator_leaves_free (names f) es w how x n m v row kept free i = nothing_exported es _ (ap (λ ds. ds ++ []) (none_declared 1 (node (binding_name x) m nothing v)))
declarator_leaves_free (bound f) es w how x n m v row kept free i =
    rw (λ (q : ℕ). initialiser_nameless f q i) (name_free es x (scope_of how w.block w.variables) (subst (λ r. KeptIn r es w.block w.variables) row kept) (unused w how x free))
declarator_leaves_free (scope f) es w how x n m v row kept free i = nothing_exported es _ (ap (λ ds. ds ++ []) (none_declared 1 (node (binding_name x) m nothing v)))
declarator_leaves_free variables es w how x n m v row kept free i = nothing_exported es _ (ap (λ ds. ds ++ []) (none_declared 1 (node (binding_name x) m nothing v)))
declarator_leaves_free function_scope es w how x n m v row kept free i = absurd kept
declarator_leaves_free (catch_scope f) es w how x n m v row kept free i = absurd kept

-- a declaration of one name
abbrev pub one_declarator : (x : List ℕ) (m l j : Note) (v : Forest) → Forest
one_declarator x m l j v = alone declarators m (alone variable_declarator l (node (binding_name x) j nothing v))

one_name_free : (f : Sort) (es : List Exported) (w : step.Around) (x : List ℕ) (m l j : Note) (v t : Forest) → AllRefer es t → refers x t ≡ false → Initialiser w.names v → exports_none es (declared (bound f) 1 (one_declarator x m l j v) ++ []) ≡ true
one_name_free f es w x m l j v t all free i = rw (λ (q : ℕ). initialiser_nameless f q i) (name_free es x t all free)

pub declaration_free : (s : Sought) (es : List Exported) (w : step.Around) (how : VariableKind) (x : List ℕ) (n m l j : Note) (v : Forest) → Kept s es w → is_used w how x ≡ false → Initialiser w.names v
    → exports_none es (declared s 0 (alone (variable_declaration how) n (one_declarator x m l j v))) ≡ true
declaration_free none es w how x n m l j v kept free i = nothing_exported es _ (none_declared 0 (alone (variable_declaration how) n (one_declarator x m l j v)))
declaration_free (names f) es w how x n m l j v kept free i = nothing_exported es _ (ap (λ ds. ds ++ []) (none_declared 1 (one_declarator x m l j v)))
declaration_free (bound f) es w how x n m l j v kept free i = nothing_exported es _ (ap (λ ds. ds ++ []) (none_declared 1 (one_declarator x m l j v)))
declaration_free (scope f) es w variable_kind.Var x n m l j v kept free i = one_name_free variable es w x m l j v w.variables kept.1 (unused w variable_kind.Var x free) i
declaration_free (scope f) es w variable_kind.Let x n m l j v kept free i = one_name_free lexical es w x m l j v w.block kept.0 (unused w variable_kind.Let x free) i
declaration_free (scope f) es w variable_kind.Const x n m l j v kept free i = one_name_free lexical es w x m l j v w.block kept.0 (unused w variable_kind.Const x free) i
declaration_free variables es w variable_kind.Var x n m l j v kept free i = one_name_free variable es w x m l j v w.variables kept (unused w variable_kind.Var x free) i
declaration_free variables es w variable_kind.Let x n m l j v kept free i = nothing_exported es _ (ap (λ ds. ds ++ []) (none_declared 1 (one_declarator x m l j v)))
declaration_free variables es w variable_kind.Const x n m l j v kept free i = nothing_exported es _ (ap (λ ds. ds ++ []) (none_declared 1 (one_declarator x m l j v)))
declaration_free function_scope es w how x n m l j v kept free i = absurd kept
declaration_free (catch_scope f) es w how x n m l j v kept free i = absurd kept
