-- What is declared below a node is declared in its scope, which its entry declares, or by the node itself.
use Rattle.std.proofs.Common.{List, [], ◌∷◌, ◌≡◌, ◌∙◌, ◌⊎◌, ◌≤◌, inl, inr, ℕ, Bool, true, false, ◌++◌, ◌||◌, if◌then◌else◌, ◌==◌, Some, None, refl, sym, ap, true≢false}
use Rattle.std.proofs.lemmas.Bool.{and_parts}
use Rattle.js_syntax.specs.declared.node_kind.NodeKind.{NodeKind as Kind}
use Rattle.js_syntax.specs.Node.{Forest, nothing, node, absent, Note}
use Rattle.js_syntax.specs.declared.kind.VariableKind.TheVariants as variable
use Rattle.js_syntax.specs.declared.kind.FunctionKind.{FunctionKind}
use Rattle.js_syntax.specs.declared.kind.FunctionKind.TheVariants as function_kind
use Rattle.js_meaning.specs.Value.{Text}
use Rattle.js_meaning.specs.Scope.{Decl, or_default, Way, waiting, ready, named_so, all_so, first_of, behind, declared_name, first_name, names_of, bound_names, vars_of, var_names, specifier_decls, import_decls, item_decls, lexical, receiver_decls, function_decls, own_name}
use Rattle.js_meaning.specs.Module.{names_in}
use Rattle.steps.specs.Names.{is_among, names_declared}
use Rattle.form_rules.specs.Context.{is_strict_function}
use Rattle.scope_rules.specs.declared.layer.Layer.{Layer}
use Rattle.scope_rules.specs.Context.{Context, opens, inside, body_of, parameters_of, own_name_of, in_block, below_it, declares, at_function_name, at_parameters, in_function}
use Rattle.scope_rules.specs.Site.{BindingSite}
use Rattle.steps.specs.Naming.Placed.{the_parameters, a_declarator, the_declarators, a_declaration, an_import, the_specifiers, plain, Place, no_node, names, parameters, code, program_list, lists, declared, declaration, specifiers, imports, cases, listed, others, never, sort_of, place_below, name_place, function_place, specifier_place, statements_place, fits, well_placed, has_plain_values}
use Rattle.steps.specs.Naming.Agreeing.{names_of_scope}
use Rattle.steps.proofs.Naming.Lists.{in_left, in_right, declared_left, declared_right, declared_so, third, not_second, not_first, either}
use Rattle.steps.proofs.Naming.Taking.{has_items, has_vars, takes_items, takes_vars, takes_names, takes_imports, items_fit, vars_fit, names_fit, imports_fit, never_fits, keeps, kept}
use Rattle.steps.proofs.Naming.Values.{in_declaration}
use Rattle.steps.proofs.Naming.Meeting.{Here, in_block as here_in_block, in_variables as here_in_variables, as_declared as here_as_declared, as_imported as here_as_imported, Meets, Same, Gathered, of_block, of_variables, of_declared, of_imported, gather}

pub data Seen (p : Place) (c : Context) (next : ℕ) (k : Kind) (a : Forest) (b : BindingSite) : Type 0 where
  in_scope : opens k a ≡ true → b.layer.scope ≡ next → is_among (names_of_scope k a) b.name ≡ true → Seen p c next k a b
  around : Here p c k a b → Seen p c next k a b

-- a place that is another takes as much
no : {X : Type 0} (f : Place → Bool) (p q : Place) → p ≡ q → f q ≡ false → f p ≡ true → X
no f p q e n t = absurd (true≢false (sym t ∙ ap f e ∙ n))

scope_is : (l m : Layer) → l ≡ m → l.scope ≡ m.scope
scope_is l m e = ap (λ (x : Layer). x.scope) e

same_kept : (c : Context) (next : ℕ) (k : Kind) (a : Forest) → keeps k ≡ true → Same (inside c next k a) 0 c.block c.variables c.declaring.layer
same_kept c next k a e = record {
  in_block = λ i h. (kept c next k a i e).block;
  in_variables = λ i h. (kept c next k a i e).variables;
  as_declared = λ i h. (kept c next k a i e).declares;
}

-- ---- nodes that make no scope

-- what takes no declarations below it, but those of `var`
seen_others : (q : Place) → takes_items q ≡ false → takes_names q ≡ false → takes_imports q ≡ false → (p : Place) (c : Context) (next : ℕ) (k : Kind) (a : Forest) (b : BindingSite) → keeps k ≡ true → has_vars (sort_of k) ≡ true → fits p (sort_of k) ≡ true
    → ((i : ℕ) → place_below p k i ≡ q) → vars_of k a (var_names a) ≡ var_names a → Meets (place_below p k) (inside c next k a) 0 a b → Seen p c next k a b
seen_others q no_items no_names no_imports p c next k a b keeps_it has f places vars h = by (gather (place_below p k) (inside c next k a) 0 c.block c.variables c.declaring.layer a b (same_kept c next k a keeps_it) h)
  where
    by : Gathered (place_below p k) 0 c.block c.variables c.declaring.layer a b → Seen p c next k a b
    by (of_block i l t e g) = no takes_items (place_below p k i) q (places i) no_items t
    by (of_variables i l t e g) = around (here_in_variables (vars_fit p (sort_of k) f has) e (ap (λ xs. is_among xs b.name) vars ∙ g))
    by (of_declared i l t e g) = no takes_names (place_below p k i) q (places i) no_names t
    by (of_imported i l t e g) = no takes_imports (place_below p k i) q (places i) no_imports t

-- lists of items, and what stands in such lists for those below it
seen_list : (p : Place) (c : Context) (next : ℕ) (k : Kind) (a : Forest) (b : BindingSite) → keeps k ≡ true → has_items (sort_of k) ≡ true → has_vars (sort_of k) ≡ true → fits p (sort_of k) ≡ true
    → ((i : ℕ) → takes_names (place_below p k i) ≡ false) → ((i : ℕ) → takes_imports (place_below p k i) ≡ false)
    → (is_among (names_in (lexical a)) b.name ≡ true → is_among (names_in (item_decls k a (lexical a))) b.name ≡ true) → vars_of k a (var_names a) ≡ var_names a
    → Meets (place_below p k) (inside c next k a) 0 a b → Seen p c next k a b
seen_list p c next k a b keeps_it its has f no_names no_imports below vars h = by (gather (place_below p k) (inside c next k a) 0 c.block c.variables c.declaring.layer a b (same_kept c next k a keeps_it) h)
  where
    by : Gathered (place_below p k) 0 c.block c.variables c.declaring.layer a b → Seen p c next k a b
    by (of_block i l t e g) = around (here_in_block (items_fit p (sort_of k) f its) e (below g))
    by (of_variables i l t e g) = around (here_in_variables (vars_fit p (sort_of k) f has) e (ap (λ xs. is_among xs b.name) vars ∙ g))
    by (of_declared i l t e g) = absurd (true≢false (sym t ∙ no_names i))
    by (of_imported i l t e g) = absurd (true≢false (sym t ∙ no_imports i))

-- the parts of a declaration
seen_part : (p : Place) (c : Context) (next : ℕ) (k : Kind) (a : Forest) (b : BindingSite) → keeps k ≡ true → takes_names p ≡ true → (takes_vars p ≡ true ⊎ ((i : ℕ) → takes_vars (place_below p k i) ≡ false))
    → ((i : ℕ) → takes_items (place_below p k i) ≡ false) → ((i : ℕ) → takes_imports (place_below p k i) ≡ false) → names_of k (bound_names a) ≡ bound_names a → vars_of k a (var_names a) ≡ var_names a
    → Meets (place_below p k) (inside c next k a) 0 a b → Seen p c next k a b
seen_part p c next k a b keeps_it takes variables no_items no_imports same vars h = by (gather (place_below p k) (inside c next k a) 0 c.block c.variables c.declaring.layer a b (same_kept c next k a keeps_it) h)
  where
    with_variables : (i : ℕ) → takes_vars (place_below p k i) ≡ true → takes_vars p ≡ true ⊎ ((j : ℕ) → takes_vars (place_below p k j) ≡ false) → takes_vars p ≡ true
    with_variables i t (inl e) = e
    with_variables i t (inr none) = absurd (true≢false (sym t ∙ none i))

    by : Gathered (place_below p k) 0 c.block c.variables c.declaring.layer a b → Seen p c next k a b
    by (of_block i l t e g) = absurd (true≢false (sym t ∙ no_items i))
    by (of_variables i l t e g) = around (here_in_variables (with_variables i t variables) e (ap (λ xs. is_among xs b.name) vars ∙ g))
    by (of_declared i l t e g) = around (here_as_declared takes e (ap (λ xs. is_among xs b.name) same ∙ g))
    by (of_imported i l t e g) = absurd (true≢false (sym t ∙ no_imports i))

seen_variables : (how : _) (p : Place) (c : Context) (next : ℕ) (a : Forest) (b : BindingSite) → fits p (sort_of (Kind.VariableDeclaration how)) ≡ true → well_placed (λ i. declaration) 0 a ≡ true → has_plain_values a ≡ true
    → Meets (λ i. declaration) (inside c next (Kind.VariableDeclaration how) a) 0 a b → Seen p c next (Kind.VariableDeclaration how) a b
seen_variables variable.Var p c next a b f w v h =
    by (gather (λ i. declaration) (inside c next (Kind.VariableDeclaration variable.Var) a) 0 c.block c.variables c.variables a b (record { in_block = λ i l. refl; in_variables = λ i l. refl; as_declared = λ i l. refl }) h)
  where
    by : Gathered (λ i. declaration) 0 c.block c.variables c.variables a b → Seen p c next (Kind.VariableDeclaration variable.Var) a b
    by (of_block i l t e g) = absurd (true≢false (sym t))
    by (of_variables i l t e g) = around (here_in_variables (vars_fit p plain f refl) e (in_right (bound_names a) (var_names a) b.name g))
    by (of_declared i l t e g) = around (here_in_variables (vars_fit p plain f refl) e (in_left (bound_names a) (var_names a) b.name g))
    by (of_imported i l t e g) = absurd (true≢false (sym t))
seen_variables variable.Let p c next a b f w v h =
    by (gather (λ i. declaration) (inside c next (Kind.VariableDeclaration variable.Let) a) 0 c.block c.variables c.block a b (record { in_block = λ i l. refl; in_variables = λ i l. refl; as_declared = λ i l. refl }) h)
  where
    by : Gathered (λ i. declaration) 0 c.block c.variables c.block a b → Seen p c next (Kind.VariableDeclaration variable.Let) a b
    by (of_block i l t e g) = absurd (true≢false (sym t))
    by (of_variables i l t e g) = absurd (true≢false (sym g ∙ ap (λ xs. is_among xs b.name) (in_declaration 0 a w v)))
    by (of_declared i l t e g) = around (here_in_block (items_fit p a_declaration f refl) e (declared_so (waiting false) (bound_names a) b.name g))
    by (of_imported i l t e g) = absurd (true≢false (sym t))
seen_variables variable.Const p c next a b f w v h =
    by (gather (λ i. declaration) (inside c next (Kind.VariableDeclaration variable.Const) a) 0 c.block c.variables c.block a b (record { in_block = λ i l. refl; in_variables = λ i l. refl; as_declared = λ i l. refl }) h)
  where
    by : Gathered (λ i. declaration) 0 c.block c.variables c.block a b → Seen p c next (Kind.VariableDeclaration variable.Const) a b
    by (of_block i l t e g) = absurd (true≢false (sym t))
    by (of_variables i l t e g) = absurd (true≢false (sym g ∙ ap (λ xs. is_among xs b.name) (in_declaration 0 a w v)))
    by (of_declared i l t e g) = around (here_in_block (items_fit p a_declaration f refl) e (declared_so (waiting true) (bound_names a) b.name g))
    by (of_imported i l t e g) = absurd (true≢false (sym t))

-- ---- imports

name_alone : (k : Kind) (a : Forest) (way : Way) (y : Text) → fits names (sort_of k) ≡ true → is_among (names_of k (bound_names a)) y ≡ true → is_among (names_in (named_so way (declared_name k))) y ≡ true
name_alone (Kind.BindingName x) a way y f h = h
name_alone (Kind.VariableDeclaration variable.Var) a way y f h = absurd (true≢false (sym f))
name_alone (Kind.VariableDeclaration variable.Let) a way y f h = absurd (true≢false (sym f))
name_alone (Kind.VariableDeclaration variable.Const) a way y f h = absurd (true≢false (sym f))
name_alone (Kind.Function function_kind.Declaration pure) a way y f h = absurd (true≢false (sym f))
name_alone (Kind.Function function_kind.Expression pure) a way y f h = absurd (true≢false (sym f))
name_alone (Kind.Function function_kind.Arrow pure) a way y f h = absurd (true≢false (sym f))
name_alone k a way y f h = absurd (true≢false (sym f))

seen_import : (p : Place) (c : Context) (next : ℕ) (source : Text) (a : Forest) (b : BindingSite) → fits p an_import ≡ true → Meets (λ i. specifiers) (inside c next (Kind.ImportDeclaration source) a) 0 a b → Seen p c next (Kind.ImportDeclaration source) a b
seen_import p c next source a b f h =
    by (gather (λ i. specifiers) (inside c next (Kind.ImportDeclaration source) a) 0 c.block c.variables c.block a b (record { in_block = λ i l. refl; in_variables = λ i l. refl; as_declared = λ i l. refl }) h)
  where
    by : Gathered (λ i. specifiers) 0 c.block c.variables c.block a b → Seen p c next (Kind.ImportDeclaration source) a b
    by (of_block i l t e g) = absurd (true≢false (sym t))
    by (of_variables i l t e g) = around (here_in_variables (vars_fit p an_import f refl) e g)
    by (of_declared i l t e g) = absurd (true≢false (sym t))
    by (of_imported i l t e g) = around (here_in_block (items_fit p an_import f refl) e (g source))

seen_specifiers : (p : Place) (c : Context) (next : ℕ) (a : Forest) (b : BindingSite) → fits p the_specifiers ≡ true → Meets (λ i. specifier_place p) (inside c next Kind.Specifiers a) 0 a b → Seen p c next Kind.Specifiers a b
seen_specifiers specifiers c next a b f h = by (gather (λ i. imports) (inside c next Kind.Specifiers a) 0 c.block c.variables c.declaring.layer a b (same_kept c next Kind.Specifiers a refl) h)
  where
    by : Gathered (λ i. imports) 0 c.block c.variables c.declaring.layer a b → Seen specifiers c next Kind.Specifiers a b
    by (of_block i l t e g) = absurd (true≢false (sym t))
    by (of_variables i l t e g) = around (here_in_variables refl e g)
    by (of_declared i l t e g) = absurd (true≢false (sym t))
    by (of_imported i l t e g) = around (here_as_imported refl e g)
seen_specifiers declared c next a b f h = seen_others others refl refl refl declared c next Kind.Specifiers a b refl refl refl (λ i. refl) refl h
seen_specifiers listed c next a b f h = seen_others others refl refl refl listed c next Kind.Specifiers a b refl refl refl (λ i. refl) refl h
seen_specifiers p c next a b f h = absurd (true≢false (sym f))

-- an imported name, of any way to write it
seen_imported : (p : Place) (c : Context) (next : ℕ) (k : Kind) (a : Forest) (b : BindingSite) (way : Text → Way) → keeps k ≡ true → takes_imports p ≡ true
    → ((i : ℕ) → place_below p k i ≡ (if i == 0 then names else no_node)) → ((source : Text) → specifier_decls source k a (import_decls source a) ≡ named_so (way source) (first_name a))
    → well_placed (place_below p k) 0 a ≡ true → Meets (place_below p k) (inside c next k a) 0 a b → Seen p c next k a b
seen_imported p c next k a b way keeps_it takes places decls placed h = first_there a h (λ source. decls source) placed
  where
    takes_none : {X : Type 0} (f : Place → Bool) (i : ℕ) → 1 ≤ i → f no_node ≡ false → f (place_below p k i) ≡ true → X
    takes_none f i l n t = no f (place_below p k i) no_node (places i ∙ not_first i names no_node l) n t

    one_behind : (r : Forest) → Gathered (place_below p k) 1 c.block c.variables c.declaring.layer r b → Seen p c next k a b
    one_behind r (of_block i l t e g) = takes_none takes_items i l refl t
    one_behind r (of_variables i l t e g) = takes_none takes_vars i l refl t
    one_behind r (of_declared i l t e g) = takes_none takes_names i l refl t
    one_behind r (of_imported i l t e g) = takes_none takes_imports i l refl t

    rest_same : Same (inside c next k a) 1 c.block c.variables c.declaring.layer
    rest_same = record {
      in_block = λ i l. (kept c next k a i keeps_it).block;
      in_variables = λ i l. (kept c next k a i keeps_it).variables;
      as_declared = λ i l. (kept c next k a i keeps_it).declares;
    }

    of_first : (j : Kind) (m : Note) (d r : Forest) → fits (place_below p k 0) (sort_of j) ≡ true → ((source : Text) → specifier_decls source k a (import_decls source a) ≡ named_so (way source) (first_name (node j m d r)))
        → Here (place_below p k 0) (inside c next k a 0) j d b → Seen p c next k a b
    of_first j m d r f is (here_in_block t e g) = no takes_items (place_below p k 0) names (places 0) refl t
    of_first j m d r f is (here_in_variables t e g) = no takes_vars (place_below p k 0) names (places 0) refl t
    of_first j m d r f is (here_as_declared t e g) =
        around (here_as_imported takes (e ∙ (kept c next k a 0 keeps_it).declares)
        (λ source. ap (λ ds. is_among (names_in ds) b.name) (is source) ∙ name_alone j d (way source) b.name (sym (ap (λ q. fits q (sort_of j)) (places 0)) ∙ f) g))
    of_first j m d r f is (here_as_imported t e g) = no takes_imports (place_below p k 0) names (places 0) refl t

    first_there : (u : Forest) → Meets (place_below p k) (inside c next k a) 0 u b → ((source : Text) → specifier_decls source k a (import_decls source a) ≡ named_so (way source) (first_name u)) → well_placed (place_below p k) 0 u ≡ true → Seen p c next k a b
    first_there nothing g is w = absurd g
    first_there (absent r) g is w = one_behind r (gather (place_below p k) (inside c next k a) 1 c.block c.variables c.declaring.layer r b rest_same g)
    first_there (node j m d r) (inl g) is w = of_first j m d r (and_parts _ _ w).0 is g
    first_there (node j m d r) (inr g) is w = one_behind r (gather (place_below p k) (inside c next k a) 1 c.block c.variables c.declaring.layer r b rest_same g)

-- ---- nodes that make a scope

same_block : (c : Context) (scope at : ℕ) (strict : Bool) → Same (λ i. in_block c scope strict) at (body_of scope) c.variables c.declaring.layer
same_block c scope at strict = record { in_block = λ i l. refl; in_variables = λ i l. refl; as_declared = λ i l. refl }

seen_block : (p : Place) (c : Context) (next : ℕ) (a : Forest) (b : BindingSite) → fits p plain ≡ true → Meets (λ i. lists) (λ i. in_block c next c.strict) 0 a b → Seen p c next Kind.BlockStatement a b
seen_block p c next a b f h = by (gather (λ i. lists) (λ i. in_block c next c.strict) 0 (body_of next) c.variables c.declaring.layer a b (same_block c next 0 c.strict) h)
  where
    by : Gathered (λ i. lists) 0 (body_of next) c.variables c.declaring.layer a b → Seen p c next Kind.BlockStatement a b
    by (of_block i l t e g) = in_scope refl (scope_is b.layer (body_of next) e) g
    by (of_variables i l t e g) = around (here_in_variables (vars_fit p plain f refl) e g)
    by (of_declared i l t e g) = absurd (true≢false (sym t))
    by (of_imported i l t e g) = absurd (true≢false (sym t))

-- of the head of `for` the first alone declares
seen_for : (p : Place) (c : Context) (next : ℕ) (a : Forest) (b : BindingSite) → fits p plain ≡ true
    → Meets (λ i. if i == 0 then declared else others) (λ i. in_block c next c.strict) 0 a b → Seen p c next Kind.ForStatement a b
seen_for p c next nothing b f h = absurd h
seen_for p c next (absent r) b f h = by (gather (λ i. if i == 0 then declared else others) (λ i. in_block c next c.strict) 1 (body_of next) c.variables c.declaring.layer r b (same_block c next 1 c.strict) h)
  where
    by : Gathered (λ i. if i == 0 then declared else others) 1 (body_of next) c.variables c.declaring.layer r b → Seen p c next Kind.ForStatement (absent r) b
    by (of_block i l t e g) = no takes_items (if i == 0 then declared else others) others (not_first i declared others l) refl t
    by (of_variables i l t e g) = around (here_in_variables (vars_fit p plain f refl) e g)
    by (of_declared i l t e g) = no takes_names (if i == 0 then declared else others) others (not_first i declared others l) refl t
    by (of_imported i l t e g) = no takes_imports (if i == 0 then declared else others) others (not_first i declared others l) refl t
seen_for p c next (node j m d r) b f (inl (here_in_block t e g)) = in_scope refl (scope_is b.layer (body_of next) e) (declared_left (item_decls j d (lexical d)) (lexical nothing) b.name g)
seen_for p c next (node j m d r) b f (inl (here_in_variables t e g)) = around (here_in_variables (vars_fit p plain f refl) e (in_left (vars_of j d (var_names d)) (var_names r) b.name g))
seen_for p c next (node j m d r) b f (inl (here_as_declared t e g)) = absurd (true≢false (sym t))
seen_for p c next (node j m d r) b f (inl (here_as_imported t e g)) = absurd (true≢false (sym t))
seen_for p c next (node j m d r) b f (inr h) = by (gather (λ i. if i == 0 then declared else others) (λ i. in_block c next c.strict) 1 (body_of next) c.variables c.declaring.layer r b (same_block c next 1 c.strict) h)
  where
    by : Gathered (λ i. if i == 0 then declared else others) 1 (body_of next) c.variables c.declaring.layer r b → Seen p c next Kind.ForStatement (node j m d r) b
    by (of_block i l t e g) = no takes_items (if i == 0 then declared else others) others (not_first i declared others l) refl t
    by (of_variables i l t e g) = around (here_in_variables (vars_fit p plain f refl) e (in_right (vars_of j d (var_names d)) (var_names r) b.name g))
    by (of_declared i l t e g) = no takes_names (if i == 0 then declared else others) others (not_first i declared others l) refl t
    by (of_imported i l t e g) = no takes_imports (if i == 0 then declared else others) others (not_first i declared others l) refl t

-- the parameter of a catch clause
abbrev catch_context : Context → ℕ → (at : ℕ) → Context
catch_context c next at = if at == 0 then declares (in_block c next c.strict) (body_of next) 16 false else in_block c next c.strict

same_catch : (c : Context) (next : ℕ) → Same (catch_context c next) 1 (body_of next) c.variables c.declaring.layer
same_catch c next = record {
  in_block = λ i l. ap (λ (d : Context). d.block) (not_first i (declares (in_block c next c.strict) (body_of next) 16 false) (in_block c next c.strict) l);
  in_variables = λ i l. ap (λ (d : Context). d.variables) (not_first i (declares (in_block c next c.strict) (body_of next) 16 false) (in_block c next c.strict) l);
  as_declared = λ i l. ap (λ (d : Context). d.declaring.layer) (not_first i (declares (in_block c next c.strict) (body_of next) 16 false) (in_block c next c.strict) l);
}

behind_name : (p : Place) (c : Context) (next : ℕ) (a r : Forest) (b : BindingSite) → fits p plain ≡ true → (is_among (var_names r) b.name ≡ true → is_among (var_names a) b.name ≡ true)
    → Gathered (λ i. if i == 0 then names else others) 1 (body_of next) c.variables c.declaring.layer r b → Seen p c next Kind.CatchClause a b
behind_name p c next a r b f more (of_block i l t e g) = no takes_items (if i == 0 then names else others) others (not_first i names others l) refl t
behind_name p c next a r b f more (of_variables i l t e g) = around (here_in_variables (vars_fit p plain f refl) e (more g))
behind_name p c next a r b f more (of_declared i l t e g) = no takes_names (if i == 0 then names else others) others (not_first i names others l) refl t
behind_name p c next a r b f more (of_imported i l t e g) = no takes_imports (if i == 0 then names else others) others (not_first i names others l) refl t

seen_catch : (p : Place) (c : Context) (next : ℕ) (a : Forest) (b : BindingSite) → fits p plain ≡ true → Meets (λ i. if i == 0 then names else others) (catch_context c next) 0 a b → Seen p c next Kind.CatchClause a b
seen_catch p c next nothing b f h = absurd h
seen_catch p c next (absent r) b f h =
    behind_name p c next (absent r) r b f (λ g. g) (gather (λ i. if i == 0 then names else others) (catch_context c next) 1 (body_of next) c.variables c.declaring.layer r b (same_catch c next) h)
seen_catch p c next (node j m d r) b f (inl (here_in_block t e g)) = absurd (true≢false (sym t))
seen_catch p c next (node j m d r) b f (inl (here_in_variables t e g)) = absurd (true≢false (sym t))
seen_catch p c next (node j m d r) b f (inl (here_as_declared t e g)) = in_scope refl (scope_is b.layer (body_of next) e) (in_left (names_of j (bound_names d)) (bound_names nothing) b.name g)
seen_catch p c next (node j m d r) b f (inl (here_as_imported t e g)) = absurd (true≢false (sym t))
seen_catch p c next (node j m d r) b f (inr h) =
    behind_name p c next (node j m d r) r b f (in_right (vars_of j d (var_names d)) (var_names r) b.name)
    (gather (λ i. if i == 0 then names else others) (catch_context c next) 1 (body_of next) c.variables c.declaring.layer r b (same_catch c next) h)

-- the cases of a switch
abbrev switch_context : Context → ℕ → (at : ℕ) → Context
switch_context c next at = if at == 1 then in_block c next c.strict else below_it c

abbrev switch_place : (at : ℕ) → Place
switch_place i = if i == 1 then cases else others

same_switch : (c : Context) (next : ℕ) → Same (switch_context c next) 2 c.block c.variables c.declaring.layer
same_switch c next = record {
  in_block = λ i l. ap (λ (d : Context). d.block) (not_second i (in_block c next c.strict) (below_it c) l);
  in_variables = λ i l. ap (λ (d : Context). d.variables) (not_second i (in_block c next c.strict) (below_it c) l);
  as_declared = λ i l. ap (λ (d : Context). d.declaring.layer) (not_second i (in_block c next c.strict) (below_it c) l);
}

behind_cases : (p : Place) (c : Context) (next : ℕ) (a r : Forest) (b : BindingSite) → fits p plain ≡ true → (is_among (var_names r) b.name ≡ true → is_among (var_names a) b.name ≡ true)
    → Meets switch_place (switch_context c next) 2 r b → Seen p c next Kind.SwitchStatement a b
behind_cases p c next a r b f more h = by (gather switch_place (switch_context c next) 2 c.block c.variables c.declaring.layer r b (same_switch c next) h)
  where
    by : Gathered switch_place 2 c.block c.variables c.declaring.layer r b → Seen p c next Kind.SwitchStatement a b
    by (of_block i l t e g) = no takes_items (switch_place i) others (not_second i cases others l) refl t
    by (of_variables i l t e g) = around (here_in_variables (vars_fit p plain f refl) e (more g))
    by (of_declared i l t e g) = no takes_names (switch_place i) others (not_second i cases others l) refl t
    by (of_imported i l t e g) = no takes_imports (switch_place i) others (not_second i cases others l) refl t

from_cases : (p : Place) (c : Context) (next : ℕ) (a r : Forest) (b : BindingSite) → fits p plain ≡ true → behind a ≡ r → (is_among (var_names r) b.name ≡ true → is_among (var_names a) b.name ≡ true)
    → Meets switch_place (switch_context c next) 1 r b → Seen p c next Kind.SwitchStatement a b
from_cases p c next a nothing b f is more h = absurd h
from_cases p c next a (absent r) b f is more h = behind_cases p c next a r b f more h
from_cases p c next a (node j m d r) b f is more (inl (here_in_block t e g)) =
    in_scope refl (scope_is b.layer (body_of next) e) (ap (λ u. is_among (names_in (lexical (first_of u))) b.name) is ∙ declared_left (item_decls j d (lexical d)) (lexical nothing) b.name g)
from_cases p c next a (node j m d r) b f is more (inl (here_in_variables t e g)) = around (here_in_variables (vars_fit p plain f refl) e (more (in_left (vars_of j d (var_names d)) (var_names r) b.name g)))
from_cases p c next a (node j m d r) b f is more (inl (here_as_declared t e g)) = absurd (true≢false (sym t))
from_cases p c next a (node j m d r) b f is more (inl (here_as_imported t e g)) = absurd (true≢false (sym t))
from_cases p c next a (node j m d r) b f is more (inr h) = behind_cases p c next a r b f (λ g. more (in_right (vars_of j d (var_names d)) (var_names r) b.name g)) h

seen_switch : (p : Place) (c : Context) (next : ℕ) (a : Forest) (b : BindingSite) → fits p plain ≡ true → Meets switch_place (switch_context c next) 0 a b → Seen p c next Kind.SwitchStatement a b
seen_switch p c next nothing b f h = absurd h
seen_switch p c next (absent r) b f h = from_cases p c next (absent r) r b f refl (λ g. g) h
seen_switch p c next (node j m d r) b f (inl (here_in_block t e g)) = absurd (true≢false (sym t))
seen_switch p c next (node j m d r) b f (inl (here_in_variables t e g)) = around (here_in_variables (vars_fit p plain f refl) e (in_left (vars_of j d (var_names d)) (var_names r) b.name g))
seen_switch p c next (node j m d r) b f (inl (here_as_declared t e g)) = absurd (true≢false (sym t))
seen_switch p c next (node j m d r) b f (inl (here_as_imported t e g)) = absurd (true≢false (sym t))
seen_switch p c next (node j m d r) b f (inr h) = from_cases p c next (node j m d r) r b f refl (in_right (vars_of j d (var_names d)) (var_names r) b.name) h

-- ---- functions

abbrev function_context : Context → ℕ → FunctionKind → (pure strict : Bool) → (at : ℕ) → Context
function_context c next f pure strict at = if at == 0 then at_function_name c next f pure else if at == 1 then at_parameters c next f strict else in_function c next f strict

in_code : (f : FunctionKind) (pure : Bool) (a : Forest) (y : Text) → is_among (names_in (function_decls f a)) y ≡ true → is_among (names_declared (Kind.Function f pure) a) y ≡ true
in_code f pure a y e = in_right (names_in (named_so (waiting true) (own_name f a))) (names_in (function_decls f a)) y e

in_variables : (f : FunctionKind) (pure : Bool) (a : Forest) (y : Text) → is_among (var_names (behind (behind a))) y ≡ true → is_among (names_declared (Kind.Function f pure) a) y ≡ true
in_variables f pure a y e =
    let vars = all_so ready (var_names (behind (behind a))) in
    let params = all_so ready (bound_names (first_of (behind a))) in
    in_code f pure a y (declared_left ((receiver_decls f ++ vars) ++ params) (lexical (behind (behind a))) y
    (declared_left (receiver_decls f ++ vars) params y (declared_right (receiver_decls f) vars y (declared_so ready (var_names (behind (behind a))) y e))))

in_parameters : (f : FunctionKind) (pure : Bool) (a : Forest) (y : Text) → is_among (bound_names (first_of (behind a))) y ≡ true → is_among (names_declared (Kind.Function f pure) a) y ≡ true
in_parameters f pure a y e =
    let vars = all_so ready (var_names (behind (behind a))) in
    let params = all_so ready (bound_names (first_of (behind a))) in
    in_code f pure a y (declared_left ((receiver_decls f ++ vars) ++ params) (lexical (behind (behind a))) y
    (declared_right (receiver_decls f ++ vars) params y (declared_so ready (bound_names (first_of (behind a))) y e)))

in_body : (f : FunctionKind) (pure : Bool) (a : Forest) (y : Text) → is_among (names_in (lexical (behind (behind a)))) y ≡ true → is_among (names_declared (Kind.Function f pure) a) y ≡ true
in_body f pure a y e =
    let vars = all_so ready (var_names (behind (behind a))) in
    let params = all_so ready (bound_names (first_of (behind a))) in
    in_code f pure a y (declared_right ((receiver_decls f ++ vars) ++ params) (lexical (behind (behind a))) y e)

seen_code : (p : Place) (c : Context) (next : ℕ) (f : FunctionKind) (pure strict : Bool) (a r : Forest) (b : BindingSite) → behind (behind a) ≡ r
    → Meets (function_place f) (function_context c next f pure strict) 2 r b → Seen p c next (Kind.Function f pure) a b
seen_code p c next f pure strict a r b is h = by (gather (function_place f) (function_context c next f pure strict) 2 (body_of next) (body_of next) c.declaring.layer r b same h)
  where
    same : Same (function_context c next f pure strict) 2 (body_of next) (body_of next) c.declaring.layer
    same = record {
      in_block = λ i l. ap (λ (d : Context). d.block) (third i (at_function_name c next f pure) (at_parameters c next f strict) (in_function c next f strict) l);
      in_variables = λ i l. ap (λ (d : Context). d.variables) (third i (at_function_name c next f pure) (at_parameters c next f strict) (in_function c next f strict) l);
      as_declared = λ i l. ap (λ (d : Context). d.declaring.layer) (third i (at_function_name c next f pure) (at_parameters c next f strict) (in_function c next f strict) l);
    }

    by : Gathered (function_place f) 2 (body_of next) (body_of next) c.declaring.layer r b → Seen p c next (Kind.Function f pure) a b
    by (of_block i l t e g) = in_scope refl (scope_is b.layer (body_of next) e) (in_body f pure a b.name (ap (λ u. is_among (names_in (lexical u)) b.name) is ∙ g))
    by (of_variables i l t e g) = in_scope refl (scope_is b.layer (body_of next) e) (in_variables f pure a b.name (ap (λ u. is_among (var_names u) b.name) is ∙ g))
    by (of_declared i l t e g) = no takes_names (function_place f i) code (third i (name_place f) parameters code l) refl t
    by (of_imported i l t e g) = no takes_imports (function_place f i) code (third i (name_place f) parameters code l) refl t

seen_parameters : (p : Place) (c : Context) (next : ℕ) (f : FunctionKind) (pure strict : Bool) (a r : Forest) (b : BindingSite) → behind a ≡ r
    → Meets (function_place f) (function_context c next f pure strict) 1 r b → Seen p c next (Kind.Function f pure) a b
seen_parameters p c next f pure strict a nothing b is h = absurd h
seen_parameters p c next f pure strict a (absent r) b is h = seen_code p c next f pure strict a r b (ap behind is) h
seen_parameters p c next f pure strict a (node j m d r) b is (inl (here_in_block t e g)) = absurd (true≢false (sym t))
seen_parameters p c next f pure strict a (node j m d r) b is (inl (here_in_variables t e g)) = absurd (true≢false (sym t))
seen_parameters p c next f pure strict a (node j m d r) b is (inl (here_as_declared t e g)) =
    in_scope refl (scope_is b.layer (parameters_of next) e) (in_parameters f pure a b.name (ap (λ u. is_among (bound_names (first_of u)) b.name) is ∙ in_left (names_of j (bound_names d)) (bound_names nothing) b.name g))
seen_parameters p c next f pure strict a (node j m d r) b is (inl (here_as_imported t e g)) = absurd (true≢false (sym t))
seen_parameters p c next f pure strict a (node j m d r) b is (inr h) = seen_code p c next f pure strict a r b (ap behind is) h

-- an own name: a declaration's lies around, an expression's in its scope
seen_name : (p : Place) (c : Context) (next : ℕ) (f : FunctionKind) (pure strict : Bool) (j : Kind) (m : Note) (d r : Forest) (b : BindingSite) → fits p (sort_of (Kind.Function f pure)) ≡ true → fits (name_place f) (sort_of j) ≡ true
    → Here (name_place f) (at_function_name c next f pure) j d b → Seen p c next (Kind.Function f pure) (node j m d r) b
seen_name p c next function_kind.Declaration pure strict j m d r b f g (here_as_declared t e h) = around (here_in_block (items_fit p a_declaration f refl) e (name_alone j d (waiting false) b.name g h))
seen_name p c next function_kind.Declaration pure strict j m d r b f g (here_in_block t e h) = absurd (true≢false (sym t))
seen_name p c next function_kind.Declaration pure strict j m d r b f g (here_in_variables t e h) = absurd (true≢false (sym t))
seen_name p c next function_kind.Declaration pure strict j m d r b f g (here_as_imported t e h) = absurd (true≢false (sym t))
seen_name p c next function_kind.Expression pure strict j m d r b f g (here_as_declared t e h) =
    in_scope refl (scope_is b.layer (own_name_of next) e)
    (in_left (names_in (named_so (waiting true) (declared_name j))) (names_in (function_decls function_kind.Expression (node j m d r))) b.name (name_alone j d (waiting true) b.name g h))
seen_name p c next function_kind.Expression pure strict j m d r b f g (here_in_block t e h) = absurd (true≢false (sym t))
seen_name p c next function_kind.Expression pure strict j m d r b f g (here_in_variables t e h) = absurd (true≢false (sym t))
seen_name p c next function_kind.Expression pure strict j m d r b f g (here_as_imported t e h) = absurd (true≢false (sym t))
seen_name p c next function_kind.Arrow pure strict j m d r b f g h = absurd (true≢false (sym g))

seen_function : (p : Place) (c : Context) (next : ℕ) (f : FunctionKind) (pure strict : Bool) (a : Forest) (b : BindingSite) → fits p (sort_of (Kind.Function f pure)) ≡ true → well_placed (function_place f) 0 a ≡ true
    → Meets (function_place f) (function_context c next f pure strict) 0 a b → Seen p c next (Kind.Function f pure) a b
seen_function p c next f pure strict nothing b g w h = absurd h
seen_function p c next f pure strict (absent r) b g w h = seen_parameters p c next f pure strict (absent r) r b refl h
seen_function p c next f pure strict (node j m d r) b g w (inl h) = seen_name p c next f pure strict j m d r b g (and_parts _ _ w).0 h
seen_function p c next f pure strict (node j m d r) b g w (inr h) = seen_parameters p c next f pure strict (node j m d r) r b refl h

-- ---- all kinds

never_stands : {X : Type 0} (p : Place) → fits p never ≡ true → X
never_stands p e = absurd (never_fits p e)

in_default : (ds : List Decl) (y : Text) → is_among (names_in ds) y ≡ true → is_among (names_in (or_default ds)) y ≡ true
in_default [] y e = absurd (true≢false (sym e))
in_default (d ∷ ds) y e = e

seen_nothing : (p : Place) (c : Context) (next : ℕ) (x : Text) (a : Forest) (b : BindingSite) → Meets (λ i. no_node) (inside c next (Kind.BindingName x) a) 0 a b → Seen p c next (Kind.BindingName x) a b
seen_nothing p c next x a b h = by (gather (λ i. no_node) (inside c next (Kind.BindingName x) a) 0 c.block c.variables c.declaring.layer a b (same_kept c next (Kind.BindingName x) a refl) h)
  where
    by : Gathered (λ i. no_node) 0 c.block c.variables c.declaring.layer a b → Seen p c next (Kind.BindingName x) a b
    by (of_block i l t e g) = absurd (true≢false (sym t))
    by (of_variables i l t e g) = absurd (true≢false (sym t))
    by (of_declared i l t e g) = absurd (true≢false (sym t))
    by (of_imported i l t e g) = absurd (true≢false (sym t))

no_names_there : (p : Place) → takes_names (statements_place p) ≡ false
no_names_there program_list = refl
no_names_there p = refl

no_imports_there : (p : Place) → takes_imports (statements_place p) ≡ false
no_imports_there program_list = refl
no_imports_there p = refl

pub seen : (p : Place) (c : Context) (next : ℕ) (k : Kind) (a : Forest) (b : BindingSite) → fits p (sort_of k) ≡ true → well_placed (place_below p k) 0 a ≡ true → has_plain_values a ≡ true
    → Meets (place_below p k) (inside c next k a) 0 a b → Seen p c next k a b
seen p c next (Kind.BindingName x) a b f w v h = seen_nothing p c next x a b h
seen p c next Kind.Parameters a b f w v h = seen_part p c next Kind.Parameters a b refl (names_fit p the_parameters f refl) (inr (λ i. refl)) (λ i. refl) (λ i. refl) refl refl h
seen p c next Kind.Declarators a b f w v h = seen_part p c next Kind.Declarators a b refl (names_fit p the_declarators f refl) (inl (vars_fit p the_declarators f refl)) (λ i. refl) (λ i. refl) refl refl h
seen p c next Kind.VariableDeclarator a b f w v h =
    seen_part p c next Kind.VariableDeclarator a b refl (names_fit p a_declarator f refl) (inl (vars_fit p a_declarator f refl))
    (λ i. either (λ q. takes_items q ≡ false) (i == 0) names others refl refl) (λ i. either (λ q. takes_imports q ≡ false) (i == 0) names others refl refl) refl refl h
seen p c next (Kind.VariableDeclaration how) a b f w v h = seen_variables how p c next a b f w v h
seen p c next (Kind.ImportDeclaration source) a b f w v h = seen_import p c next source a b f h
seen p c next Kind.Specifiers a b f w v h = seen_specifiers p c next a b f h
seen p c next (Kind.ImportSpecifier name) a b f w v h = seen_imported p c next (Kind.ImportSpecifier name) a b _ refl (imports_fit p f) (λ i. refl) (λ source. refl) w h
seen p c next Kind.ImportDefaultSpecifier a b f w v h = seen_imported p c next Kind.ImportDefaultSpecifier a b _ refl (imports_fit p f) (λ i. refl) (λ source. refl) w h
seen p c next Kind.ImportNamespaceSpecifier a b f w v h = seen_imported p c next Kind.ImportNamespaceSpecifier a b _ refl (imports_fit p f) (λ i. refl) (λ source. refl) w h
seen p c next Kind.Statements a b f w v h = seen_list p c next Kind.Statements a b refl refl refl f (λ i. no_names_there p) (λ i. no_imports_there p) (λ g. g) refl h
seen p c next Kind.FunctionBody a b f w v h = seen_list p c next Kind.FunctionBody a b refl refl refl f (λ i. refl) (λ i. refl) (λ g. g) refl h
seen p c next Kind.Cases a b f w v h = seen_list p c next Kind.Cases a b refl refl refl f (λ i. refl) (λ i. refl) (λ g. g) refl h
seen p c next Kind.SwitchCase a b f w v h = seen_list p c next Kind.SwitchCase a b refl refl refl f (λ i. refl) (λ i. refl) (λ g. g) refl h
seen p c next (Kind.ExportNamedDeclaration None) a b f w v h = seen_list p c next (Kind.ExportNamedDeclaration None) a b refl refl refl f (λ i. refl) (λ i. refl) (λ g. g) refl h
seen p c next (Kind.ExportNamedDeclaration (Some source)) a b f w v h = seen_others listed refl refl refl p c next (Kind.ExportNamedDeclaration (Some source)) a b refl refl f (λ i. refl) refl h
seen p c next Kind.ExportDefaultDeclaration a b f w v h = seen_list p c next Kind.ExportDefaultDeclaration a b refl refl refl f (λ i. refl) (λ i. refl) (in_default (lexical a) b.name) refl h
seen p c next Kind.BlockStatement a b f w v h = seen_block p c next a b f h
seen p c next Kind.ForStatement a b f w v h = seen_for p c next a b f h
seen p c next Kind.CatchClause a b f w v h = seen_catch p c next a b f h
seen p c next Kind.SwitchStatement a b f w v h = seen_switch p c next a b f h
seen p c next (Kind.Function how pure) a b f w v h = seen_function p c next how pure (c.strict || is_strict_function a) a b f w h
seen p c next (Kind.Program source) a b f w v h = never_stands p f
seen p c next (Kind.Class how) a b f w v h = never_stands p f
seen p c next (Kind.PropertyDefinition is_static key) a b f w v h = never_stands p f
seen p c next Kind.StaticBlock a b f w v h = never_stands p f
seen p c next Kind.WithStatement a b f w v h = never_stands p f
seen p c next Kind.ForInStatement a b f w v h = never_stands p f
seen p c next Kind.ForOfStatement a b f w v h = never_stands p f
seen p c next k a b f w v h = seen_others others refl refl refl p c next k a b refl refl f (λ i. refl) refl h
