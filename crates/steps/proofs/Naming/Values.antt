-- What the initialisers of declarators hold: no `var`, where they declare no names.
use Rattle.std.proofs.Common.{◌≡◌, ℕ, suc, ◌==◌, ◌&&◌, if◌then◌else◌, true, List, [], ◌∷◌, ◌++◌, refl, sym, ap₂, true≢false}
use Rattle.std.proofs.lemmas.Bool.{and_parts}
use Rattle.js_syntax.specs.declared.node_kind.NodeKind.{NodeKind as Kind}
use Rattle.js_syntax.specs.Node.{Forest, nothing, node, absent, Note}
use Rattle.js_syntax.specs.declared.kind.VariableKind.TheVariants as variable
use Rattle.js_meaning.specs.Value.{Text}
use Rattle.js_meaning.specs.Scope.{behind, names_of, bound_names, vars_of, var_names}
use Rattle.steps.specs.Naming.Placed.{no_node, names, declaration, declarators, others, sort_of, place_below, fits, well_placed, is_none, has_plain_value, has_plain_values}

pub value_here : (k : Kind) (n : Note) (a r : Forest) → has_plain_values (node k n a r) ≡ true → has_plain_value k a ≡ true
value_here k n a r e = (and_parts (has_plain_value k a) _ e).0

pub values_below : (k : Kind) (n : Note) (a r : Forest) → has_plain_values (node k n a r) ≡ true → has_plain_values a ≡ true
values_below k n a r e = (and_parts (has_plain_values a) (has_plain_values r) (and_parts (has_plain_value k a) _ e).1).0

pub values_behind : (k : Kind) (n : Note) (a r : Forest) → has_plain_values (node k n a r) ≡ true → has_plain_values r ≡ true
values_behind k n a r e = (and_parts (has_plain_values a) (has_plain_values r) (and_parts (has_plain_value k a) _ e).1).1

-- ---- what declares no name declares none by `var`

none_left : (xs ys : List Text) → is_none (xs ++ ys) ≡ true → is_none xs ≡ true
none_left [] ys e = refl
none_left (x ∷ xs) ys e = absurd (true≢false (sym e))

none_right : (xs ys : List Text) → is_none (xs ++ ys) ≡ true → is_none ys ≡ true
none_right [] ys e = e
none_right (x ∷ xs) ys e = absurd (true≢false (sym e))

empty : (xs : List Text) → is_none xs ≡ true → xs ≡ []
empty [] e = refl
empty (x ∷ xs) e = absurd (true≢false (sym e))

no_vars_at : (k : Kind) (a : Forest) → is_none (names_of k (bound_names a)) ≡ true → (is_none (bound_names a) ≡ true → var_names a ≡ []) → vars_of k a (var_names a) ≡ []
no_vars_at (Kind.BindingName x) a e h = absurd (true≢false (sym e))
no_vars_at (Kind.VariableDeclaration variable.Var) a e h = ap₂ (λ (xs ys : List Text). xs ++ ys) (empty (bound_names a) e) (h e)
no_vars_at (Kind.VariableDeclaration variable.Let) a e h = refl
no_vars_at (Kind.VariableDeclaration variable.Const) a e h = refl
no_vars_at (Kind.Function f pure) a e h = refl
no_vars_at (Kind.Class how) a e h = refl
no_vars_at k a e h = h e

no_vars : (t : Forest) → is_none (bound_names t) ≡ true → var_names t ≡ []
no_vars nothing e = refl
no_vars (absent r) e = no_vars r e
no_vars (node k n a r) e =
    ap₂ (λ (xs ys : List Text). xs ++ ys) (no_vars_at k a (none_left (names_of k (bound_names a)) (bound_names r) e) (no_vars a)) (no_vars r (none_right (names_of k (bound_names a)) (bound_names r) e))

-- ---- below a variable declaration

-- nothing stands below a name
no_vars_there : (at : ℕ) (t : Forest) → well_placed (λ i. no_node) at t ≡ true → var_names t ≡ []
no_vars_there at nothing w = refl
no_vars_there at (absent r) w = no_vars_there (suc at) r w
no_vars_there at (node k n a r) w = absurd (true≢false (sym w))

of_name : (k : Kind) (a : Forest) → fits names (sort_of k) ≡ true → well_placed (place_below names k) 0 a ≡ true → vars_of k a (var_names a) ≡ []
of_name (Kind.BindingName x) a f w = no_vars_there 0 a w
of_name (Kind.VariableDeclaration variable.Var) a f w = absurd (true≢false (sym f))
of_name (Kind.VariableDeclaration variable.Let) a f w = refl
of_name (Kind.VariableDeclaration variable.Const) a f w = refl
of_name (Kind.Function how pure) a f w = refl
of_name k a f w = absurd (true≢false (sym f))

in_declarator : (t : Forest) → well_placed (λ i. if i == 0 then names else others) 0 t ≡ true → is_none (bound_names (behind t)) ≡ true → var_names t ≡ []
in_declarator nothing w v = refl
in_declarator (absent r) w v = no_vars r v
in_declarator (node k n a r) w v =
    let parts = and_parts (fits names (sort_of k)) (well_placed (place_below names k) 0 a && well_placed (λ i. if i == 0 then names else others) 1 r) w in
    ap₂ (λ (xs ys : List Text). xs ++ ys) (of_name k a parts.0 (and_parts (well_placed (place_below names k) 0 a) _ parts.1).0) (no_vars r v)

of_declarator : (k : Kind) (a : Forest) → fits declarators (sort_of k) ≡ true → well_placed (place_below declarators k) 0 a ≡ true → has_plain_value k a ≡ true → vars_of k a (var_names a) ≡ []
of_declarator Kind.VariableDeclarator a f w v = in_declarator a w v
of_declarator (Kind.VariableDeclaration variable.Var) a f w v = absurd (true≢false (sym f))
of_declarator (Kind.VariableDeclaration variable.Let) a f w v = refl
of_declarator (Kind.VariableDeclaration variable.Const) a f w v = refl
of_declarator (Kind.Function how pure) a f w v = refl
of_declarator k a f w v = absurd (true≢false (sym f))

in_declarators : (at : ℕ) (t : Forest) → well_placed (λ i. declarators) at t ≡ true → has_plain_values t ≡ true → var_names t ≡ []
in_declarators at nothing w v = refl
in_declarators at (absent r) w v = in_declarators (suc at) r w v
in_declarators at (node k n a r) w v =
    let parts = and_parts (fits declarators (sort_of k)) (well_placed (place_below declarators k) 0 a && well_placed (λ i. declarators) (suc at) r) w in
    let further = and_parts (well_placed (place_below declarators k) 0 a) (well_placed (λ i. declarators) (suc at) r) parts.1 in
    ap₂ (λ (xs ys : List Text). xs ++ ys) (of_declarator k a parts.0 further.0 (value_here k n a r v)) (in_declarators (suc at) r further.1 (values_behind k n a r v))

of_declaration : (k : Kind) (a : Forest) → fits declaration (sort_of k) ≡ true → well_placed (place_below declaration k) 0 a ≡ true → has_plain_values a ≡ true → vars_of k a (var_names a) ≡ []
of_declaration Kind.Declarators a f w v = in_declarators 0 a w v
of_declaration (Kind.VariableDeclaration variable.Var) a f w v = absurd (true≢false (sym f))
of_declaration (Kind.VariableDeclaration variable.Let) a f w v = refl
of_declaration (Kind.VariableDeclaration variable.Const) a f w v = refl
of_declaration (Kind.Function how pure) a f w v = refl
of_declaration k a f w v = absurd (true≢false (sym f))

pub in_declaration : (at : ℕ) (t : Forest) → well_placed (λ i. declaration) at t ≡ true → has_plain_values t ≡ true → var_names t ≡ []
in_declaration at nothing w v = refl
in_declaration at (absent r) w v = in_declaration (suc at) r w v
in_declaration at (node k n a r) w v =
    let parts = and_parts (fits declaration (sort_of k)) (well_placed (place_below declaration k) 0 a && well_placed (λ i. declaration) (suc at) r) w in
    let further = and_parts (well_placed (place_below declaration k) 0 a) (well_placed (λ i. declaration) (suc at) r) parts.1 in
    ap₂ (λ (xs ys : List Text). xs ++ ys) (of_declaration k a parts.0 further.0 (values_below k n a r v)) (in_declaration (suc at) r further.1 (values_behind k n a r v))
