-- A scope stands behind the one around it.
use Rattle.std.proofs.Common.{◌≡◌, ◌<◌, ◌≤◌, ◌+◌, ◌++◌, ◌∙◌, ◌==◌, ℕ, suc, List, [], ◌∷◌, map, Bool, true, false, ◌&&◌, Option, Some, None, if◌then◌else◌, refl, sym, ap, subst, arith, append_assoc, append-nil}
use Rattle.js_syntax.specs.declared.node_kind.NodeKind.{NodeKind as Kind}
use Rattle.js_syntax.specs.declared.node_kind.NodeKind.TheVariants.{Program as program, Function as function, Class as class, MethodDefinition as method_definition, PropertyDefinition as property_definition, StaticBlock as static_block, BlockStatement as block_statement, WithStatement as with_statement, SwitchStatement as switch_statement, CatchClause as catch_clause, ForStatement as for_statement, ForInStatement as for_in_statement, ForOfStatement as for_of_statement, VariableDeclaration as variable_declaration, AssignmentExpression as assignment_expression, MemberExpression as member_expression, TargetProperty as target_property, TargetDefault as target_default, BindingName as binding_name, ReferenceName as reference_name, TargetName as target_name}
use Rattle.js_syntax.specs.Node.{Forest, nothing, node, absent, Note}
use Rattle.js_syntax.specs.declared.kind.FunctionKind.{FunctionKind}
use Rattle.js_syntax.specs.declared.kind.FunctionKind.TheVariants as function_kind
use Rattle.js_syntax.specs.declared.kind.ClassKind.{ClassKind}
use Rattle.js_syntax.specs.declared.kind.ClassKind.TheVariants as class_kind
use Rattle.js_syntax.specs.declared.kind.MethodKind.{MethodKind}
use Rattle.js_syntax.specs.declared.kind.MethodKind.TheVariants as method_kind
use Rattle.js_syntax.specs.declared.kind.VariableKind.{VariableKind}
use Rattle.js_syntax.specs.declared.kind.VariableKind.TheVariants as variable_kind
use Rattle.scope_rules.specs.Context.{Context, has_second, opens, of_method, in_variables, at_function_name, at_class_name, beside, inside, outermost}
use Rattle.scope_rules.specs.Site.{ScopeSite, Site, scope_site, opens_one, scope_count, name_sites, scope_bits, own_sites, sites, sites_of, scopes_among, found_in}
use Rattle.scope_rules.specs.Binding.{Binding}
use Rattle.scope_rules.specs.Table.{symbols_of, scopes_from, scoping_of}
use Rattle.scope_laws.specs.Parents.{IsBefore, AreBefore}

weaker : (n m : ℕ) (o : Option ℕ) → n ≤ m → IsBefore n o → IsBefore m o
weaker n m None le h = tt
weaker n m (Some p) le h = Prim.omega (arith, le, h)

-- ---- the scope of a child's context

either : (b : Bool) (x y : Context) (n : ℕ) → IsBefore n x.scope → IsBefore n y.scope → IsBefore n (if b then x else y).scope
either true x y n h g = h
either false x y n h g = g

method_before : (c : Context) (how : MethodKind) (n : ℕ) → IsBefore n c.scope → IsBefore n (of_method c how).scope
method_before c method_kind.Constructor n h = h
method_before c how n h = h

variables_before : (c : Context) (how : VariableKind) (n : ℕ) → IsBefore n c.scope → IsBefore n (in_variables c how).scope
variables_before c variable_kind.Var n h = h
variables_before c variable_kind.Let n h = h
variables_before c variable_kind.Const n h = h

function_name_before : (c : Context) (scope : ℕ) (how : FunctionKind) (pure : Bool) (n : ℕ) → IsBefore n c.scope → IsBefore n (at_function_name c scope how pure).scope
function_name_before c scope function_kind.Declaration pure n h = h
function_name_before c scope how pure n h = h

class_name_before : (c : Context) (scope : ℕ) (how : ClassKind) (n : ℕ) → IsBefore n c.scope → IsBefore n (at_class_name c scope how).scope
class_name_before c scope class_kind.Declaration n h = h
class_name_before c scope class_kind.Expression n h = h

beside_before : (c : Context) (k : Kind) (at n : ℕ) → IsBefore n c.scope → IsBefore n (beside c k at).scope
beside_before c (method_definition how is_static key) at n h = either (at == 1) _ _ n (method_before c how n h) h
beside_before c (variable_declaration how) at n h = variables_before c how n h
beside_before c (assignment_expression operator) at n h = either (at == 0) _ _ n h h
beside_before c (member_expression key optional) at n h = either (at == 0) _ _ n h h
beside_before c (target_property key) at n h = either (at == 1) _ _ n h h
beside_before c target_default at n h = either (at == 0) _ _ n h h
beside_before c k at n h = h

later : (n : ℕ) → n < n + 1
later n = Prim.omega arith

one_later : (n : ℕ) (o : Option ℕ) → IsBefore n o → IsBefore (n + 1) o
one_later n o h = weaker n (n + 1) o (Prim.omega arith) h

none_later : (n : ℕ) (o : Option ℕ) → IsBefore n o → IsBefore (n + 0) o
none_later n o h = weaker n (n + 0) o (Prim.omega arith) h

field_before : (c : Context) (n : ℕ) (second first : Bool) (x : Context) → x.scope ≡ Some n → IsBefore n c.scope → (y : Context) → y.scope ≡ c.scope → IsBefore (n + (if second then 1 else 0)) (if second && first then x else y).scope
field_before c n true true x is h y same = rw is (later n)
field_before c n true false x is h y same = rw same (one_later n c.scope h)
field_before c n false first x is h y same = rw same (none_later n c.scope h)

inside_before : (c : Context) (n : ℕ) (k : Kind) (below : Forest) (at : ℕ) → IsBefore n c.scope → IsBefore (n + opens_one k below) (inside c n k below at).scope
inside_before c n (program source) below at h = later n
inside_before c n (function how pure) below at h = either (at == 0) _ _ (n + 1) (function_name_before c n how pure (n + 1) (one_later n c.scope h)) (either (at == 1) _ _ (n + 1) (later n) (later n))
inside_before c n (class how) below at h = either (at == 0) _ _ (n + 1) (class_name_before c n how (n + 1) (one_later n c.scope h)) (later n)
inside_before c n static_block below at h = later n
inside_before c n (property_definition is_static key) below at h = field_before c n (has_second below) (at == 1) _ refl h _ refl
inside_before c n block_statement below at h = later n
inside_before c n switch_statement below at h = either (at == 1) _ _ (n + 1) (later n) (one_later n c.scope h)
inside_before c n with_statement below at h = either (at == 1) _ _ (n + 1) (later n) (one_later n c.scope h)
inside_before c n catch_clause below at h = either (at == 0) _ _ (n + 1) (later n) (later n)
inside_before c n for_statement below at h = later n
inside_before c n for_in_statement below at h = either (at == 0) _ _ (n + 1) (later n) (later n)
inside_before c n for_of_statement below at h = either (at == 0) _ _ (n + 1) (later n) (later n)
inside_before c n k below at h = none_later n (beside c k at).scope (beside_before c k at n h)

-- ---- sites

abbrev parent_of : ScopeSite → Option ℕ
parent_of s = s.parent

abbrev parents : List Site → List (Option ℕ)
parents xs = map parent_of (scopes_among xs)

after_names : (c : Context) (note : Note) (k : Kind) (n : ℕ) (xs : List Site) → AreBefore n (parents xs) → AreBefore n (parents (name_sites c note k ++ xs))
after_names c note (binding_name x) n xs h = h
after_names c note (reference_name x) n xs h = h
after_names c note (target_name x) n xs h = h
after_names c note k n xs h = h

after_scope : (b : Bool) (s : ScopeSite) (n : ℕ) (names xs : List Site) → IsBefore n s.parent → AreBefore (n + (if b then 1 else 0)) (parents (names ++ xs)) → AreBefore n (parents (((if b then scope_site s ∷ [] else []) ++ names) ++ xs))
after_scope true s n names xs h left = (h, subst (λ (m : ℕ). AreBefore m (parents (names ++ xs))) (Prim.omega arith) left)
after_scope false s n names xs h left = subst (λ (m : ℕ). AreBefore m (parents (names ++ xs))) (Prim.omega arith) left

after_own : (c : Context) (note : Note) (k : Kind) (below : Forest) (n : ℕ) (xs : List Site) → IsBefore n c.scope → AreBefore (n + opens_one k below) (parents xs) → AreBefore n (parents (own_sites c note k below ++ xs))
after_own c note k below n xs h left =
    after_scope (opens k below) (record { id = note.id; parent = c.scope; flags = scope_bits c k below }) n (name_sites c note k) xs h (after_names c note k (n + opens_one k below) xs left)

before_row : (cs : ℕ → Context) (at n : ℕ) (t : Forest) (xs : List Site) → ((i : ℕ) → IsBefore n (cs i).scope) → AreBefore (n + scope_count t) (parents xs) → AreBefore n (parents (sites cs at n t ++ xs))
before_row cs at n nothing xs h left = subst (λ (m : ℕ). AreBefore m (parents xs)) (Prim.omega arith) left
before_row cs at n (absent rest) xs h left = before_row cs (suc at) n rest xs h left
before_row cs at n (node k note below rest) xs h left =
    let own = own_sites (cs at) note k below in
    let inner = sites (inside (cs at) n k below) 0 (n + opens_one k below) below in
    let outer = sites cs (suc at) (n + scope_count (node k note below nothing)) rest in
    subst (λ (ys : List Site). AreBefore n (parents ys)) (sym (append_assoc (own ++ inner) outer xs ∙ append_assoc own inner (outer ++ xs)))
    (after_own (cs at) note k below n (inner ++ (outer ++ xs)) (h at)
    (before_row (inside (cs at) n k below) 0 (n + opens_one k below) below (outer ++ xs) (λ i. inside_before (cs at) n k below i (h at))
    (subst (λ (m : ℕ). AreBefore m (parents (outer ++ xs))) (Prim.omega arith)
    (before_row cs (suc at) (n + scope_count (node k note below nothing)) rest xs (λ i. weaker n (n + scope_count (node k note below nothing)) (cs i).scope (Prim.omega arith) (h i))
    (subst (λ (m : ℕ). AreBefore m (parents xs)) (Prim.omega arith) left)))))

-- ---- the table

table_parents : (all : List Binding) (next : ℕ) (ss : List ScopeSite) → map (λ s. s.parent) (scopes_from all next ss) ≡ map parent_of ss
table_parents all next [] = refl
table_parents all next (s ∷ ss) = ap (λ ps. s.parent ∷ ps) (table_parents all (suc next) ss)

pub parents_first : (t : Forest) → AreBefore 0 (map (λ s. s.parent) (scoping_of (found_in (sites_of t))).scopes)
parents_first t =
    subst (AreBefore 0) (sym (table_parents (symbols_of (found_in (sites_of t)).bindings) 0 (scopes_among (sites_of t))))
    (subst (λ (ys : List Site). AreBefore 0 (parents ys)) (append-nil (sites_of t)) (before_row (λ at. outermost) 0 0 t [] (λ i. tt) tt))
