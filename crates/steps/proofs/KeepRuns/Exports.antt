-- What a step leaves of a module's exports and requests: all.
use Rattle.std.proofs.Common.{◌≡◌, [], ◌∷◌, ◌++◌, Bool, true, false, Some, None, codes, refl, ap, ap₂}
use Rattle.js_syntax.specs.declared.node_kind.NodeKind.{NodeKind as Kind}
use Rattle.js_syntax.specs.Node.{Forest, node, Note}
use Rattle.js_syntax.specs.declared.value.ModuleName.{ModuleName}
use Rattle.js_syntax.specs.declared.kind.FunctionKind.{FunctionKind}
use Rattle.js_syntax.specs.declared.kind.FunctionKind.TheVariants as function_kind
use Rattle.js_meaning.specs.Value.{Text}
use Rattle.js_meaning.specs.Scope.{first_name, waiting, named_so}
use Rattle.js_meaning.specs.Module.{requests_of, requests, entry_local, specifier_of, local_entries, foreign_of, foreign_entries, same_names, names_in, declared_in, declared_entries, default_local, list_below, entries_of, entries, star_of, stars}
use Rattle.steps.specs.Steps.{items, Around, entered, Goes, empty_statement, unused_function, unused_declarator, unused_declaration, Step, leaves, empties, unbinds, states, inside, behind_node, behind_absent}
use Rattle.steps.specs.KeepRuns.Formed.{heads, is_formed}
use Rattle.steps.proofs.KeepRuns.Calm.{form_heads, form_below, form_behind, Alike, alike_nothing, alike_absent, alike_same, alike_node, alike_function, alike_itself, IsImport, calm_step, same_first_name, same_bounds, same_lexical, lexical_at}

declared_at : (k : Kind) (a b : Forest) → (IsImport k → ⊥) → Alike a b → declared_in k a ≡ declared_in k b
declared_at (Kind.VariableDeclaration how) a b i h = same_bounds h
declared_at k a b i h = ap (λ l. names_in (l ++ [])) (lexical_at k a b i (same_bounds h) (same_first_name h) (same_lexical h))

function_at : (f : FunctionKind) (pure : Bool) (a b : Forest) → first_name a ≡ first_name b → declared_in (Kind.Function f pure) a ≡ declared_in (Kind.Function f pure) b
function_at function_kind.Declaration pure a b e = ap (λ o. names_in (named_so (waiting false) o ++ [])) e
function_at function_kind.Expression pure a b e = refl
function_at function_kind.Arrow pure a b e = refl

same_declared : {t u : Forest} → Alike t u → declared_entries t ≡ declared_entries u
same_declared alike_nothing = refl
same_declared (alike_absent h) = refl
same_declared (alike_same g) = refl
same_declared (alike_node {k = k} {a = a} {b = b} i h g) = ap same_names (declared_at k a b i h)
same_declared (alike_function {f = f} {pure = pure} {a = a} {b = b} e g) = ap same_names (function_at f pure a b e)

specifier_at : (exported : ModuleName) (k : Kind) (n : Note) (a b r s : Forest) → specifier_of (Kind.ExportSpecifier exported) (node k n a r) ≡ specifier_of (Kind.ExportSpecifier exported) (node k n b s)
specifier_at exported (Kind.ReferenceName x) n a b r s = refl
specifier_at exported k n a b r s = refl

same_reference : {a b : Forest} (exported : ModuleName) → Alike a b → specifier_of (Kind.ExportSpecifier exported) a ≡ specifier_of (Kind.ExportSpecifier exported) b
same_reference exported alike_nothing = refl
same_reference exported (alike_absent h) = refl
same_reference exported (alike_same {k = k} {n = n} {a = a} {r = r} {s = s} g) = specifier_at exported k n a a r s
same_reference exported (alike_node {k = k} {n = n} {a = a} {b = b} {r = r} {s = s} i h g) = specifier_at exported k n a b r s
same_reference exported (alike_function e g) = refl

specifier_same : (k : Kind) (a b : Forest) → Alike a b → specifier_of k a ≡ specifier_of k b
specifier_same (Kind.ExportSpecifier exported) a b h = same_reference exported h
specifier_same k a b h = refl

same_local : {t u : Forest} → Alike t u → local_entries t ≡ local_entries u
same_local alike_nothing = refl
same_local (alike_absent h) = same_local h
same_local (alike_same {k = k} {a = a} g) = ap (λ l. specifier_of k a ++ l) (same_local g)
same_local (alike_node {k = k} {a = a} {b = b} i h g) = ap₂ (λ l m. l ++ m) (specifier_same k a b h) (same_local g)
same_local (alike_function e g) = same_local g

same_foreign : {t u : Forest} (source : Text) → Alike t u → foreign_entries source t ≡ foreign_entries source u
same_foreign source alike_nothing = refl
same_foreign source (alike_absent h) = same_foreign source h
same_foreign source (alike_same {k = k} g) = ap (λ l. foreign_of source k ++ l) (same_foreign source g)
same_foreign source (alike_node {k = k} i h g) = ap (λ l. foreign_of source k ++ l) (same_foreign source g)
same_foreign source (alike_function e g) = same_foreign source g

list_at : (k : Kind) (n : Note) (a b r s : Forest) → Alike a b → Alike (list_below r) (list_below s) → Alike (list_below (node k n a r)) (list_below (node k n b s))
list_at Kind.Specifiers n a b r s h g = h
list_at k n a b r s h g = g

same_list : {t u : Forest} → Alike t u → Alike (list_below t) (list_below u)
same_list alike_nothing = alike_nothing
same_list (alike_absent h) = same_list h
same_list (alike_same {k = k} {n = n} {a = a} {r = r} {s = s} g) = list_at k n a a r s (alike_itself a) (same_list g)
same_list (alike_node {k = k} {n = n} {a = a} {b = b} {r = r} {s = s} i h g) = list_at k n a b r s h (same_list g)
same_list (alike_function e g) = same_list g

pub entries_alike : (k : Kind) (a b : Forest) → Alike a b → entries_of k a ≡ entries_of k b
entries_alike (Kind.ExportNamedDeclaration None) a b h = ap₂ (λ l m. l ++ m) (same_declared h) (same_local (same_list h))
entries_alike (Kind.ExportNamedDeclaration (Some source)) a b h = same_foreign source (same_list h)
entries_alike Kind.ExportDefaultDeclaration a b h = ap (λ l. entry_local (codes "default") (default_local l) ∷ []) (same_lexical h)
entries_alike (Kind.ExportAllDeclaration (Some name) source) a b h = refl
entries_alike k a b h = refl

entries_inside : (w : Around) {a b : Forest} (k : Kind) → Step (entered w k a) a b → heads k a ≡ true → is_formed a ≡ true → entries_of k a ≡ entries_of k b
entries_inside w {a} {b} (Kind.ExportNamedDeclaration None) s e f = entries_alike (Kind.ExportNamedDeclaration None) a b (calm_step s refl e f).alike
entries_inside w {a} {b} (Kind.ExportNamedDeclaration (Some source)) s e f = entries_alike (Kind.ExportNamedDeclaration (Some source)) a b (calm_step s refl e f).alike
entries_inside w {a} {b} Kind.ExportDefaultDeclaration s e f = entries_alike Kind.ExportDefaultDeclaration a b (calm_step s refl e f).alike
entries_inside w (Kind.ExportAllDeclaration (Some name) source) s e f = refl
entries_inside w k s e f = refl

-- what leaves a list exports nothing, and asks for no other module
record Private (k : Kind) (a : Forest) : Type 0 where
  entries : entries_of k a ≡ []
  stars : star_of k ≡ []
  requests : requests_of k ≡ []

leaves_private : {w : Around} {k : Kind} {a : Forest} → Goes w k a → Private k a
leaves_private (empty_statement h) = record { entries = refl; stars = refl; requests = refl }
leaves_private (unused_function h u) = record { entries = refl; stars = refl; requests = refl }
leaves_private (unused_declarator h u i) = record { entries = refl; stars = refl; requests = refl }
leaves_private (unused_declaration h u i) = record { entries = refl; stars = refl; requests = refl }

-- of a list of items
pub step_entries : {w : Around} {t u : Forest} → Step w t u → w.row ≡ items → is_formed t ≡ true → entries t ≡ entries u
step_entries (leaves {r = r} g) i f = ap (λ l. l ++ entries r) (leaves_private g).entries
step_entries (empties h) i f = refl
step_entries (unbinds g u h) i f = refl
step_entries (states g u h) i f = refl
step_entries (inside {w = w} {k = k} {a = a} {r = r} s) i f = ap (λ l. l ++ entries r) (entries_inside w k s (form_heads k a r f) (form_below k a r f))
step_entries (behind_node {k = k} {a = a} {r = r} s) i f = ap (λ l. entries_of k a ++ l) (step_entries s i (form_behind k a r f))
step_entries (behind_absent s) i f = step_entries s i f

pub step_stars : {w : Around} {t u : Forest} → Step w t u → stars t ≡ stars u
step_stars (leaves {r = r} g) = ap (λ l. l ++ stars r) (leaves_private g).stars
step_stars (empties h) = refl
step_stars (unbinds i u h) = refl
step_stars (states i u h) = refl
step_stars (inside s) = refl
step_stars (behind_node {k = k} s) = ap (λ l. star_of k ++ l) (step_stars s)
step_stars (behind_absent s) = step_stars s

pub step_requests : {w : Around} {t u : Forest} → Step w t u → requests t ≡ requests u
step_requests (leaves {r = r} g) = ap (λ l. l ++ requests r) (leaves_private g).requests
step_requests (empties h) = refl
step_requests (unbinds i u h) = refl
step_requests (states i u h) = refl
step_requests (inside s) = refl
step_requests (behind_node {k = k} s) = ap (λ l. requests_of k ++ l) (step_requests s)
step_requests (behind_absent s) = step_requests s
