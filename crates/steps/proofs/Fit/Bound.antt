-- What patterns, functions and imports declare in runs, the rules of form find where it stands as the table of nodes lets it stand.
use Rattle.std.proofs.Common.{◌≡◌, ◌≤◌, ℕ, suc, ◌+◌, ◌==◌, Bool, true, ◌&&◌, if◌then◌else◌, refl, sym, true≢false}
use Rattle.std.specs.Str.{bytes_eq}
use Rattle.std.proofs.lemmas.Bool.{and_parts}
use Rattle.js_tree.specs.Count.{one_each, node_count}
use Rattle.js_syntax.specs.declared.node_kind.NodeKind.{NodeKind as Kind}
use Rattle.js_syntax.specs.declared.kind.VariableKind.TheVariants as variable
use Rattle.js_syntax.specs.declared.kind.FunctionKind.TheVariants as function_kind
use Rattle.js_syntax.specs.Node.{Note, Forest, nothing, node, absent, alone}
use Rattle.form_rules.specs.declared.sought.Sort.{Sort}
use Rattle.form_rules.specs.declared.sought.Sought.TheVariants.{Names as names_sought, Bound as bound_sought}
use Rattle.form_rules.specs.Scope.{declared, declared_here, bound_below}
use Rattle.js_meaning.specs.Value.{Text}
use Rattle.js_meaning.specs.Scope.{Way, linked, behind, named_so, module_text, first_name, names_of, bound_names, specifier_decls, import_decls}
use Rattle.steps.specs.Naming.Placed.{names, others, declaration, declarators, specifiers, imports, sort_of, place_below, fits, well_placed, is_none, has_plain_value, has_plain_values}
use Rattle.steps.proofs.Naming.Sites.{placed_here, placed_below, placed_behind}
use Rattle.steps.specs.Fit.Clear.{times}
use Rattle.steps.proofs.Fit.Lists.{no_less, less_by, counts, occurs, no_bound, named, count, both_occur, both_times}

-- ---- plain values

pub plain_here : (k : Kind) (n : Note) (a r : Forest) → has_plain_values (node k n a r) ≡ true → has_plain_value k a ≡ true
plain_here k n a r v = (and_parts (has_plain_value k a) (has_plain_values a && has_plain_values r) v).0

pub plain_below : (k : Kind) (n : Note) (a r : Forest) → has_plain_values (node k n a r) ≡ true → has_plain_values a ≡ true
plain_below k n a r v = (and_parts (has_plain_values a) (has_plain_values r) (and_parts (has_plain_value k a) (has_plain_values a && has_plain_values r) v).1).0

pub plain_behind : (k : Kind) (n : Note) (a r : Forest) → has_plain_values (node k n a r) ≡ true → has_plain_values r ≡ true
plain_behind k n a r v = (and_parts (has_plain_values a) (has_plain_values r) (and_parts (has_plain_value k a) (has_plain_values a && has_plain_values r) v).1).1

-- the names of a sort
module _ (x : Text) (f : Sort → Bool) (s : Sort) (is : f s ≡ true) where
  -- ---- first names

  node_among_names : (way : Way) (q : ℕ) (k : Kind) (n : Note) (a r : Forest) → times x (named_so way (first_name (node k n a r))) ≤ count (named f x) (declared (names_sought s) q (node k n a r))
  node_among_names way q (Kind.BindingName y) n a r = counts (bytes_eq y x) (f s) 0 _ is refl
  node_among_names way q k n a r = no_less _

  pub first_among_names : (way : Way) (q : ℕ) (t : Forest) → times x (named_so way (first_name t)) ≤ count (named f x) (declared (names_sought s) q t)
  first_among_names way q nothing = no_less _
  first_among_names way q (absent r) = no_less _
  first_among_names way q (node k n a r) = node_among_names way q k n a r

  node_among_bound : (way : Way) (q : ℕ) (k : Kind) (n : Note) (a r : Forest) → times x (named_so way (first_name (node k n a r))) ≤ count (named f x) (declared (bound_sought s) q (node k n a r))
  node_among_bound way q (Kind.BindingName y) n a r = counts (bytes_eq y x) (f s) 0 _ is refl
  node_among_bound way q k n a r = no_less _

  first_among_bound : (way : Way) (q : ℕ) (t : Forest) → times x (named_so way (first_name t)) ≤ count (named f x) (declared (bound_sought s) q t)
  first_among_bound way q nothing = no_less _
  first_among_bound way q (absent r) = no_less _
  first_among_bound way q (node k n a r) = node_among_bound way q k n a r

  -- ---- declarators

  name_node : (q : ℕ) (k : Kind) (n : Note) (a r : Forest) → fits names (sort_of k) ≡ true → is_none (bound_names r) ≡ true → occurs x (bound_names (node k n a r)) ≤ count (named f x) (declared (bound_sought s) q (node k n a r))
  name_node q (Kind.BindingName y) n a r g h = counts (bytes_eq y x) (f s) (occurs x (bound_names r)) _ is (no_bound x (bound_names r) h)
  name_node q (Kind.VariableDeclaration variable.Var) n a r g h = absurd (true≢false (sym g))
  name_node q (Kind.VariableDeclaration variable.Let) n a r g h = absurd (true≢false (sym g))
  name_node q (Kind.VariableDeclaration variable.Const) n a r g h = absurd (true≢false (sym g))
  name_node q (Kind.Function function_kind.Declaration pure) n a r g h = absurd (true≢false (sym g))
  name_node q (Kind.Function function_kind.Expression pure) n a r g h = absurd (true≢false (sym g))
  name_node q (Kind.Function function_kind.Arrow pure) n a r g h = absurd (true≢false (sym g))
  name_node q k n a r g h = absurd (true≢false (sym g))

  name_row : (q : ℕ) (t : Forest) → well_placed (λ i. if i == 0 then names else others) 0 t ≡ true → is_none (bound_names (behind t)) ≡ true → occurs x (bound_names t) ≤ count (named f x) (declared (bound_sought s) q t)
  name_row q nothing w h = no_less _
  name_row q (absent r) w h = less_by _ 0 _ (no_bound x (bound_names r) h) (no_less _)
  name_row q (node k n a r) w h = name_node q k n a r (placed_here (λ i. if i == 0 then names else others) 0 k n a r w) h

  declarator_node : (q : ℕ) (k : Kind) (a : Forest) → fits declarators (sort_of k) ≡ true → well_placed (place_below declarators k) 0 a ≡ true → has_plain_value k a ≡ true → occurs x (names_of k (bound_names a)) ≤ count (named f x) (declared (bound_below s k) q a)
  declarator_node q Kind.VariableDeclarator a g w v = name_row q a w v
  declarator_node q (Kind.VariableDeclaration variable.Var) a g w v = absurd (true≢false (sym g))
  declarator_node q (Kind.VariableDeclaration variable.Let) a g w v = absurd (true≢false (sym g))
  declarator_node q (Kind.VariableDeclaration variable.Const) a g w v = absurd (true≢false (sym g))
  declarator_node q (Kind.Function function_kind.Declaration pure) a g w v = absurd (true≢false (sym g))
  declarator_node q (Kind.Function function_kind.Expression pure) a g w v = absurd (true≢false (sym g))
  declarator_node q (Kind.Function function_kind.Arrow pure) a g w v = absurd (true≢false (sym g))
  declarator_node q k a g w v = absurd (true≢false (sym g))

  declarator_row : (at q : ℕ) (t : Forest) → well_placed (λ i. declarators) at t ≡ true → has_plain_values t ≡ true → occurs x (bound_names t) ≤ count (named f x) (declared (bound_sought s) q t)
  declarator_row at q nothing w v = no_less _
  declarator_row at q (absent r) w v = declarator_row (suc at) q r w v
  declarator_row at q (node k n a r) w v =
      both_occur (named f x) x (names_of k (bound_names a)) (bound_names r) (declared_here (bound_sought s) q k) (declared (bound_below s k) (q + one_each k) a) (declared (bound_sought s) (q + node_count (alone k n a)) r)
      (declarator_node (q + one_each k) k a (placed_here (λ i. declarators) at k n a r w) (placed_below (λ i. declarators) at k n a r w) (plain_here k n a r v))
      (declarator_row (suc at) (q + node_count (alone k n a)) r (placed_behind (λ i. declarators) at k n a r w) (plain_behind k n a r v))

  declaration_node : (q : ℕ) (k : Kind) (a : Forest) → fits declaration (sort_of k) ≡ true → well_placed (place_below declaration k) 0 a ≡ true → has_plain_values a ≡ true → occurs x (names_of k (bound_names a)) ≤ count (named f x) (declared (bound_below s k) q a)
  declaration_node q Kind.Declarators a g w v = declarator_row 0 q a w v
  declaration_node q (Kind.VariableDeclaration variable.Var) a g w v = absurd (true≢false (sym g))
  declaration_node q (Kind.VariableDeclaration variable.Let) a g w v = absurd (true≢false (sym g))
  declaration_node q (Kind.VariableDeclaration variable.Const) a g w v = absurd (true≢false (sym g))
  declaration_node q (Kind.Function function_kind.Declaration pure) a g w v = absurd (true≢false (sym g))
  declaration_node q (Kind.Function function_kind.Expression pure) a g w v = absurd (true≢false (sym g))
  declaration_node q (Kind.Function function_kind.Arrow pure) a g w v = absurd (true≢false (sym g))
  declaration_node q k a g w v = absurd (true≢false (sym g))

  -- below `var`, `let` and `const`
  pub declaration_row : (at q : ℕ) (t : Forest) → well_placed (λ i. declaration) at t ≡ true → has_plain_values t ≡ true → occurs x (bound_names t) ≤ count (named f x) (declared (bound_sought s) q t)
  declaration_row at q nothing w v = no_less _
  declaration_row at q (absent r) w v = declaration_row (suc at) q r w v
  declaration_row at q (node k n a r) w v =
      both_occur (named f x) x (names_of k (bound_names a)) (bound_names r) (declared_here (bound_sought s) q k) (declared (bound_below s k) (q + one_each k) a) (declared (bound_sought s) (q + node_count (alone k n a)) r)
      (declaration_node (q + one_each k) k a (placed_here (λ i. declaration) at k n a r w) (placed_below (λ i. declaration) at k n a r w) (plain_below k n a r v))
      (declaration_row (suc at) (q + node_count (alone k n a)) r (placed_behind (λ i. declaration) at k n a r w) (plain_behind k n a r v))

  -- ---- imports

  imported_node : (source : Text) (q : ℕ) (k : Kind) (a : Forest) → fits imports (sort_of k) ≡ true → times x (specifier_decls source k a (import_decls source a)) ≤ count (named f x) (declared (bound_below s k) q a)
  imported_node source q (Kind.ImportSpecifier name) a g = first_among_bound (linked source (module_text name)) q a
  imported_node source q Kind.ImportDefaultSpecifier a g = first_among_bound _ q a
  imported_node source q Kind.ImportNamespaceSpecifier a g = first_among_bound _ q a
  imported_node source q (Kind.VariableDeclaration variable.Var) a g = absurd (true≢false (sym g))
  imported_node source q (Kind.VariableDeclaration variable.Let) a g = absurd (true≢false (sym g))
  imported_node source q (Kind.VariableDeclaration variable.Const) a g = absurd (true≢false (sym g))
  imported_node source q (Kind.Function function_kind.Declaration pure) a g = absurd (true≢false (sym g))
  imported_node source q (Kind.Function function_kind.Expression pure) a g = absurd (true≢false (sym g))
  imported_node source q (Kind.Function function_kind.Arrow pure) a g = absurd (true≢false (sym g))
  imported_node source q k a g = absurd (true≢false (sym g))

  imported_row : (source : Text) (at q : ℕ) (t : Forest) → well_placed (λ i. imports) at t ≡ true → times x (import_decls source t) ≤ count (named f x) (declared (bound_sought s) q t)
  imported_row source at q nothing w = no_less _
  imported_row source at q (absent r) w = imported_row source (suc at) q r w
  imported_row source at q (node k n a r) w =
      both_times (named f x) x (specifier_decls source k a (import_decls source a)) (import_decls source r) (declared_here (bound_sought s) q k) (declared (bound_below s k) (q + one_each k) a) (declared (bound_sought s) (q + node_count (alone k n a)) r)
      (imported_node source (q + one_each k) k a (placed_here (λ i. imports) at k n a r w)) (imported_row source (suc at) (q + node_count (alone k n a)) r (placed_behind (λ i. imports) at k n a r w))

  specifiers_node : (source : Text) (q : ℕ) (k : Kind) (a : Forest) → fits specifiers (sort_of k) ≡ true → well_placed (place_below specifiers k) 0 a ≡ true
      → times x (specifier_decls source k a (import_decls source a)) ≤ count (named f x) (declared (bound_below s k) q a)
  specifiers_node source q Kind.Specifiers a g w = imported_row source 0 q a w
  specifiers_node source q (Kind.VariableDeclaration variable.Var) a g w = absurd (true≢false (sym g))
  specifiers_node source q (Kind.VariableDeclaration variable.Let) a g w = absurd (true≢false (sym g))
  specifiers_node source q (Kind.VariableDeclaration variable.Const) a g w = absurd (true≢false (sym g))
  specifiers_node source q (Kind.Function function_kind.Declaration pure) a g w = absurd (true≢false (sym g))
  specifiers_node source q (Kind.Function function_kind.Expression pure) a g w = absurd (true≢false (sym g))
  specifiers_node source q (Kind.Function function_kind.Arrow pure) a g w = absurd (true≢false (sym g))
  specifiers_node source q k a g w = absurd (true≢false (sym g))

  pub specifiers_row : (source : Text) (at q : ℕ) (t : Forest) → well_placed (λ i. specifiers) at t ≡ true → times x (import_decls source t) ≤ count (named f x) (declared (bound_sought s) q t)
  specifiers_row source at q nothing w = no_less _
  specifiers_row source at q (absent r) w = specifiers_row source (suc at) q r w
  specifiers_row source at q (node k n a r) w =
      both_times (named f x) x (specifier_decls source k a (import_decls source a)) (import_decls source r) (declared_here (bound_sought s) q k) (declared (bound_below s k) (q + one_each k) a) (declared (bound_sought s) (q + node_count (alone k n a)) r)
      (specifiers_node source (q + one_each k) k a (placed_here (λ i. specifiers) at k n a r w) (placed_below (λ i. specifiers) at k n a r w))
      (specifiers_row source (suc at) (q + node_count (alone k n a)) r (placed_behind (λ i. specifiers) at k n a r w))
