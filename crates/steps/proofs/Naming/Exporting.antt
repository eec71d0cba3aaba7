-- What an export exports is declared below it.
use Rattle.std.proofs.Common.{◌≡◌, ◌∙◌, ◌⊎◌, inl, inr, ℕ, suc, ◌+◌, Bool, true, false, ◌++◌, ◌||◌, if◌then◌else◌, ◌==◌, List, [], ◌∷◌, Some, None, bytes_eq, refl, sym, ap, true≢false}
use Rattle.std.proofs.lemmas.Bool.{and_parts, or_cases}
use Rattle.std.proofs.lemmas.Slice.Eq.{bytes_eq-Decides}
use Rattle.js_syntax.specs.declared.node_kind.NodeKind.{NodeKind as Kind}
use Rattle.js_syntax.specs.declared.scalar.SourceType.{SourceType}
use Rattle.js_syntax.specs.Node.{Forest, nothing, node, absent, Note}
use Rattle.js_syntax.specs.declared.kind.VariableKind.TheVariants as variable
use Rattle.js_syntax.specs.declared.kind.FunctionKind.{FunctionKind}
use Rattle.js_syntax.specs.declared.kind.FunctionKind.TheVariants as function_kind
use Rattle.form_rules.specs.Context.{is_module, is_strict_list}
use Rattle.js_meaning.specs.Value.{Text}
use Rattle.js_meaning.specs.Scope.{Way, waiting, Decl, named_so, all_so, behind, first_name, names_of, bound_names, vars_of, var_names, item_decls, lexical}
use Rattle.js_meaning.specs.Module.{names_in}
use Rattle.steps.specs.Names.{is_among, names_exported}
use Rattle.steps.proofs.Among.{among_joined}
use Rattle.scope_rules.specs.declared.layer.Layer.{Layer}
use Rattle.scope_rules.specs.Context.{Context, inside, body_of, in_block, in_body, below_it, declares, outermost}
use Rattle.scope_rules.specs.Site.{Site, own_sites, opens_one, scope_count, sites, bindings_among}
use Rattle.scope_laws.proofs.Bindings.{Declares}
use Rattle.steps.specs.Naming.Placed.{Sort, a_declaration, the_specifiers, an_import, the_statements, a_body, the_cases, a_case, an_export, plain, Place, no_node, names, parameters, code, program_list, module_items, declared, declaration, declarators, specifiers, cases, listed, others, sort_of, name_place, statements_place, specifier_place, place_below, fits, well_placed, is_none, has_plain_value, has_plain_values, is_well_placed}
use Rattle.steps.specs.Naming.Agreeing.{exports_at, exports}
use Rattle.steps.specs.Naming.Standing.{is_export, exported_sites, exported_declarations}
use Rattle.steps.proofs.Naming.Lists.{names_joined, names_so, either}
use Rattle.steps.proofs.Naming.Taking.{kept}
use Rattle.steps.proofs.Naming.Values.{value_here, values_below, values_behind}
use Rattle.steps.proofs.Naming.Sites.{binding_second, binding_third, binding_left, binding_right, placed_here, placed_below, placed_behind, never_stands}

in_either : (xs ys : List Text) (x : Text) → is_among (xs ++ ys) x ≡ true → (is_among xs x ≡ true) ⊎ (is_among ys x ≡ true)
in_either xs ys x e = or_cases (is_among xs x) (is_among ys x) (sym (among_joined xs ys x) ∙ e)

declared_in_either : (ds es : List Decl) (x : Text) → is_among (names_in (ds ++ es)) x ≡ true → (is_among (names_in ds) x ≡ true) ⊎ (is_among (names_in es) x ≡ true)
declared_in_either ds es x e = in_either (names_in ds) (names_in es) x (sym (ap (λ xs. is_among xs x) (names_joined ds es)) ∙ e)

none_among : (xs : List Text) (x : Text) → is_none xs ≡ true → is_among xs x ≡ true → ⊥
none_among [] x n e = true≢false (sym e)
none_among (y ∷ xs) x n e = true≢false (sym n)

-- ---- a declaration among the sites of a row

abbrev Site_of : (cs : ℕ → Context) (at next : ℕ) (t : Forest) → Layer → Text → Type 0
Site_of cs at next t l x = Declares (bindings_among (sites cs at next t)) l x

from_below : (cs : ℕ → Context) (at next : ℕ) (k : Kind) (n : Note) (a r : Forest) (l : Layer) (x : Text) → Site_of (inside (cs at) next k a) 0 (next + opens_one k a) a l x → Site_of cs at next (node k n a r) l x
from_below cs at next k n a r l x d = record {
  site = d.site;
  stands = binding_second d.site (own_sites (cs at) n k a) (sites (inside (cs at) next k a) 0 (next + opens_one k a) a) (sites cs (suc at) (next + scope_count (node k n a nothing)) r) d.stands;
  layer = d.layer;
  name = d.name;
}

from_behind : (cs : ℕ → Context) (at next : ℕ) (k : Kind) (n : Note) (a r : Forest) (l : Layer) (x : Text) → Site_of cs (suc at) (next + scope_count (node k n a nothing)) r l x → Site_of cs at next (node k n a r) l x
from_behind cs at next k n a r l x d = record {
  site = d.site;
  stands = binding_third d.site (own_sites (cs at) n k a) (sites (inside (cs at) next k a) 0 (next + opens_one k a) a) (sites cs (suc at) (next + scope_count (node k n a nothing)) r) d.stands;
  layer = d.layer;
  name = d.name;
}

-- a name
of_name : (cs : ℕ → Context) (at next : ℕ) (y : Text) (n : Note) (a r : Forest) (l : Layer) (x : Text) → (cs at).declaring.layer ≡ l → (bytes_eq y x || false) ≡ true → Site_of cs at next (node (Kind.BindingName y) n a r) l x
of_name cs at next y n a r l x is e = elim (or_cases (bytes_eq y x) false e) [
  | inl g ↦ record { site = record { id = n.id; name = y; layer = (cs at).declaring.layer; flags = (cs at).declaring.flags; is_pure = (cs at).declaring.is_pure; span = n.span }; stands = inl refl; layer = is; name = (bytes_eq-Decides y x).0 g }
  | inr g ↦ absurd (true≢false (sym g))
]

first_found : (cs : ℕ → Context) (at next : ℕ) (k : Kind) (n : Note) (a r : Forest) (l : Layer) (x : Text) → (cs at).declaring.layer ≡ l → fits names (sort_of k) ≡ true → is_among (names_of k (bound_names a)) x ≡ true → Site_of cs at next (node k n a r) l x
first_found cs at next (Kind.BindingName y) n a r l x is f e = of_name cs at next y n a r l x is e
first_found cs at next (Kind.VariableDeclaration variable.Var) n a r l x is f e = absurd (true≢false (sym f))
first_found cs at next (Kind.VariableDeclaration variable.Let) n a r l x is f e = absurd (true≢false (sym f))
first_found cs at next (Kind.VariableDeclaration variable.Const) n a r l x is f e = absurd (true≢false (sym f))
first_found cs at next (Kind.Function function_kind.Declaration pure) n a r l x is f e = absurd (true≢false (sym f))
first_found cs at next (Kind.Function function_kind.Expression pure) n a r l x is f e = absurd (true≢false (sym f))
first_found cs at next (Kind.Function function_kind.Arrow pure) n a r l x is f e = absurd (true≢false (sym f))
first_found cs at next k n a r l x is f e = absurd (true≢false (sym f))

-- below a declarator
in_declarator : (cs : ℕ → Context) (next : ℕ) (a : Forest) (l : Layer) (x : Text) → (cs 0).declaring.layer ≡ l → well_placed (λ i. if i == 0 then names else others) 0 a ≡ true → is_none (bound_names (behind a)) ≡ true → is_among (bound_names a) x ≡ true → Site_of cs 0 next a l x
in_declarator cs next nothing l x is w v e = absurd (true≢false (sym e))
in_declarator cs next (absent r) l x is w v e = absurd (none_among (bound_names r) x v e)
in_declarator cs next (node k n a r) l x is w v e = elim (in_either (names_of k (bound_names a)) (bound_names r) x e) [
  | inl g ↦ first_found cs 0 next k n a r l x is (placed_here (λ i. if i == 0 then names else others) 0 k n a r w) g
  | inr g ↦ absurd (none_among (bound_names r) x v g)
]

-- of declarators
a_declarator_found : (cs : ℕ → Context) (at next : ℕ) (k : Kind) (n : Note) (a r : Forest) (l : Layer) (x : Text) → (cs at).declaring.layer ≡ l → fits declarators (sort_of k) ≡ true → well_placed (place_below declarators k) 0 a ≡ true → has_plain_value k a ≡ true
    → is_among (names_of k (bound_names a)) x ≡ true → Site_of cs at next (node k n a r) l x
a_declarator_found cs at next Kind.VariableDeclarator n a r l x is f w v e = from_below cs at next Kind.VariableDeclarator n a r l x (in_declarator (inside (cs at) next Kind.VariableDeclarator a) (next + 0) a l x is w v e)
a_declarator_found cs at next (Kind.VariableDeclaration variable.Var) n a r l x is f w v e = absurd (true≢false (sym f))
a_declarator_found cs at next (Kind.VariableDeclaration variable.Let) n a r l x is f w v e = absurd (true≢false (sym f))
a_declarator_found cs at next (Kind.VariableDeclaration variable.Const) n a r l x is f w v e = absurd (true≢false (sym f))
a_declarator_found cs at next (Kind.Function function_kind.Declaration pure) n a r l x is f w v e = absurd (true≢false (sym f))
a_declarator_found cs at next (Kind.Function function_kind.Expression pure) n a r l x is f w v e = absurd (true≢false (sym f))
a_declarator_found cs at next (Kind.Function function_kind.Arrow pure) n a r l x is f w v e = absurd (true≢false (sym f))
a_declarator_found cs at next k n a r l x is f w v e = absurd (true≢false (sym f))

in_declarators : (cs : ℕ → Context) (at next : ℕ) (t : Forest) (l : Layer) (x : Text) → ((i : ℕ) → (cs i).declaring.layer ≡ l) → well_placed (λ i. declarators) at t ≡ true → has_plain_values t ≡ true → is_among (bound_names t) x ≡ true → Site_of cs at next t l x
in_declarators cs at next nothing l x is w v e = absurd (true≢false (sym e))
in_declarators cs at next (absent r) l x is w v e = in_declarators cs (suc at) next r l x is w v e
in_declarators cs at next (node k n a r) l x is w v e = elim (in_either (names_of k (bound_names a)) (bound_names r) x e) [
  | inl g ↦ a_declarator_found cs at next k n a r l x (is at) (placed_here (λ i. declarators) at k n a r w) (placed_below (λ i. declarators) at k n a r w) (value_here k n a r v) g
  | inr g ↦ from_behind cs at next k n a r l x (in_declarators cs (suc at) (next + scope_count (node k n a nothing)) r l x is (placed_behind (λ i. declarators) at k n a r w) (values_behind k n a r v) g)
]

-- below a variable declaration
declarators_found : (cs : ℕ → Context) (at next : ℕ) (k : Kind) (n : Note) (a r : Forest) (l : Layer) (x : Text) → (cs at).declaring.layer ≡ l → fits declaration (sort_of k) ≡ true → well_placed (place_below declaration k) 0 a ≡ true → has_plain_values a ≡ true
    → is_among (names_of k (bound_names a)) x ≡ true → Site_of cs at next (node k n a r) l x
declarators_found cs at next Kind.Declarators n a r l x is f w v e = from_below cs at next Kind.Declarators n a r l x (in_declarators (inside (cs at) next Kind.Declarators a) 0 (next + 0) a l x (λ i. is) w v e)
declarators_found cs at next (Kind.VariableDeclaration variable.Var) n a r l x is f w v e = absurd (true≢false (sym f))
declarators_found cs at next (Kind.VariableDeclaration variable.Let) n a r l x is f w v e = absurd (true≢false (sym f))
declarators_found cs at next (Kind.VariableDeclaration variable.Const) n a r l x is f w v e = absurd (true≢false (sym f))
declarators_found cs at next (Kind.Function function_kind.Declaration pure) n a r l x is f w v e = absurd (true≢false (sym f))
declarators_found cs at next (Kind.Function function_kind.Expression pure) n a r l x is f w v e = absurd (true≢false (sym f))
declarators_found cs at next (Kind.Function function_kind.Arrow pure) n a r l x is f w v e = absurd (true≢false (sym f))
declarators_found cs at next k n a r l x is f w v e = absurd (true≢false (sym f))

in_declaration : (cs : ℕ → Context) (at next : ℕ) (t : Forest) (l : Layer) (x : Text) → ((i : ℕ) → (cs i).declaring.layer ≡ l) → well_placed (λ i. declaration) at t ≡ true → has_plain_values t ≡ true → is_among (bound_names t) x ≡ true → Site_of cs at next t l x
in_declaration cs at next nothing l x is w v e = absurd (true≢false (sym e))
in_declaration cs at next (absent r) l x is w v e = in_declaration cs (suc at) next r l x is w v e
in_declaration cs at next (node k n a r) l x is w v e = elim (in_either (names_of k (bound_names a)) (bound_names r) x e) [
  | inl g ↦ declarators_found cs at next k n a r l x (is at) (placed_here (λ i. declaration) at k n a r w) (placed_below (λ i. declaration) at k n a r w) (values_below k n a r v) g
  | inr g ↦ from_behind cs at next k n a r l x (in_declaration cs (suc at) (next + scope_count (node k n a nothing)) r l x is (placed_behind (λ i. declaration) at k n a r w) (values_behind k n a r v) g)
]

-- ---- the names of `var`, outside of functions

abbrev is_function : Kind → Bool
is_function (Kind.Function f pure) = true
is_function k = false

variables_below : (p : Place) (c : Context) (next : ℕ) (k : Kind) (a : Forest) (i : ℕ) → fits p (sort_of k) ≡ true → is_function k ≡ false → (inside c next k a i).variables ≡ c.variables
variables_below p c next (Kind.Function how pure) a i f e = absurd (true≢false e)
variables_below p c next Kind.BlockStatement a i f e = refl
variables_below p c next Kind.ForStatement a i f e = refl
variables_below p c next Kind.CatchClause a i f e = either (λ (d : Context). d.variables ≡ c.variables) (i == 0) (declares (in_block c next c.strict) (body_of next) 16 false) (in_block c next c.strict) refl refl
variables_below p c next Kind.SwitchStatement a i f e = either (λ (d : Context). d.variables ≡ c.variables) (i == 1) (in_block c next c.strict) (below_it c) refl refl
variables_below p c next (Kind.VariableDeclaration variable.Var) a i f e = refl
variables_below p c next (Kind.VariableDeclaration variable.Let) a i f e = refl
variables_below p c next (Kind.VariableDeclaration variable.Const) a i f e = refl
variables_below p c next (Kind.ImportDeclaration source) a i f e = refl
variables_below p c next (Kind.Program source) a i f e = never_stands p f
variables_below p c next (Kind.Class how) a i f e = never_stands p f
variables_below p c next (Kind.PropertyDefinition is_static key) a i f e = never_stands p f
variables_below p c next Kind.StaticBlock a i f e = never_stands p f
variables_below p c next Kind.WithStatement a i f e = never_stands p f
variables_below p c next Kind.ForInStatement a i f e = never_stands p f
variables_below p c next Kind.ForOfStatement a i f e = never_stands p f
variables_below p c next k a i f e = (kept c next k a i refl).variables

abbrev FoundBelow : (c : Context) (next : ℕ) (k : Kind) (a : Forest) → Layer → Text → Type 0
FoundBelow c next k a l x = ((i : ℕ) → (inside c next k a i).variables ≡ l) → is_among (var_names a) x ≡ true → Site_of (inside c next k a) 0 (next + opens_one k a) a l x

variables_found : (p : Place) (c : Context) (next : ℕ) (k : Kind) (a : Forest) (l : Layer) (x : Text) → c.variables ≡ l → fits p (sort_of k) ≡ true → well_placed (place_below p k) 0 a ≡ true → has_plain_values a ≡ true
    → FoundBelow c next k a l x → is_among (vars_of k a (var_names a)) x ≡ true → Site_of (inside c next k a) 0 (next + opens_one k a) a l x
variables_found p c next (Kind.VariableDeclaration variable.Var) a l x is f w v found e = elim (in_either (bound_names a) (var_names a) x e) [
  | inl g ↦ in_declaration (inside c next (Kind.VariableDeclaration variable.Var) a) 0 (next + 0) a l x (λ i. is) w v g
  | inr g ↦ found (λ i. is) g
]
variables_found p c next (Kind.VariableDeclaration variable.Let) a l x is f w v found e = absurd (true≢false (sym e))
variables_found p c next (Kind.VariableDeclaration variable.Const) a l x is f w v found e = absurd (true≢false (sym e))
variables_found p c next (Kind.Function how pure) a l x is f w v found e = absurd (true≢false (sym e))
variables_found p c next (Kind.Class how) a l x is f w v found e = absurd (true≢false (sym e))
variables_found p c next k a l x is f w v found e = found (λ i. variables_below p c next k a i f refl ∙ is) e

in_variables_of : (ps : ℕ → Place) (cs : ℕ → Context) (at next : ℕ) (t : Forest) (l : Layer) (x : Text) → ((i : ℕ) → (cs i).variables ≡ l) → well_placed ps at t ≡ true → has_plain_values t ≡ true → is_among (var_names t) x ≡ true → Site_of cs at next t l x
in_variables_of ps cs at next nothing l x is w v e = absurd (true≢false (sym e))
in_variables_of ps cs at next (absent r) l x is w v e = in_variables_of ps cs (suc at) next r l x is w v e
in_variables_of ps cs at next (node k n a r) l x is w v e =
    by (in_either (vars_of k a (var_names a)) (var_names r) x e)
    (λ same. in_variables_of (place_below (ps at) k) (inside (cs at) next k a) 0 (next + opens_one k a) a l x same (placed_below ps at k n a r w) (values_below k n a r v))
    (in_variables_of ps cs (suc at) (next + scope_count (node k n a nothing)) r l x is (placed_behind ps at k n a r w) (values_behind k n a r v))
  where
    by : (is_among (vars_of k a (var_names a)) x ≡ true) ⊎ (is_among (var_names r) x ≡ true) → FoundBelow (cs at) next k a l x → (is_among (var_names r) x ≡ true → Site_of cs (suc at) (next + scope_count (node k n a nothing)) r l x) → Site_of cs at next (node k n a r) l x
    by (inl g) found rest = from_below cs at next k n a r l x (variables_found (ps at) (cs at) next k a l x (is at) (placed_here ps at k n a r w) (placed_below ps at k n a r w) (values_below k n a r v) found g)
    by (inr g) found rest = from_behind cs at next k n a r l x (rest g)

-- ---- the other names of an export

abbrev exported_place : Place → Bool
exported_place declared = true
exported_place listed = true
exported_place p = false

abbrev is_other_item : Sort → Bool
is_other_item an_import = true
is_other_item the_statements = true
is_other_item a_body = true
is_other_item the_cases = true
is_other_item a_case = true
is_other_item an_export = true
is_other_item s = false

other_items : {X : Type 0} (p : Place) (s : Sort) → exported_place p ≡ true → fits p s ≡ true → is_other_item s ≡ true → X
other_items declared a_declaration o f e = absurd (true≢false (sym e))
other_items declared the_specifiers o f e = absurd (true≢false (sym e))
other_items declared plain o f e = absurd (true≢false (sym e))
other_items declared s o f e = absurd (true≢false (sym f))
other_items listed the_specifiers o f e = absurd (true≢false (sym e))
other_items listed plain o f e = absurd (true≢false (sym e))
other_items listed s o f e = absurd (true≢false (sym f))
other_items p s o f e = absurd (true≢false (sym o))

of_all : (way : Way) (xs : List Text) (x : Text) → is_among (names_in (all_so way xs)) x ≡ true → is_among xs x ≡ true
of_all way xs x e = sym (ap (λ ys. is_among ys x) (names_so way xs)) ∙ e

function_found : (cs : ℕ → Context) (next : ℕ) (a : Forest) (l : Layer) (x : Text) (way : Way) → (cs 0).declaring.layer ≡ l → is_among (names_in (named_so way (first_name a))) x ≡ true → Site_of cs 0 next a l x
function_found cs next nothing l x way is e = absurd (true≢false (sym e))
function_found cs next (absent r) l x way is e = absurd (true≢false (sym e))
function_found cs next (node (Kind.BindingName y) n a r) l x way is e = of_name cs 0 next y n a r l x is e
function_found cs next (node k n a r) l x way is e = absurd (true≢false (sym e))

item_found : (p : Place) (c : Context) (next : ℕ) (k : Kind) (a : Forest) (l : Layer) (x : Text) → exported_place p ≡ true → c.block ≡ l → fits p (sort_of k) ≡ true → well_placed (place_below p k) 0 a ≡ true → has_plain_values a ≡ true
    → is_among (names_in (item_decls k a (lexical a))) x ≡ true → Site_of (inside c next k a) 0 (next + opens_one k a) a l x
item_found p c next (Kind.VariableDeclaration variable.Let) a l x o is f w v e = in_declaration (inside c next (Kind.VariableDeclaration variable.Let) a) 0 (next + 0) a l x (λ i. is) w v (of_all (waiting false) (bound_names a) x e)
item_found p c next (Kind.VariableDeclaration variable.Const) a l x o is f w v e = in_declaration (inside c next (Kind.VariableDeclaration variable.Const) a) 0 (next + 0) a l x (λ i. is) w v (of_all (waiting true) (bound_names a) x e)
item_found p c next (Kind.VariableDeclaration variable.Var) a l x o is f w v e = absurd (true≢false (sym e))
item_found p c next (Kind.Function function_kind.Declaration pure) a l x o is f w v e = function_found (inside c next (Kind.Function function_kind.Declaration pure) a) (next + 1) a l x (waiting false) is e
item_found p c next (Kind.Function function_kind.Expression pure) a l x o is f w v e = absurd (true≢false (sym e))
item_found p c next (Kind.Function function_kind.Arrow pure) a l x o is f w v e = absurd (true≢false (sym e))
item_found p c next (Kind.Class how) a l x o is f w v e = never_stands p f
item_found p c next (Kind.ImportDeclaration source) a l x o is f w v e = other_items p an_import o f refl
item_found p c next Kind.Statements a l x o is f w v e = other_items p the_statements o f refl
item_found p c next Kind.FunctionBody a l x o is f w v e = other_items p a_body o f refl
item_found p c next Kind.Cases a l x o is f w v e = other_items p the_cases o f refl
item_found p c next Kind.SwitchCase a l x o is f w v e = other_items p a_case o f refl
item_found p c next (Kind.ExportNamedDeclaration source) a l x o is f w v e = other_items p an_export o f refl
item_found p c next Kind.ExportDefaultDeclaration a l x o is f w v e = other_items p an_export o f refl
item_found p c next k a l x o is f w v e = absurd (true≢false (sym e))

in_export : (p : Place) (cs : ℕ → Context) (at next : ℕ) (t : Forest) (l : Layer) (x : Text) → exported_place p ≡ true → ((i : ℕ) → (cs i).block ≡ l) → well_placed (λ i. p) at t ≡ true → has_plain_values t ≡ true → is_among (names_in (lexical t)) x ≡ true → Site_of cs at next t l x
in_export p cs at next nothing l x o is w v e = absurd (true≢false (sym e))
in_export p cs at next (absent r) l x o is w v e = in_export p cs (suc at) next r l x o is w v e
in_export p cs at next (node k n a r) l x o is w v e = elim (declared_in_either (item_decls k a (lexical a)) (lexical r) x e) [
  | inl g ↦ from_below cs at next k n a r l x (item_found p (cs at) next k a l x o (is at) (placed_here (λ i. p) at k n a r w) (placed_below (λ i. p) at k n a r w) (values_below k n a r v) g)
  | inr g ↦ from_behind cs at next k n a r l x (in_export p cs (suc at) (next + scope_count (node k n a nothing)) r l x o is (placed_behind (λ i. p) at k n a r w) (values_behind k n a r v) g)
]

-- ---- exports stand in a program's own list

abbrev pub is_inner : Place → Bool
is_inner program_list = false
is_inner module_items = false
is_inner p = true

no_export_fits : (p : Place) → is_inner p ≡ true → fits p an_export ≡ true → ⊥
no_export_fits module_items i f = true≢false (sym i)
no_export_fits p i f = true≢false (sym f)

inner_list : (p : Place) → is_inner p ≡ true → is_inner (statements_place p) ≡ true
inner_list program_list e = e
inner_list p e = refl

inner_specifiers : (p : Place) → is_inner (specifier_place p) ≡ true
inner_specifiers specifiers = refl
inner_specifiers p = refl

pub inner_name : (f : FunctionKind) → is_inner (name_place f) ≡ true
inner_name function_kind.Declaration = refl
inner_name function_kind.Expression = refl
inner_name function_kind.Arrow = refl

pub two_inner : (b : Bool) (p q : Place) → is_inner p ≡ true → is_inner q ≡ true → is_inner (if b then p else q) ≡ true
two_inner b p q e f = either (λ u. is_inner u ≡ true) b p q e f

-- below a node that isn't the list, whatever its place
inner_below : (p : Place) (k : Kind) (i : ℕ) → fits p (sort_of k) ≡ true → (is_inner p ≡ true) ⊎ (p ≡ module_items) → is_inner (place_below p k i) ≡ true
inner_below p Kind.Statements i f (inl e) = inner_list p e
inner_below p Kind.Statements i f (inr e) = absurd (true≢false (sym f ∙ ap (λ q. fits q the_statements) e))
inner_below p Kind.Specifiers i f e = inner_specifiers p
inner_below p (Kind.Function g pure) i f e = two_inner (i == 0) (name_place g) (if i == 1 then parameters else code) (inner_name g) (two_inner (i == 1) parameters code refl refl)
inner_below p Kind.VariableDeclarator i f e = two_inner (i == 0) names others refl refl
inner_below p Kind.CatchClause i f e = two_inner (i == 0) names others refl refl
inner_below p Kind.ForStatement i f e = two_inner (i == 0) declared others refl refl
inner_below p Kind.SwitchStatement i f e = two_inner (i == 1) cases others refl refl
inner_below p (Kind.ImportSpecifier name) i f e = two_inner (i == 0) names no_node refl refl
inner_below p Kind.ImportDefaultSpecifier i f e = two_inner (i == 0) names no_node refl refl
inner_below p Kind.ImportNamespaceSpecifier i f e = two_inner (i == 0) names no_node refl refl
inner_below p (Kind.ExportNamedDeclaration None) i f e = refl
inner_below p (Kind.ExportNamedDeclaration (Some source)) i f e = refl
inner_below p (Kind.Program source) i f e = never_stands p f
inner_below p k i f e = refl

no_export_here : (p : Place) (x : Text) (k : Kind) (a : Forest) → is_inner p ≡ true → fits p (sort_of k) ≡ true → exports_at x k a (exports x a) ≡ true → exports x a ≡ true
no_export_here p x (Kind.ExportNamedDeclaration source) a i f e = absurd (no_export_fits p i f)
no_export_here p x Kind.ExportDefaultDeclaration a i f e = absurd (no_export_fits p i f)
no_export_here p x k a i f e = e

pub no_exports : (x : Text) (ps : ℕ → Place) (at : ℕ) (t : Forest) → ((i : ℕ) → is_inner (ps i) ≡ true) → well_placed ps at t ≡ true → exports x t ≡ true → ⊥
no_exports x ps at nothing inner w e = true≢false (sym e)
no_exports x ps at (absent r) inner w e = no_exports x ps (suc at) r inner w e
no_exports x ps at (node k n a r) inner w e =
    by (or_cases (exports_at x k a (exports x a)) (exports x r) e)
    (no_exports x (place_below (ps at) k) 0 a (λ i. inner_below (ps at) k i (placed_here ps at k n a r w) (inl (inner at))) (placed_below ps at k n a r w))
    (no_exports x ps (suc at) r inner (placed_behind ps at k n a r w))
  where
    by : (exports_at x k a (exports x a) ≡ true) ⊎ (exports x r ≡ true) → (exports x a ≡ true → ⊥) → (exports x r ≡ true → ⊥) → ⊥
    by (inl g) below rest = below (no_export_here (ps at) x k a (inner at) (placed_here ps at k n a r w) g)
    by (inr g) below rest = rest g

-- ---- what a program exports

abbrev Exported : (cs : ℕ → Context) (at next : ℕ) (t : Forest) → Layer → Text → Type 0
Exported cs at next t l x = Declares (bindings_among (exported_sites cs at next t)) l x

exported_first : (xs ys : List Site) (l : Layer) (x : Text) → Declares (bindings_among xs) l x → Declares (bindings_among (xs ++ ys)) l x
exported_first xs ys l x d = record { site = d.site; stands = binding_left d.site xs ys d.stands; layer = d.layer; name = d.name }

exported_second : (xs ys : List Site) (l : Layer) (x : Text) → Declares (bindings_among ys) l x → Declares (bindings_among (xs ++ ys)) l x
exported_second xs ys l x d = record { site = d.site; stands = binding_right d.site xs ys d.stands; layer = d.layer; name = d.name }

exported_behind : (cs : ℕ → Context) (at next : ℕ) (k : Kind) (n : Note) (a r : Forest) (l : Layer) (x : Text) → Exported cs (suc at) (next + scope_count (node k n a nothing)) r l x → Exported cs at next (node k n a r) l x
exported_behind cs at next k n a r l x d = exported_second
    (if is_export k then sites (inside (cs at) next k a) 0 (next + opens_one k a) a else exported_sites (inside (cs at) next k a) 0 (next + opens_one k a) a)
    (exported_sites cs (suc at) (next + scope_count (node k n a nothing)) r) l x d

exports_found : (p : Place) (cs : ℕ → Context) (next : ℕ) (a : Forest) (l : Layer) (x : Text) → exported_place p ≡ true → ((i : ℕ) → (cs i).block ≡ l) → ((i : ℕ) → (cs i).variables ≡ l) → well_placed (λ i. p) 0 a ≡ true → has_plain_values a ≡ true
    → is_among (names_exported a) x ≡ true → Site_of cs 0 next a l x
exports_found p cs next a l x o is_block is_variables w v e = elim (in_either (var_names a) (names_in (lexical a)) x e) [
  | inl g ↦ in_variables_of (λ i. p) cs 0 next a l x is_variables w v g
  | inr g ↦ in_export p cs 0 next a l x o is_block w v g
]

inner_exported : (p : Place) → exported_place p ≡ true → is_inner p ≡ true
inner_exported module_items e = e
inner_exported program_list e = e
inner_exported p e = refl

an_export_found : (p : Place) (cs : ℕ → Context) (next : ℕ) (a : Forest) (l : Layer) (x : Text) → exported_place p ≡ true → ((i : ℕ) → (cs i).block ≡ l) → ((i : ℕ) → (cs i).variables ≡ l) → well_placed (λ i. p) 0 a ≡ true → has_plain_values a ≡ true
    → (is_among (names_exported a) x || exports x a) ≡ true → Site_of cs 0 next a l x
an_export_found p cs next a l x o is_block is_variables w v e = elim (or_cases (is_among (names_exported a) x) (exports x a) e) [
  | inl g ↦ exports_found p cs next a l x o is_block is_variables w v g
  | inr g ↦ absurd (no_exports x (λ i. p) 0 a (λ i. inner_exported p o) w g)
]

item_exported : (cs : ℕ → Context) (at next : ℕ) (k : Kind) (n : Note) (a r : Forest) (l : Layer) (x : Text) → (cs at).block ≡ l → (cs at).variables ≡ l → fits module_items (sort_of k) ≡ true → well_placed (place_below module_items k) 0 a ≡ true → has_plain_values a ≡ true
    → exports_at x k a (exports x a) ≡ true → Exported cs at next (node k n a r) l x
item_exported cs at next (Kind.ExportNamedDeclaration None) n a r l x is_block is_variables f w v e =
    exported_first (sites (inside (cs at) next (Kind.ExportNamedDeclaration None) a) 0 (next + 0) a) (exported_sites cs (suc at) (next + scope_count (node (Kind.ExportNamedDeclaration None) n a nothing)) r) l x (an_export_found declared (inside (cs at) next (Kind.ExportNamedDeclaration None) a) (next + 0) a l x refl (λ i. is_block) (λ i. is_variables) w v e)
item_exported cs at next (Kind.ExportNamedDeclaration (Some source)) n a r l x is_block is_variables f w v e =
    exported_first (sites (inside (cs at) next (Kind.ExportNamedDeclaration (Some source)) a) 0 (next + 0) a) (exported_sites cs (suc at) (next + scope_count (node (Kind.ExportNamedDeclaration (Some source)) n a nothing)) r) l x (an_export_found listed (inside (cs at) next (Kind.ExportNamedDeclaration (Some source)) a) (next + 0) a l x refl (λ i. is_block) (λ i. is_variables) w v e)
item_exported cs at next Kind.ExportDefaultDeclaration n a r l x is_block is_variables f w v e =
    exported_first (sites (inside (cs at) next Kind.ExportDefaultDeclaration a) 0 (next + 0) a) (exported_sites cs (suc at) (next + scope_count (node Kind.ExportDefaultDeclaration n a nothing)) r) l x (an_export_found declared (inside (cs at) next Kind.ExportDefaultDeclaration a) (next + 0) a l x refl (λ i. is_block) (λ i. is_variables) w v e)
item_exported cs at next k n a r l x is_block is_variables f w v e = absurd (no_exports x (place_below module_items k) 0 a (λ i. inner_below module_items k i f (inr refl)) w e)

items_exported : (cs : ℕ → Context) (at next : ℕ) (t : Forest) (l : Layer) (x : Text) → ((i : ℕ) → (cs i).block ≡ l) → ((i : ℕ) → (cs i).variables ≡ l) → well_placed (λ i. module_items) at t ≡ true → has_plain_values t ≡ true → exports x t ≡ true → Exported cs at next t l x
items_exported cs at next nothing l x is_block is_variables w v e = absurd (true≢false (sym e))
items_exported cs at next (absent r) l x is_block is_variables w v e = items_exported cs (suc at) next r l x is_block is_variables w v e
items_exported cs at next (node k n a r) l x is_block is_variables w v e = elim (or_cases (exports_at x k a (exports x a)) (exports x r) e) [
  | inl g ↦ item_exported cs at next k n a r l x (is_block at) (is_variables at) (placed_here (λ i. module_items) at k n a r w) (placed_below (λ i. module_items) at k n a r w) (values_below k n a r v) g
  | inr g ↦ exported_behind cs at next k n a r l x (items_exported cs (suc at) (next + scope_count (node k n a nothing)) r l x is_block is_variables (placed_behind (λ i. module_items) at k n a r w) (values_behind k n a r v) g)
]

list_exported : (cs : ℕ → Context) (at next : ℕ) (k : Kind) (n : Note) (a r : Forest) (l : Layer) (x : Text) → (cs at).block ≡ l → (cs at).variables ≡ l → fits program_list (sort_of k) ≡ true → well_placed (place_below program_list k) 0 a ≡ true → has_plain_values a ≡ true
    → exports_at x k a (exports x a) ≡ true → Exported cs at next (node k n a r) l x
list_exported cs at next Kind.Statements n a r l x is_block is_variables f w v e =
    exported_first (exported_sites (inside (cs at) next Kind.Statements a) 0 (next + 0) a) (exported_sites cs (suc at) (next + scope_count (node Kind.Statements n a nothing)) r) l x (items_exported (inside (cs at) next Kind.Statements a) 0 (next + 0) a l x (λ i. is_block) (λ i. is_variables) w v e)
list_exported cs at next (Kind.VariableDeclaration variable.Var) n a r l x is_block is_variables f w v e = absurd (true≢false (sym f))
list_exported cs at next (Kind.VariableDeclaration variable.Let) n a r l x is_block is_variables f w v e = absurd (true≢false (sym f))
list_exported cs at next (Kind.VariableDeclaration variable.Const) n a r l x is_block is_variables f w v e = absurd (true≢false (sym f))
list_exported cs at next (Kind.Function function_kind.Declaration pure) n a r l x is_block is_variables f w v e = absurd (true≢false (sym f))
list_exported cs at next (Kind.Function function_kind.Expression pure) n a r l x is_block is_variables f w v e = absurd (true≢false (sym f))
list_exported cs at next (Kind.Function function_kind.Arrow pure) n a r l x is_block is_variables f w v e = absurd (true≢false (sym f))
list_exported cs at next k n a r l x is_block is_variables f w v e = absurd (true≢false (sym f))

lists_exported : (cs : ℕ → Context) (at next : ℕ) (t : Forest) (l : Layer) (x : Text) → ((i : ℕ) → (cs i).block ≡ l) → ((i : ℕ) → (cs i).variables ≡ l) → well_placed (λ i. program_list) at t ≡ true → has_plain_values t ≡ true → exports x t ≡ true → Exported cs at next t l x
lists_exported cs at next nothing l x is_block is_variables w v e = absurd (true≢false (sym e))
lists_exported cs at next (absent r) l x is_block is_variables w v e = lists_exported cs (suc at) next r l x is_block is_variables w v e
lists_exported cs at next (node k n a r) l x is_block is_variables w v e = elim (or_cases (exports_at x k a (exports x a)) (exports x r) e) [
  | inl g ↦ list_exported cs at next k n a r l x (is_block at) (is_variables at) (placed_here (λ i. program_list) at k n a r w) (placed_below (λ i. program_list) at k n a r w) (values_below k n a r v) g
  | inr g ↦ exported_behind cs at next k n a r l x (lists_exported cs (suc at) (next + scope_count (node k n a nothing)) r l x is_block is_variables (placed_behind (λ i. program_list) at k n a r w) (values_behind k n a r v) g)
]

pub program_exports : (source : SourceType) (n : Note) (a : Forest) (x : Text) → is_well_placed (node (Kind.Program source) n a nothing) ≡ true → exports x a ≡ true → Declares (exported_declarations (node (Kind.Program source) n a nothing)) (body_of 0) x
program_exports source n a x w e =
    let both = and_parts (well_placed (place_below others (Kind.Program source)) 0 a) (has_plain_values a) w in
    exported_first (exported_sites (λ i. in_body outermost 0 (is_module source || is_strict_list a)) 0 1 a) [] (body_of 0) x (lists_exported (λ i. in_body outermost 0 (is_module source || is_strict_list a)) 0 1 a (body_of 0) x (λ i. refl) (λ i. refl) both.0 both.1 e)
