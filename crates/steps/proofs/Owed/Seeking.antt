-- Wherever a declaration of an exported name may lie, a reference reads the name in the layer in which it would be declared.
use Rattle.std.proofs.Common.{◌≡◌, ◌∙◌, ℕ, suc, ◌+◌, ◌==◌, true, false, List, ◌∷◌, Some, option_map, if◌then◌else◌, not, ◌&&◌, Bool, refl, sym, ap, subst, true≢false}
use Rattle.js_syntax.specs.declared.node_kind.NodeKind.{NodeKind as Kind}
use Rattle.js_syntax.specs.declared.node_kind.NodeKind.TheVariants.{Program as program, Statements as statements, BlockStatement as block_statement, WithStatement as with_statement, LabeledStatement as labeled_statement, IfStatement as if_statement, SwitchStatement as switch_statement, Cases as cases, SwitchCase as switch_case, TryStatement as try_statement, CatchClause as catch_clause, WhileStatement as while_statement, DoWhileStatement as do_while_statement, ForStatement as for_statement, ForInStatement as for_in_statement, ForOfStatement as for_of_statement, Function as function, Class as class, VariableDeclaration as variable_declaration, Declarators as declarators, VariableDeclarator as variable_declarator, Parameters as parameters, BindingRest as binding_rest, BindingObject as binding_object, BindingArray as binding_array, BindingProperty as binding_property, BindingDefault as binding_default, Properties as properties, Elements as elements, ImportDeclaration as import_declaration, Specifiers as specifiers, ImportSpecifier as import_specifier, ImportDefaultSpecifier as import_default_specifier, ImportNamespaceSpecifier as import_namespace_specifier, ExportNamedDeclaration as export_named_declaration, ExportDefaultDeclaration as export_default_declaration}
use Rattle.js_syntax.specs.declared.kind.FunctionKind.TheVariants as function_kind
use Rattle.js_syntax.specs.declared.kind.ClassKind.TheVariants as class_kind
use Rattle.js_syntax.specs.declared.kind.VariableKind.TheVariants as variable_kind
use Rattle.js_syntax.specs.Node.{Note, Forest, nothing, node}
use Rattle.form_rules.specs.declared.sought.Sought.{Sought}
use Rattle.form_rules.specs.declared.sought.Sought.TheVariants.{Nothing as none, Names as names, Bound as bound, Scope as scope, Variables as variables, FunctionScope as function_scope, CatchScope as catch_scope}
use Rattle.form_rules.specs.Rules.{Exported, is_exported, first_below, locals_among}
use Rattle.scope_rules.specs.declared.layer.Layer.{Layer}
use Rattle.scope_rules.specs.declared.layer.Role.TheVariants.{Write as write}
use Rattle.scope_rules.specs.Context.{Context, inside, body_of, in_block, declares, below_it, used}
use Rattle.scope_rules.specs.Site.{Site, BindingSite, own_sites, opens_one, scope_count, sites, sites_of, bindings_among}
use Rattle.scope_rules.specs.Binding.{is_declared, binding_layer, named_in, binding_of}
use Rattle.scope_laws.specs.Exact.{Among}
use Rattle.steps.proofs.Naming.Lists.{either}
use Rattle.steps.proofs.Naming.Sites.{binding_second, binding_third, reference_second, reference_third}
use Rattle.steps.proofs.Naming.Unused.{declared}
use Rattle.steps.specs.Allowed.Free.{IsFree}
use Rattle.steps.specs.KeepForm.Sheds.{Row, row_below, exported_below, sought_inside}
use Rattle.steps.specs.KeepForm.Layout.{stands_right, is_laid_out}
use Rattle.steps.specs.Owed.Seeking.{Within, IsRead, AllRead, Seeks}
use Rattle.steps.proofs.Owed.Exports.{exported_is_read}

-- ---- what stands in a part of the tree stands in the tree

module _ (t : Forest) (cs : ℕ → Context) (at next : ℕ) (k : Kind) (n : Note) (a r : Forest) (within : Within t (sites cs at next (node k n a r))) where
  abbrev own : List Site
  own = own_sites (cs at) n k a

  abbrev below : List Site
  below = sites (inside (cs at) next k a) 0 (next + opens_one k a) a

  abbrev later : List Site
  later = sites cs (suc at) (next + scope_count (node k n a nothing)) r

  pub within_below : Within t below
  within_below = record { binding = λ b h. within.binding b (binding_second b own below later h); reference = λ x h. within.reference x (reference_second x own below later h) }

  pub within_later : Within t later
  within_later = record { binding = λ b h. within.binding b (binding_third b own below later h); reference = λ x h. within.reference x (reference_third x own below later h) }

-- ---- exported names

abbrev is_program : Kind → Bool
is_program (program source) = true
is_program k = false

program_read : (t : Forest) (row : Row) (c : Context) (next : ℕ) (k : Kind) (a : Forest) → Within t (sites (inside c next k a) 0 (next + opens_one k a) a) → stands_right row k a ≡ true → is_laid_out (row_below row k) a ≡ true → is_program k ≡ true
    → AllRead t (locals_among 0 (first_below a)) (body_of next)
program_read t row c next (program source) a within right laid is x h =
    let read = exported_is_read x (body_of next ∷ c.layers) (row_below row (program source)) (inside c next (program source) a) (next + opens_one (program source) a) a (λ i. refl) right laid h in
    record { reference = read.reference; stands = within.reference read.reference read.stands; name = read.name; rest = c.layers; layers = read.layers }
program_read t row c next k a within right laid is x h = absurd (true≢false (sym is))

seeks_below : (t : Forest) (s : Sought) (es : List Exported) (c : Context) (next : ℕ) (k : Kind) (a : Forest) (i : ℕ) → (is_program k ≡ true → AllRead t (locals_among 0 (first_below a)) (body_of next)) → Seeks t s es c
    → Seeks t (sought_inside s k) (exported_below es k a) (inside c next k a i)
seeks_below t s es c next (program source) a i top h = (top refl, top refl)
seeks_below t none es c next k a i top h = tt
seeks_below t (names f) es c next k a i top h = tt
seeks_below t (bound f) es c next declarators a i top h = h
seeks_below t (bound f) es c next variable_declarator a i top h = h
seeks_below t (bound f) es c next parameters a i top h = h
seeks_below t (bound f) es c next binding_object a i top h = h
seeks_below t (bound f) es c next properties a i top h = h
seeks_below t (bound f) es c next (binding_property key) a i top h = h
seeks_below t (bound f) es c next binding_array a i top h = h
seeks_below t (bound f) es c next elements a i top h = h
seeks_below t (bound f) es c next binding_default a i top h = h
seeks_below t (bound f) es c next binding_rest a i top h = h
seeks_below t (bound f) es c next specifiers a i top h = h
seeks_below t (bound f) es c next (import_specifier imported) a i top h = h
seeks_below t (bound f) es c next import_default_specifier a i top h = h
seeks_below t (bound f) es c next import_namespace_specifier a i top h = h
seeks_below t (bound f) es c next k a i top h = tt
seeks_below t (scope f) es c next statements a i top h = h
seeks_below t (scope f) es c next switch_case a i top h = h
seeks_below t (scope f) es c next (export_named_declaration source) a i top h = h
seeks_below t (scope f) es c next export_default_declaration a i top h = h
seeks_below t (scope f) es c next (variable_declaration variable_kind.Var) a i top h = h.1
seeks_below t (scope f) es c next (variable_declaration variable_kind.Let) a i top h = h.0
seeks_below t (scope f) es c next (variable_declaration variable_kind.Const) a i top h = h.0
seeks_below t (scope f) es c next (import_declaration source) a i top h = h.0
seeks_below t (scope f) es c next block_statement a i top h = h.1
seeks_below t (scope f) es c next if_statement a i top h = h.1
seeks_below t (scope f) es c next with_statement a i top h = either (λ (d : Context). AllRead t es d.variables) (i == 1) (in_block c next c.strict) (below_it c) h.1 h.1
seeks_below t (scope f) es c next (labeled_statement label) a i top h = h.1
seeks_below t (scope f) es c next switch_statement a i top h = either (λ (d : Context). AllRead t es d.variables) (i == 1) (in_block c next c.strict) (below_it c) h.1 h.1
seeks_below t (scope f) es c next cases a i top h = h.1
seeks_below t (scope f) es c next try_statement a i top h = h.1
seeks_below t (scope f) es c next catch_clause a i top h = either (λ (d : Context). AllRead t es d.variables) (i == 0) (declares (in_block c next c.strict) (body_of next) 16 false) (in_block c next c.strict) h.1 h.1
seeks_below t (scope f) es c next while_statement a i top h = h.1
seeks_below t (scope f) es c next do_while_statement a i top h = h.1
seeks_below t (scope f) es c next for_statement a i top h = h.1
seeks_below t (scope f) es c next for_in_statement a i top h = either (λ (d : Context). AllRead t es d.variables) (i == 0) (used write (in_block c next c.strict)) (in_block c next c.strict) h.1 h.1
seeks_below t (scope f) es c next for_of_statement a i top h = either (λ (d : Context). AllRead t es d.variables) (i == 0) (used write (in_block c next c.strict)) (in_block c next c.strict) h.1 h.1
seeks_below t (scope f) es c next (function function_kind.Declaration pure) a i top h = tt
seeks_below t (scope f) es c next (class class_kind.Declaration) a i top h = tt
seeks_below t (scope f) es c next k a i top h = tt
seeks_below t variables es c next (variable_declaration variable_kind.Var) a i top h = h
seeks_below t variables es c next statements a i top h = h
seeks_below t variables es c next switch_case a i top h = h
seeks_below t variables es c next (export_named_declaration source) a i top h = h
seeks_below t variables es c next block_statement a i top h = h
seeks_below t variables es c next if_statement a i top h = h
seeks_below t variables es c next with_statement a i top h = either (λ (d : Context). AllRead t es d.variables) (i == 1) (in_block c next c.strict) (below_it c) h h
seeks_below t variables es c next (labeled_statement label) a i top h = h
seeks_below t variables es c next switch_statement a i top h = either (λ (d : Context). AllRead t es d.variables) (i == 1) (in_block c next c.strict) (below_it c) h h
seeks_below t variables es c next cases a i top h = h
seeks_below t variables es c next try_statement a i top h = h
seeks_below t variables es c next catch_clause a i top h = either (λ (d : Context). AllRead t es d.variables) (i == 0) (declares (in_block c next c.strict) (body_of next) 16 false) (in_block c next c.strict) h h
seeks_below t variables es c next while_statement a i top h = h
seeks_below t variables es c next do_while_statement a i top h = h
seeks_below t variables es c next for_statement a i top h = h
seeks_below t variables es c next for_in_statement a i top h = either (λ (d : Context). AllRead t es d.variables) (i == 0) (used write (in_block c next c.strict)) (in_block c next c.strict) h h
seeks_below t variables es c next for_of_statement a i top h = either (λ (d : Context). AllRead t es d.variables) (i == 0) (used write (in_block c next c.strict)) (in_block c next c.strict) h h
seeks_below t variables es c next k a i top h = tt
seeks_below t function_scope es c next k a i top h = absurd h
seeks_below t (catch_scope f) es c next k a i top h = absurd h

-- further in
pub seeks_inside : (t : Forest) (row : Row) (s : Sought) (es : List Exported) (c : Context) (next : ℕ) (k : Kind) (a : Forest) (i : ℕ) → Within t (sites (inside c next k a) 0 (next + opens_one k a) a) → stands_right row k a ≡ true
    → is_laid_out (row_below row k) a ≡ true → Seeks t s es c → Seeks t (sought_inside s k) (exported_below es k a) (inside c next k a i)
seeks_inside t row s es c next k a i within right laid h = seeks_below t s es c next k a i (program_read t row c next k a within right laid) h

-- ---- what is free is not exported

layer_first : (bs : List BindingSite) (l : Layer) (rest : List Layer) (x : List ℕ) → is_declared bs l x ≡ true → binding_layer bs (l ∷ rest) x ≡ Some l
layer_first bs l rest x h = ap (λ b. if b then Some l else binding_layer bs rest x) h

-- a declaration of the name in this layer
pub record Declares (t : Forest) (x : List ℕ) (l : Layer) : Type 0 where
  pub site : BindingSite
  pub stands : Among site (bindings_among (sites_of t))
  pub layer : site.layer ≡ l
  pub name : site.name ≡ x

is_bound : (t : Forest) (x : List ℕ) (l : Layer) (d : Declares t x l) (r : IsRead t x l) → binding_of (bindings_among (sites_of t)) r.reference ≡ Some (named_in x l)
is_bound t x l d r =
    let bs = bindings_among (sites_of t) in
    let here : is_declared bs l x ≡ true = subst (λ (m : Layer). is_declared bs m x ≡ true) d.layer (subst (λ (y : List ℕ). is_declared bs d.site.layer y ≡ true) d.name (declared bs d.site d.stands)) in
    ap (λ ls. option_map (named_in r.reference.name) (binding_layer bs ls r.reference.name)) r.layers
    ∙ ap (λ (y : List ℕ). option_map (named_in y) (binding_layer bs (l ∷ r.rest) y)) r.name
    ∙ ap (λ o. option_map (named_in x) o) (layer_first bs l r.rest x here)

not_so : (b : Bool) → (b ≡ true → ⊥) → (not b && true) ≡ true
not_so true h = absurd (h refl)
not_so false h = refl

pub free_name : (t : Forest) (es : List Exported) (x : List ℕ) (l : Layer) → AllRead t es l → Declares t x l → IsFree t (named_in x l) → (not (is_exported x es) && true) ≡ true
free_name t es x l read d free = not_so (is_exported x es) (λ h. let r = read x h in free.unreferred r.reference r.stands (is_bound t x l d r))
