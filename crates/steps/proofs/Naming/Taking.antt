-- What the places take, and whose contexts nodes keep.
use Rattle.std.proofs.Common.{◌≡◌, ℕ, Bool, true, false, ◌==◌, ◌∙◌, refl, sym, true≢false}
use Rattle.js_syntax.specs.declared.node_kind.NodeKind.{NodeKind as Kind}
use Rattle.js_syntax.specs.Node.{Forest}
use Rattle.js_syntax.specs.declared.kind.MethodKind.{MethodKind}
use Rattle.js_syntax.specs.declared.kind.MethodKind.TheVariants as method_kind
use Rattle.scope_rules.specs.Context.{Context, inside, of_method, below_it, used, role_of, role_of_object}
use Rattle.scope_rules.specs.declared.layer.Role.TheVariants.{Write as write}
use Rattle.steps.specs.Naming.Placed.{Sort, a_name, the_parameters, a_declarator, the_declarators, a_declaration, an_import, the_specifiers, an_imported, the_statements, a_body, the_cases, a_case, an_export, plain, never, Place, no_node, names, parameters, code, program_list, module_items, lists, items, declared, declaration, declarators, specifiers, imports, cases, case_items, listed, others, fits}
use Rattle.steps.proofs.Naming.Lists.{either}

-- ---- sorts

abbrev pub has_items : Sort → Bool
has_items a_declaration = true
has_items an_import = true
has_items the_statements = true
has_items a_body = true
has_items the_cases = true
has_items a_case = true
has_items an_export = true
has_items s = false

abbrev pub has_vars : Sort → Bool
has_vars a_name = false
has_vars the_parameters = false
has_vars s = true

abbrev pub is_binder : Sort → Bool
is_binder a_name = true
is_binder the_parameters = true
is_binder a_declarator = true
is_binder the_declarators = true
is_binder s = false

-- ---- places

abbrev pub takes_items : Place → Bool
takes_items code = true
takes_items program_list = true
takes_items module_items = true
takes_items lists = true
takes_items items = true
takes_items declared = true
takes_items cases = true
takes_items case_items = true
takes_items p = false

abbrev pub takes_vars : Place → Bool
takes_vars no_node = false
takes_vars names = false
takes_vars parameters = false
takes_vars p = true

abbrev pub takes_names : Place → Bool
takes_names names = true
takes_names parameters = true
takes_names declaration = true
takes_names declarators = true
takes_names p = false

abbrev pub takes_imports : Place → Bool
takes_imports specifiers = true
takes_imports imports = true
takes_imports p = false

pub items_fit : (p : Place) (s : Sort) → fits p s ≡ true → has_items s ≡ true → takes_items p ≡ true
items_fit code s e f = refl
items_fit program_list s e f = refl
items_fit module_items s e f = refl
items_fit lists s e f = refl
items_fit items s e f = refl
items_fit declared s e f = refl
items_fit cases s e f = refl
items_fit case_items s e f = refl
items_fit names a_name e f = f
items_fit parameters the_parameters e f = f
items_fit declaration the_declarators e f = f
items_fit declarators a_declarator e f = f
items_fit specifiers the_specifiers e f = f
items_fit imports an_imported e f = f
items_fit listed the_specifiers e f = f
items_fit listed plain e f = f
items_fit others plain e f = f
items_fit p s e f = absurd (true≢false (sym e))

pub vars_fit : (p : Place) (s : Sort) → fits p s ≡ true → has_vars s ≡ true → takes_vars p ≡ true
vars_fit names a_name e f = f
vars_fit names s e f = absurd (true≢false (sym e))
vars_fit parameters the_parameters e f = f
vars_fit parameters s e f = absurd (true≢false (sym e))
vars_fit no_node s e f = absurd (true≢false (sym e))
vars_fit p s e f = refl

pub names_fit : (p : Place) (s : Sort) → fits p s ≡ true → is_binder s ≡ true → takes_names p ≡ true
names_fit names s e f = refl
names_fit parameters s e f = refl
names_fit declaration s e f = refl
names_fit declarators s e f = refl
names_fit code a_body e f = f
names_fit code plain e f = f
names_fit lists the_statements e f = f
names_fit lists plain e f = f
names_fit program_list the_statements e f = f
names_fit module_items a_declaration e f = f
names_fit module_items an_import e f = f
names_fit module_items an_export e f = f
names_fit module_items plain e f = f
names_fit items a_declaration e f = f
names_fit items plain e f = f
names_fit declared a_declaration e f = f
names_fit declared the_specifiers e f = f
names_fit declared plain e f = f
names_fit specifiers the_specifiers e f = f
names_fit imports an_imported e f = f
names_fit cases the_cases e f = f
names_fit case_items a_case e f = f
names_fit listed the_specifiers e f = f
names_fit listed plain e f = f
names_fit others plain e f = f
names_fit p s e f = absurd (true≢false (sym e))

pub imports_fit : (p : Place) → fits p an_imported ≡ true → takes_imports p ≡ true
imports_fit imports e = refl
imports_fit p e = absurd (true≢false (sym e))

pub never_fits : (p : Place) → fits p never ≡ true → ⊥
never_fits p e = true≢false (sym e ∙ none p)
  where
    none : (p : Place) → fits p never ≡ false
    none no_node = refl
    none p = refl

-- ---- kinds whose contexts below are those of the node, as far as names ask

abbrev pub keeps : Kind → Bool
keeps (Kind.Program source) = false
keeps (Kind.Function f pure) = false
keeps (Kind.Class how) = false
keeps Kind.StaticBlock = false
keeps (Kind.PropertyDefinition is_static key) = false
keeps Kind.BlockStatement = false
keeps Kind.SwitchStatement = false
keeps Kind.WithStatement = false
keeps Kind.CatchClause = false
keeps Kind.ForStatement = false
keeps Kind.ForInStatement = false
keeps Kind.ForOfStatement = false
keeps (Kind.VariableDeclaration how) = false
keeps (Kind.ImportDeclaration source) = false
keeps k = true

pub record Kept (d c : Context) : Type 0 where
  pub layers : d.layers ≡ c.layers
  pub block : d.block ≡ c.block
  pub variables : d.variables ≡ c.variables
  pub declares : d.declaring.layer ≡ c.declaring.layer

kept_below : (c : Context) → Kept (below_it c) c
kept_below c = record { layers = refl; block = refl; variables = refl; declares = refl }

kept_method : (c : Context) (how : MethodKind) → Kept (of_method c how) c
kept_method c method_kind.Constructor = record { layers = refl; block = refl; variables = refl; declares = refl }
kept_method c how = record { layers = refl; block = refl; variables = refl; declares = refl }

pub kept : (c : Context) (next : ℕ) (k : Kind) (a : Forest) (i : ℕ) → keeps k ≡ true → Kept (inside c next k a i) c
kept c next (Kind.MethodDefinition how is_static key) a i e = either (λ d. Kept d c) (i == 1) (of_method c how) (below_it c) (kept_method c how) (kept_below c)
kept c next (Kind.AssignmentExpression operator) a i e = either (λ d. Kept d c) (i == 0) (used (role_of operator) c) (below_it c) (record { layers = refl; block = refl; variables = refl; declares = refl }) (kept_below c)
kept c next (Kind.MemberExpression key optional) a i e = either (λ d. Kept d c) (i == 0) (used (role_of_object c.role) c) (below_it c) (record { layers = refl; block = refl; variables = refl; declares = refl }) (kept_below c)
kept c next (Kind.TargetProperty key) a i e = either (λ d. Kept d c) (i == 1) (used write c) (below_it c) (record { layers = refl; block = refl; variables = refl; declares = refl }) (kept_below c)
kept c next Kind.TargetDefault a i e = either (λ d. Kept d c) (i == 0) (used write c) (below_it c) (record { layers = refl; block = refl; variables = refl; declares = refl }) (kept_below c)
kept c next (Kind.Program source) a i e = absurd (true≢false (sym e))
kept c next (Kind.Function f pure) a i e = absurd (true≢false (sym e))
kept c next (Kind.Class how) a i e = absurd (true≢false (sym e))
kept c next Kind.StaticBlock a i e = absurd (true≢false (sym e))
kept c next (Kind.PropertyDefinition is_static key) a i e = absurd (true≢false (sym e))
kept c next Kind.BlockStatement a i e = absurd (true≢false (sym e))
kept c next Kind.SwitchStatement a i e = absurd (true≢false (sym e))
kept c next Kind.WithStatement a i e = absurd (true≢false (sym e))
kept c next Kind.CatchClause a i e = absurd (true≢false (sym e))
kept c next Kind.ForStatement a i e = absurd (true≢false (sym e))
kept c next Kind.ForInStatement a i e = absurd (true≢false (sym e))
kept c next Kind.ForOfStatement a i e = absurd (true≢false (sym e))
kept c next (Kind.VariableDeclaration how) a i e = absurd (true≢false (sym e))
kept c next (Kind.ImportDeclaration source) a i e = absurd (true≢false (sym e))
kept c next k a i e = record { layers = refl; block = refl; variables = refl; declares = refl }
