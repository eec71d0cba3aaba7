-- Rows of nodes that declare no names.
use Rattle.std.proofs.Common.{◌≡◌, ◌∙◌, inl, inr, ℕ, suc, List, [], ◌++◌, Bool, true, false, ◌==◌, if◌then◌else◌, Some, None, refl, sym, ap, subst, true≢false}
use Rattle.std.proofs.lemmas.List.{append-nil}
use Rattle.js_syntax.specs.declared.node_kind.NodeKind.{NodeKind as Kind}
use Rattle.js_syntax.specs.declared.kind.FunctionKind.{FunctionKind}
use Rattle.js_syntax.specs.declared.kind.FunctionKind.TheVariants as function_kind
use Rattle.js_syntax.specs.declared.kind.VariableKind.TheVariants as variable
use Rattle.js_syntax.specs.declared.scalar.SourceType.{SourceType}
use Rattle.js_syntax.specs.declared.scalar.SourceType.TheVariants as source_type
use Rattle.js_syntax.specs.Node.{Note, Forest, Tree, nothing, node, absent, below_of}
use Rattle.js_meaning.specs.Value.{Text}
use Rattle.js_meaning.specs.Scope as scope
use Rattle.js_meaning.specs.Scope.{names_of, bound_names, vars_of, var_names, specifier_decls, import_decls}
use Rattle.js_meaning_near.specs.Near.{is_calm, module_of}
use Rattle.js_meaning_near.specs.Local.{Plainly}
use Rattle.js_meaning_near.proofs.Local.{calm_names, calm_vars, calm_specifier}
use Rattle.scope_laws.specs.Place.{Around, first, behind, behind_none, under, plug}
use Rattle.steps.specs.Allowed.Branches.{lets_only_at, lets_only, is_handler, inside_or_parameter, inside_from, stays_inside, none_or_parameter, none_from, declares_none}
use Rattle.steps.proofs.KeepForm.Rules.{first_empty, second_empty, both_empty}
use Rattle.steps.proofs.KeepRuns.Lists.{no_vars}
use Rattle.steps.specs.Owed.Comes.{DeclaresSame}
use Rattle.steps.specs.Naming.Placed.{Place, no_node, names, parameters, code, program_list, module_items, declared, specifiers, imports, cases, others, fits, sort_of, an_import, an_imported, name_place, statements_place, specifier_place, place_below, well_placed, has_plain_values, is_well_placed}
use Rattle.steps.proofs.Naming.Lists.{either}
use Rattle.steps.proofs.Naming.Sites.{placed_here, placed_below, placed_behind}
use Rattle.steps.proofs.Naming.Taking.{never_fits}
use Rattle.js_syntax.proofs.Truth.{first_of_both, second_of_both}

-- ---- no variables

lets_have : (k : Kind) (lets : Bool) (xs : List Text) (a : Forest) → lets_only_at k lets ≡ true → (lets ≡ true → xs ≡ []) → vars_of k a xs ≡ []
lets_have (Kind.VariableDeclaration how) lets xs a h to = absurd (true≢false (sym h))
lets_have (Kind.Function f pure) lets xs a h to = refl
lets_have (Kind.Class c) lets xs a h to = refl
lets_have k lets xs a h to = to h

-- what declares as `let` does declares no variable
lets_have_none : (t : Forest) → lets_only t ≡ true → var_names t ≡ []
lets_have_none nothing h = refl
lets_have_none (absent r) h = lets_have_none r h
lets_have_none (node k n a r) h =
    let here = lets_only_at k (lets_only a) in
    both_empty (vars_of k a (var_names a)) (var_names r) (lets_have k (lets_only a) (var_names a) a (first_of_both here (lets_only r) h) (lets_have_none a)) (lets_have_none r (second_of_both here (lets_only r) h))

insides_have : (p : Bool) (k : Kind) (lets b : Bool) (xs : List Text) (a : Forest) → inside_or_parameter p k lets b ≡ true → (lets ≡ true → xs ≡ []) → (b ≡ true → xs ≡ []) → vars_of k a xs ≡ []
insides_have true k lets b xs a h within to = lets_have k lets xs a h within
insides_have false (Kind.VariableDeclaration variable.Var) lets b xs a h within to = absurd (true≢false (sym h))
insides_have false (Kind.VariableDeclaration variable.Let) lets b xs a h within to = refl
insides_have false (Kind.VariableDeclaration variable.Const) lets b xs a h within to = refl
insides_have false (Kind.Function f pure) lets b xs a h within to = refl
insides_have false (Kind.Class c) lets b xs a h within to = refl
insides_have false (Kind.BindingName x) lets b xs a h within to = absurd (true≢false (sym h))
insides_have false k lets b xs a h within to = to h

-- a row whose names stay in the block that it stands in
insides_have_none : (p : Bool) (t : Forest) → inside_from p t ≡ true → var_names t ≡ []
insides_have_none p nothing h = refl
insides_have_none p (absent r) h = insides_have_none false r h
insides_have_none p (node k n a r) h =
    let here = inside_or_parameter p k (lets_only a) (inside_from (is_handler k) a) in
    both_empty (vars_of k a (var_names a)) (var_names r)
    (insides_have p k (lets_only a) (inside_from (is_handler k) a) (var_names a) a (first_of_both here (stays_inside r) h) (lets_have_none a) (insides_have_none (is_handler k) a))
    (insides_have_none false r (second_of_both here (stays_inside r) h))

nodes_have : (p : Bool) (k : Kind) (lets inside b : Bool) (xs : List Text) (a : Forest) → none_or_parameter p k lets inside b ≡ true → (lets ≡ true → xs ≡ []) → (inside ≡ true → xs ≡ []) → (b ≡ true → xs ≡ []) → vars_of k a xs ≡ []
nodes_have true k lets inside b xs a h lettered within to = lets_have k lets xs a h lettered
nodes_have false (Kind.BindingName x) lets inside b xs a h lettered within to = absurd (true≢false (sym h))
nodes_have false (Kind.VariableDeclaration variable.Var) lets inside b xs a h lettered within to = absurd (true≢false (sym h))
nodes_have false (Kind.VariableDeclaration variable.Let) lets inside b xs a h lettered within to = refl
nodes_have false (Kind.VariableDeclaration variable.Const) lets inside b xs a h lettered within to = refl
nodes_have false (Kind.Function f pure) lets inside b xs a h lettered within to = refl
nodes_have false (Kind.Class c) lets inside b xs a h lettered within to = refl
nodes_have false Kind.BlockStatement lets inside b xs a h lettered within to = within h
nodes_have false Kind.ForStatement lets inside b xs a h lettered within to = within h
nodes_have false Kind.ForInStatement lets inside b xs a h lettered within to = within h
nodes_have false Kind.ForOfStatement lets inside b xs a h lettered within to = within h
nodes_have false k lets inside b xs a h lettered within to = to h

has_none : (p : Bool) (t : Forest) → none_from p t ≡ true → var_names t ≡ []
has_none p nothing h = refl
has_none p (absent r) h = has_none false r h
has_none p (node k n a r) h =
    let here = none_or_parameter p k (lets_only a) (stays_inside a) (none_from (is_handler k) a) in
    both_empty (vars_of k a (var_names a)) (var_names r)
    (nodes_have p k (lets_only a) (stays_inside a) (none_from (is_handler k) a) (var_names a) a (first_of_both here (declares_none r) h) (lets_have_none a) (insides_have_none false a) (has_none (is_handler k) a))
    (has_none false r (second_of_both here (declares_none r) h))

pub no_variables : (t : Forest) → declares_none t ≡ true → var_names t ≡ []
no_variables t h = has_none false t h

-- ---- no imports, but in lists of a module's items

abbrev pub lead_to_imports : Place → Bool
lead_to_imports program_list = true
lead_to_imports module_items = true
lead_to_imports specifiers = true
lead_to_imports imports = true
lead_to_imports p = false

name_leads_not : (f : FunctionKind) → lead_to_imports (name_place f) ≡ false
name_leads_not function_kind.Arrow = refl
name_leads_not f = refl

statements_lead_not : (p : Place) → lead_to_imports p ≡ false → lead_to_imports (statements_place p) ≡ false
statements_lead_not program_list h = absurd (true≢false h)
statements_lead_not p h = refl

specifiers_lead_not : (p : Place) → lead_to_imports p ≡ false → lead_to_imports (specifier_place p) ≡ false
specifiers_lead_not specifiers h = absurd (true≢false h)
specifiers_lead_not p h = refl

import_fits_not : (p : Place) → lead_to_imports p ≡ false → fits p an_import ≡ true → ⊥
import_fits_not module_items h f = true≢false h
import_fits_not p h f = true≢false (sym f)

imported_fits_not : (p : Place) → lead_to_imports p ≡ false → fits p an_imported ≡ true → ⊥
imported_fits_not imports h f = true≢false h
imported_fits_not p h f = true≢false (sym f)

-- a place or another, which both lead to none
pub neither_leads : (b : Bool) (p q : Place) → lead_to_imports p ≡ false → lead_to_imports q ≡ false → lead_to_imports (if b then p else q) ≡ false
neither_leads b p q h g = either (λ r. lead_to_imports r ≡ false) b p q h g

below_leads_not : (p : Place) (k : Kind) (i : ℕ) → lead_to_imports p ≡ false → fits p (sort_of k) ≡ true → lead_to_imports (place_below p k i) ≡ false
below_leads_not p Kind.VariableDeclarator i h f = neither_leads (i == 0) names others refl refl
below_leads_not p (Kind.Function how pure) i h f = neither_leads (i == 0) (name_place how) (if i == 1 then parameters else code) (name_leads_not how) (neither_leads (i == 1) parameters code refl refl)
below_leads_not p Kind.CatchClause i h f = neither_leads (i == 0) names others refl refl
below_leads_not p Kind.ForStatement i h f = neither_leads (i == 0) declared others refl refl
below_leads_not p Kind.SwitchStatement i h f = neither_leads (i == 1) cases others refl refl
below_leads_not p (Kind.Program source) i h f = absurd (never_fits p f)
below_leads_not p Kind.Statements i h f = statements_lead_not p h
below_leads_not p (Kind.ExportNamedDeclaration None) i h f = refl
below_leads_not p (Kind.ExportNamedDeclaration (Some source)) i h f = refl
below_leads_not p (Kind.ImportDeclaration source) i h f = absurd (import_fits_not p h f)
below_leads_not p (Kind.ImportSpecifier name) i h f = neither_leads (i == 0) names no_node refl refl
below_leads_not p Kind.ImportDefaultSpecifier i h f = neither_leads (i == 0) names no_node refl refl
below_leads_not p Kind.ImportNamespaceSpecifier i h f = neither_leads (i == 0) names no_node refl refl
below_leads_not p Kind.Specifiers i h f = specifiers_lead_not p h
below_leads_not p k i h f = refl

no_specifier : (source : Text) (p : Place) (k : Kind) (a : Forest) → lead_to_imports p ≡ false → fits p (sort_of k) ≡ true → import_decls source a ≡ []
    → specifier_decls source k a (import_decls source a) ≡ []
no_specifier source p (Kind.ImportSpecifier name) a h f e = absurd (imported_fits_not p h f)
no_specifier source p Kind.ImportDefaultSpecifier a h f e = absurd (imported_fits_not p h f)
no_specifier source p Kind.ImportNamespaceSpecifier a h f e = absurd (imported_fits_not p h f)
no_specifier source p k a h f e = e

no_imports : (source : Text) (ps : ℕ → Place) (at : ℕ) (t : Forest) → ((i : ℕ) → lead_to_imports (ps i) ≡ false) → well_placed ps at t ≡ true → import_decls source t ≡ []
no_imports source ps at nothing h w = refl
no_imports source ps at (absent r) h w = no_imports source ps (suc at) r h w
no_imports source ps at (node k n a r) h w =
    let here = placed_here ps at k n a r w in
    both_empty (specifier_decls source k a (import_decls source a)) (import_decls source r)
    (no_specifier source (ps at) k a (h at) here (no_imports source (place_below (ps at) k) 0 a (λ i. below_leads_not (ps at) k i (h at) here) (placed_below ps at k n a r w)))
    (no_imports source ps (suc at) r h (placed_behind ps at k n a r w))

-- ---- what lies below a node somewhere in a module

abbrev PlacedBelow : Tree → Type 0
PlacedBelow x = (p : Place) × (well_placed (place_below p x.kind) 0 x.below ≡ true)

placed_there : (a : Around) (x : Tree) (ps : ℕ → Place) (at : ℕ) → well_placed ps at (plug a (Some x)) ≡ true → PlacedBelow x
placed_there (first rest) x ps at w = (ps at, placed_below ps at x.kind x.note x.below rest w)
placed_there (behind k n below a) x ps at w = placed_there a x ps (suc at) (placed_behind ps at k n below (plug a (Some x)) w)
placed_there (behind_none a) x ps at w = placed_there a x ps (suc at) w
placed_there (under k n a rest) x ps at w = placed_there a x (place_below (ps at) k) 0 (placed_below ps at k n (plug a (Some x)) rest w)

not_nothing : (a : Around) (x : Tree) → plug a (Some x) ≡ nothing → ⊥
not_nothing (first rest) x e = cc
not_nothing (behind k n below a) x e = cc
not_nothing (behind_none a) x e = cc
not_nothing (under k n a rest) x e = cc

abbrev pub is_root : Kind → Bool
is_root (Kind.Program source) = true
is_root k = false

calm_no_root : (k : Kind) → is_calm k ≡ true → is_root k ≡ false
calm_no_root (Kind.Program source) h = absurd (true≢false (sym h))
calm_no_root k h = refl

abbrev begins_root : Forest → Bool
begins_root (node k n a r) = is_root k
begins_root t = false

placed_in : (a : Around) (x : Tree) (source : SourceType) (n : Note) (t : Forest) (ps : ℕ → Place) → is_root x.kind ≡ false
    → plug a (Some x) ≡ node (Kind.Program source) n t nothing → well_placed ps 0 t ≡ true → PlacedBelow x
placed_in (first rest) x source n t ps inner e w = absurd (true≢false (sym (ap begins_root e) ∙ inner))
placed_in (behind k i below a) x source n t ps inner e w = absurd (not_nothing a x (ap scope.behind e))
placed_in (behind_none a) x source n t ps inner e w = absurd cc
placed_in (under k i a rest) x source n t ps inner e w = placed_there a x ps 0 (subst (λ u. well_placed ps 0 u ≡ true) (sym (ap below_of e)) w)

-- a node below which no place leads to imports
pub no_imports_inside : (n m : Note) (b : Forest) (a : Around) (x : Tree) → plug a (Some x) ≡ module_of n m b → is_well_placed (module_of n m b) ≡ true → is_root x.kind ≡ false
    → ((p : Place) (i : ℕ) → lead_to_imports (place_below p x.kind i) ≡ false) → (source : Text) → import_decls source x.below ≡ []
no_imports_inside n m b a x e w inner leads source =
    let list = node Kind.Statements m b nothing in
    let ps = place_below others (Kind.Program source_type.Module) in
    let there = placed_in a x source_type.Module n list ps inner e (first_of_both (well_placed ps 0 list) (has_plain_values list) w) in
    no_imports source (place_below there.0 x.kind) 0 x.below (leads there.0) there.1

pub no_imports_there : (n m : Note) (b : Forest) (a : Around) (x : Tree) → plug a (Some x) ≡ module_of n m b → is_well_placed (module_of n m b) ≡ true → is_calm x.kind ≡ true
    → ((p : Place) (i : ℕ) → lead_to_imports (place_below p x.kind i) ≡ false) → (source : Text) → import_decls source x.below ≡ []
no_imports_there n m b a x e w calm leads source = no_imports_inside n m b a x e w (calm_no_root x.kind calm) leads source

-- ---- what declares nothing

pub record DeclaresNothing (t : Forest) : Type 0 where
  pub bound : bound_names t ≡ []
  pub imports : (source : Text) → import_decls source t ≡ []

pub nothing_behind : (k : Kind) (n : Note) (a r : Forest) → DeclaresNothing (node k n a r) → DeclaresNothing r
nothing_behind k n a r h = record {
  bound = second_empty (names_of k (bound_names a)) (bound_names r) h.bound;
  imports = λ source. second_empty (specifier_decls source k a (import_decls source a)) (import_decls source r) (h.imports source);
}

-- a calm node beside one that stands in a row, which both declare nothing
pub both_plainly : (k : Kind) (a : Forest) (l : Kind) (n : Note) (b r : Forest) → is_calm k ≡ true → DeclaresNothing a → DeclaresNothing (node l n b r) → DeclaresSame k a l b
both_plainly k a l n b r calm h g = record {
  plainly = record {
    vars = (calm_vars k a (var_names a) calm ∙ no_vars a h.bound) ∙ sym (first_empty (vars_of l b (var_names b)) (var_names r) (no_vars (node l n b r) g.bound));
    imports = λ source. (calm_specifier source k a (import_decls source a) calm ∙ h.imports source) ∙ sym (first_empty (specifier_decls source l b (import_decls source b)) (import_decls source r) (g.imports source));
  };
  binds = inr ((calm_names k (bound_names a) calm ∙ h.bound) ∙ sym (first_empty (names_of l (bound_names b)) (bound_names r) g.bound));
}

-- ---- an `if` of which a part declares what it does, beside such as declare nothing

pub record NoVariables (t : Forest) : Type 0 where
  pub vars : var_names t ≡ []
  pub imports : (source : Text) → import_decls source t ≡ []

-- it becomes empty
pub emptied_plainly : (a : Forest) → NoVariables a → DeclaresSame Kind.IfStatement a Kind.EmptyStatement nothing
emptied_plainly a h = record { plainly = record { vars = h.vars; imports = h.imports }; binds = inl refl }

pub alone_plainly : (k : Kind) (n : Note) (a r : Forest) → NoVariables r → Plainly Kind.IfStatement (node k n a r) k a
alone_plainly k n a r h = record {
  vars = ap (λ v. vars_of k a (var_names a) ++ v) h.vars ∙ append-nil (vars_of k a (var_names a));
  imports = λ source. ap (λ v. specifier_decls source k a (import_decls source a) ++ v) (h.imports source) ∙ append-nil (specifier_decls source k a (import_decls source a));
}

pub last_plainly : (k : Kind) (n : Note) (a r : Forest) (l : Kind) (b : Forest) → NoVariables (node k n a nothing) → Plainly Kind.IfStatement r l b → Plainly Kind.IfStatement (node k n a r) l b
last_plainly k n a r l b h g = record {
  vars = ap (λ v. v ++ var_names r) (first_empty (vars_of k a (var_names a)) [] h.vars) ∙ g.vars;
  imports = λ source. ap (λ v. v ++ import_decls source r) (first_empty (specifier_decls source k a (import_decls source a)) [] (h.imports source)) ∙ g.imports source;
}

pub statement_plainly : {a : Forest} {l : Kind} {b : Forest} → Plainly Kind.IfStatement a l b → DeclaresSame Kind.IfStatement a l b
statement_plainly h = record { plainly = h; binds = inl refl }
