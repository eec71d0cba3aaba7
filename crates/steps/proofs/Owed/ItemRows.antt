-- Where a module's items stand, there is a list of statements.
use Rattle.std.proofs.Common.{◌≡◌, ℕ, ◌==◌, Bool, true, false, true≢false, if◌then◌else◌, Some, None, refl, sym, subst}
use Rattle.js_syntax.specs.declared.node_kind.NodeKind.{NodeKind as Kind}
use Rattle.js_syntax.specs.declared.kind.FunctionKind.{FunctionKind}
use Rattle.js_syntax.specs.declared.kind.FunctionKind.TheVariants as function_kind
use Rattle.js_syntax.specs.Node.{Forest}
use Rattle.steps.specs.Steps.{items, Around, entered}
use Rattle.steps.specs.Naming.Placed.{Place, an_import, no_node, names, parameters, code, program_list, module_items, declared, specifiers, cases, others, name_place, place_below, specifier_place, fits}

abbrev NoItems : Place → Type 0
NoItems p = p ≡ module_items → ⊥

name_no_items : (f : FunctionKind) → NoItems (name_place f)
name_no_items function_kind.Declaration e = cc
name_no_items function_kind.Expression e = cc
name_no_items function_kind.Arrow e = cc

specifier_no_items : (p : Place) → NoItems (specifier_place p)
specifier_no_items specifiers e = cc
specifier_no_items p e = cc

two_no_items : (b : Bool) (p q : Place) → NoItems p → NoItems q → NoItems (if b then p else q)
two_no_items true p q h g = h
two_no_items false p q h g = g

-- below a list of statements alone
statements_hold : (p : Place) (k : Kind) (i : ℕ) → place_below p k i ≡ module_items → k ≡ Kind.Statements
statements_hold p Kind.Statements i e = refl
statements_hold p Kind.VariableDeclarator i e = absurd (two_no_items (i == 0) names others (λ g. cc) (λ g. cc) e)
statements_hold p (Kind.Function f pure) i e = absurd (two_no_items (i == 0) (name_place f) (if i == 1 then parameters else code) (name_no_items f) (two_no_items (i == 1) parameters code (λ g. cc) (λ g. cc)) e)
statements_hold p Kind.CatchClause i e = absurd (two_no_items (i == 0) names others (λ g. cc) (λ g. cc) e)
statements_hold p Kind.ForStatement i e = absurd (two_no_items (i == 0) declared others (λ g. cc) (λ g. cc) e)
statements_hold p Kind.SwitchStatement i e = absurd (two_no_items (i == 1) cases others (λ g. cc) (λ g. cc) e)
statements_hold p (Kind.ImportSpecifier name) i e = absurd (two_no_items (i == 0) names no_node (λ g. cc) (λ g. cc) e)
statements_hold p Kind.ImportDefaultSpecifier i e = absurd (two_no_items (i == 0) names no_node (λ g. cc) (λ g. cc) e)
statements_hold p Kind.ImportNamespaceSpecifier i e = absurd (two_no_items (i == 0) names no_node (λ g. cc) (λ g. cc) e)
statements_hold p Kind.Specifiers i e = absurd (specifier_no_items p e)
statements_hold p (Kind.ExportNamedDeclaration None) i e = absurd cc
statements_hold p (Kind.ExportNamedDeclaration (Some source)) i e = absurd cc
statements_hold p k i e = absurd cc

-- so where an import stands
pub import_place : (p : Place) → fits p an_import ≡ true → p ≡ module_items
import_place module_items e = refl
import_place p e = absurd (true≢false (sym e))

-- where one stands there is such a list
abbrev pub Rows : (places : ℕ → Place) → Around → Type 0
Rows places w = (i : ℕ) → places i ≡ module_items → w.row ≡ items

pub rows_below : (p : Place) (w : Around) (k : Kind) (a : Forest) → Rows (place_below p k) (entered w k a)
rows_below p w k a i e = subst (λ j. (entered w j a).row ≡ items) (sym (statements_hold p k i e)) refl

pub rows_program : (w : Around) → Rows (λ i. program_list) w
rows_program w i e = absurd cc
