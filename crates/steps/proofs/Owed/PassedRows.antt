-- An import and an export that become an export from the other module, as they are known to be.
use Rattle.std.proofs.Common.{◌≡◌, ℕ, List, codes, Bool, true, ◌&&◌, refl, Some}
use Rattle.std.proofs.lemmas.Bool.{and_parts}
use Rattle.js_syntax.specs.declared.node_kind.NodeKind.{NodeKind as Kind}
use Rattle.js_syntax.specs.declared.node_kind.NodeKind.TheVariants.{Specifiers as specifiers, ImportNamespaceSpecifier as import_namespace_specifier, BindingName as binding_name, ReferenceName as reference_name, ExportNamedDeclaration as export_named_declaration, ExportAllDeclaration as export_all_declaration, ExportSpecifier as export_specifier, ForeignSpecifier as foreign_specifier}
use Rattle.js_syntax.specs.declared.value.ModuleName.{ModuleName}
use Rattle.js_syntax.specs.Node.{Forest, Note, nothing, node, absent}
use Rattle.json_text.specs.Text.{is_identifier_name}
use Rattle.json_shape.specs.Exact.{is_exact_module_name}
use Rattle.steps.specs.Allowed.MergedImports.{are_names}
use Rattle.steps.specs.Allowed.Places.{has_node}
use Rattle.steps.specs.Allowed.PassedExports.{Binds, binds_export, binds_default, binds_behind, lists_each, Passes, passes_none, passes_one, may_pass, PassedOn, names_passed_on, namespace_passed_on}
use Rattle.steps.proofs.Owed.MergedRows.{AreNames, no_names, a_name, known_names}

pub data AreListed : Forest → Type 0 where
  none_listed : AreListed nothing
  one_listed : (exported : ModuleName) (n m : Note) (x : List ℕ) (rest : Forest) → AreListed rest → AreListed (node (export_specifier exported) n (node (reference_name x) m nothing nothing) rest)

pub data ArePassed : Forest → Type 0 where
  none_passed : ArePassed nothing
  one_passed : (imported exported : ModuleName) (n : Note) (rest : Forest) → ArePassed rest → ArePassed (node (foreign_specifier imported exported) n nothing rest)

-- what comes in the place of the import
pub data IsNew (source : List ℕ) : Kind → Forest → Type 0 where
  new_names : (passed : Forest) (j : Note) → ArePassed passed → IsNew source (export_named_declaration (Some source)) (absent (node specifiers j passed nothing))
  new_namespace : (exported : ModuleName) → IsNew source (export_all_declaration (Some exported) source) nothing

pub record Parts (source : List ℕ) (names listed : Forest) (k : Kind) (below : Forest) : Type 0 where
  pub names_are : AreNames names
  pub listed_are : AreListed listed
  pub new : IsNew source k below

pub listed_ones : {names listed passed : Forest} → Passes names listed passed → AreListed listed
listed_ones passes_none = none_listed
listed_ones (passes_one exported imported n m i x rest passed binds more) = one_listed exported n m x rest (listed_ones more)

pub passed_ones : {names listed passed : Forest} → Passes names listed passed → ArePassed passed
passed_ones passes_none = none_passed
passed_ones (passes_one exported imported n m i x rest passed binds more) = one_passed imported exported i passed (passed_ones more)

pub parts : {source : List ℕ} {names listed : Forest} {k : Kind} {below : Forest} → PassedOn source names listed k below → Parts source names listed k below
parts (names_passed_on names listed passed j may passes) =
    record {
      names_are = known_names names (and_parts (are_names names) (lists_each listed names) (and_parts (has_node names) (are_names names && lists_each listed names) may).1).0;
      listed_are = listed_ones passes;
      new = new_names passed j (passed_ones passes);
    }
parts (namespace_passed_on exported n m i j x) =
    record { names_are = a_name import_namespace_specifier n m x nothing refl no_names; listed_are = one_listed exported i j x nothing none_listed; new = new_namespace exported }

-- what a name is bound to is named as it may be
pub bound_exactly : {names : Forest} {x : List ℕ} {imported : ModuleName} → Binds names x imported → is_exact_module_name imported ≡ true
unfolding is_identifier_name
bound_exactly (binds_export imported n m x rest exact) = exact
bound_exactly (binds_default n m x rest) = refl
bound_exactly (binds_behind k n below rest x imported binds) = bound_exactly binds
