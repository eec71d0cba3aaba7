-- A declaration of the names that are kept of a statement is a statement of the table of node types.
use Rattle.std.proofs.Common.{◌≡◌, List, [], ◌∷◌, true, refl, subst}
use Rattle.std.specs.Prelude.{Some, map}
use Rattle.js_syntax.specs.Class.{statement, binding, declarator_item}
use Rattle.js_syntax.specs.declared.kind.VariableKind.TheVariants as variable
use Rattle.js_syntax.specs.declared.node_kind.NodeKind.{NodeKind as Kind}
use Rattle.js_syntax.specs.declared.node_kind.NodeKind.TheVariants.{BindingName as binding_name}
use Rattle.js_syntax.specs.Node.{Forest, nothing, node, absent, Tree, row, forest_of}
use Rattle.js_syntax.specs.Table.{a_variable_declaration, a_variable_declarator, a_binding_name}
use Rattle.js_syntax.proofs.Truth.{first_of_both, second_of_both}
use Rattle.json_shape.specs.Shape.{IsOf, Stand, all, Fits}
use Rattle.kept_names.specs.Kept.{kept, declarator_of, declaration_of}
use Rattle.scope_laws.proofs.Bindings.{same_value}
use Rattle.steps.proofs.VarNames.Again.{is_name_alone, is_bare_name, are_names, kept_are_names}

a_name : (k : Kind) (b : Forest) → is_name_alone k b ≡ true → IsOf k b (λ p. Stand p b) binding
a_name (binding_name x) nothing h = (a_binding_name, (x, tt), refl, tt, refl, tt)
a_name (binding_name x) (absent r) h = absurd cc
a_name (binding_name x) (node j m c r) h = absurd cc
a_name k b h = absurd cc

declarators_stand : (ts : List Tree) → are_names ts ≡ true → Stand (all declarator_item) (row (map declarator_of ts))
declarators_stand [] h = tt
declarators_stand (t ∷ ts) h =
    ((a_variable_declarator, tt, refl, tt, refl, (a_name t.kind t.below (first_of_both (is_bare_name t) (are_names ts) h), (tt, tt))), declarators_stand ts (second_of_both (is_bare_name t) (are_names ts) h))

declaration_stands : (ts : List Tree) (y : Tree) → are_names ts ≡ true → declaration_of (map declarator_of ts) ≡ Some y → Fits statement (forest_of y)
declaration_stands [] y h e = absurd cc
declaration_stands (t ∷ ts) y h e = subst (λ z. Fits statement (forest_of z)) (same_value e) ((a_variable_declaration, (variable.Var, tt), refl, tt, refl, ((refl, declarators_stand (t ∷ ts) h), tt)), tt)

pub stands_there : (t : Forest) (y : Tree) → Fits statement t → declaration_of (map declarator_of (kept t)) ≡ Some y → Fits statement (forest_of y)
stands_there t y fits e = declaration_stands (kept t) y (kept_are_names t fits) e
