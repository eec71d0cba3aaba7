-- Why a tree that fits has its variables in place only without static blocks: the program `class C { static { var C; } }` fits and
-- breaks no rule of form, and below the class's body, and below its members, the walk that runs take finds what the block declares,
-- where no statement stands.
use Rattle.std.proofs.Common.{◌≡◌, inr, [], ◌∷◌, false, refl}
use Rattle.js_syntax.specs.Class.{root, module_item, statement, declared_name, class_block, class_item, declarator_item, expression}
use Rattle.js_syntax.specs.declared.node_kind.NodeKind.{NodeKind as Kind}
use Rattle.js_syntax.specs.declared.scalar.SourceType.TheVariants as source_type
use Rattle.js_syntax.specs.declared.kind.ClassKind.TheVariants as class_kind
use Rattle.js_syntax.specs.declared.kind.VariableKind.TheVariants as variable
use Rattle.js_syntax.specs.Node.{Forest, nothing, absent, node, nowhere}
use Rattle.js_syntax.specs.Table.{a_program, a_class_declaration, a_class_body, a_static_block, a_binding_name, a_variable_declaration, a_variable_declarator}
use Rattle.form_rules.specs.Form.{IsWellFormed}
use Rattle.json_text.specs.Text.{is_identifier_name}
use Rattle.json_shape.specs.Shape.{one, maybe_one, these, all, all_of_body, Stand, Fits}
use Rattle.steps.specs.Fit.Hoisted.{has_variables_in_place}

-- ---- the program

abbrev single : Kind → Forest → Forest
single k a = node k nowhere a nothing

-- a name, with nothing behind it that may follow
abbrev named : Forest → Forest
named r = node (Kind.BindingName (67 ∷ [])) nowhere nothing (absent r)

abbrev declarators : Forest
declarators = single Kind.VariableDeclarator (named nothing)

abbrev statements : Forest
statements = single (Kind.VariableDeclaration variable.Var) (single Kind.Declarators declarators)

abbrev members : Forest
members = single Kind.StaticBlock (single Kind.Statements statements)

abbrev items : Forest
items = single (Kind.Class class_kind.Declaration) (named (single Kind.ClassBody (single Kind.Members members)))

abbrev pub exception : Forest
exception = single (Kind.Program source_type.Module) (single Kind.Statements items)

-- ---- what is said of it

declarators_stand : Stand (all declarator_item) declarators
declarators_stand = ((a_variable_declarator, tt, refl, tt, refl, ((a_binding_name, ((67 ∷ []), tt), refl, tt, refl, tt), (tt, tt))), tt)

statements_stand : Stand (all statement) statements
statements_stand = ((a_variable_declaration, (variable.Var, tt), refl, tt, refl, ((refl, declarators_stand), tt)), tt)

members_stand : Stand (all class_item) members
members_stand = ((a_static_block, tt, refl, tt, refl, ((refl, statements_stand), tt)), tt)

body_stands : Stand (these (one class_block ∷ [])) (single Kind.ClassBody (single Kind.Members members))
body_stands = ((a_class_body, tt, refl, tt, refl, ((refl, members_stand), tt)), tt)

class_stands : Stand (these (one declared_name ∷ maybe_one expression ∷ one class_block ∷ [])) (named (single Kind.ClassBody (single Kind.Members members)))
class_stands = ((a_binding_name, ((67 ∷ []), tt), refl, tt, refl, tt), (tt, body_stands))

items_stand : Stand (all_of_body module_item) items
items_stand = (inr (refl, (a_class_declaration, tt, refl, tt, refl, class_stands)), tt)

pub exception_fits : Fits root exception
exception_fits = ((a_program, (source_type.Module, tt), refl, tt, refl, ((refl, items_stand), tt)), tt)

pub exception_is_formed : IsWellFormed exception
unfolding is_identifier_name
exception_is_formed = refl

pub exception_is_out : has_variables_in_place exception ≡ false
exception_is_out = refl
