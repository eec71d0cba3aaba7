-- Of a statement in a branch that isn't taken a declaration of its names is left.
use Rattle.std.proofs.Common.{inr, refl}
use Rattle.js_syntax.specs.Class.{root}
use Rattle.js_syntax.specs.declared.node_kind.NodeKind.{NodeKind as Kind}
use Rattle.js_syntax.specs.declared.kind.VariableKind.TheVariants as variable
use Rattle.js_syntax.specs.declared.scalar.SourceType.TheVariants as source_type
use Rattle.js_syntax.specs.declared.value.LiteralValue.{LiteralValue as Literal}
use Rattle.js_syntax.specs.Node.{nothing, nowhere}
use Rattle.js_syntax.specs.Table.{a_program, a_block_statement, an_expression_statement, an_if_statement, a_while_statement, a_variable_declaration, a_variable_declarator, a_binding_name, a_reference_name, a_literal}
use Rattle.form_rules.specs.Form.{IsWellFormed}
use Rattle.form_rules.specs.Samples.{no, a}
use Rattle.json_text.specs.Text.{is_identifier_name}
use Rattle.json_shape.specs.Shape.{Fits}
use Rattle.scope_laws.specs.Place.{Around, first, under}
use Rattle.steps.specs.Allowed.Edits.{no_tree_edit, one_tree_edit, becomes, kept_names}
use Rattle.steps.specs.Allowed.KeptNames.{names_stay}
use Rattle.steps.specs.Allowed.Rows.{in_list, past, null}
use Rattle.steps.proofs.Allowed.Composing.{tree_edits_are_edits}
use Rattle.headline.specs.Clean.{Clean, a_statement_of_names}
use Rattle.headline.specs.Headline.{Edits, Headline}
use Rattle.headline.proofs.Headline.{headline_of}
use Rattle.min_peephole.proofs.Quieted.{quiet_clean}
use Rattle.test_headline.specs.Rows as row
use Rattle.test_headline.proofs.Dead.{use_stands}

-- the place of the loop
abbrev there : Around
there = in_list (under Kind.IfStatement nowhere (past null (under Kind.BlockStatement nowhere (under Kind.Statements nowhere (first nothing) nothing) no)) row.use_of_a)

pub names_are_dead : Clean row.keeps_loop → ⊥
names_are_dead c = c.nothing_is_dead there _ refl (a_statement_of_names there _ _ (names_stay _ _ refl refl refl refl refl refl))

pub names_go : Headline row.keeps_loop row.keeps_loop → ⊥
names_go h = names_are_dead h.clean

-- ---- and it is left

loop_fits : Fits root row.keeps_loop
loop_fits = ((a_program, (source_type.Module, tt), refl, tt, refl, ((refl, (inr (refl, (an_if_statement, tt, refl, tt, refl, ((a_literal, (Literal.Null, tt), refl, tt, refl, tt), ((a_block_statement, tt, refl, tt, refl, ((refl, ((a_while_statement, tt, refl, tt, refl, ((a_reference_name, (a, tt), refl, tt, refl, tt), ((a_variable_declaration, (variable.Var, tt), refl, tt, refl, ((refl, ((a_variable_declarator, tt, refl, tt, refl, ((a_binding_name, (a, tt), refl, tt, refl, tt), (tt, tt))), tt)), tt)), tt))), tt)), tt)), (tt, tt))))), ((an_expression_statement, tt, refl, tt, refl, use_stands), tt))), tt)), tt)

name_fits : Fits root row.keeps_name
name_fits = ((a_program, (source_type.Module, tt), refl, tt, refl, ((refl, (inr (refl, (an_if_statement, tt, refl, tt, refl, ((a_literal, (Literal.Null, tt), refl, tt, refl, tt), ((a_block_statement, tt, refl, tt, refl, ((refl, ((a_variable_declaration, (variable.Var, tt), refl, tt, refl, ((refl, ((a_variable_declarator, tt, refl, tt, refl, ((a_binding_name, (a, tt), refl, tt, refl, tt), (tt, tt))), tt)), tt)), tt)), tt)), (tt, tt))))), ((an_expression_statement, tt, refl, tt, refl, use_stands), tt))), tt)), tt)

loop_well_formed : IsWellFormed row.keeps_loop
unfolding is_identifier_name
loop_well_formed = refl

name_is_left : Edits row.keeps_loop row.keeps_name
name_is_left = tree_edits_are_edits (one_tree_edit _ _ _ (becomes there _ _ (kept_names (names_stay _ _ refl refl refl refl refl refl))) (no_tree_edit _))

name_is_clean : Clean row.keeps_name
name_is_clean = quiet_clean _ name_fits refl

pub names_left : Headline row.keeps_loop row.keeps_name
names_left = headline_of row.keeps_loop row.keeps_name loop_fits loop_well_formed name_is_left name_is_clean
