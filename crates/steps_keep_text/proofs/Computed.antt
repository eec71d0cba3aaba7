-- Edits of small programs.
use Rattle.std.proofs.Common.{[], ◌∷◌, inl, refl}
use Rattle.js_syntax.specs.declared.operator.LogicalOperator.TheVariants as operator
use Rattle.js_syntax.specs.Node.{nothing, nowhere}
use Rattle.form_rules.specs.Samples.{a_module, a, reads, one, does}
use Rattle.scope_laws.specs.Place.{Around, first}
use Rattle.steps.specs.Allowed.SilentStatement.{silent_statement_empties}
use Rattle.steps.specs.Allowed.EmptyStatement.{empty_statement_leaves}
use Rattle.steps.specs.Allowed.KnownConditional.{consequent_is_taken}
use Rattle.steps.specs.Allowed.KnownSide.{right_side_counts}
use Rattle.steps.specs.Allowed.IndirectChoice.{value_alone_counts}
use Rattle.steps.specs.Allowed.Edits.{TreeEdits, no_tree_edit, one_tree_edit, leaves, becomes, empty_statement, silent_statement, known_conditional, known_side, indirect_choice}
use Rattle.steps.specs.Allowed.Rows.{in_statement, before, called, call_of_a, null, conditional, logical, empty}
use Rattle.steps_keep_text.specs.Samples.{calls_choice, calls_behind_zero}

pub statement_goes : TreeEdits (a_module (does one ∷ [])) (a_module [])
statement_goes =
    one_tree_edit _ (a_module (empty ∷ [])) _ (becomes (before []) _ _ (silent_statement (silent_statement_empties nowhere nowhere nowhere _ nothing (inl refl, tt))))
    (one_tree_edit _ _ _ (leaves (before []) _ (empty_statement (empty_statement_leaves nowhere refl))) (no_tree_edit _))

-- where the expression of a statement stands
abbrev there : Around
there = in_statement (first nothing)

pub conditional_taken : TreeEdits (a_module (does (conditional one call_of_a (reads a)) ∷ [])) (a_module (does call_of_a ∷ []))
conditional_taken = one_tree_edit _ _ _ (becomes there _ _ (known_conditional (consequent_is_taken nowhere nowhere nowhere nowhere _ _ _ _ _ _ refl refl))) (no_tree_edit _)

pub right_side_counted : TreeEdits (a_module (does (logical operator.Coalesce null (reads a)) ∷ [])) (a_module (does (reads a) ∷ []))
right_side_counted = one_tree_edit _ _ _ (becomes there _ _ (known_side (right_side_counts operator.Coalesce nowhere nowhere nowhere _ _ _ _ refl refl))) (no_tree_edit _)

pub part_put_behind_zero : TreeEdits calls_choice calls_behind_zero
part_put_behind_zero = one_tree_edit _ _ _ (becomes called _ _ (indirect_choice (value_alone_counts nowhere nowhere nowhere _ _ refl refl))) (no_tree_edit _)
