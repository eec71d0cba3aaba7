-- Every case owes: a line each.
use Rattle.js_syntax.specs.Node.{Tree}
use Rattle.scope_laws.specs.Place.{Around}
use Rattle.steps.specs.Allowed.Edits.{Leaves, empty_statement, empty_block, unused_function, unused_declarator, unused_declaration, unused_import, unreached, untaken, idle_statement, repeated_import, Becomes, silent_statement, known_conditional, known_side, known_if, dead_if, unused_operation, unused_list, indirect_choice, one_sided_choice, idle_parts, two_sides, unused_object, known_operation, unrun_value, idle_try, idle_body, empty_if, empty_alternate, kept_names, value_stays}
use Rattle.steps.specs.Owed.Owed.{Leaving, Becoming}
use Rattle.steps.proofs.Owed.ByPart.{by_part}
use Rattle.steps.proofs.Owed.ByParts.{by_parts}
use Rattle.steps.proofs.Owed.EmptyStatement.{empty_statement_owes}
use Rattle.steps.proofs.Owed.EmptyBlock.{empty_block_owes}
use Rattle.steps.proofs.Owed.UnusedFunction.{unused_function_owes}
use Rattle.steps.proofs.Owed.UnusedDeclarator.{unused_declarator_owes}
use Rattle.steps.proofs.Owed.UnusedDeclaration.{unused_declaration_owes}
use Rattle.steps.proofs.Owed.UnusedImport.{unused_import_owes}
use Rattle.steps.proofs.Owed.Unreached.{unreached_owes}
use Rattle.steps.proofs.Owed.Untaken.{untaken_owes}
use Rattle.steps.proofs.Owed.IdleStatement.{idle_statement_owes}
use Rattle.steps.proofs.Owed.RepeatedImport.{repeated_import_owes}
use Rattle.steps.proofs.Owed.SilentStatement.{silent_statement_owes}
use Rattle.steps.proofs.Owed.KnownConditional.{known_conditional_owes}
use Rattle.steps.proofs.Owed.KnownSide.{known_side_owes}
use Rattle.steps.proofs.Owed.KnownIf.{known_if_owes}
use Rattle.steps.proofs.Owed.DeadIf.{dead_if_owes}
use Rattle.steps.proofs.Owed.UnusedOperation.{unused_operation_owes}
use Rattle.steps.proofs.Owed.UnusedList.{unused_list_owes}
use Rattle.steps.proofs.Owed.IndirectChoice.{indirect_choice_owes}
use Rattle.steps.proofs.Owed.OneSidedChoice.{one_sided_choice_owes}
use Rattle.steps.proofs.Owed.IdleParts.{idle_parts_owes}
use Rattle.steps.proofs.Owed.TwoSides.{two_sides_owes}
use Rattle.steps.proofs.Owed.UnusedObject.{unused_object_owes}
use Rattle.steps.proofs.Owed.KnownOperation.{known_operation_owes}
use Rattle.steps.proofs.Owed.UnrunValue.{unrun_value_owes}
use Rattle.steps.proofs.Owed.IdleTry.{idle_try_owes}
use Rattle.steps.proofs.Owed.IdleBody.{idle_body_owes}
use Rattle.steps.proofs.Owed.EmptyIf.{empty_if_owes}
use Rattle.steps.proofs.Owed.EmptyAlternate.{empty_alternate_owes}
use Rattle.steps.proofs.Owed.ValueStays.{value_stays_owes}
use Rattle.steps.proofs.Owed.KeptNames.{kept_names_owe}

pub leaving : (a : Around) (x : Tree) → Leaves a x → Leaving a x
leaving a x (empty_statement c) = empty_statement_owes a x c
leaving a x (empty_block c) = empty_block_owes a x c
leaving a x (unused_function c) = unused_function_owes a x c
leaving a x (unused_declarator c) = unused_declarator_owes a x c
leaving a x (unused_declaration c) = unused_declaration_owes a x c
leaving a x (unused_import c) = unused_import_owes a x c
leaving a x (unreached c) = unreached_owes a x c
leaving a x (untaken c) = untaken_owes a x c
leaving a x (idle_statement c) = idle_statement_owes a x c
leaving a x (repeated_import c) = repeated_import_owes a x c

pub becoming : (a : Around) (x y : Tree) → Becomes a x y → Becoming a x y
becoming a x y (silent_statement c) = silent_statement_owes a x y c
becoming a x y (known_conditional c) = by_part a x y (known_conditional_owes a x y c)
becoming a x y (known_side c) = by_part a x y (known_side_owes a x y c)
becoming a x y (known_if c) = by_part a x y (known_if_owes a x y c)
becoming a x y (dead_if c) = dead_if_owes a x y c
becoming a x y (unused_operation c) = by_part a x y (unused_operation_owes a x y c)
becoming a x y (unused_list c) = by_parts a x y (unused_list_owes a x y c)
becoming a x y (indirect_choice c) = by_parts a x y (indirect_choice_owes a x y c)
becoming a x y (one_sided_choice c) = by_parts a x y (one_sided_choice_owes a x y c)
becoming a x y (idle_parts c) = by_parts a x y (idle_parts_owes a x y c)
becoming a x y (two_sides c) = by_parts a x y (two_sides_owes a x y c)
becoming a x y (unused_object c) = by_parts a x y (unused_object_owes a x y c)
becoming a x y (known_operation c) = by_parts a x y (known_operation_owes a x y c)
becoming a x y (unrun_value c) = unrun_value_owes a x y c
becoming a x y (idle_try c) = by_part a x y (idle_try_owes a x y c)
becoming a x y (idle_body c) = idle_body_owes a x y c
becoming a x y (empty_if c) = empty_if_owes a x y c
becoming a x y (empty_alternate c) = empty_alternate_owes a x y c
becoming a x y (value_stays c) = value_stays_owes a x y c
becoming a x y (kept_names c) = kept_names_owe a x y c
