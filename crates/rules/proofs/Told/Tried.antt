-- Small programs of which flags tell too much behind an edit.
use Rattle.std.proofs.Common.{inl, false, true≢false, Some, refl, sym}
use Rattle.js_syntax.specs.declared.node_kind.NodeKind.{NodeKind as Kind}
use Rattle.js_syntax.specs.declared.kind.FunctionKind.TheVariants as function_kind
use Rattle.js_syntax.specs.declared.scalar.SourceType.TheVariants as source_type
use Rattle.js_syntax.specs.Class.{root}
use Rattle.js_syntax.specs.Node.{nothing, nowhere}
use Rattle.json_shape.specs.Shape.{Fits}
use Rattle.scope_laws.specs.Place.{first, under}
use Rattle.steps.proofs.KeepForm.Fitting.{fits_laid_out}
use Rattle.steps.specs.Allowed.EmptyStatement.{empty_statement_leaves}
use Rattle.steps.specs.Allowed.SilentStatement.{silent_statement_empties}
use Rattle.steps.specs.Allowed.KnownConditional.{alternate_is_taken}
use Rattle.steps.specs.Allowed.Edits.{Edit, leaves, becomes, empty_statement, silent_statement, known_conditional}
use Rattle.rules.specs.Told.Parts.{FlagsTellOnly}
use Rattle.rules.specs.Told.Samples.{asks_for_a_call, without_the_call, table_with_the_call, makes_a_function, makes_nothing, behind_a_statement, in_front}

pub branch_is_taken : Edit asks_for_a_call without_the_call
branch_is_taken =
    becomes (under (Kind.Program source_type.Module) (record { span = nowhere.span; id = Some 0 }) (under Kind.Statements nowhere (under Kind.ExpressionStatement nowhere (first nothing) nothing) nothing) nothing) _ _
    (known_conditional (alternate_is_taken nowhere nowhere nowhere nowhere _ _ _ _ _ nothing refl refl))

pub call_is_gone : FlagsTellOnly table_with_the_call without_the_call → ⊥
call_is_gone h = true≢false (sym (h.0.evaluates 0 refl refl))

pub function_goes : Edit makes_a_function makes_nothing
function_goes =
    becomes (under (Kind.Program source_type.Module) (record { span = nowhere.span; id = Some 0 }) (under Kind.Statements nowhere (first nothing) nothing) nothing) _ _
    (silent_statement (silent_statement_empties nowhere nowhere (record { span = nowhere.span; id = Some 1 }) (Kind.Function function_kind.Arrow false) _ (inl refl, tt)))

pub statement_leaves : Edit behind_a_statement in_front
statement_leaves =
    leaves (under (Kind.Program source_type.Script) (record { span = nowhere.span; id = Some 0 }) (under Kind.Statements nowhere (first _) nothing) nothing) (record { kind = Kind.EmptyStatement; note = nowhere; below = nothing }) (empty_statement (empty_statement_leaves nowhere refl))

pub does_not_fit : Fits root behind_a_statement → ⊥
does_not_fit fits = true≢false (sym (fits_laid_out behind_a_statement fits))
