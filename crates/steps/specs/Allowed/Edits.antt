-- What a dead code remover may do to a program: one edit at one place, or of two items of its list, allowed on the tree as it is then. Each
-- case has a file of its name, and a line here.
use Rattle.std.specs.Prelude.{◌≡◌, Some}
use Rattle.js_syntax.specs.Node.{Forest, Tree, bare}
use Rattle.scope_laws.specs.Place.{Around, plug}
use Rattle.scope_laws.specs.Lists.{without}
use Rattle.steps.specs.Allowed.EmptyStatement.{EmptyStatement}
use Rattle.steps.specs.Allowed.EmptyBlock.{EmptyBlock}
use Rattle.steps.specs.Allowed.UnusedFunction.{UnusedFunction}
use Rattle.steps.specs.Allowed.UnusedDeclarator.{UnusedDeclarator}
use Rattle.steps.specs.Allowed.UnusedDeclaration.{UnusedDeclaration}
use Rattle.steps.specs.Allowed.UnusedImport.{UnusedImport}
use Rattle.steps.specs.Allowed.RepeatedImport.{RepeatedImport}
use Rattle.steps.specs.Allowed.MergedImports.{MergedImports}
use Rattle.steps.specs.Allowed.PassedExports.{PassedExports}
use Rattle.steps.specs.Allowed.Unreached.{Unreached}
use Rattle.steps.specs.Allowed.Untaken.{Untaken}
use Rattle.steps.specs.Allowed.IdleStatement.{IdleStatement}
use Rattle.steps.specs.Allowed.SilentStatement.{SilentStatementEmpties}
use Rattle.steps.specs.Allowed.KnownConditional.{KnownConditional}
use Rattle.steps.specs.Allowed.KnownSide.{KnownSide}
use Rattle.steps.specs.Allowed.KnownIf.{KnownIf}
use Rattle.steps.specs.Allowed.DeadIf.{DeadIf}
use Rattle.steps.specs.Allowed.UnusedOperation.{UnusedOperation}
use Rattle.steps.specs.Allowed.UnusedList.{UnusedList}
use Rattle.steps.specs.Allowed.IndirectChoice.{IndirectChoice}
use Rattle.steps.specs.Allowed.OneSidedChoice.{OneSidedChoice}
use Rattle.steps.specs.Allowed.IdleParts.{IdleParts}
use Rattle.steps.specs.Allowed.TwoSides.{TwoSides}
use Rattle.steps.specs.Allowed.UnusedObject.{UnusedObject}
use Rattle.steps.specs.Allowed.KnownOperation.{KnownOperation}
use Rattle.steps.specs.Allowed.UnrunValue.{UnrunValue}
use Rattle.steps.specs.Allowed.IdleTry.{IdleTry}
use Rattle.steps.specs.Allowed.IdleBody.{IdleBody}
use Rattle.steps.specs.Allowed.EmptyIf.{EmptyIf}
use Rattle.steps.specs.Allowed.EmptyAlternate.{EmptyAlternate}
use Rattle.steps.specs.Allowed.ValueStays.{ValueStays}
use Rattle.steps.specs.Allowed.KeptNames.{KeptNames}

-- which items may leave the list in which they stand
pub data Leaves (a : Around) (x : Tree) : Type 0 where
  empty_statement : EmptyStatement a x → Leaves a x
  empty_block : EmptyBlock a x → Leaves a x
  unused_function : UnusedFunction a x → Leaves a x
  unused_declarator : UnusedDeclarator a x → Leaves a x
  unused_declaration : UnusedDeclaration a x → Leaves a x
  unused_import : UnusedImport a x → Leaves a x
  unreached : Unreached a x → Leaves a x
  untaken : Untaken a x → Leaves a x
  idle_statement : IdleStatement a x → Leaves a x
  repeated_import : RepeatedImport a x → Leaves a x

-- which nodes may become others in their places
pub data Becomes (a : Around) (x y : Tree) : Type 0 where
  silent_statement : SilentStatementEmpties a x y → Becomes a x y
  known_conditional : KnownConditional a x y → Becomes a x y
  known_side : KnownSide a x y → Becomes a x y
  known_if : KnownIf x y → Becomes a x y
  dead_if : DeadIf x y → Becomes a x y
  unused_operation : UnusedOperation a x y → Becomes a x y
  unused_list : UnusedList a x y → Becomes a x y
  indirect_choice : IndirectChoice a x y → Becomes a x y
  one_sided_choice : OneSidedChoice a x y → Becomes a x y
  idle_parts : IdleParts a x y → Becomes a x y
  two_sides : TwoSides a x y → Becomes a x y
  unused_object : UnusedObject a x y → Becomes a x y
  known_operation : KnownOperation a x y → Becomes a x y
  unrun_value : UnrunValue a x y → Becomes a x y
  idle_try : IdleTry x y → Becomes a x y
  idle_body : IdleBody a x y → Becomes a x y
  empty_if : EmptyIf x y → Becomes a x y
  empty_alternate : EmptyAlternate a x y → Becomes a x y
  value_stays : ValueStays a x y → Becomes a x y
  kept_names : KeptNames a x y → Becomes a x y

pub data Edit : (t u : Forest) → Type 0 where
  leaves : (a : Around) (x : Tree) → Leaves a x → Edit (plug a (Some x)) (without a)
  becomes : (a : Around) (x y : Tree) → Becomes a x y → Edit (plug a (Some x)) (plug a (Some y))
  merges : (t u : Forest) → MergedImports t u → Edit t u
  passes : (t u : Forest) → PassedExports t u → Edit t u

-- edits of a tree one after the other
pub data TreeEdits : (t u : Forest) → Type 0 where
  no_tree_edit : (t : Forest) → TreeEdits t t
  one_tree_edit : (t u v : Forest) → Edit t u → TreeEdits u v → TreeEdits t v

-- Edits of a program one after the other: trees that are the same but for spans and ids are one program.
pub data Edits : (t u : Forest) → Type 0 where
  no_edit : (t u : Forest) → bare t ≡ bare u → Edits t u
  one_edit : (t v w u : Forest) → bare t ≡ bare v → Edit v w → Edits w u → Edits t u
