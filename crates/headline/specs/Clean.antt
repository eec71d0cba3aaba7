-- What a program without dead code is: read off its tree alone, by the bindings of its names.
use Rattle.std.specs.Prelude.{◌≡◌, ℕ, List, Bool, true, false, Option, Some}
use Rattle.js_syntax.specs.declared.node_kind.NodeKind.{NodeKind as Kind}
use Rattle.js_syntax.specs.declared.node_kind.NodeKind.TheVariants.{EmptyStatement as empty_statement, ExpressionStatement as expression_statement, BindingName as binding_name}
use Rattle.js_syntax.specs.declared.kind.VariableKind.TheVariants as variable
use Rattle.js_syntax.specs.Node.{Forest, Tree, Note, nothing, node}
use Rattle.scope_laws.specs.Place.{Around, plug}
-- where a node stands; what is silent there; which binding no reference has and no export is of
use Rattle.steps.specs.Steps.{binds_import}
use Rattle.steps.specs.Allowed.Imports.{IsImported}
use Rattle.steps.specs.Allowed.Places.{a_node, in_class_at, IsItem, IsDeclarator, At}
use Rattle.steps.specs.Allowed.Free.{Free, FreeDeclarator}
use Rattle.steps.specs.Allowed.SilentStatement.{SilentStatement}
use Rattle.steps.specs.Allowed.UnusedFunction.{a_function}
use Rattle.steps.specs.Allowed.UnusedDeclarator.{a_declarator, SilentDeclarator}
use Rattle.steps.specs.Allowed.UnusedImport.{an_imported}
-- what is decided by what is known, and the part that counts, which may stand in its place
use Rattle.steps.specs.Allowed.KnownConditional.{KnownConditional}
use Rattle.steps.specs.Allowed.KnownSide.{KnownSide}
-- what nobody takes the value of, and the operand that acts
use Rattle.steps.specs.Allowed.UnusedOperation.{UnusedOperation}
-- and an array, a sequence or a template, and its parts that act
use Rattle.steps.specs.Allowed.UnusedList.{UnusedList}
-- and what is decided by what is known, and the part that counts, which may not stand there itself
use Rattle.steps.specs.Allowed.IndirectChoice.{IndirectChoice}
-- and a conditional that nobody takes the value of, of which one branch acts
use Rattle.steps.specs.Allowed.OneSidedChoice.{OneSidedChoice}
-- and a sequence, and what counts of it
use Rattle.steps.specs.Allowed.IdleParts.{IdleParts}
-- and an operation that nobody takes the value of, of which both sides act, or a sum with a text beside what acts
use Rattle.steps.specs.Allowed.TwoSides.{TwoSides}
-- and an object literal that nobody takes the value of, and its values that act
use Rattle.steps.specs.Allowed.UnusedObject.{UnusedObject}
-- and an operation, and its value
use Rattle.steps.specs.Allowed.KnownOperation.{KnownOperation}
-- and an `if` on a test that is known, and the branch that runs, or nothing
use Rattle.steps.specs.Allowed.KnownIf.{KnownIf}
use Rattle.steps.specs.Allowed.DeadIf.{DeadIf}
use Rattle.steps.specs.Allowed.EmptyIf.{EmptyIf}
use Rattle.steps.specs.Allowed.EmptyAlternate.{EmptyAlternate}
use Rattle.steps.specs.Allowed.KeptNames.{KeptNames}
-- and a block of nothing
use Rattle.steps.specs.Allowed.EmptyBlock.{EmptyBlock}
-- and a loop that never turns, or a `try` around nothing
use Rattle.steps.specs.Allowed.IdleStatement.{IdleStatement}
-- and a `try` around nothing that comes to its finalizer
use Rattle.steps.specs.Allowed.IdleTry.{IdleTry}
-- and what does nothing, as a branch or a body
use Rattle.steps.specs.Allowed.IdleBody.{IdleBody}
-- and a statement in its list behind what cuts off, as a jump does, or in a branch that isn't taken
use Rattle.steps.specs.Allowed.Unreached.{Unreached}
use Rattle.steps.specs.Allowed.Untaken.{Untaken}
-- and an import without names behind another request of its module
use Rattle.steps.specs.Allowed.RepeatedImport.{RepeatedImport}
-- and imports of one module
use Rattle.steps.specs.Allowed.MergedImports.{MergedImports}
-- and an import of names that only an export lists
use Rattle.steps.specs.Allowed.PassedExports.{PassedExports}
-- and a value that a declaration gives in such a branch
use Rattle.steps.specs.Allowed.UnrunValue.{UnrunValue}
-- and a declaration of a name that nothing uses, and a statement of its value
use Rattle.steps.specs.Allowed.ValueStays.{ValueStays}
-- whose names only the tree's references may use
use Rattle.steps.specs.Allowed.Exposure.{IsOwnFunction, IsOwnDeclarator}

-- A part of a program, at a place in it, is dead code. Who asks for it keeps what nobody uses (`unused`), or of that the names of imports
-- (`imports`), as an import of a name that its module doesn't export is an error (ECMA-262 16.2.1.6); none of that is dead code then.
pub data IsDead (unused imports : Bool) (t : Forest) : Around → Option Tree → Type 0 where
  -- an empty statement in a list of statements
  an_empty_statement : (a : Around) (n : Note) → IsItem a → IsDead unused imports t a (a_node empty_statement n nothing)
  -- a block of nothing in a list of statements, or one behind labels
  an_empty_block : (a : Around) (x : Tree) → EmptyBlock a x → IsDead unused imports t a (Some x)
  -- a statement, wherever it stands, whose expression is silent there
  a_silent_statement : (a : Around) (n : Note) (below : Forest) → At a (a_node expression_statement n below) (SilentStatement t below (in_class_at a)) → IsDead unused imports t a (a_node expression_statement n below)
  -- a function declaration in a list of statements, whose name nothing refers to, no export is of and no other code may use
  an_unused_function : (a : Around) (pure : Bool) (n m : Note) (x : List ℕ) (rest : Forest) → unused ≡ false → IsItem a → IsOwnFunction a (a_function pure n m x rest) → At a (a_function pure n m x rest) (Free t variable.Let x)
      → IsDead unused imports t a (a_function pure n m x rest)
  -- a declarator of such a name, the only one or one of several of a declaration in a list of statements, with a silent initialiser
  -- or none
  an_unused_declarator : (a : Around) (n m : Note) (x : List ℕ) (value : Forest) → unused ≡ false → IsDeclarator a → IsOwnDeclarator a (a_declarator n m x value)
      → At a (a_declarator n m x value) (SilentDeclarator t (node (binding_name x) m nothing value) (in_class_at a)) → At a (a_declarator n m x value) (FreeDeclarator t x) → IsDead unused imports t a (a_declarator n m x value)
  -- a declaration of one such name in a list of statements, and not inside of a `with` statement, whose value is no literal, function or
  -- class: a statement of the value does what anybody sees of it
  a_value_of_an_unused_name : (a : Around) (x y : Tree) → unused ≡ false → ValueStays a x y → IsDead unused imports t a (Some x)
  -- a name of an import that nothing refers to, no export is of and no other code may use: the import itself stays, for its module is
  -- loaded
  an_unused_import : (a : Around) (k : Kind) (n m : Note) (x : List ℕ) → unused ≡ false → imports ≡ false → binds_import k ≡ true → IsImported a → IsOwnDeclarator a (an_imported k n m x) → At a (an_imported k n m x) (FreeDeclarator t x) → IsDead unused imports t a (an_imported k n m x)
  -- a conditional whose condition does nothing but give a value, of which its form tells whether it is true, if the branch that is
  -- taken may stand in its place: the other is never evaluated
  a_known_conditional : (a : Around) (x y : Tree) → KnownConditional a x y → IsDead unused imports t a (Some x)
  -- a logical expression whose left side does nothing but give a value, of which its form tells whether the right one is evaluated, if
  -- the side that counts may stand in its place: the other does nothing
  a_known_side : (a : Around) (x y : Tree) → KnownSide a x y → IsDead unused imports t a (Some x)
  -- an operation of which nobody takes the value, where one operand alone acts: the rest of it does nothing
  an_unused_operation : (a : Around) (x y : Tree) → UnusedOperation a x y → IsDead unused imports t a (Some x)
  -- an array of which nobody takes the value, where nothing that acts is spread or not all parts act, or such a sequence of which not
  -- all act: what doesn't act of it does nothing
  an_unused_list : (a : Around) (x y : Tree) → UnusedList a x y → IsDead unused imports t a (Some x)
  -- a conditional or a logical expression that is so decided, where the part that counts may stand behind a zero alone, or of which the
  -- test, or the left side, acts and tells all the same that the part counts: the rest of it does nothing
  an_indirect_choice : (a : Around) (x y : Tree) → IndirectChoice a x y → IsDead unused imports t a (Some x)
  -- a conditional of which nobody takes the value and one branch alone acts: the other does nothing
  a_one_sided_choice : (a : Around) (x y : Tree) → OneSidedChoice a x y → IsDead unused imports t a (Some x)
  -- a sequence of which a part before the last doesn't act, unless that is the one zero before a last part that may not stand there
  -- itself: it does nothing
  idle_parts : (a : Around) (x y : Tree) → IdleParts a x y → IsDead unused imports t a (Some x)
  -- an operation of which nobody takes the value and both sides act: it does nothing itself. Or a sum of which nobody takes the value, of a
  -- text that isn't empty and what acts: which text it is does nothing
  two_sides : (a : Around) (x y : Tree) → TwoSides a x y → IsDead unused imports t a (Some x)
  -- an object literal of which nobody takes the value, with keys that are plain or known to be primitive, of which a key or a value acts,
  -- and each that does may come out of it: it does nothing itself, nor do the keys and values that don't act
  an_unused_object : (a : Around) (x y : Tree) → UnusedObject a x y → IsDead unused imports t a (Some x)
  -- an operation that doesn't act, of which the value is known and has a literal, or is a negative number that the operation isn't the sign
  -- of: it does nothing that the literal doesn't, or unary minus on one
  a_known_operation : (a : Around) (x y : Tree) → KnownOperation a x y → IsDead unused imports t a (Some x)
  -- an `if` whose condition does nothing but give a value, of which its form tells whether it is true, if the branch that runs may stand
  -- in its place and the other one declares no name around it: that one never runs
  a_known_if : (a : Around) (x y : Tree) → KnownIf x y → IsDead unused imports t a (Some x)
  -- such an `if` with no branch to run, whose only branch declares no name around it: it does nothing
  a_dead_if : (a : Around) (x y : Tree) → DeadIf x y → IsDead unused imports t a (Some x)
  -- a statement in its list behind a jump, or behind what cuts off as one does, which declares no name around it: it never runs
  an_unreached_statement : (a : Around) (x : Tree) → Unreached a x → IsDead unused imports t a (Some x)
  -- a statement in a branch that isn't taken, which declares no name around it: it never runs
  an_untaken_statement : (a : Around) (x : Tree) → Untaken a x → IsDead unused imports t a (Some x)
  -- a statement of a list in such a branch, which declares names by `var`, by no pattern, and no other name around it: it never runs, and a
  -- declaration of these names declares them
  a_statement_of_names : (a : Around) (x y : Tree) → KeptNames a x y → IsDead unused imports t a (Some x)
  -- the value of a declaration in a branch that isn't taken, which is no name, literal, function or class: it is never evaluated
  an_unrun_value : (a : Around) (x y : Tree) → UnrunValue a x y → IsDead unused imports t a (Some x)
  -- a loop that never turns or a `try` around nothing in a list of statements, or one behind labels, which declares no name around it: it
  -- does nothing
  an_idle_statement : (a : Around) (x : Tree) → IdleStatement a x → IsDead unused imports t a (Some x)
  -- an `if` whose branches are empty, and whose test is no function and no class: a statement of the test does what it does
  an_empty_if : (a : Around) (x y : Tree) → EmptyIf x y → IsDead unused imports t a (Some x)
  -- an empty alternate of an `if` that is an item of a list of statements, or the alternate of one that may lose its own: without it the
  -- `if` does what it does with it
  an_empty_alternate : (a : Around) (x y : Tree) → EmptyAlternate a x y → IsDead unused imports t a (Some x)
  -- a `try` around nothing, if its handler declares no name around it and no loop in its finalizer is reached by labels: its finalizer, or
  -- its block where it has none, does what it does
  an_idle_try : (a : Around) (x y : Tree) → IdleTry x y → IsDead unused imports t a (Some x)
  -- a block of nothing, a loop that never turns or a `try` around nothing as a branch of an `if` or as the body of a loop or of `with`, or one
  -- behind labels, which declares no name around it: it does nothing
  an_idle_body : (a : Around) (x y : Tree) → IdleBody a x y → IsDead unused imports t a (Some x)
  -- an import without names in a list of statements in which something before it asks for the same module: the module is loaded before,
  -- whatever is kept, for it has no name
  a_repeated_import : (a : Around) (x : Tree) → RepeatedImport a x → IsDead unused imports t a (Some x)

-- No part of the program is dead code, but for what is kept.
pub record CleanBut (unused imports : Bool) (t : Forest) : Type 0 where
  pub nothing_is_dead : (a : Around) (x : Option Tree) → t ≡ plug a x → IsDead unused imports t a x → ⊥
  -- and no import may take the names of a later one of the same module, whatever is kept, for none of them goes
  pub imports_are_together : (u : Forest) → MergedImports t u → ⊥
  -- and no import is there for a later export of names alone, which could export them from the other module, whatever is kept, for that asks for
  -- the same names
  pub none_is_passed_on : (u : Forest) → PassedExports t u → ⊥

-- where nothing is kept
abbrev pub Clean : Forest → Type 0
Clean t = CleanBut false false t
