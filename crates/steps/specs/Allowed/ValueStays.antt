-- A declaration of one name that nothing refers to, and that no other code may use, becomes a statement of its value in a list of statements
-- (ECMA-262 14.3.1, 14.3.2). Of a function or a class no such statement begins, and it may take its name from there (8.4, 14.5); a literal
-- would be taken for a directive (11.2.1). Inside of a `with` statement the value may be that of a property of its object.
use Rattle.std.specs.Prelude.{◌≡◌, ℕ, List, Bool, true, false, not}
use Rattle.js_syntax.specs.declared.node_kind.NodeKind.{NodeKind as Kind}
use Rattle.js_syntax.specs.declared.node_kind.NodeKind.TheVariants.{VariableDeclaration as variable_declaration, Literal as literal}
use Rattle.js_syntax.specs.declared.kind.VariableKind.{VariableKind}
use Rattle.js_syntax.specs.Node.{Forest, Tree, Note, alone}
use Rattle.min_pass.specs.Around.{outermost as asked_of_program}
use Rattle.scope_laws.specs.Place.{Around, plug}
use Rattle.steps.specs.KeepForm.Part.{declares_one}
use Rattle.steps.specs.Allowed.EmptyIf.{statement_of}
use Rattle.steps.specs.Allowed.Exposure.{IsOwnDeclaration}
use Rattle.steps.specs.Allowed.Free.{Free}
use Rattle.steps.specs.Allowed.Places.{asked_at, IsItem, At}
use Rattle.steps.specs.Allowed.UnusedDeclaration.{a_declaration}
use Rattle.steps.specs.Allowed.Uses.{may_take_name}

abbrev pub may_be_stated : Kind → (below : Forest) → Bool
may_be_stated (literal v) below = false
may_be_stated k below = not (may_take_name k below)

abbrev pub declaration_of_value : VariableKind → (n m l j i : Note) → List ℕ → Kind → (below : Forest) → Tree
declaration_of_value how n m l j i x k below = record { kind = variable_declaration how; note = n; below = declares_one m l j x (alone k i below) }

pub data ValueStays (a : Around) : (x y : Tree) → Type 0 where
  value_is_stated : (how : VariableKind) (n m l j i o : Note) (x : List ℕ) (k : Kind) (below : Forest) → may_be_stated k below ≡ true → IsItem a → (asked_at (asked_of_program true) a).in_with ≡ false
      → IsOwnDeclaration how a (a_declaration how n m l j x (alone k i below)) → At a (a_declaration how n m l j x (alone k i below)) (Free (plug a (a_declaration how n m l j x (alone k i below))) how x)
      → ValueStays a (declaration_of_value how n m l j i x k below) (statement_of o i k below)
