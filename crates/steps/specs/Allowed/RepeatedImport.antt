-- An import without names leaves a list of statements in which something before it asks for the same module: a module is asked for once,
-- in the place of its first request (ECMA-262 16.2.1.3).
use Rattle.std.specs.Prelude.{◌≡◌, List, ℕ, Bool, true, false, ◌||◌}
use Rattle.js_syntax.specs.declared.node_kind.NodeKind.{NodeKind as Kind}
use Rattle.js_syntax.specs.declared.node_kind.NodeKind.TheVariants.{ImportDeclaration as import_declaration, Specifiers as specifiers}
use Rattle.js_syntax.specs.Node.{Tree, Note, nothing, node}
use Rattle.js_meaning.specs.Module.{requests_of}
use Rattle.scope_laws.specs.Place.{Around, first, behind, behind_none, under}
use Rattle.steps.specs.Names.{is_among}
use Rattle.steps.specs.Allowed.Places.{IsItem}

abbrev pub asks_for : List ℕ → Kind → Bool
asks_for source k = is_among (requests_of k) source

-- whether a node before it in its row asks for the module, or one before this part of that did
abbrev pub is_asked_before : (source : List ℕ) → (asked : Bool) → Around → Bool
is_asked_before source asked (first rest) = asked
is_asked_before source asked (behind k n below a) = is_asked_before source (asked || asks_for source k) a
is_asked_before source asked (behind_none a) = is_asked_before source asked a
is_asked_before source asked (under k n a rest) = is_asked_before source false a

-- import 'm';
abbrev pub import_of : (source : List ℕ) → (n m : Note) → Tree
import_of source n m = record { kind = import_declaration source; note = n; below = node specifiers m nothing nothing }

pub data RepeatedImport (a : Around) : Tree → Type 0 where
  repeated_import_leaves : (source : List ℕ) (n m : Note) → IsItem a → is_asked_before source false a ≡ true → RepeatedImport a (import_of source n m)
