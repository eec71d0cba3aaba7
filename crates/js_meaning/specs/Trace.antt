-- What a run shows to the host, and what the host does in it.
use Rattle.std.specs.Prelude.{ℕ, List, Option}
use Rattle.js_meaning.specs.Value.{Text, Plain, Given, Shown}

-- What happens where the host can see it.
pub data Act : Type 0 where
  -- a module is asked for (16.2.1.5)
  load : (source : Text) → Act
  -- a property is read or written (6.2.5.5, 6.2.5.6): object, key, value
  get : Shown → Shown → Act
  set : Shown → Shown → Shown → Act
  -- `in` and `instanceof` (13.10.1): left, right
  asks_in asks_instanceof : Shown → Shown → Act
  -- `new` (13.3.5): callee, arguments
  construct : Shown → List Shown → Act
  -- a call of a host's object (13.3.6): callee, receiver, arguments
  call : Shown → Shown → List Shown → Act
  -- a global is written
  write : Text → Shown → Act
  -- how a call ended that the host made
  returned threw : Shown → Act
  -- how the module's own run ended
  finished : Act
  failed : Shown → Act

-- an export: its value, or none before it has one; or which import it passes on
pub data ShownExport : Type 0 where
  exports_value : (name : Text) → Shown → ShownExport
  exports_uninitialised : (name : Text) → ShownExport
  exports_import : (name source imported : Text) → ShownExport

-- the exports in the order of their names' bytes, and the sources of `export *` in the tree's order
pub record ShownExports : Type 0 where
  pub names : List ShownExport
  pub stars : List Text

pub record Event : Type 0 where
  pub act : Act
  pub exports : ShownExports

-- What the host does: calls an own object with a receiver and arguments; sets or removes a global; sets what a module
-- exports under a name, or makes it uninitialised; answers; throws.
pub data Move : Type 0 where
  call_own : ℕ → Given → List Given → Move
  set_global_to : Text → Given → Move
  remove_global : Text → Move
  set_import_to : (source name : Text) → Option Given → Move
  answer refuse : Given → Move

-- What a run is given: the globals at its start, none of them an own object, and the host's moves.
pub record Script : Type 0 where
  pub globals : Text → Option Plain
  pub moves : List Move

-- How a run ends: with the exports of that moment; because no move was left or one can't be made; because an entry
-- passed the bound; at an act of which nothing is said.
pub data Ending : Type 0 where
  ended : ShownExports → Ending
  host_stopped out uncovered : Ending

pub record Run : Type 0 where
  pub trace : List Event
  pub ending : Ending
