-- A statement of a call leaves its list where the module's own list declares the function that it names, of which a call does nothing but
-- give a value, nothing assigns to the name, no scope around declares it again, and no argument acts (ECMA-262 13.3.6, 14.5).
use Rattle.std.specs.Prelude.{◌≡◌, Bool, true, false, [], ◌∷◌, Some}
use Rattle.js_syntax.specs.declared.node_kind.NodeKind.{NodeKind as Kind}
use Rattle.js_syntax.specs.Node.{Note, Forest, Tree, nothing, node, below_of}
use Rattle.js_meaning.specs.Value.{Text}
use Rattle.js_meaning_near.specs.Known.{called}
use Rattle.js_syntax.specs.declared.scalar.SourceType.TheVariants as source_type
use Rattle.scope_laws.specs.Place.{Around, under, plug}
use Rattle.steps.specs.KeepRuns.Assigned.{assigns}
use Rattle.steps.specs.KeepRuns.SilentFunction.{are_silent, has_silent_function}
use Rattle.steps.specs.KeepRuns.Ways.{hides}
use Rattle.steps.specs.Allowed.Places.{IsItem}

-- the items of a program's own list
abbrev pub program_items : Forest → Forest
program_items t = below_of (below_of t)

abbrev pub call_statement : (pure : Bool) (n m i j : Note) → Text → (arguments : Forest) → Tree
call_statement pure n m i j x es = record { kind = Kind.ExpressionStatement; note = n; below = node (Kind.CallExpression false pure) m (called i j x es) nothing }

-- the program's own list declares a silent function of this name, to which nothing assigns
pub record IsSilentFunction (t : Forest) (x : Text) : Type 0 where
  pub silent : has_silent_function x (program_items t) ≡ true
  pub constant : assigns x (program_items t) ≡ false

pub data SilentCall (a : Around) : Tree → Type 0 where
  silent_call_leaves : {pure : Bool} {n m i j : Note} {x : Text} {es : Forest} → IsItem a → are_silent (x ∷ []) es ≡ true → IsSilentFunction (plug a (Some (call_statement pure n m i j x es))) x → hides x a (Some (call_statement pure n m i j x es)) ≡ false
      → SilentCall a (call_statement pure n m i j x es)

-- a place in a module's own list, as one in the module
abbrev pub in_module : (n m : Note) → Around → Around
in_module n m a = under (Kind.Program source_type.Module) n (under Kind.Statements m a nothing) nothing
