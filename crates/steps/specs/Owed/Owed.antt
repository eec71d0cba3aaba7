-- What a case of an edit owes, by its shape: all that the laws on edits ask of it.
use Rattle.std.specs.Prelude.{◌≡◌, ◌⊎◌, ◌≤◌, ◌<◌, ℕ, ◌+◌, Bool, true, false, Some, is_some}
use Rattle.js_syntax.specs.declared.node_kind.NodeKind.{NodeKind as Kind}
use Rattle.js_syntax.specs.declared.node_kind.NodeKind.TheVariants.{ReferenceName as reference_name}
use Rattle.js_syntax.specs.Class.{root, expression}
use Rattle.js_syntax.specs.Facts.{weight}
use Rattle.js_syntax.specs.Node.{Forest, Tree, Note, alone, total, forest_of}
use Rattle.js_tree.specs.Count.{levels}
use Rattle.js_tree.specs.Names.{eval_name}
use Rattle.js_meaning.specs.Kept.{Refined}
use Rattle.js_meaning_near.specs.Near.{fields, module_of}
use Rattle.js_meaning_near.specs.Local.{Local}
use Rattle.js_meaning_near.specs.Purpose.{for_values}
use Rattle.js_rebuilt.specs.Rebuilt.{Rebuilt}
use Rattle.form_rules.specs.Form.{IsWellFormed}
use Rattle.form_rules.specs.Rules.{is_bare_name}
use Rattle.form_rules.specs.Scope.{declared}
use Rattle.json_shape.specs.Shape.{Fits, is_directive_kind}
use Rattle.min_pass.specs.Around.{outermost as asked_of_program}
use Rattle.scope_rules.specs.Context.{Context, inside}
use Rattle.scope_rules.specs.Site.{opens_one, sites}
use Rattle.scope_rules.specs.Table.{Scoping}
use Rattle.scope_laws.specs.Place.{Around, plug}
use Rattle.scope_laws.specs.Lists.{without}
use Rattle.steps.specs.Steps as steps
use Rattle.steps.specs.Steps.{Step, all_core}
use Rattle.steps.specs.Naming.Placed.{is_well_placed}
use Rattle.steps.specs.KeepForm.Layout.{stands_right}
use Rattle.steps.specs.KeepForm.Sheds as shed
use Rattle.steps.specs.KeepForm.Sheds.{exports_none, Sheds}
use Rattle.steps.specs.Fit.Enclosed.{is_enclosed}
use Rattle.steps.specs.Allowed.Uses.{as_callee, as_deleted, use_at}
use Rattle.steps.specs.Allowed.IdleBody.{IsBody}
use Rattle.steps.specs.Allowed.Imports.{IsImported}
use Rattle.steps.specs.Allowed.Places.{asked_at, IsItem, IsDeclarator, has_other, At}
use Rattle.steps.specs.Allowed.Calls.{is_call, begins_with_call, counted, may_end, of_list, of_program}
use Rattle.steps.specs.Allowed.Exposure.{exposure, evaluates_somewhere}
use Rattle.steps.specs.Allowed.Changing.{may_change_at}
use Rattle.steps.specs.Allowed.Unreached.{is_behind_jump}
use Rattle.steps.specs.Allowed.Untaken.{is_untaken}
use Rattle.steps.specs.Allowed.UnrunValue.{is_unrun, is_value}
use Rattle.steps.specs.Owed.Comes.{Comes}
use Rattle.steps.specs.Owed.Good.{Good}
use Rattle.steps.specs.Owed.Kept.{IsKept}
use Rattle.steps.specs.KeepForm.Part.{is_asked_for, StandsFor}
use Rattle.steps.specs.Owed.Part.{DeclaresNothing, IsPart}
use Rattle.steps.specs.Owed.TakesPlace.{TakesPlace, TakesThere}
use Rattle.steps.specs.Owed.Seeking.{Within, Seeks}
use Rattle.steps.specs.Owed.Unseen.{IsUnseen}

-- a kind that counts no calls, and holds none
pub record IsOther (x : Tree) : Type 0 where
  pub counts : counted x.kind (begins_with_call x.below) ≡ 0
  pub lists : (m : ℕ) → of_list x.kind m ≡ 0
  pub begins : (m : ℕ) → of_program x.kind m ≡ 0
  pub calls : is_call x.kind ≡ false

-- a kind that counts no calls; and it is none itself, or stands behind a declared name
pub record IsUncalled (a : Around) (x : Tree) : Type 0 where
  pub counts : counted x.kind (begins_with_call x.below) ≡ 0
  pub lists : (m : ℕ) → of_list x.kind m ≡ 0
  pub begins : (m : ℕ) → of_program x.kind m ≡ 0
  pub calls : (is_call x.kind ≡ false) ⊎ (is_value a ≡ true)

-- a place behind a jump, or in a branch that isn't taken
abbrev pub NeverRuns : (jumped : Bool) → Around → Type 0
NeverRuns jumped a = (is_behind_jump jumped a ≡ true) ⊎ (is_untaken false a ≡ true)

-- an item that counts for nothing, or never runs
abbrev pub Uncounted : (jumped : Bool) → Around → Tree → Type 0
Uncounted jumped a x = IsOther x ⊎ NeverRuns jumped a

-- an item that never runs
abbrev pub IsIdleItem : Around → Type 0
IsIdleItem a = IsItem a × NeverRuns false a

-- edits of a node of this kind are among those of which `may_change_somewhere` tells
abbrev pub MayChange : Around → Tree → Type 0
MayChange a x = may_change_at (evaluates_somewhere (plug a (Some x))) (asked_at (asked_of_program true) a) (exposure a (Some x)) x.kind x.below ≡ true

-- or it stands below one of which it tells: in a value that is never given, or as the body of a statement
abbrev pub MayAround : Around → Type 0
MayAround a = (is_unrun false a ≡ true) ⊎ IsBody a

-- an item of a list of statements, a declarator of one where another stays, or a name of an import
abbrev pub IsListed : Around → Type 0
IsListed a = IsItem a ⊎ ((IsDeclarator a × (has_other false a ≡ true)) ⊎ IsImported a)

-- what stands there declares no name that the program exports without declaring it at its top
abbrev pub IsUnexported : Forest → Tree → Bool → Context → ℕ → Type 0
IsUnexported t x in_with c next =
    (z : shed.Around) → Within t (sites (inside c next x.kind x.below) 0 (next + opens_one x.kind x.below) x.below) → stands_right z.row x.kind x.below ≡ true → Seeks t z.sought z.exported c
    → exports_none z.exported (declared z.sought 0 (alone x.kind x.note x.below)) ≡ true

-- a module that refines another, and is one with the same notes
pub record LeftModule (n m : Note) (b u : Forest) : Type 0 where
  pub items : Forest
  pub is : u ≡ module_of n m items
  pub refined : Refined (module_of n m b) u

-- How it is known that a core module does what it did without an item: it is a step, for which runs are kept, or a change that no run
-- shows, whatever is known of names, or it is shown of the module as a whole.
pub data LeavesRuns (a : Around) (x : Tree) : Type 0 where
  by_going : (is_well_placed (plug a (Some x)) ≡ true → Good (plug a (Some x)) → Step steps.outermost (plug a (Some x)) (without a)) → LeavesRuns a x
  by_change : ((n m : Note) (b : Forest) → plug a (Some x) ≡ module_of n m b → Fits root (module_of n m b) → IsWellFormed (module_of n m b) → all_core (module_of n m b) ≡ true → Local for_values fields (plug a (Some x)) (without a)) → LeavesRuns a x
  by_refining : ((n m : Note) (b : Forest) → plug a (Some x) ≡ module_of n m b → Fits root (module_of n m b) → IsWellFormed (module_of n m b) → all_core (module_of n m b) ≡ true → LeftModule n m b (without a)) → LeavesRuns a x

-- An item that leaves its list.
pub record Leaving (a : Around) (x : Tree) : Type 0 where
  pub weighs : 1 ≤ total weight (forest_of x)
  pub listed : IsListed a
  pub no_directive : is_directive_kind x.kind ≡ false
  pub no_call : Uncounted false a x
  pub may_change : MayChange a x ⊎ IsIdleItem a
  -- no reference that stays is bound to what it declares, and no export is of it
  pub unseen : is_enclosed (plug a (Some x)) ≡ true → IsUnseen a (Some x) ⊎ DeclaresNothing (forest_of x)
  pub unexported : At a (Some x) (IsUnexported (plug a (Some x)) x)
  pub runs : LeavesRuns a x

-- How it is known that a core module does what it did: by a step, since the old node comes to what the new one does, or since the change is
-- one that no run shows.
pub data SameRuns (a : Around) (x y : Tree) : Type 0 where
  by_step : (is_well_placed (plug a (Some x)) ≡ true → Good (plug a (Some x)) → Step steps.outermost (plug a (Some x)) (plug a (Some y))) → SameRuns a x y
  by_coming : ((n m : Note) (b : Forest) → plug a (Some x) ≡ module_of n m b → Fits root (module_of n m b) → IsWellFormed (module_of n m b) → all_core (module_of n m b) ≡ true → Comes a x y) → SameRuns a x y
  by_changing : ((n m : Note) (b : Forest) → plug a (Some x) ≡ module_of n m b → Fits root (module_of n m b) → IsWellFormed (module_of n m b) → all_core (module_of n m b) ≡ true → Local for_values fields (plug a (Some x)) (plug a (Some y)) × (all_core (plug a (Some y)) ≡ true))
      → SameRuns a x y

-- A node that becomes another in its place.
pub record Becoming (a : Around) (x y : Tree) : Type 0 where
  pub lighter : total weight (forest_of y) < total weight (forest_of x)
  pub no_call : IsUncalled a x
  pub ends : (may_end x.kind ≡ true) ⊎ (may_end y.kind ≡ false)
  pub may_change : MayChange a x ⊎ MayAround a
  -- the table of node types, the rules of form, and the table of scopes, symbols and references
  pub fits : Fits root (plug a (Some x)) → Fits root (plug a (Some y))
  pub sheds : Fits root (plug a (Some x)) → Sheds shed.outermost (plug a (Some x)) (plug a (Some y))
  pub kept : Fits root (plug a (Some x)) → (s : Scoping) → IsKept s (plug a (Some x)) → IsKept s (plug a (Some y))
  pub runs : SameRuns a x y

-- What stands there now, where it matters that a name does: `delete` takes none in strict code (ECMA-262 13.5.1.1), and a call
-- of `eval` is direct (19.2.1.1).
pub record ComesOut (a : Around) (y : Tree) : Type 0 where
  pub undeleted : use_at a ≡ as_deleted → is_bare_name (forest_of y) ≡ false
  pub uncalled : use_at a ≡ as_callee → is_some (eval_name (forest_of y)) ≡ false

-- A node that becomes a part of it.
pub record ByPart (a : Around) (x y : Tree) : Type 0 where
  pub lighter : total weight (forest_of y) < total weight (forest_of x)
  pub no_call : IsOther x
  pub ends : may_end x.kind ≡ true
  pub may_change : MayChange a x
  -- the part may stand where the whole stood, by the table of node types and by the rules of form
  pub takes : Fits root (plug a (Some x)) → TakesPlace x y
  pub stands : Fits root (plug a (Some x)) → StandsFor x.kind x.below y.kind y.below
  pub comes_out : ComesOut a y
  -- what is left out declares nothing around it
  pub part : Fits root (plug a (Some x)) → IsPart x y
  -- the whole comes to what the part does
  pub coming : (n m : Note) (b : Forest) → plug a (Some x) ≡ module_of n m b → Fits root (module_of n m b) → IsWellFormed (module_of n m b) → all_core (module_of n m b) ≡ true → Comes a x y

abbrev pub is_read_name : Kind → Bool
is_read_name (reference_name x) = true
is_read_name k = false

-- An expression that becomes one that is rebuilt of its parts.
pub record ByParts (a : Around) (x y : Tree) : Type 0 where
  pub rebuilt : Fits root (plug a (Some x)) → Rebuilt (forest_of x) (forest_of y)
  pub lighter : total weight (forest_of y) < total weight (forest_of x)
  pub no_deeper : levels (forest_of y) ≤ levels (forest_of x)
  pub no_call : IsOther x
  pub ends : may_end x.kind ≡ true
  pub may_change : MayChange a x
  -- it may stand where the old one stood, by the table of node types, and by the rules of form, which ask for neither by its kind
  pub fits_expression : Fits root (plug a (Some x)) → Fits expression (forest_of x)
  pub takes : Fits root (plug a (Some x)) → TakesThere a x y
  pub no_name : is_read_name x.kind ≡ false
  pub old_unasked : Fits root (plug a (Some x)) → is_asked_for x.kind ≡ false
  pub unasked : Fits root (plug a (Some x)) → is_asked_for y.kind ≡ false
  pub comes_out : ComesOut a y
  pub runs : SameRuns a x y
