-- A node that another stands for, anywhere in a row.
use Rattle.std.specs.Prelude.{◌≡◌, [], true}
use Rattle.js_syntax.specs.declared.node_kind.NodeKind.{NodeKind as Kind}
use Rattle.js_syntax.specs.declared.operator.LogicalOperator.{LogicalOperator}
use Rattle.js_syntax.specs.Node.{Note, Forest, nothing, node, absent, below_of}
use Rattle.js_meaning.specs.Value.{Text}
use Rattle.js_meaning.specs.Scope.{first_of, behind, bound_names, vars_of, var_names, specifier_decls, import_decls}
use Rattle.js_meaning.specs.Module.{specifier_of}
use Rattle.js_meaning_near.specs.Names.{Names}
use Rattle.js_meaning_near.specs.Purpose.{Purpose, ForEffect, Purposes, purpose_here, purposes_behind, wanted_below}
use Rattle.js_meaning_near.specs.Near.{Row, fields, items, row_below, is_row, hoists_nothing, cuts_off, DoesNothing, ComesTo, LessWaste, OneSided, Shorter, keys}
use Rattle.js_meaning_near.specs.Fit.{whole, Fits}
use Rattle.js_meaning_near.specs.Once.{NodeStays}

-- the one node declares outside what the other does
pub record Plainly (k : Kind) (a : Forest) (l : Kind) (b : Forest) : Type 0 where
  pub vars : vars_of k a (var_names a) ≡ vars_of l b (var_names b)
  pub imports : (source : Text) → specifier_decls source k a (import_decls source a) ≡ specifier_decls source l b (import_decls source b)

-- it declares nothing outside
pub record DeclaresNothing (k : Kind) (a : Forest) : Type 0 where
  pub vars : vars_of k a (var_names a) ≡ []
  pub imports : (source : Text) → specifier_decls source k a (import_decls source a) ≡ []

abbrev pub KeysStay : Kind → Forest → Forest → Type 0
KeysStay Kind.ObjectExpression a b = keys (below_of a) ≡ keys (below_of b)
KeysStay k a b = Unit {0}

-- So do an object literal's keys, the name that an export shows, and the names that a declaration, a parameter or a handler binds: names
-- that lie further in, where statements stand, are read off none of these (ECMA-262 8.2.1).
abbrev pub ReadsSame : Kind → Forest → Forest → Type 0
ReadsSame (Kind.ExportSpecifier exported) a b = specifier_of (Kind.ExportSpecifier exported) a ≡ specifier_of (Kind.ExportSpecifier exported) b
ReadsSame (Kind.VariableDeclaration how) a b = bound_names a ≡ bound_names b
ReadsSame Kind.CatchClause a b = bound_names (first_of a) ≡ bound_names (first_of b)
ReadsSame (Kind.Function f pure) a b = bound_names (first_of (behind a)) ≡ bound_names (first_of (behind b))
ReadsSame k a b = KeysStay k a b

-- A node, and one that may stand for it where it is evaluated for this, whatever is known of the names around.
pub data Stands (u : Purpose) : Kind → Forest → Kind → Forest → Type 0 where
  -- a part
  for_part : {k l : Kind} {a b : Forest} → ((st : Names) → ComesTo u st k a l b) → Stands u k a l b
  -- what wastes less; its own parts stay where it does
  for_waste : {k l : Kind} {a b ps : Forest} → ForEffect u → ((st : Names) → LessWaste st k a l b ps ps) → ((st : Names) → NodeStays fields st l b → Fits whole fields st ps) → Stands u k a l b
  for_sides : {o : LogicalOperator} {a b : Forest} → ForEffect u → ((st : Names) → OneSided st o a b) → Stands u Kind.ConditionalExpression a (Kind.LogicalExpression o) b
  for_sequence : {n : Note} {a b : Forest} → ((st : Names) → Shorter st a b) → Stands u Kind.SequenceExpression (node Kind.Expressions n a nothing) Kind.SequenceExpression (node Kind.Expressions n b nothing)

-- what stands behind a jump, and the same without a node that starts nothing and declares nothing
pub data Cut : Forest → Forest → Type 0 where
  node_cut : {k : Kind} {n : Note} {a r : Forest} → hoists_nothing k ≡ true → DeclaresNothing k a → Cut (node k n a r) r
  cut_behind : {k : Kind} {n : Note} {a r s : Forest} → Cut r s → Cut (node k n a r) (node k n a s)
  cut_behind_none : {r s : Forest} → Cut r s → Cut (absent r) (absent s)

-- By what the expressions of the rows are evaluated for, and how their nodes stand.
pub data Local : Purposes → Row → Forest → Forest → Type 0 where
  at_place : {us : Purposes} {p : Row} {k l : Kind} {n m : Note} {a b r : Forest} → Stands (purpose_here us (is_row r)) k a l b → Plainly k a l b → Local us p (node k n a r) (node l m b r)
  behind_jump : {us : Purposes} {k : Kind} {n : Note} {a r s : Forest} → cuts_off k a ≡ true → Cut r s → Local us items (node k n a r) (node k n a s)
  -- an item that does nothing and declares nothing leaves its list
  leaves_list : {us : Purposes} {k : Kind} {n : Note} {a r : Forest} → DoesNothing k a → DeclaresNothing k a → Local us items (node k n a r) r
  in_below : {us : Purposes} {p : Row} {k : Kind} {n : Note} {a b r : Forest} → ReadsSame k a b → Local (wanted_below (purpose_here us (is_row r)) k) (row_below k) a b → Local us p (node k n a r) (node k n b r)
  in_rest : {us : Purposes} {p : Row} {k : Kind} {n : Note} {a r s : Forest} → Local (purposes_behind us) p r s → Local us p (node k n a r) (node k n a s)
  in_absent : {us : Purposes} {p : Row} {r s : Forest} → Local (purposes_behind us) p r s → Local us p (absent r) (absent s)

-- a field, or none in its place
abbrev pub IsField : Forest → Type 0
IsField (absent nothing) = Unit {0}
IsField (node k n a nothing) = Unit {0}
IsField t = ⊥
