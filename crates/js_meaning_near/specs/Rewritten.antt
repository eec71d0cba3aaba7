-- Rows of which the new one is the old one but for changes at any number of places, each right where this is known of the
-- names around it.
use Rattle.std.specs.Prelude.{◌≡◌, Bool, []}
use Rattle.js_syntax.specs.declared.node_kind.NodeKind.{NodeKind as Kind}
use Rattle.js_syntax.specs.declared.kind.FunctionKind.{FunctionKind}
use Rattle.js_syntax.specs.Node.{Note, Forest, nothing, node, absent}
use Rattle.js_meaning.specs.Value.{Text}
use Rattle.js_meaning.specs.Scope.{declared_name, first_name, names_of, bound_names, vars_of, var_names, specifier_decls, import_decls, item_decls, lexical}
use Rattle.js_meaning_near.specs.Names.{Names, names_below, declared}
use Rattle.js_meaning_near.specs.Near.{Row, fields, items, row_below, Okay, is_row, Idle, Near}
use Rattle.js_meaning_near.specs.Purpose.{Purposes, purpose_here, purposes_behind, for_values, wanted_below}
use Rattle.js_meaning_near.specs.Fit.{Part, whole, others, FunctionOk, names_after, within_code}
use Rattle.js_meaning_near.specs.Once.{NodeStays}
use Rattle.js_meaning_near.specs.Local.{KeysStay}

-- both declare the same
pub record SameNames (k : Kind) (a : Forest) (l : Kind) (b : Forest) : Type 0 where
  pub name : declared_name k ≡ declared_name l
  pub bound : names_of k (bound_names a) ≡ names_of l (bound_names b)
  pub vars : vars_of k a (var_names a) ≡ vars_of l b (var_names b)
  pub imports : (source : Text) → specifier_decls source k a (import_decls source a) ≡ specifier_decls source l b (import_decls source b)
  pub items : item_decls k a (lexical a) ≡ item_decls l b (lexical b)

-- it declares nothing, and no name stands in front without it
pub record DeclaresNone (k : Kind) (a rest : Forest) : Type 0 where
  pub name : declared_name k ≡ first_name rest
  pub bound : names_of k (bound_names a) ≡ []
  pub vars : vars_of k a (var_names a) ≡ []
  pub imports : (source : Text) → specifier_decls source k a (import_decls source a) ≡ []
  pub items : item_decls k a (lexical a) ≡ []

-- so it stays true of the names below a node, and below a function
abbrev pub Below : (Names → Type 0) → Kind → Forest → Type 0
Below C k b = (st : Names) → C st → C (names_below k st (names_after st (declared k b)))

abbrev pub BelowCode : (Names → Type 0) → FunctionKind → Forest → Type 0
BelowCode C f b = (st : Names) → C st → C (within_code st f b)

-- By what the expressions of the rows are evaluated for, and how their nodes stand.
pub data Rewritten (C : Names → Type 0) : Part → Purposes → Row → Forest → Forest → Type 0 where
  no_more : {q : Part} {us : Purposes} {p : Row} → Rewritten C q us p nothing nothing
  behind_absent : {us : Purposes} {p : Row} {r s : Forest} → Rewritten C whole (purposes_behind us) p r s → Rewritten C whole us p (absent r) (absent s)
  -- a place of change
  at_place : {us : Purposes} {p : Row} {k l : Kind} {n m : Note} {a b r s : Forest} → SameNames k a l b → ((st : Names) → C st → Near (purposes_behind us) p st r s → Near us p st (node k n a r) (node l m b s)) → Rewritten C whole (purposes_behind us) p r s
      → Rewritten C whole us p (node k n a r) (node l m b s)
  -- an item that leaves its list
  item_leaves : {us : Purposes} {k : Kind} {n : Note} {a r s : Forest} → DeclaresNone k a s → ((st : Names) → C st → Idle st k a) → Rewritten C whole us items r s → Rewritten C whole us items (node k n a r) s
  -- a node that stays
  behind_node : {us : Purposes} {p : Row} {k : Kind} {n : Note} {a r s : Forest} → ((st : Names) → C st → NodeStays p st k a) → Rewritten C whole (purposes_behind us) p r s → Rewritten C whole us p (node k n a r) (node k n a s)
  -- changes below it
  in_node : {us : Purposes} {p : Row} {k : Kind} {n m : Note} {a b r s : Forest} → ((st : Names) → C st → Okay p st k) → KeysStay k a b → Below C k b → Rewritten C whole (wanted_below (purpose_here us (is_row r)) k) (row_below k) a b → Rewritten C whole (purposes_behind us) p r s
      → Rewritten C whole us p (node k n a r) (node k m b s)
  in_code : {us : Purposes} {p : Row} {f : FunctionKind} {pure : Bool} {n m : Note} {a b r s : Forest} → ((st : Names) → C st → FunctionOk st f b) → BelowCode C f b → Rewritten C others for_values fields a b → Rewritten C whole (purposes_behind us) p r s
      → Rewritten C whole us p (node (Kind.Function f pure) n a r) (node (Kind.Function f pure) m b s)
  -- a function's name
  behind_name : {us : Purposes} {p : Row} {k : Kind} {n : Note} {a r s : Forest} → Rewritten C whole us p r s → Rewritten C others us p (node k n a r) (node k n a s)
  behind_no_name : {us : Purposes} {p : Row} {r s : Forest} → Rewritten C whole us p r s → Rewritten C others us p (absent r) (absent s)
