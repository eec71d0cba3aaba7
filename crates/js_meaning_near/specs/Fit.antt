-- Rows that look up nothing that is dead, unread or known: they are near themselves.
use Rattle.std.specs.Prelude.{Bool, true, false, List, [], ◌∷◌}
use Rattle.js_syntax.specs.declared.node_kind.NodeKind.{NodeKind as Kind}
use Rattle.js_syntax.specs.declared.kind.FunctionKind.{FunctionKind}
use Rattle.js_syntax.specs.declared.kind.FunctionKind.TheVariants as function_kind
use Rattle.js_syntax.specs.Facts.{is_core}
use Rattle.js_syntax.specs.Node.{Forest, nothing, node, absent}
use Rattle.js_meaning.specs.Scope.{Decl, decl, waiting, named_so, behind, first_name, own_name, function_decls}
use Rattle.js_meaning_near.specs.Names.{live, Names, with_name, FillableIf, declared, names_below}
use Rattle.js_meaning_near.specs.Purpose.{Purposes, purposes_behind}
use Rattle.js_meaning_near.specs.Near.{Row, fields, row_below, Okay, ReceiverOk}

-- the names behind declarations that both programs have
abbrev pub names_after : Names → List Decl → Names
names_after st [] = st
names_after st (decl x way ∷ ds) = names_after (with_name st x live) ds

-- the names around a function's own name, and those around its parameters and body
abbrev pub around_code : Names → FunctionKind → Forest → Names
around_code st f a = names_after st (named_so (waiting true) (own_name f a))

abbrev pub within_code : Names → FunctionKind → Forest → Names
within_code st f a = names_after (around_code st f a) (function_decls f a)

-- what a function asks of the names around it and of its own
abbrev pub FunctionOk : Names → FunctionKind → Forest → Type 0
FunctionOk st function_kind.Declaration a = FillableIf st (first_name a) × ReceiverOk function_kind.Declaration (within_code st function_kind.Declaration a)
FunctionOk st f a = FillableIf (around_code st f a) (own_name f a) × ReceiverOk f (within_code st f a)

-- a row, or what stands behind its first field
pub data Part : Type 0 where
  whole others : Part

abbrev pub part_of : Part → Forest → Forest
part_of whole a = a
part_of others a = behind a

-- and what its expressions are evaluated for
abbrev pub purposes_of : Part → Purposes → Purposes
purposes_of whole us = us
purposes_of others us = purposes_behind us

-- what a core node asks; `below`: what the row below it asks
abbrev pub NodeFits : Row → Names → Kind → Forest → (Part → Row → Names → Type 0) → Type 0
NodeFits p st (Kind.Function f pure) a below = FunctionOk st f a × below others fields (within_code st f a)
NodeFits p st k a below = Okay p st k × below whole (row_below k) (names_below k st (names_after st (declared k a)))

-- of a node that isn't core nothing is asked
abbrev pub IfCore : Bool → Type 0 → Type 0
IfCore true A = A
IfCore false A = Unit {0}

abbrev pub Fits : Part → Row → Names → Forest → Type 0
Fits q p st nothing = Unit {0}
Fits others p st (absent c) = Fits whole p st c
Fits others p st (node k n a c) = Fits whole p st c
Fits whole p st (absent c) = Fits whole p st c
Fits whole p st (node k n a c) = IfCore (is_core k) (NodeFits p st k a (λ q r t. Fits q r t a)) × Fits whole p st c
