-- A change at one place: all around it stays.
use Rattle.std.specs.Prelude.{◌≡◌, Bool, true}
use Rattle.js_syntax.specs.declared.node_kind.NodeKind.{NodeKind as Kind}
use Rattle.js_syntax.specs.declared.kind.FunctionKind.{FunctionKind}
use Rattle.js_syntax.specs.declared.kind.FunctionKind.TheVariants as function_kind
use Rattle.js_syntax.specs.Facts.{is_core}
use Rattle.js_syntax.specs.Node.{Note, Forest, node, absent}
use Rattle.js_meaning.specs.Scope.{waiting, named_so, first_name, own_name, function_decls}
use Rattle.js_meaning_near.specs.Names.{Names, FillableIf, Decls, declared, names_below}
use Rattle.js_meaning_near.specs.Near.{Row, fields, row_below, Okay, Heads, is_row, ReceiverOk, IsClosure, Near}
use Rattle.js_meaning_near.specs.Purpose.{Purposes, purpose_here, purposes_behind, for_values, wanted_below}
use Rattle.js_meaning_near.specs.Fit.{whole, NodeFits, IfCore, Fits}

-- what a core node asks to be near itself; of others nothing is asked
abbrev pub NodeStays : Row → Names → Kind → Forest → Type 0
NodeStays p st k a = IfCore (is_core k) (NodeFits p st k a (λ q r t. Fits q r t a))

-- Two rows with the same first field, and what stands behind it in each.
pub data SameFirst : Forest → Forest → Forest → Forest → Type 0 where
  same_node_first : {k : Kind} {n : Note} {a c d : Forest} → SameFirst (node k n a c) (node k n a d) c d
  same_absent_first : {c d : Forest} → SameFirst (absent c) (absent d) c d

-- What an entry declares is a premise at each node that the place lies in: so it may be that the new program declares less.
pub data Once : Purposes → Row → Names → Forest → Forest → Type 0 where
  at_place : {us : Purposes} {p : Row} {st : Names} {a b : Forest} → Near us p st a b → Once us p st a b
  in_rest : {us : Purposes} {p : Row} {st : Names} {k : Kind} {n : Note} {a c d : Forest} → NodeStays p st k a → Once (purposes_behind us) p st c d → Once us p st (node k n a c) (node k n a d)
  in_absent : {us : Purposes} {p : Row} {st : Names} {c d : Forest} → Once (purposes_behind us) p st c d → Once us p st (absent c) (absent d)
  in_node : {us : Purposes} {p : Row} {st t : Names} {k : Kind} {n : Note} {a b c : Forest} → Okay p st k → Decls st (declared k a) (declared k b) t → Heads k t a b
      → Once (wanted_below (purpose_here us (is_row c)) k) (row_below k) (names_below k st t) a b → Fits whole p st c → Once us p st (node k n a c) (node k n b c)
  in_closure : {us : Purposes} {p : Row} {st s t : Names} {f : FunctionKind} {pure : Bool} {n : Note} {a b c d e : Forest} → IsClosure f → own_name f a ≡ own_name f b
      → Decls st (named_so (waiting true) (own_name f a)) (named_so (waiting true) (own_name f b)) s → FillableIf s (own_name f a)
      → Decls s (function_decls f a) (function_decls f b) t → ReceiverOk f t → SameFirst a b d e → Once for_values fields t d e → Fits whole p st c
      → Once us p st (node (Kind.Function f pure) n a c) (node (Kind.Function f pure) n b c)
  in_declaration : {us : Purposes} {p : Row} {st t : Names} {pure : Bool} {n : Note} {a b c d e : Forest} → FillableIf st (first_name a)
      → Decls st (function_decls function_kind.Declaration a) (function_decls function_kind.Declaration b) t → ReceiverOk function_kind.Declaration t → SameFirst a b d e → Once for_values fields t d e → Fits whole p st c
      → Once us p st (node (Kind.Function function_kind.Declaration pure) n a c) (node (Kind.Function function_kind.Declaration pure) n b c)
