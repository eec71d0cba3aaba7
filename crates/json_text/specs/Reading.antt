-- The tree that a JSON value is, by the table of node types, or the first fault in reading order: a node's
-- type first, then its fields in the table's order, each child whole before the next field.
use Rattle.std.specs.Prelude.{ℕ, zero, suc, List, [], ◌∷◌, Bool, false, not, ◌&&◌, ◌||◌, Option, Some, None, Result, Ok, Err, codes, nat_lt, ◌^◌, if◌then◌else◌}
use Rattle.serde_json.specs.Data.{Num, unsigned, Data, null, boolean, string, array, object, Items, no_items, item, no_members}
use Rattle.serde_json.specs.Data as json
use Rattle.serde_json.specs.Find.{get}
use Rattle.js_syntax.specs.declared.value.Key.{Key}
use Rattle.js_syntax.specs.declared.value.Key.TheVariants.{Below as key_below}
use Rattle.js_syntax.specs.declared.node_kind.NodeKind.{NodeKind as Kind}
use Rattle.js_syntax.specs.declared.node_kind.NodeKind.TheVariants.{Hole as hole, Statements as statements}
use Rattle.js_syntax.specs.Node.{Note, Forest, nothing, absent, alone, joined, nowhere}
use Rattle.js_syntax.specs.Class.{Class, root, a_prologue, expression, private_key}
use Rattle.js_syntax.specs.Field.{Keys, keeps, checks, a_key, child, maybe, each, each_or_hole, a_body, Field, field, Makes}
use Rattle.js_syntax.specs.Table.{Row, a_literal, a_text_literal, a_reg_exp, a_binary_expression, an_in_expression, an_assignment_expression, a_compound_assignment, a_property, a_method_property, a_new_target, an_import_meta, an_export_list, an_export_declaration, an_export_from, a_parenthesized_target, fields_of, kind_at, type_of, stands}
use Rattle.js_syntax.specs.declared.node_type.NodeType.{NodeType}
use Rattle.js_syntax.specs.declared.node_type.NodeType.TheVariants as type
use Rattle.js_syntax.specs.declared.scalar.Span.{Span}
use Rattle.json_text.specs.Fault.{Fault, too_deep, ◌>>=◌, fault_of, untyped}
use Rattle.json_text.specs.Plain.{is_object_at, is_text_at, is_true_at, is_there, is_this, type_at, check_extras, read_kept, read_check, read_identifier, read_literal_key, takes_literal, takes_private}

-- ---- spans

-- the span, where both of its ends are whole numbers of 32 bits
abbrev pub offset_of : Num → Option ℕ
offset_of (unsigned n) = if nat_lt n (2 ^ 32) then Some n else None
offset_of _ = None

abbrev pub offset_at : Option Data → Option ℕ
offset_at (Some (json.number n)) = offset_of n
offset_at _ = None

abbrev pub span_between : Option ℕ → Option ℕ → Span
span_between (Some from) (Some to) = record { start = from; end = to }
span_between _ _ = record { start = 0; end = 0 }

unfoldable pub span_of : Data → Span
span_of d = span_between (offset_at (get (codes "start") d)) (offset_at (get (codes "end") d))

abbrev pub note_of : Data → Note
note_of d = record { span = span_of d; id = None }

-- ---- fields with nodes: `below` reads a node that is wanted there

abbrev pub Reader : Type 0
Reader = Class → Fault → Data → Result Forest Fault

unfoldable pub read_child : (Data → Result Forest Fault) → Fault → Option Data → Result Forest Fault
read_child one bad None = Err bad
read_child one bad (Some d) = one d

-- null or missing: nothing stands there
unfoldable pub read_maybe : (Data → Result Forest Fault) → Option Data → Result Forest Fault
read_maybe one None = Ok (absent nothing)
read_maybe one (Some null) = Ok (absent nothing)
read_maybe one (Some d) = one d

-- null is a hole
unfoldable pub read_or_hole : (Data → Result Forest Fault) → Data → Result Forest Fault
read_or_hole one null = Ok (alone hole nowhere nothing)
read_or_hole one d = one d

-- the nodes of a list, one after another
abbrev pub before : Forest → Result Forest Fault → Result Forest Fault
before first rest = rest >>= λ r. Ok (joined first r)

abbrev pub read_items : (Data → Result Forest Fault) → Items → Result Forest Fault
read_items one no_items = Ok nothing
read_items one (item d ds) = one d >>= λ t. before t (read_items one ds)

abbrev pub as_list : Kind → Result Forest Fault → Result Forest Fault
as_list list row = row >>= λ r. Ok (alone list nowhere r)

unfoldable pub read_list : Kind → (Items → Result Forest Fault) → Fault → Option Data → Result Forest Fault
read_list list all bad (Some (array ds)) = as_list list (all ds)
read_list list all bad _ = Err bad

-- an expression statement with a text `directive`: at the head of a body it is a directive
unfoldable pub is_directive : Data → Bool
is_directive d = is_this (codes "ExpressionStatement") (get (codes "type") d) && is_text_at (get (codes "directive") d)

-- ---- the rows of one type

abbrev pub is_reg_exp : Data → Bool
is_reg_exp d = is_object_at (get (codes "regex") d)

-- an accessor or method of an object
abbrev pub is_method : Data → Bool
is_method d = is_this (codes "get") (get (codes "kind") d) || is_this (codes "set") (get (codes "kind") d) || is_true_at (get (codes "method") d)

abbrev pub is_named : List ℕ → Option Data → Bool
is_named s (Some d) = is_this s (get (codes "name") d)
is_named s None = false

-- Where the table has several rows of a type that may stand at a place, what the node says decides between them. The
-- literal of a directive is a text.
unfoldable pub row_here : Data → Option Row → Option Row
row_here d (Some a_text_literal) = if is_text_at (get (codes "value") d) && not (is_reg_exp d) then Some a_text_literal else None
row_here d (Some a_literal) = if is_reg_exp d then Some a_reg_exp else Some a_literal
row_here d (Some a_binary_expression) = if is_this (codes "in") (get (codes "operator") d) then Some an_in_expression else Some a_binary_expression
row_here d (Some an_assignment_expression) = if is_this (codes "=") (get (codes "operator") d) then Some an_assignment_expression else Some a_compound_assignment
row_here d (Some a_property) = if is_method d then Some a_method_property else Some a_property
row_here d (Some a_new_target) = if is_named (codes "import") (get (codes "meta") d) then Some an_import_meta else Some a_new_target
row_here d (Some an_export_list) = if is_there (get (codes "declaration") d) then Some an_export_declaration else if is_there (get (codes "source") d) then Some an_export_from else Some an_export_list
row_here d other = other

-- parentheses around an assigned name or member are dropped
abbrev pub made : Row → Kind → Note → Forest → Forest
made a_parenthesized_target k n below = below
made row k n below = alone k n below

-- ---- by the table

-- the next child of a node, before what is read of its later fields
abbrev pub with_child : Forest → Result (Kind × Forest) Fault → Result (Kind × Forest) Fault
with_child t later = later >>= λ p. Ok (p.0, joined t p.1)

-- a key that is no node, and one that is
abbrev pub apart : Result Key Fault → Result (Key × Forest) Fault
apart r = r >>= λ k. Ok (k, absent nothing)

abbrev pub within : Result Forest Fault → Result (Key × Forest) Fault
within r = r >>= λ n. Ok (key_below, n)

module _ (below : Reader) where
  abbrev pub static_key : Keys → Fault → Data → NodeType → Result (Key × Forest) Fault
  static_key keys bad d type.Identifier = apart (read_identifier d)
  static_key keys bad d type.Literal = if takes_literal keys then apart (read_literal_key bad d) else Err bad
  static_key keys bad d type.PrivateIdentifier = if takes_private keys then within (below private_key bad d) else Err bad
  static_key keys bad d _ = Err bad

  unfoldable pub read_key : Keys → (computed : Bool) → Fault → Option Data → Result (Key × Forest) Fault
  read_key keys computed bad None = Err bad
  read_key keys computed bad (Some d) = if computed then within (below expression bad d) else (type_at bad d >>= λ t. static_key keys bad d t)

  -- directives at the head, and then nodes of this class
  abbrev pub read_body : Class → Fault → Items → Result Forest Fault
  read_body c bad no_items = Ok nothing
  read_body c bad (item d ds) = if is_directive d then (below a_prologue bad d >>= λ t. before t (read_body c bad ds)) else read_items (below c bad) (item d ds)

  abbrev pub read_fields : NodeType → (fields : List Field) → Makes fields → Data → Result (Kind × Forest) Fault
  read_fields t [] kind d = Ok (kind, nothing)
  read_fields t (field name (keeps k) ∷ fs) make d = read_kept k t name d >>= λ x. read_fields t fs (make x) d
  read_fields t (field name (checks c) ∷ fs) make d = read_check c (fault_of t name) (get name d) >>= λ _. read_fields t fs make d
  read_fields t (field name (a_key keys) ∷ fs) make d = read_key keys (is_true_at (get (codes "computed") d)) (fault_of t name) (get name d) >>= λ k. with_child k.1 (read_fields t fs (make k.0) d)
  read_fields t (field name (child c) ∷ fs) make d = read_child (below c (fault_of t name)) (fault_of t name) (get name d) >>= λ n. with_child n (read_fields t fs make d)
  read_fields t (field name (maybe c) ∷ fs) make d = read_maybe (below c (fault_of t name)) (get name d) >>= λ n. with_child n (read_fields t fs make d)
  read_fields t (field name (each list c) ∷ fs) make d = read_list list (read_items (below c (fault_of t name))) (fault_of t name) (get name d) >>= λ n. with_child n (read_fields t fs make d)
  read_fields t (field name (each_or_hole list c) ∷ fs) make d = read_list list (read_items (read_or_hole (below c (fault_of t name)))) (fault_of t name) (get name d) >>= λ n. with_child n (read_fields t fs make d)
  read_fields t (field name (a_body c) ∷ fs) make d = read_list statements (read_body c (fault_of t name)) (fault_of t name) (get name d) >>= λ n. with_child n (read_fields t fs make d)

  -- a node of this row: its fields, and then what every node has
  abbrev pub read_row : Row → Data → Result Forest Fault
  read_row row d = read_fields (type_of row) (fields_of row) (kind_at row) d >>= λ p. check_extras (type_of row) d >>= λ _. Ok (made row p.0 (note_of d) p.1)

  -- a node that may stand there
  abbrev pub read_here : Fault → Data → Option Row → Result Forest Fault
  read_here bad d (Some r) = read_row r d
  read_here bad d None = Err bad

-- the node of this class, in a tree of at most so many levels
unfoldable pub read_node : ℕ → Reader
read_node zero c bad d = Err too_deep
read_node (suc n) c bad d = type_at bad d >>= λ t. read_here (read_node n) bad d (row_here d (stands c t))

-- a value of JSON nests at most 127 arrays and objects
abbrev pub max_levels : ℕ
max_levels = 128

-- the program that a JSON value is
abbrev pub read_program : Data → Result Forest Fault
read_program d = read_node max_levels root untyped d
