-- Reading a node in two steps: first its fields one after another, each whole, with the nodes below it; then, from the
-- fields that are no nodes, its kind.
use Rattle.std.specs.Prelude.{List, [], ◌∷◌, Bool, Option, Some, None, Result, Ok, Err, codes, if◌then◌else◌}
use Rattle.serde_json.specs.Data.{Data}
use Rattle.serde_json.specs.Find.{get}
use Rattle.js_syntax.specs.declared.value.Key.{Key}
use Rattle.js_syntax.specs.declared.value.Key.TheVariants.{Below as key_below}
use Rattle.js_syntax.specs.declared.node_kind.NodeKind.{NodeKind as Kind}
use Rattle.js_syntax.specs.declared.node_kind.NodeKind.TheVariants.{Statements as statements}
use Rattle.js_syntax.specs.Node.{Forest, nothing}
use Rattle.js_syntax.specs.Field.{Keys, keeps, checks, a_key, child, maybe, each, each_or_hole, a_body, Field, field, Makes}
use Rattle.js_syntax.specs.declared.node_type.NodeType.{NodeType}
use Rattle.js_syntax.specs.declared.node_type.NodeType.TheVariants as type
use Rattle.json_text.specs.Fault.{Fault, ◌>>=◌, fault_of}
use Rattle.json_text.specs.Plain.{type_at, is_true_at, read_kept, read_check, read_identifier, read_literal_key, takes_literal, takes_private}
use Rattle.json_text.specs.Reading.{Reader, read_child, read_maybe, read_or_hole, before, read_items, read_list, read_key, read_body}

-- a field that is no node gives nothing to the row below, once it is found to be right
abbrev pub checked : {A : Type 0} → Result A Fault → Result Forest Fault
checked r = r >>= λ _. Ok nothing

-- the node that a key is
abbrev pub key_below_of : Reader → Keys → (computed : Bool) → Fault → Option Data → Result Forest Fault
key_below_of below keys computed bad found = read_key below keys computed bad found >>= λ k. Ok k.1

-- what a field gives to the row below its node
abbrev pub read_field : Reader → NodeType → Field → Data → Result Forest Fault
read_field below t (field name (keeps k)) d = checked (read_kept k t name d)
read_field below t (field name (checks c)) d = checked (read_check c (fault_of t name) (get name d))
read_field below t (field name (a_key keys)) d = key_below_of below keys (is_true_at (get (codes "computed") d)) (fault_of t name) (get name d)
read_field below t (field name (child c)) d = read_child (below c (fault_of t name)) (fault_of t name) (get name d)
read_field below t (field name (maybe c)) d = read_maybe (below c (fault_of t name)) (get name d)
read_field below t (field name (each list c)) d = read_list list (read_items (below c (fault_of t name))) (fault_of t name) (get name d)
read_field below t (field name (each_or_hole list c)) d = read_list list (read_items (read_or_hole (below c (fault_of t name)))) (fault_of t name) (get name d)
read_field below t (field name (a_body c)) d = read_list statements (read_body below c (fault_of t name)) (fault_of t name) (get name d)

-- the row below a node
abbrev pub scan : Reader → NodeType → List Field → Data → Result Forest Fault
scan below t [] d = Ok nothing
scan below t (f ∷ fs) d = read_field below t f d >>= λ n. before n (scan below t fs d)

-- a key; one that is a node is not looked at
abbrev pub key_here : Keys → Fault → Data → NodeType → Result Key Fault
key_here keys bad d type.Identifier = read_identifier d
key_here keys bad d type.Literal = if takes_literal keys then read_literal_key bad d else Err bad
key_here keys bad d type.PrivateIdentifier = if takes_private keys then Ok key_below else Err bad
key_here keys bad d _ = Err bad

abbrev pub key_alone : Keys → (computed : Bool) → Fault → Option Data → Result Key Fault
key_alone keys computed bad None = Err bad
key_alone keys computed bad (Some d) = if computed then Ok key_below else (type_at bad d >>= λ t. key_here keys bad d t)

-- the kind of a node
abbrev pub read_kind : NodeType → (fields : List Field) → Makes fields → Data → Result Kind Fault
read_kind t [] kind d = Ok kind
read_kind t (field name (keeps k) ∷ fs) make d = read_kept k t name d >>= λ x. read_kind t fs (make x) d
read_kind t (field name (checks c) ∷ fs) make d = read_kind t fs make d
read_kind t (field name (a_key keys) ∷ fs) make d = key_alone keys (is_true_at (get (codes "computed") d)) (fault_of t name) (get name d) >>= λ k. read_kind t fs (make k) d
read_kind t (field name (child c) ∷ fs) make d = read_kind t fs make d
read_kind t (field name (maybe c) ∷ fs) make d = read_kind t fs make d
read_kind t (field name (each list c) ∷ fs) make d = read_kind t fs make d
read_kind t (field name (each_or_hole list c) ∷ fs) make d = read_kind t fs make d
read_kind t (field name (a_body c) ∷ fs) make d = read_kind t fs make d
