-- Reading step by step.
use Rattle.std.proofs.Common.{◌≡◌, ◌≢◌, ◌<◌, ◌-◌, ◌∙◌, ℕ, zero, suc, Some, None, Result, Ok, Err, refl, sym, ap, sub-one, arith}
use Rattle.serde_json.specs.Data.{Data}
use Rattle.js_syntax.specs.Class.{Class}
use Rattle.js_syntax.specs.declared.node_kind.NodeKind.{NodeKind as Kind}
use Rattle.js_syntax.specs.Node.{Note, Forest, nothing, alone, joined}
use Rattle.json_table.specs.View.{row_view}
use Rattle.json_table.specs.declared.row.Row as code
use Rattle.json_table.specs.declared.row.Row.TheVariants as in_row
use Rattle.js_syntax.specs.Table.{Row, stands, type_of, fields_of, kind_at}
use Rattle.js_syntax.specs.declared.node_type.NodeType.{NodeType}
use Rattle.json_text.specs.Fault.{Fault, too_deep, ◌>>=◌}
use Rattle.json_text.specs.Plain.{type_at, check_extras}
use Rattle.json_text.specs.Reading.{Reader, row_here, before, read_fields, read_row, read_here, read_node, made, note_of}
use Rattle.json_text.specs.Answer.{Fails}
use Rattle.json_text.specs.declared.error.TreeError.{TreeError}
use Rattle.json_text.specs.declared.error.TreeError.TheVariants as error
use Rattle.js_tree.proofs.Rows.{joined_nothing, joined_assoc}
use Rattle.json_scan.specs.Scan.{scan, read_kind}
use Rattle.json_scan.proofs.Rows.{Reads, fields_read}
use Rattle.json_scan.proofs.Steps.{fails_bind}

pub node_none : (n : ℕ) (c : Class) (bad : Fault) (d : Data) → n ≡ 0 → read_node n c bad d ≡ Err too_deep
unfolding read_node
node_none zero c bad d h = refl
node_none (suc n) c bad d h = absurd (omega arith)

pub node_more : (n : ℕ) (c : Class) (bad : Fault) (d : Data) → 0 < n → read_node n c bad d ≡ (type_at bad d >>= λ t. read_here (read_node (n - 1)) bad d (row_here d (stands c t)))
unfolding read_node
node_more zero c bad d h = absurd (omega arith)
node_more (suc n) c bad d h = rw sub-one refl

-- what is read of a row, once its type and its row are known
pub row_read : (n : ℕ) (c : Class) (bad : Fault) (d : Data) (t : NodeType) (row : Row) → 0 < n → type_at bad d ≡ Ok t → row_here d (stands c t) ≡ Some row → read_node n c bad d ≡ read_row (read_node (n - 1)) row d
row_read n c bad d t row some is here = rw (node_more n c bad d some, is, here) refl

pub none_read : (n : ℕ) (c : Class) (bad : Fault) (d : Data) (t : NodeType) → 0 < n → type_at bad d ≡ Ok t → row_here d (stands c t) ≡ None → read_node n c bad d ≡ Err bad
none_read n c bad d t some is here = rw (node_more n c bad d some, is, here) refl

-- the fault of a field is that of the row
row_of_fault : (below : Reader) (row : Row) (d : Data) (e : Fault) (r : Result Forest Fault) → Reads r (read_fields below (type_of row) (fields_of row) (kind_at row) d) (read_kind (type_of row) (fields_of row) (kind_at row) d) → r ≡ Err e → read_row below row d ≡ Err e
row_of_fault below row d e (Err x) h is = rw h cc
row_of_fault below row d e (Ok x) h is = cc

row_fault : (below : Reader) (row : Row) (d : Data) (e : Fault) → scan below (type_of row) (fields_of row) d ≡ Err e → read_row below row d ≡ Err e
row_fault below row d e h = row_of_fault below row d e (scan below (type_of row) (fields_of row) d) (fields_read below (type_of row) (fields_of row) (kind_at row) d) h

row_of_parts : (below : Reader) (row : Row) (d : Data) (n : Forest) (r : Result Forest Fault) → Reads r (read_fields below (type_of row) (fields_of row) (kind_at row) d) (read_kind (type_of row) (fields_of row) (kind_at row) d) → r ≡ Ok n
    → read_row below row d ≡ (check_extras (type_of row) d >>= λ _. read_kind (type_of row) (fields_of row) (kind_at row) d >>= λ k. Ok (made row k (note_of d) n))
row_of_parts below row d n (Err x) h is = cc
row_of_parts below row d n (Ok x) h is = let same : x ≡ n = cc in rw (h.2, h.1, same) refl

-- once what lies below is read
row_parts : (below : Reader) (row : Row) (d : Data) (n : Forest) → scan below (type_of row) (fields_of row) d ≡ Ok n
    → read_row below row d ≡ (check_extras (type_of row) d >>= λ _. read_kind (type_of row) (fields_of row) (kind_at row) d >>= λ k. Ok (made row k (note_of d) n))
row_parts below row d n h = row_of_parts below row d n (scan below (type_of row) (fields_of row) d) (fields_read below (type_of row) (fields_of row) (kind_at row) d) h

fails_row : (below : Reader) (row : Row) (d : Data) (e : TreeError) → Fails e (scan below (type_of row) (fields_of row) d) → Fails e (read_row below row d)
fails_row below row d error.Syntax h = row_fault below row d too_deep h
fails_row below row d (error.UnknownNode k) h = row_fault below row d _ h
fails_row below row d (error.BadField k f) h = row_fault below row d _ h
fails_row below row d error.NumberOutOfRange h = row_fault below row d _ h
fails_row below row d error.OutOfMemory h = tt

-- ---- a node of a row that stands for itself

pub fails_below : (below : Reader) (row : Row) (d : Data) (e : TreeError) → Fails e (scan below (type_of row) (fields_of row) d) → Fails e (read_row below row d)
fails_below below row d e h = fails_row below row d e h

pub extras_fail : (below : Reader) (row : Row) (d : Data) (f : Forest) (e : TreeError) → scan below (type_of row) (fields_of row) d ≡ Ok f → Fails e (check_extras (type_of row) d) → Fails e (read_row below row d)
extras_fail below row d f e is h = rw (row_parts below row d f is) (fails_bind e (check_extras (type_of row) d) _ h)

pub kind_fails : (below : Reader) (row : Row) (d : Data) (f : Forest) (e : TreeError) → scan below (type_of row) (fields_of row) d ≡ Ok f → check_extras (type_of row) d ≡ Ok tt
    → Fails e (read_kind (type_of row) (fields_of row) (kind_at row) d) → Fails e (read_row below row d)
kind_fails below row d f e is extras h = rw (row_parts below row d f is, extras) (fails_bind e (read_kind (type_of row) (fields_of row) (kind_at row) d) _ h)

pub row_made : (below : Reader) (row : Row) (d : Data) (f : Forest) (k : Kind) → scan below (type_of row) (fields_of row) d ≡ Ok f → check_extras (type_of row) d ≡ Ok tt
    → read_kind (type_of row) (fields_of row) (kind_at row) d ≡ Ok k → read_row below row d ≡ Ok (made row k (note_of d) f)
row_made below row d f k is extras kind = rw (row_parts below row d f is, extras, kind) refl

-- whose node is its own
pub stands_for_itself : (r : code.Row) → r ≢ in_row.ParenthesizedTarget → (k : Kind) (n : Note) (f : Forest) → made (row_view r) k n f ≡ alone k n f
stands_for_itself in_row.ParenthesizedTarget h k n f = absurd (h refl)
stands_for_itself other h k n f = refl

-- ---- lists

before_before : (a b : Forest) (r : Result Forest Fault) → before a (before b r) ≡ before (joined a b) r
before_before a b (Ok t) = ap Ok (sym (joined_assoc a b t))
before_before a b (Err e) = refl

-- one more item or field was read
pub next_read : (all : Result Forest Fault) (front t : Forest) (one rest : Result Forest Fault)
    → all ≡ before front (one >>= λ n. before n rest) → one ≡ Ok t → all ≡ before (joined front t) rest
next_read all front t one rest so_far read = so_far ∙ rw read (before_before front t rest)

pub next_fails : (all : Result Forest Fault) (front : Forest) (e : TreeError) (one rest : Result Forest Fault)
    → all ≡ before front (one >>= λ n. before n rest) → Fails e one → Fails e all
next_fails all front e one rest so_far h = rw so_far (fails_bind e (one >>= λ n. before n rest) _ (fails_bind e one _ h))

pub all_read : (all : Result Forest Fault) (front : Forest) → all ≡ before front (Ok nothing) → all ≡ Ok front
all_read all front so_far = so_far ∙ ap Ok (joined_nothing front)
