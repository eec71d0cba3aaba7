-- Reading a node is reading its fields one after another, and then its kind.
use Rattle.std.proofs.Common.{◌≡◌, Option, List, [], ◌∷◌, Bool, true, false, Some, None, Result, Ok, Err, refl, ap, codes}
use Rattle.serde_json.specs.Data.{Data}
use Rattle.serde_json.specs.Find.{get}
use Rattle.js_syntax.specs.declared.value.Key.{Key}
use Rattle.js_syntax.specs.declared.value.Key.TheVariants.{Below as key_below}
use Rattle.std.specs.Prelude.{if◌then◌else◌}
use Rattle.js_syntax.specs.declared.node_kind.NodeKind.{NodeKind as Kind}
use Rattle.js_syntax.specs.Node.{Forest}
use Rattle.js_syntax.specs.Class.{expression, private_key}
use Rattle.js_syntax.specs.Field.{Keys, keeps, checks, a_key, child, maybe, each, each_or_hole, a_body, Field, field, Makes}
use Rattle.js_syntax.specs.declared.node_type.NodeType.{NodeType}
use Rattle.js_syntax.specs.declared.node_type.NodeType.TheVariants as type
use Rattle.json_text.specs.Fault.{Fault, ◌>>=◌, fault_of}
use Rattle.json_text.specs.Plain.{type_at, is_true_at, read_kept, read_check, read_identifier, read_literal_key, takes_literal, takes_private}
use Rattle.json_text.specs.Reading.{Reader, read_child, read_maybe, read_or_hole, before, read_items, read_list, with_child, apart, within, static_key, read_key, read_body, read_fields}
use Rattle.js_syntax.specs.declared.node_kind.NodeKind.TheVariants.{Statements as statements}
use Rattle.json_scan.specs.Scan.{checked, scan, key_here, key_alone, read_kind}

-- reading whole gives what is read below, and the kind
abbrev pub Reads : Result Forest Fault → Result (Kind × Forest) Fault → Result Kind Fault → Type 0
Reads (Err e) whole kind = whole ≡ Err e
Reads (Ok n) whole kind = (k : Kind) × (kind ≡ Ok k) × (whole ≡ Ok (k, n))

kept_step : {X : Type 0} (r : Result X Fault) (rest : Result Forest Fault) (later : X → Result (Kind × Forest) Fault) (kind : X → Result Kind Fault)
    → ((x : X) → Reads rest (later x) (kind x)) → Reads (checked r >>= λ n. before n rest) (r >>= later) (r >>= kind)
kept_step (Err e) rest later kind h = refl
kept_step (Ok x) (Err e) later kind h = h x
kept_step (Ok x) (Ok n) later kind h = h x

checked_step : {X : Type 0} (r : Result X Fault) (rest : Result Forest Fault) (later : Result (Kind × Forest) Fault) (kind : Result Kind Fault)
    → Reads rest later kind → Reads (checked r >>= λ n. before n rest) (r >>= λ _. later) kind
checked_step (Err e) rest later kind h = refl
checked_step (Ok x) (Err e) later kind h = h
checked_step (Ok x) (Ok n) later kind h = h

child_step : (r rest : Result Forest Fault) (later : Result (Kind × Forest) Fault) (kind : Result Kind Fault)
    → Reads rest later kind → Reads (r >>= λ n. before n rest) (r >>= λ n. with_child n later) kind
child_step (Err e) rest later kind h = refl
child_step (Ok t) (Err e) later kind h = rw h refl
child_step (Ok t) (Ok n) later kind h = (h.0, h.1, rw h.2 refl)

key_step : (r : Result (Key × Forest) Fault) (alone : Result Key Fault) (rest : Result Forest Fault) (later : Key → Result (Kind × Forest) Fault) (kind : Key → Result Kind Fault)
    → ((k : Key × Forest) → r ≡ Ok k → alone ≡ Ok k.0) → ((k : Key) → Reads rest (later k) (kind k))
    → Reads ((r >>= λ k. Ok k.1) >>= λ n. before n rest) (r >>= λ k. with_child k.1 (later k.0)) (alone >>= kind)
key_step (Err e) alone rest later kind agree h = refl
key_step (Ok k) alone (Err e) later kind agree h = rw (h k.0) refl
key_step (Ok k) alone (Ok n) later kind agree h = ((h k.0).0, rw (agree k refl) ((h k.0).1), rw ((h k.0).2) refl)

-- ---- keys

first_of_key : Result (Key × Forest) Fault → Result Key Fault
first_of_key (Ok k) = Ok k.0
first_of_key (Err e) = Err e

apart_key : (r : Result Key Fault) (k : Key × Forest) → apart r ≡ Ok k → r ≡ Ok k.0
unfolding first_of_key
apart_key (Ok x) k h = ap first_of_key h
apart_key (Err e) k h = cc

abbrev below_read : Result Key Fault
below_read = Ok key_below

within_key : (r : Result Forest Fault) (k : Key × Forest) → within r ≡ Ok k → below_read ≡ Ok k.0
unfolding first_of_key
within_key (Ok x) k h = ap first_of_key h
within_key (Err e) k h = cc

literal_agrees : (b : Bool) (r : Result Key Fault) (bad : Fault) (k : Key × Forest) → (if b then apart r else Err bad) ≡ Ok k → (if b then r else Err bad) ≡ Ok k.0
literal_agrees true r bad k h = apart_key r k h
literal_agrees false r bad k h = cc

private_agrees : (b : Bool) (r : Result Forest Fault) (bad : Fault) (k : Key × Forest) → (if b then within r else Err bad) ≡ Ok k → (if b then Ok key_below else Err bad) ≡ Ok k.0
private_agrees true r bad k h = within_key r k h
private_agrees false r bad k h = cc

static_agrees : (below : Reader) (keys : Keys) (bad : Fault) (d : Data) (t : NodeType) (k : Key × Forest) → static_key below keys bad d t ≡ Ok k → key_here keys bad d t ≡ Ok k.0
static_agrees below keys bad d type.Identifier k h = apart_key (read_identifier d) k h
static_agrees below keys bad d type.Literal k h = literal_agrees (takes_literal keys) (read_literal_key bad d) bad k h
static_agrees below keys bad d type.PrivateIdentifier k h = private_agrees (takes_private keys) (below private_key bad d) bad k h
static_agrees below keys bad d other k h = cc

typed_agrees : (below : Reader) (keys : Keys) (bad : Fault) (d : Data) (r : Result NodeType Fault) (k : Key × Forest) → (r >>= λ t. static_key below keys bad d t) ≡ Ok k → (r >>= λ t. key_here keys bad d t) ≡ Ok k.0
typed_agrees below keys bad d (Ok t) k h = static_agrees below keys bad d t k h
typed_agrees below keys bad d (Err e) k h = cc

key_agrees : (below : Reader) (keys : Keys) (computed : Bool) (bad : Fault) (found : Option Data) (k : Key × Forest) → read_key below keys computed bad found ≡ Ok k → key_alone keys computed bad found ≡ Ok k.0
unfolding read_key
key_agrees below keys computed bad None k h = cc
key_agrees below keys true bad (Some d) k h = within_key (below expression bad d) k h
key_agrees below keys false bad (Some d) k h = typed_agrees below keys bad d (type_at bad d) k h

-- ---- by the table

pub fields_read : (below : Reader) (t : NodeType) (fs : List Field) (make : Makes fs) (d : Data) → Reads (scan below t fs d) (read_fields below t fs make d) (read_kind t fs make d)
fields_read below t [] make d = (make, refl, refl)
fields_read below t (field name (keeps k) ∷ fs) make d = kept_step (read_kept k t name d) (scan below t fs d) (λ x. read_fields below t fs (make x) d) (λ x. read_kind t fs (make x) d) (λ x. fields_read below t fs (make x) d)
fields_read below t (field name (checks c) ∷ fs) make d = checked_step (read_check c (fault_of t name) (get name d)) (scan below t fs d) (read_fields below t fs make d) (read_kind t fs make d) (fields_read below t fs make d)
fields_read below t (field name (a_key keys) ∷ fs) make d =
    let computed = is_true_at (get (codes "computed") d) in
    key_step (read_key below keys computed (fault_of t name) (get name d)) (key_alone keys computed (fault_of t name) (get name d)) (scan below t fs d) (λ k. read_fields below t fs (make k) d) (λ k. read_kind t fs (make k) d)
    (key_agrees below keys computed (fault_of t name) (get name d)) (λ k. fields_read below t fs (make k) d)
fields_read below t (field name (child c) ∷ fs) make d = child_step (read_child (below c (fault_of t name)) (fault_of t name) (get name d)) (scan below t fs d) (read_fields below t fs make d) (read_kind t fs make d) (fields_read below t fs make d)
fields_read below t (field name (maybe c) ∷ fs) make d = child_step (read_maybe (below c (fault_of t name)) (get name d)) (scan below t fs d) (read_fields below t fs make d) (read_kind t fs make d) (fields_read below t fs make d)
fields_read below t (field name (each list c) ∷ fs) make d = child_step (read_list list (read_items (below c (fault_of t name))) (fault_of t name) (get name d)) (scan below t fs d) (read_fields below t fs make d) (read_kind t fs make d) (fields_read below t fs make d)
fields_read below t (field name (each_or_hole list c) ∷ fs) make d = child_step (read_list list (read_items (read_or_hole (below c (fault_of t name)))) (fault_of t name) (get name d)) (scan below t fs d) (read_fields below t fs make d) (read_kind t fs make d) (fields_read below t fs make d)
fields_read below t (field name (a_body c) ∷ fs) make d = child_step (read_list statements (read_body below c (fault_of t name)) (fault_of t name) (get name d)) (scan below t fs d) (read_fields below t fs make d) (read_kind t fs make d) (fields_read below t fs make d)
