-- On a value of JSON that nests less than the levels that are left, reading never runs out of them.
use Rattle.std.proofs.Common.{◌≡◌, ◌≢◌, ℕ, zero, suc, ◌<◌, ◌≤◌, List, [], ◌∷◌, Bool, Option, Some, None, Result, Err, refl, arith}
use Rattle.serde_json.specs.Data.{Data, null, boolean, string, array, object, Items, no_items, item, depth, items_depth}
use Rattle.serde_json.specs.Data as json
use Rattle.serde_json.specs.Find.{get}
use Rattle.js_syntax.specs.declared.value.Key.{Key}
use Rattle.js_syntax.specs.declared.node_kind.NodeKind.{NodeKind as Kind}
use Rattle.js_syntax.specs.declared.node_kind.NodeKind.TheVariants.{Statements as statements}
use Rattle.js_syntax.specs.Node.{Forest}
use Rattle.js_syntax.specs.Class.{Class, a_prologue, expression, private_key}
use Rattle.js_syntax.specs.Field.{Keys, keeps, checks, a_key, child, maybe, each, each_or_hole, a_body, Field, field, Makes}
use Rattle.js_syntax.specs.Table.{Row, fields_of, kind_at, type_of, stands}
use Rattle.js_syntax.specs.declared.node_type.NodeType.{NodeType}
use Rattle.js_syntax.specs.declared.node_type.NodeType.TheVariants as type
use Rattle.json_text.specs.Fault.{Fault, too_deep}
use Rattle.json_text.specs.Plain.{takes_literal, takes_private}
use Rattle.json_text.specs.Reading.{Reader, read_child, read_maybe, read_or_hole, before, read_items, read_list, is_directive, row_here, with_child, apart, within, static_key, read_key, read_body, read_fields, read_row, read_here, read_node}
use Rattle.json_text.proofs.Plain.{get_depth, bound, chosen, field_is_no_level, type_ends, extras_end, identifier_ends, literal_key_ends, kept_ends, check_ends}

-- ---- fields with nodes

before_ends : (t : Forest) (r : Result Forest Fault) → r ≢ Err too_deep → before t r ≢ Err too_deep
before_ends t r ne = bound r _ ne (λ x h. cc)

with_child_ends : (t : Forest) (r : Result (Kind × Forest) Fault) → r ≢ Err too_deep → with_child t r ≢ Err too_deep
with_child_ends t r ne = bound r _ ne (λ x h. cc)

child_ends : (one : Data → Result Forest Fault) (bad : Fault) (found : Option Data) → bad ≢ too_deep → ((e : Data) → found ≡ Some e → one e ≢ Err too_deep) → read_child one bad found ≢ Err too_deep
unfolding read_child
child_ends one bad None ne below h = ne cc
child_ends one bad (Some e) ne below h = below e refl h

maybe_ends : (one : Data → Result Forest Fault) (found : Option Data) → ((e : Data) → found ≡ Some e → one e ≢ Err too_deep) → read_maybe one found ≢ Err too_deep
unfolding read_maybe
maybe_ends one None below h = cc
maybe_ends one (Some null) below h = cc
maybe_ends one (Some e) below h = below e refl h

or_hole_ends : (one : Data → Result Forest Fault) (e : Data) → one e ≢ Err too_deep → read_or_hole one e ≢ Err too_deep
unfolding read_or_hole
or_hole_ends one null ne = λ h. cc
or_hole_ends one (boolean b) ne = ne
or_hole_ends one (json.number n) ne = ne
or_hole_ends one (string s) ne = ne
or_hole_ends one (array ds) ne = ne
or_hole_ends one (object ms) ne = ne

items_end : (one : Data → Result Forest Fault) (n : ℕ) (ds : Items) → ((e : Data) → depth e < n → one e ≢ Err too_deep) → items_depth ds < n → read_items one ds ≢ Err too_deep
items_end one n no_items below shallow = λ h. cc
items_end one n (item d ds) below shallow =
    bound (one d) _ (below d (omega arith)) (λ t. before_ends t (read_items one ds) (items_end one n ds below (omega arith)))

list_ends : (list : Kind) (all : Items → Result Forest Fault) (bad : Fault) (found : Option Data) → bad ≢ too_deep → ((ds : Items) → found ≡ Some (array ds) → all ds ≢ Err too_deep) → read_list list all bad found ≢ Err too_deep
unfolding read_list
list_ends list all bad (Some (array ds)) ne below = bound (all ds) _ (below ds refl) (λ r h. cc)
list_ends list all bad other ne below = λ h. ne cc

-- ---- by the table

-- a reader that never runs out on what nests less than n
abbrev Suffices : ℕ → Reader → Type 0
Suffices n below = (c : Class) (bad : Fault) (d : Data) → depth d < n → bad ≢ too_deep → below c bad d ≢ Err too_deep

apart_ends : (r : Result Key Fault) → r ≢ Err too_deep → apart r ≢ Err too_deep
apart_ends r ne = bound r _ ne (λ k h. cc)

within_ends : (r : Result Forest Fault) → r ≢ Err too_deep → within r ≢ Err too_deep
within_ends r ne = bound r _ ne (λ k h. cc)

refused_key : (bad : Fault) → bad ≢ too_deep → ◌≢◌ {A = Result (Key × Forest) Fault} (Err bad) (Err too_deep)
refused_key bad ne h = ne cc

static_key_ends : (below : Reader) (n : ℕ) (keys : Keys) (bad : Fault) (d : Data) (t : NodeType) → Suffices n below → depth d < n → bad ≢ too_deep → static_key below keys bad d t ≢ Err too_deep
static_key_ends below n keys bad d type.Identifier enough shallow ne = apart_ends _ (identifier_ends d)
static_key_ends below n keys bad d type.Literal enough shallow ne = chosen (takes_literal keys) _ _ (apart_ends _ (literal_key_ends bad d ne)) (refused_key bad ne)
static_key_ends below n keys bad d type.PrivateIdentifier enough shallow ne = chosen (takes_private keys) _ _ (within_ends _ (enough private_key bad d shallow ne)) (refused_key bad ne)
static_key_ends below n keys bad d t enough shallow ne = refused_key bad ne

key_ends : (below : Reader) (n : ℕ) (keys : Keys) (computed : Bool) (bad : Fault) (found : Option Data) → Suffices n below → bad ≢ too_deep → ((e : Data) → found ≡ Some e → depth e < n) → read_key below keys computed bad found ≢ Err too_deep
unfolding read_key
key_ends below n keys computed bad None enough ne shallow = refused_key bad ne
key_ends below n keys computed bad (Some d) enough ne shallow =
    chosen computed _ _ (within_ends _ (enough expression bad d (shallow d refl) ne))
    (bound _ _ (type_ends bad d ne) (λ t. static_key_ends below n keys bad d t enough (shallow d refl) ne))

body_ends : (below : Reader) (n : ℕ) (c : Class) (bad : Fault) (ds : Items) → Suffices n below → bad ≢ too_deep → items_depth ds < n → read_body below c bad ds ≢ Err too_deep
body_ends below n c bad no_items enough ne shallow = λ h. cc
body_ends below n c bad (item d ds) enough ne shallow =
    chosen (is_directive d) _ _
    (bound (below a_prologue bad d) _ (enough a_prologue bad d (omega arith) ne) (λ t. before_ends t (read_body below c bad ds) (body_ends below n c bad ds enough ne (omega arith))))
    (items_end (below c bad) n (item d ds) (λ e less. enough c bad e less ne) shallow)

list_depth : (name : List ℕ) (d : Data) (ds : Items) (n : ℕ) → depth d ≤ n → get name d ≡ Some (array ds) → items_depth ds < n
list_depth name d ds n shallow h = omega (arith, get_depth name d (array ds) h)

fields_end : (below : Reader) (n : ℕ) (t : NodeType) (fs : List Field) (make : Makes fs) (d : Data) → Suffices n below → depth d ≤ n → read_fields below t fs make d ≢ Err too_deep
fields_end below n t [] make d enough shallow = λ h. cc
fields_end below n t (field name (keeps k) ∷ fs) make d enough shallow =
    bound _ _ (kept_ends k t name d) (λ x. fields_end below n t fs (make x) d enough shallow)
fields_end below n t (field name (checks c) ∷ fs) make d enough shallow =
    bound _ _ (check_ends c _ (get name d) (field_is_no_level _ _)) (λ x. fields_end below n t fs make d enough shallow)
fields_end below n t (field name (a_key keys) ∷ fs) make d enough shallow =
    bound _ _ (key_ends below n keys _ _ (get name d) enough (field_is_no_level _ _) (λ e h. omega (arith, get_depth name d e h)))
    (λ k. with_child_ends k.1 _ (fields_end below n t fs (make k.0) d enough shallow))
fields_end below n t (field name (child c) ∷ fs) make d enough shallow =
    bound _ _ (child_ends _ _ (get name d) (field_is_no_level _ _) (λ e h. enough c _ e (omega (arith, get_depth name d e h)) (field_is_no_level _ _)))
    (λ s. with_child_ends s _ (fields_end below n t fs make d enough shallow))
fields_end below n t (field name (maybe c) ∷ fs) make d enough shallow =
    bound _ _ (maybe_ends _ (get name d) (λ e h. enough c _ e (omega (arith, get_depth name d e h)) (field_is_no_level _ _)))
    (λ s. with_child_ends s _ (fields_end below n t fs make d enough shallow))
fields_end below n t (field name (each list c) ∷ fs) make d enough shallow =
    bound _ _ (list_ends list _ _ (get name d) (field_is_no_level _ _) (λ ds h. items_end _ n ds (λ e less. enough c _ e less (field_is_no_level _ _)) (list_depth name d ds n shallow h)))
    (λ s. with_child_ends s _ (fields_end below n t fs make d enough shallow))
fields_end below n t (field name (each_or_hole list c) ∷ fs) make d enough shallow =
    bound _ _ (list_ends list _ _ (get name d) (field_is_no_level _ _) (λ ds h. items_end _ n ds (λ e less. or_hole_ends _ e (enough c _ e less (field_is_no_level _ _))) (list_depth name d ds n shallow h)))
    (λ s. with_child_ends s _ (fields_end below n t fs make d enough shallow))
fields_end below n t (field name (a_body c) ∷ fs) make d enough shallow =
    bound _ _ (list_ends statements _ _ (get name d) (field_is_no_level _ _) (λ ds h. body_ends below n c _ ds enough (field_is_no_level _ _) (list_depth name d ds n shallow h)))
    (λ s. with_child_ends s _ (fields_end below n t fs make d enough shallow))

row_ends : (below : Reader) (n : ℕ) (row : Row) (d : Data) → Suffices n below → depth d ≤ n → read_row below row d ≢ Err too_deep
row_ends below n row d enough shallow =
    bound _ _ (fields_end below n (type_of row) (fields_of row) (kind_at row) d enough shallow) (λ p. bound _ _ (extras_end (type_of row) d) (λ _ h. cc))

here_ends : (below : Reader) (n : ℕ) (bad : Fault) (d : Data) (row : Option Row) → Suffices n below → depth d ≤ n → bad ≢ too_deep → read_here below bad d row ≢ Err too_deep
here_ends below n bad d (Some row) enough shallow ne = row_ends below n row d enough shallow
here_ends below n bad d None enough shallow ne = λ h. ne cc

pub node_ends : (n : ℕ) → Suffices n (read_node n)
unfolding read_node
node_ends zero c bad d shallow ne = absurd (omega arith)
node_ends (suc n) c bad d shallow ne =
    bound _ _ (type_ends bad d ne) (λ t. here_ends (read_node n) n bad d (row_here d (stands c t)) (node_ends n) (omega arith) ne)
