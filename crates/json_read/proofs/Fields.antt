-- Lists that are read from the front, one after another.
use Rattle.std.proofs.Common.{◌≡◌, ◌<◌, ◌≤◌, ◌+◌, ◌-◌, ◌∙◌, ℕ, List, ◌∷◌, Bool, true, false, Option, Some, None, Result, Ok, Err, length, drop, take, get_or, map, add-one, drop-cons, length-drop, refl, sym, ap, arith, codes}
use Rattle.std.specs.Option.{is_some}
use Rattle.std.proofs.lemmas.List.{drop_all, take_all}
use Rattle.serde_json.specs.Data.{Data, null, boolean, number, string, array, object}
use Rattle.serde_json.specs.Find.{as_null, get}
use Rattle.json_value.specs.View.{view, items_view}
use Rattle.json_value.specs.declared.value.Value.{Value}
use Rattle.js_syntax.specs.Class.{Class, a_prologue, simple_target}
use Rattle.js_syntax.specs.Table.{a_parenthesized_target}
use Rattle.js_syntax.specs.Node.{Forest, nothing, joined, alone, nowhere}
use Rattle.js_syntax.specs.declared.node_kind.NodeKind.TheVariants.{Hole as hole}
use Rattle.js_syntax.specs.declared.node_type.NodeType.{NodeType}
use Rattle.js_syntax.specs.declared.node_type.NodeType.TheVariants as type
use Rattle.js_tree.proofs.Rows.{joined_nothing, front_of}
use Rattle.json_scan.proofs.Steps.{fails_bind}
use Rattle.json_table.specs.View.{field_view}
use Rattle.json_table.specs.declared.field.Field as code
use Rattle.json_text.specs.Fault.{Fault, ◌>>=◌, fault_of}
use Rattle.json_text.specs.Plain.{check_extras}
use Rattle.json_text.specs.Answer.{Fails}
use Rattle.json_text.specs.declared.error.TreeError.{TreeError}
use Rattle.json_text.specs.Reading.{Reader, before, read_items, read_or_hole, is_directive, read_body, read_child, read_row}
use Rattle.json_scan.specs.Scalar.{one_item}
use Rattle.json_scan.specs.Scan.{scan, read_field}
use Rattle.json_read.proofs.Steps.{next_read, next_fails, all_read}

pub first_and_rest : {A : Type 0} (xs : List A) (x : A) → 1 ≤ length xs → x ≡ get_or xs 0 x → xs ≡ x ∷ drop 1 xs
first_and_rest xs x h is = drop-cons xs 0 x (omega arith) ∙ ap (λ y. y ∷ drop 1 xs) (sym is)

pub whole : {A : Type 0} (xs : List A) → 1 ≤ length xs → take (length xs - 1) (drop 1 xs) ≡ drop 1 xs
whole xs h = take_all (length xs - 1) (drop 1 xs) (omega (arith, length-drop 1 xs))

-- ---- fields

pub field_next : (below : Reader) (t : NodeType) (d : Data) (all : Result Forest Fault) (xs : List code.Field) (i : ℕ) (x : code.Field) (front n : Forest) → i < length xs
    → all ≡ before front (scan below t (map field_view (drop i xs)) d) → read_field below t (field_view (get_or xs i x)) d ≡ Ok n
    → all ≡ before (joined front n) (scan below t (map field_view (drop (i + 1) xs)) d)
field_next below t d all xs i x front n h so_far read =
    let here : drop i xs ≡ get_or xs i x ∷ drop (i + 1) xs = rw add-one (drop-cons xs i x h) in
    next_read all front n (read_field below t (field_view (get_or xs i x)) d) (scan below t (map field_view (drop (i + 1) xs)) d) (rw here at so_far) read

pub fields_over : (below : Reader) (t : NodeType) (d : Data) (all : Result Forest Fault) (xs : List code.Field) (i : ℕ) (front : Forest) → length xs ≤ i
    → all ≡ before front (scan below t (map field_view (drop i xs)) d) → all ≡ Ok front
fields_over below t d all xs i front h so_far = all_read all front (rw (drop_all i xs h) at so_far)

-- ---- items

-- an item that is no hole is read as a node
pub node_item : (holes : Bool) (one : Data → Result Forest Fault) (d : Data) → is_some (as_null d) ≡ false → one_item holes one d ≡ one d
unfolding read_or_hole
node_item true one null h = cc
node_item true one (boolean b) h = refl
node_item true one (number n) h = refl
node_item true one (string s) h = refl
node_item true one (array ds) h = refl
node_item true one (object ms) h = refl
node_item false one d h = refl

-- where no holes are taken, every item is a node
pub every_item : (holes : Bool) (one : Data → Result Forest Fault) (d : Data) → holes ≡ false → one_item holes one d ≡ one d
every_item holes one d is = rw is refl

pub hole_item : (holes : Bool) (one : Data → Result Forest Fault) (d : Data) → holes ≡ true → is_some (as_null d) ≡ true → one_item holes one d ≡ Ok (alone hole nowhere nothing)
unfolding read_or_hole
hole_item true one null is h = refl
hole_item true one (boolean b) is h = cc
hole_item true one (number n) is h = cc
hole_item true one (string s) is h = cc
hole_item true one (array ds) is h = cc
hole_item true one (object ms) is h = cc
hole_item false one d is h = cc

pub item_next : (one : Data → Result Forest Fault) (all : Result Forest Fault) (xs : List Value) (i : ℕ) (x : Value) (front t : Forest) → i < length xs → x ≡ get_or xs i x
    → all ≡ before front (read_items one (items_view (drop i xs))) → one (view x) ≡ Ok t → all ≡ before (joined front t) (read_items one (items_view (drop (i + 1) xs)))
item_next one all xs i x front t h is so_far read = next_read all front t (one (view x)) (read_items one (items_view (drop (i + 1) xs))) (rw (front_of xs i x h is) at so_far) read

pub item_fails : (one : Data → Result Forest Fault) (all : Result Forest Fault) (xs : List Value) (i : ℕ) (x : Value) (front : Forest) (e : TreeError) → i < length xs → x ≡ get_or xs i x
    → all ≡ before front (read_items one (items_view (drop i xs))) → Fails e (one (view x)) → Fails e all
item_fails one all xs i x front e h is so_far fails = next_fails all front e (one (view x)) (read_items one (items_view (drop (i + 1) xs))) (rw (front_of xs i x h is) at so_far) fails

pub items_over : (one : Data → Result Forest Fault) (all : Result Forest Fault) (xs : List Value) (i : ℕ) (front : Forest) → length xs ≤ i
    → all ≡ before front (read_items one (items_view (drop i xs))) → all ≡ Ok front
items_over one all xs i front h so_far = all_read all front (rw (drop_all i xs h) at so_far)

-- ---- bodies

body_here : (below : Reader) (c : Class) (bad : Fault) (xs : List Value) (x : Value) → 1 ≤ length xs → x ≡ get_or xs 0 x → is_directive (view x) ≡ true
    → read_body below c bad (items_view xs) ≡ (below a_prologue bad (view x) >>= λ t. before t (read_body below c bad (items_view (drop 1 xs))))
body_here below c bad xs x h is told = rw (first_and_rest xs x h is) (rw told refl)

pub directive_next : (below : Reader) (c : Class) (bad : Fault) (all : Result Forest Fault) (xs : List Value) (x : Value) (front t : Forest) → 1 ≤ length xs → x ≡ get_or xs 0 x
    → is_directive (view x) ≡ true → all ≡ before front (read_body below c bad (items_view xs)) → below a_prologue bad (view x) ≡ Ok t
    → all ≡ before (joined front t) (read_body below c bad (items_view (drop 1 xs)))
directive_next below c bad all xs x front t h is told so_far read =
    next_read all front t (below a_prologue bad (view x)) (read_body below c bad (items_view (drop 1 xs))) (rw (body_here below c bad xs x h is told) at so_far) read

-- ---- parentheses that are dropped

abbrev inner_fault : Fault
inner_fault = fault_of type.ParenthesizedExpression (codes "expression")

abbrev inner_at : Data → Option Data
inner_at d = get (codes "expression") d

pub inner_missing : (below : Reader) (d : Data) → inner_at d ≡ None → read_row below a_parenthesized_target d ≡ Err inner_fault
unfolding read_child
inner_missing below d h = rw h refl

pub inner_fails : (below : Reader) (d x : Data) (e : TreeError) → inner_at d ≡ Some x → Fails e (below simple_target inner_fault x) → Fails e (read_row below a_parenthesized_target d)
unfolding read_child
inner_fails below d x e h fails = rw h (fails_bind e _ _ (fails_bind e (below simple_target inner_fault x) _ fails))

pub inner_extras : (below : Reader) (d x : Data) (t : Forest) (e : TreeError) → inner_at d ≡ Some x → below simple_target inner_fault x ≡ Ok t → Fails e (check_extras type.ParenthesizedExpression d)
    → Fails e (read_row below a_parenthesized_target d)
unfolding read_child
inner_extras below d x t e h read fails = rw (h, read) (fails_bind e (check_extras type.ParenthesizedExpression d) _ fails)

pub inner_read : (below : Reader) (d x : Data) (t : Forest) → inner_at d ≡ Some x → below simple_target inner_fault x ≡ Ok t → check_extras type.ParenthesizedExpression d ≡ Ok tt
    → read_row below a_parenthesized_target d ≡ Ok t
unfolding read_child
inner_read below d x t h read extras = rw (h, read, extras) (ap Ok (joined_nothing t))
