use Rattle.std.proofs.Common.{◌≡◌, ◌-◌, ◌<◌, ◌∷◌, length, Some, None, sym, ap, ◌∙◌, arith, rules}
use Rattle.json.specs.Json.{parse_map, after_end_array, read_key, items, members, value}
use Rattle.json.specs.Reads.{token_of}
use Rattle.json.proofs.Grammar.{value_is, read_key-shorter}
use Rattle.serde_json.specs.Data.{null, boolean, number, string, array, object}
use Rattle.serde_json.specs.Read.{of_json, of_items, of_members, number_of, converted}
use Rattle.serde_json.specs.View.{number_view}
use Rattle.json_value.specs.View.{view, members_view}
use Rattle.json_value.specs.declared.value.Value.{String, Number, Bool, Null, the_lemmas}
use Rattle.json_value.proofs.Reading.{nothing_read, text_read, truth_read, null_read, number_read, number_refused, no_array, no_object, array_read, object_read}
use Rattle.json_value.proofs.Turns.{item_read, item_refused, items_over, member_read, member_refused, key_refused, members_over}
use Rattle.json_value.proofs.Views.{view_array, view_object, items_before, all_items, one_more_item, no_item_yet, one_more_member}
use Rattle.json_value.proofs.read.+read.Goals as goal

-- ---- a value

pub read-returns-in_default-clause-err : goal.read-returns-in_default-clause-err
read-returns-in_default-clause-err t c refused = nothing_read c.args.depth c.args.reader.now (grind arith)

pub read-returns-then-depth-eq0-clause-err : goal.read-returns-then-depth-eq0-clause-err
read-returns-then-depth-eq0-clause-err t c refused =
    let first : c.args.reader.now ≡ token_of c.in-Some.token ∷ c.next.new.self = grind arith in
    no_array c.args.depth c.args.reader.now c.next.new.self (first ∙ ap (λ k. token_of k ∷ c.next.new.self) c.in-BeginArray.is) (omega arith)

pub read-returns-then-depth-eq0-2-clause-err : goal.read-returns-then-depth-eq0-2-clause-err
read-returns-then-depth-eq0-2-clause-err t c refused =
    let first : c.args.reader.now ≡ token_of c.in-Some.token ∷ c.next.new.self = grind arith in
    no_object c.args.depth c.args.reader.now c.next.new.self (first ∙ ap (λ k. token_of k ∷ c.next.new.self) c.in-BeginObject.is) (omega arith)

pub read-returns-in_err-read_items-in-BeginArray-clause-err : goal.read-returns-in_err-read_items-in-BeginArray-clause-err
read-returns-in_err-read_items-in-BeginArray-clause-err t c refused =
    let first : c.args.reader.now ≡ token_of c.in-Some.token ∷ c.next.new.self = grind arith in
    let opened = array_read c.args.depth c.args.reader.now c.next.new.self (first ∙ ap (λ k. token_of k ∷ c.next.new.self) c.in-BeginArray.is) (omega arith) in
    opened ∙ ap (parse_map array) (c.read_items.ensures.err (grind arith))

pub read-returns-in_err-read_members-in-BeginObject-clause-err : goal.read-returns-in_err-read_members-in-BeginObject-clause-err
read-returns-in_err-read_members-in-BeginObject-clause-err t c refused =
    let first : c.args.reader.now ≡ token_of c.in-Some.token ∷ c.next.new.self = grind arith in
    let opened = object_read c.args.depth c.args.reader.now c.next.new.self (first ∙ ap (λ k. token_of k ∷ c.next.new.self) c.in-BeginObject.is) (omega arith) in
    opened ∙ ap (parse_map object) (c.read_members.ensures.err (grind arith))

pub read-returns-in-String-clause-ok : goal.read-returns-in-String-clause-ok
read-returns-in-String-clause-ok t c =
    let first : c.args.reader.now ≡ token_of c.in-Some.token ∷ c.next.new.self = grind arith in
    let seen : view (String c.in-String.text) ≡ string c.in-String.text.now = search (rules, the_lemmas) in
    text_read c.args.depth c.args.reader.now c.next.new.self c.in-String.text.now (grind (arith, first)) ∙ ap (λ d. Some (d, c.next.new.self)) (sym seen)

pub read-returns-in-Some-number-clause-ok : goal.read-returns-in-Some-number-clause-ok
read-returns-in-Some-number-clause-ok t c =
    let first : c.args.reader.now ≡ token_of c.in-Some.token ∷ c.next.new.self = grind arith in
    let told : number_of c.in-Number.text.now ≡ Some (number_view c.in-Some-number.number) = sym c.in-Some-number.ensures in
    let seen : view (Number c.in-Some-number.number) ≡ number (number_view c.in-Some-number.number) = search (rules, the_lemmas) in
    number_read c.args.depth c.args.reader.now c.next.new.self c.in-Number.text.now _ (grind (arith, first)) told ∙ ap (λ d. Some (d, c.next.new.self)) (sym seen)

pub read-returns-in-None-clause-err : goal.read-returns-in-None-clause-err
read-returns-in-None-clause-err t c refused =
    let first : c.args.reader.now ≡ token_of c.in-Some.token ∷ c.next.new.self = grind arith in
    number_refused c.args.depth c.args.reader.now c.next.new.self c.in-Number.text.now (grind (arith, first)) (sym c.in-None.ensures)

pub read-returns-in-Bool-clause-ok : goal.read-returns-in-Bool-clause-ok
read-returns-in-Bool-clause-ok t c =
    let first : c.args.reader.now ≡ token_of c.in-Some.token ∷ c.next.new.self = grind arith in
    let seen : view (Bool c.in-Bool.b) ≡ boolean c.in-Bool.b = search (rules, the_lemmas) in
    truth_read c.args.depth c.args.reader.now c.next.new.self c.in-Bool.b (grind (arith, first)) ∙ ap (λ d. Some (d, c.next.new.self)) (sym seen)

pub read-returns-in-Null-clause-ok : goal.read-returns-in-Null-clause-ok
read-returns-in-Null-clause-ok t c =
    let first : c.args.reader.now ≡ token_of c.in-Some.token ∷ c.next.new.self = grind arith in
    let seen : view Null ≡ null = search (rules, the_lemmas) in
    null_read c.args.depth c.args.reader.now c.next.new.self (grind (arith, first)) ∙ ap (λ d. Some (d, c.next.new.self)) (sym seen)

pub read-returns-in-EndObject-clause-err : goal.read-returns-in-EndObject-clause-err
read-returns-in-EndObject-clause-err t c refused =
    let first : c.args.reader.now ≡ token_of c.in-Some.token ∷ c.next.new.self = grind arith in
    let none : value c.args.depth c.args.reader.now ≡ None = rw (value_is c.args.depth c.args.reader.now, first) (grind arith) in
    ap (converted of_json) none

pub read-returns-in_ok-read_items-in-BeginArray-clause-ok : goal.read-returns-in_ok-read_items-in-BeginArray-clause-ok
read-returns-in_ok-read_items-in-BeginArray-clause-ok t c =
    let first : c.args.reader.now ≡ token_of c.in-Some.token ∷ c.next.new.self = grind arith in
    let opened = array_read c.args.depth c.args.reader.now c.next.new.self (first ∙ ap (λ k. token_of k ∷ c.next.new.self) c.in-BeginArray.is) (omega arith) in
    let found = c.in_ok-read_items-in-BeginArray in
    opened ∙ ap (parse_map array) found.ensures.ok ∙ ap (λ d. Some (d, c.read_items.new.reader)) (sym (view_array found.field-0))

pub read-returns-in_ok-read_members-in-BeginObject-clause-ok : goal.read-returns-in_ok-read_members-in-BeginObject-clause-ok
read-returns-in_ok-read_members-in-BeginObject-clause-ok t c =
    let first : c.args.reader.now ≡ token_of c.in-Some.token ∷ c.next.new.self = grind arith in
    let opened = object_read c.args.depth c.args.reader.now c.next.new.self (first ∙ ap (λ k. token_of k ∷ c.next.new.self) c.in-BeginObject.is) (omega arith) in
    let found = c.in_ok-read_members-in-BeginObject in
    opened ∙ ap (parse_map object) found.ensures.ok ∙ ap (λ d. Some (d, c.read_members.new.reader)) (sym (view_object found.field-0))

-- ---- items

pub read_items-items-init : goal.read_items-items-init
read_items-items-init t c =
    let all = converted of_items (items (value c.args.depth) (length c.args.reader.now) c.args.reader.now) in
    (length c.args.reader.now, omega arith, omega arith, no_item_yet all ∙ ap (λ vs. parse_map (items_before vs) all) (sym c.new-found.ensures.items))

pub read_items-returns-in_err-item-clause-err : goal.read_items-returns-in_err-item-clause-err
read_items-returns-in_err-item-clause-err t c refused =
    let l = c.items in
    let going : (after_end_array l.reader ≡ None) × (c.take_end_array.new.self ≡ l.reader) = grind arith in
    l.invariant.3 ∙ ap (parse_map (items_before l.found.items)) (item_refused (value c.args.depth) l.invariant.0 l.reader going.0 (rw (← going.1) (c.read.ensures.err (grind arith))))

pub read_items-items-preserved : goal.read_items-items-preserved
read_items-items-preserved t c =
    let l = c.items in
    let n = l.invariant.0 in
    let going : (after_end_array l.reader ≡ None) × (c.take_end_array.new.self ≡ l.reader) = grind arith in
    let done = c.in_ok-item.ensures in
    let v = c.in_ok-item.item in
    let r = c.read.new.reader in
    let less : length r < length l.reader = rw (← going.1) done.shorter in
    let turn = item_read (value c.args.depth) n l.reader r (view v) (omega (arith, l.invariant.1)) going.0 (rw (← going.1) done.ok) in
    let rest = converted of_items (items (value c.args.depth) (n - 1) r) in
    let grown = one_more_item l.found.items v rest ∙ ap (λ vs. parse_map (items_before vs) rest) (sym c.in_ok-push.ensures.items) in
    (n - 1, omega (arith, l.invariant.1), omega (arith, l.invariant.2), l.invariant.3 ∙ ap (parse_map (items_before l.found.items)) turn ∙ grown)

pub read_items-returns-clause-ok : goal.read_items-returns-clause-ok
read_items-returns-clause-ok t c =
    let l = c.items in
    let r = c.take_end_array.new.self in
    let over = items_over (value c.args.depth) l.invariant.0 l.reader r l.invariant.1 (grind arith) in
    l.invariant.3 ∙ ap (parse_map (items_before l.found.items)) over ∙ ap (λ ds. Some (ds, r)) (all_items l.found.items)

-- ---- members

pub read_members-members-init : goal.read_members-members-init
read_members-members-init t c =
    let all = members (value c.args.depth) (length c.args.reader.now) c.args.reader.now in
    (length c.args.reader.now, omega arith, omega arith, ap (λ es. converted (λ ms. of_members ms (members_view es)) all) (sym c.new-found.ensures.items))

pub read_members-returns-in_err-key-clause-err : goal.read_members-returns-in_err-key-clause-err
read_members-returns-in_err-key-clause-err t c refused =
    let l = c.members in
    l.invariant.3 ∙ key_refused (value c.args.depth) (members_view l.found.items) l.invariant.0 l.reader c.in_err-key.ensures.value

pub read_members-returns-in_err-member-clause-err : goal.read_members-returns-in_err-member-clause-err
read_members-returns-in_err-member-clause-err t c refused =
    let l = c.members in
    let named : read_key l.reader ≡ Some (Some c.in-Some.key.now, c.next_key.new.self) = grind arith in
    l.invariant.3 ∙ member_refused (value c.args.depth) (members_view l.found.items) l.invariant.0 c.in-Some.key.now l.reader c.next_key.new.self named (c.read.ensures.err (grind arith))

pub read_members-members-preserved : goal.read_members-members-preserved
read_members-members-preserved t c =
    let l = c.members in
    let n = l.invariant.0 in
    let k = c.in-Some.key.now in
    let s = c.next_key.new.self in
    let named : read_key l.reader ≡ Some (Some k, s) = grind arith in
    let done = c.in_ok-member.ensures in
    let v = c.in_ok-member.member in
    let r = c.read.new.reader in
    let less = read_key-shorter l.reader (Some k) s named in
    let lesser = done.shorter in
    let turn = member_read (value c.args.depth) (members_view l.found.items) n k l.reader s r (view v) (omega (arith, l.invariant.1)) named done.ok in
    let grown = ap members_view c.in_ok-push.ensures.items ∙ one_more_member l.found.items (c.in-Some.key, v) in
    (n - 1, omega (arith, l.invariant.1), omega (arith, l.invariant.2), l.invariant.3 ∙ turn ∙ ap (λ found. converted (λ ms. of_members ms found) (members (value c.args.depth) (n - 1) r)) (sym grown))

pub read_members-returns-clause-ok : goal.read_members-returns-clause-ok
read_members-returns-clause-ok t c =
    let l = c.members in
    l.invariant.3 ∙ members_over (value c.args.depth) (members_view l.found.items) l.invariant.0 l.reader c.next_key.new.self l.invariant.1 (grind arith)
