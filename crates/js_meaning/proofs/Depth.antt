-- The depth to which entries may nest is never seen: the budget runs out first.
use Rattle.std.proofs.Common.{◌≡◌, ℕ, zero, suc, ◌+◌, ◌-◌, ◌≤◌, ◌<◌, List, [], ◌∷◌, Option, Some, None, refl, ap, sym, ◌∙◌, subst, arith}
use Rattle.std.specs.Prelude.{Bool, true, false, ◌||◌, ℤ, pos, ◌+ℤ◌, ◌-ℤ◌, ◌*ℤ◌, neg_ℤ, int_div, int_rem}
use Rattle.js_syntax.specs.declared.node_kind.NodeKind.{NodeKind as Kind}
use Rattle.js_syntax.specs.Facts.{is_core}
use Rattle.js_syntax.specs.Node.{Forest, nothing, node, absent}
use Rattle.js_syntax.specs.declared.value.Key.{Key}
use Rattle.js_syntax.specs.declared.value.Key.TheVariants.{Name as key_name, Text as key_text, Number as key_number, Below as key_below}
use Rattle.js_syntax.specs.declared.scalar.SourceType.TheVariants as source_type
use Rattle.js_syntax.specs.declared.kind.FunctionKind.{FunctionKind}
use Rattle.js_syntax.specs.declared.kind.FunctionKind.TheVariants as function_kind
use Rattle.js_syntax.specs.declared.kind.VariableKind.{VariableKind}
use Rattle.js_syntax.specs.declared.kind.VariableKind.TheVariants as variable
use Rattle.js_syntax.specs.declared.operator.UnaryOperator.{UnaryOperator}
use Rattle.js_syntax.specs.declared.operator.UnaryOperator.TheVariants as unary
use Rattle.js_syntax.specs.declared.operator.UpdateOperator.{UpdateOperator}
use Rattle.js_syntax.specs.declared.operator.UpdateOperator.TheVariants as update
use Rattle.js_syntax.specs.declared.operator.BinaryOperator.{BinaryOperator}
use Rattle.js_syntax.specs.declared.operator.BinaryOperator.TheVariants as binary
use Rattle.js_syntax.specs.declared.operator.LogicalOperator.{LogicalOperator}
use Rattle.js_syntax.specs.declared.operator.LogicalOperator.TheVariants as logical
use Rattle.js_syntax.specs.declared.operator.AssignmentOperator.{AssignmentOperator}
use Rattle.js_syntax.specs.declared.operator.AssignmentOperator.TheVariants as assignment
use Rattle.js_meaning.specs.Value.{Text, Slot, local, imported, arguments_object, Env, this_name, Value, Plain, plain, undefined, null, boolean, number, text, host, other, closure, object, array, error}
use Rattle.js_meaning.specs.Trace.{Act, Move, call_own, set_global_to, remove_global, set_import_to, answer, refuse, Script, Ending, ended}
use Rattle.js_meaning.specs.State.{State, Cell, cell, Place, at_slot, at_global, at_member, Completion, normal, gives, gives_all, refers, breaks, continues, returns, throws, Out, stops, M, stop, unknown, spend_from, spend}
use Rattle.js_meaning.specs.Operator.{is_negative, known_binary, binary_of, unary_of, on_number, on_numbers, updated, truthy, is_object, is_boolean, whole, signed, plus_plain, joined, is_text, plain_text, loosely, answer_is, answer_not}
use Rattle.js_meaning.specs.Scope.{look}
use Rattle.js_meaning.specs.Host.{Loop, while_loop, do_loop, for_loop, Task, body, turn, called_back, Enter, call_back, moves_end, answered, play, host_moves, consult, only, report}
use Rattle.js_meaning.specs.Reference.{Global, the_undefined, no_whole_number, usual, global_named, if_set, cell_value, slot_value, if_there, global_value, name_value, or_undefined, typeof_name, assign_cell, assign_import, assign_slot, assign_present, assign_global, name_place, get_member, set_member, get_place, put_place}
use Rattle.js_meaning.specs.Node.{itself, to_call, for_typeof, Ask, run, value, place, take, take_all, declares, collect, entry, matches, now, Meaning, Parts, need, may, each, values, all_values, value_or_undefined, ask_maybe}
use Rattle.js_meaning.specs.Expression.{call_value, construct_value, binary_value, logical_value, member_key, member_place, then_put, compound, short, assign, update_gives, update_place, fill_own, function_value, in_turn}
use Rattle.js_meaning.specs.Statement.{after_label, declarator, after_turn, enter_if, test_for, test_then, turn_does, after_init, for_does, case_is, choose_case, case_test, after_switch, after_block, after_finally, try_does, take_maybe, catch_does}
use Rattle.js_meaning.specs.Module.{load_all}
use Rattle.js_meaning.specs.Meaning.{take_each, default_does, does, if_core, eval, take_this, run_code, after_call, enter_body, task_does, enter}
use Rattle.js_meaning.specs.Run.{finish, finally, module_does, program_does, first_state, seen, run_within, run as run_of}
use Rattle.js_meaning.proofs.Same.{Compared, within, with_more, beside, Alike, both_go, both_stop, used_up, Same, same_done, same_stop, same_bind, same_choose, same_seq, same_receiver, same_value, same_all, same_place, same_read, same_store, same_identity, same_raise, same_get_global, same_set_global, same_get_import, same_set_import, same_with_moves, same_set_moves, same_compare, same_show, same_show_all, same_shown_exports, same_emit, same_resolve, same_resolve_all, same_resolve_maybe, same_declare, same_fill, same_start, same_copy, same_entries, same_set_exports}

-- what says nothing of an entry does the same as itself

same_whole : {b : Compared} (z : ℤ) → Same b (whole z) (whole z)
same_whole z = same_choose _ (same_done _) (same_stop _)

same_signed : {b : Compared} (minus : Bool) (z : ℤ) → Same b (signed minus z) (signed minus z)
same_signed minus z = same_choose _ (same_stop _) (same_whole z)

same_joined : {b : Compared} (o p : Option Text) → Same b (joined o p) (joined o p)
same_joined None p = same_stop _
same_joined (Some s) None = same_stop _
same_joined (Some s) (Some r) = same_done _

same_plus_plain : {b : Compared} (p q : Plain) → Same b (plus_plain p q) (plus_plain p q)
same_plus_plain (number x) (number y) = same_whole (x +ℤ y)
same_plus_plain p q = same_choose (is_text p || is_text q) (same_joined (plain_text p) (plain_text q)) (same_stop Ending.uncovered)

same_numbers : {b : Compared} {op : ℤ → ℤ → M} (v u : Value) → ((x y : ℤ) → Same b (op x y) (op x y)) → Same b (on_numbers op v u) (on_numbers op v u)
same_numbers (plain (number x)) (plain (number y)) h = h x y
same_numbers _ _ h = same_stop _

same_number : {b : Compared} {op : ℤ → M} (v : Value) → ((x : ℤ) → Same b (op x) (op x)) → Same b (on_number op v) (on_number op v)
same_number (plain (number x)) h = h x
same_number _ h = same_stop _

same_loosely : {b : Compared} {k : Bool → M} (v u : Value) → ((t : Bool) → Same b (k t) (k t)) → Same b (loosely v u k) (loosely v u k)
same_loosely v u h = same_choose _ (h _) (same_choose _ (same_compare v u h) (same_stop _))

same_answer_is : {b : Compared} (t : Bool) → Same b (answer_is t) (answer_is t)
same_answer_is t = same_done _

same_answer_not : {b : Compared} (t : Bool) → Same b (answer_not t) (answer_not t)
same_answer_not t = same_done _

same_known : {b : Compared} (o : BinaryOperator) (v u : Value) → Same b (known_binary o v u) (known_binary o v u)
same_known binary.Equality v u = same_loosely v u same_answer_is
same_known binary.Inequality v u = same_loosely v u same_answer_not
same_known binary.StrictEquality v u = same_compare v u (λ t. same_done _)
same_known binary.StrictInequality v u = same_compare v u (λ t. same_done _)
same_known binary.LessThan v u = same_numbers v u (λ x y. same_done _)
same_known binary.LessEqualThan v u = same_numbers v u (λ x y. same_done _)
same_known binary.GreaterThan v u = same_numbers v u (λ x y. same_done _)
same_known binary.GreaterEqualThan v u = same_numbers v u (λ x y. same_done _)
same_known binary.Addition (plain p) (plain q) = same_plus_plain p q
same_known binary.Addition _ _ = same_stop _
same_known binary.Subtraction v u = same_numbers v u (λ x y. same_whole (x -ℤ y))
same_known binary.Multiplication v u = same_numbers v u (λ x y. same_signed (is_negative x || is_negative y) (x *ℤ y))
same_known binary.Division v u = same_numbers v u (λ x y. same_choose _ (same_stop _) (same_signed (is_negative y) (int_div x y)))
same_known binary.Remainder v u = same_numbers v u (λ x y. same_choose _ (same_stop _) (same_signed (is_negative x) (int_rem x y)))
same_known _ v u = same_stop _

same_binary : {b : Compared} (o : BinaryOperator) (v u : Value) → Same b (binary_of o v u) (binary_of o v u)
same_binary o v u = same_choose _ (same_stop _) (same_known o v u)

same_unary : {b : Compared} (o : UnaryOperator) (v : Value) → Same b (unary_of o v) (unary_of o v)
same_unary unary.LogicalNot v = same_done _
same_unary unary.UnaryNegation v = same_number v (λ x. same_signed true (neg_ℤ x))
same_unary unary.UnaryPlus v = same_number v same_whole
same_unary unary.Typeof v = same_done _
same_unary unary.Void v = same_done _
same_unary _ v = same_stop _

same_updated : {b : Compared} (o : UpdateOperator) (z : ℤ) → Same b (updated o z) (updated o z)
same_updated update.Increment z = same_whole (z +ℤ pos 1)
same_updated update.Decrement z = same_whole (z -ℤ pos 1)

-- names

same_if_set : {b : Compared} (o : Option Value) → Same b (if_set o) (if_set o)
same_if_set None = same_stop _
same_if_set (Some v) = same_done _

same_cell_value : {b : Compared} (c : Cell) → Same b (cell_value c) (cell_value c)
same_cell_value (cell constant o) = same_if_set o

same_slot_value : {b : Compared} (slot : Slot) → Same b (slot_value slot) (slot_value slot)
same_slot_value (local c) = same_read c same_cell_value
same_slot_value (imported source x) = same_get_import source x same_if_set
same_slot_value arguments_object = same_stop _

same_if_there : {b : Compared} (o : Option Value) → Same b (if_there o) (if_there o)
same_if_there None = same_raise _
same_if_there (Some v) = same_done _

same_or_undefined : {b : Compared} (o : Option Value) → Same b (or_undefined o) (or_undefined o)
same_or_undefined None = same_done _
same_or_undefined (Some v) = same_done _

same_global_value : {b : Compared} {k : Option Value → M} (g : Global) (x : Text) → ((o : Option Value) → Same b (k o) (k o)) → Same b (global_value g x k) (global_value g x k)
same_global_value the_undefined x h = same_done _
same_global_value no_whole_number x h = same_stop _
same_global_value usual x h = same_get_global x h

same_name_value : {b : Compared} (o : Option Slot) (x : Text) → Same b (name_value o x) (name_value o x)
same_name_value None x = same_global_value (global_named x) x same_if_there
same_name_value (Some slot) x = same_slot_value slot

same_typeof_name : {b : Compared} (o : Option Slot) (x : Text) → Same b (typeof_name o x) (typeof_name o x)
same_typeof_name None x = same_global_value (global_named x) x same_or_undefined
same_typeof_name (Some slot) x = same_slot_value slot

same_assign_cell : {b : Compared} (i : ℕ) (v : Value) (c : Cell) → Same b (assign_cell i v c) (assign_cell i v c)
same_assign_cell i v (cell constant None) = same_stop _
same_assign_cell i v (cell true (Some old)) = same_raise _
same_assign_cell i v (cell false (Some old)) = same_store i _ (same_done _)

same_assign_import : {b : Compared} (o : Option Value) → Same b (assign_import o) (assign_import o)
same_assign_import None = same_stop _
same_assign_import (Some v) = same_raise _

same_assign_slot : {b : Compared} (slot : Slot) (v : Value) → Same b (assign_slot slot v) (assign_slot slot v)
same_assign_slot (local c) v = same_read c (same_assign_cell c v)
same_assign_slot (imported source x) v = same_get_import source x same_assign_import
same_assign_slot arguments_object v = same_stop _

same_present : {b : Compared} (x : Text) (v : Value) (o : Option Value) → Same b (assign_present x v o) (assign_present x v o)
same_present x v None = same_raise _
same_present x v (Some old) = same_show v (λ shown. same_emit _ (same_set_global x _ (same_done _)))

same_assign_global : {b : Compared} (g : Global) (x : Text) (there : Bool) (v : Value) → Same b (assign_global g x there v) (assign_global g x there v)
same_assign_global the_undefined x there v = same_raise _
same_assign_global no_whole_number x there v = same_raise _
same_assign_global usual x there v = same_choose there (same_get_global x (same_present x v)) (same_raise _)

same_name_place : {b : Compared} (o : Option Slot) (x : Text) → Same b (name_place o x) (name_place o x)
same_name_place None x = same_get_global x (λ o. same_done _)
same_name_place (Some slot) x = same_done _

-- completions

same_after_label : {b : Compared} (l : Text) (c : Completion) → Same b (after_label l c) (after_label l c)
same_after_label l (breaks (Some x)) = same_choose _ (same_done _) (same_done _)
same_after_label l (breaks None) = same_done _
same_after_label l normal = same_done _
same_after_label l (gives v r) = same_done _
same_after_label l (gives_all vs) = same_done _
same_after_label l (refers p) = same_done _
same_after_label l (continues o) = same_done _
same_after_label l (returns v) = same_done _
same_after_label l (throws v) = same_done _

same_after_switch : {b : Compared} (c : Completion) → Same b (after_switch c) (after_switch c)
same_after_switch (breaks (Some x)) = same_done _
same_after_switch (breaks None) = same_done _
same_after_switch normal = same_done _
same_after_switch (gives v r) = same_done _
same_after_switch (gives_all vs) = same_done _
same_after_switch (refers p) = same_done _
same_after_switch (continues o) = same_done _
same_after_switch (returns v) = same_done _
same_after_switch (throws v) = same_done _

same_after_finally : {b : Compared} (c d : Completion) → Same b (after_finally c d) (after_finally c d)
same_after_finally c normal = same_done _
same_after_finally c (breaks o) = same_done _
same_after_finally c (gives v r) = same_done _
same_after_finally c (gives_all vs) = same_done _
same_after_finally c (refers p) = same_done _
same_after_finally c (continues o) = same_done _
same_after_finally c (returns v) = same_done _
same_after_finally c (throws v) = same_done _

same_after_turn : {b : Compared} {m n : M} (ls : List Text) → Same b m n → (c : Completion) → Same b (after_turn ls m c) (after_turn ls n c)
same_after_turn ls h normal = h
same_after_turn ls h (continues None) = h
same_after_turn ls h (continues (Some l)) = same_choose _ h (same_done _)
same_after_turn ls h (breaks None) = same_done _
same_after_turn ls h (breaks (Some l)) = same_done _
same_after_turn ls h (returns v) = same_done _
same_after_turn ls h (throws v) = same_done _
same_after_turn ls h (gives v r) = same_stop _
same_after_turn ls h (gives_all vs) = same_stop _
same_after_turn ls h (refers p) = same_stop _

same_after_init : {b : Compared} {m n : M} → Same b m n → (c : Completion) → Same b (after_init m c) (after_init n c)
same_after_init h normal = h
same_after_init h (gives v r) = h
same_after_init h (throws v) = same_done _
same_after_init h (continues o) = same_stop _
same_after_init h (breaks o) = same_stop _
same_after_init h (returns v) = same_stop _
same_after_init h (gives_all vs) = same_stop _
same_after_init h (refers p) = same_stop _

same_after_call : {b : Compared} (c : Completion) → Same b (after_call c) (after_call c)
same_after_call normal = same_done _
same_after_call (returns v) = same_done _
same_after_call (gives v r) = same_done _
same_after_call (throws v) = same_done _
same_after_call (continues o) = same_stop _
same_after_call (breaks o) = same_stop _
same_after_call (gives_all vs) = same_stop _
same_after_call (refers p) = same_stop _

-- meanings that are the same, and rows of them

pub record SameMeaning (b : Compared) (m n : Meaning) : Type 0 where
  pub asked : (q : Ask) (env : Env) → Same b (m q env) (n q env)

pub data SameMaybe (b : Compared) : Option Meaning → Option Meaning → Type 0 where
  neither : SameMaybe b None None
  both : {m n : Meaning} → SameMeaning b m n → SameMaybe b (Some m) (Some n)

pub data SameParts (b : Compared) : Parts → Parts → Type 0 where
  no_more : SameParts b [] []
  one_more : {o p : Option Meaning} {ms ns : Parts} → SameMaybe b o p → SameParts b ms ns → SameParts b (o ∷ ms) (p ∷ ns)

same_need : {b : Compared} {ms ns : Parts} {k l : Meaning → Parts → M} → SameParts b ms ns → ((m n : Meaning) (ms ns : Parts) → SameMeaning b m n → SameParts b ms ns → Same b (k m ms) (l n ns)) → Same b (need ms k) (need ns l)
unfolding need
same_need no_more h = same_stop _
same_need (one_more neither r) h = same_stop _
same_need (one_more (both m) r) h = h _ _ _ _ m r

same_may : {b : Compared} {ms ns : Parts} {k l : Option Meaning → Parts → M} → SameParts b ms ns → ((o p : Option Meaning) (ms ns : Parts) → SameMaybe b o p → SameParts b ms ns → Same b (k o ms) (l p ns)) → Same b (may ms k) (may ns l)
unfolding may
same_may no_more h = same_stop _
same_may (one_more o r) h = h _ _ _ _ o r

same_each : {b : Compared} {ms ns : Parts} (q : Ask) (env : Env) → SameParts b ms ns → Same b (each q ms env) (each q ns env)
unfolding each
same_each q env no_more = same_done _
same_each q env (one_more neither r) = same_stop _
same_each q env (one_more (both m) r) = same_seq (m.asked q env) (same_each q env r)

same_values : {b : Compared} {ms ns : Parts} {k l : List Value → M} (q : Ask) (env : Env) → SameParts b ms ns → ((vs : List Value) → Same b (k vs) (l vs)) → Same b (values q ms env k) (values q ns env l)
unfolding values
same_values q env no_more h = h []
same_values q env (one_more neither r) h = same_stop _
same_values q env (one_more (both m) r) h = same_value (m.asked q env) (λ v. same_values q env r (λ vs. h (v ∷ vs)))

same_all_values : {b : Compared} {ms ns : Parts} (q : Ask) (env : Env) → SameParts b ms ns → Same b (all_values q ms env) (all_values q ns env)
same_all_values q env r = same_values q env r (λ vs. same_done _)

same_in_turn : {b : Compared} {ms ns : Parts} (env : Env) → SameParts b ms ns → Same b (in_turn ms env) (in_turn ns env)
unfolding in_turn
same_in_turn env no_more = same_stop _
same_in_turn env (one_more neither r) = same_stop _
same_in_turn env (one_more (both m) no_more) = m.asked now env
same_in_turn env (one_more (both m) (one_more o r)) = same_value (m.asked now env) (λ v. same_in_turn env (one_more o r))

same_take_each : {b : Compared} {ms ns : Parts} (vs : List Value) (env : Env) → SameParts b ms ns → Same b (take_each ms vs env) (take_each ns vs env)
unfolding take_each
same_take_each vs env no_more = same_done _
same_take_each vs env (one_more neither r) = same_stop _
same_take_each [] env (one_more (both m) r) = same_seq (m.asked _ env) (same_take_each [] env r)
same_take_each (v ∷ vs) env (one_more (both m) r) = same_seq (m.asked _ env) (same_take_each vs env r)

same_or_undef : {b : Compared} {o p : Option Meaning} {k l : Value → M} (env : Env) → SameMaybe b o p → ((v : Value) → Same b (k v) (l v)) → Same b (value_or_undefined o env k) (value_or_undefined p env l)
same_or_undef env neither h = h _
same_or_undef env (both m) h = same_value (m.asked now env) h

pub same_ask : {b : Compared} {o p : Option Meaning} (q : Ask) (env : Env) → SameMaybe b o p → Same b (ask_maybe o q env) (ask_maybe p q env)
same_ask q env neither = same_done _
same_ask q env (both m) = m.asked q env

same_case_is : {b : Compared} {m n k l i j : M} (v : Value) → Same b m n → Same b k l → Same b i j → Same b (case_is v m k i) (case_is v n l j)
same_case_is (plain (boolean true)) h g f = h
same_case_is (plain (boolean false)) h g f = g
same_case_is (plain undefined) h g f = f
same_case_is (plain null) h g f = f
same_case_is (plain (number z)) h g f = f
same_case_is (plain (text s)) h g f = f
same_case_is (plain (host i c)) h g f = f
same_case_is (plain (other i c t)) h g f = f
same_case_is (closure i k a env) h g f = f
same_case_is (object i c) h g f = f
same_case_is (array i c) h g f = f
same_case_is (error i e) h g f = f

same_choose_case : {b : Compared} {ms ns : Parts} {d e : M} (v : Value) (env : Env) → SameParts b ms ns → Same b d e → Same b (choose_case ms v env d) (choose_case ns v env e)
unfolding choose_case
same_choose_case v env no_more h = h
same_choose_case v env (one_more neither r) h = same_stop _
same_choose_case v env (one_more (both m) r) h =
    same_value (m.asked _ env) (λ found. same_case_is found (same_each _ env (one_more (both m) r)) (same_choose_case v env r h) (same_choose_case v env r (same_each _ env (one_more (both m) r))))

same_case_test : {b : Compared} {o p : Option Meaning} (v : Value) (env : Env) → SameMaybe b o p → Same b (case_test v o env) (case_test v p env)
same_case_test v env neither = same_done _
same_case_test v env (both m) = same_value (m.asked now env) (λ u. same_binary binary.StrictEquality v u)

same_declarator : {b : Compared} {m n : Meaning} {o p : Option Meaning} (how : VariableKind) (env : Env) → SameMeaning b m n → SameMaybe b o p → Same b (declarator how m o env) (declarator how n p env)
same_declarator how env m (both i) = same_value (i.asked now env) (λ v. m.asked _ env)
same_declarator variable.Var env m neither = same_done _
same_declarator variable.Let env m neither = m.asked _ env
same_declarator variable.Const env m neither = m.asked _ env

pub same_after_block : {b : Compared} {o p : Option Meaning} (env : Env) → SameMaybe b o p → (c : Completion) → Same b (after_block o env c) (after_block p env c)
same_after_block env neither c = same_done _
same_after_block env (both m) (throws v) = m.asked _ env
same_after_block env (both m) normal = same_done _
same_after_block env (both m) (gives v r) = same_done _
same_after_block env (both m) (gives_all vs) = same_done _
same_after_block env (both m) (refers p) = same_done _
same_after_block env (both m) (breaks o) = same_done _
same_after_block env (both m) (continues o) = same_done _
same_after_block env (both m) (returns v) = same_done _

same_try : {b : Compared} {m n : Meaning} {o p r s : Option Meaning} (env : Env) → SameMeaning b m n → SameMaybe b o p → SameMaybe b r s → Same b (try_does m o r env) (try_does n p s env)
same_try env m h f = same_bind (same_bind (m.asked _ env) (same_after_block env h)) (λ c. same_bind (same_ask _ env f) (same_after_finally c))

pub same_take_maybe : {b : Compared} {o p : Option Meaning} (v : Value) (env : Env) → SameMaybe b o p → Same b (take_maybe o v env) (take_maybe p v env)
same_take_maybe v env neither = same_done _
same_take_maybe v env (both m) = m.asked _ env

same_catch : {b : Compared} {ms ns : Parts} (a : Forest) (v : Value) (env : Env) → SameParts b ms ns → Same b (catch_does a ms v env) (catch_does a ns v env)
same_catch a v env r = same_declare _ env (λ env. same_may r (λ _ _ _ _ p r. same_need r (λ _ _ _ _ m r. same_seq (same_take_maybe v env p) (m.asked _ env))))

same_test_for : {b : Compared} {o p : Option Meaning} {k l : Value → M} (env : Env) → SameMaybe b o p → ((v : Value) → Same b (k v) (l v)) → Same b (test_for o env k) (test_for p env l)
same_test_for env neither h = h _
same_test_for env (both m) h = same_value (m.asked now env) h

same_key : {b : Compared} {ms ns : Parts} {k l : Value → M} (key : Key) (env : Env) → SameParts b ms ns → ((v : Value) → Same b (k v) (l v)) → Same b (member_key key ms env k) (member_key key ns env l)
same_key key_below env r h = same_need r (λ _ _ _ _ m r. same_value (m.asked now env) (λ v. same_choose _ (same_stop _) (h v)))
same_key (key_name s) env r h = h _
same_key (key_text s) env r h = h _
same_key (key_number n) env r h = h _

same_member : {b : Compared} {ms ns : Parts} {k l : Value → Value → M} (key : Key) (env : Env) → SameParts b ms ns → ((o v : Value) → Same b (k o v) (l o v)) → Same b (member_place key ms env k) (member_place key ns env l)
same_member key env r h = same_need r (λ _ _ _ _ m r. same_value (m.asked now env) (λ o. same_key key env r (h o)))

same_default : {b : Compared} {m n : Meaning} (a : Forest) (env : Env) → SameMeaning b m n → Same b (default_does a m env) (default_does a n env)
same_default nothing env m = same_value (m.asked now env) (λ v. same_fill _ v (same_done _))
same_default (absent r) env m = same_value (m.asked now env) (λ v. same_fill _ v (same_done _))
same_default (node (Kind.Function function_kind.Declaration pure) n a r) env m = same_done _
same_default (node _ n a r) env m = same_value (m.asked now env) (λ v. same_fill _ v (same_done _))

same_fill_own : {b : Compared} {m n : M} (o : Option Text) (env : Env) (v : Value) → Same b m n → Same b (fill_own o env v m) (fill_own o env v n)
same_fill_own None env v h = h
same_fill_own (Some x) env v h = same_fill _ v h

same_function : {b : Compared} (f : FunctionKind) (a : Forest) (env : Env) → Same b (function_value f a env) (function_value f a env)
same_function f a env = same_declare _ env (λ env. same_identity (λ i. same_fill_own _ env _ (same_done _)))

same_take_this : {b : Compared} {m n : M} (f : FunctionKind) (this : Value) (env : Env) → Same b m n → Same b (take_this f this env m) (take_this f this env n)
same_take_this function_kind.Arrow this env h = h
same_take_this function_kind.Declaration this env h = same_fill _ this h
same_take_this function_kind.Expression this env h = same_fill _ this h

same_report : {b : Compared} {m n : M} → Same b m n → (c : Completion) → Same b (report m c) (report n c)
same_report h (gives v r) = same_show v (λ x. same_emit _ h)
same_report h (throws v) = same_show v (λ x. same_emit _ h)
same_report h normal = same_stop _
same_report h (gives_all vs) = same_stop _
same_report h (refers p) = same_stop _
same_report h (breaks o) = same_stop _
same_report h (continues o) = same_stop _
same_report h (returns v) = same_stop _

same_only : {b : Compared} {m n : M} (test : Value → Bool) → Same b m n → Same b (only test m) (only test n)
same_only test h = same_value h (λ v. same_choose (test v) (same_done _) (same_stop _))

same_end : {b : Compared} (awaited : Bool) → Same b (moves_end awaited) (moves_end awaited)
same_end true = same_stop _
same_end false = same_done _

same_answered : {b : Compared} {m n : M} (awaited : Bool) (c : Completion) → Same b m n → Same b (answered awaited c m) (answered awaited c n)
same_answered true c h = same_done _
same_answered false c h = h

-- everything that may enter

pub record Enters (b : Compared) (E F : Enter) : Type 0 where
  pub does : (t : Task) → Same b (E t) (F t)

same_back : {b : Compared} {E F : Enter} → Enters b E F → (awaited : Bool) (this : Value) (vs : List Value) (f : Value) → Same b (call_back E awaited this vs f) (call_back F awaited this vs f)
same_back e awaited this vs (closure i f a env) = e.does _
same_back e awaited this vs (plain p) = same_stop _
same_back e awaited this vs (object i c) = same_stop _
same_back e awaited this vs (array i c) = same_stop _
same_back e awaited this vs (error i c) = same_stop _

same_play : {b : Compared} {E F : Enter} → Enters b E F → (awaited : Bool) (ms : List Move) → Same b (play E awaited ms) (play F awaited ms)
unfolding play
same_play e awaited [] = same_end awaited
same_play e awaited (call_own n this xs ∷ ms) = same_set_moves ms (same_resolve _ (λ f. same_resolve this (λ this. same_resolve_all xs (λ vs. same_back e awaited this vs f))))
same_play e awaited (set_global_to x v ∷ ms) = same_resolve v (λ v. same_set_global x _ (same_play e awaited ms))
same_play e awaited (remove_global x ∷ ms) = same_set_global x None (same_play e awaited ms)
same_play e awaited (set_import_to source x v ∷ ms) = same_resolve_maybe v (λ v. same_set_import source x v (same_play e awaited ms))
same_play e awaited (answer v ∷ ms) = same_resolve v (λ v. same_set_moves ms (same_answered awaited _ (same_play e awaited ms)))
same_play e awaited (refuse v ∷ ms) = same_resolve v (λ v. same_set_moves ms (same_answered awaited _ (same_play e awaited ms)))

same_host : {b : Compared} {E F : Enter} → Enters b E F → (awaited : Bool) → Same b (host_moves E awaited) (host_moves F awaited)
same_host e awaited = same_with_moves (same_play e awaited)

same_consult : {b : Compared} {E F : Enter} → Enters b E F → (act : Act) → Same b (consult E act) (consult F act)
same_consult e act = same_emit act (same_host e true)

same_get : {b : Compared} {E F : Enter} → Enters b E F → (o key : Value) → Same b (get_member E o key) (get_member F o key)
same_get e o key = same_show o (λ x. same_show key (λ y. same_consult e _))

same_set : {b : Compared} {E F : Enter} → Enters b E F → (o key v : Value) → Same b (set_member E o key v) (set_member F o key v)
same_set e o key v = same_show o (λ x. same_show key (λ y. same_show v (λ z. same_value (same_consult e _) (λ u. same_done _))))

same_get_place : {b : Compared} {E F : Enter} → Enters b E F → (p : Place) → Same b (get_place E p) (get_place F p)
same_get_place e (at_slot slot) = same_slot_value slot
same_get_place e (at_global x there) = same_global_value (global_named x) x same_if_there
same_get_place e (at_member o key) = same_get e o key

same_put_place : {b : Compared} {E F : Enter} → Enters b E F → (p : Place) (v : Value) → Same b (put_place E p v) (put_place F p v)
same_put_place e (at_slot slot) v = same_assign_slot slot v
same_put_place e (at_global x there) v = same_assign_global (global_named x) x there v
same_put_place e (at_member o key) v = same_set e o key v

same_call : {b : Compared} {E F : Enter} → Enters b E F → (f this : Value) (vs : List Value) → Same b (call_value E f this vs) (call_value F f this vs)
same_call e (closure i f a env) this vs = e.does _
same_call e (plain (host h true)) this vs = same_show _ (λ x. same_show this (λ y. same_show_all vs (λ ys. same_consult e _)))
same_call e (plain (host h false)) this vs = same_raise _
same_call e (plain undefined) this vs = same_raise _
same_call e (plain null) this vs = same_raise _
same_call e (plain (boolean t)) this vs = same_raise _
same_call e (plain (number z)) this vs = same_raise _
same_call e (plain (text s)) this vs = same_raise _
same_call e (plain (other i c t)) this vs = same_raise _
same_call e (object i c) this vs = same_raise _
same_call e (array i c) this vs = same_raise _
same_call e (error i c) this vs = same_raise _

same_construct : {b : Compared} {E F : Enter} → Enters b E F → (f : Value) (vs : List Value) → Same b (construct_value E f vs) (construct_value F f vs)
same_construct e f vs = same_choose _ (same_stop _) (same_show f (λ x. same_show_all vs (λ xs. same_only is_object (same_consult e _))))

same_binary_value : {b : Compared} {E F : Enter} → Enters b E F → (o : BinaryOperator) (v u : Value) → Same b (binary_value E o v u) (binary_value F o v u)
same_binary_value e binary.In v u = same_choose _ (same_stop _) (same_show v (λ x. same_show u (λ y. same_only is_boolean (same_consult e _))))
same_binary_value e binary.Instanceof v u = same_choose _ (same_stop _) (same_show v (λ x. same_show u (λ y. same_only is_boolean (same_consult e _))))
same_binary_value e o v u = same_binary o v u

same_put : {b : Compared} {E F : Enter} {m n : M} → Enters b E F → (p : Place) → Same b m n → Same b (then_put E p m) (then_put F p n)
same_put e p h = same_value h (same_put_place e p)

same_compound : {b : Compared} {E F : Enter} {m n : M} → Enters b E F → (o : BinaryOperator) (p : Place) → Same b m n → Same b (compound E o p m) (compound F o p n)
same_compound e o p h = same_value (same_get_place e p) (λ old. same_value h (λ v. same_put e p (same_binary o old v)))

same_logical : {b : Compared} {m n : M} (o : LogicalOperator) (v : Value) → Same b m n → Same b (logical_value o v m) (logical_value o v n)
same_logical o v h = same_choose _ h (same_done _)

same_short : {b : Compared} {E F : Enter} {m n : M} → Enters b E F → (o : LogicalOperator) (p : Place) → Same b m n → Same b (short E o p m) (short F o p n)
same_short e o p h = same_value (same_get_place e p) (λ old. same_logical o old (same_put e p h))

same_assign : {b : Compared} {E F : Enter} {m n : M} → Enters b E F → (o : AssignmentOperator) (p : Place) → Same b m n → Same b (assign E o p m) (assign F o p n)
same_assign e assignment.Assign p h = same_put e p h
same_assign e assignment.Addition p h = same_compound e binary.Addition p h
same_assign e assignment.Subtraction p h = same_compound e binary.Subtraction p h
same_assign e assignment.Multiplication p h = same_compound e binary.Multiplication p h
same_assign e assignment.Division p h = same_compound e binary.Division p h
same_assign e assignment.Remainder p h = same_compound e binary.Remainder p h
same_assign e assignment.LogicalAnd p h = same_short e logical.And p h
same_assign e assignment.LogicalOr p h = same_short e logical.Or p h
same_assign e assignment.LogicalNullish p h = same_short e logical.Coalesce p h
same_assign e _ p h = same_stop _

same_gives : {b : Compared} (prefix : Bool) (old new : Value) → Same b (update_gives prefix old new) (update_gives prefix old new)
same_gives true old new = same_done _
same_gives false old new = same_done _

same_update : {b : Compared} {E F : Enter} → Enters b E F → (o : UpdateOperator) (prefix : Bool) (p : Place) → Same b (update_place E o prefix p) (update_place F o prefix p)
same_update e o prefix p = same_value (same_get_place e p) (λ old. same_value (same_number old (same_updated o)) (λ new. same_value (same_put_place e p new) (λ v. same_gives prefix old new)))

same_enter_if : {b : Compared} {E F : Enter} → Enters b E F → (l : Loop) (a : Forest) (ls : List Text) (env : Env) (v : Value) → Same b (enter_if E l a ls env v) (enter_if F l a ls env v)
same_enter_if e l a ls env v = same_choose (truthy v) (e.does _) (same_done _)

same_test_then : {b : Compared} {E F : Enter} {ms ns : Parts} → Enters b E F → (l : Loop) (a : Forest) (ls : List Text) (env : Env) → SameParts b ms ns → Same b (test_then E l a ms ls env) (test_then F l a ns ls env)
same_test_then e while_loop a ls env r = same_need r (λ _ _ _ _ t r. same_value (t.asked now env) (same_enter_if e while_loop a ls env))
same_test_then e do_loop a ls env r = same_need r (λ _ _ _ _ m r. same_need r (λ _ _ _ _ t r. same_value (t.asked now env) (same_enter_if e do_loop a ls env)))
same_test_then e for_loop a ls env r = same_may r (λ _ _ _ _ i r. same_may r (λ _ _ _ _ t r. same_test_for env t (same_enter_if e for_loop a ls env)))

same_turn : {b : Compared} {E F : Enter} {ms ns : Parts} → Enters b E F → (l : Loop) (a : Forest) (ls : List Text) (env : Env) → SameParts b ms ns → Same b (turn_does E l a ms ls env) (turn_does F l a ns ls env)
same_turn e while_loop a ls env c = same_need c (λ _ _ _ _ t r. same_need r (λ _ _ _ _ m r. same_bind (m.asked _ env) (same_after_turn ls (same_test_then e while_loop a ls env c))))
same_turn e do_loop a ls env c = same_need c (λ _ _ _ _ m r. same_bind (m.asked _ env) (same_after_turn ls (same_test_then e do_loop a ls env c)))
same_turn e for_loop a ls env c =
    same_may c (λ _ _ _ _ i r. same_may r (λ _ _ _ _ t r. same_may r (λ _ _ _ _ u r. same_need r (λ _ _ _ _ m r.
    same_bind (m.asked _ env) (same_after_turn ls (same_copy _ env (λ env. same_or_undef env u (λ v. same_test_then e for_loop a ls env c))))))))

same_for : {b : Compared} {E F : Enter} {ms ns : Parts} → Enters b E F → (a : Forest) (ls : List Text) (env : Env) → SameParts b ms ns → Same b (for_does E a ms ls env) (for_does F a ns ls env)
same_for e a ls env c = same_declare _ env (λ env. same_may c (λ _ _ _ _ i r. same_bind (same_ask _ env i) (same_after_init (same_copy _ env (λ env. same_test_then e for_loop a ls env c)))))

-- each node

same_does : {b : Compared} {E F : Enter} {ms ns : Parts} → Enters b E F → (k : Kind) (a : Forest) → SameParts b ms ns → (q : Ask) (env : Env) → Same b (does E k a ms q env) (does F k a ns q env)
same_does e Kind.Statements a c (run ls) env = same_each _ env c
same_does e (Kind.Directive written) a c (run ls) env = same_done _
same_does e Kind.EmptyStatement a c (run ls) env = same_done _
same_does e Kind.DebuggerStatement a c (run ls) env = same_done _
same_does e Kind.ExpressionStatement a c (run ls) env = same_need c (λ _ _ _ _ m r. same_value (m.asked now env) (λ v. same_done _))
same_does e Kind.BlockStatement a c (run ls) env = same_declare _ env (λ env. same_start a env (same_need c (λ _ _ _ _ m r. m.asked _ env)))
same_does e Kind.IfStatement a c (run ls) env = same_need c (λ _ _ _ _ t r. same_need r (λ _ _ _ _ m r. same_may r (λ _ _ _ _ d r. same_value (t.asked now env) (λ v. same_choose _ (m.asked _ env) (same_ask _ env d)))))
same_does e Kind.ReturnStatement a c (run ls) env = same_may c (λ _ _ _ _ o r. same_or_undef env o (λ v. same_done _))
same_does e Kind.ThrowStatement a c (run ls) env = same_need c (λ _ _ _ _ m r. same_value (m.asked now env) (λ v. same_done _))
same_does e (Kind.BreakStatement label) a c (run ls) env = same_done _
same_does e (Kind.ContinueStatement label) a c (run ls) env = same_done _
same_does e (Kind.LabeledStatement l) a c (run ls) env = same_need c (λ _ _ _ _ m r. same_bind (m.asked _ env) (same_after_label l))
same_does e Kind.WhileStatement a c (run ls) env = same_test_then e while_loop a ls env c
same_does e Kind.DoWhileStatement a c (run ls) env = e.does _
same_does e Kind.ForStatement a c (run ls) env = same_for e a ls env c
same_does e Kind.SwitchStatement a c (run ls) env = same_need c (λ _ _ _ _ d r. same_need r (λ _ _ _ _ m r. same_value (d.asked now env) (λ v. same_bind (m.asked _ env) same_after_switch)))
same_does e Kind.Cases a c (matches v) env = same_declare _ env (λ env. same_start a env (same_choose_case v env c (same_done _)))
same_does e Kind.SwitchCase a c (matches v) env = same_may c (λ _ _ _ _ t r. same_case_test v env t)
same_does e Kind.SwitchCase a c (run ls) env = same_may c (λ _ _ _ _ t r. same_need r (λ _ _ _ _ m r. m.asked _ env))
same_does e Kind.TryStatement a c (run ls) env = same_need c (λ _ _ _ _ m r. same_may r (λ _ _ _ _ h r. same_may r (λ _ _ _ _ f r. same_try env m h f)))
same_does e Kind.CatchClause a c (take v) env = same_catch a v env c
same_does e (Kind.VariableDeclaration how) a c (run ls) env = same_need c (λ _ _ _ _ m r. m.asked _ env)
same_does e Kind.Declarators a c (declares how) env = same_each _ env c
same_does e Kind.VariableDeclarator a c (declares how) env = same_need c (λ _ _ _ _ m r. same_may r (λ _ _ _ _ i r. same_declarator how env m i))
same_does e (Kind.BindingName x) a c (take v) env = same_fill _ v (same_done _)
same_does e (Kind.Function function_kind.Declaration pure) a c (run ls) env = same_done _
same_does e Kind.FunctionBody a c (run ls) env = same_need c (λ _ _ _ _ m r. m.asked _ env)
same_does e Kind.Parameters a c (take_all vs) env = same_take_each vs env c
same_does e (Kind.ImportDeclaration source) a c (run ls) env = same_done _
same_does e (Kind.ExportNamedDeclaration source) a c (run ls) env = same_may c (λ _ _ _ _ m r. same_ask _ env m)
same_does e Kind.ExportDefaultDeclaration a c (run ls) env = same_need c (λ _ _ _ _ m r. same_default a env m)
same_does e (Kind.ExportAllDeclaration name source) a c (run ls) env = same_done _
same_does e Kind.ThisExpression a c (value w) env = same_name_value (look env this_name) this_name
same_does e (Kind.ReferenceName x) a c (value for_typeof) env = same_typeof_name (look env x) x
same_does e (Kind.ReferenceName x) a c (value itself) env = same_name_value (look env x) x
same_does e (Kind.ReferenceName x) a c (value to_call) env = same_name_value (look env x) x
same_does e (Kind.Literal v) a c (value w) env = same_done _
same_does e (Kind.Function function_kind.Expression pure) a c (value w) env = same_function function_kind.Expression a env
same_does e (Kind.Function function_kind.Arrow pure) a c (value w) env = same_function function_kind.Arrow a env
same_does e Kind.ArrayExpression a c (value w) env = same_need c (λ _ _ _ _ m r. same_all (m.asked collect env) (λ vs. same_identity (λ i. same_done _)))
same_does e Kind.ObjectExpression a c (value w) env = same_need c (λ _ _ _ _ m r. same_all (m.asked collect env) (λ vs. same_identity (λ i. same_done _)))
same_does e (Kind.Property how method key) a c entry env = same_may c (λ _ _ _ _ k r. same_need r (λ _ _ _ _ m r. m.asked now env))
same_does e Kind.Elements a c collect env = same_all_values now env c
same_does e Kind.Properties a c collect env = same_all_values entry env c
same_does e Kind.Arguments a c collect env = same_all_values now env c
same_does e Kind.ParenthesizedExpression a c (value w) env = same_need c (λ _ _ _ _ m r. m.asked _ env)
same_does e Kind.ParenthesizedExpression a c place env = same_need c (λ _ _ _ _ m r. m.asked _ env)
same_does e Kind.SequenceExpression a c (value w) env = same_need c (λ _ _ _ _ m r. m.asked _ env)
same_does e Kind.Expressions a c (value w) env = same_in_turn env c
same_does e (Kind.UnaryExpression o) a c (value w) env = same_need c (λ _ _ _ _ m r. same_value (m.asked _ env) (same_unary o))
same_does e (Kind.UpdateExpression o prefix) a c (value w) env = same_need c (λ _ _ _ _ t r. same_place (t.asked _ env) (same_update e o prefix))
same_does e (Kind.BinaryExpression o) a c (value w) env = same_need c (λ _ _ _ _ l r. same_need r (λ _ _ _ _ m r. same_value (l.asked now env) (λ v. same_value (m.asked now env) (same_binary_value e o v))))
same_does e (Kind.LogicalExpression o) a c (value w) env = same_need c (λ _ _ _ _ l r. same_need r (λ _ _ _ _ m r. same_value (l.asked now env) (λ v. same_logical o v (m.asked now env))))
same_does e (Kind.AssignmentExpression o) a c (value w) env = same_need c (λ _ _ _ _ t r. same_need r (λ _ _ _ _ m r. same_place (t.asked _ env) (λ p. same_assign e o p (m.asked now env))))
same_does e Kind.ConditionalExpression a c (value w) env = same_need c (λ _ _ _ _ t r. same_need r (λ _ _ _ _ m r. same_need r (λ _ _ _ _ d r. same_value (t.asked now env) (λ v. same_choose _ (m.asked now env) (d.asked now env)))))
same_does e (Kind.CallExpression false pure) a c (value w) env = same_need c (λ _ _ _ _ m r. same_need r (λ _ _ _ _ args r. same_receiver (m.asked _ env) (λ f this. same_all (args.asked collect env) (same_call e f this))))
same_does e (Kind.NewExpression pure) a c (value w) env = same_need c (λ _ _ _ _ m r. same_need r (λ _ _ _ _ args r. same_value (m.asked now env) (λ f. same_all (args.asked collect env) (same_construct e f))))
same_does e (Kind.MemberExpression key false) a c (value w) env = same_member key env c (λ o k. same_value (same_get e o k) (λ v. same_done _))
same_does e (Kind.MemberExpression key false) a c place env = same_member key env c (λ o k. same_done _)
same_does e (Kind.TargetName x) a c place env = same_name_place (look env x) x
same_does e _ a c _ env = same_stop _

same_if_core : {b : Compared} {m n : Meaning} (t : Bool) → SameMeaning b m n → SameMeaning b (if_core t m) (if_core t n)
same_if_core true h = h
same_if_core false h = record { asked = λ q env. same_stop _ }

pub same_eval : {b : Compared} {E F : Enter} → Enters b E F → (a : Forest) → SameParts b (eval E a) (eval F a)
unfolding eval
same_eval e nothing = no_more
same_eval e (absent r) = one_more neither (same_eval e r)
same_eval e (node k n a r) = one_more (both (same_if_core (is_core k) (record { asked = same_does e k a (same_eval e a) }))) (same_eval e r)

same_code : {b : Compared} {ms ns : Parts} (a : Forest) (vs : List Value) (env : Env) → SameParts b ms ns → Same b (run_code a ms vs env) (run_code a ns vs env)
same_code a vs env c = same_may c (λ _ _ _ _ name r. same_need r (λ _ _ _ _ ps r. same_need r (λ _ _ _ _ m r. same_seq (ps.asked _ env) (same_start _ env (m.asked _ env)))))

same_body : {b : Compared} {E F : Enter} → Enters b E F → (f : FunctionKind) (a : Forest) (env : Env) (this : Value) (vs : List Value) → Same b (enter_body E f a env this vs) (enter_body F f a env this vs)
same_body e f a env this vs = same_bind (same_declare _ env (λ env. same_take_this f this env (same_code a vs env (same_eval e a)))) same_after_call

pub same_task : {b : Compared} {E F : Enter} → Enters b E F → Enters b (task_does E) (task_does F)
unfolding task_does
same_task {b} {E} {F} e = record { does = go }
  where
    go : (t : Task) → Same b (task_does E t) (task_does F t)
    go (body f a env this vs) = same_body e f a env this vs
    go (turn l a ls env) = same_turn e l a ls env (same_eval e a)
    go (called_back awaited f a env this vs) = same_bind (same_body e f a env this vs) (same_report (same_host e awaited))

-- within a budget they are the same
equal : {b : ℕ} {o p : Out} → Alike (within b) o p → o ≡ p
equal (both_go i) = refl
equal both_stop = refl
equal (used_up y) = absurd y

alike_less : {b c : ℕ} {o p : Out} → b ≤ c → Alike (within b) o p → Alike (within c) o p
alike_less i (both_go {s = s} l) = let j : s.budget ≤ _ = l in both_go (omega arith)
alike_less i both_stop = both_stop
alike_less i (used_up y) = absurd y

alike_stop : {b : ℕ} (o : Out) (e : Ending) → o ≡ stops [] e → Alike (within b) o (stops [] e)
alike_stop {b} o e h = subst (λ o. Alike (within b) o (stops [] e)) (sym h) both_stop

same_spent : {b : ℕ} {m n : M} (x : ℕ) (s : State) → x ≤ b → ((y : ℕ) → suc y ≤ b → Same (within y) m n) → Alike (within b) (spend_from x m s) (spend_from x n s)
same_spent zero s i h = both_stop
same_spent (suc y) s i h = alike_less (omega arith) ((h y i).at (record s { budget = y }) (omega arith))

out_at_zero : (m : M) (s : State) → s.budget ≤ 0 → spend m s ≡ stops [] Ending.out
unfolding spend
out_at_zero m s i = let z : s.budget ≡ 0 = omega arith in ap (λ x. spend_from x m s) z

alike_enter : (d f b : ℕ) → b ≤ d → b ≤ f → (t : Task) (s : State) → s.budget ≤ b → Alike (within b) (enter d t s) (enter f t s)
unfolding enter stop spend
alike_enter zero zero b i j t s h = both_stop
alike_enter zero (suc f) b i j t s h = subst (Alike (within b) (stops [] Ending.out)) (sym (out_at_zero _ s (omega arith))) both_stop
alike_enter (suc d) zero b i j t s h = alike_stop _ _ (out_at_zero _ s (omega arith))
alike_enter (suc d) (suc f) b i j t s h =
    same_spent s.budget s h (λ y k. (same_task (record { does = λ t. record { at = alike_enter d f y (omega arith) (omega arith) t } })).does t)

-- At any depth that is at least the budget an entry costs one, and does its task at the same depth.
pub enter_once : (d : ℕ) (t : Task) (s : State) → s.budget ≤ d → enter d t s ≡ spend (task_does (enter d) t) s
unfolding enter stop spend
enter_once zero t s i = sym (out_at_zero _ s i)
enter_once (suc d) t s i =
    equal (same_spent s.budget s i (λ y k. (same_task (record { does = λ t. record { at = alike_enter d (suc d) y (omega arith) (omega arith) t } })).does t))

pub same_load : {b : Compared} {E F : Enter} → Enters b E F → (xs : List Text) → Same b (load_all E xs) (load_all F xs)
unfolding load_all
same_load e [] = same_done _
same_load e (x ∷ xs) = same_value (same_consult e _) (λ v. same_load e xs)

same_finish : {b : Compared} {E F : Enter} → Enters b E F → (c : Completion) → Same b (finish E c) (finish F c)
same_finish e normal = same_emit _ (same_host e false)
same_finish e (throws v) = same_show v (λ x. same_emit _ (same_host e false))
same_finish e (gives v r) = same_stop _
same_finish e (gives_all vs) = same_stop _
same_finish e (refers p) = same_stop _
same_finish e (breaks o) = same_stop _
same_finish e (continues o) = same_stop _
same_finish e (returns v) = same_stop _

same_finally : {b : Compared} (c : Completion) → Same b (finally c) (finally c)
same_finally normal = same_shown_exports (λ exports. same_stop (ended exports))
same_finally (throws v) = same_stop _
same_finally (gives v r) = same_stop _
same_finally (gives_all vs) = same_stop _
same_finally (refers p) = same_stop _
same_finally (breaks o) = same_stop _
same_finally (continues o) = same_stop _
same_finally (returns v) = same_stop _

same_module : {b : Compared} {E F : Enter} → Enters b E F → (a : Forest) → Same b (module_does E a) (module_does F a)
unfolding module_does
same_module e a =
    same_bind (same_bind (same_declare _ [] (λ env. same_entries _ env (λ es. same_set_exports _ _ (same_start a env (same_seq (same_load e _) (same_each _ env (same_eval e a))))))) (same_finish e)) same_finally

pub same_program : {b : Compared} {E F : Enter} → Enters b E F → (t : Forest) → Same b (program_does E t) (program_does F t)
same_program e (node (Kind.Program source_type.Module) n (node Kind.Statements m a nothing) nothing) = same_module e a
same_program e _ = same_stop _

-- With any depth of at least the bound a run is the same.
pub depth_suffices : (d : ℕ) (t : Forest) (script : Script) (n : ℕ) → n ≤ d → run_within d t script n ≡ run_of t script n
unfolding run_within run_of
depth_suffices d t script n i =
    let here : Same (within n) (program_does (enter d) t) (program_does (enter n) t) = same_program (record { does = λ t. record { at = alike_enter d n n i (omega arith) t } }) t in
    ap seen (equal (here.at (first_state script n) (omega arith)))

-- An entry at the depth that the budget allows still: it costs one and does its task so, whatever the budget.
abbrev pub enter_fully : Enter
enter_fully t s = enter s.budget t s

fully_enters : (d b : ℕ) → b ≤ d → Enters (within b) (enter d) enter_fully
fully_enters d b i = record { does = λ t. record { at = λ s h. alike_less h (alike_enter d s.budget s.budget (omega arith) (omega arith) t s (omega arith)) } }

pub fully_once : (t : Task) (s : State) → enter_fully t s ≡ spend (task_does enter_fully t) s
unfolding spend
fully_once t s =
    enter_once s.budget t s (omega arith) ∙ equal (same_spent s.budget s (omega arith) (λ y (k : suc y ≤ s.budget). (same_task (fully_enters s.budget y (omega arith))).does t))

pub fully_runs : (t : Forest) (script : Script) (n : ℕ) → run_of t script n ≡ seen (program_does enter_fully t (first_state script n))
unfolding run_within run_of
fully_runs t script n =
    let here : Same (within n) (program_does (enter n) t) (program_does enter_fully t) = same_program (fully_enters n n (omega arith)) t in
    ap seen (equal (here.at (first_state script n) (omega arith)))

-- Entries that nest at most so deep; of deeper ones nothing is said.
unfoldable pub cut : ℕ → Enter
cut zero t = unknown
cut (suc d) t = spend (task_does (cut d) t)

alike_cut : (d f b : ℕ) → b < d → b ≤ f → (t : Task) (s : State) → s.budget ≤ b → Alike (within b) (cut d t s) (enter f t s)
unfolding cut enter stop spend
alike_cut zero f b i j t s h = absurd (omega arith)
alike_cut (suc d) zero b i j t s h = alike_stop _ _ (out_at_zero _ s (omega arith))
alike_cut (suc d) (suc f) b i j t s h =
    same_spent s.budget s h (λ y k. (same_task (record { does = λ t. record { at = alike_cut d f y (omega arith) (omega arith) t } })).does t)

-- With a depth of more than the bound a run is the same.
pub cut_runs : (d : ℕ) (t : Forest) (script : Script) (n : ℕ) → n < d → run_of t script n ≡ seen (program_does (cut d) t (first_state script n))
unfolding run_within run_of
cut_runs d t script n i =
    let here : Same (within n) (program_does (cut d) t) (program_does (enter n) t) = same_program (record { does = λ t. record { at = alike_cut d n n i (omega arith) t } }) t in
    ap seen (sym (equal (here.at (first_state script n) (omega arith))))

-- One more of a budget changes nothing but where it is used up.

more_spent : {m n : M} (x : ℕ) (s : State) → Same with_more m n → Alike with_more (spend_from x m s) (spend_from (suc x) n (beside with_more s))
more_spent zero s h = used_up tt
more_spent (suc y) s h = h.at (record s { budget = y }) tt

pub cut_more : (d : ℕ) → Enters with_more (cut d) (cut d)
unfolding cut spend
cut_more zero = record { does = λ t. same_stop _ }
cut_more (suc d) = record { does = λ t. record { at = λ s i. more_spent s.budget s ((same_task (cut_more d)).does t) } }

pub parts_with_more : (d : ℕ) (a : Forest) → SameParts with_more (eval (cut d) a) (eval (cut d) a)
parts_with_more d a = same_eval (cut_more d) a

-- so a run that isn't out of its bound is the same within a larger one

within_larger : {o p : Out} → Alike with_more o p → ((seen o).ending ≡ Ending.out → ⊥) → seen p ≡ seen o
within_larger (both_go i) h = refl
within_larger both_stop h = refl
within_larger (used_up y) h = absurd (h refl)

one_larger : (t : Forest) (script : Script) (n : ℕ) → ((run_of t script n).ending ≡ Ending.out → ⊥) → run_of t script (suc n) ≡ run_of t script n
one_larger t script n h =
    let here : Same with_more (program_does (cut (suc (suc n))) t) (program_does (cut (suc (suc n))) t) = same_program (cut_more (suc (suc n))) t in
    let e : run_of t script n ≡ seen (program_does (cut (suc (suc n))) t (first_state script n)) = cut_runs (suc (suc n)) t script n (omega arith) in
    cut_runs (suc (suc n)) t script (suc n) (omega arith) ∙ within_larger (here.at (first_state script n) tt) (λ x. h (ap (λ r. r.ending) e ∙ x)) ∙ sym e

pub runs_stay : (t : Forest) (script : Script) (n m : ℕ) → n ≤ m → ((run_of t script n).ending ≡ Ending.out → ⊥) → run_of t script m ≡ run_of t script n
runs_stay t script n m i h = go (m - n) m (omega arith)
  where
    go : (j m : ℕ) → m ≡ j + n → run_of t script m ≡ run_of t script n
    go zero m e = ap (run_of t script) (omega arith)
    go (suc j) zero e = absurd (omega arith)
    go (suc j) (suc m) e = let x = go j m (omega arith) in one_larger t script m (λ y. h (ap (λ r. r.ending) (sym x) ∙ y)) ∙ x
