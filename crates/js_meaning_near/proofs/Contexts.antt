-- The law of contexts: near rows do the same, at any depth; and near modules run alike.
use Rattle.std.proofs.Common.{append-nil, ◌≡◌, ℕ, zero, suc, pos, negsuc, List, [], ◌∷◌, Option, Some, None, refl, sym, ap, subst, ◌+◌, arith, inl, inr}
use Rattle.std.specs.Prelude.{Bool, true, false, nat_le, if◌then◌else◌}
use Rattle.js_syntax.specs.declared.node_kind.NodeKind.{NodeKind as Kind}
use Rattle.js_syntax.specs.declared.kind.FunctionKind.{FunctionKind}
use Rattle.js_syntax.specs.declared.kind.FunctionKind.TheVariants as function_kind
use Rattle.js_syntax.specs.declared.value.LiteralValue.{LiteralValue as Literal}
use Rattle.js_syntax.specs.declared.operator.UnaryOperator.{UnaryOperator}
use Rattle.js_syntax.specs.Facts.{is_core}
use Rattle.js_syntax.specs.Node.{Note, Forest, nothing, node, absent}
use Rattle.js_meaning.specs.Value.{Text, Slot, Env, this_name, Plain, number, Value, plain, literal_value}
use Rattle.js_meaning.specs.Trace.{Act, Event, Script, Ending, ended, Run}
use Rattle.js_meaning.specs.State.{State, Export, export, Completion, normal, Out, M, bind, done, seq, set_exports, stop, spend, spend_from, unknown, choose, give}
use Rattle.js_meaning.specs.Scope.{Decl, behind, look, fill, start, declare, module_decls, function_decls}
use Rattle.js_meaning_near.specs.Quiet.{EndsQuietly, gives_quietly, stops_quietly, Quiet}
use Rattle.js_meaning.specs.Host.{Loop, for_loop, Task, body, Enter}
use Rattle.js_meaning.specs.Operator.{largest, unary_of}
use Rattle.js_meaning.specs.Module.{Entry, entry_local, entry_import, entries, stars, requests, distinct, load_all, before, insert, sorted, if_bound, resolve_entries, exporting}
use Rattle.js_meaning.specs.Node.{itself, to_call, for_typeof, Ask, now, take_all, Meaning, Parts, need, may, each, first_ask, run as run_under, value, matches}
use Rattle.js_meaning.specs.Meaning.{does, if_core, eval, take_this, run_code, enter_body, task_does}
use Rattle.js_meaning.specs.Run.{finish, finally, module_does, as_value, first_state, seen}
use Rattle.js_meaning.specs.Kept.{keeps, Keeps, Kept, refines, Refines, Refined, Prefix, recovers, Recovers, Recovered}
use Rattle.js_meaning_near.specs.Names.{Status, known, exactly, Names, Usable, owed_function, Decls, declared, names_below}
use Rattle.js_meaning_near.specs.Near.{Permits, ComesTo, comes_to, value_stays, behind_jump, meaning, Silent, NoField, Change, statement_emptied, no_statement_emptied, near_silent, same_effects, wastes_more, one_sided, shorter, LooseModule, loose_module, value_read, Row, fields, items, ReceiverOk, is_row, Near, near_nothing, near_absent, near_node, near_closure, near_hoisted, near_unread, near_known, near_uncovered, near_import, changed, leaves, near_code, ExportsOk, NearModule, near_module, module_of, sign_applied, near_while, near_do, near_for, OwesBehind, behind_first, behind_no_first, OwesTurn, while_turn, do_turn, for_turn, owing_code, FirstField, first_node, first_absent, Owes, owes_here, owes_item, owes_behind, owes_absent, owes_below, is_passage, row_below, OwedEffects, Okay, OwingModule, owing_within, owing_itself}
use Rattle.js_meaning_near.proofs.Worlds.{any_value, only_value, both, slack, In, here, Links, Rule, World, Sub, same, no_links, slack_links, no_both, not_in, debt, debt_links, debt_alone, no_both_owed, slack_alone}
use Rattle.js_meaning_near.proofs.Relations.{HoldsCell, SameSlot, same_local, same_import, as_many, CallEnds, call_gives, call_uncovered, call_out, At, at_nowhere, at_loose, at_live, at_known, at_dead, at_unread, Envs, Same, same_plain, SameOpt, same_none, same_some, SameAll, all_nil, SameCompletion, same_normal, same_gives, same_gives_all, same_refers, same_breaks, same_continues, same_returns, same_throws, SameExports, no_exports, an_export, SameAsk, same_run, same_value, same_place, same_take, same_take_all, same_declares, same_collect, same_entry, same_matches, States, Follows, both_go, both_stop, old_stops, old_out, Acts, Means, Tasks, same_body, same_turn, same_back, Enters, same_later, all_later, twice, Budgets, Owed, owed_later, at_owing, new_out, same_owing_turn}
use Rattle.js_meaning_near.proofs.Acts.{bind_acts, give_both, stop_acts, unknown_acts, normal_acts, value_acts, seq_acts, set_exports_acts, spend_acts, give_acts, give_right}
use Rattle.js_meaning_near.proofs.Showing.{show_acts, shown_exports_acts, emit_acts}
use Rattle.js_meaning_near.proofs.Scopes.{envs_bind, no_envs, loose_envs, owing_envs, declare_acts, fill_acts, fill_known, known_value_acts, known_typeof_acts}
use Rattle.js_meaning_near.specs.Purpose.{Purpose, for_value, for_effect, ForEffect, asked, Purposes, all, purpose_here, purposes_behind, for_values}
use Rattle.js_meaning_near.proofs.Rows.{same_now, SomeMeans, no_part, part, has_parts, Fields, fields_end, fields_more, Rows, rows_nil, rows_more, need_acts, after_call_acts}
use Rattle.js_meaning_near.proofs.Hosted.{report_acts, host_acts, consult_acts, turn_acts}
use Rattle.js_meaning_near.proofs.Alone.{leads_acts, no_expression, silent_statement, idle_alone, seq_alone, alone_nothing}
use Rattle.js_meaning_near.proofs.Effects.{effects_act, leads_effects}
use Rattle.js_meaning_near.proofs.Wasting.{statement_acts, wasted_means, sided_means, shorter_means}
use Rattle.js_meaning_near.proofs.Jumps.{list_behind}
use Rattle.js_meaning_near.proofs.ValueStays.{value_left}
use Rattle.js_meaning_near.proofs.Nodes.{true_false, start_acts, first_ask_same, closure_acts, hoisted_does, does_acts, does_effect}
use Rattle.js_meaning.proofs.Same.{Compared}
use Rattle.js_meaning.proofs.Depth.{SameMeaning, both as alike_part, SameMaybe, neither as alike_none, SameParts, no_more, one_more, same_eval, same_load, cut, cut_runs, cut_more}
use Rattle.js_meaning_near.proofs.Gifts.{Pays, as_gift, of_gift, unknown_pays, acts_pay, pays_first, seq_pays, first_leaves, unknown_first, declare_pays, gift_this, gift_exporting, spend_pays}
use Rattle.js_meaning_near.proofs.Paid.{CallMade, made, made_uncovered, none_to_make, Lends, statement_pays}
use Rattle.js_meaning_near.proofs.Passages.{Paying, OneRows, LoopParts, while_parts, do_parts, for_parts, turn_pays, while_acts, do_acts, for_owes_acts, does_pay, passage_valued, passage_tested, row_pays, row_pays_behind, alone_means, only_pays, start_pays}
use Rattle.js_meaning_near.proofs.Avoid.{false_true}

-- what is alike whatever is asked is so for any purpose
any_means : {u : Purpose} {st : Names} {m k : Meaning} → ((w : World) (e f : Env) (q z : Ask) (o : Purpose) → Envs w st e f → SameAsk w o q z → Acts w (m q e) (k z f)) → Means u st m k
any_means {u = u} h = record { mean = λ {w} {e} {f} {q} {z} r s. h w e f q z u r s; effect = λ {w} {e} {f} g r. effects_act (h w e f now now (for_value itself) r same_now) }

-- what is true of core nodes is true of all, since nothing is said of the others
core_means : {u : Purpose} {st : Names} {m k : Meaning} (b : Bool) → Means u st m k → Means u st (if_core b m) (if_core b k)
core_means true x = x
core_means false x = any_means (λ w e f q z o r s. unknown_acts)

uncovered_means : {u : Purpose} {st : Names} (m k : Meaning) (b : Bool) → b ≡ false → Means u st (if_core b m) (if_core b k)
uncovered_means m k true y = absurd (true_false y)
uncovered_means m k false y = any_means (λ w e f q z o r s. unknown_acts)

emptied_acts : {w : World} {u : Purpose} {st : Names} {k : Kind} {a : Forest} {e f : Env} {q z : Ask} (E : Enter) (n : Note) (r b : Forest) → Silent st k a → Envs w st e f → SameAsk w u q z → Acts w (meaning E Kind.ExpressionStatement (node k n a r) q e) (meaning E Kind.EmptyStatement b z f)
unfolding need eval
emptied_acts E n c b x r same_run = alone_nothing (silent_statement E x r)
emptied_acts E n c b x r _ = unknown_acts

read_acts : {w : World} {u : Purpose} {p : Plain} {q z : Ask} (x : Text) (v : Literal) (e f : Env) (E : Enter) (a b : Forest) → At w (known (exactly p)) (look e x) (look f x) → literal_value v ≡ plain p → SameAsk w u q z → Acts w (meaning E (Kind.ReferenceName x) a q e) (meaning E (Kind.Literal v) b z f)
read_acts x v e f E a b l g (same_value {wanted = for_typeof}) = known_typeof_acts x l g
read_acts x v e f E a b l g (same_value {wanted = itself}) = known_value_acts x l g
read_acts x v e f E a b l g (same_value {wanted = to_call}) = known_value_acts x l g
read_acts x v e f E a b l g _ = unknown_acts

known_does : {w : World} {u : Purpose} {p : Plain} {q z : Ask} (x : Text) (v : Literal) (e f : Env) (E : Enter) (i j k l : Note) (a b c d r s : Forest) → At w (known (exactly p)) (look e x) (look f x) → literal_value v ≡ plain p → SameAsk w u q z
    → Acts w (meaning E Kind.VariableDeclarator (node (Kind.BindingName x) i a (node (Kind.Literal v) k c r)) q e) (meaning E Kind.VariableDeclarator (node (Kind.BindingName x) j b (node (Kind.Literal v) l d s)) z f)
unfolding need may eval
known_does x v e f E i j k l a b c d r s y g same_declares = give_both (λ v. fill (look e x) v (done normal)) (λ v. fill (look f x) v (done normal)) (literal_value v) (literal_value v) (fill_known (literal_value v) y g normal_acts)
known_does x v e f E i j k l a b c d r s y g _ = unknown_acts

-- on a positive number that arithmetic covers unary minus gives the negative one
minus_acts : {w : World} (i : ℕ) (b : Bool) → b ≡ true → Acts w (give (plain (number (negsuc i)))) (choose b (give (plain (number (negsuc i)))) unknown)
unfolding choose
minus_acts i true covered = give_acts same_plain
minus_acts i false covered = absurd cc

sign_acts : {w : World} {u : Purpose} {q z : Ask} (i : ℕ) (E : Enter) (e f : Env) (m : Note) (a b r : Forest) → nat_le (suc i) largest ≡ true → SameAsk w u q z
    → Acts w (meaning E (Kind.Literal (Literal.Number (negsuc i))) a q e) (meaning E (Kind.UnaryExpression UnaryOperator.UnaryNegation) (node (Kind.Literal (Literal.Number (pos (suc i)))) m b r) z f)
unfolding need eval choose
sign_acts i E e f m a b r covered same_value = give_right (unary_of UnaryOperator.UnaryNegation) (plain (number (pos (suc i)))) (minus_acts i (nat_le (suc i) largest) covered)
sign_acts i E e f m a b r covered _ = unknown_acts

no_statement_acts : {w : World} {u : Purpose} {q z : Ask} (E : Enter) (e f : Env) (a b : Forest) → NoField a → SameAsk w u q z → Acts w (meaning E Kind.ExpressionStatement a q e) (meaning E Kind.EmptyStatement b z f)
no_statement_acts E e f a b x same_run = alone_nothing (no_expression E a _ x)
no_statement_acts E e f a b x _ = unknown_acts

-- an import does nothing where it stands
import_acts : {w : World} {u : Purpose} {q z : Ask} (E : Enter) (source : Text) (e f : Env) (a b : Forest) → SameAsk w u q z → Acts w (meaning E (Kind.ImportDeclaration source) a q e) (meaning E (Kind.ImportDeclaration source) b z f)
import_acts E source e f a b same_run = normal_acts
import_acts E source e f a b _ = unknown_acts

change_means : {u : Purpose} {st : Names} {k l : Kind} {a b : Forest} (E : Enter) → Change st k a l b → Means u st (meaning E k a) (meaning E l b)
change_means E (value_read {x = x} {v = v} {a = a} {b = b} y g) = any_means (λ w e f q z o r s. read_acts x v e f E a b (subst (λ t. At w t (look e x) (look f x)) y (r.at x)) g s)
change_means E (sign_applied {i = i} {m = m} {a = a} {b = b} {r = c} y) = any_means (λ w e f q z o r s. sign_acts i E e f m a b c y s)
change_means E (no_statement_emptied {a = a} {b = b} x) = any_means (λ w e f q z o r s. no_statement_acts E e f a b x s)
change_means E (statement_emptied {n = n} {r = c} {b = b} x) = any_means (λ w e f q z o r s. emptied_acts E n c b x r s)

only_part : {u : Purpose} {st : Names} {m k : Meaning} → Fields (all u) st (Some m ∷ []) (Some k ∷ []) → Means u st m k
only_part (fields_more (part x) c) = x

part_means : {u : Purpose} {st : Names} (E : Enter) (l : Kind) (i j : Note) (b : Forest) → Fields (all u) st (eval E (node l i b nothing)) (eval E (node l j b nothing)) → Means u st (meaning E l b) (meaning E l b)
unfolding eval
part_means E l i j b x = only_part x

-- a row permits what both nodes are asked in it
permitted : {w : World} {u : Purpose} {q z : Ask} → SameAsk w u q z → Permits (asked u) q
permitted same_value = refl
permitted same_run = tt
permitted same_place = tt
permitted (same_take o) = tt
permitted (same_take_all o) = tt
permitted same_declares = tt
permitted same_collect = tt
permitted same_entry = tt
permitted (same_matches o) = tt

asked_now : (u : Purpose) → ForEffect u → Permits (asked u) now
asked_now for_effect g = refl
asked_now (for_value wanted) g = absurd g

comes_means : {u : Purpose} {st : Names} {k l : Kind} {a b : Forest} (E : Enter) → ComesTo u st k a l b → Means u st (meaning E l b) (meaning E l b) → Means u st (meaning E k a) (meaning E l b)
comes_means {u = u} E x m = record {
  mean = λ {w} {e} {f} {q} r s. leads_acts (x.comes E e (envs_bind r) q (permitted s)) (m.mean r s);
  effect = λ {w} {e} {f} g r. record { acts = leads_acts (leads_effects (x.comes E e (envs_bind r) now (asked_now u g))) (m.effect g r).acts };
}

-- whether something follows a part
row_parts : (E : Enter) (c : Forest) → is_row c ≡ has_parts (eval E c)
unfolding eval
row_parts E nothing = refl
row_parts E (absent c) = refl
row_parts E (node k n a c) = refl

rows_with : {st : Names} {o q : Option Meaning} (E : Enter) (p : Row) (us : Purposes) (c d : Forest) → SomeMeans (purpose_here us (is_row c)) st o q → Rows p (purposes_behind us) st (eval E c) (eval E d) → Rows p us st (o ∷ eval E c) (q ∷ eval E d)
rows_with {st = st} {o = o} {q = q} E p us c d x t = rows_more p us (eval E c) (eval E d) (subst (λ more. SomeMeans (purpose_here us more) st o q) (row_parts E c) x) t

-- rows with one that pays

core_pays : {w : World} (m k : Meaning) (e f : Env) (q z : Ask) (b : Bool) → Pays w (m q e) (k z f) → Pays w (if_core b m q e) (if_core b k z f)
core_pays m k e f q z true x = x
core_pays m k e f q z false x = unknown_pays

core_acts : {w : World} (m k : Meaning) (e f : Env) (q z : Ask) (b : Bool) → Acts w (m q e) (k z f) → Acts w (if_core b m q e) (if_core b k z f)
core_acts m k e f q z true x = x
core_acts m k e f q z false x = unknown_acts

no_value_acts : {w : World} {n : M} (b : Bool) (m : Meaning) (q : Ask) (e : Env) → ((l : M) → Acts w (m q e) l) → Acts w (if_core b m q e) n
no_value_acts true m q e x = x _
no_value_acts false m q e x = unknown_acts

only_alike : {c : Compared} {m k : Meaning} → SameParts c (Some m ∷ []) (Some k ∷ []) → SameMeaning c m k
only_alike (one_more (alike_part h) hs) = h

first_alike : {c : Compared} {o q : Option Meaning} {ms ks : Parts} → SameParts c (o ∷ ms) (q ∷ ks) → SameMaybe c o q
first_alike (one_more h hs) = h

item_pays : {w : World} {st : Names} {a : Forest} {e f : Env} {q z : Ask} {n k : M} (E : Enter) → Lends E → OwedEffects st a Kind.EmptyStatement nothing nothing → Owed w → Envs w st e f → SameAsk w (for_value itself) q z → Acts w n k → Pays w (seq (meaning E Kind.ExpressionStatement a q e) n) k
unfolding eval
item_pays E l x o r (same_run {ls = ls}) t = first_leaves (statement_pays {u = for_value itself} E l x fields_end no_more o r (same_run {ls = ls})) t
item_pays E l x o r _ t = unknown_first _

statement_paying : {p : Row} {st : Names} {l : Kind} {a b ps : Forest} (E : Enter) → Lends E → OwedEffects st a l b ps → Fields (all for_effect) st (eval E ps) (eval E ps) → Paying p st (meaning E Kind.ExpressionStatement a) (meaning E l b)
statement_paying {ps = ps} E lends x n = record {
  pays = λ o r s. statement_pays E lends x n (same_eval lends.more ps) o r s;
  valued = λ wanted. unknown_acts;
  tested = λ s r q. unknown_acts;
}

passage_paying : {p : Row} {s t : Names} {a b : Forest} (E : Enter) → Lends E → (k : Kind) → is_passage k ≡ true → Okay p s k → Decls s (declared k a) (declared k b) t → Owes (row_below k) (names_below k s t) a b → OneRows (row_below k) (names_below k s t) (eval E a) (eval E b) → Paying p s (meaning E k a) (meaning E k b)
passage_paying {p = p} {t = t} {a = a} {b = b} E lends k y g d n c = record {
  pays = λ {w} {u} {e} {f} {q} {z} o r s. core_pays (does E k a (eval E a)) (does E k b (eval E b)) e f q z (is_core k) (does_pay E (eval E a) (eval E b) k y d n c (same_eval lends.more a) o r s);
  valued = λ {w} {e} wanted. no_value_acts (is_core k) (does E k a (eval E a)) (value wanted) e (λ l. passage_valued E (eval E a) k a e wanted y);
  tested = λ {w} {e} {f} {v} {u} s r q. core_acts (does E k a (eval E a)) (does E k b (eval E b)) e f (matches v) (matches u) (is_core k) (passage_tested E t a b p (eval E a) (eval E b) k y g c s r q);
}

mutual
  unfolding eval each

  near_rows : (E : Enter) → Enters E → Lends E → {us : Purposes} {p : Row} {st : Names} {a b : Forest} → Near us p st a b → Rows p us st (eval E a) (eval E b)
  near_rows E n lends (near_nothing {p = p} {st = st}) = rows_nil p _ st
  near_rows E n lends (near_absent {us = us} {p = p} {c = c} {d = d} t) = rows_with E p us c d no_part (near_rows E n lends t)
  near_rows E n lends (near_node {us = us} {p = p} {k = k} {c = c} {d = d} y x h o t) =
      let below = near_rows E n lends o in
      rows_with E p us c d (part (core_means (is_core k) (record { mean = λ r s. does_acts E n p _ _ k y x h o below r s; effect = λ g r. does_effect E n _ p _ _ k g y x h o below r }))) (near_rows E n lends t)
  near_rows E n lends (near_closure {us = us} {p = p} {f = k} {pure = pure} {c = c} {d = d} i x y z o t) = rows_with E p us c d (part (core_means (is_core (Kind.Function k pure)) (any_means (λ w e f ask fellow u r s. closure_acts E _ _ pure k i x y z o r s)))) (near_rows E n lends t)
  near_rows E n lends (near_hoisted {us = us} {p = p} {pure = pure} {a = a} {b = b} {c = c} {d = d} x y z t) = rows_with E p us c d (part (core_means (is_core (Kind.Function function_kind.Declaration pure)) (any_means (λ w e f ask fellow u r s. hoisted_does E a b (eval E a) (eval E b) pure pure _ _ s)))) (near_rows E n lends t)
  near_rows E n lends (near_unread {us = us} {p = p} {pure = pure} {also = also} {a = a} {b = b} {c = c} {d = d} q g h t) = rows_with E p us c d (part (any_means (λ w e f ask fellow u r s. hoisted_does E a b (eval E a) (eval E b) pure also _ _ s))) (near_rows E n lends t)
  near_rows E n lends (near_silent {us = us} {p = p} {pure = pure} {a = a} {b = b} {c = c} {d = d} y q g h u x t) = rows_with E p us c d (part (any_means (λ w e f ask fellow u r s. hoisted_does E a b (eval E a) (eval E b) pure pure _ _ s))) (near_rows E n lends t)
  near_rows E n lends (near_known {us = us} {q = q} {x = x} {v = v} {i = i} {j = j} {k = k} {l = l} {a = a} {b = b} {e = c1} {f = d1} {r = r1} {s = s1} {c = c} {d = d} y g t) =
      rows_with E q us c d (part (any_means (λ w e f ask fellow u r s. known_does x v e f E i j k l a b c1 d1 r1 s1 (subst (λ t. At w t (look e x) (look f x)) y (r.at x)) g s))) (near_rows E n lends t)
  near_rows E n lends (near_uncovered {us = us} {p = p} {k = k} {a = a} {b = b} {c = c} {d = d} y t) = rows_with E p us c d (part (uncovered_means (does E k a (eval E a)) (does E k b (eval E b)) (is_core k) y)) (near_rows E n lends t)
  near_rows E n lends (near_import {us = us} {p = p} {source = source} {a = a} {b = b} {c = c} {d = d} t) = rows_with E p us c d (part (any_means (λ w e f ask fellow u r s. import_acts E source e f a b s))) (near_rows E n lends t)
  near_rows E n lends (changed {us = us} {p = p} {c = c} {d = d} q t) = rows_with E p us c d (part (change_means E q)) (near_rows E n lends t)
  near_rows E n lends (same_effects {us = us} {p = p} {a = a} {b = b} {c = c} {d = d} {ps = ps} {qs = qs} q o t) = rows_with E p us c d (part (any_means (λ w e f ask fellow u r s. statement_acts E n a b ps qs q (near_rows E n lends o) r s))) (near_rows E n lends t)
  near_rows E n lends (comes_to {us = us} {p = p} {l = l} {i = i} {j = j} {b = b} {c = c} {d = d} q o t) = rows_with E p us c d (part (comes_means E q (part_means E l i j b (near_rows E n lends o)))) (near_rows E n lends t)
  near_rows E n lends (wastes_more {us = us} {p = p} {c = c} {d = d} g q o t) = rows_with E p us c d (part (wasted_means E n g q (near_rows E n lends o))) (near_rows E n lends t)
  near_rows E n lends (one_sided {us = us} {p = p} {b = b} {c = c} {d = d} g q o t) = rows_with E p us c d (part (sided_means E b g q (near_rows E n lends o))) (near_rows E n lends t)
  near_rows E n lends (shorter {us = us} {p = p} {i = i} {j = j} {b = b} {c = c} {d = d} q o t) = rows_with E p us c d (part (shorter_means E i j b q (near_rows E n lends o))) (near_rows E n lends t)
  near_rows E n lends (leaves i c) = record { listed = λ {w} {e} {f} {q} r s. seq_alone (idle_alone E n q i r) ((near_rows E n lends c).listed r s) }
  near_rows E n lends (value_stays {us = us} {how = how} {x = x} {m = m} {i = i} {o = o} {j = j} {l = l} {k = k} {z = z} {a = a} {b = b} {c = c} {d = d} {e = g} lone v t) =
      let value = near_rows E n lends v in rows_with E items us c d (part (any_means (λ w e f ask fellow u r s. value_left E how x m i o j l k z a b g lone value r s))) (near_rows E n lends t)
  near_rows E n lends (behind_jump {k = k} {n = m} {a = a} {c = c} {e = e} j u t) = list_behind E k m a c e j (near_rows E n lends t)
  near_rows E n lends (near_while {us = us} {p = p} {c = c} {d = d} x k o t) = let below = one_rows E n lends o in rows_with E p us c d (part (any_means (λ w e f q z u r s. while_acts E n x k o below r s))) (near_rows E n lends t)
  near_rows E n lends (near_do {us = us} {p = p} {a = a} {b = b} {c = c} {d = d} x k o t) = rows_with E p us c d (part (any_means (λ w e f q z u r s. do_acts E n (eval E a) (eval E b) x k o r s))) (near_rows E n lends t)
  near_rows E n lends (near_for {us = us} {p = p} {c = c} {d = d} x k y h o t) = let below = behind_rows E n lends o in rows_with E p us c d (part (any_means (λ w e f q z u r s. for_owes_acts E n x k y h o below r s))) (near_rows E n lends t)

  one_rows : (E : Enter) → Enters E → Lends E → {p : Row} {st : Names} {a b : Forest} → Owes p st a b → OneRows p st (eval E a) (eval E b)
  one_rows E enters lends (owes_here {p = p} {c = c} {d = d} x n t) = row_pays p (eval E c) (eval E d) (statement_paying E lends x (near_rows E enters lends n)) (near_rows E enters lends t)
  one_rows E enters lends (owes_item x c) = record { listed = λ o r s. item_pays E lends x o r (s (for_value itself)) ((near_rows E enters lends c).listed r s) }
  one_rows E enters lends (owes_behind {p = p} {k = k} {n = m} {a = a} {c = c} {d = d} n t) = row_pays_behind p (eval E c) (eval E d) (alone_means p (near_rows E enters lends n)) (first_alike (same_eval lends.more (node k m a nothing))) (one_rows E enters lends t)
  one_rows E enters lends (owes_absent {p = p} {c = c} {d = d} t) = row_pays_behind p (eval E c) (eval E d) no_part alike_none (one_rows E enters lends t)
  one_rows E enters lends (owes_below {p = p} {k = k} {c = c} {d = e} y g d n t) = row_pays p (eval E c) (eval E e) (passage_paying E lends k y g d n (one_rows E enters lends n)) (near_rows E enters lends t)

  behind_rows : (E : Enter) → Enters E → Lends E → {st : Names} {a b : Forest} → OwesBehind st a b → LoopParts for_loop st (eval E a) (eval E b)
  behind_rows E enters lends (behind_first n t) = for_parts (alone_means fields (near_rows E enters lends n)) (one_rows E enters lends t)
  behind_rows E enters lends (behind_no_first t) = for_parts no_part (one_rows E enters lends t)

turn_parts : (E : Enter) → Enters E → Lends E → {st : Names} {l : Loop} {a b : Forest} → OwesTurn l st a b → LoopParts l st (eval E a) (eval E b)
turn_parts E enters lends (while_turn n) = while_parts (one_rows E enters lends n)
turn_parts E enters lends (do_turn n) = do_parts (one_rows E enters lends n)
turn_parts E enters lends (for_turn n) = behind_rows E enters lends n

-- functions

near_behind : {us : Purposes} {st : Names} {a b : Forest} → Near us fields st a b → Near (purposes_behind us) fields st (behind a) (behind b)
near_behind near_nothing = near_nothing
near_behind (near_absent c) = c
near_behind (near_node y d h a c) = c
near_behind (near_closure i x d y a c) = c
near_behind (near_hoisted x y d c) = c
near_behind (near_unread q g h c) = c
near_behind (near_silent y q g h u d c) = c
near_behind (near_known q v c) = c
near_behind (near_uncovered y c) = c
near_behind (near_import c) = c
near_behind (near_while v q o c) = c
near_behind (near_do v q o c) = c
near_behind (near_for v q d h o c) = c
near_behind (changed q c) = c
near_behind (same_effects q t c) = c
near_behind (comes_to q t c) = c
near_behind (wastes_more g q t c) = c
near_behind (one_sided g q t c) = c
near_behind (shorter q t c) = c

this_acts : {w : World} {st : Names} {e f : Env} {v u : Value} {m k : M} (t : FunctionKind) → ReceiverOk t st → Envs w st e f → Same w v u → Acts w m k → Acts w (take_this t v e m) (take_this t u f k)
this_acts function_kind.Arrow y r q a = a
this_acts function_kind.Declaration y r q a = fill_acts (r.at this_name) y q a
this_acts function_kind.Expression y r q a = fill_acts (r.at this_name) y q a

-- a parameter list and a body
parameters_acts : {w : World} {st : Names} {vs us : List Value} {e f : Env} {ms ks : Parts} (c d : Forest) → Near for_values fields st c d → Fields for_values st ms ks → SameAll w vs us → Envs w st e f → Acts w (need ms (λ ps r. need r (λ b r. seq (ps (take_all vs) e) (start (behind c) e (b (first_ask (behind c)) e))))) (need ks (λ ps r. need r (λ b r. seq (ps (take_all us) f) (start (behind d) f (b (first_ask (behind d)) f)))))
parameters_acts c d n x q r = need_acts x (λ m k ns ls y x. need_acts x (λ m k ns ls z x. seq_acts (y.mean r (same_take_all q)) (start_acts tt (near_behind n) r (z.mean r (first_ask_same (near_behind n))))))

-- behind whatever stands for the name
code_acts : {w : World} {st : Names} {vs us : List Value} {e f : Env} (E : Enter) (a b : Forest) → is_row a ≡ is_row b → Near for_values fields st (behind a) (behind b) → Fields for_values st (eval E (behind a)) (eval E (behind b)) → SameAll w vs us → Envs w st e f → Acts w (run_code a (eval E a) vs e) (run_code b (eval E b) us f)
unfolding eval may
code_acts E nothing nothing x n c q r = unknown_acts
code_acts E nothing (absent d) x n c q r = absurd (false_true x)
code_acts E nothing (node l m b d) x n c q r = absurd (false_true x)
code_acts E (absent a) nothing x n c q r = absurd (true_false x)
code_acts E (node k n a c) nothing x o p q r = absurd (true_false x)
code_acts E (absent a) (absent b) x n c q r = parameters_acts a b n c q r
code_acts E (absent a) (node l m b d) x n c q r = parameters_acts a d n c q r
code_acts E (node k i a c) (absent b) x n p q r = parameters_acts c b n p q r
code_acts E (node k i a c) (node l j b d) x n p q r = parameters_acts c d n p q r

known_owed : {w : World} {o q : Option Slot} → At w (known owed_function) o q → Owed w
known_owed (at_known o i) = o

this_pays : {w : World} {st : Names} {e f : Env} {v u : Value} {m k : M} (t : FunctionKind) → ReceiverOk t st → Envs w st e f → Same w v u → Pays w m k → Pays w (take_this t v e m) (take_this t u f k)
this_pays {w = w} {e = e} {f = f} {v = v} {u = u} {m = m} {k = k} t y r q a = of_gift (subst (λ l. Acts w l (take_this t u f k)) (sym (gift_this t v e m)) (this_acts t y r q (as_gift a)))

module _ (E : Enter) (enters : Enters E) (lends : Lends E) where
  body_acts : {w : World} {st s : Names} {e f : Env} {v u : Value} {vs us : List Value} (t : FunctionKind) (a b : Forest) → Decls st (function_decls t a) (function_decls t b) s → ReceiverOk t s → is_row a ≡ is_row b → Near for_values fields s (behind a) (behind b)
      → Envs w st e f → Same w v u → SameAll w vs us → Acts w (enter_body E t a e v vs) (enter_body E t b f u us)
  body_acts t a b x y z n r o q =
      bind_acts (declare_acts x r (λ w2 e2 f2 h r2. this_acts t y r2 (same_later h o) (code_acts E a b z n (near_rows E enters lends n) (all_later h q) r2))) (λ w2 c e h z. after_call_acts z)

  -- a body in which a call leaves

  parts_pay : {w : World} {st : Names} {vs us : List Value} {e f : Env} {c d ps qs : Forest} {i j k l : Note} → Near for_values fields st (node Kind.Parameters i ps nothing) (node Kind.Parameters k qs nothing) → Owes fields st (node Kind.FunctionBody j c nothing) (node Kind.FunctionBody l d nothing)
      → Owed w → SameAll w vs us → Envs w st e f → Pays w (seq (meaning E Kind.Parameters ps (take_all vs) e) (start (node Kind.FunctionBody j c nothing) e (meaning E Kind.FunctionBody c (run_under []) e))) (seq (meaning E Kind.Parameters qs (take_all us) f) (start (node Kind.FunctionBody l d nothing) f (meaning E Kind.FunctionBody d (run_under []) f)))
  unfolding eval
  parts_pay {vs = vs} {e = e} {ps = ps} {i = i} n m o q r =
      seq_pays o ((only_alike (same_eval lends.more (node Kind.Parameters i ps nothing))).asked (take_all vs) e) ((only_part (near_rows E enters lends n)).mean r (same_take_all q)) (start_pays tt m r ((only_pays (one_rows E enters lends m)).pays {u = for_value itself} o r (same_run {ls = []})))

  code_pays : {w : World} {st : Names} {vs us : List Value} {e f : Env} {a b c d ps qs : Forest} {i j k l : Note} → FirstField a (node Kind.Parameters i ps (node Kind.FunctionBody j c nothing)) → FirstField b (node Kind.Parameters k qs (node Kind.FunctionBody l d nothing))
      → Near for_values fields st (node Kind.Parameters i ps nothing) (node Kind.Parameters k qs nothing) → Owes fields st (node Kind.FunctionBody j c nothing) (node Kind.FunctionBody l d nothing) → Owed w → SameAll w vs us → Envs w st e f
      → Pays w (run_code a (eval E a) vs e) (run_code b (eval E b) us f)
  unfolding eval may need
  code_pays first_node first_node n m o q r = parts_pay n m o q r
  code_pays first_node first_absent n m o q r = parts_pay n m o q r
  code_pays first_absent first_node n m o q r = parts_pay n m o q r
  code_pays first_absent first_absent n m o q r = parts_pay n m o q r

  owing_body : {w : World} {st s : Names} {c d ps qs : Forest} {i j k l : Note} {e f : Env} {v u : Value} {vs us : List Value} (t : FunctionKind) (a b : Forest) → Decls st (function_decls t a) (function_decls t b) s → ReceiverOk t s
      → FirstField a (node Kind.Parameters i ps (node Kind.FunctionBody j c nothing)) → FirstField b (node Kind.Parameters k qs (node Kind.FunctionBody l d nothing)) → Near for_values fields s (node Kind.Parameters i ps nothing) (node Kind.Parameters k qs nothing)
      → Owes fields s (node Kind.FunctionBody j c nothing) (node Kind.FunctionBody l d nothing) → Owed w → Envs w st e f → Same w v u → SameAll w vs us → Pays w (enter_body E t a e v vs) (enter_body E t b f u us)
  owing_body t a b x y g h n m o r p q =
      pays_first (declare_pays x r (λ w2 e2 f2 i r2. this_pays t y r2 (same_later i p) (code_pays g h n m (owed_later i o) (all_later i q) r2))) (λ w2 c e i z. after_call_acts z)

  -- an entry costs one, and where a call leaves from what it does the old run has two for it
  entry_acts : {w : World} {t u : Task} → Tasks w t u → Acts w (spend (task_does E t)) (spend (task_does E u))
  unfolding task_does
  entry_acts (same_body {t = t} {a = a} {b = b} (near_code x y z n) r o q) = spend_acts (body_acts t a b x y z n r o q)
  entry_acts {w = w} (same_body {t = t} {a = a} {b = b} {e = e} {f = f} (owing_code i k x y g h n m) r p q) = let o = known_owed (subst (λ x. At w x (look e i) (look f i)) k (r.at i)) in spend_pays o (owing_body t a b x y g h n m o r p q)
  entry_acts (same_turn {l = l} {ls = ls} h n r) = spend_acts (turn_acts E enters l ls h n (near_rows E enters lends n) r)
  entry_acts {w = w} (same_owing_turn {l = l} {ls = ls} {a = a} {e = e} {f = f} x k h n r) =
      let o = known_owed (subst (λ s. At w s (look e x) (look f x)) k (r.at x)) in
      spend_pays o (turn_pays E enters l ls x k h n (turn_parts E enters lends n) (same_eval lends.more a) o r)
  entry_acts (same_back {k = k} {t = t} {a = a} {b = b} (near_code x y z n) r o q) = spend_acts (bind_acts (body_acts t a b x y z n r o q) (λ w2 c e h z. report_acts z (host_acts E enters k)))
  entry_acts {w = w} (same_back {k = back} {t = t} {a = a} {b = b} {e = e} {f = f} (owing_code i k x y g h n m) r p q) =
      let o = known_owed (subst (λ x. At w x (look e i) (look f i)) k (r.at i)) in
      spend_pays o (pays_first (owing_body t a b x y g h n m o r p q) (λ w2 c e h z. report_acts z (host_acts E enters back)))

-- a call whose code does nothing but give a value
call_ends : (s : State) (n : ℕ) → s.budget ≡ suc n → (o : Out) → EndsQuietly (record s { budget = n }) o → CallEnds s o
call_ends s n e _ (gives_quietly a) = call_gives e a
call_ends s n e _ stops_quietly = call_uncovered

spends_one : (m : M) (s : State) → Quiet m → CallEnds s (spend m s)
unfolding spend
spends_one m s q = go s.budget refl
  where
    go : (n : ℕ) → s.budget ≡ n → CallEnds s (spend_from n m s)
    go zero e = call_out
    go (suc n) e = call_ends s n e _ (q.quiet (record s { budget = n }))

called_in : (d : ℕ) (f : FunctionKind) (a : Forest) (env : Env) → ((F : Enter) (this : Value) (vs : List Value) → Quiet (enter_body F f a env this vs)) → (this : Value) (vs : List Value) (s : State) → CallEnds s (cut d (body f a env this vs) s)
unfolding cut task_does stop
called_in zero f a env q this vs s = call_uncovered
called_in (suc d) f a env q this vs s = spends_one (enter_body (cut d) f a env this vs) s (q (cut d) this vs)

-- which is made wherever there is an entry for it

made_from : (s : State) (n : ℕ) → s.budget ≡ suc n → (o : Out) → EndsQuietly (record s { budget = n }) o → CallMade s o
made_from s n e _ (gives_quietly a) = made e a
made_from s n e _ stops_quietly = made_uncovered

makes_one : (m : M) (s : State) → Quiet m → CallMade s (spend m s)
unfolding spend
makes_one m s q = go s.budget refl
  where
    go : (n : ℕ) → s.budget ≡ n → CallMade s (spend_from n m s)
    go zero e = none_to_make e
    go (suc n) e = made_from s n e _ (q.quiet (record s { budget = n }))

made_in : (d : ℕ) (f : FunctionKind) (a : Forest) (env : Env) → ((F : Enter) (this : Value) (vs : List Value) → Quiet (enter_body F f a env this vs)) → (this : Value) (vs : List Value) (s : State) → CallMade s (cut d (body f a env this vs) s)
unfolding cut task_does stop
made_in zero f a env q this vs s = made_uncovered
made_in (suc d) f a env q this vs s = makes_one (enter_body (cut d) f a env this vs) s (q (cut d) this vs)

lends_in : (d : ℕ) → Lends (cut d)
lends_in d = record { makes = made_in d; more = cut_more d }

pub cut_enters : (d : ℕ) → Enters (cut d)
unfolding cut
cut_enters zero = record { called = called_in zero; entered = λ x. unknown_acts }
cut_enters (suc d) = record { called = called_in (suc d); entered = λ x. entry_acts (cut d) (cut_enters d) (lends_in d) x }

-- exports

insert_same : {w : World} {s z : Slot} {es fs : List Export} (x : Text) (p : Rule) → HoldsCell p → SameSlot w p s z → SameExports w es fs → SameExports w (insert (export x s) es) (insert (export x z) fs)
insert_same x p h l no_exports = an_export h l no_exports
insert_same {w = w} {s = s} {z = z} x p h l (an_export {x = y} {s = t} {z = u} {es = es} {fs = fs} g k r) = go (before y x) (insert_same x p h l r)
  where
    go : (b : Bool) → SameExports w (insert (export x s) es) (insert (export x z) fs) → SameExports w (if b then export y t ∷ insert (export x s) es else export x s ∷ export y t ∷ es) (if b then export y u ∷ insert (export x z) fs else export x z ∷ export y u ∷ fs)
    go true q = an_export g k q
    go false q = an_export h l (an_export g k r)

sorted_same : {w : World} {es fs : List Export} → SameExports w es fs → SameExports w (sorted es) (sorted fs)
sorted_same no_exports = no_exports
sorted_same (an_export {x = x} {p = p} h l r) = insert_same x p h l (sorted_same r)

bound_acts : {w : World} {t : Status} {o p : Option Slot} {j k : Slot → M} → At w t o p → Usable t → ((s z : Slot) → ((x : Text) (es fs : List Export) → SameExports w es fs → SameExports w (export x s ∷ es) (export x z ∷ fs)) → Acts w (j s) (k z)) → Acts w (if_bound o j) (if_bound p k)
bound_acts at_nowhere y b = unknown_acts
bound_acts (at_loose i) y b = unknown_acts
bound_acts (at_owing o) y b = unknown_acts
bound_acts (at_live l) y b = b _ _ (λ x es fs r. an_export tt l r)
bound_acts (at_known {p = p} i l) y b = b _ _ (λ x es fs r. an_export {p = only_value p} tt (same_local l) r)
bound_acts (at_dead l) y b = absurd y
bound_acts (at_unread l i) y b = absurd y

entries_acts : {w : World} {st : Names} {e f : Env} {j k : List Export → M} (xs : List Entry) → ExportsOk st xs → Envs w st e f → ((es fs : List Export) → SameExports w es fs → Acts w (j es) (k fs)) → Acts w (resolve_entries xs e j) (resolve_entries xs f k)
unfolding resolve_entries
entries_acts [] y r b = b [] [] no_exports
entries_acts (entry_local x n ∷ xs) y r b = bound_acts (r.at n) y.0 (λ s z more. entries_acts xs y.1 r (λ es fs q. b _ _ (more x es fs q)))
entries_acts (entry_import x source name ∷ xs) y r b = entries_acts xs y r (λ es fs q. b _ _ (an_export {p = any_value} tt same_import q))

exporting_acts : {w : World} {st : Names} {e f : Env} {m k : M} (a b : Forest) → entries a ≡ entries b → stars a ≡ stars b → ExportsOk st (entries a) → Envs w st e f → Acts w m k → Acts w (exporting a e m) (exporting b f k)
exporting_acts {w = w} {e = e} {f = f} {m = m} {k = k} a b x s y r z =
    subst (λ xs. Acts w (exporting a e m) (resolve_entries xs f (λ exports. set_exports (sorted exports) (stars b) k))) x
    (subst (λ l. Acts w (exporting a e m) (resolve_entries (entries a) f (λ exports. set_exports (sorted exports) l k))) s
    (entries_acts (entries a) y r (λ es fs q. set_exports_acts (stars a) (sorted_same q) z)))

-- modules

load_acts : {w : World} (E : Enter) → Enters E → (xs : List Text) → Acts w (load_all E xs) (load_all E xs)
unfolding load_all
load_acts E n [] = normal_acts
load_acts E n (x ∷ xs) = value_acts (consult_acts E n (Act.load x)) (λ w2 v u h q. load_acts E n xs)

finish_acts : {w : World} {c d : Completion} (E : Enter) → Enters E → SameCompletion w c d → Acts w (finish E c) (finish E d)
finish_acts E n same_normal = emit_acts Act.finished (host_acts E n false)
finish_acts E n (same_throws q) = show_acts q (λ x. emit_acts (Act.failed x) (host_acts E n false))
finish_acts E n (same_gives q o) = unknown_acts
finish_acts E n (same_gives_all q) = unknown_acts
finish_acts E n (same_refers q) = unknown_acts
finish_acts E n same_breaks = unknown_acts
finish_acts E n same_continues = unknown_acts
finish_acts E n (same_returns q) = unknown_acts

finally_acts : {w : World} {c d : Completion} → SameCompletion w c d → Acts w (finally c) (finally d)
finally_acts same_normal = shown_exports_acts (λ exports. stop_acts (ended exports))
finally_acts (same_throws q) = unknown_acts
finally_acts (same_gives q o) = unknown_acts
finally_acts (same_gives_all q) = unknown_acts
finally_acts (same_refers q) = unknown_acts
finally_acts same_breaks = unknown_acts
finally_acts same_continues = unknown_acts
finally_acts (same_returns q) = unknown_acts

-- what two lists of declarations do, at the top, where what follows does the same in the environments that they make
pub record DeclaresAlike (w : World) (t : Names) (ds es : List Decl) : Type 0 where
  pub declared : {j k : Env → M} → ((w2 : World) (e f : Env) → Sub w w2 → Envs w2 t e f → Acts w2 (j e) (k f)) → Acts w (declare ds [] j) (declare es [] k)

-- what a module does by what it declares, exports and requests
abbrev pub module_by : Enter → List Decl → List Entry → (stars requests : List Text) → Forest → M
module_by E ds es ss rs a =
    bind (bind
    (declare ds [] (λ env. resolve_entries es env (λ exports. set_exports (sorted exports) ss (start a env (seq (load_all E rs) (each (run_under []) (eval E a) env))))))
    (finish E)) finally

exports_act : {w : World} {st : Names} {e f : Env} {m k : M} (es : List Entry) (ss : List Text) → ExportsOk st es → Envs w st e f → Acts w m k
    → Acts w (resolve_entries es e (λ exports. set_exports (sorted exports) ss m)) (resolve_entries es f (λ exports. set_exports (sorted exports) ss k))
exports_act es ss y r z = entries_acts es y r (λ es fs q. set_exports_acts ss (sorted_same q) z)

pub modules_by : {w : World} {t : Names} {ds cs : List Decl} {a b : Forest} (es : List Entry) (ss rs : List Text) (E : Enter) → Enters E → Lends E → DeclaresAlike w t ds cs → ExportsOk t es → Near for_values items t a b
    → Acts w (module_by E ds es ss rs a) (module_by E cs es ss rs b)
modules_by es ss rs E n l d y c =
    bind_acts (bind_acts
    (d.declared (λ w e f h r. exports_act es ss y r (start_acts tt c r (seq_acts (load_acts E n rs) ((near_rows E n l c).listed r (λ u. same_run))))))
    (λ w c d h z. finish_acts E n z)) (λ w c d h z. finally_acts z)

pub modules_act : {w : World} {t : Names} {a b : Forest} (E : Enter) → Enters E → Lends E → DeclaresAlike w t (module_decls a) (module_decls b) → entries a ≡ entries b → ExportsOk t (entries a) → stars a ≡ stars b → distinct (requests a) ≡ distinct (requests b) → Near for_values items t a b → Acts w (module_does E a) (module_does E b)
unfolding module_does
modules_act {w = w} {t = t} {a = a} {b = b} E n l d x y s q c =
    subst (λ es. Acts w (module_does E a) (module_by E (module_decls b) es (stars b) (distinct (requests b)) b)) x
    (subst (λ ss. Acts w (module_does E a) (module_by E (module_decls b) (entries a) ss (distinct (requests b)) b)) s
    (subst (λ rs. Acts w (module_does E a) (module_by E (module_decls b) (entries a) (stars a) rs b)) q (modules_by (entries a) (stars a) (distinct (requests a)) E n l d y c)))

pub module_acts : {a b : Forest} (E : Enter) → Enters E → Lends E → NearModule a b → Acts [] (module_does E a) (module_does E b)
module_acts E n l (near_module d x y s q c) = modules_act E n l (record { declared = declare_acts d no_envs }) x y s (ap distinct q) c

pub loose_acts : {a b : Forest} (E : Enter) → Enters E → Lends E → LooseModule a b → Acts (slack ∷ []) (module_does E a) (module_does E b)
loose_acts E n l (loose_module d x y s q c) = modules_act E n l (record { declared = declare_acts d (loose_envs here) }) x y s (ap distinct q) c

-- where a call leaves from the module itself

exporting_pays : {w : World} {st : Names} {e f : Env} {m k : M} (a b : Forest) → entries a ≡ entries b → stars a ≡ stars b → ExportsOk st (entries a) → Envs w st e f → Pays w m k → Pays w (exporting a e m) (exporting b f k)
exporting_pays {w = w} {e = e} {f = f} {m = m} {k = k} a b x s y r z = of_gift (subst (λ l. Acts w l (exporting b f k)) (sym (gift_exporting a e m)) (exporting_acts a b x s y r (as_gift z)))

module_pays : {w : World} {st t : Names} {a b : Forest} (E : Enter) → Enters E → Lends E → Owed w → Envs w st [] [] → Decls st (module_decls a) (module_decls b) t → entries a ≡ entries b → ExportsOk t (entries a) → stars a ≡ stars b → requests a ≡ requests b → Owes items t a b → Pays w (module_does E a) (module_does E b)
unfolding module_does
module_pays {a = a} {b = b} E n l o env d x y s q c =
    let load : (w : World) → Acts w (load_all E (distinct (requests a))) (load_all E (distinct (requests b))) = λ w. subst (λ xs. Acts w (load_all E (distinct (requests a))) (load_all E (distinct xs))) q (load_acts E n (distinct (requests a))) in
    pays_first (pays_first
    (declare_pays d env (λ w e f h r. exporting_pays a b x s y r (start_pays tt c r (seq_pays (owed_later h o) (same_load l.more (distinct (requests a))) (load w) ((one_rows E n l c).listed (owed_later h o) r (λ u. same_run))))))
    (λ w c d h z. finish_acts E n z)) (λ w c d h z. finally_acts z)

only_owed : Owed (debt ∷ [])
only_owed = record { owed = here; no_slack = debt_alone }

pub owing_acts : {a b : Forest} (E : Enter) → Enters E → Lends E → OwingModule a b → Pays (debt ∷ []) (module_does E a) (module_does E b)
owing_acts E n l (owing_within d x y s q c) = acts_pay only_owed (modules_act E n l (record { declared = declare_acts d (owing_envs only_owed) }) x y s (ap distinct q) c)
owing_acts E n l (owing_itself d x y s q c) = module_pays E n l only_owed (owing_envs only_owed) d x y s q c

plain_same : {w : World} (o : Option Plain) → SameOpt w (as_value o) (as_value o)
plain_same None = same_none
plain_same (Some p) = same_some same_plain

pub first_states : {w : World} (script : Script) (m n : ℕ) → Budgets w m n → Links w 0 0 → ((a b : ℕ) (p : Rule) → In (both a b p) w → ⊥) → States w (first_state script m) (first_state script n)
first_states script m n b l f = record {
  budget = b;
  links = l;
  cells = record { linked = λ a b p i. absurd (f a b p i); obeyed = λ a b p i. absurd (f a b p i) };
  globals = λ x. plain_same (script.globals x);
  imports = λ source x. same_none;
  shown = all_nil;
  moves = refl;
  exports = no_exports;
  stars = refl;
}

refines_itself : (e : Ending) (r : Run) → refines e r r
refines_itself (ended exports) r = refl
refines_itself Ending.host_stopped r = refl
refines_itself Ending.out r = refl
refines_itself Ending.uncovered r = ([], sym (append-nil r.trace))

follows_refines : {w : World} {o p : Out} → (In slack w → ⊥) → (In debt w → ⊥) → Follows w o p → Refines (seen o) (seen p)
follows_refines f g (both_go {es = es} h r c) = refines_itself Ending.uncovered (record { trace = es; ending = Ending.uncovered })
follows_refines f g (both_stop {es = es} {e = e}) = refines_itself e (record { trace = es; ending = e })
follows_refines f g (old_stops x) = x
follows_refines f g (old_out i x) = absurd (f i)
follows_refines f g (new_out o) = absurd (g o.owed)

keeps_itself : (e : Ending) (r : Run) → keeps e r r
keeps_itself (ended exports) r = refl
keeps_itself Ending.host_stopped r = refl
keeps_itself Ending.out r = ([], sym (append-nil r.trace))
keeps_itself Ending.uncovered r = ([], sym (append-nil r.trace))

follows_keeps : {w : World} {o p : Out} → (In debt w → ⊥) → Follows w o p → Keeps (seen o) (seen p)
follows_keeps g (both_go {es = es} h r c) = keeps_itself Ending.uncovered (record { trace = es; ending = Ending.uncovered })
follows_keeps g (both_stop {es = es} {e = e}) = keeps_itself e (record { trace = es; ending = e })
follows_keeps g (old_stops x) = x
follows_keeps g (old_out i x) = x
follows_keeps g (new_out o) = absurd (g o.owed)

pub acts_refine : (a b : Forest) (n m i j : Note) → ((E : Enter) → Enters E → Lends E → Acts [] (module_does E a) (module_does E b)) → Refined (module_of n m a) (module_of i j b)
acts_refine a b n m i j c script bound =
    let d = suc bound in
    rw (cut_runs d (module_of n m a) script bound (omega arith), cut_runs d (module_of i j b) script bound (omega arith))
    (follows_refines not_in not_in ((c (cut d) (cut_enters d) (lends_in d)).act [] (same []) _ _ (first_states script bound bound (as_many not_in refl) no_links (λ a b p i. not_in i))))

pub near_refines : {a b : Forest} (n m i j : Note) → NearModule a b → Refined (module_of n m a) (module_of i j b)
near_refines {a = a} {b = b} n m i j c = acts_refine a b n m i j (λ E h l. module_acts E h l c)

-- the new one may make fewer entries
pub loose_keeps : {a b : Forest} (n m i j : Note) → LooseModule a b → Kept (module_of n m a) (module_of i j b)
loose_keeps {a = a} {b = b} n m i j c script bound =
    let d = suc bound in
    rw (cut_runs d (module_of n m a) script bound (omega arith), cut_runs d (module_of i j b) script bound (omega arith))
    (follows_keeps slack_alone ((loose_acts (cut d) (cut_enters d) (lends_in d) c).act (slack ∷ []) (same (slack ∷ [])) _ _ (first_states script bound bound (as_many slack_alone refl) slack_links no_both)))

-- and with twice as many, and one more, the old one comes back

itself_recovers : (e : Ending) (es : List Event) → recovers e (record { trace = es; ending = e }) (record { trace = es; ending = e })
itself_recovers (ended x) es = inl refl
itself_recovers Ending.host_stopped es = inl refl
itself_recovers Ending.out es = tt
itself_recovers Ending.uncovered es = inl refl

uncovered_recovers : (e : Ending) (a b : Run) → a.ending ≡ Ending.uncovered → Prefix a.trace b.trace → recovers e a b
uncovered_recovers (ended x) a b h p = inr (h, p)
uncovered_recovers Ending.host_stopped a b h p = inr (h, p)
uncovered_recovers Ending.out a b h p = tt
uncovered_recovers Ending.uncovered a b h p = inr (h, p)

follows_recovers : {w : World} {o p : Out} → (In slack w → ⊥) → Follows w o p → Recovers (seen o) (seen p)
follows_recovers f (both_go {es = es} h r c) = itself_recovers Ending.uncovered es
follows_recovers f (both_stop {es = es} {e = e}) = itself_recovers e es
follows_recovers f (old_stops {es = es} {o = o} x) = uncovered_recovers (seen o).ending (record { trace = es; ending = Ending.uncovered }) (seen o) refl x
follows_recovers f (old_out i x) = absurd (f i)
follows_recovers f (new_out o) = tt

pub owing_recovers : {a b : Forest} (n m i j : Note) → OwingModule a b → Recovered (λ bound. suc (bound + bound)) (module_of n m a) (module_of i j b)
owing_recovers {a = a} {b = b} n m i j c script bound =
    let d = suc (suc (bound + bound)) in
    rw (cut_runs d (module_of n m a) script (suc (bound + bound)) (omega arith), cut_runs d (module_of i j b) script bound (omega arith))
    (follows_recovers debt_alone ((owing_acts (cut d) (cut_enters d) (lends_in d) c).pay (debt ∷ []) (same (debt ∷ [])) (first_state script (bound + bound)) (first_state script bound) (first_states script (bound + bound) bound (twice only_owed (omega arith)) debt_links no_both_owed)))
