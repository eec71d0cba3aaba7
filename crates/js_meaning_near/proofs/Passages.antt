-- Rows of statements with one that pays: what nodes do that such a row lies in.
use Rattle.std.proofs.Common.{◌≡◌, List, [], ◌∷◌, Option, Some, sym, subst}
use Rattle.std.specs.Prelude.{true}
use Rattle.js_syntax.specs.declared.node_kind.NodeKind.{NodeKind as Kind}
use Rattle.js_syntax.specs.Node.{Forest}
use Rattle.js_meaning.specs.Value.{Text, Env, Value}
use Rattle.js_meaning.specs.Operator.{truthy}
use Rattle.js_syntax.specs.declared.operator.BinaryOperator.TheVariants as binary
use Rattle.js_meaning.specs.State.{M, Completion, bind, choose, with_value}
use Rattle.js_meaning.specs.Scope.{first_of, lexical, start, copy}
use Rattle.js_meaning.specs.Host.{Loop, while_loop, do_loop, for_loop, Enter}
use Rattle.js_meaning.specs.Node.{Wanted, itself, Ask, run, value, matches, now, Meaning, Parts, need, may, each, value_or_undefined, ask_maybe, first_ask}
use Rattle.js_meaning.specs.Statement.{after_block, after_finally, after_switch, enter_if, test_for, test_then, turn_does, choose_case, case_test, catch_does, try_does}
use Rattle.js_meaning.specs.Meaning.{does}
use Rattle.js_meaning.proofs.Same.{with_more, same_bind}
use Rattle.js_meaning.proofs.Depth.{SameMeaning, SameMaybe, both as alike_part, SameParts, one_more, same_after_block, same_take_maybe}
use Rattle.js_meaning_near.specs.Names.{known, owed_function, Names, Decls, Copied, declared, names_below}
use Rattle.js_meaning_near.specs.Near.{Row, fields, switch_fields, items, row_below, alone_in, Okay, Owes, owes_here, owes_item, owes_behind, owes_absent, owes_below, OwesBehind, behind_first, behind_no_first, OwesTurn, while_turn, do_turn, for_turn, is_passage}
use Rattle.js_meaning_near.specs.Purpose.{Purpose, for_value, for_values}
use Rattle.js_meaning_near.proofs.Worlds.{World, Sub, same}
use Rattle.js_meaning_near.proofs.Relations.{Envs, Same, same_plain, LoopHead, same_owing_turn, Enters, SameCompletion, same_normal, same_gives, same_gives_all, same_refers, same_breaks, same_continues, same_returns, same_throws, SameAsk, same_run, same_matches, same_take, Owed, owed_later, Acts, Means, envs_later, same_later, completion_later}
use Rattle.js_meaning_near.proofs.Acts.{bind_acts, done_acts, unknown_acts, normal_acts, seq_acts, value_acts, choose_acts}
use Rattle.js_meaning_near.proofs.Scopes.{declare_acts, copy_acts}
use Rattle.js_meaning_near.proofs.Operators.{truthy_same, binary_of_acts}
use Rattle.js_meaning_near.proofs.Rows.{same_now, need_acts, or_undefined_acts, after_init_acts, after_turn_acts, SomeMeans, no_part, part, Fields, fields_end, fields_more, Rows, each_acts, ask_maybe_acts, take_maybe_acts, after_label_acts, after_switch_acts, after_block_acts, after_finally_acts, try_acts, case_test_acts}
use Rattle.js_meaning_near.proofs.Nodes.{Starts, first_ask_same, no_cases, starts_nothing, start_acts, true_false}
use Rattle.js_meaning_near.proofs.Gifts.{Pays, as_gift, of_gift, pays_later, acts_pay, unknown_pays, pays_first, pays_then, seq_pays, seq_first, value_pays, value_first, choose_pays, declare_pays, gift_start, case_pays}

-- A node that pays where it is asked to run. It is asked for no value, and a case's test pays nothing.
pub record Paying (p : Row) (st : Names) (m k : Meaning) : Type 0 where
  pub pays : {w : World} {u : Purpose} {e f : Env} {q z : Ask} → Owed w → Envs w st e f → SameAsk w u q z → Pays w (m q e) (k z f)
  pub valued : {w : World} {e f : Env} (wanted : Wanted) → Acts w (m (value wanted) e) (k (value wanted) f)
  pub tested : {w : World} {e f : Env} {v u : Value} → Starts p → Envs w st e f → Same w v u → Acts w (m (matches v) e) (k (matches u) f)

-- field by field
pub data OneFields (p : Row) (st : Names) : Parts → Parts → Type 0 where
  one_here : {m k : Meaning} {ms ks : Parts} → Paying p st m k → Fields for_values st ms ks → OneFields p st (Some m ∷ ms) (Some k ∷ ks)
  one_behind : {o q : Option Meaning} {ms ks : Parts} → SomeMeans (for_value itself) st o q → OneFields p st ms ks → OneFields p st (o ∷ ms) (q ∷ ks)

pub record OneList (st : Names) (ms ks : Parts) : Type 0 where
  pub listed : {w : World} {e f : Env} {q z : Ask} → Owed w → Envs w st e f → ((u : Purpose) → SameAsk w u q z) → Pays w (each q ms e) (each z ks f)

abbrev pub OneRows : Row → Names → Parts → Parts → Type 0
OneRows fields st ms ks = OneFields fields st ms ks
OneRows switch_fields st ms ks = OneFields switch_fields st ms ks
OneRows items st ms ks = OneList st ms ks

-- a field that has to be there, and one that may be, by where the row pays

need_one : {w : World} {p : Row} {st : Names} {ms ks : Parts} {f g : Meaning → Parts → M} → OneFields p st ms ks → SameParts with_more ms ms
    → ((m k : Meaning) (ns ls : Parts) → Paying p st m k → SameMeaning with_more m m → Fields for_values st ns ls → SameParts with_more ns ns → Pays w (f m ns) (g k ls))
    → ((m k : Meaning) (ns ls : Parts) → Means (for_value itself) st m k → SameMeaning with_more m m → OneFields p st ns ls → SameParts with_more ns ns → Pays w (f m ns) (g k ls))
    → Pays w (need ms f) (need ks g)
unfolding need
need_one (one_here x c) (one_more (alike_part h) hs) a b = a _ _ _ _ x h c hs
need_one (one_behind no_part c) hs a b = unknown_pays
need_one (one_behind (part x) c) (one_more (alike_part h) hs) a b = b _ _ _ _ x h c hs

need_none : {w : World} {st : Names} {ms ks : Parts} {f g : Meaning → Parts → M} → Fields for_values st ms ks → ((m k : Meaning) (ns ls : Parts) → Means (for_value itself) st m k → Fields for_values st ns ls → Pays w (f m ns) (g k ls)) → Pays w (need ms f) (need ks g)
unfolding need
need_none fields_end b = unknown_pays
need_none (fields_more no_part c) b = unknown_pays
need_none (fields_more (part m) c) b = b _ _ _ _ m c

may_one : {w : World} {p : Row} {st : Names} {ms ks : Parts} {f g : Option Meaning → Parts → M} → OneFields p st ms ks → SameParts with_more ms ms
    → ((m k : Meaning) (ns ls : Parts) → Paying p st m k → SameMeaning with_more m m → Fields for_values st ns ls → SameParts with_more ns ns → Pays w (f (Some m) ns) (g (Some k) ls))
    → ((o q : Option Meaning) (ns ls : Parts) → SomeMeans (for_value itself) st o q → SameMaybe with_more o o → OneFields p st ns ls → SameParts with_more ns ns → Pays w (f o ns) (g q ls))
    → Pays w (may ms f) (may ks g)
unfolding may
may_one (one_here x c) (one_more (alike_part h) hs) a b = a _ _ _ _ x h c hs
may_one (one_behind x c) (one_more h hs) a b = b _ _ _ _ x h c hs

may_none : {w : World} {st : Names} {ms ks : Parts} {f g : Option Meaning → Parts → M} → Fields for_values st ms ks → ((o q : Option Meaning) (ns ls : Parts) → SomeMeans (for_value itself) st o q → Fields for_values st ns ls → Pays w (f o ns) (g q ls)) → Pays w (may ms f) (may ks g)
unfolding may
may_none fields_end b = unknown_pays
may_none (fields_more m c) b = b _ _ _ _ m c

-- statements one after the other, where they stand in fields
each_one : {w : World} {p : Row} {st : Names} {ms ks : Parts} {e f : Env} {q z : Ask} → OneFields p st ms ks → SameParts with_more ms ms → Owed w → Envs w st e f → SameAsk w (for_value itself) q z → Pays w (each q ms e) (each z ks f)
unfolding each
each_one (one_here x c) hs o r s = seq_first (x.pays o r s) (each_acts c r s)
each_one (one_behind no_part c) hs o r s = unknown_pays
each_one {e = e} {q = q} (one_behind (part x) c) (one_more (alike_part h) hs) o r s = seq_pays o (h.asked q e) (x.mean r s) (each_one c hs o r s)

-- what stands first in the head of a `for`
first_of_loop : {w : World} {st : Names} {a b : Forest} → OwesBehind st a b → SameAsk w (for_value itself) (first_ask a) (first_ask b)
first_of_loop (behind_first n o) = first_ask_same n
first_of_loop (behind_no_first o) = same_now

-- what a scope starts

starts_alone : (p : Row) → Starts p → Starts (alone_in p)
starts_alone fields s = tt
starts_alone switch_fields s = s
starts_alone items s = tt

starts_of_one : {p : Row} {st : Names} {a b : Forest} {w : World} {e f : Env} {m k : M} → Starts p → Owes p st a b → Envs w st e f → Acts w m k → Acts w (start a e m) (start b f k)
unfolding start
starts_of_one {f = f} {k = k} s (owes_here {l = l} {b = b} {d = d} q n c) r x = rw (starts_nothing l b (start b f) f (start d f k) q.new_hoists) (start_acts s c r x)
starts_of_one s (owes_item q c) r x = start_acts s c r x
starts_of_one {p = p} s (owes_behind n c) r x = start_acts (starts_alone p s) n r (starts_of_one s c r x)
starts_of_one s (owes_absent c) r x = starts_of_one s c r x
starts_of_one s (owes_below {k = Kind.Statements} y g d n c) r x = starts_of_one tt n r (start_acts s c r x)
starts_of_one s (owes_below {k = Kind.FunctionBody} y g d n c) r x = starts_of_one tt n r (start_acts s c r x)
starts_of_one s (owes_below {k = Kind.SwitchCase} y g d n c) r x = starts_of_one tt n r (start_acts s c r x)
starts_of_one {p = p} s (owes_below {k = Kind.Cases} y g d n c) r x = absurd (no_cases p g s)
starts_of_one s (owes_below {k = Kind.BlockStatement} y g d n c) r x = start_acts s c r x
starts_of_one s (owes_below {k = Kind.IfStatement} y g d n c) r x = start_acts s c r x
starts_of_one s (owes_below {k = Kind.LabeledStatement l} y g d n c) r x = start_acts s c r x
starts_of_one s (owes_below {k = Kind.SwitchStatement} y g d n c) r x = start_acts s c r x
starts_of_one s (owes_below {k = Kind.TryStatement} y g d n c) r x = start_acts s c r x
starts_of_one s (owes_below {k = Kind.CatchClause} y g d n c) r x = start_acts s c r x
starts_of_one s (owes_below y g d n c) r x = absurd (true_false (sym y))

pub start_pays : {p : Row} {st : Names} {a b : Forest} {w : World} {e f : Env} {m k : M} → Starts p → Owes p st a b → Envs w st e f → Pays w m k → Pays w (start a e m) (start b f k)
start_pays {a = a} {b = b} {w = w} {e = e} {f = f} {m = m} {k = k} s n r x = of_gift (subst (λ l. Acts w l (start b f k)) (sym (gift_start a e m)) (starts_of_one s n r (as_gift x)))

-- a switch's cases: their tests pay nothing, and of the statements behind the one that is chosen each runs once

choose_none : {st : Names} {w : World} {ms ks : Parts} {e f : Env} {v u : Value} {m k : M} → Fields for_values st ms ks → SameParts with_more ms ms → Owed w → Same w v u → Envs w st e f → Pays w m k → Pays w (choose_case ms v e m) (choose_case ks u f k)
unfolding choose_case
choose_none fields_end hs o q r a = a
choose_none (fields_more no_part c) hs o q r a = unknown_pays
choose_none {e = e} {v = v} (fields_more (part m) c) (one_more (alike_part h) hs) o q r a =
    value_pays o (h.asked (matches v) e) (m.mean r (same_matches q)) (λ w2 x y i t.
    let here = acts_pay (owed_later i o) (each_acts (fields_more (part m) c) (envs_later i r) same_run) in
    case_pays t here (choose_none c hs (owed_later i o) (same_later i q) (envs_later i r) (pays_later i a)) (choose_none c hs (owed_later i o) (same_later i q) (envs_later i r) here))

choose_one : {p : Row} {st : Names} {w : World} {ms ks : Parts} {e f : Env} {v u : Value} {m k : M} → Starts p → OneFields p st ms ks → SameParts with_more ms ms → Owed w → Same w v u → Envs w st e f → Pays w m k → Pays w (choose_case ms v e m) (choose_case ks u f k)
unfolding choose_case
choose_one {e = e} {v = v} s (one_here x c) (one_more (alike_part h) hs) o q r a =
    value_pays o (h.asked (matches v) e) (x.tested s r q) (λ w2 d y i t.
    let here = each_one (one_here x c) (one_more (alike_part h) hs) (owed_later i o) (envs_later i r) same_run in
    case_pays t here (choose_none c hs (owed_later i o) (same_later i q) (envs_later i r) (pays_later i a)) (choose_none c hs (owed_later i o) (same_later i q) (envs_later i r) here))
choose_one s (one_behind no_part c) hs o q r a = unknown_pays
choose_one {w = w} {e = e} {v = v} s (one_behind (part x) c) (one_more (alike_part h) hs) o q r a =
    value_pays o (h.asked (matches v) e) (x.mean r (same_matches q)) (λ w2 d y i t.
    let here = each_one (one_behind (part x) c) (one_more (alike_part h) hs) (owed_later i o) (envs_later i r) same_run in
    case_pays t here (choose_one {w = w2} s c hs (owed_later i o) (same_later i q) (envs_later i r) (pays_later i a)) (choose_one {w = w2} s c hs (owed_later i o) (same_later i q) (envs_later i r) here))

test_one : {p : Row} {st : Names} {w : World} {ms ks : Parts} {e f : Env} {v u : Value} → OneFields p st ms ks → Same w v u → Envs w st e f → Acts w (may ms (λ t r. case_test v t e)) (may ks (λ t r. case_test u t f))
unfolding may
test_one (one_here x c) q r = value_acts (x.valued itself) (λ w2 a b h y. binary_of_acts binary.StrictEquality (same_later h q) y)
test_one (one_behind t c) q r = case_test_acts q t r

-- a block with a handler and a finalizer

handler_pays : {w : World} {p : Row} {st : Names} {m k : Meaning} {e f : Env} {c d : Completion} → Paying p st m k → Owed w → Envs w st e f → SameCompletion w c d → Pays w (after_block (Some m) e c) (after_block (Some k) f d)
handler_pays x o r (same_throws q) = x.pays {u = for_value itself} o r (same_take q)
handler_pays x o r same_normal = acts_pay o normal_acts
handler_pays x o r (same_gives q t) = acts_pay o (done_acts (same_gives q t))
handler_pays x o r (same_gives_all q) = acts_pay o (done_acts (same_gives_all q))
handler_pays x o r (same_refers q) = acts_pay o (done_acts (same_refers q))
handler_pays x o r same_breaks = acts_pay o (done_acts same_breaks)
handler_pays x o r same_continues = acts_pay o (done_acts same_continues)
handler_pays x o r (same_returns q) = acts_pay o (done_acts (same_returns q))

finally_acts : {w : World} {st : Names} {g i : Option Meaning} {e f : Env} → SomeMeans (for_value itself) st g i → Envs w st e f → (w2 : World) (c d : Completion) → Sub w w2 → SameCompletion w2 c d
    → Acts w2 (bind (ask_maybe g (run []) e) (after_finally c)) (bind (ask_maybe i (run []) f) (after_finally d))
finally_acts z r w2 c d h q = bind_acts (ask_maybe_acts z (envs_later h r) same_run) (λ w3 x y j t. after_finally_acts (completion_later j q) t)

try_one : {w : World} {p : Row} {st : Names} {ms ks : Parts} {e f : Env} → OneFields p st ms ks → SameParts with_more ms ms → Owed w → Envs w st e f
    → Pays w (need ms (λ b r. may r (λ h r. may r (λ g r. try_does b h g e)))) (need ks (λ b r. may r (λ h r. may r (λ g r. try_does b h g f))))
try_one {e = e} c hs o r = need_one c hs
    (λ m k ns ls x h c hs. may_none c (λ j l ns ls y c. may_none c (λ g i ns ls z c.
    pays_first (pays_first (x.pays {u = for_value itself} o r same_run) (λ w2 a d n q. after_block_acts y (envs_later n r) q)) (finally_acts z r))))
    (λ m k ns ls x h c hs. may_one c hs
    (λ j l ns ls y i c hs. may_none c (λ g t ns ls z c.
    pays_first (pays_then o (h.asked (run []) e) (x.mean r same_run) (λ w2 a d n q. handler_pays y (owed_later n o) (envs_later n r) q)) (finally_acts z r)))
    (λ j l ns ls y i c hs. may_one c hs
    (λ g t ns ls z v c hs.
    pays_then o (same_bind (h.asked (run []) e) (same_after_block e i)) (bind_acts (x.mean r same_run) (λ w2 a d n q. after_block_acts y (envs_later n r) q))
    (λ w2 a d n q. pays_first (z.pays {u = for_value itself} (owed_later n o) (envs_later n r) same_run) (λ w3 b x2 j2 t2. after_finally_acts (completion_later j2 q) t2)))
    (λ g t ns ls z v c hs. acts_pay o (try_acts x y z r))))

catch_one : {w : World} {p : Row} {s t : Names} {ms ks : Parts} {e f : Env} {v u : Value} (a b : Forest) → Decls s (declared Kind.CatchClause a) (declared Kind.CatchClause b) t → OneFields p t ms ks → SameParts with_more ms ms → Owed w → Envs w s e f → Same w v u
    → Pays w (catch_does a ms v e) (catch_does b ks u f)
catch_one {v = v} a b d c hs o r q = declare_pays d r (λ w2 e2 f2 i r2. may_one c hs
    (λ m k ns ls x h c hs. need_none c (λ j l ns ls y c. seq_first (x.pays {u = for_value itself} (owed_later i o) r2 (same_take (same_later i q))) (y.mean r2 same_run)))
    (λ m k ns ls x h c hs. need_one c hs
    (λ j l ns ls y g c hs. seq_pays (owed_later i o) (same_take_maybe v e2 h) (take_maybe_acts x r2 (same_later i q)) (y.pays {u = for_value itself} (owed_later i o) r2 same_run))
    (λ j l ns ls y g c hs. acts_pay (owed_later i o) (seq_acts (take_maybe_acts x r2 (same_later i q)) (y.mean r2 same_run)))))

if_one : {w : World} {p : Row} {st : Names} {ms ks : Parts} {e f : Env} (ls : List Text) → OneFields p st ms ks → SameParts with_more ms ms → Owed w → Envs w st e f
    → Pays w (need ms (λ t r. need r (λ c r. may r (λ d r. with_value (t now e) (λ v. choose (truthy v) (c (run ls) e) (ask_maybe d (run ls) e)))))) (need ks (λ t r. need r (λ c r. may r (λ d r. with_value (t now f) (λ v. choose (truthy v) (c (run ls) f) (ask_maybe d (run ls) f))))))
if_one {e = e} ls c hs o r = need_one c hs
    (λ m k ns ks x h c hs. need_none c (λ j l ns ks y c. may_none c (λ g i ns ks z c.
    value_first (x.pays o r same_now) (λ w2 v u n q. choose_acts (truthy_same q) (y.mean (envs_later n r) same_run) (ask_maybe_acts z (envs_later n r) same_run)))))
    (λ m k ns ks x h c hs. need_one c hs
    (λ j l ns ks y g c hs. may_none c (λ t i ns ks z c.
    value_pays o (h.asked now e) (x.mean r same_now) (λ w2 v u n q. choose_pays (truthy_same q) (y.pays {u = for_value itself} (owed_later n o) (envs_later n r) same_run) (acts_pay (owed_later n o) (ask_maybe_acts z (envs_later n r) same_run)))))
    (λ j l ns ks y g c hs. may_one c hs
    (λ t i ns ks z v c hs.
    value_pays o (h.asked now e) (x.mean r same_now) (λ w2 v u n q. choose_pays (truthy_same q) (acts_pay (owed_later n o) (y.mean (envs_later n r) same_run)) (z.pays {u = for_value itself} (owed_later n o) (envs_later n r) same_run)))
    (λ t i ns ks z v c hs.
    acts_pay o (value_acts (x.mean r same_now) (λ w2 v u n q. choose_acts (truthy_same q) (y.mean (envs_later n r) same_run) (ask_maybe_acts z (envs_later n r) same_run))))))

switch_one : {w : World} {p : Row} {st : Names} {ms ks : Parts} {e f : Env} → OneFields p st ms ks → SameParts with_more ms ms → Owed w → Envs w st e f
    → Pays w (need ms (λ d r. need r (λ cs r. with_value (d now e) (λ v. bind (cs (matches v) e) after_switch)))) (need ks (λ d r. need r (λ cs r. with_value (d now f) (λ v. bind (cs (matches v) f) after_switch))))
switch_one {e = e} c hs o r = need_one c hs
    (λ m k ns ls x h c hs. need_none c (λ j l ns ls y c. value_first (x.pays o r same_now) (λ w2 v u n q. bind_acts (y.mean (envs_later n r) (same_matches q)) (λ w3 a b i t. after_switch_acts t))))
    (λ m k ns ls x h c hs. need_one c hs
    (λ j l ns ls y g c hs. value_pays o (h.asked now e) (x.mean r same_now) (λ w2 v u n q. pays_first (y.pays {u = for_value itself} (owed_later n o) (envs_later n r) (same_matches q)) (λ w3 a b i t. after_switch_acts t)))
    (λ j l ns ls y g c hs. acts_pay o (value_acts (x.mean r same_now) (λ w2 v u n q. bind_acts (y.mean (envs_later n r) (same_matches q)) (λ w3 a b i t. after_switch_acts t)))))

-- loops: their heads pay nothing

-- what a loop reads off its row, where its body pays
pub data LoopParts : Loop → Names → Parts → Parts → Type 0 where
  while_parts : {st : Names} {ms ks : Parts} → OneFields fields st ms ks → LoopParts while_loop st ms ks
  do_parts : {st : Names} {ms ks : Parts} → OneFields fields st ms ks → LoopParts do_loop st ms ks
  for_parts : {st : Names} {o q : Option Meaning} {ms ks : Parts} → SomeMeans (for_value itself) st o q → OneFields fields st ms ks → LoopParts for_loop st (o ∷ ms) (q ∷ ks)

head_acts : {w : World} {p : Row} {st : Names} {ms ks : Parts} {e f : Env} {i j : Value → M} → OneFields p st ms ks → Envs w st e f → ((w2 : World) (v u : Value) → Sub w w2 → Same w2 v u → Acts w2 (i v) (j u)) → Acts w (may ms (λ t r. test_for t e i)) (may ks (λ t r. test_for t f j))
unfolding may
head_acts (one_here x c) r b = value_acts (x.valued itself) b
head_acts {w = w} (one_behind no_part c) r b = b w _ _ (same w) same_plain
head_acts (one_behind (part m) c) r b = value_acts (m.mean r same_now) b

needed_acts : {w : World} {p : Row} {st : Names} {ms ks : Parts} {e f : Env} {i j : Value → M} → OneFields p st ms ks → Envs w st e f → ((w2 : World) (v u : Value) → Sub w w2 → Same w2 v u → Acts w2 (i v) (j u)) → Acts w (need ms (λ t r. with_value (t now e) i)) (need ks (λ t r. with_value (t now f) j))
unfolding need
needed_acts (one_here x c) r b = value_acts (x.valued itself) b
needed_acts (one_behind no_part c) r b = unknown_acts
needed_acts (one_behind (part m) c) r b = value_acts (m.mean r same_now) b

fields_acts : {w : World} {st : Names} {ms ks : Parts} {e f : Env} {i j : Value → M} → Fields for_values st ms ks → Envs w st e f → ((w2 : World) (v u : Value) → Sub w w2 → Same w2 v u → Acts w2 (i v) (j u)) → Acts w (need ms (λ t r. with_value (t now e) i)) (need ks (λ t r. with_value (t now f) j))
fields_acts c r b = need_acts c (λ m k ns ls x c. value_acts (x.mean r same_now) b)

module _ (E : Enter) (enters : Enters E) where
  turn_if_acts : {w : World} {st : Names} {a b : Forest} {e f : Env} {v u : Value} (l : Loop) (ls : List Text) (x : Text) → st x ≡ known owed_function → LoopHead l st a b → OwesTurn l st a b → Envs w st e f → Same w v u → Acts w (enter_if E l a ls e v) (enter_if E l b ls f u)
  turn_if_acts l ls x k h n r q = choose_acts (truthy_same q) (enters.entered (same_owing_turn x k h n r)) normal_acts

  pub owed_test_acts : {w : World} {st : Names} {a b : Forest} {ms ks : Parts} {e f : Env} (l : Loop) (ls : List Text) (x : Text) → st x ≡ known owed_function → LoopHead l st a b → OwesTurn l st a b → LoopParts l st ms ks → Envs w st e f → Acts w (test_then E l a ms ls e) (test_then E l b ks ls f)
  unfolding need may
  owed_test_acts while_loop ls x k h n (while_parts c) r = needed_acts c r (λ w2 v u i q. turn_if_acts while_loop ls x k h n (envs_later i r) q)
  owed_test_acts do_loop ls x k h n (do_parts (one_here y c)) r = fields_acts c r (λ w2 v u i q. turn_if_acts do_loop ls x k h n (envs_later i r) q)
  owed_test_acts do_loop ls x k h n (do_parts (one_behind no_part c)) r = unknown_acts
  owed_test_acts do_loop ls x k h n (do_parts (one_behind (part y) c)) r = needed_acts c r (λ w2 v u i q. turn_if_acts do_loop ls x k h n (envs_later i r) q)
  owed_test_acts for_loop ls x k h n (for_parts y c) r = head_acts c r (λ w2 v u i q. turn_if_acts for_loop ls x k h n (envs_later i r) q)

  -- what a turn of a `for` does behind its body
  again_acts : {w : World} {st : Names} {a b : Forest} {ms ks : Parts} {e f : Env} (o q : Option Meaning) (ls : List Text) (x : Text) → st x ≡ known owed_function → LoopHead for_loop st a b → OwesTurn for_loop st a b → LoopParts for_loop st ms ks
      → ((w2 : World) (e f : Env) → Sub w w2 → Envs w2 st e f → (i j : Value → M) → ((w3 : World) (v u : Value) → Sub w2 w3 → Acts w3 (i v) (j u)) → Acts w2 (value_or_undefined o e i) (value_or_undefined q f j)) → Envs w st e f
      → Acts w (copy (lexical (first_of a)) e (λ e. value_or_undefined o e (λ v. test_then E for_loop a ms ls e))) (copy (lexical (first_of b)) f (λ f. value_or_undefined q f (λ v. test_then E for_loop b ks ls f)))
  again_acts {a = a} {b = b} {ms = ms} {ks = ks} o q ls x k h n parts update r = copy_acts h r (λ w2 e f i r2. update w2 e f i r2 (λ v. test_then E for_loop a ms ls e) (λ v. test_then E for_loop b ks ls f) (λ w3 v u j. owed_test_acts for_loop ls x k h n parts (envs_later j r2)))

  pub turn_pays : {w : World} {st : Names} {a b : Forest} {ms ks : Parts} {e f : Env} (l : Loop) (ls : List Text) (x : Text) → st x ≡ known owed_function → LoopHead l st a b → OwesTurn l st a b → LoopParts l st ms ks → SameParts with_more ms ms → Owed w → Envs w st e f → Pays w (turn_does E l a ms ls e) (turn_does E l b ks ls f)
  unfolding may
  turn_pays while_loop ls x k h n (while_parts c) hs o r = need_one c hs
      (λ m l ns ks y g d hs. need_none d (λ m l ns ks z d. acts_pay o (bind_acts (z.mean r same_run) (λ w2 v u i q. after_turn_acts ls q (owed_test_acts while_loop ls x k h n (while_parts c) (envs_later i r))))))
      (λ m l ns ks y g d hs. need_one d hs
      (λ m l ns ks z g d hs. pays_first (z.pays {u = for_value itself} o r same_run) (λ w2 v u i q. after_turn_acts ls q (owed_test_acts while_loop ls x k h n (while_parts c) (envs_later i r))))
      (λ m l ns ks z g d hs. acts_pay o (bind_acts (z.mean r same_run) (λ w2 v u i q. after_turn_acts ls q (owed_test_acts while_loop ls x k h n (while_parts c) (envs_later i r))))))
  turn_pays do_loop ls x k h n (do_parts c) hs o r = need_one c hs
      (λ m l ns ks z g d hs. pays_first (z.pays {u = for_value itself} o r same_run) (λ w2 v u i q. after_turn_acts ls q (owed_test_acts do_loop ls x k h n (do_parts c) (envs_later i r))))
      (λ m l ns ks z g d hs. acts_pay o (bind_acts (z.mean r same_run) (λ w2 v u i q. after_turn_acts ls q (owed_test_acts do_loop ls x k h n (do_parts c) (envs_later i r)))))
  turn_pays for_loop ls x k h n (for_parts s c) (one_more g hs) o r = may_one c hs
      (λ m l ns ks y g d hs. may_none d (λ old new ns ks y d. need_none d (λ m l ns ks z d.
      acts_pay o (bind_acts (z.mean r same_run) (λ w2 v u i q. after_turn_acts ls q (again_acts old new ls x k h n (for_parts s c) (λ w3 e f j r3 b d h. or_undefined_acts y r3 (λ w4 v u j q. h w4 v u j)) (envs_later i r)))))))
      (λ m l ns ks y g d hs. may_one d hs
      (λ old new ns ks y g d hs. need_none d (λ m l ns ks z d.
      acts_pay o (bind_acts (z.mean r same_run) (λ w2 v u i q. after_turn_acts ls q (again_acts (Some old) (Some new) ls x k h n (for_parts s c) (λ w3 e f j r3 b d h. value_acts (y.valued itself) (λ w4 v u j q. h w4 v u j)) (envs_later i r))))))
      (λ old new ns ks y g d hs. need_one d hs
      (λ m l ns ks z g d hs. pays_first (z.pays {u = for_value itself} o r same_run) (λ w2 v u i q. after_turn_acts ls q (again_acts old new ls x k h n (for_parts s c) (λ w3 e f j r3 b d h. or_undefined_acts y r3 (λ w4 v u j q. h w4 v u j)) (envs_later i r))))
      (λ m l ns ks z g d hs. acts_pay o (bind_acts (z.mean r same_run) (λ w2 v u i q. after_turn_acts ls q (again_acts old new ls x k h n (for_parts s c) (λ w3 e f j r3 b d h. or_undefined_acts y r3 (λ w4 v u j q. h w4 v u j)) (envs_later i r)))))))

  -- the loops themselves, whatever they are asked

  pub while_acts : {w : World} {u : Purpose} {st : Names} {a b : Forest} {ms ks : Parts} {e f : Env} {q z : Ask} (x : Text) → st x ≡ known owed_function → Owes fields st a b → OneFields fields st ms ks → Envs w st e f → SameAsk w u q z → Acts w (does E Kind.WhileStatement a ms q e) (does E Kind.WhileStatement b ks z f)
  while_acts x k n c r (same_run {ls = ls}) = owed_test_acts while_loop ls x k tt (while_turn n) (while_parts c) r
  while_acts x k n c r _ = unknown_acts

  pub do_acts : {w : World} {u : Purpose} {st : Names} {a b : Forest} {e f : Env} {q z : Ask} (ms ks : Parts) (x : Text) → st x ≡ known owed_function → Owes fields st a b → Envs w st e f → SameAsk w u q z → Acts w (does E Kind.DoWhileStatement a ms q e) (does E Kind.DoWhileStatement b ks z f)
  do_acts ms ks x k n r (same_run {ls = ls}) = enters.entered (same_owing_turn {l = do_loop} x k tt (do_turn n) r)
  do_acts ms ks x k n r _ = unknown_acts

  pub for_owes_acts : {w : World} {u : Purpose} {s t : Names} {a b : Forest} {ms ks : Parts} {e f : Env} {q z : Ask} (x : Text) → t x ≡ known owed_function → Decls s (lexical (first_of a)) (lexical (first_of b)) t → Copied t (lexical (first_of a)) (lexical (first_of b)) → OwesBehind t a b → LoopParts for_loop t ms ks
      → Envs w s e f → SameAsk w u q z → Acts w (does E Kind.ForStatement a ms q e) (does E Kind.ForStatement b ks z f)
  unfolding may
  for_owes_acts x k d h n (for_parts i c) r (same_run {ls = ls}) =
      declare_acts d r (λ w2 e2 f2 j r2. bind_acts (ask_maybe_acts i r2 (first_of_loop n)) (λ w3 v u l q. after_init_acts q (copy_acts h (envs_later l r2) (λ w4 e f g r3. owed_test_acts for_loop ls x k h (for_turn n) (for_parts i c) r3))))
  for_owes_acts x k d h n c r _ = unknown_acts

-- one line for each node that such a row lies in, and what it may be asked, as in the definition
pub does_pay : {u : Purpose} {s t : Names} {a b : Forest} {w : World} {e f : Env} {q z : Ask} (E : Enter) (ms ks : Parts) (k : Kind) → is_passage k ≡ true → Decls s (declared k a) (declared k b) t → Owes (row_below k) (names_below k s t) a b → OneRows (row_below k) (names_below k s t) ms ks → SameParts with_more ms ms
    → Owed w → Envs w s e f → SameAsk w u q z → Pays w (does E k a ms q e) (does E k b ks z f)
does_pay E ms ks Kind.Statements y d n c h o r same_run = c.listed o r (λ u. same_run)
does_pay E ms ks Kind.BlockStatement y d n c h o r same_run =
    declare_pays d r (λ w2 e2 f2 i r2. start_pays tt n r2 (need_one c h (λ m k ns ls x g c h. x.pays {u = for_value itself} (owed_later i o) r2 same_run) (λ m k ns ls x g c h. acts_pay (owed_later i o) (x.mean r2 same_run))))
does_pay E ms ks Kind.IfStatement y d n c h o r (same_run {ls = ls}) = if_one ls c h o r
does_pay E ms ks (Kind.LabeledStatement l) y d n c h o r same_run =
    need_one c h (λ m k ns ls x g c h. pays_first (x.pays {u = for_value itself} o r same_run) (λ w2 v u i q. after_label_acts l q)) (λ m k ns ls x g c h. acts_pay o (bind_acts (x.mean r same_run) (λ w2 v u i q. after_label_acts l q)))
does_pay E ms ks Kind.SwitchStatement y d n c h o r same_run = switch_one c h o r
does_pay E ms ks Kind.Cases y d n c h o r (same_matches q) = declare_pays d r (λ w2 e2 f2 i r2. start_pays tt n r2 (choose_one tt c h (owed_later i o) (same_later i q) r2 (acts_pay (owed_later i o) normal_acts)))
does_pay E ms ks Kind.SwitchCase y d n c h o r (same_matches q) = acts_pay o (test_one c q r)
does_pay E ms ks Kind.SwitchCase y d n c h o r same_run =
    may_one c h (λ m k ns ls x g c h. need_none c (λ j l ns ls y c. acts_pay o (y.mean r same_run)))
    (λ m k ns ls x g c h. need_one c h (λ j l ns ls y g c h. y.pays {u = for_value itself} o r same_run) (λ j l ns ls y g c h. acts_pay o (y.mean r same_run)))
does_pay E ms ks Kind.TryStatement y d n c h o r same_run = try_one c h o r
does_pay {a = a} {b = b} E ms ks Kind.CatchClause y d n c h o r (same_take q) = catch_one a b d c h o r q
does_pay E ms ks Kind.FunctionBody y d n c h o r same_run = need_one c h (λ m k ns ls x g c h. x.pays {u = for_value itself} o r same_run) (λ m k ns ls x g c h. acts_pay o (x.mean r same_run))
does_pay E ms ks Kind.Statements y d n c h o r _ = unknown_pays
does_pay E ms ks Kind.BlockStatement y d n c h o r _ = unknown_pays
does_pay E ms ks Kind.IfStatement y d n c h o r _ = unknown_pays
does_pay E ms ks (Kind.LabeledStatement l) y d n c h o r _ = unknown_pays
does_pay E ms ks Kind.SwitchStatement y d n c h o r _ = unknown_pays
does_pay E ms ks Kind.Cases y d n c h o r _ = unknown_pays
does_pay E ms ks Kind.SwitchCase y d n c h o r _ = unknown_pays
does_pay E ms ks Kind.TryStatement y d n c h o r _ = unknown_pays
does_pay E ms ks Kind.CatchClause y d n c h o r _ = unknown_pays
does_pay E ms ks Kind.FunctionBody y d n c h o r _ = unknown_pays
does_pay E ms ks k y d n c h o r _ = absurd (true_false (sym y))

-- of values they are asked none
pub passage_valued : {w : World} {l : M} (E : Enter) (ms : Parts) (k : Kind) (a : Forest) (e : Env) (wanted : Wanted) → is_passage k ≡ true → Acts w (does E k a ms (value wanted) e) l
passage_valued E ms Kind.Statements a e v y = unknown_acts
passage_valued E ms Kind.BlockStatement a e v y = unknown_acts
passage_valued E ms Kind.IfStatement a e v y = unknown_acts
passage_valued E ms (Kind.LabeledStatement l) a e v y = unknown_acts
passage_valued E ms Kind.SwitchStatement a e v y = unknown_acts
passage_valued E ms Kind.Cases a e v y = unknown_acts
passage_valued E ms Kind.SwitchCase a e v y = unknown_acts
passage_valued E ms Kind.TryStatement a e v y = unknown_acts
passage_valued E ms Kind.CatchClause a e v y = unknown_acts
passage_valued E ms Kind.FunctionBody a e v y = unknown_acts
passage_valued E ms k a e v y = absurd (true_false (sym y))

-- and whether they are the case a case alone, which evaluates its test
pub passage_tested : {s : Names} {w : World} {e f : Env} {v u : Value} (E : Enter) (t : Names) (a b : Forest) (p : Row) (ms ks : Parts) (k : Kind) → is_passage k ≡ true → Okay p s k → OneRows (row_below k) (names_below k s t) ms ks → Starts p → Envs w s e f → Same w v u → Acts w (does E k a ms (matches v) e) (does E k b ks (matches u) f)
passage_tested E t a b p ms ks Kind.Cases y g c s r q = absurd (no_cases p g s)
passage_tested E t a b p ms ks Kind.SwitchCase y g c s r q = test_one c q r
passage_tested E t a b p ms ks Kind.Statements y g c s r q = unknown_acts
passage_tested E t a b p ms ks Kind.BlockStatement y g c s r q = unknown_acts
passage_tested E t a b p ms ks Kind.IfStatement y g c s r q = unknown_acts
passage_tested E t a b p ms ks (Kind.LabeledStatement l) y g c s r q = unknown_acts
passage_tested E t a b p ms ks Kind.SwitchStatement y g c s r q = unknown_acts
passage_tested E t a b p ms ks Kind.TryStatement y g c s r q = unknown_acts
passage_tested E t a b p ms ks Kind.CatchClause y g c s r q = unknown_acts
passage_tested E t a b p ms ks Kind.FunctionBody y g c s r q = unknown_acts
passage_tested E t a b p ms ks k y g c s r q = absurd (true_false (sym y))

-- rows

pub row_pays : (p : Row) {st : Names} {m k : Meaning} (ms ks : Parts) → Paying p st m k → Rows p for_values st ms ks → OneRows p st (Some m ∷ ms) (Some k ∷ ks)
unfolding each
row_pays fields ms ks x c = one_here x c
row_pays switch_fields ms ks x c = one_here x c
row_pays items ms ks x c = record { listed = λ o r s. seq_first (x.pays o r (s (for_value itself))) (c.listed r s) }

pub row_pays_behind : (p : Row) {st : Names} {o q : Option Meaning} (ms ks : Parts) → SomeMeans (for_value itself) st o q → SameMaybe with_more o o → OneRows p st ms ks → OneRows p st (o ∷ ms) (q ∷ ks)
unfolding each
row_pays_behind fields ms ks x h c = one_behind x c
row_pays_behind switch_fields ms ks x h c = one_behind x c
row_pays_behind items ms ks no_part h c = record { listed = λ o r s. unknown_pays }
row_pays_behind items ms ks (part x) (alike_part h) c = record { listed = λ {w} {e} {f} {q} o r s. seq_pays o (h.asked q e) (x.mean r (s (for_value itself))) (c.listed o r s) }

-- a row of one alone
pub alone_means : (p : Row) {st : Names} {o q : Option Meaning} → Rows (alone_in p) for_values st (o ∷ []) (q ∷ []) → SomeMeans (for_value itself) st o q
alone_means fields (fields_more x c) = x
alone_means switch_fields (fields_more x c) = x
alone_means items (fields_more x c) = x

none_pays : {p : Row} {st : Names} → OneFields p st [] [] → ⊥
none_pays c = elim c [ ]

pub only_pays : {p : Row} {st : Names} {m k : Meaning} → OneFields p st (Some m ∷ []) (Some k ∷ []) → Paying p st m k
only_pays (one_here x c) = x
only_pays (one_behind x c) = absurd (none_pays c)
