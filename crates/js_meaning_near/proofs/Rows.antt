-- What the nodes of a row do, in both runs; and how statements hand on completions.
use Rattle.std.proofs.Common.{List, [], ◌∷◌, Option, Some, None, refl}
use Rattle.std.specs.Prelude.{Bool, true, false}
use Rattle.js_syntax.specs.declared.kind.VariableKind.{VariableKind}
use Rattle.js_syntax.specs.declared.kind.VariableKind.TheVariants as variable
use Rattle.js_syntax.specs.declared.value.Key.{Key}
use Rattle.js_syntax.specs.declared.value.Key.TheVariants.{Name as key_name, Text as key_text, Number as key_number, Below as key_below}
use Rattle.js_syntax.specs.declared.operator.BinaryOperator.TheVariants as binary
use Rattle.js_meaning.specs.Value.{Text, Env, Value, boolean}
use Rattle.js_meaning.specs.State.{M, Completion}
use Rattle.js_meaning.specs.Node.{itself, Ask, now, Meaning, Parts, need, may, each, values, all_values, value_or_undefined, ask_maybe}
use Rattle.js_meaning.specs.Expression.{member_key, member_place, in_turn}
use Rattle.js_meaning.specs.Statement.{after_label, declarator, after_turn, after_init, case_is, choose_case, case_test, after_switch, after_block, after_finally, try_does, take_maybe}
use Rattle.js_meaning.specs.Meaning.{take_each, after_call}
use Rattle.js_meaning_near.specs.Names.{Names}
use Rattle.js_meaning_near.specs.Near.{Row, fields, switch_fields, items}
use Rattle.js_meaning_near.specs.Purpose.{Purpose, for_value, for_effect, Purposes, all, last_for, purpose_here, purposes_behind, for_values}
use Rattle.js_meaning_near.proofs.Worlds.{World, Sub, same, later}
use Rattle.js_meaning_near.proofs.Relations.{Envs, Same, same_plain, same_closure, same_object, same_array, same_error, SameAll, all_nil, all_cons, SameCompletion, same_normal, same_gives, same_gives_all, same_refers, same_breaks, same_continues, same_returns, same_throws, SameAsk, same_run, same_value, same_take, same_matches, Acts, ActsForEffect, Means, envs_later, same_later, completion_later, ask_later}
use Rattle.js_meaning_near.proofs.Acts.{acts_later, bind_acts, done_acts, unknown_acts, choose_acts, give_acts, normal_acts, seq_acts, value_acts}
use Rattle.js_meaning_near.proofs.Effects.{effects_act, effects_first, effects_both}
use Rattle.js_meaning_near.proofs.Operators.{other_same, binary_of_acts}

pub same_now : {w : World} → SameAsk w (for_value itself) now now
same_now = same_value

pub data SomeMeans (u : Purpose) (st : Names) : Option Meaning → Option Meaning → Type 0 where
  no_part : SomeMeans u st None None
  part : {m k : Meaning} → Means u st m k → SomeMeans u st (Some m) (Some k)

abbrev pub has_parts : Parts → Bool
has_parts [] = false
has_parts (o ∷ ms) = true

-- field by field
pub data Fields : Purposes → Names → Parts → Parts → Type 0 where
  fields_end : {us : Purposes} {st : Names} → Fields us st [] []
  fields_more : {us : Purposes} {st : Names} {o p : Option Meaning} {ms ks : Parts} → SomeMeans (purpose_here us (has_parts ms)) st o p → Fields (purposes_behind us) st ms ks → Fields us st (o ∷ ms) (p ∷ ks)

-- one after the other, where they are asked for no value
pub record Lists (st : Names) (ms ks : Parts) : Type 0 where
  pub listed : {w : World} {e f : Env} {q z : Ask} → Envs w st e f → ((u : Purpose) → SameAsk w u q z) → Acts w (each q ms e) (each z ks f)

abbrev pub Rows : Row → Purposes → Names → Parts → Parts → Type 0
Rows fields us st ms ks = Fields us st ms ks
Rows switch_fields us st ms ks = Fields us st ms ks
Rows items us st ms ks = Lists st ms ks

pub rows_nil : (p : Row) (us : Purposes) (st : Names) → Rows p us st [] []
unfolding each
rows_nil fields us st = fields_end
rows_nil switch_fields us st = fields_end
rows_nil items us st = record { listed = λ r s. normal_acts }

list_more : {u : Purpose} {st : Names} {o p : Option Meaning} {ms ks : Parts} → SomeMeans u st o p → Lists st ms ks → Lists st (o ∷ ms) (p ∷ ks)
unfolding each
list_more no_part l = record { listed = λ r s. unknown_acts }
list_more {u = u} (part m) l = record { listed = λ r s. seq_acts (m.mean r (s u)) (l.listed r s) }

pub rows_more : (p : Row) (us : Purposes) {st : Names} {o q : Option Meaning} (ms ks : Parts) → SomeMeans (purpose_here us (has_parts ms)) st o q → Rows p (purposes_behind us) st ms ks → Rows p us st (o ∷ ms) (q ∷ ks)
rows_more fields us ms ks m c = fields_more m c
rows_more switch_fields us ms ks m c = fields_more m c
rows_more items us ms ks m c = list_more m c

pub need_acts : {w : World} {us : Purposes} {st : Names} {ms ks : Parts} {f g : Meaning → Parts → M} → Fields us st ms ks
    → ((m k : Meaning) (ns ls : Parts) → Means (purpose_here us (has_parts ns)) st m k → Fields (purposes_behind us) st ns ls → Acts w (f m ns) (g k ls)) → Acts w (need ms f) (need ks g)
unfolding need
need_acts fields_end b = unknown_acts
need_acts (fields_more no_part c) b = unknown_acts
need_acts (fields_more (part m) c) b = b _ _ _ _ m c

pub need_effect : {w : World} {us : Purposes} {st : Names} {ms ks : Parts} {f g : Meaning → Parts → M} → Fields us st ms ks
    → ((m k : Meaning) (ns ls : Parts) → Means (purpose_here us (has_parts ns)) st m k → Fields (purposes_behind us) st ns ls → ActsForEffect w (f m ns) (g k ls)) → ActsForEffect w (need ms f) (need ks g)
unfolding need
need_effect fields_end b = effects_act unknown_acts
need_effect (fields_more no_part c) b = effects_act unknown_acts
need_effect (fields_more (part m) c) b = b _ _ _ _ m c

pub may_acts : {w : World} {us : Purposes} {st : Names} {ms ks : Parts} {f g : Option Meaning → Parts → M} → Fields us st ms ks
    → ((m k : Option Meaning) (ns ls : Parts) → SomeMeans (purpose_here us (has_parts ns)) st m k → Fields (purposes_behind us) st ns ls → Acts w (f m ns) (g k ls)) → Acts w (may ms f) (may ks g)
unfolding may
may_acts fields_end b = unknown_acts
may_acts (fields_more m c) b = b _ _ _ _ m c

pub each_acts : {w : World} {u : Purpose} {st : Names} {ms ks : Parts} {e f : Env} {q z : Ask} → Fields (all u) st ms ks → Envs w st e f → SameAsk w u q z → Acts w (each q ms e) (each z ks f)
unfolding each
each_acts fields_end r s = normal_acts
each_acts (fields_more no_part c) r s = unknown_acts
each_acts (fields_more (part m) c) r s = seq_acts (m.mean r s) (each_acts c r s)

pub values_acts : {u : Purpose} {st : Names} {w : World} {ms ks : Parts} {e f : Env} {q z : Ask} {j k : List Value → M} → Fields (all u) st ms ks → Envs w st e f → SameAsk w u q z → ((w2 : World) (vs us : List Value) → Sub w w2 → SameAll w2 vs us → Acts w2 (j vs) (k us)) → Acts w (values q ms e j) (values z ks f k)
unfolding values
values_acts {w = w} fields_end r s b = b w _ _ (same w) all_nil
values_acts (fields_more no_part c) r s b = unknown_acts
values_acts (fields_more (part m) c) r s b = value_acts (m.mean r s) (λ w2 v u h x. values_acts c (envs_later h r) (ask_later h s) (λ w3 vs us i y. b w3 _ _ (later h i) (all_cons (same_later i x) y)))

pub all_values_acts : {w : World} {u : Purpose} {st : Names} {ms ks : Parts} {e f : Env} {q z : Ask} → Fields (all u) st ms ks → Envs w st e f → SameAsk w u q z → Acts w (all_values q ms e) (all_values z ks f)
all_values_acts c r s = values_acts c r s (λ w2 vs us h q. done_acts (same_gives_all q))

pub or_undefined_acts : {w : World} {st : Names} {o p : Option Meaning} {e f : Env} {j k : Value → M} → SomeMeans (for_value itself) st o p → Envs w st e f → ((w2 : World) (v u : Value) → Sub w w2 → Same w2 v u → Acts w2 (j v) (k u)) → Acts w (value_or_undefined o e j) (value_or_undefined p f k)
or_undefined_acts {w = w} no_part r b = b w _ _ (same w) same_plain
or_undefined_acts (part m) r b = value_acts (m.mean r same_now) b

-- the same, where nobody takes the value
pub or_nothing_acts : {w : World} {st : Names} {o p : Option Meaning} {e f : Env} {j k : Value → M} → SomeMeans for_effect st o p → Envs w st e f → ((w2 : World) (v u : Value) → Sub w w2 → Acts w2 (j v) (k u)) → Acts w (value_or_undefined o e j) (value_or_undefined p f k)
or_nothing_acts {w = w} no_part r b = b w _ _ (same w)
or_nothing_acts (part m) r b = effects_first (m.effect tt r) b

pub ask_maybe_acts : {w : World} {u : Purpose} {st : Names} {o p : Option Meaning} {e f : Env} {q z : Ask} → SomeMeans u st o p → Envs w st e f → SameAsk w u q z → Acts w (ask_maybe o q e) (ask_maybe p z f)
ask_maybe_acts no_part r s = normal_acts
ask_maybe_acts (part m) r s = m.mean r s

pub take_maybe_acts : {w : World} {st : Names} {o p : Option Meaning} {e f : Env} {v u : Value} → SomeMeans (for_value itself) st o p → Envs w st e f → Same w v u → Acts w (take_maybe o v e) (take_maybe p u f)
take_maybe_acts no_part r q = normal_acts
take_maybe_acts (part m) r q = m.mean r (same_take q)

-- a sequence whose value is taken, and one whose value nobody takes

pub in_turn_acts : {st : Names} {w : World} {ms ks : Parts} {e f : Env} → Fields (last_for (for_value itself)) st ms ks → Envs w st e f → Acts w (in_turn ms e) (in_turn ks f)
unfolding in_turn
in_turn_acts fields_end r = unknown_acts
in_turn_acts (fields_more no_part c) r = unknown_acts
in_turn_acts (fields_more (part m) fields_end) r = m.mean r same_now
in_turn_acts (fields_more (part m) (fields_more o c)) r = effects_first (m.effect tt r) (λ w2 v u h. in_turn_acts (fields_more o c) (envs_later h r))

pub in_turn_effect : {st : Names} {w : World} {ms ks : Parts} {e f : Env} → Fields (last_for for_effect) st ms ks → Envs w st e f → ActsForEffect w (in_turn ms e) (in_turn ks f)
unfolding in_turn
in_turn_effect fields_end r = effects_act unknown_acts
in_turn_effect (fields_more no_part c) r = effects_act unknown_acts
in_turn_effect (fields_more (part m) fields_end) r = m.effect tt r
in_turn_effect (fields_more (part m) (fields_more o c)) r = effects_both (m.effect tt r) (λ w2 v u h. in_turn_effect (fields_more o c) (envs_later h r))

pub take_each_acts : {st : Names} {w : World} {ms ks : Parts} {e f : Env} {vs us : List Value} → Fields for_values st ms ks → SameAll w vs us → Envs w st e f → Acts w (take_each ms vs e) (take_each ks us f)
unfolding take_each
take_each_acts fields_end q r = normal_acts
take_each_acts (fields_more no_part c) q r = unknown_acts
take_each_acts (fields_more (part m) c) all_nil r = seq_acts (m.mean r (same_take same_plain)) (take_each_acts c all_nil r)
take_each_acts (fields_more (part m) c) (all_cons q qs) r = seq_acts (m.mean r (same_take q)) (take_each_acts c qs r)

-- keys

key_acts : {w : World} {st : Names} {ms ks : Parts} {e f : Env} {j k : Value → M} (key : Key) → Fields for_values st ms ks → Envs w st e f → ((w2 : World) (v u : Value) → Sub w w2 → Same w2 v u → Acts w2 (j v) (k u)) → Acts w (member_key key ms e j) (member_key key ks f k)
key_acts key_below c r b = need_acts c (λ m k ns ls x c. value_acts (x.mean r same_now) (λ w2 v u h q. choose_acts (other_same q) unknown_acts (b w2 v u h q)))
key_acts {w = w} (key_name s) c r b = b w _ _ (same w) same_plain
key_acts {w = w} (key_text s) c r b = b w _ _ (same w) same_plain
key_acts {w = w} (key_number n) c r b = b w _ _ (same w) same_plain

pub member_place_acts : {w : World} {st : Names} {ms ks : Parts} {e f : Env} {j k : Value → Value → M} (key : Key) → Fields for_values st ms ks → Envs w st e f → ((w2 : World) (v u x y : Value) → Sub w w2 → Same w2 v u → Same w2 x y → Acts w2 (j v x) (k u y)) → Acts w (member_place key ms e j) (member_place key ks f k)
member_place_acts key c r b = need_acts c (λ m k ns ls x c. value_acts (x.mean r same_now) (λ w2 v u h q. key_acts key c (envs_later h r) (λ w3 x y i o. b w3 _ _ _ _ (later h i) (same_later i q) o)))

-- completions

pub after_init_acts : {w : World} {c d : Completion} {m k : M} → SameCompletion w c d → Acts w m k → Acts w (after_init m c) (after_init k d)
after_init_acts same_normal a = a
after_init_acts (same_gives q o) a = a
after_init_acts (same_gives_all q) a = unknown_acts
after_init_acts (same_refers q) a = unknown_acts
after_init_acts same_breaks a = unknown_acts
after_init_acts same_continues a = unknown_acts
after_init_acts (same_returns q) a = unknown_acts
after_init_acts (same_throws q) a = done_acts (same_throws q)

pub after_label_acts : {w : World} {c d : Completion} (l : Text) → SameCompletion w c d → Acts w (after_label l c) (after_label l d)
after_label_acts l (same_breaks {o = None}) = done_acts same_breaks
after_label_acts l (same_breaks {o = Some m}) = choose_acts refl normal_acts (done_acts same_breaks)
after_label_acts l same_normal = normal_acts
after_label_acts l (same_gives q o) = done_acts (same_gives q o)
after_label_acts l (same_gives_all q) = done_acts (same_gives_all q)
after_label_acts l (same_refers q) = done_acts (same_refers q)
after_label_acts l same_continues = done_acts same_continues
after_label_acts l (same_returns q) = done_acts (same_returns q)
after_label_acts l (same_throws q) = done_acts (same_throws q)

pub after_switch_acts : {w : World} {c d : Completion} → SameCompletion w c d → Acts w (after_switch c) (after_switch d)
after_switch_acts (same_breaks {o = None}) = normal_acts
after_switch_acts (same_breaks {o = Some m}) = done_acts same_breaks
after_switch_acts same_normal = normal_acts
after_switch_acts (same_gives q o) = done_acts (same_gives q o)
after_switch_acts (same_gives_all q) = done_acts (same_gives_all q)
after_switch_acts (same_refers q) = done_acts (same_refers q)
after_switch_acts same_continues = done_acts same_continues
after_switch_acts (same_returns q) = done_acts (same_returns q)
after_switch_acts (same_throws q) = done_acts (same_throws q)

pub after_turn_acts : {w : World} {c d : Completion} {m k : M} (ls : List Text) → SameCompletion w c d → Acts w m k → Acts w (after_turn ls m c) (after_turn ls k d)
after_turn_acts ls same_normal a = a
after_turn_acts ls (same_continues {o = None}) a = a
after_turn_acts ls (same_continues {o = Some m}) a = choose_acts refl a (done_acts same_continues)
after_turn_acts ls (same_breaks {o = None}) a = normal_acts
after_turn_acts ls (same_breaks {o = Some m}) a = done_acts same_breaks
after_turn_acts ls (same_returns q) a = done_acts (same_returns q)
after_turn_acts ls (same_throws q) a = done_acts (same_throws q)
after_turn_acts ls (same_gives q o) a = unknown_acts
after_turn_acts ls (same_gives_all q) a = unknown_acts
after_turn_acts ls (same_refers q) a = unknown_acts

pub after_finally_acts : {w : World} {a b c d : Completion} → SameCompletion w a b → SameCompletion w c d → Acts w (after_finally a c) (after_finally b d)
after_finally_acts x same_normal = done_acts x
after_finally_acts x (same_gives q o) = done_acts (same_gives q o)
after_finally_acts x (same_gives_all q) = done_acts (same_gives_all q)
after_finally_acts x (same_refers q) = done_acts (same_refers q)
after_finally_acts x same_breaks = done_acts same_breaks
after_finally_acts x same_continues = done_acts same_continues
after_finally_acts x (same_returns q) = done_acts (same_returns q)
after_finally_acts x (same_throws q) = done_acts (same_throws q)

pub after_block_acts : {w : World} {st : Names} {o p : Option Meaning} {e f : Env} {c d : Completion} → SomeMeans (for_value itself) st o p → Envs w st e f → SameCompletion w c d → Acts w (after_block o e c) (after_block p f d)
after_block_acts no_part r q = done_acts q
after_block_acts (part m) r (same_throws q) = m.mean r (same_take q)
after_block_acts (part m) r same_normal = normal_acts
after_block_acts (part m) r (same_gives q o) = done_acts (same_gives q o)
after_block_acts (part m) r (same_gives_all q) = done_acts (same_gives_all q)
after_block_acts (part m) r (same_refers q) = done_acts (same_refers q)
after_block_acts (part m) r same_breaks = done_acts same_breaks
after_block_acts (part m) r same_continues = done_acts same_continues
after_block_acts (part m) r (same_returns q) = done_acts (same_returns q)

pub try_acts : {w : World} {st : Names} {m k : Meaning} {h i f g : Option Meaning} {e d : Env} → Means (for_value itself) st m k → SomeMeans (for_value itself) st h i → SomeMeans (for_value itself) st f g → Envs w st e d → Acts w (try_does m h f e) (try_does k i g d)
try_acts b h f r =
    bind_acts (bind_acts (b.mean r same_run) (λ w2 c d i q. after_block_acts h (envs_later i r) q)) (λ w2 c d i q.
    bind_acts (ask_maybe_acts f (envs_later i r) same_run) (λ w3 x y j o. after_finally_acts (completion_later j q) o))

pub after_call_acts : {w : World} {c d : Completion} → SameCompletion w c d → Acts w (after_call c) (after_call d)
after_call_acts same_normal = give_acts same_plain
after_call_acts (same_returns q) = give_acts q
after_call_acts (same_gives q o) = give_acts q
after_call_acts (same_throws q) = done_acts (same_throws q)
after_call_acts (same_gives_all q) = unknown_acts
after_call_acts (same_refers q) = unknown_acts
after_call_acts same_breaks = unknown_acts
after_call_acts same_continues = unknown_acts

-- cases

pub case_is_acts : {w : World} {v u : Value} {a b c d e f : M} → Same w v u → Acts w a d → Acts w b e → Acts w c f → Acts w (case_is v a b c) (case_is u d e f)
case_is_acts (same_plain {p = boolean true}) x y z = x
case_is_acts (same_plain {p = boolean false}) x y z = y
case_is_acts same_plain x y z = z
case_is_acts (same_closure l d r) x y z = z
case_is_acts (same_object l c) x y z = z
case_is_acts (same_array l c) x y z = z
case_is_acts (same_error l) x y z = z

pub choose_case_acts : {st : Names} {w : World} {ms ks : Parts} {e f : Env} {v u : Value} {m k : M} → Fields for_values st ms ks → Same w v u → Envs w st e f → Acts w m k → Acts w (choose_case ms v e m) (choose_case ks u f k)
unfolding choose_case
choose_case_acts {w = w} fields_end q r a = a
choose_case_acts {w = w} (fields_more no_part c) q r a = unknown_acts
choose_case_acts {w = w} (fields_more (part m) c) q r a =
    value_acts (m.mean r (same_matches q)) (λ w2 v u h x.
    case_is_acts x (each_acts (fields_more (part m) c) (envs_later h r) same_run) (choose_case_acts {w = w2} c (same_later h q) (envs_later h r) (acts_later h a)) (choose_case_acts {w = w2} c (same_later h q) (envs_later h r) (each_acts (fields_more (part m) c) (envs_later h r) same_run)))

pub case_test_acts : {w : World} {st : Names} {o p : Option Meaning} {e f : Env} {v u : Value} → Same w v u → SomeMeans (for_value itself) st o p → Envs w st e f → Acts w (case_test v o e) (case_test u p f)
case_test_acts q no_part r = give_acts same_plain
case_test_acts q (part m) r = value_acts (m.mean r same_now) (λ w2 v u h x. binary_of_acts binary.StrictEquality (same_later h q) x)

-- declarators

pub declarator_acts : {w : World} {st : Names} {m k : Meaning} {o p : Option Meaning} {e f : Env} (how : VariableKind) → Means (for_value itself) st m k → SomeMeans (for_value itself) st o p → Envs w st e f → Acts w (declarator how m o e) (declarator how k p f)
declarator_acts how m (part n) r = value_acts (n.mean r same_now) (λ w2 v u i x. m.mean (envs_later i r) (same_take x))
declarator_acts variable.Var m no_part r = normal_acts
declarator_acts variable.Let m no_part r = m.mean r (same_take same_plain)
declarator_acts variable.Const m no_part r = m.mean r (same_take same_plain)
