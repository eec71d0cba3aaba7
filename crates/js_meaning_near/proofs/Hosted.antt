-- What asks the host or enters: it keeps the relation where entering does.
use Rattle.std.proofs.Common.{◌≡◌, ℕ, List, [], ◌∷◌, Option}
use Rattle.std.specs.Prelude.{Bool, true, false}
use Rattle.js_syntax.specs.Node.{Forest}
use Rattle.js_syntax.specs.declared.operator.BinaryOperator.{BinaryOperator}
use Rattle.js_syntax.specs.declared.operator.BinaryOperator.TheVariants as binary
use Rattle.js_syntax.specs.declared.operator.LogicalOperator.{LogicalOperator}
use Rattle.js_syntax.specs.declared.operator.LogicalOperator.TheVariants as logical
use Rattle.js_syntax.specs.declared.operator.UpdateOperator.{UpdateOperator}
use Rattle.js_syntax.specs.declared.operator.AssignmentOperator.{AssignmentOperator}
use Rattle.js_syntax.specs.declared.operator.AssignmentOperator.TheVariants as assignment
use Rattle.js_meaning.specs.Value.{Text, Env, Value, plain, host, type_error, given_own, Shown}
use Rattle.js_meaning.specs.Trace.{Act, Move, call_own, set_global_to, remove_global, set_import_to, answer, refuse, Ending}
use Rattle.js_meaning.specs.State.{M, Completion, Place}
use Rattle.js_meaning.specs.Operator.{is_object, is_boolean}
use Rattle.js_meaning.specs.Host.{Loop, while_loop, do_loop, for_loop, Enter, call_back, moves_end, answered, play, host_moves, consult, only, report}
use Rattle.js_meaning.specs.Reference.{global_named, get_member, set_member, get_place, put_place}
use Rattle.js_meaning.specs.Node.{itself, Meaning, Parts}
use Rattle.js_meaning.specs.Expression.{call_value, construct_value, ask_host, binary_value, logical_value, then_put, compound, short, assign, update_gives, update_place}
use Rattle.js_meaning.specs.Statement.{enter_if, test_for, test_then, turn_does}
use Rattle.js_meaning_near.specs.Names.{Names}
use Rattle.js_meaning_near.specs.Near.{fields, Near}
use Rattle.js_meaning_near.specs.Purpose.{for_value, loop_purposes}
use Rattle.js_meaning_near.proofs.Worlds.{World, Sub, same, later}
use Rattle.js_meaning_near.proofs.Relations.{Envs, Same, same_plain, same_closure, same_object, same_array, same_error, same_none, same_some, SameAll, SamePlace, same_at_slot, same_at_global, same_at_member, SameCompletion, same_normal, same_gives, same_gives_all, same_refers, same_breaks, same_continues, same_returns, same_throws, same_run, Acts, LoopHead, same_body, same_turn, same_back, Enters, envs_later, same_later, place_later}
use Rattle.js_meaning_near.proofs.Acts.{acts_later, bind_acts, done_acts, stop_acts, unknown_acts, choose_acts, give_acts, normal_acts, value_acts, raise_acts, set_global_acts, set_import_acts, moves_acts, set_moves_acts}
use Rattle.js_meaning_near.proofs.Showing.{show_acts, show_all_acts, emit_acts, resolve_acts, resolve_all_acts, resolve_maybe_acts}
use Rattle.js_meaning_near.proofs.Scopes.{slot_value_acts, global_there_acts, assign_slot_acts, assign_global_acts, copy_acts}
use Rattle.js_meaning_near.proofs.Operators.{truthy_same, object_same, boolean_same, other_same, either_other, goes_right_same, number_acts, binary_of_acts, updated_acts}
use Rattle.js_meaning_near.proofs.Rows.{same_now, SomeMeans, no_part, part, Fields, need_acts, may_acts, or_nothing_acts, after_turn_acts}

pub only_acts : {w : World} {m k : M} (test : Value → Bool) → ((w2 : World) (v u : Value) → Same w2 v u → test v ≡ test u) → Acts w m k → Acts w (only test m) (only test k)
only_acts test e a = value_acts a (λ w2 v u h q. choose_acts (e w2 v u q) (give_acts q) (stop_acts Ending.host_stopped))

pub logical_acts : {w : World} {v u : Value} {m k : M} (o : LogicalOperator) → Same w v u → Acts w m k → Acts w (logical_value o v m) (logical_value o u k)
logical_acts o q a = choose_acts (goes_right_same o q) a (give_acts q)

update_gives_acts : {w : World} {v u x y : Value} (b : Bool) → Same w v u → Same w x y → Acts w (update_gives b v x) (update_gives b u y)
update_gives_acts true q o = give_acts o
update_gives_acts false q o = give_acts q

pub report_acts : {w : World} {c d : Completion} {m k : M} → SameCompletion w c d → Acts w m k → Acts w (report m c) (report k d)
report_acts (same_gives q o) a = show_acts q (λ x. emit_acts (Act.returned x) a)
report_acts (same_throws q) a = show_acts q (λ x. emit_acts (Act.threw x) a)
report_acts same_normal a = unknown_acts
report_acts (same_gives_all q) a = unknown_acts
report_acts (same_refers q) a = unknown_acts
report_acts same_breaks a = unknown_acts
report_acts same_continues a = unknown_acts
report_acts (same_returns q) a = unknown_acts

module _ (E : Enter) (enters : Enters E) where
  -- the host's moves

  call_back_acts : {w : World} {x y : Value} {vs us : List Value} {v u : Value} (k : Bool) → Same w x y → SameAll w vs us → Same w v u → Acts w (call_back E k x vs v) (call_back E k y us u)
  call_back_acts k o q (same_closure l d r) = enters.entered (same_back d r o q)
  call_back_acts k o q same_plain = stop_acts Ending.host_stopped
  call_back_acts k o q (same_object l c) = stop_acts Ending.host_stopped
  call_back_acts k o q (same_array l c) = stop_acts Ending.host_stopped
  call_back_acts k o q (same_error l) = stop_acts Ending.host_stopped

  end_acts : {w : World} (k : Bool) → Acts w (moves_end k) (moves_end k)
  end_acts true = stop_acts Ending.host_stopped
  end_acts false = normal_acts

  answered_acts : {w : World} {c d : Completion} {m n : M} (k : Bool) → SameCompletion w c d → Acts w m n → Acts w (answered k c m) (answered k d n)
  answered_acts true q a = done_acts q
  answered_acts false q a = a

  play_acts : {w : World} (k : Bool) (ms : List Move) → Acts w (play E k ms) (play E k ms)
  unfolding play
  play_acts {w = w} k [] = end_acts k
  play_acts {w = w} k (call_own n x xs ∷ ms) = set_moves_acts ms (resolve_acts (given_own n) (λ w2 v u h q. resolve_acts x (λ w3 y z g o. resolve_all_acts xs (λ w4 vs us i qs. call_back_acts k (same_later i o) qs (same_later (later g i) q)))))
  play_acts {w = w} k (set_global_to x v ∷ ms) = resolve_acts v (λ w2 v u h q. set_global_acts x (same_some q) (play_acts {w = w2} k ms))
  play_acts {w = w} k (remove_global x ∷ ms) = set_global_acts x same_none (play_acts {w = w} k ms)
  play_acts {w = w} k (set_import_to source x v ∷ ms) = resolve_maybe_acts v (λ w2 v u h q. set_import_acts source x q (play_acts {w = w2} k ms))
  play_acts {w = w} k (answer v ∷ ms) = resolve_acts v (λ w2 v u h q. set_moves_acts ms (answered_acts k (same_gives q same_plain) (play_acts {w = w2} k ms)))
  play_acts {w = w} k (refuse v ∷ ms) = resolve_acts v (λ w2 v u h q. set_moves_acts ms (answered_acts k (same_throws q) (play_acts {w = w2} k ms)))

  pub host_acts : {w : World} (k : Bool) → Acts w (host_moves E k) (host_moves E k)
  host_acts k = moves_acts (λ ms. play_acts k ms)

  pub consult_acts : {w : World} (x : Act) → Acts w (consult E x) (consult E x)
  consult_acts x = emit_acts x (host_acts true)

  -- calls

  callable_acts : {w : World} {x y : Value} {vs us : List Value} (h : ℕ) (callable : Bool) → Same w x y → SameAll w vs us → Acts w (call_value E (plain (host h callable)) x vs) (call_value E (plain (host h callable)) y us)
  callable_acts h true o q = show_acts same_plain (λ x. show_acts o (λ y. show_all_acts q (λ ys. consult_acts (Act.call x y ys))))
  callable_acts h false o q = raise_acts type_error

  pub call_acts : {w : World} {x y : Value} {vs us : List Value} {v u : Value} → Same w v u → Same w x y → SameAll w vs us → Acts w (call_value E v x vs) (call_value E u y us)
  call_acts (same_closure l d r) o q = enters.entered (same_body d r o q)
  call_acts (same_plain {p = host h callable}) o q = callable_acts h callable o q
  call_acts same_plain o q = raise_acts type_error
  call_acts (same_object l c) o q = raise_acts type_error
  call_acts (same_array l c) o q = raise_acts type_error
  call_acts (same_error l) o q = raise_acts type_error

  pub construct_acts : {w : World} {v u : Value} {vs us : List Value} → Same w v u → SameAll w vs us → Acts w (construct_value E v vs) (construct_value E u us)
  construct_acts q qs = choose_acts (other_same q) unknown_acts (show_acts q (λ x. show_all_acts qs (λ xs. only_acts is_object (λ w2 v u q. object_same q) (consult_acts (Act.construct x xs)))))

  ask_host_acts : {w : World} {v u x y : Value} (act : Shown → Shown → Act) → Same w v u → Same w x y → Acts w (ask_host E act v x) (ask_host E act u y)
  ask_host_acts act p q = show_acts p (λ x. show_acts q (λ y. only_acts is_boolean (λ w2 v u q. boolean_same q) (consult_acts (act x y))))

  pub binary_acts : {w : World} {v u x y : Value} (o : BinaryOperator) → Same w v u → Same w x y → Acts w (binary_value E o v x) (binary_value E o u y)
  binary_acts binary.In p q = choose_acts (either_other p q) unknown_acts (ask_host_acts Act.asks_in p q)
  binary_acts binary.Instanceof p q = choose_acts (either_other p q) unknown_acts (ask_host_acts Act.asks_instanceof p q)
  binary_acts o p q = binary_of_acts o p q

  -- places

  get_member_acts : {w : World} {v u x y : Value} → Same w v u → Same w x y → Acts w (get_member E v x) (get_member E u y)
  get_member_acts p q = show_acts p (λ x. show_acts q (λ y. consult_acts (Act.get x y)))

  set_member_acts : {w : World} {v u x y a b : Value} → Same w v u → Same w x y → Same w a b → Acts w (set_member E v x a) (set_member E u y b)
  set_member_acts p q o = show_acts p (λ x. show_acts q (λ y. show_acts o (λ z. value_acts (consult_acts (Act.set x y z)) (λ w2 c d h r. give_acts (same_later h o)))))

  pub get_place_acts : {w : World} {p q : Place} → SamePlace w p q → Acts w (get_place E p) (get_place E q)
  get_place_acts (same_at_slot l) = slot_value_acts tt l
  get_place_acts (same_at_global {x = x}) = global_there_acts x
  get_place_acts (same_at_member p q) = get_member_acts p q

  pub put_place_acts : {w : World} {p q : Place} {v u : Value} → SamePlace w p q → Same w v u → Acts w (put_place E p v) (put_place E q u)
  put_place_acts (same_at_slot l) r = assign_slot_acts l r
  put_place_acts (same_at_global {x = x} {there = there}) r = assign_global_acts (global_named x) x there r
  put_place_acts (same_at_member p q) r = set_member_acts p q r

  then_put_acts : {w : World} {p q : Place} {m k : M} → SamePlace w p q → Acts w m k → Acts w (then_put E p m) (then_put E q k)
  then_put_acts l a = value_acts a (λ w2 v u h r. put_place_acts (place_later h l) r)

  compound_acts : {w : World} {p q : Place} {m k : M} (o : BinaryOperator) → SamePlace w p q → Acts w m k → Acts w (compound E o p m) (compound E o q k)
  compound_acts o l a = value_acts (get_place_acts l) (λ w2 v u h r. value_acts (acts_later h a) (λ w3 x y i s. then_put_acts (place_later (later h i) l) (binary_of_acts o (same_later i r) s)))

  short_acts : {w : World} {p q : Place} {m k : M} (o : LogicalOperator) → SamePlace w p q → Acts w m k → Acts w (short E o p m) (short E o q k)
  short_acts o l a = value_acts (get_place_acts l) (λ w2 v u h r. logical_acts o r (then_put_acts (place_later h l) (acts_later h a)))

  pub assign_acts : {w : World} {p q : Place} {m k : M} (o : AssignmentOperator) → SamePlace w p q → Acts w m k → Acts w (assign E o p m) (assign E o q k)
  assign_acts assignment.Assign l a = then_put_acts l a
  assign_acts assignment.Addition l a = compound_acts binary.Addition l a
  assign_acts assignment.Subtraction l a = compound_acts binary.Subtraction l a
  assign_acts assignment.Multiplication l a = compound_acts binary.Multiplication l a
  assign_acts assignment.Division l a = compound_acts binary.Division l a
  assign_acts assignment.Remainder l a = compound_acts binary.Remainder l a
  assign_acts assignment.LogicalAnd l a = short_acts logical.And l a
  assign_acts assignment.LogicalOr l a = short_acts logical.Or l a
  assign_acts assignment.LogicalNullish l a = short_acts logical.Coalesce l a
  assign_acts _ l a = unknown_acts

  pub update_acts : {w : World} {p q : Place} (o : UpdateOperator) (prefix : Bool) → SamePlace w p q → Acts w (update_place E o prefix p) (update_place E o prefix q)
  update_acts o prefix l =
      value_acts (get_place_acts l) (λ w2 v u h r. value_acts (number_acts r (updated_acts o)) (λ w3 x y i s.
      value_acts (put_place_acts (place_later (later h i) l) s) (λ w4 a b j t. update_gives_acts prefix (same_later (later i j) r) (same_later j s))))

  -- loops

  enter_if_acts : {w : World} {st : Names} {a b : Forest} {e f : Env} {v u : Value} (l : Loop) (ls : List Text) → LoopHead l st a b → Near (loop_purposes l) fields st a b → Envs w st e f → Same w v u → Acts w (enter_if E l a ls e v) (enter_if E l b ls f u)
  enter_if_acts l ls h n r q = choose_acts (truthy_same q) (enters.entered (same_turn h n r)) normal_acts

  test_for_acts : {w : World} {st : Names} {o p : Option Meaning} {e f : Env} {j k : Value → M} → SomeMeans (for_value itself) st o p → Envs w st e f → ((w2 : World) (v u : Value) → Sub w w2 → Same w2 v u → Acts w2 (j v) (k u)) → Acts w (test_for o e j) (test_for p f k)
  test_for_acts {w = w} no_part r b = b w _ _ (same w) same_plain
  test_for_acts (part m) r b = value_acts (m.mean r same_now) b

  pub test_then_acts : {w : World} {st : Names} {a b : Forest} {ms ks : Parts} {e f : Env} (l : Loop) (ls : List Text) → LoopHead l st a b → Near (loop_purposes l) fields st a b → Fields (loop_purposes l) st ms ks → Envs w st e f → Acts w (test_then E l a ms ls e) (test_then E l b ks ls f)
  test_then_acts while_loop ls h n c r = need_acts c (λ m k ns us x c. value_acts (x.mean r same_now) (λ w2 v u i q. enter_if_acts while_loop ls h n (envs_later i r) q))
  test_then_acts do_loop ls h n c r = need_acts c (λ m k ns us x c. need_acts c (λ m k ns us x c. value_acts (x.mean r same_now) (λ w2 v u i q. enter_if_acts do_loop ls h n (envs_later i r) q)))
  test_then_acts for_loop ls h n c r = may_acts c (λ m k ns us x c. may_acts c (λ m k ns us x c. test_for_acts x r (λ w2 v u i q. enter_if_acts for_loop ls h n (envs_later i r) q)))

  pub turn_acts : {w : World} {st : Names} {a b : Forest} {ms ks : Parts} {e f : Env} (l : Loop) (ls : List Text) → LoopHead l st a b → Near (loop_purposes l) fields st a b → Fields (loop_purposes l) st ms ks → Envs w st e f → Acts w (turn_does E l a ms ls e) (turn_does E l b ks ls f)
  turn_acts while_loop ls h n c r = need_acts c (λ m k ns us x d. need_acts d (λ m k ns us x d. bind_acts (x.mean r same_run) (λ w2 v u i q. after_turn_acts ls q (test_then_acts while_loop ls h n c (envs_later i r)))))
  turn_acts do_loop ls h n c r = need_acts c (λ m k ns us x d. bind_acts (x.mean r same_run) (λ w2 v u i q. after_turn_acts ls q (test_then_acts do_loop ls h n c (envs_later i r))))
  turn_acts for_loop ls h n c r =
      may_acts c (λ m k ns us x d. may_acts d (λ m k ns us x d. may_acts d (λ m k ns us z d. need_acts d (λ m k ns us x d.
      bind_acts (x.mean r same_run) (λ w2 v u i q. after_turn_acts ls q (copy_acts h (envs_later i r) (λ w3 e f g r2. or_nothing_acts z r2 (λ w4 v u j. test_then_acts for_loop ls h n c (envs_later j r2)))))))))
