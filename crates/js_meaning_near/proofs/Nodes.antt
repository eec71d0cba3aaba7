-- What the nodes do, in both runs, where what lies below them does the same.
use Rattle.std.proofs.Common.{◌≡◌, List, [], ◌∷◌, Option, Some, None, refl, sym, ap, ◌∙◌, subst}
use Rattle.std.specs.Prelude.{Bool, true, false, if◌then◌else◌}
use Rattle.std.specs.Str.{bytes_eq}
use Rattle.js_syntax.specs.declared.node_kind.NodeKind.{NodeKind as Kind}
use Rattle.js_syntax.specs.Node.{Note, Forest, nothing, node, absent, below_of}
use Rattle.js_syntax.specs.declared.kind.FunctionKind.{FunctionKind}
use Rattle.js_syntax.specs.declared.kind.FunctionKind.TheVariants as function_kind
use Rattle.js_syntax.specs.declared.value.LiteralValue.{LiteralValue as Literal}
use Rattle.js_meaning.specs.Value.{Text, Env, this_name, Value, closure, literal_value, Content, no_content, property}
use Rattle.js_meaning.specs.State.{M, normal, done, give, with_value}
use Rattle.js_meaning.specs.Scope.{waiting, first_of, first_name, named_so, name_or_default, default_name, lexical, look, fill, start_function, start_default, start_item, start, own_name}
use Rattle.js_meaning.specs.Host.{while_loop, do_loop, for_loop, Enter}
use Rattle.js_meaning.specs.Node.{Wanted, itself, to_call, for_typeof, Ask, now, Meaning, Parts, ask_by, is_statement, first_ask}
use Rattle.js_meaning.specs.Expression.{receiver_of, fill_own, function_value, with_property, add_property, object_content, array_content}
use Rattle.js_meaning.specs.Statement.{for_does, catch_does}
use Rattle.js_meaning.specs.Meaning.{default_does, does}
use Rattle.js_meaning_near.specs.Names.{known, silent_function, unread, Names, Fillable, FillableIf, Decls, Copied, declared, names_below, Fact, exactly, owed_function, OfCalls}
use Rattle.js_meaning_near.specs.Near.{Idle, idle_empty, idle_expression, idle_no_expression, idle_waste, idle_statement, idle_function, idle_declarator, idle_bare_declarator, idle_cut_declarator, idle_declaration, statement_emptied, no_statement_emptied, value_read, SilentCode, near_silent, Row, fields, switch_fields, items, row_below, HoldsCases, Okay, key_of, keys, Heads, IsClosure, hoists_nothing, Unreached, goes_here, goes_behind, goes_behind_none, Near, value_stays, behind_jump, wastes_more, one_sided, shorter, comes_to, near_nothing, near_absent, near_node, near_closure, near_hoisted, near_unread, near_known, near_uncovered, near_import, changed, same_effects, leaves, Code, sign_applied, idle_import, idle_export, near_while, near_do, near_for}
use Rattle.js_meaning_near.specs.Wasted.{IsSilent, Meets}
use Rattle.js_meaning_near.specs.Purpose.{Purpose, for_value, for_effect, ForEffect, Purposes, for_values, loop_purposes, wanted_below}
use Rattle.js_meaning_near.proofs.Worlds.{World}
use Rattle.js_meaning_near.proofs.Relations.{At, Envs, Same, same_plain, same_closure, same_object, same_array, SameContent, same_empty, same_element, same_property, SameAll, all_nil, all_cons, same_gives, same_refers, same_at_member, same_breaks, same_continues, same_returns, same_throws, SameAsk, ActsForEffect, same_run, same_value, same_place, same_take, same_take_all, same_declares, same_collect, same_entry, same_matches, Acts, Means, same_turn, Enters, envs_later, same_later, all_later}
use Rattle.js_meaning_near.proofs.Acts.{acts_later, bind_acts, done_acts, unknown_acts, choose_acts, give_acts, normal_acts, seq_acts, receiver_acts, value_acts, all_acts, place_acts, identity_acts, identity_left, identity_right}
use Rattle.js_meaning_near.proofs.Scopes.{envs_bind, declare_acts, fill_acts, fill_old, fill_meeting, fill_unread, name_value_acts, typeof_name_acts, name_place_acts, copy_acts}
use Rattle.js_meaning_near.proofs.Effects.{effects_act, choice_effects, value_effects}
use Rattle.js_meaning_near.proofs.Branches.{blunt_hoists}
use Rattle.js_meaning_near.proofs.Operators.{truthy_same, goes_right_same, unary_of_acts}
use Rattle.js_meaning_near.proofs.Rows.{same_now, Fields, Rows, need_acts, may_acts, all_values_acts, or_undefined_acts, ask_maybe_acts, take_maybe_acts, in_turn_acts, in_turn_effect, need_effect, take_each_acts, member_place_acts, after_init_acts, after_label_acts, after_switch_acts, try_acts, choose_case_acts, case_test_acts, declarator_acts}
use Rattle.js_meaning_near.proofs.Hosted.{logical_acts, call_acts, construct_acts, binary_acts, get_place_acts, assign_acts, update_acts, test_then_acts}

pub true_false : true ≡ false → ⊥
true_false e = cc

-- functions that a scope starts

hoisted_acts : {w : World} {st : Names} {a b : Forest} {e f : Env} {m k : M} (o p : Option Text) → o ≡ p → FillableIf st o → Code st function_kind.Declaration a b → Envs w st e f → Acts w m k → Acts w (start_function o a e m) (start_function p b f k)
hoisted_acts {w = w} {st = st} {a = a} {b = b} {e = e} {f = f} {m = m} {k = k} o p x y d r z = subst (λ p. Acts w (start_function o a e m) (start_function p b f k)) x (go o y)
  where
    go : (o : Option Text) → FillableIf st o → Acts w (start_function o a e m) (start_function o b f k)
    go None y = z
    go (Some n) y = identity_acts (λ w2 i j h l. fill_acts ((envs_later h r).at n) y (same_closure l d (envs_later h r)) (acts_later h z))

-- one that nothing looks up starts on either side with what it is there
unread_acts : {w : World} {st : Names} {e f : Env} {m k : M} (x : Text) (a b : Forest) (o p : Option Text) → st x ≡ unread → o ≡ Some x → p ≡ Some x → Envs w st e f → Acts w m k → Acts w (start_function o a e m) (start_function p b f k)
unread_acts {w = w} {st = st} {e = e} {f = f} {m = m} {k = k} x a b o p y g h r z = rw (g, h) (identity_left (λ i. identity_right (λ j. fill_unread _ _ (subst (λ t. At w t (look e x) (look f x)) y (r.at x)) z)))

-- one whose calls do nothing but give a value, where that is known of its name
meets_calls : (g : Fact) (v : Value) → OfCalls g → IsSilent v → Meets g v
meets_calls (exactly p) v y q = absurd y
meets_calls silent_function v y q = q
meets_calls owed_function v y q = q

silent_acts : {w : World} {st : Names} {a b : Forest} {e f : Env} {m k : M} (g : Fact) (x : Text) (o p : Option Text) → OfCalls g → st x ≡ known g → o ≡ Some x → p ≡ Some x → SilentCode st a → Code st function_kind.Declaration a b → Envs w st e f → Acts w m k → Acts w (start_function o a e m) (start_function p b f k)
silent_acts {st = st} {a = a} {e = e} {f = f} u x o p c y g h q d r z = rw (g, h) (identity_acts (λ w2 i j n l. fill_meeting (subst (λ t. At w2 t (look e x) (look f x)) y ((envs_later n r).at x)) (meets_calls u (closure i function_kind.Declaration a e) c (λ E this vs. q.silent_code E e (envs_bind r) this vs)) (same_closure l d (envs_later n r)) (acts_later n z)))

fillable_default : (st : Names) (o : Option Text) → FillableIf st o → Fillable (st default_name) → Fillable (st (name_or_default o))
fillable_default st None x y = y
fillable_default st (Some n) x y = x

named_default : (o : Option Text) (x : Text) → o ≡ Some x → Some (name_or_default o) ≡ Some x
named_default o x e = rw e refl

-- what such nodes neither start nor give by default
pub starts_nothing : (k : Kind) (a : Forest) (i : M → M) (e : Env) (m : M) → hoists_nothing k ≡ true → start_item k a i e m ≡ m
starts_nothing (Kind.Function function_kind.Declaration pure) a i e m h = absurd (true_false (sym h))
starts_nothing (Kind.ExportNamedDeclaration None) a i e m h = absurd (true_false (sym h))
starts_nothing Kind.ExportDefaultDeclaration a i e m h = absurd (true_false (sym h))
starts_nothing Kind.FunctionBody a i e m h = absurd (true_false (sym h))
starts_nothing Kind.Statements a i e m h = absurd (true_false (sym h))
starts_nothing Kind.Cases a i e m h = absurd (true_false (sym h))
starts_nothing Kind.SwitchCase a i e m h = absurd (true_false (sym h))
starts_nothing k a i e m h = refl

starts_no_default : (k : Kind) (n : Note) (a c : Forest) (i : M → M) (e : Env) (m : M) → hoists_nothing k ≡ true → start_default (node k n a c) i e m ≡ i m
starts_no_default (Kind.Function function_kind.Declaration pure) n a c i e m h = absurd (true_false (sym h))
starts_no_default k n a c i e m h = refl

gives_default : (k : Kind) (n : Note) (a c : Forest) (m : Meaning) (e : Env) → hoists_nothing k ≡ true → default_does (node k n a c) m e ≡ with_value (m now e) (λ v. fill (look e default_name) v (done normal))
gives_default (Kind.Function function_kind.Declaration pure) n a c m e h = absurd (true_false (sym h))
gives_default k n a c m e h = refl

no_statement : (k : Kind) → hoists_nothing k ≡ true → is_statement k ≡ false
no_statement (Kind.VariableDeclaration how) h = absurd (true_false (sym h))
no_statement Kind.FunctionBody h = absurd (true_false (sym h))
no_statement k h = refl

-- `export default` of a function starts it under its name or the default one; of anything else what lies inside
default_starts : {w : World} {us : Purposes} {st : Names} {a b : Forest} {e f : Env} {m k : M} (i j : M → M) → Near us fields st a b → Fillable (st default_name) → Envs w st e f → Acts w (i m) (j k) → Acts w m k → Acts w (start_default a i e m) (start_default b j f k)
default_starts i j near_nothing y r x z = x
default_starts i j (near_absent c) y r x z = x
default_starts i j (near_node {k = Kind.Function g pure} o d h a c) y r x z = absurd o
default_starts i j (near_node o d h a c) y r x z = x
default_starts i j (near_closure {f = function_kind.Declaration} n q d o a c) y r x z = absurd n
default_starts i j (near_closure {f = function_kind.Expression} n q d o a c) y r x z = x
default_starts i j (near_closure {f = function_kind.Arrow} n q d o a c) y r x z = x
default_starts {st = st} i j (near_hoisted {a = a} {b = b} q o d c) y r x z = hoisted_acts (Some (name_or_default (first_name a))) (Some (name_or_default (first_name b))) (ap (λ o. Some (name_or_default o)) q) (fillable_default st (first_name a) o y) d r z
default_starts i j (near_unread {x = n} {a = a} {b = b} q g h c) y r x z = unread_acts n a b _ _ q (named_default (first_name a) n g) (named_default (first_name b) n h) r z
default_starts i j (near_silent {x = n} {g = l} {a = a} {b = b} o q g h u d c) y r x z = silent_acts l n _ _ o q (named_default (first_name a) n g) (named_default (first_name b) n h) u d r z
default_starts i j (near_known q v c) y r x z = x
default_starts i j (near_uncovered {k = Kind.Function function_kind.Declaration pure} o c) y r x z = absurd (true_false o)
default_starts i j (near_uncovered {k = Kind.Function function_kind.Expression pure} o c) y r x z = absurd (true_false o)
default_starts i j (near_uncovered {k = Kind.Function function_kind.Arrow pure} o c) y r x z = absurd (true_false o)
default_starts i j (near_uncovered o c) y r x z = x
default_starts i j (near_import c) y r x z = x
default_starts i j (near_while v q o c) y r x z = x
default_starts i j (near_do v q o c) y r x z = x
default_starts i j (near_for v q d h o c) y r x z = x
default_starts i j (changed (statement_emptied q) c) y r x z = x
default_starts i j (changed (no_statement_emptied q) c) y r x z = x
default_starts i j (changed (value_read q v) c) y r x z = x
default_starts {f = f} {k = k} i j (same_effects {l = l} {m = o} {b = b} {d = d} q t u) y r x z = rw (starts_no_default l o b d j f k q.new_hoists) x
default_starts {e = e} {f = f} {m = m} {k = k} i j (comes_to {k = g} {l = l} {n = n} {m = o} {a = a} {b = b} {c = c} {d = d} q t u) y r x z = rw (starts_no_default g n a c i e m q.old_hoists, starts_no_default l o b d j f k q.new_hoists) x
default_starts i j (changed (sign_applied q) c) y r x z = x
default_starts {e = e} {f = f} {m = m} {k = k} i j (wastes_more {k = g} {l = l} {n = n} {m = o} {a = a} {b = b} {c = c} {d = d} h q t u) y r x z = rw (starts_no_default g n a c i e m (blunt_hoists g q.old_blunt), starts_no_default l o b d j f k q.new_hoists) x
default_starts i j (one_sided h q t u) y r x z = x
default_starts i j (shorter q t u) y r x z = x

-- a switch's cases start in a scope of their own
abbrev pub Starts : Row → Type 0
Starts switch_fields = ⊥
Starts _ = Unit {0}

pub no_cases : (p : Row) → HoldsCases p → Starts p → ⊥
no_cases fields h s = h
no_cases switch_fields h s = s
no_cases items h s = h

idle_starts : {w : World} {st : Names} {k : Kind} {a : Forest} {e f : Env} {m n : M} → Idle st k a → Envs w st e f → Acts w m n → Acts w (start_item k a (start a e) e m) n
unfolding start
idle_starts idle_empty r x = x
idle_starts (idle_expression q) r x = x
idle_starts {w = w} {k = k} {a = a} {e = e} {m = m} {n = n} (idle_statement d) r x = subst (λ z. Acts w z n) (sym (starts_nothing k a (start a e) e m d.hoists)) x
idle_starts (idle_function {x = n} d) r x = identity_left (λ i. fill_old _ d (r.at n) x)
idle_starts (idle_no_expression y) r x = x
idle_starts (idle_waste y) r x = x
idle_starts idle_import r x = x
idle_starts idle_export r x = x
idle_starts idle_cut_declarator r x = x
idle_starts (idle_declarator d q) r x = x
idle_starts (idle_bare_declarator d) r x = x
idle_starts (idle_declaration q) r x = x

unreached_starts : {c e : Forest} (env : Env) (m : M) → Unreached c e → start c env m ≡ start e env m
unfolding start
unreached_starts env m (goes_here {k = k} {a = a} {r = r} h) = starts_nothing k a (start a env) env (start r env m) h
unreached_starts env m (goes_behind {k = k} {a = a} u) = ap (λ x. start_item k a (start a env) env x) (unreached_starts env m u)
unreached_starts env m (goes_behind_none u) = unreached_starts env m u

pub start_acts : {us : Purposes} {p : Row} {st : Names} {a b : Forest} {w : World} {e f : Env} {m k : M} → Starts p → Near us p st a b → Envs w st e f → Acts w m k → Acts w (start a e m) (start b f k)
unfolding start
start_acts s near_nothing r x = x
start_acts s (near_absent c) r x = start_acts s c r x
start_acts s (near_node {k = Kind.Statements} y d h a c) r x = start_acts tt a r (start_acts s c r x)
start_acts s (near_node {k = Kind.FunctionBody} y d h a c) r x = start_acts tt a r (start_acts s c r x)
start_acts s (near_node {k = Kind.SwitchCase} y d h a c) r x = start_acts tt a r (start_acts s c r x)
start_acts s (near_node {k = Kind.ExportNamedDeclaration None} y d h a c) r x = start_acts tt a r (start_acts s c r x)
start_acts s (near_node {k = Kind.ExportDefaultDeclaration} y d h a c) r x = let z = start_acts s c r x in default_starts _ _ a y r (start_acts tt a r z) z
start_acts s (near_node {p = p} {k = Kind.Cases} y d h a c) r x = absurd (no_cases p y s)
start_acts s (near_node {k = Kind.Function g pure} y d h a c) r x = absurd y
start_acts s (near_node y d h a c) r x = start_acts s c r x
start_acts s (near_closure {f = function_kind.Declaration} i q d o a c) r x = absurd i
start_acts s (near_closure {f = function_kind.Expression} i q d o a c) r x = start_acts s c r x
start_acts s (near_closure {f = function_kind.Arrow} i q d o a c) r x = start_acts s c r x
start_acts s (near_hoisted q o d c) r x = hoisted_acts _ _ q o d r (start_acts s c r x)
start_acts s (near_unread {x = n} {a = a} {b = b} q g h c) r x = unread_acts n a b _ _ q g h r (start_acts s c r x)
start_acts s (near_silent {x = n} {g = l} o q g h u d c) r x = silent_acts l n _ _ o q g h u d r (start_acts s c r x)
start_acts s (near_known q v c) r x = start_acts s c r x
start_acts s (near_uncovered {k = Kind.Statements} y c) r x = absurd (true_false y)
start_acts s (near_uncovered {k = Kind.FunctionBody} y c) r x = absurd (true_false y)
start_acts s (near_uncovered {k = Kind.SwitchCase} y c) r x = absurd (true_false y)
start_acts s (near_uncovered {k = Kind.ExportNamedDeclaration None} y c) r x = absurd (true_false y)
start_acts s (near_uncovered {k = Kind.ExportDefaultDeclaration} y c) r x = absurd (true_false y)
start_acts s (near_uncovered {k = Kind.Cases} y c) r x = absurd (true_false y)
start_acts s (near_uncovered {k = Kind.Function function_kind.Declaration pure} y c) r x = absurd (true_false y)
start_acts s (near_uncovered y c) r x = start_acts s c r x
start_acts s (near_import c) r x = start_acts s c r x
start_acts s (near_while v q o c) r x = start_acts s c r x
start_acts s (near_do v q o c) r x = start_acts s c r x
start_acts s (near_for v q d h o c) r x = start_acts s c r x
start_acts s (changed (statement_emptied q) c) r x = start_acts s c r x
start_acts s (changed (no_statement_emptied q) c) r x = start_acts s c r x
start_acts s (changed (value_read q v) c) r x = start_acts s c r x
start_acts {e = e} {f = f} {m = m} {k = k} s (same_effects {l = l} {b = b} {d = d} q t u) r x = rw (starts_nothing l b (start b f) f (start d f k) q.new_hoists) (start_acts s u r x)
start_acts {e = e} {f = f} {m = m} {k = k} s (comes_to {k = g} {l = l} {a = a} {b = b} {c = c} {d = d} q t u) r x = rw (starts_nothing g a (start a e) e (start c e m) q.old_hoists, starts_nothing l b (start b f) f (start d f k) q.new_hoists) (start_acts s u r x)
start_acts s (changed (sign_applied q) c) r x = start_acts s c r x
start_acts {e = e} {f = f} {m = m} {k = k} s (wastes_more {k = g} {l = l} {a = a} {b = b} {c = c} {d = d} h q t u) r x = rw (starts_nothing g a (start a e) e (start c e m) (blunt_hoists g q.old_blunt), starts_nothing l b (start b f) f (start d f k) q.new_hoists) (start_acts s u r x)
start_acts s (one_sided h q t u) r x = start_acts s u r x
start_acts s (shorter q t u) r x = start_acts s u r x
start_acts s (leaves i c) r x = idle_starts i r (start_acts s c r x)
start_acts s (value_stays o v c) r x = start_acts s c r x
start_acts {b = b} {w = w} {e = e} {f = f} {m = m} {k = k} s (behind_jump {k = g} {n = i} {a = o} j u t) r x = subst (λ z. Acts w z (start b f k)) (sym (unreached_starts e m (goes_behind {k = g} {n = i} {a = o} u))) (start_acts s t r x)

-- what a node is asked that may be a statement or an expression

ask_by_same : {w : World} (b : Bool) → SameAsk w (for_value itself) (ask_by b) (ask_by b)
ask_by_same true = same_run
ask_by_same false = same_now

pub first_ask_same : {w : World} {us : Purposes} {st : Names} {a b : Forest} → Near us fields st a b → SameAsk w (for_value itself) (first_ask a) (first_ask b)
first_ask_same near_nothing = same_now
first_ask_same (near_absent c) = same_now
first_ask_same (near_node {k = k} y d h a c) = ask_by_same (is_statement k)
first_ask_same (near_closure i q d o a c) = same_now
first_ask_same (near_hoisted q o d c) = same_now
first_ask_same (near_unread q g h c) = same_now
first_ask_same (near_silent y q g h u d c) = same_now
first_ask_same (near_known q v c) = same_now
first_ask_same (near_uncovered {k = k} y c) = ask_by_same (is_statement k)
first_ask_same (near_import c) = same_now
first_ask_same (near_while v q o c) = same_now
first_ask_same (near_do v q o c) = same_now
first_ask_same (near_for v q d h o c) = same_now
first_ask_same (changed (statement_emptied q) c) = same_now
first_ask_same (changed (no_statement_emptied q) c) = same_now
first_ask_same (changed (value_read q v) c) = same_now
first_ask_same (same_effects {l = l} q t u) = rw (no_statement l q.new_hoists) same_now
first_ask_same (comes_to {k = k} {l = l} q t u) = rw (no_statement k q.old_hoists, no_statement l q.new_hoists) same_now
first_ask_same (changed (sign_applied q) c) = same_now
first_ask_same (wastes_more {k = k} {l = l} h q t u) = rw (no_statement k (blunt_hoists k q.old_blunt), no_statement l q.new_hoists) same_now
first_ask_same (one_sided h q t u) = same_now
first_ask_same (shorter q t u) = same_now

-- what literals hold

with_property_same : {w : World} {v u : Value} {c d : Content} (key : Text) → Same w v u → SameContent w c d → SameContent w (with_property key v c) (with_property key u d)
with_property_same key q same_empty = same_property q same_empty
with_property_same key q (same_element o c) = same_element o (with_property_same key q c)
with_property_same {w = w} {v = v} {u = u} key q (same_property {x = k} {v = y} {u = z} {c = c} {d = d} o x) = go (bytes_eq k key) (with_property_same key q x)
  where
    go : (b : Bool) → SameContent w (with_property key v c) (with_property key u d) → SameContent w (if b then property k v c else property k y (with_property key v c)) (if b then property k u d else property k z (with_property key u d))
    go true t = same_property q x
    go false t = same_property o t

array_same : {w : World} {vs us : List Value} → SameAll w vs us → SameContent w (array_content vs) (array_content us)
array_same all_nil = same_empty
array_same (all_cons q qs) = same_element q (array_same qs)

abbrev add_keyed : Option Text → Value → Content → Content
add_keyed None v c = c
add_keyed (Some key) v c = with_property key v c

abbrev keyed : List (Option Text) → List Value → Content → Content
keyed [] vs c = c
keyed (o ∷ os) [] c = c
keyed (o ∷ os) (v ∷ vs) c = keyed os vs (add_keyed o v c)

add_by_key : (k : Kind) (v : Value) (c : Content) → add_property k v c ≡ add_keyed (key_of k) v c
add_by_key (Kind.Property how method key) v c = refl
add_by_key _ v c = refl

content_by_keys : (a : Forest) (vs : List Value) (c : Content) → object_content a vs c ≡ keyed (keys a) vs c
content_by_keys nothing vs c = refl
content_by_keys (absent r) vs c = refl
content_by_keys (node k n a r) [] c = refl
content_by_keys (node k n a r) (v ∷ vs) c = content_by_keys r vs (add_property k v c) ∙ ap (λ d. keyed (keys r) vs d) (add_by_key k v c)

add_keyed_same : {w : World} {v u : Value} {c d : Content} (o : Option Text) → Same w v u → SameContent w c d → SameContent w (add_keyed o v c) (add_keyed o u d)
add_keyed_same None q x = x
add_keyed_same (Some key) q x = with_property_same key q x

keyed_same : {w : World} (os : List (Option Text)) {vs us : List Value} {c d : Content} → SameAll w vs us → SameContent w c d → SameContent w (keyed os vs c) (keyed os us d)
keyed_same [] q x = x
keyed_same (o ∷ os) all_nil x = x
keyed_same (o ∷ os) (all_cons q qs) x = keyed_same os qs (add_keyed_same o q x)

object_content_same : {w : World} {vs us : List Value} (a b : Forest) → keys a ≡ keys b → SameAll w vs us → SameContent w (object_content a vs no_content) (object_content b us no_content)
object_content_same {w = w} {vs = vs} {us = us} a b e q = rw (content_by_keys a vs no_content, content_by_keys b us no_content, e) (keyed_same (keys b) q same_empty)

literal_acts : {w : World} (v : Literal) → Acts w (give (literal_value v)) (give (literal_value v))
literal_acts Literal.Null = give_acts same_plain
literal_acts (Literal.Boolean b) = give_acts same_plain
literal_acts (Literal.Number z) = give_acts same_plain
literal_acts (Literal.Text s) = give_acts same_plain

received : {w : World} {v u : Value} (wanted : Wanted) → Same w v u → Same w (receiver_of wanted v) (receiver_of wanted u)
received to_call q = q
received itself q = same_plain
received for_typeof q = same_plain

-- functions

own_acts : {w : World} {st : Names} {e f : Env} {v u : Value} {m k : M} (o p : Option Text) → o ≡ p → FillableIf st o → Envs w st e f → Same w v u → Acts w m k → Acts w (fill_own o e v m) (fill_own p f u k)
own_acts {w = w} {st = st} {e = e} {f = f} {v = v} {u = u} {m = m} {k = k} o p x y r q a = subst (λ p. Acts w (fill_own o e v m) (fill_own p f u k)) x (go o y)
  where
    go : (o : Option Text) → FillableIf st o → Acts w (fill_own o e v m) (fill_own o f u k)
    go None y = a
    go (Some n) y = fill_acts (r.at n) y q a

function_acts : {w : World} {s t : Names} {a b : Forest} {e f : Env} (k : FunctionKind) → own_name k a ≡ own_name k b → Decls s (named_so (waiting true) (own_name k a)) (named_so (waiting true) (own_name k b)) t → FillableIf t (own_name k a) → Code t k a b → Envs w s e f → Acts w (function_value k a e) (function_value k b f)
function_acts k x d y c r = declare_acts d r (λ w2 e2 f2 h r2. identity_acts (λ w3 i j g l. own_acts _ _ x y (envs_later g r2) (same_closure l c (envs_later g r2)) (give_acts (same_closure l c (envs_later g r2)))))

pub closure_acts : {w : World} {u : Purpose} {s t : Names} {a b : Forest} {e f : Env} {q z : Ask} (E : Enter) (ms ks : Parts) (pure : Bool) (k : FunctionKind) → IsClosure k → own_name k a ≡ own_name k b → Decls s (named_so (waiting true) (own_name k a)) (named_so (waiting true) (own_name k b)) t → FillableIf t (own_name k a) → Code t k a b → Envs w s e f → SameAsk w u q z → Acts w (does E (Kind.Function k pure) a ms q e) (does E (Kind.Function k pure) b ks z f)
closure_acts E ms ks pure function_kind.Declaration i x d y c r s = absurd i
closure_acts E ms ks pure function_kind.Expression i x d y c r same_value = function_acts function_kind.Expression x d y c r
closure_acts E ms ks pure function_kind.Arrow i x d y c r same_value = function_acts function_kind.Arrow x d y c r
closure_acts E ms ks pure function_kind.Expression i x d y c r _ = unknown_acts
closure_acts E ms ks pure function_kind.Arrow i x d y c r _ = unknown_acts

-- a declaration has nothing to do where it stands
pub hoisted_does : {w : World} {u : Purpose} {q z : Ask} (E : Enter) (a b : Forest) (ms ks : Parts) (pure also : Bool) (e f : Env) → SameAsk w u q z → Acts w (does E (Kind.Function function_kind.Declaration pure) a ms q e) (does E (Kind.Function function_kind.Declaration also) b ks z f)
hoisted_does E a b ms ks pure also e f same_run = normal_acts
hoisted_does E a b ms ks pure also e f _ = unknown_acts

default_value : {w : World} {st : Names} {m k : Meaning} {e f : Env} → Fillable (st default_name) → Means (for_value itself) st m k → Envs w st e f → Acts w (with_value (m now e) (λ v. fill (look e default_name) v (done normal))) (with_value (k now f) (λ v. fill (look f default_name) v (done normal)))
default_value y x r = value_acts (x.mean r same_now) (λ w2 v u h q. fill_acts ((envs_later h r).at default_name) y q normal_acts)

default_acts : {w : World} {us : Purposes} {st : Names} {a b : Forest} {m k : Meaning} {e f : Env} → Near us fields st a b → Fillable (st default_name) → Means (for_value itself) st m k → Envs w st e f → Acts w (default_does a m e) (default_does b k f)
default_acts near_nothing y x r = default_value y x r
default_acts (near_absent c) y x r = default_value y x r
default_acts (near_node {k = Kind.Function g pure} o d h a c) y x r = absurd o
default_acts (near_node o d h a c) y x r = default_value y x r
default_acts (near_closure {f = function_kind.Declaration} i q d o a c) y x r = absurd i
default_acts (near_closure {f = function_kind.Expression} i q d o a c) y x r = default_value y x r
default_acts (near_closure {f = function_kind.Arrow} i q d o a c) y x r = default_value y x r
default_acts (near_hoisted q o d c) y x r = normal_acts
default_acts (near_unread q g h c) y x r = normal_acts
default_acts (near_silent o q g h u d c) y x r = normal_acts
default_acts (near_known q v c) y x r = default_value y x r
default_acts (near_uncovered {k = Kind.Function function_kind.Declaration pure} o c) y x r = absurd (true_false o)
default_acts (near_uncovered {k = Kind.Function function_kind.Expression pure} o c) y x r = absurd (true_false o)
default_acts (near_uncovered {k = Kind.Function function_kind.Arrow pure} o c) y x r = absurd (true_false o)
default_acts (near_uncovered o c) y x r = default_value y x r
default_acts (near_import c) y x r = default_value y x r
default_acts (near_while v q o c) y x r = default_value y x r
default_acts (near_do v q o c) y x r = default_value y x r
default_acts (near_for v q d h o c) y x r = default_value y x r
default_acts (changed (statement_emptied q) c) y x r = default_value y x r
default_acts (changed (no_statement_emptied q) c) y x r = default_value y x r
default_acts (changed (value_read q v) c) y x r = default_value y x r
default_acts {m = m} {k = k} {e = e} {f = f} (same_effects {l = l} {m = o} {b = b} {d = d} q t u) y x r = rw (gives_default l o b d k f q.new_hoists) (default_value y x r)
default_acts {m = m} {k = k} {e = e} {f = f} (comes_to {k = g} {l = l} {n = n} {m = o} {a = a} {b = b} {c = c} {d = d} q t u) y x r = rw (gives_default g n a c m e q.old_hoists, gives_default l o b d k f q.new_hoists) (default_value y x r)
default_acts (changed (sign_applied q) c) y x r = default_value y x r
default_acts {m = m} {k = k} {e = e} {f = f} (wastes_more {k = g} {l = l} {n = n} {m = o} {a = a} {b = b} {c = c} {d = d} h q t u) y x r = rw (gives_default g n a c m e (blunt_hoists g q.old_blunt), gives_default l o b d k f q.new_hoists) (default_value y x r)
default_acts (one_sided h q t u) y x r = default_value y x r
default_acts (shorter q t u) y x r = default_value y x r

catch_acts : {w : World} {s t : Names} {ms ks : Parts} {e f : Env} {v u : Value} (a b : Forest) → Decls s (declared Kind.CatchClause a) (declared Kind.CatchClause b) t → Fields for_values t ms ks → Envs w s e f → Same w v u → Acts w (catch_does a ms v e) (catch_does b ks u f)
catch_acts a b d c r q = declare_acts d r (λ w2 e2 f2 i r2. may_acts c (λ m k ns us x c. need_acts c (λ m k ns us y c. seq_acts (take_maybe_acts x r2 (same_later i q)) (y.mean r2 same_run))))

module _ (E : Enter) (enters : Enters E) where
  for_acts : {w : World} {s t : Names} {a b : Forest} {ms ks : Parts} {e f : Env} (ls : List Text) → Decls s (lexical (first_of a)) (lexical (first_of b)) t → Copied t (lexical (first_of a)) (lexical (first_of b)) → Near (loop_purposes for_loop) fields t a b → Fields (loop_purposes for_loop) t ms ks → Envs w s e f → Acts w (for_does E a ms ls e) (for_does E b ks ls f)
  for_acts ls d h n c r = declare_acts d r (λ w2 e2 f2 i r2. may_acts c (λ m k ns us x y. bind_acts (ask_maybe_acts x r2 (first_ask_same n)) (λ w3 v u j q. after_init_acts q (copy_acts h (envs_later j r2) (λ w4 e f g r3. test_then_acts E enters for_loop ls h n c r3)))))

  -- one line for each kind and what it may be asked, as in the definition
  pub does_acts : {u : Purpose} {s t : Names} {a b : Forest} {w : World} {e f : Env} {q z : Ask} (p : Row) (ms ks : Parts) (k : Kind) → Okay p s k → Decls s (declared k a) (declared k b) t → Heads k t a b → Near (wanted_below u k) (row_below k) (names_below k s t) a b → Rows (row_below k) (wanted_below u k) (names_below k s t) ms ks → Envs w s e f → SameAsk w u q z → Acts w (does E k a ms q e) (does E k b ks z f)
  does_acts p ms ks Kind.Statements y d h n c r same_run = c.listed r (λ o. same_run)
  does_acts p ms ks (Kind.Directive written) y d h n c r same_run = normal_acts
  does_acts p ms ks Kind.EmptyStatement y d h n c r same_run = normal_acts
  does_acts p ms ks Kind.DebuggerStatement y d h n c r same_run = normal_acts
  does_acts p ms ks Kind.ExpressionStatement y d h n c r same_run = need_acts c (λ m k ns ls x c. (x.effect tt r).acts)
  does_acts p ms ks Kind.BlockStatement y d h n c r same_run = declare_acts d r (λ w2 e2 f2 i r2. start_acts tt n r2 (need_acts c (λ m k ns ls x c. x.mean r2 same_run)))
  does_acts p ms ks Kind.IfStatement y d h n c r same_run = need_acts c (λ m k ns ls t c. need_acts c (λ m k ns ls x c. may_acts c (λ m k ns ls o c. value_acts (t.mean r same_now) (λ w2 v u i q. choose_acts (truthy_same q) (x.mean (envs_later i r) same_run) (ask_maybe_acts o (envs_later i r) same_run)))))
  does_acts p ms ks Kind.ReturnStatement y d h n c r same_run = may_acts c (λ m k ns ls o c. or_undefined_acts o r (λ w2 v u i q. done_acts (same_returns q)))
  does_acts p ms ks Kind.ThrowStatement y d h n c r same_run = need_acts c (λ m k ns ls x c. value_acts (x.mean r same_now) (λ w2 v u i q. done_acts (same_throws q)))
  does_acts p ms ks (Kind.BreakStatement label) y d h n c r same_run = done_acts same_breaks
  does_acts p ms ks (Kind.ContinueStatement label) y d h n c r same_run = done_acts same_continues
  does_acts p ms ks (Kind.LabeledStatement l) y d h n c r same_run = need_acts c (λ m k ns ls x c. bind_acts (x.mean r same_run) (λ w2 v u i q. after_label_acts l q))
  does_acts p ms ks Kind.WhileStatement y d h n c r (same_run {ls = ls}) = test_then_acts E enters while_loop ls tt n c r
  does_acts p ms ks Kind.DoWhileStatement y d h n c r same_run = enters.entered (same_turn {l = do_loop} tt n r)
  does_acts p ms ks Kind.ForStatement y d h n c r (same_run {ls = ls}) = for_acts ls d h n c r
  does_acts p ms ks Kind.SwitchStatement y d h n c r same_run = need_acts c (λ m k ns ls x c. need_acts c (λ m k ns ls o c. value_acts (x.mean r same_now) (λ w2 v u i q. bind_acts (o.mean (envs_later i r) (same_matches q)) (λ w3 v u j q. after_switch_acts q))))
  does_acts p ms ks Kind.Cases y d h n c r (same_matches q) = declare_acts d r (λ w2 e2 f2 i r2. start_acts tt n r2 (choose_case_acts c (same_later i q) r2 normal_acts))
  does_acts p ms ks Kind.SwitchCase y d h n c r (same_matches q) = may_acts c (λ m k ns ls x c. case_test_acts q x r)
  does_acts p ms ks Kind.SwitchCase y d h n c r same_run = may_acts c (λ m k ns ls t c. need_acts c (λ m k ns ls x c. x.mean r same_run))
  does_acts p ms ks Kind.TryStatement y d h n c r same_run = need_acts c (λ m k ns ls x c. may_acts c (λ m k ns ls o c. may_acts c (λ m k ns ls t c. try_acts x o t r)))
  does_acts {a = a} {b = b} p ms ks Kind.CatchClause y d h n c r (same_take q) = catch_acts a b d c r q
  does_acts p ms ks (Kind.VariableDeclaration how) y d h n c r same_run = need_acts c (λ m k ns ls x c. x.mean r same_declares)
  does_acts p ms ks Kind.Declarators y d h n c r same_declares = c.listed r (λ o. same_declares)
  does_acts p ms ks Kind.VariableDeclarator y d h n c r (same_declares {how = how}) = need_acts c (λ m k ns ls x c. may_acts c (λ m k ns ls o c. declarator_acts how x o r))
  does_acts p ms ks (Kind.BindingName x) y d h n c r (same_take q) = fill_acts (r.at x) y q normal_acts
  does_acts p ms ks (Kind.Function f pure) y d h n c r q = absurd y
  does_acts p ms ks Kind.FunctionBody y d h n c r same_run = need_acts c (λ m k ns ls x c. x.mean r same_run)
  does_acts p ms ks Kind.Parameters y d h n c r (same_take_all q) = take_each_acts c q r
  does_acts p ms ks (Kind.ImportDeclaration source) y d h n c r same_run = normal_acts
  does_acts p ms ks (Kind.ExportNamedDeclaration source) y d h n c r same_run = may_acts c (λ m k ns ls x c. ask_maybe_acts x r same_run)
  does_acts p ms ks Kind.ExportDefaultDeclaration y d h n c r same_run = need_acts c (λ m k ns ls x c. default_acts n y x r)
  does_acts p ms ks (Kind.ExportAllDeclaration name source) y d h n c r same_run = normal_acts
  does_acts p ms ks Kind.ThisExpression y d h n c r same_value = name_value_acts this_name (r.at this_name) y
  does_acts p ms ks (Kind.ReferenceName x) y d h n c r (same_value {wanted = for_typeof}) = typeof_name_acts x (r.at x) y
  does_acts p ms ks (Kind.ReferenceName x) y d h n c r (same_value {wanted = itself}) = name_value_acts x (r.at x) y
  does_acts p ms ks (Kind.ReferenceName x) y d h n c r (same_value {wanted = to_call}) = name_value_acts x (r.at x) y
  does_acts p ms ks (Kind.Literal v) y d h n c r same_value = literal_acts v
  does_acts p ms ks Kind.ArrayExpression y d h n c r same_value = need_acts c (λ m k ns ls x c. all_acts (x.mean r same_collect) (λ w2 vs us i q. identity_acts (λ w3 o p j l. give_acts (same_array l (array_same (all_later j q))))))
  does_acts {a = a} {b = b} p ms ks Kind.ObjectExpression y d h n c r same_value = need_acts c (λ m k ns ls x c. all_acts (x.mean r same_collect) (λ w2 vs us i q. identity_acts (λ w3 o p j l. give_acts (same_object l (object_content_same (below_of a) (below_of b) h (all_later j q))))))
  does_acts p ms ks (Kind.Property how method key) y d h n c r same_entry = may_acts c (λ m k ns ls t c. need_acts c (λ m k ns ls x c. x.mean r same_now))
  does_acts p ms ks Kind.Elements y d h n c r same_collect = all_values_acts c r same_now
  does_acts p ms ks Kind.Properties y d h n c r same_collect = all_values_acts c r same_entry
  does_acts p ms ks Kind.Arguments y d h n c r same_collect = all_values_acts c r same_now
  does_acts p ms ks Kind.ParenthesizedExpression y d h n c r same_value = need_acts c (λ m k ns ls x c. x.mean r same_value)
  does_acts p ms ks Kind.ParenthesizedExpression y d h n c r same_place = need_acts c (λ m k ns ls x c. x.mean r same_place)
  does_acts p ms ks Kind.SequenceExpression y d h n c r same_value = need_acts c (λ m k ns ls x c. x.mean r same_now)
  does_acts p ms ks Kind.Expressions y d h n c r same_value = in_turn_acts c r
  does_acts p ms ks (Kind.UnaryExpression o) y d h n c r same_value = need_acts c (λ m k ns ls x c. value_acts (x.mean r same_value) (λ w2 v u i q. unary_of_acts o q))
  does_acts p ms ks (Kind.UpdateExpression o prefix) y d h n c r same_value = need_acts c (λ m k ns ls x c. place_acts (x.mean r same_place) (λ w2 p q i l. update_acts E enters o prefix l))
  does_acts p ms ks (Kind.BinaryExpression o) y d h n c r same_value = need_acts c (λ m k ns ls x c. need_acts c (λ m k ns ls t c. value_acts (x.mean r same_now) (λ w2 v u i q. value_acts (t.mean (envs_later i r) same_now) (λ w3 v u j p. binary_acts E enters o (same_later j q) p))))
  does_acts p ms ks (Kind.LogicalExpression o) y d h n c r same_value = need_acts c (λ m k ns ls x c. need_acts c (λ m k ns ls t c. value_acts (x.mean r same_now) (λ w2 v u i q. logical_acts o q (t.mean (envs_later i r) same_now))))
  does_acts p ms ks (Kind.AssignmentExpression o) y d h n c r same_value = need_acts c (λ m k ns ls x c. need_acts c (λ m k ns ls t c. place_acts (x.mean r same_place) (λ w2 p q i l. assign_acts E enters o l (t.mean (envs_later i r) same_now))))
  does_acts p ms ks Kind.ConditionalExpression y d h n c r same_value = need_acts c (λ m k ns ls t c. need_acts c (λ m k ns ls x c. need_acts c (λ m k ns ls o c. value_acts (t.mean r same_now) (λ w2 v u i q. choose_acts (truthy_same q) (x.mean (envs_later i r) same_now) (o.mean (envs_later i r) same_now)))))
  does_acts p ms ks (Kind.CallExpression false pure) y d h n c r same_value = need_acts c (λ m k ns ls x c. need_acts c (λ m k ns ls t c. receiver_acts (x.mean r same_value) (λ w2 v u o p i q s. all_acts (t.mean (envs_later i r) same_collect) (λ w3 vs us j qs. call_acts E enters (same_later j q) (same_later j s) qs))))
  does_acts p ms ks (Kind.NewExpression pure) y d h n c r same_value = need_acts c (λ m k ns ls x c. need_acts c (λ m k ns ls t c. value_acts (x.mean r same_now) (λ w2 v u i q. all_acts (t.mean (envs_later i r) same_collect) (λ w3 vs us j qs. construct_acts E enters (same_later j q) qs))))
  does_acts p ms ks (Kind.MemberExpression key false) y d h n c r (same_value {wanted = wanted}) = member_place_acts key c r (λ w2 v u o p i q s. value_acts (get_place_acts E enters (same_at_member q s)) (λ w3 x t j g. done_acts (same_gives g (received wanted (same_later j q)))))
  does_acts p ms ks (Kind.MemberExpression key false) y d h n c r same_place = member_place_acts key c r (λ w2 v u o p i q s. done_acts (same_refers (same_at_member q s)))
  does_acts p ms ks (Kind.TargetName x) y d h n c r same_place = name_place_acts x (r.at x) y
  does_acts p ms ks _ y d h n c r _ = unknown_acts

  -- of what nobody takes the value: these hand that on, all others do what they do where it is taken
  pub does_effect : {s t : Names} {a b : Forest} {w : World} {e f : Env} (u : Purpose) (p : Row) (ms ks : Parts) (k : Kind) → ForEffect u → Okay p s k → Decls s (declared k a) (declared k b) t → Heads k t a b → Near (wanted_below u k) (row_below k) (names_below k s t) a b
      → Rows (row_below k) (wanted_below u k) (names_below k s t) ms ks → Envs w s e f → ActsForEffect w (does E k a ms now e) (does E k b ks now f)
  does_effect (for_value wanted) p ms ks k g y d h n c r = absurd g
  does_effect for_effect p ms ks Kind.ParenthesizedExpression g y d h n c r = need_effect c (λ m k ns ls x c. x.effect tt r)
  does_effect for_effect p ms ks Kind.SequenceExpression g y d h n c r = need_effect c (λ m k ns ls x c. x.effect tt r)
  does_effect for_effect p ms ks Kind.Expressions g y d h n c r = in_turn_effect c r
  does_effect for_effect p ms ks (Kind.LogicalExpression o) g y d h n c r = need_effect c (λ m k ns ls x c. need_effect c (λ m k ns ls t c. value_effects (x.mean r same_now) (λ w2 v u i q. choice_effects (goes_right_same o q) (t.effect tt (envs_later i r)) (effects_act (give_acts q)))))
  does_effect for_effect p ms ks Kind.ConditionalExpression g y d h n c r = need_effect c (λ m k ns ls t c. need_effect c (λ m k ns ls x c. need_effect c (λ m k ns ls o c. value_effects (t.mean r same_now) (λ w2 v u i q. choice_effects (truthy_same q) (x.effect tt (envs_later i r)) (o.effect tt (envs_later i r))))))
  does_effect for_effect p ms ks k g y d h n c r = effects_act (does_acts {u = for_value itself} p ms ks k y d h n c r same_now)
