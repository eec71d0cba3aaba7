-- What stands behind a jump never runs, so it may be anything that starts the same where its scope is entered.
use Rattle.std.proofs.Common.{◌≡◌, ◌⊎◌, inl, inr, List, [], ◌∷◌, ◌++◌, Bool, true, false, Option, Some, None, refl, sym, subst}
use Rattle.std.proofs.lemmas.Bool.{or_cases}
use Rattle.js_syntax.proofs.Truth.{first_of_both, second_of_both}
use Rattle.js_syntax.specs.declared.node_kind.NodeKind.{NodeKind as Kind}
use Rattle.js_syntax.specs.declared.kind.FunctionKind.TheVariants as function_kind
use Rattle.js_syntax.specs.Node.{Note, Forest, nothing, node, absent}
use Rattle.js_meaning.specs.Value.{Text, Env, Value, Slot, local}
use Rattle.js_meaning.specs.Scope.{Decl, decl, waiting, ready, linked, left_out, declare, fill, first_name, name_or_default, start_function, start_item, start, lexical, look}
use Rattle.js_meaning.specs.Trace.{Event}
use Rattle.js_meaning.specs.State.{State, Completion, normal, gives, gives_all, refers, breaks, continues, returns, throws, Out, goes, stops, M, more, go_on, bind, done, stop, alloc, read, store, identity, if_normal, seq, if_gives, with_value, choose}
use Rattle.js_meaning.specs.Host.{Enter}
use Rattle.js_meaning.specs.Node.{Ask, now, run, Parts, need, may, each, ask_maybe}
use Rattle.js_meaning.specs.Operator.{truthy}
use Rattle.js_meaning.specs.Meaning.{does, eval}
use Rattle.js_meaning_near.specs.Names.{Names}
use Rattle.js_meaning_near.specs.Near.{meaning, is_jump, Glance, at_any, at_first, at_branches, at_both, glance_below, row_cuts, cuts_off}
use Rattle.js_meaning_near.proofs.Relations.{Follows}
use Rattle.js_meaning_near.proofs.Rows.{Lists}
use Rattle.js_meaning_near.proofs.Nodes.{true_false}

-- ---- a computation that doesn't complete normally

abbrev Abrupt : Out → Type 0
Abrupt (goes es z normal) = ⊥
Abrupt o = Unit {0}

abbrev Jumps : M → Type 0
Jumps m = (s : State) → Abrupt (m s)

skips : (m n : M) (o : Out) → Abrupt o → go_on o (if_normal m) ≡ go_on o (if_normal n)
skips m n (goes es z normal) a = absurd a
skips m n (goes es z (gives v r)) a = refl
skips m n (goes es z (gives_all vs)) a = refl
skips m n (goes es z (refers p)) a = refl
skips m n (goes es z (breaks l)) a = refl
skips m n (goes es z (continues l)) a = refl
skips m n (goes es z (returns v)) a = refl
skips m n (goes es z (throws v)) a = refl
skips m n (stops es e) a = refl

-- what would come behind it doesn't matter
seq_skips : (j m n : M) → Jumps j → (s : State) → seq j m s ≡ seq j n s
unfolding bind
seq_skips j m n h s = skips m n (j s) (h s)

-- ---- jumps

after_value : (k : Value → Completion) → ((v : Value) (s : State) → Abrupt (done (k v) s)) → (o : Out) → Abrupt (go_on o (if_gives (λ v r. done (k v))))
unfolding done stop
after_value k h (goes es z normal) = tt
after_value k h (goes es z (gives v r)) = more_abrupt es (k v) z (h v z)
  where
    more_abrupt : (es : List Event) (c : Completion) (z : State) → Abrupt (goes [] z c) → Abrupt (goes (es ++ []) z c)
    more_abrupt es normal z a = a
    more_abrupt es c z a = tt
after_value k h (goes es z (gives_all vs)) = tt
after_value k h (goes es z (refers p)) = tt
after_value k h (goes es z (breaks l)) = tt
after_value k h (goes es z (continues l)) = tt
after_value k h (goes es z (returns v)) = tt
after_value k h (goes es z (throws v)) = tt
after_value k h (stops es e) = tt

return_jumps : (E : Enter) (a : Forest) (ms : Parts) (q : Ask) (env : Env) → Jumps (does E Kind.ReturnStatement a ms q env)
unfolding may bind done stop
return_jumps E a [] (run ls) env s = tt
return_jumps E a (None ∷ ms) (run ls) env s = tt
return_jumps E a (Some m ∷ ms) (run ls) env s = after_value (λ v. returns v) (λ v z. tt) (m now env s)
return_jumps E a ms q env s = tt

throw_jumps : (E : Enter) (a : Forest) (ms : Parts) (q : Ask) (env : Env) → Jumps (does E Kind.ThrowStatement a ms q env)
unfolding need bind done stop
throw_jumps E a [] (run ls) env s = tt
throw_jumps E a (None ∷ ms) (run ls) env s = tt
throw_jumps E a (Some m ∷ ms) (run ls) env s = after_value (λ v. throws v) (λ v z. tt) (m now env s)
throw_jumps E a ms q env s = tt

break_jumps : (E : Enter) (l : Option Text) (a : Forest) (ms : Parts) (q : Ask) (env : Env) → Jumps (does E (Kind.BreakStatement l) a ms q env)
unfolding done stop
break_jumps E l a ms (run ls) env s = tt
break_jumps E l a ms q env s = tt

continue_jumps : (E : Enter) (l : Option Text) (a : Forest) (ms : Parts) (q : Ask) (env : Env) → Jumps (does E (Kind.ContinueStatement l) a ms q env)
unfolding done stop
continue_jumps E l a ms (run ls) env s = tt
continue_jumps E l a ms q env s = tt

jump_jumps : (E : Enter) (k : Kind) (a : Forest) (q : Ask) (env : Env) → is_jump k ≡ true → Jumps (meaning E k a q env)
jump_jumps E Kind.ReturnStatement a q env j = return_jumps E a (eval E a) q env
jump_jumps E Kind.ThrowStatement a q env j = throw_jumps E a (eval E a) q env
jump_jumps E (Kind.BreakStatement l) a q env j = break_jumps E l a (eval E a) q env
jump_jumps E (Kind.ContinueStatement l) a q env j = continue_jumps E l a (eval E a) q env
jump_jumps E k a q env j = absurd (true_false (sym j))

-- ---- what is never left at its end

later_abrupt : (es : List Event) (o : Out) → Abrupt o → Abrupt (more es o)
later_abrupt es (goes fs z normal) a = absurd a
later_abrupt es (goes fs z (gives v r)) a = tt
later_abrupt es (goes fs z (gives_all vs)) a = tt
later_abrupt es (goes fs z (refers p)) a = tt
later_abrupt es (goes fs z (breaks l)) a = tt
later_abrupt es (goes fs z (continues l)) a = tt
later_abrupt es (goes fs z (returns v)) a = tt
later_abrupt es (goes fs z (throws v)) a = tt
later_abrupt es (stops fs e) a = tt

-- by the first of two, or by the second
first_or_second : (m : M) (o : Out) → Abrupt o ⊎ Jumps m → Abrupt (go_on o (if_normal m))
unfolding done stop
first_or_second m (goes es z normal) (inl a) = absurd a
first_or_second m (goes es z normal) (inr h) = later_abrupt es (m z) (h z)
first_or_second m (goes es z (gives v r)) a = tt
first_or_second m (goes es z (gives_all vs)) a = tt
first_or_second m (goes es z (refers p)) a = tt
first_or_second m (goes es z (breaks l)) a = tt
first_or_second m (goes es z (continues l)) a = tt
first_or_second m (goes es z (returns v)) a = tt
first_or_second m (goes es z (throws v)) a = tt
first_or_second m (stops es e) a = tt

seq_jumps : (j m : M) → Jumps j ⊎ Jumps m → Jumps (seq j m)
unfolding bind
seq_jumps j m (inl h) s = first_or_second m (j s) (inl (h s))
seq_jumps j m (inr h) s = first_or_second m (j s) (inr h)

-- ---- where a scope is entered

declare_jumps : (ds : List Decl) (env : Env) (k : Env → M) → ((env : Env) → Jumps (k env)) → Jumps (declare ds env k)
unfolding declare alloc
declare_jumps [] env k h s = h env s
declare_jumps (decl x (waiting constant) ∷ ds) env k h s = declare_jumps ds _ k h _
declare_jumps (decl x ready ∷ ds) env k h s = declare_jumps ds _ k h _
declare_jumps (decl x (linked source name) ∷ ds) env k h s = declare_jumps ds _ k h s
declare_jumps (decl x left_out ∷ ds) env k h s = declare_jumps ds _ k h s

fill_jumps : (o : Option Slot) (v : Value) (m : M) → Jumps m → Jumps (fill o v m)
unfolding read store stop
fill_jumps (Some (local c)) v m h s = h _
fill_jumps (Some other) v m h s = tt
fill_jumps None v m h s = tt

function_jumps : (x : Option Text) (a : Forest) (env : Env) (m : M) → Jumps m → Jumps (start_function x a env m)
unfolding identity
function_jumps None a env m h s = h s
function_jumps (Some x) a env m h s = fill_jumps (look env x) _ m h _

item_jumps : (k : Kind) (a : Forest) (inner : M → M) (env : Env) (m : M) → ((m : M) → Jumps m → Jumps (inner m)) → Jumps m → Jumps (start_item k a inner env m)
item_jumps (Kind.Function function_kind.Declaration pure) a inner env m g h = function_jumps (first_name a) a env m h
item_jumps (Kind.ExportNamedDeclaration None) a inner env m g h = g m h
item_jumps Kind.ExportDefaultDeclaration (node (Kind.Function function_kind.Declaration pure) n b r) inner env m g h = function_jumps (Some (name_or_default (first_name b))) b env m h
item_jumps Kind.ExportDefaultDeclaration a inner env m g h = g m h
item_jumps Kind.FunctionBody a inner env m g h = g m h
item_jumps Kind.Statements a inner env m g h = g m h
item_jumps Kind.Cases a inner env m g h = g m h
item_jumps Kind.SwitchCase a inner env m g h = g m h
item_jumps k a inner env m g h = h

start_jumps : (a : Forest) (env : Env) (m : M) → Jumps m → Jumps (start a env m)
unfolding start
start_jumps nothing env m h = h
start_jumps (absent r) env m h = start_jumps r env m h
start_jumps (node k n a r) env m h = item_jumps k a (start a env) env (start r env m) (λ l g. start_jumps a env l g) (start_jumps r env m h)

-- ---- a choice

value_abrupt : (f : Value → M) → ((v : Value) → Jumps (f v)) → (o : Out) → Abrupt (go_on o (if_gives (λ v r. f v)))
unfolding done stop
value_abrupt f h (goes es z normal) = tt
value_abrupt f h (goes es z (gives v r)) = later_abrupt es (f v z) (h v z)
value_abrupt f h (goes es z (gives_all vs)) = tt
value_abrupt f h (goes es z (refers p)) = tt
value_abrupt f h (goes es z (breaks l)) = tt
value_abrupt f h (goes es z (continues l)) = tt
value_abrupt f h (goes es z (returns v)) = tt
value_abrupt f h (goes es z (throws v)) = tt
value_abrupt f h (stops es e) = tt

value_jumps : (m : M) (f : Value → M) → ((v : Value) → Jumps (f v)) → Jumps (with_value m f)
unfolding bind
value_jumps m f h s = value_abrupt f h (m s)

choose_jumps : (b : Bool) (x y : M) → Jumps x → Jumps y → Jumps (choose b x y)
unfolding choose
choose_jumps true x y h g = h
choose_jumps false x y h g = g

-- ---- a block, a list, and an `if`

-- what stands behind the test
abbrev branches_do : Parts → M → List Text → Env → M
branches_do ms test ls env = need ms (λ c r. may r (λ d r. with_value test (λ v. choose (truthy v) (c (run ls) env) (ask_maybe d (run ls) env))))

-- by how a row is looked at
abbrev RowJumps : Glance → Parts → List Text → Env → Type 0
RowJumps at_any ms ls env = Jumps (each (run ls) ms env)
RowJumps at_first ms ls env = Jumps (need ms (λ m r. m (run ls) env))
RowJumps at_branches ms ls env = Jumps (need ms (λ t r. branches_do r (t now env) ls env))
RowJumps at_both ms ls env = (test : M) → Jumps (branches_do ms test ls env)

node_jumps : (E : Enter) (k : Kind) (a : Forest) (q : Ask) (env : Env) → (row_cuts (glance_below k) a ≡ true → (ls : List Text) (env : Env) → RowJumps (glance_below k) (eval E a) ls env) → cuts_off k a ≡ true → Jumps (meaning E k a q env)
unfolding stop
node_jumps E Kind.BlockStatement a (run ls) env inside h = declare_jumps (lexical a) env _ (λ env. start_jumps a env _ (inside h ls env))
node_jumps E Kind.BlockStatement a q env inside h = λ s. tt
node_jumps E Kind.Statements a (run ls) env inside h = inside h ls env
node_jumps E Kind.Statements a q env inside h = λ s. tt
node_jumps E Kind.IfStatement a (run ls) env inside h = inside h ls env
node_jumps E Kind.IfStatement a q env inside h = λ s. tt
node_jumps E k a q env inside h = jump_jumps E k a q env h

row_jumps : (E : Enter) (g : Glance) (a : Forest) → row_cuts g a ≡ true → (ls : List Text) (env : Env) → RowJumps g (eval E a) ls env
unfolding eval each need may stop
row_jumps E at_any nothing h ls env = absurd (true_false (sym h))
row_jumps E at_first nothing h ls env = absurd (true_false (sym h))
row_jumps E at_branches nothing h ls env = absurd (true_false (sym h))
row_jumps E at_both nothing h ls env = absurd (true_false (sym h))
row_jumps E at_any (absent r) h ls env = λ s. tt
row_jumps E at_first (absent r) h ls env = λ s. tt
row_jumps E at_branches (absent r) h ls env = λ s. tt
row_jumps E at_both (absent r) h ls env = λ test s. tt
row_jumps E at_any (node k n a r) h ls env =
    seq_jumps (meaning E k a (run ls) env) (each (run ls) (eval E r) env)
    (elim (or_cases (cuts_off k a) (row_cuts at_any r) h) [
      | inl here ↦ inl (node_jumps E k a (run ls) env (λ g. row_jumps E (glance_below k) a g) here)
      | inr later ↦ inr (row_jumps E at_any r later ls env)
    ])
row_jumps E at_first (node k n a r) h ls env = node_jumps E k a (run ls) env (λ g. row_jumps E (glance_below k) a g) h
row_jumps E at_branches (node k n a r) h ls env = row_jumps E at_both r h ls env (meaning E k a now env)
row_jumps E at_both (node k n a nothing) h ls env = absurd (true_false (sym (second_of_both (cuts_off k a) false h)))
row_jumps E at_both (node k n a (absent r)) h ls env = absurd (true_false (sym (second_of_both (cuts_off k a) false h)))
row_jumps E at_both (node k n a (node l m b r)) h ls env =
    let first = node_jumps E k a (run ls) env (λ g. row_jumps E (glance_below k) a g) (first_of_both (cuts_off k a) (cuts_off l b) h) in
    let second = node_jumps E l b (run ls) env (λ g. row_jumps E (glance_below l) b g) (second_of_both (cuts_off k a) (cuts_off l b) h) in
    λ test. value_jumps test _ (λ v. choose_jumps (truthy v) _ _ first second)

cuts_jump : (E : Enter) (k : Kind) (a : Forest) (q : Ask) (env : Env) → cuts_off k a ≡ true → Jumps (meaning E k a q env)
cuts_jump E k a q env h = node_jumps E k a q env (λ g. row_jumps E (glance_below k) a g) h

-- ---- rows

pub list_behind : {st : Names} {ks : Parts} (E : Enter) (k : Kind) (n : Note) (a c e : Forest) → cuts_off k a ≡ true → Lists st (eval E (node k n a e)) ks → Lists st (eval E (node k n a c)) ks
unfolding eval each
list_behind {ks = ks} E k n a c e j l = record {
  listed = λ {w} {e = env} {f} {q} {z} r s. record {
    act = λ w2 h s1 s2 states.
        subst (λ o. Follows w2 o (each z ks f s2)) (seq_skips (meaning E k a q env) (each q (eval E e) env) (each q (eval E c) env) (cuts_jump E k a q env j) s1) ((l.listed r s).act w2 h s1 s2 states);
  };
}
