-- What statements do (ECMA-262 14).
use Rattle.std.specs.Prelude.{Bool, true, false, List, [], ◌∷◌, Option, Some, None, if◌then◌else◌}
use Rattle.std.specs.Str.{bytes_eq}
use Rattle.js_syntax.specs.Node.{Forest}
use Rattle.js_syntax.specs.declared.kind.VariableKind.{VariableKind}
use Rattle.js_syntax.specs.declared.kind.VariableKind.TheVariants as variable
use Rattle.js_syntax.specs.declared.operator.BinaryOperator.TheVariants as binary
use Rattle.js_meaning.specs.Value.{Text, Env, Value, plain, boolean, undef}
use Rattle.js_meaning.specs.State.{M, Completion, normal, gives, breaks, continues, returns, throws, bind, done, unknown, choose, give, seq, with_value}
use Rattle.js_meaning.specs.Operator.{truthy, binary_of}
use Rattle.js_meaning.specs.Scope.{first_of, lexical, copy, declare, waiting, all_so, bound_names}
use Rattle.js_meaning.specs.Host.{Loop, while_loop, do_loop, for_loop, Enter, turn}
use Rattle.js_meaning.specs.Node.{run, take, matches, now, Meaning, Parts, need, may, each, value_or_undefined, ask_maybe, first_ask}

-- Labels (14.13). They reach a loop through blocks and `if` too: where each `continue` names a label of a loop that it
-- stands in, none can tell.

abbrev pub has_label : List Text → Text → Bool
has_label [] l = false
has_label (m ∷ ls) l = if bytes_eq m l then true else has_label ls l

abbrev pub after_label : Text → Completion → M
after_label l (breaks (Some m)) = choose (bytes_eq l m) (done normal) (done (breaks (Some m)))
after_label l c = done c

-- Declarations (14.3): `let` without a value gives undefined, `var` without one does nothing
abbrev pub declarator : VariableKind → Meaning → Option Meaning → Env → M
declarator how name (Some m) env = with_value (m now env) (λ v. name (take v) env)
declarator variable.Var name None env = done normal
declarator how name None env = name (take undef) env

-- Loops (14.7). LoopContinues (14.7.1.1):
abbrev pub after_turn : List Text → M → Completion → M
after_turn ls again normal = again
after_turn ls again (continues None) = again
after_turn ls again (continues (Some l)) = choose (has_label ls l) again (done (continues (Some l)))
after_turn ls again (breaks None) = done normal
after_turn ls again (breaks (Some l)) = done (breaks (Some l))
after_turn ls again (returns v) = done (returns v)
after_turn ls again (throws v) = done (throws v)
after_turn ls again _ = unknown

abbrev pub enter_if : Enter → Loop → Forest → List Text → Env → Value → M
enter_if E l a ls env v = choose (truthy v) (E (turn l a ls env)) (done normal)

-- the test of a `for` may be left out
abbrev pub test_for : Option Meaning → Env → (Value → M) → M
test_for None env k = k (plain (boolean true))
test_for (Some m) env k = with_value (m now env) k

-- the test, and another turn where it holds; by what lies below the loop's node
abbrev pub test_then : Enter → Loop → Forest → Parts → List Text → Env → M
test_then E while_loop a ms ls env = need ms (λ t r. with_value (t now env) (enter_if E while_loop a ls env))
test_then E do_loop a ms ls env = need ms (λ b r. need r (λ t r. with_value (t now env) (enter_if E do_loop a ls env)))
test_then E for_loop a ms ls env = may ms (λ i r. may r (λ t r. test_for t env (enter_if E for_loop a ls env)))

-- a turn: the body, and what follows; a `for` copies its cells before its update (14.7.4.3)
abbrev pub turn_does : Enter → Loop → Forest → Parts → List Text → Env → M
turn_does E while_loop a ms ls env = need ms (λ t r. need r (λ b r. bind (b (run []) env) (after_turn ls (test_then E while_loop a ms ls env))))
turn_does E do_loop a ms ls env = need ms (λ b r. bind (b (run []) env) (after_turn ls (test_then E do_loop a ms ls env)))
turn_does E for_loop a ms ls env =
    may ms (λ i r. may r (λ t r. may r (λ u r. need r (λ b r.
    bind (b (run []) env) (after_turn ls (copy (lexical (first_of a)) env (λ env. value_or_undefined u env (λ v. test_then E for_loop a ms ls env))))))))

-- after what stands first in the head of a `for`: a declaration or an expression
abbrev pub after_init : M → Completion → M
after_init m normal = m
after_init m (gives v r) = m
after_init m (throws v) = done (throws v)
after_init m _ = unknown

abbrev pub for_does : Enter → Forest → Parts → List Text → Env → M
for_does E a ms ls env =
    declare (lexical (first_of a)) env (λ env. may ms (λ i r. bind (ask_maybe i (first_ask a) env) (after_init (copy (lexical (first_of a)) env (test_then E for_loop a ms ls)))))

-- Switch (14.12.2): the cases' tests in order; the default after all of them, wherever it stands; and on from there

abbrev pub case_is : Value → M → M → M → M
case_is (plain (boolean true)) here on otherwise = here
case_is (plain (boolean false)) here on otherwise = on
case_is _ here on otherwise = otherwise

unfoldable pub choose_case : Parts → Value → Env → M → M
choose_case [] v env default = default
choose_case (None ∷ ms) v env default = unknown
choose_case (Some m ∷ ms) v env default =
    with_value (m (matches v) env) (λ found. case_is found (each (run []) (Some m ∷ ms) env) (choose_case ms v env default) (choose_case ms v env (each (run []) (Some m ∷ ms) env)))

-- whether a case is the one (CaseClauseIsSelected, 14.12.3); the default says undefined
abbrev pub case_test : Value → Option Meaning → Env → M
case_test v None env = give undef
case_test v (Some t) env = with_value (t now env) (binary_of binary.StrictEquality v)

abbrev pub after_switch : Completion → M
after_switch (breaks None) = done normal
after_switch c = done c

-- Try (14.15.3)

abbrev pub after_block : Option Meaning → Env → Completion → M
after_block (Some handler) env (throws v) = handler (take v) env
after_block _ env c = done c

-- a normal end of `finally` keeps what was before, any other stands in its place
abbrev pub after_finally : Completion → Completion → M
after_finally c normal = done c
after_finally c d = done d

abbrev pub try_does : Meaning → Option Meaning → Option Meaning → Env → M
try_does block handler finalizer env =
    bind (bind (block (run []) env) (after_block handler env)) (λ c. bind (ask_maybe finalizer (run []) env) (after_finally c))

abbrev pub take_maybe : Option Meaning → Value → Env → M
take_maybe None v env = done normal
take_maybe (Some m) v env = m (take v) env

-- the parameter has a scope of its own around the block (14.15.2)
abbrev pub catch_does : Forest → Parts → Value → Env → M
catch_does a ms v env =
    declare (all_so (waiting false) (bound_names (first_of a))) env (λ env. may ms (λ p r. need r (λ b r. seq (take_maybe p v env) (b (run []) env))))
