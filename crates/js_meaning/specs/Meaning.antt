-- What each node does: a line for each kind and what it may be asked. Whatever has no line stands where it can't, and
-- is unknown; so is a kind that isn't core.
use Rattle.std.specs.Prelude.{ℕ, zero, suc, Bool, true, false, List, [], ◌∷◌, Some, None}
use Rattle.js_syntax.specs.declared.node_kind.NodeKind.{NodeKind as Kind}
use Rattle.js_syntax.specs.Facts.{is_core}
use Rattle.js_syntax.specs.Node.{Forest, nothing, node, absent, below_of}
use Rattle.js_syntax.specs.declared.kind.FunctionKind.{FunctionKind}
use Rattle.js_syntax.specs.declared.kind.FunctionKind.TheVariants as function_kind
use Rattle.js_meaning.specs.Value.{Env, this_name, Value, object, array, no_content, undef, literal_value}
use Rattle.js_meaning.specs.State.{M, Completion, normal, gives, refers, breaks, continues, returns, throws, at_member, bind, done, stop, unknown, choose, give, seq, with_value, with_receiver, with_all, with_place, identity, spend}
use Rattle.js_meaning.specs.Trace.{Ending}
use Rattle.js_meaning.specs.Operator.{truthy, unary_of}
use Rattle.js_meaning.specs.Scope.{behind, scope, declare, start, fill, look, function_decls, default_name}
use Rattle.js_meaning.specs.Host.{while_loop, do_loop, Task, body, turn, called_back, Enter, host_moves, report}
use Rattle.js_meaning.specs.Reference.{name_value, typeof_name, name_place, get_place}
use Rattle.js_meaning.specs.Node.{to_call, for_typeof, Ask, run, value, place, take, take_all, declares, collect, entry, matches, now, Meaning, Parts, need, may, each, all_values, value_or_undefined, ask_maybe, first_ask}
use Rattle.js_meaning.specs.Expression.{call_value, construct_value, binary_value, wanted_by, logical_value, member_place, receiver_of, assign, update_place, function_value, object_content, array_content, in_turn}
use Rattle.js_meaning.specs.Statement.{after_label, declarator, test_then, turn_does, for_does, choose_case, case_test, after_switch, try_does, catch_does}

-- parameters take the arguments in order; those that are missing are undefined (10.2.11)
unfoldable pub take_each : Parts → List Value → Env → M
take_each [] vs env = done normal
take_each (None ∷ ms) vs env = unknown
take_each (Some m ∷ ms) [] env = seq (m (take undef) env) (take_each ms [] env)
take_each (Some m ∷ ms) (v ∷ vs) env = seq (m (take v) env) (take_each ms vs env)

-- `export default` of a declaration has nothing to do; the value of an expression is kept (16.2.3.7)
abbrev pub default_does : Forest → Meaning → Env → M
default_does (node (Kind.Function function_kind.Declaration pure) n a r) m env = done normal
default_does _ m env = with_value (m now env) (λ v. fill (look env default_name) v (done normal))

-- By the enclosing entry, the kind, what lies below the node and what that does, what the node is asked, and the
-- environment.
abbrev pub does : Enter → Kind → Forest → Parts → Ask → Env → M
-- statements (14)
does E Kind.Statements a ms (run ls) env = each (run ls) ms env
does E (Kind.Directive written) a ms (run ls) env = done normal
does E Kind.EmptyStatement a ms (run ls) env = done normal
does E Kind.DebuggerStatement a ms (run ls) env = done normal
does E Kind.ExpressionStatement a ms (run ls) env = need ms (λ m r. with_value (m now env) (λ v. done normal))
does E Kind.BlockStatement a ms (run ls) env = scope a env (λ env. need ms (λ m r. m (run ls) env))
does E Kind.IfStatement a ms (run ls) env = need ms (λ t r. need r (λ c r. may r (λ d r. with_value (t now env) (λ v. choose (truthy v) (c (run ls) env) (ask_maybe d (run ls) env)))))
does E Kind.ReturnStatement a ms (run ls) env = may ms (λ o r. value_or_undefined o env (λ v. done (returns v)))
does E Kind.ThrowStatement a ms (run ls) env = need ms (λ m r. with_value (m now env) (λ v. done (throws v)))
does E (Kind.BreakStatement label) a ms (run ls) env = done (breaks label)
does E (Kind.ContinueStatement label) a ms (run ls) env = done (continues label)
does E (Kind.LabeledStatement l) a ms (run ls) env = need ms (λ m r. bind (m (run (l ∷ ls)) env) (after_label l))
does E Kind.WhileStatement a ms (run ls) env = test_then E while_loop a ms ls env
does E Kind.DoWhileStatement a ms (run ls) env = E (turn do_loop a ls env)
does E Kind.ForStatement a ms (run ls) env = for_does E a ms ls env
does E Kind.SwitchStatement a ms (run ls) env = need ms (λ d r. need r (λ cs r. with_value (d now env) (λ v. bind (cs (matches v) env) after_switch)))
does E Kind.Cases a ms (matches v) env = scope a env (λ env. choose_case ms v env (done normal))
does E Kind.SwitchCase a ms (matches v) env = may ms (λ t r. case_test v t env)
does E Kind.SwitchCase a ms (run ls) env = may ms (λ t r. need r (λ m r. m (run []) env))
does E Kind.TryStatement a ms (run ls) env = need ms (λ b r. may r (λ h r. may r (λ f r. try_does b h f env)))
does E Kind.CatchClause a ms (take v) env = catch_does a ms v env
-- declarations (14.3, 15.2, 16.2)
does E (Kind.VariableDeclaration how) a ms (run ls) env = need ms (λ m r. m (declares how) env)
does E Kind.Declarators a ms (declares how) env = each (declares how) ms env
does E Kind.VariableDeclarator a ms (declares how) env = need ms (λ name r. may r (λ m r. declarator how name m env))
does E (Kind.BindingName x) a ms (take v) env = fill (look env x) v (done normal)
does E (Kind.Function function_kind.Declaration pure) a ms (run ls) env = done normal
does E Kind.FunctionBody a ms (run ls) env = need ms (λ m r. m (run []) env)
does E Kind.Parameters a ms (take_all vs) env = take_each ms vs env
does E (Kind.ImportDeclaration source) a ms (run ls) env = done normal
does E (Kind.ExportNamedDeclaration source) a ms (run ls) env = may ms (λ m r. ask_maybe m (run []) env)
does E Kind.ExportDefaultDeclaration a ms (run ls) env = need ms (λ m r. default_does a m env)
does E (Kind.ExportAllDeclaration name source) a ms (run ls) env = done normal
-- expressions (13)
does E Kind.ThisExpression a ms (value w) env = name_value (look env this_name) this_name
does E (Kind.ReferenceName x) a ms (value for_typeof) env = typeof_name (look env x) x
does E (Kind.ReferenceName x) a ms (value w) env = name_value (look env x) x
does E (Kind.Literal v) a ms (value w) env = give (literal_value v)
does E (Kind.Function function_kind.Expression pure) a ms (value w) env = function_value function_kind.Expression a env
does E (Kind.Function function_kind.Arrow pure) a ms (value w) env = function_value function_kind.Arrow a env
does E Kind.ArrayExpression a ms (value w) env = need ms (λ m r. with_all (m collect env) (λ vs. identity (λ i. give (array i (array_content vs)))))
does E Kind.ObjectExpression a ms (value w) env = need ms (λ m r. with_all (m collect env) (λ vs. identity (λ i. give (object i (object_content (below_of a) vs no_content)))))
does E (Kind.Property how method key) a ms entry env = may ms (λ k r. need r (λ m r. m now env))
does E Kind.Elements a ms collect env = all_values now ms env
does E Kind.Properties a ms collect env = all_values entry ms env
does E Kind.Arguments a ms collect env = all_values now ms env
does E Kind.ParenthesizedExpression a ms (value w) env = need ms (λ m r. m (value w) env)
does E Kind.ParenthesizedExpression a ms place env = need ms (λ m r. m place env)
does E Kind.SequenceExpression a ms (value w) env = need ms (λ m r. m now env)
does E Kind.Expressions a ms (value w) env = in_turn ms env
does E (Kind.UnaryExpression o) a ms (value w) env = need ms (λ m r. with_value (m (value (wanted_by o)) env) (unary_of o))
does E (Kind.UpdateExpression o prefix) a ms (value w) env = need ms (λ t r. with_place (t place env) (update_place E o prefix))
does E (Kind.BinaryExpression o) a ms (value w) env = need ms (λ l r. need r (λ m r. with_value (l now env) (λ v. with_value (m now env) (binary_value E o v))))
does E (Kind.LogicalExpression o) a ms (value w) env = need ms (λ l r. need r (λ m r. with_value (l now env) (λ v. logical_value o v (m now env))))
does E (Kind.AssignmentExpression o) a ms (value w) env = need ms (λ t r. need r (λ m r. with_place (t place env) (λ p. assign E o p (m now env))))
does E Kind.ConditionalExpression a ms (value w) env = need ms (λ t r. need r (λ c r. need r (λ d r. with_value (t now env) (λ v. choose (truthy v) (c now env) (d now env)))))
does E (Kind.CallExpression false pure) a ms (value w) env = need ms (λ c r. need r (λ args r. with_receiver (c (value to_call) env) (λ f this. with_all (args collect env) (call_value E f this))))
does E (Kind.NewExpression pure) a ms (value w) env = need ms (λ c r. need r (λ args r. with_value (c now env) (λ f. with_all (args collect env) (construct_value E f))))
does E (Kind.MemberExpression key false) a ms (value w) env = member_place key ms env (λ o k. with_value (get_place E (at_member o k)) (λ v. done (gives v (receiver_of w o))))
does E (Kind.MemberExpression key false) a ms place env = member_place key ms env (λ o k. done (refers (at_member o k)))
does E (Kind.TargetName x) a ms place env = name_place (look env x) x
-- all else
does E _ a ms _ env = unknown

-- nothing is said of a node that isn't core
abbrev pub if_core : Bool → Meaning → Meaning
if_core true m = m
if_core false m = λ q env. unknown

-- what the fields of a row do
unfoldable pub eval : Enter → Forest → Parts
eval E nothing = []
eval E (absent r) = None ∷ eval E r
eval E (node k n a r) = Some (if_core (is_core k) (does E k a (eval E a))) ∷ eval E r

-- Functions (10.2.1, 10.2.11). A row: name, parameters, body.

abbrev pub take_this : FunctionKind → Value → Env → M → M
take_this function_kind.Arrow this env m = m
take_this _ this env m = fill (look env this_name) this m

abbrev pub run_code : Forest → Parts → List Value → Env → M
run_code a ms vs env =
    may ms (λ name r. need r (λ ps r. need r (λ b r. seq (ps (take_all vs) env) (start (behind (behind a)) env (b (first_ask (behind (behind a))) env)))))

abbrev pub after_call : Completion → M
after_call normal = give undef
after_call (returns v) = give v
after_call (gives v r) = give v
after_call (throws v) = done (throws v)
after_call _ = unknown

abbrev pub enter_body : Enter → FunctionKind → Forest → Env → Value → List Value → M
enter_body E f a env this vs =
    bind (declare (function_decls f a) env (λ env. take_this f this env (run_code a (eval E a) vs env))) after_call

-- What costs one

unfoldable pub task_does : Enter → Task → M
task_does E (body f a env this vs) = enter_body E f a env this vs
task_does E (turn l a ls env) = turn_does E l a (eval E a) ls env
task_does E (called_back awaited f a env this vs) = bind (enter_body E f a env this vs) (report (host_moves E awaited))

-- Entries may nest so deep. That is never less than what the budget allows, so that the depth isn't seen.
unfoldable pub enter : ℕ → Enter
enter zero t = stop Ending.out
enter (suc d) t = spend (task_does (enter d) t)
