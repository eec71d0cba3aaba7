-- What frames and plans mean: what is done with the completion of what is computed now, and what follows it.
use Rattle.std.specs.Prelude.{Bool, true, false, List, [], ◌∷◌, ◌++◌, Option, Some, None}
use Rattle.js_syntax.specs.Facts.{is_core}
use Rattle.js_syntax.specs.Node.{Forest, Tree}
use Rattle.js_syntax.specs.declared.operator.BinaryOperator.TheVariants as binary
use Rattle.js_meaning.specs.Value.{Text, Env, Value, object, array, no_content}
use Rattle.js_meaning.specs.Trace.{Ending}
use Rattle.js_meaning.specs.State.{M, Completion, Place, normal, gives, gives_all, refers, returns, throws, at_member, bind, done, stop, choose, give, if_normal, if_gives, if_gives_all, if_refers, with_value, with_all, identity}
use Rattle.js_meaning.specs.Operator.{truthy, unary_of, binary_of, on_number, updated, is_boolean, is_object}
use Rattle.js_meaning.specs.Scope.{first_of, behind, lexical, copy, start, fill, look, default_name}
use Rattle.js_meaning.specs.Host.{Loop, while_loop, do_loop, for_loop, Enter, host_moves, report}
use Rattle.js_meaning.specs.Reference.{get_place, put_place}
use Rattle.js_meaning.specs.Node as meant
use Rattle.js_meaning.specs.Node.{Meaning, Parts, run, take, matches, declares, collect, entry, now, need, may, each, values, value_or_undefined, ask_maybe, first_ask}
use Rattle.js_meaning.specs.Expression.{call_value, construct_value, binary_value, logical_value, known_key, member_key, receiver_of, then_put, assign, update_place, update_gives, object_content, array_content, in_turn}
use Rattle.js_meaning.specs.Statement.{after_label, after_turn, enter_if, test_then, after_init, case_is, choose_case, after_switch, after_block, after_finally}
use Rattle.js_meaning.specs.Module.{load_all}
use Rattle.js_meaning.specs.Meaning.{does, if_core, eval, take_each, after_call}
use Rattle.js_meaning.specs.Run.{finish, finally}
use Rattle.run_value.specs.View.{value_of}
use Rattle.run_world.specs.World.{values_of, place_of, completion_of, replies}
use Rattle.run_plan.specs.Held.{texts_of}
use Rattle.run_plan.specs.Ask.{wanted_of, ask_of, loop_of, task_of}
use Rattle.run_plan.specs.declared.frame.Use.{Use}
use Rattle.run_plan.specs.declared.frame.Use.TheVariants.{Read, Refer}
use Rattle.run_plan.specs.declared.frame.AfterNormal.{AfterNormal}
use Rattle.run_plan.specs.declared.frame.AfterNormal.TheVariants as after_normal
use Rattle.run_plan.specs.declared.frame.AfterStatement.{AfterStatement}
use Rattle.run_plan.specs.declared.frame.AfterStatement.TheVariants as after_statement
use Rattle.run_plan.specs.declared.frame.AfterOperand.{AfterOperand}
use Rattle.run_plan.specs.declared.frame.AfterOperand.TheVariants as after_operand
use Rattle.run_plan.specs.declared.frame.AfterTarget.{AfterTarget}
use Rattle.run_plan.specs.declared.frame.AfterTarget.TheVariants as after_target
use Rattle.run_plan.specs.declared.frame.AfterValues.{AfterValues}
use Rattle.run_plan.specs.declared.frame.AfterValues.TheVariants as after_values
use Rattle.run_plan.specs.declared.frame.AfterPlace.{AfterPlace}
use Rattle.run_plan.specs.declared.frame.AfterPlace.TheVariants as after_place
use Rattle.run_plan.specs.declared.frame.AfterCompletion.{AfterCompletion}
use Rattle.run_plan.specs.declared.frame.AfterCompletion.TheVariants as after_completion
use Rattle.run_plan.specs.declared.frame.Frame.{Frame}
use Rattle.run_plan.specs.declared.frame.Frame.TheVariants as frame
use Rattle.run_plan.specs.declared.plan.Control.{Control}
use Rattle.run_plan.specs.declared.plan.Control.TheVariants as control
use Rattle.run_plan.specs.declared.plan.Plan.{Plan}

-- what a node does
abbrev pub meaning : Enter → Tree → Meaning
meaning E t = if_core (is_core t.kind) (does E t.kind t.below (eval E t.below))

abbrev pub maybe_meaning : Enter → Option Tree → Option Meaning
maybe_meaning E None = None
maybe_meaning E (Some t) = Some (meaning E t)

-- another turn of a loop, or what comes before it
abbrev pub again : Enter → Loop → Forest → Parts → List Text → Env → M
again E while_loop a ms labels env = test_then E while_loop a ms labels env
again E do_loop a ms labels env = test_then E do_loop a ms labels env
again E for_loop a ms labels env =
    may ms (λ i r. may r (λ t r. may r (λ u r. copy (lexical (first_of a)) env (λ env. value_or_undefined u env (λ v. test_then E for_loop a ms labels env)))))

-- the default of a switch and the cases behind it, where there is one
abbrev pub default_from : Enter → Option Forest → Env → M
default_from E None env = done normal
default_from E (Some r) env = each (run []) (eval E r) env

-- these cases, where the test of the first gave this
abbrev pub case_found : Enter → Forest → Value → Env → M → Value → M
case_found E here v env default found =
    case_is found (each (run []) (eval E here) env) (choose_case (eval E (behind here)) v env default) (choose_case (eval E (behind here)) v env (each (run []) (eval E here) env))

-- the property of an object under a key
abbrev pub used : Enter → Use → Value → Value → M
used E (Read w) o k = with_value (get_place E (at_member o k)) (λ v. done (gives v (receiver_of (wanted_of w) o)))
used E Refer o k = done (refers (at_member o k))

abbrev pub entry_or_now : Bool → meant.Ask
entry_or_now true = entry
entry_or_now false = now

-- the body of a function, once its parameters have their values
abbrev pub start_body : Enter → Forest → Env → M
start_body E a env = start a env (need (eval E a) (λ b r. b (first_ask a) env))

abbrev pub after_normal_of : Enter → AfterNormal → M
after_normal_of E (after_normal.Each labels rest env) = each (run labels) (eval E rest) env
after_normal_of E (after_normal.Declare how rest env) = each (declares how) (eval E rest) env
after_normal_of E (after_normal.Run t env) = meaning E t (run []) env
after_normal_of E (after_normal.TakeEach rest vs env) = take_each (eval E rest) (values_of vs.items) env
after_normal_of E (after_normal.Body a env) = start_body E a env

abbrev pub after_statement_of : Enter → AfterStatement → Value → M
after_statement_of E after_statement.Discard v = done normal
after_statement_of E (after_statement.If taken other labels env) v = choose (truthy v) (meaning E taken (run labels) env) (ask_maybe (maybe_meaning E other) (run labels) env)
after_statement_of E after_statement.Return v = done (returns v)
after_statement_of E after_statement.Throw v = done (throws v)
after_statement_of E (after_statement.Test l a labels env) v = enter_if E (loop_of l) a labels env v
after_statement_of E (after_statement.Update a labels env) v = test_then E for_loop a (eval E a) labels env
after_statement_of E (after_statement.Switch cases env) v = bind (meaning E cases (matches v) env) after_switch
after_statement_of E (after_statement.Case here u default env) v = case_found E here (value_of u) env (default_from E default env) v
after_statement_of E (after_statement.CaseTest u) v = binary_of binary.StrictEquality (value_of u) v
after_statement_of E (after_statement.Initial name env) v = meaning E name (take v) env
after_statement_of E (after_statement.Default env) v = fill (look env default_name) v (done normal)
after_statement_of E (after_statement.Load sources) v = load_all E (texts_of sources.items)

abbrev pub after_operand_of : Enter → AfterOperand → Value → Value → M
after_operand_of E (after_operand.Collect entries rest env before) v this = values (entry_or_now entries) (eval E rest) env (λ vs. done (gives_all (values_of before.items ++ (v ∷ vs))))
after_operand_of E (after_operand.InTurn rest env) v this = in_turn (eval E rest) env
after_operand_of E (after_operand.Given u) v this = give (value_of u)
after_operand_of E (after_operand.Receiver u) v this = done (gives v (value_of u))
after_operand_of E (after_operand.Unary o) v this = unary_of o v
after_operand_of E (after_operand.Left o m env) v this = with_value (meaning E m now env) (binary_value E o v)
after_operand_of E (after_operand.Right o u) v this = binary_value E o (value_of u) v
after_operand_of E (after_operand.Logical o m env) v this = logical_value o v (meaning E m now env)
after_operand_of E (after_operand.Conditional c d env) v this = choose (truthy v) (meaning E c now env) (meaning E d now env)
after_operand_of E (after_operand.Callee args env) v this = with_all (meaning E args collect env) (call_value E v this)
after_operand_of E (after_operand.NewCallee args env) v this = with_all (meaning E args collect env) (construct_value E v)
after_operand_of E (after_operand.MemberOf key rest env aim) v this = member_key key (eval E rest) env (used E aim v)
after_operand_of E (after_operand.MemberKey o aim) v this = known_key (used E aim (value_of o)) v
after_operand_of E after_operand.OnlyBoolean v this = choose (is_boolean v) (give v) (stop Ending.host_stopped)
after_operand_of E after_operand.OnlyObject v this = choose (is_object v) (give v) (stop Ending.host_stopped)

abbrev pub after_target_of : Enter → AfterTarget → Value → M
after_target_of E (after_target.Update o prefix p) v = with_value (on_number (updated o) v) (λ new. with_value (put_place E (place_of p) new) (λ u. update_gives prefix v new))
after_target_of E (after_target.Put p) v = put_place E (place_of p) v
after_target_of E (after_target.Compound o p m env) v = with_value (meaning E m now env) (λ u. then_put E (place_of p) (binary_of o v u))
after_target_of E (after_target.CompoundRight o old p) v = then_put E (place_of p) (binary_of o (value_of old) v)
after_target_of E (after_target.Short o p m env) v = logical_value o v (then_put E (place_of p) (meaning E m now env))

abbrev pub after_values_of : Enter → AfterValues → List Value → M
after_values_of E after_values.Array vs = identity (λ i. give (array i (array_content vs)))
after_values_of E (after_values.Object a) vs = identity (λ i. give (object i (object_content a vs no_content)))
after_values_of E (after_values.Call f this) vs = call_value E (value_of f) (value_of this) vs
after_values_of E (after_values.New f) vs = construct_value E (value_of f) vs

abbrev pub after_place_of : Enter → AfterPlace → Place → M
after_place_of E (after_place.Update o prefix) p = update_place E o prefix p
after_place_of E (after_place.Assign o m env) p = assign E o p (meaning E m now env)

abbrev pub after_completion_of : Enter → AfterCompletion → Completion → M
after_completion_of E (after_completion.Label l) c = after_label l.now c
after_completion_of E (after_completion.Turn l a labels env) c = after_turn labels (again E (loop_of l) a (eval E a) labels env) c
after_completion_of E (after_completion.Init a labels env) c = after_init (copy (lexical (first_of a)) env (test_then E for_loop a (eval E a) labels)) c
after_completion_of E after_completion.Cases c = after_switch c
after_completion_of E (after_completion.Handler handler env) c = after_block (maybe_meaning E handler) env c
after_completion_of E (after_completion.Finalizer finalizer env) c = bind (ask_maybe (maybe_meaning E finalizer) (run []) env) (after_finally c)
after_completion_of E (after_completion.Finalized before) c = after_finally (completion_of before) c
after_completion_of E after_completion.Call c = after_call c
after_completion_of E (after_completion.Report awaited) c = report (host_moves E awaited) c
after_completion_of E after_completion.Finish c = finish E c
after_completion_of E after_completion.Finally c = finally c

-- what a frame does with a completion
abbrev pub applies : Enter → Frame → Completion → M
applies E (frame.Normal f) c = if_normal (after_normal_of E f.value) c
applies E (frame.Statement f) c = if_gives (λ v this. after_statement_of E f.value v) c
applies E (frame.Operand f) c = if_gives (after_operand_of E f.value) c
applies E (frame.Target f) c = if_gives (λ v this. after_target_of E f.value v) c
applies E (frame.Values f) c = if_gives_all (after_values_of E f.value) c
applies E (frame.Place f) c = if_refers (after_place_of E f.value) c
applies E (frame.Completion f) c = after_completion_of E f.value c

-- what follows a computation, the nearest last
abbrev pub onto : Enter → List Frame → M → M
onto E [] m = m
onto E (f ∷ fs) m = bind (onto E fs m) (applies E f)

abbrev pub controls : Enter → Control → M
controls E (control.Node t ask env) = meaning E t (ask_of ask) env
controls E (control.Enter task) = E (task_of task)
controls E (control.Reply r) = replies r

abbrev pub plans : Enter → Plan → M
plans E p = onto E p.then.items (controls E p.control.value)
