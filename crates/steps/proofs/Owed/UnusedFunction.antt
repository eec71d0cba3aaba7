-- What a function declaration that nothing uses owes.
use Rattle.std.proofs.Common.{inl, arith, refl, ap, Some, true, false, not}
use Rattle.std.proofs.lemmas.Bool.{and_from}
use Rattle.js_syntax.specs.declared.node_kind.NodeKind.TheVariants.{Function as function, BindingName as binding_name}
use Rattle.js_syntax.specs.declared.kind.FunctionKind.TheVariants as function_kind
use Rattle.js_syntax.specs.declared.kind.VariableKind.TheVariants as variable
use Rattle.js_syntax.specs.Node.{Tree, nothing, node}
use Rattle.min_pass.specs.Around.{outermost as asked_of_program}
use Rattle.scope_rules.specs.Context.{outermost}
use Rattle.scope_laws.specs.Place.{Around, plug}
use Rattle.steps.specs.Allowed.Changing.{holds_items}
use Rattle.steps.specs.Allowed.Free.{Free}
use Rattle.steps.specs.Allowed.Places.{asked_at}
use Rattle.steps.specs.Allowed.UnusedFunction.{UnusedFunction, unused_function_leaves}
use Rattle.steps.specs.Owed.Owed.{IsUnexported, by_going, Leaving}
use Rattle.steps.proofs.Owed.Focus.{follows_there}
use Rattle.steps.proofs.Owed.Unseen.{unseen_function}
use Rattle.steps.proofs.Owed.Unexported.{function_out}
use Rattle.steps.proofs.Owed.AsSteps.{function_step}

pub unused_function_owes : (a : Around) (x : Tree) → UnusedFunction a x → Leaving a x
unused_function_owes a x (unused_function_leaves pure n m name rest item own free) =
    let y : Tree = record { kind = function function_kind.Declaration pure; note = n; below = node (binding_name name) m nothing rest } in
    let t = plug a (Some y) in
    record {
      weighs = Prim.omega arith;
      listed = inl item;
      no_directive = refl;
      no_call = inl (record { counts = refl; lists = λ m. refl; begins = λ m. refl; calls = refl });
      may_change = inl (and_from (holds_items (asked_at (asked_of_program true) a).row) _ (ap holds_items item) (ap not own));
      unseen = λ e. inl (unseen_function a pure n m name rest e free);
      unexported = follows_there (Free t variable.Let name) (IsUnexported t y) (λ b c next h z within right seeks. function_out t z.exported c next name z.sought pure n m rest within right h seeks) (Some y) a false (λ at. outermost) 0 0 free;
      runs = by_going (λ w good. function_step a pure n m name rest w good item free);
    }
