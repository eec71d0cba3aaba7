-- What an empty statement that leaves its list owes.
use Rattle.std.proofs.Common.{inl, arith, refl, ap, Some, subst, false}
use Rattle.js_syntax.specs.declared.node_kind.NodeKind.TheVariants.{EmptyStatement as empty_kind}
use Rattle.js_syntax.specs.Node.{Tree, nothing}
use Rattle.scope_rules.specs.Context.{outermost}
use Rattle.scope_laws.specs.Exact.{Among}
use Rattle.scope_laws.specs.Place.{Around, plug}
use Rattle.scope_laws.proofs.Around.{none_there}
use Rattle.steps.specs.Allowed.Changing.{holds_items}
use Rattle.steps.specs.Allowed.EmptyStatement.{EmptyStatement, empty_statement_leaves}
use Rattle.steps.specs.KeepForm.Sheds.{exports_none}
use Rattle.steps.proofs.KeepForm.ShedNames.{declares_nothing}
use Rattle.steps.specs.Owed.Owed.{IsUnexported, by_going, Leaving}
use Rattle.steps.proofs.Owed.Focus.{always, follows_there}
use Rattle.steps.proofs.Owed.AsSteps.{empty_step}

pub empty_statement_owes : (a : Around) (x : Tree) → EmptyStatement a x → Leaving a x
empty_statement_owes a x (empty_statement_leaves n item) =
    let y : Tree = record { kind = empty_kind; note = n; below = nothing } in
    record {
      weighs = Prim.omega arith;
      listed = inl item;
      no_directive = refl;
      no_call = inl (record { counts = refl; lists = λ m. refl; begins = λ m. refl; calls = refl });
      may_change = inl (ap holds_items item);
      unseen = λ e. inl (λ b h. absurd (subst (Among b) (none_there (λ at. outermost) 0 0 a (Some y) refl) h));
      unexported = follows_there (λ b c i. Unit {0}) (IsUnexported (plug a (Some y)) y) (λ b c i h z within right seeks. ap (exports_none z.exported) (declares_nothing z.sought 0 n nothing)) (Some y) a false (λ at. outermost) 0 0
          (always (Some y) a false (λ at. outermost) 0 0);
      runs = by_going (λ w good. empty_step a n w good item);
    }
