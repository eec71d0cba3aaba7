-- What a declaration of one declarator that nothing uses owes.
use Rattle.std.proofs.Common.{inl, arith, refl, ap, Some, true, false, not}
use Rattle.std.proofs.lemmas.Bool.{and_from}
use Rattle.js_syntax.specs.declared.node_kind.NodeKind.TheVariants.{VariableDeclaration as variable_declaration, BindingName as binding_name}
use Rattle.js_syntax.specs.Node.{Tree, nothing, node}
use Rattle.min_pass.specs.Around.{outermost as asked_of_program}
use Rattle.scope_rules.specs.Context.{outermost}
use Rattle.scope_rules.specs.Site.{sites_of, bindings_among}
use Rattle.scope_laws.specs.Place.{Around, plug}
use Rattle.steps.specs.Allowed.Changing.{holds_items}
use Rattle.steps.specs.Allowed.Free.{Free}
use Rattle.steps.specs.Allowed.Places.{asked_at, in_class_at}
use Rattle.steps.specs.Allowed.Silent.{inside_of}
use Rattle.steps.specs.Allowed.UnusedDeclaration.{SilentDeclaration, one_declarator, UnusedDeclaration, unused_declaration_leaves}
use Rattle.steps.specs.Owed.Owed.{IsUnexported, by_going, Leaving}
use Rattle.steps.proofs.Owed.Focus.{both_there, follows_there}
use Rattle.steps.proofs.Owed.SilentSought.{silent_declares_nothing}
use Rattle.steps.proofs.Owed.Unseen.{unseen_declaration}
use Rattle.steps.proofs.Owed.Unexported.{declaration_out}
use Rattle.steps.proofs.Owed.AsSteps.{declaration_step}

pub unused_declaration_owes : (a : Around) (x : Tree) → UnusedDeclaration a x → Leaving a x
unused_declaration_owes a x (unused_declaration_leaves how n m l j name value item own silent free) =
    let inner = node (binding_name name) j nothing value in
    let y : Tree = record { kind = variable_declaration how; note = n; below = one_declarator m l inner } in
    let t = plug a (Some y) in
    record {
      weighs = Prim.omega arith;
      listed = inl item;
      no_directive = refl;
      no_call = inl (record { counts = refl; lists = λ m. refl; begins = λ m. refl; calls = refl });
      may_change = inl (and_from (holds_items (asked_at (asked_of_program true) a).row) _ (ap holds_items item) (ap not own));
      unseen = λ e. inl (unseen_declaration a how n m l j name value e silent free);
      unexported = follows_there (λ b c i. SilentDeclaration t how m l inner (in_class_at a) b c i × Free t how name b c i) (IsUnexported t y)
          (λ b c next h z within right seeks. declaration_out t z.exported c next name z.sought how n m l j value within (λ f p. silent_declares_nothing f (bindings_among (sites_of t)) (inside_of (in_class_at a) b) _ 1 _ p value h.0.1) h.1 seeks) (Some y) a false (λ at. outermost) 0 0
          (both_there (SilentDeclaration t how m l inner (in_class_at a)) (Free t how name) (Some y) a false (λ at. outermost) 0 0 silent free);
      runs = by_going (λ w good. declaration_step a how n m l j name value w good item silent free);
    }
