-- What a declarator that nothing uses owes, where others stay.
use Rattle.std.proofs.Common.{inl, inr, arith, refl, ap, Some, true, false, not}
use Rattle.std.proofs.lemmas.Bool.{and_from}
use Rattle.js_syntax.specs.declared.node_kind.NodeKind.TheVariants.{VariableDeclarator as variable_declarator, BindingName as binding_name}
use Rattle.js_syntax.specs.Node.{Tree, nothing, node}
use Rattle.min_pass.specs.Around.{outermost as asked_of_program}
use Rattle.scope_rules.specs.Context.{outermost}
use Rattle.scope_rules.specs.Site.{sites_of, bindings_among}
use Rattle.scope_laws.specs.Place.{Around, plug}
use Rattle.steps.specs.Allowed.Changing.{holds_declarators}
use Rattle.steps.specs.Allowed.Free.{FreeDeclarator}
use Rattle.steps.specs.Allowed.Places.{asked_at, in_class_at}
use Rattle.steps.specs.Allowed.Silent.{inside_of}
use Rattle.steps.specs.Allowed.UnusedDeclarator.{SilentDeclarator, UnusedDeclarator, unused_declarator_leaves}
use Rattle.steps.specs.Owed.Owed.{IsUnexported, by_going, Leaving}
use Rattle.steps.proofs.Owed.Focus.{both_there, follows_there}
use Rattle.steps.proofs.Owed.SilentSought.{silent_declares_nothing}
use Rattle.steps.proofs.Owed.Unseen.{unseen_declarator}
use Rattle.steps.proofs.Owed.Unexported.{declarator_out}
use Rattle.steps.proofs.Owed.AsSteps.{declarator_step}

pub unused_declarator_owes : (a : Around) (x : Tree) → UnusedDeclarator a x → Leaving a x
unused_declarator_owes a x (unused_declarator_leaves n m name value item others own silent free) =
    let inner = node (binding_name name) m nothing value in
    let y : Tree = record { kind = variable_declarator; note = n; below = inner } in
    let t = plug a (Some y) in
    record {
      weighs = Prim.omega arith;
      listed = inr (inl (item, others));
      no_directive = refl;
      no_call = inl (record { counts = refl; lists = λ m. refl; begins = λ m. refl; calls = refl });
      may_change = inl (and_from (holds_declarators (asked_at (asked_of_program true) a).row) _ (ap holds_declarators item) (ap not own));
      unseen = λ e. inl (unseen_declarator a n m name value e silent free);
      unexported = follows_there (λ b c i. SilentDeclarator t inner (in_class_at a) b c i × FreeDeclarator t name b c i) (IsUnexported t y)
          (λ b c next h z within right seeks. declarator_out t z.exported c next name z.sought n m value within (λ f p. silent_declares_nothing f (bindings_among (sites_of t)) (inside_of (in_class_at a) b) _ 1 _ p value h.0.1) h.1 seeks) (Some y) a false (λ at. outermost) 0 0
          (both_there (SilentDeclarator t inner (in_class_at a)) (FreeDeclarator t name) (Some y) a false (λ at. outermost) 0 0 silent free);
      runs = by_going (λ w good. declarator_step a n m name value w good item others silent free);
    }
