-- What a name of an import that nothing uses owes.
use Rattle.std.proofs.Common.{inl, inr, arith, Some, true, false}
use Rattle.js_syntax.specs.declared.node_kind.NodeKind.TheVariants.{BindingName as binding_name}
use Rattle.js_syntax.specs.Node.{Tree, nothing, node}
use Rattle.min_pass.specs.Around.{outermost as asked_of_program}
use Rattle.scope_rules.specs.Context.{outermost}
use Rattle.scope_laws.specs.Place.{Around, plug}
use Rattle.steps.specs.Allowed.Exposure.{exposure, evaluates_somewhere}
use Rattle.steps.specs.Allowed.Free.{FreeDeclarator}
use Rattle.steps.specs.Allowed.Places.{asked_at}
use Rattle.steps.specs.Allowed.UnusedImport.{UnusedImport, unused_import_leaves}
use Rattle.steps.specs.Owed.Owed.{IsUnexported, by_going, Leaving}
use Rattle.steps.proofs.Owed.Focus.{follows_there}
use Rattle.steps.proofs.Owed.ImportFacts.{import_facts, imported_unreferred, imported_out}
use Rattle.steps.proofs.Owed.ImportSteps.{import_stepped}
use Rattle.steps.proofs.Owed.Unseen.{unseen_there}

pub unused_import_owes : (a : Around) (x : Tree) → UnusedImport a x → Leaving a x
unused_import_owes a x (unused_import_leaves k n m name binds imported own free) =
    let below = node (binding_name name) m nothing nothing in
    let y : Tree = record { kind = k; note = n; below = below } in
    let t = plug a (Some y) in
    let facts = import_facts k n below binds in
    record {
      weighs = Prim.omega (arith, facts.weighs);
      listed = inr (inr imported);
      no_directive = facts.no_directive;
      no_call = inl facts.other;
      may_change = inl (facts.may_change (evaluates_somewhere t) (asked_at (asked_of_program true) a) (exposure a (Some y)));
      unseen = λ e. inl (unseen_there a (Some y) (FreeDeclarator t name) free (λ b w cs place next there g. inr (imported_unreferred name m t k n binds cs place next there b g)));
      unexported = follows_there (FreeDeclarator t name) (IsUnexported t y) (λ b c next h z within right seeks. imported_out name m t z.exported c next z.sought k n binds within h seeks) (Some y) a false (λ at. outermost) 0 0 free;
      runs = by_going (λ w good. import_stepped k n m name binds a w good imported free);
    }
