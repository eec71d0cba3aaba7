use Rattle.std.proofs.Common.{◌∙◌, false, sym, ap}
use Rattle.std.specs.Bool.{beq}
use Rattle.std.specs.List.{list_any}
use Rattle.js_syntax.specs.Node.{nothing}
use Rattle.rules.specs.Imports.Merged.{one_goes}
use Rattle.min_imports.specs.Merging.{has_import}
use Rattle.min_imports.proofs.Planning.{none_imported, tree_stays, plan_moves}
use Rattle.min_imports.proofs.merged.merge_imports.Goals as goal

pub returns-then-not-has_import-clause-goes : goal.returns-then-not-has_import-clause-goes
returns-then-not-has_import-clause-goes c = sym (none_imported nothing c.args.node.now.below (sym (c.has_import.ensures ∙ ap has_import c.children.ensures) ∙ c.if-not-has_import.true))

pub returns-then-not-has_import-clause-left : goal.returns-then-not-has_import-clause-left
returns-then-not-has_import-clause-left c = tree_stays c.args.node.now (none_imported nothing c.args.node.now.below (sym (c.has_import.ensures ∙ ap has_import c.children.ensures) ∙ c.if-not-has_import.true))

pub returns-then-not-contains-clause-goes : goal.returns-then-not-contains-clause-goes
returns-then-not-contains-clause-goes c =
    sym c.if-not-contains.true ∙ c.contains.ensures.value ∙ ap (list_any (λ y. beq y false)) c.deref.ensures.value ∙ c.in_ok-staying.ensures.goes ∙ ap (one_goes nothing) c.children-2.ensures

pub returns-then-not-contains-clause-left : goal.returns-then-not-contains-clause-left
returns-then-not-contains-clause-left c =
    tree_stays c.args.node.now (sym (c.contains.ensures.value ∙ ap (list_any (λ y. beq y false)) c.deref.ensures.value ∙ c.in_ok-staying.ensures.goes ∙ ap (one_goes nothing) c.children-2.ensures) ∙ c.if-not-contains.true)

pub merge_items-requires : goal.merge_items-requires
merge_items-requires c = plan_moves c.in_ok-staying.staying.items c.as_slice.result.now c.in_ok-staying.changed.items c.as_mut_slice.result.now _ _ c.as_slice.ensures.value c.as_mut_slice.ensures.value c.children-2.ensures c.in_ok-staying.ensures

pub returns-clause-goes : goal.returns-clause-goes
returns-clause-goes c =
    sym c.if-not-contains.false ∙ c.contains.ensures.value ∙ ap (list_any (λ y. beq y false)) c.deref.ensures.value ∙ c.in_ok-staying.ensures.goes ∙ ap (one_goes nothing) c.children-2.ensures
