use Rattle.std.proofs.Common.{◌∙◌, [], sym, ap}
use Rattle.js_syntax.specs.Node.{row}
use Rattle.min_imports.specs.Items.{has_nameless}
use Rattle.min_imports.proofs.Asking.{none_nameless}
use Rattle.min_imports.proofs.Staying.{some_told, tree_same}
use Rattle.min_imports.proofs.repeated.drop_repeated.Goals as goal

pub returns-then-not-has_nameless-clause-repeated : goal.returns-then-not-has_nameless-clause-repeated
returns-then-not-has_nameless-clause-repeated c = sym (none_nameless [] c.args.node.now.below (sym (c.has_nameless.ensures ∙ ap has_nameless c.children.ensures) ∙ c.if-not-has_nameless.true))

pub returns-then-not-has_nameless-clause-left : goal.returns-then-not-has_nameless-clause-left
returns-then-not-has_nameless-clause-left c = tree_same c.args.node.now (none_nameless [] c.args.node.now.below (sym (c.has_nameless.ensures ∙ ap has_nameless c.children.ensures) ∙ c.if-not-has_nameless.true))

pub returns-then-not-contains-clause-repeated : goal.returns-then-not-contains-clause-repeated
returns-then-not-contains-clause-repeated c =
    sym c.if-not-contains.true ∙ some_told c.contains.result c.deref.result.now c.in_ok-staying.staying.items (row c.children-2.result.now) c.args.node.now.below c.contains.ensures.value c.deref.ensures.value c.in_ok-staying.ensures c.children-2.ensures

pub returns-then-not-contains-clause-left : goal.returns-then-not-contains-clause-left
returns-then-not-contains-clause-left c =
    tree_same c.args.node.now
    (sym (some_told c.contains.result c.deref.result.now c.in_ok-staying.staying.items (row c.children-2.result.now) c.args.node.now.below c.contains.ensures.value c.deref.ensures.value c.in_ok-staying.ensures c.children-2.ensures)
    ∙ c.if-not-contains.true)

pub returns-clause-repeated : goal.returns-clause-repeated
returns-clause-repeated c =
    sym c.if-not-contains.false ∙ some_told c.contains.result c.deref.result.now c.in_ok-staying.staying.items (row c.children-2.result.now) c.args.node.now.below c.contains.ensures.value c.deref.ensures.value c.in_ok-staying.ensures c.children-2.ensures
