use Rattle.std.proofs.Common.{◌∙◌, Some, None, sym, ap}
use Rattle.js_syntax.specs.declared.node_kind.NodeKind.TheVariants.{ExpressionStatement as expression_statement}
use Rattle.js_syntax.specs.declared.scalar.Span.{Span}
use Rattle.js_syntax.specs.Node.{Forest, Tree, Note, row}
use Rattle.min_statements.proofs.Tests.{test_kept, test_edited}
use Rattle.min_statements.proofs.empty_ifs.keep_test.Goals as goal

pub returns-clause-kept : goal.returns-clause-kept
returns-clause-kept c =
    test_kept c.args.node.now.note (record { span = c.span-span.result; id = None }) c.args.node.now.kind c.args.node.now.below c.replace_children-children.result.items c.requires.empty c.replace_children-children.ensures.taken
    (ap {A = Span} {B = Note} (λ p. record { span = p; id = None }) c.span-span.ensures)
    ∙ ap Some (sym (c.replace_statement.ensures.put ∙ c.new-statement.ensures
    ∙ ap {A = Forest} {B = Tree} (λ b. record { kind = expression_statement; note = record { span = c.span-span.result; id = None }; below = b }) (ap row c.truncate.ensures.items)))

pub returns-clause-edited : goal.returns-clause-edited
returns-clause-edited c =
    test_edited c.args.node.now
    (test_kept c.args.node.now.note (record { span = c.span-span.result; id = None }) c.args.node.now.kind c.args.node.now.below c.replace_children-children.result.items c.requires.empty c.replace_children-children.ensures.taken
    (ap {A = Span} {B = Note} (λ p. record { span = p; id = None }) c.span-span.ensures)
    ∙ ap Some (sym (c.replace_statement.ensures.put ∙ c.new-statement.ensures
    ∙ ap {A = Forest} {B = Tree} (λ b. record { kind = expression_statement; note = record { span = c.span-span.result; id = None }; below = b }) (ap row c.truncate.ensures.items))))
    c.replace_children-children.ensures.kind c.replace_children-children.ensures.note (c.replace_children-children.ensures.below ∙ ap row c.new.ensures.items) c.replace_statement.ensures.dropped
