use Rattle.std.proofs.Common.{◌∙◌, sym, ap}
use Rattle.min_imports.specs.Passing.{is_plain, specifiers_of}
use Rattle.min_imports.proofs.Binding.{plain_there, plain_not}
use Rattle.min_imports.proofs.passing.exports_names.Goals as goal

pub returns-then-is_plain : goal.returns-then-is_plain
returns-then-is_plain c = c.specifiers_of.ensures ∙ ap specifiers_of c.children.ensures ∙ plain_there c.args.node.now.kind c.args.node.now.below (ap is_plain (sym c.kind.ensures) ∙ sym c.is_plain.ensures ∙ c.if-is_plain.true)

pub returns-else-is_plain : goal.returns-else-is_plain
returns-else-is_plain c = plain_not c.args.node.now.kind c.args.node.now.below (ap is_plain (sym c.kind.ensures) ∙ sym c.is_plain.ensures ∙ c.if-is_plain.false)
