use Rattle.std.proofs.Common.{◌∙◌, sym}
use Rattle.js_syntax.specs.Node.{nothing, row}
use Rattle.min_imports.proofs.Binding.{none_exported}
use Rattle.min_imports.proofs.passing.plan_passing.Goals as goal

pub returns-then-not-has_export-clause-planned : goal.returns-then-not-has_export-clause-planned
returns-then-not-has_export-clause-planned c = none_exported c.args.uses.now nothing (row c.args.items.now) (sym c.has_export.ensures ∙ c.if-not-has_export.true)

pub returns-clause-planned : goal.returns-clause-planned
returns-clause-planned c = c.some_go.ensures c.args.uses.now (row c.args.items.now) c.in_ok-passing.ensures
