use Rattle.std.proofs.Common.{◌≡◌, drop}
use Rattle.js_syntax.specs.Node.{row}
use Rattle.rules.specs.Imports.Rules.{one_goes}
use Rattle.min_statements.proofs.imports.one_goes.Given as goal

abbrev pub invariant-loop-specifier : goal.invariant-loop-specifier
invariant-loop-specifier l = one_goes l.facts l.at (row l.specifiers) ≡ one_goes l.facts l.at (row (drop l.specifier-index l.specifiers))
