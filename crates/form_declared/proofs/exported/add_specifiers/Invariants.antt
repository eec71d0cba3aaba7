use Rattle.std.proofs.Common.{◌≡◌, ◌++◌, drop}
use Rattle.js_syntax.specs.Node.{row}
use Rattle.form_rules.specs.Rules.{named_by}
use Rattle.form_declared.proofs.exported.add_specifiers.Given as goal

abbrev pub invariant-loop-specifier : goal.invariant-loop-specifier
invariant-loop-specifier l = l.found.items ++ named_by l.place (row (drop l.specifier-index l.specifiers)) ≡ l.fn.found.items ++ named_by l.place (row l.specifiers)
