use Rattle.std.proofs.Common.{◌≡◌, ◌++◌, drop}
use Rattle.form_rules.specs.Rules.{exports_of}
use Rattle.form_declared.proofs.exported.add_names.Given as goal

abbrev pub invariant-loop-name : goal.invariant-loop-name
invariant-loop-name l = l.found.items ++ exports_of l.place (drop l.name-index l.names) ≡ l.fn.found.items ++ exports_of l.place l.names
