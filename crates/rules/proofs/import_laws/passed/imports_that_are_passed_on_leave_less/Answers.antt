use Rattle.js_syntax.specs.Node.{nothing}
use Rattle.rules.proofs.Imports.Passing.{rule_lighter, rule_refers, rule_calls, rule_gone, none_pass}
use Rattle.rules.proofs.import_laws.passed.imports_that_are_passed_on_leave_less.Goals as goal

pub returns : goal.returns
returns c = record { lighter = rule_lighter; references = rule_refers; calls = rule_calls; gone = rule_gone; same = λ f. none_pass f nothing }
