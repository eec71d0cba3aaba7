use Rattle.std.proofs.Common.{drop}
use Rattle.form_rules.specs.Break.{least}
use Rattle.form_rules.specs.Rules.{each_breaks, undeclared}
use Rattle.form_names.proofs.Firsts.{IsFirst}
use Rattle.form_names.proofs.exports.undeclared_among.Given as goal

abbrev pub invariant-loop-export : goal.invariant-loop-export
invariant-loop-export l = IsFirst 7 l.first (least (each_breaks 7 (undeclared l.declared l.exported))) (undeclared l.declared (drop l.export-index l.exported))
