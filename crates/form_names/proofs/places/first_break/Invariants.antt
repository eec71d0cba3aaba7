use Rattle.std.proofs.Common.{drop}
use Rattle.form_rules.specs.Break.{least}
use Rattle.form_rules.specs.Rules.{each_breaks}
use Rattle.form_names.proofs.Firsts.{IsFirst}
use Rattle.form_names.proofs.places.first_break.Given as goal

abbrev pub invariant-loop-place : goal.invariant-loop-place
invariant-loop-place l = IsFirst l.rule l.first (least (each_breaks l.rule l.places)) (drop l.place-index l.places)
