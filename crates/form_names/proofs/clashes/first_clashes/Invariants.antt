use Rattle.std.proofs.Common.{◌≡◌, ℕ, List, [], drop}
use Rattle.form_rules.specs.Break.{least}
use Rattle.form_rules.specs.Scope.{Declared, clash, both_parameters, variable_of_catch}
use Rattle.form_rules.specs.Rules.{each_breaks}
use Rattle.form_names.specs.Names.{known_at}
use Rattle.form_names.specs.Sorts.{no_sorts}
use Rattle.form_names.proofs.Firsts.{IsFirst}
use Rattle.form_names.proofs.Clashing.{sorts_of, clashing}
use Rattle.form_names.proofs.clashes.first_clashes.Given as goal

abbrev pub invariant-loop-declared : goal.invariant-loop-declared
invariant-loop-declared l = record {
  seen : List Declared;
  known : (q : List ℕ) → known_at no_sorts l.known q ≡ sorts_of seen q;
  lexical : IsFirst 1 l.first.lexical (least (each_breaks 1 (clashing clash [] l.found))) (clashing clash seen (drop l.declared-index l.found));
  parameters : IsFirst 2 l.first.parameters (least (each_breaks 2 (clashing both_parameters [] l.found))) (clashing both_parameters seen (drop l.declared-index l.found));
  variables : IsFirst 9 l.first.variables (least (each_breaks 9 (clashing variable_of_catch [] l.found))) (clashing variable_of_catch seen (drop l.declared-index l.found));
}
