use Rattle.std.proofs.Common.{◌≡◌, ℕ, List, [], drop}
use Rattle.form_rules.specs.Break.{least}
use Rattle.form_rules.specs.Rules.{Private, each_breaks, repeated_privates}
use Rattle.form_names.specs.Names.{known_at}
use Rattle.form_names.specs.Halves.{no_halves}
use Rattle.form_names.proofs.Firsts.{IsFirst}
use Rattle.form_names.proofs.Repeating.{halves_of}
use Rattle.form_names.proofs.privates.first_repeated_private.Given as goal

abbrev pub invariant-loop-private : goal.invariant-loop-private
invariant-loop-private l = record {
  seen : List Private;
  known : (q : List ℕ) → known_at no_halves l.known q ≡ halves_of seen q;
  first : IsFirst 4 l.first (least (each_breaks 4 (repeated_privates [] l.privates))) (repeated_privates seen (drop l.private-index l.privates));
}
