use Rattle.std.proofs.Common.{◌≡◌, ℕ, List, [], drop}
use Rattle.form_rules.specs.Break.{least}
use Rattle.form_rules.specs.Rules.{Exported, each_breaks, is_exported, repeated_exports}
use Rattle.form_names.specs.Names.{has_name}
use Rattle.form_names.proofs.Firsts.{IsFirst}
use Rattle.form_names.proofs.exports.first_repeated_export.Given as goal

abbrev pub invariant-loop-export : goal.invariant-loop-export
invariant-loop-export l = record {
  seen : List Exported;
  known : (q : List ℕ) → has_name l.names q ≡ is_exported q seen;
  first : IsFirst 7 l.first (least (each_breaks 7 (repeated_exports [] l.exported))) (repeated_exports seen (drop l.export-index l.exported));
}
