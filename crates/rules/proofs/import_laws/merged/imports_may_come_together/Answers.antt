use Rattle.rules.proofs.Imports.Together.{rule_edits}
use Rattle.rules.proofs.import_laws.merged.imports_may_come_together.Goals as goal

pub returns : goal.returns
returns c = rule_edits
