use Rattle.rules_clean.proofs.Dying.{rules_rest}
use Rattle.rules_clean.proofs.Importing.{imports_rest}
use Rattle.rules_clean.proofs.Deciding.{expressions_rest}
use Rattle.rules_clean.proofs.laws.rules_take_dead_code_alone.Goals as goal

pub returns : goal.returns
returns c = record { taken = rules_rest; imported = imports_rest; changed = expressions_rest }
