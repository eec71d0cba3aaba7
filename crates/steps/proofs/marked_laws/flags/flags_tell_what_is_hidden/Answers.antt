use Rattle.steps.proofs.Marked.Telling.{function_hidden, declarator_hidden, declaration_hidden, no_eval}
use Rattle.steps.proofs.marked_laws.flags.flags_tell_what_is_hidden.Goals as goal

pub returns : goal.returns
returns c = record { functions = function_hidden; declarators = declarator_hidden; declarations = declaration_hidden; calls_of_eval = no_eval }
