use Rattle.rules.proofs.Told.Nested.{edits_nest}
use Rattle.rules.proofs.told_laws.edits.edits_keep_how_scopes_nest.Goals as goal

pub returns : goal.returns
returns c = λ t u edits fits s h. edits_nest s t u edits fits h
