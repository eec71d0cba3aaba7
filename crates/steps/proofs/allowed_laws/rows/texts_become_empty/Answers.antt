use Rattle.steps.proofs.Allowed.TriedExpressions.{text_before_becomes_empty, text_behind_becomes_empty, silent_text_becomes_empty, silent_text_behind_becomes_empty, template_loses_its_text}
use Rattle.steps.proofs.allowed_laws.rows.texts_become_empty.Goals as goal

pub returns : goal.returns
returns c = record { before = text_before_becomes_empty; behind = text_behind_becomes_empty; silent = silent_text_becomes_empty; silent_behind = silent_text_behind_becomes_empty; template = template_loses_its_text }
