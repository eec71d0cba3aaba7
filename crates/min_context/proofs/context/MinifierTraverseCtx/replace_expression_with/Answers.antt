use Rattle.std.proofs.Common.{rules, ◌∙◌, ap, sym, refl, Ok}
use Rattle.min_context.proofs.ByClosures.{makes, refuses}
use Rattle.min_context.proofs.context.MinifierTraverseCtx.replace_expression_with.Goals as goal

pub returns-in-Ok-clause-made : goal.returns-in-Ok-clause-made
returns-in-Ok-clause-made g c = makes _ _ c.args.slot.now c.put.new.place c.make.ensures c.replace-old.ensures.value (c.in-Ok.is ∙ ap Ok (sym c.put.ensures)) refl c.notice_change.ensures.requested

pub returns-in-Err-clause-refused : goal.returns-in-Err-clause-refused
returns-in-Err-clause-refused g c = (refuses _ _ c.args.slot.now c.in-Err.error c.make.ensures c.replace-old.ensures.value c.in-Err.is refl refl, search rules)
