use Rattle.std.proofs.Common.{◌∙◌, sym}
use Rattle.min_traverse.proofs.Joining.{does_none, does_some}
use Rattle.rules.specs.Expressions.Lists.{new_note, list_note}
use Rattle.rules.specs.Expressions.Sequences.{fold_sequence}
use Rattle.rules.specs.Expressions.Uses.{spot_of}
use Rattle.min_expressions.proofs.Sequences.{sequence_stays}
use Rattle.min_expressions.proofs.fold.PeepholeOptimizations.remove_sequence_expression.Goals as goal

pub returns-then-sequence_goes : goal.returns-then-sequence_goes
returns-then-sequence_goes c = record { does = does_some fold_sequence c.args.ctx.now c.args.node.now c.keep_sequence.new.node c.keep_sequence.ensures.kept c.keep_sequence.ensures.edited }

pub returns-else-sequence_goes : goal.returns-else-sequence_goes
returns-else-sequence_goes c = record {
  does = does_none fold_sequence c.args.ctx.now c.args.node.now
      (sequence_stays (spot_of c.args.ctx.now.place) (new_note c.args.node.now.note) (new_note (list_note c.args.node.now.below)) c.args.node.now.kind c.args.node.now.below (sym c.sequence_goes.ensures ∙ c.if-sequence_goes.false));
}
