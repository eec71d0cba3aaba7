use Rattle.std.proofs.Common.{◌∙◌, sym}
use Rattle.min_traverse.proofs.Joining.{does_none, does_some}
use Rattle.rules.specs.Expressions.Lists.{new_note}
use Rattle.rules.specs.Expressions.TwoSides.{fold_two_sides}
use Rattle.rules.specs.Expressions.Uses.{spot_of}
use Rattle.min_expressions.proofs.Emptied.{texts_there, texts_left, text_stays}
use Rattle.min_expressions.proofs.fold.fold_texts.Goals as goal

pub empty_texts-requires : goal.empty_texts-requires
empty_texts-requires c = record { texts = texts_there (spot_of c.args.ctx.now.place) c.args.node.now.kind c.args.node.now.below (sym c.texts_go.ensures ∙ c.if-texts_go.true) }

pub returns-then-texts_go : goal.returns-then-texts_go
returns-then-texts_go c =
    does_some fold_two_sides c.args.ctx.now c.args.node.now c.empty_texts.new.node
    (texts_left (spot_of c.args.ctx.now.place) c.args.node.now.kind c.args.node.now.below (new_note c.args.node.now.note) (new_note c.args.node.now.note) c.empty_texts.new.node c.requires.stays (sym c.texts_go.ensures ∙ c.if-texts_go.true) c.empty_texts.ensures.kept)
    c.empty_texts.ensures.edited

pub returns-else-texts_go : goal.returns-else-texts_go
returns-else-texts_go c =
    does_none fold_two_sides c.args.ctx.now c.args.node.now
    (text_stays (spot_of c.args.ctx.now.place) c.args.node.now.kind c.args.node.now.below (new_note c.args.node.now.note) (new_note c.args.node.now.note) c.requires.stays c.requires.no_sum (sym c.texts_go.ensures ∙ c.if-texts_go.false))
