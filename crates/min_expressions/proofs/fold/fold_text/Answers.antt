use Rattle.std.proofs.Common.{◌∙◌, sym}
use Rattle.min_traverse.proofs.Joining.{does_some}
use Rattle.rules.specs.Expressions.Lists.{new_note}
use Rattle.rules.specs.Expressions.TwoSides.{fold_two_sides}
use Rattle.rules.specs.Expressions.Uses.{spot_of}
use Rattle.min_expressions.proofs.Emptied.{text_there, text_left}
use Rattle.min_expressions.proofs.fold.fold_text.Goals as goal

pub empty_text-requires : goal.empty_text-requires
empty_text-requires c = record { text = text_there (spot_of c.args.ctx.now.place) c.args.node.now.kind c.args.node.now.below c.in-Some.index (sym c.text_goes.ensures ∙ c.in-Some.is) }

pub fold_texts-requires : goal.fold_texts-requires
fold_texts-requires c = record { stays = c.requires.stays; no_sum = sym c.text_goes.ensures ∙ c.in-None.is }

pub returns-in-Some : goal.returns-in-Some
returns-in-Some c =
    does_some fold_two_sides c.args.ctx.now c.args.node.now c.empty_text.new.node
    (text_left (spot_of c.args.ctx.now.place) c.args.node.now.kind c.args.node.now.below (new_note c.args.node.now.note) (new_note c.args.node.now.note) c.in-Some.index c.empty_text.new.node c.requires.stays (sym c.text_goes.ensures ∙ c.in-Some.is) c.empty_text.ensures.kept)
    c.empty_text.ensures.edited
