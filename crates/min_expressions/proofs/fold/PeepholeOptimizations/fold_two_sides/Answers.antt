use Rattle.std.proofs.Common.{◌∙◌, sym}
use Rattle.min_traverse.proofs.Joining.{does_some}
use Rattle.rules.specs.Expressions.Lists.{new_note}
use Rattle.rules.specs.Expressions.TwoSides.{fold_two_sides}
use Rattle.rules.specs.Expressions.Uses.{spot_of}
use Rattle.min_expressions.proofs.TwoSides.{sides_there, sides_left}
use Rattle.min_expressions.proofs.fold.PeepholeOptimizations.fold_two_sides.Goals as goal

pub keep_two_sides-requires : goal.keep_two_sides-requires
keep_two_sides-requires c = record { both = sides_there (spot_of c.args.ctx.now.place) (new_note c.args.node.now.note) (new_note c.args.node.now.note) c.args.node.now.kind c.args.node.now.below (sym c.sides_go.ensures ∙ c.if-sides_go.true) }

pub returns-then-sides_go-clause-does : goal.returns-then-sides_go-clause-does
returns-then-sides_go-clause-does c =
    does_some fold_two_sides c.args.ctx.now c.args.node.now c.keep_two_sides.new.node
    (sides_left (spot_of c.args.ctx.now.place) (new_note c.args.node.now.note) (new_note c.args.node.now.note) c.args.node.now.kind c.args.node.now.below c.keep_two_sides.new.node (sym c.sides_go.ensures ∙ c.if-sides_go.true) c.in_ok-keep_two_sides.ensures.kept)
    c.in_ok-keep_two_sides.ensures.edited

pub fold_text-requires : goal.fold_text-requires
fold_text-requires c = record { stays = sym c.sides_go.ensures ∙ c.if-sides_go.false }
