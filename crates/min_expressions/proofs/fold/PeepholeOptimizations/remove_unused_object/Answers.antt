use Rattle.std.proofs.Common.{◌∙◌, sym}
use Rattle.min_traverse.proofs.Joining.{does_none, does_some}
use Rattle.rules.specs.Expressions.Lists.{new_note, list_note}
use Rattle.rules.specs.Expressions.Objects.{fold_object}
use Rattle.rules.specs.Expressions.Uses.{spot_of}
use Rattle.min_expressions.proofs.Objects.{parts_there, object_left_so, object_stays}
use Rattle.min_expressions.proofs.fold.PeepholeOptimizations.remove_unused_object.Goals as goal

pub keep_object-requires : goal.keep_object-requires
keep_object-requires c = record { goes = parts_there (spot_of c.args.ctx.now.place) (new_note c.args.node.now.note) (new_note (list_note c.args.node.now.below)) c.args.node.now.kind c.args.node.now.below (sym c.object_goes.ensures ∙ c.if-object_goes.true) }

pub returns-then-object_goes-clause-does : goal.returns-then-object_goes-clause-does
returns-then-object_goes-clause-does c =
    does_some fold_object c.args.ctx.now c.args.node.now c.keep_object.new.node
    (object_left_so (spot_of c.args.ctx.now.place) (new_note c.args.node.now.note) (new_note (list_note c.args.node.now.below)) c.args.node.now.kind c.args.node.now.below c.keep_object.new.node (sym c.object_goes.ensures ∙ c.if-object_goes.true) c.in_ok-keep_object.ensures.kept)
    c.in_ok-keep_object.ensures.edited

pub returns-clause-does : goal.returns-clause-does
returns-clause-does c =
    does_none fold_object c.args.ctx.now c.args.node.now
    (object_stays (spot_of c.args.ctx.now.place) (new_note c.args.node.now.note) (new_note (list_note c.args.node.now.below)) c.args.node.now.kind c.args.node.now.below (sym c.object_goes.ensures ∙ c.if-object_goes.false))
