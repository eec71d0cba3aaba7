use Rattle.std.proofs.Common.{◌∙◌, sym}
use Rattle.min_traverse.proofs.Joining.{does_none, does_some}
use Rattle.rules.specs.Expressions.EmptyIfs.{fold_empty_if}
use Rattle.min_statements.proofs.Tests.{test_not_kept}
use Rattle.min_statements.proofs.empty_ifs.fold_empty_if.Goals as goal

pub keep_test-requires : goal.keep_test-requires
keep_test-requires c = record { empty = sym c.keeps_test.ensures ∙ c.if-not-keeps_test.false }

pub returns-then-not-keeps_test : goal.returns-then-not-keeps_test
returns-then-not-keeps_test c = record {
  does = does_none fold_empty_if c.args.ctx.now c.args.node.now (test_not_kept c.args.node.now.note c.args.node.now.kind c.args.node.now.below (sym c.keeps_test.ensures ∙ c.if-not-keeps_test.true));
}

pub returns : goal.returns
returns c = record {
  does = does_some fold_empty_if c.args.ctx.now c.args.node.now c.keep_test.new.node c.keep_test.ensures.kept c.keep_test.ensures.edited;
}
