use Rattle.std.proofs.Common.{◌∙◌, ◌+◌}
use Rattle.min_imports.proofs.Lists.{few_none, few_one}
use Rattle.min_imports.proofs.names.are_few.Goals as goal

pub returns-then-are_none : goal.returns-then-are_none
returns-then-are_none c = c.if-are_none.true ∙ few_none (c.args.here + c.args.there) c.are_none.result c.are_none.ensures c.if-are_none.true

pub returns-else-are_none : goal.returns-else-are_none
returns-else-are_none c = few_one (c.args.here + c.args.there) c.are_none.result c.are_one.result c.are_none.ensures c.if-are_none.false c.are_one.ensures
