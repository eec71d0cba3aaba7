use Rattle.std.proofs.Common.{◌∙◌, sym}
use Rattle.min_statements.proofs.Kept.{first_left}
use Rattle.min_statements.proofs.trimmed.trim_first.Goals as goal

pub returns-then-not-is_empty : goal.returns-then-not-is_empty
returns-then-not-is_empty c = first_left c.args.facts.now c.args.at c.args.how c.args.children.now c.index-children-0.result c.trim_list_of.new.child (sym c.is_empty.ensures ∙ c.if-not-is_empty.true) c.trim_list_of.ensures
