use Rattle.std.proofs.Common.{◌∙◌, sym, ap}
use Rattle.min_statements.specs.Merged.{is_statements}
use Rattle.min_statements.proofs.Merging.{a_list_comes, no_other_list, statements_are}
use Rattle.min_statements.proofs.merged.merge_list.Goals as goal

pub returns-then-not-is_statements-clause-comes : goal.returns-then-not-is_statements-clause-comes
returns-then-not-is_statements-clause-comes c = no_other_list c.args.list.now (ap is_statements (sym c.kind.ensures) ∙ sym c.is_statements.ensures ∙ c.if-not-is_statements.true)

pub returns-clause-comes : goal.returns-clause-comes
returns-clause-comes c =
    a_list_comes c.args.list.now c.merge_imports.new.node c.in_ok-merged.merged (statements_are _ (ap is_statements (sym c.kind.ensures) ∙ sym c.is_statements.ensures ∙ c.if-not-is_statements.false)) c.in_ok-merged.ensures.goes c.in_ok-merged.ensures.left
