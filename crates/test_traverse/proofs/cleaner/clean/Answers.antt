use Rattle.std.proofs.Common.{rules, ◌∙◌, ap}
use Rattle.test_traverse.specs.Bodies.{without_empty}
use Rattle.test_traverse.proofs.Calling.{done, not_done}
use Rattle.test_traverse.proofs.cleaner.clean.Goals as goal

pub returns-then-not-is_cleaned : goal.returns-then-not-is_cleaned
returns-then-not-is_cleaned c = not_done (search rules)

pub returns : goal.returns
returns c =
    done (search rules) (search rules) (c.replace_children.ensures.kind ∙ c.replace_children-statements.ensures.kind) (c.replace_children.ensures.note ∙ c.replace_children-statements.ensures.note)
    (c.replace_children.ensures.below ∙ c.keep_others.ensures ∙ ap without_empty c.replace_children-statements.ensures.taken)
