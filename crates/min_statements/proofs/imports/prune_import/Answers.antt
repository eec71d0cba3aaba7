use Rattle.std.proofs.Common.{◌∙◌, ap, drop, length, arith}
use Rattle.js_syntax.specs.Node.{row}
use Rattle.rules.specs.Imports.Rules.{import_left}
use Rattle.min_statements.proofs.Kept.{same_tree, written}
use Rattle.min_statements.proofs.imports.prune_import.Goals as goal

pub returns : goal.returns
returns c =
    same_tree _ _ _ _ (c.replace_children.ensures.kind ∙ c.replace_children-children.ensures.kind) (c.replace_children.ensures.note ∙ c.replace_children-children.ensures.note)
    (c.replace_children.ensures.below
    ∙ ap row (written c.replace_children-children.result.len c.prune_only.new.children (drop (length c.prune_only.new.children) c.replace_children-children.result.items) (omega (arith, c.prune_only.auto.children, c.as_mut_slice.ensures.len)))
    ∙ c.prune_only.ensures
    ∙ ap (import_left c.args.facts.now c.args.at) (ap row c.as_mut_slice.ensures.value ∙ c.replace_children-children.ensures.taken))
