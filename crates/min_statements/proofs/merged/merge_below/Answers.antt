use Rattle.std.proofs.Common.{◌∙◌, drop, length, ap, sym, arith}
use Rattle.js_syntax.specs.Node.{row}
use Rattle.min_statements.proofs.Kept.{written}
use Rattle.min_statements.proofs.Merging.{comes_there, refused_so}
use Rattle.min_statements.proofs.merged.merge_below.Goals as goal

pub returns-clause-comes : goal.returns-clause-comes
returns-clause-comes c =
    let put = written c.replace_children-children.result.len c.merge_only-merged.new.children (drop (length c.merge_only-merged.new.children) c.replace_children-children.result.items) (omega (arith, c.merge_only-merged.auto.children, c.as_mut_slice.ensures.len)) in
    comes_there c.merge_only-merged.result _ _ _ _ (ap row c.as_mut_slice.ensures.value ∙ c.replace_children-children.ensures.taken) (sym (c.replace_children.ensures.below ∙ ap row put)) c.merge_only-merged.ensures.comes

pub returns-clause-refused : goal.returns-clause-refused
returns-clause-refused c =
    let put = written c.replace_children-children.result.len c.merge_only-merged.new.children (drop (length c.merge_only-merged.new.children) c.replace_children-children.result.items) (omega (arith, c.merge_only-merged.auto.children, c.as_mut_slice.ensures.len)) in
    refused_so c.merge_only-merged.result (λ same. c.replace_children.ensures.below ∙ ap row (put ∙ same ∙ c.as_mut_slice.ensures.value) ∙ c.replace_children-children.ensures.taken) c.merge_only-merged.ensures.refused
