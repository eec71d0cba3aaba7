use Rattle.std.proofs.Common.{◌∙◌, drop, length, ap, sym, arith}
use Rattle.js_syntax.specs.Node.{row}
use Rattle.min_statements.proofs.Kept.{written}
use Rattle.min_statements.proofs.Passing.{put_there, fits_there}
use Rattle.min_statements.proofs.passed.pass_below.Goals as goal

pub pass_only-requires : goal.pass_only-requires
pass_only-requires c = fits_there c.args.passing.staying.items c.args.passing.changed.items c.args.node.now.below (row c.as_mut_slice.result.now) (sym (ap row c.as_mut_slice.ensures.value ∙ c.replace_children-children.ensures.taken)) c.requires

pub returns-clause-below : goal.returns-clause-below
returns-clause-below c =
    let put = written c.replace_children-children.result.len c.pass_only.new.children (drop (length c.pass_only.new.children) c.replace_children-children.result.items) (omega (arith, c.pass_only.auto.children, c.as_mut_slice.ensures.len)) in
    put_there c.args.passing.staying.items c.args.passing.changed.items _ _ _ _ (ap row c.as_mut_slice.ensures.value ∙ c.replace_children-children.ensures.taken) (sym (c.replace_children.ensures.below ∙ ap row put)) c.pass_only.ensures
