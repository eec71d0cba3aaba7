use Rattle.min_statements.proofs.Passing.{put_in_list, fits_long}
use Rattle.std.proofs.Common.{◌∙◌}
use Rattle.min_statements.proofs.passed.pass_in.Goals as goal

pub pass_on-requires : goal.pass_on-requires
pass_on-requires c =
    let long = fits_long c.args.list.now c.args.passing.staying.items c.args.passing.changed.items c.replace_children-items.result.items c.requires c.replace_children-items.ensures.taken in
    record { even = long.0; long = long.1 }

pub returns : goal.returns
returns c = put_in_list c.args.list.now _ c.args.passing.staying.items c.args.passing.changed.items c.pass_on.new.items.items c.replace_children-items.result.items (c.replace_children.ensures.kind ∙ c.replace_children-items.ensures.kind) (c.replace_children.ensures.note ∙ c.replace_children-items.ensures.note)
    c.replace_children.ensures.below c.replace_children-items.ensures.taken c.pass_on.ensures
