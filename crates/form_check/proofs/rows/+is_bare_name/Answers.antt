use Rattle.std.proofs.Common.{arith, ap}
use Rattle.js_tree.specs.Weight.{size_of}
use Rattle.js_tree.proofs.Sizes.{first_smaller}
use Rattle.form_check.proofs.rows.+is_bare_name.Goals as goal

pub is_bare_name-requires : goal.is_bare_name-requires
is_bare_name-requires t c =
    let smaller = first_smaller c.args.nodes.now c.in-Some-Some.field-0.now c.in-Some-Some.node c.in-Some-Some.ensures.value c.in-Some-Some.field-0-is in
    (omega (arith, smaller, ap size_of c.children.ensures), tt)
