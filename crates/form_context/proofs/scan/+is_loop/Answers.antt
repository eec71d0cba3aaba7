use Rattle.std.proofs.Common.{arith, ap}
use Rattle.js_tree.specs.Weight.{size_of}
use Rattle.js_tree.proofs.Sizes.{first_smaller}
use Rattle.form_context.proofs.scan.+is_loop.Goals as goal

pub is_loop-requires : goal.is_loop-requires
is_loop-requires t c =
    let smaller = first_smaller c.args.nodes.now c.in-Some-Some.field-0.now c.in-Some-Some.node c.in-Some-Some.ensures.value c.in-Some-Some.field-0-is in
    (omega (arith, smaller, ap size_of c.children.ensures), tt)
