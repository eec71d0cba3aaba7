use Rattle.std.proofs.Common.{arith}
use Rattle.js_tree.proofs.Sizes.{first_smaller}
use Rattle.js_tree.proofs.eval.+eval_name.Goals as goal

pub eval_name-requires : goal.eval_name-requires
eval_name-requires z c =
    let smaller = first_smaller c.args.children.now c.in-Some-Some.field-0.now c.in-Some-Some.node c.in-Some-Some.ensures.value c.in-Some-Some.field-0-is in
    let below = rw (← c.children.ensures) at smaller in
    (omega (arith, below), tt)
