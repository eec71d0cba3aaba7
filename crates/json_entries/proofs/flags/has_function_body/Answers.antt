use Rattle.std.proofs.Common.{◌∙◌, sym, refl, arith}
use Rattle.js_syntax.specs.Hint.{has, is_function_body}
use Rattle.js_tree.proofs.Search.{found_at, rest_of, none_found}
use Rattle.json_entries.proofs.Search.{has_each}
use Rattle.json_entries.proofs.flags.has_function_body.Goals as goal

pub returns-then-is_function_body : goal.returns-then-is_function_body
returns-then-is_function_body c = sym (found_at (has is_function_body) (has_each is_function_body) c.args.children.now c.loop-child.child-index c.child-item.result c.loop-child-test.true c.child-item.is (sym c.is_function_body.ensures ∙ c.if-is_function_body.true))

pub loop-child-preserved : goal.loop-child-preserved
loop-child-preserved c =
    rest_of (has is_function_body) (has_each is_function_body) c.args.children.now c.loop-child.child-index c.child-item.result c.loop-child-test.true c.child-item.is (sym c.is_function_body.ensures ∙ c.if-is_function_body.false) c.loop-child.invariant

pub returns : goal.returns
returns c = sym (none_found (has is_function_body) c.args.children.now c.loop-child.child-index refl (omega (arith, c.loop-child-test.false)) c.loop-child.invariant)
