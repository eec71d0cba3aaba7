use Rattle.std.proofs.Common.{◌∙◌, sym, refl, arith}
use Rattle.js_syntax.specs.Hint.{has, is_private}
use Rattle.js_tree.proofs.Search.{found_at, rest_of, none_found}
use Rattle.json_fits.proofs.Walking.{has_each}
use Rattle.json_fits.proofs.parts.has_private.Goals as goal

pub returns-then-is_private : goal.returns-then-is_private
returns-then-is_private c = sym (found_at (has is_private) (has_each is_private) c.args.nodes.now c.loop-node.node-index c.node-item.result c.loop-node-test.true c.node-item.is (sym c.is_private.ensures ∙ c.if-is_private.true))

pub loop-node-preserved : goal.loop-node-preserved
loop-node-preserved c =
    rest_of (has is_private) (has_each is_private) c.args.nodes.now c.loop-node.node-index c.node-item.result c.loop-node-test.true c.node-item.is (sym c.is_private.ensures ∙ c.if-is_private.false) c.loop-node.invariant

pub returns : goal.returns
returns c = sym (none_found (has is_private) c.args.nodes.now c.loop-node.node-index refl (omega (arith, c.loop-node-test.false)) c.loop-node.invariant)
