use Rattle.std.proofs.Common.{◌∙◌, sym, refl, arith}
use Rattle.js_syntax.specs.Hint.{has, is_private}
use Rattle.js_tree.proofs.Search.{found_at, rest_of, none_found}
use Rattle.json_entries.proofs.Search.{has_each}
use Rattle.json_entries.proofs.flags.has_private.Goals as goal

pub returns-then-is_private : goal.returns-then-is_private
returns-then-is_private c = sym (found_at (has is_private) (has_each is_private) c.args.children.now c.loop-child.child-index c.child-item.result c.loop-child-test.true c.child-item.is (sym c.is_private.ensures ∙ c.if-is_private.true))

pub loop-child-preserved : goal.loop-child-preserved
loop-child-preserved c =
    rest_of (has is_private) (has_each is_private) c.args.children.now c.loop-child.child-index c.child-item.result c.loop-child-test.true c.child-item.is (sym c.is_private.ensures ∙ c.if-is_private.false) c.loop-child.invariant

pub returns : goal.returns
returns c = sym (none_found (has is_private) c.args.children.now c.loop-child.child-index refl (omega (arith, c.loop-child-test.false)) c.loop-child.invariant)
