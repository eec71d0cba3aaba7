use Rattle.std.proofs.Common.{◌∙◌, not, sym, ap, arith, refl}
use Rattle.js_syntax.specs.Node.{row}
use Rattle.js_syntax.proofs.Truth.{not_true, not_false}
use Rattle.js_tree.proofs.Search.{found_at, rest_of, none_found}
use Rattle.steps.specs.Allowed.MergedImports.{are_names}
use Rattle.min_imports.proofs.Lists.{has_other, others_each}
use Rattle.min_imports.proofs.names.are_names.Goals as goal

pub returns-then-not-is_name : goal.returns-then-not-is_name
returns-then-not-is_name c =
    sym (not_true (are_names (row c.args.names.now)) (found_at has_other others_each c.args.names.now c.loop-name.name-index c.name-item.result c.loop-name-test.true c.name-item.is (ap not (sym c.is_name.ensures ∙ c.if-not-is_name.true))))

pub loop-name-preserved : goal.loop-name-preserved
loop-name-preserved c = rest_of has_other others_each c.args.names.now c.loop-name.name-index c.name-item.result c.loop-name-test.true c.name-item.is (ap not (sym c.is_name.ensures ∙ c.if-not-is_name.false)) c.loop-name.invariant

pub returns : goal.returns
returns c = sym (not_false (are_names (row c.args.names.now)) (none_found has_other c.args.names.now c.loop-name.name-index refl (omega (arith, c.loop-name-test.false)) c.loop-name.invariant))
