use Rattle.std.proofs.Common.{◌∙◌, sym, arith, refl}
use Rattle.rules.specs.Imports.Rules.{one_goes}
use Rattle.js_tree.proofs.Search.{found_at, rest_of, none_found}
use Rattle.min_statements.proofs.Each.{specifiers_each, one_specifier}
use Rattle.min_statements.proofs.imports.one_goes.Goals as goal

pub returns-then-is_unused_specifier : goal.returns-then-is_unused_specifier
returns-then-is_unused_specifier c =
    sym (found_at (one_goes c.args.facts.now c.args.at) (specifiers_each c.args.facts.now c.args.at) c.args.specifiers.now c.loop-specifier.specifier-index c.specifier-item.result c.loop-specifier-test.true c.specifier-item.is
    (one_specifier c.args.facts.now c.args.at c.specifier-item.result ∙ sym c.is_unused_specifier.ensures ∙ c.if-is_unused_specifier.true))

pub loop-specifier-preserved : goal.loop-specifier-preserved
loop-specifier-preserved c =
    rest_of (one_goes c.args.facts.now c.args.at) (specifiers_each c.args.facts.now c.args.at) c.args.specifiers.now c.loop-specifier.specifier-index c.specifier-item.result c.loop-specifier-test.true c.specifier-item.is
    (one_specifier c.args.facts.now c.args.at c.specifier-item.result ∙ sym c.is_unused_specifier.ensures ∙ c.if-is_unused_specifier.false) c.loop-specifier.invariant

pub returns : goal.returns
returns c = sym (none_found (one_goes c.args.facts.now c.args.at) c.args.specifiers.now c.loop-specifier.specifier-index refl (omega (arith, c.loop-specifier-test.false)) c.loop-specifier.invariant)
