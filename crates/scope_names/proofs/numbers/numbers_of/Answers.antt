use Rattle.std.proofs.Common.{◌∙◌}
use Rattle.scope_rules.specs.Binding.{named_in}
use Rattle.scope_names.specs.Numbers.{number_at}
use Rattle.scope_names.proofs.Firsts.{numbered_more}
use Rattle.scope_names.proofs.numbers.numbers_of.Goals as goal

pub loop-site-preserved : goal.loop-site-preserved
loop-site-preserved c =
    numbered_more c.args.sites.now c.loop-site.site-index c.site-item.result c.in_layer-first.result (number_at c.loop-site.numbers) (number_at c.number_first.new.numbers) c.loop-site.firsts.items c.number_first.new.firsts.items
    c.loop-site-test.true c.site-item.is (c.in_layer-first.ensures ∙ (λ k. named_in (c.name.ensures.name k) (c.layer.ensures.layer k))) c.in_ok-number_first.ensures.firsts c.in_ok-number_first.ensures.numbers c.loop-site.invariant
