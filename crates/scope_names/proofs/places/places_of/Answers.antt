use Rattle.std.proofs.Common.{◌∙◌, ◌&&◌, ◌||◌, ap}
use Rattle.std.specs.Str.{bytes_eq}
use Rattle.scope_rules.specs.Binding.{same_layer}
use Rattle.scope_names.specs.Places.{is_placed}
use Rattle.scope_names.proofs.Layers.{declared_more, declared_none}
use Rattle.scope_names.proofs.places.places_of.Goals as goal

pub loop-site-preserved : goal.loop-site-preserved
loop-site-preserved c = λ m q.
    declared_more c.args.sites.now c.loop-site.site-index c.site-item.result m q (is_placed c.loop-site.places m q) (is_placed c.add.new.self m q) _ c.loop-site-test.true c.site-item.is
    (c.in_ok-add.ensures m q ∙ ap (λ l. (same_layer l m && bytes_eq c.name.result.now q) || is_placed c.loop-site.places m q) c.layer.ensures.layer ∙ ap (λ name. (same_layer c.site-item.result.layer m && bytes_eq name q) || is_placed c.loop-site.places m q) c.name.ensures.name)
    (c.loop-site.invariant m q)

pub returns : goal.returns
returns c = λ m q. declared_none c.args.sites.now c.loop-site.site-index m q (is_placed c.loop-site.places m q) _ c.loop-site-test.false (c.loop-site.invariant m q)
