use Rattle.std.proofs.Common.{◌∙◌, ap, true, if◌then◌else◌}
use Rattle.std.specs.Str.{bytes_eq}
use Rattle.form_names.specs.Names.{has_name}
use Rattle.form_names.proofs.Known.{has_name_after}
use Rattle.form_names.proofs.Repeating.{declared_more, declared_none}
use Rattle.form_names.proofs.exports.declared_names.Goals as goal

pub loop-declaration-preserved : goal.loop-declaration-preserved
loop-declaration-preserved c = λ q.
    declared_more c.args.declared.now c.loop-declaration.declaration-index c.declaration-item.result q (has_name c.loop-declaration.names q) (has_name c.insert.new.self q) _ c.loop-declaration-test.true c.declaration-item.is
    (has_name_after c.name.result c.loop-declaration.names c.insert.new.self c.in_ok-insert.ensures.updates q ∙ ap (λ name. if bytes_eq name q then true else has_name c.loop-declaration.names q) c.name.ensures)
    (c.loop-declaration.invariant q)

pub returns : goal.returns
returns c = λ q. declared_none c.args.declared.now c.loop-declaration.declaration-index q (has_name c.loop-declaration.names q) _ c.loop-declaration-test.false (c.loop-declaration.invariant q)
