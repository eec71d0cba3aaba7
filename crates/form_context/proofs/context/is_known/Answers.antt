use Rattle.std.proofs.Common.{◌∙◌, sym, ap}
use Rattle.form_rules.specs.Name.{is_among}
use Rattle.form_context.proofs.Index.{names_at, known_here, not_known_here}
use Rattle.form_context.proofs.context.is_known.Goals as goal

pub returns-then-contains : goal.returns-then-contains
returns-then-contains c =
    sym (known_here c.args.name.now c.names-item.result.value _ (sym (ap (is_among c.args.name.now) c.deref.ensures) ∙ sym c.if-contains.ensures))
    ∙ sym (ap (is_among c.args.name.now) (names_at (λ n. n.value) c.args.privates.now c.loop-names.names-index c.names-item.result c.loop-names-test.true c.names-item.is)) ∙ c.loop-names.invariant

pub loop-names-preserved : goal.loop-names-preserved
loop-names-preserved c =
    sym (not_known_here c.args.name.now c.names-item.result.value _ (sym (ap (is_among c.args.name.now) c.deref.ensures) ∙ sym c.if-contains.ensures))
    ∙ sym (ap (is_among c.args.name.now) (names_at (λ n. n.value) c.args.privates.now c.loop-names.names-index c.names-item.result c.loop-names-test.true c.names-item.is)) ∙ c.loop-names.invariant
