use Rattle.std.proofs.Common.{◌∙◌, None, sym, ap}
use Rattle.js_syntax.specs.Node.{row}
use Rattle.steps.specs.Allowed.IdleParts.{counting}
use Rattle.min_expressions.specs.Lists.{only}
use Rattle.min_expressions.proofs.Sequences.{value_is}
use Rattle.min_expressions.proofs.sequence.staying.Goals as goal

pub returns-in-Some : goal.returns-in-Some
returns-in-Some c = λ s more stands.
    value_is s more (record { span = c.args.span; id = None }) (record { span = c.args.list_span; id = None }) (counting (row c.args.parts.items)) c.in-Some.part stands
    (ap only (sym c.keep_staying.ensures) ∙ sym c.take_only.ensures.taken ∙ c.in-Some.is)
