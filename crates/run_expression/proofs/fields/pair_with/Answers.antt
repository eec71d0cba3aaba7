use Rattle.std.proofs.Common.{◌∙◌, ap, sym}
use Rattle.js_meaning.specs.Node.{need}
use Rattle.js_meaning.specs.Meaning.{eval}
use Rattle.run_plan.specs.Frame.{meaning}
use Rattle.run_plan.specs.Front.{front_of}
use Rattle.run_expression.proofs.fields.pair_with.Goals as goal

pub returns-in-Node : goal.returns-in-Node
unfolding need eval
returns-in-Node c = λ E k. ap (λ t. need (eval E t) (λ n r. k (meaning E c.args.first.now) n)) (sym c.first_field.ensures ∙ ap front_of c.in-Node.is)
