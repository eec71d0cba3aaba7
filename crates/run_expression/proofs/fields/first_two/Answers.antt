use Rattle.std.proofs.Common.{◌∙◌, ap, sym}
use Rattle.js_meaning.specs.Node.{need}
use Rattle.js_meaning.specs.Meaning.{eval}
use Rattle.run_plan.specs.Front.{front_of}
use Rattle.run_expression.proofs.fields.first_two.Goals as goal

pub returns-in-Node : goal.returns-in-Node
unfolding need eval
returns-in-Node c = λ E k. ap (λ t. need (eval E t) (λ m r. need r (λ n r. k m n))) (sym c.first_field.ensures ∙ ap front_of c.in-Node.is) ∙ c.pair_with.ensures E k
