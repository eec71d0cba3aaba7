use Rattle.std.proofs.Common.{◌∙◌, ap}
use Rattle.run_value.specs.View.{content_of}
use Rattle.run_value.proofs.Keys.{elements}
use Rattle.run_value.proofs.value.Content.array.Goals as goal

pub returns : goal.returns
returns c = ap (λ keys. content_of keys c.args.values.items) c.new.ensures.items ∙ elements _
