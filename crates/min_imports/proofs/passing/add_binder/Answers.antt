use Rattle.std.proofs.Common.{◌∙◌, ap}
use Rattle.min_imports.specs.Passing.{widened}
use Rattle.min_imports.proofs.Binding.{put_there}
use Rattle.min_imports.proofs.passing.add_binder.Goals as goal

pub returns : goal.returns
returns c = put_there c.args.text c.args.binders.now c.insert.new.self c.widened-within.result c.args.at (c.widened-within.ensures ∙ ap (λ o. widened o c.args.at) (c.copied.ensures ∙ c.get.ensures.value)) c.in_ok-insert.ensures.updates
