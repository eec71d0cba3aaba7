use Rattle.std.proofs.Common.{◌∙◌, false, ap}
use Rattle.std.specs.Bool.{beq}
use Rattle.std.specs.List.{list_any}
use Rattle.min_imports.proofs.Going.{plan_is, no_plan}
use Rattle.min_imports.proofs.passing.some_go.Goals as goal

pub returns-then-contains : goal.returns-then-contains
returns-then-contains c = λ f list plan. plan_is c.args.passing f list c.contains.result (c.contains.ensures.value ∙ ap (list_any (λ y. beq y false)) c.deref.ensures.value) c.if-contains.true plan

pub returns-else-contains : goal.returns-else-contains
returns-else-contains c = λ f list plan. no_plan c.args.passing f list c.contains.result (c.contains.ensures.value ∙ ap (list_any (λ y. beq y false)) c.deref.ensures.value) c.if-contains.false plan
