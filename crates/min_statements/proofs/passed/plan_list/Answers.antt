use Rattle.std.proofs.Common.{◌∙◌, sym, ap, subst}
use Rattle.std.specs.Option.{option_map}
use Rattle.js_syntax.specs.Node.{row}
use Rattle.min_imports.specs.Passing.{Planned}
use Rattle.min_statements.proofs.Passing.{planned_none, planned_so}
use Rattle.min_statements.proofs.passed.plan_list.Goals as goal

pub returns-in_default : goal.returns-in_default
returns-in_default c = planned_none c.args.facts.now (row c.args.children.now) (sym c.list_of.ensures ∙ ap (option_map (λ s. row s.now)) c.in_default.is)

pub returns : goal.returns
returns c = planned_so c.args.facts.now (row c.args.children.now) (row c.in-Some.items.now) c.in_ok-passing.passing (sym c.list_of.ensures ∙ ap (option_map (λ s. row s.now)) c.in-Some.is) (subst (λ g. Planned g (row c.in-Some.items.now) c.in_ok-passing.passing) c.uses_in-uses.ensures c.in_ok-passing.ensures.planned)
