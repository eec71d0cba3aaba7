use Rattle.std.proofs.Common.{◌∙◌, ap}
use Rattle.std.specs.Option.{is_some}
use Rattle.json_scan.proofs.check.is_word.Goals as goal

pub returns-in-SourceTypes : goal.returns-in-SourceTypes
returns-in-SourceTypes c = rw c.in-SourceTypes.is (c.is_some.ensures ∙ ap is_some c.named.ensures)

pub returns-in-VariableKinds : goal.returns-in-VariableKinds
returns-in-VariableKinds c = rw c.in-VariableKinds.is (c.is_some-in-VariableKinds.ensures ∙ ap is_some c.named-in-VariableKinds.ensures)

pub returns-in-MethodKinds : goal.returns-in-MethodKinds
returns-in-MethodKinds c = rw c.in-MethodKinds.is (c.is_some-in-MethodKinds.ensures ∙ ap is_some c.named-in-MethodKinds.ensures)

pub returns-in-PropertyKinds : goal.returns-in-PropertyKinds
returns-in-PropertyKinds c = rw c.in-PropertyKinds.is (c.is_some-in-PropertyKinds.ensures ∙ ap is_some c.named-in-PropertyKinds.ensures)

pub returns-in-UnaryOperators : goal.returns-in-UnaryOperators
returns-in-UnaryOperators c = rw c.in-UnaryOperators.is (c.is_some-in-UnaryOperators.ensures ∙ ap is_some c.named-in-UnaryOperators.ensures)

pub returns-in-UpdateOperators : goal.returns-in-UpdateOperators
returns-in-UpdateOperators c = rw c.in-UpdateOperators.is (c.is_some-in-UpdateOperators.ensures ∙ ap is_some c.named-in-UpdateOperators.ensures)

pub returns-in-BinaryOperators : goal.returns-in-BinaryOperators
returns-in-BinaryOperators c = rw c.in-BinaryOperators.is (c.is_some-in-BinaryOperators.ensures ∙ ap is_some c.named-in-BinaryOperators.ensures)

pub returns-in-LogicalOperators : goal.returns-in-LogicalOperators
returns-in-LogicalOperators c = rw c.in-LogicalOperators.is (c.is_some-in-LogicalOperators.ensures ∙ ap is_some c.named-in-LogicalOperators.ensures)

pub returns-in-AssignmentOperators : goal.returns-in-AssignmentOperators
returns-in-AssignmentOperators c = rw c.in-AssignmentOperators.is (c.is_some-in-AssignmentOperators.ensures ∙ ap is_some c.named-in-AssignmentOperators.ensures)
