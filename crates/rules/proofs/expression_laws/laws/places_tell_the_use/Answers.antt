use Rattle.rules.proofs.Expressions.Uses.{use_is, in_with_is, is_unused_is}
use Rattle.rules.proofs.expression_laws.laws.places_tell_the_use.Goals as goal

pub returns-clause-used_as : goal.returns-clause-used_as
returns-clause-used_as c = use_is

pub returns-clause-in_with : goal.returns-clause-in_with
returns-clause-in_with c = in_with_is

pub returns-clause-is_unused : goal.returns-clause-is_unused
returns-clause-is_unused c = is_unused_is
