use Rattle.rules.proofs.Expressions.Folding.{ifs_named}
use Rattle.rules.proofs.expression_laws.names.the_rule_on_names_is_lawful.Goals as goal

pub returns : goal.returns
returns g c = record { names = ifs_named g.T.Traverse.edit }
