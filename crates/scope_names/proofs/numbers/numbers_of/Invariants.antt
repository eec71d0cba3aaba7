use Rattle.scope_names.specs.Numbers.{number_at}
use Rattle.scope_names.proofs.Firsts.{AreNumbered}
use Rattle.scope_names.proofs.numbers.numbers_of.Given as goal

abbrev pub invariant-loop-site : goal.invariant-loop-site
invariant-loop-site l = AreNumbered l.sites l.site-index (number_at l.numbers) l.firsts.items
