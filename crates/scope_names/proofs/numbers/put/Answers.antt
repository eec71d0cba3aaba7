use Rattle.scope_names.proofs.Keys.{at_after}
use Rattle.scope_names.proofs.numbers.put.Goals as goal

pub returns : goal.returns
returns c = λ s q. at_after (c.digest.result, c.args.scope, c.args.name) c.args.number c.args.numbers.now c.insert.new.self c.digest.ensures.digest c.in_ok-insert.ensures.updates s q
