use Rattle.scope_names.proofs.Keys.{has_after}
use Rattle.scope_names.proofs.places.add.Goals as goal

pub returns : goal.returns
returns c = λ s q. has_after (c.digest.result, c.args.scope, c.args.name) c.args.places.now c.insert.new.self c.digest.ensures.digest c.in_ok-insert.ensures.updates s q
