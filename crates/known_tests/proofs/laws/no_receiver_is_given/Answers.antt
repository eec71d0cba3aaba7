use Rattle.known_tests.proofs.Alone.{gives_alone}
use Rattle.known_tests.proofs.laws.no_receiver_is_given.Goals as goal

pub returns : goal.returns
returns c = gives_alone
