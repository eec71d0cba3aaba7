use Rattle.std.proofs.Common.{refl}
use Rattle.clap.proofs.OnLiterals.{clap_on_literals}
use Rattle.shake_words.specs.Meaning.{accepts, command_of}
use Rattle.shake_words.proofs.law.takes_run.Goals as goal

pub returns-clause-accepted : goal.returns-clause-accepted
unfolding accepts clap_on_literals
returns-clause-accepted c = λ name. refl

pub returns-clause-meaning : goal.returns-clause-meaning
unfolding command_of clap_on_literals
returns-clause-meaning c = λ name. refl
