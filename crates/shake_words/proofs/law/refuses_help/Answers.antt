use Rattle.std.proofs.Common.{refl}
use Rattle.clap.proofs.OnLiterals.{clap_on_literals}
use Rattle.shake_words.specs.Meaning.{accepts}
use Rattle.shake_words.proofs.law.refuses_help.Goals as goal

pub returns-clause-alone : goal.returns-clause-alone
unfolding accepts clap_on_literals
returns-clause-alone c = λ name. λ rest. refl

pub returns-clause-behind : goal.returns-clause-behind
unfolding accepts clap_on_literals
returns-clause-behind c = λ name. refl

pub returns-clause-behind_run : goal.returns-clause-behind_run
unfolding accepts clap_on_literals
returns-clause-behind_run c = λ name. refl
