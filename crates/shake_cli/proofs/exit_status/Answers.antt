use Rattle.shake_cli.proofs.exit_status.Goals as goal

pub returns-clause-run : goal.returns-clause-run
returns-clause-run g c = (c.shake.result, c.code.ensures, c.shake.ensures.run, c.shake.ensures.told)
