use Rattle.std.proofs.Common.{◌∙◌, sym, arith}
use Rattle.js_syntax.specs.Node.{forest_of}
use Rattle.run_module.proofs.Core.{covered_module}
use Rattle.run_module.proofs.module.accept.Goals as goal

pub first_outside-requires : goal.first_outside-requires
first_outside-requires c = record { fits = omega (arith, c.in-Ok.ensures.within.nodes) }

pub returns-in-Some-clause-err : goal.returns-in-Some-clause-err
returns-in-Some-clause-err c =
    (forest_of c.args.program.now, c.requires.read, c.in-Ok.ensures.within, c.in-Ok.ensures.well_formed, sym c.first_outside.ensures.exact ∙ c.in-Some.is)

pub returns-in-None-clause-ok : goal.returns-in-None-clause-ok
returns-in-None-clause-ok c = record {
  limits = c.in-Ok.ensures.within;
  form = c.in-Ok.ensures.well_formed;
  core = covered_module (forest_of c.args.program.now) (sym c.first_outside.ensures.exact ∙ c.in-None.is);
}

pub returns-in-Err-clause-err : goal.returns-in-Err-clause-err
returns-in-Err-clause-err c = (forest_of c.args.program.now, c.requires.read, c.in-Err.ensures.err)
