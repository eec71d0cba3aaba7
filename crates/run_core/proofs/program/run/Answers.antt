use Rattle.std.proofs.Common.{◌∙◌, sym, ap}
use Rattle.js_syntax.specs.Node.{forest_of}
use Rattle.js_meaning.specs.Run.{seen}
use Rattle.run_value.specs.Trace.{ending_of}
use Rattle.run_world.specs.Script.{script_of}
use Rattle.run_core.specs.Machine.{enter_fully}
use Rattle.run_core.proofs.Steps.{begun, ends_so}
use Rattle.run_core.proofs.program.run.Goals as goal

pub returns : goal.returns
returns c = record {
  exact =
      c.into_trace.ensures
      ∙ ends_so c.go_on.new.world (ending_of c.in_ok-ending.ending)
      ∙ sym c.in_ok-ending.ensures.does
      ∙ sym (ap seen (c.in_ok-plan.ensures.does enter_fully))
      ∙ begun c.in_ok-world.world (forest_of c.args.program.now) (script_of c.args.script.now) c.args.bound c.in_ok-world.ensures.state c.in_ok-world.ensures.trace;
}
