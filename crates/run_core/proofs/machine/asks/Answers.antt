use Rattle.std.proofs.Common.{◌∙◌, ap, sym}
use Rattle.run_world.specs.World.{at}
use Rattle.run_plan.specs.Ask.{ask_of}
use Rattle.run_plan.specs.Frame.{meaning}
use Rattle.run_core.specs.Machine.{enter_fully}
use Rattle.run_core.proofs.Steps.{planned}
use Rattle.run_core.proofs.machine.asks.Goals as goal

pub returns : goal.returns
returns c = record {
  does =
      let does = ap (λ t. at c.args.world.now (meaning enter_fully t (ask_of c.args.ask) c.args.env)) (sym c.node.ensures) ∙ c.in_ok-plan.ensures.does enter_fully in
      planned c.args.world.now c.enter_node.new.world c.args.frames.now.items c.push_plan.new.frames.items (meaning enter_fully c.args.node (ask_of c.args.ask) c.args.env) c.in_ok-plan.plan c.in_ok-control.control.value does (c.in_ok-control.ensures.onto enter_fully);
}
