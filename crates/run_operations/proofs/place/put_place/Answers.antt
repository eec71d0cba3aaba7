use Rattle.js_meaning.specs.Reference.{put_place}
use Rattle.run_value.specs.View.{value_of}
use Rattle.run_world.specs.World.{place_of}
use Rattle.run_plan.specs.Frame.{plans}
use Rattle.run_plan.proofs.Law.{goes_on}
use Rattle.run_operations.proofs.place.put_place.Goals as goal

pub returns-clause-follows : goal.returns-clause-follows
returns-clause-follows c =
    λ E k. goes_on c.args.world.now c.put.new.world (put_place E (place_of c.args.place.now) (value_of c.args.value)) (plans E c.in_ok-plan.plan) k (c.in_ok-plan.ensures.does E)
