use Rattle.run_world.proofs.Several.{first_item, shows_more}
use Rattle.run_world.proofs.world.World.+show_all.Goals as goal

pub returns-in_ok-others-in-len1-up : goal.returns-in_ok-others-in-len1-up
returns-in_ok-others-in-len1-up t c =
    record { does = shows_more c.args.self.now c.show.new.self c.show_all.new.self c.args.values.now c.first-item.result c.in_ok-first-in-len1-up.first c.in_ok-others-in-len1-up.others c.in_front.result (first_item _ _ c.in-len1-up.len_at_least c.first-item.is) c.in_ok-first-in-len1-up.ensures.does c.in_ok-others-in-len1-up.ensures.does c.in_front.ensures }
