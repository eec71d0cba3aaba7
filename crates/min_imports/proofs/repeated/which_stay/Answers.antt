use Rattle.std.proofs.Common.{[], ◌∷◌}
use Rattle.js_syntax.specs.Node.{row}
use Rattle.min_imports.specs.Items.{asked_behind, stays}
use Rattle.min_imports.proofs.Staying.{stays_more}
use Rattle.min_imports.proofs.repeated.which_stay.Goals as goal

pub loop-item-preserved : goal.loop-item-preserved
loop-item-preserved c =
    let so_far = c.loop-item.invariant in
    let said = c.in_ok-is_staying.ensures so_far.before so_far.tells in
    record {
      before = asked_behind so_far.before (row (c.item-item.result ∷ []));
      tells = said.1;
      so_far = stays_more c.args.items.now c.loop-item.item-index c.item-item.result c.in_ok-is_staying.is_staying c.loop-item.staying.items c.push.new.self.items (stays [] (row c.args.items.now)) so_far.before
          c.loop-item-test.true c.item-item.is said.0 c.in_ok-push.ensures.items so_far.so_far;
    }
