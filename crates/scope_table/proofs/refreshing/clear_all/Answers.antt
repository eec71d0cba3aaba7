use Rattle.std.proofs.Common.{◌∙◌, sym, ap}
use Rattle.std.proofs.Math.ListN.{set}
use Rattle.std.proofs.lemmas.List.Edits.{map_over_more}
use Rattle.scope_table.specs.Refreshing.{without_eval}
use Rattle.scope_table.proofs.refreshing.clear_all.Goals as goal

pub loop-scope-preserved : goal.loop-scope-preserved
loop-scope-preserved c =
    ap (set c.loop-scope.scopes c.loop-scope.scope-index) (c.clear_eval.ensures ∙ ap without_eval (sym c.scope-item.is))
    ∙ map_over_more without_eval c.args.scopes.now c.loop-scope.scopes c.loop-scope.scope-index c.scope-item.result c.loop-scope-test.true c.loop-scope.invariant c.scope-item.is
