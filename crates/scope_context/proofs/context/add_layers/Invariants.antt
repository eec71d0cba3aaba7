use Rattle.std.proofs.Common.{◌≡◌, ◌++◌, drop}
use Rattle.scope_context.proofs.context.add_layers.Given as goal

abbrev pub invariant-loop-layer : goal.invariant-loop-layer
invariant-loop-layer l = l.all.items ++ drop l.layer-index l.layers ≡ l.fn.all.items ++ l.layers
