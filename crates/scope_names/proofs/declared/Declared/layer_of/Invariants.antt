use Rattle.std.proofs.Common.{◌≡◌, drop}
use Rattle.scope_rules.specs.Binding.{binding_layer}
use Rattle.scope_names.proofs.declared.Declared.layer_of.Given as goal

abbrev pub invariant-loop-layer : goal.invariant-loop-layer
invariant-loop-layer l = binding_layer l.self (drop l.layer-index l.layers) l.name ≡ binding_layer l.self l.layers l.name
