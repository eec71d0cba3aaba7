use Rattle.std.proofs.Common.{◌≡◌, ◌||◌, ℕ, List, drop}
use Rattle.scope_rules.specs.declared.layer.Layer.{Layer}
use Rattle.scope_rules.specs.Binding.{is_declared}
use Rattle.scope_names.specs.Places.{is_placed}
use Rattle.scope_names.proofs.places.places_of.Given as goal

abbrev pub invariant-loop-site : goal.invariant-loop-site
invariant-loop-site l = (m : Layer) (q : List ℕ) → is_placed l.places m q || is_declared (drop l.site-index l.sites) m q ≡ is_declared l.sites m q
