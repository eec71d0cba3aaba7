use Rattle.std.proofs.Common.{◌≡◌, ◌<◌, map, drop, length}
use Rattle.js_traverse.specs.Below.{with_parents, MayMove}
use Rattle.js_traverse.proofs.below.put_into.Given as goal

abbrev pub invariant-loop-scope : goal.invariant-loop-scope
invariant-loop-scope l = record {
  moved : with_parents (map (λ s. s.0) (drop l.scope-index l.scopes)) l.parent.0 l.scoping ≡ with_parents (map (λ s. s.0) l.scopes) l.parent.0 l.initial.scoping;
  rest : MayMove (map (λ s. s.0) (drop l.scope-index l.scopes)) l.parent.0 l.scoping;
  there : l.parent.0 < length l.scoping.scopes;
}
