use Rattle.std.proofs.Common.{◌≡◌, map, drop}
use Rattle.js_meaning.specs.Scope.{look}
use Rattle.run_value.specs.Name.{bound_of}
use Rattle.run_value.proofs.env.slot_among.Given as goal

abbrev pub invariant-loop-bound : goal.invariant-loop-bound
invariant-loop-bound l = look (map bound_of (drop l.bound-index l.names)) l.name ≡ look (map bound_of l.names) l.name
