use Rattle.std.proofs.Common.{◌≡◌, drop}
use Rattle.js_meaning.specs.Statement.{has_label}
use Rattle.run_plan.specs.Held.{texts_of}
use Rattle.run_plan.proofs.held.has_label.Given as goal

abbrev pub invariant-loop-name : goal.invariant-loop-name
invariant-loop-name l = has_label (texts_of (drop l.name-index l.names)) l.label ≡ has_label (texts_of l.names) l.label
