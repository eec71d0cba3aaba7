-- What a row begins with.
use Rattle.js_syntax.specs.Node.{Forest, nothing, node, absent, row}
use Rattle.run_plan.specs.declared.first.Front.{Front}
use Rattle.run_plan.specs.declared.first.Front.TheVariants.{Node, Absent, End}

abbrev pub front_of : Front → Forest
front_of (Node t rest) = node t.now.kind t.now.note t.now.below (row rest.now)
front_of (Absent rest) = absent (row rest.now)
front_of End = nothing
