-- Names of declarations that have no mark.
use Rattle.std.specs.Prelude.{List, Bool, true, not, ◌&&◌}
use Rattle.js_syntax.specs.declared.node_kind.NodeKind.{NodeKind as Kind}
use Rattle.js_syntax.specs.Node.{Forest, Note, node}
use Rattle.js_effects.specs.Silence.{is_marked}
use Rattle.steps.specs.Fit.Enclosed.{is_binding}

abbrev pub name_unmarked : List Bool → Kind → Note → Bool
name_unmarked marks k n = not (is_binding k && is_marked marks n.id)

abbrev pub first_unmarked : List Bool → Forest → Bool
first_unmarked marks (node k n below rest) = name_unmarked marks k n
first_unmarked marks t = true
