-- Whether something in a scope assigns to a name of it. Where a scope further in declares the name again, it is another one.
use Rattle.std.specs.Prelude.{Bool, false, ◌||◌, if◌then◌else◌}
use Rattle.std.specs.Str.{bytes_eq}
use Rattle.js_syntax.specs.declared.node_kind.NodeKind.{NodeKind as Kind}
use Rattle.js_syntax.specs.Node.{Forest, nothing, node, absent}
use Rattle.js_meaning.specs.Value.{Text}
use Rattle.steps.specs.Names.{is_among, names_declared}

abbrev pub assigns_at : Text → Kind → (below : Forest) → (inner : Bool) → Bool
assigns_at x (Kind.TargetName y) a inner = bytes_eq y x || inner
assigns_at x k a inner = if is_among (names_declared k a) x then false else inner

abbrev pub assigns : Text → Forest → Bool
assigns x nothing = false
assigns x (absent r) = assigns x r
assigns x (node k n a r) = assigns_at x k a (assigns x a) || assigns x r
