-- That the entry of each scope's node declares every name that a declaration of the tree has in a layer of the scope.
use Rattle.std.specs.Prelude.{◌≡◌, ℕ, ◌+◌, List, Bool, true, false, ◌||◌}
use Rattle.js_syntax.specs.declared.node_kind.NodeKind.{NodeKind as Kind}
use Rattle.js_syntax.specs.Node.{Forest, nothing, node, absent}
use Rattle.js_meaning.specs.Value.{Text}
use Rattle.js_meaning.specs.Scope.{first_of, behind, lexical}
use Rattle.js_meaning.specs.Module.{names_in}
use Rattle.steps.specs.Names.{is_among, names_declared, names_exported}
use Rattle.scope_rules.specs.declared.layer.Layer.{Layer}
use Rattle.scope_rules.specs.Context.{opens}
use Rattle.scope_rules.specs.Site.{BindingSite, opens_one, scope_count}
use Rattle.scope_rules.specs.Binding.{is_declared}

-- the scope of a switch is entered at its cases
abbrev pub names_of_scope : Kind → (below : Forest) → List Text
names_of_scope Kind.SwitchStatement a = names_in (lexical (first_of (behind a)))
names_of_scope k a = names_declared k a

abbrev pub AgreesAt : List BindingSite → (scope : ℕ) → Kind → (below : Forest) → Type 0
AgreesAt bs scope k a = (l : Layer) (x : Text) → l.scope ≡ scope → is_declared bs l x ≡ true → is_among (names_of_scope k a) x ≡ true

-- of a row, whose first scope has the number `next`
abbrev pub Agrees : List BindingSite → (next : ℕ) → Forest → Type 0
Agrees bs next nothing = Unit {0}
Agrees bs next (absent r) = Agrees bs next r
Agrees bs next (node k n a r) = (opens k a ≡ true → AgreesAt bs next k a) × Agrees bs (next + opens_one k a) a × Agrees bs (next + scope_count (node k n a nothing)) r

-- whether an export in a row is of a declaration of this name; one of a list of names holds references
abbrev pub exports_at : Text → Kind → (below : Forest) → (inner : Bool) → Bool
exports_at x (Kind.ExportNamedDeclaration source) a inner = is_among (names_exported a) x || inner
exports_at x Kind.ExportDefaultDeclaration a inner = is_among (names_exported a) x || inner
exports_at x k a inner = inner

abbrev pub exports : Text → Forest → Bool
exports x nothing = false
exports x (absent r) = exports x r
exports x (node k n a r) = exports_at x k a (exports x a) || exports x r
