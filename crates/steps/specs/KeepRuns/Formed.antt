-- What a tree's form gives to steps: lists stand where they belong, and where names are declared there are no statements.
use Rattle.std.specs.Prelude.{Bool, true, false, not, ◌&&◌}
use Rattle.js_syntax.specs.declared.node_kind.NodeKind.{NodeKind as Kind}
use Rattle.js_syntax.specs.Node.{Forest, nothing, node, absent}
use Rattle.std.specs.Str.{bytes_eq}
use Rattle.js_meaning.specs.Value.{Text, this_name}
use Rattle.js_meaning.specs.Scope.{first_of, behind, default_name}

abbrev pub holds_statements : Kind → Bool
holds_statements (Kind.Program source) = true
holds_statements Kind.BlockStatement = true
holds_statements Kind.FunctionBody = true
holds_statements Kind.SwitchCase = true
holds_statements k = false

abbrev pub is_function : Kind → Bool
is_function (Kind.Function f pure) = true
is_function k = false

abbrev pub is_cases : Kind → Bool
is_cases Kind.Cases = true
is_cases k = false

abbrev pub is_switch : Kind → Bool
is_switch Kind.SwitchStatement = true
is_switch k = false

abbrev pub is_object : Kind → Bool
is_object Kind.ObjectExpression = true
is_object k = false

-- whether a node may hold another as a child, as far as lists and bodies go
abbrev pub may_hold : (above below : Kind) → Bool
may_hold k Kind.Statements = holds_statements k
may_hold k Kind.FunctionBody = is_function k
may_hold k Kind.SwitchCase = is_cases k
may_hold k Kind.Cases = is_switch k
may_hold k (Kind.Program source) = false
may_hold k (Kind.Function f pure) = not (is_object k)
may_hold k l = true

abbrev pub holds_well : Kind → Forest → Bool
holds_well k nothing = true
holds_well k (absent r) = holds_well k r
holds_well k (node l n a r) = may_hold k l && holds_well k r

abbrev pub is_plain : Kind → Bool
is_plain Kind.Statements = false
is_plain Kind.ExpressionStatement = false
is_plain k = true

-- no statement stands in the row, and none but inside of functions
abbrev pub still : Forest → Bool
still nothing = true
still (absent r) = still r
still (node k n a r) = (is_plain k && still a) && still r

abbrev pub calm_at : Kind → (below : Bool) → Bool
calm_at (Kind.Function f pure) below = true
calm_at k below = is_plain k && below

abbrev pub calm : Forest → Bool
calm nothing = true
calm (absent r) = calm r
calm (node k n a r) = calm_at k (calm a) && calm r

-- no program declares these
abbrev pub is_free_name : Text → Bool
is_free_name y = not (bytes_eq this_name y) && not (bytes_eq default_name y)

-- what is asked of the row below a node that declares names, or shows them; and of names
abbrev pub heads : Kind → (below : Forest) → Bool
heads (Kind.VariableDeclaration how) a = calm a
heads Kind.ForStatement a = calm (first_of a)
heads Kind.CatchClause a = still (first_of a)
heads (Kind.Function f pure) a = still (first_of a) && still (first_of (behind a))
heads (Kind.Class c) a = still a
heads (Kind.ImportDeclaration source) a = still a
heads (Kind.ExportNamedDeclaration source) a = calm a
heads Kind.ExportDefaultDeclaration a = calm a
heads Kind.ObjectExpression a = calm a
heads (Kind.BindingName y) a = is_free_name y
heads k a = true

abbrev pub is_formed : Forest → Bool
is_formed nothing = true
is_formed (absent r) = is_formed r
is_formed (node k n a r) = (holds_well k a && heads k a) && (is_formed a && is_formed r)
