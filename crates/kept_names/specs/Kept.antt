-- The names that `var` declares in a statement. They are names of the function around it (ECMA-262 8.2.6, 14.3.2), and so stay
-- where the statement goes.
use Rattle.std.specs.Prelude.{List, [], ◌∷◌, ◌++◌, Bool, true, false, Option, Some, None, map, if◌then◌else◌}
use Rattle.js_syntax.specs.declared.node_kind.NodeKind.{NodeKind as Kind}
use Rattle.js_syntax.specs.declared.node_kind.NodeKind.TheVariants as kind
use Rattle.js_syntax.specs.declared.kind.VariableKind.TheVariants as variable
use Rattle.js_syntax.specs.Node.{Forest, nothing, node, absent, nowhere, Tree, row}
use Rattle.js_tree.specs.Names.{names_declared}

-- of declarators: the names of their patterns, not those in their initialisers
abbrev pub declared_of : Kind → (below : Forest) → (inner : List Tree) → List Tree
declared_of kind.Declarators a inner = inner
declared_of kind.VariableDeclarator a inner = names_declared a
declared_of k a inner = []

abbrev pub declared : Forest → List Tree
declared nothing = []
declared (absent r) = declared r
declared (node k n a r) = declared_of k a (declared a) ++ declared r

abbrev pub is_var : Kind → Bool
is_var (kind.VariableDeclaration variable.Var) = true
is_var k = false

-- in which nodes statements stand that run where these do, the heads of loops among them; not functions and classes
abbrev pub holds_statements : Kind → Bool
holds_statements kind.Statements = true
holds_statements kind.BlockStatement = true
holds_statements kind.IfStatement = true
holds_statements kind.ForStatement = true
holds_statements kind.ForInStatement = true
holds_statements kind.ForOfStatement = true
holds_statements kind.WhileStatement = true
holds_statements kind.DoWhileStatement = true
holds_statements (kind.LabeledStatement label) = true
holds_statements kind.SwitchStatement = true
holds_statements kind.Cases = true
holds_statements kind.SwitchCase = true
holds_statements kind.TryStatement = true
holds_statements kind.CatchClause = true
holds_statements kind.WithStatement = true
holds_statements k = false

-- of a node, given what is kept of what lies below it
abbrev pub kept_of : Kind → (below : Forest) → (inner : List Tree) → List Tree
kept_of k a inner = if is_var k then declared a else if holds_statements k then inner else []

-- in order of places, and with repeats
abbrev pub kept : Forest → List Tree
kept nothing = []
kept (absent r) = kept r
kept (node k n a r) = kept_of k a (kept a) ++ kept r

-- ---- a declaration of them, without initialisers

abbrev pub declarator_of : (name : Tree) → Option Tree
declarator_of x = Some (record { kind = kind.VariableDeclarator; note = record { span = x.note.span; id = None }; below = node x.kind x.note x.below (absent nothing) })

-- it has no place in the source text
abbrev pub declaration_with : (declarators : List (Option Tree)) → Tree
declaration_with ds = record { kind = kind.VariableDeclaration variable.Var; note = nowhere; below = node kind.Declarators nowhere (row ds) nothing }

abbrev pub declaration_of : (declarators : List (Option Tree)) → Option Tree
declaration_of [] = None
declaration_of ds = Some (declaration_with ds)
