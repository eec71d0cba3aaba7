-- What is read off a tree about its names: which of them a scope declares, whether anything refers to one, and whether an
-- expression is silent where certain names are declared.
use Rattle.std.specs.Prelude.{List, [], ◌∷◌, ◌++◌, Bool, true, false, not, ◌||◌, codes, if◌then◌else◌}
use Rattle.std.specs.Str.{bytes_eq}
use Rattle.js_syntax.specs.declared.node_kind.NodeKind.{NodeKind as Kind}
use Rattle.js_syntax.specs.Node.{Forest, nothing, node, absent}
use Rattle.js_syntax.specs.declared.operator.UnaryOperator.TheVariants as unary
use Rattle.js_effects.specs.Still.{is_value}
use Rattle.js_effects.specs.Silence.{is_one_name, runs_its_parts}
use Rattle.js_meaning.specs.Value.{Text, this_name}
use Rattle.js_meaning.specs.Scope.{waiting, named_so, first_of, bound_names, var_names, lexical, own_name, function_decls, module_decls}
use Rattle.js_meaning.specs.Module.{names_in}

abbrev pub is_among : List Text → Text → Bool
is_among [] x = false
is_among (y ∷ ys) x = bytes_eq y x || is_among ys x

-- the names that the entry of a node declares for what lies below it (ECMA-262 10.2.11, 14.2.3, 14.7.4, 14.15.2, 16.2.1.6.4)
abbrev pub names_declared : Kind → (below : Forest) → List Text
names_declared (Kind.Program source) a = names_in (module_decls a)
names_declared (Kind.Function f pure) a = names_in (named_so (waiting true) (own_name f a)) ++ names_in (function_decls f a)
names_declared Kind.BlockStatement a = names_in (lexical a)
names_declared Kind.Cases a = names_in (lexical a)
names_declared Kind.ForStatement a = names_in (lexical (first_of a))
names_declared Kind.CatchClause a = bound_names (first_of a)
names_declared k a = []

-- the names of the declarations in an export (16.2.3)
abbrev pub names_exported : (below : Forest) → List Text
names_exported a = var_names a ++ names_in (lexical a)

-- Whether something in a scope refers to a name of it: reads it, assigns to it, or exports it. Where a scope further in
-- declares the name again, it is another one.
abbrev pub refers_at : Text → Kind → (below : Forest) → (inner : Bool) → Bool
refers_at x (Kind.ReferenceName y) a inner = bytes_eq y x || inner
refers_at x (Kind.TargetName y) a inner = bytes_eq y x || inner
refers_at x (Kind.ExportNamedDeclaration source) a inner = is_among (names_exported a) x || inner
refers_at x Kind.ExportDefaultDeclaration a inner = is_among (names_exported a) x || inner
refers_at x k a inner = if is_among (names_declared k a) x then false else inner

abbrev pub refers : Text → Forest → Bool
refers x nothing = false
refers x (absent r) = refers x r
refers x (node k n a r) = refers_at x k a (refers x a) || refers x r

-- Whether an expression may do something where these names are declared: the forms are those of silence, and of names
-- those are silent that are declared, `this` among them, and `undefined`; `typeof` of any name is.
abbrev pub is_named : List Text → Kind → (below : Forest) → Bool
is_named names (Kind.ReferenceName x) a = is_among names x || bytes_eq x (codes "undefined")
is_named names (Kind.UnaryExpression unary.Typeof) a = is_one_name a
is_named names Kind.ThisExpression a = is_among names this_name
is_named names k a = false

abbrev pub acts_at : List Text → Kind → (below : Forest) → (parts : Bool) → Bool
acts_at names k a parts = if is_value k || is_named names k a then false else not (runs_its_parts k a) || parts

abbrev pub may_act : List Text → Forest → Bool
may_act names nothing = false
may_act names (absent r) = may_act names r
may_act names (node k n a r) = acts_at names k a (may_act names a) || may_act names r
