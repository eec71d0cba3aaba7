-- Lists, from which a place may be left out.
use Rattle.std.specs.Prelude.{Bool, true, false}
use Rattle.js_syntax.specs.declared.node_kind.NodeKind.{NodeKind as Kind}
use Rattle.js_syntax.specs.declared.node_kind.NodeKind.TheVariants.{Statements as statements, Cases as cases, Declarators as declarators, Parameters as parameters, Members as members, Elements as elements, Properties as properties, Expressions as expressions, Arguments as arguments, Quasis as quasis, Specifiers as specifiers}
use Rattle.js_syntax.specs.Node.{Forest, node, absent}
use Rattle.scope_laws.specs.Place.{Around, first, behind, behind_none, under}

abbrev pub is_list : Kind → Bool
is_list statements = true
is_list cases = true
is_list declarators = true
is_list parameters = true
is_list members = true
is_list elements = true
is_list properties = true
is_list expressions = true
is_list arguments = true
is_list quasis = true
is_list specifiers = true
is_list k = false

-- the tree without the place
abbrev pub without : Around → Forest
without (first rest) = rest
without (behind k n below a) = node k n below (without a)
without (behind_none a) = absent (without a)
without (under k n a rest) = node k n (without a) rest

-- whether the place is one of a list; or of the row that the tree is, if that is one
abbrev pub is_listed : (row : Bool) → Around → Bool
is_listed row (first rest) = row
is_listed row (behind k n below a) = is_listed row a
is_listed row (behind_none a) = is_listed row a
is_listed row (under k n a rest) = is_listed (is_list k) a
