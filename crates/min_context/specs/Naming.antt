-- The name that is made of what an expression names: the names in it in order, joined by `$`.
use Rattle.std.specs.Prelude.{ℕ, List, [], ◌∷◌, ◌++◌, Option, Some, None, codes}
use Rattle.js_syntax.specs.declared.node_kind.NodeKind.{NodeKind as Kind}
use Rattle.js_syntax.specs.declared.value.Key.{Key}
use Rattle.js_syntax.specs.declared.value.Key.TheVariants as key
use Rattle.js_syntax.specs.Node.{Forest, nothing, node, absent}

-- behind the names so far
abbrev pub with_part : List ℕ → Option (List ℕ) → List ℕ
with_part text None = text
with_part [] (Some name) = name
with_part (c ∷ text) (Some name) = (c ∷ text) ++ codes "$" ++ name

abbrev pub key_part : Key → Option (List ℕ)
key_part (key.Name name) = Some name
key_part k = None

-- what a node names itself, before what lies below it
abbrev pub part_before : Kind → Option (List ℕ)
part_before (Kind.BindingName name) = Some name
part_before (Kind.ReferenceName name) = Some name
part_before (Kind.TargetName name) = Some name
part_before (Kind.PrivateName name) = Some name
part_before Kind.ThisExpression = Some (codes "this")
part_before (Kind.Property how is_method k) = key_part k
part_before (Kind.BindingProperty k) = key_part k
part_before (Kind.TargetProperty k) = key_part k
part_before (Kind.MethodDefinition how is_static k) = key_part k
part_before (Kind.PropertyDefinition is_static k) = key_part k
part_before k = None

-- and behind it: a member's key stands behind its object
abbrev pub part_behind : Kind → Option (List ℕ)
part_behind (Kind.MemberExpression k optional) = key_part k
part_behind k = None

abbrev pub gathered : (text : List ℕ) → Forest → List ℕ
gathered text nothing = text
gathered text (absent rest) = gathered text rest
gathered text (node k n below rest) = gathered (with_part (gathered (with_part text (part_before k)) below) (part_behind k)) rest

-- where nothing is named
abbrev pub or_ref : List ℕ → List ℕ
or_ref [] = codes "ref"
or_ref (c ∷ text) = c ∷ text

abbrev pub name_of : Forest → List ℕ
name_of t = or_ref (gathered [] t)
