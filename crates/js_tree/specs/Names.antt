-- What names stand in a tree.
use Rattle.std.specs.Prelude.{List, [], ◌∷◌, ◌++◌, Bool, true, false, Option, Some, None, codes, if◌then◌else◌}
use Rattle.std.specs.Str.{bytes_eq}
use Rattle.js_syntax.specs.declared.node_kind.NodeKind.{NodeKind as Kind}
use Rattle.js_syntax.specs.declared.node_kind.NodeKind.TheVariants.{CallExpression as call_expression, ParenthesizedExpression as parenthesized_expression, ReferenceName as reference_name}
use Rattle.js_syntax.specs.declared.node_kind.NodeKind.TheVariants.{BindingName as binding_name, BindingDefault as binding_default, BindingProperty as binding_property, BindingObject as binding_object, BindingArray as binding_array, BindingRest as binding_rest, Properties as properties, Elements as elements}
use Rattle.js_syntax.specs.Node.{Forest, nothing, node, absent, Tree}

-- ---- direct eval (ECMA-262 13.3.6.1)

-- the reference that the first node of a row is, parentheses aside, if its name is `eval`
abbrev pub eval_name : Forest → Option Tree
eval_name (node parenthesized_expression n below rest) = eval_name below
eval_name (node (reference_name s) n below rest) = if bytes_eq s (codes "eval") then Some (record { kind = reference_name s; note = n; below = below }) else None
eval_name _ = None

-- of a call that isn't optional
abbrev pub eval_of_call : Kind → (below : Forest) → Option Tree
eval_of_call (call_expression false pure) below = eval_name below
eval_of_call _ below = None

-- ---- the names that a pattern declares (ECMA-262 8.2.1), in order of places: each the node that it is

-- which of the nodes of a row are looked at
pub data Part : Type 0 where
  all_of first_of behind_first : Part

-- which of the nodes below may declare names: a default declares what stands left of it, and a property of a pattern what
-- its value does, since its key may be an expression
abbrev pub part_below : Kind → Option Part
part_below binding_default = Some first_of
part_below (binding_property key) = Some behind_first
part_below binding_object = Some all_of
part_below binding_array = Some all_of
part_below binding_rest = Some all_of
part_below properties = Some all_of
part_below elements = Some all_of
part_below _ = None

-- the names of a row, by the part that is looked at
pub record Looked : Type 0 where
  pub all : List Tree
  pub first : List Tree
  pub behind : List Tree

abbrev pub chosen : Option Part → Looked → List Tree
chosen None l = []
chosen (Some all_of) l = l.all
chosen (Some first_of) l = l.first
chosen (Some behind_first) l = l.behind

abbrev pub is_name : Kind → Bool
is_name (binding_name s) = true
is_name _ = false

-- the names of a node, from those below it
abbrev pub names_of : Tree → Looked → List Tree
names_of t below = if is_name t.kind then t ∷ [] else chosen (part_below t.kind) below

abbrev pub looked : Forest → Looked
looked nothing = record { all = []; first = []; behind = [] }
looked (absent rest) = record { all = (looked rest).all; first = []; behind = (looked rest).all }
looked (node k n below rest) =
    let names = names_of (record { kind = k; note = n; below = below }) (looked below) in
    record { all = names ++ (looked rest).all; first = names; behind = (looked rest).all }

abbrev pub names_declared : Forest → List Tree
names_declared t = (looked t).first
