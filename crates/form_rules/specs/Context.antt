-- What stands around a node, as far as the rules of form ask.
use Rattle.std.specs.Prelude.{ℕ, List, [], ◌∷◌, ◌++◌, Bool, true, false, not, ◌||◌, ◌==◌, codes, if◌then◌else◌}
use Rattle.std.specs.Str.{bytes_eq}
use Rattle.js_syntax.specs.declared.node_kind.NodeKind.{NodeKind as Kind}
use Rattle.js_syntax.specs.declared.node_kind.NodeKind.TheVariants.{Program as program, Directive as directive, Statements as statements, FunctionBody as function_body, Function as function, Class as class, ClassBody as class_body, Members as members, MethodDefinition as method_definition, PropertyDefinition as property_definition, StaticBlock as static_block, Property as property, PrivateName as private_name, LabeledStatement as labeled_statement, IfStatement as if_statement, WithStatement as with_statement, WhileStatement as while_statement, DoWhileStatement as do_while_statement, ForStatement as for_statement, ForInStatement as for_in_statement, ForOfStatement as for_of_statement, SwitchStatement as switch_statement}
use Rattle.js_syntax.specs.declared.value.Key.TheVariants.{Below as key_below}
use Rattle.js_syntax.specs.Node.{Forest, nothing, node, absent}
use Rattle.js_syntax.specs.declared.scalar.SourceType.{SourceType}
use Rattle.js_syntax.specs.declared.scalar.SourceType.TheVariants as source_type
use Rattle.js_syntax.specs.declared.kind.FunctionKind.{FunctionKind}
use Rattle.js_syntax.specs.declared.kind.FunctionKind.TheVariants as function_kind
use Rattle.js_syntax.specs.declared.kind.MethodKind.{MethodKind}
use Rattle.js_syntax.specs.declared.kind.MethodKind.TheVariants as method_kind
use Rattle.js_syntax.specs.declared.kind.PropertyKind.{PropertyKind}
use Rattle.js_syntax.specs.declared.kind.PropertyKind.TheVariants as property_kind
use Rattle.form_rules.specs.declared.role.Role.{Role}
use Rattle.form_rules.specs.declared.role.Role.TheVariants.{Plain as plain, Method as method, DerivedConstructor as derived_constructor}

pub record Label : Type 0 where
  pub name : List ℕ
  pub is_loop : Bool

-- what `return`, `break` and `continue` may leave
pub record Leaves : Type 0 where
  pub returns : Bool
  pub breaks : Bool
  pub continues : Bool
  pub labels : List Label

-- what the class or the function around says
pub record Members : Type 0 where
  -- the private names that the classes around declare
  pub privates : List (List ℕ)
  pub super_calls : Bool
  pub super_members : Bool
  pub new_target : Bool
  -- whether the class around extends another
  pub is_derived : Bool

pub record Context : Type 0 where
  pub source : SourceType
  pub strict : Bool
  pub leaves : Leaves
  pub members : Members
  -- of this node alone: what the function that it may be is, whether it is a statement alone as the body of another, and
  -- whether it stands left in the head of a `for`-`in` or `for`-`of`
  pub role : Role
  pub is_alone : Bool
  pub is_head : Bool

abbrev pub is_module : SourceType → Bool
is_module source_type.Module = true
is_module t = false

abbrev pub is_commonjs : SourceType → Bool
is_commonjs source_type.CommonJs = true
is_commonjs t = false

-- ---- strict code (11.2.2)

abbrev pub has_use_strict : Forest → Bool
has_use_strict nothing = false
has_use_strict (absent rest) = false
has_use_strict (node (directive written) n below rest) = bytes_eq written (codes "use strict") || has_use_strict rest
has_use_strict (node k n below rest) = false

-- of the first node, a program's or body's list
abbrev pub is_strict_list : Forest → Bool
is_strict_list (node statements n below rest) = has_use_strict below
is_strict_list t = false

-- of a function, whose body is the last of its nodes
abbrev pub is_strict_function : Forest → Bool
is_strict_function nothing = false
is_strict_function (absent rest) = is_strict_function rest
is_strict_function (node function_body n below rest) = is_strict_list below
is_strict_function (node k n below rest) = is_strict_function rest

-- ---- what a node makes of its context, for what lies below

-- what is said of a node alone is not said of those below it
abbrev pub context : Context → (strict : Bool) → Leaves → Members → Context
context c strict leaves inner = record { source = c.source; strict = strict; leaves = leaves; members = inner; role = plain; is_alone = false; is_head = false }

abbrev pub below_it : Context → Context
below_it c = context c c.strict c.leaves c.members

abbrev pub as_role : Role → Context → Context
as_role role c = record { source = c.source; strict = c.strict; leaves = c.leaves; members = c.members; role = role; is_alone = false; is_head = false }

abbrev pub in_head : Context → Context
in_head c = record { source = c.source; strict = c.strict; leaves = c.leaves; members = c.members; role = plain; is_alone = false; is_head = true }

abbrev pub alone : Leaves → Context → Context
alone leaves c = record { source = c.source; strict = c.strict; leaves = leaves; members = c.members; role = plain; is_alone = true; is_head = false }

abbrev pub as_body : Context → Context
as_body c = alone c.leaves c

abbrev pub in_loop : Context → Context
in_loop c = alone (record { returns = c.leaves.returns; breaks = true; continues = true; labels = c.leaves.labels }) c

abbrev pub in_switch : Context → Context
in_switch c = context c c.strict (record { returns = c.leaves.returns; breaks = true; continues = c.leaves.continues; labels = c.leaves.labels }) c.members

abbrev pub labeled : Label → Context → Context
labeled label c = alone (record { returns = c.leaves.returns; breaks = c.leaves.breaks; continues = c.leaves.continues; labels = label ∷ c.leaves.labels }) c

-- a border, which no label and nothing that may be left crosses
abbrev pub nothing_left : (returns : Bool) → Leaves
nothing_left returns = record { returns = returns; breaks = false; continues = false; labels = [] }

abbrev pub bordered : Context → (strict returns super_calls super_members new_target : Bool) → Context
bordered c strict returns super_calls super_members new_target =
    context c strict (nothing_left returns) (record { privates = c.members.privates; super_calls = super_calls; super_members = super_members; new_target = new_target; is_derived = c.members.is_derived })

abbrev pub in_class : (privates : List (List ℕ)) → (is_derived : Bool) → Context → Context
in_class privates is_derived c =
    context c true c.leaves (record { privates = privates ++ c.members.privates; super_calls = c.members.super_calls; super_members = c.members.super_members; new_target = c.members.new_target; is_derived = is_derived })

-- a function's context by its role: an arrow has that around it
abbrev pub is_method : Role → Bool
is_method plain = false
is_method role = true

abbrev pub is_constructor : Role → Bool
is_constructor derived_constructor = true
is_constructor role = false

abbrev pub in_function : FunctionKind → (strict : Bool) → Context → Context
in_function function_kind.Arrow strict c = bordered c strict true c.members.super_calls c.members.super_members c.members.new_target
in_function how strict c = bordered c strict true (is_constructor c.role) (is_method c.role) true

-- the private names that the members of a class declare
abbrev pub private_key_of : Forest → List (List ℕ)
private_key_of (node (private_name s) n below rest) = s ∷ []
private_key_of t = []

abbrev pub private_of : Kind → (below : Forest) → List (List ℕ)
private_of (method_definition how is_static key_below) below = private_key_of below
private_of (property_definition is_static key_below) below = private_key_of below
private_of k below = []

abbrev pub privates_of : Forest → List (List ℕ)
privates_of nothing = []
privates_of (absent rest) = privates_of rest
privates_of (node class_body n below rest) = privates_of below ++ privates_of rest
privates_of (node members n below rest) = privates_of below ++ privates_of rest
privates_of (node k n below rest) = private_of k below ++ privates_of rest

-- what a class extends is the second of its nodes
abbrev pub is_absent : Forest → Bool
is_absent (absent rest) = true
is_absent t = false

abbrev pub behind_first : Forest → Forest
behind_first nothing = nothing
behind_first (absent rest) = rest
behind_first (node k n below rest) = rest

abbrev pub extends_another : Forest → Bool
extends_another below = not (is_absent (behind_first below))

-- a label is a loop's where a loop stands behind it, whatever other labels stand between
abbrev pub is_loop : Forest → Bool
is_loop (node (labeled_statement label) n below rest) = is_loop below
is_loop (node while_statement n below rest) = true
is_loop (node do_while_statement n below rest) = true
is_loop (node for_statement n below rest) = true
is_loop (node for_in_statement n below rest) = true
is_loop (node for_of_statement n below rest) = true
is_loop t = false

abbrev pub role_of_method : MethodKind → (is_derived : Bool) → Role
role_of_method method_kind.Constructor true = derived_constructor
role_of_method how is_derived = method

abbrev pub is_accessor : PropertyKind → Bool
is_accessor property_kind.Init = false
is_accessor how = true

abbrev pub role_of_property : PropertyKind → (method : Bool) → Role
role_of_property how is_one = if is_accessor how || is_one then method else plain

-- the context of the node at this place among those below a node of this kind
abbrev pub inside : Context → Kind → (below : Forest) → (at : ℕ) → Context
inside c (program source) below at = context c (is_module source || is_strict_list below) c.leaves c.members
inside c (function how pure) below at = in_function how (c.strict || is_strict_function below) c
inside c (class how) below at = in_class (privates_of below) (extends_another below) c
inside c (method_definition how is_static key) below at = if at == 1 then as_role (role_of_method how c.members.is_derived) c else below_it c
inside c (property_definition is_static key) below at = if at == 1 then bordered c c.strict false false true true else below_it c
inside c static_block below at = bordered c c.strict false false true true
inside c (property how is_one key) below at = if at == 1 then as_role (role_of_property how is_one) c else below_it c
inside c (labeled_statement label) below at = labeled (record { name = label; is_loop = is_loop below }) c
inside c if_statement below at = if at == 0 then below_it c else as_body c
inside c with_statement below at = if at == 0 then below_it c else as_body c
inside c while_statement below at = if at == 0 then below_it c else in_loop c
inside c do_while_statement below at = if at == 0 then in_loop c else below_it c
inside c for_statement below at = if at == 3 then in_loop c else below_it c
inside c for_in_statement below at = if at == 2 then in_loop c else if at == 0 then in_head c else below_it c
inside c for_of_statement below at = if at == 2 then in_loop c else if at == 0 then in_head c else below_it c
inside c switch_statement below at = if at == 1 then in_switch c else below_it c
inside c k below at = below_it c

-- that of the program
abbrev pub outermost : SourceType → Context
outermost source = record {
  source = source;
  strict = false;
  leaves = nothing_left (is_commonjs source);
  members = record { privates = []; super_calls = false; super_members = false; new_target = false; is_derived = false };
  role = plain;
  is_alone = false;
  is_head = false;
}
