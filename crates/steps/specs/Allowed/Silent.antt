-- Which expressions are silent where they stand: the forms are those of silence, and of names those are silent that some
-- declaration of the tree binds, and `undefined`; so is `this` where no class stands around.
use Rattle.std.specs.Prelude.{◌≡◌, ◌⊎◌, ℕ, suc, ◌+◌, List, Bool, true, false, ◌&&◌, ◌||◌, is_some, codes, Option}
use Rattle.std.specs.Str.{bytes_eq}
use Rattle.js_syntax.specs.declared.node_kind.NodeKind.{NodeKind as Kind}
use Rattle.js_syntax.specs.declared.node_kind.NodeKind.TheVariants.{ReferenceName as reference_name, ThisExpression as this_expression, UnaryExpression as unary_expression, VariableDeclarator as variable_declarator}
use Rattle.js_syntax.specs.Node.{Forest, Tree, Note, nothing, node, absent}
use Rattle.js_syntax.specs.declared.operator.UnaryOperator.TheVariants as unary
use Rattle.js_effects.specs.declared.surroundings.Surroundings.{Surroundings}
use Rattle.js_effects.specs.Still.{is_value}
use Rattle.js_effects.specs.Silence.{is_one_name, runs_its_parts}
use Rattle.min_pass.specs.Around.{is_with}
use Rattle.min_pass.specs.Pass.{is_given}
use Rattle.scope_rules.specs.Context.{Context, inside}
use Rattle.scope_rules.specs.Site.{BindingSite, ReferenceSite, number_or_first, read_bits, opens_one, scope_count}
use Rattle.scope_rules.specs.Binding.{binding_of}
use Rattle.scope_laws.specs.Place.{Around, first, behind, behind_none, under, plug}

-- a name that is read in this context
abbrev pub read_in : Context → Note → List ℕ → ReferenceSite
read_in c n x = record { id = n.id; name = x; scope = number_or_first c.scope; layers = c.layers; flags = read_bits c.role }

-- what stands around, where it is known whether a class does and whether a `with` statement
abbrev pub inside_of : (in_class in_with : Bool) → Surroundings
inside_of in_class in_with = record { in_with = in_with; in_class = in_class }

-- Inside of a `with` statement no name is known (ECMA-262 9.1.1.2); elsewhere `typeof` of any is silent, as one without a binding doesn't throw
-- there (13.5.3). `this` may have no value yet in the constructor of a class (9.1.1.3.4).
abbrev pub IsFound : List BindingSite → Surroundings → Context → Kind → Note → (below : Forest) → Type 0
IsFound bs s c (reference_name x) n a = (s.in_with ≡ false) × ((is_some (binding_of bs (read_in c n x)) ≡ true) ⊎ (bytes_eq x (codes "undefined") ≡ true))
IsFound bs s c (unary_expression unary.Typeof) n a = (s.in_with ≡ false) × (is_one_name a ≡ true)
IsFound bs s c this_expression n a = s.in_class ≡ false
IsFound bs s c k n a = ⊥

abbrev pub IsSilentNode : List BindingSite → Surroundings → Context → Kind → Note → (below : Forest) → (parts : Type 0) → Type 0
IsSilentNode bs s c k n a parts = (is_value k ≡ true) ⊎ (IsFound bs s c k n a ⊎ ((runs_its_parts k a ≡ true) × parts))

-- each node of a row
abbrev pub IsSilent : List BindingSite → Surroundings → (contexts : ℕ → Context) → (at next : ℕ) → Forest → Type 0
IsSilent bs s contexts at next nothing = Unit {0}
IsSilent bs s contexts at next (absent rest) = IsSilent bs s contexts (suc at) next rest
IsSilent bs s contexts at next (node k n below rest) =
    IsSilentNode bs s (contexts at) k n below (IsSilent bs s (inside (contexts at) next k below) 0 (next + opens_one k below) below)
    × IsSilent bs s contexts (suc at) (next + scope_count (node k n below nothing)) rest

-- what lies below a node, which stands in this context
abbrev pub IsSilentBelow : List BindingSite → Surroundings → Context → (next : ℕ) → Kind → (below : Forest) → Type 0
IsSilentBelow bs s c next k below = IsSilent bs s (inside c next k below) 0 (next + opens_one k below) below

-- what stands behind the name in a declarator. Inside of a `with` statement it may set a property of its object.
abbrev pub IsSilentDeclarator : List BindingSite → Surroundings → Context → (next : ℕ) → (below : Forest) → Type 0
IsSilentDeclarator bs s c next (node k n inner value) =
    ((s.in_with && is_given value) ≡ false)
    × IsSilent bs s (inside c next variable_declarator (node k n inner value)) 1 (next + opens_one variable_declarator (node k n inner value) + scope_count (node k n inner nothing)) value
IsSilentDeclarator bs s c next below = ⊥

-- What holds at a place: whether a `with` statement stands around it, in which context it lies, and how many scopes stand
-- before it.
abbrev pub HoldsThere : (in_with : Bool) → (contexts : ℕ → Context) → (at next : ℕ) → Around → Option Tree → (Bool → Context → ℕ → Type 0) → Type 0
HoldsThere in_with contexts at next (first rest) x holds = holds in_with (contexts at) next
HoldsThere in_with contexts at next (behind k n below a) x holds = HoldsThere in_with contexts (suc at) (next + scope_count (node k n below nothing)) a x holds
HoldsThere in_with contexts at next (behind_none a) x holds = HoldsThere in_with contexts (suc at) next a x holds
HoldsThere in_with contexts at next (under k n a rest) x holds =
    HoldsThere (in_with || is_with k) (inside (contexts at) next k (plug a x)) 0 (next + opens_one k (plug a x)) a x holds
