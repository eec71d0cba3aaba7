-- The scopes, bindings and references of a tree, in order of places.
use Rattle.std.specs.Prelude.{ℕ, suc, ◌+◌, List, [], ◌∷◌, ◌++◌, Bool, true, false, ◌||◌, Option, Some, None, is_some, if◌then◌else◌}
use Rattle.js_syntax.specs.declared.node_kind.NodeKind.{NodeKind as Kind}
use Rattle.js_syntax.specs.declared.node_kind.NodeKind.TheVariants.{Program as program, Function as function, StaticBlock as static_block, BlockStatement as block_statement, WithStatement as with_statement, SwitchStatement as switch_statement, CatchClause as catch_clause, ForStatement as for_statement, ForInStatement as for_in_statement, ForOfStatement as for_of_statement, PropertyDefinition as property_definition, BindingName as binding_name, ReferenceName as reference_name, TargetName as target_name}
use Rattle.js_syntax.specs.Node.{Forest, nothing, node, absent, Note}
use Rattle.js_syntax.specs.declared.kind.FunctionKind.{FunctionKind}
use Rattle.js_syntax.specs.declared.kind.FunctionKind.TheVariants as function_kind
use Rattle.js_syntax.specs.declared.scalar.Span.{Span}
use Rattle.form_rules.specs.Context.{behind_first}
use Rattle.js_tree.specs.Names.{eval_of_call}
use Rattle.scope_rules.specs.declared.layer.Layer.{Layer}
use Rattle.scope_rules.specs.declared.layer.Role.{Role}
use Rattle.scope_rules.specs.declared.layer.Role.TheVariants.{ReadAndWrite as read_and_write, Object as object}
use Rattle.scope_rules.specs.ScopeFlags as scope_flag
use Rattle.scope_rules.specs.ReferenceFlags as reference_flag
use Rattle.scope_rules.specs.Context.{Context, opens, strict_in, inside, outermost}

-- a scope: what its node is marked with, the number of the scope around it, and the bits of its flags
pub record ScopeSite : Type 0 where
  pub id : Option ℕ
  pub parent : Option ℕ
  pub flags : ℕ

-- a name that is declared: where, and how
pub record BindingSite : Type 0 where
  pub id : Option ℕ
  pub name : List ℕ
  pub layer : Layer
  pub flags : ℕ
  pub is_pure : Bool
  pub span : Span

-- a name that is read or assigned: in which scope, and which layers are around it, innermost first
pub record ReferenceSite : Type 0 where
  pub id : Option ℕ
  pub name : List ℕ
  pub scope : ℕ
  pub layers : List Layer
  pub flags : ℕ

pub data Site : Type 0 where
  scope_site : ScopeSite → Site
  binding_site : BindingSite → Site
  reference_site : ReferenceSite → Site

-- ---- scopes

-- a call of `eval` by name, anywhere in a row (19.2.1.1)
abbrev pub has_eval : Forest → Bool
has_eval nothing = false
has_eval (absent rest) = has_eval rest
has_eval (node k n below rest) = is_some (eval_of_call k below) || has_eval below || has_eval rest

-- what lies in the scope that a node makes: of some only what stands behind the first of their nodes
abbrev pub scope_row : Kind → (below : Forest) → Forest
scope_row switch_statement below = behind_first below
scope_row with_statement below = behind_first below
scope_row (property_definition is_static key) below = behind_first below
scope_row k below = below

abbrev pub function_bits : FunctionKind → (constructs : Bool) → ℕ
function_bits function_kind.Arrow constructs = scope_flag.function + scope_flag.arrow
function_bits how true = scope_flag.function + scope_flag.constructor
function_bits how false = scope_flag.function

abbrev pub form_bits : Kind → (constructs : Bool) → ℕ
form_bits (program source) constructs = scope_flag.top
form_bits (function how pure) constructs = function_bits how constructs
form_bits static_block constructs = scope_flag.class_static_block
form_bits block_statement constructs = scope_flag.block
form_bits switch_statement constructs = scope_flag.block
form_bits for_statement constructs = scope_flag.block
form_bits for_in_statement constructs = scope_flag.block
form_bits for_of_statement constructs = scope_flag.block
form_bits catch_clause constructs = scope_flag.catch
form_bits with_statement constructs = scope_flag.with_statement
form_bits k constructs = 0

abbrev pub bit : (set : Bool) → ℕ → ℕ
bit set n = if set then n else 0

abbrev pub scope_bits : Context → Kind → (below : Forest) → ℕ
scope_bits c k below = bit (strict_in c k below) scope_flag.strict_mode + form_bits k c.constructs + bit (has_eval (scope_row k below)) scope_flag.direct_eval

-- ---- references

-- a name that is assigned is one in a target
abbrev pub target_bits : Role → ℕ
target_bits read_and_write = reference_flag.read + reference_flag.write
target_bits role = reference_flag.write

abbrev pub read_bits : Role → ℕ
read_bits object = reference_flag.read + reference_flag.member_write_target
read_bits role = reference_flag.read

-- ---- the walk

abbrev pub number_or_first : Option ℕ → ℕ
number_or_first None = 0
number_or_first (Some n) = n

abbrev pub reference_of : Context → Note → List ℕ → (flags : ℕ) → Site
reference_of c note name flags = reference_site (record { id = note.id; name = name; scope = number_or_first c.scope; layers = c.layers; flags = flags })

abbrev pub name_sites : Context → Note → Kind → List Site
name_sites c note (binding_name x) =
    binding_site (record { id = note.id; name = x; layer = c.declaring.layer; flags = c.declaring.flags; is_pure = c.declaring.is_pure; span = note.span }) ∷ []
name_sites c note (reference_name x) = reference_of c note x (read_bits c.role) ∷ []
name_sites c note (target_name x) = reference_of c note x (target_bits c.role) ∷ []
name_sites c note k = []

abbrev pub scope_sites : Context → Note → Kind → (below : Forest) → List Site
scope_sites c note k below = if opens k below then scope_site (record { id = note.id; parent = c.scope; flags = scope_bits c k below }) ∷ [] else []

abbrev pub own_sites : Context → Note → Kind → (below : Forest) → List Site
own_sites c note k below = scope_sites c note k below ++ name_sites c note k

abbrev pub opens_one : Kind → (below : Forest) → ℕ
opens_one k below = if opens k below then 1 else 0

abbrev pub scope_count : Forest → ℕ
scope_count nothing = 0
scope_count (absent rest) = scope_count rest
scope_count (node k n below rest) = opens_one k below + scope_count below + scope_count rest

-- Of a row of nodes, the first of which is the child at a place among those below its parent: `contexts` gives each
-- child's context, and `next` is the number of the next scope. A scope's number is how many stand before it.
abbrev pub sites : (contexts : ℕ → Context) → (at next : ℕ) → Forest → List Site
sites contexts at next nothing = []
sites contexts at next (absent rest) = sites contexts (suc at) next rest
sites contexts at next (node k n below rest) =
    own_sites (contexts at) n k below ++ sites (inside (contexts at) next k below) 0 (next + opens_one k below) below ++ sites contexts (suc at) (next + scope_count (node k n below nothing)) rest

abbrev pub sites_of : Forest → List Site
sites_of t = sites (λ at. outermost) 0 0 t

-- those of one sort, in order

abbrev pub scopes_among : List Site → List ScopeSite
scopes_among [] = []
scopes_among (scope_site s ∷ sites) = s ∷ scopes_among sites
scopes_among (binding_site b ∷ sites) = scopes_among sites
scopes_among (reference_site r ∷ sites) = scopes_among sites

abbrev pub bindings_among : List Site → List BindingSite
bindings_among [] = []
bindings_among (scope_site s ∷ sites) = bindings_among sites
bindings_among (binding_site b ∷ sites) = b ∷ bindings_among sites
bindings_among (reference_site r ∷ sites) = bindings_among sites

abbrev pub references_among : List Site → List ReferenceSite
references_among [] = []
references_among (scope_site s ∷ sites) = references_among sites
references_among (binding_site b ∷ sites) = references_among sites
references_among (reference_site r ∷ sites) = r ∷ references_among sites

-- what a walk has found, each sort in order
pub record Found : Type 0 where
  pub scopes : List ScopeSite
  pub bindings : List BindingSite
  pub references : List ReferenceSite

abbrev pub found_in : List Site → Found
found_in sites = record { scopes = scopes_among sites; bindings = bindings_among sites; references = references_among sites }

-- and with more of them
abbrev pub added : Found → List Site → Found
added f sites = record { scopes = f.scopes ++ scopes_among sites; bindings = f.bindings ++ bindings_among sites; references = f.references ++ references_among sites }
