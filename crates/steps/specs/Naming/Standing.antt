-- Where a row stands in a tree: what the steps know of the place, and what the definition of scopes does.
use Rattle.std.specs.Prelude.{◌≡◌, ℕ, suc, ◌+◌, List, [], ◌++◌, Bool, true, false, Some, if◌then◌else◌}
use Rattle.js_syntax.specs.declared.node_kind.NodeKind.{NodeKind as Kind}
use Rattle.js_syntax.specs.Node.{Forest, nothing, node, absent, Note}
use Rattle.js_syntax.specs.declared.scalar.SourceType.{SourceType}
use Rattle.js_syntax.specs.declared.kind.VariableKind.{VariableKind}
use Rattle.js_syntax.specs.declared.kind.VariableKind.TheVariants as variable
use Rattle.js_meaning.specs.Value.{Text}
use Rattle.steps.specs.Names.{is_among}
use Rattle.steps.specs.Steps.{Around, entered, outermost}
use Rattle.scope_rules.specs.declared.layer.Layer.{Layer}
use Rattle.scope_rules.specs.Context.{Context, inside, outermost as outermost_context}
use Rattle.scope_rules.specs.Site.{Site, BindingSite, ReferenceSite, opens_one, scope_count, sites, sites_of, bindings_among, references_among}
use Rattle.scope_rules.specs.Binding.{Binding, binding_of, named_in, declared_by}
use Rattle.scope_laws.specs.Exact.{Among}

-- A row stands below the program t, its first node at a place among those below its parent: `next` is the number of its first
-- scope.
pub data Stands (t : Forest) : Around → (contexts : ℕ → Context) → (at next : ℕ) → Forest → Type 0 where
  program : {source : SourceType} {n : Note} {a : Forest} → t ≡ node (Kind.Program source) n a nothing
      → Stands t (entered outermost (Kind.Program source) a) (inside outermost_context 0 (Kind.Program source) a) 0 1 a
  below : {w : Around} {contexts : ℕ → Context} {at next : ℕ} {k : Kind} {n : Note} {a r : Forest} → Stands t w contexts at next (node k n a r)
      → Stands t (entered w k a) (inside (contexts at) next k a) 0 (next + opens_one k a) a
  behind_node : {w : Around} {contexts : ℕ → Context} {at next : ℕ} {k : Kind} {n : Note} {a r : Forest} → Stands t w contexts at next (node k n a r)
      → Stands t w contexts (suc at) (next + scope_count (node k n a nothing)) r
  behind_absent : {w : Around} {contexts : ℕ → Context} {at next : ℕ} {r : Forest} → Stands t w contexts at next (absent r) → Stands t w contexts (suc at) next r

-- where a declaration of this sort declares
abbrev pub layer_of : VariableKind → Context → Layer
layer_of variable.Var c = c.variables
layer_of how c = c.block

-- no reference of the tree has this binding
abbrev pub NothingRefers : Forest → Binding → Type 0
NothingRefers t b = (r : ReferenceSite) → Among r (references_among (sites_of t)) → binding_of (bindings_among (sites_of t)) r ≡ Some b → ⊥

-- the declarations below exports (16.2.3)
abbrev pub is_export : Kind → Bool
is_export (Kind.ExportNamedDeclaration source) = true
is_export Kind.ExportDefaultDeclaration = true
is_export k = false

abbrev pub exported_sites : (contexts : ℕ → Context) → (at next : ℕ) → Forest → List Site
exported_sites contexts at next nothing = []
exported_sites contexts at next (absent r) = exported_sites contexts (suc at) next r
exported_sites contexts at next (node k n a r) =
    (if is_export k then sites (inside (contexts at) next k a) 0 (next + opens_one k a) a else exported_sites (inside (contexts at) next k a) 0 (next + opens_one k a) a)
    ++ exported_sites contexts (suc at) (next + scope_count (node k n a nothing)) r

abbrev pub exported_declarations : Forest → List BindingSite
exported_declarations t = bindings_among (exported_sites (λ at. outermost_context) 0 0 t)

-- Whether a declarator of `var` writes elsewhere than where it declares: a block in between declares the name, as the parameter of
-- a catch clause may (B.3.4). Of what is declared otherwise, whether a `var` of its name passes through its scope (14.2.1).
abbrev pub is_crossed : Around → VariableKind → Text → Bool
is_crossed w variable.Var x = is_among w.inner x
is_crossed w how x = is_among w.passing x

-- Nothing refers to what is declared, and no export is of it: what lies below an export and isn't a name of the program's own
-- scope is none that it exports.
pub record IsUnused (t : Forest) (w : Around) (c : Context) (how : VariableKind) (x : Text) : Type 0 where
  pub nothing_refers : NothingRefers t (named_in x (layer_of how c))
  pub is_not_exported : (b : BindingSite) → Among b (exported_declarations t) → b.layer.scope ≡ 0 → declared_by b ≡ named_in x (layer_of how c) → ⊥
  pub is_seen : is_crossed w how x ≡ false
