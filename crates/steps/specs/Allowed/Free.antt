-- Names of declarations that nothing of the tree uses.
use Rattle.std.specs.Prelude.{◌≡◌, ℕ, List, Bool, Some}
use Rattle.js_syntax.specs.declared.kind.VariableKind.{VariableKind}
use Rattle.js_syntax.specs.Node.{Forest}
use Rattle.scope_rules.specs.Context.{Context}
use Rattle.scope_rules.specs.Site.{BindingSite, ReferenceSite, sites_of, bindings_among, references_among}
use Rattle.scope_rules.specs.Binding.{Binding, declared_by, named_in, binding_of}
use Rattle.scope_laws.specs.Exact.{Among}
use Rattle.steps.specs.Naming.Standing.{layer_of, exported_declarations}

-- No reference of the tree has this binding, and no export is of it. What lies below an export and isn't a name of the program's
-- own scope is none that it exports.
pub record IsFree (t : Forest) (b : Binding) : Type 0 where
  pub unreferred : (r : ReferenceSite) → Among r (references_among (sites_of t)) → binding_of (bindings_among (sites_of t)) r ≡ Some b → ⊥
  pub unexported : (e : BindingSite) → Among e (exported_declarations t) → e.layer.scope ≡ 0 → declared_by e ≡ b → ⊥

-- of a declaration that declares in this way
abbrev pub Free : Forest → VariableKind → List ℕ → Bool → Context → ℕ → Type 0
Free t how x in_with c next = IsFree t (named_in x (layer_of how c))

-- of a declarator
abbrev pub FreeDeclarator : Forest → List ℕ → Bool → Context → ℕ → Type 0
FreeDeclarator t x in_with c next = IsFree t (named_in x c.declaring.layer)
