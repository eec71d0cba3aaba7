-- References that assign, and names that none of them has as its binding.
use Rattle.std.specs.Prelude.{◌≡◌, Some}
use Rattle.js_syntax.specs.Node.{Forest}
use Rattle.scope_rules.specs.declared.layer.Role.{Role}
use Rattle.scope_rules.specs.Site.{ReferenceSite, target_bits, sites_of, bindings_among, references_among}
use Rattle.scope_rules.specs.Binding.{Binding, binding_of}
use Rattle.scope_laws.specs.Exact.{Among}

-- no reference of the tree that assigns has this binding
abbrev pub NothingAssigns : Forest → Binding → Type 0
NothingAssigns t b = (r : ReferenceSite) → Among r (references_among (sites_of t)) → binding_of (bindings_among (sites_of t)) r ≡ Some b → (role : Role) → r.flags ≡ target_bits role → ⊥
