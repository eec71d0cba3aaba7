-- What stands at a place declares nothing that anything else sees.
use Rattle.std.specs.Prelude.{◌≡◌, ◌⊎◌, Option, Some}
use Rattle.js_syntax.specs.Node.{Forest, Tree}
use Rattle.scope_rules.specs.Site.{BindingSite, ReferenceSite, sites_of, bindings_among, references_among}
use Rattle.scope_rules.specs.Binding.{declared_by, binding_of}
use Rattle.scope_laws.specs.Exact.{Among}
use Rattle.scope_laws.specs.Place.{Around, plug, IsWithin, sites_there}

-- no reference has the binding of the declaration
abbrev pub IsUnreferred : Forest → BindingSite → Type 0
IsUnreferred t b = (r : ReferenceSite) → Among r (references_among (sites_of t)) → binding_of (bindings_among (sites_of t)) r ≡ Some (declared_by b) → ⊥

-- each name that is declared there lies within a scope that stands there, or is unreferred
abbrev pub IsUnseen : Around → Option Tree → Type 0
IsUnseen a x = (b : BindingSite) → Among b (bindings_among (sites_there a x)) → IsWithin a x b ⊎ IsUnreferred (plug a x) b
