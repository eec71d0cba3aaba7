-- What stands in a tree with other marks on its nodes: each site has the next number of its sort, and a declaration the next
-- symbol.
use Rattle.std.specs.Prelude.{ℕ, ◌+◌, List, [], ◌∷◌, drop, Option, Some, None}
use Rattle.js_syntax.specs.Node.{Forest, nothing, node, absent}
use Rattle.scope_rules.specs.Site.{Site, scope_site, binding_site, reference_site, ScopeSite, BindingSite, ReferenceSite, Found}
use Rattle.scope_rules.specs.Mark.{Marks, first_symbol}

abbrev pub scope_with : Option ℕ → ScopeSite → ScopeSite
scope_with id s = record { id = id; parent = s.parent; flags = s.flags }

abbrev pub binding_with : Option ℕ → BindingSite → BindingSite
binding_with id b = record { id = id; name = b.name; layer = b.layer; flags = b.flags; is_pure = b.is_pure; span = b.span }

abbrev pub reference_with : Option ℕ → ReferenceSite → ReferenceSite
reference_with id r = record { id = id; name = r.name; scope = r.scope; layers = r.layers; flags = r.flags }

abbrev pub renumbered_site : Marks → Site → Site
renumbered_site m (scope_site s) = scope_site (scope_with (Some m.scope) s)
renumbered_site m (binding_site b) = binding_site (binding_with (first_symbol m.symbols) b)
renumbered_site m (reference_site r) = reference_site (reference_with (Some m.reference) r)

-- the marks that are left behind it
abbrev pub behind_site : Marks → Site → Marks
behind_site m (scope_site s) = record { scope = m.scope + 1; reference = m.reference; symbols = m.symbols }
behind_site m (binding_site b) = record { scope = m.scope; reference = m.reference; symbols = drop 1 m.symbols }
behind_site m (reference_site r) = record { scope = m.scope; reference = m.reference + 1; symbols = m.symbols }

abbrev pub renumbered : Marks → List Site → List Site
renumbered m [] = []
renumbered m (s ∷ sites) = renumbered_site m s ∷ renumbered (behind_site m s) sites

-- ---- each sort

abbrev pub scopes_from : (next : ℕ) → List ScopeSite → List ScopeSite
scopes_from next [] = []
scopes_from next (s ∷ ss) = scope_with (Some next) s ∷ scopes_from (next + 1) ss

abbrev pub bindings_with : (symbols : List ℕ) → List BindingSite → List BindingSite
bindings_with symbols [] = []
bindings_with symbols (b ∷ bs) = binding_with (first_symbol symbols) b ∷ bindings_with (drop 1 symbols) bs

abbrev pub references_from : (next : ℕ) → List ReferenceSite → List ReferenceSite
references_from next [] = []
references_from next (r ∷ rs) = reference_with (Some next) r ∷ references_from (next + 1) rs

abbrev pub found_renumbered : Marks → Found → Found
found_renumbered m f = record { scopes = scopes_from m.scope f.scopes; bindings = bindings_with m.symbols f.bindings; references = references_from m.reference f.references }

-- ---- the tree

-- without its marks
abbrev pub unmarked : Forest → Forest
unmarked nothing = nothing
unmarked (absent rest) = absent (unmarked rest)
unmarked (node k n below rest) = node k (record { span = n.span; id = None }) (unmarked below) (unmarked rest)
