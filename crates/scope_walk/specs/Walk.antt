-- What a walk finds at one node and below it.
use Rattle.std.specs.Prelude.{ℕ, ◌+◌, List, ◌++◌}
use Rattle.js_syntax.specs.Node.{Tree}
use Rattle.scope_rules.specs.Context.{Context, inside}
use Rattle.scope_rules.specs.Site.{Site, own_sites, opens_one, sites}

abbrev pub node_sites : Context → (next : ℕ) → Tree → List Site
node_sites c next t = own_sites c t.note t.kind t.below ++ sites (inside c next t.kind t.below) 0 (next + opens_one t.kind t.below) t.below
