-- A place in a tree, and what stands around it.
use Rattle.std.specs.Prelude.{ℕ, suc, ◌+◌, ◌<◌, ◌≤◌, List, [], ◌++◌, Option, Some, None}
use Rattle.js_syntax.specs.declared.node_kind.NodeKind.{NodeKind as Kind}
use Rattle.js_syntax.specs.Node.{Forest, Tree, Note, nothing, node, absent}
use Rattle.scope_rules.specs.Context.{Context, inside, outermost}
use Rattle.scope_rules.specs.Site.{Site, BindingSite, own_sites, opens_one, scope_count, sites}

-- a tree without what stands at one place: the first of a row, one behind a node or behind a field that is not there, or one
-- below a node
pub data Around : Type 0 where
  first : (rest : Forest) → Around
  behind : (kind : Kind) (note : Note) (below : Forest) (around : Around) → Around
  behind_none : (around : Around) → Around
  under : (kind : Kind) (note : Note) (around : Around) (rest : Forest) → Around

-- what stands there before others, where anything does
abbrev pub placed : Option Tree → (rest : Forest) → Forest
placed None rest = absent rest
placed (Some t) rest = node t.kind t.note t.below rest

abbrev pub one_place : Option Tree → Forest
one_place x = placed x nothing

abbrev pub plug : Around → Option Tree → Forest
plug (first rest) x = placed x rest
plug (behind k n below a) x = node k n below (plug a x)
plug (behind_none a) x = absent (plug a x)
plug (under k n a rest) x = node k n (plug a x) rest

-- ---- the sites around, and those there

abbrev pub before : (contexts : ℕ → Context) → (at next : ℕ) → Around → Option Tree → List Site
before contexts at next (first rest) x = []
before contexts at next (behind k n below a) x = sites contexts at next (node k n below nothing) ++ before contexts (suc at) (next + scope_count (node k n below nothing)) a x
before contexts at next (behind_none a) x = before contexts (suc at) next a x
before contexts at next (under k n a rest) x = own_sites (contexts at) n k (plug a x) ++ before (inside (contexts at) next k (plug a x)) 0 (next + opens_one k (plug a x)) a x

abbrev pub there : (contexts : ℕ → Context) → (at next : ℕ) → Around → Option Tree → List Site
there contexts at next (first rest) x = sites contexts at next (one_place x)
there contexts at next (behind k n below a) x = there contexts (suc at) (next + scope_count (node k n below nothing)) a x
there contexts at next (behind_none a) x = there contexts (suc at) next a x
there contexts at next (under k n a rest) x = there (inside (contexts at) next k (plug a x)) 0 (next + opens_one k (plug a x)) a x

abbrev pub after : (contexts : ℕ → Context) → (at next : ℕ) → Around → Option Tree → List Site
after contexts at next (first rest) x = sites contexts (suc at) (next + scope_count (one_place x)) rest
after contexts at next (behind k n below a) x = after contexts (suc at) (next + scope_count (node k n below nothing)) a x
after contexts at next (behind_none a) x = after contexts (suc at) next a x
after contexts at next (under k n a rest) x =
    after (inside (contexts at) next k (plug a x)) 0 (next + opens_one k (plug a x)) a x ++ sites contexts (suc at) (next + scope_count (node k n (plug a x) nothing)) rest

-- how many scopes stand before the place
abbrev pub scopes_before : Around → Option Tree → ℕ
scopes_before (first rest) x = 0
scopes_before (behind k n below a) x = scope_count (node k n below nothing) + scopes_before a x
scopes_before (behind_none a) x = scopes_before a x
scopes_before (under k n a rest) x = opens_one k (plug a x) + scopes_before a x

-- the declaration lies in a scope of what stands there
pub record IsWithin (a : Around) (x : Option Tree) (b : BindingSite) : Type 0 where
  pub from : scopes_before a x ≤ b.layer.scope
  pub to : b.layer.scope < scopes_before a x + scope_count (one_place x)

-- ---- in a whole tree

abbrev pub sites_before : Around → Option Tree → List Site
sites_before a x = before (λ at. outermost) 0 0 a x

abbrev pub sites_there : Around → Option Tree → List Site
sites_there a x = there (λ at. outermost) 0 0 a x

abbrev pub sites_after : Around → Option Tree → List Site
sites_after a x = after (λ at. outermost) 0 0 a x
