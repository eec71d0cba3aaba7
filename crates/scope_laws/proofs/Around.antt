-- The declarations and references of a tree: how many there are, and those of a place in it.
use Rattle.std.proofs.Common.{◌≡◌, ◌∙◌, ◌+◌, ℕ, suc, List, [], ◌∷◌, ◌++◌, length, Bool, true, false, Option, Some, None, if◌then◌else◌, append_assoc, length-append, refl, sym, ap, ap₂, subst, arith}
use Rattle.js_syntax.specs.declared.node_kind.NodeKind.{NodeKind as Kind}
use Rattle.js_syntax.specs.declared.node_kind.NodeKind.TheVariants.{PropertyDefinition as property_definition}
use Rattle.js_syntax.specs.Node.{Forest, Tree, Note, nothing, node, absent, total}
use Rattle.scope_rules.specs.Context.{Context, has_second, inside}
use Rattle.scope_rules.specs.Site.{Site, scope_site, binding_site, reference_site, ScopeSite, BindingSite, own_sites, opens_one, scope_bits, scope_count, sites, sites_of, bindings_among, references_among}
use Rattle.scope_rules.specs.Mark.{own_binding, own_reference}
use Rattle.scope_laws.specs.Exact.{Among}
use Rattle.scope_laws.specs.Place.{Around, first, behind, behind_none, under, one_place, plug, there, sites_before, sites_there, sites_after}
use Rattle.scope_laws.proofs.Among.{among_left, among_right}
use Rattle.scope_laws.proofs.Split.{split_of}

bindings_append : (xs ys : List Site) → bindings_among (xs ++ ys) ≡ bindings_among xs ++ bindings_among ys
bindings_append [] ys = refl
bindings_append (scope_site s ∷ xs) ys = bindings_append xs ys
bindings_append (binding_site s ∷ xs) ys = ap (λ zs. s ∷ zs) (bindings_append xs ys)
bindings_append (reference_site s ∷ xs) ys = bindings_append xs ys

pub references_append : (xs ys : List Site) → references_among (xs ++ ys) ≡ references_among xs ++ references_among ys
references_append [] ys = refl
references_append (scope_site s ∷ xs) ys = references_append xs ys
references_append (binding_site s ∷ xs) ys = references_append xs ys
references_append (reference_site s ∷ xs) ys = ap (λ zs. s ∷ zs) (references_append xs ys)

-- ---- counts

none_opened : (b : Bool) (s : ScopeSite) → length (bindings_among ((if b then scope_site s ∷ [] else []) ++ [])) ≡ 0
none_opened true s = refl
none_opened false s = refl

own_bindings : (c : Context) (n : Note) (k : Kind) (t : Forest) → length (bindings_among (own_sites c n k t)) ≡ own_binding k
own_bindings c n (property_definition is_static key) t = none_opened (has_second t) (record { id = n.id; parent = c.scope; flags = scope_bits c (property_definition is_static key) t })
own_bindings c n k t = refl

pub bindings_count : (cs : ℕ → Context) (at next : ℕ) (t : Forest) → length (bindings_among (sites cs at next t)) ≡ total own_binding t
bindings_count cs at next nothing = refl
bindings_count cs at next (absent rest) = bindings_count cs (suc at) next rest
bindings_count cs at next (node k n below rest) =
    let own = own_sites (cs at) n k below in
    let inner = sites (inside (cs at) next k below) 0 (next + opens_one k below) below in
    let outer = sites cs (suc at) (next + scope_count (node k n below nothing)) rest in
    ap length (bindings_append (own ++ inner) outer)
    ∙ length-append (bindings_among (own ++ inner)) (bindings_among outer)
    ∙ ap₂ (λ (a b : ℕ). a + b)
    (ap length (bindings_append own inner) ∙ length-append (bindings_among own) (bindings_among inner)
    ∙ ap₂ (λ (a b : ℕ). a + b) (own_bindings (cs at) n k below) (bindings_count (inside (cs at) next k below) 0 (next + opens_one k below) below))
    (bindings_count cs (suc at) (next + scope_count (node k n below nothing)) rest)

none_refers : (b : Bool) (s : ScopeSite) → length (references_among ((if b then scope_site s ∷ [] else []) ++ [])) ≡ 0
none_refers true s = refl
none_refers false s = refl

own_references : (c : Context) (n : Note) (k : Kind) (t : Forest) → length (references_among (own_sites c n k t)) ≡ own_reference k
own_references c n (property_definition is_static key) t = none_refers (has_second t) (record { id = n.id; parent = c.scope; flags = scope_bits c (property_definition is_static key) t })
own_references c n k t = refl

pub references_count : (cs : ℕ → Context) (at next : ℕ) (t : Forest) → length (references_among (sites cs at next t)) ≡ total own_reference t
references_count cs at next nothing = refl
references_count cs at next (absent rest) = references_count cs (suc at) next rest
references_count cs at next (node k n below rest) =
    let own = own_sites (cs at) n k below in
    let inner = sites (inside (cs at) next k below) 0 (next + opens_one k below) below in
    let outer = sites cs (suc at) (next + scope_count (node k n below nothing)) rest in
    ap length (references_append (own ++ inner) outer)
    ∙ length-append (references_among (own ++ inner)) (references_among outer)
    ∙ ap₂ (λ (a b : ℕ). a + b)
    (ap length (references_append own inner) ∙ length-append (references_among own) (references_among inner)
    ∙ ap₂ (λ (a b : ℕ). a + b) (own_references (cs at) n k below) (references_count (inside (cs at) next k below) 0 (next + opens_one k below) below))
    (references_count cs (suc at) (next + scope_count (node k n below nothing)) rest)

-- a context counts what it counts with nothing at its place
pub total_plug : (counts : Kind → ℕ) (a : Around) (x : Option Tree) → total counts (plug a x) ≡ total counts (plug a None) + total counts (one_place x)
total_plug counts (first rest) None = Prim.omega arith
total_plug counts (first rest) (Some t) = Prim.omega arith
total_plug counts (behind k n below a) x = Prim.omega (arith, total_plug counts a x)
total_plug counts (behind_none a) x = total_plug counts a x
total_plug counts (under k n a rest) x = Prim.omega (arith, total_plug counts a x)

-- ---- those of a place

empty : {X : Type 0} (xs : List X) → length xs ≡ 0 → xs ≡ []
empty [] e = refl
empty (x ∷ xs) e = absurd (Prim.omega (arith, e))

pub none_there : (cs : ℕ → Context) (at next : ℕ) (a : Around) (y : Option Tree) → total own_binding (one_place y) ≡ 0 → bindings_among (there cs at next a y) ≡ []
none_there cs at next (first rest) y none = empty (bindings_among (sites cs at next (one_place y))) (bindings_count cs at next (one_place y) ∙ none)
none_there cs at next (behind k n below a) y none = none_there cs (suc at) (next + scope_count (node k n below nothing)) a y none
none_there cs at next (behind_none a) y none = none_there cs (suc at) next a y none
none_there cs at next (under k n a rest) y none = none_there (inside (cs at) next k (plug a y)) 0 (next + opens_one k (plug a y)) a y none

bindings_split : (a : Around) (x : Option Tree) → bindings_among (sites_of (plug a x)) ≡ bindings_among (sites_before a x) ++ bindings_among (sites_there a x) ++ bindings_among (sites_after a x)
bindings_split a x =
    ap bindings_among (split_of a x)
    ∙ bindings_append (sites_before a x ++ sites_there a x) (sites_after a x)
    ∙ ap (λ xs. xs ++ bindings_among (sites_after a x)) (bindings_append (sites_before a x) (sites_there a x))

pub references_split : (a : Around) (x : Option Tree) → references_among (sites_of (plug a x)) ≡ references_among (sites_before a x) ++ (references_among (sites_there a x) ++ references_among (sites_after a x))
references_split a x =
    ap references_among (split_of a x)
    ∙ references_append (sites_before a x ++ sites_there a x) (sites_after a x)
    ∙ ap (λ xs. xs ++ references_among (sites_after a x)) (references_append (sites_before a x) (sites_there a x))
    ∙ append_assoc (references_among (sites_before a x)) (references_among (sites_there a x)) (references_among (sites_after a x))

pub stands_there : (a : Around) (x : Option Tree) (b : BindingSite) → Among b (bindings_among (sites_there a x)) → Among b (bindings_among (sites_of (plug a x)))
stands_there a x b h =
    let front = bindings_among (sites_before a x) in
    let there = bindings_among (sites_there a x) in
    subst (Among b) (sym (bindings_split a x)) (among_left b (front ++ there) (bindings_among (sites_after a x)) (among_right b front there h))
