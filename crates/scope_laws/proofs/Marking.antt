-- Marking changes the marks alone.
use Rattle.std.proofs.Common.{◌≡◌, ◌+◌, ◌∙◌, ℕ, suc, List, [], ◌∷◌, ◌++◌, Bool, true, false, Some, None, drop, drop-drop, if◌then◌else◌, refl, sym, ap, ap₂, arith}
use mathlib.Core.Path.{fun_ext}
use Rattle.js_syntax.specs.declared.node_kind.NodeKind.{NodeKind as Kind}
use Rattle.js_syntax.specs.declared.node_kind.NodeKind.TheVariants.{PropertyDefinition as property_definition, BindingName as binding_name, ReferenceName as reference_name, TargetName as target_name}
use Rattle.js_syntax.specs.Node.{Forest, nothing, node, absent, Note, nowhere, bare, total}
use Rattle.scope_rules.specs.Context.{Context, opens, has_second, inside, outermost}
use Rattle.scope_rules.specs.Site.{Site, scope_site, binding_site, reference_site, ScopeSite, scopes_among, bindings_among, references_among, found_in, opens_one, scope_count, scope_bits, name_sites, own_sites, sites, sites_of}
use Rattle.scope_rules.specs.Mark.{Marks, own_binding, first_symbol, mark_of, behind_node, behind_row, marked}
use Rattle.scope_laws.specs.Renumbered.{renumbered_site, behind_site, renumbered, scope_with, binding_with, reference_with, scopes_from, bindings_with, references_from, found_renumbered, unmarked}
use Rattle.scope_laws.proofs.Notes.{unseen, opens_bare, scope_count_bare, scope_bits_bare, inside_bare}

pub bare_marked : (m : Marks) (t : Forest) → bare (marked m t) ≡ bare t
bare_marked m nothing = refl
bare_marked m (absent rest) = ap absent (bare_marked m rest)
bare_marked m (node k n below rest) = ap₂ (node k nowhere) (bare_marked (behind_node m k below) below) (bare_marked (behind_row m (node k n below nothing)) rest)

pub unmarked_marked : (m : Marks) (t : Forest) → unmarked (marked m t) ≡ unmarked t
unmarked_marked m nothing = refl
unmarked_marked m (absent rest) = ap absent (unmarked_marked m rest)
unmarked_marked m (node k n below rest) = ap₂ (node k (record { span = n.span; id = None })) (unmarked_marked (behind_node m k below) below) (unmarked_marked (behind_row m (node k n below nothing)) rest)

-- ---- the marks behind a row of sites

pub behind_sites : Marks → List Site → Marks
behind_sites m [] = m
behind_sites m (s ∷ ss) = behind_sites (behind_site m s) ss

pub behind_append : (m : Marks) (xs ys : List Site) → behind_sites m (xs ++ ys) ≡ behind_sites (behind_sites m xs) ys
unfolding behind_sites
behind_append m [] ys = refl
behind_append m (x ∷ xs) ys = behind_append (behind_site m x) xs ys

pub renumbered_append : (m : Marks) (xs ys : List Site) → renumbered m (xs ++ ys) ≡ renumbered m xs ++ renumbered (behind_sites m xs) ys
unfolding behind_sites
renumbered_append m [] ys = refl
renumbered_append m (x ∷ xs) ys = ap (λ zs. renumbered_site m x ∷ zs) (renumbered_append (behind_site m x) xs ys)

same : (a b : Marks) → a.scope ≡ b.scope → a.reference ≡ b.reference → a.symbols ≡ b.symbols → a ≡ b
same a b s t u = λ i. record { scope = s i; reference = t i; symbols = u i }

behind_if : (m : Marks) (s : ScopeSite) (b : Bool) → behind_sites m ((if b then scope_site s ∷ [] else []) ++ []) ≡ record { scope = m.scope + (if b then 1 else 0); reference = m.reference + 0; symbols = m.symbols }
unfolding behind_sites
behind_if m s true = same _ _ refl (Prim.omega arith) refl
behind_if m s false = same _ _ (Prim.omega arith) (Prim.omega arith) refl

own_behind : (m : Marks) (c : Context) (n : Note) (k : Kind) (below : Forest) → behind_sites m (own_sites c n k below) ≡ behind_node m k below
unfolding behind_sites
own_behind m c n (binding_name x) below = same _ _ (Prim.omega arith) (Prim.omega arith) refl
own_behind m c n (reference_name x) below = same _ _ (Prim.omega arith) (Prim.omega arith) refl
own_behind m c n (target_name x) below = same _ _ (Prim.omega arith) (Prim.omega arith) refl
own_behind m c n (property_definition is_static key) below = behind_if m (record { id = n.id; parent = c.scope; flags = scope_bits c (property_definition is_static key) below }) (has_second below)
own_behind m c n k below = same _ _ (Prim.omega arith) (Prim.omega arith) refl

behind_below : (m : Marks) (k : Kind) (n : Note) (below : Forest) → behind_row (behind_node m k below) below ≡ behind_row m (node k n below nothing)
behind_below m k n below =
    same _ _ (Prim.omega arith) (Prim.omega arith)
    (drop-drop (total own_binding below) (own_binding k) m.symbols ∙ ap (λ (i : ℕ). drop i m.symbols) (Prim.omega arith))

behind_front : (m : Marks) (k : Kind) (n : Note) (below rest : Forest) → behind_row (behind_row m (node k n below nothing)) rest ≡ behind_row m (node k n below rest)
behind_front m k n below rest =
    same _ _ (Prim.omega arith) (Prim.omega arith)
    (drop-drop (total own_binding rest) (total own_binding (node k n below nothing)) m.symbols ∙ ap (λ (i : ℕ). drop i m.symbols) (Prim.omega arith))

pub sites_behind : (m : Marks) (cs : ℕ → Context) (at next : ℕ) (t : Forest) → behind_sites m (sites cs at next t) ≡ behind_row m t
unfolding behind_sites
sites_behind m cs at next nothing = same _ _ (Prim.omega arith) (Prim.omega arith) refl
sites_behind m cs at next (absent rest) = sites_behind m cs (suc at) next rest
sites_behind m cs at next (node k n below rest) =
    let inner = sites (inside (cs at) next k below) 0 (next + opens_one k below) below in
    let behind = sites cs (suc at) (next + scope_count (node k n below nothing)) rest in
    behind_append m (own_sites (cs at) n k below ++ inner) behind
    ∙ ap (λ x. behind_sites x behind) (
    behind_append m (own_sites (cs at) n k below) inner
    ∙ ap (λ x. behind_sites x inner) (own_behind m (cs at) n k below)
    ∙ sites_behind (behind_node m k below) (inside (cs at) next k below) 0 (next + opens_one k below) below
    ∙ behind_below m k n below)
    ∙ sites_behind (behind_row m (node k n below nothing)) cs (suc at) (next + scope_count (node k n below nothing)) rest
    ∙ behind_front m k n below rest

-- ---- the sites

marked_if : (m : Marks) (c : Context) (n : Note) (b : Bool) (flags : ℕ)
    → (if b then scope_site (record { id = (if b then Some m.scope else None); parent = c.scope; flags = flags }) ∷ [] else []) ++ []
    ≡ renumbered m ((if b then scope_site (record { id = n.id; parent = c.scope; flags = flags }) ∷ [] else []) ++ [])
marked_if m c n true flags = refl
marked_if m c n false flags = refl

abbrev note_of : Marks → Kind → Note → Forest → Note
note_of m k n below = record { span = n.span; id = mark_of m k below }

own_marked : (m : Marks) (c : Context) (n : Note) (k : Kind) (below : Forest) → own_sites c (note_of m k n below) k below ≡ renumbered m (own_sites c n k below)
own_marked m c n (property_definition is_static key) below = marked_if m c n (has_second below) (scope_bits c (property_definition is_static key) below)
own_marked m c n k below = refl

own_unseen : (c : Context) (n : Note) (k : Kind) (t u : Forest) → bare t ≡ bare u → own_sites c n k t ≡ own_sites c n k u
own_unseen c n k t u e =
    ap₂ (λ b flags. (if b then scope_site (record { id = n.id; parent = c.scope; flags = flags }) ∷ [] else []) ++ name_sites c n k)
    (unseen (opens k) (opens_bare k) t u e)
    (unseen (scope_bits c k) (scope_bits_bare c k) t u e)

pub sites_marked : (m : Marks) (cs : ℕ → Context) (at next : ℕ) (t : Forest) → sites cs at next (marked m t) ≡ renumbered m (sites cs at next t)
sites_marked m cs at next nothing = refl
sites_marked m cs at next (absent rest) = sites_marked m cs (suc at) next rest
sites_marked m cs at next (node k n below rest) =
    let c = cs at in
    let m1 = behind_node m k below in
    let m2 = behind_row m (node k n below nothing) in
    let own = own_sites c n k below in
    let inner = sites (inside c next k below) 0 (next + opens_one k below) below in
    let place = next + scope_count (node k n below nothing) in
    let e = bare_marked m1 below in
    let opened : opens_one k (marked m1 below) ≡ opens_one k below = ap (λ b. if b then 1 else 0) (unseen (opens k) (opens_bare k) (marked m1 below) below e) in
    let counted : scope_count (marked m1 below) ≡ scope_count below = unseen scope_count scope_count_bare (marked m1 below) below e in
    let around : inside c next k (marked m1 below) ≡ inside c next k below = fun_ext (λ i. unseen (λ t. inside c next k t i) (λ t. inside_bare c next k t i) (marked m1 below) below e) in
    ap₂ (λ xs ys. xs ++ ys)
    (ap₂ (λ xs ys. xs ++ ys)
    (own_unseen c (note_of m k n below) k (marked m1 below) below e ∙ own_marked m c n k below)
    (ap₂ (λ f (i : ℕ). sites f 0 i (marked m1 below)) around (ap (λ (i : ℕ). next + i) opened) ∙ sites_marked m1 (inside c next k below) 0 (next + opens_one k below) below)
    ∙ sym (renumbered_append m own inner ∙ ap (λ x. renumbered m own ++ renumbered x inner) (own_behind m c n k below)))
    (ap (λ (i : ℕ). sites cs (suc at) i (marked m2 rest)) (ap₂ (λ (a b : ℕ). next + (a + b + 0)) opened counted) ∙ sites_marked m2 cs (suc at) place rest)
    ∙ sym (renumbered_append m (own ++ inner) (sites cs (suc at) place rest)
    ∙ ap (λ x. renumbered m (own ++ inner) ++ renumbered x (sites cs (suc at) place rest))
    (behind_append m own inner ∙ ap (λ x. behind_sites x inner) (own_behind m c n k below) ∙ sites_behind m1 (inside c next k below) 0 (next + opens_one k below) below ∙ behind_below m k n below))

-- ---- each sort

scopes_renumbered : (m : Marks) (ss : List Site) → scopes_among (renumbered m ss) ≡ scopes_from m.scope (scopes_among ss)
scopes_renumbered m [] = refl
scopes_renumbered m (scope_site s ∷ ss) = ap (λ zs. scope_with (Some m.scope) s ∷ zs) (scopes_renumbered (behind_site m (scope_site s)) ss)
scopes_renumbered m (binding_site s ∷ ss) = scopes_renumbered (behind_site m (binding_site s)) ss
scopes_renumbered m (reference_site s ∷ ss) = scopes_renumbered (behind_site m (reference_site s)) ss

bindings_renumbered : (m : Marks) (ss : List Site) → bindings_among (renumbered m ss) ≡ bindings_with m.symbols (bindings_among ss)
bindings_renumbered m [] = refl
bindings_renumbered m (scope_site s ∷ ss) = bindings_renumbered (behind_site m (scope_site s)) ss
bindings_renumbered m (binding_site s ∷ ss) = ap (λ zs. binding_with (first_symbol m.symbols) s ∷ zs) (bindings_renumbered (behind_site m (binding_site s)) ss)
bindings_renumbered m (reference_site s ∷ ss) = bindings_renumbered (behind_site m (reference_site s)) ss

references_renumbered : (m : Marks) (ss : List Site) → references_among (renumbered m ss) ≡ references_from m.reference (references_among ss)
references_renumbered m [] = refl
references_renumbered m (scope_site s ∷ ss) = references_renumbered (behind_site m (scope_site s)) ss
references_renumbered m (binding_site s ∷ ss) = references_renumbered (behind_site m (binding_site s)) ss
references_renumbered m (reference_site s ∷ ss) = ap (λ zs. reference_with (Some m.reference) s ∷ zs) (references_renumbered (behind_site m (reference_site s)) ss)

pub found_marked : (m : Marks) (t : Forest) → found_in (sites_of (marked m t)) ≡ found_renumbered m (found_in (sites_of t))
found_marked m t =
    ap found_in (sites_marked m (λ at. outermost) 0 0 t)
    ∙ (λ i. record { scopes = scopes_renumbered m (sites_of t) i; bindings = bindings_renumbered m (sites_of t) i; references = references_renumbered m (sites_of t) i })
