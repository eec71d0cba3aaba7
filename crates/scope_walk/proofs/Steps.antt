-- The sites of a row, child by child.
use Rattle.std.proofs.Common.{◌≡◌, ◌<◌, ◌≤◌, ◌+◌, ◌∙◌, ℕ, suc, List, [], ◌∷◌, ◌++◌, Option, Some, None, length, get_or, drop, add-one, append-nil, append_assoc, refl, sym, ap}
use Rattle.js_syntax.specs.Node.{Forest, Tree, node, nothing, row, forest_of}
use Rattle.js_tree.proofs.Children.{child_at, none_at, none_left}
use Rattle.scope_rules.specs.Context.{Context, outermost}
use Rattle.scope_rules.specs.Site.{Site, scope_site, binding_site, reference_site, scopes_among, bindings_among, references_among, scope_count, sites, sites_of, Found, added, found_in}
use Rattle.scope_walk.specs.Walk.{node_sites}

pub scopes_append : (xs ys : List Site) → scopes_among (xs ++ ys) ≡ scopes_among xs ++ scopes_among ys
scopes_append [] ys = refl
scopes_append (scope_site s ∷ xs) ys = ap (λ zs. s ∷ zs) (scopes_append xs ys)
scopes_append (binding_site s ∷ xs) ys = scopes_append xs ys
scopes_append (reference_site s ∷ xs) ys = scopes_append xs ys

bindings_append : (xs ys : List Site) → bindings_among (xs ++ ys) ≡ bindings_among xs ++ bindings_among ys
bindings_append [] ys = refl
bindings_append (scope_site s ∷ xs) ys = bindings_append xs ys
bindings_append (binding_site s ∷ xs) ys = ap (λ zs. s ∷ zs) (bindings_append xs ys)
bindings_append (reference_site s ∷ xs) ys = bindings_append xs ys

references_append : (xs ys : List Site) → references_among (xs ++ ys) ≡ references_among xs ++ references_among ys
references_append [] ys = refl
references_append (scope_site s ∷ xs) ys = references_append xs ys
references_append (binding_site s ∷ xs) ys = references_append xs ys
references_append (reference_site s ∷ xs) ys = ap (λ zs. s ∷ zs) (references_append xs ys)

three : (a b : Found) → a.scopes ≡ b.scopes → a.bindings ≡ b.bindings → a.references ≡ b.references → a ≡ b
three a b s t u = ap (λ x. record { scopes = x; bindings = a.bindings; references = a.references }) s ∙ ap (λ x. record { scopes = b.scopes; bindings = x; references = a.references }) t ∙ ap (λ x. record { scopes = b.scopes; bindings = b.bindings; references = x }) u

pub added_twice : (f : Found) (xs ys : List Site) → added (added f xs) ys ≡ added f (xs ++ ys)
added_twice f xs ys =
    three (added (added f xs) ys) (added f (xs ++ ys))
    (append_assoc f.scopes (scopes_among xs) (scopes_among ys) ∙ ap (λ zs. f.scopes ++ zs) (sym (scopes_append xs ys)))
    (append_assoc f.bindings (bindings_among xs) (bindings_among ys) ∙ ap (λ zs. f.bindings ++ zs) (sym (bindings_append xs ys)))
    (append_assoc f.references (references_among xs) (references_among ys) ∙ ap (λ zs. f.references ++ zs) (sym (references_append xs ys)))

pub added_none : (f : Found) → added f [] ≡ f
added_none f = three (added f []) f (append-nil f.scopes) (append-nil f.bindings) (append-nil f.references)

rest_of : (contexts : ℕ → Context) (i j next : ℕ) (t : Tree) (rest : Forest) → j ≡ suc i
    → node_sites (contexts i) next t ++ sites contexts j (next + scope_count (forest_of t)) rest ≡ sites contexts i next (node t.kind t.note t.below rest)
rest_of contexts i j next t rest e = rw e refl

pub next_child : (contexts : ℕ → Context) (ts : List (Option Tree)) (i next : ℕ) (x : Option Tree) (t : Tree) (found now all : Found) → i < length ts → x ≡ get_or ts i x → x ≡ Some t
    → now ≡ added found (node_sites (contexts i) next t)
    → added found (sites contexts i next (row (drop i ts))) ≡ all
    → added now (sites contexts (i + 1) (next + scope_count (forest_of t)) (row (drop (i + 1) ts))) ≡ all
next_child contexts ts i next x t found now all h at is step so_far =
    let rest = row (drop (i + 1) ts) in
    ap (λ f. added f (sites contexts (i + 1) (next + scope_count (forest_of t)) rest)) step
    ∙ added_twice found (node_sites (contexts i) next t) (sites contexts (i + 1) (next + scope_count (forest_of t)) rest)
    ∙ ap (added found) (rest_of contexts i (i + 1) next t rest (add-one i))
    ∙ sym (ap (λ r. added found (sites contexts i next r)) (child_at ts i x t h at is))
    ∙ so_far

pub next_absent : (contexts : ℕ → Context) (ts : List (Option Tree)) (i next : ℕ) (x : Option Tree) (found all : Found) → i < length ts → x ≡ get_or ts i x → x ≡ None
    → added found (sites contexts i next (row (drop i ts))) ≡ all
    → added found (sites contexts (i + 1) next (row (drop (i + 1) ts))) ≡ all
next_absent contexts ts i next x found all h at is so_far =
    ap (λ (j : ℕ). added found (sites contexts j next (row (drop (i + 1) ts)))) (add-one i) ∙ sym (ap (λ r. added found (sites contexts i next r)) (none_at ts i x h at is)) ∙ so_far

pub none_behind : (contexts : ℕ → Context) (ts : List (Option Tree)) (i next : ℕ) (found all : Found) → length ts ≤ i
    → added found (sites contexts i next (row (drop i ts))) ≡ all → found ≡ all
none_behind contexts ts i next found all past so_far = sym (added_none found) ∙ sym (ap (λ r. added found (sites contexts i next r)) (none_left ts i past)) ∙ so_far

-- a whole tree is a row of one node
pub whole : (t : Tree) → node_sites outermost 0 t ≡ sites_of (forest_of t)
whole t = sym (append-nil (node_sites outermost 0 t))
