-- The sites of a tree are those before a place, those there, and those behind it.
use Rattle.std.proofs.Common.{◌≡◌, ◌∙◌, ◌+◌, ℕ, suc, List, ◌++◌, Option, Some, None, append-nil, append_assoc, refl, sym, ap, ap₂, arith}
use Rattle.js_syntax.specs.Node.{Forest, Tree, nothing, node}
use Rattle.scope_rules.specs.Context.{Context, inside, outermost}
use Rattle.scope_rules.specs.Site.{Site, own_sites, opens_one, scope_count, sites, sites_of}
use Rattle.scope_laws.specs.Place.{Around, first, behind, behind_none, under, placed, one_place, plug, before, there, after, sites_before, sites_there, sites_after}

placed_sites : (cs : ℕ → Context) (at next : ℕ) (x : Option Tree) (rest : Forest) → sites cs at next (placed x rest) ≡ sites cs at next (one_place x) ++ sites cs (suc at) (next + scope_count (one_place x)) rest
placed_sites cs at next None rest = ap (λ (n : ℕ). sites cs (suc at) n rest) (Prim.omega arith)
placed_sites cs at next (Some t) rest =
    sym (ap (λ xs. xs ++ sites cs (suc at) (next + scope_count (one_place (Some t))) rest) (append-nil (own_sites (cs at) t.note t.kind t.below ++ sites (inside (cs at) next t.kind t.below) 0 (next + opens_one t.kind t.below) t.below)))

four : (a b c d e : List Site) → (a ++ (b ++ c ++ d)) ++ e ≡ (a ++ b) ++ c ++ (d ++ e)
four a b c d e = Prim.simp append_assoc refl

pub split : (cs : ℕ → Context) (at next : ℕ) (a : Around) (x : Option Tree) → sites cs at next (plug a x) ≡ before cs at next a x ++ there cs at next a x ++ after cs at next a x
split cs at next (first rest) x = placed_sites cs at next x rest
split cs at next (behind k n below a) x =
    let own = sites cs at next (node k n below nothing) in
    let place = next + scope_count (node k n below nothing) in
    ap₂ (λ xs ys. xs ++ ys) (sym (append-nil (own_sites (cs at) n k below ++ sites (inside (cs at) next k below) 0 (next + opens_one k below) below))) (split cs (suc at) place a x)
    ∙ sym (append_assoc own (before cs (suc at) place a x ++ there cs (suc at) place a x) (after cs (suc at) place a x))
    ∙ ap (λ xs. xs ++ after cs (suc at) place a x) (sym (append_assoc own (before cs (suc at) place a x) (there cs (suc at) place a x)))
split cs at next (behind_none a) x = split cs (suc at) next a x
split cs at next (under k n a rest) x =
    let c = inside (cs at) next k (plug a x) in
    let place = next + opens_one k (plug a x) in
    let others = sites cs (suc at) (next + scope_count (node k n (plug a x) nothing)) rest in
    ap (λ xs. own_sites (cs at) n k (plug a x) ++ xs ++ others) (split c 0 place a x)
    ∙ four (own_sites (cs at) n k (plug a x)) (before c 0 place a x) (there c 0 place a x) (after c 0 place a x) others

pub split_of : (a : Around) (x : Option Tree) → sites_of (plug a x) ≡ sites_before a x ++ sites_there a x ++ sites_after a x
split_of a x = split (λ at. outermost) 0 0 a x
