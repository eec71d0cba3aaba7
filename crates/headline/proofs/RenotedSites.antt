-- Trees that differ in ids and spans alone have the same sites, but for their marks, and the same bindings.
use Rattle.std.proofs.Common.{◌≡◌, ◌∙◌, ◌+◌, ℕ, suc, List, [], ◌∷◌, ◌++◌, map, Bool, true, false, ◌&&◌, ◌||◌, Some, None, option_map, if◌then◌else◌, refl, sym, ap, ap₂, subst}
use Rattle.std.proofs.lemmas.List.{map-append}
use Rattle.std.specs.Str.{bytes_eq}
use mathlib.Core.Path.{fun_ext}
use Rattle.js_syntax.specs.declared.node_kind.NodeKind.{NodeKind as Kind}
use Rattle.js_syntax.specs.declared.node_kind.NodeKind.TheVariants.{BindingName as binding_name, ReferenceName as reference_name, TargetName as target_name}
use Rattle.js_syntax.specs.Node.{Forest, Note, nothing, node, absent, nowhere, bare}
use Rattle.scope_rules.specs.declared.layer.Layer.{Layer}
use Rattle.scope_rules.specs.Context.{Context, opens, inside, outermost}
use Rattle.scope_rules.specs.Site.{Site, scope_site, binding_site, reference_site, ScopeSite, BindingSite, ReferenceSite, scope_bits, name_sites, own_sites, opens_one, scope_count, sites, sites_of, bindings_among, references_among}
use Rattle.scope_rules.specs.Binding.{Binding, same_layer, is_declared, binding_layer, named_in, binding_of}
use Rattle.scope_laws.specs.Exact.{Among}
use Rattle.scope_laws.proofs.Notes.{unseen, opens_bare, scope_count_bare, scope_bits_bare, inside_bare}
use Rattle.scope_laws.proofs.Among.{among_map, image}
use Rattle.steps.specs.Naming.Standing.{is_export, exported_sites, exported_declarations}
use Rattle.steps.specs.Allowed.Free.{IsFree}

-- ---- sites without ids and spans

abbrev bare_binding : BindingSite → BindingSite
bare_binding b = record { id = None; name = b.name; layer = b.layer; flags = b.flags; is_pure = b.is_pure; span = nowhere.span }

abbrev bare_reference : ReferenceSite → ReferenceSite
bare_reference r = record { id = None; name = r.name; scope = r.scope; layers = r.layers; flags = r.flags }

abbrev bare_scope : ScopeSite → ScopeSite
bare_scope s = record { id = None; parent = s.parent; flags = s.flags }

abbrev bare_site : Site → Site
bare_site (scope_site s) = scope_site (bare_scope s)
bare_site (binding_site b) = binding_site (bare_binding b)
bare_site (reference_site r) = reference_site (bare_reference r)

scope_or_none : (b : Bool) (s : ScopeSite) → (if b then scope_site (bare_scope s) ∷ [] else []) ≡ map bare_site (if b then scope_site s ∷ [] else [])
scope_or_none true s = refl
scope_or_none false s = refl

names_bare : (c : Context) (n : Note) (k : Kind) → name_sites c nowhere k ≡ map bare_site (name_sites c n k)
names_bare c n (binding_name x) = refl
names_bare c n (reference_name x) = refl
names_bare c n (target_name x) = refl
names_bare c n k = refl

own_bare : (c : Context) (n : Note) (k : Kind) (t : Forest) → own_sites c nowhere k (bare t) ≡ map bare_site (own_sites c n k t)
own_bare c n k t =
    let here : ScopeSite = record { id = n.id; parent = c.scope; flags = scope_bits c k t } in
    ap₂ (λ xs ys. xs ++ ys)
    (ap₂ (λ b flags. if b then scope_site (record { id = None; parent = c.scope; flags = flags }) ∷ [] else []) (opens_bare k t) (scope_bits_bare c k t) ∙ scope_or_none (opens k t) here)
    (names_bare c n k)
    ∙ sym (map-append bare_site (if opens k t then scope_site here ∷ [] else []) (name_sites c n k))

pub inside_same : (c : Context) (next : ℕ) (k : Kind) (f g : Forest) → bare f ≡ bare g → inside c next k f ≡ inside c next k g
inside_same c next k f g e = fun_ext (λ i. unseen (λ t. inside c next k t i) (λ t. inside_bare c next k t i) f g e)

pub opens_same : (k : Kind) (f g : Forest) → bare f ≡ bare g → opens_one k f ≡ opens_one k g
opens_same k f g e = ap (λ b. if b then 1 else 0) (unseen (opens k) (opens_bare k) f g e)

bare_bare : (t : Forest) → bare (bare t) ≡ bare t
bare_bare nothing = refl
bare_bare (absent rest) = ap absent (bare_bare rest)
bare_bare (node k n below rest) = ap₂ (λ x y. node k nowhere x y) (bare_bare below) (bare_bare rest)

place_same : (next : ℕ) (k : Kind) (n : Note) (below : Forest) → next + scope_count (node k nowhere (bare below) nothing) ≡ next + scope_count (node k n below nothing)
place_same next k n below = ap (λ (i : ℕ). next + i) (scope_count_bare (node k n below nothing))

sites_bare : (cs : ℕ → Context) (at next : ℕ) (t : Forest) → sites cs at next (bare t) ≡ map bare_site (sites cs at next t)
sites_bare cs at next nothing = refl
sites_bare cs at next (absent rest) = sites_bare cs (suc at) next rest
sites_bare cs at next (node k n below rest) =
    let c = cs at in
    let own = own_sites c n k below in
    let inner = sites (inside c next k below) 0 (next + opens_one k below) below in
    let outer = sites cs (suc at) (next + scope_count (node k n below nothing)) rest in
    ap₂ (λ xs ys. xs ++ ys)
    (ap₂ (λ xs ys. xs ++ ys) (own_bare c n k below)
    (ap₂ (λ f (i : ℕ). sites f 0 (next + i) (bare below)) (inside_same c next k (bare below) below (bare_bare below)) (opens_same k (bare below) below (bare_bare below)) ∙ sites_bare (inside c next k below) 0 (next + opens_one k below) below))
    (ap (λ (i : ℕ). sites cs (suc at) i (bare rest)) (place_same next k n below) ∙ sites_bare cs (suc at) (next + scope_count (node k n below nothing)) rest)
    ∙ sym (map-append bare_site (own ++ inner) outer ∙ ap (λ xs. xs ++ map bare_site outer) (map-append bare_site own inner))

exported_bare : (cs : ℕ → Context) (at next : ℕ) (t : Forest) → exported_sites cs at next (bare t) ≡ map bare_site (exported_sites cs at next t)
exported_bare cs at next nothing = refl
exported_bare cs at next (absent rest) = exported_bare cs (suc at) next rest
exported_bare cs at next (node k n below rest) =
    let c = cs at in
    let all = sites (inside c next k below) 0 (next + opens_one k below) below in
    let some = exported_sites (inside c next k below) 0 (next + opens_one k below) below in
    let outer = exported_sites cs (suc at) (next + scope_count (node k n below nothing)) rest in
    ap₂ (λ xs ys. xs ++ ys)
    (ap₂ (λ f (i : ℕ). if is_export k then sites f 0 (next + i) (bare below) else exported_sites f 0 (next + i) (bare below)) (inside_same c next k (bare below) below (bare_bare below)) (opens_same k (bare below) below (bare_bare below))
    ∙ either (is_export k) (exported_bare (inside c next k below) 0 (next + opens_one k below) below))
    (ap (λ (i : ℕ). exported_sites cs (suc at) i (bare rest)) (place_same next k n below) ∙ exported_bare cs (suc at) (next + scope_count (node k n below nothing)) rest)
    ∙ sym (map-append bare_site (if is_export k then all else some) outer)
  where
    either : (b : Bool)
        → exported_sites (inside (cs at) next k below) 0 (next + opens_one k below) (bare below) ≡ map bare_site (exported_sites (inside (cs at) next k below) 0 (next + opens_one k below) below)
        → (if b then sites (inside (cs at) next k below) 0 (next + opens_one k below) (bare below) else exported_sites (inside (cs at) next k below) 0 (next + opens_one k below) (bare below))
        ≡ map bare_site (if b then sites (inside (cs at) next k below) 0 (next + opens_one k below) below else exported_sites (inside (cs at) next k below) 0 (next + opens_one k below) below)
    either true e = sites_bare (inside (cs at) next k below) 0 (next + opens_one k below) below
    either false e = e

bindings_bare : (ss : List Site) → bindings_among (map bare_site ss) ≡ map bare_binding (bindings_among ss)
bindings_bare [] = refl
bindings_bare (scope_site s ∷ ss) = bindings_bare ss
bindings_bare (binding_site s ∷ ss) = ap (λ zs. bare_binding s ∷ zs) (bindings_bare ss)
bindings_bare (reference_site s ∷ ss) = bindings_bare ss

references_bare : (ss : List Site) → references_among (map bare_site ss) ≡ map bare_reference (references_among ss)
references_bare [] = refl
references_bare (scope_site s ∷ ss) = references_bare ss
references_bare (binding_site s ∷ ss) = references_bare ss
references_bare (reference_site s ∷ ss) = ap (λ zs. bare_reference s ∷ zs) (references_bare ss)

-- ---- bindings

declared_bare : (bs : List BindingSite) (l : Layer) (x : List ℕ) → is_declared (map bare_binding bs) l x ≡ is_declared bs l x
declared_bare [] l x = refl
declared_bare (b ∷ bs) l x = ap (λ d. same_layer b.layer l && bytes_eq b.name x || d) (declared_bare bs l x)

layer_bare : (bs : List BindingSite) (ls : List Layer) (x : List ℕ) → binding_layer (map bare_binding bs) ls x ≡ binding_layer bs ls x
layer_bare bs [] x = refl
layer_bare bs (l ∷ ls) x = ap₂ (λ d o. if d then Some l else o) (declared_bare bs l x) (layer_bare bs ls x)

binding_bare : (bs : List BindingSite) (r : ReferenceSite) → binding_of (map bare_binding bs) r ≡ binding_of bs r
binding_bare bs r = ap (option_map (named_in r.name)) (layer_bare bs r.layers r.name)

module _ (t u : Forest) (e : bare t ≡ bare u) where
  same_bindings : map bare_binding (bindings_among (sites_of t)) ≡ map bare_binding (bindings_among (sites_of u))
  same_bindings = unseen (λ f. map bare_binding (bindings_among (sites_of f)))
      (λ f. ap (λ ss. map bare_binding (bindings_among ss)) (sites_bare (λ at. outermost) 0 0 f) ∙ ap (map bare_binding) (bindings_bare (sites_of f)) ∙ twice (bindings_among (sites_of f))) t u e
    where
      twice : (bs : List BindingSite) → map bare_binding (map bare_binding bs) ≡ map bare_binding bs
      twice [] = refl
      twice (b ∷ bs) = ap (λ zs. bare_binding b ∷ zs) (twice bs)

  same_references : map bare_reference (references_among (sites_of t)) ≡ map bare_reference (references_among (sites_of u))
  same_references = unseen (λ f. map bare_reference (references_among (sites_of f)))
      (λ f. ap (λ ss. map bare_reference (references_among ss)) (sites_bare (λ at. outermost) 0 0 f) ∙ ap (map bare_reference) (references_bare (sites_of f)) ∙ twice (references_among (sites_of f))) t u e
    where
      twice : (rs : List ReferenceSite) → map bare_reference (map bare_reference rs) ≡ map bare_reference rs
      twice [] = refl
      twice (r ∷ rs) = ap (λ zs. bare_reference r ∷ zs) (twice rs)

  same_exports : map bare_binding (exported_declarations t) ≡ map bare_binding (exported_declarations u)
  same_exports = unseen (λ f. map bare_binding (exported_declarations f))
      (λ f. ap (λ ss. map bare_binding (bindings_among ss)) (exported_bare (λ at. outermost) 0 0 f) ∙ ap (map bare_binding) (bindings_bare (exported_sites (λ at. outermost) 0 0 f)) ∙ twice (exported_declarations f)) t u e
    where
      twice : (bs : List BindingSite) → map bare_binding (map bare_binding bs) ≡ map bare_binding bs
      twice [] = refl
      twice (b ∷ bs) = ap (λ zs. bare_binding b ∷ zs) (twice bs)

  pub same_binding : (r : ReferenceSite) → binding_of (bindings_among (sites_of t)) r ≡ binding_of (bindings_among (sites_of u)) r
  same_binding r = sym (binding_bare (bindings_among (sites_of t)) r) ∙ ap (λ bs. binding_of bs r) same_bindings ∙ binding_bare (bindings_among (sites_of u)) r

  -- what is free in the one is free in the other
  pub free_as : (b : Binding) → IsFree u b → IsFree t b
  free_as b f = record {
    unreferred = λ r h is.
        let i = image bare_reference (references_among (sites_of u)) (bare_reference r) (subst (Among (bare_reference r)) same_references (among_map bare_reference r (references_among (sites_of t)) h)) in
        f.unreferred i.item i.stands (ap (binding_of (bindings_among (sites_of u))) i.gives ∙ sym (same_binding r) ∙ is);
    unexported = λ d h outer is.
        let i = image bare_binding (exported_declarations u) (bare_binding d) (subst (Among (bare_binding d)) same_exports (among_map bare_binding d (exported_declarations t) h)) in
        f.unexported i.item i.stands (ap (λ (x : BindingSite). x.layer.scope) i.gives ∙ outer) (ap (λ (x : BindingSite). named_in x.name x.layer) i.gives ∙ is);
  }
