-- The scopes of the table that is made of a program, node by node once it is marked.
use Rattle.std.proofs.Common.{◌≡◌, ◌∙◌, ◌+◌, ℕ, suc, List, [], ◌∷◌, ◌++◌, Bool, true, false, if◌then◌else◌, Some, slice_index_or, refl, sym, ap, subst, arith, append_assoc, append-nil}
use Rattle.js_syntax.specs.declared.node_kind.NodeKind.{NodeKind as Kind}
use Rattle.js_syntax.specs.declared.node_kind.NodeKind.TheVariants as kind
use Rattle.js_syntax.specs.Node.{Forest, Note, nothing, node, absent}
use Rattle.scope_rules.specs.Context.{Context, opens, inside, outermost}
use Rattle.scope_rules.specs.Site.{ScopeSite, Site, scope_site, Found, bit, scope_bits, name_sites, opens_one, scope_count, own_sites, sites, sites_of, scopes_among, found_in}
use Rattle.scope_rules.specs.Binding.{Binding}
use Rattle.scope_rules.specs.Table.{Scoping, symbols_of, symbols_declared, scopes_from, scoping_of}
use Rattle.scope_rules.specs.Mark.{marked, first_marks}
use Rattle.scope_table.specs.Reading.{no_scope, scope_at}
use Rattle.scope_laws.specs.Renumbered.{scopes_from as scopes_with}
use Rattle.scope_laws.proofs.Marking.{found_marked}
use Rattle.steps.proofs.Marked.Exposing.{never}

module _ (s : Scoping) where
  -- the site is marked with the number, and the table has it there
  pub record IsMade (number : ℕ) (x : ScopeSite) : Type 0 where
    pub mark : x.id ≡ Some number
    pub flags : (scope_at s number).flags ≡ x.flags
    pub parent : (scope_at s number).parent ≡ x.parent

  abbrev pub AllMade : (next : ℕ) → List ScopeSite → Type 0
  AllMade next [] = Unit {0}
  AllMade next (x ∷ xs) = IsMade next x × AllMade (next + 1) xs

  all_made_at : (xs : List ScopeSite) (n m : ℕ) → n ≡ m → AllMade n xs → AllMade m xs
  all_made_at xs n m e h = subst (λ i. AllMade i xs) e h

  abbrev pub scope_of : Context → Note → Kind → (below : Forest) → ScopeSite
  scope_of c n k below = record { id = n.id; parent = c.scope; flags = scope_bits c k below }

  abbrev pub EachMade : (contexts : ℕ → Context) → (at next : ℕ) → Forest → Type 0
  EachMade cs at next nothing = Unit {0}
  EachMade cs at next (absent rest) = EachMade cs (suc at) next rest
  EachMade cs at next (node k n below rest) =
      (opens k below ≡ true → IsMade next (scope_of (cs at) n k below)) × EachMade (inside (cs at) next k below) 0 (next + opens_one k below) below × EachMade cs (suc at) (next + scope_count (node k n below nothing)) rest

  -- ---- of a list of sites

  no_names : (c : Context) (n : Note) (k : Kind) (xs : List Site) → scopes_among (name_sites c n k ++ xs) ≡ scopes_among xs
  no_names c n (kind.BindingName x) xs = refl
  no_names c n (kind.ReferenceName x) xs = refl
  no_names c n (kind.TargetName x) xs = refl
  no_names c n k xs = refl

  own_made : (b : Bool) (x : ScopeSite) (names xs : List Site) (next : ℕ) → scopes_among (names ++ xs) ≡ scopes_among xs → AllMade next (scopes_among (((if b then scope_site x ∷ [] else []) ++ names) ++ xs))
      → (b ≡ true → IsMade next x) × AllMade (next + bit b 1) (scopes_among xs)
  own_made true x names xs next e h = (λ g. h.0, subst (λ ys. AllMade (next + 1) ys) e h.1)
  own_made false x names xs next e h = (λ g. never g, all_made_at (scopes_among xs) next (next + 0) (Prim.omega arith) (subst (λ ys. AllMade next ys) e h))

  row_made : (cs : ℕ → Context) (at next : ℕ) (t : Forest) (xs : List Site) → AllMade next (scopes_among (sites cs at next t ++ xs)) → EachMade cs at next t × AllMade (next + scope_count t) (scopes_among xs)
  row_made cs at next nothing xs h = (tt, all_made_at (scopes_among xs) next (next + 0) (Prim.omega arith) h)
  row_made cs at next (absent rest) xs h = row_made cs (suc at) next rest xs h
  row_made cs at next (node k n below rest) xs h =
      let own = own_sites (cs at) n k below in
      let inner = sites (inside (cs at) next k below) 0 (next + opens_one k below) below in
      let behind = next + scope_count (node k n below nothing) in
      let outer = sites cs (suc at) behind rest in
      let here = own_made (opens k below) (scope_of (cs at) n k below) (name_sites (cs at) n k) (inner ++ (outer ++ xs)) next (no_names (cs at) n k (inner ++ (outer ++ xs)))
      (subst (λ ys. AllMade next (scopes_among ys)) (append_assoc (own ++ inner) outer xs ∙ append_assoc own inner (outer ++ xs)) h) in
      let there = row_made (inside (cs at) next k below) 0 (next + opens_one k below) below (outer ++ xs) here.1 in
      let later = row_made cs (suc at) behind rest xs (all_made_at (scopes_among (outer ++ xs)) (next + opens_one k below + scope_count below) behind (Prim.omega arith) there.1) in
      ((here.0, there.0, later.0), all_made_at (scopes_among xs) (behind + scope_count rest) (next + scope_count (node k n below rest)) (Prim.omega arith) later.1)

  -- ---- of the table

  made_from : (all : List Binding) (next first : ℕ) (ss : List ScopeSite) → ((n m : ℕ) → m ≡ first + n → scope_at s m ≡ slice_index_or (scopes_from all next ss) n no_scope) → AllMade first (scopes_with first ss)
  made_from all next first [] h = tt
  made_from all next first (x ∷ ss) h =
      let here = h 0 first (Prim.omega arith) in
      (record { mark = refl; flags = ap (λ y. y.flags) here; parent = ap (λ y. y.parent) here }, made_from all (suc next) (first + 1) ss (λ n m is. h (suc n) m (Prim.omega (arith, is))))

pub new_made : (t : Forest) → let f = found_in (sites_of t) in EachMade (scoping_of f) (λ at. outermost) 0 0 (marked (first_marks (symbols_declared f.bindings)) t)
new_made t =
    let f = found_in (sites_of t) in
    let s = scoping_of f in
    let m = first_marks (symbols_declared f.bindings) in
    let u = marked m t in
    let made = made_from s (symbols_of f.bindings) 0 0 f.scopes (λ n i is. (let same : i ≡ n = Prim.omega (arith, is) in ap (λ j. scope_at s j) same)) in
    let listed : AllMade s 0 (scopes_among (sites_of u)) = subst (λ (g : Found). AllMade s 0 g.scopes) (sym (found_marked m t)) made in
    (row_made s (λ at. outermost) 0 0 u [] (subst (λ ss. AllMade s 0 (scopes_among ss)) (sym (append-nil (sites_of u))) listed)).0
