-- What the walk marks: the names that are declared below exports.
use Rattle.std.proofs.Common.{◌≡◌, ◌∙◌, ◌⊎◌, ◌<◌, ◌+◌, inl, inr, ℕ, suc, List, [], ◌∷◌, ◌++◌, length, Bool, true, false, true≢false, nat_eq, Option, Some, None, if◌then◌else◌, refl, sym, ap, arith, eqb-true, eq-eqb}
use Rattle.std.proofs.Math.ListN.{get_or-eq_default}
use Rattle.std.proofs.lemmas.List.{get_or-set_same, get_or-set_other, length-set}
use Rattle.js_syntax.specs.declared.node_kind.NodeKind.{NodeKind as Kind}
use Rattle.js_syntax.specs.declared.node_kind.NodeKind.TheVariants.{PropertyDefinition as property_definition}
use Rattle.js_syntax.specs.Node.{Forest, Note, nothing, node, absent}
use Rattle.symbol_sets.specs.Numbers.{has, with_number}
use Rattle.scope_rules.specs.Context.{Context, has_second, inside}
use Rattle.scope_rules.specs.Site.{Site, scope_site, binding_site, reference_site, ScopeSite, BindingSite, own_sites, opens_one, scope_bits, scope_count, sites, bindings_among}
use Rattle.scope_laws.specs.Exact.{Among}
use Rattle.steps.specs.Naming.Standing.{is_export, exported_sites}
use Rattle.steps.proofs.Naming.Sites.{binding_second, binding_third, InThree, in_first, in_second, in_third, binding_in}
use Rattle.exported_names.specs.Exported.{with_mark, with_name, with_names, with_exports}
use Rattle.exported_names.proofs.Listing.{below_or_above}

-- ---- one site after another

abbrev pub with_sites : List Site → List Bool → List Bool
with_sites [] marks = marks
with_sites (scope_site s ∷ ss) marks = with_sites ss marks
with_sites (binding_site b ∷ ss) marks = with_sites ss (with_mark b.id marks)
with_sites (reference_site r ∷ ss) marks = with_sites ss marks

with_append : (xs ys : List Site) (marks : List Bool) → with_sites (xs ++ ys) marks ≡ with_sites ys (with_sites xs marks)
with_append [] ys marks = refl
with_append (scope_site s ∷ xs) ys marks = with_append xs ys marks
with_append (binding_site b ∷ xs) ys marks = with_append xs ys (with_mark b.id marks)
with_append (reference_site r ∷ xs) ys marks = with_append xs ys marks

no_names : (b : Bool) (s : ScopeSite) (marks : List Bool) → with_sites ((if b then scope_site s ∷ [] else []) ++ []) marks ≡ marks
no_names true s marks = refl
no_names false s marks = refl

own_names : (c : Context) (n : Note) (k : Kind) (below : Forest) (marks : List Bool) → with_name k n marks ≡ with_sites (own_sites c n k below) marks
own_names c n (property_definition is_static key) below marks =
    sym (no_names (has_second below) (record { id = n.id; parent = c.scope; flags = scope_bits c (property_definition is_static key) below }) marks)
own_names c n k below marks = refl

pub names_walked : (cs : ℕ → Context) (at next : ℕ) (t : Forest) (marks : List Bool) → with_names t marks ≡ with_sites (sites cs at next t) marks
names_walked cs at next nothing marks = refl
names_walked cs at next (absent rest) marks = names_walked cs (suc at) next rest marks
names_walked cs at next (node k n below rest) marks =
    let own = own_sites (cs at) n k below in
    let inner = sites (inside (cs at) next k below) 0 (next + opens_one k below) below in
    let outer = sites cs (suc at) (next + scope_count (node k n below nothing)) rest in
    names_walked cs (suc at) (next + scope_count (node k n below nothing)) rest (with_names below (with_name k n marks))
    ∙ ap (with_sites outer) (
    names_walked (inside (cs at) next k below) 0 (next + opens_one k below) below (with_name k n marks) ∙ ap (with_sites inner) (own_names (cs at) n k below marks) ∙ sym (with_append own inner marks))
    ∙ sym (with_append (own ++ inner) outer marks)

inner_walked : (b : Bool) (inner some : List Site) (below : Forest) (marks : List Bool) → with_names below marks ≡ with_sites inner marks → with_exports below marks ≡ with_sites some marks
    → (if b then with_names below marks else with_exports below marks) ≡ with_sites (if b then inner else some) marks
inner_walked true inner some below marks e f = e
inner_walked false inner some below marks e f = f

pub exports_walked : (cs : ℕ → Context) (at next : ℕ) (t : Forest) (marks : List Bool) → with_exports t marks ≡ with_sites (exported_sites cs at next t) marks
exports_walked cs at next nothing marks = refl
exports_walked cs at next (absent rest) marks = exports_walked cs (suc at) next rest marks
exports_walked cs at next (node k n below rest) marks =
    let inner = sites (inside (cs at) next k below) 0 (next + opens_one k below) below in
    let some = exported_sites (inside (cs at) next k below) 0 (next + opens_one k below) below in
    let outer = exported_sites cs (suc at) (next + scope_count (node k n below nothing)) rest in
    exports_walked cs (suc at) (next + scope_count (node k n below nothing)) rest (if is_export k then with_names below marks else with_exports below marks)
    ∙ ap (with_sites outer)
    (inner_walked (is_export k) inner some below marks (names_walked (inside (cs at) next k below) 0 (next + opens_one k below) below marks)
    (exports_walked (inside (cs at) next k below) 0 (next + opens_one k below) below marks))
    ∙ sym (with_append (if is_export k then inner else some) outer marks)

-- ---- what is marked then

pub record IsOne (ss : List Site) (symbol : ℕ) : Type 0 where
  pub declaration : BindingSite
  pub stands : Among declaration (bindings_among ss)
  pub has_mark : declaration.id ≡ Some symbol

mark_came : (o : Option ℕ) (marks : List Bool) (n : ℕ) → has (with_mark o marks) n ≡ true → (has marks n ≡ true) ⊎ (o ≡ Some n)
mark_came None marks n h = inl h
mark_came (Some m) marks n h = go (nat_eq m n) refl
  where
    go : (b : Bool) → nat_eq m n ≡ b → (has marks n ≡ true) ⊎ (Some m ≡ Some n)
    go true e = inr (ap Some (eqb-true m n e))
    go false e = inl (sym (get_or-set_other marks m n true false (λ same. true≢false (sym (eq-eqb m n (sym same)) ∙ e))) ∙ h)

pub came : (ss : List Site) (marks : List Bool) (n : ℕ) → has (with_sites ss marks) n ≡ true → (has marks n ≡ true) ⊎ IsOne ss n
came [] marks n h = inl h
came (scope_site s ∷ ss) marks n h = elim (came ss marks n h) [ inl g ↦ inl g | inr i ↦ inr (record { declaration = i.declaration; stands = i.stands; has_mark = i.has_mark }) ]
came (reference_site r ∷ ss) marks n h = elim (came ss marks n h) [ inl g ↦ inl g | inr i ↦ inr (record { declaration = i.declaration; stands = i.stands; has_mark = i.has_mark }) ]
came (binding_site b ∷ ss) marks n h = elim (came ss (with_mark b.id marks) n h) [
  | inr i ↦ inr (record { declaration = i.declaration; stands = inr i.stands; has_mark = i.has_mark })
  | inl g ↦ elim (mark_came b.id marks n g) [
    | inl m ↦ inl m
    | inr e ↦ inr (record { declaration = b; stands = inl refl; has_mark = e })
  ]
]

within : (marks : List Bool) (n : ℕ) → has marks n ≡ true → n < length marks
within marks n h = elim (below_or_above n (length marks)) [
  | inl l ↦ l
  | inr l ↦ absurd (true≢false (sym h ∙ get_or-eq_default marks false l))
]

mark_stays : (o : Option ℕ) (marks : List Bool) (n : ℕ) → has marks n ≡ true → has (with_mark o marks) n ≡ true
mark_stays None marks n h = h
mark_stays (Some m) marks n h = go (nat_eq m n) refl
  where
    go : (b : Bool) → nat_eq m n ≡ b → has (with_number m marks) n ≡ true
    go true e = ap (λ i. has (with_number i marks) n) (eqb-true m n e) ∙ get_or-set_same marks n true false (within marks n h)
    go false e = get_or-set_other marks m n true false (λ same. true≢false (sym (eq-eqb m n (sym same)) ∙ e)) ∙ h

as_long : (o : Option ℕ) (marks : List Bool) → length (with_mark o marks) ≡ length marks
as_long None marks = refl
as_long (Some m) marks = length-set marks m true

stays : (ss : List Site) (marks : List Bool) (n : ℕ) → has marks n ≡ true → has (with_sites ss marks) n ≡ true
stays [] marks n h = h
stays (scope_site s ∷ ss) marks n h = stays ss marks n h
stays (reference_site r ∷ ss) marks n h = stays ss marks n h
stays (binding_site b ∷ ss) marks n h = stays ss (with_mark b.id marks) n (mark_stays b.id marks n h)

pub marked : (ss : List Site) (marks : List Bool) (n : ℕ) (d : BindingSite) → Among d (bindings_among ss) → d.id ≡ Some n → n < length marks → has (with_sites ss marks) n ≡ true
marked [] marks n d h is l = absurd h
marked (scope_site s ∷ ss) marks n d h is l = marked ss marks n d h is l
marked (reference_site r ∷ ss) marks n d h is l = marked ss marks n d h is l
marked (binding_site b ∷ ss) marks n d (inl e) is l =
    stays ss (with_mark b.id marks) n (ap (λ o. has (with_mark o marks) n) (ap (λ (x : BindingSite). x.id) e ∙ is) ∙ get_or-set_same marks n true false l)
marked (binding_site b ∷ ss) marks n d (inr h) is l = marked ss (with_mark b.id marks) n d h is (Prim.omega (arith, l, as_long b.id marks))

-- ---- what is declared below exports is declared

stands_there : (b : BindingSite) (d : Bool) (own inner some outer later : List Site) → InThree b (bindings_among []) (bindings_among (if d then inner else some)) (bindings_among later)
    → (Among b (bindings_among some) → Among b (bindings_among inner)) → (Among b (bindings_among later) → Among b (bindings_among outer)) → Among b (bindings_among ((own ++ inner) ++ outer))
stands_there b d own inner some outer later (in_first g) below_it behind_it = absurd g
stands_there b true own inner some outer later (in_second g) below_it behind_it = binding_second b own inner outer g
stands_there b false own inner some outer later (in_second g) below_it behind_it = binding_second b own inner outer (below_it g)
stands_there b d own inner some outer later (in_third g) below_it behind_it = binding_third b own inner outer (behind_it g)

pub exported_stands : (cs : ℕ → Context) (at next : ℕ) (t : Forest) (b : BindingSite) → Among b (bindings_among (exported_sites cs at next t)) → Among b (bindings_among (sites cs at next t))
exported_stands cs at next nothing b h = absurd h
exported_stands cs at next (absent rest) b h = exported_stands cs (suc at) next rest b h
exported_stands cs at next (node k n below rest) b h =
    let inner = sites (inside (cs at) next k below) 0 (next + opens_one k below) below in
    let some = exported_sites (inside (cs at) next k below) 0 (next + opens_one k below) below in
    let later = exported_sites cs (suc at) (next + scope_count (node k n below nothing)) rest in
    stands_there b (is_export k) (own_sites (cs at) n k below) inner some (sites cs (suc at) (next + scope_count (node k n below nothing)) rest) later (binding_in b [] (if is_export k then inner else some) later h)
    (λ g. exported_stands (inside (cs at) next k below) 0 (next + opens_one k below) below b g)
    (λ g. exported_stands cs (suc at) (next + scope_count (node k n below nothing)) rest b g)
