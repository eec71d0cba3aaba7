-- What assigns to a name of the program's own scope holds a reference that assigns, with the name's binding.
use Rattle.std.proofs.Common.{◌≡◌, ◌⊎◌, inl, inr, ℕ, suc, ◌+◌, Bool, true, false, if◌then◌else◌, List, Some, bytes_eq, refl, sym, subst, true≢false}
use Rattle.std.proofs.lemmas.Bool.{or_cases, or_left, or_right, false_from_ne_true}
use Rattle.js_syntax.specs.declared.node_kind.NodeKind.{NodeKind as Kind}
use Rattle.js_syntax.specs.declared.scalar.SourceType.{SourceType}
use Rattle.js_syntax.specs.Node.{Forest, nothing, node, absent, Note}
use Rattle.js_meaning.specs.Value.{Text}
use Rattle.steps.specs.Names.{is_among, names_declared, names_exported, refers_at, refers}
use Rattle.steps.specs.Steps.{entered, outermost}
use Rattle.steps.specs.KeepRuns.Assigned.{assigns_at, assigns}
use Rattle.scope_rules.specs.declared.layer.Role.{Role}
use Rattle.scope_rules.specs.Context.{Context, opens, inside, body_of, outermost as outermost_context}
use Rattle.scope_rules.specs.Site.{BindingSite, ReferenceSite, target_bits, number_or_first, own_sites, opens_one, scope_count, sites, references_among}
use Rattle.scope_rules.specs.Binding.{Binding, is_declared, named_in, binding_of}
use Rattle.scope_laws.specs.Exact.{Among}
use Rattle.steps.specs.Naming.Placed.{Place, sort_of, place_below, fits, well_placed, is_well_placed}
use Rattle.steps.specs.Naming.Agreeing.{AgreesAt, Agrees}
use Rattle.steps.specs.Naming.Standing.{program}
use Rattle.steps.specs.Naming.Assigning.{NothingAssigns}
use Rattle.steps.proofs.Naming.Sites.{reference_first, reference_second, reference_third, placed_here, placed_below, placed_behind}
use Rattle.steps.proofs.Naming.Referring.{Binds, BindsIn, bound_first, Ready, ready_from, cut, enter, named_so}
use Rattle.steps.proofs.Naming.Standing.{declarations_of}
use Rattle.steps.proofs.Naming.Unused.{holds}

-- what assigns to a name refers to it

in_scope : (b c d : Bool) → (c ≡ true → d ≡ true) → (if b then false else c) ≡ true → (if b then false else d) ≡ true
in_scope true c d h e = e
in_scope false c d h e = h e

at_refers : (x : Text) (k : Kind) (a : Forest) → (assigns x a ≡ true → refers x a ≡ true) → assigns_at x k a (assigns x a) ≡ true → refers_at x k a (refers x a) ≡ true
at_refers x (Kind.ReferenceName y) a h e = or_right (bytes_eq y x) (refers x a) (h e)
at_refers x (Kind.TargetName y) a h e = elim (or_cases (bytes_eq y x) (assigns x a) e) [
  | inl g ↦ or_left (bytes_eq y x) (refers x a) g
  | inr g ↦ or_right (bytes_eq y x) (refers x a) (h g)
]
at_refers x (Kind.ExportNamedDeclaration source) a h e = or_right (is_among (names_exported a) x) (refers x a) (h e)
at_refers x Kind.ExportDefaultDeclaration a h e = or_right (is_among (names_exported a) x) (refers x a) (h e)
at_refers x k a h e = in_scope (is_among (names_declared k a) x) (assigns x a) (refers x a) h e

assigns_refer : (x : Text) (a : Forest) → assigns x a ≡ true → refers x a ≡ true
assigns_refer x nothing e = e
assigns_refer x (absent r) e = assigns_refer x r e
assigns_refer x (node k n a r) e = elim (or_cases (assigns_at x k a (assigns x a)) (assigns x r) e) [
  | inl g ↦ or_left (refers_at x k a (refers x a)) (refers x r) (at_refers x k a (λ f. assigns_refer x a f) g)
  | inr g ↦ or_right (refers_at x k a (refers x a)) (refers x r) (assigns_refer x r g)
]

-- the reference

record HasTarget (all : List BindingSite) (binding : Binding) (rs : List ReferenceSite) : Type 0 where
  reference : ReferenceSite
  stands : Among reference rs
  binds : binding_of all reference ≡ Some binding
  role : Role
  assigns_so : reference.flags ≡ target_bits role

stands_in : {all : List BindingSite} {binding : Binding} {rs ss : List ReferenceSite} → ((r : ReferenceSite) → Among r rs → Among r ss) → HasTarget all binding rs → HasTarget all binding ss
stands_in h g = record { reference = g.reference; stands = h g.reference g.stands; binds = g.binds; role = g.role; assigns_so = g.assigns_so }

abbrev OfBelow : (all : List BindingSite) (x : Text) (binding : Binding) (c : Context) (next : ℕ) (k : Kind) (a : Forest) → Type 0
OfBelow all x binding c next k a = Ready all x binding (inside c next k a) 0 a → assigns x a ≡ true → HasTarget all binding (references_among (sites (inside c next k a) 0 (next + opens_one k a) a))

abbrev OfNode : (all : List BindingSite) (binding : Binding) (c : Context) (next : ℕ) (k : Kind) (n : Note) (a : Forest) → Type 0
OfNode all binding c next k n a = HasTarget all binding (references_among (own_sites c n k a)) ⊎ HasTarget all binding (references_among (sites (inside c next k a) 0 (next + opens_one k a) a))

of_node : (all : List BindingSite) (x : Text) (binding : Binding) (p : Place) (c : Context) (next : ℕ) (k : Kind) (n : Note) (a : Forest) → fits p (sort_of k) ≡ true → well_placed (place_below p k) 0 a ≡ true → (opens k a ≡ true → AgreesAt all next k a) → Binds all x binding c
    → OfBelow all x binding c next k a → assigns_at x k a (assigns x a) ≡ true → OfNode all binding c next k n a
of_node all x binding p c next (Kind.TargetName y) n a f w agreed h below e = elim (or_cases (bytes_eq y x) (assigns x a) e) [
  | inl g ↦ inl (record { reference = record { id = n.id; name = y; scope = number_or_first c.scope; layers = c.layers; flags = target_bits c.role }; stands = inl refl; binds = named_so all x y binding c h g; role = c.role; assigns_so = refl })
  | inr g ↦ inr (below (enter all x binding p c next (Kind.TargetName y) a f w agreed h refl) g)
]
of_node all x binding p c next k n a f w agreed h below e =
    let both = cut (is_among (names_declared k a) x) (assigns x a) e in
    inr (below (enter all x binding p c next k a f w agreed h both.0) both.1)

assigns_found : (all : List BindingSite) (x : Text) (binding : Binding) (ps : ℕ → Place) (cs : ℕ → Context) (at next : ℕ) (t : Forest) → well_placed ps at t ≡ true → Agrees all next t → Ready all x binding cs at t → assigns x t ≡ true → HasTarget all binding (references_among (sites cs at next t))
assigns_found all x binding ps cs at next nothing w agreed ready e = absurd (true≢false (sym e))
assigns_found all x binding ps cs at next (absent r) w agreed ready e = assigns_found all x binding ps cs (suc at) next r w agreed ready e
assigns_found all x binding ps cs at next (node k n a r) w agreed ready e =
    by (or_cases (assigns_at x k a (assigns x a)) (assigns x r) e)
    (assigns_found all x binding (place_below (ps at) k) (inside (cs at) next k a) 0 (next + opens_one k a) a (placed_below ps at k n a r w) agreed.1)
    (assigns_found all x binding ps cs (suc at) (next + scope_count (node k n a nothing)) r (placed_behind ps at k n a r w) agreed.2 ready.1)
  where
    of_first : OfNode all binding (cs at) next k n a → HasTarget all binding (references_among (sites cs at next (node k n a r)))
    of_first (inl g) = stands_in (λ s h. reference_first s (own_sites (cs at) n k a) (sites (inside (cs at) next k a) 0 (next + opens_one k a) a) (sites cs (suc at) (next + scope_count (node k n a nothing)) r) h) g
    of_first (inr g) = stands_in (λ s h. reference_second s (own_sites (cs at) n k a) (sites (inside (cs at) next k a) 0 (next + opens_one k a) a) (sites cs (suc at) (next + scope_count (node k n a nothing)) r) h) g

    by : (assigns_at x k a (assigns x a) ≡ true) ⊎ (assigns x r ≡ true) → OfBelow all x binding (cs at) next k a → (assigns x r ≡ true → HasTarget all binding (references_among (sites cs (suc at) (next + scope_count (node k n a nothing)) r)))
        → HasTarget all binding (references_among (sites cs at next (node k n a r)))
    by (inl g) below rest = of_first (of_node all x binding (ps at) (cs at) next k n a (placed_here ps at k n a r w) (placed_below ps at k n a r w) agreed.0 (ready.0 (at_refers x k a (λ f. assigns_refer x a f) g)) below g)
    by (inr g) below rest = stands_in (λ s h. reference_third s (own_sites (cs at) n k a) (sites (inside (cs at) next k a) 0 (next + opens_one k a) a) (sites cs (suc at) (next + scope_count (node k n a nothing)) r) h) (rest g)

-- the program's own scope
pub nothing_assigns : (source : SourceType) (n : Note) (a : Forest) (x : Text) → is_well_placed (node (Kind.Program source) n a nothing) ≡ true → is_declared (declarations_of (node (Kind.Program source) n a nothing)) (body_of 0) x ≡ true
    → NothingAssigns (node (Kind.Program source) n a nothing) (named_in x (body_of 0)) → assigns x a ≡ false
nothing_assigns source n a x placed declared none =
    let t = node (Kind.Program source) n a nothing in
    let cs = inside outermost_context 0 (Kind.Program source) a in
    let h = holds t (entered outermost (Kind.Program source) a) cs 0 1 a placed (program refl) in
    false_from_ne_true (assigns x a) (λ g.
    let f = assigns_found (declarations_of t) x (named_in x (body_of 0)) h.places cs 0 1 a h.placed h.agreed
    (ready_from (declarations_of t) x (named_in x (body_of 0)) cs 0 a (λ i l. subst (BindsIn (declarations_of t) x (named_in x (body_of 0))) (sym (h.tops i).is) (bound_first (declarations_of t) x (body_of 0) (h.tops i).rest declared))) g in
    none f.reference (h.references f.reference f.stands) f.binds f.role f.assigns_so)
