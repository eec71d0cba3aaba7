-- The entry of a scope's node declares the names that the tree's declarations have there.
use Rattle.std.proofs.Common.{◌≡◌, ◌∙◌, ◌⊎◌, ◌≤◌, ◌<◌, inl, inr, ℕ, suc, ◌+◌, Bool, true, ◌||◌, if◌then◌else◌, List, [], ◌∷◌, refl, sym, ap, subst, true≢false, arith}
use Rattle.std.proofs.lemmas.Bool.{and_parts}
use Rattle.js_syntax.specs.declared.node_kind.NodeKind.{NodeKind as Kind}
use Rattle.js_syntax.specs.declared.scalar.SourceType.{SourceType}
use Rattle.js_syntax.specs.Node.{Forest, nothing, node, absent, Note}
use Rattle.form_rules.specs.Context.{is_module, is_strict_list}
use Rattle.js_meaning.specs.Value.{Text, this_name}
use Rattle.js_meaning.specs.Scope.{decl, ready, all_so, var_names, lexical}
use Rattle.steps.specs.Names.{is_among, names_declared}
use Rattle.scope_rules.specs.declared.layer.Layer.{Layer}
use Rattle.scope_rules.specs.Context.{Context, opens, inside, body_of, in_body, outermost}
use Rattle.scope_rules.specs.Site.{Site, BindingSite, own_sites, opens_one, scope_count, sites, sites_of, bindings_among}
use Rattle.scope_laws.specs.Exact.{Among}
use Rattle.scope_laws.proofs.Bindings.{Declares, declares}
use Rattle.steps.specs.Naming.Placed.{Place, program_list, others, place_below, well_placed, has_plain_values, is_well_placed}
use Rattle.steps.specs.Naming.Agreeing.{names_of_scope, AgreesAt, Agrees}
use Rattle.steps.proofs.Naming.Lists.{declared_left, declared_right, declared_so}
use Rattle.steps.proofs.Naming.Values.{values_below, values_behind}
use Rattle.steps.proofs.Naming.Meeting.{Meets, Same, Gathered, of_block, of_variables, of_declared, of_imported, gather}
use Rattle.steps.proofs.Naming.Seeing.{Seen, in_scope, around, seen}
use Rattle.steps.proofs.Naming.Sites.{InThree, in_first, in_second, in_third, binding_in, own, placed_here, placed_below, placed_behind, declared_at, Bounded, bounded_more, here_bounded, meets_bounded, inside_bounded, declared_before}

-- all declarations in the scopes of a row are those of the row
abbrev pub Local : (all : List BindingSite) → (cs : ℕ → Context) → (at next : ℕ) → Forest → Type 0
Local all cs at next t = (b : BindingSite) → Among b all → next ≤ b.layer.scope → b.layer.scope < next + scope_count t → Among b (bindings_among (sites cs at next t))

abbrev Below : (cs : ℕ → Context) → (at next : ℕ) → Kind → (a : Forest) → List Site
Below cs at next k a = sites (inside (cs at) next k a) 0 (next + opens_one k a) a

abbrev Behind : (cs : ℕ → Context) → (at next : ℕ) → Kind → Note → (a r : Forest) → List Site
Behind cs at next k n a r = sites cs (suc at) (next + scope_count (node k n a nothing)) r

-- declared in a context around, and so not in a scope of the row
own_before : (ps : ℕ → Place) (cs : ℕ → Context) (at next : ℕ) (k : Kind) (n : Note) (a r : Forest) (b : BindingSite) → well_placed ps at (node k n a r) ≡ true → ((i : ℕ) → Bounded next (cs i))
    → Among b (bindings_among (own_sites (cs at) n k a)) → b.layer.scope < next
own_before ps cs at next k n a r b w h g = here_bounded (ps at) next (cs at) k a b (h at) (own (ps at) (cs at) n k a b (placed_here ps at k n a r w) g)

behind_apart : (ps : ℕ → Place) (cs : ℕ → Context) (at next : ℕ) (k : Kind) (n : Note) (a r : Forest) (b : BindingSite) → well_placed ps at (node k n a r) ≡ true → has_plain_values (node k n a r) ≡ true → ((i : ℕ) → Bounded next (cs i))
    → Among b (bindings_among (Behind cs at next k n a r)) → (next + scope_count (node k n a nothing) ≤ b.layer.scope) ⊎ (b.layer.scope < next)
behind_apart ps cs at next k n a r b w v h g = elim (declared_at ps cs (suc at) (next + scope_count (node k n a nothing)) r b (placed_behind ps at k n a r w) (values_behind k n a r v) g) [
  | inl l ↦ inl l
  | inr m ↦ inr (meets_bounded ps cs next (suc at) r b h m)
]

below_before : (ps : ℕ → Place) (cs : ℕ → Context) (at next : ℕ) (k : Kind) (n : Note) (a r : Forest) (b : BindingSite) → well_placed ps at (node k n a r) ≡ true → ((i : ℕ) → Bounded next (cs i))
    → Among b (bindings_among (Below cs at next k a)) → b.layer.scope < (next + opens_one k a) + scope_count a
below_before ps cs at next k n a r b w h g =
    declared_before (place_below (ps at) k) (inside (cs at) next k a) 0 (next + opens_one k a) a b (placed_below ps at k n a r w) (λ i. inside_bounded (ps at) (cs at) next k a i (placed_here ps at k n a r w) (h at)) g

in_node : (cs : ℕ → Context) (at next : ℕ) (k : Kind) (n : Note) (a r : Forest) (b : BindingSite) → Among b (bindings_among (sites cs at next (node k n a r)))
    → InThree b (bindings_among (own_sites (cs at) n k a)) (bindings_among (Below cs at next k a)) (bindings_among (Behind cs at next k n a r))
in_node cs at next k n a r b h = binding_in b (own_sites (cs at) n k a) (Below cs at next k a) (Behind cs at next k n a r) h

local_below : (all : List BindingSite) (ps : ℕ → Place) (cs : ℕ → Context) (at next : ℕ) (k : Kind) (n : Note) (a r : Forest) → well_placed ps at (node k n a r) ≡ true → has_plain_values (node k n a r) ≡ true → ((i : ℕ) → Bounded next (cs i))
    → Local all cs at next (node k n a r) → Local all (inside (cs at) next k a) 0 (next + opens_one k a) a
local_below all ps cs at next k n a r w v h local b g low high = by (in_node cs at next k n a r b (local b g (Prim.omega (arith, low)) (Prim.omega (arith, high))))
  where
    by : InThree b (bindings_among (own_sites (cs at) n k a)) (bindings_among (Below cs at next k a)) (bindings_among (Behind cs at next k n a r)) → Among b (bindings_among (Below cs at next k a))
    by (in_first f) = absurd (Prim.omega (arith, low, own_before ps cs at next k n a r b w h f))
    by (in_second f) = f
    by (in_third f) = elim (behind_apart ps cs at next k n a r b w v h f) [ inl l ↦ absurd (Prim.omega (arith, high, l)) | inr l ↦ absurd (Prim.omega (arith, low, l)) ]

local_behind : (all : List BindingSite) (ps : ℕ → Place) (cs : ℕ → Context) (at next : ℕ) (k : Kind) (n : Note) (a r : Forest) → well_placed ps at (node k n a r) ≡ true → has_plain_values (node k n a r) ≡ true → ((i : ℕ) → Bounded next (cs i))
    → Local all cs at next (node k n a r) → Local all cs (suc at) (next + scope_count (node k n a nothing)) r
local_behind all ps cs at next k n a r w v h local b g low high = by (in_node cs at next k n a r b (local b g (Prim.omega (arith, low)) (Prim.omega (arith, high))))
  where
    by : InThree b (bindings_among (own_sites (cs at) n k a)) (bindings_among (Below cs at next k a)) (bindings_among (Behind cs at next k n a r)) → Among b (bindings_among (Behind cs at next k n a r))
    by (in_first f) = absurd (Prim.omega (arith, low, own_before ps cs at next k n a r b w h f))
    by (in_second f) = absurd (Prim.omega (arith, low, below_before ps cs at next k n a r b w h f))
    by (in_third f) = f

named : (xs : List Text) (y x : Text) → y ≡ x → is_among xs y ≡ true → is_among xs x ≡ true
named xs y x e h = subst (λ z. is_among xs z ≡ true) e h

one_opened : (k : Kind) (a : Forest) → opens k a ≡ true → opens_one k a ≡ 1
one_opened k a e = ap (λ (c : Bool). let n : ℕ = if c then 1 else 0 in n) e

agrees_at : (all : List BindingSite) (ps : ℕ → Place) (cs : ℕ → Context) (at next : ℕ) (k : Kind) (n : Note) (a r : Forest) → well_placed ps at (node k n a r) ≡ true → has_plain_values (node k n a r) ≡ true → ((i : ℕ) → Bounded next (cs i))
    → Local all cs at next (node k n a r) → opens k a ≡ true → AgreesAt all next k a
agrees_at all ps cs at next k n a r w v h local o l x is e = of_site (declares all l x e)
  where
    of_seen : (b : BindingSite) → b.name ≡ x → b.layer.scope ≡ next → Seen (ps at) (cs at) next k a b → is_among (names_of_scope k a) x ≡ true
    of_seen b same there (in_scope f g i) = named (names_of_scope k a) b.name x same i
    of_seen b same there (around g) = absurd (Prim.omega (arith, there, here_bounded (ps at) next (cs at) k a b (h at) g))

    of_below : (b : BindingSite) → b.name ≡ x → b.layer.scope ≡ next → (next + opens_one k a ≤ b.layer.scope) ⊎ Meets (place_below (ps at) k) (inside (cs at) next k a) 0 a b → is_among (names_of_scope k a) x ≡ true
    of_below b same there (inl low) = absurd (Prim.omega (arith, there, low, one_opened k a o))
    of_below b same there (inr m) = of_seen b same there (seen (ps at) (cs at) next k a b (placed_here ps at k n a r w) (placed_below ps at k n a r w) (values_below k n a r v) m)

    by : (b : BindingSite) → b.name ≡ x → b.layer.scope ≡ next → InThree b (bindings_among (own_sites (cs at) n k a)) (bindings_among (Below cs at next k a)) (bindings_among (Behind cs at next k n a r)) → is_among (names_of_scope k a) x ≡ true
    by b same there (in_first f) = absurd (Prim.omega (arith, there, own_before ps cs at next k n a r b w h f))
    by b same there (in_second f) = of_below b same there (declared_at (place_below (ps at) k) (inside (cs at) next k a) 0 (next + opens_one k a) a b (placed_below ps at k n a r w) (values_below k n a r v) f)
    by b same there (in_third f) = elim (behind_apart ps cs at next k n a r b w v h f) [
      | inl low ↦ absurd (Prim.omega (arith, there, low, one_opened k a o))
      | inr low ↦ absurd (Prim.omega (arith, there, low))
    ]

    of_site : Declares all l x → is_among (names_of_scope k a) x ≡ true
    of_site d =
        let there = ap (λ (m : Layer). m.scope) d.layer ∙ is in
        by d.site d.name there (in_node cs at next k n a r d.site (local d.site d.stands (Prim.omega (arith, there)) (Prim.omega (arith, there, one_opened k a o))))

pub agrees : (all : List BindingSite) (ps : ℕ → Place) (cs : ℕ → Context) (at next : ℕ) (t : Forest) → well_placed ps at t ≡ true → has_plain_values t ≡ true → ((i : ℕ) → Bounded next (cs i)) → Local all cs at next t → Agrees all next t
agrees all ps cs at next nothing w v h local = tt
agrees all ps cs at next (absent r) w v h local = agrees all ps cs (suc at) next r w v h local
agrees all ps cs at next (node k n a r) w v h local = (
  agrees_at all ps cs at next k n a r w v h local,
  agrees all (place_below (ps at) k) (inside (cs at) next k a) 0 (next + opens_one k a) a (placed_below ps at k n a r w) (values_below k n a r v) (λ i. inside_bounded (ps at) (cs at) next k a i (placed_here ps at k n a r w) (h at)) (local_below all ps cs at next k n a r w v h local),
  agrees all ps cs (suc at) (next + scope_count (node k n a nothing)) r (placed_behind ps at k n a r w) (values_behind k n a r v) (λ i. bounded_more next (next + scope_count (node k n a nothing)) (cs i) (Prim.omega arith) (h i)) (local_behind all ps cs at next k n a r w v h local),
)

-- ---- a whole program

same_program : (strict : Bool) → Same (λ i. in_body outermost 0 strict) 0 (body_of 0) (body_of 0) (body_of 0)
same_program strict = record { in_block = λ i l. refl; in_variables = λ i l. refl; as_declared = λ i l. refl }

in_program : (source : SourceType) (strict : Bool) (a : Forest) (b : BindingSite) → Meets (λ i. program_list) (λ i. in_body outermost 0 strict) 0 a b → is_among (names_declared (Kind.Program source) a) b.name ≡ true
in_program source strict a b h = by (gather (λ i. program_list) (λ i. in_body outermost 0 strict) 0 (body_of 0) (body_of 0) (body_of 0) a b (same_program strict) h)
  where
    by : Gathered (λ i. program_list) 0 (body_of 0) (body_of 0) (body_of 0) a b → is_among (names_declared (Kind.Program source) a) b.name ≡ true
    by (of_block i l t e g) = declared_right (decl this_name ready ∷ all_so ready (var_names a)) (lexical a) b.name g
    by (of_variables i l t e g) = declared_left (decl this_name ready ∷ all_so ready (var_names a)) (lexical a) b.name (declared_right (decl this_name ready ∷ []) (all_so ready (var_names a)) b.name (declared_so ready (var_names a) b.name g))
    by (of_declared i l t e g) = absurd (true≢false (sym t))
    by (of_imported i l t e g) = absurd (true≢false (sym t))

pub program_bounded : (strict : Bool) → Bounded 1 (in_body outermost 0 strict)
program_bounded strict = record { block = Prim.omega arith; variables = Prim.omega arith; declares = Prim.omega arith }

program_agrees : (source : SourceType) (n : Note) (a : Forest) → well_placed (λ i. program_list) 0 a ≡ true → has_plain_values a ≡ true → Agrees (bindings_among (sites_of (node (Kind.Program source) n a nothing))) 0 (node (Kind.Program source) n a nothing)
program_agrees source n a w v = (λ o. at_program, inner, tt)
  where
    all : List BindingSite
    all = bindings_among (sites_of (node (Kind.Program source) n a nothing))

    strict : Bool
    strict = is_module source || is_strict_list a

    by : {b : BindingSite} → InThree b (bindings_among (own_sites outermost n (Kind.Program source) a)) (bindings_among (sites (λ i. in_body outermost 0 strict) 0 1 a)) (bindings_among []) → Among b (bindings_among (sites (λ i. in_body outermost 0 strict) 0 1 a))
    by (in_first h) = absurd h
    by (in_second h) = h
    by (in_third h) = absurd h

    is_below : (b : BindingSite) → Among b all → Among b (bindings_among (sites (λ i. in_body outermost 0 strict) 0 1 a))
    is_below b h = by (binding_in b (own_sites outermost n (Kind.Program source) a) (sites (λ i. in_body outermost 0 strict) 0 1 a) [] h)

    of_site : (b : BindingSite) (x : Text) → b.name ≡ x → b.layer.scope ≡ 0 → (1 ≤ b.layer.scope) ⊎ Meets (λ i. program_list) (λ i. in_body outermost 0 strict) 0 a b → is_among (names_declared (Kind.Program source) a) x ≡ true
    of_site b x same there (inl low) = absurd (Prim.omega (arith, there, low))
    of_site b x same there (inr m) = named (names_declared (Kind.Program source) a) b.name x same (in_program source strict a b m)

    at_program : AgreesAt all 0 (Kind.Program source) a
    at_program l x is e =
        let d = declares all l x e in
        of_site d.site x d.name (ap (λ (m : Layer). m.scope) d.layer ∙ is) (declared_at (λ i. program_list) (λ i. in_body outermost 0 strict) 0 1 a d.site w v (is_below d.site d.stands))

    inner : Agrees all 1 a
    inner = agrees all (λ i. program_list) (λ i. in_body outermost 0 strict) 0 1 a w v (λ i. program_bounded strict) (λ b h low high. is_below b h)

pub well_placed_agrees : (t : Forest) → is_well_placed t ≡ true → Agrees (bindings_among (sites_of t)) 0 t
well_placed_agrees (node (Kind.Program source) n a nothing) w =
    let parts = and_parts (well_placed (place_below others (Kind.Program source)) 0 a) (has_plain_values a) w in
    program_agrees source n a parts.0 parts.1
well_placed_agrees t w = absurd (true≢false (sym w))
