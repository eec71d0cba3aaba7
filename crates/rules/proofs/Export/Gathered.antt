-- What a row declares in one layer, all of it or what lies below its exports alone: names with their marks, and no numbers of scopes.
use Rattle.std.proofs.Common.{◌≡◌, ◌∙◌, ◌<◌, ◌⊎◌, inl, inr, ℕ, suc, ◌+◌, List, [], ◌++◌, Bool, true, false, ◌||◌, if◌then◌else◌, refl, sym, ap, ap₂, subst, arith}
use Rattle.js_syntax.specs.declared.node_kind.NodeKind.{NodeKind as Kind}
use Rattle.js_syntax.specs.declared.node_kind.NodeKind.TheVariants.{BindingName as binding_name, ReferenceName as reference_name, TargetName as target_name}
use Rattle.js_syntax.specs.Node.{Forest, Note, nothing, node, absent, joined}
use Rattle.scope_rules.specs.declared.layer.Layer.{Layer}
use Rattle.scope_rules.specs.Context.{Context, opens, inside}
use Rattle.scope_rules.specs.Site.{scope_site, BindingSite, scope_bits, name_sites, scope_sites, own_sites, opens_one, scope_count, bindings_among}
use Rattle.scope_laws.specs.Exact.{Among}
use Rattle.scope_laws.proofs.Among.{among_left, among_right, among_cases}
use Rattle.scope_counts.specs.Counts.{Decl, Aims, no_part, aims_inside, named, hoisted}
use Rattle.scope_counts.specs.Edits.{Even}
use Rattle.scope_counts.specs.Sites.{decls_in}
use Rattle.scope_counts.proofs.Layers.{aims_at, not_equal, aims_in_other}
use Rattle.scope_counts.proofs.Counting.{decls_at, at_joined, no_bindings, hoisted_are}
use Rattle.steps.specs.Naming.Standing.{is_export}
use Rattle.steps.proofs.Naming.Sites.{InThree, in_first, in_second, in_third, binding_in, binding_left, binding_second}
use Rattle.steps.proofs.Marked.Unexporting.{collected, all_collected, decl_of, among_decls}

abbrev pub gathered : (all : Bool) → (aims : ℕ → Aims) → (at : ℕ) → Forest → List Decl
gathered all aims at nothing = []
gathered all aims at (absent rest) = gathered all aims (suc at) rest
gathered all aims at (node k n below rest) = (if all then named (aims at) n k else []) ++ gathered (all || is_export k) (aims_inside no_part (aims at) k below) 0 below ++ gathered all aims (suc at) rest

-- ---- all of a row

pub all_gathered : (aims : ℕ → Aims) (at : ℕ) (t : Forest) → gathered true aims at t ≡ hoisted aims at t
all_gathered aims at nothing = refl
all_gathered aims at (absent rest) = all_gathered aims (suc at) rest
all_gathered aims at (node k n below rest) = ap₂ (λ ds es. named (aims at) n k ++ ds ++ es) (all_gathered (aims_inside no_part (aims at) k below) 0 below) (all_gathered aims (suc at) rest)

pub gathered_hoisted : (all : Bool) (aims : ℕ → Aims) (at : ℕ) (t : Forest) (d : Decl) → Among d (gathered all aims at t) → Among d (hoisted aims at t)
gathered_hoisted true aims at t d h = subst (Among d) (all_gathered aims at t) h
gathered_hoisted false aims at nothing d h = h
gathered_hoisted false aims at (absent rest) d h = gathered_hoisted false aims (suc at) rest d h
gathered_hoisted false aims at (node k n below rest) d h =
    let own = named (aims at) n k in
    let inner = hoisted (aims_inside no_part (aims at) k below) 0 below in
    let outer = hoisted aims (suc at) rest in
    elim (among_cases d (gathered (false || is_export k) (aims_inside no_part (aims at) k below) 0 below) (gathered false aims (suc at) rest) h) [
      | inl g ↦ among_left d (own ++ inner) outer (among_right d own inner (gathered_hoisted (false || is_export k) (aims_inside no_part (aims at) k below) 0 below d g))
      | inr g ↦ among_right d (own ++ inner) outer (gathered_hoisted false aims (suc at) rest d g)
    ]

-- ---- by numbers of scopes

pub are_gathered : (l : Layer) (all : Bool) (cs : ℕ → Context) (aims : ℕ → Aims) (at next : ℕ) (t : Forest) → l.scope < next → ((i : ℕ) → aims_at l (cs i) ≡ aims i) → decls_at l (collected all cs at next t) ≡ gathered all aims at t
are_gathered l true cs aims at next t h e = ap (decls_at l) (all_collected cs at next t) ∙ hoisted_are l cs aims at next t h e ∙ sym (all_gathered aims at t)
are_gathered l false cs aims at next nothing h e = refl
are_gathered l false cs aims at next (absent rest) h e = are_gathered l false cs aims (suc at) next rest h e
are_gathered l false cs aims at next (node k n below rest) h e =
    at_joined l (collected (false || is_export k) (inside (cs at) next k below) 0 (next + opens_one k below) below) (collected false cs (suc at) (next + scope_count (node k n below nothing)) rest)
    ∙ ap₂ (λ ds es. ds ++ es)
    (are_gathered l (false || is_export k) (inside (cs at) next k below) (aims_inside no_part (aims at) k below) 0 (next + opens_one k below) below (Prim.omega (arith, h))
    (aims_in_other l (cs at) (aims at) next k below (e at) (not_equal next l.scope (λ s. Prim.omega (arith, s, h)))))
    (are_gathered l false cs aims (suc at) (next + scope_count (node k n below nothing)) rest (Prim.omega (arith, h)) e)

pub is_gathered : (b : BindingSite) (all : Bool) (cs : ℕ → Context) (aims : ℕ → Aims) (at next : ℕ) (t : Forest) → b.layer.scope < next → ((i : ℕ) → aims_at b.layer (cs i) ≡ aims i) → Among b (bindings_among (collected all cs at next t))
    → Among (decl_of b) (gathered all aims at t)
is_gathered b all cs aims at next t h e g = subst (Among (decl_of b)) (are_gathered b.layer all cs aims at next t h e) (among_decls (bindings_among (collected all cs at next t)) b g)

-- the name of a node
own_named : (l : Layer) (c : Context) (n : Note) (k : Kind) → decls_at l (name_sites c n k) ≡ named (aims_at l c) n k
own_named l c n (binding_name x) = refl
own_named l c n (reference_name x) = refl
own_named l c n (target_name x) = refl
own_named l c n k = refl

own_decls : (l : Layer) (c : Context) (n : Note) (k : Kind) (t : Forest) → decls_at l (own_sites c n k t) ≡ named (aims_at l c) n k
own_decls l c n k t =
    at_joined l (scope_sites c n k t) (name_sites c n k)
    ∙ ap₂ (λ ds es. ds ++ es) (ap (decls_in l) (no_bindings (opens k t) (scope_site (record { id = n.id; parent = c.scope; flags = scope_bits c k t })) refl)) (own_named l c n k)

pub own_gathered : (b : BindingSite) (all : Bool) (c : Context) (a : Aims) (n : Note) (k : Kind) (below : Forest) → aims_at b.layer c ≡ a → Among b (bindings_among (if all then own_sites c n k below else []))
    → Among (decl_of b) (if all then named a n k else [])
own_gathered b true c a n k below e h = subst (Among (decl_of b)) (own_decls b.layer c n k below ∙ ap (λ x. named x n k) e) (among_decls (bindings_among (own_sites c n k below)) b h)
own_gathered b false c a n k below e h = h

-- ---- a node, and the rest of its row

module _ (d : Decl) (all : Bool) (aims : ℕ → Aims) (at : ℕ) (k : Kind) (n : Note) (below rest : Forest) where
  abbrev own : List Decl
  own = if all then named (aims at) n k else []

  abbrev inner : List Decl
  inner = gathered (all || is_export k) (aims_inside no_part (aims at) k below) 0 below

  abbrev outer : List Decl
  outer = gathered all aims (suc at) rest

  pub in_own : Among d own → Among d (gathered all aims at (node k n below rest))
  in_own h = among_left d (own ++ inner) outer (among_left d own inner h)

  pub in_inner : Among d inner → Among d (gathered all aims at (node k n below rest))
  in_inner h = among_left d (own ++ inner) outer (among_right d own inner h)

  pub in_outer : Among d outer → Among d (gathered all aims at (node k n below rest))
  in_outer h = among_right d (own ++ inner) outer h

  pub in_node : Among d (gathered all aims at (node k n below nothing)) → Among d (gathered all aims at (node k n below rest))
  in_node h = elim (among_cases d (own ++ inner) [] h) [
    | inl g ↦ among_left d (own ++ inner) outer g
    | inr g ↦ absurd g
  ]

pub first_or_later : (b : BindingSite) (all : Bool) (cs : ℕ → Context) (at next : ℕ) (k : Kind) (n : Note) (below rest : Forest) → Among b (bindings_among (collected all cs at next (node k n below rest)))
    → Among b (bindings_among (collected all cs at next (node k n below nothing))) ⊎ Among b (bindings_among (collected all cs (suc at) (next + scope_count (node k n below nothing)) rest))
first_or_later b all cs at next k n below rest h =
    by
    (binding_in b (if all then own_sites (cs at) n k below else []) (collected (all || is_export k) (inside (cs at) next k below) 0 (next + opens_one k below) below)
    (collected all cs (suc at) (next + scope_count (node k n below nothing)) rest) h)
  where
    by : InThree b (bindings_among (if all then own_sites (cs at) n k below else [])) (bindings_among (collected (all || is_export k) (inside (cs at) next k below) 0 (next + opens_one k below) below))
        (bindings_among (collected all cs (suc at) (next + scope_count (node k n below nothing)) rest))
        → Among b (bindings_among (collected all cs at next (node k n below nothing))) ⊎ Among b (bindings_among (collected all cs (suc at) (next + scope_count (node k n below nothing)) rest))
    by (in_first g) =
        let own = if all then own_sites (cs at) n k below else [] in
        let inner = collected (all || is_export k) (inside (cs at) next k below) 0 (next + opens_one k below) below in
        inl (binding_left b (own ++ inner) [] (binding_left b own inner g))
    by (in_second g) = inl (binding_second b (if all then own_sites (cs at) n k below else []) (collected (all || is_export k) (inside (cs at) next k below) 0 (next + opens_one k below) below) [] g)
    by (in_third g) = inr g

-- ---- rows in which it doesn't matter which place

pub gathered_even : (all : Bool) (aims : ℕ → Aims) → Even aims → (i j : ℕ) (t : Forest) → gathered all aims i t ≡ gathered all aims j t
gathered_even all aims even i j nothing = refl
gathered_even all aims even i j (absent t) = gathered_even all aims even (suc i) (suc j) t
gathered_even all aims even i j (node k n b t) =
    ap₂ (λ (a : Aims) ds. (if all then named a n k else []) ++ gathered (all || is_export k) (aims_inside no_part a k b) 0 b ++ ds) (even i j) (gathered_even all aims even (suc i) (suc j) t)

pub joined_cases : (d : Decl) (all : Bool) (aims : ℕ → Aims) → Even aims → (at : ℕ) (t u : Forest) → Among d (gathered all aims at (joined t u)) → Among d (gathered all aims at t) ⊎ Among d (gathered all aims 0 u)
joined_cases d all aims even at nothing u h = inr (subst (Among d) (gathered_even all aims even at 0 u) h)
joined_cases d all aims even at (absent t) u h = joined_cases d all aims even (suc at) t u h
joined_cases d all aims even at (node k n b t) u h =
    let front = (if all then named (aims at) n k else []) ++ gathered (all || is_export k) (aims_inside no_part (aims at) k b) 0 b in
    elim (among_cases d front (gathered all aims (suc at) (joined t u)) h) [
      | inl g ↦ inl (among_left d front (gathered all aims (suc at) t) g)
      | inr g ↦ elim (joined_cases d all aims even (suc at) t u g) [
        | inl f ↦ inl (among_right d front (gathered all aims (suc at) t) f)
        | inr f ↦ inr f
      ]
    ]
