-- The declarations of a row: in which scopes they are.
use Rattle.std.proofs.Common.{◌≡◌, ◌∙◌, ◌⊎◌, ◌≤◌, ◌<◌, inl, inr, ℕ, suc, ◌+◌, Bool, true, false, ◌++◌, ◌||◌, if◌then◌else◌, ◌==◌, List, [], ◌∷◌, bytes_eq, refl, sym, ap, subst, arith}
use Rattle.std.proofs.lemmas.Bool.{and_parts, or_left}
use Rattle.std.proofs.lemmas.Slice.Eq.{bytes_eq-Decides}
use Rattle.js_syntax.specs.declared.node_kind.NodeKind.{NodeKind as Kind}
use Rattle.js_syntax.specs.Node.{Forest, nothing, node, absent, Note}
use Rattle.js_syntax.specs.declared.kind.VariableKind.{VariableKind}
use Rattle.js_syntax.specs.declared.kind.VariableKind.TheVariants as variable
use Rattle.js_syntax.specs.declared.kind.FunctionKind.{FunctionKind}
use Rattle.js_syntax.specs.declared.kind.FunctionKind.TheVariants as function_kind
use Rattle.form_rules.specs.Context.{is_strict_function}
use Rattle.scope_rules.specs.declared.layer.Layer.{Layer}
use Rattle.scope_rules.specs.Context.{Context, inside, body_of, in_block, below_it, declares, at_function_name, at_parameters, in_function, in_variables}
use Rattle.scope_rules.specs.Site.{Site, scope_site, binding_site, reference_site, BindingSite, ReferenceSite, own_sites, opens_one, scope_count, sites, bindings_among, references_among}
use Rattle.scope_laws.specs.Exact.{Among}
use Rattle.scope_laws.proofs.Around.{references_append}
use Rattle.scope_laws.proofs.Among.{among_left, among_right, among_cases}
use Rattle.steps.specs.Naming.Placed.{a_name, Place, sort_of, place_below, fits, well_placed, has_plain_values}
use Rattle.steps.proofs.Naming.Lists.{either}
use Rattle.steps.proofs.Naming.Taking.{names_fit, never_fits, Kept, kept}
use Rattle.steps.proofs.Naming.Values.{values_below, values_behind}
use Rattle.steps.proofs.Naming.Meeting.{Here, in_block as here_in_block, in_variables as here_in_variables, as_declared as here_as_declared, as_imported as here_as_imported, Meets}
use Rattle.steps.proofs.Naming.Seeing.{Seen, in_scope, around, seen}

-- ---- lists of sites, of which a node has three

pub bindings_append : (xs ys : List Site) → bindings_among (xs ++ ys) ≡ bindings_among xs ++ bindings_among ys
bindings_append [] ys = refl
bindings_append (scope_site s ∷ xs) ys = bindings_append xs ys
bindings_append (binding_site s ∷ xs) ys = ap (λ zs. s ∷ zs) (bindings_append xs ys)
bindings_append (reference_site s ∷ xs) ys = bindings_append xs ys

pub data InThree {X : Type 0} (x : X) (xs ys zs : List X) : Type 0 where
  in_first : Among x xs → InThree x xs ys zs
  in_second : Among x ys → InThree x xs ys zs
  in_third : Among x zs → InThree x xs ys zs

split : {X : Type 0} (x : X) (xs ys zs : List X) → Among x ((xs ++ ys) ++ zs) → InThree x xs ys zs
split x xs ys zs h = elim (among_cases x (xs ++ ys) zs h) [
  | inl g ↦ elim (among_cases x xs ys g) [ inl f ↦ in_first f | inr f ↦ in_second f ]
  | inr g ↦ in_third g
]

pub binding_in : (b : BindingSite) (xs ys zs : List Site) → Among b (bindings_among ((xs ++ ys) ++ zs)) → InThree b (bindings_among xs) (bindings_among ys) (bindings_among zs)
binding_in b xs ys zs h = split b (bindings_among xs) (bindings_among ys) (bindings_among zs) (subst (Among b) (bindings_append (xs ++ ys) zs ∙ ap (λ us. us ++ bindings_among zs) (bindings_append xs ys)) h)

bindings_three : (xs ys zs : List Site) → bindings_among ((xs ++ ys) ++ zs) ≡ (bindings_among xs ++ bindings_among ys) ++ bindings_among zs
bindings_three xs ys zs = bindings_append (xs ++ ys) zs ∙ ap (λ us. us ++ bindings_among zs) (bindings_append xs ys)

pub binding_left : (b : BindingSite) (xs ys : List Site) → Among b (bindings_among xs) → Among b (bindings_among (xs ++ ys))
binding_left b xs ys h = subst (Among b) (sym (bindings_append xs ys)) (among_left b (bindings_among xs) (bindings_among ys) h)

pub binding_right : (b : BindingSite) (xs ys : List Site) → Among b (bindings_among ys) → Among b (bindings_among (xs ++ ys))
binding_right b xs ys h = subst (Among b) (sym (bindings_append xs ys)) (among_right b (bindings_among xs) (bindings_among ys) h)

pub binding_second : (b : BindingSite) (xs ys zs : List Site) → Among b (bindings_among ys) → Among b (bindings_among ((xs ++ ys) ++ zs))
binding_second b xs ys zs h = subst (Among b) (sym (bindings_three xs ys zs)) (among_left b (bindings_among xs ++ bindings_among ys) (bindings_among zs) (among_right b (bindings_among xs) (bindings_among ys) h))

pub binding_third : (b : BindingSite) (xs ys zs : List Site) → Among b (bindings_among zs) → Among b (bindings_among ((xs ++ ys) ++ zs))
binding_third b xs ys zs h = subst (Among b) (sym (bindings_three xs ys zs)) (among_right b (bindings_among xs ++ bindings_among ys) (bindings_among zs) h)

references_three : (xs ys zs : List Site) → references_among ((xs ++ ys) ++ zs) ≡ (references_among xs ++ references_among ys) ++ references_among zs
references_three xs ys zs = references_append (xs ++ ys) zs ∙ ap (λ us. us ++ references_among zs) (references_append xs ys)

pub reference_first : (r : ReferenceSite) (xs ys zs : List Site) → Among r (references_among xs) → Among r (references_among ((xs ++ ys) ++ zs))
reference_first r xs ys zs h = subst (Among r) (sym (references_three xs ys zs)) (among_left r (references_among xs ++ references_among ys) (references_among zs) (among_left r (references_among xs) (references_among ys) h))

pub reference_second : (r : ReferenceSite) (xs ys zs : List Site) → Among r (references_among ys) → Among r (references_among ((xs ++ ys) ++ zs))
reference_second r xs ys zs h = subst (Among r) (sym (references_three xs ys zs)) (among_left r (references_among xs ++ references_among ys) (references_among zs) (among_right r (references_among xs) (references_among ys) h))

pub reference_third : (r : ReferenceSite) (xs ys zs : List Site) → Among r (references_among zs) → Among r (references_among ((xs ++ ys) ++ zs))
reference_third r xs ys zs h = subst (Among r) (sym (references_three xs ys zs)) (among_right r (references_among xs ++ references_among ys) (references_among zs) h)

-- ---- in a scope of the row, or met in its contexts

pub never_stands : {X : Type 0} (p : Place) → fits p (sort_of Kind.StaticBlock) ≡ true → X
never_stands p e = absurd (never_fits p e)

pub own : (p : Place) (c : Context) (n : Note) (k : Kind) (a : Forest) (b : BindingSite) → fits p (sort_of k) ≡ true → Among b (bindings_among (own_sites c n k a)) → Here p c k a b
own p c n (Kind.BindingName x) a b f (inl e) =
    here_as_declared (names_fit p a_name f refl) (ap (λ (s : BindingSite). s.layer) (sym e)) (or_left (bytes_eq x b.name) false ((bytes_eq-Decides x b.name).1 (ap (λ (s : BindingSite). s.name) e)))
own p c n (Kind.BindingName x) a b f (inr h) = absurd h
own p c n (Kind.PropertyDefinition is_static key) a b f h = never_stands p f
own p c n k a b f h = absurd h

pub placed_here : (ps : ℕ → Place) (at : ℕ) (k : Kind) (n : Note) (a r : Forest) → well_placed ps at (node k n a r) ≡ true → fits (ps at) (sort_of k) ≡ true
placed_here ps at k n a r w = (and_parts (fits (ps at) (sort_of k)) _ w).0

pub placed_below : (ps : ℕ → Place) (at : ℕ) (k : Kind) (n : Note) (a r : Forest) → well_placed ps at (node k n a r) ≡ true → well_placed (place_below (ps at) k) 0 a ≡ true
placed_below ps at k n a r w = (and_parts (well_placed (place_below (ps at) k) 0 a) (well_placed ps (suc at) r) (and_parts (fits (ps at) (sort_of k)) _ w).1).0

pub placed_behind : (ps : ℕ → Place) (at : ℕ) (k : Kind) (n : Note) (a r : Forest) → well_placed ps at (node k n a r) ≡ true → well_placed ps (suc at) r ≡ true
placed_behind ps at k n a r w = (and_parts (well_placed (place_below (ps at) k) 0 a) (well_placed ps (suc at) r) (and_parts (fits (ps at) (sort_of k)) _ w).1).1

pub declared_at : (ps : ℕ → Place) (cs : ℕ → Context) (at next : ℕ) (t : Forest) (b : BindingSite) → well_placed ps at t ≡ true → has_plain_values t ≡ true → Among b (bindings_among (sites cs at next t)) → (next ≤ b.layer.scope) ⊎ Meets ps cs at t b
declared_at ps cs at next nothing b w v h = absurd h
declared_at ps cs at next (absent r) b w v h = declared_at ps cs (suc at) next r b w v h
declared_at ps cs at next (node k n a r) b w v h =
    by (binding_in b (own_sites (cs at) n k a) (sites (inside (cs at) next k a) 0 (next + opens_one k a) a) (sites cs (suc at) (next + scope_count (node k n a nothing)) r) h)
    (declared_at (place_below (ps at) k) (inside (cs at) next k a) 0 (next + opens_one k a) a b (placed_below ps at k n a r w) (values_below k n a r v))
    (declared_at ps cs (suc at) (next + scope_count (node k n a nothing)) r b (placed_behind ps at k n a r w) (values_behind k n a r v))
  where
    seen_so : Seen (ps at) (cs at) next k a b → (next ≤ b.layer.scope) ⊎ Meets ps cs at (node k n a r) b
    seen_so (in_scope o e g) = inl (Prim.omega (arith, e))
    seen_so (around g) = inr (inl g)

    of_below : (next + opens_one k a ≤ b.layer.scope) ⊎ Meets (place_below (ps at) k) (inside (cs at) next k a) 0 a b → (next ≤ b.layer.scope) ⊎ Meets ps cs at (node k n a r) b
    of_below (inl l) = inl (Prim.omega (arith, l))
    of_below (inr m) = seen_so (seen (ps at) (cs at) next k a b (placed_here ps at k n a r w) (placed_below ps at k n a r w) (values_below k n a r v) m)

    of_rest : (next + scope_count (node k n a nothing) ≤ b.layer.scope) ⊎ Meets ps cs (suc at) r b → (next ≤ b.layer.scope) ⊎ Meets ps cs at (node k n a r) b
    of_rest (inl l) = inl (Prim.omega (arith, l))
    of_rest (inr m) = inr (inr m)

    by : InThree b (bindings_among (own_sites (cs at) n k a)) (bindings_among (sites (inside (cs at) next k a) 0 (next + opens_one k a) a)) (bindings_among (sites cs (suc at) (next + scope_count (node k n a nothing)) r))
        → (Among b (bindings_among (sites (inside (cs at) next k a) 0 (next + opens_one k a) a)) → (next + opens_one k a ≤ b.layer.scope) ⊎ Meets (place_below (ps at) k) (inside (cs at) next k a) 0 a b)
        → (Among b (bindings_among (sites cs (suc at) (next + scope_count (node k n a nothing)) r)) → (next + scope_count (node k n a nothing) ≤ b.layer.scope) ⊎ Meets ps cs (suc at) r b)
        → (next ≤ b.layer.scope) ⊎ Meets ps cs at (node k n a r) b
    by (in_first g) below rest = inr (inl (own (ps at) (cs at) n k a b (placed_here ps at k n a r w) g))
    by (in_second g) below rest = of_below (below g)
    by (in_third g) below rest = of_rest (rest g)

-- ---- numbers

-- what is declared in a context is so in scopes with smaller numbers
pub record Bounded (m : ℕ) (c : Context) : Type 0 where
  pub block : c.block.scope < m
  pub variables : c.variables.scope < m
  pub declares : c.declaring.layer.scope < m

pub bounded_more : (m n : ℕ) (c : Context) → m ≤ n → Bounded m c → Bounded n c
bounded_more m n c l h = record { block = Prim.omega (arith, l, h.block); variables = Prim.omega (arith, l, h.variables); declares = Prim.omega (arith, l, h.declares) }

bounded_kept : (m n : ℕ) (d c : Context) → m ≤ n → Kept d c → Bounded m c → Bounded n d
bounded_kept m n d c l k h = record {
  block = Prim.omega (arith, l, h.block, ap (λ (x : Layer). x.scope) k.block);
  variables = Prim.omega (arith, l, h.variables, ap (λ (x : Layer). x.scope) k.variables);
  declares = Prim.omega (arith, l, h.declares, ap (λ (x : Layer). x.scope) k.declares);
}

pub here_bounded : (p : Place) (m : ℕ) (c : Context) (k : Kind) (a : Forest) (b : BindingSite) → Bounded m c → Here p c k a b → b.layer.scope < m
here_bounded p m c k a b h (here_in_block t e g) = Prim.omega (arith, h.block, ap (λ (x : Layer). x.scope) e)
here_bounded p m c k a b h (here_in_variables t e g) = Prim.omega (arith, h.variables, ap (λ (x : Layer). x.scope) e)
here_bounded p m c k a b h (here_as_declared t e g) = Prim.omega (arith, h.declares, ap (λ (x : Layer). x.scope) e)
here_bounded p m c k a b h (here_as_imported t e g) = Prim.omega (arith, h.declares, ap (λ (x : Layer). x.scope) e)

pub meets_bounded : (ps : ℕ → Place) (cs : ℕ → Context) (m at : ℕ) (t : Forest) (b : BindingSite) → ((i : ℕ) → Bounded m (cs i)) → Meets ps cs at t b → b.layer.scope < m
meets_bounded ps cs m at nothing b h g = absurd g
meets_bounded ps cs m at (absent r) b h g = meets_bounded ps cs m (suc at) r b h g
meets_bounded ps cs m at (node k n a r) b h (inl g) = here_bounded (ps at) m (cs at) k a b (h at) g
meets_bounded ps cs m at (node k n a r) b h (inr g) = meets_bounded ps cs m (suc at) r b h g

bounded_block : (next : ℕ) (c : Context) (strict : Bool) → Bounded next c → Bounded (next + 1) (in_block c next strict)
bounded_block next c strict h = record { block = Prim.omega arith; variables = Prim.omega (arith, h.variables); declares = Prim.omega (arith, h.declares) }

bounded_name : (next : ℕ) (c : Context) (f : FunctionKind) (pure : Bool) → Bounded next c → Bounded (next + 1) (at_function_name c next f pure)
bounded_name next c function_kind.Declaration pure h = record { block = Prim.omega (arith, h.block); variables = Prim.omega (arith, h.variables); declares = Prim.omega (arith, h.block) }
bounded_name next c function_kind.Expression pure h = record { block = Prim.omega (arith, h.block); variables = Prim.omega (arith, h.variables); declares = Prim.omega arith }
bounded_name next c function_kind.Arrow pure h = record { block = Prim.omega (arith, h.block); variables = Prim.omega (arith, h.variables); declares = Prim.omega arith }

bounded_variables : (m n : ℕ) (c : Context) (how : VariableKind) → m ≤ n → Bounded m c → Bounded n (in_variables c how)
bounded_variables m n c variable.Var l h = record { block = Prim.omega (arith, l, h.block); variables = Prim.omega (arith, l, h.variables); declares = Prim.omega (arith, l, h.variables) }
bounded_variables m n c variable.Let l h = record { block = Prim.omega (arith, l, h.block); variables = Prim.omega (arith, l, h.variables); declares = Prim.omega (arith, l, h.block) }
bounded_variables m n c variable.Const l h = record { block = Prim.omega (arith, l, h.block); variables = Prim.omega (arith, l, h.variables); declares = Prim.omega (arith, l, h.block) }

pub inside_bounded : (p : Place) (c : Context) (next : ℕ) (k : Kind) (a : Forest) (i : ℕ) → fits p (sort_of k) ≡ true → Bounded next c → Bounded (next + opens_one k a) (inside c next k a i)
inside_bounded p c next (Kind.Function f pure) a i e h =
    either (Bounded (next + 1)) (i == 0) (at_function_name c next f pure) (if i == 1 then at_parameters c next f (c.strict || is_strict_function a) else in_function c next f (c.strict || is_strict_function a))
    (bounded_name next c f pure h)
    (either (Bounded (next + 1)) (i == 1) (at_parameters c next f (c.strict || is_strict_function a)) (in_function c next f (c.strict || is_strict_function a))
    (record { block = Prim.omega arith; variables = Prim.omega arith; declares = Prim.omega arith }) (record { block = Prim.omega arith; variables = Prim.omega arith; declares = Prim.omega (arith, h.declares) }))
inside_bounded p c next Kind.BlockStatement a i e h = bounded_block next c c.strict h
inside_bounded p c next Kind.ForStatement a i e h = bounded_block next c c.strict h
inside_bounded p c next Kind.CatchClause a i e h =
    either (Bounded (next + 1)) (i == 0) (declares (in_block c next c.strict) (body_of next) 16 false) (in_block c next c.strict)
    (record { block = Prim.omega arith; variables = Prim.omega (arith, h.variables); declares = Prim.omega arith }) (bounded_block next c c.strict h)
inside_bounded p c next Kind.SwitchStatement a i e h = either (Bounded (next + 1)) (i == 1) (in_block c next c.strict) (below_it c) (bounded_block next c c.strict h) (record { block = Prim.omega (arith, h.block); variables = Prim.omega (arith, h.variables); declares = Prim.omega (arith, h.declares) })
inside_bounded p c next (Kind.VariableDeclaration how) a i e h = bounded_variables next (next + 0) c how (Prim.omega arith) h
inside_bounded p c next (Kind.ImportDeclaration source) a i e h = record { block = Prim.omega (arith, h.block); variables = Prim.omega (arith, h.variables); declares = Prim.omega (arith, h.block) }
inside_bounded p c next (Kind.Program source) a i e h = never_stands p e
inside_bounded p c next (Kind.Class how) a i e h = never_stands p e
inside_bounded p c next (Kind.PropertyDefinition is_static key) a i e h = never_stands p e
inside_bounded p c next Kind.StaticBlock a i e h = never_stands p e
inside_bounded p c next Kind.WithStatement a i e h = never_stands p e
inside_bounded p c next Kind.ForInStatement a i e h = never_stands p e
inside_bounded p c next Kind.ForOfStatement a i e h = never_stands p e
inside_bounded p c next k a i e h = bounded_kept next (next + 0) (inside c next k a i) c (Prim.omega arith) (kept c next k a i refl) h

-- a row declares in scopes of its own or in those around it
pub declared_before : (ps : ℕ → Place) (cs : ℕ → Context) (at next : ℕ) (t : Forest) (b : BindingSite) → well_placed ps at t ≡ true → ((i : ℕ) → Bounded next (cs i)) → Among b (bindings_among (sites cs at next t)) → b.layer.scope < next + scope_count t
declared_before ps cs at next nothing b w h g = absurd g
declared_before ps cs at next (absent r) b w h g = declared_before ps cs (suc at) next r b w h g
declared_before ps cs at next (node k n a r) b w h g =
    by (binding_in b (own_sites (cs at) n k a) (sites (inside (cs at) next k a) 0 (next + opens_one k a) a) (sites cs (suc at) (next + scope_count (node k n a nothing)) r) g)
    (declared_before (place_below (ps at) k) (inside (cs at) next k a) 0 (next + opens_one k a) a b (placed_below ps at k n a r w) (λ i. inside_bounded (ps at) (cs at) next k a i (placed_here ps at k n a r w) (h at)))
    (declared_before ps cs (suc at) (next + scope_count (node k n a nothing)) r b (placed_behind ps at k n a r w) (λ i. bounded_more next (next + scope_count (node k n a nothing)) (cs i) (Prim.omega arith) (h i)))
  where
    by : InThree b (bindings_among (own_sites (cs at) n k a)) (bindings_among (sites (inside (cs at) next k a) 0 (next + opens_one k a) a)) (bindings_among (sites cs (suc at) (next + scope_count (node k n a nothing)) r))
        → (Among b (bindings_among (sites (inside (cs at) next k a) 0 (next + opens_one k a) a)) → b.layer.scope < (next + opens_one k a) + scope_count a)
        → (Among b (bindings_among (sites cs (suc at) (next + scope_count (node k n a nothing)) r)) → b.layer.scope < (next + scope_count (node k n a nothing)) + scope_count r)
        → b.layer.scope < next + scope_count (node k n a r)
    by (in_first f) below rest = Prim.omega (arith, here_bounded (ps at) next (cs at) k a b (h at) (own (ps at) (cs at) n k a b (placed_here ps at k n a r w) f))
    by (in_second f) below rest = Prim.omega (arith, below f)
    by (in_third f) below rest = Prim.omega (arith, rest f)
