-- What refers to a name holds a reference with the binding that the name has there.
use Rattle.std.proofs.Common.{◌≡◌, ◌∙◌, ◌⊎◌, ◌≤◌, inl, inr, ℕ, suc, ◌+◌, Bool, true, false, ◌||◌, if◌then◌else◌, ◌==◌, List, ◌∷◌, Some, None, option_map, bytes_eq, refl, sym, ap, subst, true≢false, arith, append-nil}
use Rattle.std.proofs.lemmas.Bool.{and_parts, or_cases, or_left, or_right, false_from_ne_true}
use Rattle.std.proofs.lemmas.Slice.Eq.{bytes_eq-Decides}
use Rattle.js_syntax.specs.declared.node_kind.NodeKind.{NodeKind as Kind}
use Rattle.js_syntax.specs.Node.{Forest, nothing, node, absent, Note}
use Rattle.js_syntax.specs.declared.kind.VariableKind.{VariableKind}
use Rattle.js_syntax.specs.declared.kind.VariableKind.TheVariants as variable
use Rattle.js_syntax.specs.declared.kind.FunctionKind.{FunctionKind}
use Rattle.js_syntax.specs.declared.kind.FunctionKind.TheVariants as function_kind
use Rattle.form_rules.specs.Context.{is_strict_function}
use Rattle.js_meaning.specs.Value.{Text}
use Rattle.js_meaning.specs.Scope.{first_of, behind, lexical}
use Rattle.js_meaning.specs.Module.{names_in}
use Rattle.steps.specs.Names.{is_among, names_declared, names_exported, refers_at, refers}
use Rattle.scope_rules.specs.declared.layer.Layer.{Layer}
use Rattle.scope_rules.specs.Context.{Context, opens, inside, body_of, parameters_of, own_name_of, in_block, below_it, declares, layers_of_parameters, at_function_name, at_parameters, in_function, in_variables}
use Rattle.scope_rules.specs.Site.{BindingSite, ReferenceSite, read_bits, target_bits, number_or_first, own_sites, opens_one, scope_count, sites, references_among}
use Rattle.scope_rules.specs.Binding.{Binding, is_declared, binding_layer, named_in, binding_of}
use Rattle.scope_laws.specs.Exact.{Among}
use Rattle.steps.specs.Naming.Placed.{Place, cases, others, sort_of, place_below, fits, well_placed}
use Rattle.steps.specs.Naming.Agreeing.{names_of_scope, AgreesAt, Agrees, exports_at, exports}
use Rattle.steps.proofs.Naming.Lists.{not_second, either}
use Rattle.steps.proofs.Naming.Taking.{kept}
use Rattle.steps.proofs.Naming.Sites.{reference_first, reference_second, reference_third, placed_here, placed_below, placed_behind, never_stands}

-- ---- the binding that a name has in a context

abbrev pub BindsIn : (all : List BindingSite) (x : Text) (binding : Binding) → List Layer → Type 0
BindsIn all x binding ls = option_map (named_in x) (binding_layer all ls x) ≡ Some binding

abbrev pub Binds : (all : List BindingSite) (x : Text) (binding : Binding) → Context → Type 0
Binds all x binding c = BindsIn all x binding c.layers

-- a layer that doesn't declare it changes nothing
skipped : (all : List BindingSite) (x : Text) (binding : Binding) (l : Layer) (ls : List Layer) → is_declared all l x ≡ false → BindsIn all x binding ls → BindsIn all x binding (l ∷ ls)
skipped all x binding l ls e h = ap (λ b. option_map (named_in x) (if b then Some l else binding_layer all ls x)) e ∙ h

pub bound_first : (all : List BindingSite) (x : Text) (l : Layer) (ls : List Layer) → is_declared all l x ≡ true → BindsIn all x (named_in x l) (l ∷ ls)
bound_first all x l ls e = ap (λ b. option_map (named_in x) (if b then Some l else binding_layer all ls x)) e

apart : (all : List BindingSite) (x : Text) (scope : ℕ) (k : Kind) (a : Forest) (l : Layer) → AgreesAt all scope k a → l.scope ≡ scope → is_among (names_of_scope k a) x ≡ false → is_declared all l x ≡ false
apart all x scope k a l agreed there e = false_from_ne_true (is_declared all l x) (λ h. true≢false (sym (agreed l x there h) ∙ e))

-- where a node of a row refers to the name, it has the binding there
abbrev pub Ready : (all : List BindingSite) (x : Text) (binding : Binding) → (cs : ℕ → Context) → (at : ℕ) → Forest → Type 0
Ready all x binding cs at nothing = Unit {0}
Ready all x binding cs at (absent r) = Ready all x binding cs (suc at) r
Ready all x binding cs at (node k n a r) = (refers_at x k a (refers x a) ≡ true → Binds all x binding (cs at)) × Ready all x binding cs (suc at) r

pub ready_from : (all : List BindingSite) (x : Text) (binding : Binding) (cs : ℕ → Context) (at : ℕ) (t : Forest) → ((i : ℕ) → at ≤ i → Binds all x binding (cs i)) → Ready all x binding cs at t
ready_from all x binding cs at nothing h = tt
ready_from all x binding cs at (absent r) h = ready_from all x binding cs (suc at) r (λ i l. h i (Prim.omega (arith, l)))
ready_from all x binding cs at (node k n a r) h = (λ e. h at (Prim.omega arith), ready_from all x binding cs (suc at) r (λ i l. h i (Prim.omega (arith, l))))

-- ---- below a node that doesn't declare it

pub cut : (b c : Bool) → (if b then false else c) ≡ true → (b ≡ false) × (c ≡ true)
cut true c e = absurd (true≢false (sym e))
cut false c e = (refl, e)

in_a_block : (all : List BindingSite) (x : Text) (binding : Binding) (c : Context) (next : ℕ) (k : Kind) (a : Forest) → AgreesAt all next k a → is_among (names_of_scope k a) x ≡ false → Binds all x binding c → BindsIn all x binding (body_of next ∷ c.layers)
in_a_block all x binding c next k a agreed e h = skipped all x binding (body_of next) c.layers (apart all x next k a (body_of next) agreed refl e) h

in_parameters : (all : List BindingSite) (x : Text) (binding : Binding) (c : Context) (next : ℕ) (f : FunctionKind) (k : Kind) (a : Forest) → AgreesAt all next k a → is_among (names_of_scope k a) x ≡ false → Binds all x binding c → BindsIn all x binding (layers_of_parameters f next c.layers)
in_parameters all x binding c next function_kind.Expression k a agreed e h =
    skipped all x binding (parameters_of next) (own_name_of next ∷ c.layers) (apart all x next k a (parameters_of next) agreed refl e) (skipped all x binding (own_name_of next) c.layers (apart all x next k a (own_name_of next) agreed refl e) h)
in_parameters all x binding c next function_kind.Declaration k a agreed e h = skipped all x binding (parameters_of next) c.layers (apart all x next k a (parameters_of next) agreed refl e) h
in_parameters all x binding c next function_kind.Arrow k a agreed e h = skipped all x binding (parameters_of next) c.layers (apart all x next k a (parameters_of next) agreed refl e) h

at_name : (all : List BindingSite) (x : Text) (binding : Binding) (c : Context) (next : ℕ) (f : FunctionKind) (pure : Bool) → Binds all x binding c → Binds all x binding (at_function_name c next f pure)
at_name all x binding c next function_kind.Declaration pure h = h
at_name all x binding c next function_kind.Expression pure h = h
at_name all x binding c next function_kind.Arrow pure h = h

in_code : (all : List BindingSite) (x : Text) (binding : Binding) (c : Context) (next : ℕ) (f : FunctionKind) (pure strict : Bool) (a : Forest) (i : ℕ) → AgreesAt all next (Kind.Function f pure) a → is_among (names_declared (Kind.Function f pure) a) x ≡ false → Binds all x binding c
    → Binds all x binding (if i == 0 then at_function_name c next f pure else if i == 1 then at_parameters c next f strict else in_function c next f strict)
in_code all x binding c next f pure strict a i agreed e h =
    let inner = in_parameters all x binding c next f (Kind.Function f pure) a agreed e h in
    either (Binds all x binding) (i == 0) (at_function_name c next f pure) (if i == 1 then at_parameters c next f strict else in_function c next f strict) (at_name all x binding c next f pure h)
    (either (Binds all x binding) (i == 1) (at_parameters c next f strict) (in_function c next f strict) inner
    (skipped all x binding (body_of next) (layers_of_parameters f next c.layers) (apart all x next (Kind.Function f pure) a (body_of next) agreed refl e) inner))

-- of a switch the cases are entered
abbrev switch_context : Context → ℕ → (at : ℕ) → Context
switch_context c next at = if at == 1 then in_block c next c.strict else below_it c

in_cases : (all : List BindingSite) (x : Text) (binding : Binding) (c : Context) (next : ℕ) (a : Forest) (j : Kind) (m : Note) (d : Forest) → fits cases (sort_of j) ≡ true → first_of (behind a) ≡ node j m d nothing → AgreesAt all next Kind.SwitchStatement a
    → Binds all x binding c → refers_at x j d (refers x d) ≡ true → BindsIn all x binding (body_of next ∷ c.layers)
in_cases all x binding c next a Kind.Cases m d f is agreed h e =
    in_a_block all x binding c next Kind.SwitchStatement a agreed (ap (λ u. is_among (names_in (lexical u)) x) is ∙ ap (λ ds. is_among (names_in ds) x) (append-nil (lexical d)) ∙ (cut (is_among (names_in (lexical d)) x) (refers x d) e).0) h
in_cases all x binding c next a (Kind.VariableDeclaration variable.Var) m d f is agreed h e = absurd (true≢false (sym f))
in_cases all x binding c next a (Kind.VariableDeclaration variable.Let) m d f is agreed h e = absurd (true≢false (sym f))
in_cases all x binding c next a (Kind.VariableDeclaration variable.Const) m d f is agreed h e = absurd (true≢false (sym f))
in_cases all x binding c next a (Kind.Function function_kind.Declaration pure) m d f is agreed h e = absurd (true≢false (sym f))
in_cases all x binding c next a (Kind.Function function_kind.Expression pure) m d f is agreed h e = absurd (true≢false (sym f))
in_cases all x binding c next a (Kind.Function function_kind.Arrow pure) m d f is agreed h e = absurd (true≢false (sym f))
in_cases all x binding c next a k m d f is agreed h e = absurd (true≢false (sym f))

behind_cases : (all : List BindingSite) (x : Text) (binding : Binding) (c : Context) (next : ℕ) (r : Forest) → Binds all x binding c → Ready all x binding (switch_context c next) 2 r
behind_cases all x binding c next r h = ready_from all x binding (switch_context c next) 2 r (λ i l. subst (Binds all x binding) (sym (not_second i (in_block c next c.strict) (below_it c) l)) h)

at_cases : (all : List BindingSite) (x : Text) (binding : Binding) (c : Context) (next : ℕ) (a r : Forest) → behind a ≡ r → well_placed (λ i. if i == 1 then cases else others) 1 r ≡ true → AgreesAt all next Kind.SwitchStatement a → Binds all x binding c
    → Ready all x binding (switch_context c next) 1 r
at_cases all x binding c next a nothing is w agreed h = tt
at_cases all x binding c next a (absent r) is w agreed h = behind_cases all x binding c next r h
at_cases all x binding c next a (node j m d r) is w agreed h = (in_cases all x binding c next a j m d (and_parts (fits cases (sort_of j)) _ w).0 (ap first_of is) agreed h, behind_cases all x binding c next r h)

in_switch : (all : List BindingSite) (x : Text) (binding : Binding) (c : Context) (next : ℕ) (a : Forest) → well_placed (λ i. if i == 1 then cases else others) 0 a ≡ true → AgreesAt all next Kind.SwitchStatement a → Binds all x binding c
    → Ready all x binding (switch_context c next) 0 a
in_switch all x binding c next nothing w agreed h = tt
in_switch all x binding c next (absent r) w agreed h = at_cases all x binding c next (absent r) r refl w agreed h
in_switch all x binding c next (node j m d r) w agreed h = (λ e. h, at_cases all x binding c next (node j m d r) r refl (placed_behind (λ i. if i == 1 then cases else others) 0 j m d r w) agreed h)

in_variables_too : (all : List BindingSite) (x : Text) (binding : Binding) (c : Context) (how : VariableKind) → Binds all x binding c → Binds all x binding (in_variables c how)
in_variables_too all x binding c variable.Var h = h
in_variables_too all x binding c variable.Let h = h
in_variables_too all x binding c variable.Const h = h

pub enter : (all : List BindingSite) (x : Text) (binding : Binding) (p : Place) (c : Context) (next : ℕ) (k : Kind) (a : Forest) → fits p (sort_of k) ≡ true → well_placed (place_below p k) 0 a ≡ true → (opens k a ≡ true → AgreesAt all next k a) → Binds all x binding c
    → is_among (names_declared k a) x ≡ false → Ready all x binding (inside c next k a) 0 a
enter all x binding p c next (Kind.Function how pure) a f w agreed h e = ready_from all x binding (inside c next (Kind.Function how pure) a) 0 a (λ i l. in_code all x binding c next how pure (c.strict || is_strict_function a) a i (agreed refl) e h)
enter all x binding p c next Kind.BlockStatement a f w agreed h e = ready_from all x binding (inside c next Kind.BlockStatement a) 0 a (λ i l. in_a_block all x binding c next Kind.BlockStatement a (agreed refl) e h)
enter all x binding p c next Kind.ForStatement a f w agreed h e = ready_from all x binding (inside c next Kind.ForStatement a) 0 a (λ i l. in_a_block all x binding c next Kind.ForStatement a (agreed refl) e h)
enter all x binding p c next Kind.CatchClause a f w agreed h e =
    let inner = in_a_block all x binding c next Kind.CatchClause a (agreed refl) e h in
    ready_from all x binding (inside c next Kind.CatchClause a) 0 a (λ i l. either (Binds all x binding) (i == 0) (declares (in_block c next c.strict) (body_of next) 16 false) (in_block c next c.strict) inner inner)
enter all x binding p c next Kind.SwitchStatement a f w agreed h e = in_switch all x binding c next a w (agreed refl) h
enter all x binding p c next (Kind.VariableDeclaration how) a f w agreed h e = ready_from all x binding (inside c next (Kind.VariableDeclaration how) a) 0 a (λ i l. in_variables_too all x binding c how h)
enter all x binding p c next (Kind.ImportDeclaration source) a f w agreed h e = ready_from all x binding (inside c next (Kind.ImportDeclaration source) a) 0 a (λ i l. h)
enter all x binding p c next (Kind.Program source) a f w agreed h e = never_stands p f
enter all x binding p c next (Kind.Class how) a f w agreed h e = never_stands p f
enter all x binding p c next (Kind.PropertyDefinition is_static key) a f w agreed h e = never_stands p f
enter all x binding p c next Kind.StaticBlock a f w agreed h e = never_stands p f
enter all x binding p c next Kind.WithStatement a f w agreed h e = never_stands p f
enter all x binding p c next Kind.ForInStatement a f w agreed h e = never_stands p f
enter all x binding p c next Kind.ForOfStatement a f w agreed h e = never_stands p f
enter all x binding p c next k a f w agreed h e = ready_from all x binding (inside c next k a) 0 a (λ i l. ap (λ ls. option_map (named_in x) (binding_layer all ls x)) (kept c next k a i refl).layers ∙ h)

-- ---- the reference

pub record HasReference (all : List BindingSite) (binding : Binding) (rs : List ReferenceSite) : Type 0 where
  pub reference : ReferenceSite
  pub stands : Among reference rs
  pub binds : binding_of all reference ≡ Some binding

abbrev OfNode : (all : List BindingSite) (x : Text) (binding : Binding) (c : Context) (next : ℕ) (k : Kind) (n : Note) (a : Forest) → Type 0
OfNode all x binding c next k n a =
    (exports_at x k a (exports x a) ≡ true) ⊎ (HasReference all binding (references_among (own_sites c n k a)) ⊎ HasReference all binding (references_among (sites (inside c next k a) 0 (next + opens_one k a) a)))

abbrev OfBelow : (all : List BindingSite) (x : Text) (binding : Binding) (c : Context) (next : ℕ) (k : Kind) (a : Forest) → Type 0
OfBelow all x binding c next k a =
    Ready all x binding (inside c next k a) 0 a → refers x a ≡ true → (exports x a ≡ true) ⊎ HasReference all binding (references_among (sites (inside c next k a) 0 (next + opens_one k a) a))

pub named_so : (all : List BindingSite) (x y : Text) (binding : Binding) (c : Context) → Binds all x binding c → bytes_eq y x ≡ true → Binds all y binding c
named_so all x y binding c h e = subst (λ z. option_map (named_in z) (binding_layer all c.layers z) ≡ Some binding) (sym ((bytes_eq-Decides y x).0 e)) h

of_export : (all : List BindingSite) (x : Text) (binding : Binding) (c : Context) (next : ℕ) (k : Kind) (n : Note) (a : Forest) → exports_at x k a (exports x a) ≡ (is_among (names_exported a) x || exports x a) → OfBelow all x binding c next k a
    → Ready all x binding (inside c next k a) 0 a → (is_among (names_exported a) x || refers x a) ≡ true → OfNode all x binding c next k n a
of_export all x binding c next k n a is below ready e = elim (or_cases (is_among (names_exported a) x) (refers x a) e) [
  | inl g ↦ inl (is ∙ or_left (is_among (names_exported a) x) (exports x a) g)
  | inr g ↦ elim (below ready g) [
    | inl f ↦ inl (is ∙ or_right (is_among (names_exported a) x) (exports x a) f)
    | inr f ↦ inr (inr f)
  ]
]

of_other : (all : List BindingSite) (x : Text) (binding : Binding) (p : Place) (c : Context) (next : ℕ) (k : Kind) (n : Note) (a : Forest) → fits p (sort_of k) ≡ true → well_placed (place_below p k) 0 a ≡ true → (opens k a ≡ true → AgreesAt all next k a) → Binds all x binding c
    → exports_at x k a (exports x a) ≡ exports x a → OfBelow all x binding c next k a → (if is_among (names_declared k a) x then false else refers x a) ≡ true → OfNode all x binding c next k n a
of_other all x binding p c next k n a f w agreed h is below e =
    let both = cut (is_among (names_declared k a) x) (refers x a) e in
    elim (below (enter all x binding p c next k a f w agreed h both.0) both.1) [
      | inl g ↦ inl (is ∙ g)
      | inr g ↦ inr (inr g)
    ]

of_name : (all : List BindingSite) (x y : Text) (binding : Binding) (c : Context) (next : ℕ) (k : Kind) (n : Note) (a : Forest) → exports_at x k a (exports x a) ≡ exports x a → OfBelow all x binding c next k a → Ready all x binding (inside c next k a) 0 a
    → (bytes_eq y x ≡ true → HasReference all binding (references_among (own_sites c n k a))) → (bytes_eq y x || refers x a) ≡ true → OfNode all x binding c next k n a
of_name all x y binding c next k n a is below ready own e = elim (or_cases (bytes_eq y x) (refers x a) e) [
  | inl g ↦ inr (inl (own g))
  | inr g ↦ elim (below ready g) [
    | inl f ↦ inl (is ∙ f)
    | inr f ↦ inr (inr f)
  ]
]

of_node : (all : List BindingSite) (x : Text) (binding : Binding) (p : Place) (c : Context) (next : ℕ) (k : Kind) (n : Note) (a : Forest) → fits p (sort_of k) ≡ true → well_placed (place_below p k) 0 a ≡ true → (opens k a ≡ true → AgreesAt all next k a) → Binds all x binding c
    → OfBelow all x binding c next k a → refers_at x k a (refers x a) ≡ true → OfNode all x binding c next k n a
of_node all x binding p c next (Kind.ReferenceName y) n a f w agreed h below e =
    of_name all x y binding c next (Kind.ReferenceName y) n a refl below (enter all x binding p c next (Kind.ReferenceName y) a f w agreed h refl)
    (λ g. record { reference = record { id = n.id; name = y; scope = number_or_first c.scope; layers = c.layers; flags = read_bits c.role }; stands = inl refl; binds = named_so all x y binding c h g }) e
of_node all x binding p c next (Kind.TargetName y) n a f w agreed h below e =
    of_name all x y binding c next (Kind.TargetName y) n a refl below (enter all x binding p c next (Kind.TargetName y) a f w agreed h refl)
    (λ g. record { reference = record { id = n.id; name = y; scope = number_or_first c.scope; layers = c.layers; flags = target_bits c.role }; stands = inl refl; binds = named_so all x y binding c h g }) e
of_node all x binding p c next (Kind.ExportNamedDeclaration None) n a f w agreed h below e =
    of_export all x binding c next (Kind.ExportNamedDeclaration None) n a refl below (enter all x binding p c next (Kind.ExportNamedDeclaration None) a f w agreed h refl) e
of_node all x binding p c next (Kind.ExportNamedDeclaration (Some source)) n a f w agreed h below e =
    of_export all x binding c next (Kind.ExportNamedDeclaration (Some source)) n a refl below (enter all x binding p c next (Kind.ExportNamedDeclaration (Some source)) a f w agreed h refl) e
of_node all x binding p c next Kind.ExportDefaultDeclaration n a f w agreed h below e =
    of_export all x binding c next Kind.ExportDefaultDeclaration n a refl below (enter all x binding p c next Kind.ExportDefaultDeclaration a f w agreed h refl) e
of_node all x binding p c next k n a f w agreed h below e = of_other all x binding p c next k n a f w agreed h refl below e

pub refers_found : (all : List BindingSite) (x : Text) (binding : Binding) (ps : ℕ → Place) (cs : ℕ → Context) (at next : ℕ) (t : Forest) → well_placed ps at t ≡ true → Agrees all next t → Ready all x binding cs at t → refers x t ≡ true
    → (exports x t ≡ true) ⊎ HasReference all binding (references_among (sites cs at next t))
refers_found all x binding ps cs at next nothing w agreed ready e = absurd (true≢false (sym e))
refers_found all x binding ps cs at next (absent r) w agreed ready e = refers_found all x binding ps cs (suc at) next r w agreed ready e
refers_found all x binding ps cs at next (node k n a r) w agreed ready e =
    by (or_cases (refers_at x k a (refers x a)) (refers x r) e)
    (refers_found all x binding (place_below (ps at) k) (inside (cs at) next k a) 0 (next + opens_one k a) a (placed_below ps at k n a r w) agreed.1)
    (refers_found all x binding ps cs (suc at) (next + scope_count (node k n a nothing)) r (placed_behind ps at k n a r w) agreed.2 ready.1)
  where
    of_first : OfNode all x binding (cs at) next k n a → (exports x (node k n a r) ≡ true) ⊎ HasReference all binding (references_among (sites cs at next (node k n a r)))
    of_first (inl g) = inl (or_left (exports_at x k a (exports x a)) (exports x r) g)
    of_first (inr (inl g)) = inr (record { reference = g.reference; stands = reference_first g.reference (own_sites (cs at) n k a) (sites (inside (cs at) next k a) 0 (next + opens_one k a) a) (sites cs (suc at) (next + scope_count (node k n a nothing)) r) g.stands; binds = g.binds })
    of_first (inr (inr g)) = inr (record { reference = g.reference; stands = reference_second g.reference (own_sites (cs at) n k a) (sites (inside (cs at) next k a) 0 (next + opens_one k a) a) (sites cs (suc at) (next + scope_count (node k n a nothing)) r) g.stands; binds = g.binds })

    of_rest : (exports x r ≡ true) ⊎ HasReference all binding (references_among (sites cs (suc at) (next + scope_count (node k n a nothing)) r)) → (exports x (node k n a r) ≡ true) ⊎ HasReference all binding (references_among (sites cs at next (node k n a r)))
    of_rest (inl g) = inl (or_right (exports_at x k a (exports x a)) (exports x r) g)
    of_rest (inr g) = inr (record { reference = g.reference; stands = reference_third g.reference (own_sites (cs at) n k a) (sites (inside (cs at) next k a) 0 (next + opens_one k a) a) (sites cs (suc at) (next + scope_count (node k n a nothing)) r) g.stands; binds = g.binds })

    by : (refers_at x k a (refers x a) ≡ true) ⊎ (refers x r ≡ true) → OfBelow all x binding (cs at) next k a → (refers x r ≡ true → (exports x r ≡ true) ⊎ HasReference all binding (references_among (sites cs (suc at) (next + scope_count (node k n a nothing)) r)))
        → (exports x (node k n a r) ≡ true) ⊎ HasReference all binding (references_among (sites cs at next (node k n a r)))
    by (inl g) below rest = of_first (of_node all x binding (ps at) (cs at) next k n a (placed_here ps at k n a r w) (placed_below ps at k n a r w) agreed.0 (ready.0 g) below g)
    by (inr g) below rest = of_rest (rest g)
