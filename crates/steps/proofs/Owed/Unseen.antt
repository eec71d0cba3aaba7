-- What a change takes away declares nothing that is seen.
use Rattle.std.proofs.Common.{◌≡◌, ◌∙◌, ◌⊎◌, inl, inr, ℕ, suc, ◌+◌, Bool, true, false, ◌||◌, ◌&&◌, List, [], Option, Some, true≢false, refl, sym, ap, subst, arith}
use Rattle.js_syntax.specs.declared.node_kind.NodeKind.{NodeKind as Kind}
use Rattle.js_syntax.specs.declared.kind.FunctionKind.{FunctionKind}
use Rattle.js_syntax.specs.declared.kind.FunctionKind.TheVariants as function_kind
use Rattle.js_syntax.specs.declared.kind.VariableKind.{VariableKind}
use Rattle.js_syntax.specs.declared.kind.VariableKind.TheVariants as variable
use Rattle.js_syntax.specs.Node.{Forest, Tree, Note, nothing, node, absent, alone}
use Rattle.js_syntax.specs.declared.operator.UnaryOperator.TheVariants as unary
use Rattle.js_syntax.proofs.Truth.{both}
use Rattle.js_effects.specs.declared.surroundings.Surroundings.{Surroundings}
use Rattle.js_effects.specs.Still.{is_value}
use Rattle.js_effects.specs.Silence.{is_one_name}
use Rattle.min_pass.specs.Around.{is_with}
use Rattle.scope_rules.specs.declared.layer.Layer.{Layer}
use Rattle.scope_rules.specs.Context.{Context, inside, outermost, in_variables}
use Rattle.scope_rules.specs.Site.{BindingSite, own_sites, opens_one, scope_count, sites, sites_of, bindings_among}
use Rattle.scope_rules.specs.Binding.{named_in, declared_by}
use Rattle.scope_laws.specs.Exact.{Among}
use Rattle.scope_laws.specs.Place.{Around, first, behind, behind_none, under, one_place, plug, there, scopes_before}
use Rattle.steps.specs.Naming.Standing.{layer_of}
use Rattle.steps.proofs.Naming.Sites.{InThree, in_first, in_second, in_third, binding_in}
use Rattle.steps.specs.Allowed.Silent.{inside_of, IsFound, IsSilentNode, IsSilent, HoldsThere}
use Rattle.steps.specs.Allowed.Places.{a_node, in_class_at, At}
use Rattle.steps.specs.Allowed.Free.{IsFree, Free, FreeDeclarator}
use Rattle.steps.specs.Allowed.SilentStatement.{SilentStatement, a_statement}
use Rattle.steps.specs.Allowed.UnusedFunction.{a_function}
use Rattle.steps.specs.Allowed.UnusedDeclarator.{SilentDeclarator, a_declarator}
use Rattle.steps.specs.Allowed.UnusedDeclaration.{SilentDeclaration, one_declarator, a_declaration}
use Rattle.steps.specs.Fit.Enclosed.{is_binding, is_enclosed_at, is_enclosed}
use Rattle.steps.specs.Owed.Unseen.{IsUnreferred, IsUnseen}
use Rattle.steps.proofs.Owed.Inside.{named, In}
use Rattle.steps.proofs.Owed.FunctionParts.{nothing_there, Part, named_first, further, function_parts, function_behind}
use Rattle.steps.proofs.Owed.Inside.{enclosed_here, enclosed_below, enclosed_rest}

-- ---- at a place

there_declared : (x : Option Tree) (holds : Bool → Context → ℕ → Type 0) (Q : ℕ → BindingSite → Type 0) (b : BindingSite)
    → ((w : Bool) (ds : ℕ → Context) (place next : ℕ) → holds w (ds place) next → Among b (bindings_among (sites ds place next (one_place x))) → Q next b)
    → (in_with : Bool) (cs : ℕ → Context) (at next : ℕ) (a : Around) → HoldsThere in_with cs at next a x holds → Among b (bindings_among (there cs at next a x)) → Q (next + scopes_before a x) b
there_declared x holds Q b by in_with cs at next (first rest) h g = let e : next ≡ next + 0 = Prim.omega arith in subst (λ (m : ℕ). Q m b) e (by in_with cs at next h g)
there_declared x holds Q b by in_with cs at next (behind k n below a) h g =
    let e : (next + scope_count (node k n below nothing)) + scopes_before a x ≡ next + (scope_count (node k n below nothing) + scopes_before a x) = Prim.omega arith in
    subst (λ (m : ℕ). Q m b) e (there_declared x holds Q b by in_with cs (suc at) (next + scope_count (node k n below nothing)) a h g)
there_declared x holds Q b by in_with cs at next (behind_none a) h g = there_declared x holds Q b by in_with cs (suc at) next a h g
there_declared x holds Q b by in_with cs at next (under k n a rest) h g =
    let e : (next + opens_one k (plug a x)) + scopes_before a x ≡ next + (opens_one k (plug a x) + scopes_before a x) = Prim.omega arith in
    subst (λ (m : ℕ). Q m b) e (there_declared x holds Q b by (in_with || is_with k) (inside (cs at) next k (plug a x)) 0 (next + opens_one k (plug a x)) a h g)

pub both_at : (x : Option Tree) (p q : Bool → Context → ℕ → Type 0) (in_with : Bool) (cs : ℕ → Context) (at next : ℕ) (a : Around) → HoldsThere in_with cs at next a x p → HoldsThere in_with cs at next a x q → HoldsThere in_with cs at next a x (λ w c m. p w c m × q w c m)
both_at x p q in_with cs at next (first rest) h g = (h, g)
both_at x p q in_with cs at next (behind k n below a) h g = both_at x p q in_with cs (suc at) (next + scope_count (node k n below nothing)) a h g
both_at x p q in_with cs at next (behind_none a) h g = both_at x p q in_with cs (suc at) next a h g
both_at x p q in_with cs at next (under k n a rest) h g = both_at x p q (in_with || is_with k) (inside (cs at) next k (plug a x)) 0 (next + opens_one k (plug a x)) a h g

-- in the scopes that stand there, or unreferred
abbrev pub Fine : Forest → ℕ → ℕ → BindingSite → Type 0
Fine v count next b = In next (next + count) b.layer ⊎ IsUnreferred v b

pub unseen_there : (a : Around) (x : Option Tree) (holds : Bool → Context → ℕ → Type 0) → At a x holds
    → ((b : BindingSite) (w : Bool) (ds : ℕ → Context) (place next : ℕ) → holds w (ds place) next → Among b (bindings_among (sites ds place next (one_place x))) → Fine (plug a x) (scope_count (one_place x)) next b) → IsUnseen a x
unseen_there a x holds h by b g = elim (there_declared x holds (Fine (plug a x) (scope_count (one_place x))) b (by b) false (λ at. outermost) 0 0 a h g) [
  | inl i ↦ inl (record { from = Prim.omega (arith, i.from); to = Prim.omega (arith, i.to) })
  | inr u ↦ inr u
]

enclosed_front : (k : Kind) (n : Note) (below rest : Forest) → is_enclosed (node k n below rest) ≡ true → (is_enclosed_at k below ≡ true) × (is_enclosed below ≡ true)
enclosed_front k n below rest h = (enclosed_here k n below rest h, enclosed_below k n below rest h)

pub enclosed_there : (a : Around) (k : Kind) (n : Note) (below : Forest) → is_enclosed (plug a (a_node k n below)) ≡ true → (is_enclosed_at k below ≡ true) × (is_enclosed below ≡ true)
enclosed_there (first rest) k n below h = enclosed_front k n below rest h
enclosed_there (behind j m b a) k n below h = enclosed_there a k n below (enclosed_rest j m b (plug a (a_node k n below)) h)
enclosed_there (behind_none a) k n below h = enclosed_there a k n below h
enclosed_there (under j m a rest) k n below h = enclosed_there a k n below (enclosed_below j m (plug a (a_node k n below)) rest h)

pub enclosed_alone_there : (a : Around) (k : Kind) (n : Note) (below : Forest) → is_enclosed (plug a (a_node k n below)) ≡ true → is_enclosed (node k n below nothing) ≡ true
enclosed_alone_there a k n below h = let e = enclosed_there a k n below h in both (is_enclosed_at k below) (is_enclosed below && true) e.0 (both (is_enclosed below) true e.1 refl)

-- ---- silent rows declare in functions alone

silent_kind : (bs : List BindingSite) (w : Surroundings) (c : Context) (k : Kind) (n : Note) (a : Forest) (parts : Type 0) → IsSilentNode bs w c k n a parts → is_binding k ≡ true → ⊥
silent_kind bs w c (Kind.BindingName x) n a parts (inl e) g = true≢false (sym e)
silent_kind bs w c (Kind.BindingName x) n a parts (inr (inl e)) g = e
silent_kind bs w c (Kind.BindingName x) n a parts (inr (inr e)) g = true≢false (sym e.0)
silent_kind bs w c k n a parts s g = true≢false (sym g)

-- what lies below a node declares in scopes that are made there
abbrev Below : Context → ℕ → Kind → Forest → BindingSite → Type 0
Below c next k below b = Among b (bindings_among (sites (inside c next k below) 0 (next + opens_one k below) below)) → In next (next + opens_one k below + scope_count below) b.layer

of_expression : (c : Context) (next : ℕ) (how : FunctionKind) (pure : Bool) (below : Forest) (b : BindingSite) → (inside c next (Kind.Function how pure) below 0).declaring.layer.scope ≡ next → Part (inside c next (Kind.Function how pure) below) next below b
    → In next (next + 1 + scope_count below) b.layer
of_expression c next how pure below b e (named_first layer unmarked) = record { from = Prim.omega (arith, e, ap (λ (l : Layer). l.scope) layer); to = Prim.omega (arith, e, ap (λ (l : Layer). l.scope) layer) }
of_expression c next how pure below b e (further i) = i

value_below : (c : Context) (next : ℕ) (k : Kind) (below : Forest) (b : BindingSite) → is_value k ≡ true → is_enclosed_at k below ≡ true → Below c next k below b
value_below c next (Kind.Literal v) below b e w h = absurd (nothing_there (inside c next (Kind.Literal v) below) 0 (next + 0) below w b h)
value_below c next (Kind.RegExp x) below b e w h = absurd (nothing_there (inside c next (Kind.RegExp x) below) 0 (next + 0) below w b h)
value_below c next Kind.NewTarget below b e w h = absurd (nothing_there (inside c next Kind.NewTarget below) 0 (next + 0) below w b h)
value_below c next (Kind.TemplateElement written tail) below b e w h = absurd (nothing_there (inside c next (Kind.TemplateElement written tail) below) 0 (next + 0) below w b h)
value_below c next Kind.Hole below b e w h = absurd (nothing_there (inside c next Kind.Hole below) 0 (next + 0) below w b h)
value_below c next (Kind.Function function_kind.Expression pure) below b e w h = of_expression c next function_kind.Expression pure below b refl (function_parts c next function_kind.Expression pure below w b h)
value_below c next (Kind.Function function_kind.Arrow pure) below b e w h = of_expression c next function_kind.Arrow pure below b refl (function_parts c next function_kind.Arrow pure below w b h)
value_below c next (Kind.Function function_kind.Declaration pure) below b e w h = absurd (true≢false (sym e))
value_below c next k below b e w h = absurd (true≢false (sym e))

-- a name alone declares nothing
in_second_alone : (b : BindingSite) (inner : List BindingSite) → InThree b [] inner [] → (Among b inner → ⊥) → ⊥
in_second_alone b inner (in_first g) none = g
in_second_alone b inner (in_second g) none = none g
in_second_alone b inner (in_third g) none = g

one_name_there : (cs : ℕ → Context) (at next : ℕ) (t : Forest) → is_one_name t ≡ true → is_enclosed t ≡ true → (b : BindingSite) → Among b (bindings_among (sites cs at next t)) → ⊥
one_name_there cs at next (node (Kind.ReferenceName x) n below nothing) e w b h =
    let inner = sites (inside (cs at) next (Kind.ReferenceName x) below) 0 (next + 0) below in
    in_second_alone b (bindings_among inner) (binding_in b (own_sites (cs at) n (Kind.ReferenceName x) below) inner [] h)
    (λ g. nothing_there (inside (cs at) next (Kind.ReferenceName x) below) 0 (next + 0) below (enclosed_here (Kind.ReferenceName x) n below nothing w) b g)
one_name_there cs at next (node Kind.ParenthesizedExpression n below nothing) e w b h =
    let inner = sites (inside (cs at) next Kind.ParenthesizedExpression below) 0 (next + 0) below in
    in_second_alone b (bindings_among inner) (binding_in b (own_sites (cs at) n Kind.ParenthesizedExpression below) inner [] h)
    (λ g. one_name_there (inside (cs at) next Kind.ParenthesizedExpression below) 0 (next + 0) below e (enclosed_below Kind.ParenthesizedExpression n below nothing w) b g)
one_name_there cs at next (node k n below nothing) e w b h = true≢false (sym e)
one_name_there cs at next (node k n below (absent rest)) e w b h = true≢false (sym e)
one_name_there cs at next (node k n below (node j m inner rest)) e w b h = true≢false (sym e)
one_name_there cs at next (absent rest) e w b h = true≢false (sym e)
one_name_there cs at next nothing e w b h = true≢false (sym e)

found_below : (bs : List BindingSite) (w : Surroundings) (c : Context) (next : ℕ) (k : Kind) (n : Note) (below : Forest) (b : BindingSite) → IsFound bs w c k n below → is_enclosed_at k below ≡ true → is_enclosed below ≡ true → Below c next k below b
found_below bs w c next (Kind.ReferenceName x) n below b f u v h = absurd (nothing_there (inside c next (Kind.ReferenceName x) below) 0 (next + 0) below u b h)
found_below bs w c next (Kind.UnaryExpression unary.Typeof) n below b f u v h = absurd (one_name_there (inside c next (Kind.UnaryExpression unary.Typeof) below) 0 (next + 0) below f.1 v b h)
found_below bs w c next Kind.ThisExpression n below b f u v h = absurd (nothing_there (inside c next Kind.ThisExpression below) 0 (next + 0) below u b h)
found_below bs w c next k n below b f u v h = absurd f

silent_below : (bs : List BindingSite) (w : Surroundings) (c : Context) (next : ℕ) (k : Kind) (n : Note) (below : Forest) (b : BindingSite) (parts : Type 0) → is_enclosed_at k below ≡ true → is_enclosed below ≡ true → IsSilentNode bs w c k n below parts
    → (parts → Among b (bindings_among (sites (inside c next k below) 0 (next + opens_one k below) below)) → In (next + opens_one k below) ((next + opens_one k below) + scope_count below) b.layer) → Below c next k below b
silent_below bs w c next k n below b parts e v (inl u) inner h = value_below c next k below b u e h
silent_below bs w c next k n below b parts e v (inr (inl f)) inner h = found_below bs w c next k n below b f e v h
silent_below bs w c next k n below b parts e v (inr (inr r)) inner h = let i = inner r.1 h in record { from = Prim.omega (arith, i.from); to = Prim.omega (arith, i.to) }

pub silent_inside : (bs : List BindingSite) (w : Surroundings) (cs : ℕ → Context) (at next : ℕ) (t : Forest) → is_enclosed t ≡ true → IsSilent bs w cs at next t → (b : BindingSite) → Among b (bindings_among (sites cs at next t)) → In next (next + scope_count t) b.layer
silent_inside bs w cs at next nothing e s b h = absurd h
silent_inside bs w cs at next (absent rest) e s b h = silent_inside bs w cs (suc at) next rest e s b h
silent_inside bs w cs at next (node k n below rest) e s b h =
    by (binding_in b (own_sites (cs at) n k below) (sites (inside (cs at) next k below) 0 (next + opens_one k below) below) (sites cs (suc at) (next + scope_count (node k n below nothing)) rest) h)
    (λ p g. silent_inside bs w (inside (cs at) next k below) 0 (next + opens_one k below) below (enclosed_below k n below rest e) p b g)
    (λ g. silent_inside bs w cs (suc at) (next + scope_count (node k n below nothing)) rest (enclosed_rest k n below rest e) s.1 b g)
  where
    parts : Type 0
    parts = IsSilent bs w (inside (cs at) next k below) 0 (next + opens_one k below) below

    by : InThree b (bindings_among (own_sites (cs at) n k below)) (bindings_among (sites (inside (cs at) next k below) 0 (next + opens_one k below) below)) (bindings_among (sites cs (suc at) (next + scope_count (node k n below nothing)) rest))
        → (IsSilent bs w (inside (cs at) next k below) 0 (next + opens_one k below) below → Among b (bindings_among (sites (inside (cs at) next k below) 0 (next + opens_one k below) below)) → In (next + opens_one k below) ((next + opens_one k below) + scope_count below) b.layer)
        → (Among b (bindings_among (sites cs (suc at) (next + scope_count (node k n below nothing)) rest)) → In (next + scope_count (node k n below nothing)) ((next + scope_count (node k n below nothing)) + scope_count rest) b.layer)
        → In next (next + scope_count (node k n below rest)) b.layer
    by (in_first g) inner later = absurd (silent_kind bs w (cs at) k n below (IsSilent bs w (inside (cs at) next k below) 0 (next + opens_one k below) below) s.0 (named (cs at) n k below b g).is_name)
    by (in_second g) inner later =
        let i = silent_below bs w (cs at) next k n below b (IsSilent bs w (inside (cs at) next k below) 0 (next + opens_one k below) below) (enclosed_here k n below rest e) (enclosed_below k n below rest e) s.0 inner g in
        record { from = i.from; to = Prim.omega (arith, i.to) }
    by (in_third g) inner later = let i = later g in record { from = Prim.omega (arith, i.from); to = Prim.omega (arith, i.to) }

-- ---- each change

pub unseen_statement : (a : Around) (n l : Note) (k : Kind) (inner : Forest) → is_enclosed (plug a (a_statement n l k inner)) ≡ true → At a (a_statement n l k inner) (SilentStatement (plug a (a_statement n l k inner)) (alone k l inner) (in_class_at a)) → IsUnseen a (a_statement n l k inner)
unseen_statement a n l k inner e h = unseen_there a x (SilentStatement v (alone k l inner) (in_class_at a)) h by
  where
    x : Option Tree
    x = a_statement n l k inner

    v : Forest
    v = plug a x

    by : (b : BindingSite) (w : Bool) (ds : ℕ → Context) (place next : ℕ) → SilentStatement v (alone k l inner) (in_class_at a) w (ds place) next → Among b (bindings_among (sites ds place next (one_place x))) → Fine v (scope_count (one_place x)) next b
    by b w ds place next s g = of_three (binding_in b (own_sites (ds place) n Kind.ExpressionStatement (alone k l inner)) (sites (inside (ds place) next Kind.ExpressionStatement (alone k l inner)) 0 (next + 0) (alone k l inner)) [] g)
      where
        of_three : InThree b (bindings_among (own_sites (ds place) n Kind.ExpressionStatement (alone k l inner))) (bindings_among (sites (inside (ds place) next Kind.ExpressionStatement (alone k l inner)) 0 (next + 0) (alone k l inner))) (bindings_among [])
            → Fine v (scope_count (one_place x)) next b
        of_three (in_first f) = absurd f
        of_three (in_second f) =
            let i = silent_inside (bindings_among (sites_of v)) (inside_of (in_class_at a) w) (inside (ds place) next Kind.ExpressionStatement (alone k l inner)) 0 (next + 0) (alone k l inner) (enclosed_there a Kind.ExpressionStatement n (alone k l inner) e).1 s b f in
            inl (record { from = Prim.omega (arith, i.from); to = Prim.omega (arith, i.to) })
        of_three (in_third f) = absurd f

-- a name that has this binding is unreferred where it is free
pub free_unreferred : (v : Forest) (b : BindingSite) (x : List ℕ) (l : Layer) → b.name ≡ x → b.layer ≡ l → IsFree v (named_in x l) → IsUnreferred v b
free_unreferred v b x l e g free r h k =
    let same : declared_by b ≡ named_in x l = ap (λ y. named_in y b.layer) e ∙ ap (named_in x) g in
    free.unreferred r h (k ∙ ap Some same)

pub unseen_function : (a : Around) (pure : Bool) (n m : Note) (x : List ℕ) (rest : Forest) → is_enclosed (plug a (a_function pure n m x rest)) ≡ true → At a (a_function pure n m x rest) (Free (plug a (a_function pure n m x rest)) variable.Let x) → IsUnseen a (a_function pure n m x rest)
unseen_function a pure n m x rest e h = unseen_there a y (Free v variable.Let x) h by
  where
    y : Option Tree
    y = a_function pure n m x rest

    v : Forest
    v = plug a y

    below : Forest
    below = node (Kind.BindingName x) m nothing rest

    by : (b : BindingSite) (w : Bool) (ds : ℕ → Context) (place next : ℕ) → Free v variable.Let x w (ds place) next → Among b (bindings_among (sites ds place next (one_place y))) → Fine v (scope_count (one_place y)) next b
    by b w ds place next free g =
        of_three (binding_in b (own_sites (ds place) n (Kind.Function function_kind.Declaration pure) below) (sites (inside (ds place) next (Kind.Function function_kind.Declaration pure) below) 0 (next + 1) below) [] g)
      where
        fs : ℕ → Context
        fs = inside (ds place) next (Kind.Function function_kind.Declaration pure) below

        of_part : InThree b (bindings_among (own_sites (fs 0) m (Kind.BindingName x) nothing)) (bindings_among []) (bindings_among (sites fs 1 (next + 1 + scope_count (node (Kind.BindingName x) m nothing nothing)) rest))
            → Fine v (scope_count (one_place y)) next b
        of_part (in_first (inl q)) = inr (free_unreferred v b x (ds place).block (ap (λ (s : BindingSite). s.name) (sym q)) (ap (λ (s : BindingSite). s.layer) (sym q)) free)
        of_part (in_first (inr q)) = absurd q
        of_part (in_second q) = absurd q
        of_part (in_third q) =
            let i = function_behind (ds place) next function_kind.Declaration pure (Kind.BindingName x) m nothing rest (enclosed_there a (Kind.Function function_kind.Declaration pure) n below e).0 b q in
            inl (record { from = i.from; to = Prim.omega (arith, i.to) })

        of_three : InThree b (bindings_among (own_sites (ds place) n (Kind.Function function_kind.Declaration pure) below)) (bindings_among (sites fs 0 (next + 1) below)) (bindings_among []) → Fine v (scope_count (one_place y)) next b
        of_three (in_first f) = absurd f
        of_three (in_second f) =
            of_part (binding_in b (own_sites (fs 0) m (Kind.BindingName x) nothing) [] (sites fs 1 (next + 1 + scope_count (node (Kind.BindingName x) m nothing nothing)) rest) f)
        of_three (in_third f) = absurd f

-- a declarator's name, and its value
module _ (v : Forest) (x : List ℕ) (m : Note) (value : Forest) (class w : Bool) (l : Note) (closed_value : is_enclosed value ≡ true) where
  abbrev declares_below : Forest
  declares_below = node (Kind.BindingName x) m nothing value

  pub declarator_fine : (cs : ℕ → Context) (place next : ℕ) → SilentDeclarator v declares_below class w (cs place) next → IsFree v (named_in x (cs place).declaring.layer)
      → (b : BindingSite) → Among b (bindings_among (sites cs place next (node Kind.VariableDeclarator l declares_below nothing))) → In next (next + scope_count value) b.layer ⊎ IsUnreferred v b
  declarator_fine cs place next silent free b g = of_three (binding_in b (own_sites (cs place) l Kind.VariableDeclarator declares_below) (sites (inside (cs place) next Kind.VariableDeclarator declares_below) 0 (next + 0) declares_below) [] g)
    where
      fs : ℕ → Context
      fs = inside (cs place) next Kind.VariableDeclarator declares_below

      of_part : InThree b (bindings_among (own_sites (fs 0) m (Kind.BindingName x) nothing)) (bindings_among []) (bindings_among (sites fs 1 (next + 0 + scope_count (node (Kind.BindingName x) m nothing nothing)) value)) → In next (next + scope_count value) b.layer ⊎ IsUnreferred v b
      of_part (in_first (inl q)) = inr (free_unreferred v b x (cs place).declaring.layer (ap (λ (s : BindingSite). s.name) (sym q)) (ap (λ (s : BindingSite). s.layer) (sym q)) free)
      of_part (in_first (inr q)) = absurd q
      of_part (in_second q) = absurd q
      of_part (in_third q) =
          let i = silent_inside (bindings_among (sites_of v)) (inside_of class w) fs 1 (next + 0 + scope_count (node (Kind.BindingName x) m nothing nothing)) value closed_value silent.1 b q in
          inl (record { from = Prim.omega (arith, i.from); to = Prim.omega (arith, i.to) })

      of_three : InThree b (bindings_among (own_sites (cs place) l Kind.VariableDeclarator declares_below)) (bindings_among (sites fs 0 (next + 0) declares_below)) (bindings_among []) → In next (next + scope_count value) b.layer ⊎ IsUnreferred v b
      of_three (in_first f) = absurd f
      of_three (in_second f) = of_part (binding_in b (own_sites (fs 0) m (Kind.BindingName x) nothing) [] (sites fs 1 (next + 0 + scope_count (node (Kind.BindingName x) m nothing nothing)) value) f)
      of_three (in_third f) = absurd f

pub unseen_declarator : (a : Around) (n m : Note) (x : List ℕ) (value : Forest) → is_enclosed (plug a (a_declarator n m x value)) ≡ true
    → At a (a_declarator n m x value) (SilentDeclarator (plug a (a_declarator n m x value)) (node (Kind.BindingName x) m nothing value) (in_class_at a)) → At a (a_declarator n m x value) (FreeDeclarator (plug a (a_declarator n m x value)) x) → IsUnseen a (a_declarator n m x value)
unseen_declarator a n m x value e h f =
    let y = a_declarator n m x value in
    let v = plug a y in
    let below = node (Kind.BindingName x) m nothing value in
    unseen_there a y (λ w c next. SilentDeclarator v below (in_class_at a) w c next × FreeDeclarator v x w c next) (both_at y (SilentDeclarator v below (in_class_at a)) (FreeDeclarator v x) false (λ at. outermost) 0 0 a h f)
    (λ b w ds place next both g.
    elim (declarator_fine v x m value (in_class_at a) w n (enclosed_rest (Kind.BindingName x) m nothing value (enclosed_there a Kind.VariableDeclarator n below e).1) ds place next both.0 both.1 b g) [
      | inl i ↦ inl (record { from = i.from; to = Prim.omega (arith, i.to) })
      | inr u ↦ inr u
    ])

pub layer_below : (c : Context) (how : VariableKind) → (in_variables c how).declaring.layer ≡ layer_of how c
layer_below c variable.Var = refl
layer_below c variable.Let = refl
layer_below c variable.Const = refl

pub unseen_declaration : (a : Around) (how : VariableKind) (n m l j : Note) (x : List ℕ) (value : Forest) → is_enclosed (plug a (a_declaration how n m l j x value)) ≡ true
    → At a (a_declaration how n m l j x value) (SilentDeclaration (plug a (a_declaration how n m l j x value)) how m l (node (Kind.BindingName x) j nothing value) (in_class_at a))
    → At a (a_declaration how n m l j x value) (Free (plug a (a_declaration how n m l j x value)) how x) → IsUnseen a (a_declaration how n m l j x value)
unseen_declaration a how n m l j x value e h f =
    unseen_there a y (λ w c next. SilentDeclaration v how m l below (in_class_at a) w c next × Free v how x w c next) (both_at y (SilentDeclaration v how m l below (in_class_at a)) (Free v how x) false (λ at. outermost) 0 0 a h f) by
  where
    y : Option Tree
    y = a_declaration how n m l j x value

    v : Forest
    v = plug a y

    below : Forest
    below = node (Kind.BindingName x) j nothing value

    ds : Forest
    ds = node Kind.VariableDeclarator l below nothing

    whole : Forest
    whole = one_declarator m l below

    closed_value : is_enclosed value ≡ true
    closed_value =
        let all = (enclosed_there a (Kind.VariableDeclaration how) n whole e).1 in
        enclosed_rest (Kind.BindingName x) j nothing value (enclosed_below Kind.VariableDeclarator l below nothing (enclosed_below Kind.Declarators m ds nothing all))

    by : (b : BindingSite) (w : Bool) (cs : ℕ → Context) (place next : ℕ) → SilentDeclaration v how m l below (in_class_at a) w (cs place) next × Free v how x w (cs place) next → Among b (bindings_among (sites cs place next (one_place y))) → Fine v (scope_count (one_place y)) next b
    by b w cs place next both g = of_outer (binding_in b (own_sites (cs place) n (Kind.VariableDeclaration how) whole) (sites (inside (cs place) next (Kind.VariableDeclaration how) whole) 0 (next + 0) whole) [] g)
      where
        outer : ℕ → Context
        outer = inside (cs place) next (Kind.VariableDeclaration how) whole

        list : ℕ → Context
        list = inside (outer 0) (next + 0) Kind.Declarators ds

        of_inner : InThree b (bindings_among (own_sites (outer 0) m Kind.Declarators ds)) (bindings_among (sites list 0 (next + 0 + 0) ds)) (bindings_among []) → Fine v (scope_count (one_place y)) next b
        of_inner (in_first q) = absurd q
        of_inner (in_second q) =
            elim (declarator_fine v x j value (in_class_at a) w l closed_value list 0 (next + 0 + 0) both.0 (subst (λ r. IsFree v (named_in x r)) (sym (layer_below (cs place) how)) both.1) b q) [
              | inl i ↦ inl (record { from = Prim.omega (arith, i.from); to = Prim.omega (arith, i.to) })
              | inr u ↦ inr u
            ]
        of_inner (in_third q) = absurd q

        of_outer : InThree b (bindings_among (own_sites (cs place) n (Kind.VariableDeclaration how) whole)) (bindings_among (sites outer 0 (next + 0) whole)) (bindings_among []) → Fine v (scope_count (one_place y)) next b
        of_outer (in_first q) = absurd q
        of_outer (in_second q) = of_inner (binding_in b (own_sites (outer 0) m Kind.Declarators ds) (sites list 0 (next + 0 + 0) ds) [] q)
        of_outer (in_third q) = absurd q
